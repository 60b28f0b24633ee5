use Rattle.ecma_faults_json.proofs.Lines.{faults_read_back}
use Rattle.ecma_faults_json.proofs.faults_read_back.Goals as goal

pub returns : goal.returns
returns c = faults_read_back
