-- What is read leaves the code as it was.
use Rattle.std.proofs.Common.{◌≡◌, Ok}
use Rattle.swc_ecma_parser_error.specs.Kind.{Kind}
use Rattle.swc_ecma_parser_model.specs.declared.leaves.Ident.{Ident}
use Rattle.swc_ecma_parser_reader.specs.State.{State, name}
use Rattle.swc_ecma_parser_reader.proofs.Between.{SoundStep}
use Rattle.swc_ecma_parser_reader.proofs.Meets.{Refuses, meant}
use Rattle.swc_ecma_parser_reader.proofs.expressions.SoundSteps.{FreeWord, name_sound}

pub name_code : (k : Kind) (s : State) (i : Ident) (t : State) → name k s ≡ Ok (i, t) → t.code ≡ s.code
name_code k s i t e = let p : SoundStep (FreeWord i) s t = meant (λ j u. SoundStep (FreeWord j) s u) Refuses (name k s) (Ok (i, t)) e (name_sound k s) in p.code
