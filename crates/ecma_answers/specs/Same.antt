-- Two readings of one text with one setting.
use Rattle.std.specs.Prelude.{◌≡◌, ℕ, List}
use Rattle.swc_ecma_parser_error.specs.Kind.{faults_of}
use Rattle.swc_ecma_parser.specs.Same as parser
use Rattle.ecma_answers.specs.declared.options.Goal.{Goal}
use Rattle.ecma_answers.specs.declared.options.Goal.TheVariants as goal
use Rattle.ecma_answers.specs.declared.options.Options.{Options}
use Rattle.ecma_answers.specs.declared.findings.Findings.{Findings}
use Rattle.ecma_answers.specs.declared.parsing.Reading.{Reading}
use Rattle.ecma_answers.specs.Found.{Finds}
use Rattle.ecma_answers.specs.Outcomes.{outcome_of}
use Rattle.ecma_answers.specs.Spelled.{Decides, view_tree}

-- the same tree with the same faults, or the same refusal; a fault by its kind and its span
abbrev pub AreSame : Reading → Reading → Type 0
AreSame r q = parser.IsSame view_tree r.tree (faults_of r.faults.items) q.tree (faults_of q.faults.items)

-- all goals but a program, of which the faults of a `with` that were held back are known by where they begin
abbrev pub IsSettledIn : Goal → Type 0
IsSettledIn goal.Script = Unit {0}
IsSettledIn goal.Module = Unit {0}
IsSettledIn goal.Auto = Unit {0}
IsSettledIn goal.Program = ⊥

abbrev pub IsSettled : Options → Type 0
IsSettled o = IsSettledIn o.goal

-- two readings are the same
abbrev pub OneReading : Type 0
OneReading = (o : Options) (text : List ℕ) (r q : Reading) → IsSettled o → Decides o text r → Decides o text q → AreSame r q

-- where the same is read, the same early errors are found
abbrev pub OneFinding : Type 0
OneFinding =
    (o : Options) (text : List ℕ) (f g : Findings) → IsSettled o → Finds o text f → Finds o text g
    → f.early.items ≡ g.early.items

-- and it comes out in the same way: so a text is too deep for all calls or for none
abbrev pub OneOutcome : Type 0
OneOutcome =
    (o : Options) (text : List ℕ) (f g : Findings) → IsSettled o → Finds o text f → Finds o text g
    → outcome_of f.reading.tree f.reading.faults.items f.early.items ≡ outcome_of g.reading.tree g.reading.faults.items g.early.items
