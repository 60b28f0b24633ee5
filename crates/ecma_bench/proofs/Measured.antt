-- What figures say of a text.
use Rattle.std.proofs.Common.{ℕ, List, length, Result, Ok, Err, sym, subst}
use Rattle.std.specs.Prelude.{IsOk, IfOk, ◌≤◌}
use Rattle.swc_ecma_parser_model.specs.Held.{Held}
use Rattle.swc_ecma_parser_model.specs.Tree.{Tree}
use Rattle.swc_ecma_parser_ast.specs.declared.program.Program.{Program}
use Rattle.swc_ecma_parser_ast.specs.View.{view_program}
use Rattle.ecma_bench.specs.declared.fault.Fault.{Fault}
use Rattle.ecma_bench.specs.declared.report.Report.{Report}
use Rattle.ecma_bench.specs.Figures as figures

-- where there was an answer, there is a tree of its text
pub some_tree : (P : Tree → Type 0) (answer : Result (Program Held) Fault) → IfOk answer (λ y. P (view_program y)) → IsOk answer → (x : Tree) × P x
some_tree P (Ok y) h k = (view_program y, h)
some_tree P (Err f) h k = cc

-- the text of the figures
pub some_text : {E : Type 0} (r : Result Report E) (text : List ℕ) → IfOk r (figures.Tells text) → IfOk r (λ report. (given : List ℕ) × figures.Tells given report)
some_text (Ok report) text h = (text, h)
some_text (Err e) text h = tt

-- the bytes of the figures
pub enough : {E : Type 0} (r : Result Report E) (text : List ℕ) (least : ℕ) → IfOk r (figures.Tells text) → least ≤ length text → IfOk r (λ report. least ≤ report.bytes)
enough (Ok report) text least h k = subst (λ n. least ≤ n) (sym h.bytes) k
enough (Err e) text least h k = tt
