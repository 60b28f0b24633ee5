use Rattle.std.proofs.Common.{sym, ap, ◌∙◌}
use Rattle.swc_ecma_parser_reader.specs.Reader.{operators}
use Rattle.swc_ecma_parser_reader.proofs.Keeps.{operators_keep}
use Rattle.swc_ecma_parser_reader.proofs.Recovered.{answered_module}
use Rattle.swc_ecma_parser_statements.proofs.statement_end.stmt_end.Goals as goal

-- what is read behind the fault leaves the code a module's or not
pub set_flags-requires-2 : goal.set_flags-requires-2
set_flags-requires-2 g c =
    sym (answered_module (operators (g.G.Readers.depth c.args.g.now) c.args.start (g.T.Trees.expr_of c.args.x)) _ _ (operators_keep (g.G.Readers.depth c.args.g.now) c.args.start (g.T.Trees.expr_of c.args.x)) _ c.in_ok-whole.ensures
    ∙ ap (λ s. s.code.flags.«module») c.set_flags.ensures ∙ ap (λ f. f.«module») c.with_in.ensures)
