use Rattle.std.proofs.Common.{sym, ◌∙◌}
use Rattle.std.proofs.lemmas.Result.{err_from_is_err_and}
use Rattle.swc_ecma_parser_reader.proofs.decorators.Loops.{chain_access_err, chain_call_err}
use Rattle.swc_ecma_parser_reader.proofs.expressions.Loops.{accessed_shorter, called_shorter}
use Rattle.swc_ecma_parser_operators.proofs.decorator.chain_from.Goals as goal

pub returns-in_err-x : goal.returns-in_err-x
returns-in_err-x g c =
    let p = err_from_is_err_and c.from_residual.result c.from_residual.ensures.1 in
    rw (p.1, p.2) (λ h. c.chain.invariant ∙ chain_access_err (g.G.Readers.depth c.args.g.now) c.args.start (g.T.Trees.expr_of c.chain.x) (g.P.Cursor.seen c.chain.p) _
    (sym c.begins_access.ensures ∙ c.if-begins_access.true) (c.in_err-x.ensures h))

pub returns-in_err-x-2 : goal.returns-in_err-x-2
returns-in_err-x-2 g c =
    let p = err_from_is_err_and c.from_residual-in_err-x-2.result c.from_residual-in_err-x-2.ensures.1 in
    rw (p.1, p.2) (λ h. c.chain.invariant ∙ chain_call_err (g.G.Readers.depth c.args.g.now) c.args.start (g.T.Trees.expr_of c.chain.x) (g.P.Cursor.seen c.chain.p) _
    (sym c.begins_access.ensures ∙ c.if-begins_access.false) (sym c.begins_arguments.ensures ∙ c.if-begins_arguments.true) (c.in_err-x-2.ensures h))

pub chain-smaller-then-begins_access : goal.chain-smaller-then-begins_access
chain-smaller-then-begins_access g c = accessed_shorter (g.G.Readers.depth c.args.g.now) c.args.start (g.T.Trees.expr_of c.chain.x) (g.P.Cursor.seen c.chain.p) _ (g.P.Cursor.seen c.accessed.new.p) c.in_ok-x.ensures

pub chain-smaller : goal.chain-smaller
chain-smaller g c = called_shorter (g.G.Readers.depth c.args.g.now) c.args.start (g.T.Trees.expr_of c.chain.x) (g.P.Cursor.seen c.chain.p) _ (g.P.Cursor.seen c.called.new.p)
    (sym c.begins_arguments.ensures ∙ c.if-begins_arguments.true) c.in_ok-x-2.ensures
