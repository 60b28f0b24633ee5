-- What a node holds is smaller than it, and so is what is left of a chain.
use Rattle.std.proofs.Common.{rules, ◌≡◌, ◌+◌, ◌*◌, ◌≤◌, ◌∙◌, sym, ap, arith}
use Rattle.std.specs.declared.alloc.Global.{Global}
use Rattle.std.specs.declared.vec.Vec.{Vec}
use denote.Struct.Field.{RawPtr-field}
use Rattle.swc_ecma_parser_model.specs.Size.{tree_size}
use Rattle.swc_ecma_parser_model.specs.Held.{Held}
use Rattle.swc_ecma_parser_ast.specs.Nodes.{view_any}
use Rattle.swc_ecma_parser_ast.specs.Falls.{le_any}
use Rattle.swc_ecma_parser_ast.specs.declared.call.OptChainBase.{OptChainBase}
use Rattle.swc_ecma_parser_ast.specs.declared.call.OptChainBase.TheVariants as n
use Rattle.swc_ecma_parser_ast.specs.declared.call.OptChainExpr.{OptChainExpr}
use Rattle.swc_ecma_parser_ast.specs.declared.expr.Expr.{Expr}
use Rattle.swc_ecma_parser_ast.specs.declared.expr.Expr.TheVariants as e
use Rattle.swc_ecma_parser_ast.specs.declared.pat.Pat.{Pat}
use Rattle.swc_ecma_parser_ast.specs.declared.stmt.Stmt.{Stmt}
use Rattle.swc_ecma_parser_ast.specs.declared.node.Any.{Any}
use Rattle.swc_ecma_parser_ast.specs.declared.node.Any.TheVariants as a
use Rattle.swc_ecma_parser_ast.specs.declared.node.Node.{Node}
use Rattle.swc_ecma_parser_ast.specs.declared.node.Node.TheShapes.{weighed-Any-Expr-0, weighed-Any-Pat-0, weighed-Any-Stmt-0, weighed-Any-Stmts-0}
use Rattle.swc_ecma_parser_ast.specs.declared.node.Node.TheView as node
use Rattle.swc_ecma_parser_ast.proofs.Measured.{doubled}
use Rattle.swc_ecma_parser_ast.proofs.node.Node.+ast.Goals as goal

-- how large a node is that holds this
sized : (x y : Any) (s : Held) → x ≡ y → view_any x ≡ s → tree_size (view_any y).tree ≡ tree_size s.tree
sized x y s p q = ap (λ z. tree_size (view_any z).tree) (sym p) ∙ ap (λ h. tree_size h.tree) q

-- how large it is where what it held is known
taken : {A : Type 0} (f : A → Any) (x : Any) (v w : A) (s : Held) → x ≡ f w → view_any x ≡ s → v ≡ w → tree_size (view_any (f v)).tree ≡ tree_size s.tree
taken f x v w s p q r = ap (λ u. tree_size (view_any (f u)).tree) r ∙ sized x (f w) s p q

-- what a node holds, by where it lies
abbrev expr_at : RawPtr-field.Value → Global → Expr Node → Any
expr_at p g v = a.Expr (record { ptr = p; alloc = g; value = v })

abbrev pat_at : RawPtr-field.Value → Global → Pat Node → Any
pat_at p g v = a.Pat (record { ptr = p; alloc = g; value = v })

abbrev stmt_at : RawPtr-field.Value → Global → Stmt Node → Any
stmt_at p g v = a.Stmt (record { ptr = p; alloc = g; value = v })

abbrev stmts_at : RawPtr-field.Value → Global → Vec (Stmt Node) Global → Any
stmts_at p g v = a.Stmts (record { ptr = p; alloc = g; value = v })

-- a link of an optional chain, by its base
abbrev link_at : OptChainExpr Node → OptChainBase Node → Expr Node
link_at x b = e.OptChain (record { span = x.span; optional = x.optional; base = record { ptr = x.base.ptr; alloc = x.base.alloc; value = b } })

-- the nodes within are smaller
within_expr : (p : _) (g : Global) (v : Expr Node)
    → weighed-Any-Expr-0.weight Node (λ y. 2 * (node.size y + 1) + 0) (record { ptr = p; alloc = g; value = v }) ≤ 2 * tree_size (view_any (expr_at p g v)).tree
within_expr p g v = omega (arith, doubled weighed-Any-Expr-0 (λ y. node.size y + 1) (record { ptr = p; alloc = g; value = v }), le_any (expr_at p g v))

within_pat : (p : _) (g : Global) (v : Pat Node)
    → weighed-Any-Pat-0.weight Node (λ y. 2 * (node.size y + 1) + 0) (record { ptr = p; alloc = g; value = v }) ≤ 2 * tree_size (view_any (pat_at p g v)).tree
within_pat p g v = omega (arith, doubled weighed-Any-Pat-0 (λ y. node.size y + 1) (record { ptr = p; alloc = g; value = v }), le_any (pat_at p g v))

within_stmt : (p : _) (g : Global) (v : Stmt Node)
    → weighed-Any-Stmt-0.weight Node (λ y. 2 * (node.size y + 1) + 0) (record { ptr = p; alloc = g; value = v }) ≤ 2 * tree_size (view_any (stmt_at p g v)).tree
within_stmt p g v = omega (arith, doubled weighed-Any-Stmt-0 (λ y. node.size y + 1) (record { ptr = p; alloc = g; value = v }), le_any (stmt_at p g v))

within_stmts : (p : _) (g : Global) (v : Vec (Stmt Node) Global)
    → weighed-Any-Stmts-0.weight Node (λ y. 2 * (node.size y + 1) + 0) (record { ptr = p; alloc = g; value = v }) ≤ 2 * tree_size (view_any (stmts_at p g v)).tree
within_stmts p g v = omega (arith, doubled weighed-Any-Stmts-0 (λ y. node.size y + 1) (record { ptr = p; alloc = g; value = v }), le_any (stmts_at p g v))

pub discard_args-requires : goal.discard_args-requires
discard_args-requires t c κs =
    let at = expr_at c.in-Expr.expr.ptr c.in-Expr.expr.alloc in
    let h = taken at _ _ _ _ c.in-Expr.is c.self.view_is (sym c.in-Call.is ∙ c.into_inner.ensures) in
    let i = within_expr c.in-Expr.expr.ptr c.in-Expr.expr.alloc (e.Call c.in-Call.call) in
    (((omega (arith, h, i, c.loop-expr.invariant, c.decreases), tt), tt), search rules)

pub discard_tpl-requires : goal.discard_tpl-requires
discard_tpl-requires t c κs =
    let at = expr_at c.in-Expr.expr.ptr c.in-Expr.expr.alloc in
    let h = taken at _ _ _ _ c.in-Expr.is c.self.view_is (sym c.in-TaggedTpl.is ∙ c.into_inner.ensures) in
    let i = within_expr c.in-Expr.expr.ptr c.in-Expr.expr.alloc (e.TaggedTpl c.in-TaggedTpl.tagged) in
    (((omega (arith, h, i, c.loop-expr.invariant, c.decreases), tt), tt), search rules)

pub discard_args-requires-in-Call-into_inner : goal.discard_args-requires-in-Call-into_inner
discard_args-requires-in-Call-into_inner t c κs =
    let at = expr_at c.in-Expr.expr.ptr c.in-Expr.expr.alloc in
    let link = link_at c.in-OptChain.link in
    let same_base = ap link (sym c.in-Call-into_inner.is ∙ c.into_inner-in-OptChain.ensures) in
    let h = taken at _ _ _ _ c.in-Expr.is c.self.view_is (same_base ∙ sym c.in-OptChain.is ∙ c.into_inner.ensures) in
    let i = within_expr c.in-Expr.expr.ptr c.in-Expr.expr.alloc (link (n.Call c.in-Call-into_inner.call)) in
    (((omega (arith, h, i, c.loop-expr.invariant, c.decreases), tt), tt), search rules)

pub discard-requires : goal.discard-requires
discard-requires t c κs =
    let at = expr_at c.in-Expr.expr.ptr c.in-Expr.expr.alloc in
    let h = taken at _ _ _ _ c.in-Expr.is c.self.view_is c.into_inner.ensures in
    let i = within_expr c.in-Expr.expr.ptr c.in-Expr.expr.alloc c.into_inner.result in
    (((omega (arith, h, i, c.loop-expr.invariant, c.decreases), tt), tt), search rules)

pub discard-requires-in-Pat : goal.discard-requires-in-Pat
discard-requires-in-Pat t c κs =
    let at = pat_at c.in-Pat.pat.ptr c.in-Pat.pat.alloc in
    let h = taken at _ _ _ _ c.in-Pat.is c.self.view_is c.into_inner-in-Pat.ensures in
    let i = within_pat c.in-Pat.pat.ptr c.in-Pat.pat.alloc c.into_inner-in-Pat.result in
    (((omega (arith, h, i, c.loop-expr.invariant, c.decreases), tt), tt), search rules)

pub discard-requires-in_default-into_inner : goal.discard-requires-in_default-into_inner
discard-requires-in_default-into_inner t c κs =
    let at = stmt_at c.in-Stmt.stmt.ptr c.in-Stmt.stmt.alloc in
    let h = taken at _ _ _ _ c.in-Stmt.is c.self.view_is c.into_inner-in-Stmt.ensures in
    let i = within_stmt c.in-Stmt.stmt.ptr c.in-Stmt.stmt.alloc c.into_inner-in-Stmt.result in
    (((omega (arith, h, i, c.loop-expr.invariant, c.decreases), tt), tt), search rules)

pub discard_stmts-requires : goal.discard_stmts-requires
discard_stmts-requires t c κs =
    let at = stmts_at c.in-Stmts.stmts.ptr c.in-Stmts.stmts.alloc in
    let h = taken at _ _ _ _ c.in-Stmts.is c.self.view_is c.into_inner-in-Stmts.ensures in
    let i = within_stmts c.in-Stmts.stmts.ptr c.in-Stmts.stmts.alloc c.into_inner-in-Stmts.result in
    (((omega (arith, h, i, c.loop-expr.invariant, c.decreases), tt), tt), search rules)
