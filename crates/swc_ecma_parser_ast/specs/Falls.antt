-- Each node within a node is smaller than it.
use Rattle.std.specs.Prelude.{ℕ, Bool, true, false, ◌≤◌, ◌+◌, List, [], ◌∷◌, max, map, Option, Some, None}
use Rattle.std.specs.declared.alloc.Global.{Global}
use Rattle.std.specs.declared.boxed.Box.{Box}
use Rattle.std.proofs.Common.{arith}
use denote.Param.Weighed.{most}
use denote.Struct.Field.{RawPtr-field}
use Rattle.swc_ecma_parser_common.specs.declared.span.Span.{Span}
use Rattle.swc_ecma_parser_model.specs.Tree.{Tree, trees}
use Rattle.swc_ecma_parser_model.specs.Held.{Held}
use Rattle.swc_ecma_parser_model.specs.Size.{tree_size, trees_size}
use Rattle.swc_ecma_parser_ast.specs.View.{view_decorator, view_param, view_class_member, view_param_or_ts_param_prop, view_expr, view_pat, view_object_pat_prop, view_stmt, view_switch_case, view_declarator, view_expr_or_spread, view_prop_or_spread}
use Rattle.swc_ecma_parser_ast.specs.Parts.{view_option, marked}
use Rattle.swc_ecma_parser_model.specs.Kinds.{is_expr}
use Rattle.swc_ecma_parser_ast.specs.Nodes.{view_any}
use Rattle.swc_ecma_parser_ast.specs.declared.expr.Expr.{Expr}
use Rattle.swc_ecma_parser_ast.specs.declared.expr.Expr.TheVariants as e
use Rattle.swc_ecma_parser_ast.specs.declared.call.Callee.{Callee}
use Rattle.swc_ecma_parser_ast.specs.declared.call.Callee.TheVariants as c
use Rattle.swc_ecma_parser_ast.specs.declared.call.OptChainBase.{OptChainBase}
use Rattle.swc_ecma_parser_ast.specs.declared.call.OptChainBase.TheVariants as n
use Rattle.swc_ecma_parser_ast.specs.declared.pat.Pat.{Pat}
use Rattle.swc_ecma_parser_ast.specs.declared.pat.Pat.TheVariants as v
use Rattle.swc_ecma_parser_model.specs.declared.operators.AssignOp.{AssignOp}
use Rattle.swc_ecma_parser_ast.specs.declared.target.AssignTarget.{AssignTarget}
use Rattle.swc_ecma_parser_ast.specs.declared.target.AssignTarget.TheVariants as t
use Rattle.swc_ecma_parser_ast.specs.declared.target.AssignTargetPat.TheVariants as u
use Rattle.swc_ecma_parser_ast.specs.declared.decl.Decl.TheVariants as d
use Rattle.swc_ecma_parser_ast.specs.declared.decl.VarDeclarator.{VarDeclarator}
use Rattle.swc_ecma_parser_ast.specs.declared.stmt.Stmt.TheVariants as m
use Rattle.swc_ecma_parser_ast.specs.declared.stmt.Stmt.{Stmt}
use Rattle.swc_ecma_parser_ast.specs.declared.stmt.BlockStmt.{BlockStmt}
use Rattle.swc_ecma_parser_ast.specs.declared.branch.CatchClause.{CatchClause}
use Rattle.swc_ecma_parser_ast.specs.declared.loops.VarDeclOrExpr.{VarDeclOrExpr}
use Rattle.swc_ecma_parser_ast.specs.declared.loops.VarDeclOrExpr.TheVariants as i
use Rattle.swc_ecma_parser_ast.specs.declared.loops.ForHead.{ForHead}
use Rattle.swc_ecma_parser_ast.specs.declared.loops.ForHead.TheVariants as h
use Rattle.swc_ecma_parser_ast.specs.declared.node.StmtBox.{StmtBox}
use denote.RawPtr.{null_ptr}
use Rattle.swc_ecma_parser_ast.specs.declared.node.Any.{Any}
use Rattle.swc_ecma_parser_ast.specs.declared.node.Any.TheVariants as a
use Rattle.swc_ecma_parser_ast.specs.declared.node.ExprBox.{ExprBox}
use Rattle.swc_ecma_parser_ast.specs.declared.template.Tpl.{Tpl}
use Rattle.swc_ecma_parser_model.specs.declared.leaves.Ident.{Ident}
use Rattle.swc_ecma_parser_ast.specs.declared.function.Param.{Param}
use Rattle.swc_ecma_parser_ast.specs.declared.function.Function.{Function}
use Rattle.swc_ecma_parser_ast.specs.declared.function.BlockStmtOrExpr.{BlockStmtOrExpr}
use Rattle.swc_ecma_parser_ast.specs.declared.function.BlockStmtOrExpr.TheVariants as o
use Rattle.swc_ecma_parser_ast.specs.declared.class.Class.{Class}
use Rattle.swc_ecma_parser_ast.specs.declared.class.ClassMember.TheVariants as k
use Rattle.swc_ecma_parser_ast.specs.declared.class.ParamOrTsParamProp.TheVariants as w
use Rattle.swc_ecma_parser_ast.specs.declared.object.PropOrSpread.{PropOrSpread}
use Rattle.swc_ecma_parser_ast.specs.declared.object.PropOrSpread.TheVariants as q
use Rattle.swc_ecma_parser_ast.specs.declared.object.Prop.{Prop}
use Rattle.swc_ecma_parser_ast.specs.declared.object.SpreadElement.{SpreadElement}
use Rattle.swc_ecma_parser_ast.specs.declared.object.Prop.TheVariants as r
use Rattle.swc_ecma_parser_ast.specs.declared.node.Node.{Node}
use Rattle.swc_ecma_parser_ast.specs.declared.node.Node.TheDeep.{deep-Any}

-- what bounds each element bounds the largest of them
below : {X : Type 0} {W : X → ℕ} {n : ℕ} (f : X → Tree) → ((x : X) → W x ≤ tree_size (f x) + 1) → (xs : List X) → trees_size (trees (map f xs)) ≤ n → most W xs ≤ n
below f h [] r = omega arith
below f h (x ∷ xs) r = omega (arith, h x, below {n = trees_size (trees (map f xs))} f h xs (omega arith))

-- the largest of parts, the last of which has been reached
last : {m n : ℕ} → m ≤ n → max m 0 ≤ n
last h = omega arith

past : {m n : ℕ} → m ≤ n → max 0 m ≤ n
past h = omega arith

both : {l m n : ℕ} → l ≤ n → m ≤ n → max l m ≤ n
both h k = omega (arith, h, k)

-- what is marked is no smaller
pub marked_size : (b : Bool) (t : Tree) → tree_size t ≤ tree_size (marked b t)
marked_size true t = omega arith
marked_size false t = omega arith

-- a value in a box of its own
abbrev boxed : {A : Type 0} → RawPtr-field.Value → Global → A → Box A Global
boxed p g v = record { ptr = p; alloc = g; value = v }

-- what lies in an expression is smaller than it, whatever its box is made of
abbrev Fits : RawPtr-field.Value → Global → Expr Node → Type 0
Fits p g x = max (deep-Any (a.Expr (record { ptr = p; alloc = g; value = x }))) 0 ≤ tree_size (view_expr x)

-- what lies in a pattern is smaller than it
le_pat : (p : _) (g : Global) (x : Pat Node) → max (deep-Any (a.Pat (record { ptr = p; alloc = g; value = x }))) 0 ≤ tree_size (view_pat x)
le_pat p g (v.Ident x) = omega arith
le_pat p g (v.Array x) = last (last (last (past (last (below (view_option (λ b. b.node.tree)) (elim [ None ↦ omega arith | Some y ↦ omega arith ]) x.elems.items (omega arith))))))
le_pat p g (v.Rest x) = omega arith
le_pat p g (v.Object x) = last (last (last (past (last (below view_object_pat_prop (λ y. Prim.grind arith) x.props.items (omega arith))))))
le_pat p g (v.Assign x) = omega arith
le_pat p g (v.Invalid x) = omega arith
le_pat p g (v.Expr x) = omega (arith, marked_size (is_expr x.node.tree) x.node.tree)

-- what lies in a part is no more than in the same part in a box of its own
within : {l m n : ℕ} → max (max m 0) 0 ≤ l → l ≤ n → m ≤ n
within h k = omega (arith, h, k)

pat_within : (g : Global) (x : Pat Node) → max (deep-Any (a.Pat (record { ptr = null_ptr; alloc = g; value = x }))) 0 ≤ tree_size (view_pat x)
pat_within g x = le_pat null_ptr g x

-- a parameter, by its parts
each_param : (P : Param Held → Type 0)
    → ((s : Span) (ds : _) (q : Pat Held) → P (record { span = s; decorators = ds; pat = q }))
    → (x : Param Held) → P x
each_param P h x = h x.span x.decorators x.pat

le_fn : (p : _) (g : Global) (s : Span) (o : Option Ident) (f : Box (Function Node) Global) → Fits p g (e.Fn (record { span = s; ident = o; function = f }))
le_fn p g s o f = last (last (last (past (past (last (past (both (below view_decorator (λ y. omega arith) f.value.decorators.items (omega arith)) (both
    (below view_param (each_param _ (λ s ds q. past (both (below view_decorator (λ y. omega arith) ds.items (omega arith)) (last (within (pat_within g q) (omega arith)))))) f.value.params.items (omega arith))
    (Prim.grind arith)))))))))

-- what lies in a part is no more than in the same part as an expression
within_expr : {l m n : ℕ} → max (max (max (max 0 (max 0 (max m 0))) 0) 0) 0 ≤ l → l ≤ n → m ≤ n
within_expr h k = omega (arith, h, k)

fn_within : (g : Global) (f : Box (Function Node) Global) → Fits null_ptr g (e.Fn (record { span = f.value.span; ident = None; function = f }))
fn_within g f = le_fn null_ptr g f.value.span None f

le_class : (p : _) (g : Global) (s : Span) (o : Option Ident) (c : Box (Class Node) Global) → Fits p g (e.Class (record { span = s; ident = o; class = c }))
le_class p g s o c = last (last (last (past (past (last (past (both (below view_decorator (λ y. omega arith) c.value.decorators.items (omega arith)) (both (below view_class_member (elim [
  | k.Constructor y ↦ last (past (both (Prim.grind arith) (both (below view_param_or_ts_param_prop (elim [ w.Param z ↦ last (past (both (below view_decorator (λ y. omega arith) z.decorators.items (omega arith)) (last (within (pat_within g z.pat) (omega arith))))) ]) y.value.params.items (omega arith)) (Prim.grind arith))))
  | k.Method y ↦ last (past (both (Prim.grind arith) (both (within_expr (fn_within g y.value.function) (omega arith)) (omega arith))))
  | k.PrivateMethod y ↦ last (past (past (both (within_expr (fn_within g y.value.function) (omega arith)) (omega arith))))
  | k.ClassProp y ↦ last (past (both (Prim.grind arith) (both (Prim.grind arith) (past (last (below view_decorator (λ y. omega arith) y.value.decorators.items (omega arith)))))))
  | k.PrivateProp y ↦ last (past (past (both (Prim.grind arith) (past (last (below view_decorator (λ y. omega arith) y.value.decorators.items (omega arith)))))))
  | k.Empty y ↦ omega arith
  | k.StaticBlock y ↦ omega arith
  | k.AutoAccessor y ↦ last (past (both (Prim.grind arith) (both (Prim.grind arith) (past (last (below view_decorator (λ y. omega arith) y.value.decorators.items (omega arith)))))))
]) c.value.body.items (omega arith)) (Prim.grind arith)))))))))

class_within : (g : Global) (c : Box (Class Node) Global) → Fits null_ptr g (e.Class (record { span = c.value.span; ident = None; class = c }))
class_within g c = le_class null_ptr g c.value.span None c

le_arrow : (p : _) (g : Global) (s : Span) (xs : _) (b : BlockStmtOrExpr Node) (w : Bool) → Fits p g (e.Arrow (record { span = s; params = xs; body = b; is_async = w }))
le_arrow p g s xs (o.BlockStmt b) w = last (last (last (past (both (below view_pat (λ y. within (pat_within g y) (omega arith)) xs.items (omega arith)) (omega arith)))))
le_arrow p g s xs (o.Expr b) w = last (last (last (past (both (below view_pat (λ y. within (pat_within g y) (omega arith)) xs.items (omega arith)) (omega (arith, marked_size (is_expr b.node.tree) b.node.tree))))))

le_call : (p : _) (g : Global) (s : Span) (c : Callee Node) (xs : _) → Fits p g (e.Call (record { span = s; callee = c; args = xs }))
le_call p g s (c.Super y) xs = last (last (last (past (past (last (below view_expr_or_spread (λ y. omega arith) xs.items (omega arith)))))))
le_call p g s (c.Import y) xs = last (last (last (past (past (last (below view_expr_or_spread (λ y. omega arith) xs.items (omega arith)))))))
le_call p g s (c.Expr b) xs = last (last (last (past (both (omega (arith, marked_size (is_expr b.node.tree) b.node.tree)) (last (below view_expr_or_spread (λ y. omega arith) xs.items (omega arith)))))))

le_new : (p : _) (g : Global) (s : Span) (b : ExprBox Node) (o : _) → Fits p g (e.New (record { span = s; callee = b; args = o }))
le_new p g s b None = omega arith
le_new p g s b (Some xs) = last (last (last (past (both (omega arith) (last (last (below view_expr_or_spread (λ y. omega arith) xs.items (omega arith))))))))

le_opt_chain : (p : _) (g : Global) (s : Span) (o : Bool) (q : _) (h : Global) (b : OptChainBase Node)
    → Fits p g (e.OptChain (record { span = s; optional = o; base = boxed q h b }))
le_opt_chain p g s o q h (n.Member x) = Prim.grind arith
le_opt_chain p g s o q h (n.Call x) =
    last (last (last (past (past (last (last (past (both (omega (arith, marked_size (is_expr x.callee.node.tree) x.callee.node.tree)) (last (below view_expr_or_spread (λ y. omega arith) x.args.items (omega arith)))))))))))

le_tpl : (p : _) (g : Global) (x : Tpl Node) → Fits p g (e.Tpl x)
le_tpl p g x = last (last (last (past (both (below (λ b. b.node.tree) (λ y. omega arith) x.exprs.items (omega arith)) (omega arith)))))

le_tagged : (p : _) (g : Global) (s : Span) (b : ExprBox Node) (q : _) (h : Global) (t : Tpl Node)
    → Fits p g (e.TaggedTpl (record { span = s; tag = b; tpl = boxed q h t }))
le_tagged p g s b q h t =
    last (last (last (past (both (omega arith) (last (past (both (below (λ b. b.node.tree) (λ y. omega arith) t.exprs.items (omega arith)) (omega arith))))))))

le_assign : (p : _) (g : Global) (s : Span) (o : AssignOp) (q : _) (h : Global) (t : AssignTarget Node) (r : ExprBox Node)
    → Fits p g (e.Assign (record { span = s; op = o; left = boxed q h t; right = r }))
le_assign p g s o q h (t.Simple x) r = Prim.grind arith
le_assign p g s o q h (t.Pat (u.Array x)) r =
    last (last (last (past (past (both (last (last (past (last (below (view_option (λ b. b.node.tree)) (elim [ None ↦ omega arith | Some y ↦ omega arith ]) x.elems.items (omega arith)))))) (omega arith))))))
le_assign p g s o q h (t.Pat (u.Object x)) r =
    last (last (last (past (past (both (last (last (past (last (below view_object_pat_prop (λ y. Prim.grind arith) x.props.items (omega arith)))))) (omega arith))))))

-- a part of an object, a property by what its box is made of
each_part : (P : PropOrSpread Held → Type 0)
    → ((x : SpreadElement Held) → P (q.Spread x))
    → ((p : _) (g : Global) (x : Prop Held) → P (q.Prop (boxed p g x)))
    → (x : PropOrSpread Held) → P x
each_part P f h (q.Spread x) = f x
each_part P f h (q.Prop x) = h x.ptr x.alloc x.value

le_expr : (p : _) (g : Global) (x : Expr Node) → Fits p g x
le_expr p g (e.This x) = Prim.grind arith
le_expr p g (e.Array x) = last (last (last (past (last (below (view_option view_expr_or_spread) (elim [ None ↦ omega arith | Some y ↦ omega arith ]) x.elems.items (omega arith))))))
le_expr p g (e.Object x) = last (last (last (past (last (below view_prop_or_spread (each_part _ (λ y. omega arith) (λ b h. elim [
  | r.Shorthand y ↦ omega arith
  | r.KeyValue y ↦ Prim.grind arith
  | r.Assign y ↦ omega arith
  | r.Getter y ↦ Prim.grind arith
  | r.Setter y ↦ last (last (past (both (Prim.grind arith) (both (within (pat_within g y.param) (omega arith)) (Prim.grind arith)))))
  | r.Method y ↦ last (last (past (both (Prim.grind arith) (last (within_expr (fn_within g y.function) (omega arith))))))
])) x.props.items (omega arith))))))
le_expr p g (e.Fn x) = le_fn p g x.span x.ident x.function
le_expr p g (e.Class x) = le_class p g x.span x.ident x.class
le_expr p g (e.Arrow x) = le_arrow p g x.span x.params x.body x.is_async
le_expr p g (e.Unary x) = omega arith
le_expr p g (e.Update x) = omega arith
le_expr p g (e.Bin x) = omega arith
le_expr p g (e.Assign x) = le_assign p g x.span x.op x.left.ptr x.left.alloc x.left.value x.right
le_expr p g (e.Member x) = Prim.grind arith
le_expr p g (e.SuperProp x) = Prim.grind arith
le_expr p g (e.Cond x) = omega arith
le_expr p g (e.Call x) = le_call p g x.span x.callee x.args
le_expr p g (e.New x) = le_new p g x.span x.callee x.args
le_expr p g (e.Tpl x) = le_tpl p g x
le_expr p g (e.TaggedTpl x) = le_tagged p g x.span x.tag x.tpl.ptr x.tpl.alloc x.tpl.value
le_expr p g (e.OptChain x) = le_opt_chain p g x.span x.optional x.base.ptr x.base.alloc x.base.value
le_expr p g (e.PrivateName x) = omega arith
le_expr p g (e.Seq x) = last (last (last (past (last (below (λ b. b.node.tree) (λ y. omega arith) x.exprs.items (omega arith))))))
le_expr p g (e.Ident x) = omega arith
le_expr p g (e.Lit x) = omega arith
le_expr p g (e.Yield x) = Prim.grind arith
le_expr p g (e.MetaProp x) = omega arith
le_expr p g (e.Await x) = omega arith
le_expr p g (e.Paren x) = omega arith
le_expr p g (e.Invalid x) = omega arith

-- a declarator, by its parts
each_declarator : (P : VarDeclarator Held → Type 0)
    → ((s : Span) (p : Pat Held) (i : Option (ExprBox Held)) → P (record { span = s; name = p; init = i }))
    → (x : VarDeclarator Held) → P x
each_declarator P h x = h x.span x.name x.init

abbrev StmtFits : RawPtr-field.Value → Global → Stmt Node → Type 0
StmtFits p g x = max (deep-Any (a.Stmt (record { ptr = p; alloc = g; value = x }))) 0 ≤ tree_size (view_stmt x)

le_catch : (p : _) (g : Global) (n : _) (k : Global) (s : Span) (b : BlockStmt Node) (t : Span) (q : Option (Pat Node)) (c : BlockStmt Node) (f : Option (BlockStmt Node))
    → StmtFits p g (m.Try (boxed n k (record { span = s; block = b; handler = Some (record { span = t; param = q; body = c }); finalizer = f })))
le_catch p g n k s b t None c f = Prim.grind arith
le_catch p g n k s b t (Some q) c f =
    last (last (last (past (both (omega arith) (both (last (past (both (last (within (pat_within g q) (omega arith))) (omega arith)))) (Prim.grind arith))))))

le_try : (p : _) (g : Global) (n : _) (k : Global) (s : Span) (b : BlockStmt Node) (c : Option (CatchClause Node)) (f : Option (BlockStmt Node))
    → StmtFits p g (m.Try (boxed n k (record { span = s; block = b; handler = c; finalizer = f })))
le_try p g n k s b None f = Prim.grind arith
le_try p g n k s b (Some c) f = le_catch p g n k s b c.span c.param c.body f

le_for : (p : _) (g : Global) (n : _) (k : Global) (s : Span) (i : Option (VarDeclOrExpr Node)) (t u : Option (ExprBox Node)) (b : StmtBox Node)
    → StmtFits p g (m.For (boxed n k (record { span = s; init = i; test = t; update = u; body = b })))
le_for p g n k s None t u b = Prim.grind arith
le_for p g n k s (Some (i.VarDecl x)) t u b = last (last (last (past (both (last (last (past (past (last (below view_declarator (each_declarator _ (λ s p i. past (both (within (pat_within g p) (omega arith)) (Prim.grind arith)))) x.decls.items (omega arith))))))) (Prim.grind arith)))))
le_for p g n k s (Some (i.Expr x)) t u b = last (last (last (past (both (omega (arith, marked_size (is_expr x.node.tree) x.node.tree)) (Prim.grind arith)))))

le_for_in : (p : _) (g : Global) (n : _) (k : Global) (s : Span) (h : ForHead Node) (r : ExprBox Node) (b : StmtBox Node)
    → StmtFits p g (m.ForIn (boxed n k (record { span = s; left = h; right = r; body = b })))
le_for_in p g n k s (h.VarDecl x) r b = last (last (last (past (both (last (past (past (last (below view_declarator (each_declarator _ (λ s p i. past (both (within (pat_within g p) (omega arith)) (Prim.grind arith)))) x.decls.items (omega arith)))))) (omega arith)))))
le_for_in p g n k s (h.UsingDecl x) r b = last (last (last (past (both (last (past (past (last (below view_declarator (each_declarator _ (λ s p i. past (both (within (pat_within g p) (omega arith)) (Prim.grind arith)))) x.decls.items (omega arith)))))) (omega arith)))))
le_for_in p g n k s (h.Pat x) r b = last (last (last (past (both (last (within (pat_within g x) (omega arith))) (omega arith)))))

le_for_of : (p : _) (g : Global) (n : _) (k : Global) (s : Span) (w : Bool) (h : ForHead Node) (r : ExprBox Node) (b : StmtBox Node)
    → StmtFits p g (m.ForOf (boxed n k (record { span = s; is_await = w; left = h; right = r; body = b })))
le_for_of p g n k s w (h.VarDecl x) r b = last (last (last (past (past (both (last (past (past (last (below view_declarator (each_declarator _ (λ s p i. past (both (within (pat_within g p) (omega arith)) (Prim.grind arith)))) x.decls.items (omega arith)))))) (omega arith))))))
le_for_of p g n k s w (h.UsingDecl x) r b = last (last (last (past (past (both (last (past (past (last (below view_declarator (each_declarator _ (λ s p i. past (both (within (pat_within g p) (omega arith)) (Prim.grind arith)))) x.decls.items (omega arith)))))) (omega arith))))))
le_for_of p g n k s w (h.Pat x) r b = last (last (last (past (past (both (last (within (pat_within g x) (omega arith))) (omega arith))))))

le_stmt : (p : _) (g : Global) (x : Stmt Node) → StmtFits p g x
le_stmt p g (m.Block x) = omega arith
le_stmt p g (m.Empty x) = omega arith
le_stmt p g (m.Debugger x) = omega arith
le_stmt p g (m.With x) = omega arith
le_stmt p g (m.Return x) = Prim.grind arith
le_stmt p g (m.Labeled x) = omega arith
le_stmt p g (m.Break x) = omega arith
le_stmt p g (m.Continue x) = omega arith
le_stmt p g (m.If x) = Prim.grind arith
le_stmt p g (m.Switch x) = last (last (last (past (both (omega arith) (last (below view_switch_case (λ y. Prim.grind arith) x.cases.items (omega arith)))))))
le_stmt p g (m.Throw x) = omega arith
le_stmt p g (m.Try x) = le_try p g x.ptr x.alloc x.value.span x.value.block x.value.handler x.value.finalizer
le_stmt p g (m.While x) = omega arith
le_stmt p g (m.DoWhile x) = omega arith
le_stmt p g (m.For x) = le_for p g x.ptr x.alloc x.value.span x.value.init x.value.test x.value.update x.value.body
le_stmt p g (m.ForIn x) = le_for_in p g x.ptr x.alloc x.value.span x.value.left x.value.right x.value.body
le_stmt p g (m.ForOf x) = le_for_of p g x.ptr x.alloc x.value.span x.value.is_await x.value.left x.value.right x.value.body
le_stmt p g (m.Decl (d.Class x)) = last (last (last (last (past (last (within_expr (class_within g x.class) (omega arith)))))))
le_stmt p g (m.Decl (d.Fn x)) = last (last (last (last (past (last (within_expr (fn_within g x.function) (omega arith)))))))
le_stmt p g (m.Decl (d.Var x)) = last (last (last (last (past (past (last (below view_declarator (each_declarator _ (λ s p i. past (both (within (pat_within g p) (omega arith)) (Prim.grind arith)))) x.decls.items (omega arith))))))))
le_stmt p g (m.Decl (d.Using x)) = last (last (last (last (past (past (last (below view_declarator (each_declarator _ (λ s p i. past (both (within (pat_within g p) (omega arith)) (Prim.grind arith)))) x.decls.items (omega arith))))))))
le_stmt p g (m.Expr x) = omega arith

pub le_any : (x : Any) → max (deep-Any x) 0 ≤ tree_size (view_any x).tree
le_any (a.Expr x) = le_expr x.ptr x.alloc x.value
le_any (a.Pat x) = le_pat x.ptr x.alloc x.value
le_any (a.Stmt x) = le_stmt x.ptr x.alloc x.value
le_any (a.Stmts x) = last (last (below view_stmt (λ y. within (le_stmt null_ptr x.alloc y) (omega arith)) x.value.items (omega arith)))
