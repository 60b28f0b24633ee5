-- Each kind of pattern; an expression in the place of a pattern is walked over as it is.
use Rattle.std.proofs.Common.{ap}
use Rattle.ecma_event_exprs.proofs.Arms.{arm}
use Rattle.ecma_event_exprs.proofs.Declared.{as_expr_on_ok}
use Rattle.swc_ecma_parser_ast.specs.View.{view_pat}
use Rattle.ecma_event_exprs.proofs.patterns.pat.Goals as goal

pub returns-in-Ident : goal.returns-in-Ident
returns-in-Ident c = arm c.name.result _ c.args.walk.now c.args.role (view_pat c.args.x.now) _ (ap view_pat c.in-Ident.is) c.name.ensures

pub returns-in-Array : goal.returns-in-Array
returns-in-Array c = arm c.array_pat.result _ c.args.walk.now c.args.role (view_pat c.args.x.now) _ (ap view_pat c.in-Array.is) c.array_pat.ensures

pub returns-in-Rest : goal.returns-in-Rest
returns-in-Rest c = arm c.push.result _ c.args.walk.now c.args.role (view_pat c.args.x.now) _ (ap view_pat c.in-Rest.is) c.push.ensures

pub returns-in-Object : goal.returns-in-Object
returns-in-Object c = arm c.object_pat.result _ c.args.walk.now c.args.role (view_pat c.args.x.now) _ (ap view_pat c.in-Object.is) c.object_pat.ensures

pub returns-in-Assign : goal.returns-in-Assign
returns-in-Assign c = arm c.two.result _ c.args.walk.now c.args.role (view_pat c.args.x.now) _ (ap view_pat c.in-Assign.is) c.two.ensures

pub returns-in-Expr : goal.returns-in-Expr
returns-in-Expr c = arm c.push-in-Expr.result _ c.args.walk.now c.args.role (view_pat c.args.x.now) _ (ap view_pat c.in-Expr.is) (as_expr_on_ok c.push-in-Expr.result c.args.role c.in-Expr.x.node.tree _ _ c.push-in-Expr.ensures)
