-- Classes and functions that are declared.
use Rattle.ecma_event_exprs.proofs.Holders as holder
use Rattle.swc_ecma_parser_ast.specs.View.{view_class, view_function, view_ident}
use Rattle.ecma_event_walk.proofs.stmts.decl.Goals as goal

pub returns-in-Class : goal.returns-in-Class
returns-in-Class c =
    let x = c.in-Class.x in
    rw (c.in-Class.is) (holder.class_decl c.class_decl.result _ c.args.walk.now c.args.is_exported (view_ident x.ident) (view_class x.class.value) c.class_decl.ensures)

pub returns-in-Fn : goal.returns-in-Fn
returns-in-Fn c =
    let x = c.in-Fn.x in
    rw (c.in-Fn.is) (holder.fn_decl c.fn_decl.result _ c.args.walk.now c.args.is_exported (view_ident x.ident) (view_function x.function.value) c.fn_decl.ensures)
