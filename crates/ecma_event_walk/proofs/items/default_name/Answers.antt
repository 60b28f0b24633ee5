-- Classes and functions that are exported by default.
use Rattle.ecma_event_exprs.proofs.Holders as holder
use Rattle.swc_ecma_parser_ast.specs.Parts.{view_option}
use Rattle.swc_ecma_parser_ast.specs.View.{view_class, view_function, view_ident}
use Rattle.ecma_event_walk.proofs.items.default_name.Goals as goal

pub returns-in-Class : goal.returns-in-Class
returns-in-Class c =
    let x = c.in-Class.x in
    rw (c.in-Class.is) (holder.default_class c.default_class.result _ c.args.walk.now x.span (view_option view_ident x.ident) (view_class x.class.value) c.default_class.ensures)

pub returns-in-Fn : goal.returns-in-Fn
returns-in-Fn c =
    let x = c.in-Fn.x in
    rw (c.in-Fn.is) (holder.default_fn c.default_fn.result _ c.args.walk.now x.span (view_option view_ident x.ident) (view_function x.function.value) c.default_fn.ensures)
