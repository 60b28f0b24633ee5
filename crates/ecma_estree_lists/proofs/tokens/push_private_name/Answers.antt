-- The text up to the end, and its end.
use Rattle.std.specs.Prelude.{codes}
use Rattle.ecma_estree_lists.specs.Tokens.{value_text}
use Rattle.ecma_estree_lists.proofs.Closed.{closed}
use Rattle.ecma_estree_lists.proofs.tokens.push_private_name.Goals as goal

pub returns : goal.returns
returns c =
    let p = c.args.places.now in
    let t = c.args.token.now in
    closed p (codes "PrivateIdentifier") (value_text p.text t.token t.span) c.args.mark.lo.0 t.span.hi.0 c.args.out.now.items c.push_from.new.out.items _
    c.in_ok-push_from.ensures c.in_ok-extend_from_slice.ensures.items
