-- Why there is no tree, as the only fault of its list.
use Rattle.std.proofs.Common.{[], ◌∷◌}
use Rattle.ecma_answers.proofs.Listing.{refused}
use Rattle.ecma_answers.proofs.told.push_refusal.Goals as goal

pub returns-in_ok-push : goal.returns-in_ok-push
returns-in_ok-push c =
    let it = c.in_ok-it.it in
    (it ∷ [], refused c.args.source.now.text c.args.tree.now c.in-Err.error it c.in-Err.is c.in_ok-it.ensures, c.in_ok-push.ensures.items)
