-- A link of an optional chain.
use Rattle.ecma_event_exprs.proofs.exprs.delete.Goals as goal

pub returns-in-OptChain : goal.returns-in-OptChain
returns-in-OptChain c = rw (c.in-OptChain.is, ← c.deref.ensures) c.delete_link.ensures
