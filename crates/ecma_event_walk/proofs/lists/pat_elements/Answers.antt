-- The first part, and those behind it.
use Rattle.ecma_event_exprs.proofs.Firsts.{first_part}
use Rattle.ecma_event_walk.proofs.lists.pat_elements.Goals as goal

pub returns-in-Some : goal.returns-in-Some
returns-in-Some c = first_part _ c.pat_element.result _ c.args.walk.now c.args.role c.in-Some.x.now c.in-Some.rest.now c.args.parts.now c.in-Some.ensures.cases.0 c.pat_element.ensures
