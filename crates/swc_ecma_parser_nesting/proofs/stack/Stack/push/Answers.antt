use Rattle.std.proofs.Common.{◌<◌, length, ap, sym, ◌∙◌, ◌∷◌, arith}
use Rattle.std.proofs.lemmas.List.{length-set}
use Rattle.swc_ecma_parser_nesting.proofs.Stacks.{length-stacked, pushed}
use Rattle.swc_ecma_parser_nesting.proofs.stack.Stack.push.Goals as goal

pub bounds-self-inside-self-inside : goal.bounds-self-inside-self-inside
bounds-self-inside-self-inside c = omega (arith, c.requires, ap length c.self.view_is, length-stacked c.self.inside.places c.self.inside.count)

pub invariant_of-self : goal.invariant_of-self
invariant_of-self c =
    let count = length-stacked c.self.inside.places c.self.inside.count in
    record {
      is_room = length-set c.self.inside.places c.self.inside.count c.args.entry ∙ c.self.invariant.is_room;
      fits = omega (arith, c.requires, ap length c.self.view_is, count);
    }

pub returns : goal.returns
returns c =
    let count = length-stacked c.self.inside.places c.self.inside.count in
    pushed c.self.inside.places c.self.inside.count c.args.entry (omega (arith, c.requires, ap length c.self.view_is, count, c.self.invariant.is_room))
    ∙ ap (λ os. c.args.entry ∷ os) c.self.view_is
