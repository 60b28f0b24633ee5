use Rattle.std.proofs.Common.{◌≡◌, take}
use Rattle.swc_ecma_parser_state.proofs.entry.copied.Given as goal

abbrev pub invariant-loop-text : goal.invariant-loop-text
invariant-loop-text l = l.copy.items ≡ take l.text-index l.texts.items
