-- The place, and how many of the bytes that are left stand before the mark.
use Rattle.std.proofs.Common.{◌≡◌, ◌+◌, drop, length}
use Rattle.ecma_estree_text.specs.Bracket.{skipped}
use Rattle.ecma_estree_text.proofs.bracket.find.Given as goal

abbrev pub invariant-loop-byte : goal.invariant-loop-byte
invariant-loop-byte l = record {
  place : l.place ≡ l.initial.place + l.byte-index;
  left : l.place + skipped l.mark l.mode (drop l.byte-index l.rest) ≡ l.initial.place + skipped l.mark l.initial.mode l.rest;
  bound : l.initial.place + length l.rest ≡ length l.fn.text;
}
