-- The characters so far.
use Rattle.std.proofs.Common.{◌≡◌, ◌++◌, flat_map, string_bytes}
use Rattle.ecma_situations.specs.Looked.{looked}
use Rattle.ecma_sentences.specs.Message.{part}
use Rattle.ecma_sentences.proofs.messages.filled.Given as goal

abbrev pub invariant-loop-c : goal.invariant-loop-c
invariant-loop-c l = string_bytes l.text ≡ flat_map (part (looked l.l)) l.yielded
