-- The faults so far.
use Rattle.std.proofs.Common.{◌≡◌, take}
use Rattle.std.specs.List.{flat_map}
use Rattle.ecma_link.specs.Faults.{AreFaults, words_of}
use Rattle.ecma_link.proofs.faults.listed.Given as goal

abbrev pub invariant-loop-it : goal.invariant-loop-it
invariant-loop-it l =
    AreFaults l.words.items (take l.it-index l.told) l.faults.items × (l.words.items ≡ flat_map words_of (take l.it-index l.told))
