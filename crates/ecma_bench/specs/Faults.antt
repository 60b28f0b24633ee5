-- What a fault says of a fault of the parser.
use Rattle.std.specs.Prelude.{◌≡◌, ⊤}
use Rattle.swc_ecma_parser_error.specs.declared.error.Error.{Error}
use Rattle.swc_ecma_parser_error.specs.Kind.{kind_of, name_of, IsOutOfMemory}
use Rattle.ecma_bench.specs.declared.fault.Fault.{Fault}
use Rattle.ecma_bench.specs.declared.fault.Fault.TheVariants as fault

-- it tells of a refusal: its place and the name of its kind, or that memory ran out
abbrev pub TellsRefusal : Error → Fault → Type 0
TellsRefusal e (fault.Refused low high kind) = ¬ IsOutOfMemory e × (low ≡ e.span.lo.0) × (high ≡ e.span.hi.0) × (kind.now ≡ name_of (kind_of e.kind))
TellsRefusal e fault.OutOfMemory = IsOutOfMemory e
TellsRefusal e _ = ⊥

-- it tells of a recorded fault: its place and the name of its kind
abbrev pub TellsRecord : Error → Fault → Type 0
TellsRecord e (fault.Recorded low high kind) = (low ≡ e.span.lo.0) × (high ≡ e.span.hi.0) × (kind.now ≡ name_of (kind_of e.kind))
TellsRecord e _ = ⊥

-- it tells of the text's length or of want of memory, and of nothing in the text
abbrev pub TellsWant : Fault → Type 0
TellsWant fault.TooLong = ⊤
TellsWant fault.OutOfMemory = ⊤
TellsWant _ = ⊥
