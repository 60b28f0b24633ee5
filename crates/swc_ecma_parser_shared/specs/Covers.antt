-- What may still become a pattern, as the reader knows it.
use Rattle.std.specs.Prelude.{ℕ, map}
use Rattle.swc_ecma_parser_model.specs.Tree.{Tree}
use Rattle.swc_ecma_parser_reader.specs.AwaitWords.{behind_await}
use Rattle.swc_ecma_parser_reader.specs.Classes.{class_of}
use Rattle.swc_ecma_parser_reader.specs.DecoratorLevels.{decorated_in}
use Rattle.swc_ecma_parser_reader.specs.Methods.{class_form}
use Rattle.swc_ecma_parser_reader.specs.State.{Reader, ◌>>=◌, pure}
use Rattle.swc_ecma_parser_reader.specs.Expressions as exprs
use Rattle.swc_ecma_parser_reader.specs.Reader as rules
use Rattle.swc_ecma_parser_shared.specs.declared.cover.Cover.{Cover}
use Rattle.swc_ecma_parser_shared.specs.declared.cover.Covers.{Covers}
use Rattle.swc_ecma_parser_shared.specs.declared.cover.Reading.{Reading}
use Rattle.swc_ecma_parser_shared.specs.declared.cover.Reading.TheVariants as reading

abbrev pub cover_of : {A : Type 0} → (A → Tree) → Cover A → exprs.Cover
cover_of view v = record { x = view v.tree; mark = v.mark; comma = v.comma }

abbrev pub covers_of : {A : Type 0} → (A → Tree) → Covers A → exprs.Covers
covers_of view v = record { xs = map view v.parts.items; mark = v.mark; comma = v.comma }

-- what is read in so many levels
abbrev pub read : ℕ → Reading → Reader exprs.Cover
read n (reading.Expr class) = rules.expr n (class_of class) >>= λ x. pure (exprs.done x)
read n (reading.Operand class) = rules.right_operand n (class_of class) >>= λ x. pure (exprs.done x)
read n reading.Cover = rules.cover n
read n reading.Head = rules.head_cover n
read n reading.Class = rules.function n class_form >>= λ x. pure (exprs.done x)
read n reading.Decorated = decorated_in n >>= λ x. pure (exprs.done x)
read n reading.Object = rules.object_alone n >>= λ x. pure (exprs.done x)
read n (reading.Behind start) = rules.head_behind n start
read n (reading.BehindAwait start) = behind_await n start

-- a key by itself, whatever reads what stands further in
abbrev pub bare : Tree → Reader exprs.Cover
bare x = exprs.shorthand x >>= λ y. pure (exprs.done y)
