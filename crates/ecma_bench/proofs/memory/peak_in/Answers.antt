-- A number of kilobytes is a multiple of 1024 bytes.
use Rattle.std.proofs.Common.{◌≡◌, ℕ, ◌*◌, ◌%◌, Option, Some, None, ◌∙◌, ap}
use Rattle.std.specs.Prelude.{◌<◌, ◌^◌, SomeIff, IfSome}
use Rattle.std.proofs.Math.Nat.{mul-mod_left}
use Rattle.ecma_bench.proofs.memory.peak_in.Goals as goal

kilobytes : (o : Option ℕ) (n : ℕ) → SomeIff o (n * 1024 < 2 ^ 64) (n * 1024) → IfSome o (λ bytes. bytes % 1024 ≡ 0)
kilobytes (Some bytes) n h = ap (λ m. m % 1024) h.1 ∙ mul-mod_left n 1024
kilobytes None n h = tt

pub returns : goal.returns
returns c = kilobytes c.checked_mul.result _ c.checked_mul.ensures
