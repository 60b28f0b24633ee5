-- How much of what is found is told: the first of the faults that were recorded and of the early errors behind them, and how many more there are.
-- Why there is no tree is told in any case.
use Rattle.std.specs.Prelude.{ℕ, ◌-◌, ◌==◌, if◌then◌else◌, List, length, take}
use Rattle.swc_ecma_parser_error.specs.declared.error.Error.{Error}
use Rattle.ecma_events.specs.declared.early_error.EarlyError.{EarlyError}

-- the first faults, so many at most; all of them, where that is 0
abbrev pub front : (most : ℕ) → List Error → List Error
front most es = if most == 0 then es else take most es

-- the first early errors behind so many faults
abbrev pub early_front : (most faults : ℕ) → List EarlyError → List EarlyError
early_front most faults ks = if most == 0 then ks else take (most - faults) ks

-- how many of so many stand behind those
abbrev pub left_out : (most count : ℕ) → ℕ
left_out most count = if most == 0 then 0 else count - most
