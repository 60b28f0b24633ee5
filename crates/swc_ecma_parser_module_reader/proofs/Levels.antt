-- Imports and exports by the levels that are left, where a number is 0 or not; what the code cites.
use Rattle.std.proofs.Common.{◌≡◌, ℕ, ◌-◌, ◌<◌, refl}
use Rattle.swc_ecma_parser_model.specs.Tree.{Tree}
use Rattle.swc_ecma_parser_grammar.specs.language.Items.{nested_item}
use Rattle.swc_ecma_parser_reader.specs.State.{State, Outcome, too_deep, and_then}
use Rattle.swc_ecma_parser_reader.specs.DecoratorLevels.{decorated_in}
use Rattle.swc_ecma_parser_reader.specs.Reader.{expr, pattern, member, stmt, parameters, object_alone}
use Rattle.swc_ecma_parser_reader.proofs.expressions.Loops.{deeper}
use Rattle.swc_ecma_parser_module_reader.specs.Imports.{import_decl}
use Rattle.swc_ecma_parser_module_reader.specs.Decorated.{export_item}
use Rattle.swc_ecma_parser_module_reader.specs.Modules.{import_in, export_in, item_behind, decorated_item}
use Rattle.swc_ecma_parser_reader.specs.Decorators.{Leading, leading}
use Rattle.swc_ecma_parser_module_reader.specs.Programs.{first_behind}

pub import_lowest : (n : ℕ) (s : State) → n ≡ 0 → ◌≡◌ {A = Outcome Tree} (import_in n s) (too_deep s)
unfolding import_in
import_lowest n s e = rw e refl

pub import_above : (n : ℕ) (s : State) → 0 < n → ◌≡◌ {A = Outcome Tree} (import_in n s) (import_decl (object_alone (n - 1)) s)
unfolding import_in
import_above n s h = deeper (λ k. import_in k s) n h

pub export_lowest : (n : ℕ) (s : State) → n ≡ 0 → ◌≡◌ {A = Outcome Tree} (export_in n s) (too_deep s)
unfolding export_in
export_lowest n s e = rw e refl

pub export_above : (n : ℕ) (s : State) → 0 < n → ◌≡◌ {A = Outcome Tree} (export_in n s) (export_item (stmt (n - 1) nested_item) (expr (n - 1)) (pattern (n - 1)) (parameters (n - 1)) (member (n - 1)) (object_alone (n - 1)) (decorated_in (n - 1)) s)
unfolding export_in
export_above n s h = deeper (λ k. export_in k s) n h

pub decorated_lowest : (n : ℕ) (s : State) → n ≡ 0 → ◌≡◌ {A = Outcome Tree} (decorated_item n s) (too_deep s)
unfolding decorated_item
decorated_lowest n s e = rw e refl

pub decorated_above : (n : ℕ) (s : State) → 0 < n → ◌≡◌ {A = Outcome Tree} (decorated_item n s) (and_then (leading (decorated_in (n - 1)) s) (item_behind (n - 1)))
unfolding decorated_item
decorated_above n s h = deeper (λ k. decorated_item k s) n h

pub first_lowest : (n : ℕ) (v : Leading) (s : State) → n ≡ 0 → ◌≡◌ {A = Outcome Tree} (first_behind n v s) (too_deep s)
unfolding first_behind
first_lowest n v s e = rw e refl

pub first_above : (n : ℕ) (v : Leading) (s : State) → 0 < n → ◌≡◌ {A = Outcome Tree} (first_behind n v s) (item_behind (n - 1) v s)
unfolding first_behind
first_above n v s h = deeper (λ k. first_behind k v s) n h
