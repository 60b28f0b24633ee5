-- As a call begins: nothing is marked, but that memory ran out for one of the two tokens that are read ahead.
use Rattle.std.proofs.Common.{◌≡◌, Bool, true, false, [], Option, Some, None, refl, sym, ap, ◌∙◌, true≢false}
use Rattle.std.specs.Prelude.{◌||◌, is_some, if◌then◌else◌}
use Rattle.swc_ecma_parser_input.specs.Place.{first, second, lacks_memory}
use Rattle.swc_ecma_parser_reader.specs.Calls.{lacks_ahead}
use Rattle.swc_ecma_parser_reader.specs.Entry.{unmarked}
use Rattle.swc_ecma_parser_reader.specs.State.{State}
use Rattle.swc_ecma_parser_reader.specs.declared.mark.Mark.{Mark}
use Rattle.swc_ecma_parser_reader.specs.declared.mark.Mark.TheVariants as mark
use Rattle.swc_ecma_parser_state.specs.Opened.{begun}

abbrev begun_by : Bool → Option Mark
begun_by b = if b then Some mark.OutOfMemory else None

module _ (s t : State) (is : t ≡ begun s) where
  as_begun : (b : Bool) → lacks_ahead s.at ≡ b → t ≡ record s { scope = record s.scope { mark = begun_by b } }
  as_begun b e = is ∙ ap (λ z. record s { scope = record s.scope { mark = begun_by z } }) e

  -- where nothing is marked
  pub begun_unmarked : is_some t.scope.mark ≡ false → t ≡ unmarked s
  begun_unmarked h = by_memory (lacks_ahead s.at) refl
    where
      by_memory : (b : Bool) → lacks_ahead s.at ≡ b → t ≡ unmarked s
      by_memory true e = absurd (true≢false (ap (λ z. is_some z.scope.mark) (sym (as_begun true e)) ∙ h))
      by_memory false e = as_begun false e

  -- no token is left, so memory ran out for none
  pub begun_empty : s.at.left ≡ [] → t ≡ unmarked s
  begun_empty h = as_begun false (ap (λ l. lacks_memory (first l) || lacks_memory (second l)) h)

  pub begun_lost : lacks_ahead s.at ≡ true → t.scope.mark ≡ Some mark.OutOfMemory
  begun_lost h = ap (λ z. z.scope.mark) (as_begun true h)
