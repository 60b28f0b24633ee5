-- Statements one behind another lose nothing, and neither does a block.
use Rattle.swc_ecma_parser_reader.specs.Reader.{closes, close, directs, items_turn, items, block_from, block, braced}
use Rattle.swc_ecma_parser_model.specs.Tree.{Tree}
use Rattle.swc_ecma_parser_reader.specs.State.{below, State, Reader, moved, coded, expect}
use Rattle.swc_ecma_parser_grammar.specs.language.Items.{directed, nested_item}
use Rattle.swc_ecma_parser_grammar.specs.language.Contexts.{in_strict}
use Rattle.std.proofs.Common.{◌≡◌, Bool, true, false, cond, [], refl}
use Rattle.std.specs.Prelude.{◌&&◌}
use Rattle.swc_ecma_parser_token.specs.declared.kind.TokenKind.TheVariants as kind
use Rattle.swc_ecma_parser_input.specs.Place.{Place}
use Rattle.swc_ecma_parser_model.specs.Directive.{is_use_strict}
use Rattle.swc_ecma_parser_grammar.specs.Looks.{kind_at}
use Rattle.swc_ecma_parser_reader.proofs.Meets.{Answers, answers_then, answers_if}
use Rattle.swc_ecma_parser_reader.proofs.Behind.{NothingLost, Kept, Lost, Passes, behind_after, expect_keeps, close_keeps, loop_keeps}
use Rattle.swc_ecma_parser_reader.proofs.KeepsBelow.{KeepsBelow}

-- behind a directive the code is strict
strict_keeps : (b t : State) (o : Bool) → NothingLost b t → NothingLost b (coded (cond o (in_strict t.code) t.code) t)
strict_keeps b t true h = h
strict_keeps b t false h = h

pub directed_keeps : (b t : State) (directives : Bool) (x : Tree) → NothingLost b t → NothingLost b (coded (directed t.code directives x) t)
directed_keeps b t directives x h = strict_keeps b t (directives && is_use_strict x) h

-- statements one behind another
pub items_keeps : (inner : Reader Tree) → Passes inner → (stops : Place → Bool) (directives : Bool) → Passes (items inner stops directives)
unfolding items items_turn
items_keeps inner below stops directives b s f = loop_keeps (items_turn inner stops directives) b
    (λ xs t g. answers_if _ _ (stops t.at) _ _ (λ _. g) (λ _. answers_then _ _ (inner t) _ (below b t g) (λ x u k. directed_keeps b u (directs directives xs) x k))) [] s f

module _ (inner : Reader Tree) (below : Passes inner) where
  braces_from_keep : (directives : Bool) (start : Place) → Passes (block_from inner directives start)
  unfolding block_from
  braces_from_keep directives start b t g = answers_then _ _ (items inner closes directives t) _ (items_keeps inner below closes directives b t g) (λ x u k.
      answers_then _ _ (close u) _ (close_keeps b u k) (λ _ v j. j))

  pub braces_keep : (directives : Bool) → Passes (braced inner directives)
  unfolding braced
  braces_keep directives b t g = answers_then _ _ (expect kind.LBrace t) _ (expect_keeps b t g kind.LBrace refl) (λ _ u k. braces_from_keep directives t.at b u k)

module _ (known : KeepsBelow) (b : State) (s : State) (f : NothingLost b s) where
  block_from_keeps : (directives : Bool) (start : Place) (t : State) → NothingLost b t → Answers (Kept b) (Lost b) (block_from (known.inner nested_item) directives start t)
  block_from_keeps directives start t g = braces_from_keep (known.inner nested_item) (known.below_stmt nested_item) directives start b t g

  -- a block
  pub block_keeps : kind_at s.at ≡ kind.LBrace → Answers (Kept b) (Lost b) (block (known.inner nested_item) s)
  unfolding block
  block_keeps e =
      let g = behind_after b s e refl f in
      block_from_keeps false s.at (moved s) g

  pub braced_keeps : (directives : Bool) (t : State) → NothingLost b t → Answers (Kept b) (Lost b) (braced (known.inner nested_item) directives t)
  braced_keeps directives t g = braces_keep (known.inner nested_item) (known.below_stmt nested_item) directives b t g
