-- What the definitions of `specs/Scan` come to.
use Rattle.std.proofs.Common.{◌≡◌, ℕ, Bool, List, [], ◌∷◌, ◌++◌, Some, None, refl, ap, sym, ◌∙◌}
use Rattle.swc_ecma_parser_scan.specs.declared.state.State.{State}
use Rattle.swc_ecma_parser_scan.specs.declared.state.State.TheVariants as state
use Rattle.swc_ecma_parser_scan.specs.declared.state.Mark.TheVariants as mark
use Rattle.swc_ecma_parser_scan.specs.Step.{begin, step}
use Rattle.swc_ecma_parser_scan.specs.Scan.{Munched, munch, settled, settled_at, scan}
use Rattle.std.specs.Str.{chars, IsUtf8, encode_utf8_all}
use Rattle.std.proofs.lemmas.Str.{encodes-append, encodes-chars, chars-append}
use Rattle.std.proofs.lemmas.List.{append_cancel_right}
use Rattle.swc_ecma_parser_scan.specs.Splits.{munch-end, munch-stop, munch-more}

-- one turn of the loop that reads on
pub munch-past : (s t : State) (c : ℕ) (xs cs : List ℕ) → xs ≡ c ∷ cs → Some t ≡ step s c → munch s xs ≡ record { taken = c ∷ (munch t cs).taken; left = (munch t cs).left; state = (munch t cs).state }
munch-past s t c xs cs e f = ap (munch s) e ∙ munch-more s t c cs (sym f)

pub munch-before : (s : State) (c : ℕ) (xs cs : List ℕ) → xs ≡ c ∷ cs → None ≡ step s c → munch s xs ≡ record { taken = []; left = xs; state = s }
munch-before s c xs cs e f = ap (munch s) e ∙ munch-stop s c cs (sym f) ∙ ap (λ ys. record { taken = []; left = ys; state = s }) (sym e)

pub munch-nothing : (s : State) (xs : List ℕ) → xs ≡ [] → munch s xs ≡ record { taken = []; left = []; state = s }
munch-nothing s xs e = ap (munch s) e ∙ munch-end s

-- what a settled piece is follows from the state and from what is left
settled_at-same : (s : State) (cs : List ℕ) (m n : Munched) → m.state ≡ n.state → m.left ≡ n.left → ((settled_at s cs m).state ≡ (settled_at s cs n).state) × ((settled_at s cs m).left ≡ (settled_at s cs n).left)
settled_at-same (state.Mark mark.DotDot) cs m n e f = (refl, refl)
settled_at-same (state.Mark k) cs m n e f = (e, f)
settled_at-same s cs m n e f = (e, f)

pub settled-same : (cs : List ℕ) (m n : Munched) → m.state ≡ n.state → m.left ≡ n.left → ((settled cs m).state ≡ (settled cs n).state) × ((settled cs m).left ≡ (settled cs n).left)
unfolding settled
settled-same cs m n e f =
    let h = settled_at-same n.state cs m n e f in
    (ap (λ s. (settled_at s cs m).state) e ∙ h.0, ap (λ s. (settled_at s cs m).left) e ∙ h.1)

-- the bytes of a piece
pub piece-splits : (text rest : List ℕ) (c : ℕ) (taken left : List ℕ) → IsUtf8 text → IsUtf8 rest → chars text ≡ c ∷ (taken ++ left) → chars rest ≡ left → text ≡ encode_utf8_all (c ∷ taken) ++ rest
piece-splits text rest c taken left u v e f =
    sym (encodes-chars text u) ∙ ap encode_utf8_all e ∙ encodes-append (c ∷ taken) left ∙ ap (λ r. encode_utf8_all (c ∷ taken) ++ r) (ap encode_utf8_all (sym f) ∙ encodes-chars rest v)

pub piece-chars : (text piece rest : List ℕ) (c : ℕ) (taken left : List ℕ) → IsUtf8 piece → text ≡ piece ++ rest → chars text ≡ c ∷ (taken ++ left) → chars rest ≡ left → chars piece ≡ c ∷ taken
piece-chars text piece rest c taken left u e f g =
    append_cancel_right (chars piece) (c ∷ taken) left (ap (λ r. chars piece ++ r) (sym g) ∙ sym (chars-append piece rest u) ∙ ap chars (sym e) ∙ f)

pub scan-same : (is_first : Bool) (c : ℕ) (cs : List ℕ) (m : Munched) → m.state ≡ (munch (begin is_first c) cs).state → m.left ≡ (munch (begin is_first c) cs).left → ((settled cs m).state ≡ (scan is_first c cs).state) × ((settled cs m).left ≡ (scan is_first c cs).left)
unfolding scan
scan-same is_first c cs m e f = settled-same cs m (munch (begin is_first c) cs) e f
