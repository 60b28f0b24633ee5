-- What the steps of a reader leave in order.
use Rattle.std.proofs.Common.{◌≡◌, ℕ, ◌≤◌, Bool, true, List, [], ◌∷◌, Some, Ok, Err, refl, sym, subst, le_trans, le-leb}
use Rattle.std.specs.Prelude.{◌&&◌, nat_eq}
use Rattle.swc_ecma_parser_common.specs.declared.span.Span.{Span}
use Rattle.swc_ecma_parser_error.specs.Kind as faults
use Rattle.swc_ecma_parser_error.specs.Kind.{Kind, Fault}
use Rattle.swc_ecma_parser_token.specs.declared.kind.TokenKind.{TokenKind}
use Rattle.swc_ecma_parser_token.specs.declared.kind.TokenKind.TheVariants as kind
use Rattle.swc_ecma_parser_token.specs.declared.token.Token.{Token}
use Rattle.swc_ecma_parser_token.specs.declared.token.Token.TheVariants as token
use Rattle.swc_ecma_parser_token.specs.declared.token.TokenAndSpan.{TokenAndSpan}
use Rattle.swc_ecma_parser_token.specs.Text.{word_text}
use Rattle.swc_ecma_parser_input.specs.TokenSource.{means_out_of_memory}
use Rattle.swc_ecma_parser_input.specs.declared.context.Context.{Context}
use Rattle.swc_ecma_parser_input.specs.Place.{Place, after}
use Rattle.swc_ecma_parser_model.specs.declared.leaves.Ident.{Ident}
use Rattle.swc_ecma_parser_model.specs.Forms.{span_of}
use Rattle.swc_ecma_parser_model.specs.Tree as tree
use Rattle.swc_ecma_parser_model.specs.Tree.{Tree, Text}
use Rattle.swc_ecma_parser_grammar.specs.Ends.{can_end}
use Rattle.swc_ecma_parser_grammar.specs.Follows.{word_at}
use Rattle.swc_ecma_parser_grammar.specs.Looks.{sees, first_span, span_at}
use Rattle.swc_ecma_parser_grammar.specs.Names.{Code, is_name, is_identifier, may_bind_await}
use Rattle.swc_ecma_parser_span_order.specs.Forward.{is_forward, forward}
use Rattle.swc_ecma_parser_reader.specs.Jumps.{told}
use Rattle.swc_ecma_parser_reader.specs.State.{State, Outcome, Reader, moved, coded, within, recorded_at, recorded_in, fault, fault_at, expect, expect_word, end, unclean_name, name_by, name_in, name, reference, as_name, enclosed, unlabelled}
use Rattle.swc_ecma_parser_reader.specs.Words.{word_by, word_in, any_word, touching_word, private_name}
use Rattle.swc_ecma_parser_reader.proofs.Behind.{Kept, Lost}
use Rattle.swc_ecma_parser_reader.proofs.Meets.{Answers, Meets, meets_then, meets_if, wanted_meets, refuse_meets}
use Rattle.swc_ecma_parser_reader.proofs.expressions.SoundSteps.{reject_meets, meets_as}
use Rattle.swc_ecma_parser_span_order.proofs.Places.{far, Here, Past, Ahead, Passed, Read, ReadMany, ReadName, Straight, StraightMany, reads_many, Whole, both, onward, taken, next, behind, node, reads, past_behind, span_forward, span_reaches, whole_less, named_less}

-- what loses nothing leaves the order
pub kept_past : {A : Type 0} (m : ℕ) (s : State) → Past m s.at → (o : Outcome A) → Answers (Kept s) (Lost s) o → Meets (Passed m) o
kept_past m s h (Ok p) k = past_behind m s p.1 h k.0
kept_past m s h (Err e) k = tt

-- ---- recording

module _ (m : ℕ) (s : State) (h : Past m s.at) where
  recorded_at_past : (f : Fault) (v : Token) → Meets (Passed m) (recorded_at f s v)
  recorded_at_past f (token.Error e) = meets_if (Passed m) (means_out_of_memory e.kind) _ _ (λ _. tt) (λ _. next h)
  recorded_at_past f _ = h

  recorded_in_past : (f : Fault) (ts : List TokenAndSpan) → Meets (Passed m) (recorded_in f s ts)
  recorded_in_past f [] = h
  recorded_in_past f (t ∷ ts) = recorded_at_past f t.token

  pub fault_past : (f : Fault) → Meets (Passed m) (fault f s)
  unfolding fault
  fault_past f = recorded_in_past f s.at.left

pub told_past : (m : ℕ) (fs : List Fault) (s : State) → Past m s.at → Meets (Passed m) (told fs s)
told_past m [] s h = h
told_past m (f ∷ fs) s h = meets_then (Passed m) (fault f s) _ (fault_past m s h f) (λ _ t g. told_past m fs t g)

-- ---- fixed tokens and ends

pub expect_past : (m : ℕ) (k : TokenKind) (s : State) → Past m s.at → Meets (Passed m) (expect k s)
unfolding expect
expect_past m k s h = meets_if (Passed m) (sees k s.at) _ _ (λ _. next h) (λ _. refuse_meets (Passed m) faults.Expected s)

pub expect_first : (m : ℕ) (k : TokenKind) (s : State) → Ahead m s.at → Meets (Passed m) (expect k s)
unfolding expect
expect_first m k s h = meets_if (Passed m) (sees k s.at) _ _ (λ _. taken h) (λ _. refuse_meets (Passed m) faults.Expected s)

pub expect_word_past : (m : ℕ) (text : Text) (s : State) → Past m s.at → Meets (Passed m) (expect_word text s)
unfolding expect_word
expect_word_past m text s h = meets_if (Passed m) (word_at text s.at) _ _ (λ _. next h) (λ _. refuse_meets (Passed m) faults.Expected s)

pub end_past : (m : ℕ) (missing : Kind) (s : State) → Past m s.at → Meets (Passed m) (end missing s)
unfolding end
end_past m missing s h = meets_if (Passed m) (sees kind.Semi s.at) _ _ (λ _. next h) (λ _. meets_if (Passed m) (can_end s.at) _ _ (λ _. h) (λ _. refuse_meets (Passed m) missing s))

-- ---- names

module _ (s : State) (f : Here s.at) where
  -- what has the span of the first token
  named_here : (i : Ident) (t : State) → i.span ≡ span_at s.at → Past (far (after s.at)) t.at → ReadName (far (after s.at)) i t
  named_here i t e g = record {
    straight = subst (λ (z : Span). is_forward z ≡ true) (sym e) (span_forward s.at f);
    reaches = subst (λ (z : Span). far (after s.at) ≤ z.hi.0) (sym e) (span_reaches s.at f);
    place = g;
  }

  unclean_past : (i : Ident) → i.span ≡ span_at s.at → Meets (ReadName (far (after s.at))) (unclean_name i s)
  unfolding unclean_name
  unclean_past i e = meets_if _ (may_bind_await s.code.flags) _ _
      (λ _. meets_then _ (fault _ (moved s)) _ (fault_past (far (after s.at)) (moved s) (behind f) (fault_at i.span faults.InvalidIdentInAsync)) (λ _ t g. named_here i t e g))
      (λ _. wanted_meets _ faults.ExpectedIdent s)

  name_by_past : (missing : Kind) (v : Token) (span : Span) → span ≡ span_at s.at → Meets (ReadName (far (after s.at))) (name_by missing s v span)
  name_by_past missing (token.Word w) span e = meets_if _ (is_name s.code.flags (word_text w)) _ _ (λ _. named_here (record { span = span; sym = word_text w }) (moved s) e (behind f))
      (λ _. meets_if _ (is_identifier s.code.flags (word_text w)) _ _ (λ _. unclean_past (record { span = span; sym = word_text w }) e) (λ _. wanted_meets _ missing s))
  name_by_past missing _ span e = wanted_meets _ missing s

  name_in_past : (missing : Kind) (ts : List TokenAndSpan) → first_span s.at.last ts ≡ span_at s.at → Meets (ReadName (far (after s.at))) (name_in missing s ts)
  name_in_past missing [] e = wanted_meets _ missing s
  name_in_past missing (t ∷ ts) e = name_by_past missing t.token t.span e

  pub name_past : (missing : Kind) → Meets (ReadName (far (after s.at))) (name missing s)
  unfolding name span_at
  name_past missing = name_in_past missing s.at.left refl

  pub reference_past : (missing : Kind) → Meets (ReadName (far (after s.at))) (reference missing s)
  unfolding reference
  reference_past missing = meets_if _ (s.code.flags.in_async && sees kind.Await s.at) _ _ (λ _. wanted_meets _ faults.ExpectedIdent s) (λ _. name_past missing)

  -- ---- words, reserved or not

  word_by_past : (v : Token) (span : Span) → span ≡ span_at s.at → Meets (ReadName (far (after s.at))) (word_by s v span)
  word_by_past (token.Word w) span e = named_here (record { span = span; sym = word_text w }) (moved s) e (behind f)
  word_by_past _ span e = wanted_meets _ faults.ExpectedIdent s

  word_in_past : (ts : List TokenAndSpan) → first_span s.at.last ts ≡ span_at s.at → Meets (ReadName (far (after s.at))) (word_in s ts)
  word_in_past [] e = wanted_meets _ faults.ExpectedIdent s
  word_in_past (t ∷ ts) e = word_by_past t.token t.span e

  pub any_word_past : Meets (ReadName (far (after s.at))) (any_word s)
  unfolding any_word span_at
  any_word_past = word_in_past s.at.left refl

  touching_past : Meets (ReadName (far (after s.at))) (touching_word s)
  unfolding touching_word
  touching_past = meets_if _ (nat_eq s.at.last.hi.0 (span_at s.at).lo.0) _ _ (λ _. any_word_past) (λ _. wanted_meets _ faults.ExpectedIdent s)

-- `#` and its word
pub private_straight : Straight private_name
unfolding private_name
private_straight s f = let g = behind f in
    meets_then _ (touching_word (moved s)) _ (touching_past (moved s) g.here) (λ i t h.
    node (span_at s.at) _ f.begins (further g h.place) (λ e. both e h.straight) refl)
  where
    further : {c d : Place} → Past (far (after s.at)) c → Past (far (after c)) d → Past (far (after s.at)) d
    further g h = record { here = h.here; gone = le_trans (onward g).ahead h.gone }

-- a name as a tree, where it may be as long as it was read
pub ident_whole : {m : ℕ} (i : Ident) (t : State) → ReadName m i t → Read m (tree.ident i.span i.sym) t
ident_whole i t h = record { straight = h.straight; reaches = h.reaches; place = h.place }

-- the same of a name that may be as long as was read with the first token
pub name_ahead : {m : ℕ} (missing : Kind) (s : State) → Ahead m s.at → Meets (ReadName m) (name missing s)
name_ahead missing s a = meets_as (name missing s) (name_past s a.here missing) (λ i t h. named_less a.ahead h)

-- a word that was read before is a name
pub as_name_past : (m : ℕ) (may_await : Context → Bool) (span : Span) (text : Text) (s : State) → Past m s.at → Meets (Passed m) (as_name may_await span text s)
unfolding as_name
as_name_past m may_await span text s h = meets_if (Passed m) (is_name s.code.flags text) _ _ (λ _. h)
    (λ _. meets_if (Passed m) (may_await s.code.flags && is_identifier s.code.flags text) _ _ (λ _. fault_past m s h (fault_at span faults.InvalidIdentInAsync)) (λ _. reject_meets (Passed m) _ s))

-- ---- other flags, and the body of a function

pub within_reads : (p : Reader Tree) → Straight p → {m : ℕ} (change : Code → Code) (s : State) → Ahead m s.at → Meets (Read m) (within change p s)
within_reads p below change s a = meets_then _ (p (coded (change s.code) s)) _ (reads p below (coded (change s.code) s) a) (λ x t h. h)

pub enclosed_reads : (p : Reader Tree) → Straight p → {m : ℕ} (s : State) → Ahead m s.at → Meets (Read m) (enclosed p s)
enclosed_reads p below s a = meets_then _ (p (unlabelled s)) _ (reads p below (unlabelled s) a) (λ x t h. h)

-- ---- what may have been read up to the first token or beyond it

abbrev pub Looked : {A : Type 0} → ℕ → A → State → Type 0
Looked m x t = Ahead m t.at

module _ (m : ℕ) (s : State) (a : Ahead m s.at) where
  recorded_at_ahead : (f : Fault) (v : Token) → Meets (Looked m) (recorded_at f s v)
  recorded_at_ahead f (token.Error e) = meets_if (Looked m) (means_out_of_memory e.kind) _ _ (λ _. tt) (λ _. onward (taken a))
  recorded_at_ahead f _ = a

  recorded_in_ahead : (f : Fault) (ts : List TokenAndSpan) → Meets (Looked m) (recorded_in f s ts)
  recorded_in_ahead f [] = a
  recorded_in_ahead f (t ∷ ts) = recorded_at_ahead f t.token

  pub fault_ahead : (f : Fault) → Meets (Looked m) (fault f s)
  unfolding fault
  fault_ahead f = recorded_in_ahead f s.at.left

-- ---- dots, and what stands behind them

-- from the first token to the end of what was read behind it
pub record Dotted (s : State) (x : Tree) (c : Place) : Type 0 where
  pub dots : is_forward (span_at s.at) ≡ true
  pub span : is_forward (span_of (tree.element (Some (span_at s.at)) x)) ≡ true
  pub whole : Whole (far (after s.at)) x c

pub dotted_by : (s : State) → Here s.at → (x : Tree) (c : Place) → Whole (far (after (after s.at))) x c → Dotted s x c
dotted_by s f x c h = let g = behind f in record {
  dots = span_forward s.at f;
  span = le-leb (span_at s.at).lo.0 (span_of x).hi.0 (le_trans f.begins (le_trans g.here.goes_on h.reaches));
  whole = whole_less g.here.goes_on h;
}

-- ---- parts that may be left out, and lists

-- a part that may have been left out before the first token
pub record Maybe (m : ℕ) (x : Tree) (c : Place) : Type 0 where
  pub straight : forward x ≡ true
  pub ahead : Ahead m c

abbrev pub ReadMaybe : ℕ → Tree → State → Type 0
ReadMaybe m x t = Maybe m x t.at

pub within_many : (p : Reader (List Tree)) → StraightMany p → {m : ℕ} (change : Code → Code) (s : State) → Ahead m s.at → Meets (ReadMany m) (within change p s)
within_many p below change s a = meets_then _ (p (coded (change s.code) s)) _ (reads_many p below (coded (change s.code) s) a) (λ x t h. h)
