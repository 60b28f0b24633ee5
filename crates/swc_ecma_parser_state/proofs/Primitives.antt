-- The steps that look for an error token first, by whether one stands there.
use Rattle.std.proofs.Common.{◌≡◌, true, false, List, [], ◌∷◌, Some, None, Ok, Err, refl, ap, ◌∙◌}
use Rattle.std.specs.Prelude.{is_none}
use Rattle.swc_ecma_parser_common.specs.declared.span.Span.{Span}
use Rattle.swc_ecma_parser_error.specs.declared.error.Error.{Error}
use Rattle.swc_ecma_parser_error.specs.Kind as faults
use Rattle.swc_ecma_parser_error.specs.Kind.{Kind, Fault, fault_of}
use Rattle.swc_ecma_parser_token.specs.declared.token.Token.{Token}
use Rattle.swc_ecma_parser_token.specs.declared.token.Token.TheVariants as token
use Rattle.swc_ecma_parser_token.specs.declared.token.TokenAndSpan.{TokenAndSpan}
use Rattle.swc_ecma_parser_input.specs.TokenSource.{means_out_of_memory}
use Rattle.swc_ecma_parser_input.specs.Place.{first, past, after}
use Rattle.swc_ecma_parser_grammar.specs.Looks.{span_at}
use Rattle.swc_ecma_parser_reader.specs.declared.mark.Mark.TheVariants as mark
use Rattle.swc_ecma_parser_reader.specs.State.{State, moved, noted, fault, recorded_in, recorded_at, fault_at, end_of, wanted, wanted_in, wanted_at, too_deep, too_deep_in, too_deep_at, marked, refuse, refuse_in, refuse_at, refused}
use Rattle.swc_ecma_parser_reader.specs.Recovery.{passed_at, passed_in, any_token}
use Rattle.swc_ecma_parser_state.specs.FirstError.{error_of, first_error}

-- ---- recording

recorded_plain_at : (f : Fault) (s : State) (t : Token) → error_of t ≡ None → recorded_at f s t ≡ Ok (tt, noted f s)
recorded_plain_at f s (token.Error e) h = cc
recorded_plain_at f s _ h = refl

recorded_plain_in : (f : Fault) (s : State) (ts : List TokenAndSpan) → first_error ts ≡ None → recorded_in f s ts ≡ Ok (tt, noted f s)
recorded_plain_in f s [] h = refl
recorded_plain_in f s (t ∷ ts) h = recorded_plain_at f s t.token h

pub fault_plain : (f : Fault) (s : State) → first_error s.at.left ≡ None → fault f s ≡ Ok (tt, noted f s)
unfolding fault
fault_plain f s h = recorded_plain_in f s s.at.left h

same_error : (d e : Error) → Some d ≡ Some e → d ≡ e
same_error d e h = cc

recorded_error_at : (f : Fault) (s : State) (t : Token) (e : Error) → error_of t ≡ Some e → means_out_of_memory e.kind ≡ false → recorded_at f s t ≡ Ok (tt, noted f (noted (fault_of e) (moved s)))
recorded_error_at f s (token.Error d) e h g = let k : d ≡ e = same_error d e h in rw (k, g) refl
recorded_error_at f s _ e h g = cc

recorded_error_in : (f : Fault) (s : State) (ts : List TokenAndSpan) (e : Error) → first_error ts ≡ Some e → means_out_of_memory e.kind ≡ false → recorded_in f s ts ≡ Ok (tt, noted f (noted (fault_of e) (moved s)))
recorded_error_in f s [] e h g = cc
recorded_error_in f s (t ∷ ts) e h g = recorded_error_at f s t.token e h g

pub fault_error : (f : Fault) (s : State) (e : Error) → first_error s.at.left ≡ Some e → means_out_of_memory e.kind ≡ false → fault f s ≡ Ok (tt, noted f (noted (fault_of e) (moved s)))
unfolding fault
fault_error f s e h g = recorded_error_in f s s.at.left e h g

-- ---- any token

any_plain_at : (s : State) (t : Token) → error_of t ≡ None → passed_at s t ≡ Ok (tt, moved s)
any_plain_at s (token.Error e) h = cc
any_plain_at s _ h = refl

any_plain_in : (s : State) (ts : List TokenAndSpan) → s.at.left ≡ ts → first_error ts ≡ None → passed_in s ts ≡ Ok (tt, record s { at = past s.at ts })
unfolding after
any_plain_in s [] q h = refl
any_plain_in s (t ∷ ts) q h = any_plain_at s t.token h ∙ ap (λ l. Ok (tt, record s { at = past s.at l })) q

pub any_plain : (s : State) → first_error s.at.left ≡ None → any_token s ≡ Ok (tt, moved s)
unfolding any_token after
any_plain s h = any_plain_in s s.at.left refl h

any_error_at : (s : State) (t : Token) (e : Error) → error_of t ≡ Some e → means_out_of_memory e.kind ≡ false → passed_at s t ≡ Ok (tt, moved s)
any_error_at s (token.Error d) e h g = let k : d ≡ e = same_error d e h in rw (k, g) refl
any_error_at s _ e h g = cc

any_error_in : (s : State) (ts : List TokenAndSpan) (e : Error) → first_error ts ≡ Some e → means_out_of_memory e.kind ≡ false → passed_in s ts ≡ Ok (tt, moved s)
any_error_in s [] e h g = cc
any_error_in s (t ∷ ts) e h g = any_error_at s t.token e h g

pub any_error : (s : State) (e : Error) → first_error s.at.left ≡ Some e → means_out_of_memory e.kind ≡ false → any_token s ≡ Ok (tt, moved s)
unfolding any_token
any_error s e h g = any_error_in s s.at.left e h g

-- ---- what is wanted

module _ (A : Type 0) where
  wanted_error_at : (k : Kind) (s : State) (t : Token) (span : Span) (e : Error) → error_of t ≡ Some e → wanted_at {A = A} k s t span ≡ Err (fault_of e, moved s)
  wanted_error_at k s (token.Error d) span e h = let j : d ≡ e = same_error d e h in rw j refl
  wanted_error_at k s _ span e h = cc

  wanted_error_in : (k : Kind) (s : State) (ts : List TokenAndSpan) (e : Error) → first_error ts ≡ Some e → wanted_in {A = A} k s ts ≡ Err (fault_of e, moved s)
  wanted_error_in k s [] e h = cc
  wanted_error_in k s (t ∷ ts) e h = wanted_error_at k s t.token t.span e h

  pub wanted_error : (k : Kind) (s : State) (e : Error) → first_error s.at.left ≡ Some e → wanted {A = A} k s ≡ Err (fault_of e, moved s)
  unfolding wanted
  wanted_error k s e h = wanted_error_in k s s.at.left e h

  wanted_end_in : (k : Kind) (s : State) (ts : List TokenAndSpan) → is_none (first ts) ≡ true → wanted_in {A = A} k s ts ≡ Err (fault_at (end_of s.at.last) faults.Eof, s)
  wanted_end_in k s [] h = refl
  wanted_end_in k s (t ∷ ts) h = cc

  pub wanted_end : (k : Kind) (s : State) → is_none (first s.at.left) ≡ true → wanted {A = A} k s ≡ Err (fault_at (end_of s.at.last) faults.Eof, s)
  unfolding wanted
  wanted_end k s h = wanted_end_in k s s.at.left h

  wanted_plain_at : (k : Kind) (s : State) (t : Token) (span : Span) → error_of t ≡ None → wanted_at {A = A} k s t span ≡ Err (fault_at span k, s)
  wanted_plain_at k s (token.Error e) span h = cc
  wanted_plain_at k s _ span h = refl

  wanted_plain_in : (k : Kind) (s : State) (ts : List TokenAndSpan) → s.at.left ≡ ts → is_none (first ts) ≡ false → first_error ts ≡ None → wanted_in {A = A} k s ts ≡ Err (fault_at (span_at s.at) k, s)
  unfolding span_at
  wanted_plain_in k s [] q h g = cc
  wanted_plain_in k s (t ∷ ts) q h g = wanted_plain_at k s t.token t.span g ∙ rw q refl

  pub wanted_plain : (k : Kind) (s : State) → is_none (first s.at.left) ≡ false → first_error s.at.left ≡ None → wanted {A = A} k s ≡ Err (fault_at (span_at s.at) k, s)
  unfolding wanted
  wanted_plain k s h g = wanted_plain_in k s s.at.left refl h g

  -- ---- too deep

  deep_error_at : (s : State) (t : Token) (span : Span) (e : Error) → error_of t ≡ Some e → too_deep_at {A = A} s t span ≡ Err (fault_of e, moved s)
  deep_error_at s (token.Error d) span e h = let j : d ≡ e = same_error d e h in rw j refl
  deep_error_at s _ span e h = cc

  deep_error_in : (s : State) (ts : List TokenAndSpan) (e : Error) → first_error ts ≡ Some e → too_deep_in {A = A} s ts ≡ Err (fault_of e, moved s)
  deep_error_in s [] e h = cc
  deep_error_in s (t ∷ ts) e h = deep_error_at s t.token t.span e h

  pub deep_error : (s : State) (e : Error) → first_error s.at.left ≡ Some e → too_deep {A = A} s ≡ Err (fault_of e, moved s)
  unfolding too_deep
  deep_error s e h = deep_error_in s s.at.left e h

  deep_end_in : (s : State) (ts : List TokenAndSpan) → is_none (first ts) ≡ true → too_deep_in {A = A} s ts ≡ Err (fault_at (end_of s.at.last) faults.Eof, s)
  deep_end_in s [] h = refl
  deep_end_in s (t ∷ ts) h = cc

  pub deep_end : (s : State) → is_none (first s.at.left) ≡ true → too_deep {A = A} s ≡ Err (fault_at (end_of s.at.last) faults.Eof, s)
  unfolding too_deep
  deep_end s h = deep_end_in s s.at.left h

  deep_plain_at : (s : State) (t : Token) (span : Span) → error_of t ≡ None → too_deep_at {A = A} s t span ≡ Err (fault_at span faults.TooDeep, marked mark.TooDeep s)
  deep_plain_at s (token.Error e) span h = cc
  deep_plain_at s _ span h = refl

  deep_plain_in : (s : State) (ts : List TokenAndSpan) → s.at.left ≡ ts → is_none (first ts) ≡ false → first_error ts ≡ None → too_deep_in {A = A} s ts ≡ Err (fault_at (span_at s.at) faults.TooDeep, marked mark.TooDeep s)
  unfolding span_at
  deep_plain_in s [] q h g = cc
  deep_plain_in s (t ∷ ts) q h g = deep_plain_at s t.token t.span g ∙ rw q refl

  pub deep_plain : (s : State) → is_none (first s.at.left) ≡ false → first_error s.at.left ≡ None → too_deep {A = A} s ≡ Err (fault_at (span_at s.at) faults.TooDeep, marked mark.TooDeep s)
  unfolding too_deep
  deep_plain s h g = deep_plain_in s s.at.left refl h g

  -- ---- the parser's own refusals

  refuse_error_at : (k : Kind) (s : State) (t : Token) (span : Span) (e : Error) → error_of t ≡ Some e → means_out_of_memory e.kind ≡ false → refuse_at {A = A} k s t span ≡ refused (fault_at span k) (fault (fault_of e) (moved s))
  refuse_error_at k s (token.Error d) span e h g = let j : d ≡ e = same_error d e h in rw (j, g) refl
  refuse_error_at k s _ span e h g = cc

  refuse_error_in : (k : Kind) (s : State) (ts : List TokenAndSpan) (e : Error) → s.at.left ≡ ts → first_error ts ≡ Some e → means_out_of_memory e.kind ≡ false → refuse_in {A = A} k s ts ≡ refused (fault_at (span_at s.at) k) (fault (fault_of e) (moved s))
  unfolding span_at
  refuse_error_in k s [] e q h g = cc
  refuse_error_in k s (t ∷ ts) e q h g = refuse_error_at k s t.token t.span e h g ∙ rw q refl

  pub refuse_error : (k : Kind) (s : State) (e : Error) → first_error s.at.left ≡ Some e → means_out_of_memory e.kind ≡ false → refuse {A = A} k s ≡ refused (fault_at (span_at s.at) k) (fault (fault_of e) (moved s))
  unfolding refuse
  refuse_error k s e h g = refuse_error_in k s s.at.left e refl h g

  refuse_plain_at : (k : Kind) (s : State) (t : Token) (span : Span) → error_of t ≡ None → refuse_at {A = A} k s t span ≡ Err (fault_at span k, s)
  refuse_plain_at k s (token.Error e) span h = cc
  refuse_plain_at k s _ span h = refl

  refuse_plain_in : (k : Kind) (s : State) (ts : List TokenAndSpan) → s.at.left ≡ ts → first_error ts ≡ None → refuse_in {A = A} k s ts ≡ Err (fault_at (span_at s.at) k, s)
  unfolding span_at
  refuse_plain_in k s [] q h = rw q refl
  refuse_plain_in k s (t ∷ ts) q h = refuse_plain_at k s t.token t.span h ∙ rw q refl

  pub refuse_plain : (k : Kind) (s : State) → first_error s.at.left ≡ None → refuse {A = A} k s ≡ Err (fault_at (span_at s.at) k, s)
  unfolding refuse
  refuse_plain k s h = refuse_plain_in k s s.at.left refl h

  pub refuse_recorded : (k : Kind) (s t : State) (e : Error) → first_error s.at.left ≡ Some e → means_out_of_memory e.kind ≡ false → fault (fault_of e) (moved s) ≡ Ok (tt, t)
      → refuse {A = A} k s ≡ Err (fault_at (span_at s.at) k, t)
  refuse_recorded k s t e h g r = refuse_error k s e h g ∙ ap (refused (fault_at (span_at s.at) k)) r

  pub refuse_failed : (k : Kind) (s : State) (e : Error) (p : Fault × State) → first_error s.at.left ≡ Some e → means_out_of_memory e.kind ≡ false → fault (fault_of e) (moved s) ≡ Err p
      → refuse {A = A} k s ≡ Err p
  refuse_failed k s e p h g r = refuse_error k s e h g ∙ ap (refused (fault_at (span_at s.at) k)) r
