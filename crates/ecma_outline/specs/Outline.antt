-- The tokens of a text, and which brackets are open at each, told by single bytes.
use Rattle.std.specs.Prelude.{◌≡◌, ℕ, List, [], ◌∷◌, ◌++◌, ◌+◌, ◌==◌, ◌&&◌, ◌||◌, Bool, true, false, not, cond, nat_lt, if◌then◌else◌, length, get_or}
use Rattle.ecma_outline.specs.Bytes.{begun, ends_before, is_blank, is_dollar, is_newline, is_token, next_mode}
use Rattle.ecma_outline.specs.declared.bytes.Mode.{Mode}
use Rattle.ecma_outline.specs.declared.bytes.Mode.TheVariants as mode
use Rattle.ecma_outline.specs.declared.outline.Lexeme.{Lexeme}
use Rattle.ecma_outline.specs.declared.outline.Open.{Open}
use Rattle.ecma_outline.specs.declared.outline.Outline.{Outline}
use Rattle.ecma_outline.specs.declared.outline.State.{State}

abbrev pub no_open : Open
no_open = record { at = 0; indent = 0; parent = 0; lexeme = 0; closed = 0; is_part = false }

abbrev pub no_lexeme : Lexeme
no_lexeme = record { start = 0; end = 0; top = 0; misfit = 0; closed = 0 }

-- a token that begins here, and one that ends here
abbrev pub empty_at : State → Lexeme
empty_at s = record { start = s.at; end = s.at; top = s.top; misfit = s.misfit; closed = s.closed }

abbrev pub ended : State → Lexeme
ended s = record { start = s.pending.start; end = s.at; top = s.pending.top; misfit = s.pending.misfit; closed = s.pending.closed }

abbrev pub outset : State
outset = record { at = 0; mode = mode.Blank; last = 0; is_fresh = true; indent = 0; hold = 0; top = 0; misfit = 0; closed = 0; pending = no_lexeme }

abbrev pub ends : State → ℕ → Bool
ends s b = ends_before s.mode s.last b

abbrev pub begins : State → ℕ → Bool
begins s b = is_token (next_mode s.mode s.last b) && (not (is_token s.mode) || ends s b)

-- brackets: ( [ { and ) ] }
abbrev pub opens : State → ℕ → Bool
opens s b = begins s b && (b == 40 || b == 91 || b == 123)

abbrev pub closes : State → ℕ → Bool
closes s b = begins s b && (b == 41 || b == 93 || b == 125)

-- the indentation of a `{` behind a `)` is that of the `(`
abbrev pub indent_of : State → ℕ
indent_of s = if s.last == 41 then s.hold else s.indent

abbrev pub opened : State → (lexeme : ℕ) → Open
opened s n = record { at = s.at; indent = indent_of s; parent = s.top; lexeme = n; closed = s.closed; is_part = is_dollar s.mode }

-- The first bracket inside of what is open that one of another indentation closes. One that fits forgets those inside of it.
abbrev pub misfit_behind : State → Open → ℕ
misfit_behind s o =
    if not s.is_fresh then s.misfit
    else if nat_lt o.at s.misfit then (if s.indent == o.indent then 0 else s.misfit)
    else if s.indent == o.indent then s.misfit else o.at

abbrev with_top : State → ℕ → State
with_top s n = record {
  at = s.at;
  mode = s.mode;
  last = s.last;
  is_fresh = s.is_fresh;
  indent = s.indent;
  hold = s.hold;
  top = n;
  misfit = s.misfit;
  closed = s.closed;
  pending = s.pending;
}

-- a template goes on behind the `}` that closes a bracket of its own
abbrev pub mode_closed : Mode → Open → ℕ → Mode
mode_closed m o b = if o.is_part && b == 125 then mode.Quoted 96 else m

abbrev with_closed : (before behind : State) → Open → ℕ → State
with_closed r s o b = record {
  at = s.at;
  mode = mode_closed s.mode o b;
  last = s.last;
  is_fresh = s.is_fresh;
  indent = s.indent;
  hold = o.indent;
  top = o.parent;
  misfit = misfit_behind r o;
  closed = o.lexeme;
  pending = s.pending;
}

-- the state behind a byte with its brackets, by that before the byte and the innermost bracket that was open there
unfoldable pub with_brackets : (before behind : State) → Open → (count : ℕ) → ℕ → State
with_brackets r s o n b = if opens r b then with_top s n else if closes r b then with_closed r s o b else s

-- no line ends within a token, as in a template
abbrev pub ends_line : Mode → ℕ → Bool
ends_line m b = is_newline b && not (is_token m)

abbrev pub indent_behind : State → Mode → ℕ → ℕ
indent_behind s m b = if ends_line m b then 0 else if s.is_fresh && is_blank b then s.indent + 1 else s.indent

abbrev pub last_behind : State → Mode → ℕ → ℕ
last_behind s m b = if is_token m && not (b == 47) then b else s.last

unfoldable pub along : State → ℕ → State
along s b = record {
  at = s.at + 1;
  mode = next_mode s.mode s.last b;
  last = last_behind s (next_mode s.mode s.last b) b;
  is_fresh = ends_line (next_mode s.mode s.last b) b || (s.is_fresh && not (begins s b));
  indent = indent_behind s (next_mode s.mode s.last b) b;
  hold = s.hold;
  top = s.top;
  misfit = s.misfit;
  closed = s.closed;
  pending = if begins s b then empty_at s else s.pending;
}

-- a bracket and a token by their numbers
abbrev pub open_at : List Open → ℕ → Open
open_at xs n = get_or xs n no_open

abbrev pub lexeme_at : List Lexeme → ℕ → Lexeme
lexeme_at xs n = get_or xs n no_lexeme

abbrev pub count_at : List ℕ → ℕ → ℕ
count_at xs n = get_or xs n 0

-- a text read so far
pub record Scanned : Type 0 where
  pub state : State
  pub lexemes : List Lexeme
  pub opens : List Open
  pub counts : List ℕ

unfoldable pub scanned : State → Outline → Scanned
scanned s o = record { state = s; lexemes = o.lexemes.items; opens = o.opens.items; counts = o.counts.items }

abbrev pub ended_before : State → ℕ → List Lexeme
ended_before s b = if ends s b then ended s ∷ [] else []

abbrev pub opened_at : State → (lexeme : ℕ) → ℕ → List Open
opened_at s n b = if opens s b then opened s n ∷ [] else []

unfoldable pub step : Scanned → ℕ → Scanned
step r b = record {
  state = with_brackets r.state (along r.state b) (open_at r.opens r.state.top) (length r.opens) b;
  lexemes = r.lexemes ++ ended_before r.state b;
  opens = r.opens ++ opened_at r.state (length (r.lexemes ++ ended_before r.state b)) b;
  counts = r.counts ++ length (r.lexemes ++ ended_before r.state b) ∷ [];
}

abbrev pub scan : Scanned → List ℕ → Scanned
scan r [] = r
scan r (b ∷ bs) = scan (step r b) bs

abbrev pub start : Scanned
start = record { state = outset; lexemes = []; opens = no_open ∷ []; counts = [] }

-- The tokens of a text in order and one at its end, its brackets, and for each byte and the end the number of the token there or behind.
pub record Outlined : Type 0 where
  pub lexemes : List Lexeme
  pub opens : List Open
  pub counts : List ℕ

abbrev pub finish : Scanned → Outlined
finish r = record { lexemes = r.lexemes ++ empty_at r.state ∷ []; opens = r.opens; counts = r.counts }

-- the end is read as a line's end
unfoldable pub outlined : List ℕ → Outlined
outlined text = finish (step (scan start text) 10)

-- what is kept of a text
pub record IsOutline (text : List ℕ) (o : Outline) : Type 0 where
  pub lexemes : o.lexemes.items ≡ (outlined text).lexemes
  pub opens : o.opens.items ≡ (outlined text).opens
  pub counts : o.counts.items ≡ (outlined text).counts
