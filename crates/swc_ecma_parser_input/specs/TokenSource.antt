-- A source of tokens as contracts see it, and what its calls do.
use Rattle.std.specs.Prelude.{◌≡◌, ℕ, Bool, true, false, ◌&&◌, if◌then◌else◌, nat_le, List, [], ◌∷◌, ◌++◌, Option, Some, None}
use Rattle.swc_ecma_parser_common.specs.declared.span.BytePos.{BytePos}
use Rattle.swc_ecma_parser_common.specs.declared.span.Span.{Span}
use Rattle.swc_ecma_parser_error.specs.declared.error.Error.{Error}
use Rattle.swc_ecma_parser_error.specs.declared.kind.SyntaxError.{SyntaxError}
use Rattle.swc_ecma_parser_error.specs.declared.kind.SyntaxError.TheVariants as kind
use Rattle.swc_ecma_parser_token.specs.declared.token.Token.{Token}
use Rattle.swc_ecma_parser_token.specs.declared.token.Token.TheVariants as token
use Rattle.swc_ecma_parser_token.specs.declared.token.TokenAndSpan.{TokenAndSpan}
use Rattle.swc_ecma_parser_input.specs.declared.context.Context.{Context}
use Rattle.swc_ecma_parser_input.specs.declared.syntax.Syntax.{Syntax}

pub record TokenSource : Type 0 where
  -- the tokens left
  pub left : List TokenAndSpan
  pub context : Context
  pub syntax : Syntax
  pub start : BytePos
  -- the faults that are handed out, and those held back until the code is a module's
  pub recorded : List Error
  pub held_back : List Error

-- the empty span at which a source tells that memory ran out for it
abbrev pub at_start : TokenSource → Span
at_start s = record { lo = s.start; hi = s.start }

-- tokens one behind another from a position on
abbrev pub ordered_from : ℕ → List TokenAndSpan → Bool
ordered_from at [] = true
ordered_from at (t ∷ ts) = nat_le at t.span.lo.0 && (nat_le t.span.lo.0 t.span.hi.0 && ordered_from t.span.hi.0 ts)

abbrev pub is_ordered : TokenSource → Bool
is_ordered s = ordered_from s.start.0 s.left

-- an error token of kind OutOfMemory
abbrev pub means_out_of_memory : SyntaxError → Bool
means_out_of_memory kind.OutOfMemory = true
means_out_of_memory _ = false

abbrev pub is_out_of_memory : Token → Bool
is_out_of_memory (token.Error e) = means_out_of_memory e.kind
is_out_of_memory _ = false

-- a token handed out for the first one left: the same, or one that says that memory ran out, in its place
pub record IsDrawn (old : List TokenAndSpan) (t : TokenAndSpan) (new : List TokenAndSpan) : Type 0 where
  pub first : TokenAndSpan
  pub list : old ≡ first ∷ new
  pub span : t.span ≡ first.span
  pub had_line_break : t.had_line_break ≡ first.had_line_break
  pub same : is_out_of_memory t.token ≡ false → t ≡ first

abbrev pub DrawsFrom : List TokenAndSpan → Option TokenAndSpan → List TokenAndSpan → Type 0
DrawsFrom old None new = (old ≡ []) × (new ≡ [])
DrawsFrom old (Some t) new = IsDrawn old t new

-- nothing but the list changes
pub record Draws (old : TokenSource) (result : Option TokenAndSpan) (new : TokenSource) : Type 0 where
  pub draws : DrawsFrom old.left result new.left
  pub rest : new ≡ record old { left = new.left }

abbrev pub recording : Error → TokenSource → TokenSource
recording e s = record s { recorded = s.recorded ++ e ∷ [] }

abbrev pub holding_back : Error → TokenSource → TokenSource
holding_back e s = if s.context.module then recording e s else record s { held_back = s.held_back ++ e ∷ [] }

abbrev pub released : TokenSource → TokenSource
released s = record s { recorded = s.recorded ++ s.held_back; held_back = [] }

abbrev pub with_context : Context → TokenSource → TokenSource
with_context c s = if c.module then record (released s) { context = c } else record s { context = c }

abbrev pub start_of : List TokenAndSpan → BytePos
start_of [] = record { 0 = 0 }
start_of (t ∷ ts) = t.span.lo

-- a source of these tokens with no faults
abbrev pub of_list : Context → Syntax → List TokenAndSpan → TokenSource
of_list context syntax ts =
    record { left = ts; context = context; syntax = syntax; start = start_of ts; recorded = []; held_back = [] }
