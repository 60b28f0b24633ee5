-- Error tokens: what is taken is none where its kind is known, and no token is left where the list has ended.
use Rattle.swc_ecma_parser_reader.specs.State.{State, noted, recorded_at, recorded_in, fault}
use Rattle.swc_ecma_parser_error.specs.Kind.{Fault}
use Rattle.std.proofs.Common.{◌≡◌, ◌≢◌, suc, Bool, true, false, cond, List, [], ◌∷◌, refl, sym, ◌∙◌, ap, Ok}
use Rattle.std.specs.Prelude.{◌||◌}
use Rattle.swc_ecma_parser_token.specs.declared.kind.TokenKind.{TokenKind}
use Rattle.swc_ecma_parser_token.specs.declared.kind.TokenKind.TheVariants as kind
use Rattle.swc_ecma_parser_token.specs.declared.keyword.Keyword.{Keyword}
use Rattle.swc_ecma_parser_token.specs.declared.keyword.Keyword.TheVariants as keyword
use Rattle.swc_ecma_parser_token.specs.declared.operator.BinOpToken.{BinOpToken}
use Rattle.swc_ecma_parser_token.specs.declared.operator.BinOpToken.TheVariants as bin
use Rattle.swc_ecma_parser_token.specs.declared.operator.AssignOp.{AssignOp}
use Rattle.swc_ecma_parser_token.specs.declared.operator.AssignOp.TheVariants as assign
use Rattle.swc_ecma_parser_token.specs.declared.token.Token.{Token}
use Rattle.swc_ecma_parser_token.specs.declared.token.Token.TheVariants as token
use Rattle.swc_ecma_parser_token.specs.declared.token.Word.{Word}
use Rattle.swc_ecma_parser_token.specs.declared.token.Word.TheVariants as word
use Rattle.swc_ecma_parser_token.specs.declared.token.TokenAndSpan.{TokenAndSpan}
use Rattle.swc_ecma_parser_token.specs.Kind.{token_kind, word_kind, keyword_kind, bin_op_kind, assign_op_kind}
use Rattle.swc_ecma_parser_input.specs.TokenSource.{is_out_of_memory}
use Rattle.swc_ecma_parser_input.specs.Place.{Place, after, past}
use Rattle.swc_ecma_parser_grammar.specs.Looks.{kind_at, first_kind, same_kind, has_error_token}
use Rattle.swc_ecma_parser_reader.specs.Entry.{error_tokens}
use Rattle.swc_ecma_parser_reader.specs.Limits.{has_out_of_memory_token}

abbrev pub is_error : TokenKind → Bool
is_error kind.Error = true
is_error _ = false

-- no word is one
keyword_is_none : (k : Keyword) → is_error (keyword_kind k) ≡ false
keyword_is_none keyword.Await = refl
keyword_is_none _ = refl

pub word_is_none : (w : Word) → is_error (word_kind w) ≡ false
word_is_none (word.Keyword k) = keyword_is_none k
word_is_none _ = refl

-- a token of a list, and its kind
pub kind_here : (c : Place) (u : TokenAndSpan) (ts : List TokenAndSpan) (v : Token) → c.left ≡ u ∷ ts → u.token ≡ v → kind_at c ≡ token_kind v
unfolding kind_at
kind_here c u ts v e h = rw (e, h) refl

-- ---- between two places no error token was taken, and none that memory ran out for

pub record Spares (c d : Place) : Type 0 where
  pub counts : error_tokens c.left ≡ error_tokens d.left
  pub remembers : has_out_of_memory_token d.left ≡ false → has_out_of_memory_token c.left ≡ false

pub spares_here : (c : Place) → Spares c c
spares_here c = record { counts = refl; remembers = λ h. h }

both_false : (a b : Bool) → a ≡ false → b ≡ false → (a || b) ≡ false
both_false true b h g = h
both_false false b h g = g

-- a list that has none counts none
pub none_counted : (ts : List TokenAndSpan) → has_error_token ts ≡ false → error_tokens ts ≡ 0
none_counted [] h = refl
none_counted (t ∷ ts) h = by_kind (same_kind (token_kind t.token) kind.Error) (λ g. none_counted ts g) h
  where
    by_kind : (b : Bool) → (has_error_token ts ≡ false → error_tokens ts ≡ 0) → (b || has_error_token ts) ≡ false → cond b (suc (error_tokens ts)) (error_tokens ts) ≡ 0
    by_kind true f g = cc
    by_kind false f g = f g

-- a token that memory did not run out for is taken
past_remembers : (c : Place) (u : TokenAndSpan) (ts : List TokenAndSpan) → c.left ≡ u ∷ ts → is_out_of_memory u.token ≡ false → has_out_of_memory_token ts ≡ false
    → has_out_of_memory_token c.left ≡ false
past_remembers c u ts e h g = ap has_out_of_memory_token e ∙ both_false (is_out_of_memory u.token) (has_out_of_memory_token ts) h g

pub after_remembers : (c : Place) (u : TokenAndSpan) (ts : List TokenAndSpan) → c.left ≡ u ∷ ts → is_out_of_memory u.token ≡ false
    → has_out_of_memory_token (after c).left ≡ false → has_out_of_memory_token c.left ≡ false
unfolding after
after_remembers c u ts e h g = past_remembers c u ts e h (sym (ap (λ l. has_out_of_memory_token (past c l).left) e) ∙ g)

-- what is no error token
kind_is_none : (j : TokenKind) → is_error j ≡ false → same_kind j kind.Error ≡ false
unfolding same_kind
kind_is_none kind.Error h = h
kind_is_none _ h = refl

token_remembers : (v : Token) → is_error (token_kind v) ≡ false → is_out_of_memory v ≡ false
token_remembers (token.Error e) h = cc
token_remembers _ h = refl

past_spares : (c : Place) (ts : List TokenAndSpan) → c.left ≡ ts → is_error (first_kind ts) ≡ false → Spares c (past c ts)
past_spares c [] e h = spares_here c
past_spares c (u ∷ ts) e h = record {
  counts = ap error_tokens e ∙ ap (λ b. cond b (suc (error_tokens ts)) (error_tokens ts)) (kind_is_none (token_kind u.token) h);
  remembers = λ g. past_remembers c u ts e (token_remembers u.token h) g;
}

-- one whose kind is known is taken
pub spares_after : {j : TokenKind} (c : Place) → kind_at c ≡ j → is_error j ≡ false → Spares c (after c)
unfolding kind_at after
spares_after c e h = past_spares c c.left refl (ap is_error e ∙ h)

-- ---- the end of the list

-- no token is of the kind that stands for the end
keyword_no_end : (k : Keyword) → keyword_kind k ≢ kind.End
keyword_no_end keyword.Await e = cc
keyword_no_end _ e = cc

bin_op_no_end : (o : BinOpToken) → bin_op_kind o ≢ kind.End
bin_op_no_end bin.EqEq e = cc
bin_op_no_end _ e = cc

assign_op_no_end : (o : AssignOp) → assign_op_kind o ≢ kind.End
assign_op_no_end assign.Assign e = cc
assign_op_no_end _ e = cc

word_no_end : (w : Word) → word_kind w ≢ kind.End
word_no_end (word.Keyword k) e = keyword_no_end k e
word_no_end _ e = cc

token_no_end : (v : Token) → token_kind v ≢ kind.End
token_no_end (token.Word w) e = word_no_end w e
token_no_end (token.BinOp o) e = bin_op_no_end o e
token_no_end (token.AssignOp o) e = assign_op_no_end o e
token_no_end _ e = cc

nothing_in : (ts : List TokenAndSpan) → first_kind ts ≡ kind.End → ts ≡ []
nothing_in [] e = refl
nothing_in (u ∷ ts) e = absurd (token_no_end u.token e)

-- so where that kind stands first no token is left
pub nothing_at_end : (c : Place) → kind_at c ≡ kind.End → c.left ≡ []
unfolding kind_at
nothing_at_end c e = nothing_in c.left e

-- ---- a fault is recorded where no error token stands

recorded_at_reads : (g : Fault) (s : State) (t : Token) → is_error (token_kind t) ≡ false → recorded_at g s t ≡ Ok (tt, noted g s)
recorded_at_reads g s (token.Error e) h = cc
recorded_at_reads g s _ h = refl

recorded_in_reads : (g : Fault) (s : State) (ts : List TokenAndSpan) → s.at.left ≡ ts → is_error (kind_at s.at) ≡ false → recorded_in g s ts ≡ Ok (tt, noted g s)
unfolding kind_at
recorded_in_reads g s [] e h = refl
recorded_in_reads g s (t ∷ ts) e h = recorded_at_reads g s t.token (rw e at h)

pub fault_here : (s : State) (g : Fault) → is_error (kind_at s.at) ≡ false → fault g s ≡ Ok (tt, noted g s)
unfolding fault
fault_here s g e = recorded_in_reads g s s.at.left refl e
