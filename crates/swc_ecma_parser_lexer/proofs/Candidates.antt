-- A name that is spelled as a keyword has that keyword as its candidate.
use Rattle.std.proofs.Common.{◌≡◌, ℕ, Bool, true, false, cond, List, [], ◌∷◌, Option, Some, None, refl, ap, sym, ◌∙◌, subst}
use Rattle.std.specs.Str.{bytes_eq}
use Rattle.std.proofs.lemmas.Slice.Eq.{bytes_eq-Decides}
use Rattle.swc_ecma_parser_token.specs.declared.keyword.Keyword.{Keyword}
use Rattle.swc_ecma_parser_token.specs.declared.keyword.Keyword.TheVariants as keyword
use Rattle.swc_ecma_parser_token.specs.Text.{keyword_text}
use Rattle.swc_ecma_parser_lexer.specs.Make.{keyword_in, keywords}
use Rattle.swc_ecma_parser_lexer.specs.Candidates.{candidate, of_length, of_two, of_three, of_four, of_c_and_four, of_five, of_six, of_seven, of_eight}

-- each keyword is the candidate of its own text, and is found there
pub own : (k : Keyword) → (candidate (keyword_text k) ≡ Some k) × (keyword_in keywords (keyword_text k) ≡ Some k)
unfolding candidate of_length of_two of_three of_four of_c_and_four of_five of_six of_seven of_eight keyword_in
own keyword.Await = (refl, refl)
own keyword.Break = (refl, refl)
own keyword.Case = (refl, refl)
own keyword.Catch = (refl, refl)
own keyword.Continue = (refl, refl)
own keyword.Debugger = (refl, refl)
own keyword.Default = (refl, refl)
own keyword.Do = (refl, refl)
own keyword.Else = (refl, refl)
own keyword.Finally = (refl, refl)
own keyword.For = (refl, refl)
own keyword.Function = (refl, refl)
own keyword.If = (refl, refl)
own keyword.Return = (refl, refl)
own keyword.Switch = (refl, refl)
own keyword.Throw = (refl, refl)
own keyword.Try = (refl, refl)
own keyword.Var = (refl, refl)
own keyword.Let = (refl, refl)
own keyword.Const = (refl, refl)
own keyword.While = (refl, refl)
own keyword.With = (refl, refl)
own keyword.New = (refl, refl)
own keyword.This = (refl, refl)
own keyword.Super = (refl, refl)
own keyword.Class = (refl, refl)
own keyword.Extends = (refl, refl)
own keyword.Export = (refl, refl)
own keyword.Import = (refl, refl)
own keyword.Yield = (refl, refl)
own keyword.In = (refl, refl)
own keyword.InstanceOf = (refl, refl)
own keyword.TypeOf = (refl, refl)
own keyword.Void = (refl, refl)
own keyword.Delete = (refl, refl)

same-text : (xs ys : List ℕ) → bytes_eq xs ys ≡ true → xs ≡ ys
same-text xs ys h = (bytes_eq-Decides xs ys).0 h

found-turn : (b : Bool) (j k : Keyword) (rest : Option Keyword) (name : List ℕ) → bytes_eq (keyword_text j) name ≡ b → cond b (Some j) rest ≡ Some k → (rest ≡ Some k → bytes_eq (keyword_text k) name ≡ true) → bytes_eq (keyword_text k) name ≡ true
found-turn true j k rest name e f g =
    let same : j ≡ k = cc in
    ap (λ x. bytes_eq (keyword_text x) name) (sym same) ∙ e
found-turn false j k rest name e f g = g f

-- what is found is spelled so
found : (ks : List Keyword) (name : List ℕ) (k : Keyword) → keyword_in ks name ≡ Some k → bytes_eq (keyword_text k) name ≡ true
unfolding keyword_in
found [] name k e = cc
found (j ∷ ks) name k e = found-turn (bytes_eq (keyword_text j) name) j k (keyword_in ks name) name refl e (found ks name k)

-- a candidate with the text of the name is the keyword
pub candidate-right : (k : Keyword) (name : List ℕ) → bytes_eq (keyword_text k) name ≡ true → keyword_in keywords name ≡ Some k
candidate-right k name h = subst (λ xs. keyword_in keywords xs ≡ Some k) (same-text _ _ h) (own k).1

candidate-of : (k : Keyword) (name : List ℕ) → keyword_in keywords name ≡ Some k → candidate name ≡ Some k
candidate-of k name h = subst (λ xs. candidate xs ≡ Some k) (same-text _ _ (found keywords name k h)) (own k).0

wrong-turn : (name : List ℕ) (k : Keyword) (o : Option Keyword) → keyword_in keywords name ≡ o → candidate name ≡ Some k → bytes_eq (keyword_text k) name ≡ false → o ≡ None
wrong-turn name k None e f g = refl
wrong-turn name k (Some j) e f g =
    let h = candidate-of j name e in
    let same : j ≡ k = cc in
    let r = found keywords name j e in
    absurd (cc)

-- with another text it is none
pub candidate-wrong : (name : List ℕ) (k : Keyword) → candidate name ≡ Some k → bytes_eq (keyword_text k) name ≡ false → keyword_in keywords name ≡ None
candidate-wrong name k f g = wrong-turn name k (keyword_in keywords name) refl f g

none-turn : (name : List ℕ) (o : Option Keyword) → keyword_in keywords name ≡ o → candidate name ≡ None → o ≡ None
none-turn name None e f = refl
none-turn name (Some j) e f =
    let h = candidate-of j name e in
    absurd (cc)

-- without a candidate there is none
pub candidate-none : (name : List ℕ) → candidate name ≡ None → keyword_in keywords name ≡ None
candidate-none name f = none-turn name (keyword_in keywords name) refl f
