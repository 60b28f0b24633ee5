-- The words that the code finds are those of the grammar.
use Rattle.std.proofs.Common.{◌≡◌, ℕ, List, Bool, true, false, not, ◌&&◌, ◌||◌, cond, refl, ap, sym, ◌∙◌}
use Rattle.std.specs.Prelude.{codes}
use Rattle.std.specs.Str.{bytes_eq}
use Rattle.swc_ecma_parser_token.specs.declared.keyword.Keyword.{Keyword}
use Rattle.swc_ecma_parser_token.specs.declared.keyword.Keyword.TheVariants as keyword
use Rattle.swc_ecma_parser_token.specs.declared.token.Word.{Word}
use Rattle.swc_ecma_parser_token.specs.declared.token.Word.TheVariants as word
use Rattle.swc_ecma_parser_token.specs.Text.{keyword_text, word_text}
use Rattle.swc_ecma_parser_input.specs.declared.context.Context.{Context}
use Rattle.swc_ecma_parser_grammar.specs.Names.{is_one_of, strict_words, is_reserved, is_identifier, is_clean_name, is_name}
use Rattle.swc_ecma_parser_reserved.specs.Special.{is_special}
use Rattle.swc_ecma_parser_reserved.specs.Words.{is_free_word, is_clean_word, is_free_keyword, is_clean_keyword}
use Rattle.swc_ecma_parser_reserved.proofs.Texts.{not-reserved, not-strict, no-text, yield-special, await-special}

neither : (s g : Bool) → not ((s && false) || (g && false)) ≡ true
neither true true = refl
neither true false = refl
neither false true = refl
neither false false = refl

first-alone : (s g : Bool) → not ((s && true) || (g && false)) ≡ not s
first-alone true true = refl
first-alone true false = refl
first-alone false true = refl
first-alone false false = refl

both : (s g : Bool) → not ((s && true) || (g && true)) ≡ not (s || g)
both true true = refl
both true false = refl
both false true = refl
both false false = refl

and-true : (x : Bool) → (x && true) ≡ x
and-true true = refl
and-true false = refl

free-text : (c : Context) (text : List ℕ) → is_special text ≡ false → is_identifier c text ≡ true
unfolding is_identifier is_reserved
free-text c text e =
    let strict = is_one_of strict_words text in
    let yields = bytes_eq text (codes "yield") in
    ap (λ x. not (x || ((c.strict && strict) || (c.in_generator && yields)))) (not-reserved text e)
    ∙ ap (λ x. not ((c.strict && x) || (c.in_generator && yields))) (not-strict text e)
    ∙ ap (λ x. not ((c.strict && false) || (c.in_generator && x))) (no-text (codes "yield") text yield-special e)
    ∙ neither c.strict c.in_generator

clean-text : (c : Context) (text : List ℕ) → is_special text ≡ false → is_name c text ≡ true
unfolding is_name is_clean_name
clean-text c text e =
    let unclean = c.module || (c.in_async || c.in_static_block) in
    ap (λ x. x && not (bytes_eq text (codes "await") && unclean)) (free-text c text e)
    ∙ ap (λ x. not (x && unclean)) (no-text (codes "await") text await-special e)

free-keyword : (c : Context) (k : Keyword) → is_free_keyword c k ≡ is_identifier c (keyword_text k)
unfolding is_identifier is_reserved is_free_keyword
free-keyword c keyword.Await = sym (neither c.strict c.in_generator)
free-keyword c keyword.Break = refl
free-keyword c keyword.Case = refl
free-keyword c keyword.Catch = refl
free-keyword c keyword.Continue = refl
free-keyword c keyword.Debugger = refl
free-keyword c keyword.Default = refl
free-keyword c keyword.Do = refl
free-keyword c keyword.Else = refl
free-keyword c keyword.Finally = refl
free-keyword c keyword.For = refl
free-keyword c keyword.Function = refl
free-keyword c keyword.If = refl
free-keyword c keyword.Return = refl
free-keyword c keyword.Switch = refl
free-keyword c keyword.Throw = refl
free-keyword c keyword.Try = refl
free-keyword c keyword.Var = refl
free-keyword c keyword.Let = sym (first-alone c.strict c.in_generator)
free-keyword c keyword.Const = refl
free-keyword c keyword.While = refl
free-keyword c keyword.With = refl
free-keyword c keyword.New = refl
free-keyword c keyword.This = refl
free-keyword c keyword.Super = refl
free-keyword c keyword.Class = refl
free-keyword c keyword.Extends = refl
free-keyword c keyword.Export = refl
free-keyword c keyword.Import = refl
free-keyword c keyword.Yield = sym (both c.strict c.in_generator)
free-keyword c keyword.In = refl
free-keyword c keyword.InstanceOf = refl
free-keyword c keyword.TypeOf = refl
free-keyword c keyword.Void = refl
free-keyword c keyword.Delete = refl

clean-other : (c : Context) (k : Keyword) → bytes_eq (keyword_text k) (codes "await") ≡ false → is_free_keyword c k ≡ is_name c (keyword_text k)
unfolding is_name is_clean_name
clean-other c k e =
    let text = keyword_text k in
    free-keyword c k ∙ sym (
    ap (λ x. is_identifier c text && not (x && (c.module || (c.in_async || c.in_static_block)))) e ∙ and-true (is_identifier c text)
    )

clean-await : (c : Context) → not (c.module || (c.in_async || c.in_static_block)) ≡ is_name c (keyword_text keyword.Await)
unfolding is_name is_clean_name is_free_keyword
clean-await c = ap (λ x. x && not (c.module || (c.in_async || c.in_static_block))) (free-keyword c keyword.Await)

clean-keyword : (c : Context) (k : Keyword) → is_clean_keyword c k ≡ is_name c (keyword_text k)
unfolding is_clean_keyword
clean-keyword c keyword.Await = clean-await c
clean-keyword c keyword.Break = clean-other c keyword.Break refl
clean-keyword c keyword.Case = clean-other c keyword.Case refl
clean-keyword c keyword.Catch = clean-other c keyword.Catch refl
clean-keyword c keyword.Continue = clean-other c keyword.Continue refl
clean-keyword c keyword.Debugger = clean-other c keyword.Debugger refl
clean-keyword c keyword.Default = clean-other c keyword.Default refl
clean-keyword c keyword.Do = clean-other c keyword.Do refl
clean-keyword c keyword.Else = clean-other c keyword.Else refl
clean-keyword c keyword.Finally = clean-other c keyword.Finally refl
clean-keyword c keyword.For = clean-other c keyword.For refl
clean-keyword c keyword.Function = clean-other c keyword.Function refl
clean-keyword c keyword.If = clean-other c keyword.If refl
clean-keyword c keyword.Return = clean-other c keyword.Return refl
clean-keyword c keyword.Switch = clean-other c keyword.Switch refl
clean-keyword c keyword.Throw = clean-other c keyword.Throw refl
clean-keyword c keyword.Try = clean-other c keyword.Try refl
clean-keyword c keyword.Var = clean-other c keyword.Var refl
clean-keyword c keyword.Let = clean-other c keyword.Let refl
clean-keyword c keyword.Const = clean-other c keyword.Const refl
clean-keyword c keyword.While = clean-other c keyword.While refl
clean-keyword c keyword.With = clean-other c keyword.With refl
clean-keyword c keyword.New = clean-other c keyword.New refl
clean-keyword c keyword.This = clean-other c keyword.This refl
clean-keyword c keyword.Super = clean-other c keyword.Super refl
clean-keyword c keyword.Class = clean-other c keyword.Class refl
clean-keyword c keyword.Extends = clean-other c keyword.Extends refl
clean-keyword c keyword.Export = clean-other c keyword.Export refl
clean-keyword c keyword.Import = clean-other c keyword.Import refl
clean-keyword c keyword.Yield = clean-other c keyword.Yield refl
clean-keyword c keyword.In = clean-other c keyword.In refl
clean-keyword c keyword.InstanceOf = clean-other c keyword.InstanceOf refl
clean-keyword c keyword.TypeOf = clean-other c keyword.TypeOf refl
clean-keyword c keyword.Void = clean-other c keyword.Void refl
clean-keyword c keyword.Delete = clean-other c keyword.Delete refl

word-null : (c : Context) → (is_identifier c (codes "null") ≡ false) × (is_name c (codes "null") ≡ false)
unfolding is_identifier is_reserved is_name is_clean_name
word-null c = (refl, refl)

word-true : (c : Context) → (is_identifier c (codes "true") ≡ false) × (is_name c (codes "true") ≡ false)
unfolding is_identifier is_reserved is_name is_clean_name
word-true c = (refl, refl)

word-false : (c : Context) → (is_identifier c (codes "false") ≡ false) × (is_name c (codes "false") ≡ false)
unfolding is_identifier is_reserved is_name is_clean_name
word-false c = (refl, refl)

chosen : (s v : Bool) → (s ≡ false → v ≡ true) → cond s v true ≡ v
chosen true v f = refl
chosen false v f = sym (f refl)

pub free-word : (c : Context) (w : Word) → is_free_word c w ≡ is_identifier c (word_text w)
unfolding is_free_word
free-word c (word.Keyword k) = free-keyword c k
free-word c word.Null = sym (word-null c).0
free-word c word.True = sym (word-true c).0
free-word c word.False = sym (word-false c).0
free-word c (word.Ident text) = chosen (is_special text) (is_identifier c text) (free-text c text)
free-word c (word.Escaped text) = chosen (is_special text) (is_identifier c text) (free-text c text)

pub clean-word : (c : Context) (w : Word) → is_clean_word c w ≡ is_name c (word_text w)
unfolding is_clean_word
clean-word c (word.Keyword k) = clean-keyword c k
clean-word c word.Null = sym (word-null c).1
clean-word c word.True = sym (word-true c).1
clean-word c word.False = sym (word-false c).1
clean-word c (word.Ident text) = chosen (is_special text) (is_name c text) (clean-text c text)
clean-word c (word.Escaped text) = chosen (is_special text) (is_name c text) (clean-text c text)
