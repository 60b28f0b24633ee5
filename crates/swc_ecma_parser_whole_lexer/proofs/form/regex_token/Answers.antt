use Rattle.std.proofs.Common.{List, ℕ, ◌≡◌, ◌-◌, ap, arith, sym, ◌∙◌, take}
use Rattle.swc_ecma_parser_token.specs.declared.token.Token.TheVariants as token
use Rattle.swc_ecma_parser_whole_lexer.specs.Forms.{behind_first}
use Rattle.swc_ecma_parser_whole_lexer.proofs.Formed.{behind-bytes}
use Rattle.swc_ecma_parser_whole_lexer.proofs.form.regex_token.Goals as goal

pub returns : goal.returns
returns c =
    let flags = behind-bytes c.range_from.result.now c.behind.result.now c.behind.ensures c.behind.utf8 in
    let all : c.args.body - 0 ≡ c.args.body = omega arith in
    ap (λ (xs : List ℕ). token.Regex xs c.in_ok-new-2.field-0) (c.in_ok-new.ensures ∙ c.range.ensures.value)
    ∙ ap (λ (m : ℕ). token.Regex (take m c.args.inner.now) c.in_ok-new-2.field-0) all
    ∙ ap (λ (xs : List ℕ). token.Regex (take c.args.body c.args.inner.now) xs) (c.in_ok-new-2.ensures ∙ sym flags)
    ∙ ap (λ (xs : List ℕ). token.Regex (take c.args.body c.args.inner.now) (behind_first xs)) c.range_from.ensures.value
