use Rattle.std.proofs.Common.{subst, List, ℕ, Some, ap, sym, ◌∙◌}
use Rattle.swc_ecma_parser_whole_lexer.specs.declared.form.Form.{Form}
use Rattle.swc_ecma_parser_whole_lexer.specs.Forms.{before_mark, regex_token, token_anew, Fits, FitsPart, FitsRegex}
use Rattle.swc_ecma_parser_whole_lexer.specs.Templates.{part}
use Rattle.swc_ecma_parser_whole_lexer.proofs.Formed.{behind-bytes}
use Rattle.swc_ecma_parser_whole_lexer.proofs.form.token_anew.Goals as goal

pub regex_token-requires : goal.regex_token-requires
regex_token-requires c =
    subst (FitsRegex c.in-Regex.body) (behind-bytes c.args.text.now c.behind.result.now c.behind.ensures c.behind.utf8)
    (subst (λ (f : Form). Fits f c.args.text.now) c.in-Regex.is c.requires)

pub before_mark-requires : goal.before_mark-requires
before_mark-requires c =
    subst (FitsPart c.in-Part.is_last) (behind-bytes c.args.text.now c.behind-in-Part.result.now c.behind-in-Part.ensures c.behind-in-Part.utf8)
    (subst (λ (f : Form). Fits f c.args.text.now) c.in-Part.is c.requires)

pub returns-in_ok-regex_token-in-Regex-clause-token : goal.returns-in_ok-regex_token-in-Regex-clause-token
unfolding token_anew
returns-in_ok-regex_token-in-Regex-clause-token c =
    let inner = behind-bytes c.args.text.now c.behind.result.now c.behind.ensures c.behind.utf8 in
    ap Some (c.in_ok-regex_token-in-Regex.ensures ∙ ap (regex_token c.in-Regex.body) (sym inner))
    ∙ sym (ap (λ (f : Form). token_anew f c.args.text.now c.args.span) c.in-Regex.is)

pub returns-in_ok-part-in-Part-clause-token : goal.returns-in_ok-part-in-Part-clause-token
unfolding token_anew
returns-in_ok-part-in-Part-clause-token c =
    let inner = behind-bytes c.args.text.now c.behind-in-Part.result.now c.behind-in-Part.ensures c.behind-in-Part.utf8 in
    let between = c.before_mark.ensures ∙ ap (before_mark c.in-Part.is_last) (sym inner) in
    ap Some (c.in_ok-part-in-Part.ensures ∙ ap (λ (xs : List ℕ). part c.in-Part.is_first c.in-Part.is_last xs) between)
    ∙ sym (ap (λ (f : Form). token_anew f c.args.text.now c.args.span) c.in-Part.is)
