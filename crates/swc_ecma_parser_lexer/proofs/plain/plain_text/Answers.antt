use Rattle.std.proofs.Common.{◌≡◌, true, None, sym, ap, ◌∙◌}
use Rattle.std.specs.Str.{chars}
use Rattle.swc_ecma_parser_lexer.specs.declared.escape.Escape.TheVariants as escape
use Rattle.swc_ecma_parser_lexer.specs.Plain.{is_plain}
use Rattle.swc_ecma_parser_lexer.specs.Strings.{is_well_escaped, value_of}
use Rattle.swc_ecma_parser_lexer.proofs.Quoted.{plain-value, plain-well}
use Rattle.swc_ecma_parser_lexer.proofs.plain.plain_text.Goals as goal

pub returns-then-is_plain-clause-well : goal.returns-then-is_plain-clause-well
returns-then-is_plain-clause-well c =
    let mark = c.in_ok-mark.mark in
    let literal = c.args.literal.now in
    let inner = c.in_ok-inner.inner.now in
    let plain : is_plain mark inner ≡ true = ap (is_plain mark) (sym c.as_bytes.ensures.value) ∙ sym c.is_plain.ensures ∙ c.if-is_plain.true in
    ap (λ q. is_well_escaped q escape.Text (chars literal)) (sym c.in_ok-mark.ensures.0)
    ∙ plain-well mark literal inner c.in_ok-mark.ensures.1 c.utf8.literal c.in_ok-inner.ensures.utf8 c.in_ok-inner.ensures.text plain

pub returns-then-is_plain-clause-value : goal.returns-then-is_plain-clause-value
returns-then-is_plain-clause-value c =
    let mark = c.in_ok-mark.mark in
    let literal = c.args.literal.now in
    let inner = c.in_ok-inner.inner.now in
    let plain : is_plain mark inner ≡ true = ap (is_plain mark) (sym c.as_bytes.ensures.value) ∙ sym c.is_plain.ensures ∙ c.if-is_plain.true in
    ap (λ q. value_of q escape.Text None (chars literal)) (sym c.in_ok-mark.ensures.0)
    ∙ plain-value mark literal inner c.in_ok-mark.ensures.1 c.utf8.literal c.in_ok-inner.ensures.utf8 c.in_ok-inner.ensures.text plain
