-- A name is no fault and not reserved.
use Rattle.std.proofs.Common.{◌≡◌, true, sym, ◌∙◌, ap}
use Rattle.swc_ecma_parser_common.specs.declared.span.Span.{Span}
use Rattle.swc_ecma_parser_token.specs.Text.{word_text}
use Rattle.swc_ecma_parser_input.specs.declared.context.Context.{Context}
use Rattle.swc_ecma_parser_input.specs.Place.{Place}
use Rattle.swc_ecma_parser_model.specs.Tree.{Text}
use Rattle.swc_ecma_parser_grammar.specs.Names.{Code, is_name, is_identifier, is_clean_name}
use Rattle.swc_ecma_parser_grammar.specs.language.Parts.{ReadsName}
use Rattle.swc_ecma_parser_grammar.proofs.Tests.{and_yes}

pub name_is_clean : (f : Context) (text : Text) → is_name f text ≡ true → is_clean_name f text ≡ true
unfolding is_name
name_is_clean f text h = h

pub clean_is_name : (f : Context) (text : Text) → is_clean_name f text ≡ true → is_name f text ≡ true
unfolding is_name
clean_is_name f text h = h

-- it is not reserved
pub name_is_free : (f : Context) (text : Text) → is_name f text ≡ true → is_identifier f text ≡ true
unfolding is_name is_clean_name
name_is_free f text h = (and_yes (is_identifier f text) _ h).0

pub name_is_name : (k : Code) (text : Text) (s : Span) (c d : Place) (r : ReadsName k text s c d) → is_name k.flags (word_text r.word) ≡ true
name_is_name k text s c d r = ap (is_name k.flags) (sym r.is_text) ∙ clean_is_name k.flags text r.is_name
