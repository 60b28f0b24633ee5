-- The words before the key of a member.
use Rattle.std.proofs.Common.{◌≡◌, true}
use Rattle.swc_ecma_parser_token.specs.declared.kind.TokenKind.TheVariants as kind
use Rattle.swc_ecma_parser_input.specs.Place.{Place}
use Rattle.swc_ecma_parser_model.specs.Tree.{Text}
use Rattle.swc_ecma_parser_grammar.specs.Looks.{kind_at}
use Rattle.swc_ecma_parser_grammar.specs.Follows.{word_at}
use Rattle.swc_ecma_parser_grammar.specs.Names.{Code}
use Rattle.swc_ecma_parser_grammar.specs.language.Classes.{is_static_word, is_accessor_word}
use Rattle.swc_ecma_parser_grammar.proofs.Tests.{and_yes}
use Rattle.swc_ecma_parser_reader.specs.Members.{begins_accessor, begins_async_member}
use Rattle.swc_ecma_parser_reader.proofs.expressions.SoundLefts.{word_stands}

pub static_kind : (c : Place) → is_static_word c ≡ true → kind_at c ≡ kind.Ident
unfolding is_static_word
static_kind c h = word_stands _ c (and_yes _ _ h).0

pub auto_accessor_kind : (k : Code) (c : Place) → is_accessor_word k c ≡ true → kind_at c ≡ kind.Ident
unfolding is_accessor_word
auto_accessor_kind k c h = word_stands _ c (and_yes _ _ (and_yes k.setting.auto_accessors _ h).1).0

pub accessor_kind : (text : Text) (c : Place) → begins_accessor text c ≡ true → kind_at c ≡ kind.Ident
unfolding begins_accessor
accessor_kind text c h = word_stands text c (and_yes (word_at text c) _ h).0

pub async_kind : (c : Place) → begins_async_member c ≡ true → kind_at c ≡ kind.Ident
unfolding begins_async_member
async_kind c h = word_stands _ c (and_yes _ _ h).0
