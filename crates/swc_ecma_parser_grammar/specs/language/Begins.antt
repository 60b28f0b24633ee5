-- What begins an expression: the look-aheads of `await` and `yield`.
use Rattle.std.specs.Prelude.{Bool, true, false, ◌&&◌, ◌||◌}
use Rattle.swc_ecma_parser_token.specs.declared.kind.TokenKind.{TokenKind}
use Rattle.swc_ecma_parser_token.specs.declared.kind.TokenKind.TheVariants as kind
use Rattle.swc_ecma_parser_input.specs.declared.context.Context.{Context}
use Rattle.swc_ecma_parser_input.specs.Place.{Place, after}
use Rattle.swc_ecma_parser_grammar.specs.Looks.{kind_at, sees}
use Rattle.swc_ecma_parser_grammar.specs.Names.{identifier_at}

-- a token other than a name with which a unary expression begins: section 13.5
abbrev pub begins_operand : TokenKind → Bool
begins_operand kind.Str = true
begins_operand kind.Num = true
begins_operand kind.BigInt = true
begins_operand kind.Regex = true
begins_operand kind.Template = true
begins_operand kind.TemplateHead = true
begins_operand kind.Null = true
begins_operand kind.True = true
begins_operand kind.False = true
begins_operand kind.LParen = true
begins_operand kind.LBracket = true
begins_operand kind.LBrace = true
begins_operand kind.Function = true
begins_operand kind.Class = true
begins_operand kind.New = true
begins_operand kind.This = true
begins_operand kind.Super = true
begins_operand kind.Import = true
begins_operand kind.TypeOf = true
begins_operand kind.Void = true
begins_operand kind.Delete = true
begins_operand kind.Add = true
begins_operand kind.Sub = true
begins_operand kind.Bang = true
begins_operand kind.Tilde = true
begins_operand kind.PlusPlus = true
begins_operand kind.MinusMinus = true
begins_operand _ = false

unfoldable pub begins_unary : Context → Place → Bool
begins_unary f c = begins_operand (kind_at c) || identifier_at f c

-- `#` begins the left operand of `in`, which is no unary expression
unfoldable pub begins_expression : Context → Place → Bool
begins_expression f c = begins_unary f c || (sees kind.HashIn c || (f.in_generator && sees kind.Yield c))

-- Where a unary expression may begin, `await` is an operator if one can begin behind it, on any line and in whatever code; else it is
-- a name. Where none may begin it is a name whatever follows: as the first word of what a class extends, of what `new` calls and of
-- a decorator, and where a name is bound.
unfoldable pub awaits : Context → Place → Bool
awaits f c = sees kind.Await c && begins_unary f (after c)
