-- Words that are not reserved and names without a fault, as the code finds them.
use Rattle.std.specs.Prelude.{Bool, true, false, not, ◌||◌, if◌then◌else◌}
use Rattle.swc_ecma_parser_token.specs.declared.keyword.Keyword.{Keyword}
use Rattle.swc_ecma_parser_token.specs.declared.keyword.Keyword.TheVariants as keyword
use Rattle.swc_ecma_parser_token.specs.declared.token.Word.{Word}
use Rattle.swc_ecma_parser_token.specs.declared.token.Word.TheVariants as word
use Rattle.swc_ecma_parser_input.specs.declared.context.Context.{Context}
use Rattle.swc_ecma_parser_grammar.specs.Names.{is_identifier, is_name}
use Rattle.swc_ecma_parser_reserved.specs.Special.{is_special}

-- not reserved here
unfoldable pub is_free_keyword : Context → Keyword → Bool
is_free_keyword c keyword.Await = true
is_free_keyword c keyword.Break = false
is_free_keyword c keyword.Case = false
is_free_keyword c keyword.Catch = false
is_free_keyword c keyword.Continue = false
is_free_keyword c keyword.Debugger = false
is_free_keyword c keyword.Default = false
is_free_keyword c keyword.Do = false
is_free_keyword c keyword.Else = false
is_free_keyword c keyword.Finally = false
is_free_keyword c keyword.For = false
is_free_keyword c keyword.Function = false
is_free_keyword c keyword.If = false
is_free_keyword c keyword.Return = false
is_free_keyword c keyword.Switch = false
is_free_keyword c keyword.Throw = false
is_free_keyword c keyword.Try = false
is_free_keyword c keyword.Var = false
is_free_keyword c keyword.Let = not c.strict
is_free_keyword c keyword.Const = false
is_free_keyword c keyword.While = false
is_free_keyword c keyword.With = false
is_free_keyword c keyword.New = false
is_free_keyword c keyword.This = false
is_free_keyword c keyword.Super = false
is_free_keyword c keyword.Class = false
is_free_keyword c keyword.Extends = false
is_free_keyword c keyword.Export = false
is_free_keyword c keyword.Import = false
is_free_keyword c keyword.Yield = not (c.strict || c.in_generator)
is_free_keyword c keyword.In = false
is_free_keyword c keyword.InstanceOf = false
is_free_keyword c keyword.TypeOf = false
is_free_keyword c keyword.Void = false
is_free_keyword c keyword.Delete = false

-- a name without a fault
unfoldable pub is_clean_keyword : Context → Keyword → Bool
is_clean_keyword c keyword.Await = not (c.module || (c.in_async || c.in_static_block))
is_clean_keyword c keyword.Break = is_free_keyword c keyword.Break
is_clean_keyword c keyword.Case = is_free_keyword c keyword.Case
is_clean_keyword c keyword.Catch = is_free_keyword c keyword.Catch
is_clean_keyword c keyword.Continue = is_free_keyword c keyword.Continue
is_clean_keyword c keyword.Debugger = is_free_keyword c keyword.Debugger
is_clean_keyword c keyword.Default = is_free_keyword c keyword.Default
is_clean_keyword c keyword.Do = is_free_keyword c keyword.Do
is_clean_keyword c keyword.Else = is_free_keyword c keyword.Else
is_clean_keyword c keyword.Finally = is_free_keyword c keyword.Finally
is_clean_keyword c keyword.For = is_free_keyword c keyword.For
is_clean_keyword c keyword.Function = is_free_keyword c keyword.Function
is_clean_keyword c keyword.If = is_free_keyword c keyword.If
is_clean_keyword c keyword.Return = is_free_keyword c keyword.Return
is_clean_keyword c keyword.Switch = is_free_keyword c keyword.Switch
is_clean_keyword c keyword.Throw = is_free_keyword c keyword.Throw
is_clean_keyword c keyword.Try = is_free_keyword c keyword.Try
is_clean_keyword c keyword.Var = is_free_keyword c keyword.Var
is_clean_keyword c keyword.Let = is_free_keyword c keyword.Let
is_clean_keyword c keyword.Const = is_free_keyword c keyword.Const
is_clean_keyword c keyword.While = is_free_keyword c keyword.While
is_clean_keyword c keyword.With = is_free_keyword c keyword.With
is_clean_keyword c keyword.New = is_free_keyword c keyword.New
is_clean_keyword c keyword.This = is_free_keyword c keyword.This
is_clean_keyword c keyword.Super = is_free_keyword c keyword.Super
is_clean_keyword c keyword.Class = is_free_keyword c keyword.Class
is_clean_keyword c keyword.Extends = is_free_keyword c keyword.Extends
is_clean_keyword c keyword.Export = is_free_keyword c keyword.Export
is_clean_keyword c keyword.Import = is_free_keyword c keyword.Import
is_clean_keyword c keyword.Yield = is_free_keyword c keyword.Yield
is_clean_keyword c keyword.In = is_free_keyword c keyword.In
is_clean_keyword c keyword.InstanceOf = is_free_keyword c keyword.InstanceOf
is_clean_keyword c keyword.TypeOf = is_free_keyword c keyword.TypeOf
is_clean_keyword c keyword.Void = is_free_keyword c keyword.Void
is_clean_keyword c keyword.Delete = is_free_keyword c keyword.Delete

-- what is no special word is a name wherever it stands
unfoldable pub is_free_word : Context → Word → Bool
is_free_word c (word.Keyword k) = is_free_keyword c k
is_free_word c word.Null = false
is_free_word c word.True = false
is_free_word c word.False = false
is_free_word c (word.Ident text) = if is_special text then is_identifier c text else true
is_free_word c (word.Escaped text) = if is_special text then is_identifier c text else true

unfoldable pub is_clean_word : Context → Word → Bool
is_clean_word c (word.Keyword k) = is_clean_keyword c k
is_clean_word c word.Null = false
is_clean_word c word.True = false
is_clean_word c word.False = false
is_clean_word c (word.Ident text) = if is_special text then is_name c text else true
is_clean_word c (word.Escaped text) = if is_special text then is_name c text else true
