-- What stands at the place of a fault, beyond its kind, and what is said there: `~` stands for the token that was found, `%` for the one that was
-- expected, `^` for the one before and `$` for the one behind. docs/MESSAGES.md is printed from this table.
use Rattle.std.specs.Prelude.{ℕ, List, [], codes}
use Rattle.ecma_situations.specs.declared.situation.Situation.{Situation}
use Rattle.ecma_situations.specs.declared.situation.Situation.TheVariants as situation
use Rattle.ecma_situations.specs.declared.situation.Beside.{Beside}
use Rattle.ecma_situations.specs.declared.situation.Beside.TheVariants as places

abbrev pub words : Situation → List ℕ
words situation.Kind = codes ""
words situation.Expected = codes "expected `%`, found ~"
words situation.ExpectedBehind = codes "expected `%` after `^`, found ~"
words situation.CommaOrParenthesis = codes "expected `,` or `)`, found ~"
words situation.CommaOrBracket = codes "expected `,` or `]`, found ~"
words situation.CommaOrBrace = codes "expected `,` or `}`, found ~"
words situation.ClosingParenthesis = codes "expected `)`, found ~"
words situation.ClosingBracket = codes "expected `]`, found ~"
words situation.ColonOrComma = codes "expected `:`, `,` or `}` after `^`, found ~"
words situation.KeyAlone = codes "expected `:` and a value after the key `^`, found ~"
words situation.CaseOrBrace = codes "expected `case`, `default` or `}`, found ~"
words situation.BlockNotClosed = codes "the text ends inside of a block: expected `}`"
words situation.End = codes "the text ends in the middle of a statement"
words situation.ExportWhat = codes "expected a declaration, `default`, `{` or `*` after `export`, found ~"
words situation.CatchWhat = codes "expected `(` or `{` after `catch`, found ~"
words situation.ModuleName = codes "expected the name of a module as a string, found ~"
words situation.Expression = codes "expected an expression, found ~"
words situation.ExpressionBehind = codes "expected an expression after `^`, found ~"
words situation.EmptyParentheses = codes "an expression is missing: the parentheses before this are empty"
words situation.ArrowOperand = codes "an arrow function cannot be an operand; put it in parentheses"
words situation.MergeConflict = codes "this looks like a merge conflict that was not resolved"
words situation.Equals = codes "expected an expression, found `=`; a comparison is written `==` or `===`"
words situation.Name = codes "expected a name, found ~"
words situation.NameBehind = codes "expected a name after `^`, found ~"
words situation.ReservedName = codes "expected a name, found the reserved word ~"
words situation.FunctionName = codes "expected a name after `function`, found ~"
words situation.ClassName = codes "expected a name after `class`, found ~"
words situation.MemberBehind = codes "expected `(`, `=`, `;` or a line break behind the name `^`, found ~"
words situation.MethodFunction = codes "a method is written without `function`"
words situation.FieldKeyword = codes "a field is written without `^`"
words situation.ClassComma = codes "members of a class are not separated by `,`"
words situation.StatementBehind = codes "expected an operator, `;` or a line break after `^`, found ~"
words situation.VariableBehind = codes "expected `=`, `,`, `;` or a line break after `^`, found ~"
words situation.ArrowExpected = codes "expected `=>` after `()`, found ~"
words situation.ArrowMissing = codes "expected `;` or a line break, found `{`; an arrow function needs `=>` before its body"
words situation.BodyAlone = codes "expected `;` or a line break, found `{`; outside of a class, a function needs `function` before its name"
words situation.DeclarationAlone = codes "a declaration cannot stand here by itself; put it in braces"
words situation.LoneDeclaration = codes "a declaration cannot stand here by itself; put it in braces"
words situation.BlockNoObject = codes "unexpected `:`: the braces around it are a block, not an object; put an object in parentheses"
words situation.JsonText = codes "unexpected `:`: this looks like JSON, but in a program the braces around it are a block; put an object in parentheses"
words situation.SemicolonBehind = codes "expected `;` or a line break after `^`, found ~"
words situation.MethodArrow = codes "expected `{`, found `=>`: only an arrow function has `=>`, and it has neither `function` nor a name"
words situation.AssignBlock = codes "unexpected `=`: the braces before it are a block; put an assignment to a pattern in parentheses"
words situation.ElseCondition = codes "`else` takes no condition; write `else if`"
words situation.ElseAlone = codes "`else` without `if`: no `if` statement ends just before it"
words situation.CaseAlone = codes "~ outside of `switch`"
words situation.CatchAlone = codes "~ without a `try` before it"
words situation.CatchMissing = codes "expected `catch` or `finally` after the block of this `try`"
words situation.YieldOutside = codes "`yield` outside of a generator; write `function*`"
words situation.ArrowAlone = codes "unexpected `=>`: what is before it cannot be the parameters of an arrow function"
words situation.StrayCloser = codes "unexpected ~: there is no open bracket that it closes"
words situation.WrongCloser = codes "unexpected ~: it does not close the bracket that is open"
words situation.RestParameter = codes "a rest parameter must be the last one"
words situation.RestElement = codes "a rest element must be the last one"
words situation.RestDefault = codes "a rest parameter cannot have a default value"
words situation.ForHead = codes "expected `;`, found ~: the head of this `for` has two `;`"
words situation.ForWhat = codes "expected `;`, `of` or `in` after `^`, found ~"
words situation.ForOf = codes "expected `)`, found ~: `of` takes one expression; put more in parentheses"
words situation.LabelOfBreak = codes "no label `$` around this `break` (ECMA-262, 8.3.2)"
words situation.LabelOfContinue = codes "no label `$` around this `continue` (ECMA-262, 8.3.3)"
words situation.ImportAlone = codes "~ outside of a module; read this text as a module"
words situation.ImportInBlock = codes "~ is only allowed at the top level of a module"
words situation.Modifier = codes "`^` is not a modifier of JavaScript"
words situation.TypeScript = codes "this looks like TypeScript, which is not read"
words situation.Jsx = codes "this looks like JSX, which is not read"
words situation.Html = codes "this looks like HTML or XML, which is not read"
words situation.OptionalChain = codes "the plain language has no optional chains such as `a?.b`"
words situation.RegularExpression = codes "the plain language has no regular expressions"
words situation.Template = codes "the plain language has no templates"
words situation.NameEscape = codes "this escape spells no character that a name can hold here; the plain language has no escapes in names"
words situation.ImportAttributes = codes "the plain language has import attributes only if they are enabled"
words situation.PrivateIn = codes "a private name stands only before `in` or after `.`; put `#a in b` in parentheses here (the plain language has no `#a in b`)"
words situation.NewTarget = codes "the plain language has no `new.target`"
words situation.Decorator = codes "decorators are not read unless they are enabled"
words situation.Shebang = codes "`#!` is read only at the start of the text"
words situation.Hash = codes "`#` does not begin a statement; a comment begins with `//`"
words situation.WordAnd = codes "`and` is not an operator; write `&&`"
words situation.WordOr = codes "`or` is not an operator; write `||`"
words situation.WordNot = codes "`not` is not an operator; write `!`"
words situation.NotEqual = codes "`<>` is not an operator; write `!==`"
words situation.AtMost = codes "`=<` is not an operator; write `<=`"
words situation.ThinArrow = codes "`->` is not an operator; write `=>` before the body of a function, or `.` before a member"
words situation.FunctionWord = codes "`^` does not declare a function; write `function` or `=>`"
words situation.TypeWord = codes "`^` does not declare a variable; write `let`, `const` or `var`"
words situation.ElseIf = codes "this is not a statement of JavaScript; write `else if`"
words situation.ForEach = codes "`foreach` is not a statement; write `for (.. of ..)`"
words situation.SmartQuote = codes "this is no quotation mark of JavaScript; use `\"`"
words situation.SmartApostrophe = codes "this is no quotation mark of JavaScript; use `'`"
words situation.Dash = codes "this is not the minus sign of JavaScript; use `-`"
words situation.Invisible = codes "this character is invisible; remove it"
words situation.Character = codes "unexpected character ~"
words situation.NameBehindNumber = codes "a name cannot follow a number directly"
words situation.OldOctal = codes "a number such as `010` has no `_`, no `n` and no letter, and the plain language has none at all; write `0o10`"
words situation.Separator = codes "`_` in a number must be between two digits, and only once"
words situation.Digits = codes "digits are missing after `0x`, `0o` or `0b`, or one is too large"
words situation.Exponent = codes "digits are missing after the `e` of this number"
words situation.NumberForm = codes "a name cannot follow the digits of a number, and `_` must be between two of them"
words situation.BigIntNumber = codes "a BigInt has neither a fraction nor an exponent"
words situation.Division = codes "expected an expression, found `/`: no regular expression begins here; end the statement before it with `;` (the plain language has none)"
words situation.ChainTag = codes "an optional chain cannot be the tag of the template ~; put the chain in parentheses"
words situation.ChainNew = codes "unexpected `?.`: `new` cannot construct an optional chain; put the chain in parentheses, or write `.`"
words situation.ChainBehind = codes "expected a name, `(` or `[` after `?.`, found ~"
words situation.ChainTarget = codes "an optional chain cannot be assigned to; a member without `?.` can"
words situation.PrivateAlone = codes "expected `in` after the private name `^`, found ~; a member is written `this.^`"
words situation.PrivateInHead = codes "`^ in ..` needs parentheses in the head of a `for`"
words situation.PrivateName = codes "expected a name, found a private name; only members of classes have those"
words situation.PrivateBlank = codes "nothing stands between the `#` of a private name and the rest of it"
words situation.NewWhat = codes "expected `target` after `new.`, found ~"
words situation.ImportWhat = codes "expected `meta` after `import.`, found ~"
words situation.NewImport = codes "what `new` constructs cannot begin with `import`; put it in parentheses"
words situation.TemplateBrace = codes "expected `}` after the expression in this template, found ~"
words situation.TemplateExpression = codes "expected an expression before the `}` in this template"
words situation.TemplateNotClosed = codes "the text ends inside of a template: expected `}`"
words situation.TemplateEscape = codes "an escape in this template is invalid: `\\x` takes two hexadecimal digits, `\\u` four or `{..}` up to 10FFFF, and of digits there is only `\\0`"
words situation.ZeroSeparator = codes "`_` cannot follow the `0` that a number begins with"

-- where else to look in a situation
abbrev pub beside : Situation → Beside
beside situation.Kind = places.Kind
beside situation.Expected = places.Opener
beside situation.CommaOrParenthesis = places.Opener
beside situation.CommaOrBracket = places.Opener
beside situation.CommaOrBrace = places.Opener
beside situation.ClosingParenthesis = places.Opener
beside situation.ClosingBracket = places.Opener
beside situation.ColonOrComma = places.Opener
beside situation.CaseOrBrace = places.Opener
beside situation.BlockNotClosed = places.Unclosed
beside situation.End = places.Opener
beside situation.EmptyParentheses = places.Pair
beside situation.StatementBehind = places.Kind
beside situation.LoneDeclaration = places.Declaration
beside situation.BlockNoObject = places.Block
beside situation.JsonText = places.Block
beside situation.CatchMissing = places.End
beside situation.StrayCloser = places.Misfit
beside situation.WrongCloser = places.Opener
beside situation.ForHead = places.Opener
beside situation.ForOf = places.Opener
beside situation.TemplateBrace = places.Opener
beside situation.TemplateNotClosed = places.Opener
beside _ = places.Nothing
