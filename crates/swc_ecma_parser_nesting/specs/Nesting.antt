-- What may come behind a token: by its kind, what might have come in its place, and what is open around it. So it is told
-- whether `/` begins a regular expression and whether `}` goes on with a template.
use Rattle.std.specs.Prelude.{ℕ, Bool, true, false, not, ◌&&◌, ◌||◌, if◌then◌else◌, nat_lt, List, [], ◌∷◌, codes, length}
use Rattle.std.specs.Str.{bytes_eq}
use Rattle.swc_ecma_parser_token.specs.declared.kind.TokenKind.{TokenKind}
use Rattle.swc_ecma_parser_token.specs.declared.kind.TokenKind.TheVariants as kind
use Rattle.swc_ecma_parser_nesting.specs.declared.ahead.Ahead.{Ahead}
use Rattle.swc_ecma_parser_nesting.specs.declared.ahead.Ahead.TheVariants as ahead
use Rattle.swc_ecma_parser_nesting.specs.declared.nest.Nest.{Nest}
use Rattle.swc_ecma_parser_nesting.specs.declared.stack.Open.{Open}
use Rattle.swc_ecma_parser_nesting.specs.declared.stack.Open.TheVariants as opened
use Rattle.swc_ecma_parser_nesting.specs.Stacked.{top_of, below_top, past_questions}

-- an operand must come
unfoldable pub is_operand : Ahead → Bool
is_operand ahead.Operand = true
is_operand ahead.New = true
is_operand ahead.Arrow = true
is_operand ahead.AsyncOperand = true
is_operand _ = false

-- an operand or a key may have ended
unfoldable pub is_ended : Ahead → Bool
is_ended ahead.Ended = true
is_ended ahead.Async = true
is_ended ahead.AsyncOperand = true
is_ended ahead.BehindKey = true
is_ended ahead.Let = true
is_ended _ = false

unfoldable pub is_name : Ahead → Bool
is_name ahead.Name = true
is_name _ = false

unfoldable pub is_key : Ahead → Bool
is_key ahead.Key = true
is_key ahead.BehindKey = true
is_key _ = false

unfoldable pub is_class_body : Open → Bool
is_class_body (opened.ClassBody is_operand) = true
is_class_body _ = false

-- A word where none is a name or a key whatever it says: what may come behind it, and what it opens.

-- the first operand of the head of a loop ends before `of`
unfoldable pub behind_of : Ahead → Open → Ahead
behind_of ahead.Ended opened.Head = ahead.Operand
behind_of _ _ = ahead.Ended

unfoldable pub behind_async : Ahead → Ahead
behind_async a = if is_operand a then ahead.AsyncOperand else ahead.Async

unfoldable pub behind_name : Ahead → Open → List ℕ → Ahead
behind_name a top name =
    if bytes_eq name (codes "async") then behind_async a else
    if bytes_eq name (codes "of") then behind_of a top else ahead.Ended

unfoldable pub behind_await : Ahead → Ahead
behind_await ahead.Head = ahead.Head
behind_await _ = ahead.Operand

unfoldable pub behind_word : Ahead → Open → TokenKind → List ℕ → Ahead
behind_word a top kind.Function name = ahead.Name
behind_word a top kind.Class name = ahead.Ended
behind_word a top kind.If name = ahead.Head
behind_word a top kind.While name = ahead.Head
behind_word a top kind.For name = ahead.Head
behind_word a top kind.With name = ahead.Head
behind_word a top kind.Await name = behind_await a
behind_word a top kind.Else name = ahead.Statement
behind_word a top kind.Do name = ahead.Statement
behind_word a top kind.Try name = ahead.Statement
behind_word a top kind.Finally name = ahead.Statement
behind_word a top kind.Catch name = ahead.Statement
behind_word a top kind.Break name = ahead.Statement
behind_word a top kind.Continue name = ahead.Statement
behind_word a top kind.Debugger name = ahead.Statement
behind_word a top kind.New name = ahead.New
behind_word a top kind.Let name = ahead.Let
behind_word a top kind.Export name = ahead.Exported
behind_word a top kind.Default name = ahead.Exported
behind_word a top kind.This name = ahead.Ended
behind_word a top kind.Super name = ahead.Ended
behind_word a top kind.Switch name = ahead.Ended
behind_word a top kind.Null name = ahead.Ended
behind_word a top kind.True name = ahead.Ended
behind_word a top kind.False name = ahead.Ended
behind_word a top kind.Escaped name = ahead.Ended
behind_word a top kind.Ident name = behind_name a top name
behind_word a top _ name = ahead.Operand

unfoldable pub with_word : Ahead → List Open → TokenKind → List Open
with_word a os kind.Function = opened.Function (is_operand a) ∷ os
with_word a os kind.Class = opened.Class (is_operand a) ∷ os
with_word a os _ = os

-- a word in the body of a class, where no operand must come
unfoldable pub in_class : Ahead → TokenKind → Ahead
in_class ahead.Ended kind.In = ahead.Operand
in_class ahead.Ended kind.InstanceOf = ahead.Operand
in_class _ _ = ahead.BehindKey

unfoldable pub is_member_name : Ahead → Open → Bool
is_member_name a top = is_class_body top && not (is_operand a)

unfoldable pub word : Nest → TokenKind → List ℕ → Nest
word n k name =
    if is_name n.ahead then record { ahead = ahead.Ended; stack = n.stack } else
    if is_member_name n.ahead (top_of n.stack) then record { ahead = in_class n.ahead k; stack = n.stack } else
    if is_key n.ahead then record { ahead = ahead.BehindKey; stack = n.stack } else
    record { ahead = behind_word n.ahead (top_of n.stack) k name; stack = with_word n.ahead n.stack k }

-- Brackets.

-- one more is open, and an operand must come in it
abbrev pub beginning : Open → Nest → Nest
beginning o n = record { ahead = ahead.Operand; stack = o ∷ n.stack }

-- the innermost bracket
abbrev pub innermost : Nest → Open
innermost n = top_of (past_questions n.stack)

-- it is closed
abbrev pub ended : Nest → Nest
ended n = record { ahead = n.ahead; stack = below_top (past_questions n.stack) }

abbrev pub taken_back : Nest → Nest
taken_back n = record { ahead = n.ahead; stack = below_top n.stack }

unfoldable pub parenthesis : Ahead → Open
parenthesis ahead.Head = opened.Head
parenthesis _ = opened.Paren

unfoldable pub behind_parenthesis : Open → Ahead
behind_parenthesis opened.Head = ahead.Statement
behind_parenthesis _ = ahead.Ended

-- `{` behind what may be the head of a class, of a function or of a method
unfoldable pub body : List Open → Nest
body (opened.Class is_operand ∷ os) = record { ahead = ahead.Key; stack = opened.ClassBody is_operand ∷ os }
body (opened.Function is_operand ∷ os) = record { ahead = ahead.Statement; stack = opened.FunctionBody is_operand ∷ os }
body (opened.Object ∷ os) = record { ahead = ahead.Statement; stack = opened.Method ∷ opened.Object ∷ os }
body (opened.ClassBody is_operand ∷ os) = record { ahead = ahead.Statement; stack = opened.Method ∷ opened.ClassBody is_operand ∷ os }
body os = record { ahead = ahead.Statement; stack = opened.Block ∷ os }

unfoldable pub brace : Ahead → List Open → Nest
brace ahead.Operand os = record { ahead = ahead.Key; stack = opened.Object ∷ os }
brace ahead.New os = record { ahead = ahead.Key; stack = opened.Object ∷ os }
brace ahead.Exported os = record { ahead = ahead.Key; stack = opened.Object ∷ os }
brace ahead.Head os = record { ahead = ahead.Key; stack = opened.Object ∷ os }
brace ahead.Let os = record { ahead = ahead.Key; stack = opened.Object ∷ os }
brace ahead.Ended os = body os
brace ahead.Async os = body os
brace ahead.AsyncOperand os = body os
brace ahead.BehindKey os = body os
brace _ os = record { ahead = ahead.Statement; stack = opened.Block ∷ os }

unfoldable pub behind_brace : Open → Ahead
behind_brace opened.Object = ahead.Ended
behind_brace (opened.FunctionBody true) = ahead.Ended
behind_brace (opened.ClassBody true) = ahead.Ended
behind_brace opened.Method = ahead.Key
behind_brace _ = ahead.Statement

-- Marks.

unfoldable pub behind_semicolon : Open → Ahead
behind_semicolon (opened.ClassBody is_operand) = ahead.Key
behind_semicolon opened.Head = ahead.Operand
behind_semicolon _ = ahead.Statement

unfoldable pub behind_comma : Open → Ahead
behind_comma opened.Object = ahead.Key
behind_comma _ = ahead.Operand

unfoldable pub colon : List Open → Nest
colon (opened.Question ∷ os) = record { ahead = ahead.Operand; stack = os }
colon (opened.Object ∷ os) = record { ahead = ahead.Operand; stack = opened.Object ∷ os }
colon os = record { ahead = ahead.Statement; stack = os }

unfoldable pub behind_update : Ahead → Ahead
behind_update a = if is_ended a then ahead.Ended else ahead.Operand

unfoldable pub behind_star : Ahead → Ahead
behind_star ahead.Name = ahead.Name
behind_star ahead.Key = ahead.Key
behind_star ahead.BehindKey = ahead.Key
behind_star _ = ahead.Operand

unfoldable pub behind_literal : Ahead → Ahead
behind_literal ahead.Key = ahead.BehindKey
behind_literal _ = ahead.Ended

-- what may come behind a mark that opens and closes nothing
unfoldable pub behind_mark : Ahead → Open → TokenKind → Ahead
behind_mark a top kind.Comma = behind_comma top
behind_mark a top kind.Dot = ahead.Name
behind_mark a top kind.QuestionDot = ahead.Name
behind_mark a top kind.NewDot = ahead.Name
behind_mark a top kind.Hash = ahead.Name
behind_mark a top kind.HashIn = ahead.Name
behind_mark a top kind.Arrow = ahead.Arrow
behind_mark a top kind.PlusPlus = behind_update a
behind_mark a top kind.MinusMinus = behind_update a
behind_mark a top kind.Mul = behind_star a
behind_mark a top kind.Str = behind_literal a
behind_mark a top kind.Num = behind_literal a
behind_mark a top kind.BigInt = behind_literal a
behind_mark a top kind.Regex = behind_literal a
behind_mark a top kind.Template = ahead.Ended
behind_mark a top kind.Shebang = a
behind_mark a top kind.Error = a
behind_mark a top kind.End = a
behind_mark a top _ = ahead.Operand

-- Words.

unfoldable pub is_plain_word : TokenKind → Bool
is_plain_word kind.Null = true
is_plain_word kind.True = true
is_plain_word kind.False = true
is_plain_word kind.Ident = true
is_plain_word kind.Escaped = true
is_plain_word _ = false

unfoldable pub is_operand_keyword : TokenKind → Bool
is_operand_keyword kind.Await = true
is_operand_keyword kind.New = true
is_operand_keyword kind.This = true
is_operand_keyword kind.Super = true
is_operand_keyword kind.Yield = true
is_operand_keyword kind.In = true
is_operand_keyword kind.InstanceOf = true
is_operand_keyword kind.TypeOf = true
is_operand_keyword kind.Void = true
is_operand_keyword kind.Delete = true
is_operand_keyword _ = false

unfoldable pub is_declaring_keyword : TokenKind → Bool
is_declaring_keyword kind.Function = true
is_declaring_keyword kind.Var = true
is_declaring_keyword kind.Let = true
is_declaring_keyword kind.Const = true
is_declaring_keyword kind.Class = true
is_declaring_keyword kind.Extends = true
is_declaring_keyword kind.Export = true
is_declaring_keyword kind.Import = true
is_declaring_keyword _ = false

unfoldable pub is_statement_keyword : TokenKind → Bool
is_statement_keyword kind.Break = true
is_statement_keyword kind.Case = true
is_statement_keyword kind.Catch = true
is_statement_keyword kind.Continue = true
is_statement_keyword kind.Debugger = true
is_statement_keyword kind.Default = true
is_statement_keyword kind.Do = true
is_statement_keyword kind.Else = true
is_statement_keyword kind.Finally = true
is_statement_keyword kind.For = true
is_statement_keyword kind.If = true
is_statement_keyword kind.Return = true
is_statement_keyword kind.Switch = true
is_statement_keyword kind.Throw = true
is_statement_keyword kind.Try = true
is_statement_keyword kind.While = true
is_statement_keyword kind.With = true
is_statement_keyword _ = false

unfoldable pub is_word : TokenKind → Bool
is_word k = is_plain_word k || is_operand_keyword k || is_declaring_keyword k || is_statement_keyword k

unfoldable pub mark : Nest → TokenKind → Nest
mark n kind.LParen = beginning (parenthesis n.ahead) n
mark n kind.RParen =
    let os = past_questions n.stack in
    record { ahead = behind_parenthesis (top_of os); stack = below_top os }
mark n kind.LBracket = beginning opened.Bracket n
mark n kind.RBracket = record { ahead = ahead.Ended; stack = below_top (past_questions n.stack) }
mark n kind.LBrace = brace n.ahead n.stack
mark n kind.RBrace =
    let os = past_questions n.stack in
    record { ahead = behind_brace (top_of os); stack = below_top os }
mark n kind.Semi =
    let os = past_questions n.stack in
    record { ahead = behind_semicolon (top_of os); stack = os }
mark n kind.Colon = colon n.stack
mark n kind.QuestionMark = beginning opened.Question n
mark n kind.TemplateHead = beginning opened.Substitution n
mark n kind.TemplateMiddle = record { ahead = ahead.Operand; stack = past_questions n.stack }
mark n kind.TemplateTail = record { ahead = ahead.Ended; stack = below_top (past_questions n.stack) }
mark n k = record { ahead = behind_mark n.ahead (top_of n.stack) k; stack = n.stack }

-- A token of a kind, which says `name` where it is a name.
unfoldable pub pass : Nest → TokenKind → List ℕ → Nest
pass n k name = if is_word k then word n k name else mark n k

-- how many may be open
abbrev pub limit : ℕ
limit = 4096

unfoldable pub is_too_deep : Nest → Bool
is_too_deep n = nat_lt limit (length n.stack)

-- the start of a text
abbrev pub outset : Nest
outset = record { ahead = ahead.Statement; stack = [] }

-- What the next piece is told by.

unfoldable pub is_regex_place : Ahead → Bool
is_regex_place ahead.Statement = true
is_regex_place ahead.Operand = true
is_regex_place ahead.New = true
is_regex_place ahead.Arrow = true
is_regex_place ahead.Exported = true
is_regex_place _ = false

unfoldable pub is_statement_place : Ahead → Bool
is_statement_place ahead.Statement = true
is_statement_place ahead.Exported = true
is_statement_place _ = false

unfoldable pub is_new : Ahead → Bool
is_new ahead.New = true
is_new _ = false

unfoldable pub is_substitution : Open → Bool
is_substitution opened.Substitution = true
is_substitution _ = false

-- `/` begins a regular expression
unfoldable pub begins_regex : Nest → Bool
begins_regex n = is_regex_place n.ahead

-- `#` begins the left operand of `in`
unfoldable pub begins_private_operand : Nest → Bool
begins_private_operand n = is_operand n.ahead || (is_statement_place n.ahead && not (is_class_body (top_of n.stack)))

-- `.` goes on with `new`
unfoldable pub is_behind_new : Nest → Bool
is_behind_new n = is_new n.ahead

-- `}` goes on with a template
unfoldable pub ends_substitution : Nest → Bool
ends_substitution n = is_substitution (top_of (past_questions n.stack))
