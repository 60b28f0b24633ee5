-- What is written of a text: its tree as ESTree, with its comments and its tokens where they are asked for.
use Rattle.std.specs.Prelude.{◌≡◌, ℕ, cond, List, [], ◌++◌}
use Rattle.std.specs.Str.{chars}
use Rattle.swc_ecma_parser_common.specs.declared.comment.Comment.{Comment}
use Rattle.swc_ecma_parser_token.specs.declared.token.TokenAndSpan.{TokenAndSpan}
use Rattle.swc_ecma_parser_lexer.specs.Collected as lexer
use Rattle.swc_ecma_parser_model.specs.Tree.{Tree}
use Rattle.swc_ecma_parser_whole_lexer.specs.declared.form.Goal.{Goal}
use Rattle.swc_ecma_parser_whole_lexer.specs.declared.form.Goal.TheVariants as code
use Rattle.swc_ecma_parser_whole_lexer.specs.Comments as whole
use Rattle.ecma_estree_text.specs.Places.{Placed}
use Rattle.ecma_estree_lists.specs.Comments.{comments_field}
use Rattle.ecma_estree_lists.specs.Tokens.{tokens_field}
use Rattle.ecma_estree_writer.specs.Estree.{json, plain}
use Rattle.ecma_estree_writer.specs.Source.{source_of}
use Rattle.ecma_answers.specs.declared.options.Language.{Language}
use Rattle.ecma_answers.specs.declared.options.Language.TheVariants as language
use Rattle.ecma_answers.specs.declared.options.Options.{Options}
use Rattle.ecma_answers.specs.Languages as languages
use Rattle.ecma_answers.specs.Spelled.{is_module}

-- a text, with what is written of its places
abbrev pub placed : Options → List ℕ → Placed
placed o text = record { text = text; has_locations = o.extras.locations; has_ranges = o.extras.ranges }

-- the code that a tree is of
abbrev pub code_goal : Tree → Goal
code_goal x = cond (is_module x) code.Module code.Script

-- the tokens of a text in a language, as of the code that its tree is of
abbrev pub tokens_of : Language → Options → List ℕ → Tree → List TokenAndSpan
tokens_of l o text x = (languages.source_of l (code_goal x) o.syntax text).left

-- the comments of a text in a language, as of the code that its tree is of: all of them, but for those as in HTML
abbrev pub comments_of : Language → List ℕ → Tree → List Comment
comments_of language.Plain text x = lexer.comments 0 0 (chars text)
comments_of language.Whole text x = whole.comments_of (code_goal x) 0 (chars text)

-- those that are asked for
abbrev pub AreComments : Language → Options → List ℕ → Tree → List Comment → Type 0
AreComments l o text x comments = comments ≡ cond o.comments (comments_of l text x) []

-- the fields of comments and of tokens, where they are asked for
abbrev pub fields : Options → Placed → List Comment → List TokenAndSpan → List ℕ
fields o p comments tokens = cond o.comments (comments_field p comments) [] ++ cond o.tokens (tokens_field p tokens) []

-- those fields of a text and its tree
abbrev pub AreFieldsIn : Language → Options → List ℕ → Tree → List ℕ → Type 0
AreFieldsIn l o text x out = (comments : List Comment) × AreComments l o text x comments × (out ≡ fields o (placed o text) comments (tokens_of l o text x))

abbrev pub AreFields : Options → List ℕ → Tree → List ℕ → Type 0
AreFields o text x out = AreFieldsIn o.language o text x out

-- a tree of a text as ESTree
abbrev pub IsEstree : Options → List ℕ → Tree → List ℕ → Type 0
IsEstree o text x out = (behind : List ℕ) × AreFields o text x behind × (out ≡ json (source_of (placed o text) behind) plain x)
