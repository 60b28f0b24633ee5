-- The reader of regular expressions and of the texts of templates, each of which is one token: ECMA-262, sections 12.9.5, 12.9.6 and 13.2.8.
use Rattle.std.specs.Prelude.{Bool, true, false, ◌||◌, if◌then◌else◌, is_some, List, [], ◌∷◌, ◌++◌, Option, Some, None, Ok}
use Rattle.swc_ecma_parser_common.specs.declared.span.Span.{Span}
use Rattle.swc_ecma_parser_error.specs.Kind as faults
use Rattle.swc_ecma_parser_token.specs.declared.token.Token.{Token}
use Rattle.swc_ecma_parser_token.specs.declared.token.Token.TheVariants as token
use Rattle.swc_ecma_parser_token.specs.declared.token.TokenAndSpan.{TokenAndSpan}
use Rattle.swc_ecma_parser_model.specs.Tree as tree
use Rattle.swc_ecma_parser_model.specs.Tree.{Tree, listed}
use Rattle.swc_ecma_parser_model.specs.Forms.{span_of}
use Rattle.swc_ecma_parser_reader.specs.State.{Reader, ◌>>◌, skip, moved, fault_at, wanted, reject}

abbrev pub regex_of : Span → Token → Option Tree
regex_of span (token.Regex exp flags) = Some (tree.regex span exp flags)
regex_of span _ = None

abbrev pub regex_in : List TokenAndSpan → Option Tree
regex_in [] = None
regex_in (t ∷ ts) = regex_of t.span t.token

abbrev pub regex_or : Option Tree → Reader Tree
regex_or None = wanted faults.Unexpected
regex_or (Some x) = λ s. Ok (x, moved s)

unfoldable pub regex : Reader Tree
regex = λ s. regex_or (regex_in s.at.left) s

abbrev pub text_of : Span → Token → Option Tree
text_of span (token.Template raw cooked) = Some (tree.quasi span true cooked raw)
text_of span (token.TemplateHead raw cooked) = Some (tree.quasi span false cooked raw)
text_of span (token.TemplateMiddle raw cooked) = Some (tree.quasi span false cooked raw)
text_of span (token.TemplateTail raw cooked) = Some (tree.quasi span true cooked raw)
text_of span _ = None

abbrev pub text_in : List TokenAndSpan → Option Tree
text_in [] = None
text_in (t ∷ ts) = text_of t.span t.token

-- whether it is the last of its template, and whether each escape in it is one
abbrev pub is_tail : Tree → Bool
is_tail (tree.quasi s tail cooked raw) = tail
is_tail _ = false

abbrev pub is_cooked : Tree → Bool
is_cooked (tree.quasi s tail cooked raw) = is_some cooked
is_cooked _ = false

-- it is taken before it is refused
abbrev pub text_or : (tagged : Bool) → Option Tree → Reader Tree
text_or tagged None = wanted faults.Unexpected
text_or tagged (Some q) = skip >> (λ s. if tagged || is_cooked q then Ok (q, s) else reject (fault_at (span_of q) faults.InvalidStrEscape) s)

unfoldable pub template_text : (tagged : Bool) → Reader Tree
template_text tagged = λ s. text_or tagged (text_in s.at.left) s

-- the expressions and the texts of a template
pub record Pieces : Type 0 where
  pub exprs : List Tree
  pub quasis : List Tree

abbrev pub first_piece : Tree → Pieces
first_piece q = record { exprs = []; quasis = q ∷ [] }

abbrev pub with_piece : Pieces → (e q : Tree) → Pieces
with_piece found e q = record { exprs = found.exprs ++ e ∷ []; quasis = found.quasis ++ q ∷ [] }

abbrev pub template_of : Span → Pieces → Tree
template_of span found = tree.tpl span (listed found.exprs) (listed found.quasis)
