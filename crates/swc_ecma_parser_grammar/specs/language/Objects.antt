-- Object literals: ECMA-262, section 13.2.5. A part `name = value` is none: it is a pattern's alone.
use Rattle.std.specs.Prelude.{◌≡◌, Bool, false, List, [], ◌∷◌}
use Rattle.swc_ecma_parser_common.specs.declared.span.Span.{Span}
use Rattle.swc_ecma_parser_token.specs.declared.kind.TokenKind.TheVariants as kind
use Rattle.swc_ecma_parser_input.specs.Place.{Place, after}
use Rattle.swc_ecma_parser_model.specs.declared.leaves.MethodKind.TheVariants as method
use Rattle.swc_ecma_parser_model.specs.Tree as tree
use Rattle.swc_ecma_parser_model.specs.Tree.{Tree, Text, listed}
use Rattle.swc_ecma_parser_grammar.specs.Looks.{kind_at, span_at, spanned}
use Rattle.swc_ecma_parser_grammar.specs.Names.{Code}
use Rattle.swc_ecma_parser_grammar.specs.language.Contexts.{with_in}
use Rattle.swc_ecma_parser_grammar.specs.language.Goals.{Goal, expr_goal, assignment}
use Rattle.swc_ecma_parser_grammar.specs.language.Parts.{ReadsName, KeyRule}
use Rattle.swc_ecma_parser_grammar.specs.Parameters.{parameters}
use Rattle.swc_ecma_parser_grammar.specs.language.Functions.{MethodRule}

-- PropertyDefinition: what stands in its parts is one level further in than the object
pub data PropertyRule (In : Goal → Type 0) (k : Code) (x : Tree) (c d : Place) : Type 0 where
  spread_rule : (e : Tree) → kind_at c ≡ kind.DotDotDot → In (expr_goal assignment (with_in k) e (after c) d) → x ≡ tree.spread_prop (span_at c) e → PropertyRule In k x c d
  shorthand_rule : (text : Text) (s : Span) → ReadsName k text s c d → x ≡ tree.shorthand_prop s text → PropertyRule In k x c d
  key_value_rule : (key value : Tree) (m : Place) → KeyRule In k key c m → kind_at m ≡ kind.Colon → In (expr_goal assignment (with_in k) value (after m) d)
      → x ≡ tree.key_value_prop (spanned c d) key value → PropertyRule In k x c d
  getter_rule : (key body : Tree) → MethodRule In (KeyRule In k) k method.Getter false false key [] body c d → x ≡ tree.getter_prop (spanned c d) key body → PropertyRule In k x c d
  setter_rule : (key p body : Tree) → MethodRule In (KeyRule In k) k method.Setter false false key (p ∷ []) body c d → x ≡ tree.setter_prop (spanned c d) key p body
      → PropertyRule In k x c d
  method_rule : (is_async is_generator : Bool) (key : Tree) (patterns : List Tree) (body : Tree) → MethodRule In (KeyRule In k) k method.Method is_async is_generator key patterns body c d
      → x ≡ tree.method_prop (spanned c d) key (tree.function (spanned c d) (listed []) (parameters patterns) body is_async is_generator) → PropertyRule In k x c d
