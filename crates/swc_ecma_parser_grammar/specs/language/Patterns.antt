-- Binding and assignment patterns: ECMA-262, sections 14.3.3 and 13.15.5. They are read from the tokens, and not from expressions.
use Rattle.std.specs.Prelude.{◌≡◌, true, false, List}
use Rattle.swc_ecma_parser_common.specs.declared.span.Span.{Span}
use Rattle.swc_ecma_parser_token.specs.declared.kind.TokenKind.TheVariants as kind
use Rattle.swc_ecma_parser_input.specs.Place.{Place, after}
use Rattle.swc_ecma_parser_model.specs.Tree as tree
use Rattle.swc_ecma_parser_model.specs.Tree.{Tree, Text, listed}
use Rattle.swc_ecma_parser_model.specs.Forms.{is_simple_target, is_pattern_target, is_ident}
use Rattle.swc_ecma_parser_grammar.specs.Looks.{kind_at, sees, spanned}
use Rattle.swc_ecma_parser_grammar.specs.Names.{Code}
use Rattle.swc_ecma_parser_grammar.specs.language.PatternItems.{PatternItemRule}
use Rattle.swc_ecma_parser_grammar.specs.language.Contexts.{with_in}
use Rattle.swc_ecma_parser_grammar.specs.language.Goals.{Goal, Purpose, binding, assigning, expr_goal, assignment, pattern_goal, element_goal}
use Rattle.swc_ecma_parser_grammar.specs.language.Begins.{awaits}
use Rattle.swc_ecma_parser_grammar.specs.language.Lists.{ReadsListed, Elements}
use Rattle.swc_ecma_parser_grammar.specs.language.Parts.{ReadsName, KeyRule}
use Rattle.swc_ecma_parser_grammar.specs.language.LeftSides.{OperandRule}

-- a property of an object pattern: the rest is the last, and a name or a target
pub data PatternPropertyRule (In : Goal → Type 0) (p : Purpose) (k : Code) (x : Tree) (c d : Place) : Type 0 where
  key_value_rule : (key value : Tree) (m : Place) → KeyRule In k key c m → kind_at m ≡ kind.Colon → In (element_goal p (with_in k) value (after m) d)
      → x ≡ tree.key_value_pat_prop (spanned c d) key value → PatternPropertyRule In p k x c d
  shorthand_rule : (text : Text) (s : Span) → ReadsName k text s c d → sees kind.Assign d ≡ false → x ≡ tree.assign_pat_prop (spanned c d) (tree.ident_pat s text) tree.absent
      → PatternPropertyRule In p k x c d
  default_rule : (text : Text) (s : Span) (value : Tree) (m : Place) → ReadsName k text s c m → kind_at m ≡ kind.Assign → In (expr_goal assignment (with_in k) value (after m) d)
      → x ≡ tree.assign_pat_prop (spanned c d) (tree.ident_pat s text) value → PatternPropertyRule In p k x c d
  rest_rule : (y : Tree) → kind_at c ≡ kind.DotDotDot → In (pattern_goal p k y (after c) d) → is_pattern_target y ≡ false → x ≡ tree.rest_pat (spanned c d) y
      → PatternPropertyRule In p k x c d

-- A pattern without default. The leaves of a binding are names; those of an assignment are members and parentheses too.
pub data PatternRule (In : Goal → Type 0) (p : Purpose) (k : Code) (x : Tree) (c d : Place) : Type 0 where
  binding_name_rule : (text : Text) (s : Span) → p ≡ binding → ReadsName k text s c d → x ≡ tree.ident_pat s text → PatternRule In p k x c d
  target_name_rule : (text : Text) (s : Span) → p ≡ assigning → awaits k.flags c ≡ false → ReadsName k text s c d → x ≡ tree.ident_pat s text → PatternRule In p k x c d
  target_rule : (e : Tree) → p ≡ assigning → OperandRule In k e c d → is_simple_target e ≡ true → is_ident e ≡ false → x ≡ tree.expr_pat e → PatternRule In p k x c d
  array_rule : (elements : List Tree) (m : Place) → kind_at c ≡ kind.LBracket → Elements (PatternItemRule In p (with_in k)) elements (after c) m → kind_at m ≡ kind.RBracket
      → d ≡ after m → x ≡ tree.array_pat (spanned c d) (listed elements) → PatternRule In p k x c d
  object_rule : (properties : List Tree) (m : Place) → kind_at c ≡ kind.LBrace → ReadsListed true (PatternPropertyRule In p (with_in k)) properties (after c) m → kind_at m ≡ kind.RBrace
      → d ≡ after m → x ≡ tree.object_pat (spanned c d) (listed properties) → PatternRule In p k x c d

-- a pattern with a default, whose left side stands at its own level, or without one
pub data PatternElementRule (In : Goal → Type 0) (p : Purpose) (k : Code) (x : Tree) (c d : Place) : Type 0 where
  bare_rule : PatternRule In p k x c d → sees kind.Assign d ≡ false → PatternElementRule In p k x c d
  initialized_rule : (left right : Tree) (m : Place) → PatternRule In p k left c m → kind_at m ≡ kind.Assign → In (expr_goal assignment (with_in k) right (after m) d)
      → x ≡ tree.assign_pat (spanned c d) left right → PatternElementRule In p k x c d
