-- The relation of the whole language: what a stretch of tokens spells within so many levels. Each goal is its rule, whose parts are
-- read one level further in.
use Rattle.std.specs.Prelude.{◌≡◌, ℕ, zero, suc, true}
use Rattle.swc_ecma_parser_model.specs.Kinds.{is_object}
use Rattle.swc_ecma_parser_grammar.specs.language.Goals.{Goal, expr_goal, callee_goal, pattern_goal, element_goal, stmt_goal, member_goal, decorator_goal, using_goal, attributes_goal, item_goal}
use Rattle.swc_ecma_parser_grammar.specs.language.Classes.{MemberRule}
use Rattle.swc_ecma_parser_grammar.specs.language.LeftSides.{PrimaryRule, CalleeRule}
use Rattle.swc_ecma_parser_grammar.specs.language.Patterns.{PatternRule, PatternElementRule}
use Rattle.swc_ecma_parser_grammar.specs.language.Expressions.{ExprRule}
use Rattle.swc_ecma_parser_grammar.specs.language.Decorators.{DecoratedRule}
use Rattle.swc_ecma_parser_grammar.specs.language.ForHeads.{UsingNameRule}
use Rattle.swc_ecma_parser_grammar.specs.language.Statements.{StmtRule}
use Rattle.swc_ecma_parser_grammar.specs.language.ModuleItems.{ItemRule}

abbrev pub Reads : ℕ → Goal → Type 0
Reads zero g = ⊥
Reads (suc n) (expr_goal class k x c d) = ExprRule (Reads n) class k x c d
Reads (suc n) (callee_goal k x c d) = CalleeRule (Reads n) k x c d
Reads (suc n) (pattern_goal p k x c d) = PatternRule (Reads n) p k x c d
Reads (suc n) (element_goal p k x c d) = PatternElementRule (Reads n) p k x c d
Reads (suc n) (stmt_goal k at x c d) = StmtRule (Reads n) k at x c d
Reads (suc n) (member_goal k x c d) = MemberRule (Reads n) k x c d
Reads (suc n) (decorator_goal k x c d) = DecoratedRule (Reads n) k x c d
Reads (suc n) (using_goal k x c d) = UsingNameRule (Reads n) k x c d
Reads (suc n) (attributes_goal k x c d) = PrimaryRule (Reads n) k x c d × (is_object x ≡ true)
Reads (suc n) (item_goal k x c d) = ItemRule (Reads n) k x c d
