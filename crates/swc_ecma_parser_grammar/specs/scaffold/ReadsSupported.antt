-- The relation of the whole language on supported trees, and the small relation with its parts read so.
use Rattle.std.specs.Prelude.{◌≡◌, ℕ, zero, suc, true, false, ◌||◌, List, []}
use Rattle.swc_ecma_parser_token.specs.declared.kind.TokenKind.TheVariants as kind
use Rattle.swc_ecma_parser_input.specs.Place.{Place}
use Rattle.swc_ecma_parser_model.specs.Tree as tree
use Rattle.swc_ecma_parser_model.specs.Tree.{Tree, trees, listed}
use Rattle.swc_ecma_parser_grammar.specs.declared.position.Position.{Position}
use Rattle.swc_ecma_parser_grammar.specs.Looks.{sees}
use Rattle.swc_ecma_parser_grammar.specs.Follows.{begins_template}
use Rattle.swc_ecma_parser_grammar.specs.Names.{Code}
use Rattle.swc_ecma_parser_grammar.specs.scaffold.Reads.{SmallStmtRule}
use Rattle.swc_ecma_parser_grammar.specs.scaffold.Decorated.{DeclaredRule, SmallDecoratedRule, EitherRule}
use Rattle.swc_ecma_parser_grammar.specs.scaffold.Supported.{supported_in, all_supported_in}
use Rattle.swc_ecma_parser_grammar.specs.language.Goals.{Class, callee, binding, assigning, expr_goal, callee_goal, pattern_goal, element_goal, member_goal, decorator_goal}
use Rattle.swc_ecma_parser_grammar.specs.language.Functions.{ParametersRule}
use Rattle.swc_ecma_parser_grammar.specs.language.Classes.{DecoratorsRule, ClassRule}
use Rattle.swc_ecma_parser_grammar.specs.language.Statements.{may_begin_at_top}
use Rattle.swc_ecma_parser_grammar.specs.language.Reads.{Reads}

-- An expression of a class within so many levels. Behind what `new` calls its arguments may stand.
abbrev pub ReadsClass : ℕ → Class → Code → Tree → Place → Place → Type 0
ReadsClass n callee k x c d = Reads n (callee_goal k x c d) × (sees kind.Dot d || (sees kind.LBracket d || begins_template d) ≡ false) × (supported_in k.flags.module x ≡ true)
ReadsClass n class k x c d = Reads n (expr_goal class k x c d) × (supported_in k.flags.module x ≡ true)

-- a binding pattern within so many levels, and one with its default, if it has one
abbrev pub ReadsPat : ℕ → Code → Tree → Place → Place → Type 0
ReadsPat n k x c d = Reads n (pattern_goal binding k x c d) × (supported_in k.flags.module x ≡ true)

abbrev pub ReadsElement : ℕ → Code → Tree → Place → Place → Type 0
ReadsElement n k x c d = Reads n (element_goal binding k x c d) × (supported_in k.flags.module x ≡ true)

-- what is assigned to: a name, a member, or a pattern
abbrev pub ReadsTarget : ℕ → Code → Tree → Place → Place → Type 0
ReadsTarget n k x c d = Reads n (pattern_goal assigning k x c d) × (supported_in k.flags.module x ≡ true)

-- the parameters of a function
abbrev pub ReadsParams : ℕ → Code → List Tree → Place → Place → Type 0
ReadsParams n k ps c d = ParametersRule (Reads n) k ps c d × (all_supported_in k.flags.module (trees ps) ≡ true)

-- what stands behind the `@` of a decorator
abbrev pub ReadsDecorated : ℕ → Code → Tree → Place → Place → Type 0
ReadsDecorated n k x c d = Reads n (decorator_goal k x c d) × (supported_in k.flags.module x ≡ true)

-- decorators one behind another, or none
abbrev pub ReadsDecorators : ℕ → Code → List Tree → Place → Place → Type 0
ReadsDecorators n k ds c d = DecoratorsRule (Reads n) k (listed ds) c d × (all_supported_in k.flags.module (trees ds) ≡ true)

-- a member of a class within so many levels
abbrev pub ReadsMember : ℕ → Code → Tree → Place → Place → Type 0
ReadsMember n k x c d = Reads n (member_goal k x c d) × (supported_in k.flags.module x ≡ true)

-- a class from its word on, with a name or without one; no decorators stand before it
abbrev pub ReadsNamedClass : ℕ → Code → (name x : Tree) → Place → Place → Type 0
ReadsNamedClass n k name x c d = ClassRule (Reads n) k c (listed []) name x c d × (supported_in k.flags.module (tree.class_decl name x) ≡ true)

-- a statement within so many levels
abbrev pub ReadsStmt : ℕ → Code → Position → Tree → Place → Place → Type 0
ReadsStmt zero k at x c d = ⊥
ReadsStmt (suc n) k at x c d = EitherRule (SmallStmtRule (ReadsStmt n) (ReadsClass n) (ReadsPat n) (ReadsTarget n) (ReadsParams n) (ReadsNamedClass n) k at x c d)
    (SmallDecoratedRule (ReadsDecorators n) (DeclaredRule (ReadsStmt n) (ReadsParams n) (ReadsNamedClass n)) k at x c d)

-- a class or a function that is declared, with what stands in it within so many levels
abbrev pub ReadsDeclared : ℕ → Code → Position → Tree → Place → Place → Type 0
ReadsDeclared n = DeclaredRule (ReadsStmt n) (ReadsParams n) (ReadsNamedClass n)

-- one that stands in no other: at the top level it begins with `await` only in what may be a module's code
abbrev pub ReadsTop : ℕ → Code → Position → Tree → Place → Place → Type 0
ReadsTop n k at x c d = ReadsStmt n k at x c d × (may_begin_at_top k at c ≡ true)
