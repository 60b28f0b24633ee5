-- An error token in first place of a program is answered.
use Rattle.std.proofs.Common.{◌≡◌, ℕ, zero, suc, List, ◌∷◌, Err, refl, sym, subst, Bool, true, false}
use Rattle.swc_ecma_parser_error.specs.declared.error.Error.{Error}
use Rattle.swc_ecma_parser_error.specs.Kind.{Fault, fault_of}
use Rattle.swc_ecma_parser_token.specs.declared.token.Token.TheVariants as token
use Rattle.swc_ecma_parser_token.specs.declared.token.TokenAndSpan.{TokenAndSpan}
use Rattle.swc_ecma_parser_grammar.specs.Looks.{kind_at, same_kind}
use Rattle.swc_ecma_parser_grammar.specs.Names.{identifier_at}
use Rattle.swc_ecma_parser_grammar.specs.Follows.{may_begin_expression_statement, is_async_function, is_let_declaration, word_at}
use Rattle.swc_ecma_parser_grammar.specs.language.Begins.{awaits}
use Rattle.swc_ecma_parser_reader.specs.DecoratedStatements.{either_stmt}
use Rattle.swc_ecma_parser_reader.specs.State.{State, wanted, too_deep, loop}
use Rattle.swc_ecma_parser_reader.specs.Expressions.{first_operand, literal, marked_primary, primary, left_head, left, postfix, unary_expr, binary_expr, operators_expr, done_expr, cover_expr, assignment_expr, expression_expr, expr_level, plain_expr}
use Rattle.swc_ecma_parser_reader.specs.Yields.{begins_yield}
use Rattle.swc_ecma_parser_reader.specs.Arrows.{begins_named_arrow}
use Rattle.swc_ecma_parser_reader.specs.AsyncArrows.{begins_async_arrow}
use Rattle.swc_ecma_parser_reader.specs.Words.{begins_async_call}
use Rattle.swc_ecma_parser_reader.specs.Reader.{other_stmt, begins_label, expr, at_end, items_turn, items, expr_stmt, expr_stmt_at, stmt_level, stmt, top_await, whole_stmt, shebang, await_using_or}
use Rattle.swc_ecma_parser_module_reader.specs.Modules.{begins_import}
use Rattle.swc_ecma_parser_module_reader.specs.Programs.{begins_module, before_module, program_body, program_whole, front, front_turn}
use Rattle.swc_ecma_parser_module_reader.proofs.Refusals.{before, set_to}
use Rattle.swc_ecma_parser_module_reader.specs.Decorated.{begins_decorators}
use Rattle.swc_ecma_parser_grammar.specs.scaffold.Using.{is_await_using_declaration}

-- nothing but the fault is answered, in however many levels
refused_by : (n : ℕ) (b : Bool) (recorded : List Fault) (s : State) (t : TokenAndSpan) (e : Error) (ts : List TokenAndSpan)
    → (u : State) × (program_whole n recorded (before (set_to b s) t (token.Error e) ts) ≡ Err (fault_of e, u))
unfolding program_whole program_body front front_turn begins_decorators before_module begins_module begins_import shebang items items_turn loop at_end whole_stmt top_await stmt either_stmt await_using_or is_await_using_declaration stmt_level other_stmt begins_label expr_stmt_at expr_stmt expr expr_level expression_expr assignment_expr cover_expr done_expr plain_expr begins_yield begins_named_arrow begins_async_arrow begins_async_call operators_expr binary_expr first_operand unary_expr awaits postfix left left_head primary literal marked_primary wanted too_deep kind_at same_kind identifier_at may_begin_expression_statement is_async_function is_let_declaration word_at
refused_by zero true recorded s t e ts = (_, refl)
refused_by zero false recorded s t e ts = (_, refl)
refused_by (suc zero) true recorded s t e ts = (_, refl)
refused_by (suc zero) false recorded s t e ts = (_, refl)
refused_by (suc (suc n)) true recorded s t e ts = (_, refl)
refused_by (suc (suc n)) false recorded s t e ts = (_, refl)

refused_in : (n : ℕ) (recorded : List Fault) (s : State) (t : TokenAndSpan) (e : Error) (ts : List TokenAndSpan)
    → (u : State) × (program_whole n recorded (before s t (token.Error e) ts) ≡ Err (fault_of e, u))
refused_in n recorded s t e ts = refused_by n s.code.setting.decorators recorded s t e ts

-- whatever the list goes on with
pub program_of_error_token : (limit : ℕ) (recorded : List Fault) (s : State) (u : TokenAndSpan) (us : List TokenAndSpan) (d : Error) → s.at.left ≡ u ∷ us → u.token ≡ token.Error d
    → (v : State) × (program_whole limit recorded s ≡ Err (fault_of d, v))
program_of_error_token limit recorded s u us d h g =
    let k : (w : State) × (program_whole limit recorded (before s u u.token us) ≡ Err (fault_of d, w)) =
    subst (λ v. (w : State) × (program_whole limit recorded (before s u v us) ≡ Err (fault_of d, w))) (sym g) (refused_in limit recorded s u d us) in
    subst (λ l. (w : State) × (program_whole limit recorded (record s { at = record s.at { left = l } }) ≡ Err (fault_of d, w))) (sym h) k
