-- What is no statement is no directive, and none can follow it.
use Rattle.std.proofs.Common.{◌≡◌, false, refl, true≢false}
use Rattle.swc_ecma_parser_model.specs.Directive.{is_string_statement, is_use_strict}
use Rattle.swc_ecma_parser_model.specs.Kinds.{is_stmt}
use Rattle.swc_ecma_parser_model.specs.Tree.{Tree, expr_stmt}

pub no_statement_no_directive : (t : Tree) → is_stmt t ≡ false → is_use_strict t ≡ false
no_statement_no_directive (expr_stmt _ _) h = absurd (true≢false h)
no_statement_no_directive _ h = refl

pub no_statement_no_string : (t : Tree) → is_stmt t ≡ false → is_string_statement t ≡ false
no_statement_no_string (expr_stmt _ _) h = absurd (true≢false h)
no_statement_no_string _ h = refl
