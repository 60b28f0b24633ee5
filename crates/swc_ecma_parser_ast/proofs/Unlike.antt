-- As Apart.antt, but for spans: a node of one kind is none of another, wherever the spans are.
use Rattle.std.proofs.Common.{◌≡◌, refl, Bool, true, false, ◌∙◌}
use Rattle.swc_ecma_parser_model.specs.Tree.{Tree, Trees, list}
use Rattle.swc_ecma_parser_model.specs.Kinds.{is_expr, is_stmt, is_pat}
use Rattle.swc_ecma_parser_model.specs.Same.{same, same_laws}
use Rattle.swc_ecma_parser_model.specs.Held.{Held}
use Rattle.swc_ecma_parser_ast.specs.Apart.{kind_expr, kind_pat, kind_stmt, not_expr_pat, not_expr_stmt, not_pat_expr, not_pat_stmt, not_stmt_expr, not_stmt_pat}
use Rattle.swc_ecma_parser_ast.specs.Differ.{differ}
use Rattle.swc_ecma_parser_ast.specs.Respanned.{kept_expr, kept_pat, kept_stmt}
use Rattle.swc_ecma_parser_ast.specs.Unspanned.{no_span, unspanned}
use Rattle.swc_ecma_parser_ast.specs.View.{view_expr, view_stmt, view_pat}
use Rattle.swc_ecma_parser_ast.specs.declared.expr.Expr.{Expr}
use Rattle.swc_ecma_parser_ast.specs.declared.pat.Pat.{Pat}
use Rattle.swc_ecma_parser_ast.specs.declared.stmt.Stmt.{Stmt}

abbrev like : Tree → Tree → Bool
like t u = same (unspanned t) (unspanned u)

apart : (kind : Tree → Bool) → ((t : Tree) → kind (unspanned t) ≡ kind t) → (t u : Tree) → kind t ≡ true → kind u ≡ false → like t u ≡ false
apart kind kept t u p q = differ kind (unspanned t) (unspanned u) (kept t ∙ p) (kept u ∙ q)

pub expr_stmt : (x : Expr Held) (y : Stmt Held) → like (view_expr x) (view_stmt y) ≡ false
expr_stmt x y = apart is_expr (kept_expr (λ _. no_span)) (view_expr x) (view_stmt y) (kind_expr x) (not_expr_stmt y)

pub expr_pat : (x : Expr Held) (y : Pat Held) → like (view_expr x) (view_pat y) ≡ false
expr_pat x y = apart is_expr (kept_expr (λ _. no_span)) (view_expr x) (view_pat y) (kind_expr x) (not_expr_pat y)

pub expr_list : (x : Expr Held) (ts : Trees) → like (view_expr x) (list ts) ≡ false
expr_list x ts = apart is_expr (kept_expr (λ _. no_span)) (view_expr x) (list ts) (kind_expr x) refl

pub list_expr : (ts : Trees) (x : Expr Held) → like (list ts) (view_expr x) ≡ false
list_expr ts x = same_laws.symm (unspanned (list ts)) (unspanned (view_expr x)) ∙ expr_list x ts

pub stmt_expr : (x : Stmt Held) (y : Expr Held) → like (view_stmt x) (view_expr y) ≡ false
stmt_expr x y = apart is_stmt (kept_stmt (λ _. no_span)) (view_stmt x) (view_expr y) (kind_stmt x) (not_stmt_expr y)

pub stmt_pat : (x : Stmt Held) (y : Pat Held) → like (view_stmt x) (view_pat y) ≡ false
stmt_pat x y = apart is_stmt (kept_stmt (λ _. no_span)) (view_stmt x) (view_pat y) (kind_stmt x) (not_stmt_pat y)

pub stmt_list : (x : Stmt Held) (ts : Trees) → like (view_stmt x) (list ts) ≡ false
stmt_list x ts = apart is_stmt (kept_stmt (λ _. no_span)) (view_stmt x) (list ts) (kind_stmt x) refl

pub list_stmt : (ts : Trees) (x : Stmt Held) → like (list ts) (view_stmt x) ≡ false
list_stmt ts x = same_laws.symm (unspanned (list ts)) (unspanned (view_stmt x)) ∙ stmt_list x ts

pub pat_expr : (x : Pat Held) (y : Expr Held) → like (view_pat x) (view_expr y) ≡ false
pat_expr x y = apart is_pat (kept_pat (λ _. no_span)) (view_pat x) (view_expr y) (kind_pat x) (not_pat_expr y)

pub pat_stmt : (x : Pat Held) (y : Stmt Held) → like (view_pat x) (view_stmt y) ≡ false
pat_stmt x y = apart is_pat (kept_pat (λ _. no_span)) (view_pat x) (view_stmt y) (kind_pat x) (not_pat_stmt y)

pub pat_list : (x : Pat Held) (ts : Trees) → like (view_pat x) (list ts) ≡ false
pat_list x ts = apart is_pat (kept_pat (λ _. no_span)) (view_pat x) (list ts) (kind_pat x) refl

pub list_pat : (ts : Trees) (x : Pat Held) → like (list ts) (view_pat x) ≡ false
list_pat ts x = same_laws.symm (unspanned (list ts)) (unspanned (view_pat x)) ∙ pat_list x ts
