-- An expression in a place where other forms may stand as well is written as it is.
use Rattle.std.proofs.Common.{◌≡◌, ◌++◌, ◌∙◌, Bool, true, false, true≢false, cond, refl, sym, ap, append-nil, codes}
use Rattle.ecma_estree_writer.specs.Estree.{json, plain, link, linked, link_role, function_fields}
use Rattle.ecma_estree_writer.specs.Parts.{node, key, bool_field, end, open_list, end_list, nothing, comma, is_import}
use Rattle.ecma_estree_writer.specs.Source.{Source}
use Rattle.swc_ecma_parser_ast.specs.Parts.{as_expr, marked}
use Rattle.swc_ecma_parser_common.specs.declared.span.Span.{Span}
use Rattle.swc_ecma_parser_model.specs.Forms.{is_chain}
use Rattle.swc_ecma_parser_model.specs.Kinds.{is_block, is_expr}
use Rattle.swc_ecma_parser_model.specs.Tree as tree
use Rattle.swc_ecma_parser_model.specs.Tree.{Tree}

marked_json : (b : Bool) (t : Source) (x : Tree) → json t plain (marked b x) ≡ json t plain x
unfolding comma
marked_json true t x = refl
marked_json false t x = append-nil (json t plain x)

pub as_expr_json : (t : Source) (x : Tree) → json t plain (as_expr x) ≡ json t plain x
as_expr_json t x = marked_json (is_expr x) t x

is_block_as_expr : (x : Tree) → is_block (as_expr x) ≡ false
is_block_as_expr (tree.block s stmts) = refl
is_block_as_expr _ = refl

pub is_import_as_expr : (x : Tree) → is_import (as_expr x) ≡ false
is_import_as_expr (tree.import_callee s) = refl
is_import_as_expr _ = refl

pub call_of_expr : (t : Source) (s : Span) (x args : Tree) → json t plain (tree.call s (as_expr x) args)
    ≡ node t (codes "CallExpression") s ++ (key (codes "callee") ++ (json t plain x ++ (key (codes "arguments") ++ (open_list ++ (json t plain args ++ (end_list ++ (bool_field (codes "optional") false ++ end)))))))
call_of_expr t s x args = rw (is_import_as_expr x, as_expr_json t x) refl

pub arrow_of_expr : (t : Source) (s : Span) (params x : Tree) (is_async : Bool) → json t plain (tree.arrow s params (as_expr x) is_async)
    ≡ node t (codes "ArrowFunctionExpression") s ++ (function_fields nothing true false is_async ++ (key (codes "params") ++ (open_list ++ (json t plain params ++ (end_list ++ (key (codes "body") ++ (json t plain x ++ end)))))))
arrow_of_expr t s params x is_async = rw (is_block_as_expr x, as_expr_json t x) refl

not_chain : (x : Tree) → is_expr x ≡ false → is_chain x ≡ false
not_chain (tree.opt_chain s optional base) h = absurd (true≢false h)
not_chain _ h = refl

linked_marked : (b : Bool) (t : Source) (x : Tree) → is_expr x ≡ b → json t (link_role (marked b x)) (marked b x) ≡ json t (link_role x) x
linked_marked true t x h = refl
linked_marked false t x h = marked_json false t x ∙ sym (ap (λ c. json t (cond c link plain) x) (not_chain x h))

-- so is one that a link of an optional chain is a link of
pub linked_json : (t : Source) (x : Tree) → json t (link_role (as_expr x)) (as_expr x) ≡ json t (link_role x) x
linked_json t x = linked_marked (is_expr x) t x refl

pub linked_call_of_expr : (t : Source) (s : Span) (optional : Bool) (x args : Tree) → json t (linked optional) (tree.call s (as_expr x) args)
    ≡ node t (codes "CallExpression") s ++ (key (codes "callee") ++ (json t (link_role x) x ++ (key (codes "arguments") ++ (open_list ++ (json t plain args ++ (end_list ++ (bool_field (codes "optional") optional ++ end)))))))
linked_call_of_expr t s optional x args = rw (is_import_as_expr x, linked_json t x) refl
