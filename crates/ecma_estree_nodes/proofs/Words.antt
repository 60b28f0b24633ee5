-- The words of ESTree hold no quote, backslash or brace.
use Rattle.std.proofs.Common.{◌≡◌, Bool, true, false, refl}
use Rattle.ecma_estree_nodes.proofs.Scan.{all_calm}
use Rattle.ecma_estree_writer.specs.Estree.{Role, declared, function_kind, class_kind}
use Rattle.ecma_estree_writer.specs.Words.{kind_word, using_word, method_word, unary_word, update_word, binary_word, binary_kind, assign_word}
use Rattle.swc_ecma_parser_model.specs.declared.leaves.VarDeclKind.{VarDeclKind}
use Rattle.swc_ecma_parser_model.specs.declared.leaves.VarDeclKind.TheVariants as var_kind
use Rattle.swc_ecma_parser_model.specs.declared.leaves.MethodKind.{MethodKind}
use Rattle.swc_ecma_parser_model.specs.declared.leaves.MethodKind.TheVariants as method
use Rattle.swc_ecma_parser_model.specs.declared.operators.UnaryOp.{UnaryOp}
use Rattle.swc_ecma_parser_model.specs.declared.operators.UnaryOp.TheVariants as unary
use Rattle.swc_ecma_parser_model.specs.declared.operators.UpdateOp.{UpdateOp}
use Rattle.swc_ecma_parser_model.specs.declared.operators.UpdateOp.TheVariants as update
use Rattle.swc_ecma_parser_model.specs.declared.operators.BinaryOp.{BinaryOp}
use Rattle.swc_ecma_parser_model.specs.declared.operators.BinaryOp.TheVariants as binary
use Rattle.swc_ecma_parser_model.specs.declared.operators.AssignOp.{AssignOp}
use Rattle.swc_ecma_parser_model.specs.declared.operators.AssignOp.TheVariants as assign

pub function_kind_calm : (r : Role) → all_calm (function_kind r) ≡ true
function_kind_calm declared = refl
function_kind_calm _ = refl

pub class_kind_calm : (r : Role) → all_calm (class_kind r) ≡ true
class_kind_calm declared = refl
class_kind_calm _ = refl

pub kind_calm : (kind : VarDeclKind) → all_calm (kind_word kind) ≡ true
unfolding kind_word
kind_calm var_kind.Var = refl
kind_calm _ = refl

pub using_calm : (is_await : Bool) → all_calm (using_word is_await) ≡ true
unfolding using_word
using_calm true = refl
using_calm false = refl

pub method_calm : (kind : MethodKind) → all_calm (method_word kind) ≡ true
unfolding method_word
method_calm method.Method = refl
method_calm _ = refl

pub unary_calm : (op : UnaryOp) → all_calm (unary_word op) ≡ true
unfolding unary_word
unary_calm unary.Minus = refl
unary_calm _ = refl

pub update_calm : (op : UpdateOp) → all_calm (update_word op) ≡ true
unfolding update_word
update_calm update.PlusPlus = refl
update_calm _ = refl

pub binary_calm : (op : BinaryOp) → all_calm (binary_word op) ≡ true
unfolding binary_word
binary_calm binary.EqEq = refl
binary_calm _ = refl

pub binary_kind_calm : (op : BinaryOp) → all_calm (binary_kind op) ≡ true
unfolding binary_kind
binary_kind_calm binary.EqEq = refl
binary_kind_calm _ = refl

pub assign_calm : (op : AssignOp) → all_calm (assign_word op) ≡ true
unfolding assign_word
assign_calm assign.Assign = refl
assign_calm _ = refl
