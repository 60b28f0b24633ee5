-- The words of ESTree stand in a JSON string as they are.
use Rattle.std.proofs.Common.{◌≡◌, ℕ, List, [], ◌∷◌, ◌++◌, ◌+◌, ◌<◌, ◌==◌, ◌&&◌, Bool, true, false, if◌then◌else◌, Option, Some, None, drop, map, codes, arith, refl}
use Rattle.std.proofs.lemmas.Bool.Decides.{nat_tests}
use Rattle.std.proofs.lemmas.Int.Digits.{all_below_base_digits_of}
use Rattle.std.specs.Int.Digits.{digits_of, AllBelowBase}
use Rattle.ecma_estree_json.proofs.Chars.{simple, all_simple, and_yes}
use Rattle.ecma_estree_text.specs.Number.{is_numeral, is_mark, bare_byte, bare_text, whole_text, value_behind, radix_of, digits_by, digits_text}
use Rattle.ecma_estree_writer.specs.Estree.{Role, declared, function_kind, class_kind}
use Rattle.ecma_estree_writer.specs.Words.{kind_word, using_word, method_word, unary_word, update_word, binary_word, binary_kind, assign_word}
use Rattle.swc_ecma_parser_model.specs.declared.leaves.VarDeclKind.{VarDeclKind}
use Rattle.swc_ecma_parser_model.specs.declared.leaves.VarDeclKind.TheVariants as var_kind
use Rattle.swc_ecma_parser_model.specs.declared.leaves.MethodKind.{MethodKind}
use Rattle.swc_ecma_parser_model.specs.declared.leaves.MethodKind.TheVariants as method
use Rattle.swc_ecma_parser_model.specs.declared.operators.UnaryOp.{UnaryOp}
use Rattle.swc_ecma_parser_model.specs.declared.operators.UnaryOp.TheVariants as unary
use Rattle.swc_ecma_parser_model.specs.declared.operators.UpdateOp.{UpdateOp}
use Rattle.swc_ecma_parser_model.specs.declared.operators.UpdateOp.TheVariants as update
use Rattle.swc_ecma_parser_model.specs.declared.operators.BinaryOp.{BinaryOp}
use Rattle.swc_ecma_parser_model.specs.declared.operators.BinaryOp.TheVariants as binary
use Rattle.swc_ecma_parser_model.specs.declared.operators.AssignOp.{AssignOp}
use Rattle.swc_ecma_parser_model.specs.declared.operators.AssignOp.TheVariants as assign

pub function_kind_simple : (r : Role) → all_simple (function_kind r) ≡ true
function_kind_simple declared = refl
function_kind_simple _ = refl

pub class_kind_simple : (r : Role) → all_simple (class_kind r) ≡ true
class_kind_simple declared = refl
class_kind_simple _ = refl

pub kind_simple : (kind : VarDeclKind) → all_simple (kind_word kind) ≡ true
unfolding kind_word
kind_simple var_kind.Var = refl
kind_simple _ = refl

pub using_simple : (is_await : Bool) → all_simple (using_word is_await) ≡ true
unfolding using_word
using_simple true = refl
using_simple false = refl

pub method_simple : (kind : MethodKind) → all_simple (method_word kind) ≡ true
unfolding method_word
method_simple method.Method = refl
method_simple _ = refl

pub unary_simple : (op : UnaryOp) → all_simple (unary_word op) ≡ true
unfolding unary_word
unary_simple unary.Minus = refl
unary_simple _ = refl

pub update_simple : (op : UpdateOp) → all_simple (update_word op) ≡ true
unfolding update_word
update_simple update.PlusPlus = refl
update_simple _ = refl

pub binary_simple : (op : BinaryOp) → all_simple (binary_word op) ≡ true
unfolding binary_word
binary_simple binary.EqEq = refl
binary_simple _ = refl

pub binary_kind_simple : (op : BinaryOp) → all_simple (binary_kind op) ≡ true
unfolding binary_kind
binary_kind_simple binary.EqEq = refl
binary_kind_simple _ = refl

pub assign_simple : (op : AssignOp) → all_simple (assign_word op) ≡ true
unfolding assign_word
assign_simple assign.Assign = refl
assign_simple _ = refl

-- ---- the digits of a big integer

simple_append : (xs ys : List ℕ) → all_simple xs ≡ true → all_simple ys ≡ true → all_simple (xs ++ ys) ≡ true
simple_append [] ys h g = g
simple_append (b ∷ bs) ys h g =
    let p = and_yes (simple b) (all_simple bs) h in
    rw (p.0) (simple_append bs ys p.1 g)

if_simple : (t : Bool) (xs ys : List ℕ) → (t ≡ true → all_simple xs ≡ true) → (t ≡ false → all_simple ys ≡ true) → all_simple (if t then xs else ys) ≡ true
if_simple true xs ys x y = x refl
if_simple false xs ys x y = y refl

simple_glyph : (d : ℕ) → d < 10 → simple (48 + d) ≡ true
simple_glyph d h = grind (arith, nat_tests)

simple_glyphs : (ds : List ℕ) → AllBelowBase 10 ds → all_simple (map (λ d. 48 + d) ds) ≡ true
simple_glyphs [] h = refl
simple_glyphs (d ∷ ds) h = rw (simple_glyph d h.0) (simple_glyphs ds h.1)

whole_simple : (n : ℕ) → all_simple (whole_text n) ≡ true
whole_simple n =
    if_simple (n == 0) (codes "0") (map (λ d. 48 + d) (digits_of 10 n)) (λ _. refl)
    (λ _. simple_glyphs (digits_of 10 n) (all_below_base_digits_of 10 n (omega arith)))

numeral_simple : (b : ℕ) → is_numeral b ≡ true → all_simple (b ∷ []) ≡ true
numeral_simple b h = grind (arith, nat_tests)

bare_simple : (bs : List ℕ) → all_simple (bare_text bs) ≡ true
bare_simple [] = refl
bare_simple (b ∷ bs) =
    simple_append (bare_byte b) (bare_text bs)
    (if_simple (is_mark b) [] (if is_numeral b then b ∷ [] else []) (λ _. refl) (λ _. if_simple (is_numeral b) (b ∷ []) [] (numeral_simple b) (λ _. refl))) (bare_simple bs)

digits_simple_by : (raw : List ℕ) (o : Option ℕ) → all_simple (digits_by raw o) ≡ true
digits_simple_by raw None = bare_simple raw
digits_simple_by raw (Some radix) = whole_simple (value_behind radix 0 (drop 2 raw))

pub digits_simple : (raw : List ℕ) → all_simple (digits_text raw) ≡ true
unfolding digits_text
digits_simple raw = digits_simple_by raw (radix_of raw)
