-- The derived equality of each name, literal and operator is the one of specs/Equal.antt, and so is that of lists and of what may be left out.
use Rattle.std.proofs.Common.{◌≡◌, List, [], ◌∷◌, refl, Bool, true, false, ◌&&◌, Option, Some, None}
use Rattle.std.specs.Bool.{◌==◌}
use Rattle.std.specs.Option.{option_eq}
use Rattle.std.specs.Cmp.Lexicographic.{pointwise}
use mathlib.Core.Bool.{beq}
use Rattle.swc_ecma_parser_common.specs.declared.span.Span.{Span}
use Rattle.swc_ecma_parser_common.specs.contracts.span.SpanPartialEq.TheImpl as i_span
use Rattle.swc_ecma_parser_model.specs.Tree.{Text}
use Rattle.swc_ecma_parser_model.specs.Leaf.{put_assign, put_binary, put_bool, put_dots, put_kind, put_meta, put_method, put_option, put_phase, put_unary, put_update}
use Rattle.swc_ecma_parser_model.specs.Same.{alike}
use Rattle.swc_ecma_parser_ast.specs.Equal.{equal_span, equal_text, equal_ident, equal_str, equal_bool, equal_null, equal_number, equal_big_int, equal_private_name, equal_regex, equal_tpl_element}
use Rattle.swc_ecma_parser_model.specs.declared.operators.AssignOp.{AssignOp}
use Rattle.swc_ecma_parser_model.specs.contracts.operators.AssignOpPartialEq.TheImpl as i_assign_op
use Rattle.swc_ecma_parser_model.specs.declared.operators.BinaryOp.{BinaryOp}
use Rattle.swc_ecma_parser_model.specs.contracts.operators.BinaryOpPartialEq.TheImpl as i_binary_op
use Rattle.swc_ecma_parser_model.specs.declared.leaves.ImportPhase.{ImportPhase}
use Rattle.swc_ecma_parser_model.specs.contracts.leaves.ImportPhasePartialEq.TheImpl as i_import_phase
use Rattle.swc_ecma_parser_model.specs.declared.leaves.MetaPropKind.{MetaPropKind}
use Rattle.swc_ecma_parser_model.specs.contracts.leaves.MetaPropKindPartialEq.TheImpl as i_meta_prop_kind
use Rattle.swc_ecma_parser_model.specs.declared.leaves.MethodKind.{MethodKind}
use Rattle.swc_ecma_parser_model.specs.contracts.leaves.MethodKindPartialEq.TheImpl as i_method_kind
use Rattle.swc_ecma_parser_model.specs.declared.operators.UnaryOp.{UnaryOp}
use Rattle.swc_ecma_parser_model.specs.contracts.operators.UnaryOpPartialEq.TheImpl as i_unary_op
use Rattle.swc_ecma_parser_model.specs.declared.operators.UpdateOp.{UpdateOp}
use Rattle.swc_ecma_parser_model.specs.contracts.operators.UpdateOpPartialEq.TheImpl as i_update_op
use Rattle.swc_ecma_parser_model.specs.declared.leaves.VarDeclKind.{VarDeclKind}
use Rattle.swc_ecma_parser_model.specs.contracts.leaves.VarDeclKindPartialEq.TheImpl as i_var_decl_kind
use Rattle.swc_ecma_parser_model.specs.declared.operators.AssignOp.TheVariants as o_assign_op
use Rattle.swc_ecma_parser_model.specs.declared.operators.BinaryOp.TheVariants as o_binary_op
use Rattle.swc_ecma_parser_model.specs.declared.leaves.ImportPhase.TheVariants as o_import_phase
use Rattle.swc_ecma_parser_model.specs.declared.leaves.MetaPropKind.TheVariants as o_meta_prop_kind
use Rattle.swc_ecma_parser_model.specs.declared.leaves.MethodKind.TheVariants as o_method_kind
use Rattle.swc_ecma_parser_model.specs.declared.operators.UnaryOp.TheVariants as o_unary_op
use Rattle.swc_ecma_parser_model.specs.declared.operators.UpdateOp.TheVariants as o_update_op
use Rattle.swc_ecma_parser_model.specs.declared.leaves.VarDeclKind.TheVariants as o_var_decl_kind
use Rattle.swc_ecma_parser_model.specs.declared.leaves.Ident.{Ident}
use Rattle.swc_ecma_parser_model.specs.declared.leaves.Str.{Str}
use Rattle.swc_ecma_parser_model.specs.declared.leaves.Bool.{Bool as BoolLit}
use Rattle.swc_ecma_parser_model.specs.declared.leaves.Null.{Null}
use Rattle.swc_ecma_parser_model.specs.declared.leaves.Number.{Number}
use Rattle.swc_ecma_parser_model.specs.declared.leaves.BigInt.{BigInt}
use Rattle.swc_ecma_parser_model.specs.declared.leaves.PrivateName.{PrivateName}
use Rattle.swc_ecma_parser_model.specs.declared.leaves.Regex.{Regex}
use Rattle.swc_ecma_parser_model.specs.declared.leaves.TplElement.{TplElement}
use Rattle.swc_ecma_parser_model.specs.contracts.leaves.IdentPartialEq.TheImpl as i_ident
use Rattle.swc_ecma_parser_model.specs.contracts.leaves.StrPartialEq.TheImpl as i_str
use Rattle.swc_ecma_parser_model.specs.contracts.leaves.BoolPartialEq.TheImpl as i_bool
use Rattle.swc_ecma_parser_model.specs.contracts.leaves.NullPartialEq.TheImpl as i_null
use Rattle.swc_ecma_parser_model.specs.contracts.leaves.NumberPartialEq.TheImpl as i_number
use Rattle.swc_ecma_parser_model.specs.contracts.leaves.BigIntPartialEq.TheImpl as i_big_int
use Rattle.swc_ecma_parser_model.specs.contracts.leaves.PrivateNamePartialEq.TheImpl as i_private_name
use Rattle.swc_ecma_parser_model.specs.contracts.leaves.RegexPartialEq.TheImpl as i_regex
use Rattle.swc_ecma_parser_model.specs.contracts.leaves.TplElementPartialEq.TheImpl as i_tpl_element

pub derived_text : (t u : Text) → pointwise ◌==◌ t u ≡ equal_text t u
derived_text [] [] = refl
derived_text (m ∷ t) (n ∷ u) = λ k. (m == n) && derived_text t u k
derived_text _ _ = refl

pub derived_optional_text : (x y : Option Text) → option_eq (pointwise ◌==◌) x y ≡ alike (put_option x) (put_option y)
derived_optional_text None None = refl
derived_optional_text None (Some y) = refl
derived_optional_text (Some x) None = refl
derived_optional_text (Some x) (Some y) = derived_text x y

pub derived_flag : (b c : Bool) → beq b c ≡ alike (put_bool b) (put_bool c)
derived_flag true true = refl
derived_flag true false = refl
derived_flag false true = refl
derived_flag false false = refl

pub derived_dots : (x y : Option Span) → option_eq i_span.ghosts.eq x y ≡ alike (put_dots x) (put_dots y)
derived_dots None None = refl
derived_dots None (Some y) = refl
derived_dots (Some x) None = refl
derived_dots (Some x) (Some y) = refl

pub derived_option : {X : Type 0} (f g : X → X → Bool) → ((x y : X) → f x y ≡ g x y) → (x y : Option X) → option_eq f x y ≡ option_eq g x y
derived_option f g h None None = refl
derived_option f g h None (Some y) = refl
derived_option f g h (Some x) None = refl
derived_option f g h (Some x) (Some y) = h x y

pub derived_each : {X : Type 0} (f g : X → X → Bool) → ((x y : X) → f x y ≡ g x y) → (xs ys : List X) → pointwise f xs ys ≡ pointwise g xs ys
derived_each f g h [] [] = refl
derived_each f g h (x ∷ xs) (y ∷ ys) = λ k. h x y k && derived_each f g h xs ys k
derived_each _ _ _ _ _ = refl

pub derived_assign_op : (k l : AssignOp) → i_assign_op.ghosts.eq k l ≡ alike (put_assign k) (put_assign l)
derived_assign_op o_assign_op.Assign o_assign_op.Assign = refl
derived_assign_op o_assign_op.AddAssign o_assign_op.AddAssign = refl
derived_assign_op o_assign_op.SubAssign o_assign_op.SubAssign = refl
derived_assign_op o_assign_op.MulAssign o_assign_op.MulAssign = refl
derived_assign_op o_assign_op.DivAssign o_assign_op.DivAssign = refl
derived_assign_op o_assign_op.ModAssign o_assign_op.ModAssign = refl
derived_assign_op o_assign_op.LShiftAssign o_assign_op.LShiftAssign = refl
derived_assign_op o_assign_op.RShiftAssign o_assign_op.RShiftAssign = refl
derived_assign_op o_assign_op.ZeroFillRShiftAssign o_assign_op.ZeroFillRShiftAssign = refl
derived_assign_op o_assign_op.BitOrAssign o_assign_op.BitOrAssign = refl
derived_assign_op o_assign_op.BitXorAssign o_assign_op.BitXorAssign = refl
derived_assign_op o_assign_op.BitAndAssign o_assign_op.BitAndAssign = refl
derived_assign_op o_assign_op.ExpAssign o_assign_op.ExpAssign = refl
derived_assign_op o_assign_op.AndAssign o_assign_op.AndAssign = refl
derived_assign_op o_assign_op.OrAssign o_assign_op.OrAssign = refl
derived_assign_op o_assign_op.NullishAssign o_assign_op.NullishAssign = refl
derived_assign_op _ _ = refl

pub derived_binary_op : (k l : BinaryOp) → i_binary_op.ghosts.eq k l ≡ alike (put_binary k) (put_binary l)
derived_binary_op o_binary_op.EqEq o_binary_op.EqEq = refl
derived_binary_op o_binary_op.NotEq o_binary_op.NotEq = refl
derived_binary_op o_binary_op.EqEqEq o_binary_op.EqEqEq = refl
derived_binary_op o_binary_op.NotEqEq o_binary_op.NotEqEq = refl
derived_binary_op o_binary_op.Lt o_binary_op.Lt = refl
derived_binary_op o_binary_op.LtEq o_binary_op.LtEq = refl
derived_binary_op o_binary_op.Gt o_binary_op.Gt = refl
derived_binary_op o_binary_op.GtEq o_binary_op.GtEq = refl
derived_binary_op o_binary_op.LShift o_binary_op.LShift = refl
derived_binary_op o_binary_op.RShift o_binary_op.RShift = refl
derived_binary_op o_binary_op.ZeroFillRShift o_binary_op.ZeroFillRShift = refl
derived_binary_op o_binary_op.Add o_binary_op.Add = refl
derived_binary_op o_binary_op.Sub o_binary_op.Sub = refl
derived_binary_op o_binary_op.Mul o_binary_op.Mul = refl
derived_binary_op o_binary_op.Div o_binary_op.Div = refl
derived_binary_op o_binary_op.Mod o_binary_op.Mod = refl
derived_binary_op o_binary_op.BitOr o_binary_op.BitOr = refl
derived_binary_op o_binary_op.BitXor o_binary_op.BitXor = refl
derived_binary_op o_binary_op.BitAnd o_binary_op.BitAnd = refl
derived_binary_op o_binary_op.LogicalOr o_binary_op.LogicalOr = refl
derived_binary_op o_binary_op.LogicalAnd o_binary_op.LogicalAnd = refl
derived_binary_op o_binary_op.In o_binary_op.In = refl
derived_binary_op o_binary_op.InstanceOf o_binary_op.InstanceOf = refl
derived_binary_op o_binary_op.Exp o_binary_op.Exp = refl
derived_binary_op o_binary_op.NullishCoalescing o_binary_op.NullishCoalescing = refl
derived_binary_op _ _ = refl

pub derived_import_phase : (k l : ImportPhase) → i_import_phase.ghosts.eq k l ≡ alike (put_phase k) (put_phase l)
derived_import_phase o_import_phase.Evaluation o_import_phase.Evaluation = refl
derived_import_phase o_import_phase.Source o_import_phase.Source = refl
derived_import_phase o_import_phase.Defer o_import_phase.Defer = refl
derived_import_phase _ _ = refl

pub derived_meta_prop_kind : (k l : MetaPropKind) → i_meta_prop_kind.ghosts.eq k l ≡ alike (put_meta k) (put_meta l)
derived_meta_prop_kind o_meta_prop_kind.NewTarget o_meta_prop_kind.NewTarget = refl
derived_meta_prop_kind o_meta_prop_kind.ImportMeta o_meta_prop_kind.ImportMeta = refl
derived_meta_prop_kind _ _ = refl

pub derived_method_kind : (k l : MethodKind) → i_method_kind.ghosts.eq k l ≡ alike (put_method k) (put_method l)
derived_method_kind o_method_kind.Method o_method_kind.Method = refl
derived_method_kind o_method_kind.Getter o_method_kind.Getter = refl
derived_method_kind o_method_kind.Setter o_method_kind.Setter = refl
derived_method_kind _ _ = refl

pub derived_unary_op : (k l : UnaryOp) → i_unary_op.ghosts.eq k l ≡ alike (put_unary k) (put_unary l)
derived_unary_op o_unary_op.Minus o_unary_op.Minus = refl
derived_unary_op o_unary_op.Plus o_unary_op.Plus = refl
derived_unary_op o_unary_op.Bang o_unary_op.Bang = refl
derived_unary_op o_unary_op.Tilde o_unary_op.Tilde = refl
derived_unary_op o_unary_op.TypeOf o_unary_op.TypeOf = refl
derived_unary_op o_unary_op.Void o_unary_op.Void = refl
derived_unary_op o_unary_op.Delete o_unary_op.Delete = refl
derived_unary_op _ _ = refl

pub derived_update_op : (k l : UpdateOp) → i_update_op.ghosts.eq k l ≡ alike (put_update k) (put_update l)
derived_update_op o_update_op.PlusPlus o_update_op.PlusPlus = refl
derived_update_op o_update_op.MinusMinus o_update_op.MinusMinus = refl
derived_update_op _ _ = refl

pub derived_var_decl_kind : (k l : VarDeclKind) → i_var_decl_kind.ghosts.eq k l ≡ alike (put_kind k) (put_kind l)
derived_var_decl_kind o_var_decl_kind.Var o_var_decl_kind.Var = refl
derived_var_decl_kind o_var_decl_kind.Let o_var_decl_kind.Let = refl
derived_var_decl_kind o_var_decl_kind.Const o_var_decl_kind.Const = refl
derived_var_decl_kind _ _ = refl

pub derived_ident : (x y : Ident) → i_ident.ghosts.eq x y ≡ equal_ident x y
derived_ident x y = λ k. equal_span x.span y.span && derived_text x.sym y.sym k

pub derived_str : (x y : Str) → i_str.ghosts.eq x y ≡ equal_str x y
derived_str x y = λ k. equal_span x.span y.span && (derived_text x.value y.value k && derived_text x.raw y.raw k)

pub derived_bool : (x y : BoolLit) → i_bool.ghosts.eq x y ≡ equal_bool x y
derived_bool x y = λ k. equal_span x.span y.span && derived_flag x.value y.value k

pub derived_null : (x y : Null) → i_null.ghosts.eq x y ≡ equal_null x y
derived_null x y = refl

pub derived_number : (x y : Number) → i_number.ghosts.eq x y ≡ equal_number x y
derived_number x y = λ k. equal_span x.span y.span && derived_text x.raw y.raw k

pub derived_big_int : (x y : BigInt) → i_big_int.ghosts.eq x y ≡ equal_big_int x y
derived_big_int x y = λ k. equal_span x.span y.span && derived_text x.raw y.raw k

pub derived_private_name : (x y : PrivateName) → i_private_name.ghosts.eq x y ≡ equal_private_name x y
derived_private_name x y = λ k. equal_span x.span y.span && (equal_span x.id.span y.id.span && derived_text x.id.sym y.id.sym k)

pub derived_regex : (x y : Regex) → i_regex.ghosts.eq x y ≡ equal_regex x y
derived_regex x y = λ k. equal_span x.span y.span && (derived_text x.exp y.exp k && derived_text x.flags y.flags k)

pub derived_tpl_element : (x y : TplElement) → i_tpl_element.ghosts.eq x y ≡ equal_tpl_element x y
derived_tpl_element x y = λ k. equal_span x.span y.span && (derived_flag x.tail y.tail k && (derived_optional_text x.cooked y.cooked k && derived_text x.raw y.raw k))
