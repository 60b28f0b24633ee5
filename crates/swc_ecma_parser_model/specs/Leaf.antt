-- What holds no tree: a code for each, the way back, and that it undoes the code.
use Rattle.std.specs.Prelude.{◌≡◌, Bool, true, false, [], ◌∷◌, Option, Some, None, refl}
use Rattle.std.proofs.Common.{ap}
use base.Stored.{Gv, gnil, gnum, gcons, num}
use Rattle.swc_ecma_parser_common.specs.declared.span.Span.{Span}
use Rattle.swc_ecma_parser_model.specs.declared.leaves.VarDeclKind.{VarDeclKind}
use Rattle.swc_ecma_parser_model.specs.declared.leaves.VarDeclKind.TheVariants as var_kind
use Rattle.swc_ecma_parser_model.specs.declared.leaves.MethodKind.{MethodKind}
use Rattle.swc_ecma_parser_model.specs.declared.leaves.MethodKind.TheVariants as method
use Rattle.swc_ecma_parser_model.specs.declared.leaves.ImportPhase.{ImportPhase}
use Rattle.swc_ecma_parser_model.specs.declared.leaves.ImportPhase.TheVariants as phase
use Rattle.swc_ecma_parser_model.specs.declared.leaves.MetaPropKind.{MetaPropKind}
use Rattle.swc_ecma_parser_model.specs.declared.leaves.MetaPropKind.TheVariants as meta
use Rattle.swc_ecma_parser_model.specs.declared.operators.UnaryOp.{UnaryOp}
use Rattle.swc_ecma_parser_model.specs.declared.operators.UnaryOp.TheVariants as unary
use Rattle.swc_ecma_parser_model.specs.declared.operators.UpdateOp.{UpdateOp}
use Rattle.swc_ecma_parser_model.specs.declared.operators.UpdateOp.TheVariants as update
use Rattle.swc_ecma_parser_model.specs.declared.operators.BinaryOp.{BinaryOp}
use Rattle.swc_ecma_parser_model.specs.declared.operators.BinaryOp.TheVariants as binary
use Rattle.swc_ecma_parser_model.specs.declared.operators.AssignOp.{AssignOp}
use Rattle.swc_ecma_parser_model.specs.declared.operators.AssignOp.TheVariants as assign
use Rattle.swc_ecma_parser_model.specs.Tree.{Text}

abbrev pub put_text : Text → Gv
put_text [] = gnil
put_text (n ∷ ns) = gcons (gnum n) (put_text ns)

abbrev pub get_text : Gv → Text
get_text gnil = []
get_text (gnum n) = []
get_text (gcons a b) = num a ∷ get_text b

pub get-put_text : (t : Text) → get_text (put_text t) ≡ t
get-put_text [] = refl
get-put_text (n ∷ ns) = ap (λ r. n ∷ r) (get-put_text ns)

abbrev pub put_span : Span → Gv
put_span s = gcons (gnum s.lo.0) (gnum s.hi.0)

abbrev pub get_span : Gv → Span
get_span gnil = record { lo = record { 0 = 0 }; hi = record { 0 = 0 } }
get_span (gnum n) = record { lo = record { 0 = 0 }; hi = record { 0 = 0 } }
get_span (gcons a b) = record { lo = record { 0 = num a }; hi = record { 0 = num b } }

abbrev pub put_bool : Bool → Gv
put_bool true = gnum 0
put_bool false = gnil

abbrev pub get_bool : Gv → Bool
get_bool gnil = false
get_bool (gnum n) = true
get_bool (gcons a b) = false

pub get-put_bool : (b : Bool) → get_bool (put_bool b) ≡ b
get-put_bool true = refl
get-put_bool false = refl

abbrev pub put_option : Option Text → Gv
put_option None = gnil
put_option (Some t) = gcons gnil (put_text t)

abbrev pub get_option : Gv → Option Text
get_option gnil = None
get_option (gnum n) = None
get_option (gcons a b) = Some (get_text b)

pub get-put_option : (o : Option Text) → get_option (put_option o) ≡ o
get-put_option None = refl
get-put_option (Some t) = ap Some (get-put_text t)

abbrev pub put_dots : Option Span → Gv
put_dots None = gnil
put_dots (Some s) = gcons gnil (put_span s)

abbrev pub get_dots : Gv → Option Span
get_dots gnil = None
get_dots (gnum n) = None
get_dots (gcons a b) = Some (get_span b)

pub get-put_dots : (o : Option Span) → get_dots (put_dots o) ≡ o
get-put_dots None = refl
get-put_dots (Some s) = refl

-- digits of three values, for the enums
abbrev d0 : Gv
d0 = gnil

abbrev d1 : Gv
d1 = gnum 0

abbrev d2 : Gv
d2 = gcons gnil gnil

abbrev pub put_kind : VarDeclKind → Gv
put_kind var_kind.Var = d0
put_kind var_kind.Let = d1
put_kind var_kind.Const = d2

abbrev pub get_kind : Gv → VarDeclKind
get_kind gnil = var_kind.Var
get_kind (gnum _) = var_kind.Let
get_kind _ = var_kind.Const

pub get-put_kind : (v : VarDeclKind) → get_kind (put_kind v) ≡ v
get-put_kind var_kind.Var = refl
get-put_kind var_kind.Let = refl
get-put_kind var_kind.Const = refl

abbrev pub put_method : MethodKind → Gv
put_method method.Method = d0
put_method method.Getter = d1
put_method method.Setter = d2

abbrev pub get_method : Gv → MethodKind
get_method gnil = method.Method
get_method (gnum _) = method.Getter
get_method _ = method.Setter

pub get-put_method : (v : MethodKind) → get_method (put_method v) ≡ v
get-put_method method.Method = refl
get-put_method method.Getter = refl
get-put_method method.Setter = refl

abbrev pub put_phase : ImportPhase → Gv
put_phase phase.Evaluation = d0
put_phase phase.Source = d1
put_phase phase.Defer = d2

abbrev pub get_phase : Gv → ImportPhase
get_phase gnil = phase.Evaluation
get_phase (gnum _) = phase.Source
get_phase _ = phase.Defer

pub get-put_phase : (v : ImportPhase) → get_phase (put_phase v) ≡ v
get-put_phase phase.Evaluation = refl
get-put_phase phase.Source = refl
get-put_phase phase.Defer = refl

abbrev pub put_meta : MetaPropKind → Gv
put_meta meta.NewTarget = d0
put_meta meta.ImportMeta = d1

abbrev pub get_meta : Gv → MetaPropKind
get_meta gnil = meta.NewTarget
get_meta _ = meta.ImportMeta

pub get-put_meta : (v : MetaPropKind) → get_meta (put_meta v) ≡ v
get-put_meta meta.NewTarget = refl
get-put_meta meta.ImportMeta = refl

abbrev pub put_unary : UnaryOp → Gv
put_unary unary.Minus = gcons d0 d0
put_unary unary.Plus = gcons d0 d1
put_unary unary.Bang = gcons d0 d2
put_unary unary.Tilde = gcons d1 d0
put_unary unary.TypeOf = gcons d1 d1
put_unary unary.Void = gcons d1 d2
put_unary unary.Delete = gcons d2 d0

abbrev pub get_unary : Gv → UnaryOp
get_unary (gcons gnil gnil) = unary.Minus
get_unary (gcons gnil (gnum _)) = unary.Plus
get_unary (gcons gnil (gcons _ _)) = unary.Bang
get_unary (gcons (gnum _) gnil) = unary.Tilde
get_unary (gcons (gnum _) (gnum _)) = unary.TypeOf
get_unary (gcons (gnum _) (gcons _ _)) = unary.Void
get_unary _ = unary.Delete

pub get-put_unary : (v : UnaryOp) → get_unary (put_unary v) ≡ v
get-put_unary unary.Minus = refl
get-put_unary unary.Plus = refl
get-put_unary unary.Bang = refl
get-put_unary unary.Tilde = refl
get-put_unary unary.TypeOf = refl
get-put_unary unary.Void = refl
get-put_unary unary.Delete = refl

abbrev pub put_update : UpdateOp → Gv
put_update update.PlusPlus = d0
put_update update.MinusMinus = d1

abbrev pub get_update : Gv → UpdateOp
get_update gnil = update.PlusPlus
get_update _ = update.MinusMinus

pub get-put_update : (v : UpdateOp) → get_update (put_update v) ≡ v
get-put_update update.PlusPlus = refl
get-put_update update.MinusMinus = refl

abbrev pub put_binary : BinaryOp → Gv
put_binary binary.EqEq = gcons d0 (gcons d0 d0)
put_binary binary.NotEq = gcons d0 (gcons d0 d1)
put_binary binary.EqEqEq = gcons d0 (gcons d0 d2)
put_binary binary.NotEqEq = gcons d0 (gcons d1 d0)
put_binary binary.Lt = gcons d0 (gcons d1 d1)
put_binary binary.LtEq = gcons d0 (gcons d1 d2)
put_binary binary.Gt = gcons d0 (gcons d2 d0)
put_binary binary.GtEq = gcons d0 (gcons d2 d1)
put_binary binary.LShift = gcons d0 (gcons d2 d2)
put_binary binary.RShift = gcons d1 (gcons d0 d0)
put_binary binary.ZeroFillRShift = gcons d1 (gcons d0 d1)
put_binary binary.Add = gcons d1 (gcons d0 d2)
put_binary binary.Sub = gcons d1 (gcons d1 d0)
put_binary binary.Mul = gcons d1 (gcons d1 d1)
put_binary binary.Div = gcons d1 (gcons d1 d2)
put_binary binary.Mod = gcons d1 (gcons d2 d0)
put_binary binary.BitOr = gcons d1 (gcons d2 d1)
put_binary binary.BitXor = gcons d1 (gcons d2 d2)
put_binary binary.BitAnd = gcons d2 (gcons d0 d0)
put_binary binary.LogicalOr = gcons d2 (gcons d0 d1)
put_binary binary.LogicalAnd = gcons d2 (gcons d0 d2)
put_binary binary.In = gcons d2 (gcons d1 d0)
put_binary binary.InstanceOf = gcons d2 (gcons d1 d1)
put_binary binary.Exp = gcons d2 (gcons d1 d2)
put_binary binary.NullishCoalescing = gcons d2 (gcons d2 d0)

abbrev pub get_binary : Gv → BinaryOp
get_binary (gcons gnil (gcons gnil gnil)) = binary.EqEq
get_binary (gcons gnil (gcons gnil (gnum _))) = binary.NotEq
get_binary (gcons gnil (gcons gnil (gcons _ _))) = binary.EqEqEq
get_binary (gcons gnil (gcons (gnum _) gnil)) = binary.NotEqEq
get_binary (gcons gnil (gcons (gnum _) (gnum _))) = binary.Lt
get_binary (gcons gnil (gcons (gnum _) (gcons _ _))) = binary.LtEq
get_binary (gcons gnil (gcons (gcons _ _) gnil)) = binary.Gt
get_binary (gcons gnil (gcons (gcons _ _) (gnum _))) = binary.GtEq
get_binary (gcons gnil (gcons (gcons _ _) (gcons _ _))) = binary.LShift
get_binary (gcons (gnum _) (gcons gnil gnil)) = binary.RShift
get_binary (gcons (gnum _) (gcons gnil (gnum _))) = binary.ZeroFillRShift
get_binary (gcons (gnum _) (gcons gnil (gcons _ _))) = binary.Add
get_binary (gcons (gnum _) (gcons (gnum _) gnil)) = binary.Sub
get_binary (gcons (gnum _) (gcons (gnum _) (gnum _))) = binary.Mul
get_binary (gcons (gnum _) (gcons (gnum _) (gcons _ _))) = binary.Div
get_binary (gcons (gnum _) (gcons (gcons _ _) gnil)) = binary.Mod
get_binary (gcons (gnum _) (gcons (gcons _ _) (gnum _))) = binary.BitOr
get_binary (gcons (gnum _) (gcons (gcons _ _) (gcons _ _))) = binary.BitXor
get_binary (gcons (gcons _ _) (gcons gnil gnil)) = binary.BitAnd
get_binary (gcons (gcons _ _) (gcons gnil (gnum _))) = binary.LogicalOr
get_binary (gcons (gcons _ _) (gcons gnil (gcons _ _))) = binary.LogicalAnd
get_binary (gcons (gcons _ _) (gcons (gnum _) gnil)) = binary.In
get_binary (gcons (gcons _ _) (gcons (gnum _) (gnum _))) = binary.InstanceOf
get_binary (gcons (gcons _ _) (gcons (gnum _) (gcons _ _))) = binary.Exp
get_binary _ = binary.NullishCoalescing

pub get-put_binary : (v : BinaryOp) → get_binary (put_binary v) ≡ v
get-put_binary binary.EqEq = refl
get-put_binary binary.NotEq = refl
get-put_binary binary.EqEqEq = refl
get-put_binary binary.NotEqEq = refl
get-put_binary binary.Lt = refl
get-put_binary binary.LtEq = refl
get-put_binary binary.Gt = refl
get-put_binary binary.GtEq = refl
get-put_binary binary.LShift = refl
get-put_binary binary.RShift = refl
get-put_binary binary.ZeroFillRShift = refl
get-put_binary binary.Add = refl
get-put_binary binary.Sub = refl
get-put_binary binary.Mul = refl
get-put_binary binary.Div = refl
get-put_binary binary.Mod = refl
get-put_binary binary.BitOr = refl
get-put_binary binary.BitXor = refl
get-put_binary binary.BitAnd = refl
get-put_binary binary.LogicalOr = refl
get-put_binary binary.LogicalAnd = refl
get-put_binary binary.In = refl
get-put_binary binary.InstanceOf = refl
get-put_binary binary.Exp = refl
get-put_binary binary.NullishCoalescing = refl

abbrev pub put_assign : AssignOp → Gv
put_assign assign.Assign = gcons d0 (gcons d0 d0)
put_assign assign.AddAssign = gcons d0 (gcons d0 d1)
put_assign assign.SubAssign = gcons d0 (gcons d0 d2)
put_assign assign.MulAssign = gcons d0 (gcons d1 d0)
put_assign assign.DivAssign = gcons d0 (gcons d1 d1)
put_assign assign.ModAssign = gcons d0 (gcons d1 d2)
put_assign assign.LShiftAssign = gcons d0 (gcons d2 d0)
put_assign assign.RShiftAssign = gcons d0 (gcons d2 d1)
put_assign assign.ZeroFillRShiftAssign = gcons d0 (gcons d2 d2)
put_assign assign.BitOrAssign = gcons d1 (gcons d0 d0)
put_assign assign.BitXorAssign = gcons d1 (gcons d0 d1)
put_assign assign.BitAndAssign = gcons d1 (gcons d0 d2)
put_assign assign.ExpAssign = gcons d1 (gcons d1 d0)
put_assign assign.AndAssign = gcons d1 (gcons d1 d1)
put_assign assign.OrAssign = gcons d1 (gcons d1 d2)
put_assign assign.NullishAssign = gcons d1 (gcons d2 d0)

abbrev pub get_assign : Gv → AssignOp
get_assign (gcons gnil (gcons gnil gnil)) = assign.Assign
get_assign (gcons gnil (gcons gnil (gnum _))) = assign.AddAssign
get_assign (gcons gnil (gcons gnil (gcons _ _))) = assign.SubAssign
get_assign (gcons gnil (gcons (gnum _) gnil)) = assign.MulAssign
get_assign (gcons gnil (gcons (gnum _) (gnum _))) = assign.DivAssign
get_assign (gcons gnil (gcons (gnum _) (gcons _ _))) = assign.ModAssign
get_assign (gcons gnil (gcons (gcons _ _) gnil)) = assign.LShiftAssign
get_assign (gcons gnil (gcons (gcons _ _) (gnum _))) = assign.RShiftAssign
get_assign (gcons gnil (gcons (gcons _ _) (gcons _ _))) = assign.ZeroFillRShiftAssign
get_assign (gcons (gnum _) (gcons gnil gnil)) = assign.BitOrAssign
get_assign (gcons (gnum _) (gcons gnil (gnum _))) = assign.BitXorAssign
get_assign (gcons (gnum _) (gcons gnil (gcons _ _))) = assign.BitAndAssign
get_assign (gcons (gnum _) (gcons (gnum _) gnil)) = assign.ExpAssign
get_assign (gcons (gnum _) (gcons (gnum _) (gnum _))) = assign.AndAssign
get_assign (gcons (gnum _) (gcons (gnum _) (gcons _ _))) = assign.OrAssign
get_assign _ = assign.NullishAssign

pub get-put_assign : (v : AssignOp) → get_assign (put_assign v) ≡ v
get-put_assign assign.Assign = refl
get-put_assign assign.AddAssign = refl
get-put_assign assign.SubAssign = refl
get-put_assign assign.MulAssign = refl
get-put_assign assign.DivAssign = refl
get-put_assign assign.ModAssign = refl
get-put_assign assign.LShiftAssign = refl
get-put_assign assign.RShiftAssign = refl
get-put_assign assign.ZeroFillRShiftAssign = refl
get-put_assign assign.BitOrAssign = refl
get-put_assign assign.BitXorAssign = refl
get-put_assign assign.BitAndAssign = refl
get-put_assign assign.ExpAssign = refl
get-put_assign assign.AndAssign = refl
get-put_assign assign.OrAssign = refl
get-put_assign assign.NullishAssign = refl
