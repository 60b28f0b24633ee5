-- Keys of members, as parts of the model's tree, and the key `constructor` where it may not stand.
use Rattle.std.specs.Prelude.{true, false}
use Rattle.swc_ecma_parser_common.specs.declared.span.Span.{Span}
use Rattle.swc_ecma_parser_error.specs.Kind as faults
use Rattle.swc_ecma_parser_model.specs.Tree.{Tree}
use Rattle.swc_ecma_parser_reader.specs.Methods.{MethodForm, getter_form, setter_form, method_form}
use Rattle.swc_ecma_parser_reader.specs.State.{Reader, ◌>>=◌, since, fault, fault_at, reject}
use Rattle.swc_ecma_parser_shared.specs.Keys.{key_of, private_of}
use Rattle.swc_ecma_parser_members.specs.declared.keys.MemberKey.{MemberKey}
use Rattle.swc_ecma_parser_members.specs.declared.keys.MemberKey.TheVariants as key

abbrev pub member_key_of : {E : Type 0} → (E → Tree) → MemberKey E → Tree
member_key_of view (key.Private x) = private_of x
member_key_of view (key.Public k) = key_of view k

-- the key `constructor` that stands at a span, behind words or `*`
abbrev pub misnamed_at : MethodForm → (start word span : Span) → Reader (Unit {0})
misnamed_at getter_form start word span = fault (fault_at word faults.ConstructorAccessor)
misnamed_at setter_form start word span = fault (fault_at word faults.ConstructorAccessor)
misnamed_at (method_form true is_generator) start word span = reject (fault_at span faults.AsyncConstructor)
misnamed_at (method_form false is_generator) start word span = since start >>= λ whole. fault (fault_at whole faults.GeneratorConstructor)
