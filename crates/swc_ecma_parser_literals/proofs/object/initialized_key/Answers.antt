use Rattle.std.proofs.Common.{◌≡◌, Err, refl}
use Rattle.swc_ecma_parser_common.specs.declared.span.Span.{Span}
use Rattle.swc_ecma_parser_error.specs.Kind as faults
use Rattle.swc_ecma_parser_error.specs.Kind.{Fault}
use Rattle.swc_ecma_parser_model.specs.declared.leaves.Ident.{Ident}
use Rattle.swc_ecma_parser_model.specs.Tree.{Tree}
use Rattle.swc_ecma_parser_grammar.specs.language.Goals.{Class}
use Rattle.swc_ecma_parser_reader.specs.State.{State, Outcome, Reader, wanted}
use Rattle.swc_ecma_parser_reader.specs.Expressions as exprs
use Rattle.swc_ecma_parser_reader.specs.Reader as rules
use Rattle.swc_ecma_parser_shared.specs.Keys.{key_of}
use Rattle.swc_ecma_parser_shared.specs.declared.keys.Key.{Key}
use Rattle.swc_ecma_parser_shared.specs.declared.keys.Key.TheVariants as key
use Rattle.swc_ecma_parser_shared.proofs.Refusals.{wanted_as}
use Rattle.swc_ecma_parser_literals.proofs.object.initialized_key.Goals as goal

-- what is no name has no default
other_key : {X : Type 0} (view : X → Tree) (inner : Class → Reader Tree) (cover : Reader exprs.Cover) (start : Span) (s : State) (e : Fault × State) (k : Key X)
    → ((x : Ident) → k ≡ key.Word x → ⊥) → ◌≡◌ {A = Outcome Tree} (wanted faults.Unexpected s) (Err e) → exprs.initialized_key inner cover start (key_of view k) s ≡ Err e
other_key view inner cover start s e (key.Word x) other h = absurd (other x refl)
other_key view inner cover start s e (key.Str x) other h = wanted_as {A = Tree} {B = exprs.Cover} faults.Unexpected s e.0 e.1 h
other_key view inner cover start s e (key.Num x) other h = wanted_as {A = Tree} {B = exprs.Cover} faults.Unexpected s e.0 e.1 h
other_key view inner cover start s e (key.BigInt x) other h = wanted_as {A = Tree} {B = exprs.Cover} faults.Unexpected s e.0 e.1 h
other_key view inner cover start s e (key.Computed b x) other h = wanted_as {A = Tree} {B = exprs.Cover} faults.Unexpected s e.0 e.1 h

pub returns : goal.returns
returns g c = λ h. other_key g.T.Trees.expr_of (rules.expr (g.G.Readers.depth c.args.g.now)) (rules.cover (g.G.Readers.depth c.args.g.now)) c.args.start (g.P.Cursor.seen c.args.p.now) _ c.args.key c.in_default.not-Word (c.wanted.ensures.tree h)
