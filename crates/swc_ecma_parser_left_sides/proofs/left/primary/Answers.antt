use Rattle.std.proofs.Common.{◌≡◌, Bool, false, Option, Some, None, Ok, refl, sym, subst}
use Rattle.std.specs.Prelude.{option_map}
use Rattle.swc_ecma_parser_model.specs.Tree.{Tree}
use Rattle.swc_ecma_parser_grammar.specs.Names.{name_at}
use Rattle.swc_ecma_parser_grammar.specs.language.Goals.{Class}
use Rattle.swc_ecma_parser_cursor.specs.Literals.{literal_tree}
use Rattle.swc_ecma_parser_cursor.specs.declared.literal.Literal.{Literal}
use Rattle.swc_ecma_parser_reader.specs.Expressions as exprs
use Rattle.swc_ecma_parser_reader.specs.Methods.{FunctionForm}
use Rattle.swc_ecma_parser_reader.specs.Reader as rules
use Rattle.swc_ecma_parser_reader.specs.State.{State, Reader, GivesAs}
use Rattle.swc_ecma_parser_left_sides.proofs.left.primary.Goals as goal

-- what is neither a name nor a literal is told by its mark or word
by_mark : (inner : Class → Reader Tree) (cover : Reader exprs.Cover) (function : FunctionForm → Reader Tree) (s t : State) (o : Option Literal) (b : Bool) → b ≡ name_at s.code.flags s.at → b ≡ false
    → exprs.literal s ≡ Ok (option_map literal_tree o, t) → ((x : Literal) → o ≡ Some x → ⊥) → exprs.primary inner cover function s ≡ exprs.marked_primary inner cover function t
unfolding exprs.primary
by_mark inner cover function s t None b e h g n = rw (sym e, h, g) refl
by_mark inner cover function s t (Some x) b e h g n = absurd (n x refl)

pub returns : goal.returns
returns g c =
    let expr = rules.expr (g.G.Readers.depth c.args.g.now) in
    let cover = rules.cover (g.G.Readers.depth c.args.g.now) in
    let function = rules.function (g.G.Readers.depth c.args.g.now) in
    subst (λ o. GivesAs g.T.Trees.expr_of o c.marked_primary.result (g.P.Cursor.seen c.marked_primary.new.p))
    (sym (by_mark expr cover function (g.P.Cursor.seen c.args.p.now) (g.P.Cursor.seen c.literal.new.self) c.in_ok-literal.field-0 c.name_at.result c.name_at.ensures c.if-name_at.false c.in_ok-literal.ensures c.in_default.not-Some))
    c.marked_primary.ensures
