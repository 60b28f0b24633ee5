use Rattle.std.proofs.Common.{◌≡◌, true, refl, map, Ok, sym, ap, ◌∙◌}
use Rattle.std.proofs.lemmas.List.{map_push}
use Rattle.std.proofs.lemmas.Result.{err_from_is_err_and}
use Rattle.swc_ecma_parser_bodies.proofs.Items.{body_next}
use Rattle.swc_ecma_parser_members.specs.Leading.{leading_of}
use Rattle.swc_ecma_parser_reader.specs.State.{Outcome}
use Rattle.swc_ecma_parser_module_reader.specs.Decorated.{no_leading}
use Rattle.swc_ecma_parser_module_reader.specs.Programs.{Front}
use Rattle.swc_ecma_parser_module_reader.specs.Turns.{Turn, Statement, Word, turn}
use Rattle.swc_ecma_parser_module_reader.proofs.EmptyPrograms.{none_begins}
use Rattle.swc_ecma_parser_module_reader.proofs.Fronts.{front_stop}
use Rattle.swc_ecma_parser_module_reader.proofs.Turns.{front_err, front_word, front_read, turn_shorter}
use Rattle.swc_ecma_parser_module_items.specs.Front.{turn_of}
use Rattle.swc_ecma_parser_module_items.proofs.programs.statements.Goals as goal

-- a turn is refused
pub returns-in_err-led-clause-gives : goal.returns-in_err-led-clause-gives
returns-in_err-led-clause-gives g c =
    let p = err_from_is_err_and c.from_residual.result c.from_residual.ensures.1 in
    rw (p.1, p.2) (λ h. c.statements.invariant.0
    ∙ front_err c.args.limit (map g.T.Trees.stmt_of c.statements.found.items) (g.P.Cursor.seen c.statements.p) (sym c.before_module.ensures ∙ c.statements-test.true) _ (c.in_err-led.ensures h))

pub returns-in_err-led-clause-outright : goal.returns-in_err-led-clause-outright
returns-in_err-led-clause-outright g c = λ h. none_begins (g.P.Cursor.seen c.statements.p).at (c.statements.invariant.1 h) (sym c.before_module.ensures ∙ c.statements-test.true)

-- decorators of an import or export end them
pub returns-in-Word-clause-gives : goal.returns-in-Word-clause-gives
returns-in-Word-clause-gives g c =
    let s = g.P.Cursor.seen c.statements.p in
    let u = g.P.Cursor.seen c.front_item.new.p in
    let list = leading_of g.T.BuildsFunction.decorator_of c.in-Word.list in
    let read : ◌≡◌ {A = Outcome Turn} (turn c.args.limit s) (Ok (Word list, u)) =
    c.in_ok-led.ensures ∙ ap (λ l. Ok (turn_of g.T.Trees.stmt_of g.T.BuildsFunction.decorator_of l, u)) c.in-Word.is in
    c.statements.invariant.0 ∙ front_word c.args.limit (map g.T.Trees.stmt_of c.statements.found.items) s (sym c.before_module.ensures ∙ c.statements-test.true) list u read

-- a statement is read
pub returns-in_err-pushed-in-Statement-clause-outright : goal.returns-in_err-pushed-in-Statement-clause-outright
returns-in_err-pushed-in-Statement-clause-outright g c = λ h.
    none_begins (g.P.Cursor.seen c.statements.p).at (c.statements.invariant.1 h) (sym c.before_module.ensures ∙ c.statements-test.true)

pub statements-preserved : goal.statements-preserved
statements-preserved g c =
    let d = c.args.limit in
    let s = g.P.Cursor.seen c.statements.p in
    let u = g.P.Cursor.seen c.front_item.new.p in
    let found = map g.T.Trees.stmt_of c.statements.found.items in
    let read : ◌≡◌ {A = Outcome Turn} (turn d s) (Ok (Statement (g.T.Trees.stmt_of c.in-Statement.stmt), u)) =
    c.in_ok-led.ensures ∙ ap (λ l. Ok (turn_of g.T.Trees.stmt_of g.T.BuildsFunction.decorator_of l, u)) c.in-Statement.is in (
      rw (c.in_ok-pushed-in-Statement.ensures.items, map_push, c.in_ok-pushed-in-Statement.ensures.state, c.direct-directives.ensures.state) (c.statements.invariant.0
          ∙ front_read d found s (sym c.before_module.ensures ∙ c.statements-test.true) c.statements.directives (sym c.statements.invariant.2) _ u read),
      λ h. none_begins s.at (c.statements.invariant.1 h) (sym c.before_module.ensures ∙ c.statements-test.true),
      rw (c.in_ok-pushed-in-Statement.ensures.items, map_push, c.direct-directives.ensures.next) (body_next true found c.statements.directives _ c.statements.invariant.2),
    )

pub statements-smaller : goal.statements-smaller
statements-smaller g c =
    let u = g.P.Cursor.seen c.front_item.new.p in
    let read : ◌≡◌ {A = Outcome Turn} (turn c.args.limit (g.P.Cursor.seen c.statements.p)) (Ok (Statement (g.T.Trees.stmt_of c.in-Statement.stmt), u)) =
    c.in_ok-led.ensures ∙ ap (λ l. Ok (turn_of g.T.Trees.stmt_of g.T.BuildsFunction.decorator_of l, u)) c.in-Statement.is in
    rw (c.in_ok-pushed-in-Statement.ensures.state, c.direct-directives.ensures.state) (turn_shorter c.args.limit (g.P.Cursor.seen c.statements.p) _ u read)

-- they end
pub returns-clause-gives : goal.returns-clause-gives
returns-clause-gives g c =
    let s = g.P.Cursor.seen c.statements.p in
    let found = map g.T.Trees.stmt_of c.statements.found.items in
    let ends : ◌≡◌ {A = Outcome Front} (Ok (record { before = found; list = no_leading s }, s))
    (Ok (record { before = found; list = leading_of g.T.BuildsFunction.decorator_of c.no_leading-list.result }, g.P.Cursor.seen c.no_leading-list.new.p)) =
    rw (c.no_leading-list.ensures.none, c.no_leading-list.ensures.state) refl in
    c.statements.invariant.0 ∙ front_stop c.args.limit found s (sym c.before_module.ensures ∙ c.statements-test.false) ∙ ends
