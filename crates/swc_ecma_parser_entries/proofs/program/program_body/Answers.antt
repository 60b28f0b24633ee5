use Rattle.std.proofs.Common.{◌≡◌, true, false, map, sym, ◌∙◌, ap, subst, Ok}
use Rattle.std.proofs.lemmas.Result.{err_from_is_err_and}
use Rattle.swc_ecma_parser_model.specs.Tree as tree
use Rattle.swc_ecma_parser_model.specs.Tree.{listed}
use Rattle.swc_ecma_parser_grammar.specs.Looks.{start_at, whole_span}
use Rattle.swc_ecma_parser_reader.specs.Reader.{shebang}
use Rattle.swc_ecma_parser_reader.specs.State.{coded}
use Rattle.swc_ecma_parser_reader.proofs.Empty.{nothing_taken}
use Rattle.swc_ecma_parser_module_reader.specs.ProgramEntry.{AnswersProgram}
use Rattle.swc_ecma_parser_module_reader.specs.Programs.{program_code, entered}
use Rattle.swc_ecma_parser_module_items.specs.Front.{front_of}
use Rattle.swc_ecma_parser_module_reader.proofs.EmptyPrograms.{nothing_before, none_mapped}
use Rattle.swc_ecma_parser_module_reader.proofs.ProgramCode.{front_module}
use Rattle.swc_ecma_parser_module_reader.proofs.ProgramLoops.{answers_first, answers_before, answers_script, answers_module, answers_behind}
use Rattle.swc_ecma_parser_entries.proofs.Programs.{first_refuses, front_refuses, items_refuse}
use Rattle.swc_ecma_parser_entries.proofs.program.program_body.Goals as goal

pub returns-in_err-shebang-clause-answers : goal.returns-in_err-shebang-clause-answers
returns-in_err-shebang-clause-answers g c =
    let p = err_from_is_err_and c.from_residual.result c.from_residual.ensures.1 in
    rw (p.1, p.2) (λ s e f. answers_first _ g.T.BuildsItem.program_of c.args.limit s _ _ (λ m. ap shebang (sym f) ∙ c.in_err-shebang.ensures.gives m))

pub returns-in_err-front-clause-answers : goal.returns-in_err-front-clause-answers
returns-in_err-front-clause-answers g c =
    let p = err_from_is_err_and c.from_residual-in_err-front.result c.from_residual-in_err-front.ensures.1 in
    rw (p.1, p.2) (λ s e f.
    answers_before _ g.T.BuildsItem.program_of c.args.limit s _ _ (ap shebang (sym f) ∙ c.in_ok-shebang.ensures.gives) _ _ c.in_err-front.ensures.gives)

pub returns-in_err-front-clause-outright : goal.returns-in_err-front-clause-outright
returns-in_err-front-clause-outright g c = λ h.
    let k : false ≡ true = c.in_err-front.ensures.outright (nothing_taken c.args.state.now _ _ h c.in_ok-shebang.ensures.gives) in cc

-- a script leaves the context that stood before
pub returns-then-is_script-clause-answers : goal.returns-then-is_script-clause-answers
unfolding whole_span
returns-then-is_script-clause-answers g c = λ s e f.
    let u = c.statements.new.p in
    let first = c.in_ok-shebang.shebang in
    let front = front_of g.T.Trees.stmt_of g.T.BuildsFunction.decorator_of c.in_ok-front.front in
    let h = ap shebang (sym f) ∙ c.in_ok-shebang.ensures.gives in
    let m : c.args.outer.module ≡ u.code.flags.module =
    ap (λ k. k.module) e ∙ sym (front_module c.args.limit (coded (program_code s.code) s) first _ h front u c.in_ok-front.ensures.gives) in
    let left = c.leave_program.ensures m ∙ ap (λ k. coded (record u.code { flags = k }) u) e in
    let span : c.since-span.result ≡ whole_span s.at u.at =
    c.since-span.ensures ∙ ap (λ z. record { lo = z.lo; hi = u.at.last.hi }) (c.whole_start-start.ensures ∙ ap (λ z. start_at z.at) f) in
    subst (λ t. AnswersProgram g.T.BuildsItem.program_of c.args.limit s (Ok c.script_program.result) t) (sym left)
    (answers_script _ g.T.BuildsItem.program_of c.args.limit s first _ h front u c.in_ok-front.ensures.gives (sym c.is_script.ensures ∙ c.if-is_script.true) c.script_program.result
    (c.script_program.ensures ∙ c.script.ensures ∙ ap (λ z. tree.script z (listed front.before) first) span))

pub returns-in_err-body-clause-answers : goal.returns-in_err-body-clause-answers
returns-in_err-body-clause-answers g c =
    let p = err_from_is_err_and c.from_residual-in_err-body.result c.from_residual-in_err-body.ensures.1 in
    let u = c.statements.new.p in
    let v = c.enter_module.new.self in
    let front = front_of g.T.Trees.stmt_of g.T.BuildsFunction.decorator_of c.in_ok-front.front in
    let (recorded, faults, noted) = c.enter_module.ensures.faults in
    let enters : v ≡ entered recorded u =
    λ i. record { at = c.enter_module.ensures.at i; code = c.enter_module.ensures.code i; scope = c.enter_module.ensures.scope i; faults = faults i; notes = c.enter_module.ensures.found i } in
    rw (p.1, p.2) (λ s e f.
    answers_behind _ g.T.BuildsItem.program_of c.args.limit s _ _ (ap shebang (sym f) ∙ c.in_ok-shebang.ensures.gives) front u c.in_ok-front.ensures.gives
    (sym c.is_script.ensures ∙ c.if-is_script.false) recorded v enters noted _ _ c.in_err-body.ensures.gives)

pub returns-in_err-body-clause-outright : goal.returns-in_err-body-clause-outright
returns-in_err-body-clause-outright g c = λ h.
    let l = nothing_taken c.args.state.now _ _ h c.in_ok-shebang.ensures.gives in
    let (none, list, same) = nothing_before c.args.limit _ l _ _ c.in_ok-front.ensures.gives in
    let k : false ≡ true = c.in_err-body.ensures.outright (ap (λ z. z.left) c.enter_module.ensures.at ∙ ap (λ z. z.at.left) same ∙ l)
    (none_mapped g.T.Trees.stmt_of c.in_ok-front.front.before.items none) (none_mapped g.T.BuildsFunction.decorator_of c.in_ok-front.front.list.found.items list) in cc

pub returns-clause-answers : goal.returns-clause-answers
unfolding whole_span
returns-clause-answers g c = λ s e f.
    let u = c.statements.new.p in
    let v = c.enter_module.new.self in
    let w = c.items_from.new.p in
    let first = c.in_ok-shebang.shebang in
    let front = front_of g.T.Trees.stmt_of g.T.BuildsFunction.decorator_of c.in_ok-front.front in
    let body = map g.T.BuildsItem.item_of c.in_ok-body.body.items in
    let (recorded, faults, noted) = c.enter_module.ensures.faults in
    let enters : v ≡ entered recorded u =
    λ i. record { at = c.enter_module.ensures.at i; code = c.enter_module.ensures.code i; scope = c.enter_module.ensures.scope i; faults = faults i; notes = c.enter_module.ensures.found i } in
    let span : c.since-span-2.result ≡ whole_span s.at w.at =
    c.since-span-2.ensures ∙ ap (λ z. record { lo = z.lo; hi = w.at.last.hi }) (c.whole_start-start.ensures ∙ ap (λ z. start_at z.at) f) in
    answers_module _ g.T.BuildsItem.program_of c.args.limit s first _ (ap shebang (sym f) ∙ c.in_ok-shebang.ensures.gives) front u c.in_ok-front.ensures.gives
    (sym c.is_script.ensures ∙ c.if-is_script.false) recorded v enters noted body w c.in_ok-body.ensures.gives c.module_program.result
    (c.module_program.ensures ∙ c.module.ensures ∙ ap (λ z. tree.module_program z (listed body) first) span)

pub returns-in_err-shebang-clause-refuses : goal.returns-in_err-shebang-clause-refuses
returns-in_err-shebang-clause-refuses g c =
    let p = err_from_is_err_and c.from_residual.result c.from_residual.ensures.1 in
    rw (p.1, p.2) (λ s e f m. first_refuses c.args.limit s _ _ (ap shebang (sym f) ∙ c.in_err-shebang.ensures.gives m))

pub returns-in_err-front-clause-refuses : goal.returns-in_err-front-clause-refuses
returns-in_err-front-clause-refuses g c =
    let p = err_from_is_err_and c.from_residual-in_err-front.result c.from_residual-in_err-front.ensures.1 in
    rw (p.1, p.2) (λ s e f m. front_refuses c.args.limit s _ _ (ap shebang (sym f) ∙ c.in_ok-shebang.ensures.gives) _ _ (c.in_err-front.ensures.gives m))

pub returns-in_err-body-clause-refuses : goal.returns-in_err-body-clause-refuses
returns-in_err-body-clause-refuses g c =
    let p = err_from_is_err_and c.from_residual-in_err-body.result c.from_residual-in_err-body.ensures.1 in
    let u = c.statements.new.p in
    let v = c.enter_module.new.self in
    let front = front_of g.T.Trees.stmt_of g.T.BuildsFunction.decorator_of c.in_ok-front.front in
    let (recorded, faults, noted) = c.enter_module.ensures.faults in
    let enters : v ≡ entered recorded u =
    λ i. record { at = c.enter_module.ensures.at i; code = c.enter_module.ensures.code i; scope = c.enter_module.ensures.scope i; faults = faults i; notes = c.enter_module.ensures.found i } in
    rw (p.1, p.2) (λ s e f m.
    items_refuse c.args.limit s _ _ (ap shebang (sym f) ∙ c.in_ok-shebang.ensures.gives) front u c.in_ok-front.ensures.gives
    (sym c.is_script.ensures ∙ c.if-is_script.false) recorded v enters noted _ _ (c.in_err-body.ensures.gives m))
