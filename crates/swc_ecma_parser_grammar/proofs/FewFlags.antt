-- What the walk looks at of the code around.
use Rattle.std.proofs.Common.{◌≡◌, List, ap, ◌∙◌}
use Rattle.std.specs.Prelude.{Bool}
use Rattle.swc_ecma_parser_input.specs.declared.syntax.EsSyntax.{EsSyntax}
use Rattle.swc_ecma_parser_model.specs.Tree.{Text}
use Rattle.swc_ecma_parser_grammar.specs.Names.{Code}
use Rattle.swc_ecma_parser_grammar.specs.Walk.{Env, env_of, walk}
use Rattle.swc_ecma_parser_grammar.specs.language.Laws.{WalkedAlike, WalkLooksAtFew}

abbrev env : List Text → EsSyntax → (strict in_function can_break can_continue : Bool) → Env
env labels s a b c d = record { setting = s; labels = labels; strict = a; in_function = b; can_break = c; can_continue = d }

same_env : (labels : List Text) (k j : Code) → WalkedAlike k j → env_of k labels ≡ env_of j labels
same_env labels k j h =
    ap (λ s. env labels s k.flags.strict k.flags.in_function k.flags.is_break_allowed k.flags.is_continue_allowed) h.in_setting
    ∙ ap (λ a. env labels j.setting a k.flags.in_function k.flags.is_break_allowed k.flags.is_continue_allowed) h.in_strictness
    ∙ ap (λ b. env labels j.setting j.flags.strict b k.flags.is_break_allowed k.flags.is_continue_allowed) h.in_functions
    ∙ ap (λ c. env labels j.setting j.flags.strict j.flags.in_function c k.flags.is_continue_allowed) h.in_breaks
    ∙ ap (λ d. env labels j.setting j.flags.strict j.flags.in_function j.flags.is_break_allowed d) h.in_continues

pub walk_looks_at_few : WalkLooksAtFew
walk_looks_at_few k j labels x h = ap (λ e. walk e x) (same_env labels k j h)
