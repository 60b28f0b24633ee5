-- The name of a function that is an expression is read in the function's own code, and what stood around it is put back.
use Rattle.std.proofs.Common.{◌≡◌, true, false, Ok, Err, sym, ap, subst, ◌∙◌, Bool}
use Rattle.swc_ecma_parser_error.specs.Kind as faults
use Rattle.swc_ecma_parser_error.specs.Kind.{Fault}
use Rattle.swc_ecma_parser_input.specs.declared.context.Context.{Context}
use Rattle.swc_ecma_parser_model.specs.declared.leaves.Ident.{Ident}
use Rattle.swc_ecma_parser_model.specs.Tree as tree
use Rattle.swc_ecma_parser_grammar.specs.Names.{name_at}
use Rattle.swc_ecma_parser_grammar.specs.language.Contexts.{named_by}
use Rattle.swc_ecma_parser_reader.specs.State.{State, and_then, pure, coded, flagged, name}
use Rattle.swc_ecma_parser_reader.specs.Reader.{named, own_name}
use Rattle.swc_ecma_parser_reader.proofs.Between.{SoundStep}
use Rattle.swc_ecma_parser_reader.proofs.Loops.{named_own, no_own_name}
use Rattle.swc_ecma_parser_reader.proofs.Meets.{Refuses, meant}
use Rattle.swc_ecma_parser_reader.proofs.expressions.SoundSteps.{FreeWord, name_sound}

-- a name leaves the code as it was
name_code : (s : State) (i : Ident) (t : State) → name faults.ExpectedIdent s ≡ Ok (i, t) → t.code ≡ s.code
name_code s i t e =
    let p : SoundStep (FreeWord i) s t = meant (λ j u. SoundStep (FreeWord j) s u) Refuses (name faults.ExpectedIdent s) (Ok (i, t)) e (name_sound faults.ExpectedIdent s) in p.code

-- the state that a name is looked for in
abbrev pub in_own_code : (is_async is_generator : Bool) → State → State
in_own_code a g s = coded (named_by s.code a g) s

abbrev own_flags : (is_async is_generator : Bool) → Context → Context
own_flags a g f = record f { in_async = a; in_generator = g }

pub own_code : (a g : Bool) (outer inner : Context) (s d : State) → outer ≡ s.code.flags → inner ≡ own_flags a g outer → d ≡ coded (record s.code { flags = inner }) s → d ≡ in_own_code a g s
own_code a g outer inner s d o i e = e ∙ ap (λ f. coded (record s.code { flags = f }) s) (i ∙ ap (own_flags a g) o)

module _ (a g : Bool) (s d : State) (own : d ≡ in_own_code a g s) where
  pub back : (outer : Context) → outer ≡ s.code.flags → coded (record d.code { flags = outer }) d ≡ s
  back outer o = ap (λ u. coded (record u.code { flags = outer }) u) own ∙ ap (λ f. coded (record s.code { flags = f }) s) o

  pub no_name : name_at d.code.flags d.at ≡ false → own_name a g s ≡ Ok (tree.absent, s)
  no_name e = no_own_name a g s (subst (λ u. name_at u.code.flags u.at ≡ false) own e)

  module _ (begins : name_at d.code.flags d.at ≡ true) where
    pub name_err : (e : Fault × State) → name faults.ExpectedIdent d ≡ Err e → own_name a g s ≡ Err e
    unfolding named
    name_err e h = named_own a g s (subst (λ u. name_at u.code.flags u.at ≡ true) own begins)
        ∙ ap (λ o. and_then (and_then o (λ i. pure (tree.ident i.span i.sym))) (λ x t. Ok (x, flagged s.code t))) (subst (λ u. name faults.ExpectedIdent u ≡ Err e) own h)

    module _ (i : Ident) (t : State) (found : name faults.ExpectedIdent d ≡ Ok (i, t)) where
      -- what stands there is script or module as before
      pub goal_stays : s.code.flags.«module» ≡ t.code.flags.«module»
      goal_stays = sym (ap (λ k. k.flags.«module») (name_code d i t found) ∙ ap (λ u. u.code.flags.«module») own)

      pub name_found : own_name a g s ≡ Ok (tree.ident i.span i.sym, flagged s.code t)
      unfolding named
      name_found = named_own a g s (subst (λ u. name_at u.code.flags u.at ≡ true) own begins)
          ∙ ap (λ o. and_then (and_then o (λ j. pure (tree.ident j.span j.sym))) (λ x u. Ok (x, flagged s.code u))) (subst (λ u. name faults.ExpectedIdent u ≡ Ok (i, t)) own found)
