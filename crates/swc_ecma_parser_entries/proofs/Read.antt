-- What is read is answered, whether it is a tree or a refusal; and the end of the list.
use Rattle.std.proofs.Common.{◌≡◌, ◌≢◌, ℕ, Bool, true, false, List, [], map, Result, Ok, Err, refl, sym, ap, ◌∙◌, append-nil}
use Rattle.swc_ecma_parser_error.specs.declared.error.Error.{Error}
use Rattle.swc_ecma_parser_error.specs.Kind as faults
use Rattle.std.specs.Prelude.{IfErr}
use Rattle.swc_ecma_parser_error.specs.Kind.{Fault, fault_of, kind_of}
use Rattle.swc_ecma_parser_token.specs.declared.kind.TokenKind.TheVariants as kind
use Rattle.swc_ecma_parser_input.specs.Place.{Place}
use Rattle.swc_ecma_parser_model.specs.Tree.{Tree}
use Rattle.swc_ecma_parser_grammar.specs.Looks.{sees, same_kind}
use Rattle.swc_ecma_parser_grammar.specs.Notes.{as_note}
use Rattle.swc_ecma_parser_grammar.specs.language.Programs.{at_top}
use Rattle.swc_ecma_parser_reader.specs.Entry.{AnswersStatement, IsSetBack}
use Rattle.swc_ecma_parser_reader.specs.Reader.{whole_stmt}
use Rattle.swc_ecma_parser_reader.specs.State.{State, GivesAs, fault_at, end_of}
use Rattle.swc_ecma_parser_reader.proofs.Empty.{ended}
use Rattle.swc_ecma_parser_reader.proofs.Errors.{nothing_at_end}
use Rattle.swc_ecma_parser_reader.proofs.Meets.{saw}
use Rattle.swc_ecma_parser_reader.proofs.Statements.{whole_at_end}
use Rattle.swc_ecma_parser_module_reader.specs.Entry.{IsEntered, AnswersModule}
use Rattle.swc_ecma_parser_module_reader.specs.ItemEntry.{AnswersItem}
use Rattle.swc_ecma_parser_module_reader.specs.Items.{item_whole}
use Rattle.swc_ecma_parser_module_reader.specs.Modules.{module_body}
use Rattle.swc_ecma_parser_module_reader.proofs.Entered.{module_answered, module_refused}
use Rattle.swc_ecma_parser_module_reader.proofs.ItemsAtEnd.{item_at_end}
use Rattle.swc_ecma_parser_grammar.specs.language.Programs as programs
use Rattle.swc_ecma_parser_reader.specs.Entry.{statement_entry}
use Rattle.swc_ecma_parser_module_reader.proofs.ItemCases.{none_at_end}
use Rattle.swc_ecma_parser_module_reader.proofs.NoDecorators.{no_list_at}
use Rattle.swc_ecma_parser_entries.specs.Refusals.{IsRefusal, IsRefused, Refuses, item_held}
use Rattle.swc_ecma_parser_entries.proofs.SetBack.{set_back_self}

pub sees_end : (c : Place) → c.left ≡ [] → sees kind.End c ≡ true
unfolding same_kind
sees_end c h = rw (ended c h) refl

pub none_left : (c : Place) → sees kind.End c ≡ true → c.left ≡ []
none_left c h = nothing_at_end c (saw c kind.End h)

no_sign_end : same_kind kind.End kind.At ≡ false
unfolding same_kind
no_sign_end = refl

-- at the end of the list nothing is held back
nothing_held : (n : ℕ) (s : State) → s.at.left ≡ [] → item_held n s ≡ []
unfolding item_held
nothing_held n s h = rw (no_list_at s.code s.at kind.End (ended s.at h) no_sign_end, none_at_end s.at h) refl

-- of a statement, whichever is asked for
as_statement : (include_decl top_level : Bool) (limit : ℕ) (s : State) (e : Error) (t : State) → IsRefusal false (whole_stmt limit (at_top include_decl top_level) s) e t
    → IsRefused false (statement_entry include_decl top_level) limit s e t
as_statement true top_level limit s e t h = h
as_statement false top_level limit s e t h = h

module _ {X : Type 0} (view : X → Tree) (limit : ℕ) (t : State) where
  pub module_refuses : (s u : State) → IsEntered s u → (r : Result X Error) → GivesAs view (module_body limit u) r t → Refuses false programs.«module» limit s r t
  module_refuses s u i (Ok x) h = tt
  module_refuses s u i (Err e) h = λ m. (u, i, record { stopped = t; refused = module_refused s u i limit _ (h m); faults = λ k. refl })

  pub item_refuses : (s : State) (recorded : List Fault) (r : Result X Error) → GivesAs (λ x. (view x, map as_note recorded)) (item_whole limit recorded s) r t
      → IfErr r (λ e. kind_of e.kind ≢ faults.OutOfMemory → map as_note recorded ≡ item_held limit s) → Refuses false programs.module_item limit s r t
  item_refuses s recorded (Ok x) h held = tt
  item_refuses s recorded (Err e) h held = λ m. (recorded, held m, record { stopped = t; refused = h m; faults = λ k. refl })

  pub statement_refuses : (include_decl top_level : Bool) (s : State) (r : Result X Error) → GivesAs view (whole_stmt limit (at_top include_decl top_level) s) r t
      → Refuses false (statement_entry include_decl top_level) limit s r t
  statement_refuses include_decl top_level s (Ok x) h = tt
  statement_refuses include_decl top_level s (Err e) h = λ m. as_statement include_decl top_level limit s e t (record { stopped = t; refused = h m; faults = λ k. refl })

  pub module_read : (s u : State) → IsEntered s u → (r : Result X Error) → GivesAs view (module_body limit u) r t → AnswersModule view limit u r t
  module_read s u i (Ok x) h = module_answered s u i limit _ _ h
  module_read s u i (Err e) h = λ m. (t, module_refused s u i limit _ (h m), set_back_self t)

  pub item_read : (s : State) (recorded : List Fault) (r : Result X Error) → GivesAs (λ x. (view x, map as_note recorded)) (item_whole limit recorded s) r t → AnswersItem view limit s r t
  item_read s recorded (Ok x) h = (recorded, h)
  item_read s recorded (Err e) h = λ m. (recorded, t, h m, set_back_self t)

  pub statement_read : (include_decl top_level : Bool) (s : State) (r : Result X Error) → GivesAs view (whole_stmt limit (at_top include_decl top_level) s) r t
      → AnswersStatement view limit include_decl top_level s r t
  statement_read include_decl top_level s (Ok x) h = h
  statement_read include_decl top_level s (Err e) h = λ m. (t, h m, set_back_self t)

  -- at the end of the list, where nothing is read
  module _ (s : State) (e : Error) (same : t ≡ s) (none : s.at.left ≡ []) (is : fault_of e ≡ fault_at (end_of t.at.last) faults.Eof) where
    told : (u : State) → u.at ≡ s.at → u.faults ≡ s.faults → IsSetBack u t
    told u a f = record { at = ap (λ z. z.at) same ∙ sym a; faults = ([], ap (λ z. z.faults) same ∙ sym f ∙ sym (append-nil u.faults)) }

    fault_is : fault_of e ≡ fault_at (end_of s.at.last) faults.Eof
    fault_is = is ∙ ap (λ z. fault_at (end_of z.at.last) faults.Eof) same

    pub item_ended_refuses : Refuses {X = X} false programs.module_item limit s (Err e) t
    item_ended_refuses = λ m.
        let p = item_at_end limit [] s none in ([], sym (nothing_held limit s none), record { stopped = p.0; refused = p.1 ∙ ap (λ f. Err (f, p.0)) (sym fault_is); faults = λ k. ap (λ z. z.faults) same ∙ sym p.3 })

    pub statement_ended_refuses : (include_decl top_level : Bool) → Refuses {X = X} false (statement_entry include_decl top_level) limit s (Err e) t
    statement_ended_refuses include_decl top_level = λ m.
        let p = whole_at_end limit include_decl top_level s none in
        as_statement include_decl top_level limit s e t (record { stopped = p.0; refused = p.1 ∙ ap (λ f. Err (f, p.0)) (sym fault_is); faults = λ k. ap (λ z. z.faults) same ∙ sym p.3 })

    pub item_ended : AnswersItem view limit s (Err e) t
    item_ended = λ m. let p = item_at_end limit [] s none in ([], p.0, p.1 ∙ ap (λ f. Err (f, p.0)) (sym fault_is), told p.0 p.2 p.3)

    pub statement_ended : (include_decl top_level : Bool) → AnswersStatement view limit include_decl top_level s (Err e) t
    statement_ended include_decl top_level = λ m.
        let p = whole_at_end limit include_decl top_level s none in (p.0, p.1 ∙ ap (λ f. Err (f, p.0)) (sym fault_is), told p.0 p.2 p.3)
