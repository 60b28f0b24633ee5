-- How an item of a module is read in the place of a statement.
use Rattle.std.proofs.Common.{◌≡◌, ℕ, ◌<◌, Bool, true, false, cond, ◌||◌, length, Result, Ok, refl, sym, ap, subst, inl, ◌∙◌, true≢false}
use Rattle.std.specs.Prelude.{◌&&◌, ◌↔◌}
use Rattle.swc_ecma_parser_error.specs.declared.error.Error.{Error}
use Rattle.swc_ecma_parser_token.specs.declared.kind.TokenKind.TheVariants as kind
use Rattle.swc_ecma_parser_input.specs.Place.{Place}
use Rattle.swc_ecma_parser_input.specs.TokenSource.{ordered_from}
use Rattle.swc_ecma_parser_model.specs.Kinds.{is_module_decl}
use Rattle.swc_ecma_parser_model.specs.Tree.{Tree}
use Rattle.swc_ecma_parser_grammar.specs.declared.position.Position.{Position}
use Rattle.swc_ecma_parser_grammar.specs.Looks.{sees}
use Rattle.swc_ecma_parser_grammar.specs.Names.{Code}
use Rattle.swc_ecma_parser_grammar.specs.Walk.{walk, env_of}
use Rattle.swc_ecma_parser_grammar.specs.language.Contexts.{in_module, in_strict}
use Rattle.swc_ecma_parser_grammar.specs.language.Goals.{item_goal}
use Rattle.swc_ecma_parser_grammar.specs.language.Items.{top_item}
use Rattle.swc_ecma_parser_grammar.specs.language.Programs as programs
use Rattle.swc_ecma_parser_grammar.specs.language.Programs.{is_module_code, is_module_program, Spells}
use Rattle.swc_ecma_parser_grammar.specs.language.Reads.{Reads}
use Rattle.swc_ecma_parser_grammar.proofs.Tests.{or_no}
use Rattle.swc_ecma_parser_reader.specs.Reader.{whole_stmt}
use Rattle.swc_ecma_parser_reader.specs.State.{State, GivesAs}
use Rattle.swc_ecma_parser_reader.proofs.Behind.{Kept, Lost, behind_self}
use Rattle.swc_ecma_parser_reader.proofs.Loops.{whole_shorter}
use Rattle.swc_ecma_parser_reader.proofs.Meets.{Refuses, meant}
use Rattle.swc_ecma_parser_module_reader.specs.Decorated.{begins_decorators}
use Rattle.swc_ecma_parser_module_reader.specs.Modules.{begins_import, import_in, export_in, decorated_item, module_item}
use Rattle.swc_ecma_parser_module_reader.specs.Programs.{begins_module}
use Rattle.swc_ecma_parser_module_reader.proofs.CompleteDecorated.{export_reads}
use Rattle.swc_ecma_parser_module_reader.proofs.CompleteModules.{item_reads}
use Rattle.swc_ecma_parser_module_reader.proofs.Falls.{item_shorter}
use Rattle.swc_ecma_parser_module_reader.proofs.Keeps.{module_item_keeps}
use Rattle.swc_ecma_parser_module_reader.proofs.ModuleCode.{IsModule}
use Rattle.swc_ecma_parser_module_reader.proofs.SoundExports.{export_sound}
use Rattle.swc_ecma_parser_module_reader.proofs.SoundModules.{SoundItem, item_sound}
use Rattle.swc_ecma_parser_exactness.specs.Supports.{Ordered}
use Rattle.swc_ecma_parser_exactness.proofs.Decides.{none_behind, no_faults}
use Rattle.swc_ecma_parser_exactness.proofs.Entries.{read_entry}
use Rattle.swc_ecma_parser_exactness.proofs.Ordered.{from_outset}
use Rattle.swc_ecma_parser_output_readers.specs.Items.{begins_item, item_at}
use Rattle.swc_ecma_parser_output_readers.specs.Languages.{statement_language, module_language, either_language, item_language, IsRead, IsExact, IsLeft, Leaves, DecidesOne}
use Rattle.swc_ecma_parser_output_readers.specs.ListLaws.{decides_one}
use Rattle.swc_ecma_parser_output_readers.specs.StatementLaws.{stmt_is_exact, stmt_leaves}

abbrev place : (include_decl top_level : Bool) → Position
place include_decl top_level = record { include_decl = include_decl; top_level = top_level }

-- what begins no item is a statement, in a module too
module _ (n : ℕ) (s : State) (h : begins_item s.code s.at ≡ false) where
  top_stmt : module_item n s ≡ whole_stmt n top_item s
  unfolding module_item begins_module
  top_stmt = by_word (begins_import s.at) (sees kind.Export s.at) (begins_decorators s.code s.at) h
    where
      by_word : (i e d : Bool) → ((i || e) || d) ≡ false → cond i (import_in n s) (cond e (export_in n s) (cond d (decorated_item n s) (whole_stmt n top_item s))) ≡ whole_stmt n top_item s
      by_word true e d g = absurd (true≢false g)
      by_word false true d g = absurd (true≢false g)
      by_word false false true g = absurd (true≢false g)
      by_word false false false g = refl

  elsewhere : (at : Position) → cond (begins_item s.code s.at) (module_item n s) (whole_stmt n at s) ≡ whole_stmt n at s
  elsewhere at = ap (λ b. cond b (module_item n s) (whole_stmt n at s)) h

  at_stmt : (d t : Bool) → item_at n (place d t) s ≡ whole_stmt n (place d t) s
  at_stmt true true = top_stmt
  at_stmt true false = elsewhere (place true false)
  at_stmt false t = elsewhere (place false t)

pub item_at_stmt : (n : ℕ) (at : Position) (s : State) → begins_item s.code s.at ≡ false → item_at n at s ≡ whole_stmt n at s
item_at_stmt n at s h = at_stmt n s h at.include_decl at.top_level

-- what begins an item is read as in a module, wherever it stands
module _ (n : ℕ) (s : State) (h : begins_item s.code s.at ≡ true) where
  item_elsewhere : (at : Position) → cond (begins_item s.code s.at) (module_item n s) (whole_stmt n at s) ≡ module_item n s
  item_elsewhere at = ap (λ b. cond b (module_item n s) (whole_stmt n at s)) h

  at_item : (d t : Bool) → item_at n (place d t) s ≡ module_item n s
  at_item true true = refl
  at_item true false = item_elsewhere (place true false)
  at_item false t = item_elsewhere (place false t)

pub item_at_item : (n : ℕ) (at : Position) (s : State) → begins_item s.code s.at ≡ true → item_at n at s ≡ module_item n s
item_at_item n at s h = at_item n s h at.include_decl at.top_level

-- it takes a token at least
pub item_at_shorter : (n : ℕ) (at : Position) (s : State) (x : Tree) (t : State) → item_at n at s ≡ Ok (x, t) → length t.at.left < length s.at.left
item_at_shorter n at s x t e = by_item (begins_item s.code s.at) refl
  where
    by_item : (b : Bool) → begins_item s.code s.at ≡ b → length t.at.left < length s.at.left
    by_item true h = item_shorter n s x t (sym (item_at_item n at s h) ∙ e)
    by_item false h = whole_shorter n at s x t (sym (item_at_stmt n at s h) ∙ e)

-- ---- an item is read exactly as its language has it, where the code is a module's

-- module code stays that behind a directive
pub module_strict : (k : Code) → IsModule k → IsModule (in_strict k)
module_strict k (m, s) = (m, refl)

is_module : (k : Code) (x : Tree) → k.flags.module ≡ true → is_module_code k x ≡ true
is_module k x o = by_form (is_module_decl x) (is_module_program x)
  where
    by_form : (b p : Bool) → (cond b (in_module k) k).flags.module || p ≡ true
    by_form true p = refl
    by_form false p = rw o refl

item_read : (n : ℕ) (s : State) (x : Tree) (t : State) → IsModule s.code → module_item n s ≡ Ok (x, t) → SoundItem n s x t
item_read n s x t m g = meant (λ y u. SoundItem n s y u) Refuses (module_item n s) (Ok (x, t)) g (item_sound export_sound n s m)

module _ (n : ℕ) (s : State) (x : Tree) (d : Place) (m : IsModule s.code) where
  abbrev Spelled : Type 0
  Spelled = Spells n programs.module_item s.code s.scope.labels x s.at d

  sound : IsRead (module_item n) s x d → Spelled
  sound (t, g, c, f) =
      let (b, p) = item_read n s x t m g in
      let e = none_behind s.faults p.added (sym p.faults ∙ f) in
      let r = p.reads e in
      ((subst (λ z. Reads n (item_goal s.code x s.at z)) c r.reads, λ _. r.unnoted), p.clean e)

  complete : (from : ℕ) → Ordered from s.at → Spelled → IsRead (module_item n) s x d
  complete from o ((r, q), e) =
      let order : ordered_from 0 s.at.left ≡ true = from_outset from s.at.left o in (
        _,
        item_reads export_reads n s.code x s.at d m (λ _. order) r (read_entry n programs.module_item s.code x s.at d from (λ _. o) r) (q (is_module s.code x m.0)) s.scope s.faults s.notes (inl e),
        refl,
        no_faults s.faults (walk (env_of s.code s.scope.labels) x) e,
      )

-- as an item wherever its language says so
item_there : (n : ℕ) (s : State) (include_decl top_level : Bool) → ((include_decl && top_level) || begins_item s.code s.at) ≡ true → item_at n (place include_decl top_level) s ≡ module_item n s
item_there n s true true h = refl
item_there n s true false h = item_at_item n (place true false) s h
item_there n s false top_level h = item_at_item n (place false top_level) s h

abbrev is_item : Position → State → Bool
is_item at s = (at.include_decl && at.top_level) || begins_item s.code s.at

module _ (n : ℕ) (at : Position) (s : State) (m : IsModule s.code) where
  no_item : is_item at s ≡ false → item_at n at s ≡ whole_stmt n at s
  no_item h = item_at_stmt n at s (or_no (at.include_decl && at.top_level) (begins_item s.code s.at) h).1

  exact_by : (from : ℕ) → Ordered from s.at → (x : Tree) (d : Place) (b : Bool) → is_item at s ≡ b
      → IsRead (item_at n at) s x d ↔ either_language b module_language statement_language n at s.code s.scope.labels x s.at d
  exact_by from o x d true h = let e = item_there n s at.include_decl at.top_level h in (
    λ (t, g, c, f). sound n s x d m (t, sym e ∙ g, c, f),
    λ r. let (t, g, c, f) = complete n s x d m from o r in (t, e ∙ g, c, f),
  )
  exact_by from o x d false h = let e = no_item h in let p = stmt_is_exact n at s from tt o x d in (
    λ (t, g, c, f). p.0 (t, sym e ∙ g, c, f),
    λ r. let (t, g, c, f) = p.1 r in (t, e ∙ g, c, f),
  )

  left_by : (x : Tree) (t : State) (b : Bool) → is_item at s ≡ b → item_at n at s ≡ Ok (x, t) → IsLeft s t
  left_by x t true h g =
      let i = sym (item_there n s at.include_decl at.top_level h) ∙ g in
      let p = (item_read n s x t m i).1 in
      let b = meant (Kept s) (Lost s) (module_item n s) (Ok (x, t)) i (module_item_keeps n s s (behind_self s)) in
      record { code = p.code; labels = ap (λ w. w.labels) p.scope; behind = b.0 }
  left_by x t false h g = stmt_leaves n at s x t tt (sym (no_item h) ∙ g)

pub item_is_exact : IsExact IsModule item_language item_at
item_is_exact n at s from m o x d = exact_by n at s m from o x d (is_item at s) refl

pub item_leaves : Leaves IsModule item_at
item_leaves n at s x t m g = left_by n at s m x t (is_item at s) refl g

-- and so by itself
pub module_is_exact : IsExact IsModule module_language (λ n at. module_item n)
module_is_exact n at s from m o x d = (sound n s x d m, complete n s x d m from o)

module _ {X : Type 0} (view : X → Tree) (n : ℕ) (at : Position) (s : State) (r : Result X Error) (t : State) where
  pub module_decides : GivesAs view (module_item n s) r t → DecidesOne IsModule module_language view n at s r t
  module_decides h = decides_one IsModule module_language (λ n at. module_item n) module_is_exact view n at s r t h

  -- where one begins
  pub item_decides : begins_item s.code s.at ≡ true → GivesAs view (module_item n s) r t → DecidesOne IsModule item_language view n at s r t
  item_decides b h = decides_one IsModule item_language item_at item_is_exact view n at s r t (subst (λ o. GivesAs view o r t) (sym (item_at_item n at s b)) h)
