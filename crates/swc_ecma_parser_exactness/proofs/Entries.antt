-- What an entry of the language reads is supported.
use Rattle.std.proofs.Common.{◌≡◌, ℕ, Bool, true, false, List, [], ◌∷◌, Option, refl, ◌∙◌, ap}
use Rattle.std.specs.Prelude.{◌||◌}
use Rattle.swc_ecma_parser_common.specs.declared.span.Span.{Span}
use Rattle.swc_ecma_parser_input.specs.Place.{Place}
use Rattle.swc_ecma_parser_model.specs.Tree.{Tree, Text, trees, listed}
use Rattle.swc_ecma_parser_grammar.specs.Looks.{whole_span}
use Rattle.swc_ecma_parser_grammar.specs.Names.{Code}
use Rattle.swc_ecma_parser_grammar.specs.language.Goals.{Goal, stmt_goal, item_goal}
use Rattle.swc_ecma_parser_grammar.specs.language.Items.{top_item, directed, directs_on}
use Rattle.swc_ecma_parser_grammar.specs.language.ModuleItems.{ModuleItemsRule, behind_item}
use Rattle.swc_ecma_parser_grammar.specs.language.Programs as programs
use Rattle.swc_ecma_parser_grammar.specs.language.Programs.{Entry, ShebangRule, ScriptRule, is_module_body, whole, ModuleRule, at_top, EntryRule, entry_code}
use Rattle.swc_ecma_parser_grammar.specs.language.Laws.{Advances, begin, end}
use Rattle.swc_ecma_parser_grammar.specs.language.Reads.{Reads}
use Rattle.swc_ecma_parser_grammar.proofs.language.progress.Steps.{Onward, stays, goes, one}
use Rattle.swc_ecma_parser_grammar.proofs.language.progress.Statements.{progress}
use Rattle.swc_ecma_parser_grammar.proofs.Tests.{and_both}
use Rattle.swc_ecma_parser_grammar.specs.scaffold.Supported.{supported}
use Rattle.swc_ecma_parser_module_reader.specs.Supported.{supported_item, all_supported_items, supported_module, supported_program}
use Rattle.swc_ecma_parser_exactness.specs.Supports.{Whole, WholeGoal, Ordered, needs_order, any_needs_order, needs_order_in, supported_entry, ordered_entry, ReadEntryIsSupported, ReadProgramIsSupported}
use Rattle.swc_ecma_parser_exactness.proofs.Wholes.{list_whole}
use Rattle.swc_ecma_parser_exactness.proofs.Parts.{items_whole}
use Rattle.swc_ecma_parser_exactness.proofs.Ordered.{advanced, onward, from_outset}
use Rattle.swc_ecma_parser_exactness.proofs.Exported.{first_of_two, second_of_two}
use Rattle.swc_ecma_parser_exactness.proofs.Goals.{reads_whole}

-- ---- lists of items

-- a list of which each item is one that is supported
abbrev EachItem : List Tree → Type 0
EachItem [] = Unit {0}
EachItem (x ∷ xs) = (supported_item x ≡ true) × EachItem xs

all_items : (xs : List Tree) → EachItem xs → all_supported_items (trees xs) ≡ true
all_items [] h = refl
all_items (x ∷ xs) h = and_both _ _ h.0 (all_items xs h.1)

-- what a whole is, a module or a script
whole_program : (is_module : Bool) (s : Span) (xs : List Tree) (shebang : Option Text) → EachItem xs → supported_program (whole is_module s (listed xs) shebang) ≡ true
whole_program true s xs shebang h = all_items xs h
whole_program false s xs shebang h = all_items xs h

decorated_whole : (is_module : Bool) (s : Span) (xs : List Tree) (shebang : Option Text) → needs_order_in (whole is_module s (listed xs) shebang) ≡ any_needs_order (trees xs)
decorated_whole true s xs shebang = refl
decorated_whole false s xs shebang = refl

past_shebang : {c d : Place} {shebang : Option Text} → ShebangRule c d shebang → Onward c d
past_shebang (programs.some_shebang text s r) = goes (one r)
past_shebang (programs.no_shebang h e) = stays e

module _ (In : Goal → Type 0) (small : (g : Goal) → In g → WholeGoal g) (go : (g : Goal) → In g → Advances (begin g) (end g)) where
  each_item : (k : Code) (directives : Bool) (xs : List Tree) (awaits : Bool) (c d : Place) (from : ℕ) → (any_needs_order (trees xs) ≡ true → Ordered from c)
      → ModuleItemsRule In k directives xs awaits c d → EachItem xs
  each_item k directives [] awaits c d from o r = tt
  each_item k directives (x ∷ xs) awaits c d from o (m, others, r, rs, e) = (
    small (item_goal k x c m) r from (λ h. o (first_of_two (needs_order x) (any_needs_order (trees xs)) h)),
    each_item (behind_item (directed k directives x) x) (directs_on directives x) xs others m d 0 (λ h.
        let p = advanced from c m (o (second_of_two (needs_order x) (any_needs_order (trees xs)) h)) (go (item_goal k x c m) r) in from_outset p.from m.left p.ordered) rs,
  )

  items_of : {is_certain : Bool} {k : Code} {x : Tree} {c d : Place} (from : ℕ) → (needs_order_in x ≡ true → Ordered from c) → (r : ModuleRule In is_certain k x c d) → EachItem r.items
  items_of {is_certain = is_certain} {k = k} {c = c} {d = d} from o r =
      each_item k true r.items r.awaits r.first d 0 (λ h.
      let p = onward from c r.first (o (ap needs_order_in r.is ∙ decorated_whole (is_certain || is_module_body r.items r.awaits) (whole_span c d) r.items r.shebang ∙ h)) (past_shebang r.reads_shebang) in
      from_outset p.from r.first.left p.ordered) r.reads_items

  program_whole : {is_certain : Bool} {k : Code} {x : Tree} {c d : Place} (from : ℕ) → (needs_order_in x ≡ true → Ordered from c) → ModuleRule In is_certain k x c d
      → supported_program x ≡ true
  program_whole {is_certain = is_certain} {c = c} {d = d} from o r =
      ap supported_program r.is ∙ whole_program (is_certain || is_module_body r.items r.awaits) (whole_span c d) r.items r.shebang (items_of from o r)

  module_whole : {k : Code} {x : Tree} {c d : Place} (from : ℕ) → (needs_order_in x ≡ true → Ordered from c) → ModuleRule In true k x c d → supported_module x ≡ true
  module_whole from o r = ap supported_module r.is ∙ all_items r.items (items_of from o r)

  script_whole : {k : Code} {x : Tree} {c d : Place} → ScriptRule In k x c d → Whole x
  script_whole {k = k} {d = d} r = ap supported r.is ∙ list_whole r.items (items_whole In small k true top_item r.items r.first d r.reads_items)

  entry_whole : (entry : Entry) (k : Code) (x : Tree) (c d : Place) (from : ℕ) → (ordered_entry entry x ≡ true → Ordered from c) → EntryRule In entry k x c d
      → supported_entry entry x ≡ true
  entry_whole programs.script k x c d from o r = script_whole r
  entry_whole programs.«module» k x c d from o r = module_whole from o r
  entry_whole programs.program k x c d from o r = program_whole from o r
  entry_whole programs.module_item k x c d from o r = small (item_goal k x c d) r from o
  entry_whole (programs.stmt top_level) k x c d from o r = small (stmt_goal k (at_top false top_level) x c d) r
  entry_whole (programs.stmt_list_item top_level) k x c d from o r = small (stmt_goal k (at_top true top_level) x c d) r

-- ---- within some levels

pub read_entry : ReadEntryIsSupported
read_entry n entry k x c d from o r = entry_whole (Reads n) (reads_whole n) (progress n) entry (entry_code entry k) x c d from o r

pub read_program : ReadProgramIsSupported
read_program n is_certain k x c d from o r = program_whole (Reads n) (reads_whole n) (progress n) from o r
