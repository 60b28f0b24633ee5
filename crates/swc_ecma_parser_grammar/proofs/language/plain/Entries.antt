-- The same of what can be asked for.
use Rattle.std.proofs.Common.{ℕ, Bool, true, false, List, [], ◌∷◌, Option, ap, refl, ◌∙◌}
use Rattle.std.specs.Prelude.{◌||◌}
use Rattle.swc_ecma_parser_common.specs.declared.span.Span.{Span}
use Rattle.swc_ecma_parser_input.specs.Place.{Place}
use Rattle.swc_ecma_parser_model.specs.Tree.{Tree, Text, listed}
use Rattle.swc_ecma_parser_grammar.specs.Looks.{whole_span}
use Rattle.swc_ecma_parser_grammar.specs.Names.{Code}
use Rattle.swc_ecma_parser_grammar.specs.language.Goals.{stmt_goal, item_goal}
use Rattle.swc_ecma_parser_grammar.specs.language.Items.{top_item, directed, directs_on}
use Rattle.swc_ecma_parser_grammar.specs.language.ModuleItems.{behind_item, ModuleItemsRule}
use Rattle.swc_ecma_parser_grammar.specs.language.Programs.{Entry, script, «module», program, module_item, stmt, stmt_list_item, entry_code, at_top, EntryRule, ShebangRule, some_shebang, no_shebang, is_module_body, whole}
use Rattle.swc_ecma_parser_grammar.specs.language.Plain.{has_new_form, PlainListsArePlain}
use Rattle.swc_ecma_parser_grammar.specs.language.Reads.{Reads}
use Rattle.swc_ecma_parser_grammar.proofs.language.progress.Steps.{Onward, stays, goes, one}
use Rattle.swc_ecma_parser_grammar.proofs.language.progress.Statements.{progress}
use Rattle.swc_ecma_parser_grammar.proofs.language.plain.Steps.{Plain, Old, AllOld, behind, on}
use Rattle.swc_ecma_parser_grammar.proofs.language.plain.Expressions.{items_old}
use Rattle.swc_ecma_parser_grammar.proofs.language.plain.Statements.{reads_old}

shebang : {c d : Place} {text : Option Text} → ShebangRule c d text → Onward c d
shebang (some_shebang text s r) = goes (one r)
shebang (no_shebang a e) = stays e

module_items_old : (n : ℕ) (k : Code) (directives : Bool) (xs : List Tree) (awaits : Bool) (c d : Place) → ModuleItemsRule (Reads n) k directives xs awaits c d → Plain c → AllOld xs
module_items_old n k directives [] awaits c d r h = refl
module_items_old n k directives (x ∷ xs) awaits c d (m, others, r, rs, e) h =
    rw (reads_old n (item_goal k x c m) r h)
    (module_items_old n (behind_item (directed k directives x) x) (directs_on directives x) xs others m d rs (behind (progress n (item_goal k x c m) r) h))

whole_old : (is_module : Bool) (s : Span) (xs : List Tree) (text : Option Text) → AllOld xs → Old (whole is_module s (listed xs) text)
whole_old true s xs text h = h
whole_old false s xs text h = h

entry_old : (n : ℕ) (entry : Entry) (k : Code) (x : Tree) (c d : Place) → EntryRule (Reads n) entry k x c d → Plain c → Old x
entry_old n script k x c d r h =
    ap has_new_form r.is ∙ items_old (Reads n) (progress n) (reads_old n) k true top_item r.items r.first d r.reads_items (on (shebang r.reads_shebang) h)
entry_old n «module» k x c d r h =
    ap has_new_form r.is
    ∙ whole_old (true || is_module_body r.items r.awaits) (whole_span c d) r.items r.shebang (module_items_old n k true r.items r.awaits r.first d r.reads_items (on (shebang r.reads_shebang) h))
entry_old n program k x c d r h =
    ap has_new_form r.is
    ∙ whole_old (false || is_module_body r.items r.awaits) (whole_span c d) r.items r.shebang (module_items_old n k true r.items r.awaits r.first d r.reads_items (on (shebang r.reads_shebang) h))
entry_old n module_item k x c d r h = reads_old n (item_goal k x c d) r h
entry_old n (stmt top_level) k x c d r h = reads_old n (stmt_goal k (at_top false top_level) x c d) r h
entry_old n (stmt_list_item top_level) k x c d r h = reads_old n (stmt_goal k (at_top true top_level) x c d) r h

pub plain_lists_are_plain : PlainListsArePlain
plain_lists_are_plain n entry k x c d r h = entry_old n entry (entry_code entry k) x c d r.0 (record { is = h })
