-- At the end of the list no item is read.
use Rattle.std.proofs.Common.{◌≡◌, ℕ, true, false, List, [], Err, refl, ap, ◌∙◌}
use Rattle.swc_ecma_parser_error.specs.Kind as faults
use Rattle.swc_ecma_parser_error.specs.Kind.{Fault}
use Rattle.swc_ecma_parser_token.specs.declared.kind.TokenKind.TheVariants as kind
use Rattle.swc_ecma_parser_grammar.specs.Looks.{same_kind}
use Rattle.swc_ecma_parser_reader.specs.State.{State, fault_at, end_of}
use Rattle.swc_ecma_parser_reader.proofs.Empty.{ended}
use Rattle.swc_ecma_parser_reader.proofs.Statements.{whole_at_end}
use Rattle.swc_ecma_parser_module_reader.specs.Items.{item_whole}
use Rattle.swc_ecma_parser_module_reader.proofs.ItemCases.{with_held, whole_stated, none_at_end}
use Rattle.swc_ecma_parser_module_reader.proofs.NoDecorators.{no_list_at}

no_sign_end : same_kind kind.End kind.At ≡ false
unfolding same_kind
no_sign_end = refl

pub item_at_end : (n : ℕ) (recorded : List Fault) (s : State) → s.at.left ≡ []
    → (u : State) × (item_whole n recorded s ≡ Err (fault_at (end_of s.at.last) faults.Eof, u)) × (u.at ≡ s.at) × (u.faults ≡ s.faults)
item_at_end n recorded s h =
    let p = whole_at_end n true true s h in
    (p.0, whole_stated n recorded s (none_at_end s.at h) (no_list_at s.code s.at kind.End (ended s.at h) no_sign_end) ∙ ap (with_held []) p.1, p.2, p.3)
