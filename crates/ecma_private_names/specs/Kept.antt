-- How the private names of a class are kept: a list of what declares them, and what declares each last; and the names that refer to members.
use Rattle.std.specs.Prelude.{◌≡◌, ℕ, List, map}
use Rattle.std.specs.HashMap.{HashMap, get_by}
use Rattle.std.specs.Str.{bytes_eq}
use Rattle.ecma_private_names.specs.PrivateNames.{Named, Use, find}
use Rattle.ecma_private_names.specs.declared.members.Entry.{Entry}
use Rattle.ecma_private_names.specs.declared.members.Member.{Member}
use Rattle.swc_ecma_parser_model.specs.declared.leaves.PrivateName.{PrivateName}
use denote.Ref.{Bor}

abbrev pub named : Entry → Named
named x = record { text = x.text.now; member = x.member }

-- each name is looked up as the list has it
abbrev pub Agrees : {S : Type 0} → List Entry → HashMap (Bor (List ℕ)) Member S → Type 0
Agrees xs m = (q : List ℕ) → get_by (λ k. bytes_eq q k.now) m ≡ find q (map named xs)

abbrev pub use_of : Bor PrivateName → Use
use_of x = record { text = x.now.id.sym; span = x.now.span }
