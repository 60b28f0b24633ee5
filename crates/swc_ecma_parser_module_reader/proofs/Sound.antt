-- Modules and their items are sound, with their exports.
use Rattle.std.proofs.Common.{◌≡◌, ℕ, true, false, Ok, List}
use Rattle.swc_ecma_parser_model.specs.Tree.{Tree}
use Rattle.swc_ecma_parser_reader.specs.State.{State, loop}
use Rattle.swc_ecma_parser_reader.specs.Limits.{has_out_of_memory_token}
use Rattle.swc_ecma_parser_reader.specs.Reader.{items_turn, items, at_end}
use Rattle.swc_ecma_parser_reader.proofs.Meets.{Meets}
use Rattle.swc_ecma_parser_module_reader.specs.Modules.{module_item, module_body, module_whole}
use Rattle.swc_ecma_parser_module_reader.specs.Entry.{SoundModule}
use Rattle.swc_ecma_parser_module_reader.proofs.ModuleCode.{IsModule}
use Rattle.swc_ecma_parser_module_reader.proofs.SoundExports.{export_sound}
use Rattle.swc_ecma_parser_module_reader.proofs.SoundModules as modules
use Rattle.swc_ecma_parser_module_reader.proofs.SoundModules.{StoppedItems, StoppedBehind}

-- items from a state on, whatever stood before them
pub items_sound : (n : ℕ) (s : State) → IsModule s.code → Meets (StoppedItems n s) (items (module_item n) at_end true s)
items_sound = modules.items_sound export_sound

pub items_behind : (n : ℕ) (s : State) → IsModule s.code → (found : List Tree) → Meets (StoppedBehind n s found) (loop (items_turn (module_item n) at_end true) found s)
items_behind = modules.items_behind export_sound

pub module_is_sound : (n : ℕ) (s : State) (x : Tree) (t : State) → module_whole n s ≡ Ok (x, t) → SoundModule n s x t
module_is_sound = modules.module_is_sound export_sound

pub module_lacks_out_of_memory : (n : ℕ) (s : State) (x : Tree) (t : State) → module_whole n s ≡ Ok (x, t) → has_out_of_memory_token s.at.left ≡ false
module_lacks_out_of_memory = modules.module_lacks_out_of_memory export_sound

pub body_keeps_code : (n : ℕ) (s : State) (x : Tree) (t : State) → IsModule s.code → module_body n s ≡ Ok (x, t) → t.code ≡ s.code
body_keeps_code = modules.body_keeps_code export_sound
