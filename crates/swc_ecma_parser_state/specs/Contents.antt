-- What a state holds, whatever the type of its source, and what is seen of it.
use Rattle.std.specs.Prelude.{Bool, List, Option}
use Rattle.swc_ecma_parser_error.specs.Kind.{faults_of}
use Rattle.swc_ecma_parser_input.specs.Buffered.{Buffered, behind}
use Rattle.swc_ecma_parser_input.specs.Setting.{setting_of}
use Rattle.swc_ecma_parser_input.specs.TokenSource.{TokenSource}
use Rattle.swc_ecma_parser_model.specs.Tree.{Text}
use Rattle.swc_ecma_parser_reader.specs.Notes.{held_of}
use Rattle.swc_ecma_parser_reader.specs.State as reader
use Rattle.swc_ecma_parser_reader.specs.declared.mark.Mark.{Mark}

pub record Contents : Type 0 where
  pub buffer : Buffered
  pub labels : List Text
  pub found_module_item : Bool
  pub mark : Option Mark

-- the state that rules read from: of a fault its kind and its span
abbrev pub seen : Contents → reader.State
seen s = record {
  at = s.buffer.place;
  code = record { flags = s.buffer.context; setting = setting_of s.buffer.syntax };
  scope = record { labels = s.labels; mark = s.mark };
  faults = faults_of s.buffer.recorded;
  notes = record { held_back = held_of s.buffer.held_back; found_module_item = s.found_module_item };
}

-- the source, behind the two tokens that are read ahead
abbrev pub source_of : Contents → TokenSource
source_of s = behind s.buffer
