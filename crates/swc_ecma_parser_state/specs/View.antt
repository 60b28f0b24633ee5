-- What a `State` shows.
use Rattle.std.specs.Prelude.{◌≡◌, true, []}
use Rattle.swc_ecma_parser_state.specs.Contents.{Contents}
use Rattle.swc_ecma_parser_state.specs.declared.state.State.TheInside.{Inside}

abbrev pub view_of : {I : Type 0} → Inside I → Contents
view_of s = record { buffer = s.buffer; labels = s.labels.items; found_module_item = s.found_module_item; mark = s.mark }

-- in module code nothing is held back
abbrev pub IsSettled : {I : Type 0} → Inside I → Type 0
IsSettled s = s.buffer.context.module ≡ true → s.buffer.held_back ≡ []
