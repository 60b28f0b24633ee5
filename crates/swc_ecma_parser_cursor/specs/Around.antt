-- What stands around the body of a function.
use Rattle.swc_ecma_parser_reader.specs.State.{State}
use Rattle.swc_ecma_parser_cursor.specs.declared.around.Around.{Around}

-- behind the body it stands around again
abbrev pub left_body : Around → State → State
left_body around s = record s { scope = record s.scope { labels = around.labels.items }; notes = record s.notes { found_module_item = around.found_module_item } }
