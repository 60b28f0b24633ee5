-- What stands in the place of a statement: which of it is no plain statement, and how an item of a module is read there.
use Rattle.std.specs.Prelude.{ℕ, Bool, ◌&&◌, ◌||◌, if◌then◌else◌}
use Rattle.swc_ecma_parser_input.specs.Place.{Place}
use Rattle.swc_ecma_parser_model.specs.Tree.{Tree}
use Rattle.swc_ecma_parser_grammar.specs.Names.{Code}
use Rattle.swc_ecma_parser_grammar.specs.declared.position.Position.{Position}
use Rattle.swc_ecma_parser_reader.specs.Reader.{whole_stmt}
use Rattle.swc_ecma_parser_reader.specs.State.{Reader}
use Rattle.swc_ecma_parser_module_reader.specs.Decorated.{begins_decorators}
use Rattle.swc_ecma_parser_module_reader.specs.Modules.{module_item}
use Rattle.swc_ecma_parser_module_reader.specs.Programs.{begins_module}

-- an import or export, or what has decorators before it
abbrev pub begins_item : Code → Place → Bool
begins_item k c = begins_module c || begins_decorators k c

-- An item of a module in the place of a statement. At the top it is read as in a module; elsewhere a plain statement is read as that
-- place has it.
abbrev pub item_at : ℕ → Position → Reader Tree
item_at n at = if at.include_decl && at.top_level then module_item n else (λ s. if begins_item s.code s.at then module_item n s else whole_stmt n at s)
