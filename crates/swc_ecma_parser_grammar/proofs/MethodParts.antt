-- The parameters and the body of a method: as the whole language reads them, and with the statements of the small relation.
use Rattle.std.proofs.Common.{◌≡◌, ℕ, Bool, true, List, [], sym, ◌∙◌}
use Rattle.swc_ecma_parser_input.specs.Place.{Place}
use Rattle.swc_ecma_parser_model.specs.Tree.{Tree}
use Rattle.swc_ecma_parser_grammar.specs.Names.{Code}
use Rattle.swc_ecma_parser_grammar.specs.Notes.{notes}
use Rattle.swc_ecma_parser_grammar.specs.Parameters.{parameters}
use Rattle.swc_ecma_parser_grammar.specs.scaffold.Reads.{ReadsParts}
use Rattle.swc_ecma_parser_grammar.specs.scaffold.ReadsSupported.{ReadsStmt, ReadsParams}
use Rattle.swc_ecma_parser_grammar.specs.scaffold.Supported.{supported_in}
use Rattle.swc_ecma_parser_grammar.specs.language.Functions.{FunctionParts}
use Rattle.swc_ecma_parser_grammar.specs.language.Reads.{Reads}
use Rattle.swc_ecma_parser_grammar.proofs.Widens.{stmt_supported, stmt_widens, braced_supported, braced_widens, parameters_same}
use Rattle.swc_ecma_parser_grammar.proofs.Narrows.{stmt_narrows, braced_narrows}
use Rattle.swc_ecma_parser_grammar.proofs.StatementEntries.{stmt_unnoted, braced_unnoted, params_unnoted}

module _ (n : ℕ) (k : Code) (w g : Bool) (ps : List Tree) (body : Tree) (c d : Place) where
  abbrev Small : Type 0
  Small = ReadsParts (ReadsStmt n) (ReadsParams n) k w g ps body c d

  pub parts_widen : Small → FunctionParts (Reads n) k w g ps body c d
  parts_widen r = record { middle = r.middle; reads_parameters = r.reads_parameters.0; reads_body = braced_widens n (stmt_widens n) true r.reads_body }

  pub params_supported : Small → supported_in k.flags.module (parameters ps) ≡ true
  params_supported r = parameters_same k.flags.module ps ∙ r.reads_parameters.1

  pub body_supported : Small → supported_in k.flags.module body ≡ true
  body_supported r = braced_supported n (stmt_supported n) true r.reads_body

  -- in module code nothing in them is a fault of it
  pub parameters_unnoted : k.flags.module ≡ true → Small → notes (parameters ps) ≡ []
  parameters_unnoted o r = params_unnoted n ps o r.reads_parameters

  pub body_unnoted : k.flags.module ≡ true → Small → notes body ≡ []
  body_unnoted o r = braced_unnoted n (stmt_unnoted n) true o r.reads_body

  pub parts_narrow : FunctionParts (Reads n) k w g ps body c d → supported_in k.flags.module (parameters ps) ≡ true → supported_in k.flags.module body ≡ true
      → (k.flags.module ≡ true → notes body ≡ []) → Small
  parts_narrow r h i q = record {
    middle = r.middle;
    reads_parameters = (r.reads_parameters, sym (parameters_same k.flags.module ps) ∙ h);
    reads_body = braced_narrows n (stmt_narrows n) true q r.reads_body i;
  }
