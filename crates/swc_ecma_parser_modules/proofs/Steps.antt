-- A turn that reads a specifier and the comma behind it takes a token.
use Rattle.std.proofs.Common.{◌≡◌, ◌<◌, arith, length, Ok, Err, ap}
use Rattle.swc_ecma_parser_input.specs.Place.{after}
use Rattle.swc_ecma_parser_model.specs.Tree.{Tree}
use Rattle.swc_ecma_parser_reader.specs.State.{State, Outcome, moved, skip}
use Rattle.swc_ecma_parser_reader.proofs.Takes.{moves}
use Rattle.swc_ecma_parser_module_reader.specs.Imports.{import_specifier}
use Rattle.swc_ecma_parser_module_reader.specs.Exports.{export_specifier}
use Rattle.swc_ecma_parser_module_reader.proofs.Falls.{import_specifier_shorter, export_specifier_shorter}

-- what a step over a token comes to
abbrev state_of : State → Outcome (Unit {0}) → State
state_of s (Ok p) = p.1
state_of s (Err e) = s

pub skipped : (s t : State) → skip s ≡ Ok (tt, t) → moved s ≡ t
skipped s t e = ap (state_of s) e

pub imports_shorter : (s : State) (x : Tree) (t : State) → import_specifier s ≡ Ok (x, t) → length (after t.at).left < length s.at.left
imports_shorter s x t e = let a = import_specifier_shorter s x t e in let b = moves t.at in omega arith

pub exports_shorter : (s : State) (x : Tree) (t : State) → export_specifier s ≡ Ok (x, t) → length (after t.at).left < length s.at.left
exports_shorter s x t e = let a = export_specifier_shorter s x t e in let b = moves t.at in omega arith
