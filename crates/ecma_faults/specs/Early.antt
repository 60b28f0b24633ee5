-- An early error as JSON and as text: as a fault of the parser is written, with the word `error`.
use Rattle.std.specs.Prelude.{ℕ, List, ◌++◌, codes, Option, option_map}
use Rattle.swc_ecma_parser_common.specs.declared.span.Span.{Span}
use Rattle.ecma_estree_text.specs.Places.{Placed}
use Rattle.ecma_events.specs.declared.early_error.EarlyError.{EarlyError}
use Rattle.ecma_early.specs.Sentences.{name_of, note_of, sentence_of}
use Rattle.ecma_faults.specs.Json.{first, note_json, span_json, string}
use Rattle.ecma_faults.specs.Text.{note_text, told_text}

-- the earlier place, if there is one, and what stands there
abbrev pub note_at : EarlyError → Option (Span × List ℕ)
note_at e = option_map (λ s. (s, note_of e.kind)) e.previous

-- what an early error says
unfoldable pub early_head : (file : List ℕ) → EarlyError → List ℕ
early_head file e =
    first (codes "file") file ++ (string (codes "severity") (codes "error")
    ++ (string (codes "kind") (name_of e.kind) ++ string (codes "message") (sentence_of e.kind)))

unfoldable pub early_json : Placed → (file : List ℕ) → EarlyError → List ℕ
early_json p file e = early_head file e ++ (span_json p e.span ++ (note_json p (note_at e) ++ codes "}\n"))

unfoldable pub early_text : Placed → (file : List ℕ) → EarlyError → List ℕ
early_text p file e = told_text p file e.span (codes "error") (sentence_of e.kind) ++ note_text p file (note_at e)
