-- An empty list is an empty script, and where a whole begins.
use Rattle.std.proofs.Common.{◌≡◌, ℕ, true, false, List, [], ◌∷◌, Option, None, Ok, Err, refl, sym, ap, ◌∙◌, append-nil}
use Rattle.swc_ecma_parser_common.specs.declared.span.Span.{Span}
use Rattle.swc_ecma_parser_token.specs.declared.kind.TokenKind.TheVariants as kind
use Rattle.swc_ecma_parser_token.specs.declared.token.TokenAndSpan.{TokenAndSpan}
use Rattle.swc_ecma_parser_input.specs.Place.{Place}
use Rattle.swc_ecma_parser_model.specs.Tree as tree
use Rattle.swc_ecma_parser_model.specs.Tree.{Tree, Text, listed}
use Rattle.swc_ecma_parser_grammar.specs.Looks.{first_kind, first_span, first_start, kind_at, sees, same_kind, span_at, start_at, whole_span}
use Rattle.swc_ecma_parser_grammar.specs.Names.{Code}
use Rattle.swc_ecma_parser_grammar.specs.scaffold.Entries.{ReadsScript, no_shebang}
use Rattle.swc_ecma_parser_grammar.specs.language.Contexts.{script_code}
use Rattle.swc_ecma_parser_reader.proofs.Notes.{notes_nil}
use Rattle.swc_ecma_parser_reader.specs.State.{State, Outcome, coded}
use Rattle.swc_ecma_parser_reader.specs.Reader.{at_end, shebang, script}
use Rattle.swc_ecma_parser_reader.proofs.CompleteScripts.{script_reads}
use Rattle.swc_ecma_parser_reader.proofs.Errors.{nothing_at_end}
use Rattle.swc_ecma_parser_reader.proofs.Meets.{saw}

pub ended : (c : Place) → c.left ≡ [] → kind_at c ≡ kind.End
unfolding kind_at
ended c e = rw e refl

no_shebang_there : (c : Place) → c.left ≡ [] → sees kind.Shebang c ≡ false
unfolding same_kind
no_shebang_there c e = rw (ended c e) refl

-- no item is read
pub never_more : {X : Type 0} (c : Place) → c.left ≡ [] → at_end c ≡ false → X
unfolding at_end same_kind
never_more c e h = let g : true ≡ false = sym (rw (ended c e) refl) ∙ h in cc

-- the state of an answer
abbrev state_of : {A : Type 0} → State → Outcome A → State
state_of d (Ok p) = p.1
state_of d (Err e) = d

-- no shebang is taken
pub nothing_taken : (s : State) (o : Option Text) (t : State) → s.at.left ≡ [] → shebang s ≡ Ok (o, t) → t.at.left ≡ []
unfolding shebang
nothing_taken s o t e h =
    let g : shebang s ≡ Ok (None, s) = rw e refl in
    let k : s ≡ t = ap (state_of s) (sym g ∙ h) in sym (ap (λ u. u.at.left) k) ∙ e

-- what an empty list spells
abbrev pub nothing : Place → Tree
nothing c = tree.script (whole_span c c) (listed []) None

pub nothing_reads : (n : ℕ) (k : Code) (c : Place) → c.left ≡ [] → ReadsScript n k (nothing c) c c
nothing_reads n k c e = record {
  shebang = None;
  first = c;
  reads_shebang = no_shebang (no_shebang_there c e) refl;
  items = [];
  reads_items = refl;
  whole = ended c e;
  is = refl;
}

pub script_of_nothing : (n : ℕ) (s : State) → s.at.left ≡ [] → script n s ≡ Ok (tree.script (whole_span s.at s.at) (listed []) None, coded (script_code s.code) s)
unfolding nothing_reads
script_of_nothing n s e = script_reads n s (nothing s.at) s.at (nothing_reads n s.code s.at e) ∙ rw (append-nil s.faults, notes_nil s.notes) refl

-- ---- where a whole begins, by the kind of what stands first

pub start_ends : (c : Place) → sees kind.End c ≡ true → start_at c ≡ record { lo = c.last.hi; hi = c.last.hi }
unfolding start_at
start_ends c h = ap (first_start c.last) (nothing_at_end c (saw c kind.End h))

start_goes_in : (last : Span) (ts : List TokenAndSpan) → same_kind (first_kind ts) kind.End ≡ false → first_start last ts ≡ first_span last ts
unfolding same_kind
start_goes_in last [] h = let g : true ≡ false = h in cc
start_goes_in last (t ∷ ts) h = refl

pub start_goes : (c : Place) → sees kind.End c ≡ false → start_at c ≡ span_at c
unfolding kind_at start_at span_at
start_goes c h = start_goes_in c.last c.left h
