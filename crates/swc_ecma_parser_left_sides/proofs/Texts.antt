-- The turns of the pieces of a template, in the shapes in which a loop meets them.
use Rattle.std.proofs.Common.{◌≡◌, ℕ, ◌<◌, Bool, true, false, List, [], ◌∷◌, ◌++◌, length, map, Ok, Err, refl, cond}
use Rattle.std.specs.Prelude.{◌||◌}
use Rattle.std.proofs.lemmas.List.{map_push}
use Rattle.swc_ecma_parser_common.specs.declared.span.Span.{Span}
use Rattle.swc_ecma_parser_error.specs.Kind as faults
use Rattle.swc_ecma_parser_error.specs.Kind.{Kind, Fault, fault_of}
use Rattle.swc_ecma_parser_token.specs.declared.kind.TokenKind.TheVariants as kind
use Rattle.swc_ecma_parser_token.specs.declared.token.Token.{Token}
use Rattle.swc_ecma_parser_token.specs.declared.token.Token.TheVariants as token
use Rattle.swc_ecma_parser_token.specs.declared.token.TokenAndSpan.{TokenAndSpan}
use Rattle.swc_ecma_parser_input.specs.TokenSource.{means_out_of_memory}
use Rattle.swc_ecma_parser_model.specs.declared.leaves.TplElement.{TplElement}
use Rattle.swc_ecma_parser_model.specs.Tree.{Tree}
use Rattle.swc_ecma_parser_trees.specs.Parts.{quasi_of}
use Rattle.swc_ecma_parser_grammar.specs.Looks.{sees}
use Rattle.swc_ecma_parser_grammar.specs.language.Goals.{expression}
use Rattle.swc_ecma_parser_reader.specs.Expressions.{Pieces, inside, template_text, template_turn, template_from, is_tail, first_piece, with_piece}
use Rattle.swc_ecma_parser_reader.specs.Reader.{expr, cover}
use Rattle.swc_ecma_parser_reader.specs.State.{State, Outcome, Step, moved, fault, fault_at, refused, refuse, refuse_at, refuse_in, loop}
use Rattle.swc_ecma_parser_left_sides.specs.TemplateParts.{text_behind}
use Rattle.swc_ecma_parser_reader.proofs.Takes.{less}
use Rattle.swc_ecma_parser_reader.proofs.Falls.{expr_falls, cover_falls}
use Rattle.swc_ecma_parser_reader.proofs.expressions.Falls.{inside_falls}
use Rattle.swc_ecma_parser_reader.proofs.expressions.FallsTemplates.{text_falls}
use Rattle.swc_ecma_parser_reader.proofs.expressions.Loops.{shorter_by, kept_by, pieces_err, pieces_refused, pieces_text_err, pieces_done, pieces_more}

-- ---- a refusal is the same, whatever would have been read

module _ (A B : Type 0) (e : Fault × State) where
  refused_as : (f : Fault) (o : Outcome (Unit {0})) → refused {A = A} f o ≡ Err e → refused {A = B} f o ≡ Err e
  refused_as f (Ok p) h = let k : (f, p.1) ≡ e = cc in rw k refl
  refused_as f (Err d) h = let k : d ≡ e = cc in rw k refl

  either_as : (b : Bool) (d : Fault × State) (f : Fault) (o : Outcome (Unit {0})) → cond b (Err d) (refused {A = A} f o) ≡ Err e → cond b (Err d) (refused {A = B} f o) ≡ Err e
  either_as true d f o h = let k : d ≡ e = cc in rw k refl
  either_as false d f o h = refused_as f o h

  refuse_at_as : (k : Kind) (s : State) (t : Token) (span : Span) → refuse_at {A = A} k s t span ≡ Err e → refuse_at {A = B} k s t span ≡ Err e
  refuse_at_as k s (token.Error d) span h = either_as (means_out_of_memory d.kind) (fault_of d, moved s) (fault_at span k) (fault (fault_of d) (moved s)) h
  refuse_at_as k s _ span h = let g : (fault_at span k, s) ≡ e = cc in rw g refl

  refuse_in_as : (k : Kind) (s : State) (ts : List TokenAndSpan) → refuse_in {A = A} k s ts ≡ Err e → refuse_in {A = B} k s ts ≡ Err e
  refuse_in_as k s [] h = let g : (fault_at s.at.last k, s) ≡ e = cc in rw g refl
  refuse_in_as k s (t ∷ ts) h = refuse_at_as k s t.token t.span h

  refuse_as : (k : Kind) (s : State) → refuse {A = A} k s ≡ Err e → refuse {A = B} k s ≡ Err e
  unfolding refuse
  refuse_as k s h = refuse_in_as k s s.at.left h

-- it answers nothing
module _ (A : Type 0) (p : A × State) where
  refused_never : (f : Fault) (o : Outcome (Unit {0})) → refused {A = A} f o ≡ Ok p → ⊥
  refused_never f (Ok q) h = cc
  refused_never f (Err d) h = cc

  either_never : (b : Bool) (d : Fault × State) (f : Fault) (o : Outcome (Unit {0})) → cond b (Err d) (refused {A = A} f o) ≡ Ok p → ⊥
  either_never true d f o h = cc
  either_never false d f o h = refused_never f o h

  refuse_at_never : (k : Kind) (s : State) (t : Token) (span : Span) → refuse_at {A = A} k s t span ≡ Ok p → ⊥
  refuse_at_never k s (token.Error d) span h = either_never (means_out_of_memory d.kind) (fault_of d, moved s) (fault_at span k) (fault (fault_of d) (moved s)) h
  refuse_at_never k s _ span h = cc

  refuse_in_never : (k : Kind) (s : State) (ts : List TokenAndSpan) → refuse_in {A = A} k s ts ≡ Ok p → ⊥
  refuse_in_never k s [] h = cc
  refuse_in_never k s (t ∷ ts) h = refuse_at_never k s t.token t.span h

  refuse_never : (k : Kind) (s : State) → refuse {A = A} k s ≡ Ok p → ⊥
  unfolding refuse
  refuse_never k s h = refuse_in_never k s s.at.left h

-- ---- what stands behind a text, which may be the last

abbrev pub rest : ℕ → (is_tagged is_last : Bool) → Pieces → State → Outcome Pieces
rest n is_tagged is_last found s = cond is_last (Ok (found, s)) (loop (template_turn (expr n) (cover n) is_tagged) found s)

started_by : (n : ℕ) (is_tagged : Bool) (q : Tree) (s : State) (b : Bool) → is_tail q ≡ b → template_from (expr n) (cover n) is_tagged q s ≡ rest n is_tagged b (first_piece q) s
started_by n is_tagged q s true e = rw e refl
started_by n is_tagged q s false e = rw e refl

pub started : (n : ℕ) (is_tagged : Bool) (q : Tree) (s : State) → template_from (expr n) (cover n) is_tagged q s ≡ rest n is_tagged (is_tail q) (first_piece q) s
started n is_tagged q s = started_by n is_tagged q s (is_tail q) refl

-- the rest, by what was found and where it is
pub same_rest : (n : ℕ) (is_tagged is_last : Bool) (f g : Pieces) (s t : State) → g ≡ f → t ≡ s → rest n is_tagged is_last f s ≡ rest n is_tagged is_last g t
same_rest n is_tagged is_last f g s t e h = rw (e, h) refl

-- what was found, as the model has it
abbrev pub pieces : {E : Type 0} → (E → Tree) → List E → List TplElement → Pieces
pieces view xs qs = record { exprs = map view xs; quasis = map quasi_of qs }

-- an expression and a text more
pub grown : {E : Type 0} (view : E → Tree) (xs ys : List E) (x : E) (qs rs : List TplElement) (q : TplElement) → ys ≡ xs ++ x ∷ [] → rs ≡ qs ++ q ∷ []
    → pieces view ys rs ≡ with_piece (pieces view xs qs) (view x) (quasi_of q)
grown view xs ys x qs rs q e h = rw (e, h, map_push view xs x, map_push quasi_of qs q) refl

-- whether a text stands behind an expression
found_by : (b : Bool) (o : Outcome Tree) (t : State) (q : Tree) (u : State) → cond b o (refuse {A = Tree} faults.Expected t) ≡ Ok (q, u) → (b ≡ true) × (o ≡ Ok (q, u))
found_by true o t q u h = (refl, h)
found_by false o t q u h = absurd (refuse_never Tree (q, u) faults.Expected t h)

module _ (n : ℕ) (is_tagged is_last : Bool) (found : Pieces) (s : State) (not_last : is_last ≡ false) where
  pub expression_err : (e : Fault × State) → inside (expr n) (cover n) expression s ≡ Err e → rest n is_tagged is_last found s ≡ Err e
  expression_err e h = rw not_last (pieces_err n is_tagged found s e h)

  module _ (x : Tree) (t : State) (found_expression : inside (expr n) (cover n) expression s ≡ Ok (x, t)) where
    text_err_by : (e : Fault × State) (b : Bool) → (sees kind.TemplateMiddle t.at || sees kind.TemplateTail t.at) ≡ b → cond b (template_text is_tagged t) (refuse {A = Tree} faults.Expected t) ≡ Err e
        → loop (template_turn (expr n) (cover n) is_tagged) found s ≡ Err e
    text_err_by e true k h = pieces_text_err n is_tagged found s x t found_expression k e h
    text_err_by e false k h = pieces_refused n is_tagged found s x t found_expression e k (refuse_as Tree (Step Pieces Pieces) e faults.Expected t h)

    pub text_err : (e : Fault × State) → text_behind is_tagged t ≡ Err e → rest n is_tagged is_last found s ≡ Err e
    text_err e h = rw not_last (text_err_by e (sees kind.TemplateMiddle t.at || sees kind.TemplateTail t.at) refl h)

    module _ (q : Tree) (u : State) (found_text : text_behind is_tagged t ≡ Ok (q, u)) where
      a_text : ((sees kind.TemplateMiddle t.at || sees kind.TemplateTail t.at) ≡ true) × (template_text is_tagged t ≡ Ok (q, u))
      a_text = found_by (sees kind.TemplateMiddle t.at || sees kind.TemplateTail t.at) (template_text is_tagged t) t q u found_text

      went_by : (b : Bool) → is_tail q ≡ b → loop (template_turn (expr n) (cover n) is_tagged) found s ≡ rest n is_tagged b (with_piece found x q) u
      went_by true e = pieces_done n is_tagged found s x t found_expression a_text.0 q u a_text.1 e
      went_by false e = pieces_more n is_tagged found s x t found_expression a_text.0 q u a_text.1 e

      pub went : rest n is_tagged is_last found s ≡ rest n is_tagged (is_tail q) (with_piece found x q) u
      went = rw not_last (went_by (is_tail q) refl)

pub shorter : (n : ℕ) (is_tagged : Bool) (s : State) (x : Tree) (t : State) → inside (expr n) (cover n) expression s ≡ Ok (x, t) → (q : Tree) (u : State) → text_behind is_tagged t ≡ Ok (q, u)
    → length u.at.left < length s.at.left
shorter n is_tagged s x t h q u g = kept_by (length s.at.left) (length t.at.left) (template_text is_tagged t) q u (found_by _ (template_text is_tagged t) t q u g).1 (less (length t.at.left) (template_text is_tagged t) (text_falls is_tagged t))
    (shorter_by (length s.at.left) (inside (expr n) (cover n) expression s) x t h (inside_falls (expr n) (cover n) (expr_falls n) (cover_falls n) expression s))
