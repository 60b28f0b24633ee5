-- The turns of the loops of expressions, and their levels, in the shapes that a loop over tokens and a recursion meet them.
use Rattle.std.proofs.Common.{◌≡◌, ℕ, suc, ◌-◌, ◌<◌, Bool, true, false, List, [], ◌∷◌, ◌++◌, length, Some, None, Ok, Err, refl, sym, ◌∙◌, ap, subst, arith}
use Rattle.std.specs.Prelude.{not, ◌&&◌, ◌||◌}
use Rattle.std.proofs.lemmas.Bool.{and_parts}
use Rattle.swc_ecma_parser_common.specs.declared.span.Span.{Span}
use Rattle.swc_ecma_parser_error.specs.Kind as faults
use Rattle.swc_ecma_parser_error.specs.Kind.{Fault}
use Rattle.swc_ecma_parser_token.specs.declared.kind.TokenKind.TheVariants as kind
use Rattle.swc_ecma_parser_input.specs.Place.{after}
use Rattle.swc_ecma_parser_model.specs.declared.operators.BinaryOp.{BinaryOp}
use Rattle.swc_ecma_parser_model.specs.Tree as tree
use Rattle.swc_ecma_parser_model.specs.Tree.{Tree}
use Rattle.swc_ecma_parser_grammar.specs.Looks.{sees}
use Rattle.swc_ecma_parser_grammar.specs.language.Goals.{Class, expression}
use Rattle.swc_ecma_parser_grammar.specs.Follows.{begins_template}
use Rattle.swc_ecma_parser_reader.proofs.Falls.{expr_falls, cover_falls, functions_fall}
use Rattle.swc_ecma_parser_reader.specs.Reader.{right_operand, expr, cover, head_cover, head_behind, function}
use Rattle.swc_ecma_parser_reader.specs.Arrows.{Parts, ended, rest_part, part_turn}
use Rattle.swc_ecma_parser_reader.specs.AsyncArrows.{Argument, followed, argument, either_turn}
use Rattle.swc_ecma_parser_reader.specs.Heads.{head_expr, head_behind_async}
use Rattle.swc_ecma_parser_reader.specs.State.{State, Outcome, Reader, moved, too_deep, fault, fault_at, expect, refuse, Step, loop}
use Rattle.swc_ecma_parser_reader.specs.Expressions.{Cover, Covers, with_cover, with_comma, done, element, behind_comma, arguments_turn, covered, item, array_turn, property, object_turn, accessed, called, tagged, chained, linked, is_tail, with_piece, template_text, inside, template_turn, Pieces, left_turn, operator_at, operated, binary_turn, cover_expr, assignment_expr, sequence_turn, expr_level}
use Rattle.swc_ecma_parser_reader.proofs.Steps.{loop_more, loop_done, loop_err}
use Rattle.swc_ecma_parser_reader.proofs.Takes.{Falls, less, moves, takes, fault_falls, expect_falls}
use Rattle.swc_ecma_parser_reader.proofs.expressions.Falls.{element_falls, covered_falls, item_falls, argument_falls, property_falls, accessed_falls, called_falls, tagged_falls, chained_falls, operated_falls, assignment_falls, inside_falls}
use Rattle.swc_ecma_parser_reader.proofs.Meets.{saw}
use Rattle.swc_ecma_parser_reader.proofs.expressions.FallsTemplates.{text_falls}

-- ---- what takes a token leaves fewer

pub shorter_by : {A : Type 0} (n : ℕ) (o : Outcome A) (x : A) (t : State) → o ≡ Ok (x, t) → Falls 1 n o → length t.at.left < n
shorter_by n o x t e h = let k : Falls 1 n (Ok (x, t)) = subst (Falls 1 n) e h in omega arith

-- what puts none back leaves no more
pub kept_by : {A : Type 0} (m n : ℕ) (o : Outcome A) (x : A) (t : State) → o ≡ Ok (x, t) → Falls 0 n o → n < m → length t.at.left < m
kept_by m n o x t e h l = let k : Falls 0 n (Ok (x, t)) = subst (Falls 0 n) e h in omega arith

pub cover_shorter : (n : ℕ) (s : State) (v : Cover) (t : State) → cover n s ≡ Ok (v, t) → length t.at.left < length s.at.left
cover_shorter n s v t e = shorter_by (length s.at.left) (cover n s) v t e (cover_falls n s)

pub expr_shorter : (n : ℕ) (class : Class) (s : State) (x : Tree) (t : State) → expr n class s ≡ Ok (x, t) → length t.at.left < length s.at.left
expr_shorter n class s x t e = shorter_by (length s.at.left) (expr n class s) x t e (expr_falls n class s)

-- ---- arguments: `)` ends them; behind each it stands, or a comma, which is recorded before `)` where none may stand there

module _ (n : ℕ) (s : State) (x : Tree) (t : State) (found_element : element (expr n) (cover n) s ≡ Ok (x, t)) where
  pub element_shorter : length t.at.left < length s.at.left
  element_shorter = shorter_by (length s.at.left) (element (expr n) (cover n) s) x t found_element (element_falls (expr n) (cover n) (expr_falls n) (cover_falls n) s)

  -- an argument and the comma behind it
  pub arguments_shorter : (u : State) → expect kind.Comma t ≡ Ok (tt, u) → length u.at.left < length s.at.left
  arguments_shorter u e = kept_by (length s.at.left) (length t.at.left) (expect kind.Comma t) tt u e (expect_falls kind.Comma t) element_shorter

  -- the same, where the comma is recorded
  pub arguments_noted_shorter : (u v : State) (f : Fault) → expect kind.Comma t ≡ Ok (tt, u) → fault f u ≡ Ok (tt, v) → length v.at.left < length s.at.left
  arguments_noted_shorter u v f e k = kept_by (length s.at.left) (length u.at.left) (fault f u) tt v k (fault_falls f u) (arguments_shorter u e)

module _ (n : ℕ) (commas : Bool) (found : List Tree) (s : State) where
  pub arguments_done : sees kind.RParen s.at ≡ true → loop (arguments_turn (expr n) (cover n) commas) found s ≡ Ok (found, moved s)
  unfolding arguments_turn
  arguments_done e = loop_done (arguments_turn (expr n) (cover n) commas) found found s (moved s) (rw e refl)

  pub arguments_err : (e : Fault × State) → sees kind.RParen s.at ≡ false → element (expr n) (cover n) s ≡ Err e → loop (arguments_turn (expr n) (cover n) commas) found s ≡ Err e
  unfolding arguments_turn
  arguments_err e h g = loop_err (arguments_turn (expr n) (cover n) commas) found s e (rw (h, g) refl)

  pub arguments_last : (x : Tree) (t : State) → sees kind.RParen s.at ≡ false → element (expr n) (cover n) s ≡ Ok (x, t) → sees kind.RParen t.at ≡ true
      → loop (arguments_turn (expr n) (cover n) commas) found s ≡ loop (arguments_turn (expr n) (cover n) commas) (found ++ x ∷ []) t
  unfolding arguments_turn
  arguments_last x t h g e = loop_more (arguments_turn (expr n) (cover n) commas) found (found ++ x ∷ []) s t (rw (h, g, e) refl) (element_shorter n s x t g)

  pub arguments_comma_err : (x : Tree) (t : State) (e : Fault × State) → sees kind.RParen s.at ≡ false → element (expr n) (cover n) s ≡ Ok (x, t) → sees kind.RParen t.at ≡ false
      → expect kind.Comma t ≡ Err e → loop (arguments_turn (expr n) (cover n) commas) found s ≡ Err e
  unfolding arguments_turn
  arguments_comma_err x t e h g i k = loop_err (arguments_turn (expr n) (cover n) commas) found s e (rw (h, g, i, k) refl)

  -- behind an argument and a comma
  module _ (x : Tree) (t u : State) (no_end : sees kind.RParen s.at ≡ false) (found_element : element (expr n) (cover n) s ≡ Ok (x, t)) (no_end_behind : sees kind.RParen t.at ≡ false)
      (found_comma : expect kind.Comma t ≡ Ok (tt, u)) where
    comma_turn : arguments_turn (expr n) (cover n) commas found s ≡ behind_comma (expr n) (cover n) commas (found ++ x ∷ []) u
    unfolding arguments_turn
    comma_turn = rw (no_end, found_element, no_end_behind, found_comma) refl

    -- which may stand there
    pub arguments_more : (not commas && sees kind.RParen u.at) ≡ false
        → loop (arguments_turn (expr n) (cover n) commas) found s ≡ loop (arguments_turn (expr n) (cover n) commas) (found ++ x ∷ []) u
    arguments_more h = loop_more (arguments_turn (expr n) (cover n) commas) found (found ++ x ∷ []) s u (comma_turn ∙ (rw h refl)) (arguments_shorter n s x t found_element u found_comma)

    -- which is recorded
    module _ (out_of_place : (not commas && sees kind.RParen u.at) ≡ true) where
      pub arguments_noted : (v : State) → fault (fault_at u.at.last faults.TrailingCommaInsideImport) u ≡ Ok (tt, v)
          → loop (arguments_turn (expr n) (cover n) commas) found s ≡ loop (arguments_turn (expr n) (cover n) commas) (found ++ x ∷ []) v
      arguments_noted v k = loop_more (arguments_turn (expr n) (cover n) commas) found (found ++ x ∷ []) s v (comma_turn ∙ (rw (out_of_place, k) refl))
          (arguments_noted_shorter n s x t found_element u v _ found_comma k)

      pub arguments_note_err : (e : Fault × State) → fault (fault_at u.at.last faults.TrailingCommaInsideImport) u ≡ Err e
          → loop (arguments_turn (expr n) (cover n) commas) found s ≡ Err e
      arguments_note_err e k = loop_err (arguments_turn (expr n) (cover n) commas) found s e (comma_turn ∙ (rw (out_of_place, k) refl))

-- ---- elements: `]` ends them, and a comma with nothing before it stands behind a hole; behind each `]` stands, or a comma

-- the comma behind a hole
pub hole_shorter : (s : State) → sees kind.Comma s.at ≡ true → length (after s.at).left < length s.at.left
hole_shorter s e = let a = takes s.at (λ g. let k = sym g ∙ saw s.at kind.Comma e in cc) in omega arith

module _ (n : ℕ) (s : State) (v : Cover) (t : State) (found_item : item (expr n) (cover n) s ≡ Ok (v, t)) where
  pub item_shorter : length t.at.left < length s.at.left
  item_shorter = shorter_by (length s.at.left) (item (expr n) (cover n) s) v t found_item (item_falls (expr n) (cover n) (expr_falls n) (cover_falls n) s)

  -- an element and the comma behind it
  pub items_shorter : (u : State) → expect kind.Comma t ≡ Ok (tt, u) → length u.at.left < length s.at.left
  items_shorter u e = kept_by (length s.at.left) (length t.at.left) (expect kind.Comma t) tt u e (expect_falls kind.Comma t) item_shorter

module _ (n : ℕ) (found : Covers) (s : State) where
  pub elements_done : sees kind.RBracket s.at ≡ true → loop (array_turn (expr n) (cover n)) found s ≡ Ok (found, moved s)
  unfolding array_turn
  elements_done e = loop_done (array_turn (expr n) (cover n)) found found s (moved s) (rw e refl)

  pub elements_hole : sees kind.RBracket s.at ≡ false → sees kind.Comma s.at ≡ true
      → loop (array_turn (expr n) (cover n)) found s ≡ loop (array_turn (expr n) (cover n)) (with_cover found (done tree.absent)) (moved s)
  unfolding array_turn
  elements_hole h g = loop_more (array_turn (expr n) (cover n)) found (with_cover found (done tree.absent)) s (moved s) (rw (h, g) refl) (hole_shorter s g)

  pub elements_err : (e : Fault × State) → sees kind.RBracket s.at ≡ false → sees kind.Comma s.at ≡ false → item (expr n) (cover n) s ≡ Err e → loop (array_turn (expr n) (cover n)) found s ≡ Err e
  unfolding array_turn
  elements_err e h c g = loop_err (array_turn (expr n) (cover n)) found s e (rw (h, c, g) refl)

  pub elements_last : (v : Cover) (t : State) → sees kind.RBracket s.at ≡ false → sees kind.Comma s.at ≡ false → item (expr n) (cover n) s ≡ Ok (v, t) → sees kind.RBracket t.at ≡ true
      → loop (array_turn (expr n) (cover n)) found s ≡ loop (array_turn (expr n) (cover n)) (with_cover found v) t
  unfolding array_turn
  elements_last v t h c g e = loop_more (array_turn (expr n) (cover n)) found (with_cover found v) s t (rw (h, c, g, e) refl) (item_shorter n s v t g)

  pub elements_more : (v : Cover) (t u : State) → sees kind.RBracket s.at ≡ false → sees kind.Comma s.at ≡ false → item (expr n) (cover n) s ≡ Ok (v, t) → sees kind.RBracket t.at ≡ false
      → expect kind.Comma t ≡ Ok (tt, u)
      → loop (array_turn (expr n) (cover n)) found s ≡ loop (array_turn (expr n) (cover n)) (with_comma (sees kind.DotDotDot s.at) (with_cover found v)) u
  unfolding array_turn
  elements_more v t u h c g e k =
      loop_more (array_turn (expr n) (cover n)) found (with_comma (sees kind.DotDotDot s.at) (with_cover found v)) s u (rw (h, c, g, e, k) refl) (items_shorter n s v t g u k)

  pub elements_comma_err : (v : Cover) (t : State) (e : Fault × State) → sees kind.RBracket s.at ≡ false → sees kind.Comma s.at ≡ false → item (expr n) (cover n) s ≡ Ok (v, t)
      → sees kind.RBracket t.at ≡ false → expect kind.Comma t ≡ Err e → loop (array_turn (expr n) (cover n)) found s ≡ Err e
  unfolding array_turn
  elements_comma_err v t e h c g i k = loop_err (array_turn (expr n) (cover n)) found s e (rw (h, c, g, i, k) refl)

-- ---- properties: `}` ends them; behind each it stands, or a comma

module _ (n : ℕ) (s : State) (v : Cover) (t : State) (found_property : property (expr n) (cover n) (function n) s ≡ Ok (v, t)) where
  pub property_shorter : length t.at.left < length s.at.left
  property_shorter = shorter_by (length s.at.left) (property (expr n) (cover n) (function n) s) v t found_property (property_falls (expr n) (cover n) (expr_falls n) (cover_falls n) (function n) (functions_fall n) s)

  -- a property and the comma behind it
  pub properties_shorter : (u : State) → expect kind.Comma t ≡ Ok (tt, u) → length u.at.left < length s.at.left
  properties_shorter u e = kept_by (length s.at.left) (length t.at.left) (expect kind.Comma t) tt u e (expect_falls kind.Comma t) property_shorter

module _ (n : ℕ) (found : Covers) (s : State) where
  pub properties_done : sees kind.RBrace s.at ≡ true → loop (object_turn (expr n) (cover n) (function n)) found s ≡ Ok (found, moved s)
  unfolding object_turn
  properties_done e = loop_done (object_turn (expr n) (cover n) (function n)) found found s (moved s) (rw e refl)

  pub properties_err : (e : Fault × State) → sees kind.RBrace s.at ≡ false → property (expr n) (cover n) (function n) s ≡ Err e → loop (object_turn (expr n) (cover n) (function n)) found s ≡ Err e
  unfolding object_turn
  properties_err e h g = loop_err (object_turn (expr n) (cover n) (function n)) found s e (rw (h, g) refl)

  pub properties_last : (v : Cover) (t : State) → sees kind.RBrace s.at ≡ false → property (expr n) (cover n) (function n) s ≡ Ok (v, t) → sees kind.RBrace t.at ≡ true
      → loop (object_turn (expr n) (cover n) (function n)) found s ≡ loop (object_turn (expr n) (cover n) (function n)) (with_cover found v) t
  unfolding object_turn
  properties_last v t h g e = loop_more (object_turn (expr n) (cover n) (function n)) found (with_cover found v) s t (rw (h, g, e) refl) (property_shorter n s v t g)

  pub properties_more : (v : Cover) (t u : State) → sees kind.RBrace s.at ≡ false → property (expr n) (cover n) (function n) s ≡ Ok (v, t) → sees kind.RBrace t.at ≡ false → expect kind.Comma t ≡ Ok (tt, u)
      → loop (object_turn (expr n) (cover n) (function n)) found s ≡ loop (object_turn (expr n) (cover n) (function n)) (with_comma (sees kind.DotDotDot s.at) (with_cover found v)) u
  unfolding object_turn
  properties_more v t u h g e k =
      loop_more (object_turn (expr n) (cover n) (function n)) found (with_comma (sees kind.DotDotDot s.at) (with_cover found v)) s u (rw (h, g, e, k) refl) (properties_shorter n s v t g u k)

  pub properties_comma_err : (v : Cover) (t : State) (e : Fault × State) → sees kind.RBrace s.at ≡ false → property (expr n) (cover n) (function n) s ≡ Ok (v, t) → sees kind.RBrace t.at ≡ false
      → expect kind.Comma t ≡ Err e → loop (object_turn (expr n) (cover n) (function n)) found s ≡ Err e
  unfolding object_turn
  properties_comma_err v t e h g i k = loop_err (object_turn (expr n) (cover n) (function n)) found s e (rw (h, g, i, k) refl)

-- ---- parts in parentheses: a rest with its dots is the last; behind any other `)` stands, which ends them, or a comma, behind which `)` ends them too

module _ (n : ℕ) (s : State) (v : Cover) (t : State) (found_part : covered (expr n) (cover n) s ≡ Ok (v, t)) where
  pub part_shorter : length t.at.left < length s.at.left
  part_shorter = shorter_by (length s.at.left) (covered (expr n) (cover n) s) v t found_part (covered_falls (expr n) (cover n) (expr_falls n) (cover_falls n) s)

  -- a part and the comma behind it
  pub parts_shorter : (u : State) → expect kind.Comma t ≡ Ok (tt, u) → length u.at.left < length s.at.left
  parts_shorter u e = kept_by (length s.at.left) (length t.at.left) (expect kind.Comma t) tt u e (expect_falls kind.Comma t) part_shorter

module _ (n : ℕ) (found : List Cover) (s : State) where
  pub parts_rest : (g : Parts) (t : State) → sees kind.DotDotDot s.at ≡ true → rest_part (expr n) (function n) found s ≡ Ok (g, t) → loop (part_turn (expr n) (function n) (cover n)) found s ≡ Ok (g, t)
  unfolding part_turn
  parts_rest g t h e = loop_done (part_turn (expr n) (function n) (cover n)) found g s t (rw (h, e) refl)

  pub parts_rest_err : (e : Fault × State) → sees kind.DotDotDot s.at ≡ true → rest_part (expr n) (function n) found s ≡ Err e → loop (part_turn (expr n) (function n) (cover n)) found s ≡ Err e
  unfolding part_turn
  parts_rest_err e h g = loop_err (part_turn (expr n) (function n) (cover n)) found s e (rw (h, g) refl)

  pub parts_err : (e : Fault × State) → sees kind.DotDotDot s.at ≡ false → covered (expr n) (cover n) s ≡ Err e → loop (part_turn (expr n) (function n) (cover n)) found s ≡ Err e
  unfolding part_turn
  parts_err e h g = loop_err (part_turn (expr n) (function n) (cover n)) found s e (rw (h, g) refl)

  pub parts_last : (v : Cover) (t : State) → sees kind.DotDotDot s.at ≡ false → covered (expr n) (cover n) s ≡ Ok (v, t) → sees kind.RParen t.at ≡ true
      → loop (part_turn (expr n) (function n) (cover n)) found s ≡ Ok (ended (found ++ v ∷ []) false, t)
  unfolding part_turn
  parts_last v t h g e = loop_done (part_turn (expr n) (function n) (cover n)) found (ended (found ++ v ∷ []) false) s t (rw (h, g, e) refl)

  pub parts_comma_err : (v : Cover) (t : State) (e : Fault × State) → sees kind.DotDotDot s.at ≡ false → covered (expr n) (cover n) s ≡ Ok (v, t) → sees kind.RParen t.at ≡ false
      → expect kind.Comma t ≡ Err e → loop (part_turn (expr n) (function n) (cover n)) found s ≡ Err e
  unfolding part_turn
  parts_comma_err v t e h g i k = loop_err (part_turn (expr n) (function n) (cover n)) found s e (rw (h, g, i, k) refl)

  -- behind a part and a comma
  module _ (v : Cover) (t u : State) (no_rest : sees kind.DotDotDot s.at ≡ false) (found_part : covered (expr n) (cover n) s ≡ Ok (v, t)) (no_end_behind : sees kind.RParen t.at ≡ false)
      (found_comma : expect kind.Comma t ≡ Ok (tt, u)) where
    pub parts_comma_last : sees kind.RParen u.at ≡ true → loop (part_turn (expr n) (function n) (cover n)) found s ≡ Ok (ended (found ++ v ∷ []) true, u)
    unfolding part_turn
    parts_comma_last e = loop_done (part_turn (expr n) (function n) (cover n)) found (ended (found ++ v ∷ []) true) s u (rw (no_rest, found_part, no_end_behind, found_comma, e) refl)

    pub parts_more : sees kind.RParen u.at ≡ false → loop (part_turn (expr n) (function n) (cover n)) found s ≡ loop (part_turn (expr n) (function n) (cover n)) (found ++ v ∷ []) u
    unfolding part_turn
    parts_more e = loop_more (part_turn (expr n) (function n) (cover n)) found (found ++ v ∷ []) s u (rw (no_rest, found_part, no_end_behind, found_comma, e) refl)
        (parts_shorter n s v t found_part u found_comma)

-- ---- arguments that may still become parameters: `)` ends them; behind each it stands, or a comma

module _ (n : ℕ) (s : State) (a : Argument) (t : State) (found_argument : argument (expr n) (cover n) s ≡ Ok (a, t)) where
  pub argument_shorter : length t.at.left < length s.at.left
  argument_shorter = shorter_by (length s.at.left) (argument (expr n) (cover n) s) a t found_argument (argument_falls (expr n) (cover n) (expr_falls n) (cover_falls n) s)

  -- one and the comma behind it
  pub eithers_shorter : (u : State) → expect kind.Comma t ≡ Ok (tt, u) → length u.at.left < length s.at.left
  eithers_shorter u e = kept_by (length s.at.left) (length t.at.left) (expect kind.Comma t) tt u e (expect_falls kind.Comma t) argument_shorter

module _ (n : ℕ) (found : List Argument) (s : State) where
  pub either_done : sees kind.RParen s.at ≡ true → loop (either_turn (expr n) (cover n)) found s ≡ Ok (found, moved s)
  unfolding either_turn
  either_done e = loop_done (either_turn (expr n) (cover n)) found found s (moved s) (rw e refl)

  pub either_err : (e : Fault × State) → sees kind.RParen s.at ≡ false → argument (expr n) (cover n) s ≡ Err e → loop (either_turn (expr n) (cover n)) found s ≡ Err e
  unfolding either_turn
  either_err e h g = loop_err (either_turn (expr n) (cover n)) found s e (rw (h, g) refl)

  pub either_last : (a : Argument) (t : State) → sees kind.RParen s.at ≡ false → argument (expr n) (cover n) s ≡ Ok (a, t) → sees kind.RParen t.at ≡ true
      → loop (either_turn (expr n) (cover n)) found s ≡ loop (either_turn (expr n) (cover n)) (found ++ a ∷ []) t
  unfolding either_turn
  either_last a t h g e = loop_more (either_turn (expr n) (cover n)) found (found ++ a ∷ []) s t (rw (h, g, e) refl) (argument_shorter n s a t g)

  pub either_more : (a : Argument) (t u : State) → sees kind.RParen s.at ≡ false → argument (expr n) (cover n) s ≡ Ok (a, t) → sees kind.RParen t.at ≡ false → expect kind.Comma t ≡ Ok (tt, u)
      → loop (either_turn (expr n) (cover n)) found s ≡ loop (either_turn (expr n) (cover n)) (found ++ followed a ∷ []) u
  unfolding either_turn
  either_more a t u h g e k = loop_more (either_turn (expr n) (cover n)) found (found ++ followed a ∷ []) s u (rw (h, g, e, k) refl) (eithers_shorter n s a t g u k)

  pub either_comma_err : (a : Argument) (t : State) (e : Fault × State) → sees kind.RParen s.at ≡ false → argument (expr n) (cover n) s ≡ Ok (a, t) → sees kind.RParen t.at ≡ false
      → expect kind.Comma t ≡ Err e → loop (either_turn (expr n) (cover n)) found s ≡ Err e
  unfolding either_turn
  either_comma_err a t e h g i k = loop_err (either_turn (expr n) (cover n)) found s e (rw (h, g, i, k) refl)

-- ---- left-hand sides: an access, a template, arguments and links of chains where calls are read, or none of them

module _ (n : ℕ) (start : Span) (x : Tree) (s : State) (y : Tree) (t : State) where
  pub accessed_shorter : accessed (expr n) (cover n) start x s ≡ Ok (y, t) → length t.at.left < length s.at.left
  accessed_shorter e = shorter_by (length s.at.left) (accessed (expr n) (cover n) start x s) y t e (accessed_falls (expr n) (cover n) (expr_falls n) (cover_falls n) start x s)

  pub called_shorter : sees kind.LParen s.at ≡ true → called (expr n) (cover n) start x s ≡ Ok (y, t) → length t.at.left < length s.at.left
  called_shorter h e = shorter_by (length s.at.left) (called (expr n) (cover n) start x s) y t e (called_falls (expr n) (cover n) (expr_falls n) (cover_falls n) start x s (λ g. let k = sym g ∙ saw s.at kind.LParen h in cc))

  pub tagged_shorter : tagged (expr n) (cover n) start x s ≡ Ok (y, t) → length t.at.left < length s.at.left
  tagged_shorter e = shorter_by (length s.at.left) (tagged (expr n) (cover n) start x s) y t e (tagged_falls (expr n) (cover n) (expr_falls n) (cover_falls n) start x s)

  pub chained_shorter : sees kind.QuestionDot s.at ≡ true → chained (expr n) (cover n) start x s ≡ Ok (y, t) → length t.at.left < length s.at.left
  chained_shorter h e = shorter_by (length s.at.left) (chained (expr n) (cover n) start x s) y t e
      (chained_falls (expr n) (cover n) (expr_falls n) (cover_falls n) start x s (λ g. let k = sym g ∙ saw s.at kind.QuestionDot h in cc))

module _ (n : ℕ) (calls : Bool) (start : Span) (x : Tree) (s : State) where
  pub left_done : (sees kind.Dot s.at || sees kind.LBracket s.at) ≡ false → (calls && sees kind.LParen s.at) ≡ false → begins_template s.at ≡ false → (calls && sees kind.QuestionDot s.at) ≡ false
      → loop (left_turn (expr n) (cover n) calls start) x s ≡ Ok (x, s)
  unfolding left_turn
  left_done h g i k = loop_done (left_turn (expr n) (cover n) calls start) x x s s (rw (h, g, i, k) refl)

  pub left_accessed : (y : Tree) (t : State) → (sees kind.Dot s.at || sees kind.LBracket s.at) ≡ true → accessed (expr n) (cover n) start x s ≡ Ok (y, t)
      → loop (left_turn (expr n) (cover n) calls start) x s ≡ loop (left_turn (expr n) (cover n) calls start) (linked x y) t
  unfolding left_turn
  left_accessed y t h e = loop_more (left_turn (expr n) (cover n) calls start) x (linked x y) s t (rw (h, e) refl) (accessed_shorter n start x s y t e)

  pub left_access_err : (e : Fault × State) → (sees kind.Dot s.at || sees kind.LBracket s.at) ≡ true → accessed (expr n) (cover n) start x s ≡ Err e → loop (left_turn (expr n) (cover n) calls start) x s ≡ Err e
  unfolding left_turn
  left_access_err e h g = loop_err (left_turn (expr n) (cover n) calls start) x s e (rw (h, g) refl)

  pub left_called : (y : Tree) (t : State) → (sees kind.Dot s.at || sees kind.LBracket s.at) ≡ false → (calls && sees kind.LParen s.at) ≡ true → called (expr n) (cover n) start x s ≡ Ok (y, t)
      → loop (left_turn (expr n) (cover n) calls start) x s ≡ loop (left_turn (expr n) (cover n) calls start) (linked x y) t
  unfolding left_turn
  left_called y t h g e = loop_more (left_turn (expr n) (cover n) calls start) x (linked x y) s t (rw (h, g, e) refl) (called_shorter n start x s y t (and_parts calls (sees kind.LParen s.at) g).1 e)

  pub left_call_err : (e : Fault × State) → (sees kind.Dot s.at || sees kind.LBracket s.at) ≡ false → (calls && sees kind.LParen s.at) ≡ true → called (expr n) (cover n) start x s ≡ Err e
      → loop (left_turn (expr n) (cover n) calls start) x s ≡ Err e
  unfolding left_turn
  left_call_err e h g k = loop_err (left_turn (expr n) (cover n) calls start) x s e (rw (h, g, k) refl)

  -- neither an access nor arguments
  module _ (no_access : (sees kind.Dot s.at || sees kind.LBracket s.at) ≡ false) (no_call : (calls && sees kind.LParen s.at) ≡ false) where
    pub left_tagged : (y : Tree) (t : State) → begins_template s.at ≡ true → tagged (expr n) (cover n) start x s ≡ Ok (y, t)
        → loop (left_turn (expr n) (cover n) calls start) x s ≡ loop (left_turn (expr n) (cover n) calls start) y t
    unfolding left_turn
    left_tagged y t h e = loop_more (left_turn (expr n) (cover n) calls start) x y s t (rw (no_access, no_call, h, e) refl) (tagged_shorter n start x s y t e)

    pub left_tag_err : (e : Fault × State) → begins_template s.at ≡ true → tagged (expr n) (cover n) start x s ≡ Err e → loop (left_turn (expr n) (cover n) calls start) x s ≡ Err e
    unfolding left_turn
    left_tag_err e h g = loop_err (left_turn (expr n) (cover n) calls start) x s e (rw (no_access, no_call, h, g) refl)

    module _ (no_template : begins_template s.at ≡ false) (link : (calls && sees kind.QuestionDot s.at) ≡ true) where
      pub left_chained : (y : Tree) (t : State) → chained (expr n) (cover n) start x s ≡ Ok (y, t)
          → loop (left_turn (expr n) (cover n) calls start) x s ≡ loop (left_turn (expr n) (cover n) calls start) y t
      unfolding left_turn
      left_chained y t e = loop_more (left_turn (expr n) (cover n) calls start) x y s t (rw (no_access, no_call, no_template, link, e) refl)
          (chained_shorter n start x s y t (and_parts calls (sees kind.QuestionDot s.at) link).1 e)

      pub left_chain_err : (e : Fault × State) → chained (expr n) (cover n) start x s ≡ Err e → loop (left_turn (expr n) (cover n) calls start) x s ≡ Err e
      unfolding left_turn
      left_chain_err e g = loop_err (left_turn (expr n) (cover n) calls start) x s e (rw (no_access, no_call, no_template, link, g) refl)

-- ---- templates: an expression, and the text behind it, which may be the last

module _ (n : ℕ) (is_tagged : Bool) (found : Pieces) (s : State) where
  pub pieces_err : (e : Fault × State) → inside (expr n) (cover n) expression s ≡ Err e → loop (template_turn (expr n) (cover n) is_tagged) found s ≡ Err e
  unfolding template_turn
  pieces_err e h = loop_err (template_turn (expr n) (cover n) is_tagged) found s e (rw h refl)

  module _ (x : Tree) (t : State) (found_expression : inside (expr n) (cover n) expression s ≡ Ok (x, t)) where
    pub pieces_refused : (e : Fault × State) → (sees kind.TemplateMiddle t.at || sees kind.TemplateTail t.at) ≡ false → refuse {A = Step Pieces Pieces} faults.Expected t ≡ Err e
        → loop (template_turn (expr n) (cover n) is_tagged) found s ≡ Err e
    unfolding template_turn
    pieces_refused e h g = loop_err (template_turn (expr n) (cover n) is_tagged) found s e (rw (found_expression, h, g) refl)

    module _ (a_text : (sees kind.TemplateMiddle t.at || sees kind.TemplateTail t.at) ≡ true) where
      pub pieces_text_err : (e : Fault × State) → template_text is_tagged t ≡ Err e → loop (template_turn (expr n) (cover n) is_tagged) found s ≡ Err e
      unfolding template_turn
      pieces_text_err e g = loop_err (template_turn (expr n) (cover n) is_tagged) found s e (rw (found_expression, a_text, g) refl)

      module _ (q : Tree) (u : State) (found_text : template_text is_tagged t ≡ Ok (q, u)) where
        pub pieces_done : is_tail q ≡ true → loop (template_turn (expr n) (cover n) is_tagged) found s ≡ Ok (with_piece found x q, u)
        unfolding template_turn
        pieces_done g = loop_done (template_turn (expr n) (cover n) is_tagged) found (with_piece found x q) s u (rw (found_expression, a_text, found_text, g) refl)

        piece_shorter : length u.at.left < length s.at.left
        piece_shorter = kept_by (length s.at.left) (length t.at.left) (template_text is_tagged t) q u found_text (less (length t.at.left) (template_text is_tagged t) (text_falls is_tagged t))
            (shorter_by (length s.at.left) (inside (expr n) (cover n) expression s) x t found_expression (inside_falls (expr n) (cover n) (expr_falls n) (cover_falls n) expression s))

        pub pieces_more : is_tail q ≡ false
            → loop (template_turn (expr n) (cover n) is_tagged) found s ≡ loop (template_turn (expr n) (cover n) is_tagged) (with_piece found x q) u
        unfolding template_turn
        pieces_more g = loop_more (template_turn (expr n) (cover n) is_tagged) found (with_piece found x q) s u (rw (found_expression, a_text, found_text, g) refl) piece_shorter

-- ---- operators that bind at least so tightly

module _ (inner : Class → Reader Tree) (covers : Reader Cover) (inner_falls : (class : Class) (s : State) → Falls 1 (length s.at.left) (inner class s))
    (covers_fall : (s : State) → Falls 1 (length s.at.left) (covers s)) (start : Span) (x : Tree) (s : State) where
  pub operated_shorter : (op : BinaryOp) (y : Tree) (t : State) → operated inner covers start x op s ≡ Ok (y, t) → length t.at.left < length s.at.left
  operated_shorter op y t e = shorter_by (length s.at.left) (operated inner covers start x op s) y t e (operated_falls inner covers inner_falls covers_fall start x op s)

  module _ (least : ℕ) where
    pub binary_done : operator_at least s ≡ None → loop (binary_turn inner covers least start) x s ≡ Ok (x, s)
    unfolding binary_turn
    binary_done e = loop_done (binary_turn inner covers least start) x x s s (rw e refl)

    pub binary_more : (op : BinaryOp) (y : Tree) (t : State) → operator_at least s ≡ Some op → operated inner covers start x op s ≡ Ok (y, t)
        → loop (binary_turn inner covers least start) x s ≡ loop (binary_turn inner covers least start) y t
    unfolding binary_turn
    binary_more op y t h e = loop_more (binary_turn inner covers least start) x y s t (rw (h, e) refl) (operated_shorter op y t e)

    pub binary_err : (op : BinaryOp) (e : Fault × State) → operator_at least s ≡ Some op → operated inner covers start x op s ≡ Err e → loop (binary_turn inner covers least start) x s ≡ Err e
    unfolding binary_turn
    binary_err op e h g = loop_err (binary_turn inner covers least start) x s e (rw (h, g) refl)

-- ---- sequences: a turn begins with the comma

pub assignment_shorter : (n : ℕ) (s : State) (x : Tree) (t : State) → assignment_expr (expr n) (cover n) (function n) s ≡ Ok (x, t) → length t.at.left < length s.at.left
assignment_shorter n s x t e = shorter_by (length s.at.left) (assignment_expr (expr n) (cover n) (function n) s) x t e (assignment_falls (expr n) (cover n) (expr_falls n) (cover_falls n) (function n) (functions_fall n) s)

pub sequence_shorter : (n : ℕ) (s : State) (x : Tree) (t : State) → assignment_expr (expr n) (cover n) (function n) (moved s) ≡ Ok (x, t) → length t.at.left < length s.at.left
sequence_shorter n s x t e = let a : length t.at.left < length (after s.at).left = assignment_shorter n (moved s) x t e in let b = moves s.at in omega arith

module _ (n : ℕ) (found : List Tree) (s : State) where
  pub sequence_err : (e : Fault × State) → assignment_expr (expr n) (cover n) (function n) (moved s) ≡ Err e → loop (sequence_turn (expr n) (cover n) (function n)) found s ≡ Err e
  unfolding sequence_turn
  sequence_err e h = loop_err (sequence_turn (expr n) (cover n) (function n)) found s e (rw h refl)

  pub sequence_done : (x : Tree) (t : State) → assignment_expr (expr n) (cover n) (function n) (moved s) ≡ Ok (x, t) → sees kind.Comma t.at ≡ false → loop (sequence_turn (expr n) (cover n) (function n)) found s ≡ Ok (found ++ x ∷ [], t)
  unfolding sequence_turn
  sequence_done x t h e = loop_done (sequence_turn (expr n) (cover n) (function n)) found (found ++ x ∷ []) s t (rw (h, e) refl)

  pub sequence_more : (x : Tree) (t : State) → assignment_expr (expr n) (cover n) (function n) (moved s) ≡ Ok (x, t) → sees kind.Comma t.at ≡ true
      → loop (sequence_turn (expr n) (cover n) (function n)) found s ≡ loop (sequence_turn (expr n) (cover n) (function n)) (found ++ x ∷ []) t
  unfolding sequence_turn
  sequence_more x t h e = loop_more (sequence_turn (expr n) (cover n) (function n)) found (found ++ x ∷ []) s t (rw (h, e) refl) (sequence_shorter n s x t h)

-- ---- levels, where a number is 0 or not

pub deeper : {X : Type 0} (f : ℕ → X) (n : ℕ) → 0 < n → f n ≡ f (suc (n - 1))
deeper f n some = let e : n ≡ suc (n - 1) = omega arith in ap f e

pub expr_lowest : (n : ℕ) (class : Class) (s : State) → n ≡ 0 → expr n class s ≡ too_deep s
unfolding expr
expr_lowest n class s e = rw e refl

pub expr_above : (n : ℕ) (class : Class) (s : State) → 0 < n → expr n class s ≡ expr_level (expr (n - 1)) (cover (n - 1)) (function (n - 1)) class s
unfolding function expr
expr_above n class s h = deeper (λ k. expr k class s) n h

pub right_operand_lowest : (n : ℕ) (class : Class) (s : State) → n ≡ 0 → right_operand n class s ≡ too_deep s
unfolding right_operand
right_operand_lowest n class s e = rw e refl

pub right_operand_above : (n : ℕ) (class : Class) (s : State) → 0 < n → right_operand n class s ≡ expr (n - 1) class s
unfolding right_operand
right_operand_above n class s h = deeper (λ k. right_operand k class s) n h

pub cover_lowest : (n : ℕ) (s : State) → n ≡ 0 → cover n s ≡ too_deep s
unfolding cover
cover_lowest n s e = rw e refl

pub cover_above : (n : ℕ) (s : State) → 0 < n → cover n s ≡ cover_expr (expr (n - 1)) (cover (n - 1)) (function (n - 1)) s
unfolding function cover
cover_above n s h = deeper (λ k. cover k s) n h

pub head_lowest : (n : ℕ) (s : State) → n ≡ 0 → head_cover n s ≡ too_deep s
unfolding head_cover
head_lowest n s e = rw e refl

pub head_above : (n : ℕ) (s : State) → 0 < n → head_cover n s ≡ head_expr (expr (n - 1)) (cover (n - 1)) (function (n - 1)) s
unfolding function head_cover
head_above n s h = deeper (λ k. head_cover k s) n h

pub behind_lowest : (n : ℕ) (start : Span) (s : State) → n ≡ 0 → head_behind n start s ≡ too_deep s
unfolding head_behind
behind_lowest n start s e = rw e refl

pub behind_above : (n : ℕ) (start : Span) (s : State) → 0 < n → head_behind n start s ≡ head_behind_async (expr (n - 1)) (cover (n - 1)) (function (n - 1)) start s
unfolding function head_behind
behind_above n start s h = deeper (λ k. head_behind k start s) n h
