-- A regular expression, a template and each text of one takes a token at least; what stands behind `new` and `.`, and `in` behind a
-- private name, puts none back.
use Rattle.std.proofs.Common.{◌≡◌, Bool, true, false, List, [], ◌∷◌, length, Option, Some, None, refl, arith}
use Rattle.std.specs.Prelude.{◌&&◌, ◌||◌, codes}
use Rattle.swc_ecma_parser_common.specs.declared.span.Span.{Span}
use Rattle.swc_ecma_parser_error.specs.Kind as faults
use Rattle.swc_ecma_parser_token.specs.declared.kind.TokenKind.TheVariants as kind
use Rattle.swc_ecma_parser_token.specs.declared.token.TokenAndSpan.{TokenAndSpan}
use Rattle.swc_ecma_parser_input.specs.Place.{after}
use Rattle.swc_ecma_parser_model.specs.Tree.{Tree}
use Rattle.swc_ecma_parser_grammar.specs.Looks.{sees}
use Rattle.swc_ecma_parser_grammar.specs.Follows.{word_at}
use Rattle.swc_ecma_parser_grammar.specs.language.Goals.{Class, expression}
use Rattle.swc_ecma_parser_reader.specs.State.{State, Reader, moved}
use Rattle.swc_ecma_parser_reader.specs.Expressions.{Cover, Pieces, new_target, in_word, regex, regex_in, regex_or, text_in, text_or, template_text, is_tail, is_cooked, first_piece, inside, template_turn, template_from, template_pieces, template}
use Rattle.swc_ecma_parser_reader.proofs.Takes.{Falls, moves, falls_last, falls_next, falls_if, less, weaker, takes_one, wanted_falls, refuse_falls, reject_falls, loop_falls}

regex_takes : (s : State) (ts : List TokenAndSpan) (o : Option Tree) → s.at.left ≡ ts → regex_in ts ≡ o → Falls 1 (length s.at.left) (regex_or o s)
regex_takes s ts None e h = wanted_falls Tree 1 (length s.at.left) faults.Unexpected s
regex_takes s [] (Some x) e h = cc
regex_takes s (t ∷ ts) (Some x) e h = takes_one s.at t ts e

pub regex_falls : (s : State) → Falls 1 (length s.at.left) (regex s)
unfolding regex
regex_falls s = regex_takes s s.at.left (regex_in s.at.left) refl refl

text_takes : (is_tagged : Bool) (s : State) (ts : List TokenAndSpan) (o : Option Tree) → s.at.left ≡ ts → text_in ts ≡ o → Falls 1 (length s.at.left) (text_or is_tagged o s)
text_takes is_tagged s ts None e h = wanted_falls Tree 1 (length s.at.left) faults.Unexpected s
text_takes is_tagged s [] (Some q) e h = cc
text_takes is_tagged s (t ∷ ts) (Some q) e h = weaker 1 0 (length s.at.left) (length (after s.at).left) _ (takes_one s.at t ts e)
    (falls_if 0 (length (after s.at).left) (is_tagged || is_cooked q) _ _ (omega arith) (reject_falls Tree 0 (length (after s.at).left) _ (moved s)))

pub text_falls : (is_tagged : Bool) (s : State) → Falls 1 (length s.at.left) (template_text is_tagged s)
unfolding template_text
text_falls is_tagged s = text_takes is_tagged s s.at.left (text_in s.at.left) refl refl

pub new_target_falls : (start : Span) (s : State) → Falls 0 (length s.at.left) (new_target start s)
unfolding new_target
new_target_falls start s = falls_if 0 (length s.at.left) (word_at (codes "target") s.at) _ _ (let m = moves s.at in omega arith) (wanted_falls Tree 0 (length s.at.left) faults.Unexpected s)

pub in_word_falls : (s : State) → Falls 0 (length s.at.left) (in_word s)
unfolding in_word
in_word_falls s = falls_if 0 (length s.at.left) (sees kind.In s.at && s.code.flags.include_in_expr) _ _ (let m = moves s.at in omega arith) (wanted_falls (Unit {0}) 0 (length s.at.left) faults.Unexpected s)

module _ (inner : Class → Reader Tree) (cover : Reader Cover) (expression_falls : (s : State) → Falls 1 (length s.at.left) (inside inner cover expression s)) where
  pub template_turn_falls : (is_tagged : Bool) (found : Pieces) (s : State) → Falls 1 (length s.at.left) (template_turn inner cover is_tagged found s)
  unfolding template_turn
  template_turn_falls is_tagged found s = falls_next (length s.at.left) (inside inner cover expression s) _ (expression_falls s) (λ e t.
      falls_if 0 (length t.at.left) (sees kind.TemplateMiddle t.at || sees kind.TemplateTail t.at) _ _
      (falls_last 0 (length t.at.left) (template_text is_tagged t) _ (less (length t.at.left) (template_text is_tagged t) (text_falls is_tagged t)))
      (refuse_falls _ 0 (length t.at.left) faults.Expected t))

  template_from_falls : (is_tagged : Bool) (q : Tree) (b : Bool) (s : State) → is_tail q ≡ b → Falls 0 (length s.at.left) (template_from inner cover is_tagged q s)
  template_from_falls is_tagged q true s e = rw e (omega arith)
  template_from_falls is_tagged q false s e = rw e (loop_falls (template_turn inner cover is_tagged)
      (λ found t. less (length t.at.left) (template_turn inner cover is_tagged found t) (template_turn_falls is_tagged found t)) (first_piece q) s)

  pub pieces_fall : (is_tagged : Bool) (s : State) → Falls 1 (length s.at.left) (template_pieces inner cover is_tagged s)
  unfolding template_pieces
  pieces_fall is_tagged s = falls_next (length s.at.left) (template_text is_tagged s) _ (text_falls is_tagged s) (λ q t. template_from_falls is_tagged q (is_tail q) t refl)

  pub template_falls : (s : State) → Falls 1 (length s.at.left) (template inner cover s)
  unfolding template
  template_falls s = falls_last 1 (length s.at.left) (template_pieces inner cover false s) _ (pieces_fall false s)
