-- The turns of the loop over names in braces, in the shapes that a loop over tokens meets them.
use Rattle.std.proofs.Common.{◌≡◌, ◌<◌, true, false, List, [], ◌∷◌, ◌++◌, length, Ok, Err, refl, arith}
use Rattle.swc_ecma_parser_error.specs.Kind.{Fault}
use Rattle.swc_ecma_parser_token.specs.declared.kind.TokenKind.TheVariants as kind
use Rattle.swc_ecma_parser_model.specs.Tree.{Tree}
use Rattle.swc_ecma_parser_grammar.specs.Looks.{sees}
use Rattle.swc_ecma_parser_reader.specs.State.{State, Reader, moved, loop}
use Rattle.swc_ecma_parser_reader.proofs.Steps.{loop_more, loop_done, loop_err}
use Rattle.swc_ecma_parser_reader.proofs.Takes.{moves}
use Rattle.swc_ecma_parser_module_reader.specs.Imports.{specifiers_turn}

-- `}` stands there, a name is refused, one is read with a comma behind it, and one without
module _ (specifier : Reader Tree) (found : List Tree) (s : State) where
  pub specifiers_stop : sees kind.RBrace s.at ≡ true → loop (specifiers_turn specifier) found s ≡ Ok (found, s)
  unfolding specifiers_turn
  specifiers_stop e = loop_done (specifiers_turn specifier) found found s s (rw e refl)

  pub specifiers_err : (e : Fault × State) → sees kind.RBrace s.at ≡ false → specifier s ≡ Err e → loop (specifiers_turn specifier) found s ≡ Err e
  unfolding specifiers_turn
  specifiers_err e h g = loop_err (specifiers_turn specifier) found s e (rw (h, g) refl)

  pub specifiers_more : (x : Tree) (t : State) → sees kind.RBrace s.at ≡ false → specifier s ≡ Ok (x, t) → sees kind.Comma t.at ≡ true → length t.at.left < length s.at.left
      → loop (specifiers_turn specifier) found s ≡ loop (specifiers_turn specifier) (found ++ x ∷ []) (moved t)
  unfolding specifiers_turn
  specifiers_more x t h g e l =
      loop_more (specifiers_turn specifier) found (found ++ x ∷ []) s (moved t) (rw (h, g, e) refl) (let m = moves t.at in omega arith)

  pub specifiers_last : (x : Tree) (t : State) → sees kind.RBrace s.at ≡ false → specifier s ≡ Ok (x, t) → sees kind.Comma t.at ≡ false
      → loop (specifiers_turn specifier) found s ≡ Ok (found ++ x ∷ [], t)
  unfolding specifiers_turn
  specifiers_last x t h g e = loop_done (specifiers_turn specifier) found (found ++ x ∷ []) s t (rw (h, g, e) refl)
