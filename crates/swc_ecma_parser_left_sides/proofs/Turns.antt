-- The turns of what goes on with an expression, in which an access or a call may be a link of an optional chain.
use Rattle.std.proofs.Common.{◌≡◌, ℕ, ◌<◌, Bool, true, false, length, Ok, Err, refl, ap, ◌∙◌}
use Rattle.std.specs.Prelude.{◌&&◌, ◌||◌}
use Rattle.std.proofs.lemmas.Bool.{and_parts}
use Rattle.swc_ecma_parser_common.specs.declared.span.Span.{Span}
use Rattle.swc_ecma_parser_error.specs.Kind.{Fault}
use Rattle.swc_ecma_parser_token.specs.declared.kind.TokenKind.TheVariants as kind
use Rattle.swc_ecma_parser_model.specs.Tree.{Tree}
use Rattle.swc_ecma_parser_grammar.specs.Looks.{sees}
use Rattle.swc_ecma_parser_reader.specs.Expressions.{accessed, called, linked, left_turn}
use Rattle.swc_ecma_parser_reader.specs.Reader.{expr, cover}
use Rattle.swc_ecma_parser_reader.specs.State.{State, Outcome, loop}
use Rattle.swc_ecma_parser_reader.proofs.expressions.Loops.{left_accessed, left_access_err, left_called, left_call_err, accessed_shorter, called_shorter}
use Rattle.swc_ecma_parser_model.specs.Forms.{is_chain}
use Rattle.swc_ecma_parser_left_sides.specs.Chains.{as_link, linked_to}

-- behind what is no chain it stays what it is
pub unlinked : (x : Tree) (o : Outcome Tree) → is_chain x ≡ false → linked_to x o ≡ o
unlinked x (Ok p) h = rw h refl
unlinked x (Err e) h = refl

-- behind a chain it is a link
pub relinked : (x : Tree) (o : Outcome Tree) → is_chain x ≡ true → linked_to x o ≡ as_link false o
relinked x (Ok p) h = rw h refl
relinked x (Err e) h = refl

-- what an answer holds
abbrev pair : Tree → State → Tree × State
pair x s = (x, s)

abbrev answer : Tree × State → Outcome Tree
answer p = Ok p

parts : (u : Tree) (v : State) (z : Tree) (t : State) → answer (pair u v) ≡ answer (pair z t) → (u ≡ z) × (v ≡ t)
parts u v z t h =
    let p : pair u v ≡ pair z t = cc in
    (ap (λ w. w.0) p, ap (λ w. w.1) p)

-- what was read, and what it is behind an expression
read : (x : Tree) (o : Outcome Tree) (z : Tree) (t : State) → linked_to x o ≡ Ok (z, t) → (y : Tree) × ((o ≡ Ok (y, t)) × (linked x y ≡ z))
read x (Ok p) z t h =
    let (a, b) = parts (linked x p.0) p.1 z t h in
    (p.0, (ap (λ (u : State). Ok (p.0, u)) b, a))
read x (Err e) z t h = cc

refused : (x : Tree) (o : Outcome Tree) (e : Fault × State) → linked_to x o ≡ Err e → o ≡ Err e
refused x (Ok p) e h = cc
refused x (Err d) e h = let k : d ≡ e = cc in rw k refl

module _ (n : ℕ) (calls : Bool) (start : Span) (x : Tree) (s : State) where
  pub access_more : (z : Tree) (t : State) → (sees kind.Dot s.at || sees kind.LBracket s.at) ≡ true → linked_to x (accessed (expr n) (cover n) start x s) ≡ Ok (z, t)
      → loop (left_turn (expr n) (cover n) calls start) x s ≡ loop (left_turn (expr n) (cover n) calls start) z t
  access_more z t b h =
      let (y, p) = read x (accessed (expr n) (cover n) start x s) z t h in
      left_accessed n calls start x s y t b p.0 ∙ ap (λ w. loop (left_turn (expr n) (cover n) calls start) w t) p.1

  pub access_err : (e : Fault × State) → (sees kind.Dot s.at || sees kind.LBracket s.at) ≡ true → linked_to x (accessed (expr n) (cover n) start x s) ≡ Err e
      → loop (left_turn (expr n) (cover n) calls start) x s ≡ Err e
  access_err e b h = left_access_err n calls start x s e b (refused x (accessed (expr n) (cover n) start x s) e h)

  pub call_more : (z : Tree) (t : State) → (sees kind.Dot s.at || sees kind.LBracket s.at) ≡ false → (calls && sees kind.LParen s.at) ≡ true
      → linked_to x (called (expr n) (cover n) start x s) ≡ Ok (z, t)
      → loop (left_turn (expr n) (cover n) calls start) x s ≡ loop (left_turn (expr n) (cover n) calls start) z t
  call_more z t a b h =
      let (y, p) = read x (called (expr n) (cover n) start x s) z t h in
      left_called n calls start x s y t a b p.0 ∙ ap (λ w. loop (left_turn (expr n) (cover n) calls start) w t) p.1

  pub call_err : (e : Fault × State) → (sees kind.Dot s.at || sees kind.LBracket s.at) ≡ false → (calls && sees kind.LParen s.at) ≡ true
      → linked_to x (called (expr n) (cover n) start x s) ≡ Err e
      → loop (left_turn (expr n) (cover n) calls start) x s ≡ Err e
  call_err e a b h = left_call_err n calls start x s e a b (refused x (called (expr n) (cover n) start x s) e h)

module _ (n : ℕ) (start : Span) (x : Tree) (s : State) (z : Tree) (t : State) where
  pub access_shorter : linked_to x (accessed (expr n) (cover n) start x s) ≡ Ok (z, t) → length t.at.left < length s.at.left
  access_shorter h =
      let (y, p) = read x (accessed (expr n) (cover n) start x s) z t h in
      accessed_shorter n start x s y t p.0

  pub call_shorter : sees kind.LParen s.at ≡ true → linked_to x (called (expr n) (cover n) start x s) ≡ Ok (z, t) → length t.at.left < length s.at.left
  call_shorter b h =
      let (y, p) = read x (called (expr n) (cover n) start x s) z t h in
      called_shorter n start x s y t b p.0
