-- A chain of `else if`: enough links are as good as more, so it is a link and the chain behind it.
use Rattle.std.proofs.Common.{◌≡◌, ℕ, zero, suc, ◌+◌, ◌≤◌, ◌<◌, Bool, true, false, cond, length, Ok, Err, refl, ◌∙◌, ap, subst, arith}
use Rattle.swc_ecma_parser_error.specs.Kind.{Fault}
use Rattle.swc_ecma_parser_token.specs.declared.kind.TokenKind.TheVariants as kind
use Rattle.swc_ecma_parser_input.specs.Place.{after}
use Rattle.swc_ecma_parser_model.specs.Tree.{Tree}
use Rattle.swc_ecma_parser_grammar.specs.Looks.{kind_at}
use Rattle.swc_ecma_parser_grammar.specs.language.Goals.{expression}
use Rattle.swc_ecma_parser_grammar.specs.language.Items.{sub_statement}
use Rattle.swc_ecma_parser_reader.specs.State.{State, Outcome, Reader, and_then, moved}
use Rattle.swc_ecma_parser_reader.specs.Reader.{Link, goes_on, closed_link, alternative, link, behind_link, links, if_stmt, stmt, expr}
use Rattle.swc_ecma_parser_reader.proofs.Steps.{same_if}
use Rattle.swc_ecma_parser_reader.proofs.Takes.{Falls, takes}
use Rattle.swc_ecma_parser_reader.proofs.FallsIf.{link_falls}
use Rattle.swc_ecma_parser_reader.proofs.Falls.{stmt_falls, expr_falls}
use Rattle.swc_ecma_parser_reader.proofs.Opens.{chain_goes}

-- what follows a step may be whatever agrees with it where the step went well
then_same : {A B : Type 0} (o : Outcome A) (f g : A → Reader B) → ((a : A) (t : State) → o ≡ Ok (a, t) → f a t ≡ g a t) → and_then o f ≡ and_then o g
then_same (Ok p) f g h = h p.0 p.1 refl
then_same (Err e) f g h = refl

if_false : {X : Type 0} (b : Bool) (x y : X) → b ≡ false → cond b x y ≡ y
if_false b x y e = ap (λ v. cond v x y) e

if_true : {X : Type 0} (b : Bool) (x y : X) → b ≡ true → cond b x y ≡ x
if_true b x y e = ap (λ v. cond v x y) e

module _ (inner : Reader Tree) (h : (s : State) → Falls 1 (length s.at.left) (inner s)) (inner_expr : Reader Tree) (g : (s : State) → Falls 1 (length s.at.left) (inner_expr s)) where
  -- the next link begins with fewer tokens
  next_shorter : (s : State) (l : Link) (t : State) → link inner inner_expr s ≡ Ok (l, t) → goes_on t.at ≡ true → length (after t.at).left < length s.at.left
  next_shorter s l t e b =
      let a : length t.at.left + 0 ≤ length s.at.left = subst (Falls 0 (length s.at.left)) e (link_falls inner h inner_expr g s) in
      let k : kind_at t.at ≡ kind.Else = (chain_goes t.at b).0 in
      let c = takes t.at (λ z. cc) in omega arith

  links_enough : (m n : ℕ) (s : State) → length s.at.left < m → length s.at.left < n → links inner inner_expr m s ≡ links inner inner_expr n s
  unfolding links
  links_enough zero n s a b = absurd (omega arith)
  links_enough (suc m) zero s a b = absurd (omega arith)
  links_enough (suc m) (suc n) s a b = then_same (link inner inner_expr s) _ _ (λ l t e. same_if (goes_on t.at) _ _ _ (λ c.
      let d = next_shorter s l t e c in ap (λ o. and_then o (closed_link l)) (links_enough m n (moved t) (omega arith) (omega arith))))

  if_is : (s : State) → if_stmt inner inner_expr s ≡ and_then (link inner inner_expr s) (behind_link inner inner_expr (if_stmt inner inner_expr))
  unfolding if_stmt links
  if_is s = then_same (link inner inner_expr s) _ _ (λ l t e. same_if (goes_on t.at) _ _ _ (λ c.
      ap (λ o. and_then o (closed_link l)) (links_enough (length s.at.left) (suc (length (after t.at).left)) (moved t) (next_shorter s l t e c) (omega arith))))

-- a link fails, is the last, or has one behind it
module _ (n : ℕ) (s : State) where
  behind : Link → Reader Tree
  behind = behind_link (stmt n sub_statement) (expr n expression) (if_stmt (stmt n sub_statement) (expr n expression))

  begun : (o : Outcome Link) → link (stmt n sub_statement) (expr n expression) s ≡ o → if_stmt (stmt n sub_statement) (expr n expression) s ≡ and_then o behind
  unfolding behind
  begun o e = if_is (stmt n sub_statement) (stmt_falls n sub_statement) (expr n expression) (expr_falls n expression) s ∙ ap (λ p. and_then p behind) e

  pub if_err : (e : Fault × State) → link (stmt n sub_statement) (expr n expression) s ≡ Err e → if_stmt (stmt n sub_statement) (expr n expression) s ≡ Err e
  if_err e h = begun (Err e) h

  pub if_last : (l : Link) (t : State) → link (stmt n sub_statement) (expr n expression) s ≡ Ok (l, t) → goes_on t.at ≡ false
      → if_stmt (stmt n sub_statement) (expr n expression) s ≡ and_then (alternative (stmt n sub_statement) t) (closed_link l)
  unfolding behind
  if_last l t h b = begun (Ok (l, t)) h ∙ if_false (goes_on t.at) _ _ b

  pub if_more : (l : Link) (t : State) → link (stmt n sub_statement) (expr n expression) s ≡ Ok (l, t) → goes_on t.at ≡ true
      → if_stmt (stmt n sub_statement) (expr n expression) s ≡ and_then (if_stmt (stmt n sub_statement) (expr n expression) (moved t)) (closed_link l)
  unfolding behind
  if_more l t h b = begun (Ok (l, t)) h ∙ if_true (goes_on t.at) _ _ b

  -- the chain behind a link begins with fewer tokens
  pub chain_shorter : (l : Link) (t : State) → link (stmt n sub_statement) (expr n expression) s ≡ Ok (l, t) → goes_on t.at ≡ true → length (after t.at).left < length s.at.left
  chain_shorter l t h b = next_shorter (stmt n sub_statement) (stmt_falls n sub_statement) (expr n expression) (expr_falls n expression) s l t h b
