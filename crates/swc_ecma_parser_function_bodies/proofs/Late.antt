-- A body, with what is told of a directive that comes too late.
use Rattle.std.proofs.Common.{◌≡◌, Bool, Ok, Err, ap, ◌∙◌}
use Rattle.swc_ecma_parser_error.specs.Kind.{Fault}
use Rattle.swc_ecma_parser_model.specs.Tree.{Tree}
use Rattle.swc_ecma_parser_grammar.specs.Own.{misplaced_directive}
use Rattle.swc_ecma_parser_reader.specs.Jumps.{told}
use Rattle.swc_ecma_parser_reader.specs.State.{State, Reader, and_then, ◌>>◌, pure}
use Rattle.swc_ecma_parser_function_bodies.specs.Bodies.{directed_body}

module _ (is_simple : Bool) (body : Reader Tree) (s u : State) (x : Tree) (read : body s ≡ Ok (x, u)) where
  directed_told : directed_body is_simple body s ≡ and_then (told (misplaced_directive is_simple x) u) (λ _. pure x)
  directed_told = ap (λ o. and_then o (λ b. told (misplaced_directive is_simple b) >> pure b)) read

  pub directed_err : (e : Fault × State) → told (misplaced_directive is_simple x) u ≡ Err e → directed_body is_simple body s ≡ Err e
  directed_err e h = directed_told ∙ ap (λ o. and_then o (λ _. pure x)) h

  pub directed_found : (v : State) → told (misplaced_directive is_simple x) u ≡ Ok (tt, v) → directed_body is_simple body s ≡ Ok (x, v)
  directed_found v h = directed_told ∙ ap (λ o. and_then o (λ _. pure x)) h
