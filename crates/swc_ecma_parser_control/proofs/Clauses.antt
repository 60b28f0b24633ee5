-- The turns of the clauses of a `switch`.
use Rattle.std.proofs.Common.{◌≡◌, ℕ, Bool, true, false, [], ◌∷◌, ◌++◌, Ok, refl, ap, ◌∙◌}
use Rattle.std.specs.Prelude.{◌||◌}
use Rattle.swc_ecma_parser_token.specs.declared.kind.TokenKind.TheVariants as kind
use Rattle.swc_ecma_parser_model.specs.Tree.{Tree}
use Rattle.swc_ecma_parser_grammar.specs.Looks.{sees}
use Rattle.swc_ecma_parser_grammar.specs.language.Items.{nested_item}
use Rattle.swc_ecma_parser_grammar.specs.language.Goals.{expression}
use Rattle.swc_ecma_parser_reader.specs.State.{State, loop}
use Rattle.swc_ecma_parser_reader.specs.Reader.{begins_clause, Clauses, clause, clauses_turn, stmt, expr}
use Rattle.swc_ecma_parser_reader.proofs.Loops.{clauses_more}

-- behind a clause a `default` stands or none
pub none_more : (b c : Bool) → false ≡ c → (b || c) ≡ b
none_more b true e = cc
none_more true false e = refl
none_more false false e = refl

pub one_now : (b c : Bool) → true ≡ c → (b || c) ≡ true
one_now b false e = cc
one_now true true e = refl
one_now false true e = refl

pub clauses_on : (n : ℕ) (l : Clauses) (s : State) (x : Tree) (t : State) (b : Bool) → begins_clause s.at ≡ true → clause (stmt n nested_item) (expr n expression) l.has_default s ≡ Ok (x, t)
    → (l.has_default || sees kind.Default s.at) ≡ b
    → loop (clauses_turn (stmt n nested_item) (expr n expression)) l s ≡ loop (clauses_turn (stmt n nested_item) (expr n expression)) (record { found = l.found ++ x ∷ []; has_default = b }) t
clauses_on n l s x t b h e g =
    clauses_more n l s x t h e ∙ ap (λ v. loop (clauses_turn (stmt n nested_item) (expr n expression)) (record { found = l.found ++ x ∷ []; has_default = v }) t) g
