-- A chain that is read in a loop is the chain that the reader reads: what the links so far make of the rest.
use Rattle.std.proofs.Common.{◌≡◌, ℕ, true, false, List, [], ◌∷◌, ◌++◌, Result, Ok, Err, refl, sym, ap, ◌∙◌}
use Rattle.std.specs.Prelude.{IfOk, IfErr}
use Rattle.swc_ecma_parser_common.specs.declared.span.Span.{Span}
use Rattle.swc_ecma_parser_error.specs.declared.error.Error.{Error}
use Rattle.swc_ecma_parser_error.specs.Kind.{Fault, IsOutOfMemory}
use Rattle.swc_ecma_parser_model.specs.Tree.{Tree}
use Rattle.swc_ecma_parser_grammar.specs.language.Goals.{expression}
use Rattle.swc_ecma_parser_grammar.specs.language.Items.{sub_statement}
use Rattle.swc_ecma_parser_reader.specs.State.{State, Outcome, and_then, moved, GivesAs}
use Rattle.swc_ecma_parser_reader.specs.Reader as rules
use Rattle.swc_ecma_parser_reader.specs.Reader.{Link}
use Rattle.swc_ecma_parser_reader.proofs.Chains.{if_err, if_last, if_more}
use Rattle.swc_ecma_parser_branches.specs.Links.{closed_as, around}

pub around_push : (last : Span) (ls : List Link) (l : Link) (y : Tree) → around last (ls ++ l ∷ []) y ≡ around last ls (closed_as last l y)
around_push last [] l y = refl
around_push last (k ∷ ks) l y = ap (closed_as last k) (around_push last ks l y)

-- a token was taken
pub skipped : (s t : State) → ◌≡◌ {A = Outcome (Unit {0})} (Ok (tt, moved s)) (Ok (tt, t)) → t ≡ moved s
skipped s t h = let q : ◌≡◌ {A = Unit {0} × State} (tt, moved s) (tt, t) = cc in sym (ap (λ z. z.1) q)

-- the chain of these links around the last one, where neither found want of memory
pub last_gives : {X : Type 0} (view : X → Tree) (o : Outcome Tree) (ls : List Link) (l : Link) (y z : Tree) (u v w : State) (r : Result X Error)
    → o ≡ Ok (around u.at.last ls (closed_as u.at.last l y), u) → z ≡ closed_as u.at.last l y → v ≡ u → IfOk r (λ x. view x ≡ around v.at.last ls z) → IfOk r (λ x. w ≡ v)
    → IfErr r IsOutOfMemory → GivesAs view o r w
last_gives view o ls l y z u v w (Ok x) h e k m n i = rw (m, n, k, e) h
last_gives view o ls l y z u v w (Err x) h e k m n i = λ j. absurd (j i)

-- what these links make of an answer
abbrev pub enclosing : List Link → Outcome Tree → Outcome Tree
enclosing ls (Ok p) = Ok (around p.1.at.last ls p.0, p.1)
enclosing ls (Err e) = Err e

pub enclosing_nil : (o : Outcome Tree) → enclosing [] o ≡ o
enclosing_nil (Ok p) = refl
enclosing_nil (Err e) = refl

enclosing_push : (ls : List Link) (l : Link) (o : Outcome Tree) → enclosing ls (and_then o (rules.closed_link l)) ≡ enclosing (ls ++ l ∷ []) o
enclosing_push ls l (Ok p) = ap (λ y. Ok (y, p.1)) (sym (around_push p.1.at.last ls l p.0))
enclosing_push ls l (Err e) = refl

module _ (n : ℕ) where
  -- the chain that begins in a state
  abbrev pub chain : State → Outcome Tree
  chain s = rules.if_stmt (rules.stmt n sub_statement) (rules.expr n expression) s

  module _ (whole : Outcome Tree) (ls : List Link) (s : State) (h : whole ≡ enclosing ls (chain s)) where
    pub chain_err : (e : Fault × State) → rules.link (rules.stmt n sub_statement) (rules.expr n expression) s ≡ Err e → whole ≡ Err e
    chain_err e g = h ∙ ap (enclosing ls) (if_err n s e g)

    module _ (l : Link) (t : State) (g : rules.link (rules.stmt n sub_statement) (rules.expr n expression) s ≡ Ok (l, t)) where
      pub chain_more : rules.goes_on t.at ≡ true → whole ≡ enclosing (ls ++ l ∷ []) (chain (moved t))
      chain_more b = h ∙ ap (enclosing ls) (if_more n s l t g b) ∙ enclosing_push ls l (chain (moved t))

      pub chain_last_err : (e : Fault × State) → rules.goes_on t.at ≡ false → rules.alternative (rules.stmt n sub_statement) t ≡ Err e → whole ≡ Err e
      chain_last_err e b k = h ∙ ap (enclosing ls) (if_last n s l t g b ∙ ap (λ o. and_then o (rules.closed_link l)) k)

      pub chain_last : (y : Tree) (u : State) → rules.goes_on t.at ≡ false → rules.alternative (rules.stmt n sub_statement) t ≡ Ok (y, u)
          → whole ≡ Ok (around u.at.last ls (closed_as u.at.last l y), u)
      chain_last y u b k = h ∙ ap (enclosing ls) (if_last n s l t g b ∙ ap (λ o. and_then o (rules.closed_link l)) k)
