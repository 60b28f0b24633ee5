-- Function values that read statements, expressions and patterns in so many levels.
use Rattle.std.specs.Prelude.{ℕ, Result}
use Rattle.std.specs.Borrow.{Bor}
use denote.Ref.{MutBor}
use Rattle.swc_ecma_parser_error.specs.declared.error.Error.{Error}
use Rattle.swc_ecma_parser_model.specs.Tree.{Tree}
use Rattle.swc_ecma_parser_trees.specs.declared.Maker.{Maker}
use Rattle.swc_ecma_parser_grammar.specs.declared.position.Position.{Position}
use Rattle.swc_ecma_parser_reader.specs.State.{State, GivesAs}
use Rattle.swc_ecma_parser_reader.specs.Reader.{stmt}
use Rattle.swc_ecma_parser_shared.specs.declared.cover.Cover.{Cover}
use Rattle.swc_ecma_parser_shared.specs.declared.cover.Reading.{Reading}
use Rattle.swc_ecma_parser_shared.specs.declared.grammar.Part.{Part}
use Rattle.swc_ecma_parser_shared.specs.Covers.{cover_of, read}
use Rattle.swc_ecma_parser_shared.specs.Patterns.{read_pat}

-- what such a value asks for and answers, of a maker of trees and a source
abbrev pub PatPre : Type 0 → Type 0 → Type 1
PatPre M P = Bor M → MutBor P → ℕ → Part → Type 0

abbrev pub PatPost : Type 0 → Type 0 → Type 0 → Type 1
PatPost M P A = Bor M → MutBor P → ℕ → Part → Result A Error → MutBor P → Type 0

abbrev pub ExprPre : Type 0 → Type 0 → Type 1
ExprPre M P = Bor M → MutBor P → ℕ → Reading → Type 0

abbrev pub ExprPost : Type 0 → Type 0 → Type 0 → Type 1
ExprPost M P A = Bor M → MutBor P → ℕ → Reading → Result A Error → MutBor P → Type 0

abbrev pub StmtPre : Type 0 → Type 0 → Type 1
StmtPre M P = Bor M → MutBor P → ℕ → Position → Type 0

abbrev pub StmtPost : Type 0 → Type 0 → Type 0 → Type 1
StmtPost M P A = Bor M → MutBor P → ℕ → Position → Result A Error → MutBor P → Type 0

-- they may be called, and give what the reader gives
pub record Nests {P T X N S : Type 0} (seen : P → State) (expr_of : X → Tree) (pat_of : N → Tree) (stmt_of : S → Tree) (depth : ℕ)
    (stmt_pre : StmtPre (Maker T X N S) P) (stmt_post : StmtPost (Maker T X N S) P S)
    (expr_pre : ExprPre (Maker T X N S) P) (expr_post : ExprPost (Maker T X N S) P (Cover X))
    (pat_pre : PatPre (Maker T X N S) P) (pat_post : PatPost (Maker T X N S) P N) : Type 0 where
  pub stmt_callable : (maker : Bor (Maker T X N S)) (old : MutBor P) (at : Position) → stmt_pre maker old depth at
  pub stmt_gives : (maker : Bor (Maker T X N S)) (old new : MutBor P) (at : Position) (r : Result S Error) → stmt_post maker old depth at r new → GivesAs stmt_of (stmt depth at (seen old.now)) r (seen new.now)
  pub expr_callable : (maker : Bor (Maker T X N S)) (old : MutBor P) (asked : Reading) → expr_pre maker old depth asked
  pub expr_gives : (maker : Bor (Maker T X N S)) (old new : MutBor P) (asked : Reading) (r : Result (Cover X) Error) → expr_post maker old depth asked r new → GivesAs (cover_of expr_of) (read depth asked (seen old.now)) r (seen new.now)
  pub pat_callable : (maker : Bor (Maker T X N S)) (old : MutBor P) (part : Part) → pat_pre maker old depth part
  pub pat_gives : (maker : Bor (Maker T X N S)) (old new : MutBor P) (part : Part) (r : Result N Error) → pat_post maker old depth part r new → GivesAs pat_of (read_pat depth part (seen old.now)) r (seen new.now)
