-- Function values that read what stands in a class, in so many levels: what it extends, and its members.
use Rattle.std.specs.Prelude.{ℕ, List, Result}
use Rattle.std.specs.Borrow.{Bor}
use denote.Ref.{MutBor}
use Rattle.swc_ecma_parser_error.specs.declared.error.Error.{Error}
use Rattle.swc_ecma_parser_grammar.specs.declared.class.Class.{Class}
use Rattle.swc_ecma_parser_model.specs.Tree.{Tree}
use Rattle.swc_ecma_parser_trees.specs.declared.Maker.{Maker}
use Rattle.swc_ecma_parser_reader.specs.Classes.{class_of}
use Rattle.swc_ecma_parser_reader.specs.State.{State, GivesAs}
use Rattle.swc_ecma_parser_reader.specs.Reader.{expr, member}

-- what such values ask for and answer, of a maker of trees and a source
abbrev pub HeritagePre : Type 0 → Type 0 → Type 1
HeritagePre M P = Bor M → MutBor P → ℕ → Class → Type 0

abbrev pub HeritagePost : Type 0 → Type 0 → Type 0 → Type 1
HeritagePost M P X = Bor M → MutBor P → ℕ → Class → Result X Error → MutBor P → Type 0

abbrev pub MemberPre : Type 0 → Type 0 → Type 0 → Type 1
MemberPre M P A = Bor M → MutBor P → ℕ → Bor (List A) → Type 0

abbrev pub MemberPost : Type 0 → Type 0 → Type 0 → Type 1
MemberPost M P A = Bor M → MutBor P → ℕ → Bor (List A) → Result A Error → MutBor P → Type 0

-- they may be called, and give what the reader gives
pub record ReadsClass {P T X N S A : Type 0} (seen : P → State) (expr_of : X → Tree) (member_of : A → Tree) (depth : ℕ)
    (expr_pre : HeritagePre (Maker T X N S) P) (expr_post : HeritagePost (Maker T X N S) P X)
    (member_pre : MemberPre (Maker T X N S) P A) (member_post : MemberPost (Maker T X N S) P A) : Type 0 where
  pub expr_callable : (maker : Bor (Maker T X N S)) (old : MutBor P) (class : Class) → expr_pre maker old depth class
  pub expr_gives : (maker : Bor (Maker T X N S)) (old new : MutBor P) (class : Class) (r : Result X Error) → expr_post maker old depth class r new → GivesAs expr_of (expr depth (class_of class) (seen old.now)) r (seen new.now)
  pub member_callable : (maker : Bor (Maker T X N S)) (old : MutBor P) (before : Bor (List A)) → member_pre maker old depth before
  pub member_gives : (maker : Bor (Maker T X N S)) (old new : MutBor P) (before : Bor (List A)) (r : Result A Error) → member_post maker old depth before r new → GivesAs member_of (member depth (seen old.now)) r (seen new.now)
