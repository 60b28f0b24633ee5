-- What a node of the tree types stands for: a tree that is not left out. So a missing part and a part that is there never look alike.
use Rattle.std.specs.Prelude.{◌≡◌, Bool, false, refl}
use Rattle.std.proofs.Common.{ap, ◌∙◌}
use Rattle.std.specs.Cmp.{IsPartialEquivalence, IsEquivalence, equiv}
use mathlib.Core.HLevel.{Σ_prop_path}
use base.Stored.{Coded}
use Rattle.swc_ecma_parser_model.specs.Tree.{Tree, absent}
use Rattle.swc_ecma_parser_model.specs.Code.{code, code_inj}
use Rattle.swc_ecma_parser_model.specs.Same.{same, same_laws, same_equivalence}

abbrev pub There : Tree → Type 0
There absent = ⊥
There _ = Unit {0}

There-prop : (t : Tree) → IsProp (There t)
There-prop absent = λ p q. absurd p
There-prop _ = λ p q. refl

pub record Held : Type 0 where
  pub tree : Tree
  pub there : There tree

abbrev pair_of : Held → (t : Tree) × There t
pair_of h = (h.tree, h.there)

abbrev held_of : (t : Tree) × There t → Held
held_of p = record { tree = p.0; there = p.1 }

pub held_inj : (x y : Held) → code x.tree ≡ code y.tree → x ≡ y
held_inj x y p = let q : pair_of x ≡ pair_of y = Σ_prop_path There-prop (code_inj x.tree y.tree p) in ap held_of q

abbrev pub coded_held : Coded Held
coded_held = record { code = λ h. code h.tree; inj = held_inj }

abbrev pub same_held : Held → Held → Bool
same_held x y = same x.tree y.tree

pub same_held_laws : IsPartialEquivalence same_held
same_held_laws = record { symm = λ x y. same_laws.symm x.tree y.tree; trans = λ x y z. same_laws.trans x.tree y.tree z.tree }

pub same_held_equivalence : IsEquivalence same_held
same_held_equivalence = equiv same_held_laws (λ x. same_equivalence.refl x.tree)

-- it differs from what is left out, on either side
there_absent : (t : Tree) → There t → same t absent ≡ false
there_absent absent h = absurd h
there_absent _ h = refl

pub held_absent : (x : Held) → same x.tree absent ≡ false
held_absent x = there_absent x.tree x.there

pub absent_held : (x : Held) → same absent x.tree ≡ false
absent_held x = same_laws.symm absent x.tree ∙ held_absent x
