-- Trees that are supported, by their parts and one behind another.
use Rattle.std.proofs.Common.{◌≡◌, Bool, true, false, List, [], ◌∷◌, refl, sym, ◌∙◌, ap, subst}
use Rattle.std.specs.Prelude.{◌&&◌, map}
use Rattle.swc_ecma_parser_input.specs.Place.{Place, after}
use Rattle.swc_ecma_parser_model.specs.Tree as tree
use Rattle.swc_ecma_parser_model.specs.Tree.{Tree, trees, listed}
use Rattle.swc_ecma_parser_grammar.specs.Parameters.{parameter, parameters}
use Rattle.swc_ecma_parser_grammar.specs.language.Lists.{ReadsEach, ReadsListed, Elements, no_elements, hole, last_element, more_elements, ReadsSeparated}
use Rattle.swc_ecma_parser_grammar.proofs.Tests.{and_both}
use Rattle.swc_ecma_parser_grammar.specs.scaffold.Supported.{supported, all_supported, is_supported_key_in, is_supported_property_in}
use Rattle.swc_ecma_parser_exactness.specs.Supports.{Whole}

-- ---- trees

-- the form that a tree is
pub as_form : (x y : Tree) → x ≡ y → Whole y → Whole x
as_form x y e f = ap supported e ∙ f

-- two parts, and three
pub both : (x y : Tree) → Whole x → Whole y → (supported x && supported y) ≡ true
both x y f g = and_both _ _ f g

pub three : (x y z : Tree) → Whole x → Whole y → Whole z → (supported x && (supported y && supported z)) ≡ true
three x y z f g i = and_both _ _ f (and_both _ _ g i)

-- a key, and what stands behind an object
abbrev pub WholeKey : Tree → Type 0
WholeKey x = is_supported_key_in false x ≡ true

abbrev pub WholeProperty : Tree → Type 0
WholeProperty x = is_supported_property_in false x ≡ true

pub key_as : (x y : Tree) → x ≡ y → WholeKey y → WholeKey x
key_as x y e f = ap (is_supported_key_in false) e ∙ f

pub property_as : (x y : Tree) → x ≡ y → WholeProperty y → WholeProperty x
property_as x y e f = ap (is_supported_property_in false) e ∙ f

-- ---- lists of trees

abbrev pub EachWhole : List Tree → Type 0
EachWhole [] = Unit {0}
EachWhole (x ∷ xs) = Whole x × EachWhole xs

pub each_as : {xs : List Tree} (ys : List Tree) → xs ≡ ys → EachWhole ys → EachWhole xs
each_as ys e h = subst EachWhole (sym e) h

pub all_whole : (xs : List Tree) → EachWhole xs → all_supported (trees xs) ≡ true
all_whole [] h = refl
all_whole (x ∷ xs) h = and_both _ _ h.0 (all_whole xs h.1)

pub list_whole : (xs : List Tree) → EachWhole xs → Whole (listed xs)
list_whole xs h = all_whole xs h

-- the parameters of a function
each_parameter : (ps : List Tree) → EachWhole ps → EachWhole (map parameter ps)
each_parameter [] h = tt
each_parameter (p ∷ ps) h = (h.0, each_parameter ps h.1)

pub parameters_whole : (ps : List Tree) → EachWhole ps → Whole (parameters ps)
parameters_whole ps h = all_whole (map parameter ps) (each_parameter ps h)

-- ---- lists that are read

module _ (Rule : Tree → Place → Place → Type 0) (small : (x : Tree) (c d : Place) → Rule x c d → Whole x) where
  pub each_whole : (xs : List Tree) (c d : Place) → ReadsEach Rule xs c d → EachWhole xs
  each_whole [] c d r = tt
  each_whole (x ∷ xs) c d (m, r, rs) = (small x c m r, each_whole xs m d rs)

  pub listed_whole : (commas : Bool) (xs : List Tree) (c d : Place) → ReadsListed commas Rule xs c d → EachWhole xs
  listed_whole commas [] c d r = tt
  listed_whole commas (x ∷ []) c d (m, r, l) = (small x c m r, tt)
  listed_whole commas (x ∷ y ∷ ys) c d (m, r, i, e, rs) = (small x c m r, listed_whole commas (y ∷ ys) (after m) d rs)

  pub separated_whole : (xs : List Tree) (c d : Place) → ReadsSeparated Rule xs c d → EachWhole xs
  separated_whole [] c d r = absurd r
  separated_whole (x ∷ []) c d (r, e) = (small x c d r, tt)
  separated_whole (x ∷ y ∷ ys) c d (m, r, e, rs) = (small x c m r, separated_whole (y ∷ ys) (after m) d rs)

  pub elements_whole : {xs : List Tree} {c d : Place} → Elements Rule xs c d → EachWhole xs
  elements_whole (no_elements e g) = each_as [] e tt
  elements_whole (hole ys h r e) = each_as (tree.absent ∷ ys) e (refl, elements_whole r)
  elements_whole {c = c} (last_element y m r l e) = each_as (y ∷ []) e (small y c m r, tt)
  elements_whole {c = c} (more_elements y z zs m r i h rs e) = each_as (y ∷ z ∷ zs) e (small y c m r, elements_whole rs)
