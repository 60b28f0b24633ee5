-- What is found once a name is added.
use Rattle.std.proofs.Common.{◌≡◌, Bool, true, false, List, [], ◌∷◌, ◌++◌, Option, Some, None, if◌then◌else◌, cond, map, refl, ap, ◌∙◌, sym}
use Rattle.std.specs.Map.{update}
use Rattle.std.specs.Str.{bytes_eq}
use Rattle.swc_ecma_parser_common.specs.declared.span.Span.{Span}
use Rattle.swc_ecma_parser_model.specs.Tree.{Text}
use Rattle.ecma_exports.specs.Kept.{placed}
use Rattle.ecma_exports.specs.Places.{Place, find, or_earlier}
use Rattle.ecma_exports.specs.declared.places.Name.{Name}

or_earlier_twice : (a b c : Option Span) → or_earlier (or_earlier a b) c ≡ or_earlier a (or_earlier b c)
or_earlier_twice (Some d) b c = refl
or_earlier_twice None b c = refl

or_earlier_none : (a : Option Span) → or_earlier a None ≡ a
or_earlier_none (Some d) = refl
or_earlier_none None = refl

abbrev seen : Text → Place → Option Span
seen q x = if bytes_eq x.text q then Some x.span else None

find_pushed : (q : Text) (xs : List Name) (e : Name) → find q (map placed (xs ++ e ∷ [])) ≡ or_earlier (seen q (placed e)) (find q (map placed xs))
find_pushed q [] e = sym (or_earlier_none (seen q (placed e)))
find_pushed q (y ∷ ys) e = ap (λ r. or_earlier r (seen q (placed y))) (find_pushed q ys e) ∙ or_earlier_twice (seen q (placed e)) (find q (map placed ys)) (seen q (placed y))

either : (b : Bool) (x : Span) (old : Option Span) → cond b (Some x) old ≡ or_earlier (if b then Some x else None) old
either true x old = refl
either false x old = refl

pub added : (q : Text) (f : Text → Option Span) (bs : Text) (x : Span) (new : Option Span) (xs ys : List Name) (e : Name)
    → new ≡ update bytes_eq f bs (Some x) q → f q ≡ find q (map placed xs) → ys ≡ xs ++ e ∷ [] → bs ≡ e.text.now → x ≡ e.span
    → new ≡ find q (map placed ys)
added q f bs x new xs ys e p i s t u =
    p ∙ ap (λ r. cond (bytes_eq bs q) (Some x) r) i ∙ ap (λ r. cond (bytes_eq r q) (Some x) (find q (map placed xs))) t
    ∙ ap (λ r. cond (bytes_eq e.text.now q) (Some r) (find q (map placed xs))) u ∙ either (bytes_eq e.text.now q) e.span (find q (map placed xs))
    ∙ sym (find_pushed q xs e) ∙ ap (λ r. find q (map placed r)) (sym s)
