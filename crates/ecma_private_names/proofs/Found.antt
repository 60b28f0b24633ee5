-- What is found once a name is added.
use Rattle.std.proofs.Common.{◌≡◌, Bool, true, false, List, [], ◌∷◌, ◌++◌, Option, Some, None, if◌then◌else◌, cond, map, refl, ap, ◌∙◌, sym}
use Rattle.std.specs.Map.{update}
use Rattle.std.specs.Str.{bytes_eq}
use Rattle.ecma_private_names.specs.declared.members.Member.{Member}
use Rattle.swc_ecma_parser_model.specs.Tree.{Text}
use Rattle.ecma_private_names.specs.Kept.{named}
use Rattle.ecma_private_names.specs.PrivateNames.{Named, find, or_earlier}
use Rattle.ecma_private_names.specs.declared.members.Entry.{Entry}

or_earlier_twice : (a b c : Option Member) → or_earlier (or_earlier a b) c ≡ or_earlier a (or_earlier b c)
or_earlier_twice (Some d) b c = refl
or_earlier_twice None b c = refl

or_earlier_none : (a : Option Member) → or_earlier a None ≡ a
or_earlier_none (Some d) = refl
or_earlier_none None = refl

abbrev seen : Text → Named → Option Member
seen q x = if bytes_eq x.text q then Some x.member else None

find_pushed : (q : Text) (xs : List Entry) (e : Entry) → find q (map named (xs ++ e ∷ [])) ≡ or_earlier (seen q (named e)) (find q (map named xs))
find_pushed q [] e = sym (or_earlier_none (seen q (named e)))
find_pushed q (y ∷ ys) e = ap (λ r. or_earlier r (seen q (named y))) (find_pushed q ys e) ∙ or_earlier_twice (seen q (named e)) (find q (map named ys)) (seen q (named y))

either : (b : Bool) (x : Member) (old : Option Member) → cond b (Some x) old ≡ or_earlier (if b then Some x else None) old
either true x old = refl
either false x old = refl

pub added : (q : Text) (f : Text → Option Member) (bs : Text) (x : Member) (new : Option Member) (xs ys : List Entry) (e : Entry)
    → new ≡ update bytes_eq f bs (Some x) q → f q ≡ find q (map named xs) → ys ≡ xs ++ e ∷ [] → bs ≡ e.text.now → x ≡ e.member
    → new ≡ find q (map named ys)
added q f bs x new xs ys e p i s t u =
    p ∙ ap (λ r. cond (bytes_eq bs q) (Some x) r) i ∙ ap (λ r. cond (bytes_eq r q) (Some x) (find q (map named xs))) t
    ∙ ap (λ r. cond (bytes_eq e.text.now q) (Some r) (find q (map named xs))) u ∙ either (bytes_eq e.text.now q) e.member (find q (map named xs))
    ∙ sym (find_pushed q xs e) ∙ ap (λ r. find q (map named r)) (sym s)
