-- What stands behind a token that is read anew is a rest of what stands behind its first character.
use Rattle.std.proofs.Common.{◌≡◌, ℕ, Bool, true, false, not, ◌&&◌, ◌==◌, cond, List, [], ◌∷◌, ◌++◌, Option, Some, None, is_none, refl, ap, sym, ◌∙◌, subst, append_assoc}
use Rattle.swc_ecma_parser_scan.specs.Chars.{is_line_break}
use Rattle.swc_ecma_parser_scan.specs.Scan.{scan}
use Rattle.swc_ecma_parser_scan.specs.Splits.{scan-splits}
use Rattle.swc_ecma_parser_lexer.specs.declared.escape.Escape.{Escape}
use Rattle.swc_ecma_parser_lexer.specs.declared.escape.Escape.TheVariants as escape
use Rattle.swc_ecma_parser_whole_lexer.specs.declared.names.NameTurn.{NameTurn}
use Rattle.swc_ecma_parser_whole_lexer.specs.declared.regex.Body.{Body}
use Rattle.swc_ecma_parser_whole_lexer.specs.declared.run.Class.{Class}
use Rattle.swc_ecma_parser_whole_lexer.specs.Names as names
use Rattle.swc_ecma_parser_whole_lexer.specs.Regex.{body_behind, is_end, past_body}
use Rattle.swc_ecma_parser_whole_lexer.specs.Runs.{behind, is_of, past}
use Rattle.swc_ecma_parser_whole_lexer.specs.Templates.{End, ends_part, past_part}
use Rattle.swc_ecma_parser_whole_lexer.proofs.Turns.{name-more, name-stop}

-- a list with others before it
pub record IsSuffix (left : List ℕ) (cs : List ℕ) : Type 0 where
  pub taken : List ℕ
  pub parts : cs ≡ taken ++ left

pub suffix-all : (cs : List ℕ) → IsSuffix cs cs
suffix-all cs = record { taken = []; parts = refl }

pub suffix-more : (c : ℕ) (left cs : List ℕ) → IsSuffix left cs → IsSuffix left (c ∷ cs)
suffix-more c left cs h = record { taken = c ∷ h.taken; parts = ap (λ xs. c ∷ xs) h.parts }

pub suffix-on : (a b c : List ℕ) → IsSuffix a b → IsSuffix b c → IsSuffix a c
suffix-on a b c h k = record {
  taken = k.taken ++ h.taken;
  parts = k.parts ∙ ap (λ xs. k.taken ++ xs) h.parts ∙ sym (append_assoc k.taken h.taken a);
}

choice : (v : Bool) (x cs : List ℕ) → IsSuffix x cs → IsSuffix (cond v x cs) cs
choice true x cs h = h
choice false x cs h = suffix-all cs

pub past-suffix : (k : Class) (cs : List ℕ) → IsSuffix (past k cs) cs
unfolding past
past-suffix k [] = suffix-all []
past-suffix k (c ∷ cs) = choice (is_of k c) (past k cs) (c ∷ cs) (suffix-more c (past k cs) cs (past-suffix k cs))

pub behind-suffix : (cs : List ℕ) → IsSuffix (behind cs) cs
unfolding behind
behind-suffix [] = suffix-all []
behind-suffix (c ∷ cs) = suffix-more c cs cs (suffix-all cs)

some-same : (x y : List ℕ) → Some x ≡ Some y → x ≡ y
some-same x y e = cc

body-step : (c : ℕ) (cs left : List ℕ) (r : Option (List ℕ)) (breaks ends : Bool) → (r ≡ Some left → IsSuffix left cs) → cond breaks None (cond ends (Some (c ∷ cs)) r) ≡ Some left → IsSuffix left (c ∷ cs)
body-step c cs left r true ends f e = absurd (cc e)
body-step c cs left r false true f e = subst (λ xs. IsSuffix xs (c ∷ cs)) (some-same _ _ e) (suffix-all (c ∷ cs))
body-step c cs left r false false f e = suffix-more c left cs (f e)

pub body-suffix : (b : Body) (cs left : List ℕ) → past_body b cs ≡ Some left → IsSuffix left cs
unfolding past_body
body-suffix b [] left e = absurd (cc e)
body-suffix b (c ∷ cs) left e =
    body-step c cs left (past_body (body_behind b c) cs) (is_line_break c) (is_end b c) (body-suffix (body_behind b c) cs left) e

end-same : (x y : End) → Some x ≡ Some y → x ≡ y
end-same x y e = cc

part-step : (c : ℕ) (cs : List ℕ) (e : End) (r : Option End) (ends : Bool) → (r ≡ Some e → IsSuffix e.left cs) → cond ends (Some (record { is_last = c == 96; left = c ∷ cs })) r ≡ Some e → IsSuffix e.left (c ∷ cs)
part-step c cs e r true f h = subst (λ (x : End). IsSuffix x.left (c ∷ cs)) (end-same _ _ h) (suffix-all (c ∷ cs))
part-step c cs e r false f h = suffix-more c e.left cs (f h)

pub part-suffix : (s : Bool) (cs : List ℕ) (e : End) → past_part s cs ≡ Some e → IsSuffix e.left cs
unfolding past_part
part-suffix s [] e h = absurd (cc h)
part-suffix s (c ∷ cs) e h =
    part-step c cs e (past_part (not s && (c == 92)) cs) (ends_part s c cs) (part-suffix (not s && (c == 92)) cs e) h

ends-suffix : (v : Bool) (cs left : List ℕ) → cond v (Some cs) None ≡ Some left → IsSuffix left cs
ends-suffix true cs left e = subst (λ xs. IsSuffix xs cs) (some-same _ _ e) (suffix-all cs)
ends-suffix false cs left e = absurd (cc e)

name-step : (is_start : Bool) (s : Escape) (c : ℕ) (cs left : List ℕ) (o : Option NameTurn) → names.step is_start s c ≡ o
    → ((k : Bool) (t : Escape) → names.past_name k t cs ≡ Some left → IsSuffix left cs)
    → names.past_name is_start s (c ∷ cs) ≡ Some left → IsSuffix left (c ∷ cs)
unfolding names.past_name names.ends
name-step is_start s c cs left None e f h =
    ends-suffix (names.is_outside s && not is_start) (c ∷ cs) left (sym (name-stop is_start s (c ∷ cs) c cs refl e) ∙ h)
name-step is_start s c cs left (Some t) e f h =
    suffix-more c left cs (f (is_start && is_none t.said) t.state (sym (name-more is_start s (c ∷ cs) c cs t refl e) ∙ h))

pub name-suffix : (is_start : Bool) (s : Escape) (cs left : List ℕ) → names.past_name is_start s cs ≡ Some left → IsSuffix left cs
unfolding names.past_name names.ends
name-suffix is_start s [] left e = ends-suffix (names.is_outside s && not is_start) [] left e
name-suffix is_start s (c ∷ cs) left e = name-step is_start s c cs left (names.step is_start s c) refl (λ k t. name-suffix k t cs left) e

none-ends : (v : Bool) (cs left : List ℕ) → cond (v && false) (Some cs) None ≡ Some left → ⊥
none-ends true cs left e = cc e
none-ends false cs left e = cc e

first-step : (c : ℕ) (cs left : List ℕ) (o : Option NameTurn) → names.step true escape.Text c ≡ o → names.past_name true escape.Text (c ∷ cs) ≡ Some left → IsSuffix left cs
unfolding names.past_name names.ends
first-step c cs left None e h = absurd (none-ends (names.is_outside escape.Text) (c ∷ cs) left (sym (name-stop true escape.Text (c ∷ cs) c cs refl e) ∙ h))
first-step c cs left (Some t) e h = name-suffix (true && is_none t.said) t.state cs left (sym (name-more true escape.Text (c ∷ cs) c cs t refl e) ∙ h)

-- a name has a character or more
pub name-suffix-behind : (c : ℕ) (cs left : List ℕ) → names.past_name true escape.Text (c ∷ cs) ≡ Some left → IsSuffix left cs
name-suffix-behind c cs left e = first-step c cs left (names.step true escape.Text c) refl e

-- a piece ends behind its first character
pub scan-suffix : (is_first : Bool) (c : ℕ) (cs : List ℕ) → IsSuffix (scan is_first c cs).left cs
scan-suffix is_first c cs = record { taken = (scan is_first c cs).taken; parts = sym (scan-splits is_first c cs) }
