-- One place behind another, step by step.
use Rattle.std.proofs.Common.{◌≡◌, Bool, true, false, List, [], ◌∷◌, ◌++◌, ap, refl, sym, ◌∙◌, append_assoc, subst}
use Rattle.swc_ecma_parser_common.specs.declared.span.Span.{Span}
use Rattle.swc_ecma_parser_token.specs.declared.kind.TokenKind.{TokenKind}
use Rattle.swc_ecma_parser_token.specs.declared.kind.TokenKind.TheVariants as kind
use Rattle.swc_ecma_parser_token.specs.declared.token.Token.{Token}
use Rattle.swc_ecma_parser_token.specs.declared.token.TokenAndSpan.{TokenAndSpan}
use Rattle.swc_ecma_parser_input.specs.Place.{Place, past, after}
use Rattle.swc_ecma_parser_grammar.specs.Looks.{first_kind, kind_at}
use Rattle.swc_ecma_parser_grammar.specs.Ends.{Ends, by_semicolon, by_insertion, OptionalEnds, by_a_semicolon, by_nothing}
use Rattle.swc_ecma_parser_grammar.specs.language.Parts.{ReadsToken}
use Rattle.swc_ecma_parser_grammar.specs.language.Laws.{Advances}

infixr 5 ◌▸▸◌
infixr 5 ◌▸▹◌
infixr 5 ◌▹▸◌
infixr 5 ◌▹▹◌
-- the same place, or one behind it
pub data Onward (c d : Place) : Type 0 where
  stays : d ≡ c → Onward c d
  goes : Advances c d → Onward c d

-- ---- one behind another: a filled sign stands for at least one token, a hollow one for any number

pub ◌▸▸◌ : {c m d : Place} → Advances c m → Advances m d → Advances c d
◌▸▸◌ p q = record {
  others = p.others ++ (p.final ∷ q.others);
  final = q.final;
  are_taken = p.are_taken ∙ ap (λ ts. p.others ++ (p.final ∷ ts)) q.are_taken ∙ sym (append_assoc p.others (p.final ∷ q.others) (q.final ∷ _));
  was_last = q.was_last;
}

pub ◌▸▹◌ : {c m d : Place} → Advances c m → Onward m d → Advances c d
◌▸▹◌ {c} p (stays e) = subst (Advances c) (sym e) p
◌▸▹◌ p (goes q) = p ▸▸ q

pub ◌▹▸◌ : {c m d : Place} → Onward c m → Advances m d → Advances c d
◌▹▸◌ {d = d} (stays e) q = subst (λ m. Advances m d) e q
◌▹▸◌ (goes p) q = p ▸▸ q

pub ◌▹▹◌ : {c m d : Place} → Onward c m → Onward m d → Onward c d
◌▹▹◌ {c} p (stays e) = subst (Onward c) (sym e) p
◌▹▹◌ p (goes q) = goes (p ▹▸ q)

-- ---- one token

-- every kind but that of no token
abbrev pub is_some : TokenKind → Bool
is_some kind.End = false
is_some _ = true

passed : (last : Span) (ts : List TokenAndSpan) (k : TokenKind) → first_kind ts ≡ k → is_some k ≡ true → Advances (record { last = last; left = ts }) (past (record { last = last; left = ts }) ts)
passed last [] k h e = absurd (let g : is_some kind.End ≡ true = ap is_some h ∙ e in cc)
passed last (t ∷ ts) k h e = record { others = []; final = t; are_taken = refl; was_last = refl }

-- a token of a kind that is known
pub token : {c : Place} {k : TokenKind} → kind_at c ≡ k → is_some k ≡ true → Advances c (after c)
unfolding kind_at after
token {c} {k} h e = passed c.last c.left k h e

pub token_to : {c d : Place} {k : TokenKind} → kind_at c ≡ k → is_some k ≡ true → d ≡ after c → Advances c d
token_to {c} h e i = subst (Advances c) (sym i) (token h e)

-- any token, if there is one
onward_past : (last : Span) (ts : List TokenAndSpan) → Onward (record { last = last; left = ts }) (past (record { last = last; left = ts }) ts)
onward_past last [] = stays refl
onward_past last (t ∷ ts) = goes (record { others = []; final = t; are_taken = refl; was_last = refl })

pub any_token : {c : Place} → Onward c (after c)
unfolding after
any_token {c} = onward_past c.last c.left

pub any_token_to : {c d : Place} → d ≡ after c → Onward c d
any_token_to {c} i = subst (Onward c) (sym i) any_token

behind_first : (last : Span) (ts rest : List TokenAndSpan) (t : TokenAndSpan) → ts ≡ t ∷ rest → Advances (record { last = last; left = ts }) (past (record { last = last; left = ts }) ts)
behind_first last [] rest t e = absurd (cc)
behind_first last (s ∷ ts) rest t e = record { others = []; final = s; are_taken = refl; was_last = refl }

-- a token that is read
pub one : {t : Token} {s : Span} {c d : Place} → ReadsToken t s c d → Advances c d
unfolding after
one {t} {s} {c} r = subst (Advances c) (sym r.next) (behind_first c.last c.left r.rest (record { token = t; had_line_break = r.had_line_break; span = s }) r.is)

-- ---- the ends of statements

pub ends : {c d : Place} → Ends c d → Onward c d
ends (by_semicolon h e) = any_token_to e
ends (by_insertion a b e) = stays e

pub optional_ends : {c d : Place} → OptionalEnds c d → Onward c d
optional_ends (by_a_semicolon h e) = any_token_to e
optional_ends (by_nothing h e) = stays e
