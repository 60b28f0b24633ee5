use Rattle.std.proofs.Common.{◌≡◌, ℕ, ◌||◌, List, [], ◌∷◌, map, refl, ap, ◌∙◌, rules, tests, Bor}
use Rattle.std.specs.List.{list_any}
use Rattle.std.specs.Str.{bytes_eq}
use Rattle.std.proofs.lemmas.Iterator.{YieldsList-from_slice}
use Rattle.std.proofs.lemmas.Iterator.Search.{any_from_yields_List}
use Rattle.swc_ecma_parser_grammar.specs.Names as names
use Rattle.swc_ecma_parser_cursor.proofs.names.is_one_of.Goals as goal

any-map : (text : List ℕ) (words : List (Bor (List ℕ))) → list_any (λ word. bytes_eq text word.now) words ≡ names.is_one_of (map (λ word. word.now) words) text
any-map text [] = refl
any-map text (w ∷ ws) = ap (λ b. bytes_eq text w.now || b) (any-map text ws)

pub returns : goal.returns
returns c =
    any_from_yields_List (λ word. bytes_eq c.args.text.now word.now) _ _ c.any.result c.any.ensures.ran (YieldsList-from_slice c.args.words.now cc) (λ x b q k. search (rules, tests))
    ∙ any-map c.args.text.now c.args.words.now
