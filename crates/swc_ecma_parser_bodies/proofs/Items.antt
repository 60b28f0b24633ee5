-- The turns of item lists, with directives or without.
use Rattle.std.proofs.Common.{◌≡◌, ◌<◌, Bool, false, List, [], ◌∷◌, ◌++◌, length, Ok, sym, ap, ◌∙◌}
use Rattle.swc_ecma_parser_input.specs.Place.{Place}
use Rattle.swc_ecma_parser_model.specs.Tree.{Tree}
use Rattle.swc_ecma_parser_grammar.specs.language.Items.{directed, directs_on}
use Rattle.swc_ecma_parser_reader.specs.State.{State, Reader, coded, loop}
use Rattle.swc_ecma_parser_reader.specs.Reader.{directs, items_turn}
use Rattle.swc_ecma_parser_reader.proofs.Loops.{directs_push, items_more}

-- one more is read, where it is known whether it can be a directive
pub body_more : (item : Reader Tree) (stops : Place → Bool) (directives : Bool) (found : List Tree) (b : Bool) (s : State) (x : Tree) (t : State) → b ≡ directs directives found → stops s.at ≡ false
    → item s ≡ Ok (x, t) → length t.at.left < length s.at.left
    → loop (items_turn item stops directives) found s ≡ loop (items_turn item stops directives) (found ++ x ∷ []) (coded (directed t.code b x) t)
body_more item stops directives found b s x t e h g k =
    items_more item stops directives found s x t h g k ∙ ap (λ d. loop (items_turn item stops directives) (found ++ x ∷ []) (coded (directed t.code d x) t)) (sym e)

-- and then it is known of the next
pub body_next : (directives : Bool) (found : List Tree) (b : Bool) (x : Tree) → b ≡ directs directives found → directs_on b x ≡ directs directives (found ++ x ∷ [])
body_next directives found b x e = ap (λ d. directs_on d x) e ∙ sym (directs_push directives found x)
