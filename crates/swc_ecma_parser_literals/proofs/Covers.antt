-- Parts of an array or object, one behind the other.
use Rattle.std.proofs.Common.{◌≡◌, Bool, refl, ap, ◌∙◌}
use Rattle.swc_ecma_parser_reader.specs.State.{State, Reader, Step, loop}
use Rattle.swc_ecma_parser_reader.specs.Expressions as exprs

-- the rest of a loop, by what was found and where it is
pub same_loop : {A B : Type 0} (turn : A → Reader (Step A B)) (f g : A) (s t : State) → g ≡ f → t ≡ s → loop turn f s ≡ loop turn g t
same_loop turn f g s t e h = rw (e, h) refl

-- a part, and the comma behind it
pub commaed : (f g h : exprs.Covers) (b d : Bool) (v : exprs.Cover) → h ≡ exprs.with_comma b g → g ≡ exprs.with_cover f v → b ≡ d → h ≡ exprs.with_comma d (exprs.with_cover f v)
commaed f g h b d v j k e = j ∙ ap (exprs.with_comma b) k ∙ ap (λ x. exprs.with_comma x (exprs.with_cover f v)) e
