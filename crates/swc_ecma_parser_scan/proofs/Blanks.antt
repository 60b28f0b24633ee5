-- A space or line break that is ASCII is a piece of its own.
use Rattle.std.proofs.Common.{◌≡◌, ℕ, Bool, cond, List, [], ◌∷◌, refl, ap, ◌∙◌, arith}
use Rattle.unicode_ident.proofs.IdentLemmas.{is_xid_start-ascii}
use Rattle.swc_ecma_parser_scan.specs.declared.state.State.{State}
use Rattle.swc_ecma_parser_scan.specs.declared.state.State.TheVariants as state
use Rattle.swc_ecma_parser_scan.specs.Chars.{is_name_start, is_space, is_line_break}
use Rattle.swc_ecma_parser_scan.specs.Step.{begin, step}
use Rattle.swc_ecma_parser_scan.specs.Scan.{Munched, munch, scan, settled}
use Rattle.swc_ecma_parser_scan.specs.Splits.{munch-end, munch-stop}

-- a piece of one character
abbrev pub alone : State → List ℕ → Munched
alone s cs = record { taken = []; left = cs; state = s }

munch-space : (cs : List ℕ) → munch state.Space cs ≡ alone state.Space cs
unfolding step
munch-space [] = munch-end state.Space
munch-space (c ∷ cs) = munch-stop state.Space c cs refl

munch-break : (cs : List ℕ) → munch state.LineBreak cs ≡ alone state.LineBreak cs
unfolding step
munch-break [] = munch-end state.LineBreak
munch-break (c ∷ cs) = munch-stop state.LineBreak c cs refl

scan-space : (f : Bool) (c : ℕ) (cs : List ℕ) → begin f c ≡ state.Space → scan f c cs ≡ alone state.Space cs
unfolding scan settled
scan-space f c cs e = ap (λ s. settled cs (munch s cs)) e ∙ ap (settled cs) (munch-space cs)

scan-break : (f : Bool) (c : ℕ) (cs : List ℕ) → begin f c ≡ state.LineBreak → scan f c cs ≡ alone state.LineBreak cs
unfolding scan settled
scan-break f c cs e = ap (λ s. settled cs (munch s cs)) e ∙ ap (settled cs) (munch-break cs)

begin-32 : (f : Bool) → begin f 32 ≡ state.Space
unfolding begin is_name_start is_space
begin-32 f = ap (λ x. cond x state.Name state.Space) (is_xid_start-ascii 32 (omega arith))

begin-9 : (f : Bool) → begin f 9 ≡ state.Space
unfolding begin is_name_start is_space
begin-9 f = ap (λ x. cond x state.Name state.Space) (is_xid_start-ascii 9 (omega arith))

begin-10 : (f : Bool) → begin f 10 ≡ state.LineBreak
unfolding begin is_name_start is_space is_line_break
begin-10 f = ap (λ x. cond x state.Name state.LineBreak) (is_xid_start-ascii 10 (omega arith))

begin-13 : (f : Bool) → begin f 13 ≡ state.LineBreak
unfolding begin is_name_start is_space is_line_break
begin-13 f = ap (λ x. cond x state.Name state.LineBreak) (is_xid_start-ascii 13 (omega arith))

pub scan-32 : (f : Bool) (cs : List ℕ) → scan f 32 cs ≡ alone state.Space cs
scan-32 f cs = scan-space f 32 cs (begin-32 f)

pub scan-9 : (f : Bool) (cs : List ℕ) → scan f 9 cs ≡ alone state.Space cs
scan-9 f cs = scan-space f 9 cs (begin-9 f)

pub scan-10 : (f : Bool) (cs : List ℕ) → scan f 10 cs ≡ alone state.LineBreak cs
scan-10 f cs = scan-break f 10 cs (begin-10 f)

pub scan-13 : (f : Bool) (cs : List ℕ) → scan f 13 cs ≡ alone state.LineBreak cs
scan-13 f cs = scan-break f 13 cs (begin-13 f)
