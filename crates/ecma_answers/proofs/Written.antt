-- A tree has one text.
use Rattle.std.proofs.Common.{◌≡◌, ◌∙◌, ℕ, List, ap, subst, sym}
use Rattle.swc_ecma_parser_common.specs.declared.comment.Comment.{Comment}
use Rattle.swc_ecma_parser_model.specs.Tree.{Tree}
use Rattle.ecma_estree_writer.specs.Estree.{json, plain}
use Rattle.ecma_estree_writer.specs.Source.{source_of}
use Rattle.ecma_answers.specs.declared.options.Options.{Options}
use Rattle.ecma_answers.specs.Written.{AreFields, IsEstree, fields, placed, tokens_of}

one_behind : (o : Options) (text : List ℕ) (x : Tree) (out other : List ℕ) → AreFields o text x out → AreFields o text x other → out ≡ other
one_behind o text x out other h k =
    let (cs, are, e) = h in
    let (ds, are2, f) = k in
    e ∙ ap (λ (all : List Comment). fields o (placed o text) all (tokens_of o.language o text x)) (are ∙ sym are2) ∙ sym f

pub one_estree : (o : Options) (text : List ℕ) (x y : Tree) → x ≡ y → (out other : List ℕ) → IsEstree o text x out → IsEstree o text y other → out ≡ other
one_estree o text x y s out other h k =
    let (behind, are, e) = h in
    let (behind2, are2, f) = k in
    let both : AreFields o text y behind = subst (λ (t : Tree). AreFields o text t behind) s are in
    e ∙ ap (λ (z : List ℕ). json (source_of (placed o text) z) plain x) (one_behind o text y behind behind2 both are2)
    ∙ ap (λ (t : Tree). json (source_of (placed o text) behind2) plain t) s ∙ sym f
