-- What is pushed is written first.
use Rattle.std.proofs.Common.{◌≡◌, ℕ, List, [], ◌∷◌, ◌++◌, ap, ◌∙◌, sym, append_assoc, append-nil}
use Rattle.ecma_estree_writer.specs.declared.work.Work.{Work}
use Rattle.ecma_estree_writer.specs.Work.{work_text, pending}
use Rattle.ecma_estree_writer.specs.Source.{Source}

pub pending_push : (t : Source) (xs : List Work) (x : Work) → pending t (xs ++ x ∷ []) ≡ work_text t x ++ pending t xs
pending_push t [] x = sym (append-nil (work_text t x))
pending_push t (y ∷ ys) x = ap (λ r. r ++ work_text t y) (pending_push t ys x) ∙ append_assoc (work_text t x) (pending t ys) (work_text t y)
