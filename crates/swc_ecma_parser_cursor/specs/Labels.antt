-- The labels around, from the outermost in.
use Rattle.std.specs.Prelude.{◌≡◌, List, [], ◌∷◌, ◌++◌}
use Rattle.swc_ecma_parser_model.specs.Tree.{Text}
use Rattle.swc_ecma_parser_reader.specs.State.{State}

-- the innermost is left
abbrev pub LeavesLabel : State → State → Type 0
LeavesLabel s t = (labels : List Text) (text : Text) → s.scope.labels ≡ labels ++ text ∷ [] → t ≡ record s { scope = record s.scope { labels = labels } }
