-- An object stands behind the word, so there are attributes.
use Rattle.std.proofs.Common.{◌∙◌}
use Rattle.swc_ecma_parser_reader.proofs.Objects.{object_alone_is}
use Rattle.swc_ecma_parser_modules.proofs.parts.attributes.Goals as goal

pub present-requires : goal.present-requires
present-requires g c =
    c.attributes.ensures.found
    ∙ object_alone_is c.args.depth (g.P.Cursor.seen c.skip.new.self) (g.T.Trees.expr_of c.in_ok-object.object) (g.P.Cursor.seen c.object_alone.new.p) c.in_ok-object.ensures
