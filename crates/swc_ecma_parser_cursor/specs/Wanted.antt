-- The kind of fault where something that is wanted does not stand.
use Rattle.swc_ecma_parser_error.specs.Kind.{Kind, ExpectedIdent, Unexpected, Expected, ExpectedSemiForExprStmt}
use Rattle.swc_ecma_parser_cursor.specs.declared.wanted.Wanted.{Wanted}
use Rattle.swc_ecma_parser_cursor.specs.declared.wanted.Wanted.TheVariants as wanted

abbrev pub wanted_kind : Wanted → Kind
wanted_kind wanted.Name = ExpectedIdent
wanted_kind wanted.Expression = Unexpected
wanted_kind wanted.StringLiteral = Unexpected
wanted_kind wanted.Member = Unexpected
wanted_kind (wanted.Token spelling) = Expected
wanted_kind (wanted.EndOfExpression span) = ExpectedSemiForExprStmt
