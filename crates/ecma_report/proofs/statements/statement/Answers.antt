use Rattle.ecma_report.proofs.statements.statement.Goals as goal

pub returns-then-may_declare-clause-complete : goal.returns-then-may_declare-clause-complete
returns-then-may_declare-clause-complete g c = rw (c.if-may_declare.true) c.parse_stmt_list_item.ensures.complete

pub returns-clause-complete : goal.returns-clause-complete
returns-clause-complete g c = rw (c.if-may_declare.false) c.parse_stmt.ensures.complete
