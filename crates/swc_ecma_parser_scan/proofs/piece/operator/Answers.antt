use Rattle.std.proofs.Common.{arith}
use Rattle.swc_ecma_parser_scan.proofs.Lone.{space-behind-61, space-behind-60, space-behind-62, space-behind-43, space-behind-45, space-behind-42, space-behind-47, space-behind-37, space-behind-124, space-behind-38, space-behind-63}
use Rattle.swc_ecma_parser_scan.proofs.piece.operator.Goals as goal

pub returns-in-61 : goal.returns-in-61
returns-in-61 c = record { ascii = omega arith; alone = λ cs. rw c.in-61.is (space-behind-61 cs) }

pub returns-in-60 : goal.returns-in-60
returns-in-60 c = record { ascii = omega arith; alone = λ cs. rw c.in-60.is (space-behind-60 cs) }

pub returns-in-62 : goal.returns-in-62
returns-in-62 c = record { ascii = omega arith; alone = λ cs. rw c.in-62.is (space-behind-62 cs) }

pub returns-in-43 : goal.returns-in-43
returns-in-43 c = record { ascii = omega arith; alone = λ cs. rw c.in-43.is (space-behind-43 cs) }

pub returns-in-45 : goal.returns-in-45
returns-in-45 c = record { ascii = omega arith; alone = λ cs. rw c.in-45.is (space-behind-45 cs) }

pub returns-in-42 : goal.returns-in-42
returns-in-42 c = record { ascii = omega arith; alone = λ cs. rw c.in-42.is (space-behind-42 cs) }

pub returns-in-47 : goal.returns-in-47
returns-in-47 c = record { ascii = omega arith; alone = λ cs. rw c.in-47.is (space-behind-47 cs) }

pub returns-in-37 : goal.returns-in-37
returns-in-37 c = record { ascii = omega arith; alone = λ cs. rw c.in-37.is (space-behind-37 cs) }

pub returns-in-124 : goal.returns-in-124
returns-in-124 c = record { ascii = omega arith; alone = λ cs. rw c.in-124.is (space-behind-124 cs) }

pub returns-in-38 : goal.returns-in-38
returns-in-38 c = record { ascii = omega arith; alone = λ cs. rw c.in-38.is (space-behind-38 cs) }

pub returns-in-63 : goal.returns-in-63
returns-in-63 c = record { ascii = omega arith; alone = λ cs. rw c.in-63.is (space-behind-63 cs) }
