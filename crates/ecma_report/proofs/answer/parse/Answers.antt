-- What is asked for is a script, a module or a program.
use Rattle.ecma_report.proofs.answer.parse.Goals as goal

pub returns-in-Script-clause-clean : goal.returns-in-Script-clause-clean
returns-in-Script-clause-clean c = rw (c.in-Script.is) c.parse_script.ensures.clean

pub returns-in-Module-clause-clean : goal.returns-in-Module-clause-clean
returns-in-Module-clause-clean c = rw (c.in-Module.is) c.parse_module.ensures.clean

pub returns-in-Program-clause-clean : goal.returns-in-Program-clause-clean
returns-in-Program-clause-clean c = rw (c.in-Program.is) c.parse_program.ensures.clean

pub returns-in-Script-clause-spelled : goal.returns-in-Script-clause-spelled
returns-in-Script-clause-spelled c = rw (c.in-Script.is) c.parse_script.ensures.spelled

pub returns-in-Module-clause-spelled : goal.returns-in-Module-clause-spelled
returns-in-Module-clause-spelled c = rw (c.in-Module.is) c.parse_module.ensures.spelled

pub returns-in-Program-clause-spelled : goal.returns-in-Program-clause-spelled
returns-in-Program-clause-spelled c = rw (c.in-Program.is) c.parse_program.ensures.spelled
