-- What the parser promises of the tokens, of the tree in the place where it is kept.
use Rattle.swc_ecma_parser_error.specs.Kind.{faults_of}
use Rattle.swc_ecma_parser_grammar.specs.language.Programs as programs
use Rattle.swc_ecma_parser.specs.Headline.{end_of}
use Rattle.ecma_answers.specs.declared.parsing.Tree.TheVariants as tree
use Rattle.ecma_answers.specs.Spelled.{wrapped}
use Rattle.ecma_answers.proofs.Deciding.{of_program, read_as, where_ok}
use Rattle.ecma_answers.proofs.goals.as_program.Goals as goal

pub returns : goal.returns
returns g c =
    let s = g.I.Tokens.seen c.args.tokens in
    let read = c.read_program in
    where_ok c.lasting.result c.lasting.ensures (λ it p. read_as programs.program c.args.limit s (wrapped tree.Program read.result.0) read.result.1.items c.of_program.result it
    c.of_program.ensures.tree c.of_program.ensures.faults (of_program c.args.limit s (faults_of read.result.1.items) (end_of s) read.result.0 read.ensures) p)
