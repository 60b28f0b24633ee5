use Rattle.std.proofs.Common.{◌||◌, not, length, arith, ap, refl, sym, ◌∙◌, subst}
use Rattle.swc_ecma_parser_lexer.specs.declared.lexer.Lexer.{Lexer}
use Rattle.swc_ecma_parser_whole_lexer.specs.Whole.{IsMoved}
use Rattle.swc_ecma_parser_whole_lexer.proofs.Changed.{anew-before, before-shorter, changed, commented, part-long}
use Rattle.swc_ecma_parser_whole_lexer.proofs.CommentSteps.{changed-comments, comment-comments}
use Rattle.swc_ecma_parser_whole_lexer.proofs.Readings.{text-parts}
use Rattle.swc_ecma_parser_whole_lexer.proofs.Turned.{found-long, found-low, found-marks}
use Rattle.swc_ecma_parser_whole_lexer.proofs.whole.WholeLexer.change.Goals as goal

pub change_lost-requires : goal.change_lost-requires
change_lost-requires c = record {
  found = c.requires.found;
  lost = sym c.is_out_of_memory.ensures ∙ c.if-is_out_of_memory.true;
}

pub read_anew-read-requires : goal.read_anew-read-requires
read_anew-read-requires c =
    (c.requires.found.piece.text.now, text-parts c.args.text.now c.args.rest.now c.args.found.now c.args.self.now.lexer.place c.requires.found)

pub go_to-requires : goal.go_to-requires
go_to-requires c =
    let text = c.args.text.now in
    let rest = c.args.rest.now in
    let t = c.args.found.now in
    let self = c.args.self.now in
    let h = c.requires.found in
    let end = c.read_anew-read.result.rest.now in
    let before = anew-before self.goal self.nest (t.had_line_break || not self.has_begun) t.token text rest end t self.lexer.place h c.utf8.text c.read_anew-read.ensures.utf8 c.read_anew-read.ensures.left in
    record {
      low = found-low text rest t self.lexer.place h;
      rest = omega (arith, before-shorter text end before);
      long = found-long text rest t self.lexer.place h;
    }

pub go_to-requires-else-is_comment : goal.go_to-requires-else-is_comment
go_to-requires-else-is_comment c =
    let text = c.args.text.now in
    let rest = c.args.rest.now in
    let t = c.args.found.now in
    let self = c.args.self.now in
    let h = c.requires.found in
    let end = c.read_anew-read.result.rest.now in
    let before = anew-before self.goal self.nest (t.had_line_break || not self.has_begun) t.token text rest end t self.lexer.place h c.utf8.text c.read_anew-read.ensures.utf8 c.read_anew-read.ensures.left in
    record {
      low = found-low text rest t self.lexer.place h;
      rest = omega (arith, before-shorter text end before);
      long = found-long text rest t self.lexer.place h;
    }

pub before-requires : goal.before-requires
before-requires c =
    let text = c.args.text.now in
    let rest = c.args.rest.now in
    let t = c.args.found.now in
    let self = c.args.self.now in
    let h = c.requires.found in
    let end = c.read_anew-read.result.rest.now in
    let before = anew-before self.goal self.nest (t.had_line_break || not self.has_begun) t.token text rest end t self.lexer.place h c.utf8.text c.read_anew-read.ensures.utf8 c.read_anew-read.ensures.left in
    (before.taken, before.parts)

pub replace-requires : goal.replace-requires
replace-requires c =
    let text = c.args.text.now in
    let rest = c.args.rest.now in
    let t = c.args.found.now in
    let self = c.args.self.now in
    let h = c.requires.found in
    let end = c.read_anew-read.result.rest.now in
    let u = c.before-else-is_comment.result.now in
    record {
      marks = found-marks self.goal self.nest (t.had_line_break || not self.has_begun) t.token text rest u end c.read_anew-read.result.form t self.lexer.place h c.before-else-is_comment.utf8 c.before-else-is_comment.ensures c.read_anew-read.ensures.left c.read_anew-read.ensures.form;
      long = part-long text u end t.span.lo.0 4294967296 c.before-else-is_comment.ensures (found-long text rest t self.lexer.place h);
    }

pub returns-then-is_out_of_memory : goal.returns-then-is_out_of_memory
returns-then-is_out_of_memory c = record {
  comment = λ e. absurd (cc e);
  token = λ e. c.change_lost.ensures.drawn;
  comments = c.change_lost.ensures.comments;
  goal = c.change_lost.ensures.goal;
  lexer = c.change_lost.ensures.lexer;
  shorter = λ e. absurd (cc e);
}

pub returns-then-is_comment : goal.returns-then-is_comment
returns-then-is_comment c =
    let text = c.args.text.now in
    let rest = c.args.rest.now in
    let t = c.args.found.now in
    let self = c.args.self.now in
    let h = c.requires.found in
    let end = c.read_anew-read.result.rest.now in
    let new = c.go_to.new.self in
    let before = anew-before self.goal self.nest (t.had_line_break || not self.has_begun) t.token text rest end t self.lexer.place h c.utf8.text c.read_anew-read.ensures.utf8 c.read_anew-read.ensures.left in
    record {
      comment = λ e. commented self.goal new.goal self.nest new.nest self.has_begun new.has_begun text rest end t self.lexer.place new.lexer.place new.lexer.place h c.read_anew-read.result.form
          (sym c.is_out_of_memory.ensures ∙ c.if-is_out_of_memory.false) c.utf8.text c.read_anew-read.ensures.utf8 c.read_anew-read.ensures.form c.read_anew-read.ensures.left (sym c.is_comment.ensures ∙ c.if-is_comment.true)
          c.go_to.ensures.place c.go_to.ensures.goal c.go_to.ensures.nest c.go_to.ensures.begun refl;
      token = λ e. absurd (cc e);
      comments = comment-comments self.goal new.goal self.nest new.nest self.has_begun new.has_begun text rest end t self.lexer.place new.lexer.place new.lexer.place h c.read_anew-read.result.form
          (sym c.is_out_of_memory.ensures ∙ c.if-is_out_of_memory.false) c.utf8.text c.read_anew-read.ensures.utf8 c.read_anew-read.ensures.form c.read_anew-read.ensures.left (sym c.is_comment.ensures ∙ c.if-is_comment.true)
          c.go_to.ensures.place c.go_to.ensures.goal c.go_to.ensures.nest c.go_to.ensures.begun refl;
      goal = c.go_to.ensures.goal;
      lexer = c.go_to.ensures.lexer;
      shorter = λ e. omega (arith, before-shorter text end before, ap length c.go_to.ensures.place.rest);
    }

pub returns-else-is_comment : goal.returns-else-is_comment
returns-else-is_comment c =
    let text = c.args.text.now in
    let rest = c.args.rest.now in
    let t = c.args.found.now in
    let self = c.args.self.now in
    let h = c.requires.found in
    let end = c.read_anew-read.result.rest.now in
    let moved = c.go_to-else-is_comment.new.self in
    let new = c.replace.new.self in
    record {
      comment = λ e. absurd (cc e);
      token = λ e. changed self.goal new.goal self.nest moved.nest new.nest self.has_begun new.has_begun text rest c.before-else-is_comment.result.now end t c.replace.new.found self.lexer.place moved.lexer.place new.lexer.place h c.read_anew-read.result.form
          (sym c.is_out_of_memory.ensures ∙ c.if-is_out_of_memory.false) c.utf8.text c.read_anew-read.ensures.utf8 c.before-else-is_comment.ensures c.read_anew-read.ensures.form c.read_anew-read.ensures.left (sym c.is_comment.ensures ∙ c.if-is_comment.false)
          c.go_to-else-is_comment.ensures.place c.go_to-else-is_comment.ensures.nest c.replace.ensures.nest c.replace.ensures.found
          (c.replace.ensures.goal ∙ c.go_to-else-is_comment.ensures.goal) c.replace.ensures.begun (ap (λ (x : Lexer). x.place) c.replace.ensures.lexer);
      comments = changed-comments self.goal new.goal self.nest moved.nest new.nest self.has_begun new.has_begun text rest c.before-else-is_comment.result.now end t self.lexer.place moved.lexer.place new.lexer.place h c.read_anew-read.result.form
          (sym c.is_out_of_memory.ensures ∙ c.if-is_out_of_memory.false) c.utf8.text c.read_anew-read.ensures.utf8 c.before-else-is_comment.ensures c.read_anew-read.ensures.form c.read_anew-read.ensures.left (sym c.is_comment.ensures ∙ c.if-is_comment.false)
          c.go_to-else-is_comment.ensures.place c.go_to-else-is_comment.ensures.nest c.replace.ensures.nest
          (c.replace.ensures.goal ∙ c.go_to-else-is_comment.ensures.goal) c.replace.ensures.begun (ap (λ (x : Lexer). x.place) c.replace.ensures.lexer);
      goal = c.replace.ensures.goal ∙ c.go_to-else-is_comment.ensures.goal;
      lexer = subst (λ (x : Lexer). IsMoved self.lexer x) (sym c.replace.ensures.lexer) c.go_to-else-is_comment.ensures.lexer;
      shorter = λ e. absurd (cc e);
    }
