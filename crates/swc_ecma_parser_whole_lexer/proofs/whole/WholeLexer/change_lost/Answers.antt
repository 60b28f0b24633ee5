use Rattle.std.proofs.Common.{arith, ap, sym, ◌∙◌, subst, nat_eq}
use Rattle.swc_ecma_parser_common.specs.declared.span.BytePos.{BytePos}
use Rattle.swc_ecma_parser_token.specs.declared.kind.TokenKind.{TokenKind}
use Rattle.swc_ecma_parser_lexer.specs.declared.lexer.Lexer.{Lexer}
use Rattle.swc_ecma_parser_nesting.specs.Nesting.{pass}
use Rattle.swc_ecma_parser_whole_lexer.specs.Whole.{kind_of, nest_settled, IsMoved}
use Rattle.swc_ecma_parser_whole_lexer.proofs.Changed.{before-shorter, lost-before, lost-changed, lost-kept, lost-marks, part-long, same-piece}
use Rattle.swc_ecma_parser_whole_lexer.proofs.CommentSteps.{lost-changed-comments, lost-kept-comments}
use Rattle.swc_ecma_parser_whole_lexer.proofs.Turned.{found-long, found-low}
use Rattle.swc_ecma_parser_whole_lexer.proofs.whole.WholeLexer.change_lost.Goals as goal

pub go_to-requires : goal.go_to-requires
go_to-requires c =
    let text = c.args.text.now in
    let rest = c.args.rest.now in
    let t = c.args.found.now in
    let self = c.args.self.now in
    let h = c.requires.found in
    let same = same-piece text rest t self.lexer.place h _ c.in-Some.piece (ap (λ (b : BytePos). nat_eq t.span.lo.0 b.0) c.start_pos.ensures) c.in-Some.ensures in
    let end = c.lost_anew-read.result.rest.now in
    let before = lost-before self.goal self.nest text rest end t self.lexer.place h c.in-Some.piece c.requires.lost same c.utf8.text c.lost_anew-read.ensures.utf8 c.lost_anew-read.ensures.left in
    record {
      low = found-low text rest t self.lexer.place h;
      rest = omega (arith, before-shorter text end before);
      long = found-long text rest t self.lexer.place h;
    }

pub before-requires : goal.before-requires
before-requires c =
    let text = c.args.text.now in
    let rest = c.args.rest.now in
    let t = c.args.found.now in
    let self = c.args.self.now in
    let h = c.requires.found in
    let same = same-piece text rest t self.lexer.place h _ c.in-Some.piece (ap (λ (b : BytePos). nat_eq t.span.lo.0 b.0) c.start_pos.ensures) c.in-Some.ensures in
    let end = c.lost_anew-read.result.rest.now in
    let before = lost-before self.goal self.nest text rest end t self.lexer.place h c.in-Some.piece c.requires.lost same c.utf8.text c.lost_anew-read.ensures.utf8 c.lost_anew-read.ensures.left in
    (before.taken, before.parts)

pub replace-requires : goal.replace-requires
replace-requires c =
    let text = c.args.text.now in
    let rest = c.args.rest.now in
    let t = c.args.found.now in
    let self = c.args.self.now in
    let h = c.requires.found in
    let same = same-piece text rest t self.lexer.place h _ c.in-Some.piece (ap (λ (b : BytePos). nat_eq t.span.lo.0 b.0) c.start_pos.ensures) c.in-Some.ensures in
    let end = c.lost_anew-read.result.rest.now in
    let u = c.before-else-is_kept.result.now in
    record {
      marks = lost-marks self.goal self.nest text rest u end c.lost_anew-read.result.form t self.lexer.place h c.in-Some.piece c.requires.lost same c.before-else-is_kept.utf8 c.before-else-is_kept.ensures c.lost_anew-read.ensures.left c.lost_anew-read.ensures.form;
      long = part-long text u end t.span.lo.0 4294967296 c.before-else-is_kept.ensures (found-long text rest t self.lexer.place h);
    }

pub returns-then-is_kept-clause-drawn : goal.returns-then-is_kept-clause-drawn
returns-then-is_kept-clause-drawn c =
    let text = c.args.text.now in
    let rest = c.args.rest.now in
    let t = c.args.found.now in
    let self = c.args.self.now in
    let h = c.requires.found in
    let piece = c.in-Some.piece in
    let same = same-piece text rest t self.lexer.place h _ piece (ap (λ (b : BytePos). nat_eq t.span.lo.0 b.0) c.start_pos.ensures) c.in-Some.ensures in
    let end = c.lost_anew-read.result.rest.now in
    let moved = c.go_to.new.self in
    let new = c.pass.new.self in
    lost-kept self.goal new.goal self.nest moved.nest new.nest self.has_begun new.has_begun text rest end t self.lexer.place moved.lexer.place new.lexer.place h piece c.lost_anew-read.result.form
    c.requires.lost same c.utf8.text c.utf8.rest c.lost_anew-read.ensures.utf8 c.lost_anew-read.ensures.form c.lost_anew-read.ensures.left (sym c.is_kept.ensures ∙ c.if-is_kept.true)
    c.go_to.ensures.place c.go_to.ensures.nest
    (c.pass.ensures.nest ∙ ap (λ (x : TokenKind). nest_settled (pass moved.nest x c.lost_name.result.now)) c.kind_of.ensures ∙ ap (λ xs. nest_settled (pass moved.nest (kind_of piece.state) xs)) c.lost_name.ensures)
    (c.pass.ensures.goal ∙ c.go_to.ensures.goal) c.pass.ensures.begun (ap (λ (x : Lexer). x.place) c.pass.ensures.lexer)

pub returns-then-is_kept-clause-comments : goal.returns-then-is_kept-clause-comments
returns-then-is_kept-clause-comments c =
    let text = c.args.text.now in
    let rest = c.args.rest.now in
    let t = c.args.found.now in
    let self = c.args.self.now in
    let h = c.requires.found in
    let piece = c.in-Some.piece in
    let same = same-piece text rest t self.lexer.place h _ piece (ap (λ (b : BytePos). nat_eq t.span.lo.0 b.0) c.start_pos.ensures) c.in-Some.ensures in
    let end = c.lost_anew-read.result.rest.now in
    let moved = c.go_to.new.self in
    let new = c.pass.new.self in
    lost-kept-comments self.goal new.goal self.nest moved.nest new.nest self.has_begun new.has_begun text rest end t self.lexer.place moved.lexer.place new.lexer.place h piece c.lost_anew-read.result.form
    c.requires.lost same c.utf8.text c.utf8.rest c.lost_anew-read.ensures.utf8 c.lost_anew-read.ensures.form c.lost_anew-read.ensures.left (sym c.is_kept.ensures ∙ c.if-is_kept.true)
    c.go_to.ensures.place c.go_to.ensures.nest
    (c.pass.ensures.nest ∙ ap (λ (x : TokenKind). nest_settled (pass moved.nest x c.lost_name.result.now)) c.kind_of.ensures ∙ ap (λ xs. nest_settled (pass moved.nest (kind_of piece.state) xs)) c.lost_name.ensures)
    (c.pass.ensures.goal ∙ c.go_to.ensures.goal) c.pass.ensures.begun (ap (λ (x : Lexer). x.place) c.pass.ensures.lexer)

pub returns-then-is_kept-clause-lexer : goal.returns-then-is_kept-clause-lexer
returns-then-is_kept-clause-lexer c = subst (λ (x : Lexer). IsMoved c.args.self.now.lexer x) (sym c.pass.ensures.lexer) c.go_to.ensures.lexer

pub returns-else-is_kept-clause-drawn : goal.returns-else-is_kept-clause-drawn
returns-else-is_kept-clause-drawn c =
    let text = c.args.text.now in
    let rest = c.args.rest.now in
    let t = c.args.found.now in
    let self = c.args.self.now in
    let h = c.requires.found in
    let piece = c.in-Some.piece in
    let same = same-piece text rest t self.lexer.place h _ piece (ap (λ (b : BytePos). nat_eq t.span.lo.0 b.0) c.start_pos.ensures) c.in-Some.ensures in
    let end = c.lost_anew-read.result.rest.now in
    let moved = c.go_to.new.self in
    let new = c.replace.new.self in
    lost-changed self.goal new.goal self.nest moved.nest new.nest self.has_begun new.has_begun text rest c.before-else-is_kept.result.now end t c.replace.new.found self.lexer.place moved.lexer.place new.lexer.place h piece c.lost_anew-read.result.form
    c.requires.lost same c.utf8.text c.lost_anew-read.ensures.utf8 c.before-else-is_kept.ensures c.lost_anew-read.ensures.form c.lost_anew-read.ensures.left (sym c.is_kept.ensures ∙ c.if-is_kept.false)
    c.go_to.ensures.place c.go_to.ensures.nest c.replace.ensures.nest c.replace.ensures.found
    (c.replace.ensures.goal ∙ c.go_to.ensures.goal) c.replace.ensures.begun (ap (λ (x : Lexer). x.place) c.replace.ensures.lexer)

pub returns-else-is_kept-clause-comments : goal.returns-else-is_kept-clause-comments
returns-else-is_kept-clause-comments c =
    let text = c.args.text.now in
    let rest = c.args.rest.now in
    let t = c.args.found.now in
    let self = c.args.self.now in
    let h = c.requires.found in
    let piece = c.in-Some.piece in
    let same = same-piece text rest t self.lexer.place h _ piece (ap (λ (b : BytePos). nat_eq t.span.lo.0 b.0) c.start_pos.ensures) c.in-Some.ensures in
    let end = c.lost_anew-read.result.rest.now in
    let moved = c.go_to.new.self in
    let new = c.replace.new.self in
    lost-changed-comments self.goal new.goal self.nest moved.nest new.nest self.has_begun new.has_begun text rest c.before-else-is_kept.result.now end t self.lexer.place moved.lexer.place new.lexer.place h piece c.lost_anew-read.result.form
    c.requires.lost same c.utf8.text c.lost_anew-read.ensures.utf8 c.before-else-is_kept.ensures c.lost_anew-read.ensures.form c.lost_anew-read.ensures.left (sym c.is_kept.ensures ∙ c.if-is_kept.false)
    c.go_to.ensures.place c.go_to.ensures.nest c.replace.ensures.nest
    (c.replace.ensures.goal ∙ c.go_to.ensures.goal) c.replace.ensures.begun (ap (λ (x : Lexer). x.place) c.replace.ensures.lexer)

pub returns-else-is_kept-clause-lexer : goal.returns-else-is_kept-clause-lexer
returns-else-is_kept-clause-lexer c = subst (λ (x : Lexer). IsMoved c.args.self.now.lexer x) (sym c.replace.ensures.lexer) c.go_to.ensures.lexer
