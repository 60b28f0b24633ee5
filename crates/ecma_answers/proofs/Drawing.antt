-- The tokens and comments of a text, drawn one by one.
use Rattle.std.proofs.Common.{◌≡◌, ◌∙◌, ℕ, ◌<◌, Bool, true, false, cond, not, List, [], ◌∷◌, ◌++◌, Option, None, Some, Result, Ok, Err, ap, append-nil, append_assoc, arith, length, refl, subst, sym, true≢false}
use Rattle.std.specs.Prelude.{IfNone, IfOk}
use Rattle.std.specs.Str.{chars}
use Rattle.swc_ecma_parser_common.specs.declared.span.BytePos.{BytePos}
use Rattle.swc_ecma_parser_common.specs.declared.comment.Comment.{Comment}
use Rattle.swc_ecma_parser_token.specs.declared.token.TokenAndSpan.{TokenAndSpan}
use Rattle.swc_ecma_parser_lexer.specs.declared.comment.CommentList.{CommentList}
use Rattle.swc_ecma_parser_lexer.specs.declared.place.Place.{Place}
use Rattle.swc_ecma_parser_lexer.specs.Collected as lexer
use Rattle.swc_ecma_parser_lexer.specs.Collected.{IsReadOn, collected, comments_at}
use Rattle.ecma_estree_text.specs.Places.{Placed}
use Rattle.swc_ecma_parser_input.specs.declared.syntax.Syntax.{Syntax}
use Rattle.swc_ecma_parser_input.specs.TokenSource.{DrawsFrom, IsDrawn, TokenSource, is_out_of_memory}
use Rattle.swc_ecma_parser_lexer.specs.Source.{outset}
use Rattle.swc_ecma_parser_model.specs.Tree.{Tree}
use Rattle.swc_ecma_parser_whole_lexer.specs.declared.form.Goal.{Goal}
use Rattle.swc_ecma_parser_whole_lexer.specs.Comments as commented
use Rattle.swc_ecma_parser_whole_lexer.specs.Source as whole
use Rattle.ecma_answers.specs.declared.options.Language.{Language}
use Rattle.ecma_answers.specs.declared.options.Language.TheVariants as language
use Rattle.ecma_answers.specs.declared.options.Options.{Options}
use Rattle.ecma_answers.specs.Languages.{source_of, with_attributes}
use Rattle.ecma_answers.specs.Written.{AreComments, AreFields, AreFieldsIn, code_goal, comments_of, fields, placed, tokens_of}

-- from one place to a second, and on to a third
pub reads_on : (a b c : CommentList) (p q r : Place) → IsReadOn a p b q → IsReadOn b q c r → IsReadOn a p c r
reads_on a b c p q r one two = record {
  comments = λ h. one.comments (two.lossy h) ∙ two.comments h;
  lossy = λ h. one.lossy (two.lossy h);
  unwanted = λ h. two.unwanted (one.wanted ∙ h) ∙ one.unwanted h;
  wanted = two.wanted ∙ one.wanted;
}

drawn_on : (whole done old new : List TokenAndSpan) (t : TokenAndSpan) → whole ≡ done ++ old → IsDrawn old t new
    → is_out_of_memory t.token ≡ false → whole ≡ (done ++ (t ∷ [])) ++ new
drawn_on whole done old new t e d h =
    e ∙ (ap (λ r. done ++ r) (d.list ∙ ap (λ f. f ∷ new) (sym (d.same h))) ∙ sym (append_assoc done (t ∷ []) new))

-- a token goes from those left to those that were drawn
pub drawn_more : (whole done old new : List TokenAndSpan) (found : Option TokenAndSpan) (t : TokenAndSpan) → whole ≡ done ++ old
    → DrawsFrom old found new → found ≡ Some t → is_out_of_memory t.token ≡ false → whole ≡ (done ++ (t ∷ [])) ++ new
drawn_more whole done old new found t e d f h = drawn_on whole done old new t e (subst (λ it. DrawsFrom old it new) f d) h

fewer_by : (old new : List TokenAndSpan) (t : TokenAndSpan) → IsDrawn old t new → length new < length old
fewer_by old new t d = let e = ap length d.list in omega arith

pub fewer : (old new : List TokenAndSpan) (found : Option TokenAndSpan) (t : TokenAndSpan) → DrawsFrom old found new → found ≡ Some t → length new < length old
fewer old new found t d f = fewer_by old new t (subst (λ it. DrawsFrom old it new) f d)

-- none is left
pub drawn_all : (whole done old new : List TokenAndSpan) (found : Option TokenAndSpan) → whole ≡ done ++ old
    → DrawsFrom old found new → ((t : TokenAndSpan) → found ≡ Some t → ⊥) → done ≡ whole
drawn_all whole done old new None e none n = sym (append-nil done) ∙ (ap (λ r. done ++ r) (sym none.0) ∙ sym e)
drawn_all whole done old new (Some t) e d n = absurd (n t refl)

pub ended_none : {X : Type 0} {P : Type 0} (found : Option X) → IfNone found P → ((x : X) → found ≡ Some x → ⊥) → P
ended_none None h n = h
ended_none (Some x) h n = absurd (n x refl)

none_left : (wanted : Bool) (left : List Comment) → left ≡ [] → cond wanted left [] ≡ []
none_left true left e = e
none_left false left e = refl

-- the comments of a lexer that was read on from the start of a text to its end
pub comments_drawn : (o : Options) (x : Tree) (start : BytePos) (given text : List ℕ) (a b : CommentList) (p q : Place) (got : List Comment)
    → start ≡ record { 0 = 0 } → given ≡ text → collected a p ≡ cond o.comments (lexer.comments start.0 0 (chars given)) []
    → IsReadOn a p b q → got ≡ b.comments.items → b.is_lossy ≡ false → comments_at q ≡ [] → AreComments language.Plain o text x got
comments_drawn o x start given text a b p q got e f new read same lossy ended =
    let whole = new ∙ (ap (λ (s : BytePos). cond o.comments (lexer.comments s.0 0 (chars given)) []) e
    ∙ ap (λ (t : List ℕ). cond o.comments (lexer.comments 0 0 (chars t)) []) f) in
    let none = ap (λ r. b.comments.items ++ r) (none_left b.is_wanted (comments_at q) ended) ∙ append-nil b.comments.items in
    same ∙ sym none ∙ sym (read.comments lossy) ∙ whole

-- those of a lexer of the whole language
pub whole_comments_drawn : (o : Options) (x : Tree) (g : Goal) (start : BytePos) (given text : List ℕ) (a b : CommentList) (before behind got : List Comment)
    → g ≡ code_goal x → start ≡ record { 0 = 0 } → given ≡ text → commented.collected a before ≡ cond o.comments (commented.comments_of g start.0 (chars given)) []
    → commented.IsReadOn a before b behind → got ≡ b.comments.items → b.is_lossy ≡ false → behind ≡ [] → AreComments language.Whole o text x got
whole_comments_drawn o x g start given text a b before behind got c e f new read same lossy ended =
    let whole = new ∙ (ap (λ (h : Goal). cond o.comments (commented.comments_of h start.0 (chars given)) []) c
    ∙ ap (λ (s : BytePos). cond o.comments (commented.comments_of (code_goal x) s.0 (chars given)) []) e
    ∙ ap (λ (t : List ℕ). cond o.comments (commented.comments_of (code_goal x) 0 (chars t)) []) f) in
    let none = ap (λ r. b.comments.items ++ r) (none_left b.is_wanted behind ended) ∙ append-nil b.comments.items in
    same ∙ sym none ∙ sym (read.comments lossy) ∙ whole

-- a lexer begins at its text
pub begins : (syntax : Syntax) (start : BytePos) (given text : List ℕ) → start ≡ record { 0 = 0 } → given ≡ text → outset syntax start (chars given) ≡ outset syntax (record { 0 = 0 }) (chars text)
begins syntax start given text e f = rw (e, f) refl

-- and one of one of the languages
pub plain_begins : (l : Language) (g : Goal) (syntax : Syntax) (start : BytePos) (given text : List ℕ) (s : TokenSource) → l ≡ language.Plain → s ≡ outset syntax start (chars given)
    → start ≡ record { 0 = 0 } → given ≡ text → s ≡ source_of l g syntax text
plain_begins l g syntax start given text s k h e f = rw (k, h, e, f) refl

pub whole_begins : (l : Language) (g : Goal) (syntax asked : Syntax) (start : BytePos) (given text : List ℕ) (s : TokenSource) → l ≡ language.Whole → s ≡ whole.outset g asked start (chars given)
    → asked ≡ with_attributes syntax → start ≡ record { 0 = 0 } → given ≡ text → s ≡ source_of l g syntax text
whole_begins l g syntax asked start given text s k h i e f = rw (k, h, i, e, f) refl

pub fields_drawn : {X E : Type 0} (items : X → List ℕ) (r : Result X E) (l : Language) (o : Options) (text : List ℕ) (x : Tree) (p : Placed) (comments : List Comment)
    → (tokens : List TokenAndSpan) → p ≡ placed o text → tokens ≡ tokens_of l o text x → AreComments l o text x comments
    → IfOk r (λ y. items y ≡ fields o p comments tokens) → IfOk r (λ y. AreFieldsIn l o text x (items y))
fields_drawn items (Ok y) l o text x p comments tokens e f are h =
    (comments, are, h ∙ (ap (λ (q : Placed). fields o q comments tokens) e ∙ ap (λ (ts : List TokenAndSpan). fields o (placed o text) comments ts) f))
fields_drawn items (Err d) l o text x p comments tokens e f are h = h

-- of the plain language, whatever the tree is
pub plain_drawn : {X E : Type 0} (items : X → List ℕ) (r : Result X E) (o : Options) (text : List ℕ) (p : Placed) (comments : List Comment) (tokens : List TokenAndSpan)
    → p ≡ placed o text → tokens ≡ (outset o.syntax (record { 0 = 0 }) (chars text)).left → ((x : Tree) → AreComments language.Plain o text x comments)
    → IfOk r (λ y. items y ≡ fields o p comments tokens) → IfOk r (λ y. (x : Tree) → AreFieldsIn language.Plain o text x (items y))
plain_drawn items (Ok y) o text p comments tokens e f are h =
    λ x. (comments, are x, h ∙ (ap (λ (q : Placed). fields o q comments tokens) e ∙ ap (λ (ts : List TokenAndSpan). fields o (placed o text) comments ts) f))
plain_drawn items (Err d) o text p comments tokens e f are h = h

pub of_plain : {X E : Type 0} (items : X → List ℕ) (r : Result X E) (l : Language) (o : Options) (text : List ℕ) (x : Tree) → l ≡ language.Plain
    → IfOk r (λ y. (z : Tree) → AreFieldsIn language.Plain o text z (items y)) → IfOk r (λ y. AreFieldsIn l o text x (items y))
of_plain items (Ok y) l o text x e h = subst (λ (z : Language). AreFieldsIn z o text x (items y)) (sym e) (h x)
of_plain items (Err d) l o text x e h = h

-- the tokens of a source of the whole language
pub whole_tokens : (o : Options) (text : List ℕ) (x : Tree) (g : Goal) (s : TokenSource) (tokens : List TokenAndSpan) → s ≡ source_of language.Whole g o.syntax text → g ≡ code_goal x
    → tokens ≡ s.left → tokens ≡ tokens_of language.Whole o text x
whole_tokens o text x g s tokens e f h = rw (h, e, f) refl

pub in_language : {X E : Type 0} (items : X → List ℕ) (r : Result X E) (l k : Language) (o : Options) (text : List ℕ) (x : Tree) → l ≡ k
    → IfOk r (λ y. AreFieldsIn k o text x (items y)) → IfOk r (λ y. AreFieldsIn l o text x (items y))
in_language items r l k o text x e h = subst (λ (z : Language). IfOk r (λ y. AreFieldsIn z o text x (items y))) (sym e) h

neither : (a b : Bool) (x y : List ℕ) → not a ≡ true → not b ≡ true → cond a x [] ++ cond b y [] ≡ []
neither false false x y e f = refl
neither true b x y e f = absurd (true≢false (sym e))
neither false true x y e f = absurd (true≢false (sym f))

none_asked : (wanted : Bool) (all : List Comment) → not wanted ≡ true → [] ≡ cond wanted all []
none_asked false all e = refl
none_asked true all e = absurd (true≢false (sym e))

-- neither comments nor tokens are asked for
no_comments : (l : Language) (o : Options) (text : List ℕ) (x : Tree) → not o.comments ≡ true → AreComments l o text x []
no_comments l o text x e = none_asked o.comments (comments_of l text x) e

pub fields_none : (o : Options) (text : List ℕ) (x : Tree) → not o.comments ≡ true → not o.tokens ≡ true → (out : List ℕ) → out ≡ [] → AreFields o text x out
fields_none o text x e f out h = ([], no_comments o.language o text x e, h ∙ sym (neither o.comments o.tokens _ _ e f))
