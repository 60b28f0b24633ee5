-- What expressions are made of runs forward.
use Rattle.std.proofs.Common.{◌≡◌, ℕ, ◌≤◌, Bool, true, false, cond, List, [], ◌∷◌, Option, Some, None, refl, sym, ◌∙◌, subst}
use Rattle.std.specs.Prelude.{not, ◌&&◌, ◌||◌, codes}
use Rattle.swc_ecma_parser_common.specs.declared.span.BytePos.{BytePos}
use Rattle.swc_ecma_parser_common.specs.declared.span.Span.{Span}
use Rattle.swc_ecma_parser_error.specs.Kind as faults
use Rattle.swc_ecma_parser_token.specs.declared.kind.TokenKind.TheVariants as kind
use Rattle.swc_ecma_parser_token.specs.declared.token.Token.{Token}
use Rattle.swc_ecma_parser_token.specs.declared.token.Token.TheVariants as token
use Rattle.swc_ecma_parser_token.specs.declared.token.Word.TheVariants as word
use Rattle.swc_ecma_parser_token.specs.declared.token.TokenAndSpan.{TokenAndSpan}
use Rattle.swc_ecma_parser_input.specs.Place.{Place, after}
use Rattle.swc_ecma_parser_model.specs.declared.operators.UnaryOp.{UnaryOp}
use Rattle.swc_ecma_parser_model.specs.declared.operators.UpdateOp.{UpdateOp}
use Rattle.swc_ecma_parser_model.specs.declared.operators.BinaryOp.{BinaryOp}
use Rattle.swc_ecma_parser_model.specs.declared.operators.BinaryOp.TheVariants as binary
use Rattle.swc_ecma_parser_model.specs.declared.operators.AssignOp.{AssignOp}
use Rattle.swc_ecma_parser_model.specs.declared.operators.AssignOp.TheVariants as assign
use Rattle.swc_ecma_parser_model.specs.Forms.{is_simple_target, is_chain, span_of}
use Rattle.swc_ecma_parser_model.specs.Targets.{as_target}
use Rattle.swc_ecma_parser_model.specs.Tree as tree
use Rattle.swc_ecma_parser_model.specs.Tree.{Tree, trees}
use Rattle.swc_ecma_parser_grammar.specs.Follows.{word_at, begins_template, continues_left_side}
use Rattle.swc_ecma_parser_grammar.specs.Looks.{kind_at, breaks_at, sees, first_span, span_at}
use Rattle.swc_ecma_parser_grammar.specs.Names.{may_refer_to_await}
use Rattle.swc_ecma_parser_grammar.specs.language.Begins.{begins_expression}
use Rattle.swc_ecma_parser_grammar.specs.language.Contexts.{may_await, with_in}
use Rattle.swc_ecma_parser_grammar.specs.language.Continues.{continues_conditional}
use Rattle.swc_ecma_parser_grammar.specs.language.Goals.{Class, expression, assignment, unary, callee}
use Rattle.swc_ecma_parser_grammar.specs.language.Operators.{assign_operator, groups_left, mixes, is_unary}
use Rattle.swc_ecma_parser_reader.specs.Expressions.{Cover, Covers, Pieces, regex_of, regex_in, regex_or, regex, text_of, text_in, text_or, template_text, is_tail, is_cooked, first_piece, with_piece, template_turn, template_pieces, template, new_target, private_name, in_word, private_in, chain_of, tagged, tagged_by, named_link, behind_question, chained, behind_called, new_called, literal_of, literal_in, taken, literal, word_property, is_word_at, key_or, literal_key, shorthand_name, shorthand, dotted, ident_expr, this, meta_fault, import_meta, bare_new, closed_left, simple, update_behind, behind_operand, postfix_at, await_allowed, right_class, operator_at, left_operand, unmixed, unassigned, unheaded, heads_arrow, no_covers, unmarked, close, target_or, target, goes_on, inside, brackets, access, spread_element, plain_element, element, arguments_turn, arguments, covered, spread_item, plain_item, item, array_turn, elements, array, computed_key, key, key_value, initialized, initialized_name, initialized_key, bare_key, behind_key, spread_property, method, behind_words, keyed_property, property, object_turn, properties, object, paren, accessed, called, left_turn, left_from, super_call, super_property, super_access, behind_super, super_head, constructed, new_head, import_call, import_head, prefixed, update_before, await_expr, operated, binary_by, binary_turn, binary_from, conditional, assigned_to, assigned, assigned_or, behind_operators, postfixed, continued, closed, assigned_pattern, behind_literal, empty_paren, filled_paren}
use Rattle.swc_ecma_parser_span_order.specs.Forward.{is_forward, forward, all_forward}
use Rattle.swc_ecma_parser_reader.specs.Methods.{MethodForm, FunctionForm, expression_form, class_form, property_form, parameter_form, block_form, modifies, begins_async_method, star, starred, method_words, is_bare}
use Rattle.swc_ecma_parser_reader.specs.State.{State, Reader, pure, Done, More, moved, coded, module_found, fault, fault_at, expect, reference, as_name, loop}
use Rattle.swc_ecma_parser_reader.specs.Words.{any_word}
use Rattle.swc_ecma_parser_reader.specs.Yields.{bare_yield, yielded, behind_yield, yield_expr}
use Rattle.swc_ecma_parser_reader.proofs.Meets.{Meets, Refuses, Turned, meets_then, meets_if, wanted_meets, refuse_meets, loop_answers}
use Rattle.swc_ecma_parser_reader.proofs.expressions.SoundSteps.{reject_meets, meets_as}
use Rattle.swc_ecma_parser_span_order.proofs.Places.{far, Here, Past, Ahead, Passed, Read, ReadPart, ReadMany, Straight, Whole, Part, Many, both, onward, first, taken as took, next, behind, node, reads, reads_part, span_forward, span_reaches, since_forward, past_less, whole_less, part_of}
use Rattle.swc_ecma_parser_span_order.proofs.Steps.{Looked, fault_past, fault_ahead, expect_past, any_word_past, reference_past, private_straight, ident_whole, as_name_past, within_reads, dotted_by}
use Rattle.swc_ecma_parser_span_order.proofs.Trees.{ForwardIf, appended, one_more, own_forward, target_forward, unless_forward}

-- ---- what may still become a pattern

abbrev pub ReadCover : ℕ → Cover → State → Type 0
ReadCover m v t = Whole m v.x t.at

abbrev pub ReadPartCover : ℕ → Cover → State → Type 0
ReadPartCover m v t = Part m v.x t.at

abbrev pub ReadCovers : ℕ → Covers → State → Type 0
ReadCovers m found t = Many m found.xs t.at

abbrev pub StraightCover : Reader Cover → Type 0
StraightCover p = (s : State) → Here s.at → Meets (ReadCover (far (after s.at))) (p s)

pub covers : (p : Reader Cover) → StraightCover p → {m : ℕ} → (s : State) → Ahead m s.at → Meets (ReadCover m) (p s)
covers p below s a = meets_as (p s) (below s a.here) (λ v t h. whole_less a.ahead h)

-- what functions read
pub record FunctionsStraight (function : FunctionForm → Reader Tree) : Type 0 where
  pub expressions : Straight (function expression_form)
  pub classes : Straight (function class_form)
  pub parameters : Straight (function parameter_form)
  pub blocks : (is_async : Bool) → Straight (function (block_form is_async))
  pub methods : (form : MethodForm) (start : Span) (key : Tree) (m : ℕ) (s : State) → start.lo.0 ≤ m → Part m key s.at → Meets (Read m) (function (property_form form start key) s)

-- ---- literals and names

module _ (s : State) (f : Here s.at) where
  -- what has the span of the first token
  leaf : (span : Span) (x : Tree) → span ≡ span_at s.at → forward x ≡ is_forward span → (span_of x).hi ≡ span.hi → Read (far (after s.at)) x (moved s)
  leaf span x e g h = record {
    straight = g ∙ subst (λ (z : Span). is_forward z ≡ true) (sym e) (span_forward s.at f);
    reaches = subst (λ (z : BytePos). far (after s.at) ≤ z.0) (sym h) (subst (λ (z : Span). far (after s.at) ≤ z.hi.0) (sym e) (span_reaches s.at f));
    place = behind f;
  }

  abbrev LiteralHere : Option Tree → Type 0
  LiteralHere (Some x) = Read (far (after s.at)) x (moved s)
  LiteralHere None = Unit {0}

  literal_of_here : (span : Span) (v : Token) → span ≡ span_at s.at → LiteralHere (literal_of span v)
  literal_of_here span (token.Str value raw) e = leaf span (tree.str span value raw) e refl refl
  literal_of_here span (token.Num raw) e = leaf span (tree.num span raw) e refl refl
  literal_of_here span (token.BigInt raw) e = leaf span (tree.big_int span raw) e refl refl
  literal_of_here span (token.Word word.Null) e = leaf span (tree.null span) e refl refl
  literal_of_here span (token.Word word.True) e = leaf span (tree.bool span true) e refl refl
  literal_of_here span (token.Word word.False) e = leaf span (tree.bool span false) e refl refl
  literal_of_here span _ e = tt

  literal_in_here : (ts : List TokenAndSpan) → first_span s.at.last ts ≡ span_at s.at → LiteralHere (literal_in ts)
  literal_in_here [] e = tt
  literal_in_here (t ∷ ts) e = literal_of_here t.span t.token e

  regex_of_here : (span : Span) (v : Token) → span ≡ span_at s.at → LiteralHere (regex_of span v)
  regex_of_here span (token.Regex exp flags) e = leaf span (tree.regex span exp flags) e refl refl
  regex_of_here span _ e = tt

  regex_in_here : (ts : List TokenAndSpan) → first_span s.at.last ts ≡ span_at s.at → LiteralHere (regex_in ts)
  regex_in_here [] e = tt
  regex_in_here (t ∷ ts) e = regex_of_here t.span t.token e

  text_of_here : (span : Span) (v : Token) → span ≡ span_at s.at → LiteralHere (text_of span v)
  text_of_here span (token.Template raw cooked) e = leaf span (tree.quasi span true cooked raw) e refl refl
  text_of_here span (token.TemplateHead raw cooked) e = leaf span (tree.quasi span false cooked raw) e refl refl
  text_of_here span (token.TemplateMiddle raw cooked) e = leaf span (tree.quasi span false cooked raw) e refl refl
  text_of_here span (token.TemplateTail raw cooked) e = leaf span (tree.quasi span true cooked raw) e refl refl
  text_of_here span _ e = tt

  text_in_here : (ts : List TokenAndSpan) → first_span s.at.last ts ≡ span_at s.at → LiteralHere (text_in ts)
  text_in_here [] e = tt
  text_in_here (t ∷ ts) e = text_of_here t.span t.token e

-- a regular expression, and the text of a template
regex_or_reads : (s : State) (f : Here s.at) (o : Option Tree) → LiteralHere s f o → Meets (Read (far (after s.at))) (regex_or o s)
regex_or_reads s f (Some x) h = h
regex_or_reads s f None h = wanted_meets _ faults.Unexpected s

pub regex_straight : Straight regex
unfolding regex span_at
regex_straight s f = regex_or_reads s f (regex_in s.at.left) (regex_in_here s f s.at.left refl)

text_or_reads : (is_tagged : Bool) (s : State) (f : Here s.at) (o : Option Tree) → LiteralHere s f o → Meets (Read (far (after s.at))) (text_or is_tagged o s)
text_or_reads is_tagged s f (Some q) h = meets_if _ (is_tagged || is_cooked q) _ _ (λ _. h) (λ _. reject_meets _ _ (moved s))
text_or_reads is_tagged s f None h = wanted_meets _ faults.Unexpected s

text_straight : (is_tagged : Bool) → Straight (template_text is_tagged)
unfolding template_text span_at
text_straight is_tagged s f = text_or_reads is_tagged s f (text_in s.at.left) (text_in_here s f s.at.left refl)

-- a literal, or nothing was read
abbrev pub ReadIf : ℕ → Option Tree → State → Type 0
ReadIf m (Some x) t = Read m x t
ReadIf m None t = Ahead m t.at

taken_reads : (s : State) (f : Here s.at) (o : Option Tree) → LiteralHere s f o → Meets (ReadIf (far (after s.at))) (taken o s)
taken_reads s f (Some x) h = h
taken_reads s f None h = first f

pub literal_reads : (s : State) → Here s.at → Meets (ReadIf (far (after s.at))) (literal s)
unfolding literal span_at
literal_reads s f = taken_reads s f (literal_in s.at.left) (literal_in_here s f s.at.left refl)

pub word_straight : Straight word_property
unfolding word_property
word_straight s f = meets_then _ (any_word s) _ (any_word_past s f) (λ i t h. ident_whole i t h)

pub ident_straight : Straight ident_expr
unfolding ident_expr
ident_straight s f = meets_then _ (reference faults.Unexpected s) _ (reference_past s f faults.Unexpected) (λ i t h. ident_whole i t h)

key_or_reads : (m : ℕ) (o : Option Tree) (t : State) → ReadIf m o t → Meets (Read m) (key_or o t)
key_or_reads m (Some (tree.str span value raw)) t h = h
key_or_reads m (Some (tree.num span raw)) t h = h
key_or_reads m (Some (tree.big_int span raw)) t h = h
key_or_reads m _ t h = wanted_meets _ faults.ExpectedIdent t

literal_key_straight : Straight literal_key
unfolding literal_key
literal_key_straight s f = meets_then _ (literal s) _ (literal_reads s f) (λ o t h. key_or_reads (far (after s.at)) o t h)

dotted_straight : Straight dotted
unfolding dotted
dotted_straight s f = meets_if _ (sees kind.Hash s.at) _ _ (λ _. private_straight s f) (λ _. word_straight s f)

pub this_straight : Straight this
unfolding this
this_straight s f = node (span_at s.at) _ f.begins (behind f) (λ e. e) refl

-- a name that is its own key
shorthand_reads : {m : ℕ} (x : Tree) (s : State) → Part m x s.at → Meets (ReadPart m) (shorthand x s)
unfolding shorthand_name
shorthand_reads {m} (tree.ident span text) s h = meets_then _ (as_name may_refer_to_await span text s) _ (as_name_past m may_refer_to_await span text s h.place) (λ _ t g. record { straight = h.straight; place = g })
shorthand_reads _ s h = wanted_meets _ faults.Unexpected s

-- ---- steps that read nothing further in

-- the place goes on
pub moved_on : {m : ℕ} {x : Tree} {c d : Place} → Whole m x c → Past m d → Whole m x d
moved_on h g = record { straight = h.straight; reaches = h.reaches; place = g }

-- what is closed stays what it is
pub close_meets : (P : Tree → State → Type 0) (v : Cover) (s : State) → P v.x s → Meets P (close v s)
unfolding close
close_meets P v s h = by_mark v.mark
  where
    by_mark : (o : Option Span) → Meets P (unmarked v.x o s)
    by_mark None = h
    by_mark (Some k) = reject_meets P (fault_at k faults.AssignProperty) s

target_or_reads : {m : ℕ} (x : Tree) (o : Option Tree) (s : State) → Past m s.at → ForwardIf o → Meets (ReadPart m) (target_or x o s)
target_or_reads x (Some p) s h g = record { straight = g; place = h }
target_or_reads x None s h g = reject_meets _ (fault_at (span_of x) faults.InvalidPat) s

pub target_reads : {m : ℕ} (v : Cover) (s : State) → Part m v.x s.at → Meets (ReadPart m) (target v s)
unfolding target
target_reads v s h = target_or_reads v.x (cond v.comma None (as_target v.x)) s h.place (unless_forward v.comma (as_target v.x) (target_forward v.x h.straight))

simple_past : (m : ℕ) (x : Tree) (s : State) → Past m s.at → Meets (Passed m) (simple x s)
unfolding simple
simple_past m x s h = meets_if (Passed m) (is_simple_target x) _ _ (λ _. h) (λ _. reject_meets (Passed m) _ s)

pub closed_left_reads : {m : ℕ} (x : Tree) (s : State) → Read m x s → Meets (Read m) (closed_left x s)
unfolding closed_left
closed_left_reads x s h = meets_if _ (continues_left_side s.at) _ _ (λ _. wanted_meets _ faults.Unexpected s) (λ _. h)

unassigned_reads : {m : ℕ} (x : Tree) (s : State) → Read m x s → Meets (Read m) (unassigned x s)
unfolding unassigned
unassigned_reads x s h = meets_if _ (continues_conditional s.at) _ _ (λ _. wanted_meets _ faults.Unexpected s) (λ _. h)

unheaded_reads : {m : ℕ} (is_async : Bool) (x : Tree) (s : State) → Read m x s → Meets (Read m) (unheaded is_async x s)
unfolding unheaded
unheaded_reads is_async x s h = meets_if _ (heads_arrow is_async x s) _ _ (λ _. wanted_meets _ faults.Unexpected s) (λ _. h)

left_operand_past : (m : ℕ) (op : BinaryOp) (x : Tree) (s : State) → Past m s.at → Meets (Passed m) (left_operand op x s)
unfolding left_operand
left_operand_past m op x s h = meets_if (Passed m) (not (groups_left op) && is_unary x) _ _ (λ _. reject_meets (Passed m) _ s) (λ _. h)

meta_fault_past : (m : ℕ) (span : Span) (s : State) → Past m s.at → Meets (Passed m) (meta_fault span s)
unfolding meta_fault
meta_fault_past m span s h = meets_if (Passed m) s.code.flags.can_be_module _ _ (λ _. h) (λ _. fault_past m s h _)

await_allowed_ahead : (m : ℕ) (w : Span) (s : State) → Ahead m s.at → Meets (Looked m) (await_allowed w s)
unfolding await_allowed
await_allowed_ahead m w s a = meets_if (Looked m) (may_await s.code) _ _ (λ _. a) (λ _. fault_ahead m s a _)

-- what stands before a key
pub star_ahead : (m : ℕ) (s : State) → Ahead m s.at → Meets (Looked m) (star s)
unfolding star
star_ahead m s a = meets_if (Looked m) (sees kind.Mul s.at) _ _ (λ _. onward (took a)) (λ _. a)

pub starred_ahead : (m : ℕ) (is_async : Bool) (s : State) → Ahead m s.at → Meets (Looked m) (starred is_async s)
unfolding starred
starred_ahead m is_async s a = meets_then (Looked m) (star s) _ (star_ahead m s a) (λ _ t h. h)

words_ahead : (m : ℕ) (s : State) → Ahead m s.at → Meets (Looked m) (method_words s)
unfolding method_words
words_ahead m s a = meets_if (Looked m) (modifies (codes "get") s.at) _ _ (λ _. onward (took a)) (λ _. meets_if (Looked m) (modifies (codes "set") s.at) _ _ (λ _. onward (took a))
    (λ _. meets_if (Looked m) (begins_async_method s.at) _ _ (λ _. starred_ahead m true (moved s) (onward (took a))) (λ _. starred_ahead m false s a)))

-- ---- behind an operand, from its start on

module _ (m : ℕ) (start : Span) (b : start.lo.0 ≤ m) where
  update_reads : (x : Tree) (op : UpdateOp) (s : State) → Read m x s → Meets (Read m) (update_behind start x op s)
  unfolding update_behind
  update_reads x op s h = meets_then _ (simple x s) _ (simple_past m x s h.place) (λ _ t g. node start _ b (next g) (λ e. both e h.straight) refl)

  pub behind_operand_reads : (x : Tree) (o : Option UpdateOp) (s : State) → Read m x s → Meets (Read m) (behind_operand start x o s)
  behind_operand_reads x None s h = h
  behind_operand_reads x (Some op) s h = update_reads x op s h

  bare_new_reads : (x : Tree) (s : State) → Read m x s → Meets (Read m) (bare_new start x s)
  unfolding bare_new
  bare_new_reads x s h = node start _ b h.place (λ e. both e (both h.straight refl)) refl

  unmixed_reads : (op : BinaryOp) (x y : Tree) (s : State) → forward x ≡ true → Read m y s → Meets (Read m) (unmixed start op x y s)
  unfolding unmixed
  unmixed_reads op x y s h g = meets_if _ (mixes op x || mixes op y) _ _ (λ _. reject_meets _ _ s) (λ _. node start (tree.bin _ op x y) b g.place (λ e. both e (both h g.straight)) refl)

  new_target_reads : (s : State) → Past m s.at → Meets (Read m) (new_target start s)
  unfolding new_target
  new_target_reads s h = meets_if _ (word_at (codes "target") s.at) _ _ (λ _. node start _ b (next h) (λ e. e) refl) (λ _. wanted_meets _ faults.Unexpected s)

  import_meta_reads : (s : State) → Past m s.at → Meets (Read m) (import_meta start s)
  unfolding import_meta
  import_meta_reads s h = meets_if _ (word_at (codes "meta") s.at) _ _
      (λ _. meets_then _ (meta_fault _ (module_found (moved s))) _ (meta_fault_past m _ (module_found (moved s)) (next h)) (λ _ t g. moved_on (node start _ b (next h) (λ e. e) refl) g))
      (λ _. wanted_meets _ faults.Unexpected s)

  bare_yield_reads : (s : State) → Past m s.at → Meets (Read m) (bare_yield start s)
  unfolding bare_yield
  bare_yield_reads s h = node start _ b h (λ e. both e refl) refl

-- `in` behind a private name
in_word_past : (m : ℕ) (s : State) → Past m s.at → Meets (Passed m) (in_word s)
unfolding in_word
in_word_past m s h = meets_if (Passed m) (sees kind.In s.at && s.code.flags.include_in_expr) _ _ (λ _. next h) (λ _. wanted_meets (Passed m) faults.Unexpected s)

-- the pieces of a template so far
pub record PiecesRead (m : ℕ) (found : Pieces) (c : Place) : Type 0 where
  pub exprs : all_forward (trees found.exprs) ≡ true
  pub quasis : all_forward (trees found.quasis) ≡ true
  pub place : Past m c

abbrev pub ReadPieces : ℕ → Pieces → State → Type 0
ReadPieces m found t = PiecesRead m found t.at

-- a link of an optional chain
chain_reads : {m : ℕ} (optional : Bool) (y : Tree) (s : State) → Read m y s → Read m (chain_of optional y) s
chain_reads optional y s h = record { straight = both (own_forward y h.straight) h.straight; reaches = h.reaches; place = h.place }

link_reads : {m : ℕ} (b : Bool) (y : Tree) (s : State) → Read m y s → Read m (cond b (chain_of false y) y) s
link_reads true y s h = chain_reads false y s h
link_reads false y s h = h

-- ---- what is read one level further in: expressions, and assignment expressions that may still become patterns

module _ (inner : Class → Reader Tree) (cover : Reader Cover) (below : (class : Class) → Straight (inner class)) (below_cover : StraightCover cover) where
  pub inside_reads : (class : Class) {m : ℕ} (s : State) → Ahead m s.at → Meets (Read m) (inside inner cover class s)
  unfolding inside
  inside_reads class s a = within_reads (inner class) (below class) with_in s a

  pub covered_reads : {m : ℕ} (s : State) → Ahead m s.at → Meets (ReadCover m) (covered inner cover s)
  unfolding covered
  covered_reads {m} s a = let t = coded (with_in s.code) s in meets_then _ (cover t) _ (covers cover below_cover {m = m} t a) (λ v u h. h)

  -- ---- accesses and arguments

  brackets_straight : Straight (brackets inner cover)
  unfolding brackets
  brackets_straight s f = meets_then _ (inside inner cover expression (moved s)) _ (inside_reads expression {m = far (after s.at)} (moved s) (onward (behind f))) (λ x t h.
      meets_then _ (expect kind.RBracket t) _ (expect_past _ kind.RBracket t h.place) (λ _ u g. node (span_at s.at) _ f.begins g (λ e. both e h.straight) refl))

  access_straight : Straight (access inner cover)
  unfolding access
  access_straight s f = meets_if _ (sees kind.Dot s.at) _ _ (λ _. reads dotted dotted_straight (moved s) (onward (behind f))) (λ _. brackets_straight s f)

  spread_straight : Straight (spread_element inner cover)
  unfolding spread_element
  spread_straight s f = let g = behind f in meets_then _ (inside inner cover assignment (moved s)) _ (inside_reads assignment (moved s) (first g.here)) (λ x t h. let d = dotted_by s f x t.at h in
      record { straight = both d.dots (both d.span d.whole.straight); reaches = d.whole.reaches; place = d.whole.place })

  plain_straight : Straight (plain_element inner cover)
  unfolding plain_element
  plain_straight s f = meets_then _ (inside inner cover assignment s) _ (inside_reads assignment s (first f)) (λ x t h.
      record { straight = both (own_forward x h.straight) h.straight; reaches = h.reaches; place = h.place })

  element_straight : Straight (element inner cover)
  unfolding element
  element_straight s f = meets_if _ (sees kind.DotDotDot s.at) _ _ (λ _. spread_straight s f) (λ _. plain_straight s f)

  arguments_reads : (commas : Bool) {m : ℕ} (s : State) → Ahead m s.at → Meets (ReadMany m) (arguments inner cover commas s)
  unfolding arguments arguments_turn
  arguments_reads commas {m} s a = loop_answers (arguments_turn inner cover commas) (ReadMany m) (ReadMany m) Refuses
      (λ found t g. meets_if _ (sees kind.RParen t.at) _ _ (λ _. record { straight = g.straight; place = next g.place })
      (λ _. meets_then _ (element inner cover t) _ (reads_part (element inner cover) element_straight {m = m} t (onward g.place)) (λ x u h. let k = one_more g h in
      meets_if _ (sees kind.RParen u.at) _ _ (λ _. k) (λ _. meets_then _ (expect kind.Comma u) _ (expect_past m kind.Comma u k.place) (λ _ v j.
      meets_if _ (not commas && sees kind.RParen v.at) _ _ (λ _. meets_then _ (fault _ v) _ (fault_past m v j _) (λ _ w i. record { straight = k.straight; place = i }))
      (λ _. record { straight = k.straight; place = j }))))))
      (λ _. tt) [] (moved s) (record { straight = refl; place = took a })

  -- ---- arrays

  spread_item_reads : (s : State) → Here s.at → Meets (ReadPartCover (far (after s.at))) (spread_item inner cover s)
  unfolding spread_item
  spread_item_reads s f = let g = behind f in meets_then _ (covered inner cover (moved s)) _ (covered_reads (moved s) (first g.here)) (λ v t h. let d = dotted_by s f v.x t.at h in
      record { straight = both d.dots (both d.span d.whole.straight); place = d.whole.place })

  plain_item_reads : (s : State) → Here s.at → Meets (ReadPartCover (far (after s.at))) (plain_item inner cover s)
  unfolding plain_item
  plain_item_reads s f = meets_then _ (covered inner cover s) _ (covered_reads s (first f)) (λ v t h. record { straight = both (own_forward v.x h.straight) h.straight; place = h.place })

  item_reads : {m : ℕ} (s : State) → Ahead m s.at → Meets (ReadPartCover m) (item inner cover s)
  unfolding item
  item_reads s a = meets_as (item inner cover s) (meets_if (ReadPartCover (far (after s.at))) (sees kind.DotDotDot s.at) _ _ (λ _. spread_item_reads s a.here) (λ _. plain_item_reads s a.here))
      (λ v t h. record { straight = h.straight; place = past_less a.ahead h.place })

  array_turns : (m : ℕ) (s : State) → Past m s.at → Meets (ReadCovers m) (loop (array_turn inner cover) no_covers s)
  unfolding array_turn
  array_turns m s a = loop_answers (array_turn inner cover) (ReadCovers m) (ReadCovers m) Refuses
      (λ found t g. meets_if _ (sees kind.RBracket t.at) _ _ (λ _. record { straight = g.straight; place = next g.place })
      (λ _. meets_if _ (sees kind.Comma t.at) _ _ (λ _. one_more g (record { straight = refl; place = next g.place }))
      (λ _. meets_then _ (item inner cover t) _ (item_reads {m = m} t (onward g.place)) (λ v u h. let k = one_more g h in
      meets_if _ (sees kind.RBracket u.at) _ _ (λ _. k) (λ _. meets_then _ (expect kind.Comma u) _ (expect_past m kind.Comma u k.place) (λ _ w j. record { straight = k.straight; place = j }))))))
      (λ _. tt) no_covers s (record { straight = refl; place = a })

  pub array_straight : StraightCover (array inner cover)
  unfolding array elements
  array_straight s f = meets_then _ (loop (array_turn inner cover) no_covers (moved s)) _ (array_turns (far (after s.at)) (moved s) (behind f)) (λ found t h.
      node (span_at s.at) _ f.begins h.place (λ e. both e h.straight) refl)

  -- ---- objects

  computed_straight : Straight (computed_key inner cover)
  unfolding computed_key
  computed_straight s f = meets_then _ (inside inner cover assignment (moved s)) _ (inside_reads assignment {m = far (after s.at)} (moved s) (onward (behind f))) (λ x t h.
      meets_then _ (expect kind.RBracket t) _ (expect_past _ kind.RBracket t h.place) (λ _ u g. node (span_at s.at) _ f.begins g (λ e. both e h.straight) refl))

  pub key_straight : Straight (key inner cover)
  unfolding key
  key_straight s f = meets_if _ (is_word_at s.at) _ _ (λ _. word_straight s f) (λ _. meets_if _ (sees kind.LBracket s.at) _ _ (λ _. computed_straight s f) (λ _. literal_key_straight s f))

  spread_property_reads : (s : State) → Here s.at → Meets (ReadPartCover (far (after s.at))) (spread_property inner cover s)
  unfolding spread_property
  spread_property_reads s f = let g = behind f in meets_then _ (covered inner cover (moved s)) _ (covered_reads (moved s) (first g.here)) (λ v t h. let d = dotted_by s f v.x t.at h in
      record { straight = both d.dots (both d.span d.whole.straight); place = d.whole.place })

  module _ (m : ℕ) (start : Span) (b : start.lo.0 ≤ m) where
    key_value_reads : (x : Tree) (s : State) → Part m x s.at → Meets (ReadPartCover m) (key_value inner cover start x s)
    unfolding key_value
    key_value_reads x s h = meets_then _ (covered inner cover (moved s)) _ (covered_reads {m = m} (moved s) (onward (next h.place))) (λ v t g.
        part_of (node start (tree.key_value_prop _ x v.x) b g.place (λ e. both e (both h.straight g.straight)) refl))

    initialized_reads : (x : Tree) (s : State) → Part m x s.at → Meets (ReadPartCover m) (initialized inner cover start x s)
    unfolding initialized
    initialized_reads x s h = meets_then _ (inside inner cover assignment (moved s)) _ (inside_reads assignment {m = m} (moved s) (onward (next h.place))) (λ y t g.
        part_of (node start (tree.assign_prop _ x y) b g.place (λ e. both e (both h.straight g.straight)) refl))

    initialized_key_reads : (x : Tree) (s : State) → Part m x s.at → Meets (ReadPartCover m) (initialized_key inner cover start x s)
    unfolding initialized_name
    initialized_key_reads (tree.ident span text) s h = meets_then _ (as_name may_refer_to_await span text s) _ (as_name_past m may_refer_to_await span text s h.place) (λ _ t g.
        initialized_reads (tree.ident span text) t (record { straight = h.straight; place = g }))
    initialized_key_reads _ s h = wanted_meets _ faults.Unexpected s

    bare_key_reads : (x : Tree) (s : State) → Part m x s.at → Meets (ReadPartCover m) (bare_key inner cover x s)
    unfolding bare_key
    bare_key_reads x s h = meets_then _ (shorthand x s) _ (shorthand_reads x s h) (λ y t g. g)

    behind_key_reads : (x : Tree) (s : State) → Part m x s.at → Meets (ReadPartCover m) (behind_key inner cover start x s)
    unfolding behind_key
    behind_key_reads x s h = meets_if _ (sees kind.Colon s.at) _ _ (λ _. key_value_reads x s h) (λ _. meets_if _ (sees kind.Assign s.at) _ _ (λ _. initialized_key_reads x s h) (λ _. bare_key_reads x s h))

  module _ (function : FunctionForm → Reader Tree) (below_function : FunctionsStraight function) where
    keyed_reads : (s : State) → Here s.at → Meets (ReadPartCover (far (after s.at))) (keyed_property inner cover function s)
    unfolding keyed_property behind_words method
    keyed_reads s f = let m = far (after s.at) in meets_then _ (method_words s) _ (words_ahead (far (after s.at)) s (first f)) (λ form t a.
        meets_then _ (key inner cover t) _ (reads_part (key inner cover) key_straight t a) (λ x u h.
        meets_if _ (is_bare form && not (sees kind.LParen u.at)) _ _ (λ _. behind_key_reads (far (after s.at)) (span_at s.at) f.begins x u h)
        (λ _. meets_then _ (function (property_form form (span_at s.at) x) u) _ (below_function.methods form (span_at s.at) x (far (after s.at)) u f.begins h) (λ y v g. part_of g))))

    property_reads : {m : ℕ} (s : State) → Ahead m s.at → Meets (ReadPartCover m) (property inner cover function s)
    unfolding property
    property_reads s a = meets_as (property inner cover function s) (meets_if (ReadPartCover (far (after s.at))) (sees kind.DotDotDot s.at) _ _ (λ _. spread_property_reads s a.here) (λ _. keyed_reads s a.here))
        (λ v t h. record { straight = h.straight; place = past_less a.ahead h.place })

    object_turns : (m : ℕ) (s : State) → Past m s.at → Meets (ReadCovers m) (loop (object_turn inner cover function) no_covers s)
    unfolding object_turn
    object_turns m s a = loop_answers (object_turn inner cover function) (ReadCovers m) (ReadCovers m) Refuses
        (λ found t g. meets_if _ (sees kind.RBrace t.at) _ _ (λ _. record { straight = g.straight; place = next g.place })
        (λ _. meets_then _ (property inner cover function t) _ (property_reads {m = m} t (onward g.place)) (λ v u h. let k = one_more g h in
        meets_if _ (sees kind.RBrace u.at) _ _ (λ _. k) (λ _. meets_then _ (expect kind.Comma u) _ (expect_past m kind.Comma u k.place) (λ _ w j. record { straight = k.straight; place = j })))))
        (λ _. tt) no_covers s (record { straight = refl; place = a })

    pub object_straight : StraightCover (object inner cover function)
    unfolding object properties
    object_straight s f = meets_then _ (loop (object_turn inner cover function) no_covers (moved s)) _ (object_turns (far (after s.at)) (moved s) (behind f)) (λ found t h.
        node (span_at s.at) _ f.begins h.place (λ e. both e h.straight) refl)

  pub paren_straight : Straight (paren inner cover)
  unfolding paren empty_paren filled_paren
  paren_straight s f = meets_if _ (sees kind.RParen (after s.at)) _ _ (λ _. wanted_meets _ faults.Unexpected (moved (moved s)))
      (λ _. meets_then _ (inside inner cover expression (moved s)) _ (inside_reads expression {m = far (after s.at)} (moved s) (onward (behind f))) (λ x t h.
      meets_then _ (expect kind.RParen t) _ (expect_past _ kind.RParen t h.place) (λ _ u g. node (span_at s.at) _ f.begins g (λ e. both e h.straight) refl)))

  -- ---- templates

  piece_turned : (m : ℕ) (is_tagged b : Bool) (x : Pieces) (s : State) → ReadPieces m x s → Turned (template_turn inner cover is_tagged) (ReadPieces m) (ReadPieces m) Refuses (cond b (Done x) (More x)) s
  piece_turned m is_tagged true x s h = h
  piece_turned m is_tagged false x s h = h

  template_turns : (m : ℕ) (is_tagged : Bool) (found : Pieces) (s : State) → ReadPieces m found s → Meets (ReadPieces m) (loop (template_turn inner cover is_tagged) found s)
  unfolding template_turn
  template_turns m is_tagged found s h = loop_answers (template_turn inner cover is_tagged) (ReadPieces m) (ReadPieces m) Refuses
      (λ ps t g. meets_then _ (inside inner cover expression t) _ (inside_reads expression {m = m} t (onward g.place)) (λ e u k.
      meets_if _ (sees kind.TemplateMiddle u.at || sees kind.TemplateTail u.at) _ _
      (λ _. meets_then _ (template_text is_tagged u) _ (reads (template_text is_tagged) (text_straight is_tagged) {m = m} u (onward k.place)) (λ q v j. piece_turned m is_tagged (is_tail q) (with_piece ps e q) v
      (record { exprs = appended ps.exprs e g.exprs k.straight; quasis = appended ps.quasis q g.quasis j.straight; place = j.place })))
      (λ _. refuse_meets _ faults.Expected u))) (λ _. tt) found s h

  template_from_reads : (m : ℕ) (is_tagged : Bool) (q : Tree) (b : Bool) (s : State) → ReadPieces m (first_piece q) s
      → Meets (ReadPieces m) (cond b (pure (first_piece q)) (loop (template_turn inner cover is_tagged) (first_piece q)) s)
  template_from_reads m is_tagged q true s h = h
  template_from_reads m is_tagged q false s h = template_turns m is_tagged (first_piece q) s h

  pieces_reads : (is_tagged : Bool) {m : ℕ} (s : State) → Ahead m s.at → Meets (ReadPieces m) (template_pieces inner cover is_tagged s)
  unfolding template_pieces
  pieces_reads is_tagged {m} s a = meets_then _ (template_text is_tagged s) _ (reads (template_text is_tagged) (text_straight is_tagged) {m = m} s a) (λ q t h.
      template_from_reads m is_tagged q (is_tail q) t (record { exprs = refl; quasis = both h.straight refl; place = h.place }))

  pub template_straight : Straight (template inner cover)
  unfolding template
  template_straight s f = meets_then _ (template_pieces inner cover false s) _ (pieces_reads false {m = far (after s.at)} s (first f)) (λ found t h.
      node (span_at s.at) _ f.begins h.place (λ e. both e (both h.exprs h.quasis)) refl)

  -- ---- left-hand-side expressions

  module _ (m : ℕ) (start : Span) (b : start.lo.0 ≤ m) where
    pub accessed_reads : (x : Tree) (s : State) → Read m x s → Meets (Read m) (accessed inner cover start x s)
    unfolding accessed
    accessed_reads x s h = meets_then _ (access inner cover s) _ (reads (access inner cover) access_straight s (onward h.place)) (λ p t g. node start _ b g.place (λ e. both e (both h.straight g.straight)) refl)

    pub called_reads : (x : Tree) (s : State) → Read m x s → Meets (Read m) (called inner cover start x s)
    unfolding called
    called_reads x s h = meets_then _ (arguments inner cover true s) _ (arguments_reads true s (onward h.place)) (λ xs t g. node start _ b g.place (λ e. both e (both h.straight g.straight)) refl)

    tagged_reads : (x : Tree) (s : State) → Read m x s → Meets (Read m) (tagged inner cover start x s)
    unfolding tagged tagged_by
    tagged_reads x s h = let a = onward h.place in meets_if _ (is_chain x) _ _ (λ _. wanted_meets _ faults.Unexpected s)
        (λ _. meets_then _ (template_pieces inner cover true s) _ (pieces_reads true {m = far (after s.at)} s (first a.here)) (λ found t g.
        node start _ b (past_less a.ahead g.place) (λ e. both e (both h.straight (both (since_forward (span_at s.at) a.here.begins g.place) (both g.exprs g.quasis)))) refl))

    chained_reads : (x : Tree) (s : State) → Read m x s → Meets (Read m) (chained inner cover start x s)
    unfolding chained behind_question named_link
    chained_reads x s h =
        let g : Read m x (moved s) = moved_on h (next h.place) in
        meets_then {P = Read m} _ (behind_question inner cover start x (moved s)) _
        (meets_if _ (sees kind.LParen (after s.at)) _ _ (λ _. called_reads x (moved s) g)
        (λ _. meets_if _ (sees kind.LBracket (after s.at)) _ _ (λ _. accessed_reads x (moved s) g)
        (λ _. meets_then _ (dotted (moved s)) _ (reads dotted dotted_straight (moved s) (onward g.place)) (λ p t k. node start _ b k.place (λ e. both e (both h.straight k.straight)) refl))))
        (λ y t k. chain_reads true y t k)

    pub left_from_reads : (calls : Bool) (x : Tree) (s : State) → Read m x s → Meets (Read m) (left_from inner cover calls start x s)
    unfolding left_from left_turn
    left_from_reads calls x s h = loop_answers (left_turn inner cover calls start) (Read m) (Read m) Refuses
        (λ y t g. meets_if _ (sees kind.Dot t.at || sees kind.LBracket t.at) _ _ (λ _. meets_then _ (accessed inner cover start y t) _ (accessed_reads y t g) (λ z u k. link_reads (is_chain y) z u k))
        (λ _. meets_if _ (calls && sees kind.LParen t.at) _ _ (λ _. meets_then _ (called inner cover start y t) _ (called_reads y t g) (λ z u k. link_reads (is_chain y) z u k))
        (λ _. meets_if _ (begins_template t.at) _ _ (λ _. meets_then _ (tagged inner cover start y t) _ (tagged_reads y t g) (λ z u k. k))
        (λ _. meets_if _ (calls && sees kind.QuestionDot t.at) _ _ (λ _. meets_then _ (chained inner cover start y t) _ (chained_reads y t g) (λ z u k. k)) (λ _. g)))))
        (λ _. tt) x s h

    constructed_reads : (x : Tree) (s : State) → Read m x s → Meets (Read m) (constructed inner cover start x s)
    unfolding constructed
    constructed_reads x s h = meets_then _ (arguments inner cover true s) _ (arguments_reads true s (onward h.place)) (λ xs t g. node start _ b g.place (λ e. both e (both h.straight g.straight)) refl)

    -- what begins with a word alone
    module _ (w : is_forward start ≡ true) where
      super_property_reads : (s : State) → Past m s.at → Meets (ReadPart m) (super_property inner cover s)
      unfolding super_property
      super_property_reads s h = meets_if _ (sees kind.Dot s.at) _ _ (λ _. reads_part word_property word_straight (moved s) (onward (next h))) (λ _. reads_part (brackets inner cover) brackets_straight s (onward h))

      behind_super_reads : (calls : Bool) (s : State) → Past m s.at → Meets (Read m) (behind_super inner cover calls start s)
      unfolding behind_super super_call super_access
      behind_super_reads calls s h = meets_if _ (calls && sees kind.LParen s.at) _ _
          (λ _. meets_then _ (arguments inner cover true s) _ (arguments_reads true s (onward h)) (λ xs t g. node start _ b g.place (λ e. both e (both w g.straight)) refl))
          (λ _. meets_if _ (sees kind.Dot s.at || sees kind.LBracket s.at) _ _
          (λ _. meets_then _ (super_property inner cover s) _ (super_property_reads s h) (λ p t g. node start _ b g.place (λ e. both e (both w g.straight)) refl))
          (λ _. reject_meets _ _ s))

      import_call_reads : (s : State) → Past m s.at → Meets (Read m) (import_call inner cover start s)
      unfolding import_call
      import_call_reads s h = meets_then _ (arguments inner cover s.code.setting.import_attributes s) _ (arguments_reads s.code.setting.import_attributes s (onward h)) (λ xs t g.
          node start _ b g.place (λ e. both e (both w g.straight)) refl)

  pub super_straight : (calls : Bool) → Straight (super_head inner cover calls)
  unfolding super_head
  super_straight calls s f = behind_super_reads (far (after s.at)) (span_at s.at) f.begins (span_forward s.at f) calls (moved s) (behind f)

  pub new_straight : Straight (new_head inner cover)
  unfolding new_head new_called behind_called
  new_straight s f = meets_if _ (sees kind.NewDot (after s.at)) _ _ (λ _. new_target_reads (far (after s.at)) (span_at s.at) f.begins (moved (moved s)) (next (behind f)))
      (λ _. meets_then _ (inner callee (moved s)) _ (reads (inner callee) (below callee) {m = far (after s.at)} (moved s) (onward (behind f))) (λ x t h.
      meets_if _ (sees kind.LParen t.at) _ _ (λ _. constructed_reads (far (after s.at)) (span_at s.at) f.begins x t h)
      (λ _. meets_if _ (sees kind.QuestionDot t.at) _ _ (λ _. wanted_meets _ faults.Unexpected t) (λ _. bare_new_reads (far (after s.at)) (span_at s.at) f.begins x t h))))

  pub import_straight : Straight (import_head inner cover)
  unfolding import_head
  import_straight s f = meets_if _ (sees kind.LParen (after s.at)) _ _ (λ _. import_call_reads (far (after s.at)) (span_at s.at) f.begins (span_forward s.at f) (moved s) (behind f))
      (λ _. meets_if _ (sees kind.Dot (after s.at)) _ _ (λ _. import_meta_reads (far (after s.at)) (span_at s.at) f.begins (moved (moved s)) (next (behind f))) (λ _. wanted_meets _ faults.Unexpected (moved s)))

  -- ---- unary operators and `await`

  pub prefixed_straight : (op : UnaryOp) → Straight (prefixed inner cover op)
  unfolding prefixed
  prefixed_straight op s f = meets_then _ (inner unary (moved s)) _ (reads (inner unary) (below unary) {m = far (after s.at)} (moved s) (onward (behind f))) (λ x t h.
      node (span_at s.at) _ f.begins h.place (λ e. both e h.straight) refl)

  pub update_straight : (op : UpdateOp) → Straight (update_before inner cover op)
  unfolding update_before
  update_straight op s f = meets_then _ (inner unary (moved s)) _ (reads (inner unary) (below unary) {m = far (after s.at)} (moved s) (onward (behind f))) (λ x t h.
      meets_then _ (simple x t) _ (simple_past _ x t h.place) (λ _ u g. node (span_at s.at) _ f.begins g (λ e. both e h.straight) refl))

  pub await_straight : Straight (await_expr inner cover)
  unfolding await_expr
  await_straight s f = meets_then _ (await_allowed (span_at s.at) s) _ (await_allowed_ahead (far (after s.at)) (span_at s.at) s (first f)) (λ _ t a.
      meets_then _ (inner unary (moved t)) _ (reads (inner unary) (below unary) {m = far (after s.at)} (moved t) (onward (took a))) (λ x u h.
      node (span_at s.at) _ f.begins h.place (λ e. both e h.straight) refl))

  -- ---- `yield`

  pub yield_straight : Straight (yield_expr inner)
  unfolding yield_expr behind_yield yielded
  yield_straight s f = let m = far (after s.at) in meets_if _ (breaks_at (after s.at)) _ _ (λ _. bare_yield_reads m (span_at s.at) f.begins (moved s) (behind f))
      (λ _. meets_if _ (sees kind.Mul (after s.at)) _ _
      (λ _. meets_then _ (inner assignment (moved (moved s))) _ (reads (inner assignment) (below assignment) {m = m} (moved (moved s)) (onward (next (behind f)))) (λ x t h. node (span_at s.at) _ f.begins h.place (λ e. both e h.straight) refl))
      (λ _. meets_if _ (begins_expression s.code.flags (after s.at)) _ _
      (λ _. meets_then _ (inner assignment (moved s)) _ (reads (inner assignment) (below assignment) {m = m} (moved s) (onward (behind f))) (λ x t h. node (span_at s.at) _ f.begins h.place (λ e. both e h.straight) refl))
      (λ _. bare_yield_reads m (span_at s.at) f.begins (moved s) (behind f))))

  -- ---- a private name before `in`

  pub private_in_straight : Straight (private_in inner cover)
  unfolding private_in
  private_in_straight s f = let m = far (after s.at) in meets_then _ (private_name s) _ (private_straight s f) (λ x t h.
      meets_then _ (in_word t) _ (in_word_past m t h.place) (λ _ u g.
      meets_then _ (inner (right_class binary.In) u) _ (reads (inner (right_class binary.In)) (below (right_class binary.In)) {m = m} u (onward g)) (λ y v k.
      node (span_at s.at) _ f.begins k.place (λ e. both e (both h.straight k.straight)) refl)))

  -- ---- binary operators, conditionals and assignments

  module _ (m : ℕ) (start : Span) (b : start.lo.0 ≤ m) where
    operated_reads : (x : Tree) (op : BinaryOp) (s : State) → Read m x s → Meets (Read m) (operated inner cover start x op s)
    unfolding operated
    operated_reads x op s h = meets_then _ (left_operand op x s) _ (left_operand_past m op x s h.place) (λ _ t g.
        meets_then _ (inner (right_class op) (moved t)) _ (reads (inner (right_class op)) (below (right_class op)) (moved t) (onward (next g))) (λ y u k. unmixed_reads m start b op x y u h.straight k))

    pub binary_from_reads : (n : ℕ) (x : Tree) (s : State) → Read m x s → Meets (Read m) (binary_from inner cover n start x s)
    unfolding binary_from binary_turn
    binary_from_reads n x s h = loop_answers (binary_turn inner cover n start) (Read m) (Read m) Refuses (λ y t g. by_operator y t g (operator_at n t)) (λ _. tt) x s h
      where
        by_operator : (y : Tree) (t : State) → Read m y t → (o : Option BinaryOp) → Meets (Turned (binary_turn inner cover n start) (Read m) (Read m) Refuses) (binary_by inner cover start y o t)
        by_operator y t g None = g
        by_operator y t g (Some op) = meets_then _ (operated inner cover start y op t) _ (operated_reads y op t g) (λ z u k. k)

    conditional_reads : (x : Tree) (s : State) → Read m x s → Meets (Read m) (conditional inner cover start x s)
    unfolding conditional
    conditional_reads x s h = meets_then _ (inside inner cover assignment (moved s)) _ (inside_reads assignment {m = m} (moved s) (onward (next h.place))) (λ y t g.
        meets_then _ (expect kind.Colon t) _ (expect_past m kind.Colon t g.place) (λ _ u k.
        meets_then _ (inner assignment u) _ (reads (inner assignment) (below assignment) {m = m} u (onward k)) (λ z v j.
        unassigned_reads _ v (node start _ b j.place (λ e. both e (both h.straight (both g.straight j.straight))) refl))))

    assigned_to_reads : (x : Tree) (op : AssignOp) (s : State) → Part m x s.at → Meets (Read m) (assigned_to inner cover start x op s)
    unfolding assigned_to
    assigned_to_reads x op s h = meets_then _ (inner assignment (moved s)) _ (reads (inner assignment) (below assignment) {m = m} (moved s) (onward (next h.place))) (λ y t g.
        node start _ b g.place (λ e. both e (both h.straight g.straight)) refl)

    assigned_reads : (x : Tree) (op : AssignOp) (s : State) → Read m x s → Meets (Read m) (assigned inner cover start x op s)
    unfolding assigned
    assigned_reads x op s h = meets_if _ (is_simple_target x) _ _ (λ _. assigned_to_reads x op s (part_of h)) (λ _. reject_meets _ _ s)

    assigned_or_reads : (is_async : Bool) (x : Tree) (o : Option AssignOp) (s : State) → Read m x s → Meets (Read m) (assigned_or inner cover is_async start x o s)
    assigned_or_reads is_async x (Some op) s h = assigned_reads x op s h
    assigned_or_reads is_async x None s h = unheaded_reads is_async x s h

    pub behind_operators_reads : (is_async : Bool) (x : Tree) (s : State) → Read m x s → Meets (Read m) (behind_operators inner cover is_async start x s)
    unfolding behind_operators
    behind_operators_reads is_async x s h = meets_if _ (sees kind.QuestionMark s.at) _ _ (λ _. conditional_reads x s h) (λ _. assigned_or_reads is_async x (assign_operator (kind_at s.at)) s h)

    pub continued_reads : (x : Tree) (s : State) → Read m x s → Meets (Read m) (continued inner cover start x s)
    unfolding continued postfixed
    continued_reads x s h = meets_then _ (left_from inner cover true start x s) _ (left_from_reads m start b true x s h) (λ y t g.
        meets_then _ (behind_operand start y (postfix_at t.at) t) _ (behind_operand_reads m start b y (postfix_at t.at) t g) (λ z u k.
        meets_then _ (binary_from inner cover 1 start z u) _ (binary_from_reads 1 z u k) (λ w v j. behind_operators_reads false w v j)))

    pub behind_literal_reads : (v : Cover) (s : State) → ReadCover m v s → Meets (ReadCover m) (behind_literal inner cover start v s)
    unfolding behind_literal assigned_pattern closed
    behind_literal_reads v s h = meets_if _ (sees kind.Assign s.at) _ _
        (λ _. meets_then _ (target v s) _ (target_reads v s (part_of h)) (λ p t g. meets_then _ (assigned_to inner cover start p assign.Assign t) _ (assigned_to_reads p assign.Assign t g) (λ y u k. k)))
        (λ _. meets_if _ (goes_on s) _ _
        (λ _. meets_then _ (close v s) _ (close_meets (Read m) v s h) (λ x t g. meets_then _ (continued inner cover start x t) _ (continued_reads x t g) (λ y u k. k)))
        (λ _. h))
