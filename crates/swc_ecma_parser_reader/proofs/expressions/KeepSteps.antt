-- The steps of expressions that read nothing further in lose nothing.
-- no token that memory ran out for is passed.
use Rattle.std.proofs.Common.{◌≡◌, Bool, true, false, cond, List, [], ◌∷◌, Option, Some, None, refl, ◌∙◌, ap}
use Rattle.std.specs.Prelude.{nat_eq, not, ◌&&◌, ◌||◌, codes}
use Rattle.swc_ecma_parser_common.specs.declared.span.Span.{Span}
use Rattle.swc_ecma_parser_error.specs.Kind as faults
use Rattle.swc_ecma_parser_error.specs.Kind.{Fault}
use Rattle.swc_ecma_parser_token.specs.declared.kind.TokenKind.TheVariants as kind
use Rattle.swc_ecma_parser_token.specs.declared.token.Token.{Token}
use Rattle.swc_ecma_parser_token.specs.declared.token.Token.TheVariants as token
use Rattle.swc_ecma_parser_token.specs.declared.token.TokenAndSpan.{TokenAndSpan}
use Rattle.swc_ecma_parser_model.specs.declared.operators.UpdateOp.{UpdateOp}
use Rattle.swc_ecma_parser_model.specs.declared.operators.BinaryOp.{BinaryOp}
use Rattle.swc_ecma_parser_model.specs.Tree as tree
use Rattle.swc_ecma_parser_model.specs.Tree.{Tree, Text}
use Rattle.swc_ecma_parser_model.specs.Forms.{is_simple_target, span_of}
use Rattle.swc_ecma_parser_model.specs.Targets.{as_target, as_parameter}
use Rattle.swc_ecma_parser_grammar.specs.Looks.{kind_at, sees, span_at}
use Rattle.swc_ecma_parser_grammar.specs.Names.{may_refer_to_await}
use Rattle.swc_ecma_parser_grammar.specs.Follows.{word_at, continues_left_side}
use Rattle.swc_ecma_parser_grammar.specs.language.Goals.{expression}
use Rattle.swc_ecma_parser_grammar.specs.language.Operators.{groups_left, mixes, is_unary}
use Rattle.swc_ecma_parser_grammar.specs.language.Continues.{continues_conditional}
use Rattle.swc_ecma_parser_reader.specs.State.{State, moved, wanted, fault, expect, as_name, reference}
use Rattle.swc_ecma_parser_reader.specs.Expressions.{regex, regex_in, regex_or, text_in, text_or, template_text, is_cooked, new_target, in_word, Cover, unmarked, close, target_or, target, literal, literal_in, taken, any_word, word_in, word_by, touching_word, private_name, word_property, key_or, literal_key, shorthand_name, shorthand, dotted, ident_expr, this, closed_left, simple, update_behind, behind_operand, postfix_at, left_operand, unmixed, unassigned, unheaded, heads_arrow, left, closed}
use Rattle.swc_ecma_parser_reader.specs.Jumps.{told}
use Rattle.swc_ecma_parser_reader.specs.Arrows.{Group, behind_part, closed_parts, may_stand_alone, closed_group, parameter, parameter_or, parameters_of}
use Rattle.swc_ecma_parser_reader.specs.AsyncArrows.{Argument, closed_arguments, closed_argument, argument_pattern, argument_parameter, argument_parameters}
use Rattle.swc_ecma_parser_reader.proofs.Meets.{Answers, answers_then, answers_if}
use Rattle.swc_ecma_parser_reader.proofs.Errors.{is_error}
use Rattle.swc_ecma_parser_reader.proofs.expressions.Stands.{postfix_stands, literal_stands, regex_stands, text_stands}
use Rattle.swc_ecma_parser_grammar.proofs.StatementBegins.{word_place}
use Rattle.swc_ecma_parser_grammar.proofs.Tests.{and_yes}
use Rattle.swc_ecma_parser_reader.proofs.Behind.{NothingLost, Kept, Lost, SaysMemory, kept_here, answers_as, fault_says, fault_stays, behind_after, behind_seen, behind_taken, fault_keeps, wanted_keeps, reject_keeps, expect_keeps, reference_keeps, as_name_keeps}

-- ---- what is known of the first token

-- the second of two tests
pub other_test : (a b : Bool) → (a || b) ≡ true → a ≡ false → b ≡ true
other_test true b h e = cc
other_test false b h e = h

-- ---- steps that read nothing further in

module _ (b : State) (s : State) (f : NothingLost b s) where
  pub unexpected_keeps : {A : Type 0} (P : A → State → Type 0) → Answers P (Lost b) (wanted faults.Unexpected s)
  unexpected_keeps P = wanted_keeps P faults.Unexpected b s f

  regex_taken : (ts : List TokenAndSpan) → s.at.left ≡ ts → (o : Option Tree) → regex_in ts ≡ o → Answers (Kept b) (Lost b) (regex_or o s)
  regex_taken ts is None e = unexpected_keeps _
  regex_taken [] is (Some x) e = cc
  regex_taken (u ∷ ts) is (Some x) e = behind_taken b s u ts is (regex_stands u.span u.token x e) f

  pub regex_keeps : Answers (Kept b) (Lost b) (regex s)
  unfolding regex
  regex_keeps = regex_taken s.at.left refl (regex_in s.at.left) refl

  pub new_target_keeps : (start : Span) → Answers (Kept b) (Lost b) (new_target start s)
  unfolding new_target
  new_target_keeps start = answers_if _ _ (word_at (codes "target") s.at) _ _ (λ e. behind_after b s (word_place (codes "target") s.at e) refl f) (λ _. unexpected_keeps _)

  pub in_word_keeps : Answers (Kept b) (Lost b) (in_word s)
  unfolding in_word
  in_word_keeps = answers_if _ _ (sees kind.In s.at && s.code.flags.include_in_expr) _ _ (λ e. behind_seen b s kind.In (and_yes (sees kind.In s.at) _ e).0 refl f) (λ _. unexpected_keeps _)

  pub closed_keeps : (x : Tree) → Answers (Kept b) (Lost b) (closed_left x s)
  unfolding closed_left
  closed_keeps x = answers_if _ _ (continues_left_side s.at) _ _ (λ _. unexpected_keeps _) (λ _. f)

  pub unassigned_keeps : (x : Tree) → Answers (Kept b) (Lost b) (unassigned x s)
  unfolding unassigned
  unassigned_keeps x = answers_if _ _ (continues_conditional s.at) _ _ (λ _. unexpected_keeps _) (λ _. f)

  pub unheaded_keeps : (is_async : Bool) (x : Tree) → Answers (Kept b) (Lost b) (unheaded is_async x s)
  unfolding unheaded
  unheaded_keeps is_async x = answers_if _ _ (heads_arrow is_async x s) _ _ (λ _. unexpected_keeps _) (λ _. f)

  pub shorthand_name_keeps : (span : Span) (text : Text) → Answers (Kept b) (Lost b) (shorthand_name span text s)
  unfolding shorthand_name
  shorthand_name_keeps span text = answers_then _ _ (as_name may_refer_to_await span text s) _ (as_name_keeps b s f may_refer_to_await span text) (λ _ t g. g)

  pub shorthand_keeps : (x : Tree) → Answers (Kept b) (Lost b) (shorthand x s)
  shorthand_keeps (tree.ident span text) = shorthand_name_keeps span text
  shorthand_keeps _ = unexpected_keeps _

  pub taken_keeps : (ts : List TokenAndSpan) → s.at.left ≡ ts → (o : Option Tree) → literal_in ts ≡ o → Answers (Kept b) (Lost b) (taken o s)
  taken_keeps ts is None e = f
  taken_keeps [] is (Some x) e = cc
  taken_keeps (u ∷ ts) is (Some x) e = behind_taken b s u ts is (literal_stands u.span u.token x e) f

  pub literal_keeps : Answers (Kept b) (Lost b) (literal s)
  unfolding literal
  literal_keeps = taken_keeps s.at.left refl (literal_in s.at.left) refl

  pub word_by_keeps : (u : TokenAndSpan) (ts : List TokenAndSpan) → s.at.left ≡ u ∷ ts → (v : Token) (span : Span) → u.token ≡ v → Answers (Kept b) (Lost b) (word_by s v span)
  word_by_keeps u ts is (token.Word w) span g = behind_taken b s u ts is (rw g refl) f
  word_by_keeps u ts is _ span g = wanted_keeps _ faults.ExpectedIdent b s f

  pub word_in_keeps : (ts : List TokenAndSpan) → s.at.left ≡ ts → Answers (Kept b) (Lost b) (word_in s ts)
  word_in_keeps [] is = wanted_keeps _ faults.ExpectedIdent b s f
  word_in_keeps (u ∷ ts) is = word_by_keeps u ts is u.token u.span refl

  pub any_word_keeps : Answers (Kept b) (Lost b) (any_word s)
  unfolding any_word
  any_word_keeps = word_in_keeps s.at.left refl

  pub touching_keeps : Answers (Kept b) (Lost b) (touching_word s)
  unfolding touching_word
  touching_keeps = answers_if _ _ (nat_eq s.at.last.hi.0 (span_at s.at).lo.0) _ _ (λ _. any_word_keeps) (λ _. wanted_keeps _ faults.ExpectedIdent b s f)

  pub ident_keeps : Answers (Kept b) (Lost b) (ident_expr s)
  unfolding ident_expr
  ident_keeps = answers_then _ _ (reference faults.Unexpected s) _ (reference_keeps b s f faults.Unexpected) (λ i t g. g)

  pub this_keeps : sees kind.This s.at ≡ true → Answers (Kept b) (Lost b) (this s)
  unfolding this
  this_keeps e = behind_seen b s kind.This e refl f

  -- what is no simple target is refused, or the state is as it is
  pub simple_keeps : (x : Tree) → Answers (λ _ t. t ≡ s) (Lost b) (simple x s)
  unfolding simple
  simple_keeps x = answers_if _ _ (is_simple_target x) _ _ (λ _. refl) (λ _. reject_keeps _ faults.NotSimpleAssign (span_of x) b s f)

  pub unmixed_keeps : (start : Span) (op : BinaryOp) (x y : Tree) → Answers (Kept b) (Lost b) (unmixed start op x y s)
  unfolding unmixed
  unmixed_keeps start op x y = answers_if _ _ (mixes op x || mixes op y) _ _ (λ _. reject_keeps _ faults.NullishCoalescingWithLogicalOp _ b s f) (λ _. f)

  -- a refusal of the left operand, or the state as it is
  pub left_operand_keeps : (op : BinaryOp) (x : Tree) → Answers (λ _ t. t ≡ s) (Lost b) (left_operand op x s)
  unfolding left_operand
  left_operand_keeps op x = answers_if _ _ (not (groups_left op) && is_unary x) _ _ (λ _. reject_keeps _ faults.UnaryInExp (span_of x) b s f) (λ _. refl)

  -- ---- what is closed, and what is a target

  pub unmarked_keeps : (x : Tree) (o : Option Span) → Answers (λ _ t. NothingLost b t × (t.at ≡ s.at)) (Lost b) (unmarked x o s)
  unmarked_keeps x None = (f, refl)
  unmarked_keeps x (Some k) = reject_keeps _ faults.AssignProperty k b s f

  pub close_stays : (v : Cover) → Answers (λ _ t. NothingLost b t × (t.at ≡ s.at)) (Lost b) (close v s)
  unfolding close
  close_stays v = unmarked_keeps v.x v.mark

  pub close_keeps : (v : Cover) → Answers (Kept b) (Lost b) (close v s)
  close_keeps v = kept_here b s (close v s) (close_stays v)

  -- a target is refused, or the state is as it is
  pub target_or_keeps : (x : Tree) (o : Option Tree) → Answers (λ _ t. t ≡ s) (Lost b) (target_or x o s)
  target_or_keeps x (Some p) = refl
  target_or_keeps x None = reject_keeps _ faults.InvalidPat (span_of x) b s f

  pub target_keeps : (v : Cover) → Answers (λ _ t. t ≡ s) (Lost b) (target v s)
  unfolding target
  target_keeps v = target_or_keeps v.x (cond v.comma None (as_target v.x))

-- ---- the text of a template, which is taken before it is refused

text_or_keeps : (is_tagged : Bool) (b s : State) → NothingLost b s → (ts : List TokenAndSpan) → s.at.left ≡ ts → (o : Option Tree) → text_in ts ≡ o → Answers (Kept b) (Lost b) (text_or is_tagged o s)
text_or_keeps is_tagged b s f ts is None e = unexpected_keeps b s f _
text_or_keeps is_tagged b s f [] is (Some q) e = cc
text_or_keeps is_tagged b s f (u ∷ ts) is (Some q) e =
    let g = behind_taken b s u ts is (text_stands u.span u.token q e) f in
    answers_if _ _ (is_tagged || is_cooked q) _ _ (λ _. g) (λ _. reject_keeps _ faults.InvalidStrEscape (span_of q) b (moved s) g)

pub text_keeps : (is_tagged : Bool) (b s : State) → NothingLost b s → Answers (Kept b) (Lost b) (template_text is_tagged s)
unfolding template_text
text_keeps is_tagged b s f = text_or_keeps is_tagged b s f s.at.left refl (text_in s.at.left) refl

-- ---- what is told, and what stands in parentheses as an expression and as parameters

pub told_keeps : (b : State) (fs : List Fault) (s : State) → NothingLost b s → Answers (Kept b) (Lost b) (told fs s)
told_keeps b [] s g = g
told_keeps b (f ∷ fs) s g = answers_then (Kept b) _ (fault f s) _ (fault_keeps b s g f) (λ _ t k. told_keeps b fs t k)

-- before what is no error token
pub told_stays : (b : State) (fs : List Fault) (s : State) → is_error (kind_at s.at) ≡ false → NothingLost b s → Answers (λ _ t. NothingLost b t × (t.at ≡ s.at)) (Lost b) (told fs s)
told_stays b [] s e g = (g, refl)
told_stays b (f ∷ fs) s e g = answers_then _ _ (fault f s) _ (fault_stays b s g f e) (λ _ t (k, o).
    answers_as (Lost b) (told fs t) (told_stays b fs t (ap (λ c. is_error (kind_at c)) o ∙ e) k) (λ _ u (j, p). (j, p ∙ o)))

-- a refusal of it says that memory ran out
pub told_says : (fs : List Fault) (s : State) → Answers (λ _ _. Unit {0}) SaysMemory (told fs s)
told_says [] s = tt
told_says (f ∷ fs) s = answers_then _ _ (fault f s) _ (fault_says f s) (λ _ t _. told_says fs t)

pub closed_parts_keep : (b : State) (vs : List Cover) (s : State) → NothingLost b s → Answers (Kept b) (Lost b) (closed_parts vs s)
closed_parts_keep b [] s f = f
closed_parts_keep b (v ∷ vs) s f = answers_then _ _ (close v s) _ (close_keeps b s f v) (λ x t g. answers_then _ _ (closed_parts vs t) _ (closed_parts_keep b vs t g) (λ xs u k. k))

pub closed_group_keeps : (b : State) (start : Span) (g : Group) (s : State) → NothingLost b s → Answers (Kept b) (Lost b) (closed_group start g s)
unfolding closed_group
closed_group_keeps b start g s f = answers_if _ _ (may_stand_alone g) _ _ (λ _. answers_then _ _ (closed_parts g.parts s) _ (closed_parts_keep b g.parts s f) (λ xs t k. k))
    (λ _. unexpected_keeps b s f _)

-- parameters are refused, or the state is as it is
pub parameter_or_keeps : (b : State) (x : Tree) (o : Option Tree) (s : State) → NothingLost b s → Answers (λ _ t. t ≡ s) (Lost b) (parameter_or x o s)
parameter_or_keeps b x (Some p) s f = refl
parameter_or_keeps b x None s f = reject_keeps _ faults.InvalidPat (span_of x) b s f

pub parameter_keeps : (b : State) (v : Cover) (s : State) → NothingLost b s → Answers (λ _ t. t ≡ s) (Lost b) (parameter v s)
unfolding parameter
parameter_keeps b v s f = parameter_or_keeps b v.x (cond v.comma None (as_parameter v.x)) s f

pub parameters_of_keep : (b : State) (vs : List Cover) (rest : Option Tree) (s : State) → NothingLost b s → Answers (λ _ t. t ≡ s) (Lost b) (parameters_of vs rest s)
parameters_of_keep b [] rest s f = refl
parameters_of_keep b (v ∷ vs) rest s f = answers_then _ _ (parameter v s) _ (parameter_keeps b v s f) (λ p t g.
    answers_then _ _ (parameters_of vs rest t) _ (parameters_of_keep b vs rest t (rw g f)) (λ ps u k. k ∙ g))

pub behind_part_keeps : (b : State) (found : List Cover) (s : State) → NothingLost b s → Answers (Kept b) (Lost b) (behind_part found s)
behind_part_keeps b found s f = answers_if _ _ (sees kind.RParen s.at) _ _ (λ _. f) (λ _. answers_then _ _ (expect kind.Comma s) _ (expect_keeps b s f kind.Comma refl) (λ _ t g.
    answers_if _ _ (sees kind.RParen t.at) _ _ (λ _. g) (λ _. g)))

pub closed_arguments_keep : (b : State) (found : List Argument) (s : State) → NothingLost b s → Answers (Kept b) (Lost b) (closed_arguments found s)
closed_arguments_keep b [] s f = f
closed_arguments_keep b (a ∷ rest) s f = answers_then _ _ (closed_argument a s) _ (answers_then _ _ (close a.cover s) _ (close_keeps b s f a.cover) (λ x t g. g)) (λ x t g.
    answers_then _ _ (closed_arguments rest t) _ (closed_arguments_keep b rest t g) (λ xs u k. k))

pub argument_parameter_keeps : (b : State) (a : Argument) (s : State) → NothingLost b s → Answers (λ _ t. t ≡ s) (Lost b) (argument_parameter a s)
unfolding argument_parameter
argument_parameter_keeps b a s f = parameter_or_keeps b a.cover.x (cond a.cover.comma None (argument_pattern a.dots a.cover.x)) s f

pub argument_parameters_keep : (b : State) (found : List Argument) (s : State) → NothingLost b s → Answers (λ _ t. t ≡ s) (Lost b) (argument_parameters found s)
argument_parameters_keep b [] s f = refl
argument_parameters_keep b (a ∷ rest) s f = answers_then _ _ (argument_parameter a s) _ (argument_parameter_keeps b a s f) (λ p t g.
    answers_then _ _ (argument_parameters rest t) _ (argument_parameters_keep b rest t (rw g f)) (λ ps u k. k ∙ g))

pub literal_key_keeps : (b : State) (s : State) → NothingLost b s → Answers (Kept b) (Lost b) (literal_key s)
unfolding literal_key
literal_key_keeps b s f = answers_then _ _ (literal s) _ (literal_keeps b s f) by_key
  where
    by_key : (o : Option Tree) (t : State) → NothingLost b t → Answers (Kept b) (Lost b) (key_or o t)
    by_key (Some (tree.str span value raw)) t g = g
    by_key (Some (tree.num span raw)) t g = g
    by_key (Some (tree.big_int span raw)) t g = g
    by_key _ t g = wanted_keeps _ faults.ExpectedIdent b t g

-- behind its `#`
pub private_behind : (b : State) (s : State) → NothingLost b (moved s) → Answers (Kept b) (Lost b) (private_name s)
unfolding private_name
private_behind b s f = answers_then _ _ (touching_word (moved s)) _ (touching_keeps b (moved s) f) (λ i t g. g)

pub private_keeps : (b : State) (s : State) → sees kind.Hash s.at ≡ true → NothingLost b s → Answers (Kept b) (Lost b) (private_name s)
private_keeps b s e f = private_behind b s (behind_seen b s kind.Hash e refl f)

pub dotted_keeps : (b : State) (s : State) → NothingLost b s → Answers (Kept b) (Lost b) (dotted s)
unfolding dotted word_property
dotted_keeps b s f = answers_if _ _ (sees kind.Hash s.at) _ _ (λ e. private_keeps b s e f) (λ _. answers_then _ _ (any_word s) _ (any_word_keeps b s f) (λ i t g. g))

pub update_behind_keeps : (b : State) (start : Span) (x : Tree) (op : UpdateOp) (s : State) → is_error (kind_at s.at) ≡ false → NothingLost b s → Answers (Kept b) (Lost b) (update_behind start x op s)
unfolding update_behind
update_behind_keeps b start x op s e f = answers_then _ _ (simple x s) _ (simple_keeps b s f x) (λ _ t g. behind_after b t refl (rw g e) (rw g f))

pub behind_operand_keeps : (b : State) (start : Span) (x : Tree) (o : Option UpdateOp) (s : State) → postfix_at s.at ≡ o → NothingLost b s → Answers (Kept b) (Lost b) (behind_operand start x o s)
behind_operand_keeps b start x None s e f = f
behind_operand_keeps b start x (Some op) s e f = update_behind_keeps b start x op s (postfix_stands s.at op e) f
