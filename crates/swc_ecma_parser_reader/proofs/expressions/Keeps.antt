-- Whatever an expression is read as, or refused, the tokens that are left are the last of those that were, no recorded fault is lost, and
-- no token that memory ran out for is passed.
use Rattle.swc_ecma_parser_grammar.specs.language.Begins.{begins_expression, awaits}
use Rattle.swc_ecma_parser_grammar.specs.language.Contexts.{in_arrow, with_in}
use Rattle.std.proofs.Common.{◌≡◌, ℕ, Bool, true, false, cond, List, [], ◌∷◌, ◌++◌, Option, Some, None, refl, ◌∙◌, ap, Ok}
use Rattle.std.specs.Prelude.{not, ◌&&◌, ◌||◌, codes, nat_le}
use Rattle.std.proofs.lemmas.Bool.{and_parts}
use Rattle.swc_ecma_parser_common.specs.declared.span.Span.{Span}
use Rattle.swc_ecma_parser_error.specs.Kind as faults
use Rattle.swc_ecma_parser_token.specs.declared.kind.TokenKind.TheVariants as kind
use Rattle.swc_ecma_parser_input.specs.Place.{after}
use Rattle.swc_ecma_parser_model.specs.declared.operators.UnaryOp.{UnaryOp}
use Rattle.swc_ecma_parser_model.specs.declared.operators.BinaryOp.TheVariants as binary
use Rattle.swc_ecma_parser_model.specs.declared.operators.UpdateOp.{UpdateOp}
use Rattle.swc_ecma_parser_model.specs.declared.operators.BinaryOp.{BinaryOp}
use Rattle.swc_ecma_parser_model.specs.declared.operators.AssignOp.{AssignOp}
use Rattle.swc_ecma_parser_model.specs.declared.operators.AssignOp.TheVariants as assign
use Rattle.swc_ecma_parser_model.specs.Tree as tree
use Rattle.swc_ecma_parser_model.specs.Tree.{Tree, listed}
use Rattle.swc_ecma_parser_model.specs.Forms.{is_simple_target, span_of, has_plain_params, is_chain}
use Rattle.swc_ecma_parser_grammar.specs.Looks.{kind_at, sees, span_at, breaks_at}
use Rattle.swc_ecma_parser_grammar.specs.Names.{name_at, may_refer_to_await}
use Rattle.swc_ecma_parser_grammar.specs.Follows.{word_at, is_async_function, begins_template}
use Rattle.swc_ecma_parser_grammar.specs.Own.{misplaced_directive}
use Rattle.swc_ecma_parser_grammar.specs.language.Goals.{Class, expression, assignment, operator, unary, left_side, callee}
use Rattle.swc_ecma_parser_grammar.specs.language.Operators.{unary_operator, update_operator, binary_operator, assign_operator, precedence}
use Rattle.swc_ecma_parser_reader.specs.State.{State, Reader, and_then, ◌>>=◌, moved, noted, module_found, coded, within, enclosed, unlabelled, fault_at, fault, expect, loop, as_name}
use Rattle.swc_ecma_parser_reader.specs.Methods.{MethodForm, FunctionForm, expression_form, class_form, property_form, parameter_form, block_form, modifies, begins_async_method, star, starred, method_words, is_bare}
use Rattle.swc_ecma_parser_reader.specs.Expressions.{Cover, Pieces, template_text, is_tail, first_piece, template_turn, template_from, template_pieces, template, tagged, tagged_by, named_link, behind_question, chained, behind_called, new_called, in_word, private_in, first_operand, no_covers, close, target, goes_on, literal, any_word, private_name, word_property, is_word_at, shorthand, dotted, bare_new, simple, behind_operand, postfix_at, right_class, read_operator, operator_at, left_operand, unmixed, unassignable, begins_async_call, inside, brackets, access, spread_element, plain_element, element, arguments_turn, arguments, covered, spread_item, plain_item, item, array_turn, elements, array, computed_key, key, key_value, initialized, initialized_name, initialized_key, bare_key, behind_key, method, behind_words, keyed_property, spread_property, property, object_turn, properties, object, paren, marked_primary, literal_or, primary, accessed, called, left_turn, left_from, super_call, super_property, super_access, behind_super, super_head, constructed, new_head, import_call, meta_fault, import_meta, import_head, left_head, left, left_expr, prefixed, update_before, await_expr, postfix, updated, unary_by, unary_expr, operated, binary_by, binary_turn, binary_from, binary_expr, conditional, assigned_to, assigned, assigned_or, behind_operators, operators_expr, plain_expr, postfixed, continued, closed, assigned_pattern, behind_literal, open_literal, done_expr, cover_expr, assignment_expr, sequence_turn, sequence_from, expression_expr, expr_level, named_expr, filled_paren, empty_paren}
use Rattle.swc_ecma_parser_reader.specs.Jumps.{told}
use Rattle.swc_ecma_parser_reader.specs.Arrows.{begins_named_arrow, Group, closed_group, parameter, parameters_of, arrow_body, arrow_from, named_arrow, rest_part, part_turn, group_parts, group, behind_group, grouped}
use Rattle.swc_ecma_parser_reader.specs.AsyncArrows.{Argument, closed_arguments, argument_parameters, async_called, spread_argument, plain_argument, argument, either_turn, either_arguments, begins_async_arrow, async_named_arrow, behind_async, async_grouped}
use Rattle.swc_ecma_parser_reader.specs.Yields.{begins_yield, bare_yield, yielded, behind_yield, yield_expr}
use Rattle.swc_ecma_parser_reader.specs.Heads.{sequenced, head_expr}
use Rattle.swc_ecma_parser_reader.proofs.Meets.{Answers, answers_then, answers_if, saw}
use Rattle.swc_ecma_parser_reader.proofs.Errors.{is_error}
use Rattle.swc_ecma_parser_reader.proofs.Words.{async_begins, function_begins, or_later}
use Rattle.swc_ecma_parser_reader.proofs.expressions.Awaits.{await_fault, await_either}
use Rattle.swc_ecma_parser_reader.proofs.expressions.AsyncHeads.{async_call_parts, async_name}
use Rattle.swc_ecma_parser_reader.proofs.expressions.Stands.{no_error_by, modified, async_modified, async_arrow_kind, yield_kind, Begins}
use Rattle.swc_ecma_parser_grammar.proofs.ExpressionBegins.{await_stands}
use Rattle.swc_ecma_parser_grammar.proofs.StatementBegins.{word_place}
use Rattle.swc_ecma_parser_grammar.proofs.Tests.{and_yes}
use Rattle.swc_ecma_parser_reader.proofs.Behind.{NothingLost, Kept, Lost, Passes, flagged_kept, behind_after, behind_seen, behind_noted, fault_keeps, refuse_keeps, reject_keeps, expect_keeps, held_loop_keeps, loop_keeps, as_name_stays}
use Rattle.swc_ecma_parser_reader.proofs.expressions.KeepSteps.{other_test, unexpected_keeps, literal_keeps, regex_keeps, new_target_keeps, in_word_keeps, any_word_keeps, ident_keeps, this_keeps, simple_keeps, closed_keeps, unmixed_keeps, unassigned_keeps, unheaded_keeps, shorthand_keeps, left_operand_keeps, close_stays, close_keeps, target_keeps, text_keeps, told_keeps, closed_group_keeps, parameters_of_keep, behind_part_keeps, closed_arguments_keep, argument_parameters_keep, literal_key_keeps, private_behind, dotted_keeps, behind_operand_keeps}

-- ---- functions

-- functions keep them, and a parameter that is a name takes it alone
pub record FunctionsPass (function : FunctionForm → Reader Tree) : Type 0 where
  pub passes : (form : FunctionForm) (b s : State) → Begins form s.at → NothingLost b s → Answers (Kept b) (Lost b) (function form s)
  pub names : (b s : State) → name_at s.code.flags s.at ≡ true → is_error (kind_at (after s.at)) ≡ false → NothingLost b s
      → Answers (λ _ t. NothingLost b t × (t.at ≡ after s.at)) (Lost b) (function parameter_form s)

-- ---- what stands before the key of a method

-- the `*` of a generator
pub star_keeps : Passes star
unfolding star
star_keeps b s f = answers_if _ _ (sees kind.Mul s.at) _ _ (λ seen. behind_seen b s kind.Mul seen refl f) (λ _. f)

pub starred_keeps : (is_async : Bool) → Passes (starred is_async)
unfolding starred
starred_keeps is_async b s f = answers_then _ _ (star s) _ (star_keeps b s f) (λ v t g. g)

method_words_keeps : Passes method_words
unfolding method_words
method_words_keeps b s f = answers_if _ _ (modifies (codes "get") s.at) _ _ (λ e. behind_after b s (modified (codes "get") s.at e) refl f)
    (λ _. answers_if _ _ (modifies (codes "set") s.at) _ _ (λ e. behind_after b s (modified (codes "set") s.at e) refl f)
    (λ _. answers_if _ _ (begins_async_method s.at) _ _ (λ e. starred_keeps true b (moved s) (behind_after b s (async_modified s.at e) refl f)) (λ _. starred_keeps false b s f)))

-- ---- what is read one level further in

module _ (inner : Class → Reader Tree) (cover : Reader Cover) (below : (class : Class) → Passes (inner class)) (below_cover : Passes cover) where
  pub inside_keeps : (class : Class) (b : State) (s : State) → NothingLost b s → Answers (Kept b) (Lost b) (inside inner cover class s)
  unfolding inside
  inside_keeps class b s f = answers_then (Kept b) _ (inner class (coded (with_in s.code) s)) _ (below class b (coded (with_in s.code) s) f) (λ x t k. flagged_kept b s t f k)

  element_keeps : (b : State) (s : State) → NothingLost b s → Answers (Kept b) (Lost b) (element inner cover s)
  unfolding element spread_element plain_element
  element_keeps b s f = answers_if _ _ (sees kind.DotDotDot s.at) _ _
      (λ seen. answers_then _ _ (inside inner cover assignment (moved s)) _ (inside_keeps assignment b (moved s) (behind_seen b s kind.DotDotDot seen refl f)) (λ x t k. k))
      (λ _. answers_then _ _ (inside inner cover assignment s) _ (inside_keeps assignment b s f) (λ x t k. k))

  many_arguments_keeps : (commas : Bool) (b : State) (s : State) → NothingLost b s → Answers (Kept b) (Lost b) (loop (arguments_turn inner cover commas) [] s)
  unfolding arguments_turn
  many_arguments_keeps commas b s f = loop_keeps (arguments_turn inner cover commas) b
      (λ xs t g. answers_if _ _ (sees kind.RParen t.at) _ _ (λ seen. behind_seen b t kind.RParen seen refl g) (λ _.
      answers_then _ _ (element inner cover t) _ (element_keeps b t g) (λ x u k.
      answers_if _ _ (sees kind.RParen u.at) _ _ (λ _. k) (λ _. answers_then _ _ (expect kind.Comma u) _ (expect_keeps b u k kind.Comma refl) (λ _ v j.
      answers_if _ _ (not commas && sees kind.RParen v.at) _ _
      (λ _. answers_then _ _ (fault (fault_at v.at.last faults.TrailingCommaInsideImport) v) _ (fault_keeps b v j _) (λ _ w l. l)) (λ _. j)))))) [] s f

  covered_keeps : (b : State) (s : State) → NothingLost b s → Answers (Kept b) (Lost b) (covered inner cover s)
  unfolding covered
  covered_keeps b s f = answers_then (Kept b) _ (cover (coded (with_in s.code) s)) _ (below_cover b (coded (with_in s.code) s) f) (λ v t k. flagged_kept b s t f k)

  item_keeps : (b : State) (s : State) → NothingLost b s → Answers (Kept b) (Lost b) (item inner cover s)
  unfolding item spread_item plain_item
  item_keeps b s f = answers_if _ _ (sees kind.DotDotDot s.at) _ _
      (λ seen. answers_then _ _ (covered inner cover (moved s)) _ (covered_keeps b (moved s) (behind_seen b s kind.DotDotDot seen refl f)) (λ v t k. k))
      (λ _. answers_then _ _ (covered inner cover s) _ (covered_keeps b s f) (λ v t k. k))

  many_elements_keeps : (b : State) (s : State) → NothingLost b s → Answers (Kept b) (Lost b) (loop (array_turn inner cover) no_covers s)
  unfolding array_turn
  many_elements_keeps b s f = loop_keeps (array_turn inner cover) b
      (λ found t g. answers_if _ _ (sees kind.RBracket t.at) _ _ (λ seen. behind_seen b t kind.RBracket seen refl g) (λ _.
      answers_if _ _ (sees kind.Comma t.at) _ _ (λ seen. behind_seen b t kind.Comma seen refl g) (λ _.
      answers_then _ _ (item inner cover t) _ (item_keeps b t g) (λ v u k.
      answers_if _ _ (sees kind.RBracket u.at) _ _ (λ _. k) (λ _. answers_then _ _ (expect kind.Comma u) _ (expect_keeps b u k kind.Comma refl) (λ _ w j. j)))))) no_covers s f

  argument_keeps : (b : State) (s : State) → NothingLost b s → Answers (Kept b) (Lost b) (argument inner cover s)
  unfolding argument spread_argument plain_argument
  argument_keeps b s f = answers_if _ _ (sees kind.DotDotDot s.at) _ _
      (λ seen. answers_then _ _ (covered inner cover (moved s)) _ (covered_keeps b (moved s) (behind_seen b s kind.DotDotDot seen refl f)) (λ v t k. k))
      (λ _. answers_then _ _ (covered inner cover s) _ (covered_keeps b s f) (λ v t k. k))

  either_arguments_keep : (b : State) (s : State) → kind_at s.at ≡ kind.LParen → NothingLost b s → Answers (Kept b) (Lost b) (either_arguments inner cover s)
  unfolding either_arguments either_turn
  either_arguments_keep b s e f = loop_keeps (either_turn inner cover) b
      (λ found t g. answers_if _ _ (sees kind.RParen t.at) _ _ (λ seen. behind_seen b t kind.RParen seen refl g) (λ _.
      answers_then _ _ (argument inner cover t) _ (argument_keeps b t g) (λ a u k.
      answers_if _ _ (sees kind.RParen u.at) _ _ (λ _. k) (λ _. answers_then _ _ (expect kind.Comma u) _ (expect_keeps b u k kind.Comma refl) (λ _ w j. j))))) [] (moved s) (behind_after b s e refl f)

  -- ---- templates

  many_pieces_keep : (is_tagged : Bool) (found : Pieces) (b s : State) → NothingLost b s → Answers (Kept b) (Lost b) (loop (template_turn inner cover is_tagged) found s)
  unfolding template_turn
  many_pieces_keep is_tagged found b s f = loop_keeps (template_turn inner cover is_tagged) b
      (λ ps t g. answers_then _ _ (inside inner cover expression t) _ (inside_keeps expression b t g) (λ e u k.
      answers_if _ _ (sees kind.TemplateMiddle u.at || sees kind.TemplateTail u.at) _ _
      (λ _. answers_then _ _ (template_text is_tagged u) _ (text_keeps is_tagged b u k) (λ q v j. j)) (λ _. refuse_keeps _ faults.Expected b u k))) found s f

  template_from_keeps : (is_tagged : Bool) (q : Tree) (z : Bool) (b s : State) → is_tail q ≡ z → NothingLost b s → Answers (Kept b) (Lost b) (template_from inner cover is_tagged q s)
  template_from_keeps is_tagged q true b s e f = rw e f
  template_from_keeps is_tagged q false b s e f = rw e (many_pieces_keep is_tagged (first_piece q) b s f)

  pieces_keep : (is_tagged : Bool) (b s : State) → NothingLost b s → Answers (Kept b) (Lost b) (template_pieces inner cover is_tagged s)
  unfolding template_pieces
  pieces_keep is_tagged b s f = answers_then _ _ (template_text is_tagged s) _ (text_keeps is_tagged b s f) (λ q t g. template_from_keeps is_tagged q (is_tail q) b t refl g)

  template_keeps : (b s : State) → NothingLost b s → Answers (Kept b) (Lost b) (template inner cover s)
  unfolding template
  template_keeps b s f = answers_then _ _ (template_pieces inner cover false s) _ (pieces_keep false b s f) (λ found t g. g)

  -- ---- properties

  computed_key_keeps : (b : State) (s : State) → sees kind.LBracket s.at ≡ true → NothingLost b s → Answers (Kept b) (Lost b) (computed_key inner cover s)
  unfolding computed_key
  computed_key_keeps b s e f = answers_then _ _ (inside inner cover assignment (moved s)) _ (inside_keeps assignment b (moved s) (behind_seen b s kind.LBracket e refl f)) (λ x t k.
      answers_then _ _ (expect kind.RBracket t) _ (expect_keeps b t k kind.RBracket refl) (λ _ u j. j))

  pub key_keeps : (b : State) (s : State) → NothingLost b s → Answers (Kept b) (Lost b) (key inner cover s)
  unfolding key word_property
  key_keeps b s f = answers_if _ _ (is_word_at s.at) _ _ (λ _. answers_then _ _ (any_word s) _ (any_word_keeps b s f) (λ x t k. k))
      (λ _. answers_if _ _ (sees kind.LBracket s.at) _ _ (λ e. computed_key_keeps b s e f) (λ _. literal_key_keeps b s f))

  initialized_keeps : (b : State) (start : Span) (x : Tree) (s : State) → is_error (kind_at s.at) ≡ false → NothingLost b s → Answers (Kept b) (Lost b) (initialized inner cover start x s)
  unfolding initialized
  initialized_keeps b start x s e f = answers_then _ _ (inside inner cover assignment (moved s)) _ (inside_keeps assignment b (moved s) (behind_after b s refl e f)) (λ y t k. k)

  initialized_key_keeps : (b : State) (start : Span) (x : Tree) (s : State) → is_error (kind_at s.at) ≡ false → NothingLost b s → Answers (Kept b) (Lost b) (initialized_key inner cover start x s)
  unfolding initialized_name
  initialized_key_keeps b start (tree.ident span text) s e f = answers_then _ _ (as_name may_refer_to_await span text s) _ (as_name_stays b s f may_refer_to_await span text e)
      (λ _ t (g, o). initialized_keeps b start (tree.ident span text) t (ap (λ z. is_error (kind_at z)) o ∙ e) g)
  initialized_key_keeps b start _ s e f = unexpected_keeps b s f _

  behind_key_keeps : (b : State) (start : Span) (x : Tree) (s : State) → NothingLost b s → Answers (Kept b) (Lost b) (behind_key inner cover start x s)
  unfolding behind_key key_value bare_key
  behind_key_keeps b start x s f = answers_if _ _ (sees kind.Colon s.at) _ _
      (λ seen. answers_then _ _ (covered inner cover (moved s)) _ (covered_keeps b (moved s) (behind_seen b s kind.Colon seen refl f)) (λ v t k. k))
      (λ _. answers_if _ _ (sees kind.Assign s.at) _ _ (λ e. initialized_key_keeps b start x s (ap is_error (saw s.at kind.Assign e)) f)
      (λ _. answers_then _ _ (shorthand x s) _ (shorthand_keeps b s f x) (λ y t k. k)))

  module _ (function : FunctionForm → Reader Tree) (below_function : FunctionsPass function) where
    method_keeps : (form : MethodForm) (start : Span) (x : Tree) → Passes (method inner cover function form start x)
    unfolding method
    method_keeps form start x b s f = answers_then _ _ (function (property_form form start x) s) _ (below_function.passes (property_form form start x) b s tt f) (λ y t g. g)

    behind_words_keeps : (form : MethodForm) (start : Span) (x : Tree) → Passes (behind_words inner cover function form start x)
    unfolding behind_words
    behind_words_keeps form start x b s f = answers_if _ _ (is_bare form && not (sees kind.LParen s.at)) _ _ (λ _. behind_key_keeps b start x s f)
        (λ _. method_keeps form start x b s f)

    property_keeps : (b : State) (s : State) → NothingLost b s → Answers (Kept b) (Lost b) (property inner cover function s)
    unfolding property spread_property keyed_property
    property_keeps b s f = answers_if _ _ (sees kind.DotDotDot s.at) _ _
        (λ seen. answers_then _ _ (covered inner cover (moved s)) _ (covered_keeps b (moved s) (behind_seen b s kind.DotDotDot seen refl f)) (λ v t k. k))
        (λ _. answers_then _ _ (method_words s) _ (method_words_keeps b s f) (λ form t g.
        answers_then _ _ (key inner cover t) _ (key_keeps b t g) (λ x u k. behind_words_keeps form (span_at s.at) x b u k)))

    many_properties_keeps : (b : State) (s : State) → NothingLost b s → Answers (Kept b) (Lost b) (loop (object_turn inner cover function) no_covers s)
    unfolding object_turn
    many_properties_keeps b s f = loop_keeps (object_turn inner cover function) b
        (λ found t g. answers_if _ _ (sees kind.RBrace t.at) _ _ (λ seen. behind_seen b t kind.RBrace seen refl g) (λ _.
        answers_then _ _ (property inner cover function t) _ (property_keeps b t g) (λ v u k.
        answers_if _ _ (sees kind.RBrace u.at) _ _ (λ _. k) (λ _. answers_then _ _ (expect kind.Comma u) _ (expect_keeps b u k kind.Comma refl) (λ _ w j. j))))) no_covers s f

  -- ---- left-hand sides and what stands in brackets

  module _ (b : State) where
    brackets_keeps : (s : State) → kind_at s.at ≡ kind.LBracket → NothingLost b s → Answers (Kept b) (Lost b) (brackets inner cover s)
    unfolding brackets
    brackets_keeps s e f =
        let g = behind_after b s e refl f in
        answers_then _ _ (inside inner cover expression (moved s)) _ (inside_keeps expression b (moved s) g) (λ x t k.
        answers_then _ _ (expect kind.RBracket t) _ (expect_keeps b t k kind.RBracket refl) (λ _ u j. j))

    access_keeps : (s : State) → (sees kind.Dot s.at || sees kind.LBracket s.at) ≡ true → NothingLost b s → Answers (Kept b) (Lost b) (access inner cover s)
    unfolding access
    access_keeps s h f = answers_if _ _ (sees kind.Dot s.at) _ _ (λ seen. dotted_keeps b (moved s) (behind_seen b s kind.Dot seen refl f))
        (λ e. brackets_keeps s (saw s.at kind.LBracket (other_test (sees kind.Dot s.at) (sees kind.LBracket s.at) h e)) f)

    super_property_keeps : (s : State) → (sees kind.Dot s.at || sees kind.LBracket s.at) ≡ true → NothingLost b s → Answers (Kept b) (Lost b) (super_property inner cover s)
    unfolding super_property word_property
    super_property_keeps s h f = answers_if _ _ (sees kind.Dot s.at) _ _
        (λ seen. answers_then _ _ (any_word (moved s)) _ (any_word_keeps b (moved s) (behind_seen b s kind.Dot seen refl f)) (λ i t g. g))
        (λ e. brackets_keeps s (saw s.at kind.LBracket (other_test (sees kind.Dot s.at) (sees kind.LBracket s.at) h e)) f)

    arguments_keeps : (commas : Bool) (s : State) → kind_at s.at ≡ kind.LParen → NothingLost b s → Answers (Kept b) (Lost b) (arguments inner cover commas s)
    unfolding arguments
    arguments_keeps commas s e f =
        let g = behind_after b s e refl f in
        (many_arguments_keeps commas b (moved s) g)

    elements_keeps : (s : State) → kind_at s.at ≡ kind.LBracket → NothingLost b s → Answers (Kept b) (Lost b) (elements inner cover s)
    unfolding elements
    elements_keeps s e f =
        let g = behind_after b s e refl f in
        (many_elements_keeps b (moved s) g)

    array_keeps : (s : State) → kind_at s.at ≡ kind.LBracket → NothingLost b s → Answers (Kept b) (Lost b) (array inner cover s)
    unfolding array
    array_keeps s e f = answers_then _ _ (elements inner cover s) _ (elements_keeps s e f) (λ xs t g. g)

    module _ (function : FunctionForm → Reader Tree) (below_function : FunctionsPass function) where
      properties_keeps : (s : State) → kind_at s.at ≡ kind.LBrace → NothingLost b s → Answers (Kept b) (Lost b) (properties inner cover function s)
      unfolding properties
      properties_keeps s e f =
          let g = behind_after b s e refl f in
          (many_properties_keeps function below_function b (moved s) g)

      pub object_keeps : (s : State) → kind_at s.at ≡ kind.LBrace → NothingLost b s → Answers (Kept b) (Lost b) (object inner cover function s)
      unfolding object
      object_keeps s e f = answers_then _ _ (properties inner cover function s) _ (properties_keeps s e f) (λ xs t g. g)

    filled_paren_keeps : (start : Span) (s : State) → NothingLost b s → Answers (Kept b) (Lost b) (filled_paren inner cover start s)
    unfolding filled_paren
    filled_paren_keeps start s f = answers_then _ _ (inside inner cover expression s) _ (inside_keeps expression b s f) (λ x t k.
        answers_then _ _ (expect kind.RParen t) _ (expect_keeps b t k kind.RParen refl) (λ _ u j. j))

    paren_keeps : (s : State) → kind_at s.at ≡ kind.LParen → NothingLost b s → Answers (Kept b) (Lost b) (paren inner cover s)
    unfolding paren empty_paren
    paren_keeps s e f =
        let g = behind_after b s e refl f in
        answers_if _ _ (sees kind.RParen (after s.at)) _ _ (λ h. unexpected_keeps b (moved (moved s)) (behind_seen b (moved s) kind.RParen h refl g) _)
        (λ _. filled_paren_keeps (span_at s.at) (moved s) g)

    -- ---- left-hand sides

    pub accessed_keeps : (start : Span) (x : Tree) (s : State) → (sees kind.Dot s.at || sees kind.LBracket s.at) ≡ true → NothingLost b s → Answers (Kept b) (Lost b) (accessed inner cover start x s)
    unfolding accessed
    accessed_keeps start x s h f = answers_then _ _ (access inner cover s) _ (access_keeps s h f) (λ y t g. g)

    pub called_keeps : (start : Span) (x : Tree) (s : State) → kind_at s.at ≡ kind.LParen → NothingLost b s → Answers (Kept b) (Lost b) (called inner cover start x s)
    unfolding called
    called_keeps start x s e f = answers_then _ _ (arguments inner cover true s) _ (arguments_keeps true s e f) (λ xs t g. g)

    pub tagged_keeps : (start : Span) (x : Tree) (s : State) → NothingLost b s → Answers (Kept b) (Lost b) (tagged inner cover start x s)
    unfolding tagged tagged_by
    tagged_keeps start x s f = answers_if _ _ (is_chain x) _ _ (λ _. unexpected_keeps b s f _)
        (λ _. answers_then _ _ (template_pieces inner cover true s) _ (pieces_keep true b s f) (λ found t g. g))

    behind_question_keeps : (start : Span) (x : Tree) (s : State) → NothingLost b s → Answers (Kept b) (Lost b) (behind_question inner cover start x s)
    unfolding behind_question named_link
    behind_question_keeps start x s f = answers_if _ _ (sees kind.LParen s.at) _ _ (λ e. called_keeps start x s (saw s.at kind.LParen e) f)
        (λ _. answers_if _ _ (sees kind.LBracket s.at) _ _ (λ e. accessed_keeps start x s (or_later (sees kind.Dot s.at) (sees kind.LBracket s.at) e) f)
        (λ _. answers_then _ _ (dotted s) _ (dotted_keeps b s f) (λ p t g. g)))

    pub chained_keeps : (start : Span) (x : Tree) (s : State) → sees kind.QuestionDot s.at ≡ true → NothingLost b s → Answers (Kept b) (Lost b) (chained inner cover start x s)
    unfolding chained
    chained_keeps start x s e f = answers_then _ _ (behind_question inner cover start x (moved s)) _ (behind_question_keeps start x (moved s) (behind_seen b s kind.QuestionDot e refl f)) (λ y t g. g)

    left_from_keeps : (calls : Bool) (start : Span) (x : Tree) (s : State) → NothingLost b s → Answers (Kept b) (Lost b) (left_from inner cover calls start x s)
    unfolding left_from left_turn
    left_from_keeps calls start x s f = loop_keeps (left_turn inner cover calls start) b
        (λ y t g. answers_if _ _ (sees kind.Dot t.at || sees kind.LBracket t.at) _ _
        (λ h. answers_then _ _ (accessed inner cover start y t) _ (accessed_keeps start y t h g) (λ z u k. k))
        (λ _. answers_if _ _ (calls && sees kind.LParen t.at) _ _
        (λ h. answers_then _ _ (called inner cover start y t) _ (called_keeps start y t (saw t.at kind.LParen (and_parts calls (sees kind.LParen t.at) h).1) g) (λ z u k. k))
        (λ _. answers_if _ _ (begins_template t.at) _ _ (λ _. answers_then _ _ (tagged inner cover start y t) _ (tagged_keeps start y t g) (λ z u k. k))
        (λ _. answers_if _ _ (calls && sees kind.QuestionDot t.at) _ _
        (λ h. answers_then _ _ (chained inner cover start y t) _ (chained_keeps start y t (and_parts calls (sees kind.QuestionDot t.at) h).1 g) (λ z u k. k)) (λ _. g))))) x s f

    behind_super_keeps : (calls : Bool) (start : Span) (s : State) → NothingLost b s → Answers (Kept b) (Lost b) (behind_super inner cover calls start s)
    unfolding behind_super super_call super_access
    behind_super_keeps calls start s f = answers_if _ _ (calls && sees kind.LParen s.at) _ _
        (λ h. answers_then _ _ (arguments inner cover true s) _ (arguments_keeps true s (saw s.at kind.LParen (and_parts calls (sees kind.LParen s.at) h).1) f) (λ xs t g. g))
        (λ _. answers_if _ _ (sees kind.Dot s.at || sees kind.LBracket s.at) _ _
        (λ h. answers_then _ _ (super_property inner cover s) _ (super_property_keeps s h f) (λ x t g. g)) (λ _. reject_keeps _ faults.InvalidSuper start b s f))

    super_keeps : (calls : Bool) (s : State) → sees kind.Super s.at ≡ true → NothingLost b s → Answers (Kept b) (Lost b) (super_head inner cover calls s)
    unfolding super_head
    super_keeps calls s e f = behind_super_keeps calls (span_at s.at) (moved s) (behind_seen b s kind.Super e refl f)

    constructed_keeps : (start : Span) (x : Tree) (s : State) → kind_at s.at ≡ kind.LParen → NothingLost b s → Answers (Kept b) (Lost b) (constructed inner cover start x s)
    unfolding constructed
    constructed_keeps start x s e f = answers_then _ _ (arguments inner cover true s) _ (arguments_keeps true s e f) (λ xs t g. g)

    behind_called_keeps : (start : Span) (x : Tree) (s : State) → NothingLost b s → Answers (Kept b) (Lost b) (behind_called inner cover start x s)
    unfolding behind_called bare_new
    behind_called_keeps start x s f = answers_if _ _ (sees kind.LParen s.at) _ _ (λ e. constructed_keeps start x s (saw s.at kind.LParen e) f)
        (λ _. answers_if _ _ (sees kind.QuestionDot s.at) _ _ (λ _. unexpected_keeps b s f _) (λ _. f))

    new_keeps : (s : State) → kind_at s.at ≡ kind.New → NothingLost b s → Answers (Kept b) (Lost b) (new_head inner cover s)
    unfolding new_head new_called
    new_keeps s e f =
        let g = behind_after b s e refl f in
        answers_if _ _ (sees kind.NewDot (after s.at)) _ _ (λ seen. new_target_keeps b (moved (moved s)) (behind_seen b (moved s) kind.NewDot seen refl g) (span_at s.at))
        (λ _. answers_then _ _ (inner callee (moved s)) _ (below callee b (moved s) g) (λ x t k. behind_called_keeps (span_at s.at) x t k))

    import_call_keeps : (start : Span) (s : State) → kind_at s.at ≡ kind.LParen → NothingLost b s → Answers (Kept b) (Lost b) (import_call inner cover start s)
    unfolding import_call
    import_call_keeps start s e f =
        answers_then _ _ (arguments inner cover s.code.setting.import_attributes s) _ (arguments_keeps s.code.setting.import_attributes s e f) (λ xs t g. g)

    meta_fault_keeps : (span : Span) (s : State) → NothingLost b s → Answers (Kept b) (Lost b) (meta_fault span s)
    unfolding meta_fault
    meta_fault_keeps span s f = answers_if _ _ s.code.flags.can_be_module _ _ (λ _. f) (λ _. fault_keeps b s f _)

    import_meta_keeps : (start : Span) (s : State) → NothingLost b s → Answers (Kept b) (Lost b) (import_meta start s)
    unfolding import_meta
    import_meta_keeps start s f = answers_if _ _ (word_at (codes "meta") s.at) _ _
        (λ e. answers_then _ _ (meta_fault _ (module_found (moved s))) _ (meta_fault_keeps _ (module_found (moved s)) (behind_after b s (word_place (codes "meta") s.at e) refl f)) (λ _ t g. g)) (λ _. unexpected_keeps b s f _)

    import_keeps : (s : State) → sees kind.Import s.at ≡ true → NothingLost b s → Answers (Kept b) (Lost b) (import_head inner cover s)
    unfolding import_head
    import_keeps s e f =
        let g : NothingLost b (moved s) = behind_seen b s kind.Import e refl f in
        answers_if _ _ (sees kind.LParen (after s.at)) _ _ (λ o. import_call_keeps (span_at s.at) (moved s) (saw (after s.at) kind.LParen o) g)
        (λ _. answers_if _ _ (sees kind.Dot (after s.at)) _ _ (λ seen. import_meta_keeps (span_at s.at) (moved (moved s)) (behind_seen b (moved s) kind.Dot seen refl g))
        (λ _. unexpected_keeps b (moved s) g _))

    -- ---- operators before and behind an operand

    prefixed_keeps : (op : UnaryOp) (s : State) → is_error (kind_at s.at) ≡ false → NothingLost b s → Answers (Kept b) (Lost b) (prefixed inner cover op s)
    unfolding prefixed
    prefixed_keeps op s e f =
        let g = behind_after b s refl e f in
        answers_then _ _ (inner unary (moved s)) _ (below unary b (moved s) g) (λ x t k. k)

    await_keeps : (s : State) → awaits s.code.flags s.at ≡ true → NothingLost b s → Answers (Kept b) (Lost b) (await_expr inner cover s)
    unfolding await_expr
    await_keeps s e f = await_either (Answers (Kept b) (Lost b)) _ s e (λ _. operand_keeps s refl f) (λ _. operand_keeps (noted (await_fault s) s) refl (behind_noted b (await_fault s) s f))
      where
        operand_keeps : (t : State) → t.at ≡ s.at → NothingLost b t → Answers (Kept b) (Lost b) (and_then (inner unary (moved t)) (λ x u. Ok (tree.await (record { lo = (span_at s.at).lo; hi = u.at.last.hi }) x, u)))
        operand_keeps t o g = answers_then _ _ (inner unary (moved t)) _ (below unary b (moved t) (behind_after b t (ap kind_at o ∙ await_stands s.code.flags s.at e) refl g)) (λ x u k. k)

    update_before_keeps : (op : UpdateOp) (s : State) → is_error (kind_at s.at) ≡ false → NothingLost b s → Answers (Kept b) (Lost b) (update_before inner cover op s)
    unfolding update_before
    update_before_keeps op s e f =
        let g = behind_after b s refl e f in
        answers_then _ _ (inner unary (moved s)) _ (below unary b (moved s) g) (λ x t k.
        answers_then _ _ (simple x t) _ (simple_keeps b t k x) (λ _ u j. rw j k))

    -- ---- operators between two operands

    -- behind an operand that may stand there
    right_keeps : (start : Span) (x : Tree) (op : BinaryOp) (s : State) → is_error (kind_at s.at) ≡ false → NothingLost b s
        → Answers (Kept b) (Lost b) (((λ t. inner (right_class op) (moved t)) >>= unmixed start op x) s)
    right_keeps start x op s e f =
        let g = behind_after b s refl e f in
        answers_then _ _ (inner (right_class op) (moved s)) _ (below (right_class op) b (moved s) g) (λ y t k.
        (unmixed_keeps b t k start op x y))

    operated_keeps : (start : Span) (x : Tree) (op : BinaryOp) (s : State) → is_error (kind_at s.at) ≡ false → NothingLost b s → Answers (Kept b) (Lost b) (operated inner cover start x op s)
    unfolding operated
    operated_keeps start x op s e f = answers_then _ _ (left_operand op x s) _ (left_operand_keeps b s f op x) (λ _ t g. right_keeps start x op t (rw g e) (rw g f))

    binary_by_keeps : (least : ℕ) (start : Span) (x : Tree) (o : Option BinaryOp) (s : State) → operator_at least s ≡ o → NothingLost b s
        → Answers (Kept b) (Lost b) (binary_by inner cover start x o s)
    unfolding operator_at
    binary_by_keeps least start x None s e f = f
    binary_by_keeps least start x (Some op) s e f = answers_then _ _ (operated inner cover start x op s) _
        (operated_keeps start x op s (no_error_by (λ k. read_operator least s.code (binary_operator k)) (kind_at s.at) op refl e) f) (λ y t g. g)

    pub binary_from_keeps : (least : ℕ) (start : Span) (x : Tree) (s : State) → NothingLost b s → Answers (Kept b) (Lost b) (binary_from inner cover least start x s)
    unfolding binary_from binary_turn
    binary_from_keeps least start x s f = loop_keeps (binary_turn inner cover least start) b
        (λ y u k. binary_by_keeps least start y (operator_at least u) u refl k) x s f

    -- a private name and `in`
    private_in_keeps : (s : State) → sees kind.HashIn s.at ≡ true → NothingLost b s → Answers (Kept b) (Lost b) (private_in inner cover s)
    unfolding private_in
    private_in_keeps s e f = answers_then _ _ (private_name s) _ (private_behind b s (behind_seen b s kind.HashIn e refl f)) (λ x t g.
        answers_then _ _ (in_word t) _ (in_word_keeps b t g) (λ _ u k.
        answers_then _ _ (inner (right_class binary.In) u) _ (below (right_class binary.In) b u k) (λ y v j. j)))

    -- ---- conditionals, assignments and sequences

    conditional_keeps : (start : Span) (x : Tree) (s : State) → kind_at s.at ≡ kind.QuestionMark → NothingLost b s → Answers (Kept b) (Lost b) (conditional inner cover start x s)
    unfolding conditional
    conditional_keeps start x s e f =
        let g = behind_after b s e refl f in
        answers_then _ _ (inside inner cover assignment (moved s)) _ (inside_keeps assignment b (moved s) g) (λ y t k.
        answers_then _ _ (expect kind.Colon t) _ (expect_keeps b t k kind.Colon refl) (λ _ u j.
        answers_then _ _ (inner assignment u) _ (below assignment b u j) (λ z v l. (unassigned_keeps b v l _))))

    assigned_to_keeps : (start : Span) (x : Tree) (op : AssignOp) (s : State) → is_error (kind_at s.at) ≡ false → NothingLost b s → Answers (Kept b) (Lost b) (assigned_to inner cover start x op s)
    unfolding assigned_to
    assigned_to_keeps start x op s e f =
        let g = behind_after b s refl e f in
        answers_then _ _ (inner assignment (moved s)) _ (below assignment b (moved s) g) (λ y t k. k)

    assigned_keeps : (start : Span) (x : Tree) (op : AssignOp) (s : State) → is_error (kind_at s.at) ≡ false → NothingLost b s → Answers (Kept b) (Lost b) (assigned inner cover start x op s)
    unfolding assigned
    assigned_keeps start x op s e f = answers_if _ _ (is_simple_target x) _ _ (λ _. assigned_to_keeps start x op s e f)
        (λ _. reject_keeps _ (unassignable op) (span_of x) b s f)

    assigned_or_keeps : (is_async : Bool) (start : Span) (x : Tree) (o : Option AssignOp) (s : State) → assign_operator (kind_at s.at) ≡ o → NothingLost b s
        → Answers (Kept b) (Lost b) (assigned_or inner cover is_async start x o s)
    assigned_or_keeps is_async start x (Some op) s e f = assigned_keeps start x op s (no_error_by assign_operator (kind_at s.at) op refl e) f
    assigned_or_keeps is_async start x None s e f = unheaded_keeps b s f is_async x

    behind_operators_keeps : (is_async : Bool) (start : Span) (x : Tree) (s : State) → NothingLost b s → Answers (Kept b) (Lost b) (behind_operators inner cover is_async start x s)
    unfolding behind_operators
    behind_operators_keeps is_async start x s f = answers_if _ _ (sees kind.QuestionMark s.at) _ _ (λ e. conditional_keeps start x s (saw s.at kind.QuestionMark e) f)
        (λ _. assigned_or_keeps is_async start x (assign_operator (kind_at s.at)) s refl f)

    -- ---- what may still become a pattern

    continued_keeps : (start : Span) (x : Tree) (s : State) → NothingLost b s → Answers (Kept b) (Lost b) (continued inner cover start x s)
    unfolding continued postfixed
    continued_keeps start x s f = answers_then _ _ (left_from inner cover true start x s) _ (left_from_keeps true start x s f) (λ y t g.
        answers_then _ _ (behind_operand start y (postfix_at t.at) t) _ (behind_operand_keeps b start y (postfix_at t.at) t refl g) (λ z u k.
        answers_then _ _ (binary_from inner cover 1 start z u) _ (binary_from_keeps 1 start z u k) (λ w v j. behind_operators_keeps false start w v j)))

    closed_literal_keeps : (start : Span) (v : Cover) (s : State) → NothingLost b s → Answers (Kept b) (Lost b) (closed inner cover start v s)
    unfolding closed
    closed_literal_keeps start v s f = answers_then _ _ (close v s) _ (close_keeps b s f v) (λ x t g.
        answers_then _ _ (continued inner cover start x t) _ (continued_keeps start x t g) (λ y u k. k))

    assigned_pattern_keeps : (start : Span) (v : Cover) (s : State) → is_error (kind_at s.at) ≡ false → NothingLost b s → Answers (Kept b) (Lost b) (assigned_pattern inner cover start v s)
    unfolding assigned_pattern
    assigned_pattern_keeps start v s e f = answers_then _ _ (target v s) _ (target_keeps b s f v) (λ p t g.
        answers_then _ _ (assigned_to inner cover start p assign.Assign t) _ (assigned_to_keeps start p assign.Assign t (rw g e) (rw g f)) (λ y u k. k))

    behind_literal_keeps : (start : Span) (v : Cover) (s : State) → NothingLost b s → Answers (Kept b) (Lost b) (behind_literal inner cover start v s)
    unfolding behind_literal
    behind_literal_keeps start v s f = answers_if _ _ (sees kind.Assign s.at) _ _
        (λ e. assigned_pattern_keeps start v s (ap is_error (saw s.at kind.Assign e)) f)
        (λ _. answers_if _ _ (goes_on s) _ _ (λ _. closed_literal_keeps start v s f) (λ _. f))

    yielded_keeps : (delegate : Bool) (start : Span) (s : State) → NothingLost b s → Answers (Kept b) (Lost b) (yielded inner delegate start s)
    unfolding yielded
    yielded_keeps delegate start s f = answers_then _ _ (inner assignment s) _ (below assignment b s f) (λ x t g. g)

    yield_keeps : (s : State) → begins_yield s.code.flags s.at ≡ true → NothingLost b s → Answers (Kept b) (Lost b) (yield_expr inner s)
    unfolding yield_expr behind_yield bare_yield
    yield_keeps s e f =
        let g = behind_after b s (yield_kind s.code.flags s.at e) refl f in
        answers_if _ _ (breaks_at (after s.at)) _ _ (λ _. g)
        (λ _. answers_if _ _ (sees kind.Mul (after s.at)) _ _ (λ seen. yielded_keeps true (span_at s.at) (moved (moved s)) (behind_seen b (moved s) kind.Mul seen refl g))
        (λ _. answers_if _ _ (begins_expression s.code.flags (after s.at)) _ _ (λ _. yielded_keeps false (span_at s.at) (moved s) g) (λ _. g)))

    -- what a function may begin
    module _ (function : FunctionForm → Reader Tree) (below_function : FunctionsPass function) where
      open_literal_keeps : (s : State) → (sees kind.LBracket s.at || sees kind.LBrace s.at) ≡ true → NothingLost b s → Answers (Kept b) (Lost b) (open_literal inner cover function s)
      unfolding open_literal
      open_literal_keeps s h f = answers_then _ _ (cond (sees kind.LBracket s.at) (array inner cover s) (object inner cover function s)) _
          (answers_if _ _ (sees kind.LBracket s.at) _ _ (λ e. array_keeps s (saw s.at kind.LBracket e) f)
          (λ e. object_keeps function below_function s (saw s.at kind.LBrace (other_test (sees kind.LBracket s.at) (sees kind.LBrace s.at) h e)) f))
          (λ v t g. behind_literal_keeps (span_at s.at) v t g)

      marked_keeps : (s : State) → NothingLost b s → Answers (Kept b) (Lost b) (marked_primary inner cover function s)
      unfolding marked_primary
      marked_keeps s f = answers_if _ _ (sees kind.LParen s.at) _ _ (λ e. paren_keeps s (saw s.at kind.LParen e) f)
          (λ _. answers_if _ _ (sees kind.LBracket s.at) _ _ (λ e. answers_then _ _ (array inner cover s) _ (array_keeps s (saw s.at kind.LBracket e) f) (λ v t g. close_keeps b t g v))
          (λ _. answers_if _ _ (sees kind.LBrace s.at) _ _ (λ e. answers_then _ _ (object inner cover function s) _ (object_keeps function below_function s (saw s.at kind.LBrace e) f) (λ v t g. close_keeps b t g v))
          (λ _. answers_if _ _ (sees kind.This s.at) _ _ (λ e. this_keeps b s f e)
          (λ _. answers_if _ _ (sees kind.Function s.at) _ _ (λ e. below_function.passes expression_form b s (function_begins s.at (saw s.at kind.Function e)) f)
          (λ _. answers_if _ _ (sees kind.Class s.at) _ _ (λ e. below_function.passes class_form b s (saw s.at kind.Class e) f)
          (λ _. answers_if _ _ (sees kind.Regex s.at) _ _ (λ _. regex_keeps b s f)
          (λ _. answers_if _ _ (begins_template s.at) _ _ (λ _. template_keeps b s f) (λ _. unexpected_keeps b s f _))))))))

      literal_or_keeps : (o : Option Tree) (s : State) → NothingLost b s → Answers (Kept b) (Lost b) (literal_or inner cover function o s)
      literal_or_keeps (Some x) s f = f
      literal_or_keeps None s f = marked_keeps s f

      named_keeps : (s : State) → NothingLost b s → Answers (Kept b) (Lost b) (named_expr inner cover function s)
      unfolding named_expr
      named_keeps s f = answers_if _ _ (is_async_function s.at) _ _ (λ e. below_function.passes expression_form b s (async_begins s.at e) f) (λ _. ident_keeps b s f)

      primary_keeps : (s : State) → NothingLost b s → Answers (Kept b) (Lost b) (primary inner cover function s)
      unfolding primary
      primary_keeps s f = answers_if _ _ (name_at s.code.flags s.at) _ _ (λ _. named_keeps s f) (λ _. answers_then _ _ (literal s) _ (literal_keeps b s f) literal_or_keeps)

      left_head_keeps : (calls : Bool) (s : State) → NothingLost b s → Answers (Kept b) (Lost b) (left_head inner cover function calls s)
      unfolding left_head
      left_head_keeps calls s f = answers_if _ _ (sees kind.Super s.at) _ _ (λ e. super_keeps calls s e f)
          (λ _. answers_if _ _ (sees kind.New s.at) _ _ (λ e. new_keeps s (saw s.at kind.New e) f)
          (λ _. answers_if _ _ (calls && sees kind.Import s.at) _ _ (λ e. import_keeps s (and_parts calls (sees kind.Import s.at) e).1 f) (λ _. primary_keeps s f)))

      left_keeps : (calls : Bool) (s : State) → NothingLost b s → Answers (Kept b) (Lost b) (left inner cover function calls s)
      unfolding left
      left_keeps calls s f = answers_then _ _ (left_head inner cover function calls s) _ (left_head_keeps calls s f) (λ x t g. left_from_keeps calls (span_at s.at) x t g)

      left_expr_keeps : (s : State) → NothingLost b s → Answers (Kept b) (Lost b) (left_expr inner cover function s)
      unfolding left_expr
      left_expr_keeps s f = answers_then _ _ (left inner cover function true s) _ (left_keeps true s f) (λ x t g. closed_keeps b t g x)

      postfix_keeps : (s : State) → NothingLost b s → Answers (Kept b) (Lost b) (postfix inner cover function s)
      unfolding postfix
      postfix_keeps s f = answers_then _ _ (left inner cover function true s) _ (left_keeps true s f) (λ x t g. behind_operand_keeps b (span_at s.at) x (postfix_at t.at) t refl g)

      updated_keeps : (o : Option UpdateOp) (s : State) → update_operator (kind_at s.at) ≡ o → NothingLost b s → Answers (Kept b) (Lost b) (updated inner cover function o s)
      updated_keeps (Some op) s e f = update_before_keeps op s (no_error_by update_operator (kind_at s.at) op refl e) f
      updated_keeps None s e f = postfix_keeps s f

      unary_by_keeps : (o : Option UnaryOp) (s : State) → unary_operator (kind_at s.at) ≡ o → NothingLost b s → Answers (Kept b) (Lost b) (unary_by inner cover function o s)
      unary_by_keeps (Some op) s e f = prefixed_keeps op s (no_error_by unary_operator (kind_at s.at) op refl e) f
      unary_by_keeps None s e f = answers_if _ _ (awaits s.code.flags s.at) _ _ (λ a. await_keeps s a f) (λ _. updated_keeps (update_operator (kind_at s.at)) s refl f)

      unary_keeps : (s : State) → NothingLost b s → Answers (Kept b) (Lost b) (unary_expr inner cover function s)
      unfolding unary_expr
      unary_keeps s f = unary_by_keeps (unary_operator (kind_at s.at)) s refl f

      first_operand_keeps : (least : ℕ) (s : State) → NothingLost b s → Answers (Kept b) (Lost b) (first_operand inner cover function least s)
      unfolding first_operand
      first_operand_keeps least s f = answers_if _ _ (nat_le least (precedence binary.In) && sees kind.HashIn s.at) _ _
          (λ e. private_in_keeps s (and_parts (nat_le least (precedence binary.In)) (sees kind.HashIn s.at) e).1 f) (λ _. unary_keeps s f)

      binary_keeps : (least : ℕ) (s : State) → NothingLost b s → Answers (Kept b) (Lost b) (binary_expr inner cover function least s)
      unfolding binary_expr
      binary_keeps least s f = answers_then _ _ (first_operand inner cover function least s) _ (first_operand_keeps least s f) (λ x t g. binary_from_keeps least (span_at s.at) x t g)

      operators_keeps : (s : State) → NothingLost b s → Answers (Kept b) (Lost b) (operators_expr inner cover function s)
      unfolding operators_expr
      operators_keeps s f = answers_then _ _ (binary_expr inner cover function 1 s) _ (binary_keeps 1 s f) (λ x t g. behind_operators_keeps (begins_async_call s.at) (span_at s.at) x t g)

      -- ---- arrow functions, and what stands in parentheses where one may begin

      arrow_body_keeps : (is_async : Bool) (s : State) → NothingLost b s → Answers (Kept b) (Lost b) (arrow_body inner function is_async s)
      unfolding arrow_body
      arrow_body_keeps is_async s f = let t = coded (in_arrow s.code is_async) s in answers_if _ _ (sees kind.LBrace s.at) _ _ (λ _. below_function.passes (block_form is_async) b s tt f)
          (λ _. answers_then (Kept b) _ (enclosed (inner assignment) t) _ (answers_then (Kept b) _ (inner assignment (unlabelled t)) _ (below assignment b (unlabelled t) f) (λ x u k. k)) (λ x u k. flagged_kept b s u f k))

      arrow_from_keeps : (is_async : Bool) (start : Span) (ps : List Tree) (s : State) → kind_at s.at ≡ kind.Arrow → NothingLost b s → Answers (Kept b) (Lost b) (arrow_from inner function is_async start ps s)
      unfolding arrow_from
      arrow_from_keeps is_async start ps s e f = answers_if _ _ (breaks_at s.at) _ _ (λ _. refuse_keeps _ faults.LineBreakBeforeArrow b s f)
          (λ _. answers_then _ _ (arrow_body inner function is_async (moved s)) _ (arrow_body_keeps is_async (moved s) (behind_after b s e refl f)) (λ body t g.
          answers_then _ _ (told (misplaced_directive (has_plain_params (listed ps)) body) t) _ (told_keeps b (misplaced_directive (has_plain_params (listed ps)) body) t g) (λ _ u k. k)))

      named_arrow_keeps : (s : State) → begins_named_arrow s.code.flags s.at ≡ true → NothingLost b s → Answers (Kept b) (Lost b) (named_arrow inner function s)
      unfolding named_arrow begins_named_arrow
      named_arrow_keeps s e f = let (i, a) = and_yes (name_at s.code.flags s.at) _ e in let k = saw (after s.at) kind.Arrow a in
          answers_then _ _ (function parameter_form s) _ (below_function.names b s i (ap is_error k) f)
          (λ p t (g, o). arrow_from_keeps false (span_at s.at) (p ∷ []) t (ap kind_at o ∙ k) g)

      rest_part_keeps : (found : List Cover) (s : State) → sees kind.DotDotDot s.at ≡ true → NothingLost b s → Answers (Kept b) (Lost b) (rest_part inner function found s)
      unfolding rest_part
      rest_part_keeps found s e f = let t = coded (with_in s.code) (moved s) in let g = behind_seen b s kind.DotDotDot e refl f in
          answers_then (Kept b) _ (within with_in (function parameter_form) (moved s)) _
          (answers_then (Kept b) _ (function parameter_form t) _ (below_function.passes parameter_form b t tt g) (λ p u k. flagged_kept b (moved s) u g k)) (λ p u k. k)

      part_turn_keeps : (found : List Cover) (s : State) → NothingLost b s → Answers (Kept b) (Lost b) (part_turn inner function cover found s)
      unfolding part_turn
      part_turn_keeps found s f = answers_if _ _ (sees kind.DotDotDot s.at) _ _ (λ e. answers_then _ _ (rest_part inner function found s) _ (rest_part_keeps found s e f) (λ g t k. k))
          (λ _. answers_then _ _ (covered inner cover s) _ (covered_keeps b s f) (λ v t k. behind_part_keeps b (found ++ v ∷ []) t k))

      group_parts_keep : (s : State) → NothingLost b s → Answers (Kept b) (Lost b) (group_parts inner function cover s)
      unfolding group_parts
      group_parts_keep s f = answers_if _ _ (sees kind.RParen s.at) _ _ (λ _. f) (λ _. loop_keeps (part_turn inner function cover) b part_turn_keeps [] s f)

      group_keeps : (s : State) → sees kind.LParen s.at ≡ true → NothingLost b s → Answers (Kept b) (Lost b) (group inner function cover s)
      unfolding group
      group_keeps s e f = answers_then _ _ (group_parts inner function cover (moved s)) _ (group_parts_keep (moved s) (behind_seen b s kind.LParen e refl f)) (λ g t k.
          answers_then _ _ (expect kind.RParen t) _ (expect_keeps b t k kind.RParen refl) (λ _ u j. j))

      behind_group_keeps : (start : Span) (g : Group) (s : State) → NothingLost b s → Answers (Kept b) (Lost b) (behind_group inner function cover start g s)
      behind_group_keeps start g s f = answers_if _ _ (sees kind.Arrow s.at) _ _
          (λ e. answers_then _ _ (parameters_of g.parts g.rest s) _ (parameters_of_keep b g.parts g.rest s f)
          (λ ps t k. arrow_from_keeps false start ps t (ap (λ (z : State). kind_at z.at) k ∙ saw s.at kind.Arrow e) (rw k f)))
          (λ _. answers_then _ _ (closed_group start g s) _ (closed_group_keeps b start g s f) (λ e t k. continued_keeps start e t k))

      grouped_keeps : (s : State) → sees kind.LParen s.at ≡ true → NothingLost b s → Answers (Kept b) (Lost b) (grouped inner function cover s)
      unfolding grouped
      grouped_keeps s e f = answers_then _ _ (group inner function cover s) _ (group_keeps s e f) (λ g t k. behind_group_keeps (span_at s.at) g t k)

      -- the same behind `async`
      async_named_keeps : (s : State) → begins_async_arrow s.code.flags s.at ≡ true → NothingLost b s → Answers (Kept b) (Lost b) (async_named_arrow inner function s)
      unfolding async_named_arrow
      async_named_keeps s e f = answers_then _ _ (function parameter_form (moved s)) _ (below_function.passes parameter_form b (moved s) tt (behind_after b s (async_arrow_kind s.code.flags s.at e) refl f)) (λ p t g.
          answers_if _ _ (sees kind.Arrow t.at) _ _ (λ e. arrow_from_keeps true (span_at s.at) (p ∷ []) t (saw t.at kind.Arrow e) g) (λ _. refuse_keeps _ faults.Expected b t g))

      behind_async_keeps : (start : Span) (x : Tree) (found : List Argument) (s : State) → NothingLost b s → Answers (Kept b) (Lost b) (behind_async inner function cover start x found s)
      unfolding async_called
      behind_async_keeps start x found s f = answers_if _ _ (sees kind.Arrow s.at) _ _
          (λ e. answers_then _ _ (argument_parameters found s) _ (argument_parameters_keep b found s f)
          (λ ps t k. arrow_from_keeps true start ps t (ap (λ (z : State). kind_at z.at) k ∙ saw s.at kind.Arrow e) (rw k f)))
          (λ _. answers_then _ _ (async_called start x found s) _ (answers_then _ _ (closed_arguments found s) _ (closed_arguments_keep b found s f) (λ xs t k. k))
          (λ e t k. continued_keeps start e t k))

      async_grouped_keeps : (s : State) → begins_async_call s.at ≡ true → NothingLost b s → Answers (Kept b) (Lost b) (async_grouped inner function cover s)
      unfolding async_grouped
      async_grouped_keeps s e f = let (w, o, l) = async_call_parts s.at e in let n = async_name s w in rw n.reads
          (answers_then _ _ (either_arguments inner cover (moved s)) _ (either_arguments_keep b (moved s) o (behind_after b s (word_place (codes "async") s.at w) refl f))
          (λ found u k. behind_async_keeps (span_at s.at) (tree.ident n.span n.text) found u k))

      plain_keeps : (s : State) → NothingLost b s → Answers (Kept b) (Lost b) (plain_expr inner cover function s)
      unfolding plain_expr
      plain_keeps s f = answers_if _ _ (begins_yield s.code.flags s.at) _ _ (λ e. yield_keeps s e f)
          (λ _. answers_if _ _ (begins_named_arrow s.code.flags s.at) _ _ (λ e. named_arrow_keeps s e f)
          (λ _. answers_if _ _ (sees kind.LParen s.at) _ _ (λ e. grouped_keeps s e f)
          (λ _. answers_if _ _ (begins_async_arrow s.code.flags s.at) _ _ (λ e. async_named_keeps s e f)
          (λ _. answers_if _ _ (begins_async_call s.at) _ _ (λ e. async_grouped_keeps s e f) (λ _. operators_keeps s f)))))

      pub cover_expr_keeps : (s : State) → NothingLost b s → Answers (Kept b) (Lost b) (cover_expr inner cover function s)
      unfolding cover_expr done_expr
      cover_expr_keeps s f = answers_if _ _ (sees kind.LBracket s.at || sees kind.LBrace s.at) _ _ (λ h. open_literal_keeps s h f)
          (λ _. answers_then _ _ (plain_expr inner cover function s) _ (plain_keeps s f) (λ x t g. g))

      assignment_keeps : (s : State) → NothingLost b s → Answers (Kept b) (Lost b) (assignment_expr inner cover function s)
      unfolding assignment_expr
      assignment_keeps s f = answers_then _ _ (cover_expr inner cover function s) _ (cover_expr_keeps s f) (λ v t g. close_keeps b t g v)

      -- the parts of a sequence, before each of which stands a comma
      sequence_keeps : (start : Span) (x : Tree) (s : State) → sees kind.Comma s.at ≡ true → NothingLost b s → Answers (Kept b) (Lost b) (sequence_from inner cover function start x s)
      unfolding sequence_from sequence_turn
      sequence_keeps start x s e f = answers_then _ _ (loop (sequence_turn inner cover function) (x ∷ []) s) _
          (held_loop_keeps (sequence_turn inner cover function) b (λ _ t. NothingLost b t × (sees kind.Comma t.at ≡ true)) (λ _ t h. h.0)
          (λ xs t (g, o). answers_then _ _ (assignment_expr inner cover function (moved t)) _ (assignment_keeps (moved t) (behind_seen b t kind.Comma o refl g)) (λ y u k.
          answers_if _ _ (sees kind.Comma u.at) _ _ (λ h. (k, h)) (λ _. k))) (x ∷ []) s (f, e)) (λ xs t g. g)

      expression_keeps : (s : State) → NothingLost b s → Answers (Kept b) (Lost b) (expression_expr inner cover function s)
      unfolding expression_expr
      expression_keeps s f = answers_then _ _ (assignment_expr inner cover function s) _ (assignment_keeps s f) (λ x t g.
          answers_if _ _ (sees kind.Comma t.at) _ _ (λ e. sequence_keeps (span_at s.at) x t e g) (λ _. g))

      pub head_expr_keeps : (s : State) → NothingLost b s → Answers (Kept b) (Lost b) (head_expr inner cover function s)
      unfolding head_expr sequenced
      head_expr_keeps s f = answers_then _ _ (cover_expr inner cover function s) _ (cover_expr_keeps s f) (λ v t g. answers_if _ _ (sees kind.Comma t.at) _ _
          (λ e. answers_then _ _ (close v t) _ (close_stays b t g v) (λ x u (k, o). answers_then _ _ (sequence_from inner cover function (span_at s.at) x u) _
          (sequence_keeps (span_at s.at) x u (ap (λ z. sees kind.Comma z) o ∙ e) k) (λ y w j. j)))
          (λ _. g))

      pub level_keeps : (class : Class) (s : State) → NothingLost b s → Answers (Kept b) (Lost b) (expr_level inner cover function class s)
      unfolding expr_level
      level_keeps expression s f = expression_keeps s f
      level_keeps assignment s f = assignment_keeps s f
      level_keeps (operator least) s f = binary_keeps least s f
      level_keeps unary s f = unary_keeps s f
      level_keeps left_side s f = left_expr_keeps s f
      level_keeps callee s f = left_keeps false s f
