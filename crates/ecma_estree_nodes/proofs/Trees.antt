-- The text of a tree is read as its nodes.
use Rattle.std.proofs.Common.{◌≡◌, ◌+◌, ◌-◌, Bool, true, false, not, cond, refl, codes, length, Some, None}
use Rattle.ecma_estree_text.specs.Number.{number_text}
use Rattle.ecma_estree_text.specs.Strings.{string_text}
use Rattle.ecma_estree_nodes.specs.Law.{ReadsBack}
use Rattle.ecma_estree_nodes.specs.Nodes.{nodes, all_nodes}
use Rattle.ecma_estree_nodes.specs.Reading.{read}
use Rattle.ecma_estree_nodes.proofs.Pieces.{Reads, Fits, both, skip, past, last, none_read, either, neither, by_itself, as_read, key_mark, word_mark, bool_read, bool_mark, end_mark, open_list_mark, end_list_mark, nothing_mark, comma_read, calm_read, quoted_mark, string_read, begin, begin_function, alone, fields_read, identifier_read, word_name_read, literal_read, big_literal_read, regex_read, element_read, property_read, member_head_read, fields_mark, named_fields_read, accessor_read, phase_read, directive_read}
use Rattle.ecma_estree_nodes.proofs.Scan.{all_calm, number_calm}
use Rattle.ecma_estree_nodes.proofs.Words.{function_kind_calm, class_kind_calm, kind_calm, using_calm, method_calm, unary_calm, update_calm, binary_calm, binary_kind_calm, assign_calm}
use Rattle.ecma_estree_writer.specs.Estree.{Role, plain, directives, members, attributes, bare, argument, declared, function, class, json, jsons, is_bare, is_attributes, is_directives, function_kind, class_kind, is_zero, skips, next, end_of, expr_end, brace, method_role, link, linked, is_link, is_optional, inner, link_role}
use Rattle.ecma_estree_writer.specs.Parts.{nothing, is_namespace_alone, is_import, is_empty}
use Rattle.ecma_estree_writer.specs.Source.{Source}
use Rattle.ecma_estree_writer.specs.Words.{bool_word, kind_word, using_word, method_word, unary_word, update_word, binary_word, binary_kind, assign_word}
use Rattle.swc_ecma_parser_model.specs.declared.leaves.MetaPropKind.TheVariants as meta
use Rattle.swc_ecma_parser_model.specs.Directive.{is_string_statement}
use Rattle.swc_ecma_parser_model.specs.Forms.{span_of, is_absent, is_chain}
use Rattle.swc_ecma_parser_model.specs.Kinds.{is_block, is_computed}
use Rattle.swc_ecma_parser_model.specs.Tree as tree
use Rattle.swc_ecma_parser_model.specs.Tree.{Tree, Trees, none, also}

-- a name that is text already is a word or closed text
abbrev Ready : Role → Type 0
Ready (function kind name start) = (all_calm kind ≡ true) × Reads name (read name)
Ready (class kind name name_end) = (all_calm kind ≡ true) × Reads name (read name)
Ready _ = Unit {0}

nothing_itself : Reads nothing (read nothing)
nothing_itself = by_itself nothing_mark.quiet

either_ready : (b : Bool) → Ready (cond b directives plain)
either_ready true = tt
either_ready false = tt

next_ready : (r : Role) (x : Tree) → Ready r → Ready (next r x)
next_ready directives x g = either_ready (is_string_statement x)
next_ready _ x g = g

link_ready : (b : Bool) → Ready (cond b link plain)
link_ready true = tt
link_ready false = tt

inner_ready : (r : Role) (x : Tree) → Ready (inner r x)
inner_ready (linked optional) x = link_ready (is_chain x)
inner_ready _ x = tt

mutual
  tree_reads : (t : Source) (r : Role) (x : Tree) → Fits t → Ready r → Reads (json t r x) (nodes t r x)
  tree_reads t r tree.absent f g = neither (is_attributes r) none_read nothing_mark.quiet
  tree_reads t r (tree.list ts) f g = trees_read t r true ts f g
  -- names and literals
  tree_reads t r (tree.ident s name) f g = identifier_read t s name f
  tree_reads t r (tree.str s value raw) f g = literal_read t s (string_text value raw) raw f (string_read value raw)
  tree_reads t r (tree.bool s b) f g = literal_read t s (bool_word b) (bool_word b) f (bool_read b)
  tree_reads t r (tree.null s) f g = literal_read t s (codes "null") (codes "null") f (calm_read (codes "null") refl)
  tree_reads t r (tree.num s raw) f g = literal_read t s (number_text raw) raw f (calm_read (number_text raw) (number_calm raw))
  tree_reads t r (tree.big_int s raw) f g = big_literal_read t s raw f
  tree_reads t r (tree.regex s exp flags) f g = regex_read t s exp flags f
  -- further primary expressions
  tree_reads t r (tree.this s) f g = alone t (codes "ThisExpression") s.lo.0 s.hi.0 f.bounded refl end_mark
  tree_reads t r (tree.array s elems) f g =
      begin t (codes "ArrayExpression") s.lo.0 s.hi.0 f.bounded refl (key_mark (codes "elements") refl) (past open_list_mark (last (tree_reads t plain elems f tt)
      (past end_list_mark end_mark.quiet)))
  tree_reads t r (tree.object s props) f g =
      (either (is_attributes r) (tree_reads t attributes props f tt)
      (begin t (codes "ObjectExpression") s.lo.0 s.hi.0 f.bounded refl (key_mark (codes "properties") refl) (past open_list_mark (last (tree_reads t plain props f tt)
      (past end_list_mark end_mark.quiet)))))
  tree_reads t r (tree.fn_expr s name fn) f g =
      (tree_reads t (function (function_kind r) (json t plain name) s.lo.0) fn f (function_kind_calm r, by_itself (tree_reads t plain name f tt)))
  tree_reads t r (tree.class_expr s name body) f g =
      (tree_reads t (class (class_kind r) (json t plain name) (end_of name)) body f (class_kind_calm r, by_itself (tree_reads t plain name f tt)))
  tree_reads t r (tree.paren s e) f g = tree_reads t plain e f tt
  tree_reads t r (tree.meta_prop s meta.ImportMeta) f g =
      begin t (codes "MetaProperty") s.lo.0 s.hi.0 f.bounded refl (key_mark (codes "meta") refl) (both (word_name_read t (codes "import") s.lo.0 (s.lo.0 + 6) f refl)
      (past (key_mark (codes "property") refl) (last (word_name_read t (codes "meta") (s.hi.0 - 4) s.hi.0 f refl) end_mark.quiet)))
  tree_reads t r (tree.meta_prop s meta.NewTarget) f g =
      begin t (codes "MetaProperty") s.lo.0 s.hi.0 f.bounded refl (key_mark (codes "meta") refl) (both (word_name_read t (codes "new") s.lo.0 (s.lo.0 + 3) f refl)
      (past (key_mark (codes "property") refl) (last (word_name_read t (codes "target") (s.hi.0 - 6) s.hi.0 f refl) end_mark.quiet)))
  tree_reads t r (tree.invalid s) f g = alone t (codes "Invalid") s.lo.0 s.hi.0 f.bounded refl end_mark
  -- operators
  tree_reads t r (tree.unary s op arg) f g =
      begin t (codes "UnaryExpression") s.lo.0 s.hi.0 f.bounded refl (word_mark (codes "operator") (unary_word op) refl (unary_calm op))
      (past (bool_mark (codes "prefix") true refl) (past (key_mark (codes "argument") refl) (last (tree_reads t plain arg f tt) end_mark.quiet)))
  tree_reads t r (tree.update s op prefix arg) f g =
      begin t (codes "UpdateExpression") s.lo.0 s.hi.0 f.bounded refl (word_mark (codes "operator") (update_word op) refl (update_calm op))
      (past (bool_mark (codes "prefix") prefix refl) (past (key_mark (codes "argument") refl) (last (tree_reads t plain arg f tt) end_mark.quiet)))
  tree_reads t r (tree.bin s op left right) f g =
      begin t (binary_kind op) s.lo.0 s.hi.0 f.bounded (binary_kind_calm op) (key_mark (codes "left") refl) (both (tree_reads t plain left f tt)
      (past (word_mark (codes "operator") (binary_word op) refl (binary_calm op)) (past (key_mark (codes "right") refl)
      (last (tree_reads t plain right f tt) end_mark.quiet))))
  tree_reads t r (tree.assign s op left right) f g =
      begin t (codes "AssignmentExpression") s.lo.0 s.hi.0 f.bounded refl (word_mark (codes "operator") (assign_word op) refl (assign_calm op))
      (past (key_mark (codes "left") refl) (both (tree_reads t plain left f tt) (past (key_mark (codes "right") refl)
      (last (tree_reads t plain right f tt) end_mark.quiet))))
  tree_reads t r (tree.cond s test cons alt) f g =
      begin t (codes "ConditionalExpression") s.lo.0 s.hi.0 f.bounded refl (key_mark (codes "test") refl) (both (tree_reads t plain test f tt)
      (past (key_mark (codes "consequent") refl) (both (tree_reads t plain cons f tt) (past (key_mark (codes "alternate") refl)
      (last (tree_reads t plain alt f tt) end_mark.quiet)))))
  tree_reads t r (tree.seq s exprs) f g =
      begin t (codes "SequenceExpression") s.lo.0 s.hi.0 f.bounded refl (key_mark (codes "expressions") refl) (past open_list_mark (last (tree_reads t plain exprs f tt)
      (past end_list_mark end_mark.quiet)))
  -- members and calls
  tree_reads t r (tree.member s obj prop) f g =
      begin t (codes "MemberExpression") s.lo.0 s.hi.0 f.bounded refl (key_mark (codes "object") refl) (both (tree_reads t (inner r obj) obj f (inner_ready r obj))
      (past (key_mark (codes "property") refl) (last (tree_reads t plain prop f tt) (past (bool_mark (codes "computed") (is_computed prop) refl)
      (past (bool_mark (codes "optional") (is_optional r) refl) end_mark.quiet)))))
  tree_reads t r (tree.super_prop s word prop) f g =
      begin t (codes "MemberExpression") s.lo.0 s.hi.0 f.bounded refl (key_mark (codes "object") refl)
      (begin t (codes "Super") word.lo.0 word.hi.0 f.bounded refl end_mark (past (key_mark (codes "property") refl) (last (tree_reads t plain prop f tt)
      (past (bool_mark (codes "computed") (is_computed prop) refl) (past (bool_mark (codes "optional") false refl) end_mark.quiet)))))
  tree_reads t r (tree.call s callee args) f g =
      (either (is_import callee) (begin t (codes "ImportExpression") s.lo.0 s.hi.0 f.bounded refl (key_mark (codes "source") refl)
      (both (tree_reads t (argument 0) args f tt) (past (key_mark (codes "options") refl) (last (tree_reads t (argument 1) args f tt) end_mark.quiet))))
      (begin t (codes "CallExpression") s.lo.0 s.hi.0 f.bounded refl (key_mark (codes "callee") refl) (both (tree_reads t (inner r callee) callee f (inner_ready r callee))
      (past (key_mark (codes "arguments") refl) (past open_list_mark (last (tree_reads t plain args f tt) (past end_list_mark
      (past (bool_mark (codes "optional") (is_optional r) refl) end_mark.quiet))))))))
  tree_reads t r (tree.new s callee args) f g =
      begin t (codes "NewExpression") s.lo.0 s.hi.0 f.bounded refl (key_mark (codes "callee") refl) (both (tree_reads t plain callee f tt)
      (past (key_mark (codes "arguments") refl) (past open_list_mark (last (either (is_absent args) none_read (tree_reads t plain args f tt))
      (past end_list_mark end_mark.quiet)))))
  tree_reads t r (tree.tpl s exprs quasis) f g =
      begin t (codes "TemplateLiteral") s.lo.0 s.hi.0 f.bounded refl (key_mark (codes "expressions") refl) (past open_list_mark (both (tree_reads t plain exprs f tt)
      (past end_list_mark (past (key_mark (codes "quasis") refl) (past open_list_mark (last (tree_reads t plain quasis f tt) (past end_list_mark end_mark.quiet)))))))
  tree_reads t r (tree.tagged_tpl s tag template) f g =
      begin t (codes "TaggedTemplateExpression") s.lo.0 s.hi.0 f.bounded refl (key_mark (codes "tag") refl) (both (tree_reads t plain tag f tt)
      (past (key_mark (codes "quasi") refl) (last (tree_reads t plain template f tt) end_mark.quiet)))
  tree_reads t r (tree.opt_chain s optional base) f g =
      (either (is_link r) (tree_reads t (linked optional) base f tt) (begin t (codes "ChainExpression") s.lo.0 s.hi.0 f.bounded refl
      (key_mark (codes "expression") refl) (last (tree_reads t (linked optional) base f tt) end_mark.quiet)))
  tree_reads t r (tree.arrow s params body is_async) f g =
      begin t (codes "ArrowFunctionExpression") s.lo.0 s.hi.0 f.bounded refl (fields_mark (not (is_block body)) false is_async) (past (key_mark (codes "params") refl)
      (past open_list_mark (both (tree_reads t plain params f tt) (past end_list_mark (past (key_mark (codes "body") refl) (last
      (either (is_block body) (tree_reads t directives body f tt) (tree_reads t plain body f tt)) end_mark.quiet))))))
  tree_reads t r (tree.yield s arg delegate) f g =
      begin t (codes "YieldExpression") s.lo.0 s.hi.0 f.bounded refl (bool_mark (codes "delegate") delegate refl) (past (key_mark (codes "argument") refl)
      (last (tree_reads t plain arg f tt) end_mark.quiet))
  tree_reads t r (tree.await s arg) f g =
      begin t (codes "AwaitExpression") s.lo.0 s.hi.0 f.bounded refl (key_mark (codes "argument") refl) (last (tree_reads t plain arg f tt) end_mark.quiet)
  -- parts of expressions
  tree_reads t r (tree.element None e) f g = tree_reads t plain e f tt
  tree_reads t r (tree.element (Some dots) e) f g =
      begin t (codes "SpreadElement") dots.lo.0 (expr_end e) f.bounded refl (key_mark (codes "argument") refl) (last (tree_reads t plain e f tt) end_mark.quiet)
  tree_reads t r (tree.private_name s word name) f g =
      begin t (codes "PrivateIdentifier") s.lo.0 s.hi.0 f.bounded refl (key_mark (codes "name") refl) (past (quoted_mark name) end_mark.quiet)
  tree_reads t r (tree.computed s e) f g = tree_reads t plain e f tt
  tree_reads t r (tree.super_callee s) f g = alone t (codes "Super") s.lo.0 s.hi.0 f.bounded refl end_mark
  tree_reads t r (tree.import_callee s) f g = alone t (codes "Import") s.lo.0 s.hi.0 f.bounded refl end_mark
  tree_reads t r (tree.quasi s tail cooked raw) f g = element_read t s tail cooked raw f
  -- parts of objects
  tree_reads t r (tree.spread_prop dots e) f g =
      begin t (codes "SpreadElement") dots.lo.0 (expr_end e) f.bounded refl (key_mark (codes "argument") refl) (last (tree_reads t plain e f tt) end_mark.quiet)
  tree_reads t r (tree.shorthand_prop s name) f g =
      both (property_read t s false true false f) (past (key_mark (codes "key") refl) (both (identifier_read t s name f) (past (key_mark (codes "value") refl)
      (last (identifier_read t s name f) (past (word_mark (codes "kind") (codes "init") refl refl) end_mark.quiet)))))
  tree_reads t r (tree.key_value_prop s k value) f g =
      (either (is_attributes r) (begin t (codes "ImportAttribute") s.lo.0 s.hi.0 f.bounded refl (key_mark (codes "key") refl) (both (tree_reads t plain k f tt)
      (past (key_mark (codes "value") refl) (last (tree_reads t plain value f tt) end_mark.quiet)))) (both (property_read t s false false (is_computed k) f)
      (past (key_mark (codes "key") refl) (both (tree_reads t plain k f tt) (past (key_mark (codes "value") refl) (last (tree_reads t plain value f tt)
      (past (word_mark (codes "kind") (codes "init") refl refl) end_mark.quiet)))))))
  tree_reads t r (tree.assign_prop s k value) f g =
      both (property_read t s false true false f) (past (key_mark (codes "key") refl) (both (tree_reads t plain k f tt) (past (key_mark (codes "value") refl)
      (begin t (codes "AssignmentPattern") s.lo.0 s.hi.0 f.bounded refl (key_mark (codes "left") refl) (both (tree_reads t plain k f tt)
      (past (key_mark (codes "right") refl) (last (tree_reads t plain value f tt) (past end_mark
      (past (word_mark (codes "kind") (codes "init") refl refl) end_mark.quiet)))))))))
  tree_reads t r (tree.getter_prop s k body) f g =
      both (property_read t s false false (is_computed k) f) (past (key_mark (codes "key") refl) (both (tree_reads t plain k f tt) (past (key_mark (codes "value") refl)
      (both (accessor_read t k s f) (past (key_mark (codes "params") refl) (past open_list_mark (past end_list_mark (past (key_mark (codes "body") refl)
      (last (tree_reads t directives body f tt) (past end_mark (past (word_mark (codes "kind") (codes "get") refl refl) end_mark.quiet)))))))))))
  tree_reads t r (tree.setter_prop s k pattern body) f g =
      both (property_read t s false false (is_computed k) f) (past (key_mark (codes "key") refl) (both (tree_reads t plain k f tt) (past (key_mark (codes "value") refl)
      (both (accessor_read t k s f) (past (key_mark (codes "params") refl) (past open_list_mark (both (tree_reads t plain pattern f tt) (past end_list_mark
      (past (key_mark (codes "body") refl) (last (tree_reads t directives body f tt) (past end_mark
      (past (word_mark (codes "kind") (codes "set") refl refl) end_mark.quiet))))))))))))
  tree_reads t r (tree.method_prop s k fn) f g =
      both (property_read t s true false (is_computed k) f) (past (key_mark (codes "key") refl) (both (tree_reads t plain k f tt) (past (key_mark (codes "value") refl)
      (last (tree_reads t (method_role t k) fn f (refl, nothing_itself)) (past (word_mark (codes "kind") (codes "init") refl refl) end_mark.quiet)))))
  -- patterns
  tree_reads t r (tree.ident_pat s name) f g = identifier_read t s name f
  tree_reads t r (tree.array_pat s elems) f g =
      begin t (codes "ArrayPattern") s.lo.0 s.hi.0 f.bounded refl (key_mark (codes "elements") refl) (past open_list_mark (last (tree_reads t plain elems f tt)
      (past end_list_mark end_mark.quiet)))
  tree_reads t r (tree.rest_pat s arg) f g =
      begin t (codes "RestElement") s.lo.0 s.hi.0 f.bounded refl (key_mark (codes "argument") refl) (last (tree_reads t plain arg f tt) end_mark.quiet)
  tree_reads t r (tree.object_pat s props) f g =
      begin t (codes "ObjectPattern") s.lo.0 s.hi.0 f.bounded refl (key_mark (codes "properties") refl) (past open_list_mark (last (tree_reads t plain props f tt)
      (past end_list_mark end_mark.quiet)))
  tree_reads t r (tree.key_value_pat_prop s k value) f g =
      both (property_read t s false false (is_computed k) f) (past (key_mark (codes "key") refl) (both (tree_reads t plain k f tt) (past (key_mark (codes "value") refl)
      (last (tree_reads t plain value f tt) (past (word_mark (codes "kind") (codes "init") refl refl) end_mark.quiet)))))
  tree_reads t r (tree.assign_pat_prop s k value) f g =
      both (property_read t s false true false f) (past (key_mark (codes "key") refl) (both (tree_reads t plain k f tt) (past (key_mark (codes "value") refl) (last
      (either (is_absent value) (tree_reads t plain k f tt) (begin t (codes "AssignmentPattern") s.lo.0 s.hi.0 f.bounded refl (key_mark (codes "left") refl)
      (both (tree_reads t plain k f tt) (past (key_mark (codes "right") refl) (last (tree_reads t plain value f tt) end_mark.quiet)))))
      (past (word_mark (codes "kind") (codes "init") refl refl) end_mark.quiet)))))
  tree_reads t r (tree.assign_pat s left right) f g =
      begin t (codes "AssignmentPattern") s.lo.0 s.hi.0 f.bounded refl (key_mark (codes "left") refl) (both (tree_reads t plain left f tt)
      (past (key_mark (codes "right") refl) (last (tree_reads t plain right f tt) end_mark.quiet)))
  tree_reads t r (tree.expr_pat e) f g = tree_reads t plain e f tt
  tree_reads t r (tree.invalid_pat s) f g = alone t (codes "Invalid") s.lo.0 s.hi.0 f.bounded refl end_mark
  -- functions
  tree_reads t (function kind name start) (tree.function s ds params body is_async is_generator) f g =
      begin_function t kind name start s.hi.0 is_generator is_async _ f.bounded g.0
      (both (named_fields_read name is_generator is_async g.1) (past (key_mark (codes "params") refl) (past open_list_mark (both (tree_reads t plain params f tt)
      (past end_list_mark (past (key_mark (codes "body") refl) (last (tree_reads t directives body f tt) end_mark.quiet)))))))
  tree_reads t r (tree.function s ds params body is_async is_generator) f g =
      (either (is_empty ds) none_read (past (key_mark (codes "decorators") refl) (past open_list_mark (last (tree_reads t plain ds f tt) end_list_mark.quiet))))
  tree_reads t r (tree.param s ds pat) f g = tree_reads t plain pat f tt
  tree_reads t r (tree.decorator s e) f g =
      begin t (codes "Decorator") s.lo.0 s.hi.0 f.bounded refl (key_mark (codes "expression") refl) (last (tree_reads t plain e f tt) end_mark.quiet)
  -- classes
  tree_reads t (class kind name name_end) (tree.class s ds body super_class) f g =
      begin t kind s.lo.0 s.hi.0 f.bounded g.0 (key_mark (codes "id") refl) (both g.1 (past (key_mark (codes "superClass") refl)
      (both (tree_reads t plain super_class f tt) (past (key_mark (codes "body") refl)
      (begin t (codes "ClassBody") (brace t s ds super_class name_end) s.hi.0 f.bounded refl (key_mark (codes "body") refl) (past open_list_mark
      (both (tree_reads t members body f tt) (past end_list_mark (past end_mark (last (either (is_empty ds) none_read (past (key_mark (codes "decorators") refl)
      (past open_list_mark (last (tree_reads t plain ds f tt) end_list_mark.quiet)))) end_mark.quiet))))))))))
  tree_reads t r (tree.class s ds body super_class) f g = none_read
  tree_reads t r (tree.constructor s k params body) f g =
      both (member_head_read t (codes "MethodDefinition") s false (is_computed k) f refl) (both (tree_reads t plain k f tt)
      (past (word_mark (codes "kind") (codes "constructor") refl refl) (past (key_mark (codes "value") refl) (both (accessor_read t k s f)
      (past (key_mark (codes "params") refl) (past open_list_mark (both (tree_reads t plain params f tt) (past end_list_mark (past (key_mark (codes "body") refl)
      (last (tree_reads t directives body f tt) (past end_mark end_mark.quiet)))))))))))
  tree_reads t r (tree.method s k fn kind is_static) f g =
      both (member_head_read t (codes "MethodDefinition") s is_static (is_computed k) f refl) (both (tree_reads t plain k f tt)
      (past (word_mark (codes "kind") (method_word kind) refl (method_calm kind)) (past (key_mark (codes "value") refl)
      (both (tree_reads t (method_role t k) fn f (refl, nothing_itself)) (last (tree_reads t plain fn f tt) end_mark.quiet)))))
  tree_reads t r (tree.private_method s k fn kind is_static) f g =
      both (member_head_read t (codes "MethodDefinition") s is_static false f refl) (both (tree_reads t plain k f tt)
      (past (word_mark (codes "kind") (method_word kind) refl (method_calm kind)) (past (key_mark (codes "value") refl)
      (both (tree_reads t (method_role t k) fn f (refl, nothing_itself)) (last (tree_reads t plain fn f tt) end_mark.quiet)))))
  tree_reads t r (tree.class_prop s k value is_static ds) f g =
      both (member_head_read t (codes "PropertyDefinition") s is_static (is_computed k) f refl) (both (tree_reads t plain k f tt) (past (key_mark (codes "value") refl)
      (both (tree_reads t plain value f tt) (last (either (is_empty ds) none_read (past (key_mark (codes "decorators") refl) (past open_list_mark
      (last (tree_reads t plain ds f tt) end_list_mark.quiet)))) end_mark.quiet))))
  tree_reads t r (tree.private_prop s k value is_static ds) f g =
      both (member_head_read t (codes "PropertyDefinition") s is_static false f refl) (both (tree_reads t plain k f tt) (past (key_mark (codes "value") refl)
      (both (tree_reads t plain value f tt) (last (either (is_empty ds) none_read (past (key_mark (codes "decorators") refl) (past open_list_mark
      (last (tree_reads t plain ds f tt) end_list_mark.quiet)))) end_mark.quiet))))
  tree_reads t r (tree.auto_accessor s k value is_static ds) f g =
      both (member_head_read t (codes "AccessorProperty") s is_static (is_computed k) f refl) (both (tree_reads t plain k f tt) (past (key_mark (codes "value") refl)
      (both (tree_reads t plain value f tt) (last (either (is_empty ds) none_read (past (key_mark (codes "decorators") refl) (past open_list_mark
      (last (tree_reads t plain ds f tt) end_list_mark.quiet)))) end_mark.quiet))))
  tree_reads t r (tree.static_block s body) f g =
      begin t (codes "StaticBlock") s.lo.0 s.hi.0 f.bounded refl (key_mark (codes "body") refl) (past open_list_mark (last (tree_reads t bare body f tt)
      (past end_list_mark end_mark.quiet)))
  tree_reads t r (tree.empty_member s) f g = none_read
  -- declarations
  tree_reads t r (tree.class_decl name body) f g =
      (tree_reads t (class (codes "ClassDeclaration") (json t plain name) (end_of name)) body f (refl, by_itself (tree_reads t plain name f tt)))
  tree_reads t r (tree.fn_decl name fn) f g =
      (tree_reads t (function (codes "FunctionDeclaration") (json t plain name) (span_of fn).lo.0) fn f (refl, by_itself (tree_reads t plain name f tt)))
  tree_reads t r (tree.var s kind decls) f g =
      begin t (codes "VariableDeclaration") s.lo.0 s.hi.0 f.bounded refl (key_mark (codes "declarations") refl) (past open_list_mark
      (last (tree_reads t plain decls f tt) (past end_list_mark (past (word_mark (codes "kind") (kind_word kind) refl (kind_calm kind)) end_mark.quiet))))
  tree_reads t r (tree.using s is_await decls) f g =
      begin t (codes "VariableDeclaration") s.lo.0 s.hi.0 f.bounded refl (key_mark (codes "declarations") refl) (past open_list_mark
      (last (tree_reads t plain decls f tt) (past end_list_mark (past (word_mark (codes "kind") (using_word is_await) refl (using_calm is_await)) end_mark.quiet))))
  tree_reads t r (tree.declarator s name init) f g =
      begin t (codes "VariableDeclarator") s.lo.0 s.hi.0 f.bounded refl (key_mark (codes "id") refl) (both (tree_reads t plain name f tt)
      (past (key_mark (codes "init") refl) (last (tree_reads t plain init f tt) end_mark.quiet)))
  -- statements
  tree_reads t r (tree.block s stmts) f g =
      (either (is_bare r) (tree_reads t plain stmts f tt) (begin t (codes "BlockStatement") s.lo.0 s.hi.0 f.bounded refl (key_mark (codes "body") refl)
      (past open_list_mark (last (tree_reads t r stmts f g) (past end_list_mark end_mark.quiet)))))
  tree_reads t r (tree.empty s) f g = alone t (codes "EmptyStatement") s.lo.0 s.hi.0 f.bounded refl end_mark
  tree_reads t r (tree.debugger s) f g = alone t (codes "DebuggerStatement") s.lo.0 s.hi.0 f.bounded refl end_mark
  tree_reads t r (tree.with s obj body) f g =
      begin t (codes "WithStatement") s.lo.0 s.hi.0 f.bounded refl (key_mark (codes "object") refl) (both (tree_reads t plain obj f tt)
      (past (key_mark (codes "body") refl) (last (tree_reads t plain body f tt) end_mark.quiet)))
  tree_reads t r (tree.return s arg) f g =
      begin t (codes "ReturnStatement") s.lo.0 s.hi.0 f.bounded refl (key_mark (codes "argument") refl) (last (tree_reads t plain arg f tt) end_mark.quiet)
  tree_reads t r (tree.labeled s label body) f g =
      begin t (codes "LabeledStatement") s.lo.0 s.hi.0 f.bounded refl (key_mark (codes "body") refl) (both (tree_reads t plain body f tt)
      (past (key_mark (codes "label") refl) (last (tree_reads t plain label f tt) end_mark.quiet)))
  tree_reads t r (tree.break s label) f g =
      begin t (codes "BreakStatement") s.lo.0 s.hi.0 f.bounded refl (key_mark (codes "label") refl) (last (tree_reads t plain label f tt) end_mark.quiet)
  tree_reads t r (tree.continue s label) f g =
      begin t (codes "ContinueStatement") s.lo.0 s.hi.0 f.bounded refl (key_mark (codes "label") refl) (last (tree_reads t plain label f tt) end_mark.quiet)
  tree_reads t r (tree.if_stmt s test cons alt) f g =
      begin t (codes "IfStatement") s.lo.0 s.hi.0 f.bounded refl (key_mark (codes "test") refl) (both (tree_reads t plain test f tt)
      (past (key_mark (codes "consequent") refl) (both (tree_reads t plain cons f tt) (past (key_mark (codes "alternate") refl)
      (last (tree_reads t plain alt f tt) end_mark.quiet)))))
  tree_reads t r (tree.switch s discriminant cases) f g =
      begin t (codes "SwitchStatement") s.lo.0 s.hi.0 f.bounded refl (key_mark (codes "discriminant") refl) (both (tree_reads t plain discriminant f tt)
      (past (key_mark (codes "cases") refl) (past open_list_mark (last (tree_reads t plain cases f tt) (past end_list_mark end_mark.quiet)))))
  tree_reads t r (tree.case s test cons) f g =
      begin t (codes "SwitchCase") s.lo.0 s.hi.0 f.bounded refl (key_mark (codes "consequent") refl) (past open_list_mark (both (tree_reads t plain cons f tt)
      (past end_list_mark (past (key_mark (codes "test") refl) (last (tree_reads t plain test f tt) end_mark.quiet)))))
  tree_reads t r (tree.throw s arg) f g =
      begin t (codes "ThrowStatement") s.lo.0 s.hi.0 f.bounded refl (key_mark (codes "argument") refl) (last (tree_reads t plain arg f tt) end_mark.quiet)
  tree_reads t r (tree.try s body handler finalizer) f g =
      begin t (codes "TryStatement") s.lo.0 s.hi.0 f.bounded refl (key_mark (codes "block") refl) (both (tree_reads t plain body f tt)
      (past (key_mark (codes "handler") refl) (both (tree_reads t plain handler f tt) (past (key_mark (codes "finalizer") refl)
      (last (tree_reads t plain finalizer f tt) end_mark.quiet)))))
  tree_reads t r (tree.catch s pattern body) f g =
      begin t (codes "CatchClause") s.lo.0 s.hi.0 f.bounded refl (key_mark (codes "param") refl) (both (tree_reads t plain pattern f tt)
      (past (key_mark (codes "body") refl) (last (tree_reads t plain body f tt) end_mark.quiet)))
  tree_reads t r (tree.while s test body) f g =
      begin t (codes "WhileStatement") s.lo.0 s.hi.0 f.bounded refl (key_mark (codes "test") refl) (both (tree_reads t plain test f tt)
      (past (key_mark (codes "body") refl) (last (tree_reads t plain body f tt) end_mark.quiet)))
  tree_reads t r (tree.do_while s test body) f g =
      begin t (codes "DoWhileStatement") s.lo.0 s.hi.0 f.bounded refl (key_mark (codes "body") refl) (both (tree_reads t plain body f tt)
      (past (key_mark (codes "test") refl) (last (tree_reads t plain test f tt) end_mark.quiet)))
  tree_reads t r (tree.for s init test next body) f g =
      begin t (codes "ForStatement") s.lo.0 s.hi.0 f.bounded refl (key_mark (codes "init") refl) (both (tree_reads t plain init f tt)
      (past (key_mark (codes "test") refl) (both (tree_reads t plain test f tt) (past (key_mark (codes "update") refl) (both (tree_reads t plain next f tt)
      (past (key_mark (codes "body") refl) (last (tree_reads t plain body f tt) end_mark.quiet)))))))
  tree_reads t r (tree.for_in s left right body) f g =
      begin t (codes "ForInStatement") s.lo.0 s.hi.0 f.bounded refl (key_mark (codes "left") refl) (both (tree_reads t plain left f tt)
      (past (key_mark (codes "right") refl) (both (tree_reads t plain right f tt) (past (key_mark (codes "body") refl)
      (last (tree_reads t plain body f tt) end_mark.quiet)))))
  tree_reads t r (tree.for_of s is_await left right body) f g =
      begin t (codes "ForOfStatement") s.lo.0 s.hi.0 f.bounded refl (bool_mark (codes "await") is_await refl) (past (key_mark (codes "left") refl)
      (both (tree_reads t plain left f tt) (past (key_mark (codes "right") refl) (both (tree_reads t plain right f tt) (past (key_mark (codes "body") refl)
      (last (tree_reads t plain body f tt) end_mark.quiet))))))
  tree_reads t r (tree.expr_stmt s e) f g =
      begin t (codes "ExpressionStatement") s.lo.0 s.hi.0 f.bounded refl (key_mark (codes "expression") refl) (last (tree_reads t plain e f tt)
      (skip (neither (is_directives r) (directive_read e) none_read) end_mark.quiet))
  -- imports and exports
  tree_reads t r (tree.import s specifiers src attrs phase) f g =
      begin t (codes "ImportDeclaration") s.lo.0 s.hi.0 f.bounded refl (key_mark (codes "specifiers") refl) (past open_list_mark
      (both (tree_reads t plain specifiers f tt) (past end_list_mark (past (key_mark (codes "source") refl) (both (tree_reads t plain src f tt)
      (past (key_mark (codes "attributes") refl) (past open_list_mark (last (tree_reads t attributes attrs f tt) (past end_list_mark
      (skip (phase_read phase) end_mark.quiet))))))))))
  tree_reads t r (tree.import_named s local imported) f g =
      begin t (codes "ImportSpecifier") s.lo.0 s.hi.0 f.bounded refl (key_mark (codes "imported") refl) (both
      (either (is_absent imported) (tree_reads t plain local f tt) (tree_reads t plain imported f tt)) (past (key_mark (codes "local") refl)
      (last (tree_reads t plain local f tt) end_mark.quiet)))
  tree_reads t r (tree.import_default s local) f g =
      begin t (codes "ImportDefaultSpecifier") s.lo.0 s.hi.0 f.bounded refl (key_mark (codes "local") refl) (last (tree_reads t plain local f tt) end_mark.quiet)
  tree_reads t r (tree.import_namespace s local) f g =
      begin t (codes "ImportNamespaceSpecifier") s.lo.0 s.hi.0 f.bounded refl (key_mark (codes "local") refl) (last (tree_reads t plain local f tt) end_mark.quiet)
  tree_reads t r (tree.export_decl s decl) f g =
      begin t (codes "ExportNamedDeclaration") s.lo.0 s.hi.0 f.bounded refl (key_mark (codes "declaration") refl) (last (tree_reads t plain decl f tt)
      (past (key_mark (codes "specifiers") refl) (past open_list_mark (past end_list_mark (past (key_mark (codes "source") refl) (past nothing_mark
      (past (key_mark (codes "attributes") refl) (past open_list_mark (past end_list_mark end_mark.quiet)))))))))
  tree_reads t r (tree.export_named s specifiers src attrs) f g =
      (either (is_namespace_alone specifiers) (begin t (codes "ExportAllDeclaration") s.lo.0 s.hi.0 f.bounded refl (key_mark (codes "exported") refl)
      (both (tree_reads t bare specifiers f tt) (past (key_mark (codes "source") refl) (both (tree_reads t plain src f tt) (past (key_mark (codes "attributes") refl)
      (past open_list_mark (last (tree_reads t attributes attrs f tt) (past end_list_mark end_mark.quiet))))))))
      (begin t (codes "ExportNamedDeclaration") s.lo.0 s.hi.0 f.bounded refl (key_mark (codes "declaration") refl) (past nothing_mark
      (past (key_mark (codes "specifiers") refl) (past open_list_mark (both (tree_reads t plain specifiers f tt) (past end_list_mark
      (past (key_mark (codes "source") refl) (both (tree_reads t plain src f tt) (past (key_mark (codes "attributes") refl) (past open_list_mark
      (last (tree_reads t attributes attrs f tt) (past end_list_mark end_mark.quiet)))))))))))))
  tree_reads t r (tree.export_default_decl s decl) f g =
      begin t (codes "ExportDefaultDeclaration") s.lo.0 s.hi.0 f.bounded refl (key_mark (codes "declaration") refl)
      (last (tree_reads t declared decl f tt) end_mark.quiet)
  tree_reads t r (tree.export_default_expr s e) f g =
      begin t (codes "ExportDefaultDeclaration") s.lo.0 s.hi.0 f.bounded refl (key_mark (codes "declaration") refl) (last (tree_reads t plain e f tt) end_mark.quiet)
  tree_reads t r (tree.export_all s src attrs) f g =
      begin t (codes "ExportAllDeclaration") s.lo.0 s.hi.0 f.bounded refl (key_mark (codes "exported") refl) (past nothing_mark (past (key_mark (codes "source") refl)
      (both (tree_reads t plain src f tt) (past (key_mark (codes "attributes") refl) (past open_list_mark (last (tree_reads t attributes attrs f tt)
      (past end_list_mark end_mark.quiet)))))))
  tree_reads t r (tree.export_namespace s name) f g =
      (either (is_bare r) (tree_reads t plain name f tt) (begin t (codes "ExportNamespaceSpecifier") s.lo.0 s.hi.0 f.bounded refl (key_mark (codes "exported") refl)
      (last (tree_reads t plain name f tt) end_mark.quiet)))
  tree_reads t r (tree.export_default exported) f g =
      begin t (codes "ExportDefaultSpecifier") (span_of exported).lo.0 (span_of exported).hi.0 f.bounded refl (key_mark (codes "exported") refl)
      (last (tree_reads t plain exported f tt) end_mark.quiet)
  tree_reads t r (tree.export_specifier s orig exported) f g =
      begin t (codes "ExportSpecifier") s.lo.0 s.hi.0 f.bounded refl (key_mark (codes "local") refl) (both (tree_reads t plain orig f tt)
      (past (key_mark (codes "exported") refl) (last (either (is_absent exported) (tree_reads t plain orig f tt) (tree_reads t plain exported f tt)) end_mark.quiet)))
  -- wholes: from the start of the text to its end
  tree_reads t r (tree.script s body shebang) f g =
      begin t (codes "Program") 0 (length t.places.text) f.bounded refl (key_mark (codes "body") refl) (past open_list_mark (both (tree_reads t directives body f tt)
      (past end_list_mark (past (word_mark (codes "sourceType") (codes "script") refl refl) (last (fields_read f) end_mark.quiet)))))
  tree_reads t r (tree.module_program s body shebang) f g =
      begin t (codes "Program") 0 (length t.places.text) f.bounded refl (key_mark (codes "body") refl) (past open_list_mark (both (tree_reads t directives body f tt)
      (past end_list_mark (past (word_mark (codes "sourceType") (codes "module") refl refl) (last (fields_read f) end_mark.quiet)))))

  trees_read : (t : Source) (r : Role) (is_first : Bool) (ts : Trees) → Fits t → Ready r → Reads (jsons t r is_first ts) (all_nodes t r ts)
  trees_read t (argument n) is_first none f g = nothing_mark.quiet
  trees_read t r is_first none f g = none_read
  trees_read t (argument n) is_first (also x xs) f g = either (is_zero n) (tree_reads t plain x f tt) (trees_read t (argument (n - 1)) is_first xs f tt)
  trees_read t r is_first (also x xs) f g =
      either (skips r x) (trees_read t r is_first xs f g)
      (skip (comma_read is_first) (both (tree_reads t (next r x) x f (next_ready r x g)) (trees_read t (next r x) false xs f (next_ready r x g))))

pub reads_back : ReadsBack
reads_back t x bounded closed = as_read (tree_reads t plain x (record { bounded = bounded; closed = closed }) tt)
