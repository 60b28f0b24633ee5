-- The faults that a form has of its own.
use Rattle.std.specs.Prelude.{Bool, true, false, not, ◌&&◌, if◌then◌else◌, List, [], ◌∷◌, ◌++◌}
use Rattle.swc_ecma_parser_common.specs.declared.span.Span.{Span}
use Rattle.swc_ecma_parser_error.specs.Kind as kind
use Rattle.swc_ecma_parser_error.specs.Kind.{Kind, Fault}
use Rattle.swc_ecma_parser_model.specs.Tree as tree
use Rattle.swc_ecma_parser_model.specs.Tree.{Tree, Trees, Text, none, also}
use Rattle.swc_ecma_parser_model.specs.Directive.{is_use_strict, is_string_statement}
use Rattle.swc_ecma_parser_model.specs.Forms.{span_of, is_ident_named, is_constructor}
use Rattle.swc_ecma_parser_model.specs.Within.{declared_name, is_initialized}
use Rattle.swc_ecma_parser_grammar.specs.Names.{is_one_of, reserved_words}

abbrev pub fault : Kind → Span → Fault
fault k s = record { span = s; kind = k }

-- this fault, where it is one
abbrev pub only : Bool → Kind → Span → List Fault
only true k s = fault k s ∷ []
only false k s = []

-- a label that stands around; none is asked for where none is named
abbrev pub stands_around : List Text → Tree → Bool
stands_around labels (tree.ident s text) = is_one_of labels text
stands_around labels _ = true

-- `break`: its label stands around, and there is something to break
abbrev pub break_faults : Bool → List Text → Tree → Span → List Fault
break_faults allowed labels label s = if stands_around labels label then only (not allowed) kind.TS1105 s else only true kind.TS1116 s

-- `continue`: there is something to continue, and its label stands around
abbrev pub continue_faults : Bool → List Text → Tree → Span → List Fault
continue_faults allowed labels label s = if allowed then only (not (stands_around labels label)) kind.TS1107 s else only true kind.TS1115 s

abbrev pub return_faults : Bool → Span → List Fault
return_faults allowed s = only (not allowed) kind.ReturnNotAllowed s

-- A function behind a label, neither decorated nor async: none in strict code, and no generator anywhere.
abbrev pub labelled_function : Bool → Tree → List Fault
labelled_function strict (tree.fn_decl name (tree.function s (tree.list none) params body false is_generator)) =
    only strict kind.LabelledFunctionInStrict s ++ only is_generator kind.LabelledGeneratorOrAsync s
labelled_function strict _ = []

-- once for each equal label around
abbrev pub duplicates : List Text → Tree → List Fault
duplicates [] label = []
duplicates (l ∷ ls) label = only (is_ident_named l label) kind.DuplicateLabel (span_of label) ++ duplicates ls label

-- the first directive that turns code strict, in the strings that stand first in a body
abbrev pub first_use_strict : Trees → List Fault
first_use_strict none = []
first_use_strict (also x xs) =
    if is_use_strict x then only true kind.IllegalLanguageModeDirective (span_of x)
    else if is_string_statement x then first_use_strict xs else []

-- a function whose parameters are not all plain names is not turned strict by its own body
abbrev pub misplaced_directive : Bool → Tree → List Fault
misplaced_directive plain (tree.block s (tree.list xs)) = if plain then [] else first_use_strict xs
misplaced_directive plain _ = []

-- a class has one constructor
abbrev pub second_constructor : Bool → Tree → List Fault
second_constructor constructed x = only (constructed && is_constructor x) kind.DuplicateConstructor (span_of x)

abbrev pub surplus : Trees → List Fault
surplus none = []
surplus (also d ds) = only true kind.TooManyVarInForInHead (span_of (declared_name d)) ++ surplus ds

-- A declaration before `in` or `of` has one variable; its initializer is a fault in strict code and before `of`.
abbrev pub head_faults : Bool → Tree → List Fault
head_faults refused (tree.var s word (tree.list (also d none))) = only (refused && is_initialized d) kind.VarInitializerInForInHead (span_of (declared_name d))
head_faults refused (tree.var s word (tree.list (also d ds))) = surplus ds
head_faults refused _ = []

-- What is exported without a source is a name of the module itself: neither a string nor a reserved word, nor one that another
-- module would have to give.
abbrev pub specifier_faults : Tree → List Fault
specifier_faults (tree.export_default exported) = only true kind.ExportExpectFrom (span_of exported)
specifier_faults (tree.export_namespace s name) = only true kind.ExportExpectFrom s
specifier_faults (tree.export_specifier s (tree.str t value raw) exported) = only true kind.ExportBindingIsString t
specifier_faults (tree.export_specifier s (tree.ident t text) exported) = only (is_one_of reserved_words text) kind.ExportExpectFrom t
specifier_faults _ = []

abbrev pub each_specifier : Trees → List Fault
each_specifier none = []
each_specifier (also x xs) = specifier_faults x ++ each_specifier xs

abbrev pub export_faults : (src specifiers : Tree) → List Fault
export_faults tree.absent (tree.list xs) = each_specifier xs
export_faults _ _ = []
