-- A declared class or function with decorators is supported and has notes as they and the declaration without them.
use Rattle.std.proofs.Common.{◌≡◌, Bool, true, false, List, [], ◌++◌, ◌∙◌, ap}
use Rattle.std.specs.Prelude.{◌&&◌}
use Rattle.swc_ecma_parser_common.specs.declared.span.Span.{Span}
use Rattle.swc_ecma_parser_error.specs.Kind.{Fault}
use Rattle.swc_ecma_parser_model.specs.Tree as tree
use Rattle.swc_ecma_parser_model.specs.Tree.{Tree, trees}
use Rattle.swc_ecma_parser_grammar.specs.scaffold.Decorated.{decorated_by}
use Rattle.swc_ecma_parser_grammar.specs.Notes.{notes, all_notes}
use Rattle.swc_ecma_parser_grammar.specs.scaffold.Supported.{supported_in, all_supported_in}
use Rattle.swc_ecma_parser_grammar.proofs.SupportedIn.{parted}

both_none : (es fs : List Fault) → es ≡ [] → fs ≡ [] → es ++ fs ≡ []
both_none es fs e h = ap (λ z. z ++ fs) e ∙ h

-- of four, where the second is another one
second_by : (a b c d e : Bool) → e ≡ true → a && (b && (c && d)) ≡ true → a && (e && (c && d)) ≡ true
second_by true true c d true q h = h
second_by true false c d true q h = cc
second_by false b c d true q h = cc
second_by a b c d false q h = cc

pub decorated_supported : (m : Bool) (start : Span) (ds : List Tree) (x : Tree) → all_supported_in m (trees ds) ≡ true → supported_in m x ≡ true → supported_in m (decorated_by start ds x) ≡ true
decorated_supported m start ds (tree.class_decl name (tree.class s decorators body base)) q h =
    second_by (supported_in m name) (supported_in m decorators) (supported_in m base) (supported_in m body) (all_supported_in m (trees ds)) q h
decorated_supported m start ds (tree.fn_decl name (tree.function s decorators params body is_async is_generator)) q h =
    second_by (supported_in m name) (supported_in m decorators) (supported_in m params) (supported_in m body) (all_supported_in m (trees ds)) q h
decorated_supported m start ds _ q h = h

second_none : (bs cs ds es fs : List Fault) → fs ≡ [] → bs ++ (cs ++ ds ++ es) ≡ [] → bs ++ (fs ++ ds ++ es) ≡ []
second_none bs cs ds es fs q h =
    let g = parted bs (cs ++ ds ++ es) h in
    let i = parted (cs ++ ds) es g.1 in
    both_none bs (fs ++ ds ++ es) g.0 (both_none (fs ++ ds) es (both_none fs ds q (parted cs ds i.0).1) i.1)

pub decorated_unnoted : (start : Span) (ds : List Tree) (x : Tree) → all_notes (trees ds) ≡ [] → notes x ≡ [] → notes (decorated_by start ds x) ≡ []
decorated_unnoted start ds (tree.class_decl name (tree.class s decorators body base)) q h = second_none (notes name) (notes decorators) (notes base) (notes body) (all_notes (trees ds)) q h
decorated_unnoted start ds (tree.fn_decl name (tree.function s decorators params body is_async is_generator)) q h =
    second_none (notes name) (notes decorators) (notes params) (notes body) (all_notes (trees ds)) q h
decorated_unnoted start ds _ q h = h
