-- A list whose first part is a directive or none, or a member of a class that is left out or not.
use Rattle.std.proofs.Common.{◌≡◌, ◌++◌, Bool, true, false, refl}
use Rattle.ecma_estree_writer.specs.Estree.{json, jsons, plain, directives, members, next}
use Rattle.ecma_estree_writer.specs.Parts.{comma, is_empty_member}
use Rattle.ecma_estree_writer.specs.Source.{Source}
use Rattle.swc_ecma_parser_model.specs.Directive.{is_string_statement}
use Rattle.swc_ecma_parser_model.specs.Tree.{Tree, Trees, also}

pub directive_listed : (t : Source) (f : Bool) (x : Tree) (xs : Trees) → is_string_statement x ≡ true
    → jsons t directives f (also x xs) ≡ comma f ++ (json t (next directives x) x ++ jsons t directives false xs)
directive_listed t f x xs h = rw h refl

pub statement_listed : (t : Source) (f : Bool) (x : Tree) (xs : Trees) → is_string_statement x ≡ false
    → jsons t directives f (also x xs) ≡ comma f ++ (json t plain x ++ jsons t plain false xs)
statement_listed t f x xs h = rw h refl

pub member_left_out : (t : Source) (f : Bool) (x : Tree) (xs : Trees) → is_empty_member x ≡ true → jsons t members f (also x xs) ≡ jsons t members f xs
member_left_out t f x xs h = rw h refl

pub member_listed : (t : Source) (f : Bool) (x : Tree) (xs : Trees) → is_empty_member x ≡ false
    → jsons t members f (also x xs) ≡ comma f ++ (json t members x ++ jsons t members false xs)
member_listed t f x xs h = rw h refl
