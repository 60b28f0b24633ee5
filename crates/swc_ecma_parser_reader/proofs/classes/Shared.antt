-- What is said of classes in more than one place: what stands behind a member, a class that is declared, and what the parts of a member
-- are read as.
use Rattle.std.proofs.Common.{◌≡◌, ℕ, true, false, List}
use Rattle.std.specs.Prelude.{◌||◌, codes}
use Rattle.swc_ecma_parser_token.specs.declared.kind.TokenKind.TheVariants as kind
use Rattle.swc_ecma_parser_input.specs.Place.{Place}
use Rattle.swc_ecma_parser_model.specs.Tree as tree
use Rattle.swc_ecma_parser_model.specs.Tree.{Tree, listed}
use Rattle.swc_ecma_parser_model.specs.Forms.{is_absent}
use Rattle.swc_ecma_parser_grammar.specs.declared.position.Position.{Position}
use Rattle.swc_ecma_parser_grammar.specs.Looks.{kind_at, sees, spanned}
use Rattle.swc_ecma_parser_grammar.specs.Names.{Code}
use Rattle.swc_ecma_parser_grammar.specs.Parameters.{parameters}
use Rattle.swc_ecma_parser_grammar.specs.scaffold.Reads.{ReadsParts}
use Rattle.swc_ecma_parser_grammar.specs.scaffold.ReadsSupported.{ReadsStmt, ReadsParams}
use Rattle.swc_ecma_parser_grammar.specs.scaffold.Supported.{is_supported_key_in}
use Rattle.swc_ecma_parser_grammar.specs.language.Classes.{MemberKeyRule}
use Rattle.swc_ecma_parser_grammar.specs.language.Functions.{MethodHead, takes}
use Rattle.swc_ecma_parser_grammar.specs.language.Parts.{is_private}
use Rattle.swc_ecma_parser_grammar.specs.language.Reads.{Reads}
use Rattle.swc_ecma_parser_reader.specs.Methods.{MethodForm, is_bare}
use Rattle.swc_ecma_parser_reader.specs.Members.{begins_accessor, kind_of_form, form_is_async, form_is_generator}
use Rattle.swc_ecma_parser_reader.proofs.Errors.{is_error}

-- Behind a member stands the next one, or the `}` of the class: neither an error token, which would be recorded before a fault of the
-- member, nor `{`, behind which `static static` would be a block.
abbrev pub MemberFollows : Place → Type 0
MemberFollows d = (is_error (kind_at d) ≡ false) × (sees kind.LBrace d ≡ false)

-- a class where declarations are read, with a name
abbrev pub Declared : (Code → (name x : Tree) → Place → Place → Type 0) → Position → Code → Tree → Place → Place → Type 0
Declared Named at k x c d = (at.include_decl ≡ true) × (name : Tree) × (y : Tree) × Named k name y c d × (is_absent name ≡ false) × (x ≡ tree.class_decl name y)

-- the words before a key, or none, where no accessor begins
abbrev pub WordsRead : MethodForm → Place → Place → Type 0
WordsRead form c d = MethodHead (kind_of_form form) (form_is_async form) (form_is_generator form) c d
    × (is_bare form ≡ true → (d ≡ c) × (begins_accessor (codes "get") c ≡ false) × (begins_accessor (codes "set") c ≡ false))

-- the key of a member, which is supported or a private name
abbrev pub MemberKeyRead : ℕ → Code → Tree → Place → Place → Type 0
MemberKeyRead n k x c d = MemberKeyRule (Reads n) k x c d × (is_supported_key_in k.flags.module x || is_private x ≡ true)

-- the function of a method that begins at a place, from behind its key, with decorators that were read before
pub record PartsRead (n : ℕ) (ds : List Tree) (form : MethodForm) (start : Place) (fn : Tree) (k : Code) (c d : Place) : Type 0 where
  pub patterns : List Tree
  pub body : Tree
  pub parts : ReadsParts (ReadsStmt n) (ReadsParams n) k (form_is_async form) (form_is_generator form) patterns body c d
  pub arity : takes (kind_of_form form) patterns ≡ true
  pub is : fn ≡ tree.function (spanned start d) (listed ds) (parameters patterns) body (form_is_async form) (form_is_generator form)
