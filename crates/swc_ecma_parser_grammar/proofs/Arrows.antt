-- The body of an arrow function, as the whole language reads it and with the statements of the small relation; and what it is for
-- an arrow function to be supported.
use Rattle.std.proofs.Common.{◌≡◌, ℕ, zero, suc, Bool, true, false, List, [], refl, ap}
use Rattle.std.specs.Prelude.{not, ◌&&◌, ◌||◌}
use Rattle.swc_ecma_parser_error.specs.Kind.{Fault}
use Rattle.swc_ecma_parser_common.specs.declared.span.Span.{Span}
use Rattle.swc_ecma_parser_input.specs.Place.{Place}
use Rattle.swc_ecma_parser_model.specs.Tree as tree
use Rattle.swc_ecma_parser_model.specs.Tree.{Tree}
use Rattle.swc_ecma_parser_model.specs.Kinds.{is_block}
use Rattle.swc_ecma_parser_grammar.specs.Names.{Code}
use Rattle.swc_ecma_parser_grammar.specs.Notes.{notes}
use Rattle.swc_ecma_parser_grammar.specs.scaffold.Reads.{ReadsBraced}
use Rattle.swc_ecma_parser_grammar.specs.scaffold.ReadsSupported.{ReadsStmt, ReadsClass}
use Rattle.swc_ecma_parser_grammar.specs.scaffold.Supported.{supported_in, is_clean}
use Rattle.swc_ecma_parser_grammar.specs.language.Contexts.{in_arrow, with_in}
use Rattle.swc_ecma_parser_grammar.specs.language.Goals.{assignment, expr_goal}
use Rattle.swc_ecma_parser_grammar.specs.language.Items.{BlockRule}
use Rattle.swc_ecma_parser_grammar.specs.language.Reads.{Reads}
use Rattle.swc_ecma_parser_grammar.specs.Depth.{is_head_decl}
use Rattle.swc_ecma_parser_grammar.specs.Walk.{Env, walk, walk_arrow_body}
use Rattle.swc_ecma_parser_grammar.proofs.Tests.{and_yes, and_both}
use Rattle.swc_ecma_parser_grammar.proofs.language.Asked.{or_left}
use Rattle.swc_ecma_parser_grammar.proofs.language.Shapes.{expr_is}
use Rattle.swc_ecma_parser_grammar.proofs.Unnoted.{clean_is, expr_unnoted}
use Rattle.swc_ecma_parser_grammar.proofs.Widens.{stmt_supported, stmt_widens, braced_supported, braced_widens}
use Rattle.swc_ecma_parser_grammar.proofs.Narrows.{stmt_narrows, braced_narrows}
use Rattle.swc_ecma_parser_grammar.proofs.StatementEntries.{stmt_unnoted, braced_unnoted}

-- ---- its body

module _ (n : ℕ) (k : Code) (a : Bool) (x : Tree) (c d : Place) where
  -- the block of one, one level further in
  abbrev pub SmallBlock : Type 0
  SmallBlock = ReadsBraced (ReadsStmt n) true (with_in (in_arrow k a)) x c d

  abbrev pub WholeBlock : Type 0
  WholeBlock = BlockRule (Reads n) (with_in (in_arrow k a)) true x c d

  pub block_widens : SmallBlock → WholeBlock
  block_widens r = braced_widens n (stmt_widens n) true r

  pub block_supported : SmallBlock → supported_in k.flags.module x ≡ true
  block_supported r = braced_supported n (stmt_supported n) true r

  -- in module code nothing in it is a fault of it
  pub block_unnoted : k.flags.module ≡ true → SmallBlock → notes x ≡ []
  block_unnoted o r = braced_unnoted n (stmt_unnoted n) true o r

  pub block_narrows : WholeBlock → supported_in k.flags.module x ≡ true → (k.flags.module ≡ true → notes x ≡ []) → SmallBlock
  block_narrows r h q = braced_narrows n (stmt_narrows n) true q r h

  -- an expression that is one has no notes either
  pub body_unnoted : k.flags.module ≡ true → ReadsClass n assignment (in_arrow k a) x c d → notes x ≡ []
  body_unnoted o r = expr_unnoted n assignment (in_arrow k a) x c d o r.0 r.1

-- ---- the walk of its body

abbrev pub body_walk : Env → Tree → List Fault
body_walk env x = walk_arrow_body env (walk env x) x

-- what is no block is walked as an expression
pub plain_walk : (env : Env) (x : Tree) → is_block x ≡ false → body_walk env x ≡ walk env x
plain_walk env (tree.block s stmts) h = cc
plain_walk env _ h = refl

-- no expression is a block
pub no_block : (n : ℕ) (k : Code) (x : Tree) (c d : Place) → Reads n (expr_goal assignment k x c d) → is_block x ≡ false
no_block zero k x c d r = absurd r
no_block (suc n) k x c d r = or_left (is_block x) (is_head_decl x) (expr_is (Reads n) assignment k x c d r)

-- ---- what is supported

-- an arrow function whose parameters and body are supported, and whose body has no notes in module code
pub record SupportedArrow (m : Bool) (params body : Tree) : Type 0 where
  pub supports_params : supported_in m params ≡ true
  pub supports_body : supported_in m body ≡ true
  pub has_no_notes : m ≡ true → notes body ≡ []

-- what is tested of notes in module code
untested : (m : Bool) (es : List Fault) → (not m || is_clean es) ≡ true → m ≡ true → es ≡ []
untested true es h o = clean_is es h
untested false es h o = cc

tested : (m : Bool) (es : List Fault) → (m ≡ true → es ≡ []) → (not m || is_clean es) ≡ true
tested true es q = ap is_clean (q refl)
tested false es q = refl

pub arrow_parts : (m : Bool) (s : Span) (params body : Tree) (is_async : Bool) → supported_in m (tree.arrow s params body is_async) ≡ true → SupportedArrow m params body
arrow_parts m s params body is_async h =
    let f = and_yes (supported_in m params && supported_in m body) _ h in
    let p = and_yes (supported_in m params) _ f.0 in
    record { supports_params = p.0; supports_body = p.1; has_no_notes = untested m (notes body) f.1 }

pub arrow_supported : (m : Bool) (s : Span) (params body : Tree) (is_async : Bool) → SupportedArrow m params body → supported_in m (tree.arrow s params body is_async) ≡ true
arrow_supported m s params body is_async r =
    and_both (supported_in m params && supported_in m body) _ (and_both (supported_in m params) _ r.supports_params r.supports_body)
    (tested m (notes body) r.has_no_notes)
