-- A function that is an expression: the rule of the whole language is one whose statements are those of the small relation.
use Rattle.std.proofs.Common.{◌≡◌, ℕ, Bool, true, false, List, [], ◌∷◌, ◌++◌, refl, sym, ◌∙◌, ap}
use Rattle.std.specs.Prelude.{not, ◌&&◌, ◌||◌}
use Rattle.swc_ecma_parser_error.specs.Kind.{Fault}
use Rattle.swc_ecma_parser_token.specs.declared.kind.TokenKind.TheVariants as kind
use Rattle.swc_ecma_parser_token.specs.Text.{word_text}
use Rattle.swc_ecma_parser_input.specs.Place.{Place, after}
use Rattle.swc_ecma_parser_model.specs.Tree as tree
use Rattle.swc_ecma_parser_model.specs.Tree.{Tree, listed}
use Rattle.swc_ecma_parser_grammar.specs.Follows.{Star, AsyncWord}
use Rattle.swc_ecma_parser_grammar.specs.Looks.{kind_at, spanned}
use Rattle.swc_ecma_parser_grammar.specs.Names.{Code}
use Rattle.swc_ecma_parser_grammar.specs.Notes.{notes}
use Rattle.swc_ecma_parser_grammar.specs.Parameters.{parameters}
use Rattle.swc_ecma_parser_grammar.specs.scaffold.Reads.{ReadsFunctionExpr, OwnNameRule, no_own_name_rule, own_name_rule}
use Rattle.swc_ecma_parser_grammar.specs.scaffold.ReadsSupported.{ReadsStmt, ReadsParams}
use Rattle.swc_ecma_parser_grammar.specs.scaffold.Supported.{supported_in, has_no_note, is_clean}
use Rattle.swc_ecma_parser_grammar.specs.language.Contexts.{named_by}
use Rattle.swc_ecma_parser_grammar.specs.language.Functions as functions
use Rattle.swc_ecma_parser_grammar.specs.language.LeftSides as sides
use Rattle.swc_ecma_parser_grammar.specs.language.Parts as parts
use Rattle.swc_ecma_parser_grammar.specs.language.Reads.{Reads}
use Rattle.swc_ecma_parser_grammar.proofs.Tests.{and_yes, and_both}
use Rattle.swc_ecma_parser_grammar.proofs.Naming.{name_is_clean, name_is_name}
use Rattle.swc_ecma_parser_grammar.proofs.SupportedBegins.{supported_as}
use Rattle.swc_ecma_parser_grammar.proofs.Unnoted.{joined, clean_is}
use Rattle.swc_ecma_parser_grammar.proofs.Widens.{stmt_supported, stmt_widens, braced_supported, braced_widens, parameters_same}
use Rattle.swc_ecma_parser_grammar.proofs.Narrows.{stmt_narrows, braced_narrows}
use Rattle.swc_ecma_parser_grammar.proofs.StatementEntries.{stmt_unnoted, braced_unnoted, params_unnoted}

is_cleaned : {es : List Fault} → es ≡ [] → is_clean es ≡ true
is_cleaned e = ap is_clean e

-- ---- its name

own_name_widens : {k : Code} {w g : Bool} {x : Tree} {c d : Place} → OwnNameRule k w g x c d → parts.OptionalName (named_by k w g) x c d
own_name_widens (no_own_name_rule p n e) = parts.no_name n e
own_name_widens {k = k} {w = a} {g = g} (own_name_rule w s r i e) =
    parts.a_name (word_text w) s (record { word = w; reads_word = r; is_text = refl; is_name = name_is_clean (named_by k a g).flags (word_text w) i }) e

own_name_supported : {k : Code} {w g : Bool} {x : Tree} {c d : Place} (m : Bool) → OwnNameRule k w g x c d → supported_in m x ≡ true
own_name_supported m (no_own_name_rule p n e) = ap (supported_in m) e
own_name_supported {k = k} {w = a} {g = g} m (own_name_rule w s r i e) = ap (supported_in m) e ∙ refl

-- where none stands the parameters begin
own_name_narrows : {k : Code} {w g : Bool} {x : Tree} {c d : Place} (m : Bool) → kind_at d ≡ kind.LParen → parts.OptionalName (named_by k w g) x c d → supported_in m x ≡ true → OwnNameRule k w g x c d
own_name_narrows m p (parts.no_name n e) h = no_own_name_rule (ap kind_at (sym n) ∙ p) n e
own_name_narrows {k = k} {w = a} {g = g} {x = x} {c = c} {d = d} m p (parts.a_name text s r e) h =
    own_name_rule r.word s r.reads_word (name_is_name (named_by k a g) text s c d r) (e ∙ ap (tree.ident s) r.is_text)

-- ---- the whole

pub function_widens : (n : ℕ) (k : Code) (x : Tree) (c d : Place) → ReadsFunctionExpr (ReadsStmt n) (ReadsParams n) k x c d → sides.PrimaryRule (Reads n) k x c d
function_widens n k x c d r = sides.function_rule r.name (tree.function (spanned c d) (listed []) (parameters r.patterns) r.body r.is_async r.is_generator) (record {
  is_async = r.is_async;
  is_generator = r.is_generator;
  patterns = r.patterns;
  body = r.body;
  word = r.word;
  behind_word = r.behind_word;
  behind_name = r.behind_name;
  reads_async = r.reads_async;
  is_function = r.is_function;
  reads_star = r.reads_star;
  reads_name = own_name_widens r.reads_name;
  reads_parts = record { middle = r.middle; reads_parameters = r.reads_parameters.0; reads_body = braced_widens n (stmt_widens n) true r.reads_body };
  is = refl;
}) r.is

-- in module code nothing in it is a fault of it
unnoted : (n : ℕ) (m : Bool) (k : Code) (x : Tree) (c d : Place) → k.flags.module ≡ m → (r : ReadsFunctionExpr (ReadsStmt n) (ReadsParams n) k x c d)
    → (not m || has_no_note (tree.function (spanned c d) (listed []) (parameters r.patterns) r.body r.is_async r.is_generator)) ≡ true
unnoted n false k x c d o r = refl
unnoted n true k x c d o r = is_cleaned (joined (notes (parameters r.patterns)) (notes r.body) (params_unnoted n r.patterns o r.reads_parameters) (braced_unnoted n (stmt_unnoted n) true o r.reads_body))

pub function_supported : (n : ℕ) (k : Code) (x : Tree) (c d : Place) → ReadsFunctionExpr (ReadsStmt n) (ReadsParams n) k x c d → supported_in k.flags.module x ≡ true
function_supported n k x c d r =
    let m = k.flags.module in
    ap (supported_in m) r.is
    ∙ and_both (supported_in m r.name) _ (own_name_supported m r.reads_name)
    (and_both (supported_in m (parameters r.patterns) && supported_in m r.body) _
    (and_both (supported_in m (parameters r.patterns)) (supported_in m r.body) (parameters_same m r.patterns ∙ r.reads_parameters.1) (braced_supported n (stmt_supported n) true r.reads_body))
    (unnoted n m k x c d refl r))

-- what is tested of notes in module code
tested : (m : Bool) (es : List Fault) → (not m || is_clean es) ≡ true → m ≡ true → es ≡ []
tested true es h o = clean_is es h
tested false es h o = cc

-- what it is made of, with its word first
module _ (n : ℕ) (k : Code) (x : Tree) (c d : Place) where
  plain_narrows : (w g : Bool) (name : Tree) (ps : List Tree) (body : Tree) (word behind_word behind_name : Place) → AsyncWord w c word → kind_at word ≡ kind.Function
      → Star g (after word) behind_word → parts.OptionalName (named_by k w g) name behind_word behind_name → functions.FunctionParts (Reads n) k w g ps body behind_name d
      → supported_in k.flags.module name ≡ true → supported_in k.flags.module (parameters ps) && supported_in k.flags.module body ≡ true
      → (k.flags.module ≡ true → notes body ≡ [])
      → x ≡ tree.fn_expr (spanned c d) name (tree.function (spanned c d) (listed []) (parameters ps) body w g) → ReadsFunctionExpr (ReadsStmt n) (ReadsParams n) k x c d
  plain_narrows w g name ps body word bw bn a f s i p h t q e =
      let u = and_yes (supported_in k.flags.module (parameters ps)) _ t in record {
        is_async = w;
        is_generator = g;
        name = name;
        patterns = ps;
        body = body;
        word = word;
        behind_word = bw;
        behind_name = bn;
        middle = p.middle;
        reads_async = a;
        is_function = f;
        reads_star = s;
        reads_name = own_name_narrows k.flags.module p.reads_parameters.opens i h;
        reads_parameters = (p.reads_parameters, sym (parameters_same k.flags.module ps) ∙ u.0);
        reads_body = braced_narrows n (stmt_narrows n) true q p.reads_body u.1;
        is = e;
      }

  pub function_narrows : (name function : Tree) → functions.FunctionRule (Reads n) true k (listed []) name function c d → x ≡ tree.fn_expr (spanned c d) name function
      → supported_in k.flags.module x ≡ true → ReadsFunctionExpr (ReadsStmt n) (ReadsParams n) k x c d
  function_narrows name function r e h =
      let whole = tree.function (spanned c d) (listed []) (parameters r.patterns) r.body r.is_async r.is_generator in
      let e' : x ≡ tree.fn_expr (spanned c d) name whole = e ∙ ap (tree.fn_expr (spanned c d) name) r.is in
      let g = and_yes (supported_in k.flags.module name) _ (supported_as _ x (tree.fn_expr (spanned c d) name whole) e' h) in
      let f = and_yes (supported_in k.flags.module whole) _ g.1 in
      plain_narrows r.is_async r.is_generator name r.patterns r.body r.word r.behind_word r.behind_name r.reads_async r.is_function r.reads_star r.reads_name r.reads_parts g.0 f.0
      (λ o. body_has_none (notes (parameters r.patterns)) (notes r.body) (tested k.flags.module (notes whole) f.1 o)) e'
    where
      body_has_none : (es fs : List Fault) → es ++ fs ≡ [] → fs ≡ []
      body_has_none [] fs o = o
      body_has_none (y ∷ es) fs o = cc
