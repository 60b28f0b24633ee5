-- The trees that a text spells, and what was read of it.
use Rattle.std.specs.Prelude.{◌≡◌, ◌↔◌, ◌⊎◌, ◌&&◌, ℕ, Bool, true, false, List, [], Result, Ok, Err}
use Rattle.swc_ecma_parser_error.specs.declared.error.Error.{Error}
use Rattle.swc_ecma_parser_error.specs.Kind.{faults_of}
use Rattle.swc_ecma_parser_exactness.specs.Decides.{Lasts}
use Rattle.swc_ecma_parser_input.specs.Place as place
use Rattle.swc_ecma_parser_input.specs.Place.{Place}
use Rattle.swc_ecma_parser_input.specs.TokenSource.{TokenSource, with_context}
use Rattle.swc_ecma_parser_model.specs.Tree as model
use Rattle.swc_ecma_parser_grammar.specs.language.Programs as programs
use Rattle.swc_ecma_parser_grammar.specs.language.Programs.{Entry}
use Rattle.swc_ecma_parser_ast.specs.View.{view_module, view_program, view_script}
use Rattle.swc_ecma_parser.specs.Headline.{Headline, IsClean, code_of, end_of}
use Rattle.swc_ecma_parser_whole_lexer.specs.declared.form.Goal.TheVariants as code
use Rattle.ecma_answers.specs.declared.options.Goal.{Goal}
use Rattle.ecma_answers.specs.declared.options.Goal.TheVariants as goal
use Rattle.ecma_answers.specs.declared.options.Language.{Language}
use Rattle.ecma_answers.specs.declared.options.Language.TheVariants as language
use Rattle.ecma_answers.specs.declared.options.Options.{Options}
use Rattle.ecma_answers.specs.declared.parsing.Reading.{Reading}
use Rattle.ecma_answers.specs.declared.parsing.Tree.{Tree}
use Rattle.ecma_answers.specs.declared.parsing.Tree.TheVariants as tree
use Rattle.ecma_answers.specs.Chosen.{chosen, is_clean, told_of}
use Rattle.ecma_answers.specs.Languages.{source_of}

-- the tokens of a text in what is asked for, as the code of a script and as that of a module
abbrev pub script_source : Options → List ℕ → TokenSource
script_source o text = source_of o.language code.Script o.syntax text

abbrev pub module_source : Options → List ℕ → TokenSource
module_source o text = source_of o.language code.Module o.syntax text

-- The same for a script in whose own code `await` is no operator, but in async functions: so the standard has it (16.1), where the parser asks for
-- less. It is the code of a parameter, in which nothing else is read otherwise.
abbrev pub without_await : TokenSource → TokenSource
without_await s = with_context (record s.context { in_parameters = true }) s

-- a tree that some tokens spell as one of the parser's entries, within a limit
abbrev pub SpellsAs : Entry → ℕ → TokenSource → model.Tree → Type 0
SpellsAs entry limit s x = (d : Place) × programs.Spells limit entry (code_of s) [] x (place.outset s.start s.left) d

-- a tree of a module
abbrev pub is_module : model.Tree → Bool
is_module (model.module_program s body shebang) = true
is_module _ = false

-- What they spell as a program. In the whole language it is a script by the tokens of a script; where those make it a module, it is read with
-- the tokens of a module, which has no comments as in HTML.
abbrev pub SpellsProgram : Language → ℕ → (s m : TokenSource) → model.Tree → Type 0
SpellsProgram language.Plain limit s m x = SpellsAs programs.program limit s x
SpellsProgram language.Whole limit s m x =
    ((is_module x ≡ false) × SpellsAs programs.program limit s x)
    ⊎ ((y : model.Tree) × (is_module y ≡ true) × SpellsAs programs.program limit s y × SpellsAs programs.program limit m x)

-- What they spell as what is asked for, with the tokens of a script or with those of a module. As whichever it turns out to be: a script, or,
-- where they spell none, a module.
abbrev pub SpellsIn : Goal → Language → ℕ → (s m : TokenSource) → model.Tree → Type 0
SpellsIn goal.Script l limit s m x = SpellsAs programs.script limit s x
SpellsIn goal.Module l limit s m x = SpellsAs programs.«module» limit m x
SpellsIn goal.Program l limit s m x = SpellsProgram l limit s m x
SpellsIn goal.Auto l limit s m x =
    SpellsAs programs.script limit (without_await s) x
    ⊎ (((y : model.Tree) → ¬ SpellsAs programs.script limit (without_await s) y) × SpellsAs programs.«module» limit m x)

-- a tree that a text spells as what is asked for
unfoldable pub Spells : Options → List ℕ → model.Tree → Type 0
Spells o text x = SpellsIn o.goal o.language o.limit (script_source o text) (module_source o text) x

abbrev pub view_tree : Tree → model.Tree
view_tree (tree.Script x) = view_script x
view_tree (tree.Module x) = view_module x
view_tree (tree.Program x) = view_program x

-- this tree was read, and no fault stands beside it
abbrev pub IsRead : Reading → model.Tree → Type 0
IsRead r x = IsClean view_tree r.tree (faults_of r.faults.items) x

-- a result with its tree in the tree of one of the goals
abbrev pub wrapped : {X : Type 0} → (X → Tree) → Result X Error → Result Tree Error
wrapped wrap (Ok x) = Ok (wrap x)
wrapped wrap (Err e) = Err e

-- What was read of some tokens as one of the parser's entries. All that the parser promises of a call on them: the tree or the refusal, and the
-- faults beside it, are what the reader comes to, which is a function of the tokens, the settings and the limit.
pub record IsReadAs (entry : Entry) (limit : ℕ) (s : TokenSource) (r : Reading) : Type 0 where
  pub headline : Headline view_tree entry limit s r.tree (faults_of r.faults.items) (end_of s)
  -- memory did not run out
  pub lasts : Lasts r.tree

-- The reading as a script, if it is clean, and then no other is made; else that or the one as a module.
abbrev pub IsChosen : (is_clean : Bool) → ℕ → (m : TokenSource) → (script r : Reading) → Type 0
IsChosen true limit m script r = r ≡ script
IsChosen false limit m script r = (other : Reading) × IsReadAs programs.«module» limit m other × (r ≡ chosen script other)

pub record IsEither (limit : ℕ) (s m : TokenSource) (r : Reading) : Type 0 where
  pub script : Reading
  pub read : IsReadAs programs.script limit (without_await s) script
  pub choice : IsChosen (is_clean (told_of script)) limit m script r

-- a module was read, and no fault stands beside it
abbrev pub has_module : Result Tree Error → Bool
has_module (Ok x) = is_module (view_tree x)
has_module (Err e) = false

abbrev pub is_clean_module : Reading → Bool
is_clean_module r = is_clean (told_of r) && has_module r.tree

-- The reading of a program with the tokens of a script; where a clean module was read, it is made anew with those of a module.
abbrev pub IsTurned : (is_clean_module : Bool) → ℕ → (m : TokenSource) → (first r : Reading) → Type 0
IsTurned true limit m first r = IsReadAs programs.program limit m r
IsTurned false limit m first r = r ≡ first

pub record IsWholeProgram (limit : ℕ) (s m : TokenSource) (r : Reading) : Type 0 where
  pub first : Reading
  pub read : IsReadAs programs.program limit s first
  pub turn : IsTurned (is_clean_module first) limit m first r

abbrev pub IsProgram : Language → ℕ → (s m : TokenSource) → Reading → Type 0
IsProgram language.Plain limit s m r = IsReadAs programs.program limit s r
IsProgram language.Whole limit s m r = IsWholeProgram limit s m r

abbrev pub IsReadIn : Goal → Language → ℕ → (s m : TokenSource) → Reading → Type 0
IsReadIn goal.Script l limit s m r = IsReadAs programs.script limit s r
IsReadIn goal.Module l limit s m r = IsReadAs programs.«module» limit m r
IsReadIn goal.Program l limit s m r = IsProgram l limit s m r
IsReadIn goal.Auto l limit s m r = IsEither limit s m r

-- What was read of a text, with what is asked for.
pub record Decides (o : Options) (text : List ℕ) (r : Reading) : Type 0 where
  -- a tree was read without a fault exactly where the text spells it: so at most one is spelled
  pub spelled : (x : model.Tree) → IsRead r x ↔ Spells o text x
  pub reading : IsReadIn o.goal o.language o.limit (script_source o text) (module_source o text) r
  -- memory did not run out
  pub lasts : Lasts r.tree
