-- The text of a page: HTML Living Standard, "The script element" (section 4.12.1). A block of data is read up to its end tag, so that no `<`
-- may stand in it.
use Rattle.std.specs.Prelude.{ℕ, List, [], ◌∷◌, ◌++◌, ◌==◌, if◌then◌else◌, codes}
use Rattle.std.specs.List.{flat_map}
use Rattle.ecma_page.specs.declared.frame.Frame.{Frame}
use Rattle.ecma_page.specs.declared.page.Page.{Page}

-- A byte of JSON as it stands in a block: 60 is `<`, which JSON has in strings alone, where it may be escaped.
abbrev pub escaped : ℕ → List ℕ
escaped b = if b == 60 then codes "\\u003c" else b ∷ []

unfoldable pub safe : List ℕ → List ℕ
safe json = flat_map escaped json

-- what is read of a block: what stands before the next `<`
abbrev pub up_to_tag : List ℕ → List ℕ
up_to_tag [] = []
up_to_tag (b ∷ bs) = if b == 60 then [] else b ∷ up_to_tag bs

-- a block of data with its name
unfoldable pub block : (name json : List ℕ) → List ℕ
block name json = codes "<script type=\"application/json\" id=\"" ++ (name ++ (codes "\">" ++ (safe json ++ codes "</script>\n")))

-- what is shown of a text without its tree
unfoldable pub text_blocks : Page → List ℕ
text_blocks p =
    block (codes "name") p.name.now ++ (block (codes "source") p.source.now ++ block (codes "faults") p.faults.now)

unfoldable pub head_text : Frame → List ℕ
head_text f = f.head.now ++ (f.style.now ++ f.body.now)

-- the script of the worker
unfoldable pub worker_text : Frame → List ℕ
worker_text f = f.parts.now ++ (f.worker.now ++ (f.seek.now ++ f.blocks.now))

-- of the script of what is seen, the parts that show the text
unfoldable pub text_view : Frame → List ℕ
text_view f = f.rows.now ++ (f.text.now ++ f.reader.now)

-- and those that show faults and tree, and read the data
unfoldable pub tree_view : Frame → List ℕ
tree_view f = f.faults.now ++ (f.tree.now ++ (f.view.now ++ f.check.now))

unfoldable pub script_text : Frame → List ℕ
script_text f = worker_text f ++ (text_view f ++ tree_view f)

-- A page: a text, the script that shows it, the tree, which may be long, and what has it shown.
unfoldable pub page_text : Frame → Page → List ℕ
page_text f p = head_text f ++ (text_blocks p ++ (script_text f ++ (block (codes "tree") p.tree.now ++ f.end.now)))
