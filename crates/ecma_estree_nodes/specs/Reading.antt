-- The nodes that a text of JSON tells of: each `{"type":"KIND","start":N,"end":M` that stands in it outside of strings.
use Rattle.std.specs.Prelude.{◌≡◌, ℕ, List, [], ◌∷◌, ◌++◌, ◌+◌, ◌-◌, ◌*◌, ◌==◌, ◌&&◌, Bool, true, false, not, nat_lt, if◌then◌else◌, Option, Some, None, codes}

-- a kind of node and its place, in code units of UTF-16
pub record Node : Type 0 where
  pub kind : List ℕ
  pub start : ℕ
  pub end : ℕ

-- where a byte stands: outside of strings, in one, or behind a backslash in one
pub data Where : Type 0 where
  outside : Where
  inside : Where
  behind_backslash : Where

-- 34 is a quote and 92 a backslash
abbrev pub step : Where → ℕ → Where
step outside b = if b == 34 then inside else outside
step inside b = if b == 34 then outside else if b == 92 then behind_backslash else inside
step behind_backslash b = inside

-- what stands behind some bytes
abbrev pub behind : List ℕ → List ℕ → Option (List ℕ)
behind [] bs = Some bs
behind (c ∷ cs) [] = None
behind (c ∷ cs) (b ∷ bs) = if c == b then behind cs bs else None

-- what stands before the next quote, and what from there on
abbrev pub to_quote : List ℕ → List ℕ
to_quote [] = []
to_quote (b ∷ bs) = if b == 34 then [] else b ∷ to_quote bs

abbrev pub from_quote : List ℕ → List ℕ
from_quote [] = []
from_quote (b ∷ bs) = if b == 34 then b ∷ bs else from_quote bs

abbrev pub is_digit : ℕ → Bool
is_digit b = not (nat_lt b 48) && nat_lt b 58

-- the number that digits say behind others, and what stands behind it
abbrev pub number : ℕ → List ℕ → ℕ
number n [] = n
number n (b ∷ bs) = if is_digit b then number (n * 10 + (b - 48)) bs else n

abbrev pub behind_number : List ℕ → List ℕ
behind_number [] = []
behind_number (b ∷ bs) = if is_digit b then behind_number bs else b ∷ bs

abbrev pub ended : (kind : List ℕ) → (start : ℕ) → Option (List ℕ) → List Node
ended kind start None = []
ended kind start (Some bs) = record { kind = kind; start = start; end = number 0 bs } ∷ []

abbrev pub started : (kind : List ℕ) → Option (List ℕ) → List Node
started kind None = []
started kind (Some bs) = ended kind (number 0 bs) (behind (codes ",\"end\":") (behind_number bs))

abbrev pub named : Option (List ℕ) → List Node
named None = []
named (Some bs) = started (to_quote bs) (behind (codes "\",\"start\":") (from_quote bs))

-- the node that begins with a brace, if one does
abbrev pub opened : List ℕ → List Node
opened bs = named (behind (codes "\"type\":\"") bs)

-- 123 is a brace
abbrev pub found : Where → ℕ → List ℕ → List Node
found outside b bs = elim (b == 123) [ true ↦ opened bs | false ↦ [] ]
found _ b bs = []

abbrev pub read_from : Where → List ℕ → List Node
read_from w [] = []
read_from w (b ∷ bs) = found w b bs ++ read_from (step w b) bs

-- the nodes of a text, in their order
abbrev pub read : List ℕ → List Node
read bs = read_from outside bs

-- What stands behind a text is read as it is by itself: no string is open at its end.
pub record IsClosed (xs : List ℕ) : Type 0 where
  pub closes : (rest : List ℕ) → read (xs ++ rest) ≡ read xs ++ read rest

-- no node is read there either
pub record IsQuiet (xs : List ℕ) : Type 0 where
  pub closed : IsClosed xs
  pub no_nodes : read xs ≡ []
