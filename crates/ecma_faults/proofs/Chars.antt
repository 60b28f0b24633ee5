-- Loops over the characters of a text.
use Rattle.std.proofs.Common.{◌≡◌, ℕ, List, [], ◌∷◌, ◌++◌, ◌+◌, ◌-◌, ◌≤◌, ◌<◌, cond, false, true, nat_lt, max, arith, ap, sym, ◌∙◌, get_or, drop, length, codes, map, flat_map, refl, append_assoc}
use Rattle.std.proofs.lemmas.Grind.{common_steps}
use Rattle.std.proofs.lemmas.Bool.Decides.{nat_tests}
use Rattle.std.proofs.lemmas.List.{at_drop_more, at_drop_all}
use Rattle.ecma_faults.specs.Excerpt.{line_rest, rest_columns, is_line_end, cost, room_left}
use Rattle.ecma_faults.specs.Shown.{columns, shown_bytes}

-- the characters from one on
rest_at : (room : ℕ) (cs : List ℕ) (n c : ℕ) → (n < length cs) × (c ≡ get_or cs n c) → line_rest room (drop n cs) ≡ line_rest room (c ∷ drop (n + 1) cs)
rest_at room cs n c h = at_drop_more (line_rest room) cs n c h.0 ∙ ap (λ x. line_rest room (x ∷ drop (n + 1) cs)) (sym h.1)

columns_at : (room : ℕ) (cs : List ℕ) (n c : ℕ) → (n < length cs) × (c ≡ get_or cs n c) → rest_columns room (drop n cs) ≡ rest_columns room (c ∷ drop (n + 1) cs)
columns_at room cs n c h = at_drop_more (rest_columns room) cs n c h.0 ∙ ap (λ x. rest_columns room (x ∷ drop (n + 1) cs)) (sym h.1)

-- at the end of a line, where there is no room, and else
pub rest_ends : (room : ℕ) (cs : List ℕ) (n c : ℕ) → (n < length cs) × (c ≡ get_or cs n c) → is_line_end c ≡ true → line_rest room (drop n cs) ≡ []
rest_ends room cs n c h e = rest_at room cs n c h ∙ ap (λ b. cond b [] (cond (nat_lt room (cost c)) (codes "...") (shown_bytes 9 c ++ line_rest (room - cost c) (drop (n + 1) cs)))) e

pub rest_cut : (room : ℕ) (cs : List ℕ) (n c : ℕ) → (n < length cs) × (c ≡ get_or cs n c) → is_line_end c ≡ false → nat_lt room (cost c) ≡ true → line_rest room (drop n cs) ≡ codes "..."
rest_cut room cs n c h e f =
    rest_at room cs n c h ∙ ap (λ b. cond b [] (cond (nat_lt room (cost c)) (codes "...") (shown_bytes 9 c ++ line_rest (room - cost c) (drop (n + 1) cs)))) e
    ∙ ap (λ b. cond b (codes "...") (shown_bytes 9 c ++ line_rest (room - cost c) (drop (n + 1) cs))) f

pub rest_goes : (room : ℕ) (cs : List ℕ) (n c : ℕ) → (n < length cs) × (c ≡ get_or cs n c) → is_line_end c ≡ false → nat_lt room (cost c) ≡ false
    → line_rest room (drop n cs) ≡ shown_bytes 9 c ++ line_rest (room - cost c) (drop (n + 1) cs)
rest_goes room cs n c h e f =
    rest_at room cs n c h ∙ ap (λ b. cond b [] (cond (nat_lt room (cost c)) (codes "...") (shown_bytes 9 c ++ line_rest (room - cost c) (drop (n + 1) cs)))) e
    ∙ ap (λ b. cond b (codes "...") (shown_bytes 9 c ++ line_rest (room - cost c) (drop (n + 1) cs))) f

pub rest_all : (room : ℕ) (cs : List ℕ) (n : ℕ) → length cs ≤ n → line_rest room (drop n cs) ≡ []
rest_all room cs n h = at_drop_all (line_rest room) cs n h

pub columns_ends : (room : ℕ) (cs : List ℕ) (n c : ℕ) → (n < length cs) × (c ≡ get_or cs n c) → is_line_end c ≡ true → rest_columns room (drop n cs) ≡ 0
columns_ends room cs n c h e = columns_at room cs n c h ∙ ap (λ b. cond b 0 (cond (nat_lt room (cost c)) 0 (columns c + rest_columns (room - cost c) (drop (n + 1) cs)))) e

pub columns_cut : (room : ℕ) (cs : List ℕ) (n c : ℕ) → (n < length cs) × (c ≡ get_or cs n c) → is_line_end c ≡ false → nat_lt room (cost c) ≡ true → rest_columns room (drop n cs) ≡ 0
columns_cut room cs n c h e f =
    columns_at room cs n c h ∙ ap (λ b. cond b 0 (cond (nat_lt room (cost c)) 0 (columns c + rest_columns (room - cost c) (drop (n + 1) cs)))) e
    ∙ ap (λ b. cond b 0 (columns c + rest_columns (room - cost c) (drop (n + 1) cs))) f

pub columns_goes : (room : ℕ) (cs : List ℕ) (n c : ℕ) → (n < length cs) × (c ≡ get_or cs n c) → is_line_end c ≡ false → nat_lt room (cost c) ≡ false
    → rest_columns room (drop n cs) ≡ columns c + rest_columns (room - cost c) (drop (n + 1) cs)
columns_goes room cs n c h e f =
    columns_at room cs n c h ∙ ap (λ b. cond b 0 (cond (nat_lt room (cost c)) 0 (columns c + rest_columns (room - cost c) (drop (n + 1) cs)))) e
    ∙ ap (λ b. cond b 0 (columns c + rest_columns (room - cost c) (drop (n + 1) cs))) f

pub columns_all : (room : ℕ) (cs : List ℕ) (n : ℕ) → length cs ≤ n → rest_columns room (drop n cs) ≡ 0
columns_all room cs n h = at_drop_all (rest_columns room) cs n h

lt_true : (m n : ℕ) → m < n → nat_lt m n ≡ true
lt_true m n h = grind (arith, nat_tests)

lt_false : (m n : ℕ) → n ≤ m → nat_lt m n ≡ false
lt_false m n h = grind (arith, nat_tests)

map_same : (xs : List ℕ) → map (λ x. x) xs ≡ xs
map_same [] = refl
map_same (x ∷ xs) = ap (λ ys. x ∷ ys) (map_same xs)

-- all characters are read
pub all_read : (xs ys : List ℕ) → map (λ x. x) xs ≡ ys → xs ≡ ys
all_read xs ys h = sym (map_same xs) ∙ h

-- what is written at the end of a line, where there is no room, and else
pub written_ends : (out whole : List ℕ) (room : ℕ) (cs : List ℕ) (n c : ℕ) → out ++ line_rest room (drop n cs) ≡ whole
    → (n < length cs) × (c ≡ get_or cs n c) → is_line_end c ≡ true → out ≡ whole
written_ends out whole room cs n c w h e = let r = rest_ends room cs n c h e in grind (arith, common_steps)

pub written_cut : (out whole : List ℕ) (room : ℕ) (cs : List ℕ) (n c : ℕ) → out ++ line_rest room (drop n cs) ≡ whole
    → (n < length cs) × (c ≡ get_or cs n c) → is_line_end c ≡ false → room < cost c → out ++ codes "..." ≡ whole
written_cut out whole room cs n c w h e f = let r = rest_cut room cs n c h e (lt_true room (cost c) f) in cc

pub written_goes : (out whole : List ℕ) (room : ℕ) (cs : List ℕ) (n c : ℕ) (next : List ℕ) (taken m : ℕ) → out ++ line_rest room (drop n cs) ≡ whole
    → (n < length cs) × (c ≡ get_or cs n c) → is_line_end c ≡ false → taken ≤ room → next ≡ out ++ shown_bytes 9 c → taken ≡ cost c → m ≡ n + 1
    → next ++ line_rest (room - taken) (drop m cs) ≡ whole
written_goes out whole room cs n c next taken m w h e f g k i =
    let fits : cost c ≤ room = omega arith in
    let more = rest_goes room cs n c h e (lt_false room (cost c) fits) in
    rw (g, k, i) (rw append_assoc (ap (λ r. out ++ r) (sym more) ∙ w))

pub written_all : (out whole : List ℕ) (room : ℕ) (cs : List ℕ) (n : ℕ) → out ++ line_rest room (drop n cs) ≡ whole → length cs ≤ n → out ≡ whole
written_all out whole room cs n w h = let r = rest_all room cs n h in grind (arith, common_steps)

-- the same of columns
pub summed_ends : (sum whole room : ℕ) (cs : List ℕ) (n c : ℕ) → sum + rest_columns room (drop n cs) ≡ whole
    → (n < length cs) × (c ≡ get_or cs n c) → is_line_end c ≡ true → sum ≡ whole
summed_ends sum whole room cs n c w h e = let r = columns_ends room cs n c h e in omega arith

pub summed_cut : (sum whole room : ℕ) (cs : List ℕ) (n c : ℕ) → sum + rest_columns room (drop n cs) ≡ whole
    → (n < length cs) × (c ≡ get_or cs n c) → is_line_end c ≡ false → room < cost c → sum ≡ whole
summed_cut sum whole room cs n c w h e f = let r = columns_cut room cs n c h e (lt_true room (cost c) f) in omega arith

pub summed_goes : (sum whole room : ℕ) (cs : List ℕ) (n c width taken m : ℕ) → sum + rest_columns room (drop n cs) ≡ whole
    → (n < length cs) × (c ≡ get_or cs n c) → is_line_end c ≡ false → taken ≤ room → width ≡ columns c → taken ≡ cost c → m ≡ n + 1
    → (sum + width) + rest_columns (room - taken) (drop m cs) ≡ whole
summed_goes sum whole room cs n c width taken m w h e f g k i =
    let fits : cost c ≤ room = omega arith in
    let more = columns_goes room cs n c h e (lt_false room (cost c) fits) in
    rw (g, k, i) (omega arith)

pub summed_all : (sum whole room : ℕ) (cs : List ℕ) (n : ℕ) → sum + rest_columns room (drop n cs) ≡ whole → length cs ≤ n → sum ≡ whole
summed_all sum whole room cs n w h = let r = columns_all room cs n h in omega arith

-- the room that is left behind a character, and behind the last
pub left_goes : (room whole : ℕ) (cs : List ℕ) (n c taken next m : ℕ) → room_left room (drop n cs) ≡ whole
    → (n < length cs) × (c ≡ get_or cs n c) → taken ≡ cost c → next ≡ room - taken → m ≡ n + 1 → room_left next (drop m cs) ≡ whole
left_goes room whole cs n c taken next m w h g k i =
    rw (k, g, i) (sym (at_drop_more (room_left room) cs n c h.0 ∙ ap (λ x. room_left room (x ∷ drop (n + 1) cs)) (sym h.1)) ∙ w)

pub left_all : (room whole : ℕ) (cs : List ℕ) (n : ℕ) → room_left room (drop n cs) ≡ whole → length cs ≤ n → room ≡ whole
left_all room whole cs n w h = sym (at_drop_all (room_left room) cs n h) ∙ w
