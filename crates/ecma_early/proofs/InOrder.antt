-- A list in the order of places in which those of each place stand as in another list is that other list, put in order.
use Rattle.std.proofs.Common.{◌≡◌, ℕ, suc, ◌≤◌, ◌<◌, Bool, true, false, cond, not, ◌&&◌, List, [], ◌∷◌, length, get_or, filter, eqb, leb, ltb, nat_cmp, is_lt, Less, Equal, Greater, refl, sym, ap, ◌∙◌, arith, ⊎_elim, le_refl, leb-true, leb-false, eqb-true, eq-eqb, ne_eqb, lt-ltb, le-ltb}
use Rattle.std.proofs.lemmas.Bool.{cases_lt}
use Rattle.std.specs.List.Sorted.{IsNonDecreasingBy, IsStableByKey, ties}
use Rattle.ecma_early.specs.Early.{in_order, place, put}
use Rattle.ecma_events.specs.declared.early_error.EarlyError.{EarlyError}

-- whether an error stands at a place
abbrev stands : ℕ → EarlyError → Bool
stands k e = eqb k (place e)

abbrev Above : ℕ → List EarlyError → Type 0
Above k [] = Unit {0}
Above k (x ∷ xs) = (k ≤ place x) × Above k xs

abbrev Up : List EarlyError → Type 0
Up [] = Unit {0}
Up (x ∷ xs) = Above (place x) xs × Up xs

above_of : (k : ℕ) (xs : List EarlyError) → ((j : ℕ) (d : EarlyError) → j < length xs → k ≤ place (get_or xs j d)) → Above k xs
above_of k [] h = tt
above_of k (x ∷ xs) h = (h 0 x (omega arith), above_of k xs (λ j d w. h (suc j) d (omega arith)))

up_of : (xs : List EarlyError) → IsNonDecreasingBy place xs → Up xs
up_of [] h = tt
up_of (x ∷ xs) h = (above_of (place x) xs (λ j d w. h 0 (suc j) d (omega arith) (omega arith)), up_of xs (λ i j d a b. h (suc i) (suc j) d (omega arith) (omega arith)))

above_less : (j k : ℕ) (xs : List EarlyError) → j ≤ k → Above k xs → Above j xs
above_less j k [] w h = tt
above_less j k (x ∷ xs) w h = (omega (arith, h.0), above_less j k xs w h.1)

-- what is put into a list stands in it
above_cond : (k : ℕ) (e x : EarlyError) (xs ps : List EarlyError) (b : Bool) → k ≤ place e → k ≤ place x → Above k xs → Above k ps
    → Above k (cond b (e ∷ x ∷ xs) (x ∷ ps))
above_cond k e x xs ps true p q h g = (p, (q, h))
above_cond k e x xs ps false p q h g = (q, g)

above_put : (k : ℕ) (e : EarlyError) (xs : List EarlyError) → k ≤ place e → Above k xs → Above k (put e xs)
above_put k e [] w h = (w, tt)
above_put k e (x ∷ xs) w h = above_cond k e x xs (put e xs) (leb (place e) (place x)) w h.0 h.1 (above_put k e xs w h.1)

up_cond : (e x : EarlyError) (xs ps : List EarlyError) (b : Bool) → leb (place e) (place x) ≡ b → Above (place x) xs → Up xs
    → (place x < place e → Above (place x) ps) → Up ps → Up (cond b (e ∷ x ∷ xs) (x ∷ ps))
up_cond e x xs ps true is p q h g =
    let w = leb-true (place e) (place x) is in
    ((w, above_less (place e) (place x) xs w p), (p, q))
up_cond e x xs ps false is p q h g = (h (leb-false (place e) (place x) is), g)

up_put : (e : EarlyError) (xs : List EarlyError) → Up xs → Up (put e xs)
up_put e [] h = (tt, tt)
up_put e (x ∷ xs) h =
    up_cond e x xs (put e xs) (leb (place e) (place x)) refl h.0 h.1 (λ w. above_put (place x) e xs (omega arith) h.0) (up_put e xs h.1)

up_in_order : (xs : List EarlyError) → Up (in_order xs)
up_in_order [] = tt
up_in_order (x ∷ xs) = up_put x (in_order xs) (up_in_order xs)

-- at each place the list stays as it is
apart : (k : ℕ) (e x : EarlyError) (l : List EarlyError) (a b : Bool) → place x < place e → stands k e ≡ a → stands k x ≡ b
    → cond b (x ∷ cond a (e ∷ l) l) (cond a (e ∷ l) l) ≡ cond a (e ∷ cond b (x ∷ l) l) (cond b (x ∷ l) l)
apart k e x l true true w p q = absurd (omega (arith, eqb-true k (place e) p, eqb-true k (place x) q))
apart k e x l true false w p q = refl
apart k e x l false true w p q = refl
apart k e x l false false w p q = refl

kept_cond : (k : ℕ) (e x : EarlyError) (xs ps : List EarlyError) (b : Bool) → leb (place e) (place x) ≡ b
    → filter (stands k) ps ≡ filter (stands k) (e ∷ xs) → filter (stands k) (cond b (e ∷ x ∷ xs) (x ∷ ps)) ≡ filter (stands k) (e ∷ x ∷ xs)
kept_cond k e x xs ps true is h = refl
kept_cond k e x xs ps false is h =
    ap (λ l. cond (stands k x) (x ∷ l) l) h ∙ apart k e x (filter (stands k) xs) (stands k e) (stands k x) (leb-false (place e) (place x) is) refl refl

kept_put : (k : ℕ) (e : EarlyError) (xs : List EarlyError) → filter (stands k) (put e xs) ≡ filter (stands k) (e ∷ xs)
kept_put k e [] = refl
kept_put k e (x ∷ xs) = kept_cond k e x xs (put e xs) (leb (place e) (place x)) refl (kept_put k e xs)

kept_in_order : (k : ℕ) (xs : List EarlyError) → filter (stands k) (in_order xs) ≡ filter (stands k) xs
kept_in_order k [] = refl
kept_in_order k (x ∷ xs) = kept_put k x (in_order xs) ∙ ap (λ l. cond (stands k x) (x ∷ l) l) (kept_in_order k xs)

-- of what stands behind a place nothing stands at it
none_at : (j k : ℕ) (xs : List EarlyError) → j < k → Above k xs → filter (stands j) xs ≡ []
none_at j k [] w h = refl
none_at j k (x ∷ xs) w h =
    ap (λ b. cond b (x ∷ filter (stands j) xs) (filter (stands j) xs)) (ne_eqb j (place x) (λ q. omega (arith, q, h.0))) ∙ none_at j k xs w h.1

first_at : (x : EarlyError) (xs : List EarlyError) → filter (stands (place x)) (x ∷ xs) ≡ x ∷ filter (stands (place x)) xs
first_at x xs = ap (λ b. cond b (x ∷ filter (stands (place x)) xs) (filter (stands (place x)) xs)) (eq-eqb (place x) (place x) refl)

not_both : {X : Type 0} {x : EarlyError} {xs : List EarlyError} → [] ≡ x ∷ xs → X
not_both e = absurd (omega (arith, ap length e))

abbrev Same : List EarlyError → List EarlyError → Type 0
Same xs ys = (z : EarlyError) → filter (stands (place z)) xs ≡ filter (stands (place z)) ys

-- the head of one stands no later than that of the other
level : (x y : EarlyError) (xs ys : List EarlyError) → Up (y ∷ ys) → Same (x ∷ xs) (y ∷ ys) → place y ≤ place x
level x y xs ys v h =
    ⊎_elim (λ w. not_both (sym (none_at (place x) (place y) (y ∷ ys) w (le_refl (place y), v.0)) ∙ sym (h x) ∙ first_at x xs)) (λ w. w) (cases_lt (place x) (place y))

abbrev first_or : EarlyError → List EarlyError → EarlyError
first_or d [] = d
first_or d (x ∷ xs) = x

abbrev rest_of : List EarlyError → List EarlyError
rest_of [] = []
rest_of (x ∷ xs) = xs

-- what is left of both is alike at each place
left : (k : ℕ) (x : EarlyError) (xs ys : List EarlyError) (b : Bool) → cond b (x ∷ filter (stands k) xs) (filter (stands k) xs) ≡ cond b (x ∷ filter (stands k) ys) (filter (stands k) ys)
    → filter (stands k) xs ≡ filter (stands k) ys
left k x xs ys true h = ap rest_of h
left k x xs ys false h = h

heads : (x y : EarlyError) (xs ys : List EarlyError) → place x ≡ place y → Same (x ∷ xs) (y ∷ ys) → x ≡ y
heads x y xs ys e h =
    ap (first_or x) (sym (first_at x xs) ∙ h x ∙ ap (λ k. filter (stands k) (y ∷ ys)) e ∙ first_at y ys)

same_list : (xs ys : List EarlyError) → Up xs → Up ys → Same xs ys → xs ≡ ys
same_list [] [] u v h = refl
same_list [] (y ∷ ys) u v h = not_both (h y ∙ first_at y ys)
same_list (x ∷ xs) [] u v h = not_both (sym (h x) ∙ first_at x xs)
same_list (x ∷ xs) (y ∷ ys) u v h =
    let e = heads x y xs ys (omega (arith, level x y xs ys v h, level y x ys xs u (λ z. sym (h z)))) h in
    let h' : Same (x ∷ xs) (x ∷ ys) = λ z. h z ∙ ap (λ t. filter (stands (place z)) (t ∷ ys)) (sym e) in
    ap (λ z. z ∷ xs) e ∙ ap (λ l. y ∷ l) (same_list xs ys u.1 v.1 (λ z. left (place z) x xs ys (stands (place z) x) (h' z)))

-- two errors tie exactly where they stand at one place
less_is : (b c : Bool) → is_lt (cond b Less (cond c Equal Greater)) ≡ b
less_is true c = refl
less_is false true = refl
less_is false false = refl

neither : (a b : ℕ) → not (ltb a b) && not (ltb b a) ≡ eqb a b
neither a b =
    ⊎_elim
    (λ w. ap (λ t. not t && not (ltb b a)) (lt-ltb a b w) ∙ sym (ne_eqb a b (λ q. omega (arith, q))))
    (λ w. ap (λ t. not t && not (ltb b a)) (le-ltb a b w) ∙ ⊎_elim
    (λ v. ap not (lt-ltb b a v) ∙ sym (ne_eqb a b (λ q. omega (arith, q))))
    (λ v. ap not (le-ltb b a v) ∙ sym (eq-eqb a b (omega arith)))
    (cases_lt b a))
    (cases_lt a b)

tie_is : (a b : ℕ) → not (is_lt (nat_cmp a b)) && not (is_lt (nat_cmp b a)) ≡ eqb a b
tie_is a b =
    ap (λ t. not t && not (is_lt (nat_cmp b a))) (less_is (ltb a b) (eqb a b))
    ∙ ap (λ t. not (ltb a b) && not t) (less_is (ltb b a) (eqb b a))
    ∙ neither a b

stably : (xs ys : List EarlyError) (z : EarlyError) → IsStableByKey place nat_cmp xs ys → filter (stands (place z)) ys ≡ filter (stands (place z)) xs
stably xs ys z h =
    let same : ties (λ x y. is_lt (nat_cmp (place x) (place y))) z ≡ stands (place z) = λ i e. tie_is (place z) (place e) i in
    ap (λ t. filter t ys) (sym same) ∙ h z ∙ ap (λ t. filter t xs) same

-- a stable sort by place puts errors in order
pub put_in_order : (xs ys : List EarlyError) → IsNonDecreasingBy place ys → IsStableByKey place nat_cmp xs ys → ys ≡ in_order xs
put_in_order xs ys up stable =
    same_list ys (in_order xs) (up_of ys up) (up_in_order xs) (λ z. stably xs ys z stable ∙ sym (kept_in_order (place z) xs))
