-- Sums of parts of a list.
use Rattle.std.proofs.Common.{◌≡◌, ℕ, zero, suc, ◌+◌, ◌-◌, ◌≤◌, true, List, [], ◌∷◌, ◌++◌, length, reverse, get_or, take, drop, sym, refl, ap, ◌∙◌, arith, drop-drop, length-drop, take_at, take-append-drop}
use Rattle.std.proofs.lemmas.List.{reverse-append, length-reverse}
use Rattle.walk.specs.Numbers.{le?, sum, all_up_to}
use Rattle.walk.proofs.Tests.{and_true, le?_sound, le?_complete}

pub sum-take-suc : (xs : List ℕ) (i : ℕ) → sum (take (suc i) xs) ≡ sum (take i xs) + get_or xs i 0
sum-take-suc [] zero = refl
sum-take-suc [] (suc i) = refl
sum-take-suc (x ∷ xs) zero = omega arith
sum-take-suc (x ∷ xs) (suc i) = omega (arith, sum-take-suc xs i)

pub sum-take-drop : (xs : List ℕ) (i : ℕ) → sum (take i xs) + sum (drop i xs) ≡ sum xs
sum-take-drop xs zero = omega arith
sum-take-drop [] (suc i) = refl
sum-take-drop (x ∷ xs) (suc i) = omega (arith, sum-take-drop xs i)

-- a list in three
pub sum_three : (xs : List ℕ) (i j : ℕ) → i ≤ j → sum (take i xs) + (sum (take (j - i) (drop i xs)) + sum (drop j xs)) ≡ sum xs
sum_three xs i j h =
    let e : i + (j - i) ≡ j = omega arith in
    let d : drop (j - i) (drop i xs) ≡ drop j xs = drop-drop (j - i) i xs ∙ ap (λ (k : ℕ). drop k xs) e in
    omega (arith, sum-take-drop xs i, sum-take-drop (drop i xs) (j - i), ap sum d)

-- later is less
pub sum-drop_falls : (xs : List ℕ) (i j : ℕ) → i ≤ j → sum (drop j xs) ≤ sum (drop i xs)
sum-drop_falls xs i j h =
    let e : i + (j - i) ≡ j = omega arith in
    let d : drop (j - i) (drop i xs) ≡ drop j xs = drop-drop (j - i) i xs ∙ ap (λ (k : ℕ). drop k xs) e in
    omega (arith, sum-take-drop (drop i xs) (j - i), ap sum d)

pub sum-append : (xs ys : List ℕ) → sum (xs ++ ys) ≡ sum xs + sum ys
sum-append [] ys = omega arith
sum-append (x ∷ xs) ys = omega (arith, sum-append xs ys)

sum-reverse : (xs : List ℕ) → sum (reverse xs) ≡ sum xs
sum-reverse [] = refl
sum-reverse (x ∷ xs) = omega (arith, ap sum (reverse-append (x ∷ []) xs), sum-append (reverse xs) (x ∷ []), sum-reverse xs)

-- the first of a list's mirror are its last
pub sum-take-reverse : (xs : List ℕ) (i : ℕ) → i ≤ length xs → sum (take i (reverse xs)) ≡ sum (drop (length xs - i) xs)
sum-take-reverse xs i h =
    let k : ℕ = length xs - i in
    let n : length (reverse (drop k xs)) ≡ i = omega (arith, length-reverse (drop k xs), length-drop k xs) in
    let e : reverse xs ≡ reverse (drop k xs) ++ reverse (take k xs) =
    ap reverse (sym (take-append-drop k xs)) ∙ reverse-append (take k xs) (drop k xs) in
    ap (λ (l : List ℕ). sum (take i l)) e ∙ ap sum (take_at (reverse (drop k xs)) (reverse (take k xs)) i n) ∙ sum-reverse (drop k xs)

-- ---- every number of a list is at most b

pub all_cons : (b x : ℕ) (xs : List ℕ) → all_up_to b (x ∷ xs) ≡ true → (x ≤ b) × (all_up_to b xs ≡ true)
all_cons b x xs e = let h = and_true (le? x b) (all_up_to b xs) e in (le?_sound x b h.0, h.1)

pub cons_all : (b x : ℕ) (xs : List ℕ) → x ≤ b → all_up_to b xs ≡ true → all_up_to b (x ∷ xs) ≡ true
cons_all b x xs h e = cc (le?_complete x b h)

pub all_get_d : (b : ℕ) (xs : List ℕ) → all_up_to b xs ≡ true → (i : ℕ) → get_or xs i 0 ≤ b
all_get_d b [] e i = omega arith
all_get_d b (x ∷ xs) e zero = (all_cons b x xs e).0
all_get_d b (x ∷ xs) e (suc i) = all_get_d b xs (all_cons b x xs e).1 i

pub all_more : (b c : ℕ) (xs : List ℕ) → b ≤ c → all_up_to b xs ≡ true → all_up_to c xs ≡ true
all_more b c [] h e = refl
all_more b c (x ∷ xs) h e = let a = all_cons b x xs e in cons_all c x xs (omega (arith, a.0)) (all_more b c xs h a.1)

pub all_take : (b : ℕ) (xs : List ℕ) (i : ℕ) → all_up_to b xs ≡ true → all_up_to b (take i xs) ≡ true
all_take b xs zero e = refl
all_take b [] (suc i) e = refl
all_take b (x ∷ xs) (suc i) e = let a = all_cons b x xs e in cons_all b x (take i xs) a.0 (all_take b xs i a.1)

pub all_drop : (b : ℕ) (xs : List ℕ) (i : ℕ) → all_up_to b xs ≡ true → all_up_to b (drop i xs) ≡ true
all_drop b xs zero e = e
all_drop b [] (suc i) e = refl
all_drop b (x ∷ xs) (suc i) e = all_drop b xs i (all_cons b x xs e).1
