-- Laws of the tests, choices and sums of specs/Numbers.
use Rattle.std.proofs.Common.{◌≡◌, ℕ, zero, suc, ◌*◌, ◌<◌, ◌≤◌, Bool, true, false, not, ◌&&◌, T, leb, sym, refl, zero-mul, arith, leb→le}
use lib.Dec.{nleb→lt}
use mir.Val.{bool_byte}
use Rattle.walk.specs.Numbers.{le?, only, sum_to}

-- which way a test goes, with what it says
pub data Le? (m n : ℕ) : Bool → Type 0 where
  le : m ≤ n → Le? m n true
  gt : n < m → Le? m n false

pub test : (m n : ℕ) → Le? m n (le? m n)
unfolding le?
test m n = go (leb m n) (leb→le m n) (nleb→lt m n)
  where
    go : (b : Bool) → (T b → m ≤ n) → (T (not b) → n < m) → Le? m n b
    go true f g = le (f tt)
    go false f g = gt (g tt)

-- nothing is both true and false
pub clash : {A : Type 0} → true ≡ false → A
clash e = absurd (let z : ◌≡◌ {A = ℕ} 0 1 = cc in omega arith)

-- a test as a number
pub byte_only : (b : Bool) → bool_byte b ≡ only b 1
byte_only true = refl
byte_only false = refl

pub le?_sound : (m n : ℕ) → le? m n ≡ true → m ≤ n
le?_sound m n e = go (le? m n) (test m n) e
  where
    go : (b : Bool) → Le? m n b → b ≡ true → m ≤ n
    go true (le h) e = h
    go false t e = clash (sym e)

pub le?_complete : (m n : ℕ) → m ≤ n → le? m n ≡ true
le?_complete m n h = go (le? m n) (test m n)
  where
    go : (b : Bool) → Le? m n b → b ≡ true
    go true t = refl
    go false (gt l) = absurd (omega arith)

pub le?_fails : (m n : ℕ) → n < m → le? m n ≡ false
le?_fails m n h = go (le? m n) (test m n)
  where
    go : (b : Bool) → Le? m n b → b ≡ false
    go true (le l) = absurd (omega arith)
    go false t = refl

pub and_true : (x y : Bool) → (x && y) ≡ true → (x ≡ true) × (y ≡ true)
and_true true y e = (refl, e)
and_true false y e = clash (sym e)

-- ---- numbers behind a test

pub only_zero : (b : Bool) → only b 0 ≡ 0
only_zero true = refl
only_zero false = refl

pub only_one : (b : Bool) (x : ℕ) → x * only b 1 ≡ only b x
only_one true x = omega arith
only_one false x = omega arith

pub only_swap : (b : Bool) (x y : ℕ) → x * only b y ≡ only b x * y
only_swap true x y = refl
only_swap false x y = omega arith

pub only-only : (b : Bool) (x : ℕ) → only b (only b x) ≡ only b x
only-only true x = refl
only-only false x = refl

pub only_le : (b : Bool) (x : ℕ) → only b x ≤ x
only_le true x = omega arith
only_le false x = omega arith

pub only_scale : (b : Bool) (x y k l : ℕ) → x * k ≤ y * l → only b x * k ≤ only b y * l
only_scale true x y k l h = h
only_scale false x y k l h = omega arith

pub only_fails : (m n x : ℕ) → n < m → only (le? m n) x ≡ 0
only_fails m n x h = rw (le?_fails m n h)

pub only-holds : (m n x : ℕ) → m ≤ n → only (le? m n) x ≡ x
only-holds m n x h = rw (le?_complete m n h)

-- ---- sums

pub sum_cong : (n : ℕ) (g h : ℕ → ℕ) → ((c : ℕ) → c < n → g c ≡ h c) → sum_to n g ≡ sum_to n h
sum_cong zero g h e = refl
sum_cong (suc n) g h e =
    let i : sum_to n g ≡ sum_to n h = sum_cong n g h (λ c k. e c (omega arith)) in
    omega (arith, e n (omega arith))

pub sum_le : (n : ℕ) (g h : ℕ → ℕ) → ((c : ℕ) → c < n → g c ≤ h c) → sum_to n g ≤ sum_to n h
sum_le zero g h e = omega arith
sum_le (suc n) g h e =
    let i : sum_to n g ≤ sum_to n h = sum_le n g h (λ c k. e c (omega arith)) in
    omega (arith, e n (omega arith))

pub sum-mul : (n : ℕ) (g : ℕ → ℕ) (k : ℕ) → sum_to n (λ c. g c * k) ≡ sum_to n g * k
sum-mul zero g k = sym (zero-mul k)
sum-mul (suc n) g k = omega (arith, sum-mul n g k)

pub sum-zero : (n : ℕ) (g : ℕ → ℕ) → ((c : ℕ) → c < n → g c ≡ 0) → sum_to n g ≡ 0
sum-zero zero g e = refl
sum-zero (suc n) g e =
    let i : sum_to n g ≡ 0 = sum-zero n g (λ c k. e c (omega arith)) in
    omega (arith, e n (omega arith))
