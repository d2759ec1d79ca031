-- Numbers in bytes: how a big-endian number is read back, and what the bytes of one are.
use Rattle.std.specs.Prelude.{ℕ, zero, suc, ◌+◌, ◌*◌, ◌/◌, ◌%◌, ◌^◌, ◌<◌, ◌≤◌, ◌≡◌, refl, List, [], ◌∷◌, ◌++◌, length, get_or, drop}
use Rattle.std.proofs.Math.Nat.{div-add-mod, mul-add-mod_self_left, one-le-pow, div-div-eq-div-mul}
use Rattle.std.proofs.Common.{mul-add, add-mul, mul_assoc, mul_comm, mod-eq_of_lt, mod-lt, mul-le-mul_right, pow-suc, div-one, div-lt_iff_lt-mul, arith, sym, ap, ◌∙◌, get_or-drop}
use Rattle.std.proofs.Math.Option.{Option, none, some, some-injective}
use Rattle.net_file.specs.Read.{byte, number_from, number}
use Rattle.net_file.specs.Write.{be}

-- every element is a byte; past the end is 0
abbrev pub Bytes : List ℕ → Type 0
Bytes bs = (i : ℕ) → get_or bs i 0 < 256

-- a suffix of bytes is bytes
pub bytes_rest : (xs ys : List ℕ) → Bytes (xs ++ ys) → Bytes ys
bytes_rest [] ys h = h
bytes_rest (x ∷ xs) ys h = bytes_rest xs ys (λ i. h (suc i))

pub bytes_drop : (n : ℕ) (bs : List ℕ) → Bytes bs → Bytes (drop n bs)
bytes_drop n bs h i = rw get_or-drop (h (n + i))

-- ---- what a parser answered

abbrev pub Answer : Type 0 → Type 0
Answer A = Option (A × List ℕ)

pub same_value : {A : Type 0} {a b : A} {r s : List ℕ} → ◌≡◌ {A = Answer A} (some (a, r)) (some (b, s)) → a ≡ b
same_value {A} {a} {b} {r} {s} e = ap (λ (x : A × List ℕ). x.0) (some-injective (a, r) (b, s) e)

pub same_rest : {A : Type 0} {a b : A} {r s : List ℕ} → ◌≡◌ {A = Answer A} (some (a, r)) (some (b, s)) → r ≡ s
same_rest {A} {a} {b} {r} {s} e = ap (λ (x : A × List ℕ). x.1) (some-injective (a, r) (b, s) e)

pub never : {A : Type 0} {x : A × List ℕ} {X : Type 0} → ◌≡◌ {A = Answer A} none (some x) → X
never {A} {x} e = let z : ◌≡◌ {A = ℕ} 0 1 = cc in absurd (omega arith)

-- ---- reading back what was written

-- the last 256 * p of x: a digit, and the last p
mod_step : (x p : ℕ) → 0 < p → x % (p * 256) ≡ ((x / p) % 256) * p + x % p
mod_step x p h =
    let q = x / p / 256 in
    let d = (x / p) % 256 in
    let m = x % p in
    let e₁ : p * (x / p) + m ≡ x = div-add-mod x p in
    let e₂ : 256 * q + d ≡ x / p = div-add-mod (x / p) 256 in
    let e₃ : p * (256 * q + d) ≡ p * 256 * q + d * p = mul-add p (256 * q) d ∙ ap (λ (y : ℕ). y + p * d) (sym (mul_assoc p 256 q)) ∙ ap (λ (y : ℕ). p * 256 * q + y) (mul_comm p d) in
    let e₄ : p * (256 * q + d) ≡ p * (x / p) = ap (λ (y : ℕ). p * y) e₂ in
    let e : x ≡ p * 256 * q + (d * p + m) = omega arith in
    let l₁ : d < 256 = mod-lt (x / p) (omega arith) in
    let l₂ : m < p = mod-lt x h in
    let l₃ : d * p ≤ 255 * p = mul-le-mul_right p (omega arith) in
    let l : d * p + m < p * 256 = omega arith in
    ap (λ (y : ℕ). y % (p * 256)) e ∙ mul-add-mod_self_left (p * 256) q (d * p + m) ∙ mod-eq_of_lt l

number_be : (k n x : ℕ) (r : List ℕ) → number_from k n (be k x ++ r) ≡ some (n * 256 ^ k + x % 256 ^ k, r)
unfolding number_from byte be
number_be zero n x r = let e : n ≡ n * 1 + x % 1 = omega arith in ap (λ (y : ℕ). some (y, r)) e
number_be (suc k) n x r =
    let p = 256 ^ k in
    let d = (x / p) % 256 in
    let e₁ : (n * 256 + d) * p ≡ n * (p * 256) + d * p =
    add-mul (n * 256) d p ∙ ap (λ (y : ℕ). y + d * p) (mul_assoc n 256 p ∙ ap (λ (y : ℕ). n * y) (mul_comm 256 p)) in
    let e₂ : x % (p * 256) ≡ d * p + x % p = mod_step x p (one-le-pow k 256 (omega arith)) in
    let e₃ : (n * 256 + d) * p + x % p ≡ n * (p * 256) + x % (p * 256) = omega arith in
    let e : (n * 256 + d) * p + x % p ≡ n * 256 ^ suc k + x % 256 ^ suc k = e₃ ∙ ap (λ (y : ℕ). n * y + x % y) (sym (pow-suc 256 k)) in
    number_be k (n * 256 + d) x r ∙ ap (λ (y : ℕ). some (y, r)) e

pub number_written : (k x : ℕ) → x < 256 ^ k → (r : List ℕ) → number k (be k x ++ r) ≡ some (x, r)
unfolding number
number_written k x h r =
    let e : 0 * 256 ^ k + x % 256 ^ k ≡ x = omega (arith, mod-eq_of_lt h) in
    number_be k 0 x r ∙ ap (λ (y : ℕ). some (y, r)) e

-- ---- the bytes of what was read

-- the digits of x before its last k are n, and the bytes are its last k
be_number : (k n : ℕ) (bs : List ℕ) → Bytes bs → (x : ℕ) (r : List ℕ) → number_from k n bs ≡ some (x, r) → (x / 256 ^ k ≡ n) × (bs ≡ be k x ++ r)
unfolding number_from byte be
be_number zero n bs h x r e = (div-one x ∙ sym (same_value e), same_rest e)
be_number (suc k) n [] h x r e = never e
be_number (suc k) n (b ∷ bs) h x r e =
    let i = be_number k (n * 256 + b) bs (λ i. h (suc i)) x r e in
    let l : b < 256 = h 0 in
    let d : (x / 256 ^ k) % 256 ≡ b = ap (λ (y : ℕ). y % 256) i.0 ∙ omega arith in
    let q : x / 256 ^ k / 256 ≡ n = ap (λ (y : ℕ). y / 256) i.0 ∙ omega arith in
    (rw pow-suc (sym (div-div-eq-div-mul x (256 ^ k) 256) ∙ q), rw (d, ← i.1))

pub number_read : (k : ℕ) (bs : List ℕ) → Bytes bs → (x : ℕ) (r : List ℕ) → number k bs ≡ some (x, r) → (x < 256 ^ k) × (bs ≡ be k x ++ r)
unfolding number
number_read k bs h x r e =
    let i = be_number k 0 bs h x r e in
    let z : x / 256 ^ k < 1 = omega (arith, i.0) in
    let l : x < 1 * 256 ^ k = (div-lt_iff_lt-mul (one-le-pow k 256 (omega arith))).0 z in
    (omega arith, i.1)

-- ---- how long they are

pub length_be : (k x : ℕ) → length (be k x) ≡ k
unfolding be
length_be zero x = refl
length_be (suc k) x = ap suc (length_be k x)
