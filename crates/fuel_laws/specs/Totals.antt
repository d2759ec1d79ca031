-- Sums over the numbers below M.
use Rattle.std.specs.Prelude.{ℕ, zero, suc, ◌+◌, ◌≤◌, ◌<◌, ◌≡◌, refl, List, [], ◌∷◌, map, length, get_or, eqb}
use Rattle.std.proofs.Common.{ap, not-suc-le-zero, arith, ne_eqb}
use Rattle.std.proofs.Math.Decide.{ℕ_discrete}
use Rattle.std.proofs.Math.Option.{Option, none, some}
use Rattle.net_file.specs.Lists.{bit, sum}
use Rattle.dirty_laws.specs.Tests.{bit_most}
use Rattle.dirty_laws.specs.Tally.{tally, tally_none}
use Rattle.good_laws.specs.Owners.{is_of}

abbrev pub total : (ℕ → ℕ) → ℕ → ℕ
total h zero = 0
total h (suc n) = h n + total h n

pub total_most : (f h : ℕ → ℕ) (M : ℕ) → ((m : ℕ) → m < M → f m ≤ h m) → total f M ≤ total h M
total_most f h zero l = omega arith
total_most f h (suc M) l = let k = total_most f h M (λ m b. l m (omega arith)) in let j = l M (omega arith) in omega arith

-- all but k grow by nothing
pub total_drop : (f h : ℕ → ℕ) (k M : ℕ) → k < M → ((m : ℕ) → m < M → f m ≤ h m) → total f M + h k ≤ total h M + f k
total_drop f h k zero b l = absurd (not-suc-le-zero b)
total_drop f h k (suc M) b l = go (ℕ_discrete k M) (λ c. total_drop f h k M c (λ m d. l m (omega arith)))
  where
    go : Dec (k ≡ M) → (k < M → total f M + h k ≤ total h M + f k) → f M + total f M + h k ≤ h M + total h M + f k
    go (yes q) ih =
        let t = total_most f h M (λ m d. l m (omega arith)) in
        let a : h k ≡ h M = ap h q in
        let c : f k ≡ f M = ap f q in
        omega arith
    go (no d) ih = let t = ih (omega arith) in let j = l M (omega arith) in omega arith

pub total_plus : (f h : ℕ → ℕ) (M : ℕ) → total (λ m. f m + h m) M ≡ total f M + total h M
total_plus f h zero = omega arith
total_plus f h (suc M) = let k = total_plus f h M in omega arith

total_first : (h : ℕ → ℕ) (n : ℕ) → total h (suc n) ≡ h 0 + total (λ m. h (suc m)) n
total_first h zero = omega arith
total_first h (suc n) = let k = total_first h n in omega arith

-- the sum over a list, by its places
pub total_list : {A : Type 0} (φ : A → ℕ) (ts : List A) (d : A) → total (λ m. φ (get_or ts m d)) (length ts) ≡ sum (map φ ts)
total_list φ [] d = refl
total_list φ (t ∷ ts) d = let a = total_first (λ m. φ (get_or (t ∷ ts) m d)) (length ts) in let b = total_list φ ts d in omega arith

-- ---- each n is counted for one m at most

one_most : (j M : ℕ) → tally (λ m. eqb j m) M ≤ 1
one_most j zero = omega arith
one_most j (suc M) = go (ℕ_discrete j M) (one_most j M)
  where
    go : Dec (j ≡ M) → tally (λ m. eqb j m) M ≤ 1 → bit (eqb j M) + tally (λ m. eqb j m) M ≤ 1
    go (yes q) ih =
        let b = bit_most (eqb j M) in
        let c = tally_none (λ m. eqb j m) M (λ i l. ne_eqb j i (λ s. omega arith)) in
        omega arith
    go (no d) ih = let a : bit (eqb j M) ≡ 0 = ap bit (ne_eqb j M d) in omega arith

pub one_value : (x M : ℕ) → tally (λ n. eqb x n) M ≤ 1
one_value x M = one_most x M

bits_most : (o : Option ℕ) (M : ℕ) → total (λ m. bit (is_of m o)) M ≤ 1
bits_most none zero = omega arith
bits_most none (suc M) = let h = bits_most none M in omega arith
bits_most (some j) M = let a = one_most j M in let b = same M in omega arith
  where
    same : (n : ℕ) → total (λ m. bit (eqb j m)) n ≡ tally (λ m. eqb j m) n
    same zero = refl
    same (suc n) = ap (λ (t : ℕ). bit (eqb j n) + t) (same n)

-- the pairs (n, m) with T n = some m are no more than the n
pub spread : (T : ℕ → Option ℕ) (N M : ℕ) → total (λ m. tally (λ n. is_of m (T n)) N) M ≤ N
spread T zero M = none_at M
  where
    none_at : (n : ℕ) → total (λ m. 0) n ≤ 0
    none_at zero = omega arith
    none_at (suc n) = let h = none_at n in omega arith
spread T (suc N) M =
    let a = total_plus (λ m. bit (is_of m (T N))) (λ m. tally (λ n. is_of m (T n)) N) M in
    let b = bits_most (T N) M in
    let c = spread T N M in
    omega arith
