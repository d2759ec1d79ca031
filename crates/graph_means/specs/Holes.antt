-- A run of holes: each of its ports' words is its own number, and no other word is written.
use Rattle.std.specs.Prelude.{ℕ, zero, suc, ◌+◌, ◌%◌, ◌<◌, ◌≤◌, ◌≡◌, refl, ◌≢◌, List, length, get_or, set}
use Rattle.std.proofs.Common.{sym, ap, ◌∙◌, length-set, get_or-set_same, get_or-set_other, not-suc-le-zero, add-zero, arith}
use Rattle.std.proofs.Math.Decide.{ℕ_discrete}
use Rattle.layout.specs.Layout.{next, set_across}
use Rattle.graph.specs.Graph.{holes}

pub holes_long : (k p : ℕ) (ws : List ℕ) → length (holes ws p k) ≡ length ws
unfolding holes
holes_long zero p ws = refl
holes_long (suc k) p ws = holes_long k (next p) (set_across ws p p) ∙ length-set ws (5184 + p) p

pub holes_other : (k p : ℕ) (ws : List ℕ) (i : ℕ) → p + k < 4294967296 → ((j : ℕ) → j < k → i ≢ 5184 + (p + j)) → get_or (holes ws p k) i 0 ≡ get_or ws i 0
unfolding holes
holes_other zero p ws i b n = refl
holes_other (suc k) p ws i b n =
    let z = n 0 (omega arith) in
    let e : next p ≡ p + 1 = omega arith in
    holes_other k (next p) (set_across ws p p) i (omega arith) (λ j h. let y = n (j + 1) (omega arith) in omega arith)
    ∙ get_or-set_other ws (5184 + p) i p 0 (omega arith)

pub holes_same : (k p : ℕ) (ws : List ℕ) (i : ℕ) → p + k < 4294967296 → 5184 + (p + k) ≤ length ws → i < k → get_or (holes ws p k) (5184 + (p + i)) 0 ≡ p + i
unfolding holes
holes_same zero p ws i b l h = absurd (not-suc-le-zero h)
holes_same (suc k) p ws zero b l h =
    let e : next p ≡ p + 1 = omega arith in
    holes_other k (next p) (set_across ws p p) (5184 + (p + 0)) (omega arith) (λ j i. omega arith)
    ∙ rw (add-zero p) (get_or-set_same ws (5184 + p) p 0 (omega arith))
holes_same (suc k) p ws (suc i) b l h =
    let e : next p ≡ p + 1 = omega arith in
    let s = length-set ws (5184 + p) p in
    let y : next p + i ≡ p + suc i = omega arith in
    rw (← y) (holes_same k (next p) (set_across ws p p) i (omega arith) (omega arith) (omega arith))
