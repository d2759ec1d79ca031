-- Nets taken along a file, one after another, each with a stamp of its own in a marked scratch; and that a result is written twice.
use Prim.Native.Nat.{ℕ, zero, suc, ◌+◌, ◌-◌, ◌<◌, ◌≤◌}
use Rattle.std.specs.Prelude.{◌≡◌, List, [], ◌∷◌, ◌++◌, set}
use Rattle.std.proofs.Math.Path.{refl, ap}
use Rattle.std.proofs.Common.{sym, ◌∙◌, not-suc-le-zero, add-one}
use native.Mathlib.Omega.{arith}
use Rattle.std.proofs.Math.ListN.{length}
use Rattle.net_file.specs.Lists.{concat_map}
use Rattle.net_file_laws.specs.Exact.{Each}
use Rattle.stored.specs.Stored.{table_at, table_end}
use Rattle.ends.specs.Ends.{within, table_up}
use Rattle.clear.specs.Zeroed.{zeroed}

-- ---- words below a length do not count

pub zeroed_set : (k : ℕ) (ws : List ℕ) (i v : ℕ) → i < k → zeroed k (set ws i v) ≡ zeroed k ws
unfolding zeroed
zeroed_set zero ws i v h = absurd (not-suc-le-zero h)
zeroed_set (suc k) [] i v h = refl
zeroed_set (suc k) (x ∷ ws) zero v h = refl
zeroed_set (suc k) (x ∷ ws) (suc i) v h = ap (λ t. 0 ∷ t) (zeroed_set k ws i v (omega arith))

pub zeroed_within : (k m : ℕ) (ws : List ℕ) → k ≤ m → zeroed m (zeroed k ws) ≡ zeroed m ws
unfolding zeroed
zeroed_within zero m ws h = refl
zeroed_within (suc k) zero ws h = absurd (not-suc-le-zero h)
zeroed_within (suc k) (suc m) [] h = refl
zeroed_within (suc k) (suc m) (x ∷ ws) h = ap (λ t. 0 ∷ t) (zeroed_within k m ws (omega arith))

-- ---- nets along a file: each is marked by the stamp after the last, then written

module _ (s : List ℕ) (mark one : List ℕ → ℕ → ℕ → List ℕ) (end : ℕ → ℕ) where
  -- the scratch after k nets from a place on
  unfoldable pub nets_words : List ℕ → ℕ → ℕ → ℕ → List ℕ
  nets_words ws stamp at zero = ws
  nets_words ws stamp at (suc k) = nets_words (mark ws (stamp + 1) at) (stamp + 1) (within s (end at)) k

  -- and what is written of them
  unfoldable pub nets_bytes : List ℕ → ℕ → ℕ → ℕ → List ℕ
  nets_bytes ws stamp at zero = []
  nets_bytes ws stamp at (suc k) =
      let w = mark ws (stamp + 1) at in
      one w (stamp + 1) at ++ nets_bytes w (stamp + 1) (within s (end at)) k

  pub words_next : (ws w : List ℕ) (stamp t at a k : ℕ) → 0 < k → t ≡ stamp + 1 → w ≡ mark ws t at → a ≡ within s (end at)
      → nets_words ws stamp at k ≡ nets_words w t a (k - 1)
  unfolding nets_words
  words_next ws w stamp t at a zero h et ew ea = absurd (not-suc-le-zero h)
  words_next ws w stamp t at a (suc k) h et ew ea = let l : suc k - 1 ≡ k = omega arith in rw (l, ea, ew, et)

  pub bytes_next : (ws w : List ℕ) (stamp t at a k : ℕ) → 0 < k → t ≡ stamp + 1 → w ≡ mark ws t at → a ≡ within s (end at)
      → nets_bytes ws stamp at k ≡ one w t at ++ nets_bytes w t a (k - 1)
  unfolding nets_bytes
  bytes_next ws w stamp t at a zero h et ew ea = absurd (not-suc-le-zero h)
  bytes_next ws w stamp t at a (suc k) h et ew ea = let l : suc k - 1 ≡ k = omega arith in rw (l, ea, ew, et)

  pub words_done : (ws : List ℕ) (stamp at k : ℕ) → k ≤ 0 → nets_words ws stamp at k ≡ ws
  unfolding nets_words
  words_done ws stamp at zero h = refl
  words_done ws stamp at (suc k) h = absurd (not-suc-le-zero h)

  pub bytes_done : (ws : List ℕ) (stamp at k : ℕ) → k ≤ 0 → nets_bytes ws stamp at k ≡ []
  unfolding nets_bytes
  bytes_done ws stamp at zero h = refl
  bytes_done ws stamp at (suc k) h = absurd (not-suc-le-zero h)

  -- marks stay below a length
  pub words_kept : (m : ℕ) → ((ws : List ℕ) (stamp at : ℕ) → zeroed m (mark ws stamp at) ≡ zeroed m ws)
      → (ws : List ℕ) (stamp at k : ℕ) → zeroed m (nets_words ws stamp at k) ≡ zeroed m ws
  unfolding nets_words
  words_kept m h ws stamp at zero = refl
  words_kept m h ws stamp at (suc k) = words_kept m h (mark ws (stamp + 1) at) (stamp + 1) (within s (end at)) k ∙ h ws (stamp + 1) at

  -- what is written of nets inside a file, each of which is written right in a good scratch
  module _ {A : Type 0} (net : ℕ → A) (f : A → List ℕ) (Fits : A → Type 0) (Good : List ℕ → ℕ → Type 0) (up : (at : ℕ) → at ≤ end at)
      (kept : (ws : List ℕ) (stamp at : ℕ) → end at ≤ length s → Fits (net at) → Good ws stamp → Good (mark ws (stamp + 1) at) (stamp + 1))
      (same : (ws : List ℕ) (stamp at : ℕ) → end at ≤ length s → Fits (net at) → Good ws stamp → one (mark ws (stamp + 1) at) (stamp + 1) at ≡ f (net at)) where
    pub nets_exact : (ws : List ℕ) (stamp at k : ℕ) → table_end end at k ≤ length s → Each Fits (table_at net end at k) → Good ws stamp
        → nets_bytes ws stamp at k ≡ concat_map f (table_at net end at k)
    unfolding nets_bytes table_at table_end
    nets_exact ws stamp at zero h e g = refl
    nets_exact ws stamp at (suc k) h e g =
        let l : end at ≤ length s = omega (arith, table_up end up (end at) k) in
        let w : within s (end at) ≡ end at = omega arith in
        let u = mark ws (stamp + 1) at in
        let a = same ws stamp at l e.0 g in
        let b = nets_exact u (stamp + 1) (end at) k h e.1 (kept ws stamp at l e.0 g) in
        (λ i. a i ++ nets_bytes u (stamp + 1) (w i) k) ∙ ap (λ t. f (net at) ++ t) b
