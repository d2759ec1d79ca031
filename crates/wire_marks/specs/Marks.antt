-- The table of a net's pairs: at the greater wire of each the net's stamp and the smaller wire; and each way out of the code.
use Prim.Native.Nat.{ℕ, zero, suc, ◌+◌, ◌*◌, ◌-◌, ◌/◌, ◌%◌, ◌<◌, ◌≤◌}
use Rattle.std.specs.Prelude.{◌≡◌, List, [], ◌∷◌, get_or, set}
use Rattle.std.proofs.Math.Path.{refl}
use Rattle.std.proofs.Common.{◌∙◌, not-suc-le-zero}
use native.Mathlib.Omega.{arith}
use Rattle.words.specs.Choose.{if_eq, eq_yes, eq_no}
use Rattle.fields.specs.Fields.{be16}
use Rattle.stored.specs.Stored.{table_at, pair_at, pairs_at}

-- the word that says: with this smaller wire, in the net of this stamp
abbrev pub mark : ℕ → ℕ → ℕ
mark stamp a = 65536 * stamp + a

-- the table with these pairs marked
unfoldable pub marked : ℕ → List (ℕ × ℕ) → List ℕ → List ℕ
marked stamp [] ws = ws
marked stamp (p ∷ ps) ws = marked stamp ps (set ws p.1 (mark stamp p.0))

-- the smaller of a wire and the one that it is a pair with
unfoldable pub canon : List ℕ → ℕ → ℕ → ℕ
canon ws stamp w = if_eq (get_or ws w 0 / 65536) stamp (get_or ws w 0 % 65536) w

-- ---- the loop

module _ (s : List ℕ) (at stamp : ℕ) where
  pub pairs_more : (ws w x : List ℕ) (j k a b m : ℕ) → marked stamp (pairs_at s (at + (2 + 4 * j)) k) ws ≡ x → 0 < k → a ≡ be16 s (at + (2 + 4 * j))
      → b ≡ be16 s (at + (4 + 4 * j)) → m ≡ mark stamp a → w ≡ set ws b m → marked stamp (pairs_at s (at + (2 + 4 * (j + 1))) (k - 1)) w ≡ x
  unfolding marked pairs_at pair_at table_at
  pairs_more ws w x j zero a b m e h ea eb em ew = absurd (not-suc-le-zero h)
  pairs_more ws w x j (suc k) a b m e h ea eb em ew =
      let f : at + (2 + 4 * j) + 4 ≡ at + (2 + 4 * (j + 1)) = omega arith in
      let g : at + (2 + 4 * j) + 2 ≡ at + (4 + 4 * j) = omega arith in
      let l : suc k - 1 ≡ k = omega arith in
      rw (l, ew, em, eb, ea) (rw (f, g) at e)

  pub pairs_done : (ws x : List ℕ) (j k : ℕ) → marked stamp (pairs_at s (at + (2 + 4 * j)) k) ws ≡ x → k ≤ 0 → ws ≡ x
  unfolding marked pairs_at table_at
  pairs_done ws x j zero e h = e
  pairs_done ws x j (suc k) e h = absurd (not-suc-le-zero h)

  pub pairs_all : (ws w : List ℕ) (n : ℕ) → n ≡ be16 s at → w ≡ marked stamp (pairs_at s (at + (2 + 4 * 0)) n) ws → w ≡ marked stamp (pairs_at s (at + 2) (be16 s at)) ws
  pairs_all ws w n e h = let f : at + (2 + 4 * 0) ≡ at + 2 = omega arith in h ∙ rw (e, f)

-- ---- a wire

module _ (ws : List ℕ) (stamp w v : ℕ) (e : v ≡ get_or ws w 0) where
  pub canon_marked : v / 65536 ≡ stamp → v % 65536 ≡ canon ws stamp w
  unfolding canon
  canon_marked h = eq_yes _ _ _ _ (rw (← e) h) (rw e)

  pub canon_plain : (v / 65536 ≡ stamp → ⊥) → w ≡ canon ws stamp w
  unfolding canon
  canon_plain h = eq_no _ _ _ _ (λ g. h (rw e g)) refl
