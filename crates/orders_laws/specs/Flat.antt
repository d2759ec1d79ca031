-- A flat net that is read: its pairs are those that `net_pairs` goes over, and their wires are below its counter.
use Prim.Native.Nat.{ℕ, zero, suc, ◌+◌, ◌*◌, ◌<◌, ◌≤◌}
use Rattle.std.specs.Prelude.{◌≡◌, List, [], ◌∷◌, length, drop}
use Rattle.std.proofs.Math.Path.{refl}
use Rattle.std.proofs.Common.{sym}
use Rattle.std.proofs.Math.Option.{some}
use native.Mathlib.Omega.{arith}
use Rattle.words.specs.Choose.{lt_no}
use Rattle.net_file.specs.Values.{FlatNet}
use Rattle.net_file.specs.Read.{◌>>=◌, give, below, times, many, read_pair, read_flat_net}
use Rattle.net_file.specs.Checks.{pair_wires}
use Rattle.fields.specs.Fields.{be16, be32}
use Rattle.stored.specs.Stored.{pair_at, pairs_at, pair_count_at, flat_net_at, table_at, list_end}
use Rattle.stored.specs.Laws.{bound, stands_as, stands_2, stands_4, stands_below, stands_many, stands_numbers, table_steps}
use Rattle.stored.specs.Parts.{stands_bit, stands_pair}
use Rattle.ends.specs.Ends.{within, on}
use Rattle.tally.specs.Tally.{Inside}
use Rattle.wiring.specs.Wiring.{pair_run, net_pairs}
use Rattle.walk.specs.Loops.{times_suc}
use Rattle.stored.specs.Pass.{pass, under}

-- ---- every wire is below the wire counter

module _ (s : List ℕ) (wires : ℕ) where
  pair_inside : (at : ℕ) (p : ℕ × ℕ) (r : List ℕ) → at ≤ length s → read_pair wires (drop at s) ≡ some (p, r) → (be16 s at < wires) × (be16 s (at + 2) < wires)
  unfolding read_pair
  pair_inside at p r i h =
      let a = pass (λ x. below 2 wires >>= λ y. give (x, y)) p r (stands_below s 2 wires at _ _ (stands_2 s at)) i h in
      let b = pass (λ y. give (be16 s at, y)) p r (stands_below s 2 wires (at + 2) _ _ (stands_2 s (at + 2))) a.inside a.next in
      (under 2 wires (be16 s at) (drop at s) _ a.first, under 2 wires (be16 s (at + 2)) (drop (at + 2) s) _ b.first)

  pairs_inside : (n at : ℕ) (ps : List (ℕ × ℕ)) (r : List ℕ) → at ≤ length s → times n (read_pair wires) (drop at s) ≡ some (ps, r) → Inside wires (pair_wires (pairs_at s at n))
  unfolding pair_wires pairs_at table_at pair_at
  pairs_inside zero at ps r i h = tt
  pairs_inside (suc n) at ps r i h =
      let a_pair = read_pair wires in
      let g : (a_pair >>= λ x. times n a_pair >>= λ xs. give (x ∷ xs)) (drop at s) ≡ some (ps, r) = rw times_suc at h in
      let a = pass (λ x. times n a_pair >>= λ xs. give (x ∷ xs)) ps r (stands_pair s wires at) i g in
      let b = bound (times n a_pair) (λ xs. give (pair_at s at ∷ xs)) (drop (at + 4) s) ps r a.next in
      let p = pair_inside at (pair_at s at) _ i a.first in
      (p.0, (p.1, pairs_inside n (at + 4) b.value b.rest a.inside b.first))

  counted_inside : (at : ℕ) (ps : List (ℕ × ℕ)) (r : List ℕ) → at ≤ length s → many 2 65535 (read_pair wires) (drop at s) ≡ some (ps, r)
      → Inside wires (pair_wires (pairs_at s (at + 2) (be16 s at)))
  unfolding many
  counted_inside at ps r i h =
      let a = pass (λ n. times n (read_pair wires)) ps r (stands_below s 2 65536 at _ _ (stands_2 s at)) i h in
      pairs_inside (be16 s at) (at + 2) ps r a.inside a.next

-- ---- a net

pub record FlatRead (s : List ℕ) (at : ℕ) : Type 0 where
  pub pairs : net_pairs s at ≡ (flat_net_at s at).pairs
  pub inside : Inside (be32 s (at + 3)) (pair_wires (flat_net_at s at).pairs)
  pub counter : be32 s (at + 3) ≤ 65536

module _ (s : List ℕ) (at : ℕ) where
  -- where the pairs are all there
  pairs_stand : (n : ℕ) → n ≡ be16 s (pair_count_at s at) → pair_count_at s at + 2 + 4 * n ≤ length s → net_pairs s at ≡ (flat_net_at s at).pairs
  unfolding net_pairs pair_run flat_net_at
  pairs_stand n en h =
      let p : within s (pair_count_at s at) ≡ pair_count_at s at = omega arith in
      let q : on s (pair_count_at s at) 2 ≡ pair_count_at s at + 2 = omega arith in
      rw (p, q, ← en) (sym (lt_no _ _ _ _ (omega arith) refl))

  pub flat_read : (paths names : ℕ) (x : FlatNet) (r : List ℕ) → at ≤ length s → read_flat_net paths names (drop at s) ≡ some (x, r) → FlatRead s at
  unfolding read_flat_net flat_net_at pairs_at pair_count_at
  flat_read paths names x r i h =
      let e : at + 2 + 1 ≡ at + 3 = omega arith in
      let f : at + 3 + 4 ≡ at + 7 = omega arith in
      let w = be32 s (at + 3) in
      let m = list_end s (at + 7) in
      let a = pass _ x r (stands_below s 2 names at _ _ (stands_2 s at)) i h in
      let b = pass _ x r (stands_as (stands_bit s (at + 2)) refl e) a.inside a.next in
      let c = pass _ x r (stands_as (stands_below s 4 65537 _ _ _ (stands_4 s (at + 3))) refl f) b.inside b.next in
      let d = pass _ x r (stands_numbers s 14 w (at + 7)) c.inside c.next in
      let p = pass _ x r (stands_as (stands_many s 2 65535 (read_pair w) (pair_at s) (λ z. z + 4) m _ _ (stands_2 s m) (stands_pair s w)) refl (table_steps s 4 _ _)) d.inside d.next in
      let u = under 4 65537 w (drop (at + 3) s) _ c.first in
      record {
        pairs = pairs_stand (be16 s m) refl p.inside;
        inside = counted_inside s w m _ _ d.inside p.first;
        counter = omega arith;
      }
