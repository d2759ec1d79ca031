-- The pairs of a flat net with its links resolved, and the whole net, by what stands at each place of the file and in the table by
-- wire; each way out of the writers; and that inside a file it is `write_flat_net` (`net_inside_lem`).
use Prim.Native.Nat.{ℕ, zero, suc, ◌+◌, ◌*◌, ◌-◌, ◌≤◌, ◌<◌}
use Rattle.std.specs.Prelude.{◌≡◌, refl, Bool, List, [], ◌∷◌, ◌++◌, get_or, eqb}
use Rattle.std.proofs.Math.Path.{sym, ap}
use Rattle.std.proofs.Common.{◌∙◌, append_assoc, append-nil, not-suc-le-zero}
use Rattle.std.proofs.Math.Bool.{true, false}
use native.Mathlib.Omega.{arith}
use Rattle.std.proofs.Math.ListN.{length}
use Rattle.net_file.specs.Lists.{concat_map}
use Rattle.net_file.specs.Write.{be, counted, write_pair, write_head, write_flat_net}
use Rattle.fields.specs.Fields.{byte, be16, be32}
use Rattle.stored.specs.Stored.{table_at, table_end, list_at, pair_at, pairs_at, node_end, pair_count_at, node_count_at, flat_net_at, flat_net_end}
use Rattle.stored.specs.Laws.{table_steps}
use Rattle.ends.specs.Ends.{within, on, node_up, table_up}
use Rattle.readers_laws.specs.Tables.{list_clamped}
use Rattle.wire_marks.specs.Marks.{canon}
use Rattle.wire_marks.specs.Along.{along, along_next, along_none, along_inside}
use Rattle.text_writers.specs.Wrote.{far, Wrote, then, nothing, wrote_as, Still, still_on, still_none}
use Rattle.flat_writers.specs.Flat.{unused_by, resolved_by, wire_bytes, counted_wires, nodes_part, nodes_inside}

module _ (ws : List ℕ) (stamp : ℕ) where
  -- whether a wire occurs
  abbrev pub used : ℕ → Bool
  used a = eqb (get_or ws (65536 + a) 0) stamp

  -- 1 for a wire that occurs nowhere, else 0
  unfoldable pub kept_bit : ℕ → ℕ
  kept_bit a = elim (used a) [ true ↦ 0 | false ↦ 1 ]

  module _ (s : List ℕ) where
    -- the pair at a place, if it stays
    unfoldable pub pair_bytes : ℕ → List ℕ
    pair_bytes from = concat_map write_pair (unused_by used (pair_at s from ∷ []))

    -- k pairs from a place on
    unfoldable pub pairs_from : ℕ → ℕ → List ℕ
    pairs_from from k = along s pair_bytes (λ a. a + 4) from k

    -- the pairs after their count: how many stay, and those
    unfoldable pub pairs_part : ℕ → List ℕ
    pairs_part from = be 2 (length (unused_by used (pairs_at s (from + (2 + 4 * 0)) (be16 s from)))) ++ pairs_from (on s from 2) (be16 s from)

    -- the net at a place
    unfoldable pub net_part : ℕ → List ℕ
    net_part from =
        write_head (be16 s from) (eqb (byte s (from + 2)) 1) (be32 s (from + 3))
        ++ (counted 1 (wire_bytes ws stamp) (list_at s (from + 7)) ++ (pairs_part (within s (pair_count_at s from)) ++ nodes_part ws stamp s (within s (node_count_at s from))))

-- ---- how many stay

module _ (ws : List ℕ) (stamp a : ℕ) (b : Bool) (e : b ≡ eqb (get_or ws (65536 + a) 0) stamp) where
  pub bit_used : b ≡ true → 0 ≡ kept_bit ws stamp a
  unfolding kept_bit
  bit_used h = ap (λ (t : Bool). elim t as (λ u. ℕ) [ true ↦ 0 | false ↦ 1 ]) (sym h ∙ e)

  pub bit_kept : b ≡ false → 1 ≡ kept_bit ws stamp a
  unfolding kept_bit
  bit_kept h = ap (λ (t : Bool). elim t as (λ u. ℕ) [ true ↦ 0 | false ↦ 1 ]) (sym h ∙ e)

bit_by : (ws : List ℕ) (stamp a : ℕ) → kept_bit ws stamp a ≤ 1
unfolding kept_bit
bit_by ws stamp a = go (eqb (get_or ws (65536 + a) 0) stamp)
  where
    go : (t : Bool) → elim t as (λ u. ℕ) [ true ↦ 0 | false ↦ 1 ] ≤ 1
    go true = omega arith
    go false = omega arith

pub bit_small : (ws : List ℕ) (stamp a b : ℕ) → b ≡ kept_bit ws stamp a → b ≤ 1
bit_small ws stamp a b e = omega (arith, bit_by ws stamp a)

unused_by_lem : (t : Bool) (p : ℕ × ℕ) (ps : List (ℕ × ℕ))
    → length {A = ℕ × ℕ} (elim t as (λ u. List (ℕ × ℕ)) [ true ↦ ps | false ↦ p ∷ ps ]) ≡ elim t as (λ u. ℕ) [ true ↦ 0 | false ↦ 1 ] + length ps
unused_by_lem true p ps = omega arith
unused_by_lem false p ps = omega arith

unused_length : (ws : List ℕ) (stamp : ℕ) (p : ℕ × ℕ) (ps : List (ℕ × ℕ))
    → length (unused_by (used ws stamp) (p ∷ ps)) ≡ kept_bit ws stamp p.0 + length (unused_by (used ws stamp) ps)
unfolding unused_by kept_bit
unused_length ws stamp p ps = unused_by_lem (eqb (get_or ws (65536 + p.0) 0) stamp) p (unused_by (used ws stamp) ps)

pairs_open : (ws : List ℕ) (stamp : ℕ) (s : List ℕ) (at k : ℕ)
    → length (unused_by (used ws stamp) (pairs_at s at (suc k))) ≡ kept_bit ws stamp (be16 s at) + length (unused_by (used ws stamp) (pairs_at s (at + 4) k))
unfolding pairs_at table_at pair_at
pairs_open ws stamp s at k = unused_length ws stamp (be16 s at, be16 s (at + 2)) (pairs_at s (at + 4) k)

module _ (ws : List ℕ) (stamp : ℕ) (s : List ℕ) (at : ℕ) where
  pub count_more : (c j k x a b : ℕ) → c + length (unused_by (used ws stamp) (pairs_at s (at + (2 + 4 * j)) k)) ≡ x → 0 < k → a ≡ be16 s (at + (2 + 4 * j))
      → b ≡ kept_bit ws stamp a → c + b + length (unused_by (used ws stamp) (pairs_at s (at + (2 + 4 * (j + 1))) (k - 1))) ≡ x
  count_more c j zero x a b e h ea eb = absurd (not-suc-le-zero h)
  count_more c j (suc k) x a b e h ea eb =
      let f : at + (2 + 4 * j) + 4 ≡ at + (2 + 4 * (j + 1)) = omega arith in
      let l : suc k - 1 ≡ k = omega arith in
      let n = pairs_open ws stamp s (at + (2 + 4 * j)) k in
      let g : kept_bit ws stamp (be16 s (at + (2 + 4 * j))) ≡ b = ap (kept_bit ws stamp) (sym ea) ∙ sym eb in
      rw (l, ← f) (omega arith)

  pub count_done : (c j k x : ℕ) → c + length (unused_by (used ws stamp) (pairs_at s (at + (2 + 4 * j)) k)) ≡ x → k ≤ 0 → c ≡ x
  unfolding unused_by pairs_at table_at
  count_done c j zero x e h = omega arith
  count_done c j (suc k) x e h = absurd (not-suc-le-zero h)

-- ---- the pairs

unused_one : (used : ℕ → Bool) (p : ℕ × ℕ) (t : Bool) → used p.0 ≡ t → unused_by used (p ∷ []) ≡ elim t as (λ u. List (ℕ × ℕ)) [ true ↦ [] | false ↦ p ∷ [] ]
unfolding unused_by
unused_one used p t e = ap (λ (t : Bool). elim t as (λ u. List (ℕ × ℕ)) [ true ↦ [] | false ↦ p ∷ [] ]) e

module _ (ws : List ℕ) (stamp : ℕ) (s : List ℕ) (from at a : ℕ) (out : List ℕ) (b : Bool) (ea : a ≡ be16 s from) (eb : b ≡ eqb (get_or ws (65536 + a) 0) stamp) where
  pub pair_used : b ≡ true → at ≤ far → length out ≤ far → Wrote (pair_bytes ws stamp s from) at out out at
  unfolding pair_bytes pair_at
  pair_used h l m =
      let e : used ws stamp (be16 s from) ≡ true = ap (used ws stamp) (sym ea) ∙ sym eb ∙ h in
      wrote_as (ap (concat_map write_pair) (sym (unused_one (used ws stamp) (be16 s from, be16 s (from + 2)) true e))) (nothing l m)

  pub pair_kept : (m w : List ℕ) (p r c : ℕ) → b ≡ false → Wrote (be 2 a) at out m p → c ≡ be16 s (from + 2) → Wrote (be 2 c) p m w r
      → Wrote (pair_bytes ws stamp s from) at out w r
  unfolding pair_bytes write_pair pair_at
  pair_kept m w p r c h t ec u =
      let e : used ws stamp (be16 s from) ≡ false = ap (used ws stamp) (sym ea) ∙ sym eb ∙ h in
      wrote_as (sym (append-nil _) ∙ ap (concat_map write_pair) (sym (unused_one (used ws stamp) (be16 s from, be16 s (from + 2)) false e))) (then (rw ea at t) (rw ec at u))

module _ (ws : List ℕ) (stamp : ℕ) (s : List ℕ) (from at p k : ℕ) (out w whole : List ℕ) where
  pub pairs_more : (z : List ℕ) (q a : ℕ) → Still (pairs_from ws stamp s from k) whole at out w p → 0 < k → Wrote (pair_bytes ws stamp s from) p w z q → a ≡ on s from 4
      → Still (pairs_from ws stamp s a (k - 1)) whole at out z q
  unfolding pairs_from
  pairs_more z q a st h t e = still_on st (along_next s (pair_bytes ws stamp s) (λ a. a + 4) from a k h e) t

  pub pairs_done : Still (pairs_from ws stamp s from k) whole at out w p → k ≤ 0 → Wrote whole at out w p
  unfolding pairs_from
  pairs_done st h = still_none st (along_none s (pair_bytes ws stamp s) (λ a. a + 4) from k h)

pub counted_pairs : (ws : List ℕ) (stamp : ℕ) (s : List ℕ) (from at n c a p r : ℕ) (out m w : List ℕ) → n ≡ be16 s from
    → c ≡ length (unused_by (used ws stamp) (pairs_at s (from + (2 + 4 * 0)) n)) → Wrote (be 2 c) at out m p → a ≡ on s from 2
    → Wrote (pairs_from ws stamp s a n) p m w r → Wrote (pairs_part ws stamp s from) at out w r
unfolding pairs_part
counted_pairs ws stamp s from at n c a p r out m w en ec t ea u = then (rw (ec, en) at t) (rw (ea, en) at u)

-- ---- the net

pub net_is : (ws : List ℕ) (stamp : ℕ) (s : List ℕ) (from at f d c p q t r : ℕ) (out m o x w : List ℕ)
    → Wrote (write_head (be16 s from) (eqb (byte s (from + 2)) 1) (be32 s (from + 3))) at out m p → f ≡ on s from 7
    → Wrote (counted 1 (wire_bytes ws stamp) (list_at s f)) p m o q → d ≡ within s (pair_count_at s from) → Wrote (pairs_part ws stamp s d) q o x t
    → c ≡ within s (node_count_at s from) → Wrote (nodes_part ws stamp s c) t x w r → Wrote (net_part ws stamp s from) at out w r
unfolding net_part
net_is ws stamp s from at f d c p q t r out m o x w y ef u ed g ec v =
    then y (then (wrote_as (ap (counted 1 (wire_bytes ws stamp)) (list_clamped s (from + 7) f ef)) u) (then (rw ed at g) (rw ec at v)))

-- inside a file

unused_all : (used : ℕ → Bool) (ps : List (ℕ × ℕ)) → concat_map (λ p. concat_map write_pair (unused_by used (p ∷ []))) ps ≡ concat_map write_pair (unused_by used ps)
unfolding unused_by
unused_all used [] = refl
unused_all used (p ∷ ps) = go (used p.0) (unused_all used ps)
  where
    go : (t : Bool) → concat_map (λ p. concat_map write_pair (unused_by used (p ∷ []))) ps ≡ concat_map write_pair (unused_by used ps)
        → concat_map write_pair (elim t as (λ u. List (ℕ × ℕ)) [ true ↦ [] | false ↦ p ∷ [] ]) ++ concat_map (λ p. concat_map write_pair (unused_by used (p ∷ []))) ps
        ≡ concat_map write_pair (elim t as (λ u. List (ℕ × ℕ)) [ true ↦ unused_by used ps | false ↦ p ∷ unused_by used ps ])
    go true e = e
    go false e = rw append-nil (ap (λ t. write_pair p ++ t) e)

module _ (ws : List ℕ) (stamp : ℕ) (s : List ℕ) where
  pairs_inside : (q : ℕ) → q + 2 + 4 * be16 s q ≤ length s → pairs_part ws stamp s q ≡ counted 2 write_pair (unused_by (used ws stamp) (pairs_at s (q + 2) (be16 s q)))
  unfolding pairs_part pairs_from pair_bytes counted pairs_at
  pairs_inside q h =
      let n = be16 s q in
      let e : on s q 2 ≡ q + 2 = omega arith in
      let f : q + (2 + 4 * 0) ≡ q + 2 = omega arith in
      let i : table_end (λ a. a + 4) (q + 2) n ≤ length s = omega (arith, table_steps s 4 (q + 2) n) in
      let a = along_inside s (λ p. concat_map write_pair (unused_by (used ws stamp) (p ∷ []))) (pair_at s) (λ a. a + 4) (λ a. omega arith) (q + 2) n i
      ∙ unused_all (used ws stamp) (table_at (pair_at s) (λ a. a + 4) (q + 2) n) in
      (λ i. be 2 (length (unused_by (used ws stamp) (table_at (pair_at s) (λ a. a + 4) (f i) n))) ++ along s (λ a. concat_map write_pair (unused_by (used ws stamp) (pair_at s a ∷ []))) (λ a. a + 4) (e i) n)
      ∙ ap (λ t. be 2 (length (unused_by (used ws stamp) (table_at (pair_at s) (λ a. a + 4) (q + 2) n))) ++ t) a

  pub net_inside_lem : (from : ℕ) → flat_net_end s from ≤ length s → net_part ws stamp s from ≡ write_flat_net (resolved_by (canon ws stamp) (used ws stamp) (flat_net_at s from))
  unfolding net_part write_flat_net resolved_by flat_net_at flat_net_end node_count_at
  net_inside_lem from h =
      let p = pair_count_at s from in
      let q = p + 2 + 4 * be16 s p in
      let u = table_up (node_end s) (node_up s) (q + 2) (be16 s q) in
      let e : within s q ≡ q = omega arith in
      let f : within s p ≡ p = omega arith in
      let a = counted_wires ws stamp (list_at s (from + 7)) in
      let b = ap (pairs_part ws stamp s) f ∙ pairs_inside p (omega arith) in
      let c = ap (nodes_part ws stamp s) e ∙ nodes_inside ws stamp s q h in
      rw (a, b, c) (simp append_assoc)
