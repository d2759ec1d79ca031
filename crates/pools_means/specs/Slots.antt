-- Slots: "the slab reuses the last freed slot first, else takes the next new one".
use Prim.Native.Nat.{ℕ, zero, suc, ◌+◌, ◌*◌, ◌%◌, ◌<◌, ◌≤◌}
use Rattle.std.proofs.Math.Path.{◌≡◌, refl, ap, subst}
use Rattle.std.proofs.Common.{sym, ◌∙◌}
use Rattle.std.specs.Prelude.{◌≢◌}
use mathlib.Core.List.{List, [], ◌∷◌, ◌++◌, map, Memᴰ}
use Rattle.std.proofs.Math.ListN.{length, get_or, set, drop, length-set}
use Rattle.std.proofs.Math.Seq.{get_or-set_same, get_or-set_other}
use native.Mathlib.Omega.{arith}
use Rattle.words.specs.Choose.{if_eq, if_lt, eq_yes, eq_no, lt_yes, lt_no}
use Rattle.words.specs.Left.{Left}
use Rattle.layout.specs.Layout.{next, less, node_word, node_at, set_node_word}
use Rattle.pools.specs.Pools.{take_fresh, take, take_slot, give_slot}
use Rattle.net_file.specs.Values.{Name}
use Rattle.definitions.specs.Lists.{from}
use Rattle.definitions.specs.State.{Engine}
use Rattle.chains.specs.Seg.{Seg, All, seg_same}
use Rattle.means.specs.Means.{Header, Vacant, Means}
use Rattle.means.specs.Frame.{Rest, rest_set, rest_trans, OutVacant, seg_keep, with_chain, means_vacant}

module _ (Named : ℕ → Name → Type 0) (ws : List ℕ) (e : Engine) (m : Means Named ws e) where
  -- a slot never taken
  taken_new : (n : ℕ) (rest : List ℕ) (k : ℕ) → n ∷ rest ≡ from (get_or ws 9 0) (suc k) → get_or ws 9 0 + suc k ≡ e.pools.nodes → get_or ws 8 0 ≡ 0
      → ((take_slot ws).is ≡ n + 1) × Means Named (take_slot ws).ws (with_chain rest e)
  unfolding take_slot take take_fresh
  taken_new n rest k c a z =
      let h = m.header.nodes in
      let long = m.header.long in
      let few = m.header.few_nodes in
      let u = get_or ws 9 0 in
      let w = set ws 9 (next u) in
      let en : n ≡ u = ap (λ (l : List ℕ). get_or l 0 0) c in
      let er : rest ≡ from (suc u) k = ap (λ (l : List ℕ). drop 1 l) c in
      let is9 : get_or w 9 0 ≡ suc u = get_or-set_same ws 9 (next u) 0 (omega arith) ∙ (let x : u < 4096 = omega arith in omega arith) in
      let taken : ◌≡◌ {A = Left ℕ} (record { is = next u; ws = w }) (take_slot ws) = eq_yes _ _ _ _ z (lt_yes _ _ _ _ (omega arith) refl) in
      let new : Means Named w (with_chain rest e) = means_vacant Named ws w e m rest (rest_set (OutVacant e.pools.nodes) ws 9 (next u) (λ i o d. o.0 (omega arith)))
      (record {
        freed = [];
        never = k;
        is = rw is9 er;
        all = rw is9 (omega arith);
        seg = get_or-set_other ws 9 8 (next u) 0 (omega arith) ∙ z;
        inside = tt;
      }) in
      subst (λ (l : Left ℕ). (l.is ≡ n + 1) × Means Named l.ws (with_chain rest e)) taken ((let x : u < 4096 = omega arith in omega arith), new)

  -- a freed slot
  taken_old : (n : ℕ) (rest fs : List ℕ) (f k : ℕ) → n ∷ rest ≡ f ∷ fs ++ from (get_or ws 9 0) k → get_or ws 9 0 + k ≡ e.pools.nodes
      → Seg (λ c. node_word ws (less c) 4) (get_or ws 8 0) (map (λ i. i + 1) (f ∷ fs)) 0 → All (λ i. i < e.pools.nodes) (f ∷ fs)
      → ((take_slot ws).is ≡ n + 1) × Means Named (take_slot ws).ws (with_chain rest e)
  unfolding take_slot take
  taken_old n rest fs f k c a s i =
      let long = m.header.long in
      let few = m.header.few_nodes in
      let v = node_word ws (less (get_or ws 8 0)) 4 in
      let w = set ws 8 v in
      let eh : get_or ws 8 0 ≡ f + 1 = s.0 in
      let en : n ≡ f = ap (λ (l : List ℕ). get_or l 0 0) c in
      let er : rest ≡ fs ++ from (get_or ws 9 0) k = ap (λ (l : List ℕ). drop 1 l) c in
      let is9 : get_or w 9 0 ≡ get_or ws 9 0 = get_or-set_other ws 8 9 v 0 (omega arith) in
      let is8 : get_or w 8 0 ≡ v = get_or-set_same ws 8 v 0 (omega arith) in
      let after : Seg (λ c. node_word ws (less c) 4) v (map (λ i. i + 1) fs) 0 = rw eh s.1 in
      let taken : ◌≡◌ {A = Left ℕ} (record { is = get_or ws 8 0; ws = w }) (take_slot ws) = eq_no _ _ _ _ (omega arith) refl in
      let new : Means Named w (with_chain rest e) = means_vacant Named ws w e m rest (rest_set (OutVacant e.pools.nodes) ws 8 v (λ j o d. o.0 (omega arith)))
      (record {
        freed = fs;
        never = k;
        is = rw is9 er;
        all = rw is9 a;
        seg = rw is8 (seg_keep ws w few (λ j o. get_or-set_other ws 8 j v 0 (omega arith)) v 0 fs i.1 after);
        inside = i.1;
      }) in
      subst (λ (l : Left ℕ). (l.is ≡ n + 1) × Means Named l.ws (with_chain rest e)) taken (eh ∙ ap (λ (j : ℕ). j + 1) (sym en), new)

  -- the first vacant slot is taken; its number and one more is the answer
  pub take_slot_means : (n : ℕ) (rest : List ℕ) → e.slots.chain ≡ n ∷ rest → ((take_slot ws).is ≡ n + 1) × Means Named (take_slot ws).ws (with_chain rest e)
  take_slot_means n rest c = let v = m.vacant in go v.freed v.never (sym c ∙ v.is) v.all v.seg v.inside
    where
      go : (fs : List ℕ) (k : ℕ) → n ∷ rest ≡ fs ++ from (get_or ws 9 0) k → get_or ws 9 0 + k ≡ e.pools.nodes
          → Seg (λ c. node_word ws (less c) 4) (get_or ws 8 0) (map (λ i. i + 1) fs) 0 → All (λ i. i < e.pools.nodes) fs
          → ((take_slot ws).is ≡ n + 1) × Means Named (take_slot ws).ws (with_chain rest e)
      go [] zero d a s i = absurd (let z : 0 ≡ suc (length rest) = ap (λ (l : List ℕ). length l) (sym d) in omega arith)
      go [] (suc k) d a s i = taken_new n rest k d a s
      go (f ∷ fs) k d a s i = taken_old n rest fs f k d a s i

  -- where there is none the answer is 0, and nothing is changed
  pub take_slot_none : e.slots.chain ≡ [] → ((take_slot ws).is ≡ 0) × ((take_slot ws).ws ≡ ws)
  unfolding take_slot take take_fresh
  take_slot_none c = let v = m.vacant in go v.freed v.never (sym c ∙ v.is) v.all v.seg
    where
      go : (fs : List ℕ) (k : ℕ) → [] ≡ fs ++ from (get_or ws 9 0) k → get_or ws 9 0 + k ≡ e.pools.nodes
          → Seg (λ c. node_word ws (less c) 4) (get_or ws 8 0) (map (λ i. i + 1) fs) 0 → ((take_slot ws).is ≡ 0) × ((take_slot ws).ws ≡ ws)
      go [] zero d a s =
          let h = m.header.nodes in
          let none : ◌≡◌ {A = Left ℕ} (record { is = 0; ws = ws }) (take_slot ws) = eq_yes _ _ _ _ s (lt_no _ _ _ _ (omega arith) refl) in
          (ap (λ (l : Left ℕ). l.is) (sym none), ap (λ (l : Left ℕ). l.ws) (sym none))
      go [] (suc k) d a s = absurd (let z : suc (length (from (suc (get_or ws 9 0)) k)) ≡ 0 = ap (λ (l : List ℕ). length l) (sym d) in omega arith)
      go (f ∷ fs) k d a s = absurd (let z : suc (length (fs ++ from (get_or ws 9 0) k)) ≡ 0 = ap (λ (l : List ℕ). length l) (sym d) in omega arith)

-- a number that is not in a list is none of its first part
pub not_in : (n : ℕ) (l r : List ℕ) → (Memᴰ n (l ++ r) → ⊥) → All (λ c. c ≢ n) l
not_in n [] r h = tt
not_in n (c ∷ l) r h = (λ q. h (Memᴰ.head (sym q)), not_in n l r (λ i. h (Memᴰ.tail i)))

module _ (Named : ℕ → Name → Type 0) (ws : List ℕ) (e : Engine) (m : Means Named ws e) where
  -- slot n is vacant, the first to be taken
  pub give_slot_means : (n : ℕ) → n < e.pools.nodes → (Memᴰ n e.slots.chain → ⊥) → Means Named (give_slot ws n) (with_chain (n ∷ e.slots.chain) e)
  unfolding give_slot
  give_slot_means n h not =
      let v = m.vacant in
      let long = m.header.long in
      let few = m.header.few_nodes in
      let w1 = set_node_word ws n 4 (get_or ws 8 0) in
      let w = set w1 8 (next n) in
      let l1 : length w1 ≡ length ws = length-set ws (node_at n 4) (get_or ws 8 0) in
      let is9 : get_or w 9 0 ≡ get_or ws 9 0 = get_or-set_other w1 8 9 (next n) 0 (omega arith) ∙ get_or-set_other ws (node_at n 4) 9 (get_or ws 8 0) 0 (omega arith) in
      let is8 : get_or w 8 0 ≡ n + 1 = get_or-set_same w1 8 (next n) 0 (omega arith) ∙ (omega arith) in
      let en : less (n + 1) ≡ n = omega arith in
      let after : node_word w n 4 ≡ get_or ws 8 0 = get_or-set_other w1 8 (node_at n 4) (next n) 0 (omega arith) ∙ get_or-set_same ws (node_at n 4) (get_or ws 8 0) 0 (omega arith) in
      means_vacant Named ws w e m (n ∷ e.slots.chain)
      (rest_trans (rest_set (OutVacant e.pools.nodes) ws (node_at n 4) (get_or ws 8 0) (λ i o d. o.1 (omega arith)))
      (rest_set (OutVacant e.pools.nodes) w1 8 (next n) (λ i o d. o.0 (omega arith))))
      (record {
        freed = n ∷ v.freed;
        never = v.never;
        is = rw is9 (ap (λ (l : List ℕ). n ∷ l) v.is);
        all = rw is9 v.all;
        seg = (is8, rw (en, after) (go v.freed (get_or ws 8 0) v.inside (not_in n v.freed _ (rw v.is at not)) v.seg));
        inside = (h, v.inside);
      })
    where
      go : (l : List ℕ) (g : ℕ) → All (λ i. i < e.pools.nodes) l → All (λ c. c ≢ n) l → Seg (λ c. node_word ws (less c) 4) g (map (λ i. i + 1) l) 0
          → Seg (λ c. node_word (set (set_node_word ws n 4 (get_or ws 8 0)) 8 (next n)) (less c) 4) g (map (λ i. i + 1) l) 0
      go [] g a b s = s
      go (c ∷ l) g a b s =
          let few = m.header.few_nodes in
          let i = a.0 in
          let d : c ≢ n = b.0 in
          let ec : less (c + 1) ≡ c = omega arith in
          let apart : node_at c 4 ≢ node_at n 4 = omega arith in
          let same : node_word (set (set_node_word ws n 4 (get_or ws 8 0)) 8 (next n)) (less (c + 1)) 4 ≡ node_word ws (less (c + 1)) 4
          = get_or-set_other (set_node_word ws n 4 (get_or ws 8 0)) 8 (node_at (less (c + 1)) 4) (next n) 0 (omega arith)
          ∙ get_or-set_other ws (node_at n 4) (node_at (less (c + 1)) 4) (get_or ws 8 0) 0 (rw ec apart) in
          (s.0, rw same (go l (node_word ws (less (c + 1)) 4) a.1 b.1 s.1))
