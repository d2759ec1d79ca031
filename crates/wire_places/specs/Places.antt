-- The wires that occur in a net, marked in the second half of a table by wire; each way out of the code; and that the marks say
-- which wires occur (`occurs_exact`).
use Prim.Native.Nat.{ℕ, zero, suc, ◌+◌, ◌*◌, ◌-◌, ◌≤◌, ◌<◌}
use Rattle.std.specs.Prelude.{◌≡◌, refl, Bool, ◌||◌, List, [], ◌∷◌, ◌++◌, length, get_or, set, eqb}
use Rattle.std.proofs.Math.Path.{sym, ap}
use Rattle.std.proofs.Common.{◌∙◌, not-suc-le-zero, length-set, get_or-set_same, get_or-set_other, eq-eqb, ne_eqb}
use native.Mathlib.Omega.{arith}
use Rattle.std.proofs.Math.Decide.{ℕ_discrete}
use Rattle.net_file.specs.Lists.{any}
use Rattle.net_file.specs.Values.{FlatNode}
use Rattle.net_file.specs.Checks.{places}
use Rattle.fields.specs.Fields.{byte, be16}
use Rattle.stored.specs.Stored.{table_at, numbers_at, list_at, name_end, node_at, node_end, nodes_at, node_count_at, flat_net_at, flat_net_end}
use Rattle.ends.specs.Ends.{within, on, node_up, table_up}
use Rattle.readers.specs.Places.{be16_clamped}
use Rattle.readers_laws.specs.Tables.{list_clamped}
use Rattle.wire_marks.specs.Along.{along, along_next, along_none, along_inside}
use Rattle.wire_marks.specs.Canonical.{set_cases}

-- the table with these wires marked
unfoldable pub seen : ℕ → List ℕ → List ℕ → List ℕ
seen stamp [] ws = ws
seen stamp (w ∷ l) ws = seen stamp l (set ws (65536 + w) stamp)

-- a node's wires, principal first
unfoldable pub node_wires : FlatNode → List ℕ
node_wires m = m.pri ∷ m.aux

module _ (s : List ℕ) where
  -- those of k nodes from a place on
  unfoldable pub nodes_wires : ℕ → ℕ → List ℕ
  nodes_wires from k = along s (λ a. node_wires (node_at s a)) (node_end s) from k

  -- the free and node places of the net at a place
  unfoldable pub places_part : ℕ → List ℕ
  places_part from = let q = within s (node_count_at s from) in list_at s (from + 7) ++ nodes_wires (on s q 2) (be16 s q)

seen_append : (stamp : ℕ) (l m ws : List ℕ) → seen stamp (l ++ m) ws ≡ seen stamp m (seen stamp l ws)
unfolding seen
seen_append stamp [] m ws = refl
seen_append stamp (w ∷ l) m ws = seen_append stamp l m (set ws (65536 + w) stamp)

-- ---- lists

module _ (s : List ℕ) (from stamp : ℕ) where
  pub wires_more : (ws v x : List ℕ) (j k w : ℕ) → seen stamp (numbers_at s (from + (1 + 2 * j)) k) ws ≡ x → 0 < k → w ≡ be16 s (from + (1 + 2 * j))
      → v ≡ set ws (65536 + w) stamp → seen stamp (numbers_at s (from + (1 + 2 * (j + 1))) (k - 1)) v ≡ x
  unfolding seen numbers_at table_at
  wires_more ws v x j zero w e h ew ev = absurd (not-suc-le-zero h)
  wires_more ws v x j (suc k) w e h ew ev =
      let f : from + (1 + 2 * j) + 2 ≡ from + (1 + 2 * (j + 1)) = omega arith in
      let l : suc k - 1 ≡ k = omega arith in
      rw (l, ev, ew) (rw f at e)

  pub wires_done : (ws x : List ℕ) (j k : ℕ) → seen stamp (numbers_at s (from + (1 + 2 * j)) k) ws ≡ x → k ≤ 0 → ws ≡ x
  unfolding seen numbers_at table_at
  wires_done ws x j zero e h = e
  wires_done ws x j (suc k) e h = absurd (not-suc-le-zero h)

  pub list_seen : (ws v : List ℕ) (k : ℕ) → k ≡ byte s from → v ≡ seen stamp (numbers_at s (from + (1 + 2 * 0)) k) ws → v ≡ seen stamp (list_at s from) ws
  unfolding list_at
  list_seen ws v k e h = let f : from + (1 + 2 * 0) ≡ from + 1 = omega arith in h ∙ rw (e, f)

-- ---- nodes

pub node_seen : (s : List ℕ) (from stamp e w a : ℕ) (ws u v : List ℕ) → e ≡ within s (name_end s from) → w ≡ be16 s e → u ≡ set ws (65536 + w) stamp → a ≡ on s e 2
    → v ≡ seen stamp (list_at s a) u → v ≡ seen stamp (node_wires (node_at s from)) ws
unfolding seen node_wires node_at
node_seen s from stamp e w a ws u v ee ew eu ea ev =
    let b : a ≡ within s (name_end s from + 2) = omega arith in
    let c : w ≡ be16 s (name_end s from) = be16_clamped s (name_end s from) e w ee ew in
    ev ∙ rw (list_clamped s (name_end s from + 2) a b, eu, c)

module _ (s : List ℕ) (stamp place k : ℕ) (ws x : List ℕ) (e : seen stamp (nodes_wires s place k) ws ≡ x) where
  pub nodes_more : (v : List ℕ) (a : ℕ) → 0 < k → v ≡ seen stamp (node_wires (node_at s place)) ws → a ≡ within s (node_end s place) → seen stamp (nodes_wires s a (k - 1)) v ≡ x
  unfolding nodes_wires
  nodes_more v a h ev ea =
      let n = along_next s (λ a. node_wires (node_at s a)) (node_end s) place a k h ea in
      let f = sym (ap (λ l. seen stamp l ws) n ∙ seen_append stamp (node_wires (node_at s place)) _ ws) in
      rw ev (f ∙ e)

  pub nodes_done : k ≤ 0 → ws ≡ x
  unfolding nodes_wires seen
  nodes_done h = ap (λ l. seen stamp l ws) (sym (along_none s (λ a. node_wires (node_at s a)) (node_end s) place k h)) ∙ e

pub places_seen : (s : List ℕ) (from stamp f q a n : ℕ) (ws u v : List ℕ) → f ≡ on s from 7 → u ≡ seen stamp (list_at s f) ws → q ≡ within s (node_count_at s from)
    → a ≡ on s q 2 → n ≡ be16 s q → v ≡ seen stamp (nodes_wires s a n) u → v ≡ seen stamp (places_part s from) ws
unfolding places_part
places_seen s from stamp f q a n ws u v ef eu eq ea en ev =
    ev ∙ rw (eu, list_clamped s (from + 7) f ef, ea, en, eq) (sym (seen_append stamp (list_at s (from + 7)) _ ws))

-- inside a file they are the net's places
pub places_inside : (s : List ℕ) (from : ℕ) → flat_net_end s from ≤ length s → places_part s from ≡ places (flat_net_at s from)
unfolding places_part nodes_wires node_wires places flat_net_at flat_net_end nodes_at
places_inside s from h =
    let q = node_count_at s from in
    let u = table_up (node_end s) (node_up s) (q + 2) (be16 s q) in
    let e : within s q ≡ q = omega arith in
    let o : on s q 2 ≡ q + 2 = omega arith in
    rw (e, o) (ap (λ t. list_at s (from + 7) ++ t) (along_inside s (λ (m : FlatNode). m.pri ∷ m.aux) (node_at s) (node_end s) (node_up s) (q + 2) (be16 s q) h))

-- ---- what the marks say

pub length_seen : (stamp : ℕ) (l ws : List ℕ) → length (seen stamp l ws) ≡ length ws
unfolding seen
length_seen stamp [] ws = refl
length_seen stamp (w ∷ l) ws = length_seen stamp l (set ws (65536 + w) stamp) ∙ length-set ws (65536 + w) stamp

-- the first half stays
pub seen_first : (stamp : ℕ) (l ws : List ℕ) (i : ℕ) → i < 65536 → get_or (seen stamp l ws) i 0 ≡ get_or ws i 0
unfolding seen
seen_first stamp [] ws i h = refl
seen_first stamp (w ∷ l) ws i h = seen_first stamp l (set ws (65536 + w) stamp) i h ∙ get_or-set_other ws (65536 + w) i stamp 0 (λ z. omega arith)

-- what holds of every word and of the stamp holds after
pub seen_all : (P : ℕ → Type 0) (stamp : ℕ) (l ws : List ℕ) (i : ℕ) → P stamp → P (get_or ws i 0) → P (get_or (seen stamp l ws) i 0)
unfolding seen
seen_all P stamp [] ws i h g = g
seen_all P stamp (w ∷ l) ws i h g = seen_all P stamp l (set ws (65536 + w) stamp) i h (set_cases P ws (65536 + w) stamp i h g)

-- a wire without a mark of the stamp before
pub occurs_exact : (stamp a : ℕ) → a < 65536 → (l ws : List ℕ) → 131072 ≤ length ws → (get_or ws (65536 + a) 0 ≡ stamp → ⊥)
    → eqb (get_or (seen stamp l ws) (65536 + a) 0) stamp ≡ any (eqb a) l
unfolding seen
occurs_exact stamp a h [] ws n g = ne_eqb _ _ g
occurs_exact stamp a h (w ∷ l) ws n g = elim (ℕ_discrete a w) [
  | yes e ↦
      let i : get_or (set ws (65536 + w) stamp) (65536 + a) 0 ≡ stamp = rw e (get_or-set_same ws (65536 + w) stamp 0 (omega arith)) in
      let s = seen_all (λ v. v ≡ stamp) stamp l (set ws (65536 + w) stamp) (65536 + a) refl i in
      let t = eq-eqb a w e in
      eq-eqb _ _ s ∙ ap (λ (t : Bool). t || any (eqb a) l) (sym t)
  | no d ↦
      let i : get_or (set ws (65536 + w) stamp) (65536 + a) 0 ≡ get_or ws (65536 + a) 0 = get_or-set_other ws (65536 + w) (65536 + a) stamp 0 (λ z. d (omega arith)) in
      let t = ne_eqb a w d in
      occurs_exact stamp a h l (set ws (65536 + w) stamp) (rw length-set n) (λ z. g (rw i at z)) ∙ ap (λ (t : Bool). t || any (eqb a) l) (sym t)
]
