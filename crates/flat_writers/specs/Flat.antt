-- The free wires and the nodes of a flat net with its links resolved, by what stands at each place of the file and in the table by
-- wire; each way out of the writers.
use Prim.Native.Nat.{ℕ, zero, suc, ◌+◌, ◌*◌, ◌-◌, ◌≤◌, ◌<◌}
use Rattle.std.specs.Prelude.{◌≡◌, Bool, true, false, List, [], ◌∷◌, ◌++◌, map, length, eqb}
use Rattle.std.proofs.Math.Path.{refl}
use Rattle.std.proofs.Common.{sym, ap, ◌∙◌, not-suc-le-zero}
use native.Mathlib.Omega.{arith}
use Rattle.std.proofs.lemmas.List.{length-map}
use Rattle.net_file.specs.Lists.{concat_map, any}
use Rattle.net_file.specs.Values.{FlatNode, FlatNet}
use Rattle.net_file.specs.Checks.{places}
use Rattle.net_file.specs.Write.{be, counted, write_name, write_node}
use Rattle.conversions.specs.Links.{canonical, links_of}
use Rattle.conversions.specs.Convert.{unused, resolve_flat}
use Rattle.fields.specs.Fields.{byte, be16}
use Rattle.stored.specs.Stored.{table_at, table_end, numbers_at, list_at, name_at, name_end, node_at, node_end, nodes_at}
use Rattle.stored.specs.Laws.{table_length}
use Rattle.ends.specs.Ends.{within, on, node_up, table_up}
use Rattle.readers.specs.Places.{be16_clamped}
use Rattle.readers_laws.specs.Tables.{list_length, list_clamped}
use Rattle.wire_marks.specs.Marks.{canon}
use Rattle.wire_marks.specs.Along.{along, along_next, along_none, along_inside}
use Rattle.text_writers.specs.Wrote.{Wrote, then, wrote_as, Still, still_on, still_none}

-- ---- nets with their links resolved, where c says which wires are one wire and `used` which occur

unfoldable pub renamed : (ℕ → ℕ) → FlatNode → FlatNode
renamed c m = record { name = m.name; pri = c m.pri; aux = map c m.aux }

-- the pairs that occur nowhere
unfoldable pub unused_by : (ℕ → Bool) → List (ℕ × ℕ) → List (ℕ × ℕ)
unused_by used [] = []
unused_by used (p ∷ ps) = elim (used p.0) [ true ↦ unused_by used ps | false ↦ p ∷ unused_by used ps ]

unfoldable pub resolved_by : (ℕ → ℕ) → (ℕ → Bool) → FlatNet → FlatNet
resolved_by c used n =
    record { name = n.name; included = n.included; wires = n.wires; free = map c n.free; pairs = unused_by used n.pairs; nodes = map (renamed c) n.nodes }

unused_by_lem : (ws : List ℕ) (ps : List (ℕ × ℕ)) → unused_by (λ a. any (eqb a) ws) ps ≡ unused ws ps
unfolding unused_by unused
unused_by_lem ws [] = refl
unused_by_lem ws (p ∷ ps) = ap (λ t. elim (any (eqb p.0) ws) as (λ u. List (ℕ × ℕ)) [ true ↦ t | false ↦ p ∷ t ]) (unused_by_lem ws ps)

-- that is the flat `resolve_links`
pub resolved_by_lem : (n : FlatNet) → resolved_by (canonical (links_of n.pairs)) (λ a. any (eqb a) (places n)) n ≡ resolve_flat n
unfolding resolved_by renamed resolve_flat
resolved_by_lem n =
    ap (λ ps. let k : FlatNet = record { name = n.name; included = n.included; wires = n.wires; free = map (canonical (links_of n.pairs)) n.free; pairs = ps; nodes = map (renamed (canonical (links_of n.pairs))) n.nodes } in k)
    (unused_by_lem (places n) n.pairs)

-- ---- what is written

module _ (ws : List ℕ) (stamp : ℕ) where
  unfoldable pub wire_bytes : ℕ → List ℕ
  wire_bytes w = be 2 (canon ws stamp w)

  module _ (s : List ℕ) where
    -- k wires of a list, from the j-th on
    unfoldable pub wires_from : ℕ → ℕ → ℕ → List ℕ
    wires_from from j k = concat_map wire_bytes (numbers_at s (from + (1 + 2 * j)) k)

    -- k nodes from a place on
    unfoldable pub nodes_from : ℕ → ℕ → List ℕ
    nodes_from from k = along s (λ a. write_node (renamed (canon ws stamp) (node_at s a))) (node_end s) from k

    -- the nodes after their count
    unfoldable pub nodes_part : ℕ → List ℕ
    nodes_part from = be 2 (be16 s from) ++ nodes_from (on s from 2) (be16 s from)

-- ---- wires

pub wire_is : (ws : List ℕ) (stamp at r x y : ℕ) (out w : List ℕ) → y ≡ canon ws stamp x → Wrote (be 2 y) at out w r → Wrote (wire_bytes ws stamp x) at out w r
unfolding wire_bytes
wire_is ws stamp at r x y out w e t = rw e at t

module _ (ws : List ℕ) (stamp : ℕ) (s : List ℕ) (from : ℕ) where
  wires_next : (j k : ℕ) → 0 < k → wires_from ws stamp s from j k ≡ wire_bytes ws stamp (be16 s (from + (1 + 2 * j))) ++ wires_from ws stamp s from (j + 1) (k - 1)
  unfolding wires_from numbers_at table_at
  wires_next j zero h = absurd (not-suc-le-zero h)
  wires_next j (suc k) h =
      let e : from + (1 + 2 * j) + 2 ≡ from + (1 + 2 * (j + 1)) = omega arith in
      let f : suc k - 1 ≡ k = omega arith in
      rw (e, f)

  wires_none : (j k : ℕ) → k ≤ 0 → wires_from ws stamp s from j k ≡ []
  unfolding wires_from numbers_at table_at
  wires_none j zero h = refl
  wires_none j (suc k) h = absurd (not-suc-le-zero h)

  module _ (at p j k : ℕ) (out w whole : List ℕ) where
    pub wires_more : (z : List ℕ) (q v : ℕ) → Still (wires_from ws stamp s from j k) whole at out w p → 0 < k → v ≡ be16 s (from + (1 + 2 * j))
        → Wrote (wire_bytes ws stamp v) p w z q → Still (wires_from ws stamp s from (j + 1) (k - 1)) whole at out z q
    wires_more z q v st h e t = still_on st (wires_next j k h) (rw e at t)

    pub wires_done : Still (wires_from ws stamp s from j k) whole at out w p → k ≤ 0 → Wrote whole at out w p
    wires_done st h = still_none st (wires_none j k h)

  -- the count, and all of them
  list_whole : be 1 (byte s from) ++ wires_from ws stamp s from 0 (byte s from) ≡ counted 1 (wire_bytes ws stamp) (list_at s from)
  unfolding wires_from counted list_at
  list_whole =
      let e : from + (1 + 2 * 0) ≡ from + 1 = omega arith in
      let l = list_length s from in
      λ i. be 1 (sym l i) ++ concat_map (wire_bytes ws stamp) (numbers_at s (e i) (byte s from))

  pub list_is : (at p k r : ℕ) (out m w : List ℕ) → k ≡ byte s from → Wrote (be 1 k) at out m p → Wrote (wires_from ws stamp s from 0 k) p m w r
      → Wrote (counted 1 (wire_bytes ws stamp) (list_at s from)) at out w r
  list_is at p k r out m w e t u = wrote_as list_whole (then (rw e at t) (rw e at u))

-- ---- nodes

concat_map_lem : {A B : Type 0} (f : B → List ℕ) (g : A → B) (l : List A) → concat_map (λ x. f (g x)) l ≡ concat_map f (map g l)
concat_map_lem f g [] = refl
concat_map_lem f g (x ∷ l) = ap (λ t. f (g x) ++ t) (concat_map_lem f g l)

-- a list of wires
pub counted_wires : (ws : List ℕ) (stamp : ℕ) (l : List ℕ) → counted 1 (wire_bytes ws stamp) l ≡ counted 1 (be 2) (map (canon ws stamp) l)
unfolding counted wire_bytes
counted_wires ws stamp l =
    let n = length-map l (canon ws stamp) in
    let c = concat_map_lem (be 2) (canon ws stamp) l in
    λ i. be 1 (sym n i) ++ c i

pub node_is : (ws : List ℕ) (stamp : ℕ) (s : List ℕ) (from at e v a p q r : ℕ) (out m o w : List ℕ) → Wrote (write_name (name_at s from)) at out m p
    → e ≡ within s (name_end s from) → v ≡ be16 s e → Wrote (wire_bytes ws stamp v) p m o q → a ≡ on s e 2
    → Wrote (counted 1 (wire_bytes ws stamp) (list_at s a)) q o w r → Wrote (write_node (renamed (canon ws stamp) (node_at s from))) at out w r
unfolding node_at renamed write_node wire_bytes
node_is ws stamp s from at e v a p q r out m o w f ee ev g ea h =
    let b : a ≡ within s (name_end s from + 2) = omega arith in
    let c : v ≡ be16 s (name_end s from) = be16_clamped s (name_end s from) e v ee ev in
    let d = ap (counted 1 (wire_bytes ws stamp)) (list_clamped s (name_end s from + 2) a b) ∙ counted_wires ws stamp (list_at s (name_end s from + 2)) in
    then (then f (rw c at g)) (wrote_as d h)

module _ (ws : List ℕ) (stamp : ℕ) (s : List ℕ) (from at p k : ℕ) (out w whole : List ℕ) where
  pub nodes_more : (z : List ℕ) (q a : ℕ) → Still (nodes_from ws stamp s from k) whole at out w p → 0 < k
      → Wrote (write_node (renamed (canon ws stamp) (node_at s from))) p w z q → a ≡ within s (node_end s from)
      → Still (nodes_from ws stamp s a (k - 1)) whole at out z q
  unfolding nodes_from
  nodes_more z q a st h t e = still_on st (along_next s _ (node_end s) from a k h e) t

  pub nodes_done : Still (nodes_from ws stamp s from k) whole at out w p → k ≤ 0 → Wrote whole at out w p
  unfolding nodes_from
  nodes_done st h = still_none st (along_none s _ (node_end s) from k h)

pub counted_nodes : (ws : List ℕ) (stamp : ℕ) (s : List ℕ) (from at n a p r : ℕ) (out m w : List ℕ) → n ≡ be16 s from → Wrote (be 2 n) at out m p → a ≡ on s from 2
    → Wrote (nodes_from ws stamp s a n) p m w r → Wrote (nodes_part ws stamp s from) at out w r
unfolding nodes_part
counted_nodes ws stamp s from at n a p r out m w en t ea u = then (rw en at t) (rw (ea, en) at u)

-- inside a file
pub nodes_inside : (ws : List ℕ) (stamp : ℕ) (s : List ℕ) (q : ℕ) → table_end (node_end s) (q + 2) (be16 s q) ≤ length s
    → nodes_part ws stamp s q ≡ counted 2 write_node (map (renamed (canon ws stamp)) (nodes_at s (q + 2) (be16 s q)))
unfolding nodes_part nodes_from counted nodes_at
nodes_inside ws stamp s q h =
    let c = canon ws stamp in
    let ns = table_at (node_at s) (node_end s) (q + 2) (be16 s q) in
    let e : on s q 2 ≡ q + 2 = omega (arith, table_up (node_end s) (node_up s) (q + 2) (be16 s q)) in
    let l : be16 s q ≡ length (map (renamed c) ns) = sym (length-map ns (renamed c) ∙ table_length s (node_at s) (node_end s) (q + 2) (be16 s q)) in
    let a = along_inside s (λ m. write_node (renamed c m)) (node_at s) (node_end s) (node_up s) (q + 2) (be16 s q) h ∙ concat_map_lem write_node (renamed c) ns in
    ap (λ t. be 2 (be16 s q) ++ along s (λ a. write_node (renamed c (node_at s a))) (node_end s) t (be16 s q)) e ∙ (λ i. be 2 (l i) ++ a i)
