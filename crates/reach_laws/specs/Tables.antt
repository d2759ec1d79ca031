-- The places of names and nets by name number: from them each name leads on as level File says.
use Prim.Native.Nat.{ℕ, zero, suc, ◌+◌, ◌<◌, ◌≤◌}
use Rattle.std.specs.Prelude.{◌≡◌, List, [], ◌∷◌, ◌++◌, map, length, ltb}
use Rattle.std.proofs.Math.Path.{refl, sym, ap, subst}
use Rattle.std.proofs.Common.{◌∙◌}
use Rattle.std.proofs.Math.Bool.{true, false}
use Rattle.std.proofs.Math.Option.{Option, none, some}
use Rattle.std.proofs.Math.Logic.{inl, inr}
use native.Mathlib.Omega.{arith}
use Rattle.std.proofs.Math.ListN.{get_or, set, length-set}
use Rattle.std.proofs.Math.Seq.{get_or-set_same, get_or-set_other}
use Rattle.std.proofs.Math.Dec.{eqb}
use borrow.Author.Tests.{eqb-true, ltb-true, eq-eqb}
use Rattle.net_file.specs.Lists.{all, ascend, concat_map}
use Rattle.net_file.specs.Values.{Name, FlatNet}
use Rattle.net_file_laws.specs.Exact.{Each}
use Rattle.list_laws.specs.Tests.{both}
use Rattle.words.specs.Choose.{lt_yes, lt_no, eq_no}
use Rattle.fields.specs.Fields.{be16}
use Rattle.stored.specs.Stored.{table_at, table_end, list_at, name_at, name_end, node_at, node_end, nodes_at, node_count_at, flat_net_at, flat_net_end}
use Rattle.ends.specs.Ends.{within, on, table_up, node_up, net_up, name_past, node_past, free_past, pairs_past}
use Rattle.conversions.specs.Prune.{number_of, children_of, from_node, from_nets}
use Rattle.prune_laws.specs.Members.{tested, false_true}
use Rattle.prune_laws.specs.Below.{node_by, node_by_lem, net_here, net_later, net_none}
use Rattle.prune_laws.specs.Accepts.{ascend_above, ascend_rest}
use Rattle.name_table.specs.Table.{name_places, net_places}
use Rattle.reach_names.specs.Reach.{from_node_words, from_nodes, from_net}

-- ---- names

pub children_at : (s : List ℕ) (at n i : ℕ) → i < n → children_of (table_at (name_at s) (name_end s) at n) i ≡ list_at s (table_end (name_end s) at i + 10)
unfolding children_of table_at table_end name_at
children_at s at zero i h = absurd (omega arith)
children_at s at (suc n) zero h = refl
children_at s at (suc n) (suc i) h = children_at s (name_end s at) n i (omega arith)

name_up : (s : List ℕ) (at : ℕ) → at ≤ name_end s at
name_up s at = let h = name_past s at in omega arith

names_kept : (s : List ℕ) (k : ℕ) (l : List ℕ) (at i j : ℕ) → j < i → get_or (name_places s l at i k) j 0 ≡ get_or l j 0
unfolding name_places
names_kept s zero l at i j h = refl
names_kept s (suc k) l at i j h = names_kept s k (set l i at) (within s (name_end s at)) (i + 1) j (omega arith) ∙ get_or-set_other l i j at 0 (omega arith)

names_from : (s : List ℕ) (k : ℕ) (l : List ℕ) (at i j : ℕ) → j < k → i + k ≤ length l → table_end (name_end s) at k ≤ length s
    → get_or (name_places s l at i k) (i + j) 0 ≡ table_end (name_end s) at j
unfolding name_places table_end
names_from s zero l at i j h r t = absurd (omega arith)
names_from s (suc k) l at i zero h r t =
    let e : i + 0 ≡ i = omega arith in
    ap (λ y. get_or (name_places s (set l i at) (within s (name_end s at)) (i + 1) k) y 0) e
    ∙ names_kept s k (set l i at) (within s (name_end s at)) (i + 1) i (omega arith) ∙ get_or-set_same l i at 0 (omega arith)
names_from s (suc k) l at i (suc j) h r t =
    let u = table_up (name_end s) (name_up s) (name_end s at) k in
    let w : within s (name_end s at) ≡ name_end s at = omega arith in
    let e : i + suc j ≡ i + 1 + j = omega arith in
    let n = length-set l i at in
    ap (λ y. get_or (name_places s (set l i at) (within s (name_end s at)) (i + 1) k) y 0) e
    ∙ ap (λ a. get_or (name_places s (set l i at) a (i + 1) k) (i + 1 + j) 0) w
    ∙ names_from s k (set l i at) (name_end s at) (i + 1) j (omega arith) (omega arith) t

pub names_get : (s l : List ℕ) (at n j : ℕ) → j < n → n ≤ length l → table_end (name_end s) at n ≤ length s → get_or (name_places s l at 0 n) j 0 ≡ table_end (name_end s) at j
names_get s l at n j h r t = let e : 0 + j ≡ j = omega arith in ap (λ y. get_or (name_places s l at 0 n) y 0) (sym e) ∙ names_from s n l at 0 j h (omega arith) t

-- ---- nodes

-- what is found of a name is its number in the table; 1,024 is none
pub data Finds (r : ℕ) : Option ℕ → Type 0 where
  there : r < 1024 → Finds r (some r)
  absent : r ≡ 1024 → Finds r none

-- from a place on
abbrev pub Found : (ℕ → ℕ) → List Name → List ℕ → ℕ → Type 0
Found found ms s lo = (at : ℕ) → lo ≤ at → name_end s at ≤ length s → Finds (found at) (number_of ms (name_at s at) 0)

module _ (found : ℕ → ℕ) (ms : List Name) (s : List ℕ) (lo : ℕ) (ok : Found found ms s lo) where
  node_is : (at : ℕ) (o : Option ℕ) → name_end s at ≤ length s → number_of ms (name_at s at) 0 ≡ o → Finds (found at) o → from_node_words found s at ≡ from_node ms (node_at s at)
  unfolding from_node_words node_by node_at name_at
  node_is at (some i) h e (there l) = sym (lt_yes _ _ _ _ l refl) ∙ sym (node_by_lem ms (node_at s at) (some (found at)) e)
  node_is at none h e (absent q) =
      let p = name_past s at in
      let w : within s (at + 10) ≡ at + 10 = omega arith in
      sym (lt_no _ _ _ _ (omega arith) (ap (list_at s) (sym w))) ∙ sym (node_by_lem ms (node_at s at) none e)

  nodes_are : (k at : ℕ) → lo ≤ at → table_end (node_end s) at k ≤ length s → from_nodes found s at k ≡ concat_map (from_node ms) (nodes_at s at k)
  unfolding from_nodes nodes_at table_at table_end
  nodes_are zero at h t = refl
  nodes_are (suc k) at h t =
      let u = table_up (node_end s) (node_up s) (node_end s at) k in
      let p = node_past s at in
      let q = node_up s at in
      let w : within s (node_end s at) ≡ node_end s at = omega arith in
      let a = node_is at _ (omega arith) refl (ok at h (omega arith)) in
      (λ i. a i ++ from_nodes found s (w i) k) ∙ ap (λ l. from_node ms (node_at s at) ++ l) (nodes_are k (node_end s at) (omega arith) t)

  pub net_is : (a : ℕ) → lo ≤ a → 0 < a → flat_net_end s a ≤ length s → from_net found s a ≡ concat_map (from_node ms) (flat_net_at s a).nodes
  unfolding from_net flat_net_at flat_net_end
  net_is a h z t =
      let b = free_past s a in
      let c = pairs_past s a in
      let u = table_up (node_end s) (node_up s) (node_count_at s a + 2) (be16 s (node_count_at s a)) in
      let w : within s (node_count_at s a) ≡ node_count_at s a = omega arith in
      let v : within s (node_count_at s a + 2) ≡ node_count_at s a + 2 = omega arith in
      sym (eq_no _ _ _ _ (omega arith) refl) ∙ (λ i. from_nodes found s (within s (w i + 2)) (be16 s (w i)))
      ∙ ap (λ y. from_nodes found s y (be16 s (node_count_at s a))) v ∙ nodes_are (be16 s (node_count_at s a)) (node_count_at s a + 2) (omega arith) t

-- ---- nets

module _ (s : List ℕ) where
  net_name : (at : ℕ) → (flat_net_at s at).name ≡ be16 s at
  unfolding flat_net_at
  net_name at = refl

  -- a name that no net bears keeps its place
  nets_kept : (k : ℕ) (l : List ℕ) (at i : ℕ) → all (ltb i) (map (λ (n : FlatNet). n.name) (table_at (flat_net_at s) (flat_net_end s) at k)) ≡ true
      → table_end (flat_net_end s) at k ≤ length s → get_or (net_places s l at k) i 0 ≡ get_or l i 0
  unfolding net_places table_at table_end
  nets_kept zero l at i h t = refl
  nets_kept (suc k) l at i h t =
      let b = both (ltb i (flat_net_at s at).name) (all (ltb i) (map (λ (n : FlatNet). n.name) (table_at (flat_net_at s) (flat_net_end s) (flat_net_end s at) k))) h in
      let m = ltb-true i (flat_net_at s at).name b.0 in
      let e = net_name at in
      let u = table_up (flat_net_end s) (net_up s) (flat_net_end s at) k in
      let w : within s (flat_net_end s at) ≡ flat_net_end s at = omega arith in
      ap (λ y. get_or (net_places s (set l (be16 s at) at) y k) i 0) w
      ∙ nets_kept k (set l (be16 s at) at) (flat_net_end s at) i b.1 t ∙ get_or-set_other l (be16 s at) i at 0 (omega arith)

  -- what stands for a name: the place of its net, or none
  pub data NetAt (ms : List Name) (nets : List FlatNet) (a lo i : ℕ) : Type 0 where
    bare : from_nets ms nets i ≡ [] → a ≡ 0 → NetAt ms nets a lo i
    netted : lo ≤ a → 0 < a → flat_net_end s a ≤ length s → from_nets ms nets i ≡ concat_map (from_node ms) (flat_net_at s a).nodes → NetAt ms nets a lo i

  net_as : (ms : List Name) (nets nets' : List FlatNet) (a lo lo' i : ℕ) → from_nets ms nets' i ≡ from_nets ms nets i → lo' ≤ lo → NetAt ms nets a lo i → NetAt ms nets' a lo' i
  net_as ms nets nets' a lo lo' i e h (bare x y) = bare (e ∙ x) y
  net_as ms nets nets' a lo lo' i e h (netted x z y w) = netted (omega arith) z y (e ∙ w)

  pub nets_get : (ms : List Name) (k : ℕ) (l : List ℕ) (at i : ℕ) → length l ≡ 1024 → ascend (map (λ (n : FlatNet). n.name) (table_at (flat_net_at s) (flat_net_end s) at k)) ≡ true
      → Each (λ (n : FlatNet). n.name < 1024) (table_at (flat_net_at s) (flat_net_end s) at k) → 0 < at → table_end (flat_net_end s) at k ≤ length s → get_or l i 0 ≡ 0
      → NetAt ms (table_at (flat_net_at s) (flat_net_end s) at k) (get_or (net_places s l at k) i 0) at i
  unfolding net_places table_at table_end
  nets_get ms zero l at i g h b z t q = bare (net_none ms i) q
  nets_get ms (suc k) l at i g h b z t q =
      let rest = table_at (flat_net_at s) (flat_net_end s) (flat_net_end s at) k in
      let l' = set l (be16 s at) at in
      let m = net_name at in
      let c = b.0 in
      let u = table_up (flat_net_end s) (net_up s) (flat_net_end s at) k in
      let v = net_up s at in
      let w : within s (flat_net_end s at) ≡ flat_net_end s at = omega arith in
      let d : get_or (net_places s l' (flat_net_end s at) k) i 0 ≡ get_or (net_places s l' (within s (flat_net_end s at)) k) i 0 = ap (λ y. get_or (net_places s l' y k) i 0) (sym w) in
      let n = length-set l (be16 s at) at in
      subst (λ (y : ℕ). NetAt ms (flat_net_at s at ∷ rest) y at i) d (elim (tested (eqb (flat_net_at s at).name i)) [
        | inl e ↦
            let j : (flat_net_at s at).name ≡ i = eqb-true _ i e in
            let o : all (ltb i) (map (λ (n : FlatNet). n.name) rest) ≡ true = subst (λ (y : ℕ). all (ltb y) (map (λ (n : FlatNet). n.name) rest) ≡ true) j (ascend_above (flat_net_at s at).name (map (λ (n : FlatNet). n.name) rest) h) in
            let r : be16 s at ≡ i = sym m ∙ j in
            let f : get_or (net_places s l' (flat_net_end s at) k) i 0 ≡ at = nets_kept k l' (flat_net_end s at) i o t ∙ ap (λ y. get_or (set l y at) i 0) r ∙ get_or-set_same l i at 0 (omega arith) in
            subst (λ (y : ℕ). NetAt ms (flat_net_at s at ∷ rest) y at i) (sym f) (netted (omega arith) z (omega arith) (net_here ms (flat_net_at s at) rest i e))
        | inr e ↦
            net_as ms rest (flat_net_at s at ∷ rest) (get_or (net_places s l' (flat_net_end s at) k) i 0) (flat_net_end s at) at i (net_later ms (flat_net_at s at) rest i e) v
            (nets_get ms k l' (flat_net_end s at) i (omega arith) (ascend_rest (flat_net_at s at).name (map (λ (n : FlatNet). n.name) rest) h) b.1 (omega arith) t
            (get_or-set_other l (be16 s at) i at 0 (λ y. other (sym m) y e) ∙ q))
      ])
    where
      other : {x y z : ℕ} → x ≡ y → z ≡ x → eqb y z ≡ false → ⊥
      other {x} {y} {z} p r e = false_true (sym e ∙ eq-eqb y z (sym p ∙ sym r))
