-- The ends that a file's wires have at a node: one for each port, each of the wire at its place.
use Rattle.std.specs.Prelude.{◌≡◌, ◌≢◌, ◌⊎◌, Bool, true, false, eqb}
use Rattle.std.proofs.Math.Path.{refl, ap}
use Rattle.std.proofs.Common.{sym, ◌∙◌, subst, inl, inr}
use Prim.Native.Nat.{ℕ, zero, suc, ◌+◌, ◌<◌, ◌≤◌}
use Rattle.std.proofs.Math.Decide.{ℕ_discrete}
use native.Mathlib.Omega.{arith}
use Rattle.std.proofs.Math.Option.{Option, none, some}
use mathlib.Core.List.Memᴰ
use mathlib.Core.List.{List, [], ◌∷◌, ◌++◌, map, Memᴰ}
use Rattle.std.proofs.Math.ListN.{length}
use Rattle.net_file.specs.Lists.{bit, count, concat_map}
use Rattle.net_file.specs.Values.{FlatNode, FlatNet}
use Rattle.net_file.specs.Checks.{places, pairs_ordered, flat_wired}
use Rattle.definitions.specs.Lists.{foldl, find, zip_with, from}
use Rattle.definitions.specs.Nets.{Port, Graph, port}
use Rattle.definitions.specs.Scripts.{Edit, Join, join, apply}
use Rattle.definitions.specs.Load.{canonical, End, ends_at, join_met}
use Rattle.join_laws.specs.Ports.{frame}
use Rattle.join_laws.proofs.Join.{frame_join}
use Rattle.load_laws.specs.Twice.{twice}
use Rattle.load_laws.specs.Meets.{of_wire, of_wire_append, PortsApart}

module _ (t : FlatNet) (n : ℕ) where
  pub ends_length : (ws : List ℕ) (i : ℕ) → length (ends_at t n i ws) ≡ length ws
  unfolding ends_at
  ends_length [] i = refl
  ends_length (w ∷ ws) i = ap suc (ends_length ws (suc i))

  -- an end is at one of the ports
  pub ends_mem : (ws : List ℕ) (i : ℕ) (y : End) → Memᴰ y (ends_at t n i ws) → (a : ℕ) × (i ≤ a) × (a < i + length ws) × (y.1 ≡ port n a)
  unfolding ends_at
  ends_mem [] i y m = absurd (Memᴰ.not-nil m)
  ends_mem (w ∷ ws) i y m = go (Memᴰ.cases_cons m) (ends_mem ws (suc i) y)
    where
      go : (y ≡ (canonical t.pairs w, port n i)) ⊎ Memᴰ y (ends_at t n (suc i) ws)
          → (Memᴰ y (ends_at t n (suc i) ws) → (a : ℕ) × (suc i ≤ a) × (a < suc i + length ws) × (y.1 ≡ port n a))
          → (a : ℕ) × (i ≤ a) × (a < i + suc (length ws)) × (y.1 ≡ port n a)
      go (inl e) r = (i, omega arith, omega arith, ap (λ (u : End). u.1) e)
      go (inr k) r = let z = r k in (z.0, (let q = z.1 in omega arith), (let q = z.2 in omega arith), z.3)

  -- each port has an end
  pub ends_at_lem : (ws : List ℕ) (i a : ℕ) → i ≤ a → a < i + length ws → (y : End) × Memᴰ y (ends_at t n i ws) × (y.1 ≡ port n a)
  unfolding ends_at
  ends_at_lem [] i a l m = absurd (omega arith)
  ends_at_lem (w ∷ ws) i a l m = go (ℕ_discrete a i) (ends_at_lem ws (suc i) a)
    where
      go : Dec (a ≡ i) → (suc i ≤ a → a < suc i + length ws → (y : End) × Memᴰ y (ends_at t n (suc i) ws) × (y.1 ≡ port n a))
          → (y : End) × Memᴰ y ((canonical t.pairs w, port n i) ∷ ends_at t n (suc i) ws) × (y.1 ≡ port n a)
      go (yes e) r = ((canonical t.pairs w, port n i), Memᴰ.head refl, ap (port n) (sym e))
      go (no e) r = let z = r (omega arith) (omega arith) in (z.0, Memᴰ.tail z.1, z.2)

  pub ends_apart : (ws : List ℕ) (i : ℕ) → PortsApart (ends_at t n i ws)
  unfolding ends_at
  ends_apart [] i = tt
  ends_apart (w ∷ ws) i = (
    λ y m e. (let z = ends_mem ws (suc i) y m in let q : z.0 ≡ i = ap (λ (p : Port). p.index) (sym z.3 ∙ e) in let l = z.1 in omega arith),
    ends_apart ws (suc i),
  )

  pub ends_count : (w : ℕ) (ws : List ℕ) (i : ℕ) → of_wire w (ends_at t n i ws) ≡ count (eqb w) (map (canonical t.pairs) ws)
  unfolding ends_at
  ends_count w [] i = refl
  ends_count w (v ∷ ws) i = ap (λ (c : ℕ). bit (eqb w (canonical t.pairs v)) + c) (ends_count w ws (suc i))

pub apart_append : (xs ys : List End) → PortsApart xs → PortsApart ys → ((x y : End) → Memᴰ x xs → Memᴰ y ys → y.1 ≢ x.1) → PortsApart (xs ++ ys)
apart_append [] ys a b h = b
apart_append (x ∷ xs) ys a b h = (
  λ y m. go y (Memᴰ.append_cases xs m),
  apart_append xs ys a.1 b (λ z y m n. h z y (Memᴰ.tail m) n),
)
  where
    go : (y : End) → Memᴰ y xs ⊎ Memᴰ y ys → y.1 ≢ x.1
    go y (inl m) = a.0 y m
    go y (inr m) = h x y (Memᴰ.head refl) m

-- joins change no frame
pub frame_join_met : (xs met : List End) (g : Graph) (n : ℕ) → frame (foldl apply g (join_met met xs)) n ≡ frame g n
unfolding join_met apply
frame_join_met [] met g n = refl
frame_join_met (x ∷ xs) met g n = go (find (λ y. eqb x.0 y.0) met) (λ h. frame_join_met xs (x ∷ met) h n)
  where
    go : (o : Option End) → ((h : Graph) → frame (foldl apply h (join_met (x ∷ met) xs)) n ≡ frame h n)
        → frame (foldl apply g (elim o as (λ _. List Edit) [ none ↦ join_met (x ∷ met) xs | some y ↦ Join x.1 y.1 ∷ join_met (x ∷ met) xs ])) n ≡ frame g n
    go none r = r g
    go (some y) r = r (join g x.1 y.1) ∙ frame_join g x.1 y.1 n

-- ---- all ends of a net

module _ (t : FlatNet) (N : ℕ → ℕ) where
  -- the ends at the j-th new node
  abbrev pub node_ends : ℕ → FlatNode → List End
  node_ends j x = ends_at t (N j) 0 (x.pri ∷ x.aux)

  -- the ends met after the nodes xs
  abbrev pub met_after : List End → ℕ → List FlatNode → List End
  met_after met j [] = met
  met_after met j (x ∷ xs) = met_after (node_ends j x ++ met) (1 + j) xs

  pub met_kept : (xs : List FlatNode) (met : List End) (j : ℕ) (y : End) → Memᴰ y met → Memᴰ y (met_after met j xs)
  met_kept [] met j y m = m
  met_kept (x ∷ xs) met j y m = met_kept xs (node_ends j x ++ met) (1 + j) y (Memᴰ.append_right (node_ends j x) m)

  count_append : (w : ℕ) (us vs : List ℕ)
      → count (eqb w) (map (canonical t.pairs) (us ++ vs)) ≡ count (eqb w) (map (canonical t.pairs) us) + count (eqb w) (map (canonical t.pairs) vs)
  count_append w [] vs = omega arith
  count_append w (u ∷ us) vs = let z = count_append w us vs in omega arith

  pub met_count : (w : ℕ) (xs : List FlatNode) (met : List End) (j : ℕ)
      → of_wire w (met_after met j xs) ≡ of_wire w met + count (eqb w) (map (canonical t.pairs) (concat_map (λ m. m.pri ∷ m.aux) xs))
  met_count w [] met j = omega arith
  met_count w (x ∷ xs) met j =
      let a = met_count w xs (node_ends j x ++ met) (1 + j) in
      let b = of_wire_append w (node_ends j x) met in
      let c = ends_count t (N j) w (x.pri ∷ x.aux) 0 in
      let d = count_append w (x.pri ∷ x.aux) (concat_map (λ m. m.pri ∷ m.aux) xs) in
      omega arith

  -- all of them
  abbrev pub all_ends : List End
  all_ends = met_after (ends_at t (N 0) 2 t.free) 1 t.nodes

  pub all_count : pairs_ordered t.pairs ≡ true → flat_wired t ≡ true → (w : ℕ) → (of_wire w all_ends ≡ 0) ⊎ (of_wire w all_ends ≡ 2)
  unfolding places
  all_count o f w = go (twice t o f w)
    where
      same : of_wire w all_ends ≡ count (eqb w) (map (canonical t.pairs) (t.free ++ concat_map (λ m. m.pri ∷ m.aux) t.nodes))
      same =
          let a = met_count w t.nodes (ends_at t (N 0) 2 t.free) 1 in
          let b = ends_count t (N 0) w t.free 2 in
          let c = count_append w t.free (concat_map (λ m. m.pri ∷ m.aux) t.nodes) in
          omega arith

      go : (count (eqb w) (map (canonical t.pairs) (places t)) ≡ 0) ⊎ (count (eqb w) (map (canonical t.pairs) (places t)) ≡ 2) → (of_wire w all_ends ≡ 0) ⊎ (of_wire w all_ends ≡ 2)
      go (inl e) = inl (same ∙ e)
      go (inr e) = inr (same ∙ e)
