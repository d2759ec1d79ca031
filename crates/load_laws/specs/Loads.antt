-- The load of a well wired net uses each port of its new nodes once: it leaves the nets well wired, with one free node more.
use Rattle.std.proofs.Math.Path.{◌≡◌, ap}
use Rattle.std.specs.Prelude.{refl, ◌≢◌, ◌⊎◌, ℕ, zero, suc, ◌+◌, ◌<◌, ◌≤◌, Bool, true, false, eqb}
use Rattle.std.proofs.Common.{sym, ◌∙◌, subst, inl, arith, true≢false}
use Rattle.std.proofs.Math.Logic.{inr}
use Rattle.std.proofs.Math.Option.{Option, none, some}
use mathlib.Core.List.Memᴰ
use mathlib.Core.List.{List, [], ◌∷◌, ◌++◌, append-nil, Memᴰ}
use Rattle.std.proofs.Math.ListN.{length, length-replicate}
use Rattle.net_file.specs.Values.{Name, FlatNode, FlatNet}
use Rattle.net_file.specs.Checks.{pairs_ordered, flat_wired}
use Rattle.definitions.specs.Lists.{or_else, foldl}
use Rattle.definitions.specs.Nets.{Port, Node, Graph, port, same_port, at, filled, holds, name_of, arity, across, follow}
use Rattle.definitions.specs.Scripts.{Edit, Insert, Join, Script, fill, join, cut, wire, ends, apply, apply_script}
use Rattle.definitions.specs.Rules.{new}
use Rattle.definitions.specs.Step.{Fresh}
use Rattle.definitions.specs.Load.{End, ends_at, join_met, load_nodes, load_net}
use Rattle.join_laws.specs.Ports.{Frame, no_frame, in_net, frame, arity_frame, arity_same, name_frame, net_frame, net_same, holds_frame, filled_same, Real, across_wire_same, across_wire_other, real_wire}
use Rattle.join_laws.specs.Link.{Wired, frame_cut}
use Rattle.join_laws.specs.Join.{join_cases}
use Rattle.join_laws.proofs.Join.{frame_join}
use Rattle.script_laws.specs.Slots.{frame_fill_same, frame_fill_other, across_fill, across_vacant}
use Rattle.script_laws.specs.Safe.{With, was, first, second, Safe, Turns, edit_wired, frame_edits, Born}
use Rattle.script_laws.proofs.Safe.{safe_same, safe_append, edits_still}
use Rattle.script_laws.specs.Loops.{Or, left, right, safe_end}
use Rattle.script_laws.specs.Tidy.{WellWired, Tidy, frame_kept, ported_kept}
use Rattle.script_laws.proofs.Tidy.{tidy_wired, wire_kept}
use Rattle.rule_laws.specs.Places.{Ported, new_holes}
use Rattle.load_laws.specs.Meets.{of_wire, of_wire_append, of_wire_mem, PortsApart, Joined, UsedBy, meets_safe}
use Rattle.load_laws.specs.Ends.{ends_mem, ends_at_lem, ends_apart, frame_join_met, node_ends, met_after, met_kept, all_ends, all_count}
use Rattle.load_laws.specs.Net.{new_frame}

module _ (g : Graph) (w : WellWired g) (N : ℕ → ℕ) (fr : Fresh g N) (k : ℕ) (name : Name) (t : FlatNet) (ordered : pairs_ordered t.pairs ≡ true) (wired : flat_wired t ≡ true) where
  abbrev pub f : ℕ
  f = N 0

  abbrev pub x₀ : Node
  x₀ = new k name (2 + length t.free)

  abbrev pub B : Port → Type 0
  B = With (λ _. ⊥) (port f 0) (port f 1)

  abbrev pub all : List End
  all = all_ends t N

  abbrev pub F : Port → Type 0
  F = UsedBy B all

  abbrev pub ends₀ : List End
  ends₀ = ends_at t f 2 t.free

  abbrev pub g₁ : Graph
  g₁ = fill g f x₀

  abbrev pub g₂ : Graph
  g₂ = join g₁ (port f 0) (port f 1)

  abbrev pub loaded : Script
  loaded = record { edits = load_net N name k t; dead = [] }

  -- every end is joined in the end
  pub joined_all : (y : End) → Memᴰ y all → F y.1
  joined_all y m = right (record { end = y; mem = m; port = refl; two = two (all_count t N ordered wired y.0) })
    where
      two : (of_wire y.0 all ≡ 0) ⊎ (of_wire y.0 all ≡ 2) → 2 ≤ of_wire y.0 all
      two (inl e) = let z = of_wire_mem y.0 all y m refl in absurd (omega arith)
      two (inr e) = omega arith

  pub new₁ : frame g₁ f ≡ some (record { net = k; name = name; size = 2 + length t.free })
  new₁ = new_frame g f k name (2 + length t.free)

  pub new₂ : frame g₂ f ≡ some (record { net = k; name = name; size = 2 + length t.free })
  new₂ = frame_join g₁ (port f 0) (port f 1) f ∙ new₁

  pub arity₁ : arity g₁ f ≡ 2 + length t.free
  arity₁ = arity_frame g₁ f ∙ ap (λ (o : Option Frame). (or_else o no_frame).size) new₁

  pub arity₂ : arity g₂ f ≡ 2 + length t.free
  arity₂ = arity_frame g₂ f ∙ ap (λ (o : Option Frame). (or_else o no_frame).size) new₂

  pub net₂ : (at g₂ f).net ≡ k
  net₂ = net_frame g₂ f ∙ ap (λ (o : Option Frame). (or_else o no_frame).net) new₂

  pub size₀ : length x₀.ports ≡ 2 + length t.free
  unfolding new
  size₀ = length-replicate (2 + length t.free) none

  pub off_b : (i a : ℕ) → 1 ≤ i → ¬ B (port (N i) a)
  off_b i a l (was u) = u
  off_b i a l (first e) = let z = fr.apart i 0 (ap (λ (p : Port). p.node) e) in omega arith
  off_b i a l (second e) = let z = fr.apart i 0 (ap (λ (p : Port). p.node) e) in omega arith

  pub off_free : (a : ℕ) → 2 ≤ a → ¬ B (port f a)
  off_free a l (was u) = u
  off_free a l (first e) = let z : a ≡ 0 = ap (λ (p : Port). p.index) e in omega arith
  off_free a l (second e) = let z : a ≡ 1 = ap (λ (p : Port). p.index) e in omega arith

  -- the ends of the free node
  module _ (y : End) (m : Memᴰ y ends₀) where
    pub end_is : (a : ℕ) × (2 ≤ a) × (a < 2 + length t.free) × (y.1 ≡ port f a)
    end_is = ends_mem t f t.free 2 y m

    pub end_real : Real g₂ y.1
    end_real = subst (Real g₂) (sym end_is.3) (let z = end_is.2 in omega (arith, arity₂))

    pub end_net : (at g₂ y.1.node).net ≡ k
    end_net = ap (λ (p : Port). (at g₂ p.node).net) end_is.3 ∙ net₂

    pub end_off : ¬ B y.1
    end_off b = off_free end_is.0 end_is.1 (subst B end_is.3 b)

  pub most : (w : ℕ) → of_wire w all ≤ 2
  most w = go (all_count t N ordered wired w)
    where
      go : (of_wire w all ≡ 0) ⊎ (of_wire w all ≡ 2) → of_wire w all ≤ 2
      go (inl e) = omega arith
      go (inr e) = omega arith

  pub count_kept : (w : ℕ) (ys : List FlatNode) (ms : List End) (i : ℕ) → of_wire w ms ≤ of_wire w (met_after t N ms i ys)
  count_kept w [] ms i = omega arith
  count_kept w (y ∷ ys) ms i =
      let a = count_kept w ys (node_ends t N i y ++ ms) (1 + i) in let b = of_wire_append w (node_ends t N i y) ms in omega arith

  abbrev pub g₃ : Graph
  g₃ = foldl apply g₂ (join_met [] ends₀)

  pub same₃ : (n : ℕ) → frame g₃ n ≡ frame g₂ n
  same₃ n = frame_join_met ends₀ [] g₂ n

  pub other₂ : (n : ℕ) → n ≢ f → frame g₂ n ≡ frame g n
  other₂ n h = frame_join g₁ (port f 0) (port f 1) n ∙ frame_fill_other g f n x₀ h

  pub free_later : (i : ℕ) → i < length x₀.ports → F (port f i)
  free_later zero l = left (first refl)
  free_later (suc zero) l = left (second refl)
  free_later (suc (suc a)) l =
      let z = ends_at_lem t f t.free 2 (suc (suc a)) (omega arith) (let s = size₀ in omega arith) in
      subst F z.2 (joined_all z.0 (met_kept t N t.nodes ends₀ 1 z.0 z.1))

  -- where an end is
  pub end_node : (xs : List FlatNode) (met : List End) (j : ℕ) → ((y : End) → Memᴰ y met → (i : ℕ) × (y.1.node ≡ N i)) → (y : End) → Memᴰ y (met_after t N met j xs) → (i : ℕ) × (y.1.node ≡ N i)
  end_node [] met j h y m = h y m
  end_node (x ∷ xs) met j h y m = end_node xs (node_ends t N j x ++ met) (1 + j) (λ z n. go z (Memᴰ.append_cases (node_ends t N j x) n)) y m
    where
      go : (z : End) → Memᴰ z (node_ends t N j x) ⊎ Memᴰ z met → (i : ℕ) × (z.1.node ≡ N i)
      go z (inl n) = (j, ap (λ (p : Port). p.node) (ends_mem t (N j) (x.pri ∷ x.aux) 0 z n).3)
      go z (inr n) = h z n

  pub used_new : (r : Port) → F r → filled g r.node ≡ false
  used_new r (left (was u)) = absurd u
  used_new r (left (first e)) = ap (λ (p : Port). filled g p.node) e ∙ fr.vacant 0
  used_new r (left (second e)) = ap (λ (p : Port). filled g p.node) e ∙ fr.vacant 0
  used_new r (right j) =
      let z = end_node t.nodes ends₀ 1 (λ y m. (0, ap (λ (p : Port). p.node) (end_is y m).3)) j.end j.mem in
      ap (λ (p : Port). filled g p.node) j.port ∙ ap (filled g) z.1 ∙ fr.vacant z.0
