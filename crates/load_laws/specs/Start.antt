-- A loaded net's free node; and the numbers that its new nodes take.
use Rattle.std.specs.Prelude.{◌≡◌, ◌≢◌, ◌⊎◌, Bool, true, false}
use Rattle.std.proofs.Math.Path.{refl}
use Rattle.std.proofs.Common.{sym, ap, ◌∙◌, subst, inl, inr, true≢false, eq-eqb}
use Prim.Native.Nat.{ℕ, zero, suc, ◌+◌, ◌<◌, ◌≤◌}
use native.Mathlib.Omega.{arith}
use Rattle.std.proofs.lemmas.Bool.{false≢true}
use Rattle.std.proofs.Math.Option.{Option, none, some}
use mathlib.Core.List.{List, [], ◌∷◌, ◌++◌}
use Rattle.std.proofs.Math.ListN.{length}
use Rattle.std.proofs.Math.Dec.{eqb}
use Rattle.net_file.specs.Values.{Name, FlatNode, FlatNet}
use Rattle.net_file.specs.Checks.{pairs_ordered, flat_wired}
use Rattle.definitions.specs.Lists.{or_else, is_some, foldl, find}
use Rattle.definitions.specs.Nets.{Port, Node, Graph, port, at, filled, holds, name_of, arity, across, follow}
use Rattle.definitions.specs.Scripts.{Edit, Insert, Copy, Join, Cut, fill, join, cut, wire, ends, apply}
use Rattle.definitions.specs.Rules.{new}
use Rattle.definitions.specs.Step.{Fresh}
use Rattle.definitions.specs.Load.{End, ends_at, join_met, load_nodes, load_net}
use Rattle.join_laws.specs.Ports.{Frame, no_frame, in_net, frame, arity_frame, arity_same, name_frame, holds_frame, filled_frame, Real, across_wire_same, across_wire_other, real_wire}
use Rattle.join_laws.specs.Link.{Wired, frame_cut}
use Rattle.join_laws.specs.Join.{join_cases}
use Rattle.join_laws.proofs.Join.{frame_join}
use Rattle.script_laws.specs.Slots.{across_fill, across_vacant}
use Rattle.script_laws.specs.Safe.{With, was, first, second, Safe, Turns, edit_wired, frame_edits, Born}
use Rattle.script_laws.proofs.Safe.{edits_still}
use Rattle.script_laws.specs.Tidy.{WellWired}
use Rattle.rule_laws.specs.Places.{new_holes}
use Rattle.rule_laws.specs.Order.{InOrder}
use Rattle.load_laws.specs.Loads.{f, x₀, B, F, g₁, g₂, ends₀, arity₁, new₂}

-- ---- two holes are joined

pub join_holes : (g : Graph) (a b : Port) → Real g a → Real g b → a ≢ b → across g a ≡ none → across g b ≡ none → across (join g a b) a ≡ some b
unfolding follow cut
join_holes g a b ra rb n ha hb = join_cases (λ h. across h a ≡ some b) g a b
    (λ _ s. absurd (n (sym fa ∙ s)))
    (λ _ _. subst (λ (p : Port × Port). across (wire (wire (cut g a b) p.0 (some p.1)) p.1 (some p.0)) a ≡ some b) (λ i. (sym fa i, sym fb i)) linked)
  where
    fa : follow g a ≡ a
    fa = ap (λ (o : Option Port). or_else o a) ha

    fb : follow g b ≡ b
    fb = ap (λ (o : Option Port). or_else o b) hb

    linked : across (wire (wire (cut g a b) a (some b)) b (some a)) a ≡ some b
    linked =
        across_wire_other (wire (cut g a b) a (some b)) b (some a) a n
        ∙ across_wire_same (cut g a b) a (some b) (real_wire (wire g a none) b none a (real_wire g a none a ra))

-- ---- the free node

module _ (g : Graph) (w : WellWired g) (N : ℕ → ℕ) (fr : Fresh g N) (k : ℕ) (name : Name) (t : FlatNet) (ordered : pairs_ordered t.pairs ≡ true) (wired : flat_wired t ≡ true) where
  abbrev pub h : Graph
  h = foldl apply g (load_net N name k t)

  abbrev pub rest : List Edit
  rest = join_met [] (ends_at t (N 0) 2 t.free) ++ load_nodes N t k (ends_at t (N 0) 2 t.free) 1 t.nodes

  abbrev pub two : Graph
  two = g₂ g w N fr k name t ordered wired

  abbrev pub Base : Port → Type 0
  Base = B g w N fr k name t ordered wired

  abbrev pub All : Port → Type 0
  All = F g w N fr k name t ordered wired

  pub h_is : h ≡ foldl apply two rest
  unfolding load_net apply
  h_is = refl

-- ---- numbers

module _ (N : ℕ → ℕ) (k : ℕ) where
  pub meets_order : (xs met : List End) (i : ℕ) (rest : List Edit) → InOrder N k i rest → InOrder N k i (join_met met xs ++ rest)
  unfolding join_met
  meets_order [] met i rest o = o
  meets_order (x ∷ xs) met i rest o = go (find (λ y. eqb x.0 y.0) met) (meets_order xs (x ∷ met) i rest o)
    where
      go : (q : Option End) → InOrder N k i (join_met (x ∷ met) xs ++ rest)
          → InOrder N k i (elim q as (λ _. List Edit) [ none ↦ join_met (x ∷ met) xs | some y ↦ Join x.1 y.1 ∷ join_met (x ∷ met) xs ] ++ rest)
      go none r = r
      go (some y) r = r

  pub nodes_order : (t : FlatNet) (xs : List FlatNode) (met : List End) (j : ℕ) → InOrder N k j (load_nodes N t k met j xs)
  unfolding load_nodes new
  nodes_order t [] met j = tt
  nodes_order t (x ∷ xs) met j = (
    refl,
    refl,
    meets_order (ends_at t (N j) 0 (x.pri ∷ x.aux)) met (suc j) (load_nodes N t k (ends_at t (N j) 0 (x.pri ∷ x.aux) ++ met) (1 + j) xs)
        (subst (λ (i : ℕ). InOrder N k i (load_nodes N t k (ends_at t (N j) 0 (x.pri ∷ x.aux) ++ met) (1 + j) xs)) (let z : 1 + j ≡ suc j = omega arith in z)
        (nodes_order t xs (ends_at t (N j) 0 (x.pri ∷ x.aux) ++ met) (1 + j))),
  )

  pub load_order : (name : Name) (t : FlatNet) → InOrder N k 0 (load_net N name k t)
  unfolding load_net new
  load_order name t = (
    refl,
    refl,
    meets_order (ends_at t (N 0) 2 t.free) [] 1 (load_nodes N t k (ends_at t (N 0) 2 t.free) 1 t.nodes) (nodes_order t t.nodes (ends_at t (N 0) 2 t.free) 1),
  )
