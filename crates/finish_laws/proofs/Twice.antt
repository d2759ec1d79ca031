-- A net that draws a well wired graph is well wired: document 01, "a wire in no pair occurs twice or never among free and node places".
use Rattle.std.specs.Prelude.{ℕ, zero, suc, ◌+◌, ◌-◌, ◌≤◌, ◌<◌, ◌≡◌, ◌≢◌, ◌⊎◌, Bool, true, false, ◌||◌, drop}
use Rattle.std.proofs.Math.Path.{refl, sym, ap, subst}
use Rattle.std.proofs.Common.{◌∙◌, inl, inr, true≢false, eqb-true, eq-eqb, ne_eqb}
use Rattle.std.proofs.Math.Decide.{ℕ_discrete, dec_lt}
use native.Mathlib.Omega.{arith}
use Rattle.std.proofs.Math.Bool.{not}
use Rattle.std.proofs.lemmas.Bool.{false≢true}
use Rattle.std.proofs.Math.Option.{Option, none, some}
use mathlib.Core.List.Memᴰ
use mathlib.Core.List.{List, [], ◌∷◌, ◌++◌, map, Memᴰ}
use Rattle.std.proofs.Math.Dec.{eqb}
use Rattle.list_laws.specs.Tests.{both, both_are, same_test}
use Rattle.net_file.specs.Lists.{bit, all, any, count, distinct, concat_map}
use Rattle.net_file.specs.Values.{Name, FlatNode, FlatNet}
use Rattle.net_file.specs.Checks.{occurs, places, pair_wires, pair_wired, wire_wired, flat_wired}
use Rattle.definitions.specs.Lists.{or_else, is_some, keep, from}
use Rattle.definitions.specs.Nets.{Port, Graph, Home, port, same_port, at, filled, holds, arity, ports, across, follow}
use Rattle.definitions.specs.Step.{NodesOf}
use Rattle.join_laws.specs.Ports.{Frame, no_frame, in_net, frame, filled_frame, same_port_lem, same_port_true, same_port_self, Real, net_frame, holds_frame}
use Rattle.script_laws.specs.Tidy.{WellWired}
use Rattle.rule_laws.specs.Places.{follow_across, follow_real, follow_back, follow_filled, across_follow}
use Rattle.rule_laws.specs.Ids.{distinct_head, distinct_cons}
use Rattle.rule_laws.specs.Rows.{mem_row}
use Rattle.graph_laws.specs.Rest.{FreeNode}
use Rattle.finish_laws.specs.Wires.{ports_of}
use Rattle.finish_laws.specs.Drawn.{others, written, stands, Drawn, keep_in, in_keep}
use Rattle.finish_laws.specs.Twice.{count_map, count_same, count_either, all_in, places_of, Placed, placed_once, placed, across_placed, places_are}

-- ---- the places of a net

module _ (path k : ℕ) (g : Graph) (w : WellWired g) (h : Home) (node : FreeNode path g k h) (ids : List ℕ) (nodes : NodesOf g k ids) where
  -- ---- well wired

  module _ (t : FlatNet) (d : Drawn g ids h.free t) where
    -- a wire occurs at its two ports and at no other
    twice : (p : Port) → (Placed path k g w h node ids nodes) p → occurs (d.wire p) (places t) ≡ 2
    unfolding occurs
    twice p a =
        ap (count (eqb (d.wire p))) (places_are path k g w h node ids nodes t d) ∙ count_map (eqb (d.wire p)) d.wire (places_of path k g w h node ids nodes)
        ∙ count_same (λ q. eqb (d.wire p) (d.wire q)) (λ q. same_port p q || same_port (follow g p) q) (places_of path k g w h node ids nodes) (λ q m. same_test (eqb (d.wire p) (d.wire q)) (same_port p q || same_port (follow g p) q) (to q ((placed path k g w h node ids nodes) q m)) (from' q ((placed path k g w h node ids nodes) q m)))
        ∙ count_either (same_port p) (same_port (follow g p)) (places_of path k g w h node ids nodes) apart
        ∙ (let x = (placed_once path k g w h node ids nodes) p a in let y = (placed_once path k g w h node ids nodes) (follow g p) ((across_placed path k g w h node ids nodes) p a) in omega arith)
      where
        met : across g p ≡ some (follow g p)
        met = follow_across g w p a.real

        to : (q : Port) → (Placed path k g w h node ids nodes) q → eqb (d.wire p) (d.wire q) ≡ true → (same_port p q || same_port (follow g p) q) ≡ true
        to q b e = go ((d.same p q (a.in_net, a.real) (b.in_net, b.real)).0 (eqb-true (d.wire p) (d.wire q) e))
          where
            ors : (t : Bool) → same_port (follow g p) q ≡ true → (t || same_port (follow g p) q) ≡ true
            ors true z = refl
            ors false z = z

            go : (p ≡ q) ⊎ (across g p ≡ some q) → (same_port p q || same_port (follow g p) q) ≡ true
            go (inl s) = ap (λ (t : Bool). t || same_port (follow g p) q) (ap (same_port p) (sym s) ∙ same_port_self p)
            go (inr s) = ors (same_port p q) (ap (λ (x : Port). same_port x q) (across_follow g w p q s) ∙ same_port_self q)

        from' : (q : Port) → (Placed path k g w h node ids nodes) q → (same_port p q || same_port (follow g p) q) ≡ true → eqb (d.wire p) (d.wire q) ≡ true
        from' q b e = eq-eqb (d.wire p) (d.wire q) ((d.same p q (a.in_net, a.real) (b.in_net, b.real)).1 (go (same_port p q) refl e))
          where
            go : (t : Bool) → same_port p q ≡ t → (t || same_port (follow g p) q) ≡ true → (p ≡ q) ⊎ (across g p ≡ some q)
            go true s z = inl (same_port_true p q s)
            go false s z = inr (met ∙ ap {B = Option Port} some (same_port_true (follow g p) q z))

        apart : (q : Port) → same_port p q ≡ true → same_port (follow g p) q ≡ false
        apart q e = go (same_port (follow g p) q) refl
          where
            go : (t : Bool) → same_port (follow g p) q ≡ t → same_port (follow g p) q ≡ false
            go true s = absurd (w.wired.apart p (met ∙ ap {B = Option Port} some (same_port_true (follow g p) q s ∙ sym (same_port_true p q e))))
            go false s = s

    -- `wired`
    pub drawn_wired : flat_wired t ≡ true
    unfolding flat_wired wire_wired pair_wires
    drawn_wired = both_are (all (pair_wired (places t)) t.pairs) (all (wire_wired (places t) t.pairs) (places t))
        (ap (all (pair_wired (places t))) d.pairs)
        (all_in (wire_wired (places t) t.pairs) (places t) (λ v m. one v (map_of (places_of path k g w h node ids nodes) v (subst (Memᴰ v) (places_are path k g w h node ids nodes t d) m))))
      where
        map_of : (ps : List Port) (v : ℕ) → Memᴰ v (map d.wire ps) → (p : Port) × Memᴰ p ps × (v ≡ d.wire p)
        map_of [] v m = absurd (Memᴰ.not-nil m)
        map_of (p ∷ ps) v m = go (Memᴰ.cases_cons m) (map_of ps v)
          where
            go : (v ≡ d.wire p) ⊎ Memᴰ v (map d.wire ps) → (Memᴰ v (map d.wire ps) → (q : Port) × Memᴰ q ps × (v ≡ d.wire q)) → (q : Port) × Memᴰ q (p ∷ ps) × (v ≡ d.wire q)
            go (inl e) r = (p, Memᴰ.head refl, e)
            go (inr k) r = let y = r k in (y.0, Memᴰ.tail y.1, y.2)

        one : (v : ℕ) → (p : Port) × Memᴰ p (places_of path k g w h node ids nodes) × (v ≡ d.wire p) → wire_wired (places t) t.pairs v ≡ true
        one v (p, m, e) = ors (any (eqb v) (pair_wires t.pairs)) (eq-eqb (occurs v (places t)) 2 (ap (λ (u : ℕ). occurs u (places t)) e ∙ twice p ((placed path k g w h node ids nodes) p m)))
          where
            ors : (s : Bool) → eqb (occurs v (places t)) 2 ≡ true → (s || eqb (occurs v (places t)) 2) ≡ true
            ors true z = refl
            ors false z = z
