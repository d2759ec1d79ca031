-- The values that a node meets are to go, the wires to them are cut: each is read of the words when its turn comes.
use Prim.Native.Nat.{ℕ, zero, suc, ◌+◌, ◌<◌, ◌≤◌}
use Rattle.std.specs.Prelude.{◌≡◌, length}
use Rattle.std.proofs.Math.Path.{refl, ap}
use Rattle.std.proofs.Common.{sym, ◌∙◌, subst, arith}
use Rattle.std.proofs.Math.Option.{Option}
use mathlib.Core.List.{List, [], ◌∷◌, ◌++◌, map, append_assoc, append-nil}
use Rattle.std.proofs.Math.ListN.{length-append}
use Rattle.words.specs.Left.{Left}
use Rattle.graph.specs.Graph as Words
use Rattle.tried.specs.declared.Tried.{Tried}
use Rattle.eta_values.specs.Values.{meets, drop_value, drop_values}
use Rattle.net_file.specs.Values.{Name}
use Rattle.definitions.specs.Lists.{or_else, each, from}
use Rattle.definitions.specs.Nets.{Port, Graph, port, across, follow}
use Rattle.definitions.specs.Scripts.{Edit, Cut, cut, apply}
use Rattle.definitions.specs.State.{Engine, graph_of, with_graph}
use Rattle.definitions.specs.Books.{edit}
use Rattle.join_laws.specs.Ports.{same_port_lem, Real, across_real}
use Rattle.script_laws.specs.Safe.{With, CanCut, Safe}
use Rattle.means.specs.Means.{number}
use Rattle.means.specs.Frame.{real_inside}
use Rattle.script_means.specs.Stage.{Stage, number_aux, number_principal, stage_cut}
use Rattle.script_means.specs.Tries.{Came, stage_remove}
use Rattle.eta_values_means.specs.Met.{meets_is}

module _ (Named : ℕ → Name → Type 0) (x : ℕ → ℕ) (small : (k : ℕ) → x k ≤ 4294900000) (M : ℕ) (chain : List ℕ) where
  -- what port p meets, a principal port, is to go, and the wire is cut
  pub drop_value_stage : (l : List ℕ) (k : ℕ) (g : Graph) (ws : List ℕ) (e : Engine) (U : Port → Type 0) (p q : Port) → Stage Named x M chain l k g ws e → CanCut g U p q → q.index ≡ 0 → length l < 32
      → Stage Named x M chain (l ++ q.node ∷ []) k (cut g p q) (drop_value ws (number p)) (with_graph (cut (graph_of e) p q) e)
  unfolding drop_value follow
  drop_value_stage l k g ws e U p q s f first room =
      let n = s.edited.nodes in
      let real : Real (graph_of e) p = rw n (across_real g p q f.wired) in
      let other : Real (graph_of e) q = rw n (across_real g q p (s.wired.back p q f.wired)) in
      let low = (real_inside s.means.nodes q other).0 in
      let few = s.means.header.few_nodes in
      let meet : meets ws (number p) ≡ q.node
      = meets_is Named ws e s.means (rw n s.wired) p real ∙ ap (λ (h : Graph). (or_else (across h p) p).node) n ∙ ap (λ (o : Option Port). (or_else o p).node) f.wired in
      let is : port q.node 0 ≡ q = same_port_lem (port q.node 0) q refl (sym first) in
      let s1 = stage_remove Named x M chain l k g ws e q.node s room in
      rw (meet, number_principal q.node (omega arith))
      (rw (ap number is) (stage_cut Named x small M chain (λ i. 0) (l ++ q.node ∷ []) k g (Words.remove_node ws q.node) e s1 U p q f))

  module _ (F Z : Port → Type 0) (a : ℕ) (low : a < 4096) (Q : ℕ → Port) (c : ℕ) (zero_at : (i : ℕ) → i < c → (Q i).index ≡ 0) (few : c ≤ 15) where
    -- aux port i
    abbrev P : ℕ → Port
    P i = port a (1 + i)

    -- n values from aux port i on, then what follows
    pub drop_values_came : (n i k : ℕ) → i + n ≤ c → (l all : List ℕ) → length l + n ≤ 32 → l ++ map (λ i. (Q i).node) (from i n) ≡ all
        → (g : Graph) (ws : List ℕ) (e : Engine) (U : Port → Type 0) (ds : List Edit) (f : List ℕ → Left Tried)
        → Stage Named x M chain l k g ws e → Safe F g U (map (λ i. Cut (P i) (Q i)) (from i n) ++ ds) Z
        → ((g' : Graph) (ws' : List ℕ) (e' : Engine) (U' : Port → Type 0) → Stage Named x M chain all k g' ws' e' → Safe F g' U' ds Z → Came Named all (f ws') (each edit ds e'))
        → Came Named all (f (drop_values ws (number (P i)) n)) (each edit (map (λ i. Cut (P i) (Q i)) (from i n) ++ ds) e)
    unfolding drop_values edit apply
    drop_values_came zero i k h l all room is g ws e U ds f s t then =
        then g ws e U (subst (λ (d : List ℕ). Stage Named x M chain d k g ws e) (sym (append-nil l) ∙ is) s) t
    drop_values_came (suc n) i k h l all room is g ws e U ds f s t then =
        let long = length-append l ((Q i).node ∷ []) in
        rw (number_aux a i low (omega arith))
        (drop_values_came n (suc i) k (omega arith) (l ++ (Q i).node ∷ []) all (omega arith) (append_assoc l ((Q i).node ∷ []) (map (λ i. (Q i).node) (from (suc i) n)) ∙ is)
        (cut g (P i) (Q i)) (drop_value ws (number (P i))) (with_graph (cut (graph_of e) (P i) (Q i)) e) (With U (P i) (Q i)) ds f
        (drop_value_stage l k g ws e U (P i) (Q i) s t.0 (zero_at i (omega arith)) (omega arith)) t.1 then)
