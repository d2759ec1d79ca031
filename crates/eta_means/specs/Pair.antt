-- Eta on two combinators, its edits: their principal ports are linked around, and between their aux ports each wire is cut or both nils go.
use Prim.Native.Nat.{ℕ, zero, suc, ◌+◌, ◌<◌, ◌≤◌}
use Rattle.std.specs.Prelude.{◌≡◌, ◌⊎◌, Bool, true, false}
use Rattle.std.proofs.Math.Path.{refl, subst}
use Rattle.std.proofs.Common.{sym, ap, ◌∙◌, inl, inr, length-append}
use Rattle.std.proofs.Math.Option.{Option, some}
use mathlib.Core.List.{List, [], ◌∷◌, ◌++◌, map, append_assoc, append-nil}
use Rattle.std.proofs.Math.ListN.{length}
use native.Mathlib.Omega.{arith}
use Rattle.words.specs.Choose.{eq_yes, eq_no}
use Rattle.words.specs.Left.{Left}
use Rattle.layout.specs.Layout
use Rattle.graph.specs.Graph.{remove_node, remove_wire}
use Rattle.graph.specs.Graph as Links
use Rattle.tried.specs.declared.Tried.{Tried}
use Rattle.tried.specs.declared.Tried.TheVariants.{Acted}
use Rattle.eta_values.specs.Values.{drop_value}
use Rattle.eta.specs.Eta as Words
use Rattle.net_file.specs.Values.{Name}
use Rattle.definitions.specs.Lists.{or_else, each, concat, from, up_to}
use Rattle.definitions.specs.Nets.{Port, Graph, port, same_port, arity, across, follow}
use Rattle.definitions.specs.Scripts.{Edit, Cut, join, cut, apply}
use Rattle.definitions.specs.Rules.{straight, eta_cuts, eta_nils}
use Rattle.definitions.specs.State.{Engine, graph_of, with_graph}
use Rattle.definitions.specs.Books.{link, fresh, edit}
use Rattle.join_laws.specs.Ports.{same_port_false, across_real}
use Rattle.script_laws.specs.Safe.{With, CanCut, Safe}
use Rattle.rule_laws.specs.Places as Places
use Rattle.rule_laws.specs.EtaPair.{Facing}
use Rattle.rule_laws.specs.EtaTidy as Law
use Rattle.graph_means.specs.Wires.{number_same}
use Rattle.means.specs.Means.{number}
use Rattle.script_means.specs.Dead.{Dead}
use Rattle.script_means.specs.Stage.{Stage, number_aux, number_principal, stage_cut, stage_join}
use Rattle.script_means.specs.Tries.{Came, Tries, Between, unless_spent, stage_begin, stage_remove}
use Rattle.eta_values_means.specs.Met.{aux_is}
use Rattle.eta_values_means.specs.Drops.{drop_value_stage}

-- a wire that can be cut is read of the words
across_read : (Named : ℕ → Name → Type 0) (x : ℕ → ℕ) (M : ℕ) (chain l : List ℕ) (k : ℕ) (g : Graph) (ws : List ℕ) (e : Engine) (U : Port → Type 0) (p q : Port)
    → Stage Named x M chain l k g ws e → CanCut g U p q → Layout.across ws (number p) ≡ number q
unfolding follow
across_read Named x M chain l k g ws e U p q s f =
    let n = s.edited.nodes in
    s.means.nodes.port p (rw n (across_real g p q f.wired)) ∙ ap (λ (h : Graph). number (or_else (across h p) p)) n ∙ ap (λ (o : Option Port). number (or_else o p)) f.wired

module _ (Named : ℕ → Name → Type 0) (x : ℕ → ℕ) (small : (k : ℕ) → x k ≤ 4294900000) (M : ℕ) (chain : List ℕ) (N : ℕ → ℕ) (g₀ : Graph) (F Z : Port → Type 0)
    (a b c : ℕ) (la : a < 4096) (lb : b < 4096) (few : c ≤ 15)
    (first : (i : ℕ) → i < c → straight N g₀ (port a (1 + i)) (port b (1 + i)) ≡ false
    → ((follow g₀ (port a (1 + i))).index ≡ 0) × ((follow g₀ (port b (1 + i))).index ≡ 0)) where
  abbrev P : ℕ → Port
  P i = port a (1 + i)

  abbrev Q : ℕ → Port
  Q i = port b (1 + i)

  -- the cuts between aux ports i, and the nils there
  abbrev E : ℕ → List Edit
  E i = eta_cuts N g₀ (P i) (Q i)

  abbrev nils : ℕ → List ℕ
  nils i = eta_nils N g₀ (P i) (Q i)

  -- n aux ports from the i-th on
  drop_all_straight_came : (n i : ℕ) → i + n ≤ c → (l all : List ℕ) → length l + (n + n) ≤ 32 → l ++ concat (map nils (from i n)) ≡ all
      → (g : Graph) (ws : List ℕ) (e : Engine) (U : Port → Type 0) → Stage Named x M chain l 0 g ws e → Safe F g U (concat (map E (from i n))) Z
      → Came Named all (record { is = Acted; ws = Words.drop_all_straight ws (number (P i)) (number (Q i)) n }) (each edit (concat (map E (from i n))) e)
  unfolding Words.drop_all_straight Words.drop_straight eta_cuts eta_nils straight edit apply
  drop_all_straight_came zero i h l all room is g ws e U s t = (refl, s.means, subst (Dead ws) (sym (append-nil l) ∙ is) s.dead)
  drop_all_straight_came (suc n) i h l all room is g ws e U s t =
      rw (number_aux a i la (omega arith), number_aux b i lb (omega arith))
      (go (same_port (follow g₀ (P i)) (Q i)) refl is t (λ l' r' i' g' ws' e' U' s' t'. drop_all_straight_came n (suc i) (omega arith) l' all r' i' g' ws' e' U' s' t'))
    where
      rest : List Edit
      rest = concat (map E (from (suc i) n))

      later : List ℕ
      later = concat (map nils (from (suc i) n))

      left : List ℕ → Left Tried
      left w = record { is = Acted; ws = Words.drop_all_straight w (number (P (suc i))) (number (Q (suc i))) n }

      go : (u : Bool) → same_port (follow g₀ (P i)) (Q i) ≡ u
          → l ++ (elim u as (λ _. List ℕ) [ true ↦ [] | false ↦ (follow g₀ (P i)).node ∷ (follow g₀ (Q i)).node ∷ [] ] ++ later) ≡ all
          → Safe F g U (elim u as (λ _. List Edit) [ true ↦ Cut (P i) (Q i) ∷ [] | false ↦ Cut (P i) (follow g₀ (P i)) ∷ Cut (Q i) (follow g₀ (Q i)) ∷ [] ] ++ rest) Z
          → ((l' : List ℕ) → length l' + (n + n) ≤ 32 → l' ++ later ≡ all → (g' : Graph) (ws' : List ℕ) (e' : Engine) (U' : Port → Type 0)
          → Stage Named x M chain l' 0 g' ws' e' → Safe F g' U' rest Z → Came Named all (left ws') (each edit rest e'))
          → Came Named all (left (Words.drop_straight ws (number (P i)) (number (Q i))))
          (each edit (elim u as (λ _. List Edit) [ true ↦ Cut (P i) (Q i) ∷ [] | false ↦ Cut (P i) (follow g₀ (P i)) ∷ Cut (Q i) (follow g₀ (Q i)) ∷ [] ] ++ rest) e)
      go true d is t ih =
          subst (λ (w : List ℕ). Came Named all (left w) (each edit rest (with_graph (cut (graph_of e) (P i) (Q i)) e)))
          (eq_yes _ _ _ _ (across_read Named x M chain l 0 g ws e U (P i) (Q i) s t.0) refl)
          (ih l (omega arith) is (cut g (P i) (Q i)) (remove_wire ws (number (P i)) (number (Q i))) (with_graph (cut (graph_of e) (P i) (Q i)) e) (With U (P i) (Q i))
          (stage_cut Named x small M chain (λ j. 0) l 0 g ws e s U (P i) (Q i) t.0) t.1)
      go false d is t ih =
          let p' = follow g₀ (P i) in
          let q' = follow g₀ (Q i) in
          let z = first i (omega arith) d in
          let e1 = with_graph (cut (graph_of e) (P i) p') e in
          let w1 = drop_value ws (number (P i)) in
          let l1 = l ++ p'.node ∷ [] in
          let long = length-append l (p'.node ∷ []) in
          let long' = length-append l1 (q'.node ∷ []) in
          let zp = z.0 in
          let s1 : Stage Named x M chain l1 0 (cut g (P i) p') w1 e1 = drop_value_stage Named x small M chain l 0 g ws e U (P i) p' s t.0 z.0 (omega arith) in
          let s2 = drop_value_stage Named x small M chain l1 0 (cut g (P i) p') w1 e1 (With U (P i) p') (Q i) q' s1 t.1.0 z.1 (omega arith) in
          subst (λ (w : List ℕ). Came Named all (left w) (each edit rest (with_graph (cut (graph_of e1) (Q i) q') e1)))
          (eq_no _ _ _ _ (λ k. same_port_false p' (Q i) d (number_same p' (Q i) (omega arith) (omega arith) (sym (across_read Named x M chain l 0 g ws e U (P i) p' s t.0) ∙ k))) refl)
          (ih (l1 ++ q'.node ∷ []) (omega arith)
          (append_assoc l1 (q'.node ∷ []) later ∙ append_assoc l (p'.node ∷ []) (q'.node ∷ later) ∙ is)
          (cut (cut g (P i) p') (Q i) q') (drop_value w1 (number (Q i))) (with_graph (cut (graph_of e1) (Q i) q') e1) (With (With U (P i) p') (Q i) q') s2 t.1.1)

module _ (Named : ℕ → Name → Type 0) (x : ℕ → ℕ) (small : (k : ℕ) → x k ≤ 4294900000) (ws : List ℕ) (e : Engine) (t : Between Named x ws e)
    (a b : ℕ) (la : a < 4096) (lb : b < 4096) (c : ℕ) (f : Facing (graph_of e) a b c) where
  abbrev g : Graph
  g = graph_of e

  -- where aux ports do not face each other they meet principal ports
  firsts : (i : ℕ) → i < c → straight (fresh e) g (port a (1 + i)) (port b (1 + i)) ≡ false → ((follow g (port a (1 + i))).index ≡ 0) × ((follow g (port b (1 + i))).index ≡ 0)
  unfolding straight
  firsts i h d = go (f.meets i h)
    where
      go : (follow g (port a (1 + i)) ≡ port b (1 + i)) ⊎ ((arity g (follow g (port a (1 + i))).node ≡ 1) × (arity g (follow g (port b (1 + i))).node ≡ 1))
          → ((follow g (port a (1 + i))).index ≡ 0) × ((follow g (port b (1 + i))).index ≡ 0)
      go (inl s) = absurd (same_port_false (follow g (port a (1 + i))) (port b (1 + i)) d s)
      go (inr s) =
          let y = f.size_a in
          let z = f.size_b in
          let p = Places.follow_real g t.wired (port a (1 + i)) (omega arith) in
          let q = Places.follow_real g t.wired (port b (1 + i)) (omega arith) in
          let sp = s.0 in
          let sq = s.1 in
          (omega arith, omega arith)

  -- a wire comes in place of both nodes and of what is between them
  pub pair_acts : Tries Named ws e (Words.act_combinators ws a b c) (some (Law.paired (fresh e) g t.wired a b c f))
  unfolding Words.act_combinators Words.join_around edit apply
  pair_acts =
      let M = length e.nets in
      let chain = e.slots.chain in
      let F = Law.Ends (fresh e) g t.wired a b c f in
      let few = t.means.nodes.few a in
      let size = f.size_a in
      let w1 = remove_node ws a in
      let w2 = remove_node w1 b in
      let safe = (Law.paired_tidy (fresh e) g t.wired a b c f).safe in
      let s1 : Stage Named x M chain (a ∷ []) 0 g w1 e = stage_remove Named x M chain [] 0 g ws e a (stage_begin Named x ws e t) (omega arith) in
      let s2 : Stage Named x M chain (a ∷ b ∷ []) 0 g w2 e = stage_remove Named x M chain (a ∷ []) 0 g w1 e b s1 (omega arith) in
      let s3 = stage_join Named x small M chain (λ j. 0) (a ∷ b ∷ []) 0 g w2 e s2 (λ _. ⊥) (port a 0) (port b 0) safe.0 in
      let all : List ℕ = a ∷ b ∷ concat (map (λ i. eta_nils (fresh e) g (port a (1 + i)) (port b (1 + i))) (up_to c)) in
      unless_spent Named ws e t.means t.good.stepped all _ _
      (rw (aux_is a la, aux_is b lb, number_principal a la, number_principal b lb)
      (drop_all_straight_came Named x small M chain (fresh e) g F F a b c la lb (omega arith) firsts c 0 (omega arith) (a ∷ b ∷ []) all (omega arith) refl
      (join g (port a 0) (port b 0)) (Links.link w2 (number (port a 0)) (number (port b 0))) (link (port a 0) (port b 0) e) (With (λ _. ⊥) (port a 0) (port b 0)) s3 safe.1))
