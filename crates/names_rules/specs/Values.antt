-- Eta on values writes no net's name: the value that comes in is of the node's net.
use Prim.Native.Nat.{ℕ, zero, suc, ◌+◌, ◌-◌, ◌<◌, ◌≤◌}
use Rattle.std.specs.Prelude.{◌≡◌, Bool, true, false, ◌&&◌, get_or, eqb}
use Rattle.std.proofs.Math.Path.{refl}
use Rattle.std.proofs.Common.{sym, ◌∙◌, subst, eqb-true}
use mathlib.Core.List.{List, [], ◌∷◌, ◌++◌, map, append_assoc, append-nil}
use Rattle.std.proofs.Math.ListN.{length, length-append}
use Rattle.std.proofs.Math.Decide.{ℕ_discrete}
use native.Mathlib.Omega.{arith}
use Rattle.words.specs.Choose.{pick}
use Rattle.words.specs.Left.{Left}
use Rattle.layout.specs.Layout.{principal}
use Rattle.graph.specs.Graph as Words
use Rattle.edits.specs.declared.Placed.{Placed}
use Rattle.edits.specs.Edits.{on_placed, insert_node}
use Rattle.rule_sets.specs.Sets.{value}
use Rattle.tried.specs.declared.Tried.{Tried}
use Rattle.tried.specs.declared.Tried.TheVariants.{Passed, Acted, Refused}
use Rattle.tried.specs.Tries as Word
use Rattle.eta_values.specs.Values.{meets, all_values, drop_value, drop_values, remove_values, put_value, act_values, eta_values_words}
use Rattle.net_file.specs.Lists.{Result, ok, refuse, all}
use Rattle.net_file.specs.Values.{Name}
use Rattle.net_file.specs.Checks.{same_name}
use Rattle.definitions.specs.Lists.{from, up_to}
use Rattle.definitions.specs.Nets.{Port, Node, Graph, port, at, filled, name_of, arity, follow}
use Rattle.definitions.specs.Scripts.{Edit, Insert, Join, Cut, fill, cut, apply}
use Rattle.definitions.specs.Rules.{new}
use Rattle.definitions.specs.State.{Engine, graph_of, with_graph}
use Rattle.definitions.specs.Books.{fresh, edit}
use Rattle.script_laws.specs.Safe.{With, Safe}
use Rattle.script_laws.specs.Tidy.{real_filled}
use Rattle.rule_laws.specs.Places as Places
use Rattle.rule_laws.specs.Rows.{all_row}
use Rattle.rule_laws.specs.EtaValues as Law
use Rattle.means.specs.Means.{number}
use Rattle.means.specs.Frame.{rest_trans}
use Rattle.good_means.specs.Room.{net_inside_lem}
use Rattle.script_means.specs.Stage.{Stage, number_aux, number_principal}
use Rattle.script_means.specs.Inserts.{Inserts, stage_insert}
use Rattle.script_means.specs.Tries.{Between, slot_low, name_read, stage_begin, stage_remove}
use Rattle.erase_means.specs.Part.{good_fresh}
use Rattle.eta_values_means.specs.Met.{SameOnes, aux_is, meets_is, met_filled, no_values, all_values_is}
use Rattle.eta_values_means.specs.Drops.{drop_value_stage}
use Rattle.names_means.specs.Kept.{Kept, kept_all}
use Rattle.names_means.specs.Links.{stage_link_names, remove_node_names, remove_wire_names}
use Rattle.names_rules.specs.Steps.{pick_names, inserts_names}

-- one value is put in and linked with the principal port of a
module _ (Named : ℕ → Name → Type 0) (x : ℕ → ℕ) (small : (k : ℕ) → x k ≤ 4294900000) (M : ℕ) (chain : List ℕ) (default : ℕ → ℕ) (l : List ℕ) (F Z : Port → Type 0)
    (y : Node) (name : ℕ) (one : length y.ports ≡ 1) (below : y.net < M) (named : Named name y.name) (a : ℕ) (low : a < 4096) where
  -- the number of the new node
  abbrev n : ℕ
  n = get_or chain 0 (default 0)

  put_value_names : (g : Graph) (ws : List ℕ) (e : Engine) (U : Port → Type 0) → Stage Named x M chain l 0 g ws e → Safe F g U (Insert n y ∷ Join (port a 0) (port n 0) ∷ []) Z
      → Kept ws (put_value ws (y.net + 1) a name).ws
  unfolding put_value apply on_placed
  put_value_names g ws e U s t =
      go (edit (Insert n y) e) (subst (λ (k : ℕ). Inserts Named x M chain l 0 g n y (insert_node ws (y.net + 1) name k) (edit (Insert n y) e)) one
      (stage_insert Named x small M chain default l 0 g ws e s F n y name t.0 refl below named (omega arith)))
    where
      made : Left Placed
      made = insert_node ws (y.net + 1) name 1

      go : (r : Result Engine) → Inserts Named x M chain l 0 g n y made r
          → Kept ws (on_placed {A = Left Tried} made.is
          (λ m. record { is = Acted; ws = Words.link made.ws (principal a) (principal m) }) (λ c. record { is = Refused c; ws = made.ws })).ws
      go (ok e') d =
          rw (d.0, number_principal n d.2, number_principal a low)
          (rest_trans (inserts_names Named x M chain l 0 g n y ws (y.net + 1) name 1 (omega arith) (ok e') d)
          (stage_link_names Named x M chain l 1 (fill g n y) made.ws e' d.1 U (port a 0) (port n 0) t.1.0))
      go (refuse c) d = rw d (inserts_names Named x M chain l 0 g n y ws (y.net + 1) name 1 (omega arith) (refuse c) d)

module _ (Named : ℕ → Name → Type 0) (x : ℕ → ℕ) (small : (k : ℕ) → x k ≤ 4294900000) (M : ℕ) (chain : List ℕ) (F Z : Port → Type 0) (a : ℕ) (low : a < 4096) (Q : ℕ → Port) (c : ℕ)
    (zero_at : (i : ℕ) → i < c → (Q i).index ≡ 0) (few : c ≤ 15) where
  -- aux port i
  abbrev P : ℕ → Port
  P i = port a (1 + i)

  drop_value_names : (l : List ℕ) (k : ℕ) (g : Graph) (ws : List ℕ) (e : Engine) → Stage Named x M chain l k g ws e → length l < 32 → (p : ℕ) → Kept ws (drop_value ws p)
  unfolding drop_value
  drop_value_names l k g ws e s room p =
      rest_trans (remove_node_names ws l (meets ws p) s.dead room) (remove_wire_names (Words.remove_node ws (meets ws p)) p (principal (meets ws p)))

  -- n values from aux port i on, then what follows
  drop_values_names : (n i k : ℕ) → i + n ≤ c → (l all : List ℕ) → length l + n ≤ 32 → l ++ map (λ i. (Q i).node) (from i n) ≡ all
      → (g : Graph) (ws : List ℕ) (e : Engine) (U : Port → Type 0) (ds : List Edit) (f : List ℕ → Left Tried)
      → Stage Named x M chain l k g ws e → Safe F g U (map (λ i. Cut (P i) (Q i)) (from i n) ++ ds) Z
      → ((g' : Graph) (ws' : List ℕ) (e' : Engine) (U' : Port → Type 0) → Stage Named x M chain all k g' ws' e' → Safe F g' U' ds Z → Kept ws' (f ws').ws)
      → Kept ws (f (drop_values ws (number (P i)) n)).ws
  unfolding drop_values apply
  drop_values_names zero i k h l all room is g ws e U ds f s t then =
      then g ws e U (subst (λ (d : List ℕ). Stage Named x M chain d k g ws e) (sym (append-nil l) ∙ is) s) t
  drop_values_names (suc n) i k h l all room is g ws e U ds f s t then =
      let long = length-append l ((Q i).node ∷ []) in
      rw (number_aux a i low (omega arith))
      (rest_trans (drop_value_names l k g ws e s (omega arith) (number (P i)))
      (drop_values_names n (suc i) k (omega arith) (l ++ (Q i).node ∷ []) all (omega arith) (append_assoc l ((Q i).node ∷ []) (map (λ i. (Q i).node) (from (suc i) n)) ∙ is)
      (cut g (P i) (Q i)) (drop_value ws (number (P i))) (with_graph (cut (graph_of e) (P i) (Q i)) e) (With U (P i) (Q i)) ds f
      (drop_value_stage Named x small M chain l k g ws e U (P i) (Q i) s t.0 (zero_at i (omega arith)) (omega arith)) t.1 then))

module _ (Named : ℕ → Name → Type 0) (file sets : List ℕ) (r : ℕ) (x : ℕ → ℕ) (small : (k : ℕ) → x k ≤ 4294900000) (ws : List ℕ) (e : Engine) (t : Between Named x ws e)
    (same : SameOnes file ws e) (a : ℕ) (more : 2 ≤ arity (graph_of e) a) where
  abbrev g : Graph
  g = graph_of e

  -- the number of aux ports
  abbrev c : ℕ
  c = arity g a - 1

  -- what aux port i meets
  abbrev Q : ℕ → Port
  Q i = follow g (port a (1 + i))

  -- its name at the first
  abbrev name : Name
  name = name_of g (Q 0).node

  there : filled g a ≡ true
  there = real_filled g (port a 0) (omega arith)

  low : a < 4096
  low = slot_low Named ws e t.means a there

  -- the place of that name
  place : ℕ
  place = Word.name ws (Q 0).node

  named : Named place name
  unfolding place
  named = name_read Named ws e t.means (Q 0).node (met_filled Named ws e t.means t.wired.wired (port a (1 + 0)) (omega arith))

  -- where every aux port meets a node of one port
  acts : (bare : (i : ℕ) → i < c → arity g (Q i).node ≡ 1) → Kept ws (act_values ws ((at g a).net + 1) a c place).ws
  unfolding act_values remove_values fresh new
  acts bare =
      let f = good_fresh x e t.good in
      let F = Law.Ends (fresh e) g t.wired f a name more bare in
      let few = t.means.nodes.few a in
      let all : List ℕ = a ∷ map (λ i. (Q i).node) (up_to c) in
      let M = length e.nets in
      let chain = e.slots.chain in
      let s = stage_begin Named x ws e t in
      let first : (i : ℕ) → i < c → (Q i).index ≡ 0 = λ i h. let b = bare i h in let z = Places.follow_real g t.wired (port a (1 + i)) (omega arith) in omega arith in
      pick_names ws (Word.spent ws) (record { is = Refused 14; ws = ws }) _ (kept_all ws)
      (rest_trans (remove_node_names ws [] a s.dead (omega arith)) (rw (aux_is a low)
      (drop_values_names Named x small M chain F F a low Q c first (omega arith) c 0 0 (omega arith) (a ∷ []) all (omega arith) refl g (Words.remove_node ws a) e (λ _. ⊥)
      (Insert (fresh e 0) (new (at g a).net name 1) ∷ Join (port a 0) (port (fresh e 0) 0) ∷ [])
      (λ (w : List ℕ). put_value w ((at g a).net + 1) a place)
      (stage_remove Named x M chain [] 0 g ws e a s (omega arith)) (Law.reduced_tidy (fresh e) g t.wired f a name more bare).safe
      (λ g' ws' e' U' s' t'.
      put_value_names Named x small M chain (λ i. length g + i) all F F (new (at g a).net name 1) place refl (net_inside_lem Named ws e t.means x t.good a there) named a low g' ws' e' U' s' t'))))

  pub eta_values_names : (net k : ℕ) → net ≡ (at (graph_of e) a).net + 1 → k ≡ arity (graph_of e) a - 1 → Kept ws (eta_values_words ws file sets r net a k).ws
  unfolding eta_values_words place pick
  eta_values_names net k is count =
      rw (is, count, aux_is a low, meets_is Named ws e t.means t.wired.wired (port a (1 + 0)) (omega arith))
      (pick_names ws (value file sets r (Word.name ws (Q 0).node)) _ passed (by_first (ℕ_discrete (arity g (Q 0).node) 1)) (kept_all ws))
    where
      tried : Left Tried
      tried = act_values ws ((at g a).net + 1) a c (Word.name ws (Q 0).node)

      passed : Left Tried
      passed = record { is = Passed; ws = ws }

      ones : Bool
      ones = all (λ n. eqb (arity g n) 1) (map (λ i. (Q i).node) (up_to c))

      go : (u v : Bool) → (u ≡ true → Kept ws tried.ws) → Kept ws (pick (u && v) tried passed).ws
      go true true h = h refl
      go true false h = kept_all ws
      go false v h = kept_all ws

      -- by the number of ports at the first aux port
      by_first : Dec (arity g (Q 0).node ≡ 1) → Kept ws (pick (all_values ws file (number (port a (1 + 0))) c (Word.name ws (Q 0).node)) tried passed).ws
      by_first (yes i) =
          rw (all_values_is Named ws e t.means t.wired.wired file same (Q 0).node i a low c 0 (omega arith))
          (go ones (all (λ n. same_name (name_of g n) name) (map (λ i. (Q i).node) (up_to c)))
          (λ h. acts (λ i l. eqb-true (arity g (Q i).node) 1 (all_row (λ j. (Q j).node) (λ n. eqb (arity g n) 1) c 0 h i (omega arith) (omega arith)))))
      by_first (no i) = rw (no_values Named ws e t.means t.wired.wired file (port a (1 + 0)) (omega arith) i c (Word.name ws (Q 0).node) (omega arith)) (kept_all ws)
