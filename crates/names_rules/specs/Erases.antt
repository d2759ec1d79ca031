-- `erase` writes no net's name: the erasers are of the pair's net.
use Prim.Native.Nat.{ℕ, zero, suc, ◌+◌, ◌-◌, ◌<◌, ◌≤◌}
use Rattle.std.specs.Prelude.{◌≡◌, List, [], ◌∷◌, get_or}
use Rattle.std.proofs.Math.Path.{refl}
use Rattle.std.proofs.Common.{sym, ◌∙◌, subst}
use Rattle.std.proofs.Math.Option.{some}
use Rattle.std.proofs.Math.ListN.{length}
use native.Mathlib.Omega.{arith}
use Rattle.words.specs.Choose.{eq_split}
use Rattle.words.specs.Left.{Left}
use Rattle.layout.specs.Layout.{next, less, principal}
use Rattle.graph.specs.Graph as Words
use Rattle.edits.specs.declared.Placed.{Placed}
use Rattle.edits.specs.Edits.{on_placed, insert_node}
use Rattle.tried.specs.declared.Tried.{Tried}
use Rattle.tried.specs.declared.Tried.TheVariants.{Passed, Refused}
use Rattle.tried.specs.Tries as Node
use Rattle.erase.specs.Erase.{erase_ports, part, act, erase}
use Rattle.net_file.specs.Lists.{Result, ok, refuse, concat_map}
use Rattle.net_file.specs.Values.{Name}
use Rattle.definitions.specs.Lists.{from}
use Rattle.definitions.specs.Nets
use Rattle.definitions.specs.Nets.{Port, Graph, port, at, arity, across}
use Rattle.definitions.specs.Scripts.{Insert, fill, join, cut, apply}
use Rattle.definitions.specs.State.{Engine, graph_of, with_graph}
use Rattle.definitions.specs.Books.{link, fresh, edit}
use Rattle.script_laws.specs.Safe.{With, Safe}
use Rattle.script_laws.specs.Loops.{hung}
use Rattle.rule_laws.specs.Erase as Law
use Rattle.rule_laws.proofs.Erase as LawProofs
use Rattle.means.specs.Means.{number}
use Rattle.means.specs.Frame.{rest_trans}
use Rattle.good_means.specs.Room.{net_inside_lem}
use Rattle.script_means.specs.Stage.{Stage, number_aux, number_first, number_principal, stage_join}
use Rattle.script_means.specs.Inserts.{Inserts, stage_insert}
use Rattle.script_means.specs.Tries.{Between, name_read, arity_read}
use Rattle.erase_means.specs.Part.{good_fresh, pair, low_b, part_stage}
use Rattle.names_means.specs.Kept.{Kept, kept_all}
use Rattle.names_means.specs.Links.{stage_link_names}
use Rattle.names_rules.specs.Steps.{pick_names, part_names, inserts_names}

module _ (Named : ℕ → Name → Type 0) (x : ℕ → ℕ) (small : (k : ℕ) → x k ≤ 4294900000) (M : ℕ) (chain : List ℕ) (default : ℕ → ℕ) (l : List ℕ) (F Z : Port → Type 0)
    (y : Nets.Node) (name : ℕ) (one : length y.ports ≡ 1) (below : y.net < M) (named : Named name y.name) (b : ℕ) (low : b < 4096) where
  -- the number of the k-th new node
  abbrev N : ℕ → ℕ
  N k = get_or chain k (default k)

  -- aux port i
  abbrev P : ℕ → Port
  P i = port b (1 + i)

  erase_ports_names : (n i : ℕ) → 1 + i + n ≤ 16 → (g : Graph) (ws : List ℕ) (e : Engine) (U : Port → Type 0) → Stage Named x M chain l i g ws e
      → Safe F g U (concat_map (hung P N y) (from i n)) Z → Kept ws (erase_ports ws (y.net + 1) name (number (P i)) n).ws
  unfolding erase_ports apply on_placed
  erase_ports_names zero i h g ws e U s f = kept_all ws
  erase_ports_names (suc n) i h g ws e U s f =
      go (edit (Insert (N i) y) e) (subst (λ (k : ℕ). Inserts Named x M chain l i g (N i) y (insert_node ws (y.net + 1) name k) (edit (Insert (N i) y) e)) one
      (stage_insert Named x small M chain default l i g ws e s F (N i) y name f.0 refl below named (omega arith)))
      (λ ws' e' s'. erase_ports_names n (suc i) (omega arith) (join (fill g (N i) y) (P i) (port (N i) 0)) ws' e' (With U (P i) (port (N i) 0)) s' f.1.1)
    where
      new : Left Placed
      new = insert_node ws (y.net + 1) name 1

      go : (r : Result Engine) → Inserts Named x M chain l i g (N i) y new r
          → ((ws' : List ℕ) (e' : Engine) → Stage Named x M chain l (suc i) (join (fill g (N i) y) (P i) (port (N i) 0)) ws' e' → Kept ws' (erase_ports ws' (y.net + 1) name (number (P (suc i))) n).ws)
          → Kept ws (on_placed {A = Left Tried} new.is
          (λ m. erase_ports (Words.link new.ws (number (P i)) (principal m)) (y.net + 1) name (next (number (P i))) n) (λ c. record { is = Refused c; ws = new.ws })).ws
      go (ok e') d ih =
          rw (d.0, number_principal (N i) d.2, number_aux b i low (omega arith))
          (rest_trans (rest_trans (inserts_names Named x M chain l i g (N i) y ws (y.net + 1) name 1 (omega arith) (ok e') d)
          (stage_link_names Named x M chain l (suc i) (fill g (N i) y) new.ws e' d.1 U (P i) (port (N i) 0) f.1.0))
          (ih (Words.link new.ws (number (P i)) (number (port (N i) 0))) (link (P i) (port (N i) 0) e')
          (stage_join Named x small M chain default l (suc i) (fill g (N i) y) new.ws e' d.1 U (P i) (port (N i) 0) f.1.0)))
      go (refuse c) d ih = rw d (inserts_names Named x M chain l i g (N i) y ws (y.net + 1) name 1 (omega arith) (refuse c) d)

module _ (Named : ℕ → Name → Type 0) (x : ℕ → ℕ) (small : (k : ℕ) → x k ≤ 4294900000) (ws : List ℕ) (e : Engine) (t : Between Named x ws e)
    (a b : ℕ) (met : across (graph_of e) (port a 0) ≡ some (port b 0)) where
  abbrev g : Graph
  g = graph_of e

  -- the pair goes, and the erasers come
  acts : (bare : arity g a ≡ 1) → Kept ws (act ws ((at g a).net + 1) a b).ws
  unfolding act edit apply fresh
  acts bare =
      let m = pair Named x small ws e t a b met in
      let lb = low_b Named x small ws e t a b met in
      let f = good_fresh x e t.good in
      let few = t.means.nodes.few b in
      let size : less (Node.arity ws b) ≡ arity g b - 1 = let r = arity_read Named ws e t.means b m.filled_b in let p = m.ports_b in omega arith in
      let F = Law.Ends (fresh e) g t.wired f a b met bare in
      rest_trans (part_names Named x ws e t a b) (rw (number_first b lb, size)
      (erase_ports_names Named x small (length e.nets) e.slots.chain (λ i. length g + i) (a ∷ b ∷ []) F F (Law.eraser (fresh e) g t.wired f a b met bare) (Node.name ws a)
      refl (net_inside_lem Named ws e t.means x t.good a m.filled_a) (name_read Named ws e t.means a m.filled_a) b lb (arity g b - 1) 0 (omega arith)
      (cut g (port a 0) (port b 0)) (part ws a b) (with_graph (cut g (port a 0) (port b 0)) e) (With (λ _. ⊥) (port a 0) (port b 0))
      (part_stage Named x small ws e t a b met) (Law.erased_tidy (fresh e) g t.wired f a b met bare).safe.1))

  pub erase_names : (net : ℕ) → net ≡ (at (graph_of e) a).net + 1 → Kept ws (erase ws net a b).ws
  unfolding erase
  erase_names net is =
      let ra = arity_read Named ws e t.means a (pair Named x small ws e t a b met).filled_a in
      rw is (eq_split (Node.arity ws a) 1 _ (record { is = Passed; ws = ws }) (λ (l : Left Tried). Kept ws l.ws)
      (λ q. pick_names ws (Node.spent ws) (record { is = Refused 14; ws = ws }) (act ws ((at g a).net + 1) a b) (kept_all ws) (acts (sym ra ∙ q))) (λ q. kept_all ws))
