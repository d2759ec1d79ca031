-- `erase` on words that mean an engine: for each aux port of the node an eraser is put in and linked, in the order of the script; 9 and 10
-- come where level Engine says them.
use Prim.Native.Nat.{ℕ, zero, suc, ◌+◌, ◌-◌, ◌<◌, ◌≤◌}
use Rattle.std.specs.Prelude.{◌≡◌, Bool, true, false, List, [], ◌∷◌, get_or, eqb}
use Rattle.std.proofs.Math.Path.{refl}
use Rattle.std.proofs.Common.{subst, eqb-true}
use Rattle.std.proofs.Math.Option.{some}
use Rattle.std.proofs.Math.ListN.{length}
use native.Mathlib.Omega.{arith}
use Rattle.words.specs.Choose.{pick, if_eq}
use Rattle.words.specs.Left.{Left}
use Rattle.layout.specs.Layout.{next, less, principal}
use Rattle.graph.specs.Graph as Words
use Rattle.edits.specs.declared.Placed.{Placed}
use Rattle.edits.specs.Edits.{on_placed, insert_node}
use Rattle.tried.specs.declared.Tried.{Tried}
use Rattle.tried.specs.declared.Tried.TheVariants.{Passed, Refused}
use Rattle.tried.specs.Tries as Node
use Rattle.erase.specs.Erase.{erase_ports, part, act, erase}
use Rattle.net_file.specs.Lists.{Result, ok, refuse, concat_map}
use Rattle.net_file.specs.Values.{Name}
use Rattle.definitions.specs.Lists.{◌>>=◌, given, each, from, up_to}
use Rattle.definitions.specs.Nets
use Rattle.definitions.specs.Nets.{Port, Graph, port, at, name_of, arity, across}
use Rattle.definitions.specs.Scripts.{Insert, Cut, Script, fill, join, cut, apply}
use Rattle.definitions.specs.Rules.{new, hang, erase_script}
use Rattle.definitions.specs.State.{Engine, graph_of, with_graph}
use Rattle.definitions.specs.Books.{link, fresh, edit}
use Rattle.script_laws.specs.Safe.{With, Safe}
use Rattle.script_laws.specs.Loops.{hung}
use Rattle.rule_laws.specs.Erase as Law
use Rattle.rule_laws.proofs.Erase as LawProofs
use Rattle.means.specs.Means.{number}
use Rattle.good_means.specs.Room.{net_inside_lem}
use Rattle.script_means.specs.Stage.{Stage, number_aux, number_first, number_principal, stage_join}
use Rattle.script_means.specs.Inserts.{Inserts, stage_insert}
use Rattle.script_means.specs.Tries.{Came, Tries, Between, name_read, arity_read, unless_spent}
use Rattle.erase_means.specs.Part.{good_fresh, pair, low_a, low_b, part_stage}

module _ (Named : ℕ → Name → Type 0) (x : ℕ → ℕ) (small : (k : ℕ) → x k ≤ 4294900000) (M : ℕ) (chain : List ℕ) (default : ℕ → ℕ) (l : List ℕ) (F Z : Port → Type 0)
    (y : Nets.Node) (name : ℕ) (one : length y.ports ≡ 1) (below : y.net < M) (named : Named name y.name) (b : ℕ) (low : b < 4096) where
  -- the number of the k-th new node
  abbrev N : ℕ → ℕ
  N k = get_or chain k (default k)

  -- aux port i
  abbrev P : ℕ → Port
  P i = port b (1 + i)

  -- erasers for n ports from aux port i on
  pub erase_ports_came : (n i : ℕ) → 1 + i + n ≤ 16 → (g : Graph) (ws : List ℕ) (e : Engine) (U : Port → Type 0) → Stage Named x M chain l i g ws e
      → Safe F g U (concat_map (hung P N y) (from i n)) Z
      → Came Named l (erase_ports ws (y.net + 1) name (number (P i)) n) (each edit (concat_map (hung P N y) (from i n)) e)
  unfolding erase_ports edit apply on_placed
  erase_ports_came zero i h g ws e U s f = (refl, s.means, s.dead)
  erase_ports_came (suc n) i h g ws e U s f =
      go (edit (Insert (N i) y) e) (subst (λ (k : ℕ). Inserts Named x M chain l i g (N i) y (insert_node ws (y.net + 1) name k) (edit (Insert (N i) y) e)) one
      (stage_insert Named x small M chain default l i g ws e s F (N i) y name f.0 refl below named (omega arith)))
      (λ ws' e' s'. erase_ports_came n (suc i) (omega arith) (join (fill g (N i) y) (P i) (port (N i) 0)) ws' e' (With U (P i) (port (N i) 0)) s' f.1.1)
    where
      new : Left Placed
      new = insert_node ws (y.net + 1) name 1

      go : (r : Result Engine) → Inserts Named x M chain l i g (N i) y new r
          → ((ws' : List ℕ) (e' : Engine) → Stage Named x M chain l (suc i) (join (fill g (N i) y) (P i) (port (N i) 0)) ws' e'
          → Came Named l (erase_ports ws' (y.net + 1) name (number (P (suc i))) n) (each edit (concat_map (hung P N y) (from (suc i) n)) e'))
          → Came Named l (on_placed {A = Left Tried} new.is
          (λ m. erase_ports (Words.link new.ws (number (P i)) (principal m)) (y.net + 1) name (next (number (P i))) n) (λ c. record { is = Refused c; ws = new.ws }))
          (r >>= λ e'. each edit (concat_map (hung P N y) (from (suc i) n)) (link (P i) (port (N i) 0) e'))
      go (ok e') d ih =
          rw (d.0, number_principal (N i) d.2, number_aux b i low (omega arith))
          (ih (Words.link new.ws (number (P i)) (number (port (N i) 0))) (link (P i) (port (N i) 0) e')
          (stage_join Named x small M chain default l (suc i) (fill g (N i) y) new.ws e' d.1 U (P i) (port (N i) 0) f.1.0))
      go (refuse c) d ih = rw d refl

module _ (Named : ℕ → Name → Type 0) (x : ℕ → ℕ) (small : (k : ℕ) → x k ≤ 4294900000) (ws : List ℕ) (e : Engine) (t : Between Named x ws e)
    (a b : ℕ) (met : across (graph_of e) (port a 0) ≡ some (port b 0)) where
  abbrev g : Graph
  g = graph_of e

  -- the pair goes, and the erasers come
  acts : (bare : arity g a ≡ 1)
      → Tries Named ws e (pick (Node.spent ws) (record { is = Refused 14; ws = ws }) (act ws ((at g a).net + 1) a b)) (some (Law.erased (fresh e) g t.wired (good_fresh x e t.good) a b met bare))
  unfolding act edit apply fresh
  acts bare =
      let m = pair Named x small ws e t a b met in
      let la = low_a Named x small ws e t a b met in
      let lb = low_b Named x small ws e t a b met in
      let f = good_fresh x e t.good in
      let few = t.means.nodes.few b in
      let size : less (Node.arity ws b) ≡ arity g b - 1 = let r = arity_read Named ws e t.means b m.filled_b in let p = m.ports_b in omega arith in
      let F = Law.Ends (fresh e) g t.wired f a b met bare in
      unless_spent Named ws e t.means t.good.stepped (a ∷ b ∷ []) (act ws ((at g a).net + 1) a b) _
      (rw (number_first b lb, size)
      (erase_ports_came Named x small (length e.nets) e.slots.chain (λ i. length g + i) (a ∷ b ∷ []) F F (Law.eraser (fresh e) g t.wired f a b met bare) (Node.name ws a)
      refl (net_inside_lem Named ws e t.means x t.good a m.filled_a) (name_read Named ws e t.means a m.filled_a) b lb (arity g b - 1) 0 (omega arith)
      (cut g (port a 0) (port b 0)) (part ws a b) (with_graph (cut g (port a 0) (port b 0)) e) (With (λ _. ⊥) (port a 0) (port b 0))
      (part_stage Named x small ws e t a b met) (Law.erased_tidy (fresh e) g t.wired f a b met bare).safe.1))

  -- erase does on the words what its script does; the erasers' net is the pair's
  pub erase_means : (net : ℕ) → net ≡ (at (graph_of e) a).net + 1 → Tries Named ws e (erase ws net a b) (erase_script (fresh e) (graph_of e) a b)
  unfolding erase erase_script hang new if_eq pick
  erase_means net is =
      rw (is, arity_read Named ws e t.means a (pair Named x small ws e t a b met).filled_a) (go (eqb (arity g a) 1) (λ h. acts (eqb-true (arity g a) 1 h)))
    where
      tried : Left Tried
      tried = pick (Node.spent ws) (record { is = Refused 14; ws = ws }) (act ws ((at g a).net + 1) a b)

      script : Script
      script = record {
        edits = Cut (port a 0) (port b 0) ∷ concat_map (λ i. hang (fresh e) g i (new (at g a).net (name_of g a) 1) (port b (1 + i))) (up_to (arity g b - 1));
        dead = a ∷ b ∷ [];
      }

      go : (u : Bool) → (u ≡ true → Tries Named ws e tried (some script)) → Tries Named ws e (pick u tried (record { is = Passed; ws = ws })) (given u script)
      go true h = h refl
      go false h = refl
