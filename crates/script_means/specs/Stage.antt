-- A stage of a script: the words mean the engine, its books are good, wires agree at both ends, and the dead list is there. A cut or a
-- join that fits leads to the next stage: what the words' laws ask follows from the books and the wires.
use Rattle.std.specs.Prelude.{ℕ, suc, ◌+◌, ◌<◌, ◌≤◌, ◌≡◌, refl, true, List, [], ◌∷◌}
use Rattle.std.proofs.Common.{◌∙◌, arith}
use Rattle.std.proofs.Math.Path.{subst}
use Rattle.layout.specs.Layout.{next, principal}
use Rattle.graph.specs.Graph as Words
use Rattle.net_file.specs.Values.{Name}
use Rattle.definitions.specs.Nets.{Port, Graph, port, filled, follow}
use Rattle.definitions.specs.Scripts.{Edit, Insert, Copy, Join, Cut, cut, join, apply}
use Rattle.definitions.specs.State.{Engine, graph_of, with_slots, with_graph}
use Rattle.definitions.specs.Books.{mark_dirty, link, edit}
use Rattle.engine_laws.specs.Frame.{still_graph, still_frame, pools_kept, mark_still}
use Rattle.good_laws.specs.Owners.{join_owners}
use Rattle.good_laws.specs.Good.{Good}
use Rattle.good_laws.specs.Marks.{mark_good, rewired_good}
use Rattle.good_laws.specs.Edits.{Edited, edits_good}
use Rattle.join_laws.specs.Ports.{Real, filled_same, across_real}
use Rattle.join_laws.specs.Link.{Wired}
use Rattle.join_laws.proofs.Join.{frame_join}
use Rattle.script_laws.specs.Safe.{CanJoin, CanCut, Fits, edit_wired}
use Rattle.script_laws.specs.Tidy.{real_filled}
use Rattle.means.specs.Means.{number, Means}
use Rattle.graph_means.specs.Wires.{CanLink, cut_means, follow_real}
use Rattle.graph_means.proofs.Wires.{link_means}
use Rattle.good_means.specs.Room.{markable}
use Rattle.script_means.specs.Dead.{Dead, dead_keep}
use Rattle.script_means.specs.Stays.{remove_wire_stays, link_stays}

-- ---- numbers of ports

-- the next port of the same node
pub number_next : (n i : ℕ) → n < 4096 → i < 16 → next (number (port n i)) ≡ number (port n (suc i))
number_next n i h k = omega arith

-- the next aux port
pub number_aux : (n i : ℕ) → n < 4096 → i < 16 → next (number (port n (1 + i))) ≡ number (port n (1 + suc i))
number_aux n i h k = omega arith

-- the first aux port
pub number_first : (n : ℕ) → n < 4096 → next (principal n) ≡ number (port n (1 + 0))
number_first n h = omega arith

pub number_principal : (n : ℕ) → n < 4096 → principal n ≡ number (port n 0)
number_principal n h = omega arith

-- ---- the wires

-- an edit fits whatever ports were used, if it fits where some were
any_used : (F U : Port → Type 0) (g : Graph) (d : Edit) → Fits F g U d → Fits F g (λ _. ⊥) d
any_used F U g (Insert n x) f = f
any_used F U g (Copy n x) f = f
any_used F U g (Join a b) f = record { real_a = f.real_a; real_b = f.real_b; differ = f.differ; one_net = f.one_net; unused_a = λ u. u; unused_b = λ u. u }
any_used F U g (Cut a b) f = record { wired = f.wired; unused_a = λ u. u; unused_b = λ u. u }

-- wires agree after an edit that fits
pub wired_next : (F U : Port → Type 0) (g : Graph) (d : Edit) → Wired g → Fits F g U d → Wired (apply g d)
wired_next F U g d w f = (edit_wired F g g (λ _. ⊥) d w (record { used = λ r u. absurd u; rest = λ r n. refl }) (any_used F U g d f)).0

-- ---- a stage

-- k new nodes took the first slots of the chain, there are M nets, the nodes are those of g, and the nodes l are to go
pub record Stage (Named : ℕ → Name → Type 0) (x : ℕ → ℕ) (M : ℕ) (chain l : List ℕ) (k : ℕ) (g : Graph) (ws : List ℕ) (e : Engine) : Type 0 where
  pub means : Means Named ws e
  pub edited : Edited x M chain k g e
  pub wired : Wired g
  pub dead : Dead ws l

-- two ports that exist and differ can be linked
can_link : (x : ℕ → ℕ) → ((k : ℕ) → x k ≤ 4294900000) → (e : Engine) → e.pools.nodes ≤ 4096 → e.pools.waits ≤ 4096 → Good x e → Wired (graph_of e)
    → (U : Port → Type 0) (a b : Port) → CanJoin (graph_of e) U a b → CanLink e a b
unfolding with_graph with_slots
can_link x small e few few_waits good wired U a b f = record {
  wired = wired;
  real_a = f.real_a;
  real_b = f.real_b;
  differ = f.differ;
  first = λ _. markable e₁ few few_waits x good₁ (follow (graph_of e) a).node (there a f.real_a) (small _);
  second = λ _.
      let n = (follow (graph_of e) a).node in
      let kept : (mark_dirty n e₁).pools ≡ e₁.pools = pools_kept (still_frame (mark_still n e₁)) in
      markable (mark_dirty n e₁) (rw kept few) (rw kept few_waits) x (mark_good x n e₁ good₁) (follow (graph_of e) b).node
      (rw (still_graph (mark_still n e₁)) (there b f.real_b)) (small _);
}
  where
    e₁ : Engine
    e₁ = with_graph (join (graph_of e) a b) e

    good₁ : Good x (with_graph (join (graph_of e) a b) e)
    good₁ = rewired_good x (join (graph_of e) a b) e (join_owners (graph_of e) a b) good

    there : (p : Port) → Real (graph_of e) p → filled (join (graph_of e) a b) (follow (graph_of e) p).node ≡ true
    there p r = filled_same (graph_of e) (join (graph_of e) a b) (follow (graph_of e) p).node (frame_join (graph_of e) a b (follow (graph_of e) p).node)
        ∙ real_filled (graph_of e) (follow (graph_of e) p) (follow_real (graph_of e) wired p r)

module _ (Named : ℕ → Name → Type 0) (x : ℕ → ℕ) (small : (k : ℕ) → x k ≤ 4294900000) (M : ℕ) (chain : List ℕ) (default : ℕ → ℕ) (l : List ℕ) (k : ℕ) (g : Graph)
    (ws : List ℕ) (e : Engine) (s : Stage Named x M chain l k g ws e) (U : Port → Type 0) (a b : Port) where
  -- a wire is cut
  pub stage_cut : CanCut g U a b → Stage Named x M chain l k (cut g a b) (Words.remove_wire ws (number a) (number b)) (with_graph (cut (graph_of e) a b) e)
  unfolding edit apply
  stage_cut f =
      let n = s.edited.nodes in record {
        means = cut_means Named ws e s.means a b (rw n (across_real g a b f.wired)) (rw n (across_real g b a (s.wired.back a b f.wired)));
        edited = subst (λ (i : ℕ). Edited x M chain i (cut g a b) (with_graph (cut (graph_of e) a b) e)) (omega arith)
            (edits_good x M chain default (Cut a b ∷ []) k g e s.edited tt);
        wired = wired_next (λ _. ⊥) U g (Cut a b) s.wired f;
        dead = dead_keep (remove_wire_stays ws (number a) (number b)).same s.dead;
      }

  -- two ports are linked
  pub stage_join : CanJoin g U a b → Stage Named x M chain l k (join g a b) (Words.link ws (number a) (number b)) (link a b e)
  unfolding edit apply
  stage_join f =
      let n = s.edited.nodes in
      let h = s.means.header in record {
        means = link_means Named ws e s.means a b
            (can_link x small e h.few_nodes h.few_waits s.edited.good (rw n s.wired) U a b (rw n f));
        edited = subst (λ (i : ℕ). Edited x M chain i (join g a b) (link a b e)) (omega arith) (edits_good x M chain default (Join a b ∷ []) k g e s.edited tt);
        wired = wired_next (λ _. ⊥) U g (Join a b) s.wired f;
        dead = dead_keep (link_stays ws (number a) (number b)).same s.dead;
      }
