-- What erase and commute begin with: both nodes are to go and the wire between their principal ports is cut; and the numbers for new nodes.
use Rattle.std.specs.Prelude.{ℕ, ◌<◌, ◌≤◌, ◌≡◌}
use Rattle.std.proofs.Math.Option.{some}
use mathlib.Core.List.{List, [], ◌∷◌}
use Rattle.std.proofs.Math.ListN.{length}
use Rattle.std.proofs.Common.{arith}
use Rattle.graph.specs.Graph.{remove_node}
use Rattle.erase.specs.Erase.{part}
use Rattle.net_file.specs.Values.{Name}
use Rattle.definitions.specs.Nets.{port, across}
use Rattle.definitions.specs.Scripts.{cut}
use Rattle.definitions.specs.Step.{Fresh}
use Rattle.definitions.specs.State.{Engine, graph_of, with_graph}
use Rattle.definitions.specs.Books.{fresh}
use Rattle.good_laws.specs.Good.{Good}
use Rattle.rule_laws.specs.Places.{Meet, meet}
use Rattle.step_laws.specs.Numbers.{tracked_fresh}
use Rattle.reached_laws.specs.Tracks.{good_tracked}
use Rattle.script_means.specs.Stage.{Stage, number_principal, stage_cut}
use Rattle.script_means.specs.Tries.{Between, slot_low, stage_begin, stage_remove}

-- where the books are good, the numbers for new nodes are fresh
pub good_fresh : (x : ℕ → ℕ) (e : Engine) → Good x e → Fresh (graph_of e) (fresh e)
good_fresh x e g = tracked_fresh e (good_tracked x e g)

module _ (Named : ℕ → Name → Type 0) (x : ℕ → ℕ) (small : (k : ℕ) → x k ≤ 4294900000) (ws : List ℕ) (e : Engine) (t : Between Named x ws e)
    (a b : ℕ) (met : across (graph_of e) (port a 0) ≡ some (port b 0)) where
  pub pair : Meet (graph_of e) a b
  pair = meet (graph_of e) t.wired.wired a b met

  pub low_a : a < 4096
  low_a = slot_low Named ws e t.means a pair.filled_a

  pub low_b : b < 4096
  low_b = slot_low Named ws e t.means b pair.filled_b

  -- the stage after it
  pub part_stage : Stage Named x (length e.nets) e.slots.chain (a ∷ b ∷ []) 0 (cut (graph_of e) (port a 0) (port b 0)) (part ws a b)
      (with_graph (cut (graph_of e) (port a 0) (port b 0)) e)
  unfolding part
  part_stage =
      let M = length e.nets in
      let chain = e.slots.chain in
      let w1 = remove_node ws a in
      let w2 = remove_node w1 b in
      let s1 : Stage Named x M chain (a ∷ []) 0 (graph_of e) w1 e = stage_remove Named x M chain [] 0 (graph_of e) ws e a (stage_begin Named x ws e t) (omega arith) in
      let s2 : Stage Named x M chain (a ∷ b ∷ []) 0 (graph_of e) w2 e = stage_remove Named x M chain (a ∷ []) 0 (graph_of e) w1 e b s1 (omega arith) in
      rw (number_principal a low_a, number_principal b low_b)
      (stage_cut Named x small M chain (λ i. 0) (a ∷ b ∷ []) 0 (graph_of e) w2 e s2 (λ _. ⊥) (port a 0) (port b 0) (record { wired = met; unused_a = λ u. u; unused_b = λ u. u }))
