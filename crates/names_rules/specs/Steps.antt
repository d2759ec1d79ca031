-- Steps of a rule that leave the nets' names alone: a choice, a pair that parts, a node that is put in.
use Rattle.std.specs.Prelude.{ℕ, ◌≤◌, ◌≡◌, Bool, true, false, List, [], ◌∷◌, length}
use Rattle.std.proofs.Common.{sym, ap, ◌∙◌, subst, arith}
use Rattle.words.specs.Choose.{pick}
use Rattle.words.specs.Left.{Left}
use Rattle.layout.specs.Layout.{principal, node_word}
use Rattle.graph.specs.Graph.{remove_node}
use Rattle.edits.specs.declared.Placed.{Placed}
use Rattle.edits.specs.declared.Placed.TheVariants.{At, Refused}
use Rattle.edits.specs.Edits.{on_placed, insert_node}
use Rattle.tried.specs.declared.Tried.{Tried}
use Rattle.erase.specs.Erase.{part}
use Rattle.net_file.specs.Lists.{Result, ok, refuse}
use Rattle.net_file.specs.Values.{Name}
use Rattle.definitions.specs.Lists.{is_some}
use Rattle.definitions.specs.Nets.{Node, Graph, filled}
use Rattle.definitions.specs.Scripts.{fill}
use Rattle.definitions.specs.State.{Engine, graph_of}
use Rattle.join_laws.specs.Ports.{filled_frame}
use Rattle.script_laws.specs.Slots.{frame_fill_same}
use Rattle.means.specs.Frame.{rest_trans}
use Rattle.script_means.specs.Inserts.{Inserts}
use Rattle.script_means.specs.Tries.{Between, net_read, stage_begin, stage_remove}
use Rattle.names_means.specs.Kept.{Kept}
use Rattle.names_means.specs.Links.{remove_node_names, remove_wire_names, insert_node_names}

-- either way
pub pick_names : (ws : List ℕ) (t : Bool) (l r : Left Tried) → Kept ws l.ws → Kept ws r.ws → Kept ws (pick t l r).ws
unfolding pick
pick_names ws true l r f g = f
pick_names ws false l r f g = g

-- two nodes are to go
pub pair_names : (Named : ℕ → Name → Type 0) (x : ℕ → ℕ) (ws : List ℕ) (e : Engine) → Between Named x ws e → (a b : ℕ) → Kept ws (remove_node (remove_node ws a) b)
pair_names Named x ws e t a b =
    let s = stage_begin Named x ws e t in
    let s1 = stage_remove Named x (length e.nets) e.slots.chain [] 0 (graph_of e) ws e a s (omega arith) in
    rest_trans (remove_node_names ws [] a s.dead (omega arith)) (remove_node_names (remove_node ws a) (a ∷ []) b s1.dead (omega arith))

-- and the wire between them is cut
pub part_names : (Named : ℕ → Name → Type 0) (x : ℕ → ℕ) (ws : List ℕ) (e : Engine) → Between Named x ws e → (a b : ℕ) → Kept ws (part ws a b)
unfolding part
part_names Named x ws e t a b = rest_trans (pair_names Named x ws e t a b) (remove_wire_names (remove_node (remove_node ws a) b) (principal a) (principal b))

at_same : (i j : ℕ) → ◌≡◌ {A = Placed} (At (record { 0 = i })) (At (record { 0 = j })) → i ≡ j
unfolding on_placed
at_same i j q = ap (λ (p : Placed). on_placed {A = ℕ} p (λ n. n) (λ r. 0)) q

-- a node is put in, or refused
pub inserts_names : (Named : ℕ → Name → Type 0) (x : ℕ → ℕ) (M : ℕ) (chain l : List ℕ) (k : ℕ) (g : Graph) (n : ℕ) (y : Node) (ws : List ℕ) (t name len : ℕ) → 1 ≤ t → (r : Result Engine)
    → Inserts Named x M chain l k g n y (insert_node ws t name len) r → Kept ws (insert_node ws t name len).ws
inserts_names Named x M chain l k g n y ws t name len b (ok e) d =
    insert_node_names ws t name len b (λ j q.
    let w = (insert_node ws t name len).ws in
    let there : filled (graph_of e) n ≡ true = ap (λ (h : Graph). filled h n) d.1.edited.nodes ∙ filled_frame (fill g n y) n ∙ ap is_some (frame_fill_same g n y) in
    let same : n ≡ j = at_same n j (sym d.0 ∙ q) in
    let net = net_read Named w e d.1.means n there in
    subst (λ (i : ℕ). 1 ≤ node_word w i 0) same (omega arith))
inserts_names Named x M chain l k g n y ws t name len b (refuse r) d =
    insert_node_names ws t name len b (λ j q. let z : ◌≡◌ {A = Placed} (At (record { 0 = j })) (Refused r) = sym q ∙ d in let c : ◌≡◌ {A = ℕ} 0 1 = cc in absurd (omega arith))
