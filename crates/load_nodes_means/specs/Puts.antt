-- A new node of a load: the next stage, or the refusal that level Engine gives.
use Rattle.std.specs.Prelude.{ℕ, suc, ◌+◌, ◌<◌, ◌≤◌, ◌≡◌, refl, List, [], length, get_or}
use Rattle.std.proofs.Common.{sym, ap, ◌∙◌, arith}
use Rattle.words.specs.Left.{Left}
use Rattle.graph.specs.Graph.{mark_dirty_words}
use Rattle.edits.specs.declared.Placed.{Placed}
use Rattle.edits.specs.declared.Placed.TheVariants.{At, Refused}
use Rattle.edits.specs.Edits.{place_node, insert_node}
use Rattle.edits.specs.Ways.{insert_at, insert_refused}
use Rattle.net_file.specs.Lists.{Result, ok, refuse}
use Rattle.net_file.specs.Values.{Name}
use Rattle.definitions.specs.Nets.{Port, Node, Graph, port}
use Rattle.definitions.specs.Scripts.{Insert, fill}
use Rattle.definitions.specs.State.{Engine}
use Rattle.definitions.specs.Books.{edit}
use Rattle.good_laws.specs.Good.{rest}
use Rattle.join_laws.specs.Ports.{Real}
use Rattle.script_laws.specs.Safe.{CanInsert}
use Rattle.means.specs.Frame.{Rest, rest_trans}
use Rattle.script_means.specs.Stage.{Stage}
use Rattle.script_means.specs.Inserts.{Inserts, stage_insert}
use Rattle.load_nodes_means.specs.Kept.{Beside, InNet, mark_dirty_kept, mark_dirty_net, place_node_kept}
use Rattle.load_nodes_means.specs.Laid
use Rattle.load_nodes_means.specs.Laid.{Laid, in_net_lem, small}

-- a node that is put in is marked where it was placed
inserted : (ws : List ℕ) (t name len n : ℕ) → (insert_node ws t name len).is ≡ At (record { 0 = n }) → (insert_node ws t name len).ws ≡ mark_dirty_words (place_node ws t name len).ws n
inserted ws t name len n q = go (place_node ws t name len).is refl
  where
    p : Left Placed
    p = place_node ws t name len

    go : (r : Placed) → (place_node ws t name len).is ≡ r → (insert_node ws t name len).ws ≡ mark_dirty_words (place_node ws t name len).ws n
    go (At j) e =
        let i : ◌≡◌ {A = Left Placed} (record { is = At j; ws = mark_dirty_words (place_node ws t name len).ws j.0 }) (insert_node ws t name len)
        = insert_at ws (place_node ws t name len).ws (mark_dirty_words (place_node ws t name len).ws j.0) t name len j (place_node ws t name len).is refl refl e refl in
        let d : ◌≡◌ {A = Placed} (At j) (At (record { 0 = n })) = ap (λ (l : Left Placed). l.is) i ∙ q in
        let s : j.0 ≡ n = ap (λ (r : Placed). elim r as (λ _. ℕ) [ At x ↦ x.0 | Refused x ↦ 0 ]) d in
        ap (λ (l : Left Placed). l.ws) (sym i) ∙ ap (λ (x : ℕ). mark_dirty_words (place_node ws t name len).ws x) s
    go (Refused r) e =
        let i : ◌≡◌ {A = Left Placed} (record { is = Refused r; ws = (place_node ws t name len).ws }) (insert_node ws t name len)
        = insert_refused ws (place_node ws t name len).ws t name len r (place_node ws t name len).is refl refl e in
        let d : ◌≡◌ {A = Placed} (Refused r) (At (record { 0 = n })) = ap (λ (l : Left Placed). l.is) i ∙ q in
        absurd (let z : ◌≡◌ {A = ℕ} 0 1 = ap (λ (r : Placed). elim r as (λ _. ℕ) [ At x ↦ 1 | Refused x ↦ 0 ]) d in omega arith)

-- what became of the k-th new node
abbrev pub Puts : (ℕ → Name → Type 0) → ℕ → List ℕ → List ℕ → ℕ → Graph → ℕ → Node → Left Placed → Result Engine → Type 0
Puts Named M chain ws₀ k g n y p (ok e) = (p.is ≡ At (record { 0 = n })) × Laid Named M chain ws₀ (suc k) (fill g n y) p.ws e × (n < 4096)
Puts Named M chain ws₀ k g n y p (refuse r) = (p.is ≡ Refused r) × (0 < r)

module _ (Named : ℕ → Name → Type 0) (M : ℕ) (chain : List ℕ) (default : ℕ → ℕ) (ws₀ : List ℕ) (k : ℕ) (g : Graph) (ws : List ℕ) (e : Engine) (s : Laid Named M chain ws₀ k g ws e)
    (F : Port → Type 0) (n : ℕ) (y : Node) (name : ℕ) (f : CanInsert F g n y) (is : n ≡ get_or chain k (default k)) (below : y.net < M) (named : Named name y.name)
    (most : length y.ports ≤ 16) where
  few : M ≤ 256
  few = let c = s.stage.edited.nets in let h = s.stage.means.header.few_nets in omega arith

  -- the nets by name and the nets to come are as they were
  kept : (e' : Engine) → (insert_node ws (y.net + 1) name (length y.ports)).is ≡ At (record { 0 = n })
      → Stage Named rest M chain [] (suc k) (fill g n y) (insert_node ws (y.net + 1) name (length y.ports)).ws e'
      → Real (fill g n y) (port n 0) → Rest (Beside M) ws (insert_node ws (y.net + 1) name (length y.ports)).ws
  kept e' q t real =
      let p = (place_node ws (y.net + 1) name (length y.ports)).ws in
      let w = inserted ws (y.net + 1) name (length y.ports) n q in
      let i : InNet (length e'.nets) (insert_node ws (y.net + 1) name (length y.ports)).ws n = in_net_lem Named _ e' t.means rest t.edited.good (port n 0) (rw t.edited.nodes real) in
      let j : InNet M (mark_dirty_words p n) n = rw w at (rw t.edited.nets at i) in
      let d = mark_dirty_net M few p n n in
      rw w (rest_trans (place_node_kept M few (y.net + 1) (omega arith) (omega arith) ws name (length y.ports)) (mark_dirty_kept M few p n (rw d at j)))

  pub puts : Puts Named M chain ws₀ k g n y (insert_node ws (y.net + 1) name (length y.ports)) (edit (Insert n y) e)
  puts = go (edit (Insert n y) e) refl (stage_insert Named rest small M chain default [] k g ws e s.stage F n y name f is below named most)
    where
      go : (r : Result Engine) → edit (Insert n y) e ≡ r → Inserts Named rest M chain [] k g n y (insert_node ws (y.net + 1) name (length y.ports)) r
          → Puts Named M chain ws₀ k g n y (insert_node ws (y.net + 1) name (length y.ports)) r
      go (ok e') q a = (a.0, record { stage = a.1; beside = rest_trans s.beside (kept e' a.0 a.1 real) }, a.2)
        where
          real : Real (fill g n y) (port n 0)
          real = Laid.filled_real g n y f.some_port
      go (refuse r) q a = (a, Laid.insert_refused n y e r q)
