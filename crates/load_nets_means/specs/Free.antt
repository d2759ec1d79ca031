-- A net's free node comes first: it is put in, said to be the free node, its ports 0 and 1 are linked, and the free wires joined; then the nodes.
use Rattle.std.specs.Prelude.{ℕ, suc, ◌+◌, ◌<◌, ◌≤◌, get_or}
use Rattle.std.proofs.Math.Path.{◌≡◌, refl, ap, subst}
use Rattle.std.proofs.Common.{sym, ◌∙◌}
use Rattle.std.proofs.Math.Option.{none}
use mathlib.Core.List.{List, [], ◌∷◌, ◌++◌, append-nil}
use Rattle.std.proofs.Math.ListN.{length, length-replicate}
use Rattle.std.proofs.Math.Seq.{get_or-set_other}
use native.Mathlib.Omega.{arith}
use Rattle.words.specs.Left.{Left}
use Rattle.stored.specs.Stored.{node_count_at}
use Rattle.layout.specs.Layout.{net_at_words, set_net_word}
use Rattle.graph.specs.Graph as Words
use Rattle.edits.specs.declared.Placed.{Placed}
use Rattle.edits.specs.declared.Placed.TheVariants.{At}
use Rattle.edits.specs.Edits.{insert_node}
use Rattle.wire_ends.specs.WireEnds.{Joined, join_wires}
use Rattle.load.specs.Added.{Added}
use Rattle.load.specs.Load.{join_free, add_free, add_nodes, add_all}
use Rattle.load.specs.Ways.{free_joined, free_at, free_refused, all_refused, all_more}
use Rattle.net_file.specs.Lists.{Result, ok, refuse}
use Rattle.net_file.specs.Values.{Name, FlatNet}
use Rattle.definitions.specs.Lists.{◌>>=◌, each, foldl}
use Rattle.definitions.specs.Nets.{Port, Node, Graph, port}
use Rattle.definitions.specs.Scripts.{Edit, Insert, Join, fill, apply}
use Rattle.definitions.specs.Rules.{new}
use Rattle.definitions.specs.State.{Engine, over_net}
use Rattle.definitions.specs.Books.{edit}
use Rattle.definitions.specs.Load.{End, ends_at, join_met, load_nodes, load_net}
use Rattle.good_laws.specs.Good.{rest}
use Rattle.good_laws.specs.Edits.{Edited, Answers, edits_good}
use Rattle.script_laws.specs.Safe.{Safe}
use Rattle.load_laws.specs.Twice.{apart}
use Rattle.load_laws.specs.Meets.{of_wire}
use Rattle.load_laws.specs.Ends.{all_ends, met_count}
use Rattle.means.specs.Means.{number}
use Rattle.means.specs.Frame.{rest_trans}
use Rattle.script_means.specs.Dead.{dead_keep}
use Rattle.wire_ends_means.specs.Table.{Table, links}
use Rattle.wire_ends_means.proofs.Wires.{join_wires_met}
use Rattle.load_nodes_means.specs.Kept.{kept_net}
use Rattle.load_nodes_means.specs.Laid.{Laid, useds, laid_links}
use Rattle.load_nodes_means.specs.Puts.{Puts, puts}
use Rattle.load_nodes_means.specs.Nodes.{Adds, met_joins, add_nodes_means}
use Rattle.load_nets_means.specs.Home.{with_free, free_means}
use Rattle.load_nets_means.specs.NetIn.{NetIn}

module _ (Named : ℕ → Name → Type 0) (name : Name) (named : Named 0 name) (t : FlatNet) (m : ℕ) (file : List ℕ) (at : ℕ) (i : NetIn Named m file at t)
    (net : ℕ) (chain : List ℕ) (default : ℕ → ℕ) (w₁ : List ℕ) (g : Graph) (F Z : Port → Type 0) where
  -- the number of the j-th new node
  abbrev pub N : ℕ → ℕ
  N j = get_or chain j (default j)

  -- the free node
  abbrev pub free_node : Node
  free_node = new net name (2 + length t.free)

  module _ (e₀ e₁ : Engine) (l : Laid Named (suc net) chain w₁ 0 g w₁ e₀) (d₁ : Edited rest (suc net) chain 0 g e₁)
      (same : edit (Insert (N 0) free_node) e₁ ≡ (edit (Insert (N 0) free_node) e₀ >>= λ d. ok (over_net (with_free (N 0)) net d)))
      (safe : Safe F g (λ _. ⊥) (load_net N name net t) Z) (few : (w : ℕ) → of_wire w (all_ends t N) ≤ 2) (wires : List ℕ) (b : Table t.pairs m wires []) where
    ends : List End
    ends = ends_at t (N 0) 2 t.free

    nodes : List Edit
    nodes = load_nodes N t net (ends_at t (N 0) 2 t.free) 1 t.nodes

    joins : List Edit
    joins = Join (port (N 0) 0) (port (N 0) 1) ∷ join_met [] (ends_at t (N 0) 2 t.free)

    fits : Safe F g (λ _. ⊥) (Insert (N 0) free_node ∷ joins ++ nodes) Z
    unfolding load_net joins nodes
    fits = safe

    size : length free_node.ports ≡ 2 + length t.free
    unfolding new
    size = length-replicate (2 + length t.free) none

    put : Left Placed
    put = insert_node w₁ (net + 1) 0 (2 + length t.free)

    put_is : Puts Named (suc net) chain w₁ 0 g (N 0) free_node put (edit (Insert (N 0) free_node) e₀)
    unfolding put new
    put_is =
        let most = i.free_most in
        subst (λ (len : ℕ). Puts Named (suc net) chain w₁ 0 g (N 0) free_node (insert_node w₁ (net + 1) 0 len) (edit (Insert (N 0) free_node) e₀)) size
        (puts Named (suc net) chain default w₁ 0 g w₁ e₀ l F (N 0) free_node 0 fits.0 refl (omega arith) named (let z = size in omega arith))

    -- said to be the free node
    module _ (d : Engine) (q : edit (Insert (N 0) free_node) e₀ ≡ ok d) (p : Laid Named (suc net) chain w₁ 1 (fill g (N 0) free_node) put.ws d) where
      d₂ : Engine
      d₂ = over_net (with_free (N 0)) net d

      w₂ : List ℕ
      w₂ = set_net_word put.ws (net + 1) 1 (N 0)

      edited : Edited rest (suc net) chain 1 (fill g (N 0) free_node) d₂
      unfolding d₂ new apply
      edited =
          let is : edit (Insert (N 0) free_node) e₁ ≡ ok d₂ = same ∙ ap (λ (r : Result Engine). r >>= λ x. ok (over_net (with_free (N 0)) net x)) q in
          go (edit (Insert (N 0) free_node) e₁) is (edits_good rest (suc net) chain default (Insert (N 0) free_node ∷ []) 0 g e₁ d₁ (refl, omega arith, tt))
        where
          go : (r : Result Engine) → r ≡ ok d₂ → Answers (λ x. Edited rest (suc net) chain (0 + 1) (fill g (N 0) free_node) x) (r >>= λ x. ok x) → Edited rest (suc net) chain 1 (fill g (N 0) free_node) d₂
          go (ok x) s a =
              let z : x ≡ d₂ = cc in
              subst (λ (c : ℕ). Edited rest (suc net) chain c (fill g (N 0) free_node) d₂) (omega arith) (subst (λ (y : Engine). Edited rest (suc net) chain (0 + 1) (fill g (N 0) free_node) y) z a)
          go (refuse x) s a = absurd (let z : ◌≡◌ {A = ℕ} 0 1 = cc in omega arith)

      said : Laid Named (suc net) chain w₁ 1 (fill g (N 0) free_node) w₂ d₂
      unfolding d₂ w₂
      said =
          let c = p.stage.edited.nets in
          let h = p.stage.means.header.few_nets in record {
            stage = record {
              means = free_means Named put.ws d p.stage.means net (N 0) (omega arith);
              edited = edited;
              wired = p.stage.wired;
              dead = dead_keep (λ j o. get_or-set_other put.ws (net_at_words (net + 1) 1) j (N 0) 0 (omega arith)) p.stage.dead;
            };
            beside = rest_trans p.beside (kept_net (suc net) (omega arith) put.ws (net + 1) 1 (N 0) (omega arith) (omega arith) (omega arith));
          }

      counts : (v : ℕ) → of_wire v (ends ++ []) ≤ 2
      unfolding ends
      counts v =
          let a = met_count t N v t.nodes ends 1 in
          let c = few v in
          rw (append-nil ends) (omega arith)

      -- its ports are linked and joined, and the nodes come
      after_free : N 0 < 4096 → put.is ≡ At (record { 0 = N 0 }) → Adds Named (suc net) chain w₁ (1 + length t.nodes) (add_all w₁ wires file (net + 1) at) (each edit (joins ++ nodes) d₂)
      unfolding put ends nodes joins w₂ links apply
      after_free low is =
          let ok_pairs = apart t i.fine.ordered i.fine.wired in
          let most = i.free_most in
          let inside = i.free_inside in
          let last = i.nodes_inside in
          let v = Words.link w₂ (number (port (N 0) 0)) (number (port (N 0) 1)) in
          let k = join_wires v wires file (at + 8) (number (port (N 0) 2)) (length t.free) in
          let jm = join_wires_met t ok_pairs m file (N 0) t.free 2 (at + 8) v wires [] b i.free_fits i.free (omega arith) counts in
          let jf : ◌≡◌ {A = Joined} (record { ws = k.ws; wires = k.wires }) (join_free put.ws wires file (net + 1) at (N 0) (length t.free))
          = free_joined put.ws wires file w₂ v k.ws k.wires (net + 1) at (at + 8) (N 0) (length t.free) (number (port (N 0) 0)) (number (port (N 0) 1)) (number (port (N 0) 2))
          (omega arith) (omega arith) refl refl (omega arith) (omega arith) refl refl in
          let fa : ◌≡◌ {A = Added} (record { is = 0; ws = k.ws; wires = k.wires }) (add_free w₁ wires file (net + 1) at)
          = free_at w₁ wires file put.ws k.ws k.wires (net + 1) at (length t.free) put.is (record { 0 = N 0 }) i.free_count refl refl is
          (ap (λ (j : Joined). j.ws) jf) (ap (λ (j : Joined). j.wires) jf) in
          let h = foldl apply (fill g (N 0) free_node) joins in
          let lk = laid_links Named (suc net) chain default w₁ F (λ _. ⊥) Z joins nodes (met_joins Named (suc net) chain default w₁ ends []) 1 (fill g (N 0) free_node) w₂ d₂ said fits.1 in
          let laid : Laid Named (suc net) chain w₁ 1 h k.ws lk.to = subst (λ (w : List ℕ). Laid Named (suc net) chain w₁ 1 h w lk.to) (sym jm.0) lk.laid in
          let tb : Table t.pairs m k.wires ends = subst (λ (es : List End). Table t.pairs m k.wires es) (append-nil ends) jm.1 in
          let a = add_nodes k.ws k.wires file (net + 1) (node_count_at file at + 2) (length t.nodes) in
          let nn = add_nodes_means Named t ok_pairs m file (suc net) chain default w₁ net (omega arith) F Z t.nodes (node_count_at file at + 2) 1 ends k.ws k.wires h lk.to
          (useds (λ _. ⊥) joins) i.nodes laid tb lk.safe few in
          let am : ◌≡◌ {A = Added} (record { is = a.is; ws = a.ws; wires = a.wires }) (add_all w₁ wires file (net + 1) at)
          = all_more w₁ wires file k.ws k.wires a.ws a.wires (net + 1) at 0 (node_count_at file at) (node_count_at file at + 2) (length t.nodes) a.is
          (ap (λ (x : Added). x.is) fa) (ap (λ (x : Added). x.ws) fa) (ap (λ (x : Added). x.wires) fa) (omega arith) (omega arith) (omega arith) i.node_count refl refl refl in
          rw lk.goes (subst (λ (x : Added). Adds Named (suc net) chain w₁ (1 + length t.nodes) x (each edit nodes lk.to)) am nn)

    -- the whole net
    pub add_all_means : Adds Named (suc net) chain w₁ (1 + length t.nodes) (add_all w₁ wires file (net + 1) at) (each edit (load_net N name net t) e₁)
    unfolding load_net joins nodes put d₂
    add_all_means = subst (λ (r : Result Engine). Adds Named (suc net) chain w₁ (1 + length t.nodes) (add_all w₁ wires file (net + 1) at) (r >>= λ d. each edit (joins ++ nodes) d)) (sym same)
        (go (edit (Insert (N 0) free_node) e₀) refl put_is)
      where
        go : (r : Result Engine) → edit (Insert (N 0) free_node) e₀ ≡ r → Puts Named (suc net) chain w₁ 0 g (N 0) free_node put r
            → Adds Named (suc net) chain w₁ (1 + length t.nodes) (add_all w₁ wires file (net + 1) at) ((r >>= λ d. ok (over_net (with_free (N 0)) net d)) >>= λ d. each edit (joins ++ nodes) d)
        go (ok d) q p = after_free d q p.1 p.2 p.0
        go (refuse r) q p =
            let fa : ◌≡◌ {A = Added} (record { is = r; ws = put.ws; wires = wires }) (add_free w₁ wires file (net + 1) at)
            = free_refused w₁ wires file put.ws (net + 1) at (length t.free) r put.is i.free_count refl refl p.0 in
            let am : ◌≡◌ {A = Added} (record { is = r; ws = put.ws; wires = wires }) (add_all w₁ wires file (net + 1) at)
            = all_refused w₁ wires file put.ws wires (net + 1) at r (ap (λ (x : Added). x.is) fa) (ap (λ (x : Added). x.ws) fa) (ap (λ (x : Added). x.wires) fa) p.1 in
            (ap (λ (x : Added). x.is) (sym am), p.1)
