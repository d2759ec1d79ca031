-- The nodes of a net on the words are those of level Engine: each is put in, then its ports are joined by the table.
use Prim.Native.Nat.{ℕ, suc, ◌+◌, ◌%◌, ◌<◌, ◌≤◌}
use Rattle.std.specs.Prelude.{◌≡◌, length, get_or, eqb}
use Rattle.std.proofs.Math.Path.{refl, subst}
use Rattle.std.proofs.Common.{sym, ap, ◌∙◌}
use Rattle.std.proofs.Math.Option.{Option, none, some}
use mathlib.Core.List.{List, [], ◌∷◌, ◌++◌}
use Rattle.std.proofs.Math.ListN.{length-replicate}
use native.Mathlib.Omega.{arith}
use Rattle.words.specs.Choose.{lt_yes, lt_no}
use Rattle.words.specs.Left.{Left}
use Rattle.fields.specs.Fields.{byte, be16}
use Rattle.stored.specs.Stored.{name_end, node_end, list_end}
use Rattle.ends.specs.Ends.{within, on, node_past}
use Rattle.layout.specs.Layout.{next, principal}
use Rattle.edits.specs.declared.Placed.{Placed}
use Rattle.edits.specs.Edits.{insert_node}
use Rattle.wire_ends.specs.WireEnds.{Joined, join_wire, join_wires}
use Rattle.load.specs.Added.{Added}
use Rattle.load.specs.Load.{join_node, add_node, add_nodes}
use Rattle.load.specs.Ways.{node_at, node_refused}
use Rattle.net_file.specs.Lists.{Result, ok, refuse}
use Rattle.net_file.specs.Values.{Name, FlatNode, FlatNet}
use Rattle.definitions.specs.Lists.{◌>>=◌, find, each, foldl}
use Rattle.definitions.specs.Nets.{Port, Node, Graph, port}
use Rattle.definitions.specs.Scripts.{Edit, Insert, Join, fill, apply}
use Rattle.definitions.specs.Rules.{new}
use Rattle.definitions.specs.State.{Engine, graph_of}
use Rattle.definitions.specs.Books.{edit}
use Rattle.definitions.specs.Load.{End, ends_at, join_met, load_nodes}
use Rattle.script_laws.specs.Safe.{Safe}
use Rattle.load_laws.specs.Twice.{PairsApart}
use Rattle.load_laws.specs.Meets.{of_wire}
use Rattle.load_laws.specs.Ends.{ends_length, met_after, met_count}
use Rattle.means.specs.Means.{number}
use Rattle.wire_ends_means.specs.Table.{Table, links}
use Rattle.wire_ends_means.specs.Wires.{Numbers, Fit}
use Rattle.wire_ends_means.proofs.Wires.{join_more, join_wires_met}
use Rattle.load_nodes_means.specs.Laid.{Laid, useds, Joins, laid_links}
use Rattle.load_nodes_means.specs.Puts.{Puts, puts}

-- node x stands at a place of the file, its name is known by this place, and a table of m words has its wires
pub record NodeIn (Named : ℕ → Name → Type 0) (ps : List (ℕ × ℕ)) (m : ℕ) (file : List ℕ) (at : ℕ) (x : FlatNode) : Type 0 where
  pub inside : node_end file at ≤ length file
  pub pri : x.pri ≡ be16 file (name_end file at)
  pub count : length x.aux ≡ byte file (name_end file at + 2)
  pub aux : Numbers file (name_end file at + 3) x.aux
  pub most : length x.aux < 16
  pub fits : Fit ps m (x.pri ∷ x.aux)
  pub named : Named (at % 4294967296) x.name

-- nodes stand from a place on
abbrev pub NodesIn : (ℕ → Name → Type 0) → List (ℕ × ℕ) → ℕ → List ℕ → ℕ → List FlatNode → Type 0
NodesIn Named ps m file at [] = Unit {0}
NodesIn Named ps m file at (x ∷ xs) = NodeIn Named ps m file at x × NodesIn Named ps m file (node_end file at) xs

-- what `joinMet` gives are joins
pub met_joins : (Named : ℕ → Name → Type 0) (M : ℕ) (chain : List ℕ) (default : ℕ → ℕ) (ws₀ : List ℕ) (xs met : List End) → Joins Named M chain default ws₀ (join_met met xs)
unfolding join_met
met_joins Named M chain default ws₀ [] met = tt
met_joins Named M chain default ws₀ (x ∷ xs) met = go (find (λ y. eqb x.0 y.0) met) (met_joins Named M chain default ws₀ xs (x ∷ met))
  where
    go : (o : Option End) → Joins Named M chain default ws₀ (join_met (x ∷ met) xs)
        → Joins Named M chain default ws₀ (elim o as (λ _. List Edit) [ none ↦ join_met (x ∷ met) xs | some y ↦ Join x.1 y.1 ∷ join_met (x ∷ met) xs ])
    go none r = r
    go (some y) r = r

-- what the nodes so far leave: as level Engine does, or refused by its number
abbrev pub Adds : (ℕ → Name → Type 0) → ℕ → List ℕ → List ℕ → ℕ → Added → Result Engine → Type 0
Adds Named M chain ws₀ k a (ok e) = (a.is ≡ 0) × Laid Named M chain ws₀ k (graph_of e) a.ws e
Adds Named M chain ws₀ k a (refuse r) = (a.is ≡ r) × (0 < r)

more_node : (ws wires file : List ℕ) (a n p b q w k : ℕ) → w ≡ be16 file a → principal n ≡ p → on file a 3 ≡ b → next p ≡ q
    → join_wires (join_wire ws wires w p).ws (join_wire ws wires w p).wires file b q k ≡ join_node ws wires file a n k
unfolding join_node
more_node ws wires file a n p b q w k e f g h = rw (← h, ← f, e, ← g) refl

-- a node that is refused ends it
stop_node : (ws wires file : List ℕ) (net at k : ℕ) (a : Added) → a ≡ add_node ws wires file net at → 0 < a.is → a ≡ add_nodes ws wires file net at (suc k)
unfolding add_nodes
stop_node ws wires file net at k a e h = lt_yes 0 (add_node ws wires file net at).is _ _ (rw (← e) h) e

-- after one that is not the others come
after_node : (ws wires file : List ℕ) (net at k b : ℕ) (a : Added) → a ≡ add_node ws wires file net at → b ≡ within file (node_end file at) → a.is ≡ 0
    → add_nodes a.ws a.wires file net b k ≡ add_nodes ws wires file net at (suc k)
unfolding add_nodes
after_node ws wires file net at k b a e f z =
    lt_no 0 (add_node ws wires file net at).is _ _ (rw (← e, z) (omega arith)) (rw (← e, ← f) refl)

module _ (Named : ℕ → Name → Type 0) (t : FlatNet) (apart : PairsApart t.pairs) (m : ℕ) (file : List ℕ) where
  -- the ports of node n are joined by the table
  join_node_met : (at n : ℕ) (x : FlatNode) (ws wires : List ℕ) (met : List End) → n < 4096 → NodeIn Named t.pairs m file at x → Table t.pairs m wires met
      → ((v : ℕ) → of_wire v (ends_at t n 0 (x.pri ∷ x.aux) ++ met) ≤ 2)
      → ((join_node ws wires file (name_end file at) n (length x.aux)).ws ≡ links ws (join_met met (ends_at t n 0 (x.pri ∷ x.aux))))
      × Table t.pairs m (join_node ws wires file (name_end file at) n (length x.aux)).wires (ends_at t n 0 (x.pri ∷ x.aux) ++ met)
  unfolding ends_at node_end list_end
  join_node_met at n x ws wires met low s b few =
      let a = name_end file at in
      let ends = ends_at t n 1 x.aux in
      let g : on file a 3 ≡ a + 3 = let h = s.inside in omega arith in
      let most = s.most in
      let j = join_wire ws wires x.pri (number (port n 0)) in
      subst (λ (k : Joined). (k.ws ≡ links ws (join_met met (ends_at t n 0 (x.pri ∷ x.aux)))) × Table t.pairs m k.wires (ends_at t n 0 (x.pri ∷ x.aux) ++ met))
      (more_node ws wires file a n (number (port n 0)) (a + 3) (number (port n 1)) x.pri (length x.aux) s.pri (omega arith) g (omega arith))
      (join_more t.pairs apart m x.pri (port n 0) s.fits.0 (omega arith) ends ws wires met b few (join_wires j.ws j.wires file (a + 3) (number (port n 1)) (length x.aux))
      (λ u v. join_wires_met t apart m file n x.aux 1 (a + 3) j.ws j.wires _ u s.fits.1 s.aux (omega arith) v))

module _ (Named : ℕ → Name → Type 0) (t : FlatNet) (apart : PairsApart t.pairs) (m : ℕ) (file : List ℕ) (M : ℕ) (chain : List ℕ) (default : ℕ → ℕ) (ws₀ : List ℕ) (net : ℕ) (below : net < M)
    (F Z : Port → Type 0) where
  -- the number of the j-th new node
  abbrev N : ℕ → ℕ
  N j = get_or chain j (default j)

  -- node x, the j-th new one, and what comes after it
  module _ (x : FlatNode) (xs : List FlatNode) (at j : ℕ) (met : List End) (ws wires : List ℕ) (g : Graph) (e : Engine) (U : Port → Type 0) (s : NodeIn Named t.pairs m file at x)
      (l : Laid Named M chain ws₀ j g ws e) (b : Table t.pairs m wires met) (f : Safe F g U (load_nodes N t net met j (x ∷ xs)) Z)
      (few : (w : ℕ) → of_wire w (met_after t N met j (x ∷ xs)) ≤ 2) where
    ends : List End
    ends = ends_at t (N j) 0 (x.pri ∷ x.aux)

    node : Node
    node = new net x.name (length (ends_at t (N j) 0 (x.pri ∷ x.aux)))

    rest : List Edit
    rest = load_nodes N t net (ends_at t (N j) 0 (x.pri ∷ x.aux) ++ met) (1 + j) xs

    size : length node.ports ≡ 1 + length x.aux
    unfolding node new
    size = length-replicate (length (ends_at t (N j) 0 (x.pri ∷ x.aux))) none ∙ ends_length t (N j) (x.pri ∷ x.aux) 0 ∙ omega arith

    fits : Safe F g U (Insert (N j) node ∷ join_met met ends ++ rest) Z
    unfolding load_nodes ends node rest
    fits = f

    put : Left Placed
    put = insert_node ws (net + 1) (at % 4294967296) (1 + length x.aux)

    put_is : Puts Named M chain ws₀ j g (N j) node put (edit (Insert (N j) node) e)
    unfolding node put new
    put_is = let most = s.most in
        rw (← size) (puts Named M chain default ws₀ j g ws e l F (N j) node (at % 4294967296) fits.0 refl below s.named (let z = size in omega arith))

    end_is : name_end file at ≡ within file (name_end file at)
    end_is = let h = s.inside in let q = node_past file at in omega arith

    next_is : node_end file at ≡ within file (node_end file at)
    next_is = let h = s.inside in omega arith

    counts : (v : ℕ) → of_wire v (ends ++ met) ≤ 2
    unfolding ends
    counts v = let a = met_count t N v xs (ends ++ met) (1 + j) in let c = few v in omega arith

    -- the rest from there
    After : Type 1
    After = (w u : List ℕ) (h : Graph) (d : Engine) (Y : Port → Type 0) → Laid Named M chain ws₀ (1 + j) h w d → Table t.pairs m u (ends ++ met) → Safe F h Y rest Z
        → Adds Named M chain ws₀ (1 + j + length xs) (add_nodes w u file (net + 1) (node_end file at) (length xs)) (each edit rest d)

    node_step : After → Adds Named M chain ws₀ (j + length (x ∷ xs)) (add_nodes ws wires file (net + 1) at (suc (length xs))) (edit (Insert (N j) node) e >>= λ d. each edit (join_met met ends ++ rest) d)
    unfolding put ends After apply
    node_step after = go (edit (Insert (N j) node) e) put_is
      where
        a : ℕ
        a = name_end file at

        go : (r : Result Engine) → Puts Named M chain ws₀ j g (N j) node put r
            → Adds Named M chain ws₀ (j + length (x ∷ xs)) (add_nodes ws wires file (net + 1) at (suc (length xs))) (r >>= λ d. each edit (join_met met ends ++ rest) d)
        go (refuse r) p =
            let n : ◌≡◌ {A = Added} (record { is = r; ws = put.ws; wires = wires }) (add_node ws wires file (net + 1) at)
            = node_refused ws wires file put.ws (net + 1) at (name_end file at) (length x.aux) r put.is end_is s.count refl refl p.0 in
            (ap (λ (q : Added). q.is) (sym (stop_node ws wires file (net + 1) at (length xs) (record { is = r; ws = put.ws; wires = wires }) n p.1)), p.1)
        go (ok d) p =
            let k = join_node put.ws wires file (name_end file at) (N j) (length x.aux) in
            let n : ◌≡◌ {A = Added} (record { is = 0; ws = k.ws; wires = k.wires }) (add_node ws wires file (net + 1) at)
            = node_at ws wires file put.ws k.ws k.wires (net + 1) at (name_end file at) (length x.aux) put.is (record { 0 = N j }) end_is s.count refl refl p.0 refl refl in
            let jm = join_node_met Named t apart m file at (N j) x put.ws wires met p.2 s b counts in
            let lk = laid_links Named M chain default ws₀ F U Z (join_met met ends) rest (met_joins Named M chain default ws₀ ends met) (suc j) (fill g (N j) node) put.ws d p.1 fits.1 in
            let h = foldl apply (fill g (N j) node) (join_met met ends) in
            let one : suc j ≡ 1 + j = omega arith in
            let laid : Laid Named M chain ws₀ (1 + j) h k.ws lk.to
            = subst (λ (w : List ℕ). Laid Named M chain ws₀ (1 + j) h w lk.to) (sym jm.0) (subst (λ (c : ℕ). Laid Named M chain ws₀ c h (links put.ws (join_met met ends)) lk.to) one lk.laid) in
            let done = after k.ws k.wires h lk.to (useds U (join_met met ends)) laid jm.1 lk.safe in
            let is = after_node ws wires file (net + 1) at (length xs) (node_end file at) (record { is = 0; ws = k.ws; wires = k.wires }) n next_is refl in
            let size : 1 + j + length xs ≡ j + length (x ∷ xs) = omega arith in
            rw lk.goes (subst (λ (q : Added). Adds Named M chain ws₀ (j + length (x ∷ xs)) q (each edit rest lk.to)) is
            (subst (λ (c : ℕ). Adds Named M chain ws₀ c (add_nodes k.ws k.wires file (net + 1) (node_end file at) (length xs)) (each edit rest lk.to)) size done))

  pub add_nodes_means : (xs : List FlatNode) (at j : ℕ) (met : List End) (ws wires : List ℕ) (g : Graph) (e : Engine) (U : Port → Type 0) → NodesIn Named t.pairs m file at xs
      → Laid Named M chain ws₀ j g ws e → Table t.pairs m wires met → Safe F g U (load_nodes N t net met j xs) Z → ((w : ℕ) → of_wire w (met_after t N met j xs) ≤ 2)
      → Adds Named M chain ws₀ (j + length xs) (add_nodes ws wires file (net + 1) at (length xs)) (each edit (load_nodes N t net met j xs) e)
  unfolding add_nodes load_nodes ends node rest After
  add_nodes_means [] at j met ws wires g e U s l b f few =
      (refl, subst (λ (k : ℕ). Laid Named M chain ws₀ k (graph_of e) ws e) (omega arith) (subst (λ (h : Graph). Laid Named M chain ws₀ j h ws e) (sym l.stage.edited.nodes) l))
  add_nodes_means (x ∷ xs) at j met ws wires g e U s l b f few =
      node_step x xs at j met ws wires g e U s.0 l b f few
      (λ w u h d Y l' b' f'. add_nodes_means xs (node_end file at) (1 + j) (ends_at t (N j) 0 (x.pri ∷ x.aux) ++ met) w u h d Y s.1 l' b' f' few)
