-- A load whose free nodes have a name that no node of the nets has: of its nodes only the nets' free nodes have that name.
use Rattle.std.specs.Prelude.{ℕ, ◌+◌, ◌≡◌, Bool, true, false, ◌||◌}
use Rattle.std.proofs.Math.Path.{refl, sym}
use Rattle.std.proofs.Common.{◌∙◌, subst, true≢false, eq-eqb}
use Rattle.std.proofs.Math.Option.{Option, none, some}
use mathlib.Core.List.{List, [], ◌∷◌, ◌++◌, Memᴰ}
use Rattle.std.proofs.Math.ListN.{length}
use Rattle.std.proofs.Math.Dec.{eqb}
use Rattle.std.proofs.Math.Decide.{ℕ_discrete}
use Rattle.list_laws.specs.Lists.{any_append}
use Rattle.net_file.specs.Lists.{Result, ok, refuse}
use Rattle.net_file.specs.Values.{Name, FlatNode, FlatNet}
use Rattle.net_file_laws.specs.Exact.{Each}
use Rattle.definitions.specs.Lists.{◌>>=◌, find, each, foldl}
use Rattle.definitions.specs.Nets.{Graph, Home, port}
use Rattle.definitions.specs.Scripts.{Edit, Join, fill, apply, apply_script}
use Rattle.definitions.specs.Rules.{new}
use Rattle.definitions.specs.State.{Engine, graph_of, homes}
use Rattle.definitions.specs.Load.{End, ends_at, join_met, load_nodes, load_net, add_flat_net}
use Rattle.join_laws.specs.Ports.{filled_same, name_same}
use Rattle.script_laws.specs.Slots.{frame_fill_other}
use Rattle.graph_laws.specs.Nodes.{Brings, brings_append}
use Rattle.step_laws.specs.Core.{Core, core_of}
use Rattle.step_laws.specs.Edits.{Then}
use Rattle.load_laws.specs.Loaded.{Loaded, NetFine, Added}
use Rattle.load_laws.proofs.Loaded.{net_loaded}
use Rattle.places_means.specs.Brought.{Differs, Has, script_has}
use Rattle.places_means.specs.Starred.{is_free}

or_right : (a b : Bool) → b ≡ true → (a || b) ≡ true
or_right true b h = refl
or_right false b h = h

or_left : (a b : Bool) → a ≡ true → (a || b) ≡ true
or_left true b h = refl
or_left false b h = absurd (true≢false (sym h))

-- a free node of one of the first nets, or of the last
free_old : (hs : List Home) (h : Home) (n : ℕ) → is_free hs n ≡ true → is_free (hs ++ h ∷ []) n ≡ true
free_old hs h n q = any_append (λ (x : Home). eqb x.free n) hs (h ∷ []) ∙ or_left (is_free hs n) (is_free (h ∷ []) n) q

free_new : (hs : List Home) (h : Home) (n : ℕ) → n ≡ h.free → is_free (hs ++ h ∷ []) n ≡ true
free_new hs h n q = any_append (λ (x : Home). eqb x.free n) hs (h ∷ []) ∙ or_right (is_free hs n) (is_free (h ∷ []) n) (or_left (eqb h.free n) false (eq-eqb h.free n (sym q)))

module _ (other : Name) where
  -- only free nodes have the name
  abbrev pub Only : Graph → List Home → Type 0
  Only g hs = (n : ℕ) → Has other g n → is_free hs n ≡ true

  -- a net none of whose nodes has it, and that the checks accept
  pub record Fine (t : FlatNet) : Type 0 where
    pub net : NetFine t
    pub nodes : Each (λ (x : FlatNode). x.name ≡ other → ⊥) t.nodes

  met_differ : (met xs : List End) → Brings (Differs other) (join_met met xs)
  unfolding join_met
  met_differ met [] = tt
  met_differ met (x ∷ xs) = go (find (λ y. eqb x.0 y.0) met) (met_differ (x ∷ met) xs)
    where
      go : (o : Option End) → Brings (Differs other) (join_met (x ∷ met) xs)
          → Brings (Differs other) (elim o as (λ _. List Edit) [ none ↦ join_met (x ∷ met) xs | some y ↦ Join x.1 y.1 ∷ join_met (x ∷ met) xs ])
      go none b = b
      go (some y) b = b

  nodes_differ : (N : ℕ → ℕ) (t : FlatNet) (k : ℕ) (xs : List FlatNode) (met : List End) (j : ℕ) → Each (λ (x : FlatNode). x.name ≡ other → ⊥) xs → Brings (Differs other) (load_nodes N t k met j xs)
  unfolding load_nodes new
  nodes_differ N t k [] met j h = tt
  nodes_differ N t k (x ∷ xs) met j h = (
    h.0,
    brings_append (Differs other) (join_met met ends) (load_nodes N t k (ends ++ met) (1 + j) xs) (met_differ met ends) (nodes_differ N t k xs (ends ++ met) (1 + j) h.1),
  )
    where
      ends : List End
      ends = ends_at t (N j) 0 (x.pri ∷ x.aux)

  -- the nodes that have it after the load of a net: the net's free node, and those that had it
  net_has : (N : ℕ → ℕ) (k : ℕ) (t : FlatNet) (g : Graph) → Each (λ (x : FlatNode). x.name ≡ other → ⊥) t.nodes
      → (n : ℕ) → (n ≡ N 0 → ⊥) → Has other (foldl apply g (load_net N other k t)) n → Has other g n
  unfolding load_net apply apply_script new
  net_has N k t g h n d a =
      let x = new k other (2 + length t.free) in
      let ends = ends_at t (N 0) 2 t.free in
      let ds = join_met [] ends ++ load_nodes N t k ends 1 t.nodes in
      let b : Brings (Differs other) ds = brings_append (Differs other) (join_met [] ends) (load_nodes N t k ends 1 t.nodes) (met_differ [] ends) (nodes_differ N t k t.nodes ends 1 h) in
      let c = script_has other (fill g (N 0) x) (record { edits = Join (port (N 0) 0) (port (N 0) 1) ∷ ds; dead = [] }) b n a in
      let q = frame_fill_other g (N 0) n x d in
      (sym (filled_same g (fill g (N 0) x) n q) ∙ c.0, sym (name_same g (fill g (N 0) x) n q) ∙ c.1)

  net_only : (t : FlatNet) (c d : Core) → Fine t → Added other t c d → Only c.graph c.homes → Only d.graph d.homes
  net_only t c d f a o n h = subst (λ (hs : List Home). is_free hs n ≡ true) (sym a.homes) (go (ℕ_discrete n (a.numbers 0)))
    where
      go : Dec (n ≡ a.numbers 0) → is_free (c.homes ++ record { name = t.name; free = a.numbers 0 } ∷ []) n ≡ true
      go (yes q) = free_new c.homes (record { name = t.name; free = a.numbers 0 }) n q
      go (no q) = free_old c.homes (record { name = t.name; free = a.numbers 0 }) n
          (o n (net_has a.numbers (length c.homes) t c.graph f.nodes n q (subst (λ (g : Graph). Has other g n) a.graph h)))

  pub nets_only : (ts : List FlatNet) (e : Engine) → ((t : FlatNet) → Memᴰ t ts → Fine t) → Loaded other.path (core_of e) → Only (graph_of e) (homes e)
      → Then (λ e'. Only (graph_of e') (homes e')) (each (add_flat_net other) ts e)
  unfolding core_of
  nets_only [] e h l o = o
  nets_only (t ∷ ts) e h l o =
      go (add_flat_net other t e) (net_loaded other.path other refl t e (h t (Memᴰ.head refl)).net l) (λ e'. nets_only ts e' (λ u m. h u (Memᴰ.tail m)))
    where
      go : (r : Result Engine) → Then (λ e'. Loaded other.path (core_of e') × Added other t (core_of e) (core_of e')) r
          → ((e' : Engine) → Loaded other.path (core_of e') → Only (graph_of e') (homes e') → Then (λ e''. Only (graph_of e'') (homes e'')) (each (add_flat_net other) ts e'))
          → Then (λ e''. Only (graph_of e'') (homes e'')) (r >>= λ e'. each (add_flat_net other) ts e')
      go (refuse r) x k = tt
      go (ok e') x k = k e' x.0 (net_only t (core_of e) (core_of e') (h t (Memᴰ.head refl)) x.1 o)
