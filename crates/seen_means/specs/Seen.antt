-- Words that mean an engine at rest show a visit what level Engine sees: the node's name, whether its principal port meets a principal port, and whose.
use Rattle.std.specs.Prelude.{ℕ, ◌+◌, ◌*◌, ◌%◌, ◌<◌, refl, true, List}
use Rattle.std.proofs.Math.Path.{◌≡◌, sym, ap}
use Rattle.std.proofs.Common.{◌∙◌, subst, eqb-true, eq-eqb}
use Rattle.std.proofs.Math.Option.{Option, none, some}
use native.Mathlib.Omega.{arith}
use Rattle.net_file.specs.Values.{FlatNet, File}
use Rattle.list_laws.specs.Tests.{same_test}
use Rattle.definitions.specs.Lists.{or_else, nth}
use Rattle.definitions.specs.Nets.{Port, Home, port, is_principal, filled, name_of, arity, follow}
use Rattle.definitions.specs.State.{Engine, graph_of, homes}
use Rattle.join_laws.specs.Ports.{Frame, no_frame, frame, arity_frame, name_frame, same_port_lem, Real}
use Rattle.rule_laws.specs.Places.{follow_real, follow_back, across_follow}
use Rattle.graph_laws.specs.Rest.{Rest}
use Rattle.layout.specs.Layout.{across, principal, is_principal_words}
use Rattle.means.specs.Means.{number, SlotIs, Means}
use Rattle.means.specs.Frame.{real_inside}
use Rattle.tried.specs.Tries.{name}
use Rattle.held_names.specs.Named.{Named, named_stands}
use Rattle.visit_means.specs.Visit.{Seen}

-- a node whose name has the place 0 is some net's free node
abbrev pub FreeOnly : List ℕ → Engine → Type 0
FreeOnly ws e = (k : ℕ) → 0 < arity (graph_of e) k → name ws k ≡ 0 → (j : ℕ) × (h : Home) × (nth (homes e) j ≡ some h) × (h.free ≡ k)

-- a net's free node's name has it
abbrev pub FreeAll : List ℕ → Engine → Type 0
FreeAll ws e = (j : ℕ) (h : Home) → nth (homes e) j ≡ some h → filled (graph_of e) h.free ≡ true → name ws h.free ≡ 0

-- the place 0 is the free nodes', and theirs alone
abbrev pub FreePlaces : List ℕ → Engine → Type 0
FreePlaces ws e = FreeOnly ws e × FreeAll ws e

-- a port's number says whether it is a principal port
principal_is : (p : Port) → p.index < 16 → is_principal_words (number p) ≡ is_principal p
unfolding is_principal_words is_principal
principal_is p h = same_test _ _
    (λ t. let z = eqb-true ((32 * p.node + (8 + p.index)) % 32) 8 t in eq-eqb p.index 0 (omega arith))
    (λ t. let z = eqb-true p.index 0 t in eq-eqb ((32 * p.node + (8 + p.index)) % 32) 8 (omega arith))

principal_index : (p : Port) → is_principal p ≡ true → p.index ≡ 0
unfolding is_principal
principal_index p t = eqb-true p.index 0 t

module _ (s : List ℕ) (f : File FlatNet) (ws : List ℕ) (e : Engine) (m : Means (Named s f) ws e) (path : ℕ) (rest : Rest path (homes e) (graph_of e)) (free : FreePlaces ws e) where
  -- the name of a node with ports
  pub name_is : (k : ℕ) → 0 < arity (graph_of e) k → Named s f (name ws k) (name_of (graph_of e) k)
  name_is k h = go (frame (graph_of e) k) refl (m.nodes.slot k (real_inside m.nodes (port k 0) h).0)
    where
      go : (o : Option Frame) → frame (graph_of e) k ≡ o → SlotIs (Named s f) ws k o → Named s f (name ws k) (name_of (graph_of e) k)
      go none i u = let z = arity_frame (graph_of e) k ∙ ap (λ (o : Option Frame). (or_else o no_frame).size) i in absurd (omega arith)
      go (some x) i u =
          let z : name_of (graph_of e) k ≡ x.name = name_frame (graph_of e) k ∙ ap (λ (o : Option Frame). (or_else o no_frame).name) i in
          subst (Named s f (name ws k)) (sym z) u.1

  module _ (n : ℕ) (there : 0 < arity (graph_of e) n) where
    q : Port
    q = follow (graph_of e) (port n 0)

    meets_real : Real (graph_of e) q
    unfolding q
    meets_real = follow_real (graph_of e) rest.well (port n 0) there

    number_is : across ws (principal n) ≡ number q
    unfolding q
    number_is =
        let l = (real_inside m.nodes (port n 0) there).0 in
        let b = m.header.few_nodes in
        let z : principal n ≡ number (port n 0) = omega arith in
        rw z (m.nodes.port (port n 0) there)

    small : q.index < 16
    small = (real_inside m.nodes q meets_real).1

    -- a principal port that another meets is no free node's
    not_free : is_principal q ≡ true → name ws q.node ≡ 0 → ⊥
    unfolding q
    not_free t z =
        let i : q.index ≡ 0 = principal_index q t in
        let h = free.0 q.node (let r = meets_real in omega arith) z in
        let p : q ≡ port h.1.free 0 = same_port_lem q (port h.1.free 0) (sym h.3) i in
        let a = across_follow (graph_of e) rest.well (port h.1.free 0) (port h.1.free 1) (rest.free h.0 h.1 h.2).wired in
        let c : follow (graph_of e) q ≡ port h.1.free 1 = ap (follow (graph_of e)) p ∙ a in
        let d : port n 0 ≡ port h.1.free 1 = sym (follow_back (graph_of e) rest.well (port n 0) there) ∙ c in
        let y : ◌≡◌ {A = ℕ} 0 1 = ap (λ (r : Port). r.index) d in
        omega arith

    pub means_seen : e.rules ≡ f.rules → Seen s f ws e n
    unfolding q
    means_seen r = record {
      rules = r;
      named = name_is n there;
      meets = ap is_principal_words number_is ∙ principal_is q small;
      node = λ t. let i = number_is in let b = small in omega arith;
      other = λ t. named_stands s f (name ws q.node) (name_of (graph_of e) q.node) (name_is q.node (let l = meets_real in omega arith)) (not_free t);
    }
