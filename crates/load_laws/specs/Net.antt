-- One net is loaded: its free node, its own wire, its nodes; every port is used once.
use Rattle.std.specs.Prelude.{◌≡◌, refl, ◌≢◌, ◌⊎◌, ℕ, zero, suc, ◌+◌, ◌<◌, ◌≤◌, Bool, true, false}
use Rattle.std.proofs.Common.{sym, ap, ◌∙◌, inl, inr, true≢false}
use Rattle.std.proofs.Math.Path.{subst}
use native.Mathlib.Omega.{arith}
use Rattle.std.proofs.Math.Option.{Option, none, some}
use mathlib.Core.List.Memᴰ
use mathlib.Core.List.{List, [], ◌∷◌, ◌++◌, Memᴰ}
use Rattle.std.proofs.Math.ListN.{length, length-replicate}
use Rattle.net_file.specs.Values.{Name, FlatNode, FlatNet}
use Rattle.net_file.specs.Checks.{pairs_ordered, flat_wired}
use Rattle.definitions.specs.Lists.{or_else, foldl}
use Rattle.definitions.specs.Nets.{Port, Node, Graph, port, at, filled, arity}
use Rattle.definitions.specs.Scripts.{Edit, Insert, Join, fill, join, apply}
use Rattle.definitions.specs.Rules.{new}
use Rattle.definitions.specs.Load.{End, ends_at, join_met, load_nodes, load_net}
use Rattle.join_laws.specs.Ports.{Frame, no_frame, frame, arity_frame, arity_same, net_frame, net_same, filled_same, Real}
use Rattle.join_laws.proofs.Join.{frame_join}
use Rattle.script_laws.specs.Slots.{frame_fill_same, frame_fill_other}
use Rattle.script_laws.specs.Safe.{With, was, first, second, Safe}
use Rattle.script_laws.proofs.Safe.{safe_same, safe_append}
use Rattle.script_laws.specs.Loops.{Or, left, right, safe_end}
use Rattle.rule_laws.specs.Places.{new_holes}
use Rattle.load_laws.specs.Meets.{of_wire, of_wire_append, PortsApart, Joined, UsedBy, MeetsFit, meets_safe}
use Rattle.load_laws.specs.Ends.{ends_length, ends_mem, ends_at_lem, ends_apart, apart_append, frame_join_met, node_ends, met_after, met_kept, all_ends, all_count}

-- a new node's frame
pub new_frame : (g : Graph) (n k : ℕ) (name : Name) (len : ℕ) → frame (fill g n (new k name len)) n ≡ some (record { net = k; name = name; size = len })
unfolding new
new_frame g n k name len = frame_fill_same g n (new k name len) ∙ ap (λ (s : ℕ). some (record { net = k; name = name; size = s })) (length-replicate len none)

module _ (t : FlatNet) (N : ℕ → ℕ) (apart : (i j : ℕ) → N i ≡ N j → i ≡ j) (k : ℕ) (B : Port → Type 0) (F : Port → Type 0) where
  -- what is asked where the nodes from the j-th on are loaded, `met` being the ends so far
  pub record NodesFit (g : Graph) (met : List End) (j : ℕ) (xs : List FlatNode) : Type 0 where
    pub vacant : (i : ℕ) → j ≤ i → filled g (N i) ≡ false
    pub below : (y : End) → Memᴰ y met → (i : ℕ) × (i < j) × (y.1.node ≡ N i)
    pub real : (y : End) → Memᴰ y met → Real g y.1
    pub in_net : (y : End) → Memᴰ y met → (at g y.1.node).net ≡ k
    pub off : (y : End) → Memᴰ y met → ¬ B y.1
    pub off_new : (i a : ℕ) → j ≤ i → ¬ B (port (N i) a)
    pub ports : PortsApart met
    pub most : (w : ℕ) → of_wire w (met_after t N met j xs) ≤ 2
    pub later : (y : End) → Memᴰ y (met_after t N met j xs) → F y.1

  module _ (g : Graph) (met : List End) (j : ℕ) (x : FlatNode) (xs : List FlatNode) (f : NodesFit g met j (x ∷ xs)) where
    abbrev pub ends : List End
    ends = node_ends t N j x

    abbrev pub node : Node
    node = new k x.name (length ends)

    abbrev pub g₁ : Graph
    g₁ = fill g (N j) node

    abbrev pub g₂ : Graph
    g₂ = foldl apply g₁ (join_met met ends)

    pub size : length ends ≡ suc (length x.aux)
    size = ends_length t (N j) (x.pri ∷ x.aux) 0

    pub new₁ : frame g₁ (N j) ≡ some (record { net = k; name = x.name; size = length ends })
    new₁ = new_frame g (N j) k x.name (length ends)

    pub other₁ : (n : ℕ) → n ≢ N j → frame g₁ n ≡ frame g n
    other₁ n h = frame_fill_other g (N j) n node h

    pub same₂ : (n : ℕ) → frame g₂ n ≡ frame g₁ n
    same₂ n = frame_join_met ends met g₁ n

    pub off_j : (y : End) → Memᴰ y met → y.1.node ≢ N j
    off_j y m e = let z = f.below y m in let q = apart z.0 j (sym z.2 ∙ e) in let l = z.1 in omega arith

    pub real₁ : (y : End) → Memᴰ y (ends ++ met) → Real g₁ y.1
    real₁ y m = go (Memᴰ.append_cases ends m)
      where
        go : Memᴰ y ends ⊎ Memᴰ y met → Real g₁ y.1
        go (inl n) =
            let z = ends_mem t (N j) (x.pri ∷ x.aux) 0 y n in
            subst (Real g₁) (sym z.3) (rw (arity_frame g₁ (N j) ∙ ap (λ (o : Option Frame). (or_else o no_frame).size) new₁) (let q = z.2 in let s = size in omega arith))
        go (inr n) = rw (arity_same g g₁ y.1.node (other₁ y.1.node (off_j y n))) (f.real y n)

    pub net₁ : (y : End) → Memᴰ y (ends ++ met) → (at g₁ y.1.node).net ≡ k
    net₁ y m = go (Memᴰ.append_cases ends m)
      where
        go : Memᴰ y ends ⊎ Memᴰ y met → (at g₁ y.1.node).net ≡ k
        go (inl n) =
            let z = ends_mem t (N j) (x.pri ∷ x.aux) 0 y n in
            ap (λ (p : Port). (at g₁ p.node).net) z.3 ∙ net_frame g₁ (N j) ∙ ap (λ (o : Option Frame). (or_else o no_frame).net) new₁
        go (inr n) = net_same g g₁ y.1.node (other₁ y.1.node (off_j y n)) ∙ f.in_net y n

    pub off₁ : (y : End) → Memᴰ y (ends ++ met) → ¬ B y.1
    off₁ y m = go (Memᴰ.append_cases ends m)
      where
        go : Memᴰ y ends ⊎ Memᴰ y met → ¬ B y.1
        go (inl n) b = let z = ends_mem t (N j) (x.pri ∷ x.aux) 0 y n in f.off_new j z.0 (omega arith) (subst B z.3 b)
        go (inr n) b = f.off y n b

    pub ports₁ : PortsApart (ends ++ met)
    ports₁ = apart_append ends met (ends_apart t (N j) (x.pri ∷ x.aux) 0) f.ports
        (λ u y m n e. let z = ends_mem t (N j) (x.pri ∷ x.aux) 0 u m in off_j y n (ap (λ (p : Port). p.node) (e ∙ z.3)))

    pub count_kept : (w : ℕ) (ys : List FlatNode) (ms : List End) (i : ℕ) → of_wire w ms ≤ of_wire w (met_after t N ms i ys)
    count_kept w [] ms i = omega arith
    count_kept w (y ∷ ys) ms i = let a = count_kept w ys (node_ends t N i y ++ ms) (1 + i) in let b = of_wire_append w (node_ends t N i y) ms in omega arith

    pub meets_fit : MeetsFit B k g₁ met ends
    meets_fit = record {
      real = real₁;
      in_net = net₁;
      off = off₁;
      ports = ports₁;
      most = λ w. let a = count_kept w xs (ends ++ met) (1 + j) in let b = f.most w in omega arith;
    }

    pub next_fit : NodesFit g₂ (ends ++ met) (1 + j) xs
    next_fit = record {
      vacant = λ i l. filled_same g g₂ (N i) (same₂ (N i) ∙ other₁ (N i) (λ e. let q = apart i j e in omega arith)) ∙ f.vacant i (omega arith);
      below = λ y m. below y (Memᴰ.append_cases ends m);
      real = λ y m. rw (arity_same g₁ g₂ y.1.node (same₂ y.1.node)) (real₁ y m);
      in_net = λ y m. net_same g₁ g₂ y.1.node (same₂ y.1.node) ∙ net₁ y m;
      off = off₁;
      off_new = λ i a l. f.off_new i a (omega arith);
      ports = ports₁;
      most = f.most;
      later = f.later;
    }
      where
        below : (y : End) → Memᴰ y ends ⊎ Memᴰ y met → (i : ℕ) × (i < 1 + j) × (y.1.node ≡ N i)
        below y (inl n) = (j, omega arith, ap (λ (p : Port). p.node) (ends_mem t (N j) (x.pri ∷ x.aux) 0 y n).3)
        below y (inr n) = let z = f.below y n in (z.0, (let l = z.1 in omega arith), z.2)

    pub node_later : (i : ℕ) → i < length node.ports → F (port (N j) i)
    unfolding new
    node_later i l =
        let s = size in
        let q : length node.ports ≡ length ends = length-replicate (length ends) none in
        let z = ends_at_lem t (N j) (x.pri ∷ x.aux) 0 i (omega arith) (omega arith) in
        subst F z.2 (f.later z.0 (met_kept t N xs (ends ++ met) (1 + j) z.0 (Memᴰ.append_left met z.1)))

    pub some_port : 0 < length node.ports
    unfolding new
    some_port = let s = size in let q : length node.ports ≡ length ends = length-replicate (length ends) none in omega arith
