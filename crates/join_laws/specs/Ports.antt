-- What rewiring one port changes: the port across from it, and nothing else. Nets, names and numbers of ports stay.
use Rattle.std.specs.Prelude.{◌≡◌, ◌≢◌, ℕ, zero, suc, ◌<◌, Bool, true, ◌&&◌, List, [], ◌∷◌, get_or, set, T}
use Rattle.std.proofs.Math.Path.{refl}
use Rattle.std.proofs.Common.{sym, ap, ◌∙◌, subst, not-suc-le-zero, arith, length-set, get_or-set_same, get_or-set_other, eqb→eq}
use Rattle.std.proofs.Math.Decide.{ℕ_discrete}
use Rattle.std.proofs.Math.Bool.{false}
use Rattle.std.proofs.lemmas.Bool.{false≢true}
use Rattle.std.proofs.Math.Option.{Option, none, some}
use Rattle.std.proofs.Math.ListN.{length}
use Rattle.std.proofs.Math.Dec.{eqb, eqb_refl}
use Rattle.net_file.specs.Values.{Name}
use Rattle.definitions.specs.Lists.{or_else, is_some}
use Rattle.definitions.specs.Nets.{Port, Node, Graph, port, same_port, nowhere, at, filled, holds, name_of, arity, across}
use Rattle.definitions.specs.Scripts.{wire}

-- ---- ports are equal by their two numbers

pub same_port_lem : (p q : Port) → p.node ≡ q.node → p.index ≡ q.index → p ≡ q
same_port_lem p q m n = λ i. record { node = m i; index = n i }

pub port_discrete : (p q : Port) → Dec (p ≡ q)
port_discrete p q = go (ℕ_discrete p.node q.node) (ℕ_discrete p.index q.index)
  where
    go : Dec (p.node ≡ q.node) → Dec (p.index ≡ q.index) → Dec (p ≡ q)
    go (yes m) (yes n) = yes (same_port_lem p q m n)
    go (yes m) (no n) = no (λ e. n (ap (λ (r : Port). r.index) e))
    go (no m) d = no (λ e. m (ap (λ (r : Port). r.node) e))

pub same_port_true : (p q : Port) → same_port p q ≡ true → p ≡ q
unfolding same_port
same_port_true p q e = go (eqb p.node q.node) (eqb p.index q.index) refl refl e
  where
    go : (s t : Bool) → eqb p.node q.node ≡ s → eqb p.index q.index ≡ t → (s && t) ≡ true → p ≡ q
    go true true m n x = same_port_lem p q (eqb→eq p.node q.node (subst T (sym m) tt)) (eqb→eq p.index q.index (subst T (sym n) tt))
    go true false m n x = absurd (false≢true x)
    go false t m n x = absurd (false≢true x)

pub same_port_self : (p : Port) → same_port p p ≡ true
unfolding same_port
same_port_self p = go (eqb p.node p.node) (eqb p.index p.index) (eqb_refl p.node) (eqb_refl p.index)
  where
    go : (s t : Bool) → T s → T t → (s && t) ≡ true
    go true true x y = refl
    go true false x y = absurd y
    go false t x y = absurd x

pub same_port_false : (p q : Port) → same_port p q ≡ false → p ≢ q
same_port_false p q e s = false≢true (sym e ∙ sym (ap (same_port p) s) ∙ same_port_self p)

-- ---- what wiring leaves alone

-- of a node: its net, its name and how many ports it has
pub record Frame : Type 0 where
  pub net : ℕ
  pub name : Name
  pub size : ℕ

-- a node's frame
abbrev pub frame_of : Option Node → Option Frame
frame_of none = none
frame_of (some x) = some (record { net = x.net; name = x.name; size = length x.ports })

-- the frame at number n
unfoldable pub frame : Graph → ℕ → Option Frame
frame g n = frame_of (get_or g n none)

-- what no node has
abbrev pub no_frame : Frame
no_frame = record { net = 0; name = nowhere.name; size = 0 }

-- the frame of a node of net k
abbrev pub in_net : ℕ → Option Frame → Bool
in_net k none = false
in_net k (some f) = eqb f.net k

module _ (g : Graph) (n : ℕ) where
  pub arity_frame : arity g n ≡ (or_else (frame g n) no_frame).size
  unfolding arity at frame
  arity_frame = go (get_or g n none)
    where
      go : (o : Option Node) → length (or_else o nowhere).ports ≡ (or_else (frame_of o) no_frame).size
      go none = refl
      go (some x) = refl

  pub name_frame : name_of g n ≡ (or_else (frame g n) no_frame).name
  unfolding name_of at frame
  name_frame = go (get_or g n none)
    where
      go : (o : Option Node) → (or_else o nowhere).name ≡ (or_else (frame_of o) no_frame).name
      go none = refl
      go (some x) = refl

  pub net_frame : (at g n).net ≡ (or_else (frame g n) no_frame).net
  unfolding at frame
  net_frame = go (get_or g n none)
    where
      go : (o : Option Node) → (or_else o nowhere).net ≡ (or_else (frame_of o) no_frame).net
      go none = refl
      go (some x) = refl

  pub filled_frame : filled g n ≡ is_some (frame g n)
  unfolding filled frame
  filled_frame = go (get_or g n none)
    where
      go : (o : Option Node) → is_some o ≡ is_some (frame_of o)
      go none = refl
      go (some x) = refl

  pub holds_frame : (k : ℕ) → holds g k n ≡ in_net k (frame g n)
  unfolding holds frame
  holds_frame k = go (get_or g n none)
    where
      go : (o : Option Node) → elim o as (λ _. Bool) [ none ↦ false | some x ↦ eqb x.net k ] ≡ in_net k (frame_of o)
      go none = refl
      go (some x) = refl

-- two graphs with the same frame at n
module _ (g h : Graph) (n : ℕ) (e : frame h n ≡ frame g n) where
  pub arity_same : arity h n ≡ arity g n
  arity_same = arity_frame h n ∙ ap (λ (o : Option Frame). (or_else o no_frame).size) e ∙ sym (arity_frame g n)

  pub name_same : name_of h n ≡ name_of g n
  name_same = name_frame h n ∙ ap (λ (o : Option Frame). (or_else o no_frame).name) e ∙ sym (name_frame g n)

  pub net_same : (at h n).net ≡ (at g n).net
  net_same = net_frame h n ∙ ap (λ (o : Option Frame). (or_else o no_frame).net) e ∙ sym (net_frame g n)

  pub filled_same : filled h n ≡ filled g n
  filled_same = filled_frame h n ∙ ap is_some e ∙ sym (filled_frame g n)

  pub holds_same : (k : ℕ) → holds h k n ≡ holds g k n
  holds_same k =
      holds_frame h n k ∙ ap (in_net k) e ∙ sym (holds_frame g n k)

-- ---- one port is rewired

-- a node with one port rewired
abbrev rewired : Node → ℕ → Option Port → Node
rewired x i q = record { net = x.net; name = x.name; ports = set x.ports i q }

slot_other : (g : Graph) (p : Port) (q : Option Port) (n : ℕ) → n ≢ p.node → get_or (wire g p q) n none ≡ get_or g n none
unfolding wire
slot_other g p q n h = go (get_or g p.node none)
  where
    go : (o : Option Node)
        → get_or (elim o as (λ _. Graph) [ none ↦ g | some x ↦ set g p.node (some (rewired x p.index q)) ]) n none ≡ get_or g n none
    go none = refl
    go (some x) = get_or-set_other g p.node n (some (rewired x p.index q)) none h

-- the number of a node is in range
slot_in : (g : Graph) (n : ℕ) (x : Node) → get_or g n none ≡ some x → n < length g
slot_in [] n x e = let z : ◌≡◌ {A = ℕ} 0 1 = cc in absurd (omega arith)
slot_in (y ∷ g) zero x e = omega arith
slot_in (y ∷ g) (suc n) x e = let h = slot_in g n x e in omega arith

slot_same : (g : Graph) (p : Port) (q : Option Port) (x : Node) → get_or g p.node none ≡ some x
    → get_or (wire g p q) p.node none ≡ some (rewired x p.index q)
unfolding wire
slot_same g p q x e = rw (e, wire) (get_or-set_same g p.node (some (rewired x p.index q)) none (slot_in g p.node x e))

slot_vacant : (g : Graph) (p : Port) (q : Option Port) → get_or g p.node none ≡ none → wire g p q ≡ g
unfolding wire
slot_vacant g p q e = rw (e, wire)

pub frame_wire : (g : Graph) (p : Port) (q : Option Port) (n : ℕ) → frame (wire g p q) n ≡ frame g n
unfolding frame
frame_wire g p q n = go (ℕ_discrete n p.node) (get_or g p.node none) refl
  where
    go : Dec (n ≡ p.node) → (o : Option Node) → get_or g p.node none ≡ o → frame_of (get_or (wire g p q) n none) ≡ frame_of (get_or g n none)
    go (no h) o e = ap frame_of (slot_other g p q n h)
    go (yes h) none e = ap (λ (k : Graph). frame_of (get_or k n none)) (slot_vacant g p q e)
    go (yes h) (some x) e =
        ap (λ (m : ℕ). frame_of (get_or (wire g p q) m none)) h ∙ ap frame_of (slot_same g p q x e)
        ∙ ap (λ (k : ℕ). some (record { net = x.net; name = x.name; size = k })) (length-set x.ports p.index q)
        ∙ sym (ap frame_of e) ∙ sym (ap (λ (m : ℕ). frame_of (get_or g m none)) h)

-- the port exists
abbrev pub Real : Graph → Port → Type 0
Real g p = p.index < arity g p.node

pub across_wire_same : (g : Graph) (p : Port) (q : Option Port) → Real g p → across (wire g p q) p ≡ q
unfolding across arity at
across_wire_same g p q h = go (get_or g p.node none) refl
  where
    go : (o : Option Node) → get_or g p.node none ≡ o → get_or (or_else (get_or (wire g p q) p.node none) nowhere).ports p.index none ≡ q
    go none e = absurd (not-suc-le-zero (subst (λ (o : Option Node). p.index < length (or_else o nowhere).ports) e h))
    go (some x) e =
        ap (λ (o : Option Node). get_or (or_else o nowhere).ports p.index none) (slot_same g p q x e)
        ∙ get_or-set_same x.ports p.index q none (subst (λ (o : Option Node). p.index < length (or_else o nowhere).ports) e h)

pub across_wire_other : (g : Graph) (p : Port) (q : Option Port) (r : Port) → r ≢ p → across (wire g p q) r ≡ across g r
unfolding across at
across_wire_other g p q r h = go (ℕ_discrete r.node p.node) (get_or g p.node none) refl
  where
    A : Graph → ℕ → Option Port
    A k n = get_or (or_else (get_or k n none) nowhere).ports r.index none

    go : Dec (r.node ≡ p.node) → (o : Option Node) → get_or g p.node none ≡ o
        → get_or (or_else (get_or (wire g p q) r.node none) nowhere).ports r.index none ≡ get_or (or_else (get_or g r.node none) nowhere).ports r.index none
    go (no m) o e = ap (λ (s : Option Node). get_or (or_else s nowhere).ports r.index none) (slot_other g p q r.node m)
    go (yes m) none e = ap (λ (k : Graph). get_or (or_else (get_or k r.node none) nowhere).ports r.index none) (slot_vacant g p q e)
    go (yes m) (some x) e =
        ap (λ (n : ℕ). get_or (or_else (get_or (wire g p q) n none) nowhere).ports r.index none) m
        ∙ ap (λ (s : Option Node). get_or (or_else s nowhere).ports r.index none) (slot_same g p q x e)
        ∙ get_or-set_other x.ports p.index r.index q none (λ i. h (same_port_lem r p m i))
        ∙ sym (ap (λ (s : Option Node). get_or (or_else s nowhere).ports r.index none) e)
        ∙ sym (ap (λ (n : ℕ). get_or (or_else (get_or g n none) nowhere).ports r.index none) m)

pub real_wire : (g : Graph) (p : Port) (q : Option Port) (r : Port) → Real g r → Real (wire g p q) r
real_wire g p q r h = rw (arity_same g (wire g p q) r.node (frame_wire g p q r.node)) h

-- a filled port exists
pub across_real : (g : Graph) (p q : Port) → across g p ≡ some q → Real g p
unfolding across arity
across_real g p q e = go (at g p.node).ports p.index e
  where
    go : (xs : List (Option Port)) (i : ℕ) → get_or xs i none ≡ some q → i < length xs
    go [] i e' = let z : ◌≡◌ {A = ℕ} 0 1 = cc in absurd (omega arith)
    go (x ∷ xs) zero e' = omega arith
    go (x ∷ xs) (suc i) e' = let h : i < length xs = go xs i e' in omega arith
