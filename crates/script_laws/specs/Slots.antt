-- A number is filled or vacated: no other node changes.
use Rattle.std.specs.Prelude.{◌≡◌, refl, ◌≢◌, ℕ, zero, suc, Bool, true, false, List, [], ◌∷◌, get_or, set}
use Rattle.std.proofs.Common.{sym, ap, ◌∙◌, subst, arith, true≢false, get_or-set_other}
use Rattle.std.proofs.Math.Decide.{ℕ_discrete}
use Rattle.std.proofs.Math.Option.{Option, none, some}
use Rattle.definitions.specs.Lists.{or_else, is_some}
use Rattle.definitions.specs.Nets.{Port, Node, Graph, port, nowhere, at, filled, across}
use Rattle.definitions.specs.Scripts.{fill, vacate}
use Rattle.join_laws.specs.Ports.{frame, frame_of}

-- all ports are holes
abbrev pub Holes : Node → Type 0
Holes x = (i : ℕ) → get_or x.ports i none ≡ none

pub fill_same : (g : Graph) (n : ℕ) (x : Node) → get_or (fill g n x) n none ≡ some x
unfolding fill
fill_same [] zero x = refl
fill_same [] (suc n) x = fill_same [] n x
fill_same (y ∷ g) zero x = refl
fill_same (y ∷ g) (suc n) x = fill_same g n x

pub fill_other : (g : Graph) (n m : ℕ) (x : Node) → m ≢ n → get_or (fill g n x) m none ≡ get_or g m none
unfolding fill
fill_other [] zero zero x h = absurd (h refl)
fill_other [] zero (suc m) x h = refl
fill_other [] (suc n) zero x h = refl
fill_other [] (suc n) (suc m) x h = fill_other [] n m x (λ e. h (ap suc e))
fill_other (y ∷ g) zero zero x h = absurd (h refl)
fill_other (y ∷ g) zero (suc m) x h = refl
fill_other (y ∷ g) (suc n) zero x h = refl
fill_other (y ∷ g) (suc n) (suc m) x h = fill_other g n m x (λ e. h (ap suc e))

pub frame_fill_same : (g : Graph) (n : ℕ) (x : Node) → frame (fill g n x) n ≡ frame_of (some x)
unfolding frame
frame_fill_same g n x = ap frame_of (fill_same g n x)

pub frame_fill_other : (g : Graph) (n m : ℕ) (x : Node) → m ≢ n → frame (fill g n x) m ≡ frame g m
unfolding frame
frame_fill_other g n m x h = ap frame_of (fill_other g n m x h)

-- ---- what stands at a number

pub across_slot : (g : Graph) (n i : ℕ) (x : Node) → get_or g n none ≡ some x → across g (port n i) ≡ get_or x.ports i none
unfolding across at
across_slot g n i x e = ap (λ (o : Option Node). get_or (or_else o nowhere).ports i none) e

pub frame_slot : (g : Graph) (n : ℕ) (x : Node) → get_or g n none ≡ some x → frame g n ≡ frame_of (some x)
unfolding frame
frame_slot g n x e = ap frame_of e

pub across_slots : (g h : Graph) (r : Port) → get_or h r.node none ≡ get_or g r.node none → across h r ≡ across g r
unfolding across at
across_slots g h r e = ap (λ (o : Option Node). get_or (or_else o nowhere).ports r.index none) e

pub frame_slots : (g h : Graph) (n : ℕ) → get_or h n none ≡ get_or g n none → frame h n ≡ frame g n
unfolding frame
frame_slots g h n e = ap frame_of e

-- ---- filled and vacant

-- a vacant number has no node
pub vacant : (g : Graph) (n : ℕ) → filled g n ≡ false → get_or g n none ≡ none
unfolding filled
vacant g n e = go (get_or g n none) e
  where
    go : (o : Option Node) → is_some o ≡ false → o ≡ none
    go none x = refl
    go (some y) x = absurd (true≢false x)

pub across_vacant : (g : Graph) (r : Port) → filled g r.node ≡ false → across g r ≡ none
unfolding across at
across_vacant g r v = ap (λ (o : Option Node). get_or (or_else o nowhere).ports r.index none) (vacant g r.node v)

pub across_fill_same : (g : Graph) (n : ℕ) (x : Node) (i : ℕ) → across (fill g n x) (port n i) ≡ get_or x.ports i none
unfolding across at
across_fill_same g n x i = ap (λ (o : Option Node). get_or (or_else o nowhere).ports i none) (fill_same g n x)

pub across_fill_other : (g : Graph) (n : ℕ) (x : Node) (r : Port) → r.node ≢ n → across (fill g n x) r ≡ across g r
unfolding across at
across_fill_other g n x r h = ap (λ (o : Option Node). get_or (or_else o nowhere).ports r.index none) (fill_other g n r.node x h)

-- a new node of holes: no port has another across from it
pub across_fill : (g : Graph) (n : ℕ) (x : Node) (r : Port) → filled g n ≡ false → Holes x → across (fill g n x) r ≡ across g r
across_fill g n x r v h = go (ℕ_discrete r.node n)
  where
    go : Dec (r.node ≡ n) → across (fill g n x) r ≡ across g r
    go (yes e) =
        subst (λ (m : ℕ). across (fill g m x) r ≡ across g r) e
        (across_fill_same g r.node x r.index ∙ h r.index ∙ sym (across_vacant g r (subst (λ (m : ℕ). filled g m ≡ false) (sym e) v)))
    go (no e) = across_fill_other g n x r e

gone : (g : Graph) (n : ℕ) → get_or (set g n none) n none ≡ none
gone [] n = refl
gone (y ∷ g) zero = refl
gone (y ∷ g) (suc n) = gone g n

pub frame_vacate_same : (g : Graph) (n : ℕ) → frame (vacate g n) n ≡ none
unfolding frame vacate
frame_vacate_same g n = ap frame_of (gone g n)

pub frame_vacate_other : (g : Graph) (n m : ℕ) → m ≢ n → frame (vacate g n) m ≡ frame g m
unfolding frame vacate
frame_vacate_other g n m h = ap frame_of (get_or-set_other g n m none none h)

-- a node of holes goes: no port has another across from it
pub across_vacate : (g : Graph) (n : ℕ) (r : Port) → ((i : ℕ) → across g (port n i) ≡ none) → across (vacate g n) r ≡ across g r
unfolding across at vacate
across_vacate g n r h = go (ℕ_discrete r.node n)
  where
    there : across (vacate g n) (port n r.index) ≡ none
    there = ap (λ (o : Option Node). get_or (or_else o nowhere).ports r.index none) (gone g n)

    away : r.node ≢ n → across (vacate g n) r ≡ across g r
    away e = ap (λ (o : Option Node). get_or (or_else o nowhere).ports r.index none) (get_or-set_other g n r.node none none e)

    go : Dec (r.node ≡ n) → across (vacate g n) r ≡ across g r
    go (yes e) =
        subst (λ (m : ℕ). across (vacate g n) (port m r.index) ≡ across g (port m r.index)) (sym e) (there ∙ sym (h r.index))
    go (no e) = away e
