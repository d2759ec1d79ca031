-- Which net's node each slot holds. Rewiring leaves it alone: of a graph the books see nothing else.
use Rattle.std.specs.Prelude.{ℕ, zero, suc, ◌+◌, ◌<◌, ◌≡◌, refl, Bool, false, List, [], ◌∷◌, map, length, get_or, set, eqb}
use Rattle.std.proofs.Common.{sym, ap, ◌∙◌, not-suc-le-zero, arith}
use Rattle.std.proofs.Math.Option.{Option, none, some}
use Rattle.std.proofs.Math.ListN.{get_or-map}
use Rattle.std.proofs.Math.Seq.{map-set_same}
use Rattle.net_file.specs.Lists.{bit, count}
use Rattle.definitions.specs.Lists.{is_some, or_else}
use Rattle.definitions.specs.Nets.{Port, Node, Graph, nowhere, at, holds}
use Rattle.definitions.specs.Scripts.{wire, cut, ends, join, fill, vacate}

abbrev pub owner : Option Node → Option ℕ
owner none = none
owner (some x) = some x.net

-- the owners of all slots; none where a slot is vacant
abbrev pub owners : Graph → List (Option ℕ)
owners g = map owner g

-- the slot is net k's
abbrev pub is_of : ℕ → Option ℕ → Bool
is_of k none = false
is_of k (some j) = eqb j k

pub owner_at : (g : Graph) (n : ℕ) → get_or (owners g) n none ≡ owner (get_or g n none)
owner_at g n = get_or-map owner g n none

pub holds_owner : (g : Graph) (k n : ℕ) → holds g k n ≡ is_of k (get_or (owners g) n none)
unfolding holds
holds_owner g k n = go (get_or g n none) ∙ sym (ap (is_of k) (owner_at g n))
  where
    go : (o : Option Node) → elim o as (λ _. Bool) [ none ↦ false | some x ↦ eqb x.net k ] ≡ is_of k (owner o)
    go none = refl
    go (some x) = refl

-- a node's net
pub net_of : (g : Graph) (n k : ℕ) → get_or (owners g) n none ≡ some k → (at g n).net ≡ k
unfolding at
net_of g n k h = go (get_or g n none) (sym (owner_at g n) ∙ h)
  where
    go : (o : Option Node) → owner o ≡ some k → (or_else o nowhere).net ≡ k
    go none e = absurd (let z : ◌≡◌ {A = ℕ} 0 1 = cc in omega arith)
    go (some x) e = cc

-- ---- rewiring

pub wire_owners : (g : Graph) (p : Port) (q : Option Port) → owners (wire g p q) ≡ owners g
unfolding wire
wire_owners g p q = go (get_or g p.node none) refl
  where
    go : (o : Option Node) → get_or g p.node none ≡ o → owners (elim o as (λ _. Graph) [
      | none ↦ g
      | some n ↦ set g p.node (some (record { net = n.net; name = n.name; ports = set n.ports p.index q }))
    ]) ≡ owners g
    go none e = refl
    go (some n) e =
        map-set_same owner g p.node (some (record { net = n.net; name = n.name; ports = set n.ports p.index q })) none (sym (ap owner e))

pub cut_owners : (g : Graph) (a b : Port) → owners (cut g a b) ≡ owners g
unfolding cut
cut_owners g a b = wire_owners (wire g a none) b none ∙ wire_owners g a none

pub join_owners : (g : Graph) (a b : Port) → owners (join g a b) ≡ owners g
unfolding join
join_owners g a b = go (ends g a b)
  where
    go : (o : Option (Port × Port)) → owners (elim o as (λ _. Graph) [
      | none ↦ cut g a b
      | some p ↦ wire (wire (cut g a b) p.0 (some p.1)) p.1 (some p.0)
    ]) ≡ owners g
    go none = cut_owners g a b
    go (some p) =
        wire_owners (wire (cut g a b) p.0 (some p.1)) p.1 (some p.0) ∙ wire_owners (cut g a b) p.0 (some p.1) ∙ cut_owners g a b

-- ---- slots filled and vacated

pub fill_owners : (g : Graph) (n : ℕ) (x : Node) → n < length g → owners (fill g n x) ≡ set (owners g) n (some x.net)
unfolding fill
fill_owners [] n x l = absurd (not-suc-le-zero l)
fill_owners (y ∷ g) zero x l = refl
fill_owners (y ∷ g) (suc n) x l = ap (λ (o : List (Option ℕ)). owner y ∷ o) (fill_owners g n x (omega arith))

pub vacate_owners : (g : Graph) (n : ℕ) → owners (vacate g n) ≡ set (owners g) n none
unfolding vacate
vacate_owners [] n = refl
vacate_owners (y ∷ g) zero = refl
vacate_owners (y ∷ g) (suc n) = ap (λ (o : List (Option ℕ)). owner y ∷ o) (vacate_owners g n)

-- ---- counting filled slots

pub count_owners : (g : Graph) → count is_some g ≡ count is_some (owners g)
count_owners [] = refl
count_owners (none ∷ g) = ap (λ (k : ℕ). 0 + k) (count_owners g)
count_owners (some x ∷ g) = ap (λ (k : ℕ). 1 + k) (count_owners g)

pub count_set : {A : Type 0} (f : A → Bool) (l : List A) (n : ℕ) (a d : A) → n < length l
    → count f (set l n a) + bit (f (get_or l n d)) ≡ count f l + bit (f a)
count_set f [] n a d h = absurd (not-suc-le-zero h)
count_set f (x ∷ l) zero a d h = omega arith
count_set f (x ∷ l) (suc n) a d h = let e = count_set f l n a d (omega arith) in omega arith

-- a slot that holds a node is one of the slots
pub some_below : {A : Type 0} (l : List (Option A)) (n : ℕ) (a : A) → get_or l n none ≡ some a → n < length l
some_below [] n a h = absurd (let z : ◌≡◌ {A = ℕ} 0 1 = cc in omega arith)
some_below (x ∷ l) zero a h = omega arith
some_below (x ∷ l) (suc n) a h = let e = some_below l n a h in omega arith
