-- In a file that is accepted every name leads to names of the table.
use Rattle.std.specs.Prelude.{ℕ, zero, suc, ◌+◌, ◌<◌, ◌≡◌, refl, Bool, true, false, List, [], ◌∷◌, length, eqb}
use Rattle.std.proofs.Common.{sym, ap, ◌∙◌, inl, inr, arith}
use Rattle.std.proofs.Math.Option.{Option, none, some}
use Rattle.net_file.specs.Lists.{concat_map}
use Rattle.net_file.specs.Values.{Name, FlatNode, FlatNet, File}
use Rattle.net_file.specs.Checks.{same_name, flat}
use Rattle.net_file_laws.specs.Exact.{Each, EachFrom}
use Rattle.net_file_laws.specs.Parts.{NameFits}
use Rattle.net_file_laws.specs.Flat.{NodeFits, FlatNetFits}
use Rattle.net_file_laws.specs.Body.{TablesFit}
use Rattle.conversions.specs.Prune.{number_of, children_of, from_node, from_nets, next}
use Rattle.prune_laws.specs.Members.{In, tested, false_true, in_cases, in_either, in_as}

each_in : (c : ℕ) (xs : List ℕ) (j : ℕ) → Each (λ i. i < c) xs → In j xs → j < c
each_in c [] j h k = false_true k
each_in c (x ∷ xs) j h k = elim (in_cases j x xs k) [ inl e ↦ let l = h.0 in omega arith | inr e ↦ each_in c xs j h.1 e ]

children_below : (paths : ℕ) (ms : List Name) (k i j : ℕ) → EachFrom (NameFits paths) k ms → In j (children_of ms i) → j < k + length ms
unfolding children_of
children_below paths [] k i j h e = false_true e
children_below paths (m ∷ ms) k zero j h e = let l = each_in k m.children j h.0.children e in omega arith
children_below paths (m ∷ ms) k (suc i) j h e = let l = children_below paths ms (suc k) i j h.1 e in omega arith

-- ---- the number of a name

pub number_here : (m n : Name) (ms : List Name) (k : ℕ) → same_name m n ≡ true → number_of (m ∷ ms) n k ≡ some k
unfolding number_of
number_here m n ms k h = ap (λ (t : Bool). elim t as (λ u. Option ℕ) [ true ↦ some k | false ↦ number_of ms n (suc k) ]) h

pub number_later : (m n : Name) (ms : List Name) (k : ℕ) → same_name m n ≡ false → number_of (m ∷ ms) n k ≡ number_of ms n (suc k)
unfolding number_of
number_later m n ms k h = ap (λ (t : Bool). elim t as (λ u. Option ℕ) [ true ↦ some k | false ↦ number_of ms n (suc k) ]) h

pub some_same : {a b : ℕ} → ◌≡◌ {A = Option ℕ} (some a) (some b) → a ≡ b
some_same {a} {b} e = cc

pub none_some : {a : ℕ} {X : Type 0} → ◌≡◌ {A = Option ℕ} none (some a) → X
none_some e = let z : ◌≡◌ {A = ℕ} 0 1 = cc in absurd (omega arith)

pub number_none : (n : Name) (k : ℕ) → number_of [] n k ≡ none
unfolding number_of
number_none n k = refl

pub number_below : (ms : List Name) (n : Name) (k i : ℕ) → number_of ms n k ≡ some i → i < k + length ms
number_below [] n k i e = none_some (sym (number_none n k) ∙ e)
number_below (m ∷ ms) n k i e = elim (tested (same_name m n)) [
  | inl t ↦ let d = some_same (sym (number_here m n ms k t) ∙ e) in omega arith
  | inr t ↦ let l = number_below ms n (suc k) i (sym (number_later m n ms k t) ∙ e) in omega arith
]

-- ---- what a node leads to

-- by what is found of its name
unfoldable pub node_by : FlatNode → Option ℕ → List ℕ
node_by n none = n.name.children
node_by n (some i) = i ∷ []

pub node_by_lem : (names : List Name) (n : FlatNode) (o : Option ℕ) → number_of names n.name 0 ≡ o → from_node names n ≡ node_by n o
unfolding from_node node_by
node_by_lem names n none e = ap (λ (u : Option ℕ). elim u as (λ v. List ℕ) [ none ↦ n.name.children | some i ↦ i ∷ [] ]) e
node_by_lem names n (some i) e = ap (λ (u : Option ℕ). elim u as (λ v. List ℕ) [ none ↦ n.name.children | some i ↦ i ∷ [] ]) e

node_below : (paths wires : ℕ) (names : List Name) (n : FlatNode) (j : ℕ) → NodeFits paths (length names) wires n → In j (from_node names n) → j < length names
unfolding node_by
node_below paths wires names n j h k = go (number_of names n.name 0) refl
  where
    go : (o : Option ℕ) → number_of names n.name 0 ≡ o → j < length names
    go none e = each_in (length names) n.name.children j h.name.children (in_as j _ _ (sym (node_by_lem names n none e)) k)
    go (some i) e =
        let l = number_below names n.name 0 i e in
        elim (in_cases j i [] (in_as j _ _ (sym (node_by_lem names n (some i) e)) k)) [ inl q ↦ omega arith | inr q ↦ false_true q ]

nodes_below : (paths wires : ℕ) (names : List Name) (ns : List FlatNode) (j : ℕ) → Each (NodeFits paths (length names) wires) ns → In j (concat_map (from_node names) ns) → j < length names
nodes_below paths wires names [] j h k = false_true k
nodes_below paths wires names (n ∷ ns) j h k = elim (in_either j (from_node names n) (concat_map (from_node names) ns) k) [
  | inl e ↦ node_below paths wires names n j h.0 e
  | inr e ↦ nodes_below paths wires names ns j h.1 e
]

-- ---- what a net leads to

pub net_here : (names : List Name) (n : FlatNet) (ns : List FlatNet) (i : ℕ) → eqb n.name i ≡ true → from_nets names (n ∷ ns) i ≡ concat_map (from_node names) n.nodes
unfolding from_nets
net_here names n ns i h = ap (λ (t : Bool). elim t as (λ u. List ℕ) [ true ↦ concat_map (from_node names) n.nodes | false ↦ from_nets names ns i ]) h

pub net_later : (names : List Name) (n : FlatNet) (ns : List FlatNet) (i : ℕ) → eqb n.name i ≡ false → from_nets names (n ∷ ns) i ≡ from_nets names ns i
unfolding from_nets
net_later names n ns i h = ap (λ (t : Bool). elim t as (λ u. List ℕ) [ true ↦ concat_map (from_node names) n.nodes | false ↦ from_nets names ns i ]) h

pub net_none : (names : List Name) (i : ℕ) → from_nets names [] i ≡ []
unfolding from_nets
net_none names i = refl

nets_below : (paths : ℕ) (names : List Name) (ns : List FlatNet) (i j : ℕ) → Each (FlatNetFits paths (length names)) ns → In j (from_nets names ns i) → j < length names
nets_below paths names [] i j h k = false_true (in_as j _ _ (sym (net_none names i)) k)
nets_below paths names (n ∷ ns) i j h k = elim (tested (eqb n.name i)) [
  | inl e ↦ nodes_below paths n.wires names n.nodes j h.0.nodes (in_as j _ _ (sym (net_here names n ns i e)) k)
  | inr e ↦ nets_below paths names ns i j h.1 (in_as j _ _ (sym (net_later names n ns i e)) k)
]

-- every step leads to a name of the table
pub next_below : (f : File FlatNet) → TablesFit flat FlatNetFits f → (i j : ℕ) → In j (next f i) → j < length f.names
unfolding next
next_below f t i j k = elim (in_either j (children_of f.names i) (from_nets f.names f.nets i) k) [
  | inl e ↦ let l = children_below (length f.paths) f.names 0 i j t.names e in omega arith
  | inr e ↦ nets_below (length f.paths) f.names f.nets i j t.nets e
]
