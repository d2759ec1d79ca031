-- A graph in which the nodes of certain numbers have another name. Nets, ports and wires are as they were.
use Prim.Native.Nat.{ℕ, zero, suc, ◌+◌, ◌<◌}
use Rattle.std.proofs.Math.Path.{◌≡◌, refl, ap}
use Rattle.std.proofs.Common.{sym, ◌∙◌, subst}
use Rattle.std.specs.Prelude.{Bool, false}
use Rattle.std.proofs.Math.Bool.{true}
use Rattle.std.proofs.Math.Option.{Option, none, some}
use mathlib.Core.List.{List, [], ◌∷◌}
use Rattle.std.proofs.Math.ListN.{length, get_or}
use native.Mathlib.Omega.{arith}
use Rattle.net_file.specs.Values.{Name}
use Rattle.definitions.specs.Lists.{or_else, is_some}
use Rattle.definitions.specs.Nets.{Port, Node, Graph, nowhere, at, filled, name_of, arity, across, follow}
use Rattle.good_laws.specs.Owners.{owner, owners}
use Rattle.join_laws.specs.Link.{Wired}
use Rattle.script_laws.specs.Tidy.{WellWired}

module _ (K : ℕ → Bool) (other : Name) where
  -- one of two names
  abbrev pub name_by : Bool → Name → Name
  name_by true m = other
  name_by false m = m

  -- a node with the other name, if so
  abbrev pub rename_if : Bool → Option Node → Option Node
  rename_if t none = none
  rename_if t (some x) = some (record { net = x.net; name = name_by t x.name; ports = x.ports })

  -- nodes from number i on
  unfoldable pub renamed_from : ℕ → Graph → Graph
  renamed_from i [] = []
  renamed_from i (o ∷ g) = rename_if (K i) o ∷ renamed_from (suc i) g

  abbrev pub renamed : Graph → Graph
  renamed g = renamed_from 0 g

  renamed_from_lem : (g : Graph) (i n : ℕ) → get_or (renamed_from i g) n none ≡ rename_if (K (i + n)) (get_or g n none)
  unfolding renamed_from
  renamed_from_lem [] i n = refl
  renamed_from_lem (o ∷ g) i zero = ap (λ (j : ℕ). rename_if (K j) o) (let z : i ≡ i + 0 = omega arith in z)
  renamed_from_lem (o ∷ g) i (suc n) = renamed_from_lem g (suc i) n ∙ ap (λ (j : ℕ). rename_if (K j) (get_or g n none)) (let z : suc i + n ≡ i + suc n = omega arith in z)

  pub renamed_at : (g : Graph) (n : ℕ) → get_or (renamed g) n none ≡ rename_if (K n) (get_or g n none)
  renamed_at g n = renamed_from_lem g 0 n ∙ ap (λ (j : ℕ). rename_if (K j) (get_or g n none)) (let z : 0 + n ≡ n = omega arith in z)

  owner_same : (t : Bool) (o : Option Node) → owner (rename_if t o) ≡ owner o
  owner_same t none = refl
  owner_same t (some x) = refl

  pub renamed_owners : (g : Graph) (i : ℕ) → owners (renamed_from i g) ≡ owners g
  unfolding renamed_from
  renamed_owners [] i = refl
  renamed_owners (o ∷ g) i = λ j. owner_same (K i) o j ∷ renamed_owners g (suc i) j

  module _ (g : Graph) where
    pub renamed_net : (n : ℕ) → (at (renamed g) n).net ≡ (at g n).net
    unfolding at
    renamed_net n = ap (λ (o : Option Node). (or_else o nowhere).net) (renamed_at g n) ∙ go (get_or g n none)
      where
        go : (o : Option Node) → (or_else (rename_if (K n) o) nowhere).net ≡ (or_else o nowhere).net
        go none = refl
        go (some x) = refl

    ports_same : (n : ℕ) → (at (renamed g) n).ports ≡ (at g n).ports
    unfolding at
    ports_same n = ap (λ (o : Option Node). (or_else o nowhere).ports) (renamed_at g n) ∙ go (get_or g n none)
      where
        go : (o : Option Node) → (or_else (rename_if (K n) o) nowhere).ports ≡ (or_else o nowhere).ports
        go none = refl
        go (some x) = refl

    pub renamed_filled : (n : ℕ) → filled (renamed g) n ≡ filled g n
    unfolding filled
    renamed_filled n = ap (λ (o : Option Node). is_some o) (renamed_at g n) ∙ go (get_or g n none)
      where
        go : (o : Option Node) → is_some (rename_if (K n) o) ≡ is_some o
        go none = refl
        go (some x) = refl

    pub renamed_arity : (n : ℕ) → arity (renamed g) n ≡ arity g n
    unfolding arity
    renamed_arity n = ap (λ (l : List (Option Port)). length l) (ports_same n)

    pub renamed_across : (p : Port) → across (renamed g) p ≡ across g p
    unfolding across
    renamed_across p = ap (λ (l : List (Option Port)). get_or l p.index none) (ports_same p.node)

    pub renamed_follow : (p : Port) → follow (renamed g) p ≡ follow g p
    unfolding follow
    renamed_follow p = ap (λ (o : Option Port). or_else o p) (renamed_across p)

    pub renamed_name : (n : ℕ) → filled g n ≡ true → name_of (renamed g) n ≡ name_by (K n) (name_of g n)
    unfolding filled name_of at
    renamed_name n h = ap (λ (o : Option Node). (or_else o nowhere).name) (renamed_at g n) ∙ go (get_or g n none) h
      where
        go : (o : Option Node) → is_some o ≡ true → (or_else (rename_if (K n) o) nowhere).name ≡ name_by (K n) (or_else o nowhere).name
        go none q = let z : ◌≡◌ {A = ℕ} 0 1 = cc in absurd (omega arith)
        go (some x) q = refl

    renamed_wired : Wired g → Wired (renamed g)
    renamed_wired w = record {
      back = λ p q h. renamed_across q ∙ w.back p q (sym (renamed_across p) ∙ h);
      apart = λ p h. w.apart p (sym (renamed_across p) ∙ h);
      within = λ p q h. renamed_net p.node ∙ w.within p q (sym (renamed_across p) ∙ h) ∙ sym (renamed_net q.node);
    }

    pub renamed_well : WellWired g → WellWired (renamed g)
    renamed_well w = record {
      wired = renamed_wired w.wired;
      full = λ r h. ap (λ (o : Option Port). is_some o) (renamed_across r) ∙ w.full r (subst (λ (a : ℕ). r.index < a) (renamed_arity r.node) h);
    }
