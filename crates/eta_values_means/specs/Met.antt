-- What eta reads of the words: the node that a port meets, and whether all of a row of ports meet values of one name.
use Prim.Native.Nat.{ℕ, zero, suc, ◌+◌, ◌<◌, ◌≤◌}
use Rattle.std.specs.Prelude.{◌≡◌, Bool, ◌&&◌, List, map, eqb}
use Rattle.std.proofs.Math.Path.{refl, sym, ap}
use Rattle.std.proofs.Common.{◌∙◌, eq-eqb, ne_eqb, arith}
use Rattle.std.proofs.Math.Bool.{true, false}
use Rattle.std.proofs.Math.Decide.{ℕ_discrete}
use Rattle.words.specs.Choose.{pick, if_eq, eq_yes, eq_no}
use Rattle.node_names.specs.Names.{same_name_words}
use Rattle.tried.specs.Tries as Word
use Rattle.eta_values.specs.Values.{aux, meets, is_value, all_values}
use Rattle.net_file.specs.Lists.{all}
use Rattle.net_file.specs.Values.{Name}
use Rattle.net_file.specs.Checks.{same_name}
use Rattle.definitions.specs.Lists.{from, up_to, has}
use Rattle.definitions.specs.Nets.{Port, port, filled, name_of, arity, follow}
use Rattle.definitions.specs.State.{Engine, graph_of}
use Rattle.join_laws.specs.Ports.{Real}
use Rattle.join_laws.specs.Link.{Wired}
use Rattle.script_laws.specs.Tidy.{real_filled}
use Rattle.graph_means.specs.Wires.{number_node, follow_real}
use Rattle.means.specs.Means.{number, Means}
use Rattle.means.specs.Frame.{real_inside}
use Rattle.script_means.specs.Stage.{number_aux, number_first}
use Rattle.script_means.specs.Tries.{arity_read}

-- what the held file decides of nodes of one port: whether two have the same name
abbrev pub SameOnes : List ℕ → List ℕ → Engine → Type 0
SameOnes file ws e = (a b : ℕ) → arity (graph_of e) a ≡ 1 → arity (graph_of e) b ≡ 1
    → same_name_words file (Word.name ws a) (Word.name ws b) ≡ same_name (name_of (graph_of e) a) (name_of (graph_of e) b)

-- and whether the path of one is among these
abbrev pub OnesIn : (ℕ → Bool) → List ℕ → List ℕ → Engine → Type 0
OnesIn test paths ws e = (a : ℕ) → arity (graph_of e) a ≡ 1 → test (Word.name ws a) ≡ has paths (name_of (graph_of e) a).path

-- a row whose first fails
pub row_fails : (f : ℕ → Bool) (h : ℕ → ℕ) (c : ℕ) → 0 < c → f (h 0) ≡ false → all f (map h (up_to c)) ≡ false
row_fails f h zero l q = absurd (omega arith)
row_fails f h (suc c) l q = rw q

pub aux_is : (n : ℕ) → n < 4096 → aux n ≡ number (port n (1 + 0))
unfolding aux
aux_is n h = number_first n h

module _ (Named : ℕ → Name → Type 0) (ws : List ℕ) (e : Engine) (m : Means Named ws e) (w : Wired (graph_of e)) where
  -- the node that a port meets
  pub meets_is : (p : Port) → Real (graph_of e) p → meets ws (number p) ≡ (follow (graph_of e) p).node
  unfolding meets
  meets_is p r = rw (m.nodes.port p r) (number_node (follow (graph_of e) p) (real_inside m.nodes (follow (graph_of e) p) (follow_real (graph_of e) w p r)).1)

  -- there is one
  pub met_filled : (p : Port) → Real (graph_of e) p → filled (graph_of e) (follow (graph_of e) p).node ≡ true
  met_filled p r = real_filled (graph_of e) (follow (graph_of e) p) (follow_real (graph_of e) w p r)

  -- where the first port meets a node of more ports
  pub no_values : (file : List ℕ) (p : Port) → Real (graph_of e) p → (arity (graph_of e) (follow (graph_of e) p).node ≡ 1 → ⊥) → (n place : ℕ) → 0 < n
      → all_values ws file (number p) n place ≡ false
  unfolding all_values is_value pick
  no_values file p r odd zero place h = absurd (omega arith)
  no_values file p r odd (suc n) place h =
      let q = (follow (graph_of e) p).node in
      let size : Word.arity ws q ≡ arity (graph_of e) q = arity_read Named ws e m q (met_filled p r) in
      let fails : if_eq (Word.arity ws q) 1 (same_name_words file (Word.name ws q) place) false ≡ false = sym (eq_no (Word.arity ws q) 1 _ false (λ i. odd (sym size ∙ i)) refl) in
      rw (meets_is p r, fails)

  module _ (file : List ℕ) (same : SameOnes file ws e) (k : ℕ) (one : arity (graph_of e) k ≡ 1) where
    -- a node of one port and of the name of k
    pub is_value_is : (n : ℕ) → filled (graph_of e) n ≡ true
        → is_value ws file n (Word.name ws k) ≡ (eqb (arity (graph_of e) n) 1 && same_name (name_of (graph_of e) n) (name_of (graph_of e) k))
    unfolding is_value
    is_value_is n h = ap (λ (j : ℕ). if_eq j 1 (same_name_words file (Word.name ws n) (Word.name ws k)) false) (arity_read Named ws e m n h) ∙ go (ℕ_discrete (arity (graph_of e) n) 1)
      where
        go : Dec (arity (graph_of e) n ≡ 1) → if_eq (arity (graph_of e) n) 1 (same_name_words file (Word.name ws n) (Word.name ws k)) false
            ≡ (eqb (arity (graph_of e) n) 1 && same_name (name_of (graph_of e) n) (name_of (graph_of e) k))
        go (yes i) = sym (eq_yes (arity (graph_of e) n) 1 _ false i refl) ∙ same n k i one ∙ sym (ap (λ (b : Bool). b && same_name (name_of (graph_of e) n) (name_of (graph_of e) k)) (eq-eqb (arity (graph_of e) n) 1 i))
        go (no i) = sym (eq_no (arity (graph_of e) n) 1 _ false i refl) ∙ sym (ap (λ (b : Bool). b && same_name (name_of (graph_of e) n) (name_of (graph_of e) k)) (ne_eqb (arity (graph_of e) n) 1 i))

    -- n aux ports of a from the i-th on all meet such a node
    pub all_values_is : (a : ℕ) → a < 4096 → (n i : ℕ) → 1 + i + n ≤ arity (graph_of e) a
        → all_values ws file (number (port a (1 + i))) n (Word.name ws k)
        ≡ (all (λ k. eqb (arity (graph_of e) k) 1) (map (λ i. (follow (graph_of e) (port a (1 + i))).node) (from i n))
        && all (λ j. same_name (name_of (graph_of e) j) (name_of (graph_of e) k)) (map (λ i. (follow (graph_of e) (port a (1 + i))).node) (from i n)))
    unfolding all_values pick
    all_values_is a low zero i h = refl
    all_values_is a low (suc n) i h =
        let few = m.nodes.few a in
        let q = (follow (graph_of e) (port a (1 + i))).node in
        rw (meets_is (port a (1 + i)) (omega arith), is_value_is q (met_filled (port a (1 + i)) (omega arith)), number_aux a i low (omega arith), all_values_is a low n (suc i) (omega arith))
        (go (eqb (arity (graph_of e) q) 1) (same_name (name_of (graph_of e) q) (name_of (graph_of e) k)) _ _)
      where
        go : (t u v w : Bool) → pick (t && u) (v && w) false ≡ ((t && v) && (u && w))
        go true true v w = refl
        go true false true w = refl
        go true false false w = refl
        go false u v w = refl
