-- What eta reads of the words: the first port that meets no principal port, and whether two rows of ports face each other or meet nils.
use Prim.Native.Nat.{ℕ, zero, suc, ◌+◌, ◌%◌, ◌<◌, ◌≤◌}
use Rattle.std.specs.Prelude.{◌≡◌, Bool, not, ◌&&◌, ◌||◌, List, [], ◌∷◌, map, eqb}
use Rattle.std.proofs.Math.Path.{refl}
use Rattle.std.proofs.Common.{sym, ap, ◌∙◌, eq-eqb, ne_eqb, arith}
use Rattle.std.proofs.Math.Bool.{true, false}
use Rattle.std.proofs.Math.Option.{Option, none, some}
use Rattle.std.proofs.Math.Decide.{ℕ_discrete}
use Rattle.words.specs.Choose.{pick, pick_and, if_eq}
use Rattle.layout.specs.Layout
use Rattle.layout.specs.Layout.{is_principal_words}
use Rattle.node_names.specs.Names.{same_name_words}
use Rattle.rule_sets.specs.Sets.{nil}
use Rattle.tried.specs.Tries as Word
use Rattle.eta_values.specs.Values.{is_value}
use Rattle.eta.specs.Eta as Words
use Rattle.net_file.specs.Lists.{all, eqs}
use Rattle.net_file.specs.Values.{Name}
use Rattle.net_file.specs.Checks.{same_name}
use Rattle.definitions.specs.Lists.{find, from, has}
use Rattle.definitions.specs.Nets.{Port, Graph, port, same_port, is_principal, filled, name_of, arity, follow}
use Rattle.definitions.specs.Rules.{straight, nil_pair}
use Rattle.definitions.specs.State.{Engine, graph_of}
use Rattle.join_laws.specs.Ports.{port_discrete, same_port_self, same_port_true, Real}
use Rattle.join_laws.specs.Link.{Wired}
use Rattle.rule_laws.specs.Eta.{faces}
use Rattle.graph_means.specs.Wires.{number_same, follow_real}
use Rattle.means.specs.Means.{number, Means}
use Rattle.means.specs.Frame.{real_inside}
use Rattle.script_means.specs.Stage.{number_aux}
use Rattle.script_means.specs.Tries.{arity_read}
use Rattle.eta_values_means.specs.Met.{SameOnes, OnesIn, meets_is, met_filled, is_value_is}

-- ---- tests

eqb_swap : (m n : ℕ) → eqb m n ≡ eqb n m
eqb_swap m n = go (ℕ_discrete m n)
  where
    go : Dec (m ≡ n) → eqb m n ≡ eqb n m
    go (yes h) = eq-eqb m n h ∙ sym (eq-eqb n m (sym h))
    go (no h) = ne_eqb m n h ∙ sym (ne_eqb n m (λ e. h (sym e)))

eqs_swap : (xs ys : List ℕ) → eqs xs ys ≡ eqs ys xs
eqs_swap [] [] = refl
eqs_swap [] (y ∷ ys) = refl
eqs_swap (x ∷ xs) [] = refl
eqs_swap (x ∷ xs) (y ∷ ys) = λ i. eqb_swap x y i && eqs_swap xs ys i

-- which name comes first does not matter
same_swap : (m n : Name) → same_name m n ≡ same_name n m
unfolding same_name
same_swap m n = λ i. eqb_swap m.path n.path i && eqb_swap m.payload n.payload i && eqs_swap m.children n.children i

-- a port's number says whether it is principal
principal_is : (p : Port) → p.index < 16 → is_principal_words (number p) ≡ is_principal p
unfolding is_principal_words is_principal
principal_is p h = go (ℕ_discrete p.index 0)
  where
    go : Dec (p.index ≡ 0) → eqb (number p % 32) 8 ≡ eqb p.index 0
    go (yes z) = eq-eqb (number p % 32) 8 (omega arith) ∙ sym (eq-eqb p.index 0 z)
    go (no z) = ne_eqb (number p % 32) 8 (omega arith) ∙ sym (ne_eqb p.index 0 z)

-- ports are the same if their numbers are
pub same_number : (p q : Port) → p.index < 16 → q.index < 16 → eqb (number p) (number q) ≡ same_port p q
same_number p q h k = go (port_discrete p q) (same_port p q) refl
  where
    go : Dec (p ≡ q) → (t : Bool) → same_port p q ≡ t → eqb (number p) (number q) ≡ same_port p q
    go (yes e) t s = eq-eqb (number p) (number q) (ap number e) ∙ sym (ap (λ (r : Port). same_port p r) (sym e) ∙ same_port_self p)
    go (no e) true s = absurd (e (same_port_true p q s))
    go (no e) false s = ne_eqb (number p) (number q) (λ z. e (number_same p q h k z)) ∙ sym s

module _ (Named : ℕ → Name → Type 0) (ws : List ℕ) (e : Engine) (m : Means Named ws e) (w : Wired (graph_of e)) where
  abbrev g : Graph
  g = graph_of e

  -- the port that a port meets has a place among sixteen
  met_low : (p : Port) → Real g p → (follow g p).index < 16
  met_low p r = (real_inside m.nodes (follow g p) (follow_real g w p r)).1

  -- ---- the first port that meets no principal port

  -- of n aux ports of a from the i-th on: none, or it is the j-th
  abbrev pub Odd : ℕ → ℕ → ℕ → ℕ → Option Port → Type 0
  Odd a n i q none = q ≡ 0
  Odd a n i q (some p) = (j : ℕ) × (i ≤ j) × (j < i + n) × (q ≡ number (port a (1 + j))) × (p ≡ follow g (port a (1 + j)))

  pub odd_port_is : (a : ℕ) → a < 4096 → (n i : ℕ) → 1 + i + n ≤ arity g a
      → Odd a n i (Words.odd_port ws (number (port a (1 + i))) n) (find (λ q. not (is_principal q)) (map (λ i. follow g (port a (1 + i))) (from i n)))
  unfolding Words.odd_port pick
  odd_port_is a low zero i h = refl
  odd_port_is a low (suc n) i h =
      let few = m.nodes.few a in
      let p = port a (1 + i) in
      let here : Layout.across ws (number p) ≡ number (follow g p) = m.nodes.port p (omega arith) in
      rw (here, principal_is (follow g p) (met_low p (omega arith)), number_aux a i low (omega arith)) (go (is_principal (follow g p)) (odd_port_is a low n (suc i) (omega arith)))
    where
      later : (q : ℕ) (o : Option Port) → Odd a n (suc i) q o → Odd a (suc n) i q o
      later q none d = d
      later q (some p) d = (d.0, (let l = d.1 in omega arith), (let l = d.2 in omega arith), d.3, d.4)

      go : (t : Bool) → Odd a n (suc i) (Words.odd_port ws (number (port a (1 + suc i))) n) (find (λ q. not (is_principal q)) (map (λ i. follow g (port a (1 + i))) (from (suc i) n)))
          → Odd a (suc n) i (pick t (Words.odd_port ws (number (port a (1 + suc i))) n) (number (port a (1 + i))))
          (elim (not t) as (λ _. Option Port) [ true ↦ some (follow g (port a (1 + i))) | false ↦ find (λ q. not (is_principal q)) (map (λ i. follow g (port a (1 + i))) (from (suc i) n)) ])
      go true d = later (Words.odd_port ws (number (port a (1 + suc i))) n) (find (λ q. not (is_principal q)) (map (λ i. follow g (port a (1 + i))) (from (suc i) n))) d
      go false d = (i, omega arith, omega arith, refl, refl)

  -- ---- two rows of ports

  module _ (file sets : List ℕ) (r : ℕ) (same : SameOnes file ws e) (nils : List ℕ) (nil_is : OnesIn (nil file sets r) nils ws e) (fresh : ℕ → ℕ) where
    -- nodes of as many ports and of one name
    pub alike_is : (a b : ℕ) → filled g a ≡ true → filled g b ≡ true → same_name_words file (Word.name ws a) (Word.name ws b) ≡ same_name (name_of g a) (name_of g b)
        → Words.alike ws file a b ≡ (eqb (arity g a) (arity g b) && same_name (name_of g a) (name_of g b))
    unfolding Words.alike if_eq
    alike_is a b fa fb own =
        rw (own, arity_read Named ws e m a fa, arity_read Named ws e m b fb)
        (pick_and (eqb (arity g a) (arity g b)) (same_name (name_of g a) (name_of g b)))

    -- two ports face each other, or meet nils of one name
    straight_is : (p q : Port) → Real g p → Real g q → Words.straight ws file sets r (number p) (number q) ≡ (straight fresh g p q || nil_pair fresh g nils p q)
    unfolding Words.straight Words.nils straight nil_pair if_eq pick
    straight_is p q rp rq =
        let j = (follow g p).node in
        let k = (follow g q).node in
        let fj = met_filled Named ws e m w p rp in
        let fk = met_filled Named ws e m w q rq in
        rw (
          m.nodes.port p rp,
          same_number (follow g p) q (met_low p rp) (real_inside m.nodes q rq).1,
          meets_is Named ws e m w p rp,
          meets_is Named ws e m w q rq,
          arity_read Named ws e m j fj,
        ) (by_one j k fk (same_port (follow g p) q) (ℕ_discrete (arity g j) 1))
      where
        go : (s t u v n : Bool) → pick s true (pick t (pick (u && v) n false) false) ≡ (s || (t && u && v && n))
        go true t u v n = refl
        go false false u v n = refl
        go false true false v n = refl
        go false true true false n = refl
        go false true true true n = refl

        odd : (s v : Bool) → pick s true (pick false v false) ≡ (s || false)
        odd true v = refl
        odd false v = refl

        -- by whether the node at p has one port
        by_one : (j k : ℕ) → filled g k ≡ true → (s : Bool) → Dec (arity g j ≡ 1)
            → pick s true (pick (eqb (arity g j) 1) (pick (is_value ws file k (Word.name ws j)) (nil file sets r (Word.name ws j)) false) false)
            ≡ (s || (eqb (arity g j) 1 && eqb (arity g k) 1 && same_name (name_of g j) (name_of g k) && has nils (name_of g j).path))
        by_one j k fk s (yes i) =
            rw (is_value_is Named ws e m w file same j i k fk, nil_is j i, same_swap (name_of g k) (name_of g j))
            (go s (eqb (arity g j) 1) (eqb (arity g k) 1) (same_name (name_of g j) (name_of g k)) (has nils (name_of g j).path))
        by_one j k fk s (no i) = rw (ne_eqb (arity g j) 1 i) (odd s (pick (is_value ws file k (Word.name ws j)) (nil file sets r (Word.name ws j)) false))

    -- n aux ports of a from the i-th on, with those of b
    pub all_straight_is : (a b : ℕ) → a < 4096 → b < 4096 → (n i : ℕ) → 1 + i + n ≤ arity g a → 1 + i + n ≤ arity g b
        → Words.all_straight ws file sets r (number (port a (1 + i))) (number (port b (1 + i))) n ≡ all (λ t. t) (map (faces fresh g nils a b) (from i n))
    unfolding Words.all_straight
    all_straight_is a b la lb zero i h k = refl
    all_straight_is a b la lb (suc n) i h k =
        let few_a = m.nodes.few a in
        let few_b = m.nodes.few b in
        rw (
          straight_is (port a (1 + i)) (port b (1 + i)) (omega arith) (omega arith),
          number_aux a i la (omega arith),
          number_aux b i lb (omega arith),
          all_straight_is a b la lb n (suc i) (omega arith) (omega arith),
        ) (pick_and (faces fresh g nils a b i) (all (λ t. t) (map (faces fresh g nils a b) (from (suc i) n))))
