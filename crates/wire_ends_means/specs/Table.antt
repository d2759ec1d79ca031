-- The table by wire means the ends met so far: a wire that was met once has its port's number, a pair's larger wire says the smaller.
use Rattle.std.specs.Prelude.{ℕ, ◌+◌, ◌-◌, ◌<◌, ◌≤◌, ◌≡◌, ◌≢◌, ◌⊎◌, true, false, length, set}
use Rattle.std.proofs.Math.Path.{refl, ap}
use Rattle.std.proofs.Common.{sym, ◌∙◌, subst, inl, inr}
use Rattle.std.proofs.Math.Bool.{true≢false}
use Rattle.std.proofs.Math.Option.{Option, none, some}
use mathlib.Core.List.Memᴰ
use mathlib.Core.List.{List, [], ◌∷◌, Memᴰ}
use Rattle.std.proofs.Math.ListN.{get_or, length-set}
use Rattle.std.proofs.Math.Seq.{get_or-set_same, get_or-set_other}
use Rattle.std.proofs.Math.Dec.{eqb}
use borrow.Author.Tests.{eqb-true, eq-eqb}
use native.Mathlib.Omega.{arith}
use Rattle.std.proofs.Math.Decide.{ℕ_discrete}
use Rattle.graph.specs.Graph.{link}
use Rattle.wire_ends.specs.WireEnds as Words
use Rattle.wire_ends.specs.WireEnds.{Joined, join_wire}
use Rattle.wire_ends.specs.Ways.{own_wire, smaller_wire, wire_opens, wire_joins}
use Rattle.definitions.specs.Lists.{find}
use Rattle.definitions.specs.Nets.{Port}
use Rattle.definitions.specs.Scripts.{Edit, Insert, Copy, Join, Cut}
use Rattle.definitions.specs.Load.{End, canonical, join_met}
use Rattle.load_laws.specs.Finds.{eqb_no, find_mem, find_none, count_none}
use Rattle.load_laws.specs.Twice.{PairsApart}
use Rattle.load_laws.specs.Meets.{of_wire, of_wire_mem}
use Rattle.means.specs.Means.{number}

-- no pair's larger wire
abbrev pub Own : List (ℕ × ℕ) → ℕ → Type 0
Own ps w = (p : ℕ × ℕ) → Memᴰ p ps → w ≢ p.1

-- a table of m words, for the pairs ps and the ends met
pub record Table (ps : List (ℕ × ℕ)) (m : ℕ) (wires : List ℕ) (met : List End) : Type 0 where
  pub sized : length wires ≡ m
  pub larger : (p : ℕ × ℕ) → Memᴰ p ps → get_or wires p.1 0 ≡ 2147483648 + p.0
  pub small : (w : ℕ) → Own ps w → get_or wires w 0 < 2147483648
  pub none : (w : ℕ) → Own ps w → of_wire w met ≡ 0 → get_or wires w 0 ≡ 0
  pub one : (w : ℕ) → Own ps w → (y : End) → Memᴰ y met → w ≡ y.0 → of_wire w met ≡ 1 → get_or wires w 0 ≡ number y.1

-- the joins of a script on the words
unfoldable pub links : List ℕ → List Edit → List ℕ
links ws [] = ws
links ws (Insert n x ∷ ds) = links ws ds
links ws (Copy n x ∷ ds) = links ws ds
links ws (Join a b ∷ ds) = links (link ws (number a) (number b)) ds
links ws (Cut a b ∷ ds) = links ws ds

module _ (ps : List (ℕ × ℕ)) (apart : PairsApart ps) where
  -- what a wire stands for is no larger wire of a pair
  pub canonical_own : (w : ℕ) → Own ps (canonical ps w)
  unfolding canonical
  canonical_own w = go (find (λ p. eqb w p.1) ps) refl
    where
      go : (o : Option (ℕ × ℕ)) → find (λ p. eqb w p.1) ps ≡ o → Own ps (elim o as (λ _. ℕ) [ none ↦ w | some p ↦ p.0 ])
      go none e q m d = true≢false (sym (eq-eqb w q.1 d) ∙ find_none (λ p. eqb w p.1) ps e q m)
      go (some p) e q m d = apart.crossed p q (find_mem (λ p. eqb w p.1) ps p e).0 m d

  -- the words and level Engine agree which wire stands for a wire
  pub canonical_is : (m : ℕ) (wires : List ℕ) (met : List End) → Table ps m wires met → (w : ℕ) → canonical ps w ≡ Words.canonical wires w
  unfolding canonical
  canonical_is m wires met t w = go (find (λ p. eqb w p.1) ps) refl
    where
      go : (o : Option (ℕ × ℕ)) → find (λ p. eqb w p.1) ps ≡ o → elim o as (λ _. ℕ) [ none ↦ w | some p ↦ p.0 ] ≡ Words.canonical wires w
      go none e = own_wire wires w (get_or wires w 0) refl
          (t.small w (λ q m d. true≢false (sym (eq-eqb w q.1 d) ∙ find_none (λ p. eqb w p.1) ps e q m)))
      go (some p) e =
          let f = find_mem (λ p. eqb w p.1) ps p e in
          let d : w ≡ p.1 = eqb-true w p.1 f.1 in
          let v : get_or wires w 0 ≡ 2147483648 + p.0 = rw d (t.larger p f.0) in
          let s : p.0 ≡ get_or wires w 0 - 2147483648 = omega arith in
          s ∙ smaller_wire wires w (get_or wires w 0) refl (omega arith)

module _ (ps : List (ℕ × ℕ)) (apart : PairsApart ps) (m : ℕ) (wires : List ℕ) (met : List End) (t : Table ps m wires met) (w : ℕ) (p : Port)
    (inside : canonical ps w < m) (low : number p < 2147483648) (few : of_wire (canonical ps w) met ≤ 1) where
  c : ℕ
  c = canonical ps w

  own : Own ps c
  unfolding c
  own = canonical_own ps apart w

  x : End
  x = (c, p)

  -- the new end is one more of its wire
  more : of_wire c (x ∷ met) ≡ 1 + of_wire c met
  unfolding x
  more = rw (eq-eqb c c refl) refl

  -- and none of another
  same : (v : ℕ) → v ≢ c → of_wire v (x ∷ met) ≡ of_wire v met
  unfolding x
  same v d = rw (eqb_no v c d) (omega arith)

  -- the wire's word is written
  table_set : (v : ℕ) → v < 2147483648 → ((y : End) → Memᴰ y (x ∷ met) → c ≡ y.0 → of_wire c (x ∷ met) ≡ 1 → v ≡ number y.1)
      → Table ps m (set wires c v) (x ∷ met)
  unfolding c x
  table_set v l one = record {
    sized = length-set wires c v ∙ t.sized;
    larger = λ q i. get_or-set_other wires c q.1 v 0 (λ d. own q i (sym d)) ∙ t.larger q i;
    small = λ u o. small u o (ℕ_discrete u c);
    none = λ u o z. none_at u o z (ℕ_discrete u c);
    one = λ u o y i d z. one_at u o y i d z (ℕ_discrete u c);
  }
    where
      there : get_or (set wires c v) c 0 ≡ v
      there = let s = t.sized in get_or-set_same wires c v 0 (omega arith)

      small : (u : ℕ) → Own ps u → Dec (u ≡ c) → get_or (set wires c v) u 0 < 2147483648
      small u o (yes d) = rw (d, there) l
      small u o (no d) = rw (get_or-set_other wires c u v 0 d) (t.small u o)

      none_at : (u : ℕ) → Own ps u → of_wire u (x ∷ met) ≡ 0 → Dec (u ≡ c) → get_or (set wires c v) u 0 ≡ 0
      none_at u o z (yes d) = let k : of_wire c (x ∷ met) ≡ 0 = subst (λ (i : ℕ). of_wire i (x ∷ met) ≡ 0) d z in let n = more in absurd (omega arith)
      none_at u o z (no d) = get_or-set_other wires c u v 0 d ∙ t.none u o (sym (same u d) ∙ z)

      one_at : (u : ℕ) → Own ps u → (y : End) → Memᴰ y (x ∷ met) → u ≡ y.0 → of_wire u (x ∷ met) ≡ 1 → Dec (u ≡ c) → get_or (set wires c v) u 0 ≡ number y.1
      one_at u o y i e z (yes d) =
          ap (λ (i : ℕ). get_or (set wires c v) i 0) d ∙ there ∙ one y i (sym d ∙ e) (subst (λ (i : ℕ). of_wire i (x ∷ met) ≡ 1) d z)
      one_at u o y i e z (no d) = get_or-set_other wires c u v 0 d ∙ go (Memᴰ.cases_cons i)
        where
          go : (y ≡ x) ⊎ Memᴰ y met → get_or wires u 0 ≡ number y.1
          go (inl s) = absurd (d (e ∙ ap (λ (q : End). q.0) s))
          go (inr k) = t.one u o y k e (sym (same u d) ∙ z)

  -- a wire that was not met stays open at the port
  opened : of_wire c met ≡ 0 → Table ps m (set wires c (number p)) (x ∷ met)
  unfolding x
  opened z = table_set (number p) low (λ y i e _. go y e (Memᴰ.cases_cons i))
    where
      go : (y : End) → c ≡ y.0 → (y ≡ x) ⊎ Memᴰ y met → number p ≡ number y.1
      go y e (inl s) = ap (λ (q : End). number q.1) (sym s)
      go y e (inr k) = let n = of_wire_mem c met y k e in absurd (omega arith)

  -- one that was met is forgotten
  closed : of_wire c met ≡ 1 → Table ps m (set wires c 0) (x ∷ met)
  closed z = table_set 0 (omega arith) (λ y i e k. let n = more in absurd (omega arith))

  -- the words do with one end what `joinMet` does
  pub join_wire_met : (ws : List ℕ) (xs : List End)
      → (links (join_wire ws wires w (number p)).ws (join_met ((canonical ps w, p) ∷ met) xs) ≡ links ws (join_met met ((canonical ps w, p) ∷ xs)))
      × Table ps m (join_wire ws wires w (number p)).wires ((canonical ps w, p) ∷ met)
  unfolding join_met links c x
  join_wire_met ws xs = go (find (λ y. eqb c y.0) met) refl
    where
      Fine : List Edit → Joined → Type 0
      Fine ds j = (links j.ws (join_met (x ∷ met) xs) ≡ links ws ds) × Table ps m j.wires (x ∷ met)

      go : (o : Option End) → find (λ y. eqb c y.0) met ≡ o
          → (links (join_wire ws wires w (number p)).ws (join_met (x ∷ met) xs)
          ≡ links ws (elim o as (λ _. List Edit) [ none ↦ join_met (x ∷ met) xs | some y ↦ Join p y.1 ∷ join_met (x ∷ met) xs ]))
          × Table ps m (join_wire ws wires w (number p)).wires (x ∷ met)
      go none e =
          let z : of_wire c met ≡ 0 = count_none (λ y. eqb c y.0) met (find_none (λ y. eqb c y.0) met e) in
          let j : ◌≡◌ {A = Joined} (record { ws = ws; wires = set wires c (number p) }) (join_wire ws wires w (number p))
          = wire_opens ws wires (set wires c (number p)) w (number p) c (get_or wires c 0) (canonical_is ps apart m wires met t w) refl (t.none c own z) refl in
          subst (λ (j : Joined). (links j.ws (join_met (x ∷ met) xs) ≡ links ws (join_met (x ∷ met) xs)) × Table ps m j.wires (x ∷ met)) j (refl, opened z)
      go (some y) e =
          let f = find_mem (λ y. eqb c y.0) met y e in
          let d : c ≡ y.0 = eqb-true c y.0 f.1 in
          let n = of_wire_mem c met y f.0 d in
          let z : of_wire c met ≡ 1 = omega (arith, few) in
          let v : get_or wires c 0 ≡ number y.1 = t.one c own y f.0 d z in
          let j : ◌≡◌ {A = Joined} (record { ws = link ws (number p) (number y.1); wires = set wires c 0 }) (join_wire ws wires w (number p))
          = wire_joins ws wires (set wires c 0) (link ws (number p) (number y.1)) w (number p) c (number y.1) (canonical_is ps apart m wires met t w) (sym v) (λ q. omega arith) refl refl in
          subst (λ (j : Joined). (links j.ws (join_met (x ∷ met) xs) ≡ links ws (Join p y.1 ∷ join_met (x ∷ met) xs)) × Table ps m j.wires (x ∷ met)) j (refl, closed z)
