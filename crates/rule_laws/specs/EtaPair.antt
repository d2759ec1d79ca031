-- Eta, combinator form: the principal ports of the pair are joined, the wires between their aux ports, or those to nils, are cut.
use Rattle.std.specs.Prelude.{◌≡◌, ◌≢◌, ◌⊎◌, Bool, true, false, ◌&&◌, ◌||◌, eqb}
use Rattle.std.proofs.Math.Path.{refl}
use Rattle.std.proofs.Common.{sym, ap, ◌∙◌, subst, inl, inr, true≢false, eqb-true}
use Prim.Native.Nat.{ℕ, zero, suc, ◌+◌, ◌-◌, ◌<◌, ◌≤◌}
use Rattle.std.proofs.Math.Decide.{ℕ_discrete}
use native.Mathlib.Omega.{arith}
use Rattle.std.proofs.lemmas.Bool.{false≢true}
use Rattle.std.proofs.Math.Option.{Option, none, some, some-injective}
use mathlib.Core.List.{List, [], ◌∷◌, ◌++◌, map, Memᴰ}
use Rattle.list_laws.specs.Tests.{both, either}
use Rattle.net_file.specs.Lists.{all}
use Rattle.net_file.specs.Checks.{same_name}
use Rattle.definitions.specs.Lists.{foldl, concat, zip_with, from, up_to, has}
use Rattle.definitions.specs.Nets.{Port, Graph, port, same_port, at, filled, name_of, arity, aux, across, follow}
use Rattle.definitions.specs.Scripts.{Edit, Join, Cut, Script, join, cut, apply}
use Rattle.definitions.specs.Rules.{straight, nil_pair, eta_cuts, eta_nils, eta_pair}
use Rattle.join_laws.specs.Ports.{same_port_lem, same_port_true, same_port_false, Real, across_real}
use Rattle.join_laws.specs.Link.{cut_other}
use Rattle.join_laws.proofs.Join.{join_kept}
use Rattle.script_laws.specs.Safe.{With, was, first, second, Safe}
use Rattle.script_laws.proofs.Safe.{safe_same}
use Rattle.script_laws.specs.Loops.{Or, left, right, safe_end}
use Rattle.script_laws.specs.Tidy.{WellWired, Tidy, real_filled}
use Rattle.rule_laws.specs.Places.{given_some, zip_rows, Clean, tidy_clean, follow_across, across_follow, follow_real, follow_back, follow_filled}
use Rattle.rule_laws.specs.Rows.{mem_rows, rows_mem, all_row, aux_row}

-- a and b of c aux ports each; aux port i of the one meets that of the other, or both meet a node of one port
pub record Facing (g : Graph) (a b c : ℕ) : Type 0 where
  pub size_a : arity g a ≡ 1 + c
  pub size_b : arity g b ≡ 1 + c
  pub some_aux : 0 < c
  pub differ : a ≢ b
  pub one_net : (at g a).net ≡ (at g b).net
  pub meets : (i : ℕ) → i < c
      → (follow g (port a (1 + i)) ≡ port b (1 + i)) ⊎ ((arity g (follow g (port a (1 + i))).node ≡ 1) × (arity g (follow g (port b (1 + i))).node ≡ 1))

module _ (fresh : ℕ → ℕ) (g : Graph) (w : WellWired g) (a b c : ℕ) (t : Facing g a b c) where
  abbrev pub P : ℕ → Port
  P i = port a (1 + i)

  abbrev pub Q : ℕ → Port
  Q i = port b (1 + i)

  pub real_p : (i : ℕ) → i < c → Real g (P i)
  real_p i l = let z = t.size_a in omega arith

  pub real_q : (i : ℕ) → i < c → Real g (Q i)
  real_q i l = let z = t.size_b in omega arith

  -- one of the two aux ports i
  pub data Near (i : ℕ) (r : Port) : Type 0 where
    on_a : r ≡ P i → Near i r
    on_b : r ≡ Q i → Near i r

  near_real : (i : ℕ) (r : Port) → i < c → Near i r → Real g r
  near_real i r l (on_a e) = subst (Real g) (sym e) (real_p i l)
  near_real i r l (on_b e) = subst (Real g) (sym e) (real_q i l)

  near_apart : (i j : ℕ) (r : Port) → Near i r → Near j r → i ≡ j
  near_apart i j r (on_a e) (on_a s) = let z : 1 + i ≡ 1 + j = ap (λ (p : Port). p.index) (sym e ∙ s) in omega arith
  near_apart i j r (on_a e) (on_b s) = absurd (t.differ (ap (λ (p : Port). p.node) (sym e ∙ s)))
  near_apart i j r (on_b e) (on_a s) = absurd (t.differ (ap (λ (p : Port). p.node) (sym s ∙ e)))
  near_apart i j r (on_b e) (on_b s) = let z : 1 + i ≡ 1 + j = ap (λ (p : Port). p.index) (sym e ∙ s) in omega arith

  pub near_many : (i : ℕ) (r : Port) → Near i r → 2 ≤ arity g r.node
  near_many i r (on_a e) = let z : arity g r.node ≡ 1 + c = ap (λ (p : Port). arity g p.node) e ∙ t.size_a in let y = t.some_aux in omega arith
  near_many i r (on_b e) = let z : arity g r.node ≡ 1 + c = ap (λ (p : Port). arity g p.node) e ∙ t.size_b in let y = t.some_aux in omega arith

  -- it meets the other, or a node of one port
  pub near_meets : (i : ℕ) (r : Port) → i < c → Near i r → Near i (follow g r) ⊎ (arity g (follow g r).node ≡ 1)
  near_meets i r l (on_a e) = go (t.meets i l)
    where
      go : (follow g (P i) ≡ Q i) ⊎ ((arity g (follow g (P i)).node ≡ 1) × (arity g (follow g (Q i)).node ≡ 1)) → Near i (follow g r) ⊎ (arity g (follow g r).node ≡ 1)
      go (inl s) = inl (on_b (ap (follow g) e ∙ s))
      go (inr s) = inr (ap (λ (p : Port). arity g (follow g p).node) e ∙ s.0)
  near_meets i r l (on_b e) = go (t.meets i l)
    where
      go : (follow g (P i) ≡ Q i) ⊎ ((arity g (follow g (P i)).node ≡ 1) × (arity g (follow g (Q i)).node ≡ 1)) → Near i (follow g r) ⊎ (arity g (follow g r).node ≡ 1)
      go (inl s) = inl (on_a (ap (follow g) e ∙ ap (follow g) (sym s) ∙ follow_back g w (P i) (real_p i l)))
      go (inr s) = inr (ap (λ (p : Port). arity g (follow g p).node) e ∙ s.1)

  -- the ports that step i uses: those two, and what they meet
  pub data Near₂ (i : ℕ) (r : Port) : Type 0 where
    near : Near i r → Near₂ i r
    met : (q : Port) → Near i q → r ≡ follow g q → Near₂ i r

  near_near₂ : (i j : ℕ) (r : Port) → i < c → j < c → Near i r → Near₂ j r → i ≡ j
  near_near₂ i j r l m n (near k) = near_apart i j r n k
  near_near₂ i j r l m n (met q k e) = go (near_meets j q m k)
    where
      go : Near j (follow g q) ⊎ (arity g (follow g q).node ≡ 1) → i ≡ j
      go (inl x) = near_apart i j r n (subst (Near j) (sym e) x)
      go (inr x) = let y = near_many i r n in let z : arity g r.node ≡ 1 = ap (λ (p : Port). arity g p.node) e ∙ x in absurd (omega arith)

  pub near₂_apart : (i j : ℕ) (r : Port) → i < c → j < c → Near₂ i r → Near₂ j r → i ≡ j
  near₂_apart i j r l m (near k) n = near_near₂ i j r l m k n
  near₂_apart i j r l m (met q k e) (near n) = sym (near_near₂ j i r m l n (met q k e))
  near₂_apart i j r l m (met q k e) (met q' k' e') =
      let s : q ≡ q' = sym (follow_back g w q (near_real i q l k)) ∙ ap (follow g) (sym e ∙ e') ∙ follow_back g w q' (near_real j q' m k') in
      near_apart i j q k (subst (Near j) (sym s) k')

  -- a principal port of the pair is none of these
  near_index : (i : ℕ) (r : Port) → r.index ≡ 0 → ¬ Near i r
  near_index i r z (on_a e) = let y : r.index ≡ 1 + i = ap (λ (p : Port). p.index) e in omega arith
  near_index i r z (on_b e) = let y : r.index ≡ 1 + i = ap (λ (p : Port). p.index) e in omega arith

  pub principal_off : (i : ℕ) (r : Port) → i < c → r.index ≡ 0 → 2 ≤ arity g r.node → ¬ Near₂ i r
  principal_off i r l z m (near k) = near_index i r z k
  principal_off i r l z m (met q k e) = go (near_meets i q l k)
    where
      go : Near i (follow g q) ⊎ (arity g (follow g q).node ≡ 1) → ⊥
      go (inl x) = near_index i r z (subst (Near i) (sym e) x)
      go (inr x) = let y : arity g r.node ≡ 1 = ap (λ (p : Port). arity g p.node) e ∙ x in omega arith

  -- ---- the cuts

  -- those of the steps from k on
  pub record Steps (k : ℕ) (r : Port) : Type 0 where
    pub i : ℕ
    pub low : k ≤ i
    pub high : i < c
    pub is : Near₂ i r

  abbrev pub E : ℕ → List Edit
  E i = eta_cuts fresh g (P i) (Q i)

  -- the wires of g whose ports are not used are there
  abbrev pub Still : Graph → (Port → Type 0) → Type 0
  Still h U = (p q : Port) → across g p ≡ some q → ¬ U p → ¬ U q → across h p ≡ some q

  still_cut : (h : Graph) (U : Port → Type 0) (x y : Port) → Still h U → Still (cut h x y) (With U x y)
  still_cut h U x y k p q e np nq = cut_other h x y p (λ s. np (first s)) (λ s. np (second s)) ∙ k p q e (λ u. np (was u)) (λ u. nq (was u))

  module _ (F : Port → Type 0) (U : Port → Type 0) (k : ℕ) (l : k < c) where
    -- one more step
    steps_more : (U' : Port → Type 0) → ((r : Port) → (U' r → Or U (Near₂ k) r) × (Or U (Near₂ k) r → U' r)) → (r : Port)
        → (Or U' (Steps (suc k)) r → Or U (Steps k) r) × (Or U (Steps k) r → Or U' (Steps (suc k)) r)
    steps_more U' h r = (to, from')
      where
        to : Or U' (Steps (suc k)) r → Or U (Steps k) r
        to (left u) = go ((h r).0 u)
          where
            go : Or U (Near₂ k) r → Or U (Steps k) r
            go (left v) = left v
            go (right n) = right (record { i = k; low = omega arith; high = l; is = n })
        to (right x) = right (record { i = x.i; low = let z = x.low in omega arith; high = x.high; is = x.is })

        from' : Or U (Steps k) r → Or U' (Steps (suc k)) r
        from' (left u) = left ((h r).1 (left u))
        from' (right x) = go (ℕ_discrete x.i k)
          where
            go : Dec (x.i ≡ k) → Or U' (Steps (suc k)) r
            go (yes e) = left ((h r).1 (right (subst (λ (i : ℕ). Near₂ i r) e x.is)))
            go (no e) = right (record { i = x.i; low = let z = x.low in omega arith; high = x.high; is = x.is })

    unused_next : (U' : Port → Type 0) → ((r : Port) → (U' r → Or U (Near₂ k) r) × (Or U (Near₂ k) r → U' r)) → ((i : ℕ) (r : Port) → k ≤ i → i < c → Near₂ i r → ¬ U r)
        → (i : ℕ) (r : Port) → suc k ≤ i → i < c → Near₂ i r → ¬ U' r
    unused_next U' h f i r s m n u = go ((h r).0 u)
      where
        go : Or U (Near₂ k) r → ⊥
        go (left v) = f i r (omega arith) m n v
        go (right v) = let z = near₂_apart i k r m l n v in omega arith

  pub cuts_fit : (F : Port → Type 0) (n k : ℕ) (h : Graph) (U : Port → Type 0) → k + n ≡ c → Still h U → ((i : ℕ) (r : Port) → k ≤ i → i < c → Near₂ i r → ¬ U r)
      → Safe F h U (concat (map E (from k n))) (Or U (Steps k))
  unfolding eta_cuts straight apply
  cuts_fit F zero k h U e s f = λ r. (left, λ x. elim x [ left u ↦ u | right z ↦ (let p = z.low in let q = z.high in absurd (omega arith)) ])
  cuts_fit F (suc n) k h U e s f = go (same_port (follow g (P k)) (Q k)) refl (λ h' U' s' f'. cuts_fit F n (suc k) h' U' (omega arith) s' f')
    where
      l : k < c
      l = omega arith

      wp : across g (P k) ≡ some (follow g (P k))
      wp = follow_across g w (P k) (real_p k l)

      wq : across g (Q k) ≡ some (follow g (Q k))
      wq = follow_across g w (Q k) (real_q k l)

      np : ¬ U (P k)
      np = f k (P k) (omega arith) l (near (on_a refl))

      nq : ¬ U (Q k)
      nq = f k (Q k) (omega arith) l (near (on_b refl))

      np' : ¬ U (follow g (P k))
      np' = f k (follow g (P k)) (omega arith) l (met (P k) (on_a refl) refl)

      nq' : ¬ U (follow g (Q k))
      nq' = f k (follow g (Q k)) (omega arith) l (met (Q k) (on_b refl) refl)

      go : (t' : Bool) → same_port (follow g (P k)) (Q k) ≡ t'
          → ((h' : Graph) (U' : Port → Type 0) → Still h' U' → ((i : ℕ) (r : Port) → suc k ≤ i → i < c → Near₂ i r → ¬ U' r) → Safe F h' U' (concat (map E (from (suc k) n))) (Or U' (Steps (suc k))))
          → Safe F h U (elim t' as (λ _. List Edit) [ true ↦ Cut (P k) (Q k) ∷ [] | false ↦ Cut (P k) (follow g (P k)) ∷ Cut (Q k) (follow g (Q k)) ∷ [] ] ++ concat (map E (from (suc k) n))) (Or U (Steps k))
      go true x ih = (
        record { wired = s (P k) (Q k) pq np nq; unused_a = np; unused_b = nq },
        safe_end F (concat (map E (from (suc k) n))) (cut h (P k) (Q k)) U' (Or U' (Steps (suc k))) (Or U (Steps k)) (steps_more F U k l U' sets)
            (ih (cut h (P k) (Q k)) U' (still_cut h U (P k) (Q k) s) (unused_next F U k l U' sets f)),
      )
        where
          pq : across g (P k) ≡ some (Q k)
          pq = wp ∙ ap {B = Option Port} some (same_port_true (follow g (P k)) (Q k) x)

          U' : Port → Type 0
          U' = With U (P k) (Q k)

          sets : (r : Port) → (With U (P k) (Q k) r → Or U (Near₂ k) r) × (Or U (Near₂ k) r → With U (P k) (Q k) r)
          sets r = (to, from')
            where
              to : With U (P k) (Q k) r → Or U (Near₂ k) r
              to (was u) = left u
              to (first e) = right (near (on_a e))
              to (second e) = right (near (on_b e))

              from' : Or U (Near₂ k) r → With U (P k) (Q k) r
              from' (left u) = was u
              from' (right (near (on_a e))) = first e
              from' (right (near (on_b e))) = second e
              from' (right (met q (on_a e) m)) = second (m ∙ ap (follow g) e ∙ across_follow g w (P k) (Q k) pq)
              from' (right (met q (on_b e) m)) = first (m ∙ ap (follow g) e ∙ across_follow g w (Q k) (P k) (w.wired.back (P k) (Q k) pq))
      go false x ih = (
        record { wired = s (P k) (follow g (P k)) wp np np'; unused_a = np; unused_b = np' },
        (
          record { wired = still_cut h U (P k) (follow g (P k)) s (Q k) (follow g (Q k)) wq (clear_q) (clear_q'); unused_a = clear_q; unused_b = clear_q' },
          safe_end F (concat (map E (from (suc k) n))) h₂ U₂ (Or U₂ (Steps (suc k))) (Or U (Steps k)) (steps_more F U k l U₂ sets)
              (ih h₂ U₂ (still_cut (cut h (P k) (follow g (P k))) (With U (P k) (follow g (P k))) (Q k) (follow g (Q k)) (still_cut h U (P k) (follow g (P k)) s)) (unused_next F U k l U₂ sets f)),
        ),
      )
        where
          h₂ : Graph
          h₂ = cut (cut h (P k) (follow g (P k))) (Q k) (follow g (Q k))

          U₂ : Port → Type 0
          U₂ = With (With U (P k) (follow g (P k))) (Q k) (follow g (Q k))

          clear_q : ¬ With U (P k) (follow g (P k)) (Q k)
          clear_q (was u) = nq u
          clear_q (first e) = t.differ (sym (ap (λ (p : Port). p.node) e))
          clear_q (second e) = same_port_false (follow g (P k)) (Q k) x (sym e)

          clear_q' : ¬ With U (P k) (follow g (P k)) (follow g (Q k))
          clear_q' (was u) = nq' u
          clear_q' (first e) = same_port_false (follow g (P k)) (Q k) x (ap (follow g) (sym e) ∙ follow_back g w (Q k) (real_q k l))
          clear_q' (second e) =
              t.differ (sym (ap (λ (p : Port). p.node) (sym (follow_back g w (Q k) (real_q k l)) ∙ ap (follow g) e ∙ follow_back g w (P k) (real_p k l))))

          sets : (r : Port) → (With (With U (P k) (follow g (P k))) (Q k) (follow g (Q k)) r → Or U (Near₂ k) r) × (Or U (Near₂ k) r → With (With U (P k) (follow g (P k))) (Q k) (follow g (Q k)) r)
          sets r = (to, from')
            where
              to : With (With U (P k) (follow g (P k))) (Q k) (follow g (Q k)) r → Or U (Near₂ k) r
              to (was (was u)) = left u
              to (was (first e)) = right (near (on_a e))
              to (was (second e)) = right (met (P k) (on_a refl) e)
              to (first e) = right (near (on_b e))
              to (second e) = right (met (Q k) (on_b refl) e)

              from' : Or U (Near₂ k) r → With (With U (P k) (follow g (P k))) (Q k) (follow g (Q k)) r
              from' (left u) = was (was u)
              from' (right (near (on_a e))) = was (first e)
              from' (right (near (on_b e))) = first e
              from' (right (met q (on_a e) m)) = was (second (m ∙ ap (follow g) e))
              from' (right (met q (on_b e) m)) = second (m ∙ ap (follow g) e)
