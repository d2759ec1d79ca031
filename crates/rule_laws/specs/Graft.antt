-- Graft: the copied free node's ports 0 and 1 vanish, its others are joined with those of the graft node.
use Rattle.std.proofs.Math.Path.{◌≡◌, sym, ap}
use Rattle.std.specs.Prelude.{refl, ◌≢◌, ◌⊎◌, ℕ, zero, suc, ◌+◌, ◌<◌, ◌≤◌, Bool, true, false, length, get_or, drop, eqb}
use Rattle.std.proofs.Common.{◌∙◌, subst, inl, inr, true≢false, eqb-true}
use native.Mathlib.Omega.{arith}
use Rattle.std.proofs.Math.Option.{Option, none, some}
use mathlib.Core.List.{List, [], ◌∷◌, ◌++◌, map, Memᴰ}
use Rattle.definitions.specs.Lists.{foldl, place, zip_with, from, up_to}
use Rattle.definitions.specs.Nets.{Port, Graph, port, at, filled, holds, name_of, arity, ports, across}
use Rattle.definitions.specs.Scripts.{Edit, Copy, Join, Script, join, apply, vacate, apply_script}
use Rattle.definitions.specs.Rules.{copy_port, copies, graft_script, graft_fits}
use Rattle.definitions.specs.Step.{Fresh, NodesOf}
use Rattle.join_laws.specs.Ports.{frame, arity_same, net_same, filled_same, Real, across_real}
use Rattle.join_laws.proofs.Join.{frame_join}
use Rattle.script_laws.specs.Safe.{With, was, first, second, AllAway, away_append}
use Rattle.script_laws.specs.Loops.{Or, left, right, Row, Apart, joins_safe}
use Rattle.script_laws.specs.Tidy.{WellWired, Tidy, real_filled}
use Rattle.rule_laws.specs.Places.{zip_rows, one_of_two, not_fresh, Ported, Clean, tidy_clean}
use Rattle.rule_laws.specs.Rows.{from_next}
use Rattle.rule_laws.specs.Ids.{place_at, distinct_two}
use Rattle.rule_laws.specs.Copies.{g₁, old_across, old_frame, copy_arity, copy_net, copies_well, copies_ported}

-- ---- the joins, after the copies: f has two ports more than a

module _ (g : Graph) (w : WellWired g) (f a : ℕ) (differ : f ≢ a) (size : arity g f ≡ 2 + arity g a) (one_net : (at g f).net ≡ (at g a).net) (filled_a : filled g a ≡ true) where
  abbrev P : ℕ → Port
  P i = port f (2 + i)

  abbrev pub joins : Script
  joins = record { edits = Join (port f 0) (port f 1) ∷ map (λ i. Join (P i) (port a i)) (up_to (arity g a)); dead = f ∷ a ∷ [] }

  abbrev Circle : Port → Type 0
  Circle = With (λ _. ⊥) (port f 0) (port f 1)

  abbrev pub Ends : Port → Type 0
  Ends = Or Circle (Row P (port a) 0 (arity g a))

  apart : Apart P (port a) (arity g a)
  apart = record {
    p_apart = λ i j _ _ s. let z : 2 + i ≡ 2 + j = ap (λ (p : Port). p.index) s in omega arith;
    q_apart = λ i j _ _ s. ap (λ (p : Port). p.index) s;
    pq_apart = λ i j _ _ s. differ (ap (λ (p : Port). p.node) s);
  }

  pub h : Graph
  h = join g (port f 0) (port f 1)

  pub same : (n : ℕ) → frame h n ≡ frame g n
  unfolding h
  same = frame_join g (port f 0) (port f 1)

  pub joins_tidy : Tidy g joins Ends
  unfolding apply h
  joins_tidy = record {
    safe = (
      record {
        real_a = omega arith;
        real_b = omega arith;
        differ = λ s. let z : ◌≡◌ {A = ℕ} 0 1 = ap (λ (p : Port). p.index) s in omega arith;
        one_net = refl;
        unused_a = λ u. u;
        unused_b = λ u. u;
      },
      joins_safe Ends P (port a) (arity g a) apart (arity g a) 0 h Circle (omega arith) (record {
        real_p = λ i _ l. rw (arity_same g h f (same f)) (omega arith);
        real_q = λ i _ l. rw (arity_same g h a (same a)) l;
        one_net = λ i _ _. net_same g h f (same f) ∙ one_net ∙ sym (net_same g h a (same a));
        unused_p = λ i _ _. f_unused i;
        unused_q = λ i _ _. a_unused i;
      }),
    );
    gone = λ n d. dead n (one_of_two d);
    only = used;
  }
    where
      f_unused : (i : ℕ) → ¬ Circle (port f (2 + i))
      f_unused i (was u) = u
      f_unused i (first s) = let z : 2 + i ≡ 0 = ap (λ (p : Port). p.index) s in omega arith
      f_unused i (second s) = let z : 2 + i ≡ 1 = ap (λ (p : Port). p.index) s in omega arith

      a_unused : (i : ℕ) → ¬ Circle (port a i)
      a_unused i (was u) = u
      a_unused i (first s) = differ (sym (ap (λ (p : Port). p.node) s))
      a_unused i (second s) = differ (sym (ap (λ (p : Port). p.node) s))

      dead : (n : ℕ) → (n ≡ f) ⊎ (n ≡ a) → (filled g n ≡ true) × ((i : ℕ) → i < arity g n → Ends (port n i))
      dead n (inl s) = (ap (filled g) s ∙ real_filled g (port f 0) (omega arith), λ i l. at_f i (subst (λ (k : ℕ). i < arity g k) s l))
        where
          at_f : (i : ℕ) → i < arity g f → Ends (port n i)
          at_f zero l = left (first (ap (λ (k : ℕ). port k 0) s))
          at_f (suc zero) l = left (second (ap (λ (k : ℕ). port k 1) s))
          at_f (suc (suc i)) l = right (record { i = i; low = omega arith; high = omega arith; is = inl (let z : suc (suc i) ≡ 2 + i = omega arith in λ u. port (s u) (z u)) })
      dead n (inr s) = (
        ap (filled g) s ∙ filled_a,
        λ i l. right (record { i = i; low = omega arith; high = subst (λ (k : ℕ). i < arity g k) s l; is = inr (ap (λ (k : ℕ). port k i) s) }),
      )

      used : (r : Port) → Ends r → Memᴰ r.node (f ∷ a ∷ []) ⊎ (filled g r.node ≡ false)
      used r (left (was u)) = absurd u
      used r (left (first s)) = inl (Memᴰ.head (ap (λ (p : Port). p.node) s))
      used r (left (second s)) = inl (Memᴰ.head (ap (λ (p : Port). p.node) s))
      used r (right x) = go x.is
        where
          go : (r ≡ P x.i) ⊎ (r ≡ port a x.i) → Memᴰ r.node (f ∷ a ∷ []) ⊎ (filled g r.node ≡ false)
          go (inl s) = inl (Memᴰ.head (ap (λ (p : Port). p.node) s))
          go (inr s) = inl (Memᴰ.tail (Memᴰ.head (ap (λ (p : Port). p.node) s)))

-- ---- the graft

pub foldl_append : {A B : Type 0} (f : B → A → B) (xs ys : List A) (b : B) → foldl f b (xs ++ ys) ≡ foldl f (foldl f b xs) ys
foldl_append f [] ys b = refl
foldl_append f (x ∷ xs) ys b = foldl_append f xs ys (f b x)

-- the joins as the script writes them, and as a row
pub rows : (f a n : ℕ) → zip_with Join (map (port f) (drop 2 (up_to (2 + n)))) (map (port a) (up_to n)) ≡ map (λ i. Join (port f (2 + i)) (port a i)) (up_to n)
rows f a n =
    ap (λ (k : ℕ). zip_with Join (map (port f) (drop 2 (up_to k))) (map (port a) (up_to n))) (let z : 2 + n ≡ suc (suc n) = omega arith in z)
    ∙ ap (λ (l : List Port). zip_with Join l (map (port a) (up_to n)))
    (from_next (port f) n 1 ∙ from_next (λ i. port f (1 + i)) n 0 ∙ shift n 0)
    ∙ zip_rows Join (λ i. port f (2 + i)) (port a) (up_to n)
  where
    shift : (n k : ℕ) → map (λ i. port f (1 + (1 + i))) (from k n) ≡ map (λ i. port f (2 + i)) (from k n)
    shift zero k = refl
    shift (suc n) k = ap (λ (i : ℕ). port f i ∷ map (λ i. port f (1 + (1 + i))) (from (suc k) n)) (let z : 1 + (1 + k) ≡ 2 + k = omega arith in z) ∙ ap (λ (l : List Port). port f (2 + k) ∷ l) (shift n (suc k))
