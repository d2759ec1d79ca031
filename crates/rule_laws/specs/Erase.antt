-- Erase: the wire between the two is cut, and each aux port of the erased node is joined with a new eraser.
use Rattle.std.specs.Prelude.{◌≡◌, refl, ◌≢◌, ◌⊎◌, ℕ, zero, suc, ◌+◌, ◌-◌, ◌<◌, ◌≤◌, Bool, true, false, length, eqb}
use Rattle.std.proofs.Math.Path.{sym, ap}
use Rattle.std.proofs.Common.{◌∙◌, subst, inl, inr, eqb-true}
use native.Mathlib.Omega.{arith}
use Rattle.std.proofs.Math.Option.{Option, none, some}
use mathlib.Core.List.{List, [], ◌∷◌, Memᴰ}
use Rattle.net_file.specs.Lists.{concat_map}
use Rattle.definitions.specs.Lists.{up_to}
use Rattle.definitions.specs.Nets.{Port, Node, Graph, port, at, filled, name_of, arity, across}
use Rattle.definitions.specs.Scripts.{Insert, Join, Cut, Script, cut, apply}
use Rattle.definitions.specs.Rules.{new, hang, erase_script}
use Rattle.definitions.specs.Step.{Fresh}
use Rattle.join_laws.specs.Ports.{Real, arity_same, net_same, filled_same}
use Rattle.join_laws.specs.Link.{frame_cut}
use Rattle.script_laws.specs.Safe.{With, was, first, second}
use Rattle.script_laws.specs.Loops.{Or, left, right, Row, Apart, hung, hangs_safe}
use Rattle.script_laws.specs.Tidy.{WellWired, Tidy}
use Rattle.rule_laws.specs.Ids.{distinct_two}
use Rattle.rule_laws.specs.Places.{given_some, new_holes, one_of_two, not_fresh, Meet, meet, Clean, tidy_clean}

module _ (fresh : ℕ → ℕ) (g : Graph) (w : WellWired g) (f : Fresh g fresh) (e n : ℕ) (met : across g (port e 0) ≡ some (port n 0)) (bare : arity g e ≡ 1) where
  pub m : Meet g e n
  m = meet g w.wired e n met

  abbrev pub c : ℕ
  c = arity g n - 1

  abbrev pub eraser : Node
  eraser = record { net = (at g e).net; name = name_of g e; ports = none ∷ [] }

  abbrev pub P : ℕ → Port
  P i = port n (1 + i)

  abbrev pub Q : ℕ → Port
  Q i = port (fresh i) 0

  abbrev pub Cuts : Port → Type 0
  Cuts = With (λ _. ⊥) (port e 0) (port n 0)

  abbrev pub Ends : Port → Type 0
  Ends = Or Cuts (Row P Q 0 c)

  apart : Apart P Q c
  apart = record {
    p_apart = λ i j _ _ s. let z : 1 + i ≡ 1 + j = ap (λ (p : Port). p.index) s in omega arith;
    q_apart = λ i j _ _ s. f.apart i j (ap (λ (p : Port). p.node) s);
    pq_apart = λ i j _ _ s. let z : 1 + i ≡ 0 = ap (λ (p : Port). p.index) s in omega arith;
  }

  later : (i j : ℕ) → i < c → j < 1 → Ends (port (fresh i) j)
  later i j l h = right (record { i = i; low = omega arith; high = l; is = inr (ap (port (fresh i)) (let z : j ≡ 0 = omega arith in z)) })

  abbrev pub erased : Script
  erased = record { edits = Cut (port e 0) (port n 0) ∷ concat_map (hung P fresh eraser) (up_to c); dead = e ∷ n ∷ [] }

  -- after the cut
  abbrev g₁ : Graph
  g₁ = cut g (port e 0) (port n 0)

  pub erased_tidy : Tidy g erased Ends
  unfolding apply new
  erased_tidy = record {
    safe = (
      record { wired = met; unused_a = λ u. u; unused_b = λ u. u },
      hangs_safe Ends P fresh eraser c apart (new_holes 0 (name_of g e) 1) (omega arith) later c 0 g₁ Cuts (omega arith) (record {
        vacant = λ i _ _. filled_same g g₁ (fresh i) (frame_cut g (port e 0) (port n 0) (fresh i)) ∙ f.vacant i;
        real = λ i _ l. rw (arity_same g g₁ n (frame_cut g (port e 0) (port n 0) n)) (omega arith);
        in_net = λ i _ _. net_same g g₁ n (frame_cut g (port e 0) (port n 0) n) ∙ sym m.one_net;
        off = λ i j _ _ s. not_fresh g fresh f n j m.filled_b s;
        unused_p = λ i _ _. aux_unused i;
        unused_n = λ i _ _. new_unused i;
      }),
    );
    gone = λ k d. dead k (one_of_two d);
    only = used;
  }
    where
      aux_unused : (i : ℕ) → ¬ Cuts (port n (1 + i))
      aux_unused i (was u) = u
      aux_unused i (first s) = let z : 1 + i ≡ 0 = ap (λ (p : Port). p.index) s in omega arith
      aux_unused i (second s) = let z : 1 + i ≡ 0 = ap (λ (p : Port). p.index) s in omega arith

      new_unused : (i : ℕ) → ¬ Cuts (port (fresh i) 0)
      new_unused i (was u) = u
      new_unused i (first s) = not_fresh g fresh f e i m.filled_a (sym (ap (λ (p : Port). p.node) s))
      new_unused i (second s) = not_fresh g fresh f n i m.filled_b (sym (ap (λ (p : Port). p.node) s))

      dead : (k : ℕ) → (k ≡ e) ⊎ (k ≡ n) → (filled g k ≡ true) × ((i : ℕ) → i < arity g k → Ends (port k i))
      dead k (inl s) = (
        ap (filled g) s ∙ m.filled_a,
        λ i l. left (first (let l' : i < arity g e = subst (λ (t : ℕ). i < arity g t) s l in let z : i ≡ 0 = omega arith in λ x. port (s x) (z x))),
      )
      dead k (inr s) = (ap (filled g) s ∙ m.filled_b, λ i l. at_n i (subst (λ (t : ℕ). i < arity g t) s l))
        where
          at_n : (i : ℕ) → i < arity g n → Ends (port k i)
          at_n zero l = left (second (ap (λ (t : ℕ). port t 0) s))
          at_n (suc i) l = right (record { i = i; low = omega arith; high = omega arith; is = inl (let z : suc i ≡ 1 + i = omega arith in λ x. port (s x) (z x)) })

      used : (r : Port) → Ends r → Memᴰ r.node (e ∷ n ∷ []) ⊎ (filled g r.node ≡ false)
      used r (left (was u)) = absurd u
      used r (left (first s)) = inl (Memᴰ.head (ap (λ (p : Port). p.node) s))
      used r (left (second s)) = inl (Memᴰ.tail (Memᴰ.head (ap (λ (p : Port). p.node) s)))
      used r (right x) = go x.is
        where
          go : (r ≡ P x.i) ⊎ (r ≡ Q x.i) → Memᴰ r.node (e ∷ n ∷ []) ⊎ (filled g r.node ≡ false)
          go (inl s) = inl (Memᴰ.tail (Memᴰ.head (ap (λ (p : Port). p.node) s)))
          go (inr s) = inr (ap (λ (p : Port). filled g p.node) s ∙ f.vacant x.i)
