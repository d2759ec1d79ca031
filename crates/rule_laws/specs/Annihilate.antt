-- Annihilate: each port of the two nodes is joined once.
use Rattle.std.specs.Prelude.{◌≡◌, refl, ◌≢◌, ◌⊎◌, ℕ, zero, suc, ◌+◌, ◌<◌, ◌≤◌, Bool, true, false, ◌&&◌, eqb}
use Rattle.std.proofs.Common.{sym, ◌∙◌, arith, eqb-true}
use Rattle.std.proofs.Math.Path.{ap, subst}
use Rattle.std.proofs.Math.Logic.{inl, inr}
use Rattle.std.proofs.Math.Option.{Option, none, some}
use mathlib.Core.List.{List, [], ◌∷◌, map, Memᴰ}
use Rattle.list_laws.specs.Tests.{both}
use Rattle.net_file.specs.Checks.{same_name}
use Rattle.definitions.specs.Lists.{zip_with, up_to}
use Rattle.definitions.specs.Nets.{Port, Graph, port, filled, name_of, arity, ports, across}
use Rattle.definitions.specs.Scripts.{Join, Script}
use Rattle.definitions.specs.Rules.{annihilate_script}
use Rattle.join_laws.specs.Ports.{Real}
use Rattle.script_laws.specs.Loops.{Or, left, right, Row, Apart, joins_safe}
use Rattle.script_laws.specs.Tidy.{WellWired, Tidy}
use Rattle.rule_laws.specs.Ids.{distinct_two}
use Rattle.rule_laws.specs.Places.{given_some, zip_rows, one_of_two, Meet, meet, Clean, tidy_clean}

module _ (g : Graph) (w : WellWired g) (a b : ℕ) (m : Meet g a b) (same : arity g a ≡ arity g b) where
  abbrev pub joins : Script
  joins = record { edits = map (λ i. Join (port a i) (port b i)) (up_to (arity g a)); dead = a ∷ b ∷ [] }

  pub Ends : Port → Type 0
  Ends = Or (λ _. ⊥) (Row (port a) (port b) 0 (arity g a))

  apart : Apart (port a) (port b) (arity g a)
  apart = record {
    p_apart = λ i j _ _ e. ap (λ (p : Port). p.index) e;
    q_apart = λ i j _ _ e. ap (λ (p : Port). p.index) e;
    pq_apart = λ i j _ _ e. m.differ (ap (λ (p : Port). p.node) e);
  }

  pub joins_tidy : Tidy g joins Ends
  unfolding Ends
  joins_tidy = record {
    safe = joins_safe Ends (port a) (port b) (arity g a) apart (arity g a) 0 g (λ _. ⊥) (omega arith) (record {
      real_p = λ i _ l. l;
      real_q = λ i _ l. omega arith;
      one_net = λ i _ _. m.one_net;
      unused_p = λ i _ _ u. u;
      unused_q = λ i _ _ u. u;
    });
    gone = λ n d. dead n (one_of_two d);
    only = used;
  }
    where
      dead : (n : ℕ) → (n ≡ a) ⊎ (n ≡ b) → (filled g n ≡ true) × ((i : ℕ) → i < arity g n → Ends (port n i))
      dead n (inl e) = (
        ap (filled g) e ∙ m.filled_a,
        λ i l. right (record { i = i; low = omega arith; high = subst (λ (k : ℕ). i < arity g k) e l; is = inl (ap (λ (k : ℕ). port k i) e) }),
      )
      dead n (inr e) = (
        ap (filled g) e ∙ m.filled_b,
        λ i l. right (record {
          i = i;
          low = omega arith;
          high = let z = subst (λ (k : ℕ). i < arity g k) e l in omega arith;
          is = inr (ap (λ (k : ℕ). port k i) e);
        }),
      )

      used : (r : Port) → Ends r → Memᴰ r.node (a ∷ b ∷ []) ⊎ (filled g r.node ≡ false)
      used r (left u) = absurd u
      used r (right x) = go x.is
        where
          go : (r ≡ port a x.i) ⊎ (r ≡ port b x.i) → Memᴰ r.node (a ∷ b ∷ []) ⊎ (filled g r.node ≡ false)
          go (inl e) = inl (Memᴰ.head (ap (λ (p : Port). p.node) e))
          go (inr e) = inl (Memᴰ.tail (Memᴰ.head (ap (λ (p : Port). p.node) e)))
