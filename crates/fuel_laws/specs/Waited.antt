-- A visit in which no rule acts draws no more: a node waits on the net that it names, and that net is above 0.
use Rattle.std.specs.Prelude.{ℕ, ◌+◌, ◌≤◌, ◌<◌, ◌≡◌, refl, ◌≢◌, Bool, true, false, ◌||◌, eqb}
use Rattle.std.proofs.Common.{sym, ◌∙◌, subst, eqb-true, ne_eqb}
use Rattle.std.proofs.Math.Path.{ap}
use Rattle.std.proofs.Math.Decide.{ℕ_discrete}
use native.Mathlib.Omega.{arith}
use Rattle.std.proofs.Math.Option.{Option, some}
use mathlib.Core.List.{List, [], ◌∷◌, ◌++◌, map}
use Rattle.std.proofs.Math.ListN.{length}
use Rattle.net_file.specs.Lists.{bit}
use Rattle.definitions.specs.Nets.{at}
use Rattle.definitions.specs.State.{Net, Wait, Engine, graph_of, with_awaiting, with_pending, net_at, over_net, more}
use Rattle.dirty_laws.specs.Tests.{eqb_self}
use Rattle.good_laws.specs.Owners.{is_of}
use Rattle.good_laws.specs.Nets.{over_length, over_part, part_at, over_same, over_other, pending_more}
use Rattle.fuel_laws.specs.Totals.{total, total_most}
use Rattle.fuel_laws.specs.Weights.{waiter, weight, drawing, weight_less}
use Rattle.fuel_laws.specs.Answered.{waiter_append}

module _ (T : ℕ → Option ℕ) (N : ℕ) (m n : ℕ) (e : Engine) where
  abbrev pub k : ℕ
  k = (at (graph_of e) n).net

  abbrev pub wait : Wait
  wait = record { node = n; net = k }

  abbrev pub waited : Engine
  waited = over_net (λ t. with_awaiting (t.awaiting ++ wait ∷ []) t) m e

  -- node n waits on the net that it names
  pub waited_drawing : (k < length e.nets → (net_at e k).pending ≢ 0) → m < length e.nets → T n ≡ some m → drawing T N (more k waited) ≤ drawing T N e
  unfolding more with_awaiting with_pending
  waited_drawing above l names =
      let e' = more k waited in
      let q : length e'.nets ≡ length e.nets = over_length (λ t. with_pending (t.pending + 1) t) k waited ∙ over_length (λ t. with_awaiting (t.awaiting ++ wait ∷ []) t) m e in
      let a = total_most (λ i. weight T N (net_at e' i) i) (λ i. weight T N (net_at e i) i) (length e.nets) (λ i h. lighter i h) in
      let b : drawing T N e' ≡ total (λ i. weight T N (net_at e' i) i) (length e.nets) = ap (total (λ i. weight T N (net_at e' i) i)) q in
      omega arith
    where
      pends : (i : ℕ) → i < length e.nets → (net_at (more k waited) i).pending ≡ (net_at e i).pending + bit (eqb k i)
      pends i h =
          pending_more k waited i (subst (λ (c : ℕ). i < c) (sym (over_length (λ t. with_awaiting (t.awaiting ++ wait ∷ []) t) m e)) h)
          ∙ ap (λ (p : ℕ). p + bit (eqb k i)) (part_at (λ t. t.pending) e waited (kept_pending) i)
        where
          kept_pending : map (λ (t : Net). t.pending) waited.nets ≡ map (λ (t : Net). t.pending) e.nets
          kept_pending = over_part (λ t. t.pending) (λ t. with_awaiting (t.awaiting ++ wait ∷ []) t) m e (λ t. refl)

      zero_stays : (i : ℕ) → i < length e.nets → (net_at e i).pending ≡ 0 → (net_at (more k waited) i).pending ≡ 0
      zero_stays i h z =
          let p = pends i h in
          let o : bit (eqb k i) ≡ 0 = ap bit (ne_eqb k i (λ s. above (subst (λ (c : ℕ). c < length e.nets) (sym s) h) (ap (λ (c : ℕ). (net_at e c).pending) s ∙ z))) in
          omega arith

      awaits_more : (i : ℕ) → (net_at (more k waited) i).awaiting ≡ (net_at waited i).awaiting
      awaits_more i = part_at (λ t. t.awaiting) waited (more k waited) (over_part (λ t. t.awaiting) (λ t. with_pending (t.pending + 1) t) k waited (λ t. refl)) i

      or_split : (a b c : Bool) → ((a || (b || false)) || c) ≡ true → (b ≡ true → c ≡ true) → (a || c) ≡ true
      or_split true b c h f = refl
      or_split false true c h f = f refl
      or_split false false c h f = h

      lighter : (i : ℕ) → i < length e.nets → weight T N (net_at (more k waited) i) i ≤ weight T N (net_at e i) i
      lighter i h = weight_less T N (net_at e i) (net_at (more k waited) i) i (zero_stays i h) (λ j w. go (ℕ_discrete i m) j (subst (λ (ws : List Wait). (waiter ws j || is_of i (T j)) ≡ true) (awaits_more i) w))
        where
          go : Dec (i ≡ m) → (j : ℕ) → (waiter (net_at waited i).awaiting j || is_of i (T j)) ≡ true → (waiter (net_at e i).awaiting j || is_of i (T j)) ≡ true
          go (yes s) j w =
              let r : (net_at waited i).awaiting ≡ (net_at e i).awaiting ++ wait ∷ [] =
              ap (λ (c : ℕ). (net_at waited c).awaiting) s ∙ ap (λ (t : Net). t.awaiting) (over_same (λ t. with_awaiting (t.awaiting ++ wait ∷ []) t) m e l) ∙ ap (λ (c : ℕ). (net_at e c).awaiting ++ wait ∷ []) (sym s) in
              or_split (waiter (net_at e i).awaiting j) (eqb n j) (is_of i (T j))
              (subst (λ (b : Bool). (b || is_of i (T j)) ≡ true) (waiter_append (net_at e i).awaiting (wait ∷ []) j) (subst (λ (ws : List Wait). (waiter ws j || is_of i (T j)) ≡ true) r w))
              (λ t. ap (λ (o : Option ℕ). is_of i o) (ap T (sym (eqb-true n j t)) ∙ names) ∙ ap (eqb m) s ∙ eqb_self m)
          go (no d) j w = subst (λ (t : Net). (waiter t.awaiting j || is_of i (T j)) ≡ true) (over_other (λ t. with_awaiting (t.awaiting ++ wait ∷ []) t) m e i d) w
