-- Answers push no more than they draw.
use Prim.Native.Nat.{ℕ, zero, suc, ◌+◌, ◌≤◌, ◌<◌}
use Rattle.std.specs.Prelude.{◌≡◌, ◌≢◌, Bool, not, ◌&&◌, ◌||◌, get_or}
use Rattle.std.proofs.Math.Path.{refl, ap, subst}
use Rattle.std.proofs.Common.{sym, ◌∙◌, eqb-true}
use Rattle.std.proofs.Math.Decide.{ℕ_discrete, dec_lt}
use native.Mathlib.Omega.{arith}
use Rattle.std.proofs.Math.Bool.{true, false}
use Rattle.std.proofs.Math.Option.{Option}
use mathlib.Core.List.{List, [], ◌∷◌, ◌++◌, append-nil}
use Rattle.std.proofs.Math.ListN.{length, length-append}
use Rattle.std.proofs.Math.Dec.{eqb}
use Rattle.net_file.specs.Lists.{bit}
use Rattle.definitions.specs.State.{Pools, Net, Wait, Engine, with_nets, with_awaiting, net_at, over_net, fewer, waits}
use Rattle.definitions.specs.Books.{wake, answer, finish_edit_net}
use Rattle.dirty_laws.specs.Tests.{eqb_self}
use Rattle.dirty_laws.specs.Tally.{tally, tally_mono, tally_either}
use Rattle.engine_laws.specs.Frame.{still_frame, pools_kept, wake_still, awaiting_still}
use Rattle.good_laws.specs.Owners.{is_of}
use Rattle.good_laws.specs.Nets.{over_length, over_same, over_other, net_out_lem}
use Rattle.good_laws.specs.Good.{Good, bump, rest, good_extra, made_by}
use Rattle.good_laws.specs.Marks.{fewer_good}
use Rattle.good_laws.specs.Answers.{emptied, emptied_waits, made_append, wake_good, wake_awaits, awaits_waits}
use Rattle.good_laws.proofs.AnswersLaws.{emptied_good}
use Rattle.fuel_laws.specs.Totals.{total, total_most}
use Rattle.fuel_laws.specs.Weights.{waiter, drawn, weight, drawing, weight_less, waiters_most}
use Rattle.fuel_laws.specs.Moves.{Lighter, lighter_drawing, fallen_drawing, fewer_lighter, wake_lighter, asleep, wake_awake}

pub waiter_append : (us ws : List Wait) (n : ℕ) → waiter (us ++ ws) n ≡ (waiter us n || waiter ws n)
waiter_append [] ws n = refl
waiter_append (u ∷ us) ws n = go (eqb u.node n) (waiter_append us ws n)
  where
    go : (b : Bool) → waiter (us ++ ws) n ≡ (waiter us n || waiter ws n) → (b || waiter (us ++ ws) n) ≡ ((b || waiter us n) || waiter ws n)
    go true h = refl
    go false h = h

asleep_append : (N : ℕ) (us ws : List Wait) (ms : List Bool) → asleep N (us ++ ws) ms ≤ tally (waiter us) N + asleep N ws ms
asleep_append N us ws ms =
    let a = tally_mono (λ n. waiter (us ++ ws) n && not (get_or ms n false)) (λ n. waiter us n || (waiter ws n && not (get_or ms n false))) N
    (λ n h. part (waiter us n) (waiter ws n) (not (get_or ms n false)) (subst (λ (b : Bool). (b && not (get_or ms n false)) ≡ true) (waiter_append us ws n) h)) in
    let b = tally_either (waiter us) (λ n. waiter ws n && not (get_or ms n false)) N in
    omega arith
  where
    part : (a b c : Bool) → ((a || b) && c) ≡ true → (a || (b && c)) ≡ true
    part true b c h = refl
    part false b c h = h

drawn_waiters : (T : ℕ → Option ℕ) (N : ℕ) (ws : List Wait) (m : ℕ) → tally (waiter ws) N ≤ drawn T N ws m
drawn_waiters T N ws m = tally_mono (waiter ws) (λ n. waiter ws n || is_of m (T n)) N (λ n h. ap (λ (b : Bool). b || is_of m (T n)) h)

module _ (T : ℕ → Option ℕ) (N : ℕ) where
  -- a net without its waits draws no more
  emptied_drawing : (k : ℕ) (e : Engine) → drawing T N (emptied k e) ≤ drawing T N e
  unfolding with_awaiting
  emptied_drawing k e =
      let a = total_most (λ m. weight T N (net_at (emptied k e) m) m) (λ m. weight T N (net_at e m) m) (length e.nets) (λ m l. go m (ℕ_discrete m k) l) in
      let b : drawing T N (emptied k e) ≡ total (λ m. weight T N (net_at (emptied k e) m) m) (length e.nets) =
      ap (total (λ m. weight T N (net_at (emptied k e) m) m)) (over_length (with_awaiting []) k e) in
      omega arith
    where
      go : (m : ℕ) → Dec (m ≡ k) → m < length e.nets → weight T N (net_at (emptied k e) m) m ≤ weight T N (net_at e m) m
      go m (yes q) l =
          let l' : k < length e.nets = omega arith in
          let s : net_at (emptied k e) m ≡ with_awaiting [] (net_at e m) =
          ap (net_at (emptied k e)) q ∙ over_same (with_awaiting []) k e l' ∙ ap (λ (i : ℕ). with_awaiting [] (net_at e i)) (sym q) in
          subst (λ (t : Net). weight T N t m ≤ weight T N (net_at e m) m) (sym s)
          (weight_less T N (net_at e m) (with_awaiting [] (net_at e m)) m (λ z. z) (λ n h. right (waiter (net_at e m).awaiting n) (is_of m (T n)) h))
        where
          right : (a b : Bool) → b ≡ true → (a || b) ≡ true
          right true b h = refl
          right false b h = h
      go m (no d) l = let s : weight T N (net_at (emptied k e) m) m ≡ weight T N (net_at e m) m = ap (λ (t : Net). weight T N t m) (over_other (with_awaiting []) k e m d) in omega arith

  -- what a net at 0 may wake it drew before
  waiters_drawn : (k : ℕ) (e e' : Engine) → Lighter e e' → (k < length e.nets → (net_at e k).pending ≢ 0) → (net_at e' k).pending ≡ 0
      → tally (waiter (net_at e' k).awaiting) N + drawing T N e' ≤ drawing T N e
  waiters_drawn k e e' h above z = go (dec_lt k (length e.nets))
    where
      go : Dec (k < length e.nets) → tally (waiter (net_at e' k).awaiting) N + drawing T N e' ≤ drawing T N e
      go (yes l) = let a = fallen_drawing T N e e' k h l (above l) z in let b = drawn_waiters T N (net_at e' k).awaiting k in omega arith
      go (no d) =
          let q = h.nets in
          let l : length e'.nets ≤ k = omega arith in
          let a = waiters_most (net_at e' k).awaiting N in
          let b : length (net_at e' k).awaiting ≡ 0 = ap (λ (t : Net). length t.awaiting) (net_out_lem k e' l) in
          let c = lighter_drawing T N e e' h in
          omega arith

  pub answer_drawing : (f : ℕ) (ws : List Wait) (x : ℕ → ℕ) (e : Engine) → e.pools.nodes ≡ N → f ≡ length ws + waits e → Good (λ j. x j + made_by j ws) e
      → length (answer f ws e).dirty.items + drawing T N (answer f ws e) ≤ length e.dirty.items + asleep N ws e.slots.marks + drawing T N e
  unfolding answer over_net with_nets
  answer_drawing zero ws x e s h g = omega arith
  answer_drawing (suc f) [] x e s h g = omega arith
  answer_drawing (suc f) (w ∷ ws) x e s h g =
      let y : ℕ → ℕ = λ j. x j + made_by j ws in
      let e₁ = wake w e in
      let k = w.net in
      let us = (net_at e₁ k).awaiting in
      let e₂ = emptied k e₁ in
      let gk : Good (bump k y) e = good_extra (λ j. x j + made_by j (w ∷ ws)) (bump k y) e (λ j. omega arith) g in
      let g₁ : Good y e₁ = wake_good y w e gk in
      let a = awaits_waits e e₁ (wake_awaits w e) in
      let b = emptied_waits k e₁ in
      let c = length-append us ws in
      let p = wake_awake (bump k y) N w ws e gk s in
      let light = wake_lighter w e in
      let d = lighter_drawing T N e e₁ light in
      let s₁ : e₁.pools.nodes ≡ N = ap (λ (q : Pools). q.nodes) (pools_kept (still_frame (wake_still w e))) ∙ s in
      let s₂ : e₂.pools.nodes ≡ N = ap (λ (q : Pools). q.nodes) (pools_kept (still_frame (awaiting_still (λ t. []) k e₁))) ∙ s₁ in
      let above : k < length e.nets → (net_at e k).pending ≢ 0 = λ l z. let q = gk.pending k l in let o : bit (eqb k k) ≡ 1 = ap bit (eqb_self k) in omega arith in
      let i₁ = answer_drawing f ws x e₁ s₁ (omega arith) g₁ in
      let i₂ = answer_drawing f (us ++ ws) x e₂ s₂ (omega arith)
      (good_extra (λ j. y j + made_by j us) (λ j. x j + made_by j (us ++ ws)) e₂ (λ j. let m = made_append j us ws in omega arith) (emptied_good y k e₁ g₁)) in
      let r = asleep_append N us ws e₁.slots.marks in
      let t = emptied_drawing k e₁ in
      go e₁ (eqb (net_at e₁ k).pending 0) refl i₁ i₂ p d r t (λ z. waiters_drawn k e e₁ light above z)
    where
      go : (e₁ : Engine) (b : Bool) → eqb (net_at e₁ w.net).pending 0 ≡ b
          → length (answer f ws e₁).dirty.items + drawing T N (answer f ws e₁) ≤ length e₁.dirty.items + asleep N ws e₁.slots.marks + drawing T N e₁
          → length (answer f ((net_at e₁ w.net).awaiting ++ ws) (emptied w.net e₁)).dirty.items + drawing T N (answer f ((net_at e₁ w.net).awaiting ++ ws) (emptied w.net e₁))
          ≤ length e₁.dirty.items + asleep N ((net_at e₁ w.net).awaiting ++ ws) e₁.slots.marks + drawing T N (emptied w.net e₁)
          → length e₁.dirty.items + asleep N ws e₁.slots.marks ≤ length e.dirty.items + asleep N (w ∷ ws) e.slots.marks
          → drawing T N e₁ ≤ drawing T N e
          → asleep N ((net_at e₁ w.net).awaiting ++ ws) e₁.slots.marks ≤ tally (waiter (net_at e₁ w.net).awaiting) N + asleep N ws e₁.slots.marks
          → drawing T N (emptied w.net e₁) ≤ drawing T N e₁
          → ((net_at e₁ w.net).pending ≡ 0 → tally (waiter (net_at e₁ w.net).awaiting) N + drawing T N e₁ ≤ drawing T N e)
          → length (elim b as (λ _. Engine) [ true ↦ answer f ((net_at e₁ w.net).awaiting ++ ws) (emptied w.net e₁) | false ↦ answer f ws e₁ ]).dirty.items
          + drawing T N (elim b as (λ _. Engine) [ true ↦ answer f ((net_at e₁ w.net).awaiting ++ ws) (emptied w.net e₁) | false ↦ answer f ws e₁ ])
          ≤ length e.dirty.items + asleep N (w ∷ ws) e.slots.marks + drawing T N e
      go e₁ true q i₁ i₂ p d r t u = let v = u (eqb-true (net_at e₁ w.net).pending 0 q) in omega arith
      go e₁ false q i₁ i₂ p d r t u = omega arith

  -- the visit ends
  pub leave_drawing : (k : ℕ) (e : Engine) → e.pools.nodes ≡ N → Good (bump k rest) e
      → length (finish_edit_net k (fewer k e)).dirty.items + drawing T N (finish_edit_net k (fewer k e)) ≤ length e.dirty.items + drawing T N e
  unfolding finish_edit_net fewer over_net with_nets
  leave_drawing k e s g =
      let e₁ = fewer k e in
      let us = (net_at e₁ k).awaiting in
      let light = fewer_lighter k e in
      let g₁ = fewer_good rest k e g in
      let above : k < length e.nets → (net_at e k).pending ≢ 0 = λ l z. let q = g.pending k l in let o : bit (eqb k k) ≡ 1 = ap bit (eqb_self k) in omega arith in
      let i = answer_drawing (waits e₁) us rest (emptied k e₁) s (emptied_waits k e₁) (emptied_good rest k e₁ g₁) in
      let d = lighter_drawing T N e e₁ light in
      let t = emptied_drawing k e₁ in
      let r = asleep_append N us [] e.slots.marks in
      let r' = none_asleep e.slots.marks N in
      go (eqb (net_at e₁ k).pending 0) refl i d t (subst (λ (ws : List Wait). asleep N ws e.slots.marks ≤ tally (waiter us) N + asleep N [] e.slots.marks) (append-nil us) r) r'
      (λ z. waiters_drawn k e e₁ light above z)
    where
      none_asleep : (ms : List Bool) (n : ℕ) → asleep n [] ms ≡ 0
      none_asleep ms zero = refl
      none_asleep ms (suc n) = let h = none_asleep ms n in omega arith

      go : (b : Bool) → eqb (net_at (fewer k e) k).pending 0 ≡ b
          → length (answer (waits (fewer k e)) (net_at (fewer k e) k).awaiting (emptied k (fewer k e))).dirty.items + drawing T N (answer (waits (fewer k e)) (net_at (fewer k e) k).awaiting (emptied k (fewer k e)))
          ≤ length e.dirty.items + asleep N (net_at (fewer k e) k).awaiting e.slots.marks + drawing T N (emptied k (fewer k e))
          → drawing T N (fewer k e) ≤ drawing T N e
          → drawing T N (emptied k (fewer k e)) ≤ drawing T N (fewer k e)
          → asleep N (net_at (fewer k e) k).awaiting e.slots.marks ≤ tally (waiter (net_at (fewer k e) k).awaiting) N + asleep N [] e.slots.marks
          → asleep N [] e.slots.marks ≡ 0
          → ((net_at (fewer k e) k).pending ≡ 0 → tally (waiter (net_at (fewer k e) k).awaiting) N + drawing T N (fewer k e) ≤ drawing T N e)
          → length (elim b as (λ _. Engine) [ true ↦ answer (waits (fewer k e)) (net_at (fewer k e) k).awaiting (emptied k (fewer k e)) | false ↦ fewer k e ]).dirty.items
          + drawing T N (elim b as (λ _. Engine) [ true ↦ answer (waits (fewer k e)) (net_at (fewer k e) k).awaiting (emptied k (fewer k e)) | false ↦ fewer k e ])
          ≤ length e.dirty.items + drawing T N e
      go true q i d t r r' u = let v = u (eqb-true (net_at (fewer k e) k).pending 0 q) in omega arith
      go false q i d t r r' u = omega arith
