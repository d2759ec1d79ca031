-- Every wait names a slot and a net that are there: waits made and waits answered keep that.
use Prim.Native.Nat.{ℕ, zero, suc, ◌<◌}
use Rattle.std.specs.Prelude.{◌≡◌, ◌⊎◌, length, eqb}
use Rattle.std.proofs.Common.{sym, ap, ◌∙◌, inl, inr, arith}
use Rattle.std.proofs.Math.Path.{subst}
use mathlib.Core.List.Memᴰ
use mathlib.Core.List.{List, [], ◌∷◌, ◌++◌, Memᴰ}
use Rattle.std.proofs.lemmas.List.{length-map}
use Rattle.std.proofs.Math.Decide.{ℕ_discrete, dec_lt}
use Rattle.definitions.specs.State.{Net, Wait, Engine, with_awaiting, net_at, over_net, more, waits}
use Rattle.definitions.specs.Books.{wake, answer, finish_edit_net}
use Rattle.engine_laws.specs.Frame.{either}
use Rattle.good_laws.specs.Nets.{part_at, over_same, over_other, over_out}
use Rattle.good_laws.specs.Answers.{awaits, emptied, more_awaits, wake_awaits}

-- each names one of N slots and one of M nets
abbrev pub Waiters : ℕ → ℕ → List Wait → Type 0
Waiters N M ws = (w : Wait) → Memᴰ w ws → (w.node < N) × (w.net < M)

-- all waits of an engine
abbrev pub Waited : ℕ → ℕ → Engine → Type 0
Waited N M e = (k : ℕ) → Waiters N M (net_at e k).awaiting

-- as many nets, where each has its waits
pub awaits_length : (e e' : Engine) → awaits e' ≡ awaits e → length e'.nets ≡ length e.nets
awaits_length e e' h = sym (length-map e'.nets (λ t. t.awaiting)) ∙ ap (λ (l : List (List Wait)). length l) h ∙ length-map e.nets (λ t. t.awaiting)

module _ (N M : ℕ) where
  pub waiters_append : (us ws : List Wait) → Waiters N M us → Waiters N M ws → Waiters N M (us ++ ws)
  waiters_append us ws a b w m = go (Memᴰ.append_cases us m)
    where
      go : Memᴰ w us ⊎ Memᴰ w ws → (w.node < N) × (w.net < M)
      go (inl i) = a w i
      go (inr i) = b w i

  -- what leaves the waits alone
  pub waited_same : (e e' : Engine) → awaits e' ≡ awaits e → Waited N M e → Waited N M e'
  waited_same e e' s h k w m = h k w (subst (Memᴰ w) (part_at (λ t. t.awaiting) e e' s k) m)

  -- other waits on net k
  pub waited_over : (f : Net → Net) (k : ℕ) (e : Engine) → Waiters N M (f (net_at e k)).awaiting → Waited N M e → Waited N M (over_net f k e)
  waited_over f k e new h j w m = go (ℕ_discrete j k) (dec_lt k (length e.nets))
    where
      go : Dec (j ≡ k) → Dec (k < length e.nets) → (w.node < N) × (w.net < M)
      go (no d) l = h j w (subst (λ (t : Net). Memᴰ w t.awaiting) (over_other f k e j d) m)
      go (yes s) (yes l) = new w (subst (λ (t : Net). Memᴰ w t.awaiting) (ap (net_at (over_net f k e)) s ∙ over_same f k e l) m)
      go (yes s) (no l) = h j w (subst (λ (d : Engine). Memᴰ w (net_at d j).awaiting) (over_out f k e (omega arith)) m)

  -- node n of net k waits on net m
  pub await_waited : (m n k : ℕ) (e : Engine) → n < N → k < M → Waited N M e
      → Waited N M (more k (over_net (λ t. with_awaiting (t.awaiting ++ record { node = n; net = k } ∷ []) t) m e))
  unfolding with_awaiting
  await_waited m n k e i j a =
      let e₁ = over_net (λ t. with_awaiting (t.awaiting ++ record { node = n; net = k } ∷ []) t) m e in
      waited_same e₁ (more k e₁) (more_awaits k e₁)
      (waited_over (λ t. with_awaiting (t.awaiting ++ record { node = n; net = k } ∷ []) t) m e
      (waiters_append (net_at e m).awaiting (record { node = n; net = k } ∷ []) (a m)
      (λ w q. subst (λ (v : Wait). (v.node < N) × (v.net < M)) (sym (Memᴰ.eq_of_singleton q)) (i, j))) a)

  pub emptied_waited : (k : ℕ) (e : Engine) → Waited N M e → Waited N M (emptied k e)
  unfolding with_awaiting
  emptied_waited k e h = waited_over (with_awaiting []) k e (λ w m. absurd (Memᴰ.not-nil m)) h

  pub wake_waited : (w : Wait) (e : Engine) → Waited N M e → Waited N M (wake w e)
  wake_waited w e h = waited_same e (wake w e) (wake_awaits w e) h

  answer_waited : (f : ℕ) (ws : List Wait) (e : Engine) → Waited N M e → Waited N M (answer f ws e)
  unfolding answer
  answer_waited zero ws e h = h
  answer_waited (suc f) [] e h = h
  answer_waited (suc f) (w ∷ ws) e h =
      let e₁ = wake w e in
      let e₂ = emptied w.net e₁ in
      either (Waited N M) (eqb (net_at e₁ w.net).pending 0) (answer f ((net_at e₁ w.net).awaiting ++ ws) e₂) (answer f ws e₁)
      (answer_waited f ((net_at e₁ w.net).awaiting ++ ws) e₂ (emptied_waited w.net e₁ (wake_waited w e h)))
      (answer_waited f ws e₁ (wake_waited w e h))

  pub finish_waited : (k : ℕ) (e : Engine) → Waited N M e → Waited N M (finish_edit_net k e)
  unfolding finish_edit_net
  finish_waited k e h =
      either (Waited N M) (eqb (net_at e k).pending 0) (answer (waits e) (net_at e k).awaiting (emptied k e)) e
      (answer_waited (waits e) (net_at e k).awaiting (emptied k e) (emptied_waited k e h)) h
