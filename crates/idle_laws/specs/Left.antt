-- The visit ends and waits are answered: a node whose wait is taken is marked.
use Prim.Native.Nat.{ℕ, zero, suc, ◌+◌, ◌≤◌, ◌<◌}
use Rattle.std.specs.Prelude.{◌≡◌, refl, ◌≢◌, ◌⊎◌, Bool, get_or, eqb}
use Rattle.std.proofs.Common.{sym, ap, ◌∙◌, subst, arith, true≢false, length-append}
use Rattle.std.proofs.Math.Logic.{inl, inr}
use Rattle.std.proofs.Math.Decide.{ℕ_discrete}
use Rattle.std.proofs.Math.Bool.{true, false}
use Rattle.std.proofs.Math.Option.{Option, none, some}
use mathlib.Core.List.Memᴰ
use mathlib.Core.List.{List, [], ◌∷◌, ◌++◌, Memᴰ, append-nil}
use Rattle.std.proofs.Math.ListN.{length}
use Rattle.dirty_laws.specs.Tests.{eqb_self}
use Rattle.definitions.specs.Lists.{is_some, or_else}
use Rattle.definitions.specs.Nets.{Graph, at, filled, holds}
use Rattle.definitions.specs.State.{Net, Wait, Engine, graph_of, with_nets, with_awaiting, net_at, over_net, fewer, waits}
use Rattle.definitions.specs.Books.{is_dirty, mark_dirty, wake, answer, finish_edit_net}
use Rattle.engine_laws.specs.Frame.{either, still_graph, fewer_still, wake_still, finish_net_still, awaiting_still}
use Rattle.join_laws.specs.Ports.{Frame, no_frame, in_net, frame, filled_frame, net_frame, holds_frame}
use Rattle.good_laws.specs.Nets.{over_other, part_at}
use Rattle.good_laws.specs.Answers.{fewer_awaits, wake_awaits, awaits_waits, emptied, emptied_waits}
use Rattle.idle_laws.specs.Mirror.{Sized, mark_clean, mark_length}
use Rattle.idle_laws.specs.Placed.{wait_of, waits_on, Placed, placed_more}

-- ---- marks stay

fewer_marks : (k : ℕ) (e : Engine) → (fewer k e).slots.marks ≡ e.slots.marks
unfolding fewer over_net with_nets
fewer_marks k e = refl

emptied_marks : (k : ℕ) (e : Engine) → (emptied k e).slots.marks ≡ e.slots.marks
unfolding over_net with_nets
emptied_marks k e = refl

dirty_same : (e e' : Engine) → e'.slots.marks ≡ e.slots.marks → (x : ℕ) → is_dirty e' x ≡ is_dirty e x
unfolding is_dirty
dirty_same e e' q x = ap (λ (ms : List Bool). get_or ms x false) q

-- an answered wait marks its node
wake_clean : (v : Wait) (e : Engine) (x : ℕ) → is_dirty (wake v e) x ≡ false → (is_dirty e x ≡ false) × (holds (graph_of e) v.net v.node ≡ true → filled (graph_of e) x ≡ true → x < length e.slots.marks → x ≢ v.node)
unfolding wake
wake_clean v e x = go (holds (graph_of e) v.net v.node) refl
  where
    go : (t : Bool) → holds (graph_of e) v.net v.node ≡ t → is_dirty (fewer v.net (elim t as (λ _. Engine) [ true ↦ mark_dirty v.node e | false ↦ e ])) x ≡ false
        → (is_dirty e x ≡ false) × (holds (graph_of e) v.net v.node ≡ true → filled (graph_of e) x ≡ true → x < length e.slots.marks → x ≢ v.node)
    go true q h =
        let c = mark_clean v.node e x (sym (dirty_same (mark_dirty v.node e) (fewer v.net (mark_dirty v.node e)) (fewer_marks v.net (mark_dirty v.node e)) x) ∙ h) in
        (c.0, λ _. c.1)
    go false q h = (sym (dirty_same e (fewer v.net e) (fewer_marks v.net e) x) ∙ h, λ t f l s. true≢false (sym t ∙ q))

wake_length : (v : Wait) (e : Engine) → length (wake v e).slots.marks ≡ length e.slots.marks
unfolding wake
wake_length v e =
    ap length (fewer_marks v.net (elim (holds (graph_of e) v.net v.node) as (λ _. Engine) [ true ↦ mark_dirty v.node e | false ↦ e ]))
    ∙ either (λ (d : Engine). length d.slots.marks ≡ length e.slots.marks) (holds (graph_of e) v.net v.node) (mark_dirty v.node e) e (mark_length v.node e) refl

answer_clean : (f : ℕ) (ws : List Wait) (e : Engine) (x : ℕ) → is_dirty (answer f ws e) x ≡ false → is_dirty e x ≡ false
unfolding answer
answer_clean zero ws e x h = h
answer_clean (suc f) [] e x h = h
answer_clean (suc f) (w ∷ ws) e x h =
    let e₁ = wake w e in
    either (λ (d : Engine). is_dirty d x ≡ false → is_dirty e x ≡ false) (eqb (net_at e₁ w.net).pending 0) (answer f ((net_at e₁ w.net).awaiting ++ ws) (emptied w.net e₁)) (answer f ws e₁)
    (λ h. (wake_clean w e x (sym (dirty_same e₁ (emptied w.net e₁) (emptied_marks w.net e₁) x) ∙ answer_clean f ((net_at e₁ w.net).awaiting ++ ws) (emptied w.net e₁) x h)).0)
    (λ h. (wake_clean w e x (answer_clean f ws e₁ x h)).0) h

-- ---- waits

-- a node is held by its own net
own_holds : (g : Graph) (a : ℕ) → filled g a ≡ true → holds g (at g a).net a ≡ true
own_holds g a f = holds_frame g a (at g a).net ∙ go (frame g a) (sym (filled_frame g a) ∙ f) (net_frame g a)
  where
    go : (o : Option Frame) → is_some o ≡ true → (at g a).net ≡ (or_else o no_frame).net → in_net (at g a).net o ≡ true
    go none x y = absurd (true≢false (sym x))
    go (some x) y z = ap (eqb x.net) z ∙ eqb_self x.net

-- waits on net m when those on net k are taken
taken_wait : (k m : ℕ) (e : Engine) (v : Wait) (ws : List Wait) → Memᴰ v (waits_on e m) ⊎ Memᴰ v ws → Memᴰ v (waits_on (emptied k e) m) ⊎ Memᴰ v (waits_on e k ++ ws)
taken_wait k m e v ws (inr i) = inr (Memᴰ.append_right (waits_on e k) i)
taken_wait k m e v ws (inl i) = go (ℕ_discrete m k)
  where
    go : Dec (m ≡ k) → Memᴰ v (waits_on (emptied k e) m) ⊎ Memᴰ v (waits_on e k ++ ws)
    go (yes q) = inr (Memᴰ.append_left ws (subst (λ (j : ℕ). Memᴰ v (waits_on e j)) q i))
    go (no d) = inl (subst (Memᴰ v) (sym (ap (λ (t : Net). t.awaiting) (over_other (with_awaiting []) k e m d))) i)

module _ (g : Graph) (a m : ℕ) (f : filled g a ≡ true) where
  abbrev w : Wait
  w = wait_of g a

  -- the wait is on net m, or among those to be answered: it stays, or a is marked
  answer_wait : (n : ℕ) (ws : List Wait) (e : Engine) → graph_of e ≡ g → a < length e.slots.marks → length ws + waits e ≤ n
      → Memᴰ w (waits_on e m) ⊎ Memᴰ w ws → is_dirty (answer n ws e) a ≡ false → Memᴰ w (waits_on (answer n ws e) m)
  unfolding answer
  answer_wait zero [] e q l b (inl i) c = i
  answer_wait zero [] e q l b (inr i) c = absurd (Memᴰ.not-nil i)
  answer_wait zero (v ∷ ws) e q l b i c = absurd (omega arith)
  answer_wait (suc n) [] e q l b (inl i) c = i
  answer_wait (suc n) [] e q l b (inr i) c = absurd (Memᴰ.not-nil i)
  answer_wait (suc n) (v ∷ ws) e q l b i c =
      let e₁ = wake v e in
      go e₁ (still_graph (wake_still v e) ∙ q) (let z = wake_length v e in omega arith) (awaits_waits e e₁ (wake_awaits v e)) (λ t. (wake_clean v e a t).1) (moved i)
      (eqb (net_at e₁ v.net).pending 0) (λ us d. answer_wait n us d) c
    where
      -- on net m as before; or it is v; or it is still to be answered
      moved : Memᴰ w (waits_on e m) ⊎ Memᴰ w (v ∷ ws) → Memᴰ w (waits_on (wake v e) m) ⊎ ((w ≡ v) ⊎ Memᴰ w ws)
      moved (inl j) = inl (subst (Memᴰ w) (sym (part_at (λ t. t.awaiting) e (wake v e) (wake_awaits v e) m)) j)
      moved (inr j) = inr (Memᴰ.cases_cons j)

      rest : (e₁ : Engine) → is_dirty e₁ a ≡ false → (is_dirty e₁ a ≡ false → holds (graph_of e) v.net v.node ≡ true → filled (graph_of e) a ≡ true → a < length e.slots.marks → a ≢ v.node)
          → Memᴰ w (waits_on e₁ m) ⊎ ((w ≡ v) ⊎ Memᴰ w ws) → Memᴰ w (waits_on e₁ m) ⊎ Memᴰ w ws
      rest e₁ t h (inl j) = inl j
      rest e₁ t h (inr (inr j)) = inr j
      rest e₁ t h (inr (inl s)) = absurd
          (h t (ap (λ (u : Wait). holds (graph_of e) u.net u.node) (sym s) ∙ ap (λ (k : Graph). holds k (at g a).net a) q ∙ own_holds g a f)
          (ap (λ (k : Graph). filled k a) q ∙ f) l (ap (λ (u : Wait). u.node) s))

      go : (e₁ : Engine) → graph_of e₁ ≡ g → a < length e₁.slots.marks → waits e₁ ≡ waits e
          → (is_dirty e₁ a ≡ false → holds (graph_of e) v.net v.node ≡ true → filled (graph_of e) a ≡ true → a < length e.slots.marks → a ≢ v.node)
          → Memᴰ w (waits_on e₁ m) ⊎ ((w ≡ v) ⊎ Memᴰ w ws) → (t : Bool)
          → ((us : List Wait) (d : Engine) → graph_of d ≡ g → a < length d.slots.marks → length us + waits d ≤ n → Memᴰ w (waits_on d m) ⊎ Memᴰ w us → is_dirty (answer n us d) a ≡ false → Memᴰ w (waits_on (answer n us d) m))
          → is_dirty (elim t as (λ _. Engine) [ true ↦ answer n ((net_at e₁ v.net).awaiting ++ ws) (emptied v.net e₁) | false ↦ answer n ws e₁ ]) a ≡ false
          → Memᴰ w (waits_on (elim t as (λ _. Engine) [ true ↦ answer n ((net_at e₁ v.net).awaiting ++ ws) (emptied v.net e₁) | false ↦ answer n ws e₁ ]) m)
      go e₁ q₁ l₁ s h i true r t =
          let us = (net_at e₁ v.net).awaiting ++ ws in
          let d = emptied v.net e₁ in
          let x = emptied_waits v.net e₁ in
          let y = length-append (net_at e₁ v.net).awaiting ws in
          let c₁ : is_dirty e₁ a ≡ false = sym (dirty_same e₁ d (emptied_marks v.net e₁) a) ∙ answer_clean n us d a t in
          r us d (still_graph (awaiting_still (λ _. []) v.net e₁) ∙ q₁) (subst (λ (ms : List Bool). a < length ms) (sym (emptied_marks v.net e₁)) l₁) (omega arith) (taken_wait v.net m e₁ w ws (rest e₁ c₁ h i)) t
      go e₁ q₁ l₁ s h i false r t = r ws e₁ q₁ l₁ (omega arith) (rest e₁ (answer_clean n ws e₁ a t) h i) t

  finish_wait : (k : ℕ) (e : Engine) → graph_of e ≡ g → a < length e.slots.marks → Memᴰ w (waits_on e m) → is_dirty (finish_edit_net k e) a ≡ false → Memᴰ w (waits_on (finish_edit_net k e) m)
  unfolding finish_edit_net
  finish_wait k e q l i = go (eqb (net_at e k).pending 0)
    where
      go : (t : Bool) → is_dirty (elim t as (λ _. Engine) [ true ↦ answer (waits e) (net_at e k).awaiting (emptied k e) | false ↦ e ]) a ≡ false
          → Memᴰ w (waits_on (elim t as (λ _. Engine) [ true ↦ answer (waits e) (net_at e k).awaiting (emptied k e) | false ↦ e ]) m)
      go true c =
          let x = emptied_waits k e in
          answer_wait (waits e) (net_at e k).awaiting (emptied k e) (still_graph (awaiting_still (λ _. []) k e) ∙ q) (subst (λ (ms : List Bool). a < length ms) (sym (emptied_marks k e)) l) (omega arith) (first (taken_wait k m e w [] (inl i))) c
        where
          first : Memᴰ w (waits_on (emptied k e) m) ⊎ Memᴰ w (waits_on e k ++ []) → Memᴰ w (waits_on (emptied k e) m) ⊎ Memᴰ w (waits_on e k)
          first (inl j) = inl j
          first (inr j) = inr (subst (Memᴰ w) (append-nil (waits_on e k)) j)
      go false c = i

finish_clean : (k : ℕ) (e : Engine) (x : ℕ) → is_dirty (finish_edit_net k e) x ≡ false → is_dirty e x ≡ false
unfolding finish_edit_net
finish_clean k e x =
    either (λ (d : Engine). is_dirty d x ≡ false → is_dirty e x ≡ false) (eqb (net_at e k).pending 0) (answer (waits e) (net_at e k).awaiting (emptied k e)) e
    (λ h. sym (dirty_same e (emptied k e) (emptied_marks k e) x) ∙ answer_clean (waits e) (net_at e k).awaiting (emptied k e) x h) (λ h. h)

-- the visit has ended
pub leave_placed : (Skip : ℕ → Type 0) (k : ℕ) (e : Engine) → Sized e → Placed Skip e → Placed Skip (finish_edit_net k (fewer k e))
leave_placed Skip k e z = placed_more Skip e (finish_edit_net k (fewer k e)) (finish_net_still k (fewer k e) ∙ fewer_still k e)
    (λ x c. sym (dirty_same e (fewer k e) (fewer_marks k e) x) ∙ finish_clean k (fewer k e) x c)
    (λ a m f c i.
    finish_wait (graph_of e) a m f k (fewer k e) (still_graph (fewer_still k e)) (subst (λ (ms : List Bool). a < length ms) (sym (fewer_marks k e)) (z a f))
    (subst (Memᴰ (wait_of (graph_of e) a)) (sym (part_at (λ t. t.awaiting) e (fewer k e) (fewer_awaits k e) m)) i) c)
