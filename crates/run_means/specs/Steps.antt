-- The numbers of steps are no part of an edit's books: dead nodes go in the same way before and after a step is counted.
use Rattle.std.specs.Prelude.{ℕ, ◌+◌, ◌≡◌, Bool}
use Rattle.std.proofs.Math.Path.{refl, ap}
use Rattle.std.proofs.Common.{◌∙◌}
use Rattle.std.proofs.Math.Bool.{true, false}
use Rattle.std.proofs.Math.Option.{Option}
use mathlib.Core.List.{List, [], ◌∷◌}
use Rattle.definitions.specs.Nets.{at}
use Rattle.definitions.specs.State.{Engine, graph_of, with_slots, with_dirty, with_nets, with_steps, with_stale, net_at, over_net, fewer}
use Rattle.definitions.specs.Books.{loose, is_dirty, tighten_dirty, tighten_net, vacated, went_dirty, remove_node, finish_edit}

-- one of two engines, each with these numbers
either_steps : (l : Option ℕ) (s : ℕ) (t : Bool) (a b a' b' : Engine) → a' ≡ with_steps l s a → b' ≡ with_steps l s b
    → elim t as (λ _. Engine) [ true ↦ a' | false ↦ b' ] ≡ with_steps l s (elim t as (λ _. Engine) [ true ↦ a | false ↦ b ])
either_steps l s true a b a' b' ea eb = ea
either_steps l s false a b a' b' ea eb = eb

module _ (l : Option ℕ) (s : ℕ) where
  net_steps : (k : ℕ) (e : Engine) → tighten_net k (with_steps l s e) ≡ with_steps l s (tighten_net k e)
  unfolding tighten_net over_net with_nets net_at with_steps
  net_steps k e = refl

  dirty_steps : (k : ℕ) (e : Engine) → went_dirty k (with_steps l s e) ≡ with_steps l s (went_dirty k e)
  unfolding went_dirty tighten_dirty is_dirty fewer over_net with_nets with_dirty net_at with_steps
  dirty_steps k e =
      let e₁ = fewer k (with_dirty (with_stale (e.dirty.stale + 1) e.dirty) e) in
      either_steps l s (loose e₁.dirty) (tighten_dirty e₁) e₁ (tighten_dirty (with_steps l s e₁)) (with_steps l s e₁) refl refl

  vacated_steps : (k n : ℕ) (e : Engine) → vacated k n (with_steps l s e) ≡ with_steps l s (vacated k n e)
  unfolding vacated over_net with_nets with_slots net_at with_steps
  vacated_steps k n e = refl

  -- made tight where it is loose
  settled_steps : (k : ℕ) (e : Engine) → elim (loose (net_at (with_steps l s e) k).list) as (λ _. Engine) [ true ↦ tighten_net k (with_steps l s e) | false ↦ with_steps l s e ]
      ≡ with_steps l s (elim (loose (net_at e k).list) as (λ _. Engine) [ true ↦ tighten_net k e | false ↦ e ])
  unfolding net_at with_steps
  settled_steps k e = either_steps l s (loose (net_at e k).list) (tighten_net k e) e (tighten_net k (with_steps l s e)) (with_steps l s e) (net_steps k e) refl

  remove_steps : (e : Engine) (n : ℕ) → remove_node (with_steps l s e) n ≡ with_steps l s (remove_node e n)
  unfolding remove_node is_dirty with_steps
  remove_steps e n =
      let k = (at (graph_of e) n).net in
      let e₁ : Engine = elim (is_dirty e n) as (λ _. Engine) [ true ↦ went_dirty k (vacated k n e) | false ↦ vacated k n e ] in
      let same = either_steps l s (is_dirty e n) (went_dirty k (vacated k n e)) (vacated k n e) (went_dirty k (vacated k n (with_steps l s e))) (vacated k n (with_steps l s e))
      (ap (went_dirty k) (vacated_steps k n e) ∙ dirty_steps k (vacated k n e)) (vacated_steps k n e) in
      ap (λ (x : Engine). elim (loose (net_at x k).list) as (λ _. Engine) [ true ↦ tighten_net k x | false ↦ x ]) same ∙ settled_steps k e₁

  pub finish_steps : (dead : List ℕ) (e : Engine) → finish_edit dead (with_steps l s e) ≡ with_steps l s (finish_edit dead e)
  unfolding finish_edit
  finish_steps [] e = refl
  finish_steps (n ∷ dead) e = ap (finish_edit dead) (remove_steps e n) ∙ finish_steps dead (remove_node e n)
