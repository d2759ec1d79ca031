-- Waits made and waits answered keep the books.
use Rattle.std.specs.Prelude.{ℕ, zero, suc, ◌+◌, ◌-◌, ◌≤◌, ◌<◌, ◌≡◌, refl, Bool, true, false, List, [], ◌∷◌, ◌++◌, map, length, get_or, eqb}
use Rattle.std.proofs.Common.{sym, ap, ◌∙◌, subst, arith, length-append}
use Rattle.std.proofs.Math.Decide.{dec_lt}
use Rattle.std.proofs.Math.Option.{Option, none, some}
use Rattle.net_file.specs.Lists.{sum}
use Rattle.definitions.specs.Nets.{Node, holds}
use Rattle.definitions.specs.State.{Net, Wait, Engine, graph_of, with_slots, with_dirty, with_mark, with_pending, with_awaiting, net_at, over_net, more, fewer, waits}
use Rattle.definitions.specs.Books.{is_dirty, push_dirty, mark_dirty, wake, answer, finish_edit_net}
use Rattle.engine_laws.specs.Frame.{either}
use Rattle.good_laws.specs.Nets.{over_part, sum_over, over_out, net_out_lem, part_at}
use Rattle.good_laws.specs.Good.{Good, made_by, waits_of, bump, good_extra}
use Rattle.good_laws.specs.Marks.{over_good, fewer_good, mark_good}
use Rattle.good_laws.specs.Answers.{wake_awaits, awaits_waits, emptied, emptied_waits, emptied_made, made_append, wake_good}

pub emptied_good : (x : ℕ → ℕ) (k : ℕ) (e : Engine) → Good x e → Good (λ j. x j + made_by j (net_at e k).awaiting) (emptied k e)
unfolding with_awaiting
emptied_good x k e g = go (dec_lt k (length e.nets))
  where
    go : Dec (k < length e.nets) → Good (λ j. x j + made_by j (net_at e k).awaiting) (emptied k e)
    go (yes l) =
        let w = emptied_waits k e in
        let v = g.waiting in
        over_good x (λ j. x j + made_by j (net_at e k).awaiting) (with_awaiting []) k e g (λ t. refl)
        (λ j h.
        let p = g.pending j h in
        let q = part_at (λ t. t.pending) e (emptied k e) (over_part (λ t. t.pending) (with_awaiting []) k e (λ t. refl)) j in
        let m = emptied_made k e l j in
        omega arith)
        (omega arith)
    go (no h) =
        let h' : length e.nets ≤ k = omega arith in
        subst (Good (λ j. x j + made_by j (net_at e k).awaiting)) (sym (over_out (with_awaiting []) k e h'))
        (good_extra x (λ j. x j + made_by j (net_at e k).awaiting) e
        (λ j. let b : made_by j (net_at e k).awaiting ≡ 0 = ap (λ (t : Net). made_by j t.awaiting) (net_out_lem k e h') in omega arith) g)

pub answer_good : (f : ℕ) (ws : List Wait) (x : ℕ → ℕ) (e : Engine) → f ≡ length ws + waits e → Good (λ j. x j + made_by j ws) e → Good x (answer f ws e)
unfolding answer
answer_good zero [] x e h g = good_extra (λ j. x j + 0) x e (λ j. omega arith) g
answer_good zero (w ∷ ws) x e h g = absurd (omega arith)
answer_good (suc f) [] x e h g = good_extra (λ j. x j + 0) x e (λ j. omega arith) g
answer_good (suc f) (w ∷ ws) x e h g =
    let y : ℕ → ℕ = λ j. x j + made_by j ws in
    let e₁ = wake w e in
    let k = w.net in
    let us = (net_at e₁ k).awaiting in
    let e₂ = emptied k e₁ in
    let g₁ : Good y e₁ = wake_good y w e (good_extra (λ j. x j + made_by j (w ∷ ws)) (bump k y) e (λ j. omega arith) g) in
    let a = awaits_waits e e₁ (wake_awaits w e) in
    let b = emptied_waits k e₁ in
    let c = length-append us ws in
    either (Good x) (eqb (net_at e₁ k).pending 0) (answer f (us ++ ws) e₂) (answer f ws e₁)
    (answer_good f (us ++ ws) x e₂ (omega arith)
    (good_extra (λ j. y j + made_by j us) (λ j. x j + made_by j (us ++ ws)) e₂ (λ j. let m = made_append j us ws in omega arith) (emptied_good y k e₁ g₁)))
    (answer_good f ws x e₁ (omega arith) g₁)

pub finish_net_good : (x : ℕ → ℕ) (k : ℕ) (e : Engine) → Good x e → Good x (finish_edit_net k e)
unfolding finish_edit_net
finish_net_good x k e g =
    either (Good x) (eqb (net_at e k).pending 0) (answer (waits e) (net_at e k).awaiting (emptied k e)) e
    (answer_good (waits e) (net_at e k).awaiting x (emptied k e) (emptied_waits k e) (emptied_good x k e g)) g
