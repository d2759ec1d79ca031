-- Waits made and waits answered keep the books.
use Rattle.std.specs.Prelude.{ℕ, zero, suc, ◌+◌, ◌-◌, ◌≤◌, ◌<◌, ◌≡◌, refl, Bool, true, false, List, [], ◌∷◌, ◌++◌, map, length, get_or, eqb}
use Rattle.std.proofs.Common.{sym, ap, ◌∙◌, subst, arith, length-append}
use Rattle.std.proofs.Math.Decide.{dec_lt}
use Rattle.std.proofs.Math.Option.{Option, none, some}
use Rattle.net_file.specs.Lists.{sum}
use Rattle.definitions.specs.Nets.{Node, holds}
use Rattle.definitions.specs.State.{Net, Wait, Engine, graph_of, with_slots, with_dirty, with_mark, with_pending, with_awaiting, net_at, over_net, more, fewer, waits}
use Rattle.definitions.specs.Books.{is_dirty, push_dirty, mark_dirty, wake, answer, finish_edit_net}
use Rattle.engine_laws.specs.Frame.{either}
use Rattle.good_laws.specs.Nets.{over_part, sum_over, over_out, net_out_lem, part_at}
use Rattle.good_laws.specs.Good.{Good, made_by, waits_of, bump, good_extra}
use Rattle.good_laws.specs.Marks.{over_good, fewer_good, mark_good}

-- ---- marks and pending numbers leave the waits alone

-- the waits on each net
abbrev pub awaits : Engine → List (List Wait)
awaits e = map (λ t. t.awaiting) e.nets

pub more_awaits : (k : ℕ) (e : Engine) → awaits (more k e) ≡ awaits e
unfolding more with_pending
more_awaits k e = over_part (λ t. t.awaiting) (λ n. with_pending (n.pending + 1) n) k e (λ t. refl)

pub fewer_awaits : (k : ℕ) (e : Engine) → awaits (fewer k e) ≡ awaits e
unfolding fewer with_pending
fewer_awaits k e = over_part (λ t. t.awaiting) (λ n. with_pending (n.pending - 1) n) k e (λ t. refl)

pub mark_awaits : (n : ℕ) (e : Engine) → awaits (mark_dirty n e) ≡ awaits e
unfolding mark_dirty push_dirty with_mark with_slots with_dirty
mark_awaits n e = go (get_or (graph_of e) n none) (is_dirty e n)
  where
    go : (o : Option Node) (t : Bool) → awaits (elim o as (λ _. Engine) [
      | none ↦ e
      | some x ↦ elim t as (λ _. Engine) [ true ↦ e | false ↦ more x.net (push_dirty n (with_mark n true e)) ]
    ]) ≡ awaits e
    go none t = refl
    go (some x) true = refl
    go (some x) false = more_awaits x.net (push_dirty n (with_mark n true e))

pub wake_awaits : (w : Wait) (e : Engine) → awaits (wake w e) ≡ awaits e
unfolding wake
wake_awaits w e =
    fewer_awaits w.net (elim (holds (graph_of e) w.net w.node) as (λ _. Engine) [ true ↦ mark_dirty w.node e | false ↦ e ])
    ∙ either (λ d. awaits d ≡ awaits e) (holds (graph_of e) w.net w.node) (mark_dirty w.node e) e (mark_awaits w.node e) refl

waits_by : (ts : List Net) → sum (map (λ t. length t.awaiting) ts) ≡ sum (map length (map (λ t. t.awaiting) ts))
waits_by [] = refl
waits_by (t ∷ ts) = ap (λ (k : ℕ). length t.awaiting + k) (waits_by ts)

pub awaits_waits : (e e' : Engine) → awaits e' ≡ awaits e → waits e' ≡ waits e
unfolding waits
awaits_waits e e' h = waits_by e'.nets ∙ ap (λ (l : List (List Wait)). sum (map length l)) h ∙ sym (waits_by e.nets)

-- ---- a net's waits are taken off it

abbrev pub emptied : ℕ → Engine → Engine
emptied k e = over_net (with_awaiting []) k e

pub emptied_waits : (k : ℕ) (e : Engine) → waits e ≡ length (net_at e k).awaiting + waits (emptied k e)
unfolding waits with_awaiting
emptied_waits k e = go (dec_lt k (length e.nets))
  where
    go : Dec (k < length e.nets) → waits e ≡ length (net_at e k).awaiting + waits (emptied k e)
    go (yes l) = let s = sum_over (λ t. length t.awaiting) (with_awaiting []) k e l in omega arith
    go (no h) =
        let h' : length e.nets ≤ k = omega arith in
        let a : waits (emptied k e) ≡ waits e = ap waits (over_out (with_awaiting []) k e h') in
        let b : length (net_at e k).awaiting ≡ 0 = ap (λ (t : Net). length t.awaiting) (net_out_lem k e h') in
        omega arith

pub emptied_made : (k : ℕ) (e : Engine) → k < length e.nets → (j : ℕ) → waits_of e.nets j ≡ made_by j (net_at e k).awaiting + waits_of (emptied k e).nets j
unfolding with_awaiting
emptied_made k e l j = let s = sum_over (λ t. made_by j t.awaiting) (with_awaiting []) k e l in omega arith

-- ---- answers

pub made_append : (j : ℕ) (us ws : List Wait) → made_by j (us ++ ws) ≡ made_by j us + made_by j ws
made_append j [] ws = omega arith
made_append j (u ∷ us) ws = let h = made_append j us ws in omega arith

pub wake_good : (y : ℕ → ℕ) (w : Wait) (e : Engine) → Good (bump w.net y) e → Good y (wake w e)
unfolding wake
wake_good y w e g =
    fewer_good y w.net (elim (holds (graph_of e) w.net w.node) as (λ _. Engine) [ true ↦ mark_dirty w.node e | false ↦ e ])
    (either (Good (bump w.net y)) (holds (graph_of e) w.net w.node) (mark_dirty w.node e) e (mark_good (bump w.net y) w.node e g) g)
