-- Each turn makes less what is left: a turn without a step makes the entries and what they can still draw fewer by one, and a step is
-- one of 16,777,216.
use Rattle.std.specs.Prelude.{ℕ, ◌+◌, ◌*◌, ◌-◌, ◌≤◌, ◌≡◌, refl, Bool, true, false, List, [], ◌∷◌, ◌++◌, length, get_or}
use Rattle.std.proofs.Common.{sym, ap, ◌∙◌, subst, arith, length-append}
use Rattle.std.proofs.Math.Option.{none, some}
use Rattle.net_file.specs.Lists.{Result, ok, refuse}
use Rattle.definitions.specs.Lists.{◌>>=◌}
use Rattle.definitions.specs.Nets.{at}
use Rattle.definitions.specs.State.{Pools, Ids, Engine, graph_of, with_slots, with_dirty, with_mark, with_stale, net_at, fewer, waits}
use Rattle.definitions.specs.Books.{is_dirty, finish_edit_net}
use Rattle.definitions.specs.Visit.{Visited, acted, passed, visit}
use Rattle.definitions.specs.Run.{leave, turn, with_items}
use Rattle.engine_laws.specs.Frame.{Body, body, still_frame, pools_kept, fewer_still, finish_net_still}
use Rattle.good_laws.specs.Owners.{owners, net_of}
use Rattle.good_laws.specs.Good.{Good, bump, rest}
use Rattle.good_laws.specs.Idle.{Idle}
use Rattle.good_laws.specs.Scripts.{Visits}
use Rattle.good_laws.specs.Turned.{taken_good}
use Rattle.good_laws.specs.Turn.{is_some_lem}
use Rattle.good_laws.specs.Sound.{visiting}
use Rattle.fuel_laws.specs.Weights.{drawing, drawing_most, target}
use Rattle.fuel_laws.specs.Answered.{leave_drawing}
use Rattle.fuel_laws.specs.Passes.{targets, Passes, visit_passes}

-- the entries, and what they can still draw
abbrev pub left : Engine → ℕ
left e = length e.dirty.items + drawing (targets e) e.pools.nodes e

-- at most 4N + 4 entries, W waits and N nodes
pub left_most : (x : ℕ → ℕ) (e : Engine) → Good x e → left e ≤ 5 * e.pools.nodes + 4 + e.pools.waits
left_most x e g =
    let a = drawing_most (targets e) e.pools.nodes e in
    let b = g.dirty.room in
    let c = g.dirty.bound in
    let d = g.waiting in
    omega arith

-- the same nodes: the same nets are named
pub left_same : (e e' : Engine) → body e' ≡ body e → length e'.dirty.items + drawing (targets e) e.pools.nodes e' ≡ left e'
left_same e e' h = ap (λ (b : Body). length e'.dirty.items + drawing (target b.1 b.0.2) b.0.0.nodes e') (sym h)
