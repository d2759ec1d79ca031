-- What a function of the crate leaves on each way out, and one turn of each loop, in the words of its tests and calls.
use Rattle.std.specs.Prelude.{ℕ, zero, suc, ◌+◌, ◌-◌, ◌<◌, ◌≤◌, ◌≡◌, refl, List, get_or, set}
use Rattle.std.proofs.Common.{not-suc-le-zero, sub-one}
use Rattle.words.specs.Choose.{eq_yes, eq_no, lt_yes, lt_no}
use Rattle.fields.specs.Fields.{be16}
use Rattle.ends.specs.Ends.{on}
use Rattle.layout.specs.Layout.{next}
use Rattle.graph.specs.Graph.{link}
use Rattle.wire_ends.specs.WireEnds.{Joined, canonical, join_wire, join_wires, put_pairs}

pub own_wire : (wires : List ℕ) (w v : ℕ) → v ≡ get_or wires w 0 → v < 2147483648 → w ≡ canonical wires w
unfolding canonical
own_wire wires w v ev h = lt_yes _ _ _ _ (rw (← ev) h) refl

pub smaller_wire : (wires : List ℕ) (w v : ℕ) → v ≡ get_or wires w 0 → 2147483648 ≤ v → v - 2147483648 ≡ canonical wires w
unfolding canonical
smaller_wire wires w v ev h = lt_no _ _ _ _ (rw (← ev) h) (rw ev)

pub wire_opens : (ws wires t : List ℕ) (w p c first : ℕ) → c ≡ canonical wires w → first ≡ get_or wires c 0 → first ≡ 0 → t ≡ set wires c p
    → record { ws = ws; wires = t } ≡ join_wire ws wires w p
unfolding join_wire
wire_opens ws wires t w p c first ec ef z et = rw (← ec) (eq_yes _ _ _ _ (rw (← ef) z) (rw et))

pub wire_joins : (ws wires t x : List ℕ) (w p c first : ℕ) → c ≡ canonical wires w → first ≡ get_or wires c 0 → (first ≡ 0 → ⊥) → t ≡ set wires c 0
    → x ≡ link ws p first → record { ws = x; wires = t } ≡ join_wire ws wires w p
unfolding join_wire
wire_joins ws wires t x w p c first ec ef z et ex = rw (← ec) (eq_no _ _ _ _ (λ e. z (rw ef e)) (rw (et, ex, ef)))

pub wires_more : (ws wires file w t : List ℕ) (at a p q b k : ℕ) (x : Joined) → join_wires ws wires file at p k ≡ x → 0 < k → b ≡ be16 file at
    → w ≡ (join_wire ws wires b p).ws → t ≡ (join_wire ws wires b p).wires → a ≡ on file at 2 → q ≡ next p → join_wires w t file a q (k - 1) ≡ x
unfolding join_wires
wires_more ws wires file w t at a p q b zero x e h eb ew et ea eq = absurd (not-suc-le-zero h)
wires_more ws wires file w t at a p q b (suc k) x e h eb ew et ea eq = rw (sub-one, ew, et, ea, eq, eb) e

pub wires_done : (ws wires file : List ℕ) (at p k : ℕ) (x : Joined) → join_wires ws wires file at p k ≡ x → k ≤ 0 → record { ws = ws; wires = wires } ≡ x
unfolding join_wires
wires_done ws wires file at p zero x e h = e
wires_done ws wires file at p (suc k) x e h = absurd (not-suc-le-zero h)

pub pairs_more : (wires file t x : List ℕ) (at a b c k : ℕ) → put_pairs wires file at k ≡ x → 0 < k → a ≡ be16 file at → b ≡ be16 file (at + 2)
    → t ≡ set wires b (2147483648 + a) → c ≡ on file at 4 → put_pairs t file c (k - 1) ≡ x
unfolding put_pairs
pairs_more wires file t x at a b c zero e h ea eb et ec = absurd (not-suc-le-zero h)
pairs_more wires file t x at a b c (suc k) e h ea eb et ec = rw (sub-one, et, ec, ea, eb) e

pub pairs_done : (wires file x : List ℕ) (at k : ℕ) → put_pairs wires file at k ≡ x → k ≤ 0 → wires ≡ x
unfolding put_pairs
pairs_done wires file x at zero e h = e
pairs_done wires file x at (suc k) e h = absurd (not-suc-le-zero h)
