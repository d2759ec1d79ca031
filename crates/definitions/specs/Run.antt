-- Level Engine, 5: the run. Document 01: "A slice of n runs with the smaller of n and the limit left".
use Rattle.std.specs.Prelude.{ℕ, zero, suc, ◌-◌, ◌^◌, Bool, true, false, ◌||◌, List, eqb}
use Rattle.std.proofs.Math.Option.{Option, none, some}
use Rattle.net_file.specs.Lists.{Result, ok, refuse}
use Rattle.definitions.specs.Lists.{◌>>=◌, unsnoc}
use Rattle.definitions.specs.Nets.{at}
use Rattle.definitions.specs.State.{Ids, Engine, graph_of, with_dirty, with_mark, with_stale, fewer}
use Rattle.definitions.specs.Books.{is_dirty, finish_edit_net}
use Rattle.definitions.specs.Visit.{Visited, acted, passed, less_one, visit}

-- the visit has ended: the node visited counts no more in its net k
unfoldable pub leave : ℕ → Visited → Visited
leave k (acted e) = acted (finish_edit_net k (fewer k e))
leave k (passed e) = passed (finish_edit_net k (fewer k e))

-- an entry taken from the dirty list: a live one is visited, "a stale entry is dropped"
unfoldable pub turn : ℕ → Engine → Result Visited
turn n e = elim (is_dirty e n) [
  | true ↦ visit n (with_mark n false e) >>= λ v. ok (leave (at (graph_of e) n).net v)
  | false ↦ ok (passed (with_dirty (with_stale (e.dirty.stale - 1) e.dirty) e))
]

-- the dirty list with these entries
unfoldable pub with_items : List ℕ → Engine → Engine
with_items ns e = with_dirty (record { items = ns; capacity = e.dirty.capacity; stale = e.dirty.stale }) e

-- no steps over; a none never is
unfoldable pub spent : Option ℕ → Bool
spent none = false
spent (some n) = eqb n 0

-- "Dirty entries are taken last first", while slice and limit have steps: the others, and the last
unfoldable pub next : Option ℕ → Engine → Option (List ℕ × ℕ)
next n e = elim (spent n || spent e.limit) [ true ↦ none | false ↦ unsnoc e.dirty.items ]

-- the loop. Out of fuel it answers 0, which is no refusal: `fuel` lasts for every slice
unfoldable pub run : ℕ → Option ℕ → Engine → Result Engine
run zero n e = refuse 0
run (suc f) n e = elim (next n e) [
  | none ↦ ok e
  | some p ↦ turn p.1 (with_items p.0 e) >>= λ v. elim v [ acted e' ↦ run f (less_one n) e' | passed e' ↦ run f n e' ]
]

-- more turns than any run takes: a turn takes an entry that was pushed. The load and each of 2^24 steps push at most N ≤ 2^12;
-- each of 2^8 nets comes to 0 once, and then answers at most W ≤ 2^12 waits. That is below 2^37
unfoldable pub fuel : ℕ
fuel = 2 ^ 40

-- the engine after a slice, and "the number deducted"
unfoldable pub run_slice : Option ℕ → Engine → Result (Engine × ℕ)
run_slice n e = run fuel n e >>= λ e'. ok (e', e'.steps - e.steps)
