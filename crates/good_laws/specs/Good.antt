-- The books of a run agree: slots and their chain, marks, lists, pending numbers, waits. Document 01, the conditions of the
-- resumable image: "every vacant slot once in the free chain, list lengths, stale counts (under half a nonzero capacity) and
-- pending counts that agree with what is stored, a dirty capacity within 4N + 4". Ports and wires are no part of it.
use Rattle.std.specs.Prelude.{ℕ, ◌+◌, ◌≤◌, ◌<◌, ◌≡◌, Bool, true, false, ◌&&◌, length, get_or, eqb}
use Rattle.std.proofs.Math.Option.{Option, none, some}
use mathlib.Core.List.{List, [], ◌∷◌, map, Memᴰ}
use Rattle.std.proofs.Common.{arith}
use Rattle.net_file.specs.Lists.{bit, count, sum}
use Rattle.net_file.specs.Values.{max_steps}
use Rattle.definitions.specs.Lists.{is_some}
use Rattle.definitions.specs.State.{Net, Wait, Engine, graph_of, net_at, waits, entries}
use Rattle.dirty_laws.specs.Tally.{tally}
use Rattle.dirty_laws.specs.Listed.{Listed}
use Rattle.good_laws.specs.Owners.{owners, is_of}

-- no number twice
abbrev pub Once : List ℕ → Type 0
Once [] = Unit {0}
Once (n ∷ ns) = (Memᴰ n ns → ⊥) × Once ns

-- N slots and M nets: each slot is vacant or some net's; marked ones are filled; the chain has vacant slots, each once, and as many
-- as there are
pub record Slotted (N M : ℕ) (own : List (Option ℕ)) (marks : List Bool) (chain : List ℕ) : Type 0 where
  pub slots : length own ≡ N
  pub sized : length marks ≡ N
  pub marked : (n : ℕ) → get_or marks n false ≡ true → is_some (get_or own n none) ≡ true
  pub owned : (n k : ℕ) → get_or own n none ≡ some k → k < M
  pub vacant : (n : ℕ) → Memᴰ n chain → (n < N) × (get_or own n none ≡ none)
  pub once : Once chain
  pub all : length chain + count is_some own ≡ N

-- a number is live in net k's list while its slot holds a node of net k
abbrev pub live_in : List (Option ℕ) → ℕ → ℕ → Bool
live_in own k n = is_of k (get_or own n none)

-- how many dirty nodes net k has
abbrev pub dirty_of : ℕ → List (Option ℕ) → List Bool → ℕ → ℕ
dirty_of N own marks k = tally (λ n. get_or marks n false && is_of k (get_or own n none)) N

-- how many of the waits were made by nodes of net k
abbrev pub made_by : ℕ → List Wait → ℕ
made_by k ws = count (λ w. eqb w.net k) ws

-- over all nets
abbrev pub waits_of : List Net → ℕ → ℕ
waits_of ts k = sum (map (λ t. made_by k t.awaiting) ts)

-- all of it. `extra` is what a visit, or answers under way, add to the pending numbers; at rest it is 0
pub record Good (extra : ℕ → ℕ) (e : Engine) : Type 0 where
  pub slotted : Slotted e.pools.nodes (length e.nets) (owners (graph_of e)) e.slots.marks e.slots.chain
  pub dirty : Listed e.pools.nodes (λ n. get_or e.slots.marks n false) e.dirty
  pub lists : (k : ℕ) → k < length e.nets → Listed e.pools.nodes (live_in (owners (graph_of e)) k) (net_at e k).list
  pub pending : (k : ℕ) → k < length e.nets
      → (net_at e k).pending ≡ dirty_of e.pools.nodes (owners (graph_of e)) e.slots.marks k + waits_of e.nets k + extra k
  pub waiting : waits e ≤ e.pools.waits
  pub entered : entries e ≤ e.pools.entries
  pub stepped : e.steps ≤ max_steps

-- one more for net k
abbrev pub bump : ℕ → (ℕ → ℕ) → ℕ → ℕ
bump k x j = x j + bit (eqb k j)

-- at rest
abbrev pub rest : ℕ → ℕ
rest k = 0

pub good_extra : (x y : ℕ → ℕ) (e : Engine) → ((k : ℕ) → x k ≡ y k) → Good x e → Good y e
good_extra x y e h g = record {
  slotted = g.slotted;
  dirty = g.dirty;
  lists = g.lists;
  pending = λ k l. let p = g.pending k l in let q = h k in omega arith;
  waiting = g.waiting;
  entered = g.entered;
  stepped = g.stepped;
}
