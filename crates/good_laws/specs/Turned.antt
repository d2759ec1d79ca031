-- A turn of the loop keeps the books, if every script that a rule finds is orderly. What makes it so is a condition on nodes, ports
-- and wires; here it is P, with what is asked of it: `Sound`.
use Rattle.std.specs.Prelude.{ℕ, zero, suc, ◌+◌, ◌-◌, ◌<◌, ◌≡◌, ◌⊎◌, Bool, true, false, ◌&&◌, length, get_or, set, eqb}
use Rattle.std.proofs.Common.{sym, ap, ◌∙◌, inl, inr, arith, length-set}
use Rattle.std.proofs.Math.Decide.{ℕ_discrete}
use Rattle.std.proofs.Math.Option.{Option, none, some, some-injective}
use mathlib.Core.List.Memᴰ
use mathlib.Core.List.{List, [], ◌∷◌, ◌++◌, Memᴰ}
use Rattle.net_file.specs.Lists.{bit}
use Rattle.definitions.specs.Lists.{find, from, up_to, is_some}
use Rattle.definitions.specs.State.{Engine, graph_of, with_slots, with_dirty, with_mark, with_stale, net_at, waits, entries}
use Rattle.definitions.specs.Visit.{get_net}
use Rattle.definitions.specs.Run.{with_items}
use Rattle.dirty_laws.specs.Listed.{Turns, listed_taken, listed_dropped}
use Rattle.good_laws.specs.Owners.{owners}
use Rattle.good_laws.specs.Good.{Good, bump}
use Rattle.good_laws.specs.Marks.{set_turns, dirty_set, below_slots}

-- ---- the entry taken

-- a live entry is taken: the visit counts in place of the mark
pub taken_good : (x : ℕ → ℕ) (xs : List ℕ) (n k : ℕ) (e : Engine) → Good x e → e.dirty.items ≡ xs ++ n ∷ []
    → get_or e.slots.marks n false ≡ true → get_or (owners (graph_of e)) n none ≡ some k → Good (bump k x) (with_mark n false (with_items xs e))
unfolding with_mark with_items with_slots with_dirty waits entries net_at
taken_good x xs n k e g last was o =
    let s = g.slotted in
    let N = e.pools.nodes in
    let own = owners (graph_of e) in
    let ms = e.slots.marks in
    let below = below_slots s n k o in
    let z = s.sized in
    let l : n < length ms = omega arith in
    let z' = length-set ms n false in
    let t = set_turns ms n false l in
    record {
      slotted = record { slots = s.slots; sized = omega arith; marked = λ i h. held t i h (ℕ_discrete i n); owned = s.owned; vacant = s.vacant; once = s.once; all = s.all };
      dirty = listed_taken N (λ i. get_or ms i false) (λ i. get_or (set ms n false) i false) e.dirty xs n g.dirty last was t;
      lists = g.lists;
      pending = λ j h.
          let p = g.pending j h in
          let d = dirty_set N own ms n false k j below l o in
          let u : bit (get_or ms n false && eqb k j) ≡ bit (eqb k j) = ap (λ (c : Bool). bit (c && eqb k j)) was in
          omega arith;
      waiting = g.waiting;
      entered = g.entered;
      stepped = g.stepped;
    }
  where
    held : Turns (λ i. get_or e.slots.marks i false) (λ i. get_or (set e.slots.marks n false) i false) n false
        → (i : ℕ) → get_or (set e.slots.marks n false) i false ≡ true → Dec (i ≡ n) → is_some (get_or (owners (graph_of e)) i none) ≡ true
    held t i h (yes q) =
        let c : ◌≡◌ {A = Bool} false true = sym t.now ∙ ap (λ (m : ℕ). get_or (set e.slots.marks n false) m false) (sym q) ∙ h in
        absurd (let z : ◌≡◌ {A = ℕ} 0 1 = cc in omega arith)
    held t i h (no d) = g.slotted.marked i (sym (t.others i d) ∙ h)

-- a stale entry is dropped
pub dropped_good : (x : ℕ → ℕ) (xs : List ℕ) (n : ℕ) (e : Engine) → Good x e → e.dirty.items ≡ xs ++ n ∷ [] → get_or e.slots.marks n false ≡ false
    → Good x (with_dirty (with_stale ((with_items xs e).dirty.stale - 1) (with_items xs e).dirty) (with_items xs e))
unfolding with_items with_dirty with_stale waits entries net_at
dropped_good x xs n e g last was = record {
  slotted = g.slotted;
  dirty = listed_dropped e.pools.nodes (λ i. get_or e.slots.marks i false) e.dirty xs n g.dirty last was;
  lists = g.lists;
  pending = g.pending;
  waiting = g.waiting;
  entered = g.entered;
  stepped = g.stepped;
}

-- ---- a named net is one of the nets

from_below : (k n m : ℕ) → Memᴰ m (from k n) → m < k + n
from_below k zero m h = absurd (Memᴰ.not-nil h)
from_below k (suc n) m h = go (Memᴰ.cases_cons h) (λ t. from_below (suc k) n m t)
  where
    go : (m ≡ k) ⊎ Memᴰ m (from (suc k) n) → (Memᴰ m (from (suc k) n) → m < suc k + n) → m < k + suc n
    go (inl q) f = omega arith
    go (inr t) f = let l = f t in omega arith

find_in : (f : ℕ → Bool) (ks : List ℕ) (m : ℕ) → find f ks ≡ some m → Memᴰ m ks
find_in f [] m h = absurd (let z : ◌≡◌ {A = ℕ} 0 1 = cc in omega arith)
find_in f (k ∷ ks) m h = go (f k) h (λ t. find_in f ks m t)
  where
    go : (t : Bool) → elim t as (λ _. Option ℕ) [ true ↦ some k | false ↦ find f ks ] ≡ some m → (find f ks ≡ some m → Memᴰ m ks) → Memᴰ m (k ∷ ks)
    go true q r = Memᴰ.head (sym (some-injective _ _ q))
    go false q r = Memᴰ.tail (r q)

pub named_below : (e : Engine) (c m : ℕ) → get_net e c ≡ some m → m < length e.nets
unfolding get_net
named_below e c m h = let l = from_below 0 (length e.nets) m (find_in (λ k. eqb (net_at e k).home.name c) (up_to (length e.nets)) m h) in omega arith
