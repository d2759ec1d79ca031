-- Marks, pending numbers and rewiring keep the books.
use Rattle.std.specs.Prelude.{ℕ, ◌+◌, ◌-◌, ◌≤◌, ◌<◌, ◌≡◌, refl, Bool, ◌&&◌, List, set}
use Rattle.std.proofs.Common.{sym, ◌∙◌, get_or-set_same, get_or-set_other}
use Rattle.std.proofs.Math.Path.{ap, subst}
use Rattle.std.proofs.Math.Decide.{ℕ_discrete}
use native.Mathlib.Omega.{arith}
use Rattle.std.proofs.Math.Bool.{true, false}
use Rattle.std.proofs.Math.Option.{Option, none, some}
use Rattle.std.proofs.Math.ListN.{length, get_or, length-set}
use Rattle.std.proofs.Math.Dec.{eqb}
use Rattle.net_file.specs.Lists.{bit, sum}
use Rattle.definitions.specs.Lists.{is_some}
use Rattle.definitions.specs.Nets.{Port, Node, Graph}
use Rattle.definitions.specs.State.{Ids, Net, Engine, graph_of, with_slots, with_dirty, with_graph, with_mark, with_pending, with_nets, net_at, over_net, more, fewer, waits, entries}
use Rattle.definitions.specs.Books.{is_dirty, push_dirty, mark_dirty, mark_ends}
use Rattle.dirty_laws.specs.Tally.{tally_at}
use Rattle.dirty_laws.specs.Listed.{Listed, Turns, listed_push}
use Rattle.good_laws.specs.Owners.{owner, owners, is_of, owner_at, some_below}
use Rattle.good_laws.specs.Nets.{over_length, over_part, part_at, pending_more, pending_fewer}
use Rattle.good_laws.specs.Good.{Slotted, live_in, dirty_of, made_by, waits_of, Good, bump}

-- ---- one net changed beside its list

pub over_entries : (f : Net → Net) (k : ℕ) (e : Engine) → ((t : Net) → (f t).list ≡ t.list) → entries (over_net f k e) ≡ entries e
unfolding entries
over_entries f k e h = ap sum (over_part (λ t. length t.list.items) f k e (λ t. ap (λ (l : Ids). length l.items) (h t)))

module _ (x y : ℕ → ℕ) (f : Net → Net) (k : ℕ) (e : Engine) where
  pub over_good : Good x e → ((t : Net) → (f t).list ≡ t.list)
      → ((j : ℕ) → j < length e.nets
      → (net_at (over_net f k e) j).pending ≡ dirty_of e.pools.nodes (owners (graph_of e)) e.slots.marks j + waits_of (over_net f k e).nets j + y j)
      → waits (over_net f k e) ≤ e.pools.waits → Good y (over_net f k e)
  unfolding over_net with_nets
  over_good g lists' pending' waiting' =
      let e' = over_net f k e in
      let m = over_length f k e in
      let part = over_part (λ t. t.list) f k e lists' in
      record {
        slotted = subst (λ (M : ℕ). Slotted e.pools.nodes M (owners (graph_of e)) e.slots.marks e.slots.chain) (sym m) g.slotted;
        dirty = g.dirty;
        lists = λ j l. subst (Listed e.pools.nodes (live_in (owners (graph_of e)) j)) (sym (part_at (λ t. t.list) e e' part j)) (g.lists j (subst (λ (M : ℕ). j < M) m l));
        pending = λ j l. pending' j (subst (λ (M : ℕ). j < M) m l);
        waiting = waiting';
        entered = let q = over_entries f k e lists' in let u = g.entered in omega arith;
        stepped = g.stepped;
      }

-- a change of pending numbers keeps the waits
pub pending_waits : (f : ℕ → ℕ) (k : ℕ) (e : Engine) → waits (over_net (λ n. with_pending (f n.pending) n) k e) ≡ waits e
unfolding waits with_pending
pending_waits f k e = ap sum (over_part (λ n. length n.awaiting) (λ n. with_pending (f n.pending) n) k e (λ t. refl))

pub pending_waits_of : (f : ℕ → ℕ) (k : ℕ) (e : Engine) (j : ℕ) → waits_of (over_net (λ n. with_pending (f n.pending) n) k e).nets j ≡ waits_of e.nets j
unfolding with_pending
pending_waits_of f k e j = ap sum (over_part (λ t. made_by j t.awaiting) (λ n. with_pending (f n.pending) n) k e (λ t. refl))

pub more_good : (x : ℕ → ℕ) (k : ℕ) (e : Engine) → Good x e → Good (bump k x) (more k e)
unfolding more with_pending
more_good x k e g =
    let w = pending_waits (λ p. p + 1) k e in
    let v = g.waiting in
    over_good x (bump k x) (λ n. with_pending (n.pending + 1) n) k e g (λ t. refl)
    (λ j l. let p = pending_more k e j l in let q = g.pending j l in let u = pending_waits_of (λ p. p + 1) k e j in omega arith) (omega arith)

pub fewer_good : (x : ℕ → ℕ) (k : ℕ) (e : Engine) → Good (bump k x) e → Good x (fewer k e)
unfolding fewer with_pending
fewer_good x k e g =
    let w = pending_waits (λ p. p - 1) k e in
    let v = g.waiting in
    over_good (bump k x) x (λ n. with_pending (n.pending - 1) n) k e g (λ t. refl)
    (λ j l. let p = pending_fewer k e j l in let q = g.pending j l in let u = pending_waits_of (λ p. p - 1) k e j in omega arith) (omega arith)

-- ---- marks

pub set_turns : (ms : List Bool) (n : ℕ) (b : Bool) → n < length ms → Turns (λ i. get_or ms i false) (λ i. get_or (set ms n b) i false) n b
set_turns ms n b l = record { now = get_or-set_same ms n b false l; others = λ i d. get_or-set_other ms n i b false d }

-- a filled slot's mark counts for its net, and for no other
pub dirty_set : (N : ℕ) (own : List (Option ℕ)) (ms : List Bool) (n : ℕ) (b : Bool) (k j : ℕ) → n < N → n < length ms → get_or own n none ≡ some k
    → dirty_of N own (set ms n b) j + bit (get_or ms n false && eqb k j) ≡ dirty_of N own ms j + bit (b && eqb k j)
dirty_set N own ms n b k j below l o =
    let q : is_of j (get_or own n none) ≡ eqb k j = ap (is_of j) o in
    let t = set_turns ms n b l in
    let u : bit (get_or ms n false && is_of j (get_or own n none)) ≡ bit (get_or ms n false && eqb k j) = ap (λ (c : Bool). bit (get_or ms n false && c)) q in
    let v : bit (get_or (set ms n b) n false && is_of j (get_or own n none)) ≡ bit (b && eqb k j) =
    ap (λ (c : Bool). bit (c && is_of j (get_or own n none))) t.now ∙ ap (λ (c : Bool). bit (b && c)) q in
    let a = tally_at (λ i. get_or ms i false && is_of j (get_or own i none)) (λ i. get_or (set ms n b) i false && is_of j (get_or own i none)) n N below
    (λ i d. ap (λ (c : Bool). c && is_of j (get_or own i none)) (t.others i d)) in
    omega arith

-- a slot with an owner is one of the N slots
pub below_slots : {N M : ℕ} {own : List (Option ℕ)} {ms : List Bool} {ch : List ℕ} → Slotted N M own ms ch → (n k : ℕ) → get_or own n none ≡ some k → n < N
below_slots {own} s n k o = let a = some_below own n k o in let b = s.slots in omega arith

module _ (x : ℕ → ℕ) (n k : ℕ) (e : Engine) where
  -- a clean node's mark and entry, with its net's pending number ahead
  dirtied_good : Good (bump k x) e → get_or (owners (graph_of e)) n none ≡ some k → get_or e.slots.marks n false ≡ false
      → Good x (push_dirty n (with_mark n true e))
  unfolding push_dirty with_mark with_slots with_dirty waits entries net_at
  dirtied_good g o clean =
      let s = g.slotted in
      let N = e.pools.nodes in
      let own = owners (graph_of e) in
      let ms = e.slots.marks in
      let below = below_slots s n k o in
      let z = s.sized in
      let l : n < length ms = omega arith in
      let z' = length-set ms n true in
      record {
        slotted = record { slots = s.slots; sized = omega arith; marked = λ i h. held i h (ℕ_discrete i n); owned = s.owned; vacant = s.vacant; once = s.once; all = s.all };
        dirty = listed_push N (λ i. get_or ms i false) (λ i. get_or (set ms n true) i false) e.dirty n g.dirty below clean (set_turns ms n true l);
        lists = g.lists;
        pending = λ j h.
            let p = g.pending j h in
            let d = dirty_set N own ms n true k j below l o in
            let u : bit (get_or ms n false && eqb k j) ≡ 0 = ap (λ (c : Bool). bit (c && eqb k j)) clean in
            omega arith;
        waiting = g.waiting;
        entered = g.entered;
        stepped = g.stepped;
      }
    where
      held : (i : ℕ) → get_or (set e.slots.marks n true) i false ≡ true → Dec (i ≡ n) → is_some (get_or (owners (graph_of e)) i none) ≡ true
      held i h (yes q) = ap (λ (m : ℕ). is_some (get_or (owners (graph_of e)) m none)) q ∙ ap is_some o
      held i h (no d) = g.slotted.marked i (sym (get_or-set_other e.slots.marks n i true false d) ∙ h)

-- `markDirty` keeps the books
pub mark_good : (x : ℕ → ℕ) (n : ℕ) (e : Engine) → Good x e → Good x (mark_dirty n e)
unfolding mark_dirty is_dirty more over_net with_nets push_dirty with_mark with_slots with_dirty net_at
mark_good x n e g = go (get_or (graph_of e) n none) refl (is_dirty e n) refl
  where
    go : (o : Option Node) → get_or (graph_of e) n none ≡ o → (t : Bool) → is_dirty e n ≡ t → Good x (elim o as (λ _. Engine) [
      | none ↦ e
      | some y ↦ elim t as (λ _. Engine) [ true ↦ e | false ↦ more y.net (push_dirty n (with_mark n true e)) ]
    ])
    go none a t b = g
    go (some y) a true b = g
    go (some y) a false b = dirtied_good x n y.net (more y.net e) (more_good x y.net e g) (owner_at (graph_of e) n ∙ ap owner a) b

pub ends_good : (x : ℕ → ℕ) (o : Option (Port × Port)) (e : Engine) → Good x e → Good x (mark_ends o e)
unfolding mark_ends
ends_good x none e g = g
ends_good x (some p) e g = mark_good x p.1.node (mark_dirty p.0.node e) (mark_good x p.0.node e g)

-- ---- rewiring

-- another graph with the same owners
pub rewired_good : (x : ℕ → ℕ) (h : Graph) (e : Engine) → owners h ≡ owners (graph_of e) → Good x e → Good x (with_graph h e)
unfolding with_graph with_slots waits entries net_at
rewired_good x h e q g = record {
  slotted = rw q g.slotted;
  dirty = g.dirty;
  lists = λ k l. rw q (g.lists k l);
  pending = λ k l. rw q (g.pending k l);
  waiting = g.waiting;
  entered = g.entered;
  stepped = g.stepped;
}
