-- An engine without its waits: marks and pending numbers do not look at them.
use Rattle.std.specs.Prelude.{ℕ, zero, suc, ◌+◌, ◌-◌, ◌≡◌, refl, Bool, true, false, List, [], ◌∷◌, map, length, get_or, set}
use Rattle.std.proofs.Common.{sym, ap, ◌∙◌}
use Rattle.std.proofs.Math.Option.{Option, none, some}
use Rattle.std.proofs.lemmas.List.{length-map}
use Rattle.std.proofs.Math.ListN.{get_or-map}
use Rattle.std.proofs.Math.Seq.{map-set_same}
use Rattle.definitions.specs.Nets.{Node, at}
use Rattle.definitions.specs.State.{Wait, Net, Engine, graph_of, with_slots, with_dirty, with_mark, with_nets, with_pending, with_awaiting, net_at, over_net, more, fewer}
use Rattle.definitions.specs.Books.{is_dirty, push_dirty, mark_dirty}
use Rattle.graph_means.specs.Marks.{CanMark}
use Rattle.means.specs.Means.{no_net}

-- without its waits
unfoldable pub hushed : Engine → Engine
hushed e = with_nets (map (with_awaiting []) e.nets) e

map_set : (f : Net → Net) (ts : List Net) (k : ℕ) (t : Net) → map f (set ts k t) ≡ set (map f ts) k (f t)
map_set f [] k t = refl
map_set f (x ∷ ts) zero t = refl
map_set f (x ∷ ts) (suc k) t = ap (λ (r : List Net). f x ∷ r) (map_set f ts k t)

-- net k without the waits on it
pub hushed_net : (e : Engine) (k : ℕ) → net_at (hushed e) k ≡ with_awaiting [] (net_at e k)
unfolding hushed with_nets net_at with_awaiting
hushed_net e k = get_or-map (with_awaiting []) e.nets k no_net

pub hushed_length : (e : Engine) → length (hushed e).nets ≡ length e.nets
unfolding hushed with_nets
hushed_length e = length-map e.nets (with_awaiting [])

over_is : (f : Net → Net) (k : ℕ) (e : Engine) → hushed (over_net f k e) ≡ with_nets (set (map (with_awaiting []) e.nets) k (with_awaiting [] (f (net_at e k)))) e
unfolding hushed over_net with_nets
over_is f k e = ap (λ (ts : List Net). with_nets ts e) (map_set (with_awaiting []) e.nets k (f (net_at e k)))

is_over : (f : Net → Net) (k : ℕ) (e : Engine) → over_net f k (hushed e) ≡ with_nets (set (map (with_awaiting []) e.nets) k (f (net_at (hushed e) k))) e
unfolding hushed over_net with_nets
is_over f k e = refl

-- a change of a net that does not look at its waits
pub hushed_over : (f : Net → Net) (k : ℕ) (e : Engine) → ((t : Net) → with_awaiting [] (f t) ≡ f (with_awaiting [] t)) → hushed (over_net f k e) ≡ over_net f k (hushed e)
hushed_over f k e h =
    over_is f k e ∙ ap (λ (t : Net). with_nets (set (map (with_awaiting []) e.nets) k t) e) (h (net_at e k) ∙ ap f (sym (hushed_net e k))) ∙ sym (is_over f k e)

-- other waits
pub hushed_awaiting : (ws : List Wait) (k : ℕ) (e : Engine) → hushed (over_net (with_awaiting ws) k e) ≡ hushed e
unfolding hushed over_net with_nets with_awaiting net_at
hushed_awaiting ws k e =
    ap (λ (ts : List Net). with_nets ts e) (map-set_same (with_awaiting []) e.nets k (with_awaiting ws (get_or e.nets k no_net)) no_net refl)

pub hushed_more : (k : ℕ) (e : Engine) → hushed (more k e) ≡ more k (hushed e)
unfolding more with_pending with_awaiting
hushed_more k e = hushed_over (λ n. with_pending (n.pending + 1) n) k e (λ t. refl)

pub hushed_fewer : (k : ℕ) (e : Engine) → hushed (fewer k e) ≡ fewer k (hushed e)
unfolding fewer with_pending with_awaiting
hushed_fewer k e = hushed_over (λ n. with_pending (n.pending - 1) n) k e (λ t. refl)

hushed_marked : (k n : ℕ) (e : Engine) → hushed (more k (push_dirty n (with_mark n true e))) ≡ more k (push_dirty n (with_mark n true (hushed e)))
unfolding push_dirty with_dirty with_mark with_slots hushed with_nets
hushed_marked k n e = hushed_more k (push_dirty n (with_mark n true e))

pub hushed_mark : (n : ℕ) (e : Engine) → hushed (mark_dirty n e) ≡ mark_dirty n (hushed e)
unfolding mark_dirty is_dirty hushed with_nets
hushed_mark n e = go (get_or (graph_of e) n none) (is_dirty e n)
  where
    go : (o : Option Node) (t : Bool) → hushed (elim o as (λ _. Engine) [ none ↦ e | some x ↦ elim t as (λ _. Engine) [ true ↦ e | false ↦ more x.net (push_dirty n (with_mark n true e)) ] ])
        ≡ elim o as (λ _. Engine) [ none ↦ hushed e | some x ↦ elim t as (λ _. Engine) [ true ↦ hushed e | false ↦ more x.net (push_dirty n (with_mark n true (hushed e))) ] ]
    go none t = refl
    go (some x) true = refl
    go (some x) false = hushed_marked x.net n e

-- ---- what is asked of a net's books is asked alike

pub hushed_pending : (e : Engine) (k : ℕ) → (net_at (hushed e) k).pending ≡ (net_at e k).pending
unfolding with_awaiting
hushed_pending e k = ap (λ (t : Net). t.pending) (hushed_net e k)

pub mark_hushed : (e : Engine) (n : ℕ) → CanMark e n → CanMark (hushed e) n
unfolding hushed with_nets is_dirty
mark_hushed e n c = record {
  net = rw (hushed_length e) c.net;
  room = c.room;
  capacity = c.capacity;
  pending = rw (hushed_pending e (at (graph_of e) n).net) c.pending;
}

pub mark_loud : (e : Engine) (n : ℕ) → CanMark (hushed e) n → CanMark e n
unfolding hushed with_nets is_dirty
mark_loud e n c = record {
  net = rw (hushed_length e) at c.net;
  room = c.room;
  capacity = c.capacity;
  pending = rw (hushed_pending e (at (graph_of e) n).net) at c.pending;
}
