-- Where the books agree (`Good`), a node can be marked and no number of the lists wraps: what the words' laws ask is there.
use Rattle.std.specs.Prelude.{ℕ, suc, ◌+◌, ◌*◌, ◌<◌, ◌≤◌, ◌≡◌, Bool, ◌&&◌, List, [], ◌∷◌, map, length, eqb}
use Rattle.std.proofs.Math.Path.{refl}
use Rattle.std.proofs.Common.{sym, ap, ◌∙◌, subst}
use Rattle.std.proofs.Math.Bool.{true, false}
use Rattle.std.proofs.lemmas.Bool.{false≢true}
use Rattle.std.proofs.Math.Option.{Option, none, some}
use Rattle.std.proofs.Math.ListN.{get_or}
use native.Mathlib.Omega.{arith}
use Rattle.net_file.specs.Lists.{bit, count, sum}
use Rattle.net_file.specs.Values.{Name}
use Rattle.definitions.specs.Lists.{is_some, or_else}
use Rattle.definitions.specs.Nets.{Node, nowhere, at, filled}
use Rattle.definitions.specs.State.{Ids, Wait, Net, Engine, graph_of, net_at, waits}
use Rattle.dirty_laws.specs.Tally.{tally_most}
use Rattle.dirty_laws.specs.Listed.{Listed}
use Rattle.good_laws.specs.Owners.{owner, owners, is_of, owner_at}
use Rattle.good_laws.specs.Good.{Good, dirty_of, waits_of}
use Rattle.means.specs.Means.{Header, Means}
use Rattle.graph_means.specs.Marks.{CanMark}

-- as many pass a test as there are, at most
pub count_most : {A : Type 0} (f : A → Bool) (l : List A) → count f l ≤ length l
count_most f [] = omega arith
count_most f (x ∷ l) = let i = count_most f l in let b = bits (f x) in omega arith
  where
    bits : (t : Bool) → bit t ≤ 1
    bits true = omega arith
    bits false = omega arith

-- the waits that a net's nodes made are among all
made_most : (k : ℕ) (ts : List Net) → waits_of ts k ≤ sum (map (λ (t : Net). length t.awaiting) ts)
made_most k [] = omega arith
made_most k (t ∷ ts) = let i = made_most k ts in let c = count_most (λ (w : Wait). eqb w.net k) t.awaiting in omega arith

-- a list that keeps its books: it is shorter than 4N + 4, and its capacity and stale count are small
pub listed_room : (N : ℕ) (live : ℕ → Bool) (l : Ids) → Listed N live l → (length l.items < 4 * N + 4) × (l.capacity ≤ 4 * N + 4) × (l.stale ≤ 2 * N + 2)
listed_room N live l b =
    let t = tally_most live N in
    let c = b.counted in
    let h = b.half in
    let d = b.bound in
    (omega arith, omega arith, omega arith)

-- in pools that a run may have
module _ (e : Engine) (few : e.pools.nodes ≤ 4096) (few_waits : e.pools.waits ≤ 4096) (x : ℕ → ℕ) (g : Good x e) where
  -- a net's pending number is at most N and W, and what a visit adds
  pub pending_bound : (k : ℕ) → k < length e.nets → (net_at e k).pending ≤ 8192 + x k
  unfolding waits
  pending_bound k h =
      let p = g.pending k h in
      let a = made_most k e.nets in
      let w = g.waiting in
      let t : dirty_of e.pools.nodes (owners (graph_of e)) e.slots.marks k ≤ e.pools.nodes
      = tally_most (λ n. get_or e.slots.marks n false && is_of k (get_or (owners (graph_of e)) n none)) e.pools.nodes in
      omega arith

  -- a node's net is one of the nets
  pub net_below : (n : ℕ) → filled (graph_of e) n ≡ true → (at (graph_of e) n).net < length e.nets
  unfolding filled at
  net_below n h = g.slotted.owned n _ (owner_at (graph_of e) n ∙ go (get_or (graph_of e) n none) h)
    where
      go : (o : Option Node) → is_some o ≡ true → owner o ≡ some (or_else o nowhere).net
      go none i = absurd (false≢true i)
      go (some y) i = refl

  -- every node can be marked
  pub markable : (n : ℕ) → filled (graph_of e) n ≡ true → x (at (graph_of e) n).net ≤ 4294900000 → CanMark e n
  markable n h b =
      let i = net_below n h in
      let p = pending_bound (at (graph_of e) n).net i in
      let l = listed_room e.pools.nodes _ e.dirty g.dirty in
      record { net = i; room = λ c. l.0; capacity = omega arith; pending = omega arith }

module _ (Named : ℕ → Name → Type 0) (ws : List ℕ) (e : Engine) (m : Means Named ws e) (x : ℕ → ℕ) (g : Good x e) where
  pub pending_room : (k : ℕ) → k < length e.nets → (net_at e k).pending ≤ 8192 + x k
  pending_room = pending_bound e m.header.few_nodes m.header.few_waits x g

  pub net_inside_lem : (n : ℕ) → filled (graph_of e) n ≡ true → (at (graph_of e) n).net < length e.nets
  net_inside_lem = net_below e m.header.few_nodes m.header.few_waits x g

  pub can_mark : (n : ℕ) → filled (graph_of e) n ≡ true → x (at (graph_of e) n).net ≤ 4294900000 → CanMark e n
  can_mark = markable e m.header.few_nodes m.header.few_waits x g
