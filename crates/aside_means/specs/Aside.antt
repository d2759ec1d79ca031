-- What words mean while waits are under way: all of an engine but its waits.
use Rattle.std.specs.Prelude.{ℕ, ◌+◌, ◌≤◌, ◌≡◌, refl, length, get_or}
use Rattle.std.proofs.Math.Path.{sym, ap}
use Rattle.std.proofs.Common.{◌∙◌, subst, arith}
use mathlib.Core.List.{List, [], ◌∷◌, map}
use Rattle.net_file.specs.Lists.{sum}
use Rattle.net_file.specs.Values.{Name}
use Rattle.definitions.specs.State.{Net, Pools, Engine, graph_of, with_nets, with_awaiting, net_at, entries, waits}
use Rattle.chains.specs.Pools.{Pool, pool_same, pool_lists}
use Rattle.means.specs.Means.{Header, Nodes, Marks, Vacant, Dirty, NetIs, Nets, no_net, entries_in, waits_in, items_of, awaiting_of, Means}
use Rattle.means.specs.Frame.{Rest, rest_trans, OutWaits, header_keep, nodes_keep, marks_keep, vacant_keep, dirty_keep, net_keep, entries_keep}
use Rattle.aside_means.specs.Hushed.{hushed, hushed_net, hushed_length}

-- the words mean e, its waits left aside
pub record Bare (Named : ℕ → Name → Type 0) (ws : List ℕ) (e : Engine) : Type 0 where
  pub header : Header ws e.pools e.limit e.steps (length e.nets)
  pub used : get_or ws 11 0 ≤ e.pools.entries
  pub nodes : Nodes Named ws e.pools.nodes (graph_of e)
  pub marks : Marks ws e.pools.nodes e.slots.marks
  pub vacant : Vacant ws e.pools.nodes e.slots.chain
  pub dirty : Dirty ws e.pools.nodes e.dirty
  pub nets : Nets ws e.nets
  pub lists : Pool (entries_in ws e.pools.nodes) (length e.nets) (items_of e.nets) (entries e)

-- with the waits it is all
pub means_again : {Named : ℕ → Name → Type 0} {ws : List ℕ} {e : Engine} → Bare Named ws e → get_or ws 13 0 ≤ e.pools.waits
    → Pool (waits_in ws e.pools.nodes e.pools.entries) (length e.nets) (awaiting_of e.nets) (waits e) → Means Named ws e
means_again b u p = record {
  header = b.header;
  used = let v = b.used in omega arith;
  nodes = b.nodes;
  marks = b.marks;
  vacant = b.vacant;
  dirty = b.dirty;
  nets = b.nets;
  lists = b.lists;
  waits_are = p;
}

-- ---- the engine's waits do not matter

hushed_entries : (e : Engine) → entries (hushed e) ≡ entries e
unfolding hushed with_nets entries with_awaiting
hushed_entries e = go e.nets
  where
    go : (ts : List Net) → sum (map (λ n. length n.list.items) (map (with_awaiting []) ts)) ≡ sum (map (λ n. length n.list.items) ts)
    go [] = refl
    go (t ∷ ts) = ap (λ (k : ℕ). length t.list.items + k) (go ts)

module _ (Named : ℕ → Name → Type 0) (ws : List ℕ) (e : Engine) where
  -- net k without its waits
  net_is : (k : ℕ) → get_or (hushed e).nets k no_net ≡ with_awaiting [] (get_or e.nets k no_net)
  unfolding net_at
  net_is k = hushed_net e k

  items_are : (k : ℕ) → items_of (hushed e).nets k ≡ items_of e.nets k
  unfolding with_awaiting
  items_are k = ap (λ (t : Net). t.list.items) (net_is k)

  bare_hushed : Means Named ws e → Bare Named ws (hushed e)
  unfolding hushed with_nets with_awaiting
  bare_hushed m =
      let long = hushed_length e in
      record {
        header = rw long m.header;
        used = m.used.entries;
        nodes = m.nodes;
        marks = m.marks;
        vacant = m.vacant;
        dirty = m.dirty;
        nets = λ k h. let n = m.nets k (rw long at h) in rw (net_is k) (record {
          name = n.name;
          free = n.free;
          length_is = n.length_is;
          capacity_is = n.capacity_is;
          stale_is = n.stale_is;
          pending_is = n.pending_is;
        });
        lists = rw (long, hushed_entries e) (pool_lists (items_of e.nets) (items_of (hushed e).nets) (λ k h. sym (items_are k)) m.lists);
      }

  bare_loud : Bare Named ws (hushed e) → Bare Named ws e
  unfolding hushed with_nets with_awaiting
  bare_loud b =
      let long = hushed_length e in
      record {
        header = rw long at b.header;
        used = b.used;
        nodes = b.nodes;
        marks = b.marks;
        vacant = b.vacant;
        dirty = b.dirty;
        nets = λ k h. let n : NetIs ws k (with_awaiting [] (get_or e.nets k no_net)) = rw (net_is k) at (b.nets k (rw long h)) in record {
          name = n.name;
          free = n.free;
          length_is = n.length_is;
          capacity_is = n.capacity_is;
          stale_is = n.stale_is;
          pending_is = n.pending_is;
        };
        lists = pool_lists (items_of (hushed e).nets) (items_of e.nets) (λ k h. items_are k) (rw (long, hushed_entries e) at b.lists);
      }

-- ---- nor do the waits' words

bare_rest : (Named : ℕ → Name → Type 0) (ws w : List ℕ) (e : Engine) → Rest (OutWaits e.pools.nodes e.pools.entries) ws w → Bare Named ws e → Bare Named w e
bare_rest Named ws w e r b = record {
  header = header_keep ws w r.long (λ i p. r.same i (omega arith)) b.header;
  used = let c = r.same 11 (omega arith) in let d = b.used in omega arith;
  nodes = nodes_keep ws w (λ i p. r.same i (omega arith)) b.nodes;
  marks = marks_keep ws w (λ i p. r.same i (omega arith)) b.marks;
  vacant = vacant_keep ws w b.header.few_nodes (λ i p. r.same i (omega arith)) (λ i p. r.same i (omega arith)) b.vacant;
  dirty = dirty_keep ws w (λ i p. r.same i (omega arith)) (λ i p. r.same i (omega arith)) b.dirty;
  nets = λ k h. net_keep ws w (λ i p. let c = b.header.few_nets in r.same i (omega arith)) (b.nets k h);
  lists = pool_same (entries_keep ws w e.pools.nodes e.pools.entries b.header.few_nets b.used (λ i p. r.same i (omega arith)) (λ i p. r.same i (omega arith)) (λ i p. r.same i (omega arith))) b.lists;
}

-- ---- so it may be said of other words and of another engine

-- words that agree with ws beside the waits mean an engine that agrees with e beside the waits: what is proved of these goes over
pub record Aside (Named : ℕ → Name → Type 0) (ws : List ℕ) (e : Engine) : Type 0 where
  pub words : List ℕ
  pub engine : Engine
  pub means : Means Named words engine
  pub agree : Rest (OutWaits e.pools.nodes e.pools.entries) words ws
  pub alike : hushed engine ≡ hushed e

module _ {Named : ℕ → Name → Type 0} {ws : List ℕ} {e : Engine} where
  pub aside : Means Named ws e → Aside Named ws e
  aside m = record { words = ws; engine = e; means = m; agree = record { long = refl; same = λ i o. refl }; alike = refl }

  pub bare : Aside Named ws e → Bare Named ws e
  bare a =
      bare_rest Named a.words ws e a.agree
      (bare_loud Named a.words e (subst (λ (d : Engine). Bare Named a.words d) a.alike (bare_hushed Named a.words a.engine a.means)))

  -- other waits, in the words and in the engine
  pub aside_waits : (w : List ℕ) (d : Engine) → Aside Named ws e → Rest (OutWaits e.pools.nodes e.pools.entries) ws w → d.pools ≡ e.pools → hushed e ≡ hushed d → Aside Named w d
  aside_waits w d a r p h = record {
    words = a.words;
    engine = a.engine;
    means = a.means;
    agree = subst (λ (q : Pools). Rest (OutWaits q.nodes q.entries) a.words w) (sym p) (rest_trans a.agree r);
    alike = a.alike ∙ h;
  }
