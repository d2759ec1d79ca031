-- `removeNode` and `finishEdit` keep the books.
use Prim.Native.Nat.{ℕ, ◌+◌, ◌-◌, ◌≤◌, ◌<◌}
use Rattle.std.specs.Prelude.{◌≡◌, ◌≢◌, Bool, ◌&&◌, List, [], ◌∷◌, set}
use Rattle.std.proofs.Math.Path.{refl, sym, ap, subst, fun_ext}
use Rattle.std.proofs.Common.{◌∙◌, arith}
use Rattle.std.proofs.Math.Decide.{ℕ_discrete}
use Rattle.std.proofs.Math.Bool.{true, false}
use Rattle.std.proofs.Math.Option.{Option, none, some}
use Rattle.std.proofs.Math.ListN.{length, get_or}
use Rattle.std.proofs.Math.Dec.{eqb}
use Rattle.net_file.specs.Lists.{bit, sum}
use Rattle.net_file.specs.Values.{max_steps}
use Rattle.definitions.specs.Nets.{Graph, at, holds}
use Rattle.definitions.specs.Scripts.{vacate}
use Rattle.definitions.specs.State.{Ids, Net, Engine, graph_of, with_slots, with_dirty, with_nets, with_stale, with_list, with_pending, net_at, over_net, fewer, waits, entries}
use Rattle.definitions.specs.Books.{tight, loose, is_dirty, tighten_dirty, tighten_net, vacated, went_dirty, remove_node, finish_edit}
use Rattle.dirty_laws.specs.Firsts.{tight_shorter}
use Rattle.dirty_laws.specs.Listed.{Listed, Turns, went_stale, listed_gone, listed_same, listed_tight}
use Rattle.engine_laws.specs.Frame.{either, still_graph, went_still, tighten_net_still}
use Rattle.good_laws.specs.Owners.{owners, net_of, vacate_owners, holds_owner}
use Rattle.good_laws.specs.Nets.{over_length, over_part, part_at, over_same, over_other, sum_over, pending_fewer}
use Rattle.good_laws.specs.Good.{Slotted, live_in, dirty_of, made_by, waits_of, Good}
use Rattle.good_laws.specs.Removals.{gone_slots, gone_marks, gone_turns, was_live, gone_others, gone_dirty}
use Rattle.good_laws.specs.Marks.{pending_waits, pending_waits_of}

vacated_graph : (k n : ℕ) (e : Engine) → graph_of (vacated k n e) ≡ vacate (graph_of e) n
unfolding vacated over_net with_nets with_slots
vacated_graph k n e = refl

-- the books but for net k's list
record But (x : ℕ → ℕ) (k : ℕ) (e : Engine) : Type 0 where
  slotted : Slotted e.pools.nodes (length e.nets) (owners (graph_of e)) e.slots.marks e.slots.chain
  dirty : Listed e.pools.nodes (λ n. get_or e.slots.marks n false) e.dirty
  others : (j : ℕ) → j ≢ k → j < length e.nets → Listed e.pools.nodes (live_in (owners (graph_of e)) j) (net_at e j).list
  pending : (j : ℕ) → j < length e.nets
      → (net_at e j).pending ≡ dirty_of e.pools.nodes (owners (graph_of e)) e.slots.marks j + waits_of e.nets j + x j
  waiting : waits e ≤ e.pools.waits
  entered : entries e ≤ e.pools.entries
  stepped : e.steps ≤ max_steps

-- a tightened list has no more entries
tight_entries : (live : ℕ → Bool) (k : ℕ) (e : Engine) → k < length e.nets → entries (over_net (λ t. with_list (tight live t.list) t) k e) ≤ entries e
unfolding entries with_list tight
tight_entries live k e l =
    let a = sum_over (λ t. length t.list.items) (λ t. with_list (tight live t.list) t) k e l in
    let b = tight_shorter live (net_at e k).list.items in
    omega arith

-- the holds of a graph, as a test of numbers
holds_live : (g : Graph) (k : ℕ) → (n : ℕ) → holds g k n ≡ live_in (owners g) k n
holds_live g k n = holds_owner g k n

module _ (x : ℕ → ℕ) (k : ℕ) (e : Engine) (b : But x k e) (below : k < length e.nets) where
  -- net k's list as it should be
  whole : Listed e.pools.nodes (live_in (owners (graph_of e)) k) (net_at e k).list → Good x e
  whole h = record {
    slotted = b.slotted;
    dirty = b.dirty;
    lists = λ j l. go j l (ℕ_discrete j k);
    pending = b.pending;
    waiting = b.waiting;
    entered = b.entered;
    stepped = b.stepped;
  }
    where
      go : (j : ℕ) → j < length e.nets → Dec (j ≡ k) → Listed e.pools.nodes (live_in (owners (graph_of e)) j) (net_at e j).list
      go j l (yes q) = subst (λ (i : ℕ). Listed e.pools.nodes (live_in (owners (graph_of e)) i) (net_at e i).list) (sym q) h
      go j l (no d) = b.others j d l

  -- or tightened
  tightened : Listed e.pools.nodes (live_in (owners (graph_of e)) k) (tight (holds (graph_of e) k) (net_at e k).list) → Good x (tighten_net k e)
  unfolding tighten_net over_net with_nets with_list waits entries net_at
  tightened h =
      let f : Net → Net = λ t. with_list (tight (holds (graph_of e) k) t.list) t in
      let e' = over_net f k e in
      let m = over_length f k e in
      let N = e.pools.nodes in
      let own = owners (graph_of e) in
      let pend = over_part (λ t. t.pending) f k e (λ t. refl) in
      record {
        slotted = subst (λ (M : ℕ). Slotted N M own e.slots.marks e.slots.chain) (sym m) b.slotted;
        dirty = b.dirty;
        lists = λ j l. go j (subst (λ (M : ℕ). j < M) m l) (ℕ_discrete j k);
        pending = λ j l.
            let p = b.pending j (subst (λ (M : ℕ). j < M) m l) in
            let q = part_at (λ t. t.pending) e e' pend j in
            let w : waits_of e'.nets j ≡ waits_of e.nets j = ap sum (over_part (λ t. made_by j t.awaiting) f k e (λ t. refl)) in
            omega arith;
        waiting = let v = b.waiting in let w : waits e' ≡ waits e = ap sum (over_part (λ t. length t.awaiting) f k e (λ t. refl)) in omega arith;
        entered = let v = b.entered in let u = tight_entries (holds (graph_of e) k) k e below in omega arith;
        stepped = b.stepped;
      }
    where
      go : (j : ℕ) → j < length e.nets → Dec (j ≡ k)
          → Listed e.pools.nodes (live_in (owners (graph_of e)) j) (net_at (over_net (λ t. with_list (tight (holds (graph_of e) k) t.list) t) k e) j).list
      go j l (yes q) =
          subst (λ (i : ℕ). Listed e.pools.nodes (live_in (owners (graph_of e)) i) (net_at (over_net (λ t. with_list (tight (holds (graph_of e) k) t.list) t) k e) i).list) (sym q)
          (subst (λ (t : Net). Listed e.pools.nodes (live_in (owners (graph_of e)) k) t.list) (sym (over_same (λ t. with_list (tight (holds (graph_of e) k) t.list) t) k e below)) h)
      go j l (no d) =
          subst (λ (t : Net). Listed e.pools.nodes (live_in (owners (graph_of e)) j) t.list) (sym (over_other (λ t. with_list (tight (holds (graph_of e) k) t.list) t) k e j d))
          (b.others j d l)

  -- one more of its entries is stale, and it is tightened where that reaches half
  settled : (live : ℕ → Bool) (l : Ids) (n : ℕ) → (net_at e k).list ≡ with_stale (l.stale + 1) l → Listed e.pools.nodes live l → live n ≡ true
      → Turns live (live_in (owners (graph_of e)) k) n false
      → Good x (elim (loose (net_at e k).list) as (λ _. Engine) [ true ↦ tighten_net k e | false ↦ e ])
  settled live l n q was on off' =
      let s : holds (graph_of e) k ≡ live_in (owners (graph_of e)) k = fun_ext (holds_live (graph_of e) k) in
      rw q (go (loose (with_stale (l.stale + 1) l))
      (subst (λ (f : ℕ → Bool). Listed e.pools.nodes (live_in (owners (graph_of e)) k) (went_stale f l)) (sym s)
      (listed_gone e.pools.nodes live (live_in (owners (graph_of e)) k) l n was on off')))
    where
      go : (t : Bool)
          → Listed e.pools.nodes (live_in (owners (graph_of e)) k) (elim t as (λ _. Ids) [ true ↦ tight (holds (graph_of e) k) (with_stale (l.stale + 1) l) | false ↦ with_stale (l.stale + 1) l ])
          → Good x (elim t as (λ _. Engine) [ true ↦ tighten_net k e | false ↦ e ])
      go true h = tightened (rw q h)
      go false h = whole (rw q h)

-- a net's list may be tightened at any time
pub tighten_good : (x : ℕ → ℕ) (k : ℕ) (e : Engine) → Good x e → k < length e.nets → Good x (tighten_net k e)
tighten_good x k e g l =
    let s : holds (graph_of e) k ≡ live_in (owners (graph_of e)) k = fun_ext (holds_live (graph_of e) k) in
    tightened x k e (record { slotted = g.slotted; dirty = g.dirty; others = λ j d h. g.lists j h; pending = g.pending; waiting = g.waiting; entered = g.entered; stepped = g.stepped }) l
    (subst (λ (f : ℕ → Bool). Listed e.pools.nodes (live_in (owners (graph_of e)) k) (tight f (net_at e k).list)) (sym s)
    (listed_tight e.pools.nodes (live_in (owners (graph_of e)) k) (net_at e k).list (g.lists k l)))

-- ---- a node goes

-- the nodes that are left
pub remove_graph : (e : Engine) (n : ℕ) → graph_of (remove_node e n) ≡ vacate (graph_of e) n
unfolding remove_node
remove_graph e n =
    let k = (at (graph_of e) n).net in
    let v = vacated k n e in
    let e₁ : Engine = elim (is_dirty e n) as (λ _. Engine) [ true ↦ went_dirty k v | false ↦ v ] in
    let a : graph_of v ≡ vacate (graph_of e) n = vacated_graph k n e in
    let h : graph_of e₁ ≡ vacate (graph_of e) n = either (λ (d : Engine). graph_of d ≡ vacate (graph_of e) n) (is_dirty e n) (went_dirty k v) v (still_graph (went_still k v) ∙ a) a in
    either (λ (d : Engine). graph_of d ≡ vacate (graph_of e) n) (loose (net_at e₁ k).list) (tighten_net k e₁) e₁ (still_graph (tighten_net_still k e₁) ∙ h) h

-- a dirty node went: its net's pending number, and the dirty list
pub went_is : (k : ℕ) (v : Engine) → went_dirty k v ≡ with_dirty (went_stale (is_dirty v) v.dirty) (fewer k v)
unfolding went_dirty tighten_dirty with_dirty fewer over_net with_nets net_at is_dirty
went_is k v = go (loose (with_stale (v.dirty.stale + 1) v.dirty))
  where
    go : (t : Bool) → elim t as (λ _. Engine) [
      | true ↦ tighten_dirty (fewer k (with_dirty (with_stale (v.dirty.stale + 1) v.dirty) v))
      | false ↦ fewer k (with_dirty (with_stale (v.dirty.stale + 1) v.dirty) v)
    ] ≡ with_dirty (elim t as (λ _. Ids) [ true ↦ tight (is_dirty v) (with_stale (v.dirty.stale + 1) v.dirty) | false ↦ with_stale (v.dirty.stale + 1) v.dirty ]) (fewer k v)
    go true = refl
    go false = refl

module _ (x : ℕ → ℕ) (n k : ℕ) (e : Engine) (g : Good x e) (o : get_or (owners (graph_of e)) n none ≡ some k) where
  f : Net → Net
  f t = with_list (with_stale (t.list.stale + 1) t.list) t

  below' : k < length e.nets
  below' = g.slotted.owned n k o

  -- the slot is vacant; the dirty list and the pending number follow
  clean_gone : get_or e.slots.marks n false ≡ false → But x k (vacated k n e)
  unfolding vacated over_net with_nets with_slots with_list with_stale waits entries net_at f
  clean_gone c =
      let N = e.pools.nodes in
      let M = length e.nets in
      let own = owners (graph_of e) in
      let ms = e.slots.marks in
      let ch = e.slots.chain in
      let s = g.slotted in
      let m = over_length f k e in
      let q = vacate_owners (graph_of e) n in
      let v = vacated k n e in
      let pend = over_part (λ t. t.pending) f k e (λ t. refl) in
      record {
        slotted = rw (q, m) (gone_slots N M own ms ch s n k o);
        dirty = listed_same N (λ i. get_or ms i false) (λ i. get_or (set ms n false) i false) e.dirty g.dirty (λ i. same i (ℕ_discrete i n));
        others = λ j d l. rw q (subst (λ (t : Net). Listed N (live_in (set own n none) j) t.list) (sym (over_other f k e j d))
            (listed_same N (live_in own j) (live_in (set own n none) j) (net_at e j).list (g.lists j (subst (λ (c : ℕ). j < c) m l)) (gone_others N M own ms ch s n k o j d)));
        pending = λ j l.
            let p = g.pending j (subst (λ (c : ℕ). j < c) m l) in
            let a = part_at (λ t. t.pending) e (over_net f k e) pend j in
            let w : waits_of (over_net f k e).nets j ≡ waits_of e.nets j = ap sum (over_part (λ t. made_by j t.awaiting) f k e (λ t. refl)) in
            let d = gone_dirty N M own ms ch s n k o j in
            let u : bit (get_or ms n false && eqb k j) ≡ 0 = ap (λ (b : Bool). bit (b && eqb k j)) c in
            rw q (omega arith);
        waiting = let v = g.waiting in let w : waits (over_net f k e) ≡ waits e = ap sum (over_part (λ t. length t.awaiting) f k e (λ t. refl)) in omega arith;
        entered = let v = g.entered in let w : entries (over_net f k e) ≡ entries e = ap sum (over_part (λ t. length t.list.items) f k e (λ t. refl)) in omega arith;
        stepped = g.stepped;
      }
    where
      same : (i : ℕ) → Dec (i ≡ n) → get_or e.slots.marks i false ≡ get_or (set e.slots.marks n false) i false
      same i (yes q) =
          ap (λ (m : ℕ). get_or e.slots.marks m false) q ∙ c
          ∙ sym (gone_marks e.pools.nodes (length e.nets) (owners (graph_of e)) e.slots.marks e.slots.chain g.slotted n k o).now
          ∙ ap (λ (m : ℕ). get_or (set e.slots.marks n false) m false) (sym q)
      same i (no d) = sym ((gone_marks e.pools.nodes (length e.nets) (owners (graph_of e)) e.slots.marks e.slots.chain g.slotted n k o).others i d)

  dirty_gone : get_or e.slots.marks n false ≡ true → But x k (with_dirty (went_stale (is_dirty (vacated k n e)) e.dirty) (fewer k (vacated k n e)))
  unfolding vacated fewer over_net with_nets with_slots with_list with_stale with_dirty with_pending waits entries net_at is_dirty f
  dirty_gone c =
      let N = e.pools.nodes in
      let M = length e.nets in
      let own = owners (graph_of e) in
      let ms = e.slots.marks in
      let ch = e.slots.chain in
      let s = g.slotted in
      let v = vacated k n e in
      let e' = fewer k v in
      let m : length e'.nets ≡ length e.nets = over_length (λ t. with_pending (t.pending - 1) t) k v ∙ over_length f k e in
      let q = vacate_owners (graph_of e) n in
      let pend = over_part (λ t. t.pending) f k e (λ t. refl) in
      record {
        slotted = rw (q, m) (gone_slots N M own ms ch s n k o);
        dirty = listed_gone N (λ i. get_or ms i false) (λ i. get_or (set ms n false) i false) e.dirty n g.dirty c (gone_marks N M own ms ch s n k o);
        others = λ j d l. rw q (subst (λ (t : Net). Listed N (live_in (set own n none) j) t.list) (sym (over_other (λ t. with_pending (t.pending - 1) t) k v j d ∙ over_other f k e j d))
            (listed_same N (live_in own j) (live_in (set own n none) j) (net_at e j).list (g.lists j (subst (λ (c : ℕ). j < c) m l)) (gone_others N M own ms ch s n k o j d)));
        pending = λ j l.
            let l' : j < length e.nets = subst (λ (c : ℕ). j < c) m l in
            let p = g.pending j l' in
            let a = part_at (λ t. t.pending) e (over_net f k e) pend j in
            let b = pending_fewer k v j (subst (λ (c : ℕ). j < c) (sym (over_length f k e)) l') in
            let w : waits_of e'.nets j ≡ waits_of e.nets j =
            pending_waits_of (λ p. p - 1) k v j ∙ ap sum (over_part (λ t. made_by j t.awaiting) f k e (λ t. refl)) in
            let d = gone_dirty N M own ms ch s n k o j in
            let u : bit (get_or ms n false && eqb k j) ≡ bit (eqb k j) = ap (λ (b : Bool). bit (b && eqb k j)) c in
            rw q (omega arith);
        entered =
            let v' = g.entered in
            let w : entries e' ≡ entries e = ap sum (over_part (λ t. length t.list.items) (λ t. with_pending (t.pending - 1) t) k v (λ t. refl) ∙ over_part (λ t. length t.list.items) f k e (λ t. refl)) in
            omega arith;
        waiting =
            let v' = g.waiting in
            let w : waits e' ≡ waits e = pending_waits (λ p. p - 1) k v ∙ ap sum (over_part (λ t. length t.awaiting) f k e (λ t. refl)) in
            omega arith;
        stepped = g.stepped;
      }

  -- the engine with all that but net k's list
  gone : Bool → Engine
  gone t = elim t as (λ _. Engine) [ true ↦ with_dirty (went_stale (is_dirty (vacated k n e)) e.dirty) (fewer k (vacated k n e)) | false ↦ vacated k n e ]

  gone_is : (t : Bool) → elim t as (λ _. Engine) [ true ↦ went_dirty k (vacated k n e) | false ↦ vacated k n e ] ≡ gone t
  unfolding gone vacated over_net with_nets with_slots
  gone_is true = went_is k (vacated k n e)
  gone_is false = refl

  -- net k's list has one stale entry more
  gone_list : (t : Bool) → (net_at (gone t) k).list ≡ with_stale ((net_at e k).list.stale + 1) (net_at e k).list
  unfolding gone vacated fewer over_net with_nets with_slots with_dirty with_list with_pending net_at f
  gone_list true =
      part_at (λ t. t.list) (vacated k n e) (fewer k (vacated k n e)) (over_part (λ t. t.list) (λ t. with_pending (t.pending - 1) t) k (vacated k n e) (λ t. refl)) k
      ∙ ap (λ (t : Net). t.list) (over_same f k e below')
  gone_list false = ap (λ (t : Net). t.list) (over_same f k e below')

  gone_below : (t : Bool) → k < length (gone t).nets
  unfolding gone vacated fewer over_net with_nets with_slots with_dirty with_pending f net_at
  gone_below true =
      subst (λ (c : ℕ). k < c) (sym (over_length (λ t. with_pending (t.pending - 1) t) k (vacated k n e) ∙ over_length f k e)) below'
  gone_below false = subst (λ (c : ℕ). k < c) (sym (over_length f k e)) below'

  gone_good : (t : Bool) → get_or e.slots.marks n false ≡ t
      → Good x (elim (loose (net_at (gone t) k).list) as (λ _. Engine) [ true ↦ tighten_net k (gone t) | false ↦ gone t ])
  unfolding gone vacated fewer over_net with_nets with_slots with_dirty
  gone_good true c =
      settled x k (gone true) (dirty_gone c) (gone_below true) (live_in (owners (graph_of e)) k) (net_at e k).list n (gone_list true) (g.lists k below')
      (was_live e.pools.nodes (length e.nets) (owners (graph_of e)) e.slots.marks e.slots.chain g.slotted n k o)
      (rw (vacate_owners (graph_of e) n) (gone_turns e.pools.nodes (length e.nets) (owners (graph_of e)) e.slots.marks e.slots.chain g.slotted n k o))
  gone_good false c =
      settled x k (gone false) (clean_gone c) (gone_below false) (live_in (owners (graph_of e)) k) (net_at e k).list n (gone_list false) (g.lists k below')
      (was_live e.pools.nodes (length e.nets) (owners (graph_of e)) e.slots.marks e.slots.chain g.slotted n k o)
      (rw (vacate_owners (graph_of e) n) (gone_turns e.pools.nodes (length e.nets) (owners (graph_of e)) e.slots.marks e.slots.chain g.slotted n k o))

  -- `removeNode` keeps the books
  pub remove_good : Good x (remove_node e n)
  unfolding remove_node is_dirty
  remove_good =
      subst (λ (j : ℕ). Good x (by j (elim (is_dirty e n) as (λ _. Engine) [ true ↦ went_dirty j (vacated j n e) | false ↦ vacated j n e ]))) (sym (net_of (graph_of e) n k o))
      (subst (λ (d : Engine). Good x (by k d)) (sym (gone_is (is_dirty e n))) (gone_good (is_dirty e n) refl))
    where
      by : ℕ → Engine → Engine
      by j d = elim (loose (net_at d j).list) as (λ _. Engine) [ true ↦ tighten_net j d | false ↦ d ]

-- ---- all dead nodes

-- each is there when it goes, a node of net k
abbrev pub AllThere : List (Option ℕ) → ℕ → List ℕ → Type 0
AllThere own k [] = Unit {0}
AllThere own k (n ∷ ns) = (get_or own n none ≡ some k) × AllThere (set own n none) k ns

pub remove_owners : (e : Engine) (n : ℕ) → owners (graph_of (remove_node e n)) ≡ set (owners (graph_of e)) n none
remove_owners e n = ap owners (remove_graph e n) ∙ vacate_owners (graph_of e) n

pub finish_good : (x : ℕ → ℕ) (k : ℕ) (dead : List ℕ) (e : Engine) → Good x e → AllThere (owners (graph_of e)) k dead → Good x (finish_edit dead e)
unfolding finish_edit
finish_good x k [] e g h = g
finish_good x k (n ∷ dead) e g h =
    finish_good x k dead (remove_node e n) (remove_good x n k e g h.0)
    (subst (λ (o : List (Option ℕ)). AllThere o k dead) (sym (remove_owners e n)) h.1)
