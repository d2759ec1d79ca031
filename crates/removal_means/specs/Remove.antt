-- One dead node goes: its slot is vacant, its entries are stale, and the lists are made tight where they are loose.
-- Level Engine counts the net's stale entry before it looks at the dirty list, the words count it after: the outcome is the same.
use Prim.Native.Nat.{ℕ, ◌+◌, ◌-◌, ◌<◌}
use Rattle.std.proofs.Math.Path.{◌≡◌, sym, ap, subst}
use Rattle.std.specs.Prelude.{refl, Bool, length, get_or, set}
use Rattle.std.proofs.Common.{◌∙◌, set-set, arith}
use Rattle.std.proofs.Math.Bool.{true, false}
use Rattle.std.proofs.Math.Option.{Option, none, some}
use mathlib.Core.List.{List, ◌∷◌, Memᴰ}
use Rattle.words.specs.Choose.{if_eq, eq_yes, eq_no}
use Rattle.layout.specs.Layout.{node_word}
use Rattle.edits.specs.Edits
use Rattle.net_file.specs.Lists.{bit}
use Rattle.net_file.specs.Values.{Name}
use Rattle.definitions.specs.Nets.{Node}
use Rattle.definitions.specs.Scripts.{vacate}
use Rattle.definitions.specs.State
use Rattle.definitions.specs.State.{Ids, Net, Engine, graph_of, with_slots, with_dirty, with_nets, with_list, with_stale, with_pending, net_at, over_net}
use Rattle.definitions.specs.Books.{is_dirty, vacated, went_dirty, remove_node}
use Rattle.dirty_laws.specs.Listed.{went_stale}
use Rattle.good_laws.specs.Owners.{owner, owners, owner_at, net_of}
use Rattle.good_laws.specs.Nets.{over_same, over_length, over_part, part_at}
use Rattle.good_laws.specs.Removed.{went_is}
use Rattle.join_laws.specs.Ports.{frame, frame_of}
use Rattle.means.specs.Means.{SlotIs, Means}
use Rattle.edits_means.specs.Vacate.{vacate_means}
use Rattle.edits_means.specs.Went.{went_dirty_means}
use Rattle.removal_means.specs.Went.{more_stale, settle, went_means}

-- ---- one more stale entry, before or after the dirty list is looked at

over_twice : (f g : Net → Net) (k : ℕ) (e : Engine) → k < length e.nets → over_net f k (over_net g k e) ≡ over_net (λ t. f (g t)) k e
unfolding over_net with_nets
over_twice f g k e h =
    ap (λ (l : List Net). with_nets l e)
    (ap (λ (t : Net). set (set e.nets k (g (net_at e k))) k (f t)) (over_same g k e h) ∙ set-set e.nets k (g (net_at e k)) (f (g (net_at e k))))

fewer_late : (k : ℕ) (v : Engine) → k < length v.nets → State.fewer k (more_stale k v) ≡ more_stale k (State.fewer k v)
unfolding State.fewer more_stale with_pending with_list with_stale
fewer_late k v h =
    over_twice (λ t. with_pending (t.pending - 1) t) (λ t. with_list (with_stale (t.list.stale + 1) t.list) t) k v h
    ∙ sym (over_twice (λ t. with_list (with_stale (t.list.stale + 1) t.list) t) (λ t. with_pending (t.pending - 1) t) k v h)

went_late : (k : ℕ) (v : Engine) → k < length v.nets → went_dirty k (more_stale k v) ≡ more_stale k (went_dirty k v)
unfolding more_stale over_net with_nets with_dirty net_at is_dirty
went_late k v h =
    let d = went_stale (is_dirty v) v.dirty in
    went_is k (more_stale k v) ∙ ap (λ (e : Engine). with_dirty d e) (fewer_late k v h) ∙ ap (λ (e : Engine). more_stale k e) (sym (went_is k v))

-- ---- a node goes

-- node n of net k can be removed: it is there, and the books have room for what is counted
pub record CanRemove (e : Engine) (n k : ℕ) : Type 0 where
  pub there : get_or (owners (graph_of e)) n none ≡ some k
  pub slot : n < e.pools.nodes
  pub net : k < length e.nets
  pub taken : Memᴰ n e.slots.chain → ⊥
  pub stale : (net_at e k).list.stale < 4294967295
  pub inside : (i : ℕ) → Memᴰ i (net_at e k).list.items → i < e.pools.nodes
  pub pending : is_dirty e n ≡ true → 0 < (net_at e k).pending
  pub small : (net_at e k).pending < 4294967296
  pub dirty_stale : e.dirty.stale < 4294967295
  pub dirty_inside : (i : ℕ) → Memᴰ i e.dirty.items → i < e.pools.nodes

module _ (Named : ℕ → Name → Type 0) (ws : List ℕ) (e : Engine) (m : Means Named ws e) (n k : ℕ) (c : CanRemove e n k) where
  -- the slot vacant
  v : Engine
  v = with_slots (record { graph = vacate (graph_of e) n; marks = set e.slots.marks n false; chain = n ∷ e.slots.chain }) e

  mv : Means Named (Edits.vacate ws n) v
  unfolding v
  mv = vacate_means Named ws e m n c.slot c.taken

  -- the net that the slot's word says
  pub net_is : node_word ws n 0 ≡ k + 1
  unfolding frame
  net_is = go (get_or (graph_of e) n none) (sym (owner_at (graph_of e) n) ∙ c.there) (m.nodes.slot n c.slot)
    where
      go : (o : Option Node) → owner o ≡ some k → SlotIs Named ws n (frame_of o) → node_word ws n 0 ≡ k + 1
      go none q s = absurd (let z : ◌≡◌ {A = ℕ} 0 1 = cc in omega arith)
      go (some x) q s = let y : x.net ≡ k = cc in s.0 ∙ ap (λ (i : ℕ). i + 1) y

  -- a clean node
  pub clean_means : Means Named (Edits.went (Edits.vacate ws n) (k + 1)) (settle k (vacated k n e))
  unfolding v vacated more_stale with_slots net_at
  clean_means = went_means Named (Edits.vacate ws n) v mv k c.net c.stale c.inside

  -- a dirty one: the dirty list's entry is stale, its net has one less pending
  pub v2 : Engine
  v2 = with_dirty (went_stale (is_dirty v) v.dirty) (State.fewer k v)

  pub list_is : (net_at v2 k).list ≡ (net_at e k).list
  unfolding v2 v with_slots with_dirty State.fewer with_pending net_at over_net with_nets
  list_is = part_at (λ t. t.list) e (State.fewer k e) (over_part (λ t. t.list) (λ t. with_pending (t.pending - 1) t) k e (λ t. refl)) k

  pub here2 : k < length v2.nets
  unfolding v2 v with_slots with_dirty State.fewer
  here2 = rw (over_length (λ t. with_pending (t.pending - 1) t) k v) c.net

  pub inside2 : (i : ℕ) → Memᴰ i (net_at v2 k).list.items → i < v2.pools.nodes
  unfolding v2 v with_slots with_dirty State.fewer over_net with_nets
  inside2 i h = c.inside i (rw list_is at h)

  pub m2 : is_dirty e n ≡ true → Means Named (Edits.went_dirty (Edits.vacate ws n) (k + 1)) v2
  unfolding v2 v with_slots net_at
  m2 d =
      subst (λ (x : Engine). Means Named (Edits.went_dirty (Edits.vacate ws n) (k + 1)) x) (went_is k v)
      (went_dirty_means Named (Edits.vacate ws n) v mv k c.net (c.pending d) c.small c.dirty_stale c.dirty_inside)

  pub late : more_stale k v2 ≡ went_dirty k (vacated k n e)
  unfolding v2 v vacated with_slots more_stale
  late = ap (λ (x : Engine). more_stale k x) (sym (went_is k v)) ∙ sym (went_late k v c.net)

  -- the mark that the slot's word says
  pub mark_is : (b : Bool) → is_dirty e n ≡ b → node_word ws n 2 ≡ bit b
  unfolding is_dirty
  mark_is b d = m.marks.mark n c.slot ∙ ap bit d
