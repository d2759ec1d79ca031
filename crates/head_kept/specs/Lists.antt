-- The lists, and nodes put in and taken out, write no word below 5.
use Prim.Native.Nat.{ℕ, zero, suc, ◌+◌}
use Rattle.std.specs.Prelude.{List, get_or}
use Rattle.std.proofs.Math.ListN.{set}
use Rattle.std.proofs.Common.{arith}
use Rattle.words.specs.Choose.{eq_split}
use Rattle.words.specs.Left.{Left}
use Rattle.layout.specs.Layout.{next, less, net_at_words, net_word_words, node_at, node_word, entry_at, entry_word, dirty_at, dirty_length, dirty_stale, principal}
use Rattle.pools.specs.Pools.{take_slot, take_entry}
use Rattle.lists.specs.declared.Walk.{Walk}
use Rattle.lists.specs.Lists.{put_after, count_entry, append, push_node, sift, close, sweep_from, sweep, restore_from, restore, tighten_net_words, dirty_node, keep_dirty, sweep_dirty_from, sweep_dirty, dirty_again, restore_dirty_from, restore_dirty, tighten_dirty_words}
use Rattle.edits.specs.declared.Placed.{Placed}
use Rattle.edits.specs.declared.Placed.TheVariants.{At, Refused}
use Rattle.edits.specs.Edits.{on_placed, fill, placed_in, place_node, insert_node, went_dirty, went, vacate, remove, remove_dead, remove_all, finish_edit_words}
use Rattle.head_kept.specs.Words.{First, Leaves, put, pick_split, take_slot_first, take_entry_first, give_slot_first, give_entry_first, fewer_first, mark_dirty_first, holes_first}

-- by what became of a node
pub placed_split : {A : Type 0} (p : Placed) (f g : ℕ → A) (P : A → Type 0) → ((n : ℕ) → P (f n)) → ((r : ℕ) → P (g r)) → P (on_placed p f g)
unfolding on_placed
placed_split (At n) f g P a b = a n.0
placed_split (Refused r) f g P a b = b r

module _ {u : List ℕ} where
  -- ---- one entry more

  put_after_first : {ws : List ℕ} → First u ws → (t p c : ℕ) → First u (put_after ws t p c)
  unfolding put_after
  put_after_first {ws} f t p c = eq_split p 0 _ _ (First u) (λ h. put f (net_at_words t 2) c (omega arith)) (λ h. put f (entry_at ws p 1) c (omega arith))

  append_first : {ws : List ℕ} → First u ws → (t n c : ℕ) → First u (append ws t n c)
  unfolding append count_entry
  append_first {ws} f t n c =
      let w = set ws (entry_at ws c 0) n in
      put (put (put (put_after_first (put (put f (entry_at ws c 0) n (omega arith)) (entry_at w c 1) 0 (omega arith)) t (net_word_words ws t 3) c) (net_at_words t 3) c (omega arith))
      (net_at_words t 5) _ (omega arith)) (net_at_words t 4) _ (omega arith)

  push_node_first : {ws : List ℕ} → First u ws → (t n : ℕ) → First u (push_node ws t n).ws
  unfolding push_node
  push_node_first {ws} f t n =
      let s = take_entry_first f in
      eq_split (take_entry ws).is 0 _ _ (Leaves u) (λ h. s) (λ h. append_first s t n (take_entry ws).is)

  -- ---- a net's list made tight

  sift_first : {ws : List ℕ} → First u ws → (t : ℕ) (w : Walk) → First u (sift ws t w).ws
  unfolding sift
  sift_first {ws} f t w =
      eq_split (node_word ws (entry_word ws w.entry 0) 0) t _ _ (Leaves u)
      (λ h. put_after_first (put f (node_at (entry_word ws w.entry 0) 0) 257 (omega arith)) t w.last w.entry) (λ h. give_entry_first f w.entry)

  close_first : {ws : List ℕ} → First u ws → (t : ℕ) (w : Walk) → First u (close ws t w)
  unfolding close
  close_first f t w =
      put (put (put (put_after_first f t w.last 0) (net_at_words t 3) w.last (omega arith)) (net_at_words t 4) w.kept (omega arith)) (net_at_words t 6) 0 (omega arith)

  sweep_first : (k : ℕ) {ws : List ℕ} → First u ws → (t : ℕ) (w : Walk) → First u (sweep_from ws t w k)
  unfolding sweep_from
  sweep_first zero f t w = close_first f t w
  sweep_first (suc k) {ws} f t w = sweep_first k (sift_first f t w) t (sift ws t w).is

  restore_first : (k : ℕ) {ws : List ℕ} → First u ws → (t c : ℕ) → First u (restore_from ws t c k)
  unfolding restore_from
  restore_first zero f t c = f
  restore_first (suc k) {ws} f t c = restore_first k (put f (node_at (entry_word ws c 0) 0) t (omega arith)) t _

  pub tighten_net_first : {ws : List ℕ} → First u ws → (t : ℕ) → First u (tighten_net_words ws t)
  unfolding tighten_net_words sweep restore
  tighten_net_first {ws} f t = restore_first (net_word_words (sweep ws t) t 4) (sweep_first (net_word_words ws t 4) f t _) t _

  -- ---- the dirty list made tight

  keep_dirty_first : {ws : List ℕ} → First u ws → (i kept : ℕ) → First u (keep_dirty ws i kept).ws
  unfolding keep_dirty
  keep_dirty_first {ws} f i kept =
      eq_split (node_word ws (dirty_node ws i) 2) 1 _ _ (Leaves u)
      (λ h. put (put f (node_at (dirty_node ws i) 2) 0 (omega arith)) (dirty_at kept) (dirty_node ws i) (omega arith)) (λ h. f)

  sweep_dirty_first : (k : ℕ) {ws : List ℕ} → First u ws → (i kept : ℕ) → First u (sweep_dirty_from ws i kept k)
  unfolding sweep_dirty_from
  sweep_dirty_first zero f i kept = put (put f 14 kept (omega arith)) 16 0 (omega arith)
  sweep_dirty_first (suc k) {ws} f i kept = sweep_dirty_first k (keep_dirty_first f i kept) (i + 1) (keep_dirty ws i kept).is

  restore_dirty_first : (k : ℕ) {ws : List ℕ} → First u ws → (i : ℕ) → First u (restore_dirty_from ws i k)
  unfolding restore_dirty_from dirty_again
  restore_dirty_first zero f i = f
  restore_dirty_first (suc k) {ws} f i = restore_dirty_first k (put f (node_at (dirty_node ws i) 2) 1 (omega arith)) (i + 1)

  tighten_dirty_first : {ws : List ℕ} → First u ws → First u (tighten_dirty_words ws)
  unfolding tighten_dirty_words sweep_dirty restore_dirty
  tighten_dirty_first {ws} f = restore_dirty_first (dirty_length (sweep_dirty ws)) (sweep_dirty_first (dirty_length ws) f 0 0) 0

  -- ---- a node put in

  fill_first : {ws : List ℕ} → First u ws → (n t name arity : ℕ) → First u (fill ws n t name arity)
  unfolding fill
  fill_first f n t name arity = holes_first arity (put (put (put f (node_at n 0) t (omega arith)) (node_at n 1) name (omega arith)) (node_at n 3) arity (omega arith)) (principal n)

  pub place_node_first : {ws : List ℕ} → First u ws → (t name arity : ℕ) → First u (place_node ws t name arity).ws
  unfolding place_node placed_in
  place_node_first {ws} f t name arity = eq_split s.is 0 _ _ (Leaves u) (λ h. a)
      (λ h. pick_split (push_node s.ws t n).is _ _ (Leaves u) (fill_first p n t name arity) p)
    where
      s : Left ℕ
      s = take_slot ws

      n : ℕ
      n = less s.is

      a : First u s.ws
      a = take_slot_first f

      p : First u (push_node s.ws t n).ws
      p = push_node_first a t n

  pub insert_node_first : {ws : List ℕ} → First u ws → (t name arity : ℕ) → First u (insert_node ws t name arity).ws
  unfolding insert_node
  insert_node_first {ws} f t name arity =
      let p = place_node_first f t name arity in
      placed_split (place_node ws t name arity).is _ _ (Leaves u) (λ n. mark_dirty_first p n) (λ r. p)

  -- ---- nodes go

  went_dirty_first : {ws : List ℕ} → First u ws → (t : ℕ) → First u (went_dirty ws t)
  unfolding went_dirty
  went_dirty_first {ws} f t =
      let s = fewer_first (put f 16 (next (dirty_stale ws)) (omega arith)) t in
      pick_split _ _ _ (First u) (tighten_dirty_first s) s

  went_first : {ws : List ℕ} → First u ws → (t : ℕ) → First u (went ws t)
  unfolding went
  went_first {ws} f t =
      let s = put f (net_at_words t 6) (next (net_word_words ws t 6)) (omega arith) in
      pick_split _ _ _ (First u) (tighten_net_first s t) s

  vacate_first : {ws : List ℕ} → First u ws → (n : ℕ) → First u (vacate ws n)
  unfolding vacate
  vacate_first f n = give_slot_first (put (put f (node_at n 0) 0 (omega arith)) (node_at n 2) 0 (omega arith)) n

  remove_first : {ws : List ℕ} → First u ws → (n : ℕ) → First u (remove ws n)
  unfolding remove
  remove_first {ws} f n =
      let t = node_word ws n 0 in
      let v = vacate_first f n in
      eq_split (node_word ws n 2) 1 _ _ (First u) (λ h. went_first (went_dirty_first v t) t) (λ h. went_first v t)

  remove_all_first : (k : ℕ) {ws : List ℕ} → First u ws → (i : ℕ) → First u (remove_all ws i k)
  unfolding remove_all remove_dead
  remove_all_first zero f i = f
  remove_all_first (suc k) {ws} f i = remove_all_first k (remove_first f (get_or ws (32 + i) 0)) (i + 1)

  pub finish_edit_first : {ws : List ℕ} → First u ws → First u (finish_edit_words ws)
  unfolding finish_edit_words
  finish_edit_first {ws} f = put (remove_all_first _ f 0) 17 0 (omega arith)
