-- The first words of an image stay as they were given. Places taken and given, wires and marks write from word 5 on only.
use Prim.Native.Nat.{ℕ, zero, suc, ◌+◌, ◌*◌, ◌<◌, ◌≤◌}
use Rattle.std.specs.Prelude.{refl, Bool, true, false, List, get_or, set}
use Rattle.std.proofs.Common.{arith}
use Rattle.words.specs.Choose.{pick, eq_split, lt_split}
use Rattle.words.specs.Left.{Left}
use Rattle.layout.specs.Layout.{next, less, net_at_words, net_word_words, node_at, node_word, entry_at, entry_word, wait_at, wait_word, set_across, across, node_of, dirty_at, dirty_length, dead}
use Rattle.graph.specs.Graph.{push_dirty, more, fewer, marked, mark_dirty_words, join, link, link_all, remove_wire, remove_node, holes}
use Rattle.pools.specs.Pools.{take_fresh, take, take_slot, take_entry, take_wait, give_slot, give_entry, give_wait}
use Rattle.means.specs.Frame.{Rest, rest_set, rest_trans}

-- words 0 to 4 are given at the start: the mark, the pools and the length of the file
abbrev pub given : ℕ
given = 5

abbrev pub FirstWords : ℕ → Type 0
FirstWords i = i < given

-- they are as they were
abbrev pub First : List ℕ → List ℕ → Type 0
First u ws = Rest FirstWords u ws

-- what a call leaves
abbrev pub Leaves : {A : Type 0} → List ℕ → Left A → Type 0
Leaves u l = First u l.ws

pub all_same : (u : List ℕ) → First u u
all_same u = record { long = refl; same = λ i o. refl }

-- a fact of a choice, from the fact of each side
pub pick_split : {A : Type 0} (t : Bool) (a b : A) (P : A → Type 0) → P a → P b → P (pick t a b)
unfolding pick
pick_split true a b P f g = f
pick_split false a b P f g = g

module _ {u : List ℕ} where
  -- a word after them is written
  pub put : {ws : List ℕ} → First u ws → (j v : ℕ) → given ≤ j → First u (set ws j v)
  put {ws} f j v b = rest_trans f (rest_set FirstWords ws j v (λ i o d. omega arith))

  -- ---- places

  take_first : {ws : List ℕ} → First u ws → (h after pool : ℕ) → given ≤ h → First u (take ws h after pool).ws
  unfolding take take_fresh
  take_first {ws} f h after pool b = eq_split (get_or ws h 0) 0 _ _ (Leaves u)
      (λ e. lt_split (get_or ws (9 + 2 * pool) 0) (get_or ws (1 + pool) 0) _ _ (Leaves u) (λ e. put f (9 + 2 * pool) _ (omega arith)) (λ e. f))
      (λ e. put f h after b)

  pub take_slot_first : {ws : List ℕ} → First u ws → First u (take_slot ws).ws
  unfolding take_slot
  take_slot_first {ws} f = take_first f 8 (node_word ws (less (get_or ws 8 0)) 4) 0 (omega arith)

  pub take_entry_first : {ws : List ℕ} → First u ws → First u (take_entry ws).ws
  unfolding take_entry
  take_entry_first {ws} f = take_first f 10 (entry_word ws (get_or ws 10 0) 1) 1 (omega arith)

  pub take_wait_first : {ws : List ℕ} → First u ws → First u (take_wait ws).ws
  unfolding take_wait
  take_wait_first {ws} f = take_first f 12 (wait_word ws (get_or ws 12 0) 2) 2 (omega arith)

  pub give_slot_first : {ws : List ℕ} → First u ws → (n : ℕ) → First u (give_slot ws n)
  unfolding give_slot
  give_slot_first {ws} f n = put (put f (node_at n 4) (get_or ws 8 0) (omega arith)) 8 (next n) (omega arith)

  pub give_entry_first : {ws : List ℕ} → First u ws → (c : ℕ) → First u (give_entry ws c)
  unfolding give_entry
  give_entry_first {ws} f c = put (put f (entry_at ws c 1) (get_or ws 10 0) (omega arith)) 10 c (omega arith)

  pub give_wait_first : {ws : List ℕ} → First u ws → (c : ℕ) → First u (give_wait ws c)
  unfolding give_wait
  give_wait_first {ws} f c = put (put f (wait_at ws c 2) (get_or ws 12 0) (omega arith)) 12 c (omega arith)

  -- ---- marks

  pub more_first : {ws : List ℕ} → First u ws → (t : ℕ) → First u (more ws t)
  unfolding more
  more_first {ws} f t = put f (net_at_words t 7) (next (net_word_words ws t 7)) (omega arith)

  pub fewer_first : {ws : List ℕ} → First u ws → (t : ℕ) → First u (fewer ws t)
  unfolding fewer
  fewer_first {ws} f t = put f (net_at_words t 7) (less (net_word_words ws t 7)) (omega arith)

  push_dirty_first : {ws : List ℕ} → First u ws → (n : ℕ) → First u (push_dirty ws n)
  unfolding push_dirty
  push_dirty_first {ws} f n = put (put (put f (dirty_at (dirty_length ws)) n (omega arith)) 15 _ (omega arith)) 14 _ (omega arith)

  pub mark_dirty_first : {ws : List ℕ} → First u ws → (n : ℕ) → First u (mark_dirty_words ws n)
  unfolding mark_dirty_words marked
  mark_dirty_first {ws} f n =
      eq_split (node_word ws n 2) 0 _ _ (First u) (λ h. more_first (push_dirty_first (put f (node_at n 2) 1 (omega arith)) n) _) (λ h. f)

  -- ---- wires

  pub across_first : {ws : List ℕ} → First u ws → (p q : ℕ) → First u (set_across ws p q)
  across_first f p q = put f (5184 + p) q (omega arith)

  join_first : {ws : List ℕ} → First u ws → (x y : ℕ) → First u (join ws x y)
  unfolding join
  join_first f x y = mark_dirty_first (mark_dirty_first (across_first (across_first f x y) y x) (node_of x)) (node_of y)

  pub link_first : {ws : List ℕ} → First u ws → (a b : ℕ) → First u (link ws a b)
  unfolding link
  link_first {ws} f a b =
      let w = set_across ws a a in
      let s : First u (set_across w b b) = across_first (across_first f a a) b b in
      eq_split (across ws a) b _ _ (First u) (λ h. s) (λ h. join_first s (across ws a) (across w b))

  pub link_all_first : (k : ℕ) {ws : List ℕ} → First u ws → (a b : ℕ) → First u (link_all ws a b k)
  unfolding link_all
  link_all_first zero f a b = f
  link_all_first (suc k) f a b = link_all_first k (link_first f a b) (next a) (next b)

  pub remove_wire_first : {ws : List ℕ} → First u ws → (a b : ℕ) → First u (remove_wire ws a b)
  unfolding remove_wire
  remove_wire_first f a b = across_first (across_first f a a) b b

  -- ---- nodes

  pub remove_node_first : {ws : List ℕ} → First u ws → (n : ℕ) → First u (remove_node ws n)
  unfolding remove_node
  remove_node_first {ws} f n = put (put f (32 + dead ws) n (omega arith)) 17 (next (dead ws)) (omega arith)

  pub holes_first : (k : ℕ) {ws : List ℕ} → First u ws → (p : ℕ) → First u (holes ws p k)
  unfolding holes
  holes_first zero f p = f
  holes_first (suc k) f p = holes_first k (across_first f p p) (next p)
