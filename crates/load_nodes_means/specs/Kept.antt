-- What an edit leaves alone: the nets by name, and the words of nets that are not there yet.
use Prim.Native.Nat.{ℕ, zero, suc, ◌+◌, ◌*◌, ◌%◌, ◌<◌, ◌≤◌}
use Rattle.std.specs.Prelude.{◌≡◌, refl, Bool, get_or, set}
use Rattle.std.proofs.Common.{◌∙◌, arith}
use Rattle.std.proofs.Math.Bool.{true, false}
use mathlib.Core.List.{List}
use Rattle.std.proofs.Math.Seq.{get_or-set_other}
use Rattle.words.specs.Choose.{pick, eq_split, lt_split}
use Rattle.words.specs.Left.{Left}
use Rattle.layout.specs.Layout.{next, less, dirty_at, dirty_length, net_word_words, net_at_words, set_net_word, node_at, node_word, set_node_word, node_of, set_across, entry_word, entry_at, set_entry_word, principal}
use Rattle.graph.specs.Graph.{grown, push_dirty, more, marked, mark_dirty_words, join, holes}
use Rattle.pools.specs.Pools.{take_fresh, take, take_slot, take_entry}
use Rattle.lists.specs.Lists.{put_after, count_entry, append, push_node}
use Rattle.edits.specs.declared.Placed.{Placed}
use Rattle.edits.specs.declared.Placed.TheVariants.{At, Refused}
use Rattle.edits.specs.Edits.{fill, placed_in, place_node}
use Rattle.means.specs.Frame.{Rest, rest_set, rest_trans}

-- words 64 to 5,183 but those of the nets 1 to M
abbrev pub Beside : ℕ → ℕ → Type 0
Beside M i = (64 ≤ i) × (i < 5184) × ((1088 ≤ i) × (i < 1088 + 16 * M) → ⊥)

-- node n's net is one of M
abbrev pub InNet : ℕ → List ℕ → ℕ → Type 0
InNet M ws n = (1 ≤ node_word ws n 0) × (node_word ws n 0 ≤ M)

module _ (M : ℕ) (few : M ≤ 256) where
  kept : (ws : List ℕ) → Rest (Beside M) ws ws
  kept ws = record { long = refl; same = λ i o. refl }

  pub kept_low : (ws : List ℕ) (j v : ℕ) → j < 64 → Rest (Beside M) ws (set ws j v)
  kept_low ws j v h = rest_set (Beside M) ws j v (λ i o d. omega arith)

  pub kept_high : (ws : List ℕ) (j v : ℕ) → 5184 ≤ j → Rest (Beside M) ws (set ws j v)
  kept_high ws j v h = rest_set (Beside M) ws j v (λ i o d. omega arith)

  pub kept_net : (ws : List ℕ) (t f v : ℕ) → 1 ≤ t → t ≤ M → f < 16 → Rest (Beside M) ws (set_net_word ws t f v)
  kept_net ws t f v a b h = rest_set (Beside M) ws (net_at_words t f) v (λ i o d. o.2 (omega arith))

  -- ---- marks

  push_dirty_kept : (ws : List ℕ) (n : ℕ) → Rest (Beside M) ws (push_dirty ws n)
  unfolding push_dirty
  push_dirty_kept ws n = rest_trans (rest_trans (kept_high ws (dirty_at (dirty_length ws)) n (omega arith)) (kept_low _ 15 _ (omega arith))) (kept_low _ 14 _ (omega arith))

  -- a mark does not change whose net a node is
  push_dirty_net : (ws : List ℕ) (n j : ℕ) → node_word (push_dirty ws n) j 0 ≡ node_word ws j 0
  unfolding push_dirty
  push_dirty_net ws n j =
      get_or-set_other (set (set ws (dirty_at (dirty_length ws)) n) 15 _) 14 (node_at j 0) _ 0 (omega arith)
      ∙ get_or-set_other (set ws (dirty_at (dirty_length ws)) n) 15 (node_at j 0) _ 0 (omega arith) ∙ get_or-set_other ws (dirty_at (dirty_length ws)) (node_at j 0) n 0 (omega arith)

  marked_net : (ws : List ℕ) (n j : ℕ) → node_word (push_dirty (set_node_word ws n 2 1) n) j 0 ≡ node_word ws j 0
  marked_net ws n j = push_dirty_net (set_node_word ws n 2 1) n j ∙ get_or-set_other ws (node_at n 2) (node_at j 0) 1 0 (omega arith)

  pub mark_dirty_kept : (ws : List ℕ) (n : ℕ) → InNet M ws n → Rest (Beside M) ws (mark_dirty_words ws n)
  unfolding mark_dirty_words marked more
  mark_dirty_kept ws n i =
      let t = marked_net ws n n in
      eq_split (node_word ws n 2) 0 _ _ (λ (w : List ℕ). Rest (Beside M) ws w)
      (λ h. rest_trans (rest_trans (kept_high ws (node_at n 2) 1 (omega arith)) (push_dirty_kept (set_node_word ws n 2 1) n)) (kept_net _ _ 7 _ (omega arith) (omega arith) (omega arith)))
      (λ h. kept ws)

  pub mark_dirty_net : (ws : List ℕ) (n j : ℕ) → node_word (mark_dirty_words ws n) j 0 ≡ node_word ws j 0
  unfolding mark_dirty_words marked more
  mark_dirty_net ws n j =
      let w = push_dirty (set_node_word ws n 2 1) n in
      eq_split (node_word ws n 2) 0 _ _ (λ (v : List ℕ). node_word v j 0 ≡ node_word ws j 0)
      (λ h. get_or-set_other w (net_at_words (node_word w n 0) 7) (node_at j 0) _ 0 (omega arith) ∙ marked_net ws n j) (λ h. refl)

  -- ---- wires

  pub across_kept : (ws : List ℕ) (p q : ℕ) → Rest (Beside M) ws (set_across ws p q)
  across_kept ws p q = kept_high ws (5184 + p) q (omega arith)

  pub across_net : (ws : List ℕ) (p q j : ℕ) → 8 ≤ p % 32 → node_word (set_across ws p q) j 0 ≡ node_word ws j 0
  across_net ws p q j h = get_or-set_other ws (5184 + p) (node_at j 0) q 0 (omega arith)

  pub join_kept : (ws : List ℕ) (x y : ℕ) → 8 ≤ x % 32 → 8 ≤ y % 32 → InNet M ws (node_of x) → InNet M ws (node_of y) → Rest (Beside M) ws (join ws x y)
  unfolding join
  join_kept ws x y a b i j =
      let w1 = set_across ws x y in
      let w2 = set_across w1 y x in
      let ex : node_word w2 (node_of x) 0 ≡ node_word ws (node_of x) 0 = across_net w1 y x (node_of x) b ∙ across_net ws x y (node_of x) a in
      let ix : InNet M w2 (node_of x) = rw ex i in
      let ey : node_word (mark_dirty_words w2 (node_of x)) (node_of y) 0 ≡ node_word ws (node_of y) 0
      = mark_dirty_net w2 (node_of x) (node_of y) ∙ across_net w1 y x (node_of y) b ∙ across_net ws x y (node_of y) a in
      rest_trans (rest_trans (rest_trans (across_kept ws x y) (across_kept w1 y x)) (mark_dirty_kept w2 (node_of x) ix)) (mark_dirty_kept (mark_dirty_words w2 (node_of x)) (node_of y) (rw ey j))

  -- ---- a new node

  holes_kept : (k p : ℕ) (ws : List ℕ) → Rest (Beside M) ws (holes ws p k)
  unfolding holes
  holes_kept zero p ws = kept ws
  holes_kept (suc k) p ws = rest_trans (across_kept ws p p) (holes_kept k (next p) (set_across ws p p))

  fill_kept : (ws : List ℕ) (n t name arity : ℕ) → Rest (Beside M) ws (fill ws n t name arity)
  unfolding fill
  fill_kept ws n t name arity =
      rest_trans (rest_trans (rest_trans (kept_high ws (node_at n 0) t (omega arith)) (kept_high _ (node_at n 1) name (omega arith))) (kept_high _ (node_at n 3) arity (omega arith)))
      (holes_kept arity (principal n) _)

  take_kept : (ws : List ℕ) (h after pool : ℕ) → h < 64 → pool < 3 → Rest (Beside M) ws (take ws h after pool).ws
  unfolding take take_fresh
  take_kept ws h after pool a b = eq_split (get_or ws h 0) 0 _ _ (λ (l : Left ℕ). Rest (Beside M) ws l.ws)
      (λ e. lt_split (get_or ws (9 + 2 * pool) 0) (get_or ws (1 + pool) 0) _ _ (λ (l : Left ℕ). Rest (Beside M) ws l.ws) (λ e. kept_low ws (9 + 2 * pool) _ (omega arith)) (λ e. kept ws))
      (λ e. kept_low ws h after a)

  module _ (t : ℕ) (one : 1 ≤ t) (most : t ≤ M) where
    put_after_kept : (ws : List ℕ) (p c : ℕ) → Rest (Beside M) ws (put_after ws t p c)
    unfolding put_after
    put_after_kept ws p c = eq_split p 0 _ _ (λ (w : List ℕ). Rest (Beside M) ws w) (λ e. kept_net ws t 2 c one most (omega arith)) (λ e. kept_high ws (entry_at ws p 1) c (omega arith))

    append_kept : (ws : List ℕ) (n c : ℕ) → Rest (Beside M) ws (append ws t n c)
    unfolding append count_entry
    append_kept ws n c =
        let u = set_entry_word ws c 0 n in
        let v = set_entry_word u c 1 0 in
        let w = put_after v t (net_word_words ws t 3) c in
        let x = set_net_word w t 3 c in
        let y = set_net_word x t 5 (grown (net_word_words x t 5) (net_word_words x t 4)) in
        rest_trans (rest_trans (rest_trans (rest_trans (rest_trans (kept_high ws (entry_at ws c 0) n (omega arith)) (kept_high u (entry_at u c 1) 0 (omega arith)))
        (put_after_kept v (net_word_words ws t 3) c)) (kept_net w t 3 c one most (omega arith))) (kept_net x t 5 _ one most (omega arith))) (kept_net y t 4 _ one most (omega arith))

    push_node_kept : (ws : List ℕ) (n : ℕ) → Rest (Beside M) ws (push_node ws t n).ws
    unfolding push_node take_entry
    push_node_kept ws n =
        let s : Rest (Beside M) ws (take_entry ws).ws = take_kept ws 10 (entry_word ws (get_or ws 10 0) 1) 1 (omega arith) (omega arith) in
        eq_split (take_entry ws).is 0 _ _ (λ (l : Left Bool). Rest (Beside M) ws l.ws) (λ e. s) (λ e. rest_trans s (append_kept (take_entry ws).ws n (take_entry ws).is))

    placed_in_kept : (p : Left Bool) (n name arity : ℕ) → Rest (Beside M) p.ws (placed_in p n t name arity).ws
    unfolding placed_in pick
    placed_in_kept p n name arity = go p.is
      where
        go : (b : Bool) → Rest (Beside M) p.ws (pick {A = Left Placed} b (record { is = At (record { 0 = n }); ws = fill p.ws n t name arity }) (record { is = Refused 10; ws = p.ws })).ws
        go true = fill_kept p.ws n t name arity
        go false = kept p.ws

    pub place_node_kept : (ws : List ℕ) (name arity : ℕ) → Rest (Beside M) ws (place_node ws t name arity).ws
    unfolding place_node take_slot
    place_node_kept ws name arity =
        let s = take_slot ws in
        let a : Rest (Beside M) ws s.ws = take_kept ws 8 (node_word ws (less (get_or ws 8 0)) 4) 0 (omega arith) (omega arith) in
        let p = push_node s.ws t (less s.is) in
        eq_split s.is 0 _ _ (λ (l : Left Placed). Rest (Beside M) ws l.ws) (λ e. a)
        (λ e. rest_trans (rest_trans a (push_node_kept s.ws (less s.is))) (placed_in_kept p (less s.is) name arity))
