-- The waits write no word below 5.
use Prim.Native.Nat.{ℕ, zero, suc}
use Rattle.std.specs.Prelude.{List, get_or}
use Rattle.std.proofs.Math.ListN.{set}
use Rattle.std.proofs.Common.{arith}
use Rattle.words.specs.Choose.{eq_split}
use Rattle.layout.specs.Layout.{net_at_words, net_word_words, node_word, wait_at, wait_word}
use Rattle.pools.specs.Pools.{take_wait}
use Rattle.waits.specs.Waits.{append_wait, waiting, await_net_words, take_waits, wake, next_wait, settle, answer, answer_all, finish_edit_net_words}
use Rattle.head_kept.specs.Words.{First, Leaves, put, take_wait_first, give_wait_first, more_first, fewer_first, mark_dirty_first}

module _ {u : List ℕ} where
  append_wait_first : {ws : List ℕ} → First u ws → (m c : ℕ) → First u (append_wait ws m c)
  unfolding append_wait
  append_wait_first {ws} f m c =
      let w = set ws (wait_at ws c 2) 0 in
      let s = put f (wait_at ws c 2) 0 (omega arith) in
      eq_split (net_word_words ws m 9) 0 _ _ (First u) (λ h. put (put s (net_at_words m 8) c (omega arith)) (net_at_words m 9) c (omega arith))
      (λ h. put (put s (wait_at w (net_word_words ws m 9) 2) c (omega arith)) (net_at_words m 9) c (omega arith))

  waiting_first : {ws : List ℕ} → First u ws → (m n c : ℕ) → First u (waiting ws m n c)
  unfolding waiting
  waiting_first {ws} f m n c =
      let t = node_word ws n 0 in
      let w = set ws (wait_at ws c 0) n in
      more_first (append_wait_first (put (put f (wait_at ws c 0) n (omega arith)) (wait_at w c 1) t (omega arith)) m c) t

  pub await_net_first : {ws : List ℕ} → First u ws → (m n : ℕ) → First u (await_net_words ws m n).ws
  unfolding await_net_words
  await_net_first {ws} f m n =
      let s = take_wait_first f in
      eq_split (net_word_words ws m 7) 0 _ _ (Leaves u) (λ h. f)
      (λ h. eq_split (take_wait ws).is 0 _ _ (Leaves u) (λ h. s) (λ h. waiting_first s m n (take_wait ws).is))

  take_waits_first : {ws : List ℕ} → First u ws → (t rest : ℕ) → First u (take_waits ws t rest).ws
  unfolding take_waits
  take_waits_first {ws} f t rest =
      eq_split (net_word_words ws t 8) 0 _ _ (Leaves u) (λ h. f)
      (λ h. put (put (put f (wait_at ws (net_word_words ws t 9) 2) rest (omega arith)) (net_at_words t 8) 0 (omega arith)) (net_at_words t 9) 0 (omega arith))

  wake_first : {ws : List ℕ} → First u ws → (n t : ℕ) → First u (wake ws n t)
  unfolding wake
  wake_first {ws} f n t = eq_split (node_word ws n 0) t _ _ (First u) (λ h. mark_dirty_first f n) (λ h. f)

  settle_first : {ws : List ℕ} → First u ws → (n t rest : ℕ) → First u (settle ws n t rest).ws
  unfolding settle next_wait
  settle_first {ws} f n t rest =
      let s = fewer_first (wake_first f n t) t in
      eq_split _ 0 _ _ (Leaves u) (λ h. take_waits_first s t rest) (λ h. s)

  answer_first : {ws : List ℕ} → First u ws → (c : ℕ) → First u (answer ws c).ws
  unfolding answer
  answer_first {ws} f c = settle_first (give_wait_first f c) (wait_word ws c 0) (wait_word ws c 1) (wait_word ws c 2)

  answer_all_first : (k : ℕ) {ws : List ℕ} → First u ws → (c : ℕ) → First u (answer_all ws c k)
  unfolding answer_all
  answer_all_first zero f c = f
  answer_all_first (suc k) {ws} f c = eq_split c 0 _ _ (First u) (λ h. f) (λ h. answer_all_first k (answer_first f c) (answer ws c).is)

  pub finish_edit_net_first : {ws : List ℕ} → First u ws → (t : ℕ) → First u (finish_edit_net_words ws t)
  unfolding finish_edit_net_words
  finish_edit_net_first {ws} f t =
      let a = take_waits ws t 0 in
      eq_split (net_word_words ws t 7) 0 _ _ (First u) (λ h. answer_all_first (get_or a.ws 13 0) (take_waits_first f t 0) a.is) (λ h. f)
