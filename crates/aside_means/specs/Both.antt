-- A mark and a pending number on the words: they do not look at the waits' words, and leave them as they are.
use Rattle.std.specs.Prelude.{ℕ, ◌+◌, ◌*◌, ◌<◌, ◌≤◌, ◌≡◌, List, length, get_or}
use Rattle.std.proofs.Math.Path.{refl, ap}
use Rattle.std.proofs.Common.{sym, ◌∙◌, subst, length-set, get_or-set_same, arith}
use Rattle.std.proofs.Math.ListN.{set}
use Rattle.std.proofs.Math.Seq.{get_or-set_other, set_out}
use Rattle.std.proofs.Math.Decide.{dec_lt, ℕ_discrete}
use Rattle.words.specs.Choose.{eq_split, if_eq, eq_yes, eq_no}
use Rattle.layout.specs.Layout.{next, less, dirty_at, dirty_length, dirty_capacity, net_at_words, net_word_words, node_at, node_word, set_node_word}
use Rattle.graph.specs.Graph.{grown, push_dirty, more, fewer, marked, mark_dirty_words}
use Rattle.means.specs.Frame.{Rest, rest_set, rest_trans, OutWaits}

-- the waits' words
abbrev pub InWaits : ℕ → ℕ → ℕ → Type 0
InWaits N E i = OutWaits N E i → ⊥

-- ---- words that agree, written alike, agree

both_set : (Out : ℕ → Type 0) (a b : List ℕ) → Rest Out a b → (i u v : ℕ) → (Out i → u ≡ v) → Rest Out (set a i u) (set b i v)
both_set Out a b r i u v e = record {
  long = length-set b i v ∙ r.long ∙ sym (length-set a i u);
  same = λ j o. go j o (ℕ_discrete j i) (dec_lt i (length a));
}
  where
    go : (j : ℕ) → Out j → Dec (j ≡ i) → Dec (i < length a) → get_or (set b i v) j 0 ≡ get_or (set a i u) j 0
    go j o (yes d) (yes l) =
        let k = r.long in
        let s : u ≡ v = e (subst Out d o) in
        rw d (get_or-set_same b i v 0 (omega arith) ∙ sym s ∙ sym (get_or-set_same a i u 0 l))
    go j o (yes d) (no l) = let k = r.long in rw (set_out b i v (omega arith), set_out a i u (omega arith)) (r.same j o)
    go j o (no d) l = get_or-set_other b i j v 0 d ∙ r.same j o ∙ sym (get_or-set_other a i j u 0 d)

module _ (N E : ℕ) (a b : List ℕ) (r : Rest (OutWaits N E) a b) where
  push_both : (n : ℕ) → Rest (OutWaits N E) (push_dirty a n) (push_dirty b n)
  unfolding push_dirty
  push_both n =
      let c : dirty_length b ≡ dirty_length a = r.same 14 (omega arith) in
      let d : dirty_capacity b ≡ dirty_capacity a = r.same 15 (omega arith) in
      rw (c, d) (both_set _ _ _ (both_set _ _ _ (both_set _ a b r (dirty_at (dirty_length a)) n n (λ o. refl)) 15 (grown (dirty_capacity a) (dirty_length a)) (grown (dirty_capacity a) (dirty_length a)) (λ o. refl))
      14 (next (dirty_length a)) (next (dirty_length a)) (λ o. refl))

  pub more_both : (t : ℕ) → Rest (OutWaits N E) (more a t) (more b t)
  unfolding more
  more_both t = both_set _ a b r (net_at_words t 7) (next (net_word_words a t 7)) (next (net_word_words b t 7)) (λ o. ap next (sym (r.same (net_at_words t 7) o)))

  pub fewer_both : (t : ℕ) → Rest (OutWaits N E) (fewer a t) (fewer b t)
  unfolding fewer
  fewer_both t = both_set _ a b r (net_at_words t 7) (less (net_word_words a t 7)) (less (net_word_words b t 7)) (λ o. ap less (sym (r.same (net_at_words t 7) o)))

module _ (N E : ℕ) (a b : List ℕ) (r : Rest (OutWaits N E) a b) (n : ℕ) (h : n < N) where
  marked_both : Rest (OutWaits N E) (marked a n) (marked b n)
  unfolding marked
  marked_both =
      let p = push_both N E (set_node_word a n 2 1) (set_node_word b n 2 1) (both_set _ a b r (node_at n 2) 1 1 (λ o. refl)) n in
      let t : node_word (push_dirty (set_node_word b n 2 1) n) n 0 ≡ node_word (push_dirty (set_node_word a n 2 1) n) n 0 = p.same (node_at n 0) (omega arith) in
      rw t (more_both N E _ _ p (node_word (push_dirty (set_node_word a n 2 1) n) n 0))

  pub mark_both : Rest (OutWaits N E) (mark_dirty_words a n) (mark_dirty_words b n)
  unfolding mark_dirty_words
  mark_both =
      let d : node_word b n 2 ≡ node_word a n 2 = r.same (node_at n 2) (omega arith) in
      rw d (go (ℕ_discrete (node_word a n 2) 0))
    where
      go : Dec (node_word a n 2 ≡ 0) → Rest (OutWaits N E) (if_eq (node_word a n 2) 0 (marked a n) a) (if_eq (node_word a n 2) 0 (marked b n) b)
      go (yes z) = rw (← eq_yes (node_word a n 2) 0 (marked a n) a z refl, ← eq_yes (node_word a n 2) 0 (marked b n) b z refl) marked_both
      go (no z) = rw (← eq_no (node_word a n 2) 0 (marked a n) a z refl, ← eq_no (node_word a n 2) 0 (marked b n) b z refl) r

-- ---- and the waits' words are as they were

module _ (N E : ℕ) (a : List ℕ) where
  push_kept : (n : ℕ) → dirty_length a < 4 * N + 4 → Rest (InWaits N E) a (push_dirty a n)
  unfolding push_dirty
  push_kept n room =
      rest_trans (rest_trans (rest_set (InWaits N E) a (dirty_at (dirty_length a)) n (λ i o d. o (omega arith))) (rest_set (InWaits N E) _ 15 _ (λ i o d. o (omega arith))))
      (rest_set (InWaits N E) _ 14 _ (λ i o d. o (omega arith)))

  pub more_kept : (t : ℕ) → t ≤ 256 → Rest (InWaits N E) a (more a t)
  unfolding more
  more_kept t few = rest_set (InWaits N E) a (net_at_words t 7) (next (net_word_words a t 7)) (λ i o d. o (omega arith))

  pub fewer_kept : (t : ℕ) → t ≤ 256 → Rest (InWaits N E) a (fewer a t)
  unfolding fewer
  fewer_kept t few = rest_set (InWaits N E) a (net_at_words t 7) (less (net_word_words a t 7)) (λ i o d. o (omega arith))

module _ (N E : ℕ) (a : List ℕ) (n : ℕ) (h : n < N) (room : node_word a n 2 ≡ 0 → dirty_length a < 4 * N + 4) (few : node_word a n 0 ≤ 256) where
  -- the slot's net is as it was
  net_kept : node_word (push_dirty (set_node_word a n 2 1) n) n 0 ≡ node_word a n 0
  unfolding push_dirty
  net_kept =
      let w0 = set_node_word a n 2 1 in
      let k = dirty_length w0 in
      let c = grown (dirty_capacity w0) k in
      let w1 = set w0 (dirty_at k) n in
      get_or-set_other (set w1 15 c) 14 (node_at n 0) (next k) 0 (omega arith) ∙ get_or-set_other w1 15 (node_at n 0) c 0 (omega arith)
      ∙ get_or-set_other w0 (dirty_at k) (node_at n 0) n 0 (omega arith) ∙ get_or-set_other a (node_at n 2) (node_at n 0) 1 0 (omega arith)

  marked_kept : node_word a n 2 ≡ 0 → Rest (InWaits N E) a (marked a n)
  unfolding marked
  marked_kept z =
      let w1 = set_node_word a n 2 1 in
      let w2 = push_dirty w1 n in
      let k : dirty_length w1 ≡ dirty_length a = get_or-set_other a (node_at n 2) 14 1 0 (omega arith) in
      let i = room z in
      let t : node_word w2 n 0 ≡ node_word a n 0 = net_kept in
      let r1 : Rest (InWaits N E) a w1 = rest_set (InWaits N E) a (node_at n 2) 1 (λ i o d. o (omega arith)) in
      rest_trans (rest_trans r1 (push_kept N E w1 n (omega arith))) (more_kept N E w2 (node_word w2 n 0) (omega arith))

  pub mark_kept : Rest (InWaits N E) a (mark_dirty_words a n)
  unfolding mark_dirty_words
  mark_kept = eq_split (node_word a n 2) 0 (marked a n) a (Rest (InWaits N E) a) marked_kept (λ z. record { long = refl; same = λ i o. refl })
