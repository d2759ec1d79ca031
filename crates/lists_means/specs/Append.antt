-- An entry at the end of a net's list, word by word: what stands where afterwards.
use Rattle.std.specs.Prelude.{ℕ, ◌+◌, ◌*◌, ◌%◌, ◌<◌, ◌≤◌, ◌≡◌, refl, ◌≢◌, ◌⊎◌, List, set}
use Rattle.std.proofs.Common.{sym, ◌∙◌, subst, inl, inr}
use Rattle.std.proofs.Math.Path.{ap}
use Rattle.std.proofs.Math.ListN.{length, get_or, length-set}
use Rattle.std.proofs.Math.Seq.{get_or-set_same, get_or-set_other}
use native.Mathlib.Omega.{arith}
use Rattle.std.proofs.Math.Decide.{ℕ_discrete}
use Rattle.words.specs.Choose.{if_eq, eq_yes, eq_no}
use Rattle.layout.specs.Layout.{next, node_pool, net_at_words, net_word_words, entry_at}
use Rattle.graph.specs.Graph.{grown}
use Rattle.lists.specs.Lists.{put_after, count_entry, append}

-- where the pointer to the new entry stands: net k's first, or after entry p
pub record Link (N k p j : ℕ) : Type 0 where
  pub none : p ≡ 0 → j ≡ net_at_words (k + 1) 2
  pub some : p ≢ 0 → j ≡ 5214 + 32 * N + 2 * p + 1

-- the words after entry c, with node n, is put at the end of net k's list, where p was last
pub record Appended (ws w : List ℕ) (N k c n p j : ℕ) : Type 0 where
  pub link : Link N k p j
  pub long : length w ≡ length ws
  pub other : (i : ℕ) → i ≢ 5214 + 32 * N + 2 * c + 0 → i ≢ 5214 + 32 * N + 2 * c + 1 → i ≢ j → i ≢ net_at_words (k + 1) 3 → i ≢ net_at_words (k + 1) 4 → i ≢ net_at_words (k + 1) 5 → get_or w i 0 ≡ get_or ws i 0
  pub node : get_or w (5214 + 32 * N + 2 * c + 0) 0 ≡ n
  pub after : get_or w (5214 + 32 * N + 2 * c + 1) 0 ≡ 0
  pub pointer : get_or w j 0 ≡ c
  pub last : get_or w (net_at_words (k + 1) 3) 0 ≡ c
  pub capacity : get_or w (net_at_words (k + 1) 5) 0 ≡ grown (get_or ws (net_at_words (k + 1) 5) 0) (get_or ws (net_at_words (k + 1) 4) 0)
  pub length_is : get_or w (net_at_words (k + 1) 4) 0 ≡ next (get_or ws (net_at_words (k + 1) 4) 0)

module _ (ws : List ℕ) (N E k c n p j : ℕ) (long : 5216 + 32 * N + 2 * E ≤ length ws) (pos : 0 < c) (fits : c ≤ E) (most : p ≤ E) (apart : p ≢ c) (few : k < 256) (l : Link N k p j) where
  w1 : List ℕ
  w1 = set ws (5214 + 32 * N + 2 * c + 0) n

  w2 : List ℕ
  w2 = set w1 (5214 + 32 * N + 2 * c + 1) 0

  w3 : List ℕ
  w3 = set w2 j c

  w4 : List ℕ
  w4 = set w3 (net_at_words (k + 1) 3) c

  g : ℕ
  g = grown (get_or w4 (net_at_words (k + 1) 5) 0) (get_or w4 (net_at_words (k + 1) 4) 0)

  w5 : List ℕ
  w5 = set w4 (net_at_words (k + 1) 5) g

  -- all six words
  pub chained : List ℕ
  chained = set w5 (net_at_words (k + 1) 4) (next (get_or w4 (net_at_words (k + 1) 4) 0))

  low : (j ≡ net_at_words (k + 1) 2) ⊎ ((j ≡ 5214 + 32 * N + 2 * p + 1) × (0 < p))
  low = go (ℕ_discrete p 0)
    where
      go : Dec (p ≡ 0) → (j ≡ net_at_words (k + 1) 2) ⊎ ((j ≡ 5214 + 32 * N + 2 * p + 1) × (0 < p))
      go (yes z) = inl (l.none z)
      go (no z) = inr (l.some z, omega arith)

  -- the pointer is none of the other words
  pub far : (j ≢ 5214 + 32 * N + 2 * c + 0) × (j ≢ 5214 + 32 * N + 2 * c + 1) × (j ≢ net_at_words (k + 1) 3) × (j ≢ net_at_words (k + 1) 4) × (j ≢ net_at_words (k + 1) 5) × (j < length ws)
  far = go low
    where
      go : (j ≡ net_at_words (k + 1) 2) ⊎ ((j ≡ 5214 + 32 * N + 2 * p + 1) × (0 < p))
          → (j ≢ 5214 + 32 * N + 2 * c + 0) × (j ≢ 5214 + 32 * N + 2 * c + 1) × (j ≢ net_at_words (k + 1) 3) × (j ≢ net_at_words (k + 1) 4) × (j ≢ net_at_words (k + 1) 5) × (j < length ws)
      go (inl z) = omega arith
      go (inr z) = omega arith

  before : (i : ℕ) → i ≢ 5214 + 32 * N + 2 * c + 0 → i ≢ 5214 + 32 * N + 2 * c + 1 → i ≢ j → i ≢ net_at_words (k + 1) 3 → get_or w4 i 0 ≡ get_or ws i 0
  unfolding w4 w3 w2 w1
  before i a b d f = get_or-set_other w3 _ i c 0 f ∙ get_or-set_other w2 j i c 0 d ∙ get_or-set_other w1 _ i 0 0 b ∙ get_or-set_other ws _ i n 0 a

  behind : (i : ℕ) → i ≢ net_at_words (k + 1) 4 → i ≢ net_at_words (k + 1) 5 → get_or chained i 0 ≡ get_or w4 i 0
  unfolding chained w5
  behind i a b = get_or-set_other w5 _ i _ 0 a ∙ get_or-set_other w4 _ i g 0 b

  sizes : (length w1 ≡ length ws) × (length w2 ≡ length ws) × (length w3 ≡ length ws) × (length w4 ≡ length ws) × (length w5 ≡ length ws) × (length chained ≡ length ws)
  unfolding chained w5 w4 w3 w2 w1
  sizes =
      let a : length w1 ≡ length ws = length-set ws _ n in
      let b : length w2 ≡ length w1 = length-set w1 _ 0 in
      let d : length w3 ≡ length w2 = length-set w2 j c in
      let f : length w4 ≡ length w3 = length-set w3 _ c in
      let h : length w5 ≡ length w4 = length-set w4 _ g in
      let i : length chained ≡ length w5 = length-set w5 _ _ in
      omega arith

  pub appended : Appended ws chained N k c n p j
  unfolding chained w5 g w4 w3 w2 w1
  appended =
      let f = far in
      let s = sizes in
      let e4 : get_or w4 (net_at_words (k + 1) 4) 0 ≡ get_or ws (net_at_words (k + 1) 4) 0 = before _ (omega arith) (omega arith) (omega arith) (omega arith) in
      let e5 : get_or w4 (net_at_words (k + 1) 5) 0 ≡ get_or ws (net_at_words (k + 1) 5) 0 = before _ (omega arith) (omega arith) (omega arith) (omega arith) in
      record {
        link = l;
        long = s.5;
        other = λ i a b d x y z. behind i y z ∙ before i a b d x;
        node = behind _ (omega arith) (omega arith) ∙ get_or-set_other w3 _ (5214 + 32 * N + 2 * c + 0) c 0 (omega arith) ∙ get_or-set_other w2 j _ c 0 (omega arith)
            ∙ get_or-set_other w1 _ _ 0 0 (omega arith) ∙ get_or-set_same ws _ n 0 (omega arith);
        after = behind _ (omega arith) (omega arith) ∙ get_or-set_other w3 _ (5214 + 32 * N + 2 * c + 1) c 0 (omega arith) ∙ get_or-set_other w2 j _ c 0 (omega arith)
            ∙ get_or-set_same w1 _ 0 0 (omega arith);
        pointer = behind j (omega arith) (omega arith) ∙ get_or-set_other w3 _ j c 0 (omega arith) ∙ get_or-set_same w2 j c 0 (omega arith);
        last = behind _ (omega arith) (omega arith) ∙ get_or-set_same w3 (net_at_words (k + 1) 3) c 0 (omega arith);
        capacity = get_or-set_other w5 _ (net_at_words (k + 1) 5) _ 0 (omega arith) ∙ get_or-set_same w4 _ g 0 (omega arith) ∙ (λ i. grown (e5 i) (e4 i));
        length_is = get_or-set_same w5 (net_at_words (k + 1) 4) _ 0 (omega arith) ∙ ap next e4;
      }

-- where the pointer stands
unfoldable pub pointer_at : ℕ → ℕ → ℕ → ℕ
pointer_at N k p = if_eq p 0 (net_at_words (k + 1) 2) (5214 + 32 * N + 2 * p + 1)

pub pointer_link : (N k p : ℕ) → Link N k p (pointer_at N k p)
unfolding pointer_at
pointer_link N k p = record { none = λ z. sym (eq_yes p 0 _ _ z refl); some = λ z. sym (eq_no p 0 _ _ z refl) }

pub put_is : (w : List ℕ) (N k p c : ℕ) → node_pool w ≡ N → put_after w (k + 1) p c ≡ set w (pointer_at N k p) c
unfolding put_after pointer_at
put_is w N k p c e = go (ℕ_discrete p 0)
  where
    go : Dec (p ≡ 0) → if_eq p 0 (set w (net_at_words (k + 1) 2) c) (set w (5214 + 32 * node_pool w + 2 * p + 1) c) ≡ set w (if_eq p 0 (net_at_words (k + 1) 2) (5214 + 32 * N + 2 * p + 1)) c
    go (yes z) = sym (eq_yes p 0 _ _ z (ap (λ (i : ℕ). set w i c) (sym (eq_yes p 0 _ _ z refl))))
    go (no z) = sym (eq_no p 0 _ _ z (ap (λ (i : ℕ). set w i c) (sym (eq_no p 0 _ _ z refl)) ∙ ap (λ (i : ℕ). set w (5214 + 32 * i + 2 * p + 1) c) (sym e)))

-- the words of `append` are these
pub append_is : (ws : List ℕ) (N E k c n : ℕ) (long : 5216 + 32 * N + 2 * E ≤ length ws) (pos : 0 < c) (fits : c ≤ E) (most : net_word_words ws (k + 1) 3 ≤ E)
    (apart : net_word_words ws (k + 1) 3 ≢ c) (few : k < 256) → node_pool ws ≡ N
    → append ws (k + 1) n c ≡ chained ws N E k c n (net_word_words ws (k + 1) 3) (pointer_at N k (net_word_words ws (k + 1) 3)) long pos fits most apart few (pointer_link N k (net_word_words ws (k + 1) 3))
unfolding append count_entry chained w5 g w4 w3 w2 w1
append_is ws N E k c n long pos fits most apart few e =
    let v1 = set ws (5214 + 32 * N + 2 * c + 0) n in
    let v2 = set v1 (5214 + 32 * N + 2 * c + 1) 0 in
    let e1 : node_pool v1 ≡ N = get_or-set_other ws (5214 + 32 * N + 2 * c + 0) 1 n 0 (omega arith) ∙ e in
    let e2 : node_pool v2 ≡ N = get_or-set_other v1 (5214 + 32 * N + 2 * c + 1) 1 0 0 (omega arith) ∙ e1 in
    rw (e, e1, put_is v2 N k (net_word_words ws (k + 1) 3) c e2) refl
