-- A wait at the end of a net's waits, word by word: what stands where afterwards.
use Rattle.std.specs.Prelude.{ℕ, ◌+◌, ◌*◌, ◌<◌, ◌≤◌, ◌≡◌, refl, ◌≢◌, ◌⊎◌, List}
use Rattle.std.proofs.Common.{sym, ap, ◌∙◌, inl, inr, arith}
use Rattle.std.proofs.Math.ListN.{length, get_or, set, length-set}
use Rattle.std.proofs.Math.Seq.{get_or-set_same, get_or-set_other}
use Rattle.std.proofs.Math.Decide.{ℕ_discrete}
use Rattle.words.specs.Choose.{if_eq, eq_yes, eq_no}
use Rattle.layout.specs.Layout.{node_pool, entry_pool, net_at_words, net_word_words, set_wait_word}
use Rattle.waits.specs.Waits.{append_wait}
use Rattle.chains.specs.Moves.{Hung}
use Rattle.means.specs.Means.{waits_in}
use Rattle.waits_means.specs.Places.{place}

-- where the pointer to the new wait stands: net k's first, or after wait p
pub record Link (N E k p j : ℕ) : Type 0 where
  pub none : p ≡ 0 → j ≡ net_at_words (k + 1) 8
  pub some : p ≢ 0 → j ≡ place N E p 2

-- the words after wait c, of node n of net t in words, is put at the end of net k's waits, where p was last
pub record Appended (ws w : List ℕ) (N E k c n t p j : ℕ) : Type 0 where
  pub link : Link N E k p j
  pub long : length w ≡ length ws
  pub other : (i : ℕ) → i ≢ place N E c 0 → i ≢ place N E c 1 → i ≢ place N E c 2 → i ≢ j → i ≢ net_at_words (k + 1) 9 → get_or w i 0 ≡ get_or ws i 0
  pub node : get_or w (place N E c 0) 0 ≡ n
  pub net : get_or w (place N E c 1) 0 ≡ t
  pub after : get_or w (place N E c 2) 0 ≡ 0
  pub pointer : get_or w j 0 ≡ c
  pub last : get_or w (net_at_words (k + 1) 9) 0 ≡ c

-- all five words
unfoldable pub chained : List ℕ → ℕ → ℕ → ℕ → ℕ → ℕ → ℕ → ℕ → List ℕ
chained ws N E k c n t j = set (set (set (set (set ws (place N E c 0) n) (place N E c 1) t) (place N E c 2) 0) j c) (net_at_words (k + 1) 9) c

module _ (ws : List ℕ) (N E W k c n t p j : ℕ) (long : 5216 + 32 * N + 2 * E + 3 * W ≤ length ws) (pos : 0 < c) (fits : c ≤ W) (most : p ≤ W) (apart : p ≢ c) (few : k < 256)
    (l : Link N E k p j) where
  low : (j ≡ net_at_words (k + 1) 8) ⊎ ((j ≡ place N E p 2) × (0 < p))
  low = go (ℕ_discrete p 0)
    where
      go : Dec (p ≡ 0) → (j ≡ net_at_words (k + 1) 8) ⊎ ((j ≡ place N E p 2) × (0 < p))
      go (yes z) = inl (l.none z)
      go (no z) = inr (l.some z, omega arith)

  -- the pointer is none of the other words
  pub far : (j ≢ place N E c 0) × (j ≢ place N E c 1) × (j ≢ place N E c 2) × (j ≢ net_at_words (k + 1) 9) × (j < length ws)
  far = go low
    where
      go : (j ≡ net_at_words (k + 1) 8) ⊎ ((j ≡ place N E p 2) × (0 < p)) → (j ≢ place N E c 0) × (j ≢ place N E c 1) × (j ≢ place N E c 2) × (j ≢ net_at_words (k + 1) 9) × (j < length ws)
      go (inl z) = omega arith
      go (inr z) = omega arith

  pub appended : Appended ws (chained ws N E k c n t j) N E k c n t p j
  unfolding chained
  appended =
      let f = far in
      let w1 = set ws (place N E c 0) n in
      let w2 = set w1 (place N E c 1) t in
      let w3 = set w2 (place N E c 2) 0 in
      let w4 = set w3 j c in
      let w5 = set w4 (net_at_words (k + 1) 9) c in
      let l1 : length w1 ≡ length ws = length-set ws (place N E c 0) n in
      let l2 : length w2 ≡ length w1 = length-set w1 (place N E c 1) t in
      let l3 : length w3 ≡ length w2 = length-set w2 (place N E c 2) 0 in
      let l4 : length w4 ≡ length w3 = length-set w3 j c in
      let l5 : length w5 ≡ length w4 = length-set w4 (net_at_words (k + 1) 9) c in
      let o5 : (i : ℕ) → i ≢ net_at_words (k + 1) 9 → get_or w5 i 0 ≡ get_or w4 i 0 = λ i d. get_or-set_other w4 (net_at_words (k + 1) 9) i c 0 d in
      let o4 : (i : ℕ) → i ≢ j → get_or w4 i 0 ≡ get_or w3 i 0 = λ i d. get_or-set_other w3 j i c 0 d in
      let o3 : (i : ℕ) → i ≢ place N E c 2 → get_or w3 i 0 ≡ get_or w2 i 0 = λ i d. get_or-set_other w2 (place N E c 2) i 0 0 d in
      let o2 : (i : ℕ) → i ≢ place N E c 1 → get_or w2 i 0 ≡ get_or w1 i 0 = λ i d. get_or-set_other w1 (place N E c 1) i t 0 d in
      record {
        link = l;
        long = omega arith;
        other = λ i a b d x y. o5 i y ∙ o4 i x ∙ o3 i d ∙ o2 i b ∙ get_or-set_other ws (place N E c 0) i n 0 a;
        node = o5 _ (omega arith) ∙ o4 _ (λ q. f.0 (sym q)) ∙ o3 _ (omega arith) ∙ o2 _ (omega arith) ∙ get_or-set_same ws (place N E c 0) n 0 (omega arith);
        net = o5 _ (omega arith) ∙ o4 _ (λ q. f.1 (sym q)) ∙ o3 _ (omega arith) ∙ get_or-set_same w1 (place N E c 1) t 0 (omega arith);
        after = o5 _ (omega arith) ∙ o4 _ (λ q. f.2 (sym q)) ∙ get_or-set_same w2 (place N E c 2) 0 0 (omega arith);
        pointer = o5 j f.3 ∙ get_or-set_same w3 j c 0 (omega arith);
        last = get_or-set_same w4 (net_at_words (k + 1) 9) c 0 (omega arith);
      }

-- where the pointer stands
unfoldable pub pointer_at : ℕ → ℕ → ℕ → ℕ → ℕ
pointer_at N E k p = if_eq p 0 (net_at_words (k + 1) 8) (place N E p 2)

pub pointer_link : (N E k p : ℕ) → Link N E k p (pointer_at N E k p)
unfolding pointer_at
pointer_link N E k p = record { none = λ z. sym (eq_yes p 0 _ _ z refl); some = λ z. sym (eq_no p 0 _ _ z refl) }

-- the words of `append-wait`, after node and net, are these
pub append_is : (ws : List ℕ) (N E k c n t : ℕ) → 0 < c → k < 256 → node_pool ws ≡ N → entry_pool ws ≡ E
    → append_wait (set_wait_word (set_wait_word ws c 0 n) c 1 t) (k + 1) c ≡ chained ws N E k c n t (pointer_at N E k (net_word_words ws (k + 1) 9))
unfolding append_wait chained pointer_at
append_is ws N E k c n t pos few e_n e_e = rw (e_n, e_e, n1, e1, p2, n2, e2, n3, e3) (go (ℕ_discrete (net_word_words ws (k + 1) 9) 0))
  where
    v1 : List ℕ
    v1 = set ws (place N E c 0) n

    v2 : List ℕ
    v2 = set v1 (place N E c 1) t

    v3 : List ℕ
    v3 = set v2 (place N E c 2) 0

    n1 : node_pool v1 ≡ N
    n1 = get_or-set_other ws (place N E c 0) 1 n 0 (omega arith) ∙ e_n

    e1 : entry_pool v1 ≡ E
    e1 = get_or-set_other ws (place N E c 0) 2 n 0 (omega arith) ∙ e_e

    n2 : node_pool v2 ≡ N
    n2 = get_or-set_other v1 (place N E c 1) 1 t 0 (omega arith) ∙ n1

    e2 : entry_pool v2 ≡ E
    e2 = get_or-set_other v1 (place N E c 1) 2 t 0 (omega arith) ∙ e1

    n3 : node_pool v3 ≡ N
    n3 = get_or-set_other v2 (place N E c 2) 1 0 0 (omega arith) ∙ n2

    e3 : entry_pool v3 ≡ E
    e3 = get_or-set_other v2 (place N E c 2) 2 0 0 (omega arith) ∙ e2

    p2 : net_word_words v2 (k + 1) 9 ≡ net_word_words ws (k + 1) 9
    p2 = get_or-set_other v1 (place N E c 1) (net_at_words (k + 1) 9) t 0 (omega arith) ∙ get_or-set_other ws (place N E c 0) (net_at_words (k + 1) 9) n 0 (omega arith)

    go : Dec (net_word_words ws (k + 1) 9 ≡ 0)
        → if_eq (net_word_words ws (k + 1) 9) 0 (set (set v3 (net_at_words (k + 1) 8) c) (net_at_words (k + 1) 9) c) (set (set v3 (place N E (net_word_words ws (k + 1) 9) 2) c) (net_at_words (k + 1) 9) c)
        ≡ set (set v3 (if_eq (net_word_words ws (k + 1) 9) 0 (net_at_words (k + 1) 8) (place N E (net_word_words ws (k + 1) 9) 2)) c) (net_at_words (k + 1) 9) c
    go (yes z) = sym (eq_yes (net_word_words ws (k + 1) 9) 0 _ _ z (ap (λ (i : ℕ). set (set v3 i c) (net_at_words (k + 1) 9) c) (sym (eq_yes (net_word_words ws (k + 1) 9) 0 _ _ z refl))))
    go (no z) = sym (eq_no (net_word_words ws (k + 1) 9) 0 _ _ z (ap (λ (i : ℕ). set (set v3 i c) (net_at_words (k + 1) 9) c) (sym (eq_no (net_word_words ws (k + 1) 9) 0 _ _ z refl))))

-- what is not where the pointer can stand
pub not_there : {N E k p j : ℕ} → Link N E k p j → (i : ℕ) → i ≢ net_at_words (k + 1) 8 → (p ≢ 0 → i ≢ place N E p 2) → i ≢ j
not_there {p = p} {j} l i a b = go (ℕ_discrete p 0)
  where
    go : Dec (p ≡ 0) → i ≢ j
    go (yes z) = λ d. a (d ∙ l.none z)
    go (no z) = λ d. b z (d ∙ l.some z)

-- and these words are a hung wait
pub hung_is : (ws w : List ℕ) (N E k c n t p j m : ℕ) → m ≤ 256 → k < m → 0 < c → p ≢ c → Appended ws w N E k c n t p j
    → Hung (waits_in ws N E) (waits_in w N E) m k c p (n, t)
hung_is ws w N E k c n t p j m few h pos d a = record {
  used = keep 13 (omega arith) (omega arith) (omega arith) (omega arith) (omega arith) (omega arith);
  first = keep 12 (omega arith) (omega arith) (omega arith) (omega arith) (omega arith) (omega arith);
  heads = λ u i q. keep (net_at_words (u + 1) 8) (omega arith) (omega arith) (omega arith) (omega arith) (omega arith) (omega arith);
  tails = λ u i q. keep (net_at_words (u + 1) 9) (omega arith) (omega arith) (omega arith) (omega arith) (omega arith) (omega arith);
  tail = a.last;
  nodes = λ u i b q y. (
    keep (place N E u 0) (omega arith) (omega arith) (omega arith) (omega arith) (omega arith) (omega arith) y,
    keep (place N E u 1) (omega arith) (omega arith) (omega arith) (omega arith) (omega arith) (omega arith) y,
  );
  node = λ y. (a.node y, a.net y);
  none = λ z. rw (← a.link.none z) a.pointer;
  some = λ z. (
    a.other (net_at_words (k + 1) 8) (omega arith) (omega arith) (omega arith) (λ q. let y = a.link.some z in omega arith) (omega arith),
    rw (← a.link.some z) a.pointer,
  );
  afters = λ u i b q r. keep (place N E u 2) (omega arith) (omega arith) (omega arith) (omega arith) (omega arith) (omega arith);
  after = a.after;
}
  where
    keep : (i : ℕ) → i ≢ place N E c 0 → i ≢ place N E c 1 → i ≢ place N E c 2 → i ≢ net_at_words (k + 1) 8 → (p ≢ 0 → i ≢ place N E p 2) → i ≢ net_at_words (k + 1) 9 → get_or w i 0 ≡ get_or ws i 0
    keep i x y z u v q = a.other i x y z (not_there a.link i u v) q
