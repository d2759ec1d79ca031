-- A pass over a net's list: what the words are while it is under way, and at its end.
use Rattle.std.specs.Prelude.{ℕ, ◌+◌, ◌*◌, ◌<◌, ◌≤◌, ◌≡◌, ◌≢◌, ◌⊎◌, Bool, eqb}
use Rattle.std.proofs.Math.Path.{refl}
use Rattle.std.proofs.Common.{sym, ◌∙◌, inl, inr}
use mathlib.Core.List.{List, [], map, Memᴰ}
use Rattle.std.proofs.Math.ListN.{length, get_or, set, length-set}
use Rattle.std.proofs.Math.Seq.{get_or-set_same, get_or-set_other}
use native.Mathlib.Omega.{arith}
use Rattle.std.proofs.Math.Decide.{ℕ_discrete}
use Rattle.layout.specs.Layout.{node_pool, net_at_words, net_word_words, node_at, node_word}
use Rattle.lists.specs.Lists.{close}
use Rattle.net_file.specs.Values.{Name}
use Rattle.definitions.specs.State.{Net, Engine, entries}
use Rattle.chains.specs.Seg.{Seg, All, put, last, items_same}
use Rattle.chains.specs.Pools.{Pool}
use Rattle.chains.specs.Sift.{Half, Linked, half_done, bent}
use Rattle.means.specs.Means.{entries_in, items_of, Means}
use Rattle.means.specs.Frame.{SlotWords, NetWords, Rest, OutNet, OutLists}
use Rattle.lists_means.specs.Append.{Link, pointer_at, pointer_link, put_is}
use Rattle.lists_means.specs.Push.{sum_most, not_there, last_below}

-- all but the slots' nets and the lists
abbrev pub OutSift : ℕ → ℕ → ℕ → Type 0
OutSift N E i = (SlotWords N 0 1 i → ⊥) × OutLists N E i

-- the node at entry c
abbrev pub node_in : List ℕ → ℕ → ℕ → ℕ
node_in ws N c = get_or ws (5214 + 32 * N + 2 * c + 0) 0

-- an entry whose node was net k's
abbrev pub Live : List ℕ → ℕ → ℕ → ℕ → Type 0
Live ws N k c = (0 < c) × (node_in ws N c < N) × (node_word ws (node_in ws N c) 0 ≡ k + 1)

-- slot n's net is as it was, or slot n was net k's and is among those of the entries K
abbrev pub Was : List ℕ → List ℕ → ℕ → ℕ → List ℕ → ℕ → Type 0
Was ws₀ ws N k K n = (node_word ws n 0 ≡ node_word ws₀ n 0) ⊎ ((node_word ws₀ n 0 ≡ k + 1) × Memᴰ n (map (node_in ws₀ N) K))

-- of net k's list the entries K stay, and R, from h on, are left; b says whose slots are net k's and in no place yet
pub record Pass (e : Engine) (k : ℕ) (ws₀ ws : List ℕ) (b : ℕ → Bool) (K R : List ℕ) (h : ℕ) : Type 0 where
  pub rest : Rest (OutSift e.pools.nodes e.pools.entries) ws₀ ws
  pub used : get_or ws 11 0 ≡ get_or ws₀ 11 0
  pub nodes : (c : ℕ) → 0 < c → node_in ws e.pools.nodes c ≡ node_in ws₀ e.pools.nodes c
  pub half : Half (entries_in ws e.pools.nodes) (length e.nets) k (items_of e.nets) (entries e) K R h
  pub test : (n : ℕ) → n < e.pools.nodes → b n ≡ eqb (node_word ws n 0) (k + 1)
  pub was : (n : ℕ) → n < e.pools.nodes → Was ws₀ ws e.pools.nodes k K n
  pub live : All (Live ws₀ e.pools.nodes k) K
  pub inside : All (λ c. node_in ws₀ e.pools.nodes c < e.pools.nodes) R

-- what the pass leaves: entries with the nodes y
pub record Swept (e : Engine) (k : ℕ) (ws₀ ws y : List ℕ) : Type 0 where
  pub places : List ℕ
  pub items : map (node_in ws₀ e.pools.nodes) places ≡ y
  pub rest : Rest (λ i. OutSift e.pools.nodes e.pools.entries i × OutNet k i) ws₀ ws
  pub own : (i : ℕ) → NetWords k i → i ≢ net_at_words (k + 1) 4 → i ≢ net_at_words (k + 1) 6 → get_or ws i 0 ≡ get_or ws₀ i 0
  pub length_is : net_word_words ws (k + 1) 4 ≡ length places
  pub stale : net_word_words ws (k + 1) 6 ≡ 0
  pub used : get_or ws 11 0 ≡ get_or ws₀ 11 0
  pub nodes : (c : ℕ) → 0 < c → node_in ws e.pools.nodes c ≡ node_in ws₀ e.pools.nodes c
  pub seg : Seg (entries_in ws e.pools.nodes).after (net_word_words ws (k + 1) 2) places 0
  pub pool : (total : ℕ) → total + length (items_of e.nets k) ≡ entries e + length places
      → Pool (entries_in ws e.pools.nodes) (length e.nets) (put (items_of e.nets) k y) total
  pub was : (n : ℕ) → n < e.pools.nodes → Was ws₀ ws e.pools.nodes k places n
  pub live : All (Live ws₀ e.pools.nodes k) places

pub was_same : (ws₀ ws w : List ℕ) (N k : ℕ) (K : List ℕ) (n : ℕ) → node_word w n 0 ≡ node_word ws n 0 → Was ws₀ ws N k K n → Was ws₀ w N k K n
was_same ws₀ ws w N k K n q (inl d) = inl (q ∙ d)
was_same ws₀ ws w N k K n q (inr d) = inr d

-- of the lists nothing is written but the pointer j, which is c now, and net k's last entry
pub linked_is : (ws w : List ℕ) (N k p c j m : ℕ) → m ≤ 256 → k < m → Link N k p j
    → ((i : ℕ) → i ≢ j → i ≢ net_at_words (k + 1) 3 → i ≢ net_at_words (k + 1) 4 → i ≢ net_at_words (k + 1) 6 → (SlotWords N 0 1 i → ⊥) → get_or w i 0 ≡ get_or ws i 0) → get_or w j 0 ≡ c
    → Linked (entries_in ws N) (entries_in w N) m k c p
linked_is ws w N k p c j m few h l other is = record {
  used = other 11 (not_there l 11 (omega arith) (omega arith)) (omega arith) (omega arith) (omega arith) (omega arith);
  first = other 10 (not_there l 10 (omega arith) (omega arith)) (omega arith) (omega arith) (omega arith) (omega arith);
  heads = λ u i q. other _ (not_there l _ (omega arith) (omega arith)) (omega arith) (omega arith) (omega arith) (omega arith);
  tails = λ u i q. other _ (not_there l _ (omega arith) (omega arith)) (omega arith) (omega arith) (omega arith) (omega arith);
  nodes = λ d i b. other _ (not_there l _ (omega arith) (omega arith)) (omega arith) (omega arith) (omega arith) (omega arith);
  none = λ z. rw (← l.none z) is;
  some = λ z. (other (net_at_words (k + 1) 2) (λ q. let y = l.some z in omega arith) (omega arith) (omega arith) (omega arith) (omega arith), rw (← l.some z) is);
  afters = λ d i b q. other _ (not_there l _ (omega arith) (omega arith)) (omega arith) (omega arith) (omega arith) (omega arith);
}

module _ (Named : ℕ → Name → Type 0) (ws₀ : List ℕ) (e : Engine) (m : Means Named ws₀ e) (k : ℕ) (here : k < length e.nets) where
  abbrev N : ℕ
  N = e.pools.nodes

  abbrev E : ℕ
  E = e.pools.entries

  -- what a pass under way gives
  module _ (ws : List ℕ) (b : ℕ → Bool) (K R : List ℕ) (h : ℕ) (p : Pass e k ws₀ ws b K R h) where
    pub pool_is : node_pool ws ≡ N
    pool_is = p.rest.same 1 (omega arith) ∙ m.header.nodes

    pub enough : 5216 + 32 * N + 2 * E ≤ length ws
    enough = let a = m.header.long in let c = p.rest.long in omega arith

    -- the last that stays is an entry, or there is none
    pub low : last K 0 ≤ E
    low = let a = last_below K p.half.kept (omega arith) in let u = p.used in let v = m.used.entries in omega arith

    -- no more entries than there are
    pub short : length K + length R ≤ E
    unfolding entries
    short = let a = p.half.all in let u = p.used in let v = m.used.entries in let s = sum_most (λ (t : Net). length t.list.items) e.nets k here in omega arith

    -- the pointer that is written next
    abbrev j : ℕ
    j = pointer_at N k (last K 0)

    pub link : Link N k (last K 0) j
    link = pointer_link N k (last K 0)

    -- it is one of the words
    pub inside_words : j < length ws
    inside_words = go (ℕ_discrete (last K 0) 0)
      where
        go : Dec (last K 0 ≡ 0) → j < length ws
        go (yes z) = let y = link.none z in let l = enough in let f = m.header.few_nets in omega arith
        go (no z) = let y = link.some z in let l = enough in let f = low in omega arith

    -- the end
    pub closed : R ≡ [] → Swept e k ws₀ (close ws (k + 1) (record { entry = h; last = last K 0; kept = length K })) (map (node_in ws₀ N) K)
    unfolding close
    closed r =
        let few = m.header.few_nets in
        let l0 = enough in
        let ij = inside_words in
        let v1 = set ws j 0 in
        let v2 = set v1 (net_at_words (k + 1) 3) (last K 0) in
        let v3 = set v2 (net_at_words (k + 1) 4) (length K) in
        let w = set v3 (net_at_words (k + 1) 6) 0 in
        let l1 : length v1 ≡ length ws = length-set ws j 0 in
        let l2 : length v2 ≡ length v1 = length-set v1 (net_at_words (k + 1) 3) (last K 0) in
        let l3 : length v3 ≡ length v2 = length-set v2 (net_at_words (k + 1) 4) (length K) in
        let l4 : length w ≡ length v3 = length-set v3 (net_at_words (k + 1) 6) 0 in
        let other : (i : ℕ) → i ≢ j → i ≢ net_at_words (k + 1) 3 → i ≢ net_at_words (k + 1) 4 → i ≢ net_at_words (k + 1) 6 → get_or w i 0 ≡ get_or ws i 0
        = λ i a c d f. get_or-set_other v3 (net_at_words (k + 1) 6) i 0 0 f ∙ get_or-set_other v2 (net_at_words (k + 1) 4) i (length K) 0 d
        ∙ get_or-set_other v1 (net_at_words (k + 1) 3) i (last K 0) 0 c ∙ get_or-set_other ws j i 0 0 a in
        let away : (i : ℕ) → i ≢ net_at_words (k + 1) 2 → i < 5214 + 32 * N → i ≢ j = λ i a c. not_there link i a (omega arith) in
        let is : get_or w j 0 ≡ 0
        = get_or-set_other v3 (net_at_words (k + 1) 6) j 0 0 (λ q. away (net_at_words (k + 1) 6) (omega arith) (omega arith) (sym q))
        ∙ get_or-set_other v2 (net_at_words (k + 1) 4) j (length K) 0 (λ q. away (net_at_words (k + 1) 4) (omega arith) (omega arith) (sym q))
        ∙ get_or-set_other v1 (net_at_words (k + 1) 3) j (last K 0) 0 (λ q. away (net_at_words (k + 1) 3) (omega arith) (omega arith) (sym q))
        ∙ get_or-set_same ws j 0 0 ij in
        let lk : Linked (entries_in ws N) (entries_in w N) (length e.nets) k 0 (last K 0)
        = linked_is ws w N k (last K 0) 0 j (length e.nets) few here link (λ i a c d f g. other i a c d f) is in
        let nodes : (c : ℕ) → 0 < c → node_in w N c ≡ node_in ws₀ N c
        = λ c i. other _ (not_there link _ (omega arith) (omega arith)) (omega arith) (omega arith) (omega arith) ∙ p.nodes c i in
        rw (put_is ws N k (last K 0) 0 pool_is) (record {
          places = K;
          items = refl;
          rest = record {
            long = omega arith;
            same = λ i o. let f = low in other i (not_there link i (λ d. o.0.1.1 (omega arith)) (λ z d. o.0.1.2 (omega arith))) (λ d. o.0.1.1 (omega arith)) (λ d. o.1 (omega arith)) (λ d. o.1 (omega arith)) ∙ p.rest.same i o.0;
          };
          own = λ i o a c. other i (away i (omega arith) (omega arith)) (omega arith) a c ∙ p.rest.same i (omega arith);
          length_is = get_or-set_other v3 (net_at_words (k + 1) 6) (net_at_words (k + 1) 4) 0 0 (omega arith) ∙ get_or-set_same v2 (net_at_words (k + 1) 4) (length K) 0 (omega arith);
          stale = get_or-set_same v3 (net_at_words (k + 1) 6) 0 0 (omega arith);
          used = other 11 (away 11 (omega arith) (omega arith)) (omega arith) (omega arith) (omega arith) ∙ p.used;
          nodes = nodes;
          seg = (bent few here p.half refl lk).seg;
          pool = λ total a. half_done few here p.half refl lk refl r
              (get_or-set_other v3 (net_at_words (k + 1) 6) (net_at_words (k + 1) 3) 0 0 (omega arith) ∙ get_or-set_other v2 (net_at_words (k + 1) 4) (net_at_words (k + 1) 3) (length K) 0 (omega arith)
              ∙ get_or-set_same v1 (net_at_words (k + 1) 3) (last K 0) 0 (omega arith))
              (map (node_in ws₀ N) K) (items_same (node_in ws₀ N) (node_in w N) K p.live (λ c v. nodes c v.0)) total a;
          was = λ n i. was_same ws₀ ws w N k K n (other (node_at n 0) (away (node_at n 0) (omega arith) (omega arith)) (omega arith) (omega arith) (omega arith)) (p.was n i);
          live = p.live;
        })
