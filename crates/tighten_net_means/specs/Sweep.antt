-- The pass over a net's list, entry by entry: one stays, or goes to the free chain.
use Prim.Native.Nat.{ℕ, ◌+◌, ◌*◌, ◌<◌, ◌≤◌}
use Rattle.std.specs.Prelude.{◌≡◌, ◌≢◌, Bool, true, false, length, get_or, set, eqb}
use Rattle.std.proofs.Math.Path.{refl}
use Rattle.std.proofs.Common.{sym, ap, ◌∙◌, subst, inl, inr, length-set, length-append, get_or-set_same, get_or-set_other, eqb-true, ne_eqb, arith}
use mathlib.Core.List.Memᴰ
use mathlib.Core.List.{List, [], ◌∷◌, ◌++◌, map, append-nil, append_assoc}
use Rattle.std.proofs.lemmas.Bool.{eqb-false}
use Rattle.std.proofs.Math.Decide.{ℕ_discrete}
use Rattle.words.specs.Left.{Left}
use Rattle.layout.specs.Layout.{next, node_pool, node_at, node_word, set_node_word}
use Rattle.pools.specs.Pools.{give_entry}
use Rattle.lists.specs.declared.Walk.{Walk}
use Rattle.lists.specs.Lists.{put_after, sift, sweep_from}
use Rattle.lists.specs.Ways.{sift_kept, sift_dropped}
use Rattle.net_file.specs.Values.{Name}
use Rattle.definitions.specs.State.{Engine, entries}
use Rattle.dirty_laws.specs.Tally.{off, off_same, off_other}
use Rattle.chains.specs.Seg.{all_append, put, last, last_snoc}
use Rattle.chains.specs.Moves.{map_snoc}
use Rattle.chains.specs.Sift.{half_gone, half_stays}
use Rattle.means.specs.Means.{entries_in, Means}
use Rattle.means.specs.Frame.{rest_set, rest_trans}
use Rattle.pools_means.specs.Entries.{give_other, give_rest, give_entry_given}
use Rattle.lists_means.specs.Append.{pointer_at, pointer_link, put_is}
use Rattle.lists_means.specs.Push.{not_there}
use Rattle.tighten_means.specs.Sieve.{sieve}
use Rattle.tighten_net_means.specs.Pass.{OutSift, node_in, Live, Was, Pass, Swept, was_same, linked_is, pool_is, enough, low, short, inside_words, closed}

module _ (Named : ℕ → Name → Type 0) (ws₀ : List ℕ) (e : Engine) (m : Means Named ws₀ e) (k : ℕ) (here : k < length e.nets) where
  abbrev N : ℕ
  N = e.pools.nodes

  abbrev E : ℕ
  E = e.pools.entries

  module _ (ws : List ℕ) (b : ℕ → Bool) (K R : List ℕ) (c h : ℕ) (p : Pass e k ws₀ ws b K (c ∷ R) h) where
    pos : 0 < c
    pos = p.half.left.mine.0.pos

    fits : c ≤ E
    fits = let a = p.half.left.mine.0.below in let u = p.used in let v = m.used.entries in omega arith

    -- an entry that goes
    left_turn : Pass e k ws₀ (give_entry ws c) b K R ((entries_in ws N).after c)
    left_turn =
        let few = m.header.few_nets in
        let a = pool_is Named ws₀ e m k here ws b K (c ∷ R) h p in
        let l = enough Named ws₀ e m k here ws b K (c ∷ R) h p in
        let i0 = pos in
        let other : (i : ℕ) → i ≢ 5214 + 32 * N + 2 * c + 1 → i ≢ 10 → get_or (give_entry ws c) i 0 ≡ get_or ws i 0 = give_other ws N E c a l pos fits in
        let rest = give_rest ws N E c a l pos fits in
        record {
          rest = rest_trans p.rest (record { long = rest.long; same = λ i o. rest.same i o.1 });
          used = other 11 (omega arith) (omega arith) ∙ p.used;
          nodes = λ d i. other _ (omega arith) (omega arith) ∙ p.nodes d i;
          half = half_gone few here p.half (give_entry_given ws N E c a l pos fits (length e.nets) few);
          test = λ n i. p.test n i ∙ ap (λ (x : ℕ). eqb x (k + 1)) (sym (other (node_at n 0) (omega arith) (omega arith)));
          was = λ n i. was_same ws₀ ws (give_entry ws c) N k K n (other (node_at n 0) (omega arith) (omega arith)) (p.was n i);
          live = p.live;
          inside = p.inside.1;
        }

    -- its node
    abbrev n : ℕ
    n = node_in ws₀ N c

    -- an entry whose node is net k's and in no place yet
    kept_turn : b n ≡ true → Pass e k ws₀ (set (set_node_word ws n 0 257) (pointer_at N k (last K 0)) c) (off b n) (K ++ c ∷ []) R ((entries_in ws N).after c)
    kept_turn t =
        let few = m.header.few_nets in
        let l0 = enough Named ws₀ e m k here ws b K (c ∷ R) h p in
        let low0 = low Named ws₀ e m k here ws b K (c ∷ R) h p in
        let i0 = pos in
        let f0 = fits in
        let h0 : n < N = p.inside.0 in
        let j = pointer_at N k (last K 0) in
        let lk = pointer_link N k (last K 0) in
        let ij = inside_words Named ws₀ e m k here ws b K (c ∷ R) h p in
        let w1 = set_node_word ws n 0 257 in
        let w = set w1 j c in
        let l1 : length w1 ≡ length ws = length-set ws (node_at n 0) 257 in
        let other : (i : ℕ) → i ≢ j → i ≢ node_at n 0 → get_or w i 0 ≡ get_or ws i 0 = λ i a d. get_or-set_other w1 j i c 0 a ∙ get_or-set_other ws (node_at n 0) i 257 0 d in
        record {
          rest = rest_trans p.rest (rest_trans (rest_set (OutSift N E) ws (node_at n 0) 257 (λ i o d. o.0 (omega arith)))
              (rest_set (OutSift N E) w1 j c (λ i o. not_there lk i (λ d. o.1.1 (omega arith)) (λ z d. o.1.2 (omega arith)))));
          used = other 11 (not_there lk 11 (omega arith) (omega arith)) (omega arith) ∙ p.used;
          nodes = λ d i. other _ (not_there lk _ (omega arith) (omega arith)) (omega arith) ∙ p.nodes d i;
          half = half_stays few here p.half refl (linked_is ws w N k (last K 0) c j (length e.nets) few here lk
              (λ i a d f g o. other i a (λ q. o (omega arith))) (get_or-set_same w1 j c 0 (omega arith)));
          test = λ x i. tests x i (ℕ_discrete x n);
          was = λ x i. said x i (ℕ_discrete x n) (p.was x i);
          live = all_append (Live ws₀ N k) K (c ∷ []) p.live ((pos, h0, first (p.was n h0)), tt);
          inside = p.inside.1;
        }
      where
        w : List ℕ
        w = set (set_node_word ws n 0 257) (pointer_at N k (last K 0)) c

        away : (x : ℕ) → x < N → node_at x 0 ≢ pointer_at N k (last K 0)
        away x i = not_there (pointer_link N k (last K 0)) (node_at x 0) (let few = m.header.few_nets in omega arith) (omega arith)

        now : node_word ws n 0 ≡ k + 1
        now = eqb-true (node_word ws n 0) (k + 1) (sym (p.test n p.inside.0) ∙ t)

        kept : (x : ℕ) → x < N → x ≢ n → node_word w x 0 ≡ node_word ws x 0
        kept x i d = get_or-set_other (set_node_word ws n 0 257) _ (node_at x 0) c 0 (away x i) ∙ get_or-set_other ws (node_at n 0) (node_at x 0) 257 0 (omega arith)

        tests : (x : ℕ) → x < N → Dec (x ≡ n) → off b n x ≡ eqb (node_word w x 0) (k + 1)
        tests x i (yes d) =
            let l = enough Named ws₀ e m k here ws b K (c ∷ R) h p in
            let few = m.header.few_nets in
            let z : node_word w n 0 ≡ 257 = get_or-set_other (set_node_word ws n 0 257) _ (node_at n 0) c 0 (away n p.inside.0) ∙ get_or-set_same ws (node_at n 0) 257 0 (let q = p.inside.0 in omega arith) in
            rw (d, z) (off_same b n ∙ sym (ne_eqb 257 (k + 1) (omega arith)))
        tests x i (no d) = off_other b n x d ∙ p.test x i ∙ ap (λ (y : ℕ). eqb y (k + 1)) (sym (kept x i d))

        first : Was ws₀ ws N k K n → node_word ws₀ n 0 ≡ k + 1
        first (inl q) = sym q ∙ now
        first (inr q) = q.0

        said : (x : ℕ) → x < N → Dec (x ≡ n) → Was ws₀ ws N k K x → Was ws₀ w N k (K ++ c ∷ []) x
        said x i (yes d) q = inr (ap (λ (y : ℕ). node_word ws₀ y 0) d ∙ first (p.was n p.inside.0), rw (map_snoc (node_in ws₀ N) K c) (Memᴰ.append_right (map (node_in ws₀ N) K) (Memᴰ.head d)))
        said x i (no d) (inl q) = inl (kept x i d ∙ q)
        said x i (no d) (inr q) = inr (q.0, rw (map_snoc (node_in ws₀ N) K c) (Memᴰ.append_left (n ∷ []) q.1))

  -- the whole pass
  pub swept : (R ws : List ℕ) (b : ℕ → Bool) (K : List ℕ) (h : ℕ) → Pass e k ws₀ ws b K R h
      → Swept e k ws₀ (sweep_from ws (k + 1) (record { entry = h; last = last K 0; kept = length K }) (length R)) (map (node_in ws₀ N) K ++ sieve b (map (node_in ws₀ N) R))
  unfolding sweep_from
  swept [] ws b K h p = rw (append-nil (map (node_in ws₀ N) K)) (closed Named ws₀ e m k here ws b K [] h p refl)
  swept (c ∷ R) ws b K h p = go (b (node_in ws₀ N c)) refl
      (λ t. swept R (set (set_node_word ws (node_in ws₀ N c) 0 257) (pointer_at N k (last K 0)) c) (off b (node_in ws₀ N c)) (K ++ c ∷ []) ((entries_in ws N).after c) (kept_turn ws b K R c h p t))
      (swept R (give_entry ws c) b K ((entries_in ws N).after c) (left_turn ws b K R c h p))
    where
      nd : ℕ → ℕ
      nd = node_in ws₀ N

      W : Walk
      W = record { entry = h; last = last K 0; kept = length K }

      is_c : h ≡ c
      is_c = p.half.left.seg.0

      pool : node_pool ws ≡ N
      pool = pool_is Named ws₀ e m k here ws b K (c ∷ R) h p

      node : nd c ≡ get_or ws (5214 + 32 * node_pool ws + 2 * h + 0) 0
      node = rw (pool, is_c) (sym (p.nodes c (pos ws b K R c h p)))

      after : (entries_in ws N).after c ≡ get_or ws (5214 + 32 * node_pool ws + 2 * h + 1) 0
      after = rw (pool, is_c) refl

      test : b (nd c) ≡ eqb (node_word ws (nd c) 0) (k + 1)
      test = p.test (nd c) p.inside.0

      go : (t : Bool) → b (nd c) ≡ t
          → (b (nd c) ≡ true → Swept e k ws₀ (sweep_from (set (set_node_word ws (nd c) 0 257) (pointer_at N k (last K 0)) c) (k + 1)
          (record { entry = (entries_in ws N).after c; last = last (K ++ c ∷ []) 0; kept = length (K ++ c ∷ []) }) (length R)) (map nd (K ++ c ∷ []) ++ sieve (off b (nd c)) (map nd R)))
          → Swept e k ws₀ (sweep_from (give_entry ws c) (k + 1) (record { entry = (entries_in ws N).after c; last = last K 0; kept = length K }) (length R)) (map nd K ++ sieve b (map nd R))
          → Swept e k ws₀ (sweep_from (sift ws (k + 1) W).ws (k + 1) (sift ws (k + 1) W).is (length R))
          (map nd K ++ elim t as (λ _. List ℕ) [ true ↦ nd c ∷ sieve (off b (nd c)) (map nd R) | false ↦ sieve b (map nd R) ])
      go true d f g =
          let w1 = set_node_word ws (nd c) 0 257 in
          let few = short Named ws₀ e m k here ws b K (c ∷ R) h p in
          let most = m.header.few_entries in
          let pool1 : node_pool w1 ≡ N = get_or-set_other ws (node_at (nd c) 0) 1 257 0 (omega arith) ∙ pool in
          let put : set w1 (pointer_at N k (last K 0)) c ≡ put_after w1 (k + 1) (last K 0) h = rw is_c (sym (put_is w1 N k (last K 0) c pool1)) in
          let el : h ≡ last (K ++ c ∷ []) 0 = is_c ∙ sym (last_snoc K c 0) in
          let ek : next (length K) ≡ length (K ++ c ∷ []) = let a = length-append K (c ∷ []) in omega arith in
          let y : map nd (K ++ c ∷ []) ++ sieve (off b (nd c)) (map nd R) ≡ map nd K ++ nd c ∷ sieve (off b (nd c)) (map nd R)
          = ap (λ (l : List ℕ). l ++ sieve (off b (nd c)) (map nd R)) (map_snoc nd K c) ∙ append_assoc (map nd K) (nd c ∷ []) (sieve (off b (nd c)) (map nd R)) in
          subst (λ (s : Left Walk). Swept e k ws₀ (sweep_from s.ws (k + 1) s.is (length R)) (map nd K ++ nd c ∷ sieve (off b (nd c)) (map nd R)))
          (sift_kept ws w1 (set w1 (pointer_at N k (last K 0)) c) (k + 1) (nd c) ((entries_in ws N).after c) (node_word ws (nd c) 0) (next (length K)) W
          node after refl (eqb-true (node_word ws (nd c) 0) (k + 1) (sym test ∙ d)) refl put refl)
          (rw (el, ek, ← y) (f d))
      go false d f g =
          let give : give_entry ws c ≡ give_entry ws h = rw is_c refl in
          subst (λ (s : Left Walk). Swept e k ws₀ (sweep_from s.ws (k + 1) s.is (length R)) (map nd K ++ sieve b (map nd R)))
          (sift_dropped ws (give_entry ws c) (k + 1) (nd c) ((entries_in ws N).after c) (node_word ws (nd c) 0) W
          node after refl (eqb-false (node_word ws (nd c) 0) (k + 1) (sym test ∙ d)) give) g
