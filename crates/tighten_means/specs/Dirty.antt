-- `tighten_dirty`: the list keeps each dirty node's first place only, no entry is stale, and the marks are as they were.
use Rattle.std.specs.Prelude.{ℕ, zero, suc, ◌+◌, ◌*◌, ◌/◌, ◌%◌, ◌<◌, ◌≤◌, ◌≡◌, ◌≢◌, ◌⊎◌, Bool, true, false, length, get_or, set}
use Rattle.std.proofs.Math.Path.{refl}
use Rattle.std.proofs.Common.{sym, ap, ◌∙◌, subst, inr, length-set, get_or-set_same, get_or-set_other}
use Rattle.std.proofs.Math.Logic.{inl}
use mathlib.Core.List.Memᴰ
use mathlib.Core.List.{List, [], ◌∷◌, ◌++◌, Memᴰ}
use native.Mathlib.Omega.{arith}
use Rattle.std.proofs.Math.Decide.{ℕ_discrete}
use Rattle.layout.specs.Layout.{node_at, node_word, set_node_word, dirty_at, dirty_length}
use Rattle.lists.specs.Lists.{dirty_node, sweep_dirty, sweep_dirty_from, dirty_again, restore_dirty, restore_dirty_from, tighten_dirty_words}
use Rattle.net_file.specs.Lists.{bit}
use Rattle.net_file.specs.Values.{Name}
use Rattle.definitions.specs.State.{Ids, Engine, with_dirty, entries, waits}
use Rattle.definitions.specs.Books.{tight, is_dirty, tighten_dirty}
use Rattle.chains.specs.Seg.{All}
use Rattle.means.specs.Means.{Header, Marks, Dirty, Means}
use Rattle.means.specs.Frame.{Rest, rest_set, rest_trans, OutMarks, header_keep, used_keep, nodes_keep, vacant_keep, nets_keep, lists_keep, awaits_keep}
use Rattle.tighten_means.specs.Sieve.{sieve, sieve_firsts}
use Rattle.tighten_means.specs.Sweep.{OutBoth, Pass, Swept, swept}

-- the marks of those that stay are given back
pub record Restored (N : ℕ) (b : ℕ → Bool) (ws w : List ℕ) : Type 0 where
  pub rest : Rest (OutMarks N) ws w
  pub mark : (n : ℕ) → n < N → node_word w n 2 ≡ bit (b n)

pub restored : (N : ℕ) (b : ℕ → Bool) (R : List ℕ) (ws : List ℕ) (i : ℕ) → 5216 + 32 * N ≤ length ws
    → ((j : ℕ) → j < length R → get_or ws (dirty_at (i + j)) 0 ≡ get_or R j 0)
    → ((n : ℕ) → n < N → (node_word ws n 2 ≡ bit (b n)) ⊎ ((b n ≡ true) × Memᴰ n R))
    → All (λ x. (x < N) × (b x ≡ true)) R → Restored N b ws (restore_dirty_from ws i (length R))
unfolding restore_dirty_from dirty_again dirty_node
restored N b [] ws i l e m v = record { rest = record { long = refl; same = λ j o. refl }; mark = λ n h. go n (m n h) }
  where
    go : (n : ℕ) → (node_word ws n 2 ≡ bit (b n)) ⊎ ((b n ≡ true) × Memᴰ n []) → node_word ws n 2 ≡ bit (b n)
    go n (inl q) = q
    go n (inr q) = absurd (Memᴰ.not-nil q.1)
restored N b (x ∷ R) ws i l e m v =
    let z : i + 0 ≡ i = omega arith in
    let here : get_or ws (dirty_at i) 0 ≡ x = rw z at (e 0 (omega arith)) in
    let h : x < N = v.0.0 in
    let w = set_node_word ws x 2 1 in
    let lw : length w ≡ length ws = length-set ws (node_at x 2) 1 in
    let r : Restored N b w (restore_dirty_from w (i + 1) (length R)) = restored N b R w (i + 1) (omega arith)
    (λ j a. let s : i + 1 + j ≡ i + suc j = omega arith in get_or-set_other ws (node_at x 2) (dirty_at (i + 1 + j)) 1 0 (omega arith) ∙ from_next j s (e (suc j) (omega arith)))
    (λ n a. go n a (ℕ_discrete n x) (m n a)) v.1 in
    subst (λ (y : ℕ). Restored N b ws (restore_dirty_from (set_node_word ws y 2 1) (i + 1) (length R))) (sym here)
    (record { rest = rest_trans (rest_set (OutMarks N) ws (node_at x 2) 1 (λ j o d. o (omega arith))) r.rest; mark = r.mark })
  where
    from_next : (j : ℕ) → i + 1 + j ≡ i + suc j → get_or ws (dirty_at (i + suc j)) 0 ≡ get_or R j 0 → get_or ws (dirty_at (i + 1 + j)) 0 ≡ get_or R j 0
    from_next j s q = rw s q

    go : (n : ℕ) → n < N → Dec (n ≡ x) → (node_word ws n 2 ≡ bit (b n)) ⊎ ((b n ≡ true) × Memᴰ n (x ∷ R))
        → (node_word (set_node_word ws x 2 1) n 2 ≡ bit (b n)) ⊎ ((b n ≡ true) × Memᴰ n R)
    go n a (yes d) q =
        let t : bit (b x) ≡ 1 = ap bit v.0.1 in
        inl (rw (d, t) (get_or-set_same ws (node_at x 2) 1 0 (omega arith)))
    go n a (no d) (inl q) = inl (get_or-set_other ws (node_at x 2) (node_at n 2) 1 0 (omega arith) ∙ q)
    go n a (no d) (inr q) = inr (q.0, later (Memᴰ.cases_cons q.1))
      where
        later : (n ≡ x) ⊎ Memᴰ n R → Memᴰ n R
        later (inl s) = absurd (d s)
        later (inr s) = s

-- what holds of each number of a list
all_of : (P : ℕ → Type 0) (l : List ℕ) → ((n : ℕ) → Memᴰ n l → P n) → All P l
all_of P [] f = tt
all_of P (x ∷ l) f = (f x (Memᴰ.head refl), all_of P l (λ n i. f n (Memᴰ.tail i)))

module _ (Named : ℕ → Name → Type 0) (ws : List ℕ) (e : Engine) (m : Means Named ws e) (inside : (n : ℕ) → Memᴰ n e.dirty.items → n < e.pools.nodes) where
  -- those that stay
  K : List ℕ
  K = sieve (is_dirty e) e.dirty.items

  w1 : List ℕ
  w1 = sweep_dirty ws

  first : Swept e.pools.nodes (is_dirty e) ws w1 K
  unfolding w1 K sweep_dirty is_dirty
  first =
      let long = m.header.long in
      rw m.dirty.length_is (swept e.pools.nodes (is_dirty e) ws (omega arith) m.header.few_nodes e.dirty.items ws (is_dirty e) [] 0 (record {
        rest = record { long = refl; same = λ j o. refl };
        capacity = refl;
        behind = omega arith;
        room = let r = m.dirty.room in omega arith;
        kept = λ j h. absurd (omega arith);
        left = λ j h. let z : 0 + j ≡ j = omega arith in rw z (m.dirty.item j h);
        mark = m.marks.mark;
        was = λ n. inl refl;
        live = tt;
        inside = all_of (λ n. n < e.pools.nodes) e.dirty.items inside;
      }))

  w : List ℕ
  w = restore_dirty w1

  second : Restored e.pools.nodes (is_dirty e) w1 w
  unfolding w restore_dirty
  second =
      let s = first in
      let long = m.header.long in
      let l1 = s.rest.long in
      rw s.length_is (restored e.pools.nodes (is_dirty e) K w1 0 (omega arith)
      (λ j h. let z : 0 + j ≡ j = omega arith in rw z (s.kept j h)) s.mark s.live)

  both : Rest (OutBoth e.pools.nodes) ws w
  both = rest_trans first.rest (record { long = second.rest.long; same = λ i o. second.rest.same i o.0 })

  pub tighten_dirty_means : Means Named (tighten_dirty_words ws) (tighten_dirty e)
  unfolding tighten_dirty_words tighten_dirty tight with_dirty w w1 is_dirty entries waits K
  tighten_dirty_means =
      let r = both in
      let s = first in
      let t = second.rest in
      let few = m.header.few_nets in
      let is : K ≡ _ = sieve_firsts (is_dirty e) e.dirty.items in
      record {
        header = header_keep ws w r.long (λ i p. r.same i (omega arith)) m.header;
        used = used_keep Named ws w e m (λ i p. r.same i (omega arith)) (λ i p. r.same i (omega arith));
        nodes = nodes_keep ws w (λ i p. r.same i (omega arith)) m.nodes;
        marks = record { sized = m.marks.sized; mark = second.mark };
        vacant = vacant_keep ws w m.header.few_nodes (λ i p. r.same i (omega arith)) (λ i p. r.same i (omega arith)) m.vacant;
        dirty = rw (← is) (record {
          room = s.room;
          length_is = t.same 14 (omega arith) ∙ s.length_is;
          capacity_is = t.same 15 (omega arith) ∙ s.capacity ∙ m.dirty.capacity_is;
          stale_is = t.same 16 (omega arith) ∙ s.stale;
          item = λ j h. t.same (dirty_at j) (omega arith) ∙ s.kept j h;
        });
        nets = nets_keep Named ws w e m (λ k h i p. r.same i (omega arith));
        lists = lists_keep Named ws w e m (λ i p. r.same i (omega arith)) (λ i p. r.same i (omega arith)) (λ i p. r.same i (omega arith));
        waits_are = awaits_keep Named ws w e m (λ i p. r.same i (omega arith)) (λ i p. r.same i (omega arith)) (λ i p. r.same i (omega arith));
      }
