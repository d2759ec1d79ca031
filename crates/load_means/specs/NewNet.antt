-- One net more on the words: a net with nothing in it, where the words of its number were never written.
use Prim.Native.Nat.{ℕ, suc, ◌+◌, ◌*◌, ◌<◌, ◌≤◌}
use Rattle.std.specs.Prelude.{◌≡◌, ◌≢◌, get_or, set}
use Rattle.std.proofs.Math.Path.{refl, subst}
use Rattle.std.proofs.Common.{sym, ap, ◌∙◌, length-append}
use mathlib.Core.List.{List, [], ◌∷◌, ◌++◌, map}
use Rattle.std.proofs.Math.ListN.{length, length-set, get_or-append}
use Rattle.std.proofs.Math.Seq.{get_or-set_same, get_or-set_other, get_or-append_seam}
use native.Mathlib.Omega.{arith}
use Rattle.std.proofs.Math.Decide.{ℕ_discrete}
use Rattle.fields.specs.Fields.{be16}
use Rattle.layout.specs.Layout.{next, net_at_words, net_word_words}
use Rattle.load.specs.Load.{new_net_words}
use Rattle.net_file.specs.Values.{Name}
use Rattle.definitions.specs.State.{Net, Engine, new_net, with_nets, entries, waits}
use Rattle.good_laws.specs.Load.{sum_snoc}
use Rattle.chains.specs.Pools.{View, Root, Pool}
use Rattle.means.specs.Means.{NetIs, no_net, entries_in, waits_in, items_of, awaiting_of, Means}
use Rattle.means.specs.Frame.{Rest, rest_set, rest_trans, nodes_keep, marks_keep, vacant_keep, dirty_keep, net_keep, used_keep, lists_keep, awaits_keep}

-- the words of the nets from the k-th on were never written
abbrev pub Spare : List ℕ → ℕ → Type 0
Spare ws k = (i : ℕ) → 1088 + 16 * k ≤ i → i < 5184 → get_or ws i 0 ≡ 0

-- ---- a pool of one list more, which is empty

module _ {A : Type 0} (v : View A) (m : ℕ) (head : v.head m ≡ 0) (tail : v.tail m ≡ 0) where
  -- the new list has no places
  places : (ℕ → List ℕ) → (t : ℕ) → Dec (t ≡ m) → List ℕ
  places f t (yes e) = []
  places f t (no e) = f t

  pub pool_wider : (x y : ℕ → List A) {total : ℕ} → ((t : ℕ) → t < m → x t ≡ y t) → y m ≡ [] → Pool v m x total → Pool v (suc m) y total
  unfolding places
  pool_wider x y same none p = record {
    own = p.own;
    places = λ t. places p.places t (ℕ_discrete t m);
    freed = p.freed;
    nets = λ t h. go t h (ℕ_discrete t m);
    free = p.free;
    all = p.all;
  }
    where
      go : (t : ℕ) → t < suc m → (d : Dec (t ≡ m)) → Root v p.own t (places p.places t d) (y t)
      go t h (yes e) =
          subst (λ (s : ℕ). Root v p.own s [] (y s)) (sym e) (rw none (record { chain = record { seg = head; once = tt; mine = tt }; tail = tail; items = refl }))
      go t h (no e) = rw (← same t (omega arith)) (p.nets t (omega arith))

-- ---- the words

-- all but the number of nets, the nets by name, and net k's own words
abbrev pub OutNew : ℕ → ℕ → Type 0
OutNew k i = (i ≢ 7) × ((64 ≤ i) × (i < 1088) → ⊥) × (i ≢ 1088 + 16 * k)

module _ (Named : ℕ → Name → Type 0) (ws : List ℕ) (e : Engine) (m : Means Named ws e) (file : List ℕ) (at : ℕ) (few : length e.nets < 256) (low : be16 file at < 1024)
    (spare : Spare ws (length e.nets)) where
  k : ℕ
  k = length e.nets

  -- the net that the words say: its free node is not there yet
  pub added : Net
  added = new_net (record { name = be16 file at; free = 0 })

  next_is : next (get_or ws 7 0) ≡ k + 1
  unfolding k
  next_is = let n = m.header.nets_are in omega arith

  w1 : List ℕ
  w1 = set ws 7 (k + 1)

  w2 : List ℕ
  w2 = set w1 (64 + be16 file at) (k + 1)

  w : List ℕ
  w = set w2 (net_at_words (k + 1) 0) (be16 file at)

  w_is : new_net_words ws file at ≡ w
  unfolding new_net_words w w2 w1
  w_is = rw next_is refl

  rest : Rest (OutNew k) ws w
  unfolding w w2 w1 k
  rest =
      rest_trans (rest_trans (rest_set (OutNew k) ws 7 (k + 1) (λ i o. o.0)) (rest_set (OutNew k) w1 (64 + be16 file at) (k + 1) (λ i o d. o.1 (omega arith))))
      (rest_set (OutNew k) w2 (net_at_words (k + 1) 0) (be16 file at) (λ i o d. o.2 (omega arith)))

  length_is : length (e.nets ++ added ∷ []) ≡ suc (length e.nets)
  length_is = length-append e.nets (added ∷ []) ∙ omega arith

  named : get_or w (1088 + 16 * k) 0 ≡ be16 file at
  unfolding w w2 w1 k
  named =
      let long = m.header.long in
      let a = length-set ws 7 (k + 1) in
      let b = length-set w1 (64 + be16 file at) (k + 1) in
      let i : 1088 + 16 * k ≡ net_at_words (k + 1) 0 = omega arith in
      rw i (get_or-set_same w2 (net_at_words (k + 1) 0) (be16 file at) 0 (omega arith))

  counted : get_or w 7 0 ≡ k + 1
  unfolding w w2 w1 k
  counted =
      let long = m.header.long in
      get_or-set_other w2 (net_at_words (k + 1) 0) 7 (be16 file at) 0 (omega arith) ∙ get_or-set_other w1 (64 + be16 file at) 7 (k + 1) 0 (omega arith)
      ∙ get_or-set_same ws 7 (k + 1) 0 (omega arith)

  -- a word of the new net but its name
  fresh_word : (f : ℕ) → 0 < f → f < 16 → get_or w (1088 + 16 * k + f) 0 ≡ 0
  unfolding k
  fresh_word f h i = rest.same (1088 + 16 * k + f) (omega arith) ∙ spare (1088 + 16 * k + f) (omega arith) (omega arith)

  word : (f : ℕ) → 0 < f → f < 16 → net_word_words w (k + 1) f ≡ 0
  word f h i = let a : 1088 + 16 * k + f ≡ net_at_words (k + 1) f = omega arith in rw (← a) (fresh_word f h i)

  net_is : (j : ℕ) → j < suc (length e.nets) → Dec (j ≡ length e.nets) → NetIs w j (get_or (e.nets ++ added ∷ []) j no_net)
  unfolding k added
  net_is j h (yes d) = rw (d, get_or-append_seam e.nets added [] no_net) (record {
    name = let a : 1088 + 16 * k ≡ net_at_words (k + 1) 0 = omega arith in rw (← a) named;
    free = word 1 (omega arith) (omega arith);
    length_is = word 4 (omega arith) (omega arith);
    capacity_is = word 5 (omega arith) (omega arith);
    stale_is = word 6 (omega arith) (omega arith);
    pending_is = word 7 (omega arith) (omega arith);
  })
  net_is j h (no d) =
      rw (get_or-append e.nets (added ∷ []) no_net j (omega arith)) (net_keep ws w (λ i p. rest.same i (omega arith)) (m.nets j (omega arith)))

  -- a part of each net, where the last has nothing in it
  part_old : {A : Type 0} (f : Net → A) (j : ℕ) → j < length e.nets → f (get_or e.nets j no_net) ≡ f (get_or (e.nets ++ added ∷ []) j no_net)
  part_old f j h = ap f (sym (get_or-append e.nets (added ∷ []) no_net j h))

  part_new : {A : Type 0} (f : Net → A) → f (get_or (e.nets ++ added ∷ []) (length e.nets) no_net) ≡ f added
  part_new f = ap f (get_or-append_seam e.nets added [] no_net)

  pub new_net_means : Means Named (new_net_words ws file at) (with_nets (e.nets ++ new_net (record { name = be16 file at; free = 0 }) ∷ []) e)
  unfolding with_nets entries waits k added
  new_net_means =
      let b = m.header.few_nets in
      let c = counted in
      rw w_is (record {
        header = record {
          long = let l = rest.long in let h = m.header.long in omega arith;
          nodes = rest.same 1 (omega arith) ∙ m.header.nodes;
          entries = rest.same 2 (omega arith) ∙ m.header.entries;
          waits = rest.same 3 (omega arith) ∙ m.header.waits;
          limit_is = rest.same 5 (omega arith) ∙ m.header.limit_is;
          steps_are = rest.same 6 (omega arith) ∙ m.header.steps_are;
          nets_are = let l = length_is in omega arith;
          few_nodes = m.header.few_nodes;
          few_entries = m.header.few_entries;
          few_waits = m.header.few_waits;
          few_nets = let l = length_is in omega arith;
        };
        used = used_keep Named ws w e m (λ i p. rest.same i (omega arith)) (λ i p. rest.same i (omega arith));
        nodes = nodes_keep ws w (λ i p. rest.same i (omega arith)) m.nodes;
        marks = marks_keep ws w (λ i p. rest.same i (omega arith)) m.marks;
        vacant = vacant_keep ws w m.header.few_nodes (λ i p. rest.same i (omega arith)) (λ i p. rest.same i (omega arith)) m.vacant;
        dirty = dirty_keep ws w (λ i p. rest.same i (omega arith)) (λ i p. rest.same i (omega arith)) m.dirty;
        nets = λ j h. net_is j (rw length_is at h) (ℕ_discrete j (length e.nets));
        lists = rw (length_is, sum_snoc (λ n. length n.list.items) e.nets added)
            (subst (λ (s : ℕ). Pool (entries_in w e.pools.nodes) (suc (length e.nets)) (items_of (e.nets ++ added ∷ [])) s) (omega arith)
            (pool_wider (entries_in w e.pools.nodes) (length e.nets) (word 2 (omega arith) (omega arith)) (word 3 (omega arith) (omega arith))
            (items_of e.nets) (items_of (e.nets ++ added ∷ [])) (λ t h. part_old (λ n. n.list.items) t h) (part_new (λ n. n.list.items))
            (lists_keep Named ws w e m (λ i p. rest.same i (omega arith)) (λ i p. rest.same i (omega arith)) (λ i p. rest.same i (omega arith)))));
        waits_are = rw (length_is, sum_snoc (λ n. length n.awaiting) e.nets added)
            (subst (λ (s : ℕ). Pool (waits_in w e.pools.nodes e.pools.entries) (suc (length e.nets)) (awaiting_of (e.nets ++ added ∷ [])) s) (omega arith)
            (pool_wider (waits_in w e.pools.nodes e.pools.entries) (length e.nets) (word 8 (omega arith) (omega arith)) (word 9 (omega arith) (omega arith))
            (awaiting_of e.nets) (awaiting_of (e.nets ++ added ∷ [])) (λ t h. part_old (λ n. map (λ v. (v.node, v.net + 1)) n.awaiting) t h)
            (part_new (λ n. map (λ v. (v.node, v.net + 1)) n.awaiting))
            (awaits_keep Named ws w e m (λ i p. rest.same i (omega arith)) (λ i p. rest.same i (omega arith)) (λ i p. rest.same i (omega arith)))));
      })
