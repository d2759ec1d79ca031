-- The node lists of all nets pass, and leave marks on their entries and on the slots that hold nodes.
use Prim.Native.Nat.{ℕ, zero, suc, ◌+◌, ◌*◌, ◌<◌, ◌≤◌}
use Rattle.std.specs.Prelude.{◌≡◌, refl, ◌≢◌, ◌⊎◌, Bool, true, false, drop, replicate, eqb, ltb}
use Rattle.std.proofs.Math.Path.{sym, ap}
use Rattle.std.proofs.Common.{◌∙◌, subst, inl, inr, drop_of_length-le, drop-cons, eq-eqb, ne_eqb, eqb-true, lt-ltb, le-ltb, ltb-true}
use Rattle.std.proofs.lemmas.Bool.{false≢true}
use Rattle.std.proofs.Math.Option.{Option, none, some, some-injective}
use mathlib.Core.List.{List, [], ◌∷◌, map, Memᴰ}
use native.Mathlib.Omega.{arith}
use Rattle.std.proofs.Math.Decide.{ℕ_discrete}
use Rattle.std.proofs.Math.Nat.{zero-add}
use Rattle.std.proofs.Math.ListN.{length, get_or, length-replicate, get_or-replicate}
use Rattle.std.proofs.lemmas.List.{length-map}
use Rattle.words.specs.Choose.{pick, pick_true}
use Rattle.words.specs.Left.{Left}
use Rattle.net_file.specs.Lists.{bit, sum}
use Rattle.net_file.specs.Values.{Name}
use Rattle.layout.specs.Layout.{nets, net_word_words, node_word, entry_word}
use Rattle.definitions.specs.Lists.{nth}
use Rattle.definitions.specs.State.{Net, Engine, graph_of, net_at, entries}
use Rattle.good_laws.specs.Owners.{owners, is_of}
use Rattle.good_laws.specs.Good.{Good, rest}
use Rattle.chains.specs.Seg.{Seg, All, Once, Mine, last, all_map, all_last, seg_same, items_same}
use Rattle.chains.specs.Pools.{Pool}
use Rattle.means.specs.Means.{no_net, entries_in, items_of, Means}
use Rattle.marks.specs.Walks.{says, each_with}
use Rattle.image_chains.specs.Chains.{used}
use Rattle.image_chains.specs.declared.Pool.TheVariants.{Entries}
use Rattle.image_lists.specs.declared.Walk.{Walk}
use Rattle.image_lists.specs.Lists.{walk_list, sizes_hold, list_sizes_hold, first_holds, starts, end_holds, walked, list_holds}
use Rattle.image_means.specs.Yes.{same_yes, other_yes, given_yes, each_with_yes}
use Rattle.image_means.specs.Sizes.{sizes_pass}
use Rattle.image_means.specs.Meets.{Meets, meets_start, meets_seen, meets_count}
use Rattle.image_chains_means.specs.Places.{Marked, none_marked}
use Rattle.image_chains_means.specs.Alls.{all_of, all_mem}
use Rattle.image_lists_means.specs.Net.{live, Listed, EntryAt, walk_passes}

-- a slot of a net below k
abbrev pub under : ℕ → Option ℕ → Bool
under k none = false
under k (some j) = ltb j k

pub under_live : (k : ℕ) (o : Option ℕ) → under k o ≡ true → is_of k o ≡ false
under_live k none h = refl
under_live k (some j) h = let l = ltb-true j k h in ne_eqb j k (omega arith)

pub under_more : (k : ℕ) (o : Option ℕ) → (is_of k o ≡ true) ⊎ (under k o ≡ true) → under (suc k) o ≡ true
under_more k none (inl h) = absurd (false≢true h)
under_more k none (inr h) = absurd (false≢true h)
under_more k (some j) (inl h) = let e = eqb-true j k h in lt-ltb j (suc k) (omega arith)
under_more k (some j) (inr h) = let l = ltb-true j k h in lt-ltb j (suc k) (omega arith)

pub under_less : (k : ℕ) (o : Option ℕ) → under (suc k) o ≡ true → (is_of k o ≡ true) ⊎ (under k o ≡ true)
under_less k none h = absurd (false≢true h)
under_less k (some j) h = let l = ltb-true j (suc k) h in elim (ℕ_discrete j k) [ yes e ↦ inl (eq-eqb j k e) | no d ↦ inr (lt-ltb j k (omega arith)) ]

pub under_none : (o : Option ℕ) → under 0 o ≡ false
under_none none = refl
under_none (some j) = le-ltb j 0 (omega arith)

module _ (Named : ℕ → Name → Type 0) (ws : List ℕ) (e : Engine) (m : Means Named ws e) (good : Good rest e)
    (firsts : (k : ℕ) → k < length e.nets → nth (net_at e k).list.items 0 ≡ some (net_at e k).home.free) where
  abbrev pub pool : Pool (entries_in ws e.pools.nodes) (length e.nets) (items_of e.nets) (entries e)
  pool = m.lists

  abbrev pub below : ℕ → ℕ → Bool
  below k n = under k (get_or (owners (graph_of e)) n none)

  pub word_is : (c f : ℕ) → entry_word ws c f ≡ get_or ws (5214 + 32 * e.pools.nodes + 2 * c + f) 0
  word_is c f = rw m.header.nodes

  pub few_entries : used Entries ws ≤ 16384
  unfolding used
  few_entries = let a = m.used.entries in let b = m.header.few_entries in omega arith

  module _ (k : ℕ) (h : k < length e.nets) where
    pub places_items : map (λ c. entry_word ws c 0) (pool.places k) ≡ (net_at e k).list.items
    unfolding net_at
    places_items =
        items_same (entries_in ws e.pools.nodes).node (λ c. entry_word ws c 0) (pool.places k) (pool.nets k h).chain.mine (λ d i. word_is d 0) ∙ (pool.nets k h).items

    pub places_length : length (pool.places k) ≡ length (net_at e k).list.items
    places_length = sym (length-map (pool.places k) (λ c. entry_word ws c 0)) ∙ ap (λ (l : List ℕ). length l) places_items

    pub places_seg : Seg (λ d. entry_word ws d 1) (net_word_words ws (k + 1) 2) (pool.places k) 0
    places_seg = seg_same _ (λ d. entry_word ws d 1) _ (pool.places k) 0 (pool.nets k h).chain.seg (all_of (λ c. word_is c 1) (pool.places k))

    pub entries_at : (l xs : List ℕ) → map (λ c. entry_word ws c 0) l ≡ xs → ((n : ℕ) → Memᴰ n xs → n < e.pools.nodes) → All (Mine pool.own (get_or ws 11 0 + 1) k) l → All (EntryAt Named ws e m k (below k)) l
    unfolding used
    entries_at [] xs i g a = tt
    entries_at (c ∷ l) [] i g a = absurd (let z : suc (length (map (λ c. entry_word ws c 0) l)) ≡ 0 = ap (λ (x : List ℕ). length x) i in omega arith)
    entries_at (c ∷ l) (x ∷ xs) i g a =
        let b = a.0.below in
        let w : entry_word ws c 0 ≡ x = ap (λ (y : List ℕ). get_or y 0 0) i in
        let y = g x (Memᴰ.head refl) in
        (record { pos = a.0.pos; low = omega arith; slot = omega arith }, entries_at l xs (ap (drop 1) i) (λ n o. g n (Memᴰ.tail o)) a.1)

    pub all_entries : All (EntryAt Named ws e m k (below k)) (pool.places k)
    all_entries = entries_at (pool.places k) (net_at e k).list.items places_items (good.lists k h).slots (pool.nets k h).chain.mine

    -- the first entry names the free node, and the last is an entry
    pub first_is : (l xs : List ℕ) (c : ℕ) → map (λ c. entry_word ws c 0) l ≡ xs → nth xs 0 ≡ some (net_at e k).home.free → Seg (λ d. entry_word ws d 1) c l 0
        → All (Mine pool.own (get_or ws 11 0 + 1) k) l → (entry_word ws c 0 ≡ (net_at e k).home.free) × (0 < length l) × (last l 0 ≢ 0)
    first_is [] [] c i f g a = absurd (let z : ◌≡◌ {A = ℕ} 0 1 = cc in omega arith)
    first_is [] (x ∷ xs) c i f g a = absurd (let z : 0 ≡ suc (length xs) = ap (λ (x : List ℕ). length x) i in omega arith)
    first_is (d ∷ l) [] c i f g a = absurd (let z : suc (length (map (λ c. entry_word ws c 0) l)) ≡ 0 = ap (λ (x : List ℕ). length x) i in omega arith)
    first_is (d ∷ l) (x ∷ xs) c i f g a =
        let b = (all_last (Mine pool.own (get_or ws 11 0 + 1) k) d l a).pos in
        (ap (λ j. entry_word ws j 0) g.0 ∙ ap (λ (y : List ℕ). get_or y 0 0) i ∙ some-injective x (net_at e k).home.free f, omega arith, omega arith)

    pub first : (entry_word ws (net_word_words ws (k + 1) 2) 0 ≡ (net_at e k).home.free) × (0 < length (pool.places k)) × (last (pool.places k) 0 ≢ 0)
    first = first_is (pool.places k) (net_at e k).list.items (net_word_words ws (k + 1) 2) places_items (firsts k h) places_seg (pool.nets k h).chain.mine

    pub starts_pass : starts ws (k + 1) ≡ true
    unfolding starts list_sizes_hold first_holds net_at
    starts_pass =
        let n = m.nets k h in
        let g = good.lists k h in
        let b = m.header.few_nodes in
        let bound = g.bound in
        let r = g.room in
        let pl = places_length in
        let fl = first.1 in
        given_yes _ _
        (rw (n.length_is, n.capacity_is, n.stale_is) (sizes_pass _ _ _ g.grows (omega arith) (omega arith) g.room g.half))
        (eq-eqb (entry_word ws (net_word_words ws (k + 1) 2) 0) (net_word_words ws (k + 1) 1) (first.0 ∙ sym n.free))

  -- ---- all nets

  -- before net k: the lists of the nets below it are met
  pub record Stage (k : ℕ) (marks : List ℕ) : Type 0 where
    pub count : ℕ
    pub marked : Marked (used Entries ws) 0 marks count
    pub owned : (c : ℕ) → marked.has c ≡ true → pool.own c < k
    pub counted : count + sum (map (λ n. length n.list.items) (drop k e.nets)) ≡ entries e
    pub seen : (n : ℕ) → n < e.pools.nodes → get_or marks (16385 + n) 0 ≡ bit (below k n)
    pub long : length marks ≡ 20481

  pub drop_sum : (f : Net → ℕ) (k : ℕ) → k < length e.nets → sum (map f (drop k e.nets)) ≡ f (net_at e k) + sum (map f (drop (suc k) e.nets))
  unfolding net_at
  drop_sum f k h = ap (λ (l : List Net). sum (map f l)) (drop-cons e.nets k no_net h)

  module _ (k : ℕ) (marks : List ℕ) (h : k < length e.nets) (g : Stage k marks) where
    pub fresh : All (λ d. g.marked.has d ≡ false) (pool.places k)
    fresh = all_map (λ d i. go d i.tag (g.marked.has d) refl) (pool.places k) (pool.nets k h).chain.mine
      where
        go : (d : ℕ) → pool.own d ≡ k → (b : Bool) → g.marked.has d ≡ b → b ≡ false
        go d i true y = absurd (let o = g.owned d y in omega arith)
        go d i false y = refl

    pub begin : Meets e.pools.nodes 16385 (live Named ws e m k) (below k) marks 0 (map (λ c. entry_word ws c 0) (pool.places k))
    begin =
        meets_start marks (map (λ c. entry_word ws c 0) (pool.places k)) g.seen (λ n y. under_live k (get_or (owners (graph_of e)) n none) y)
        (λ n y. subst (Memᴰ n) (sym (places_items k h)) ((good.lists k h).there n y))

    unfoldable pub walk : Left Walk
    walk = walk_list ws marks (k + 1) (record { entry = net_word_words ws (k + 1) 2; last = 0; met = 0 }) (length (pool.places k))

    -- `list-holds` answers yes
    pub list_is : says (end_holds ws (k + 1) walk.is) walk.ws ≡ list_holds ws marks (k + 1)
    unfolding list_holds walked walk net_at
    list_is =
        let n : length (pool.places k) ≡ net_word_words ws (k + 1) 4 = places_length k h ∙ sym (m.nets k h).length_is in
        pick_true _ _ _ (starts_pass k h) (ap (λ (j : ℕ). says (end_holds ws (k + 1) (walked' j).is) (walked' j).ws) n)
      where
        walked' : ℕ → Left Walk
        walked' j = walk_list ws marks (k + 1) (record { entry = net_word_words ws (k + 1) 2; last = 0; met = 0 }) j

  -- none is met
  pub start : Stage 0 (replicate 20481 0)
  unfolding entries
  start = record {
    count = 0;
    marked = none_marked (replicate 20481 0) (let f = few_entries in let l = long in omega arith) (λ c p i. let f = few_entries in rw (zero-add c) (get_or-replicate 20481 c 0 0 (omega arith)));
    owned = λ c y. absurd (false≢true y);
    counted = zero-add _;
    seen = λ n h. let b = m.header.few_nodes in get_or-replicate 20481 (16385 + n) 0 0 (omega arith) ∙ sym (ap bit (under_none (get_or (owners (graph_of e)) n none)));
    long = long;
  }
    where
      long : length (replicate {A = ℕ} 20481 0) ≡ 20481
      long = length-replicate {A = ℕ} 20481 0

  abbrev pub StageAt : ℕ → List ℕ → Type 0
  StageAt zero marks = ⊥
  StageAt (suc k) marks = Stage k marks

  abbrev pub walk_all_words : Left Bool
  walk_all_words = each_with (list_holds ws) (replicate 20481 0) 1 (length e.nets)

  -- every entry of a list is met
  pub all_counted : (g : Stage (length e.nets) walk_all_words.ws) → g.count ≡ entries e
  all_counted g =
      let d : drop (length e.nets) e.nets ≡ [] = drop_of_length-le e.nets {i = length e.nets} (omega arith) in
      let z : sum (map (λ n. length n.list.items) (drop (length e.nets) e.nets)) ≡ 0 = ap (λ (l : List Net). sum (map (λ n. length n.list.items) l)) d in
      let c = g.counted in
      omega arith
