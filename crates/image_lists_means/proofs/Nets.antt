-- The node lists of all nets pass, and leave marks on their entries and on the slots that hold nodes.
use Prim.Native.Nat.{ℕ, zero, suc, ◌+◌, ◌*◌, ◌<◌, ◌≤◌}
use Rattle.std.specs.Prelude.{◌≡◌, refl, ◌≢◌, ◌⊎◌, Bool, true, false, drop, replicate, eqb, ltb}
use Rattle.std.proofs.Math.Path.{sym, ap}
use Rattle.std.proofs.Common.{◌∙◌, subst, inl, inr, drop_of_length-le, drop-cons, eq-eqb, ne_eqb, eqb-true, lt-ltb, le-ltb, ltb-true}
use Rattle.std.proofs.lemmas.Bool.{false≢true}
use Rattle.std.proofs.Math.Option.{Option, none, some, some-injective}
use mathlib.Core.List.{List, [], ◌∷◌, map, Memᴰ}
use native.Mathlib.Omega.{arith}
use Rattle.std.proofs.Math.Decide.{ℕ_discrete}
use Rattle.std.proofs.Math.Nat.{zero-add}
use Rattle.std.proofs.Math.ListN.{length, get_or, length-replicate, get_or-replicate}
use Rattle.std.proofs.lemmas.List.{length-map}
use Rattle.words.specs.Choose.{pick, pick_true}
use Rattle.words.specs.Left.{Left}
use Rattle.net_file.specs.Lists.{bit, sum}
use Rattle.net_file.specs.Values.{Name}
use Rattle.layout.specs.Layout.{nets, net_word_words, node_word, entry_word}
use Rattle.definitions.specs.Lists.{nth}
use Rattle.definitions.specs.State.{Net, Engine, graph_of, net_at, entries}
use Rattle.good_laws.specs.Owners.{owners, is_of}
use Rattle.good_laws.specs.Good.{Good, rest}
use Rattle.chains.specs.Seg.{Seg, All, Once, Mine, last, all_map, all_last, seg_same, items_same}
use Rattle.chains.specs.Pools.{Pool}
use Rattle.means.specs.Means.{no_net, entries_in, items_of, Means}
use Rattle.marks.specs.Walks.{says, each_with}
use Rattle.image_chains.specs.Chains.{used}
use Rattle.image_chains.specs.declared.Pool.TheVariants.{Entries}
use Rattle.image_lists.specs.declared.Walk.{Walk}
use Rattle.image_lists.specs.Lists.{walk_list, sizes_hold, list_sizes_hold, first_holds, starts, end_holds, walked, list_holds}
use Rattle.image_means.specs.Yes.{same_yes, other_yes, given_yes, each_with_yes}
use Rattle.image_means.specs.Sizes.{sizes_pass}
use Rattle.image_means.specs.Meets.{Meets, meets_start, meets_seen, meets_count}
use Rattle.image_chains_means.specs.Places.{Marked, none_marked}
use Rattle.image_chains_means.specs.Alls.{all_of, all_mem}
use Rattle.image_lists_means.specs.Net.{live, Listed, EntryAt, walk_passes}
use Rattle.image_lists_means.specs.Nets.{under_more, under_less, pool, below, few_entries, places_length, places_seg, all_entries, first, Stage, drop_sum, fresh, begin, walk, list_is, start, StageAt, walk_all_words}

module _ (Named : ℕ → Name → Type 0) (ws : List ℕ) (e : Engine) (m : Means Named ws e) (good : Good rest e)
    (firsts : (k : ℕ) → k < length e.nets → nth (net_at e k).list.items 0 ≡ some (net_at e k).home.free) where
  module _ (k : ℕ) (marks : List ℕ) (h : k < length e.nets) (g : (Stage Named ws e m good firsts) k marks) where
    through : Listed Named ws e m k ((below Named ws e m good firsts) k) g.count g.marked.has ((pool Named ws e m good firsts).places k) 0 (walk Named ws e m good firsts k marks h g)
    unfolding walk
    through =
        walk_passes Named ws e m k ((below Named ws e m good firsts) k) ((pool Named ws e m good firsts).places k) marks (net_word_words ws (k + 1) 2) 0 0 g.count (few_entries Named ws e m good firsts) ((places_seg Named ws e m good firsts) k h) ((pool Named ws e m good firsts).nets k h).chain.once ((all_entries Named ws e m good firsts) k h) g.marked (fresh Named ws e m good firsts k marks h g) (begin Named ws e m good firsts k marks h g)
        g.long

    end_passes : end_holds ws (k + 1) (walk Named ws e m good firsts k marks h g).is ≡ true
    unfolding end_holds net_at
    end_passes =
        let n = m.nets k h in
        let c = meets_count through.met in
        let d = (good.lists k h).counted in
        let l = through.last_is in
        let z = ((first Named ws e m good firsts) k h).2 in
        let tail : (walk Named ws e m good firsts k marks h g).is.last ≡ net_word_words ws (k + 1) 3 = l ∙ sym ((pool Named ws e m good firsts).nets k h).tail in
        let a = n.stale_is in
        let b = n.length_is in
        other_yes _ _ _ (λ y. z (sym l ∙ y)) (same_yes _ _ _ through.ends (same_yes _ _ _ tail (eq-eqb ((walk Named ws e m good firsts k marks h g).is.met + net_word_words ws (k + 1) 6) (net_word_words ws (k + 1) 4) (omega arith))))

    stage_on : (Stage Named ws e m good firsts) (suc k) (walk Named ws e m good firsts k marks h g).ws
    stage_on = record {
      count = g.count + length ((pool Named ws e m good firsts).places k);
      marked = through.marked;
      owned = λ c y. owned c (through.only c y);
      counted = let b = (places_length Named ws e m good firsts) k h in let c = g.counted in let d = (drop_sum Named ws e m good firsts) (λ n. length n.list.items) k h in omega arith;
      seen = λ n l. through.met.marked n l ∙ ap bit (same n (through.met.seen n) refl ((below Named ws e m good firsts) (suc k) n) refl);
      long = through.long;
    }
      where
        owned : (c : ℕ) → (g.marked.has c ≡ true) ⊎ Memᴰ c ((pool Named ws e m good firsts).places k) → (pool Named ws e m good firsts).own c < suc k
        owned c (inl y) = let o = g.owned c y in omega arith
        owned c (inr i) = let o = (all_mem (Mine (pool Named ws e m good firsts).own (get_or ws 11 0 + 1) k) ((pool Named ws e m good firsts).places k) ((pool Named ws e m good firsts).nets k h).chain.mine c i).tag in omega arith

        met_under : (n : ℕ) → (is_of k (get_or (owners (graph_of e)) n none) ≡ true) ⊎ ((below Named ws e m good firsts) k n ≡ true) → through.met.seen n ≡ true
        met_under n (inl y) = meets_seen through.met n y
        met_under n (inr y) = through.met.kept n y

        same : (n : ℕ) (a : Bool) → through.met.seen n ≡ a → (b : Bool) → (below Named ws e m good firsts) (suc k) n ≡ b → through.met.seen n ≡ (below Named ws e m good firsts) (suc k) n
        same n true x true y = x ∙ sym y
        same n true x false y = absurd (false≢true (sym y ∙ under_more k (get_or (owners (graph_of e)) n none) (through.met.only n x)))
        same n false x true y = absurd (false≢true (sym x ∙ met_under n (under_less k (get_or (owners (graph_of e)) n none) y)))
        same n false x false y = x ∙ sym y

    pub list_passes : ((list_holds ws marks (k + 1)).is ≡ true) × (Stage Named ws e m good firsts) (suc k) (list_holds ws marks (k + 1)).ws
    list_passes = subst (λ (r : Left Bool). (r.is ≡ true) × (Stage Named ws e m good firsts) (suc k) r.ws) (list_is Named ws e m good firsts k marks h g) (end_passes, stage_on)

  step : (i : ℕ) (marks : List ℕ) → i < suc (length e.nets) → (StageAt Named ws e m good firsts) i marks → ((list_holds ws marks i).is ≡ true) × (StageAt Named ws e m good firsts) (suc i) (list_holds ws marks i).ws
  step zero marks h g = absurd g
  step (suc k) marks h g =
      let z : k + 1 ≡ suc k = omega arith in
      subst (λ (i : ℕ). ((list_holds ws marks i).is ≡ true) × (Stage Named ws e m good firsts) (suc k) (list_holds ws marks i).ws) z (list_passes k marks (omega arith) g)

  -- all lists pass, and leave these marks
  pub all_lists : ((walk_all_words Named ws e m good firsts).is ≡ true) × (Stage Named ws e m good firsts) (length e.nets) (walk_all_words Named ws e m good firsts).ws
  all_lists =
      let b = m.header.few_nets in
      each_with_yes (list_holds ws) (StageAt Named ws e m good firsts) (suc (length e.nets)) (omega arith) step (length e.nets) 1 (replicate 20481 0) (omega arith) (start Named ws e m good firsts)
