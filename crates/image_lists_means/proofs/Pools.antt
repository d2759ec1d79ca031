-- The node lists, the free entries and the vacant slots of words that mean an engine of a run pass.
use Rattle.std.specs.Prelude.{ℕ, ◌+◌, ◌<◌, ◌≤◌, ◌≡◌, Bool, true, false, List, replicate}
use Rattle.std.proofs.Math.Path.{refl, subst}
use Rattle.std.proofs.Common.{sym, ap, ◌∙◌}
use Rattle.std.proofs.Math.Option.{Option, none, some}
use native.Mathlib.Omega.{arith}
use Rattle.std.proofs.Math.ListN.{length, get_or}
use Rattle.words.specs.Choose.{pick, pick_true}
use Rattle.words.specs.Left.{Left}
use Rattle.net_file.specs.Lists.{bit}
use Rattle.net_file.specs.Values.{Name}
use Rattle.definitions.specs.Lists.{nth}
use Rattle.definitions.specs.State.{Engine, graph_of, net_at, entries}
use Rattle.good_laws.specs.Owners.{owners}
use Rattle.good_laws.specs.Good.{Good, rest}
use Rattle.chains.specs.Seg.{Seg, All, all_map, seg_same}
use Rattle.means.specs.Means.{Means}
use Rattle.marks.specs.Walks.{says, each_with}
use Rattle.image_chains.specs.Chains.{used, first_free, after, low, vacant, free_hold, pool_holds}
use Rattle.image_chains.specs.declared.Pool.TheVariants.{Slots, Entries}
use Rattle.image_lists.specs.Lists.{list_holds}
use Rattle.image_pools.specs.Pools.{then, all_hold, pools_hold}
use Rattle.image_chains_means.specs.Alls.{all_of}
use Rattle.image_chains_means.specs.Places.{Marked, recount, all_places}
use Rattle.image_chains_means.specs.Chains.{Through, Free, Kept, chain_others, pool_left, pool_passes}
use Rattle.image_lists_means.specs.Net.{spots}
use Rattle.image_lists_means.specs.Nets.{under, word_is, few_entries, Stage, walk_all_words, all_counted}
use Rattle.image_lists_means.proofs.Nets.{all_lists}
use Rattle.image_lists_means.specs.Slots.{slots_pass}
use Rattle.image_lists_means.specs.Pools.{then_yes, marks, free_entries, free_seg, short, walked}

module _ (Named : ℕ → Name → Type 0) (ws : List ℕ) (e : Engine) (m : Means Named ws e) (good : Good rest e)
    (firsts : (k : ℕ) → k < length e.nets → nth (net_at e k).list.items 0 ≡ some (net_at e k).home.free) where
  stage : Stage Named ws e m good firsts (length e.nets) (marks Named ws e m good firsts)
  stage = (all_lists Named ws e m good firsts).1

  free_new : All (λ d. stage.marked.has d ≡ false) m.lists.freed
  free_new = all_map (λ d i. go d i.tag (stage.marked.has d) refl) m.lists.freed m.lists.free.mine
    where
      go : (d : ℕ) → m.lists.own d ≡ 256 → (b : Bool) → stage.marked.has d ≡ b → b ≡ false
      go d i true y = absurd (let o = stage.owned d y in let b = m.header.few_nets in omega arith)
      go d i false y = refl

  entries_pass : (pool_holds Entries ws (marks Named ws e m good firsts)).is ≡ true
  unfolding used low
  entries_pass =
      let a : length m.lists.freed + entries e ≡ get_or ws 11 0 = m.lists.all in
      let f : get_or ws 11 0 ≤ 16384 = few_entries Named ws e m good firsts in
      pool_passes Entries ws 0 spots m.lists.freed (marks Named ws e m good firsts) stage.count stage.marked refl (omega arith) (free_seg Named ws e m good firsts) (short Named ws e m good firsts) (free_entries Named ws e m good firsts) m.lists.free.once free_new
      (λ r c p i. all_places (recount r.marked (get_or ws 11 0) (let n = all_counted Named ws e m good firsts stage in omega arith)) c p i)

  kept : Kept Entries ws 0 spots (free_hold Entries ws (marks Named ws e m good firsts) (first_free Entries ws) (used Entries ws)) (marks Named ws e m good firsts)
  kept = chain_others Entries ws 0 spots m.lists.freed (marks Named ws e m good firsts) (first_free Entries ws) (used Entries ws) stage.count (free_seg Named ws e m good firsts) (short Named ws e m good firsts) (free_entries Named ws e m good firsts) m.lists.free.once stage.marked free_new

  vacant_pass : (pool_holds Slots ws (pool_holds Entries ws (marks Named ws e m good firsts)).ws).is ≡ true
  vacant_pass =
      let f = few_entries Named ws e m good firsts in
      rw (pool_left Entries ws 0 spots (marks Named ws e m good firsts)) (slots_pass Named ws e m good (free_hold Entries ws (marks Named ws e m good firsts) (first_free Entries ws) (used Entries ws)).ws
      (λ n h. kept.1 (16385 + n) (λ d p l. omega arith) ∙ stage.seen n h) (kept.0 ∙ stage.long))

  all_pass : (then ((walked Named ws e m good firsts) (length e.nets)) (λ x. then (pool_holds Entries ws x) (pool_holds Slots ws))).is ≡ true
  all_pass = then_yes _ _ (all_lists Named ws e m good firsts).0 (then_yes _ _ entries_pass vacant_pass)

  -- `pools-hold` answers yes
  pub pools_pass : pools_hold ws ≡ true
  unfolding pools_hold all_hold
  pools_pass = subst (λ (n : ℕ). (then ((walked Named ws e m good firsts) n) (λ x. then (pool_holds Entries ws x) (pool_holds Slots ws))).is ≡ true) (sym m.header.nets_are) all_pass
