-- The node lists, the free entries and the vacant slots of words that mean an engine of a run pass.
use Rattle.std.specs.Prelude.{ℕ, ◌+◌, ◌<◌, ◌≤◌, ◌≡◌, Bool, true, false, List, replicate}
use Rattle.std.proofs.Math.Path.{refl, subst}
use Rattle.std.proofs.Common.{sym, ap, ◌∙◌}
use Rattle.std.proofs.Math.Option.{Option, none, some}
use native.Mathlib.Omega.{arith}
use Rattle.std.proofs.Math.ListN.{length, get_or}
use Rattle.words.specs.Choose.{pick, pick_true}
use Rattle.words.specs.Left.{Left}
use Rattle.net_file.specs.Lists.{bit}
use Rattle.net_file.specs.Values.{Name}
use Rattle.definitions.specs.Lists.{nth}
use Rattle.definitions.specs.State.{Engine, graph_of, net_at, entries}
use Rattle.good_laws.specs.Owners.{owners}
use Rattle.good_laws.specs.Good.{Good, rest}
use Rattle.chains.specs.Seg.{Seg, All, all_map, seg_same}
use Rattle.means.specs.Means.{Means}
use Rattle.marks.specs.Walks.{says, each_with}
use Rattle.image_chains.specs.Chains.{used, first_free, after, low, vacant, free_hold, pool_holds}
use Rattle.image_chains.specs.declared.Pool.TheVariants.{Slots, Entries}
use Rattle.image_lists.specs.Lists.{list_holds}
use Rattle.image_pools.specs.Pools.{then, all_hold, pools_hold}
use Rattle.image_chains_means.specs.Alls.{all_of}
use Rattle.image_chains_means.specs.Places.{Marked, recount, all_places}
use Rattle.image_chains_means.specs.Chains.{Through, Free, Kept, chain_others, pool_left, pool_passes}
use Rattle.image_lists_means.specs.Net.{spots}
use Rattle.image_lists_means.specs.Nets.{under, word_is, few_entries, Stage, walk_all_words, all_counted}
use Rattle.image_lists_means.specs.Slots.{slots_pass}

-- an answer that is yes, and the next
pub then_yes : (r : Left Bool) (f : List ℕ → Left Bool) → r.is ≡ true → (f r.ws).is ≡ true → (then r f).is ≡ true
unfolding then
then_yes r f y h = ap (λ (x : Left Bool). x.is) (sym (pick_true _ _ _ y refl)) ∙ h

module _ (Named : ℕ → Name → Type 0) (ws : List ℕ) (e : Engine) (m : Means Named ws e) (good : Good rest e)
    (firsts : (k : ℕ) → k < length e.nets → nth (net_at e k).list.items 0 ≡ some (net_at e k).home.free) where
  -- the marks after the lists
  abbrev pub marks : List ℕ
  marks = (walk_all_words Named ws e m good firsts).ws

  pub free_entries : All (Free Entries ws 0 spots) m.lists.freed
  unfolding used vacant
  free_entries = all_map (λ d i. let b = i.below in record { pos = i.pos; low = omega arith; vacant = refl }) m.lists.freed m.lists.free.mine

  pub free_seg : Seg (after Entries ws) (first_free Entries ws) m.lists.freed 0
  unfolding first_free after
  free_seg = seg_same _ _ _ m.lists.freed 0 m.lists.free.seg (all_of (λ c. word_is Named ws e m good firsts c 1) m.lists.freed)

  pub short : length m.lists.freed ≤ used Entries ws
  unfolding used
  short = let a : length m.lists.freed + entries e ≡ get_or ws 11 0 = m.lists.all in omega arith

  -- the walk over n nets, and the rest
  abbrev pub walked : ℕ → Left Bool
  walked n = each_with (list_holds ws) (replicate 20481 0) 1 n
