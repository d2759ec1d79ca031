-- The waits, pending numbers and free waits of words that mean an engine of a run pass.
use Rattle.std.specs.Prelude.{ℕ, ◌+◌, ◌<◌, ◌≤◌, ◌≡◌, Bool, true, List, replicate}
use Rattle.std.proofs.Math.Path.{refl, ap, subst}
use Rattle.std.proofs.Common.{sym, ◌∙◌, arith, zero-add}
use Rattle.std.proofs.Math.Bool.{false}
use Rattle.std.proofs.Math.ListN.{length, get_or}
use Rattle.words.specs.Choose.{pick, pick_true}
use Rattle.words.specs.Left.{Left}
use Rattle.net_file.specs.Lists.{bit}
use Rattle.net_file.specs.Values.{Name}
use Rattle.layout.specs.Layout.{wait_word}
use Rattle.definitions.specs.State.{Engine, waits}
use Rattle.good_laws.specs.Good.{Good, rest}
use Rattle.good_laws.specs.Idle.{Idle}
use Rattle.waiter_laws.specs.Waiters.{Waited}
use Rattle.chains.specs.Seg.{Seg, All, Mine, all_map, seg_same}
use Rattle.means.specs.Means.{Means}
use Rattle.marks.specs.Walks.{says, each_with}
use Rattle.image_waits.specs.Waits.{net_holds}
use Rattle.image_chains.specs.Chains as chains
use Rattle.image_chains.specs.Chains.{used, first_free, low, vacant, pool_holds}
use Rattle.image_chains.specs.declared.Pool.TheVariants.{Waits}
use Rattle.image_pending.specs.Pending.{rest_holds, all_hold, waits_hold}
use Rattle.image_chains_means.specs.Alls.{all_of}
use Rattle.image_chains_means.specs.Places.{Marked, recount, all_places}
use Rattle.image_chains_means.specs.Chains.{Through, Free, pool_passes}
use Rattle.image_waits_means.specs.Net.{spots}
use Rattle.image_waits_means.specs.Nets.{pool, word_is, Stage, walk, all_nets, all_counted, all_made}
use Rattle.image_waits_means.specs.Pending.{pending_passes}

module _ (Named : ℕ → Name → Type 0) (ws : List ℕ) (e : Engine) (m : Means Named ws e) (good : Good rest e)
    (of : Waited e.pools.nodes (length e.nets) e) (idles : Idle e) where
  stage : Stage Named ws e m of idles (length e.nets) (walk Named ws e m of idles).ws
  stage = (all_nets Named ws e m of idles).1

  free_places : All (Free Waits ws 0 spots) m.waits_are.freed
  unfolding used vacant
  free_places = all_map (λ d i. let b = i.below in record { pos = i.pos; low = omega arith; vacant = refl }) m.waits_are.freed m.waits_are.free.mine

  free_new : All (λ d. stage.marked.has d ≡ false) m.waits_are.freed
  free_new = all_map (λ d i. go d i.tag (stage.marked.has d) refl) m.waits_are.freed m.waits_are.free.mine
    where
      go : (d : ℕ) → m.waits_are.own d ≡ 256 → (b : Bool) → stage.marked.has d ≡ b → b ≡ false
      go d i true y = absurd (let o = stage.owned d y in let b = m.header.few_nets in omega arith)
      go d i false y = refl

  pool_is : (pool_holds Waits ws (walk Named ws e m of idles).ws).is ≡ true
  unfolding used first_free low chains.after
  pool_is =
      let a : length m.waits_are.freed + waits e ≡ get_or ws 13 0 = m.waits_are.all in
      let u = m.used.waits in
      let f = m.header.few_waits in
      pool_passes Waits ws 0 spots m.waits_are.freed (walk Named ws e m of idles).ws stage.count stage.marked refl (omega arith)
      (seg_same _ _ _ m.waits_are.freed 0 m.waits_are.free.seg (all_of (λ c. word_is Named ws e m of idles c 2) m.waits_are.freed))
      (omega arith) free_places m.waits_are.free.once free_new
      (λ r c p i. all_places (recount r.marked (get_or ws 13 0) (let n = all_counted Named ws e m of idles stage in omega arith)) c p i)

  rest_passes : (rest_holds ws (walk Named ws e m of idles).ws).is ≡ true
  unfolding rest_holds used
  rest_passes =
      let p = pending_passes Named ws e m good (walk Named ws e m of idles).ws stage.marked.has
      (λ c p i. subst (λ (d : ℕ). get_or (walk Named ws e m of idles).ws d 0 ≡ bit (stage.marked.has c)) (zero-add c) (stage.marked.marked c p i))
      (all_made Named ws e m of idles stage) in
      ap (λ (r : Left Bool). r.is) (sym (pick_true _ _ _ p refl)) ∙ pool_is

  -- the walk over n nets, and the rest
  abbrev walked : ℕ → Left Bool
  walked n = each_with (net_holds ws) (replicate 4097 0) 1 n

  all_pass : (pick (walked (length e.nets)).is (rest_holds ws (walked (length e.nets)).ws) (says false (walked (length e.nets)).ws)).is ≡ true
  all_pass = ap (λ (r : Left Bool). r.is) (sym (pick_true _ _ _ (all_nets Named ws e m of idles).0 refl)) ∙ rest_passes

  -- `waits-hold` answers yes
  pub waits_pass : waits_hold ws ≡ true
  unfolding waits_hold all_hold
  waits_pass = subst (λ (n : ℕ). (pick (walked n).is (rest_holds ws (walked n).ws) (says false (walked n).ws)).is ≡ true) (sym m.header.nets_are) all_pass
