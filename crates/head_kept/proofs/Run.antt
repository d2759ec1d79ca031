-- A visit and a run write no word below 5: after a slice words 0 to 4 are as they were.
use Prim.Native.Nat.{ℕ, zero, suc, ◌+◌, ◌/◌, ◌%◌, ◌<◌}
use Rattle.std.specs.Prelude.{◌≡◌, List, get_or, replicate, eqb}
use Rattle.std.proofs.Common.{arith}
use Rattle.words.specs.Choose.{eq_split}
use Rattle.fields.specs.Fields.{byte}
use Rattle.layout.specs.Layout.{next, less, limit, steps, dirty_length, node_at, node_word, across, principal, node_of, is_principal_words}
use Rattle.node_names.specs.Names.{path}
use Rattle.rule_sets.specs.Sets.{set_of, rule_at_words, rule_sets}
use Rattle.tried.specs.Tries.{name}
use Rattle.interactions.specs.declared.Visited.{Visited}
use Rattle.interactions.specs.Interactions.{apply, apply_both, in_order, straight, pair, interact}
use Rattle.visit.specs.Visits.{rewrite, attempt, tried_if, tries, alone, meeting, rewrites, visit_pair, visit}
use Rattle.run_slice.specs.declared.Went.{Went}
use Rattle.run_slice.specs.declared.Went.TheVariants.{Go, Rest, Refused}
use Rattle.run_slice.specs.Run.{leave, deduct, count_step, live_turn, entry_turn, turn, on_went, step_on, over, go_on, run, fuel, slice}
use Rattle.head_kept.specs.Words.{First, Leaves, all_same, put, pick_split, fewer_first}
use Rattle.head_kept.specs.Lists.{finish_edit_first}
use Rattle.head_kept.specs.Waits.{finish_edit_net_first}
use Rattle.head_kept.specs.Rules.{tried_split, annihilate_first, erase_first, commute_first}
use Rattle.head_kept.specs.Etas.{eta_reduce_first}
use Rattle.head_kept.specs.Graft.{graft_first}
use Rattle.head_kept.specs.Run.{went_split, visit_first, leave_first, deduct_first}

module _ {u : List ℕ} where
  count_step_first : {ws : List ℕ} → First u ws → First u (count_step ws)
  unfolding count_step
  count_step_first {ws} f = deduct_first (put f 6 (next (steps ws)) (omega arith))

  live_turn_first : {ws : List ℕ} → First u ws → (file sets : List ℕ) (n : ℕ) → First u (live_turn ws file sets n).ws
  unfolding live_turn
  live_turn_first {ws} f file sets n =
      let t = node_word ws n 0 in
      let v = visit_first (put f (node_at n 2) 0 (omega arith)) file sets t n in
      tried_split _ _ _ _ (Leaves u) (leave_first v t) (leave_first (finish_edit_first (count_step_first v)) t) (λ r. v)

  turn_first : {ws : List ℕ} → First u ws → (file sets : List ℕ) → First u (turn ws file sets).ws
  unfolding turn entry_turn
  turn_first {ws} f file sets =
      let s = put f 14 (less (dirty_length ws)) (omega arith) in
      eq_split _ 1 _ _ (Leaves u) (λ h. live_turn_first s file sets _) (λ h. put s 16 _ (omega arith))

  go_on_first : {ws : List ℕ} → First u ws → (file sets : List ℕ) (most s : ℕ) → First u (go_on ws file sets most s).ws
  unfolding go_on step_on
  go_on_first {ws} f file sets most s =
      let a = turn_first f file sets in
      pick_split (over ws most s) _ _ (Leaves u) f
      (eq_split (dirty_length ws) 0 _ _ (Leaves u) (λ h. f)
      (λ h. tried_split (turn ws file sets).is _ _ _ (Leaves u) a a (λ r. a)))

  run_first : (k : ℕ) {ws : List ℕ} → First u ws → (file sets : List ℕ) (most s : ℕ) → First u (run ws file sets most s k).ws
  unfolding run
  run_first zero f file sets most s = f
  run_first (suc k) {ws} f file sets most s =
      let g = go_on_first f file sets most s in
      went_split (go_on ws file sets most s).is _ _ _ (Leaves u) (λ s'. run_first k g file sets most s') g (λ r. g)

pub slice_first : (ws file : List ℕ) (n : ℕ) → First ws (slice ws file n).ws
unfolding slice
slice_first ws file n = run_first fuel (all_same ws) file (rule_sets file (replicate 2112 0)) n 0

pub slice_head : (ws file : List ℕ) (n i : ℕ) → i < 5 → get_or (slice ws file n).ws i 0 ≡ get_or ws i 0
slice_head ws file n i h = (slice_first ws file n).same i (omega arith)
