-- A visit and a run write no word below 5: after a slice words 0 to 4 are as they were.
use Prim.Native.Nat.{ℕ, zero, suc, ◌+◌, ◌/◌, ◌%◌, ◌<◌}
use Rattle.std.specs.Prelude.{◌≡◌, List, get_or, replicate, eqb}
use Rattle.std.proofs.Common.{arith}
use Rattle.words.specs.Choose.{eq_split}
use Rattle.fields.specs.Fields.{byte}
use Rattle.layout.specs.Layout.{next, less, limit, steps, dirty_length, node_at, node_word, across, principal, node_of, is_principal_words}
use Rattle.node_names.specs.Names.{path}
use Rattle.rule_sets.specs.Sets.{set_of, rule_at_words, rule_sets}
use Rattle.tried.specs.Tries.{name}
use Rattle.interactions.specs.declared.Visited.{Visited}
use Rattle.interactions.specs.Interactions.{apply, apply_both, in_order, straight, pair, interact}
use Rattle.visit.specs.Visits.{rewrite, attempt, tried_if, tries, alone, meeting, rewrites, visit_pair, visit}
use Rattle.run_slice.specs.declared.Went.{Went}
use Rattle.run_slice.specs.declared.Went.TheVariants.{Go, Rest, Refused}
use Rattle.run_slice.specs.Run.{leave, deduct, count_step, live_turn, entry_turn, turn, on_went, step_on, over, go_on, run, fuel, slice}
use Rattle.head_kept.specs.Words.{First, Leaves, all_same, put, pick_split, fewer_first}
use Rattle.head_kept.specs.Lists.{finish_edit_first}
use Rattle.head_kept.specs.Waits.{finish_edit_net_first}
use Rattle.head_kept.specs.Rules.{tried_split, annihilate_first, erase_first, commute_first}
use Rattle.head_kept.specs.Etas.{eta_reduce_first}
use Rattle.head_kept.specs.Graft.{graft_first}

-- by what a turn leads to
pub went_split : {A : Type 0} (g : Went) (f : ℕ → A) (a : A) (h : ℕ → A) (P : A → Type 0) → ((s : ℕ) → P (f s)) → P a → ((r : ℕ) → P (h r)) → P (on_went g f a h)
unfolding on_went
went_split (Go s) f a h P x y z = x s
went_split Rest f a h P x y z = y
went_split (Refused r) f a h P x y z = z r

module _ {u : List ℕ} where
  -- ---- interactions

  pub apply_first : {ws : List ℕ} → First u ws → (tag t a b : ℕ) → First u (apply ws tag t a b).ws
  unfolding apply
  apply_first f tag t a b = eq_split tag 3 _ _ (Leaves u) (λ h. erase_first f t a b) (λ h. commute_first f t a b)

  pub apply_both_first : {ws : List ℕ} → First u ws → (tag t a b : ℕ) → First u (apply_both ws tag t a b).ws
  unfolding apply_both
  apply_both_first {ws} f tag t a b =
      let s = apply_first f tag t a b in
      tried_split (apply ws tag t a b).is _ _ _ (Leaves u) (apply_first s tag t b a) s (λ r. s)

  pub in_order_first : {ws : List ℕ} → First u ws → (file : List ℕ) (at : ℕ) (v : Visited) → First u (in_order ws file at v).ws
  unfolding in_order
  in_order_first f file at v =
      pick_split _ _ _ (Leaves u) (apply_both_first f (byte file at) v.net.0 v.node.0 v.other.0) (apply_both_first f (byte file at) v.net.0 v.other.0 v.node.0)

  pub pair_first : {ws : List ℕ} → First u ws → (file sets : List ℕ) (r : ℕ) (v : Visited) → First u (pair ws file sets r v).ws
  unfolding pair straight
  pair_first {ws} f file sets r v =
      let tag = byte file (rule_at_words sets r) in
      let one = apply_first f tag v.net.0 v.node.0 v.other.0 in
      pick_split _ _ _ (Leaves u)
      (eq_split v.path v.facing _ _ (Leaves u) (λ h. one) (λ h. pick_split _ _ _ (Leaves u) (in_order_first f file (rule_at_words sets r) v) one))
      (pick_split _ _ _ (Leaves u) (apply_first f tag v.net.0 v.other.0 v.node.0) f)

  pub interact_first : {ws : List ℕ} → First u ws → (file sets : List ℕ) (r : ℕ) (v : Visited) → First u (interact ws file sets r v).ws
  unfolding interact
  interact_first f file sets r v =
      eq_split (byte file (rule_at_words sets r)) 2 _ _ (Leaves u)
      (λ h. eq_split v.path v.facing _ _ (Leaves u) (λ h. annihilate_first f file v.node.0 v.other.0) (λ h. f)) (λ h. pair_first f file sets r v)

  -- ---- a visit

  pub attempt_first : {ws : List ℕ} → First u ws → (file sets : List ℕ) (r : ℕ) (v : Visited) → First u (attempt ws file sets r v).ws
  unfolding attempt rewrite
  attempt_first f file sets r v =
      let at = rule_at_words sets r in
      pick_split v.meets _ _ (Leaves u) (interact_first f file sets r v)
      (eq_split (byte file at) 1 _ _ (Leaves u) (λ h. graft_first f file (eqb (byte file (at + 3)) 1) v.net.0 v.node.0)
      (λ h. eta_reduce_first f file sets r v.net.0 v.node.0))

  pub tried_if_first : {ws : List ℕ} → First u ws → (file sets : List ℕ) (rules r : ℕ) (v : Visited) → First u (tried_if ws file sets rules r v).ws
  unfolding tried_if
  tried_if_first f file sets rules r v = eq_split (rules % 2) 1 _ _ (Leaves u) (λ h. attempt_first f file sets r v) (λ h. f)

  pub tries_first : (k : ℕ) {ws : List ℕ} → First u ws → (file sets : List ℕ) (v : Visited) (rules r : ℕ) → First u (tries ws file sets v rules r k).ws
  unfolding tries
  tries_first zero f file sets v rules r = f
  tries_first (suc k) {ws} f file sets v rules r =
      let s = tried_if_first f file sets rules r v in
      eq_split rules 0 _ _ (Leaves u) (λ h. f)
      (λ h. tried_split (tried_if ws file sets rules r v).is _ _ _ (Leaves u) (tries_first k s file sets v (rules / 2) (next r)) s (λ n. s))

  pub rewrites_first : {ws : List ℕ} → First u ws → (file sets : List ℕ) (t n p : ℕ) → First u (rewrites ws file sets t n p).ws
  unfolding rewrites
  rewrites_first f file sets t n p = tries_first 64 f file sets (alone t n p) (set_of sets p 3) 0

  pub visit_pair_first : {ws : List ℕ} → First u ws → (file sets : List ℕ) (t n m p : ℕ) → First u (visit_pair ws file sets t n m p).ws
  unfolding visit_pair
  visit_pair_first {ws} f file sets t n m p =
      let s = tries_first 64 f file sets (meeting t n p m (path file (name ws m))) (set_of sets p 2) 0 in
      tried_split _ _ _ _ (Leaves u) (rewrites_first s file sets t n p) s (λ r. s)

  pub visit_first : {ws : List ℕ} → First u ws → (file sets : List ℕ) (t n : ℕ) → First u (visit ws file sets t n).ws
  unfolding visit
  visit_first {ws} f file sets t n =
      let a = name ws n in
      let q = across ws (principal n) in
      eq_split a 0 _ _ (Leaves u) (λ h. f)
      (λ h. pick_split (is_principal_words q) _ _ (Leaves u) (visit_pair_first f file sets t n (node_of q) (path file a)) (rewrites_first f file sets t n (path file a)))

  -- ---- a run

  pub leave_first : {ws : List ℕ} → First u ws → (t : ℕ) → First u (leave ws t)
  unfolding leave
  leave_first f t = finish_edit_net_first (fewer_first f t) t

  -- the limit is word 5, the first that is written
  pub deduct_first : {ws : List ℕ} → First u ws → First u (deduct ws)
  unfolding deduct
  deduct_first {ws} f = eq_split (limit ws) 4294967295 _ _ (First u) (λ h. f) (λ h. put f 5 (less (limit ws)) (omega arith))
