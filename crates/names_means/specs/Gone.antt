-- Nodes that go leave the nets' names alone: they were there, so their nets are nets.
use Rattle.std.specs.Prelude.{ℕ, zero, suc, ◌+◌, ◌<◌, ◌≤◌, ◌≡◌, refl, Bool, true, false, List, [], ◌∷◌, length, get_or, set}
use Rattle.std.proofs.Common.{sym, ◌∙◌, subst}
use Rattle.std.proofs.Math.Option.{Option, none, some}
use native.Mathlib.Omega.{arith}
use Rattle.words.specs.Choose.{eq_split, pick}
use Rattle.words.specs.Left.{Left}
use Rattle.layout.specs.Layout.{next, net_at_words, net_word_words, node_at, node_word, dirty_at, dirty_length, dirty_stale, dirty_capacity}
use Rattle.graph.specs.Graph.{fewer}
use Rattle.pools.specs.Pools.{give_slot}
use Rattle.lists.specs.Lists.{tighten_net_words, dirty_node, keep_dirty, sweep_dirty_from, sweep_dirty, dirty_again, restore_dirty_from, restore_dirty, tighten_dirty_words}
use Rattle.edits.specs.Edits.{loose, vacate, went_dirty, went, remove, remove_dead, remove_all, finish_edit_words}
use Rattle.net_file.specs.Values.{Name}
use Rattle.definitions.specs.Lists.{is_some}
use Rattle.definitions.specs.Nets.{Node, filled}
use Rattle.definitions.specs.State.{Engine, graph_of}
use Rattle.definitions.specs.Books.{remove_node}
use Rattle.good_laws.specs.Owners.{owner, owners, owner_at}
use Rattle.good_laws.specs.Good.{Good}
use Rattle.good_laws.specs.Removed.{remove_good, remove_owners, AllThere}
use Rattle.means.specs.Means.{Means}
use Rattle.means.specs.Frame.{rest_trans}
use Rattle.script_means.specs.Dead.{Dead}
use Rattle.script_means.specs.Tries.{net_read}
use Rattle.removal_means.proofs.Remove.{remove_means}
use Rattle.removal_means.specs.Room.{can_remove}
use Rattle.removal_means.specs.Kept as Low
use Rattle.names_means.specs.Kept.{Kept, kept_all, past, before, tighten_net_names}

-- ---- the dirty list

keep_dirty_kept : (ws : List ℕ) (i kept : ℕ) → Kept ws (keep_dirty ws i kept).ws
unfolding keep_dirty
keep_dirty_kept ws i kept =
    eq_split (node_word ws (dirty_node ws i) 2) 1 _ _ (λ (s : Left ℕ). Kept ws s.ws)
    (λ h. rest_trans (past ws (node_at (dirty_node ws i) 2) 0 (omega arith)) (past _ (dirty_at kept) (dirty_node ws i) (omega arith))) (λ h. kept_all ws)

sweep_dirty_kept : (k : ℕ) (ws : List ℕ) (i kept : ℕ) → Kept ws (sweep_dirty_from ws i kept k)
unfolding sweep_dirty_from
sweep_dirty_kept zero ws i kept = rest_trans (before ws 14 kept (omega arith)) (before _ 16 0 (omega arith))
sweep_dirty_kept (suc k) ws i kept = rest_trans (keep_dirty_kept ws i kept) (sweep_dirty_kept k _ (i + 1) (keep_dirty ws i kept).is)

restore_dirty_kept : (k : ℕ) (ws : List ℕ) (i : ℕ) → Kept ws (restore_dirty_from ws i k)
unfolding restore_dirty_from dirty_again
restore_dirty_kept zero ws i = kept_all ws
restore_dirty_kept (suc k) ws i = rest_trans (past ws (node_at (dirty_node ws i) 2) 1 (omega arith)) (restore_dirty_kept k _ (i + 1))

tighten_dirty_kept : (ws : List ℕ) → Kept ws (tighten_dirty_words ws)
unfolding tighten_dirty_words sweep_dirty restore_dirty
tighten_dirty_kept ws = rest_trans (sweep_dirty_kept (dirty_length ws) ws 0 0) (restore_dirty_kept (dirty_length (sweep_dirty ws)) (sweep_dirty ws) 0)

-- ---- a node

either : (ws a b : List ℕ) (t : Bool) → Kept ws a → Kept ws b → Kept ws (pick t a b)
unfolding pick
either ws a b true f g = f
either ws a b false f g = g

went_kept : (ws : List ℕ) (t : ℕ) → 1 ≤ t → Kept ws (went ws t)
unfolding went
went_kept ws t b =
    let v = next (net_word_words ws t 6) in
    let w = set ws (net_at_words t 6) v in
    let s : Kept ws w = past ws (net_at_words t 6) v (omega arith) in
    either ws (tighten_net_words w t) w (loose v (net_word_words w t 5)) (rest_trans s (tighten_net_names w t b)) s

went_dirty_kept : (ws : List ℕ) (t : ℕ) → 1 ≤ t → Kept ws (went_dirty ws t)
unfolding went_dirty fewer
went_dirty_kept ws t b =
    let v = next (dirty_stale ws) in
    let w = fewer (set ws 16 v) t in
    let s : Kept ws w = rest_trans (before ws 16 v (omega arith)) (past (set ws 16 v) (net_at_words t 7) _ (omega arith)) in
    either ws (tighten_dirty_words w) w (loose v (dirty_capacity w)) (rest_trans s (tighten_dirty_kept w)) s

vacate_kept : (ws : List ℕ) (n : ℕ) → Kept ws (vacate ws n)
unfolding vacate give_slot
vacate_kept ws n =
    rest_trans (rest_trans (rest_trans (past ws (node_at n 0) 0 (omega arith)) (past _ (node_at n 2) 0 (omega arith))) (past _ (node_at n 4) _ (omega arith))) (before _ 8 (next n) (omega arith))

pub remove_names : (ws : List ℕ) (n : ℕ) → 1 ≤ node_word ws n 0 → Kept ws (remove ws n)
unfolding remove
remove_names ws n b =
    let t = node_word ws n 0 in
    let v = vacate ws n in
    eq_split (node_word ws n 2) 1 _ _ (λ w. Kept ws w)
    (λ h. rest_trans (rest_trans (vacate_kept ws n) (went_dirty_kept v t b)) (went_kept (went_dirty v t) t b)) (λ h. rest_trans (vacate_kept ws n) (went_kept v t b))

-- ---- the dead nodes go

-- a slot with an owner is filled
there_is : (e : Engine) (n : ℕ) {k : ℕ} → get_or (owners (graph_of e)) n none ≡ some k → filled (graph_of e) n ≡ true
unfolding filled
there_is e n {k} h = go (get_or (graph_of e) n none) (sym (owner_at (graph_of e) n) ∙ h)
  where
    go : (o : Option Node) → owner o ≡ some k → is_some o ≡ true
    go none q = absurd (let z : ◌≡◌ {A = ℕ} 0 1 = cc in omega arith)
    go (some y) q = refl

-- from the i-th on
removed : (Named : ℕ → Name → Type 0) (x : ℕ → ℕ) (k : ℕ) → x k ≤ 4294900000 → (dead ws : List ℕ) (e : Engine) (i : ℕ) → i + length dead ≤ 32 → Means Named ws e → Good x e
    → AllThere (owners (graph_of e)) k dead → ((j : ℕ) → j < length dead → get_or ws (32 + (i + j)) 0 ≡ get_or dead j 0) → Kept ws (remove_all ws i (length dead))
unfolding remove_all remove_dead
removed Named x k b [] ws e i r m g h item = kept_all ws
removed Named x k b (n ∷ dead) ws e i r m g h item =
    let z : i + 0 ≡ i = omega arith in
    let is : get_or ws (32 + i) 0 ≡ n = rw z at (item 0 (omega arith)) in
    let w = remove ws n in
    let rest = Low.remove_kept ws n in
    let net = net_read Named ws e m n (there_is e n h.0) in
    subst (λ (y : ℕ). Kept ws (remove_all (remove ws y) (i + 1) (length dead))) (sym is)
    (rest_trans (remove_names ws n (omega arith))
    (removed Named x k b dead w (remove_node e n) (i + 1) (omega arith) (remove_means Named ws e m n k (can_remove Named ws e m x g n k h.0 b)) (remove_good x n k e g h.0)
    (subst (λ (o : List (Option ℕ)). AllThere o k dead) (sym (remove_owners e n)) h.1)
    (λ j a. let s : i + 1 + j ≡ i + suc j = omega arith in rest.same (32 + (i + 1 + j)) (omega arith) ∙ rw s (item (suc j) (omega arith)))))

module _ (Named : ℕ → Name → Type 0) (ws : List ℕ) (e : Engine) (m : Means Named ws e) (x : ℕ → ℕ) (g : Good x e) (k : ℕ) (b : x k ≤ 4294900000)
    (dead : List ℕ) (d : Dead ws dead) (h : AllThere (owners (graph_of e)) k dead) where
  -- `finish_edit` writes no net's name
  pub finish_edit_names : Kept ws (finish_edit_words ws)
  unfolding finish_edit_words
  finish_edit_names =
      let r = d.few in
      let w = remove_all ws 0 (length dead) in
      let done : Kept ws w = removed Named x k b dead ws e 0 (omega arith) m g h (λ j a. let s : 0 + j ≡ j = omega arith in rw s (d.item j a)) in
      rw d.count (rest_trans done (before w 17 0 (omega arith)))
