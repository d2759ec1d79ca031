-- A visit's end: no node is to go, and the place 0 is the free nodes' still.
use Rattle.std.specs.Prelude.{ℕ, zero, suc, ◌+◌, ◌<◌, ◌≡◌, List, length, get_or, set}
use Rattle.std.proofs.Math.Path.{ap}
use Rattle.std.proofs.Common.{◌∙◌, subst, arith}
use Rattle.net_file.specs.Values.{FlatNet, File}
use Rattle.definitions.specs.Nets.{Graph, name_of}
use Rattle.definitions.specs.State
use Rattle.definitions.specs.State.{Engine, graph_of, homes, with_slots, with_graph, net_at}
use Rattle.definitions.specs.Books.{finish_edit_net}
use Rattle.engine_laws.specs.Frame.{still_graph, still_frame, homes_kept, fewer_still, finish_net_still}
use Rattle.good_laws.specs.Good.{bump, rest}
use Rattle.words.specs.Choose.{eq_split}
use Rattle.words.specs.Left.{Left}
use Rattle.layout.specs.Layout.{dead, net_at_words, net_word_words, node_word, wait_at, wait_word}
use Rattle.graph.specs.Graph.{mark_dirty_words, fewer}
use Rattle.pools.specs.Pools.{give_wait}
use Rattle.waits.specs.Waits.{take_waits, wake, next_wait, settle, answer, answer_all, finish_edit_net_words}
use Rattle.run_slice.specs.Run.{leave}
use Rattle.means.specs.Means.{Means}
use Rattle.means.specs.Frame.{rest_trans}
use Rattle.removal_means.specs.Kept.{Kept, kept_set, kept_all}
use Rattle.removal_means.specs.Edited.{mark_dirty_kept}
use Rattle.held_names.specs.Named.{Named}
use Rattle.answer_means.specs.Answer.{leave_means}
use Rattle.seen_means.specs.Seen.{FreePlaces}
use Rattle.acts_means.specs.Holds.{Holds}
use Rattle.places_means.specs.Brought.{Has}
use Rattle.places_means.specs.Starred.{no_name, Starred, star_graph, star, starred_means, starred_good, starred_free, free_starred, places_told}

-- ---- the dead list's words

fewer_kept : (ws : List ℕ) (t : ℕ) → Kept ws (fewer ws t)
unfolding fewer
fewer_kept ws t = kept_set ws (net_at_words t 7) _ (λ i o d. omega arith)

wake_kept : (ws : List ℕ) (n t : ℕ) → Kept ws (wake ws n t)
unfolding wake
wake_kept ws n t = eq_split (node_word ws n 0) t (mark_dirty_words ws n) ws (λ (w : List ℕ). Kept ws w) (λ q. mark_dirty_kept ws n) (λ q. kept_all ws)

take_kept : (ws : List ℕ) (t rest : ℕ) → Kept ws (take_waits ws t rest).ws
unfolding take_waits
take_kept ws t rest = eq_split (net_word_words ws t 8) 0 _ _ (λ (l : Left ℕ). Kept ws l.ws) (λ q. kept_all ws)
    (λ q. rest_trans (rest_trans (kept_set ws (wait_at ws (net_word_words ws t 9) 2) rest (λ i o d. omega arith)) (kept_set _ (net_at_words t 8) 0 (λ i o d. omega arith))) (kept_set _ (net_at_words t 9) 0 (λ i o d. omega arith)))

next_kept : (ws : List ℕ) (t rest : ℕ) → Kept ws (next_wait ws t rest).ws
unfolding next_wait
next_kept ws t rest = eq_split (net_word_words ws t 7) 0 _ _ (λ (l : Left ℕ). Kept ws l.ws) (λ q. take_kept ws t rest) (λ q. kept_all ws)

answer_kept : (ws : List ℕ) (c : ℕ) → Kept ws (answer ws c).ws
unfolding answer settle give_wait
answer_kept ws c =
    let w = set ws (wait_at ws c 2) (get_or ws 12 0) in
    let v = set w 12 c in
    let u = wake v (wait_word ws c 0) (wait_word ws c 1) in
    rest_trans (rest_trans (rest_trans (rest_trans (kept_set ws (wait_at ws c 2) (get_or ws 12 0) (λ i o d. omega arith)) (kept_set w 12 c (λ i o d. omega arith)))
    (wake_kept v (wait_word ws c 0) (wait_word ws c 1))) (fewer_kept u (wait_word ws c 1))) (next_kept (fewer u (wait_word ws c 1)) (wait_word ws c 1) (wait_word ws c 2))

all_kept : (k : ℕ) (ws : List ℕ) (c : ℕ) → Kept ws (answer_all ws c k)
unfolding answer_all
all_kept zero ws c = kept_all ws
all_kept (suc k) ws c = eq_split c 0 ws _ (λ (w : List ℕ). Kept ws w) (λ q. kept_all ws) (λ q. rest_trans (answer_kept ws c) (all_kept k (answer ws c).ws (answer ws c).is))

leave_kept : (ws : List ℕ) (t : ℕ) → Kept ws (leave ws t)
unfolding leave finish_edit_net_words
leave_kept ws t =
    let w = fewer ws t in
    let a = take_waits w t 0 in
    rest_trans (fewer_kept ws t) (eq_split (net_word_words w t 7) 0 (answer_all a.ws a.is (get_or a.ws 13 0)) w (λ (v : List ℕ). Kept w v)
    (λ q. rest_trans (take_kept w t 0) (all_kept (get_or a.ws 13 0) a.ws a.is)) (λ q. kept_all w))

-- ---- the places

module _ (s : List ℕ) (f : File FlatNet) (k : ℕ) (ws : List ℕ) (e : Engine) (h : Holds s f (bump k rest) ws e) (below : k < length e.nets) where
  abbrev after : Engine → Engine
  after x = finish_edit_net k (State.fewer k x)

  renamed_too : Means (Starred s f) (leave ws (k + 1)) (after (star f e))
  unfolding leave with_graph with_slots net_at
  renamed_too =
      leave_means (Starred s f) ws (star f e) (starred_means s f ws e h.means h.kept.1.0 h.places) rest (λ j. omega arith) k below
      (starred_good s f ws e h.means h.kept.1.0 h.places (bump k rest) h.kept.0) h.waited

  still_star : graph_of (after (star f e)) ≡ star_graph f e
  unfolding with_graph with_slots
  still_star = still_graph (finish_net_still k (State.fewer k (star f e)) ∙ fewer_still k (star f e))

  left_places : FreePlaces (leave ws (k + 1)) (after e)
  unfolding leave
  left_places =
      places_told s f (homes e) (leave ws (k + 1)) (after e) (after (star f e))
      (leave_means (Named s f) ws e h.means rest (λ j. omega arith) k below h.kept.0 h.waited) renamed_too
      (λ j a. starred_free s f ws e h.means h.kept.1.0 h.places j (subst (λ (g : Graph). Has (no_name f) g j) still_star a))
      (λ j y i t. ap (λ (g : Graph). name_of g y.free) still_star ∙ free_starred s f ws e h.means h.kept.1.0 h.places j y i)
      (homes_kept (still_frame (finish_net_still k (State.fewer k e) ∙ fewer_still k e)))

  pub leaves_quiet : (dead (leave ws (k + 1)) ≡ 0) × FreePlaces (leave ws (k + 1)) (finish_edit_net k (State.fewer k e))
  leaves_quiet = ((leave_kept ws (k + 1)).same 17 (omega arith) ∙ h.none_dead, left_places)
