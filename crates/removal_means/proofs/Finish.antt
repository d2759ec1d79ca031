-- `finish_edit`: the nodes of the dead list go, in order. The list (`Dead` of crates/script_means) is no part of an engine.
use Rattle.std.specs.Prelude.{ℕ, suc, ◌+◌, ◌<◌, ◌≤◌, ◌≡◌, List, [], ◌∷◌, length, get_or, set}
use Rattle.std.proofs.Common.{sym, ◌∙◌, subst, get_or-set_same}
use Rattle.std.proofs.Math.Option.{Option}
use native.Mathlib.Omega.{arith}
use Rattle.edits.specs.Edits.{remove, remove_dead, remove_all, finish_edit_words}
use Rattle.net_file.specs.Values.{Name}
use Rattle.definitions.specs.State.{Engine, graph_of}
use Rattle.definitions.specs.Books.{remove_node, finish_edit}
use Rattle.good_laws.specs.Owners.{owners}
use Rattle.good_laws.specs.Good.{Good}
use Rattle.good_laws.specs.Removed.{remove_good, remove_owners, AllThere}
use Rattle.means.specs.Means.{Means}
use Rattle.means.specs.Frame.{rest_set}
use Rattle.script_means.specs.Dead.{OutDead, Dead, dead_keep, dead_none, means_dead}
use Rattle.removal_means.proofs.Remove.{remove_means}
use Rattle.removal_means.specs.Room.{can_remove}
use Rattle.removal_means.specs.Kept.{Kept, remove_kept}

-- ---- they go

-- from the i-th on
removed : (Named : ℕ → Name → Type 0) (x : ℕ → ℕ) (k : ℕ) → x k ≤ 4294900000 → (dead ws : List ℕ) (e : Engine) (i : ℕ) → i + length dead ≤ 32 → Means Named ws e → Good x e
    → AllThere (owners (graph_of e)) k dead → ((j : ℕ) → j < length dead → get_or ws (32 + (i + j)) 0 ≡ get_or dead j 0) → Means Named (remove_all ws i (length dead)) (finish_edit dead e)
unfolding remove_all remove_dead finish_edit
removed Named x k b [] ws e i r m g h item = m
removed Named x k b (n ∷ dead) ws e i r m g h item =
    let z : i + 0 ≡ i = omega arith in
    let is : get_or ws (32 + i) 0 ≡ n = rw z at (item 0 (omega arith)) in
    let w = remove ws n in
    let rest = remove_kept ws n in
    subst (λ (y : ℕ). Means Named (remove_all (remove ws y) (i + 1) (length dead)) (finish_edit dead (remove_node e n))) (sym is)
    (removed Named x k b dead w (remove_node e n) (i + 1) (omega arith) (remove_means Named ws e m n k (can_remove Named ws e m x g n k h.0 b)) (remove_good x n k e g h.0)
    (subst (λ (o : List (Option ℕ)). AllThere o k dead) (sym (remove_owners e n)) h.1)
    (λ j a. let s : i + 1 + j ≡ i + suc j = omega arith in rest.same (32 + (i + 1 + j)) (omega arith) ∙ rw s (item (suc j) (omega arith))))

module _ (Named : ℕ → Name → Type 0) (ws : List ℕ) (e : Engine) (m : Means Named ws e) (x : ℕ → ℕ) (g : Good x e) (k : ℕ) (b : x k ≤ 4294900000)
    (dead : List ℕ) (d : Dead ws dead) (h : AllThere (owners (graph_of e)) k dead) where
  -- all go, and none is left to go
  pub finish_edit_means : Means Named (finish_edit_words ws) (finish_edit dead e) × Dead (finish_edit_words ws) []
  unfolding finish_edit_words
  finish_edit_means =
      let r = d.few in
      let w = remove_all ws 0 (length dead) in
      let done : Means Named w (finish_edit dead e) = removed Named x k b dead ws e 0 (omega arith) m g h (λ j a. let s : 0 + j ≡ j = omega arith in rw s (d.item j a)) in
      let long = done.header.long in
      rw d.count (means_dead Named w (set w 17 0) (finish_edit dead e) done (rest_set OutDead w 17 0 (λ i o q. o (omega arith))), dead_none (get_or-set_same w 17 0 0 (omega arith)))
