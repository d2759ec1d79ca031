-- One turn of a walk over a list, its end, and what comes of it, in the words of the code's tests and calls.
use Rattle.std.specs.Prelude.{ℕ, zero, suc, ◌-◌, ◌<◌, ◌≤◌, ◌≡◌, Bool, true, List}
use Rattle.std.proofs.Common.{sym, ◌∙◌, not-suc-le-zero, sub-one}
use Rattle.words.specs.Choose.{pick_true}
use Rattle.words.specs.Left.{Left}
use Rattle.layout.specs.Layout.{net_word_words}
use Rattle.marks.specs.Walks.{says}
use Rattle.image_lists.specs.Lists.{step, walk_list, starts, end_holds, walked, list_holds}
use Rattle.image_lists.specs.declared.Walk.{Walk}

pub walk_more : (ws marks m : List ℕ) (t : ℕ) (w w' : Walk) (k : ℕ) (x : Left Walk) → walk_list ws marks t w k ≡ x → 0 < k
    → w' ≡ (step ws marks t w).is → m ≡ (step ws marks t w).ws → walk_list ws m t w' (k - 1) ≡ x
unfolding walk_list
walk_more ws marks m t w w' zero x e h ew em = absurd (not-suc-le-zero h)
walk_more ws marks m t w w' (suc k) x e h ew em = rw (sub-one, ew, em) e

pub walk_done : (ws marks : List ℕ) (t : ℕ) (w : Walk) (k : ℕ) (x : Left Walk) → walk_list ws marks t w k ≡ x → k ≤ 0 → record { is = w; ws = marks } ≡ x
unfolding walk_list
walk_done ws marks t w zero x e h = e
walk_done ws marks t w (suc k) x e h = absurd (not-suc-le-zero h)

module _ (ws marks : List ℕ) (t : ℕ) (b : Bool) (eb : b ≡ starts ws t) where
  pub list_walked : (m : List ℕ) (h k : ℕ) (w : Walk) (r : Bool) → b ≡ true → h ≡ net_word_words ws t 2 → k ≡ net_word_words ws t 4
      → w ≡ (walk_list ws marks t (record { entry = h; last = 0; met = 0 }) k).is → m ≡ (walk_list ws marks t (record { entry = h; last = 0; met = 0 }) k).ws
      → r ≡ end_holds ws t w → says r m ≡ list_holds ws marks t
  unfolding list_holds walked
  list_walked m h k w r y eh ek ew em er = pick_true _ _ _ (sym eb ∙ y) (rw (er, ew, em, eh, ek))
