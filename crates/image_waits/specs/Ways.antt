-- One turn of the walk over the waits on a net, and its end, in the words of the code's tests and calls.
use Prim.Native.Nat.{ℕ, zero, suc, ◌-◌, ◌<◌, ◌≤◌}
use Rattle.std.specs.Prelude.{◌≡◌, Bool, true, false, List}
use Rattle.std.proofs.Math.Path.{refl}
use Rattle.std.proofs.Common.{sym, ◌∙◌, not-suc-le-zero, sub-one}
use Rattle.words.specs.Choose.{pick_true, pick_false}
use Rattle.words.specs.Left.{Left}
use Rattle.layout.specs.Layout.{wait_word}
use Rattle.marks.specs.Marks.{mark}
use Rattle.marks.specs.Walks.{says}
use Rattle.image_waits.specs.Waits.{is_wait, end_holds, waits_from}

module _ (ws marks : List ℕ) (t c last : ℕ) (b : Bool) (x : Left Bool) where
  pub waits_more : (m : List ℕ) (d k : ℕ) → waits_from ws marks t c last k ≡ x → 0 < k → b ≡ is_wait ws marks c → b ≡ true → m ≡ mark marks c → d ≡ wait_word ws c 2
      → waits_from ws m t d c (k - 1) ≡ x
  unfolding waits_from
  waits_more m d zero e h eb y em ed = absurd (not-suc-le-zero h)
  waits_more m d (suc k) e h eb y em ed = rw (sub-one, em, ed) (pick_true _ _ _ (sym eb ∙ y) refl ∙ e)

  pub waits_end : (k : ℕ) (r : Bool) → waits_from ws marks t c last k ≡ x → 0 < k → b ≡ is_wait ws marks c → b ≡ false → r ≡ end_holds ws t c last → says r marks ≡ x
  unfolding waits_from
  waits_end zero r e h eb y er = absurd (not-suc-le-zero h)
  waits_end (suc k) r e h eb y er = rw er (pick_false _ _ _ (sym eb ∙ y) refl ∙ e)

pub waits_done : (ws marks : List ℕ) (t c last k : ℕ) (x : Left Bool) (r : Bool) → waits_from ws marks t c last k ≡ x → k ≤ 0 → r ≡ end_holds ws t c last → says r marks ≡ x
unfolding waits_from
waits_done ws marks t c last zero x r e h er = rw er e
waits_done ws marks t c last (suc k) x r e h er = absurd (not-suc-le-zero h)
