-- One turn of the walk over the entries, and its end, in the words of the code's calls.
use Rattle.std.specs.Prelude.{ℕ, zero, suc, ◌-◌, ◌<◌, ◌≤◌, ◌≡◌, List, get_or}
use Rattle.std.proofs.Common.{not-suc-le-zero, sub-one}
use Rattle.words.specs.Left.{Left}
use Rattle.layout.specs.Layout.{next, dirty_at}
use Rattle.image_dirty.specs.Dirty.{meet, meet_all}

pub meet_more : (ws marks m : List ℕ) (i j met met' a n k : ℕ) (x : Left ℕ) → meet_all ws marks i met k ≡ x → 0 < k → a ≡ dirty_at i → n ≡ get_or ws a 0
    → met' ≡ (meet ws marks n met).is → m ≡ (meet ws marks n met).ws → j ≡ next i → meet_all ws m j met' (k - 1) ≡ x
unfolding meet_all
meet_more ws marks m i j met met' a n zero x e h ea en et em ej = absurd (not-suc-le-zero h)
meet_more ws marks m i j met met' a n (suc k) x e h ea en et em ej = rw (sub-one, ej, et, em, en, ea) e

pub meet_done : (ws marks : List ℕ) (i met k : ℕ) (x : Left ℕ) → meet_all ws marks i met k ≡ x → k ≤ 0 → record { is = met; ws = marks } ≡ x
unfolding meet_all
meet_done ws marks i met zero x e h = e
meet_done ws marks i met (suc k) x e h = absurd (not-suc-le-zero h)
