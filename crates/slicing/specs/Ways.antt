-- What a function of the crate leaves on each way out, in the words of its tests and calls.
use Rattle.std.specs.Prelude.{ℕ, Bool, true, false, ◌≡◌, refl, List, take}
use Rattle.words.specs.Choose.{pick_true, pick_false}
use Rattle.run_slice.specs.Run.{on_ran}
use Rattle.run_slice.specs.Run.{slice as run_slice}
use Rattle.run_slice.specs.declared.Ran.{Ran}
use Rattle.run_slice.specs.declared.Ran.TheVariants.{Rested}
use Rattle.run_slice.specs.declared.Ran.TheVariants.{Refused as Ran-as-Refused}
use Rattle.image.specs.Image.{resumable}
use Rattle.lent.specs.Lent.{Lent, together, room, held_length, zero_words, zero_bytes}
use Rattle.lent.specs.declared.Pools.{Pools}
use Rattle.lent.specs.declared.Answer.{Answer}
use Rattle.lent.specs.declared.Answer.TheVariants.{Done, Refused}
use Rattle.slicing.specs.Slicing.{steps_fit, run_held, slice_image, slice}

pub held_ran : (p : Pools) (n k s : ℕ) (ws w bs file : List ℕ) (r : Ran) → k ≡ held_length ws bs → file ≡ take k bs → r ≡ (run_slice ws file n).is
    → w ≡ (run_slice ws file n).ws → r ≡ Rested s → record { is = Done s; ws = w; bs = bs } ≡ run_held p n ws bs
unfolding run_held on_ran
held_ran p n k s ws w bs file r ek ef er ew e = rw (← ek, ← ef, ← er, e, ew)

pub held_refused : (p : Pools) (n k s m : ℕ) (ws w x bs b file : List ℕ) (r : Ran) → k ≡ held_length ws bs → file ≡ take k bs → r ≡ (run_slice ws file n).is
    → w ≡ (run_slice ws file n).ws → r ≡ Ran-as-Refused s m → x ≡ zero_words p w → b ≡ zero_bytes k bs
    → record { is = Refused m; ws = x; bs = b } ≡ run_held p n ws bs
unfolding run_held on_ran
held_refused p n k s m ws w x bs b file r ek ef er ew e ex eb = rw (← ek, ← ef, ← er, e, ex, eb, ew)

pub image_runs : (p : Pools) (n : ℕ) (ws w bs b : List ℕ) (t s : Bool) (a : Answer) → t ≡ resumable p.nodes p.entries p.waits ws bs → t ≡ true → s ≡ steps_fit n
    → s ≡ true → a ≡ (run_held p n ws bs).is → w ≡ (run_held p n ws bs).ws → b ≡ (run_held p n ws bs).bs → record { is = a; ws = w; bs = b } ≡ slice_image p n ws bs
unfolding slice_image
image_runs p n ws w bs b t s a et h es k ea ew eb =
    pick_true _ _ _ (rw (← et) h) (pick_true _ _ _ (rw (← es) k) (together (run_held p n ws bs) ea ew eb))

pub image_steps : (p : Pools) (n : ℕ) (ws bs : List ℕ) (t s : Bool) → t ≡ resumable p.nodes p.entries p.waits ws bs → t ≡ true → s ≡ steps_fit n → s ≡ false
    → record { is = Refused 4; ws = ws; bs = bs } ≡ slice_image p n ws bs
unfolding slice_image
image_steps p n ws bs t s et h es k = pick_true _ _ _ (rw (← et) h) (pick_false _ _ _ (rw (← es) k) refl)

pub no_image : (p : Pools) (n : ℕ) (ws bs : List ℕ) (t : Bool) → t ≡ resumable p.nodes p.entries p.waits ws bs → t ≡ false
    → record { is = Refused 16; ws = ws; bs = bs } ≡ slice_image p n ws bs
unfolding slice_image
no_image p n ws bs t et h = pick_false _ _ _ (rw (← et) h) refl

pub slice_room : (p : Pools) (n : ℕ) (ws w bs b : List ℕ) (t : Bool) (a : Answer) → t ≡ room p ws → t ≡ true → a ≡ (slice_image p n ws bs).is
    → w ≡ (slice_image p n ws bs).ws → b ≡ (slice_image p n ws bs).bs → record { is = a; ws = w; bs = b } ≡ slice p n ws bs
unfolding slice
slice_room p n ws w bs b t a et h ea ew eb = pick_true _ _ _ (rw (← et) h) (together (slice_image p n ws bs) ea ew eb)

pub slice_no_room : (p : Pools) (n : ℕ) (ws bs : List ℕ) (t : Bool) → t ≡ room p ws → t ≡ false → record { is = Refused 1; ws = ws; bs = bs } ≡ slice p n ws bs
unfolding slice
slice_no_room p n ws bs t et h = pick_false _ _ _ (rw (← et) h) refl
