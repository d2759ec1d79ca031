-- What a function of the crate leaves on each way out, in the words of its tests and calls.
use Rattle.std.specs.Prelude.{ℕ, ◌≤◌, ◌<◌, ◌%◌, Bool, true, false, ◌≡◌, refl, List, length, take, leb}
use Rattle.std.proofs.Common.{le-leb}
use Rattle.std.proofs.lemmas.Bool.{lt-leb}
use Rattle.words.specs.Choose.{pick_true, pick_false}
use Rattle.measure.specs.Measure.{measure}
use Rattle.measure.specs.declared.Size.{Size}
use Rattle.write_nodes.specs.Wrote.{Wrote}
use Rattle.finish.specs.Finish.{write}
use Rattle.image.specs.Image.{resumable}
use Rattle.lent.specs.Lent.{room, held_length, zero_words, zero_bytes}
use Rattle.lent.specs.declared.Pools.{Pools}
use Rattle.lent.specs.declared.Answer.{Answer}
use Rattle.lent.specs.declared.Answer.TheVariants.{Done, Refused}
use Rattle.finishing.specs.Finishing.{Given, given, on_answer, fits, run_result, delivered, finish_image, finish}

pub result_written : (ws w file out o : List ℕ) (size : Size) (t : Bool) → size ≡ measure ws file → t ≡ fits size (length out) → t ≡ true
    → w ≡ (write ws file out size.bytes).ws → o ≡ (write ws file out size.bytes).out
    → record { is = Done (size.bytes % 4294967296); ws = w; out = o } ≡ run_result ws file out
unfolding run_result
result_written ws w file out o size t es et h ew eo = rw (← es) (pick_true _ _ _ (rw (← et) h) (rw (ew, eo)))

pub result_refused : (ws file out : List ℕ) (size : Size) (t : Bool) → size ≡ measure ws file → t ≡ fits size (length out) → t ≡ false
    → record { is = Refused 15; ws = ws; out = out } ≡ run_result ws file out
unfolding run_result
result_refused ws file out size t es et h = rw (← es) (pick_false _ _ _ (rw (← et) h) refl)

pub delivered_done : (p : Pools) (n k : ℕ) (ws w x bs b file out o : List ℕ) (a : Answer) → k ≡ held_length ws bs → file ≡ take k bs → a ≡ (run_result ws file out).is
    → w ≡ (run_result ws file out).ws → o ≡ (run_result ws file out).out → a ≡ Done n → x ≡ zero_words p w → b ≡ zero_bytes k bs
    → record { is = Done n; ws = x; bs = b; out = o } ≡ delivered p ws bs out
unfolding delivered on_answer
delivered_done p n k ws w x bs b file out o a ek ef ea ew eo e ex eb = rw (← ek, ← ef, ← ea, e, ex, eb, ew, eo)

pub delivered_refused : (p : Pools) (n k : ℕ) (ws w bs file out o : List ℕ) (a : Answer) → k ≡ held_length ws bs → file ≡ take k bs → a ≡ (run_result ws file out).is
    → w ≡ (run_result ws file out).ws → o ≡ (run_result ws file out).out → a ≡ Refused n → record { is = Refused n; ws = w; bs = bs; out = o } ≡ delivered p ws bs out
unfolding delivered on_answer
delivered_refused p n k ws w bs file out o a ek ef ea ew eo e = rw (← ek, ← ef, ← ea, e, ew, eo)

pub image_delivered : (p : Pools) (ws w bs b out o : List ℕ) (t : Bool) (a : Answer) → t ≡ resumable p.nodes p.entries p.waits ws bs → t ≡ true
    → a ≡ (delivered p ws bs out).is → w ≡ (delivered p ws bs out).ws → b ≡ (delivered p ws bs out).bs → o ≡ (delivered p ws bs out).out
    → record { is = a; ws = w; bs = b; out = o } ≡ finish_image p ws bs out
unfolding finish_image
image_delivered p ws w bs b out o t a et h ea ew eb eo = pick_true _ _ _ (rw (← et) h) (given (delivered p ws bs out) ea ew eb eo)

pub no_image : (p : Pools) (ws bs out : List ℕ) (t : Bool) → t ≡ resumable p.nodes p.entries p.waits ws bs → t ≡ false
    → record { is = Refused 16; ws = ws; bs = bs; out = out } ≡ finish_image p ws bs out
unfolding finish_image
no_image p ws bs out t et h = pick_false _ _ _ (rw (← et) h) refl

pub finish_room : (p : Pools) (ws w bs b out o : List ℕ) (t : Bool) (a : Answer) → t ≡ room p ws → t ≡ true → a ≡ (finish_image p ws bs out).is
    → w ≡ (finish_image p ws bs out).ws → b ≡ (finish_image p ws bs out).bs → o ≡ (finish_image p ws bs out).out
    → record { is = a; ws = w; bs = b; out = o } ≡ finish p ws bs out
unfolding finish
finish_room p ws w bs b out o t a et h ea ew eb eo = pick_true _ _ _ (rw (← et) h) (given (finish_image p ws bs out) ea ew eb eo)

pub finish_no_room : (p : Pools) (ws bs out : List ℕ) (t : Bool) → t ≡ room p ws → t ≡ false
    → record { is = Refused 1; ws = ws; bs = bs; out = out } ≡ finish p ws bs out
unfolding finish
finish_no_room p ws bs out t et h = pick_false _ _ _ (rw (← et) h) refl

pub fits_by_bytes : (size : Size) (room : ℕ) (b : Bool) → size.nodes ≤ 4096 → b ≡ leb size.bytes room → b ≡ fits size room
unfolding fits
fits_by_bytes size room b h e = pick_true _ _ _ (le-leb size.nodes 4096 h) e

pub fits_not : (size : Size) (room : ℕ) → 4096 < size.nodes → false ≡ fits size room
unfolding fits
fits_not size room h = pick_false _ _ _ (lt-leb size.nodes 4096 h) refl
