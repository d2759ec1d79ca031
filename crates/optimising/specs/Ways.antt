-- What a function of the crate leaves on each way out, in the words of its tests and calls.
use Rattle.std.specs.Prelude.{Ok, Err, ℕ, ◌<◌, ◌≤◌, Bool, true, false, ◌≡◌, refl, List, length}
use Rattle.net_file.specs.Checks.{flat, read}
use Rattle.refusals.specs.declared.Refusal.{Refusal}
use Rattle.refusals.specs.Numbers.{number}
use Rattle.net_check.specs.Verdict.{Checked, verdict}
use Rattle.words.specs.Choose.{eq_yes, eq_no, lt_yes, lt_no, pick_true, pick_false}
use Rattle.run_slice.specs.Run.{on_ran}
use Rattle.run_slice.specs.Run.{slice as run_slice}
use Rattle.run_slice.specs.declared.Ran.{Ran}
use Rattle.run_slice.specs.declared.Ran.TheVariants.{Rested}
use Rattle.run_slice.specs.declared.Ran.TheVariants.{Refused as Ran-as-Refused}
use Rattle.write_nodes.specs.Wrote.{whole}
use Rattle.lent.specs.Lent.{room, zero_words, zero_bytes}
use Rattle.lent.specs.declared.Pools.{Pools}
use Rattle.lent.specs.declared.Answer.{Answer}
use Rattle.lent.specs.declared.Answer.TheVariants.{Refused}
use Rattle.begin.specs.Begin.{loaded, on_checked}
use Rattle.finishing.specs.Finishing.{given, run_result}
use Rattle.optimising.specs.Optimising.{optimize_run, optimize_loaded, optimize_file, optimize_checked, optimize}

pub run_finished : (ws w x file out o : List ℕ) (s : ℕ) (r : Ran) (a : Answer) → r ≡ (run_slice ws file 4294967295).is → w ≡ (run_slice ws file 4294967295).ws → r ≡ Rested s
    → a ≡ (run_result w file out).is → x ≡ (run_result w file out).ws → o ≡ (run_result w file out).out → record { is = a; ws = x; out = o } ≡ optimize_run ws file out
unfolding optimize_run on_ran
run_finished ws w x file out o s r a er ew e ea ex eo = rw (← er, e, ← ew) (whole (run_result w file out) ea ex eo)

pub run_refused : (ws w file out : List ℕ) (s n : ℕ) (r : Ran) → r ≡ (run_slice ws file 4294967295).is → w ≡ (run_slice ws file 4294967295).ws → r ≡ Ran-as-Refused s n
    → record { is = Refused n; ws = w; out = out } ≡ optimize_run ws file out
unfolding optimize_run on_ran
run_refused ws w file out s n r er ew e = rw (← er, e, ew)

pub loaded_runs : (p : Pools) (ws w x file out o : List ℕ) (r : ℕ) (a : Answer) → r ≡ (loaded p ws file).is → w ≡ (loaded p ws file).ws → r ≡ 0
    → a ≡ (optimize_run w file out).is → x ≡ (optimize_run w file out).ws → o ≡ (optimize_run w file out).out
    → record { is = a; ws = x; out = o } ≡ optimize_loaded p ws file out
unfolding optimize_loaded
loaded_runs p ws w x file out o r a er ew z ea ex eo = eq_yes _ _ _ _ (rw (← er) z) (rw (← ew) (whole (optimize_run w file out) ea ex eo))

pub load_refused : (p : Pools) (ws w file out : List ℕ) (r : ℕ) → r ≡ (loaded p ws file).is → w ≡ (loaded p ws file).ws → (r ≡ 0 → ⊥)
    → record { is = Refused r; ws = w; out = out } ≡ optimize_loaded p ws file out
unfolding optimize_loaded
load_refused p ws w file out r er ew z = eq_no _ _ _ _ (λ e. z (rw er e)) (rw (ew, er))

pub file_optimized : (p : Pools) (ws w x bs b file out o : List ℕ) (a : Answer) → a ≡ (optimize_loaded p ws file out).is → w ≡ (optimize_loaded p ws file out).ws
    → o ≡ (optimize_loaded p ws file out).out → x ≡ zero_words p w → b ≡ zero_bytes (length file) bs
    → record { is = a; ws = x; bs = b; out = o } ≡ optimize_file p ws bs file out
unfolding optimize_file
file_optimized p ws w x bs b file out o a ea ew eo ex eb = rw (ex, eb, ew, ea, eo)

pub file_accepted : (p : Pools) (ws w bs b file out o : List ℕ) (c : Checked) (a : Answer) → c ≡ verdict (read flat file) → c ≡ Ok tt
    → a ≡ (optimize_file p ws bs file out).is → w ≡ (optimize_file p ws bs file out).ws → b ≡ (optimize_file p ws bs file out).bs → o ≡ (optimize_file p ws bs file out).out
    → record { is = a; ws = w; bs = b; out = o } ≡ optimize_checked p ws bs file out
unfolding optimize_checked on_checked
file_accepted p ws w bs b file out o c a ec e ea ew eb eo = rw (← ec, e) (given (optimize_file p ws bs file out) ea ew eb eo)

pub file_refused : (p : Pools) (ws bs file out : List ℕ) (c : Checked) (e : Refusal) (r : ℕ) → c ≡ verdict (read flat file) → c ≡ Err e → r ≡ number e
    → record { is = Refused r; ws = ws; bs = bs; out = out } ≡ optimize_checked p ws bs file out
unfolding optimize_checked on_checked
file_refused p ws bs file out c e r ec h er = rw (← ec, h, er)

pub optimize_checks : (p : Pools) (ws w bs b file out o : List ℕ) (t : Bool) (a : Answer) → t ≡ room p ws → t ≡ true → length file ≤ length bs
    → a ≡ (optimize_checked p ws bs file out).is → w ≡ (optimize_checked p ws bs file out).ws → b ≡ (optimize_checked p ws bs file out).bs → o ≡ (optimize_checked p ws bs file out).out
    → record { is = a; ws = w; bs = b; out = o } ≡ optimize p ws bs file out
unfolding optimize
optimize_checks p ws w bs b file out o t a et h l ea ew eb eo =
    pick_true _ _ _ (rw (← et) h) (lt_no _ _ _ _ l (given (optimize_checked p ws bs file out) ea ew eb eo))

pub optimize_short : (p : Pools) (ws bs file out : List ℕ) (t : Bool) → t ≡ room p ws → t ≡ true → length bs < length file
    → record { is = Refused 1; ws = ws; bs = bs; out = out } ≡ optimize p ws bs file out
unfolding optimize
optimize_short p ws bs file out t et h l = pick_true _ _ _ (rw (← et) h) (lt_yes _ _ _ _ l refl)

pub optimize_no_room : (p : Pools) (ws bs file out : List ℕ) (t : Bool) → t ≡ room p ws → t ≡ false
    → record { is = Refused 1; ws = ws; bs = bs; out = out } ≡ optimize p ws bs file out
unfolding optimize
optimize_no_room p ws bs file out t et h = pick_false _ _ _ (rw (← et) h) refl
