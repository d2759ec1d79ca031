-- What a function of the crate leaves on each way out, in the words of its tests and calls.
use Rattle.std.specs.Prelude.{Ok, Err, ℕ, ◌<◌, ◌≤◌, Bool, true, false, ◌≡◌, refl, List, length}
use Rattle.net_file.specs.Checks.{flat, read}
use Rattle.refusals.specs.declared.Refusal.{Refusal}
use Rattle.refusals.specs.Numbers.{number}
use Rattle.net_check.specs.Verdict.{Checked, verdict}
use Rattle.words.specs.Choose.{eq_yes, eq_no, lt_yes, lt_no, pick_true, pick_false}
use Rattle.store.specs.Store.{store, between}
use Rattle.lent.specs.Lent.{together, room, zero_words, zero_bytes}
use Rattle.lent.specs.declared.Pools.{Pools}
use Rattle.lent.specs.declared.Answer.{Answer}
use Rattle.lent.specs.declared.Answer.TheVariants.{Done}
use Rattle.lent.specs.declared.Answer.TheVariants.{Refused as Answer-as-Refused}
use Rattle.begin.specs.Begin.{loaded, load_file, on_checked, checked_file, begin}

pub file_loaded : (p : Pools) (ws w bs b file : List ℕ) (r n : ℕ) → n ≡ length file → r ≡ (loaded p ws file).is → w ≡ (loaded p ws file).ws → r ≡ 0
    → b ≡ store 0 (between file 0 n) bs → record { is = Done 0; ws = w; bs = b } ≡ load_file p ws bs file
unfolding load_file
file_loaded p ws w bs b file r n en er ew z eb = eq_yes _ _ _ _ (rw (← er) z) (rw (ew, eb, en))

pub load_refused : (p : Pools) (ws w x bs b file : List ℕ) (r n : ℕ) → n ≡ length file → r ≡ (loaded p ws file).is → w ≡ (loaded p ws file).ws → (r ≡ 0 → ⊥)
    → x ≡ zero_words p w → b ≡ zero_bytes n bs → record { is = Answer-as-Refused r; ws = x; bs = b } ≡ load_file p ws bs file
unfolding load_file
load_refused p ws w x bs b file r n en er ew z ex eb = eq_no _ _ _ _ (λ e. z (rw er e)) (rw (ex, eb, en, ew, er))

pub file_accepted : (p : Pools) (ws w bs b file : List ℕ) (c : Checked) (a : Answer) → c ≡ verdict (read flat file) → c ≡ Ok tt
    → a ≡ (load_file p ws bs file).is → w ≡ (load_file p ws bs file).ws → b ≡ (load_file p ws bs file).bs → record { is = a; ws = w; bs = b } ≡ checked_file p ws bs file
unfolding checked_file on_checked
file_accepted p ws w bs b file c a ec e ea ew eb = rw (← ec, e) (together (load_file p ws bs file) ea ew eb)

pub file_refused : (p : Pools) (ws bs file : List ℕ) (c : Checked) (e : Refusal) (r : ℕ) → c ≡ verdict (read flat file) → c ≡ Err e → r ≡ number e
    → record { is = Answer-as-Refused r; ws = ws; bs = bs } ≡ checked_file p ws bs file
unfolding checked_file on_checked
file_refused p ws bs file c e r ec h er = rw (← ec, h, er)

pub begin_checks : (p : Pools) (ws w bs b file : List ℕ) (t : Bool) (a : Answer) → t ≡ room p ws → t ≡ true → length file ≤ length bs
    → a ≡ (checked_file p ws bs file).is → w ≡ (checked_file p ws bs file).ws → b ≡ (checked_file p ws bs file).bs → record { is = a; ws = w; bs = b } ≡ begin p ws bs file
unfolding begin
begin_checks p ws w bs b file t a et h l ea ew eb = pick_true _ _ _ (rw (← et) h) (lt_no _ _ _ _ l (together (checked_file p ws bs file) ea ew eb))

pub begin_short : (p : Pools) (ws bs file : List ℕ) (t : Bool) → t ≡ room p ws → t ≡ true → length bs < length file
    → record { is = Answer-as-Refused 1; ws = ws; bs = bs } ≡ begin p ws bs file
unfolding begin
begin_short p ws bs file t et h l = pick_true _ _ _ (rw (← et) h) (lt_yes _ _ _ _ l refl)

pub begin_no_room : (p : Pools) (ws bs file : List ℕ) (t : Bool) → t ≡ room p ws → t ≡ false
    → record { is = Answer-as-Refused 1; ws = ws; bs = bs } ≡ begin p ws bs file
unfolding begin
begin_no_room p ws bs file t et h = pick_false _ _ _ (rw (← et) h) refl
