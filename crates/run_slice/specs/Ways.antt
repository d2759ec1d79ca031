-- What a function of the crate leaves on each way out, and one turn of its loop, in the words of its tests and calls.
use Rattle.std.specs.Prelude.{ℕ, zero, suc, ◌-◌, ◌<◌, ◌≤◌, Bool, true, false, ◌≡◌, refl, List, set}
use Rattle.std.proofs.Common.{not-suc-le-zero, sub-one}
use Rattle.words.specs.Choose.{eq_yes, eq_no, pick_true, pick_false}
use Rattle.words.specs.Left.{Left, whole}
use Rattle.layout.specs.Layout.{next, less, limit, dirty_length, dirty_stale, node_word, set_node_word}
use Rattle.edits.specs.Edits.{finish_edit_words}
use Rattle.tried.specs.Tries.{on_tried}
use Rattle.tried.specs.declared.Tried.{Tried}
use Rattle.tried.specs.declared.Tried.TheVariants.{Passed, Acted, Refused}
use Rattle.visit.specs.Visits.{visit}
use Rattle.run_slice.specs.Run.{leave, count_step, live_turn, entry_turn, turn, on_went, step_on, over, go_on, run, deduct}
use Rattle.run_slice.specs.declared.Ran.{Ran}
use Rattle.run_slice.specs.declared.Ran.TheVariants.{Rested}
use Rattle.run_slice.specs.declared.Ran.TheVariants.{Refused as Ran-as-Refused}
use Rattle.run_slice.specs.declared.Went.{Went}
use Rattle.run_slice.specs.declared.Went.TheVariants.{Go, Rest}
use Rattle.run_slice.specs.declared.Went.TheVariants.{Refused as Went-as-Refused}

pub live_passed : (ws w v x file sets : List ℕ) (n t : ℕ) (s : Tried) → t ≡ node_word ws n 0 → w ≡ set_node_word ws n 2 0 → s ≡ (visit w file sets t n).is
    → v ≡ (visit w file sets t n).ws → s ≡ Passed → x ≡ leave v t → record { is = Passed; ws = x } ≡ live_turn ws file sets n
unfolding live_turn on_tried
live_passed ws w v x file sets n t s et ew es ev e ex = rw (← et, ← ew, ← es, e, ← ev, ← ex)

pub live_acted : (ws w v c f x file sets : List ℕ) (n t : ℕ) (s : Tried) → t ≡ node_word ws n 0 → w ≡ set_node_word ws n 2 0 → s ≡ (visit w file sets t n).is
    → v ≡ (visit w file sets t n).ws → s ≡ Acted → c ≡ count_step v → f ≡ finish_edit_words c → x ≡ leave f t → record { is = Acted; ws = x } ≡ live_turn ws file sets n
unfolding live_turn on_tried
live_acted ws w v c f x file sets n t s et ew es ev e ec ef ex = rw (← et, ← ew, ← es, e, ← ev, ← ec, ← ef, ← ex)

pub live_refused : (ws w v file sets : List ℕ) (n t r : ℕ) (s : Tried) → t ≡ node_word ws n 0 → w ≡ set_node_word ws n 2 0 → s ≡ (visit w file sets t n).is
    → v ≡ (visit w file sets t n).ws → s ≡ Refused r → record { is = Refused r; ws = v } ≡ live_turn ws file sets n
unfolding live_turn on_tried
live_refused ws w v file sets n t r s et ew es ev e = rw (← et, ← ew, ← es, e, ← ev)

pub entry_live : (ws x file sets : List ℕ) (n d : ℕ) (s : Tried) → d ≡ node_word ws n 2 → d ≡ 1 → s ≡ (live_turn ws file sets n).is
    → x ≡ (live_turn ws file sets n).ws → record { is = s; ws = x } ≡ entry_turn ws file sets n
unfolding entry_turn
entry_live ws x file sets n d s ed h es ex = eq_yes _ _ _ _ (rw (← ed) h) (whole (live_turn ws file sets n) es ex)

pub entry_stale : (ws x file sets : List ℕ) (n d k j : ℕ) → d ≡ node_word ws n 2 → (d ≡ 1 → ⊥) → k ≡ dirty_stale ws → j ≡ less k → x ≡ set ws 16 j
    → record { is = Passed; ws = x } ≡ entry_turn ws file sets n
unfolding entry_turn
entry_stale ws x file sets n d k j ed h ek ej ex = eq_no _ _ _ _ (λ e. h (rw ed e)) (rw (ex, ej, ek))

pub on_passed : (ws w file sets : List ℕ) (s : ℕ) (t : Tried) → t ≡ (turn ws file sets).is → w ≡ (turn ws file sets).ws → t ≡ Passed
    → record { is = Go s; ws = w } ≡ step_on ws file sets s
unfolding step_on on_tried
on_passed ws w file sets s t et ew e = rw (← et, e, ← ew)

pub on_acted : (ws w file sets : List ℕ) (s s' : ℕ) (t : Tried) → t ≡ (turn ws file sets).is → w ≡ (turn ws file sets).ws → t ≡ Acted → s' ≡ next s
    → record { is = Go s'; ws = w } ≡ step_on ws file sets s
unfolding step_on on_tried
on_acted ws w file sets s s' t et ew e es = rw (← et, e, ← ew, es)

pub on_refused : (ws w file sets : List ℕ) (s r : ℕ) (t : Tried) → t ≡ (turn ws file sets).is → w ≡ (turn ws file sets).ws → t ≡ Refused r
    → record { is = Went-as-Refused r; ws = w } ≡ step_on ws file sets s
unfolding step_on on_tried
on_refused ws w file sets s r t et ew e = rw (← et, e, ← ew)

pub go_over : (ws file sets : List ℕ) (most s : ℕ) (b : Bool) → b ≡ over ws most s → b ≡ true → record { is = Rest; ws = ws } ≡ go_on ws file sets most s
unfolding go_on
go_over ws file sets most s b eb h = pick_true _ _ _ (rw (← eb) h) refl

pub go_empty : (ws file sets : List ℕ) (most s d : ℕ) (b : Bool) → b ≡ over ws most s → b ≡ false → d ≡ dirty_length ws → d ≡ 0
    → record { is = Rest; ws = ws } ≡ go_on ws file sets most s
unfolding go_on
go_empty ws file sets most s d b eb h ed z = pick_false _ _ _ (rw (← eb) h) (eq_yes _ _ _ _ (rw (← ed) z) refl)

pub go_steps : (ws x file sets : List ℕ) (most s d : ℕ) (b : Bool) (g : Went) → b ≡ over ws most s → b ≡ false → d ≡ dirty_length ws → (d ≡ 0 → ⊥)
    → g ≡ (step_on ws file sets s).is → x ≡ (step_on ws file sets s).ws → record { is = g; ws = x } ≡ go_on ws file sets most s
unfolding go_on
go_steps ws x file sets most s d b g eb h ed z eg ex =
    pick_false _ _ _ (rw (← eb) h) (eq_no _ _ _ _ (λ e. z (rw ed e)) (whole (step_on ws file sets s) eg ex))

pub run_more : (ws w file sets : List ℕ) (most s s' k : ℕ) (g : Went) (x : Left Ran) → run ws file sets most s k ≡ x → 0 < k → g ≡ (go_on ws file sets most s).is
    → w ≡ (go_on ws file sets most s).ws → g ≡ Go s' → run w file sets most s' (k - 1) ≡ x
unfolding run on_went
run_more ws w file sets most s s' zero g x e h eg ew p = absurd (not-suc-le-zero h)
run_more ws w file sets most s s' (suc k) g x e h eg ew p = rw (sub-one, ew) (rw (← eg, p) at e)

pub run_rests : (ws w file sets : List ℕ) (most s k : ℕ) (g : Went) (x : Left Ran) → run ws file sets most s k ≡ x → 0 < k → g ≡ (go_on ws file sets most s).is
    → w ≡ (go_on ws file sets most s).ws → g ≡ Rest → record { is = Rested s; ws = w } ≡ x
unfolding run on_went
run_rests ws w file sets most s zero g x e h eg ew p = absurd (not-suc-le-zero h)
run_rests ws w file sets most s (suc k) g x e h eg ew p = rw ew (rw (← eg, p) at e)

pub run_refused : (ws w file sets : List ℕ) (most s r k : ℕ) (g : Went) (x : Left Ran) → run ws file sets most s k ≡ x → 0 < k → g ≡ (go_on ws file sets most s).is
    → w ≡ (go_on ws file sets most s).ws → g ≡ Went-as-Refused r → record { is = Ran-as-Refused s r; ws = w } ≡ x
unfolding run on_went
run_refused ws w file sets most s r zero g x e h eg ew p = absurd (not-suc-le-zero h)
run_refused ws w file sets most s r (suc k) g x e h eg ew p = rw ew (rw (← eg, p) at e)

pub run_out : (ws file sets : List ℕ) (most s k : ℕ) (x : Left Ran) → run ws file sets most s k ≡ x → k ≤ 0 → record { is = Rested s; ws = ws } ≡ x
unfolding run
run_out ws file sets most s zero x e h = e
run_out ws file sets most s (suc k) x e h = absurd (not-suc-le-zero h)

pub deduct_none : (ws : List ℕ) (l : ℕ) → l ≡ limit ws → l ≡ 4294967295 → ws ≡ deduct ws
unfolding deduct
deduct_none ws l el h = eq_yes _ _ _ _ (rw (← el) h) refl

pub deduct_some : (ws x : List ℕ) (l m : ℕ) → l ≡ limit ws → (l ≡ 4294967295 → ⊥) → m ≡ less l → x ≡ set ws 5 m → x ≡ deduct ws
unfolding deduct
deduct_some ws x l m el h em ex = eq_no _ _ _ _ (λ e. h (rw el e)) (rw (ex, em, el))
