-- What a function of the crate leaves on each way out, in the words of its tests and calls.
use Rattle.std.specs.Prelude.{ℕ, ◌+◌, ◌*◌, ◌<◌, ◌≤◌, ◌≡◌, refl, List, get_or, set}
use Rattle.words.specs.Choose.{eq_yes, eq_no, lt_yes, lt_no}
use Rattle.words.specs.Left.{whole}
use Rattle.layout.specs.Layout.{next, less, node_word, entry_word, wait_word}
use Rattle.pools.specs.Pools.{take_fresh, take, take_slot, take_entry, take_wait}

pub fresh_there : (ws w : List ℕ) (pool k m c : ℕ) → k ≡ get_or ws (9 + 2 * pool) 0 → m ≡ get_or ws (1 + pool) 0 → k < m → c ≡ next k
    → w ≡ set ws (9 + 2 * pool) c → record { is = c; ws = w } ≡ take_fresh ws pool
unfolding take_fresh
fresh_there ws w pool k m c ek em h ec ew = lt_yes _ _ _ _ (rw (← ek, ← em) h) (rw (ew, ec, ek))

pub fresh_none : (ws : List ℕ) (pool k m : ℕ) → k ≡ get_or ws (9 + 2 * pool) 0 → m ≡ get_or ws (1 + pool) 0 → m ≤ k
    → record { is = 0; ws = ws } ≡ take_fresh ws pool
unfolding take_fresh
fresh_none ws pool k m ek em h = lt_no _ _ _ _ (rw (← ek, ← em) h) refl

took_fresh : (ws w : List ℕ) (h after pool c r : ℕ) → c ≡ get_or ws h 0 → c ≡ 0 → r ≡ (take_fresh ws pool).is → w ≡ (take_fresh ws pool).ws
    → record { is = r; ws = w } ≡ take ws h after pool
unfolding take
took_fresh ws w h after pool c r ec z er ew = eq_yes _ _ _ _ (rw (← ec) z) (whole (take_fresh ws pool) er ew)

took_freed : (ws w : List ℕ) (h after pool c : ℕ) → c ≡ get_or ws h 0 → (c ≡ 0 → ⊥) → w ≡ set ws h after
    → record { is = c; ws = w } ≡ take ws h after pool
unfolding take
took_freed ws w h after pool c ec z ew = eq_no _ _ _ _ (λ e. z (rw ec e)) (rw (ew, ec))

pub slot_new : (ws w : List ℕ) (c r : ℕ) → c ≡ get_or ws 8 0 → c ≡ 0 → r ≡ (take_fresh ws 0).is → w ≡ (take_fresh ws 0).ws → record { is = r; ws = w } ≡ take_slot ws
unfolding take_slot
slot_new ws w c r ec z er ew = took_fresh ws w 8 _ 0 c r ec z er ew

pub slot_freed : (ws w : List ℕ) (c n after : ℕ) → c ≡ get_or ws 8 0 → (c ≡ 0 → ⊥) → n ≡ less c → after ≡ node_word ws n 4 → w ≡ set ws 8 after
    → record { is = c; ws = w } ≡ take_slot ws
unfolding take_slot
slot_freed ws w c n after ec z en ea ew = took_freed ws w 8 _ 0 c ec z (rw (← ec, ← en, ← ea) ew)

pub entry_new : (ws w : List ℕ) (c r : ℕ) → c ≡ get_or ws 10 0 → c ≡ 0 → r ≡ (take_fresh ws 1).is → w ≡ (take_fresh ws 1).ws → record { is = r; ws = w } ≡ take_entry ws
unfolding take_entry
entry_new ws w c r ec z er ew = took_fresh ws w 10 _ 1 c r ec z er ew

pub entry_freed : (ws w : List ℕ) (c after : ℕ) → c ≡ get_or ws 10 0 → (c ≡ 0 → ⊥) → after ≡ entry_word ws c 1 → w ≡ set ws 10 after
    → record { is = c; ws = w } ≡ take_entry ws
unfolding take_entry
entry_freed ws w c after ec z ea ew = took_freed ws w 10 _ 1 c ec z (rw (← ec, ← ea) ew)

pub wait_new : (ws w : List ℕ) (c r : ℕ) → c ≡ get_or ws 12 0 → c ≡ 0 → r ≡ (take_fresh ws 2).is → w ≡ (take_fresh ws 2).ws → record { is = r; ws = w } ≡ take_wait ws
unfolding take_wait
wait_new ws w c r ec z er ew = took_fresh ws w 12 _ 2 c r ec z er ew

pub wait_freed : (ws w : List ℕ) (c after : ℕ) → c ≡ get_or ws 12 0 → (c ≡ 0 → ⊥) → after ≡ wait_word ws c 2 → w ≡ set ws 12 after
    → record { is = c; ws = w } ≡ take_wait ws
unfolding take_wait
wait_freed ws w c after ec z ea ew = took_freed ws w 12 _ 2 c ec z (rw (← ec, ← ea) ew)
