-- The calls one after another on one workspace, P8 with limit 5: each refusal in its place, and what it leaves.
use Rattle.std.specs.Prelude.{◌≡◌, refl, ℕ, List, [], ◌∷◌, ◌++◌, length, replicate, leb}
use Rattle.std.proofs.Math.Option.{none}
use Rattle.net_file.specs.Lists.{Result, ok, refuse}
use Rattle.net_file.specs.Values.{no_limit}
use Rattle.definitions.specs.State.{Pools}
use Rattle.definitions.specs.Calls.{Workspace, Outcome, begin, slice, finish, optimize, written, after}
use Rattle.definitions.specs.Text.{hex}
use Rattle.definitions.specs.Computes.{computes}

abbrev pub P8 : List ℕ
P8 = hex "0000004f01000000050002017801790001000000000000000000000000010401000001000100010000010000000200000000020000000000000000000000000001000100010000000000000000000000010001"

-- its result
abbrev pub reduced : List ℕ
reduced = hex "0000005f01000000000003017801790f6976793a656e67696e653a667265650001000000000000000000000000010401000001000100010000010000000300000000020001000000000000000000000101000200000000000000000000000001010002"

abbrev pub pools : ℕ → Pools
pools n = record { nodes = n; entries = 9; waits = 0 }

-- 200 bytes, which a file must fit; no image
abbrev pub lent : Workspace
lent = record { fits = λ p n. leb n 200; held = none }

-- the answers as numbers: begin's is 0, finish's the length
abbrev pub begun : Outcome (Unit {0}) → Result ℕ
begun (ok a, l) = ok 0
begun (refuse r, l) = refuse r

abbrev pub finished : Outcome (List ℕ) → Result ℕ
finished (ok bs, l) = ok (length bs)
finished (refuse r, l) = refuse r

-- begin refused by 1, 2 and 9; 16 before begin; begin, a slice of 2; then 4, 16 for other pools, 15, none of which changes the run;
-- the other 3 steps, the result, and 16 on the zeros that it leaves
pub one_after_another :
    let w₁ = after lent (begin lent (pools 5) P8).1 in
    let w₂ = after w₁ (slice w₁ (pools 5) 2).1 in
    let w₃ = after w₂ (slice w₂ (pools 5) 16777217).1 in
    let w₄ = after w₃ (slice w₃ (pools 6) 1).1 in
    let w₅ = after w₄ (finish w₄ (pools 5) 98).1 in
    let w₆ = after w₅ (slice w₅ (pools 5) no_limit).1 in
    let w₇ = after w₆ (finish w₆ (pools 5) 99).1 in
    begun (begin lent (pools 0) P8) ∷ begun (begin lent (pools 5) []) ∷ begun (begin lent (pools 2) P8)
    ∷ (slice lent (pools 5) 16777217).0 ∷ begun (begin lent (pools 5) P8) ∷ (slice w₁ (pools 5) 2).0
    ∷ (slice w₂ (pools 5) 16777217).0 ∷ (slice w₃ (pools 6) 1).0 ∷ finished (finish w₄ (pools 5) 98)
    ∷ (slice w₅ (pools 5) no_limit).0 ∷ finished (finish w₆ (pools 5) 99) ∷ (slice w₇ (pools 5) 1).0 ∷ []
    ≡ refuse 1 ∷ refuse 2 ∷ refuse 9 ∷ refuse 16 ∷ ok 0 ∷ ok 2 ∷ refuse 4 ∷ refuse 16 ∷ refuse 15 ∷ ok 3 ∷ ok 99 ∷ refuse 16 ∷ []
unfolding computes
one_after_another = refl

-- the one-call form, and the 100 bytes of output that it writes 99 of
pub in_one_call : written (optimize lent (pools 5) 100 P8).0 (replicate 100 7) ≡ reduced ++ 7 ∷ []
unfolding computes
in_one_call = refl
