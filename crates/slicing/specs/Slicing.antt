-- A slice on the words and bytes. Level Words. Document 01: "Going on checks 1, 16, 4".
use Rattle.std.specs.Prelude.{ℕ, Bool, true, List, take, leb}
use Rattle.words.specs.Choose.{pick, if_eq}
use Rattle.run_slice.specs.Run.{on_ran}
use Rattle.run_slice.specs.Run.{slice as run_slice}
use Rattle.image.specs.Image.{resumable}
use Rattle.lent.specs.Lent.{Lent, room, held_length, zero_words, zero_bytes}
use Rattle.lent.specs.declared.Pools.{Pools}
use Rattle.lent.specs.declared.Answer.{Answer}
use Rattle.lent.specs.declared.Answer.TheVariants.{Done, Refused}

-- none, or at most 16,777,216
unfoldable pub steps_fit : ℕ → Bool
steps_fit n = if_eq n 4294967295 true (leb n 16777216)

-- an image runs: 9 to 14 leave zeros
unfoldable pub run_held : Pools → ℕ → List ℕ → List ℕ → Lent
run_held p n ws bs =
    let k = held_length ws bs in
    let r = run_slice ws (take k bs) n in
    on_ran r.is (λ s. record { is = Done s; ws = r.ws; bs = bs }) (λ n. record { is = Refused n; ws = zero_words p r.ws; bs = zero_bytes k bs })

-- 16, then 4
unfoldable pub slice_image : Pools → ℕ → List ℕ → List ℕ → Lent
slice_image p n ws bs =
    pick (resumable p.nodes p.entries p.waits ws bs)
    (pick (steps_fit n) (run_held p n ws bs) (record { is = Refused 4; ws = ws; bs = bs }))
    (record { is = Refused 16; ws = ws; bs = bs })

-- 1, "as for no file"
unfoldable pub slice : Pools → ℕ → List ℕ → List ℕ → Lent
slice p n ws bs = pick (room p ws) (slice_image p n ws bs) (record { is = Refused 1; ws = ws; bs = bs })
