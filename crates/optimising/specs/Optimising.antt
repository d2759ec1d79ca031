-- The one-call form on the words and bytes. Level Words. Document 01: "The one-call form is begin, one slice of none, finish".
use Rattle.std.specs.Prelude.{ℕ, List, length}
use Rattle.net_file.specs.Checks.{flat, read}
use Rattle.net_check.specs.Verdict.{verdict}
use Rattle.words.specs.Choose.{pick, if_eq, if_lt}
use Rattle.run_slice.specs.Run.{on_ran}
use Rattle.run_slice.specs.Run.{slice as run_slice}
use Rattle.write_nodes.specs.Wrote.{Wrote}
use Rattle.lent.specs.Lent.{room, zero_words, zero_bytes}
use Rattle.lent.specs.declared.Pools.{Pools}
use Rattle.lent.specs.declared.Answer.{Answer}
use Rattle.lent.specs.declared.Answer.TheVariants.{Refused}
use Rattle.begin.specs.Begin.{loaded, on_checked}
use Rattle.finishing.specs.Finishing.{Given, run_result}

-- a loaded file: a slice of none, then finish
unfoldable pub optimize_run : List ℕ → List ℕ → List ℕ → Wrote Answer
optimize_run ws file out =
    let r = run_slice ws file 4294967295 in
    on_ran r.is (λ s. run_result r.ws file out) (λ n. record { is = Refused n; ws = r.ws; out = out })

-- a file that is accepted: 9 and 10 as its nets are loaded
unfoldable pub optimize_loaded : Pools → List ℕ → List ℕ → List ℕ → Wrote Answer
optimize_loaded p ws file out =
    let l = loaded p ws file in
    if_eq l.is 0 (optimize_run l.ws file out) (record { is = Refused l.is; ws = l.ws; out = out })

-- zeros from 9 on, whatever comes
unfoldable pub optimize_file : Pools → List ℕ → List ℕ → List ℕ → List ℕ → Given
optimize_file p ws bs file out =
    let r = optimize_loaded p ws file out in
    record { is = r.is; ws = zero_words p r.ws; bs = zero_bytes (length file) bs; out = r.out }

-- 2 to 8 leave the workspace unchanged
unfoldable pub optimize_checked : Pools → List ℕ → List ℕ → List ℕ → List ℕ → Given
optimize_checked p ws bs file out =
    on_checked (verdict (read flat file)) (optimize_file p ws bs file out) (λ r. record { is = Refused r; ws = ws; bs = bs; out = out })

-- 1: pools out of range, words or bytes shorter than documented
unfoldable pub optimize : Pools → List ℕ → List ℕ → List ℕ → List ℕ → Given
optimize p ws bs file out =
    let short : Given = record { is = Refused 1; ws = ws; bs = bs; out = out } in
    pick (room p ws) (if_lt (length bs) (length file) short (optimize_checked p ws bs file out)) short
