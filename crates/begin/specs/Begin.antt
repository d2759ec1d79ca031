-- Begin on the words and bytes. Level Words. Document 01: checks 1 to 8, then 9 and 10 as the nets are loaded.
use Rattle.std.specs.Prelude.{Ok, Err, ℕ, ◌%◌, List, length, set}
use Rattle.net_file.specs.Checks.{flat, read}
use Rattle.refusals.specs.Numbers.{number}
use Rattle.net_check.specs.Verdict.{Checked, verdict}
use Rattle.words.specs.Choose.{pick, if_eq, if_lt}
use Rattle.words.specs.Left.{Left}
use Rattle.fields.specs.Fields.{be32}
use Rattle.store.specs.Store.{store, between}
use Rattle.load.specs.Load.{load}
use Rattle.clear.specs.Zeroed.{zeroed}
use Rattle.lent.specs.Lent.{Lent, words_of, room, zero_words, zero_bytes}
use Rattle.lent.specs.declared.Pools.{Pools}
use Rattle.lent.specs.declared.Answer.TheVariants.{Done}
use Rattle.lent.specs.declared.Answer.TheVariants.{Refused as Answer-as-Refused}

-- the words of a run that holds no nets yet
unfoldable pub start : Pools → List ℕ → List ℕ → List ℕ
start p ws file =
    let w0 = zeroed (words_of p) ws in
    let w1 = set w0 0 1 in
    let w2 = set (set (set w1 1 p.nodes) 2 p.entries) 3 p.waits in
    set (set w2 4 (length file % 4294967296)) 5 (be32 file 5)

-- the included nets are loaded: 0, or by what that is refused
unfoldable pub loaded : Pools → List ℕ → List ℕ → Left ℕ
loaded p ws file = load (start p ws file) file

-- a file that is accepted: 9 and 10 leave zeros
unfoldable pub load_file : Pools → List ℕ → List ℕ → List ℕ → Lent
load_file p ws bs file =
    let l = loaded p ws file in
    if_eq l.is 0 (record { is = Done 0; ws = l.ws; bs = store 0 (between file 0 (length file)) bs })
    (record { is = Answer-as-Refused l.is; ws = zero_words p l.ws; bs = zero_bytes (length file) bs })

-- by a checker's answer
unfoldable pub on_checked : {A : Type 0} → Checked → A → (ℕ → A) → A
on_checked (Ok u) accepted refused = accepted
on_checked (Err r) accepted refused = refused (number r)

-- 2 to 8 leave the workspace unchanged
unfoldable pub checked_file : Pools → List ℕ → List ℕ → List ℕ → Lent
checked_file p ws bs file = on_checked (verdict (read flat file)) (load_file p ws bs file) (λ r. record { is = Answer-as-Refused r; ws = ws; bs = bs })

-- 1: pools out of range, words or bytes shorter than documented
unfoldable pub begin : Pools → List ℕ → List ℕ → List ℕ → Lent
begin p ws bs file =
    let short : Lent = record { is = Answer-as-Refused 1; ws = ws; bs = bs } in
    pick (room p ws) (if_lt (length bs) (length file) short (checked_file p ws bs file)) short
