-- Bytes stored in a slice from a place on: all of them where they fit, else none.
use Rattle.std.specs.Prelude.{Option, ℕ, ◌+◌, ◌-◌, ◌≤◌, ◌<◌, ◌≡◌, length}
use Rattle.std.proofs.Math.Path.{refl}
use Rattle.std.proofs.Common.{sym}
use mathlib.Core.List.{List, []}
use native.Mathlib.Omega.{arith}
use Rattle.std.proofs.Math.Decide.{dec_lt}
use Rattle.words.specs.Choose.{if_lt, lt_yes, lt_no}
use Rattle.put.specs.Written.{put_in, WrittenIf, part}
use Rattle.put.specs.Laws.{if_fits_no}
use Rattle.put.specs.Fields.{put_in_none}

-- take at out ++ bytes ++ drop (at + length bytes) out where at + length bytes ≤ length out, else out
abbrev pub store : ℕ → List ℕ → List ℕ → List ℕ
store at bytes out = put_in out at bytes

-- the bytes of s from a place up to another; none where s ends before that
unfoldable pub between : List ℕ → ℕ → ℕ → List ℕ
between s from to = if_lt (length s) to [] (part s from (to - from))

-- no bytes leave the slice as it was, whatever the place
pub store_none : (at : ℕ) (out : List ℕ) → out ≡ store at [] out
unfolding put_in
store_none at out = elim (dec_lt (length out) at) [
  | yes l ↦ sym (if_fits_no out at [] _ _ (omega arith))
  | no l ↦ put_in_none out at (omega arith)
]

module _ (s out : List ℕ) (at from to : ℕ) where
  pub copy_past : length s < to → out ≡ store at (between s from to) out
  unfolding between
  copy_past h = let e : [] ≡ if_lt (length s) to [] (part s from (to - from)) = lt_yes _ _ _ _ h refl in rw (← e) (store_none at out)

  module _ (there : to ≤ length s) where
    between_is : part s from (to - from) ≡ between s from to
    unfolding between
    between_is = lt_no _ _ _ _ there refl

    pub copy_none : to ≤ from → out ≡ store at (between s from to) out
    unfolding part
    copy_none h = let z : to - from ≡ 0 = omega arith in let e : [] ≡ between s from to = rw z at between_is in rw (← e) (store_none at out)

    pub copy_is : (w : List ℕ) (r : Option ℕ) → from < to → WrittenIf (from + (to - from) ≤ length s) (part s from (to - from)) at out w r
        → w ≡ store at (between s from to) out
    copy_is w r h p = rw (← between_is) (p.yes (omega arith)).out
