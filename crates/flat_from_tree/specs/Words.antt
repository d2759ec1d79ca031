-- The call past its checks, by what stands in the file: what it answers, and what it leaves. Level Words.
use Rattle.std.specs.Prelude.{Ok, Err, ℕ, ◌<◌, ◌≤◌, ◌≡◌, refl, List, length}
use Rattle.std.proofs.Common.{◌∙◌}
use Rattle.std.proofs.lemmas.List.Edits.{sets}
use Rattle.words.specs.Choose.{if_lt, lt_yes, lt_no}
use Rattle.fields.specs.Fields.{be16}
use Rattle.stored.specs.Stored.{net_count_at}
use Rattle.ends.specs.Ends.{within, on}
use Rattle.clear.specs.Zeroed.{zeroed}
use Rattle.text_writers.specs.Wrote.{Wrote}
use Rattle.refusals.specs.declared.Refusal.TheVariants.{OutputTooShort, TooManyWires}
use Rattle.convert_frame.specs.Called.{Converted}
use Rattle.convert_frame.specs.Head.{head_bytes}
use Rattle.convert_frame.specs.Called.{scratch_words}
use Rattle.flat_nets.specs.declared.Total.{Total}
use Rattle.flat_nets.specs.Flat.{summed_all, passed_all, nets_words, nets_out}

module _ (s : List ℕ) where
  -- the place of the nets' count, of the first net, in the file and in the result, and how many nets there are
  unfoldable pub place : ℕ
  place = within s (net_count_at s)

  unfoldable pub first : ℕ
  first = on s place 2

  unfoldable pub count : ℕ
  count = be16 s place

  -- the nets measured, with no links in the words at first, and the words then
  unfoldable pub total : List ℕ → Total
  total ws = summed_all s (zeroed 67649 ws) (record { at = first; wires = 0; to = first }) count

  unfoldable pub total_left : List ℕ → List ℕ
  total_left ws = passed_all s (zeroed 67649 ws) (record { at = first; wires = 0; to = first }) count

  -- the result of length n written, and the words then
  unfoldable pub whole_out : List ℕ → ℕ → List ℕ → List ℕ
  whole_out ws n out = nets_out s ws (record { at = first; to = first }) count (sets out 0 (head_bytes s place 1 count n))

  unfoldable pub whole_left : List ℕ → List ℕ
  whole_left ws = nets_words s ws (record { at = first; to = first }) count

  -- 18, then 15, then the result
  unfoldable pub flat_answer : List ℕ → ℕ → Converted
  flat_answer ws room = let t = total ws in if_lt 65536 t.wires (Err TooManyWires) (if_lt room t.to (Err OutputTooShort) (Ok t.to))

  unfoldable pub flat_left : List ℕ → ℕ → List ℕ
  flat_left ws room =
      let t = total ws in
      let w = total_left ws in
      if_lt 65536 t.wires (zeroed scratch_words w) (if_lt room t.to (zeroed scratch_words w) (zeroed scratch_words (whole_left w)))

  unfoldable pub flat_out : List ℕ → List ℕ → List ℕ
  flat_out ws out =
      let t = total ws in
      if_lt 65536 t.wires out (if_lt (length out) t.to out (whole_out (total_left ws) t.to out))

  -- ---- the ways out

  pub whole_out_lem : (ws out o x : List ℕ) (q a k n p : ℕ) → q ≡ within s (net_count_at s) → a ≡ on s q 2 → k ≡ be16 s q → Wrote (head_bytes s q 1 k n) 0 out o p
      → x ≡ nets_out s ws (record { at = a; to = a }) k o → x ≡ whole_out ws n out
  unfolding whole_out place first count
  whole_out_lem ws out o x q a k n p eq ea ek h ex = ex ∙ rw (h.out, ek, ea, eq)

  module _ (ws w out : List ℕ) (t : Total) (room : ℕ) (et : t ≡ total ws) (ew : w ≡ total_left ws) where
    pub answer_over : 65536 < t.wires → Err TooManyWires ≡ flat_answer ws room
    unfolding flat_answer
    answer_over h = rw (← et) (lt_yes _ _ _ _ h refl)

    pub left_over : (v : List ℕ) → 65536 < t.wires → v ≡ zeroed scratch_words w → v ≡ flat_left ws room
    unfolding flat_left
    left_over v h e = rw (← et, ← ew) (lt_yes _ _ _ _ h e)

    pub out_over : 65536 < t.wires → out ≡ flat_out ws out
    unfolding flat_out
    out_over h = rw (← et) (lt_yes _ _ _ _ h refl)

    pub answer_full : t.wires ≤ 65536 → room < t.to → Err OutputTooShort ≡ flat_answer ws room
    unfolding flat_answer
    answer_full h k = rw (← et) (lt_no _ _ _ _ h (lt_yes _ _ _ _ k refl))

    pub left_full : (v : List ℕ) → t.wires ≤ 65536 → room < t.to → v ≡ zeroed scratch_words w → v ≡ flat_left ws room
    unfolding flat_left
    left_full v h k e = rw (← et, ← ew) (lt_no _ _ _ _ h (lt_yes _ _ _ _ k e))

    pub out_full : t.wires ≤ 65536 → length out < t.to → out ≡ flat_out ws out
    unfolding flat_out
    out_full h k = rw (← et) (lt_no _ _ _ _ h (lt_yes _ _ _ _ k refl))

    pub answer_done : t.wires ≤ 65536 → t.to ≤ room → Ok t.to ≡ flat_answer ws room
    unfolding flat_answer
    answer_done h k = rw (← et) (lt_no _ _ _ _ h (lt_no _ _ _ _ k refl))

    pub left_done : (u v : List ℕ) → t.wires ≤ 65536 → t.to ≤ room → u ≡ whole_left w → v ≡ zeroed scratch_words u → v ≡ flat_left ws room
    unfolding flat_left
    left_done u v h k eu e = rw (← et, ← ew) (lt_no _ _ _ _ h (lt_no _ _ _ _ k (e ∙ rw eu)))

    pub out_done : (o : List ℕ) → t.wires ≤ 65536 → t.to ≤ length out → o ≡ whole_out w t.to out → o ≡ flat_out ws out
    unfolding flat_out
    out_done o h k e = rw (← et, ← ew) (lt_no _ _ _ _ h (lt_no _ _ _ _ k e))
