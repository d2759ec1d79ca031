-- The call past its checks, by what stands in the file, on words and bytes. Level Words.
use Rattle.std.specs.Prelude.{Ok, Err, ℕ, zero, suc, ◌<◌, ◌≤◌, ◌≡◌, List, [], ◌∷◌, ◌++◌, length, take, drop}
use Rattle.std.proofs.Math.Path.{refl}
use Rattle.std.proofs.Common.{ap, ◌∙◌, arith, length-take-le}
use Rattle.std.proofs.lemmas.List.Edits.{sets}
use Rattle.words.specs.Choose.{if_lt, lt_yes, lt_no}
use Rattle.fields.specs.Fields.{be16}
use Rattle.stored.specs.Stored.{net_count_at}
use Rattle.ends.specs.Ends.{within, on}
use Rattle.clear.specs.Zeroed.{zeroed}
use Rattle.text_writers.specs.Wrote.{Wrote}
use Rattle.refusals.specs.declared.Refusal.TheVariants.{OutputTooShort, TooDeep}
use Rattle.convert_frame.specs.Called.{Converted}
use Rattle.convert_frame.specs.Head.{head_bytes}
use Rattle.resolve_walk.specs.declared.Pen.{Pen}
use Rattle.std.specs.Prelude.{Some, None}
use Rattle.resolve_walk.specs.Penned.{Stepped, Penned}
use Rattle.resolve_walk.specs.Penned
use Rattle.resolve_walk.specs.Walk.{on_step}
use Rattle.resolve_nets.specs.Nets.{nets}

module _ (s : List ℕ) where
  -- the place of the nets' count, of the first net, in the file and in the result, and how many nets there are
  unfoldable pub place : ℕ
  place = within s (net_count_at s)

  unfoldable pub first : ℕ
  first = on s place 2

  unfoldable pub count : ℕ
  count = be16 s place

  -- what a result of length n begins with, and its nets
  unfoldable pub whole : List ℕ → List ℕ → ℕ → Penned Stepped
  whole ws out n = nets s count ws (sets out 0 (head_bytes s place 65 count n)) first first

  -- 15, or the result of length n
  unfoldable pub delivered : List ℕ → List ℕ → ℕ → Penned Converted
  delivered ws out n =
      let r = whole ws out n in
      if_lt (length out) n (record { is = Err OutputTooShort; ws = ws; out = out }) (record { is = Ok n; ws = r.ws; out = r.out })

  -- 17, then 15, then the result; its length is that of one written where there is no room. At first nothing is said in the tables
  unfoldable pub resolved : List ℕ → List ℕ → Penned Converted
  resolved ws out =
      let m = whole (zeroed 131072 ws) (0 ∷ []) 0 in
      on_step m.is (λ pen. delivered m.ws out pen.to) (record { is = Err TooDeep; ws = m.ws; out = out })

  -- ---- the ways out

  pub whole_is : (ws out o w x : List ℕ) (q a k n p : ℕ) (r : Stepped) → q ≡ within s (net_count_at s) → a ≡ on s q 2 → k ≡ be16 s q → Wrote (head_bytes s q 65 k n) 0 out o p
      → r ≡ (nets s k ws o a a).is → w ≡ (nets s k ws o a a).ws → x ≡ (nets s k ws o a a).out → record { is = r; ws = w; out = x } ≡ whole ws out n
  unfolding whole place first count
  whole_is ws out o w x q a k n p r eq ea ek h er ew ex =
      let e : nets s k ws o a a ≡ whole ws out n = rw (h.out, ek, ea, eq) in
      Penned.whole (nets s k ws o a a) er ew ex ∙ e

  pub deliver_full : (ws out : List ℕ) (n : ℕ) → length out < n → record { is = Err OutputTooShort; ws = ws; out = out } ≡ delivered ws out n
  unfolding delivered
  deliver_full ws out n h = lt_yes _ _ _ _ h refl

  pub deliver_done : (ws out w o : List ℕ) (n : ℕ) → n ≤ length out → w ≡ (whole ws out n).ws → o ≡ (whole ws out n).out → record { is = Ok n; ws = w; out = o } ≡ delivered ws out n
  unfolding delivered
  deliver_done ws out w o n h ew eo = lt_no _ _ _ _ h (λ i. record { is = Ok n; ws = ew i; out = eo i })

  module _ (ws u out w : List ℕ) (t : Stepped) (eu : u ≡ zeroed 131072 ws) (et : t ≡ (whole u (0 ∷ []) 0).is) (ew : w ≡ (whole u (0 ∷ []) 0).ws) where
    pub resolved_deep : t ≡ None → record { is = Err TooDeep; ws = w; out = out } ≡ resolved ws out
    unfolding resolved on_step
    resolved_deep e = rw (← eu, ← et, ← ew, e)

    pub resolved_at : (pen : Pen) (v o : List ℕ) (r : Converted) → t ≡ Some pen → r ≡ (delivered w out pen.to).is → v ≡ (delivered w out pen.to).ws → o ≡ (delivered w out pen.to).out
        → record { is = r; ws = v; out = o } ≡ resolved ws out
    unfolding resolved on_step
    resolved_at pen v o r e er ev eo = Penned.whole (delivered w out pen.to) er ev eo ∙ rw (← eu, ← et, ← ew, e)

-- the first n words made 0, whatever was written there
zeroed_part : (n : ℕ) (w ws : List ℕ) → length w ≡ n → n ≤ length ws → zeroed n (w ++ drop n ws) ≡ zeroed n ws
unfolding zeroed
zeroed_part zero [] ws e h = refl
zeroed_part zero (x ∷ w) ws e h = absurd (omega arith)
zeroed_part (suc n) [] ws e h = absurd (omega arith)
zeroed_part (suc n) (x ∷ w) [] e h = absurd (omega arith)
zeroed_part (suc n) (x ∷ w) (y ∷ ws) e h = ap (λ (t : List ℕ). 0 ∷ t) (zeroed_part n w ws (omega arith) (omega arith))

pub words_cleared : (n : ℕ) (ws w v : List ℕ) → v ≡ zeroed n (w ++ drop n ws) → n ≤ length ws → length w ≡ length (take n ws) → v ≡ zeroed n ws
words_cleared n ws w v e h l = e ∙ zeroed_part n w ws (l ∙ length-take-le n ws h) h
