-- A node that goes keeps the books: its slot is vacant and next in the chain, its entries are stale, its net has one less pending if
-- it was dirty, and the lists are tightened where stale entries reach half.
use Rattle.std.specs.Prelude.{ℕ, ◌+◌, ◌<◌, ◌≡◌, ◌≢◌, Bool, true, false, ◌&&◌, ◌⊎◌, get_or, set, eqb}
use Rattle.std.proofs.Common.{sym, ap, ◌∙◌, arith, inl, inr, length-set, get_or-set_same, get_or-set_other, ne_eqb}
use Rattle.std.proofs.Math.Decide.{ℕ_discrete}
use Rattle.std.proofs.lemmas.Bool.{false≢true}
use Rattle.std.proofs.Math.Option.{Option, none, some}
use mathlib.Core.List.Memᴰ
use mathlib.Core.List.{List, ◌∷◌, Memᴰ}
use Rattle.net_file.specs.Lists.{bit}
use Rattle.definitions.specs.Lists.{is_some}
use Rattle.dirty_laws.specs.Tests.{eqb_self}
use Rattle.dirty_laws.specs.Tally.{tally_at}
use Rattle.dirty_laws.specs.Listed.{Turns}
use Rattle.good_laws.specs.Owners.{is_of, count_set}
use Rattle.good_laws.specs.Good.{Slotted, live_in, dirty_of}
use Rattle.good_laws.specs.Marks.{below_slots, set_turns}

module _ (N M : ℕ) (own : List (Option ℕ)) (ms : List Bool) (ch : List ℕ) (s : Slotted N M own ms ch) (n k : ℕ) (o : get_or own n none ≡ some k) where
  low : n < N
  low = below_slots s n k o

  pub gone_here : get_or (set own n none) n none ≡ none
  gone_here = let z = s.slots in let l = low in get_or-set_same own n none none (omega arith)

  -- its mark is gone
  pub gone_marks : Turns (λ i. get_or ms i false) (λ i. get_or (set ms n false) i false) n false
  gone_marks = let z = s.sized in let l = low in set_turns ms n false (omega arith)

  -- it is live in its net's list no more, and all other lists have what they had
  pub gone_turns : Turns (live_in own k) (live_in (set own n none) k) n false
  gone_turns = record { now = ap (is_of k) gone_here; others = λ i d. ap (is_of k) (get_or-set_other own n i none none d) }

  pub was_live : live_in own k n ≡ true
  was_live = ap (is_of k) o ∙ eqb_self k

  pub gone_others : (j : ℕ) → j ≢ k → (i : ℕ) → live_in own j i ≡ live_in (set own n none) j i
  gone_others j d i = go (ℕ_discrete i n)
    where
      go : Dec (i ≡ n) → live_in own j i ≡ live_in (set own n none) j i
      go (yes q) =
          ap (λ (m : ℕ). live_in own j m) q ∙ ap (is_of j) o ∙ ne_eqb k j (λ r. d (sym r))
          ∙ sym (ap (is_of j) gone_here) ∙ ap (λ (m : ℕ). live_in (set own n none) j m) (sym q)
      go (no c) = sym (ap (is_of j) (get_or-set_other own n i none none c))

  -- its net has one dirty node less, if it was dirty
  pub gone_dirty : (j : ℕ) → dirty_of N (set own n none) (set ms n false) j + bit (get_or ms n false && eqb k j) ≡ dirty_of N own ms j
  gone_dirty j =
      let a = tally_at (λ i. get_or ms i false && is_of j (get_or own i none)) (λ i. get_or (set ms n false) i false && is_of j (get_or (set own n none) i none)) n N low
      (λ i d. ap (λ (b : Bool). b && is_of j (get_or (set own n none) i none)) (gone_marks.others i d) ∙ ap (λ (c : Option ℕ). get_or ms i false && is_of j c) (get_or-set_other own n i none none d)) in
      let u : bit (get_or ms n false && is_of j (get_or own n none)) ≡ bit (get_or ms n false && eqb k j) = ap (λ (c : Option ℕ). bit (get_or ms n false && is_of j c)) o in
      let v : bit (get_or (set ms n false) n false && is_of j (get_or (set own n none) n none)) ≡ 0 =
      ap (λ (b : Bool). bit (b && is_of j (get_or (set own n none) n none))) gone_marks.now in
      omega arith

  pub gone_slots : Slotted N M (set own n none) (set ms n false) (n ∷ ch)
  gone_slots =
      let a = length-set own n none in
      let b = length-set ms n false in
      let za = s.slots in
      let zb = s.sized in
      let l = low in
      let c = count_set is_some own n none none (omega arith) in
      let u : bit (is_some (get_or own n none)) ≡ 1 = ap (λ (p : Option ℕ). bit (is_some p)) o in
      let f = s.all in
      record {
        slots = omega arith;
        sized = omega arith;
        marked = λ i h. filled' i h (ℕ_discrete i n);
        owned = λ i j h. owned' i j h (ℕ_discrete i n);
        vacant = λ i m. vacant' i (Memᴰ.cases_cons m);
        once = (λ m. some_none (sym o ∙ (s.vacant n m).1), s.once);
        all = omega arith;
      }
    where
      some_none : ◌≡◌ {A = Option ℕ} (some k) none → ⊥
      some_none q = let z : ◌≡◌ {A = ℕ} 0 1 = cc in omega arith

      filled' : (i : ℕ) → get_or (set ms n false) i false ≡ true → Dec (i ≡ n) → is_some (get_or (set own n none) i none) ≡ true
      filled' i h (yes q) = absurd (false≢true (sym gone_marks.now ∙ ap (λ (m : ℕ). get_or (set ms n false) m false) (sym q) ∙ h))
      filled' i h (no d) = ap is_some (get_or-set_other own n i none none d) ∙ s.marked i (sym (gone_marks.others i d) ∙ h)

      owned' : (i j : ℕ) → get_or (set own n none) i none ≡ some j → Dec (i ≡ n) → j < M
      owned' i j h (yes q) =
          let e : ◌≡◌ {A = Option ℕ} none (some j) = sym gone_here ∙ ap (λ (m : ℕ). get_or (set own n none) m none) (sym q) ∙ h in
          absurd (let z : ◌≡◌ {A = ℕ} 0 1 = cc in omega arith)
      owned' i j h (no d) = s.owned i j (sym (get_or-set_other own n i none none d) ∙ h)

      vacant' : (i : ℕ) → (i ≡ n) ⊎ Memᴰ i ch → (i < N) × (get_or (set own n none) i none ≡ none)
      vacant' i (inl q) = (let l = low in omega arith, ap (λ (m : ℕ). get_or (set own n none) m none) q ∙ gone_here)
      vacant' i (inr m) = case (ℕ_discrete i n)
        where
          case : Dec (i ≡ n) → (i < N) × (get_or (set own n none) i none ≡ none)
          case (yes q) = ((s.vacant i m).0, ap (λ (p : ℕ). get_or (set own n none) p none) q ∙ gone_here)
          case (no d) = ((s.vacant i m).0, get_or-set_other own n i none none d ∙ (s.vacant i m).1)
