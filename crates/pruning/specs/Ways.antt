-- Each way out, and one turn of each loop, in the code's terms.
use Prim.Native.Nat.{ℕ, zero, suc, ◌+◌, ◌-◌, ◌<◌, ◌≤◌, min, suc-le-suc}
use Rattle.std.specs.Prelude.{Ok, Err, ◌≡◌, Bool, ◌&&◌, List, ◌++◌, get_or, replicate, ltb, ◌↔◌, IsTrue, EachIndex, [], ◌∷◌}
use Rattle.std.proofs.Math.Path.{refl, sym, ap}
use Rattle.std.proofs.Common.{◌∙◌, subst, sub-one, not-suc-le-zero, le_of_suc-le-suc}
use Rattle.std.proofs.lemmas.Bool.{false_from_ne_true}
use Rattle.std.proofs.Math.Bool.{true, false}
use native.Mathlib.Omega.{arith}
use Rattle.std.proofs.Math.ListN.{length, drop, length-append}
use Rattle.std.proofs.Math.Seq.{sets-eq}
use borrow.Author.Tests.{lt-ltb, le-ltb, le-leb, lt-leb}
use Rattle.std.proofs.Math.Decide.{dec_lt}
use Rattle.net_file.specs.Lists.{ok, refuse, bit}
use Rattle.net_file_laws.specs.Bytes.{length_be}
use Rattle.definitions.specs.Calls.{written}
use Rattle.conversions.specs.Calls.{fitted}
use Rattle.words.specs.Choose.{eq_yes, eq_no, pick_true, pick_false}
use Rattle.fields.specs.Fields.{be16}
use Rattle.stored.specs.Stored.{flat_net_end, name_count_at, net_count_at}
use Rattle.ends.specs.Ends.{within, on}
use Rattle.put.specs.Written.{part}
use Rattle.text_writers.specs.Wrote.{far, Wrote, then, nothing, wrote_as, Still, still_on, still_none}
use Rattle.reach_names.specs.Reach.{reached}
use Rattle.refusals.specs.declared.Refusal.TheVariants.{BadBody, OutputTooShort}
use Rattle.convert_frame.specs.Head.{head_bytes}
use Rattle.refusals.specs.Told.{told}
use Rattle.convert_frame.specs.Called.{Converted, answered}
use Rattle.pruning.specs.Kept.{entries_below, kept_count, kept_net, kept_bytes, result_of, kept_file, accepted}

-- ---- the entries

one_more : (x : ℕ) (es : List ℕ) (n : ℕ) → x < n → EachIndex es (λ k. get_or es k 0 < n) → EachIndex (x ∷ es) (λ k. get_or (x ∷ es) k 0 < n)
one_more x es n h f zero l = h
one_more x es n h f (suc i) l = f i (le_of_suc-le-suc l)

pub entries_are : (es : List ℕ) (n : ℕ) (t : Bool) → (IsTrue t ↔ EachIndex es (λ k. get_or es k 0 < n)) → t ≡ entries_below es n
unfolding entries_below
entries_are [] n true h = refl
entries_are [] n false h = h.1 (λ i l. absurd (not-suc-le-zero l))
entries_are (x ∷ es) n t h = elim (dec_lt x n) [
  | yes k ↦
      rw (lt-ltb x n k) (entries_are es n t (λ e i l. h.0 e (suc i) (suc-le-suc l), λ f. h.1 (one_more x es n k f)))
  | no k ↦ let f : t ≡ false = false_from_ne_true t (λ e. k (h.0 e 0 (omega arith))) in rw (f, le-ltb x n (omega arith))
]

-- ---- what is kept

pub counts_one : (t u : Bool) → t ≡ u → t ≡ true → 1 ≡ bit u
counts_one t u e h = ap bit (sym h ∙ e)

pub counts_none : (t u : Bool) → t ≡ u → t ≡ false → 0 ≡ bit u
counts_none t u e h = ap bit (sym h ∙ e)

module _ (s : List ℕ) (marks : List Bool) (at i b c k : ℕ) (ei : i ≡ be16 s at) (eb : b ≡ bit (get_or marks i false)) where
  pub count_more : (a x : ℕ) → c + kept_count s marks at k ≡ x → 0 < k → a ≡ within s (flat_net_end s at) → c + b + kept_count s marks a (k - 1) ≡ x
  unfolding kept_count
  count_more a x g h ea = go k g h
    where
      go : (k : ℕ) → c + kept_count s marks at k ≡ x → 0 < k → c + b + kept_count s marks a (k - 1) ≡ x
      go zero g h = absurd (not-suc-le-zero h)
      go (suc k) g h =
          let e : b ≡ bit (get_or marks (be16 s at) false) = rw ei at eb in
          let d : suc k - 1 ≡ k = omega arith in
          rw (ea, d) (omega (arith, e, g))

pub count_done : (s : List ℕ) (marks : List Bool) (at c k x : ℕ) → c + kept_count s marks at k ≡ x → k ≤ 0 → c ≡ x
unfolding kept_count
count_done s marks at c zero x g h = omega arith
count_done s marks at c (suc k) x g h = absurd (not-suc-le-zero h)

module _ (s : List ℕ) (marks : List Bool) (at e p i : ℕ) (t : Bool) (out : List ℕ) (ei : i ≡ be16 s at) (et : t ≡ get_or marks i false) where
  test : (u : Bool) → t ≡ u → get_or marks (be16 s at) false ≡ u
  test u h = rw (← ei) (sym et ∙ h)

  pub net_kept : (w : List ℕ) (r : ℕ) → t ≡ true → Wrote (part s at (e - at)) p out w r → Wrote (kept_net s marks at e) p out w r
  unfolding kept_net
  net_kept w r h m = wrote_as (pick_true _ _ _ (test true h) refl) m

  pub net_left : t ≡ false → p ≤ far → length out ≤ far → Wrote (kept_net s marks at e) p out out p
  unfolding kept_net
  net_left h l m = wrote_as (pick_false _ _ _ (test false h) refl) (nothing l m)

module _ (s : List ℕ) (marks : List Bool) (at p k place : ℕ) (out w whole : List ℕ) where
  kept_next : (k e : ℕ) → 0 < k → e ≡ within s (flat_net_end s at) → kept_bytes s marks at k ≡ kept_net s marks at e ++ kept_bytes s marks e (k - 1)
  unfolding kept_bytes
  kept_next zero e h ee = absurd (not-suc-le-zero h)
  kept_next (suc k) e h ee = rw (sub-one, ee)

  pub kept_more : (z : List ℕ) (q e : ℕ) → Still (kept_bytes s marks at k) whole place out w p → 0 < k → e ≡ within s (flat_net_end s at) → Wrote (kept_net s marks at e) p w z q
      → Still (kept_bytes s marks e (k - 1)) whole place out z q
  kept_more z q e st h ee t = still_on st (kept_next k e h ee) t

  pub kept_done : Still (kept_bytes s marks at k) whole place out w p → k ≤ 0 → Wrote whole place out w p
  unfolding kept_bytes
  kept_done st h = go k h st
    where
      go : (k : ℕ) → k ≤ 0 → Still (kept_bytes s marks at k) whole place out w p → Wrote whole place out w p
      go zero h st = still_none st refl
      go (suc k) h st = absurd (not-suc-le-zero h)

pub result_written : (s : List ℕ) (marks : List Bool) (q n count length f p r : ℕ) (out m w : List ℕ) → Wrote (head_bytes s q 1 count length) 0 out m p → f ≡ on s q 2
    → Wrote (kept_bytes s marks f n) p m w r → Wrote (head_bytes s q 1 count length ++ kept_bytes s marks (on s q 2) n) 0 out w r
result_written s marks q n count length f p r out m w t ef u = then t (rw ef at u)

-- ---- 15 or the result

module _ (bs out : List ℕ) where
  too_long : length out < length bs → (told (Err OutputTooShort) ≡ answered (fitted (length out) bs)) × (out ≡ written (fitted (length out) bs) out)
  unfolding fitted answered written
  too_long h = let l = lt-leb (length bs) (length out) h in rw l (refl, refl)

  fits : (w : List ℕ) (r : ℕ) → length bs ≤ length out → Wrote bs 0 out w r → (told (Ok (length bs)) ≡ answered (fitted (length out) bs)) × (w ≡ written (fitted (length out) bs) out)
  unfolding fitted answered written
  fits w r h u =
      let l = le-leb (length bs) (length out) h in
      let i : 0 + length bs ≤ length out = omega arith in
      let o : 0 + length bs ≡ length bs = omega arith in
      rw l (refl, u.out ∙ sets-eq bs out 0 i ∙ ap (λ d. bs ++ drop d out) o)

-- how long a result is does not depend on what its length field says
head_long : (s : List ℕ) (place version count n m : ℕ) → length (head_bytes s place version count n) ≡ length (head_bytes s place version count m)
unfolding head_bytes
head_long s place version count n m = simp (length-append, length_be)

module _ (s : List ℕ) (marks : List Bool) where
  same_long : (l : ℕ) → length (result_of s marks l) ≡ length (result_of s marks 0)
  unfolding result_of
  same_long l =
      let q = within s (net_count_at s) in
      let c = kept_count s marks (on s q 2) (be16 s q) in
      let b = kept_bytes s marks (on s q 2) (be16 s q) in
      length-append (head_bytes s q 1 c l) b ∙ ap (λ n. n + length b) (head_long s q 1 c l 0) ∙ sym (length-append (head_bytes s q 1 c 0) b)

  result_long : length (kept_file s marks) ≡ length (result_of s marks 0)
  unfolding kept_file
  result_long = same_long (length (result_of s marks 0))

module _ (s : List ℕ) (marks : List Bool) (q n f c k : ℕ) (x y out : List ℕ) (eq : q ≡ within s (net_count_at s)) (en : n ≡ be16 s q) (ef : f ≡ on s q 2) (ec : c ≡ kept_count s marks f n)
    (m : Wrote (head_bytes s q 1 c 0 ++ kept_bytes s marks (on s q 2) n) 0 x y k) where
  is_of : (l : ℕ) → head_bytes s q 1 c l ++ kept_bytes s marks (on s q 2) n ≡ result_of s marks l
  unfolding result_of
  is_of l = rw (ec, ef, en, eq)

  length_is : k ≡ min far (length (kept_file s marks))
  length_is = let i = m.is in let e : length (head_bytes s q 1 c 0 ++ kept_bytes s marks (on s q 2) n) ≡ length (kept_file s marks) = ap length (is_of 0) ∙ sym (result_long s marks) in omega arith

  pub full_is : length out < k → told (Err OutputTooShort) ≡ answered (fitted (length out) (kept_file s marks))
  full_is h = (too_long (kept_file s marks) out (let t = length_is in omega arith)).0

  pub full_left : length out < k → out ≡ written (fitted (length out) (kept_file s marks)) out
  full_left h = (too_long (kept_file s marks) out (let t = length_is in omega arith)).1

  module _ (w : List ℕ) (r : ℕ) (h : k ≤ length out) (l : length out < far) (u : Wrote (head_bytes s q 1 c k ++ kept_bytes s marks (on s q 2) n) 0 out w r) where
    exact : k ≡ length (kept_file s marks)
    exact = let t = length_is in omega arith

    whole : Wrote (kept_file s marks) 0 out w r
    unfolding kept_file
    whole = wrote_as (is_of k ∙ ap (result_of s marks) (exact ∙ result_long s marks)) u

    pub done_is : told (Ok k) ≡ answered (fitted (length out) (kept_file s marks))
    done_is = ap ok exact ∙ (fits (kept_file s marks) out w r (let e = exact in omega arith) whole).0

    pub done_left : w ≡ written (fitted (length out) (kept_file s marks)) out
    done_left = (fits (kept_file s marks) out w r (let e = exact in omega arith) whole).1

module _ (s out : List ℕ) where
  pub nothing_full_is : length out < length s → told (Err OutputTooShort) ≡ answered (fitted (length out) s)
  nothing_full_is h = (too_long s out h).0

  pub nothing_full_left : length out < length s → out ≡ written (fitted (length out) s) out
  nothing_full_left h = (too_long s out h).1

  pub nothing_is : (w : List ℕ) (r : ℕ) → length s ≤ length out → Wrote s 0 out w r → told (Ok (length s)) ≡ answered (fitted (length out) s)
  nothing_is w r h u = (fits s out w r h u).0

  pub nothing_left : (w : List ℕ) (r : ℕ) → length s ≤ length out → Wrote s 0 out w r → w ≡ written (fitted (length out) s) out
  nothing_left w r h u = (fits s out w r h u).1

-- ---- the marks

pub marks_clear : (s es : List ℕ) (z ms : List Bool) → z ≡ replicate 1024 false → ms ≡ reached s es z → ms ≡ reached s es (replicate 1024 false)
marks_clear s es z ms e m = subst (λ (y : List Bool). ms ≡ reached s es y) e m

module _ (s es out w : List ℕ) (z ms : List Bool) (a : Converted) (e : z ≡ replicate 1024 false) (m : ms ≡ reached s es z) where
  pub reached_is : told a ≡ answered (fitted (length out) (kept_file s ms)) → told a ≡ answered (fitted (length out) (kept_file s (reached s es (replicate 1024 false))))
  reached_is h = subst (λ (y : List Bool). told a ≡ answered (fitted (length out) (kept_file s y))) (marks_clear s es z ms e m) h

  pub reached_left : w ≡ written (fitted (length out) (kept_file s ms)) out → w ≡ written (fitted (length out) (kept_file s (reached s es (replicate 1024 false)))) out
  reached_left h = subst (λ (y : List Bool). w ≡ written (fitted (length out) (kept_file s y)) out) (marks_clear s es z ms e m) h

-- ---- an accepted file

module _ (s es out : List ℕ) (n room : ℕ) (t : Bool) (en : n ≡ be16 s (name_count_at s)) (et : t ≡ entries_below es n) where
  tested : (u : Bool) → t ≡ u → entries_below es (be16 s (name_count_at s)) ≡ u
  tested u h = rw (← en) (sym et ∙ h)

  nothing_said : t ≡ true → length es ≡ 0 → fitted room s ≡ accepted s es room
  unfolding accepted
  nothing_said h z = pick_true _ _ _ (tested true h) (eq_yes _ _ _ _ z refl)

  reached_said : t ≡ true → (length es ≡ 0 → ⊥) → fitted room (kept_file s (reached s es (replicate 1024 false))) ≡ accepted s es room
  unfolding accepted
  reached_said h z = pick_true _ _ _ (tested true h) (eq_no _ _ _ _ z refl)

  refused_said : t ≡ false → refuse 5 ≡ accepted s es room
  unfolding accepted
  refused_said h = pick_false _ _ _ (tested false h) refl

  pub accepted_nothing_is : (a : Converted) → t ≡ true → length es ≡ 0 → told a ≡ answered (fitted room s) → told a ≡ answered (accepted s es room)
  accepted_nothing_is a h z e = e ∙ ap answered (nothing_said h z)

  pub accepted_nothing_left : (w : List ℕ) → t ≡ true → length es ≡ 0 → w ≡ written (fitted room s) out → w ≡ written (accepted s es room) out
  accepted_nothing_left w h z e = e ∙ ap (λ b. written b out) (nothing_said h z)

  pub accepted_reached_is : (a : Converted) → t ≡ true → (length es ≡ 0 → ⊥) → told a ≡ answered (fitted room (kept_file s (reached s es (replicate 1024 false)))) → told a ≡ answered (accepted s es room)
  accepted_reached_is a h z e = e ∙ ap answered (reached_said h z)

  pub accepted_reached_left : (w : List ℕ) → t ≡ true → (length es ≡ 0 → ⊥) → w ≡ written (fitted room (kept_file s (reached s es (replicate 1024 false)))) out → w ≡ written (accepted s es room) out
  accepted_reached_left w h z e = e ∙ ap (λ b. written b out) (reached_said h z)

  pub accepted_refused_is : t ≡ false → told (Err BadBody) ≡ answered (accepted s es room)
  unfolding answered
  accepted_refused_is h = ap answered (refused_said h)

  pub accepted_refused_left : t ≡ false → out ≡ written (accepted s es room) out
  unfolding written
  accepted_refused_left h = ap (λ b. written b out) (refused_said h)
