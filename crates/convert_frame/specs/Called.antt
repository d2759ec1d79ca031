-- What a conversion call answers and leaves, of what the definitions say of it; and each way out of a call.
-- Document 01: "Conversions give 17 or 18 as met, then 15. A refusal returns its number and writes no output".
use Rattle.std.specs.Prelude
use Rattle.std.specs.Prelude.{Ok, Err, ℕ, ◌+◌, ◌≤◌, ◌<◌, min, Bool, true, false, List, [], ◌∷◌, ◌++◌, take, leb}
use Rattle.std.proofs.Math.Path.{◌≡◌, refl, ap}
use Rattle.std.proofs.Common.{sym, ◌∙◌}
use native.Mathlib.Omega.{arith}
use Rattle.std.proofs.Math.ListN.{length, drop}
use Rattle.std.proofs.Math.Seq.{sets-eq}
use borrow.Author.Tests.{le-leb, lt-leb}
use Rattle.net_file.specs.Lists.{Result, ok, refuse}
use Rattle.net_file.specs.Values.{File}
use Rattle.net_file.specs.Checks.{Version, read, write}
use Rattle.definitions.specs.Calls.{Left, unchanged, zeros, image, Outcome, written}
use Rattle.conversions.specs.Convert.{◌>>=◌}
use Rattle.conversions.specs.Calls.{convert, fitted, scratched}
use Rattle.refusals.specs.declared.Refusal.{Refusal}
use Rattle.refusals.specs.declared.Refusal.TheVariants.{TooLittleLent, OutputTooShort}
use Rattle.refusals.specs.Numbers.{number}
use Rattle.refusals.specs.Told.{told, told_once}
use Rattle.net_check.specs.Verdict.{Checked, verdict, read_numbered, was_read, was_refused}
use Rattle.clear.specs.Zeroed.{zeroed}
use Rattle.text_writers.specs.Wrote.{far, Wrote}

-- what a call answers: the length of its result, or by what it is refused
abbrev pub Converted : Type 0
Converted = Prelude.Result ℕ Refusal

-- the documented length of the scratch, in words: the tables by wire, at most four
abbrev pub scratch_words : ℕ
scratch_words = 262144

-- whether a scratch is as long as documented
abbrev pub long : List ℕ → Bool
long ws = leb scratch_words (length ws)

-- the length of a result, or the number that it is refused by
unfoldable pub answered : Result (List ℕ) → Result ℕ
answered (ok bs) = ok (length bs)
answered (refuse r) = refuse r

-- the scratch as a call leaves it: zeros up to its documented length, or as it was; no call of these leaves an image
unfoldable pub leaves : Left → List ℕ → List ℕ
leaves unchanged ws = ws
leaves (zeros n) ws = zeroed scratch_words ws
leaves (image h) ws = ws

-- the answer, every word of the scratch and every byte of the output
pub record Called (o : Outcome (List ℕ)) (ws bs : List ℕ) (r : Converted) (ws' bs' : List ℕ) : Type 0 where
  pub is : told r ≡ answered o.0
  pub scratch : ws' ≡ leaves o.1 ws
  pub out : bs' ≡ written o.0 bs

-- what a call determines
pub called_once : {o : Outcome (List ℕ)} {ws bs w w' b b' : List ℕ} {r r' : Converted} → Called o ws bs r w b → Called o ws bs r' w' b' → (r ≡ r') × (w ≡ w') × (b ≡ b')
called_once {r = r} {r' = r'} p q = (told_once r r' (p.is ∙ sym q.is), p.scratch ∙ sym q.scratch, p.out ∙ sym q.out)

-- past 8 the scratch is zeros, whatever the answer
abbrev pub Given : Result (List ℕ) → List ℕ → List ℕ → Converted → List ℕ → List ℕ → Type 0
Given a ws bs r ws' bs' = Called (a, zeros 0) ws bs r ws' bs'

-- ---- 1, 2 to 8, and what follows

module _ {A B : Type 0} (v : Version A) (w : Version B) (f : A → Result B) (bs ws out : List ℕ) where
  -- what the definitions say past 1, of what was read
  on_read : Result (File A) → Outcome (List ℕ)
  on_read o = elim o [ refuse r ↦ (refuse r, unchanged) | ok x ↦ (convert f x >>= λ y. fitted (length out) (write w y), zeros (length bs)) ]

  pub called_short : length ws < scratch_words → Called (scratched (long ws) v w f (length out) bs) ws out (Err TooLittleLent) ws out
  unfolding scratched answered leaves written
  called_short h = let e = lt-leb scratch_words (length ws) h in rw e (record { is = refl; scratch = refl; out = refl })

  -- what is said where the scratch is long enough, by what was read
  said_of : {o : Result (File A)} → scratch_words ≤ length ws → read v bs ≡ o → scratched (long ws) v w f (length out) bs ≡ on_read o
  unfolding scratched on_read
  said_of h e = ap (λ (t : Bool). scratched t v w f (length out) bs) (le-leb scratch_words (length ws) h) ∙ ap on_read e

  pub called_unread : (c : Checked) (r : Refusal) → scratch_words ≤ length ws → c ≡ verdict (read v bs) → c ≡ Err r
      → Called (scratched (long ws) v w f (length out) bs) ws out (Err r) ws out
  unfolding on_read answered leaves written
  called_unread c r h ec er =
      let e = said_of h (was_refused (read v bs) r (read_numbered v bs) (sym er ∙ ec)) in
      rw e (record { is = refl; scratch = refl; out = refl })

  -- what the definitions say of a file that is read, in other words
  pub called_read : (c : Checked) (a : Result (List ℕ)) (r : Converted) (ws' out' : List ℕ) → scratch_words ≤ length ws → c ≡ verdict (read v bs) → c ≡ Ok tt
      → ((x : File A) → read v bs ≡ ok x → (convert f x >>= λ y. fitted (length out) (write w y)) ≡ a) → Given a ws out r ws' out'
      → Called (scratched (long ws) v w f (length out) bs) ws out r ws' out'
  unfolding on_read leaves
  called_read c a r ws' out' h ec ea k g =
      let y = was_read (read v bs) (sym ea ∙ ec) in
      let e = said_of h y.1 ∙ ap (λ (b : Result (List ℕ)). (b, zeros (length bs))) (k y.0 y.1) in
      rw e (record { is = g.is; scratch = g.scratch; out = g.out })

-- ---- 15 or the result: n is the length that was found out, in a slice x of its own, of bytes that are as many

module _ (bs cs x y ws out : List ℕ) (n : ℕ) (m : Wrote cs 0 x y n) (l : length cs ≡ length bs) where
  pub given_full : (ws' : List ℕ) → length out < n → ws' ≡ zeroed scratch_words ws → Given (fitted (length out) bs) ws out (Err OutputTooShort) ws' out
  unfolding fitted answered leaves written
  given_full ws' h z =
      let k = m.is in
      let e = lt-leb (length bs) (length out) (omega arith) in
      rw e (record { is = refl; scratch = z; out = refl })

  pub given_written : (ws' w : List ℕ) (r : ℕ) → n ≤ length out → length out < far → ws' ≡ zeroed scratch_words ws → Wrote bs 0 out w r
      → Given (fitted (length out) bs) ws out (Ok n) ws' w
  unfolding fitted answered leaves written
  given_written ws' w r h k z u =
      let j = m.is in
      let i : 0 + length bs ≤ length out = omega arith in
      let s : n ≡ length bs = omega arith in
      let e = le-leb (length bs) (length out) (omega arith) in
      let o : 0 + length bs ≡ length bs = omega arith in
      rw e (record { is = ap ok s; scratch = z; out = u.out ∙ sets-eq bs out 0 i ∙ ap (λ d. bs ++ drop d out) o })

-- a conversion that refuses
pub given_refused : (r : Refusal) (ws ws' out : List ℕ) → ws' ≡ zeroed scratch_words ws → Given (refuse (number r)) ws out (Err r) ws' out
unfolding answered leaves written
given_refused r ws ws' out z = record { is = refl; scratch = z; out = refl }
