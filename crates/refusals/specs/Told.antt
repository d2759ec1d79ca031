-- Answers whose refusals are named, and the same answers with the documents' numbers.
use Rattle.std.specs.Prelude
use Rattle.std.specs.Prelude.{ℕ, ◌≡◌, refl, Ok, Err}
use Rattle.std.proofs.Common.{sym, ap, ◌∙◌}
use Rattle.net_file.specs.Lists.{Result, ok, refuse}
use Rattle.refusals.specs.declared.Refusal.{Refusal}
use Rattle.refusals.specs.Numbers.{number, by, by_number}

module _ {A : Type 0} where
  abbrev pub told : Prelude.Result A Refusal → Result A
  told (Ok a) = ok a
  told (Err e) = refuse (number e)

  -- the answer that the numbers tell
  abbrev pub named : Result A → Prelude.Result A Refusal
  named (ok a) = Ok a
  named (refuse n) = Err (by n)

  -- a refusal by one of the documents' numbers
  abbrev pub Numbered : Result A → Type 0
  Numbered (ok a) = Unit {0}
  Numbered (refuse n) = number (by n) ≡ n

  pub named_told : (a : Prelude.Result A Refusal) → named (told a) ≡ a
  named_told (Ok a) = refl
  named_told (Err e) = ap Err (by_number e)

  -- no two answers are told alike
  pub told_once : (a b : Prelude.Result A Refusal) → told a ≡ told b → a ≡ b
  told_once a b e = sym (named_told a) ∙ ap named e ∙ named_told b

  pub told_named : (a : Result A) → Numbered a → told (named a) ≡ a
  told_named (ok a) h = refl
  told_named (refuse n) h = ap refuse h

  pub told_numbered : (a : Prelude.Result A Refusal) → Numbered (told a)
  told_numbered (Ok a) = tt
  told_numbered (Err e) = ap number (by_number e)
