-- Each way out of the walks over paths.
use Rattle.std.specs.Prelude.{ℕ, ◌+◌, ◌-◌, ◌<◌, ◌≤◌, ◌≡◌, Bool, true, false, ◌&&◌, List, length, drop, Option, Some, None}
use Rattle.std.proofs.Math.Path.{refl, ap}
use Rattle.std.proofs.Common.{◌∙◌, arith, le-leb}
use Rattle.std.proofs.Math.Option.{none, some}
use Rattle.std.proofs.Math.Dec.{leb}
use Rattle.std.proofs.lemmas.Bool.{lt-leb}
use Rattle.net_file.specs.Read.{then, such, times, many, read_char, read_path}
use Rattle.fields.specs.Fields.{byte}
use Rattle.stored.specs.Laws.{byte_in, byte_out}
use Rattle.stored.specs.Parts.{stands_chars, stands_path, path_length}
use Rattle.walk.specs.After.{after, after_past, after_check_bad, after_unfit, after_fit}
use Rattle.walk.specs.Loops.{times_next, times_none, times_turn, times_bad, times_done}
use Rattle.walk.specs.Walk.{many_none, many_high, many_on}

-- ---- a byte of a path

and : {a b c d : Bool} → a ≡ c → b ≡ d → (a && b) ≡ (c && d)
and e f = λ i. e i && f i

module _ (s : List ℕ) (at : ℕ) (h : at < length s) where
  -- the test of a byte, as it comes out
  tested : (t : Bool) → (leb 33 (byte s at) && leb (byte s at) 126) ≡ t → read_char (drop at s) ≡ such t (byte s at) (drop (at + 1) s)
  unfolding read_char
  tested t e = ap (λ o. then o (λ b. such (leb 33 b && leb b 126) b)) (byte_in s at h) ∙ ap (λ u. such u (byte s at) (drop (at + 1) s)) e

  char_in : 33 ≤ byte s at → byte s at ≤ 126 → read_char (drop at s) ≡ some (byte s at, drop (at + 1) s)
  char_in lo hi = tested true (and (le-leb 33 (byte s at) lo) (le-leb (byte s at) 126 hi))

  char_low : byte s at < 33 → read_char (drop at s) ≡ none
  char_low lo = tested false (and (lt-leb 33 (byte s at) lo) refl)

  char_high : 33 ≤ byte s at → 126 < byte s at → read_char (drop at s) ≡ none
  char_high lo hi = tested false (and (le-leb 33 (byte s at) lo) (lt-leb (byte s at) 126 hi))

module _ (s : List ℕ) (at k b : ℕ) (x : Option ℕ) (g : after at (times k read_char) s ≡ x) (l : 0 < k) where
  pub text_end : at ≤ length s → length s ≤ at → None ≡ x
  unfolding read_char
  text_end i h = times_none read_char s at k x g l i (rw (byte_out s at h))

  pub text_low : at < length s → b ≡ byte s at → b < 33 → None ≡ x
  text_low h e lo = times_none read_char s at k x g l (omega arith) (char_low s at h (omega arith))

  pub text_high : at < length s → b ≡ byte s at → 33 ≤ b → 126 < b → None ≡ x
  text_high h e lo hi = times_none read_char s at k x g l (omega arith) (char_high s at h (omega arith) (omega arith))

pub text_more : (s : List ℕ) (at end b : ℕ) (x : Option ℕ) → after at (times (end - at) read_char) s ≡ x → at < end → at < length s → b ≡ byte s at → 33 ≤ b → b ≤ 126
    → after (at + 1) (times (end - (at + 1)) read_char) s ≡ x
text_more s at end b x g l h e lo hi =
    let k : end - (at + 1) ≡ end - at - 1 = omega arith in
    rw k (times_next read_char s at (at + 1) (end - at) (byte s at) x g (omega arith) (omega arith) (char_in s at h (omega arith) (omega arith)) (omega arith))

-- ---- a path: its length, then its bytes

module _ (s : List ℕ) (at k : ℕ) where
  pub path_none : length s ≤ at → None ≡ after at read_path s
  unfolding read_path
  path_none h = after_check_bad (many 1 64 read_char) (λ p. leb 1 (length p)) s at (many_none s read_char at 64 k h)

  pub path_long : at < length s → k ≡ byte s at → 64 < k → None ≡ after at read_path s
  unfolding read_path
  path_long h e l = after_check_bad (many 1 64 read_char) (λ p. leb 1 (length p)) s at (many_high s read_char at 64 k h e l)

  pub path_empty : at < length s → k ≡ byte s at → k < 1 → None ≡ after at read_path s
  unfolding read_path
  path_empty h e l =
      after_unfit (many 1 64 read_char) (λ p. leb 1 (length p)) s at (stands_chars s at) _ refl (rw (path_length s at) (lt-leb 1 (byte s at) (omega arith)))

  pub path_on : (w : Option ℕ) → at < length s → k ≡ byte s at → 1 ≤ k → k ≤ 64 → w ≡ after (at + 1) (times k read_char) s → w ≡ after at read_path s
  unfolding read_path
  path_on w h e lo hi ew =
      after_fit (many 1 64 read_char) (λ p. leb 1 (length p)) s at (stands_chars s at) w (many_on s read_char at 64 k w h e hi ew)
      (rw (path_length s at) (le-leb 1 (byte s at) (omega arith)))

-- the loop over paths: what stands at a place is known
pub paths_more : (s : List ℕ) (at at' n i : ℕ) (r x : Option ℕ) → after at (times (n - i) read_path) s ≡ x → i < n → r ≡ after at read_path s → r ≡ Some at'
    → after at' (times (n - (i + 1)) read_path) s ≡ x
paths_more s at at' n i r x g h er ea = times_turn read_path s at at' n i _ _ r x (stands_path s at) g h er ea

-- every way out, for the checks of the walks
pub ruleset ways = (text_end, text_low, text_high, text_more, path_none, path_long, path_empty, path_on, paths_more, after_past, times_bad, times_done)
