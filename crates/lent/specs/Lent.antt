-- What the calls are lent, and what a call leaves. Level Words. docs/IMAGE.md has the lengths.
use Rattle.std.specs.Prelude.{ℕ, ◌+◌, ◌*◌, ◌≤◌, Bool, false, ◌≡◌, List, length, take, leb}
use Rattle.std.proofs.Common.{ap, sym, length-take-le, arith}
use Rattle.words.specs.Choose.{pick, if_lt, lt_split}
use Rattle.layout.specs.Layout.{file_length}
use Rattle.clear.specs.Zeroed.{zeroed}
use Rattle.lent.specs.declared.Pools.{Pools}
use Rattle.lent.specs.declared.Answer.{Answer}

-- a call's answer, and the words and bytes as they then are
pub record Lent : Type 0 where
  pub is : Answer
  pub ws : List ℕ
  pub bs : List ℕ

-- a contract's three equations from one
pub lent : {x : Lent} {a : Answer} {w b : List ℕ} → record { is = a; ws = w; bs = b } ≡ x → (a ≡ x.is) × (w ≡ x.ws) × (b ≡ x.bs)
lent e = (ap (λ o. o.is) e, ap (λ o. o.ws) e, ap (λ o. o.bs) e)

-- one equation from a contract's three
pub together : (x : Lent) {a : Answer} {w b : List ℕ} → a ≡ x.is → w ≡ x.ws → b ≡ x.bs → record { is = a; ws = w; bs = b } ≡ x
together x e f g = λ i. record { is = e i; ws = f i; bs = g i }

-- low ≤ x ≤ high
unfoldable pub between : ℕ → ℕ → ℕ → Bool
between x low high = if_lt x low false (leb x high)

-- "N nodes 1 to 4,096; E node-list entries 1 to 16,384; W waits 0 to 4,096"
unfoldable pub pools_fit_words : Pools → Bool
pools_fit_words p = pick (between p.nodes 1 4096) (pick (between p.entries 1 16384) (between p.waits 0 4096) false) false

-- the documented length in words
unfoldable pub words_of : Pools → ℕ
words_of p = 5216 + 32 * p.nodes + 2 * p.entries + 3 * p.waits

-- 1: "pool number out of range, or workspace shorter than documented", measured as for no file
unfoldable pub room : Pools → List ℕ → Bool
room p ws = pick (pools_fit_words p) (leb (words_of p) (length ws)) false

-- the length of the held file, or of the bytes where they are fewer
unfoldable pub held_length : List ℕ → List ℕ → ℕ
held_length ws bs = if_lt (file_length ws) (length bs) (file_length ws) (length bs)

-- the held file is no longer than the bytes
pub held_fits : (ws bs : List ℕ) (k : ℕ) → k ≡ held_length ws bs → k ≤ length bs
unfolding held_length
held_fits ws bs k e = rw e (lt_split (file_length ws) (length bs) _ _ (λ (x : ℕ). x ≤ length bs) (λ h. omega arith) (λ h. omega arith))

-- so it is a part of them
pub held_part : (ws bs : List ℕ) (k : ℕ) → k ≡ held_length ws bs → k ≡ length (take k bs)
held_part ws bs k e = sym (length-take-le _ _ (held_fits ws bs k e))

-- the words as a refusal or a finish leaves them: "fills it with zeros up to its documented length"
unfoldable pub zero_words : Pools → List ℕ → List ℕ
zero_words p ws = zeroed (words_of p) ws

-- and the bytes, for a file of n bytes
unfoldable pub zero_bytes : ℕ → List ℕ → List ℕ
zero_bytes n bs = zeroed n bs
