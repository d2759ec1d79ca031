-- How often each wire occurs, counted above a base. Last: a count is the number of occurrences, up to 3 (`tally_seen`).
use Rattle.std.specs.Prelude.{ℕ, zero, suc, ◌+◌, ◌-◌, ◌<◌, ◌≤◌, min, ◌≡◌, refl, Bool, true, false, List, [], ◌∷◌, ◌++◌, length, get_or, set, replicate, eqb}
use Rattle.std.proofs.Common.{sym, ap, ◌∙◌, arith, eq-eqb, ne_eqb}
use Rattle.std.proofs.Math.Decide.{ℕ_discrete, dec_lt}
use Rattle.std.proofs.Math.ListN.{length-set}
use Rattle.std.proofs.Math.Seq.{get_or-set_same, get_or-set_other, set_out}
use Rattle.words.specs.Choose.{if_lt, if_eq, lt_split, eq_split}
use Rattle.net_file.specs.Lists.{bit}
use Rattle.net_file.specs.Checks.{occurs}

-- the word for once more
unfoldable pub more : ℕ → ℕ → ℕ
more base c = if_lt base c (if_eq c (base + 1) (base + 2) (base + 3)) (base + 1)

unfoldable pub bump : List ℕ → ℕ → ℕ → List ℕ
bump counts base w = set counts w (more base (get_or counts w 0))

unfoldable pub tally : List ℕ → ℕ → List ℕ → List ℕ
tally counts base [] = counts
tally counts base (w ∷ ws) = tally (bump counts base w) base ws

-- how often w was seen since the base
unfoldable pub seen : List ℕ → ℕ → ℕ → ℕ
seen counts base w = get_or counts w 0 - base

-- no word is above b
abbrev pub Low : List ℕ → ℕ → Type 0
Low counts b = (w : ℕ) → get_or counts w 0 ≤ b

-- at first nothing was seen
pub blank_low : (n : ℕ) → Low (replicate n 0) 0
blank_low zero w = omega arith
blank_low (suc n) zero = omega arith
blank_low (suc n) (suc w) = blank_low n w

-- ---- one more

more_up : (base c : ℕ) → more base c - base ≡ min 3 (c - base + 1)
unfolding more
more_up base c = lt_split base c _ _ (λ x. x - base ≡ min 3 (c - base + 1))
    (λ h. eq_split c (base + 1) _ _ (λ x. x - base ≡ min 3 (c - base + 1)) (λ e. omega arith) (λ n. omega arith))
    (λ h. omega arith)

more_low : (base c : ℕ) → more base c ≤ base + 3
unfolding more
more_low base c = lt_split base c _ _ (λ x. x ≤ base + 3) (λ h. eq_split c (base + 1) _ _ (λ x. x ≤ base + 3) (λ e. omega arith) (λ n. omega arith)) (λ h. omega arith)

module _ (counts : List ℕ) (base w : ℕ) where
  pub bump_length : length (bump counts base w) ≡ length counts
  unfolding bump
  bump_length = rw length-set

  pub bump_low : Low counts (base + 3) → Low (bump counts base w) (base + 3)
  unfolding bump
  bump_low l v = elim (ℕ_discrete v w) [
    | yes e ↦ elim (dec_lt w (length counts)) [
      | yes h ↦ rw (e, get_or-set_same counts w (more base (get_or counts w 0)) 0 h) (more_low base (get_or counts w 0))
      | no h ↦ rw (set_out counts w (more base (get_or counts w 0)) (omega arith)) (l v)
    ]
    | no n ↦ rw (get_or-set_other counts w v (more base (get_or counts w 0)) 0 n) (l v)
  ]

  bump_seen : (v : ℕ) → w < length counts → Low counts (base + 3) → seen (bump counts base w) base v ≡ min 3 (seen counts base v + bit (eqb v w))
  unfolding bump seen
  bump_seen v h l = elim (ℕ_discrete v w) [
    | yes e ↦ rw (eq-eqb v w e, e, get_or-set_same counts w (more base (get_or counts w 0)) 0 h) (more_up base (get_or counts w 0))
    | no n ↦ let x = l v in rw (ne_eqb v w n, get_or-set_other counts w v (more base (get_or counts w 0)) 0 n) (omega arith)
  ]

-- ---- a list of wires

-- every wire has its word
abbrev pub Inside : ℕ → List ℕ → Type 0
Inside n [] = Unit {0}
Inside n (w ∷ ws) = (w < n) × Inside n ws

pub inside_append : (n : ℕ) (ws vs : List ℕ) → Inside n ws → Inside n vs → Inside n (ws ++ vs)
inside_append n [] vs h k = k
inside_append n (w ∷ ws) vs h k = (h.0, inside_append n ws vs h.1 k)

-- a greater bound
pub inside_more : (m n : ℕ) → m ≤ n → (ws : List ℕ) → Inside m ws → Inside n ws
inside_more m n l [] h = tt
inside_more m n l (w ∷ ws) h = (omega (arith, h.0), inside_more m n l ws h.1)

pub tally_length : (counts : List ℕ) (base : ℕ) (ws : List ℕ) → length (tally counts base ws) ≡ length counts
unfolding tally
tally_length counts base [] = refl
tally_length counts base (w ∷ ws) = tally_length (bump counts base w) base ws ∙ bump_length counts base w

pub tally_low : (counts : List ℕ) (base : ℕ) (ws : List ℕ) → Low counts (base + 3) → Low (tally counts base ws) (base + 3)
unfolding tally
tally_low counts base [] l = l
tally_low counts base (w ∷ ws) l = tally_low (bump counts base w) base ws (bump_low counts base w l)

pub tally_append : (counts : List ℕ) (base : ℕ) (ws vs : List ℕ) → tally (tally counts base ws) base vs ≡ tally counts base (ws ++ vs)
unfolding tally
tally_append counts base [] vs = refl
tally_append counts base (w ∷ ws) vs = tally_append (bump counts base w) base ws vs

pub tally_seen : (counts : List ℕ) (base v : ℕ) (ws : List ℕ) → Inside (length counts) ws → Low counts (base + 3)
    → seen (tally counts base ws) base v ≡ min 3 (seen counts base v + occurs v ws)
unfolding tally occurs seen
tally_seen counts base v [] i l = let x = l v in omega arith
tally_seen counts base v (w ∷ ws) i l =
    let e = tally_seen (bump counts base w) base v ws (rw (bump_length counts base w) i.1) (bump_low counts base w l) in
    let f = bump_seen counts base w v i.0 l in
    omega arith
