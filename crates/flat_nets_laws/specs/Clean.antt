-- The table without links: it is so again when a net is done, whatever its bytes, since no wire is linked above the word behind it, and
-- none in a row or a block without a mark.
use Prim.Native.Nat.{ℕ, zero, suc, ◌+◌, ◌-◌, ◌*◌, ◌/◌, ◌<◌, ◌≤◌}
use Rattle.std.specs.Prelude.{◌≡◌, refl, List, [], ◌∷◌, length, set}
use Rattle.std.proofs.Common.{ap, ◌∙◌, not-suc-le-zero, length-set, get_or-set_other}
use native.Mathlib.Omega.{arith}
use Rattle.std.proofs.Math.Decide.{dec_lt, ℕ_discrete}
use Rattle.std.proofs.Math.ListN.{get_or}
use Rattle.words.specs.Choose.{eq_split}
use Rattle.net_file_laws.specs.Bytes.{Bytes}
use Rattle.net_file_laws.specs.Exact.{Each}
use Rattle.fields.specs.Fields.{be16}
use Rattle.clear.specs.Zeroed.{zeroed}
use Rattle.conversions.specs.Links.{get}
use Rattle.wire_blocks.specs.Laws.{wires_from, Less}
use Rattle.wire_links.specs.Table.{extent, looks_below}
use Rattle.wire_links_laws.specs.Means.{code, Means}
use Rattle.wire_links_laws.specs.Top.{Topped, extent_under, looks_less}
use Rattle.wire_links_laws.proofs.Top.{topped_linked}
use Rattle.embed.specs.declared.Growth.{Growth}
use Rattle.embed_nets.specs.Nets.{hung, left_walked, link_hung, links_hung, link_walked, net_hung}
use Rattle.flat_nets.specs.declared.Spot.{Spot}
use Rattle.flat_nets.specs.Flat.{zero_from, empty_over, emptied, linked, passed, net_words}
use Rattle.flat_nets_laws.specs.Links.{two_low, top_low}

pub zeroed_word : (k : ℕ) (xs : List ℕ) (a : ℕ) → a < k → get_or (zeroed k xs) a 0 ≡ 0
unfolding zeroed
zeroed_word zero xs a h = absurd (not-suc-le-zero h)
zeroed_word (suc k) [] a h = refl
zeroed_word (suc k) (x ∷ xs) zero h = refl
zeroed_word (suc k) (x ∷ xs) (suc a) h = zeroed_word k xs a (omega arith)

pub zeroed_long : (k : ℕ) (xs : List ℕ) → length (zeroed k xs) ≡ length xs
unfolding zeroed
zeroed_long zero xs = refl
zeroed_long (suc k) [] = refl
zeroed_long (suc k) (x ∷ xs) = ap suc (zeroed_long k xs)

-- the table without links
pub record Clean (ws : List ℕ) : Type 0 where
  pub long : 67649 ≤ length ws
  pub zeros : (a : ℕ) → a < 67649 → get_or ws a 0 ≡ 0

pub clean_zeroed : (ws : List ℕ) → 67649 ≤ length ws → Clean (zeroed 67649 ws)
clean_zeroed ws h = record { long = rw (zeroed_long 67649 ws) h; zeros = zeroed_word 67649 ws }

pub clean_means : (ws : List ℕ) → Clean ws → Means ws []
unfolding code get
clean_means ws c = let l = c.long in record { long = omega arith; word = λ a h. c.zeros a (omega arith); low = λ a h. omega arith }

pub clean_topped : (ws : List ℕ) → Clean ws → Topped ws
clean_topped ws c = record {
  long = c.long;
  top = λ a h i. c.zeros a (omega arith);
  row = λ a h z. c.zeros a (omega arith);
  block = λ a h z. c.zeros a (omega arith);
  rows = λ i h l. c.zeros (65537 + i) (omega arith);
  blocks = λ i h l. c.zeros (65601 + i) (omega arith);
}

-- ---- words made 0

pub put_zero : (ws : List ℕ) (i : ℕ) → get_or (set ws i 0) i 0 ≡ 0
put_zero [] zero = refl
put_zero [] (suc i) = refl
put_zero (w ∷ ws) zero = refl
put_zero (w ∷ ws) (suc i) = put_zero ws i

-- a word that is 0 stays so
pub put_stay : (ws : List ℕ) (i a : ℕ) → get_or ws a 0 ≡ 0 → get_or (set ws i 0) a 0 ≡ 0
put_stay ws i a z = elim (ℕ_discrete a i) [ yes d ↦ rw d (put_zero ws i) | no d ↦ get_or-set_other ws i a 0 0 d ∙ z ]

pub from_stay : (n i : ℕ) (ws : List ℕ) (a : ℕ) → get_or ws a 0 ≡ 0 → get_or (zero_from i n ws) a 0 ≡ 0
unfolding zero_from
from_stay zero i ws a z = z
from_stay (suc n) i ws a z = from_stay n (suc i) (set ws i 0) a (put_stay ws i a z)

pub over_stay : (l : List ℕ) (ws : List ℕ) (a : ℕ) → get_or ws a 0 ≡ 0 → get_or (empty_over l ws) a 0 ≡ 0
unfolding empty_over
over_stay [] ws a z = z
over_stay (w ∷ l) ws a z = over_stay l (set ws w 0) a (put_stay ws w a z)

pub from_long : (n i : ℕ) (ws : List ℕ) → length (zero_from i n ws) ≡ length ws
unfolding zero_from
from_long zero i ws = refl
from_long (suc n) i ws = from_long n (suc i) (set ws i 0) ∙ length-set ws i 0

pub over_long : (l : List ℕ) (ws : List ℕ) → length (empty_over l ws) ≡ length ws
unfolding empty_over
over_long [] ws = refl
over_long (w ∷ l) ws = over_long l (set ws w 0) ∙ length-set ws w 0

pub from_word : (n i : ℕ) (ws : List ℕ) (a : ℕ) → i ≤ a → a < i + n → get_or (zero_from i n ws) a 0 ≡ 0
unfolding zero_from
from_word zero i ws a h k = absurd (omega arith)
from_word (suc n) i ws a h k = elim (dec_lt i a) [
  | yes l ↦ from_word n (suc i) (set ws i 0) a l (omega arith)
  | no l ↦ let d : a ≡ i = omega arith in from_stay n (suc i) (set ws i 0) a (rw d (put_zero ws i))
]

-- the wires that are looked at, and those that are passed over
pub over_each : {Nothing : ℕ → Type 0} {l m : List ℕ} → Less Nothing l m → (ws : List ℕ) → ((a : ℕ) → Nothing a → get_or ws a 0 ≡ 0) → Each (λ a. get_or (empty_over l ws) a 0 ≡ 0) m
unfolding empty_over
over_each Less.none ws z = tt
over_each (Less.both {w} {l} t) ws z = (over_stay l (set ws w 0) w (put_zero ws w), over_each t (set ws w 0) (λ a n. put_stay ws w a (z a n)))
over_each (Less.less {w} {l} n t) ws z = (over_stay l ws w (z w n), over_each t ws z)

pub each_at : (P : ℕ → Type 0) (k w : ℕ) → Each P (wires_from w k) → (a : ℕ) → w ≤ a → a < w + k → P a
unfolding wires_from
each_at P zero w h a i j = absurd (omega arith)
each_at P (suc k) w h a i j = elim (dec_lt w a) [
  | yes l ↦ each_at P k (suc w) h.1 a l (omega arith)
  | no l ↦ let d : w ≡ a = omega arith in rw (← d) h.0
]

-- nothing is left in the table
module _ (ws : List ℕ) (t : Topped ws) where
  abbrev pub e : ℕ
  e = extent ws 65536

  abbrev pub u : List ℕ
  u = empty_over (looks_below ws 65536) ws

  abbrev pub v : List ℕ
  v = zero_from 65536 (1 + (e + 1023) / 1024) u

  -- a word that was 0 is so still
  pub was_zero : (a : ℕ) → get_or ws a 0 ≡ 0 → get_or (emptied ws) a 0 ≡ 0
  unfolding emptied
  was_zero a z = from_stay ((e + 31) / 32) 65601 v a (from_stay (1 + (e + 1023) / 1024) 65536 u a (over_stay (looks_below ws 65536) ws a z))

  pub wire_zero : (a : ℕ) → a < 65536 → get_or (emptied ws) a 0 ≡ 0
  unfolding emptied
  wire_zero a h = elim (dec_lt a e) [
    | yes i ↦
        let z = each_at (λ a. get_or u a 0 ≡ 0) e 0 (over_each (looks_less ws t 65536 (omega arith)) ws (λ a z. z)) a (omega arith) (omega arith) in
        from_stay ((e + 31) / 32) 65601 v a (from_stay (1 + (e + 1023) / 1024) 65536 u a z)
    | no i ↦ was_zero a (t.top a h (extent_under ws 65536 a h (omega arith)))
  ]

  pub row_zero : (i : ℕ) → i < 65 → get_or (emptied ws) (65536 + i) 0 ≡ 0
  unfolding emptied
  row_zero i h = elim (dec_lt i (1 + (e + 1023) / 1024)) [
    | yes k ↦ from_stay ((e + 31) / 32) 65601 v (65536 + i) (from_word (1 + (e + 1023) / 1024) 65536 u (65536 + i) (omega arith) (omega arith))
    | no k ↦
        let j : 65537 + (i - 1) ≡ 65536 + i = omega arith in
        was_zero (65536 + i) (rw (← j) (t.rows (i - 1) (omega arith) (extent_under ws 65536 (1024 * (i - 1)) (omega arith) (omega arith))))
  ]

  pub block_zero : (i : ℕ) → i < 2048 → get_or (emptied ws) (65601 + i) 0 ≡ 0
  unfolding emptied
  block_zero i h = elim (dec_lt i ((e + 31) / 32)) [
    | yes k ↦ from_word ((e + 31) / 32) 65601 v (65601 + i) (omega arith) (omega arith)
    | no k ↦ was_zero (65601 + i) (t.blocks i h (extent_under ws 65536 (32 * i) (omega arith) (omega arith)))
  ]

  pub all_zero : (a : ℕ) → a < 67649 → get_or (emptied ws) a 0 ≡ 0
  all_zero a h = elim (dec_lt a 65536) [
    | yes i ↦ wire_zero a i
    | no i ↦ elim (dec_lt a 65601) [
      | yes j ↦ let k : 65536 + (a - 65536) ≡ a = omega arith in rw (← k) (row_zero (a - 65536) (omega arith))
      | no j ↦ let k : 65601 + (a - 65601) ≡ a = omega arith in rw (← k) (block_zero (a - 65601) (omega arith))
    ]
  ]

  pub links_emptied : Clean (emptied ws)
  unfolding emptied
  links_emptied =
      let l = t.long in
      let k = from_long ((e + 31) / 32) 65601 v ∙ from_long (1 + (e + 1023) / 1024) 65536 u ∙ over_long (looks_below ws 65536) ws in
      record { long = omega arith; zeros = all_zero }

-- ---- links stay below the word behind the table

module _ (s : List ℕ) (bytes : Bytes s) where
  pub hung_topped : (ws : List ℕ) → Topped ws → (a : Growth) → a.top < 65536 → Topped (hung s ws a)
  unfolding hung
  hung_topped ws t a h = eq_split _ _ _ _ Topped (λ e. topped_linked ws t a.top (be16 s (a.at + 1)) h (two_low s bytes (a.at + 1))) (λ e. t)

  pub links_topped : (k : ℕ) (ws : List ℕ) → Topped ws → (g : Growth) → Topped (links_hung s ws g k)
  unfolding links_hung link_hung left_walked
  links_topped zero ws t g = t
  links_topped (suc k) ws t g = links_topped k (link_hung s ws g) (hung_topped ws t (left_walked s g) (top_low s bytes 64 g 65536)) (link_walked s g)

  pub net_topped : (ws : List ℕ) → Topped ws → (at to aux : ℕ) → Topped (net_hung s ws at to aux)
  unfolding net_hung
  net_topped ws t at to aux = links_topped _ ws t _

  pub linked_topped : (ws : List ℕ) → Clean ws → (at : ℕ) → Topped (linked s ws at)
  unfolding linked
  linked_topped ws c at = net_topped ws (clean_topped ws c) at 0 0
