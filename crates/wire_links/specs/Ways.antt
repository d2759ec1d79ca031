-- The ways out, and one turn of each loop over the table, and its end.
use Rattle.std.specs.Prelude.{ℕ, ◌+◌, ◌<◌, ◌≤◌, ◌≡◌, get_or, set}
use Rattle.std.proofs.Math.Path.{refl, sym, ap}
use Rattle.std.proofs.Common.{◌∙◌}
use mathlib.Core.List.{List}
use native.Mathlib.Omega.{arith}
use Rattle.words.specs.Choose.{eq_yes, eq_no, lt_yes, lt_no, lt_split}
use Rattle.wire_blocks.specs.Blocks.{marked, stride, looked}
use Rattle.wire_blocks.specs.Ways.{looked_more, looked_done}
use Rattle.wire_links.specs.Table.{raised, join, extent, begins, count_over, pair_place, pair_bytes, place_over, bytes_over}

-- the wires below n that are looked at from w on: the first, and d further on those after it
module _ (ws : List ℕ) (n w d : ℕ) (h : w < n) (ed : d ≡ stride 65537 ws w) where
  pub count_more : (m b x : ℕ) → m + count_over ws (looked 65537 ws n w) ≡ x → b ≡ begins ws w → m + b + count_over ws (looked 65537 ws n (w + d)) ≡ x
  unfolding count_over
  count_more m b x e eb = let f : count_over ws (looked 65537 ws n w) ≡ begins ws w + count_over ws (looked 65537 ws n (w + d)) = ap (count_over ws) (looked_more 65537 ws n w d h ed) in omega arith

  pub place_more : (to t x : ℕ) → place_over ws (looked 65537 ws n w) to ≡ x → t ≡ pair_place ws to w → place_over ws (looked 65537 ws n (w + d)) t ≡ x
  unfolding place_over
  place_more to t x e et = rw et (sym (ap (λ (l : List ℕ). place_over ws l to) (looked_more 65537 ws n w d h ed)) ∙ e)

  pub bytes_more : (to t : ℕ) (out o x : List ℕ) → bytes_over ws (looked 65537 ws n w) to out ≡ x → t ≡ pair_place ws to w → o ≡ pair_bytes ws out to w
      → bytes_over ws (looked 65537 ws n (w + d)) t o ≡ x
  unfolding bytes_over
  bytes_more to t out o x e et eo = rw (et, eo) (sym (ap (λ (l : List ℕ). bytes_over ws l to out) (looked_more 65537 ws n w d h ed)) ∙ e)

module _ (ws : List ℕ) (n w : ℕ) (h : n ≤ w) where
  pub count_done : (m x : ℕ) → m + count_over ws (looked 65537 ws n w) ≡ x → m ≡ x
  unfolding count_over
  count_done m x e = let f : count_over ws (looked 65537 ws n w) ≡ 0 = ap (count_over ws) (looked_done 65537 ws n w h) in omega arith

  pub place_done : (to x : ℕ) → place_over ws (looked 65537 ws n w) to ≡ x → to ≡ x
  unfolding place_over
  place_done to x e = sym (ap (λ (l : List ℕ). place_over ws l to) (looked_done 65537 ws n w h)) ∙ e

  pub bytes_done : (to : ℕ) (out x : List ℕ) → bytes_over ws (looked 65537 ws n w) to out ≡ x → out ≡ x
  unfolding bytes_over
  bytes_done to out x e = sym (ap (λ (l : List ℕ). bytes_over ws l to out) (looked_done 65537 ws n w h)) ∙ e

-- ---- the word behind the table

module _ (ws v : List ℕ) (x t : ℕ) (ev : v ≡ marked 65537 ws x) (et : t ≡ get_or v 65536 0) where
  pub raised_not : x < t → v ≡ raised ws x
  unfolding raised
  raised_not h = rw (← ev, ← et) (lt_yes _ _ _ _ h refl)

  pub raised_over : (w : List ℕ) → t ≤ x → w ≡ set v 65536 (x + 1) → w ≡ raised ws x
  unfolding raised
  raised_over w h e = rw (← ev, ← et) (lt_no _ _ _ _ h e)

module _ (ws : List ℕ) (x t : ℕ) (et : t ≡ get_or ws 65536 0) where
  pub extent_top : t < x → t ≡ extent ws x
  unfolding extent
  extent_top h = rw (← et) (lt_yes _ _ _ _ h refl)

  pub extent_all : x ≤ t → x ≡ extent ws x
  unfolding extent
  extent_all h = rw (← et) (lt_no _ _ _ _ h refl)

module _ (ws : List ℕ) (x y : ℕ) where
  pub join_one : x ≡ y → ws ≡ join ws x y
  unfolding join
  join_one h = eq_yes _ _ _ _ h refl

  pub join_two : (u v w z : List ℕ) → (x ≡ y → ⊥) → u ≡ set ws x (y + 1) → v ≡ set u y (x + 1) → w ≡ raised v x → z ≡ raised w y → z ≡ join ws x y
  unfolding join
  join_two u v w z h eu ev ew ez = eq_no _ _ _ _ h (rw (ez, ew, ev, eu))

pub extent_most : (ws : List ℕ) (wires e r : ℕ) → e ≡ extent ws wires → r ≤ e → r ≤ wires
unfolding extent
extent_most ws wires e r ee h = lt_split _ _ _ _ (λ (x : ℕ). e ≡ x → r ≤ wires) (λ l i. omega arith) (λ l i. omega arith) ee
