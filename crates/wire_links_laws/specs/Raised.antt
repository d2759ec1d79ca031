-- What is changed where a wire is linked: the word behind the table, and the marks of the wire's row and block.
use Rattle.std.specs.Prelude.{ℕ, suc, ◌+◌, ◌/◌, ◌<◌, ◌≤◌, ◌≡◌, refl, set}
use Rattle.std.proofs.Common.{sym, ◌∙◌}
use mathlib.Core.List.{List}
use native.Mathlib.Omega.{arith}
use Rattle.std.proofs.Math.ListN.{length, get_or, length-set}
use Rattle.std.proofs.Math.Seq.{get_or-set_same, get_or-set_other}
use Rattle.words.specs.Choose.{lt_split}
use Rattle.wire_blocks.specs.Blocks.{row_mark, block_mark, marked}
use Rattle.wire_blocks.specs.Laws.{length_marked, marked_before, marks_stay, row_set, block_set}
use Rattle.wire_links.specs.Table.{raised}

module _ (ws : List ℕ) (x : ℕ) where
  abbrev v : List ℕ
  v = marked 65537 ws x

  pub raised_long : length (raised ws x) ≡ length ws
  unfolding raised
  raised_long = lt_split _ _ _ _ (λ (u : List ℕ). length u ≡ length ws) (λ h. length_marked 65537 ws x) (λ h. length-set v 65536 (x + 1) ∙ length_marked 65537 ws x)

  -- no link
  pub raised_beside : (a : ℕ) → a < 65536 → get_or (raised ws x) a 0 ≡ get_or ws a 0
  unfolding raised
  raised_beside a k =
      lt_split _ _ _ _ (λ (u : List ℕ). get_or u a 0 ≡ get_or ws a 0) (λ h. marked_before 65537 ws x a (omega arith))
      (λ h. get_or-set_other v 65536 a (x + 1) 0 (λ e. absurd (omega arith)) ∙ marked_before 65537 ws x a (omega arith))

  pub raised_up : 65537 ≤ length ws → (get_or ws 65536 0 ≤ get_or (raised ws x) 65536 0) × (x < get_or (raised ws x) 65536 0)
  unfolding raised
  raised_up l =
      let b = marked_before 65537 ws x 65536 (omega arith) in
      let k = length_marked 65537 ws x in
      lt_split _ _ _ _ (λ (u : List ℕ). (get_or ws 65536 0 ≤ get_or u 65536 0) × (x < get_or u 65536 0)) (λ h. (omega arith, h))
      (λ h. let e = get_or-set_same v 65536 (x + 1) 0 (omega arith) in (omega arith, omega arith))

  -- ---- the marks

  raised_marks : (i : ℕ) → 65536 < i → get_or (raised ws x) i 0 ≡ get_or v i 0
  unfolding raised
  raised_marks i h = lt_split _ _ _ _ (λ (u : List ℕ). get_or u i 0 ≡ get_or v i 0) (λ k. refl) (λ k. get_or-set_other v 65536 i (x + 1) 0 (λ e. absurd (omega arith)))

  -- no mark goes
  pub raised_stay : (i : ℕ) → 65536 < i → get_or (raised ws x) i 0 ≡ 0 → get_or ws i 0 ≡ 0
  raised_stay i h e = marks_stay 65537 ws x i (sym (raised_marks i h) ∙ e)

  -- no other mark is set
  pub raised_other : (i : ℕ) → 65536 < i → (i ≡ 65537 + x / 1024 → ⊥) → (i ≡ 65601 + x / 32 → ⊥) → get_or (raised ws x) i 0 ≡ get_or ws i 0
  unfolding marked
  raised_other i h r b =
      raised_marks i h ∙ get_or-set_other (set ws (65537 + x / 1024) 1) (65601 + x / 32) i 1 0 b ∙ get_or-set_other ws (65537 + x / 1024) i 1 0 r

  module _ (low : x < 65536) (long : 67649 ≤ length ws) where
    pub raised_row : get_or (raised ws x) (65537 + x / 1024) 0 ≡ 1
    unfolding row_mark
    raised_row = raised_marks (65537 + x / 1024) (omega arith) ∙ row_set 65537 ws x low (omega arith)

    pub raised_block : get_or (raised ws x) (65601 + x / 32) 0 ≡ 1
    unfolding block_mark
    raised_block = raised_marks (65601 + x / 32) (omega arith) ∙ block_set 65537 ws x low (omega arith)
