-- Marks of rows and blocks of wires, on the words, and which wires are looked at by them. Level Words.
use Rattle.std.specs.Prelude.{ℕ, zero, suc, ◌+◌, ◌-◌, ◌/◌, ◌%◌, List, [], ◌∷◌, get_or, set}
use Rattle.words.specs.Choose.{if_eq, if_lt}

module _ (base : ℕ) (ws : List ℕ) where
  -- the mark of a wire's row, and of its block
  unfoldable pub row_mark : ℕ → ℕ
  row_mark w = get_or ws (base + w / 1024) 0

  unfoldable pub block_mark : ℕ → ℕ
  block_mark w = get_or ws (base + 64 + w / 32) 0

  -- both set
  unfoldable pub marked : ℕ → List ℕ
  marked w = set (set ws (base + w / 1024) 1) (base + 64 + w / 32) 1

  -- how far it is to the next wire to look at, from one at which a block begins that has no mark
  unfoldable pub row_stride : ℕ → ℕ
  row_stride w = if_eq (w % 1024) 0 (if_eq (row_mark w) 0 1024 32) 32

  -- and from any
  unfoldable pub stride : ℕ → ℕ
  stride w = if_eq (w % 32) 0 (if_eq (block_mark w) 0 (row_stride w) 1) 1

  -- the wires below n that are looked at from w on, k at most
  unfoldable pub looks : ℕ → ℕ → ℕ → List ℕ
  looks n zero w = []
  looks n (suc k) w = if_lt w n (w ∷ looks n k (w + stride w)) []

  -- all of them
  unfoldable pub looked : ℕ → ℕ → List ℕ
  looked n w = looks n (n - w) w
