-- Tables by wire in words. A word is 0 where there is nothing, else one more than a wire or than the place of a tree.
-- Words 0 to 65,535: the wire that each wire is linked with; from 65,536 on: the tree that hangs on it; from 131,072 on: the two
-- trees of each link that is kept. Level Words; what they mean is in `wire_tables_laws`.
use Rattle.std.specs.Prelude.{ℕ, ◌+◌, ◌*◌, ◌-◌, ◌%◌, List, get_or, set}
use Rattle.words.specs.Choose.{if_eq, if_lt}

-- ---- links

-- what a is linked with, or a itself
unfoldable pub far : List ℕ → ℕ → ℕ
far ws a = let v = get_or ws a 0 in if_eq v 0 a ((v - 1) % 65536)

-- a is linked with nothing
abbrev pub unlink : List ℕ → ℕ → List ℕ
unlink ws a = set ws a 0

-- two wires that are linked with nothing become one; one is so with itself
unfoldable pub joined : List ℕ → ℕ → ℕ → List ℕ
joined ws x y = if_eq x y ws (set (set ws x (y + 1)) y (x + 1))

-- a and b are one wire: the far ends of what they were linked with become so (`link` of net.rs)
unfoldable pub link : List ℕ → ℕ → ℕ → List ℕ
link ws a b =
    let x = far ws a in
    let y = far (unlink ws a) b in
    joined (unlink (unlink ws a) b) x y

-- the smaller of a wire and what it is linked with (`canonicalize`)
unfoldable pub smaller : List ℕ → ℕ → ℕ
smaller ws a = let b = far ws a in if_lt b a b a

-- ---- trees that hang

-- one more than the place of the tree that hangs on w, or 0
abbrev pub hung : List ℕ → ℕ → ℕ
hung ws w = get_or ws (65536 + w) 0

abbrev pub hang : List ℕ → ℕ → ℕ → List ℕ
hang ws w v = set ws (65536 + w) v

-- ---- links that are kept

unfoldable pub keep : List ℕ → ℕ → ℕ → ℕ → List ℕ
keep ws i a b = set (set ws (131072 + 2 * i) a) (131072 + 2 * i + 1) b

abbrev pub kept_left : List ℕ → ℕ → ℕ
kept_left ws i = get_or ws (131072 + 2 * i) 0

abbrev pub kept_right : List ℕ → ℕ → ℕ
kept_right ws i = get_or ws (131072 + 2 * i + 1) 0

-- ---- freed

-- w is not linked, and nothing hangs on it
unfoldable pub freed : List ℕ → ℕ → List ℕ
freed ws w = hang (unlink ws w) w 0
