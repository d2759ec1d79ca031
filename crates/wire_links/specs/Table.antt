-- The table of links by wire, on the words. Level Words. A word is 0 where its wire is linked with none, else one more than the other wire.
use Rattle.std.specs.Prelude.{ℕ, ◌+◌, ◌-◌, ◌%◌, min, List, [], ◌∷◌, get_or, set}
use Rattle.words.specs.Choose.{if_eq, if_lt}
use Rattle.net_file.specs.Write.{be}
use Rattle.wire_blocks.specs.Blocks.{marked, looked}
use Rattle.std.proofs.lemmas.List.Edits.{sets}

-- the place k bytes on, up to the greatest number there is
unfoldable pub on : ℕ → ℕ → ℕ
on at k = min 18446744073709551615 (at + k)

-- a wire that was linked is in a marked row and a marked block, and the word behind the table is above it
unfoldable pub raised : List ℕ → ℕ → List ℕ
raised ws x = let v = marked 65537 ws x in if_lt x (get_or v 65536 0) v (set v 65536 (x + 1))

module _ (ws : List ℕ) where
  -- what wire a is linked with, or a itself
  unfoldable pub far : ℕ → ℕ
  far a = let p = get_or ws a 0 in if_eq p 0 a ((p - 1) % 65536)

  -- two wires linked with each other, unless they are one
  unfoldable pub join : ℕ → ℕ → List ℕ
  join x y = if_eq x y ws (raised (raised (set (set ws x (y + 1)) y (x + 1)) x) y)

-- wires a and b are one: the far ends of what they were linked with become so
unfoldable pub link : List ℕ → ℕ → ℕ → List ℕ
link ws a b =
    let x = far ws a in
    let w = set ws a 0 in
    let y = far w b in
    join (set w b 0) x y

module _ (ws : List ℕ) where
  -- 1 where wire a is linked with a greater one, else 0
  unfoldable pub begins : ℕ → ℕ
  begins a = if_lt (a + 1) (get_or ws a 0) 1 0

  -- how many pairs begin at some wires
  unfoldable pub count_over : List ℕ → ℕ
  count_over [] = 0
  count_over (a ∷ l) = begins a + count_over l

  -- the place after the pair that begins at wire a, if one does; and that pair written
  unfoldable pub pair_place : ℕ → ℕ → ℕ
  pair_place to a = if_lt (a + 1) (get_or ws a 0) (on to 4) to

  unfoldable pub pair_bytes : List ℕ → ℕ → ℕ → List ℕ
  pair_bytes out to a =
      let b = get_or ws a 0 in
      if_lt (a + 1) b (sets (sets out to (be 2 (a % 65536))) (on to 2) (be 2 ((b - 1) % 65536))) out

  -- the pairs that begin at some wires, from a place on
  unfoldable pub place_over : List ℕ → ℕ → ℕ
  place_over [] to = to
  place_over (a ∷ l) to = place_over l (pair_place to a)

  unfoldable pub bytes_over : List ℕ → ℕ → List ℕ → List ℕ
  bytes_over [] to out = out
  bytes_over (a ∷ l) to out = bytes_over l (pair_place to a) (pair_bytes out to a)

  -- how far wires are linked, below a counter
  unfoldable pub extent : ℕ → ℕ
  extent wires = let t = get_or ws 65536 0 in if_lt t wires t wires

  -- the wires below a counter that are looked at
  unfoldable pub looks_below : ℕ → List ℕ
  looks_below wires = looked 65537 ws (extent wires) 0

  -- the pairs of the wires below a counter: how many, and the place after them, and them written
  unfoldable pub pair_count : ℕ → ℕ
  pair_count wires = count_over (looks_below wires)

  unfoldable pub pairs_end : ℕ → ℕ → ℕ
  pairs_end wires to = place_over (looks_below wires) to

  unfoldable pub pairs_out : ℕ → ℕ → List ℕ → List ℕ
  pairs_out wires to out = bytes_over (looks_below wires) to out
