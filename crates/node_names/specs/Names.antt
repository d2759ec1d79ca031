-- A node's name by its place in the held file: two bytes of path, eight of payload, a count of one byte, and as many children of two.
-- The name of the free nodes has the place 0, where no name stands.
use Rattle.std.specs.Prelude.{ℕ, zero, suc, ◌+◌, Bool, true, false, List, eqb}
use Rattle.words.specs.Choose.{pick, if_eq}
use Rattle.fields.specs.Fields.{byte, be16, be64}

-- the path
abbrev pub path : List ℕ → ℕ → ℕ
path s name = be16 s name

-- how many children
abbrev pub child_count : List ℕ → ℕ → ℕ
child_count s name = byte s (name + 10)

-- the first child, where there is one
abbrev pub first_child : List ℕ → ℕ → ℕ
first_child s name = be16 s (name + 11)

-- k numbers at a and at b are the same
unfoldable pub same_numbers : List ℕ → ℕ → ℕ → ℕ → Bool
same_numbers s a b zero = true
same_numbers s a b (suc k) =
    let r = same_numbers s (a + 2) (b + 2) k in
    if_eq (be16 s a) (be16 s b) r false

-- the first k children are the same
unfoldable pub same_children : List ℕ → ℕ → ℕ → ℕ → Bool
same_children s x y k = same_numbers s (x + 11) (y + 11) k

-- path, payload and count are the same: eleven bytes, as the eight from the name on and the eight from its third on
unfoldable pub same_head : List ℕ → ℕ → ℕ → Bool
same_head s x y =
    let r = eqb (be64 s (x + 3)) (be64 s (y + 3)) in
    if_eq (be64 s x) (be64 s y) r false

-- two names of the file are the same
unfoldable pub same_bytes : List ℕ → ℕ → ℕ → Bool
same_bytes s x y = pick (same_head s x y) (same_children s x y (child_count s x)) false

-- two nodes have the same name. At places of two names of an accepted file: exactly if path, payload and children are equal
unfoldable pub same_name_words : List ℕ → ℕ → ℕ → Bool
same_name_words s x y = if_eq x y true (if_eq x 0 false (if_eq y 0 false (same_bytes s x y)))
