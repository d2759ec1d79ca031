-- The two passes of `resolve_links` over stored links, on the words. A tree is named by its place in the file. Level Words; that
-- they are `wireLinks` and `pass` of the definition is in `resolve_laws`.
use Rattle.std.specs.Prelude.{ℕ, zero, suc, ◌+◌, ◌-◌, ◌%◌, List}
use Rattle.words.specs.Choose.{if_eq, if_lt}
use Rattle.words.specs.Left.{Left}
use Rattle.fields.specs.Fields.{byte, be16}
use Rattle.ends.specs.Ends.{on}
use Rattle.scan_tree.specs.Count.{end_from}
use Rattle.wire_tables.specs.Tables.{link, unlink, smaller, hung, hang, freed}
use Rattle.wire_tables.specs.Tables
use Rattle.wire_blocks.specs.Blocks.{marked}
use Rattle.resolve_pass.specs.declared.Passed.{Passed}

-- ---- places

-- the wire of a tree that is one
unfoldable pub wire_at : List ℕ → ℕ → ℕ
wire_at s at = be16 s (on s at 1)

-- the place behind a tree
unfoldable pub tree_end : List ℕ → ℕ → ℕ
tree_end s at = end_from s at 1

-- a place as a word
unfoldable pub place : ℕ → ℕ
place at = at % 4294967296

-- ---- the links of two wires

unfoldable pub link_wires : List ℕ → List ℕ → ℕ → ℕ → List ℕ
link_wires ws s a b = if_eq (byte s a) 0 (if_eq (byte s b) 0 (link ws (wire_at s a) (wire_at s b)) ws) ws

-- those among n links; the place behind them all
unfoldable pub wire_links : List ℕ → List ℕ → ℕ → ℕ → Left ℕ
wire_links ws s at zero = record { is = at; ws = ws }
wire_links ws s at (suc k) = let b = tree_end s at in wire_links (link_wires ws s at b) s (tree_end s b) k

-- ---- the wires of links on which trees hang

-- t, or one more than w, where a tree hangs there and w is not below t
unfoldable pub over : List ℕ → ℕ → ℕ → ℕ
over ws w t = if_eq (hung ws w) 0 t (if_lt w t t (w + 1))

unfoldable pub hung_tree : List ℕ → List ℕ → ℕ → ℕ → ℕ
hung_tree ws s at t = if_eq (byte s at) 0 (over ws (wire_at s at) t) t

-- one more than the greatest of k links
unfoldable pub hung_links : List ℕ → List ℕ → ℕ → ℕ → ℕ → ℕ
hung_links ws s at zero t = t
hung_links ws s at (suc k) t = let b = tree_end s at in hung_links ws s (tree_end s b) k (hung_tree ws s b (hung_tree ws s at t))

-- wire w is marked where a tree hangs on it
unfoldable pub mark_wire : List ℕ → ℕ → List ℕ → List ℕ
mark_wire ws w bs = if_eq (hung ws w) 0 bs (marked 0 bs w)

unfoldable pub mark_tree : List ℕ → List ℕ → ℕ → List ℕ → List ℕ
mark_tree ws s at bs = if_eq (byte s at) 0 (mark_wire ws (wire_at s at) bs) bs

-- those of k links
unfoldable pub marked_links : List ℕ → List ℕ → ℕ → ℕ → List ℕ → List ℕ
marked_links ws s at zero bs = bs
marked_links ws s at (suc k) bs = let b = tree_end s at in marked_links ws s (tree_end s b) k (mark_tree ws s b (mark_tree ws s at bs))

-- ---- the wires of links, freed

unfoldable pub free_tree : List ℕ → List ℕ → ℕ → List ℕ
free_tree ws s at = if_eq (byte s at) 0 (freed ws (wire_at s at)) ws

-- those of k links: in the tables nothing is left of them
unfoldable pub free_links : List ℕ → List ℕ → ℕ → ℕ → List ℕ
free_links ws s at zero = ws
free_links ws s at (suc k) = let b = tree_end s at in free_links (free_tree (free_tree ws s at) s b) s (tree_end s b) k

-- ---- the trees that hang

-- one more, and one less
unfoldable pub next : ℕ → ℕ
next x = (x + 1) % 4294967296

unfoldable pub less : ℕ → ℕ
less x = (x + 4294967295) % 4294967296

-- one more link is kept
unfoldable pub add_kept : List ℕ → ℕ → ℕ → Passed → Left Passed
add_kept ws a b p = record { is = record { kept = next p.kept; left = p.left }; ws = Tables.keep ws p.kept a b }

-- a tree meets a wire: it hangs there, or is linked with the tree that does
unfoldable pub meet : List ℕ → ℕ → ℕ → Passed → Left Passed
meet ws w at p =
    let c = smaller ws w in
    let v = unlink ws w in
    let u = hung v c in
    if_eq u 0 (record { is = record { kept = p.kept; left = next p.left }; ws = hang (hang v c 0) c (next at) })
    (add_kept (hang v c 0) (u - 1) at (record { kept = p.kept; left = less p.left }))

-- a link of the second pass
unfoldable pub pass_link : List ℕ → List ℕ → ℕ → ℕ → Passed → Left Passed
pass_link ws s a b p =
    if_eq (byte s a) 0 (if_eq (byte s b) 0 (record { is = p; ws = ws }) (meet ws (wire_at s a) (place b) p))
    (if_eq (byte s b) 0 (meet ws (wire_at s b) (place a) p) (add_kept ws (place a) (place b) p))

-- the second pass over n links
unfoldable pub pass : List ℕ → List ℕ → ℕ → ℕ → Passed → Left Passed
pass ws s at zero p = record { is = p; ws = ws }
pass ws s at (suc k) p =
    let b = tree_end s at in
    let r = pass_link ws s at b p in
    pass r.ws s (tree_end s b) k r.is
