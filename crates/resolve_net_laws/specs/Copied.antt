-- A tree that lies at a place is copied as it stands: `copy_is`; and kept links, one after another: `copies`.
use Prim.Native.Nat.{ℕ, zero, suc, ◌+◌, ◌-◌, ◌%◌, ◌<◌, ◌≤◌}
use Rattle.std.specs.Prelude.{◌≡◌, take, drop}
use Rattle.std.proofs.Math.Path.{refl, sym, ap}
use Rattle.std.proofs.Common.{◌∙◌, length-append, take-add, drop-drop}
use mathlib.Core.List.{List, [], ◌∷◌, ◌++◌, append_assoc}
use native.Mathlib.Omega.{arith}
use Rattle.std.proofs.Math.ListN.{length}
use Rattle.words.specs.Choose.{lt_no}
use Rattle.net_file.specs.Lists.{concat_map}
use Rattle.net_file.specs.Values.{Name, Tree, wire, node, Trees, more, listed}
use Rattle.net_file.specs.Values
use Rattle.net_file.specs.Write.{be, write_name, write_tree, write_trees, write_link}
use Rattle.stored_tree.specs.Tree.{child_count_at}
use Rattle.put.specs.Written.{part}
use Rattle.store.specs.Store.{store, between, store_none}
use Rattle.wire_tables.specs.Tables.{kept_left, kept_right}
use Rattle.resolve_pass.specs.Pass.{next}
use Rattle.resolve_walk.specs.Penned.{Inked}
use Rattle.resolve_walk.specs.Walk.{on, span}
use Rattle.resolve_net.specs.Plain.{copy_tree, copy_link, copy_links}
use Rattle.spelt_trees.specs.Lies.{Lies, LieAll}
use Rattle.spelt_trees.specs.Scanned.{wire_long}
use Rattle.resolve_walk_laws.specs.Places.{most, on_most, on_none, on_fits, on_on, store_append, store_length}
use Rattle.resolve_walk_laws.specs.Trees.{head_of, wire_bytes, node_bytes}
use Rattle.resolve_pass_laws.specs.Room.{lies_room, end_is}
use Rattle.resolve_pass_laws.specs.Keeping.{KeptAt, KeptFrom}

-- these bytes stand from a place of s on
abbrev pub Holds : List ℕ → ℕ → List ℕ → Type 0
Holds s at bs = take (length bs) (drop at s) ≡ bs

pub holds_then : (s : List ℕ) (at : ℕ) (xs ys : List ℕ) → Holds s at xs → Holds s (at + length xs) ys → Holds s at (xs ++ ys)
holds_then s at xs ys a b =
    rw (length-append xs ys, take-add (length xs) (length ys) (drop at s), drop-drop (length xs) at s, a, b)

-- the bytes between two places
pub between_is : (s : List ℕ) (at : ℕ) (bs : List ℕ) → at + length bs ≤ length s → Holds s at bs → between s at (at + length bs) ≡ bs
unfolding between part
between_is s at bs r h =
    let e : at + length bs - at ≡ length bs = omega arith in
    sym (lt_no (length s) (at + length bs) _ _ r refl) ∙ rw e h

-- what was written by parts without a table
pub record Put (out : List ℕ) (to : ℕ) (bs : List ℕ) (x : Inked ℕ) : Type 0 where
  pub is : x.is ≡ on to (length bs)
  pub stored : to + length bs ≤ length out → length out ≤ most → x.out ≡ store to bs out

pub put_then : (out : List ℕ) (to : ℕ) (xs ys : List ℕ) (x y : Inked ℕ) → to ≤ most → Put out to xs x → Put x.out x.is ys y → Put out to (xs ++ ys) y
put_then out to xs ys x y low a b =
    let l = length-append xs ys in
    record {
      is = b.is ∙ rw a.is (on_on to low (length xs) (length ys) ∙ ap (on to) (sym l));
      stored = λ room small.
          let i : to + (length xs + length ys) ≤ length out = omega arith in
          let ea : x.out ≡ store to xs out = a.stored (omega arith) small in
          let la : length x.out ≡ length out = rw ea (store_length out to xs (omega arith)) in
          let p : x.is ≡ to + length xs = a.is ∙ on_fits to low (length xs) (length out) (omega arith) small in
          let eb : y.out ≡ store x.is ys x.out = b.stored (omega arith) (omega arith) in
          eb ∙ rw (p, ea) (store_append out to xs ys i);
    }

module _ (s : List ℕ) (n : ℕ) where
  mutual
    unfolding Lies write_tree

    pub lies_bytes : (t : Tree) (at : ℕ) → Lies s n t at → Holds s at (write_tree t)
    lies_bytes (wire w) at k = rw (wire_long w) k.bytes
    lies_bytes (node m ts) at k =
        let e = k.0.end in
        let d : child_count_at s at + 1 - at ≡ length (head_of m (length (listed ts))) = omega arith in
        let a : Holds s at (head_of m (length (listed ts))) = rw d at k.0.bytes in
        rw (← node_bytes m ts) (holds_then s at (head_of m (length (listed ts))) (write_trees ts) a (rw e at (all_bytes ts (child_count_at s at + 1) k.1)))

    pub all_bytes : (ts : Trees) (at : ℕ) → LieAll s n ts at → Holds s at (write_trees ts)
    all_bytes Values.none at k = refl
    all_bytes (more t ts) at k = holds_then s at (write_tree t) (write_trees ts) (lies_bytes t at k.0) (all_bytes ts (at + length (write_tree t)) k.1)

  pub copy_is : (t : Tree) (at : ℕ) → Lies s n t at → (out : List ℕ) (to : ℕ) → Put out to (write_tree t) (copy_tree s out at to)
  unfolding copy_tree span
  copy_is t at k out to =
      let d : at + length (write_tree t) - at ≡ length (write_tree t) = omega arith in
      rw (end_is s n t at k, d, between_is s at (write_tree t) (lies_room s n t at k) (lies_bytes t at k)) (record { is = refl; stored = λ room small. refl })

  -- ---- kept links

  module _ (few : n ≤ 65536) (ws : List ℕ) where
    link_copied : (l : Tree × Tree) (i : ℕ) → KeptAt s n few ws i l → (out : List ℕ) (to : ℕ) → to ≤ most → Put out to (write_link l) (copy_link s ws out i to)
    unfolding copy_link write_link
    link_copied l i k out to low =
        put_then out to (write_tree l.0) (write_tree l.1) (copy_tree s out (kept_left ws i) to) _ low (copy_is l.0 (kept_left ws i) k.left out to)
        (copy_is l.1 (kept_right ws i) k.right _ _)

    copy_step : (k i : ℕ) (out : List ℕ) (to : ℕ) → i < 65535
        → copy_links s ws (suc k) out i to ≡ copy_links s ws k (copy_link s ws out i to).out (suc i) (copy_link s ws out i to).is
    unfolding copy_links next
    copy_step k i out to l =
        let e : (i + 1) % 4294967296 ≡ suc i = omega arith in
        ap (λ j. copy_links s ws k (copy_link s ws out i to).out j (copy_link s ws out i to).is) e

    copy_end : (i : ℕ) (out : List ℕ) (to : ℕ) → copy_links s ws 0 out i to ≡ record { is = to; out = out }
    unfolding copy_links
    copy_end i out to = refl

    pub copies : (ls : List (Tree × Tree)) (i : ℕ) → KeptFrom s n few ws i ls → i + length ls ≤ 65535 → (out : List ℕ) (to : ℕ) → to ≤ most
        → Put out to (concat_map write_link ls) (copy_links s ws (length ls) out i to)
    unfolding KeptFrom
    copies [] i k l out to low = rw (copy_end i out to) (record { is = sym (on_none to low); stored = λ room small. store_none to out })
    copies (p ∷ ls) i k l out to low =
        let x = copy_link s ws out i to in
        let a = link_copied p i k.0 out to low in
        let lx : x.is ≤ most = rw a.is (on_most to low (length (write_link p))) in
        rw (copy_step (length ls) i out to (omega arith)) (put_then out to (write_link p) (concat_map write_link ls) x _ low a (copies ls (suc i) k.1 (omega arith) x.out x.is lx))
