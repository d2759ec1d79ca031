-- A tree lies at a place of a file: what a walk by offsets meets there, node by node. A tree that fits and is spelt there lies there
-- (`spelt-lies`).
use Rattle.std.specs.Prelude.{ℕ, suc, ◌+◌, ◌-◌, ◌<◌, ◌≤◌, ◌≡◌, refl, List, [], ◌∷◌, ◌++◌, take, drop}
use Rattle.std.proofs.Math.Path.{sym}
use Rattle.std.proofs.Common.{ap, ◌∙◌, append_assoc, arith, take_at}
use Rattle.std.proofs.Math.ListN.{length, length-append}
use Rattle.net_file.specs.Values.{Name, Tree, wire, node, Trees, more, listed}
use Rattle.net_file.specs.Values
use Rattle.net_file.specs.Write.{be, write_name, write_tree, write_trees}
use Rattle.net_file_laws.specs.Bytes.{length_be}
use Rattle.net_file_laws.specs.Exact.{exact_number}
use Rattle.net_file_laws.specs.Parts.{NameFits, exact_name}
use Rattle.net_file_laws.specs.Depth.{InRange, InRanges}
use Rattle.fields.specs.Fields.{byte, be16}
use Rattle.stored.specs.Stored.{name_end}
use Rattle.stored.specs.Laws.{stands_1, stands_2}
use Rattle.stored.specs.Parts.{stands_name}
use Rattle.stored_tree.specs.Tree.{child_count_at, children}
use Rattle.spelt_trees.specs.Spelt.{Spelt, spelt_room, spelt_next, spelt_is, spelt_end}

module _ (s : List ℕ) (n : ℕ) where
  -- a wire below n
  pub record WireLies (w at : ℕ) : Type 0 where
    pub tag : byte s at ≡ 0
    pub is : w ≡ be16 s (at + 1)
    pub below : w < n
    pub room : at + 3 ≤ length s
    pub bytes : take 3 (drop at s) ≡ be 1 0 ++ be 2 w

  -- a node's own bytes: its tag, its name, the number k of its children
  pub record HeadLies (m : Name) (k at : ℕ) : Type 0 where
    pub tag : byte s at ≡ 0 → ⊥
    pub count : children s at ≡ k
    pub end : child_count_at s at + 1 ≡ at + length (be 1 1 ++ write_name m ++ be 1 k)
    pub bytes : take (child_count_at s at + 1 - at) (drop at s) ≡ be 1 1 ++ write_name m ++ be 1 k
    pub room : child_count_at s at + 1 ≤ length s

  unfoldable mutual
    pub Lies : Tree → ℕ → Type 0
    Lies (wire w) at = WireLies w at
    Lies (node m ts) at = HeadLies m (length (listed ts)) at × LieAll ts (child_count_at s at + 1)

    -- one behind the other
    pub LieAll : Trees → ℕ → Type 0
    LieAll Values.none at = Unit {0}
    LieAll (more t ts) at = Lies t at × LieAll ts (at + length (write_tree t))

module _ (s : List ℕ) (paths names n : ℕ) (hp : paths ≤ 65536) (hn : names ≤ 65536) (hw : n ≤ 65536) where
  spelt_wire : (w at : ℕ) (r : List ℕ) → w < n → Spelt s at (be 1 0) (be 2 w ++ r) → WireLies s n w at
  spelt_wire w at r l h =
      let t = spelt_is (exact_number 1) (stands_1 s at) 0 (be 2 w ++ r) (omega arith) h in
      let k : at + length (be 1 0) ≡ at + 1 = rw (length_be 1 0) in
      let g : Spelt s (at + 1) (be 2 w) r = rw k at (spelt_next s at (be 1 0) (be 2 w) r h) in
      record {
        tag = sym t;
        is = spelt_is (exact_number 2) (stands_2 s (at + 1)) w r (omega arith) g;
        below = l;
        room = omega (arith, spelt_room s (at + 1) (be 2 w) r g, length_be 2 w);
        bytes = rw (h.bytes, ← append_assoc (be 1 0) (be 2 w) r) (take_at (be 1 0 ++ be 2 w) r 3 (rw (length-append, length_be 1 0, length_be 2 w)));
      }

  spelt_head : (m : Name) (k at : ℕ) (r : List ℕ) → NameFits paths names m → k ≤ 15 → Spelt s at (be 1 1) (write_name m ++ (be 1 k ++ r)) → HeadLies s n m k at
  unfolding child_count_at children
  spelt_head m k at r f l h =
      let t = spelt_is (exact_number 1) (stands_1 s at) 1 (write_name m ++ (be 1 k ++ r)) (omega arith) h in
      let j : at + length (be 1 1) ≡ at + 1 = rw (length_be 1 1) in
      let g : Spelt s (at + 1) (write_name m) (be 1 k ++ r) = rw j at (spelt_next s at (be 1 1) (write_name m) (be 1 k ++ r) h) in
      let e = spelt_end (exact_name paths names hp hn) (stands_name s paths names (at + 1)) m (be 1 k ++ r) f g in
      let c : Spelt s (name_end s (at + 1)) (be 1 k) r = rw (← e) at (spelt_next s (at + 1) (write_name m) (be 1 k) r g) in
      let q = spelt_is (exact_number 1) (stands_1 s (name_end s (at + 1))) k r (omega arith) c in
      let whole = be 1 1 ++ write_name m ++ be 1 k in
      let long : length whole ≡ 1 + length (write_name m) + 1 = rw (length-append, length-append, length_be 1 1, length_be 1 k) (omega arith) in
      let a : whole ++ r ≡ be 1 1 ++ (write_name m ++ (be 1 k ++ r)) = rw (append_assoc, append_assoc) in
      record {
        tag = λ z. absurd (omega arith);
        count = sym q;
        end = omega arith;
        bytes = rw (h.bytes, ← a) (take_at whole r (name_end s (at + 1) + 1 - at) (omega arith));
        room = omega (arith, spelt_room s (name_end s (at + 1)) (be 1 k) r c, length_be 1 k);
      }

  mutual
    unfolding write_tree Lies InRange

    pub spelt_lies : (t : Tree) (at : ℕ) (r : List ℕ) → InRange paths names n t → Spelt s at (write_tree t) r → Lies s n t at
    spelt_lies (wire w) at r f h = spelt_wire w at r f (record { inside = h.inside; bytes = h.bytes ∙ append_assoc (be 1 0) (be 2 w) r })
    spelt_lies (node m ts) at r f h =
        let k = length (listed ts) in
        let whole = be 1 1 ++ write_name m ++ be 1 k in
        let a : (be 1 1 ++ write_name m ++ be 1 k ++ write_trees ts) ++ r ≡ be 1 1 ++ (write_name m ++ (be 1 k ++ (write_trees ts ++ r))) = rw (append_assoc, append_assoc, append_assoc) in
        let b : be 1 1 ++ (write_name m ++ (be 1 k ++ (write_trees ts ++ r))) ≡ whole ++ (write_trees ts ++ r) = rw (append_assoc, append_assoc) in
        let d = spelt_head m k at (write_trees ts ++ r) f.0 f.1 (record { inside = h.inside; bytes = h.bytes ∙ a }) in
        let g : Spelt s (at + length whole) (write_trees ts) r = spelt_next s at whole (write_trees ts) r (record { inside = h.inside; bytes = h.bytes ∙ a ∙ b }) in
        (d, spelt_lie_all ts (child_count_at s at + 1) r f.2 (rw (← d.end) at g))

    pub spelt_lie_all : (ts : Trees) (at : ℕ) (r : List ℕ) → InRanges paths names n ts → Spelt s at (write_trees ts) r → LieAll s n ts at
    spelt_lie_all Values.none at r f h = tt
    spelt_lie_all (more t ts) at r f h =
        let g : Spelt s at (write_tree t) (write_trees ts ++ r) = record { inside = h.inside; bytes = h.bytes ∙ append_assoc (write_tree t) (write_trees ts) r } in
        (spelt_lies t at (write_trees ts ++ r) f.0 g, spelt_lie_all ts (at + length (write_tree t)) r f.1 (spelt_next s at (write_tree t) (write_trees ts) r g))
