-- How many bytes the nodes of a tree take: the same whatever their wires are.
use Rattle.std.specs.Prelude.{ℕ, suc, ◌+◌, ◌*◌, ◌≡◌, refl, List, [], ◌∷◌, ◌++◌, length}
use Rattle.std.proofs.Common.{sym, ap, ◌∙◌, append_assoc, length-append}
use Rattle.std.proofs.Math.Option.{Option, none}
use native.Mathlib.Omega.{arith}
use Rattle.net_file.specs.Lists.{concat_map}
use Rattle.net_file.specs.Values.{FlatNode, Tree, wire, node, Trees, more, listed, trees}
use Rattle.net_file.specs.Values
use Rattle.net_file.specs.Write.{write_name, write_node}
use Rattle.net_file.specs.Checks.{nodes_of}
use Rattle.net_file_laws.specs.Bytes.{length_be}
use Rattle.net_file_laws.specs.Trees.{listed_trees}
use Rattle.put.specs.Fields.{size_counted}
use Rattle.stored.specs.Stored.{table_at, name_at, list_at}
use Rattle.stored.specs.Laws.{table_length}
use Rattle.stored_tree.specs.Tree.{child_count_at, children}
use Rattle.stored.specs.Stored
use Rattle.readers_laws.specs.Tables.{list_length}
use Rattle.embed.specs.Embed.{name_size, kids}
use Rattle.embed_laws.specs.Numbers.{given, after, tops, flats, flats_all}

unfoldable mutual
  pub size_of : Tree → ℕ
  size_of (wire w) = 0
  size_of (node m ts) = length (write_name m) + (3 + 2 * length (listed ts)) + size_all ts

  pub size_all : Trees → ℕ
  size_all Values.none = 0
  size_all (more t ts) = size_of t + size_all ts

-- the bytes of the nodes of a tree, and of trees
unfoldable pub bytes_of : Option ℕ → Tree → ℕ → List ℕ
bytes_of up t n = concat_map write_node (flats up t n)

unfoldable pub bytes_all : Trees → ℕ → List ℕ
bytes_all ts n = concat_map write_node (flats_all ts n)

pub nodes_append : (xs ys : List FlatNode) → concat_map write_node (xs ++ ys) ≡ concat_map write_node xs ++ concat_map write_node ys
nodes_append [] ys = refl
nodes_append (x ∷ xs) ys = rw (nodes_append xs ys) (sym (append_assoc (write_node x) (concat_map write_node xs) (concat_map write_node ys)))

pub tops_long : (ts : Trees) (n : ℕ) → length (tops ts n) ≡ length (listed ts)
unfolding tops
tops_long Values.none n = refl
tops_long (more t ts) n = ap suc (tops_long ts (n + nodes_of t))

node_long : (x : FlatNode) → length (write_node x) ≡ length (write_name x.name) + (3 + 2 * length x.aux)
unfolding write_node
node_long x = let e = (size_counted x.aux).is in simp (length-append, length_be) (omega arith)

mutual
  unfolding size_of size_all bytes_of bytes_all flats flats_all

  pub bytes_size : (up : Option ℕ) (t : Tree) (n : ℕ) → length (bytes_of up t n) ≡ size_of t
  bytes_size up (wire w) n = refl
  bytes_size up (node m ts) n =
      let x : FlatNode = record { name = m; pri = given up n; aux = tops ts (after up n) } in
      let e = node_long x in
      let k = tops_long ts (after up n) in
      let r = all_size ts (after up n) in
      length-append (write_node x) (bytes_all ts (after up n)) ∙ omega arith

  pub all_size : (ts : Trees) (n : ℕ) → length (bytes_all ts n) ≡ size_all ts
  all_size Values.none n = refl
  all_size (more t ts) n =
      let e = bytes_size none t n in
      let r = all_size ts (n + nodes_of t) in
      rw (nodes_append (flats none t n) (flats_all ts (n + nodes_of t)), length-append) (omega arith)

-- ---- a node where it stands

module _ (s : List ℕ) (at : ℕ) where
  pub count_place : child_count_at s at ≡ at + (name_size s at + 1)
  unfolding child_count_at name_size Stored.name_end Stored.list_end
  count_place = let e : at + 1 + 10 ≡ at + 11 = omega arith in rw e (omega arith)

  pub kids_children : kids s at ≡ children s at
  unfolding kids children
  kids_children = rw count_place

  pub name_long : length (write_name (name_at s (at + 1))) ≡ name_size s at
  unfolding write_name name_at name_size
  name_long =
      let e : at + 1 + 10 ≡ at + 11 = omega arith in
      let k = list_length s (at + 11) in
      let c = (size_counted (list_at s (at + 11))).is in
      rw e (simp (length-append, length_be) (omega arith))

  -- of trees that stand one after another, how many there are
  pub kids_long : (one : ℕ → Tree) (end : ℕ → ℕ) (k : ℕ) → length (listed (trees (table_at one end at k))) ≡ k
  kids_long one end k = rw (listed_trees (table_at one end at k)) (table_length s one end at k)
