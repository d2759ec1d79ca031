-- Each part's size, and that its fields, written one right after another, are that part. A premise is what one call or test of the code gives.
use Rattle.std.specs.Prelude.{Option, ℕ, ◌+◌, ◌*◌, ◌-◌, ◌≤◌, Bool, ◌≡◌, refl, List, length}
use Rattle.std.proofs.Common.{arith}
use Rattle.net_file.specs.Lists.{bit}
use Rattle.net_file.specs.Values.{wire}
use Rattle.net_file.specs.Write.{be, counted, write_name, write_node, write_pair, write_head, write_tree}
use Rattle.put.specs.Written.{Written, WrittenIf, Short}
use Rattle.put.specs.Laws.{Size, both, begin, then, written_if}
use Rattle.put.specs.Fields.{size_be, size_counted}
use Rattle.writers.specs.Parts.{name}
use Rattle.writers.specs.Laws.{size_name}
use Rattle.net_writers.specs.Parts.{node, tree_node_head, file_head}

pub size_pair : (a b : ℕ) → Size (write_pair (a, b)) 4
unfolding write_pair
size_pair a b = both (size_be 2 a) (size_be 2 b)

pub pair_parts : (out o w : List ℕ) (at a b space : ℕ) (q r : Option ℕ) → space ≡ length out - at → 4 ≤ space
    → Written (be 2 a) at out o q → Written (be 2 b) (at + 2) o w r → Written (write_pair (a, b)) at out w r
unfolding write_pair
pair_parts out o w at a b space q r e room x y = (then (begin (size_be 2 a) x) (size_be 2 b) refl (omega arith) y).written

pub size_node : (path payload : ℕ) (children : List ℕ) (pri : ℕ) (aux : List ℕ)
    → Size (write_node (node (name path payload children) pri aux)) (14 + 2 * length children + 2 * length aux)
unfolding write_node
size_node path payload children pri aux =
    let s = both (both (size_name path payload children) (size_be 2 pri)) (size_counted aux) in
    record { is = omega arith }

pub node_parts : (out o p w children aux : List ℕ) (at path payload pri space : ℕ) (q q' r : Option ℕ) → Short children → Short aux
    → space ≡ length out - at → 11 + 2 * length children + 3 + 2 * length aux ≤ space
    → WrittenIf (Short children) (write_name (name path payload children)) at out o q → Written (be 2 pri) (at + (11 + 2 * length children)) o p q'
    → WrittenIf (Short aux) (counted 1 (be 2) aux) (at + (11 + 2 * length children) + 2) p w r
    → WrittenIf (Short children × Short aux) (write_node (node (name path payload children) pri aux)) at out w r
unfolding write_node
node_parts out o p w children aux at path payload pri space q q' r short short' e room x y z =
    let xy = then (begin (size_name path payload children) (x.yes short)) (size_be 2 pri) refl (omega arith) y in
    written_if (short, short') (then xy (size_counted aux) (omega arith) (omega arith) (z.yes short')).written

pub size_head : (name : ℕ) (included : Bool) (wires : ℕ) → Size (write_head name included wires) 7
unfolding write_head
size_head name included wires = both (both (size_be 2 name) (size_be 1 (bit included))) (size_be 4 wires)

pub head_parts : (out o p w : List ℕ) (at name wires space : ℕ) (included : Bool) (q q' r : Option ℕ) → space ≡ length out - at → 7 ≤ space
    → Written (be 2 name) at out o q → Written (be 1 (bit included)) (at + 2) o p q' → Written (be 4 wires) (at + 3) p w r → Written (write_head name included wires) at out w r
unfolding write_head
head_parts out o p w at name wires space included q q' r e room x y z =
    let xy = then (begin (size_be 2 name) x) (size_be 1 (bit included)) refl (omega arith) y in
    (then xy (size_be 4 wires) refl (omega arith) z).written

pub size_wire : (v : ℕ) → Size (write_tree (wire v)) 3
unfolding write_tree
size_wire v = both (size_be 1 0) (size_be 2 v)

pub wire_parts : (out o w : List ℕ) (at v space : ℕ) (q r : Option ℕ) → space ≡ length out - at → 3 ≤ space
    → Written (be 1 0) at out o q → Written (be 2 v) (at + 1) o w r → Written (write_tree (wire v)) at out w r
unfolding write_tree
wire_parts out o w at v space q r e room x y = (then (begin (size_be 1 0) x) (size_be 2 v) refl (omega arith) y).written

pub size_tree_node : (path payload : ℕ) (children : List ℕ) (k : ℕ) → Size (tree_node_head (name path payload children) k) (13 + 2 * length children)
unfolding tree_node_head
size_tree_node path payload children k =
    let s = both (both (size_be 1 1) (size_name path payload children)) (size_be 1 k) in
    record { is = omega arith }

pub tree_node_parts : (out o p w children : List ℕ) (at path payload k space : ℕ) (q q' r : Option ℕ) → Short children → space ≡ length out - at
    → 12 + 2 * length children + 1 ≤ space → Written (be 1 1) at out o q → WrittenIf (Short children) (write_name (name path payload children)) (at + 1) o p q'
    → Written (be 1 k) (at + (12 + 2 * length children)) p w r → WrittenIf (Short children) (tree_node_head (name path payload children) k) at out w r
unfolding tree_node_head
tree_node_parts out o p w children at path payload k space q q' r short e room x y z =
    let xy = then (begin (size_be 1 1) x) (size_name path payload children) refl (omega arith) (y.yes short) in
    written_if short (then xy (size_be 1 k) (omega arith) (omega arith) z).written

pub size_file : (bytes version limit : ℕ) → Size (file_head bytes version limit) 9
unfolding file_head
size_file bytes version limit = both (both (size_be 4 bytes) (size_be 1 version)) (size_be 4 limit)

pub file_parts : (out o p w : List ℕ) (bytes version limit : ℕ) (q q' r : Option ℕ) → 9 ≤ length out
    → Written (be 4 bytes) 0 out o q → Written (be 1 version) 4 o p q' → Written (be 4 limit) 5 p w r → Written (file_head bytes version limit) 0 out w r
unfolding file_head
file_parts out o p w bytes version limit q q' r room x y z =
    let xy = then (begin (size_be 4 bytes) x) (size_be 1 version) refl (omega arith) y in
    (then xy (size_be 4 limit) refl (omega arith) z).written
