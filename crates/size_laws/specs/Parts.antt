-- How many bytes the parts of a file take.
use Rattle.std.specs.Prelude.{ℕ, zero, suc, ◌+◌, ◌*◌, ◌≤◌, ◌≡◌, refl, Bool, List, [], ◌∷◌, ◌++◌, length}
use Rattle.std.proofs.Common.{arith, mul-suc, sym, ap, ◌∙◌}
use Rattle.std.proofs.Math.Nat.{mul-le-mul_left}
use Rattle.std.proofs.Math.ListN.{length-append}
use Rattle.net_file.specs.Lists.{concat_map, bit}
use Rattle.net_file.specs.Values.{Name, Rule, graft, annihilate, erase, commute, eta, FlatNode, FlatNet}
use Rattle.net_file.specs.Write.{be, counted, write_path, write_name, write_list, write_rule, write_node, write_pair, write_head, write_flat_net}
use Rattle.net_file_laws.specs.Exact.{Each, EachFrom}
use Rattle.net_file_laws.specs.Parts.{PathFits, NameFits}
use Rattle.net_file_laws.specs.Rules.{ListFits, RuleFits}
use Rattle.net_file_laws.specs.Flat.{PairFits, NodeFits, FlatNetFits}

pub be_length : (k n : ℕ) → length (be k n) ≡ k
unfolding be
be_length zero n = refl
be_length (suc k) n = ap suc (be_length k n)

module _ {A : Type 0} (w : A → List ℕ) (F : A → Type 0) (k : ℕ) (most : (x : A) → F x → length (w x) ≤ k) where
  -- elements of at most k bytes
  pub concat_size : (xs : List A) → Each F xs → length (concat_map w xs) ≤ k * length xs
  concat_size [] h = omega arith
  concat_size (x ∷ xs) h = omega (arith, length-append (w x) (concat_map w xs), most x h.0, concat_size xs h.1, mul-suc k (length xs))

  -- with a count of j bytes, at most n of them
  pub counted_size : (j n : ℕ) (xs : List A) → length xs ≤ n → Each F xs → length (counted j w xs) ≤ j + k * n
  unfolding counted
  counted_size j n xs l h =
      omega (arith, length-append (be j (length xs)) (concat_map w xs), be_length j (length xs), concat_size xs h, mul-le-mul_left k l)

-- numbers of k bytes
pub numbers_size : (k j n : ℕ) (xs : List ℕ) → length xs ≤ n → length (counted j (be k) xs) ≤ j + k * n
numbers_size k j n xs l = counted_size (be k) (λ x. Unit {0}) k (λ x h. omega (arith, be_length k x)) j n xs l (any_each xs)
  where
    any_each : (ys : List ℕ) → Each (λ x. Unit {0}) ys
    any_each [] = tt
    any_each (y ∷ ys) = (tt, any_each ys)

pub path_size : (p : List ℕ) → PathFits p → length (write_path p) ≤ 65
unfolding write_path
path_size p h = omega (arith, numbers_size 1 1 64 p h.few)

-- two parts
pub both_size : (a b : List ℕ) (k l : ℕ) → length a ≤ k → length b ≤ l → length (a ++ b) ≤ k + l
both_size a b k l h g = omega (arith, length-append a b)

pub number_size : (k n : ℕ) → length (be k n) ≤ k
number_size k n = omega (arith, be_length k n)

-- three
pub three_size : (a b c : List ℕ) (k l m : ℕ) → length a ≤ k → length b ≤ l → length c ≤ m → length (a ++ b ++ c) ≤ k + l + m
three_size a b c k l m h g f = both_size (a ++ b) c (k + l) m (both_size a b k l h g) f

pub name_size : (paths c : ℕ) (m : Name) → NameFits paths c m → length (write_name m) ≤ 27
unfolding write_name
name_size paths c m h =
    three_size (be 2 m.path) (be 8 m.payload) (counted 1 (be 2) m.children) 2 8 17
    (number_size 2 m.path) (number_size 8 m.payload) (numbers_size 2 1 8 m.children h.few)

pub list_size : (paths : ℕ) (ps : List ℕ) → ListFits paths ps → length (write_list ps) ≤ 511
unfolding write_list
list_size paths ps h = omega (arith, numbers_size 2 1 255 ps h.few)

-- a smaller bound is one
pub within : (k n : ℕ) (a : List ℕ) → k ≤ n → length a ≤ k → length a ≤ n
within k n a l h = omega arith

pub two_lists : (paths tag : ℕ) (xs ys : List ℕ) → ListFits paths xs → ListFits paths ys → length (be 1 tag ++ write_list xs ++ write_list ys) ≤ 1023
two_lists paths tag xs ys h g =
    three_size (be 1 tag) (write_list xs) (write_list ys) 1 511 511 (number_size 1 tag) (list_size paths xs h) (list_size paths ys g)

pub rule_size : (paths : ℕ) (r : Rule) → RuleFits paths r → length (write_rule r) ≤ 1534
unfolding write_rule
rule_size paths (graft p lazy) h =
    within 4 1534 (write_rule (graft p lazy)) (omega arith)
    (three_size (be 1 1) (be 2 p) (be 1 (bit lazy)) 1 2 1 (number_size 1 1) (number_size 2 p) (number_size 1 (bit lazy)))
rule_size paths (annihilate ps) h =
    within 512 1534 (write_rule (annihilate ps)) (omega arith) (both_size (be 1 2) (write_list ps) 1 511 (number_size 1 2) (list_size paths ps h))
rule_size paths (erase es ns) h = within 1023 1534 (write_rule (erase es ns)) (omega arith) (two_lists paths 3 es ns h.0 h.1)
rule_size paths (commute xs ys) h = within 1023 1534 (write_rule (commute xs ys)) (omega arith) (two_lists paths 4 xs ys h.0 h.1)
rule_size paths (eta cs vs ns) h =
    both_size (be 1 5 ++ write_list cs ++ write_list vs) (write_list ns) 1023 511 (two_lists paths 5 cs vs h.0 h.1) (list_size paths ns h.2)

pub head_size : (name : ℕ) (b : Bool) (wires : ℕ) → length (write_head name b wires) ≤ 7
unfolding write_head
head_size name b wires =
    three_size (be 2 name) (be 1 (bit b)) (be 4 wires) 2 1 4 (number_size 2 name) (number_size 1 (bit b)) (number_size 4 wires)

pub pair_size : (p : ℕ × ℕ) → length (write_pair p) ≤ 4
unfolding write_pair
pair_size p = both_size (be 2 p.0) (be 2 p.1) 2 2 (number_size 2 p.0) (number_size 2 p.1)
