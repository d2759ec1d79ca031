-- Each part of a flat file that is read is what stands at its place.
use Prim.Native.Nat.{ℕ, zero, suc, ◌+◌, ◌*◌, ◌<◌, ◌≤◌}
use Rattle.std.specs.Prelude.{◌≡◌, Bool, true, false, ◌&&◌, List, [], ◌∷◌, length, get_or, take, drop, eqb}
use Rattle.std.proofs.Math.Path.{refl}
use Rattle.std.proofs.Common.{sym, ap, ◌∙◌, add-one}
use Rattle.std.proofs.Math.Option.{Option, none, some}
use native.Mathlib.Omega.{arith}
use Rattle.std.proofs.Math.Dec.{leb}
use Rattle.net_file.specs.Values.{Rule}
use Rattle.net_file.specs.Read.{Parser, ◌>>=◌, give, such, number, below, times_from, times, many, read_char, read_path, read_name, read_bit, read_list, read_tagged, read_rule, read_node, read_pair, read_flat_net}
use Rattle.net_file.specs.Read
use Rattle.fields.specs.Fields.{byte, be16, be32, be64}
use Rattle.stored.specs.Stored.{table_at, table_end, numbers_at, list_at, list_end, bytes_at, path_at, path_end, name_at, name_end, rule_of, rule_of_end, rule_at, rule_end, node_at, node_end, pair_at, pairs_at, nodes_at, pair_count_at, node_count_at, flat_net_at, flat_net_end}
use Rattle.stored.specs.Laws.{Stands, stands_bind, stands_give, stands_such, stands_never, stands_as, stands_byte, stands_1, stands_2, stands_4, stands_8, stands_times_from, stands_times, table_length, table_steps, stands_below, stands_many, stands_numbers}

module _ (s : List ℕ) where
  pub stands_name : (paths c at : ℕ) → Stands s (read_name paths c) at (name_at s at) (name_end s at)
  unfolding read_name name_at name_end
  stands_name paths c at =
      let e : at + 2 + 8 ≡ at + 10 = omega arith in
      stands_bind _ (stands_below s 2 paths at _ _ (stands_2 s at))
      (stands_bind _ (stands_as (stands_8 s (at + 2)) refl e)
      (stands_bind _ (stands_numbers s 8 c (at + 10)) stands_give))

  pub stands_bit : (at : ℕ) → Stands s read_bit at (eqb (byte s at) 1) (at + 1)
  unfolding read_bit
  stands_bit at = stands_bind _ (stands_below s 1 2 at _ _ (stands_1 s at)) stands_give

  pub stands_list : (paths at : ℕ) → Stands s (read_list paths) at (list_at s at) (list_end s at)
  unfolding read_list
  stands_list paths at = stands_numbers s 255 paths at

  pub stands_char : (at : ℕ) → Stands s read_char at (byte s at) (at + 1)
  unfolding read_char
  stands_char at = stands_bind _ (stands_byte s at) (stands_such (leb 33 (byte s at) && leb (byte s at) 126))

  -- a path before its length is looked at
  pub stands_chars : (at : ℕ) → Stands s (many 1 64 read_char) at (path_at s at) (path_end s at)
  unfolding path_at path_end bytes_at
  stands_chars at =
      stands_as (stands_many s 1 64 read_char (byte s) (λ a. a + 1) at _ _ (stands_1 s at) stands_char) refl (table_steps s 1 (at + 1) (byte s at) ∙ omega arith)

  pub path_length : (at : ℕ) → length (path_at s at) ≡ byte s at
  unfolding path_at bytes_at
  path_length at = table_length s (byte s) (λ a. a + 1) (at + 1) (byte s at)

  pub stands_path : (at : ℕ) → Stands s read_path at (path_at s at) (path_end s at)
  unfolding read_path
  stands_path at = stands_bind _ (stands_chars at) (stands_such (leb 1 (length (path_at s at))))

  -- after its tag
  stands_tagged : (paths tag at : ℕ) → Stands s (read_tagged paths tag) at (rule_of s tag at) (rule_of_end s tag at)
  unfolding read_tagged rule_of rule_of_end
  stands_tagged paths zero at = stands_never (λ bs. refl)
  stands_tagged paths (suc zero) at =
      let e : at + 2 + 1 ≡ at + 3 = omega arith in
      stands_bind _ (stands_below s 2 paths _ _ _ (stands_2 s at)) (stands_bind _ (stands_as (stands_bit (at + 2)) refl e) stands_give)
  stands_tagged paths (suc (suc zero)) at = stands_bind _ (stands_list paths at) stands_give
  stands_tagged paths (suc (suc (suc zero))) at = stands_bind _ (stands_list paths at) (stands_bind _ (stands_list paths _) stands_give)
  stands_tagged paths (suc (suc (suc (suc zero)))) at = stands_bind _ (stands_list paths at) (stands_bind _ (stands_list paths _) stands_give)
  stands_tagged paths (suc (suc (suc (suc (suc zero))))) at =
      stands_bind _ (stands_list paths at) (stands_bind _ (stands_list paths _) (stands_bind _ (stands_list paths _) stands_give))
  stands_tagged paths (suc (suc (suc (suc (suc (suc n)))))) at = stands_never (λ bs. refl)

  pub stands_rule : (paths at : ℕ) → Stands s (read_rule paths) at (rule_at s at) (rule_end s at)
  unfolding read_rule rule_at rule_end
  stands_rule paths at = stands_bind _ (stands_byte s at) (stands_tagged paths (byte s at) (at + 1))

  pub stands_node : (paths names wires at : ℕ) → Stands s (read_node paths names wires) at (node_at s at) (node_end s at)
  unfolding read_node node_at node_end
  stands_node paths names wires at =
      stands_bind _ (stands_name paths names at)
      (stands_bind _ (stands_below s 2 wires _ _ _ (stands_2 s _))
      (stands_bind _ (stands_numbers s 15 wires _) stands_give))

  pub stands_pair : (wires at : ℕ) → Stands s (read_pair wires) at (pair_at s at) (at + 4)
  unfolding read_pair pair_at
  stands_pair wires at =
      let e : at + 2 + 2 ≡ at + 4 = omega arith in
      stands_bind _ (stands_below s 2 wires _ _ _ (stands_2 s _))
      (stands_bind _ (stands_as (stands_below s 2 wires _ _ _ (stands_2 s (at + 2))) refl e) stands_give)

  pub stands_net : (paths names at : ℕ) → Stands s (read_flat_net paths names) at (flat_net_at s at) (flat_net_end s at)
  unfolding read_flat_net flat_net_at flat_net_end pair_count_at node_count_at pairs_at nodes_at
  stands_net paths names at =
      let e : at + 2 + 1 ≡ at + 3 = omega arith in
      let f : at + 3 + 4 ≡ at + 7 = omega arith in
      stands_bind _ (stands_below s 2 names _ _ _ (stands_2 s at))
      (stands_bind _ (stands_as (stands_bit (at + 2)) refl e)
      (stands_bind _ (stands_as (stands_below s 4 65537 _ _ _ (stands_4 s (at + 3))) refl f)
      (stands_bind _ (stands_numbers s 14 _ (at + 7))
      (stands_bind _ (stands_as (stands_many s 2 65535 (read_pair _) (pair_at s) (λ a. a + 4) _ _ _ (stands_2 s _) (stands_pair _)) refl (table_steps s 4 _ _))
      (stands_bind _ (stands_many s 2 4096 (read_node paths names _) (node_at s) (node_end s) _ _ _ (stands_2 s _) (stands_node paths names _)) stands_give)))))
