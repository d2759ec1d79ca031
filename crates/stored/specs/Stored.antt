-- What stands at a place of a net file, and the place after it, by offsets alone: nothing is checked here.
-- On a file that is read, these are the parts of what was read (`Laws`, `Parts`).
use Rattle.std.specs.Prelude.{ℕ, zero, suc, ◌+◌, ◌*◌, Bool, List, [], ◌∷◌, eqb}
use Rattle.net_file.specs.Values.{Name, Rule, graft, annihilate, erase, commute, eta, FlatNode, FlatNet, Tree, wire, node, trees, TreeNet, File}
use Rattle.fields.specs.Fields.{byte, be16, be32, be64}

-- n things, each where the last ended
unfoldable pub table_at : {A : Type 0} → (ℕ → A) → (ℕ → ℕ) → ℕ → ℕ → List A
table_at one end at zero = []
table_at one end at (suc n) = one at ∷ table_at one end (end at) n

unfoldable pub table_end : (ℕ → ℕ) → ℕ → ℕ → ℕ
table_end end at zero = at
table_end end at (suc n) = table_end end (end at) n

module _ (s : List ℕ) where
  -- k numbers of two bytes
  unfoldable pub numbers_at : ℕ → ℕ → List ℕ
  numbers_at at k = table_at (be16 s) (λ a. a + 2) at k

  -- a count of one byte, then as many numbers
  unfoldable pub list_at : ℕ → List ℕ
  list_at at = numbers_at (at + 1) (byte s at)

  unfoldable pub list_end : ℕ → ℕ
  list_end at = at + 1 + 2 * byte s at

  -- n bytes
  unfoldable pub bytes_at : ℕ → ℕ → List ℕ
  bytes_at at n = table_at (byte s) (λ a. a + 1) at n

  unfoldable pub path_at : ℕ → List ℕ
  path_at at = bytes_at (at + 1) (byte s at)

  unfoldable pub path_end : ℕ → ℕ
  path_end at = at + 1 + byte s at

  unfoldable pub name_at : ℕ → Name
  name_at at = record { path = be16 s at; payload = be64 s (at + 2); children = list_at (at + 10) }

  unfoldable pub name_end : ℕ → ℕ
  name_end at = list_end (at + 10)

  -- a rule's tag, then its lists
  unfoldable pub rule_of : ℕ → ℕ → Rule
  rule_of zero at = annihilate []
  rule_of (suc zero) at = graft (be16 s at) (eqb (byte s (at + 2)) 1)
  rule_of (suc (suc zero)) at = annihilate (list_at at)
  rule_of (suc (suc (suc zero))) at = erase (list_at at) (list_at (list_end at))
  rule_of (suc (suc (suc (suc zero)))) at = commute (list_at at) (list_at (list_end at))
  rule_of (suc (suc (suc (suc (suc n))))) at = eta (list_at at) (list_at (list_end at)) (list_at (list_end (list_end at)))

  unfoldable pub rule_of_end : ℕ → ℕ → ℕ
  rule_of_end zero at = at
  rule_of_end (suc zero) at = at + 3
  rule_of_end (suc (suc zero)) at = list_end at
  rule_of_end (suc (suc (suc zero))) at = list_end (list_end at)
  rule_of_end (suc (suc (suc (suc zero)))) at = list_end (list_end at)
  rule_of_end (suc (suc (suc (suc (suc n))))) at = list_end (list_end (list_end at))

  unfoldable pub rule_at : ℕ → Rule
  rule_at at = rule_of (byte s at) (at + 1)

  unfoldable pub rule_end : ℕ → ℕ
  rule_end at = rule_of_end (byte s at) (at + 1)

  unfoldable pub node_at : ℕ → FlatNode
  node_at at = let e = name_end at in record { name = name_at at; pri = be16 s e; aux = list_at (e + 2) }

  unfoldable pub node_end : ℕ → ℕ
  node_end at = list_end (name_end at + 2)

  unfoldable pub pair_at : ℕ → ℕ × ℕ
  pair_at at = (be16 s at, be16 s (at + 2))

  unfoldable pub pairs_at : ℕ → ℕ → List (ℕ × ℕ)
  pairs_at at n = table_at pair_at (λ a. a + 4) at n

  unfoldable pub nodes_at : ℕ → ℕ → List FlatNode
  nodes_at at n = table_at node_at node_end at n

  -- the place of a flat net's pair count, and of its node count
  unfoldable pub pair_count_at : ℕ → ℕ
  pair_count_at at = list_end (at + 7)

  unfoldable pub node_count_at : ℕ → ℕ
  node_count_at at = let p = pair_count_at at in p + 2 + 4 * be16 s p

  unfoldable pub flat_net_at : ℕ → FlatNet
  flat_net_at at =
      let p = pair_count_at at in
      let q = node_count_at at in
      record {
        name = be16 s at;
        included = eqb (byte s (at + 2)) 1;
        wires = be32 s (at + 3);
        free = list_at (at + 7);
        pairs = pairs_at (p + 2) (be16 s p);
        nodes = nodes_at (q + 2) (be16 s q);
      }

  unfoldable pub flat_net_end : ℕ → ℕ
  flat_net_end at = let q = node_count_at at in table_end node_end (q + 2) (be16 s q)

  -- the place of the name count, of the rule count and of the net count, after np paths, nm names and nr rules
  unfoldable pub name_count_at : ℕ
  name_count_at = table_end path_end 11 (be16 s 9)

  unfoldable pub rule_count_at : ℕ
  rule_count_at = let m = name_count_at in table_end name_end (m + 2) (be16 s m)

  unfoldable pub net_count_at : ℕ
  net_count_at = let r = rule_count_at in table_end rule_end (r + 2) (be16 s r)
