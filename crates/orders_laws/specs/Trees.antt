-- The answer of `names_ascend` on tree nets that are read: check 6 on their names.
use Prim.Native.Nat.{ℕ, zero, suc, ◌+◌, ◌≤◌}
use Rattle.std.specs.Prelude.{◌≡◌, Bool, true, false, ◌&&◌, List, ◌∷◌, map, length, drop, leb}
use Rattle.std.proofs.Math.Path.{refl}
use Rattle.std.proofs.Common.{◌∙◌}
use Rattle.std.proofs.Math.Option.{some}
use Rattle.words.specs.Choose.{pick_and}
use Rattle.net_file.specs.Lists.{ascend}
use Rattle.net_file.specs.Values.{TreeNet}
use Rattle.net_file.specs.Read.{◌>>=◌, give, times, read_tree_net}
use Rattle.fields.specs.Fields.{be16}
use Rattle.stored.specs.Stored.{table_at}
use Rattle.stored.specs.Laws.{bound, stands_times}
use Rattle.stored_tree.specs.Tree.{tree_net_at, tree_net_end}
use Rattle.stored_tree.specs.Parts.{stands_tree_net}
use Rattle.walk.specs.Loops.{times_suc}
use Rattle.stored.specs.Pass.{pass}
use Rattle.scan_tree_laws.specs.Net.{net_end_lem}
use Rattle.orders.specs.Orders.{name_fits}
use Rattle.orders_tree.specs.Names.{names_from}
use Rattle.orders_laws.specs.Ascend.{ascend_from, ascends}

module _ (s : List ℕ) (paths names : ℕ) where
  stored_ascend : (n at last : ℕ) (ns : List TreeNet) (r : List ℕ) → at ≤ length s → times n (read_tree_net paths names) (drop at s) ≡ some (ns, r)
      → names_from last s at n ≡ ascend_from last (map (λ x. x.name) (table_at (tree_net_at s) (tree_net_end s) at n))
  unfolding names_from name_fits table_at ascend_from tree_net_at
  stored_ascend zero at last ns r i h = refl
  stored_ascend (suc n) at last ns r i h =
      let a_net = read_tree_net paths names in
      let g : (a_net >>= λ x. times n a_net >>= λ xs. give (x ∷ xs)) (drop at s) ≡ some (ns, r) = rw times_suc at h in
      let b = pass (λ x. times n a_net >>= λ xs. give (x ∷ xs)) ns r (stands_tree_net s paths names at) i g in
      let c = bound (times n a_net) (λ xs. give (tree_net_at s at ∷ xs)) (drop (tree_net_end s at) s) ns r b.next in
      rw (net_end_lem s paths names at (tree_net_at s at) _ i b.first, stored_ascend n (tree_net_end s at) (be16 s at + 1) c.value c.rest b.inside c.first)
      (pick_and (leb last (be16 s at)) (ascend_from (be16 s at + 1) (map (λ x. x.name) (table_at (tree_net_at s) (tree_net_end s) (tree_net_end s at) n))))

  pub names_ascend : (n at : ℕ) (ns : List TreeNet) (r : List ℕ) → times n (read_tree_net paths names) (drop at s) ≡ some (ns, r) → at ≤ length s
      → names_from 0 s at n ≡ ascend (map (λ x. x.name) ns)
  names_ascend n at ns r h i =
      stored_ascend n at 0 ns r i h
      ∙ rw ((stands_times s (read_tree_net paths names) (tree_net_at s) (tree_net_end s) (stands_tree_net s paths names) n at).by ns r i h).0 (ascends _)
