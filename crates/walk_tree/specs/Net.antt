-- The walk over a net of trees: a link is walked over as two trees (`links_are_trees`), and each way out agrees with the reader.
use Rattle.std.specs.Prelude.{ℕ, ◌+◌, ◌*◌, ◌-◌, ◌<◌, ◌≤◌, ◌≡◌, List, length, Option, Some, None}
use Rattle.std.proofs.Math.Path.{sym}
use Rattle.std.proofs.Common.{◌∙◌, arith}
use Rattle.net_file.specs.Values.{Tree}
use Rattle.net_file.specs.Read.{Parser, ◌>>=◌, give, times, many, read_tree, read_link, read_tree_net}
use Rattle.fields.specs.Fields.{be16, be32}
use Rattle.stored.specs.Laws.{stands_1, stands_many}
use Rattle.stored_tree.specs.Tree.{tree_at, tree_end}
use Rattle.stored_tree.specs.Parts.{stands_tree, stands_tree_net}
use Rattle.walk.specs.After.{after, after_same, same_map, same_bind, after_past, after_go, after_bad, after_map, went}
use Rattle.walk.specs.Walk.{many_none, many_high, many_on, many_2_short, many_2_on}
use Rattle.walk.specs.Loops.{pair, pairs_same, times_turn, times_bad, times_done}
use Rattle.walk_head.specs.Head.{read_head, stands_head, head_bad, head_go}

-- all the trees of a net
unfoldable pub read_net_trees : ℕ → ℕ → ℕ → Parser (List Tree × List (Tree × Tree))
read_net_trees paths names wires =
    many 1 14 (read_tree paths names wires 64) >>= λ fs. many 2 65535 (read_link paths names wires) >>= λ ls. give (fs, ls)

-- ---- links

module _ (s : List ℕ) (paths names wires : ℕ) where
  -- n links end where 2 n trees end
  links_are_trees : (at n : ℕ) → after at (times n (read_link paths names wires)) s ≡ after at (times (2 * n) (read_tree paths names wires 64)) s
  unfolding read_link
  links_are_trees at n = after_same s (times n (pair a_tree s)) (times (2 * n) a_tree) at (pairs_same a_tree s n)
    where
      a_tree : Parser Tree
      a_tree = read_tree paths names wires 64

  pub links_short : (at : ℕ) → length s < at + 2 → None ≡ after at (many 2 65535 (read_link paths names wires)) s
  links_short at h = many_2_short s (read_link paths names wires) at 65535 h

  pub links_on : (at k : ℕ) (w : Option ℕ) → 2 ≤ length s → at ≤ length s - 2 → k ≡ be16 s at → k < 65536
      → w ≡ after (at + 2) (times (2 * k) (read_tree paths names wires 64)) s → w ≡ after at (many 2 65535 (read_link paths names wires)) s
  links_on at k w h i ek l ew = many_2_on s (read_link paths names wires) at 65535 k w h i ek (omega arith) (ew ∙ sym (links_are_trees (at + 2) k))

-- ---- a net

module _ (s : List ℕ) (paths names wires at : ℕ) where
  pub net_trees_bad : (f : Option ℕ) → f ≡ after at (many 1 14 (read_tree paths names wires 64)) s → f ≡ None → None ≡ after at (read_net_trees paths names wires) s
  unfolding read_net_trees
  net_trees_bad f ef eb = after_bad (many 1 14 (read_tree paths names wires 64)) _ s at f ef eb

  pub net_trees_on : (f w : Option ℕ) (e : ℕ) → f ≡ after at (many 1 14 (read_tree paths names wires 64)) s → f ≡ Some e
      → w ≡ after e (many 2 65535 (read_link paths names wires)) s → w ≡ after at (read_net_trees paths names wires) s
  unfolding read_net_trees
  net_trees_on f w e ef ea ew =
      ew ∙ sym (after_map (many 2 65535 (read_link paths names wires)) _ s e)
      ∙ sym (after_go (many 1 14 (read_tree paths names wires 64)) _ s at _ _ e f
      (stands_many s 1 14 (read_tree paths names wires 64) (tree_at s 64) (tree_end s 64) at _ _ (stands_1 s at) (stands_tree s paths names wires 64)) ef ea)

module _ (s : List ℕ) (paths names at : ℕ) (h : Option ℕ) (is_h : h ≡ after at (read_head names) s) where
  pub tree_net_bad : h ≡ None → None ≡ after at (read_tree_net paths names) s
  unfolding read_tree_net
  tree_net_bad eb = head_bad names _ s at h is_h eb

  -- the wire counter has room
  pub tree_net_room : (e : ℕ) → h ≡ Some e → at + 7 ≤ length s
  tree_net_room e ea = (went h e (stands_head s names at) is_h ea).within

  pub tree_net_on : (e wires : ℕ) (w : Option ℕ) → h ≡ Some e → wires ≡ be32 s (at + 3) → w ≡ after e (read_net_trees paths names wires) s → w ≡ after at (read_tree_net paths names) s
  unfolding read_tree_net read_net_trees
  tree_net_on e wires w ea ex ew = ew ∙ sym (head_go names _ s at h e is_h ea ∙ rw (← ex) (after_same s _ _ e
      (same_bind s (many 1 14 (read_tree paths names wires 64)) _ _ (λ fs bs. same_map s (many 2 65535 (read_link paths names wires)) _ bs ∙ sym (same_map s (many 2 65535 (read_link paths names wires)) _ bs)))))

-- ---- nets, one after another

module _ (s : List ℕ) (paths names : ℕ) where
  pub nets_past : (at n : ℕ) → length s < at → None ≡ after at (times n (read_tree_net paths names)) s
  nets_past at n h = after_past (times n (read_tree_net paths names)) s at h

  pub nets_more : (at at' n i : ℕ) (r x : Option ℕ) → after at (times (n - i) (read_tree_net paths names)) s ≡ x → i < n → r ≡ after at (read_tree_net paths names) s → r ≡ Some at'
      → after at' (times (n - (i + 1)) (read_tree_net paths names)) s ≡ x
  nets_more at at' n i r x g h er ea = times_turn (read_tree_net paths names) s at at' n i _ _ r x (stands_tree_net s paths names at) g h er ea

  pub nets_bad : (at k : ℕ) (r x : Option ℕ) → after at (times k (read_tree_net paths names)) s ≡ x → 0 < k → r ≡ after at (read_tree_net paths names) s → r ≡ None → None ≡ x
  nets_bad at k r x g h er eb = times_bad (read_tree_net paths names) s at k r x g h er eb

  pub nets_done : (at k : ℕ) (x : Option ℕ) → after at (times k (read_tree_net paths names)) s ≡ x → k ≤ 0 → at ≤ length s → Some at ≡ x
  nets_done at k x g h l = times_done (read_tree_net paths names) s at k x g h l

  -- a net ends within the file
  pub net_within : (at at' : ℕ) (r : Option ℕ) → r ≡ after at (read_tree_net paths names) s → r ≡ Some at' → at' ≤ length s
  net_within at at' r er ea = let y = went r at' (stands_tree_net s paths names at) er ea in omega (arith, y.is, y.within)

-- every way out, for the checks of the walks
pub ruleset ways = (many_none, many_high, many_on, links_short, links_on, net_trees_bad, tree_net_bad, nets_past, nets_bad, nets_done)
