-- A tree file that is read: each count, place and part is the one of what was read that it names (`tree-stands`).
use Rattle.std.specs.Prelude.{ℕ, suc, ◌+◌, ◌<◌, ◌≤◌, ◌≡◌, List, length, get_or}
use Rattle.std.proofs.Math.Path.{refl, subst}
use Rattle.std.proofs.Common.{sym, arith}
use Rattle.net_file.specs.Lists.{ok}
use Rattle.net_file.specs.Values.{Name, Rule, TreeNet, File}
use Rattle.net_file.specs.Read.{limit_of}
use Rattle.net_file.specs.Checks.{tree, read}
use Rattle.fields.specs.Fields.{be16, be32}
use Rattle.stored.specs.Stored.{table_end, path_at, path_end, name_at, name_end, rule_at, rule_end, name_count_at, rule_count_at, net_count_at}
use Rattle.stored.specs.Laws.{table_length}
use Rattle.stored_tree.specs.Tree.{tree_net_at, tree_net_end}
use Rattle.stored_tree.specs.Parts.{stands_tree_net}
use Rattle.stored.specs.Body.{paths_at, names_at, rules_at, nets_at, body_at, body_end}
use Rattle.ends.specs.Ends.{within, table_up}
use Rattle.readers.specs.declared.Part.TheVariants as part
use Rattle.readers.specs.Readers.{part_end}
use Rattle.readers.specs.Places.{part_up}
use Rattle.readers_laws.specs.Tables.{table_inside, table_next, table_read}
use Rattle.readers_laws.specs.Parts.{PathStands, NameStands, path_stands, name_stands}
use Rattle.readers_laws.specs.Rules.{RuleStands, rule_stands}
use Rattle.readers_laws.specs.Reads.{read_stands, read_inside, read_tags}
use Rattle.tree_laws.specs.Places.{net_up}
use Rattle.tree_laws.specs.Parts.{TreeNetStands, tree_net_stands}

-- a is the place that the reader of the same name gives for k; it is never past the end, so that the readers' clamp is none
pub record TreeStands (s : List ℕ) (f : File TreeNet) : Type 0 where
  pub limit : f.limit ≡ limit_of (be32 s 5)
  pub path_count : length f.paths ≡ be16 s 9
  pub path_inside : (k : ℕ) → k ≤ length f.paths → table_end (path_end s) 11 k ≤ length s
  pub path_is : (k a : ℕ) (d : List ℕ) → k < length f.paths → a ≡ within s (table_end (path_end s) 11 k) → get_or f.paths k d ≡ path_at s a
  pub path : (k a : ℕ) (d : List ℕ) → k < length f.paths → a ≡ within s (table_end (path_end s) 11 k) → PathStands s (get_or f.paths k d) a
  pub name_count : length f.names ≡ be16 s (name_count_at s)
  pub name_inside : (k : ℕ) → k ≤ length f.names → table_end (name_end s) (name_count_at s + 2) k ≤ length s
  pub name_is : (k a : ℕ) (d : Name) → k < length f.names → a ≡ within s (table_end (name_end s) (name_count_at s + 2) k) → get_or f.names k d ≡ name_at s a
  pub name : (k a : ℕ) (d : Name) → k < length f.names → a ≡ within s (table_end (name_end s) (name_count_at s + 2) k) → NameStands s (get_or f.names k d) a
  pub rule_count : length f.rules ≡ be16 s (rule_count_at s)
  pub rule_inside : (k : ℕ) → k ≤ length f.rules → table_end (rule_end s) (rule_count_at s + 2) k ≤ length s
  pub rule_is : (k a : ℕ) (d : Rule) → k < length f.rules → a ≡ within s (table_end (rule_end s) (rule_count_at s + 2) k) → get_or f.rules k d ≡ rule_at s a
  pub rule : (k a : ℕ) (d : Rule) → k < length f.rules → a ≡ within s (table_end (rule_end s) (rule_count_at s + 2) k) → RuleStands s (get_or f.rules k d) a
  pub nets : f.nets ≡ nets_at tree_net_at tree_net_end s
  pub net_count : length f.nets ≡ be16 s (net_count_at s)
  pub net_inside : (k : ℕ) → k ≤ length f.nets → table_end (tree_net_end s) (net_count_at s + 2) k ≤ length s
  pub net_is : (k a : ℕ) (d : TreeNet) → k < length f.nets → a ≡ within s (table_end (tree_net_end s) (net_count_at s + 2) k) → get_or f.nets k d ≡ tree_net_at s a
  pub net : (k a : ℕ) (d : TreeNet) → k < length f.nets → a ≡ within s (table_end (tree_net_end s) (net_count_at s + 2) k) → TreeNetStands s (get_or f.nets k d) a

module _ (s : List ℕ) (f : File TreeNet) (e : read tree s ≡ ok f) where
  -- ---- each table ends inside the file, the last first

  nets_end : table_end (tree_net_end s) (net_count_at s + 2) (be16 s (net_count_at s)) ≤ length s
  unfolding body_end
  nets_end = read_inside tree tree_net_at tree_net_end s (stands_tree_net s) f e

  rules_end : table_end (rule_end s) (rule_count_at s + 2) (be16 s (rule_count_at s)) ≤ length s
  unfolding net_count_at part_end
  rules_end = omega (arith, nets_end, table_up (tree_net_end s) (net_up s) (net_count_at s + 2) (be16 s (net_count_at s)))

  names_end : table_end (name_end s) (name_count_at s + 2) (be16 s (name_count_at s)) ≤ length s
  unfolding rule_count_at part_end
  names_end = omega (arith, rules_end, table_up (rule_end s) (part_up s part.Rule) (rule_count_at s + 2) (be16 s (rule_count_at s)))

  paths_end : table_end (path_end s) 11 (be16 s 9) ≤ length s
  unfolding name_count_at part_end
  paths_end = omega (arith, names_end, table_up (name_end s) (part_up s part.Name) (name_count_at s + 2) (be16 s (name_count_at s)))

  -- ---- the parts

  body : File TreeNet
  body = body_at tree_net_at tree_net_end s

  path_count_lem : length body.paths ≡ be16 s 9
  unfolding body body_at paths_at
  path_count_lem = table_length s (path_at s) (path_end s) 11 (be16 s 9)

  name_count_lem : length body.names ≡ be16 s (name_count_at s)
  unfolding body body_at names_at
  name_count_lem = table_length s (name_at s) (name_end s) (name_count_at s + 2) (be16 s (name_count_at s))

  rule_count_lem : length body.rules ≡ be16 s (rule_count_at s)
  unfolding body body_at rules_at
  rule_count_lem = table_length s (rule_at s) (rule_end s) (rule_count_at s + 2) (be16 s (rule_count_at s))

  net_count_lem : length body.nets ≡ be16 s (net_count_at s)
  unfolding body body_at nets_at
  net_count_lem = table_length s (tree_net_at s) (tree_net_end s) (net_count_at s + 2) (be16 s (net_count_at s))

  path_get : (k a : ℕ) (d : List ℕ) → k < be16 s 9 → a ≡ within s (table_end (path_end s) 11 k) → get_or body.paths k d ≡ path_at s a
  unfolding body body_at paths_at part_end
  path_get = table_read s (path_at s) (path_end s) (part_up s part.Path) 11 (be16 s 9) paths_end

  name_get : (k a : ℕ) (d : Name) → k < be16 s (name_count_at s) → a ≡ within s (table_end (name_end s) (name_count_at s + 2) k) → get_or body.names k d ≡ name_at s a
  unfolding body body_at names_at part_end
  name_get = table_read s (name_at s) (name_end s) (part_up s part.Name) (name_count_at s + 2) (be16 s (name_count_at s)) names_end

  rule_get : (k a : ℕ) (d : Rule) → k < be16 s (rule_count_at s) → a ≡ within s (table_end (rule_end s) (rule_count_at s + 2) k) → get_or body.rules k d ≡ rule_at s a
  unfolding body body_at rules_at part_end
  rule_get = table_read s (rule_at s) (rule_end s) (part_up s part.Rule) (rule_count_at s + 2) (be16 s (rule_count_at s)) rules_end

  net_get : (k a : ℕ) (d : TreeNet) → k < be16 s (net_count_at s) → a ≡ within s (table_end (tree_net_end s) (net_count_at s + 2) k) → get_or body.nets k d ≡ tree_net_at s a
  unfolding body body_at nets_at part_end
  net_get = table_read s (tree_net_at s) (tree_net_end s) (net_up s) (net_count_at s + 2) (be16 s (net_count_at s)) nets_end

  path_inside_lem : (k : ℕ) → k ≤ be16 s 9 → table_end (path_end s) 11 k ≤ length s
  unfolding part_end
  path_inside_lem k h = omega (arith, paths_end, table_inside (path_end s) (part_up s part.Path) 11 (be16 s 9) k h)

  name_inside_lem : (k : ℕ) → k ≤ be16 s (name_count_at s) → table_end (name_end s) (name_count_at s + 2) k ≤ length s
  unfolding part_end
  name_inside_lem k h = omega (arith, names_end, table_inside (name_end s) (part_up s part.Name) (name_count_at s + 2) (be16 s (name_count_at s)) k h)

  rule_inside_lem : (k : ℕ) → k ≤ be16 s (rule_count_at s) → table_end (rule_end s) (rule_count_at s + 2) k ≤ length s
  unfolding part_end
  rule_inside_lem k h = omega (arith, rules_end, table_inside (rule_end s) (part_up s part.Rule) (rule_count_at s + 2) (be16 s (rule_count_at s)) k h)

  net_inside_lem : (k : ℕ) → k ≤ be16 s (net_count_at s) → table_end (tree_net_end s) (net_count_at s + 2) k ≤ length s
  unfolding part_end
  net_inside_lem k h = omega (arith, nets_end, table_inside (tree_net_end s) (net_up s) (net_count_at s + 2) (be16 s (net_count_at s)) k h)

  rule_at_lem : (k a : ℕ) → k < be16 s (rule_count_at s) → a ≡ within s (table_end (rule_end s) (rule_count_at s + 2) k) → RuleStands s (rule_at s a) a
  rule_at_lem k a h i =
      let d : table_end (rule_end s) (rule_count_at s + 2) k ≡ a = omega (arith, rule_inside_lem k (omega arith)) in
      rule_stands s a (rw d at (read_tags tree tree_net_at tree_net_end s (stands_tree_net s) f e k h))

  net_at_lem : (k a : ℕ) → k < be16 s (net_count_at s) → a ≡ within s (table_end (tree_net_end s) (net_count_at s + 2) k) → TreeNetStands s (tree_net_at s a) a
  net_at_lem k a h i =
      let d : table_end (tree_net_end s) (net_count_at s + 2) k ≡ a = omega (arith, net_inside_lem k (omega arith)) in
      tree_net_stands s a (rw (table_next (tree_net_end s) (net_count_at s + 2) k, d) at (net_inside_lem (suc k) h))

  body_limit : body.limit ≡ limit_of (be32 s 5)
  unfolding body body_at
  body_limit = refl

  body_nets : body.nets ≡ nets_at tree_net_at tree_net_end s
  unfolding body body_at
  body_nets = refl

  body_stands : TreeStands s body
  body_stands = record {
    limit = body_limit;
    path_count = path_count_lem;
    path_inside = λ k h. path_inside_lem k (rw path_count_lem at h);
    path_is = λ k a d h i. path_get k a d (rw path_count_lem at h) i;
    path = λ k a d h i. rw (path_get k a d (rw path_count_lem at h) i) (path_stands s a);
    name_count = name_count_lem;
    name_inside = λ k h. name_inside_lem k (rw name_count_lem at h);
    name_is = λ k a d h i. name_get k a d (rw name_count_lem at h) i;
    name = λ k a d h i. rw (name_get k a d (rw name_count_lem at h) i) (name_stands s a);
    rule_count = rule_count_lem;
    rule_inside = λ k h. rule_inside_lem k (rw rule_count_lem at h);
    rule_is = λ k a d h i. rule_get k a d (rw rule_count_lem at h) i;
    rule = λ k a d h i. let l : k < be16 s (rule_count_at s) = rw rule_count_lem at h in rw (rule_get k a d l i) (rule_at_lem k a l i);
    nets = body_nets;
    net_count = net_count_lem;
    net_inside = λ k h. net_inside_lem k (rw net_count_lem at h);
    net_is = λ k a d h i. net_get k a d (rw net_count_lem at h) i;
    net = λ k a d h i. let l : k < be16 s (net_count_at s) = rw net_count_lem at h in rw (net_get k a d l i) (net_at_lem k a l i);
  }

  -- what the readers give is what was read
  pub tree_stands : TreeStands s f
  unfolding body
  tree_stands = subst (TreeStands s) (sym (read_stands tree tree_net_at tree_net_end s (stands_tree_net s) f e)) body_stands
