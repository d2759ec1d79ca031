-- From one place to the next, for code that goes through a table with the parts' ends: `at` stays the place that the reader of the k-th would give.
use Rattle.std.specs.Prelude.{ℕ, ◌+◌, ◌≡◌, List}
use Rattle.stored.specs.Stored.{table_end, list_end, path_end, name_end, rule_end, node_end, flat_net_end}
use Rattle.ends.specs.Ends.{within}
use Rattle.readers.specs.declared.Part.TheVariants as part
use Rattle.readers.specs.Readers.{part_end}
use Rattle.readers.specs.Places.{part_up}
use Rattle.readers_laws.specs.Tables.{table_step}

module _ (s : List ℕ) (start k a b : ℕ) where
  pub path_next : a ≡ within s (table_end (path_end s) start k) → b ≡ within s (path_end s a) → b ≡ within s (table_end (path_end s) start (k + 1))
  unfolding part_end
  path_next = table_step s (path_end s) (part_up s part.Path) start k a b

  pub name_next : a ≡ within s (table_end (name_end s) start k) → b ≡ within s (name_end s a) → b ≡ within s (table_end (name_end s) start (k + 1))
  unfolding part_end
  name_next = table_step s (name_end s) (part_up s part.Name) start k a b

  pub rule_next : a ≡ within s (table_end (rule_end s) start k) → b ≡ within s (rule_end s a) → b ≡ within s (table_end (rule_end s) start (k + 1))
  unfolding part_end
  rule_next = table_step s (rule_end s) (part_up s part.Rule) start k a b

  pub net_next : a ≡ within s (table_end (flat_net_end s) start k) → b ≡ within s (flat_net_end s a) → b ≡ within s (table_end (flat_net_end s) start (k + 1))
  unfolding part_end
  net_next = table_step s (flat_net_end s) (part_up s part.Net) start k a b

  pub node_next : a ≡ within s (table_end (node_end s) start k) → b ≡ within s (node_end s a) → b ≡ within s (table_end (node_end s) start (k + 1))
  unfolding part_end
  node_next = table_step s (node_end s) (part_up s part.Node) start k a b

  pub list_next : a ≡ within s (table_end (list_end s) start k) → b ≡ within s (list_end s a) → b ≡ within s (table_end (list_end s) start (k + 1))
  unfolding part_end
  list_next = table_step s (list_end s) (part_up s part.PathList) start k a b
