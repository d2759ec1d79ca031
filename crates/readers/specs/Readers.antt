-- The tables of a file, one after another or one in another, by what they hold.
use Rattle.std.specs.Prelude.{ℕ, List}
use Rattle.stored.specs.Stored.{list_end, path_end, name_end, rule_end, node_end, flat_net_end}
use Rattle.readers.specs.declared.Part.{Part}
use Rattle.readers.specs.declared.Part.TheVariants.{Path, Name, Rule, Net, Node, PathList}

-- the place after a part
unfoldable pub part_end : List ℕ → Part → ℕ → ℕ
part_end s Path = path_end s
part_end s Name = name_end s
part_end s Rule = rule_end s
part_end s Net = flat_net_end s
part_end s Node = node_end s
part_end s PathList = list_end s
