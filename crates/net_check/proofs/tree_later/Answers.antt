use Rattle.net_check.specs.Later.{tree_later, later_tables, later_order, later_wire, later_free, later_none}
use Rattle.net_check.proofs.tree_later.Goals as goal

pub returns-then-free_named : goal.returns-then-free_named
unfolding tree_later
returns-then-free_named c = search later_free

pub returns-then-nets_wired : goal.returns-then-nets_wired
unfolding tree_later
returns-then-nets_wired c = search later_none

pub returns-then-names_ascend : goal.returns-then-names_ascend
unfolding tree_later
returns-then-names_ascend c = search later_wire

pub returns-else-names_ascend : goal.returns-else-names_ascend
unfolding tree_later
returns-else-names_ascend c = search later_order

pub returns-else-tables_differ : goal.returns-else-tables_differ
unfolding tree_later
returns-else-tables_differ c = search later_tables
