use Rattle.net_check.specs.Later.{flat_later, later_tables, later_order, later_wire, later_free, later_none}
use Rattle.net_check.proofs.flat_later.Goals as goal

pub returns-then-free_named : goal.returns-then-free_named
unfolding flat_later
returns-then-free_named c = search later_free

pub returns-then-nets_wired : goal.returns-then-nets_wired
unfolding flat_later
returns-then-nets_wired c = search later_none

pub returns-then-nets_ordered : goal.returns-then-nets_ordered
unfolding flat_later
returns-then-nets_ordered c = search later_wire

pub returns-else-nets_ordered : goal.returns-else-nets_ordered
unfolding flat_later
returns-else-nets_ordered c = search later_order

pub returns-else-tables_differ : goal.returns-else-tables_differ
unfolding flat_later
returns-else-tables_differ c = search later_tables
