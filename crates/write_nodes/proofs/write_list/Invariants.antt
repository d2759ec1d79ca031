use Rattle.std.proofs.Common.{◌-◌, ◌≡◌, length}
use Rattle.write_nodes.specs.Nodes.{write_list, write_entries}
use Rattle.write_nodes.proofs.write_list.Given as goal

abbrev pub invariant-loop : goal.invariant-loop
invariant-loop l = (write_entries l.ws l.file l.out l.page l.c (l.count - l.counter) l.pen ≡ write_list l.initial.ws l.file l.initial.out l.page l.initial.pen) × (length l.ws ≡ length l.initial.ws) × (length l.out ≡ length l.initial.out)
