use Rattle.std.proofs.Common.{◌-◌, ◌≡◌, length}
use Rattle.embed_nets.specs.Nets.{links_walked, links_hung, links_written}
use Rattle.embed_nets.proofs.embed_links.Given as goal

abbrev pub invariant-loop : goal.invariant-loop
invariant-loop l = (links_walked l.s l.x (l.k - l.counter) ≡ links_walked l.s l.initial.x l.k) × (links_hung l.s l.ws l.x (l.k - l.counter) ≡ links_hung l.s l.initial.ws l.initial.x l.k) × (links_written l.s l.x (l.k - l.counter) l.out ≡ links_written l.s l.initial.x l.k l.initial.out) × (length l.ws ≡ length l.initial.ws) × (length l.out ≡ length l.initial.out)
