use Rattle.std.proofs.Common.{◌≡◌, ◌+◌, ◌-◌, ◌*◌, length}
use Rattle.embed.specs.Embed as spec
use Rattle.embed.proofs.+embed_embed_all.Given as goal

abbrev pub decreases-embed : goal.decreases-embed
decreases-embed l = 2 * l.d

abbrev pub decreases-embed_all : goal.decreases-embed_all
decreases-embed_all l = 2 * l.d + 1

abbrev pub invariant-embed_all-loop : goal.invariant-embed_all-loop
invariant-embed_all-loop l = (spec.walked_all l.s l.d l.x (l.k - l.counter) ≡ spec.walked_all l.s l.d l.initial.x l.k) × (spec.written_all l.s l.d l.x (l.k - l.counter) l.out ≡ spec.written_all l.s l.d l.initial.x l.k l.initial.out) × (length l.out ≡ length l.initial.out)
