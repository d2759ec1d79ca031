-- `link_all`: ports linked one pair after the other.
use Rattle.std.specs.Prelude.{ℕ, zero, suc, ◌+◌, ◌*◌, ◌%◌, ◌<◌, ◌≤◌, ◌≡◌, refl, List}
use Rattle.std.proofs.Common.{arith}
use Rattle.layout.specs.Layout.{next}
use Rattle.graph.specs.Graph as Words
use Rattle.net_file.specs.Values.{Name}
use Rattle.definitions.specs.Nets.{Port, port}
use Rattle.definitions.specs.State.{Engine, graph_of}
use Rattle.definitions.specs.Books.{link}
use Rattle.join_laws.specs.Ports.{Real}
use Rattle.means.specs.Means.{number, Header, Means}
use Rattle.means.specs.Frame.{real_inside}
use Rattle.graph_means.specs.Wires.{CanLink}

-- the next port of the same node
abbrev pub after : Port → Port
after p = port p.node (p.index + 1)

-- k ports from a on with those from b on
abbrev pub link_all : ℕ → Port → Port → Engine → Engine
link_all zero a b e = e
link_all (suc k) a b e = link_all k (after a) (after b) (link a b e)

-- each pair can be linked when its turn comes
abbrev pub CanLinkAll : ℕ → Port → Port → Engine → Type 0
CanLinkAll zero a b e = Unit {0}
CanLinkAll (suc k) a b e = CanLink e a b × CanLinkAll k (after a) (after b) (link a b e)

pub next_number : (Named : ℕ → Name → Type 0) (ws : List ℕ) (e : Engine) → Means Named ws e → (p : Port) → Real (graph_of e) p → next (number p) ≡ number (after p)
next_number Named ws e m p r = let i = real_inside m.nodes p r in let b = m.header.few_nodes in omega arith
