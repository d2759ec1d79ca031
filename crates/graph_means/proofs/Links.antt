-- `link_all`: ports linked one pair after the other.
use Rattle.std.specs.Prelude.{ℕ, zero, suc, ◌+◌, ◌*◌, ◌%◌, ◌<◌, ◌≤◌, ◌≡◌, refl, List}
use Rattle.std.proofs.Common.{arith}
use Rattle.layout.specs.Layout.{next}
use Rattle.graph.specs.Graph as Words
use Rattle.net_file.specs.Values.{Name}
use Rattle.definitions.specs.Nets.{Port, port}
use Rattle.definitions.specs.State.{Engine, graph_of}
use Rattle.definitions.specs.Books.{link}
use Rattle.join_laws.specs.Ports.{Real}
use Rattle.means.specs.Means.{number, Header, Means}
use Rattle.means.specs.Frame.{real_inside}
use Rattle.graph_means.specs.Wires.{CanLink}
use Rattle.graph_means.proofs.Wires.{link_means}
use Rattle.graph_means.specs.Links.{after, link_all, CanLinkAll, next_number}

pub link_all_means : (Named : ℕ → Name → Type 0) (k : ℕ) (ws : List ℕ) (e : Engine) → Means Named ws e → (a b : Port) → CanLinkAll k a b e
    → Means Named (Words.link_all ws (number a) (number b) k) (link_all k a b e)
unfolding Words.link_all
link_all_means Named zero ws e m a b c = m
link_all_means Named (suc k) ws e m a b c =
    rw (next_number Named ws e m a c.0.real_a, next_number Named ws e m b c.0.real_b)
    (link_all_means Named k (Words.link ws (number a) (number b)) (link a b e) (link_means Named ws e m a b c.0) (after a) (after b) c.1)
