-- The names that rules compare: where two nodes are compared, and where a node's path is looked up, the held file says what level Engine does.
use Rattle.std.specs.Prelude.{ℕ, ◌+◌, ◌≡◌, true, List, ◌++◌, length}
use Rattle.std.proofs.Common.{ap, arith}
use Rattle.net_file.specs.Lists.{ok}
use Rattle.net_file.specs.Values.{eta, FlatNet, File}
use Rattle.net_file.specs.Checks.{same_name, flat, read}
use Rattle.net_file_laws.specs.Bytes.{Bytes}
use Rattle.definitions.specs.Nets.{port, filled, name_of, arity}
use Rattle.definitions.specs.State.{Engine, graph_of, homes}
use Rattle.join_laws.specs.Ports.{across_real}
use Rattle.script_laws.specs.Tidy.{real_filled}
use Rattle.graph_laws.specs.Rest.{Rest}
use Rattle.node_names.specs.Names.{same_name_words}
use Rattle.rule_sets.specs.Sets.{value, nil}
use Rattle.tried.specs.Tries.{name}
use Rattle.means.specs.Means.{Means}
use Rattle.held_names.specs.Named.{Stands, Named, named_stands}
use Rattle.held_names.specs.Free.{path_below, both_stand, same_name_is}
use Rattle.rule_means.specs.Collected.{nil_paths, value_paths}
use Rattle.rule_means.specs.Built.{rule_of, Built, value_is, nil_is}
use Rattle.script_means.specs.Tries.{name_read}
use Rattle.eta_values_means.specs.Met.{SameOnes, OnesIn}
use Rattle.seen_means.specs.Seen.{FreePlaces}
use Rattle.acts_means.specs.Holds.{free_path_of}

module _ (s : List ℕ) (is : Bytes s) (f : File FlatNet) (accepted : read flat s ≡ ok f) (ws : List ℕ) (e : Engine) (m : Means (Named s f) ws e)
    (wired : Rest (free_path_of f) (homes e) (graph_of e)) (free : FreePlaces ws e) where
  -- a node of one port is no free node, so its name stands in the file
  pub one_stands : (a : ℕ) → arity (graph_of e) a ≡ 1 → Stands s f (name ws a) (name_of (graph_of e) a)
  one_stands a one = named_stands s f (name ws a) (name_of (graph_of e) a) (name_read (Named s f) ws e m a (real_filled (graph_of e) (port a 0) (omega arith))) placed
    where
      placed : name ws a ≡ 0 → ⊥
      placed z =
          let h = free.0 a (omega arith) z in
          let w = (wired.free h.0 h.1 h.2).wired in
          let r = across_real (graph_of e) (port h.1.free 1) (port h.1.free 0) (wired.well.wired.back (port h.1.free 0) (port h.1.free 1) w) in
          let q : arity (graph_of e) h.1.free ≡ arity (graph_of e) a = ap (arity (graph_of e)) h.3 in
          omega arith

  pub same_ones : SameOnes s ws e
  same_ones a b i j = both_stand s is f (name ws a) (name ws b) (name_of (graph_of e) a) (name_of (graph_of e) b) (one_stands a i) (one_stands b j)

  -- a node of another path than the free nodes', and any node
  pub same_own : (a : ℕ) → filled (graph_of e) a ≡ true → ((name_of (graph_of e) a).path ≡ free_path_of f → ⊥) → (b : ℕ) → filled (graph_of e) b ≡ true
      → same_name_words s (name ws a) (name ws b) ≡ same_name (name_of (graph_of e) a) (name_of (graph_of e) b)
  same_own a there other b here =
      same_name_is s is f (name ws a) (name ws b) (name_of (graph_of e) a) (name_of (graph_of e) b) (name_read (Named s f) ws e m a there) (name_read (Named s f) ws e m b here) (λ p q. other p)

  module _ (sets : List ℕ) (b : Built s f (length f.rules) sets) (r : ℕ) (cs vs ns : List ℕ) (rule : rule_of f r ≡ eta cs vs ns) where
    pub values_in : OnesIn (value s sets r) (vs ++ ns) ws e
    unfolding value_paths
    values_in a i =
        let t = one_stands a i in
        rw rule at (value_is s f sets b r (name ws a) (name_of (graph_of e) a) t (path_below s is f accepted (name ws a) (name_of (graph_of e) a) t))

    pub nils_in : OnesIn (nil s sets r) ns ws e
    unfolding nil_paths
    nils_in a i =
        let t = one_stands a i in
        rw rule at (nil_is s f sets b r (name ws a) (name_of (graph_of e) a) t (path_below s is f accepted (name ws a) (name_of (graph_of e) a) t))
