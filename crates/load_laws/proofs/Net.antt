-- One net is loaded: its free node, its own wire, its nodes; every port is used once.
use Rattle.std.specs.Prelude.{◌≡◌, refl, ◌≢◌, ◌⊎◌, ℕ, zero, suc, ◌+◌, ◌<◌, ◌≤◌, Bool, true, false}
use Rattle.std.proofs.Common.{sym, ap, ◌∙◌, inl, inr, true≢false}
use Rattle.std.proofs.Math.Path.{subst}
use native.Mathlib.Omega.{arith}
use Rattle.std.proofs.Math.Option.{Option, none, some}
use mathlib.Core.List.Memᴰ
use mathlib.Core.List.{List, [], ◌∷◌, ◌++◌, Memᴰ}
use Rattle.std.proofs.Math.ListN.{length, length-replicate}
use Rattle.net_file.specs.Values.{Name, FlatNode, FlatNet}
use Rattle.net_file.specs.Checks.{pairs_ordered, flat_wired}
use Rattle.definitions.specs.Lists.{or_else, foldl}
use Rattle.definitions.specs.Nets.{Port, Node, Graph, port, at, filled, arity}
use Rattle.definitions.specs.Scripts.{Edit, Insert, Join, fill, join, apply}
use Rattle.definitions.specs.Rules.{new}
use Rattle.definitions.specs.Load.{End, ends_at, join_met, load_nodes, load_net}
use Rattle.join_laws.specs.Ports.{Frame, no_frame, frame, arity_frame, arity_same, net_frame, net_same, filled_same, Real}
use Rattle.join_laws.proofs.Join.{frame_join}
use Rattle.script_laws.specs.Slots.{frame_fill_same, frame_fill_other}
use Rattle.script_laws.specs.Safe.{With, was, first, second, Safe}
use Rattle.script_laws.proofs.Safe.{safe_same, safe_append}
use Rattle.script_laws.specs.Loops.{Or, left, right, safe_end}
use Rattle.rule_laws.specs.Places.{new_holes}
use Rattle.load_laws.specs.Meets.{of_wire, of_wire_append, PortsApart, Joined, UsedBy, MeetsFit, meets_safe}
use Rattle.load_laws.specs.Ends.{ends_length, ends_mem, ends_at_lem, ends_apart, apart_append, frame_join_met, node_ends, met_after, met_kept, all_ends, all_count}
use Rattle.load_laws.specs.Net.{NodesFit, g₁, g₂, meets_fit, next_fit, node_later, some_port}

module _ (t : FlatNet) (N : ℕ → ℕ) (apart : (i j : ℕ) → N i ≡ N j → i ≡ j) (k : ℕ) (B : Port → Type 0) (F : Port → Type 0) where
  pub nodes_safe : (xs : List FlatNode) (met : List End) (j : ℕ) (g : Graph) → (NodesFit t N apart k B F) g met j xs → Safe F g (UsedBy B met) (load_nodes N t k met j xs) (UsedBy B (met_after t N met j xs))
  unfolding load_nodes apply
  nodes_safe [] met j g f = λ r. (λ u. u, λ u. u)
  nodes_safe (x ∷ xs) met j g f = (
    record {
      vacant = f.vacant j (omega arith);
      holes = new_holes k x.name (length (node_ends t N j x));
      some_port = (some_port t N apart k B F) g met j x xs f;
      later = (node_later t N apart k B F) g met j x xs f;
    },
    safe_append F (join_met met (node_ends t N j x)) (load_nodes N t k (node_ends t N j x ++ met) (1 + j) xs) ((g₁ t N apart k B F) g met j x xs f)
        (UsedBy B met) (UsedBy B (node_ends t N j x ++ met)) (UsedBy B (met_after t N met j (x ∷ xs)))
        (meets_safe B F k (node_ends t N j x) met ((g₁ t N apart k B F) g met j x xs f) ((meets_fit t N apart k B F) g met j x xs f))
        (nodes_safe xs (node_ends t N j x ++ met) (1 + j) ((g₂ t N apart k B F) g met j x xs f) ((next_fit t N apart k B F) g met j x xs f)),
  )
