-- The load of a well wired net uses each port of its new nodes once: it leaves the nets well wired, with one free node more.
use Rattle.std.proofs.Math.Path.{◌≡◌, ap}
use Rattle.std.specs.Prelude.{refl, ◌≢◌, ◌⊎◌, ℕ, zero, suc, ◌+◌, ◌<◌, ◌≤◌, Bool, true, false, eqb}
use Rattle.std.proofs.Common.{sym, ◌∙◌, subst, inl, arith, true≢false}
use Rattle.std.proofs.Math.Logic.{inr}
use Rattle.std.proofs.Math.Option.{Option, none, some}
use mathlib.Core.List.Memᴰ
use mathlib.Core.List.{List, [], ◌∷◌, ◌++◌, append-nil, Memᴰ}
use Rattle.std.proofs.Math.ListN.{length, length-replicate}
use Rattle.net_file.specs.Values.{Name, FlatNode, FlatNet}
use Rattle.net_file.specs.Checks.{pairs_ordered, flat_wired}
use Rattle.definitions.specs.Lists.{or_else, foldl}
use Rattle.definitions.specs.Nets.{Port, Node, Graph, port, same_port, at, filled, holds, name_of, arity, across, follow}
use Rattle.definitions.specs.Scripts.{Edit, Insert, Join, Script, fill, join, cut, wire, ends, apply, apply_script}
use Rattle.definitions.specs.Rules.{new}
use Rattle.definitions.specs.Step.{Fresh}
use Rattle.definitions.specs.Load.{End, ends_at, join_met, load_nodes, load_net}
use Rattle.join_laws.specs.Ports.{Frame, no_frame, in_net, frame, arity_frame, arity_same, name_frame, net_frame, net_same, holds_frame, filled_same, Real, across_wire_same, across_wire_other, real_wire}
use Rattle.join_laws.specs.Link.{Wired, frame_cut}
use Rattle.join_laws.specs.Join.{join_cases}
use Rattle.join_laws.proofs.Join.{frame_join}
use Rattle.script_laws.specs.Slots.{frame_fill_same, frame_fill_other, across_fill, across_vacant}
use Rattle.script_laws.specs.Safe.{With, was, first, second, Safe, Turns, edit_wired, frame_edits, Born}
use Rattle.script_laws.proofs.Safe.{safe_same, safe_append, edits_still}
use Rattle.script_laws.specs.Loops.{Or, left, right, safe_end}
use Rattle.script_laws.specs.Tidy.{WellWired, Tidy, frame_kept, ported_kept}
use Rattle.script_laws.proofs.Tidy.{tidy_wired, wire_kept}
use Rattle.rule_laws.specs.Places.{Ported, new_holes}
use Rattle.load_laws.specs.Meets.{of_wire, of_wire_append, of_wire_mem, PortsApart, Joined, UsedBy, meets_safe}
use Rattle.load_laws.specs.Ends.{ends_mem, ends_at_lem, ends_apart, frame_join_met, node_ends, met_after, met_kept, all_ends, all_count}
use Rattle.load_laws.specs.Net.{new_frame}
use Rattle.load_laws.proofs.Net.{nodes_safe}
use Rattle.load_laws.specs.Loads.{f, B, F, ends₀, g₂, loaded, joined_all, arity₁, size₀, off_b, end_is, end_real, end_net, end_off, most, count_kept, g₃, same₃, other₂, free_later, used_new}

module _ (g : Graph) (w : WellWired g) (N : ℕ → ℕ) (fr : Fresh g N) (k : ℕ) (name : Name) (t : FlatNet) (ordered : pairs_ordered t.pairs ≡ true) (wired : flat_wired t ≡ true) where
  free_safe : Safe (F g w N fr k name t ordered wired) (g₂ g w N fr k name t ordered wired) (UsedBy (B g w N fr k name t ordered wired) []) (join_met [] (ends₀ g w N fr k name t ordered wired)) (UsedBy (B g w N fr k name t ordered wired) (ends₀ g w N fr k name t ordered wired))
  free_safe =
      subst (λ (l : List End). Safe (F g w N fr k name t ordered wired) (g₂ g w N fr k name t ordered wired) (UsedBy (B g w N fr k name t ordered wired) []) (join_met [] (ends₀ g w N fr k name t ordered wired)) (UsedBy (B g w N fr k name t ordered wired) l)) (append-nil (ends₀ g w N fr k name t ordered wired))
      (meets_safe (B g w N fr k name t ordered wired) (F g w N fr k name t ordered wired) k (ends₀ g w N fr k name t ordered wired) [] (g₂ g w N fr k name t ordered wired) (record {
        real = λ y m. (end_real g w N fr k name t ordered wired) y (in_ends y m);
        in_net = λ y m. (end_net g w N fr k name t ordered wired) y (in_ends y m);
        off = λ y m. (end_off g w N fr k name t ordered wired) y (in_ends y m);
        ports = subst PortsApart (sym (append-nil (ends₀ g w N fr k name t ordered wired))) (ends_apart t (f g w N fr k name t ordered wired) t.free 2);
        most = λ v. let a : of_wire v ((ends₀ g w N fr k name t ordered wired) ++ []) ≡ of_wire v (ends₀ g w N fr k name t ordered wired) = ap (of_wire v) (append-nil (ends₀ g w N fr k name t ordered wired)) in let b = (count_kept g w N fr k name t ordered wired) v t.nodes (ends₀ g w N fr k name t ordered wired) 1 in let c = (most g w N fr k name t ordered wired) v in omega arith;
      }))
    where
      in_ends : (y : End) → Memᴰ y ((ends₀ g w N fr k name t ordered wired) ++ []) → Memᴰ y (ends₀ g w N fr k name t ordered wired)
      in_ends y m = subst (Memᴰ y) (append-nil (ends₀ g w N fr k name t ordered wired)) m

  rest_safe : Safe (F g w N fr k name t ordered wired) (g₃ g w N fr k name t ordered wired) (UsedBy (B g w N fr k name t ordered wired) (ends₀ g w N fr k name t ordered wired)) (load_nodes N t k (ends₀ g w N fr k name t ordered wired) 1 t.nodes) (F g w N fr k name t ordered wired)
  rest_safe = nodes_safe t N fr.apart k (B g w N fr k name t ordered wired) (F g w N fr k name t ordered wired) t.nodes (ends₀ g w N fr k name t ordered wired) 1 (g₃ g w N fr k name t ordered wired) (record {
    vacant = λ i l. filled_same g (g₃ g w N fr k name t ordered wired) (N i) ((same₃ g w N fr k name t ordered wired) (N i) ∙ (other₂ g w N fr k name t ordered wired) (N i) (λ e. let q = fr.apart i 0 e in omega arith)) ∙ fr.vacant i;
    below = λ y m. (0, omega arith, ap (λ (p : Port). p.node) ((end_is g w N fr k name t ordered wired) y m).3);
    real = λ y m. rw (arity_same (g₂ g w N fr k name t ordered wired) (g₃ g w N fr k name t ordered wired) y.1.node ((same₃ g w N fr k name t ordered wired) y.1.node)) ((end_real g w N fr k name t ordered wired) y m);
    in_net = λ y m. net_same (g₂ g w N fr k name t ordered wired) (g₃ g w N fr k name t ordered wired) y.1.node ((same₃ g w N fr k name t ordered wired) y.1.node) ∙ (end_net g w N fr k name t ordered wired) y m;
    off = (end_off g w N fr k name t ordered wired);
    off_new = (off_b g w N fr k name t ordered wired);
    ports = ends_apart t (f g w N fr k name t ordered wired) t.free 2;
    most = (most g w N fr k name t ordered wired);
    later = (joined_all g w N fr k name t ordered wired);
  })

  -- after the free node and its own wire
  pub after_safe : Safe (F g w N fr k name t ordered wired) (g₂ g w N fr k name t ordered wired) (B g w N fr k name t ordered wired) (join_met [] (ends₀ g w N fr k name t ordered wired) ++ load_nodes N t k (ends₀ g w N fr k name t ordered wired) 1 t.nodes) (F g w N fr k name t ordered wired)
  after_safe =
      safe_same (F g w N fr k name t ordered wired) (join_met [] (ends₀ g w N fr k name t ordered wired) ++ load_nodes N t k (ends₀ g w N fr k name t ordered wired) 1 t.nodes) (g₂ g w N fr k name t ordered wired) (UsedBy (B g w N fr k name t ordered wired) []) (B g w N fr k name t ordered wired) (F g w N fr k name t ordered wired)
      (λ r. (only_base r, left))
      (safe_append (F g w N fr k name t ordered wired) (join_met [] (ends₀ g w N fr k name t ordered wired)) (load_nodes N t k (ends₀ g w N fr k name t ordered wired) 1 t.nodes) (g₂ g w N fr k name t ordered wired) (UsedBy (B g w N fr k name t ordered wired) []) (UsedBy (B g w N fr k name t ordered wired) (ends₀ g w N fr k name t ordered wired)) (F g w N fr k name t ordered wired) free_safe rest_safe)
    where
      only_base : (r : Port) → UsedBy (B g w N fr k name t ordered wired) [] r → (B g w N fr k name t ordered wired) r
      only_base r (left b) = b
      only_base r (right j) = absurd (Memᴰ.not-nil j.mem)

  pub loaded_tidy : Tidy g (loaded g w N fr k name t ordered wired) (F g w N fr k name t ordered wired)
  unfolding load_net apply
  loaded_tidy = record {
    safe = (
      record { vacant = fr.vacant 0; holes = new_holes k name (2 + length t.free); some_port = let s = (size₀ g w N fr k name t ordered wired) in omega arith; later = (free_later g w N fr k name t ordered wired) },
      (
        record {
          real_a = omega (arith, (arity₁ g w N fr k name t ordered wired));
          real_b = omega (arith, (arity₁ g w N fr k name t ordered wired));
          differ = λ e. let z : ◌≡◌ {A = ℕ} 0 1 = ap (λ (p : Port). p.index) e in omega arith;
          one_net = refl;
          unused_a = λ u. u;
          unused_b = λ u. u;
        },
        after_safe,
      ),
    );
    gone = λ n d. absurd (Memᴰ.not-nil d);
    only = λ r z. inr ((used_new g w N fr k name t ordered wired) r z);
  }
