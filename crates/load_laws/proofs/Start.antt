-- A loaded net's free node; and the numbers that its new nodes take.
use Rattle.std.specs.Prelude.{◌≡◌, ◌≢◌, ◌⊎◌, Bool, true, false}
use Rattle.std.proofs.Math.Path.{refl}
use Rattle.std.proofs.Common.{sym, ap, ◌∙◌, subst, inl, inr, true≢false, eq-eqb}
use Prim.Native.Nat.{ℕ, zero, suc, ◌+◌, ◌<◌, ◌≤◌}
use native.Mathlib.Omega.{arith}
use Rattle.std.proofs.lemmas.Bool.{false≢true}
use Rattle.std.proofs.Math.Option.{Option, none, some}
use mathlib.Core.List.{List, [], ◌∷◌, ◌++◌}
use Rattle.std.proofs.Math.ListN.{length}
use Rattle.std.proofs.Math.Dec.{eqb}
use Rattle.net_file.specs.Values.{Name, FlatNode, FlatNet}
use Rattle.net_file.specs.Checks.{pairs_ordered, flat_wired}
use Rattle.definitions.specs.Lists.{or_else, is_some, foldl, find}
use Rattle.definitions.specs.Nets.{Port, Node, Graph, port, at, filled, holds, name_of, arity, across, follow}
use Rattle.definitions.specs.Scripts.{Edit, Insert, Copy, Join, Cut, fill, join, cut, wire, ends, apply}
use Rattle.definitions.specs.Rules.{new}
use Rattle.definitions.specs.Step.{Fresh}
use Rattle.definitions.specs.Load.{End, ends_at, join_met, load_nodes, load_net}
use Rattle.join_laws.specs.Ports.{Frame, no_frame, in_net, frame, arity_frame, arity_same, name_frame, holds_frame, filled_frame, Real, across_wire_same, across_wire_other, real_wire}
use Rattle.join_laws.specs.Link.{Wired, frame_cut}
use Rattle.join_laws.specs.Join.{join_cases}
use Rattle.join_laws.proofs.Join.{frame_join}
use Rattle.script_laws.specs.Slots.{across_fill, across_vacant}
use Rattle.script_laws.specs.Safe.{With, was, first, second, Safe, Turns, edit_wired, frame_edits, Born}
use Rattle.script_laws.proofs.Safe.{edits_still}
use Rattle.script_laws.specs.Tidy.{WellWired}
use Rattle.rule_laws.specs.Places.{new_holes}
use Rattle.rule_laws.specs.Order.{InOrder}
use Rattle.load_laws.specs.Loads.{f, x₀, B, F, g₁, g₂, ends₀, arity₁, new₂}
use Rattle.load_laws.proofs.Loads.{loaded_tidy, after_safe}
use Rattle.load_laws.specs.Start.{join_holes, h, rest, two, Base, All, h_is}

-- ---- the free node

module _ (g : Graph) (w : WellWired g) (N : ℕ → ℕ) (fr : Fresh g N) (k : ℕ) (name : Name) (t : FlatNet) (ordered : pairs_ordered t.pairs ≡ true) (wired : flat_wired t ≡ true) where
  -- after the free node and its own wire
  started : Wired (two g w N fr k name t ordered wired) × Turns g (two g w N fr k name t ordered wired) (Base g w N fr k name t ordered wired)
  unfolding load_net apply
  started =
      let s = (loaded_tidy g w N fr k name t ordered wired).safe in
      let x = edit_wired (All g w N fr k name t ordered wired) g g (λ _. ⊥) (Insert (N 0) (new k name (2 + length t.free))) w.wired (record { used = λ r u. absurd u; rest = λ r n. refl }) s.0 in
      edit_wired (All g w N fr k name t ordered wired) g (fill g (N 0) (new k name (2 + length t.free))) (λ _. ⊥) (Join (port (N 0) 0) (port (N 0) 1)) x.0 x.1 s.1.0

  frame_free : frame (h g w N fr k name t ordered wired) (N 0) ≡ some (record { net = k; name = name; size = 2 + length t.free })
  frame_free = ap (λ (q : Graph). frame q (N 0)) (h_is g w N fr k name t ordered wired) ∙ go (frame_edits (All g w N fr k name t ordered wired) (rest g w N fr k name t ordered wired) (two g w N fr k name t ordered wired) (Base g w N fr k name t ordered wired) (All g w N fr k name t ordered wired) (after_safe g w N fr k name t ordered wired) (N 0))
    where
      go : (frame (foldl apply (two g w N fr k name t ordered wired) (rest g w N fr k name t ordered wired)) (N 0) ≡ frame (two g w N fr k name t ordered wired) (N 0)) ⊎ Born (All g w N fr k name t ordered wired) (two g w N fr k name t ordered wired) (foldl apply (two g w N fr k name t ordered wired) (rest g w N fr k name t ordered wired)) (N 0) → frame (foldl apply (two g w N fr k name t ordered wired) (rest g w N fr k name t ordered wired)) (N 0) ≡ some (record { net = k; name = name; size = 2 + length t.free })
      go (inl e) = e ∙ new₂ g w N fr k name t ordered wired
      go (inr b) = absurd (true≢false (sym (filled_frame (two g w N fr k name t ordered wired) (N 0) ∙ ap is_some (new₂ g w N fr k name t ordered wired)) ∙ b.0))

  pub free_ports : arity (h g w N fr k name t ordered wired) (N 0) ≡ 2 + length t.free
  free_ports = arity_frame (h g w N fr k name t ordered wired) (N 0) ∙ ap (λ (o : Option Frame). (or_else o no_frame).size) frame_free

  pub free_held : holds (h g w N fr k name t ordered wired) k (N 0) ≡ true
  free_held = holds_frame (h g w N fr k name t ordered wired) (N 0) k ∙ ap (in_net k) frame_free ∙ eq-eqb k k refl

  pub free_named_lem : name_of (h g w N fr k name t ordered wired) (N 0) ≡ name
  free_named_lem = name_frame (h g w N fr k name t ordered wired) (N 0) ∙ ap (λ (o : Option Frame). (or_else o no_frame).name) frame_free

  pub free_wired : across (h g w N fr k name t ordered wired) (port (N 0) 0) ≡ some (port (N 0) 1)
  free_wired =
      ap (λ (q : Graph). across q (port (N 0) 0)) (h_is g w N fr k name t ordered wired)
      ∙ edits_still (All g w N fr k name t ordered wired) (rest g w N fr k name t ordered wired) g (two g w N fr k name t ordered wired) (Base g w N fr k name t ordered wired) (All g w N fr k name t ordered wired) started.0 started.1 (after_safe g w N fr k name t ordered wired) (port (N 0) 0) (port (N 0) 1) own (first refl) (second refl)
    where
      hole : (i : ℕ) → across (fill g (N 0) (new k name (2 + length t.free))) (port (N 0) i) ≡ none
      hole i =
          across_fill g (N 0) (new k name (2 + length t.free)) (port (N 0) i) (fr.vacant 0) (new_holes k name (2 + length t.free))
          ∙ across_vacant g (port (N 0) i) (fr.vacant 0)

      own : across (join (fill g (N 0) (new k name (2 + length t.free))) (port (N 0) 0) (port (N 0) 1)) (port (N 0) 0) ≡ some (port (N 0) 1)
      own =
          let a = arity₁ g w N fr k name t ordered wired in
          join_holes (fill g (N 0) (new k name (2 + length t.free))) (port (N 0) 0) (port (N 0) 1) (omega arith) (omega arith)
          (λ e. let z : ◌≡◌ {A = ℕ} 0 1 = ap (λ (p : Port). p.index) e in omega arith) (hole 0) (hole 1)
