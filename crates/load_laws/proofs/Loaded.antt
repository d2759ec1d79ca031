-- The load of nets that are well wired leaves an engine that is ready: `wired` and `free-kept` at the start of a run.
use Rattle.std.specs.Prelude.{◌≡◌, ◌≢◌, ◌⊎◌, ℕ, zero, suc, ◌+◌, ◌<◌, ◌≤◌, Bool, true, false, get_or, set, replicate, eqb}
use Rattle.std.proofs.Math.Path.{refl, ap, subst}
use Rattle.std.proofs.Common.{sym, ◌∙◌, inl, inr, arith, true≢false, length-append, get_or-set_same, get_or-set_other}
use Rattle.std.proofs.Math.Decide.{ℕ_discrete}
use Rattle.std.proofs.lemmas.Bool.{false≢true}
use Rattle.std.proofs.Math.Option.{Option, none, some, some-injective}
use mathlib.Core.List.Memᴰ
use mathlib.Core.List.{List, [], ◌∷◌, ◌++◌, map, Memᴰ}
use Rattle.std.proofs.Math.ListN.{length, get_or-append, get_or-eq_default}
use Rattle.std.proofs.lemmas.List.{length-map, length-replicate, get_or-replicate}
use Rattle.net_file.specs.Lists.{Result, ok, refuse, all}
use Rattle.net_file.specs.Values.{Name, FlatNet, Rule}
use Rattle.net_file.specs.Checks.{pairs_ordered, flat_wired}
use Rattle.definitions.specs.Lists.{◌>>=◌, or_else, is_some, foldl, nth, each, from, up_to}
use Rattle.definitions.specs.Nets.{Port, Node, Graph, Home, port, nowhere, at, filled, holds, name_of, arity, across}
use Rattle.definitions.specs.Scripts.{Edit, Insert, Join, apply, vacate, apply_script}
use Rattle.definitions.specs.Rules.{new}
use Rattle.definitions.specs.Step.{Fresh}
use Rattle.definitions.specs.State.{Net, Pools, Engine, graph_of, new_net, with_nets}
use Rattle.definitions.specs.Books.{fresh, edit}
use Rattle.definitions.specs.Load.{ends_at, join_met, load_nodes, load_net, add_flat_net}
use Rattle.join_laws.specs.Ports.{frame, name_same, holds_same, holds_frame, in_net, Frame}
use Rattle.script_laws.specs.Tidy.{WellWired, frame_kept, ported_kept}
use Rattle.script_laws.proofs.Tidy.{tidy_wired, wire_kept}
use Rattle.graph_laws.specs.Rest.{Rest, FreeNode, holds_filled}
use Rattle.step_laws.specs.Core.{Core, core_of, home_of, list_of}
use Rattle.step_laws.specs.Track.{list_at, Tracked, placed_in}
use Rattle.step_laws.specs.Edits.{Then, Needs, edit_core}
use Rattle.step_laws.specs.Acting.{Made, edits_made}
use Rattle.step_laws.specs.Numbers.{tracked_fresh}
use Rattle.step_laws.specs.First.{Firsts, listed_below, edits_first}
use Rattle.load_laws.specs.Loads.{loaded, F}
use Rattle.load_laws.proofs.Loads.{loaded_tidy}
use Rattle.load_laws.specs.Start.{load_order}
use Rattle.load_laws.proofs.Start.{free_ports, free_held, free_named_lem, free_wired}
use Rattle.load_laws.specs.Loaded.{Loaded, NetFine, Added, nth_snoc, core_wider, tracked_wider, h, home}

module _ (path : ℕ) (name : Name) (named : name.path ≡ path) where
  -- the nets after one more, on the graph
  module _ (g : Graph) (homes : List Home) (r : Rest path homes g) (N : ℕ → ℕ) (fr : Fresh g N) (t : FlatNet) (fine : NetFine t) where
    old_frame : (n : ℕ) → filled g n ≡ true → frame (h path name named g homes r N fr t fine) n ≡ frame g n
    unfolding h apply_script
    old_frame n f =
        frame_kept g (loaded g r.well N fr (length homes) name t fine.ordered fine.wired) (F g r.well N fr (length homes) name t fine.ordered fine.wired) r.well
        (loaded_tidy g r.well N fr (length homes) name t fine.ordered fine.wired) n f Memᴰ.not-nil

    old_wire : (p q : Port) → across g p ≡ some q → across (h path name named g homes r N fr t fine) p ≡ some q
    unfolding h apply_script
    old_wire p q e =
        wire_kept g (loaded g r.well N fr (length homes) name t fine.ordered fine.wired) (F g r.well N fr (length homes) name t fine.ordered fine.wired) r.well
        (loaded_tidy g r.well N fr (length homes) name t fine.ordered fine.wired) p q e Memᴰ.not-nil Memᴰ.not-nil

    one_more : Rest path (homes ++ (home path name named g homes r N fr t fine) ∷ []) (h path name named g homes r N fr t fine)
    unfolding h apply_script home
    one_more = record {
      well = tidy_wired g (loaded g r.well N fr (length homes) name t fine.ordered fine.wired) (F g r.well N fr (length homes) name t fine.ordered fine.wired) r.well
          (loaded_tidy g r.well N fr (length homes) name t fine.ordered fine.wired);
      ported = ported_kept g (loaded g r.well N fr (length homes) name t fine.ordered fine.wired) (F g r.well N fr (length homes) name t fine.ordered fine.wired) r.well
          (loaded_tidy g r.well N fr (length homes) name t fine.ordered fine.wired) r.ported;
      free = λ k x e. free k x (nth_snoc homes (home path name named g homes r N fr t fine) x k e);
    }
      where
        free : (k : ℕ) (x : Home) → (nth homes k ≡ some x) ⊎ ((k ≡ length homes) × (x ≡ (home path name named g homes r N fr t fine))) → FreeNode path (h path name named g homes r N fr t fine) k x
        free k x (inl e) =
            let o = r.free k x e in
            let s = old_frame x.free (holds_filled g k x.free o.held) in
            record {
              held = holds_same g (h path name named g homes r N fr t fine) x.free s k ∙ o.held;
              wired = old_wire (port x.free 0) (port x.free 1) o.wired;
              named = ap (λ (m : Name). m.path) (name_same g (h path name named g homes r N fr t fine) x.free s) ∙ o.named;
            }
        free k x (inr e) =
            subst (λ (j : ℕ). FreeNode path (h path name named g homes r N fr t fine) j x) (sym e.0) (subst (FreeNode path (h path name named g homes r N fr t fine) (length homes)) (sym e.1) (record {
              held = free_held g r.well N fr (length homes) name t fine.ordered fine.wired;
              wired = free_wired g r.well N fr (length homes) name t fine.ordered fine.wired;
              named = ap (λ (m : Name). m.path) (free_named_lem g r.well N fr (length homes) name t fine.ordered fine.wired) ∙ named;
            }))

  -- one net loaded
  pub net_loaded : (t : FlatNet) (e : Engine) → NetFine t → Loaded path (core_of e) → Then (λ e'. Loaded path (core_of e') × Added name t (core_of e) (core_of e')) (add_flat_net name t e)
  unfolding add_flat_net fresh core_of h home with_nets
  net_loaded t e fine l =
      go (each edit (load_net (fresh e) name (length e.nets) t) e₁)
      (edits_made e.slots.chain (λ k. length (graph_of e) + k) (length e.nets) (load_net (fresh e) name (length e.nets) t) 0 e₁ t₁ refl in_lists (load_order (fresh e) (length e.nets) name t))
    where
      e₁ : Engine
      e₁ = with_nets (e.nets ++ new_net (record { name = t.name; free = fresh e 0 }) ∷ []) e

      t₁ : Tracked (core_of e₁)
      t₁ = subst Tracked (sym (core_wider (record { name = t.name; free = fresh e 0 }) e)) (tracked_wider (record { name = t.name; free = fresh e 0 }) (core_of e) l.tracked)

      in_lists : length e.nets < length (core_of e₁).lists
      in_lists =
          let a : length (core_of e₁).lists ≡ length ((core_of e).lists ++ [] ∷ []) = ap (λ (c : Core). length c.lists) (core_wider (record { name = t.name; free = fresh e 0 }) e) in
          let b = length-append (core_of e).lists ([] ∷ []) in
          let c = length-map e.nets list_of in
          omega arith

      go : (q : Result Engine) → Then (λ e'. Made (core_of e₁) (load_net (fresh e) name (length e.nets) t) (core_of e')) q
          → Then (λ e'. Loaded path (core_of e') × Added name t (core_of e) (core_of e')) q
      go (refuse q) m = tt
      go (ok e') m = (
        record { rest = rest; tracked = m.tracked },
        record {
          numbers = fresh e;
          graph = graph';
          homes = homes';
          rules = m.same.rules ∙ ap (λ (c : Core). c.rules) (core_wider (record { name = t.name; free = fresh e 0 }) e);
          old = λ n f. ap (λ (g : Graph). frame g n) graph' ∙ old_frame (core_of e).graph (core_of e).homes l.rest (fresh e) (tracked_fresh e l.tracked) t fine n f;
          ports = ap (λ (g : Graph). arity g (fresh e 0)) graph' ∙ free_ports (core_of e).graph l.rest.well (fresh e) (tracked_fresh e l.tracked) (length (core_of e).homes) name t fine.ordered fine.wired;
        },
      )
        where
          count : length e.nets ≡ length (core_of e).homes
          count = sym (length-map e.nets home_of)

          made : Rest path ((core_of e).homes ++ record { name = t.name; free = fresh e 0 } ∷ []) (foldl apply (core_of e).graph (load_net (fresh e) name (length (core_of e).homes) t))
          made = one_more (core_of e).graph (core_of e).homes l.rest (fresh e) (tracked_fresh e l.tracked) t fine

          homes' : (core_of e').homes ≡ (core_of e).homes ++ record { name = t.name; free = fresh e 0 } ∷ []
          homes' = m.same.homes ∙ ap (λ (c : Core). c.homes) (core_wider (record { name = t.name; free = fresh e 0 }) e)

          graph' : (core_of e').graph ≡ foldl apply (core_of e).graph (load_net (fresh e) name (length (core_of e).homes) t)
          graph' = m.graph ∙ ap (λ (n : ℕ). foldl apply (graph_of e) (load_net (fresh e) name n t)) count

          rest : Rest path (core_of e').homes (core_of e').graph
          rest = subst (λ (hs : List Home). Rest path hs (core_of e').graph) (sym homes')
              (subst (Rest path ((core_of e).homes ++ record { name = t.name; free = fresh e 0 } ∷ [])) (sym graph') made)
