-- A slice on the words of a run is `runSlice` on the engine that they mean: as many steps, the same refusal, and what held holds again.
use Rattle.std.specs.Prelude.{ℕ, zero, suc, ◌+◌, ◌-◌, ◌≡◌, List, length, replicate}
use Rattle.std.proofs.Math.Path.{refl}
use Rattle.std.proofs.Common.{ap, ◌∙◌, arith}
use Rattle.std.proofs.Math.Option.{Option}
use Rattle.net_file.specs.Lists.{Result, ok, refuse}
use Rattle.net_file.specs.Values.{FlatNet, File}
use Rattle.net_file.specs.Checks.{flat, read}
use Rattle.net_file_laws.specs.Bytes.{Bytes}
use Rattle.definitions.specs.Lists.{◌>>=◌}
use Rattle.definitions.specs.Nets.{at}
use Rattle.definitions.specs.State.{Engine, graph_of, with_slots, with_dirty, with_mark}
use Rattle.definitions.specs.Visit
use Rattle.definitions.specs.Visit.{Visited, acted, passed}
use Rattle.definitions.specs.Run
use Rattle.definitions.specs.Run.{with_items, run_slice}
use Rattle.good_laws.specs.Good.{rest}
use Rattle.slice_laws.specs.Loop.{Lasts}
use Rattle.fuel_laws.proofs.Lasts.{fuel_lasts}
use Rattle.reached_laws.specs.Wires.{Wires, wires_sound}
use Rattle.words.specs.Left.{Left}
use Rattle.tried.specs.declared.Tried.{Tried}
use Rattle.rule_sets.specs.Sets.{rule_sets}
use Rattle.visit.specs.Visits.{visit}
use Rattle.run_slice.specs.Run as Words
use Rattle.run_slice.specs.declared.Ran.{Ran}
use Rattle.run_slice.specs.declared.Ran.TheVariants.{Rested}
use Rattle.run_slice.specs.declared.Ran.TheVariants.{Refused as Ran-as-Refused}
use Rattle.held_names.specs.Named.{Named}
use Rattle.rule_means.specs.Built.{Built}
use Rattle.rule_means.proofs.Built.{rule_sets_built}
use Rattle.run_means.specs.Run.{Ends, Most, Turns, slice_means}
use Rattle.run_means.specs.Turn.{Visits, Visiting, turn_tells}
use Rattle.acts_means.specs.Holds.{free_path_of, Holds}
use Rattle.visiting_means.specs.Dropped.{dirty_there, entry_inside, dropped_holds, seen_words, seen_engine, taken_during}
use Rattle.visiting_means.specs.Visited.{R, visited_tells}
use Rattle.visiting_means.specs.Left.{left_holds}

-- how a slice on the words ends, by what level Engine answers
abbrev pub SliceEnds : List ℕ → File FlatNet → Left Ran → Result (Engine × ℕ) → Type 0
SliceEnds s f l (ok r) = (l.is ≡ Rested r.1) × Holds s f rest l.ws r.0
SliceEnds s f l (refuse r) = (j : ℕ) × (l.is ≡ Ran-as-Refused j r)

-- what a visit tells is counted from the steps before it
visits_as : (Q : List ℕ → Engine → Type 0) (e e' : Engine) → e'.steps ≡ e.steps → (l : Left Tried) (r : Result Visited) → Visits Q e' l r → Visits Q e l r
visits_as Q e e' q l (refuse r) h = h
visits_as Q e e' q l (ok (passed d)) h = (h.0, h.1, h.2 ∙ q)
visits_as Q e e' q l (ok (acted d)) h = (h.0, h.1, h.2 ∙ ap (λ (j : ℕ). j + 1) q)

module _ (s : List ℕ) (is : Bytes s) (f : File FlatNet) (accepted : read flat s ≡ ok f) where
  module _ (sets : List ℕ) (b : Built s f (length f.rules) sets) where
    -- between turns
    abbrev pub S : List ℕ → Engine → Type 0
    S ws e = Holds s f rest ws e

    pub visiting : Visiting (Named s f) s sets S (R s is f accepted sets b)
    unfolding with_items with_dirty with_mark with_slots
    visiting = record {
      means = λ ws e h. h.means;
      inside = λ ws e h xs n last. entry_inside s f ws e h xs n last;
      there = λ ws e h n d. dirty_there s f ws e h n d;
      dropped = λ ws e h xs n last d. dropped_holds s f ws e h xs n last d;
      visited = λ ws e h xs n last d over.
          visits_as (R s is f accepted sets b (at (graph_of e) n).net) e (seen_engine s f ws e h xs n last) refl
          (visit (seen_words s f ws e h xs n last) s sets ((at (graph_of e) n).net + 1) n) (Visit.visit n (seen_engine s f ws e h xs n last))
          (visited_tells s is f accepted sets b n (at (graph_of e) n).net (seen_engine s f ws e h xs n last) over
          (seen_words s f ws e h xs n last) (taken_during s f ws e h xs n last (at (graph_of e) n).net refl d) refl (dirty_there s f ws e h n d));
      left = λ k ws e r. left_holds s f k ws e r.0 r.1;
    }

    pub turns : Turns (Named s f) s sets S
    turns = record {
      means = λ ws e h. h.means;
      stepped = λ ws e h. h.kept.0.stepped;
      tells = λ ws e h xs n last over. turn_tells (Named s f) s sets S (R s is f accepted sets b) visiting ws e h xs n last over;
    }

  -- the sets that a slice makes
  abbrev pub sets_of : List ℕ
  sets_of = rule_sets s (replicate 2112 0)

  pub built : Built s f (length f.rules) sets_of
  built = rule_sets_built s is f accepted 2112 (omega arith)

  module _ (ws : List ℕ) (e : Engine) (h : Holds s f rest ws e) where
    -- `fuel` lasts
    lasts : (n : Option ℕ) → Lasts (Run.run Run.fuel n e)
    lasts n = fuel_lasts (Wires (free_path_of f)) (wires_sound (free_path_of f)) n e (h.kept, record { nodes = h.means.header.few_nodes; waits = h.means.header.few_waits })

    pub slice_is_engine : (n : Option ℕ) (most : ℕ) → Most n most 0 → SliceEnds s f (Words.slice ws s most) (run_slice n e)
    unfolding Words.slice run_slice Run.fuel
    slice_is_engine n most left =
        go (Run.run Run.fuel n e) (lasts n) (slice_means (Named s f) s sets_of (S sets_of built) (turns sets_of built) Words.fuel n most ws e h left)
      where
        go : (r : Result Engine) → Lasts r → Ends (S sets_of built) e.steps (Words.run ws s sets_of most 0 Words.fuel) r
            → SliceEnds s f (Words.run ws s sets_of most 0 Words.fuel) (r >>= λ e'. ok (e', e'.steps - e.steps))
        go (ok e') x t = t
        go (refuse zero) x t = absurd (x refl)
        go (refuse (suc r)) x t = t
