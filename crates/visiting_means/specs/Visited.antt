-- A visit of a dirty node on the words is a visit of level Engine, and what holds of a run holds after it.
use Rattle.std.specs.Prelude.{ℕ, ◌+◌, ◌-◌, ◌<◌, ◌≡◌, true, false, List, length, get_or}
use Rattle.std.proofs.Math.Path.{refl, ap}
use Rattle.std.proofs.Common.{sym, ◌∙◌, subst, eqb-true, arith}
use Rattle.std.proofs.Math.Option.{Option, none, some}
use Rattle.net_file.specs.Lists.{Result, ok, refuse}
use Rattle.net_file.specs.Values.{FlatNet, File}
use Rattle.net_file.specs.Checks.{flat, read}
use Rattle.net_file_laws.specs.Bytes.{Bytes}
use Rattle.definitions.specs.Nets.{port, is_principal, at, filled, name_of, arity, across, follow}
use Rattle.definitions.specs.State.{Pools, Engine, graph_of, homes}
use Rattle.definitions.specs.Visit
use Rattle.definitions.specs.Visit.{Visited, acted, passed, less_one, tries}
use Rattle.definitions.specs.Run.{spent}
use Rattle.join_laws.specs.Ports.{same_port_lem}
use Rattle.rule_laws.specs.Places.{follow_across}
use Rattle.engine_laws.specs.Frame.{Outline, body, frame, still_frame, steps_kept}
use Rattle.engine_laws.specs.Turns.{Counts}
use Rattle.engine_laws.proofs.Turns.{attempts_count}
use Rattle.good_laws.specs.Owners.{owners, net_of}
use Rattle.good_laws.specs.Good.{Good, bump, rest}
use Rattle.good_laws.specs.Turn.{is_some_lem}
use Rattle.good_laws.specs.Scripts
use Rattle.good_laws.specs.Idle.{Idle}
use Rattle.good_laws.specs.Sound.{Kept, visit_fine}
use Rattle.reached_laws.specs.Tracks.{filled_owner}
use Rattle.reached_laws.specs.Wires.{Wires, wires_sound}
use Rattle.waiter_laws.specs.Waiters.{Waited}
use Rattle.words.specs.Left.{Left}
use Rattle.edits.specs.Edits.{finish_edit_words}
use Rattle.tried.specs.declared.Tried.{Tried}
use Rattle.visit.specs.Visits.{visit}
use Rattle.run_slice.specs.Run.{count_step}
use Rattle.rule_means.specs.Built.{Built}
use Rattle.seen_means.specs.Seen.{means_seen}
use Rattle.visit_means.specs.Tells.{Tells}
use Rattle.visit_means.specs.Visit.{met, visit_means}
use Rattle.visit_means.specs.Interact.{PairActs}
use Rattle.run_means.specs.Count.{LimitFits}
use Rattle.run_means.specs.Turn.{Visits}
use Rattle.acts_means.specs.Holds.{free_path_of, Holds, During, After, nets_length}
use Rattle.acts_means.specs.Pairs.{pair_acts}
use Rattle.acts_means.specs.Alone.{alone_acts}
use Rattle.places_means.specs.Ruled.{pair_places}
use Rattle.places_means.specs.Eta.{eta_places}
use Rattle.graft_acts.specs.Grafts.{visit_grafts}
use Rattle.visiting_means.specs.Rules.{pair_names_kept, eta_names_kept}

-- the limit after a step
less_fits : (l : Option ℕ) → LimitFits l → LimitFits (less_one l)
unfolding less_one
less_fits none h = tt
less_fits (some n) h = omega arith

module _ (s : List ℕ) (is : Bytes s) (f : File FlatNet) (accepted : read flat s ≡ ok f) (sets : List ℕ) (b : Built s f (length f.rules) sets) where
  -- while a node of net k is visited
  abbrev pub R : ℕ → List ℕ → Engine → Type 0
  R k ws e = Holds s f (bump k rest) ws e × (k < length e.nets)

  module _ (n k : ℕ) (e : Engine) (over : spent e.limit ≡ false) (ws : List ℕ) (d : During s f k e ws e) (own : (at (graph_of e) n).net ≡ k)
      (there : filled (graph_of e) n ≡ true) where
    abbrev P : List ℕ → Engine → Type 0
    P = During s f k e

    abbrev A : List ℕ → Engine → Type 0
    A = After s f e

    ported : 0 < arity (graph_of e) n
    ported = d.holds.kept.1.0.ported n there

    -- the node that it meets, principal port to principal port
    pairs_act : is_principal (follow (graph_of e) (port n 0)) ≡ true
        → PairActs P A s (free_path_of f) (k + 1) n (met (graph_of e) n) (name_of (graph_of e) n).path (name_of (graph_of e) (met (graph_of e) n)).path
    unfolding is_principal
    pairs_act t =
        let w = d.holds.kept.1.0.well in
        let m = met (graph_of e) n in
        let q = follow (graph_of e) (port n 0) in
        let i : q ≡ port m 0 = same_port_lem q (port m 0) refl (eqb-true q.index 0 t) in
        let here : across (graph_of e) (port n 0) ≡ some (port m 0) = follow_across (graph_of e) w (port n 0) ported ∙ ap some i in
        pair_acts s is f accepted n k e over own m here (pair_places s is f accepted n k e over m) (pair_names_kept s is f accepted n k e over m) (w.wired.back (port n 0) (port m 0) here)
        (sym (w.wired.within (port n 0) (port m 0) here) ∙ own) (name_of (graph_of e) m).path

    told : Tells P A (visit ws s sets (k + 1) n) (Visit.visit n e)
    told =
        visit_means s is f accepted sets b P A ws e (k + 1) n
        (means_seen s f ws e d.holds.means (free_path_of f) d.holds.kept.1.0 d.holds.places n ported d.holds.rules) d
        (λ z. alone_acts s is f accepted sets b n k e over own there (visit_grafts s is f accepted sets b n k e over own there) (eta_places s is f accepted sets b n k e over) (eta_names_kept s is f accepted n k e over sets b))
        (λ z t. pairs_act t)

    fine : Scripts.Visits (Kept (Wires (free_path_of f)) (bump k rest)) (λ e'. Good (bump k rest) e' × (body e' ≡ body e) × Idle e') (Visit.visit n e)
    fine =
        let o = is_some_lem (get_or (owners (graph_of e)) n none) (sym (filled_owner (graph_of e) n) ∙ there) in
        subst (λ (j : ℕ). Scripts.Visits (Kept (Wires (free_path_of f)) (bump j rest)) (λ e'. Good (bump j rest) e' × (body e' ≡ body e) × Idle e') (Visit.visit n e)) own
        (visit_fine (Wires (free_path_of f)) (wires_sound (free_path_of f)) n o.0 e (subst (λ (j : ℕ). Good (bump j rest) e) (sym own) d.holds.kept.0) d.holds.kept.1 d.holds.kept.2 o.1)

    counts : Counts (frame e) (Visit.visit n e)
    unfolding Visit.visit
    counts = attempts_count (frame e) (tries e.rules (graph_of e) n) e refl

    below : k < length e.nets
    below =
        let o = is_some_lem (get_or (owners (graph_of e)) n none) (sym (filled_owner (graph_of e) n) ∙ there) in
        let q = net_of (graph_of e) n o.0 o.1 in
        let l = d.holds.kept.0.slotted.owned n o.0 o.1 in
        omega arith

    -- as many nets, where the homes are
    nets_same : (e' : Engine) → homes e' ≡ homes e → k < length e'.nets
    nets_same e' h = let z = nets_length e' e h in let l = below in omega arith

    -- words and engine once a rule has acted
    after_holds : (w : List ℕ) (e' : Engine) → A w e' → Kept (Wires (free_path_of f)) (bump k rest) e' → (e'.pools ≡ e.pools) → (e'.rules ≡ e.rules) → (homes e' ≡ homes e) → (e'.limit ≡ less_one e.limit)
        → Holds s f (bump k rest) (finish_edit_words (count_step w)) e'
    after_holds w e' a good p r h l = record {
      means = a.finished.means;
      none_dead = a.finished.none_dead;
      kept = good;
      waited = subst (λ (q : Pools). Waited q.nodes (length e'.nets) e') (sym p) (subst (λ (m : ℕ). Waited e.pools.nodes m e') (sym (nets_length e' e h)) a.waited);
      places = a.places;
      rules = r ∙ d.holds.rules;
      limit = subst LimitFits (sym l) (less_fits e.limit d.holds.limit);
      called = a.called;
    }

    -- the visit's answer
    answered : (l : Left Tried) (r : Result Visited) → Tells P A l r → Scripts.Visits (Kept (Wires (free_path_of f)) (bump k rest)) (λ e'. Good (bump k rest) e' × (body e' ≡ body e) × Idle e') r
        → Counts (frame e) r → Visits (R k) e l r
    answered l (refuse r) h x c = h
    answered l (ok (passed e')) h x c =
        let t = still_frame h.1.still in
        (h.0, (h.1.holds, nets_same e' (ap (λ (z : Outline). z.2) t)), steps_kept t)
    answered l (ok (acted e')) h x c = (
      h.0,
      (after_holds l.ws e' h.1 x (ap (λ (z : Outline). z.0) c) (ap (λ (z : Outline). z.1) c) (ap (λ (z : Outline). z.2) c) (ap (λ (z : Outline). z.3) c), nets_same e' (ap (λ (z : Outline). z.2) c)),
      ap (λ (z : Outline). z.4) c,
    )

    pub visited_tells : Visits (R k) e (visit ws s sets (k + 1) n) (Visit.visit n e)
    visited_tells = answered (visit ws s sets (k + 1) n) (Visit.visit n e) told fine counts
