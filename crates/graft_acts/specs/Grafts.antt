-- Graft in a visit, for real: where it acts the words mean level Engine's engine, the place 0 is the free nodes' still, and the nets have their names.
use Rattle.std.specs.Prelude.{ℕ, ◌+◌, ◌<◌, ◌≤◌, ◌≡◌, refl, Bool, false, List, length, get_or, eqb}
use Rattle.std.proofs.Math.Path.{sym, ap, subst}
use Rattle.std.proofs.Common.{◌∙◌, arith}
use Rattle.std.proofs.Math.Bool.{true, true≢false}
use Rattle.std.proofs.Math.Option.{Option, none, some, some-injective}
use Rattle.net_file.specs.Lists.{Result, ok, refuse}
use Rattle.net_file.specs.Values.{FlatNet, File}
use Rattle.net_file.specs.Checks.{flat, read}
use Rattle.net_file_laws.specs.Bytes.{Bytes}
use Rattle.readers_laws.specs.Bounds.{read_bounds}
use Rattle.definitions.specs.Lists.{nth}
use Rattle.definitions.specs.Nets.{Node, Graph, Home, at, filled, holds, name_of, arity}
use Rattle.definitions.specs.State.{Net, Engine, graph_of, homes, with_slots, with_graph, with_nets, net_at, over_net}
use Rattle.definitions.specs.Books.{tighten_net, fresh}
use Rattle.definitions.specs.Visit.{Visited, acted, passed, await_net, get_net, try_graft}
use Rattle.definitions.specs.Run.{spent}
use Rattle.engine_laws.specs.Frame.{still_graph, still_frame, homes_kept, tighten_net_still}
use Rattle.good_laws.specs.Good.{bump, rest}
use Rattle.good_laws.specs.Idle.{tighten_rises}
use Rattle.good_laws.specs.Nets.{part_at}
use Rattle.waiter_laws.specs.Waiters.{waited_same}
use Rattle.graph_laws.specs.Rest.{holds_filled}
use Rattle.step_laws.specs.Numbers.{tracked_fresh}
use Rattle.reached_laws.specs.Tracks.{good_tracked}
use Rattle.reached_laws.specs.Wires.{home_at}
use Rattle.words.specs.Left.{Left}
use Rattle.edits.specs.Edits.{finish_edit_words}
use Rattle.waits.specs.Waits.{await_net_words}
use Rattle.waits.specs.declared.Awaited.{Awaited}
use Rattle.tried.specs.Tries.{name}
use Rattle.tried.specs.declared.Tried.{Tried}
use Rattle.tried.specs.declared.Tried.TheVariants.{Passed, Acted, Refused}
use Rattle.graft.specs.Graft.{graft}
use Rattle.run_slice.specs.Run.{count_step}
use Rattle.means.specs.Frame.{rest_trans}
use Rattle.waits_means.specs.Await.{Agrees}
use Rattle.waits_means.proofs.Await.{await_net_good}
use Rattle.held_names.specs.Named.{Named}
use Rattle.rule_means.specs.Built.{Built}
use Rattle.script_means.specs.Tries.{Between, name_read}
use Rattle.run_means.specs.Count.{LimitFits}
use Rattle.visit_means.specs.Tells.{Tells}
use Rattle.graft_means.specs.Ready.{graft_of, between, grafting}
use Rattle.graft_means.specs.Tests.{Children, Waits}
use Rattle.graft_means.specs.Held.{called_kept}
use Rattle.graft_means.specs.Children.{named_children}
use Rattle.acts_means.specs.Holds.{free_path_of, During, After, bump_small, bump_one, not_over, waited_there}
use Rattle.acts_means.specs.Holds as Holds
use Rattle.acts_means.specs.Alone.{Grafts}
use Rattle.places_means.specs.Renamed.{rename_if, renamed_at, renamed_net, renamed_filled, renamed_arity}
use Rattle.places_means.specs.Brought.{Has, script_keeps}
use Rattle.places_means.specs.Starred.{is_free, free_sound, no_name, Starred, star_graph, star, own_name, starred_free, free_starred, places_told}
use Rattle.places_means.specs.Ruled.{starred}
use Rattle.graft_acts.specs.Script.{one_net, graft_has}
use Rattle.graft_acts.specs.Done.{AnyGrafted, graft_tried}
use Rattle.graft_acts.specs.Waits.{graft_waits}

-- a net holds the same nodes, whatever their names
renamed_holds : (f : File FlatNet) (e : Engine) (m n : ℕ) → holds (star_graph f e) m n ≡ holds (graph_of e) m n
unfolding holds
renamed_holds f e m n = ap held (renamed_at (is_free (homes e)) (no_name f) (graph_of e) n) ∙ go (get_or (graph_of e) n none)
  where
    held : Option Node → Bool
    held o = elim o [ none ↦ false | some x ↦ eqb x.net m ]

    go : (o : Option Node) → held (rename_if (is_free (homes e)) (no_name f) (is_free (homes e) n) o) ≡ held o
    go none = refl
    go (some x) = refl

-- a wait, whatever holds then
any_wait : (N : ℕ → _ → Type 0) (l : Left Awaited) (r : Result Visited) → Agrees N l r → Waits (λ _ _. Unit {0}) l r
any_wait N l (ok (acted e)) a = a
any_wait N l (ok (passed e)) a = (a.0, tt)
any_wait N l (refuse r) a = a

module _ (s : List ℕ) (is : Bytes s) (f : File FlatNet) (accepted : read flat s ≡ ok f) (k : ℕ) (e₀ : Engine) (over : spent e₀.limit ≡ false)
    (w : List ℕ) (e : Engine) (d : During s f k e₀ w e) (n : ℕ) (own : (at (graph_of e) n).net ≡ k) (there : filled (graph_of e) n ≡ true) (other : (name_of (graph_of e) n).path ≡ free_path_of f → ⊥) where
  small : (j : ℕ) → bump k rest j ≤ 4294900000
  small j = let z = bump_small k j in omega arith

  ported : 0 < arity (graph_of e) n
  ported = d.holds.kept.1.0.ported n there

  children : Children s (name w n) (name_of (graph_of e) n)
  children = named_children s f (read_bounds s is f accepted).few_names (name_of (graph_of e) n).path other (name w n) (name_of (graph_of e) n) (name_read (Named s f) w e d.holds.means n there) refl

  free : (m : ℕ) → m < length e.nets → holds (graph_of e) m (net_at e m).home.free ≡ true
  free m l = (d.holds.kept.1.0.free m (net_at e m).home (home_at e m l)).held

  -- on the engine
  abbrev Done : List ℕ → Engine → Type 0
  Done = AnyGrafted (Named s f) (bump k rest) small k (bump_one k) s w e (Holds.between s f k e₀ over w e d) d.holds.limit (not_over s f k e₀ over w e d) n own (During s f k e₀)

  told : (lazy : Bool) → Tells (During s f k e₀) Done (graft w s lazy (k + 1) n) (try_graft lazy n e)
  told lazy =
      graft_tried (Named s f) (bump k rest) small k (bump_one k) s w e (Holds.between s f k e₀ over w e d) d.holds.limit (not_over s f k e₀ over w e d) n own (During s f k e₀)
      d ported d.holds.called children free (λ m l above. graft_waits s f k e₀ w e d n own there m l above) lazy

  -- on the engine with its free nodes renamed; node n is none of them
  own_free : is_free (homes e) n ≡ false
  own_free = go (is_free (homes e) n) refl
    where
      go : (t : Bool) → is_free (homes e) n ≡ t → is_free (homes e) n ≡ false
      go false h = h
      go true h =
          let u = free_sound (homes e) n h in
          absurd (other (ap (λ (j : ℕ). (name_of (graph_of e) j).path) (sym u.3) ∙ (d.holds.kept.1.0.free u.0 u.1 u.2).named))

  own_star : (at (graph_of (star f e)) n).net ≡ k
  unfolding with_graph with_slots
  own_star = renamed_net (is_free (homes e)) (no_name f) (graph_of e) n ∙ own

  there_star : filled (star_graph f e) n ≡ true
  there_star = renamed_filled (is_free (homes e)) (no_name f) (graph_of e) n ∙ there

  abbrev Nothing : List ℕ → Engine → Type 0
  Nothing _ _ = Unit {0}

  between_star : Between (Starred s f) (bump k rest) w (star f e)
  between_star = starred s f k e₀ over w e d

  limit_star : LimitFits (star f e).limit
  unfolding with_graph with_slots
  limit_star = d.holds.limit

  over_star : spent (star f e).limit ≡ false
  unfolding with_graph with_slots
  over_star = not_over s f k e₀ over w e d

  abbrev DoneStar : List ℕ → Engine → Type 0
  DoneStar = AnyGrafted (Starred s f) (bump k rest) small k (bump_one k) s w (star f e) between_star limit_star over_star n own_star Nothing

  told_star : (lazy : Bool) → Tells Nothing DoneStar (graft w s lazy (k + 1) n) (try_graft lazy n (star f e))
  unfolding with_graph with_slots net_at get_net
  told_star lazy =
      graft_tried (Starred s f) (bump k rest) small k (bump_one k) s w (star f e) between_star limit_star over_star n own_star Nothing
      tt (subst (λ (j : ℕ). 0 < j) (sym (renamed_arity (is_free (homes e)) (no_name f) (graph_of e) n)) ported) d.holds.called
      (subst (Children s (name w n)) (sym (own_name s f w e d.holds.means d.holds.kept.1.0 d.holds.places n there own_free)) children)
      (λ m l. renamed_holds f e m (net_at e m).home.free ∙ free m l)
      (λ m l above. any_wait (Starred s f) (await_net_words w (m + 1) n) (await_net m n (star f e))
      (await_net_good (Starred s f) w (star f e) between_star.means (bump k rest) between_star.good m n l there_star (small (at (star_graph f e) n).net) above)) lazy

  -- of the copied net only the free node has the new name
  only_free : (m : ℕ) → m < length e.nets → (i : ℕ) → holds (star_graph f e) m i ≡ true → name_of (star_graph f e) i ≡ no_name f → i ≡ (net_at (tighten_net m (star f e)) m).home.free
  unfolding with_graph with_slots net_at
  only_free m l i h q =
      let t = starred_free s f w e d.holds.means d.holds.kept.1.0 d.holds.places i (holds_filled (star_graph f e) m i h, q) in
      let u = free_sound (homes e) i t in
      let held : holds (graph_of e) u.0 i ≡ true = subst (λ (j : ℕ). holds (graph_of e) u.0 j ≡ true) u.3 (d.holds.kept.1.0.free u.0 u.1 u.2).held in
      let net : u.0 ≡ m = one_net (graph_of e) u.0 m i held (sym (renamed_holds f e m i) ∙ h) in
      let home : u.1 ≡ (net_at e m).home = some-injective u.1 (net_at e m).home (sym u.2 ∙ ap (nth (homes e)) net ∙ home_at e m l) in
      let kept : (net_at (tighten_net m (star f e)) m).home ≡ (net_at (star f e) m).home
      = part_at (λ (z : Net). z.home) (star f e) (tighten_net m (star f e)) (homes_kept (still_frame (tighten_net_still m (star f e)))) m in
      sym u.3 ∙ ap (λ (z : Home). z.free) (home ∙ sym kept)

  -- free nodes keep the new name: the copies have other numbers
  free_names : (v : List ℕ) (x : Engine) (c : DoneStar v x) (i : ℕ) (y : Home) → nth (homes e) i ≡ some y → filled (graph_of x) y.free ≡ true → name_of (graph_of x) y.free ≡ no_name f
  unfolding tighten_net over_net with_nets with_graph with_slots
  free_names v x c i y q t =
      let j = c.0 in
      let e₁ = tighten_net j (star f e) in
      let new = tracked_fresh e₁ (good_tracked (bump k rest) e₁ (between (Starred s f) (bump k rest) small w (star f e) between_star j n c.1).good) in
      let here : filled (star_graph f e) y.free ≡ true
      = renamed_filled (is_free (homes e)) (no_name f) (graph_of e) y.free ∙ holds_filled (graph_of e) i y.free (d.holds.kept.1.0.free i y q).held in
      ap (λ (g : Graph). name_of g y.free) c.2.3.nodes
      ∙ script_keeps (length e₁.nets) (fresh e₁) y.free (λ u r. true≢false (sym here ∙ ap (filled (star_graph f e)) r ∙ new.vacant u)) (star_graph f e) (graft_of (star f e) j n) c.2.4
      (subst (λ (g : Graph). filled g y.free ≡ true) c.2.3.nodes t)
      ∙ free_starred s f w e d.holds.means d.holds.kept.1.0 d.holds.places i y q

  -- both ways: the places
  after : (v : List ℕ) (e' x : Engine) → Done v e' → DoneStar v x → After s f e₀ v e'
  unfolding tighten_net over_net with_nets with_graph with_slots
  after v e' x a c =
      let m = a.0 in
      let fin = a.2.0 in
      let done = a.2.3 in
      let same : homes e' ≡ homes e = done.home ∙ homes_kept (still_frame (tighten_net_still m e)) in
      let j = c.0 in
      let copied = grafting (Starred s f) (bump k rest) small w (star f e) between_star j n c.1 in
      record {
        finished = fin;
        waited = waited_same e₀.pools.nodes (length e₀.nets) e e' (done.rises.same ∙ (tighten_rises m e).same) (waited_there s f k e₀ over w e d);
        places = places_told s f (homes e) (finish_edit_words (count_step v)) e' x fin.means c.2.0.means
            (λ i y. starred_free s f w e d.holds.means d.holds.kept.1.0 d.holds.places i
            (graft_has (no_name f) (fresh (tighten_net j (star f e))) (star_graph f e) between_star.wired
            (tracked_fresh (tighten_net j (star f e)) (good_tracked (bump k rest) (tighten_net j (star f e)) (between (Starred s f) (bump k rest) small w (star f e) between_star j n c.1).good))
            j (net_at (tighten_net j (star f e)) j).list.items copied.nodes (net_at (tighten_net j (star f e)) j).home.free n (only_free j c.1.low) i
            (subst (λ (g : Graph). Has (no_name f) g i) c.2.3.nodes y)))
            (free_names v x c) same;
        called = called_kept w (finish_edit_words (count_step v)) e e' (rest_trans a.2.1 a.2.2) same d.holds.called;
      }

  told_both : (l : Left Tried) (r q : Result Visited) → Tells (During s f k e₀) Done l r → Tells Nothing DoneStar l q → Tells (During s f k e₀) (After s f e₀) l r
  told_both l (refuse c) q h u = h
  told_both l (ok (passed e')) q h u = h
  told_both l (ok (acted e')) (ok (acted x)) h u = (h.0, after l.ws e' x h.1 u.1)
  told_both l (ok (acted e')) (ok (passed x)) h u = let y : ◌≡◌ {A = Tried} Acted Passed = sym h.0 ∙ u.0 in let z : ◌≡◌ {A = ℕ} 0 1 = cc in absurd (omega arith)
  told_both l (ok (acted e')) (refuse c) h u = let y : ◌≡◌ {A = Tried} Acted (Refused c) = sym h.0 ∙ u in let z : ◌≡◌ {A = ℕ} 0 1 = cc in absurd (omega arith)

  pub graft_tells : (lazy : Bool) → Tells (During s f k e₀) (After s f e₀) (graft w s lazy (k + 1) n) (try_graft lazy n e)
  graft_tells lazy = told_both (graft w s lazy (k + 1) n) (try_graft lazy n e) (try_graft lazy n (star f e)) (told lazy) (told_star lazy)

-- what is asked of graft in a visit of node n
pub visit_grafts : (s : List ℕ) (is : Bytes s) (f : File FlatNet) (accepted : read flat s ≡ ok f) (sets : List ℕ) (b : Built s f (length f.rules) sets) (n k : ℕ) (e₀ : Engine)
    (over : spent e₀.limit ≡ false) → (at (graph_of e₀) n).net ≡ k → filled (graph_of e₀) n ≡ true → Grafts s is f accepted sets b n k e₀ over
visit_grafts s is f accepted sets b n k e₀ over own there other lazy w e d =
    let g = still_graph d.still in
    graft_tells s is f accepted k e₀ over w e d n (ap (λ (h : Graph). (at h n).net) g ∙ own) (ap (λ (h : Graph). filled h n) g ∙ there) (λ p. other (sym (ap (λ (h : Graph). (name_of h n).path) g) ∙ p)) lazy
