-- After a rule with a script the place 0 is the free nodes' still: the rule did the same on the engine with its free nodes renamed.
use Rattle.std.specs.Prelude.{ℕ, ◌+◌, ◌≤◌, refl, Bool, true, false}
use Rattle.std.proofs.Math.Path.{◌≡◌, sym, ap}
use Rattle.std.proofs.Common.{◌∙◌, subst, arith}
use Rattle.std.proofs.Math.Option.{Option, some}
use mathlib.Core.List.{List, []}
use Rattle.net_file.specs.Lists.{Result, ok, refuse}
use Rattle.net_file.specs.Values.{Rule, annihilate, erase, commute, FlatNet, File}
use Rattle.net_file.specs.Checks.{same_name, flat, read}
use Rattle.net_file_laws.specs.Bytes.{Bytes}
use Rattle.definitions.specs.Lists.{or_else}
use Rattle.definitions.specs.Nets.{Port, Graph, port, at, filled, name_of, across}
use Rattle.definitions.specs.Scripts.{Script}
use Rattle.definitions.specs.Rules.{annihilate_script, erase_script, commute_script, interact}
use Rattle.definitions.specs.State.{Engine, graph_of, homes, with_slots, with_graph}
use Rattle.definitions.specs.Books.{fresh}
use Rattle.definitions.specs.Visit.{Visited, acted, passed, act_if}
use Rattle.definitions.specs.Run.{spent}
use Rattle.engine_laws.specs.Frame.{Body, still_graph}
use Rattle.good_laws.specs.Good.{bump, rest}
use Rattle.good_laws.specs.Scripts.{Orderly}
use Rattle.graph_laws.specs.Nodes.{Brings}
use Rattle.rule_laws.specs.Places.{Meet, meet}
use Rattle.words.specs.Left.{Left}
use Rattle.edits.specs.Edits.{finish_edit_words}
use Rattle.node_names.specs.Names.{same_name_words}
use Rattle.tried.specs.Tries.{name}
use Rattle.tried.specs.declared.Tried.{Tried}
use Rattle.tried.specs.declared.Tried.TheVariants.{Passed, Acted, Refused}
use Rattle.run_slice.specs.Run.{count_step}
use Rattle.annihilate.specs.Annihilate
use Rattle.erase.specs.Erase
use Rattle.commute.specs.Commute
use Rattle.script_means.specs.Tries.{Tries, Between}
use Rattle.annihilate_means.specs.Annihilates.{annihilate_means}
use Rattle.erase_means.specs.Erases.{erase_means}
use Rattle.commute_means.proofs.Commutes.{commute_means}
use Rattle.visit_means.specs.Tells.{Tells}
use Rattle.seen_means.specs.Seen.{FreePlaces}
use Rattle.acts_means.specs.Acted.{Untouched, DoneBy, act_tells}
use Rattle.acts_means.specs.Orderly.{pair_orderly}
use Rattle.acts_means.specs.Holds.{During, bump_small, bump_one, Places}
use Rattle.acts_means.specs.Compared.{same_own}
use Rattle.acts_means.specs.Pairs.{PairPlaces}
use Rattle.places_means.specs.Renamed.{renamed, renamed_net, renamed_filled, renamed_across}
use Rattle.places_means.specs.Brought.{Differs, Has, script_has, annihilate_brings, erase_brings, commute_brings}
use Rattle.places_means.specs.Starred.{is_free, free_sound, no_name, Starred, star_graph, star, starred_between, own_name, starred_free, free_kept, places_told}

apart_refused : (r : ℕ) → ◌≡◌ {A = Tried} Acted (Refused r) → ⊥
apart_refused r q = let z : ◌≡◌ {A = ℕ} 0 1 = cc in omega arith

apart_passed : ◌≡◌ {A = Tried} Acted Passed → ⊥
apart_passed q = let z : ◌≡◌ {A = ℕ} 0 1 = cc in omega arith

module _ (s : List ℕ) (f : File FlatNet) (k : ℕ) (e₀ : Engine) (over : spent e₀.limit ≡ false) (ws : List ℕ) (e : Engine) (d : During s f k e₀ ws e) where
  small : (j : ℕ) → bump k rest j ≤ 4294900000
  small j = let z = bump_small k j in omega arith

  not_over : spent e.limit ≡ false
  not_over = ap (λ (z : Body). spent z.0.3) d.still ∙ over

  -- a rule tried on the renamed engine too, whose new nodes are not named so
  pub rule_places : (o o' : Option Script) (t : Left Tried) → ((c : Script) → o' ≡ some c → Orderly (star f e) k c) → ((c : Script) → o' ≡ some c → Brings (Differs (no_name f)) c.edits)
      → Tries (Starred s f) ws (star f e) t o' → Places s f k e₀ over ws e d o t
  unfolding with_graph with_slots
  rule_places o o' t orders brings tries is c q e' done fin =
      go (act_if o' (star f e)) (act_tells (Starred s f) (bump k rest) k (small k) (bump_one k) ws (star f e)
      (starred_between s f ws e d.holds.means d.holds.kept.1.0 d.holds.places (bump k rest) d.holds.kept.0 d.holds.none_dead) d.holds.limit not_over o' t orders tries)
    where
      go : (r : Result Visited) → Tells (Untouched ws (star f e)) (DoneBy (Starred s f) (bump k rest) (star f e) o') t r → FreePlaces (finish_edit_words (count_step t.ws)) e'
      go (refuse r) h = let z : ◌≡◌ {A = Tried} Acted (Refused r) = sym is ∙ h in absurd (apart_refused r z)
      go (ok (passed x)) h = let z : ◌≡◌ {A = Tried} Acted Passed = sym is ∙ h.0 in absurd (apart_passed z)
      go (ok (acted x)) h =
          let b = h.1 in
          places_told s f (homes e) (finish_edit_words (count_step t.ws)) e' x fin.means b.2.means
          (λ j a. starred_free s f ws e d.holds.means d.holds.kept.1.0 d.holds.places j
          (script_has (no_name f) (star_graph f e) b.0 (brings b.0 b.1) j (subst (λ (g : Graph). Has (no_name f) g j) b.3.nodes a)))
          (λ j y i u. ap (λ (g : Graph). name_of g y.free) b.3.nodes
          ∙ free_kept s f ws e d.holds.means d.holds.kept.1.0 d.holds.places (bump k rest) d.holds.kept.0 k b.0 (orders b.0 b.1) j y i
          (subst (λ (g : Graph). filled g y.free ≡ true) b.3.nodes u))
          done.home

  -- a node that another meets, principal port to principal port, is not free
  met_own : (a b : ℕ) → across (graph_of e) (port a 0) ≡ some (port b 0) → is_free (homes e) a ≡ false
  met_own a b q = go (is_free (homes e) a) refl
    where
      go : (t : Bool) → is_free (homes e) a ≡ t → is_free (homes e) a ≡ false
      go false h = h
      go true h =
          let u = free_sound (homes e) a h in
          let w = (d.holds.kept.1.0.free u.0 u.1 u.2).wired in
          let v : ◌≡◌ {A = Option Port} (some (port u.1.free 1)) (some (port b 0)) = sym w ∙ ap (λ (j : ℕ). across (graph_of e) (port j 0)) u.3 ∙ q in
          let z : ◌≡◌ {A = ℕ} 1 0 = ap (λ (o : Option Port). (or_else o (port 0 0)).index) v in
          absurd (omega arith)

  -- what the rules' laws ask of the renamed engine
  pub starred : Between (Starred s f) (bump k rest) ws (star f e)
  starred = starred_between s f ws e d.holds.means d.holds.kept.1.0 d.holds.places (bump k rest) d.holds.kept.0 d.holds.none_dead

  module _ (a b : ℕ) (met : across (graph_of e) (port a 0) ≡ some (port b 0)) (own : (at (graph_of e) a).net ≡ k) where
    pair : Meet (graph_of e) a b
    pair = meet (graph_of e) d.holds.kept.1.0.well.wired a b met

    back : across (graph_of e) (port b 0) ≡ some (port a 0)
    back = d.holds.kept.1.0.well.wired.back (port a 0) (port b 0) met

    name_a : name_of (star_graph f e) a ≡ name_of (graph_of e) a
    name_a = own_name s f ws e d.holds.means d.holds.kept.1.0 d.holds.places a pair.filled_a (met_own a b met)

    name_b : name_of (star_graph f e) b ≡ name_of (graph_of e) b
    name_b = own_name s f ws e d.holds.means d.holds.kept.1.0 d.holds.places b pair.filled_b (met_own b a back)

    -- both are named otherwise
    other : (j : ℕ) → filled (graph_of e) j ≡ true → is_free (homes e) j ≡ false → name_of (star_graph f e) j ≡ no_name f → ⊥
    other j t h i =
        let y = starred_free s f ws e d.holds.means d.holds.kept.1.0 d.holds.places j (renamed_filled (is_free (homes e)) (no_name f) (graph_of e) j ∙ t, i) in
        let z : ◌≡◌ {A = ℕ} 0 1 = cc in
        omega arith

    met_starred : across (star_graph f e) (port a 0) ≡ some (port b 0)
    met_starred = renamed_across (is_free (homes e)) (no_name f) (graph_of e) (port a 0) ∙ met

    own_starred : (at (star_graph f e) a).net ≡ k
    own_starred = renamed_net (is_free (homes e)) (no_name f) (graph_of e) a ∙ own

    ordered : (r : Rule) (c : Script) → interact r (fresh (star f e)) (graph_of (star f e)) a b ≡ some c → Orderly (star f e) k c
    unfolding with_graph with_slots
    ordered r c q = pair_orderly (bump k rest) (star f e) starred.good starred.wired a b met_starred k own_starred r c q

    pub annihilate_places : same_name_words s (name ws a) (name ws b) ≡ same_name (name_of (graph_of e) a) (name_of (graph_of e) b)
        → Places s f k e₀ over ws e d (annihilate_script (fresh e) (graph_of e) a b) (Annihilate.annihilate ws s a b)
    unfolding interact with_graph with_slots
    annihilate_places same =
        rule_places (annihilate_script (fresh e) (graph_of e) a b) (annihilate_script (fresh (star f e)) (graph_of (star f e)) a b) (Annihilate.annihilate ws s a b)
        (ordered (annihilate [])) (annihilate_brings (no_name f) (fresh (star f e)) (graph_of (star f e)) a b)
        (annihilate_means (Starred s f) s (bump k rest) small ws (star f e) starred a b met_starred (same ∙ sym (λ i. same_name (name_a i) (name_b i))))

    pub erase_places : Places s f k e₀ over ws e d (erase_script (fresh e) (graph_of e) a b) (Erase.erase ws (k + 1) a b)
    unfolding interact with_graph with_slots
    erase_places =
        rule_places (erase_script (fresh e) (graph_of e) a b) (erase_script (fresh (star f e)) (graph_of (star f e)) a b) (Erase.erase ws (k + 1) a b)
        (ordered (erase [] []))
        (erase_brings (no_name f) (fresh (star f e)) (graph_of (star f e)) a b (other a pair.filled_a (met_own a b met)) (other b pair.filled_b (met_own b a back)))
        (erase_means (Starred s f) (bump k rest) small ws (star f e) starred a b met_starred (k + 1) (ap (λ (j : ℕ). j + 1) (sym own_starred)))

    pub commute_places : Places s f k e₀ over ws e d (commute_script (fresh e) (graph_of e) a b) (Commute.commute ws (k + 1) a b)
    unfolding interact with_graph with_slots
    commute_places =
        rule_places (commute_script (fresh e) (graph_of e) a b) (commute_script (fresh (star f e)) (graph_of (star f e)) a b) (Commute.commute ws (k + 1) a b)
        (ordered (commute [] []))
        (commute_brings (no_name f) (fresh (star f e)) (graph_of (star f e)) a b (other a pair.filled_a (met_own a b met)) (other b pair.filled_b (met_own b a back)))
        (commute_means (Starred s f) (bump k rest) small ws (star f e) starred a b met_starred (k + 1) (ap (λ (j : ℕ). j + 1) (sym own_starred)))

-- the interactions of two nodes keep the places
pub pair_places : (s : List ℕ) (is : Bytes s) (f : File FlatNet) (accepted : read flat s ≡ ok f) (n k : ℕ) (e₀ : Engine) (over : spent e₀.limit ≡ false) (m : ℕ)
    → PairPlaces s is f accepted n k e₀ over m
pair_places s is f accepted n k e₀ over m = record {
  annihilates = λ met other own w e d.
      let g = still_graph d.still in
      let q = here n m met w e d in
      let t = meet (graph_of e) d.holds.kept.1.0.well.wired n m q in
      annihilate_places s f k e₀ over w e d n m q (ap (λ (h : Graph). (at h n).net) g ∙ own)
      (same_own s is f accepted w e d.holds.means d.holds.kept.1.0 d.holds.places n t.filled_a (λ p. other (sym (ap (λ (h : Graph). (name_of h n).path) g) ∙ p)) m t.filled_b);
  erases = λ a b met own w e d. erase_places s f k e₀ over w e d a b (here a b met w e d) (ap (λ (h : Graph). (at h a).net) (still_graph d.still) ∙ own);
  commutes = λ a b met own w e d. commute_places s f k e₀ over w e d a b (here a b met w e d) (ap (λ (h : Graph). (at h a).net) (still_graph d.still) ∙ own);
}
  where
    here : (a b : ℕ) → across (graph_of e₀) (port a 0) ≡ some (port b 0) → (w : List ℕ) (e : Engine) → During s f k e₀ w e → across (graph_of e) (port a 0) ≡ some (port b 0)
    here a b q w e d = ap (λ (g : Graph). across g (port a 0)) (still_graph d.still) ∙ q
