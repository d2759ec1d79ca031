-- Whose name has the place 0 after the load of an accepted file: each net's free node's, and no other's. The same words mean the load
-- whose free nodes have a name that no node of the file has.
use Rattle.std.specs.Prelude.{ℕ, ◌+◌, ◌<◌, ◌≤◌, ◌≡◌, true, get_or}
use Rattle.std.proofs.Math.Path.{refl}
use Rattle.std.proofs.Common.{sym, ap, ◌∙◌, inl, ext_get_or}
use Rattle.std.proofs.Math.Logic.{inr}
use Rattle.std.proofs.Math.Option.{some}
use mathlib.Core.List.{List, [], ◌∷◌, Memᴰ}
use Rattle.std.proofs.Math.ListN.{length, get_or-map}
use Rattle.std.proofs.lemmas.List.{length-map}
use native.Mathlib.Omega.{arith}
use Rattle.net_file.specs.Lists.{Result, ok, refuse}
use Rattle.net_file.specs.Values.{Name, FlatNode, FlatNet, File}
use Rattle.net_file.specs.Checks.{flat, ordered, wired, read}
use Rattle.net_file_laws.specs.Bytes.{Bytes}
use Rattle.net_file_laws.specs.Exact.{Each}
use Rattle.net_file_laws.specs.Flat.{NodeFits, FlatNetFits}
use Rattle.net_file_laws.specs.RoundTrip.{Spells}
use Rattle.net_file_laws.proofs.RoundTrip.{flat_write_read}
use Rattle.definitions.specs.Lists.{nth, each}
use Rattle.definitions.specs.Nets.{Home, filled, name_of}
use Rattle.definitions.specs.State.{Net, Pools, Engine, graph_of, homes, waits}
use Rattle.definitions.specs.Load.{add_flat_net, empty, included}
use Rattle.finish_laws.specs.Drawn.{keep_in}
use Rattle.step_laws.specs.Core.{core_of}
use Rattle.step_laws.specs.Edits.{Then}
use Rattle.good_laws.specs.Load.{empty_good}
use Rattle.load_laws.specs.Begin.{empty_loaded, T_true, net_fine, each_mem}
use Rattle.stored.specs.Stored.{net_count_at}
use Rattle.ends.specs.Ends.{within, on}
use Rattle.tried.specs.Tries.{name}
use Rattle.load.specs.Load as Words
use Rattle.means.specs.Means.{no_net, Means}
use Rattle.held_names.specs.Named.{Named}
use Rattle.script_means.specs.Tries.{name_read}
use Rattle.seen_means.specs.Seen.{FreePlaces}
use Rattle.load_means.specs.Start.{Fresh, fresh_means}
use Rattle.load_means.specs.Called.{no_home, none_called}
use Rattle.load_nets_means.specs.Net.{Loads}
use Rattle.load_nets_means.specs.Nets.{NetsDone, add_flat_nets_means}
use Rattle.load_file_means.specs.File.{nets_stand, file_in}
use Rattle.places_means.specs.Starred.{no_name, Starred, places_told}
use Rattle.loaded_means.specs.Only.{Only, Fine, nets_only}

-- ---- words that mean both loads

module _ (s : List ℕ) (f : File FlatNet) (w : List ℕ) (e d : Engine) (m : Means (Named s f) w e) (l : Loads (Starred s f) (length f.paths) w d) where
  many : length (homes e) ≡ length (homes d)
  many =
      length-map e.nets (λ (t : Net). t.home) ∙ sym m.header.nets_are ∙ l.means.header.nets_are ∙ sym (length-map d.nets (λ (t : Net). t.home))

  home_same : (k : ℕ) → k < length e.nets → k < length d.nets → (get_or e.nets k no_net).home ≡ (get_or d.nets k no_net).home
  home_same k h i = λ j. record {
    name = (sym (m.nets k h).name ∙ (l.means.nets k i).name) j;
    free = (sym (m.nets k h).free ∙ (l.means.nets k i).free) j;
  }

  homes_same : homes e ≡ homes d
  homes_same = ext_get_or no_home (homes e) (homes d) many (λ k h. at k (sized k h).0 (sized k h).1)
    where
      sized : (k : ℕ) → k < length (homes e) → (k < length e.nets) × (k < length d.nets)
      sized k h =
          let a : length (homes e) ≡ length e.nets = length-map e.nets (λ (t : Net). t.home) in
          let b : length (homes d) ≡ length d.nets = length-map d.nets (λ (t : Net). t.home) in
          let c = many in
          (omega arith, omega arith)

      at : (k : ℕ) → k < length e.nets → k < length d.nets → get_or (homes e) k no_home ≡ get_or (homes d) k no_home
      at k h i = get_or-map (λ (t : Net). t.home) e.nets k no_net ∙ home_same k h i ∙ sym (get_or-map (λ (t : Net). t.home) d.nets k no_net)

  free_named_lem : (j : ℕ) (h : Home) → nth (homes d) j ≡ some h → filled (graph_of d) h.free ≡ true → name_of (graph_of d) h.free ≡ no_name f
  unfolding core_of
  free_named_lem j h i t = go (l.loaded.rest.free j h i).named (name_read (Starred s f) w d l.means h.free t)
    where
      go : (name_of (graph_of d) h.free).path ≡ length f.paths → Starred s f (name w h.free) (name_of (graph_of d) h.free) → name_of (graph_of d) h.free ≡ no_name f
      go q (inl x) = x.1
      go q (inr u) = absurd (let z = u.fits.path in omega arith)

  both_places : Only (no_name f) (graph_of d) (homes d) → FreePlaces w e
  both_places only = places_told s f (homes d) w e d m l.means only free_named_lem homes_same

-- ---- the other load

module _ (s : List ℕ) (is : Bytes s) (f : File FlatNet) (accepted : read flat s ≡ ok f) (ws : List ℕ) (p : Pools) (fresh : Fresh ws p f.limit) where
  spells : Spells flat FlatNetFits s f
  spells = flat_write_read s is f accepted

  begun : Loads (Starred s f) (length f.paths) ws (empty p f)
  unfolding empty waits
  begun = record {
    means = fresh_means (Starred s f) ws p f fresh;
    good = empty_good p f;
    idle = refl;
    loaded = empty_loaded (length f.paths) p f;
    called = none_called (λ j a b. fresh.clear j (omega arith) (omega arith));
    spare = λ j a b. fresh.clear j (omega arith) (omega arith);
    dead = fresh.clear 17 (omega arith) (omega arith);
  }

  other_load : NetsDone (Starred s f) (length f.paths) (Words.load ws s) (each (add_flat_net (no_name f)) (included f) (empty p f))
  unfolding Words.load included empty
  other_load =
      let i = file_in s is f accepted in
      let h = i.inside in
      let few = i.few in
      let a : within s (net_count_at s) ≡ net_count_at s = omega arith in
      let b : on s (net_count_at s) 2 ≡ net_count_at s + 2 = omega arith in
      rw (a, b, ← i.count)
      (add_flat_nets_means (Starred s f) (length f.paths) (no_name f) refl (inl (refl, refl)) s f.nets (net_count_at s + 2) 0 ws (empty p f)
      (nets_stand s is f accepted (Starred s f) (λ a n h. inr h)) begun (λ k j. absurd (omega arith)) (omega arith))

  -- a node of the file has a name of the file
  own_names : (paths names wires : ℕ) (xs : List FlatNode) → paths ≤ length f.paths → Each (NodeFits paths names wires) xs → Each (λ (x : FlatNode). x.name ≡ no_name f → ⊥) xs
  own_names paths names wires [] l h = tt
  own_names paths names wires (x ∷ xs) l h = (λ q. (let z = h.0.name.path in let y = ap (λ (n : Name). n.path) q in omega arith), own_names paths names wires xs l h.1)

  fine : (t : FlatNet) → Memᴰ t (included f) → Fine (no_name f) t
  unfolding included
  fine t m =
      let i = (keep_in (λ (u : FlatNet). u.included) f.nets t m).0 in
      let fits = each_mem (FlatNetFits (length f.paths) (length f.names)) f.nets t spells.fits.tables.nets i in
      record {
        net = net_fine f (T_true (ordered flat f) spells.ordered) (T_true (wired flat f) spells.wired) t i;
        nodes = own_names (length f.paths) (length f.names) t.wires t.nodes (omega arith) fits.nodes;
      }

  none_has : Only (no_name f) (graph_of (empty p f)) (homes (empty p f))
  unfolding core_of empty
  none_has n h = let c = (empty_loaded (length f.paths) p f).tracked.in_range n h.0 in absurd (omega arith)

  other_only : Then (λ e. Only (no_name f) (graph_of e) (homes e)) (each (add_flat_net (no_name f)) (included f) (empty p f))
  other_only = nets_only (no_name f) (included f) (empty p f) fine (empty_loaded (length f.paths) p f) none_has

  -- of words that the load leaves
  pub load_places : (e : Engine) → (Words.load ws s).is ≡ 0 → Means (Named s f) (Words.load ws s).ws e → FreePlaces (Words.load ws s).ws e
  load_places e z m = go (each (add_flat_net (no_name f)) (included f) (empty p f)) other_load other_only
    where
      go : (r : Result Engine) → NetsDone (Starred s f) (length f.paths) (Words.load ws s) r → Then (λ e. Only (no_name f) (graph_of e) (homes e)) r → FreePlaces (Words.load ws s).ws e
      go (refuse r) a b = absurd (let x = a.0 in let y = a.1 in omega arith)
      go (ok d) a b = both_places s f (Words.load ws s).ws e d m a.1 b
