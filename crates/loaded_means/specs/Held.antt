-- What the load of an accepted file leaves is what holds of a run between turns.
use Rattle.std.specs.Prelude.{ℕ, ◌+◌, ◌<◌, ◌≡◌, refl, true, List, length, get_or}
use Rattle.std.proofs.Common.{sym, ap, ◌∙◌, subst, arith}
use Rattle.std.proofs.Math.Option.{Option, none, some}
use Rattle.std.proofs.lemmas.List.{length-map}
use Rattle.net_file.specs.Lists.{Result, ok, refuse}
use Rattle.net_file.specs.Values.{FlatNet, File}
use Rattle.net_file.specs.Checks.{flat, read}
use Rattle.net_file_laws.specs.Bytes.{Bytes}
use Rattle.net_file_laws.specs.Body
use Rattle.net_file_laws.proofs.RoundTrip.{flat_write_read}
use Rattle.definitions.specs.Nets.{Home}
use Rattle.definitions.specs.State.{Net, Pools, Engine, homes}
use Rattle.definitions.specs.Load.{included, load}
use Rattle.definitions.specs.Visit.{get_net}
use Rattle.definitions.specs.Calls.{pools_fit}
use Rattle.good_laws.specs.Good.{rest}
use Rattle.waiter_laws.specs.Waiters.{Waited}
use Rattle.fuel_laws.specs.Reached.{loads}
use Rattle.reached_laws.specs.Accepted.{begins}
use Rattle.reached_laws.specs.Files.{LimitLeft}
use Rattle.reached_laws.specs.Image.{Image, reached_image}
use Rattle.words.specs.Left.{Left}
use Rattle.load.specs.Load as Words
use Rattle.held_names.specs.Named.{Named}
use Rattle.seen_means.specs.Seen.{FreePlaces}
use Rattle.run_means.specs.Count.{LimitFits}
use Rattle.acts_means.specs.Holds.{free_path_of, Holds}
use Rattle.load_means.specs.Start.{Fresh}
use Rattle.load_means.proofs.Called.{called_word}
use Rattle.load_nets_means.specs.Net.{Loads}
use Rattle.load_nets_means.specs.Nets.{NetsDone}
use Rattle.load_file_means.specs.File.{load_read_means}
use Rattle.loaded_means.specs.Places.{load_places}

-- how a load on the words ends, by what level Engine answers
abbrev pub LoadEnds : List ℕ → File FlatNet → Left ℕ → Result Engine → Type 0
LoadEnds s f l (ok e) = (l.is ≡ 0) × Holds s f rest l.ws e
LoadEnds s f l (refuse r) = (l.is ≡ r) × (0 < r)

-- what is left of a file's limit fits a word
limit_fits : (o l : Option ℕ) (taken : ℕ) → Body.LimitFits o → LimitLeft o taken l → LimitFits l
limit_fits none l taken h q = subst LimitFits (sym q) tt
limit_fits (some n) l taken h q = subst LimitFits (sym q.1) (let z = q.2 in omega arith)

module _ (s : List ℕ) (is : Bytes s) (f : File FlatNet) (accepted : read flat s ≡ ok f) (p : Pools) (fit : pools_fit p ≡ true) where
  module _ (e : Engine) (q : load p f ≡ ok e) (w : List ℕ) (l : Loads (Named s f) (free_path_of f) w e) (places : FreePlaces w e) where
    image : Image p f e
    image = reached_image s is f accepted p fit (loads q)

    many : length e.nets ≡ length (included f)
    many =
        sym (length-map e.nets (λ (t : Net). t.home)) ∙ sym (length-map (homes e) (λ (h : Home). h.name)) ∙ ap (λ (l : List ℕ). length l) image.file.names
        ∙ length-map (included f) (λ (t : FlatNet). t.name)

    pub loaded_holds : Holds s f rest w e
    loaded_holds = record {
      means = l.means;
      none_dead = l.dead;
      kept = (l.good, begins s is f accepted p fit e q, image.idle);
      waited = subst (λ (r : Pools). Waited r.nodes (length e.nets) e) (sym image.file.pools) (subst (λ (m : ℕ). Waited p.nodes m e) (sym many) image.waits);
      places = places;
      rules = image.file.rules;
      limit = limit_fits f.limit e.limit e.steps (flat_write_read s is f accepted).fits.limit image.file.limit;
      called = called_word w e l.called;
    }

  -- the load on fresh words
  pub load_holds : (ws : List ℕ) → Fresh ws p f.limit → LoadEnds s f (Words.load ws s) (load p f)
  load_holds ws fresh = go (load p f) refl (load_read_means s is f accepted ws p fresh)
    where
      go : (r : Result Engine) → load p f ≡ r → NetsDone (Named s f) (free_path_of f) (Words.load ws s) r → LoadEnds s f (Words.load ws s) r
      go (refuse r) q d = d
      go (ok e) q d =
          let z = load_places s is f accepted ws p fresh e d.0 d.1.means in
          (d.0, loaded_holds e q (Words.load ws s).ws d.1 z)
