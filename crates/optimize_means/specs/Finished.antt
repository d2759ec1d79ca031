-- Words that hold a run that was reached and call its nets by their names: finish gives on them what level Engine gives.
use Rattle.std.specs.Prelude.{ℕ, zero, suc, ◌+◌, ◌<◌, ◌≤◌, ◌≡◌, refl, ◌≢◌, true}
use Rattle.std.proofs.Math.Path.{sym, ap}
use Rattle.std.proofs.Common.{◌∙◌, subst}
use Rattle.std.proofs.lemmas.Bool.{false≢true}
use Rattle.std.proofs.Math.Option.{Option, none, some, some-injective}
use mathlib.Core.List.{List, [], ◌∷◌, map, Memᴰ}
use Rattle.std.proofs.Math.ListN.{length, get_or, length-map}
use Rattle.std.proofs.Math.Dec.{eqb}
use borrow.Author.Tests.{eqb-true}
use native.Mathlib.Omega.{arith}
use Rattle.net_file.specs.Lists.{ok}
use Rattle.net_file.specs.Values.{FlatNet, File}
use Rattle.net_file.specs.Checks.{flat, read}
use Rattle.net_file_laws.specs.Bytes.{Bytes}
use Rattle.net_file_laws.specs.Flat.{FlatNetFits}
use Rattle.net_file_laws.proofs.RoundTrip.{flat_write_read}
use Rattle.definitions.specs.Lists.{nth, up_to}
use Rattle.definitions.specs.Nets.{Home, holds, name_of}
use Rattle.definitions.specs.State.{Net, Pools, Engine, graph_of, homes, net_at}
use Rattle.definitions.specs.Load.{included}
use Rattle.definitions.specs.Visit.{get_net}
use Rattle.definitions.specs.Finish
use Rattle.definitions.specs.Calls.{pools_fit, deliver}
use Rattle.graph_laws.specs.Rest.{holds_filled}
use Rattle.good_laws.specs.Owners.{owners, is_of, holds_owner}
use Rattle.good_laws.specs.Good.{rest}
use Rattle.good_laws.specs.Turned.{named_below}
use Rattle.load_laws.specs.Begin.{each_mem}
use Rattle.finish_laws.specs.Drawn.{keep_in}
use Rattle.fuel_laws.specs.Reached.{Reached}
use Rattle.reached_laws.specs.Wires.{find_true, home_at}
use Rattle.reached_laws.specs.Image.{Image, reached_image}
use Rattle.words.specs.Choose.{lt_split}
use Rattle.layout.specs.Layout.{node_word, net_by_name}
use Rattle.means.specs.Names.{net_word}
use Rattle.held_names.specs.Named.{Stands, Named, named_stands}
use Rattle.script_means.specs.Tries.{name_read}
use Rattle.acts_means.specs.Holds.{Holds}
use Rattle.result_held.specs.Held.{Places}
use Rattle.finishing.specs.Finishing.{run_result}
use Rattle.finish_means.specs.Delivered.{Delivers, delivered_is}

module _ {A : Type 0} where
  nth_there : (xs : List A) (j : ℕ) → j < length xs → (x : A) × (nth xs j ≡ some x) × Memᴰ x xs
  nth_there [] j h = absurd (omega arith)
  nth_there (x ∷ xs) zero h = (x, refl, Memᴰ.head refl)
  nth_there (x ∷ xs) (suc j) h = let r = nth_there xs j (omega arith) in (r.0, r.1, Memᴰ.tail r.2)

  nth_get : (f : A → ℕ) (xs : List A) (j : ℕ) (x : A) → nth xs j ≡ some x → get_or (map f xs) j 0 ≡ f x
  nth_get f [] j x e = let z : ◌≡◌ {A = ℕ} 0 1 = cc in absurd (omega arith)
  nth_get f (y ∷ xs) zero x e = ap f (some-injective y x e)
  nth_get f (y ∷ xs) (suc j) x e = nth_get f xs j x e

module _ (s : List ℕ) (is : Bytes s) (f : File FlatNet) (accepted : read flat s ≡ ok f) (p : Pools) (fit : pools_fit p ≡ true)
    (ws : List ℕ) (e : Engine) (h : Holds s f rest ws e) (reached : Reached p f e) where
  image : Image p f e
  image = reached_image s is f accepted p fit reached

  -- a node has one net, which is one of the nets
  owner_of : (k n : ℕ) → holds (graph_of e) k n ≡ true → get_or (owners (graph_of e)) n none ≡ some k
  owner_of k n i = go (get_or (owners (graph_of e)) n none) refl (sym (holds_owner (graph_of e) k n) ∙ i)
    where
      go : (o : Option ℕ) → get_or (owners (graph_of e)) n none ≡ o → is_of k o ≡ true → get_or (owners (graph_of e)) n none ≡ some k
      go none q x = absurd (false≢true x)
      go (some j) q x = q ∙ ap {B = Option ℕ} some (eqb-true j k x)

  below : (k n : ℕ) → holds (graph_of e) k n ≡ true → k < length e.nets
  below k n i = image.books.slotted.owned n k (owner_of k n i)

  placed : (k n : ℕ) → holds (graph_of e) k n ≡ true → n ≢ (net_at e k).home.free → node_word ws n 1 ≢ 0
  placed k n i d z =
      let u = h.places.0 n (image.wired.ported n (holds_filled (graph_of e) k n i)) z in
      let held = (image.wired.free u.0 u.1 u.2).held in
      let here : holds (graph_of e) u.0 n ≡ true = subst (λ (j : ℕ). holds (graph_of e) u.0 j ≡ true) u.3 held in
      let same : u.0 ≡ k = some-injective u.0 k (sym (owner_of u.0 n here) ∙ owner_of k n i) in
      let home : u.1 ≡ (net_at e k).home = some-injective u.1 (net_at e k).home (sym u.2 ∙ ap (nth (homes e)) same ∙ home_at e k (below k n i)) in
      d (sym u.3 ∙ ap (λ (x : Home). x.free) home)

  stands : (k n : ℕ) → holds (graph_of e) k n ≡ true → n ≢ (net_at e k).home.free → Stands s f (node_word ws n 1) (name_of (graph_of e) n)
  stands k n i d =
      named_stands s f (node_word ws n 1) (name_of (graph_of e) n) (name_read (Named s f) ws e h.means n (holds_filled (graph_of e) k n i)) (placed k n i d)

  places : Places ws s e
  places = record {
    free = λ k n i q.
        ap (λ (j : ℕ). node_word ws j 1) q
        ∙ h.places.1 k (net_at e k).home (home_at e k (below k n i)) (holds_filled (graph_of e) k (net_at e k).home.free (subst (λ (j : ℕ). holds (graph_of e) k j ≡ true) q i));
    placed = placed;
    inside = λ k n i d. (stands k n i d).inside;
    name = λ k n i d. (stands k n i d).is;
  }

  -- a net's name is below 1,024
  low : (k : ℕ) → k < length e.nets → (net_at e k).home.name < 1024
  unfolding included
  low k i =
      let many : length (homes e) ≡ length e.nets = length-map e.nets (λ (t : Net). t.home) in
      let names : length (included f) ≡ length (homes e) =
      sym (length-map (included f) (λ (t : FlatNet). t.name)) ∙ ap (λ (l : List ℕ). length l) (sym image.file.names) ∙ length-map (homes e) (λ (x : Home). x.name) in
      let t = nth_there (included f) k (omega arith) in
      let same : (net_at e k).home.name ≡ t.0.name =
      sym (nth_get (λ (x : Home). x.name) (homes e) k (net_at e k).home (home_at e k i)) ∙ ap (λ (l : List ℕ). get_or l k 0) image.file.names ∙ nth_get (λ (t : FlatNet). t.name) (included f) k t.0 t.1 in
      let fits = (flat_write_read s is f accepted).fits.tables in
      let few = fits.few_names in
      let own = (each_mem (FlatNetFits (length f.paths) (length f.names)) f.nets t.0 fits.nets (keep_in (λ (t : FlatNet). t.included) f.nets t.0 t.2).0).name in
      omega arith

  name_found : (c k : ℕ) → get_net e c ≡ some k → (net_at e k).home.name ≡ c
  unfolding get_net
  name_found c k q = eqb-true (net_at e k).home.name c (find_true (λ j. eqb (net_at e j).home.name c) (up_to (length e.nets)) k q)

  none_high : (c : ℕ) → 1024 ≤ c → 0 ≡ net_word (get_net e c)
  none_high c h = go (get_net e c) refl
    where
      go : (o : Option ℕ) → get_net e c ≡ o → 0 ≡ net_word o
      go none q = refl
      go (some k) q = let l = low k (named_below e c k q) in let z = name_found c k q in absurd (omega arith)

  named : (c : ℕ) → net_by_name ws c ≡ net_word (get_net e c)
  unfolding net_by_name
  named c = lt_split c 1024 (get_or ws (64 + c) 0) 0 (λ (x : ℕ). x ≡ net_word (get_net e c)) (λ i. h.called c i) (λ i. none_high c i)

  -- the same bytes, or 15
  pub run_delivers : (out : List ℕ) → length out < 18446744073709551616 → Delivers ws out (run_result ws s out) (deliver (length out) (Finish.result f e))
  run_delivers out size = delivered_is (Named s f) ws e h.means s is f accepted p fit image places named out size
