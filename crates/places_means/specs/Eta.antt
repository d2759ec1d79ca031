-- After eta the place 0 is the free nodes' still.
use Rattle.std.specs.Prelude.{ℕ, ◌+◌, ◌<◌, refl, Bool, List, ◌++◌, length}
use Rattle.std.proofs.Math.Path.{◌≡◌, sym, ap}
use Rattle.std.proofs.Common.{◌∙◌, subst, ne_eqb}
use Rattle.std.proofs.Math.Bool.{true, false}
use native.Mathlib.Omega.{arith}
use Rattle.net_file.specs.Lists.{ok}
use Rattle.net_file.specs.Values.{Name, eta, FlatNet, File}
use Rattle.net_file.specs.Checks.{same_name, flat, read}
use Rattle.net_file_laws.specs.Bytes.{Bytes}
use Rattle.definitions.specs.Lists.{has as listed}
use Rattle.definitions.specs.Nets.{Graph, port, at, filled, name_of, arity}
use Rattle.definitions.specs.Rules.{eta_script}
use Rattle.definitions.specs.State.{Engine, graph_of, homes, with_slots, with_graph}
use Rattle.definitions.specs.Books.{fresh}
use Rattle.definitions.specs.Run.{spent}
use Rattle.engine_laws.specs.Frame.{still_graph}
use Rattle.good_laws.specs.Good.{bump, rest}
use Rattle.join_laws.specs.Ports.{across_real}
use Rattle.script_laws.specs.Tidy.{real_filled}
use Rattle.node_names.specs.Names.{same_name_words}
use Rattle.rule_sets.specs.Sets.{value, nil}
use Rattle.tried.specs.Tries.{name}
use Rattle.eta.specs.Eta.{eta_reduce}
use Rattle.rule_means.specs.Built.{rule_of, Built}
use Rattle.eta_values_means.specs.Met.{SameOnes, OnesIn}
use Rattle.eta_means.specs.Reduces.{eta_means}
use Rattle.acts_means.specs.Orderly.{eta_orderly}
use Rattle.acts_means.specs.Holds.{free_path_of, During, bump_small, Places}
use Rattle.acts_means.specs.Compared.{same_ones, same_own, values_in, nils_in}
use Rattle.acts_means.specs.Alone.{EtaPlaces, not_free}
use Rattle.places_means.specs.Renamed.{renamed_net, renamed_filled, renamed_arity, renamed_name, name_by}
use Rattle.places_means.specs.Starred.{is_free, free_sound, no_name, Starred, star_graph, star, stands, own_name, starred_free}
use Rattle.places_means.specs.Reduced.{eta_brings}
use Rattle.places_means.specs.Ruled.{rule_places, starred}

-- names of two paths
paths_apart : (m n : Name) → (m.path ≡ n.path → ⊥) → same_name m n ≡ false
unfolding same_name
paths_apart m n h = rw (ne_eqb m.path n.path h)

module _ (s : List ℕ) (is : Bytes s) (f : File FlatNet) (accepted : read flat s ≡ ok f) (sets : List ℕ) (b : Built s f (length f.rules) sets)
    (n k : ℕ) (e₀ : Engine) (over : spent e₀.limit ≡ false) (w : List ℕ) (e : Engine) (d : During s f k e₀ w e) where
  -- a free node has two ports at least, and the free path
  one_own : (a : ℕ) → arity (graph_of e) a ≡ 1 → is_free (homes e) a ≡ false
  one_own a one = go (is_free (homes e) a) refl
    where
      go : (t : Bool) → is_free (homes e) a ≡ t → is_free (homes e) a ≡ false
      go false h = h
      go true h =
          let u = free_sound (homes e) a h in
          let wired = d.holds.kept.1.0 in
          let c = wired.well.wired.back (port u.1.free 0) (port u.1.free 1) (wired.free u.0 u.1 u.2).wired in
          let r = across_real (graph_of e) (port u.1.free 1) (port u.1.free 0) c in
          let q : arity (graph_of e) u.1.free ≡ arity (graph_of e) a = ap (arity (graph_of e)) u.3 in
          absurd (omega arith)

  path_own : (a : ℕ) → is_free (homes e) a ≡ true → (name_of (graph_of e) a).path ≡ free_path_of f
  path_own a h =
      let u = free_sound (homes e) a h in
      ap (λ (j : ℕ). (name_of (graph_of e) j).path) (sym u.3) ∙ (d.holds.kept.1.0.free u.0 u.1 u.2).named

  one_there : (a : ℕ) → arity (graph_of e) a ≡ 1 → filled (graph_of e) a ≡ true
  one_there a one = real_filled (graph_of e) (port a 0) (omega arith)

  size : (a : ℕ) → arity (star_graph f e) a ≡ 1 → arity (graph_of e) a ≡ 1
  size a q = sym (renamed_arity (is_free (homes e)) (no_name f) (graph_of e) a) ∙ q

  one_name : (a : ℕ) → arity (graph_of e) a ≡ 1 → name_of (star_graph f e) a ≡ name_of (graph_of e) a
  one_name a q = own_name s f w e d.holds.means d.holds.kept.1.0 d.holds.places a (one_there a q) (one_own a q)

  ones_starred : SameOnes s w (star f e)
  unfolding with_graph with_slots
  ones_starred a c p q =
      same_ones s is f accepted w e d.holds.means d.holds.kept.1.0 d.holds.places a c (size a p) (size c q) ∙ sym (λ i. same_name (one_name a (size a p) i) (one_name c (size c q) i))

  in_starred : (test : ℕ → Bool) (paths : List ℕ) → OnesIn test paths w e → OnesIn test paths w (star f e)
  unfolding with_graph with_slots
  in_starred test paths h a p = h a (size a p) ∙ ap (λ (m : Name). listed paths m.path) (sym (one_name a (size a p)))

  module _ (there : filled (graph_of e) n ≡ true) (other : (name_of (graph_of e) n).path ≡ free_path_of f → ⊥) where
    own : is_free (homes e) n ≡ false
    own = go (is_free (homes e) n) refl
      where
        go : (t : Bool) → is_free (homes e) n ≡ t → is_free (homes e) n ≡ false
        go false h = h
        go true h = absurd (other (path_own n h))

    name_n : name_of (star_graph f e) n ≡ name_of (graph_of e) n
    name_n = own_name s f w e d.holds.means d.holds.kept.1.0 d.holds.places n there own

    same_starred : (c : ℕ) → filled (star_graph f e) c ≡ true → same_name_words s (name w n) (name w c) ≡ same_name (name_of (star_graph f e) n) (name_of (star_graph f e) c)
    same_starred c h =
        let here : filled (graph_of e) c ≡ true = sym (renamed_filled (is_free (homes e)) (no_name f) (graph_of e) c) ∙ h in
        let q = same_own s is f accepted w e d.holds.means d.holds.kept.1.0 d.holds.places n there other c here in
        go here q (is_free (homes e) c) refl
      where
        go : filled (graph_of e) c ≡ true → same_name_words s (name w n) (name w c) ≡ same_name (name_of (graph_of e) n) (name_of (graph_of e) c) → (t : Bool) → is_free (homes e) c ≡ t
            → same_name_words s (name w n) (name w c) ≡ same_name (name_of (star_graph f e) n) (name_of (star_graph f e) c)
        go here q false t = q ∙ sym (λ i. same_name (name_n i) (own_name s f w e d.holds.means d.holds.kept.1.0 d.holds.places c here t i))
        go here q true t =
            let low = (stands s f w e d.holds.means d.holds.kept.1.0 d.holds.places n there own).fits.path in
            let new : name_of (star_graph f e) c ≡ no_name f = renamed_name (is_free (homes e)) (no_name f) (graph_of e) c here ∙ ap (λ (x : Bool). name_by (is_free (homes e)) (no_name f) x (name_of (graph_of e) c)) t in
            q ∙ paths_apart (name_of (graph_of e) n) (name_of (graph_of e) c) (λ p. other (p ∙ path_own c t))
            ∙ sym ((λ i. same_name (name_n i) (new i)) ∙ paths_apart (name_of (graph_of e) n) (no_name f) (λ p. omega arith))

    reduced_places : (r : ℕ) (cs vs ns : List ℕ) → rule_of f r ≡ eta cs vs ns → (at (graph_of e) n).net ≡ k
        → Places s f k e₀ over w e d (eta_script (fresh e) (graph_of e) vs ns n) (eta_reduce w s sets r (k + 1) n)
    unfolding with_graph with_slots
    reduced_places r cs vs ns rule net =
        let m = d.holds.means in
        let wired = d.holds.kept.1.0 in
        let free = d.holds.places in
        let between = starred s f k e₀ over w e d in
        let net' : (at (star_graph f e) n).net ≡ k = renamed_net (is_free (homes e)) (no_name f) (graph_of e) n ∙ net in
        let there' : filled (star_graph f e) n ≡ true = renamed_filled (is_free (homes e)) (no_name f) (graph_of e) n ∙ there in
        rule_places s f k e₀ over w e d (eta_script (fresh e) (graph_of e) vs ns n) (eta_script (fresh (star f e)) (star_graph f e) vs ns n) (eta_reduce w s sets r (k + 1) n)
        (λ c p. eta_orderly (bump k rest) (star f e) between.good between.wired k n there' net' vs ns c p)
        (eta_brings (no_name f) (fresh (star f e)) (star_graph f e)
        (λ j one i. clash (starred_free s f w e m wired free j (real_filled (star_graph f e) (port j 0) (omega arith), i)) (one_own j (size j one))) vs ns n)
        (eta_means (Starred s f) s sets r (bump k rest) (λ j. let z = bump_small k j in omega arith) w (star f e) between ones_starred
        ns (in_starred (nil s sets r) ns (nils_in s is f accepted w e m wired free sets b r cs vs ns rule)) vs (in_starred (value s sets r) (vs ++ ns) (values_in s is f accepted w e m wired free sets b r cs vs ns rule)) n
        (subst (λ (a : ℕ). 0 < a) (sym (renamed_arity (is_free (homes e)) (no_name f) (graph_of e) n)) (wired.ported n there)) same_starred (k + 1) (ap (λ (j : ℕ). j + 1) (sym net')))
      where
        clash : {t : Bool} → t ≡ true → t ≡ false → ⊥
        clash p q = let z : ◌≡◌ {A = ℕ} 0 1 = cc in omega arith

-- eta keeps the places
pub eta_places : (s : List ℕ) (is : Bytes s) (f : File FlatNet) (accepted : read flat s ≡ ok f) (sets : List ℕ) (b : Built s f (length f.rules) sets)
    (n k : ℕ) (e₀ : Engine) (over : spent e₀.limit ≡ false) → EtaPlaces s is f accepted sets b n k e₀ over
eta_places s is f accepted sets b n k e₀ over r cs vs ns h rule l own there w e d =
    let same : graph_of e ≡ graph_of e₀ = still_graph d.still in
    reduced_places s is f accepted sets b n k e₀ over w e d (ap (λ (g : Graph). filled g n) same ∙ there)
    (λ p. not_free s is f accepted sets b n k e₀ over own there r cs vs ns h rule l (sym (ap (λ (g : Graph). (name_of g n).path) same) ∙ p)) r cs vs ns rule (ap (λ (g : Graph). (at g n).net) same ∙ own)
