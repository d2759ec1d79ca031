-- The nets of words that mean an engine of a run are the file's included nets, in its order.
use Prim.Native.Nat.{ℕ, zero, suc, ◌+◌, ◌<◌, ◌≤◌}
use Rattle.std.specs.Prelude.{◌≡◌, ◌⊎◌, Bool, Some, eqb}
use Rattle.std.proofs.Math.Path.{refl, sym, ap, subst}
use Rattle.std.proofs.Common.{◌∙◌, inl, inr, add-zero, zero-add, drop-cons}
use Rattle.std.proofs.Math.Bool.{true, false}
use mathlib.Core.List.{List, [], ◌∷◌, map}
use native.Mathlib.Omega.{arith}
use Rattle.std.proofs.Math.ListN.{length, get_or, drop, drop_of_length-le, length-map, get_or-map}
use borrow.Author.Tests.{eq-eqb, eqb-true, eqb-false}
use Rattle.words.specs.Choose.{if_eq, pick, pick_true, eq_yes, eq_no}
use Rattle.net_file.specs.Lists.{ok}
use Rattle.net_file.specs.Values.{Name, FlatNet, File}
use Rattle.net_file.specs.Checks.{flat, read}
use Rattle.fields.specs.Fields.{byte, be16}
use Rattle.stored.specs.Stored.{table_end, flat_net_end, net_count_at}
use Rattle.ends.specs.Ends.{within, on}
use Rattle.readers_laws.specs.Parts.{NetStands}
use Rattle.readers_laws.specs.Steps.{net_next}
use Rattle.readers_laws.specs.Flat.{flat_stands}
use Rattle.layout.specs.Layout.{next, nets, net_by_name, net_word_words}
use Rattle.definitions.specs.Lists.{keep}
use Rattle.definitions.specs.Nets.{Home, arity}
use Rattle.definitions.specs.State.{Pools, Engine, graph_of, homes, net_at}
use Rattle.definitions.specs.Load.{included}
use Rattle.reached_laws.specs.Accepted.{free_number}
use Rattle.reached_laws.specs.Image.{Image}
use Rattle.means.specs.Means.{no_net, Means}
use Rattle.image_nets.specs.Nets.{called, net_holds, free_holds, numbered, after_net, counted, included_hold, name_holds, names_hold, nets_hold}
use Rattle.marks.specs.Tests.{other, most}
use Rattle.image_means.specs.Yes.{same_yes, most_yes, given_yes, each_yes}
use Rattle.image_means.specs.Tidy.{Tidy}
use Rattle.image_nets_means.specs.Free.{free_passes}

module _ (Named : ℕ → Name → Type 0) (s : List ℕ) (f : File FlatNet) (reads : read flat s ≡ ok f) (ws : List ℕ) (e : Engine) (m : Means Named ws e)
    (t : Tidy s ws e) (p : Pools) (image : Image p f e) where
  -- net k of the run is the file's net v: its name, and 2 more ports than its free ports
  abbrev NetOf : ℕ → FlatNet → Type 0
  NetOf k v = (k < length e.nets) × ((net_at e k).home.name ≡ v.name) × (arity (graph_of e) (net_at e k).home.free ≡ 2 + length v.free)

  -- the nets from k on are these
  abbrev NetsFrom : ℕ → List FlatNet → Type 0
  NetsFrom k [] = k ≡ length e.nets
  NetsFrom k (v ∷ vs) = NetOf k v × NetsFrom (k + 1) vs

  ports : Home → ℕ
  ports h = arity (graph_of e) h.free

  nets_from : (hs : List Home) (vs : List FlatNet) (k : ℕ) → ((j : ℕ) → j < length hs → (net_at e (k + j)).home ≡ get_or hs j no_net.home) → k + length hs ≡ length e.nets
      → map (λ (h : Home). h.name) hs ≡ map (λ (v : FlatNet). v.name) vs → map ports hs ≡ map (λ (v : FlatNet). 2 + length v.free) vs → NetsFrom k vs
  unfolding ports
  nets_from [] [] k g l n a = omega arith
  nets_from [] (v ∷ vs) k g l n a = absurd (let z : 0 ≡ suc (length (map (λ (v : FlatNet). v.name) vs)) = ap (λ (l : List ℕ). length l) n in omega arith)
  nets_from (h ∷ hs) [] k g l n a = absurd (let z : suc (length (map (λ (h : Home). h.name) hs)) ≡ 0 = ap (λ (l : List ℕ). length l) n in omega arith)
  nets_from (h ∷ hs) (v ∷ vs) k g l n a =
      let i : (net_at e k).home ≡ h = subst (λ (j : ℕ). (net_at e j).home ≡ h) (add-zero k) (g 0 (omega arith)) in (
        (omega arith, ap (λ (x : Home). x.name) i ∙ ap (λ (l : List ℕ). get_or l 0 0) n, ap (λ (x : Home). arity (graph_of e) x.free) i ∙ ap (λ (l : List ℕ). get_or l 0 0) a),
        nets_from hs vs (k + 1) (λ j b. let y : k + 1 + j ≡ k + suc j = omega arith in rw y (g (suc j) (omega arith))) (omega arith) (ap (drop 1) n) (ap (drop 1) a),
      )

  all_nets : NetsFrom 0 (included f)
  unfolding net_at ports
  all_nets = nets_from (homes e) (included f) 0 (λ j b. rw (zero-add j) (sym (get_or-map (λ n. n.home) e.nets j no_net))) (zero-add _ ∙ length-map e.nets (λ n. n.home)) image.file.names image.ports

  -- ---- one net

  name_is : (k : ℕ) → k < length e.nets → net_word_words ws (k + 1) 0 ≡ (net_at e k).home.name
  unfolding net_at
  name_is k h = (m.nets k h).name

  -- net k is the one that stands at a place
  net_passes : (k at : ℕ) (v : FlatNet) → NetStands s v at → NetOf k v → net_holds ws s (k + 1) at ≡ true
  unfolding net_holds called
  net_passes k at v st o =
      let n : (net_at e k).home.name ≡ be16 s at = o.1 ∙ st.name in
      let a : arity (graph_of e) (net_at e k).home.free ≡ 2 + byte s (at + 7) = o.2 ∙ ap (λ j. 2 + j) st.free_count in
      given_yes _ _
      (same_yes _ _ _ (name_is k o.0 ∙ n) (eq-eqb (net_by_name ws (be16 s at)) (k + 1) (subst (λ (j : ℕ). net_by_name ws j ≡ k + 1) n (t.by_name k o.0))))
      (subst (λ (j : ℕ). free_holds ws (k + 1) j ≡ true) a
      (free_passes Named s ws e m t (λ _. 0) image.books (free_number f) image.wired k o.0))

  -- ---- all of them

  place : ℕ → ℕ
  place i = within s (table_end (flat_net_end s) (net_count_at s + 2) i)

  -- the file's net i, and those after it
  blank : FlatNet
  blank = record { name = 0; included = false; wires = 0; free = []; pairs = []; nodes = [] }

  after_included : (k at : ℕ) (v : FlatNet) → NetStands s v at → NetOf k v → v.included ≡ true → after_net ws s (k + 1) at ≡ Some (k + 2)
  unfolding after_net numbered
  after_included k at v st o y =
      let b = m.header.few_nets in
      let h = o.0 in
      let z : next (k + 1) ≡ k + 2 = omega arith in
      let some : Some (k + 2) ≡ numbered (next (k + 1)) = eq_no (next (k + 1)) 0 _ _ (λ q. omega arith) (ap Some (sym z)) in
      sym (eq_yes (byte s (at + 2)) 1 _ _ (eqb-true (byte s (at + 2)) 1 (sym st.included ∙ y)) (pick_true _ _ _ (net_passes k at v st o) some))

  after_passed : (k at : ℕ) (v : FlatNet) → NetStands s v at → v.included ≡ false → after_net ws s (k + 1) at ≡ Some (k + 1)
  unfolding after_net numbered
  after_passed k at v st y =
      let some : Some (k + 1) ≡ numbered (k + 1) = eq_no (k + 1) 0 _ _ (λ q. omega arith) refl in
      sym (eq_no (byte s (at + 2)) 1 _ _ (eqb-false (byte s (at + 2)) 1 (sym st.included ∙ y)) some)

  stands : (i : ℕ) → i < length f.nets → NetStands s (get_or f.nets i blank) (place i)
  unfolding place
  stands i h = (flat_stands s f reads).net i (within s (table_end (flat_net_end s) (net_count_at s + 2) i)) blank h refl

  on_to : (i : ℕ) → within s (flat_net_end s (place i)) ≡ place (suc i)
  unfolding place
  on_to i = let y : suc i ≡ i + 1 = omega arith in rw y (net_next s (net_count_at s + 2) i _ _ refl refl)

  -- past net i, to net u of the run
  past : (c i k u : ℕ) → after_net ws s (k + 1) (place i) ≡ Some (u + 1) → included_hold ws s (place (suc i)) (u + 1) c ≡ true → included_hold ws s (place i) (k + 1) (suc c) ≡ true
  unfolding included_hold
  past c i k u ea ih = rw (ea, on_to i) ih

  included_from : (c i k : ℕ) → i + c ≡ length f.nets → NetsFrom k (keep (λ u. u.included) (drop i f.nets)) → included_hold ws s (place i) (k + 1) c ≡ true
  unfolding included_hold counted
  included_from zero i k l n =
      let d : drop i f.nets ≡ [] = drop_of_length-le f.nets {i = i} (omega arith) in
      let q : k ≡ length e.nets = rw d at n in
      let a = m.header.nets_are in
      let b = m.header.few_nets in
      eq-eqb (k + 1) (next (nets ws)) (omega arith)
  included_from (suc c) i k l n =
      go (get_or f.nets i blank).included refl (rw (drop-cons f.nets i blank (omega arith)) at n) (λ j q. included_from c (suc i) j (omega arith) q)
    where
      go : (b : Bool) → (get_or f.nets i blank).included ≡ b
          → NetsFrom k (elim b as (λ _. List FlatNet) [ true ↦ get_or f.nets i blank ∷ keep (λ u. u.included) (drop (suc i) f.nets) | false ↦ keep (λ u. u.included) (drop (suc i) f.nets) ])
          → ((j : ℕ) → NetsFrom j (keep (λ u. u.included) (drop (suc i) f.nets)) → included_hold ws s (place (suc i)) (j + 1) c ≡ true)
          → included_hold ws s (place i) (k + 1) (suc c) ≡ true
      go true y n ih = past c i k (k + 1) (after_included k (place i) (get_or f.nets i blank) (stands i (omega arith)) n.0 y ∙ (let same : k + 2 ≡ k + 1 + 1 = omega arith in ap Some same)) (ih (k + 1) n.1)
      go false y n ih = past c i k k (after_passed k (place i) (get_or f.nets i blank) (stands i (omega arith)) y) (ih k n)

  -- ---- names

  name_passes : (n : ℕ) → n < 1024 → name_holds ws n ≡ true
  unfolding name_holds
  name_passes n h = go (t.names n h)
    where
      go : (net_by_name ws n ≡ 0) ⊎ ((k : ℕ) × (k < length e.nets) × (net_by_name ws n ≡ k + 1) × ((net_at e k).home.name ≡ n))
          → if_eq (net_by_name ws n) 0 true (most (net_by_name ws n) (nets ws) (eqb (net_word_words ws (net_by_name ws n) 0) n)) ≡ true
      go (inl z) = sym (eq_yes _ 0 _ _ z refl)
      go (inr q) =
          let a = m.header.nets_are in
          let k = q.0 in
          let l = q.1 in
          rw q.2 (sym (eq_no (k + 1) 0 _ _ (omega arith) (sym (most_yes (k + 1) (nets ws) _ (omega arith) (eq-eqb (net_word_words ws (k + 1) 0) n (name_is k l ∙ q.3))))))

  names_pass : names_hold ws ≡ true
  unfolding names_hold
  names_pass = each_yes (name_holds ws) 0 1024 (omega arith) (λ j l h. name_passes j (omega arith))

  -- `nets-hold` answers yes
  pub nets_pass : nets_hold ws s ≡ true
  unfolding nets_hold included place table_end
  nets_pass =
      let st = flat_stands s f reads in
      let z : net_count_at s + 2 ≤ length s = st.net_inside 0 (omega arith) in
      let at : within s (net_count_at s) ≡ net_count_at s = omega arith in
      rw (at, ← st.net_count) (given_yes _ _ (included_from (length f.nets) 0 0 (zero-add _) all_nets) names_pass)
