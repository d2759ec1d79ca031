-- The engine with its free nodes renamed to a name that no node of the file has: the words mean it too, and it tells which nodes may have the place 0.
use Rattle.std.specs.Prelude.{ℕ, zero, suc, ◌<◌, ◌≤◌, ◌⊎◌, Bool, ◌||◌, List, [], ◌∷◌, length, eqb}
use Rattle.std.proofs.Math.Path.{◌≡◌, refl, ap, subst}
use Rattle.std.proofs.Common.{sym, ◌∙◌, eqb-true, eq-eqb, arith}
use Rattle.std.proofs.Math.Logic.{inl, inr}
use Rattle.std.proofs.Math.Bool.{true, false, true≢false}
use Rattle.std.proofs.Math.Option.{Option, none, some, some-injective}
use Rattle.std.proofs.Math.ListN.{get_or}
use Rattle.std.proofs.Math.Decide.{dec_lt}
use Rattle.net_file.specs.Lists.{any}
use Rattle.net_file.specs.Values.{Name, FlatNet, File}
use Rattle.definitions.specs.Lists.{or_else, is_some, nth}
use Rattle.definitions.specs.Nets.{Node, Graph, Home, port, nowhere, at, filled, name_of, arity}
use Rattle.definitions.specs.Scripts.{Script, apply_script}
use Rattle.definitions.specs.Step.{Fresh}
use Rattle.definitions.specs.State.{Engine, graph_of, homes, with_slots, with_graph, entries, waits}
use Rattle.definitions.specs.Books.{fresh}
use Rattle.good_laws.specs.Good.{Good}
use Rattle.good_laws.specs.Scripts.{Orderly}
use Rattle.good_laws.specs.Marks.{rewired_good}
use Rattle.join_laws.specs.Ports.{Frame, frame_of, frame, filled_frame}
use Rattle.script_laws.specs.Tidy.{real_filled}
use Rattle.graph_laws.specs.Rest.{Rest, holds_filled}
use Rattle.step_laws.specs.Numbers.{tracked_fresh}
use Rattle.reached_laws.specs.Tracks.{good_tracked}
use Rattle.layout.specs.Layout.{dead, node_word}
use Rattle.tried.specs.Tries.{name}
use Rattle.means.specs.Means.{number, SlotIs, Means}
use Rattle.held_names.specs.Named.{Stands, Named, named_stands}
use Rattle.script_means.specs.Tries.{Between, name_read, net_read}
use Rattle.seen_means.specs.Seen.{FreePlaces}
use Rattle.acts_means.specs.Holds.{free_path_of}
use Rattle.places_means.specs.Renamed.{name_by, rename_if, renamed, renamed_at, renamed_owners, renamed_filled, renamed_arity, renamed_follow, renamed_name, renamed_well}
use Rattle.places_means.specs.Brought.{Has, script_keeps}

-- n is the number of a net's free node
abbrev pub is_free : List Home → ℕ → Bool
is_free hs n = any (λ (h : Home). eqb h.free n) hs

or_true : (b : Bool) → (b || true) ≡ true
or_true true = refl
or_true false = refl

-- of these nets
abbrev FreeOf : List Home → ℕ → Type 0
FreeOf hs n = (j : ℕ) × (h : Home) × (nth hs j ≡ some h) × (h.free ≡ n)

pub free_sound : (hs : List Home) (n : ℕ) → is_free hs n ≡ true → (j : ℕ) × (h : Home) × (nth hs j ≡ some h) × (h.free ≡ n)
free_sound [] n q = let z : ◌≡◌ {A = ℕ} 0 1 = cc in absurd (omega arith)
free_sound (h ∷ hs) n q = go (eqb h.free n) refl q (free_sound hs n)
  where
    go : (t : Bool) → eqb h.free n ≡ t → (t || is_free hs n) ≡ true → (is_free hs n ≡ true → FreeOf hs n) → FreeOf (h ∷ hs) n
    go true i q r = (0, h, refl, eqb-true h.free n i)
    go false i q r = let t = r q in (suc t.0, t.1, t.2, t.3)

pub free_complete : (hs : List Home) (j : ℕ) (h : Home) → nth hs j ≡ some h → is_free hs h.free ≡ true
free_complete [] j h q = let z : ◌≡◌ {A = ℕ} 0 1 = cc in absurd (omega arith)
free_complete (x ∷ hs) zero h q = let i : x ≡ h = some-injective x h q in ap (λ (b : Bool). b || is_free hs h.free) (eq-eqb x.free h.free (ap (λ (y : Home). y.free) i))
free_complete (x ∷ hs) (suc j) h q = ap (λ (b : Bool). eqb x.free h.free || b) (free_complete hs j h q) ∙ or_true (eqb x.free h.free)

-- a name that no node of the file has: its path is past the table
abbrev pub no_name : File FlatNet → Name
no_name f = record { path = length f.paths; payload = 0; children = [] }

-- the place 0 means that name, another place what stands there
abbrev pub Starred : List ℕ → File FlatNet → ℕ → Name → Type 0
Starred s f p m = ((p ≡ 0) × (m ≡ no_name f)) ⊎ Stands s f p m

-- the engine with its free nodes renamed
abbrev pub star_graph : File FlatNet → Engine → Graph
star_graph f e = renamed (is_free (homes e)) (no_name f) (graph_of e)

abbrev pub star : File FlatNet → Engine → Engine
star f e = with_graph (star_graph f e) e

module _ (s : List ℕ) (f : File FlatNet) (ws : List ℕ) (e : Engine) (m : Means (Named s f) ws e) (wired : Rest (free_path_of f) (homes e) (graph_of e)) (free : FreePlaces ws e) where
  abbrev K : ℕ → Bool
  K n = is_free (homes e) n

  -- a node that is not free stands in the file
  pub stands : (n : ℕ) → filled (graph_of e) n ≡ true → K n ≡ false → Stands s f (name ws n) (name_of (graph_of e) n)
  stands n t k = named_stands s f (name ws n) (name_of (graph_of e) n) (name_read (Named s f) ws e m n t) placed
    where
      placed : name ws n ≡ 0 → ⊥
      placed z =
          let h = free.0 n (wired.ported n t) z in
          let q : is_free (homes e) n ≡ true = subst (λ (j : ℕ). is_free (homes e) j ≡ true) h.3 (free_complete (homes e) h.0 h.1 h.2) in
          let c : ◌≡◌ {A = ℕ} 0 1 = cc in
          omega arith

  slot_starred : (n : ℕ) → n < e.pools.nodes → SlotIs (Starred s f) ws n (frame (star_graph f e) n)
  unfolding frame name_of at filled
  slot_starred n l = subst (λ (o : Option Node). SlotIs (Starred s f) ws n (frame_of o)) (sym (renamed_at K (no_name f) (graph_of e) n)) (go (get_or (graph_of e) n none) refl (m.nodes.slot n l))
    where
      by : (x : Node) → get_or (graph_of e) n none ≡ some x → (t : Bool) → K n ≡ t → Starred s f (node_word ws n 1) (name_by K (no_name f) t x.name)
      by x q true k =
          let u = free_sound (homes e) n k in
          let there : filled (graph_of e) u.1.free ≡ true = ap (filled (graph_of e)) u.3 ∙ ap (λ (o : Option Node). is_some o) q in
          inl (ap (name ws) (sym u.3) ∙ free.1 u.0 u.1 u.2 there, refl)
      by x q false k =
          inr (subst (Stands s f (name ws n)) (ap (λ (o : Option Node). (or_else o nowhere).name) q) (stands n (ap (λ (o : Option Node). is_some o) q) k))

      go : (o : Option Node) → get_or (graph_of e) n none ≡ o → SlotIs (Named s f) ws n (frame_of o) → SlotIs (Starred s f) ws n (frame_of (rename_if K (no_name f) (K n) o))
      go none q u = u
      go (some x) q u = (u.0, by x q (K n) refl, u.2)

  vacant_starred : (n : ℕ) → e.pools.nodes ≤ n → frame (star_graph f e) n ≡ none
  unfolding frame
  vacant_starred n l = ap (λ (o : Option Node). frame_of o) (renamed_at K (no_name f) (graph_of e) n) ∙ go (get_or (graph_of e) n none) (m.nodes.inside n l)
    where
      go : (o : Option Node) → frame_of o ≡ none → frame_of (rename_if K (no_name f) (K n) o) ≡ none
      go none h = refl
      go (some x) h = let z : ◌≡◌ {A = ℕ} 0 1 = cc in absurd (omega arith)

  pub starred_means : Means (Starred s f) ws (star f e)
  unfolding with_graph with_slots entries waits
  starred_means = record {
    header = m.header;
    used = m.used;
    nodes = record {
      slot = slot_starred;
      port = λ p r. m.nodes.port p (subst (λ (a : ℕ). p.index < a) (renamed_arity K (no_name f) (graph_of e) p.node) r) ∙ ap number (sym (renamed_follow K (no_name f) (graph_of e) p));
      few = λ n. subst (λ (a : ℕ). a ≤ 16) (sym (renamed_arity K (no_name f) (graph_of e) n)) (m.nodes.few n);
      inside = vacant_starred;
    };
    marks = m.marks;
    vacant = m.vacant;
    dirty = m.dirty;
    nets = m.nets;
    lists = m.lists;
    waits_are = m.waits_are;
  }

  pub starred_good : (x : ℕ → ℕ) → Good x e → Good x (star f e)
  starred_good x g = rewired_good x (star_graph f e) e (renamed_owners K (no_name f) (graph_of e) 0) g

  pub starred_between : (x : ℕ → ℕ) → Good x e → dead ws ≡ 0 → Between (Starred s f) x ws (star f e)
  unfolding with_graph with_slots
  starred_between x g z = record { means = starred_means; good = starred_good x g; wired = renamed_well K (no_name f) (graph_of e) wired.well; none_dead = z }

  -- a node that is not free has its own name
  pub own_name : (n : ℕ) → filled (graph_of e) n ≡ true → is_free (homes e) n ≡ false → name_of (star_graph f e) n ≡ name_of (graph_of e) n
  own_name n t k = renamed_name K (no_name f) (graph_of e) n t ∙ ap (λ (b : Bool). name_by K (no_name f) b (name_of (graph_of e) n)) k

  -- only a free node has the new name
  pub starred_free : (n : ℕ) → Has (no_name f) (star_graph f e) n → is_free (homes e) n ≡ true
  starred_free n a = go (K n) refl
    where
      there : filled (graph_of e) n ≡ true
      there = sym (renamed_filled K (no_name f) (graph_of e) n) ∙ a.0

      go : (t : Bool) → K n ≡ t → K n ≡ true
      go true k = k
      go false k =
          let l = (stands n there k).fits.path in
          let q : (name_of (graph_of e) n).path ≡ length f.paths = ap (λ (y : Name). y.path) (sym (own_name n there k) ∙ a.1) in
          absurd (omega arith)

  -- a free node has the new name
  pub free_starred : (j : ℕ) (h : Home) → nth (homes e) j ≡ some h → name_of (star_graph f e) h.free ≡ no_name f
  free_starred j h i =
      let there = holds_filled (graph_of e) j h.free (wired.free j h i).held in
      renamed_name K (no_name f) (graph_of e) h.free there ∙ ap (λ (b : Bool). name_by K (no_name f) b (name_of (graph_of e) h.free)) (free_complete (homes e) j h i)

  -- and has it after an orderly script, if it is there
  pub free_kept : (x : ℕ → ℕ) → Good x e → (k : ℕ) (c : Script) → Orderly (star f e) k c → (j : ℕ) (h : Home) → nth (homes e) j ≡ some h
      → filled (apply_script (star_graph f e) c) h.free ≡ true → name_of (apply_script (star_graph f e) c) h.free ≡ no_name f
  unfolding with_graph with_slots
  free_kept x g k c o j h i t =
      let there : filled (star_graph f e) h.free ≡ true = renamed_filled K (no_name f) (graph_of e) h.free ∙ holds_filled (graph_of e) j h.free (wired.free j h i).held in
      let new : Fresh (graph_of (star f e)) (fresh (star f e)) = tracked_fresh (star f e) (good_tracked x (star f e) (starred_good x g)) in
      script_keeps (length e.nets) (fresh (star f e)) h.free (λ n q. true≢false (sym there ∙ ap (filled (star_graph f e)) q ∙ new.vacant n)) (star_graph f e) c o.0 t ∙ free_starred j h i

-- words that mean two engines: a node of one is a node of the other
pub filled_too : (A B : ℕ → Name → Type 0) (w : List ℕ) (e e' : Engine) → Means A w e → Means B w e' → (n : ℕ) → filled (graph_of e) n ≡ true → filled (graph_of e') n ≡ true
filled_too A B w e e' m m' n t = go (dec_lt n e'.pools.nodes)
  where
    via : (o : Option Frame) → frame (graph_of e') n ≡ o → SlotIs B w n o → filled (graph_of e') n ≡ true
    via none q u = absurd (let v = net_read A w e m n t in omega arith)
    via (some x) q u = filled_frame (graph_of e') n ∙ ap (λ (o : Option Frame). is_some o) q

    go : Dec (n < e'.pools.nodes) → filled (graph_of e') n ≡ true
    go (yes l) = via (frame (graph_of e') n) refl (m'.nodes.slot n l)
    go (no l) =
        let p = m.header.nodes in
        let p' = m'.header.nodes in
        absurd (true≢false (sym t ∙ filled_frame (graph_of e) n ∙ ap (λ (o : Option Frame). is_some o) (m.nodes.inside n (omega arith))))

-- words that mean both: the place 0 is the free nodes'
pub places_told : (s : List ℕ) (f : File FlatNet) (hs : List Home) (w : List ℕ) (e e' : Engine) → Means (Named s f) w e → Means (Starred s f) w e'
    → ((n : ℕ) → Has (no_name f) (graph_of e') n → is_free hs n ≡ true)
    → ((j : ℕ) (h : Home) → nth hs j ≡ some h → filled (graph_of e') h.free ≡ true → name_of (graph_of e') h.free ≡ no_name f) → homes e ≡ hs → FreePlaces w e
places_told s f hs w e e' m m' only all same = (alone, each)
  where
    name_is : (k : ℕ) → filled (graph_of e') k ≡ true → Starred s f (name w k) (name_of (graph_of e') k)
    name_is k t = name_read (Starred s f) w e' m' k t

    alone : (k : ℕ) → 0 < arity (graph_of e) k → name w k ≡ 0 → FreeOf (homes e) k
    alone k a z =
        let t = filled_too (Named s f) (Starred s f) w e e' m m' k (real_filled (graph_of e) (port k 0) a) in
        subst (λ (l : List Home). FreeOf l k) (sym same) (free_sound hs k (by t (name_is k t)))
      where
        by : filled (graph_of e') k ≡ true → Starred s f (name w k) (name_of (graph_of e') k) → is_free hs k ≡ true
        by t (inl i) = only k (t, i.1)
        by t (inr u) = absurd (let l = u.placed in omega arith)

    each : (j : ℕ) (h : Home) → nth (homes e) j ≡ some h → filled (graph_of e) h.free ≡ true → name w h.free ≡ 0
    each j h i t =
        let u = filled_too (Named s f) (Starred s f) w e e' m m' h.free t in
        by (all j h (ap (λ (l : List Home). nth l j) (sym same) ∙ i) u) (name_is h.free u)
      where
        by : name_of (graph_of e') h.free ≡ no_name f → Starred s f (name w h.free) (name_of (graph_of e') h.free) → name w h.free ≡ 0
        by q (inl x) = x.0
        by q (inr u) = absurd (let l = u.fits.path in let r = ap (λ (y : Name). y.path) q in omega arith)
