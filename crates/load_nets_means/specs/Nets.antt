-- The nets of a file, one after the other: those that are marked come into the engine, up to one that is refused. `load` on the words is level Engine's.
use Rattle.std.specs.Prelude.{ℕ, suc, ◌+◌, ◌<◌, ◌≤◌, Bool, get_or, eqb}
use Rattle.std.proofs.Math.Path.{◌≡◌, refl, subst}
use Rattle.std.proofs.Common.{sym, ap, ◌∙◌, length-append}
use Rattle.std.proofs.Math.Bool.{true, false}
use mathlib.Core.List.{List, [], ◌∷◌, ◌++◌}
use Rattle.std.proofs.Math.ListN.{length, length-map, get_or-append}
use Rattle.std.proofs.Math.Seq.{get_or-append_seam}
use native.Mathlib.Omega.{arith}
use Rattle.std.proofs.Math.Decide.{ℕ_discrete}
use Rattle.words.specs.Choose.{lt_yes, lt_no, pick_true, pick_false}
use Rattle.words.specs.Left.{Left}
use Rattle.fields.specs.Fields.{byte, be16}
use Rattle.stored.specs.Stored.{flat_net_end, net_count_at}
use Rattle.ends.specs.Ends.{within, on}
use Rattle.load.specs.Load as Words
use Rattle.load.specs.Load.{add_flat_net_words, add_if_included, add_flat_nets}
use Rattle.net_file.specs.Lists.{Result, ok, refuse}
use Rattle.net_file.specs.Values.{Name, FlatNet, File}
use Rattle.definitions.specs.Lists.{◌>>=◌, keep, each}
use Rattle.definitions.specs.Nets.{Home}
use Rattle.definitions.specs.State.{Pools, Engine, homes, waits}
use Rattle.definitions.specs.Load.{free_name, add_flat_net, empty, included, load}
use Rattle.good_laws.specs.Load.{empty_good}
use Rattle.load_laws.specs.Begin.{empty_loaded}
use Rattle.load_means.specs.Start.{Fresh, fresh_means}
use Rattle.load_means.specs.Called.{no_home, none_called}
use Rattle.load_nets_means.specs.NetIn.{NetIn}
use Rattle.load_nets_means.specs.Net.{Loads, NetDone, add_flat_net_means}

-- net t stands at a place; its name is b or more
pub record NetHere (Named : ℕ → Name → Type 0) (file : List ℕ) (at b : ℕ) (t : FlatNet) : Type 0 where
  pub mark : t.included ≡ eqb (byte file (at + 2)) 1
  pub inside : flat_net_end file at ≤ length file
  pub ascends : b ≤ t.name
  pub most : t.wires ≤ 65536
  pub stands : (m : ℕ) → t.wires ≤ m → NetIn Named m file at t

-- nets stand from a place on, by ascending names
abbrev pub NetsIn : (ℕ → Name → Type 0) → List ℕ → ℕ → ℕ → List FlatNet → Type 0
NetsIn Named file at b [] = Unit {0}
NetsIn Named file at b (t ∷ ts) = NetHere Named file at b t × NetsIn Named file (flat_net_end file at) (suc t.name) ts

-- ready for the next net, or refused by the number that level Engine gives
abbrev pub NetsDone : (ℕ → Name → Type 0) → ℕ → Left ℕ → Result Engine → Type 0
NetsDone Named path l (ok d) = (l.is ≡ 0) × Loads Named path l.ws d
NetsDone Named path l (refuse r) = (l.is ≡ r) × (0 < r)

-- a net's name is below b
abbrev Under : ℕ → Home → Type 0
Under b h = h.name < b

-- every net's
abbrev Below : ℕ → List Home → Type 0
Below b hs = (k : ℕ) → k < length hs → Under b (get_or hs k no_home)

below_more : (b : ℕ) (hs : List Home) (h : Home) → Below b hs → b ≤ h.name → Below (suc h.name) (hs ++ h ∷ [])
below_more b hs h o l k i = go (ℕ_discrete k (length hs))
  where
    go : Dec (k ≡ length hs) → Under (suc h.name) (get_or (hs ++ h ∷ []) k no_home)
    go (yes d) = rw (d, get_or-append_seam hs h [] no_home) (omega arith)
    go (no d) =
        let a = length-append hs (h ∷ []) in
        let j : k < length hs = omega arith in
        let z = o k j in
        rw (get_or-append hs (h ∷ []) no_home k j) (omega arith)

-- a net that is refused ends it
stop_net : (ws file : List ℕ) (at k : ℕ) (a : Left ℕ) → a ≡ add_if_included ws file at → 0 < a.is → a ≡ add_flat_nets ws file at (suc k)
unfolding add_flat_nets
stop_net ws file at k a e h = lt_yes 0 (add_if_included ws file at).is _ _ (rw (← e) h) e

-- after one that is not the others come
after_net : (ws file : List ℕ) (at k b : ℕ) (a : Left ℕ) → a ≡ add_if_included ws file at → b ≡ within file (flat_net_end file at) → a.is ≡ 0
    → add_flat_nets a.ws file b k ≡ add_flat_nets ws file at (suc k)
unfolding add_flat_nets
after_net ws file at k b a e f z = lt_no 0 (add_if_included ws file at).is _ _ (rw (← e, z) (omega arith)) (rw (← e, ← f) refl)

module _ (Named : ℕ → Name → Type 0) (path : ℕ) (name : Name) (path_is : name.path ≡ path) (named : Named 0 name) (file : List ℕ) where
  module _ (t : FlatNet) (ts : List FlatNet) (at b : ℕ) (ws : List ℕ) (e : Engine) (s : NetHere Named file at b t) (l : Loads Named path ws e) (o : Below b (homes e)) where
    next_is : flat_net_end file at ≡ within file (flat_net_end file at)
    next_is = let h = s.inside in omega arith

    -- what comes after it
    After : Type 0
    After = (w : List ℕ) (d : Engine) → Loads Named path w d → Below (suc t.name) (homes d) → length d.nets + length (keep (λ x. x.included) ts) ≤ 256
        → NetsDone Named path (add_flat_nets w file (flat_net_end file at) (length ts)) (each (add_flat_net name) (keep (λ x. x.included) ts) d)

    marked : t.included ≡ true → suc (length e.nets) + length (keep (λ x. x.included) ts) ≤ 256 → After
        → NetsDone Named path (add_flat_nets ws file at (suc (length ts))) (add_flat_net name t e >>= λ d. each (add_flat_net name) (keep (λ x. x.included) ts) d)
    unfolding add_if_included After
    marked m few after =
        let n : length (homes e) ≡ length e.nets = length-map e.nets (λ x. x.home) in
        go (add_flat_net name t e) (add_flat_net_means Named path name path_is named file at t ws e l (omega arith) (λ k i q. let z = o k i in let y = s.ascends in omega arith) s.stands s.most)
      where
        is : add_flat_net_words ws file at ≡ add_if_included ws file at
        is = pick_true _ _ _ (sym s.mark ∙ m) refl

        go : (r : Result Engine) → NetDone Named path e t.name (add_flat_net_words ws file at) r
            → NetsDone Named path (add_flat_nets ws file at (suc (length ts))) (r >>= λ d. each (add_flat_net name) (keep (λ x. x.included) ts) d)
        go (refuse r) a = (ap (λ (x : Left ℕ). x.is) (sym (stop_net ws file at (length ts) (add_flat_net_words ws file at) is (rw a.0 a.1))) ∙ a.0, a.1)
        go (ok d) a =
            let h : Home = record { name = t.name; free = a.2 } in
            let hs : homes d ≡ homes e ++ h ∷ [] = a.3 in
            let more = length-append (homes e) (h ∷ []) in
            let n : length (homes e) ≡ length e.nets = length-map e.nets (λ x. x.home) in
            let k : length (homes d) ≡ length d.nets = length-map d.nets (λ x. x.home) in
            let c : length (homes d) ≡ length (homes e ++ h ∷ []) = ap (λ (x : List Home). length x) hs in
            subst (λ (x : Left ℕ). NetsDone Named path x (each (add_flat_net name) (keep (λ y. y.included) ts) d))
            (after_net ws file at (length ts) (flat_net_end file at) (add_flat_net_words ws file at) is next_is a.0)
            (after (add_flat_net_words ws file at).ws d a.1 (rw hs (below_more b (homes e) h o s.ascends)) (omega arith))

    -- a net that is not marked stays out
    out : t.included ≡ false → length e.nets + length (keep (λ x. x.included) ts) ≤ 256 → After
        → NetsDone Named path (add_flat_nets ws file at (suc (length ts))) (each (add_flat_net name) (keep (λ x. x.included) ts) e)
    unfolding add_if_included After
    out m few after =
        let is : ◌≡◌ {A = Left ℕ} (record { is = 0; ws = ws }) (add_if_included ws file at) = pick_false _ _ _ (sym s.mark ∙ m) refl in
        subst (λ (x : Left ℕ). NetsDone Named path x (each (add_flat_net name) (keep (λ y. y.included) ts) e))
        (after_net ws file at (length ts) (flat_net_end file at) (record { is = 0; ws = ws }) is next_is refl)
        (after ws e l (λ k i. let z = o k i in let y = s.ascends in omega arith) few)

  pub add_flat_nets_means : (ts : List FlatNet) (at b : ℕ) (ws : List ℕ) (e : Engine) → NetsIn Named file at b ts → Loads Named path ws e → Below b (homes e)
      → length e.nets + length (keep (λ x. x.included) ts) ≤ 256 → NetsDone Named path (add_flat_nets ws file at (length ts)) (each (add_flat_net name) (keep (λ x. x.included) ts) e)
  unfolding add_flat_nets After
  add_flat_nets_means [] at b ws e s l o few = (refl, l)
  add_flat_nets_means (t ∷ ts) at b ws e s l o few =
      go t.included refl few (λ w d l' o' f'. add_flat_nets_means ts (flat_net_end file at) (suc t.name) w d s.1 l' o' f')
    where
      go : (m : Bool) → t.included ≡ m → length e.nets + length {A = FlatNet} (elim m as (λ _. List FlatNet) [ true ↦ t ∷ keep (λ x. x.included) ts | false ↦ keep (λ x. x.included) ts ]) ≤ 256
          → After t ts at b ws e s.0 l o
          → NetsDone Named path (add_flat_nets ws file at (suc (length ts)))
          (each (add_flat_net name) (elim m as (λ _. List FlatNet) [ true ↦ t ∷ keep (λ x. x.included) ts | false ↦ keep (λ x. x.included) ts ]) e)
      go true m f after = marked t ts at b ws e s.0 l o m (omega arith) after
      go false m f after = out t ts at b ws e s.0 l o m f after

-- ---- the whole file

-- what the load asks of a file: its nets stand there, by ascending names, and at most 256 are marked
pub record FileIn (Named : ℕ → Name → Type 0) (file : List ℕ) (f : File FlatNet) : Type 0 where
  pub free : Named 0 (free_name f.paths)
  pub count : length f.nets ≡ be16 file (net_count_at file)
  pub inside : net_count_at file + 2 ≤ length file
  pub nets : NetsIn Named file (net_count_at file + 2) 0 f.nets
  pub few : length (included f) ≤ 256

module _ (Named : ℕ → Name → Type 0) (file ws : List ℕ) (p : Pools) (f : File FlatNet) (s : Fresh ws p f.limit) (i : FileIn Named file f) where
  -- nothing is loaded yet
  begin : Loads Named (free_name f.paths).path ws (empty p f)
  unfolding empty waits
  begin = record {
    means = fresh_means Named ws p f s;
    good = empty_good p f;
    idle = refl;
    loaded = empty_loaded (free_name f.paths).path p f;
    called = none_called (λ j a b. s.clear j (omega arith) (omega arith));
    spare = λ j a b. s.clear j (omega arith) (omega arith);
    dead = s.clear 17 (omega arith) (omega arith);
  }

  -- the load on the words leaves what level Engine's leaves, or is refused by its number
  pub load_means : NetsDone Named (free_name f.paths).path (Words.load ws file) (load p f)
  unfolding Words.load load included empty
  load_means =
      let h = i.inside in
      let a : within file (net_count_at file) ≡ net_count_at file = omega arith in
      let b : on file (net_count_at file) 2 ≡ net_count_at file + 2 = omega arith in
      rw (a, b, ← i.count)
      (add_flat_nets_means Named (free_name f.paths).path (free_name f.paths) refl i.free file f.nets (net_count_at file + 2) 0 ws (empty p f) i.nets begin
      (λ k j. absurd (omega arith)) (let z = i.few in omega arith))
