-- One net more, whole: `add_flat_net` on the words leaves what level Engine's does, ready for the next net.
use Rattle.std.specs.Prelude.{ℕ, suc, ◌+◌, ◌<◌, ◌≤◌, ◌≡◌, ◌≢◌, ◌⊎◌, get_or, set, replicate}
use Rattle.std.proofs.Math.Path.{refl, subst}
use Rattle.std.proofs.Common.{sym, ◌∙◌, inl, inr}
use mathlib.Core.List.{List, [], ◌∷◌, ◌++◌}
use Rattle.std.proofs.Math.ListN.{length}
use Rattle.std.proofs.lemmas.List.{length-map}
use Rattle.std.proofs.Math.Seq.{get_or-set_other}
use native.Mathlib.Omega.{arith}
use Rattle.words.specs.Choose.{lt_split}
use Rattle.words.specs.Left.{Left}
use Rattle.fields.specs.Fields.{be16, be32}
use Rattle.stored.specs.Stored.{pair_count_at}
use Rattle.ends.specs.Ends.{within, on}
use Rattle.layout.specs.Layout.{next, net_at_words}
use Rattle.wire_ends.specs.WireEnds.{put_pairs}
use Rattle.load.specs.Added.{Added, without}
use Rattle.load.specs.Load.{add_all, add_wired, add_sized, new_net_words, add_flat_net_words}
use Rattle.net_file.specs.Lists.{Result, ok, refuse}
use Rattle.net_file.specs.Values.{Name, FlatNet}
use Rattle.definitions.specs.Lists.{◌>>=◌}
use Rattle.definitions.specs.Nets.{Port, Home}
use Rattle.definitions.specs.Scripts.{Insert}
use Rattle.definitions.specs.Rules.{new}
use Rattle.definitions.specs.State.{Engine, graph_of, homes, new_net, with_nets, over_net, waits}
use Rattle.definitions.specs.Books.{fresh, edit}
use Rattle.definitions.specs.Load.{load_net, add_flat_net}
use Rattle.good_laws.specs.Good.{Good, rest}
use Rattle.good_laws.specs.Answers.{awaits, awaits_waits}
use Rattle.good_laws.specs.Edits.{Edited, Answers}
use Rattle.good_laws.specs.Load.{sum_snoc, wider, wider_length, wider_good}
use Rattle.good_laws.specs.Loaded.{edits_awaits}
use Rattle.script_laws.specs.Safe.{Safe}
use Rattle.step_laws.specs.Core.{core_of}
use Rattle.step_laws.specs.Edits.{Then}
use Rattle.step_laws.specs.Numbers.{tracked_fresh}
use Rattle.load_laws.specs.Twice.{apart}
use Rattle.load_laws.specs.Meets.{of_wire}
use Rattle.load_laws.specs.Ends.{all_ends, all_count}
use Rattle.load_laws.specs.Loads.{F}
use Rattle.load_laws.proofs.Loads.{loaded_tidy}
use Rattle.load_laws.specs.Loaded as Laws
use Rattle.load_laws.proofs.Loaded as LawsProofs
use Rattle.load_laws.specs.Loaded.{Loaded}
use Rattle.load_laws.proofs.Loaded.{net_loaded}
use Rattle.means.specs.Means.{Means}
use Rattle.script_means.specs.Dead.{dead_none}
use Rattle.wire_ends_means.specs.Table.{Table}
use Rattle.wire_ends_means.specs.Pairs.{put_pairs_table}
use Rattle.load_means.specs.NewNet.{Spare, new_net_means}
use Rattle.load_means.specs.Called.{no_home, Called, called_keep, new_net_called, new_net_spare}
use Rattle.load_nodes_means.specs.Laid.{Laid}
use Rattle.load_nodes_means.specs.Nodes.{Adds}
use Rattle.load_nets_means.specs.Home.{with_free, insert_free, wider_free}
use Rattle.load_nets_means.specs.NetIn.{NetIn}
use Rattle.load_nets_means.specs.Free.{add_all_means}

-- the words mean the engine, which is ready for one net more
pub record Loads (Named : ℕ → Name → Type 0) (path : ℕ) (ws : List ℕ) (e : Engine) : Type 0 where
  pub means : Means Named ws e
  pub good : Good rest e
  pub idle : waits e ≡ 0
  pub loaded : Loaded path (core_of e)
  pub called : Called ws (homes e)
  pub spare : Spare ws (length e.nets)
  pub dead : get_or ws 17 0 ≡ 0

-- after net t: ready again, with a net of that name more; or refused by the number that level Engine gives
abbrev pub NetDone : (ℕ → Name → Type 0) → ℕ → Engine → ℕ → Left ℕ → Result Engine → Type 0
NetDone Named path e name l (ok d) = (l.is ≡ 0) × Loads Named path l.ws d × (free : ℕ) × (homes d ≡ homes e ++ record { name = name; free = free } ∷ [])
NetDone Named path e name l (refuse r) = (l.is ≡ r) × (0 < r)

module _ (Named : ℕ → Name → Type 0) (path : ℕ) (name : Name) (path_is : name.path ≡ path) (named : Named 0 name) (file : List ℕ) (at : ℕ) (t : FlatNet) (ws : List ℕ) (e : Engine)
    (s : Loads Named path ws e) (few : length e.nets < 256) (other : (k : ℕ) → k < length (homes e) → (get_or (homes e) k no_home).name ≢ t.name)
    (i : (m : ℕ) → t.wires ≤ m → NetIn Named m file at t) (most : t.wires ≤ 65536) where
  net : ℕ
  net = length e.nets

  w₁ : List ℕ
  w₁ = new_net_words ws file at

  in₁ : NetIn Named 65536 file at t
  in₁ = i 65536 most

  e₀ : Engine
  e₀ = wider e (record { name = t.name; free = 0 })

  e₁ : Engine
  e₁ = wider e (record { name = t.name; free = fresh e 0 })

  N : ℕ → ℕ
  N j = get_or e.slots.chain j (length (graph_of e) + j)

  count_is : get_or ws 7 0 ≡ length e.nets
  count_is = s.means.header.nets_are

  dead_is : get_or w₁ 17 0 ≡ 0
  unfolding w₁ new_net_words
  dead_is =
      let a = count_is in
      let k = next (get_or ws 7 0) in
      get_or-set_other (set (set ws 7 k) (64 + be16 file at) k) (net_at_words k 0) 17 (be16 file at) 0 (omega arith) ∙ get_or-set_other (set ws 7 k) (64 + be16 file at) 17 k 0 (omega arith)
      ∙ get_or-set_other ws 7 17 k 0 (omega arith) ∙ s.dead

  edited : (h : Home) → Edited rest (suc net) e.slots.chain 0 (graph_of e) (wider e h)
  unfolding net with_nets
  edited h = record { good = wider_good e h s.good s.idle; nets = wider_length e h; left = refl; nodes = refl }

  start : Laid Named (suc net) e.slots.chain w₁ 0 (graph_of e) w₁ e₀
  unfolding net w₁ e₀ core_of
  start = record {
    stage = record {
      means = subst (λ (n : ℕ). Means Named (new_net_words ws file at) (wider e (record { name = n; free = 0 }))) (sym in₁.name)
          (new_net_means Named ws e s.means file at few (rw (← in₁.name) in₁.low) s.spare);
      edited = edited (record { name = t.name; free = 0 });
      wired = s.loaded.rest.well.wired;
      dead = dead_none dead_is;
    };
    beside = record { long = refl; same = λ j o. refl };
  }

  same : edit (Insert (N 0) (new net name (2 + length t.free))) e₁
      ≡ (edit (Insert (N 0) (new net name (2 + length t.free))) e₀ >>= λ d. ok (over_net (with_free (N 0)) net d))
  unfolding net e₀ e₁ fresh N new
  same =
      let y = new (length e.nets) name (2 + length t.free) in
      let l = wider_length e (record { name = t.name; free = 0 }) in
      subst (λ (x : Engine). edit (Insert (N 0) y) x ≡ (edit (Insert (N 0) y) e₀ >>= λ d. ok (over_net (with_free (N 0)) net d))) (wider_free e t.name (N 0)) (insert_free (N 0) y (N 0) e₀ (omega arith))

  counts : (w : ℕ) → of_wire w (all_ends t N) ≤ 2
  counts w = go (all_count t N in₁.fine.ordered in₁.fine.wired w)
    where
      go : (of_wire w (all_ends t N) ≡ 0) ⊎ (of_wire w (all_ends t N) ≡ 2) → of_wire w (all_ends t N) ≤ 2
      go (inl z) = omega arith
      go (inr z) = omega arith

  -- the ports that the net's ends use
  Uses : Port → Type 0
  unfolding core_of
  Uses = F (graph_of e) s.loaded.rest.well (fresh e) (tracked_fresh e s.loaded.tracked) (length e.nets) name t in₁.fine.ordered in₁.fine.wired

  safe : Safe Uses (graph_of e) (λ _. ⊥) (load_net N name net t) Uses
  unfolding Uses core_of fresh N net
  safe = (loaded_tidy (graph_of e) s.loaded.rest.well (fresh e) (tracked_fresh e s.loaded.tracked) (length e.nets) name t in₁.fine.ordered in₁.fine.wired).safe

  -- ---- ready for the next net

  size : length (homes e) ≡ length e.nets
  size = length-map e.nets (λ n. n.home)

  homes_are : (d : Engine) (b : Laws.Added name t (core_of e) (core_of d)) → homes d ≡ homes e ++ record { name = t.name; free = b.numbers 0 } ∷ []
  unfolding core_of
  homes_are d b = b.homes

  waits_are : waits e₁ ≡ 0
  unfolding waits with_nets e₁
  waits_are = let q = sum_snoc (λ n. length n.awaiting) e.nets (new_net (record { name = t.name; free = fresh e 0 })) in let z = s.idle in omega arith

  done : (d : Engine) (w : List ℕ) (k : ℕ) → Laid Named (suc net) e.slots.chain w₁ k (graph_of d) w d → Loaded path (core_of d) → Laws.Added name t (core_of e) (core_of d)
      → awaits d ≡ awaits e₁ → Loads Named path w d
  unfolding w₁ net
  done d w k l b a c =
      let h : Home = record { name = t.name; free = a.numbers 0 } in
      let long = s.means.header.long in
      let z = size in
      let n = count_is in
      let m = l.stage.edited.nets in
      record {
        means = l.stage.means;
        good = l.stage.edited.good;
        idle = awaits_waits e₁ d c ∙ waits_are;
        loaded = b;
        called = subst (λ (hs : List Home). Called w hs) (sym (homes_are d a)) (called_keep (λ j o. l.beside.same j (omega arith))
            (new_net_called ws (homes e) file at h s.called (sym in₁.name) in₁.low other (omega arith) (omega arith) (omega arith)));
        spare = λ j p q. l.beside.same j (omega arith)
            ∙ new_net_spare ws (homes e) file at h s.called (sym in₁.name) in₁.low other (omega arith) (omega arith) (omega arith) (rw z s.spare) j (omega arith) q;
        dead = l.stage.dead.count;
      }

  module _ (m : ℕ) (fits : t.wires ≤ m) where
    at_m : NetIn Named m file at t
    at_m = i m fits

    table : List ℕ
    table = put_pairs (replicate m 0) file (pair_count_at file at + 2) (length t.pairs)

    table_is : Table t.pairs m table []
    unfolding table
    table_is = put_pairs_table t.pairs (apart t in₁.fine.ordered in₁.fine.wired) m file (pair_count_at file at + 2) at_m.pairs at_m.pairs_fit

    all_is : without (add_all w₁ table file (net + 1) at) ≡ add_sized m w₁ file (net + 1) at
    unfolding add_sized add_wired table
    all_is =
        let h = at_m.pairs_inside in
        let p : within file (pair_count_at file at) ≡ pair_count_at file at = omega arith in
        let q : on file (pair_count_at file at) 2 ≡ pair_count_at file at + 2 = omega arith in
        rw (p, q, ← at_m.pair_count) refl

    all_adds : Adds Named (suc net) e.slots.chain w₁ (1 + length t.nodes) (add_all w₁ table file (net + 1) at) (add_flat_net name t e)
    unfolding add_flat_net e₁ net fresh N
    all_adds = add_all_means Named name named t m file at at_m net e.slots.chain (λ j. length (graph_of e) + j) w₁ (graph_of e) Uses Uses e₀ e₁ start
        (edited (record { name = t.name; free = fresh e 0 })) same safe counts table table_is

    waits_same : Answers (λ d. awaits d ≡ awaits e₁) (add_flat_net name t e)
    unfolding add_flat_net e₁
    waits_same = edits_awaits (load_net (fresh e) name (length e.nets) t) e₁

    -- by a table for m wires
    sized_means : NetDone Named path e t.name (add_sized m w₁ file (net + 1) at) (add_flat_net name t e)
    unfolding without
    sized_means = subst (λ (l : Left ℕ). NetDone Named path e t.name l (add_flat_net name t e)) all_is
        (go (add_flat_net name t e) all_adds (net_loaded path name path_is t e in₁.fine s.loaded) waits_same)
      where
        go : (r : Result Engine) → Adds Named (suc net) e.slots.chain w₁ (1 + length t.nodes) (add_all w₁ table file (net + 1) at) r
            → Then (λ d. Loaded path (core_of d) × Laws.Added name t (core_of e) (core_of d)) r → Answers (λ d. awaits d ≡ awaits e₁) r
            → NetDone Named path e t.name (without (add_all w₁ table file (net + 1) at)) r
        go (refuse r) a b c = a
        go (ok d) a b c = (a.0, done d (add_all w₁ table file (net + 1) at).ws (1 + length t.nodes) a.1 b.0 b.1 c, b.1.numbers 0, homes_are d b.1)

  -- the net that the words number next
  number_is : next (get_or ws 7 0) ≡ net + 1
  unfolding net
  number_is = let a = count_is in omega arith

  pub add_flat_net_means : NetDone Named path e t.name (add_flat_net_words ws file at) (add_flat_net name t e)
  unfolding add_flat_net_words w₁
  add_flat_net_means =
      let c = in₁.counter in
      rw number_is (lt_split 1024 (be32 file (at + 3)) (add_sized 65536 w₁ file (net + 1) at) (add_sized 1024 w₁ file (net + 1) at) (λ (l : Left ℕ). NetDone Named path e t.name l (add_flat_net name t e))
      (λ h. sized_means 65536 most) (λ h. sized_means 1024 (omega arith)))
