-- `graft` on words that mean an engine: whether it reaches, its first child or 12, the net of that name, and the wait where that is above 0.
use Prim.Native.Nat.{ℕ, suc, ◌+◌, ◌%◌, ◌<◌, ◌≤◌}
use Rattle.std.specs.Prelude.{◌≡◌, ◌≢◌, Bool, true, false, not, ◌||◌, get_or}
use Rattle.std.proofs.Math.Path.{refl, sym, ap}
use Rattle.std.proofs.Common.{◌∙◌, subst}
use Rattle.std.proofs.Math.Option.{Option, none, some}
use mathlib.Core.List.{List, [], ◌∷◌}
use Rattle.std.proofs.Math.ListN.{length}
use Rattle.std.proofs.Math.Dec.{eqb}
use borrow.Author.Tests.{eq-eqb, ne_eqb}
use native.Mathlib.Omega.{arith}
use Rattle.std.proofs.Math.Decide.{ℕ_discrete}
use Rattle.words.specs.Choose.{pick, lt_yes}
use Rattle.words.specs.Left.{Left}
use Rattle.layout.specs.Layout.{net_by_name, principal, is_principal_words}
use Rattle.layout.specs.Layout as Layout
use Rattle.waits.specs.declared.Awaited.{Awaited}
use Rattle.waits.specs.declared.Awaited.TheVariants.{Waiting, Full}
use Rattle.waits.specs.Waits.{await_net_words}
use Rattle.node_names.specs.Names.{child_count, first_child}
use Rattle.tried.specs.declared.Tried.{Tried}
use Rattle.tried.specs.declared.Tried.TheVariants.{Passed, Refused}
use Rattle.tried.specs.Tries as Words
use Rattle.graft.specs.Graft.{on_awaited, graft_ready, graft_named_words, graft_child_words, graft}
use Rattle.graft.specs.Ways.{childless, not_included, child_named}
use Rattle.net_file.specs.Lists.{Result, ok, refuse}
use Rattle.net_file.specs.Values.{Name}
use Rattle.definitions.specs.Lists.{from}
use Rattle.definitions.specs.Nets.{Graph, port, is_principal, at, filled, holds, name_of, arity, follow}
use Rattle.definitions.specs.Rules.{reaches}
use Rattle.definitions.specs.State.{Engine, graph_of, net_at}
use Rattle.definitions.specs.Visit.{Visited, acted, passed, await_net, graft_net, get_net, graft_named, graft_child, try_graft}
use Rattle.good_laws.specs.Turned.{named_below}
use Rattle.script_laws.specs.Tidy.{real_filled}
use Rattle.means.specs.Means.{number}
use Rattle.means.specs.Frame.{real_inside}
use Rattle.graph_means.specs.Wires.{follow_real}
use Rattle.waits_means.specs.Await.{await_net_ready}
use Rattle.script_means.specs.Tries.{Between, slot_low}
use Rattle.means.specs.Names.{net_word, Called}
use Rattle.visit_means.specs.Tells.{Tells}
use Rattle.graft_means.specs.Ready.{Acts, graft_ready_tells}
use Rattle.graft_means.specs.Ready as Net

-- the file's bytes at a place say a name's children
pub record Children (file : List ℕ) (place : ℕ) (name : Name) : Type 0 where
  pub count : child_count file place ≡ length name.children
  pub first : (c : ℕ) (cs : List ℕ) → name.children ≡ c ∷ cs → (first_child file place ≡ c) × (c < 1024)

-- a wait on the words is level Engine's, and P holds then; or both have no wait left
abbrev pub Waits : (List ℕ → Engine → Type 0) → Left Awaited → Result Visited → Type 0
Waits P l (ok (acted e)) = ⊥
Waits P l (ok (passed e)) = (l.is ≡ Waiting) × P l.ws e
Waits P l (refuse r) = (l.is ≡ Full) × (r ≡ 11)

-- what is asked where graft is tried on node n: P holds, node n is visited, and of the nets what the run keeps
pub record Asks (Named : ℕ → Name → Type 0) (P A : List ℕ → Engine → Type 0) (x : ℕ → ℕ) (file ws : List ℕ) (e : Engine) (n : ℕ) : Type 0 where
  pub holds_now : P ws e
  pub visited : 1 ≤ x (at (graph_of e) n).net
  pub ported : 0 < arity (graph_of e) n
  pub called : Called ws e
  pub children : Children file (Words.name ws n) (name_of (graph_of e) n)
  pub free : (m : ℕ) → m < length e.nets → holds (graph_of e) m (net_at e m).home.free ≡ true
  pub waits : (m : ℕ) → m < length e.nets → (net_at e m).pending ≢ 0 → Waits P (await_net_words ws (m + 1) n) (await_net m n e)
  pub acts : (m : ℕ) → m < length e.nets → (net_at e m).pending ≡ 0 → Acts Named A ws e m n

module _ (Named : ℕ → Name → Type 0) (P A : List ℕ → Engine → Type 0) (x : ℕ → ℕ) (small : (k : ℕ) → x k ≤ 4294900000) (file ws : List ℕ) (e : Engine) (b : Between Named x ws e) (n : ℕ)
    (t : Asks Named P A x file ws e n) where
  abbrev g : Graph
  g = graph_of e

  -- the word of node n's net
  abbrev own : ℕ
  own = (at (graph_of e) n).net + 1

  there : filled g n ≡ true
  there = real_filled g (port n 0) t.ported

  -- a net is grafted when its pending is 0, else node n waits
  named_tells : (m : ℕ) → m < length e.nets → Tells P A (graft_named_words ws (m + 1) own n) (graft_named (some m) n e)
  unfolding graft_named_words graft_named on_awaited
  named_tells m low = go (ℕ_discrete (net_at e m).pending 0)
    where
      after : Left Awaited → Left Tried
      after a = on_awaited a.is (graft_ready a.ws (m + 1) own n) (record { is = Passed; ws = a.ws }) (record { is = Refused 11; ws = a.ws })

      waited : (a : Left Awaited) (r : Result Visited) → Waits P a r → Tells P A (after a) r
      waited a (ok (acted e')) w = absurd w
      waited a (ok (passed e')) w = rw w.0 (refl, w.1)
      waited a (refuse r) w = rw (w.0, w.1) refl

      go : Dec ((net_at e m).pending ≡ 0) → Tells P A (after (await_net_words ws (m + 1) n)) (elim (eqb (net_at e m).pending 0) as (λ _. Result Visited) [ true ↦ graft_net m n e | false ↦ await_net m n e ])
      go (yes z) =
          rw (eq-eqb (net_at e m).pending 0 z)
          (subst (λ (a : Left Awaited). Tells P A (after a) (graft_net m n e)) (sym (await_net_ready Named ws e b.means m n low z))
          (graft_ready_tells Named x small ws e b m n (record { low = low; there = there; visited = t.visited; at_zero = z; free = t.free m low }) P A (t.acts m low z)))
      go (no z) = rw (ne_eqb (net_at e m).pending 0 z) (waited (await_net_words ws (m + 1) n) (await_net m n e) (t.waits m low z))

  -- 12 without a first child; a name of no included net is passed over
  child_tells : (l : List ℕ) → (name_of g n).children ≡ l → Tells P A (graft_child_words ws file own n) (graft_child l n e)
  unfolding graft_child graft_named net_by_name
  child_tells [] h =
      ap (λ (l : Left Tried). l.is) (sym (childless ws file own n (Words.name ws n) (child_count file (Words.name ws n)) refl refl (t.children.count ∙ ap (λ (l : List ℕ). length l) h)))
  child_tells (c ∷ cs) h = go (get_net e c) refl
    where
      place : ℕ
      place = Words.name ws n

      some_child : child_count file place ≡ 0 → ⊥
      some_child z = let q : length (name_of g n).children ≡ suc (length cs) = ap (λ (l : List ℕ). length l) h in let p = t.children.count in omega arith

      word : net_word (get_net e c) ≡ net_by_name ws c
      word = lt_yes c 1024 (get_or ws (64 + c) 0) 0 (t.children.first c cs h).1 (sym (t.called c (t.children.first c cs h).1))

      go : (o : Option ℕ) → get_net e c ≡ o → Tells P A (graft_child_words ws file own n) (graft_named o n e)
      go none q =
          let is = not_included ws file own n place (child_count file place) c 0 refl refl some_child (sym (t.children.first c cs h).0) (sym (ap net_word q) ∙ word) refl in
          subst (λ (l : Left Tried). Tells P A l (graft_named none n e)) is (refl, t.holds_now)
      go (some m) q =
          let d = graft_named_words ws (m + 1) own n in
          let is = child_named ws file d.ws own n place (child_count file place) c (m + 1) d.is refl refl some_child (sym (t.children.first c cs h).0) (sym (ap net_word q) ∙ word) (omega arith) refl refl in
          subst (λ (l : Left Tried). Tells P A l (graft_named (some m) n e)) is (named_tells m (named_below e c m q))

  -- whether its principal port meets a principal port
  meets_is : is_principal_words (Layout.across ws (principal n)) ≡ is_principal (follow g (port n 0))
  unfolding is_principal_words is_principal
  meets_is =
      let low = slot_low Named ws e b.means n there in
      let q = follow g (port n 0) in
      let i = real_inside b.means.nodes q (follow_real g b.wired.wired (port n 0) t.ported) in
      let at : Layout.across ws (principal n) ≡ number q = let z : principal n ≡ number (port n 0) = omega arith in rw z (b.means.nodes.port (port n 0) t.ported) in
      let low_part : number q % 32 ≡ 8 + q.index = omega arith in
      rw (at, low_part) (go q.index (ℕ_discrete q.index 0))
    where
      go : (i : ℕ) → Dec (i ≡ 0) → eqb (8 + i) 8 ≡ eqb i 0
      go i (yes z) = eq-eqb (8 + i) 8 (omega arith) ∙ sym (eq-eqb i 0 z)
      go i (no z) = ne_eqb (8 + i) 8 (omega arith) ∙ sym (ne_eqb i 0 z)

  -- graft does on the words what level Engine says
  pub graft_means : (lazy : Bool) → Tells P A (graft ws file lazy ((at (graph_of e) n).net + 1) n) (try_graft lazy n e)
  unfolding graft try_graft reaches pick
  graft_means lazy = rw meets_is (go lazy (is_principal (follow g (port n 0))))
    where
      r : Left Tried
      r = graft_child_words ws file own n

      off : Left Tried
      off = record { is = Passed; ws = ws }

      go : (lazy p : Bool) → Tells P A (pick lazy (pick p r off) r) (elim (not lazy || p) as (λ _. Result Visited) [ true ↦ graft_child (name_of g n).children n e | false ↦ ok (passed e) ])
      go true true = child_tells (name_of g n).children refl
      go true false = (refl, t.holds_now)
      go false p = child_tells (name_of g n).children refl
