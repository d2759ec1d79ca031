-- A wait leaves what a visit holds: the words mean the engine, its books are good, no node waits on a net at 0, and the nets have their names.
use Rattle.std.specs.Prelude.{ℕ, ◌+◌, ◌<◌, ◌≤◌, ◌≡◌, refl, ◌≢◌, Bool, true, List, length, get_or, set, eqb}
use Rattle.std.proofs.Common.{sym, ap, ◌∙◌, subst, arith}
use Rattle.std.proofs.lemmas.List.{length-map}
use Rattle.words.specs.Choose.{eq_split, lt_split}
use Rattle.words.specs.Left.{Left}
use Rattle.layout.specs.Layout.{net_at_words, net_word_words, node_word, node_at, wait_at}
use Rattle.graph.specs.Graph.{more}
use Rattle.pools.specs.Pools.{take_fresh, take, take_wait}
use Rattle.waits.specs.declared.Awaited.{Awaited}
use Rattle.waits.specs.Waits.{append_wait, waiting, await_net_words}
use Rattle.tried.specs.Tries as Words
use Rattle.graft.specs.Graft.{graft}
use Rattle.net_file.specs.Lists.{Result, ok, refuse, bit}
use Rattle.net_file.specs.Values.{Name}
use Rattle.definitions.specs.Nets.{Graph, Home, port, at, filled, holds, name_of, arity}
use Rattle.definitions.specs.State.{Net, Engine, graph_of, homes, net_at}
use Rattle.definitions.specs.Visit.{Visited, acted, passed, await_net, get_net, try_graft}
use Rattle.dirty_laws.specs.Tests.{eqb_self}
use Rattle.engine_laws.specs.Frame.{body, homes_kept, still_frame, still_graph}
use Rattle.good_laws.specs.Good.{Good, bump}
use Rattle.good_laws.specs.Nets.{part_at}
use Rattle.good_laws.specs.Idle.{Idle}
use Rattle.good_laws.specs.Scripts.{Visits, await_good}
use Rattle.fuel_laws.specs.Weights.{named_in, named_in_lem}
use Rattle.script_laws.specs.Tidy.{WellWired, real_filled}
use Rattle.means.specs.Frame.{Rest, rest_set, rest_trans}
use Rattle.waits_means.specs.Await.{Agrees}
use Rattle.waits_means.proofs.Await.{await_net_good}
use Rattle.script_means.specs.Tries.{Between, net_read, name_read}
use Rattle.names_means.specs.Kept.{Kept}
use Rattle.visit_means.specs.Tells.{Tells}
use Rattle.graft_means.specs.Ready.{Acts}
use Rattle.means.specs.Names.{net_word, Called}
use Rattle.graft_means.specs.Tests.{Children, Waits, graft_means}

-- ---- the words

-- words 17 to 1,087: the dead list, and the net of each name
abbrev pub HeldWords : ℕ → Type 0
HeldWords i = (17 ≤ i) × (i < 1088)

-- two words of the header are written where a place for a wait is taken
take_wait_rest : (ws : List ℕ) → Rest (λ i. 17 ≤ i) ws (take_wait ws).ws
unfolding take_wait take take_fresh
take_wait_rest ws = eq_split (get_or ws 12 0) 0 _ _ (λ (l : Left ℕ). Rest (λ i. 17 ≤ i) ws l.ws)
    (λ z. lt_split (get_or ws 13 0) (get_or ws 3 0) _ _ (λ (l : Left ℕ). Rest (λ i. 17 ≤ i) ws l.ws)
    (λ h. rest_set _ ws 13 _ (λ i o d. omega arith)) (λ h. record { long = refl; same = λ i o. refl }))
    (λ z. rest_set _ ws 12 _ (λ i o d. omega arith))

-- a word past the names
past : (ws : List ℕ) (j v : ℕ) → 1088 ≤ j → Rest HeldWords ws (set ws j v)
past ws j v b = rest_set HeldWords ws j v (λ i o d. omega arith)

append_wait_held : (ws : List ℕ) (m c : ℕ) → 1 ≤ m → Rest HeldWords ws (append_wait ws m c)
unfolding append_wait
append_wait_held ws m c b =
    let w = set ws (wait_at ws c 2) 0 in
    let first : Rest HeldWords ws w = past ws (wait_at ws c 2) 0 (omega arith) in
    eq_split (net_word_words ws m 9) 0 _ _ (λ (u : List ℕ). Rest HeldWords ws u)
    (λ z. rest_trans (rest_trans first (past w (net_at_words m 8) c (omega arith))) (past _ (net_at_words m 9) c (omega arith)))
    (λ z. rest_trans (rest_trans first (past w (wait_at w (net_word_words ws m 9) 2) c (omega arith))) (past _ (net_at_words m 9) c (omega arith)))

waiting_held : (ws : List ℕ) (m n c : ℕ) → 1 ≤ m → 1 ≤ node_word ws n 0 → Rest HeldWords ws (waiting ws m n c)
unfolding waiting more
waiting_held ws m n c b t =
    let u = set ws (wait_at ws c 0) n in
    rest_trans (rest_trans (rest_trans (past ws (wait_at ws c 0) n (omega arith)) (past u (wait_at u c 1) (node_word ws n 0) (omega arith))) (append_wait_held _ m c b))
    (past _ (net_at_words (node_word ws n 0) 7) _ (omega arith))

-- a wait writes none of them
pub await_net_held : (ws : List ℕ) (m n : ℕ) → 1 ≤ m → 1 ≤ node_word ws n 0 → Rest HeldWords ws (await_net_words ws m n).ws
unfolding await_net_words
await_net_held ws m n b t =
    let r = take_wait_rest ws in
    let w = (take_wait ws).ws in
    let taken : Rest HeldWords ws w = record { long = r.long; same = λ i o. r.same i o.0 } in
    let net : node_word w n 0 ≡ node_word ws n 0 = r.same (node_at n 0) (omega arith) in
    eq_split (net_word_words ws m 7) 0 _ _ (λ (l : Left Awaited). Rest HeldWords ws l.ws) (λ z. record { long = refl; same = λ i o. refl })
    (λ z. eq_split (take_wait ws).is 0 _ _ (λ (l : Left Awaited). Rest HeldWords ws l.ws) (λ y. taken) (λ y. rest_trans taken (waiting_held w m n (take_wait ws).is b (omega arith))))

-- ---- the nets' names

-- the names are the same where the homes are
pub called_kept : (ws w : List ℕ) (e e' : Engine) → Kept ws w → homes e' ≡ homes e → Called ws e → Called w e'
called_kept ws w e e' r h c name b =
    let same : get_net e' name ≡ get_net e name = named_in_lem e' name ∙ ap (λ (l : List Home). named_in l name) h ∙ sym (named_in_lem e name) in
    r.same (64 + name) (omega arith) ∙ c name b ∙ ap net_word (sym same)

-- ---- a wait

-- what a visit of a node of net k holds, as long as no rule acts; it began at e₀
pub record Held (Named : ℕ → Name → Type 0) (x : ℕ → ℕ) (k : ℕ) (e₀ : Engine) (ws : List ℕ) (e : Engine) : Type 0 where
  pub between : Between Named (bump k x) ws e
  pub idle : Idle e
  pub called : Called ws e
  pub same : body e ≡ body e₀

module _ (Named : ℕ → Name → Type 0) (x : ℕ → ℕ) (e₀ : Engine) (ws : List ℕ) (e : Engine) (n : ℕ) (t : Held Named x (at (graph_of e) n).net e₀ ws e) (there : filled (graph_of e) n ≡ true)
    (small : bump (at (graph_of e) n).net x (at (graph_of e) n).net ≤ 4294900000) (m : ℕ) (low : m < length e.nets) (above : (net_at e m).pending ≢ 0) where
  abbrev k : ℕ
  k = (at (graph_of e) n).net

  -- after a wait it holds too
  pub held_waits : Waits (Held Named x (at (graph_of e) n).net e₀) (await_net_words ws (m + 1) n) (await_net m n e)
  held_waits =
      go (await_net m n e) (await_net_good Named ws e t.between.means (bump k x) t.between.good m n low there small above)
      (await_good x m n e (λ _. ⊥) t.between.good t.idle above low)
    where
      l : Left Awaited
      l = await_net_words ws (m + 1) n

      words : Rest HeldWords ws (await_net_words ws (m + 1) n).ws
      words = await_net_held ws (m + 1) n (omega arith) (let z = net_read Named ws e t.between.means n there in omega arith)

      go : (r : Result Visited) → Agrees Named l r → Visits (λ _. ⊥) (λ e'. Good (bump k x) e' × (body e' ≡ body e) × Idle e') r → Waits (Held Named x k e₀) l r
      go (ok (acted e')) a d = absurd d
      go (ok (passed e')) a d = (
        a.0,
        record {
          between = record {
            means = a.1;
            good = d.0;
            wired = subst WellWired (sym (still_graph d.1)) t.between.wired;
            none_dead = words.same 17 (omega arith) ∙ t.between.none_dead;
          };
          idle = d.2;
          called = called_kept ws l.ws e e' (record { long = words.long; same = λ i o. words.same i (omega arith) }) (homes_kept (still_frame d.1)) t.called;
          same = d.1 ∙ t.same;
        },
      )
      go (refuse r) a d = a

-- ---- graft, wherever it is tried in the visit

-- of the engine at which the visit of node n began: node n has a port, the free nodes are there, and the file says the children of names of node n's path
pub record Begun (Named : ℕ → Name → Type 0) (file : List ℕ) (e : Engine) (n : ℕ) : Type 0 where
  pub ported : 0 < arity (graph_of e) n
  pub free : (m : ℕ) → m < length e.nets → holds (graph_of e) m (net_at e m).home.free ≡ true
  pub children : (place : ℕ) (name : Name) → Named place name → name.path ≡ (name_of (graph_of e) n).path → Children file place name

module _ (Named : ℕ → Name → Type 0) (A : List ℕ → Engine → Type 0) (x : ℕ → ℕ) (file : List ℕ) (e₀ : Engine) (n : ℕ) (b : Begun Named file e₀ n)
    (small : (j : ℕ) → bump (at (graph_of e₀) n).net x j ≤ 4294900000)
    (acts : (ws : List ℕ) (e : Engine) → Held Named x (at (graph_of e₀) n).net e₀ ws e → (m : ℕ) → m < length e.nets → (net_at e m).pending ≡ 0 → Acts Named A ws e m n) where
  -- the same nodes and homes
  module _ (ws : List ℕ) (e : Engine) (t : Held Named x (at (graph_of e₀) n).net e₀ ws e) where
    own : (at (graph_of e) n).net ≡ (at (graph_of e₀) n).net
    own = ap (λ (h : Graph). (at h n).net) (still_graph t.same)

    ported : 0 < arity (graph_of e) n
    ported = subst (λ (h : Graph). 0 < arity h n) (sym (still_graph t.same)) b.ported

    there : filled (graph_of e) n ≡ true
    there = real_filled (graph_of e) (port n 0) ported

    free : (m : ℕ) → m < length e.nets → holds (graph_of e) m (net_at e m).home.free ≡ true
    free m l =
        let hs = homes_kept (still_frame t.same) in
        let a = length-map e.nets (λ (z : Net). z.home) in
        let c = length-map e₀.nets (λ (z : Net). z.home) in
        let d : length (homes e) ≡ length (homes e₀) = ap (λ (l : List Home). length l) hs in
        let home : (net_at e m).home ≡ (net_at e₀ m).home = part_at (λ (z : Net). z.home) e₀ e hs m in
        (λ i. holds (still_graph t.same i) m (home i).free) ∙ b.free m (omega arith)

    children : Children file (Words.name ws n) (name_of (graph_of e) n)
    children = b.children (Words.name ws n) (name_of (graph_of e) n) (name_read Named ws e t.between.means n there) (ap (λ (h : Graph). (name_of h n).path) (still_graph t.same))

    visited : 1 ≤ bump (at (graph_of e₀) n).net x (at (graph_of e) n).net
    visited = let q : bit (eqb (at (graph_of e₀) n).net (at (graph_of e₀) n).net) ≡ 1 = ap bit (eqb_self (at (graph_of e₀) n).net) in rw own (omega arith)

    waits : (m : ℕ) → m < length e.nets → (net_at e m).pending ≢ 0 → Waits (Held Named x (at (graph_of e₀) n).net e₀) (await_net_words ws (m + 1) n) (await_net m n e)
    waits m l above =
        subst (λ (j : ℕ). Held Named x j e₀ ws e → bump j x j ≤ 4294900000 → Waits (Held Named x j e₀) (await_net_words ws (m + 1) n) (await_net m n e)) own
        (λ h c. held_waits Named x e₀ ws e n h there c m l above) t (small (at (graph_of e₀) n).net)

    -- graft does on the words what level Engine says; where it passes, the visit goes on as before
    pub graft_held : (lazy : Bool) → Tells (Held Named x (at (graph_of e₀) n).net e₀) A (graft ws file lazy ((at (graph_of e₀) n).net + 1) n) (try_graft lazy n e)
    graft_held lazy =
        subst (λ (j : ℕ). Tells (Held Named x (at (graph_of e₀) n).net e₀) A (graft ws file lazy (j + 1) n) (try_graft lazy n e)) own
        (graft_means Named (Held Named x (at (graph_of e₀) n).net e₀) A (bump (at (graph_of e₀) n).net x) small file ws e t.between n (record {
          holds_now = t;
          visited = visited;
          ported = ported;
          called = t.called;
          children = children;
          free = free;
          waits = waits;
          acts = acts ws e t;
        }) lazy)
