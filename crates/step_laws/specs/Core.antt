-- The core of an engine: nodes, vacant slots, rules, homes and node lists. Marks, pending numbers and waits are kept beside it,
-- and keeping them changes nothing of it.
use Rattle.std.specs.Prelude.{◌≡◌, refl, ℕ, zero, suc, ◌+◌, ◌-◌, Bool, true, false, List, [], ◌∷◌, ◌++◌, map, length, get_or, set, drop, eqb}
use Rattle.std.proofs.Common.{sym, ap, ◌∙◌, subst}
use Rattle.std.proofs.Math.Option.{Option, none, some}
use Rattle.std.proofs.Math.Seq.{map-set_same}
use Rattle.net_file.specs.Lists.{Result, ok, refuse}
use Rattle.net_file.specs.Values.{Rule}
use Rattle.definitions.specs.Nets.{Port, Node, Graph, Home, at, holds}
use Rattle.definitions.specs.State.{Ids, Wait, Net, Pools, Engine, graph_of, new_net, with_slots, with_dirty, with_nets, with_steps, with_graph, with_mark, with_stale, with_list, with_pending, with_awaiting, net_at, over_net, more, fewer, waits}
use Rattle.definitions.specs.Books.{is_dirty, loose, tight, push, tighten_dirty, push_dirty, mark_dirty, mark_ends, went_dirty, wake, answer, finish_edit_net}

pub record Core : Type 0 where
  pub graph : Graph
  pub chain : List ℕ
  pub homes : List Home
  pub lists : List (List ℕ)
  pub rules : List Rule
  pub pools : Pools
  pub steps : ℕ
  pub limit : Option ℕ

-- a net's node list
abbrev pub list_of : Net → List ℕ
list_of n = n.list.items

-- its home
abbrev pub home_of : Net → Home
home_of n = n.home

unfoldable pub core_of : Engine → Core
core_of e = record {
  graph = graph_of e;
  chain = e.slots.chain;
  homes = map home_of e.nets;
  lists = map list_of e.nets;
  rules = e.rules;
  pools = e.pools;
  steps = e.steps;
  limit = e.limit;
}

-- of two engines, whichever the test takes
pub pick : {A : Type 0} (P : A → Type 0) (t : Bool) (x y : A) → P x → P y → P (elim t as (λ _. A) [ true ↦ x | false ↦ y ])
pick P true x y p q = p
pick P false x y p q = q

-- ---- what keeps the core

pub core_over_net : (f : Net → Net) → ((n : Net) → (home_of (f n) ≡ home_of n) × (list_of (f n) ≡ list_of n)) → (k : ℕ) (e : Engine) → core_of (over_net f k e) ≡ core_of e
unfolding core_of over_net with_nets net_at
core_over_net f h k e = λ i. record {
  graph = graph_of e;
  chain = e.slots.chain;
  homes = map-set_same home_of e.nets k (f (net_at e k)) none' (h (net_at e k)).0 i;
  lists = map-set_same list_of e.nets k (f (net_at e k)) none' (h (net_at e k)).1 i;
  rules = e.rules;
  pools = e.pools;
  steps = e.steps;
  limit = e.limit;
}
  where
    none' : Net
    none' = new_net (record { name = 0; free = 0 })

pub core_more : (k : ℕ) (e : Engine) → core_of (more k e) ≡ core_of e
unfolding more with_pending
core_more k e = core_over_net (λ n. with_pending (n.pending + 1) n) (λ n. (refl, refl)) k e

pub core_fewer : (k : ℕ) (e : Engine) → core_of (fewer k e) ≡ core_of e
unfolding fewer with_pending
core_fewer k e = core_over_net (λ n. with_pending (n.pending - 1) n) (λ n. (refl, refl)) k e

pub core_awaiting : (ws : List Wait) (k : ℕ) (e : Engine) → core_of (over_net (with_awaiting ws) k e) ≡ core_of e
unfolding with_awaiting
core_awaiting ws k e = core_over_net (with_awaiting ws) (λ n. (refl, refl)) k e

pub core_dirty : (d : Ids) (e : Engine) → core_of (with_dirty d e) ≡ core_of e
unfolding core_of with_dirty
core_dirty d e = refl

pub core_mark : (n : ℕ) (b : Bool) (e : Engine) → core_of (with_mark n b e) ≡ core_of e
unfolding core_of with_mark with_slots
core_mark n b e = refl

pub core_push_dirty : (n : ℕ) (e : Engine) → core_of (push_dirty n e) ≡ core_of e
unfolding push_dirty
core_push_dirty n e = core_dirty (push n e.dirty) e

pub core_mark_dirty : (n : ℕ) (e : Engine) → core_of (mark_dirty n e) ≡ core_of e
unfolding mark_dirty
core_mark_dirty n e = go (get_or (graph_of e) n none)
  where
    go : (o : Option Node)
        → core_of (elim o as (λ _. Engine) [ none ↦ e | some x ↦ elim (is_dirty e n) as (λ _. Engine) [ true ↦ e | false ↦ more x.net (push_dirty n (with_mark n true e)) ] ]) ≡ core_of e
    go none = refl
    go (some x) =
        pick (λ (t : Engine). core_of t ≡ core_of e) (is_dirty e n) e (more x.net (push_dirty n (with_mark n true e))) refl
        (core_more x.net (push_dirty n (with_mark n true e)) ∙ core_push_dirty n (with_mark n true e) ∙ core_mark n true e)

pub core_mark_ends : (o : Option (Port × Port)) (e : Engine) → core_of (mark_ends o e) ≡ core_of e
unfolding mark_ends
core_mark_ends none e = refl
core_mark_ends (some p) e = core_mark_dirty p.1.node (mark_dirty p.0.node e) ∙ core_mark_dirty p.0.node e

pub core_went_dirty : (k : ℕ) (e : Engine) → core_of (went_dirty k e) ≡ core_of e
unfolding went_dirty tighten_dirty
core_went_dirty k e =
    pick (λ (t : Engine). core_of t ≡ core_of e) (loose e₁.dirty) (tighten_dirty e₁) e₁ (core_dirty (tight (is_dirty e₁) e₁.dirty) e₁ ∙ same) same
  where
    e₁ : Engine
    e₁ = fewer k (with_dirty (with_stale (e.dirty.stale + 1) e.dirty) e)

    same : core_of e₁ ≡ core_of e
    same = core_fewer k (with_dirty (with_stale (e.dirty.stale + 1) e.dirty) e) ∙ core_dirty (with_stale (e.dirty.stale + 1) e.dirty) e

core_wake : (w : Wait) (e : Engine) → core_of (wake w e) ≡ core_of e
unfolding wake
core_wake w e =
    core_fewer w.net (elim (holds (graph_of e) w.net w.node) as (λ _. Engine) [ true ↦ mark_dirty w.node e | false ↦ e ])
    ∙ pick (λ (t : Engine). core_of t ≡ core_of e) (holds (graph_of e) w.net w.node) (mark_dirty w.node e) e (core_mark_dirty w.node e) refl

core_answer : (f : ℕ) (ws : List Wait) (e : Engine) → core_of (answer f ws e) ≡ core_of e
unfolding answer
core_answer zero ws e = refl
core_answer (suc f) [] e = refl
core_answer (suc f) (w ∷ ws) e =
    let e₁ = wake w e in
    pick (λ (t : Engine). core_of t ≡ core_of e) (eqb (net_at e₁ w.net).pending 0)
    (answer f ((net_at e₁ w.net).awaiting ++ ws) (over_net (with_awaiting []) w.net e₁)) (answer f ws e₁)
    (core_answer f ((net_at e₁ w.net).awaiting ++ ws) (over_net (with_awaiting []) w.net e₁) ∙ core_awaiting [] w.net e₁ ∙ core_wake w e)
    (core_answer f ws e₁ ∙ core_wake w e)

pub core_finish_edit_net : (k : ℕ) (e : Engine) → core_of (finish_edit_net k e) ≡ core_of e
unfolding finish_edit_net
core_finish_edit_net k e =
    pick (λ (t : Engine). core_of t ≡ core_of e) (eqb (net_at e k).pending 0) (answer (waits e) (net_at e k).awaiting (over_net (with_awaiting []) k e)) e
    (core_answer (waits e) (net_at e k).awaiting (over_net (with_awaiting []) k e) ∙ core_awaiting [] k e) refl
