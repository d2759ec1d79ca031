-- What edits, removals and answers leave alone: the pools, the rules, the nets' homes, the limit and the count of steps.
use Rattle.std.specs.Prelude.{ℕ, zero, suc, ◌+◌, ◌-◌, ◌≡◌, refl, ◌≢◌, Bool, true, false, List, [], ◌∷◌, ◌++◌, map, get_or, set, drop, eqb, ltb}
use Rattle.std.proofs.Common.{ap, ◌∙◌, arith}
use Rattle.std.proofs.Math.Option.{Option, none, some}
use Rattle.std.proofs.Math.Seq.{map-set_same}
use Rattle.net_file.specs.Lists.{Result, ok, refuse, need, count}
use Rattle.net_file.specs.Values.{Rule}
use Rattle.definitions.specs.Lists.{◌>>=◌, each, is_some}
use Rattle.definitions.specs.Nets.{Port, Node, Graph, Home, at, holds}
use Rattle.definitions.specs.Scripts.{Edit, Insert, Copy, Join, Cut, ends, join, fill, vacate}
use Rattle.definitions.specs.State
use Rattle.definitions.specs.State.{Ids, Wait, Net, Pools, Engine, graph_of, homes, with_graph, with_dirty, with_stale, net_at, over_net, more, fewer, new_net, with_list, with_awaiting, with_pending, with_mark, entries, waits}
use Rattle.definitions.specs.Books.{push, tight, loose, is_dirty, tighten_dirty, tighten_net, push_dirty, mark_dirty, placed, add_node, mark_ends, link, edit, vacated, went_dirty, remove_node, finish_edit, wake, answer, finish_edit_net}

module _ {A : Type 0} where
  -- what holds of both answers of a test
  pub either : (P : A → Type 0) (t : Bool) (x y : A) → P x → P y → P (elim t as (λ _. A) [ true ↦ x | false ↦ y ])
  either P true x y p q = p
  either P false x y p q = q

-- all but slots, lists, pending numbers and waits
abbrev pub Outline : Type 0
Outline = Pools × List Rule × List Home × Option ℕ × ℕ

abbrev pub frame : Engine → Outline
frame e = (e.pools, e.rules, homes e, e.limit, e.steps)

-- all but marks, lists, pending numbers and waits
abbrev pub Body : Type 0
Body = Outline × Graph × List ℕ

abbrev pub body : Engine → Body
body e = (frame e, graph_of e, e.slots.chain)

-- e' has the frame of e
abbrev pub Frames : Engine → Engine → Type 0
Frames e e' = frame e' ≡ frame e

-- and its nodes and vacant slots
abbrev pub Still : Engine → Engine → Type 0
Still e e' = body e' ≡ body e

-- so has an answer, unless it is refused, and not by 0
abbrev pub FramesOk : Engine → Result Engine → Type 0
FramesOk e (ok e') = Frames e e'
FramesOk e (refuse r) = r ≢ 0

pub still_frame : {x y : Body} → x ≡ y → x.0 ≡ y.0
still_frame h = ap (λ (z : Body). z.0) h

pub still_graph : {x y : Body} → x ≡ y → x.1 ≡ y.1
still_graph h = ap (λ (z : Body). z.1) h

pub still_chain : {x y : Body} → x ≡ y → x.2 ≡ y.2
still_chain h = ap (λ (z : Body). z.2) h

pub pools_kept : {x y : Outline} → x ≡ y → x.0 ≡ y.0
pools_kept h = ap (λ (z : Outline). z.0) h

pub rules_kept : {x y : Outline} → x ≡ y → x.1 ≡ y.1
rules_kept h = ap (λ (z : Outline). z.1) h

pub homes_kept : {x y : Outline} → x ≡ y → x.2 ≡ y.2
homes_kept h = ap (λ (z : Outline). z.2) h

pub steps_kept : {x y : Outline} → x ≡ y → x.4 ≡ y.4
steps_kept h = ap (λ (z : Outline). z.4) h

-- ---- books beside nodes that stay

-- a change of one net that keeps its home
pub over_still : (f : Net → Net) (k : ℕ) (e : Engine) → ((t : Net) → (f t).home ≡ t.home) → Still e (over_net f k e)
unfolding over_net State.with_nets net_at
over_still f k e h =
    let d = new_net (record { name = 0; free = 0 }) in
    let q : map (λ (t : Net). t.home) (set e.nets k (f (get_or e.nets k d))) ≡ homes e =
    map-set_same (λ (t : Net). t.home) e.nets k (f (get_or e.nets k d)) d (h (get_or e.nets k d)) in
    λ i. ((e.pools, e.rules, q i, e.limit, e.steps), graph_of e, e.slots.chain)

pub more_still : (k : ℕ) (e : Engine) → Still e (more k e)
unfolding more with_pending
more_still k e = over_still (λ n. with_pending (n.pending + 1) n) k e (λ t. refl)

pub fewer_still : (k : ℕ) (e : Engine) → Still e (fewer k e)
unfolding fewer with_pending
fewer_still k e = over_still (λ n. with_pending (n.pending - 1) n) k e (λ t. refl)

pub awaiting_still : (ws : Net → List Wait) (k : ℕ) (e : Engine) → Still e (over_net (λ t. with_awaiting (ws t) t) k e)
unfolding with_awaiting
awaiting_still ws k e = over_still (λ t. with_awaiting (ws t) t) k e (λ t. refl)

pub list_still : (l : Net → Ids) (k : ℕ) (e : Engine) → Still e (over_net (λ t. with_list (l t) t) k e)
unfolding with_list
list_still l k e = over_still (λ t. with_list (l t) t) k e (λ t. refl)

pub mark_still : (n : ℕ) (e : Engine) → Still e (mark_dirty n e)
unfolding mark_dirty push_dirty with_mark State.with_slots with_dirty
mark_still n e = go (get_or (graph_of e) n none) (is_dirty e n)
  where
    go : (o : Option Node) (t : Bool) → Still e (elim o as (λ _. Engine) [
      | none ↦ e
      | some x ↦ elim t as (λ _. Engine) [ true ↦ e | false ↦ more x.net (push_dirty n (with_mark n true e)) ]
    ])
    go none t = refl
    go (some x) true = refl
    go (some x) false = more_still x.net (push_dirty n (with_mark n true e))

pub ends_still : (o : Option (Port × Port)) (e : Engine) → Still e (mark_ends o e)
unfolding mark_ends
ends_still none e = refl
ends_still (some p) e = mark_still p.1.node (mark_dirty p.0.node e) ∙ mark_still p.0.node e

pub wake_still : (w : Wait) (e : Engine) → Still e (wake w e)
unfolding wake
wake_still w e =
    fewer_still w.net (elim (holds (graph_of e) w.net w.node) as (λ _. Engine) [ true ↦ mark_dirty w.node e | false ↦ e ])
    ∙ either (Still e) (holds (graph_of e) w.net w.node) (mark_dirty w.node e) e (mark_still w.node e) refl

pub answer_still : (f : ℕ) (ws : List Wait) (e : Engine) → Still e (answer f ws e)
unfolding answer
answer_still zero ws e = refl
answer_still (suc f) [] e = refl
answer_still (suc f) (w ∷ ws) e =
    let e₁ = wake w e in
    let e₂ = over_net (with_awaiting []) w.net e₁ in
    either (Still e) (eqb (net_at e₁ w.net).pending 0) (answer f ((net_at e₁ w.net).awaiting ++ ws) e₂) (answer f ws e₁)
    (answer_still f ((net_at e₁ w.net).awaiting ++ ws) e₂ ∙ awaiting_still (λ t. []) w.net e₁ ∙ wake_still w e)
    (answer_still f ws e₁ ∙ wake_still w e)

pub finish_net_still : (k : ℕ) (e : Engine) → Still e (finish_edit_net k e)
unfolding finish_edit_net
finish_net_still k e =
    let e₁ = over_net (with_awaiting []) k e in
    either (Still e) (eqb (net_at e k).pending 0) (answer (waits e) (net_at e k).awaiting e₁) e
    (answer_still (waits e) (net_at e k).awaiting e₁ ∙ awaiting_still (λ t. []) k e) refl

pub tighten_net_still : (k : ℕ) (e : Engine) → Still e (tighten_net k e)
unfolding tighten_net
tighten_net_still k e = list_still (λ t. tight (holds (graph_of e) k) t.list) k e

pub tighten_dirty_still : (e : Engine) → Still e (tighten_dirty e)
unfolding tighten_dirty with_dirty
tighten_dirty_still e = refl

pub went_still : (k : ℕ) (e : Engine) → Still e (went_dirty k e)
unfolding went_dirty with_dirty
went_still k e =
    let e₁ = fewer k (with_dirty (with_stale (e.dirty.stale + 1) e.dirty) e) in
    let h = fewer_still k (with_dirty (with_stale (e.dirty.stale + 1) e.dirty) e) in
    either (Still e) (loose e₁.dirty) (tighten_dirty e₁) e₁ (tighten_dirty_still e₁ ∙ h) h

-- ---- edits and removals

pub placed_frame : (b : Bool) (n : ℕ) (x : Node) (e : Engine) → Frames e (placed b n x e)
unfolding placed State.with_slots
placed_frame b n x e =
    still_frame (list_still (λ t. push n t.list) x.net
    (State.with_slots (record { graph = fill (graph_of e) n x; marks = set e.slots.marks n b; chain = drop 1 e.slots.chain }) e))

pub add_frame : (b : Bool) (n : ℕ) (x : Node) (e : Engine) → FramesOk e (add_node b n x e)
unfolding add_node
add_frame b n x e = go (ltb (count is_some (graph_of e)) e.pools.nodes) (ltb (entries e) e.pools.entries)
  where
    go : (s t : Bool) → FramesOk e (need s 9 (need t 10 (ok (placed b n x e))))
    go true true = placed_frame b n x e
    go true false = omega arith
    go false t = omega arith

pub edit_frame : (d : Edit) (e : Engine) → FramesOk e (edit d e)
unfolding edit link with_graph State.with_slots push_dirty with_dirty
edit_frame (Insert n x) e = go (add_node true n x e) (add_frame true n x e)
  where
    go : (r : Result Engine) → FramesOk e r → FramesOk e (r >>= λ e'. ok (more x.net (push_dirty n e')))
    go (ok e') h = still_frame (more_still x.net (push_dirty n e')) ∙ h
    go (refuse r) h = h
edit_frame (Copy n x) e = add_frame false n x e
edit_frame (Join a b) e = still_frame (ends_still (ends (graph_of e) a b) (with_graph (join (graph_of e) a b) e))
edit_frame (Cut a b) e = refl

pub edits_frame : (ds : List Edit) (e : Engine) → FramesOk e (each edit ds e)
edits_frame [] e = refl
edits_frame (d ∷ ds) e = go (edit d e) (edit_frame d e) (λ e'. edits_frame ds e')
  where
    go : (r : Result Engine) → FramesOk e r → ((e' : Engine) → FramesOk e' (each edit ds e')) → FramesOk e (r >>= λ e'. each edit ds e')
    go (ok e') h f = then (each edit ds e') (f e')
      where
        then : (r : Result Engine) → FramesOk e' r → FramesOk e r
        then (ok e₂) k = k ∙ h
        then (refuse r) k = k
    go (refuse r) h f = h

pub vacated_frame : (k n : ℕ) (e : Engine) → Frames e (vacated k n e)
unfolding vacated State.with_slots
vacated_frame k n e =
    still_frame (list_still (λ t. with_stale (t.list.stale + 1) t.list) k
    (State.with_slots (record { graph = vacate (graph_of e) n; marks = set e.slots.marks n false; chain = n ∷ e.slots.chain }) e))

pub remove_frame : (e : Engine) (n : ℕ) → Frames e (remove_node e n)
unfolding remove_node
remove_frame e n =
    let k = (at (graph_of e) n).net in
    let v = vacated k n e in
    let e₁ : Engine = elim (is_dirty e n) as (λ _. Engine) [ true ↦ went_dirty k v | false ↦ v ] in
    let h : Frames e e₁ = either (Frames e) (is_dirty e n) (went_dirty k v) v (still_frame (went_still k v) ∙ vacated_frame k n e) (vacated_frame k n e) in
    either (Frames e) (loose (net_at e₁ k).list) (tighten_net k e₁) e₁ (still_frame (tighten_net_still k e₁) ∙ h) h

pub finish_frame : (dead : List ℕ) (e : Engine) → Frames e (finish_edit dead e)
unfolding finish_edit
finish_frame [] e = refl
finish_frame (n ∷ dead) e = finish_frame dead (remove_node e n) ∙ remove_frame e n
