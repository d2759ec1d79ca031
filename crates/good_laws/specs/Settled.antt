-- No wait on a net at 0: removals and answers.
use Rattle.std.specs.Prelude.{ℕ, zero, suc, ◌+◌, ◌-◌, ◌≤◌, ◌<◌, ◌≡◌, refl, ◌≢◌, Bool, true, false, List, [], ◌∷◌, ◌++◌, length, get_or, eqb}
use Rattle.std.proofs.Common.{sym, ap, ◌∙◌, subst, arith, eqb-true}
use Rattle.std.proofs.Math.Decide.{ℕ_discrete}
use Rattle.std.proofs.Math.Option.{Option, none, some}
use Rattle.std.proofs.lemmas.List.{length-map}
use Rattle.std.proofs.lemmas.Bool.{eqb-false}
use Rattle.definitions.specs.Nets.{Node, at, holds}
use Rattle.definitions.specs.State.{Net, Wait, Engine, graph_of, with_slots, with_dirty, with_mark, with_nets, with_stale, with_list, with_pending, with_awaiting, net_at, over_net, more, fewer, waits}
use Rattle.definitions.specs.Books.{tight, loose, is_dirty, tighten_net, push_dirty, mark_dirty, vacated, went_dirty, remove_node, finish_edit, wake, answer, finish_edit_net}
use Rattle.engine_laws.specs.Frame.{either, still_frame, homes_kept, remove_frame, wake_still}
use Rattle.good_laws.specs.Owners.{owners, net_of}
use Rattle.good_laws.specs.Nets.{over_length, over_part, over_same, over_other}
use Rattle.good_laws.specs.Good.{Good}
use Rattle.good_laws.specs.Answers.{awaits, fewer_awaits, emptied}
use Rattle.good_laws.specs.Removed.{AllThere, went_is, remove_good, remove_owners}
use Rattle.good_laws.specs.Idle.{Idle, Rises, rises_then}

-- ---- a node goes: only its net changes, and that not in its waits

vacated_others : (k n : ℕ) (e : Engine) (j : ℕ) → j ≢ k → net_at (vacated k n e) j ≡ net_at e j
unfolding vacated over_net with_nets with_slots net_at
vacated_others k n e j d = over_other (λ t. with_list (with_stale (t.list.stale + 1) t.list) t) k e j d

went_others : (k : ℕ) (v : Engine) (j : ℕ) → j ≢ k → net_at (went_dirty k v) j ≡ net_at v j
unfolding fewer with_dirty net_at
went_others k v j d = ap (λ (e : Engine). net_at e j) (went_is k v) ∙ over_other (λ n. with_pending (n.pending - 1) n) k v j d

remove_others : (e : Engine) (n j : ℕ) → j ≢ (at (graph_of e) n).net → net_at (remove_node e n) j ≡ net_at e j
unfolding remove_node tighten_net
remove_others e n j d =
    let k = (at (graph_of e) n).net in
    let v = vacated k n e in
    let e₁ : Engine = elim (is_dirty e n) as (λ _. Engine) [ true ↦ went_dirty k v | false ↦ v ] in
    let a : net_at e₁ j ≡ net_at e j = either (λ (x : Engine). net_at x j ≡ net_at e j) (is_dirty e n) (went_dirty k v) v (went_others k v j d ∙ vacated_others k n e j d) (vacated_others k n e j d) in
    either (λ (x : Engine). net_at x j ≡ net_at e j) (loose (net_at e₁ k).list) (tighten_net k e₁) e₁ (over_other (λ t. with_list (tight (holds (graph_of e₁) k) t.list) t) k e₁ j d ∙ a) a

vacated_awaits : (k n : ℕ) (e : Engine) → awaits (vacated k n e) ≡ awaits e
unfolding vacated over_net with_nets with_slots with_list net_at
vacated_awaits k n e = over_part (λ t. t.awaiting) (λ t. with_list (with_stale (t.list.stale + 1) t.list) t) k e (λ t. refl)

went_awaits : (k : ℕ) (v : Engine) → awaits (went_dirty k v) ≡ awaits v
unfolding with_dirty
went_awaits k v = ap awaits (went_is k v) ∙ fewer_awaits k v

pub tighten_awaits : (k : ℕ) (e : Engine) → awaits (tighten_net k e) ≡ awaits e
unfolding tighten_net with_list
tighten_awaits k e = over_part (λ t. t.awaiting) (λ t. with_list (tight (holds (graph_of e) k) t.list) t) k e (λ t. refl)

pub remove_awaits : (e : Engine) (n : ℕ) → awaits (remove_node e n) ≡ awaits e
unfolding remove_node
remove_awaits e n =
    let k = (at (graph_of e) n).net in
    let v = vacated k n e in
    let e₁ : Engine = elim (is_dirty e n) as (λ _. Engine) [ true ↦ went_dirty k v | false ↦ v ] in
    let a : awaits e₁ ≡ awaits e = either (λ (x : Engine). awaits x ≡ awaits e) (is_dirty e n) (went_dirty k v) v (went_awaits k v ∙ vacated_awaits k n e) (vacated_awaits k n e) in
    either (λ (x : Engine). awaits x ≡ awaits e) (loose (net_at e₁ k).list) (tighten_net k e₁) e₁ (tighten_awaits k e₁ ∙ a) a

-- the visited node's net counts it, and stays above 0
remove_rises : (x : ℕ → ℕ) (n k : ℕ) (e : Engine) → Good x e → get_or (owners (graph_of e)) n none ≡ some k → 1 ≤ x k → Rises e (remove_node e n)
remove_rises x n k e g o l =
    let h = homes_kept (remove_frame e n) in
    let m : length (remove_node e n).nets ≡ length e.nets = sym (length-map (remove_node e n).nets (λ (t : Net). t.home)) ∙ ap length h ∙ length-map e.nets (λ (t : Net). t.home) in
    record { nets = m; same = remove_awaits e n; was = λ j b z. go m j (ℕ_discrete j k) b z }
  where
    go : length (remove_node e n).nets ≡ length e.nets → (j : ℕ) → Dec (j ≡ k) → j < length e.nets → (net_at (remove_node e n) j).pending ≡ 0 → (net_at e j).pending ≡ 0
    go m j (yes q) b z =
        let p = (remove_good x n k e g o).pending j (subst (λ (c : ℕ). j < c) (sym m) b) in
        let r : x j ≡ x k = ap x q in
        absurd (omega arith)
    go m j (no d) b z = sym (ap (λ (t : Net). t.pending) (remove_others e n j (λ q. d (q ∙ net_of (graph_of e) n k o)))) ∙ z

pub finish_rises : (x : ℕ → ℕ) (k : ℕ) (dead : List ℕ) (e : Engine) → Good x e → AllThere (owners (graph_of e)) k dead → 1 ≤ x k → Rises e (finish_edit dead e)
unfolding finish_edit
finish_rises x k [] e g h l = record { nets = refl; same = refl; was = λ j b z. z }
finish_rises x k (n ∷ dead) e g h l =
    rises_then e (remove_node e n) (finish_edit dead (remove_node e n)) (remove_rises x n k e g h.0 l)
    (finish_rises x k dead (remove_node e n) (remove_good x n k e g h.0) (subst (λ (o : List (Option ℕ)). AllThere o k dead) (sym (remove_owners e n)) h.1) l)

-- ---- answers

-- no wait on a net at 0, but for net k
abbrev pub IdleBut : ℕ → Engine → Type 0
IdleBut k e = (j : ℕ) → j ≢ k → j < length e.nets → (net_at e j).pending ≡ 0 → (net_at e j).awaiting ≡ []

-- net k alone has changed
but_others : (k : ℕ) (e e' : Engine) → length e'.nets ≡ length e.nets → ((j : ℕ) → j ≢ k → net_at e' j ≡ net_at e j) → Idle e → IdleBut k e'
but_others k e e' m o h j d l z =
    ap (λ (t : Net). t.awaiting) (o j d) ∙ h j (subst (λ (c : ℕ). j < c) m l) (sym (ap (λ (t : Net). t.pending) (o j d)) ∙ z)

pub fewer_but : (k : ℕ) (e : Engine) → Idle e → IdleBut k (fewer k e)
unfolding fewer
fewer_but k e h = but_others k e (fewer k e) (over_length (λ n. with_pending (n.pending - 1) n) k e) (λ j d. over_other (λ n. with_pending (n.pending - 1) n) k e j d) h

-- its waits are taken
pub emptied_idle : (k : ℕ) (e : Engine) → IdleBut k e → Idle (emptied k e)
unfolding with_awaiting
emptied_idle k e h j l z = go (ℕ_discrete j k)
  where
    m : length (emptied k e).nets ≡ length e.nets
    m = over_length (with_awaiting []) k e

    go : Dec (j ≡ k) → (net_at (emptied k e) j).awaiting ≡ []
    go (yes q) =
        let l' : k < length e.nets = subst (λ (i : ℕ). i < length e.nets) q (subst (λ (c : ℕ). j < c) m l) in
        ap (λ (i : ℕ). (net_at (emptied k e) i).awaiting) q ∙ ap (λ (t : Net). t.awaiting) (over_same (with_awaiting []) k e l')
    go (no d) =
        let o = over_other (with_awaiting []) k e j d in
        ap (λ (t : Net). t.awaiting) o ∙ h j d (subst (λ (c : ℕ). j < c) m l) (sym (ap (λ (t : Net). t.pending) o) ∙ z)

-- or it is above 0
pub above_idle : (k : ℕ) (e : Engine) → IdleBut k e → (net_at e k).pending ≢ 0 → Idle e
above_idle k e h a j l z = go (ℕ_discrete j k)
  where
    go : Dec (j ≡ k) → (net_at e j).awaiting ≡ []
    go (yes q) = absurd (a (ap (λ (i : ℕ). (net_at e i).pending) (sym q) ∙ z))
    go (no d) = h j d l z

mark_others : (n k : ℕ) (e : Engine) → holds (graph_of e) k n ≡ true → (j : ℕ) → j ≢ k → net_at (mark_dirty n e) j ≡ net_at e j
unfolding mark_dirty holds more push_dirty with_mark with_slots with_dirty net_at
mark_others n k e h j d = go (get_or (graph_of e) n none) (is_dirty e n) h
  where
    go : (o : Option Node) (t : Bool) → elim o as (λ _. Bool) [ none ↦ false | some x ↦ eqb x.net k ] ≡ true → net_at (elim o as (λ _. Engine) [
      | none ↦ e
      | some x ↦ elim t as (λ _. Engine) [ true ↦ e | false ↦ more x.net (push_dirty n (with_mark n true e)) ]
    ]) j ≡ net_at e j
    go none t q = refl
    go (some x) true q = refl
    go (some x) false q =
        over_other (λ n. with_pending (n.pending + 1) n) x.net (push_dirty n (with_mark n true e)) j (λ s. d (s ∙ eqb-true x.net k q))

wake_others : (w : Wait) (e : Engine) (j : ℕ) → j ≢ w.net → net_at (wake w e) j ≡ net_at e j
unfolding wake fewer
wake_others w e j d = go (holds (graph_of e) w.net w.node) refl
  where
    go : (t : Bool) → holds (graph_of e) w.net w.node ≡ t → net_at (fewer w.net (elim t as (λ _. Engine) [ true ↦ mark_dirty w.node e | false ↦ e ])) j ≡ net_at e j
    go true h = over_other (λ n. with_pending (n.pending - 1) n) w.net (mark_dirty w.node e) j d ∙ mark_others w.node w.net e h j d
    go false h = over_other (λ n. with_pending (n.pending - 1) n) w.net e j d

pub wake_but : (w : Wait) (e : Engine) → Idle e → IdleBut w.net (wake w e)
wake_but w e h =
    let q = homes_kept (still_frame (wake_still w e)) in
    let m : length (wake w e).nets ≡ length e.nets = sym (length-map (wake w e).nets (λ (t : Net). t.home)) ∙ ap length q ∙ length-map e.nets (λ (t : Net). t.home) in
    but_others w.net e (wake w e) m (wake_others w e) h
