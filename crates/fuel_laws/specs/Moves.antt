-- Marks, pending numbers and emptied waits draw no more.
use Rattle.std.specs.Prelude.{ℕ, ◌+◌, ◌-◌, ◌≤◌, ◌<◌, ◌≡◌, refl, ◌≢◌, Bool, true, false, not, ◌&&◌, ◌||◌, List, [], ◌∷◌, ◌++◌, length, get_or, set, eqb}
use Rattle.std.proofs.Common.{sym, ap, ◌∙◌, subst, arith, length-append, get_or-set_same, get_or-set_other, eqb-true}
use Rattle.std.proofs.Math.Decide.{ℕ_discrete}
use Rattle.std.proofs.lemmas.Bool.{false≢true}
use Rattle.std.proofs.Math.Option.{Option, none, some}
use Rattle.list_laws.specs.Tests.{both, both_are}
use Rattle.net_file.specs.Lists.{bit}
use Rattle.definitions.specs.Nets.{Node, holds}
use Rattle.definitions.specs.State.{Wait, Engine, graph_of, with_slots, with_dirty, with_mark, with_nets, with_pending, net_at, over_net, more, fewer}
use Rattle.definitions.specs.Books.{push, is_dirty, push_dirty, mark_dirty, wake}
use Rattle.dirty_laws.specs.Tests.{eqb_self}
use Rattle.dirty_laws.specs.Tally.{tally, tally_mono, tally_off, off, off_other}
use Rattle.good_laws.specs.Owners.{owner, owner_at, is_of}
use Rattle.good_laws.specs.Nets.{over_length, part_at, pending_more, pending_fewer}
use Rattle.good_laws.specs.Good.{Good}
use Rattle.good_laws.specs.Marks.{below_slots}
use Rattle.good_laws.specs.Answers.{awaits, wake_awaits, fewer_awaits}
use Rattle.fuel_laws.specs.Totals.{total, total_most, total_drop}
use Rattle.fuel_laws.specs.Weights.{waiter, drawn, weight, drawing, weight_less, weight_above, weight_zero}

-- ---- pending numbers

-- the same waits, and no net that was at 0 is above it
pub record Lighter (e e' : Engine) : Type 0 where
  pub nets : length e'.nets ≡ length e.nets
  pub same : awaits e' ≡ awaits e
  pub zero_stays : (m : ℕ) → m < length e.nets → (net_at e m).pending ≡ 0 → (net_at e' m).pending ≡ 0

module _ (T : ℕ → Option ℕ) (N : ℕ) where
  lighter_weight : (e e' : Engine) → Lighter e e' → (m : ℕ) → m < length e.nets → weight T N (net_at e' m) m ≤ weight T N (net_at e m) m
  lighter_weight e e' h m l =
      let q = part_at (λ t. t.awaiting) e e' h.same m in
      weight_less T N (net_at e m) (net_at e' m) m (h.zero_stays m l) (λ n k. subst (λ (ws : List Wait). (waiter ws n || is_of m (T n)) ≡ true) q k)

  pub lighter_drawing : (e e' : Engine) → Lighter e e' → drawing T N e' ≤ drawing T N e
  lighter_drawing e e' h =
      let a = total_most (λ m. weight T N (net_at e' m) m) (λ m. weight T N (net_at e m) m) (length e.nets) (lighter_weight e e' h) in
      let b : drawing T N e' ≡ total (λ m. weight T N (net_at e' m) m) (length e.nets) = ap (total (λ m. weight T N (net_at e' m) m)) h.nets in
      omega arith

  -- net k came to 0: its nodes count no more
  pub fallen_drawing : (e e' : Engine) (k : ℕ) → Lighter e e' → k < length e.nets → (net_at e k).pending ≢ 0 → (net_at e' k).pending ≡ 0
      → drawing T N e' + drawn T N (net_at e' k).awaiting k ≤ drawing T N e
  fallen_drawing e e' k h l above zero' =
      let a = total_drop (λ m. weight T N (net_at e' m) m) (λ m. weight T N (net_at e m) m) k (length e.nets) l (lighter_weight e e' h) in
      let b : drawing T N e' ≡ total (λ m. weight T N (net_at e' m) m) (length e.nets) = ap (total (λ m. weight T N (net_at e' m) m)) h.nets in
      let c = weight_above T N (net_at e k) k above in
      let d = weight_zero T N (net_at e' k) k zero' in
      let q : drawn T N (net_at e' k).awaiting k ≡ drawn T N (net_at e k).awaiting k = ap (λ (ws : List Wait). drawn T N ws k) (part_at (λ t. t.awaiting) e e' h.same k) in
      omega arith

pub fewer_lighter : (k : ℕ) (e : Engine) → Lighter e (fewer k e)
unfolding fewer
fewer_lighter k e = record {
  nets = over_length (λ n. with_pending (n.pending - 1) n) k e;
  same = fewer_awaits k e;
  zero_stays = λ m l z. let p = pending_fewer k e m l in omega arith;
}

-- ---- a wait answered

mark_length : (n : ℕ) (e : Engine) → length (mark_dirty n e).nets ≡ length e.nets
unfolding mark_dirty more push_dirty with_mark with_slots with_dirty
mark_length n e = go (get_or (graph_of e) n none) (is_dirty e n)
  where
    go : (o : Option Node) (t : Bool) → length (elim o as (λ _. Engine) [
      | none ↦ e
      | some x ↦ elim t as (λ _. Engine) [ true ↦ e | false ↦ more x.net (push_dirty n (with_mark n true e)) ]
    ]).nets ≡ length e.nets
    go none t = refl
    go (some x) true = refl
    go (some x) false = over_length (λ n. with_pending (n.pending + 1) n) x.net (push_dirty n (with_mark n true e))

mark_pending : (n k : ℕ) (e : Engine) → holds (graph_of e) k n ≡ true → (m : ℕ) → m < length e.nets
    → (net_at (mark_dirty n e) m).pending ≤ (net_at e m).pending + bit (eqb k m)
unfolding mark_dirty holds push_dirty with_mark with_slots with_dirty net_at
mark_pending n k e h m l = go (get_or (graph_of e) n none) (is_dirty e n) h
  where
    go : (o : Option Node) (t : Bool) → elim o as (λ _. Bool) [ none ↦ false | some x ↦ eqb x.net k ] ≡ true → (net_at (elim o as (λ _. Engine) [
      | none ↦ e
      | some x ↦ elim t as (λ _. Engine) [ true ↦ e | false ↦ more x.net (push_dirty n (with_mark n true e)) ]
    ]) m).pending ≤ (net_at e m).pending + bit (eqb k m)
    go none t q = omega arith
    go (some x) true q = omega arith
    go (some x) false q =
        let p = pending_more x.net (push_dirty n (with_mark n true e)) m l in
        let r : bit (eqb x.net m) ≡ bit (eqb k m) = ap (λ (j : ℕ). bit (eqb j m)) (eqb-true x.net k q) in
        omega arith

pub wake_lighter : (w : Wait) (e : Engine) → Lighter e (wake w e)
unfolding wake
wake_lighter w e = record {
  nets = (fewer_lighter w.net (woken (holds (graph_of e) w.net w.node))).nets ∙ size (holds (graph_of e) w.net w.node);
  same = wake_awaits w e;
  zero_stays = λ m l z. falls m l z (holds (graph_of e) w.net w.node) refl;
}
  where
    woken : Bool → Engine
    woken t = elim t as (λ _. Engine) [ true ↦ mark_dirty w.node e | false ↦ e ]

    size : (t : Bool) → length (woken t).nets ≡ length e.nets
    size true = mark_length w.node e
    size false = refl

    falls : (m : ℕ) → m < length e.nets → (net_at e m).pending ≡ 0 → (t : Bool) → holds (graph_of e) w.net w.node ≡ t
        → (net_at (fewer w.net (woken t)) m).pending ≡ 0
    falls m l z true h =
        let a = mark_pending w.node w.net e h m l in
        let b = pending_fewer w.net (woken true) m (subst (λ (c : ℕ). m < c) (sym (size true)) l) in
        omega arith
    falls m l z false h = let b = pending_fewer w.net e m l in omega arith

-- ---- nodes that are woken

-- the clean nodes among those that wait
abbrev pub asleep : ℕ → List Wait → List Bool → ℕ
asleep N ws ms = tally (λ n. waiter ws n && not (get_or ms n false)) N

or_right : (a b : Bool) → b ≡ true → (a || b) ≡ true
or_right true b h = refl
or_right false b h = h

-- the first of them may be awake
asleep_tail : (N : ℕ) (w : Wait) (ws : List Wait) (ms : List Bool) → asleep N ws ms ≤ asleep N (w ∷ ws) ms
asleep_tail N w ws ms = tally_mono (λ n. waiter ws n && not (get_or ms n false)) (λ n. waiter (w ∷ ws) n && not (get_or ms n false)) N
    (λ n h. both_are (waiter (w ∷ ws) n) (not (get_or ms n false)) (or_right (eqb w.node n) (waiter ws n) ((both (waiter ws n) (not (get_or ms n false)) h).0)) ((both (waiter ws n) (not (get_or ms n false)) h).1))

-- it wakes
asleep_woken : (N : ℕ) (w : Wait) (ws : List Wait) (ms : List Bool) → w.node < N → w.node < length ms → get_or ms w.node false ≡ false
    → asleep N ws (set ms w.node true) + 1 ≤ asleep N (w ∷ ws) ms
asleep_woken N w ws ms l l' clean =
    let n = w.node in
    let f : ℕ → Bool = λ i. waiter (w ∷ ws) i && not (get_or ms i false) in
    let f' : ℕ → Bool = λ i. waiter ws i && not (get_or (set ms n true) i false) in
    let on : f n ≡ true = both_are (waiter (w ∷ ws) n) (not (get_or ms n false)) (ap (λ (b : Bool). b || waiter ws n) (eqb_self n)) (ap not clean) in
    let a = tally_off f n N l on in
    let b = tally_mono f' (off f n) N (λ i h. still i h (ℕ_discrete i n)) in
    omega arith
  where
    still : (i : ℕ) → (waiter ws i && not (get_or (set ms w.node true) i false)) ≡ true → Dec (i ≡ w.node)
        → off (λ j. waiter (w ∷ ws) j && not (get_or ms j false)) w.node i ≡ true
    still i h (yes q) =
        let u : not (get_or (set ms w.node true) i false) ≡ false = ap (λ (j : ℕ). not (get_or (set ms w.node true) j false)) q ∙ ap not (get_or-set_same ms w.node true false l') in
        absurd (false≢true (sym u ∙ (both (waiter ws i) (not (get_or (set ms w.node true) i false)) h).1))
    still i h (no d) =
        off_other (λ j. waiter (w ∷ ws) j && not (get_or ms j false)) w.node i d
        ∙ both_are (waiter (w ∷ ws) i) (not (get_or ms i false)) (or_right (eqb w.node i) (waiter ws i) ((both (waiter ws i) (not (get_or (set ms w.node true) i false)) h).0))
        (ap not (sym (get_or-set_other ms w.node i true false d)) ∙ (both (waiter ws i) (not (get_or (set ms w.node true) i false)) h).1)

-- an entry is pushed for each node that wakes
pub wake_awake : (x : ℕ → ℕ) (N : ℕ) (w : Wait) (ws : List Wait) (e : Engine) → Good x e → e.pools.nodes ≡ N
    → length (wake w e).dirty.items + asleep N ws (wake w e).slots.marks ≤ length e.dirty.items + asleep N (w ∷ ws) e.slots.marks
unfolding wake fewer over_net with_nets mark_dirty is_dirty more push_dirty with_mark with_slots with_dirty push
wake_awake x N w ws e g s = go (holds (graph_of e) w.net w.node) (get_or (graph_of e) w.node none) refl (get_or e.slots.marks w.node false) refl
  where
    same : length e.dirty.items + asleep N ws e.slots.marks ≤ length e.dirty.items + asleep N (w ∷ ws) e.slots.marks
    same = let a = asleep_tail N w ws e.slots.marks in omega arith

    marked : Option Node → Bool → Engine
    marked o t = elim o as (λ _. Engine) [
      | none ↦ e
      | some y ↦ elim t as (λ _. Engine) [ true ↦ e | false ↦ more y.net (push_dirty w.node (with_mark w.node true e)) ]
    ]

    go : (b : Bool) (o : Option Node) → get_or (graph_of e) w.node none ≡ o → (t : Bool) → get_or e.slots.marks w.node false ≡ t
        → length (elim b as (λ _. Engine) [ true ↦ marked o t | false ↦ e ]).dirty.items + asleep N ws (elim b as (λ _. Engine) [ true ↦ marked o t | false ↦ e ]).slots.marks
        ≤ length e.dirty.items + asleep N (w ∷ ws) e.slots.marks
    go false o p t q = same
    go true none p t q = same
    go true (some y) p true q = same
    go true (some y) p false q =
        let low = below_slots g.slotted w.node y.net (owner_at (graph_of e) w.node ∙ ap owner p) in
        let z = g.slotted.sized in
        let a = asleep_woken N w ws e.slots.marks (omega arith) (omega arith) q in
        let c : length (e.dirty.items ++ w.node ∷ []) ≡ length e.dirty.items + 1 = length-append e.dirty.items (w.node ∷ []) in
        omega arith
