-- What a function of the crate leaves on each way out, and one turn of the loop, in the words of its tests and calls.
use Rattle.std.specs.Prelude.{ℕ, zero, suc, ◌-◌, ◌<◌, ◌≤◌, ◌≡◌, refl, Bool, true, false, List}
use Rattle.std.proofs.Common.{not-suc-le-zero, sub-one}
use Rattle.words.specs.Choose.{eq_yes, eq_no, pick_true, pick_false}
use Rattle.words.specs.Left.{Left, whole}
use Rattle.kinds.specs.declared.NodeId.{NodeId}
use Rattle.layout.specs.Layout.{next, less, principal}
use Rattle.graph.specs.Graph.{link}
use Rattle.edits.specs.Edits.{on_placed, insert_node}
use Rattle.edits.specs.declared.Placed.{Placed}
use Rattle.edits.specs.declared.Placed.TheVariants as placed
use Rattle.tried.specs.Tries.{spent, arity, name}
use Rattle.tried.specs.declared.Tried.{Tried}
use Rattle.tried.specs.declared.Tried.TheVariants.{Passed, Acted, Refused}
use Rattle.erase.specs.Erase.{erase_ports, part, act, erase}

pub ports_more : (ws w1 w2 : List ℕ) (t name p q a k : ℕ) (s : Placed) (n : NodeId) (x : Left Tried) → erase_ports ws t name p k ≡ x → 0 < k
    → s ≡ (insert_node ws t name 1).is → w1 ≡ (insert_node ws t name 1).ws → s ≡ placed.At n → a ≡ principal n.0 → w2 ≡ link w1 p a → q ≡ next p
    → erase_ports w2 t name q (k - 1) ≡ x
unfolding erase_ports on_placed
ports_more ws w1 w2 t name p q a zero s n x e h es e1 en ea e2 eq = absurd (not-suc-le-zero h)
ports_more ws w1 w2 t name p q a (suc k) s n x e h es e1 en ea e2 eq = rw (sub-one, eq, e2, ea, e1) (rw (← es, en) at e)

pub ports_refused : (ws w : List ℕ) (t name p k : ℕ) (s : Placed) (r : ℕ) (x : Left Tried) → erase_ports ws t name p k ≡ x → 0 < k
    → s ≡ (insert_node ws t name 1).is → w ≡ (insert_node ws t name 1).ws → s ≡ placed.Refused r → record { is = Refused r; ws = w } ≡ x
unfolding erase_ports on_placed
ports_refused ws w t name p zero s r x e h es ew er = absurd (not-suc-le-zero h)
ports_refused ws w t name p (suc k) s r x e h es ew er = rw ew (rw (← es, er) at e)

pub ports_done : (ws : List ℕ) (t name p k : ℕ) (x : Left Tried) → erase_ports ws t name p k ≡ x → k ≤ 0 → record { is = Acted; ws = ws } ≡ x
unfolding erase_ports
ports_done ws t name p zero x e h = e
ports_done ws t name p (suc k) x e h = absurd (not-suc-le-zero h)

pub act_acts : (ws w1 w2 : List ℕ) (t eraser node e m k p q : ℕ) (r : Tried) → e ≡ name ws eraser → m ≡ arity ws node → k ≡ less m → p ≡ principal node
    → q ≡ next p → w1 ≡ part ws eraser node → r ≡ (erase_ports w1 t e q k).is → w2 ≡ (erase_ports w1 t e q k).ws
    → record { is = r; ws = w2 } ≡ act ws t eraser node
unfolding act
act_acts ws w1 w2 t eraser node e m k p q r ee em ek ep eq e1 er e2 =
    rw (← ee, ← em, ← ek, ← ep, ← eq, ← e1) (whole (erase_ports w1 t e q k) er e2)

pub erase_spent : (ws : List ℕ) (t eraser node m : ℕ) (b : Bool) → m ≡ arity ws eraser → m ≡ 1 → b ≡ spent ws → b ≡ true
    → record { is = Refused 14; ws = ws } ≡ erase ws t eraser node
unfolding erase
erase_spent ws t eraser node m b em h eb hb = eq_yes _ _ _ _ (rw (← em) h) (pick_true _ _ _ (rw (← eb) hb) refl)

pub erase_acts : (ws w : List ℕ) (t eraser node m : ℕ) (b : Bool) (r : Tried) → m ≡ arity ws eraser → m ≡ 1 → b ≡ spent ws → b ≡ false
    → r ≡ (act ws t eraser node).is → w ≡ (act ws t eraser node).ws → record { is = r; ws = w } ≡ erase ws t eraser node
unfolding erase
erase_acts ws w t eraser node m b r em h eb hb er ew =
    eq_yes _ _ _ _ (rw (← em) h) (pick_false _ _ _ (rw (← eb) hb) (whole (act ws t eraser node) er ew))

pub erase_passes : (ws : List ℕ) (t eraser node m : ℕ) → m ≡ arity ws eraser → (m ≡ 1 → ⊥) → record { is = Passed; ws = ws } ≡ erase ws t eraser node
unfolding erase
erase_passes ws t eraser node m em h = eq_no _ _ _ _ (λ e. h (rw em e)) refl
