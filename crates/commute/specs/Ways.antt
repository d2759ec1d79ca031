-- What a function of the crate leaves on each way out, and one turn of each loop, in the words of its tests and calls.
use Rattle.std.specs.Prelude.{ℕ, suc, ◌+◌, ◌-◌, ◌<◌, ◌≤◌, ◌≡◌, refl, Bool, true, false, List, ◌++◌, length, take, set}
use Rattle.std.proofs.Common.{append_assoc, append-nil, take-suc-set, take_all, arith, add-one}
use Rattle.words.specs.Choose.{lt_split, pick_true, pick_false}
use Rattle.words.specs.Left.{Left, whole}
use Rattle.kinds.specs.declared.NodeId.{NodeId}
use Rattle.kinds.specs.declared.NetId.{NetId}
use Rattle.layout.specs.declared.Port.{Port}
use Rattle.layout.specs.Layout.{next, less, principal}
use Rattle.graph.specs.Graph.{link}
use Rattle.edits.specs.Edits.{on_placed, insert_node}
use Rattle.edits.specs.declared.Placed.{Placed}
use Rattle.edits.specs.declared.Placed.TheVariants as placed
use Rattle.tried.specs.Tries.{spent, arity, name}
use Rattle.tried.specs.declared.Tried.{Tried}
use Rattle.tried.specs.declared.Tried.TheVariants.{Acted, Refused}
use Rattle.erase.specs.Erase.{part}
use Rattle.commute.specs.declared.Side.{Side}
use Rattle.commute.specs.Commute.{ports, row, blank, cell, link_column, copy_across, copy_both, aux_count, side_of, commute}

-- ---- a row

pub row_more : (r : List ℕ) (j q q' : ℕ) (x : List ℕ) → take j r ++ ports q (15 - j) ≡ x → j < 15 → length r ≡ 15 → q' ≡ next q
    → take (j + 1) (set r j q) ++ ports q' (15 - (j + 1)) ≡ x
unfolding ports
row_more r j q q' x e h l eq =
    let s : 15 - j ≡ suc (15 - (j + 1)) = omega arith in
    let b : j < length r = omega arith in
    rw (add-one, take-suc-set, append_assoc, eq) (rw (s, add-one) at e)

pub row_done : (r : List ℕ) (j q : ℕ) (x : List ℕ) → take j r ++ ports q (15 - j) ≡ x → 15 ≤ j → length r ≡ 15 → r ≡ x
unfolding ports
row_done r j q x e h l =
    let s : 15 - j ≡ 0 = omega arith in
    let b : length r ≤ j = omega arith in
    rw (s, append-nil, take_all) at e

-- ---- a column

pub column_more : (ws w : List ℕ) (grid : List (List ℕ)) (p q j i k : ℕ) (x : List ℕ) → link_column ws grid p j i (k - i) ≡ x → i < k
    → w ≡ link ws p (cell grid i j) → q ≡ next p → link_column w grid q j (i + 1) (k - (i + 1)) ≡ x
unfolding link_column
column_more ws w grid p q j i k x e h ew eq = let s : k - i ≡ suc (k - (i + 1)) = omega arith in rw (ew, eq) (rw s at e)

pub column_done : (ws : List ℕ) (grid : List (List ℕ)) (p j i k : ℕ) (x : List ℕ) → link_column ws grid p j i (k - i) ≡ x → k ≤ i → ws ≡ x
unfolding link_column
column_done ws grid p j i k x e h = let s : k - i ≡ 0 = omega arith in rw s at e

-- ---- the copies of a

pub across_more : (ws w1 w2 w3 : List ℕ) (a : Side) (grid : List (List ℕ)) (p q v u m j k : ℕ) (s : Placed) (n : NodeId) (x : Left Tried)
    → copy_across ws a grid p j (k - j) ≡ x → j < k → m ≡ next a.count → s ≡ (insert_node ws a.net.0 a.name m).is
    → w1 ≡ (insert_node ws a.net.0 a.name m).ws → s ≡ placed.At n → v ≡ principal n.0 → w2 ≡ link w1 p v → u ≡ next v
    → w3 ≡ link_column w2 grid u j 0 a.count → q ≡ next p → copy_across w3 a grid q (j + 1) (k - (j + 1)) ≡ x
unfolding copy_across on_placed
across_more ws w1 w2 w3 a grid p q v u m j k s n x e h em es e1 en ev e2 eu e3 eq =
    let d : k - j ≡ suc (k - (j + 1)) = omega arith in
    rw (eq, e3, eu, e2, ev, e1) (rw (d, ← em, ← es, en) at e)

pub across_refused : (ws w : List ℕ) (a : Side) (grid : List (List ℕ)) (p m j k r : ℕ) (s : Placed) (x : Left Tried)
    → copy_across ws a grid p j (k - j) ≡ x → j < k → m ≡ next a.count → s ≡ (insert_node ws a.net.0 a.name m).is
    → w ≡ (insert_node ws a.net.0 a.name m).ws → s ≡ placed.Refused r → record { is = Refused r; ws = w } ≡ x
unfolding copy_across on_placed
across_refused ws w a grid p m j k r s x e h em es ew er =
    let d : k - j ≡ suc (k - (j + 1)) = omega arith in
    rw ew (rw (d, ← em, ← es, er) at e)

pub across_done : (ws : List ℕ) (a : Side) (grid : List (List ℕ)) (p j k : ℕ) (x : Left Tried) → copy_across ws a grid p j (k - j) ≡ x → k ≤ j
    → record { is = Acted; ws = ws } ≡ x
unfolding copy_across
across_done ws a grid p j k x e h = let d : k - j ≡ 0 = omega arith in rw d at e

-- ---- the copies of b, then those of a

pub both_more : (ws w1 w2 : List ℕ) (a b : Side) (grid : List (List ℕ)) (l : List ℕ) (p q v u m i k : ℕ) (s : Placed) (n : NodeId) (x : Left Tried)
    → copy_both ws a b grid p i (k - i) ≡ x → i < k → m ≡ next b.count → s ≡ (insert_node ws b.net.0 b.name m).is
    → w1 ≡ (insert_node ws b.net.0 b.name m).ws → s ≡ placed.At n → v ≡ principal n.0 → w2 ≡ link w1 p v → u ≡ next v
    → l ≡ row u → q ≡ next p → copy_both w2 a b (set grid i l) q (i + 1) (k - (i + 1)) ≡ x
unfolding copy_both on_placed
both_more ws w1 w2 a b grid l p q v u m i k s n x e h em es e1 en ev e2 eu el eq =
    let d : k - i ≡ suc (k - (i + 1)) = omega arith in
    rw (eq, el, eu, e2, ev, e1) (rw (d, ← em, ← es, en) at e)

pub both_refused : (ws w : List ℕ) (a b : Side) (grid : List (List ℕ)) (p m i k r : ℕ) (s : Placed) (x : Left Tried)
    → copy_both ws a b grid p i (k - i) ≡ x → i < k → m ≡ next b.count → s ≡ (insert_node ws b.net.0 b.name m).is
    → w ≡ (insert_node ws b.net.0 b.name m).ws → s ≡ placed.Refused r → record { is = Refused r; ws = w } ≡ x
unfolding copy_both on_placed
both_refused ws w a b grid p m i k r s x e h em es ew er =
    let d : k - i ≡ suc (k - (i + 1)) = omega arith in
    rw ew (rw (d, ← em, ← es, er) at e)

pub both_done : (ws w : List ℕ) (a b : Side) (grid : List (List ℕ)) (p i k : ℕ) (r : Tried) (x : Left Tried)
    → copy_both ws a b grid p i (k - i) ≡ x → k ≤ i → r ≡ (copy_across ws a grid b.aux.0 0 b.count).is
    → w ≡ (copy_across ws a grid b.aux.0 0 b.count).ws → record { is = r; ws = w } ≡ x
unfolding copy_both
both_done ws w a b grid p i k r x e h er ew =
    let d : k - i ≡ 0 = omega arith in
    rw (← (rw d at e)) (whole (copy_across ws a grid b.aux.0 0 b.count) er ew)

-- ---- the pair

-- never more than fifteen
pub aux_few : (ws : List ℕ) (n : ℕ) → aux_count ws n ≤ 15
unfolding aux_count
aux_few ws n = lt_split 15 (less (arity ws n)) 15 (less (arity ws n)) (λ (k : ℕ). k ≤ 15) (λ h. omega arith) (λ h. h)

pub side_made : (ws : List ℕ) (t : NetId) (n m v : ℕ) (u : Port) (k : ℕ) → m ≡ name ws n → v ≡ principal n → u.0 ≡ next v → k ≡ aux_count ws n
    → record { net = t; name = m; aux = u; count = k } ≡ side_of ws t.0 n
unfolding side_of
side_made ws t n m v u k em ev eu ek =
    let e : u.0 ≡ next (principal n) = rw (← ev) eu in
    λ i. record { net = t; name = em i; aux = record { 0 = e i }; count = ek i }

pub side_few : (ws : List ℕ) (t n : ℕ) (s : Side) → s ≡ side_of ws t n → s.count ≤ 15
unfolding side_of
side_few ws t n s e = rw e (aux_few ws n)

pub commute_spent : (ws : List ℕ) (t a b : ℕ) (f : Bool) → f ≡ spent ws → f ≡ true → record { is = Refused 14; ws = ws } ≡ commute ws t a b
unfolding commute
commute_spent ws t a b f ef h = pick_true _ _ _ (rw (← ef) h) refl

pub commute_acts : (ws w1 w2 : List ℕ) (t a b : ℕ) (f : Bool) (x y : Side) (r : Tried) → f ≡ spent ws → f ≡ false → x ≡ side_of ws t a → y ≡ side_of ws t b
    → w1 ≡ part ws a b → r ≡ (copy_both w1 x y blank x.aux.0 0 x.count).is → w2 ≡ (copy_both w1 x y blank x.aux.0 0 x.count).ws
    → record { is = r; ws = w2 } ≡ commute ws t a b
unfolding commute
commute_acts ws w1 w2 t a b f x y r ef h ex ey e1 er e2 =
    pick_false _ _ _ (rw (← ef) h) (rw (← ex, ← ey, ← e1) (whole (copy_both w1 x y blank x.aux.0 0 x.count) er e2))
