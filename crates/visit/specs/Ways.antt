-- What a function of the crate leaves on each way out, and one turn of each loop, in the words of its tests and calls.
use Rattle.std.specs.Prelude.{ℕ, zero, suc, ◌+◌, ◌-◌, ◌/◌, ◌%◌, ◌<◌, ◌≤◌, Bool, true, false, ◌≡◌, refl, List, eqb}
use Rattle.std.proofs.Common.{◌∙◌, sym, arith, not-suc-le-zero, sub-one}
use Rattle.words.specs.Choose.{pick, if_eq, eq_yes, eq_no, pick_true, pick_false}
use Rattle.words.specs.Left.{Left, whole}
use Rattle.fields.specs.Fields.{byte}
use Rattle.layout.specs.Layout.{next, across, principal, node_of, is_principal_words}
use Rattle.node_names.specs.Names.{path}
use Rattle.rule_sets.specs.Sets.{set_of, has, rule_at_words}
use Rattle.tried.specs.Tries.{name, on_tried}
use Rattle.tried.specs.declared.Tried.{Tried}
use Rattle.tried.specs.declared.Tried.TheVariants.{Passed, Acted, Refused}
use Rattle.eta.specs.Eta.{eta_reduce}
use Rattle.graft.specs.Graft.{graft}
use Rattle.interactions.specs.Interactions.{interact}
use Rattle.interactions.specs.Ways.{passed_on, acted_so, refused_so}
use Rattle.interactions.specs.declared.Visited.{Visited}
use Rattle.visit.specs.Visits.{rewrite, attempt, tried_if, tries, alone, meeting, rewrites, visit_pair, visit}

-- ---- rewrites

pub rewrite_grafts : (ws file sets x : List ℕ) (r at tag : ℕ) (v : Visited) (lazy : Bool) (s : Tried) → at ≡ rule_at_words sets r → tag ≡ byte file at → tag ≡ 1
    → lazy ≡ eqb (byte file (at + 3)) 1 → s ≡ (graft ws file lazy v.net.0 v.node.0).is → x ≡ (graft ws file lazy v.net.0 v.node.0).ws
    → record { is = s; ws = x } ≡ rewrite ws file sets r v
unfolding rewrite
rewrite_grafts ws file sets x r at tag v lazy s ea et z el es ex =
    eq_yes _ _ _ _ (rw (← ea, ← et) z) (rw (← ea, ← el) (whole (graft ws file lazy v.net.0 v.node.0) es ex))

pub rewrite_reduces : (ws file sets x : List ℕ) (r at tag : ℕ) (v : Visited) (s : Tried) → at ≡ rule_at_words sets r → tag ≡ byte file at → (tag ≡ 1 → ⊥)
    → s ≡ (eta_reduce ws file sets r v.net.0 v.node.0).is → x ≡ (eta_reduce ws file sets r v.net.0 v.node.0).ws
    → record { is = s; ws = x } ≡ rewrite ws file sets r v
unfolding rewrite
rewrite_reduces ws file sets x r at tag v s ea et z es ex =
    eq_no _ _ _ _ (λ e. z (rw (et, ea) e)) (whole (eta_reduce ws file sets r v.net.0 v.node.0) es ex)

-- ---- the rules in order

pub attempt_interacts : (ws file sets x : List ℕ) (r : ℕ) (v : Visited) (s : Tried) → v.meets ≡ true → s ≡ (interact ws file sets r v).is
    → x ≡ (interact ws file sets r v).ws → record { is = s; ws = x } ≡ attempt ws file sets r v
unfolding attempt
attempt_interacts ws file sets x r v s h es ex = pick_true _ _ _ h (whole (interact ws file sets r v) es ex)

pub attempt_rewrites : (ws file sets x : List ℕ) (r : ℕ) (v : Visited) (s : Tried) → v.meets ≡ false → s ≡ (rewrite ws file sets r v).is
    → x ≡ (rewrite ws file sets r v).ws → record { is = s; ws = x } ≡ attempt ws file sets r v
unfolding attempt
attempt_rewrites ws file sets x r v s h es ex = pick_false _ _ _ h (whole (rewrite ws file sets r v) es ex)

pub if_in : (ws file sets x : List ℕ) (rules r : ℕ) (v : Visited) (s : Tried) → rules % 2 ≡ 1 → s ≡ (attempt ws file sets r v).is → x ≡ (attempt ws file sets r v).ws
    → record { is = s; ws = x } ≡ tried_if ws file sets rules r v
unfolding tried_if
if_in ws file sets x rules r v s h es ex = eq_yes _ _ _ _ h (whole (attempt ws file sets r v) es ex)

pub if_out : (ws file sets : List ℕ) (rules r : ℕ) (v : Visited) → (rules % 2 ≡ 1 → ⊥) → record { is = Passed; ws = ws } ≡ tried_if ws file sets rules r v
unfolding tried_if
if_out ws file sets rules r v h = eq_no _ _ _ _ h refl

tries_turn : (ws file sets : List ℕ) (v : Visited) (rules r k : ℕ) → 0 < k → (rules ≡ 0 → ⊥)
    → tries ws file sets v rules r k
    ≡ on_tried (tried_if ws file sets rules r v).is (tries (tried_if ws file sets rules r v).ws file sets v (rules / 2) (next r) (k - 1))
    (record { is = Acted; ws = (tried_if ws file sets rules r v).ws }) (λ n. record { is = Refused n; ws = (tried_if ws file sets rules r v).ws })
unfolding tries
tries_turn ws file sets v rules r zero h z = absurd (not-suc-le-zero h)
tries_turn ws file sets v rules r (suc k) h z = rw sub-one (sym (eq_no rules 0 _ _ z refl))

pub tries_none : (ws file sets : List ℕ) (v : Visited) (rules r k : ℕ) (x : Left Tried) → tries ws file sets v rules r k ≡ x → 0 < k → rules ≡ 0
    → record { is = Passed; ws = ws } ≡ x
unfolding tries
tries_none ws file sets v rules r zero x e h z = absurd (not-suc-le-zero h)
tries_none ws file sets v rules r (suc k) x e h z = eq_yes rules 0 _ _ z refl ∙ e

pub tries_more : (ws w file sets : List ℕ) (v : Visited) (rules rules' r r' k : ℕ) (s : Tried) (x : Left Tried) → tries ws file sets v rules r k ≡ x → 0 < k
    → (rules ≡ 0 → ⊥) → s ≡ (tried_if ws file sets rules r v).is → w ≡ (tried_if ws file sets rules r v).ws → s ≡ Passed → rules' ≡ rules / 2 → r' ≡ next r
    → tries w file sets v rules' r' (k - 1) ≡ x
tries_more ws w file sets v rules rules' r r' k s x e h z es ew p eu er =
    passed_on (tried_if ws file sets rules r v) (tries (tried_if ws file sets rules r v).ws file sets v (rules / 2) (next r) (k - 1)) w s es p (rw (ew, eu, er))
    ∙ sym (tries_turn ws file sets v rules r k h z) ∙ e

pub tries_acted : (ws w file sets : List ℕ) (v : Visited) (rules r k : ℕ) (s : Tried) (x : Left Tried) → tries ws file sets v rules r k ≡ x → 0 < k
    → (rules ≡ 0 → ⊥) → s ≡ (tried_if ws file sets rules r v).is → w ≡ (tried_if ws file sets rules r v).ws → s ≡ Acted → record { is = Acted; ws = w } ≡ x
tries_acted ws w file sets v rules r k s x e h z es ew p =
    acted_so (tried_if ws file sets rules r v) (tries (tried_if ws file sets rules r v).ws file sets v (rules / 2) (next r) (k - 1)) w s es ew p
    ∙ sym (tries_turn ws file sets v rules r k h z) ∙ e

pub tries_refused : (ws w file sets : List ℕ) (v : Visited) (rules r k n : ℕ) (s : Tried) (x : Left Tried) → tries ws file sets v rules r k ≡ x → 0 < k
    → (rules ≡ 0 → ⊥) → s ≡ (tried_if ws file sets rules r v).is → w ≡ (tried_if ws file sets rules r v).ws → s ≡ Refused n → record { is = Refused n; ws = w } ≡ x
tries_refused ws w file sets v rules r k n s x e h z es ew p =
    refused_so (tried_if ws file sets rules r v) (tries (tried_if ws file sets rules r v).ws file sets v (rules / 2) (next r) (k - 1)) w s n es ew p
    ∙ sym (tries_turn ws file sets v rules r k h z) ∙ e

pub tries_done : (ws file sets : List ℕ) (v : Visited) (rules r k : ℕ) (x : Left Tried) → tries ws file sets v rules r k ≡ x → k ≤ 0 → record { is = Passed; ws = ws } ≡ x
unfolding tries
tries_done ws file sets v rules r zero x e h = e
tries_done ws file sets v rules r (suc k) x e h = absurd (not-suc-le-zero h)

-- a path that no rewrite names
pub rewrites_none : (ws file sets : List ℕ) (t n p u : ℕ) → u ≡ set_of sets p 3 → u ≡ 0 → record { is = Passed; ws = ws } ≡ rewrites ws file sets t n p
unfolding rewrites
rewrites_none ws file sets t n p u eu z = tries_none ws file sets (alone t n p) (set_of sets p 3) 0 64 _ refl (omega arith) (sym eu ∙ z)

pub rewrites_passed : (ws w file sets : List ℕ) (t n p u : ℕ) (s : Tried) → u ≡ set_of sets p 3 → s ≡ (tries ws file sets (alone t n p) u 0 64).is
    → w ≡ (tries ws file sets (alone t n p) u 0 64).ws → s ≡ Passed → record { is = Passed; ws = w } ≡ rewrites ws file sets t n p
unfolding rewrites
rewrites_passed ws w file sets t n p u s eu es ew e = rw (← eu, ← e) (whole (tries ws file sets (alone t n p) u 0 64) es ew)

pub rewrites_acted : (ws w file sets : List ℕ) (t n p u : ℕ) (s : Tried) → u ≡ set_of sets p 3 → s ≡ (tries ws file sets (alone t n p) u 0 64).is
    → w ≡ (tries ws file sets (alone t n p) u 0 64).ws → s ≡ Acted → record { is = Acted; ws = w } ≡ rewrites ws file sets t n p
unfolding rewrites
rewrites_acted ws w file sets t n p u s eu es ew e = rw (← eu, ← e) (whole (tries ws file sets (alone t n p) u 0 64) es ew)

pub rewrites_refused : (ws w file sets : List ℕ) (t n p u r : ℕ) (s : Tried) → u ≡ set_of sets p 3 → s ≡ (tries ws file sets (alone t n p) u 0 64).is
    → w ≡ (tries ws file sets (alone t n p) u 0 64).ws → s ≡ Refused r → record { is = Refused r; ws = w } ≡ rewrites ws file sets t n p
unfolding rewrites
rewrites_refused ws w file sets t n p u r s eu es ew e = rw (← eu, ← e) (whole (tries ws file sets (alone t n p) u 0 64) es ew)

-- ---- the node

pub pair_passed : (ws w x file sets : List ℕ) (t n m p a q u : ℕ) (s s' : Tried) → a ≡ name ws m → q ≡ path file a → u ≡ set_of sets p 2
    → s ≡ (tries ws file sets (meeting t n p m q) u 0 64).is → w ≡ (tries ws file sets (meeting t n p m q) u 0 64).ws → s ≡ Passed
    → s' ≡ (rewrites w file sets t n p).is → x ≡ (rewrites w file sets t n p).ws → record { is = s'; ws = x } ≡ visit_pair ws file sets t n m p
unfolding visit_pair
pair_passed ws w x file sets t n m p a q u s s' ea eq eu es ew e er ex =
    rw (← ea, ← eq, ← eu) (passed_on (tries ws file sets (meeting t n p m q) u 0 64) _ w s es e (rw (← ew) (whole (rewrites w file sets t n p) er ex)))

pub pair_acted : (ws w file sets : List ℕ) (t n m p a q u : ℕ) (s : Tried) → a ≡ name ws m → q ≡ path file a → u ≡ set_of sets p 2
    → s ≡ (tries ws file sets (meeting t n p m q) u 0 64).is → w ≡ (tries ws file sets (meeting t n p m q) u 0 64).ws → s ≡ Acted
    → record { is = Acted; ws = w } ≡ visit_pair ws file sets t n m p
unfolding visit_pair
pair_acted ws w file sets t n m p a q u s ea eq eu es ew e = rw (← ea, ← eq, ← eu) (acted_so (tries ws file sets (meeting t n p m q) u 0 64) _ w s es ew e)

pub pair_refused : (ws w file sets : List ℕ) (t n m p a q u r : ℕ) (s : Tried) → a ≡ name ws m → q ≡ path file a → u ≡ set_of sets p 2
    → s ≡ (tries ws file sets (meeting t n p m q) u 0 64).is → w ≡ (tries ws file sets (meeting t n p m q) u 0 64).ws → s ≡ Refused r
    → record { is = Refused r; ws = w } ≡ visit_pair ws file sets t n m p
unfolding visit_pair
pair_refused ws w file sets t n m p a q u r s ea eq eu es ew e = rw (← ea, ← eq, ← eu) (refused_so (tries ws file sets (meeting t n p m q) u 0 64) _ w s r es ew e)

pub visit_free : (ws file sets : List ℕ) (t n a : ℕ) → a ≡ name ws n → a ≡ 0 → record { is = Passed; ws = ws } ≡ visit ws file sets t n
unfolding visit
visit_free ws file sets t n a ea z = eq_yes _ _ _ _ (rw (← ea) z) refl

pub visit_meets : (ws x file sets : List ℕ) (t n a p h q m : ℕ) (b : Bool) (s : Tried) → a ≡ name ws n → (a ≡ 0 → ⊥) → p ≡ path file a → h ≡ principal n
    → q ≡ across ws h → b ≡ is_principal_words q → b ≡ true → m ≡ node_of q → s ≡ (visit_pair ws file sets t n m p).is → x ≡ (visit_pair ws file sets t n m p).ws
    → record { is = s; ws = x } ≡ visit ws file sets t n
unfolding visit
visit_meets ws x file sets t n a p h q m b s ea z ep eh eq eb e em es ex =
    eq_no _ _ _ _ (λ k. z (rw ea k)) (rw (← ea, ← ep, ← eh, ← eq, ← em) (pick_true _ _ _ (rw (← eb) e) (whole (visit_pair ws file sets t n m p) es ex)))

pub visit_alone : (ws x file sets : List ℕ) (t n a p h q : ℕ) (b : Bool) (s : Tried) → a ≡ name ws n → (a ≡ 0 → ⊥) → p ≡ path file a → h ≡ principal n
    → q ≡ across ws h → b ≡ is_principal_words q → b ≡ false → s ≡ (rewrites ws file sets t n p).is → x ≡ (rewrites ws file sets t n p).ws
    → record { is = s; ws = x } ≡ visit ws file sets t n
unfolding visit
visit_alone ws x file sets t n a p h q b s ea z ep eh eq eb e es ex =
    eq_no _ _ _ _ (λ k. z (rw ea k)) (rw (← ea, ← ep, ← eh, ← eq) (pick_false _ _ _ (rw (← eb) e) (whole (rewrites ws file sets t n p) es ex)))
