-- What a function of the crate leaves on each way out, and one turn of each loop, in the words of its tests and calls.
use Rattle.std.specs.Prelude.{ℕ, zero, suc, ◌-◌, ◌<◌, ◌≤◌, Bool, true, false, ◌≡◌, refl, List}
use Rattle.std.proofs.Common.{◌∙◌, not-suc-le-zero, sub-one}
use Rattle.words.specs.Choose.{eq_yes, eq_no, pick_true, pick_false}
use Rattle.words.specs.Left.{whole}
use Rattle.layout.specs.Layout.{next, principal}
use Rattle.graph.specs.Graph.{link}
use Rattle.edits.specs.Edits.{on_placed, insert_node}
use Rattle.edits.specs.declared.Placed.{Placed}
use Rattle.edits.specs.declared.Placed.TheVariants.{At}
use Rattle.edits.specs.declared.Placed.TheVariants.{Refused as Placed-as-Refused}
use Rattle.kinds.specs.declared.NodeId.{NodeId}
use Rattle.node_names.specs.Names.{same_name_words}
use Rattle.rule_sets.specs.Sets.{value}
use Rattle.tried.specs.Tries.{spent, arity, name}
use Rattle.tried.specs.declared.Tried.{Tried}
use Rattle.tried.specs.declared.Tried.TheVariants.{Passed, Acted, Refused}
use Rattle.eta_values.specs.Values.{aux, meets, is_value, all_values, drop_value, drop_values, remove_values, put_value, act_values, eta_values_words}

pub value_one_port : (ws file : List ℕ) (n a k m : ℕ) (b : Bool) → k ≡ arity ws n → k ≡ 1 → m ≡ name ws n → b ≡ same_name_words file m a → b ≡ is_value ws file n a
unfolding is_value
value_one_port ws file n a k m b ek e em eb = eq_yes _ _ _ _ (rw (← ek) e) (rw (← em) eb)

pub value_more_ports : (ws file : List ℕ) (n a k : ℕ) → k ≡ arity ws n → (k ≡ 1 → ⊥) → false ≡ is_value ws file n a
unfolding is_value
value_more_ports ws file n a k ek e = eq_no _ _ _ _ (λ h. e (rw ek h)) refl

pub values_more : (ws file : List ℕ) (p q m k a : ℕ) (b x : Bool) → all_values ws file p k a ≡ x → 0 < k → m ≡ meets ws p → b ≡ is_value ws file m a → b ≡ true
    → q ≡ next p → all_values ws file q (k - 1) a ≡ x
unfolding all_values
values_more ws file p q m zero a b x e h em eb t eq = absurd (not-suc-le-zero h)
values_more ws file p q m (suc k) a b x e h em eb t eq =
    rw (sub-one, eq) (pick_true (is_value ws file (meets ws p) a) _ _ (rw (← em, ← eb) t) refl ∙ e)

pub values_not : (ws file : List ℕ) (p m k a : ℕ) (b x : Bool) → all_values ws file p k a ≡ x → 0 < k → m ≡ meets ws p → b ≡ is_value ws file m a → b ≡ false
    → false ≡ x
unfolding all_values
values_not ws file p m zero a b x e h em eb t = absurd (not-suc-le-zero h)
values_not ws file p m (suc k) a b x e h em eb t = pick_false (is_value ws file (meets ws p) a) _ _ (rw (← em, ← eb) t) refl ∙ e

pub values_done : (ws file : List ℕ) (p k a : ℕ) (x : Bool) → all_values ws file p k a ≡ x → k ≤ 0 → true ≡ x
unfolding all_values
values_done ws file p zero a x e h = e
values_done ws file p (suc k) a x e h = absurd (not-suc-le-zero h)

pub drop_values_more : (ws w : List ℕ) (p q k : ℕ) (x : List ℕ) → drop_values ws p k ≡ x → 0 < k → w ≡ drop_value ws p → q ≡ next p → drop_values w q (k - 1) ≡ x
unfolding drop_values
drop_values_more ws w p q zero x e h ew eq = absurd (not-suc-le-zero h)
drop_values_more ws w p q (suc k) x e h ew eq = rw (sub-one, ew, eq) e

pub drop_values_done : (ws : List ℕ) (p k : ℕ) (x : List ℕ) → drop_values ws p k ≡ x → k ≤ 0 → ws ≡ x
unfolding drop_values
drop_values_done ws p zero x e h = e
drop_values_done ws p (suc k) x e h = absurd (not-suc-le-zero h)

pub value_put : (ws w x : List ℕ) (t n a p q : ℕ) (s : Placed) (m : NodeId) → s ≡ (insert_node ws t a 1).is → w ≡ (insert_node ws t a 1).ws → s ≡ At m
    → p ≡ principal n → q ≡ principal m.0 → x ≡ link w p q → record { is = Acted; ws = x } ≡ put_value ws t n a
unfolding put_value on_placed
value_put ws w x t n a p q s m es ew em ep eq ex = rw (← es, em, ex, ew, ep, eq)

pub value_refused : (ws w : List ℕ) (t n a r : ℕ) (s : Placed) → s ≡ (insert_node ws t a 1).is → w ≡ (insert_node ws t a 1).ws → s ≡ Placed-as-Refused r
    → record { is = Refused r; ws = w } ≡ put_value ws t n a
unfolding put_value on_placed
value_refused ws w t n a r s es ew er = rw (← es, er, ew)

pub values_spent : (ws : List ℕ) (t n k a : ℕ) (b : Bool) → b ≡ spent ws → b ≡ true → record { is = Refused 14; ws = ws } ≡ act_values ws t n k a
unfolding act_values
values_spent ws t n k a b eb h = pick_true _ _ _ (rw (← eb) h) refl

pub values_act : (ws w x : List ℕ) (t n k a : ℕ) (b : Bool) (o : Tried) → b ≡ spent ws → b ≡ false → w ≡ remove_values ws n k → o ≡ (put_value w t n a).is
    → x ≡ (put_value w t n a).ws → record { is = o; ws = x } ≡ act_values ws t n k a
unfolding act_values
values_act ws w x t n k a b o eb h ew eo ex = pick_false _ _ _ (rw (← eb) h) (rw (← ew) (whole (put_value w t n a) eo ex))

pub eta_one_value : (ws file sets x : List ℕ) (r t n k p m a : ℕ) (b d : Bool) (o : Tried) → p ≡ aux n → m ≡ meets ws p → a ≡ name ws m → b ≡ value file sets r a
    → b ≡ true → d ≡ all_values ws file p k a → d ≡ true → o ≡ (act_values ws t n k a).is → x ≡ (act_values ws t n k a).ws
    → record { is = o; ws = x } ≡ eta_values_words ws file sets r t n k
unfolding eta_values_words
eta_one_value ws file sets x r t n k p m a b d o ep em ea eb tb ed td eo ex =
    rw (← ep, ← em, ← ea) (pick_true _ _ _ (rw (← eb) tb) (pick_true _ _ _ (rw (← ed) td) (whole (act_values ws t n k a) eo ex)))

pub eta_mixed : (ws file sets : List ℕ) (r t n k p m a : ℕ) (b d : Bool) → p ≡ aux n → m ≡ meets ws p → a ≡ name ws m → b ≡ value file sets r a
    → b ≡ true → d ≡ all_values ws file p k a → d ≡ false → record { is = Passed; ws = ws } ≡ eta_values_words ws file sets r t n k
unfolding eta_values_words
eta_mixed ws file sets r t n k p m a b d ep em ea eb tb ed td =
    rw (← ep, ← em, ← ea) (pick_true _ _ _ (rw (← eb) tb) (pick_false _ _ _ (rw (← ed) td) refl))

pub eta_no_value : (ws file sets : List ℕ) (r t n k p m a : ℕ) (b : Bool) → p ≡ aux n → m ≡ meets ws p → a ≡ name ws m → b ≡ value file sets r a
    → b ≡ false → record { is = Passed; ws = ws } ≡ eta_values_words ws file sets r t n k
unfolding eta_values_words
eta_no_value ws file sets r t n k p m a b ep em ea eb tb = rw (← ep, ← em, ← ea) (pick_false _ _ _ (rw (← eb) tb) refl)
