-- What a function of the crate leaves on each way out, and one turn of each loop, in the words of its tests and calls.
use Rattle.std.specs.Prelude.{ℕ, zero, suc, ◌-◌, ◌<◌, ◌≤◌, Bool, true, false, eqb, ◌≡◌, refl, List}
use Rattle.std.proofs.Common.{◌∙◌, not-suc-le-zero, sub-one}
use Rattle.words.specs.Choose.{if_eq, eq_yes, eq_no, pick_true, pick_false}
use Rattle.words.specs.Left.{whole}
use Rattle.layout.specs.Layout.{next, less, across, is_principal_words}
use Rattle.graph.specs.Graph.{remove_wire}
use Rattle.node_names.specs.Names.{same_name_words}
use Rattle.rule_sets.specs.Sets.{nil}
use Rattle.tried.specs.Tries.{spent, arity, name}
use Rattle.tried.specs.declared.Tried.{Tried}
use Rattle.tried.specs.declared.Tried.TheVariants.{Passed, Acted, Refused}
use Rattle.eta_values.specs.Values.{aux, meets, is_value, drop_value, eta_values_words}
use Rattle.eta.specs.Eta.{odd_port, nils, straight, all_straight, drop_straight, drop_all_straight, join_around, act_combinators, alike, eta_combinators, eta_reduce}

-- ---- combinators

pub nils_both : (ws file sets : List ℕ) (r p q m n a k : ℕ) (b d : Bool) → m ≡ meets ws p → a ≡ name ws m → k ≡ arity ws m → k ≡ 1 → n ≡ meets ws q
    → d ≡ is_value ws file n a → d ≡ true → b ≡ nil file sets r a → b ≡ nils ws file sets r p q
unfolding nils
nils_both ws file sets r p q m n a k b d em ea ek e en ed td eb =
    rw (← em, ← en, ← ea) (eq_yes _ _ _ _ (rw (← ek) e) (pick_true _ _ _ (rw (← ed) td) eb))

pub nils_differ : (ws file sets : List ℕ) (r p q m n a k : ℕ) (d : Bool) → m ≡ meets ws p → a ≡ name ws m → k ≡ arity ws m → k ≡ 1 → n ≡ meets ws q
    → d ≡ is_value ws file n a → d ≡ false → false ≡ nils ws file sets r p q
unfolding nils
nils_differ ws file sets r p q m n a k d em ea ek e en ed td =
    rw (← em, ← en, ← ea) (eq_yes _ _ _ _ (rw (← ek) e) (pick_false _ _ _ (rw (← ed) td) refl))

pub nils_more_ports : (ws file sets : List ℕ) (r p q m k : ℕ) → m ≡ meets ws p → k ≡ arity ws m → (k ≡ 1 → ⊥) → false ≡ nils ws file sets r p q
unfolding nils
nils_more_ports ws file sets r p q m k em ek e = rw (← em) (eq_no _ _ _ _ (λ h. e (rw ek h)) refl)

pub straight_wire : (ws file sets : List ℕ) (r p q x : ℕ) (s : Bool) → x ≡ across ws p → s ≡ eqb x q → s ≡ true → true ≡ straight ws file sets r p q
unfolding straight if_eq
straight_wire ws file sets r p q x s ex es e = pick_true _ _ _ (rw (← ex, ← es) e) refl

pub straight_nils : (ws file sets : List ℕ) (r p q x : ℕ) (s b : Bool) → x ≡ across ws p → s ≡ eqb x q → s ≡ false → b ≡ nils ws file sets r p q
    → b ≡ straight ws file sets r p q
unfolding straight if_eq
straight_nils ws file sets r p q x s b ex es e eb = pick_false _ _ _ (rw (← ex, ← es) e) eb

pub all_straight_more : (ws file sets : List ℕ) (r p q p' q' k : ℕ) (b x : Bool) → all_straight ws file sets r p q k ≡ x → 0 < k → b ≡ straight ws file sets r p q
    → b ≡ true → p' ≡ next p → q' ≡ next q → all_straight ws file sets r p' q' (k - 1) ≡ x
unfolding all_straight
all_straight_more ws file sets r p q p' q' zero b x e h eb t ep eq = absurd (not-suc-le-zero h)
all_straight_more ws file sets r p q p' q' (suc k) b x e h eb t ep eq =
    rw (sub-one, ep, eq) (pick_true (straight ws file sets r p q) _ _ (rw (← eb) t) refl ∙ e)

pub all_straight_not : (ws file sets : List ℕ) (r p q k : ℕ) (b x : Bool) → all_straight ws file sets r p q k ≡ x → 0 < k → b ≡ straight ws file sets r p q
    → b ≡ false → false ≡ x
unfolding all_straight
all_straight_not ws file sets r p q zero b x e h eb t = absurd (not-suc-le-zero h)
all_straight_not ws file sets r p q (suc k) b x e h eb t = pick_false (straight ws file sets r p q) _ _ (rw (← eb) t) refl ∙ e

pub all_straight_done : (ws file sets : List ℕ) (r p q k : ℕ) (x : Bool) → all_straight ws file sets r p q k ≡ x → k ≤ 0 → true ≡ x
unfolding all_straight
all_straight_done ws file sets r p q zero x e h = e
all_straight_done ws file sets r p q (suc k) x e h = absurd (not-suc-le-zero h)

pub drop_wire : (ws w : List ℕ) (p q x : ℕ) (s : Bool) → x ≡ across ws p → s ≡ eqb x q → s ≡ true → w ≡ remove_wire ws p q → w ≡ drop_straight ws p q
unfolding drop_straight if_eq
drop_wire ws w p q x s ex es e ew = pick_true _ _ _ (rw (← ex, ← es) e) ew

pub drop_nils : (ws w y : List ℕ) (p q x : ℕ) (s : Bool) → x ≡ across ws p → s ≡ eqb x q → s ≡ false → w ≡ drop_value ws p → y ≡ drop_value w q
    → y ≡ drop_straight ws p q
unfolding drop_straight if_eq
drop_nils ws w y p q x s ex es e ew ey = pick_false _ _ _ (rw (← ex, ← es) e) (rw (← ew) ey)

pub drop_straight_more : (ws w : List ℕ) (p q p' q' k : ℕ) (x : List ℕ) → drop_all_straight ws p q k ≡ x → 0 < k → w ≡ drop_straight ws p q → p' ≡ next p
    → q' ≡ next q → drop_all_straight w p' q' (k - 1) ≡ x
unfolding drop_all_straight
drop_straight_more ws w p q p' q' zero x e h ew ep eq = absurd (not-suc-le-zero h)
drop_straight_more ws w p q p' q' (suc k) x e h ew ep eq = rw (sub-one, ew, ep, eq) e

pub drop_straight_done : (ws : List ℕ) (p q k : ℕ) (x : List ℕ) → drop_all_straight ws p q k ≡ x → k ≤ 0 → ws ≡ x
unfolding drop_all_straight
drop_straight_done ws p q zero x e h = e
drop_straight_done ws p q (suc k) x e h = absurd (not-suc-le-zero h)

pub combinators_spent : (ws : List ℕ) (a b k : ℕ) (s : Bool) → s ≡ spent ws → s ≡ true → record { is = Refused 14; ws = ws } ≡ act_combinators ws a b k
unfolding act_combinators
combinators_spent ws a b k s es h = pick_true _ _ _ (rw (← es) h) refl

pub combinators_act : (ws w x : List ℕ) (a b k p q : ℕ) (s : Bool) → s ≡ spent ws → s ≡ false → w ≡ join_around ws a b → p ≡ aux a → q ≡ aux b
    → x ≡ drop_all_straight w p q k → record { is = Acted; ws = x } ≡ act_combinators ws a b k
unfolding act_combinators
combinators_act ws w x a b k p q s es h ew ep eq ex = pick_false _ _ _ (rw (← es) h) (rw (ex, ew, ep, eq))

pub alike_ports : (ws file : List ℕ) (a b i j m n : ℕ) (d : Bool) → i ≡ arity ws a → j ≡ arity ws b → i ≡ j → m ≡ name ws a → n ≡ name ws b
    → d ≡ same_name_words file m n → d ≡ alike ws file a b
unfolding alike
alike_ports ws file a b i j m n d ei ej e em en ed = eq_yes _ _ _ _ (rw (← ei, ← ej) e) (rw (← em, ← en) ed)

pub alike_not : (ws file : List ℕ) (a b i j : ℕ) → i ≡ arity ws a → j ≡ arity ws b → (i ≡ j → ⊥) → false ≡ alike ws file a b
unfolding alike
alike_not ws file a b i j ei ej e = eq_no _ _ _ _ (λ h. e (rw (ei, ej) h)) refl

pub eta_straight : (ws file sets x : List ℕ) (r a b k p q : ℕ) (s d : Bool) (o : Tried) → s ≡ alike ws file a b → s ≡ true → p ≡ aux a → q ≡ aux b
    → d ≡ all_straight ws file sets r p q k → d ≡ true → o ≡ (act_combinators ws a b k).is → x ≡ (act_combinators ws a b k).ws
    → record { is = o; ws = x } ≡ eta_combinators ws file sets r a b k
unfolding eta_combinators
eta_straight ws file sets x r a b k p q s d o es ts ep eq ed td eo ex =
    rw (← ep, ← eq) (pick_true _ _ _ (rw (← es) ts) (pick_true _ _ _ (rw (← ed) td) (whole (act_combinators ws a b k) eo ex)))

pub eta_not_straight : (ws file sets : List ℕ) (r a b k p q : ℕ) (s d : Bool) → s ≡ alike ws file a b → s ≡ true → p ≡ aux a → q ≡ aux b
    → d ≡ all_straight ws file sets r p q k → d ≡ false → record { is = Passed; ws = ws } ≡ eta_combinators ws file sets r a b k
unfolding eta_combinators
eta_not_straight ws file sets r a b k p q s d es ts ep eq ed td =
    rw (← ep, ← eq) (pick_true _ _ _ (rw (← es) ts) (pick_false _ _ _ (rw (← ed) td) refl))

pub eta_not_alike : (ws file sets : List ℕ) (r a b k : ℕ) (s : Bool) → s ≡ alike ws file a b → s ≡ false
    → record { is = Passed; ws = ws } ≡ eta_combinators ws file sets r a b k
unfolding eta_combinators
eta_not_alike ws file sets r a b k s es ts = pick_false _ _ _ (rw (← es) ts) refl

-- ---- the rule

pub odd_more : (ws : List ℕ) (p q m k x : ℕ) (b : Bool) → odd_port ws p k ≡ x → 0 < k → m ≡ across ws p → b ≡ is_principal_words m → b ≡ true → q ≡ next p
    → odd_port ws q (k - 1) ≡ x
unfolding odd_port
odd_more ws p q m zero x b e h em eb t eq = absurd (not-suc-le-zero h)
odd_more ws p q m (suc k) x b e h em eb t eq = rw (sub-one, eq) (pick_true (is_principal_words (across ws p)) _ _ (rw (← em, ← eb) t) refl ∙ e)

pub odd_here : (ws : List ℕ) (p m k x : ℕ) (b : Bool) → odd_port ws p k ≡ x → 0 < k → m ≡ across ws p → b ≡ is_principal_words m → b ≡ false → p ≡ x
unfolding odd_port
odd_here ws p m zero x b e h em eb t = absurd (not-suc-le-zero h)
odd_here ws p m (suc k) x b e h em eb t = pick_false (is_principal_words (across ws p)) _ _ (rw (← em, ← eb) t) refl ∙ e

pub odd_none : (ws : List ℕ) (p k x : ℕ) → odd_port ws p k ≡ x → k ≤ 0 → 0 ≡ x
unfolding odd_port
odd_none ws p zero x e h = e
odd_none ws p (suc k) x e h = absurd (not-suc-le-zero h)

pub eta_no_aux : (ws file sets : List ℕ) (r t n i k : ℕ) → i ≡ arity ws n → k ≡ less i → k ≡ 0 → record { is = Passed; ws = ws } ≡ eta_reduce ws file sets r t n
unfolding eta_reduce
eta_no_aux ws file sets r t n i k ei ek z = rw (← ei, ← ek) (eq_yes _ _ _ _ z refl)

pub eta_by_values : (ws file sets x : List ℕ) (r t n i k p q : ℕ) (o : Tried) → i ≡ arity ws n → k ≡ less i → (k ≡ 0 → ⊥) → p ≡ aux n → q ≡ odd_port ws p k
    → q ≡ 0 → o ≡ (eta_values_words ws file sets r t n k).is → x ≡ (eta_values_words ws file sets r t n k).ws → record { is = o; ws = x } ≡ eta_reduce ws file sets r t n
unfolding eta_reduce
eta_by_values ws file sets x r t n i k p q o ei ek z ep eq y eo ex =
    rw (← ei, ← ek, ← ep, ← eq) (eq_no _ _ _ _ z (eq_yes _ _ _ _ y (whole (eta_values_words ws file sets r t n k) eo ex)))

pub eta_by_combinators : (ws file sets x : List ℕ) (r t n i k p q b : ℕ) (o : Tried) → i ≡ arity ws n → k ≡ less i → (k ≡ 0 → ⊥) → p ≡ aux n
    → q ≡ odd_port ws p k → (q ≡ 0 → ⊥) → b ≡ meets ws q → o ≡ (eta_combinators ws file sets r n b k).is → x ≡ (eta_combinators ws file sets r n b k).ws
    → record { is = o; ws = x } ≡ eta_reduce ws file sets r t n
unfolding eta_reduce
eta_by_combinators ws file sets x r t n i k p q b o ei ek z ep eq y eb eo ex =
    rw (← ei, ← ek, ← ep, ← eq, ← eb) (eq_no _ _ _ _ z (eq_no _ _ _ _ y (whole (eta_combinators ws file sets r n b k) eo ex)))
