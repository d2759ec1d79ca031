-- What a function of the crate leaves on each way out, and one turn of its loop, in the words of its tests and calls.
use Rattle.std.specs.Prelude.{ℕ, zero, suc, ◌+◌, ◌-◌, ◌<◌, ◌≤◌, Bool, true, false, ◌≡◌, refl, List}
use Rattle.std.proofs.Common.{◌∙◌, sym, not-suc-le-zero, sub-one}
use Rattle.words.specs.Choose.{if_eq, eq_yes, eq_no, pick_true, pick_false}
use Rattle.words.specs.Left.{Left, whole}
use Rattle.fields.specs.Fields.{byte, be16}
use Rattle.stored.specs.Stored.{table_at, numbers_at, list_at}
use Rattle.ends.specs.Ends.{on}
use Rattle.rule_sets.specs.Sets.{set_of, has, rule_at_words}
use Rattle.rule_sets.specs.Places.{numbers_within, list_within}
use Rattle.tried.specs.Tries.{on_tried}
use Rattle.tried.specs.declared.Tried.{Tried}
use Rattle.tried.specs.declared.Tried.TheVariants.{Passed, Acted, Refused}
use Rattle.annihilate.specs.Annihilate.{annihilate}
use Rattle.erase.specs.Erase.{erase}
use Rattle.commute.specs.Commute.{commute}
use Rattle.interactions.specs.Interactions.{registered, apply, apply_both, in_order, first_of_words, straight, pair, interact}
use Rattle.interactions.specs.declared.Visited.{Visited}

-- ---- a rule that passed, acted or was refused, and what comes after

pub passed_on : (a x : Left Tried) (w : List ℕ) (s : Tried) → s ≡ a.is → s ≡ Passed → {y : Left Tried} → y ≡ x
    → y ≡ on_tried a.is x (record { is = Acted; ws = a.ws }) (λ r. record { is = Refused r; ws = a.ws })
unfolding on_tried
passed_on a x w s es e {y} h = rw (← es, e) h

pub acted_so : (a x : Left Tried) (w : List ℕ) (s : Tried) → s ≡ a.is → w ≡ a.ws → s ≡ Acted
    → record { is = Acted; ws = w } ≡ on_tried a.is x (record { is = Acted; ws = a.ws }) (λ r. record { is = Refused r; ws = a.ws })
unfolding on_tried
acted_so a x w s es ew e = rw (← es, e, ← ew)

pub refused_so : (a x : Left Tried) (w : List ℕ) (s : Tried) (n : ℕ) → s ≡ a.is → w ≡ a.ws → s ≡ Refused n
    → record { is = Refused n; ws = w } ≡ on_tried a.is x (record { is = Acted; ws = a.ws }) (λ r. record { is = Refused r; ws = a.ws })
unfolding on_tried
refused_so a x w s n es ew e = rw (← es, e, ← ew)

-- ---- apply

pub apply_erase : (ws x : List ℕ) (tag t a b : ℕ) (s : Tried) → tag ≡ 3 → s ≡ (erase ws t a b).is → x ≡ (erase ws t a b).ws → record { is = s; ws = x } ≡ apply ws tag t a b
unfolding apply
apply_erase ws x tag t a b s e es ex = eq_yes _ _ _ _ e (whole (erase ws t a b) es ex)

pub apply_commute : (ws x : List ℕ) (tag t a b : ℕ) (s : Tried) → (tag ≡ 3 → ⊥) → s ≡ (commute ws t a b).is → x ≡ (commute ws t a b).ws
    → record { is = s; ws = x } ≡ apply ws tag t a b
unfolding apply
apply_commute ws x tag t a b s e es ex = eq_no _ _ _ _ e (whole (commute ws t a b) es ex)

pub both_passed : (ws w x : List ℕ) (tag t a b : ℕ) (s r : Tried) → s ≡ (apply ws tag t a b).is → w ≡ (apply ws tag t a b).ws → s ≡ Passed
    → r ≡ (apply w tag t b a).is → x ≡ (apply w tag t b a).ws → record { is = r; ws = x } ≡ apply_both ws tag t a b
unfolding apply_both
both_passed ws w x tag t a b s r es ew e er ex = passed_on (apply ws tag t a b) _ w s es e (rw (← ew) (whole (apply w tag t b a) er ex))

pub both_acted : (ws w : List ℕ) (tag t a b : ℕ) (s : Tried) → s ≡ (apply ws tag t a b).is → w ≡ (apply ws tag t a b).ws → s ≡ Acted
    → record { is = Acted; ws = w } ≡ apply_both ws tag t a b
unfolding apply_both
both_acted ws w tag t a b s es ew e = acted_so (apply ws tag t a b) _ w s es ew e

pub both_refused : (ws w : List ℕ) (tag t a b n : ℕ) (s : Tried) → s ≡ (apply ws tag t a b).is → w ≡ (apply ws tag t a b).ws → s ≡ Refused n
    → record { is = Refused n; ws = w } ≡ apply_both ws tag t a b
unfolding apply_both
both_refused ws w tag t a b n s es ew e = refused_so (apply ws tag t a b) _ w s n es ew e

-- ---- registered

pub registered_first : (sets : List ℕ) (r p q x y : ℕ) (b c : Bool) → x ≡ set_of sets p 0 → b ≡ has x r → b ≡ true → y ≡ set_of sets q 1 → c ≡ has y r
    → c ≡ registered sets r p q
unfolding registered
registered_first sets r p q x y b c ex eb h ey ec = pick_true _ _ _ (rw (← ex, ← eb) h) (rw (ec, ey))

pub registered_not : (sets : List ℕ) (r p q x : ℕ) (b : Bool) → x ≡ set_of sets p 0 → b ≡ has x r → b ≡ false → false ≡ registered sets r p q
unfolding registered
registered_not sets r p q x b ex eb h = pick_false _ _ _ (rw (← ex, ← eb) h) refl

-- ---- which stands first

pub first_start : (s : List ℕ) (at p q i n : ℕ) → n ≡ byte s at → i ≡ on s at 1 → first_of_words p q (numbers_at s i n) ≡ first_of_words p q (list_at s at)
unfolding list_at
first_start s at p q i n en ei = rw (en, ei, numbers_within s (at + 1) (byte s at))

first_turn : (s : List ℕ) (p q i n : ℕ) → 0 < n
    → first_of_words p q (numbers_at s i n) ≡ if_eq (be16 s i) p true (if_eq (be16 s i) q false (first_of_words p q (numbers_at s (i + 2) (n - 1))))
unfolding numbers_at table_at first_of_words
first_turn s p q i zero h = absurd (not-suc-le-zero h)
first_turn s p q i (suc n) h = rw sub-one refl

module _ (s : List ℕ) (p q i n v : ℕ) (x : Bool) (e : first_of_words p q (numbers_at s i n) ≡ x) (h : 0 < n) (ev : v ≡ be16 s i) where
  pub first_found : v ≡ p → true ≡ x
  first_found f = eq_yes (be16 s i) p _ _ (rw (← ev) f) refl ∙ sym (first_turn s p q i n h) ∙ e

  pub second_found : (v ≡ p → ⊥) → v ≡ q → false ≡ x
  second_found g f =
      eq_no (be16 s i) p _ _ (λ z. g (rw ev z)) (eq_yes (be16 s i) q _ _ (rw (← ev) f) refl) ∙ sym (first_turn s p q i n h) ∙ e

  pub first_more : (j : ℕ) → (v ≡ p → ⊥) → (v ≡ q → ⊥) → j ≡ on s i 2 → first_of_words p q (numbers_at s j (n - 1)) ≡ x
  first_more j g f ej =
      rw (ej, numbers_within s (i + 2) (n - 1))
      (eq_no (be16 s i) p _ _ (λ z. g (rw ev z)) (eq_no (be16 s i) q _ _ (λ z. f (rw ev z)) refl) ∙ sym (first_turn s p q i n h) ∙ e)

pub first_done : (s : List ℕ) (p q i n : ℕ) (x : Bool) → first_of_words p q (numbers_at s i n) ≡ x → n ≤ 0 → true ≡ x
unfolding numbers_at table_at first_of_words
first_done s p q i zero x e h = e
first_done s p q i (suc n) x e h = absurd (not-suc-le-zero h)

-- ---- in order

pub order_straight : (ws file x : List ℕ) (at tag f : ℕ) (v : Visited) (b : Bool) (s : Tried) → tag ≡ byte file at → f ≡ on file at 1
    → b ≡ first_of_words v.path v.facing (list_at file f) → b ≡ true → s ≡ (apply_both ws tag v.net.0 v.node.0 v.other.0).is
    → x ≡ (apply_both ws tag v.net.0 v.node.0 v.other.0).ws → record { is = s; ws = x } ≡ in_order ws file at v
unfolding in_order
order_straight ws file x at tag f v b s et ef eb h es ex =
    pick_true _ _ _ (rw (← list_within file (at + 1), ← ef, ← eb) h) (rw (← et) (whole (apply_both ws tag v.net.0 v.node.0 v.other.0) es ex))

pub order_flipped : (ws file x : List ℕ) (at tag f : ℕ) (v : Visited) (b : Bool) (s : Tried) → tag ≡ byte file at → f ≡ on file at 1
    → b ≡ first_of_words v.path v.facing (list_at file f) → b ≡ false → s ≡ (apply_both ws tag v.net.0 v.other.0 v.node.0).is
    → x ≡ (apply_both ws tag v.net.0 v.other.0 v.node.0).ws → record { is = s; ws = x } ≡ in_order ws file at v
unfolding in_order
order_flipped ws file x at tag f v b s et ef eb h es ex =
    pick_false _ _ _ (rw (← list_within file (at + 1), ← ef, ← eb) h) (rw (← et) (whole (apply_both ws tag v.net.0 v.other.0 v.node.0) es ex))

-- ---- interactions

pub straight_equal : (ws file sets x : List ℕ) (r at tag : ℕ) (v : Visited) (s : Tried) → at ≡ rule_at_words sets r → v.path ≡ v.facing → tag ≡ byte file at
    → s ≡ (apply ws tag v.net.0 v.node.0 v.other.0).is → x ≡ (apply ws tag v.net.0 v.node.0 v.other.0).ws
    → record { is = s; ws = x } ≡ straight ws file sets r v
unfolding straight
straight_equal ws file sets x r at tag v s ea e et es ex =
    eq_yes _ _ _ _ e (rw (← ea, ← et) (whole (apply ws tag v.net.0 v.node.0 v.other.0) es ex))

pub straight_both : (ws file sets x : List ℕ) (r at : ℕ) (v : Visited) (b : Bool) (s : Tried) → at ≡ rule_at_words sets r → (v.path ≡ v.facing → ⊥)
    → b ≡ registered sets r v.facing v.path → b ≡ true → s ≡ (in_order ws file at v).is → x ≡ (in_order ws file at v).ws
    → record { is = s; ws = x } ≡ straight ws file sets r v
unfolding straight
straight_both ws file sets x r at v b s ea e eb h es ex =
    eq_no _ _ _ _ e (pick_true _ _ _ (rw (← eb) h) (rw (← ea) (whole (in_order ws file at v) es ex)))

pub straight_once : (ws file sets x : List ℕ) (r at tag : ℕ) (v : Visited) (b : Bool) (s : Tried) → at ≡ rule_at_words sets r → (v.path ≡ v.facing → ⊥)
    → b ≡ registered sets r v.facing v.path → b ≡ false → tag ≡ byte file at
    → s ≡ (apply ws tag v.net.0 v.node.0 v.other.0).is → x ≡ (apply ws tag v.net.0 v.node.0 v.other.0).ws
    → record { is = s; ws = x } ≡ straight ws file sets r v
unfolding straight
straight_once ws file sets x r at tag v b s ea e eb h et es ex =
    eq_no _ _ _ _ e (pick_false _ _ _ (rw (← eb) h) (rw (← ea, ← et) (whole (apply ws tag v.net.0 v.node.0 v.other.0) es ex)))

pub pair_straight : (ws file sets x : List ℕ) (r : ℕ) (v : Visited) (b : Bool) (s : Tried) → b ≡ registered sets r v.path v.facing → b ≡ true
    → s ≡ (straight ws file sets r v).is → x ≡ (straight ws file sets r v).ws → record { is = s; ws = x } ≡ pair ws file sets r v
unfolding pair
pair_straight ws file sets x r v b s eb h es ex = pick_true _ _ _ (rw (← eb) h) (whole (straight ws file sets r v) es ex)

pub pair_flipped : (ws file sets x : List ℕ) (r at tag : ℕ) (v : Visited) (b c : Bool) (s : Tried) → b ≡ registered sets r v.path v.facing → b ≡ false
    → c ≡ registered sets r v.facing v.path → c ≡ true → at ≡ rule_at_words sets r → tag ≡ byte file at
    → s ≡ (apply ws tag v.net.0 v.other.0 v.node.0).is → x ≡ (apply ws tag v.net.0 v.other.0 v.node.0).ws
    → record { is = s; ws = x } ≡ pair ws file sets r v
unfolding pair
pair_flipped ws file sets x r at tag v b c s eb h ec k ea et es ex =
    pick_false _ _ _ (rw (← eb) h)
    (pick_true _ _ _ (rw (← ec) k) (rw (← ea, ← et) (whole (apply ws tag v.net.0 v.other.0 v.node.0) es ex)))

pub pair_none : (ws file sets : List ℕ) (r : ℕ) (v : Visited) (b c : Bool) → b ≡ registered sets r v.path v.facing → b ≡ false
    → c ≡ registered sets r v.facing v.path → c ≡ false → record { is = Passed; ws = ws } ≡ pair ws file sets r v
unfolding pair
pair_none ws file sets r v b c eb h ec k = pick_false _ _ _ (rw (← eb) h) (pick_false _ _ _ (rw (← ec) k) refl)

pub interact_annihilates : (ws file sets x : List ℕ) (r at tag : ℕ) (v : Visited) (s : Tried) → at ≡ rule_at_words sets r → tag ≡ byte file at → tag ≡ 2
    → v.path ≡ v.facing → s ≡ (annihilate ws file v.node.0 v.other.0).is → x ≡ (annihilate ws file v.node.0 v.other.0).ws
    → record { is = s; ws = x } ≡ interact ws file sets r v
unfolding interact
interact_annihilates ws file sets x r at tag v s ea et z e es ex =
    eq_yes _ _ _ _ (rw (← ea, ← et) z) (eq_yes _ _ _ _ e (whole (annihilate ws file v.node.0 v.other.0) es ex))

pub interact_differs : (ws file sets : List ℕ) (r at tag : ℕ) (v : Visited) → at ≡ rule_at_words sets r → tag ≡ byte file at → tag ≡ 2
    → (v.path ≡ v.facing → ⊥) → record { is = Passed; ws = ws } ≡ interact ws file sets r v
unfolding interact
interact_differs ws file sets r at tag v ea et z e = eq_yes _ _ _ _ (rw (← ea, ← et) z) (eq_no _ _ _ _ e refl)

pub interact_pair : (ws file sets x : List ℕ) (r at tag : ℕ) (v : Visited) (s : Tried) → at ≡ rule_at_words sets r → tag ≡ byte file at → (tag ≡ 2 → ⊥)
    → s ≡ (pair ws file sets r v).is → x ≡ (pair ws file sets r v).ws → record { is = s; ws = x } ≡ interact ws file sets r v
unfolding interact
interact_pair ws file sets x r at tag v s ea et z es ex = eq_no _ _ _ _ (λ e. z (rw (et, ea) e)) (whole (pair ws file sets r v) es ex)
