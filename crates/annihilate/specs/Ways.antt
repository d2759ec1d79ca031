-- What a function of the crate leaves on each way out, in the words of its tests and calls.
use Rattle.std.specs.Prelude.{ℕ, ◌≡◌, refl, Bool, true, false, List}
use Rattle.words.specs.Choose.{eq_yes, eq_no, pick_true, pick_false}
use Rattle.words.specs.Left.{whole}
use Rattle.layout.specs.Layout.{principal}
use Rattle.graph.specs.Graph.{link_all, remove_node}
use Rattle.tried.specs.Tries.{spent, arity}
use Rattle.tried.specs.declared.Tried.{Tried}
use Rattle.tried.specs.declared.Tried.TheVariants.{Passed, Acted, Refused}
use Rattle.annihilate.specs.Annihilate.{alike, act, annihilate}

pub act_spent : (ws : List ℕ) (a b k : ℕ) (f : Bool) → f ≡ spent ws → f ≡ true → record { is = Refused 14; ws = ws } ≡ act ws a b k
unfolding act
act_spent ws a b k f ef h = pick_true _ _ _ (rw (← ef) h) refl

pub act_acts : (ws w1 w2 w3 : List ℕ) (a b k p q : ℕ) (f : Bool) → f ≡ spent ws → f ≡ false → w1 ≡ remove_node ws a → w2 ≡ remove_node w1 b
    → p ≡ principal a → q ≡ principal b → w3 ≡ link_all w2 p q k → record { is = Acted; ws = w3 } ≡ act ws a b k
unfolding act
act_acts ws w1 w2 w3 a b k p q f ef h e1 e2 ep eq e3 = pick_false _ _ _ (rw (← ef) h) (rw (e3, e2, e1, ep, eq))

-- names that differ
pub passes_names : (ws file : List ℕ) (a b : ℕ) (f : Bool) → f ≡ alike ws file a b → f ≡ false
    → record { is = Passed; ws = ws } ≡ annihilate ws file a b
unfolding annihilate
passes_names ws file a b f ef h = pick_false _ _ _ (rw (← ef) h) refl

-- numbers of ports that differ
pub passes_ports : (ws file : List ℕ) (a b k m : ℕ) (f : Bool) → f ≡ alike ws file a b → f ≡ true
    → k ≡ arity ws a → m ≡ arity ws b → (k ≡ m → ⊥) → record { is = Passed; ws = ws } ≡ annihilate ws file a b
unfolding annihilate
passes_ports ws file a b k m f ef h ek em z =
    pick_true _ _ _ (rw (← ef) h) (eq_no _ _ _ _ (λ e. z (rw (ek, em) e)) refl)

pub annihilate_acts : (ws w file : List ℕ) (a b k m : ℕ) (f : Bool) (r : Tried) → f ≡ alike ws file a b → f ≡ true
    → k ≡ arity ws a → m ≡ arity ws b → k ≡ m → r ≡ (act ws a b k).is → w ≡ (act ws a b k).ws
    → record { is = r; ws = w } ≡ annihilate ws file a b
unfolding annihilate
annihilate_acts ws w file a b k m f r ef h ek em z er ew =
    pick_true _ _ _ (rw (← ef) h) (eq_yes _ _ _ _ (rw (← ek, ← em) z) (rw (← ek) (whole (act ws a b k) er ew)))
