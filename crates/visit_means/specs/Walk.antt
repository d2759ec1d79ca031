-- A walk over the bits of a set tries the rules that level Engine tries, in the same order, whatever the rules do.
use Prim.Native.Nat.{ℕ, zero, suc, ◌+◌, ◌/◌, ◌%◌, ◌<◌, ◌≤◌}
use Rattle.std.specs.Prelude.{◌≡◌, Bool, length, get_or, eqb}
use Rattle.std.proofs.Math.Path.{refl, sym}
use Rattle.std.proofs.Common.{◌∙◌, eqb-true}
use Rattle.std.proofs.Math.Bool.{true, false}
use mathlib.Core.List.{List, [], ◌∷◌}
use native.Mathlib.Omega.{arith}
use Rattle.std.proofs.lemmas.Bool.{eqb-false}
use Rattle.net_file.specs.Lists.{ok, concat_map}
use Rattle.net_file.specs.Values.{Rule, annihilate, FlatNet, File}
use Rattle.definitions.specs.Lists.{has as listed}
use Rattle.definitions.specs.State.{Engine}
use Rattle.definitions.specs.Visit
use Rattle.definitions.specs.Visit.{Try, passed, attempts}
use Rattle.words.specs.Choose.{eq_yes, eq_no}
use Rattle.words.specs.Left.{Left}
use Rattle.layout.specs.Layout.{next}
use Rattle.rule_sets.specs.Sets.{set_of}
use Rattle.tried.specs.Tries.{on_tried}
use Rattle.tried.specs.declared.Tried.{Tried}
use Rattle.tried.specs.declared.Tried.TheVariants.{Passed}
use Rattle.interactions.specs.declared.Visited.{Visited}
use Rattle.visit.specs.Visits.{attempt, tried_if, tries}
use Rattle.rule_means.specs.Bits.{bit, has_bit}
use Rattle.rule_means.specs.Collected.{collected}
use Rattle.rule_means.specs.Built.{rule_of, Built, names_nothing, has_is}
use Rattle.tries_laws.specs.Attempts.{attempts_append}
use Rattle.visit_means.specs.Tells.{Tells, then_try, tells_next}

-- nothing was tried
abbrev pub untried : List ℕ → Left Tried
untried ws = record { is = Passed; ws = ws }

module _ (file sets : List ℕ) (v : Visited) where
  -- ---- one turn

  if_in : (ws : List ℕ) (x r : ℕ) → x % 2 ≡ 1 → tried_if ws file sets x r v ≡ attempt ws file sets r v
  unfolding tried_if
  if_in ws x r h = sym (eq_yes (x % 2) 1 _ _ h refl)

  if_out : (ws : List ℕ) (x r : ℕ) → (x % 2 ≡ 1 → ⊥) → tried_if ws file sets x r v ≡ untried ws
  unfolding tried_if
  if_out ws x r h = sym (eq_no (x % 2) 1 _ _ h refl)

  tries_nothing : (k r : ℕ) (ws : List ℕ) → tries ws file sets v 0 r k ≡ untried ws
  unfolding tries
  tries_nothing zero r ws = refl
  tries_nothing (suc k) r ws = sym (eq_yes 0 0 _ _ refl refl)

  tries_turn : (x k r : ℕ) (ws : List ℕ)
      → tries ws file sets v x r (suc k) ≡ then_try (tried_if ws file sets x r v) (tries (tried_if ws file sets x r v).ws file sets v (x / 2) (next r) k)
  unfolding tries on_tried
  tries_turn zero k r ws = tries_nothing (suc k) r ws ∙ sym (rw (if_out ws 0 r (omega arith)) (tries_nothing k (next r) ws))
  tries_turn (suc x) k r ws = sym (eq_no (suc x) 0 _ _ (omega arith) refl)

  -- ---- the rules of a list, of which some are in the set

  module _ (P A : List ℕ → Engine → Type 0) (inside : Rule → Bool) (one : Rule → List Try) (out : (q : Rule) → inside q ≡ false → one q ≡ []) where
    -- rule q, if it is in
    pub tried_if_means : (x r : ℕ) (q : Rule) (ws : List ℕ) (e : Engine) → eqb (x % 2) 1 ≡ inside q
        → (inside q ≡ true → Tells P A (attempt ws file sets r v) (attempts (one q) e)) → P ws e → Tells P A (tried_if ws file sets x r v) (attempts (one q) e)
    unfolding Visit.attempts
    tried_if_means x r q ws e i act p = go (inside q) refl
      where
        go : (t : Bool) → inside q ≡ t → Tells P A (tried_if ws file sets x r v) (attempts (one q) e)
        go true h = rw (if_in ws x r (eqb-true (x % 2) 1 (i ∙ h))) (act h)
        go false h = rw (if_out ws x r (eqb-false (x % 2) 1 (i ∙ h)), out q h) (refl, p)

    -- the rules rs, of which the first is rule r, by the bits of x
    walk_means : (k r x : ℕ) (rs : List Rule) → inside (annihilate []) ≡ false → r + k ≤ 64 → length rs ≤ k
        → ((j : ℕ) → j < k → eqb (bit x j) 1 ≡ inside (get_or rs j (annihilate [])))
        → ((j : ℕ) → j < length rs → inside (get_or rs j (annihilate [])) ≡ true → (w : List ℕ) (e : Engine) → P w e
        → Tells P A (attempt w file sets (r + j) v) (attempts (one (get_or rs j (annihilate []))) e))
        → (ws : List ℕ) (e : Engine) → P ws e → Tells P A (tries ws file sets v x r k) (attempts (concat_map one rs) e)
    unfolding tries Visit.attempts bit
    walk_means zero r x [] z l f is act ws e p = (refl, p)
    walk_means zero r x (q ∷ rs) z l f is act ws e p = absurd (omega arith)
    walk_means (suc k) r x [] z l f is act ws e p =
        let t : tried_if ws file sets x r v ≡ untried ws = if_out ws x r (eqb-false (x % 2) 1 (is 0 (omega arith) ∙ z)) in
        rw (tries_turn x k r ws)
        (tells_next P A (tried_if ws file sets x r v) _ (ok (passed e)) (attempts []) (rw t (refl, p))
        (λ e' p'. walk_means k (next r) (x / 2) [] z (omega arith) (omega arith) (λ j h. is (suc j) (omega arith)) (λ j h. absurd (omega arith)) _ e' p'))
    walk_means (suc k) r x (q ∷ rs) z l f is act ws e p =
        let o : r + 0 ≡ r = omega arith in
        let first : inside q ≡ true → Tells P A (attempt ws file sets r v) (attempts (one q) e) = λ h. rw o at (act 0 (omega arith) h ws e p) in
        rw (tries_turn x k r ws, attempts_append (one q) (concat_map one rs) e)
        (tells_next P A (tried_if ws file sets x r v) _ (attempts (one q) e) (attempts (concat_map one rs)) (tried_if_means x r q ws e (is 0 (omega arith)) first p)
        (λ e' p'. walk_means k (next r) (x / 2) rs z (omega arith) (omega arith) (λ j h. is (suc j) (omega arith))
        (λ j h i w e'' p''. let n : r + suc j ≡ next r + j = omega arith in rw n at (act (suc j) (omega arith) i w e'' p'')) _ e' p'))

-- ---- a set of the file's rules

module _ (s : List ℕ) (f : File FlatNet) (sets : List ℕ) (b : Built s f (length f.rules) sets) (few : length f.rules ≤ 64)
    (P A : List ℕ → Engine → Type 0) (v : Visited) (p k : ℕ) (path : p < 256) (kind : k < 6) (one : Rule → List Try)
    (out : (q : Rule) → listed (collected k q) p ≡ false → one q ≡ [])
    (act : (r : ℕ) → r < length f.rules → listed (collected k (rule_of f r)) p ≡ true → (w : List ℕ) (e : Engine) → P w e
    → Tells P A (attempt w s sets r v) (attempts (one (rule_of f r)) e)) where
  -- those that set k has under path p, as level Engine goes through all
  pub tries_means : (ws : List ℕ) (e : Engine) → P ws e → Tells P A (tries ws s sets v (set_of sets p k) 0 64) (attempts (concat_map one f.rules) e)
  tries_means ws e h =
      walk_means s sets v P A (λ q. listed (collected k q) p) one out 64 0 (set_of sets p k) f.rules (names_nothing k p) (omega arith) few
      (λ j l. sym (has_bit (set_of sets p k) j l) ∙ has_is s f sets b p k j path kind)
      (λ j l i w e' h'. let z : 0 + j ≡ j = omega arith in rw z (act j l i w e' h')) ws e h
