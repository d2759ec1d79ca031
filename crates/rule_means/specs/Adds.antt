-- What is added to the sets: one rule's bit, under each path of a list, and nothing else.
use Rattle.std.specs.Prelude.{ℕ, ◌+◌, ◌*◌, ◌%◌, ◌^◌, ◌<◌, ◌≤◌, ◌≡◌, Bool, ◌&&◌, ◌||◌, List, [], ◌∷◌, length, get_or, set}
use Rattle.std.proofs.Math.Path.{refl}
use Rattle.std.proofs.Common.{ap, ◌∙◌, arith, eq-eqb, ne_eqb}
use Rattle.std.proofs.Math.Bool.{true, false}
use Rattle.std.proofs.Math.Decide.{ℕ_discrete}
use Rattle.std.proofs.Math.ListN.{length-set}
use Rattle.std.proofs.Math.Seq.{get_or-set_same, get_or-set_other}
use Rattle.std.proofs.Math.Dec.{eqb}
use Rattle.net_file_laws.specs.Exact.{Each}
use Rattle.definitions.specs.Lists.{has as listed}
use Rattle.words.specs.Choose.{pick, pick_true, pick_false}
use Rattle.rule_sets.specs.Sets.{set_of, has, bit_of, add, add_list}
use Rattle.rule_means.specs.Bits.{added_own, added_other}

-- ---- one rule's bit

-- from sets to w rule r comes under the paths and sets of D
pub record Adds (r : ℕ) (D : ℕ → ℕ → Bool) (sets w : List ℕ) : Type 0 where
  pub long : length w ≡ length sets
  pub own : (p k : ℕ) → k < 6 → has (set_of w p k) r ≡ (D p k || has (set_of sets p k) r)
  pub others : (p k q : ℕ) → k < 6 → (q ≡ r → ⊥) → has (set_of w p k) q ≡ has (set_of sets p k) q
  pub places : (i : ℕ) → 2048 ≤ i → get_or w i 0 ≡ get_or sets i 0

or_assoc : (a b c : Bool) → (a || (b || c)) ≡ ((a || b) || c)
or_assoc true b c = refl
or_assoc false b c = refl

module _ (r : ℕ) {D E : ℕ → ℕ → Bool} where
  pub adds_then : {u v w : List ℕ} → Adds r D u v → Adds r E v w → Adds r (λ p k. E p k || D p k) u w
  adds_then x y = record {
    long = y.long ∙ x.long;
    own = λ p k h. y.own p k h ∙ ap (λ (t : Bool). E p k || t) (x.own p k h) ∙ or_assoc (E p k) (D p k) _;
    others = λ p k q h n. y.others p k q h n ∙ x.others p k q h n;
    places = λ i h. y.places i h ∙ x.places i h;
  }

  pub adds_as : {u w : List ℕ} → ((p k : ℕ) → k < 6 → D p k ≡ E p k) → Adds r D u w → Adds r E u w
  adds_as {u} {w} f x = record {
    long = x.long;
    own = λ p k h. x.own p k h ∙ ap (λ (t : Bool). t || has (set_of u p k) r) (f p k h);
    others = x.others;
    places = x.places;
  }

-- one path
module _ (sets : List ℕ) (r p k : ℕ) (room : 2048 ≤ length sets) (few : r < 64) (path : p < 256) (kind : k < 6) where
  new : List ℕ
  new = set sets (8 * p + k) ((set_of sets p k + bit_of r) % 2 ^ 64)

  new_adds : has (set_of sets p k) r ≡ false → Adds r (λ p' k'. eqb k' k && eqb p' p) sets new
  unfolding new
  new_adds e = record { long = length-set sets (8 * p + k) _; own = own; others = others; places = λ i h. get_or-set_other sets (8 * p + k) i _ 0 (omega arith) }
    where
      here : set_of new p k ≡ (set_of sets p k + bit_of r) % 2 ^ 64
      here = get_or-set_same sets (8 * p + k) _ 0 (omega arith)

      there : (p' k' : ℕ) → k' < 6 → (k' ≡ k → p' ≡ p → ⊥) → set_of new p' k' ≡ set_of sets p' k'
      there p' k' h n = get_or-set_other sets (8 * p + k) (8 * p' + k') _ 0 (λ i. n (omega arith) (omega arith))

      own : (p' k' : ℕ) → k' < 6 → has (set_of new p' k') r ≡ ((eqb k' k && eqb p' p) || has (set_of sets p' k') r)
      own p' k' h = elim (ℕ_discrete k' k) [
        | no n ↦ rw (ne_eqb k' k n) (ap (λ (x : ℕ). has x r) (there p' k' h (λ i j. n i)))
        | yes i ↦ elim (ℕ_discrete p' p) [
          | no n ↦ rw (eq-eqb k' k i, ne_eqb p' p n) (ap (λ (x : ℕ). has x r) (there p' k' h (λ j l. n l)))
          | yes j ↦ rw (eq-eqb k' k i, eq-eqb p' p j) (rw (i, j) (ap (λ (x : ℕ). has x r) here ∙ added_own (set_of sets p k) r few e))
        ]
      ]

      others : (p' k' q : ℕ) → k' < 6 → (q ≡ r → ⊥) → has (set_of new p' k') q ≡ has (set_of sets p' k') q
      others p' k' q h d = elim (ℕ_discrete k' k) [
        | no n ↦ ap (λ (x : ℕ). has x q) (there p' k' h (λ i j. n i))
        | yes i ↦ elim (ℕ_discrete p' p) [
          | no n ↦ ap (λ (x : ℕ). has x q) (there p' k' h (λ j l. n l))
          | yes j ↦ rw (i, j) (ap (λ (x : ℕ). has x q) here ∙ added_other (set_of sets p k) r few e q d)
        ]
      ]

  known_adds : has (set_of sets p k) r ≡ true → Adds r (λ p' k'. eqb k' k && eqb p' p) sets sets
  known_adds e = record { long = refl; own = own; others = λ p' k' q h n. refl; places = λ i h. refl }
    where
      own : (p' k' : ℕ) → k' < 6 → has (set_of sets p' k') r ≡ ((eqb k' k && eqb p' p) || has (set_of sets p' k') r)
      own p' k' h = elim (ℕ_discrete k' k) [
        | no n ↦ rw (ne_eqb k' k n)
        | yes i ↦ elim (ℕ_discrete p' p) [
          | no n ↦ rw (eq-eqb k' k i, ne_eqb p' p n)
          | yes j ↦ rw (eq-eqb k' k i, eq-eqb p' p j) (rw (i, j) e)
        ]
      ]

  pub add_adds : Adds r (λ p' k'. eqb k' k && eqb p' p) sets (add sets p k r (bit_of r))
  unfolding add new
  add_adds = go (has (set_of sets p k) r) refl
    where
      go : (t : Bool) → has (set_of sets p k) r ≡ t → Adds r (λ p' k'. eqb k' k && eqb p' p) sets (pick (has (set_of sets p k) r) sets new)
      go true e = rw (← pick_true (has (set_of sets p k) r) sets new e refl) (known_adds e)
      go false e = rw (← pick_false (has (set_of sets p k) r) sets new e refl) (new_adds e)

-- ---- the paths of a list

list_test : (a b l : Bool) → ((a && l) || (a && b)) ≡ (a && (b || l))
list_test true true true = refl
list_test true true false = refl
list_test true false true = refl
list_test true false false = refl
list_test false b l = refl

pub list_adds : (k r : ℕ) → r < 64 → k < 6 → (ps : List ℕ) → Each (λ p. p < 256) ps → (sets : List ℕ) → 2048 ≤ length sets
    → Adds r (λ p' k'. eqb k' k && listed ps p') sets (add_list sets k r (bit_of r) ps)
unfolding add_list
list_adds k r few kind [] h sets room = record { long = refl; own = λ p' k' i. rw (nothing (eqb k' k)); others = λ p' k' q i n. refl; places = λ i j. refl }
  where
    nothing : (a : Bool) → (a && false) ≡ false
    nothing true = refl
    nothing false = refl
list_adds k r few kind (p ∷ ps) h sets room =
    let x = add_adds sets r p k room few h.0 kind in
    adds_as r (λ p' k' i. list_test (eqb k' k) (eqb p' p) (listed ps p'))
    (adds_then r x (list_adds k r few kind ps h.1 (add sets p k r (bit_of r)) (omega (arith, x.long))))
