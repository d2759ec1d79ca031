-- Erase and commute on two nodes that meet: tried straight, flipped, or both in order, as level Engine tries them.
use Rattle.std.specs.Prelude.{ℕ, ◌+◌, ◌<◌, refl, Bool, not, ◌&&◌, List, [], ◌∷◌, map, length, eqb}
use Rattle.std.proofs.Math.Path.{◌≡◌}
use Rattle.std.proofs.Common.{◌∙◌, arith, eq-eqb, ne_eqb}
use Rattle.std.proofs.Math.Bool.{true, false}
use Rattle.std.proofs.Math.Option.{some}
use Rattle.std.proofs.lemmas.Bool.{eqb-false, not-true}
use Rattle.net_file.specs.Lists.{concat_map}
use Rattle.net_file.specs.Values.{Rule, FlatNet, File}
use Rattle.list_laws.specs.Tests.{both}
use Rattle.definitions.specs.Lists.{has as listed}
use Rattle.definitions.specs.Nets.{Graph, name_of}
use Rattle.definitions.specs.Step.{cross, pairs}
use Rattle.definitions.specs.State.{Engine}
use Rattle.definitions.specs.Visit
use Rattle.definitions.specs.Visit.{Try, interaction, try_pair, attempts}
use Rattle.words.specs.Choose.{pick, pick_and, pick_true, pick_false, eq_yes, eq_no}
use Rattle.fields.specs.Fields.{byte}
use Rattle.stored.specs.Stored.{list_at}
use Rattle.rule_sets.specs.Sets.{set_of, has, rule_at_words}
use Rattle.interactions.specs.Interactions.{registered, first_of_words, apply, apply_both, in_order, straight, pair}
use Rattle.visit.specs.Visits.{meeting}
use Rattle.rule_means.specs.Collected.{first_paths, second_paths, collected}
use Rattle.rule_means.specs.Built.{rule_of, Built, has_is}
use Rattle.tries_laws.specs.Attempts.{Pure, attempts_cons, attempts_one, interaction_pure}
use Rattle.tries_laws.specs.Order.{first_of, once}
use Rattle.tries_laws.proofs.Order.{tried_once}
use Rattle.tries_laws.specs.Pairs.{told, turned, pairs_told, cross_straight, cross_flipped}
use Rattle.visit_means.specs.Tells.{Tells, tells_next}
use Rattle.visit_means.specs.First.{cross_first}

-- the tries of one rule on nodes n and m
abbrev pub on_pair : Graph → ℕ → ℕ → Rule → List Try
on_pair g n m q = concat_map (try_pair g n m q) (pairs q)

pub turned_pure : (q : Rule) (n m : ℕ) (e : Engine) (b : Bool) → Pure (turned q n m b) e
unfolding pick
turned_pure q n m e true = interaction_pure q n m e
turned_pure q n m e false = interaction_pure q m n e

module _ (g : Graph) (n m x y : ℕ) (ex : (name_of g n).path ≡ x) (ey : (name_of g m).path ≡ y) where
  pub pair_is : (q : Rule) → on_pair g n m q ≡ map (turned q n m) (concat_map (told x y) (pairs q))
  pair_is q = rw (← ex, ← ey) (pairs_told g n m q (pairs q))

  -- of two lists each once, in order
  pub cross_once : (q : Rule) (es ns : List ℕ) (e : Engine) → pairs q ≡ cross es ns
      → attempts (on_pair g n m q) e ≡ attempts (map (turned q n m) (once (listed es x && listed ns y) (not (eqb x y) && (listed es y && listed ns x)) (first_of_words x y es))) e
  cross_once q es ns e c =
      rw (pair_is q, c)
      (tried_once (turned q n m) e (turned_pure q n m e) (concat_map (told x y) (cross es ns)) (listed es x && listed ns y) (not (eqb x y) && (listed es y && listed ns x)) (first_of_words x y es)
      (cross_straight x y es ns) (cross_flipped x y es ns) first)
    where
      first : (listed es x && listed ns y) ≡ true → (not (eqb x y) && (listed es y && listed ns x)) ≡ true
          → first_of (concat_map (told x y) (cross es ns)) ≡ some (first_of_words x y es)
      first h k =
          let a = both (listed es x) (listed ns y) h in
          let b = both (not (eqb x y)) (listed es y && listed ns x) k in
          cross_first x y ns (eqb-false x y (not-true (eqb x y) b.0)) (both (listed es y) (listed ns x) b.1).1 a.1 es a.0

-- ---- on the words

module _ (s : List ℕ) (f : File FlatNet) (sets : List ℕ) (b : Built s f (length f.rules) sets) (r : ℕ) where
  pub registered_is : (p q : ℕ) → p < 256 → q < 256 → registered sets r p q ≡ (listed (first_paths (rule_of f r)) p && listed (second_paths (rule_of f r)) q)
  unfolding registered collected
  registered_is p q hp hq =
      pick_and (has (set_of sets p 0) r) (has (set_of sets q 1) r) ∙ rw (has_is s f sets b p 0 r hp (omega arith), has_is s f sets b q 1 r hq (omega arith))

module _ (P A : List ℕ → Engine → Type 0) (s sets : List ℕ) (r t n m x y : ℕ) (q : Rule)
    (as_it_is : (w : List ℕ) (e : Engine) → P w e → Tells P A (apply w (byte s (rule_at_words sets r)) t n m) (Visit.attempt (interaction q n m) e))
    (other_way : (w : List ℕ) (e : Engine) → P w e → Tells P A (apply w (byte s (rule_at_words sets r)) t m n) (Visit.attempt (interaction q m n) e)) where
  -- one after the other
  both_ways : (w : List ℕ) (e : Engine) → P w e → Tells P A (apply_both w (byte s (rule_at_words sets r)) t n m) (attempts (interaction q n m ∷ interaction q m n ∷ []) e)
  unfolding apply_both
  both_ways w e p =
      rw (attempts_cons (interaction q n m) (interaction q m n ∷ []) e)
      (tells_next P A (apply w (byte s (rule_at_words sets r)) t n m) _ (Visit.attempt (interaction q n m) e) (attempts (interaction q m n ∷ [])) (as_it_is w e p)
      (λ e' p'. rw (attempts_one (interaction q m n) e') (other_way _ e' p')))

  both_flipped : (w : List ℕ) (e : Engine) → P w e → Tells P A (apply_both w (byte s (rule_at_words sets r)) t m n) (attempts (interaction q m n ∷ interaction q n m ∷ []) e)
  unfolding apply_both
  both_flipped w e p =
      rw (attempts_cons (interaction q m n) (interaction q n m ∷ []) e)
      (tells_next P A (apply w (byte s (rule_at_words sets r)) t m n) _ (Visit.attempt (interaction q m n) e) (attempts (interaction q n m ∷ [])) (other_way w e p)
      (λ e' p'. rw (attempts_one (interaction q n m) e') (as_it_is _ e' p')))

  module _ (w : List ℕ) (e : Engine) (p : P w e) where
    alone : Tells P A (apply w (byte s (rule_at_words sets r)) t n m) (attempts (map (turned q n m) (true ∷ [])) e)
    unfolding pick
    alone = rw (attempts_one (interaction q n m) e) (as_it_is w e p)

    alone_flipped : Tells P A (apply w (byte s (rule_at_words sets r)) t m n) (attempts (map (turned q n m) (false ∷ [])) e)
    unfolding pick
    alone_flipped = rw (attempts_one (interaction q m n) e) (other_way w e p)

    ordered : (o : Bool) → first_of_words x y (list_at s (rule_at_words sets r + 1)) ≡ o
        → Tells P A (in_order w s (rule_at_words sets r) (meeting t n x m y)) (attempts (map (turned q n m) (once true true o)) e)
    unfolding in_order once pick
    ordered true h = rw (← pick_true (first_of_words x y (list_at s (rule_at_words sets r + 1))) (apply_both w (byte s (rule_at_words sets r)) t n m) (apply_both w (byte s (rule_at_words sets r)) t m n) h refl) (both_ways w e p)
    ordered false h = rw (← pick_false (first_of_words x y (list_at s (rule_at_words sets r + 1))) (apply_both w (byte s (rule_at_words sets r)) t n m) (apply_both w (byte s (rule_at_words sets r)) t m n) h refl) (both_flipped w e p)

    straight_tried : (d : Dec (x ≡ y)) (u o : Bool) → registered sets r y x ≡ u → first_of_words x y (list_at s (rule_at_words sets r + 1)) ≡ o
        → Tells P A (straight w s sets r (meeting t n x m y)) (attempts (map (turned q n m) (once true (not (eqb x y) && u) o)) e)
    unfolding straight once
    straight_tried (yes i) u o h k = rw (eq-eqb x y i, ← eq_yes x y _ _ i refl) alone
    straight_tried (no i) true o h k = rw (ne_eqb x y i, ← eq_no x y _ _ i (pick_true _ _ _ h refl)) (ordered o k)
    straight_tried (no i) false o h k = rw (ne_eqb x y i, ← eq_no x y _ _ i (pick_false _ _ _ h refl)) alone

    pub pair_tried : (d : Dec (x ≡ y)) (c u o : Bool) → registered sets r x y ≡ c → registered sets r y x ≡ u → first_of_words x y (list_at s (rule_at_words sets r + 1)) ≡ o
        → Tells P A (pair w s sets r (meeting t n x m y)) (attempts (map (turned q n m) (once c (not (eqb x y) && u) o)) e)
    unfolding pair once Visit.attempts
    pair_tried d true u o h k l = rw (← pick_true _ _ _ h refl) (straight_tried d u o k l)
    pair_tried (yes i) false true o h k l = let z : ◌≡◌ {A = ℕ} 0 1 = cc in absurd (omega arith)
    pair_tried (yes i) false false o h k l = rw (eq-eqb x y i, ← pick_false _ _ _ h (pick_false _ _ _ k refl)) (refl, p)
    pair_tried (no i) false true o h k l = rw (ne_eqb x y i, ← pick_false _ _ _ h (pick_true _ _ _ k refl)) alone_flipped
    pair_tried (no i) false false o h k l = rw (ne_eqb x y i, ← pick_false _ _ _ h (pick_false _ _ _ k refl)) (refl, p)
