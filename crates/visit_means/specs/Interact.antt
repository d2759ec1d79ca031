-- The interactions of two nodes that meet, by rule: which is tried, in which order, is what level Engine says; what each does is left open.
use Rattle.std.specs.Prelude.{ℕ, ◌+◌, ◌<◌, Bool, not, ◌&&◌, ◌||◌, List, [], map, length, eqb}
use Rattle.std.proofs.Math.Path.{◌≡◌, refl, sym, ap}
use Rattle.std.proofs.Common.{◌∙◌, eq-eqb, ne_eqb}
use Rattle.std.proofs.Math.Bool.{true, false}
use native.Mathlib.Omega.{arith}
use Rattle.std.proofs.Math.Decide.{ℕ_discrete}
use Rattle.net_file.specs.Lists.{ok, any, concat_map}
use Rattle.net_file.specs.Values.{Rule, graft, annihilate, erase, commute, eta, FlatNet, File}
use Rattle.net_file.specs.Checks.{flat, read, rule_paths}
use Rattle.net_file_laws.specs.Bytes.{Bytes}
use Rattle.list_laws.specs.Lists.{any_append}
use Rattle.definitions.specs.Lists.{has as listed}
use Rattle.definitions.specs.Nets.{Graph, name_of}
use Rattle.definitions.specs.Rules
use Rattle.definitions.specs.Rules.{annihilate_script, erase_script, commute_script}
use Rattle.definitions.specs.Step.{cross, pairs}
use Rattle.definitions.specs.State.{Engine, graph_of}
use Rattle.definitions.specs.Books.{fresh}
use Rattle.definitions.specs.Load.{free_name}
use Rattle.definitions.specs.Visit
use Rattle.definitions.specs.Visit.{interaction, act_if, attempts}
use Rattle.words.specs.Choose.{pick, eq_yes, eq_no}
use Rattle.fields.specs.Fields.{byte}
use Rattle.stored.specs.Stored.{table_end, list_at}
use Rattle.readers_laws.specs.Rules.{RuleStands, rule_list}
use Rattle.rule_sets.specs.Sets.{rule_at_words}
use Rattle.annihilate.specs.Annihilate
use Rattle.erase.specs.Erase
use Rattle.commute.specs.Commute
use Rattle.interactions.specs.Interactions.{first_of_words, apply, pair, interact}
use Rattle.visit.specs.Visits.{attempt, meeting}
use Rattle.held_names.specs.Free.{neither, rule_unnamed}
use Rattle.rule_means.specs.Collected.{first_paths, second_paths, collected}
use Rattle.rule_means.specs.Built.{rule_of, Built, rule_stands_at}
use Rattle.tries_laws.specs.Attempts.{attempts_one}
use Rattle.tries_laws.specs.Order.{once, neither_is}
use Rattle.tries_laws.proofs.Order.{tried_once}
use Rattle.tries_laws.specs.Pairs.{told, turned, cross_straight, cross_flipped, self_straight, self_flipped}
use Rattle.visit_means.specs.Tells.{Tells}
use Rattle.visit_means.specs.Pairs.{on_pair, turned_pure, pair_is, cross_once, registered_is, pair_tried}

-- what the interactions do on nodes n and m of net t, both ways. Paths are equal where annihilate is tried, and not the free nodes'
pub record PairActs (P A : List ℕ → Engine → Type 0) (s : List ℕ) (free t n m x y : ℕ) : Type 0 where
  pub annihilates : x ≡ y → (x ≡ free → ⊥) → (w : List ℕ) (e : Engine) → P w e
      → Tells P A (Annihilate.annihilate w s n m) (act_if (annihilate_script (fresh e) (graph_of e) n m) e)
  pub erases : (w : List ℕ) (e : Engine) → P w e → Tells P A (Erase.erase w t n m) (act_if (erase_script (fresh e) (graph_of e) n m) e)
  pub erases_flipped : (w : List ℕ) (e : Engine) → P w e → Tells P A (Erase.erase w t m n) (act_if (erase_script (fresh e) (graph_of e) m n) e)
  pub commutes : (w : List ℕ) (e : Engine) → P w e → Tells P A (Commute.commute w t n m) (act_if (commute_script (fresh e) (graph_of e) n m) e)
  pub commutes_flipped : (w : List ℕ) (e : Engine) → P w e → Tells P A (Commute.commute w t m n) (act_if (commute_script (fresh e) (graph_of e) m n) e)

-- ---- tests

either_same : (a : Bool) → (a || a) ≡ a
either_same true = refl
either_same false = refl

and_false : (a b : Bool) → b ≡ false → (a && b) ≡ false
and_false true b e = e
and_false false b e = refl

-- ---- rules that do not name the path

module _ (g : Graph) (n m x y : ℕ) (ex : (name_of g n).path ≡ x) (ey : (name_of g m).path ≡ y) where
  cross_out : (es ns : List ℕ) → listed es x ≡ false → listed ns x ≡ false → concat_map (told x y) (cross es ns) ≡ []
  cross_out es ns h k =
      neither_is (concat_map (told x y) (cross es ns)) (cross_straight x y es ns ∙ rw h)
      (cross_flipped x y es ns ∙ and_false (not (eqb x y)) _ (and_false (listed es y) (listed ns x) k))

  self_out : (ps : List ℕ) → (eqb x y && listed ps x) ≡ false → concat_map (told x y) (map (λ p. (p, p)) ps) ≡ []
  self_out ps h = neither_is (concat_map (told x y) (map (λ p. (p, p)) ps)) (self_straight x y ps ∙ h) (self_flipped x y ps)

  told_out : (q : Rule) → listed (first_paths q) x ≡ false → listed (second_paths q) x ≡ false → concat_map (told x y) (pairs q) ≡ []
  unfolding pairs first_paths second_paths
  told_out (graft p lazy) h k = refl
  told_out (annihilate ps) h k = self_out ps (and_false (eqb x y) (listed ps x) h)
  told_out (erase es ns) h k = cross_out es ns h k
  told_out (commute xs ys) h k = cross_out xs ys h k
  told_out (eta cs vs ns) h k = refl

  -- a rule that names x in neither list is not tried
  pub pair_out : (q : Rule) → listed (collected 2 q) x ≡ false → on_pair g n m q ≡ []
  unfolding collected
  pair_out q h =
      let b = neither (listed (first_paths q) x) (listed (second_paths q) x) (sym (any_append (eqb x) (first_paths q) (second_paths q)) ∙ h) in
      pair_is g n m x y ex ey q ∙ ap (map (turned q n m)) (told_out q b.0 b.1)

  -- annihilate, once where the paths are equal, else not
  self_once : (ps : List ℕ) (e : Engine) → x ≡ y → listed ps x ≡ true
      → attempts (on_pair g n m (annihilate ps)) e ≡ Visit.attempt (interaction (annihilate ps) n m) e
  unfolding pairs once pick
  self_once ps e i h =
      rw (pair_is g n m x y ex ey (annihilate ps))
      (tried_once (turned (annihilate ps) n m) e (turned_pure (annihilate ps) n m e) (concat_map (told x y) (map (λ p. (p, p)) ps)) true false true
      (self_straight x y ps ∙ rw (eq-eqb x y i) h) (self_flipped x y ps) (λ j k. let z : ◌≡◌ {A = ℕ} 0 1 = cc in absurd (omega arith))
      ∙ attempts_one (interaction (annihilate ps) n m) e)

  self_none : (ps : List ℕ) → (x ≡ y → ⊥) → on_pair g n m (annihilate ps) ≡ []
  unfolding pairs
  self_none ps i = pair_is g n m x y ex ey (annihilate ps) ∙ ap (map (turned (annihilate ps) n m)) (self_out ps (rw (ne_eqb x y i)))

-- ---- a path that a rule does not name is in none of its lists

pub unnamed_in_pairs : (q : Rule) (p : ℕ) → any (eqb p) (rule_paths q) ≡ false → listed (collected 2 q) p ≡ false
unfolding rule_paths collected first_paths second_paths
unnamed_in_pairs (graft c lazy) p h = refl
unnamed_in_pairs (annihilate ps) p h = any_append (eqb p) ps ps ∙ either_same (any (eqb p) ps) ∙ h
unnamed_in_pairs (erase es ns) p h = h
unnamed_in_pairs (commute xs ys) p h = h
unnamed_in_pairs (eta cs vs ns) p h = refl

-- ---- on the words

module _ (s : List ℕ) (is : Bytes s) (f : File FlatNet) (e₀ : read flat s ≡ ok f) (sets : List ℕ) (b : Built s f (length f.rules) sets)
    (P A : List ℕ → Engine → Type 0) (g : Graph) (t n m x y : ℕ) (ex : (name_of g n).path ≡ x) (ey : (name_of g m).path ≡ y) (px : x < 256) (py : y < 256)
    (acts : PairActs P A s (free_name f.paths).path t n m x y)
    (r : ℕ) (h : r < length f.rules) (named : listed (collected 2 (rule_of f r)) x ≡ true) (w : List ℕ) (e : Engine) (p : P w e) where
  stands : RuleStands s (rule_of f r) (rule_at_words sets r)
  stands = rule_stands_at s f sets b e₀ r h

  not_free : x ≡ (free_name f.paths).path → ⊥
  not_free i =
      let u = unnamed_in_pairs (rule_of f r) (free_name f.paths).path (rule_unnamed s is f e₀ r (annihilate []) h) in
      let v : listed (collected 2 (rule_of f r)) x ≡ false = rw i u in
      let z : ◌≡◌ {A = ℕ} 0 1 = cc in omega arith

  -- annihilate
  self_means : byte s (rule_at_words sets r) ≡ 2 → Tells P A (interact w s sets r (meeting t n x m y)) (attempts (on_pair g n m (rule_of f r)) e)
  unfolding interact collected first_paths second_paths Visit.attempts Visit.attempt Rules.interact
  self_means i =
      let ps = rule_list s (rule_at_words sets r) 0 in
      let q : rule_of f r ≡ annihilate ps = stands.annihilates i in
      let l : listed ps x ≡ true = sym (either_same (listed ps x)) ∙ sym (any_append (eqb x) ps ps) ∙ (rw q at named) in
      rw q (elim (ℕ_discrete x y) [
        | yes j ↦ rw (← eq_yes (byte s (rule_at_words sets r)) 2 _ _ i (eq_yes x y _ _ j refl), self_once g n m x y ex ey ps e j l) (acts.annihilates j not_free w e p)
        | no j ↦ rw (← eq_yes (byte s (rule_at_words sets r)) 2 _ _ i (eq_no x y _ _ j refl), self_none g n m x y ex ey ps j) (refl, p)
      ])

  -- two lists
  pair_means : (es ns : List ℕ) → first_paths (rule_of f r) ≡ es → second_paths (rule_of f r) ≡ ns → pairs (rule_of f r) ≡ cross es ns → list_at s (rule_at_words sets r + 1) ≡ es
      → ((w : List ℕ) (e : Engine) → P w e → Tells P A (apply w (byte s (rule_at_words sets r)) t n m) (Visit.attempt (interaction (rule_of f r) n m) e))
      → ((w : List ℕ) (e : Engine) → P w e → Tells P A (apply w (byte s (rule_at_words sets r)) t m n) (Visit.attempt (interaction (rule_of f r) m n) e))
      → Tells P A (pair w s sets r (meeting t n x m y)) (attempts (on_pair g n m (rule_of f r)) e)
  pair_means es ns i j c l as_it_is other_way =
      rw (cross_once g n m x y ex ey (rule_of f r) es ns e c)
      (pair_tried P A s sets r t n m x y (rule_of f r) as_it_is other_way w e p (ℕ_discrete x y) (listed es x && listed ns y) (listed es y && listed ns x) (first_of_words x y es)
      (rw (← i, ← j) (registered_is s f sets b r x y px py)) (rw (← i, ← j) (registered_is s f sets b r y x py px)) (ap (first_of_words x y) l))

  erase_means : byte s (rule_at_words sets r) ≡ 3 → Tells P A (pair w s sets r (meeting t n x m y)) (attempts (on_pair g n m (rule_of f r)) e)
  unfolding first_paths second_paths pairs rule_list table_end apply Visit.attempt Rules.interact
  erase_means i =
      let q : rule_of f r ≡ erase (rule_list s (rule_at_words sets r) 0) (rule_list s (rule_at_words sets r) 1) = stands.erases i in
      pair_means (rule_list s (rule_at_words sets r) 0) (rule_list s (rule_at_words sets r) 1) (ap first_paths q) (ap second_paths q) (ap pairs q) refl
      (λ w' e' p'. rw (q, ← eq_yes (byte s (rule_at_words sets r)) 3 _ _ i refl) (acts.erases w' e' p'))
      (λ w' e' p'. rw (q, ← eq_yes (byte s (rule_at_words sets r)) 3 _ _ i refl) (acts.erases_flipped w' e' p'))

  commute_means : byte s (rule_at_words sets r) ≡ 4 → Tells P A (pair w s sets r (meeting t n x m y)) (attempts (on_pair g n m (rule_of f r)) e)
  unfolding first_paths second_paths pairs rule_list table_end apply Visit.attempt Rules.interact
  commute_means i =
      let q : rule_of f r ≡ commute (rule_list s (rule_at_words sets r) 0) (rule_list s (rule_at_words sets r) 1) = stands.commutes i in
      pair_means (rule_list s (rule_at_words sets r) 0) (rule_list s (rule_at_words sets r) 1) (ap first_paths q) (ap second_paths q) (ap pairs q) refl
      (λ w' e' p'. rw (q, ← eq_no (byte s (rule_at_words sets r)) 3 _ _ (omega arith) refl) (acts.commutes w' e' p'))
      (λ w' e' p'. rw (q, ← eq_no (byte s (rule_at_words sets r)) 3 _ _ (omega arith) refl) (acts.commutes_flipped w' e' p'))

  no_graft : byte s (rule_at_words sets r) ≡ 1 → ⊥
  unfolding collected first_paths second_paths
  no_graft i = let k = rw (stands.grafts i) at named in let z : ◌≡◌ {A = ℕ} 0 1 = cc in omega arith

  no_eta : byte s (rule_at_words sets r) ≡ 5 → ⊥
  unfolding collected first_paths second_paths
  no_eta i = let k = rw (stands.etas i) at named in let z : ◌≡◌ {A = ℕ} 0 1 = cc in omega arith

  -- an interaction, by the tag
  pub interact_means : Tells P A (interact w s sets r (meeting t n x m y)) (attempts (on_pair g n m (rule_of f r)) e)
  unfolding interact
  interact_means = elim (ℕ_discrete (byte s (rule_at_words sets r)) 2) [
    | yes i ↦ self_means i
    | no i ↦ rw (← eq_no (byte s (rule_at_words sets r)) 2 _ _ i refl) (elim (ℕ_discrete (byte s (rule_at_words sets r)) 3) [
      | yes j ↦ erase_means j
      | no j ↦ elim (ℕ_discrete (byte s (rule_at_words sets r)) 4) [
        | yes k ↦ commute_means k
        | no k ↦ elim (ℕ_discrete (byte s (rule_at_words sets r)) 1) [ yes l ↦ absurd (no_graft l) | no l ↦ let u = stands.tagged in absurd (no_eta (omega arith)) ]
      ]
    ])
  ]

  -- where principal ports meet
  pub attempt_interacts : Tells P A (attempt w s sets r (meeting t n x m y)) (attempts (on_pair g n m (rule_of f r)) e)
  unfolding attempt pick
  attempt_interacts = interact_means
