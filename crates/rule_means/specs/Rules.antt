-- A rule comes into each set under exactly the paths that the set collects of it.
use Rattle.std.specs.Prelude.{ℕ, zero, suc, ◌<◌, ◌≤◌, ◌≡◌, refl, Bool, true, false, ◌&&◌, ◌||◌, List, [], ◌∷◌, length, eqb}
use Rattle.std.proofs.Common.{sym, ◌∙◌, arith}
use Rattle.net_file.specs.Values.{Rule, graft, annihilate, erase, commute, eta}
use Rattle.net_file_laws.specs.Exact.{Each}
use Rattle.net_file_laws.specs.Rules.{RuleFits}
use Rattle.list_laws.specs.Lists.{any_append}
use Rattle.definitions.specs.Lists.{has as listed}
use Rattle.definitions.specs.Step.{rewrites}
use Rattle.rule_sets.specs.Sets.{bit_of, add_list, add_interaction, add_pair, add_eta, add_rule}
use Rattle.rule_means.specs.Collected.{first_paths, second_paths, nil_paths, value_paths, collected}
use Rattle.rule_means.specs.Adds.{Adds, adds_then, adds_as, add_adds, list_adds}

-- ---- tests

pub or_false : (a b : Bool) → b ≡ false → (a || b) ≡ a
or_false true b e = refl
or_false false b e = e

turned : (a b : Bool) → ((b || false) || (a || false)) ≡ (a || b)
turned true true = refl
turned true false = refl
turned false true = refl
turned false false = refl

behind : (a b : Bool) → (b || (a || false)) ≡ (a || b)
behind true true = refl
behind true false = refl
behind false true = refl
behind false false = refl

-- ---- two lists, three lists

module _ (r : ℕ) (few : r < 64) (sets : List ℕ) (room : 2048 ≤ length sets) where
  interaction_adds : (k : ℕ) → k < 6 → (ps : List ℕ) → Each (λ p. p < 256) ps
      → Adds r (λ p k'. (eqb k' 2 && listed ps p) || (eqb k' k && listed ps p)) sets (add_interaction sets k r (bit_of r) ps)
  unfolding add_interaction
  interaction_adds k i ps h =
      let x = list_adds k r few i ps h sets room in
      adds_then r x (list_adds 2 r few (omega arith) ps h (add_list sets k r (bit_of r) ps) (omega (arith, x.long)))

module _ (r : ℕ) (few : r < 64) (sets : List ℕ) (room : 2048 ≤ length sets) where
  pair_adds : (ps qs : List ℕ) → Each (λ p. p < 256) ps → Each (λ p. p < 256) qs
      → Adds r (λ p k. ((eqb k 2 && listed qs p) || (eqb k 1 && listed qs p)) || ((eqb k 2 && listed ps p) || (eqb k 0 && listed ps p))) sets (add_pair sets r (bit_of r) ps qs)
  unfolding add_pair
  pair_adds ps qs h g =
      let x = interaction_adds r few sets room 0 (omega arith) ps h in
      adds_then r x (interaction_adds r few (add_interaction sets 0 r (bit_of r) ps) (omega (arith, x.long)) 1 (omega arith) qs g)

  eta_adds : (cs vs ns : List ℕ) → Each (λ p. p < 256) cs → Each (λ p. p < 256) vs → Each (λ p. p < 256) ns
      → Adds r (λ p k. (eqb k 5 && listed ns p) || ((eqb k 4 && listed ns p) || ((eqb k 4 && listed vs p) || (eqb k 3 && listed cs p)))) sets (add_eta sets r (bit_of r) cs vs ns)
  unfolding add_eta
  eta_adds cs vs ns hc hv hn =
      let b = bit_of r in
      let w₁ = add_list sets 3 r b cs in
      let w₂ = add_list w₁ 4 r b vs in
      let w₃ = add_list w₂ 4 r b ns in
      let x₁ = list_adds 3 r few (omega arith) cs hc sets room in
      let x₂ = list_adds 4 r few (omega arith) vs hv w₁ (omega (arith, x₁.long)) in
      let x₃ = list_adds 4 r few (omega arith) ns hn w₂ (omega (arith, x₁.long, x₂.long)) in
      let x₄ = list_adds 5 r few (omega arith) ns hn w₃ (omega (arith, x₁.long, x₂.long, x₃.long)) in
      adds_then r (adds_then r (adds_then r x₁ x₂) x₃) x₄

-- ---- as the sets collect them

abbrev Pair : Rule → List ℕ → List ℕ → Type 0
Pair x ps qs = (first_paths x ≡ ps) × (second_paths x ≡ qs) × (rewrites x ≡ []) × (value_paths x ≡ []) × (nil_paths x ≡ [])

pair_collected : (x : Rule) (ps qs : List ℕ) → Pair x ps qs → (p k : ℕ) → k < 6
    → (((eqb k 2 && listed qs p) || (eqb k 1 && listed qs p)) || ((eqb k 2 && listed ps p) || (eqb k 0 && listed ps p))) ≡ listed (collected k x) p
unfolding collected
pair_collected x ps qs e p zero h = rw e.0
pair_collected x ps qs e p (suc zero) h = rw e.1 (or_false (listed qs p) false refl)
pair_collected x ps qs e p (suc (suc zero)) h = rw (e.0, e.1) (turned (listed ps p) (listed qs p) ∙ sym (any_append (eqb p) ps qs))
pair_collected x ps qs e p (suc (suc (suc zero))) h = rw e.2
pair_collected x ps qs e p (suc (suc (suc (suc zero)))) h = rw e.3
pair_collected x ps qs e p (suc (suc (suc (suc (suc zero))))) h = rw e.4
pair_collected x ps qs e p (suc (suc (suc (suc (suc (suc k)))))) h = absurd (omega arith)

eta_collected : (cs vs ns : List ℕ) (p k : ℕ) → k < 6
    → ((eqb k 5 && listed ns p) || ((eqb k 4 && listed ns p) || ((eqb k 4 && listed vs p) || (eqb k 3 && listed cs p)))) ≡ listed (collected k (eta cs vs ns)) p
unfolding collected first_paths second_paths rewrites value_paths nil_paths
eta_collected cs vs ns p zero h = refl
eta_collected cs vs ns p (suc zero) h = refl
eta_collected cs vs ns p (suc (suc zero)) h = refl
eta_collected cs vs ns p (suc (suc (suc zero))) h = refl
eta_collected cs vs ns p (suc (suc (suc (suc zero)))) h = behind (listed vs p) (listed ns p) ∙ sym (any_append (eqb p) vs ns)
eta_collected cs vs ns p (suc (suc (suc (suc (suc zero))))) h = or_false (listed ns p) false refl
eta_collected cs vs ns p (suc (suc (suc (suc (suc (suc k)))))) h = absurd (omega arith)

graft_collected : (q : ℕ) (lazy : Bool) (p k : ℕ) → k < 6 → (eqb k 3 && eqb p q) ≡ listed (collected k (graft q lazy)) p
unfolding collected first_paths second_paths rewrites value_paths nil_paths
graft_collected q lazy p zero h = refl
graft_collected q lazy p (suc zero) h = refl
graft_collected q lazy p (suc (suc zero)) h = refl
graft_collected q lazy p (suc (suc (suc zero))) h = sym (or_false (eqb p q) false refl)
graft_collected q lazy p (suc (suc (suc (suc zero)))) h = refl
graft_collected q lazy p (suc (suc (suc (suc (suc zero))))) h = refl
graft_collected q lazy p (suc (suc (suc (suc (suc (suc k)))))) h = absurd (omega arith)

wider : (n : ℕ) → n ≤ 256 → (ps : List ℕ) → Each (λ p. p < n) ps → Each (λ p. p < 256) ps
wider n l [] h = tt
wider n l (p ∷ ps) h = (let z = h.0 in omega arith, wider n l ps h.1)

pub rule_adds : (r n : ℕ) → r < 64 → n ≤ 256 → (x : Rule) → RuleFits n x → (sets : List ℕ) → 2048 ≤ length sets
    → Adds r (λ p k. listed (collected k x) p) sets (add_rule sets r (bit_of r) x)
unfolding add_rule first_paths second_paths rewrites value_paths nil_paths
rule_adds r n few l (graft p lazy) h sets room = adds_as r (graft_collected p lazy) (add_adds sets r p 3 room few (omega arith) (omega arith))
rule_adds r n few l (annihilate ps) h sets room =
    let w = wider n l ps h.inside in
    adds_as r (pair_collected (annihilate ps) ps ps (refl, refl, refl, refl, refl)) (pair_adds r few sets room ps ps w w)
rule_adds r n few l (erase es ns) h sets room =
    adds_as r (pair_collected (erase es ns) es ns (refl, refl, refl, refl, refl)) (pair_adds r few sets room es ns (wider n l es h.0.inside) (wider n l ns h.1.inside))
rule_adds r n few l (commute xs ys) h sets room =
    adds_as r (pair_collected (commute xs ys) xs ys (refl, refl, refl, refl, refl)) (pair_adds r few sets room xs ys (wider n l xs h.0.inside) (wider n l ys h.1.inside))
rule_adds r n few l (eta cs vs ns) h sets room =
    adds_as r (eta_collected cs vs ns) (eta_adds r few sets room cs vs ns (wider n l cs h.0.inside) (wider n l vs h.1.inside) (wider n l ns h.2.inside))
