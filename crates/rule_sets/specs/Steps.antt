-- What each function leaves on each way out, and one turn of each loop, in the code's terms.
use Rattle.std.specs.Prelude.{◌≡◌, ℕ, zero, suc, ◌+◌, ◌-◌, ◌*◌, ◌%◌, ◌^◌, ◌<◌, ◌≤◌, Bool, true, false, List, ◌≢◌, slice_set}
use Rattle.std.proofs.Math.Path.{refl}
use Rattle.std.proofs.Common.{sym, ap, ◌∙◌, arith, sub-one, not-suc-le-zero, pow-add}
use Rattle.words.specs.Choose.{pick_true, pick_false}
use Rattle.fields.specs.Fields.{byte, be16}
use Rattle.stored.specs.Stored.{table_at, numbers_at, list_at, list_end, rule_of, rule_end, rule_count_at}
use Rattle.ends.specs.Ends.{within, on}
use Rattle.readers.specs.Places.{be16_clamped}
use Rattle.rule_sets.specs.Sets.{set_of, has, bit_of, add, add_list, add_interaction, add_pair, add_eta, add_rule, tagged, rule_here, add_rules, rule_sets}
use Rattle.rule_sets.specs.Places.{numbers_within, list_at_lem, list_next, tagged_within}

-- ---- one path

module _ (sets : List ℕ) (p k r b x : ℕ) (t : Bool) (ex : x ≡ set_of sets p k) (et : t ≡ has x r) where
  pub add_known : t ≡ true → sets ≡ add sets p k r b
  unfolding add
  add_known i = pick_true _ _ _ (rw (← ex) (sym et ∙ i)) refl

  pub add_new : (v : ℕ) (w : List ℕ) → t ≡ false → v ≡ (x + b) % 2 ^ 64 → w ≡ slice_set sets (8 * p + k) v → w ≡ add sets p k r b
  unfolding add
  add_new v w i ev ew = pick_false _ _ _ (rw (← ex) (sym et ∙ i)) (rw (← ex, ← ev) ew)

-- ---- the paths of a list

pub list_start : (s sets : List ℕ) (at k r b p n : ℕ) → n ≡ byte s at → p ≡ on s at 1 → add_list sets k r b (numbers_at s p n) ≡ add_list sets k r b (list_at s at)
unfolding list_at
list_start s sets at k r b p n en ep = rw (en, ep, numbers_within s (at + 1) (byte s at))

pub list_more : (s sets w : List ℕ) (k r b p q n v : ℕ) (x : List ℕ) → add_list sets k r b (numbers_at s p n) ≡ x → 0 < n → v ≡ be16 s p → w ≡ add sets v k r b → q ≡ on s p 2
    → add_list w k r b (numbers_at s q (n - 1)) ≡ x
unfolding numbers_at table_at add_list
list_more s sets w k r b p q zero v x e h ev ew eq = absurd (not-suc-le-zero h)
list_more s sets w k r b p q (suc n) v x e h ev ew eq = rw (sub-one, ew, ev, eq, numbers_within s (p + 2) n) e

pub list_done : (s sets : List ℕ) (k r b p n : ℕ) (x : List ℕ) → add_list sets k r b (numbers_at s p n) ≡ x → n ≤ 0 → sets ≡ x
unfolding numbers_at table_at add_list
list_done s sets k r b p zero x e h = e
list_done s sets k r b p (suc n) x e h = absurd (not-suc-le-zero h)

-- ---- the lists of a rule

pub pair_is : (s sets w x : List ℕ) (at r b a : ℕ) → w ≡ add_interaction sets 0 r b (list_at s at) → a ≡ within s (list_end s at)
    → x ≡ add_interaction w 1 r b (list_at s a) → x ≡ add_pair sets r b (list_at s at) (list_at s (list_end s at))
unfolding add_pair
pair_is s sets w x at r b a ew ea ex = ex ∙ rw (ew, list_at_lem s (list_end s at) a ea)

pub eta_is : (s sets w1 w2 w3 w4 : List ℕ) (at r b vs ns : ℕ) → vs ≡ within s (list_end s at) → ns ≡ within s (list_end s vs)
    → w1 ≡ add_list sets 3 r b (list_at s at) → w2 ≡ add_list w1 4 r b (list_at s vs) → w3 ≡ add_list w2 4 r b (list_at s ns) → w4 ≡ add_list w3 5 r b (list_at s ns)
    → w4 ≡ add_eta sets r b (list_at s at) (list_at s (list_end s at)) (list_at s (list_end s (list_end s at)))
unfolding add_eta
eta_is s sets w1 w2 w3 w4 at r b vs ns ev en e1 e2 e3 e4 =
    e4 ∙ rw (e3, e2, e1, list_next s at vs ns ev en, list_at_lem s (list_end s at) vs ev)

-- ---- a rule by its tag

module _ (s sets w : List ℕ) (at r b tag f : ℕ) (et : tag ≡ byte s at) (ef : f ≡ on s at 1) where
  here : tagged s tag f ≡ rule_here s at
  unfolding rule_here
  here = rw (ef, et, tagged_within s (byte s at) (at + 1))

  pub rule_graft : (v : ℕ) → tag ≡ 1 → v ≡ be16 s f → w ≡ add sets v 3 r b → w ≡ add_rule sets r b (rule_here s at)
  unfolding add_rule tagged rule_of
  rule_graft v i ev ew = rw (← here, i, ← ev) ew

  pub rule_annihilate : (v : List ℕ) → tag ≡ 2 → v ≡ add_interaction sets 0 r b (list_at s f) → w ≡ add_interaction v 1 r b (list_at s f)
      → w ≡ add_rule sets r b (rule_here s at)
  unfolding add_rule add_pair tagged rule_of
  rule_annihilate v i ev ew = rw (← here, i, ← ev) ew

  pub rule_erase : tag ≡ 3 → w ≡ add_pair sets r b (list_at s f) (list_at s (list_end s f)) → w ≡ add_rule sets r b (rule_here s at)
  unfolding add_rule tagged rule_of
  rule_erase i ew = rw (← here, i) ew

  pub rule_commute : tag ≡ 4 → w ≡ add_pair sets r b (list_at s f) (list_at s (list_end s f)) → w ≡ add_rule sets r b (rule_here s at)
  unfolding add_rule tagged rule_of
  rule_commute i ew = rw (← here, i) ew

three_lists : (s : List ℕ) (tag at : ℕ) (sets : List ℕ) (r b : ℕ) → (tag ≢ 1) → (tag ≢ 2) → (tag ≢ 3) → (tag ≢ 4)
    → add_eta sets r b (list_at s at) (list_at s (list_end s at)) (list_at s (list_end s (list_end s at))) ≡ add_rule sets r b (tagged s tag at)
unfolding add_rule tagged rule_of
three_lists s zero at sets r b n1 n2 n3 n4 = refl
three_lists s (suc zero) at sets r b n1 n2 n3 n4 = absurd (n1 refl)
three_lists s (suc (suc zero)) at sets r b n1 n2 n3 n4 = absurd (n2 refl)
three_lists s (suc (suc (suc zero))) at sets r b n1 n2 n3 n4 = absurd (n3 refl)
three_lists s (suc (suc (suc (suc zero)))) at sets r b n1 n2 n3 n4 = absurd (n4 refl)
three_lists s (suc (suc (suc (suc (suc n))))) at sets r b n1 n2 n3 n4 = refl

pub rule_eta : (s sets w : List ℕ) (at r b tag f : ℕ) → tag ≡ byte s at → f ≡ on s at 1 → (tag ≢ 1) → (tag ≢ 2) → (tag ≢ 3) → (tag ≢ 4)
    → w ≡ add_eta sets r b (list_at s f) (list_at s (list_end s f)) (list_at s (list_end s (list_end s f))) → w ≡ add_rule sets r b (rule_here s at)
rule_eta s sets w at r b tag f et ef n1 n2 n3 n4 ew =
    ew ∙ three_lists s tag f sets r b n1 n2 n3 n4 ∙ ap (add_rule sets r b) (here s sets w at r b tag f et ef)

-- ---- all rules

-- the next bit; past the 64th it is 0
pub bit_next : (r b c : ℕ) → b ≡ bit_of r → c ≡ (b + b) % 2 ^ 64 → c ≡ bit_of (r + 1)
unfolding bit_of
bit_next r b c eb ec = let d : 2 ^ (r + 1) ≡ 2 ^ r * 2 = pow-add 2 r 1 in omega arith

pub rules_more : (s sets v w : List ℕ) (at a r b n : ℕ) (x : List ℕ) → add_rules s at r n sets ≡ x → b ≡ bit_of r → 0 < n → v ≡ slice_set sets (2048 + r) at
    → w ≡ add_rule v r b (rule_here s at) → a ≡ within s (rule_end s at) → add_rules s a (r + 1) (n - 1) w ≡ x
unfolding add_rules
rules_more s sets v w at a r b zero x e eb h ev ew ea = absurd (not-suc-le-zero h)
rules_more s sets v w at a r b (suc n) x e eb h ev ew ea = rw (sub-one, ea, ew, ev, eb) e

pub rules_done : (s sets : List ℕ) (at r n : ℕ) (x : List ℕ) → add_rules s at r n sets ≡ x → n ≤ 0 → sets ≡ x
unfolding add_rules
rules_done s sets at r zero x e h = e
rules_done s sets at r (suc n) x e h = absurd (not-suc-le-zero h)

pub built : (s sets w : List ℕ) (at f n : ℕ) → at ≡ within s (rule_count_at s) → f ≡ on s at 2 → n ≡ be16 s at → w ≡ add_rules s f 0 n sets → w ≡ rule_sets s sets
unfolding rule_sets
built s sets w at f n ea ef en ew =
    let d : f ≡ within s (rule_count_at s + 2) = omega arith in
    let m : n ≡ be16 s (rule_count_at s) = be16_clamped s (rule_count_at s) at n ea en in
    ew ∙ rw (d, m)
