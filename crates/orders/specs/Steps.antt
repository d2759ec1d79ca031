-- Each way out of the loops of check 6.
use Prim.Native.Nat.{ℕ, zero, suc, ◌+◌, ◌*◌, ◌-◌, ◌<◌, ◌≤◌}
use Rattle.std.specs.Prelude.{◌≡◌, Bool, List, length, get_or, replicate, leb, ltb}
use Rattle.std.proofs.Math.Path.{refl, ap}
use Rattle.std.proofs.Common.{sym, ◌∙◌, sub-one, not-suc-le-zero}
use Rattle.std.proofs.Math.Bool.{true, false}
use Rattle.words.specs.Choose.{pick, lt_yes, lt_no, pick_true, pick_false}
use Rattle.words.specs.Left.{Left, whole}
use Rattle.fields.specs.Fields.{be16}
use Rattle.stored.specs.Stored.{table_at, pair_at, pairs_at, pair_count_at, flat_net_end}
use Rattle.ends.specs.Ends.{within, on, next_net, next_is}
use Rattle.wiring.specs.Wiring.{pair_run, net_pairs}
use Rattle.wiring.specs.Fits.{fits}
use Rattle.orders.specs.Orders.{marked, mark, pair_fits, pair_step, pairs_from, name_fits, net_ordered, told, nets_from, nets_wide, nets_ordered}
use Rattle.wiring.specs.Tells.{by_told, by_tests}
use Rattle.wiring.specs.declared.Told.{Told}
use Rattle.wiring.specs.declared.Told.TheVariants.{Well, Not, Wide}
use Rattle.orders.specs.declared.Rest.{Rest}

-- ---- one pair

pub marked_is : (counts : List ℕ) (base w c : ℕ) → c ≡ get_or counts w 0 → ltb base c ≡ marked counts base w
unfolding marked
marked_is counts base w c e = ap (ltb base) e

module _ (counts : List ℕ) (base last a b : ℕ) (t : Bool) (et : t ≡ pair_fits counts base last a b) where
  pub step_yes : (c d : List ℕ) → t ≡ true → c ≡ mark counts base a → d ≡ mark c base b → record { is = true; ws = d } ≡ pair_step counts base last a b
  unfolding pair_step pick
  step_yes c d y ec ed = rw (← et, y, ed, ec)

  pub step_no : t ≡ false → record { is = false; ws = counts } ≡ pair_step counts base last a b
  unfolding pair_step pick
  step_no y = rw (← et, y)

-- ---- pairs

module _ (s counts : List ℕ) (base from n : ℕ) where
  pub pairs_none : length s < from + 4 * n → record { is = true; ws = counts } ≡ pairs_from counts base 0 (pair_run s from n)
  unfolding pair_run pairs_from
  pairs_none h = ap (pairs_from counts base 0) (lt_yes _ _ _ _ h refl)

  pub pairs_start : from + 4 * n ≤ length s → pairs_from counts base 0 (pairs_at s from n) ≡ pairs_from counts base 0 (pair_run s from n)
  unfolding pair_run
  pairs_start h = ap (pairs_from counts base 0) (lt_no _ _ _ _ h refl)

module _ (s counts c : List ℕ) (base last at a b : ℕ) (x : Left Bool) (t : Bool) where
  pub pairs_more : (k : ℕ) → pairs_from counts base last (pairs_at s at k) ≡ x → 0 < k → a ≡ be16 s at → b ≡ be16 s (at + 2)
      → t ≡ (pair_step counts base last a b).is → c ≡ (pair_step counts base last a b).ws → t ≡ true → pairs_from c base (a + 1) (pairs_at s (at + 4) (k - 1)) ≡ x
  unfolding pairs_at table_at pair_at pairs_from pick
  pairs_more zero g h ea eb et ec y = absurd (not-suc-le-zero h)
  pairs_more (suc k) g h ea eb et ec y =
      let w : (pair_step counts base last (be16 s at) (be16 s (at + 2))).is ≡ true = rw (ea, eb) at (sym et) ∙ y in
      rw (sub-one, ec, ea, eb) (rw w at g)

  pub pairs_no : (k : ℕ) → pairs_from counts base last (pairs_at s at k) ≡ x → 0 < k → a ≡ be16 s at → b ≡ be16 s (at + 2)
      → t ≡ (pair_step counts base last a b).is → c ≡ (pair_step counts base last a b).ws → t ≡ false → record { is = false; ws = c } ≡ x
  unfolding pairs_at table_at pair_at pairs_from pick
  pairs_no zero g h ea eb et ec y = absurd (not-suc-le-zero h)
  pairs_no (suc k) g h ea eb et ec y =
      let w : (pair_step counts base last (be16 s at) (be16 s (at + 2))).is ≡ false = rw (ea, eb) at (sym et) ∙ y in
      rw (ec, ea, eb) (rw w at g)

pub pairs_done : (s counts : List ℕ) (base last at k : ℕ) (x : Left Bool) → pairs_from counts base last (pairs_at s at k) ≡ x → k ≤ 0 → record { is = true; ws = counts } ≡ x
unfolding pairs_at table_at pairs_from
pairs_done s counts base last at zero x g h = g
pairs_done s counts base last at (suc k) x g h = absurd (not-suc-le-zero h)

-- ---- a net

pub pairs_are : (s counts c : List ℕ) (base at p k f : ℕ) (t : Bool) → p ≡ within s (pair_count_at s at) → k ≡ be16 s p → f ≡ on s p 2
    → t ≡ (pairs_from counts base 0 (pair_run s f k)).is → c ≡ (pairs_from counts base 0 (pair_run s f k)).ws
    → record { is = t; ws = c } ≡ pairs_from counts base 0 (net_pairs s at)
unfolding net_pairs
pairs_are s counts c base at p k f t ep ek ef et ec = rw (ef, ek, ep) at (whole (pairs_from counts base 0 (pair_run s f k)) et ec)

pub name_is : (s : List ℕ) (at last m : ℕ) → m ≡ be16 s at → leb last m ≡ name_fits s at last
unfolding name_fits
name_is s at last m e = ap (leb last) e

module _ (s counts : List ℕ) (base last at : ℕ) (t : Bool) (et : t ≡ name_fits s at last) where
  pub name_no : t ≡ false → record { is = false; ws = counts } ≡ net_ordered counts base last s at
  unfolding net_ordered pick
  name_no y = rw (← et, y)

  pub name_yes : (c : List ℕ) (r : Bool) → t ≡ true → r ≡ (pairs_from counts base 0 (net_pairs s at)).is → c ≡ (pairs_from counts base 0 (net_pairs s at)).ws
      → record { is = r; ws = c } ≡ net_ordered counts base last s at
  unfolding net_ordered pick
  name_yes c r y er ec = rw (← et, y) (whole (pairs_from counts base 0 (net_pairs s at)) er ec)

-- ---- nets

pub nets_zero : (wide : ℕ → ℕ → ℕ → Bool) (counts : List ℕ) (base last : ℕ) (s : List ℕ) (at : ℕ) → nets_from wide counts base last s at 0 ≡ true
unfolding nets_from told by_told
nets_zero wide counts base last s at = refl

pub nets_suc : (wide : ℕ → ℕ → ℕ → Bool) (counts : List ℕ) (base last : ℕ) (s : List ℕ) (at n : ℕ)
    → nets_from wide counts base last s at (suc n)
    ≡ pick (fits counts s at) (pick (net_ordered counts base last s at).is (nets_from wide (net_ordered counts base last s at).ws (base + 4) (be16 s at + 1) s (within s (flat_net_end s at)) n) false)
    (wide last at (suc n))
unfolding nets_from told
nets_suc wide counts base last s at n = by_tests (λ r. wide r.last r.at r.left) (fits counts s at) (net_ordered counts base last s at).is _ (net_ordered counts base last s at).ws counts (record { last = last; at = at; left = suc n })

module _ (s counts : List ℕ) (base last at : ℕ) (x : Left (Told Rest)) (f : Bool) (ef : f ≡ fits counts s at) where
  -- a net that does not fit
  pub told_unfit : (k : ℕ) → told counts base last s at k ≡ x → 0 < k → f ≡ false → record { is = Wide (record { last = last; at = at; left = k }); ws = counts } ≡ x
  unfolding told
  told_unfit zero g h n = absurd (not-suc-le-zero h)
  told_unfit (suc k) g h n = pick_false _ _ _ (sym ef ∙ n) refl ∙ g

  module _ (c : List ℕ) (t : Bool) (y : f ≡ true) (et : t ≡ (net_ordered counts base last s at).is) (ec : c ≡ (net_ordered counts base last s at).ws) where
    pub told_more : (a m k : ℕ) → told counts base last s at k ≡ x → 0 < k → t ≡ true → m ≡ be16 s at + 1 → a ≡ next_net s at k
        → told c (base + 4) m s a (k - 1) ≡ x
    unfolding told
    told_more a m zero g h z em ea = absurd (not-suc-le-zero h)
    told_more a m (suc zero) g h z em ea = rw ec (pick_true _ _ _ (sym ef ∙ y) (pick_true _ _ _ (sym et ∙ z) refl) ∙ g)
    told_more a m (suc (suc k)) g h z em ea = rw (sub-one, ec, em, next_is s at a k ea) (pick_true _ _ _ (sym ef ∙ y) (pick_true _ _ _ (sym et ∙ z) refl) ∙ g)

    pub told_not : (k : ℕ) → told counts base last s at k ≡ x → 0 < k → t ≡ false → record { is = Not; ws = c } ≡ x
    unfolding told
    told_not zero g h z = absurd (not-suc-le-zero h)
    told_not (suc k) g h z = rw ec (pick_true _ _ _ (sym ef ∙ y) (pick_false _ _ _ (sym et ∙ z) refl) ∙ g)

pub told_done : (s counts : List ℕ) (base last at k : ℕ) (x : Left (Told Rest)) → told counts base last s at k ≡ x → k ≤ 0 → record { is = Well; ws = counts } ≡ x
unfolding told
told_done s counts base last at zero x g h = g
told_done s counts base last at (suc k) x g h = absurd (not-suc-le-zero h)

module _ (s : List ℕ) (at n : ℕ) where
  pub wide_over : (last : ℕ) → 256 < n → false ≡ nets_wide s last at n
  unfolding nets_wide
  wide_over last h = lt_yes _ _ _ _ h refl

  pub wide_start : (last : ℕ) → n ≤ 256 → nets_from (λ l a k. false) (replicate 65536 0) 0 last s at n ≡ nets_wide s last at n
  unfolding nets_wide
  wide_start last h = lt_no _ _ _ _ h refl

  pub nets_over : 256 < n → false ≡ nets_ordered s at n
  unfolding nets_ordered
  nets_over h = lt_yes _ _ _ _ h refl

  pub nets_start : n ≤ 256 → nets_from (nets_wide s) (replicate 1024 0) 0 0 s at n ≡ nets_ordered s at n
  unfolding nets_ordered
  nets_start h = lt_no _ _ _ _ h refl

-- ---- with 65,536 words, and with 1,024

none_well : (r : Told Rest) → (r ≡ Well → ⊥) → by_told (λ r. false) r ≡ false
unfolding by_told
none_well Well e = absurd (e refl)
none_well Not e = refl
none_well (Wide q) e = refl

module _ (s : List ℕ) (last at n : ℕ) (r : Told Rest) (h : n ≤ 256) (er : r ≡ (told (replicate 65536 0) 0 last s at n).is) where
  wide_is : by_told (λ r. false) r ≡ nets_wide s last at n
  unfolding nets_from
  wide_is = rw (← er) at (wide_start s at n last h)

  pub wide_well : r ≡ Well → true ≡ nets_wide s last at n
  unfolding by_told
  wide_well e = rw e at wide_is

  pub wide_rest : (r ≡ Well → ⊥) → false ≡ nets_wide s last at n
  wide_rest e = sym (none_well r e) ∙ wide_is

module _ (s : List ℕ) (at n : ℕ) (r : Told Rest) (h : n ≤ 256) (er : r ≡ (told (replicate 1024 0) 0 0 s at n).is) where
  ordered_is : by_told (λ r. nets_wide s r.last r.at r.left) r ≡ nets_ordered s at n
  unfolding nets_from
  ordered_is = rw (← er) at (nets_start s at n h)

  pub nets_all : r ≡ Well → true ≡ nets_ordered s at n
  unfolding by_told
  nets_all e = rw e at ordered_is

  pub nets_not : r ≡ Not → false ≡ nets_ordered s at n
  unfolding by_told
  nets_not e = rw e at ordered_is

  pub nets_wide_lem : (q : Rest) (b : Bool) → r ≡ Wide q → b ≡ nets_wide s q.last q.at q.left → b ≡ nets_ordered s at n
  unfolding by_told
  nets_wide_lem q b e eb = eb ∙ rw e at ordered_is
