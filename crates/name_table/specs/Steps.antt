-- One turn of each loop, in the code's terms, and its ends.
use Prim.Native.Nat.{ℕ, zero, suc, ◌+◌, ◌-◌, ◌<◌, ◌≤◌}
use Rattle.std.specs.Prelude.{◌≡◌, Bool, true, false, List, get_or, set}
use Rattle.std.proofs.Math.Path.{refl}
use Rattle.std.proofs.Common.{ap, sub-one, not-suc-le-zero}
use Rattle.words.specs.Choose.{pick_true, pick_false}
use Rattle.fields.specs.Fields.{be16}
use Rattle.stored.specs.Stored.{name_end, flat_net_end}
use Rattle.ends.specs.Ends.{within}
use Rattle.repeats.specs.declared.Item.TheVariants.{Name}
use Rattle.repeats.specs.Repeats.{size_of, search, known, insert}
use Rattle.name_table.specs.Table.{name_places, net_places, Sorted, sort_from, sorted_part, number_part, find}

module _ (s l : List ℕ) (at k : ℕ) (x : List ℕ) where
  pub names_more : (i a : ℕ) (w : List ℕ) → name_places s l at i k ≡ x → 0 < k → w ≡ set l i at → a ≡ within s (name_end s at) → name_places s w a (i + 1) (k - 1) ≡ x
  unfolding name_places
  names_more i a w e h ew ea = go k e h
    where
      go : (k : ℕ) → name_places s l at i k ≡ x → 0 < k → name_places s w a (i + 1) (k - 1) ≡ x
      go zero e h = absurd (not-suc-le-zero h)
      go (suc k) e h = rw (sub-one, ew, ea) e

  pub names_done : (i : ℕ) → name_places s l at i k ≡ x → k ≤ 0 → l ≡ x
  unfolding name_places
  names_done i e h = go k e h
    where
      go : (k : ℕ) → name_places s l at i k ≡ x → k ≤ 0 → l ≡ x
      go zero e h = e
      go (suc k) e h = absurd (not-suc-le-zero h)

  pub nets_more : (i a : ℕ) (w : List ℕ) → net_places s l at k ≡ x → 0 < k → i ≡ be16 s at → w ≡ set l i at → a ≡ within s (flat_net_end s at) → net_places s w a (k - 1) ≡ x
  unfolding net_places
  nets_more i a w e h ei ew ea = go k e h
    where
      go : (k : ℕ) → net_places s l at k ≡ x → 0 < k → net_places s w a (k - 1) ≡ x
      go zero e h = absurd (not-suc-le-zero h)
      go (suc k) e h = rw (sub-one, ew, ei, ea) e

  pub nets_done : net_places s l at k ≡ x → k ≤ 0 → l ≡ x
  unfolding net_places
  nets_done e h = go k e h
    where
      go : (k : ℕ) → net_places s l at k ≡ x → k ≤ 0 → l ≡ x
      go zero e h = e
      go (suc k) e h = absurd (not-suc-le-zero h)

-- ---- the sorted names

pub sort_more : (s names l ns w v : List ℕ) (at z p m k : ℕ) (x : Sorted) → sort_from s names (record { places = l; numbers = ns }) m k ≡ x → 0 < k
    → at ≡ get_or names m 0 → z ≡ size_of s Name at → p ≡ search s l m at z → w ≡ insert l m p at → v ≡ insert ns m p m
    → sort_from s names (record { places = w; numbers = v }) (m + 1) (k - 1) ≡ x
unfolding sort_from
sort_more s names l ns w v at z p m zero x e h ea ez ep ew ev = absurd (not-suc-le-zero h)
sort_more s names l ns w v at z p m (suc k) x e h ea ez ep ew ev = rw (sub-one, ew, ev, ep, ez, ea) e

pub sort_done : (s names l ns : List ℕ) (m k : ℕ) (x : Sorted) → sort_from s names (record { places = l; numbers = ns }) m k ≡ x → k ≤ 0
    → record { places = l; numbers = ns } ≡ x
unfolding sort_from
sort_done s names l ns m zero x e h = e
sort_done s names l ns m (suc k) x e h = absurd (not-suc-le-zero h)

pub parts : (s names l ns : List ℕ) (n : ℕ) {w v : List ℕ} → ◌≡◌ {A = Sorted} (record { places = w; numbers = v }) (sort_from s names (record { places = l; numbers = ns }) 0 n)
    → (w ≡ sorted_part s names l ns n) × (v ≡ number_part s names l ns n)
unfolding sorted_part number_part
parts s names l ns n e = (ap (λ t. t.places) e, ap (λ t. t.numbers) e)

-- ---- the search

module _ (s l ns : List ℕ) (m at z p : ℕ) (t : Bool) (ez : z ≡ size_of s Name at) (ep : p ≡ search s l m at z) (et : t ≡ known s l m p at z) where
  pub find_there : (r : ℕ) → t ≡ true → r ≡ get_or ns p 0 → r ≡ find s l ns m at
  unfolding find
  find_there r h e = pick_true _ _ _ (rw (← ez, ← ep, ← et) h) (rw (← ez, ← ep) e)

  pub find_none : t ≡ false → 1024 ≡ find s l ns m at
  unfolding find
  find_none h = pick_false _ _ _ (rw (← ez, ← ep, ← et) h) refl
