-- Places 1 to `used` of a pool and their marks: how many are marked, and that all are where as many are as there are places.
use Prim.Native.Nat.{ℕ, zero, suc, ◌+◌, ◌<◌, ◌≤◌}
use Rattle.std.specs.Prelude.{◌≡◌, ◌≢◌, ◌⊎◌, Bool, true, false, ◌&&◌, List, length, get_or, set, eqb}
use Rattle.std.proofs.Math.Path.{refl, ap}
use Rattle.std.proofs.Common.{sym, ◌∙◌, subst, inl, inr, length-set, get_or-set_same, get_or-set_other}
use Rattle.std.proofs.lemmas.Bool.{false≢true}
use native.Mathlib.Omega.{arith}
use Rattle.std.proofs.Math.Decide.{ℕ_discrete}
use Rattle.net_file.specs.Lists.{bit}
use Rattle.dirty_laws.specs.Tests.{bit_most}
use Rattle.dirty_laws.specs.Tally.{tally, tally_most, tally_none, tally_at}
use Rattle.image_means.specs.Meets.{on, on_same, on_other}

pub on_keeps : (f : ℕ → Bool) (c d : ℕ) → f d ≡ true → on f c d ≡ true
on_keeps f c d h = go (eqb d c)
  where
    go : (t : Bool) → elim t as (λ _. Bool) [ true ↦ true | false ↦ f d ] ≡ true
    go true = refl
    go false = h

pub on_only : (f : ℕ → Bool) (c d : ℕ) → on f c d ≡ true → (f d ≡ true) ⊎ (d ≡ c)
on_only f c d h = go (ℕ_discrete d c)
  where
    go : Dec (d ≡ c) → (f d ≡ true) ⊎ (d ≡ c)
    go (yes e) = inr e
    go (no n) = inl (sym (on_other f c d n) ∙ h)

-- place c is marked at base + c
pub record Marked (used base : ℕ) (marks : List ℕ) (count : ℕ) : Type 0 where
  pub has : ℕ → Bool
  pub marked : (c : ℕ) → 0 < c → c ≤ used → get_or marks (base + c) 0 ≡ bit (has c)
  pub counted : count ≡ tally (λ i. has (suc i)) used
  pub room : base + used < length marks

-- all of N numbers, where N are counted
pub tally_full : (f : ℕ → Bool) (N : ℕ) → tally f N ≡ N → (i : ℕ) → i < N → f i ≡ true
tally_full f zero e i l = absurd (omega arith)
tally_full f (suc n) e i l =
    let b = bit_most (f n) in
    let c = tally_most f n in
    go (f n) refl (ℕ_discrete i n) (λ h. tally_full f n h i)
  where
    go : (t : Bool) → f n ≡ t → Dec (i ≡ n) → (tally f n ≡ n → i < n → f i ≡ true) → f i ≡ true
    go true y (yes s) ih = ap f s ∙ y
    go true y (no d) ih = let z : bit (f n) ≡ 1 = ap bit y in ih (omega arith) (omega arith)
    go false y d ih = absurd (let z : bit (f n) ≡ 0 = ap bit y in let c = tally_most f n in omega arith)

module _ {used base : ℕ} where
  -- none is marked
  abbrev pub none_marked : (marks : List ℕ) → base + used < length marks → ((c : ℕ) → 0 < c → c ≤ used → get_or marks (base + c) 0 ≡ 0) → Marked used base marks 0
  none_marked marks r h = record { has = λ _. false; marked = h; counted = sym (tally_none (λ _. false) used (λ i l. refl)); room = r }

  -- one more is
  pub mark_place : {marks : List ℕ} {count : ℕ} (k : Marked used base marks count) (c : ℕ) → 0 < c → c ≤ used → k.has c ≡ false
      → Marked used base (set marks (base + c) 1) (count + 1)
  mark_place {marks} {count} k zero p l z = absurd (omega arith)
  mark_place {marks} {count} k (suc c) p l z = record {
    has = on k.has (suc c);
    marked = λ d q i. mark d q i (ℕ_discrete d (suc c));
    counted =
        let a = tally_at (λ i. k.has (suc i)) (λ i. on k.has (suc c) (suc i)) c used (omega arith) (λ i d. on_other k.has (suc c) (suc i) (omega arith)) in
        let f : bit (k.has (suc c)) ≡ 0 = ap bit z in
        let g : bit (on k.has (suc c) (suc c)) ≡ 1 = ap bit (on_same k.has (suc c)) in
        let e = k.counted in
        omega arith;
    room = let e = length-set marks (base + suc c) 1 in let r = k.room in omega arith;
  }
    where
      mark : (d : ℕ) → 0 < d → d ≤ used → Dec (d ≡ suc c) → get_or (set marks (base + suc c) 1) (base + d) 0 ≡ bit (on k.has (suc c) d)
      mark d q i (yes s) = let r = k.room in rw s (get_or-set_same marks (base + suc c) 1 0 (omega arith) ∙ sym (ap bit (on_same k.has (suc c))))
      mark d q i (no n) = get_or-set_other marks (base + suc c) (base + d) 1 0 (omega arith) ∙ k.marked d q i ∙ sym (ap bit (on_other k.has (suc c) d n))

  pub mark_has : {marks : List ℕ} {count : ℕ} (k : Marked used base marks count) (c : ℕ) (p : 0 < c) (l : c ≤ used) (z : k.has c ≡ false) (d : ℕ) → (mark_place k c p l z).has d ≡ on k.has c d
  unfolding mark_place
  mark_has k zero p l z d = absurd (omega arith)
  mark_has k (suc c) p l z d = refl

  -- of those that pass a test, one more if it does
  pub mark_tally : {marks : List ℕ} {count : ℕ} (k : Marked used base marks count) (c : ℕ) (p : 0 < c) (l : c ≤ used) (z : k.has c ≡ false) (f : ℕ → Bool)
      → tally (λ i. (mark_place k c p l z).has (suc i) && f (suc i)) used ≡ tally (λ i. k.has (suc i) && f (suc i)) used + bit (f c)
  unfolding mark_place
  mark_tally k zero p l z f = absurd (omega arith)
  mark_tally k (suc c) p l z f =
      let a = tally_at (λ i. k.has (suc i) && f (suc i)) (λ i. on k.has (suc c) (suc i) && f (suc i)) c used (omega arith)
      (λ i d. ap (λ (t : Bool). t && f (suc i)) (on_other k.has (suc c) (suc i) (omega arith))) in
      let g : bit (k.has (suc c) && f (suc c)) ≡ 0 = ap (λ (t : Bool). bit (t && f (suc c))) z in
      let h : bit (on k.has (suc c) (suc c) && f (suc c)) ≡ bit (f (suc c)) = ap (λ (t : Bool). bit (t && f (suc c))) (on_same k.has (suc c)) in
      omega arith

  -- the same number in other words
  abbrev pub recount : {marks : List ℕ} {count : ℕ} → Marked used base marks count → (n : ℕ) → n ≡ count → Marked used base marks n
  recount k n e = record { has = k.has; marked = k.marked; counted = e ∙ k.counted; room = k.room }

  -- marks elsewhere
  abbrev pub places_keep : {marks : List ℕ} {count : ℕ} → Marked used base marks count → (w : List ℕ) → length w ≡ length marks
      → ((c : ℕ) → 0 < c → c ≤ used → get_or w (base + c) 0 ≡ get_or marks (base + c) 0) → Marked used base w count
  places_keep k w e h = record { has = k.has; marked = λ c p l. h c p l ∙ k.marked c p l; counted = k.counted; room = let r = k.room in omega arith }

  -- as many as there are
  pub all_places : {marks : List ℕ} (k : Marked used base marks used) → (c : ℕ) → 0 < c → c ≤ used → k.has c ≡ true
  all_places k zero p l = absurd (omega arith)
  all_places k (suc c) p l = tally_full (λ i. k.has (suc i)) used (sym k.counted) c (omega arith)
