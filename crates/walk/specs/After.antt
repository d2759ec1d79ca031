-- The place after what a parser reads at a place of s: what every walk answers, and the laws by which a walk goes on or stops.
use Rattle.std.specs.Prelude.{ℕ, ◌-◌, ◌<◌, ◌≤◌, ◌≡◌, Bool, true, false, drop, Option, Some, None}
use Rattle.std.proofs.Math.Path.{refl, sym, ap}
use Rattle.std.proofs.Common.{◌∙◌}
use Rattle.std.proofs.Math.Option.{Option as Parsed, none, some}
use Rattle.std.proofs.lemmas.Option.{none-some, same_Some}
use mathlib.Core.List.{List}
use native.Mathlib.Omega.{arith}
use Rattle.std.proofs.Math.Decide.{dec_lt}
use Rattle.std.proofs.Math.ListN.{length, length-drop}
use Rattle.words.specs.Choose.{if_lt, lt_yes, lt_no}
use Rattle.net_file.specs.Read.{Parser, then, ◌>>=◌, give, such}
use Rattle.stored.specs.Laws.{Stands}

-- the place where the bytes that are left begin
unfoldable pub place : {A : Type 0} → List ℕ → Parsed (A × List ℕ) → Option ℕ
place s none = None
place s (some r) = Some (length s - length r.1)

-- what p, at the place `at` of s, comes to; a place past the end has nothing to read
unfoldable pub after : {A : Type 0} → ℕ → Parser A → List ℕ → Option ℕ
after at p s = if_lt (length s) at None (place s (p (drop at s)))

module _ {A : Type 0} (p : Parser A) (s : List ℕ) (at : ℕ) where
  pub after_past : length s < at → None ≡ after at p s
  unfolding after
  after_past h = lt_yes _ _ _ _ h refl

  after_in : at ≤ length s → after at p s ≡ place s (p (drop at s))
  unfolding after
  after_in h = sym (lt_no _ _ _ _ h refl)

  pub after_none : at ≤ length s → p (drop at s) ≡ none → None ≡ after at p s
  unfolding place
  after_none h e = sym (after_in h ∙ rw e)

  pub after_some : (v : A) (e : ℕ) → at ≤ length s → p (drop at s) ≡ some (v, drop e s) → e ≤ length s → Some e ≡ after at p s
  unfolding place
  after_some v e h g i = let d : length s - (length s - e) ≡ e = omega arith in sym (after_in h ∙ rw (g, length-drop, d))

-- a walk that came to nothing: the parser has nothing to read there
pub refused : {A : Type 0} (p : Parser A) (s : List ℕ) (at : ℕ) (w : Option ℕ) → w ≡ after at p s → w ≡ None → at ≤ length s → p (drop at s) ≡ none
unfolding place
refused {A} p s at w ew eb i = go (p (drop at s)) refl
  where
    go : (o : Parsed (A × List ℕ)) → p (drop at s) ≡ o → p (drop at s) ≡ none
    go none g = g
    go (some q) g = absurd (none-some (length s - length q.1) (sym eb ∙ ew ∙ after_in p s at i ∙ rw g))

-- what a walk that came to e says
pub record Went {A : Type 0} (p : Parser A) (s : List ℕ) (at : ℕ) (v : A) (e' e : ℕ) : Type 0 where
  pub is : e' ≡ e
  pub from : at ≤ length s
  pub within : e ≤ length s
  pub read : p (drop at s) ≡ some (v, drop e s)

module _ {A : Type 0} {p : Parser A} {s : List ℕ} {at : ℕ} {v : A} {e : ℕ} where
  pub went : (w : Option ℕ) (e' : ℕ) → Stands s p at v e → w ≡ after at p s → w ≡ Some e' → Went p s at v e' e
  went w e' h ew ea = elim (dec_lt (length s) at) [
    | yes l ↦ absurd (none-some e' (after_past p s at l ∙ sym ew ∙ ea))
    | no l ↦ go (p (drop at s)) refl (omega arith)
  ]
    where
      go : (o : Parsed (A × List ℕ)) → p (drop at s) ≡ o → at ≤ length s → Went p s at v e' e
      go none g i = absurd (none-some e' (after_none p s at i g ∙ sym ew ∙ ea))
      go (some q) g i =
          let y = h.by q.0 q.1 i g in
          let r : p (drop at s) ≡ some (v, drop e s) = g ∙ rw (y.0, y.1) in
          record { is = same_Some e' e (sym ea ∙ ew ∙ sym (after_some p s at v e i r y.3)); from = i; within = y.3; read = r }

-- no walk comes past the end
pub after_within : {A : Type 0} (p : Parser A) (s : List ℕ) (at e : ℕ) (w : Option ℕ) → w ≡ after at p s → w ≡ Some e → e ≤ length s
unfolding place
after_within {A} p s at e w ew ea = elim (dec_lt (length s) at) [
  | yes l ↦ absurd (none-some e (after_past p s at l ∙ sym ew ∙ ea))
  | no l ↦ go (p (drop at s)) (sym ea ∙ ew ∙ after_in p s at (omega arith))
]
  where
    go : (o : Parsed (A × List ℕ)) → Some e ≡ place s o → e ≤ length s
    go none g = absurd (none-some e (sym g))
    go (some q) g = omega (arith, same_Some e (length s - length q.1) g)

-- ---- one part, then the rest

module _ {A B : Type 0} (p : Parser A) (f : A → Parser B) (s : List ℕ) (at : ℕ) where
  pub after_bind : (v : A) (m : ℕ) → at ≤ length s → p (drop at s) ≡ some (v, drop m s) → m ≤ length s → after at (p >>= f) s ≡ after m (f v) s
  after_bind v m h g i = after_in (p >>= f) s at h ∙ ap (λ o. place s (then o f)) g ∙ sym (after_in (f v) s m i)

  pub after_stop : at ≤ length s → p (drop at s) ≡ none → None ≡ after at (p >>= f) s
  after_stop h g = after_none (p >>= f) s at h (ap (λ o. then o f) g)

  -- the same from what a walk over the first part answered
  pub after_go : (v : A) (m m' : ℕ) (w : Option ℕ) → Stands s p at v m → w ≡ after at p s → w ≡ Some m' → after at (p >>= f) s ≡ after m' (f v) s
  after_go v m m' w h ew ea =
      let y = went w m' h ew ea in
      after_bind v m y.from y.read y.within ∙ ap (λ n. after n (f v) s) (sym y.is)

  pub after_bad : (w : Option ℕ) → w ≡ after at p s → w ≡ None → None ≡ after at (p >>= f) s
  after_bad w ew eb = elim (dec_lt (length s) at) [
    | yes l ↦ after_past (p >>= f) s at l
    | no l ↦ after_stop (omega arith) (refused p s at w ew eb (omega arith))
  ]

-- what is made of the last part does not move its end
pub after_map : {A B : Type 0} (p : Parser A) (g : A → B) (s : List ℕ) (at : ℕ) → after at (p >>= λ x. give (g x)) s ≡ after at p s
unfolding after place
after_map {A} {B} p g s at = ap (if_lt (length s) at None) (go (p (drop at s)))
  where
    go : (o : Parsed (A × List ℕ)) → place s (then o (λ x. give (g x))) ≡ place s o
    go none = refl
    go (some q) = refl

pub after_give : {A : Type 0} (a : A) (s : List ℕ) (at : ℕ) → at ≤ length s → Some at ≡ after at (give a) s
after_give a s at h = after_some (give a) s at a at h refl h

-- ---- a test of what was read

module _ {A : Type 0} (p : Parser A) (t : A → Bool) (s : List ℕ) (at : ℕ) where
  -- a part that comes to nothing is refused whatever is tested
  pub after_check_bad : None ≡ after at p s → None ≡ after at (p >>= λ x. such (t x) x) s
  after_check_bad h = after_bad p (λ x. such (t x) x) s at None h refl

  module _ {v : A} {e : ℕ} (h : Stands s p at v e) where
    pub after_unfit : (w : Option ℕ) → w ≡ after at p s → t v ≡ false → None ≡ after at (p >>= λ x. such (t x) x) s
    after_unfit w ew f = go w refl
      where
        go : (u : Option ℕ) → w ≡ u → None ≡ after at (p >>= λ x. such (t x) x) s
        go None eu = after_bad p (λ x. such (t x) x) s at w ew eu
        go (Some m) eu =
            let y = went w m h ew eu in
            after_none (p >>= λ x. such (t x) x) s at y.from (rw (y.read, f))

    pub after_fit : (w : Option ℕ) → w ≡ after at p s → t v ≡ true → w ≡ after at (p >>= λ x. such (t x) x) s
    after_fit w ew f = go w refl
      where
        go : (u : Option ℕ) → w ≡ u → w ≡ after at (p >>= λ x. such (t x) x) s
        go None eu = eu ∙ after_bad p (λ x. such (t x) x) s at w ew eu
        go (Some m) eu =
            let y = went w m h ew eu in
            eu ∙ ap Some y.is ∙ after_some (p >>= λ x. such (t x) x) s at v e y.from (rw (y.read, f)) y.within

-- ---- two parsers that come to the same place

abbrev pub Same : {A B : Type 0} → List ℕ → Parser A → Parser B → Type 0
Same s p q = (bs : List ℕ) → place s (p bs) ≡ place s (q bs)

module _ (s : List ℕ) where
  pub after_same : {A B : Type 0} (p : Parser A) (q : Parser B) (at : ℕ) → Same s p q → after at p s ≡ after at q s
  unfolding after
  after_same p q at h = ap (if_lt (length s) at None) (h (drop at s))

  pub same_map : {A B : Type 0} (p : Parser A) (g : A → B) → Same s (p >>= λ x. give (g x)) p
  unfolding place
  same_map {A} p g bs = go (p bs)
    where
      go : (o : Parsed (A × List ℕ)) → place s (then o (λ x. give (g x))) ≡ place s o
      go none = refl
      go (some q) = refl

  pub same_bind : {A B C : Type 0} (p : Parser A) (f : A → Parser B) (g : A → Parser C) → ((a : A) → Same s (f a) (g a)) → Same s (p >>= f) (p >>= g)
  unfolding place
  same_bind {A} p f g h bs = go (p bs)
    where
      go : (o : Parsed (A × List ℕ)) → place s (then o f) ≡ place s (then o g)
      go none = refl
      go (some q) = h q.0 q.1
