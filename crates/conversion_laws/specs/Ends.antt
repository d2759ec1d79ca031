-- What the table of links holds while wires are linked, each at most twice: both ends of every run of links, and of a closed run
-- two wires or none. A wire that is linked once stands in the table; one that is linked twice only in a closed run.
use Rattle.std.specs.Prelude.{ℕ, zero, suc, ◌+◌, ◌<◌, ◌≤◌, ◌≡◌, Bool, true, false, ◌⊎◌, List, [], ◌∷◌, ◌++◌, eqb}
use Rattle.std.proofs.Common.{arith, sym, ap, ◌∙◌, subst, inl, inr, eq-eqb, ne_eqb}
use Rattle.std.proofs.Math.Decide.{ℕ_discrete}
use Rattle.std.proofs.Math.Path.{refl}
use Rattle.std.proofs.Math.Option.{Option, none, some}
use Rattle.net_file.specs.Lists.{bit, count}
use Rattle.net_file.specs.Checks.{pair_wires, occurs}
use Rattle.conversions.specs.Links.{Links, get, remove, insert, or_else, link}
use Rattle.wire_tables_laws.specs.Get.{get_removed, get_kept, get_inserted, get_beside}

-- one link after another
unfoldable pub link_all : Links → List (ℕ × ℕ) → Links
link_all l [] = l
link_all l (o ∷ os) = link_all (link l o.0 o.1) os

-- two that are there are the same
pub same_some : (x y : ℕ) → ◌≡◌ {A = Option ℕ} (some x) (some y) → x ≡ y
same_some x y e = cc

none_some : (x : ℕ) → ◌≡◌ {A = Option ℕ} none (some x) → ⊥
none_some x e = let z : ◌≡◌ {A = ℕ} 0 1 = cc in absurd (omega arith)

-- of wires that were linked so often: what stands in the table stands both ways, and as often linked on both sides
pub record Holds (l : Links) (d : ℕ → ℕ) : Type 0 where
  pub back : (x y : ℕ) → get l x ≡ some y → get l y ≡ some x
  pub other : (x : ℕ) → get l x ≡ some x → ⊥
  pub alike : (x y : ℕ) → get l x ≡ some y → d x ≡ d y
  pub linked : (x y : ℕ) → get l x ≡ some y → 1 ≤ d x
  pub once : (x : ℕ) → d x ≡ 1 → get l x ≡ none → ⊥

-- the far end of a wire that can be linked once more
data Far (l : Links) (d : ℕ → ℕ) (a : ℕ) : ℕ → Type 0 where
  alone : get l a ≡ none → d a ≡ 0 → Far l d a a
  beyond : (f : ℕ) → get l a ≡ some f → get l f ≡ some a → d a ≡ 1 → d f ≡ 1 → Far l d a f

far : (l : Links) (d : ℕ → ℕ) → Holds l d → (a : ℕ) → d a ≤ 1 → Far l d a (or_else (get l a) a)
unfolding or_else
far l d h a m = go (get l a) refl
  where
    zero_not : (k : ℕ) → k ≤ 1 → (k ≡ 1 → ⊥) → k ≡ 0
    zero_not zero q n = refl
    zero_not (suc k) q n = absurd (n (omega arith))

    go : (r : Option ℕ) → get l a ≡ r → Far l d a (or_else r a)
    go none e = alone e (zero_not (d a) m (λ q. h.once a q e))
    go (some f) e = beyond f e (h.back a f e) (omega (arith, h.linked a f e)) (omega (arith, h.linked a f e, h.alike a f e))

module _ (l : Links) (d : ℕ → ℕ) (a : ℕ) where
  -- a far end leads back to its wire alone
  end_back : {f : ℕ} → Far l d a f → (x : ℕ) → get l f ≡ some x → x ≡ a
  end_back (alone p q) x e = absurd (none_some x (sym p ∙ e))
  end_back (beyond f p q r s) x e = same_some x a (sym e ∙ q)

  end_is : {f : ℕ} → Far l d a f → (x : ℕ) → get l a ≡ some x → x ≡ f
  end_is (alone p q) x e = absurd (none_some x (sym p ∙ e))
  end_is (beyond f p q r s) x e = same_some x f (sym e ∙ p)

  -- a wire that is not its own far end was linked once
  end_once : {f : ℕ} → Far l d a f → (a ≡ f → ⊥) → d a ≡ 1
  end_once (alone p q) n = absurd (n refl)
  end_once (beyond f p q r s) n = r

-- ---- one more link of two wires

module _ (l : Links) (d : ℕ → ℕ) (h : Holds l d) (a b : ℕ) (apart : a ≡ b → ⊥) (d' : ℕ → ℕ)
    (more : (x : ℕ) → d' x ≡ d x + bit (eqb x a) + bit (eqb x b)) where
  at_a : d' a ≡ d a + 1
  at_a = more a ∙ rw (eq-eqb a a refl) (rw (ne_eqb a b apart) (omega arith))

  at_b : d' b ≡ d b + 1
  at_b = more b ∙ rw (eq-eqb b b refl) (rw (ne_eqb b a (λ e. apart (sym e))) (omega arith))

  at_other : (x : ℕ) → (x ≡ a → ⊥) → (x ≡ b → ⊥) → d' x ≡ d x
  at_other x n m = more x ∙ rw (ne_eqb x a n) (rw (ne_eqb x b m) (omega arith))

  module _ (a' b' : ℕ) (fa : Far l d a a') (fb : Far l d b b') where
    ends_apart : a' ≡ b' → ⊥
    ends_apart e = go fa fb e
      where
        go : {x y : ℕ} → Far l d a x → Far l d b y → x ≡ y → ⊥
        go (alone p q) (alone r s) k = apart k
        go (alone p q) (beyond g r s t u) k = absurd (omega (arith, q, u, ap d k))
        go (beyond f p q t u) (alone r s) k = absurd (omega (arith, s, u, ap d k))
        go (beyond f p q t u) (beyond g r s v w) k = apart (same_some a b (sym q ∙ ap (get l) k ∙ s))

    -- both far ends are linked as often: once, or twice where the run closes
    ends_alike : (d' a' ≡ d' b') × (1 ≤ d' a')
    ends_alike = go fa fb
      where
        linked_apart : (f x : ℕ) → get l x ≡ some f → f ≡ x → ⊥
        linked_apart f x e k = h.other x (e ∙ ap (λ (z : ℕ). some z) k)

        closes : (f g : ℕ) → get l a ≡ some f → get l f ≡ some a → get l b ≡ some g → get l g ≡ some b → d f ≡ 1 → d g ≡ 1 → (d' f ≡ d' g) × (1 ≤ d' f)
        closes f g p q r s u v = elim (ℕ_discrete f b) [
          | yes k ↦
              let m : g ≡ a = same_some g a (sym r ∙ ap (get l) (sym k) ∙ q) in
              (omega (arith, ap d' k, ap d' m, ap d k, ap d m, at_a, at_b, u, v), omega (arith, ap d' k, ap d k, at_b, u))
          | no k ↦
              let m : g ≡ a → ⊥ = λ n. k (same_some f b (sym p ∙ ap (get l) (sym n) ∙ s)) in
              (omega (arith, at_other f (linked_apart f a p) k, at_other g m (linked_apart g b r), u, v), omega (arith, at_other f (linked_apart f a p) k, u))
        ]

        go : {x y : ℕ} → Far l d a x → Far l d b y → (d' x ≡ d' y) × (1 ≤ d' x)
        go (alone p q) (alone r s) = (omega (arith, at_a, at_b, q, s), omega (arith, at_a))
        go (alone p q) (beyond g r s t u) =
            let m : g ≡ a → ⊥ = λ n. none_some b (sym p ∙ ap (get l) (sym n) ∙ s) in
            (omega (arith, at_a, q, at_other g m (linked_apart g b r), u), omega (arith, at_a))
        go (beyond f p q t u) (alone r s) =
            let m : f ≡ b → ⊥ = λ n. none_some a (sym r ∙ ap (get l) (sym n) ∙ q) in
            (omega (arith, at_b, s, at_other f (linked_apart f a p) m, u), omega (arith, at_other f (linked_apart f a p) m, u))
        go (beyond f p q t u) (beyond g r s v w) = closes f g p q r s u w

    -- the table then
    abbrev joined : Links
    joined = insert (insert (remove (remove l a) b) a' b') b' a'

    at_second : get joined b' ≡ some a'
    at_second = get_inserted _ b' a'

    at_first : get joined a' ≡ some b'
    at_first = get_beside _ b' a' a' ends_apart ∙ get_inserted _ a' b'

    at_rest : (x : ℕ) → (x ≡ a' → ⊥) → (x ≡ b' → ⊥) → (x ≡ a → ⊥) → (x ≡ b → ⊥) → get joined x ≡ get l x
    at_rest x n m o p = get_beside _ b' x a' m ∙ get_beside _ a' x b' n ∙ get_kept (remove l a) b x p ∙ get_kept l a x o

    at_gone : (x : ℕ) → (x ≡ a' → ⊥) → (x ≡ b' → ⊥) → (x ≡ a) ⊎ (x ≡ b) → get joined x ≡ none
    at_gone x n m o = get_beside _ b' x a' m ∙ get_beside _ a' x b' n ∙ gone o
      where
        gone : (x ≡ a) ⊎ (x ≡ b) → get (remove (remove l a) b) x ≡ none
        gone (inl e) = rw e (get_kept (remove l a) b a apart ∙ get_removed l a)
        gone (inr e) = rw e (get_removed (remove l a) b)

    -- where a wire stands: at one of the ends, gone, or as before
    data Stands (x : ℕ) : Type 0 where
      second : x ≡ b' → Stands x
      first : x ≡ a' → Stands x
      gone : (x ≡ a) ⊎ (x ≡ b) → (x ≡ a' → ⊥) → (x ≡ b' → ⊥) → Stands x
      rest : (x ≡ a' → ⊥) → (x ≡ b' → ⊥) → (x ≡ a → ⊥) → (x ≡ b → ⊥) → Stands x

    stands : (x : ℕ) → Stands x
    stands x = elim (ℕ_discrete x b') [
      | yes e ↦ second e
      | no m ↦ elim (ℕ_discrete x a') [
        | yes e ↦ first e
        | no n ↦ elim (ℕ_discrete x a) [
          | yes e ↦ gone (inl e) n m
          | no o ↦ elim (ℕ_discrete x b) [
            | yes e ↦ gone (inr e) n m
            | no p ↦ rest n m o p
          ]
        ]
      ]
    ]

    -- what stands beside a wire that is neither an end nor gone is such a wire too
    beside : (x y : ℕ) → (x ≡ a' → ⊥) → (x ≡ b' → ⊥) → (x ≡ a → ⊥) → (x ≡ b → ⊥) → get l x ≡ some y → (get joined y ≡ some x) × (y ≡ a → ⊥) × (y ≡ b → ⊥)
    beside x y n m o p e =
        let k = h.back x y e in
        let ya : y ≡ a → ⊥ = λ q. n (end_is l d a fa x (ap (get l) (sym q) ∙ k)) in
        let yb : y ≡ b → ⊥ = λ q. m (end_is l d b fb x (ap (get l) (sym q) ∙ k)) in
        let ya' : y ≡ a' → ⊥ = λ q. o (end_back l d a fa x (ap (get l) (sym q) ∙ k)) in
        let yb' : y ≡ b' → ⊥ = λ q. p (end_back l d b fb x (ap (get l) (sym q) ∙ k)) in
        (at_rest y ya' yb' ya yb ∙ k, ya, yb)

    joined_back : (x y : ℕ) → Stands x → get joined x ≡ some y → get joined y ≡ some x
    joined_back x y (second q) e = let k : y ≡ a' = same_some y a' (sym e ∙ ap (get joined) q ∙ at_second) in ap (get joined) k ∙ at_first ∙ ap (λ (z : ℕ). some z) (sym q)
    joined_back x y (first q) e = let k : y ≡ b' = same_some y b' (sym e ∙ ap (get joined) q ∙ at_first) in ap (get joined) k ∙ at_second ∙ ap (λ (z : ℕ). some z) (sym q)
    joined_back x y (gone q n m) e = absurd (none_some y (sym (at_gone x n m q) ∙ e))
    joined_back x y (rest n m o p) e = (beside x y n m o p (sym (at_rest x n m o p) ∙ e)).0

    joined_other : (x : ℕ) → Stands x → get joined x ≡ some x → ⊥
    joined_other x (second q) e = ends_apart (sym (same_some x a' (sym e ∙ ap (get joined) q ∙ at_second)) ∙ q)
    joined_other x (first q) e = ends_apart (sym q ∙ same_some x b' (sym e ∙ ap (get joined) q ∙ at_first))
    joined_other x (gone q n m) e = none_some x (sym (at_gone x n m q) ∙ e)
    joined_other x (rest n m o p) e = h.other x (sym (at_rest x n m o p) ∙ e)

    joined_alike : (x y : ℕ) → Stands x → get joined x ≡ some y → (d' x ≡ d' y) × (1 ≤ d' x)
    joined_alike x y (second q) e =
        let k : y ≡ a' = same_some y a' (sym e ∙ ap (get joined) q ∙ at_second) in
        (ap d' q ∙ sym ends_alike.0 ∙ ap d' (sym k), omega (arith, ends_alike.0, ends_alike.1, ap d' q))
    joined_alike x y (first q) e =
        let k : y ≡ b' = same_some y b' (sym e ∙ ap (get joined) q ∙ at_first) in
        (ap d' q ∙ ends_alike.0 ∙ ap d' (sym k), omega (arith, ends_alike.1, ap d' q))
    joined_alike x y (gone q n m) e = absurd (none_some y (sym (at_gone x n m q) ∙ e))
    joined_alike x y (rest n m o p) e =
        let g = sym (at_rest x n m o p) ∙ e in
        let k = beside x y n m o p g in
        (at_other x o p ∙ h.alike x y g ∙ sym (at_other y k.1 k.2), omega (arith, at_other x o p, h.linked x y g))

    joined_once : (x : ℕ) → Stands x → d' x ≡ 1 → get joined x ≡ none → ⊥
    joined_once x (second q) c e = none_some a' (sym e ∙ ap (get joined) q ∙ at_second)
    joined_once x (first q) c e = none_some b' (sym e ∙ ap (get joined) q ∙ at_first)
    joined_once x (gone (inl q) n m) c e = absurd (omega (arith, c, ap d' q, at_a, end_once l d a fa (λ k. n (q ∙ k))))
    joined_once x (gone (inr q) n m) c e = absurd (omega (arith, c, ap d' q, at_b, end_once l d b fb (λ k. m (q ∙ k))))
    joined_once x (rest n m o p) c e = h.once x (sym (at_other x o p) ∙ c) (sym (at_rest x n m o p) ∙ e)

    joined_holds : Holds joined d'
    joined_holds = record {
      back = λ x y e. joined_back x y (stands x) e;
      other = λ x e. joined_other x (stands x) e;
      alike = λ x y e. (joined_alike x y (stands x) e).0;
      linked = λ x y e. (joined_alike x y (stands x) e).1;
      once = λ x c e. joined_once x (stands x) c e;
    }

-- ---- any link of two wires that stay within two

-- by its test: whether the far ends are one
module _ (l : Links) (a b : ℕ) where
  abbrev first_end : ℕ
  first_end = or_else (get l a) a

  -- so far as it looks before it removes a
  abbrev second_end : Option ℕ → ℕ
  second_end r = or_else r b

  abbrev chosen : ℕ → Bool → Links
  chosen e t = elim t [ true ↦ remove (remove l a) b | false ↦ insert (insert (remove (remove l a) b) first_end e) e first_end ]

  link_by : link l a b ≡ chosen (second_end (get (remove l a) b)) (eqb first_end (second_end (get (remove l a) b)))
  unfolding link
  link_by = refl

  link_ends : (a ≡ b → ⊥) → (first_end ≡ second_end (get l b) → ⊥) → link l a b ≡ chosen (second_end (get l b)) false
  link_ends n m = link_by ∙ ap (λ r. chosen (second_end r) (eqb first_end (second_end r))) (get_kept l a b (λ e. n (sym e))) ∙ ap (chosen (second_end (get l b))) (ne_eqb first_end (second_end (get l b)) m)

-- of a wire with itself, where it was not linked: nothing
link_self : (l : Links) (a : ℕ) → get l a ≡ none → (x : ℕ) → get (link l a a) x ≡ get l x
unfolding or_else
link_self l a e x = ap (λ k. get k x) is ∙ as_before
  where
    is : link l a a ≡ remove (remove l a) a
    is = link_by l a a ∙ ap (λ r. chosen l a a (or_else r a) (eqb (or_else (get l a) a) (or_else r a))) (get_removed l a) ∙ ap (chosen l a a a) (ap (λ r. eqb (or_else r a) a) e ∙ eq-eqb a a refl)

    as_before : get (remove (remove l a) a) x ≡ get l x
    as_before = elim (ℕ_discrete x a) [
      | yes q ↦ rw q (get_removed (remove l a) a ∙ sym e)
      | no q ↦ get_kept (remove l a) a x q ∙ get_kept l a x q
    ]

self_holds : (l : Links) (d : ℕ → ℕ) → Holds l d → (a : ℕ) (d' : ℕ → ℕ) → ((x : ℕ) → d' x ≡ d x + bit (eqb x a) + bit (eqb x a)) → d' a ≤ 2 → Holds (link l a a) d'
self_holds l d h a d' more la = record {
  back = λ x y e. same y ∙ h.back x y (sym (same x) ∙ e);
  other = λ x e. h.other x (sym (same x) ∙ e);
  alike = λ x y e. let k = sym (same x) ∙ e in as_before x y k ∙ h.alike x y k ∙ sym (as_before y x (h.back x y k));
  linked = λ x y e. let k = sym (same x) ∙ e in omega (arith, as_before x y k, h.linked x y k);
  once = λ x c e. elim (ℕ_discrete x a) [
    | yes q ↦ absurd (omega (arith, c, ap d' q, at_own))
    | no q ↦ h.once x (sym (at_other_own x q) ∙ c) (sym (same x) ∙ e)
  ];
}
  where
    at_own : d' a ≡ d a + 2
    at_own = more a ∙ rw (eq-eqb a a refl) (omega arith)

    at_other_own : (x : ℕ) → (x ≡ a → ⊥) → d' x ≡ d x
    at_other_own x n = more x ∙ rw (ne_eqb x a n) (omega arith)

    unlinked : (r : Option ℕ) → get l a ≡ r → r ≡ none
    unlinked none e = refl
    unlinked (some y) e = absurd (omega (arith, la, at_own, h.linked a y e))

    same : (x : ℕ) → get (link l a a) x ≡ get l x
    same x = link_self l a (unlinked (get l a) refl) x

    as_before : (x y : ℕ) → get l x ≡ some y → d' x ≡ d x
    as_before x y e = at_other_own x (λ q. none_some y (sym (unlinked (get l a) refl) ∙ ap (get l) (sym q) ∙ e))

pub link_holds : (l : Links) (d : ℕ → ℕ) → Holds l d → (a b : ℕ) (d' : ℕ → ℕ) → ((x : ℕ) → d' x ≡ d x + bit (eqb x a) + bit (eqb x b)) → d' a ≤ 2 → d' b ≤ 2
    → Holds (link l a b) d'
link_holds l d h a b d' more la lb = elim (ℕ_discrete a b) [
  | yes q ↦ subst (λ z. Holds (link l a z) d') q (self_holds l d h a d' (λ x. subst (λ z. d' x ≡ d x + bit (eqb x a) + bit (eqb x z)) (sym q) (more x)) la)
  | no q ↦
      let fa = far l d h a (omega (arith, at_a l d h a b q d' more, la)) in
      let fb = far l d h b (omega (arith, at_b l d h a b q d' more, lb)) in
      let m = ends_apart l d h a b q d' more (or_else (get l a) a) (or_else (get l b) b) fa fb in
      subst (λ k. Holds k d') (sym (link_ends l a b q m)) (joined_holds l d h a b q d' more (or_else (get l a) a) (or_else (get l b) b) fa fb)
]

-- ---- one after another

-- no links
pub none_hold : Holds [] (λ x. 0)
unfolding get
none_hold = record { back = λ x y e. absurd (none_some y e); other = λ x e. none_some x e; alike = λ x y e. refl; linked = λ x y e. absurd (none_some y e); once = λ x e n. absurd (omega arith) }

holds_as : (l : Links) (d d' : ℕ → ℕ) → ((x : ℕ) → d x ≡ d' x) → Holds l d → Holds l d'
holds_as l d d' e h = record {
  back = h.back;
  other = h.other;
  alike = λ x y k. sym (e x) ∙ h.alike x y k ∙ e y;
  linked = λ x y k. omega (arith, e x, h.linked x y k);
  once = λ x c k. h.once x (e x ∙ c) k;
}

-- how often wires were linked, with these links on top
pub all_hold : (os : List (ℕ × ℕ)) (l : Links) (d : ℕ → ℕ) → Holds l d → ((x : ℕ) → d x + occurs x (pair_wires os) ≤ 2) → Holds (link_all l os) (λ x. d x + occurs x (pair_wires os))
unfolding link_all pair_wires occurs
all_hold [] l d h m = holds_as l d (λ x. d x + 0) (λ x. omega arith) h
all_hold (o ∷ os) l d h m =
    let d₁ : ℕ → ℕ = λ x. d x + bit (eqb x o.0) + bit (eqb x o.1) in
    let h₁ = link_holds l d h o.0 o.1 d₁ (λ x. refl) (omega (arith, m o.0)) (omega (arith, m o.1)) in
    holds_as (link_all (link l o.0 o.1) os) (λ x. d₁ x + occurs x (pair_wires os)) (λ x. d x + occurs x (pair_wires (o ∷ os))) (λ x. omega arith)
    (all_hold os (link l o.0 o.1) d₁ h₁ (λ x. omega (arith, m x)))
