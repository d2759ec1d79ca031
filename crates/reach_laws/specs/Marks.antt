-- Marks and order show a list of names: marking more of them is `join`.
use Rattle.std.specs.Prelude.{ℕ, zero, suc, ◌+◌, ◌<◌, ◌≤◌, ◌≡◌, refl, false, ◌||◌, List, [], ◌∷◌, ◌++◌, length, get_or, set, eqb}
use Rattle.std.proofs.Math.Path.{sym, subst}
use Rattle.std.proofs.Common.{ap, ◌∙◌, inl, inr, arith, length-append, get_or-set_same, get_or-set_other, ne_eqb}
use Rattle.std.proofs.Math.Bool.{true, or-false}
use Rattle.std.proofs.Math.Decide.{ℕ_discrete, dec_lt}
use Rattle.std.proofs.Math.ListN.{length-set}
use Rattle.std.proofs.Math.Seq.{get_or-append_seam}
use Rattle.net_file.specs.Lists.{any}
use Rattle.list_laws.specs.Lists.{any_append}
use Rattle.conversions.specs.Prune.{join}
use Rattle.prune_laws.specs.Members.{In, tested, false_true, in_cases, in_here, in_there, in_right, join_none, join_seen, join_new}
use Rattle.prune_laws.specs.Exact.{Apart, apart_join, apart_few}
use Rattle.reach_names.specs.Reach.{Met, mark, mark_all}
use Rattle.reach_names.specs.Steps.{mark_full, mark_known, mark_new}

-- the first count of order are the list, and the marks are those of its names
pub record Shows (t : Met) (seen : List ℕ) : Type 0 where
  pub wide : length t.marks ≡ 1024
  pub long : length t.order ≡ 1024
  pub count : t.count ≡ length seen
  pub order : (p : ℕ) → p < length seen → get_or t.order p 0 ≡ get_or seen p 0
  pub marks : (i : ℕ) → get_or t.marks i false ≡ any (eqb i) seen

-- the first of a longer list
pub get_left : (xs ys : List ℕ) (p d : ℕ) → p < length xs → get_or (xs ++ ys) p d ≡ get_or xs p d
get_left [] ys p d h = absurd (omega arith)
get_left (x ∷ xs) ys zero d h = refl
get_left (x ∷ xs) ys (suc p) d h = get_left xs ys p d (omega arith)

-- a name that is marked already
mark_again : (t : Met) (seen : List ℕ) (x : ℕ) → Shows t seen → x < 1024 → any (eqb x) seen ≡ true → mark t x ≡ t
mark_again t seen x s h e = let w = s.wide in elim (dec_lt t.count (length t.order)) [
  | yes l ↦ sym (mark_known t.marks t.order t.count x (omega arith) l (s.marks x ∙ e))
  | no l ↦ sym (mark_full t.marks t.order t.count x (omega arith) (omega arith))
]

-- a name that is not
module _ (t : Met) (seen : List ℕ) (x : ℕ) (s : Shows t seen) (h : x < 1024) (l : length seen < 1024) (e : any (eqb x) seen ≡ false) where
  marked : Met
  marked = record { marks = set t.marks x true; order = set t.order t.count x; count = t.count + 1 }

  mark_is : mark t x ≡ marked
  unfolding marked
  mark_is =
      let w = s.wide in
      let g = s.long in
      let c = s.count in
      sym (mark_new t.marks t.order t.count x (omega arith) (omega arith) (s.marks x ∙ e))

  long_now : length (seen ++ (x ∷ [])) ≡ length seen + 1
  long_now = length-append seen (x ∷ [])

  order_now : (p : ℕ) → p < length (seen ++ (x ∷ [])) → get_or (set t.order t.count x) p 0 ≡ get_or (seen ++ (x ∷ [])) p 0
  order_now p k =
      let c = s.count in
      let g = s.long in
      let n = long_now in
      elim (ℕ_discrete p (length seen)) [
        | yes q ↦
            let a : get_or (set t.order t.count x) t.count 0 ≡ x = get_or-set_same t.order t.count x 0 (omega arith) in
            let r : p ≡ t.count = omega arith in
            ap (λ y. get_or (set t.order t.count x) y 0) r ∙ a ∙ sym (get_or-append_seam seen x [] 0) ∙ ap (λ y. get_or (seen ++ (x ∷ [])) y 0) (sym q)
        | no q ↦
            get_or-set_other t.order t.count p x 0 (omega arith) ∙ s.order p (omega arith) ∙ sym (get_left seen (x ∷ []) p 0 (omega arith))
      ]

  marks_now : (i : ℕ) → get_or (set t.marks x true) i false ≡ any (eqb i) (seen ++ (x ∷ []))
  marks_now i =
      let w = s.wide in
      elim (ℕ_discrete i x) [
        | yes q ↦
            ap (λ y. get_or (set t.marks x true) y false) q ∙ get_or-set_same t.marks x true false (omega arith)
            ∙ sym (ap (λ y. any (eqb y) (seen ++ (x ∷ []))) q ∙ in_right x seen (x ∷ []) (in_here x []))
        | no q ↦
            get_or-set_other t.marks x i true false q ∙ s.marks i
            ∙ sym (any_append (eqb i) seen (x ∷ []) ∙ ap (λ y. any (eqb i) seen || (y || false)) (ne_eqb i x q) ∙ or-false (any (eqb i) seen))
      ]

  mark_shows : Shows (mark t x) (seen ++ (x ∷ []))
  unfolding marked
  mark_shows = subst (λ (u : Met). Shows u (seen ++ (x ∷ []))) (sym mark_is) (record {
    wide = length-set t.marks x true ∙ s.wide;
    long = length-set t.order t.count x ∙ s.long;
    count = let c = s.count in let n = long_now in omega arith;
    order = order_now;
    marks = marks_now;
  })

-- the names of a list
pub all_shows : (n : ℕ) → n ≤ 1024 → (xs : List ℕ) (t : Met) (seen : List ℕ) → Shows t seen → Apart n seen → ((j : ℕ) → In j xs → j < n) → Shows (mark_all t xs) (join seen xs)
unfolding mark_all
all_shows n b [] t seen s a h = subst (Shows t) (sym (join_none seen)) s
all_shows n b (x ∷ xs) t seen s a h = elim (tested (any (eqb x) seen)) [
  | inl e ↦
      let k = h x (in_here x xs) in
      let m = mark_again t seen x s (omega arith) e in
      subst (λ (u : Met). Shows (mark_all u xs) (join seen (x ∷ xs))) (sym m)
      (subst (Shows (mark_all t xs)) (sym (join_seen seen x xs e)) (all_shows n b xs t seen s a (λ j q. h j (in_there j x xs q))))
  | inr e ↦
      let k = h x (in_here x xs) in
      let one : join seen (x ∷ []) ≡ seen ++ (x ∷ []) = join_new seen x [] e ∙ join_none (seen ++ (x ∷ [])) in
      let a' : Apart n (seen ++ (x ∷ [])) = subst (Apart n) one (apart_join n seen (x ∷ []) a (λ j q. h j (elim (in_cases j x [] q) [ inl z ↦ ap (λ y. any (eqb y) (x ∷ xs)) z ∙ in_here x xs | inr z ↦ false_true z ]))) in
      let l = apart_few n (seen ++ (x ∷ [])) a' in
      let g = length-append seen (x ∷ []) in
      subst (Shows (mark_all (mark t x) xs)) (sym (join_new seen x xs e))
      (all_shows n b xs (mark t x) (seen ++ (x ∷ [])) (mark_shows t seen x s (omega arith) (omega arith) e) a' (λ j q. h j (in_there j x xs q)))
]
