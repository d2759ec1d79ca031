-- The included nets of the file are the engine's nets, in order: `getNet` finds each by its name, and no other name.
use Rattle.std.specs.Prelude.{ℕ, zero, suc, ◌+◌, ◌≤◌, ◌<◌, ◌≡◌, ◌≢◌, ◌⊎◌, Bool, true, false, length, get_or, ltb}
use Rattle.std.proofs.Math.Path.{refl}
use Rattle.std.proofs.Common.{sym, ap, ◌∙◌, subst, inl, inr, arith, length-append}
use Rattle.std.proofs.Math.Decide.{ℕ_discrete}
use Rattle.std.proofs.Math.Option.{Option, none, some, some-injective}
use mathlib.Core.List.Memᴰ
use mathlib.Core.List.{List, [], ◌∷◌, ◌++◌, map, append_assoc, append-nil, Memᴰ}
use Rattle.std.proofs.lemmas.List.{length-map}
use Rattle.std.proofs.Math.Dec.{eqb}
use borrow.Author.Tests.{eq-eqb, ne_eqb, ltb-true}
use Rattle.list_laws.specs.Tests.{both}
use Rattle.net_file.specs.Lists.{ascend}
use Rattle.net_file.specs.Values.{FlatNet, File}
use Rattle.definitions.specs.Lists.{nth, keep, find, from}
use Rattle.definitions.specs.Nets.{Home}
use Rattle.definitions.specs.State.{Net, Pools, Engine, homes, net_at}
use Rattle.definitions.specs.Load.{included}
use Rattle.definitions.specs.Visit.{get_net}
use Rattle.finish_laws.specs.Drawn.{keep_in}
use Rattle.reached_laws.specs.Wires.{home_at}
use Rattle.reached_laws.specs.Files.{OfFile}
use Rattle.reached_laws.specs.Image.{Image}
use Rattle.result_laws.specs.Nets.{net_ports}
use Rattle.measure_means.specs.Nets.{Follows, all, anew, kept}

-- ---- lists

truth : (t : Bool) → (t ≡ true) ⊎ (t ≡ false)
truth true = inl refl
truth false = inr refl

module _ {A : Type 0} where
  nth_there : (xs : List A) (j : ℕ) → j < length xs → (x : A) × (nth xs j ≡ some x) × Memᴰ x xs
  nth_there [] j h = absurd (omega arith)
  nth_there (x ∷ xs) zero h = (x, refl, Memᴰ.head refl)
  nth_there (x ∷ xs) (suc j) h = let r = nth_there xs j (omega arith) in (r.0, r.1, Memᴰ.tail r.2)

  nth_front : (xs ys : List A) (j : ℕ) → j < length xs → nth (xs ++ ys) j ≡ nth xs j
  nth_front [] ys j h = absurd (omega arith)
  nth_front (x ∷ xs) ys zero h = refl
  nth_front (x ∷ xs) ys (suc j) h = nth_front xs ys j (omega arith)

  nth_seam : (xs : List A) (y : A) (ys : List A) → nth (xs ++ y ∷ ys) (length xs) ≡ some y
  nth_seam [] y ys = refl
  nth_seam (x ∷ xs) y ys = nth_seam xs y ys

  nth_get : (f : A → ℕ) (xs : List A) (j : ℕ) (x : A) → nth xs j ≡ some x → get_or (map f xs) j 0 ≡ f x
  nth_get f [] j x e = let z : ◌≡◌ {A = ℕ} 0 1 = cc in absurd (omega arith)
  nth_get f (y ∷ xs) zero x e = ap f (some-injective y x e)
  nth_get f (y ∷ xs) (suc j) x e = nth_get f xs j x e

-- the first that passes
find_first : (f : ℕ → Bool) (n i k : ℕ) → i ≤ k → k < i + n → f k ≡ true → ((j : ℕ) → i ≤ j → j < k → f j ≡ false) → find f (from i n) ≡ some k
find_first f zero i k l u e h = absurd (omega arith)
find_first f (suc n) i k l u e h = elim (ℕ_discrete i k) [
  | yes d ↦ ap (λ (t : Bool). elim t as (λ _. Option ℕ) [ true ↦ some i | false ↦ find f (from (suc i) n) ]) (ap f d ∙ e) ∙ ap {B = Option ℕ} some d
  | no d ↦ ap (λ (t : Bool). elim t as (λ _. Option ℕ) [ true ↦ some i | false ↦ find f (from (suc i) n) ]) (h i (omega arith) (omega arith))
      ∙ find_first f n (suc i) k (omega arith) (omega arith) e (λ j a b. h j (omega arith) b)
]

find_none : (f : ℕ → Bool) (n i : ℕ) → ((j : ℕ) → i ≤ j → j < i + n → f j ≡ false) → find f (from i n) ≡ none
find_none f zero i h = refl
find_none f (suc n) i h =
    ap (λ (t : Bool). elim t as (λ _. Option ℕ) [ true ↦ some i | false ↦ find f (from (suc i) n) ]) (h i (omega arith) (omega arith))
    ∙ find_none f n (suc i) (λ j a b. h j (omega arith) (omega arith))

module _ (t : FlatNet) (ts : List FlatNet) where
  keep_yes : t.included ≡ true → keep (λ (t : FlatNet). t.included) (t ∷ ts) ≡ t ∷ keep (λ (t : FlatNet). t.included) ts
  keep_yes i = ap (λ (b : Bool). elim b as (λ _. List FlatNet) [ true ↦ t ∷ keep (λ (t : FlatNet). t.included) ts | false ↦ keep (λ (t : FlatNet). t.included) ts ]) i

  keep_no : t.included ≡ false → keep (λ (t : FlatNet). t.included) (t ∷ ts) ≡ keep (λ (t : FlatNet). t.included) ts
  keep_no i = ap (λ (b : Bool). elim b as (λ _. List FlatNet) [ true ↦ t ∷ keep (λ (t : FlatNet). t.included) ts | false ↦ keep (λ (t : FlatNet). t.included) ts ]) i

-- names that ascend
ascend_below : (ts : List FlatNet) (x : ℕ) → ascend (x ∷ map (λ (t : FlatNet). t.name) ts) ≡ true → (t : FlatNet) → Memᴰ t ts → x < t.name
ascend_below [] x a t m = absurd (Memᴰ.not-nil m)
ascend_below (u ∷ ts) x a t m =
    let b = both (ltb x u.name) (ascend (u.name ∷ map (λ (t : FlatNet). t.name) ts)) a in
    let l = ltb-true x u.name b.0 in
    elim (Memᴰ.cases_cons m) [
      | inl e ↦ subst (λ (v : FlatNet). x < v.name) (sym e) l
      | inr k ↦ let z = ascend_below ts u.name b.1 t k in omega arith
    ]

ascend_rest : (x : ℕ) (xs : List ℕ) → ascend (x ∷ xs) ≡ true → ascend xs ≡ true
ascend_rest x [] a = refl
ascend_rest x (y ∷ ys) a = (both (ltb x y) (ascend (y ∷ ys)) a).1

module _ (p : Pools) (f : File FlatNet) (e : Engine) (image : Image p f e) where
  many : length e.nets ≡ length (included f)
  many =
      sym (length-map e.nets (λ (t : Net). t.home)) ∙ sym (length-map (homes e) (λ (h : Home). h.name)) ∙ ap (λ (l : List ℕ). length l) image.file.names
      ∙ length-map (included f) (λ (t : FlatNet). t.name)

  -- the engine's net j has the name of the j-th included net
  name_at : (j : ℕ) (t : FlatNet) → j < length e.nets → nth (included f) j ≡ some t → (net_at e j).home.name ≡ t.name
  name_at j t h n =
      sym (nth_get (λ (h : Home). h.name) (homes e) j (net_at e j).home (home_at e j h)) ∙ ap (λ (l : List ℕ). get_or l j 0) image.file.names
      ∙ nth_get (λ (t : FlatNet). t.name) (included f) j t n

  -- found by its name, where the names before it are others
  net_found : (k : ℕ) (t : FlatNet) → k < length e.nets → nth (included f) k ≡ some t
      → ((j : ℕ) (u : FlatNet) → j < k → nth (included f) j ≡ some u → u.name ≢ t.name) → get_net e t.name ≡ some k
  unfolding get_net
  net_found k t h n others =
      find_first (λ j. eqb (net_at e j).home.name t.name) (length e.nets) 0 k (omega arith) (omega arith) (eq-eqb _ _ (name_at k t h n))
      (λ j a b. let c = many in let u = nth_there (included f) j (omega arith) in
      ne_eqb _ _ (λ z. others j u.0 b u.1 (sym (name_at j u.0 (omega arith) u.1) ∙ z)))

  -- not found, where no included net has the name
  net_absent : (t : FlatNet) → ((u : FlatNet) → Memᴰ u (included f) → u.name ≢ t.name) → get_net e t.name ≡ none
  unfolding get_net
  net_absent t others =
      find_none (λ j. eqb (net_at e j).home.name t.name) (length e.nets) 0
      (λ j a b. let c = many in let u = nth_there (included f) j (omega arith) in
      ne_eqb _ _ (λ z. others u.0 u.2 (sym (name_at j u.0 (omega arith) u.1) ∙ z)))

  follows : (ts pre : List FlatNet) → included f ≡ pre ++ keep (λ (t : FlatNet). t.included) ts → ascend (map (λ (t : FlatNet). t.name) ts) ≡ true
      → ((x : FlatNet) → Memᴰ x pre → (t : FlatNet) → Memᴰ t ts → x.name < t.name) → Follows e (length pre) ts
  follows [] pre split up below =
      let z : length pre ≡ length e.nets = sym (many ∙ ap (λ (l : List FlatNet). length l) (split ∙ append-nil pre)) in
      subst (λ (k : ℕ). Follows e k []) (sym z) all
  follows (t ∷ ts) pre split up below =
      let above : (u : FlatNet) → Memᴰ u ts → t.name < u.name = ascend_below ts t.name up in
      elim (truth t.included) [
        | inl i ↦
            let split' : included f ≡ pre ++ t ∷ keep (λ (t : FlatNet). t.included) ts = split ∙ ap (λ (l : List FlatNet). pre ++ l) (keep_yes t ts i) in
            let rest = keep (λ (t : FlatNet). t.included) ts in
            let here : nth (included f) (length pre) ≡ some t = ap (λ (l : List FlatNet). nth l (length pre)) split' ∙ nth_seam pre t rest in
            let l = length-append pre (t ∷ rest) in
            let k : length pre < length e.nets = (let c = many ∙ ap (λ (l : List FlatNet). length l) split' in omega arith) in
            let found = net_found (length pre) t k here (λ j u b n z.
            let v = nth_there pre j b in
            let same : u ≡ v.0 = some-injective u v.0 (sym n ∙ ap (λ (l : List FlatNet). nth l j) split' ∙ nth_front pre (t ∷ rest) j b ∙ v.1) in
            let low = below v.0 v.2 t (Memᴰ.head refl) in
            let w : u.name ≡ v.0.name = ap (λ (x : FlatNet). x.name) same in
            omega arith) in
            let next = follows ts (pre ++ t ∷ []) (split' ∙ sym (append_assoc pre (t ∷ []) rest)) (ascend_rest t.name (map (λ (t : FlatNet). t.name) ts) up)
            (λ x m u n. elim (Memᴰ.append_cases pre m) [
              | inl q ↦ below x q u (Memᴰ.tail n)
              | inr q ↦ elim (Memᴰ.cases_cons q) [
                | inl z ↦ subst (λ (v : FlatNet). v.name < u.name) (sym z) (above u n)
                | inr z ↦ absurd (Memᴰ.not-nil z)
              ]
            ]) in
            let size : length (pre ++ t ∷ []) ≡ suc (length pre) = length-append pre (t ∷ []) ∙ (let z : length pre + 1 ≡ suc (length pre) = omega arith in z) in
            anew i found k (net_ports p f e image (length pre) t k here) (subst (λ (k : ℕ). Follows e k ts) size next)
        | inr i ↦
            let split' : included f ≡ pre ++ keep (λ (t : FlatNet). t.included) ts = split ∙ ap (λ (l : List FlatNet). pre ++ l) (keep_no t ts i) in
            kept i (net_absent t (λ u m z. elim (Memᴰ.append_cases pre (subst (Memᴰ u) split' m)) [
              | inl q ↦ let low = below u q t (Memᴰ.head refl) in omega arith
              | inr q ↦ let high = above u (keep_in (λ (t : FlatNet). t.included) ts u q).0 in omega arith
            ]))
            (follows ts pre split' (ascend_rest t.name (map (λ (t : FlatNet). t.name) ts) up) (λ x m u n. below x m u (Memᴰ.tail n)))
      ]

  pub image_follows : ascend (map (λ (t : FlatNet). t.name) f.nets) ≡ true → Follows e 0 f.nets
  unfolding included
  image_follows up = follows f.nets [] refl up (λ x m t n. absurd (Memᴰ.not-nil m))
