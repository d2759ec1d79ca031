-- What draws a net is fixed: two nets of one name that draw the same nodes are equal.
use Rattle.std.specs.Prelude.{ℕ, zero, suc, ◌≡◌, refl, ◌⊎◌, ◌↔◌, Bool, true, false, not, length, drop, eqb}
use Rattle.std.proofs.Common.{sym, ap, ◌∙◌, subst, inl, inr, arith, true≢false, eqb-true, eq-eqb}
use mathlib.Core.List.Memᴰ
use mathlib.Core.List.{List, [], ◌∷◌, ◌++◌, map, Memᴰ}
use Rattle.list_laws.specs.Tests.{either}
use Rattle.net_file.specs.Lists.{any, concat_map}
use Rattle.net_file.specs.Values.{Name, FlatNode, FlatNet}
use Rattle.definitions.specs.Lists.{firsts, from}
use Rattle.definitions.specs.Nets.{Port, Graph, name_of, ports}
use Rattle.join_laws.specs.Ports.{Real}
use Rattle.finish_laws.specs.Wires.{ports_of}
use Rattle.finish_laws.specs.Fits.{length_from}
use Rattle.finish_laws.specs.Drawn.{others, written, stands, Drawn, keep_in}

-- a number among those of a list
any_map : (f : Port → ℕ) (n : ℕ) (ps : List Port) → any (eqb n) (map f ps) ≡ true → (p : Port) × Memᴰ p ps × (n ≡ f p)
any_map f n [] e = absurd (true≢false (sym e))
any_map f n (p ∷ ps) e = go (either (eqb n (f p)) (any (eqb n) (map f ps)) e) (any_map f n ps)
  where
    go : (eqb n (f p) ≡ true) ⊎ (any (eqb n) (map f ps) ≡ true) → (any (eqb n) (map f ps) ≡ true → (q : Port) × Memᴰ q ps × (n ≡ f q)) → (q : Port) × Memᴰ q (p ∷ ps) × (n ≡ f q)
    go (inl h) r = (p, Memᴰ.head refl, eqb-true n (f p) h)
    go (inr h) r = let y = r h in (y.0, Memᴰ.tail y.1, y.2)

map_any : (f : Port → ℕ) (n : ℕ) (ps : List Port) (p : Port) → Memᴰ p ps → n ≡ f p → any (eqb n) (map f ps) ≡ true
map_any f n [] p m e = absurd (Memᴰ.not-nil m)
map_any f n (q ∷ ps) p m e = go (eqb n (f q)) refl (Memᴰ.cases_cons m) (λ k. map_any f n ps p k e)
  where
    go : (t : Bool) → eqb n (f q) ≡ t → (p ≡ q) ⊎ Memᴰ p ps → (Memᴰ p ps → any (eqb n) (map f ps) ≡ true) → (any (eqb n) (f q ∷ map f ps)) ≡ true
    go true h k r = rw h refl
    go false h (inl s) r = absurd (true≢false (sym (eq-eqb n (f q) (e ∙ ap f s)) ∙ h))
    go false h (inr k) r = rw h (r k)

-- two numberings of ports by first meeting, which give one number to the same ports, are one
module _ (In : Port → Type 0) (w v : Port → ℕ) (alike : (p q : Port) → In p → In q → (w p ≡ w q) ↔ (v p ≡ v q)) where
  agree : (ps qs : List Port) (a m n : ℕ) → ((p : Port) → Memᴰ p ps → In p) → ((q : Port) → Memᴰ q qs → In q × (w q ≡ v q))
      → firsts eqb (map w qs) (map w ps) ≡ from a m → firsts eqb (map v qs) (map v ps) ≡ from a n → map w ps ≡ map v ps
  agree [] qs a m n i k x y = refl
  agree (p ∷ ps) qs a m n i k x y =
      go (any (eqb (w p)) (map w qs)) refl (any (eqb (v p)) (map v qs)) refl x y (λ qs' a' m' n' k'. agree ps qs' a' m' n' (λ q l. i q (Memᴰ.tail l)) k')
    where
      here : In p
      here = i p (Memᴰ.head refl)

      seen : any (eqb (w p)) (map w qs) ≡ true → (w p ≡ v p) × (any (eqb (v p)) (map v qs) ≡ true)
      seen e =
          let q = any_map w (w p) qs e in
          let b = k q.0 q.1 in
          let s : v p ≡ v q.0 = (alike p q.0 here b.0).0 q.2 in
          (q.2 ∙ b.1 ∙ sym s, map_any v (v p) qs q.0 q.1 s)

      seen' : any (eqb (v p)) (map v qs) ≡ true → any (eqb (w p)) (map w qs) ≡ true
      seen' e =
          let q = any_map v (v p) qs e in
          map_any w (w p) qs q.0 q.1 ((alike p q.0 here (k q.0 q.1).0).1 q.2)

      first_of_lem : (z : ℕ) (zs : List ℕ) (c : ℕ) → z ∷ zs ≡ from a c → (z ≡ a) × ((d : ℕ) × (zs ≡ from (suc a) d))
      first_of_lem z zs zero e = let u : suc (length zs) ≡ 0 = ap length e in absurd (omega arith)
      first_of_lem z zs (suc c) e = (cc, (c, cc))

      go : (s : Bool) → any (eqb (w p)) (map w qs) ≡ s → (t : Bool) → any (eqb (v p)) (map v qs) ≡ t
          → elim s as (λ _. List ℕ) [ true ↦ firsts eqb (map w qs) (map w ps) | false ↦ w p ∷ firsts eqb (w p ∷ map w qs) (map w ps) ] ≡ from a m
          → elim t as (λ _. List ℕ) [ true ↦ firsts eqb (map v qs) (map v ps) | false ↦ v p ∷ firsts eqb (v p ∷ map v qs) (map v ps) ] ≡ from a n
          → ((qs' : List Port) (a' m' n' : ℕ) → ((q : Port) → Memᴰ q qs' → In q × (w q ≡ v q)) → firsts eqb (map w qs') (map w ps) ≡ from a' m' → firsts eqb (map v qs') (map v ps) ≡ from a' n' → map w ps ≡ map v ps)
          → w p ∷ map w ps ≡ v p ∷ map v ps
      go true e true f c d r = λ j. (seen e).0 j ∷ r qs a m n k c d j
      go true e false f c d r = absurd (true≢false (sym (seen e).1 ∙ f))
      go false e true f c d r = absurd (true≢false (sym (seen' f) ∙ e))
      go false e false f c d r =
          let x₁ = first_of_lem (w p) (firsts eqb (w p ∷ map w qs) (map w ps)) m c in
          let y₁ = first_of_lem (v p) (firsts eqb (v p ∷ map v qs) (map v ps)) n d in
          let s : w p ≡ v p = x₁.0 ∙ sym y₁.0 in
          let later = r (p ∷ qs) (suc a) x₁.1.0 y₁.1.0 (λ q l. more s q (Memᴰ.cases_cons l)) x₁.1.1 y₁.1.1 in
          λ j. s j ∷ later j
        where
          more : w p ≡ v p → (q : Port) → (q ≡ p) ⊎ Memᴰ q qs → In q × (w q ≡ v q)
          more s q (inl u) = subst (λ (z : Port). In z × (w z ≡ v z)) (sym u) (here, s)
          more s q (inr l) = k q l

-- ---- two drawings

module _ (g : Graph) (ids : List ℕ) (free : ℕ) (t u : FlatNet) (d : Drawn g ids free t) (c : Drawn g ids free u) where
  -- a port of the nodes
  abbrev In : Port → Type 0
  In p = Memᴰ p.node ids × Real g p

  -- they give each port one number
  one_numbering : map d.wire (concat_map (ports g) ids) ≡ map c.wire (concat_map (ports g) ids)
  one_numbering = agree In d.wire c.wire (λ p q a b. (λ e. (c.same p q a b).1 ((d.same p q a b).0 e), λ e. (d.same p q a b).1 ((c.same p q a b).0 e)))
      (concat_map (ports g) ids) [] 0 t.wires u.wires (ports_of g ids) (λ q m. absurd (Memᴰ.not-nil m)) d.order c.order

  pub one_counter : t.wires ≡ u.wires
  one_counter = sym (length_from t.wires 0) ∙ ap length (sym d.order ∙ ap (firsts eqb []) one_numbering ∙ c.order) ∙ length_from u.wires 0

  -- at each node
  split_append : {A : Type 0} (f h : A → ℕ) (xs ys : List A) → map f (xs ++ ys) ≡ map h (xs ++ ys) → (map f xs ≡ map h xs) × (map f ys ≡ map h ys)
  split_append f h [] ys e = (refl, e)
  split_append f h (x ∷ xs) ys e =
      let a : f x ≡ h x = cc in
      let b : map f (xs ++ ys) ≡ map h (xs ++ ys) = cc in
      let r = split_append f h xs ys b in
      (λ i. a i ∷ r.0 i, r.1)

  at_node : (ns : List ℕ) → map d.wire (concat_map (ports g) ns) ≡ map c.wire (concat_map (ports g) ns) → (n : ℕ) → Memᴰ n ns → map d.wire (ports g n) ≡ map c.wire (ports g n)
  at_node [] e n m = absurd (Memᴰ.not-nil m)
  at_node (k ∷ ns) e n m = let r = split_append d.wire c.wire (ports g k) (concat_map (ports g) ns) e in go (Memᴰ.cases_cons m) r.0 (at_node ns r.1 n)
    where
      go : (n ≡ k) ⊎ Memᴰ n ns → map d.wire (ports g k) ≡ map c.wire (ports g k) → (Memᴰ n ns → map d.wire (ports g n) ≡ map c.wire (ports g n)) → map d.wire (ports g n) ≡ map c.wire (ports g n)
      go (inl s) a r = subst (λ (j : ℕ). map d.wire (ports g j) ≡ map c.wire (ports g j)) (sym s) a
      go (inr l) a r = r l

  drop_same : (i : ℕ) (ps : List Port) → map d.wire ps ≡ map c.wire ps → map d.wire (drop i ps) ≡ map c.wire (drop i ps)
  drop_same zero ps e = e
  drop_same (suc i) [] e = refl
  drop_same (suc i) (p ∷ ps) e = drop_same i ps cc

  nodes_same : (ns : List ℕ) → ((n : ℕ) → Memᴰ n ns → Memᴰ n ids) → map (stands g d.wire) ns ≡ map (stands g c.wire) ns
  nodes_same [] i = refl
  nodes_same (n ∷ ns) i = λ j. (name_of g n, at_node ids one_numbering n (i n (Memᴰ.head refl)) j) ∷ nodes_same ns (λ k l. i k (Memᴰ.tail l)) j

  -- nodes that are written alike are equal
  written_one : (xs ys : List FlatNode) → map written xs ≡ map written ys → xs ≡ ys
  written_one [] [] e = refl
  written_one [] (y ∷ ys) e = let z : 0 ≡ suc (length (map written ys)) = ap length e in absurd (omega arith)
  written_one (x ∷ xs) [] e = let z : suc (length (map written xs)) ≡ 0 = ap length e in absurd (omega arith)
  written_one (x ∷ xs) (y ∷ ys) e =
      let a : written x ≡ written y = cc in
      let b : map written xs ≡ map written ys = cc in
      let n : x.name ≡ y.name = ap (λ (z : Name × List ℕ). z.0) a in
      let l : x.pri ∷ x.aux ≡ y.pri ∷ y.aux = ap (λ (z : Name × List ℕ). z.1) a in
      let p : x.pri ≡ y.pri = cc in
      let q : x.aux ≡ y.aux = cc in
      let r = written_one xs ys b in
      λ i. record { name = n i; pri = p i; aux = q i } ∷ r i

  -- `drawn-one`
  pub drawn_one : Memᴰ free ids → t.name ≡ u.name → t.included ≡ u.included → t ≡ u
  drawn_one m name mark =
      let f : t.free ≡ u.free = d.free_wires ∙ drop_same 2 (ports g free) (at_node ids one_numbering free m) ∙ sym c.free_wires in
      let p : t.pairs ≡ u.pairs = d.pairs ∙ sym c.pairs in
      let n : t.nodes ≡ u.nodes = written_one t.nodes u.nodes (d.nodes ∙ nodes_same (others free ids) (λ k l. (keep_in (λ j. not (eqb j free)) ids k l).0) ∙ sym c.nodes) in
      λ i. record { name = name i; included = mark i; wires = one_counter i; free = f i; pairs = p i; nodes = n i }
