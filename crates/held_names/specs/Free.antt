-- The free nodes' name: no rule names its path; and by it two places that mean names are the same exactly where the names are.
use Rattle.std.specs.Prelude.{ℕ, zero, suc, ◌<◌, ◌≡◌, Bool, true, false, not, ◌||◌, List, [], ◌∷◌, ◌++◌, length, get_or, T, eqb}
use Rattle.std.proofs.Math.Path.{refl, sym, ap}
use Rattle.std.proofs.Common.{◌∙◌, subst, inl, inr, append-nil, arith, eq-eqb, ne_eqb}
use Rattle.std.proofs.Math.Decide.{ℕ_discrete}
use Rattle.net_file.specs.Lists.{ok, any, eqs}
use Rattle.net_file.specs.Values.{Name, Rule, graft, annihilate, erase, commute, eta, FlatNet, File, free_path}
use Rattle.net_file.specs.Checks.{same_name, rule_paths, names_free, free_named, flat, read}
use Rattle.net_file_laws.specs.Bytes.{Bytes}
use Rattle.net_file_laws.specs.Exact.{Each}
use Rattle.net_file_laws.specs.Rules.{RuleFits}
use Rattle.net_file_laws.proofs.RoundTrip.{flat_write_read}
use Rattle.list_laws.specs.Lists.{eqs_eq}
use Rattle.definitions.specs.Lists.{place}
use Rattle.definitions.specs.Load.{with_free_path, free_name}
use Rattle.words.specs.Choose.{eq_yes, eq_no}
use Rattle.stored.specs.Stored.{name_at}
use Rattle.readers_laws.specs.Bounds.{read_bounds}
use Rattle.node_names.specs.Names.{same_name_words}
use Rattle.held_names.specs.Named.{Stands, Named}
use Rattle.held_names.specs.Same.{same_bytes_is}

pub neither : (a b : Bool) → (a || b) ≡ false → (a ≡ false) × (b ≡ false)
neither true b e = let z : ◌≡◌ {A = ℕ} 0 1 = cc in absurd (omega arith)
neither false b e = (refl, e)

clash : (t : Bool) → t ≡ true → t ≡ false → ⊥
clash t p q = let z : ◌≡◌ {A = ℕ} 0 1 = cc in omega arith

-- ---- the number of the free path, in the table or behind it

module _ {A : Type 0} (f : A → Bool) (d : A) where
  place_passes : (xs ys : List A) → place f (xs ++ ys) < length xs → f (get_or xs (place f (xs ++ ys)) d) ≡ true
  place_passes [] ys h = absurd (omega arith)
  place_passes (x ∷ xs) ys h = go (f x) refl h (place_passes xs ys)
    where
      go : (t : Bool) → f x ≡ t → elim t as (λ _. ℕ) [ true ↦ 0 | false ↦ suc (place f (xs ++ ys)) ] < suc (length xs)
          → (place f (xs ++ ys) < length xs → f (get_or xs (place f (xs ++ ys)) d) ≡ true)
          → f (get_or (x ∷ xs) (elim t as (λ _. ℕ) [ true ↦ 0 | false ↦ suc (place f (xs ++ ys)) ]) d) ≡ true
      go true e l r = e
      go false e l r = r (omega arith)

-- where it is in the table, it is the free path's
free_passes : (ps : List (List ℕ)) → (free_name ps).path < length ps → eqs free_path (get_or ps (free_name ps).path []) ≡ true
unfolding free_name with_free_path
free_passes ps = go (any (eqs free_path) ps) refl
  where
    at : List (List ℕ) → Type 0
    at qs = place (eqs free_path) qs < length ps → eqs free_path (get_or ps (place (eqs free_path) qs) []) ≡ true

    go : (t : Bool) → any (eqs free_path) ps ≡ t → at (with_free_path ps)
    go true e = let s : with_free_path ps ≡ ps ++ [] = rw (e, with_free_path) (sym (append-nil ps)) in subst at (sym s) (place_passes (eqs free_path) [] ps [])
    go false e = let s : with_free_path ps ≡ ps ++ free_path ∷ [] = rw (e, with_free_path) in subst at (sym s) (place_passes (eqs free_path) [] ps (free_path ∷ []))

-- ---- rules

each_append : (n : ℕ) (xs ys : List ℕ) → Each (λ p. p < n) xs → Each (λ p. p < n) ys → Each (λ p. p < n) (xs ++ ys)
each_append n [] ys h k = k
each_append n (x ∷ xs) ys h k = (h.0, each_append n xs ys h.1 k)

paths_fit : (n : ℕ) (r : Rule) → RuleFits n r → Each (λ p. p < n) (rule_paths r)
unfolding rule_paths
paths_fit n (graft p lazy) h = (h, tt)
paths_fit n (annihilate ps) h = h.inside
paths_fit n (erase es ns) h = each_append n es ns h.0.inside h.1.inside
paths_fit n (commute xs ys) h = each_append n xs ys h.0.inside h.1.inside
paths_fit n (eta cs vs ns) h = each_append n (cs ++ vs) ns (each_append n cs vs h.0.inside h.1.inside) h.2.inside

-- a number that would pass is not in a list of which none passes
not_listed : (q n : ℕ) (g : ℕ → Bool) → (q < n → g q ≡ true) → (ps : List ℕ) → Each (λ p. p < n) ps → any g ps ≡ false → any (eqb q) ps ≡ false
not_listed q n g y [] h e = refl
not_listed q n g y (p ∷ ps) h e =
    let b = neither (g p) (any g ps) e in
    let x : (q ≡ p) → ⊥ = λ i. clash (g p) (subst (λ (j : ℕ). j < n → g j ≡ true) i y h.0) b.0 in
    rw (ne_eqb q p x) (not_listed q n g y ps h.1 b.1)

any_get : {A : Type 0} (g : A → Bool) (xs : List A) (k : ℕ) (d : A) → any g xs ≡ false → k < length xs → g (get_or xs k d) ≡ false
any_get g [] k d e h = absurd (omega arith)
any_get g (x ∷ xs) zero d e h = (neither (g x) (any g xs) e).0
any_get g (x ∷ xs) (suc k) d e h = any_get g xs k d (neither (g x) (any g xs) e).1 (omega arith)

not_T : (t : Bool) → T (not t) → t ≡ false
not_T true h = absurd h
not_T false h = refl

module _ (s : List ℕ) (is : Bytes s) (f : File FlatNet) (e : read flat s ≡ ok f) where
  none_free : any (names_free f.paths) f.rules ≡ false
  unfolding free_named
  none_free = not_T _ (flat_write_read s is f e).unnamed

  -- of the paths that sets of rules are kept for
  pub path_below : (a : ℕ) (n : Name) → Stands s f a n → n.path < 256
  path_below a n h = let l = h.fits.path in omega (arith, (read_bounds s is f e).few_paths)

  -- a rule names no path of the free nodes
  pub rule_unnamed : (k : ℕ) (d : Rule) → k < length f.rules → any (eqb (free_name f.paths).path) (rule_paths (get_or f.rules k d)) ≡ false
  unfolding names_free
  rule_unnamed k d h =
      not_listed (free_name f.paths).path (length f.paths) (λ p. eqs free_path (get_or f.paths p [])) (free_passes f.paths) (rule_paths (get_or f.rules k d))
      (paths_fit (length f.paths) (get_or f.rules k d) ((read_bounds s is f e).rule k d h)) (any_get (names_free f.paths) f.rules k d none_free h)

-- ---- names

apart : (m n : Name) → (m.path ≡ n.path → ⊥) → same_name m n ≡ false
unfolding same_name
apart m n h = rw (ne_eqb m.path n.path h)

self : (m n : Name) → m ≡ n → same_name m n ≡ true
unfolding same_name
self m n e = rw (e, eq-eqb n.path n.path refl, eq-eqb n.payload n.payload refl, eqs_eq n.children n.children refl)

module _ (s : List ℕ) (is : Bytes s) (f : File FlatNet) where
  -- two names of the file
  pub both_stand : (a b : ℕ) (m n : Name) → Stands s f a m → Stands s f b n → same_name_words s a b ≡ same_name m n
  unfolding same_name_words
  both_stand a b m n h k = elim (ℕ_discrete a b) [
    | yes i ↦ sym (eq_yes a b _ _ i (self m n (h.is ∙ ap (name_at s) i ∙ sym k.is)))
    | no i ↦ let l = h.placed in let r = k.placed in
        sym (eq_no a b _ _ i (eq_no a 0 _ _ (omega arith) (eq_no b 0 _ _ (omega arith) (rw (h.is, k.is) (sym (same_bytes_is s is a b))))))
  ]

  -- by place the same where they are the same by name; the free nodes' name, which a name of the file may equal, has its own place
  pub same_name_is : (a b : ℕ) (m n : Name) → Named s f a m → Named s f b n → (m.path ≡ (free_name f.paths).path → n.path ≡ (free_name f.paths).path → ⊥)
      → same_name_words s a b ≡ same_name m n
  unfolding same_name_words
  same_name_is a b m n (inl h) (inl k) x = absurd (x (ap (λ (y : Name). y.path) h.1) (ap (λ (y : Name). y.path) k.1))
  same_name_is a b m n (inl h) (inr k) x =
      let l = k.placed in
      let z = h.0 in
      let p : m.path ≡ (free_name f.paths).path = ap (λ (y : Name). y.path) h.1 in
      sym (eq_no a b _ _ (omega arith) (eq_yes a 0 _ _ z (apart m n (λ i. x p (sym i ∙ p)))))
  same_name_is a b m n (inr h) (inl k) x =
      let l = h.placed in
      let z = k.0 in
      let p : n.path ≡ (free_name f.paths).path = ap (λ (y : Name). y.path) k.1 in
      sym (eq_no a b _ _ (omega arith) (eq_no a 0 _ _ (omega arith) (eq_yes b 0 _ _ z (apart m n (λ i. x (i ∙ p) p)))))
  same_name_is a b m n (inr h) (inr k) x = both_stand a b m n h k

  -- the free nodes' place is the same as none but itself
  pub free_alone : (b : ℕ) (n : Name) → Stands s f b n → (same_name_words s 0 b ≡ false) × (same_name_words s b 0 ≡ false)
  unfolding same_name_words
  free_alone b n k =
      let l = k.placed in
      (sym (eq_no 0 b _ _ (omega arith) (eq_yes 0 0 _ _ refl refl)), sym (eq_no b 0 _ _ (omega arith) (eq_no b 0 _ _ (omega arith) (eq_yes 0 0 _ _ refl refl))))
