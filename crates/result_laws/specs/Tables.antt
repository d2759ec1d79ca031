-- The tables of a result: the free path, where it joins, is a path like others, is new, and no rule names it.
use Rattle.std.specs.Prelude.{ℕ, suc, ◌+◌, ◌≤◌, ◌<◌, ◌≡◌, refl, Bool, true, false, not, ◌&&◌, ◌||◌, length, get_or, leb}
use Rattle.std.proofs.Common.{arith, sym, ap, ◌∙◌, true≢false, length-append, leb-true}
use mathlib.Core.List.{List, [], ◌∷◌, ◌++◌}
use Rattle.std.proofs.Math.ListN.{get_or-append}
use Rattle.std.proofs.lemmas.Bool.{not-true}
use Rattle.list_laws.specs.Tests.{both, both_are}
use Rattle.list_laws.specs.Lists.{any_append, count_none, count_both, eqs_true, eqs_eq}
use Rattle.net_file.specs.Lists.{bit, all, any, count, distinct, eqs}
use Rattle.net_file.specs.Values.{Name, Rule, graft, annihilate, erase, commute, eta, FlatNet, File, free_path}
use Rattle.net_file.specs.Checks.{rule_paths, names_free}
use Rattle.net_file_laws.specs.Exact.{Each, EachFrom}
use Rattle.net_file_laws.specs.Parts.{PathFits, NameFits}
use Rattle.net_file_laws.specs.Rules.{ListFits, RuleFits}
use Rattle.net_file_laws.specs.Flat.{NodeFits, FlatNetFits}
use Rattle.definitions.specs.State.{Engine}
use Rattle.definitions.specs.Load.{with_free_path, included}
use Rattle.definitions.specs.Finish.{result}
use Rattle.load_laws.specs.Begin.{name_wider}
use Rattle.size_laws.specs.Each.{each_more}

-- the paths of a result: those of the file, or the free path besides, where it is absent
pub data Table (ps : List (List ℕ)) : List (List ℕ) → Type 0 where
  stays : Table ps ps
  joins : any (eqs free_path) ps ≡ false → Table ps (ps ++ free_path ∷ [])

with_table : (ps : List (List ℕ)) → Table ps (with_free_path ps)
unfolding with_free_path
with_table ps = go (any (eqs free_path) ps) refl
  where
    go : (t : Bool) → any (eqs free_path) ps ≡ t → Table ps (elim t as (λ _. List (List ℕ)) [ true ↦ ps | false ↦ ps ++ free_path ∷ [] ])
    go true e = stays
    go false e = joins e

pub result_table : (f : File FlatNet) (e : Engine) → Table f.paths (result f e).paths
unfolding result
result_table f e = go (included f)
  where
    go : (ts : List FlatNet) → Table f.paths (elim ts as (λ _. List (List ℕ)) [ [] ↦ f.paths | t ∷ us ↦ with_free_path f.paths ])
    go [] = stays
    go (t ∷ us) = with_table f.paths

-- where a net is included the free path is there
pub result_joined : (f : File FlatNet) (e : Engine) (t : FlatNet) (ts : List FlatNet) → included f ≡ t ∷ ts → (result f e).paths ≡ with_free_path f.paths
unfolding result
result_joined f e t ts h = ap (λ (us : List FlatNet). elim us as (λ _. List (List ℕ)) [ [] ↦ f.paths | u ∷ vs ↦ with_free_path f.paths ]) h

module _ (ps : List (List ℕ)) where
  pub table_longer : (qs : List (List ℕ)) → Table ps qs → length ps ≤ length qs
  table_longer qs stays = omega arith
  table_longer qs (joins e) = let z = length-append ps (free_path ∷ []) in omega arith

  free_path_fits : PathFits free_path
  free_path_fits = record { some = omega arith; few = omega arith; bytes = bytes_fit free_path refl }
    where
      bytes_fit : (xs : List ℕ) → all (λ b. leb 33 b && leb b 126) xs ≡ true → Each (λ b. (33 ≤ b) × (b ≤ 126)) xs
      bytes_fit [] e = tt
      bytes_fit (x ∷ xs) e =
          let h = both (leb 33 x && leb x 126) (all (λ b. leb 33 b && leb b 126) xs) e in
          let k = both (leb 33 x) (leb x 126) h.0 in
          ((leb-true 33 x k.0, leb-true x 126 k.1), bytes_fit xs h.1)

  pub table_paths : (qs : List (List ℕ)) → Table ps qs → Each PathFits ps → Each PathFits qs
  table_paths qs stays e = e
  table_paths qs (joins a) e = snoc ps e
    where
      snoc : (xs : List (List ℕ)) → Each PathFits xs → Each PathFits (xs ++ free_path ∷ [])
      snoc [] x = (free_path_fits, tt)
      snoc (x ∷ xs) h = (h.0, snoc xs h.1)

  count_snoc : (t : List ℕ → Bool) (xs : List (List ℕ)) (x : List ℕ) → count t (xs ++ x ∷ []) ≡ count t xs + bit (t x)
  count_snoc t [] x = omega arith
  count_snoc t (y ∷ xs) x = let z = count_snoc t xs x in omega arith

  -- it is not counted among the others
  pub table_others : (qs : List (List ℕ)) → Table ps qs → count (λ p. not (eqs free_path p)) qs ≡ count (λ p. not (eqs free_path p)) ps
  table_others qs stays = refl
  table_others qs (joins e) =
      let a = count_snoc (λ p. not (eqs free_path p)) ps free_path in
      let b : bit (not (eqs free_path free_path)) ≡ 0 = ap (λ (t : Bool). bit (not t)) (eqs_eq free_path free_path refl) in
      omega arith

  pub table_few : (qs : List (List ℕ)) → Table ps qs → length ps ≤ 65535 → count (λ p. not (eqs free_path p)) ps ≤ 255 → length qs ≤ 65535
  table_few qs stays l c = l
  table_few qs (joins e) l c =
      let a = length-append ps (free_path ∷ []) in
      let b = count_both (eqs free_path) ps in
      let d = count_none (eqs free_path) ps e in
      omega arith

  -- and repeats none
  pub table_differ : (qs : List (List ℕ)) → Table ps qs → distinct eqs ps ≡ true → distinct eqs qs ≡ true
  table_differ qs stays d = d
  table_differ qs (joins e) d = snoc ps e d
    where
      swapped : (x : List ℕ) → eqs free_path x ≡ false → eqs x free_path ≡ false
      swapped x h = go (eqs x free_path) refl
        where
          go : (t : Bool) → eqs x free_path ≡ t → eqs x free_path ≡ false
          go true q = absurd (true≢false (sym (eqs_eq free_path x (sym (eqs_true x free_path q))) ∙ h))
          go false q = q

      snoc : (xs : List (List ℕ)) → any (eqs free_path) xs ≡ false → distinct eqs xs ≡ true → distinct eqs (xs ++ free_path ∷ []) ≡ true
      snoc [] n h = refl
      snoc (x ∷ xs) n h =
          let b = both (not (any (eqs x) xs)) (distinct eqs xs) h in
          let o = neither (eqs free_path x) (any (eqs free_path) xs) n in
          both_are (not (any (eqs x) (xs ++ free_path ∷ []))) (distinct eqs (xs ++ free_path ∷ []))
          (ap not (any_append (eqs x) xs (free_path ∷ []) ∙ (λ i. not-true (any (eqs x) xs) b.0 i || (swapped x o.0 i || false)))) (snoc xs o.1 b.1)
        where
          neither : (s t : Bool) → (s || t) ≡ false → (s ≡ false) × (t ≡ false)
          neither true t q = absurd (true≢false q)
          neither false t q = (refl, q)

  -- a path that a rule names is the one that it was
  pub table_unnamed : (qs : List (List ℕ)) → Table ps qs → (rs : List Rule) → Each (RuleFits (length ps)) rs → any (names_free ps) rs ≡ false → any (names_free qs) rs ≡ false
  unfolding names_free rule_paths
  table_unnamed qs stays rs fit n = n
  table_unnamed qs (joins e) rs fit n = rules rs fit n
    where
      q : List (List ℕ)
      q = ps ++ free_path ∷ []

      numbers : (xs : List ℕ) → Each (λ p. p < length ps) xs → any (λ p. eqs free_path (get_or q p [])) xs ≡ any (λ p. eqs free_path (get_or ps p [])) xs
      numbers [] h = refl
      numbers (x ∷ xs) h = λ i. eqs free_path (get_or-append ps (free_path ∷ []) [] x h.0 i) || numbers xs h.1 i

      append : (xs ys : List ℕ) → Each (λ p. p < length ps) xs → Each (λ p. p < length ps) ys → Each (λ p. p < length ps) (xs ++ ys)
      append [] ys h k = k
      append (x ∷ xs) ys h k = (h.0, append xs ys h.1 k)

      inside : (r : Rule) → RuleFits (length ps) r → Each (λ p. p < length ps) (rule_paths r)
      inside (graft p lazy) h = (h, tt)
      inside (annihilate xs) h = h.inside
      inside (erase xs ys) h = append xs ys h.0.inside h.1.inside
      inside (commute xs ys) h = append xs ys h.0.inside h.1.inside
      inside (eta xs ys zs) h = append (xs ++ ys) zs (append xs ys h.0.inside h.1.inside) h.2.inside

      rules : (ss : List Rule) → Each (RuleFits (length ps)) ss → any (names_free ps) ss ≡ false → any (names_free q) ss ≡ false
      rules [] h k = refl
      rules (r ∷ ss) h k = (λ i. numbers (rule_paths r) (inside r h.0) i || any (names_free q) ss) ∙ rest (names_free ps r) k (rules ss h.1)
        where
          rest : (t : Bool) → (t || any (names_free ps) ss) ≡ false → (any (names_free ps) ss ≡ false → any (names_free q) ss ≡ false) → (t || any (names_free q) ss) ≡ false
          rest true z x = absurd (true≢false z)
          rest false z x = x z

-- ---- more paths

module _ (paths more : ℕ) (l : paths ≤ more) where
  pub names_wider : (xs : List Name) (i : ℕ) → EachFrom (NameFits paths) i xs → EachFrom (NameFits more) i xs
  names_wider [] i e = tt
  names_wider (x ∷ xs) i e = (name_wider paths more i l x e.0, names_wider xs (suc i) e.1)

  list_wider : (ps : List ℕ) → ListFits paths ps → ListFits more ps
  list_wider ps h = record { few = h.few; inside = each_more (λ p. p < paths) (λ p. p < more) (λ p k. omega arith) ps h.inside }

  pub rule_wider : (r : Rule) → RuleFits paths r → RuleFits more r
  rule_wider (graft p lazy) h = omega arith
  rule_wider (annihilate ps) h = list_wider ps h
  rule_wider (erase es ns) h = (list_wider es h.0, list_wider ns h.1)
  rule_wider (commute xs ys) h = (list_wider xs h.0, list_wider ys h.1)
  rule_wider (eta cs vs ns) h = (list_wider cs h.0, list_wider vs h.1, list_wider ns h.2)

  pub net_wider : (names : ℕ) (t : FlatNet) → FlatNetFits paths names t → FlatNetFits more names t
  net_wider names t h = record {
    name = h.name;
    wires = h.wires;
    few_free = h.few_free;
    free = h.free;
    few_pairs = h.few_pairs;
    pairs = h.pairs;
    few_nodes = h.few_nodes;
    nodes = each_more (NodeFits paths names t.wires) (NodeFits more names t.wires) (λ x k. record { name = name_wider paths more names l x.name k.name; pri = k.pri; few = k.few; aux = k.aux }) t.nodes h.nodes;
  }
