-- A name finds its net: nets ascend by name, so no other included net has it.
use Rattle.std.specs.Prelude.{ℕ, zero, suc, ◌<◌, ◌≡◌, refl, ◌⊎◌, Bool, true, false, ◌&&◌, length, get_or, eqb, ltb, T}
use Rattle.std.proofs.Common.{sym, ap, ◌∙◌, inl, inr, arith, eq-eqb, ne_eqb, ltb-true}
use Rattle.std.proofs.Math.Option.{some, some-injective}
use mathlib.Core.List.Memᴰ
use mathlib.Core.List.{List, [], ◌∷◌, map, Memᴰ}
use Rattle.std.proofs.lemmas.List.{length-map}
use Rattle.std.proofs.Math.ListN.{get_or-map}
use Rattle.list_laws.specs.Tests.{both}
use Rattle.net_file.specs.Lists.{ok, all, ascend, distinct, eqs}
use Rattle.net_file.specs.Values.{FlatNet, File}
use Rattle.net_file.specs.Checks.{flat, same_name, pairs_ordered, ordered, read}
use Rattle.net_file_laws.specs.Bytes.{Bytes}
use Rattle.net_file_laws.proofs.RoundTrip.{flat_write_read}
use Rattle.definitions.specs.Lists.{nth, keep, find, from}
use Rattle.definitions.specs.Nets.{Home}
use Rattle.definitions.specs.Load.{included}
use Rattle.rule_laws.specs.Ids.{at_mem}
use Rattle.idle_laws.specs.Rows.{row_find}
use Rattle.idle_laws.specs.Placed.{named}

-- each is below all that follow
abbrev pub Rising : List ℕ → Type 0
Rising [] = Unit {0}
Rising (x ∷ xs) = ((y : ℕ) → Memᴰ y xs → x < y) × Rising xs

ascend_rising : (xs : List ℕ) → ascend xs ≡ true → Rising xs
ascend_rising [] h = tt
ascend_rising (x ∷ []) h = ((λ y i. absurd (Memᴰ.not-nil i)), tt)
ascend_rising (x ∷ z ∷ xs) h =
    let b = both (ltb x z) (ascend (z ∷ xs)) h in
    let l = ltb-true x z b.0 in
    let r = ascend_rising (z ∷ xs) b.1 in
    ((λ y i. go l r.0 y (Memᴰ.cases_cons i)), r)
  where
    go : x < z → ((y : ℕ) → Memᴰ y xs → z < y) → (y : ℕ) → (y ≡ z) ⊎ Memᴰ y xs → x < y
    go l f y (inl q) = omega arith
    go l f y (inr i) = let k = f y i in omega arith

-- so are those that are kept
kept_mem : (f : FlatNet → Bool) (ts : List FlatNet) (y : ℕ) → Memᴰ y (map (λ (t : FlatNet). t.name) (keep f ts)) → Memᴰ y (map (λ (t : FlatNet). t.name) ts)
kept_mem f [] y i = i
kept_mem f (t ∷ ts) y i = go (f t) i (λ j. kept_mem f ts y j)
  where
    go : (b : Bool) → Memᴰ y (map (λ (t : FlatNet). t.name) (elim b as (λ _. List FlatNet) [ true ↦ t ∷ keep f ts | false ↦ keep f ts ]))
        → (Memᴰ y (map (λ (t : FlatNet). t.name) (keep f ts)) → Memᴰ y (map (λ (t : FlatNet). t.name) ts)) → Memᴰ y (t.name ∷ map (λ (t : FlatNet). t.name) ts)
    go true j r = on (Memᴰ.cases_cons j)
      where
        on : (y ≡ t.name) ⊎ Memᴰ y (map (λ (t : FlatNet). t.name) (keep f ts)) → Memᴰ y (t.name ∷ map (λ (t : FlatNet). t.name) ts)
        on (inl q) = Memᴰ.head q
        on (inr k) = Memᴰ.tail (r k)
    go false j r = Memᴰ.tail (r j)

kept_rising : (f : FlatNet → Bool) (ts : List FlatNet) → Rising (map (λ (t : FlatNet). t.name) ts) → Rising (map (λ (t : FlatNet). t.name) (keep f ts))
kept_rising f [] h = tt
kept_rising f (t ∷ ts) h = go (f t) (kept_rising f ts h.1)
  where
    go : (b : Bool) → Rising (map (λ (t : FlatNet). t.name) (keep f ts)) → Rising (map (λ (t : FlatNet). t.name) (elim b as (λ _. List FlatNet) [ true ↦ t ∷ keep f ts | false ↦ keep f ts ]))
    go true r = ((λ y i. h.0 y (kept_mem f ts y i)), r)
    go false r = r

-- the names of the included nets rise
pub included_rising : (bs : List ℕ) → Bytes bs → (f : File FlatNet) → read flat bs ≡ ok f → Rising (map (λ (t : FlatNet). t.name) (included f))
unfolding included ordered
included_rising bs b f h = kept_rising (λ t. t.included) f.nets (ascend_rising (map (λ (t : FlatNet). t.name) f.nets) (both a₁ a₂ (both (a₁ && a₂) a₃ (T_true (a₁ && a₂ && a₃) (flat_write_read bs b f h).ordered)).0).1)
  where
    a₁ : Bool
    a₁ = distinct eqs f.paths && distinct same_name f.names

    a₂ : Bool
    a₂ = ascend (map (λ (n : FlatNet). n.name) f.nets)

    a₃ : Bool
    a₃ = all (λ (n : FlatNet). pairs_ordered n.pairs) f.nets

    T_true : (t : Bool) → T t → t ≡ true
    T_true true x = refl
    T_true false x = absurd x

-- ---- found by name

rising_below : (xs : List ℕ) → Rising xs → (i j : ℕ) → i < j → j < length xs → get_or xs i 0 < get_or xs j 0
rising_below [] h i j l u = absurd (omega arith)
rising_below (x ∷ xs) h i zero l u = absurd (omega arith)
rising_below (x ∷ xs) h zero (suc j) l u = h.0 (get_or xs j 0) (at_mem xs j (omega arith))
rising_below (x ∷ xs) h (suc i) (suc j) l u = rising_below xs h.1 i j (omega arith) (omega arith)

pub nth_below : (hs : List Home) (m : ℕ) (h d : Home) → nth hs m ≡ some h → (m < length hs) × (get_or hs m d ≡ h)
nth_below [] m h d q = absurd (let z : ◌≡◌ {A = ℕ} 0 1 = cc in omega arith)
nth_below (x ∷ hs) zero h d q = (omega arith, some-injective x h q)
nth_below (x ∷ hs) (suc m) h d q = let r = nth_below hs m h d q in let l = r.0 in (omega arith, r.1)

row_ids : (n k : ℕ) → map (λ i. i) (from k n) ≡ from k n
row_ids zero k = refl
row_ids (suc n) k = ap (λ (l : List ℕ). k ∷ l) (row_ids n (suc k))

pub named_at : (hs : List Home) → Rising (map (λ (h : Home). h.name) hs) → (m : ℕ) (h : Home) → nth hs m ≡ some h → named hs h.name ≡ some m
named_at hs r m h q =
    let l = b.0 in
    ap (find f) (sym (row_ids (length hs) 0)) ∙ row_find (λ i. i) f (length hs) 0 m (omega arith) (omega arith) (eq-eqb (get_or hs m d).name h.name (ap (λ (x : Home). x.name) b.1)) (λ j _ l. ne_eqb (get_or hs j d).name h.name (λ s. apart j l s))
  where
    d : Home
    d = record { name = 0; free = 0 }

    f : ℕ → Bool
    f k = eqb (get_or hs k d).name h.name

    b : (m < length hs) × (get_or hs m d ≡ h)
    b = nth_below hs m h d q

    at_name : (j : ℕ) → get_or (map (λ (h : Home). h.name) hs) j 0 ≡ (get_or hs j d).name
    at_name j = get_or-map (λ (h : Home). h.name) hs j d

    apart : (j : ℕ) → j < m → (get_or hs j d).name ≡ h.name → ⊥
    apart j l s =
        let u = b.0 in
        let n = length-map hs (λ (h : Home). h.name) in
        let x = rising_below (map (λ (h : Home). h.name) hs) r j m l (omega arith) in
        let y = at_name j in
        let z : get_or (map (λ (h : Home). h.name) hs) m 0 ≡ h.name = at_name m ∙ ap (λ (x : Home). x.name) b.1 in
        omega arith
