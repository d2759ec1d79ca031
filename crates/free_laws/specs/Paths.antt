-- The free path in a table of paths that was read: how many are not it, and that it has one number where the paths differ.
use Prim.Native.Nat.{ℕ, zero, suc, ◌+◌, ◌<◌, ◌≤◌}
use Rattle.std.specs.Prelude.{◌≡◌, Bool, true, false, not, ◌&&◌, ◌||◌, List, [], ◌∷◌, length, get_or, drop, eqb}
use Rattle.std.proofs.Math.Path.{refl}
use Rattle.std.proofs.Common.{sym, ap, ◌∙◌, arith, not-suc-le-zero, le_of_suc-le-suc, eqb-true}
use Rattle.std.proofs.Math.Option.{some}
use Rattle.std.proofs.Math.Dec.{eqb-zero-suc, eqb-suc-zero, eqb-suc-suc}
use Rattle.std.proofs.lemmas.Bool.{not-true}
use Rattle.words.specs.Choose.{pick}
use Rattle.net_file.specs.Lists.{bit, any, count, distinct, eqs}
use Rattle.net_file.specs.Values.{free_path}
use Rattle.list_laws.specs.Tests.{both}
use Rattle.list_laws.specs.Lists.{eqs_true}
use Rattle.net_file.specs.Read.{times, read_path}
use Rattle.stored.specs.Stored.{table_at, table_end, path_at, path_end}
use Rattle.stored.specs.Laws.{stands_times, table_length}
use Rattle.stored.specs.Parts.{stands_path}
use Rattle.ends.specs.Ends.{within, path_up, table_up}
use Rattle.free_path.specs.FreePath.{other, others, free_number}

-- the number of the first free path, or how many there are
unfoldable pub free_index : List (List ℕ) → ℕ
free_index [] = 0
free_index (p ∷ ps) = pick (eqs free_path p) 0 (suc (free_index ps))

-- ---- where the whole table is there, no place is moved to the end

module _ (s : List ℕ) where
  path_in : (at n : ℕ) → table_end (path_end s) (path_end s at) n ≤ length s → within s (path_end s at) ≡ path_end s at
  path_in at n h = omega (arith, table_up (path_end s) (path_up s) (path_end s at) n)

  others_table : (n at : ℕ) → table_end (path_end s) at n ≤ length s → others s at n ≡ count (λ p. not (eqs free_path p)) (table_at (path_at s) (path_end s) at n)
  unfolding others other table_at table_end
  others_table zero at h = refl
  others_table (suc n) at h = rw (path_in at n h) (ap (λ k. bit (not (eqs free_path (path_at s at))) + k) (others_table n (path_end s at) h))

  number_table : (n at : ℕ) → table_end (path_end s) at n ≤ length s → free_number s at n ≡ free_index (table_at (path_at s) (path_end s) at n)
  unfolding free_number free_index table_at table_end
  number_table zero at h = refl
  number_table (suc n) at h = rw (path_in at n h) (ap (λ k. pick (eqs free_path (path_at s at)) 0 (suc k)) (number_table n (path_end s at) h))

-- ---- what was read

module _ (s : List ℕ) (at n : ℕ) (ps : List (List ℕ)) (r : List ℕ) (e : times n read_path (drop at s) ≡ some (ps, r)) (h : at ≤ length s) where
  -- the paths that stand there, all within s
  paths_are : (ps ≡ table_at (path_at s) (path_end s) at n) × (table_end (path_end s) at n ≤ length s)
  paths_are = let y = (stands_times s read_path (path_at s) (path_end s) (stands_path s) n at).by ps r h e in (y.0, y.3)

  pub others_exact : others s at n ≡ count (λ p. not (eqs free_path p)) ps
  others_exact = rw paths_are.0 (others_table s n at paths_are.1)

  pub number_exact : free_number s at n ≡ free_index ps
  number_exact = rw paths_are.0 (number_table s n at paths_are.1)

  pub paths_counted : length ps ≡ n
  paths_counted = rw paths_are.0 (table_length s (path_at s) (path_end s) at n)

-- ---- among different paths the free one has one number

-- a test that none passes, at each place
none_at : (f : List ℕ → Bool) (ys : List (List ℕ)) (p : ℕ) → any f ys ≡ false → p < length ys → f (get_or ys p []) ≡ false
none_at f [] p e h = absurd (not-suc-le-zero h)
none_at f (y ∷ ys) zero e h = go (f y) e
  where
    go : (t : Bool) → (t || any f ys) ≡ false → t ≡ false
    go true q = q
    go false q = refl
none_at f (y ∷ ys) (suc p) e h = none_at f ys p (go (f y) e) (le_of_suc-le-suc h)
  where
    go : (t : Bool) → (t || any f ys) ≡ false → any f ys ≡ false
    go true q = let z : ◌≡◌ {A = ℕ} 0 1 = cc in absurd (omega arith)
    go false q = q

pub index_free : (ps : List (List ℕ)) → distinct eqs ps ≡ true → (p : ℕ) → p < length ps → eqb (free_index ps) p ≡ eqs free_path (get_or ps p [])
unfolding free_index pick
index_free [] d p h = absurd (not-suc-le-zero h)
index_free (q ∷ qs) d zero h = go (eqs free_path q)
  where
    go : (t : Bool) → eqb (pick t 0 (suc (free_index qs))) 0 ≡ t
    go true = refl
    go false = eqb-suc-zero (free_index qs)
index_free (q ∷ qs) d (suc p) h =
    let b = both (not (any (eqs q) qs)) (distinct eqs qs) d in
    go (eqs free_path q) refl b.0 (index_free qs b.1 p (le_of_suc-le-suc h))
  where
    go : (t : Bool) → eqs free_path q ≡ t → not (any (eqs q) qs) ≡ true → eqb (free_index qs) p ≡ eqs free_path (get_or qs p [])
        → eqb (pick t 0 (suc (free_index qs))) (suc p) ≡ eqs free_path (get_or qs p [])
    go true e n k = eqb-zero-suc p ∙ sym (none_at (eqs free_path) qs p (rw (eqs_true free_path q e) (not-true _ n)) (le_of_suc-le-suc h))
    go false e n k = eqb-suc-suc (free_index qs) p ∙ k
