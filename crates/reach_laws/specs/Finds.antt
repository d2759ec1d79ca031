-- The sorted names hold every name of the table once, so that what is found of a name is its number in the table.
use Prim.Native.Nat.{ℕ, zero, suc, ◌+◌, ◌<◌, ◌≤◌}
use Rattle.std.specs.Prelude.{◌≡◌, refl, Bool, not, ◌||◌, ◌⊎◌, List, length}
use Rattle.std.proofs.Math.Path.{sym, ap, subst}
use Rattle.std.proofs.Common.{◌∙◌, add-one}
use Rattle.std.proofs.Math.Bool.{true, false}
use Rattle.std.proofs.Math.Option.{Option, none, some}
use Rattle.std.proofs.Math.Logic.{inl, inr}
use native.Mathlib.Omega.{arith}
use Rattle.std.proofs.Math.Decide.{ℕ_discrete, dec_lt}
use Rattle.std.proofs.Math.ListN.{get_or}
use Rattle.std.proofs.lemmas.Bool.{not-true}
use Rattle.net_file.specs.Lists.{any, distinct, eqs}
use Rattle.net_file.specs.Values.{Name}
use Rattle.net_file.specs.Checks.{same_name}
use Rattle.list_laws.specs.Tests.{both}
use Rattle.list_laws.specs.Lists.{eqs_true, eqs_eq}
use Rattle.words.specs.Choose.{lt_cases, pick_true, pick_false}
use Rattle.stored.specs.Stored.{table_at, table_end, name_at, name_end}
use Rattle.ends.specs.Ends.{name_past}
use Rattle.readers_laws.specs.Tables.{table_inside, table_next}
use Rattle.repeats.specs.declared.Item.TheVariants.{Name as Named}
use Rattle.std.specs.Ordering.{is_eq}
use Rattle.std.specs.declared.cmp.Ordering.{Ordering}
use Rattle.std.specs.declared.cmp.Ordering.TheVariants.{Less, Equal, Greater}
use Rattle.repeats.specs.Repeats.{size_of, compare, search, known, insert}
use Rattle.repeats_laws.specs.Runs.{Alike, Compared, compared, alike_sym, alike_not_before}
use Rattle.repeats_laws.specs.Arrays.{length_insert, insert_low, insert_at, insert_high}
use Rattle.repeats_laws.specs.Find as searching
use Rattle.repeats_laws.specs.Find.{Ascends, Missing, looked}
use Rattle.repeats_laws.specs.Grow.{grown}
use Rattle.repeats_laws.specs.Names.{name_end_lem}
use Rattle.repeats_laws.proofs.Names.{name_same}
use Rattle.repeats_laws.specs.Items.{item_at, item_end, item_same, item_alike}
use Rattle.conversions.specs.Prune.{number_of}
use Rattle.prune_laws.specs.Members.{tested, false_true}
use Rattle.prune_laws.specs.Below.{number_none, number_here, number_later}
use Rattle.name_table.specs.Table.{Sorted, sort_from, find}
use Rattle.reach_laws.specs.Tables.{Finds, there, absent}

or_none : (a b : Bool) → (a || b) ≡ false → (a ≡ false) × (b ≡ false)
or_none true b e = false_true (sym e)
or_none false b e = (refl, e)

module _ (s : List ℕ) where
  -- ---- the k-th name of a table

  abbrev place : ℕ → ℕ → ℕ
  place from j = table_end (name_end s) from j

  abbrev table : ℕ → ℕ → List Name
  table from n = table_at (name_at s) (name_end s) from n

  none_there : (m : Name) (n at j : ℕ) → any (same_name m) (table at n) ≡ false → j < n → same_name m (name_at s (place at j)) ≡ false
  unfolding table_at table_end
  none_there m zero at j e h = absurd (omega arith)
  none_there m (suc n) at zero e h = (or_none (same_name m (name_at s at)) (any (same_name m) (table (name_end s at) n)) e).0
  none_there m (suc n) at (suc j) e h = none_there m n (name_end s at) j (or_none (same_name m (name_at s at)) (any (same_name m) (table (name_end s at) n)) e).1 (omega arith)

  -- two of them differ
  apart_at : (n at i j : ℕ) → distinct same_name (table at n) ≡ true → i < j → j < n → same_name (name_at s (place at i)) (name_at s (place at j)) ≡ false
  unfolding table_at table_end
  apart_at zero at i j d h l = absurd (omega arith)
  apart_at (suc n) at i zero d h l = absurd (omega arith)
  apart_at (suc n) at zero (suc j) d h l =
      let b = both (not (any (same_name (name_at s at)) (table (name_end s at) n))) (distinct same_name (table (name_end s at) n)) d in
      none_there (name_at s at) n (name_end s at) j (not-true _ b.0) (omega arith)
  apart_at (suc n) at (suc i) (suc j) d h l =
      let b = both (not (any (same_name (name_at s at)) (table (name_end s at) n))) (distinct same_name (table (name_end s at) n)) d in
      apart_at n (name_end s at) i j b.1 (omega arith) (omega arith)

  -- the number of a name
  number_no : (m : Name) (n at k : ℕ) → ((i : ℕ) → i < n → same_name (name_at s (place at i)) m ≡ false) → number_of (table at n) m k ≡ none
  unfolding table_at table_end
  number_no m zero at k h = number_none m k
  number_no m (suc n) at k h =
      number_later (name_at s at) m (table (name_end s at) n) k (h 0 (omega arith)) ∙ number_no m n (name_end s at) (suc k) (λ i l. h (suc i) (omega arith))

  number_at : (m : Name) (n at k q : ℕ) → q < n → same_name (name_at s (place at q)) m ≡ true → ((i : ℕ) → i < q → same_name (name_at s (place at i)) m ≡ false)
      → number_of (table at n) m k ≡ some (k + q)
  unfolding table_at table_end
  number_at m zero at k q l e h = absurd (omega arith)
  number_at m (suc n) at k zero l e h = number_here (name_at s at) m (table (name_end s at) n) k e ∙ ap (λ x. some x) (omega arith)
  number_at m (suc n) at k (suc q) l e h =
      number_later (name_at s at) m (table (name_end s at) n) k (h 0 (omega arith))
      ∙ number_at m n (name_end s at) (suc k) q (omega arith) e (λ i r. h (suc i) (omega arith)) ∙ ap (λ x. some x) (omega arith)

  name_up : (at : ℕ) → at ≤ name_end s at
  name_up at = let h = name_past s at in omega arith

  -- where the same bytes were found
  known_alike : (l : List ℕ) (m p at n : ℕ) → known s l m p at n ≡ true → ((j : ℕ) → j < m → get_or l j 0 + n ≤ length s) → at + n ≤ length s → (p < m) × Alike s n (get_or l p 0) at
  unfolding known
  known_alike l m p at n e fit fits = elim (lt_cases p m (is_eq (compare s (get_or l p 0) at n)) false) [
    | inl c ↦ (c.0, go (compare s (get_or l p 0) at n) (sym c.1 ∙ e) (compared s n (get_or l p 0) at (fit p c.0) fits))
    | inr c ↦ false_true (sym c.1 ∙ e)
  ]
    where
      go : (o : Ordering) → is_eq o ≡ true → Compared s n (get_or l p 0) at o → Alike s n (get_or l p 0) at
      go Less e b = false_true e
      go Equal e b = b
      go Greater e b = false_true e

  module _ (small : (i : ℕ) → get_or s i 0 < 256) (from n : ℕ) (few : n ≤ 1024) (inside : place from n ≤ length s) (apart : distinct same_name (table from n) ≡ true) where
    -- the place of a name is no later than that of the next
    later : (i j : ℕ) → i ≤ j → place from i ≤ place from j
    later i j h = table_inside (name_end s) name_up from j i h

    size_end : (at : ℕ) → at + size_of s Named at ≡ name_end s at
    unfolding item_end
    size_end at = sym (name_end_lem s at)

    same_bytes : (a b : ℕ) → Alike s (size_of s Named a) a b → same_name (name_at s b) (name_at s a) ≡ true
    same_bytes a b h = sym (name_same s small b a) ∙ eqs_eq _ _ (sym (item_same s Named a b h))

    bytes_same : (a b : ℕ) → same_name (name_at s b) (name_at s a) ≡ true → Alike s (size_of s Named a) a b
    bytes_same a b e = item_alike s Named a b (sym (eqs_true _ _ (name_same s small b a ∙ e)))

    -- two names of the table are not both the same as a third
    not_both : (a i j : ℕ) → i < j → j < n → same_name (name_at s (place from i)) (name_at s a) ≡ true → same_name (name_at s (place from j)) (name_at s a) ≡ true → ⊥
    not_both a i j h l e f =
        let x : eqs (item_at s Named (place from i)) (item_at s Named a) ≡ true = name_same s small (place from i) a ∙ e in
        let y : eqs (item_at s Named (place from j)) (item_at s Named a) ≡ true = name_same s small (place from j) a ∙ f in
        let z : item_at s Named (place from i) ≡ item_at s Named (place from j) = eqs_true _ _ x ∙ sym (eqs_true _ _ y) in
        false_true (sym (apart_at n from i j apart h l) ∙ sym (name_same s small (place from i) (place from j)) ∙ eqs_eq _ _ z)

    -- the first m names of the table, sorted
    record Sorts (l ns : List ℕ) (m : ℕ) : Type 0 where
      ascends : Ascends s l m
      number : (j : ℕ) → j < m → get_or ns j 0 < m
      standing : (j : ℕ) → j < m → get_or l j 0 ≡ place from (get_or ns j 0)
      only : (q : ℕ) → q < m → (j : ℕ) × (j < m) × (get_or ns j 0 ≡ q)

    module _ (l ns : List ℕ) (m : ℕ) (g : Sorts l ns m) (at : ℕ) (low : (q : ℕ) → q < m → place from q ≤ at) (fits : name_end s at ≤ length s) (short : m ≤ 1024) where
      abbrev z : ℕ
      z = size_of s Named at

      fits' : at + z ≤ length s
      fits' = let e = size_end at in omega arith

      fit : (j : ℕ) → j < m → get_or l j 0 + z ≤ length s
      fit j h = let e = g.standing j h in let k = low (get_or ns j 0) (g.number j h) in let f = fits' in omega arith

      look : searching.Found s l m at z (search s l m at z) ⊎ Missing s l m at z (search s l m at z)
      look = looked s l m at z g.ascends fits' fit short

      -- a name that is found is one of them
      is_there : (p : ℕ) → known s l m p at z ≡ true → (p < m) × (same_name (name_at s (place from (get_or ns p 0))) (name_at s at) ≡ true)
      is_there p e =
          let k = known_alike l m p at z e fit fits' in
          let h = k.0 in
          (h, same_bytes at (place from (get_or ns p 0)) (subst (λ (y : ℕ). Alike s z at y) (g.standing p h) (alike_sym k.1)))

      -- and one that is not is none
      is_not : (p : ℕ) → Missing s l m at z p → (q : ℕ) → q < m → same_name (name_at s (place from q)) (name_at s at) ≡ false
      is_not p f q h = elim (tested (same_name (name_at s (place from q)) (name_at s at))) [
        | inl e ↦
            let j = g.only q h in
            let i = j.1 in
            let w : get_or l j.0 0 ≡ place from q = g.standing j.0 i ∙ ap (place from) j.2 in
            let a : Alike s z at (get_or l j.0 0) = subst (λ (y : ℕ). Alike s z at y) (sym w) (bytes_same at (place from q) e) in
            absurd (elim (dec_lt j.0 p) [
              | yes b ↦ alike_not_before (alike_sym a) (f.below j.0 b)
              | no b ↦ alike_not_before a (f.above j.0 (omega arith) i)
            ])
        | inr e ↦ e
      ]

    -- one name more
    module _ (l ns : List ℕ) (m : ℕ) (g : Sorts l ns m) (h : m < n) (room : m < length l) (room' : m < length ns) where
      low_m : (q : ℕ) → q < m → place from q ≤ place from m
      low_m q k = later q m (omega arith)

      fits_m : name_end s (place from m) ≤ length s
      fits_m = let e = table_next (name_end s) from m in let k = later (suc m) n (omega arith) in omega arith

      abbrev p : ℕ
      p = search s l m (place from m) (size_of s Named (place from m))

      missing : Missing s l m (place from m) (size_of s Named (place from m)) p
      missing = elim (look l ns m g (place from m) low_m fits_m (omega arith)) [
        | inl f ↦
            let k = is_there l ns m g (place from m) low_m fits_m (omega arith) p f.told in
            false_true (sym (apart_at n from (get_or ns p 0) m apart (g.number p k.0) h) ∙ k.1)
        | inr f ↦ f
      ]

      abbrev w : List ℕ
      w = insert l m p (place from m)

      abbrev v : List ℕ
      v = insert ns m p m

      -- the entries of the grown arrays
      data Grown (j : ℕ) : Type 0 where
        old : (i : ℕ) → i < m → get_or w j 0 ≡ get_or l i 0 → get_or v j 0 ≡ get_or ns i 0 → Grown j
        new : get_or w j 0 ≡ place from m → get_or v j 0 ≡ m → Grown j

      after : (j : ℕ) → p < j → j < suc m → Grown j
      after zero a b = absurd (omega arith)
      after (suc j) a b =
          let i = missing.inside in
          old j (omega arith) (insert_high l m p (place from m) room i j (omega arith) (omega arith)) (insert_high ns m p m room' i j (omega arith) (omega arith))

      entry : (j : ℕ) → j < suc m → Grown j
      entry j k =
          let i = missing.inside in
          elim (dec_lt j p) [
            | yes q ↦ old j (omega arith) (insert_low l m p (place from m) room i j q) (insert_low ns m p m room' i j q)
            | no q ↦ elim (ℕ_discrete j p) [
              | yes e ↦ new (ap (λ y. get_or w y 0) e ∙ insert_at l m p (place from m) room i) (ap (λ y. get_or v y 0) e ∙ insert_at ns m p m room' i)
              | no e ↦ after j (omega arith) k
            ]
          ]

      number_of_lem : (j : ℕ) → Grown j → get_or v j 0 < suc m
      number_of_lem j (old i k a b) = let q = g.number i k in omega arith
      number_of_lem j (new a b) = omega arith

      standing_of : (j : ℕ) → Grown j → get_or w j 0 ≡ place from (get_or v j 0)
      standing_of j (old i k a b) = a ∙ g.standing i k ∙ ap (place from) (sym b)
      standing_of j (new a b) = a ∙ ap (place from) (sym b)

      only_of : (q : ℕ) → q < suc m → (j : ℕ) × (j < suc m) × (get_or v j 0 ≡ q)
      only_of q k =
          let i = missing.inside in
          elim (ℕ_discrete q m) [
            | yes e ↦ (p, omega arith, insert_at ns m p m room' i ∙ sym e)
            | no e ↦
                let r = g.only q (omega arith) in
                let x = r.1 in
                elim (dec_lt r.0 p) [
                  | yes b ↦ (r.0, omega arith, insert_low ns m p m room' i r.0 b ∙ r.2)
                  | no b ↦ (suc r.0, omega arith, insert_high ns m p m room' i r.0 (omega arith) x ∙ r.2)
                ]
          ]

      sorts_more : Sorts w v (suc m)
      sorts_more = record {
        ascends = grown s l m (place from m) (size_of s Named (place from m)) p g.ascends missing room;
        number = λ j k. number_of_lem j (entry j k);
        standing = λ j k. standing_of j (entry j k);
        only = only_of;
      }

      long_w : length w ≡ length l
      long_w = length_insert l m p (place from m) room missing.inside

      long_v : length v ≡ length ns
      long_v = length_insert ns m p m room' missing.inside

    -- all of them
    module _ (names : List ℕ) (placed : (j : ℕ) → j < n → get_or names j 0 ≡ place from j) where
      sorts_all : (k m : ℕ) (t : Sorted) → Sorts t.places t.numbers m → m + k ≡ n → n ≤ length t.places → n ≤ length t.numbers
          → Sorts (sort_from s names t m k).places (sort_from s names t m k).numbers n
      unfolding sort_from
      sorts_all zero m t g e a b = let d : m ≡ n = omega arith in subst (Sorts t.places t.numbers) d g
      sorts_all (suc k) m t g e a b =
          let l = t.places in
          let ns = t.numbers in
          let h : m < n = omega arith in
          let c = long_w l ns m g h (omega arith) (omega arith) in
          let d = long_v l ns m g h (omega arith) (omega arith) in
          subst (λ (at : ℕ). Sorts (step at).places (step at).numbers n) (sym (placed m h))
          (subst (λ (j : ℕ). Sorts (next' j).places (next' j).numbers n) (sym (add-one m))
          (sorts_all k (suc m) _ (sorts_more l ns m g h (omega arith) (omega arith)) (omega arith) (omega arith) (omega arith)))
        where
          grow : ℕ → Sorted
          grow at = let p = search s t.places m at (size_of s Named at) in record { places = insert t.places m p at; numbers = insert t.numbers m p m }

          step : ℕ → Sorted
          step at = sort_from s names (grow at) (m + 1) k

          next' : ℕ → Sorted
          next' j = sort_from s names (grow (place from m)) j k

      -- what is found of a name from the table's end on
      find_exact : (l ns : List ℕ) → Sorts l ns n → (at : ℕ) → place from n ≤ at → name_end s at ≤ length s → Finds (find s l ns n at) (number_of (table from n) (name_at s at) 0)
      unfolding find
      find_exact l ns g at h fits =
          let low : (q : ℕ) → q < n → place from q ≤ at = λ q k. let r = later q n (omega arith) in omega arith in
          let z = size_of s Named at in
          let p = search s l n at z in
          elim (look l ns n g at low fits few) [
            | inl f ↦
                let k = is_there l ns n g at low fits few p f.told in
                let q = get_or ns p 0 in
                let lq = g.number p k.0 in
                let before : (i : ℕ) → i < q → same_name (name_at s (place from i)) (name_at s at) ≡ false = λ i b. elim (tested (same_name (name_at s (place from i)) (name_at s at))) [
                  | inl e ↦ absurd (not_both at i q b lq e k.1)
                  | inr e ↦ e
                ] in
                let e : number_of (table from n) (name_at s at) 0 ≡ some q = number_at (name_at s at) n from 0 q lq k.1 before ∙ ap (λ x. some x) (omega arith) in
                subst (λ (o : Option ℕ). Finds (find s l ns n at) o) (sym e)
                (subst (λ (r : ℕ). Finds r (some q)) (pick_true (known s l n p at z) q 1024 f.told refl) (there (omega arith)))
            | inr f ↦
                let e : number_of (table from n) (name_at s at) 0 ≡ none = number_no (name_at s at) n from 0 (is_not l ns n g at low fits few p f) in
                subst (λ (o : Option ℕ). Finds (find s l ns n at) o) (sym e) (absent (sym (pick_false (known s l n p at z) (get_or ns p 0) 1024 f.told refl)))
          ]

      none_sorted : (l ns : List ℕ) → Sorts l ns 0
      none_sorted l ns = record {
        ascends = record { ups = λ i j r t. absurd (omega arith) };
        number = λ j k. absurd (omega arith);
        standing = λ j k. absurd (omega arith);
        only = λ q k. absurd (omega arith);
      }

      pub found_exact : (t : Sorted) → n ≤ length t.places → n ≤ length t.numbers → (at : ℕ) → place from n ≤ at → name_end s at ≤ length s
          → Finds (find s (sort_from s names t 0 n).places (sort_from s names t 0 n).numbers n at) (number_of (table from n) (name_at s at) 0)
      found_exact t a b = find_exact _ _ (sorts_all n 0 t (none_sorted t.places t.numbers) (omega arith) a b)
