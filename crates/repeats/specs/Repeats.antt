-- Whether n items of a table are pairwise different, as the code finds out: the places of those already seen, sorted by what
-- stands there. What it means is in `repeats_laws`.
use Rattle.std.specs.Prelude.{ℕ, zero, suc, ◌+◌, ◌*◌, ◌-◌, ◌/◌, Bool, true, false, List, length, get_or, set, replicate}
use Rattle.std.specs.declared.cmp.Ordering.{Ordering}
use Rattle.std.specs.declared.cmp.Ordering.TheVariants.{Less, Equal, Greater}
use Rattle.std.specs.Ordering.{is_eq}
use Rattle.words.specs.Choose.{pick, if_lt}
use Rattle.fields.specs.Fields.{byte}
use Rattle.repeats.specs.declared.Item.{Item}
use Rattle.repeats.specs.declared.Item.TheVariants.{Path, Name}
use Rattle.repeats.specs.declared.Span.{Span}

-- a path is a count of one byte and as many bytes; a name is 10 bytes, a count, and as many numbers of two bytes
unfoldable pub size_of : List ℕ → Item → ℕ → ℕ
size_of s Path at = 1 + byte s at
size_of s Name at = 11 + 2 * byte s (at + 10)

-- the first difference among n bytes
unfoldable pub compare_from : List ℕ → ℕ → ℕ → ℕ → Ordering
compare_from s a b zero = Equal
compare_from s a b (suc n) =
    let r = compare_from s (a + 1) (b + 1) n in
    if_lt (byte s a) (byte s b) Less (if_lt (byte s b) (byte s a) Greater r)

unfoldable pub compare : List ℕ → ℕ → ℕ → ℕ → Ordering
compare s a b n =
    let r = compare_from s a b n in
    if_lt (length s) (a + n) Equal (if_lt (length s) (b + n) Equal r)

unfoldable pub on_less : {A : Type 0} → Ordering → A → A → A
on_less Less a b = a
on_less Equal a b = b
on_less Greater a b = b

module _ (s l : List ℕ) where
  unfoldable pub narrow : ℕ → ℕ → Span → Span
  narrow at n w =
      let mid = w.lo + (w.hi - w.lo) / 2 in
      let o = compare s (get_or l mid 0) at n in
      if_lt w.lo w.hi (on_less o (record { lo = mid + 1; hi = w.hi }) (record { lo = w.lo; hi = mid })) w

  unfoldable pub narrowed : ℕ → ℕ → Span → ℕ → Span
  narrowed at n w zero = w
  narrowed at n w (suc k) = narrowed at n (narrow at n w) k

  unfoldable pub search : ℕ → ℕ → ℕ → ℕ
  search m at n = (narrowed at n (record { lo = 0; hi = m }) 11).lo

  unfoldable pub known : ℕ → ℕ → ℕ → ℕ → Bool
  known m p at n = if_lt p m (is_eq (compare s (get_or l p 0) at n)) false

-- the k entries from p on, up by one
unfoldable pub shift : List ℕ → ℕ → ℕ → List ℕ
shift l p zero = l
shift l p (suc k) = shift (set l (p + suc k) (get_or l (p + k) 0)) p k

unfoldable pub insert : List ℕ → ℕ → ℕ → ℕ → List ℕ
insert l m p at = if_lt m (length l) (if_lt m p l (set (shift l p (m - p)) p at)) l

-- k more items from `at` on, where l holds the places of the m before them
unfoldable pub differ_in : List ℕ → Item → List ℕ → ℕ → ℕ → ℕ → Bool
differ_in s item l at m zero = true
differ_in s item l at m (suc k) =
    let z = size_of s item at in
    let p = search s l m at z in
    let r = differ_in s item (insert l m p at) (at + z) (m + 1) k in
    if_lt (length s) (at + z) false (pick (known s l m p at z) false r)

unfoldable pub differ : List ℕ → ℕ → ℕ → Item → Bool
differ s at n item = if_lt 1024 n false (if_lt 64 n (differ_in s item (replicate 1024 0) at 0 n) (differ_in s item (replicate 64 0) at 0 n))
