-- One turn of each loop, in the code's terms, and its ends.
use Rattle.std.specs.Prelude.{ℕ, zero, suc, ◌+◌, ◌*◌, ◌-◌, ◌/◌, ◌<◌, ◌≤◌, ◌≡◌, ◌≢◌, refl, Bool, true, false, List, length, get_or, set, take, drop}
use Rattle.std.specs.List.{between, copy_within}
use Rattle.std.specs.Cmp.{nat_cmp_is}
use Rattle.std.specs.Cmp.Lexicographic.{slice_cmp}
use Rattle.std.specs.Ordering.{ordering_then, nat_cmp, is_eq, is_lt, is_ne}
use Rattle.std.proofs.Math.Bool.{true≢false}
use Rattle.std.proofs.Common.{sym, ap, ◌∙◌, arith, sub-one, add-one, not-suc-le-zero, drop-cons, length-drop, get_or-set_other}
use Rattle.std.proofs.lemmas.List.{set_comm, get_or-drop}
use Rattle.std.proofs.lemmas.List.Edits.{paste_none, paste_more}
use lib.Seq.{paste}
use Rattle.std.specs.declared.cmp.Ordering.{Ordering}
use Rattle.std.specs.declared.cmp.Ordering.TheVariants.{Less, Equal, Greater}
use Rattle.words.specs.Choose.{pick, if_lt, lt_yes, lt_no, lt_split, pick_true, pick_false}
use Rattle.fields.specs.Fields.{byte, byte_past}
use Rattle.repeats.specs.declared.Item.{Item}
use Rattle.repeats.specs.declared.Item.TheVariants.{Path, Name}
use Rattle.repeats.specs.declared.Span.{Span}
use Rattle.repeats.specs.Repeats.{size_of, compare_from, compare, on_less, narrow, narrowed, search, known, shift, insert, differ_in}

-- ---- an item's size

-- a name whose count is past the end
pub name_short : (s : List ℕ) (at : ℕ) → length s < 11 → 11 ≡ 11 + 2 * byte s (at + 10)
name_short s at h = omega (arith, byte_past s (at + 10) (omega arith))

pub name_past : (s : List ℕ) (at : ℕ) → length s - 11 < at → 11 ≡ 11 + 2 * byte s (at + 10)
name_past s at h = omega (arith, byte_past s (at + 10) (omega arith))

pub size_path : (s : List ℕ) (item : Item) (at b : ℕ) → b ≡ byte s at → item ≡ Path → 1 + b ≡ size_of s item at
unfolding size_of
size_path s item at b e h = rw (h, e)

pub size_name : (s : List ℕ) (item : Item) (at z : ℕ) → z ≡ 11 + 2 * byte s (at + 10) → item ≡ Name → z ≡ size_of s item at
unfolding size_of
size_name s item at z e h = rw h e

-- ---- the comparison

-- the first byte that differs decides
by_first : (x y : ℕ) (o : Ordering) → ordering_then (nat_cmp x y) o ≡ if_lt x y Less (if_lt y x Greater o)
by_first x y o = lt_split x y _ _ (λ (r : Ordering). ordering_then (nat_cmp x y) o ≡ r)
    (λ h. rw (← nat_cmp_is x y Less h))
    (λ h. lt_split y x _ _ (λ (r : Ordering). ordering_then (nat_cmp x y) o ≡ r)
    (λ i. rw (← nat_cmp_is x y Greater i))
    (λ i. let e : x ≡ y = omega arith in rw (← nat_cmp_is x y Equal e)))

compared : (s : List ℕ) (a b n : ℕ) → a + n ≤ length s → b + n ≤ length s → slice_cmp nat_cmp (take n (drop a s)) (take n (drop b s)) ≡ compare_from s a b n
unfolding compare_from
compared s a b zero h i = refl
compared s a b (suc n) h i =
    let f : a < length s = omega arith in
    let g : b < length s = omega arith in
    let rest = compared s (a + 1) (b + 1) n (omega arith) (omega arith) in
    rw (drop-cons s a 0, drop-cons s b 0, ← add-one a, ← add-one b, rest) (by_first (byte s a) (byte s b) (compare_from s (a + 1) (b + 1) n))

found : (o r : Ordering) → is_ne o ≡ true → o ≡ ordering_then o r
found Less r f = refl
found Equal r f = absurd (true≢false (sym f))
found Greater r f = refl

passed : (o r : Ordering) → is_ne o ≡ false → r ≡ ordering_then o r
passed Less r f = absurd (true≢false f)
passed Equal r f = refl
passed Greater r f = absurd (true≢false f)

pub compare_past : (s : List ℕ) (a b n : ℕ) → (a + n ≤ length s → length s < b + n) → Equal ≡ compare s a b n
unfolding compare
compare_past s a b n h = lt_split (length s) (a + n) _ _ (λ (o : Ordering). Equal ≡ o) (λ i. refl) (λ i. lt_yes _ _ _ _ (h i) refl)

-- bytes that are there
pub compare_is : (s : List ℕ) (a b n : ℕ) → a + n ≤ length s → b + n ≤ length s → compare_from s a b n ≡ compare s a b n
unfolding compare
compare_is s a b n h i = lt_no _ _ _ _ h (lt_no _ _ _ _ i refl)

compare_turn : (s : List ℕ) (x y k : ℕ) → 0 < k → ordering_then (nat_cmp (byte s x) (byte s y)) (compare_from s (x + 1) (y + 1) (k - 1)) ≡ compare_from s x y k
unfolding compare_from
compare_turn s x y zero h = absurd (not-suc-le-zero h)
compare_turn s x y (suc k) h = rw sub-one (by_first (byte s x) (byte s y) (compare_from s (x + 1) (y + 1) k))

-- byte i decides, or what is behind it
module _ (s : List ℕ) (a b n i : ℕ) (o x : Ordering) (t : Bool) (e : compare_from s (a + i) (b + i) (n - i) ≡ x) (h : i < n) (eo : o ≡ nat_cmp (byte s (a + i)) (byte s (b + i))) (et : t ≡ is_ne o) where
  step : ordering_then o (compare_from s (a + i + 1) (b + i + 1) (n - i - 1)) ≡ x
  step = rw eo (compare_turn s (a + i) (b + i) (n - i) (omega arith)) ∙ e

  pub compare_found : t ≡ true → o ≡ x
  compare_found f = found o _ (sym et ∙ f) ∙ step

  pub compare_passed : t ≡ false → compare_from s (a + (i + 1)) (b + (i + 1)) (n - (i + 1)) ≡ x
  compare_passed f =
      let u : a + (i + 1) ≡ a + i + 1 = omega arith in
      let v : b + (i + 1) ≡ b + i + 1 = omega arith in
      let w : n - (i + 1) ≡ n - i - 1 = omega arith in
      rw (u, v, w) (passed o _ (sym et ∙ f) ∙ step)

pub compare_done : (s : List ℕ) (x y k : ℕ) (o : Ordering) → compare_from s x y k ≡ o → k ≤ 0 → Equal ≡ o
unfolding compare_from
compare_done s x y zero o e h = e
compare_done s x y (suc k) o e h = absurd (not-suc-le-zero h)

-- what differs in its first k bytes
front_then : (o r t : Ordering) → (is_ne r ≡ true → r ≡ t) → is_ne (ordering_then o r) ≡ true → ordering_then o r ≡ ordering_then o t
front_then Less r t f h = refl
front_then Equal r t f h = f h
front_then Greater r t f h = refl

front : (s : List ℕ) (a b k n : ℕ) → k ≤ n → is_ne (compare_from s a b k) ≡ true → compare_from s a b k ≡ compare_from s a b n
unfolding compare_from
front s a b zero n h f = absurd (true≢false (sym f))
front s a b (suc k) zero h f = absurd (not-suc-le-zero h)
front s a b (suc k) (suc n) h f =
    let g : (r : Ordering) → ordering_then (nat_cmp (byte s a) (byte s b)) r ≡ if_lt (byte s a) (byte s b) Less (if_lt (byte s b) (byte s a) Greater r) = by_first (byte s a) (byte s b) in
    let r = compare_from s (a + 1) (b + 1) k in
    let t = compare_from s (a + 1) (b + 1) n in
    sym (g r) ∙ front_then _ r t (front s (a + 1) (b + 1) k n (omega arith)) (rw (g r) f) ∙ g t

pub compare_front : (s : List ℕ) (a b k n : ℕ) (o : Ordering) (t : Bool) → o ≡ compare s a b k → k ≤ n → a + n ≤ length s → b + n ≤ length s → t ≡ is_ne o → t ≡ true → o ≡ compare s a b n
compare_front s a b k n o t e h p q et f =
    let there = compare_is s a b k (omega arith) (omega arith) in
    e ∙ sym there ∙ front s a b k n h (rw (there, ← e) (sym et ∙ f)) ∙ compare_is s a b n p q

pub compare_there : (s : List ℕ) (a b n : ℕ) (o : Ordering) → a + n ≤ length s → b + n ≤ length s → o ≡ slice_cmp nat_cmp (between a (a + n) s) (between b (b + n) s) → o ≡ compare s a b n
compare_there s a b n o h i e =
    let x : a + n - a ≡ n = omega arith in
    let y : b + n - b ≡ n = omega arith in
    e ∙ rw (x, y) (compared s a b n h i) ∙ compare_is s a b n h i

-- ---- the search

less_of : {A : Type 0} (o : Ordering) (x y : A) → is_lt o ≡ true → x ≡ on_less o x y
unfolding on_less
less_of Less x y h = refl
less_of Equal x y h = absurd (true≢false (sym h))
less_of Greater x y h = absurd (true≢false (sym h))

rest_of : {A : Type 0} (o : Ordering) (x y : A) → is_lt o ≡ false → y ≡ on_less o x y
unfolding on_less
rest_of Less x y h = absurd (true≢false h)
rest_of Equal x y h = refl
rest_of Greater x y h = refl

module _ (s l : List ℕ) (at n a : ℕ) (w : Span) (o : Ordering) (h : w.lo < w.hi) (ea : a ≡ get_or l (w.lo + (w.hi - w.lo) / 2) 0) (e : o ≡ compare s a at n) where
  pub narrow_less : (t : Bool) → t ≡ is_lt o → t ≡ true → ◌≡◌ {A = Span} (record { lo = w.lo + (w.hi - w.lo) / 2 + 1; hi = w.hi }) (narrow s l at n w)
  unfolding narrow
  narrow_less t et i = lt_yes _ _ _ _ h (rw (← ea, ← e) (less_of o _ _ (sym et ∙ i)))

  pub narrow_rest : (t : Bool) → t ≡ is_lt o → t ≡ false → ◌≡◌ {A = Span} (record { lo = w.lo; hi = w.lo + (w.hi - w.lo) / 2 }) (narrow s l at n w)
  unfolding narrow
  narrow_rest t et i = lt_yes _ _ _ _ h (rw (← ea, ← e) (rest_of o _ _ (sym et ∙ i)))

pub search_more : (s l : List ℕ) (at n k : ℕ) (w v x : Span) → narrowed s l at n w k ≡ x → 0 < k → v ≡ narrow s l at n w → narrowed s l at n v (k - 1) ≡ x
unfolding narrowed
search_more s l at n zero w v x e h ev = absurd (not-suc-le-zero h)
search_more s l at n (suc k) w v x e h ev = rw (sub-one, ev) e

pub search_done : (s l : List ℕ) (at n k : ℕ) (w x : Span) → narrowed s l at n w k ≡ x → k ≤ 0 → w.lo ≡ x.lo
unfolding narrowed
search_done s l at n zero w x e h = ap (λ v. v.lo) e
search_done s l at n (suc k) w x e h = absurd (not-suc-le-zero h)

pub known_is : (s l : List ℕ) (m p at n a : ℕ) (o : Ordering) → p < m → a ≡ get_or l p 0 → o ≡ compare s a at n → is_eq o ≡ known s l m p at n
unfolding known
known_is s l m p at n a o h ea e = lt_yes _ _ _ _ h (rw (← ea, ← e))

-- ---- the shift

-- what is written above all that move stays
shift_set : (l : List ℕ) (p k j v : ℕ) → p + k < j → shift (set l j v) p k ≡ set (shift l p k) j v
unfolding shift
shift_set l p zero j v h = refl
shift_set l p (suc k) j v h =
    let f : p + k ≢ j = omega arith in
    let g : j ≢ p + suc k = omega arith in
    rw (get_or-set_other l j (p + k) v 0 f, set_comm l j (p + suc k) v (get_or l (p + k) 0) g) (shift_set (set l (p + suc k) (get_or l (p + k) 0)) p k j v (omega arith))

shifted : (l : List ℕ) (p k : ℕ) → p + k < length l → shift l p k ≡ paste l (p + 1) (drop p l) k
unfolding shift
shifted l p zero h = paste_none l (p + 1) (drop p l)
shifted l p (suc k) h =
    let e : p + suc k ≡ p + 1 + k = omega arith in
    shift_set l p k (p + suc k) (get_or l (p + k) 0) (omega arith)
    ∙ ap (λ v. set v (p + suc k) (get_or l (p + k) 0)) (shifted l p k (omega arith))
    ∙ ap (λ j. set (paste l (p + 1) (drop p l) k) j (get_or l (p + k) 0)) e
    ∙ rw (get_or-drop, add-one k) at (paste_more l (p + 1) (drop p l) k 0 (omega arith) (rw length-drop (omega arith)))

pub insert_there : (l w : List ℕ) (m p at : ℕ) → p ≤ m → m < length l → w ≡ copy_within l p m (p + 1) → set w p at ≡ insert l m p at
unfolding insert
insert_there l w m p at h i e = lt_yes _ _ _ _ i (lt_no _ _ _ _ h (ap (λ v. set v p at) (e ∙ sym (shifted l p (m - p) (omega arith)))))

-- ---- the table

-- what is found of one item, then the rest
differ_turn : (s : List ℕ) (item : Item) (l : List ℕ) (at m k z : ℕ) → 0 < k → z ≡ size_of s item at
    → differ_in s item l at m k ≡ if_lt (length s) (at + z) false (pick (known s l m (search s l m at z) at z) false
    (differ_in s item (insert l m (search s l m at z) at) (at + z) (m + 1) (k - 1)))
unfolding differ_in
differ_turn s item l at m zero z h e = absurd (not-suc-le-zero h)
differ_turn s item l at m (suc k) z h e = rw (sub-one, e)

module _ (s : List ℕ) (item : Item) (l : List ℕ) (at m k z : ℕ) (x : Bool) (e : differ_in s item l at m k ≡ x) (h : 0 < k) (ez : z ≡ size_of s item at) where
  -- the item runs past the end
  pub differ_short : length s < z → false ≡ x
  differ_short i = lt_yes _ _ _ _ (omega arith) refl ∙ sym (differ_turn s item l at m k z h ez) ∙ e

  pub differ_past : length s - z < at → false ≡ x
  differ_past i = lt_yes _ _ _ _ (omega arith) refl ∙ sym (differ_turn s item l at m k z h ez) ∙ e

  pub differ_known : (p : ℕ) (t : Bool) → z ≤ length s → at ≤ length s - z → p ≡ search s l m at z → t ≡ known s l m p at z → t ≡ true → false ≡ x
  differ_known p t i j ep et ht = lt_no _ _ _ _ (omega arith) (pick_true _ _ _ (rw (← ep) (sym et ∙ ht)) refl) ∙ sym (differ_turn s item l at m k z h ez) ∙ e

  pub differ_more : (w : List ℕ) (p : ℕ) (t : Bool) → z ≤ length s → at ≤ length s - z → p ≡ search s l m at z → t ≡ known s l m p at z → t ≡ false
      → w ≡ insert l m p at → differ_in s item w (at + z) (m + 1) (k - 1) ≡ x
  differ_more w p t i j ep et ht ew = rw (ew, ep) (lt_no _ _ _ _ (omega arith) (pick_false _ _ _ (rw (← ep) (sym et ∙ ht)) refl) ∙ sym (differ_turn s item l at m k z h ez) ∙ e)

pub differ_done : (s : List ℕ) (item : Item) (l : List ℕ) (at m k : ℕ) (x : Bool) → differ_in s item l at m k ≡ x → k ≤ 0 → true ≡ x
unfolding differ_in
differ_done s item l at m zero x e h = e
differ_done s item l at m (suc k) x e h = absurd (not-suc-le-zero h)
