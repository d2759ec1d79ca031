-- Each name in its turn leads on, until none is left: what is marked then is exactly what is reached.
use Prim.Native.Nat.{ℕ, zero, suc, ◌+◌, ◌<◌, ◌≤◌}
use Rattle.std.specs.Prelude.{◌≡◌, refl, Bool, false, get_or, replicate, eqb}
use Rattle.std.proofs.Common.{sym, ◌∙◌, length-append}
use Rattle.std.proofs.Math.Path.{ap, subst}
use Rattle.std.proofs.Math.Logic.{inl, inr}
use mathlib.Core.List.{List, [], ◌∷◌, ◌++◌}
use native.Mathlib.Omega.{arith}
use Rattle.std.proofs.Math.Decide.{ℕ_discrete}
use Rattle.std.proofs.Math.ListN.{length, length-replicate}
use Rattle.net_file.specs.Lists.{any}
use Rattle.net_file.specs.Values.{FlatNet, File}
use Rattle.list_laws.specs.Tests.{same_test}
use Rattle.words.specs.Choose.{lt_cases}
use Rattle.conversions.specs.Prune.{next, Reached, onward, join, reach}
use Rattle.prune_laws.specs.Members.{In, tested, false_true, in_here, in_there, in_cases, join_none, join_seen, join_new, join_keeps, join_adds, join_only}
use Rattle.prune_laws.specs.Exact.{Closed, Apart, apart_join, apart_few, apart_none, reached_in, entries_in, entries_only}
use Rattle.prune_laws.proofs.Exact.{reach_exact}
use Rattle.reach_names.specs.Reach.{Met, mark_all, close, from_entries}
use Rattle.reach_laws.specs.Marks.{Shows, get_left, all_shows}

-- ---- places of a list

place_of : (i : ℕ) (xs : List ℕ) → In i xs → (p : ℕ) × (p < length xs) × (get_or xs p 0 ≡ i)
place_of i [] h = false_true h
place_of i (x ∷ xs) h = elim (in_cases i x xs h) [
  | inl e ↦ (0, omega arith, sym e)
  | inr e ↦ let r = place_of i xs e in let l = r.1 in (suc r.0, omega arith, r.2)
]

in_place : (xs : List ℕ) (p : ℕ) → p < length xs → In (get_or xs p 0) xs
in_place [] p h = absurd (omega arith)
in_place (x ∷ xs) zero h = in_here x xs
in_place (x ∷ xs) (suc p) h = in_there (get_or xs p 0) x xs (in_place xs p (omega arith))

-- what stood in the list stays where it stood
join_first : (seen xs : List ℕ) (p : ℕ) → p < length seen → get_or (join seen xs) p 0 ≡ get_or seen p 0
join_first seen [] p h = ap (λ l. get_or l p 0) (join_none seen)
join_first seen (x ∷ xs) p h = elim (tested (any (eqb x) seen)) [
  | inl e ↦ ap (λ l. get_or l p 0) (join_seen seen x xs e) ∙ join_first seen xs p h
  | inr e ↦
      let g = length-append seen (x ∷ []) in
      ap (λ l. get_or l p 0) (join_new seen x xs e) ∙ join_first (seen ++ (x ∷ [])) xs p (omega arith) ∙ get_left seen (x ∷ []) p 0 h
]

module _ (f : File FlatNet) (es : List ℕ) (n : ℕ) (fits : n ≤ 1024) (small : (i j : ℕ) → In j (next f i) → j < n)
    (on : ℕ → List ℕ) (same : (i : ℕ) → i < n → on i ≡ next f i) where
  -- the names before the h-th have led on
  abbrev Led : ℕ → List ℕ → Type 0
  Led h seen = (p j : ℕ) → p < h → p < length seen → In j (next f (get_or seen p 0)) → In j seen

  record State (t : Met) (seen : List ℕ) : Type 0 where
    shows : Shows t seen
    apart : Apart n seen
    sound : (i : ℕ) → In i seen → Reached f es i
    entries : (i : ℕ) → In i es → In i seen

  record Closes (t : Met) : Type 0 where
    seen : List ℕ
    state : State t seen
    closed : Closed f seen

  all_led : (h : ℕ) (seen : List ℕ) → Led h seen → length seen ≤ h → Closed f seen
  all_led h seen l k i j m q =
      let p = place_of i seen m in
      let z = p.1 in
      l p.0 j (omega arith) z (ap (λ y. any (eqb j) (next f y)) p.2 ∙ q)

  -- one name leads on
  module _ (t : Met) (seen : List ℕ) (s : State t seen) (h : ℕ) (l : h < length seen) where
    name : ℕ
    name = get_or seen h 0

    below : name < n
    unfolding name
    below = s.apart.below (get_or seen h 0) (in_place seen h l)

    leads : on (get_or t.order h 0) ≡ next f (get_or seen h 0)
    unfolding name
    leads = ap on (s.shows.order h l) ∙ same (get_or seen h 0) below

    more : State (mark_all t (next f (get_or seen h 0))) (join seen (next f (get_or seen h 0)))
    more = record {
      shows = all_shows n fits (next f (get_or seen h 0)) t seen s.shows s.apart (small (get_or seen h 0));
      apart = apart_join n seen (next f (get_or seen h 0)) s.apart (small (get_or seen h 0));
      sound = λ i k. elim (join_only i seen (next f (get_or seen h 0)) k) [
        | inl e ↦ s.sound i e
        | inr e ↦ onward (s.sound (get_or seen h 0) (in_place seen h l)) e
      ];
      entries = λ i k. join_keeps i seen (next f (get_or seen h 0)) (s.entries i k);
    }

    led_more : Led h seen → Led (h + 1) (join seen (next f (get_or seen h 0)))
    led_more d p j a b k = elim (ℕ_discrete p h) [
      | yes e ↦
          let y : get_or (join seen (next f (get_or seen h 0))) p 0 ≡ get_or seen h 0 = ap (λ z. get_or (join seen (next f (get_or seen h 0))) z 0) e ∙ join_first seen (next f (get_or seen h 0)) h l in
          join_adds j seen (next f (get_or seen h 0)) (ap (λ z. any (eqb j) (next f z)) (sym y) ∙ k)
      | no e ↦
          let c : p < length seen = omega arith in
          let y : get_or (join seen (next f (get_or seen h 0))) p 0 ≡ get_or seen p 0 = join_first seen (next f (get_or seen h 0)) p c in
          join_keeps j seen (next f (get_or seen h 0)) (d p j (omega arith) c (ap (λ z. any (eqb j) (next f z)) (sym y) ∙ k))
    ]

  closes : (k h : ℕ) (t : Met) (seen : List ℕ) → State t seen → Led h seen → n ≤ h + k → Closes (close on t h k)
  unfolding close
  closes zero h t seen s d b =
      let l = apart_few n seen s.apart in
      record { seen = seen; state = s; closed = all_led h seen d (omega arith) }
  closes (suc k) h t seen s d b =
      let c = s.shows.count in
      elim (lt_cases h t.count (close on (mark_all t (on (get_or t.order h 0))) (h + 1) k) t) [
        | inl e ↦
            let l : h < length seen = let q = e.0 in omega arith in
            subst Closes (sym e.1) (subst (λ (xs : List ℕ). Closes (close on (mark_all t xs) (h + 1) k)) (sym (leads t seen s h l))
            (closes k (h + 1) (mark_all t (next f (get_or seen h 0))) (join seen (next f (get_or seen h 0))) (more t seen s h l) (led_more t seen s h l d) (omega arith)))
        | inr e ↦ subst Closes (sym e.1) (record { seen = seen; state = s; closed = all_led h seen d (let q = e.0 in omega arith) })
      ]

  -- ---- from the entries on

  module _ (inside : (i : ℕ) → In i es → i < n) where
    clear : Met
    clear = record { marks = replicate 1024 false; order = replicate 1024 0; count = 0 }

    none_marked : (k i : ℕ) → get_or (replicate k false) i false ≡ false
    none_marked zero i = refl
    none_marked (suc k) zero = refl
    none_marked (suc k) (suc i) = none_marked k i

    clear_shows : Shows clear []
    unfolding clear
    clear_shows = record {
      wide = length-replicate {A = Bool} 1024 false;
      long = length-replicate {A = ℕ} 1024 0;
      count = refl;
      order = λ p h. absurd (omega arith);
      marks = λ i. none_marked 1024 i;
    }

    begun : State (mark_all clear es) (join [] es)
    begun = record {
      shows = all_shows n fits es clear [] clear_shows (apart_none n) inside;
      apart = apart_join n [] es (apart_none n) inside;
      sound = entries_only f n small es;
      entries = entries_in f n small es;
    }

    ended : Closes (close on (mark_all clear es) 0 1024)
    ended = closes 1024 0 (mark_all clear es) (join [] es) begun (λ p j h k q. absurd (omega arith)) (omega arith)

    -- the marks are those of what is reached
    pub marks_exact : (i : ℕ) → get_or (from_entries on es (replicate 1024 false)) i false ≡ any (eqb i) (reach n f (join [] es))
    unfolding from_entries clear
    marks_exact i =
        let c = ended in
        let r = reach_exact f n small es inside i in
        c.state.shows.marks i ∙ same_test (any (eqb i) c.seen) (any (eqb i) (reach n f (join [] es)))
        (λ e. r.1 (c.state.sound i e)) (λ e. reached_in f es c.seen c.state.entries c.closed i (r.0 e))
