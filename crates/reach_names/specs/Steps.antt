-- Each way out, and one turn of each loop, in the code's terms.
use Prim.Native.Nat.{ℕ, zero, suc, ◌+◌, ◌*◌, ◌-◌, ◌<◌, ◌≤◌}
use Rattle.std.specs.Prelude.{◌≡◌, Bool, true, false, length, get_or, set, drop, replicate}
use Rattle.std.proofs.Math.Path.{refl, sym, ap}
use Rattle.std.proofs.Common.{◌∙◌, subst, add-one, not-suc-le-zero, drop_of_length-le, drop-cons}
use mathlib.Core.List.{List, [], ◌∷◌, ◌++◌}
use native.Mathlib.Omega.{arith}
use Rattle.std.proofs.Math.Numerals.{sub-one}
use Rattle.words.specs.Choose.{lt_yes, lt_no, eq_yes, eq_no, pick_true, pick_false}
use Rattle.fields.specs.Fields.{byte, be16}
use Rattle.stored.specs.Stored.{table_at, numbers_at, list_at, node_end, node_count_at, name_count_at, net_count_at}
use Rattle.ends.specs.Ends.{within, on}
use Rattle.name_table.specs.Table.{name_places, net_places, sorted_part, number_part, find}
use Rattle.reach_names.specs.Reach.{Met, mark, mark_all, from_node_words, from_nodes, from_net, onward, close, from_entries, with_names, reached}

-- ---- a contract's three equations from one

pub met : (x : Met) {c : ℕ} {ms : List Bool} {o : List ℕ} → ◌≡◌ {A = Met} (record { marks = ms; order = o; count = c }) x → (c ≡ x.count) × (ms ≡ x.marks) × (o ≡ x.order)
met x e = (ap (λ t. t.count) e, ap (λ t. t.marks) e, ap (λ t. t.order) e)

-- and one from three
pub whole : (x : Met) {c : ℕ} {ms : List Bool} {o : List ℕ} → c ≡ x.count → ms ≡ x.marks → o ≡ x.order → ◌≡◌ {A = Met} (record { marks = ms; order = o; count = c }) x
whole x e f g = λ i. record { marks = f i; order = g i; count = e i }

-- ---- mark

module _ (ms : List Bool) (o : List ℕ) (n i : ℕ) where
  pub mark_past : length ms ≤ i → record { marks = ms; order = o; count = n } ≡ mark (record { marks = ms; order = o; count = n }) i
  unfolding mark
  mark_past h = lt_no _ _ _ _ h refl

  pub mark_full : i < length ms → length o ≤ n → record { marks = ms; order = o; count = n } ≡ mark (record { marks = ms; order = o; count = n }) i
  unfolding mark
  mark_full h l = lt_yes _ _ _ _ h (lt_no _ _ _ _ l refl)

  module _ (h : i < length ms) (l : n < length o) where
    pub mark_known : get_or ms i false ≡ true → record { marks = ms; order = o; count = n } ≡ mark (record { marks = ms; order = o; count = n }) i
    unfolding mark
    mark_known e = lt_yes _ _ _ _ h (lt_yes _ _ _ _ l (pick_true _ _ _ e refl))

    pub mark_new : get_or ms i false ≡ false → record { marks = set ms i true; order = set o n i; count = n + 1 } ≡ mark (record { marks = ms; order = o; count = n }) i
    unfolding mark
    mark_new e = lt_yes _ _ _ _ h (lt_yes _ _ _ _ l (pick_false _ _ _ e refl))

-- ---- lists

pub all_append : (t : Met) (xs ys : List ℕ) → mark_all t (xs ++ ys) ≡ mark_all (mark_all t xs) ys
unfolding mark_all
all_append t [] ys = refl
all_append t (x ∷ xs) ys = all_append (mark t x) xs ys

module _ (ms ns : List Bool) (o p : List ℕ) (c d : ℕ) (x : Met) where
  pub entries_more : (es : List ℕ) (e j : ℕ) → mark_all (record { marks = ms; order = o; count = c }) (drop j es) ≡ x → j < length es → e ≡ get_or es j 0
      → d ≡ (mark (record { marks = ms; order = o; count = c }) e).count → ns ≡ (mark (record { marks = ms; order = o; count = c }) e).marks
      → p ≡ (mark (record { marks = ms; order = o; count = c }) e).order
      → mark_all (record { marks = ns; order = p; count = d }) (drop (j + 1) es) ≡ x
  unfolding mark_all
  entries_more es e j g h ee ed en ep =
      let w : record { marks = ns; order = p; count = d } ≡ mark (record { marks = ms; order = o; count = c }) (get_or es j 0) = whole _ (rw ee at ed) (rw ee at en) (rw ee at ep) in
      rw (w, add-one) (rw (drop-cons es j 0 h) at g)

  pub list_more : (s : List ℕ) (at i j k : ℕ) → mark_all (record { marks = ms; order = o; count = c }) (numbers_at s (at + (1 + 2 * j)) k) ≡ x → 0 < k → i ≡ be16 s (at + (1 + 2 * j))
      → d ≡ (mark (record { marks = ms; order = o; count = c }) i).count → ns ≡ (mark (record { marks = ms; order = o; count = c }) i).marks
      → p ≡ (mark (record { marks = ms; order = o; count = c }) i).order
      → mark_all (record { marks = ns; order = p; count = d }) (numbers_at s (at + (1 + 2 * (j + 1))) (k - 1)) ≡ x
  unfolding mark_all numbers_at table_at
  list_more s at i j zero g h ei ed en ep = absurd (not-suc-le-zero h)
  list_more s at i j (suc k) g h ei ed en ep =
      let a : at + (1 + 2 * j) + 2 ≡ at + (1 + 2 * (j + 1)) = omega arith in
      let w : record { marks = ns; order = p; count = d } ≡ mark (record { marks = ms; order = o; count = c }) i = whole _ ed en ep in
      rw (w, sub-one, ei) (rw a at g)

pub entries_done : (ms : List Bool) (o es : List ℕ) (c j : ℕ) (x : Met) → mark_all (record { marks = ms; order = o; count = c }) (drop j es) ≡ x → length es ≤ j
    → record { marks = ms; order = o; count = c } ≡ x
unfolding mark_all
entries_done ms o es c j x g h = rw (drop_of_length-le es h) at g

pub list_start : (s : List ℕ) (at k : ℕ) (t : Met) → k ≡ byte s at → mark_all t (numbers_at s (at + (1 + 2 * 0)) k) ≡ mark_all t (list_at s at)
unfolding list_at
list_start s at k t e = let a : at + (1 + 2 * 0) ≡ at + 1 = omega arith in rw (e, a)

pub list_done : (ms : List Bool) (o s : List ℕ) (c a k : ℕ) (x : Met) → mark_all (record { marks = ms; order = o; count = c }) (numbers_at s a k) ≡ x → k ≤ 0
    → record { marks = ms; order = o; count = c } ≡ x
unfolding mark_all numbers_at table_at
list_done ms o s c a zero x g h = g
list_done ms o s c a (suc k) x g h = absurd (not-suc-le-zero h)

-- ---- nodes

module _ (found : ℕ → ℕ) (s : List ℕ) (ms ns : List Bool) (o p : List ℕ) (c d at : ℕ) where
  pub node_found : (i : ℕ) → i ≡ found at → i < 1024 → d ≡ (mark (record { marks = ms; order = o; count = c }) i).count → ns ≡ (mark (record { marks = ms; order = o; count = c }) i).marks
      → p ≡ (mark (record { marks = ms; order = o; count = c }) i).order
      → record { marks = ns; order = p; count = d } ≡ mark_all (record { marks = ms; order = o; count = c }) (from_node_words found s at)
  unfolding from_node_words mark_all
  node_found i e h ed en ep =
      let l : i ∷ [] ≡ from_node_words found s at = lt_yes _ _ _ _ (rw (← e) h) (rw e) in
      rw (← l) (whole _ ed en ep)

  pub node_other : (i a : ℕ) → i ≡ found at → 1024 ≤ i → a ≡ on s at 10
      → d ≡ (mark_all (record { marks = ms; order = o; count = c }) (list_at s a)).count → ns ≡ (mark_all (record { marks = ms; order = o; count = c }) (list_at s a)).marks
      → p ≡ (mark_all (record { marks = ms; order = o; count = c }) (list_at s a)).order
      → record { marks = ns; order = p; count = d } ≡ mark_all (record { marks = ms; order = o; count = c }) (from_node_words found s at)
  unfolding from_node_words
  node_other i a e h ea ed en ep =
      let l : list_at s a ≡ from_node_words found s at = lt_no _ _ _ _ (rw (← e) h) (rw ea) in
      rw (← l) (whole _ ed en ep)

  pub nodes_more : (a k : ℕ) (x : Met) → mark_all (record { marks = ms; order = o; count = c }) (from_nodes found s at k) ≡ x → 0 < k
      → d ≡ (mark_all (record { marks = ms; order = o; count = c }) (from_node_words found s at)).count
      → ns ≡ (mark_all (record { marks = ms; order = o; count = c }) (from_node_words found s at)).marks
      → p ≡ (mark_all (record { marks = ms; order = o; count = c }) (from_node_words found s at)).order
      → a ≡ within s (node_end s at) → mark_all (record { marks = ns; order = p; count = d }) (from_nodes found s a (k - 1)) ≡ x
  unfolding from_nodes
  nodes_more a zero x g h ed en ep ea = absurd (not-suc-le-zero h)
  nodes_more a (suc k) x g h ed en ep ea =
      let w : record { marks = ns; order = p; count = d } ≡ mark_all (record { marks = ms; order = o; count = c }) (from_node_words found s at) = whole _ ed en ep in
      rw (w, sub-one, ea) (sym (all_append _ (from_node_words found s at) _) ∙ g)

pub nodes_done : (found : ℕ → ℕ) (s : List ℕ) (ms : List Bool) (o : List ℕ) (c a k : ℕ) (x : Met) → mark_all (record { marks = ms; order = o; count = c }) (from_nodes found s a k) ≡ x → k ≤ 0
    → record { marks = ms; order = o; count = c } ≡ x
unfolding mark_all from_nodes
nodes_done found s ms o c a zero x g h = g
nodes_done found s ms o c a (suc k) x g h = absurd (not-suc-le-zero h)

-- ---- a name

module _ (found : ℕ → ℕ) (s names nets : List ℕ) (ms ns : List Bool) (o p : List ℕ) (c d i x a y : ℕ) (ex : x ≡ get_or names i 0) (ea : a ≡ on s x 10)
    (ed : d ≡ (mark_all (record { marks = ms; order = o; count = c }) (list_at s a)).count) (en : ns ≡ (mark_all (record { marks = ms; order = o; count = c }) (list_at s a)).marks)
    (ep : p ≡ (mark_all (record { marks = ms; order = o; count = c }) (list_at s a)).order) (ey : y ≡ get_or nets i 0) where
  list_is : list_at s a ≡ list_at s (on s (get_or names i 0) 10)
  list_is = rw (ea, ex)

  after_list : ◌≡◌ {A = Met} (record { marks = ns; order = p; count = d }) (mark_all (record { marks = ms; order = o; count = c }) (list_at s (on s (get_or names i 0) 10)))
  after_list = whole _ (rw list_is at ed) (rw list_is at en) (rw list_is at ep)

  pub visit_alone : y ≡ 0 → record { marks = ns; order = p; count = d } ≡ mark_all (record { marks = ms; order = o; count = c }) (onward found s names nets i)
  unfolding onward from_net mark_all
  visit_alone z =
      let e : [] ≡ from_net found s (get_or nets i 0) = eq_yes _ _ _ _ (sym ey ∙ z) refl in
      rw (← e) (after_list ∙ sym (all_append _ (list_at s (on s (get_or names i 0) 10)) []))

  pub visit_net : (ls : List Bool) (r : List ℕ) (b q f n : ℕ) → (y ≡ 0 → ⊥) → q ≡ within s (node_count_at s y) → f ≡ on s q 2 → n ≡ be16 s q
      → b ≡ (mark_all (record { marks = ns; order = p; count = d }) (from_nodes found s f n)).count
      → ls ≡ (mark_all (record { marks = ns; order = p; count = d }) (from_nodes found s f n)).marks
      → r ≡ (mark_all (record { marks = ns; order = p; count = d }) (from_nodes found s f n)).order
      → record { marks = ls; order = r; count = b } ≡ mark_all (record { marks = ms; order = o; count = c }) (onward found s names nets i)
  unfolding onward from_net
  visit_net ls r b q f n z eq ef en' eb el er =
      let e : from_nodes found s f n ≡ from_net found s (get_or nets i 0) = eq_no _ _ _ _ (λ w. z (ey ∙ w)) (rw (ef, en', eq, ey)) in
      rw (← e) (whole _ eb el er ∙ ap (λ t. mark_all t (from_nodes found s f n)) after_list ∙ sym (all_append _ (list_at s (on s (get_or names i 0) 10)) _))

-- ---- close

module _ (next : ℕ → List ℕ) (ms : List Bool) (o : List ℕ) (c h k : ℕ) (x : Met) (g : close next (record { marks = ms; order = o; count = c }) h k ≡ x) where
  close_turn : (k : ℕ) → 0 < k → (t : Met) → (h < t.count → close next (mark_all t (next (get_or t.order h 0))) (h + 1) (k - 1) ≡ close next t h k) × (t.count ≤ h → t ≡ close next t h k)
  unfolding close
  close_turn zero p t = absurd (not-suc-le-zero p)
  close_turn (suc k) p t = (λ l. lt_yes _ _ _ _ l (rw sub-one), λ l. lt_no _ _ _ _ l refl)

  pub close_more : (ns : List Bool) (p : List ℕ) (d i : ℕ) → 0 < k → h < c → i ≡ get_or o h 0 → d ≡ (mark_all (record { marks = ms; order = o; count = c }) (next i)).count
      → ns ≡ (mark_all (record { marks = ms; order = o; count = c }) (next i)).marks → p ≡ (mark_all (record { marks = ms; order = o; count = c }) (next i)).order
      → close next (record { marks = ns; order = p; count = d }) (h + 1) (k - 1) ≡ x
  close_more ns p d i z l ei ed en ep =
      let w : record { marks = ns; order = p; count = d } ≡ mark_all (record { marks = ms; order = o; count = c }) (next (get_or o h 0)) = whole _ (rw ei at ed) (rw ei at en) (rw ei at ep) in
      rw w ((close_turn k z _).0 l ∙ g)

  close_rest : 0 < k → c ≤ h → record { marks = ms; order = o; count = c } ≡ x
  close_rest z l = (close_turn k z _).1 l ∙ g

  close_done : k ≤ 0 → record { marks = ms; order = o; count = c } ≡ x
  unfolding close
  close_done z = go k z g
    where
      go : (k : ℕ) → k ≤ 0 → close next (record { marks = ms; order = o; count = c }) h k ≡ x → record { marks = ms; order = o; count = c } ≡ x
      go zero z g = g
      go (suc k) z g = absurd (not-suc-le-zero z)

  pub rest_marks : 0 < k → c ≤ h → ms ≡ x.marks
  rest_marks z l = ap (λ t. t.marks) (close_rest z l)

  pub rest_order : 0 < k → c ≤ h → o ≡ x.order
  rest_order z l = ap (λ t. t.order) (close_rest z l)

  pub done_marks : k ≤ 0 → ms ≡ x.marks
  done_marks z = ap (λ t. t.marks) (close_done z)

  pub done_order : k ≤ 0 → o ≡ x.order
  done_order z = ap (λ t. t.order) (close_done z)

-- ---- with the tables

pub entries_closed : (next : ℕ → List ℕ) (es : List ℕ) (ms ns ls : List Bool) (o p : List ℕ) (c : ℕ) → o ≡ replicate 1024 0
    → c ≡ (mark_all (record { marks = ms; order = o; count = 0 }) es).count → ns ≡ (mark_all (record { marks = ms; order = o; count = 0 }) es).marks
    → p ≡ (mark_all (record { marks = ms; order = o; count = 0 }) es).order → ls ≡ (close next (record { marks = ns; order = p; count = c }) 0 1024).marks
    → ls ≡ from_entries next es ms
unfolding from_entries
entries_closed next es ms ns ls o p c eo ec en ep el =
    let w : record { marks = ns; order = p; count = c } ≡ mark_all (record { marks = ms; order = o; count = 0 }) es = whole _ ec en ep in
    subst (λ (q : List ℕ). ls ≡ (close next (mark_all (record { marks = ms; order = q; count = 0 }) es) 0 1024).marks) eo (rw (← w) el)

pub names_ready : (s nets es names sorted numbers z y x : List ℕ) (ms ls : List Bool) (q f n : ℕ) → q ≡ within s (name_count_at s) → n ≡ be16 s q → f ≡ on s q 2
    → z ≡ replicate 1024 0 → y ≡ replicate 1024 0 → x ≡ replicate 1024 0
    → names ≡ name_places s z f 0 n → sorted ≡ sorted_part s names y x n → numbers ≡ number_part s names y x n
    → ls ≡ from_entries (onward (find s sorted numbers n) s names nets) es ms → ls ≡ with_names s nets es ms
unfolding with_names
names_ready s nets es names sorted numbers z y x ms ls q f n eq en ef ez ey ex e1 e2 e3 el =
    rw (← eq, ← en, ← ef) (subst (λ (a : List ℕ). ls ≡ from_entries (onward (find s (sorted_part s (name_places s a f 0 n) a a n) (number_part s (name_places s a f 0 n) a a n) n) s (name_places s a f 0 n) nets) es ms) ez
    (rw (← e1, ← e2', ← e3') el))
  where
    zy : z ≡ y
    zy = ez ∙ sym ey

    zx : z ≡ x
    zx = ez ∙ sym ex

    e2' : sorted ≡ sorted_part s names z z n
    e2' = e2 ∙ (λ i. sorted_part s names (sym zy i) (sym zx i) n)

    e3' : numbers ≡ number_part s names z z n
    e3' = e3 ∙ (λ i. number_part s names (sym zy i) (sym zx i) n)

pub nets_ready : (s nets es z : List ℕ) (ms ls : List Bool) (q f n : ℕ) → q ≡ within s (net_count_at s) → n ≡ be16 s q → f ≡ on s q 2 → z ≡ replicate 1024 0
    → nets ≡ net_places s z f n → ls ≡ with_names s nets es ms → ls ≡ reached s es ms
unfolding reached
nets_ready s nets es z ms ls q f n eq en ef ez e1 el =
    rw (← eq, ← en, ← ef) (subst (λ (a : List ℕ). ls ≡ with_names s (net_places s a f n) es ms) ez (rw (← e1) el))
