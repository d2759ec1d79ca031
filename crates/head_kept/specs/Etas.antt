-- Eta writes no word below 5.
use Prim.Native.Nat.{ℕ, zero, suc}
use Rattle.std.specs.Prelude.{List}
use Rattle.words.specs.Choose.{eq_split}
use Rattle.layout.specs.Layout.{next, less, across, principal}
use Rattle.edits.specs.Edits.{insert_node}
use Rattle.tried.specs.Tries.{spent, arity, name}
use Rattle.eta_values.specs.Values.{aux, meets, drop_value, drop_values, remove_values, put_value, act_values, eta_values_words}
use Rattle.eta.specs.Eta.{drop_straight, drop_all_straight, join_around, act_combinators, eta_combinators, odd_port, eta_reduce}
use Rattle.head_kept.specs.Words.{First, Leaves, pick_split, link_first, remove_wire_first, remove_node_first}
use Rattle.head_kept.specs.Lists.{placed_split, insert_node_first}

module _ {u : List ℕ} where
  -- ---- values

  drop_value_first : {ws : List ℕ} → First u ws → (p : ℕ) → First u (drop_value ws p)
  unfolding drop_value
  drop_value_first {ws} f p = remove_wire_first (remove_node_first f (meets ws p)) p (principal (meets ws p))

  drop_values_first : (k : ℕ) {ws : List ℕ} → First u ws → (p : ℕ) → First u (drop_values ws p k)
  unfolding drop_values
  drop_values_first zero f p = f
  drop_values_first (suc k) f p = drop_values_first k (drop_value_first f p) (next p)

  put_value_first : {ws : List ℕ} → First u ws → (t n a : ℕ) → First u (put_value ws t n a).ws
  unfolding put_value
  put_value_first {ws} f t n a =
      let s = insert_node_first f t a 1 in
      placed_split (insert_node ws t a 1).is _ _ (Leaves u) (λ m. link_first s (principal n) (principal m)) (λ r. s)

  eta_values_first : {ws : List ℕ} → First u ws → (file sets : List ℕ) (r t n k : ℕ) → First u (eta_values_words ws file sets r t n k).ws
  unfolding eta_values_words act_values remove_values
  eta_values_first {ws} f file sets r t n k =
      let a = name ws (meets ws (aux n)) in
      pick_split _ _ _ (Leaves u)
      (pick_split _ _ _ (Leaves u) (pick_split (spent ws) _ _ (Leaves u) f (put_value_first (drop_values_first k (remove_node_first f n) (aux n)) t n a)) f) f

  -- ---- combinators

  drop_straight_first : {ws : List ℕ} → First u ws → (p q : ℕ) → First u (drop_straight ws p q)
  unfolding drop_straight
  drop_straight_first {ws} f p q =
      eq_split (across ws p) q _ _ (First u) (λ h. remove_wire_first f p q) (λ h. drop_value_first (drop_value_first f p) q)

  drop_all_straight_first : (k : ℕ) {ws : List ℕ} → First u ws → (p q : ℕ) → First u (drop_all_straight ws p q k)
  unfolding drop_all_straight
  drop_all_straight_first zero f p q = f
  drop_all_straight_first (suc k) f p q = drop_all_straight_first k (drop_straight_first f p q) (next p) (next q)

  eta_combinators_first : {ws : List ℕ} → First u ws → (file sets : List ℕ) (r a b k : ℕ) → First u (eta_combinators ws file sets r a b k).ws
  unfolding eta_combinators act_combinators join_around
  eta_combinators_first {ws} f file sets r a b k =
      pick_split _ _ _ (Leaves u)
      (pick_split _ _ _ (Leaves u)
      (pick_split (spent ws) _ _ (Leaves u) f
      (drop_all_straight_first k (link_first (remove_node_first (remove_node_first f a) b) (principal a) (principal b)) (aux a) (aux b))) f) f

  -- ---- the rule

  pub eta_reduce_first : {ws : List ℕ} → First u ws → (file sets : List ℕ) (r t n : ℕ) → First u (eta_reduce ws file sets r t n).ws
  unfolding eta_reduce
  eta_reduce_first {ws} f file sets r t n =
      let k = less (arity ws n) in
      let q = odd_port ws (aux n) k in
      eq_split k 0 _ _ (Leaves u) (λ h. f) (λ h. eq_split q 0 _ _ (Leaves u) (λ h. eta_values_first f file sets r t n k) (λ h. eta_combinators_first f file sets r n (meets ws q) k))
