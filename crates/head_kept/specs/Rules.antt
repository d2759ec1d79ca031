-- Annihilate, erase and commute write no word below 5.
use Prim.Native.Nat.{ℕ, zero, suc, ◌+◌}
use Rattle.std.specs.Prelude.{List, set}
use Rattle.words.specs.Choose.{eq_split}
use Rattle.layout.specs.Layout.{next, less, principal}
use Rattle.edits.specs.Edits.{insert_node}
use Rattle.tried.specs.Tries.{spent, arity, name, on_tried}
use Rattle.tried.specs.declared.Tried.{Tried}
use Rattle.tried.specs.declared.Tried.TheVariants.{Passed, Acted, Refused}
use Rattle.annihilate.specs.Annihilate as Annihilate
use Rattle.erase.specs.Erase as Erase
use Rattle.commute.specs.declared.Side.{Side}
use Rattle.commute.specs.Commute.{row, cell, link_column, copy_across, copy_both, side_of, commute, blank}
use Rattle.head_kept.specs.Words.{First, Leaves, pick_split, link_first, link_all_first, remove_wire_first, remove_node_first}
use Rattle.head_kept.specs.Lists.{placed_split, insert_node_first}

-- by what trying a rule answered
pub tried_split : {A : Type 0} (t : Tried) (a b : A) (f : ℕ → A) (P : A → Type 0) → P a → P b → ((r : ℕ) → P (f r)) → P (on_tried t a b f)
unfolding on_tried
tried_split Passed a b f P x y z = x
tried_split Acted a b f P x y z = y
tried_split (Refused r) a b f P x y z = z r

module _ {u : List ℕ} where
  pub annihilate_first : {ws : List ℕ} → First u ws → (file : List ℕ) (a b : ℕ) → First u (Annihilate.annihilate ws file a b).ws
  unfolding Annihilate.annihilate Annihilate.act
  annihilate_first {ws} f file a b =
      pick_split _ _ _ (Leaves u)
      (eq_split (arity ws a) (arity ws b) _ _ (Leaves u)
      (λ h. pick_split (spent ws) _ _ (Leaves u) f (link_all_first (arity ws a) (remove_node_first (remove_node_first f a) b) (principal a) (principal b))) (λ h. f)) f

  -- ---- erase

  part_first : {ws : List ℕ} → First u ws → (a b : ℕ) → First u (Erase.part ws a b)
  unfolding Erase.part
  part_first f a b = remove_wire_first (remove_node_first (remove_node_first f a) b) (principal a) (principal b)

  erase_ports_first : (k : ℕ) {ws : List ℕ} → First u ws → (t name p : ℕ) → First u (Erase.erase_ports ws t name p k).ws
  unfolding Erase.erase_ports
  erase_ports_first zero f t name p = f
  erase_ports_first (suc k) {ws} f t name p =
      let s = insert_node_first f t name 1 in
      placed_split (insert_node ws t name 1).is _ _ (Leaves u) (λ n. erase_ports_first k (link_first s p (principal n)) t name (next p)) (λ r. s)

  pub erase_first : {ws : List ℕ} → First u ws → (t eraser node : ℕ) → First u (Erase.erase ws t eraser node).ws
  unfolding Erase.erase Erase.act
  erase_first {ws} f t eraser node =
      eq_split (arity ws eraser) 1 _ _ (Leaves u)
      (λ h. pick_split (spent ws) _ _ (Leaves u) f (erase_ports_first (less (arity ws node)) (part_first f eraser node) t (name ws eraser) (next (principal node)))) (λ h. f)

  -- ---- commute

  column_first : (k : ℕ) {ws : List ℕ} → First u ws → (grid : List (List ℕ)) (p j i : ℕ) → First u (link_column ws grid p j i k)
  unfolding link_column
  column_first zero f grid p j i = f
  column_first (suc k) f grid p j i = column_first k (link_first f p (cell grid i j)) grid (next p) j (i + 1)

  across_first : (k : ℕ) {ws : List ℕ} → First u ws → (a : Side) (grid : List (List ℕ)) (p j : ℕ) → First u (copy_across ws a grid p j k).ws
  unfolding copy_across
  across_first zero f a grid p j = f
  across_first (suc k) {ws} f a grid p j =
      let s = insert_node_first f a.net.0 a.name (next a.count) in
      placed_split (insert_node ws a.net.0 a.name (next a.count)).is _ _ (Leaves u)
      (λ n. across_first k (column_first a.count (link_first s p (principal n)) grid (next (principal n)) j 0) a grid (next p) (j + 1)) (λ r. s)

  both_first : (k : ℕ) {ws : List ℕ} → First u ws → (a b : Side) (grid : List (List ℕ)) (p i : ℕ) → First u (copy_both ws a b grid p i k).ws
  unfolding copy_both
  both_first zero f a b grid p i = across_first b.count f a grid b.aux.0 0
  both_first (suc k) {ws} f a b grid p i =
      let s = insert_node_first f b.net.0 b.name (next b.count) in
      placed_split (insert_node ws b.net.0 b.name (next b.count)).is _ _ (Leaves u)
      (λ n. both_first k (link_first s p (principal n)) a b (set grid i (row (next (principal n)))) (next p) (i + 1)) (λ r. s)

  pub commute_first : {ws : List ℕ} → First u ws → (t a b : ℕ) → First u (commute ws t a b).ws
  unfolding commute
  commute_first {ws} f t a b =
      let x = side_of ws t a in
      pick_split (spent ws) _ _ (Leaves u) f (both_first x.count (part_first f a b) x (side_of ws t b) blank x.aux.0 0)
