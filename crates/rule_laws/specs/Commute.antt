-- Commute: copies of b on a's aux ports, copies of a on b's, joined crosswise.
use Rattle.std.specs.Prelude.{◌≡◌, ◌≢◌, ◌⊎◌, Bool, true, false, length}
use Rattle.std.proofs.Math.Path.{refl}
use Rattle.std.proofs.Common.{sym, ap, ◌∙◌, subst, inr}
use Rattle.std.proofs.Math.Logic.{inl}
use Prim.Native.Nat.{ℕ, zero, suc, ◌+◌, ◌-◌, ◌<◌, ◌≤◌}
use Rattle.std.proofs.Math.Decide.{ℕ_discrete}
use native.Mathlib.Omega.{arith}
use Rattle.std.proofs.Math.Option.{Option, none, some, some-injective}
use mathlib.Core.List.{List, [], ◌∷◌, ◌++◌, map, Memᴰ}
use Rattle.std.proofs.Math.ListN.{length-replicate}
use Rattle.net_file.specs.Lists.{concat_map}
use Rattle.definitions.specs.Lists.{or_else, foldl, from, up_to}
use Rattle.definitions.specs.Nets.{Port, Node, Graph, port, at, filled, name_of, arity, across}
use Rattle.definitions.specs.Scripts.{Edit, Insert, Join, Cut, Script, fill, join, cut, apply}
use Rattle.definitions.specs.Rules.{new, hang, commute_script}
use Rattle.definitions.specs.Step.{Fresh}
use Rattle.join_laws.specs.Ports.{Frame, no_frame, frame, frame_of, arity_frame, arity_same, net_frame, net_same, filled_same, Real}
use Rattle.join_laws.specs.Link.{frame_cut}
use Rattle.join_laws.proofs.Join.{frame_join}
use Rattle.script_laws.specs.Slots.{frame_fill_same, frame_fill_other}
use Rattle.script_laws.specs.Safe.{With, was, first, second, Safe}
use Rattle.script_laws.proofs.Safe.{safe_append}
use Rattle.script_laws.specs.Loops.{Or, left, right, Row, Apart, hung, hangs_safe}
use Rattle.script_laws.specs.Tidy.{WellWired, Tidy}
use Rattle.rule_laws.specs.Ids.{distinct_two}
use Rattle.rule_laws.specs.Places.{new_holes, one_of_two, not_fresh, Meet, meet, Clean, tidy_clean}
use Rattle.rule_laws.specs.Columns.{column, Columns, Numbers}

-- ---- the frames after a run of hung nodes

module _ (P : ℕ → Port) (N : ℕ → ℕ) (x : Node) where
  hung_other : (c k : ℕ) (g : Graph) (n : ℕ) → ((i : ℕ) → k ≤ i → i < k + c → n ≢ N i) → frame (foldl apply g (concat_map (hung P N x) (from k c))) n ≡ frame g n
  unfolding apply
  hung_other zero k g n h = refl
  hung_other (suc c) k g n h =
      hung_other c (suc k) (join (fill g (N k) x) (P k) (port (N k) 0)) n (λ i l m. h i (omega arith) (omega arith))
      ∙ frame_join (fill g (N k) x) (P k) (port (N k) 0) n ∙ frame_fill_other g (N k) n x (h k (omega arith) (omega arith))

  hung_new : ((i j : ℕ) → N i ≡ N j → i ≡ j) → (c k : ℕ) (g : Graph) (i : ℕ) → k ≤ i → i < k + c
      → frame (foldl apply g (concat_map (hung P N x) (from k c))) (N i) ≡ frame_of (some x)
  unfolding apply
  hung_new ap' zero k g i l m = absurd (omega arith)
  hung_new ap' (suc c) k g i l m = go (ℕ_discrete i k) (hung_new ap' c (suc k) (join (fill g (N k) x) (P k) (port (N k) 0)) i)
    where
      h : Graph
      h = join (fill g (N k) x) (P k) (port (N k) 0)

      go : Dec (i ≡ k) → (suc k ≤ i → i < suc k + c → frame (foldl apply (join (fill g (N k) x) (P k) (port (N k) 0)) (concat_map (hung P N x) (from (suc k) c))) (N i) ≡ frame_of (some x))
          → frame (foldl apply (join (fill g (N k) x) (P k) (port (N k) 0)) (concat_map (hung P N x) (from (suc k) c))) (N i) ≡ frame_of (some x)
      go (yes e) ih =
          hung_other c (suc k) (join (fill g (N k) x) (P k) (port (N k) 0)) (N i) (λ j a b s. let z = ap' i j s in omega arith)
          ∙ frame_join (fill g (N k) x) (P k) (port (N k) 0) (N i) ∙ ap (λ (t : ℕ). frame (fill g (N k) x) (N t)) e ∙ frame_fill_same g (N k) x
      go (no e) ih = ih (omega arith) (omega arith)

-- ---- the script

module _ (fresh : ℕ → ℕ) (g : Graph) (w : WellWired g) (f : Fresh g fresh) (a b : ℕ) (met : across g (port a 0) ≡ some (port b 0)) where
  pub t : Meet g a b
  t = meet g w.wired a b met

  abbrev pub m : ℕ
  m = arity g a - 1

  abbrev pub c : ℕ
  c = arity g b - 1

  abbrev pub x : Node
  x = new (at g a).net (name_of g b) (arity g b)

  abbrev pub y : Node
  y = new (at g a).net (name_of g a) (arity g a)

  abbrev pub cols : ℕ → ℕ
  cols j = fresh (m + j)

  abbrev pub P : ℕ → Port
  P i = port a (1 + i)

  abbrev pub Q : ℕ → Port
  Q i = port (fresh i) 0

  abbrev pub Cuts : Port → Type 0
  Cuts = With (λ _. ⊥) (port a 0) (port b 0)

  abbrev pub Rows : Port → Type 0
  Rows = Or Cuts (Row P Q 0 m)

  abbrev pub Cols : Port → Type 0
  Cols = Columns b m c fresh cols 0

  abbrev pub Ends : Port → Type 0
  Ends = Or Rows Cols

  abbrev pub commuted : Script
  commuted = record {
    edits = Cut (port a 0) (port b 0) ∷ concat_map (hung P fresh x) (up_to m) ++ concat_map (column b m c fresh cols y) (up_to c);
    dead = a ∷ b ∷ [];
  }

  -- after the cut, and after the rows
  abbrev pub g₁ : Graph
  g₁ = cut g (port a 0) (port b 0)

  abbrev pub g₂ : Graph
  g₂ = foldl apply g₁ (concat_map (hung P fresh x) (up_to m))

  pub size_x : length x.ports ≡ arity g b
  unfolding new
  size_x = length-replicate (arity g b) none

  pub size_y : length y.ports ≡ arity g a
  unfolding new
  size_y = length-replicate (arity g a) none

  pub net_x : x.net ≡ (at g a).net
  unfolding new
  net_x = refl

  pub net_y : y.net ≡ (at g a).net
  unfolding new
  net_y = refl

  apart : Apart P Q m
  apart = record {
    p_apart = λ i j _ _ s. let z : 1 + i ≡ 1 + j = ap (λ (p : Port). p.index) s in omega arith;
    q_apart = λ i j _ _ s. f.apart i j (ap (λ (p : Port). p.node) s);
    pq_apart = λ i j _ _ s. let z : 1 + i ≡ 0 = ap (λ (p : Port). p.index) s in omega arith;
  }

  pub numbers : Numbers b m c fresh cols
  numbers = record {
    rows_apart = f.apart;
    cols_apart = λ i j s. let z : m + i ≡ m + j = f.apart (m + i) (m + j) s in omega arith;
    crossed = λ i j l s. let z : i ≡ m + j = f.apart i (m + j) s in omega arith;
    b_rows = λ i. not_fresh g fresh f b i t.filled_b;
    b_cols = λ j. not_fresh g fresh f b (m + j) t.filled_b;
  }

  -- every port of a row, and of a column, is used in the end
  row_later : (i j : ℕ) → i < m → j < length x.ports → Ends (port (fresh i) j)
  row_later i zero l h = left (right (record { i = i; low = omega arith; high = l; is = inr refl }))
  row_later i (suc j) l h = right (record {
    j = j;
    low = omega arith;
    high = omega (arith, size_x);
    is = right (record { i = i; low = omega arith; high = l; is = inr (ap (port (fresh i)) (let z : suc j ≡ 1 + j = omega arith in z)) });
  })

  pub col_later : (i j : ℕ) → i < length y.ports → j < c → Ends (port (cols j) i)
  col_later zero j h l = right (record { j = j; low = omega arith; high = l; is = left (second refl) })
  col_later (suc i) j h l = right (record {
    j = j;
    low = omega arith;
    high = l;
    is = right (record { i = i; low = omega arith; high = omega (arith, size_y); is = inl (ap (port (cols j)) (let z : suc i ≡ 1 + i = omega arith in z)) });
  })

  -- ---- frames

  same₁ : (n : ℕ) → frame g₁ n ≡ frame g n
  same₁ n = frame_cut g (port a 0) (port b 0) n

  pub old₂ : (n : ℕ) → filled g n ≡ true → frame g₂ n ≡ frame g n
  old₂ n h = hung_other P fresh x m 0 g₁ n (λ i _ _. not_fresh g fresh f n i h) ∙ same₁ n

  pub col₂ : (j : ℕ) → frame g₂ (cols j) ≡ frame g (cols j)
  col₂ j = hung_other P fresh x m 0 g₁ (cols j) (λ i _ l s. numbers.crossed i j (omega arith) (sym s)) ∙ same₁ (cols j)

  pub row₂ : (i : ℕ) → i < m → frame g₂ (fresh i) ≡ frame_of (some x)
  row₂ i l = hung_new P fresh x f.apart m 0 g₁ i (omega arith) (omega arith)

  -- ---- the two halves

  pub rows_fit : Safe Ends g₁ Cuts (concat_map (hung P fresh x) (up_to m)) Rows
  rows_fit = hangs_safe Ends P fresh x m apart (new_holes (at g a).net (name_of g b) (arity g b)) (let z = t.ports_b in omega (arith, size_x)) row_later m 0 g₁ Cuts (omega arith) (record {
    vacant = λ i _ _. filled_same g g₁ (fresh i) (same₁ (fresh i)) ∙ f.vacant i;
    real = λ i _ l. rw (arity_same g g₁ a (same₁ a)) (omega arith);
    in_net = λ i _ _. net_same g g₁ a (same₁ a) ∙ sym net_x;
    off = λ i j _ _ s. not_fresh g fresh f a j t.filled_a s;
    unused_p = λ i _ _. aux_unused i;
    unused_n = λ i _ _. new_unused i;
  })
    where
      aux_unused : (i : ℕ) → ¬ Cuts (port a (1 + i))
      aux_unused i (was u) = u
      aux_unused i (first s) = let z : 1 + i ≡ 0 = ap (λ (p : Port). p.index) s in omega arith
      aux_unused i (second s) = let z : 1 + i ≡ 0 = ap (λ (p : Port). p.index) s in omega arith

      new_unused : (i : ℕ) → ¬ Cuts (port (fresh i) 0)
      new_unused i (was u) = u
      new_unused i (first s) = not_fresh g fresh f a i t.filled_a (sym (ap (λ (p : Port). p.node) s))
      new_unused i (second s) = not_fresh g fresh f b i t.filled_b (sym (ap (λ (p : Port). p.node) s))
