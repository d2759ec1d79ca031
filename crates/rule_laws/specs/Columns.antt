-- Commute's second half: the copies of a come one by one, each hung on an aux port of b and joined crosswise with the copies of b.
use Rattle.std.specs.Prelude.{◌≡◌, refl, ◌≢◌, ◌⊎◌, ℕ, zero, suc, ◌+◌, ◌-◌, ◌<◌, ◌≤◌, Bool, true, false, List, [], ◌∷◌, ◌++◌, map, length}
use Rattle.std.proofs.Math.Path.{sym}
use Rattle.std.proofs.Common.{ap, ◌∙◌, subst, inl, inr, arith}
use Rattle.std.proofs.Math.Decide.{ℕ_discrete}
use Rattle.std.proofs.Math.Option.{Option, none, some}
use Rattle.net_file.specs.Lists.{concat_map}
use Rattle.definitions.specs.Lists.{or_else, foldl, from, up_to}
use Rattle.definitions.specs.Nets.{Port, Node, Graph, port, at, filled, arity}
use Rattle.definitions.specs.Scripts.{Edit, Insert, Join, fill, join, apply}
use Rattle.join_laws.specs.Ports.{Frame, no_frame, frame, arity_frame, arity_same, net_frame, net_same, filled_same, Real}
use Rattle.join_laws.proofs.Join.{frame_join}
use Rattle.script_laws.specs.Slots.{Holes, frame_fill_same, frame_fill_other}
use Rattle.script_laws.specs.Safe.{With, was, first, second, Safe}
use Rattle.script_laws.proofs.Safe.{safe_append}
use Rattle.script_laws.specs.Loops.{Or, left, right, Row, Apart, joins_safe, safe_end}

-- a run of joins changes no frame
pub frame_joins : (P Q : ℕ → Port) (xs : List ℕ) (g : Graph) (n : ℕ) → frame (foldl apply g (map (λ i. Join (P i) (Q i)) xs)) n ≡ frame g n
unfolding apply
frame_joins P Q [] g n = refl
frame_joins P Q (x ∷ xs) g n = frame_joins P Q xs (join g (P x) (Q x)) n ∙ frame_join g (P x) (Q x) n

-- `rows i` is the number of the i-th copy of b, `cols j` that of the j-th copy of a
module _ (b m c : ℕ) (rows cols : ℕ → ℕ) where
  -- the j-th copy y of a is joined with b and with each row
  abbrev pub column : Node → ℕ → List Edit
  column y j =
      Insert (cols j) y ∷ Join (port b (1 + j)) (port (cols j) 0)
      ∷ map (λ i. Join (port (cols j) (1 + i)) (port (rows i) (1 + j))) (up_to m)

  -- the ports that it uses
  abbrev pub Column : ℕ → Port → Type 0
  Column j = Or (With (λ _. ⊥) (port b (1 + j)) (port (cols j) 0)) (Row (λ i. port (cols j) (1 + i)) (λ i. port (rows i) (1 + j)) 0 m)

  -- those of the columns from l on
  pub record Columns (l : ℕ) (r : Port) : Type 0 where
    pub j : ℕ
    pub low : l ≤ j
    pub high : j < c
    pub is : Column j r

  -- the numbers are different
  pub record Numbers : Type 0 where
    pub rows_apart : (i j : ℕ) → rows i ≡ rows j → i ≡ j
    pub cols_apart : (i j : ℕ) → cols i ≡ cols j → i ≡ j
    pub crossed : (i j : ℕ) → i < m → rows i ≢ cols j
    pub b_rows : (i : ℕ) → b ≢ rows i
    pub b_cols : (j : ℕ) → b ≢ cols j

-- the copies y of a, and all of this, are in net k
module _ (F : Port → Type 0) (b k m c : ℕ) (rows cols : ℕ → ℕ) (y : Node) where
  pub record ColumnsFit (g : Graph) (U : Port → Type 0) (l : ℕ) : Type 0 where
    pub vacant : (j : ℕ) → l ≤ j → j < c → filled g (cols j) ≡ false
    pub real_b : (j : ℕ) → l ≤ j → j < c → Real g (port b (1 + j))
    pub net_b : (at g b).net ≡ k
    pub real_row : (i j : ℕ) → i < m → l ≤ j → j < c → Real g (port (rows i) (1 + j))
    pub net_row : (i : ℕ) → i < m → (at g (rows i)).net ≡ k
    pub unused_b : (j : ℕ) → l ≤ j → j < c → ¬ U (port b (1 + j))
    pub unused_col : (i j : ℕ) → l ≤ j → j < c → ¬ U (port (cols j) i)
    pub unused_row : (i j : ℕ) → i < m → l ≤ j → j < c → ¬ U (port (rows i) (1 + j))

  abbrev pub After : (Port → Type 0) → ℕ → Port → Type 0
  After U l = Or (With U (port b (1 + l)) (port (cols l) 0)) (Row (λ i. port (cols l) (1 + i)) (λ i. port (rows i) (1 + l)) 0 m)

  pub columns_more : (U : Port → Type 0) (l : ℕ) → l < c → (r : Port) → (Or (After U l) (Columns b m c rows cols (suc l)) r → Or U (Columns b m c rows cols l) r) × (Or U (Columns b m c rows cols l) r → Or (After U l) (Columns b m c rows cols (suc l)) r)
  columns_more U l h r = (to, from')
    where
      here : Column b m c rows cols l r → Or U (Columns b m c rows cols l) r
      here x = right (record { j = l; low = omega arith; high = h; is = x })

      to : Or (After U l) (Columns b m c rows cols (suc l)) r → Or U (Columns b m c rows cols l) r
      to (left (left (was u))) = left u
      to (left (left (first e))) = here (left (first e))
      to (left (left (second e))) = here (left (second e))
      to (left (right x)) = here (right x)
      to (right x) = right (record { j = x.j; low = let z = x.low in omega arith; high = x.high; is = x.is })

      from' : Or U (Columns b m c rows cols l) r → Or (After U l) (Columns b m c rows cols (suc l)) r
      from' (left u) = left (left (was u))
      from' (right x) = go (ℕ_discrete x.j l)
        where
          there : Column b m c rows cols l r → Or (After U l) (Columns b m c rows cols (suc l)) r
          there (left (was u)) = absurd u
          there (left (first e)) = left (left (first e))
          there (left (second e)) = left (left (second e))
          there (right z) = left (right z)

          go : Dec (x.j ≡ l) → Or (After U l) (Columns b m c rows cols (suc l)) r
          go (yes e) = there (subst (λ (t : ℕ). Column b m c rows cols t r) e x.is)
          go (no e) = right (record { j = x.j; low = let z = x.low in omega arith; high = x.high; is = x.is })

  module _ (numbers : Numbers b m c rows cols) (holes : Holes y) (net_y : y.net ≡ k) (size_y : length y.ports ≡ 1 + m)
      (later : (i j : ℕ) → i < length y.ports → j < c → F (port (cols j) i)) where
    row_apart : (j : ℕ) → Apart (λ i. port (cols j) (1 + i)) (λ i. port (rows i) (1 + j)) m
    row_apart j = record {
      p_apart = λ i l _ _ e. let z : 1 + i ≡ 1 + l = ap (λ (p : Port). p.index) e in omega arith;
      q_apart = λ i l _ _ e. numbers.rows_apart i l (ap (λ (p : Port). p.node) e);
      pq_apart = λ i l _ h e. numbers.crossed l j h (sym (ap (λ (p : Port). p.node) e));
    }

    -- what the column l uses, no later one does
    module _ (U : Port → Type 0) (l j : ℕ) (h : suc l ≤ j) where
      b_later : ¬ U (port b (1 + j)) → ¬ After U l (port b (1 + j))
      b_later n (left (was u)) = n u
      b_later n (left (first e)) = let z : 1 + j ≡ 1 + l = ap (λ (p : Port). p.index) e in omega arith
      b_later n (left (second e)) = numbers.b_cols l (ap (λ (p : Port). p.node) e)
      b_later n (right x) = go x.is
        where
          go : (port b (1 + j) ≡ port (cols l) (1 + x.i)) ⊎ (port b (1 + j) ≡ port (rows x.i) (1 + l)) → ⊥
          go (inl e) = numbers.b_cols l (ap (λ (p : Port). p.node) e)
          go (inr e) = numbers.b_rows x.i (ap (λ (p : Port). p.node) e)

      col_later : (i : ℕ) → ¬ U (port (cols j) i) → ¬ After U l (port (cols j) i)
      col_later i n (left (was u)) = n u
      col_later i n (left (first e)) = numbers.b_cols j (sym (ap (λ (p : Port). p.node) e))
      col_later i n (left (second e)) = let z = numbers.cols_apart j l (ap (λ (p : Port). p.node) e) in omega arith
      col_later i n (right x) = go x.is
        where
          go : (port (cols j) i ≡ port (cols l) (1 + x.i)) ⊎ (port (cols j) i ≡ port (rows x.i) (1 + l)) → ⊥
          go (inl e) = let z = numbers.cols_apart j l (ap (λ (p : Port). p.node) e) in omega arith
          go (inr e) = numbers.crossed x.i j x.high (sym (ap (λ (p : Port). p.node) e))

      row_later : (i : ℕ) → i < m → ¬ U (port (rows i) (1 + j)) → ¬ After U l (port (rows i) (1 + j))
      row_later i s n (left (was u)) = n u
      row_later i s n (left (first e)) = numbers.b_rows i (sym (ap (λ (p : Port). p.node) e))
      row_later i s n (left (second e)) = numbers.crossed i l s (ap (λ (p : Port). p.node) e)
      row_later i s n (right x) = go x.is
        where
          go : (port (rows i) (1 + j) ≡ port (cols l) (1 + x.i)) ⊎ (port (rows i) (1 + j) ≡ port (rows x.i) (1 + l)) → ⊥
          go (inl e) = numbers.crossed i l s (ap (λ (p : Port). p.node) e)
          go (inr e) = let z : 1 + j ≡ 1 + l = ap (λ (p : Port). p.index) e in omega arith

    module _ (g : Graph) (U : Port → Type 0) (l : ℕ) (h : l < c) (f : ColumnsFit g U l) where
      abbrev g₁ : Graph
      g₁ = fill g (cols l) y

      abbrev g₂ : Graph
      g₂ = join g₁ (port b (1 + l)) (port (cols l) 0)

      abbrev joins : List Edit
      joins = map (λ i. Join (port (cols l) (1 + i)) (port (rows i) (1 + l))) (up_to m)

      abbrev pub g₃ : Graph
      g₃ = foldl apply g₂ joins

      abbrev U₂ : Port → Type 0
      U₂ = With U (port b (1 + l)) (port (cols l) 0)

      other₁ : (n : ℕ) → n ≢ cols l → frame g₁ n ≡ frame g n
      other₁ n s = frame_fill_other g (cols l) n y s

      other₂ : (n : ℕ) → n ≢ cols l → frame g₂ n ≡ frame g n
      other₂ n s = frame_join g₁ (port b (1 + l)) (port (cols l) 0) n ∙ other₁ n s

      other₃ : (n : ℕ) → n ≢ cols l → frame g₃ n ≡ frame g n
      other₃ n s = frame_joins (λ i. port (cols l) (1 + i)) (λ i. port (rows i) (1 + l)) (up_to m) g₂ n ∙ other₂ n s

      new₁ : frame g₁ (cols l) ≡ some (record { net = y.net; name = y.name; size = length y.ports })
      new₁ = frame_fill_same g (cols l) y

      new₂ : frame g₂ (cols l) ≡ some (record { net = y.net; name = y.name; size = length y.ports })
      new₂ = frame_join g₁ (port b (1 + l)) (port (cols l) 0) (cols l) ∙ new₁

      arity₁ : arity g₁ (cols l) ≡ length y.ports
      arity₁ = arity_frame g₁ (cols l) ∙ ap (λ (o : Option Frame). (or_else o no_frame).size) new₁

      arity₂ : arity g₂ (cols l) ≡ length y.ports
      arity₂ = arity_frame g₂ (cols l) ∙ ap (λ (o : Option Frame). (or_else o no_frame).size) new₂

      net₁ : (at g₁ (cols l)).net ≡ k
      net₁ = net_frame g₁ (cols l) ∙ ap (λ (o : Option Frame). (or_else o no_frame).net) new₁ ∙ net_y

      net₂ : (at g₂ (cols l)).net ≡ k
      net₂ = net_frame g₂ (cols l) ∙ ap (λ (o : Option Frame). (or_else o no_frame).net) new₂ ∙ net_y

      rows_off : (i : ℕ) → i < m → rows i ≢ cols l
      rows_off i s = numbers.crossed i l s

      joins_fit : Safe F g₂ U₂ joins (After U l)
      joins_fit = joins_safe F (λ i. port (cols l) (1 + i)) (λ i. port (rows i) (1 + l)) m (row_apart l) m 0 g₂ U₂ (omega arith) (record {
        real_p = λ i _ s. omega (arith, arity₂);
        real_q = λ i _ s. rw (arity_same g g₂ (rows i) (other₂ (rows i) (rows_off i s))) (f.real_row i l s (omega arith) h);
        one_net = λ i _ s. net₂ ∙ sym (net_same g g₂ (rows i) (other₂ (rows i) (rows_off i s)) ∙ f.net_row i s);
        unused_p = λ i _ s. col_free i;
        unused_q = λ i _ s. row_free i s;
      })
        where
          col_free : (i : ℕ) → ¬ U₂ (port (cols l) (1 + i))
          col_free i (was u) = f.unused_col (1 + i) l (omega arith) h u
          col_free i (first e) = numbers.b_cols l (sym (ap (λ (p : Port). p.node) e))
          col_free i (second e) = let z : 1 + i ≡ 0 = ap (λ (p : Port). p.index) e in omega arith

          row_free : (i : ℕ) → i < m → ¬ U₂ (port (rows i) (1 + l))
          row_free i s (was u) = f.unused_row i l s (omega arith) h u
          row_free i s (first e) = numbers.b_rows i (sym (ap (λ (p : Port). p.node) e))
          row_free i s (second e) = numbers.crossed i l s (ap (λ (p : Port). p.node) e)

      pub next_fit : ColumnsFit g₃ (After U l) (suc l)
      next_fit = record {
        vacant = λ j s t. filled_same g g₃ (cols j) (other₃ (cols j) (λ e. let z = numbers.cols_apart j l e in omega arith)) ∙ f.vacant j (omega arith) t;
        real_b = λ j s t. rw (arity_same g g₃ b (other₃ b (numbers.b_cols l))) (f.real_b j (omega arith) t);
        net_b = net_same g g₃ b (other₃ b (numbers.b_cols l)) ∙ f.net_b;
        real_row = λ i j q s t. rw (arity_same g g₃ (rows i) (other₃ (rows i) (rows_off i q))) (f.real_row i j q (omega arith) t);
        net_row = λ i q. net_same g g₃ (rows i) (other₃ (rows i) (rows_off i q)) ∙ f.net_row i q;
        unused_b = λ j s t. b_later U l j s (f.unused_b j (omega arith) t);
        unused_col = λ i j s t. col_later U l j s i (f.unused_col i j (omega arith) t);
        unused_row = λ i j q s t. row_later U l j s i q (f.unused_row i j q (omega arith) t);
      }

      pub column_fit : (ds : List Edit) (Z : Port → Type 0) → Safe F g₃ (After U l) ds Z → Safe F g U (column b m c rows cols y l ++ ds) Z
      unfolding apply
      column_fit ds Z s = (
        record { vacant = f.vacant l (omega arith) h; holes = holes; some_port = omega arith; later = λ i q. later i l q h },
        (
          record {
            real_a = rw (arity_same g g₁ b (other₁ b (numbers.b_cols l))) (f.real_b l (omega arith) h);
            real_b = omega (arith, arity₁);
            differ = λ e. numbers.b_cols l (ap (λ (p : Port). p.node) e);
            one_net = net_same g g₁ b (other₁ b (numbers.b_cols l)) ∙ f.net_b ∙ sym net₁;
            unused_a = f.unused_b l (omega arith) h;
            unused_b = f.unused_col 0 l (omega arith) h;
          },
          safe_append F joins ds g₂ U₂ (After U l) Z joins_fit s,
        ),
      )
