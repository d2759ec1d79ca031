-- Commute: copies of b on a's aux ports, copies of a on b's, joined crosswise.
use Rattle.std.specs.Prelude.{◌≡◌, ◌≢◌, ◌⊎◌, Bool, true, false, length}
use Rattle.std.proofs.Math.Path.{refl}
use Rattle.std.proofs.Common.{sym, ap, ◌∙◌, subst, inr}
use Rattle.std.proofs.Math.Logic.{inl}
use Prim.Native.Nat.{ℕ, zero, suc, ◌+◌, ◌-◌, ◌<◌, ◌≤◌}
use Rattle.std.proofs.Math.Decide.{ℕ_discrete}
use native.Mathlib.Omega.{arith}
use Rattle.std.proofs.Math.Option.{Option, none, some, some-injective}
use mathlib.Core.List.{List, [], ◌∷◌, ◌++◌, map, Memᴰ}
use Rattle.std.proofs.Math.ListN.{length-replicate}
use Rattle.net_file.specs.Lists.{concat_map}
use Rattle.definitions.specs.Lists.{or_else, foldl, from, up_to}
use Rattle.definitions.specs.Nets.{Port, Node, Graph, port, at, filled, name_of, arity, across}
use Rattle.definitions.specs.Scripts.{Edit, Insert, Join, Cut, Script, fill, join, cut, apply}
use Rattle.definitions.specs.Rules.{new, hang, commute_script}
use Rattle.definitions.specs.Step.{Fresh}
use Rattle.join_laws.specs.Ports.{Frame, no_frame, frame, frame_of, arity_frame, arity_same, net_frame, net_same, filled_same, Real}
use Rattle.join_laws.specs.Link.{frame_cut}
use Rattle.join_laws.proofs.Join.{frame_join}
use Rattle.script_laws.specs.Slots.{frame_fill_same, frame_fill_other}
use Rattle.script_laws.specs.Safe.{With, was, first, second, Safe}
use Rattle.script_laws.proofs.Safe.{safe_append}
use Rattle.script_laws.specs.Loops.{Or, left, right, Row, Apart, hung, hangs_safe}
use Rattle.script_laws.specs.Tidy.{WellWired, Tidy}
use Rattle.rule_laws.specs.Ids.{distinct_two}
use Rattle.rule_laws.specs.Places.{new_holes, one_of_two, not_fresh, Meet, meet, Clean, tidy_clean}
use Rattle.rule_laws.specs.Columns.{column, Columns, Numbers}
use Rattle.rule_laws.proofs.Columns.{columns_safe}
use Rattle.rule_laws.specs.Commute.{t, m, c, x, y, cols, P, Q, Cuts, Rows, Ends, commuted, g₁, g₂, size_x, size_y, net_x, net_y, numbers, col_later, old₂, col₂, row₂, rows_fit}

-- ---- the script

module _ (fresh : ℕ → ℕ) (g : Graph) (w : WellWired g) (f : Fresh g fresh) (a b : ℕ) (met : across g (port a 0) ≡ some (port b 0)) where
  cols_fit : Safe (Ends fresh g w f a b met) (g₂ fresh g w f a b met) (Rows fresh g w f a b met) (concat_map (column b (m fresh g w f a b met) (c fresh g w f a b met) fresh (cols fresh g w f a b met) (y fresh g w f a b met)) (up_to (c fresh g w f a b met))) (Ends fresh g w f a b met)
  cols_fit = columns_safe (Ends fresh g w f a b met) b (at g a).net (m fresh g w f a b met) (c fresh g w f a b met) fresh (cols fresh g w f a b met) (y fresh g w f a b met) (numbers fresh g w f a b met) (new_holes (at g a).net (name_of g a) (arity g a)) (net_y fresh g w f a b met) (let z = (t fresh g w f a b met).ports_a in omega (arith, (size_y fresh g w f a b met))) (col_later fresh g w f a b met) (c fresh g w f a b met) 0 (g₂ fresh g w f a b met) (Rows fresh g w f a b met) (omega arith) (record {
    vacant = λ j _ _. filled_same g (g₂ fresh g w f a b met) ((cols fresh g w f a b met) j) ((col₂ fresh g w f a b met) j) ∙ f.vacant ((m fresh g w f a b met) + j);
    real_b = λ j _ l. rw (arity_same g (g₂ fresh g w f a b met) b ((old₂ fresh g w f a b met) b (t fresh g w f a b met).filled_b)) (omega arith);
    net_b = net_same g (g₂ fresh g w f a b met) b ((old₂ fresh g w f a b met) b (t fresh g w f a b met).filled_b) ∙ sym (t fresh g w f a b met).one_net;
    real_row = λ i j q _ l. rw (arity_frame (g₂ fresh g w f a b met) (fresh i) ∙ ap (λ (o : Option Frame). (or_else o no_frame).size) ((row₂ fresh g w f a b met) i q)) (omega (arith, (size_x fresh g w f a b met)));
    net_row = λ i q. net_frame (g₂ fresh g w f a b met) (fresh i) ∙ ap (λ (o : Option Frame). (or_else o no_frame).net) ((row₂ fresh g w f a b met) i q) ∙ (net_x fresh g w f a b met);
    unused_b = λ j _ _. b_unused j;
    unused_col = λ i j _ _. col_unused i j;
    unused_row = λ i j q _ _. row_unused i j q;
  })
    where
      b_unused : (j : ℕ) → ¬ (Rows fresh g w f a b met) (port b (1 + j))
      b_unused j (left (was u)) = u
      b_unused j (left (first s)) = let z : 1 + j ≡ 0 = ap (λ (p : Port). p.index) s in omega arith
      b_unused j (left (second s)) = let z : 1 + j ≡ 0 = ap (λ (p : Port). p.index) s in omega arith
      b_unused j (right r) = go r.is
        where
          go : (port b (1 + j) ≡ (P fresh g w f a b met) r.i) ⊎ (port b (1 + j) ≡ (Q fresh g w f a b met) r.i) → ⊥
          go (inl s) = (t fresh g w f a b met).differ (sym (ap (λ (p : Port). p.node) s))
          go (inr s) = (numbers fresh g w f a b met).b_rows r.i (ap (λ (p : Port). p.node) s)

      col_unused : (i j : ℕ) → ¬ (Rows fresh g w f a b met) (port ((cols fresh g w f a b met) j) i)
      col_unused i j (left (was u)) = u
      col_unused i j (left (first s)) = not_fresh g fresh f a ((m fresh g w f a b met) + j) (t fresh g w f a b met).filled_a (sym (ap (λ (p : Port). p.node) s))
      col_unused i j (left (second s)) = not_fresh g fresh f b ((m fresh g w f a b met) + j) (t fresh g w f a b met).filled_b (sym (ap (λ (p : Port). p.node) s))
      col_unused i j (right r) = go r.is
        where
          go : (port ((cols fresh g w f a b met) j) i ≡ (P fresh g w f a b met) r.i) ⊎ (port ((cols fresh g w f a b met) j) i ≡ (Q fresh g w f a b met) r.i) → ⊥
          go (inl s) = not_fresh g fresh f a ((m fresh g w f a b met) + j) (t fresh g w f a b met).filled_a (sym (ap (λ (p : Port). p.node) s))
          go (inr s) = (numbers fresh g w f a b met).crossed r.i j r.high (sym (ap (λ (p : Port). p.node) s))

      row_unused : (i j : ℕ) → i < (m fresh g w f a b met) → ¬ (Rows fresh g w f a b met) (port (fresh i) (1 + j))
      row_unused i j q (left (was u)) = u
      row_unused i j q (left (first s)) = let z : 1 + j ≡ 0 = ap (λ (p : Port). p.index) s in omega arith
      row_unused i j q (left (second s)) = let z : 1 + j ≡ 0 = ap (λ (p : Port). p.index) s in omega arith
      row_unused i j q (right r) = go r.is
        where
          go : (port (fresh i) (1 + j) ≡ (P fresh g w f a b met) r.i) ⊎ (port (fresh i) (1 + j) ≡ (Q fresh g w f a b met) r.i) → ⊥
          go (inl s) = not_fresh g fresh f a i (t fresh g w f a b met).filled_a (sym (ap (λ (p : Port). p.node) s))
          go (inr s) = let z : 1 + j ≡ 0 = ap (λ (p : Port). p.index) s in omega arith

  pub commuted_tidy : Tidy g (commuted fresh g w f a b met) (Ends fresh g w f a b met)
  unfolding apply
  commuted_tidy = record {
    safe = (
      record { wired = met; unused_a = λ u. u; unused_b = λ u. u },
      safe_append (Ends fresh g w f a b met) (concat_map (hung (P fresh g w f a b met) fresh (x fresh g w f a b met)) (up_to (m fresh g w f a b met))) (concat_map (column b (m fresh g w f a b met) (c fresh g w f a b met) fresh (cols fresh g w f a b met) (y fresh g w f a b met)) (up_to (c fresh g w f a b met))) (g₁ fresh g w f a b met) (Cuts fresh g w f a b met) (Rows fresh g w f a b met) (Ends fresh g w f a b met) (rows_fit fresh g w f a b met) cols_fit,
    );
    gone = λ k d. dead k (one_of_two d);
    only = used;
  }
    where
      dead : (k : ℕ) → (k ≡ a) ⊎ (k ≡ b) → (filled g k ≡ true) × ((i : ℕ) → i < arity g k → (Ends fresh g w f a b met) (port k i))
      dead k (inl s) = (ap (filled g) s ∙ (t fresh g w f a b met).filled_a, λ i l. at_a i (subst (λ (n : ℕ). i < arity g n) s l))
        where
          at_a : (i : ℕ) → i < arity g a → (Ends fresh g w f a b met) (port k i)
          at_a zero l = left (left (first (ap (λ (n : ℕ). port n 0) s)))
          at_a (suc i) l = left (right (record { i = i; low = omega arith; high = omega arith; is = inl (let z : suc i ≡ 1 + i = omega arith in λ u. port (s u) (z u)) }))
      dead k (inr s) = (ap (filled g) s ∙ (t fresh g w f a b met).filled_b, λ i l. at_b i (subst (λ (n : ℕ). i < arity g n) s l))
        where
          at_b : (i : ℕ) → i < arity g b → (Ends fresh g w f a b met) (port k i)
          at_b zero l = left (left (second (ap (λ (n : ℕ). port n 0) s)))
          at_b (suc i) l = right (record { j = i; low = omega arith; high = omega arith; is = left (first (let z : suc i ≡ 1 + i = omega arith in λ u. port (s u) (z u))) })

      here : (r : Port) (p : Port) → p.node ≡ a → r ≡ p → Memᴰ r.node (a ∷ b ∷ []) ⊎ (filled g r.node ≡ false)
      here r p n s = inl (Memᴰ.head (ap (λ (q : Port). q.node) s ∙ n))

      there : (r : Port) (p : Port) → p.node ≡ b → r ≡ p → Memᴰ r.node (a ∷ b ∷ []) ⊎ (filled g r.node ≡ false)
      there r p n s = inl (Memᴰ.tail (Memᴰ.head (ap (λ (q : Port). q.node) s ∙ n)))

      fresh_one : (r : Port) (k i : ℕ) → r ≡ port (fresh k) i → Memᴰ r.node (a ∷ b ∷ []) ⊎ (filled g r.node ≡ false)
      fresh_one r k i s = inr (ap (λ (q : Port). filled g q.node) s ∙ f.vacant k)

      used : (r : Port) → (Ends fresh g w f a b met) r → Memᴰ r.node (a ∷ b ∷ []) ⊎ (filled g r.node ≡ false)
      used r (left (left (was u))) = absurd u
      used r (left (left (first s))) = here r (port a 0) refl s
      used r (left (left (second s))) = there r (port b 0) refl s
      used r (left (right z)) = go z.is
        where
          go : (r ≡ (P fresh g w f a b met) z.i) ⊎ (r ≡ (Q fresh g w f a b met) z.i) → Memᴰ r.node (a ∷ b ∷ []) ⊎ (filled g r.node ≡ false)
          go (inl s) = here r ((P fresh g w f a b met) z.i) refl s
          go (inr s) = fresh_one r z.i 0 s
      used r (right z) = col z.is
        where
          col : Or (With (λ _. ⊥) (port b (1 + z.j)) (port ((cols fresh g w f a b met) z.j) 0)) (Row (λ i. port ((cols fresh g w f a b met) z.j) (1 + i)) (λ i. port (fresh i) (1 + z.j)) 0 (m fresh g w f a b met)) r
              → Memᴰ r.node (a ∷ b ∷ []) ⊎ (filled g r.node ≡ false)
          col (left (was u)) = absurd u
          col (left (first s)) = there r (port b (1 + z.j)) refl s
          col (left (second s)) = fresh_one r ((m fresh g w f a b met) + z.j) 0 s
          col (right q) = go q.is
            where
              go : (r ≡ port ((cols fresh g w f a b met) z.j) (1 + q.i)) ⊎ (r ≡ port (fresh q.i) (1 + z.j)) → Memᴰ r.node (a ∷ b ∷ []) ⊎ (filled g r.node ≡ false)
              go (inl s) = fresh_one r ((m fresh g w f a b met) + z.j) (1 + q.i) s
              go (inr s) = fresh_one r q.i (1 + z.j) s

-- a commutation leaves the nets well wired
pub commute_clean : (fresh : ℕ → ℕ) (g : Graph) → WellWired g → Fresh g fresh → (a b : ℕ) → across g (port a 0) ≡ some (port b 0)
    → (s : Script) → commute_script fresh g a b ≡ some s → Clean g s
unfolding commute_script hang
commute_clean fresh g w f a b met s h =
    subst (Clean g) (some-injective (commuted fresh g w f a b met) s h)
    (tidy_clean g (commuted fresh g w f a b met) (Ends fresh g w f a b met) w (commuted_tidy fresh g w f a b met) (distinct_two a b (t fresh g w f a b met).differ))
