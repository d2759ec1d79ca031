-- Runs of like edits are safe: joins of two rows of ports, cuts of wires, new nodes hung on a row of ports.
use Rattle.std.specs.Prelude.{◌≡◌, refl, ◌≢◌, ◌⊎◌, Bool, true, false, not, List, [], ◌∷◌, ◌++◌, map, length}
use Rattle.std.proofs.Math.Path.{sym, ap}
use Rattle.std.proofs.Common.{◌∙◌, subst, inl, inr, true≢false}
use Prim.Native.Nat.{ℕ, zero, suc, ◌+◌, ◌<◌, ◌≤◌}
use Rattle.std.proofs.Math.Decide.{ℕ_discrete}
use native.Mathlib.Omega.{arith}
use Rattle.std.proofs.Math.Option.{Option, none, some}
use Rattle.net_file.specs.Lists.{concat_map}
use Rattle.definitions.specs.Lists.{or_else, from}
use Rattle.definitions.specs.Nets.{Port, Node, Graph, port, at, filled, arity, across}
use Rattle.definitions.specs.Scripts.{Edit, Insert, Join, Cut, fill, join, cut, apply}
use Rattle.definitions.specs.Rules.{hang}
use Rattle.join_laws.specs.Ports.{Frame, no_frame, frame, arity_frame, arity_same, net_same, net_frame, filled_same, Real}
use Rattle.join_laws.specs.Link.{frame_cut, cut_other}
use Rattle.join_laws.proofs.Join.{frame_join}
use Rattle.script_laws.specs.Slots.{Holes, frame_fill_same, frame_fill_other}
use Rattle.script_laws.specs.Safe.{With, was, first, second, Fits, Used, Safe, CanJoin, CanCut, CanInsert}

-- of the one set or of the other
pub data Or (U W : Port → Type 0) (r : Port) : Type 0 where
  left : U r → Or U W r
  right : W r → Or U W r

-- a port p i or q i, with k ≤ i < c
pub record Row (P Q : ℕ → Port) (k c : ℕ) (r : Port) : Type 0 where
  pub i : ℕ
  pub low : k ≤ i
  pub high : i < c
  pub is : (r ≡ P i) ⊎ (r ≡ Q i)

-- all these ports are different
pub record Apart (P Q : ℕ → Port) (c : ℕ) : Type 0 where
  pub p_apart : (i j : ℕ) → i < c → j < c → P i ≡ P j → i ≡ j
  pub q_apart : (i j : ℕ) → i < c → j < c → Q i ≡ Q j → i ≡ j
  pub pq_apart : (i j : ℕ) → i < c → j < c → P i ≢ Q j

-- the same set in the end
pub safe_end : (F : Port → Type 0) (ds : List Edit) (g : Graph) (U Z Z' : Port → Type 0) → ((r : Port) → (Z r → Z' r) × (Z' r → Z r)) → Safe F g U ds Z → Safe F g U ds Z'
safe_end F [] g U Z Z' h s = λ r. (λ u. (h r).0 ((s r).0 u), λ z. (s r).1 ((h r).1 z))
safe_end F (d ∷ ds) g U Z Z' h s = (s.0, safe_end F ds (apply g d) (Used U d) Z Z' h s.1)

-- one more of a row
row_more : (P Q : ℕ → Port) (k c : ℕ) (U : Port → Type 0) → k < c → (r : Port)
    → (Or (With U (P k) (Q k)) (Row P Q (suc k) c) r → Or U (Row P Q k c) r) × (Or U (Row P Q k c) r → Or (With U (P k) (Q k)) (Row P Q (suc k) c) r)
row_more P Q k c U l r = (to, from')
  where
    to : Or (With U (P k) (Q k)) (Row P Q (suc k) c) r → Or U (Row P Q k c) r
    to (left (was u)) = left u
    to (left (first e)) = right (record { i = k; low = omega arith; high = l; is = inl e })
    to (left (second e)) = right (record { i = k; low = omega arith; high = l; is = inr e })
    to (right x) = right (record { i = x.i; low = let y = x.low in omega arith; high = x.high; is = x.is })

    from' : Or U (Row P Q k c) r → Or (With U (P k) (Q k)) (Row P Q (suc k) c) r
    from' (left u) = left (was u)
    from' (right x) = go (ℕ_discrete x.i k) x.is
      where
        go : Dec (x.i ≡ k) → (r ≡ P x.i) ⊎ (r ≡ Q x.i) → Or (With U (P k) (Q k)) (Row P Q (suc k) c) r
        go (yes e) (inl y) = left (first (y ∙ ap P e))
        go (yes e) (inr y) = left (second (y ∙ ap Q e))
        go (no e) y = right (record { i = x.i; low = let z = x.low in omega arith; high = x.high; is = y })

row_end : (P Q : ℕ → Port) (k c : ℕ) (U : Port → Type 0) → c ≤ k → (r : Port) → (U r → Or U (Row P Q k c) r) × (Or U (Row P Q k c) r → U r)
row_end P Q k c U l r = (left, λ x. elim x [ left u ↦ u | right y ↦ (let a = y.low in let b = y.high in absurd (omega arith)) ])

module _ (F : Port → Type 0) (P Q : ℕ → Port) (c : ℕ) (apart : Apart P Q c) where
  -- a port of the row is not used by the first of it
  unused_more : (k i : ℕ) (U : Port → Type 0) → suc k ≤ i → i < c → ¬ U (P i) → ¬ With U (P k) (Q k) (P i)
  unused_more k i U l m n (was u) = n u
  unused_more k i U l m n (first e) = let z = apart.p_apart i k m (omega arith) e in omega arith
  unused_more k i U l m n (second e) = apart.pq_apart i k m (omega arith) e

  unused_more' : (k i : ℕ) (U : Port → Type 0) → suc k ≤ i → i < c → ¬ U (Q i) → ¬ With U (P k) (Q k) (Q i)
  unused_more' k i U l m n (was u) = n u
  unused_more' k i U l m n (first e) = apart.pq_apart k i (omega arith) m (sym e)
  unused_more' k i U l m n (second e) = let z = apart.q_apart i k m (omega arith) e in omega arith

  -- ---- joins

  pub record JoinsFit (g : Graph) (U : Port → Type 0) (k : ℕ) : Type 0 where
    pub real_p : (i : ℕ) → k ≤ i → i < c → Real g (P i)
    pub real_q : (i : ℕ) → k ≤ i → i < c → Real g (Q i)
    pub one_net : (i : ℕ) → k ≤ i → i < c → (at g (P i).node).net ≡ (at g (Q i).node).net
    pub unused_p : (i : ℕ) → k ≤ i → i < c → ¬ U (P i)
    pub unused_q : (i : ℕ) → k ≤ i → i < c → ¬ U (Q i)

  pub joins_safe : (n k : ℕ) (g : Graph) (U : Port → Type 0) → k + n ≡ c → JoinsFit g U k
      → Safe F g U (map (λ i. Join (P i) (Q i)) (from k n)) (Or U (Row P Q k c))
  unfolding apply
  joins_safe zero k g U e f = row_end P Q k c U (omega arith)
  joins_safe (suc n) k g U e f =
      let l : k < c = omega arith in
      let m : k ≤ k = omega arith in
      let h = join g (P k) (Q k) in
      let same : (n : ℕ) → frame h n ≡ frame g n = frame_join g (P k) (Q k) in (
        record {
          real_a = f.real_p k m l;
          real_b = f.real_q k m l;
          differ = apart.pq_apart k k l l;
          one_net = f.one_net k m l;
          unused_a = f.unused_p k m l;
          unused_b = f.unused_q k m l;
        },
        safe_end F (map (λ i. Join (P i) (Q i)) (from (suc k) n)) h (With U (P k) (Q k)) (Or (With U (P k) (Q k)) (Row P Q (suc k) c)) (Or U (Row P Q k c)) (row_more P Q k c U l)
            (joins_safe n (suc k) h (With U (P k) (Q k)) (omega arith) (record {
              real_p = λ i x y. rw (arity_same g h (P i).node (same (P i).node)) (f.real_p i (omega arith) y);
              real_q = λ i x y. rw (arity_same g h (Q i).node (same (Q i).node)) (f.real_q i (omega arith) y);
              one_net = λ i x y. net_same g h (P i).node (same (P i).node) ∙ f.one_net i (omega arith) y ∙ sym (net_same g h (Q i).node (same (Q i).node));
              unused_p = λ i x y. unused_more k i U x y (f.unused_p i (omega arith) y);
              unused_q = λ i x y. unused_more' k i U x y (f.unused_q i (omega arith) y);
            })),
      )

  -- ---- cuts

  pub record CutsFit (g : Graph) (U : Port → Type 0) (k : ℕ) : Type 0 where
    pub wired : (i : ℕ) → k ≤ i → i < c → across g (P i) ≡ some (Q i)
    pub unused_p : (i : ℕ) → k ≤ i → i < c → ¬ U (P i)
    pub unused_q : (i : ℕ) → k ≤ i → i < c → ¬ U (Q i)

  pub cuts_safe : (n k : ℕ) (g : Graph) (U : Port → Type 0) → k + n ≡ c → CutsFit g U k
      → Safe F g U (map (λ i. Cut (P i) (Q i)) (from k n)) (Or U (Row P Q k c))
  unfolding apply
  cuts_safe zero k g U e f = row_end P Q k c U (omega arith)
  cuts_safe (suc n) k g U e f =
      let l : k < c = omega arith in
      let m : k ≤ k = omega arith in
      let h = cut g (P k) (Q k) in (
        record { wired = f.wired k m l; unused_a = f.unused_p k m l; unused_b = f.unused_q k m l },
        safe_end F (map (λ i. Cut (P i) (Q i)) (from (suc k) n)) h (With U (P k) (Q k)) (Or (With U (P k) (Q k)) (Row P Q (suc k) c)) (Or U (Row P Q k c)) (row_more P Q k c U l)
            (cuts_safe n (suc k) h (With U (P k) (Q k)) (omega arith) (record {
              wired = λ i x y.
                  cut_other g (P k) (Q k) (P i) (λ s. let z = apart.p_apart i k y l s in omega arith) (λ s. apart.pq_apart i k y l s)
                  ∙ f.wired i (omega arith) y;
              unused_p = λ i x y. unused_more k i U x y (f.unused_p i (omega arith) y);
              unused_q = λ i x y. unused_more' k i U x y (f.unused_q i (omega arith) y);
            })),
      )

-- ---- hung nodes

-- new node i, number N i, comes and its principal port is joined with P i
abbrev pub hung : (ℕ → Port) → (ℕ → ℕ) → Node → ℕ → List Edit
hung P N x i = Insert (N i) x ∷ Join (P i) (port (N i) 0) ∷ []

module _ (F : Port → Type 0) (P : ℕ → Port) (N : ℕ → ℕ) (x : Node) (c : ℕ) (apart : Apart P (λ i. port (N i) 0) c)
    (holes : Holes x) (has : 0 < length x.ports) (later : (i j : ℕ) → i < c → j < length x.ports → F (port (N i) j)) where
  pub record HangsFit (g : Graph) (U : Port → Type 0) (k : ℕ) : Type 0 where
    pub vacant : (i : ℕ) → k ≤ i → i < c → filled g (N i) ≡ false
    pub real : (i : ℕ) → k ≤ i → i < c → Real g (P i)
    pub in_net : (i : ℕ) → k ≤ i → i < c → (at g (P i).node).net ≡ x.net
    pub off : (i j : ℕ) → i < c → j < c → (P i).node ≢ N j
    pub unused_p : (i : ℕ) → k ≤ i → i < c → ¬ U (P i)
    pub unused_n : (i : ℕ) → k ≤ i → i < c → ¬ U (port (N i) 0)

  pub hangs_safe : (n k : ℕ) (g : Graph) (U : Port → Type 0) → k + n ≡ c → HangsFit g U k
      → Safe F g U (concat_map (hung P N x) (from k n)) (Or U (Row P (λ i. port (N i) 0) k c))
  unfolding apply
  hangs_safe zero k g U e f = row_end P (λ i. port (N i) 0) k c U (omega arith)
  hangs_safe (suc n) k g U e f =
      let Q : ℕ → Port = λ i. port (N i) 0 in
      let l : k < c = omega arith in
      let m : k ≤ k = omega arith in
      let g₁ = fill g (N k) x in
      let h = join g₁ (P k) (Q k) in
      let other : (j : ℕ) → j ≢ N k → frame g₁ j ≡ frame g j = λ j s. frame_fill_other g (N k) j x s in
      let same : (j : ℕ) → j ≢ N k → frame h j ≡ frame g j = λ j s. frame_join g₁ (P k) (Q k) j ∙ other j s in
      let apart' : (i : ℕ) → suc k ≤ i → i < c → N i ≢ N k = λ i a b s. let z = apart.q_apart i k b l (ap (λ (t : ℕ). port t 0) s) in omega arith in (
        record { vacant = f.vacant k m l; holes = holes; some_port = has; later = λ j y. later k j l y },
        (
          record {
            real_a = rw (arity_same g g₁ (P k).node (other (P k).node (f.off k k l l))) (f.real k m l);
            real_b = rw (arity_frame g₁ (N k) ∙ ap (λ (o : Option Frame). (or_else o no_frame).size) (frame_fill_same g (N k) x)) has;
            differ = apart.pq_apart k k l l;
            one_net = net_same g g₁ (P k).node (other (P k).node (f.off k k l l)) ∙ f.in_net k m l ∙ sym (net_frame g₁ (N k) ∙ ap (λ (o : Option Frame). (or_else o no_frame).net) (frame_fill_same g (N k) x));
            unused_a = f.unused_p k m l;
            unused_b = f.unused_n k m l;
          },
          safe_end F (concat_map (hung P N x) (from (suc k) n)) h (With U (P k) (Q k)) (Or (With U (P k) (Q k)) (Row P Q (suc k) c)) (Or U (Row P Q k c)) (row_more P Q k c U l)
              (hangs_safe n (suc k) h (With U (P k) (Q k)) (omega arith) (record {
                vacant = λ i a b. filled_same g h (N i) (same (N i) (apart' i a b)) ∙ f.vacant i (omega arith) b;
                real = λ i a b. rw (arity_same g h (P i).node (same (P i).node (f.off i k b l))) (f.real i (omega arith) b);
                in_net = λ i a b. net_same g h (P i).node (same (P i).node (f.off i k b l)) ∙ f.in_net i (omega arith) b;
                off = f.off;
                unused_p = λ i a b. unused_more F P Q c apart k i U a b (f.unused_p i (omega arith) b);
                unused_n = λ i a b. unused_more' F P Q c apart k i U a b (f.unused_n i (omega arith) b);
              })),
        ),
      )
