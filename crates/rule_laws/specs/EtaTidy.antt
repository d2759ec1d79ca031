-- Eta, combinator form: every port of the pair and of their nils is used once.
use Rattle.std.specs.Prelude.{◌≡◌, ◌≢◌, ◌⊎◌, ℕ, zero, suc, ◌+◌, ◌-◌, ◌<◌, ◌≤◌, Bool, not, ◌&&◌, ◌||◌}
use Rattle.std.proofs.Math.Path.{refl, sym, ap}
use Rattle.std.proofs.Common.{◌∙◌, subst, true≢false}
use Rattle.std.proofs.Math.Logic.{inl, inr}
use native.Mathlib.Omega.{arith}
use Rattle.std.proofs.Math.Bool.{true, false}
use Rattle.std.proofs.lemmas.Bool.{false≢true}
use Rattle.std.proofs.Math.Option.{Option, none, some, some-injective}
use mathlib.Core.List.Memᴰ
use mathlib.Core.List.{List, [], ◌∷◌, ◌++◌, map, Memᴰ}
use Rattle.std.proofs.Math.Dec.{eqb}
use Rattle.net_file.specs.Lists.{distinct}
use Rattle.definitions.specs.Lists.{concat, up_to}
use Rattle.definitions.specs.Nets.{Port, Graph, port, same_port, is_principal, at, filled, name_of, arity, aux, across, follow}
use Rattle.definitions.specs.Scripts.{Edit, Join, Cut, Script, join, apply}
use Rattle.definitions.specs.Rules.{straight, eta_cuts, eta_nils}
use Rattle.join_laws.specs.Ports.{same_port_lem, same_port_true, same_port_self, same_port_false, Real}
use Rattle.join_laws.proofs.Join.{join_kept}
use Rattle.script_laws.specs.Safe.{With, was, first, second}
use Rattle.script_laws.specs.Loops.{Or, left, right}
use Rattle.script_laws.specs.Tidy.{WellWired, Tidy, real_filled}
use Rattle.rule_laws.specs.Ids.{distinct_two, distinct_cons, distinct_rows}
use Rattle.rule_laws.specs.Places.{one_of_two, follow_real, follow_back, follow_filled}
use Rattle.rule_laws.specs.Rows.{mem_rows, rows_mem}
use Rattle.rule_laws.specs.EtaPair.{Facing, Near, on_a, on_b, Near₂, near, met, Steps, near_many, near_meets, near₂_apart, principal_off, cuts_fit, real_p, real_q}

module _ (fresh : ℕ → ℕ) (g : Graph) (w : WellWired g) (a b c : ℕ) (t : Facing g a b c) where
  abbrev pub P : ℕ → Port
  P i = port a (1 + i)

  abbrev pub Q : ℕ → Port
  Q i = port b (1 + i)

  abbrev pub nils : ℕ → List ℕ
  nils i = eta_nils fresh g (P i) (Q i)

  abbrev pub Joined : Port → Type 0
  Joined = With (λ _. ⊥) (port a 0) (port b 0)

  abbrev pub Ends : Port → Type 0
  Ends = Or Joined (Steps fresh g w a b c t 0)

  abbrev pub paired : Script
  paired = record {
    edits = Join (port a 0) (port b 0) ∷ concat (map (λ i. eta_cuts fresh g (P i) (Q i)) (up_to c));
    dead = a ∷ b ∷ concat (map nils (up_to c));
  }

  real_a : Real g (port a 0)
  real_a = let z = t.size_a in omega arith

  real_b : Real g (port b 0)
  real_b = let z = t.size_b in omega arith

  -- a nil goes: its one port is what an aux port meets
  nil_is : (i n : ℕ) → i < c → Memᴰ n (nils i) → (arity g n ≡ 1) × ((n ≡ (follow g (P i)).node) ⊎ (n ≡ (follow g (Q i)).node))
  unfolding eta_nils straight
  nil_is i n l m = go (same_port (follow g (P i)) (Q i)) refl m
    where
      go : (x : Bool) → same_port (follow g (P i)) (Q i) ≡ x → Memᴰ n (elim x as (λ _. List ℕ) [ true ↦ [] | false ↦ (follow g (P i)).node ∷ (follow g (Q i)).node ∷ [] ])
          → (arity g n ≡ 1) × ((n ≡ (follow g (P i)).node) ⊎ (n ≡ (follow g (Q i)).node))
      go true e k = absurd (Memᴰ.not-nil k)
      go false e k = via (t.meets i l) (one_of_two k)
        where
          via : (follow g (P i) ≡ Q i) ⊎ ((arity g (follow g (P i)).node ≡ 1) × (arity g (follow g (Q i)).node ≡ 1)) → (n ≡ (follow g (P i)).node) ⊎ (n ≡ (follow g (Q i)).node)
              → (arity g n ≡ 1) × ((n ≡ (follow g (P i)).node) ⊎ (n ≡ (follow g (Q i)).node))
          via (inl s) d = absurd (same_port_false (follow g (P i)) (Q i) e s)
          via (inr s) (inl d) = (ap (arity g) d ∙ s.0, inl d)
          via (inr s) (inr d) = (ap (arity g) d ∙ s.1, inr d)

  -- what an aux port meets, where it has one port, is among the nils
  is_nil : (i : ℕ) (q : Port) → i < c → Near fresh g w a b c t i q → arity g (follow g q).node ≡ 1 → Memᴰ (follow g q).node (nils i)
  unfolding eta_nils straight
  is_nil i q l n one = go (same_port (follow g (P i)) (Q i)) refl n
    where
      go : (x : Bool) → same_port (follow g (P i)) (Q i) ≡ x → Near fresh g w a b c t i q
          → Memᴰ (follow g q).node (elim x as (λ _. List ℕ) [ true ↦ [] | false ↦ (follow g (P i)).node ∷ (follow g (Q i)).node ∷ [] ])
      go true e (on_a s) =
          let k = near_many fresh g w a b c t i (Q i) (on_b refl) in
          let z : arity g b ≡ 1 = ap (λ (p : Port). arity g p.node) (sym (ap (follow g) s ∙ same_port_true (follow g (P i)) (Q i) e)) ∙ one in
          absurd (omega arith)
      go true e (on_b s) =
          let k = near_many fresh g w a b c t i (P i) (on_a refl) in
          let z : arity g a ≡ 1 =
          ap (λ (p : Port). arity g p.node) (sym (ap (follow g) (s ∙ sym (same_port_true (follow g (P i)) (Q i) e)) ∙ follow_back g w (P i) (real_p fresh g w a b c t i l))) ∙ one in
          absurd (omega arith)
      go false e (on_a s) = Memᴰ.head (ap (λ (p : Port). (follow g p).node) s)
      go false e (on_b s) = Memᴰ.tail (Memᴰ.head (ap (λ (p : Port). (follow g p).node) s))

  pub paired_tidy : Tidy g paired Ends
  unfolding apply
  paired_tidy = record {
    safe = (
      record {
        real_a = real_a;
        real_b = real_b;
        differ = λ s. t.differ (ap (λ (p : Port). p.node) s);
        one_net = t.one_net;
        unused_a = λ u. u;
        unused_b = λ u. u;
      },
      cuts_fit fresh g w a b c t Ends c 0 (join g (port a 0) (port b 0)) Joined (omega arith)
          (λ p q e np nq. join_kept g w.wired (port a 0) (port b 0) real_a real_b (λ s. t.differ (ap (λ (r : Port). r.node) s)) p q e
          (λ s. np (first s)) (λ s. np (second s)) (λ s. nq (first s)) (λ s. nq (second s)))
          unused,
    );
    gone = λ n d. dead n (Memᴰ.cases_cons d);
    only = used;
  }
    where
      unused : (i : ℕ) (r : Port) → 0 ≤ i → i < c → Near₂ fresh g w a b c t i r → ¬ Joined r
      unused i r _ l n (was u) = u
      unused i r _ l n (first s) = principal_off fresh g w a b c t i (port a 0) l refl (let z = t.size_a in let y = t.some_aux in omega arith) (subst (Near₂ fresh g w a b c t i) s n)
      unused i r _ l n (second s) = principal_off fresh g w a b c t i (port b 0) l refl (let z = t.size_b in let y = t.some_aux in omega arith) (subst (Near₂ fresh g w a b c t i) s n)

      dead : (n : ℕ) → (n ≡ a) ⊎ Memᴰ n (b ∷ concat (map nils (up_to c))) → (filled g n ≡ true) × ((i : ℕ) → i < arity g n → Ends (port n i))
      dead n (inl s) = (ap (filled g) s ∙ real_filled g (port a 0) real_a, λ i l. at_a i (subst (λ (k : ℕ). i < arity g k) s l))
        where
          at_a : (i : ℕ) → i < arity g a → Ends (port n i)
          at_a zero l = left (first (ap (λ (k : ℕ). port k 0) s))
          at_a (suc i) l = right (record {
            i = i;
            low = omega arith;
            high = let z = t.size_a in omega arith;
            is = near (on_a (let z : suc i ≡ 1 + i = omega arith in λ u. port (s u) (z u)));
          })
      dead n (inr m) = go (Memᴰ.cases_cons m)
        where
          at_b : n ≡ b → (i : ℕ) → i < arity g b → Ends (port n i)
          at_b s zero l = left (second (ap (λ (k : ℕ). port k 0) s))
          at_b s (suc i) l = right (record {
            i = i;
            low = omega arith;
            high = let z = t.size_b in omega arith;
            is = near (on_b (let z : suc i ≡ 1 + i = omega arith in λ u. port (s u) (z u)));
          })

          nil : (i : ℕ) (q : Port) → i < c → Near fresh g w a b c t i q → Real g q → n ≡ (follow g q).node → arity g n ≡ 1 → (filled g n ≡ true) × ((j : ℕ) → j < arity g n → Ends (port n j))
          nil i q l k rq s one = (
            ap (filled g) s ∙ follow_filled g w q rq,
            λ j h. right (record {
              i = i;
              low = omega arith;
              high = l;
              is = met q k (same_port_lem (port n j) (follow g q) s
                  (let y = follow_real g w q rq in let z : arity g (follow g q).node ≡ 1 = sym (ap (arity g) s) ∙ one in omega arith));
            }),
          )

          go : (n ≡ b) ⊎ Memᴰ n (concat (map nils (up_to c))) → (filled g n ≡ true) × ((i : ℕ) → i < arity g n → Ends (port n i))
          go (inl s) = (ap (filled g) s ∙ real_filled g (port b 0) real_b, λ i l. at_b s i (subst (λ (k : ℕ). i < arity g k) s l))
          go (inr k) =
              let y = mem_rows nils c 0 n k in
              let l : y.0 < c = let z = y.2 in omega arith in
              let z = nil_is y.0 n l y.3 in
              via y.0 l z.0 z.1
            where
              via : (i : ℕ) → i < c → arity g n ≡ 1 → (n ≡ (follow g (P i)).node) ⊎ (n ≡ (follow g (Q i)).node) → (filled g n ≡ true) × ((j : ℕ) → j < arity g n → Ends (port n j))
              via i l one (inl s) = nil i (P i) l (on_a refl) (real_p fresh g w a b c t i l) s one
              via i l one (inr s) = nil i (Q i) l (on_b refl) (real_q fresh g w a b c t i l) s one

      used : (r : Port) → Ends r → Memᴰ r.node (a ∷ b ∷ concat (map nils (up_to c))) ⊎ (filled g r.node ≡ false)
      used r (left (was u)) = absurd u
      used r (left (first s)) = inl (Memᴰ.head (ap (λ (p : Port). p.node) s))
      used r (left (second s)) = inl (Memᴰ.tail (Memᴰ.head (ap (λ (p : Port). p.node) s)))
      used r (right x) = inl (go x.is)
        where
          beside : (q : Port) → Near fresh g w a b c t x.i q → r ≡ q → Memᴰ r.node (a ∷ b ∷ concat (map nils (up_to c)))
          beside q (on_a s) e = Memᴰ.head (ap (λ (p : Port). p.node) (e ∙ s))
          beside q (on_b s) e = Memᴰ.tail (Memᴰ.head (ap (λ (p : Port). p.node) (e ∙ s)))

          go : Near₂ fresh g w a b c t x.i r → Memᴰ r.node (a ∷ b ∷ concat (map nils (up_to c)))
          go (near k) = beside r k refl
          go (met q k e) = via (near_meets fresh g w a b c t x.i q x.high k)
            where
              via : Near fresh g w a b c t x.i (follow g q) ⊎ (arity g (follow g q).node ≡ 1) → Memᴰ r.node (a ∷ b ∷ concat (map nils (up_to c)))
              via (inl n) = beside (follow g q) n e
              via (inr one) = Memᴰ.tail (Memᴰ.tail (rows_mem nils c 0 x.i r.node x.low (let z = x.high in omega arith)
                  (Memᴰ.cast (ap (λ (p : Port). p.node) e) (is_nil x.i q x.high k one))))

  -- the two nils of one step are different
  own_of : (i : ℕ) → i < c → distinct eqb (nils i) ≡ true
  unfolding eta_nils straight
  own_of i l = go (same_port (follow g (P i)) (Q i)) refl
    where
      go : (x : Bool) → same_port (follow g (P i)) (Q i) ≡ x → distinct eqb (elim x as (λ _. List ℕ) [ true ↦ [] | false ↦ (follow g (P i)).node ∷ (follow g (Q i)).node ∷ [] ]) ≡ true
      go true e = refl
      go false e = distinct_two (follow g (P i)).node (follow g (Q i)).node (λ s. via s (t.meets i l))
        where
          via : (follow g (P i)).node ≡ (follow g (Q i)).node → (follow g (P i) ≡ Q i) ⊎ ((arity g (follow g (P i)).node ≡ 1) × (arity g (follow g (Q i)).node ≡ 1)) → ⊥
          via s (inl m) = same_port_false (follow g (P i)) (Q i) e m
          via s (inr m) =
              let rp = real_p fresh g w a b c t i l in
              let rq = real_q fresh g w a b c t i l in
              let ip = follow_real g w (P i) rp in
              let iq = follow_real g w (Q i) rq in
              let one = m.0 in
              let two = m.1 in
              let n : (follow g (P i)).index ≡ (follow g (Q i)).index = omega arith in
              t.differ (ap (λ (p : Port). p.node) (sym (follow_back g w (P i) rp) ∙ ap (follow g) (same_port_lem (follow g (P i)) (follow g (Q i)) s n) ∙ follow_back g w (Q i) rq))

  -- the pair and their nils are different nodes
  pub paired_once : distinct eqb (a ∷ b ∷ concat (map nils (up_to c))) ≡ true
  paired_once =
      distinct_cons a (b ∷ concat (map nils (up_to c))) (λ m. not_a (Memᴰ.cases_cons m))
      (distinct_cons b (concat (map nils (up_to c))) (λ m. bare b t.size_b m)
      (distinct_rows nils c 0 (λ i l. own_of i (omega arith)) (λ i j x l m p q. others i j x (omega arith) (omega arith) p q)))
    where
      bare : (n : ℕ) → arity g n ≡ 1 + c → ¬ Memᴰ n (concat (map nils (up_to c)))
      bare n s m =
          let y = mem_rows nils c 0 n m in
          let z = (nil_is y.0 n (let q = y.2 in omega arith) y.3).0 in
          let q = t.some_aux in omega arith

      not_a : (a ≡ b) ⊎ Memᴰ a (concat (map nils (up_to c))) → ⊥
      not_a (inl e) = t.differ e
      not_a (inr m) = bare a t.size_a m

      -- a node of one port: its port is what an aux port i meets
      is_met : (i x : ℕ) → i < c → Memᴰ x (nils i) → Near₂ fresh g w a b c t i (port x 0)
      is_met i x l m = go (nil_is i x l m).0 (nil_is i x l m).1
        where
          to : (q : Port) → Real g q → x ≡ (follow g q).node → arity g x ≡ 1 → port x 0 ≡ follow g q
          to q rq s one = same_port_lem (port x 0) (follow g q) s (let y = follow_real g w q rq in let z : arity g (follow g q).node ≡ 1 = sym (ap (arity g) s) ∙ one in omega arith)

          go : arity g x ≡ 1 → (x ≡ (follow g (P i)).node) ⊎ (x ≡ (follow g (Q i)).node) → Near₂ fresh g w a b c t i (port x 0)
          go one (inl s) = met (P i) (on_a refl) (to (P i) (real_p fresh g w a b c t i l) s one)
          go one (inr s) = met (Q i) (on_b refl) (to (Q i) (real_q fresh g w a b c t i l) s one)

      others : (i j x : ℕ) → i < c → j < c → Memᴰ x (nils i) → Memᴰ x (nils j) → i ≡ j
      others i j x l m p q = near₂_apart fresh g w a b c t i j (port x 0) l m (is_met i x l p) (is_met j x m q)
