-- Eta, value form: the wires to the values are cut, and one value comes in place of all.
use Rattle.std.specs.Prelude.{◌≡◌, refl, ◌≢◌, ◌⊎◌, ℕ, zero, suc, ◌+◌, ◌-◌, ◌<◌, ◌≤◌, Bool, true, false, ◌&&◌, length, get_or, eqb}
use Rattle.std.proofs.Math.Path.{sym, ap}
use Rattle.std.proofs.Common.{◌∙◌, subst, inl, inr, eqb-true}
use native.Mathlib.Omega.{arith}
use Rattle.std.proofs.Math.Option.{Option, none, some, some-injective}
use mathlib.Core.List.Memᴰ
use mathlib.Core.List.{List, [], ◌∷◌, ◌++◌, map, Memᴰ}
use Rattle.list_laws.specs.Tests.{both}
use Rattle.net_file.specs.Lists.{all, distinct}
use Rattle.net_file.specs.Values.{Name}
use Rattle.net_file.specs.Checks.{same_name}
use Rattle.definitions.specs.Lists.{or_else, foldl, zip_with, up_to, has}
use Rattle.definitions.specs.Nets.{Port, Node, Graph, port, at, filled, name_of, arity, aux, across, follow}
use Rattle.definitions.specs.Scripts.{Edit, Insert, Join, Cut, Script, fill, cut, apply}
use Rattle.definitions.specs.Rules.{new, hang, eta_values}
use Rattle.definitions.specs.Step.{Fresh}
use Rattle.join_laws.specs.Ports.{Frame, no_frame, same_port_lem, frame, arity_frame, arity_same, net_frame, net_same, filled_same, Real}
use Rattle.join_laws.specs.Link.{frame_cut}
use Rattle.script_laws.specs.Slots.{frame_fill_same, frame_fill_other}
use Rattle.script_laws.specs.Safe.{With, was, first, second, Safe}
use Rattle.script_laws.proofs.Safe.{safe_append}
use Rattle.script_laws.specs.Loops.{Or, left, right, Row, Apart, cuts_safe}
use Rattle.script_laws.specs.Tidy.{WellWired, Tidy, real_filled}
use Rattle.rule_laws.specs.Ids.{distinct_cons, distinct_row}
use Rattle.rule_laws.specs.Places.{given_some, zip_rows, new_holes, not_fresh, Clean, tidy_clean, follow_across, follow_real, follow_back, follow_filled}
use Rattle.rule_laws.specs.Rows.{mem_row, row_mem, all_row, map_map, aux_row}

-- a run of cuts changes no frame
pub frame_cuts : (P Q : ℕ → Port) (xs : List ℕ) (g : Graph) (n : ℕ) → frame (foldl apply g (map (λ i. Cut (P i) (Q i)) xs)) n ≡ frame g n
unfolding apply
frame_cuts P Q [] g n = refl
frame_cuts P Q (x ∷ xs) g n = frame_cuts P Q xs (cut g (P x) (Q x)) n ∙ frame_cut g (P x) (Q x) n

-- `more`: a has aux ports; `bare`: each meets a node of one port
module _ (fresh : ℕ → ℕ) (g : Graph) (w : WellWired g) (f : Fresh g fresh) (a : ℕ) (name : Name) (more : 2 ≤ arity g a)
    (bare : (i : ℕ) → i < arity g a - 1 → arity g (follow g (port a (1 + i))).node ≡ 1) where
  abbrev pub c : ℕ
  c = arity g a - 1

  abbrev pub P : ℕ → Port
  P i = port a (1 + i)

  abbrev pub Q : ℕ → Port
  Q i = follow g (P i)

  abbrev pub x : Node
  x = new (at g a).net name 1

  abbrev pub Cuts : Port → Type 0
  Cuts = Or (λ _. ⊥) (Row P Q 0 c)

  abbrev pub Ends : Port → Type 0
  Ends = With Cuts (port a 0) (port (fresh 0) 0)

  abbrev pub cuts : List Edit
  cuts = map (λ i. Cut (P i) (Q i)) (up_to c)

  abbrev pub reduced : Script
  reduced = record {
    edits = cuts ++ Insert (fresh 0) x ∷ Join (port a 0) (port (fresh 0) 0) ∷ [];
    dead = a ∷ map (λ i. (Q i).node) (up_to c);
  }

  abbrev g₁ : Graph
  g₁ = foldl apply g cuts

  abbrev g₂ : Graph
  g₂ = fill g₁ (fresh 0) x

  filled_a : filled g a ≡ true
  filled_a = real_filled g (port a 0) (omega arith)

  real_p : (i : ℕ) → i < c → Real g (P i)
  real_p i l = omega arith

  -- what an aux port meets is a principal port
  value_index : (i : ℕ) → i < c → (Q i).index ≡ 0
  value_index i l = let h = follow_real g w (P i) (real_p i l) in let b = bare i l in omega arith

  apart : Apart P Q c
  apart = record {
    p_apart = λ i j _ _ s. let z : 1 + i ≡ 1 + j = ap (λ (p : Port). p.index) s in omega arith;
    q_apart = λ i j l m s.
        let z : 1 + i ≡ 1 + j = ap (λ (p : Port). p.index) (sym (follow_back g w (P i) (real_p i l)) ∙ ap (follow g) s ∙ follow_back g w (P j) (real_p j m)) in
        omega arith;
    pq_apart = λ i j _ m s. let z : 1 + i ≡ (Q j).index = ap (λ (p : Port). p.index) s in let y = value_index j m in omega arith;
  }

  cuts_fit : Safe Ends g (λ _. ⊥) cuts Cuts
  cuts_fit = cuts_safe Ends P Q c apart c 0 g (λ _. ⊥) (omega arith) (record {
    wired = λ i _ l. follow_across g w (P i) (real_p i l);
    unused_p = λ i _ _ u. u;
    unused_q = λ i _ _ u. u;
  })

  same₁ : (n : ℕ) → frame g₁ n ≡ frame g n
  same₁ = frame_cuts P Q (up_to c) g

  same₂ : frame g₂ a ≡ frame g a
  same₂ = frame_fill_other g₁ (fresh 0) a x (not_fresh g fresh f a 0 filled_a) ∙ same₁ a

  new₂ : frame g₂ (fresh 0) ≡ some (record { net = (at g a).net; name = name; size = 1 })
  unfolding new
  new₂ = frame_fill_same g₁ (fresh 0) x

  last_fit : Safe Ends g₁ Cuts (Insert (fresh 0) x ∷ Join (port a 0) (port (fresh 0) 0) ∷ []) Ends
  unfolding apply new
  last_fit = (
    record {
      vacant = filled_same g g₁ (fresh 0) (same₁ (fresh 0)) ∙ f.vacant 0;
      holes = new_holes (at g a).net name 1;
      some_port = omega arith;
      later = λ i l. second (ap (port (fresh 0)) (let z : i ≡ 0 = omega arith in z));
    },
    (
      record {
        real_a = rw (arity_same g g₂ a same₂) (omega arith);
        real_b = rw (arity_frame g₂ (fresh 0) ∙ ap (λ (o : Option Frame). (or_else o no_frame).size) new₂) (omega arith);
        differ = λ s. not_fresh g fresh f a 0 filled_a (ap (λ (p : Port). p.node) s);
        one_net = net_same g g₂ a same₂ ∙ sym (net_frame g₂ (fresh 0) ∙ ap (λ (o : Option Frame). (or_else o no_frame).net) new₂);
        unused_a = a_unused;
        unused_b = new_unused;
      },
      λ r. (λ u. u, λ u. u),
    ),
  )
    where
      a_unused : ¬ Cuts (port a 0)
      a_unused (left u) = u
      a_unused (right r) = go r.is
        where
          go : (port a 0 ≡ P r.i) ⊎ (port a 0 ≡ Q r.i) → ⊥
          go (inl s) = let z : 0 ≡ 1 + r.i = ap (λ (p : Port). p.index) s in omega arith
          go (inr s) = let z : arity g a ≡ 1 = ap (λ (p : Port). arity g p.node) s ∙ bare r.i r.high in omega arith

      new_unused : ¬ Cuts (port (fresh 0) 0)
      new_unused (left u) = u
      new_unused (right r) = go r.is
        where
          go : (port (fresh 0) 0 ≡ P r.i) ⊎ (port (fresh 0) 0 ≡ Q r.i) → ⊥
          go (inl s) = not_fresh g fresh f a 0 filled_a (sym (ap (λ (p : Port). p.node) s))
          go (inr s) = not_fresh g fresh f (Q r.i).node 0 (follow_filled g w (P r.i) (real_p r.i r.high)) (sym (ap (λ (p : Port). p.node) s))

  pub reduced_tidy : Tidy g reduced Ends
  reduced_tidy = record {
    safe = safe_append Ends cuts (Insert (fresh 0) x ∷ Join (port a 0) (port (fresh 0) 0) ∷ []) g (λ _. ⊥) Cuts Ends cuts_fit last_fit;
    gone = λ n d. dead n (Memᴰ.cases_cons d);
    only = used;
  }
    where
      dead : (n : ℕ) → (n ≡ a) ⊎ Memᴰ n (map (λ i. (Q i).node) (up_to c)) → (filled g n ≡ true) × ((i : ℕ) → i < arity g n → Ends (port n i))
      dead n (inl s) = (ap (filled g) s ∙ filled_a, λ i l. at_a i (subst (λ (k : ℕ). i < arity g k) s l))
        where
          at_a : (i : ℕ) → i < arity g a → Ends (port n i)
          at_a zero l = first (ap (λ (k : ℕ). port k 0) s)
          at_a (suc i) l = was (right (record { i = i; low = omega arith; high = omega arith; is = inl (let z : suc i ≡ 1 + i = omega arith in λ u. port (s u) (z u)) }))
      dead n (inr m) =
          let y = mem_row (λ i. (Q i).node) c 0 n m in
          let l : y.0 < c = let z = y.2 in omega arith in (
            ap (filled g) y.3 ∙ follow_filled g w (P y.0) (real_p y.0 l),
            λ i h. was (right (record {
              i = y.0;
              low = omega arith;
              high = l;
              is = inr (same_port_lem (port n i) (Q y.0) y.3
                  (let z = value_index y.0 l in let v = bare y.0 l in let u : i < arity g (Q y.0).node = subst (λ (k : ℕ). i < arity g k) y.3 h in omega arith));
            })),
          )

      used : (r : Port) → Ends r → Memᴰ r.node (a ∷ map (λ i. (Q i).node) (up_to c)) ⊎ (filled g r.node ≡ false)
      used r (was (left u)) = absurd u
      used r (was (right z)) = go z.is
        where
          go : (r ≡ P z.i) ⊎ (r ≡ Q z.i) → Memᴰ r.node (a ∷ map (λ i. (Q i).node) (up_to c)) ⊎ (filled g r.node ≡ false)
          go (inl s) = inl (Memᴰ.head (ap (λ (p : Port). p.node) s))
          go (inr s) = inl (Memᴰ.tail (Memᴰ.cast (ap (λ (p : Port). p.node) s) (row_mem (λ i. (Q i).node) c 0 z.i z.low (let h = z.high in omega arith))))
      used r (first s) = inl (Memᴰ.head (ap (λ (p : Port). p.node) s))
      used r (second s) = inr (ap (λ (p : Port). filled g p.node) s ∙ f.vacant 0)

  -- the combinator and its values are different nodes
  reduced_once : distinct eqb (a ∷ map (λ i. (Q i).node) (up_to c)) ≡ true
  reduced_once =
      distinct_cons a (map (λ i. (Q i).node) (up_to c))
      (λ m. let y = mem_row (λ i. (Q i).node) c 0 a m in let z : arity g a ≡ 1 = ap (arity g) y.3 ∙ bare y.0 (let q = y.2 in omega arith) in omega arith)
      (distinct_row (λ i. (Q i).node) c 0 (λ i j l m e.
      apart.q_apart i j (omega arith) (omega arith)
      (same_port_lem (Q i) (Q j) e (value_index i (omega arith) ∙ sym (value_index j (omega arith))))))

-- the value form leaves the nets well wired
pub values_clean : (fresh : ℕ → ℕ) (g : Graph) → WellWired g → Fresh g fresh → (values : List ℕ) (a : ℕ) → 2 ≤ arity g a
    → (s : Script) → eta_values fresh g values a ≡ some s → Clean g s
unfolding eta_values hang
values_clean fresh g w f values a more s h =
    let ns = map (λ (q : Port). q.node) (map (follow g) (aux g a)) in
    let name = name_of g (get_or ns 0 0) in
    let test = all (λ n. eqb (arity g n) 1) ns && has values name.path && all (λ n. same_name (name_of g n) name) ns in
    let k = given_some test (record { edits = zip_with Cut (aux g a) (map (follow g) (aux g a)) ++ hang fresh g 0 (new (at g a).net name 1) (port a 0); dead = a ∷ ns }) s h in
    let rows : ns ≡ map (λ i. (follow g (port a (1 + i))).node) (up_to (arity g a - 1)) =
    ap (λ (l : List Port). map (λ (q : Port). q.node) (map (follow g) l)) (aux_row g a)
    ∙ ap (map (λ (q : Port). q.node)) (map_map (follow g) (λ i. port a (1 + i)) (up_to (arity g a - 1)))
    ∙ map_map (λ (q : Port). q.node) (λ i. follow g (port a (1 + i))) (up_to (arity g a - 1)) in
    let c' = arity g a - 1 in
    let one : all (λ n. eqb (arity g n) 1) (map (λ i. (follow g (port a (1 + i))).node) (up_to c')) ≡ true =
    subst (λ (l : List ℕ). all (λ n. eqb (arity g n) 1) l ≡ true) rows
    (both (all (λ n. eqb (arity g n) 1) ns) (has values name.path)
    (both (all (λ n. eqb (arity g n) 1) ns && has values name.path) (all (λ n. same_name (name_of g n) name) ns) k.0).0).0 in
    let bare : (i : ℕ) → i < c' → arity g (follow g (port a (1 + i))).node ≡ 1 =
    λ i l. eqb-true (arity g (follow g (port a (1 + i))).node) 1 (all_row (λ j. (follow g (port a (1 + j))).node) (λ n. eqb (arity g n) 1) c' 0 one i (omega arith) (omega arith)) in
    let rows' : zip_with Cut (aux g a) (map (follow g) (aux g a)) ≡ map (λ i. Cut (port a (1 + i)) (follow g (port a (1 + i)))) (up_to c') =
    ap (λ (l : List Port). zip_with Cut l (map (follow g) l)) (aux_row g a)
    ∙ ap (zip_with Cut (map (λ i. port a (1 + i)) (up_to c'))) (map_map (follow g) (λ i. port a (1 + i)) (up_to c'))
    ∙ zip_rows Cut (λ i. port a (1 + i)) (λ i. follow g (port a (1 + i))) (up_to c') in
    let tail = hang fresh g 0 (new (at g a).net name 1) (port a 0) in
    let script : reduced fresh g w f a name more bare ≡ record { edits = zip_with Cut (aux g a) (map (follow g) (aux g a)) ++ tail; dead = a ∷ ns } =
    ap (λ (es : List Edit). record { edits = es ++ tail; dead = a ∷ map (λ i. (follow g (port a (1 + i))).node) (up_to c') }) (sym rows')
    ∙ ap (λ (l : List ℕ). record { edits = zip_with Cut (aux g a) (map (follow g) (aux g a)) ++ tail; dead = a ∷ l }) (sym rows) in
    subst (Clean g) (script ∙ k.1) (tidy_clean g (reduced fresh g w f a name more bare) (Ends fresh g w f a name more bare) w (reduced_tidy fresh g w f a name more bare) (reduced_once fresh g w f a name more bare))
