-- Ends are met one by one, and the second end of a wire is joined with the first: where no wire has three, each end is used once.
use Rattle.std.specs.Prelude.{◌≡◌, ◌≢◌, ◌⊎◌, ℕ, zero, suc, ◌+◌, ◌≤◌, Bool, true, false}
use Rattle.std.proofs.Math.Path.{refl}
use Rattle.std.proofs.Common.{sym, ap, ◌∙◌, subst, inl, inr, arith, true≢false, eqb-true, eq-eqb}
use Rattle.std.proofs.Math.Decide.{ℕ_discrete}
use Rattle.std.proofs.Math.Option.{Option, none, some}
use mathlib.Core.List.Memᴰ
use mathlib.Core.List.{List, [], ◌∷◌, ◌++◌, map, Memᴰ}
use Rattle.std.proofs.Math.Dec.{eqb}
use Rattle.net_file.specs.Lists.{bit, count}
use Rattle.definitions.specs.Lists.{find}
use Rattle.definitions.specs.Nets.{Port, Graph, at}
use Rattle.definitions.specs.Scripts.{Edit, Join, join, apply}
use Rattle.definitions.specs.Load.{End, join_met}
use Rattle.join_laws.specs.Ports.{frame, arity_same, net_same, Real}
use Rattle.join_laws.proofs.Join.{frame_join}
use Rattle.script_laws.specs.Safe.{With, was, first, second, Safe}
use Rattle.script_laws.proofs.Safe.{safe_same}
use Rattle.script_laws.specs.Loops.{Or, left, right, safe_end}
use Rattle.load_laws.specs.Finds.{eqb_no, find_mem, find_none}

-- how many of the ends are of wire w
abbrev pub of_wire : ℕ → List End → ℕ
of_wire w es = count (λ e. eqb w e.0) es

pub of_wire_append : (w : ℕ) (xs ys : List End) → of_wire w (xs ++ ys) ≡ of_wire w xs + of_wire w ys
of_wire_append w [] ys = omega arith
of_wire_append w (x ∷ xs) ys = let z = of_wire_append w xs ys in omega arith

pub of_wire_mem : (w : ℕ) (es : List End) (y : End) → Memᴰ y es → w ≡ y.0 → 1 ≤ of_wire w es
of_wire_mem w [] y m e = absurd (Memᴰ.not-nil m)
of_wire_mem w (x ∷ es) y m e = go (Memᴰ.cases_cons m) (λ k. of_wire_mem w es y k e)
  where
    go : (y ≡ x) ⊎ Memᴰ y es → (Memᴰ y es → 1 ≤ of_wire w es) → 1 ≤ bit (eqb w x.0) + of_wire w es
    go (inl s) r = rw (eq-eqb w x.0 (e ∙ ap (λ (t : End). t.0) s)) (omega arith)
    go (inr k) r = let z = r k in omega arith

of_wire_none : (w : ℕ) (es : List End) → ((y : End) → Memᴰ y es → eqb w y.0 ≡ false) → of_wire w es ≡ 0
of_wire_none w [] h = refl
of_wire_none w (x ∷ es) h = rw (h x (Memᴰ.head refl)) (let z = of_wire_none w es (λ y m. h y (Memᴰ.tail m)) in omega arith)

-- where one end only is of wire w, two that are of it are one
of_wire_one : (w : ℕ) (es : List End) (y z : End) → of_wire w es ≤ 1 → Memᴰ y es → Memᴰ z es → w ≡ y.0 → w ≡ z.0 → y ≡ z
of_wire_one w [] y z l m n e f = absurd (Memᴰ.not-nil m)
of_wire_one w (x ∷ es) y z l m n e f = go (Memᴰ.cases_cons m) (Memᴰ.cases_cons n) (λ l' m' n'. of_wire_one w es y z l' m' n' e f)
  where
    alone : (v : End) → w ≡ x.0 → Memᴰ v es → w ≡ v.0 → ⊥
    alone v s k q =
        let a = of_wire_mem w es v k q in
        let b : bit (eqb w x.0) ≡ 1 = ap bit (eq-eqb w x.0 s) in omega arith

    go : (y ≡ x) ⊎ Memᴰ y es → (z ≡ x) ⊎ Memᴰ z es → (of_wire w es ≤ 1 → Memᴰ y es → Memᴰ z es → y ≡ z) → y ≡ z
    go (inl s) (inl t) r = s ∙ sym t
    go (inl s) (inr n') r = absurd (alone z (e ∙ ap (λ (u : End). u.0) s) n' f)
    go (inr m') (inl t) r = absurd (alone y (f ∙ ap (λ (u : End). u.0) t) m' e)
    go (inr m') (inr n') r = r (omega arith) m' n'

-- the ports of the ends are different
abbrev pub PortsApart : List End → Type 0
PortsApart [] = Unit {0}
PortsApart (x ∷ xs) = ((y : End) → Memᴰ y xs → y.1 ≢ x.1) × PortsApart xs

ports_one : (es : List End) → PortsApart es → (y z : End) → Memᴰ y es → Memᴰ z es → y.1 ≡ z.1 → y ≡ z
ports_one [] a y z m n e = absurd (Memᴰ.not-nil m)
ports_one (x ∷ es) a y z m n e = go (Memᴰ.cases_cons m) (Memᴰ.cases_cons n) (λ m' n'. ports_one es a.1 y z m' n' e)
  where
    go : (y ≡ x) ⊎ Memᴰ y es → (z ≡ x) ⊎ Memᴰ z es → (Memᴰ y es → Memᴰ z es → y ≡ z) → y ≡ z
    go (inl s) (inl t) r = s ∙ sym t
    go (inl s) (inr n') r = absurd (a.0 z n' (sym e ∙ ap (λ (u : End). u.1) s))
    go (inr m') (inl t) r = absurd (a.0 y m' (e ∙ ap (λ (u : End). u.1) t))
    go (inr m') (inr n') r = r m' n'

-- an end whose wire has both its ends
pub record Joined (es : List End) (r : Port) : Type 0 where
  pub end : End
  pub mem : Memᴰ end es
  pub port : r ≡ end.1
  pub two : 2 ≤ of_wire end.0 es

-- the same ends in another order: the same are joined
joined_same : (es fs : List End) → ((y : End) → Memᴰ y es → Memᴰ y fs) → ((w : ℕ) → of_wire w es ≤ of_wire w fs) → (r : Port) → Joined es r → Joined fs r
joined_same es fs m c r j = record { end = j.end; mem = m j.end j.mem; port = j.port; two = let x = j.two in let y = c j.end.0 in omega arith }

module _ (B : Port → Type 0) where
  -- used: of the base B, or joined
  abbrev pub UsedBy : List End → Port → Type 0
  UsedBy es = Or B (Joined es)

  -- what is asked of the ends met and to come
  pub record MeetsFit (k : ℕ) (g : Graph) (met xs : List End) : Type 0 where
    pub real : (y : End) → Memᴰ y (xs ++ met) → Real g y.1
    pub in_net : (y : End) → Memᴰ y (xs ++ met) → (at g y.1.node).net ≡ k
    pub off : (y : End) → Memᴰ y (xs ++ met) → ¬ B y.1
    pub ports : PortsApart (xs ++ met)
    pub most : (w : ℕ) → of_wire w (xs ++ met) ≤ 2

  -- x ∷ xs met, x first or last
  swap_mem : (x : End) (xs met : List End) (y : End) → Memᴰ y (xs ++ x ∷ met) → Memᴰ y (x ∷ xs ++ met)
  swap_mem x xs met y m = go (Memᴰ.append_cases xs m)
    where
      via : (y ≡ x) ⊎ Memᴰ y met → Memᴰ y (x ∷ xs ++ met)
      via (inl e) = Memᴰ.head e
      via (inr k) = Memᴰ.tail (Memᴰ.append_right xs k)

      go : Memᴰ y xs ⊎ Memᴰ y (x ∷ met) → Memᴰ y (x ∷ xs ++ met)
      go (inl k) = Memᴰ.tail (Memᴰ.append_left met k)
      go (inr k) = via (Memᴰ.cases_cons k)

  swap_mem' : (x : End) (xs met : List End) (y : End) → Memᴰ y (x ∷ xs ++ met) → Memᴰ y (xs ++ x ∷ met)
  swap_mem' x xs met y m = go (Memᴰ.cases_cons m)
    where
      via : Memᴰ y xs ⊎ Memᴰ y met → Memᴰ y (xs ++ x ∷ met)
      via (inl k) = Memᴰ.append_left (x ∷ met) k
      via (inr k) = Memᴰ.append_right xs (Memᴰ.tail k)

      go : (y ≡ x) ⊎ Memᴰ y (xs ++ met) → Memᴰ y (xs ++ x ∷ met)
      go (inl e) = Memᴰ.append_right xs (Memᴰ.head e)
      go (inr k) = via (Memᴰ.append_cases xs k)

  swap_count : (x : End) (xs met : List End) (w : ℕ) → of_wire w (xs ++ x ∷ met) ≡ of_wire w (x ∷ xs ++ met)
  swap_count x xs met w = let a = of_wire_append w xs (x ∷ met) in let b = of_wire_append w xs met in omega arith

  swap_ports : (x : End) (xs met : List End) → PortsApart (x ∷ xs ++ met) → PortsApart (xs ++ x ∷ met)
  swap_ports x [] met a = a
  swap_ports x (z ∷ xs) met a = (
    λ y m. via y (Memᴰ.cases_cons (swap_mem x xs met y m)),
    swap_ports x xs met (λ y m. a.0 y (Memᴰ.tail m), a.1.1),
  )
    where
      via : (y : End) → (y ≡ x) ⊎ Memᴰ y (xs ++ met) → y.1 ≢ z.1
      via y (inl e) q = a.0 z (Memᴰ.head refl) (sym q ∙ ap (λ (u : End). u.1) e)
      via y (inr k) q = a.1.0 y k q

  module _ (k : ℕ) (g h : Graph) (x : End) (xs met : List End) (same : (n : ℕ) → frame h n ≡ frame g n) (f : MeetsFit k g met (x ∷ xs)) where
    fit_next : MeetsFit k h (x ∷ met) xs
    fit_next = record {
      real = λ y m. rw (arity_same g h y.1.node (same y.1.node)) (f.real y (swap_mem x xs met y m));
      in_net = λ y m. net_same g h y.1.node (same y.1.node) ∙ f.in_net y (swap_mem x xs met y m);
      off = λ y m. f.off y (swap_mem x xs met y m);
      ports = swap_ports x xs met f.ports;
      most = λ w. let a = f.most w in let b = swap_count x xs met w in omega arith;
    }

  -- the first end of a wire: nothing is joined
  module _ (x : End) (met : List End) (none' : of_wire x.0 met ≡ 0) where
    first_same : (r : Port) → (UsedBy met r → UsedBy (x ∷ met) r) × (UsedBy (x ∷ met) r → UsedBy met r)
    first_same r = (to, from')
      where
        to : UsedBy met r → UsedBy (x ∷ met) r
        to (left b) = left b
        to (right j) = right (joined_same met (x ∷ met) (λ y m. Memᴰ.tail m) (λ w. omega arith) r j)

        from' : UsedBy (x ∷ met) r → UsedBy met r
        from' (left b) = left b
        from' (right j) = right (go (Memᴰ.cases_cons j.mem) (ℕ_discrete j.end.0 x.0))
          where
            go : (j.end ≡ x) ⊎ Memᴰ j.end met → Dec (j.end.0 ≡ x.0) → Joined met r
            go (inl s) d =
                let a : of_wire j.end.0 (x ∷ met) ≡ of_wire x.0 (x ∷ met) = ap (λ (w : ℕ). of_wire w (x ∷ met)) (ap (λ (u : End). u.0) s) in
                let b = j.two in
                let c : bit (eqb x.0 x.0) ≤ 1 = bit_one (eqb x.0 x.0) in
                absurd (omega arith)
              where
                bit_one : (t : Bool) → bit t ≤ 1
                bit_one true = omega arith
                bit_one false = omega arith
            go (inr m) (yes e) = let z = of_wire_mem x.0 met j.end m (sym e) in absurd (omega arith)
            go (inr m) (no e) = record {
              end = j.end;
              mem = m;
              port = j.port;
              two = let z : bit (eqb j.end.0 x.0) ≡ 0 = ap bit (eqb_no j.end.0 x.0 e) in let b = j.two in omega arith;
            }

  -- the second: it and the first are joined
  module _ (x y : End) (met : List End) (there : Memᴰ y met) (wire : x.0 ≡ y.0) (one : of_wire x.0 met ≤ 1) where
    second_same : (r : Port) → (With (UsedBy met) x.1 y.1 r → UsedBy (x ∷ met) r) × (UsedBy (x ∷ met) r → With (UsedBy met) x.1 y.1 r)
    second_same r = (to, from')
      where
        two : 2 ≤ of_wire x.0 (x ∷ met)
        two = let a : bit (eqb x.0 x.0) ≡ 1 = ap bit (eq-eqb x.0 x.0 refl) in let b = of_wire_mem x.0 met y there wire in omega arith

        to : With (UsedBy met) x.1 y.1 r → UsedBy (x ∷ met) r
        to (was (left b)) = left b
        to (was (right j)) = right (joined_same met (x ∷ met) (λ z m. Memᴰ.tail m) (λ w. omega arith) r j)
        to (first e) = right (record { end = x; mem = Memᴰ.head refl; port = e; two = two })
        to (second e) = right (record { end = y; mem = Memᴰ.tail there; port = e; two = subst (λ (w : ℕ). 2 ≤ of_wire w (x ∷ met)) wire two })

        from' : UsedBy (x ∷ met) r → With (UsedBy met) x.1 y.1 r
        from' (left b) = was (left b)
        from' (right j) = go (Memᴰ.cases_cons j.mem) (ℕ_discrete x.0 j.end.0)
          where
            go : (j.end ≡ x) ⊎ Memᴰ j.end met → Dec (x.0 ≡ j.end.0) → With (UsedBy met) x.1 y.1 r
            go (inl s) d = first (j.port ∙ ap (λ (u : End). u.1) s)
            go (inr m) (yes e) = second (j.port ∙ ap (λ (u : End). u.1) (of_wire_one x.0 met j.end y one m there e wire))
            go (inr m) (no e) = was (right (record {
              end = j.end;
              mem = m;
              port = j.port;
              two = let z : bit (eqb j.end.0 x.0) ≡ 0 = ap bit (eqb_no j.end.0 x.0 (λ q. e (sym q))) in let b = j.two in omega arith;
            }))

  -- all ends to come
  pub meets_safe : (F : Port → Type 0) (k : ℕ) (xs met : List End) (g : Graph) → MeetsFit k g met xs → Safe F g (UsedBy met) (join_met met xs) (UsedBy (xs ++ met))
  unfolding join_met apply
  meets_safe F k [] met g f = λ r. (λ u. u, λ u. u)
  meets_safe F k (x ∷ xs) met g f =
      go (find (λ y. eqb x.0 y.0) met) refl
      (λ h same. end h (meets_safe F k xs (x ∷ met) h (fit_next k g h x xs met same f)))
    where
      -- in the end
      end : (h : Graph) → Safe F h (UsedBy (x ∷ met)) (join_met (x ∷ met) xs) (UsedBy (xs ++ x ∷ met)) → Safe F h (UsedBy (x ∷ met)) (join_met (x ∷ met) xs) (UsedBy (x ∷ xs ++ met))
      end h s = safe_end F (join_met (x ∷ met) xs) h (UsedBy (x ∷ met)) (UsedBy (xs ++ x ∷ met)) (UsedBy (x ∷ xs ++ met)) both_ways s
        where
          to : (r : Port) → UsedBy (xs ++ x ∷ met) r → UsedBy (x ∷ xs ++ met) r
          to r (left b) = left b
          to r (right j) = right (joined_same (xs ++ x ∷ met) (x ∷ xs ++ met) (swap_mem x xs met) (λ w. let z = swap_count x xs met w in omega arith) r j)

          from' : (r : Port) → UsedBy (x ∷ xs ++ met) r → UsedBy (xs ++ x ∷ met) r
          from' r (left b) = left b
          from' r (right j) = right (joined_same (x ∷ xs ++ met) (xs ++ x ∷ met) (swap_mem' x xs met) (λ w. let z = swap_count x xs met w in omega arith) r j)

          both_ways : (r : Port) → (UsedBy (xs ++ x ∷ met) r → UsedBy (x ∷ xs ++ met) r) × (UsedBy (x ∷ xs ++ met) r → UsedBy (xs ++ x ∷ met) r)
          both_ways r = (to r, from' r)

      met_in : (y : End) → Memᴰ y met → Memᴰ y (x ∷ xs ++ met)
      met_in y m = Memᴰ.tail (Memᴰ.append_right xs m)

      apart_x : (y : End) → Memᴰ y met → y.1 ≢ x.1
      apart_x y m = f.ports.0 y (Memᴰ.append_right xs m)

      go : (o : Option End) → find (λ y. eqb x.0 y.0) met ≡ o
          → ((h : Graph) → ((n : ℕ) → frame h n ≡ frame g n) → Safe F h (UsedBy (x ∷ met)) (join_met (x ∷ met) xs) (UsedBy (x ∷ xs ++ met)))
          → Safe F g (UsedBy met) (elim o as (λ _. List Edit) [ none ↦ join_met (x ∷ met) xs | some y ↦ Join x.1 y.1 ∷ join_met (x ∷ met) xs ]) (UsedBy (x ∷ xs ++ met))
      go none e r =
          safe_same F (join_met (x ∷ met) xs) g (UsedBy (x ∷ met)) (UsedBy met) (UsedBy (x ∷ xs ++ met))
          (λ p. let z = first_same x met (of_wire_none x.0 met (find_none (λ y. eqb x.0 y.0) met e)) p in (z.1, z.0)) (r g (λ n. refl))
      go (some y) e r = (
        record {
          real_a = f.real x (Memᴰ.head refl);
          real_b = f.real y (met_in y there);
          differ = λ s. apart_x y there (sym s);
          one_net = f.in_net x (Memᴰ.head refl) ∙ sym (f.in_net y (met_in y there));
          unused_a = x_unused;
          unused_b = y_unused;
        },
        safe_same F (join_met (x ∷ met) xs) (join g x.1 y.1) (UsedBy (x ∷ met)) (With (UsedBy met) x.1 y.1) (UsedBy (x ∷ xs ++ met))
            (λ p. let z = second_same x y met there wire one p in (z.1, z.0)) (r (join g x.1 y.1) (frame_join g x.1 y.1)),
      )
        where
          there : Memᴰ y met
          there = (find_mem (λ z. eqb x.0 z.0) met y e).0

          wire : x.0 ≡ y.0
          wire = eqb-true x.0 y.0 (find_mem (λ z. eqb x.0 z.0) met y e).1

          one : of_wire x.0 met ≤ 1
          one =
              let a = f.most x.0 in
              let b : bit (eqb x.0 x.0) ≡ 1 = ap bit (eq-eqb x.0 x.0 refl) in
              let c = of_wire_append x.0 xs met in
              omega arith

          x_unused : ¬ UsedBy met x.1
          x_unused (left b) = f.off x (Memᴰ.head refl) b
          x_unused (right j) = apart_x j.end j.mem (sym j.port)

          met_ports : (zs : List End) → PortsApart (zs ++ met) → PortsApart met
          met_ports [] a = a
          met_ports (z ∷ zs) a = met_ports zs a.1

          y_unused : ¬ UsedBy met y.1
          y_unused (left b) = f.off y (met_in y there) b
          y_unused (right j) =
              let s : y ≡ j.end = ports_one met (met_ports (x ∷ xs) f.ports) y j.end there j.mem j.port in
              let a = j.two in
              let c : of_wire j.end.0 met ≡ of_wire x.0 met = ap (λ (w : ℕ). of_wire w met) (sym (wire ∙ ap (λ (u : End). u.0) s)) in
              let o = one in
              omega arith
