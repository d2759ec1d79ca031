-- A link keeps a wiring, and turns its two arguments, hole to filled and filled to hole, and no other port. So does a cut.
use Rattle.std.specs.Prelude.{◌≡◌, refl, ◌≢◌, ℕ, Bool, true, false, not}
use Rattle.std.proofs.Common.{sym, ap, ◌∙◌, subst, arith}
use Rattle.std.proofs.Math.Option.{Option, none, some, some-injective}
use Rattle.definitions.specs.Lists.{or_else, is_some}
use Rattle.definitions.specs.Nets.{Port, Graph, at, same_port, across, follow}
use Rattle.definitions.specs.Scripts.{wire, cut, ends, join}
use Rattle.join_laws.specs.Ports.{port_discrete, same_port_true, same_port_false, frame, frame_wire, net_same, Real, across_wire_same, across_wire_other, real_wire, across_real}

-- links agree at both ends, no port meets itself, no wire leaves its net
pub record Wired (g : Graph) : Type 0 where
  pub back : (p q : Port) → across g p ≡ some q → across g q ≡ some p
  pub apart : (p : Port) → across g p ≢ some p
  pub within : (p q : Port) → across g p ≡ some q → (at g p.node).net ≡ (at g q.node).net

-- the ports a and b are turned, and no other
pub record Turned (g h : Graph) (a b : Port) : Type 0 where
  pub first : is_some (across h a) ≡ not (is_some (across g a))
  pub second : is_some (across h b) ≡ not (is_some (across g b))
  pub others : (r : Port) → r ≢ a → r ≢ b → is_some (across h r) ≡ is_some (across g r)

differ : {A : Type 0} {q : A} → ◌≡◌ {A = Option A} none (some q) → ⊥
differ e = let z : ◌≡◌ {A = ℕ} 0 1 = cc in omega arith

-- ---- a cut

pub frame_cut : (g : Graph) (a b : Port) (n : ℕ) → frame (cut g a b) n ≡ frame g n
unfolding cut
frame_cut g a b n = frame_wire (wire g a none) b none n ∙ frame_wire g a none n

pub cut_other : (g : Graph) (a b r : Port) → r ≢ a → r ≢ b → across (cut g a b) r ≡ across g r
unfolding cut
cut_other g a b r m n = across_wire_other (wire g a none) b none r n ∙ across_wire_other g a none r m

pub cut_second : (g : Graph) (a b : Port) → Real g b → across (cut g a b) b ≡ none
unfolding cut
cut_second g a b h = across_wire_same (wire g a none) b none (real_wire g a none b h)

pub cut_first : (g : Graph) (a b : Port) → Real g a → a ≢ b → across (cut g a b) a ≡ none
unfolding cut
cut_first g a b h n = across_wire_other (wire g a none) b none a n ∙ across_wire_same g a none h

real_cut : (g : Graph) (a b r : Port) → Real g r → Real (cut g a b) r
unfolding cut
real_cut g a b r h = real_wire (wire g a none) b none r (real_wire g a none r h)

-- ---- the end that a port stands for

-- a' is across from a, or is a, a hole
pub data End (g : Graph) (a a' : Port) : Type 0 where
  filled : across g a ≡ some a' → End g a a'
  hole : across g a ≡ none → a' ≡ a → End g a a'

pub follow_end : (g : Graph) (a : Port) → End g a (follow g a)
unfolding follow
follow_end g a = go (across g a) refl
  where
    go : (o : Option Port) → across g a ≡ o → End g a (or_else o a)
    go none e = hole e refl
    go (some q) e = filled e

-- a wiring, and two ports that exist
module _ (g : Graph) (w : Wired g) where
  -- only a is across from a's end, and only a's end is across from a
  pub to_end : (a a' r : Port) → End g a a' → across g r ≡ some a' → r ≡ a
  to_end a a' r (filled e) x = let y = w.back r a' x in let z = w.back a a' e in cc
  to_end a a' r (hole e s) x = absurd (differ (sym e ∙ subst (λ (t : Port). across g t ≡ some r) s (w.back r a' x)))

  pub from_end : (a a' r : Port) → End g a a' → across g a ≡ some r → r ≡ a'
  from_end a a' r (filled e) x = cc
  from_end a a' r (hole e s) x = absurd (differ (sym e ∙ x))

  end_real : (a a' : Port) → Real g a → End g a a' → Real g a'
  end_real a a' h (filled e) = across_real g a' a (w.back a a' e)
  end_real a a' h (hole e s) = subst (Real g) (sym s) h

  pub end_net : (a a' : Port) → End g a a' → (at g a'.node).net ≡ (at g a.node).net
  end_net a a' (filled e) = sym (w.within a a' e)
  end_net a a' (hole e s) = ap (λ (p : Port). (at g p.node).net) s

  module _ (a b : Port) (ra : Real g a) (rb : Real g b) (a≢b : a ≢ b) where
    -- what the cut leaves is as it was, and is not a or b
    pub left : (p q : Port) → across (cut g a b) p ≡ some q → (p ≢ a) × (p ≢ b) × (across g p ≡ some q)
    left p q e = go (port_discrete p a) (port_discrete p b)
      where
        go : Dec (p ≡ a) → Dec (p ≡ b) → (p ≢ a) × (p ≢ b) × (across g p ≡ some q)
        go (yes m) d = absurd (differ (sym (cut_first g a b ra a≢b) ∙ subst (λ (t : Port). across (cut g a b) t ≡ some q) m e))
        go (no m) (yes n) = absurd (differ (sym (cut_second g a b rb) ∙ subst (λ (t : Port). across (cut g a b) t ≡ some q) n e))
        go (no m) (no n) = (m, n, sym (cut_other g a b p m n) ∙ e)

    circle_back : across g a ≡ some b → (p q : Port) → across (cut g a b) p ≡ some q → across (cut g a b) q ≡ some p
    circle_back c p q e =
        let l = left p q e in
        let x = w.back p q l.2 in
        let z = w.back a b c in
        let q≢a : q ≢ a = λ s. l.1 (let y : across g a ≡ some p = subst (λ (t : Port). across g t ≡ some p) s x in cc) in
        let q≢b : q ≢ b = λ s. l.0 (let y : across g b ≡ some p = subst (λ (t : Port). across g t ≡ some p) s x in cc) in
        cut_other g a b q q≢a q≢b ∙ x

    cut_net : (n : ℕ) → (at (cut g a b) n).net ≡ (at g n).net
    cut_net n = net_same g (cut g a b) n (frame_cut g a b n)

    pub cut_wired : across g a ≡ some b → Wired (cut g a b) × Turned g (cut g a b) a b
    cut_wired c = (
      record {
        back = circle_back c;
        apart = λ p e. w.apart p (left p p e).2;
        within = λ p q e. cut_net p.node ∙ w.within p q (left p q e).2 ∙ sym (cut_net q.node);
      },
      record {
        first = ap is_some (cut_first g a b ra a≢b) ∙ sym (ap (λ (o : Option Port). not (is_some o)) c);
        second = ap is_some (cut_second g a b rb) ∙ sym (ap (λ (o : Option Port). not (is_some o)) (w.back a b c));
        others = λ r m n. ap is_some (cut_other g a b r m n);
      },
    )

    -- ---- the ends a' and b' are wired: a and b are not wired together

    module _ (a' b' : Port) (ea : End g a a') (eb : End g b b') (open' : a' ≢ b) where
      pub ends_differ : a' ≢ b'
      ends_differ s = go eb
        where
          go : End g b b' → ⊥
          go (filled e) = a≢b (sym (to_end a a' b ea (e ∙ ap {B = Option Port} some (sym s))))
          go (hole e t) = open' (s ∙ t)

      abbrev pub linked : Graph
      linked = wire (wire (cut g a b) a' (some b')) b' (some a')

      pub at_b : across linked b' ≡ some a'
      at_b = across_wire_same (wire (cut g a b) a' (some b')) b' (some a') (real_wire (cut g a b) a' (some b') b' (real_cut g a b b' (end_real b b' rb eb)))

      pub at_a : across linked a' ≡ some b'
      at_a = across_wire_other (wire (cut g a b) a' (some b')) b' (some a') a' ends_differ ∙ across_wire_same (cut g a b) a' (some b') (real_cut g a b a' (end_real a a' ra ea))

      pub off : (r : Port) → r ≢ b' → r ≢ a' → across linked r ≡ across (cut g a b) r
      off r m n = across_wire_other (wire (cut g a b) a' (some b')) b' (some a') r m ∙ across_wire_other (cut g a b) a' (some b') r n

      pub full_end : (c c' r : Port) → End g c c' → r ≡ c' → r ≢ c → is_some (across g r) ≡ true
      full_end c c' r (filled e) s n = ap is_some (ap (across g) s ∙ w.back c c' e)
      full_end c c' r (hole e t) s n = absurd (n (s ∙ t))

      pub frame_linked : (n : ℕ) → frame linked n ≡ frame g n
      frame_linked n = frame_wire (wire (cut g a b) a' (some b')) b' (some a') n ∙ frame_wire (cut g a b) a' (some b') n ∙ frame_cut g a b n
