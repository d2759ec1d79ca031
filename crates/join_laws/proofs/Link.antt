-- A link keeps a wiring, and turns its two arguments, hole to filled and filled to hole, and no other port. So does a cut.
use Rattle.std.specs.Prelude.{◌≡◌, refl, ◌≢◌, ℕ, Bool, true, false, not}
use Rattle.std.proofs.Common.{sym, ap, ◌∙◌, subst, arith}
use Rattle.std.proofs.Math.Option.{Option, none, some, some-injective}
use Rattle.definitions.specs.Lists.{or_else, is_some}
use Rattle.definitions.specs.Nets.{Port, Graph, at, same_port, across, follow}
use Rattle.definitions.specs.Scripts.{wire, cut, ends, join}
use Rattle.join_laws.specs.Ports.{port_discrete, same_port_true, same_port_false, frame, frame_wire, net_same, Real, across_wire_same, across_wire_other, real_wire, across_real}
use Rattle.join_laws.specs.Link.{Wired, cut_other, cut_second, cut_first, End, filled, hole, to_end, from_end, end_net, left, ends_differ, linked, at_b, at_a, off, full_end, frame_linked}

-- a wiring, and two ports that exist
module _ (g : Graph) (w : Wired g) where
  module _ (a b : Port) (ra : Real g a) (rb : Real g b) (a≢b : a ≢ b) where
    -- ---- the ends a' and b' are wired: a and b are not wired together

    module _ (a' b' : Port) (ea : End g a a') (eb : End g b b') (open' : a' ≢ b) where
      pub link_back : (p q : Port) → across (linked g w a b ra rb a≢b a' b' ea eb open') p ≡ some q → across (linked g w a b ra rb a≢b a' b' ea eb open') q ≡ some p
      link_back p q e = go (port_discrete p b') (port_discrete p a')
        where
          go : Dec (p ≡ b') → Dec (p ≡ a') → across (linked g w a b ra rb a≢b a' b' ea eb open') q ≡ some p
          go (yes m) d =
              let x : across (linked g w a b ra rb a≢b a' b' ea eb open') b' ≡ some q = subst (λ (t : Port). across (linked g w a b ra rb a≢b a' b' ea eb open') t ≡ some q) m e in
              let s : q ≡ a' = some-injective q a' (sym x ∙ (at_b g w a b ra rb a≢b a' b' ea eb open')) in
              subst (λ (t : Port). across (linked g w a b ra rb a≢b a' b' ea eb open') t ≡ some p) (sym s) ((at_a g w a b ra rb a≢b a' b' ea eb open') ∙ ap {B = Option Port} some (sym m))
          go (no m) (yes n) =
              let x : across (linked g w a b ra rb a≢b a' b' ea eb open') a' ≡ some q = subst (λ (t : Port). across (linked g w a b ra rb a≢b a' b' ea eb open') t ≡ some q) n e in
              let s : q ≡ b' = some-injective q b' (sym x ∙ (at_a g w a b ra rb a≢b a' b' ea eb open')) in
              subst (λ (t : Port). across (linked g w a b ra rb a≢b a' b' ea eb open') t ≡ some p) (sym s) ((at_b g w a b ra rb a≢b a' b' ea eb open') ∙ ap {B = Option Port} some (sym n))
          go (no m) (no n) =
              let l = (left g w a b ra rb a≢b) p q (sym ((off g w a b ra rb a≢b a' b' ea eb open') p m n) ∙ e) in
              let x = w.back p q l.2 in
              let q≢b' : q ≢ b' = λ s. l.1 ((to_end g w) b b' p eb (l.2 ∙ ap {B = Option Port} some s)) in
              let q≢a' : q ≢ a' = λ s. l.0 ((to_end g w) a a' p ea (l.2 ∙ ap {B = Option Port} some s)) in
              let q≢a : q ≢ a = λ s. n ((from_end g w) a a' p ea (subst (λ (t : Port). across g t ≡ some p) s x)) in
              let q≢b : q ≢ b = λ s. m ((from_end g w) b b' p eb (subst (λ (t : Port). across g t ≡ some p) s x)) in
              (off g w a b ra rb a≢b a' b' ea eb open') q q≢b' q≢a' ∙ cut_other g a b q q≢a q≢b ∙ x

      pub link_others : (r : Port) → r ≢ a → r ≢ b → is_some (across (linked g w a b ra rb a≢b a' b' ea eb open') r) ≡ is_some (across g r)
      link_others r m n = go (port_discrete r b') (port_discrete r a')
        where
          go : Dec (r ≡ b') → Dec (r ≡ a') → is_some (across (linked g w a b ra rb a≢b a' b' ea eb open') r) ≡ is_some (across g r)
          go (yes s) d = ap is_some (ap (across (linked g w a b ra rb a≢b a' b' ea eb open')) s ∙ (at_b g w a b ra rb a≢b a' b' ea eb open')) ∙ sym ((full_end g w a b ra rb a≢b a' b' ea eb open') b b' r eb s n)
          go (no s) (yes t) = ap is_some (ap (across (linked g w a b ra rb a≢b a' b' ea eb open')) t ∙ (at_a g w a b ra rb a≢b a' b' ea eb open')) ∙ sym ((full_end g w a b ra rb a≢b a' b' ea eb open') a a' r ea t m)
          go (no s) (no t) = ap is_some ((off g w a b ra rb a≢b a' b' ea eb open') r s t ∙ cut_other g a b r m n)

      pub link_first : is_some (across (linked g w a b ra rb a≢b a' b' ea eb open') a) ≡ not (is_some (across g a))
      link_first = go ea
        where
          back : a ≡ b' → across g a ≡ some b
          back s = via eb
            where
              via : End g b b' → across g a ≡ some b
              via (filled f) = w.back b a (f ∙ ap {B = Option Port} some (sym s))
              via (hole f t) = absurd (a≢b (s ∙ t))

          go : End g a a' → is_some (across (linked g w a b ra rb a≢b a' b' ea eb open') a) ≡ not (is_some (across g a))
          go (hole e s) = ap is_some (ap (across (linked g w a b ra rb a≢b a' b' ea eb open')) (sym s) ∙ (at_a g w a b ra rb a≢b a' b' ea eb open')) ∙ sym (ap (λ (o : Option Port). not (is_some o)) e)
          go (filled e) =
              let n : a ≢ a' = λ s. w.apart a (e ∙ ap {B = Option Port} some (sym s)) in
              let m : a ≢ b' = λ s. open' (some-injective a' b (sym e ∙ back s)) in
              ap is_some ((off g w a b ra rb a≢b a' b' ea eb open') a m n ∙ cut_first g a b ra a≢b) ∙ sym (ap (λ (o : Option Port). not (is_some o)) e)

      pub link_second : is_some (across (linked g w a b ra rb a≢b a' b' ea eb open') b) ≡ not (is_some (across g b))
      link_second = go eb
        where
          go : End g b b' → is_some (across (linked g w a b ra rb a≢b a' b' ea eb open') b) ≡ not (is_some (across g b))
          go (hole e s) = ap is_some (ap (across (linked g w a b ra rb a≢b a' b' ea eb open')) (sym s) ∙ (at_b g w a b ra rb a≢b a' b' ea eb open')) ∙ sym (ap (λ (o : Option Port). not (is_some o)) e)
          go (filled e) =
              let m : b ≢ b' = λ s. w.apart b (e ∙ ap {B = Option Port} some (sym s)) in
              let n : b ≢ a' = λ s. open' (sym s) in
              ap is_some ((off g w a b ra rb a≢b a' b' ea eb open') b m n ∙ cut_second g a b rb) ∙ sym (ap (λ (o : Option Port). not (is_some o)) e)

      pub link_apart : (p : Port) → across (linked g w a b ra rb a≢b a' b' ea eb open') p ≢ some p
      link_apart p e = go (port_discrete p b') (port_discrete p a')
        where
          go : Dec (p ≡ b') → Dec (p ≡ a') → ⊥
          go (yes s) d = (ends_differ g w a b ra rb a≢b a' b' ea eb open') (some-injective a' b' (sym (at_b g w a b ra rb a≢b a' b' ea eb open') ∙ ap (across (linked g w a b ra rb a≢b a' b' ea eb open')) (sym s) ∙ e ∙ ap {B = Option Port} some s))
          go (no s) (yes t) = (ends_differ g w a b ra rb a≢b a' b' ea eb open') (sym (some-injective b' a' (sym (at_a g w a b ra rb a≢b a' b' ea eb open') ∙ ap (across (linked g w a b ra rb a≢b a' b' ea eb open')) (sym t) ∙ e ∙ ap {B = Option Port} some t)))
          go (no s) (no t) = let l = (left g w a b ra rb a≢b) p p (sym ((off g w a b ra rb a≢b a' b' ea eb open') p s t) ∙ e) in w.apart p l.2

      net_linked : (n : ℕ) → (at (linked g w a b ra rb a≢b a' b' ea eb open') n).net ≡ (at g n).net
      net_linked n = net_same g (linked g w a b ra rb a≢b a' b' ea eb open') n ((frame_linked g w a b ra rb a≢b a' b' ea eb open') n)

      pub link_within : (at g a.node).net ≡ (at g b.node).net → (p q : Port) → across (linked g w a b ra rb a≢b a' b' ea eb open') p ≡ some q → (at (linked g w a b ra rb a≢b a' b' ea eb open') p.node).net ≡ (at (linked g w a b ra rb a≢b a' b' ea eb open') q.node).net
      link_within one p q e = net_linked p.node ∙ go (port_discrete p b') (port_discrete p a') ∙ sym (net_linked q.node)
        where
          net : Port → ℕ
          net r = (at g r.node).net

          go : Dec (p ≡ b') → Dec (p ≡ a') → (at g p.node).net ≡ (at g q.node).net
          go (yes m) d =
              let s : q ≡ a' = some-injective q a' (sym (ap (across (linked g w a b ra rb a≢b a' b' ea eb open')) (sym m) ∙ e) ∙ (at_b g w a b ra rb a≢b a' b' ea eb open')) in
              ap net m ∙ (end_net g w) b b' eb ∙ sym one ∙ sym ((end_net g w) a a' ea) ∙ sym (ap net s)
          go (no m) (yes n) =
              let s : q ≡ b' = some-injective q b' (sym (ap (across (linked g w a b ra rb a≢b a' b' ea eb open')) (sym n) ∙ e) ∙ (at_a g w a b ra rb a≢b a' b' ea eb open')) in
              ap net n ∙ (end_net g w) a a' ea ∙ one ∙ sym ((end_net g w) b b' eb) ∙ sym (ap net s)
          go (no m) (no n) = w.within p q ((left g w a b ra rb a≢b) p q (sym ((off g w a b ra rb a≢b a' b' ea eb open') p m n) ∙ e)).2

      -- a wire away from a and b stays
      pub link_kept : (p q : Port) → across g p ≡ some q → p ≢ a → p ≢ b → q ≢ a → q ≢ b → across (linked g w a b ra rb a≢b a' b' ea eb open') p ≡ some q
      link_kept p q e p≢a p≢b q≢a q≢b =
          (off g w a b ra rb a≢b a' b' ea eb open') p (λ s. q≢b (to_end' b b' eb s p≢b)) (λ s. q≢a (to_end' a a' ea s p≢a)) ∙ cut_other g a b p p≢a p≢b ∙ e
        where
          to_end' : (c c' : Port) → End g c c' → p ≡ c' → p ≢ c → q ≡ c
          to_end' c c' (filled x) s n = some-injective q c (sym e ∙ ap (across g) s ∙ w.back c c' x)
          to_end' c c' (hole x t) s n = absurd (n (s ∙ t))
