-- `join`: a circle is cut, else the two ends are wired. What it keeps, whichever it is.
use Rattle.std.specs.Prelude.{◌≡◌, refl, ◌≢◌, ℕ, Bool, true, false, not}
use Rattle.std.proofs.Common.{sym, ap, ◌∙◌, subst}
use Rattle.std.proofs.Math.Option.{Option, none, some}
use Rattle.definitions.specs.Nets.{Port, Graph, at, same_port, across, follow}
use Rattle.definitions.specs.Scripts.{wire, cut, ends, join}
use Rattle.join_laws.specs.Ports.{same_port_true, same_port_false, frame, frame_wire, Real, across_wire_other}
use Rattle.join_laws.specs.Link.{Wired, Turned, End, filled, hole, follow_end, frame_cut, cut_other, cut_wired}

-- what a link wires, or cuts
abbrev joined : Graph → Port → Port → Option (Port × Port) → Graph
joined g a b none = cut g a b
joined g a b (some p) = wire (wire (cut g a b) p.0 (some p.1)) p.1 (some p.0)

join_is : (g : Graph) (a b : Port) → join g a b ≡ joined g a b (ends g a b)
unfolding join
join_is g a b = go (ends g a b)
  where
    go : (o : Option (Port × Port))
        → elim o as (λ _. Graph) [ none ↦ cut g a b | some p ↦ wire (wire (cut g a b) p.0 (some p.1)) p.1 (some p.0) ] ≡ joined g a b o
    go none = refl
    go (some p) = refl

-- a link's two ways out: where P holds of both, it holds of the link
pub join_cases : (P : Graph → Type 0) (g : Graph) (a b : Port)
    → (ends g a b ≡ none → follow g a ≡ b → P (cut g a b))
    → (ends g a b ≡ some (follow g a, follow g b) → follow g a ≢ b → P (wire (wire (cut g a b) (follow g a) (some (follow g b))) (follow g b) (some (follow g a))))
    → P (join g a b)
unfolding ends
join_cases P g a b circle open' = subst P (sym (join_is g a b)) (go (same_port (follow g a) b) refl)
  where
    go : (t : Bool) → same_port (follow g a) b ≡ t → P (joined g a b (ends g a b))
    go true e =
        let n : ends g a b ≡ none = rw (e, ends) in
        subst (λ (o : Option (Port × Port)). P (joined g a b o)) (sym n) (circle n (same_port_true (follow g a) b e))
    go false e =
        let n : ends g a b ≡ some (follow g a, follow g b) = rw (e, ends) in
        subst (λ (o : Option (Port × Port)). P (joined g a b o)) (sym n) (open' n (same_port_false (follow g a) b e))

module _ (g : Graph) (w : Wired g) (a b : Port) (ra : Real g a) (rb : Real g b) (a≢b : a ≢ b) where
  pub circle : follow g a ≡ b → across g a ≡ some b
  circle s = go (follow_end g a)
    where
      go : End g a (follow g a) → across g a ≡ some b
      go (filled x) = x ∙ ap {B = Option Port} some s
      go (hole x t) = absurd (a≢b (sym t ∙ s))
