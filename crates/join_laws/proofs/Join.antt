-- `join`: a circle is cut, else the two ends are wired. What it keeps, whichever it is.
use Rattle.std.specs.Prelude.{◌≡◌, refl, ◌≢◌, ℕ, Bool, true, false, not}
use Rattle.std.proofs.Common.{sym, ap, ◌∙◌, subst}
use Rattle.std.proofs.Math.Option.{Option, none, some}
use Rattle.definitions.specs.Nets.{Port, Graph, at, same_port, across, follow}
use Rattle.definitions.specs.Scripts.{wire, cut, ends, join}
use Rattle.join_laws.specs.Ports.{same_port_true, same_port_false, frame, frame_wire, Real, across_wire_other}
use Rattle.join_laws.specs.Link.{Wired, Turned, End, filled, hole, follow_end, frame_cut, cut_other, cut_wired}
use Rattle.join_laws.proofs.Link.{link_back, link_apart, link_within, link_first, link_second, link_others, link_kept}
use Rattle.join_laws.specs.Join.{join_cases, circle}

pub frame_join : (g : Graph) (a b : Port) (n : ℕ) → frame (join g a b) n ≡ frame g n
frame_join g a b n = join_cases (λ h. frame h n ≡ frame g n) g a b
    (λ _ _. frame_cut g a b n)
    (λ _ _. frame_wire (wire (cut g a b) (follow g a) (some (follow g b))) (follow g b) (some (follow g a)) n ∙ frame_wire (cut g a b) (follow g a) (some (follow g b)) n ∙ frame_cut g a b n)

-- a port that is neither argument nor end has the same port across
pub join_other : (g : Graph) (a b r : Port) → r ≢ a → r ≢ b → r ≢ follow g a → r ≢ follow g b → across (join g a b) r ≡ across g r
join_other g a b r m n m' n' = join_cases (λ h. across h r ≡ across g r) g a b
    (λ _ _. cut_other g a b r m n)
    (λ _ _. across_wire_other (wire (cut g a b) (follow g a) (some (follow g b))) (follow g b) (some (follow g a)) r n' ∙ across_wire_other (cut g a b) (follow g a) (some (follow g b)) r m' ∙ cut_other g a b r m n)

module _ (g : Graph) (w : Wired g) (a b : Port) (ra : Real g a) (rb : Real g b) (a≢b : a ≢ b) where
  -- a link of two ports of one net keeps the wiring, and turns its two arguments and no other port
  pub join_wired : (at g a.node).net ≡ (at g b.node).net → Wired (join g a b) × Turned g (join g a b) a b
  join_wired one = join_cases (λ h. Wired h × Turned g h a b) g a b
      (λ _ s. cut_wired g w a b ra rb a≢b ((circle g w a b ra rb a≢b) s))
      (λ _ o.
      let ea = follow_end g a in
      let eb = follow_end g b in (
        record {
          back = link_back g w a b ra rb a≢b (follow g a) (follow g b) ea eb o;
          apart = link_apart g w a b ra rb a≢b (follow g a) (follow g b) ea eb o;
          within = link_within g w a b ra rb a≢b (follow g a) (follow g b) ea eb o one;
        },
        record {
          first = link_first g w a b ra rb a≢b (follow g a) (follow g b) ea eb o;
          second = link_second g w a b ra rb a≢b (follow g a) (follow g b) ea eb o;
          others = link_others g w a b ra rb a≢b (follow g a) (follow g b) ea eb o;
        },
      ))

  -- a wire away from both arguments stays
  pub join_kept : (p q : Port) → across g p ≡ some q → p ≢ a → p ≢ b → q ≢ a → q ≢ b → across (join g a b) p ≡ some q
  join_kept p q e p≢a p≢b q≢a q≢b = join_cases (λ h. across h p ≡ some q) g a b
      (λ _ _. cut_other g a b p p≢a p≢b ∙ e)
      (λ _ o. link_kept g w a b ra rb a≢b (follow g a) (follow g b) (follow_end g a) (follow_end g b) o p q e p≢a p≢b q≢a q≢b)
