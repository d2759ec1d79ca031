-- What a slot's word says of its net.
use Rattle.std.specs.Prelude.{ℕ, ◌+◌, ◌<◌, ◌≡◌, ◌≢◌, true, false, List}
use Rattle.std.proofs.Common.{sym, ap, ◌∙◌, true≢false, arith, eqb-true}
use Rattle.std.proofs.lemmas.Bool.{false≢true, eqb-false}
use Rattle.std.proofs.Math.Option.{Option, none, some}
use Rattle.std.proofs.Math.Decide.{dec_lt}
use Rattle.layout.specs.Layout.{node_word}
use Rattle.net_file.specs.Values.{Name}
use Rattle.definitions.specs.Lists.{is_some, or_else}
use Rattle.definitions.specs.Nets.{Graph, at, filled, holds}
use Rattle.join_laws.specs.Ports.{Frame, no_frame, frame, in_net, net_frame, filled_frame, holds_frame}
use Rattle.means.specs.Means.{SlotIs, Nodes}

module _ (Named : ℕ → Name → Type 0) (ws : List ℕ) (N : ℕ) (g : Graph) (m : Nodes Named ws N g) (n : ℕ) where
  -- a node that is there has one of the slots
  pub filled_below : filled g n ≡ true → n < N
  filled_below h = go (dec_lt n N)
    where
      go : Dec (n < N) → n < N
      go (yes i) = i
      go (no i) = absurd (true≢false (sym h ∙ filled_frame g n ∙ ap is_some (m.inside n (omega arith))))

  -- its slot says its net
  pub slot_net : filled g n ≡ true → node_word ws n 0 ≡ (at g n).net + 1
  slot_net h = go (frame g n) (sym (filled_frame g n) ∙ h) (m.slot n (filled_below h)) ∙ ap (λ (k : ℕ). k + 1) (sym (net_frame g n))
    where
      go : (o : Option Frame) → is_some o ≡ true → SlotIs Named ws n o → node_word ws n 0 ≡ (or_else o no_frame).net + 1
      go none i s = absurd (false≢true i)
      go (some f) i s = s.0

  -- a slot with a node of net k
  pub slot_holds : (k : ℕ) → n < N → holds g k n ≡ true → node_word ws n 0 ≡ k + 1
  slot_holds k b h = go (frame g n) (sym (holds_frame g n k) ∙ h) (m.slot n b)
    where
      go : (o : Option Frame) → in_net k o ≡ true → SlotIs Named ws n o → node_word ws n 0 ≡ k + 1
      go none i s = absurd (false≢true i)
      go (some f) i s = s.0 ∙ ap (λ (j : ℕ). j + 1) (eqb-true f.net k i)

  -- and one without
  pub slot_other : (k : ℕ) → n < N → holds g k n ≡ false → node_word ws n 0 ≢ k + 1
  slot_other k b h = go (frame g n) (sym (holds_frame g n k) ∙ h) (m.slot n b)
    where
      go : (o : Option Frame) → in_net k o ≡ false → SlotIs Named ws n o → node_word ws n 0 ≢ k + 1
      go none i s = λ q. let z : 0 ≡ k + 1 = sym s ∙ q in omega arith
      go (some f) i s = λ q. let z = s.0 in eqb-false f.net k i (omega arith)
