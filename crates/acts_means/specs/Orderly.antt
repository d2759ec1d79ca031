-- The scripts that rules find on nodes that meet, and on one node, are orderly where the books are good and the nets well wired.
use Rattle.std.specs.Prelude.{ℕ, ◌⊎◌, true}
use Rattle.std.proofs.Math.Path.{◌≡◌}
use Rattle.std.proofs.Common.{sym, ap, ◌∙◌, subst, inl, inr, arith}
use Rattle.std.proofs.Math.Option.{some}
use mathlib.Core.List.{List, Memᴰ}
use Rattle.std.proofs.Math.ListN.{length-map}
use Rattle.net_file.specs.Values.{Rule, graft, annihilate, erase, commute, eta}
use Rattle.definitions.specs.Nets.{port, at, filled, across}
use Rattle.definitions.specs.Scripts.{Script}
use Rattle.definitions.specs.Rules.{eta_script, interact}
use Rattle.definitions.specs.Step.{Fresh}
use Rattle.definitions.specs.State.{Engine, graph_of}
use Rattle.definitions.specs.Books.{fresh}
use Rattle.script_laws.specs.Tidy.{WellWired}
use Rattle.rule_laws.specs.Places.{one_of_two, meet, Clean}
use Rattle.rule_laws.proofs.Annihilate.{annihilate_clean}
use Rattle.rule_laws.proofs.Erase.{erase_clean}
use Rattle.rule_laws.proofs.Commute.{commute_clean}
use Rattle.rule_laws.specs.Eta.{eta_clean}
use Rattle.rule_laws.specs.Order.{InOrder, interact_order, eta_order}
use Rattle.graph_laws.specs.Dead.{interact_dead}
use Rattle.step_laws.specs.Core.{core_of, list_of}
use Rattle.step_laws.specs.Numbers.{tracked_fresh}
use Rattle.good_laws.specs.Good.{Good}
use Rattle.good_laws.specs.Scripts.{Orderly}
use Rattle.reached_laws.specs.Tracks.{good_tracked, orderly}
use Rattle.reached_laws.specs.Nets.{after_edits, eta_nets}

module _ (x : ℕ → ℕ) (e : Engine) (g : Good x e) (w : WellWired (graph_of e)) where
  new_numbers : Fresh (graph_of e) (fresh e)
  new_numbers = tracked_fresh e (good_tracked x e g)

  -- a clean script whose new nodes, and whose dead ones, are of net k
  fits : (k n : ℕ) (s : Script) → filled (graph_of e) n ≡ true → (at (graph_of e) n).net ≡ k → InOrder (fresh e) k 0 s.edits → Clean (graph_of e) s
      → ((d : ℕ) → Memᴰ d s.dead → (at (graph_of e) d).net ≡ k) → Orderly e k s
  unfolding core_of
  fits k n s there own order clean nets =
      let l = (good_tracked x e g).in_range n there in
      let ln = length-map e.nets list_of in
      orderly e k s (omega arith) order clean.once (λ d i. after_edits (fresh e) k s.edits (graph_of e) order d (clean.there d i) (λ _. nets d i))

  module _ (a b : ℕ) (met : across (graph_of e) (port a 0) ≡ some (port b 0)) where
    pair_clean : (r : Rule) (s : Script) → interact r (fresh e) (graph_of e) a b ≡ some s → Clean (graph_of e) s
    unfolding interact
    pair_clean (graft p lazy) s q = let z : ◌≡◌ {A = ℕ} 0 1 = cc in absurd (omega arith)
    pair_clean (annihilate ps) s q = annihilate_clean (fresh e) (graph_of e) w a b met s q
    pair_clean (erase es ns) s q = erase_clean (fresh e) (graph_of e) w new_numbers a b met s q
    pair_clean (commute xs ys) s q = commute_clean (fresh e) (graph_of e) w new_numbers a b met s q
    pair_clean (eta cs vs ns) s q = let z : ◌≡◌ {A = ℕ} 0 1 = cc in absurd (omega arith)

    -- two nodes that meet are of one net
    pub pair_nets : (at (graph_of e) a).net ≡ (at (graph_of e) b).net
    pair_nets = w.wired.within (port a 0) (port b 0) met

    pub pair_orderly : (k : ℕ) → (at (graph_of e) a).net ≡ k → (r : Rule) (s : Script) → interact r (fresh e) (graph_of e) a b ≡ some s → Orderly e k s
    pair_orderly k own r s q =
        fits k a s (meet (graph_of e) w.wired a b met).filled_a own (subst (λ (j : ℕ). InOrder (fresh e) j 0 s.edits) own (interact_order (fresh e) (graph_of e) r a b s q)) (pair_clean r s q)
        (λ d m. two d (one_of_two (subst (Memᴰ d) (interact_dead r (fresh e) (graph_of e) a b s q) m)))
      where
        two : (d : ℕ) → (d ≡ a) ⊎ (d ≡ b) → (at (graph_of e) d).net ≡ k
        two d (inl i) = ap (λ (j : ℕ). (at (graph_of e) j).net) i ∙ own
        two d (inr i) = ap (λ (j : ℕ). (at (graph_of e) j).net) i ∙ sym pair_nets ∙ own

  pub eta_orderly : (k a : ℕ) → filled (graph_of e) a ≡ true → (at (graph_of e) a).net ≡ k → (vs ns : List ℕ) (s : Script) → eta_script (fresh e) (graph_of e) vs ns a ≡ some s → Orderly e k s
  eta_orderly k a there own vs ns s q =
      fits k a s there own (subst (λ (j : ℕ). InOrder (fresh e) j 0 s.edits) own (eta_order (fresh e) (graph_of e) vs ns a s q))
      (eta_clean (fresh e) (graph_of e) w new_numbers vs ns a s q) (λ d m. eta_nets (graph_of e) w.wired (fresh e) a vs ns s q d m ∙ own)
