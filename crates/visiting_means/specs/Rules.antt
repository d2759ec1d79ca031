-- The rules with a script write no net's name in a visit.
use Rattle.std.specs.Prelude.{ℕ, ◌+◌, ◌≤◌, ◌≡◌, true, false, List, length}
use Rattle.std.proofs.Common.{sym, ap, ◌∙◌, arith}
use Rattle.net_file.specs.Lists.{ok}
use Rattle.net_file.specs.Values.{FlatNet, File}
use Rattle.net_file.specs.Checks.{flat, read}
use Rattle.net_file_laws.specs.Bytes.{Bytes}
use Rattle.definitions.specs.Nets.{Graph, at, filled, name_of}
use Rattle.definitions.specs.State.{Engine, graph_of}
use Rattle.definitions.specs.Run.{spent}
use Rattle.engine_laws.specs.Frame.{still_graph}
use Rattle.good_laws.specs.Good.{bump, rest}
use Rattle.held_names.specs.Named.{Named}
use Rattle.rule_means.specs.Built.{Built}
use Rattle.names_rules.specs.Annihilates.{annihilate_names}
use Rattle.names_rules.specs.Erases.{erase_names}
use Rattle.names_rules.specs.Commutes.{commute_names}
use Rattle.names_rules.specs.Etas.{eta_names}
use Rattle.acts_means.specs.Holds.{bump_small, between}
use Rattle.acts_means.specs.Compared.{same_ones, same_own, nils_in}
use Rattle.acts_means.specs.Pairs.{PairNames}
use Rattle.acts_means.specs.Alone.{EtaNames, not_free}

small : (k j : ℕ) → bump k rest j ≤ 4294900000
small k j = let z = bump_small k j in omega arith

module _ (s : List ℕ) (is : Bytes s) (f : File FlatNet) (accepted : read flat s ≡ ok f) (n k : ℕ) (e₀ : Engine) (over : spent e₀.limit ≡ false) where
  pub pair_names_kept : (m : ℕ) → PairNames s is f accepted n k e₀ over m
  pair_names_kept m = record {
    annihilates = λ w e d met. annihilate_names (Named s f) s (bump k rest) (small k) w e (between s f k e₀ over w e d) n m met;
    erases = λ a b w e d met own. erase_names (Named s f) (bump k rest) (small k) w e (between s f k e₀ over w e d) a b met (k + 1) (ap (λ (j : ℕ). j + 1) (sym own));
    commutes = λ a b w e d met own. commute_names (Named s f) (bump k rest) (small k) w e (between s f k e₀ over w e d) a b met (k + 1) (ap (λ (j : ℕ). j + 1) (sym own));
  }

  module _ (sets : List ℕ) (b : Built s f (length f.rules) sets) where
    pub eta_names_kept : EtaNames s is f accepted sets b n k e₀ over
    eta_names_kept r cs vs ns h q l own there w e d =
        let same : graph_of e ≡ graph_of e₀ = still_graph d.still in
        let m = d.holds.means in
        let wired = d.holds.kept.1.0 in
        let free = d.holds.places in
        let here : filled (graph_of e) n ≡ true = ap (λ (g : Graph). filled g n) same ∙ there in
        eta_names (Named s f) s sets r (bump k rest) (small k) w e (between s f k e₀ over w e d) (same_ones s is f accepted w e m wired free) ns
        (nils_in s is f accepted w e m wired free sets b r cs vs ns q) n (wired.ported n here)
        (same_own s is f accepted w e m wired free n here (λ p. not_free s is f accepted sets b n k e₀ over own there r cs vs ns h q l (sym (ap (λ (g : Graph). (name_of g n).path) same) ∙ p)))
        (k + 1) (ap (λ (j : ℕ). j + 1) (sym (ap (λ (g : Graph). (at g n).net) same ∙ own)))
