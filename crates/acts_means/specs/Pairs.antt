-- What the interactions do on two nodes that meet, for real: `PairActs` of the words of a run.
use Rattle.std.specs.Prelude.{ℕ, ◌+◌, ◌≤◌, ◌≡◌, false}
use Rattle.std.proofs.Common.{sym, ap, ◌∙◌, arith}
use Rattle.std.proofs.Math.Option.{some}
use mathlib.Core.List.{List, []}
use Rattle.net_file.specs.Lists.{ok}
use Rattle.net_file.specs.Values.{Rule, annihilate, erase, commute, FlatNet, File}
use Rattle.net_file.specs.Checks.{flat, read}
use Rattle.net_file_laws.specs.Bytes.{Bytes}
use Rattle.definitions.specs.Nets.{Graph, port, at, name_of, across}
use Rattle.definitions.specs.Scripts.{Script}
use Rattle.definitions.specs.Rules.{annihilate_script, erase_script, commute_script, interact}
use Rattle.definitions.specs.State.{Engine, graph_of}
use Rattle.definitions.specs.Books.{fresh}
use Rattle.definitions.specs.Visit.{act_if}
use Rattle.definitions.specs.Run.{spent}
use Rattle.engine_laws.specs.Frame.{still_graph}
use Rattle.good_laws.specs.Good.{bump, rest}
use Rattle.good_laws.specs.Scripts.{Orderly}
use Rattle.rule_laws.specs.Places.{meet}
use Rattle.annihilate.specs.Annihilate
use Rattle.erase.specs.Erase
use Rattle.commute.specs.Commute
use Rattle.held_names.specs.Named.{Named}
use Rattle.names_means.specs.Kept.{Kept}
use Rattle.annihilate_means.specs.Annihilates.{annihilate_means}
use Rattle.erase_means.specs.Erases.{erase_means}
use Rattle.commute_means.proofs.Commutes.{commute_means}
use Rattle.visit_means.specs.Tells.{Tells}
use Rattle.visit_means.specs.Interact.{PairActs}
use Rattle.acts_means.specs.Orderly.{pair_orderly}
use Rattle.acts_means.specs.Holds.{free_path_of, During, After, bump_small, between, Places, rule_tells}
use Rattle.acts_means.specs.Compared.{same_own}

module _ (s : List ℕ) (is : Bytes s) (f : File FlatNet) (accepted : read flat s ≡ ok f) (n k : ℕ) (e₀ : Engine) (over : spent e₀.limit ≡ false) where
  -- words and engine during the visit
  abbrev pub P : List ℕ → Engine → Type 0
  P = During s f k e₀

  abbrev pub A : List ℕ → Engine → Type 0
  A = After s f e₀

  -- what is asked of the places of names
  pub record PairPlaces (m : ℕ) : Type 0 where
    pub annihilates : across (graph_of e₀) (port n 0) ≡ some (port m 0) → ((name_of (graph_of e₀) n).path ≡ free_path_of f → ⊥) → (at (graph_of e₀) n).net ≡ k → (w : List ℕ) (e : Engine) (d : P w e)
        → Places s f k e₀ over w e d (annihilate_script (fresh e) (graph_of e) n m) (Annihilate.annihilate w s n m)
    pub erases : (a b : ℕ) → across (graph_of e₀) (port a 0) ≡ some (port b 0) → (at (graph_of e₀) a).net ≡ k → (w : List ℕ) (e : Engine) (d : P w e)
        → Places s f k e₀ over w e d (erase_script (fresh e) (graph_of e) a b) (Erase.erase w (k + 1) a b)
    pub commutes : (a b : ℕ) → across (graph_of e₀) (port a 0) ≡ some (port b 0) → (at (graph_of e₀) a).net ≡ k → (w : List ℕ) (e : Engine) (d : P w e)
        → Places s f k e₀ over w e d (commute_script (fresh e) (graph_of e) a b) (Commute.commute w (k + 1) a b)

  -- what is asked of the nets' names: the rules write none
  pub record PairNames (m : ℕ) : Type 0 where
    pub annihilates : (w : List ℕ) (e : Engine) → P w e → across (graph_of e) (port n 0) ≡ some (port m 0) → Kept w (Annihilate.annihilate w s n m).ws
    pub erases : (a b : ℕ) (w : List ℕ) (e : Engine) → P w e → across (graph_of e) (port a 0) ≡ some (port b 0) → (at (graph_of e) a).net ≡ k → Kept w (Erase.erase w (k + 1) a b).ws
    pub commutes : (a b : ℕ) (w : List ℕ) (e : Engine) → P w e → across (graph_of e) (port a 0) ≡ some (port b 0) → (at (graph_of e) a).net ≡ k → Kept w (Commute.commute w (k + 1) a b).ws

  module _ (own : (at (graph_of e₀) n).net ≡ k) (m : ℕ) (met : across (graph_of e₀) (port n 0) ≡ some (port m 0)) (places : PairPlaces m) (names : PairNames m) where
    small : (j : ℕ) → bump k rest j ≤ 4294900000
    small j = let z = bump_small k j in omega arith

    module _ (w : List ℕ) (e : Engine) (d : P w e) where
      same : graph_of e ≡ graph_of e₀
      same = still_graph d.still

      here : (a b : ℕ) → across (graph_of e₀) (port a 0) ≡ some (port b 0) → across (graph_of e) (port a 0) ≡ some (port b 0)
      here a b q = ap (λ (g : Graph). across g (port a 0)) same ∙ q

      in_net_lem : (a : ℕ) → (at (graph_of e₀) a).net ≡ k → (at (graph_of e) a).net ≡ k
      in_net_lem a q = ap (λ (g : Graph). (at g a).net) same ∙ q

      ordered : (a b : ℕ) → across (graph_of e₀) (port a 0) ≡ some (port b 0) → (at (graph_of e₀) a).net ≡ k → (r : Rule) (c : Script) → interact r (fresh e) (graph_of e) a b ≡ some c → Orderly e k c
      ordered a b q i = pair_orderly (bump k rest) e d.holds.kept.0 d.holds.kept.1.0.well a b (here a b q) k (in_net_lem a i)

      annihilated : ((name_of (graph_of e₀) n).path ≡ free_path_of f → ⊥) → Tells P A (Annihilate.annihilate w s n m) (act_if (annihilate_script (fresh e) (graph_of e) n m) e)
      unfolding interact
      annihilated other =
          let t = meet (graph_of e) d.holds.kept.1.0.well.wired n m (here n m met) in
          rule_tells s f k e₀ over w e d (annihilate_script (fresh e) (graph_of e) n m) (Annihilate.annihilate w s n m) (ordered n m met own (annihilate []))
          (annihilate_means (Named s f) s (bump k rest) small w e (between s f k e₀ over w e d) n m (here n m met)
          (same_own s is f accepted w e d.holds.means d.holds.kept.1.0 d.holds.places n t.filled_a (λ q. other (sym (ap (λ (g : Graph). (name_of g n).path) same) ∙ q)) m t.filled_b))
          (places.annihilates met other own w e d) (names.annihilates w e d (here n m met))

      erased : (a b : ℕ) → across (graph_of e₀) (port a 0) ≡ some (port b 0) → (at (graph_of e₀) a).net ≡ k → Tells P A (Erase.erase w (k + 1) a b) (act_if (erase_script (fresh e) (graph_of e) a b) e)
      unfolding interact
      erased a b q i =
          rule_tells s f k e₀ over w e d (erase_script (fresh e) (graph_of e) a b) (Erase.erase w (k + 1) a b) (ordered a b q i (erase [] []))
          (erase_means (Named s f) (bump k rest) small w e (between s f k e₀ over w e d) a b (here a b q) (k + 1) (ap (λ (j : ℕ). j + 1) (sym (in_net_lem a i))))
          (places.erases a b q i w e d) (names.erases a b w e d (here a b q) (in_net_lem a i))

      commuted : (a b : ℕ) → across (graph_of e₀) (port a 0) ≡ some (port b 0) → (at (graph_of e₀) a).net ≡ k → Tells P A (Commute.commute w (k + 1) a b) (act_if (commute_script (fresh e) (graph_of e) a b) e)
      unfolding interact
      commuted a b q i =
          rule_tells s f k e₀ over w e d (commute_script (fresh e) (graph_of e) a b) (Commute.commute w (k + 1) a b) (ordered a b q i (commute [] []))
          (commute_means (Named s f) (bump k rest) small w e (between s f k e₀ over w e d) a b (here a b q) (k + 1) (ap (λ (j : ℕ). j + 1) (sym (in_net_lem a i))))
          (places.commutes a b q i w e d) (names.commutes a b w e d (here a b q) (in_net_lem a i))

    module _ (back : across (graph_of e₀) (port m 0) ≡ some (port n 0)) (within : (at (graph_of e₀) m).net ≡ k) where
      -- both ways
      pub pair_acts : (y : ℕ) → PairActs P A s (free_path_of f) (k + 1) n m (name_of (graph_of e₀) n).path y
      pair_acts y = record {
        annihilates = λ i other w e d. annihilated w e d other;
        erases = λ w e d. erased w e d n m met own;
        erases_flipped = λ w e d. erased w e d m n back within;
        commutes = λ w e d. commuted w e d n m met own;
        commutes_flipped = λ w e d. commuted w e d m n back within;
      }
