-- What the rewrites do on a visited node, for real: `AloneActs` of the words of a run. Eta by its law; graft as it is asked.
use Rattle.std.specs.Prelude.{ℕ, ◌+◌, ◌<◌, Bool, List, [], length}
use Rattle.std.proofs.Math.Path.{◌≡◌, ap}
use Rattle.std.proofs.Common.{sym, ◌∙◌}
use Rattle.std.proofs.Math.Bool.{true, false}
use native.Mathlib.Omega.{arith}
use Rattle.net_file.specs.Lists.{ok}
use Rattle.net_file.specs.Values.{Rule, annihilate, eta, FlatNet, File}
use Rattle.net_file.specs.Checks.{flat, read}
use Rattle.net_file_laws.specs.Bytes.{Bytes}
use Rattle.definitions.specs.Lists.{has as listed}
use Rattle.definitions.specs.Nets.{Graph, at, filled, name_of}
use Rattle.definitions.specs.Rules.{eta_script}
use Rattle.definitions.specs.Step.{rewrites}
use Rattle.definitions.specs.State.{Engine, graph_of}
use Rattle.definitions.specs.Books.{fresh}
use Rattle.definitions.specs.Visit.{act_if, try_graft}
use Rattle.definitions.specs.Run.{spent}
use Rattle.engine_laws.specs.Frame.{still_graph}
use Rattle.good_laws.specs.Good.{bump, rest}
use Rattle.eta.specs.Eta.{eta_reduce}
use Rattle.graft.specs.Graft
use Rattle.held_names.specs.Named.{Named}
use Rattle.names_means.specs.Kept.{Kept}
use Rattle.held_names.specs.Free.{rule_unnamed}
use Rattle.rule_means.specs.Collected.{collected}
use Rattle.rule_means.specs.Built.{rule_of, Built}
use Rattle.eta_means.specs.Reduces.{eta_means}
use Rattle.visit_means.specs.Tells.{Tells}
use Rattle.visit_means.specs.Rewrite.{AloneActs, unnamed_in_rewrites}
use Rattle.acts_means.specs.Orderly.{eta_orderly}
use Rattle.acts_means.specs.Holds.{free_path_of, During, After, bump_small, between, Places, rule_tells}
use Rattle.acts_means.specs.Compared.{same_ones, same_own, values_in, nils_in}

module _ (s : List ℕ) (is : Bytes s) (f : File FlatNet) (accepted : read flat s ≡ ok f) (sets : List ℕ) (b : Built s f (length f.rules) sets)
    (n k : ℕ) (e₀ : Engine) (over : spent e₀.limit ≡ false) where
  abbrev P : List ℕ → Engine → Type 0
  P = During s f k e₀

  abbrev A : List ℕ → Engine → Type 0
  A = After s f e₀

  -- what is asked of graft, where node n's path is not the free nodes'
  abbrev pub Grafts : Type 0
  Grafts = ((name_of (graph_of e₀) n).path ≡ free_path_of f → ⊥) → (lazy : Bool) (w : List ℕ) (e : Engine) → P w e → Tells P A (Graft.graft w s lazy (k + 1) n) (try_graft lazy n e)

  -- what is asked of the places of names after eta
  abbrev pub EtaPlaces : Type 0
  EtaPlaces = (r : ℕ) (cs vs ns : List ℕ) → r < length f.rules → rule_of f r ≡ eta cs vs ns → listed cs (name_of (graph_of e₀) n).path ≡ true
      → (at (graph_of e₀) n).net ≡ k → filled (graph_of e₀) n ≡ true → (w : List ℕ) (e : Engine) (d : P w e)
      → Places s f k e₀ over w e d (eta_script (fresh e) (graph_of e) vs ns n) (eta_reduce w s sets r (k + 1) n)

  -- and of the nets' names: it writes none
  abbrev pub EtaNames : Type 0
  EtaNames = (r : ℕ) (cs vs ns : List ℕ) → r < length f.rules → rule_of f r ≡ eta cs vs ns → listed cs (name_of (graph_of e₀) n).path ≡ true
      → (at (graph_of e₀) n).net ≡ k → filled (graph_of e₀) n ≡ true → (w : List ℕ) (e : Engine) → P w e → Kept w (eta_reduce w s sets r (k + 1) n).ws

  module _ (own : (at (graph_of e₀) n).net ≡ k) (there : filled (graph_of e₀) n ≡ true) where
    -- no rewrite is registered for the free nodes' path
    rewritten_not_free : (r : ℕ) → r < length f.rules → listed (collected 3 (rule_of f r)) (name_of (graph_of e₀) n).path ≡ true → (name_of (graph_of e₀) n).path ≡ free_path_of f → ⊥
    rewritten_not_free r h l i =
        let u : listed (collected 3 (rule_of f r)) (free_path_of f) ≡ false = unnamed_in_rewrites (rule_of f r) (free_path_of f) (rule_unnamed s is f accepted r (annihilate []) h) in
        let x : listed (collected 3 (rule_of f r)) (free_path_of f) ≡ true = ap (listed (collected 3 (rule_of f r))) (sym i) ∙ l in
        let z : ◌≡◌ {A = ℕ} 0 1 = cc in
        omega arith

    -- a rule names no path of the free nodes
    pub not_free : (r : ℕ) (cs vs ns : List ℕ) → r < length f.rules → rule_of f r ≡ eta cs vs ns → listed cs (name_of (graph_of e₀) n).path ≡ true → (name_of (graph_of e₀) n).path ≡ free_path_of f → ⊥
    unfolding collected rewrites
    not_free r cs vs ns h q l i =
        let u : listed (collected 3 (rule_of f r)) (free_path_of f) ≡ false = unnamed_in_rewrites (rule_of f r) (free_path_of f) (rule_unnamed s is f accepted r (annihilate []) h) in
        let v : listed cs (free_path_of f) ≡ false = ap (λ (c : Rule). listed (collected 3 c) (free_path_of f)) (sym q) ∙ u in
        let x : listed cs (free_path_of f) ≡ true = ap (listed cs) (sym i) ∙ l in
        let z : ◌≡◌ {A = ℕ} 0 1 = cc in
        omega arith

    reduced : (r : ℕ) (cs vs ns : List ℕ) → r < length f.rules → rule_of f r ≡ eta cs vs ns → listed cs (name_of (graph_of e₀) n).path ≡ true → EtaPlaces → EtaNames → (w : List ℕ) (e : Engine) → P w e
        → Tells P A (eta_reduce w s sets r (k + 1) n) (act_if (eta_script (fresh e) (graph_of e) vs ns n) e)
    reduced r cs vs ns h q l places names w e d =
        let same : graph_of e ≡ graph_of e₀ = still_graph d.still in
        let m = d.holds.means in
        let wired = d.holds.kept.1.0 in
        let free = d.holds.places in
        let own' : (at (graph_of e) n).net ≡ k = ap (λ (g : Graph). (at g n).net) same ∙ own in
        let here : filled (graph_of e) n ≡ true = ap (λ (g : Graph). filled g n) same ∙ there in
        let other : (name_of (graph_of e) n).path ≡ free_path_of f → ⊥ = λ p. not_free r cs vs ns h q l (sym (ap (λ (g : Graph). (name_of g n).path) same) ∙ p) in
        rule_tells s f k e₀ over w e d (eta_script (fresh e) (graph_of e) vs ns n) (eta_reduce w s sets r (k + 1) n)
        (λ c p. eta_orderly (bump k rest) e d.holds.kept.0 wired.well k n here own' vs ns c p)
        (eta_means (Named s f) s sets r (bump k rest) (λ j. let z = bump_small k j in omega arith) w e (between s f k e₀ over w e d)
        (same_ones s is f accepted w e m wired free) ns (nils_in s is f accepted w e m wired free sets b r cs vs ns q)
        vs (values_in s is f accepted w e m wired free sets b r cs vs ns q) n (wired.ported n here)
        (same_own s is f accepted w e m wired free n here other) (k + 1) (ap (λ (j : ℕ). j + 1) (sym own')))
        (places r cs vs ns h q l own there w e d) (names r cs vs ns h q l own there w e d)

    pub alone_acts : Grafts → EtaPlaces → EtaNames → AloneActs P A s f sets (k + 1) n (name_of (graph_of e₀) n).path
    alone_acts grafts places names = record {
      grafts = λ r h l lazy w e d. grafts (rewritten_not_free r h l) lazy w e d;
      reduces = λ r cs vs ns h q l w e d. reduced r cs vs ns h q l places names w e d;
    }
