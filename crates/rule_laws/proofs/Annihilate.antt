-- Annihilate: each port of the two nodes is joined once.
use Rattle.std.specs.Prelude.{◌≡◌, refl, ◌≢◌, ◌⊎◌, ℕ, zero, suc, ◌+◌, ◌<◌, ◌≤◌, Bool, true, false, ◌&&◌, eqb}
use Rattle.std.proofs.Common.{sym, ◌∙◌, arith, eqb-true}
use Rattle.std.proofs.Math.Path.{ap, subst}
use Rattle.std.proofs.Math.Logic.{inl, inr}
use Rattle.std.proofs.Math.Option.{Option, none, some}
use mathlib.Core.List.{List, [], ◌∷◌, map, Memᴰ}
use Rattle.list_laws.specs.Tests.{both}
use Rattle.net_file.specs.Checks.{same_name}
use Rattle.definitions.specs.Lists.{zip_with, up_to}
use Rattle.definitions.specs.Nets.{Port, Graph, port, filled, name_of, arity, ports, across}
use Rattle.definitions.specs.Scripts.{Join, Script}
use Rattle.definitions.specs.Rules.{annihilate_script}
use Rattle.join_laws.specs.Ports.{Real}
use Rattle.script_laws.specs.Loops.{Or, left, right, Row, Apart, joins_safe}
use Rattle.script_laws.specs.Tidy.{WellWired, Tidy}
use Rattle.rule_laws.specs.Ids.{distinct_two}
use Rattle.rule_laws.specs.Places.{given_some, zip_rows, one_of_two, Meet, meet, Clean, tidy_clean}
use Rattle.rule_laws.specs.Annihilate.{joins, Ends, joins_tidy}

-- an annihilation leaves the nets well wired
pub annihilate_clean : (fresh : ℕ → ℕ) (g : Graph) → WellWired g → (a b : ℕ) → across g (port a 0) ≡ some (port b 0)
    → (s : Script) → annihilate_script fresh g a b ≡ some s → Clean g s
unfolding annihilate_script ports
annihilate_clean fresh g w a b e s h =
    let x = given_some (same_name (name_of g a) (name_of g b) && eqb (arity g a) (arity g b)) (record { edits = zip_with Join (ports g a) (ports g b); dead = a ∷ b ∷ [] }) s h in
    let same : arity g a ≡ arity g b = eqb-true (arity g a) (arity g b) (both (same_name (name_of g a) (name_of g b)) (eqb (arity g a) (arity g b)) x.0).1 in
    let m = meet g w.wired a b e in
    let rows : zip_with Join (map (port a) (up_to (arity g a))) (map (port b) (up_to (arity g b))) ≡ map (λ i. Join (port a i) (port b i)) (up_to (arity g a)) =
    ap (λ (k : ℕ). zip_with Join (map (port a) (up_to (arity g a))) (map (port b) (up_to k))) (sym same) ∙ zip_rows Join (port a) (port b) (up_to (arity g a)) in
    subst (Clean g) (ap (λ (ds : List Rattle.definitions.specs.Scripts.Edit). record { edits = ds; dead = a ∷ b ∷ [] }) (sym rows) ∙ x.1) (tidy_clean g (joins g w a b m same) (Ends g w a b m same) w (joins_tidy g w a b m same) (distinct_two a b m.differ))
