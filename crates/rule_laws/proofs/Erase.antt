-- Erase: the wire between the two is cut, and each aux port of the erased node is joined with a new eraser.
use Rattle.std.specs.Prelude.{◌≡◌, refl, ◌≢◌, ◌⊎◌, ℕ, zero, suc, ◌+◌, ◌-◌, ◌<◌, ◌≤◌, Bool, true, false, length, eqb}
use Rattle.std.proofs.Math.Path.{sym, ap}
use Rattle.std.proofs.Common.{◌∙◌, subst, inl, inr, eqb-true}
use native.Mathlib.Omega.{arith}
use Rattle.std.proofs.Math.Option.{Option, none, some}
use mathlib.Core.List.{List, [], ◌∷◌, Memᴰ}
use Rattle.net_file.specs.Lists.{concat_map}
use Rattle.definitions.specs.Lists.{up_to}
use Rattle.definitions.specs.Nets.{Port, Node, Graph, port, at, filled, name_of, arity, across}
use Rattle.definitions.specs.Scripts.{Insert, Join, Cut, Script, cut, apply}
use Rattle.definitions.specs.Rules.{new, hang, erase_script}
use Rattle.definitions.specs.Step.{Fresh}
use Rattle.join_laws.specs.Ports.{Real, arity_same, net_same, filled_same}
use Rattle.join_laws.specs.Link.{frame_cut}
use Rattle.script_laws.specs.Safe.{With, was, first, second}
use Rattle.script_laws.specs.Loops.{Or, left, right, Row, Apart, hung, hangs_safe}
use Rattle.script_laws.specs.Tidy.{WellWired, Tidy}
use Rattle.rule_laws.specs.Ids.{distinct_two}
use Rattle.rule_laws.specs.Places.{given_some, new_holes, one_of_two, not_fresh, Meet, meet, Clean, tidy_clean}
use Rattle.rule_laws.specs.Erase.{m, Ends, erased, erased_tidy}

-- an erasure leaves the nets well wired
pub erase_clean : (fresh : ℕ → ℕ) (g : Graph) → WellWired g → Fresh g fresh → (e n : ℕ) → across g (port e 0) ≡ some (port n 0)
    → (s : Script) → erase_script fresh g e n ≡ some s → Clean g s
unfolding erase_script hang new
erase_clean fresh g w f e n met s h =
    let x = given_some (eqb (arity g e) 1) (record { edits = Cut (port e 0) (port n 0) ∷ concat_map (λ i. hang fresh g i (new (at g e).net (name_of g e) 1) (port n (1 + i))) (up_to (arity g n - 1)); dead = e ∷ n ∷ [] }) s h in
    let bare : arity g e ≡ 1 = eqb-true (arity g e) 1 x.0 in
    subst (Clean g) x.1 (tidy_clean g (erased fresh g w f e n met bare) (Ends fresh g w f e n met bare) w (erased_tidy fresh g w f e n met bare) (distinct_two e n (m fresh g w f e n met bare).differ))
