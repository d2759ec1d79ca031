-- Commute's second half: the copies of a come one by one, each hung on an aux port of b and joined crosswise with the copies of b.
use Rattle.std.specs.Prelude.{◌≡◌, refl, ◌≢◌, ◌⊎◌, ℕ, zero, suc, ◌+◌, ◌-◌, ◌<◌, ◌≤◌, Bool, true, false, List, [], ◌∷◌, ◌++◌, map, length}
use Rattle.std.proofs.Math.Path.{sym}
use Rattle.std.proofs.Common.{ap, ◌∙◌, subst, inl, inr, arith}
use Rattle.std.proofs.Math.Decide.{ℕ_discrete}
use Rattle.std.proofs.Math.Option.{Option, none, some}
use Rattle.net_file.specs.Lists.{concat_map}
use Rattle.definitions.specs.Lists.{or_else, foldl, from, up_to}
use Rattle.definitions.specs.Nets.{Port, Node, Graph, port, at, filled, arity}
use Rattle.definitions.specs.Scripts.{Edit, Insert, Join, fill, join, apply}
use Rattle.join_laws.specs.Ports.{Frame, no_frame, frame, arity_frame, arity_same, net_frame, net_same, filled_same, Real}
use Rattle.join_laws.proofs.Join.{frame_join}
use Rattle.script_laws.specs.Slots.{Holes, frame_fill_same, frame_fill_other}
use Rattle.script_laws.specs.Safe.{With, was, first, second, Safe}
use Rattle.script_laws.proofs.Safe.{safe_append}
use Rattle.script_laws.specs.Loops.{Or, left, right, Row, Apart, joins_safe, safe_end}
use Rattle.rule_laws.specs.Columns.{column, Columns, Numbers, ColumnsFit, After, columns_more, g₃, next_fit, column_fit}

-- the copies y of a, and all of this, are in net k
module _ (F : Port → Type 0) (b k m c : ℕ) (rows cols : ℕ → ℕ) (y : Node) where
  module _ (numbers : Numbers b m c rows cols) (holes : Holes y) (net_y : y.net ≡ k) (size_y : length y.ports ≡ 1 + m)
      (later : (i j : ℕ) → i < length y.ports → j < c → F (port (cols j) i)) where
    pub columns_safe : (n l : ℕ) (g : Graph) (U : Port → Type 0) → l + n ≡ c → (ColumnsFit F b k m c rows cols y) g U l → Safe F g U (concat_map (column b m c rows cols y) (from l n)) (Or U (Columns b m c rows cols l))
    columns_safe zero l g U e f = λ r. (left, λ x. elim x [ left u ↦ u | right z ↦ (let p = z.low in let q = z.high in absurd (omega arith)) ])
    columns_safe (suc n) l g U e f =
        let h : l < c = omega arith in
        (column_fit F b k m c rows cols y numbers holes net_y size_y later) g U l h f (concat_map (column b m c rows cols y) (from (suc l) n)) (Or U (Columns b m c rows cols l))
        (safe_end F (concat_map (column b m c rows cols y) (from (suc l) n)) ((g₃ F b k m c rows cols y numbers holes net_y size_y later) g U l h f) ((After F b k m c rows cols y) U l) (Or ((After F b k m c rows cols y) U l) (Columns b m c rows cols (suc l))) (Or U (Columns b m c rows cols l)) ((columns_more F b k m c rows cols y) U l h)
        (columns_safe n (suc l) ((g₃ F b k m c rows cols y numbers holes net_y size_y later) g U l h f) ((After F b k m c rows cols y) U l) (omega arith) ((next_fit F b k m c rows cols y numbers holes net_y size_y later) g U l h f)))
