-- Wires in a row: the words join what level Engine joins, and the table goes on meaning the ends met.
use Rattle.std.specs.Prelude.{ℕ, suc, ◌+◌, ◌<◌, ◌≤◌, ◌≡◌, refl, ◌⊎◌, length}
use Rattle.std.proofs.Common.{sym, ◌∙◌, inl, inr, eq-eqb}
use Rattle.std.proofs.Math.Path.{subst}
use mathlib.Core.List.Memᴰ
use mathlib.Core.List.{List, [], ◌∷◌, ◌++◌, Memᴰ}
use native.Mathlib.Omega.{arith}
use Rattle.fields.specs.Fields.{be16}
use Rattle.ends.specs.Ends.{on}
use Rattle.layout.specs.Layout.{next}
use Rattle.wire_ends.specs.WireEnds.{Joined, join_wire, join_wires}
use Rattle.net_file.specs.Values.{FlatNet}
use Rattle.definitions.specs.Nets.{Port, port}
use Rattle.definitions.specs.Load.{End, canonical, ends_at, join_met}
use Rattle.load_laws.specs.Twice.{PairsApart}
use Rattle.load_laws.specs.Meets.{of_wire, of_wire_append}
use Rattle.means.specs.Means.{number}
use Rattle.wire_ends_means.specs.Table.{Table, links, join_wire_met}

-- the same ends in another order
pub table_move : {ps : List (ℕ × ℕ)} {m : ℕ} {wires : List ℕ} {met met' : List End} → ((w : ℕ) → of_wire w met' ≡ of_wire w met)
    → ((y : End) → Memᴰ y met' → Memᴰ y met) → Table ps m wires met → Table ps m wires met'
table_move f g t = record {
  sized = t.sized;
  larger = t.larger;
  small = t.small;
  none = λ w o z. t.none w o (sym (f w) ∙ z);
  one = λ w o y i e z. t.one w o y (g y i) e (sym (f w) ∙ z);
}

-- numbers of two bytes stand from a place on, inside the file
abbrev pub Numbers : List ℕ → ℕ → List ℕ → Type 0
Numbers file at [] = Unit {0}
Numbers file at (w ∷ l) = (w ≡ be16 file at) × (at + 2 ≤ length file) × Numbers file (at + 2) l

-- each wire stands for one that the table has
abbrev pub Fit : List (ℕ × ℕ) → ℕ → List ℕ → Type 0
Fit ps m [] = Unit {0}
Fit ps m (w ∷ l) = (canonical ps w < m) × Fit ps m l

-- one wire, and the rest
pub more_wires : (ws wires file : List ℕ) (at p a q w k : ℕ) → w ≡ be16 file at → on file at 2 ≡ a → next p ≡ q
    → join_wires (join_wire ws wires w p).ws (join_wire ws wires w p).wires file a q k ≡ join_wires ws wires file at p (suc k)
unfolding join_wires
more_wires ws wires file at p a q w k e f g = rw (e, ← f, ← g) refl

module _ (ps : List (ℕ × ℕ)) (apart : PairsApart ps) (m : ℕ) (w : ℕ) (p : Port) (inside : canonical ps w < m) (low : number p < 2147483648) where
  abbrev pub x : End
  x = (canonical ps w, p)

  pub moved : (ends met : List End) (y : End) → Memᴰ y (x ∷ ends ++ met) → Memᴰ y (ends ++ x ∷ met)
  moved ends met y i = go (Memᴰ.cases_cons i)
    where
      tail : Memᴰ y ends ⊎ Memᴰ y met → Memᴰ y (ends ++ x ∷ met)
      tail (inl k) = Memᴰ.append_left (x ∷ met) k
      tail (inr k) = Memᴰ.append_right ends (Memᴰ.tail k)

      go : (y ≡ x) ⊎ Memᴰ y (ends ++ met) → Memᴰ y (ends ++ x ∷ met)
      go (inl e) = Memᴰ.append_right ends (Memᴰ.head e)
      go (inr k) = tail (Memᴰ.append_cases ends k)

  pub moved_count : (ends met : List End) (v : ℕ) → of_wire v (x ∷ ends ++ met) ≡ of_wire v (ends ++ x ∷ met)
  moved_count ends met v = let u = of_wire_append v ends (x ∷ met) in let y = of_wire_append v ends met in omega arith
