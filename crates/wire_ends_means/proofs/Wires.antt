-- Wires in a row: the words join what level Engine joins, and the table goes on meaning the ends met.
use Rattle.std.specs.Prelude.{ℕ, suc, ◌+◌, ◌<◌, ◌≤◌, ◌≡◌, refl, ◌⊎◌, length}
use Rattle.std.proofs.Common.{sym, ◌∙◌, inl, inr, eq-eqb}
use Rattle.std.proofs.Math.Path.{subst}
use mathlib.Core.List.Memᴰ
use mathlib.Core.List.{List, [], ◌∷◌, ◌++◌, Memᴰ}
use native.Mathlib.Omega.{arith}
use Rattle.fields.specs.Fields.{be16}
use Rattle.ends.specs.Ends.{on}
use Rattle.layout.specs.Layout.{next}
use Rattle.wire_ends.specs.WireEnds.{Joined, join_wire, join_wires}
use Rattle.net_file.specs.Values.{FlatNet}
use Rattle.definitions.specs.Nets.{Port, port}
use Rattle.definitions.specs.Load.{End, canonical, ends_at, join_met}
use Rattle.load_laws.specs.Twice.{PairsApart}
use Rattle.load_laws.specs.Meets.{of_wire, of_wire_append}
use Rattle.means.specs.Means.{number}
use Rattle.wire_ends_means.specs.Table.{Table, links, join_wire_met}
use Rattle.wire_ends_means.specs.Wires.{table_move, Numbers, Fit, more_wires, x, moved, moved_count}

module _ (ps : List (ℕ × ℕ)) (apart : PairsApart ps) (m : ℕ) (w : ℕ) (p : Port) (inside : canonical ps w < m) (low : number p < 2147483648) where
  -- one end, and what is done with the others after it
  pub join_more : (ends : List End) (ws wires : List ℕ) (met : List End) → Table ps m wires met → ((v : ℕ) → of_wire v ((x ps apart m w p inside low) ∷ ends ++ met) ≤ 2) → (j : Joined)
      → (Table ps m (join_wire ws wires w (number p)).wires ((x ps apart m w p inside low) ∷ met) → ((v : ℕ) → of_wire v (ends ++ (x ps apart m w p inside low) ∷ met) ≤ 2)
      → (j.ws ≡ links (join_wire ws wires w (number p)).ws (join_met ((x ps apart m w p inside low) ∷ met) ends)) × Table ps m j.wires (ends ++ (x ps apart m w p inside low) ∷ met))
      → (j.ws ≡ links ws (join_met met ((x ps apart m w p inside low) ∷ ends))) × Table ps m j.wires ((x ps apart m w p inside low) ∷ ends ++ met)
  join_more ends ws wires met t few j f =
      let c = canonical ps w in
      let one : of_wire c ((x ps apart m w p inside low) ∷ ends ++ met) ≡ 1 + of_wire c (ends ++ met) = rw (eq-eqb c c refl) refl in
      let app = of_wire_append c ends met in
      let two = few c in
      let step = join_wire_met ps apart m wires met t w p inside low (omega arith) ws ends in
      let more = f step.1 (λ v. rw (← (moved_count ps apart m w p inside low) ends met v) (few v)) in
      (more.0 ∙ step.0, table_move ((moved_count ps apart m w p inside low) ends met) ((moved ps apart m w p inside low) ends met) more.1)

module _ (t : FlatNet) (apart : PairsApart t.pairs) (m : ℕ) (file : List ℕ) (n : ℕ) where
  -- the wires l at the ports of node n from port i on
  pub join_wires_met : (l : List ℕ) (i at : ℕ) (ws wires : List ℕ) (met : List End) → Table t.pairs m wires met → Fit t.pairs m l → Numbers file at l
      → number (port n (i + length l)) ≤ 2147483648 → ((w : ℕ) → of_wire w (ends_at t n i l ++ met) ≤ 2)
      → ((join_wires ws wires file at (number (port n i)) (length l)).ws ≡ links ws (join_met met (ends_at t n i l)))
      × Table t.pairs m (join_wires ws wires file at (number (port n i)) (length l)).wires (ends_at t n i l ++ met)
  unfolding join_wires join_met links ends_at
  join_wires_met [] i at ws wires met b f s low few = (refl, b)
  join_wires_met (w ∷ l) i at ws wires met b f s low few =
      let x : End = (canonical t.pairs w, port n i) in
      let ends = ends_at t n (suc i) l in
      let a : on file at 2 ≡ at + 2 = let h = s.1 in omega arith in
      let p : next (number (port n i)) ≡ number (port n (suc i)) = omega arith in
      let j = join_wire ws wires w (number (port n i)) in
      subst (λ (k : Joined). (k.ws ≡ links ws (join_met met (x ∷ ends))) × Table t.pairs m k.wires (x ∷ ends ++ met))
      (more_wires ws wires file at (number (port n i)) (at + 2) (number (port n (suc i))) w (length l) s.0 a p)
      (join_more t.pairs apart m w (port n i) f.0 (omega arith) ends ws wires met b few (join_wires j.ws j.wires file (at + 2) (number (port n (suc i))) (length l))
      (λ u v. join_wires_met l (suc i) (at + 2) j.ws j.wires (x ∷ met) u f.1 s.2 (omega arith) v))
