-- A net of trees that is read is well wired exactly where the check says so (`tree_wired_lem`), and the tally is then ready for the
-- next net, above a base that is 4 higher (`tree_low`).
use Rattle.std.specs.Prelude.{ℕ, ◌+◌, ◌-◌, ◌≤◌, min, ◌≡◌, refl, Bool, ◌&&◌, List, [], ◌∷◌, length, drop, get_or, eqb}
use Rattle.std.proofs.Math.Path.{sym}
use Rattle.std.proofs.Common.{◌∙◌}
use Rattle.std.proofs.Math.Option.{some}
use native.Mathlib.Omega.{arith}
use Rattle.std.proofs.Math.Decide.{ℕ_discrete}
use borrow.Author.Tests.{eq-eqb, ne_eqb}
use Rattle.net_file.specs.Lists.{all, concat_map}
use Rattle.net_file.specs.Values.{TreeNet}
use Rattle.net_file.specs.Read.{read_tree_net}
use Rattle.net_file.specs.Checks.{occurs, wires_of, trees_of, tree_wired}
use Rattle.tally.specs.Tally.{tally, seen, Low, Inside, inside_more, tally_seen, tally_low, tally_length}
use Rattle.wiring.specs.Wiring.{twice}
use Rattle.scan_tree.specs.Count.{net_wires}
use Rattle.scan_tree_laws.specs.Net.{net_wires_lem}
use Rattle.wiring_tree_laws.specs.Inside.{net_reads}
use Rattle.wiring_tree.specs.Wiring.{net_tallied, net_wired}

all_same : {A : Type 0} (f g : A → Bool) (xs : List A) → ((x : A) → f x ≡ g x) → all f xs ≡ all g xs
all_same f g [] h = refl
all_same f g (x ∷ xs) h = λ i. h x i && all_same f g xs h i

-- ---- a tally of wires, and each of them seen twice

module _ (counts : List ℕ) (base : ℕ) (ws : List ℕ) (inside : Inside (length counts) ws) (low : Low counts base) where
  seen_often : (w : ℕ) → get_or (tally counts base ws) w 0 - base ≡ min 3 (occurs w ws)
  unfolding seen
  seen_often w = let l = low w in let e = tally_seen counts base w ws inside (λ v. let k = low v in omega arith) in omega arith

  twice_is : (w : ℕ) → twice (tally counts base ws) base w ≡ eqb (occurs w ws) 2
  unfolding twice
  twice_is w = let e = seen_often w in elim (ℕ_discrete (occurs w ws) 2) [
    | yes h ↦ eq-eqb (get_or (tally counts base ws) w 0) (base + 2) (omega arith) ∙ sym (eq-eqb (occurs w ws) 2 h)
    | no h ↦ ne_eqb (get_or (tally counts base ws) w 0) (base + 2) (omega arith) ∙ sym (ne_eqb (occurs w ws) 2 h)
  ]

  all_twice : all (twice (tally counts base ws) base) ws ≡ all (λ w. eqb (occurs w ws) 2) ws
  all_twice = all_same _ _ ws twice_is

-- ---- a net

module _ (s counts : List ℕ) (base at : ℕ) (low : Low counts base) where
  pub tree_wired_lem : (paths names : ℕ) (x : TreeNet) (r : List ℕ) → x.wires ≤ length counts → at ≤ length s → read_tree_net paths names (drop at s) ≡ some (x, r)
      → net_wired (net_tallied counts base s at) base s at ≡ tree_wired x
  unfolding net_wired net_tallied tree_wired
  tree_wired_lem paths names x r room i h =
      let e : net_wires s at ≡ concat_map wires_of (trees_of x) = net_wires_lem s paths names at x r i h in
      let inside : Inside (length counts) (net_wires s at) = rw e (inside_more x.wires (length counts) room (concat_map wires_of (trees_of x)) (net_reads paths names (drop at s) x r h).inside) in
      rw (← e) (all_twice counts base (net_wires s at) inside low)

  pub tree_low : Low (net_tallied counts base s at) (base + 4)
  unfolding net_tallied
  tree_low w = let l = tally_low counts base (net_wires s at) (λ v. let k = low v in omega arith) w in omega arith

  pub tree_long : length (net_tallied counts base s at) ≡ length counts
  unfolding net_tallied
  tree_long = tally_length counts base (net_wires s at)
