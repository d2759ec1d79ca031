-- Check 7 of one net is document 01's "Well wired", on a net that is read and whose pairs are in order (check 6).
use Rattle.std.specs.Prelude.{ℕ, ◌+◌, ◌-◌, ◌≤◌, min, ◌≡◌, refl, true, ◌&&◌, List, ◌++◌, map, length, get_or, drop, eqb, ltb}
use Rattle.std.proofs.Common.{sym, ap, ◌∙◌}
use Rattle.std.proofs.Math.Bool.{and_assoc}
use Rattle.std.proofs.Math.Option.{some}
use native.Mathlib.Omega.{arith}
use Rattle.net_file.specs.Lists.{all, distinct, concat_map, ascend}
use Rattle.net_file.specs.Values.{FlatNet}
use Rattle.list_laws.specs.Tests.{both}
use Rattle.list_laws.specs.Lists.{all_append}
use Rattle.net_file.specs.Read.{read_flat_net}
use Rattle.net_file.specs.Checks.{pair_wires, pairs_ordered, occurs, places, pair_wired, wire_wired, flat_wired}
use Rattle.stored.specs.Parts.{stands_net}
use Rattle.tally.specs.Tally.{tally, seen, Low, Inside, inside_append, inside_more, tally_length, tally_low, tally_append, tally_seen}
use Rattle.wiring.specs.Wiring.{twice, alike, free_wires, paired_wires, net_pairs, net_nodes, net_tallied, net_wired}
use Rattle.wiring_laws.specs.Members.{occurs_append, occurs_once}
use Rattle.wiring_laws.specs.Inside.{Wires, net_reads}
use Rattle.wiring_laws.specs.Places.{node_places, free_are, pairs_are, paired_are, noded_are}

-- in a net whose pairs are in order no wire is in two pairs
pub pairs_once : (ps : List (ℕ × ℕ)) → pairs_ordered ps ≡ true → (w : ℕ) → occurs w (pair_wires ps) ≤ 1
unfolding pairs_ordered
pairs_once ps e w = occurs_once w (pair_wires ps) (both (all (λ p. ltb p.0 p.1) ps && ascend (map (λ p. p.0) ps)) (distinct eqb (pair_wires ps)) e).1

-- ---- what the counts are, of lists

module _ (counts : List ℕ) (base : ℕ) (l : Low counts base) (fs ns : List ℕ) (ps : List (ℕ × ℕ)) where
  unfoldable pub tallied : List ℕ
  tallied = tally (tally (tally counts base fs) base (pair_wires ps)) base ns

  module _ (f : Inside (length counts) fs) (p : Inside (length counts) (pair_wires ps)) (n : Inside (length counts) ns) where
    -- a wire's count is how often it occurs over all of them, since each has its word and no word was above the base
    pub counted : (w : ℕ) → get_or tallied w 0 - base ≡ min 3 (occurs w (fs ++ ns) + occurs w (pair_wires ps))
    unfolding tallied seen
    counted w =
        let x = l w in
        let i = inside_append (length counts) (fs ++ pair_wires ps) ns (inside_append (length counts) fs (pair_wires ps) f p) n in
        let e = tally_seen counts base w ((fs ++ pair_wires ps) ++ ns) i (λ v. let y = l v in omega arith) in
        let q = occurs_append w fs ns in
        let r = occurs_append w (fs ++ pair_wires ps) ns in
        let t = occurs_append w fs (pair_wires ps) in
        rw (tally_append counts base fs (pair_wires ps), tally_append counts base (fs ++ pair_wires ps) ns) (omega arith)

-- ---- a net where it stands

module _ (s counts : List ℕ) (base at : ℕ) where
  pub tallied_length : length (net_tallied counts base s at) ≡ length counts
  unfolding net_tallied
  tallied_length =
      let f = free_wires s at in
      let p = paired_wires s at in
      tally_length (tally (tally counts base f) base p) base (net_nodes s at) ∙ tally_length (tally counts base f) base p ∙ tally_length counts base f

  -- no count goes more than 3 up, so the next net's base is above all
  pub tallied_low : Low counts base → Low (net_tallied counts base s at) (base + 4)
  unfolding net_tallied
  tallied_low l =
      let f = free_wires s at in
      let p = paired_wires s at in
      let k = tally_low (tally (tally counts base f) base p) base (net_nodes s at) (tally_low (tally counts base f) base p (tally_low counts base f (λ v. let y = l v in omega arith))) in
      λ w. let z = k w in omega arith
