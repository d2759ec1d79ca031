-- Check 7 of one net is document 01's "Well wired", on a net that is read and whose pairs are in order (check 6).
use Rattle.std.specs.Prelude.{ℕ, ◌+◌, ◌-◌, ◌≤◌, min, ◌≡◌, refl, true, ◌&&◌, List, ◌++◌, map, length, get_or, drop, eqb, ltb}
use Rattle.std.proofs.Common.{sym, ap, ◌∙◌}
use Rattle.std.proofs.Math.Bool.{and_assoc}
use Rattle.std.proofs.Math.Option.{some}
use native.Mathlib.Omega.{arith}
use Rattle.net_file.specs.Lists.{all, distinct, concat_map, ascend}
use Rattle.net_file.specs.Values.{FlatNet}
use Rattle.list_laws.specs.Tests.{both}
use Rattle.list_laws.specs.Lists.{all_append}
use Rattle.net_file.specs.Read.{read_flat_net}
use Rattle.net_file.specs.Checks.{pair_wires, pairs_ordered, occurs, places, pair_wired, wire_wired, flat_wired}
use Rattle.stored.specs.Parts.{stands_net}
use Rattle.tally.specs.Tally.{tally, seen, Low, Inside, inside_append, inside_more, tally_length, tally_low, tally_append, tally_seen}
use Rattle.wiring.specs.Wiring.{twice, alike, free_wires, paired_wires, net_pairs, net_nodes, net_tallied, net_wired}
use Rattle.wiring_laws.specs.Members.{occurs_append, occurs_once}
use Rattle.wiring_laws.proofs.Counts.{counts_tell}
use Rattle.wiring_laws.specs.Inside.{Wires, net_reads}
use Rattle.wiring_laws.specs.Places.{node_places, free_are, pairs_are, paired_are, noded_are}
use Rattle.wiring_laws.specs.Net.{pairs_once, tallied, counted}

-- ---- what the counts are, of lists

module _ (counts : List ℕ) (base : ℕ) (l : Low counts base) (fs ns : List ℕ) (ps : List (ℕ × ℕ)) where
  module _ (f : Inside (length counts) fs) (p : Inside (length counts) (pair_wires ps)) (n : Inside (length counts) ns) where
    lists_wired : pairs_ordered ps ≡ true
        → (all (alike (tallied counts base l fs ns ps)) ps && all (twice (tallied counts base l fs ns ps) base) fs && all (twice (tallied counts base l fs ns ps) base) ns) ≡ (all (pair_wired (fs ++ ns)) ps && all (wire_wired (fs ++ ns) ps) (fs ++ ns))
    lists_wired o =
        and_assoc (all (alike (tallied counts base l fs ns ps)) ps) (all (twice (tallied counts base l fs ns ps) base) fs) (all (twice (tallied counts base l fs ns ps) base) ns)
        ∙ ap (λ t. all (alike (tallied counts base l fs ns ps)) ps && t) (sym (all_append (twice (tallied counts base l fs ns ps) base) fs ns))
        ∙ counts_tell (tallied counts base l fs ns ps) base (fs ++ ns) ps (pairs_once ps o) (counted counts base l fs ns ps f p n)

-- ---- a net where it stands

module _ (s counts : List ℕ) (base at : ℕ) where
  module _ (l : Low counts base) (n : FlatNet) (room : n.wires ≤ length counts) where
    -- a net that has these parts
    parts_wired : Wires n → pairs_ordered n.pairs ≡ true → free_wires s at ≡ n.free → net_pairs s at ≡ n.pairs
        → paired_wires s at ≡ pair_wires n.pairs → net_nodes s at ≡ concat_map node_places n.nodes → net_wired (net_tallied counts base s at) base s at ≡ flat_wired n
    unfolding net_wired net_tallied flat_wired places tallied
    parts_wired w o ef ep eq en =
        let more = inside_more n.wires (length counts) (omega arith) in
        let ns = concat_map node_places n.nodes in
        rw (ef, ep, eq, en) (lists_wired counts base l n.free ns n.pairs (more n.free w.frees) (more (pair_wires n.pairs) w.paired) (more ns w.noded) o)

    pub net_wired_lem : (paths names : ℕ) (r : List ℕ) → read_flat_net paths names (drop at s) ≡ some (n, r) → at ≤ length s → pairs_ordered n.pairs ≡ true
        → net_wired (net_tallied counts base s at) base s at ≡ flat_wired n
    net_wired_lem paths names r e i o =
        let y = (stands_net s paths names at).by n r i e in
        let h = y.3 in
        let q = sym y.0 in
        parts_wired (net_reads paths names (drop at s) n r e) o
        (free_are s at h ∙ ap (λ m. m.free) q) (pairs_are s at h ∙ ap (λ m. m.pairs) q)
        (paired_are s at h ∙ ap (λ m. pair_wires m.pairs) q) (noded_are s at h ∙ ap (λ m. concat_map node_places m.nodes) q)
