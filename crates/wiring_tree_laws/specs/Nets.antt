-- Check 7 over all nets of trees of a file: `nets_wired` tells whether each is well wired (`nets_wired_lem`).
use Prim.Native.Nat.{ℕ, zero, suc, ◌+◌, ◌<◌, ◌≤◌}
use Rattle.std.specs.Prelude.{◌≡◌, Bool, true, false, ◌&&◌, ◌⊎◌, List, ◌∷◌, length, drop, replicate}
use Rattle.std.proofs.Common.{sym, ap, ◌∙◌, arith}
use Rattle.std.proofs.Math.Logic.{inl, inr}
use Rattle.std.proofs.Math.Option.{some}
use Rattle.std.proofs.lemmas.List.{length-replicate}
use Rattle.words.specs.Choose.{pick, pick_and}
use Rattle.net_file.specs.Lists.{all}
use Rattle.net_file.specs.Values.{TreeNet}
use Rattle.net_file.specs.Read.{◌>>=◌, give, times, read_tree_net}
use Rattle.net_file.specs.Checks.{tree_wired}
use Rattle.fields.specs.Fields.{be32}
use Rattle.stored.specs.Stored.{table_at}
use Rattle.stored.specs.Laws.{bound, stands_times}
use Rattle.stored_tree.specs.Tree.{tree_net_at, tree_net_end}
use Rattle.stored_tree.specs.Parts.{stands_tree_net}
use Rattle.walk.specs.Loops.{times_suc}
use Rattle.tally.specs.Tally.{Low, blank_low}
use Rattle.stored.specs.Pass.{pass}
use Rattle.scan_tree_laws.specs.Net.{net_end_lem}
use Rattle.wiring.specs.Fits.{fits_cases}
use Rattle.wiring_tree.specs.Wiring.{net_tallied}
use Rattle.wiring_tree_nets.specs.Nets.{nets_from, nets_wide, nets_wired, wide_start, nets_start, nets_zero, nets_suc}
use Rattle.wiring_tree_laws.specs.Inside.{net_reads}
use Rattle.wiring_tree_laws.specs.Wired.{tree_wired_lem, tree_low, tree_long}

module _ (s : List ℕ) (paths names : ℕ) where
  -- whether each of n nets at a place is well wired
  abbrev Says : ℕ → ℕ → Bool
  Says at n = all tree_wired (table_at (tree_net_at s) (tree_net_end s) at n)

  -- `wide` tells of nets of which the first has more than len wires
  abbrev Tells : (ℕ → ℕ → Bool) → ℕ → Type 0
  Tells wide len = (n at : ℕ) (ns : List TreeNet) (r : List ℕ) → at ≤ length s → times (suc n) (read_tree_net paths names) (drop at s) ≡ some (ns, r) → suc n ≤ 256
      → len < be32 s (at + 3) → wide at (suc n) ≡ Says at (suc n)

  -- each net above the counts of the one before
  stored_wired : (wide : ℕ → ℕ → Bool) (len : ℕ) → Tells wide len → (n at : ℕ) (counts : List ℕ) (base : ℕ) (ns : List TreeNet) (r : List ℕ) → Low counts base
      → length counts ≡ len → at ≤ length s → times n (read_tree_net paths names) (drop at s) ≡ some (ns, r) → n ≤ 256 → nets_from wide counts base s at n ≡ Says at n
  unfolding table_at tree_net_at pick
  stored_wired wide len tells zero at counts base ns r l el i h v = nets_zero wide counts base s at
  stored_wired wide len tells (suc n) at counts base ns r l el i h v =
      let a_net = read_tree_net paths names in
      let b = pass (λ x. times n a_net >>= λ xs. give (x ∷ xs)) ns r (stands_tree_net s paths names at) i (rw times_suc at h) in
      let c = bound (times n a_net) (λ xs. give (tree_net_at s at ∷ xs)) (drop (tree_net_end s at) s) ns r b.next in
      let d = net_tallied counts base s at in
      let rest = stored_wired wide len tells n (tree_net_end s at) d (base + 4) c.value c.rest (tree_low s counts base at l) (tree_long s counts base at l ∙ el) b.inside c.first (omega arith) in
      elim (fits_cases counts s at) [
        | inl y ↦
            let f = tree_wired_lem s counts base at l paths names (tree_net_at s at) _ y.1 i b.first in
            rw (nets_suc, y.0, f, net_end_lem s paths names at (tree_net_at s at) _ i b.first, rest) (pick_and (tree_wired (tree_net_at s at)) _)
        | inr y ↦ rw (nets_suc, y.0) (tells n at ns r i h v (omega (arith, el, y.1)))
      ]

  -- no net that is read has more than 65,536 wires
  none_wider : Tells (λ a k. false) 65536
  unfolding tree_net_at
  none_wider n at ns r i h v l =
      let a_net = read_tree_net paths names in
      let b = pass (λ x. times n a_net >>= λ xs. give (x ∷ xs)) ns r (stands_tree_net s paths names at) i (rw times_suc at h) in
      absurd (omega (arith, (net_reads paths names (drop at s) (tree_net_at s at) _ b.first).counter))

  wide_tells : Tells (nets_wide s) 1024
  wide_tells n at ns r i h v l =
      sym (wide_start s at (suc n) v) ∙ stored_wired (λ a k. false) 65536 none_wider (suc n) at (replicate 65536 0) 0 ns r (blank_low 65536) (length-replicate {A = ℕ} 65536 0) i h v

  -- of at most 256 nets that are read from `at` on
  pub nets_wired_lem : (n at : ℕ) (ns : List TreeNet) (r : List ℕ) → n ≤ 256 → at ≤ length s → times n (read_tree_net paths names) (drop at s) ≡ some (ns, r) → nets_wired s at n ≡ all tree_wired ns
  nets_wired_lem n at ns r v i h =
      sym (nets_start s at n v) ∙ stored_wired (nets_wide s) 1024 wide_tells n at (replicate 1024 0) 0 ns r (blank_low 1024) (length-replicate {A = ℕ} 1024 0) i h v
      ∙ ap (all tree_wired) (sym ((stands_times s (read_tree_net paths names) (tree_net_at s) (tree_net_end s) (stands_tree_net s paths names) n at).by ns r i h).0)
