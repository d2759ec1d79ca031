-- Check 7 over all nets of a file: `nets_wired` tells whether each is well wired.
use Prim.Native.Nat.{ℕ, zero, suc, ◌+◌, ◌<◌, ◌≤◌}
use Rattle.std.specs.Prelude.{◌≡◌, refl, Bool, true, false, ◌&&◌, ◌⊎◌, List, [], ◌∷◌, length, drop, replicate}
use Rattle.std.proofs.Math.Path.{sym, ap}
use Rattle.std.proofs.Common.{◌∙◌}
use Rattle.std.proofs.Math.Logic.{inl, inr}
use Rattle.std.proofs.Math.Option.{some}
use native.Mathlib.Omega.{arith}
use Rattle.std.proofs.lemmas.List.{length-replicate}
use Rattle.words.specs.Choose.{pick, pick_and}
use Rattle.net_file.specs.Lists.{all}
use Rattle.net_file.specs.Values.{FlatNet}
use Rattle.list_laws.specs.Tests.{both}
use Rattle.net_file.specs.Read.{times_from, times, read_flat_net}
use Rattle.net_file.specs.Checks.{pairs_ordered, flat_wired}
use Rattle.stored.specs.Stored.{flat_net_at, flat_net_end}
use Rattle.stored.specs.Laws.{some_value, bound}
use Rattle.stored.specs.Pass.{pass}
use Rattle.stored.specs.Parts.{stands_net}
use Rattle.fields.specs.Fields.{be32}
use Rattle.ends.specs.Ends.{within}
use Rattle.tally.specs.Tally.{Low, blank_low}
use Rattle.wiring.specs.Wiring.{net_tallied}
use Rattle.wiring.specs.Fits.{fits_cases}
use Rattle.wiring_nets.specs.Nets.{nets_from, nets_wide, nets_wired, wide_start, nets_start, nets_zero, nets_suc}
use Rattle.wiring_laws.specs.Inside.{Wires, net_reads}
use Rattle.wiring_laws.specs.Net.{tallied_length, tallied_low}
use Rattle.wiring_laws.proofs.Net.{net_wired_lem}
use Rattle.wiring_laws.specs.Nets.{split, Ordered, Tells, none_wider}

-- nets that were read one after another: the first, and the others from its end on
module _ (s : List ℕ) (paths names : ℕ) where
  -- each net above the counts of the one before
  nets_tell : (wide : ℕ → ℕ → Bool) (len : ℕ) → (Tells s paths names) wide len → (n i at : ℕ) (counts : List ℕ) (base : ℕ) (ns : List FlatNet) (r : List ℕ)
      → times_from (λ j. read_flat_net paths names) i n (drop at s) ≡ some (ns, r) → at ≤ length s → n ≤ 256 → Low counts base → length counts ≡ len → (Ordered s paths names) ns
      → nets_from wide counts base s at n ≡ all flat_wired ns
  unfolding times_from flat_net_at pick
  nets_tell wide len tells zero i at counts base ns r e h v l el o = nets_zero wide counts base s at ∙ ap (all flat_wired) (some_value e).0
  nets_tell wide len tells (suc n) i at counts base ns r e h v l el o =
      let d = (split s paths names) at i n ns r e h in
      let c = net_tallied counts base s at in
      let k = d.end in
      let w : within s (flat_net_end s at) ≡ flat_net_end s at = omega arith in
      let p = both (pairs_ordered (flat_net_at s at).pairs) (all (λ m. pairs_ordered m.pairs) d.others) (rw d.all_of at o) in
      let g = nets_tell wide len tells n (suc i) (flat_net_end s at) c (base + 4) d.others r d.read_others k (omega arith) (tallied_low s counts base at l) (tallied_length s counts base at ∙ el) p.1 in
      elim (fits_cases counts s at) [
        | inl y ↦
            let f = net_wired_lem s counts base at l (flat_net_at s at) y.1 paths names (drop (flat_net_end s at) s) d.read_one h p.0 in
            rw (nets_suc, y.0, w, f, g) (pick_and (flat_wired (flat_net_at s at)) (all flat_wired d.others) ∙ ap (all flat_wired) (sym d.all_of))
        | inr y ↦ rw (nets_suc, y.0) (tells n i at ns r e h v o (omega (arith, el, y.1)))
      ]

  wide_tells : (Tells s paths names) (nets_wide s) 1024
  wide_tells n i at ns r e h v o l =
      sym (wide_start s at (suc n) v) ∙ nets_tell (λ a k. false) 65536 (none_wider s paths names) (suc n) i at (replicate 65536 0) 0 ns r e h v (blank_low 65536) (length-replicate {A = ℕ} 65536 0) o

  -- of at most 256 nets that are read from `at` on, with their pairs in order
  pub nets_wired_lem : (at n : ℕ) (ns : List FlatNet) (r : List ℕ) → times n (read_flat_net paths names) (drop at s) ≡ some (ns, r) → at ≤ length s → n ≤ 256 → (Ordered s paths names) ns
      → nets_wired s at n ≡ all flat_wired ns
  unfolding times
  nets_wired_lem at n ns r e h k o =
      sym (nets_start s at n (omega arith)) ∙ nets_tell (nets_wide s) 1024 wide_tells n 0 at (replicate 1024 0) 0 ns r e h k (blank_low 1024) (length-replicate {A = ℕ} 1024 0) o
