-- Check 7 over all nets of a file: `nets_wired` tells whether each is well wired.
use Prim.Native.Nat.{ℕ, zero, suc, ◌+◌, ◌<◌, ◌≤◌}
use Rattle.std.specs.Prelude.{◌≡◌, refl, Bool, true, false, ◌&&◌, ◌⊎◌, List, [], ◌∷◌, length, drop, replicate}
use Rattle.std.proofs.Math.Path.{sym, ap}
use Rattle.std.proofs.Common.{◌∙◌}
use Rattle.std.proofs.Math.Logic.{inl, inr}
use Rattle.std.proofs.Math.Option.{some}
use native.Mathlib.Omega.{arith}
use Rattle.std.proofs.lemmas.List.{length-replicate}
use Rattle.words.specs.Choose.{pick, pick_and}
use Rattle.net_file.specs.Lists.{all}
use Rattle.net_file.specs.Values.{FlatNet}
use Rattle.list_laws.specs.Tests.{both}
use Rattle.net_file.specs.Read.{times_from, times, read_flat_net}
use Rattle.net_file.specs.Checks.{pairs_ordered, flat_wired}
use Rattle.stored.specs.Stored.{flat_net_at, flat_net_end}
use Rattle.stored.specs.Laws.{some_value, bound}
use Rattle.stored.specs.Pass.{pass}
use Rattle.stored.specs.Parts.{stands_net}
use Rattle.fields.specs.Fields.{be32}
use Rattle.ends.specs.Ends.{within}
use Rattle.tally.specs.Tally.{Low, blank_low}
use Rattle.wiring.specs.Wiring.{net_tallied}
use Rattle.wiring.specs.Fits.{fits_cases}
use Rattle.wiring_nets.specs.Nets.{nets_from, nets_wide, nets_wired, wide_start, nets_start, nets_zero, nets_suc}
use Rattle.wiring_laws.specs.Inside.{Wires, net_reads}
use Rattle.wiring_laws.specs.Net.{tallied_length, tallied_low}

-- nets that were read one after another: the first, and the others from its end on
module _ (s : List ℕ) (paths names : ℕ) where
  pub record Split (at i n : ℕ) (ns : List FlatNet) (r : List ℕ) : Type 0 where
    pub others : List FlatNet
    pub all_of : ns ≡ flat_net_at s at ∷ others
    pub read_one : read_flat_net paths names (drop at s) ≡ some (flat_net_at s at, drop (flat_net_end s at) s)
    pub read_others : times_from (λ j. read_flat_net paths names) (suc i) n (drop (flat_net_end s at) s) ≡ some (others, r)
    pub end : flat_net_end s at ≤ length s

  pub split : (at i n : ℕ) (ns : List FlatNet) (r : List ℕ) → times_from (λ j. read_flat_net paths names) i (suc n) (drop at s) ≡ some (ns, r) → at ≤ length s → Split at i n ns r
  unfolding times_from
  split at i n ns r e h =
      let b = pass _ ns r (stands_net s paths names at) h e in
      let c = bound (times_from (λ j. read_flat_net paths names) (suc i) n) _ (drop (flat_net_end s at) s) ns r b.next in
      let z = some_value c.next in
      record {
        others = c.value;
        all_of = sym z.0;
        read_one = b.first;
        read_others = rw z.1 at c.first;
        end = b.inside;
      }

  -- nets whose pairs are in order
  abbrev pub Ordered : List FlatNet → Type 0
  Ordered ns = all (λ m. pairs_ordered m.pairs) ns ≡ true

  -- `wide` tells of nets of which the first has more than len wires
  abbrev pub Tells : (ℕ → ℕ → Bool) → ℕ → Type 0
  Tells wide len = (n i at : ℕ) (ns : List FlatNet) (r : List ℕ) → times_from (λ j. read_flat_net paths names) i (suc n) (drop at s) ≡ some (ns, r)
      → at ≤ length s → suc n ≤ 256 → Ordered ns → len < be32 s (at + 3) → wide at (suc n) ≡ all flat_wired ns

  -- no net that is read has more than 65,536 wires
  pub none_wider : Tells (λ a k. false) 65536
  unfolding flat_net_at
  none_wider n i at ns r e h v o l = let d = split at i n ns r e h in absurd (omega (arith, (net_reads paths names (drop at s) (flat_net_at s at) (drop (flat_net_end s at) s) d.read_one).counter))
