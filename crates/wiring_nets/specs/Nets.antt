-- Check 7 over n flat nets, one after another. What it means is in `wiring_laws`.
use Rattle.std.specs.Prelude.{ℕ, suc, ◌+◌, ◌<◌, ◌≤◌, ◌≡◌, refl, Bool, true, false, List, replicate}
use Rattle.std.proofs.Common.{sym, ◌∙◌}
use Rattle.words.specs.Choose.{pick, lt_yes}
use Rattle.words.specs.Left.{Left}
use Rattle.stored.specs.Stored.{flat_net_end}
use Rattle.ends.specs.Ends.{within, next_net}
use Rattle.wiring.specs.Wiring.{net_tallied, net_wired}
use Rattle.wiring.specs.Fits.{fits}
use Rattle.wiring.specs.declared.Told.{Told}
use Rattle.wiring_nets.specs.Told as nets
use Rattle.wiring_nets.specs.declared.Rest.{Rest}

-- a flat net
abbrev pub flat : nets.Net
flat = record { tallied = net_tallied; wired = net_wired; behind = λ s at. within s (flat_net_end s at) }

-- how far n nets are told by the counts
abbrev pub told : List ℕ → ℕ → List ℕ → ℕ → ℕ → Left (Told Rest)
told = nets.told flat

-- n nets, with these counts and then with `wide`
abbrev pub nets_from : (ℕ → ℕ → Bool) → List ℕ → ℕ → List ℕ → ℕ → ℕ → Bool
nets_from = nets.nets_from flat

-- at most 256 nets, 65,536 words: no net that is read has more wires
abbrev pub nets_wide : List ℕ → ℕ → ℕ → Bool
nets_wide = nets.nets_wide flat

-- at most 256 nets, 1,024 words
abbrev pub nets_wired : List ℕ → ℕ → ℕ → Bool
nets_wired = nets.nets_well flat

-- the place where another net may stand, if one is left
pub next_there : (s : List ℕ) (at a left : ℕ) → a ≡ next_net s at left → 1 < left → a ≡ within s (flat_net_end s at)
unfolding next_net
next_there s at a left e h = e ∙ sym (lt_yes 1 left _ _ h refl)

-- ---- net by net

pub nets_zero : (wide : ℕ → ℕ → Bool) (counts : List ℕ) (base : ℕ) (s : List ℕ) (at : ℕ) → nets_from wide counts base s at 0 ≡ true
nets_zero = nets.nets_zero flat

pub nets_suc : (wide : ℕ → ℕ → Bool) (counts : List ℕ) (base : ℕ) (s : List ℕ) (at n : ℕ)
    → nets_from wide counts base s at (suc n)
    ≡ pick (fits counts s at) (pick (net_wired (net_tallied counts base s at) base s at) (nets_from wide (net_tallied counts base s at) (base + 4) s (within s (flat_net_end s at)) n) false) (wide at (suc n))
nets_suc = nets.nets_suc flat

module _ (s : List ℕ) (at n : ℕ) where
  pub wide_start : n ≤ 256 → nets_from (λ a k. false) (replicate 65536 0) 0 s at n ≡ nets_wide s at n
  wide_start = nets.wide_start flat s at n

  pub nets_start : n ≤ 256 → nets_from (nets_wide s) (replicate 1024 0) 0 s at n ≡ nets_wired s at n
  nets_start = nets.nets_start flat s at n
