-- Check 7 over n nets of trees, one after another. What it means is in `wiring_tree_laws`.
use Rattle.std.specs.Prelude.{ℕ, suc, ◌+◌, ◌≤◌, ◌≡◌, Bool, true, false, List, replicate}
use Rattle.words.specs.Choose.{pick}
use Rattle.words.specs.Left.{Left}
use Rattle.scan_tree.specs.Count.{net_end}
use Rattle.wiring.specs.Fits.{fits}
use Rattle.wiring.specs.declared.Told.{Told}
use Rattle.wiring_tree.specs.Wiring.{net_tallied, net_wired}
use Rattle.wiring_nets.specs.Told as nets
use Rattle.wiring_nets.specs.declared.Rest.{Rest}

-- a net of trees
abbrev pub tree : nets.Net
tree = record { tallied = net_tallied; wired = net_wired; behind = net_end }

-- how far n nets are told by the counts
abbrev pub told : List ℕ → ℕ → List ℕ → ℕ → ℕ → Left (Told Rest)
told = nets.told tree

-- n nets, with these counts and then with `wide`
abbrev pub nets_from : (ℕ → ℕ → Bool) → List ℕ → ℕ → List ℕ → ℕ → ℕ → Bool
nets_from = nets.nets_from tree

-- at most 256 nets, 65,536 words: no net that is read has more wires
abbrev pub nets_wide : List ℕ → ℕ → ℕ → Bool
nets_wide = nets.nets_wide tree

-- at most 256 nets, 1,024 words
abbrev pub nets_wired : List ℕ → ℕ → ℕ → Bool
nets_wired = nets.nets_well tree

-- ---- net by net

pub nets_zero : (wide : ℕ → ℕ → Bool) (counts : List ℕ) (base : ℕ) (s : List ℕ) (at : ℕ) → nets_from wide counts base s at 0 ≡ true
nets_zero = nets.nets_zero tree

pub nets_suc : (wide : ℕ → ℕ → Bool) (counts : List ℕ) (base : ℕ) (s : List ℕ) (at n : ℕ)
    → nets_from wide counts base s at (suc n)
    ≡ pick (fits counts s at) (pick (net_wired (net_tallied counts base s at) base s at) (nets_from wide (net_tallied counts base s at) (base + 4) s (net_end s at) n) false) (wide at (suc n))
nets_suc = nets.nets_suc tree

module _ (s : List ℕ) (at n : ℕ) where
  pub wide_start : n ≤ 256 → nets_from (λ a k. false) (replicate 65536 0) 0 s at n ≡ nets_wide s at n
  wide_start = nets.wide_start tree s at n

  pub nets_start : n ≤ 256 → nets_from (nets_wide s) (replicate 1024 0) 0 s at n ≡ nets_wired s at n
  nets_start = nets.nets_start tree s at n
