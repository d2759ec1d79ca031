-- No wire above the word behind the table is linked, and none in a row or a block without a mark: `link` keeps that. So pairs are looked
use Prim.Native.Nat.{ℕ, zero, suc, ◌+◌, ◌*◌, ◌/◌, ◌<◌, ◌≤◌}
use Rattle.std.specs.Prelude.{◌≡◌, List, [], ◌∷◌, ◌++◌, length, get_or, set}
use Rattle.std.proofs.Math.Path.{refl, sym}
use Rattle.std.proofs.Common.{ap, ◌∙◌, arith, length-set, get_or-set_same, get_or-set_other}
use Rattle.std.proofs.Math.Decide.{ℕ_discrete}
use Rattle.words.specs.Choose.{eq_split, lt_split, lt_no}
use Rattle.net_file.specs.Lists.{concat_map}
use Rattle.net_file_laws.specs.Exact.{Each}
use Rattle.conversions.specs.Links.{from}
use Rattle.wire_blocks.specs.Blocks.{row_mark, block_mark, looked}
use Rattle.wire_blocks.specs.Laws.{wires_from, Less, looked_less}
use Rattle.wire_links.specs.Table.{far, raised, join, link, extent, looks_below}
use Rattle.wire_links_laws.specs.Raised.{raised_long, raised_beside, raised_up, raised_stay, raised_other, raised_row, raised_block}
use Rattle.wire_links_laws.specs.Pairs.{pair_at, pairs_in}
use Rattle.wire_links_laws.specs.Top.{Topped, far_low, topped_zero, topped_two}

-- ---- two wires that are linked with each other

module _ (ws : List ℕ) (t : Topped ws) (x y : ℕ) (hx : x < 65536) (hy : y < 65536) where
  topped_joined : Topped (join ws x y)
  unfolding join
  topped_joined = eq_split _ _ _ _ Topped (λ e. t) (λ d. (topped_two ws t x y hx hy))

pub topped_linked : (ws : List ℕ) → Topped ws → (a b : ℕ) → a < 65536 → b < 65536 → Topped (link ws a b)
unfolding link
topped_linked ws t a b ha hb =
    topped_joined (set (set ws a 0) b 0) (topped_zero (set ws a 0) b hb (topped_zero ws a ha t)) (far ws a) (far (set ws a 0) b) (far_low ws a ha) (far_low (set ws a 0) b hb)
