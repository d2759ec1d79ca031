-- The table without links: it is so again when a net is done, whatever its bytes, since no wire is linked above the word behind it, and
use Prim.Native.Nat.{ℕ, zero, suc, ◌+◌, ◌-◌, ◌*◌, ◌/◌, ◌<◌, ◌≤◌}
use Rattle.std.specs.Prelude.{◌≡◌, refl, List, [], ◌∷◌, length, set}
use Rattle.std.proofs.Common.{ap, ◌∙◌, not-suc-le-zero, length-set, get_or-set_other}
use native.Mathlib.Omega.{arith}
use Rattle.std.proofs.Math.Decide.{dec_lt, ℕ_discrete}
use Rattle.std.proofs.Math.ListN.{get_or}
use Rattle.words.specs.Choose.{eq_split}
use Rattle.net_file_laws.specs.Bytes.{Bytes}
use Rattle.net_file_laws.specs.Exact.{Each}
use Rattle.fields.specs.Fields.{be16}
use Rattle.clear.specs.Zeroed.{zeroed}
use Rattle.conversions.specs.Links.{get}
use Rattle.wire_blocks.specs.Laws.{wires_from, Less}
use Rattle.wire_links.specs.Table.{extent, looks_below}
use Rattle.wire_links_laws.specs.Means.{code, Means}
use Rattle.wire_links_laws.specs.Top.{Topped, extent_under, looks_less}
use Rattle.wire_links_laws.proofs.Top.{topped_linked}
use Rattle.embed.specs.declared.Growth.{Growth}
use Rattle.embed_nets.specs.Nets.{hung, left_walked, link_hung, links_hung, link_walked, net_hung}
use Rattle.flat_nets.specs.declared.Spot.{Spot}
use Rattle.flat_nets.specs.Flat.{zero_from, empty_over, emptied, linked, passed, net_words}
use Rattle.flat_nets_laws.specs.Links.{two_low, top_low}
use Rattle.flat_nets_laws.specs.Clean.{Clean, links_emptied, net_topped, linked_topped}

-- ---- links stay below the word behind the table

module _ (s : List ℕ) (bytes : Bytes s) where
  pub passed_clean : (ws : List ℕ) → Clean ws → (at : ℕ) → Clean (passed s ws at)
  unfolding passed
  passed_clean ws c at = links_emptied (linked s ws at) ((linked_topped s bytes) ws c at)

  pub words_clean : (ws : List ℕ) → Clean ws → (p : Spot) → Clean (net_words s ws p)
  unfolding net_words
  words_clean ws c p = links_emptied _ ((net_topped s bytes) (linked s ws p.at) ((linked_topped s bytes) ws c p.at) p.at _ _)
