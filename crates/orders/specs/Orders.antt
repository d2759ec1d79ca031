-- How check 6 goes over the pairs of a flat net and over flat nets, by offsets. What it means is in `orders_laws`.
-- A list ascends where each is at least `last`, which is one more than the one before it and 0 at first.
use Rattle.std.specs.Prelude.{ℕ, zero, suc, ◌+◌, Bool, true, false, List, [], ◌∷◌, get_or, set, replicate, leb, ltb}
use Rattle.words.specs.Choose.{pick, if_lt}
use Rattle.words.specs.Left.{Left}
use Rattle.fields.specs.Fields.{be16}
use Rattle.stored.specs.Stored.{flat_net_end}
use Rattle.ends.specs.Ends.{within}
use Rattle.wiring.specs.Wiring.{net_pairs}
use Rattle.wiring.specs.Fits.{fits}
use Rattle.wiring.specs.Tells.{by_told}
use Rattle.wiring.specs.declared.Told.{Told}
use Rattle.wiring.specs.declared.Told.TheVariants.{Well, Not, Wide}
use Rattle.orders.specs.declared.Rest.{Rest}

-- w was seen since the base
unfoldable pub marked : List ℕ → ℕ → ℕ → Bool
marked counts base w = ltb base (get_or counts w 0)

-- w is seen from now on
abbrev pub mark : List ℕ → ℕ → ℕ → List ℕ
mark counts base w = set counts w (base + 1)

-- a is not below last, a is below b, and neither was seen
unfoldable pub pair_fits : List ℕ → ℕ → ℕ → ℕ → ℕ → Bool
pair_fits counts base last a b =
    if_lt a last false
    (if_lt a b
    (pick (marked counts base a) false
    (pick (marked counts base b) false true)) false)

-- a pair that fits is seen from then on; at one that does not, the counts stay
unfoldable pub pair_step : List ℕ → ℕ → ℕ → ℕ → ℕ → Left Bool
pair_step counts base last a b =
    pick (pair_fits counts base last a b)
    (record { is = true; ws = mark (mark counts base a) base b })
    (record { is = false; ws = counts })

-- whether all fit, and the counts at the end or at the first that does not
unfoldable pub pairs_from : List ℕ → ℕ → ℕ → List (ℕ × ℕ) → Left Bool
pairs_from counts base last [] = record { is = true; ws = counts }
pairs_from counts base last (p ∷ ps) =
    let x = pair_step counts base last p.0 p.1 in
    let r = pairs_from x.ws base (p.0 + 1) ps in
    pick x.is r (record { is = false; ws = x.ws })

-- the name of the net at a place is not below last
unfoldable pub name_fits : List ℕ → ℕ → ℕ → Bool
name_fits s at last = leb last (be16 s at)

-- one net: its name fits, and so do its pairs
unfoldable pub net_ordered : List ℕ → ℕ → ℕ → List ℕ → ℕ → Left Bool
net_ordered counts base last s at =
    pick (name_fits s at last)
    (pairs_from counts base 0 (net_pairs s at))
    (record { is = false; ws = counts })

-- how far n nets are told by the counts, each above a base of its own: all are in order, one is not, or those from a place on do not fit
unfoldable pub told : List ℕ → ℕ → ℕ → List ℕ → ℕ → ℕ → Left (Told Rest)
told counts base last s at zero = record { is = Well; ws = counts }
told counts base last s at (suc n) =
    let x = net_ordered counts base last s at in
    let r = told x.ws (base + 4) (be16 s at + 1) s (within s (flat_net_end s at)) n in
    pick (fits counts s at) (pick x.is r (record { is = Not; ws = x.ws })) (record { is = Wide (record { last = last; at = at; left = suc n }); ws = counts })

-- n nets, with these counts and then with `wide`
unfoldable pub nets_from : (ℕ → ℕ → ℕ → Bool) → List ℕ → ℕ → ℕ → List ℕ → ℕ → ℕ → Bool
nets_from wide counts base last s at n = by_told (λ r. wide r.last r.at r.left) (told counts base last s at n).is

-- at most 256 nets, 65,536 words: no net that is read has more wires
unfoldable pub nets_wide : List ℕ → ℕ → ℕ → ℕ → Bool
nets_wide s last at n = if_lt 256 n false (nets_from (λ l a k. false) (replicate 65536 0) 0 last s at n)

-- at most 256 nets, 1,024 words
unfoldable pub nets_ordered : List ℕ → ℕ → ℕ → Bool
nets_ordered s at n = if_lt 256 n false (nets_from (nets_wide s) (replicate 1024 0) 0 0 s at n)
