-- The walk leaves the words past the table of links as they were: with the table zeroed, and more, nothing is left of it.
use Prim.Native.Nat.{ℕ, zero, suc, ◌+◌, ◌/◌, ◌<◌, ◌≤◌}
use Rattle.std.specs.Prelude.{◌≡◌, set}
use Rattle.std.proofs.Math.Path.{refl}
use Rattle.std.proofs.Common.{ap, ◌∙◌, arith, not-suc-le-zero}
use mathlib.Core.List.{List, [], ◌∷◌}
use Rattle.words.specs.Choose.{eq_split, lt_split}
use Rattle.net_file_laws.specs.Bytes.{Bytes}
use Rattle.net_file_laws.specs.Exact.{Each}
use Rattle.fields.specs.Fields.{be16}
use Rattle.clear.specs.Zeroed.{zeroed}
use Rattle.wire_blocks.specs.Blocks.{marked}
use Rattle.wire_links.specs.Table.{far, raised, join, link, extent, looks_below}
use Rattle.wire_links_laws.specs.Top.{extent_least, looks_low}
use Rattle.embed.specs.declared.Growth.{Growth}
use Rattle.embed_nets.specs.Nets.{hung, left_walked, link_hung, links_hung, link_walked, net_hung}
use Rattle.flat_nets.specs.declared.Total.{Total}
use Rattle.flat_nets.specs.declared.Spot.{Spot}
use Rattle.flat_nets.specs.Flat.{zero_from, empty_over, linked, emptied, passed, summed, passed_all, net_spot, net_words, nets_words}
use Rattle.flat_nets_laws.specs.Links.{two_low, top_low}

pub zeroed_within : (k m : ℕ) (ws : List ℕ) → k ≤ m → zeroed m (zeroed k ws) ≡ zeroed m ws
unfolding zeroed
zeroed_within zero m ws h = refl
zeroed_within (suc k) zero ws h = absurd (not-suc-le-zero h)
zeroed_within (suc k) (suc m) [] h = refl
zeroed_within (suc k) (suc m) (w ∷ ws) h = ap (λ (l : List ℕ). 0 ∷ l) (zeroed_within k m ws (omega arith))

zeroed_put : (m : ℕ) (ws : List ℕ) (i v : ℕ) → i < m → zeroed m (set ws i v) ≡ zeroed m ws
unfolding zeroed
zeroed_put zero ws i v h = absurd (not-suc-le-zero h)
zeroed_put (suc m) [] i v h = refl
zeroed_put (suc m) (w ∷ ws) zero v h = refl
zeroed_put (suc m) (w ∷ ws) (suc i) v h = ap (λ (l : List ℕ). 0 ∷ l) (zeroed_put m ws i v (omega arith))

far_low : (ws : List ℕ) (a : ℕ) → a < 65536 → far ws a < 65536
unfolding far
far_low ws a h = eq_split _ _ _ _ (λ (x : ℕ). x < 65536) (λ e. h) (λ e. omega arith)

module _ (m : ℕ) (wide : 67649 ≤ m) where
  marked_kept : (ws : List ℕ) (x : ℕ) → x < 65536 → zeroed m (marked 65537 ws x) ≡ zeroed m ws
  unfolding marked
  marked_kept ws x h = zeroed_put m (set ws (65537 + x / 1024) 1) (65601 + x / 32) 1 (omega arith) ∙ zeroed_put m ws (65537 + x / 1024) 1 (omega arith)

  raised_kept : (ws : List ℕ) (x : ℕ) → x < 65536 → zeroed m (raised ws x) ≡ zeroed m ws
  unfolding raised
  raised_kept ws x h =
      let e = marked_kept ws x h in
      lt_split _ _ _ _ (λ (l : List ℕ). zeroed m l ≡ zeroed m ws) (λ k. e) (λ k. zeroed_put m (marked 65537 ws x) 65536 (x + 1) (omega arith) ∙ e)

  join_kept : (ws : List ℕ) (x y : ℕ) → x < 65536 → y < 65536 → zeroed m (join ws x y) ≡ zeroed m ws
  unfolding join
  join_kept ws x y h k =
      eq_split _ _ _ _ (λ (l : List ℕ). zeroed m l ≡ zeroed m ws) (λ e. refl)
      (λ e. raised_kept _ y k ∙ raised_kept _ x h ∙ zeroed_put m (set ws x (y + 1)) y (x + 1) (omega arith) ∙ zeroed_put m ws x (y + 1) (omega arith))

  link_kept : (ws : List ℕ) (a b : ℕ) → a < 65536 → b < 65536 → zeroed m (link ws a b) ≡ zeroed m ws
  unfolding link
  link_kept ws a b h k =
      join_kept (set (set ws a 0) b 0) (far ws a) (far (set ws a 0) b) (far_low ws a h) (far_low (set ws a 0) b k)
      ∙ zeroed_put m (set ws a 0) b 0 (omega arith) ∙ zeroed_put m ws a 0 (omega arith)

  from_kept : (n i : ℕ) (ws : List ℕ) → i + n ≤ m → zeroed m (zero_from i n ws) ≡ zeroed m ws
  unfolding zero_from
  from_kept zero i ws h = refl
  from_kept (suc n) i ws h = from_kept n (suc i) (set ws i 0) (omega arith) ∙ zeroed_put m ws i 0 (omega arith)

  over_kept : (l : List ℕ) (ws : List ℕ) → Each (λ a. a < 65536) l → zeroed m (empty_over l ws) ≡ zeroed m ws
  unfolding empty_over
  over_kept [] ws h = refl
  over_kept (w ∷ l) ws h = let i = h.0 in over_kept l (set ws w 0) h.1 ∙ zeroed_put m ws w 0 (omega arith)

  module _ (s : List ℕ) (bytes : Bytes s) where
    hung_kept : (ws : List ℕ) (a : Growth) → a.top < 65536 → zeroed m (hung s ws a) ≡ zeroed m ws
    unfolding hung
    hung_kept ws a h = eq_split _ _ _ _ (λ (l : List ℕ). zeroed m l ≡ zeroed m ws) (λ e. link_kept ws a.top (be16 s (a.at + 1)) h (two_low s bytes (a.at + 1))) (λ e. refl)

    links_kept : (k : ℕ) (ws : List ℕ) (g : Growth) → zeroed m (links_hung s ws g k) ≡ zeroed m ws
    unfolding links_hung link_hung left_walked
    links_kept zero ws g = refl
    links_kept (suc k) ws g = links_kept k (link_hung s ws g) (link_walked s g) ∙ hung_kept ws (left_walked s g) (top_low s bytes 64 g 65536)

    net_kept : (ws : List ℕ) (at to aux : ℕ) → zeroed m (net_hung s ws at to aux) ≡ zeroed m ws
    unfolding net_hung
    net_kept ws at to aux = links_kept _ ws _

    linked_kept : (ws : List ℕ) (at : ℕ) → zeroed m (linked s ws at) ≡ zeroed m ws
    unfolding linked
    linked_kept ws at = net_kept ws at 0 0

    emptied_kept : (ws : List ℕ) → zeroed m (emptied ws) ≡ zeroed m ws
    unfolding emptied
    emptied_kept ws =
        let h = extent_least ws 65536 in
        from_kept ((extent ws 65536 + 31) / 32) 65601 _ (omega arith) ∙ from_kept (1 + (extent ws 65536 + 1023) / 1024) 65536 _ (omega arith)
        ∙ over_kept (looks_below ws 65536) ws (looks_low ws 65536 (omega arith))

    pub sums_kept : (k : ℕ) (ws : List ℕ) (t : Total) → zeroed m (passed_all s ws t k) ≡ zeroed m ws
    unfolding passed_all passed
    sums_kept zero ws t = refl
    sums_kept (suc k) ws t = sums_kept k (passed s ws t.at) (summed s ws t) ∙ emptied_kept (linked s ws t.at) ∙ linked_kept ws t.at

    words_kept : (ws : List ℕ) (p : Spot) → zeroed m (net_words s ws p) ≡ zeroed m ws
    unfolding net_words
    words_kept ws p = emptied_kept _ ∙ net_kept (linked s ws p.at) p.at _ _ ∙ linked_kept ws p.at

    pub nets_kept : (k : ℕ) (ws : List ℕ) (p : Spot) → zeroed m (nets_words s ws p k) ≡ zeroed m ws
    unfolding nets_words
    nets_kept zero ws p = refl
    nets_kept (suc k) ws p = nets_kept k (net_words s ws p) (net_spot s ws p) ∙ words_kept ws p
