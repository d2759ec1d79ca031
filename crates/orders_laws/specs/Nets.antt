-- The answer of `nets_ordered` on flat nets that are read: check 6 on their names and pairs.
use Prim.Native.Nat.{ℕ, zero, suc, ◌+◌, ◌<◌, ◌≤◌}
use Rattle.std.specs.Prelude.{◌≡◌, Bool, ◌&&◌, ◌⊎◌, List, ◌∷◌, map, get_or, drop, replicate}
use Rattle.std.proofs.Math.Path.{refl}
use Rattle.std.proofs.Common.{sym, ap, ◌∙◌, arith}
use Rattle.std.proofs.Math.Bool.{true, false}
use Rattle.std.proofs.Math.Logic.{inl, inr}
use Rattle.std.proofs.Math.Option.{some}
use Rattle.std.proofs.Math.ListN.{length}
use Rattle.std.proofs.lemmas.List.{length-replicate}
use Rattle.std.proofs.Math.Dec.{leb}
use Rattle.words.specs.Choose.{pick}
use Rattle.net_file.specs.Lists.{all, ascend}
use Rattle.net_file.specs.Values.{FlatNet}
use Rattle.net_file.specs.Read.{◌>>=◌, give, times, read_flat_net}
use Rattle.net_file.specs.Checks.{pair_wires, pairs_ordered}
use Rattle.fields.specs.Fields.{be16, be32}
use Rattle.stored.specs.Stored.{table_at, flat_net_at, flat_net_end}
use Rattle.stored.specs.Laws.{bound, stands_times}
use Rattle.stored.specs.Parts.{stands_net}
use Rattle.ends.specs.Ends.{within}
use Rattle.tally.specs.Tally.{Low, blank_low, inside_more}
use Rattle.wiring.specs.Wiring.{net_pairs}
use Rattle.wiring.specs.Fits.{fits_cases}
use Rattle.walk.specs.Loops.{times_suc}
use Rattle.stored.specs.Pass.{pass}
use Rattle.orders.specs.Orders.{mark, pairs_from, name_fits, net_ordered, nets_from, nets_wide, nets_ordered}
use Rattle.orders.specs.Steps.{wide_start, nets_start, nets_zero, nets_suc}
use Rattle.orders_laws.specs.Ascend.{ascend_from, ascends}
use Rattle.orders_laws.specs.Pairs.{mark_length, mark_low, pairs_keep, pairs_ordered_lem}
use Rattle.orders_laws.specs.Flat.{FlatRead, flat_read}

-- ---- one net

module _ (s counts : List ℕ) (base last at : ℕ) where
  net_keeps : (P : List ℕ → Type 0) → ((c : List ℕ) (w : ℕ) → P c → P (mark c base w)) → P counts → P (net_ordered counts base last s at).ws
  unfolding net_ordered pick
  net_keeps P f h = go (name_fits s at last)
    where
      go : (t : Bool) → P (pick t (pairs_from counts base 0 (net_pairs s at)) (record { is = false; ws = counts })).ws
      go true = pairs_keep base P f (net_pairs s at) counts 0 h
      go false = h

  net_ordered_lem : FlatRead s at → be32 s (at + 3) ≤ length counts → Low counts base
      → (net_ordered counts base last s at).is ≡ (leb last (flat_net_at s at).name && pairs_ordered (flat_net_at s at).pairs)
  unfolding net_ordered name_fits pick flat_net_at
  net_ordered_lem r room l =
      go (leb last (be16 s at))
      ∙ rw r.pairs (ap (λ t. leb last (be16 s at) && t) (pairs_ordered_lem counts base (flat_net_at s at).pairs l (inside_more (be32 s (at + 3)) (length counts) room (pair_wires (flat_net_at s at).pairs) r.inside)))
    where
      go : (t : Bool) → (pick t (pairs_from counts base 0 (net_pairs s at)) (record { is = false; ws = counts })).is ≡ (t && (pairs_from counts base 0 (net_pairs s at)).is)
      go true = refl
      go false = refl

-- ---- nets, one after another

join : (l p a b : Bool) → pick (l && p) (a && b) false ≡ (l && a && (p && b))
unfolding pick
join false p a b = refl
join true false false b = refl
join true false true b = refl
join true true a b = refl

module _ (s : List ℕ) (paths names : ℕ) where
  -- what check 6 says of n nets at a place, where the names before are below last
  abbrev Says : ℕ → ℕ → ℕ → Bool
  Says last at n = ascend_from last (map (λ x. x.name) (table_at (flat_net_at s) (flat_net_end s) at n)) && all (λ x. pairs_ordered x.pairs) (table_at (flat_net_at s) (flat_net_end s) at n)

  -- `wide` tells of nets of which the first has more than len wires
  abbrev Tells : (ℕ → ℕ → ℕ → Bool) → ℕ → Type 0
  Tells wide len = (n at last : ℕ) (ns : List FlatNet) (r : List ℕ) → at ≤ length s → times (suc n) (read_flat_net paths names) (drop at s) ≡ some (ns, r) → suc n ≤ 256
      → len < be32 s (at + 3) → wide last at (suc n) ≡ Says last at (suc n)

  stored_ordered : (wide : ℕ → ℕ → ℕ → Bool) (len : ℕ) → Tells wide len → (n at base last : ℕ) (counts : List ℕ) (ns : List FlatNet) (r : List ℕ) → at ≤ length s
      → times n (read_flat_net paths names) (drop at s) ≡ some (ns, r) → n ≤ 256 → length counts ≡ len → Low counts base → nets_from wide counts base last s at n ≡ Says last at n
  unfolding table_at ascend_from flat_net_at pick
  stored_ordered wide len tells zero at base last counts ns r i h v e l = nets_zero wide counts base last s at
  stored_ordered wide len tells (suc n) at base last counts ns r i h v e l =
      let a_net = read_flat_net paths names in
      let g : (a_net >>= λ x. times n a_net >>= λ xs. give (x ∷ xs)) (drop at s) ≡ some (ns, r) = rw times_suc at h in
      let b = pass (λ x. times n a_net >>= λ xs. give (x ∷ xs)) ns r (stands_net s paths names at) i g in
      let c = bound (times n a_net) (λ xs. give (flat_net_at s at ∷ xs)) (drop (flat_net_end s at) s) ns r b.next in
      let f = flat_read s at paths names (flat_net_at s at) _ i b.first in
      let d = (net_ordered counts base last s at).ws in
      let ed : length d ≡ len = net_keeps s counts base last at (λ z. length z ≡ len) (λ z w k. mark_length z base w ∙ k) e in
      let ld : Low d (base + 1) = net_keeps s counts base last at (λ z. Low z (base + 1)) (λ z w k. mark_low z base w k) (λ v. let k = l v in omega arith) in
      let t : within s (flat_net_end s at) ≡ flat_net_end s at = omega (arith, b.inside) in
      let q = stored_ordered wide len tells n (flat_net_end s at) (base + 4) (be16 s at + 1) d c.value c.rest b.inside c.first (omega arith) ed (λ v. let k = ld v in omega arith) in
      let xs = table_at (flat_net_at s) (flat_net_end s) (flat_net_end s at) n in
      elim (fits_cases counts s at) [
        | inl y ↦
            rw (nets_suc, y.0, t, q, net_ordered_lem s counts base last at f y.1 l)
            (join (leb last (be16 s at)) (pairs_ordered (flat_net_at s at).pairs) (ascend_from (be16 s at + 1) (map (λ x. x.name) xs)) (all (λ x. pairs_ordered x.pairs) xs))
        | inr y ↦ rw (nets_suc, y.0) (tells n at last ns r i h v (omega (arith, e, y.1)))
      ]

  -- no net that is read has more than 65,536 wires
  none_wider : Tells (λ l a k. false) 65536
  none_wider n at last ns r i h v l =
      let a_net = read_flat_net paths names in
      let b = pass (λ x. times n a_net >>= λ xs. give (x ∷ xs)) ns r (stands_net s paths names at) i (rw times_suc at h) in
      absurd (omega (arith, (flat_read s at paths names (flat_net_at s at) _ i b.first).counter))

  wide_tells : Tells (nets_wide s) 1024
  wide_tells n at last ns r i h v l =
      sym (wide_start s at (suc n) last v) ∙ stored_ordered (λ l a k. false) 65536 none_wider (suc n) at 0 last (replicate 65536 0) ns r i h v (length-replicate {A = ℕ} 65536 0) (blank_low 65536)

  pub nets_ordered_lem : (n at : ℕ) (ns : List FlatNet) (r : List ℕ) → times n (read_flat_net paths names) (drop at s) ≡ some (ns, r) → at ≤ length s → n ≤ 256
      → nets_ordered s at n ≡ (ascend (map (λ x. x.name) ns) && all (λ x. pairs_ordered x.pairs) ns)
  nets_ordered_lem n at ns r h i v =
      sym (nets_start s at n v)
      ∙ stored_ordered (nets_wide s) 1024 wide_tells n at 0 0 (replicate 1024 0) ns r i h v (length-replicate {A = ℕ} 1024 0) (blank_low 1024)
      ∙ rw ((stands_times s (read_flat_net paths names) (flat_net_at s) (flat_net_end s) (stands_net s paths names) n at).by ns r i h).0
      (ap (λ t. t && all (λ x. pairs_ordered x.pairs) (table_at (flat_net_at s) (flat_net_end s) at n)) (ascends _))
