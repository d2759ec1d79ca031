-- How check 6 goes over the names of tree nets, by offsets. What it means is in `orders_laws`.
use Prim.Native.Nat.{ℕ, zero, suc, ◌+◌, ◌-◌, ◌<◌, ◌≤◌}
use Rattle.std.specs.Prelude.{◌≡◌, Bool, List}
use Rattle.std.proofs.Math.Path.{sym}
use Rattle.std.proofs.Common.{◌∙◌, sub-one, not-suc-le-zero}
use Rattle.std.proofs.Math.Bool.{true, false}
use Rattle.words.specs.Choose.{pick}
use Rattle.fields.specs.Fields.{be16}
use Rattle.scan_tree.specs.Count.{net_end}
use Rattle.orders.specs.Orders.{name_fits}

-- n nets, one after another
unfoldable pub names_from : ℕ → List ℕ → ℕ → ℕ → Bool
names_from last s at zero = true
names_from last s at (suc n) =
    let r = names_from (be16 s at + 1) s (net_end s at) n in
    pick (name_fits s at last) r false

-- each way out of the loop
module _ (s : List ℕ) (last at : ℕ) (x t : Bool) where
  pub names_more : (a m k : ℕ) → names_from last s at k ≡ x → 0 < k → t ≡ name_fits s at last → t ≡ true → m ≡ be16 s at → a ≡ net_end s at
      → names_from (m + 1) s a (k - 1) ≡ x
  unfolding names_from pick
  names_more a m zero g h et y em ea = absurd (not-suc-le-zero h)
  names_more a m (suc k) g h et y em ea =
      let w : name_fits s at last ≡ true = sym et ∙ y in
      rw (sub-one, em, ea) (rw w at g)

  pub names_no : (k : ℕ) → names_from last s at k ≡ x → 0 < k → t ≡ name_fits s at last → t ≡ false → false ≡ x
  unfolding names_from pick
  names_no zero g h et y = absurd (not-suc-le-zero h)
  names_no (suc k) g h et y = let w : name_fits s at last ≡ false = sym et ∙ y in rw w at g

pub names_done : (s : List ℕ) (last at k : ℕ) (x : Bool) → names_from last s at k ≡ x → k ≤ 0 → true ≡ x
unfolding names_from
names_done s last at zero x g h = g
names_done s last at (suc k) x g h = absurd (not-suc-le-zero h)
