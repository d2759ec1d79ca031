-- One turn of the loop over a net's links, and its end.
use Prim.Native.Nat.{ℕ, zero, suc, ◌-◌, ◌<◌, ◌≤◌}
use Rattle.std.specs.Prelude.{◌≡◌, List}
use Rattle.std.proofs.Common.{sub-one, not-suc-le-zero}
use Rattle.embed.specs.declared.Growth.{Growth}
use Rattle.embed_nets.specs.Nets.{link_walked, link_hung, link_written, links_walked, links_hung, links_written}

module _ (s : List ℕ) where
  pub walked_more : (g : Growth) (k : ℕ) (y x : Growth) → links_walked s g k ≡ x → 0 < k → y ≡ link_walked s g → links_walked s y (k - 1) ≡ x
  unfolding links_walked
  walked_more g zero y x e h ey = absurd (not-suc-le-zero h)
  walked_more g (suc k) y x e h ey = rw (sub-one, ey) e

  pub walked_done : (g : Growth) (k : ℕ) (x : Growth) → links_walked s g k ≡ x → k ≤ 0 → g ≡ x
  unfolding links_walked
  walked_done g zero x e h = e
  walked_done g (suc k) x e h = absurd (not-suc-le-zero h)

  pub hung_more : (g : Growth) (k : ℕ) (y : Growth) (ws w x : List ℕ) → links_hung s ws g k ≡ x → 0 < k → y ≡ link_walked s g → w ≡ link_hung s ws g
      → links_hung s w y (k - 1) ≡ x
  unfolding links_hung
  hung_more g zero y ws w x e h ey ew = absurd (not-suc-le-zero h)
  hung_more g (suc k) y ws w x e h ey ew = rw (sub-one, ew, ey) e

  pub hung_done : (g : Growth) (k : ℕ) (ws x : List ℕ) → links_hung s ws g k ≡ x → k ≤ 0 → ws ≡ x
  unfolding links_hung
  hung_done g zero ws x e h = e
  hung_done g (suc k) ws x e h = absurd (not-suc-le-zero h)

  pub written_more : (g : Growth) (k : ℕ) (y : Growth) (out w x : List ℕ) → links_written s g k out ≡ x → 0 < k → y ≡ link_walked s g → w ≡ link_written s g out
      → links_written s y (k - 1) w ≡ x
  unfolding links_written
  written_more g zero y out w x e h ey ew = absurd (not-suc-le-zero h)
  written_more g (suc k) y out w x e h ey ew = rw (sub-one, ew, ey) e

  pub written_done : (g : Growth) (k : ℕ) (out x : List ℕ) → links_written s g k out ≡ x → k ≤ 0 → out ≡ x
  unfolding links_written
  written_done g zero out x e h = e
  written_done g (suc k) out x e h = absurd (not-suc-le-zero h)
