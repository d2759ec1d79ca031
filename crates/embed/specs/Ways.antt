-- The ways out of `embed`, one turn of the loop of `embed_all`, and its end.
use Prim.Native.Nat.{ℕ, zero, suc, ◌-◌, ◌<◌, ◌≤◌}
use Rattle.std.specs.Prelude.{◌≡◌, List}
use Rattle.std.proofs.Math.Path.{refl}
use Rattle.std.proofs.Common.{sym, ◌∙◌, arith, sub-one, not-suc-le-zero}
use Rattle.words.specs.Choose.{if_eq, eq_yes, eq_no}
use Rattle.fields.specs.Fields.{byte}
use Rattle.embed.specs.declared.Growth.{Growth}
use Rattle.embed.specs.Embed.{kids, leaf, entered, head_written, topped, top_written, closed, walked_by, written_by, walked, written, walked_all, written_all}

module _ (s : List ℕ) (g : Growth) (up : ℕ) where
  -- a wire
  pub wire_walked : (d b : ℕ) (r : Growth) → b ≡ byte s g.at → b ≡ 0 → r ≡ leaf s g → r ≡ walked s d g up
  unfolding walked
  wire_walked zero b r e z h = h
  wire_walked (suc d) b r e z h = eq_yes _ _ _ _ (sym e ∙ z) h

  pub wire_written : (d b : ℕ) (out : List ℕ) → b ≡ byte s g.at → b ≡ 0 → out ≡ written s d g up out
  unfolding written
  wire_written zero b out e z = refl
  wire_written (suc d) b out e z = eq_yes _ _ _ _ (sym e ∙ z) refl

  -- at depth 0
  pub flat_walked : (d : ℕ) (r : Growth) → d ≡ 0 → r ≡ leaf s g → r ≡ walked s d g up
  unfolding walked
  flat_walked zero r z h = h
  flat_walked (suc d) r z h = absurd (omega arith)

  pub flat_written : (d : ℕ) (out : List ℕ) → d ≡ 0 → out ≡ written s d g up out
  unfolding written
  flat_written zero out z = refl
  flat_written (suc d) out z = absurd (omega arith)

  -- a node
  pub node_walked : (d b k : ℕ) (o r x : Growth) → b ≡ byte s g.at → (b ≡ 0 → ⊥) → (d ≡ 0 → ⊥) → o ≡ entered s g up → k ≡ kids s g.at
      → r ≡ walked_all s (d - 1) o k → x ≡ closed r o.top → x ≡ walked s d g up
  unfolding walked walked_all
  node_walked zero b k o r x e z n eo ek er h = absurd (n refl)
  node_walked (suc d) b k o r x e z n eo ek er h = eq_no _ _ _ _ (λ y. z (e ∙ y)) (rw (← eo, ← ek) (h ∙ rw (er, sub-one)))

  pub node_written : (d b k : ℕ) (o : Growth) (out w v : List ℕ) → b ≡ byte s g.at → (b ≡ 0 → ⊥) → (d ≡ 0 → ⊥) → o ≡ entered s g up → k ≡ kids s g.at
      → w ≡ head_written s out g o.top → v ≡ written_all s (d - 1) o k w → v ≡ written s d g up out
  unfolding written written_all
  node_written zero b k o out w v e z n eo ek ew h = absurd (n refl)
  node_written (suc d) b k o out w v e z n eo ek ew h = eq_no _ _ _ _ (λ y. z (e ∙ y)) (rw (← eo, ← ek) (h ∙ rw (ew, sub-one)))

module _ (s : List ℕ) (d : ℕ) where
  pub all_walked_more : (g t y : Growth) (k a : ℕ) (x : Growth) → walked_all s d g k ≡ x → 0 < k → a ≡ g.aux → t ≡ walked s d g 65536 → y ≡ topped t a
      → walked_all s d y (k - 1) ≡ x
  unfolding walked_all walked_by
  all_walked_more g t y zero a x e h ea et ey = absurd (not-suc-le-zero h)
  all_walked_more g t y (suc k) a x e h ea et ey = rw (sub-one, ey, et, ea) e

  pub all_walked_done : (g : Growth) (k : ℕ) (x : Growth) → walked_all s d g k ≡ x → k ≤ 0 → g ≡ x
  unfolding walked_all walked_by
  all_walked_done g zero x e h = e
  all_walked_done g (suc k) x e h = absurd (not-suc-le-zero h)

  pub all_written_more : (g t y : Growth) (k a : ℕ) (out v w x : List ℕ) → written_all s d g k out ≡ x → 0 < k → a ≡ g.aux → t ≡ walked s d g 65536
      → v ≡ written s d g 65536 out → y ≡ topped t a → w ≡ top_written v t a → written_all s d y (k - 1) w ≡ x
  unfolding written_all written_by
  all_written_more g t y zero a out v w x e h ea et ev ey ew = absurd (not-suc-le-zero h)
  all_written_more g t y (suc k) a out v w x e h ea et ev ey ew = rw (sub-one, ew, ey, ev, et, ea) e

  pub all_written_done : (g : Growth) (k : ℕ) (out x : List ℕ) → written_all s d g k out ≡ x → k ≤ 0 → out ≡ x
  unfolding written_all written_by
  all_written_done g zero out x e h = e
  all_written_done g (suc k) out x e h = absurd (not-suc-le-zero h)
