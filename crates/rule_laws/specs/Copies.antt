-- A graft's copies: the graph with a copy of a whole net beside it is well wired.
use Rattle.std.proofs.Math.Path.{◌≡◌, refl, sym, ap}
use Rattle.std.proofs.Common.{◌∙◌, subst, inl, inr, true≢false, eqb-true, eq-eqb}
use Rattle.std.specs.Prelude.{◌≢◌, ◌⊎◌, Bool, true, false, length, eqb}
use Prim.Native.Nat.{ℕ, zero, suc, ◌+◌, ◌<◌, ◌≤◌}
use native.Mathlib.Omega.{arith}
use Rattle.std.proofs.Math.Option.{Option, none, some, some-injective}
use mathlib.Core.List.{List, [], ◌∷◌, map, Memᴰ}
use Rattle.std.proofs.Math.ListN.{get_or, get_or-map}
use Rattle.std.proofs.lemmas.List.{length-map}
use Rattle.definitions.specs.Lists.{or_else, is_some, foldl, place, zip_with, from, up_to}
use Rattle.definitions.specs.Nets.{Port, Node, Graph, port, at, filled, holds, name_of, arity, across}
use Rattle.definitions.specs.Scripts.{Edit, Copy, fill, apply}
use Rattle.definitions.specs.Rules.{copy_port, copies}
use Rattle.definitions.specs.Step.{Fresh, NodesOf}
use Rattle.join_laws.specs.Ports.{Frame, no_frame, in_net, same_port_lem, frame, frame_of, arity_frame, arity_same, net_frame, net_same, filled_frame, filled_same, holds_frame, Real, across_real}
use Rattle.join_laws.specs.Link.{Wired}
use Rattle.script_laws.specs.Slots.{fill_same, fill_other, across_slot, frame_slot, across_slots, frame_slots}
use Rattle.script_laws.specs.Tidy.{WellWired, real_filled}
use Rattle.rule_laws.specs.Places.{Ported, not_fresh}
use Rattle.rule_laws.specs.Ids.{at_mem, place_at, distinct_at, one_of_row}

-- ---- what a run of copies leaves

module _ (fresh : ℕ → ℕ) (apart : (j k : ℕ) → fresh j ≡ fresh k → j ≡ k) (copy : ℕ → Node) where
  -- the copies of xs, the first with number k
  abbrev copied : ℕ → List ℕ → List Edit
  copied k xs = zip_with (λ i n. Copy (fresh i) (copy n)) (from k (length xs)) xs

  copied_other : (xs : List ℕ) (k : ℕ) (g : Graph) (n : ℕ) → ((i : ℕ) → k ≤ i → i < k + length xs → n ≢ fresh i) → get_or (foldl apply g (copied k xs)) n none ≡ get_or g n none
  unfolding apply
  copied_other [] k g n h = refl
  copied_other (x ∷ xs) k g n h =
      copied_other xs (suc k) (fill g (fresh k) (copy x)) n (λ i l m. h i (omega arith) (omega arith)) ∙ fill_other g (fresh k) n (copy x) (h k (omega arith) (omega arith))

  copied_at : (xs : List ℕ) (k : ℕ) (g : Graph) (i : ℕ) → i < length xs → get_or (foldl apply g (copied k xs)) (fresh (k + i)) none ≡ some (copy (get_or xs i 0))
  unfolding apply
  copied_at [] k g i l = absurd (omega arith)
  copied_at (x ∷ xs) k g zero l =
      copied_other xs (suc k) (fill g (fresh k) (copy x)) (fresh (k + 0)) (λ i m u e. let z = apart (k + 0) i e in omega arith)
      ∙ ap (λ (t : ℕ). get_or (fill g (fresh k) (copy x)) (fresh t) none) (let z : k + 0 ≡ k = omega arith in z) ∙ fill_same g (fresh k) (copy x)
  copied_at (x ∷ xs) k g (suc i) l =
      ap (λ (t : ℕ). get_or (foldl apply (fill g (fresh k) (copy x)) (copied (suc k) xs)) (fresh t) none) (let z : k + suc i ≡ suc k + i = omega arith in z)
      ∙ copied_at xs (suc k) (fill g (fresh k) (copy x)) i (omega arith)

-- ---- the copies of a whole net

module _ (fresh : ℕ → ℕ) (g : Graph) (w : WellWired g) (f : Fresh g fresh) (m : ℕ) (ids : List ℕ) (all : NodesOf g m ids) (into : ℕ) where
  -- the copy of node n
  abbrev pub copy_of : ℕ → Node
  copy_of n = record { net = into; name = name_of g n; ports = map (copy_port fresh g ids) (at g n).ports }

  -- after the copies
  unfoldable pub g₁ : Graph
  g₁ = foldl apply g (copies fresh g ids into)

  copies_at : (k : ℕ) → k < length ids → get_or g₁ (fresh k) none ≡ some (copy_of (get_or ids k 0))
  unfolding copies g₁
  copies_at k l = ap (λ (t : ℕ). get_or g₁ (fresh t) none) (let z : k ≡ 0 + k = omega arith in z) ∙ copied_at fresh f.apart copy_of ids 0 g k l

  pub copies_other : (n : ℕ) → ((k : ℕ) → k < length ids → n ≢ fresh k) → get_or g₁ n none ≡ get_or g n none
  unfolding copies g₁
  copies_other n h = copied_other fresh f.apart copy_of ids 0 g n (λ i _ l. h i (omega arith))

  pub old_slot : (n : ℕ) → filled g n ≡ true → get_or g₁ n none ≡ get_or g n none
  old_slot n h = copies_other n (λ k _. not_fresh g fresh f n k h)

  pub old_across : (r : Port) → filled g r.node ≡ true → across g₁ r ≡ across g r
  old_across r h = across_slots g g₁ r (old_slot r.node h)

  pub old_frame : (n : ℕ) → filled g n ≡ true → frame g₁ n ≡ frame g n
  old_frame n h = frame_slots g g₁ n (old_slot n h)

  -- ---- a copy's ports

  copy_across : (k i : ℕ) → k < length ids → across g₁ (port (fresh k) i) ≡ copy_port fresh g ids (across g (port (get_or ids k 0) i))
  unfolding copy_port across
  copy_across k i l = across_slot g₁ (fresh k) i (copy_of (get_or ids k 0)) (copies_at k l) ∙ get_or-map (copy_port fresh g ids) (at g (get_or ids k 0)).ports i none

  pub copy_frame : (k : ℕ) → k < length ids → frame g₁ (fresh k) ≡ some (record { net = into; name = name_of g (get_or ids k 0); size = arity g (get_or ids k 0) })
  unfolding arity
  copy_frame k l =
      frame_slot g₁ (fresh k) (copy_of (get_or ids k 0)) (copies_at k l)
      ∙ ap (λ (n : ℕ). some (record { net = into; name = name_of g (get_or ids k 0); size = n })) (length-map (at g (get_or ids k 0)).ports (copy_port fresh g ids))

  pub copy_arity : (k : ℕ) → k < length ids → arity g₁ (fresh k) ≡ arity g (get_or ids k 0)
  copy_arity k l = arity_frame g₁ (fresh k) ∙ ap (λ (o : Option Frame). (or_else o no_frame).size) (copy_frame k l)

  pub copy_net : (k : ℕ) → k < length ids → (at g₁ (fresh k)).net ≡ into
  copy_net k l = net_frame g₁ (fresh k) ∙ ap (λ (o : Option Frame). (or_else o no_frame).net) (copy_frame k l)

  -- ---- wires stay within the net, so the copies are wired among themselves

  in_net_lem : (n : ℕ) → holds g m n ≡ true → (at g n).net ≡ m
  in_net_lem n h = net_frame g n ∙ go (frame g n) (sym (holds_frame g n m) ∙ h)
    where
      go : (o : Option Frame) → in_net m o ≡ true → (or_else o no_frame).net ≡ m
      go none e = absurd (true≢false (sym e))
      go (some x) e = eqb-true x.net m e

  holds_in : (n : ℕ) → filled g n ≡ true → (at g n).net ≡ m → holds g m n ≡ true
  holds_in n h e = holds_frame g n m ∙ go (frame g n) (sym (filled_frame g n) ∙ h) (sym (net_frame g n) ∙ e)
    where
      go : (o : Option Frame) → is_some o ≡ true → (or_else o no_frame).net ≡ m → in_net m o ≡ true
      go none x y = absurd (true≢false (sym x))
      go (some x) y z = eq-eqb x.net m z

  met_mem : (k : ℕ) (p q : Port) → k < length ids → p.node ≡ get_or ids k 0 → across g p ≡ some q → Memᴰ q.node ids
  met_mem k p q l s e =
      let h = in_net_lem (get_or ids k 0) (all.sound (get_or ids k 0) (at_mem ids k l)) in
      all.full q.node (holds_in q.node (real_filled g q (across_real g q p (w.wired.back p q e)))
      (sym (w.wired.within p q e) ∙ ap (λ (n : ℕ). (at g n).net) s ∙ h))

  place_of : (k : ℕ) → k < length ids → place (eqb (get_or ids k 0)) ids ≡ k
  place_of k l =
      let x = place_at (get_or ids k 0) ids (at_mem ids k l) in
      distinct_at ids all.once (place (eqb (get_or ids k 0)) ids) k x.0 l x.1

  -- a wire of g₁ at a copy: the wire of g that it copies
  pub record Copied (k i : ℕ) (q : Port) : Type 0 where
    pub q₀ : Port
    pub wire : across g (port (get_or ids k 0) i) ≡ some q₀
    pub place₀ : place (eqb q₀.node) ids < length ids
    pub there : get_or ids (place (eqb q₀.node) ids) 0 ≡ q₀.node
    pub is : q ≡ port (fresh (place (eqb q₀.node) ids)) q₀.index

  pub copied_wire : (k i : ℕ) (q : Port) → k < length ids → across g₁ (port (fresh k) i) ≡ some q → Copied k i q
  unfolding copy_port
  copied_wire k i q l e = go (across g (port (get_or ids k 0) i)) refl (sym (copy_across k i l) ∙ e)
    where
      go : (o : Option Port) → across g (port (get_or ids k 0) i) ≡ o → copy_port fresh g ids o ≡ some q → Copied k i q
      go none x y = let z : ◌≡◌ {A = ℕ} 0 1 = cc in absurd (omega arith)
      go (some q₀) x y =
          let h = place_at q₀.node ids (met_mem k (port (get_or ids k 0) i) q₀ l refl x) in
          record { q₀ = q₀; wire = x; place₀ = h.0; there = h.1; is = sym (some-injective (port (fresh (place (eqb q₀.node) ids)) q₀.index) q y) }

  pub wire_copied : (k i : ℕ) (q₀ : Port) → k < length ids → across g (port (get_or ids k 0) i) ≡ some q₀ → across g₁ (port (fresh k) i) ≡ some (port (fresh (place (eqb q₀.node) ids)) q₀.index)
  unfolding copy_port
  wire_copied k i q₀ l e = copy_across k i l ∙ ap (copy_port fresh g ids) e

  -- a port of g₁ is a copy's, or is as it was in g
  abbrev Born : ℕ → Type 0
  Born n = (k : ℕ) × (k < length ids) × (n ≡ fresh k)

  other_across : (r : Port) → ((k : ℕ) → k < length ids → r.node ≢ fresh k) → across g₁ r ≡ across g r
  other_across r h = across_slots g g₁ r (copies_other r.node h)

  copy_back : (k i : ℕ) (q : Port) → k < length ids → across g₁ (port (fresh k) i) ≡ some q → across g₁ q ≡ some (port (fresh k) i)
  copy_back k i q l e =
      let c = copied_wire k i q l e in
      let k' = place (eqb c.q₀.node) ids in
      let back : across g (port (get_or ids k' 0) c.q₀.index) ≡ some (port (get_or ids k 0) i) =
      ap (λ (n : ℕ). across g (port n c.q₀.index)) c.there ∙ w.wired.back (port (get_or ids k 0) i) c.q₀ c.wire in
      ap (across g₁) c.is ∙ wire_copied k' c.q₀.index (port (get_or ids k 0) i) c.place₀ back
      ∙ ap (λ (n : ℕ). some (port (fresh n) i)) (place_of k l)

  copy_apart : (k i : ℕ) → k < length ids → across g₁ (port (fresh k) i) ≢ some (port (fresh k) i)
  copy_apart k i l e =
      let c = copied_wire k i (port (fresh k) i) l e in
      let s : k ≡ place (eqb c.q₀.node) ids = f.apart k (place (eqb c.q₀.node) ids) (ap (λ (p : Port). p.node) c.is) in
      let n : c.q₀.node ≡ get_or ids k 0 = sym c.there ∙ ap (λ (t : ℕ). get_or ids t 0) (sym s) in
      w.wired.apart (port (get_or ids k 0) i)
      (c.wire ∙ ap {B = Option Port} some (same_port_lem c.q₀ (port (get_or ids k 0) i) n (sym (ap (λ (p : Port). p.index) c.is))))

  copies_wired : Wired g₁
  copies_wired = record { back = back; apart = apart; within = within }
    where
      back : (p q : Port) → across g₁ p ≡ some q → across g₁ q ≡ some p
      back p q e = go (one_of_row fresh (length ids) p.node)
        where
          go : Born p.node ⊎ ((k : ℕ) → k < length ids → p.node ≢ fresh k) → across g₁ q ≡ some p
          go (inl b) =
              let s : p ≡ port (fresh b.0) p.index = same_port_lem p (port (fresh b.0) p.index) b.2 refl in
              copy_back b.0 p.index q b.1 (ap (across g₁) (sym s) ∙ e) ∙ ap {B = Option Port} some (sym s)
          go (inr n) =
              let x = sym (other_across p n) ∙ e in
              let y = w.wired.back p q x in
              old_across q (real_filled g q (across_real g q p y)) ∙ y

      apart : (p : Port) → across g₁ p ≢ some p
      apart p e = go (one_of_row fresh (length ids) p.node)
        where
          go : Born p.node ⊎ ((k : ℕ) → k < length ids → p.node ≢ fresh k) → ⊥
          go (inl b) =
              let s : p ≡ port (fresh b.0) p.index = same_port_lem p (port (fresh b.0) p.index) b.2 refl in
              copy_apart b.0 p.index b.1 (ap (across g₁) (sym s) ∙ e ∙ ap {B = Option Port} some s)
          go (inr n) = w.wired.apart p (sym (other_across p n) ∙ e)

      within : (p q : Port) → across g₁ p ≡ some q → (at g₁ p.node).net ≡ (at g₁ q.node).net
      within p q e = go (one_of_row fresh (length ids) p.node)
        where
          go : Born p.node ⊎ ((k : ℕ) → k < length ids → p.node ≢ fresh k) → (at g₁ p.node).net ≡ (at g₁ q.node).net
          go (inl b) =
              let s : p ≡ port (fresh b.0) p.index = same_port_lem p (port (fresh b.0) p.index) b.2 refl in
              let c = copied_wire b.0 p.index q b.1 (ap (across g₁) (sym s) ∙ e) in
              ap (λ (n : ℕ). (at g₁ n).net) b.2 ∙ copy_net b.0 b.1
              ∙ sym (ap (λ (r : Port). (at g₁ r.node).net) c.is ∙ copy_net (place (eqb c.q₀.node) ids) c.place₀)
          go (inr n) =
              let x = sym (other_across p n) ∙ e in
              let hp = real_filled g p (across_real g p q x) in
              let hq = real_filled g q (across_real g q p (w.wired.back p q x)) in
              net_same g g₁ p.node (old_frame p.node hp) ∙ w.wired.within p q x ∙ sym (net_same g g₁ q.node (old_frame q.node hq))

  -- the graph with the copies is well wired
  pub copies_well : WellWired g₁
  copies_well = record { wired = copies_wired; full = full }
    where
      full : (r : Port) → Real g₁ r → is_some (across g₁ r) ≡ true
      full r h = go (one_of_row fresh (length ids) r.node)
        where
          go : Born r.node ⊎ ((k : ℕ) → k < length ids → r.node ≢ fresh k) → is_some (across g₁ r) ≡ true
          go (inl b) =
              let s : r ≡ port (fresh b.0) r.index = same_port_lem r (port (fresh b.0) r.index) b.2 refl in
              let l : r.index < arity g (get_or ids b.0 0) = subst (λ (n : ℕ). r.index < n) (ap (arity g₁) b.2 ∙ copy_arity b.0 b.1) h in
              via b.0 b.1 (across g (port (get_or ids b.0 0) r.index)) refl (w.full (port (get_or ids b.0 0) r.index) l) s
            where
              via : (k : ℕ) → k < length ids → (o : Option Port) → across g (port (get_or ids k 0) r.index) ≡ o → is_some (across g (port (get_or ids k 0) r.index)) ≡ true → r ≡ port (fresh k) r.index → is_some (across g₁ r) ≡ true
              via k u none x y s = absurd (true≢false (sym y ∙ ap is_some x))
              via k u (some q) x y s = ap is_some (ap (across g₁) s ∙ wire_copied k r.index q u x)
          go (inr n) =
              let e = frame_slots g g₁ r.node (copies_other r.node n) in
              ap is_some (other_across r n) ∙ w.full r (subst (λ (k : ℕ). r.index < k) (arity_same g g₁ r.node e) h)

  pub copies_ported : Ported g → Ported g₁
  copies_ported p n f' = go (one_of_row fresh (length ids) n)
    where
      held : (j : ℕ) → holds g m j ≡ true → filled g j ≡ true
      held j e = filled_frame g j ∙ via (frame g j) (sym (holds_frame g j m) ∙ e)
        where
          via : (o : Option Frame) → in_net m o ≡ true → is_some o ≡ true
          via none x = absurd (true≢false (sym x))
          via (some x) y = refl

      go : Born n ⊎ ((k : ℕ) → k < length ids → n ≢ fresh k) → 0 < arity g₁ n
      go (inl b) =
          let k = b.0 in
          rw (ap (arity g₁) b.2 ∙ copy_arity k b.1) (p (get_or ids k 0) (held (get_or ids k 0) (all.sound (get_or ids k 0) (at_mem ids k b.1))))
      go (inr h) =
          let e = frame_slots g g₁ n (copies_other n h) in
          rw (arity_same g g₁ n e) (p n (sym (filled_same g g₁ n e) ∙ f'))
