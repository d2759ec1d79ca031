-- A net at 0 is quiet: its nodes are clean and none of them waits. So a graft's copies, which start clean, can do nothing that it could not.
use Rattle.std.specs.Prelude.{ℕ, zero, suc, ◌+◌, ◌<◌, ◌≤◌, ◌≢◌, ◌⊎◌, Bool, ◌&&◌, drop}
use Rattle.std.proofs.Math.Path.{◌≡◌, refl, sym, ap, subst}
use Rattle.std.proofs.Common.{◌∙◌, inl}
use Rattle.std.proofs.Math.Logic.{inr}
use native.Mathlib.Omega.{arith}
use Rattle.std.proofs.Math.Bool.{true, false}
use Rattle.std.proofs.Math.Option.{Option, none, some, some-injective}
use mathlib.Core.List.Memᴰ
use mathlib.Core.List.{List, [], ◌∷◌, ◌++◌, map, Memᴰ}
use Rattle.std.proofs.Math.ListN.{length, get_or, length-map, get_or-map}
use Rattle.std.proofs.Math.Dec.{eqb}
use Rattle.net_file.specs.Lists.{bit}
use Rattle.definitions.specs.Lists.{place, zip_with, from, up_to}
use Rattle.definitions.specs.Nets.{Port, Graph, port, at, filled, holds, name_of, arity, ports, across}
use Rattle.definitions.specs.Scripts.{Edit, Copy, Join}
use Rattle.definitions.specs.Rules.{copy_port, copies, graft_script}
use Rattle.definitions.specs.Step.{Fresh, NodesOf}
use Rattle.definitions.specs.State.{Net, Wait, Engine, graph_of, new_net, net_at}
use Rattle.definitions.specs.Books.{is_dirty, fresh}
use Rattle.dirty_laws.specs.Tests.{eqb_self}
use Rattle.dirty_laws.specs.Tally.{tally_off}
use Rattle.script_laws.specs.Tidy.{WellWired}
use Rattle.rule_laws.specs.Ids.{at_mem}
use Rattle.rule_laws.specs.Copies.{copied_wire, wire_copied}
use Rattle.good_laws.specs.Owners.{owners, net_of, is_of}
use Rattle.good_laws.specs.Good.{Good, made_by, waits_of}
use Rattle.good_laws.specs.Marks.{below_slots}
use Rattle.reached_laws.specs.Tracks.{owned_by}
use Rattle.idle_laws.specs.Seen.{moved}
use Rattle.idle_laws.specs.Mirror.{Okay, AllOkay}
use Rattle.idle_laws.specs.Placed.{waits_on}
use Rattle.idle_laws.specs.Acted.{Known, origin, origin_new}

-- ---- waits are counted

made_one : (v : Wait) (ws : List Wait) → Memᴰ v ws → 1 ≤ made_by v.net ws
made_one v [] i = absurd (Memᴰ.not-nil i)
made_one v (u ∷ ws) i = go (Memᴰ.cases_cons i) (λ j. made_one v ws j)
  where
    go : (v ≡ u) ⊎ Memᴰ v ws → (Memᴰ v ws → 1 ≤ made_by v.net ws) → 1 ≤ bit (eqb u.net v.net) + made_by v.net ws
    go (inl q) r = let z : bit (eqb u.net v.net) ≡ 1 = ap (λ (w : Wait). bit (eqb w.net v.net)) (sym q) ∙ ap bit (eqb_self v.net) in omega arith
    go (inr j) r = let z = r j in omega arith

waits_one : (ts : List Net) (v : Wait) (j : ℕ) → Memᴰ v (get_or ts j (new_net (record { name = 0; free = 0 }))).awaiting → 1 ≤ waits_of ts v.net
waits_one [] v j i = absurd (Memᴰ.not-nil i)
waits_one (t ∷ ts) v zero i = let z = made_one v t.awaiting i in omega arith
waits_one (t ∷ ts) v (suc j) i = let z = waits_one ts v j i in omega arith

-- a wait counts for the net of the node that made it
pub wait_counts : (e : Engine) (v : Wait) (j : ℕ) → Memᴰ v (waits_on e j) → 1 ≤ waits_of e.nets v.net
unfolding net_at
wait_counts e v j i = waits_one e.nets v j i

-- ---- a net at 0

module _ (e : Engine) (y : ℕ → ℕ) (good : Good y e) (m : ℕ) (low : m < length e.nets) (zero' : (net_at e m).pending ≡ 0) where
  pub quiet_clean : (x : ℕ) → filled (graph_of e) x ≡ true → (at (graph_of e) x).net ≡ m → is_dirty e x ≡ false
  unfolding is_dirty
  quiet_clean x f q = go (get_or e.slots.marks x false) refl
    where
      go : (t : Bool) → get_or e.slots.marks x false ≡ t → get_or e.slots.marks x false ≡ false
      go false h = h
      go true h =
          let o = owned_by (graph_of e) x f in
          let s : o.0 ≡ m = sym (net_of (graph_of e) x o.0 o.1) ∙ q in
          let l = below_slots good.slotted x o.0 o.1 in
          let p = good.pending m low in
          let on : (get_or e.slots.marks x false && is_of m (get_or (owners (graph_of e)) x none)) ≡ true =
          ap (λ (b : Bool). b && is_of m (get_or (owners (graph_of e)) x none)) h ∙ ap (is_of m) o.1 ∙ ap (λ (j : ℕ). eqb j m) s ∙ eqb_self m in
          let d = tally_off (λ i. get_or e.slots.marks i false && is_of m (get_or (owners (graph_of e)) i none)) x e.pools.nodes l on in
          absurd (omega arith)

  pub quiet_waits : (v : Wait) → v.net ≡ m → (j : ℕ) → ¬ Memᴰ v (waits_on e j)
  quiet_waits v q j i =
      let p = good.pending m low in
      let w : 1 ≤ waits_of e.nets m = subst (λ (k : ℕ). 1 ≤ waits_of e.nets k) q (wait_counts e v j i) in
      omega arith

-- ---- the copies

module _ (e : Engine) (fr : Fresh (graph_of e) (fresh e)) (well : WellWired (graph_of e)) (m : ℕ) (ids : List ℕ) (nodes : NodesOf (graph_of e) m ids) (n : ℕ)
    (clean : (x : ℕ) → holds (graph_of e) m x ≡ true → (is_dirty e x ≡ false) × (x ≢ n)) where
  abbrev g : Graph
  g = graph_of e

  abbrev φ : ℕ → ℕ
  φ = origin e fr ids

  -- one copy
  copy_okay : (into k : ℕ) → k < length ids → Okay e n (origin e fr ids) (Known e fr ids) (Copy (fresh e k) (record { net = into; name = name_of g (get_or ids k 0); ports = map (copy_port (fresh e) g ids) (at g (get_or ids k 0)).ports }))
  unfolding arity copy_port across
  copy_okay into k l =
      let x = get_or ids k 0 in
      let q : φ (fresh e k) ≡ x = origin_new e fr ids k l in
      let c = clean x (nodes.sound x (at_mem ids k l)) in (
        inr (k, l, refl),
        ap (is_dirty e) q ∙ c.0,
        (λ s. c.1 (sym q ∙ s)),
        ap (name_of g) (sym q),
        length-map (at g x).ports (copy_port (fresh e) g ids) ∙ ap (arity g) (sym q),
        (λ i p h. go x q i p refl (across g (port x i)) refl (sym (get_or-map (copy_port (fresh e) g ids) (at g x).ports i none) ∙ h)),
        fr.vacant k,
      )
    where
      go : (x : ℕ) → origin e fr ids (fresh e k) ≡ x → (i : ℕ) (p : Port) → get_or ids k 0 ≡ x → (o : Option Port) → across g (port x i) ≡ o → copy_port (fresh e) g ids o ≡ some p
          → Known e fr ids p.node × (across g (port (origin e fr ids (fresh e k)) i) ≡ some (moved (origin e fr ids) p))
      go x q i p s none h r = absurd (let z : ◌≡◌ {A = ℕ} 0 1 = cc in omega arith)
      go x q i p s (some q₀) h r =
          let h' : across g (port (get_or ids k 0) i) ≡ some q₀ = ap (λ (j : ℕ). across g (port j i)) s ∙ h in
          let p₀ = port (fresh e (place (eqb q₀.node) ids)) q₀.index in
          let c = copied_wire (fresh e) g well fr m ids nodes into k i p₀ l (wire_copied (fresh e) g well fr m ids nodes into k i q₀ l h') in
          let u : c.q₀ ≡ q₀ = some-injective c.q₀ q₀ (sym c.wire ∙ h') in
          let lp : place (eqb q₀.node) ids < length ids = subst (λ (b : Port). place (eqb b.node) ids < length ids) u c.place₀ in
          let tp : get_or ids (place (eqb q₀.node) ids) 0 ≡ q₀.node = subst (λ (b : Port). get_or ids (place (eqb b.node) ids) 0 ≡ b.node) u c.there in
          let v : p₀ ≡ p = some-injective p₀ p r in
          subst (λ (b : Port). Known e fr ids b.node × (across g (port (φ (fresh e k)) i) ≡ some (moved φ b))) v (
            inr (place (eqb q₀.node) ids, lp, refl),
            ap (λ (j : ℕ). across g (port j i)) q ∙ h ∙ ap (λ (j : ℕ). some (port j q₀.index)) (sym (origin_new e fr ids (place (eqb q₀.node) ids) lp ∙ tp)),
          )

  joins_okay : (ps qs : List Port) → AllOkay e n (origin e fr ids) (Known e fr ids) (zip_with Join ps qs)
  joins_okay [] qs = tt
  joins_okay (p ∷ ps) [] = tt
  joins_okay (p ∷ ps) (q ∷ qs) = (tt, joins_okay ps qs)

  -- the copies from the k-th on
  copies_okay : (into : ℕ) (xs : List ℕ) (k : ℕ) (rest : List Edit) → ((i : ℕ) → i < length xs → (k + i < length ids) × (get_or xs i 0 ≡ get_or ids (k + i) 0)) → AllOkay e n (origin e fr ids) (Known e fr ids) rest
      → AllOkay e n (origin e fr ids) (Known e fr ids) (zip_with (λ k n. Copy (fresh e k) (record { net = into; name = name_of g n; ports = map (copy_port (fresh e) g ids) (at g n).ports })) (from k (length xs)) xs ++ rest)
  copies_okay into [] k rest h o = o
  copies_okay into (x ∷ xs) k rest h o =
      let a = h 0 (omega arith) in
      let z : k + 0 ≡ k = omega arith in
      let l : k < length ids = let b = a.0 in omega arith in
      let q : get_or ids k 0 ≡ x = ap (λ (j : ℕ). get_or ids j 0) (sym z) ∙ sym a.1 in (
        subst (λ (j : ℕ). Okay e n (origin e fr ids) (Known e fr ids) (Copy (fresh e k) (record { net = into; name = name_of g j; ports = map (copy_port (fresh e) g ids) (at g j).ports }))) q (copy_okay into k l),
        copies_okay into xs (suc k) rest (λ i u. let b = h (suc i) (omega arith) in let c = b.0 in (omega arith, b.1 ∙ ap (λ (j : ℕ). get_or ids j 0) (let w : k + suc i ≡ suc k + i = omega arith in w))) o,
      )

  pub graft_okay : (free : ℕ) → AllOkay e n (origin e fr ids) (Known e fr ids) (graft_script (fresh e) g ids free n).edits
  unfolding graft_script copies
  graft_okay free =
      let f = fresh e (place (eqb free) ids) in
      copies_okay (at g n).net ids 0 (Join (port f 0) (port f 1) ∷ zip_with Join (map (port f) (drop 2 (up_to (arity g free)))) (ports g n))
      (λ i l. (omega arith, ap (λ (j : ℕ). get_or ids j 0) (let w : i ≡ 0 + i = omega arith in w))) (tt, joins_okay (map (port f) (drop 2 (up_to (arity g free)))) (ports g n))
