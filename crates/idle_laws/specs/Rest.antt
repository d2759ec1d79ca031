-- At rest nothing is dirty, so no rule can act but a graft whose node waits; and the net that it waits on has an unanswered wait.
use Rattle.std.specs.Prelude.{ℕ, zero, suc, ◌+◌, ◌<◌, ◌≤◌, ◌≡◌, Bool, ◌&&◌, length, eqb}
use Rattle.std.proofs.Math.Path.{refl, ap}
use Rattle.std.proofs.Common.{subst, arith, eqb-true}
use Rattle.std.proofs.Math.Bool.{true, false}
use Rattle.std.proofs.Math.Option.{Option, none, some}
use mathlib.Core.List.Memᴰ
use mathlib.Core.List.{List, [], ◌∷◌, map, Memᴰ}
use Rattle.std.proofs.Math.ListN.{get_or}
use Rattle.std.proofs.lemmas.List.{length-map}
use Rattle.net_file.specs.Lists.{bit}
use Rattle.definitions.specs.Lists.{nth}
use Rattle.definitions.specs.Nets.{Home}
use Rattle.definitions.specs.Scripts.{Script}
use Rattle.definitions.specs.Step.{Acts, interacts, reduces, grafts, CanAct}
use Rattle.definitions.specs.State.{Net, Wait, Engine, graph_of, homes, new_net, net_at}
use Rattle.definitions.specs.Books.{is_dirty}
use Rattle.dirty_laws.specs.Tally.{tally_none}
use Rattle.good_laws.specs.Owners.{owners, is_of}
use Rattle.good_laws.specs.Good.{Good, rest, made_by, waits_of}
use Rattle.good_laws.specs.Idle.{Idle}
use Rattle.idle_laws.specs.Able.{eta_able}
use Rattle.idle_laws.specs.Placed.{wait_of, named, waits_on, Placed}
use Rattle.idle_laws.specs.Acted.{Nobody}
use Rattle.idle_laws.specs.Names.{Rising, nth_below, named_at}

-- net m has an unanswered wait: one that a node of net m made, on whatever net. The node may be gone
pub record Unanswered (e : Engine) (m : ℕ) : Type 0 where
  pub on : ℕ
  pub wait : Wait
  pub made : wait.net ≡ m
  pub there : Memᴰ wait (net_at e on).awaiting

-- what may still act: a graft of net m that has one
abbrev pub Excepted : Engine → Option ℕ → Type 0
Excepted e none = ⊥
Excepted e (some m) = Unanswered e m

-- ---- a counted wait is there

made_there : (m : ℕ) (ws : List Wait) → 1 ≤ made_by m ws → (w : Wait) × (w.net ≡ m) × Memᴰ w ws
made_there m [] l = absurd (omega arith)
made_there m (w ∷ ws) l = go (eqb w.net m) refl l (λ k. made_there m ws k)
  where
    go : (t : Bool) → eqb w.net m ≡ t → 1 ≤ bit t + made_by m ws → (1 ≤ made_by m ws → (v : Wait) × (v.net ≡ m) × Memᴰ v ws) → (v : Wait) × (v.net ≡ m) × Memᴰ v (w ∷ ws)
    go true q l r = (w, eqb-true w.net m q, Memᴰ.head refl)
    go false q l r = let x = r (omega arith) in (x.0, x.1, Memᴰ.tail x.2)

waits_there : (m : ℕ) (ts : List Net) → 1 ≤ waits_of ts m → (j : ℕ) × (w : Wait) × (w.net ≡ m) × Memᴰ w (get_or ts j (new_net (record { name = 0; free = 0 }))).awaiting
waits_there m [] l = absurd (omega arith)
waits_there m (t ∷ ts) l = go (made_by m t.awaiting) refl (λ k. waits_there m ts k)
  where
    go : (c : ℕ) → made_by m t.awaiting ≡ c → (1 ≤ waits_of ts m → (j : ℕ) × (w : Wait) × (w.net ≡ m) × Memᴰ w (get_or ts j (new_net (record { name = 0; free = 0 }))).awaiting)
        → (j : ℕ) × (w : Wait) × (w.net ≡ m) × Memᴰ w (get_or (t ∷ ts) j (new_net (record { name = 0; free = 0 }))).awaiting
    go zero q r = let x = r (omega arith) in (suc x.0, x.1, x.2, x.3)
    go (suc c) q r = let x = made_there m t.awaiting (omega arith) in (0, x.0, x.1, x.2)

-- ---- at rest

module _ (e : Engine) (good : Good rest e) (idle : Idle e) (placed : Placed Nobody e) (rising : Rising (map (λ (h : Home). h.name) (homes e))) (empty : e.dirty.items ≡ []) where
  clean : (x : ℕ) → is_dirty e x ≡ false
  unfolding is_dirty
  clean x = go (get_or e.slots.marks x false) refl
    where
      go : (t : Bool) → get_or e.slots.marks x false ≡ t → get_or e.slots.marks x false ≡ false
      go false q = q
      go true q = absurd (Memᴰ.not-nil (subst (Memᴰ x) empty (good.dirty.there x q)))

  -- a net that a node waits on is above 0, and so has an unanswered wait
  unanswered : (m : ℕ) (w : Wait) → m < length e.nets → Memᴰ w (waits_on e m) → Unanswered e m
  unfolding net_at is_dirty
  unanswered m w l i = record { on = x.0; wait = x.1; made = x.2; there = x.3 }
    where
      none_dirty : (n : ℕ) → (get_or e.slots.marks n false && is_of m (get_or (owners (graph_of e)) n none)) ≡ false
      none_dirty n = ap (λ (t : Bool). t && is_of m (get_or (owners (graph_of e)) n none)) (clean n)

      above : (k : ℕ) → (net_at e m).pending ≡ k → 1 ≤ k
      above zero q = absurd (Memᴰ.not-nil (subst (Memᴰ w) (idle m l q) i))
      above (suc k) q = omega arith

      some_wait : 1 ≤ waits_of e.nets m
      some_wait =
          let p = good.pending m l in
          let d = tally_none (λ n. get_or e.slots.marks n false && is_of m (get_or (owners (graph_of e)) n none)) e.pools.nodes (λ n _. none_dirty n) in
          let a = above (net_at e m).pending refl in
          omega arith

      x : (j : ℕ) × (w : Wait) × (w.net ≡ m) × Memᴰ w (get_or e.nets j (new_net (record { name = 0; free = 0 }))).awaiting
      x = waits_there m e.nets some_wait

  -- no rule can act, but for such a graft
  pub rest_excepted : (m : Option ℕ) → CanAct e.rules (homes e) (graph_of e) m → Excepted e m
  rest_excepted m (f, s, a) = go m s a
    where
      go : (m : Option ℕ) (s : Script) → Acts e.rules (homes e) (graph_of e) f m s → Excepted e m
      go m s (interacts r a b s' i j x h) = absurd (placed.meet r a b f s i j x h (clean a) (λ z. z))
      go m s (reduces cs vs ns a s' i t j h) =
          let o = eta_able f (graph_of e) a vs ns s h in
          absurd (placed.reduce cs vs ns a o.0 i t j o.1 (clean a) (λ z. z) (λ b q. (clean b, λ z. z)))
      go m s (grafts lazy a c k cs ids home i r ch at_home is d nodes fits) =
          unanswered k (wait_of (graph_of e) a) (low k home at_home) (placed.wait lazy a c k cs i r ch (subst (λ (j : ℕ). named (homes e) j ≡ some k) is (named_at (homes e) rising k home at_home)) (clean a) (λ z. z))
        where
          low : (k : ℕ) (h : Home) → nth (homes e) k ≡ some h → k < length e.nets
          low k h q = let x = (nth_below (homes e) k h (record { name = 0; free = 0 }) q).0 in let y = length-map e.nets (λ (t : Net). t.home) in omega arith
