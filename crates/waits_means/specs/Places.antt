-- Places of the waits' pool: one is taken, or 0 where all waits together are W; one is given back.
use Prim.Native.Nat.{ℕ, suc, ◌+◌, ◌*◌, ◌<◌, ◌≤◌}
use Rattle.std.proofs.Math.Path.{◌≡◌, refl, ap, subst}
use Rattle.std.proofs.Common.{sym, ◌∙◌}
use Rattle.std.specs.Prelude.{◌≢◌}
use mathlib.Core.List.{List, [], ◌∷◌}
use Rattle.std.proofs.Math.ListN.{length, get_or, set, length-set}
use Rattle.std.proofs.Math.Seq.{get_or-set_same, get_or-set_other}
use native.Mathlib.Omega.{arith}
use Rattle.words.specs.Choose.{eq_yes, eq_no, lt_yes, lt_no}
use Rattle.words.specs.Left.{Left}
use Rattle.layout.specs.Layout.{next, node_pool, entry_pool, wait_at, wait_word}
use Rattle.pools.specs.Pools.{take_fresh, take, take_wait, give_wait}
use Rattle.net_file.specs.Values.{Name}
use Rattle.definitions.specs.State.{Engine, waits}
use Rattle.chains.specs.Seg.{Chain}
use Rattle.chains.specs.Pools.{Pool}
use Rattle.chains.specs.Moves.{Loose, Newer, Fewer, take_new, take_old}
use Rattle.hands.specs.Hand.{held_loose, held_done}
use Rattle.hands.specs.Grasp.{Given, given}
use Rattle.means.specs.Means.{waits_in, awaiting_of, Means}
use Rattle.means.specs.Frame.{HeadWords, Rest, rest_set, rest_trans, OutWaits, header_keep, nodes_keep, marks_keep, vacant_keep, dirty_keep, nets_keep, lists_keep}

-- the place of word f of wait c
abbrev pub place : ℕ → ℕ → ℕ → ℕ → ℕ
place N E c f = 5213 + 32 * N + 2 * E + 3 * c + f

-- other places for the waits, with the same lists
pub means_waits : (Named : ℕ → Name → Type 0) (ws w : List ℕ) (e : Engine) (m : Means Named ws e) → Rest (OutWaits e.pools.nodes e.pools.entries) ws w
    → get_or w 13 0 ≤ e.pools.waits → Pool (waits_in w e.pools.nodes e.pools.entries) (length e.nets) (awaiting_of e.nets) (waits e) → Means Named w e
means_waits Named ws w e m r u a = record {
  header = header_keep ws w r.long (λ i p. r.same i (omega arith)) m.header;
  used = let b = r.same 11 (omega arith) in let c = m.used.entries in omega arith;
  nodes = nodes_keep ws w (λ i p. r.same i (omega arith)) m.nodes;
  marks = marks_keep ws w (λ i p. r.same i (omega arith)) m.marks;
  vacant = vacant_keep ws w m.header.few_nodes (λ i p. r.same i (omega arith)) (λ i p. r.same i (omega arith)) m.vacant;
  dirty = dirty_keep ws w (λ i p. r.same i (omega arith)) (λ i p. r.same i (omega arith)) m.dirty;
  nets = nets_keep Named ws w e m (λ k h i p. let b = m.header.few_nets in r.same i (omega arith));
  lists = lists_keep Named ws w e m (λ i p. r.same i (omega arith)) (λ i p. r.same i (omega arith)) (λ i p. r.same i (omega arith));
  waits_are = a;
}

-- ---- a place is taken

-- w is ws without the free wait c: two header words are written
pub record Taken (ws w : List ℕ) (e : Engine) (c : ℕ) : Type 0 where
  pub rest : Rest (λ i. HeadWords 12 2 i → ⊥) ws w
  pub loose : Loose (waits_in w e.pools.nodes e.pools.entries) (length e.nets) (awaiting_of e.nets) (waits e) c
  pub used : get_or w 13 0 ≤ e.pools.waits

module _ (Named : ℕ → Name → Type 0) (ws : List ℕ) (e : Engine) (m : Means Named ws e) where
  -- one never taken
  wait_new : m.waits_are.freed ≡ [] → get_or ws 12 0 ≡ 0 → get_or ws 13 0 < e.pools.waits → Taken ws (take_wait ws).ws e (take_wait ws).is
  unfolding take_wait take take_fresh
  wait_new f z h =
      let u = get_or ws 13 0 in
      let w = set ws 13 (next u) in
      let ee = m.header.waits in
      let long = m.header.long in
      let few = m.header.few_waits in
      let nets = m.header.few_nets in
      let en : next u ≡ u + 1 = omega arith in
      let taken : ◌≡◌ {A = Left ℕ} (record { is = next u; ws = w }) (take_wait ws) = eq_yes _ _ _ _ z (lt_yes _ _ _ _ (omega arith) refl) in
      let is13 : get_or w 13 0 ≡ u + 1 = get_or-set_same ws 13 (next u) 0 (omega arith) ∙ en in
      let newer : Newer (waits_in ws e.pools.nodes e.pools.entries) (waits_in w e.pools.nodes e.pools.entries) (length e.nets) = record {
        used = is13;
        first = get_or-set_other ws 13 12 (next u) 0 (omega arith);
        head = λ t i. get_or-set_other ws 13 _ (next u) 0 (omega arith);
        tail = λ t i. get_or-set_other ws 13 _ (next u) 0 (omega arith);
        node = λ c i k. (get_or-set_other ws 13 (place e.pools.nodes e.pools.entries c 0) (next u) 0 (omega arith) k, get_or-set_other ws 13 (place e.pools.nodes e.pools.entries c 1) (next u) 0 (omega arith) k);
        after = λ c i. get_or-set_other ws 13 _ (next u) 0 (omega arith);
      } in
      let l : Loose (waits_in w e.pools.nodes e.pools.entries) (length e.nets) (awaiting_of e.nets) (waits e) (u + 1) = take_new m.waits_are nets f newer in
      subst (λ (y : Left ℕ). Taken ws y.ws e y.is) taken (record {
        rest = rest_set _ ws 13 (next u) (λ i o d. o (omega arith));
        loose = subst (λ (c : ℕ). Loose (waits_in w e.pools.nodes e.pools.entries) (length e.nets) (awaiting_of e.nets) (waits e) c) (sym en) l;
        used = omega arith;
      })

  -- a freed one
  wait_old : (c : ℕ) (f : List ℕ) → m.waits_are.freed ≡ c ∷ f → get_or ws 12 0 ≡ c → 0 < c → Taken ws (take_wait ws).ws e (take_wait ws).is
  unfolding take_wait take
  wait_old c f i z pos =
      let v = wait_word ws (get_or ws 12 0) 2 in
      let w = set ws 12 v in
      let long = m.header.long in
      let nets = m.header.few_nets in
      let b = m.used.waits in
      let taken : ◌≡◌ {A = Left ℕ} (record { is = get_or ws 12 0; ws = w }) (take_wait ws) = eq_no _ _ _ _ (omega arith) refl in
      let is13 : get_or w 13 0 ≡ get_or ws 13 0 = get_or-set_other ws 12 13 v 0 (omega arith) in
      let ev : v ≡ get_or ws (place e.pools.nodes e.pools.entries c 2) 0 = rw (z, m.header.nodes, m.header.entries) refl in
      let fewer : Fewer (waits_in ws e.pools.nodes e.pools.entries) (waits_in w e.pools.nodes e.pools.entries) (length e.nets) c = record {
        used = is13;
        first = get_or-set_same ws 12 v 0 (omega arith) ∙ ev;
        head = λ t j. get_or-set_other ws 12 _ v 0 (omega arith);
        tail = λ t j. get_or-set_other ws 12 _ v 0 (omega arith);
        node = λ d j k. (get_or-set_other ws 12 (place e.pools.nodes e.pools.entries d 0) v 0 (omega arith) k, get_or-set_other ws 12 (place e.pools.nodes e.pools.entries d 1) v 0 (omega arith) k);
        after = λ d j. get_or-set_other ws 12 _ v 0 (omega arith);
      } in
      let l : Loose (waits_in w e.pools.nodes e.pools.entries) (length e.nets) (awaiting_of e.nets) (waits e) c = take_old m.waits_are nets c f i fewer in
      subst (λ (y : Left ℕ). Taken ws y.ws e y.is) taken (record {
        rest = rest_set _ ws 12 v (λ j o d. o (omega arith));
        loose = subst (λ (d : ℕ). Loose (waits_in w e.pools.nodes e.pools.entries) (length e.nets) (awaiting_of e.nets) (waits e) d) (sym z) l;
        used = omega arith;
      })

  -- while all waits together are less than W
  pub take_wait_means : waits e < e.pools.waits → Taken ws (take_wait ws).ws e (take_wait ws).is
  take_wait_means h = go m.waits_are.freed refl
    where
      go : (f : List ℕ) → m.waits_are.freed ≡ f → Taken ws (take_wait ws).ws e (take_wait ws).is
      go [] i =
          let a : length m.waits_are.freed + waits e ≡ get_or ws 13 0 = m.waits_are.all in
          let z : length m.waits_are.freed ≡ 0 = ap (λ (l : List ℕ). length l) i in
          let fr : Chain (waits_in ws e.pools.nodes e.pools.entries).after m.waits_are.own (get_or ws 13 0 + 1) 256 (get_or ws 12 0) [] 0 = rw i at m.waits_are.free in
          wait_new i fr.seg (omega arith)
      go (c ∷ f) i =
          let fr : Chain (waits_in ws e.pools.nodes e.pools.entries).after m.waits_are.own (get_or ws 13 0 + 1) 256 (get_or ws 12 0) (c ∷ f) 0 = rw i at m.waits_are.free in
          wait_old c f i fr.seg.0 fr.mine.0.pos

  -- and 0, with nothing changed, where they are W
  pub take_wait_none : e.pools.waits ≤ waits e → ((take_wait ws).is ≡ 0) × ((take_wait ws).ws ≡ ws)
  unfolding take_wait take take_fresh
  take_wait_none h = go m.waits_are.freed refl
    where
      go : (f : List ℕ) → m.waits_are.freed ≡ f → ((take_wait ws).is ≡ 0) × ((take_wait ws).ws ≡ ws)
      go [] i =
          let a : length m.waits_are.freed + waits e ≡ get_or ws 13 0 = m.waits_are.all in
          let ee = m.header.waits in
          let fr : Chain (waits_in ws e.pools.nodes e.pools.entries).after m.waits_are.own (get_or ws 13 0 + 1) 256 (get_or ws 12 0) [] 0 = rw i at m.waits_are.free in
          let none : ◌≡◌ {A = Left ℕ} (record { is = 0; ws = ws }) (take_wait ws) = eq_yes _ _ _ _ fr.seg (lt_no _ _ _ _ (omega arith) refl) in
          (ap (λ (l : Left ℕ). l.is) (sym none), ap (λ (l : Left ℕ). l.ws) (sym none))
      go (c ∷ f) i =
          let a : length m.waits_are.freed + waits e ≡ get_or ws 13 0 = m.waits_are.all in
          let z : length m.waits_are.freed ≡ suc (length f) = ap (λ (l : List ℕ). length l) i in
          let b = m.used.waits in
          absurd (omega arith)

-- ---- and given back

module _ (ws : List ℕ) (N E W m c : ℕ) (long : 5216 + 32 * N + 2 * E + 3 * W ≤ length ws) (nodes : node_pool ws ≡ N) (entries : entry_pool ws ≡ E) (few : m ≤ 256)
    (pos : 0 < c) (fits : c ≤ W) where
  at_c : wait_at ws c 2 ≡ place N E c 2
  at_c = rw (nodes, entries) refl

  -- the words of `give-wait`
  pub give_is : Given (waits_in ws N E) (waits_in (give_wait ws c) N E) m c
  unfolding give_wait
  give_is =
      let i = place N E c 2 in
      let f = get_or ws 12 0 in
      let w1 = set ws i f in
      let l1 : length w1 ≡ length ws = length-set ws i f in
      let other : (j : ℕ) → j ≢ i → j ≢ 12 → get_or (set w1 12 c) j 0 ≡ get_or ws j 0 = λ j a b. get_or-set_other w1 12 j c 0 b ∙ get_or-set_other ws i j f 0 a in
      subst (λ (k : ℕ). Given (waits_in ws N E) (waits_in (set (set ws k f) 12 c) N E) m c) (sym at_c) (record {
        used = other 13 (omega arith) (omega arith);
        first = get_or-set_same w1 12 c 0 (omega arith);
        head = λ t h. other _ (omega arith) (omega arith);
        tail = λ t h. other _ (omega arith) (omega arith);
        node = λ d p q k. (other (place N E d 0) (omega arith) (omega arith) k, other (place N E d 1) (omega arith) (omega arith) k);
        after = get_or-set_other w1 12 i c 0 (omega arith) ∙ get_or-set_same ws i f 0 (omega arith);
        afters = λ d p q n. other _ (omega arith) (omega arith);
      })

  -- no word but the waits'
  pub give_rest : Rest (OutWaits N E) ws (give_wait ws c)
  unfolding give_wait
  give_rest =
      rest_trans (rest_set (OutWaits N E) ws (wait_at ws c 2) (get_or ws 12 0) (λ i o d. o.2 (omega arith)))
      (rest_set (OutWaits N E) (set ws (wait_at ws c 2) (get_or ws 12 0)) 12 c (λ i o d. o.0 (omega arith)))

-- a place taken and given back: the words mean the same engine
pub give_wait_means : (Named : ℕ → Name → Type 0) (ws w : List ℕ) (e : Engine) (m : Means Named ws e) (c : ℕ) → Taken ws w e c → Means Named (give_wait w c) e
give_wait_means Named ws w e m c t =
    let h = m.header in
    let long = h.long in
    let l = t.rest.long in
    let u = t.used in
    let b = t.loose.mine.below in
    let nodes : node_pool w ≡ e.pools.nodes = t.rest.same 1 (omega arith) ∙ h.nodes in
    let entries : entry_pool w ≡ e.pools.entries = t.rest.same 2 (omega arith) ∙ h.entries in
    let g = give_is w e.pools.nodes e.pools.entries e.pools.waits (length e.nets) c (omega arith) nodes entries h.few_nets t.loose.mine.pos (omega arith) in
    let r = give_rest w e.pools.nodes e.pools.entries e.pools.waits (length e.nets) c (omega arith) nodes entries h.few_nets t.loose.mine.pos (omega arith) in
    let k = g.used in
    means_waits Named ws (give_wait w c) e m (rest_trans (record { long = l; same = λ i o. t.rest.same i o.0 }) r) (omega arith)
    (held_done (given (held_loose t.loose) h.few_nets g))
