-- A node placed in the slot that is next in the chain keeps the books.
use Rattle.std.specs.Prelude.{ℕ, ◌+◌, ◌<◌, ◌≡◌, refl, ◌≢◌, Bool, true, false, ◌&&◌}
use Rattle.std.proofs.Common.{sym, ◌∙◌, arith, length-set, length-append, get_or-set_same, get_or-set_other, ne_eqb}
use Rattle.std.proofs.Math.Path.{ap, subst}
use Rattle.std.proofs.Math.Decide.{ℕ_discrete}
use Rattle.std.proofs.lemmas.Bool.{false≢true}
use Rattle.std.proofs.Math.Option.{Option, none, some}
use mathlib.Core.List.{List, [], ◌∷◌, Memᴰ}
use Rattle.std.proofs.Math.ListN.{length, get_or, set, drop, length-map}
use Rattle.net_file.specs.Lists.{bit, sum}
use Rattle.definitions.specs.Lists.{is_some}
use Rattle.definitions.specs.Nets.{Node}
use Rattle.definitions.specs.Scripts.{fill}
use Rattle.definitions.specs.State.{Net, Engine, graph_of, with_slots, with_nets, with_list, net_at, over_net, waits, entries}
use Rattle.definitions.specs.Books.{push, placed}
use Rattle.dirty_laws.specs.Tests.{eqb_self}
use Rattle.dirty_laws.specs.Tally.{tally_same}
use Rattle.dirty_laws.specs.Listed.{Listed, Turns, listed_push, listed_same}
use Rattle.good_laws.specs.Owners.{owner, owners, is_of, fill_owners, count_set}
use Rattle.good_laws.specs.Nets.{over_length, over_part, part_at, over_same, over_other, sum_over}
use Rattle.good_laws.specs.Good.{Slotted, live_in, dirty_of, made_by, waits_of, Good}

-- ---- the slots

module _ (N M : ℕ) (own : List (Option ℕ)) (ms : List Bool) (n : ℕ) (ch : List ℕ) (s : Slotted N M own ms (n ∷ ch)) (k : ℕ) (below : k < M) where
  -- the slot next in the chain is vacant, and has no mark
  free : get_or own n none ≡ none
  free = (s.vacant n (Memᴰ.head refl)).1

  pub place_low : n < N
  place_low = (s.vacant n (Memᴰ.head refl)).0

  pub place_clean : get_or ms n false ≡ false
  place_clean = go (get_or ms n false) refl
    where
      go : (t : Bool) → get_or ms n false ≡ t → get_or ms n false ≡ false
      go true h = absurd (false≢true (sym (ap is_some free) ∙ s.marked n h))
      go false h = h

  -- a mark cleared there was none
  pub place_marks : (i : ℕ) → get_or ms i false ≡ get_or (set ms n false) i false
  place_marks i = go (ℕ_discrete i n)
    where
      go : Dec (i ≡ n) → get_or ms i false ≡ get_or (set ms n false) i false
      go (yes q) =
          let z = s.sized in
          let l = place_low in
          ap (λ (m : ℕ). get_or ms m false) q ∙ place_clean ∙ sym (get_or-set_same ms n false false (omega arith)) ∙ ap (λ (m : ℕ). get_or (set ms n false) m false) (sym q)
      go (no d) = sym (get_or-set_other ms n i false false d)

  pub placed_slots : Slotted N M (set own n (some k)) (set ms n false) ch
  placed_slots =
      let a = length-set own n (some k) in
      let b = length-set ms n false in
      let za = s.slots in
      let zb = s.sized in
      let l = place_low in
      let c = count_set is_some own n (some k) none (omega arith) in
      let u : bit (is_some (get_or own n none)) ≡ 0 = ap (λ (o : Option ℕ). bit (is_some o)) free in
      let f = s.all in
      record {
        slots = omega arith;
        sized = omega arith;
        marked = λ i h. filled' i (place_marks i ∙ h) (ℕ_discrete i n);
        owned = λ i j h. owned' i j h (ℕ_discrete i n);
        vacant = λ i m. ((s.vacant i (Memᴰ.tail m)).0, vacant' i m);
        once = s.once.1;
        all = omega arith;
      }
    where
      here : get_or (set own n (some k)) n none ≡ some k
      here = let z = s.slots in let l = place_low in get_or-set_same own n (some k) none (omega arith)

      filled' : (i : ℕ) → get_or ms i false ≡ true → Dec (i ≡ n) → is_some (get_or (set own n (some k)) i none) ≡ true
      filled' i h (yes q) = ap (λ (m : ℕ). is_some (get_or (set own n (some k)) m none)) q ∙ ap is_some here
      filled' i h (no d) = ap is_some (get_or-set_other own n i (some k) none d) ∙ s.marked i h

      owned' : (i j : ℕ) → get_or (set own n (some k)) i none ≡ some j → Dec (i ≡ n) → j < M
      owned' i j h (yes q) =
          let e : ◌≡◌ {A = Option ℕ} (some k) (some j) = sym here ∙ ap (λ (m : ℕ). get_or (set own n (some k)) m none) (sym q) ∙ h in
          let r : k ≡ j = cc in
          omega arith
      owned' i j h (no d) = s.owned i j (sym (get_or-set_other own n i (some k) none d) ∙ h)

      vacant' : (i : ℕ) → Memᴰ i ch → get_or (set own n (some k)) i none ≡ none
      vacant' i m =
          get_or-set_other own n i (some k) none (λ q. s.once.0 (subst (λ (j : ℕ). Memᴰ j ch) q m))
          ∙ (s.vacant i (Memᴰ.tail m)).1

  -- it is live in net k's list now, and in no other
  pub placed_turns : Turns (live_in own k) (live_in (set own n (some k)) k) n true
  placed_turns =
      let z = s.slots in
      let l = place_low in
      record {
        now = ap (is_of k) (get_or-set_same own n (some k) none (omega arith)) ∙ eqb_self k;
        others = λ i d. ap (is_of k) (get_or-set_other own n i (some k) none d);
      }

  pub placed_others : (j : ℕ) → j ≢ k → (i : ℕ) → live_in own j i ≡ live_in (set own n (some k)) j i
  placed_others j d i = go (ℕ_discrete i n)
    where
      go : Dec (i ≡ n) → live_in own j i ≡ live_in (set own n (some k)) j i
      go (yes q) =
          let z = s.slots in
          let l = place_low in
          ap (λ (m : ℕ). live_in own j m) q ∙ ap (is_of j) free ∙ sym (ne_eqb k j (λ r. d (sym r)))
          ∙ sym (ap (is_of j) (get_or-set_same own n (some k) none (omega arith))) ∙ ap (λ (m : ℕ). live_in (set own n (some k)) j m) (sym q)
      go (no c) = sym (ap (is_of j) (get_or-set_other own n i (some k) none c))

  pub placed_dirty : (j : ℕ) → dirty_of N own ms j ≡ dirty_of N (set own n (some k)) (set ms n false) j
  placed_dirty j = tally_same (λ i. get_or ms i false && is_of j (get_or own i none)) (λ i. get_or (set ms n false) i false && is_of j (get_or (set own n (some k)) i none)) N
      (λ i l. go i (ℕ_discrete i n))
    where
      go : (i : ℕ) → Dec (i ≡ n) → (get_or ms i false && is_of j (get_or own i none)) ≡ (get_or (set ms n false) i false && is_of j (get_or (set own n (some k)) i none))
      go i (yes q) =
          let c : get_or ms i false ≡ false = ap (λ (m : ℕ). get_or ms m false) q ∙ place_clean in
          ap (λ (b : Bool). b && is_of j (get_or own i none)) c
          ∙ sym (ap (λ (b : Bool). b && is_of j (get_or (set own n (some k)) i none)) (sym (place_marks i) ∙ c))
      go i (no d) =
          ap (λ (b : Bool). b && is_of j (get_or own i none)) (place_marks i)
          ∙ ap (λ (o : Option ℕ). get_or (set ms n false) i false && is_of j o) (sym (get_or-set_other own n i (some k) none d))

-- ---- the engine

-- one entry more
placed_entries : (n k : ℕ) (e : Engine) → k < length e.nets → entries (over_net (λ t. with_list (push n t.list) t) k e) ≡ entries e + 1
unfolding entries with_list push
placed_entries n k e l =
    let a = sum_over (λ t. length t.list.items) (λ t. with_list (push n t.list) t) k e l in
    let b = length-append (net_at e k).list.items (n ∷ []) in
    omega arith

module _ (x : ℕ → ℕ) (n : ℕ) (y : Node) (e : Engine) (ch : List ℕ) (next : e.slots.chain ≡ n ∷ ch) (below : y.net < length e.nets) where
  pub placed_good : entries e < e.pools.entries → Good x e → Good x (placed false n y e)
  unfolding placed over_net with_nets with_slots with_list waits entries net_at
  placed_good room g =
      let N = e.pools.nodes in
      let M = length e.nets in
      let own = owners (graph_of e) in
      let ms = e.slots.marks in
      let k = y.net in
      let s : Slotted N M own ms (n ∷ ch) = subst (Slotted N M own ms) next g.slotted in
      let low = place_low N M own ms n ch s k below in
      let lm : length (owners (graph_of e)) ≡ length (graph_of e) = length-map (graph_of e) owner in
      let z = s.slots in
      let q : owners (fill (graph_of e) n y) ≡ set own n (some k) = fill_owners (graph_of e) n y (omega arith) in
      let f : Net → Net = λ t. with_list (push n t.list) t in
      let e₁ : Engine = with_slots (record { graph = fill (graph_of e) n y; marks = set ms n false; chain = drop 1 e.slots.chain }) e in
      let e' = over_net f k e₁ in
      let m = over_length f k e in
      let chain' : drop 1 e.slots.chain ≡ ch = ap (drop 1) next in
      record {
        slotted = rw (q, chain', m) (placed_slots N M own ms n ch s k below);
        dirty = listed_same N (λ i. get_or ms i false) (λ i. get_or (set ms n false) i false) e.dirty g.dirty (place_marks N M own ms n ch s k below);
        lists = λ j l. rw q (listed' s j (ℕ_discrete j k) (subst (λ (c : ℕ). j < c) m l));
        pending = λ j l.
            let p = g.pending j (subst (λ (c : ℕ). j < c) m l) in
            let d = placed_dirty N M own ms n ch s k below j in
            let a = part_at (λ t. t.pending) e e' (over_part (λ t. t.pending) f k e (λ t. refl)) j in
            let w : waits_of e'.nets j ≡ waits_of e.nets j = ap sum (over_part (λ t. made_by j t.awaiting) f k e (λ t. refl)) in
            rw q (omega arith);
        waiting = let v = g.waiting in let w : waits e' ≡ waits e = ap sum (over_part (λ t. length t.awaiting) f k e (λ t. refl)) in omega arith;
        entered = let w = placed_entries n k e below in omega arith;
        stepped = g.stepped;
      }
    where
      listed' : Slotted e.pools.nodes (length e.nets) (owners (graph_of e)) e.slots.marks (n ∷ ch)
          → (j : ℕ) → Dec (j ≡ y.net) → j < length e.nets
          → Listed e.pools.nodes (live_in (set (owners (graph_of e)) n (some y.net)) j) (net_at (over_net (λ t. with_list (push n t.list) t) y.net e) j).list
      listed' s j (yes r) l =
          let N = e.pools.nodes in
          let own = owners (graph_of e) in
          let ms = e.slots.marks in
          let k = y.net in
          subst (λ (i : ℕ). Listed N (live_in (set own n (some k)) i) (net_at (over_net (λ t. with_list (push n t.list) t) k e) i).list) (sym r)
          (subst (λ (t : Net). Listed N (live_in (set own n (some k)) k) t.list) (sym (over_same (λ t. with_list (push n t.list) t) k e below))
          (listed_push N (live_in own k) (live_in (set own n (some k)) k) (net_at e k).list n (g.lists k below) (place_low N (length e.nets) own ms n ch s k below)
          (ap (is_of k) (s.vacant n (Memᴰ.head refl)).1) (placed_turns N (length e.nets) own ms n ch s k below)))
      listed' s j (no d) l =
          let N = e.pools.nodes in
          let own = owners (graph_of e) in
          let ms = e.slots.marks in
          let k = y.net in
          subst (λ (t : Net). Listed N (live_in (set own n (some k)) j) t.list) (sym (over_other (λ t. with_list (push n t.list) t) k e j d))
          (listed_same N (live_in own j) (live_in (set own n (some k)) j) (net_at e j).list (g.lists j l) (placed_others N (length e.nets) own ms n ch s k below j d))
