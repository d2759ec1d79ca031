-- The load leaves good books.
use Prim.Native.Nat.{ℕ, zero, suc, ◌+◌, ◌≤◌, ◌<◌}
use Rattle.std.specs.Prelude.{◌≡◌, ◌⊎◌, Bool, true, ◌&&◌, replicate, eqb}
use Rattle.std.proofs.Math.Path.{refl}
use Rattle.std.proofs.Common.{sym, ap, ◌∙◌, subst, inl, inr, not-suc-le-zero}
use Rattle.std.proofs.Math.Decide.{dec_lt}
use native.Mathlib.Omega.{arith}
use Rattle.std.proofs.Math.Bool.{false}
use Rattle.std.proofs.lemmas.Bool.{false≢true}
use Rattle.std.proofs.Math.Option.{Option, none, some}
use mathlib.Core.List.Memᴰ
use mathlib.Core.List.{List, [], ◌∷◌, ◌++◌, map, Memᴰ}
use Rattle.std.proofs.Math.ListN.{length, get_or, length-append, get_or-append}
use Rattle.std.proofs.lemmas.List.{length-replicate, length-map}
use Rattle.std.proofs.Math.Seq.{get_or-append_seam}
use borrow.Author.Tests.{ne_eqb}
use Rattle.net_file.specs.Lists.{count, sum}
use Rattle.net_file.specs.Values.{FlatNet, File}
use Rattle.definitions.specs.Lists.{is_some, from}
use Rattle.definitions.specs.Nets.{Home}
use Rattle.definitions.specs.State.{Pools, Net, Wait, Engine, graph_of, with_nets, net_at, new_net, waits, entries}
use Rattle.definitions.specs.Load.{empty}
use Rattle.dirty_laws.specs.Tests.{bit_most}
use Rattle.dirty_laws.specs.Tally.{tally_none}
use Rattle.dirty_laws.specs.Listed.{Listed, listed_new}
use Rattle.good_laws.specs.Owners.{owner, owners, is_of}
use Rattle.good_laws.specs.Good.{Once, Good, live_in, made_by, waits_of, dirty_of, rest}

-- ---- nothing loaded

none_owner : (N n : ℕ) → get_or (owners (replicate N none)) n none ≡ none
none_owner zero n = refl
none_owner (suc N) zero = refl
none_owner (suc N) (suc n) = none_owner N n

no_mark : (N n : ℕ) → get_or (replicate N false) n false ≡ false
no_mark zero n = refl
no_mark (suc N) zero = refl
no_mark (suc N) (suc n) = no_mark N n

none_filled : (N : ℕ) → count is_some (owners (replicate N none)) ≡ 0
none_filled zero = refl
none_filled (suc N) = let h = none_filled N in omega arith

from_length : (k n : ℕ) → length (from k n) ≡ n
from_length k zero = refl
from_length k (suc n) = ap suc (from_length (suc k) n)

from_range : (k n m : ℕ) → Memᴰ m (from k n) → (k ≤ m) × (m < k + n)
from_range k zero m h = absurd (Memᴰ.not-nil h)
from_range k (suc n) m h = go (Memᴰ.cases_cons h) (λ t. from_range (suc k) n m t)
  where
    go : (m ≡ k) ⊎ Memᴰ m (from (suc k) n) → (Memᴰ m (from (suc k) n) → (suc k ≤ m) × (m < suc k + n)) → (k ≤ m) × (m < k + suc n)
    go (inl q) f = (omega arith, omega arith)
    go (inr t) f = let r = f t in let a = r.0 in let b = r.1 in (omega arith, omega arith)

from_once : (k n : ℕ) → Once (from k n)
from_once k zero = tt
from_once k (suc n) = (λ m. let r = from_range (suc k) n k m in let a = r.0 in omega arith, from_once (suc k) n)

pub empty_good : (p : Pools) (f : File FlatNet) → Good rest (empty p f)
unfolding empty waits entries
empty_good p f =
    let N = p.nodes in
    record {
      slotted = record {
        slots = length-map (replicate N none) owner ∙ length-replicate N none;
        sized = length-replicate N false;
        marked = λ n h. absurd (false≢true (sym (no_mark N n) ∙ h));
        owned = λ n k h. let q : ◌≡◌ {A = Option ℕ} none (some k) = sym (none_owner N n) ∙ h in absurd (let z : ◌≡◌ {A = ℕ} 0 1 = cc in omega arith);
        vacant = λ n m. (let r = from_range 0 N n m in let l = r.1 in omega arith, none_owner N n);
        once = from_once 0 N;
        all = let a = from_length 0 N in let b = none_filled N in omega arith;
      };
      dirty = listed_new N (λ n. get_or (replicate N false) n false) (no_mark N);
      lists = λ k l. absurd (not-suc-le-zero l);
      pending = λ k l. absurd (not-suc-le-zero l);
      waiting = omega arith;
      entered = omega arith;
      stepped = omega arith;
    }

-- ---- one net more, with nothing in it

made_most : (j : ℕ) (ws : List Wait) → made_by j ws ≤ length ws
made_most j [] = omega arith
made_most j (w ∷ ws) = let h = made_most j ws in let b = bit_most (eqb w.net j) in omega arith

waits_of_most : (ts : List Net) (j : ℕ) → waits_of ts j ≤ sum (map (λ t. length t.awaiting) ts)
waits_of_most [] j = omega arith
waits_of_most (t ∷ ts) j = let h = waits_of_most ts j in let m = made_most j t.awaiting in omega arith

pub sum_snoc : (φ : Net → ℕ) (ts : List Net) (t : Net) → sum (map φ (ts ++ t ∷ [])) ≡ sum (map φ ts) + φ t
sum_snoc φ [] t = omega arith
sum_snoc φ (u ∷ ts) t = let h = sum_snoc φ ts t in omega arith

module _ (e : Engine) (h : Home) where
  abbrev pub wider : Engine
  wider = with_nets (e.nets ++ new_net h ∷ []) e

  pub wider_length : length wider.nets ≡ suc (length e.nets)
  unfolding with_nets
  wider_length = length-append e.nets (new_net h ∷ []) ∙ omega arith

  pub wider_good : Good rest e → waits e ≡ 0 → Good rest wider
  unfolding with_nets waits entries net_at
  wider_good g none_yet =
      let N = e.pools.nodes in
      let M = length e.nets in
      let own = owners (graph_of e) in
      let ms = e.slots.marks in
      let s = g.slotted in
      let m : length (e.nets ++ new_net h ∷ []) ≡ suc M = length-append e.nets (new_net h ∷ []) ∙ omega arith in
      record {
        slotted = record { slots = s.slots; sized = s.sized; marked = s.marked; owned = λ n k o. let l = s.owned n k o in omega arith; vacant = s.vacant; once = s.once; all = s.all };
        dirty = g.dirty;
        lists = λ k l. listed k (dec_lt k M) (omega arith);
        pending = λ k l. counted k (dec_lt k M) (omega arith);
        waiting = let v = g.waiting in let q = sum_snoc (λ t. length t.awaiting) e.nets (new_net h) in omega arith;
        entered = let v = g.entered in let q = sum_snoc (λ t. length t.list.items) e.nets (new_net h) in omega arith;
        stepped = g.stepped;
      }
    where
      -- no node is the new net's
      new_owner : (n : ℕ) → live_in (owners (graph_of e)) (length e.nets) n ≡ false
      new_owner n = go (get_or (owners (graph_of e)) n none) refl
        where
          go : (o : Option ℕ) → get_or (owners (graph_of e)) n none ≡ o → is_of (length e.nets) o ≡ false
          go none q = refl
          go (some j) q = ne_eqb j (length e.nets) (λ r. let l = g.slotted.owned n j q in omega arith)

      listed : (k : ℕ) → Dec (k < length e.nets) → k < suc (length e.nets)
          → Listed e.pools.nodes (live_in (owners (graph_of e)) k) (get_or (e.nets ++ new_net h ∷ []) k (new_net (record { name = 0; free = 0 }))).list
      listed k (yes l) l' =
          subst (λ (t : Net). Listed e.pools.nodes (live_in (owners (graph_of e)) k) t.list) (sym (get_or-append e.nets (new_net h ∷ []) (new_net (record { name = 0; free = 0 })) k l)) (g.lists k l)
      listed k (no d) l' =
          let q : k ≡ length e.nets = omega arith in
          subst (λ (i : ℕ). Listed e.pools.nodes (live_in (owners (graph_of e)) i) (get_or (e.nets ++ new_net h ∷ []) i (new_net (record { name = 0; free = 0 }))).list) (sym q)
          (subst (λ (t : Net). Listed e.pools.nodes (live_in (owners (graph_of e)) (length e.nets)) t.list) (sym (get_or-append_seam e.nets (new_net h) [] (new_net (record { name = 0; free = 0 }))))
          (listed_new e.pools.nodes (live_in (owners (graph_of e)) (length e.nets)) new_owner))

      counted : (k : ℕ) → Dec (k < length e.nets) → k < suc (length e.nets)
          → (get_or (e.nets ++ new_net h ∷ []) k (new_net (record { name = 0; free = 0 }))).pending
          ≡ dirty_of e.pools.nodes (owners (graph_of e)) e.slots.marks k + waits_of (e.nets ++ new_net h ∷ []) k + 0
      counted k (yes l) l' =
          let p = g.pending k l in
          let q = sum_snoc (λ t. made_by k t.awaiting) e.nets (new_net h) in
          let r : (get_or (e.nets ++ new_net h ∷ []) k (new_net (record { name = 0; free = 0 }))).pending ≡ (get_or e.nets k (new_net (record { name = 0; free = 0 }))).pending =
          ap (λ (t : Net). t.pending) (get_or-append e.nets (new_net h ∷ []) (new_net (record { name = 0; free = 0 })) k l) in
          omega arith
      counted k (no d) l' =
          let q : k ≡ length e.nets = omega arith in
          let r : (get_or (e.nets ++ new_net h ∷ []) k (new_net (record { name = 0; free = 0 }))).pending ≡ 0 =
          ap (λ (i : ℕ). (get_or (e.nets ++ new_net h ∷ []) i (new_net (record { name = 0; free = 0 }))).pending) q
          ∙ ap (λ (t : Net). t.pending) (get_or-append_seam e.nets (new_net h) [] (new_net (record { name = 0; free = 0 }))) in
          let u = sum_snoc (λ t. made_by k t.awaiting) e.nets (new_net h) in
          let w = waits_of_most e.nets k in
          let v = tally_none (λ n. get_or e.slots.marks n false && is_of k (get_or (owners (graph_of e)) n none)) e.pools.nodes
          (λ n l. clean n (get_or e.slots.marks n false) (ap (λ (i : ℕ). live_in (owners (graph_of e)) i n) q ∙ new_owner n)) in
          omega arith
        where
          clean : (n : ℕ) (t : Bool) → is_of k (get_or (owners (graph_of e)) n none) ≡ false → (t && is_of k (get_or (owners (graph_of e)) n none)) ≡ false
          clean n true q = q
          clean n false q = refl
