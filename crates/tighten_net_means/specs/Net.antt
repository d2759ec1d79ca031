-- `tighten_net`: the list keeps each live node's first place only, no entry is stale, and the slots' nets are as they were.
use Rattle.std.specs.Prelude.{ℕ, ◌+◌, ◌*◌, ◌-◌, ◌/◌, ◌%◌, ◌<◌, ◌≤◌, ◌≡◌, ◌⊎◌, Bool, true, false, set, eqb}
use Rattle.std.proofs.Math.Path.{refl, sym, ap, subst}
use Rattle.std.proofs.Common.{◌∙◌, inr, get_or-set_same, eqb-true, eq-eqb, ne_eqb, arith}
use Rattle.std.proofs.Math.Logic.{inl}
use Rattle.std.proofs.Math.Option.{Option, none, some}
use mathlib.Core.List.Memᴰ
use mathlib.Core.List.{List, [], ◌∷◌, map, Memᴰ}
use Rattle.std.proofs.Math.ListN.{length, get_or, length-set, length-map}
use Rattle.std.proofs.Math.Seq.{get_or-set_other, map-set_same}
use Rattle.std.proofs.lemmas.Bool.{eqb-false}
use Rattle.std.proofs.Math.Decide.{dec_lt, ℕ_discrete}
use Rattle.layout.specs.Layout.{node_pool, net_at_words, net_word_words, node_at, node_word, set_node_word, entry_word}
use Rattle.lists.specs.Lists.{sweep, restore_from, restore, tighten_net_words}
use Rattle.net_file.specs.Lists.{sum}
use Rattle.net_file.specs.Values.{Name}
use Rattle.definitions.specs.Nets.{Node, holds}
use Rattle.definitions.specs.State.{Net, Engine, graph_of, with_nets, with_list, net_at, over_net, entries, waits}
use Rattle.definitions.specs.Books.{tight, tighten_net}
use Rattle.join_laws.specs.Ports.{frame, frame_of}
use Rattle.chains.specs.Seg.{Seg, All, seg_same, put, put_same, put_other}
use Rattle.chains.specs.Pools.{Pool, pool_same, pool_lists}
use Rattle.chains.specs.Sift.{half_first}
use Rattle.means.specs.Means.{SlotIs, NetIs, no_net, entries_in, waits_in, items_of, awaiting_of, Means}
use Rattle.means.specs.Frame.{SlotWords, Rest, rest_set, rest_trans, OutNet, OutLists, entries_keep, awaits_keep, means_net, read_same}
use Rattle.lists_means.specs.Push.{sum_set}
use Rattle.tighten_means.specs.Sieve.{sieve, sieve_firsts}
use Rattle.tighten_net_means.specs.Pass.{node_in, Live, Was, Swept}
use Rattle.tighten_net_means.specs.Sweep.{swept}

-- all but the slots' nets
abbrev pub OutOwners : ℕ → ℕ → Type 0
OutOwners N i = SlotWords N 0 1 i → ⊥

-- the slots' nets are given back
pub record Restored (N : ℕ) (ws₀ ws w : List ℕ) : Type 0 where
  pub rest : Rest (OutOwners N) ws w
  pub net : (n : ℕ) → n < N → node_word w n 0 ≡ node_word ws₀ n 0

module _ (N k : ℕ) (ws₀ : List ℕ) where
  pub restored : (L ws : List ℕ) (h : ℕ) → node_pool ws ≡ N → 5216 + 32 * N ≤ length ws → ((c : ℕ) → 0 < c → node_in ws N c ≡ node_in ws₀ N c)
      → Seg (entries_in ws N).after h L 0 → ((n : ℕ) → n < N → Was ws₀ ws N k L n) → All (Live ws₀ N k) L → Restored N ws₀ ws (restore_from ws (k + 1) h (length L))
  unfolding restore_from
  restored [] ws h pool long nodes seg was live = record { rest = record { long = refl; same = λ i o. refl }; net = λ n i. go n (was n i) }
    where
      go : (n : ℕ) → Was ws₀ ws N k [] n → node_word ws n 0 ≡ node_word ws₀ n 0
      go n (inl q) = q
      go n (inr q) = absurd (Memᴰ.not-nil q.1)
  restored (c ∷ L) ws h pool long nodes seg was live =
      let n = node_in ws₀ N c in
      let i : n < N = live.0.1 in
      let pos : 0 < c = live.0.0 in
      let w = set_node_word ws n 0 (k + 1) in
      let lw : length w ≡ length ws = length-set ws (node_at n 0) (k + 1) in
      let pw : node_pool w ≡ N = get_or-set_other ws (node_at n 0) 1 (k + 1) 0 (omega arith) ∙ pool in
      let node : get_or ws (5214 + 32 * node_pool ws + 2 * h + 0) 0 ≡ n = rw (pool, seg.0) (nodes c pos) in
      let after : get_or w (5214 + 32 * node_pool w + 2 * h + 1) 0 ≡ (entries_in w N).after c = rw (pw, seg.0) refl in
      let same : (d : ℕ) → (entries_in w N).after d ≡ (entries_in ws N).after d = λ d. get_or-set_other ws (node_at n 0) _ (k + 1) 0 (omega arith) in
      let r : Restored N ws₀ w (restore_from w (k + 1) ((entries_in w N).after c) (length L)) = restored L w ((entries_in w N).after c) pw (omega arith)
      (λ d j. get_or-set_other ws (node_at n 0) _ (k + 1) 0 (omega arith) ∙ nodes d j)
      (rw (same c) (chain_on w L ((entries_in ws N).after c) same seg.1)) (λ x j. go x j (ℕ_discrete x n) (was x j)) live.1 in
      subst (λ (y : ℕ). Restored N ws₀ ws (restore_from (set_node_word ws y 0 (k + 1)) (k + 1) (entry_word (set_node_word ws y 0 (k + 1)) h 1) (length L))) (sym node)
      (subst (λ (g : ℕ). Restored N ws₀ ws (restore_from w (k + 1) g (length L))) (sym after)
      (record { rest = rest_trans (rest_set (OutOwners N) ws (node_at n 0) (k + 1) (λ j o d. o (omega arith))) r.rest; net = r.net }))
    where
      chain_on : (w : List ℕ) (l : List ℕ) (g : ℕ) → ((d : ℕ) → (entries_in w N).after d ≡ (entries_in ws N).after d) → Seg (entries_in ws N).after g l 0 → Seg (entries_in w N).after g l 0
      chain_on w l g e s = seg_same (entries_in ws N).after (entries_in w N).after g l 0 s (all_of l)
        where
          all_of : (l : List ℕ) → All (λ d. (entries_in w N).after d ≡ (entries_in ws N).after d) l
          all_of [] = tt
          all_of (d ∷ l) = (e d, all_of l)

      go : (x : ℕ) → x < N → Dec (x ≡ node_in ws₀ N c) → Was ws₀ ws N k (c ∷ L) x → Was ws₀ (set_node_word ws (node_in ws₀ N c) 0 (k + 1)) N k L x
      go x j (yes d) q = inl (rw d (get_or-set_same ws (node_at (node_in ws₀ N c) 0) (k + 1) 0 (let i = live.0.1 in omega arith) ∙ sym live.0.2))
      go x j (no d) (inl q) = inl (get_or-set_other ws (node_at (node_in ws₀ N c) 0) (node_at x 0) (k + 1) 0 (omega arith) ∙ q)
      go x j (no d) (inr q) = inr (q.0, later (Memᴰ.cases_cons q.1))
        where
          later : (x ≡ node_in ws₀ N c) ⊎ Memᴰ x (map (node_in ws₀ N) L) → Memᴰ x (map (node_in ws₀ N) L)
          later (inl s) = absurd (d s)
          later (inr s) = s

-- a slot's word says whether it holds a node of net k
holds_is : (Named : ℕ → Name → Type 0) (ws : List ℕ) (e : Engine) → Means Named ws e → (k n : ℕ) → n < e.pools.nodes → holds (graph_of e) k n ≡ eqb (node_word ws n 0) (k + 1)
unfolding holds frame
holds_is Named ws e m k n h = go (get_or (graph_of e) n none) (m.nodes.slot n h)
  where
    go : (o : Option Node) → SlotIs Named ws n (frame_of o) → elim o as (λ _. Bool) [ none ↦ false | some x ↦ eqb x.net k ] ≡ eqb (node_word ws n 0) (k + 1)
    go none s = sym (ne_eqb (node_word ws n 0) (k + 1) (omega arith))
    go (some x) s = sym (ap (λ (v : ℕ). eqb v (k + 1)) s.0 ∙ same (eqb x.net k) refl)
      where
        same : (t : Bool) → eqb x.net k ≡ t → eqb (x.net + 1) (k + 1) ≡ eqb x.net k
        same true d = eq-eqb (x.net + 1) (k + 1) (let q = eqb-true x.net k d in omega arith) ∙ sym d
        same false d = ne_eqb (x.net + 1) (k + 1) (let q = eqb-false x.net k d in omega arith) ∙ sym d

-- what holds of each entry's node
all_of : (f : ℕ → ℕ) (P : ℕ → Type 0) (l x : List ℕ) → map f l ≡ x → ((n : ℕ) → Memᴰ n x → P n) → All (λ c. P (f c)) l
all_of f P [] x e g = tt
all_of f P (c ∷ l) x e g = (g (f c) (rw (← e) (Memᴰ.head refl)), all_of f P l (map f l) refl (λ n i. g n (rw (← e) (Memᴰ.tail i))))

module _ (Named : ℕ → Name → Type 0) (ws : List ℕ) (e : Engine) (m : Means Named ws e) (k : ℕ) (here : k < length e.nets)
    (inside : (n : ℕ) → Memᴰ n (net_at e k).list.items → n < e.pools.nodes) where
  -- the list made tight
  tightened : Net → Net
  tightened t = with_list (tight (holds (graph_of e) k) t.list) t

  -- those that stay
  stay : List ℕ
  stay = sieve (holds (graph_of e) k) (items_of e.nets k)

  w1 : List ℕ
  w1 = sweep ws (k + 1)

  first : Swept e k ws w1 stay
  unfolding w1 stay sweep net_at
  first =
      let few = m.header.few_nets in
      let root = m.lists.nets k here in
      let P = m.lists.places k in
      let count : net_word_words ws (k + 1) 4 ≡ length P
      = (m.nets k here).length_is ∙ sym (ap (λ (l : List ℕ). length l) root.items) ∙ length-map P (node_in ws e.pools.nodes) in
      rw (count, ← root.items) (swept Named ws e m k here P ws (holds (graph_of e) k) [] (net_word_words ws (k + 1) 2) (record {
        rest = record { long = refl; same = λ j o. refl };
        used = refl;
        nodes = λ c i. refl;
        half = half_first few here m.lists;
        test = holds_is Named ws e m k;
        was = λ n i. inl refl;
        live = tt;
        inside = all_of (node_in ws e.pools.nodes) (λ n. n < e.pools.nodes) P (items_of e.nets k) root.items inside;
      }))

  w : List ℕ
  w = restore w1 (k + 1)

  second : Restored e.pools.nodes ws w1 w
  unfolding w restore
  second =
      let s = first in
      let long = m.header.long in
      let l1 = s.rest.long in
      rw s.length_is (restored e.pools.nodes k ws s.places w1 (net_word_words w1 (k + 1) 2) (s.rest.same 1 (omega arith) ∙ m.header.nodes) (omega arith) s.nodes s.seg s.was s.live)

  -- nothing else is written
  both : Rest (λ i. OutLists e.pools.nodes e.pools.entries i × OutNet k i) ws w
  both = record {
    long = second.rest.long ∙ first.rest.long;
    same = λ i o. go i o (dec_lt i 5184) (dec_lt i (5184 + 32 * e.pools.nodes)) (ℕ_discrete (i % 32) 0);
  }
    where
      out : (i : ℕ) → OutLists e.pools.nodes e.pools.entries i × OutNet k i → OutOwners e.pools.nodes i → get_or w i 0 ≡ get_or ws i 0
      out i o n = second.rest.same i n ∙ first.rest.same i ((n, o.0), o.1)

      go : (i : ℕ) → OutLists e.pools.nodes e.pools.entries i × OutNet k i → Dec (i < 5184) → Dec (i < 5184 + 32 * e.pools.nodes) → Dec (i % 32 ≡ 0) → get_or w i 0 ≡ get_or ws i 0
      go i o (yes a) b c = out i o (omega arith)
      go i o (no a) (no b) c = out i o (omega arith)
      go i o (no a) (yes b) (no c) = out i o (omega arith)
      go i o (no a) (yes b) (yes c) =
          let n = (i - 5184) / 32 in
          let is : i ≡ node_at n 0 = omega arith in
          rw is (second.net n (omega arith))

  stay_is : stay ≡ (tightened (net_at e k)).list.items
  unfolding stay tightened with_list tight net_at
  stay_is = sieve_firsts (holds (graph_of e) k) (items_of e.nets k)

  net_is : NetIs w k (tightened (net_at e k))
  unfolding tightened with_list tight net_at
  net_is =
      let few = m.header.few_nets in
      let s = first in
      let r = second.rest in
      let n = m.nets k here in
      record {
        name = r.same _ (omega arith) ∙ s.own (net_at_words (k + 1) 0) (omega arith) (omega arith) (omega arith) ∙ n.name;
        free = r.same _ (omega arith) ∙ s.own (net_at_words (k + 1) 1) (omega arith) (omega arith) (omega arith) ∙ n.free;
        length_is = r.same _ (omega arith) ∙ s.length_is ∙ sym (length-map s.places (node_in ws e.pools.nodes)) ∙ ap (λ (l : List ℕ). length l) (s.items ∙ stay_is);
        capacity_is = r.same _ (omega arith) ∙ s.own (net_at_words (k + 1) 5) (omega arith) (omega arith) (omega arith) ∙ n.capacity_is;
        stale_is = r.same _ (omega arith) ∙ s.stale;
        pending_is = r.same _ (omega arith) ∙ s.own (net_at_words (k + 1) 7) (omega arith) (omega arith) (omega arith) ∙ n.pending_is;
      }

  lists_are : Pool (entries_in w e.pools.nodes) (length e.nets) (items_of (over_net tightened k e).nets) (entries (over_net tightened k e))
  unfolding over_net with_nets entries net_at
  lists_are =
      let few = m.header.few_nets in
      let s = first in
      let r = second.rest in
      let ts = e.nets in
      let x = items_of ts in
      let u = s.used in
      let v = m.used.entries in
      let sums = sum_set (λ (y : Net). length y.list.items) ts k (tightened (net_at e k)) here in
      let long : length (tightened (net_at e k)).list.items ≡ length s.places
      = ap (λ (l : List ℕ). length l) (sym (s.items ∙ stay_is)) ∙ length-map s.places (node_in ws e.pools.nodes) in
      let total = sum (map (λ (y : Net). length y.list.items) (set ts k (tightened (net_at e k)))) in
      pool_lists (put x k stay) (items_of (set ts k (tightened (net_at e k)))) (λ u i. go u (ℕ_discrete u k))
      (pool_same (entries_keep w1 w e.pools.nodes e.pools.entries few (omega arith) (λ i q. r.same i (omega arith)) (λ i q. r.same i (omega arith)) (λ i q. r.same i (omega arith)))
      (s.pool total (omega arith)))
    where
      go : (u : ℕ) → Dec (u ≡ k) → put (items_of e.nets) k stay u ≡ items_of (set e.nets k (tightened (net_at e k))) u
      go u (yes d) = rw (d, put_same (items_of e.nets) k stay) (stay_is ∙ ap (λ (y : Net). y.list.items) (sym (get_or-set_same e.nets k (tightened (net_at e k)) no_net here)))
      go u (no d) = put_other (items_of e.nets) k stay u d ∙ ap (λ (y : Net). y.list.items) (sym (get_or-set_other e.nets k u (tightened (net_at e k)) no_net d))

  waits_same : Pool (waits_in w e.pools.nodes e.pools.entries) (length e.nets) (awaiting_of (over_net tightened k e).nets) (waits (over_net tightened k e))
  unfolding over_net with_nets waits net_at tightened with_list
  waits_same =
      let few = m.header.few_nets in
      rw (map-set_same (λ (x : Net). length x.awaiting) e.nets k (tightened (net_at e k)) no_net refl)
      (pool_lists _ _ (λ u i. sym (read_same (λ (x : Net). map (λ v. (v.node, v.net + 1)) x.awaiting) e.nets k (tightened (net_at e k)) refl u))
      (awaits_keep Named ws w e m (λ i q. both.same i (omega arith)) (λ i q. both.same i (omega arith)) (λ i q. both.same i (omega arith))))

  -- the words of `tighten_net` mean the engine with that list made tight
  pub tighten_net_means : Means Named (tighten_net_words ws (k + 1)) (tighten_net k e)
  unfolding tighten_net_words tighten_net w w1 tightened
  tighten_net_means =
      let few = m.header.few_nets in
      let u = m.used in
      let e11 : get_or w 11 0 ≡ get_or ws 11 0 = second.rest.same 11 (omega arith) ∙ first.used in
      let e13 = both.same 13 (omega arith) in
      means_net Named ws w e m tightened k here (record { long = both.long; same = λ i o. both.same i (o.1, o.0) }) net_is (omega arith) lists_are waits_same
