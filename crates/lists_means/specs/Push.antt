-- A node at the end of a net's list: `push`, and 10 where all lists together hold E.
use Prim.Native.Nat.{ℕ, zero, suc, ◌+◌, ◌*◌, ◌%◌, ◌<◌, ◌≤◌}
use Rattle.std.proofs.Math.Path.{◌≡◌, refl, sym, ap, subst}
use Rattle.std.proofs.Common.{◌∙◌, length-set, not-suc-le-zero}
use Rattle.std.specs.Prelude.{◌≢◌, Bool, true, false}
use mathlib.Core.List.{List, [], ◌∷◌, ◌++◌, map}
use Rattle.std.proofs.Math.ListN.{length, get_or, set, length-append}
use Rattle.std.proofs.Math.Seq.{get_or-set_same, get_or-set_other, map-set_same}
use native.Mathlib.Omega.{arith}
use Rattle.std.proofs.Math.Decide.{ℕ_discrete}
use Rattle.words.specs.Choose.{if_eq, if_lt, eq_yes, eq_no, lt_yes, lt_no}
use Rattle.words.specs.Left.{Left}
use Rattle.layout.specs.Layout.{next, node_pool, net_at_words, net_word_words, entry_word}
use Rattle.pools.specs.Pools.{take_fresh, take, take_entry}
use Rattle.lists.specs.Lists.{append, push_node}
use Rattle.net_file.specs.Lists.{sum}
use Rattle.net_file.specs.Values.{Name}
use Rattle.definitions.specs.State.{Ids, Wait, Net, Engine, with_nets, with_list, net_at, over_net, entries, waits}
use Rattle.definitions.specs.Books.{push}
use Rattle.chains.specs.Seg.{put, put_same, put_other, last, all_last, Mine, Chain}
use Rattle.chains.specs.Pools.{View, Pool, pool_lists}
use Rattle.chains.specs.Moves.{Loose, Newer, Fewer, take_new, take_old, Hung, hung, last_not}
use Rattle.means.specs.Means.{Header, NetIs, no_net, entries_in, waits_in, items_of, awaiting_of, Used, Means}
use Rattle.means.specs.Frame.{HeadWords, Rest, rest_set, OutNet, OutLists, OutWaits, net_keep, awaits_keep, means_net, read_same}
use Rattle.graph_means.specs.Marks.{grown_means}
use Rattle.lists_means.specs.Append.{Link, Appended, appended, chained, pointer_at, pointer_link, append_is}

-- ---- an entry is taken

-- w is ws without the free entry c: two header words are written
pub record Taken (ws w : List ℕ) (e : Engine) (c : ℕ) : Type 0 where
  pub rest : Rest (λ i. HeadWords 10 2 i → ⊥) ws w
  pub loose : Loose (entries_in w e.pools.nodes) (length e.nets) (items_of e.nets) (entries e) c
  pub used : get_or w 11 0 ≤ e.pools.entries

module _ (Named : ℕ → Name → Type 0) (ws : List ℕ) (e : Engine) (m : Means Named ws e) where
  -- one never taken
  entry_new : m.lists.freed ≡ [] → get_or ws 10 0 ≡ 0 → get_or ws 11 0 < e.pools.entries → Taken ws (take_entry ws).ws e (take_entry ws).is
  unfolding take_entry take take_fresh
  entry_new f z h =
      let u = get_or ws 11 0 in
      let w = set ws 11 (next u) in
      let ee = m.header.entries in
      let long = m.header.long in
      let few = m.header.few_entries in
      let nets = m.header.few_nets in
      let en : next u ≡ u + 1 = omega arith in
      let taken : ◌≡◌ {A = Left ℕ} (record { is = next u; ws = w }) (take_entry ws) = eq_yes _ _ _ _ z (lt_yes _ _ _ _ (omega arith) refl) in
      let is11 : get_or w 11 0 ≡ u + 1 = get_or-set_same ws 11 (next u) 0 (omega arith) ∙ en in
      let newer : Newer (entries_in ws e.pools.nodes) (entries_in w e.pools.nodes) (length e.nets) = record {
        used = is11;
        first = get_or-set_other ws 11 10 (next u) 0 (omega arith);
        head = λ t i. get_or-set_other ws 11 _ (next u) 0 (omega arith);
        tail = λ t i. get_or-set_other ws 11 _ (next u) 0 (omega arith);
        node = λ c i. get_or-set_other ws 11 _ (next u) 0 (omega arith);
        after = λ c i. get_or-set_other ws 11 _ (next u) 0 (omega arith);
      } in
      let l : Loose (entries_in w e.pools.nodes) (length e.nets) (items_of e.nets) (entries e) (u + 1) = take_new m.lists nets f newer in
      subst (λ (y : Left ℕ). Taken ws y.ws e y.is) taken (record {
        rest = rest_set _ ws 11 (next u) (λ i o d. o (omega arith));
        loose = subst (λ (c : ℕ). Loose (entries_in w e.pools.nodes) (length e.nets) (items_of e.nets) (entries e) c) (sym en) l;
        used = omega arith;
      })

  -- a freed one
  entry_old : (c : ℕ) (f : List ℕ) → m.lists.freed ≡ c ∷ f → get_or ws 10 0 ≡ c → 0 < c → Taken ws (take_entry ws).ws e (take_entry ws).is
  unfolding take_entry take
  entry_old c f i z pos =
      let v = entry_word ws (get_or ws 10 0) 1 in
      let w = set ws 10 v in
      let long = m.header.long in
      let nets = m.header.few_nets in
      let b = m.used.entries in
      let taken : ◌≡◌ {A = Left ℕ} (record { is = get_or ws 10 0; ws = w }) (take_entry ws) = eq_no _ _ _ _ (omega arith) refl in
      let is11 : get_or w 11 0 ≡ get_or ws 11 0 = get_or-set_other ws 10 11 v 0 (omega arith) in
      let ev : v ≡ get_or ws (5214 + 32 * e.pools.nodes + 2 * c + 1) 0 = rw (z, m.header.nodes) refl in
      let fewer : Fewer (entries_in ws e.pools.nodes) (entries_in w e.pools.nodes) (length e.nets) c = record {
        used = is11;
        first = get_or-set_same ws 10 v 0 (omega arith) ∙ ev;
        head = λ t j. get_or-set_other ws 10 _ v 0 (omega arith);
        tail = λ t j. get_or-set_other ws 10 _ v 0 (omega arith);
        node = λ d j. get_or-set_other ws 10 _ v 0 (omega arith);
        after = λ d j. get_or-set_other ws 10 _ v 0 (omega arith);
      } in
      let l : Loose (entries_in w e.pools.nodes) (length e.nets) (items_of e.nets) (entries e) c = take_old m.lists nets c f i fewer in
      subst (λ (y : Left ℕ). Taken ws y.ws e y.is) taken (record {
        rest = rest_set _ ws 10 v (λ j o d. o (omega arith));
        loose = subst (λ (d : ℕ). Loose (entries_in w e.pools.nodes) (length e.nets) (items_of e.nets) (entries e) d) (sym z) l;
        used = omega arith;
      })

  -- while all lists together hold less than E
  pub take_entry_means : entries e < e.pools.entries → Taken ws (take_entry ws).ws e (take_entry ws).is
  take_entry_means h = go m.lists.freed refl
    where
      go : (f : List ℕ) → m.lists.freed ≡ f → Taken ws (take_entry ws).ws e (take_entry ws).is
      go [] i =
          let a : length m.lists.freed + entries e ≡ get_or ws 11 0 = m.lists.all in
          let z : length m.lists.freed ≡ 0 = ap (λ (l : List ℕ). length l) i in
          let fr : Chain (entries_in ws e.pools.nodes).after m.lists.own (get_or ws 11 0 + 1) 256 (get_or ws 10 0) [] 0 = rw i at m.lists.free in
          entry_new i fr.seg (omega arith)
      go (c ∷ f) i =
          let fr : Chain (entries_in ws e.pools.nodes).after m.lists.own (get_or ws 11 0 + 1) 256 (get_or ws 10 0) (c ∷ f) 0 = rw i at m.lists.free in
          entry_old c f i fr.seg.0 fr.mine.0.pos

  -- and 0, with nothing changed, where they hold E
  pub take_entry_none : e.pools.entries ≤ entries e → ((take_entry ws).is ≡ 0) × ((take_entry ws).ws ≡ ws)
  unfolding take_entry take take_fresh
  take_entry_none h = go m.lists.freed refl
    where
      go : (f : List ℕ) → m.lists.freed ≡ f → ((take_entry ws).is ≡ 0) × ((take_entry ws).ws ≡ ws)
      go [] i =
          let a : length m.lists.freed + entries e ≡ get_or ws 11 0 = m.lists.all in
          let ee = m.header.entries in
          let fr : Chain (entries_in ws e.pools.nodes).after m.lists.own (get_or ws 11 0 + 1) 256 (get_or ws 10 0) [] 0 = rw i at m.lists.free in
          let none : ◌≡◌ {A = Left ℕ} (record { is = 0; ws = ws }) (take_entry ws) = eq_yes _ _ _ _ fr.seg (lt_no _ _ _ _ (omega arith) refl) in
          (ap (λ (l : Left ℕ). l.is) (sym none), ap (λ (l : Left ℕ). l.ws) (sym none))
      go (c ∷ f) i =
          let a : length m.lists.freed + entries e ≡ get_or ws 11 0 = m.lists.all in
          let z : length m.lists.freed ≡ suc (length f) = ap (λ (l : List ℕ). length l) i in
          let b = m.used.entries in
          absurd (omega arith)

-- ---- and put at the end

-- a sum with one number changed
pub sum_set : (f : Net → ℕ) (ts : List Net) (k : ℕ) (t : Net) → k < length ts → sum (map f (set ts k t)) + f (get_or ts k no_net) ≡ sum (map f ts) + f t
sum_set f [] k t h = absurd (not-suc-le-zero h)
sum_set f (x ∷ ts) zero t h = omega arith
sum_set f (x ∷ ts) (suc k) t h = let i = sum_set f ts k t (omega arith) in omega arith

-- each number is within the sum
pub sum_most : (f : Net → ℕ) (ts : List Net) (k : ℕ) → k < length ts → f (get_or ts k no_net) ≤ sum (map f ts)
sum_most f [] k h = absurd (not-suc-le-zero h)
sum_most f (x ∷ ts) zero h = omega arith
sum_most f (x ∷ ts) (suc k) h = let i = sum_most f ts k (omega arith) in omega arith

-- what is not where the pointer can stand
pub not_there : {N k p j : ℕ} → Link N k p j → (i : ℕ) → i ≢ net_at_words (k + 1) 2 → (p ≢ 0 → i ≢ 5214 + 32 * N + 2 * p + 1) → i ≢ j
not_there {p = p} {j} l i a b = go (ℕ_discrete p 0)
  where
    go : Dec (p ≡ 0) → i ≢ j
    go (yes z) = λ d. a (d ∙ l.none z)
    go (no z) = λ d. b z (d ∙ l.some z)

-- the last place of a chain is below its bound
pub last_below : {f own : ℕ → ℕ} {b s h : ℕ} {z : ℕ} (l : List ℕ) → Chain f own b s h l z → 0 < b → last l 0 < b
last_below [] c i = i
last_below {own = own} {b} {s} (d ∷ l) c i = (all_last (Mine own b s) d l c.mine).below

-- the words of `append` are a hung entry
hung_is : (ws w : List ℕ) (N k c n p j m : ℕ) → m ≤ 256 → k < m → 0 < c → p ≢ c → Appended ws w N k c n p j → Hung (entries_in ws N) (entries_in w N) m k c p n
hung_is ws w N k c n p j m few h pos d a = record {
  used = a.other 11 (omega arith) (omega arith) (not_there a.link 11 (omega arith) (omega arith)) (omega arith) (omega arith) (omega arith);
  first = a.other 10 (omega arith) (omega arith) (not_there a.link 10 (omega arith) (omega arith)) (omega arith) (omega arith) (omega arith);
  heads = λ u i q. a.other _ (omega arith) (omega arith) (not_there a.link _ (omega arith) (omega arith)) (omega arith) (omega arith) (omega arith);
  tails = λ u i q. a.other _ (omega arith) (omega arith) (not_there a.link _ (omega arith) (omega arith)) (omega arith) (omega arith) (omega arith);
  tail = a.last;
  nodes = λ u i j q. a.other _ (omega arith) (omega arith) (not_there a.link _ (omega arith) (omega arith)) (omega arith) (omega arith) (omega arith);
  node = a.node;
  none = λ z. rw (← a.link.none z) a.pointer;
  some = λ z. (
    a.other (net_at_words (k + 1) 2) (omega arith) (omega arith) (λ q. let y = a.link.some z in omega arith) (omega arith) (omega arith) (omega arith),
    rw (← a.link.some z) a.pointer,
  );
  afters = λ u i j q r. a.other _ (omega arith) (omega arith) (not_there a.link _ (omega arith) (omega arith)) (omega arith) (omega arith) (omega arith);
  after = a.after;
}

module _ (Named : ℕ → Name → Type 0) (ws : List ℕ) (e : Engine) (m : Means Named ws e) (k n : ℕ) (h : k < length e.nets) where
  -- the list pushed on
  unfoldable pub pushed : Net → Net
  pushed t = with_list (push n t.list) t

  -- what the words are after an entry was taken and put at the end of net k's list
  module _ (w0 w : List ℕ) (c p j : ℕ) (t : Taken ws w0 e c) (a : Appended w0 w e.pools.nodes k c n p j) (fits : c ≤ e.pools.entries) (most : p ≤ e.pools.entries)
      (pos : 0 < c) (apart : p ≢ c) (is : net_word_words w0 (k + 1) 3 ≡ p) (room : entries e < e.pools.entries) (small : (net_at e k).list.capacity < 2147483648) where
    rests : Rest (λ i. OutLists e.pools.nodes e.pools.entries i × OutNet k i) ws w
    rests =
        let few = m.header.few_nets in
        record {
          long = a.long ∙ t.rest.long;
          same = λ i o. a.other i (λ d. o.0.2 (omega arith)) (λ d. o.0.2 (omega arith))
              (not_there a.link i (λ d. o.0.1 (omega arith)) (λ z d. o.0.2 (omega arith)))
              (λ d. o.0.1 (omega arith)) (λ d. o.1 (omega arith)) (λ d. o.1 (omega arith)) ∙ t.rest.same i o.0.0;
        }

    net_is : NetIs w k (pushed (net_at e k))
    unfolding pushed with_list push net_at entries
    net_is =
        let o = net_keep ws w0 {k = k} (λ i q. t.rest.same i (let few = m.header.few_nets in omega arith)) (m.nets k h) in
        let few = m.header.few_nets in
        record {
          name = a.other (net_at_words (k + 1) 0) (omega arith) (omega arith) (not_there a.link _ (omega arith) (omega arith)) (omega arith) (omega arith) (omega arith) ∙ o.name;
          free = a.other (net_at_words (k + 1) 1) (omega arith) (omega arith) (not_there a.link _ (omega arith) (omega arith)) (omega arith) (omega arith) (omega arith) ∙ o.free;
          length_is = let y = o.length_is in let z = length-append (net_at e k).list.items (n ∷ []) in let b = sum_most (λ (x : Net). length x.list.items) e.nets k h in let d = m.header.few_entries in a.length_is ∙ omega arith;
          capacity_is = a.capacity ∙ rw (o.capacity_is, o.length_is) (grown_means (net_at e k).list.capacity (length (net_at e k).list.items) small);
          stale_is = a.other (net_at_words (k + 1) 6) (omega arith) (omega arith) (not_there a.link _ (omega arith) (omega arith)) (omega arith) (omega arith) (omega arith) ∙ o.stale_is;
          pending_is = a.other (net_at_words (k + 1) 7) (omega arith) (omega arith) (not_there a.link _ (omega arith) (omega arith)) (omega arith) (omega arith) (omega arith) ∙ o.pending_is;
        }

    lists_are : Pool (entries_in w e.pools.nodes) (length e.nets) (items_of (over_net pushed k e).nets) (entries (over_net pushed k e))
    unfolding over_net with_nets entries net_at pushed with_list push
    lists_are =
        let few = m.header.few_nets in
        let ts = e.nets in
        let x = items_of ts in
        let p1 = hung t.loose few k p n h is (hung_is w0 w e.pools.nodes k c n p j (length ts) few h pos apart a) in
        let long : length (x k ++ n ∷ []) ≡ length (x k) + 1 = length-append (x k) (n ∷ []) in
        let sums = sum_set (λ (y : Net). length y.list.items) ts k (pushed (net_at e k)) h in
        let total : sum (map (λ (y : Net). length y.list.items) ts) + 1 ≡ sum (map (λ (y : Net). length y.list.items) (set ts k (pushed (net_at e k)))) = omega arith in
        rw (← total) (pool_lists (put x k (x k ++ n ∷ [])) (items_of (set ts k (pushed (net_at e k)))) (λ u i. go u (ℕ_discrete u k)) p1)
      where
        go : (u : ℕ) → Dec (u ≡ k) → put (items_of e.nets) k (items_of e.nets k ++ n ∷ []) u ≡ items_of (set e.nets k (pushed (net_at e k))) u
        go u (yes d) = rw (d, put_same (items_of e.nets) k (items_of e.nets k ++ n ∷ [])) (ap (λ (y : Net). y.list.items) (sym (get_or-set_same e.nets k (pushed (net_at e k)) no_net h)))
        go u (no d) = put_other (items_of e.nets) k (items_of e.nets k ++ n ∷ []) u d ∙ ap (λ (y : Net). y.list.items) (sym (get_or-set_other e.nets k u (pushed (net_at e k)) no_net d))

    waits_same : Pool (waits_in w e.pools.nodes e.pools.entries) (length e.nets) (awaiting_of (over_net pushed k e).nets) (waits (over_net pushed k e))
    unfolding over_net with_nets waits net_at pushed with_list
    waits_same =
        let few = m.header.few_nets in
        rw (map-set_same (λ (x : Net). length x.awaiting) e.nets k (pushed (net_at e k)) no_net refl)
        (pool_lists _ _ (λ u i. sym (read_same (λ (x : Net). map (λ v. (v.node, v.net + 1)) x.awaiting) e.nets k (pushed (net_at e k)) refl u))
        (awaits_keep Named ws w e m (λ i q. rests.same i (omega arith)) (λ i q. rests.same i (omega arith)) (λ i q. rests.same i (omega arith))))

    pub put_means : Means Named w (over_net pushed k e)
    put_means =
        let u = m.used.waits in
        let v = t.used in
        let e11 = a.other 11 (omega arith) (omega arith) (not_there a.link 11 (omega arith) (omega arith)) (omega arith) (omega arith) (omega arith) in
        let e13 = rests.same 13 (omega arith) in
        means_net Named ws w e m pushed k h (record { long = rests.long; same = λ i o. rests.same i (o.1, o.0) }) net_is (omega arith) lists_are waits_same

  -- and where all lists together hold E nothing is changed
  pub push_node_full : e.pools.entries ≤ entries e → ((push_node ws (k + 1) n).is ≡ false) × ((push_node ws (k + 1) n).ws ≡ ws)
  unfolding push_node
  push_node_full full =
      let z = take_entry_none Named ws e m full in
      let none : ◌≡◌ {A = Left Bool} (record { is = false; ws = (take_entry ws).ws }) (push_node ws (k + 1) n) = eq_yes (take_entry ws).is 0 _ _ z.0 refl in
      (ap (λ (l : Left Bool). l.is) (sym none), ap (λ (l : Left Bool). l.ws) (sym none) ∙ z.1)
