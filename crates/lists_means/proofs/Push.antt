-- A node at the end of a net's list: `push`, and 10 where all lists together hold E.
use Prim.Native.Nat.{ℕ, zero, suc, ◌+◌, ◌*◌, ◌%◌, ◌<◌, ◌≤◌}
use Rattle.std.proofs.Math.Path.{◌≡◌, refl, sym, ap, subst}
use Rattle.std.proofs.Common.{◌∙◌, length-set, not-suc-le-zero}
use Rattle.std.specs.Prelude.{◌≢◌, Bool, true, false}
use mathlib.Core.List.{List, [], ◌∷◌, ◌++◌, map}
use Rattle.std.proofs.Math.ListN.{length, get_or, set, length-append}
use Rattle.std.proofs.Math.Seq.{get_or-set_same, get_or-set_other, map-set_same}
use native.Mathlib.Omega.{arith}
use Rattle.std.proofs.Math.Decide.{ℕ_discrete}
use Rattle.words.specs.Choose.{if_eq, if_lt, eq_yes, eq_no, lt_yes, lt_no}
use Rattle.words.specs.Left.{Left}
use Rattle.layout.specs.Layout.{next, node_pool, net_at_words, net_word_words, entry_word}
use Rattle.pools.specs.Pools.{take_fresh, take, take_entry}
use Rattle.lists.specs.Lists.{append, push_node}
use Rattle.net_file.specs.Lists.{sum}
use Rattle.net_file.specs.Values.{Name}
use Rattle.definitions.specs.State.{Ids, Wait, Net, Engine, with_nets, with_list, net_at, over_net, entries, waits}
use Rattle.definitions.specs.Books.{push}
use Rattle.chains.specs.Seg.{put, put_same, put_other, last, all_last, Mine, Chain}
use Rattle.chains.specs.Pools.{View, Pool, pool_lists}
use Rattle.chains.specs.Moves.{Loose, Newer, Fewer, take_new, take_old, Hung, hung, last_not}
use Rattle.means.specs.Means.{Header, NetIs, no_net, entries_in, waits_in, items_of, awaiting_of, Used, Means}
use Rattle.means.specs.Frame.{HeadWords, Rest, rest_set, OutNet, OutLists, OutWaits, net_keep, awaits_keep, means_net, read_same}
use Rattle.graph_means.specs.Marks.{grown_means}
use Rattle.lists_means.specs.Append.{Link, Appended, appended, chained, pointer_at, pointer_link, append_is}
use Rattle.lists_means.specs.Push.{Taken, take_entry_means, last_below, pushed, put_means}

module _ (Named : ℕ → Name → Type 0) (ws : List ℕ) (e : Engine) (m : Means Named ws e) (k n : ℕ) (h : k < length e.nets) where
  -- node n at the end of net k's list
  pub push_node_means : entries e < e.pools.entries → (net_at e k).list.capacity < 2147483648
      → ((push_node ws (k + 1) n).is ≡ true) × Means Named (push_node ws (k + 1) n).ws (over_net (λ t. with_list (push n t.list) t) k e)
  unfolding push_node pushed
  push_node_means room small =
      let few = m.header.few_nets in
      let w0 = (take_entry ws).ws in
      let c = (take_entry ws).is in
      let t : Taken ws w0 e c = take_entry_means Named ws e m room in
      let root = t.loose.pool.nets k h in
      let p = net_word_words w0 (k + 1) 3 in
      let u = t.used in
      let long = m.header.long in
      let l0 = t.rest.long in
      let pos : 0 < c = t.loose.mine.pos in
      let b : c < get_or w0 11 0 + 1 = t.loose.mine.below in
      let most : p < get_or w0 11 0 + 1 = rw root.tail (last_below (t.loose.pool.places k) root.chain (omega arith)) in
      let apart : p ≢ c = λ d. last_not {s = 257} root.chain (omega arith) (rw (← root.tail, d) t.loose.mine) in
      let enough : 5216 + 32 * e.pools.nodes + 2 * e.pools.entries ≤ length w0 = omega arith in
      let pool : node_pool w0 ≡ e.pools.nodes = t.rest.same 1 (omega arith) ∙ m.header.nodes in
      let i : append w0 (k + 1) n c ≡ _
      = append_is w0 e.pools.nodes e.pools.entries k c n enough pos (omega arith) (omega arith) apart (omega arith) pool in
      let done : Means Named (append w0 (k + 1) n c) (over_net (pushed Named ws e m k n h) k e)
      = rw i ((put_means Named ws e m k n h) w0 _ c p (pointer_at e.pools.nodes k p) t
      (appended w0 e.pools.nodes e.pools.entries k c n p (pointer_at e.pools.nodes k p) enough pos (omega arith) (omega arith) apart (omega arith) (pointer_link e.pools.nodes k p))
      (omega arith) (omega arith) pos apart refl room small) in
      subst (λ (y : Left Bool). (y.is ≡ true) × Means Named y.ws (over_net (pushed Named ws e m k n h) k e)) (eq_no c 0 _ _ (omega arith) refl) (refl, done)
