-- The nodes of a net written: the bytes are those of level Engine's net, and the words of other nets are as they were.
use Rattle.std.specs.Prelude.{ℕ, zero, suc, ◌+◌, ◌*◌, ◌<◌, ◌≤◌, ◌≡◌, ◌≢◌, ◌⊎◌, Bool, true, false, not, get_or}
use Rattle.std.proofs.Math.Path.{refl, ap}
use Rattle.std.proofs.Common.{sym, ◌∙◌, length-append}
use Rattle.std.proofs.Math.Logic.{inl}
use mathlib.Core.List.{List, [], ◌∷◌, ◌++◌, map, Memᴰ}
use Rattle.std.proofs.Math.ListN.{length, length-map}
use Rattle.std.proofs.Math.Dec.{eqb}
use native.Mathlib.Omega.{arith}
use Rattle.std.proofs.Math.Decide.{ℕ_discrete}
use borrow.Author.Tests.{eqb-true, eqb-false}
use Rattle.layout.specs.Layout.{net_word_words, node_word}
use Rattle.net_file.specs.Lists.{concat_map, sum}
use Rattle.net_file.specs.Values.{Name, FlatNode, FlatNet}
use Rattle.net_file.specs.Write.{be, write_node}
use Rattle.store.specs.Store.{store, store_none}
use Rattle.definitions.specs.Lists.{keep, firsts, from}
use Rattle.definitions.specs.Nets.{Port, Graph, port, same_port, holds, name_of, arity, ports}
use Rattle.definitions.specs.State.{Net, Engine, graph_of, net_at, entries}
use Rattle.definitions.specs.Books.{tight}
use Rattle.definitions.specs.Finish.{wire_at, wires_met, flat_node, live_nodes, flat_net}
use Rattle.join_laws.specs.Ports.{same_port_true, same_port_self}
use Rattle.script_laws.specs.Tidy.{WellWired}
use Rattle.rule_laws.specs.Places.{Ported}
use Rattle.graph_laws.specs.Rest.{FreeNode}
use Rattle.finish_laws.specs.Firsts.{firsts_shorter}
use Rattle.finish_laws.specs.Fits.{length_from}
use Rattle.dirty_laws.specs.Tests.{eqb_self}
use Rattle.chains.specs.Seg.{All, all_map, Mine, Chain}
use Rattle.chains.specs.Pools.{View, Root, Pool}
use Rattle.means.specs.Means.{entries_in, no_net, Header, NetIs, Used, Means}
use Rattle.means.specs.Frame.{Rest, lists_keep}
use Rattle.tighten_means.specs.Sieve.{sieve, sieve_firsts}
use Rattle.write_nodes.specs.Wrote.{Wrote}
use Rattle.write_nodes.specs.Nodes.{write_list}
use Rattle.write_nodes.specs.declared.Pen.{Pen}
use Rattle.write_nodes.specs.declared.Page.{Page}
use Rattle.wires_means.specs.Met.{meets, Front, wires_met_lem}
use Rattle.wires_means.specs.Rows.{Ready}
use Rattle.nodes_written.specs.Nodes.{Spelt}
use Rattle.nodes_written.specs.Entries.{OutRegion, node_bytes, bytes_free, bytes_node, free_bytes, free_due, Pass}
use Rattle.nodes_written.specs.Lists.{wires_at, nodes_bytes, Penned, Listed, penned_all, write_entries_is}
use Rattle.nodes_written.specs.Whole.{Of, region, Whole, whole_low, whole_high, whole_numbered, whole_says, whole_sheet}

-- ---- lists

-- what is written of nodes, the free one apart
nodes_bytes_lem : (g : Graph) (whole : List Port) (free : ℕ) (ids : List ℕ)
    → nodes_bytes g whole free ids ≡ concat_map write_node (map (flat_node g whole) (keep (λ n. not (eqb n free)) ids))
nodes_bytes_lem g whole free [] = refl
nodes_bytes_lem g whole free (n ∷ ids) = go (eqb n free) refl (nodes_bytes_lem g whole free ids)
  where
    go : (t : Bool) → eqb n free ≡ t → nodes_bytes g whole free ids ≡ concat_map write_node (map (flat_node g whole) (keep (λ n. not (eqb n free)) ids))
        → node_bytes g whole free n ++ nodes_bytes g whole free ids
        ≡ concat_map write_node (map (flat_node g whole) (elim (not t) as (λ _. List ℕ) [ true ↦ n ∷ keep (λ n. not (eqb n free)) ids | false ↦ keep (λ n. not (eqb n free)) ids ]))
    go true e i = rw (bytes_free g whole free n (eqb-true n free e)) i
    go false e i = rw (bytes_node g whole free n (eqb-false n free e)) (ap (λ (l : List ℕ). write_node (flat_node g whole n) ++ l) i)

keep_shorter : {A : Type 0} (f : A → Bool) (xs : List A) → length (keep f xs) ≤ length xs
keep_shorter f [] = omega arith
keep_shorter {A} f (x ∷ xs) = go (f x) (keep_shorter f xs)
  where
    go : (t : Bool) → length (keep f xs) ≤ length xs → length {A = A} (elim t as (λ _. List A) [ true ↦ x ∷ keep f xs | false ↦ keep f xs ]) ≤ suc (length xs)
    go true h = omega arith
    go false h = omega arith

-- no more than sixteen ports at a node
ports_few : (g : Graph) (ids : List ℕ) → ((n : ℕ) → arity g n ≤ 16) → length (concat_map (ports g) ids) ≤ 16 * length ids
unfolding ports
ports_few g [] few = omega arith
ports_few g (n ∷ ids) few =
    let a = length-append (ports g n) (concat_map (ports g) ids) in
    let b : length (ports g n) ≡ arity g n = length-map (from 0 (arity g n)) (port n) ∙ length_from (arity g n) 0 in
    let c = few n in
    let d = ports_few g ids few in
    omega arith

-- one net's list is no longer than all together
list_few : (ts : List Net) (k : ℕ) → length (get_or ts k no_net).list.items ≤ sum (map (λ (t : Net). length t.list.items) ts)
list_few [] k = omega arith
list_few (t ∷ ts) zero = omega arith
list_few (t ∷ ts) (suc k) = let h = list_few ts k in omega arith

all_mapped : (N : ℕ) (f : ℕ → ℕ) (l : List ℕ) → ((n : ℕ) → Memᴰ n (map f l) → n < N) → All (λ q. f q < N) l
all_mapped N f [] h = tt
all_mapped N f (q ∷ l) h = (h (f q) (Memᴰ.head refl), all_mapped N f l (λ n i. h n (Memᴰ.tail i)))

-- ---- net k of e is written by its list: t is what the file says of it

pub record NetWritten (e : Engine) (k : ℕ) (t : FlatNet) (w out : List ℕ) (free at : ℕ) (x : Wrote Pen) : Type 0 where
  pub at_is : x.is.at ≡ at + length (concat_map write_node (flat_net e k t).nodes)
  pub wires : x.is.wire ≡ (flat_net e k t).wires
  pub out_is : x.out ≡ store at (concat_map write_node (flat_net e k t).nodes) (store free (concat_map (be 2) (flat_net e k t).free) out)
  pub rest : Rest (OutRegion (Of e k)) w x.ws
  pub net : (n : ℕ) → n < e.pools.nodes → (node_word x.ws n 0 ≡ node_word w n 0) ⊎ (node_word x.ws n 0 ≡ 0)

module _ (Named : ℕ → Name → Type 0) (ws : List ℕ) (e : Engine) (m : Means Named ws e) (k : ℕ) (h : k < length e.nets) where
  -- its wires are few
  wires_few : length (wires_met (graph_of e) (live_nodes e k)) < 2147483648
  unfolding wires_met live_nodes tight entries net_at
  wires_few =
      let g = graph_of e in
      let items = (net_at e k).list.items in
      let ids = firsts eqb [] (keep (holds g k) items) in
      let a = firsts_shorter same_port same_port_true same_port_self (map (wire_at g) (concat_map (ports g) ids)) [] in
      let b = length-map (concat_map (ports g) ids) (wire_at g) in
      let c = ports_few g ids m.nodes.few in
      let d = firsts_shorter eqb eqb-true eqb_self (keep (holds g k) items) [] in
      let i = keep_shorter (holds g k) items in
      let j = list_few e.nets k in
      let all = m.lists.all in
      let used = m.used.entries in
      let few = m.header.few_entries in
      omega arith

  module _ (path : ℕ) (file out w : List ℕ) (free at : ℕ) (t : FlatNet) (b : Whole Named ws e m k w) (well : WellWired (graph_of e)) (ported : Ported (graph_of e))
      (home : FreeNode path (graph_of e) k (net_at e k).home) (spelt : (n : ℕ) → Of e k n → n ≢ (net_at e k).home.free → Spelt file (node_word ws n 1) (name_of (graph_of e) n))
      (inside : (n : ℕ) → Memᴰ n (net_at e k).list.items → n < e.pools.nodes) (listed : Memᴰ (net_at e k).home.free (net_at e k).list.items)
      (apart : free + length (concat_map (be 2) (flat_net e k t).free) ≤ at) (room : at + length (concat_map write_node (flat_net e k t).nodes) ≤ length out)
      (size : length out < 18446744073709551616) where
    pub write_list_is : NetWritten e k t w out free at (write_list w file out (record { net = record { 0 = k + 1 }; free = free }) (record { at = at; wire = 0 }))
    unfolding flat_net live_nodes tight net_at write_list
    write_list_is =
        let g = graph_of e in
        let N = e.pools.nodes in
        let items = (net_at e k).list.items in
        let f = (net_at e k).home.free in
        let live = holds g k in
        let ids : sieve live items ≡ live_nodes e k = sieve_firsts live items in
        let whole = wires_met g (live_nodes e k) in
        let few_nets = m.header.few_nets in
        let pool = lists_keep Named ws w e m (λ i p. whole_low Named ws e m k w b i (omega arith)) (λ i p. whole_low Named ws e m k w b i (omega arith))
        (λ i p. whole_high Named ws e m k w b i (omega arith)) in
        let root = pool.nets k h in
        let page : Page = record { net = record { 0 = k + 1 }; free = free } in
        let sheet = whole_sheet Named ws e m k w b path file h well ported home spelt in
        let r = region Named ws e m k well in
        let start : Wrote Pen = record { is = record { at = at; wire = 0 }; ws = w; out = out } in
        let bytes : nodes_bytes g whole f (sieve live items) ≡ concat_map write_node (flat_net e k t).nodes
        = ap (nodes_bytes g whole f) ids ∙ nodes_bytes_lem g whole f (live_nodes e k) in
        let met : meets [] (wires_at g (sieve live items)) ≡ whole = ap (λ (l : List ℕ). meets [] (wires_at g l)) ids ∙ wires_met_lem g (live_nodes e k) in
        let long = b.rest.long in
        let enough = m.header.long in
        let first : Pass r whole wires_few file w out page f at sheet live [] [] start = record {
          ready = record { long = omega arith; ports = whole_numbered Named ws e m k w b; wire = refl };
          rest = record { long = refl; same = λ i o. refl };
          slot = whole_says Named ws e m k w b;
          net = λ n i. inl refl;
          mine = λ n i. i;
          at_is = omega arith;
          out_is = rw (free_due free (free_bytes g whole f) out (live f) home.held) (store_none at out);
        } in
        let places = pool.places k in
        let listing : map (entries_in w N).node places ≡ items = root.items in
        let count : length items ≡ length places = ap (λ (l : List ℕ). length l) (sym listing) ∙ length-map places (entries_in w N).node in
        let words : net_word_words w (k + 1) 4 ≡ length places = whole_low Named ws e m k w b _ (omega arith) ∙ (m.nets k h).length_is ∙ count in
        let p = write_entries_is r whole wires_few file w out page f at sheet apart size (whole_low Named ws e m k w b 1 (omega arith) ∙ m.header.nodes) places (net_word_words w (k + 1) 2) 0 live [] [] start first
        root.chain.seg (all_map (λ c i. i.pos) places root.chain.mine) (all_mapped N (entries_in w N).node places (λ n i. inside n (rw listing at i)))
        (rw listing (record { rest = []; is = met })) (rw (listing, bytes) room) in
        let all = penned_all r whole wires_few file w out page f at sheet apart size {nodes = concat_map write_node (flat_net e k t).nodes} {met = whole} p (rw listing listed) (rw listing bytes) (rw listing met) in
        rw words (record { at_is = all.at_is; wires = all.wires; out_is = all.out_is; rest = all.rest; net = all.net })
