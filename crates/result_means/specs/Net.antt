-- An included net written: its bytes are level Engine's net, written.
use Prim.Native.Nat.{ℕ, zero, suc, ◌+◌, ◌*◌, ◌%◌, ◌≤◌, ◌<◌}
use Rattle.std.specs.Prelude.{◌≡◌, refl, ◌≢◌, ◌⊎◌, Bool, true, false, cond, drop, eqb}
use Rattle.std.proofs.Math.Path.{sym, ap}
use Rattle.std.proofs.Common.{◌∙◌, eq-eqb, ne_eqb}
use native.Mathlib.Omega.{arith}
use Rattle.std.proofs.Math.Decide.{ℕ_discrete}
use mathlib.Core.List.{List, ◌++◌, append_assoc, append-nil, Memᴰ}
use Rattle.std.proofs.Math.ListN.{length, length-append}
use Rattle.layout.specs.Layout.{net_word_words, node_word}
use Rattle.net_file.specs.Lists.{bit, concat_map}
use Rattle.net_file.specs.Values.{Name, FlatNode, FlatNet}
use Rattle.net_file.specs.Write.{be, counted, write_pair, write_node, write_head, write_flat_net}
use Rattle.net_file_laws.specs.Bytes.{length_be}
use Rattle.fields.specs.Fields.{byte}
use Rattle.stored.specs.Stored.{flat_net_at}
use Rattle.ends.specs.Ends.{within}
use Rattle.store.specs.Store.{store, between}
use Rattle.put.specs.Written.{numbers}
use Rattle.put.specs.Laws.{Size}
use Rattle.put.specs.Fields.{size_numbers}
use Rattle.dirty_laws.specs.Tally.{tally}
use Rattle.definitions.specs.Nets.{Port, Graph, holds, name_of}
use Rattle.definitions.specs.State.{Ids, Net, Engine, graph_of, net_at}
use Rattle.definitions.specs.Finish.{flat_net}
use Rattle.script_laws.specs.Tidy.{WellWired}
use Rattle.rule_laws.specs.Places.{Ported}
use Rattle.graph_laws.specs.Rest.{FreeNode}
use Rattle.means.specs.Means.{Header, NetIs, Means}
use Rattle.means.specs.Frame.{Rest}
use Rattle.write_nodes.specs.Wrote.{Wrote, Bytes}
use Rattle.write_nodes.specs.Nodes.{on}
use Rattle.write_nodes.specs.declared.Pen.{Pen}
use Rattle.finish.specs.Finish.{live_nodes_words, write_counts, write_net_head, write_included}
use Rattle.parts_placed.specs.Spans.{Spans, spans_front, spans_between}
use Rattle.measure_means.specs.Sums.{total, only, total_same}
use Rattle.measure_means.specs.Lengths.{Lists, nodes_many}
use Rattle.measure_means.specs.Nets.{stored_free}
use Rattle.wires_means.specs.Rows.{be_two}
use Rattle.wires_means.specs.Stores.{length_store}
use Rattle.nodes_written.specs.Nodes.{Spelt}
use Rattle.nodes_written.specs.Entries.{OutRegion}
use Rattle.nodes_written.specs.Whole.{Of, of_inside, Whole, whole_low}
use Rattle.nodes_written.specs.Written.{NetWritten, write_list_is}
use Rattle.result_means.specs.Layers.{net_layers}

-- net k of e, whose nodes' names stand in the file: its free node, its list with its books
pub record Writable (ws file : List ℕ) (e : Engine) (path k : ℕ) : Type 0 where
  pub home : FreeNode path (graph_of e) k (net_at e k).home
  pub spelt : (n : ℕ) → Of e k n → n ≢ (net_at e k).home.free → Spelt file (node_word ws n 1) (name_of (graph_of e) n)
  pub lists : Lists e k
  pub books : length (net_at e k).list.items ≡ tally (holds (graph_of e) k) e.pools.nodes + (net_at e k).list.stale

-- ---- how many nodes

tally_total : (f : ℕ → Bool) (N : ℕ) → tally f N ≡ total (only f (λ _. 1)) N
tally_total f zero = refl
tally_total f (suc N) = let a = tally_total f N in let b = one (f N) in omega arith
  where
    one : (t : Bool) → bit t ≡ cond t 1 0
    one true = refl
    one false = refl

-- all but one
all_but : (b : ℕ → Bool) (x N : ℕ) → x < N → b x ≡ true → total (only b (λ _. 1)) N ≡ 1 + total (only b (λ m. cond (eqb m x) 0 1)) N
all_but b x zero h e = absurd (omega arith)
all_but b x (suc N) h e = go (ℕ_discrete N x) (λ i. all_but b x N i e)
  where
    other : (n : ℕ) → n ≢ x → only b (λ _. 1) n ≡ only b (λ m. cond (eqb m x) 0 1) n
    other n d = ap (λ (t : Bool). cond (b n) (cond t 0 1) 0) (sym (ne_eqb n x d))

    same : (t : Bool) → cond {A = ℕ} t 0 0 ≡ 0
    same true = refl
    same false = refl

    go : Dec (N ≡ x) → (x < N → total (only b (λ _. 1)) N ≡ 1 + total (only b (λ m. cond (eqb m x) 0 1)) N)
        → only b (λ _. 1) N + total (only b (λ _. 1)) N ≡ 1 + (only b (λ m. cond (eqb m x) 0 1) N + total (only b (λ m. cond (eqb m x) 0 1)) N)
    go (yes d) r =
        let a = total_same (only b (λ _. 1)) (only b (λ m. cond (eqb m x) 0 1)) N (λ n i. other n (omega arith)) in
        let p : only b (λ _. 1) N ≡ 1 = rw d (ap (λ (t : Bool). cond t 1 0) e) in
        let none : only b (λ m. cond (eqb m x) 0 1) x ≡ cond {A = ℕ} (b x) 0 0 = ap (λ (t : Bool). cond {A = ℕ} (b x) (cond t 0 1) 0) (eq-eqb x x refl) in
        let q : only b (λ m. cond (eqb m x) 0 1) N ≡ 0 = rw d (none ∙ same (b x)) in
        omega arith
    go (no d) r = let a = other N d in let c = r (omega arith) in omega arith

-- ---- the net

-- net k of e, in place of t, is written at a place
pub record NetDone (e : Engine) (k : ℕ) (t : FlatNet) (w out : List ℕ) (at : ℕ) (x : Wrote ℕ) : Type 0 where
  pub is : x.is ≡ at + length (write_flat_net (flat_net e k t))
  pub out_is : x.out ≡ store at (write_flat_net (flat_net e k t)) out
  pub rest : Rest (OutRegion (Of e k)) w x.ws
  pub net : (n : ℕ) → n < e.pools.nodes → (node_word x.ws n 0 ≡ node_word w n 0) ⊎ (node_word x.ws n 0 ≡ 0)

-- a net's bytes, part by part
parts : FlatNet → List ℕ
parts u = (be 2 u.name ++ be 1 (bit u.included)) ++ (be 4 u.wires ++ (be 1 (length u.free) ++ (concat_map (be 2) u.free
    ++ ((be 2 (length u.pairs) ++ concat_map write_pair u.pairs) ++ (be 2 (length u.nodes) ++ concat_map write_node u.nodes)))))

parts_are : (u : FlatNet) → write_flat_net u ≡ parts u
unfolding write_flat_net write_head counted parts
parts_are u = simp append_assoc

flat_parts : (e : Engine) (k : ℕ) (t : FlatNet) → write_flat_net (flat_net e k t)
    ≡ (be 2 t.name ++ be 1 (bit t.included)) ++ (be 4 (flat_net e k t).wires ++ (be 1 (length (flat_net e k t).free) ++ (concat_map (be 2) (flat_net e k t).free
    ++ (be 2 0 ++ (be 2 (length (flat_net e k t).nodes) ++ concat_map write_node (flat_net e k t).nodes)))))
unfolding parts flat_net
flat_parts e k t =
    parts_are (flat_net e k t)
    ∙ ap (λ (l : List ℕ). (be 2 t.name ++ be 1 (bit t.included)) ++ (be 4 (flat_net e k t).wires ++ (be 1 (length (flat_net e k t).free) ++ (concat_map (be 2) (flat_net e k t).free
    ++ (l ++ (be 2 (length (flat_net e k t).nodes) ++ concat_map write_node (flat_net e k t).nodes)))))) (append-nil (be 2 0))

numbers_long : (ns : List ℕ) → length (concat_map (be 2) ns) ≡ 2 * length ns
unfolding numbers
numbers_long ns = (size_numbers ns).is

-- the name and the mark, as they stand in the file
mark_copied : (s : List ℕ) (a : ℕ) (t : FlatNet) (r : List ℕ) → a ≤ length s → drop a s ≡ write_flat_net t ++ r
    → between s a (within s (a + 3)) ≡ be 2 t.name ++ be 1 (bit t.included)
unfolding parts
mark_copied s a t r h d =
    let mark = be 2 t.name ++ be 1 (bit t.included) in
    let others = be 4 t.wires ++ (be 1 (length t.free) ++ (concat_map (be 2) t.free
    ++ ((be 2 (length t.pairs) ++ concat_map write_pair t.pairs) ++ (be 2 (length t.nodes) ++ concat_map write_node t.nodes)))) in
    let e : drop a s ≡ mark ++ (others ++ r) = d ∙ ap (λ (l : List ℕ). l ++ r) (parts_are t) ∙ append_assoc mark others r in
    let p = (spans_front s a mark (others ++ r) h e).0 in
    let l = length-append (be 2 t.name) (be 1 (bit t.included)) in
    let l2 = length_be 2 t.name in
    let l1 = length_be 1 (bit t.included) in
    let i = p.inside in
    let z : within s (a + 3) ≡ a + length mark = omega arith in
    rw z (spans_between s a (a + length mark) mark p)

module _ (Named : ℕ → Name → Type 0) (ws : List ℕ) (e : Engine) (m : Means Named ws e) (well : WellWired (graph_of e)) (ported : Ported (graph_of e)) (path k : ℕ) (h : k < length e.nets) (s : List ℕ)
    (can : Writable ws s e path k) (w : List ℕ) (b : Whole Named ws e m k w) (t : FlatNet) where
  -- the count of nodes: the list's length less the stale entries and the free node
  live_nodes_is : live_nodes_words w (k + 1) ≡ length (flat_net e k t).nodes
  unfolding live_nodes_words net_at
  live_nodes_is =
      let few = m.header.few_nets in
      let n = m.nets k h in
      let a : net_word_words w (k + 1) 4 ≡ length (net_at e k).list.items = whole_low Named ws e m k w b _ (omega arith) ∙ n.length_is in
      let c : net_word_words w (k + 1) 6 ≡ (net_at e k).list.stale = whole_low Named ws e m k w b _ (omega arith) ∙ n.stale_is in
      let d = can.books in
      let i = tally_total (holds (graph_of e) k) e.pools.nodes in
      let j = all_but (holds (graph_of e) k) (net_at e k).home.free e.pools.nodes (of_inside Named ws e m k (net_at e k).home.free can.home.held) can.home.held in
      let l = nodes_many e k t can.lists in
      omega arith

  module _ (out : List ℕ) (from at : ℕ) (r : List ℕ) (here : from ≤ length s) (stands : drop from s ≡ write_flat_net t ++ r) (value : t ≡ flat_net_at s from)
      (free_many : length (flat_net e k t).free ≡ length t.free) (room : at + length (write_flat_net (flat_net e k t)) ≤ length out) (size : length out < 18446744073709551616) where
    pub write_included_is : NetDone e k t w out at (write_included w s out (k + 1) from at)
    unfolding write_included write_net_head write_counts on
    write_included_is =
        let u = flat_net e k t in
        let M : ℕ = 18446744073709551616 in
        let F = length u.free in
        let free_is : byte s (from + 7) ≡ F = sym (stored_free s from) ∙ ap (λ (v : FlatNet). length v.free) (sym value) ∙ sym free_many in
        let mark = be 2 t.name ++ be 1 (bit t.included) in
        let wires = be 4 u.wires in
        let count = be 1 F in
        let free = concat_map (be 2) u.free in
        let many = be 2 (length u.nodes) in
        let nodes = concat_map write_node u.nodes in
        let all = flat_parts e k t in
        let long = ap (λ (l : List ℕ). length l) all in
        let a1 = length-append mark (wires ++ (count ++ (free ++ (be 2 0 ++ (many ++ nodes))))) in
        let a2 = length-append wires (count ++ (free ++ (be 2 0 ++ (many ++ nodes)))) in
        let a3 = length-append count (free ++ (be 2 0 ++ (many ++ nodes))) in
        let a4 = length-append free (be 2 0 ++ (many ++ nodes)) in
        let a5 = length-append (be 2 0) (many ++ nodes) in
        let a6 = length-append many nodes in
        let a7 = length-append (be 2 t.name) (be 1 (bit t.included)) in
        let b1 = length_be 2 t.name in
        let b2 = length_be 1 (bit t.included) in
        let b3 = length_be 4 u.wires in
        let b4 = length_be 1 F in
        let b5 = length_be 2 0 in
        let b6 = length_be 2 (length u.nodes) in
        let b7 = numbers_long u.free in
        let o1 = store at mark out in
        let o2 = store (at + 7) count o1 in
        let o3 = store (at + (8 + 2 * F)) (be 2 0) o2 in
        let o4 = store (at + (8 + 2 * F) + 2) many o3 in
        let l1 = length_store out at mark (omega arith) in
        let l2 = length_store o1 (at + 7) count (omega arith) in
        let l3 = length_store o2 (at + (8 + 2 * F)) (be 2 0) (omega arith) in
        let l4 = length_store o3 (at + (8 + 2 * F) + 2) many (omega arith) in
        let z = write_list_is Named ws e m k h path s o4 w (at + 8) (at + (8 + 2 * F) + 4) t b well ported can.home can.spelt can.lists.low
        (can.lists.there (net_at e k).home.free can.home.held) (omega arith) (omega arith) (omega arith) in
        let e3 : (at + 3) % M ≡ at + 3 = omega arith in
        let e7 : (at + 7) % M ≡ at + 7 = omega arith in
        let e8 : (at + 8) % M ≡ at + 8 = omega arith in
        let ec : (at + (8 + 2 * F)) % M ≡ at + (8 + 2 * F) = omega arith in
        let ed : (at + (8 + 2 * F) + 2) % M ≡ at + (8 + 2 * F) + 2 = omega arith in
        let en : (at + (8 + 2 * F) + 4) % M ≡ at + (8 + 2 * F) + 4 = omega arith in
        rw (mark_copied s from t r here stands, free_is, live_nodes_is, be_two (length u.nodes), ec, e7, e8, ed, en, e3) (record {
          is = z.at_is ∙ (let q : at + (8 + 2 * F) + 4 + length nodes ≡ at + length (write_flat_net u) = omega arith in q);
          out_is = rw (z.wires, z.out_is) (net_layers out at mark wires count free (be 2 0) many nodes (omega arith) (at + 3) (at + 7) (at + 8) (at + (8 + 2 * F)) (at + (8 + 2 * F) + 2) (at + (8 + 2 * F) + 4)
              (omega arith) (omega arith) (omega arith) (omega arith) (omega arith) (omega arith) ∙ ap (λ (l : List ℕ). store at l out) (sym all));
          rest = z.rest;
          net = z.net;
        })
