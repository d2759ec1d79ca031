-- The nets measured: an included one without its nodes, another as it stands.
use Rattle.std.specs.Prelude.{ℕ, suc, ◌+◌, ◌*◌, ◌-◌, ◌%◌, ◌≤◌, ◌<◌, ◌≡◌, Bool, true, false, cond, length, drop}
use Rattle.std.proofs.Math.Path.{refl, ap}
use Rattle.std.proofs.Common.{sym, ◌∙◌, length-append}
use native.Mathlib.Omega.{arith}
use Rattle.std.proofs.Math.Option.{Option, none, some}
use mathlib.Core.List.{List, [], ◌∷◌, map}
use Rattle.std.proofs.Math.Dec.{eqb}
use Rattle.words.specs.Choose.{pick, pick_true, pick_false}
use Rattle.net_file.specs.Lists.{ok, concat_map, sum}
use Rattle.net_file.specs.Values.{FlatNode, FlatNet, File}
use Rattle.net_file.specs.Write.{write_flat_net}
use Rattle.net_file.specs.Checks.{flat, read}
use Rattle.net_file_laws.specs.Bytes.{Bytes}
use Rattle.net_file_laws.specs.Exact.{Each}
use Rattle.net_file_laws.specs.Flat.{FlatNetFits}
use Rattle.fields.specs.Fields.{byte, be16}
use Rattle.stored.specs.Stored.{numbers_at, list_at, node_at, node_end, nodes_at, node_count_at, flat_net_at, flat_net_end}
use Rattle.stored.specs.Laws.{table_length}
use Rattle.ends.specs.Ends.{within}
use Rattle.definitions.specs.Nets.{Graph, arity}
use Rattle.definitions.specs.State.{Net, Engine, graph_of, net_at}
use Rattle.definitions.specs.Visit.{get_net}
use Rattle.definitions.specs.Finish.{flat_net, finish_net}
use Rattle.parts_placed.specs.Spans.{Spans, Found}
use Rattle.parts_placed.specs.Tables.{net_found}
use Rattle.measure.specs.Measure.{plus, with_net, nets_size}
use Rattle.measure.specs.declared.Size.{Size}
use Rattle.measure_means.specs.Sums.{total}
use Rattle.measure_means.specs.Slots.{Counts, counts_plus, node_length, net_total}
use Rattle.measure_means.specs.Lengths.{Lists, nodes_many, net_long}

-- the nets ts of a file are the engine's nets from k on, in order, and others that it has not
pub data Follows (e : Engine) : ℕ → List FlatNet → Type 0 where
  all : Follows e (length e.nets) []
  anew : {k : ℕ} {t : FlatNet} {ts : List FlatNet} → t.included ≡ true → get_net e t.name ≡ some k → k < length e.nets
      → arity (graph_of e) (net_at e k).home.free ≡ 2 + length t.free → Follows e (suc k) ts → Follows e k (t ∷ ts)
  kept : {k : ℕ} {t : FlatNet} {ts : List FlatNet} → t.included ≡ false → get_net e t.name ≡ none → Follows e k ts → Follows e k (t ∷ ts)

-- what is measured of a net besides an included one's nodes: nodes, and bytes
abbrev pub counted_nodes : FlatNet → ℕ
counted_nodes t = cond t.included 0 (length t.nodes)

abbrev pub counted_bytes : FlatNet → ℕ
counted_bytes t = cond t.included (12 + 2 * length t.free) (length (write_flat_net t))

-- ---- what stands in the file

module _ (s : List ℕ) (at : ℕ) where
  pub stored_free : length (flat_net_at s at).free ≡ byte s (at + 7)
  unfolding flat_net_at list_at numbers_at
  stored_free = table_length s (be16 s) (λ a. a + 2) (at + 7 + 1) (byte s (at + 7))

  stored_nodes : length (flat_net_at s at).nodes ≡ be16 s (node_count_at s at)
  unfolding flat_net_at nodes_at
  stored_nodes = table_length s (node_at s) (node_end s) (node_count_at s at + 2) (be16 s (node_count_at s at))

  pub stored_mark : (flat_net_at s at).included ≡ eqb (byte s (at + 2)) 1
  unfolding flat_net_at
  stored_mark = refl

module _ (s : List ℕ) (is : Bytes s) (f : File FlatNet) (ok_f : read flat s ≡ ok f) where
  -- one net
  with_net_is : (t : FlatNet) (at : ℕ) (size : Size) (a b : ℕ) → t ≡ flat_net_at s at → Spans s at (flat_net_end s at) (write_flat_net t) → Counts size a b
      → Counts (with_net s at (flat_net_end s at) size) (counted_nodes t + a) (counted_bytes t + b)
  unfolding with_net
  with_net_is t at size a b v p c = go t.included refl
    where
      mark : t.included ≡ eqb (byte s (at + 2)) 1
      mark = ap (λ (u : FlatNet). u.included) v ∙ stored_mark s at

      free : byte s (at + 7) ≡ length t.free
      free = sym (ap (λ (u : FlatNet). length u.free) v ∙ stored_free s at)

      nodes : be16 s (node_count_at s at) ≡ length t.nodes
      nodes = sym (ap (λ (u : FlatNet). length u.nodes) v ∙ stored_nodes s at)

      long : flat_net_end s at - at ≡ length (write_flat_net t)
      long = let e = p.end in omega arith

      go : (x : Bool) → t.included ≡ x
          → Counts (pick (eqb (byte s (at + 2)) 1) (plus size 0 (12 + 2 * byte s (at + 7))) (plus size (be16 s (node_count_at s at)) (flat_net_end s at - at)))
          (cond x 0 (length t.nodes) + a) (cond x (12 + 2 * length t.free) (length (write_flat_net t)) + b)
      go true e = rw (← pick_true (eqb (byte s (at + 2)) 1) (plus size 0 (12 + 2 * byte s (at + 7))) (plus size (be16 s (node_count_at s at)) (flat_net_end s at - at)) (sym mark ∙ e) refl, free) (counts_plus 0 (12 + 2 * length t.free) c)
      go false e = rw (← pick_false (eqb (byte s (at + 2)) 1) (plus size 0 (12 + 2 * byte s (at + 7))) (plus size (be16 s (node_count_at s at)) (flat_net_end s at - at)) (sym mark ∙ e) refl, nodes, long) (counts_plus (length t.nodes) (length (write_flat_net t)) c)

  -- the first, then the others
  nets_cons : (at k : ℕ) (size : Size) → flat_net_end s at ≤ length s → nets_size s at (suc k) size ≡ nets_size s (flat_net_end s at) k (with_net s at (flat_net_end s at) size)
  unfolding nets_size
  nets_cons at k size h = let end : within s (flat_net_end s at) ≡ flat_net_end s at = omega arith in rw end

  -- one after another
  pub nets_size_is : (ts : List FlatNet) (at : ℕ) (size : Size) (a b : ℕ) → Each (FlatNetFits (length f.paths) (length f.names)) ts → at ≤ length s
      → drop at s ≡ concat_map write_flat_net ts → Counts size a b
      → Counts (nets_size s at (length ts) size) (sum (map counted_nodes ts) + a) (sum (map counted_bytes ts) + b)
  unfolding nets_size
  nets_size_is [] at size a b h i d c = record { nodes_are = let e = c.nodes_are in omega arith; bytes_are = let e = c.bytes_are in omega arith }
  nets_size_is (t ∷ ts) at size a b h i d c =
      let x = net_found s is f ok_f at t (concat_map write_flat_net ts) h.0 i d in
      let inside = x.spans.inside in
      let r = nets_size_is ts (flat_net_end s at) (with_net s at (flat_net_end s at) size) _ _ h.1 inside (sym x.rest) (with_net_is t at size a b x.value x.spans c) in
      rw (nets_cons at (length ts) size inside) (record {
        nodes_are = r.nodes_are ∙ (let z : sum (map counted_nodes ts) + (counted_nodes t + a) ≡ counted_nodes t + sum (map counted_nodes ts) + a = omega arith in ap (λ (n : ℕ). n % 18446744073709551616) z);
        bytes_are = r.bytes_are ∙ (let z : sum (map counted_bytes ts) + (counted_bytes t + b) ≡ counted_bytes t + sum (map counted_bytes ts) + b = omega arith in ap (λ (n : ℕ). n % 18446744073709551616) z);
      })

-- ---- what comes out

module _ (e : Engine) where
  -- an included net
  pub finish_anew : (t : FlatNet) (k : ℕ) → get_net e t.name ≡ some k → finish_net e t ≡ flat_net e k t
  unfolding finish_net
  finish_anew t k h = ap (λ (o : Option ℕ). elim o as (λ _. FlatNet) [ none ↦ t | some k ↦ flat_net e k t ]) h

  pub finish_kept : (t : FlatNet) → get_net e t.name ≡ none → finish_net e t ≡ t
  unfolding finish_net
  finish_kept t h = ap (λ (o : Option ℕ). elim o as (λ _. FlatNet) [ none ↦ t | some k ↦ flat_net e k t ]) h

module _ (e : Engine) (lists : (k : ℕ) → k < length e.nets → Lists e k) where
  pub nets_bytes : (k : ℕ) (ts : List FlatNet) → Follows e k ts
      → total (net_total e (node_length (graph_of e))) k + length (concat_map write_flat_net (map (finish_net e) ts))
      ≡ sum (map counted_bytes ts) + total (net_total e (node_length (graph_of e))) (length e.nets)
  nets_bytes k [] all = omega arith
  nets_bytes k (t ∷ ts) (anew m h i a r) =
      let x = length-append (write_flat_net (finish_net e t)) (concat_map write_flat_net (map (finish_net e) ts)) in
      let y : length (write_flat_net (finish_net e t)) ≡ 12 + 2 * length t.free + net_total e (node_length (graph_of e)) k
      = ap (λ (u : FlatNet). length (write_flat_net u)) (finish_anew e t k h) ∙ net_long e k t (lists k i) a in
      let z : counted_bytes t ≡ 12 + 2 * length t.free = ap (λ (b : Bool). cond b (12 + 2 * length t.free) (length (write_flat_net t))) m in
      let n = nets_bytes (suc k) ts r in
      omega arith
  nets_bytes k (t ∷ ts) (kept m h r) =
      let x = length-append (write_flat_net (finish_net e t)) (concat_map write_flat_net (map (finish_net e) ts)) in
      let y : length (write_flat_net (finish_net e t)) ≡ length (write_flat_net t) = ap (λ (u : FlatNet). length (write_flat_net u)) (finish_kept e t h) in
      let z : counted_bytes t ≡ length (write_flat_net t) = ap (λ (b : Bool). cond b (12 + 2 * length t.free) (length (write_flat_net t))) m in
      let n = nets_bytes k ts r in
      omega arith

  pub nets_nodes_lem : (k : ℕ) (ts : List FlatNet) → Follows e k ts
      → total (net_total e (λ _. 1)) k + sum (map (λ (t : FlatNet). length t.nodes) (map (finish_net e) ts)) ≡ sum (map counted_nodes ts) + total (net_total e (λ _. 1)) (length e.nets)
  nets_nodes_lem k [] all = omega arith
  nets_nodes_lem k (t ∷ ts) (anew m h i a r) =
      let y : length (finish_net e t).nodes ≡ net_total e (λ _. 1) k = ap (λ (u : FlatNet). length u.nodes) (finish_anew e t k h) ∙ nodes_many e k t (lists k i) in
      let z : counted_nodes t ≡ 0 = ap (λ (b : Bool). cond b 0 (length t.nodes)) m in
      let n = nets_nodes_lem (suc k) ts r in
      omega arith
  nets_nodes_lem k (t ∷ ts) (kept m h r) =
      let y : length (finish_net e t).nodes ≡ length t.nodes = ap (λ (u : FlatNet). length u.nodes) (finish_kept e t h) in
      let z : counted_nodes t ≡ length t.nodes = ap (λ (b : Bool). cond b 0 (length t.nodes)) m in
      let n = nets_nodes_lem k ts r in
      omega arith
