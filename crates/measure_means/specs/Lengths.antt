-- How long the parts of a result are: a node, a net's nodes, a net.
use Rattle.std.specs.Prelude.{ℕ, zero, suc, ◌+◌, ◌*◌, ◌<◌, ◌≡◌, refl, Bool, true, false, not, drop, eqb}
use Rattle.std.proofs.Common.{◌∙◌}
use native.Mathlib.Omega.{arith}
use Rattle.std.proofs.Math.Bool.{cond}
use mathlib.Core.List.{List, [], ◌∷◌, ◌++◌, map, Memᴰ}
use Rattle.std.proofs.Math.ListN.{length, length-append}
use Rattle.std.proofs.lemmas.List.{length-map}
use Rattle.net_file.specs.Lists.{bit, concat_map, sum}
use Rattle.net_file.specs.Values.{Name, FlatNode, FlatNet}
use Rattle.net_file.specs.Write.{be, counted, write_name, write_node, write_head, write_flat_net}
use Rattle.net_file_laws.specs.Bytes.{length_be}
use Rattle.put.specs.Laws.{Size}
use Rattle.put.specs.Fields.{size_counted}
use Rattle.dirty_laws.specs.Tally.{off, off_true}
use Rattle.definitions.specs.Lists.{keep, from}
use Rattle.definitions.specs.Nets.{Port, Graph, port, holds, name_of, arity, ports, aux}
use Rattle.definitions.specs.State.{Ids, Net, Engine, graph_of, net_at}
use Rattle.definitions.specs.Books.{tight}
use Rattle.definitions.specs.Finish.{wire_number, wires_met, flat_node, live_nodes, flat_net}
use Rattle.finish_laws.specs.Fits.{length_from}
use Rattle.tighten_means.specs.Sieve.{sieve, sieve_firsts}
use Rattle.measure_means.specs.Sums.{sum_sieve}
use Rattle.measure_means.specs.Slots.{node_length, net_total}

name_long : (m : Name) → length (write_name m) ≡ 11 + 2 * length m.children
unfolding write_name
name_long m =
    let a = (size_counted m.children).is in
    let b = length-append (be 2 m.path ++ be 8 m.payload) (counted 1 (be 2) m.children) in
    let c = length-append (be 2 m.path) (be 8 m.payload) in
    let d = length_be 2 m.path in
    let e = length_be 8 m.payload in
    omega arith

aux_long : (g : Graph) (n : ℕ) → 0 < arity g n → length (aux g n) + 1 ≡ arity g n
unfolding aux ports
aux_long g n h = go (arity g n) h
  where
    go : (a : ℕ) → 0 < a → length (drop 1 (map (port n) (from 0 a))) + 1 ≡ a
    go zero i = absurd (omega arith)
    go (suc a) i = let b = length-map (from 1 a) (port n) in let c = length_from a 1 in omega arith

node_long : (g : Graph) (whole : List Port) (n : ℕ) → 0 < arity g n → length (write_node (flat_node g whole n)) ≡ node_length g n
unfolding write_node flat_node
node_long g whole n h =
    let name = write_name (name_of g n) in
    let pri = be 2 (wire_number g whole (port n 0)) in
    let others = map (wire_number g whole) (aux g n) in
    let a = name_long (name_of g n) in
    let b = length_be 2 (wire_number g whole (port n 0)) in
    let c = (size_counted others).is in
    let d = length-map (aux g n) (wire_number g whole) in
    let e = aux_long g n h in
    let l = length-append (name ++ pri) (counted 1 (be 2) others) in
    let k = length-append name pri in
    omega arith

-- a net's nodes but its free node
module _ (g : Graph) (whole : List Port) (free : ℕ) where
  -- in bytes
  bytes_sum : (l : List ℕ) (b : ℕ → Bool) → ((n : ℕ) → b n ≡ true → 0 < arity g n)
      → length (concat_map write_node (map (flat_node g whole) (keep (λ n. not (eqb n free)) (sieve b l)))) ≡ sum (map (λ m. cond (eqb m free) 0 (node_length g m)) (sieve b l))
  bytes_sum [] b h = refl
  bytes_sum (x ∷ l) b h = go (b x) refl (bytes_sum l (off b x) (λ n i. h n (off_true b x n i).0)) (bytes_sum l b h)
    where
      one : (t : Bool) (ids : List ℕ) → 0 < arity g x
          → length (concat_map write_node (map (flat_node g whole) (keep (λ n. not (eqb n free)) ids))) ≡ sum (map (λ m. cond (eqb m free) 0 (node_length g m)) ids)
          → length (concat_map write_node (map (flat_node g whole) (elim (not t) as (λ _. List ℕ) [ true ↦ x ∷ keep (λ n. not (eqb n free)) ids | false ↦ keep (λ n. not (eqb n free)) ids ])))
          ≡ cond t 0 (node_length g x) + sum (map (λ m. cond (eqb m free) 0 (node_length g m)) ids)
      one true ids i e = omega arith
      one false ids i e =
          let a = length-append (write_node (flat_node g whole x)) (concat_map write_node (map (flat_node g whole) (keep (λ n. not (eqb n free)) ids))) in
          let c = node_long g whole x i in
          omega arith

      go : (t : Bool) → b x ≡ t
          → length (concat_map write_node (map (flat_node g whole) (keep (λ n. not (eqb n free)) (sieve (off b x) l)))) ≡ sum (map (λ m. cond (eqb m free) 0 (node_length g m)) (sieve (off b x) l))
          → length (concat_map write_node (map (flat_node g whole) (keep (λ n. not (eqb n free)) (sieve b l)))) ≡ sum (map (λ m. cond (eqb m free) 0 (node_length g m)) (sieve b l))
          → length (concat_map write_node (map (flat_node g whole) (keep (λ n. not (eqb n free)) (elim t as (λ _. List ℕ) [ true ↦ x ∷ sieve (off b x) l | false ↦ sieve b l ]))))
          ≡ sum (map (λ m. cond (eqb m free) 0 (node_length g m)) (elim t as (λ _. List ℕ) [ true ↦ x ∷ sieve (off b x) l | false ↦ sieve b l ]))
      go true e r s = one (eqb x free) (sieve (off b x) l) (h x e) r
      go false e r s = s

  -- by number
  count_sum : (ids : List ℕ) → length (map (flat_node g whole) (keep (λ n. not (eqb n free)) ids)) ≡ sum (map (λ m. cond (eqb m free) 0 1) ids)
  count_sum [] = refl
  count_sum (x ∷ ids) = go (eqb x free) (count_sum ids)
    where
      go : (t : Bool) → length (map (flat_node g whole) (keep (λ n. not (eqb n free)) ids)) ≡ sum (map (λ m. cond (eqb m free) 0 1) ids)
          → length (map (flat_node g whole) (elim (not t) as (λ _. List ℕ) [ true ↦ x ∷ keep (λ n. not (eqb n free)) ids | false ↦ keep (λ n. not (eqb n free)) ids ]))
          ≡ cond t 0 1 + sum (map (λ m. cond (eqb m free) 0 1) ids)
      go true e = omega arith
      go false e = omega arith

-- a net has as many free wires as its free node has ports from 2 on
pub free_wires_lem : (e : Engine) (k : ℕ) (t : FlatNet) → arity (graph_of e) (net_at e k).home.free ≡ 2 + length t.free → length (flat_net e k t).free ≡ length t.free
unfolding flat_net ports
free_wires_lem e k t a = length-map (drop 2 (ports (graph_of e) (net_at e k).home.free)) _ ∙ go (arity (graph_of e) (net_at e k).home.free) (net_at e k).home.free t.free a
  where
    go : (n free : ℕ) (ws : List ℕ) → n ≡ 2 + length ws → length (drop 2 (map (port free) (from 0 n))) ≡ length ws
    go zero free ws e = absurd (omega arith)
    go (suc zero) free ws e = absurd (omega arith)
    go (suc (suc n)) free ws e = length-map (from 2 n) (port free) ∙ length_from n 2 ∙ (let z : n ≡ length ws = omega arith in z)

-- net k of e: its list has its nodes, and slots alone
pub record Lists (e : Engine) (k : ℕ) : Type 0 where
  pub low : (n : ℕ) → Memᴰ n (net_at e k).list.items → n < e.pools.nodes
  pub there : (n : ℕ) → holds (graph_of e) k n ≡ true → Memᴰ n (net_at e k).list.items
  pub ported : (n : ℕ) → holds (graph_of e) k n ≡ true → 0 < arity (graph_of e) n

module _ (e : Engine) (k : ℕ) (t : FlatNet) (h : Lists e k) where
  pub nodes_long : length (concat_map write_node (flat_net e k t).nodes) ≡ net_total e (node_length (graph_of e)) k
  unfolding flat_net live_nodes tight
  nodes_long =
      let g = graph_of e in
      let items = (net_at e k).list.items in
      let free = (net_at e k).home.free in
      let whole = wires_met g (live_nodes e k) in
      rw (← sieve_firsts (holds g k) items) (bytes_sum g _ free items (holds g k) h.ported
      ∙ sum_sieve (λ m. cond (eqb m free) 0 (node_length g m)) items (holds g k) e.pools.nodes h.low (λ n i. h.there n))

  pub nodes_many : length (flat_net e k t).nodes ≡ net_total e (λ _. 1) k
  unfolding flat_net live_nodes tight
  nodes_many =
      let g = graph_of e in
      let items = (net_at e k).list.items in
      let free = (net_at e k).home.free in
      rw (← sieve_firsts (holds g k) items) (count_sum g _ free (sieve (holds g k) items)
      ∙ sum_sieve (λ m. cond (eqb m free) 0 1) items (holds g k) e.pools.nodes h.low (λ n i. h.there n))

  -- the whole net, written: its free node has 2 more ports than t has free wires
  pub net_long : arity (graph_of e) (net_at e k).home.free ≡ 2 + length t.free
      → length (write_flat_net (flat_net e k t)) ≡ 12 + 2 * length t.free + net_total e (node_length (graph_of e)) k
  unfolding write_flat_net write_head flat_net counted ports
  net_long a =
      let g = graph_of e in
      let u = flat_net e k t in
      let free = (net_at e k).home.free in
      let head = be 2 t.name ++ be 1 (bit t.included) ++ be 4 u.wires in
      let x1 = length-append (head ++ counted 1 (be 2) u.free ++ (be 2 0 ++ [])) (be 2 (length u.nodes) ++ concat_map write_node u.nodes) in
      let x2 = length-append (head ++ counted 1 (be 2) u.free) (be 2 0 ++ []) in
      let x3 = length-append head (counted 1 (be 2) u.free) in
      let x4 = length-append (be 2 t.name ++ be 1 (bit t.included)) (be 4 u.wires) in
      let x5 = length-append (be 2 t.name) (be 1 (bit t.included)) in
      let x6 = length-append (be 2 (length u.nodes)) (concat_map write_node u.nodes) in
      let x7 = length-append {A = ℕ} (be 2 0) [] in
      let y1 = length_be 2 t.name in
      let y2 = length_be 1 (bit t.included) in
      let y3 = length_be 4 u.wires in
      let y4 = length_be 2 0 in
      let y5 = length_be 2 (length u.nodes) in
      let y6 = (size_counted u.free).is in
      let y7 : length u.free ≡ length t.free = free_wires_lem e k t a in
      let y8 = nodes_long in
      omega arith
