-- One node written: the free node's wires, or a node's name and wires.
use Prim.Native.Nat.{ℕ, suc, ◌+◌, ◌*◌, ◌-◌, ◌%◌, ◌/◌, ◌<◌, ◌≤◌}
use Rattle.std.specs.Prelude.{◌≡◌, refl, take}
use Rattle.std.proofs.Math.Path.{sym, ap, subst}
use Rattle.std.proofs.Common.{◌∙◌, length-take, length-drop}
use mathlib.Core.List.{List, [], ◌∷◌, ◌++◌, map, append_assoc}
use Rattle.std.proofs.Math.ListN.{length, drop, length-map, length-append}
use native.Mathlib.Omega.{arith}
use Rattle.words.specs.Choose.{lt_no}
use Rattle.layout.specs.Layout.{next, less, node_word, principal}
use Rattle.net_file.specs.Values.{Name, FlatNode}
use Rattle.net_file.specs.Write.{be, counted, write_name, write_node}
use Rattle.stored.specs.Stored.{name_end}
use Rattle.ends.specs.Ends.{within}
use Rattle.put.specs.Written.{part}
use Rattle.put.specs.Fields.{size_be, size_counted}
use Rattle.put.specs.Laws.{Size}
use Rattle.store.specs.Store.{store, between}
use Rattle.definitions.specs.Lists.{from}
use Rattle.definitions.specs.Nets.{Port, Graph, port, name_of, arity, ports, aux, follow}
use Rattle.definitions.specs.Finish.{wire_at, wire_number, flat_node}
use Rattle.finish_laws.specs.Wires.{wire_across}
use Rattle.finish_laws.specs.Fits.{length_from}
use Rattle.means.specs.Means.{number}
use Rattle.means.specs.Frame.{Rest, rest_trans}
use Rattle.write_nodes.specs.Wrote.{Wrote}
use Rattle.write_nodes.specs.Nodes.{on, wire_number_words, after_wire, write_wire, aux_ports, free_ports, write_free, write_name_words, write_ports, write_node_words}
use Rattle.write_nodes.specs.declared.Pen.{Pen}
use Rattle.wires_means.specs.Met.{meet, meets, meet_old, meet_met, Front, front_back}
use Rattle.wires_means.specs.Stores.{length_store, store_then}
use Rattle.wires_means.specs.Wires.{Region, WireIs, wire_number_is}
use Rattle.wires_means.specs.Rows.{Ready, Drew, wire_bytes, row, length_row, write_wire_is, write_wires_is}

-- the wires met with those of node n
abbrev pub with_node : Graph → List Port → ℕ → List Port
with_node g d n = meets d (map (wire_at g) (ports g n))

-- the name x stands at place a of the file
abbrev pub Spelt : List ℕ → ℕ → Name → Type 0
Spelt file a x = between file a (within file (name_end file a)) ≡ write_name x

-- one byte holds what of a number one byte can
be_one : (n : ℕ) → be 1 (n % 256) ≡ be 1 n
unfolding be
be_one n = let a : n % 256 / 1 % 256 ≡ n / 1 % 256 = omega arith in λ i. a i ∷ []

-- three parts, each right after the other
three_parts : (out o1 : List ℕ) (at a b : ℕ) (xs ys zs : List ℕ) → o1 ≡ store at xs out → a ≡ at + length xs → b ≡ a + length ys
    → at + (length xs + (length ys + length zs)) ≤ length out → store b zs (store a ys o1) ≡ store at (xs ++ (ys ++ zs)) out
three_parts out o1 at a b xs ys zs e ea eb room =
    let l = length-append ys zs in
    let m = length_store out at xs (omega arith) in
    rw (eb, ea, e) (store_then (store at xs out) (at + length xs) ys zs (omega arith) ∙ store_then out at xs (ys ++ zs) (omega arith))

pub length_between : (s : List ℕ) (from to : ℕ) → to ≤ length s → length (between s from to) ≡ to - from
unfolding between part
length_between s from to h =
    let e : take (to - from) (drop from s) ≡ between s from to = lt_no _ _ _ _ h refl in
    let a = length-take (to - from) (drop from s) in
    let b = length-drop from s in
    rw (← e) (omega arith)

aux_long : (g : Graph) (n k : ℕ) → arity g n ≡ suc k → length (aux g n) ≡ k
unfolding aux ports
aux_long g n k e = ap (λ (a : ℕ). length (drop 1 (map (port n) (from 0 a)))) e ∙ length-map (from 1 k) (port n) ∙ length_from k 1

module _ {g : Graph} {N : ℕ} {D : ℕ → Type 0} (r : Region g N D) (whole : List Port) (few : length whole < 2147483648) where
  -- the free node: its own wire has a number, its other wires are written at a place of their own
  pub write_free_is : (ws out : List ℕ) (d : List Port) (n k at : ℕ) (pen : Pen) → Ready g N D d ws pen → D n → arity g n ≡ suc (suc k) → node_word ws n 3 ≡ arity g n
      → follow g (port n 0) ≡ port n 1 → Front (with_node g d n) whole → at + 2 * k ≤ length out → length out < 18446744073709551616
      → Drew g N D ws out at pen.at (with_node g d n) (wire_bytes g whole (drop 2 (ports g n))) (write_free ws out n at pen)
  unfolding write_free free_ports aux_ports ports
  write_free_is ws out d n k at pen y mine size_is says own f room size =
      let p = port n 0 in
      let x = wire_at g p in
      let xs = map (wire_at g) (row n 2 k) in
      let inside = r.inside n mine in
      let small = r.small in
      let low = r.few n in
      let again : wire_at g (port n 1) ≡ x = rw own at (wire_across g r.wired p (omega arith)) in
      let twice : meet (meet d x) (wire_at g (port n 1)) ≡ meet d x = rw again (meet_old (meet d x) x (meet_met d x)) in
      let all : map (wire_at g) (map (port n) (from 0 (arity g n))) ≡ x ∷ wire_at g (port n 1) ∷ xs = ap (λ (a : ℕ). map (wire_at g) (map (port n) (from 0 a))) size_is in
      let now_met : with_node g d n ≡ meets (meet d x) xs = ap (meets d) all ∙ ap (λ (c : List Port). meets c xs) twice in
      let later : drop 2 (ports g n) ≡ row n 2 k = ap (λ (a : ℕ). drop 2 (map (port n) (from 0 a))) size_is in
      let f' : Front (meets (meet d x) xs) whole = subst (λ (c : List Port). Front c whole) now_met f in
      let z : WireIs g D d whole ws p (wire_number_words ws (number p) pen.wire)
      = rw y.wire (wire_number_is r ws d whole few y.long y.ports p mine (omega arith) (front_back xs f')) in
      let one = wire_number_words ws (number p) pen.wire in
      let start : Pen = record { at = at; wire = after_wire pen.wire one.is } in
      let begun : Ready g N D (meet d x) one.ws start
      = record { long = let l = y.long in let k = z.rest.long in omega arith; ports = z.ports; wire = rw y.wire (rw y.wire at z.after) } in
      let b = write_wires_is r whole few k 2 one.ws out (meet d x) n start begun mine (omega arith) f' room size in
      let e1 : principal n ≡ number p = omega arith in
      let e2 : next (next (number p)) ≡ number (port n 2) = omega arith in
      let e3 : less (less (node_word ws n 3)) ≡ k = omega arith in
      rw (e1, e2, e3, now_met, later) (record {
        end_is = refl;
        ready = record { long = b.ready.long; ports = b.ready.ports; wire = b.ready.wire };
        rest = rest_trans z.rest b.rest;
        out_is = b.out_is;
      })

  -- a node's wires: the principal one, how many others, these
  pub write_ports_is : (ws out : List ℕ) (d : List Port) (n k : ℕ) (pen : Pen) → Ready g N D d ws pen → D n → arity g n ≡ suc k → node_word ws n 3 ≡ arity g n
      → Front (with_node g d n) whole → pen.at + (3 + 2 * k) ≤ length out → length out < 18446744073709551616
      → Drew g N D ws out pen.at (pen.at + (3 + 2 * k)) (with_node g d n) (be 2 (wire_number g whole (port n 0)) ++ counted 1 (be 2) (map (wire_number g whole) (aux g n)))
      (write_ports ws out n pen)
  unfolding write_ports aux_ports ports aux on counted
  write_ports_is ws out d n k pen y mine size_is says f room size =
      let p = port n 0 in
      let x = wire_at g p in
      let xs = map (wire_at g) (row n 1 k) in
      let inside = r.inside n mine in
      let small = r.small in
      let low = r.few n in
      let all : with_node g d n ≡ meets (meet d x) xs = ap (λ (a : ℕ). meets d (map (wire_at g) (map (port n) (from 0 a)))) size_is in
      let later : aux g n ≡ row n 1 k = ap (λ (a : ℕ). drop 1 (map (port n) (from 0 a))) size_is in
      let f' : Front (meets (meet d x) xs) whole = subst (λ (c : List Port). Front c whole) all f in
      let first = write_wire_is r whole few ws out d p pen y mine (omega arith) (front_back xs f') (omega arith) size in
      let a = write_wire ws out (number p) pen in
      let pri = be 2 (wire_number g whole p) in
      let two : length pri ≡ 2 = (size_be 2 (wire_number g whole p)).is in
      let one : length (be 1 k) ≡ 1 = (size_be 1 k).is in
      let bytes = wire_bytes g whole (row n 1 k) in
      let more : length bytes ≡ 2 * k = length_row g whole n 1 k in
      let long : length a.out ≡ length out = rw first.out_is (length_store out pen.at pri (omega arith)) in
      let o2 = store a.is.at (be 1 k) a.out in
      let e = first.end_is in
      let long2 : length o2 ≡ length a.out = length_store a.out a.is.at (be 1 k) (omega arith) in
      let start : Pen = record { at = (a.is.at + 1) % 18446744073709551616; wire = a.is.wire } in
      let begun : Ready g N D (meet d x) a.ws start = record { long = first.ready.long; ports = first.ready.ports; wire = first.ready.wire } in
      let b = write_wires_is r whole few k 1 a.ws o2 (meet d x) n start begun mine (omega arith) f' (omega arith) (omega arith) in
      let e1 : principal n ≡ number p = omega arith in
      let e2 : next (number p) ≡ number (port n 1) = omega arith in
      let e3 : less (node_word ws n 3) ≡ k = omega arith in
      let e4 : be 1 (k % 256) ≡ be 1 k = be_one k in
      let count : length (map (wire_number g whole) (row n 1 k)) ≡ k = length-map (row n 1 k) (wire_number g whole) ∙ length-map (from 1 k) (port n) ∙ length_from k 1 in
      rw (e1, e2, e3, e4, all, later, count) (record {
        end_is = b.end_is ∙ (let z : (a.is.at + 1) % 18446744073709551616 + 2 * k ≡ pen.at + (3 + 2 * k) = omega arith in z);
        ready = b.ready;
        rest = rest_trans first.rest b.rest;
        out_is = b.out_is ∙ three_parts out a.out pen.at a.is.at ((a.is.at + 1) % 18446744073709551616) pri (be 1 k) bytes first.out_is (omega arith) (omega arith) (omega arith);
      })

  -- a node: its name as the file has it, its wires
  pub write_node_is : (ws file out : List ℕ) (d : List Port) (n k : ℕ) (pen : Pen) → Ready g N D d ws pen → D n → arity g n ≡ suc k → node_word ws n 3 ≡ arity g n
      → Spelt file (node_word ws n 1) (name_of g n) → Front (with_node g d n) whole
      → pen.at + length (write_node (flat_node g whole n)) ≤ length out → length out < 18446744073709551616
      → Drew g N D ws out pen.at (pen.at + length (write_node (flat_node g whole n))) (with_node g d n) (write_node (flat_node g whole n)) (write_node_words ws file out n pen)
  unfolding write_node_words write_name_words on write_node flat_node
  write_node_is ws file out d n k pen y mine size_is says spelt f room size =
      let a = node_word ws n 1 in
      let name = write_name (name_of g n) in
      let pri = be 2 (wire_number g whole (port n 0)) in
      let others = counted 1 (be 2) (map (wire_number g whole) (aux g n)) in
      let end : within file (name_end file a) - a ≡ length name = sym (length_between file a (within file (name_end file a)) (omega arith)) ∙ ap (λ (l : List ℕ). length l) spelt in
      let two : length pri ≡ 2 = (size_be 2 (wire_number g whole (port n 0))).is in
      let count : length others ≡ 1 + 2 * k = counted_long n k size_is in
      let l1 = length-append pri others in
      let l2 = length-append name pri in
      let l3 = length-append (name ++ pri) others in
      let long = length_store out pen.at name (omega arith) in
      let start : Pen = record { at = pen.at + length name; wire = pen.wire } in
      let begun : Ready g N D d ws start = record { long = y.long; ports = y.ports; wire = y.wire } in
      let b = write_ports_is ws (store pen.at name out) d n k start begun mine size_is says f (omega arith) (omega arith) in
      let e : (pen.at + length name) % 18446744073709551616 ≡ pen.at + length name = omega arith in
      rw (spelt, end, e) (record {
        end_is = b.end_is ∙ (let z : pen.at + length name + (3 + 2 * k) ≡ pen.at + length (name ++ pri ++ others) = omega arith in z);
        ready = b.ready;
        rest = b.rest;
        out_is = b.out_is ∙ store_then out pen.at name (pri ++ others) (omega arith) ∙ ap (λ (l : List ℕ). store pen.at l out) (sym (append_assoc name pri others));
      })
    where
      counted_long : (n k : ℕ) → arity g n ≡ suc k → length (counted 1 (be 2) (map (wire_number g whole) (aux g n))) ≡ 1 + 2 * k
      counted_long n k e =
          let a = (size_counted (map (wire_number g whole) (aux g n))).is in
          let b = length-map (aux g n) (wire_number g whole) in
          let c = aux_long g n k e in
          omega arith
