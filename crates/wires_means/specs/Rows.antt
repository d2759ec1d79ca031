-- The wires of ports in a row, written: two bytes for each, its number.
use Prim.Native.Nat.{ℕ, zero, suc, ◌+◌, ◌*◌, ◌%◌, ◌/◌, ◌<◌, ◌≤◌}
use Rattle.std.specs.Prelude.{◌≡◌, List, [], ◌∷◌, ◌++◌, map}
use Rattle.std.proofs.Math.Path.{refl}
use Rattle.std.proofs.Common.{◌∙◌}
use Rattle.std.proofs.Math.ListN.{length}
use Rattle.std.proofs.lemmas.List.{length-map}
use native.Mathlib.Omega.{arith}
use Rattle.layout.specs.Layout.{next}
use Rattle.net_file.specs.Lists.{concat_map}
use Rattle.net_file.specs.Write.{be}
use Rattle.definitions.specs.Lists.{from}
use Rattle.definitions.specs.Nets.{Port, Graph, port, arity}
use Rattle.definitions.specs.Finish.{wire_at, wire_number}
use Rattle.join_laws.specs.Ports.{Real}
use Rattle.finish_laws.specs.Fits.{length_from}
use Rattle.means.specs.Means.{number}
use Rattle.means.specs.Frame.{Rest, rest_trans}
use Rattle.put.specs.Written.{numbers}
use Rattle.put.specs.Fields.{size_be, size_numbers}
use Rattle.put.specs.Laws.{Size}
use Rattle.store.specs.Store.{store, store_none}
use Rattle.write_nodes.specs.Wrote.{Wrote}
use Rattle.write_nodes.specs.Nodes.{on, wire_number_words, write_wire, write_wires}
use Rattle.write_nodes.specs.declared.Pen.{Pen}
use Rattle.wires_means.specs.Met.{meet, meets, Front, front_back}
use Rattle.wires_means.specs.Stores.{length_store, store_then}
use Rattle.wires_means.specs.Wires.{Region, Numbered, OutPorts, WireIs, wire_number_is}

-- the words and the pen where the wires d are met
pub record Ready (g : Graph) (N : ℕ) (D : ℕ → Type 0) (d : List Port) (ws : List ℕ) (pen : Pen) : Type 0 where
  pub long : 5184 + 32 * N ≤ length ws
  pub ports : Numbered g D d ws
  pub wire : pen.wire ≡ length d

-- bytes were stored at a place, the pen went to an end, and the wires d are met
pub record Drew (g : Graph) (N : ℕ) (D : ℕ → Type 0) (ws out : List ℕ) (at end : ℕ) (d : List Port) (bytes : List ℕ) (x : Wrote Pen) : Type 0 where
  pub end_is : x.is.at ≡ end
  pub ready : Ready g N D d x.ws x.is
  pub rest : Rest (OutPorts D) ws x.ws
  pub out_is : x.out ≡ store at bytes out

-- one part right after another
pub drew_then : {g : Graph} {N : ℕ} {D : ℕ → Type 0} {ws out : List ℕ} {at mid end : ℕ} {c d : List Port} {xs ys : List ℕ} {x y : Wrote Pen}
    → Drew g N D ws out at mid c xs x → mid ≡ at + length xs → at + (length xs + length ys) ≤ length out
    → Drew g N D x.ws x.out mid end d ys y → Drew g N D ws out at end d (xs ++ ys) y
drew_then {out = out} {at} {xs = xs} {ys} a m room b = record {
  end_is = b.end_is;
  ready = b.ready;
  rest = rest_trans a.rest b.rest;
  out_is = b.out_is ∙ rw (m, a.out_is) (store_then out at xs ys room);
}

-- two bytes hold what of a number two bytes can
pub be_two : (n : ℕ) → be 2 (n % 65536) ≡ be 2 n
unfolding be
be_two n = let a : n % 65536 / 256 % 256 ≡ n / 256 % 256 = omega arith in let b : n % 65536 / 1 % 256 ≡ n / 1 % 256 = omega arith in λ i. a i ∷ b i ∷ []

-- the wires of some ports, in bytes
abbrev pub wire_bytes : Graph → List Port → List Port → List ℕ
wire_bytes g whole ps = concat_map (be 2) (map (wire_number g whole) ps)

-- k ports of node n from port i on
abbrev pub row : ℕ → ℕ → ℕ → List Port
row n i k = map (port n) (from i k)

pub length_row : (g : Graph) (whole : List Port) (n i k : ℕ) → length (wire_bytes g whole (row n i k)) ≡ 2 * k
unfolding numbers
length_row g whole n i k =
    let s = (size_numbers (map (wire_number g whole) (row n i k))).is in
    let a = length-map (row n i k) (wire_number g whole) in
    let b = length-map (from i k) (port n) in
    let c = length_from k i in
    omega arith

module _ {g : Graph} {N : ℕ} {D : ℕ → Type 0} (r : Region g N D) (whole : List Port) (few : length whole < 2147483648) where
  pub write_wire_is : (ws out : List ℕ) (d : List Port) (p : Port) (pen : Pen) → Ready g N D d ws pen → D p.node → Real g p → Front (meet d (wire_at g p)) whole
      → pen.at + 2 ≤ length out → length out < 18446744073709551616
      → Drew g N D ws out pen.at (pen.at + 2) (meet d (wire_at g p)) (be 2 (wire_number g whole p)) (write_wire ws out (number p) pen)
  unfolding write_wire on
  write_wire_is ws out d p pen y mine real f room size =
      let z : WireIs g D d whole ws p (wire_number_words ws (number p) pen.wire) = rw y.wire (wire_number_is r ws d whole few y.long y.ports p mine real f) in
      record {
        end_is = omega arith;
        ready = record { long = let l = y.long in let k = z.rest.long in omega arith; ports = z.ports; wire = rw y.wire (rw y.wire at z.after) };
        rest = z.rest;
        out_is = rw (be_two (wire_number_words ws (number p) pen.wire).is, z.is);
      }

  pub write_wires_is : (k i : ℕ) (ws out : List ℕ) (d : List Port) (n : ℕ) (pen : Pen) → Ready g N D d ws pen → D n → i + k ≤ arity g n
      → Front (meets d (map (wire_at g) (row n i k))) whole → pen.at + 2 * k ≤ length out → length out < 18446744073709551616
      → Drew g N D ws out pen.at (pen.at + 2 * k) (meets d (map (wire_at g) (row n i k))) (wire_bytes g whole (row n i k)) (write_wires ws out (number (port n i)) k pen)
  unfolding write_wires
  write_wires_is zero i ws out d n pen y mine here f room size = record {
    end_is = omega arith;
    ready = y;
    rest = record { long = refl; same = λ j o. refl };
    out_is = store_none pen.at out;
  }
  write_wires_is (suc k) i ws out d n pen y mine here f room size =
      let first = write_wire_is ws out d (port n i) pen y mine (omega arith) (front_back (map (wire_at g) (row n (suc i) k)) f) (omega arith) size in
      let x = write_wire ws out (number (port n i)) pen in
      let e = first.end_is in
      let inside = r.inside n mine in
      let small = r.small in
      let low = r.few n in
      let step : next (number (port n i)) ≡ number (port n (suc i)) = omega arith in
      let two = (size_be 2 (wire_number g whole (port n i))).is in
      let more = length_row g whole n (suc i) k in
      let long = length_store out pen.at (be 2 (wire_number g whole (port n i))) (omega arith) in
      let long' : length x.out ≡ length out = rw first.out_is long in
      let end : pen.at + 2 + 2 * k ≡ pen.at + 2 * suc k = omega arith in
      let rest = write_wires_is k (suc i) x.ws x.out (meet d (wire_at g (port n i))) n x.is first.ready mine (omega arith) f (omega arith) (omega arith) in
      rw step (drew_then first (omega arith) (omega arith) (rw (e, end) at rest))
