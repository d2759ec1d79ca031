-- A scan goes over trees: over none, over a wire, over a node and its children, over some trees and then others.
use Prim.Native.Nat.{ℕ, suc, ◌+◌, ◌≤◌}
use Rattle.std.specs.Prelude.{◌≡◌, refl}
use Rattle.std.proofs.Common.{sym, ◌∙◌, length-append}
use Rattle.std.proofs.Math.Path.{ap}
use mathlib.Core.List.{List, [], ◌∷◌, ◌++◌, map, append_assoc, append-nil}
use native.Mathlib.Omega.{arith}
use Rattle.std.proofs.Math.ListN.{length}
use Rattle.net_file.specs.Lists.{concat_map, sum}
use Rattle.net_file.specs.Values.{Name, Tree, wire, node, trees}
use Rattle.net_file.specs.Checks.{wires_of, wires_of_all, nodes_of, nodes_of_all}
use Rattle.fields.specs.Fields.{byte, be16}
use Rattle.stored_tree.specs.Tree.{child_count_at, children}
use Rattle.scan_tree.specs.Scan.{behind, places, fit_room, tag_wire, tag_node, behind_wire, behind_node, brings_wire, brings_node, behind_on, places_none, places_more}
use Rattle.scan_tree.specs.Count.{scan, wire_at, node_at, nodes_among, end_after, wires_from, nodes_from, end_from}

-- ---- lists

pub concat_append : {A B : Type 0} (f : A → List B) (xs ys : List A) → concat_map f (xs ++ ys) ≡ concat_map f xs ++ concat_map f ys
concat_append f [] ys = refl
concat_append f (x ∷ xs) ys = rw (concat_append f xs ys) (sym (append_assoc (f x) (concat_map f xs) (concat_map f ys)))

pub sum_append : {A : Type 0} (f : A → ℕ) (xs ys : List A) → sum (map f (xs ++ ys)) ≡ sum (map f xs) + sum (map f ys)
sum_append f [] ys = omega arith
sum_append f (x ∷ xs) ys = omega (arith, sum_append f xs ys)

-- a node's children as a list
pub wires_listed : (ts : List Tree) → wires_of_all (trees ts) ≡ concat_map wires_of ts
unfolding wires_of_all
wires_listed [] = refl
wires_listed (t ∷ ts) = rw (wires_listed ts)

nodes_listed : (ts : List Tree) → nodes_of_all (trees ts) ≡ sum (map nodes_of ts)
unfolding nodes_of_all
nodes_listed [] = refl
nodes_listed (t ∷ ts) = rw (nodes_listed ts)

-- ---- a scan over trees

module _ (s : List ℕ) where
  end_append : (at : ℕ) (ps qs : List ℕ) → end_after s at (ps ++ qs) ≡ end_after s (end_after s at ps) qs
  end_append at [] qs = refl
  end_append at (p ∷ ps) qs = end_append (behind s p) ps qs

  -- from `at` to e stand the trees ts: whatever comes behind them, the scan first passes their places
  pub record Scanned (at e : ℕ) (ts : List Tree) : Type 0 where
    pub passed : List ℕ
    pub first : (l : ℕ) → e + l ≤ length s → places s at (length ts + l) ≡ passed ++ places s e l
    pub long : at + length ts ≤ e
    pub wires : concat_map (wire_at s) passed ≡ concat_map wires_of ts
    pub nodes : nodes_among s passed ≡ sum (map nodes_of ts)
    pub end : end_after s at passed ≡ e

  pub scanned_none : (at : ℕ) → Scanned at at []
  scanned_none at = record {
    passed = [];
    first = λ l h. let e : 0 + l ≡ l = omega arith in rw e;
    long = omega arith;
    wires = refl;
    nodes = refl;
    end = refl;
  }

  pub scanned_then : {at m e : ℕ} {ts us : List Tree} → Scanned at m ts → Scanned m e us → Scanned at e (ts ++ us)
  scanned_then {at} {m} {e} {ts} {us} a b =
      let la = a.long in
      let lb = b.long in
      record {
        passed = a.passed ++ b.passed;
        first = λ l h.
            let n : length ts + length us + l ≡ length ts + (length us + l) = omega arith in
            rw (length-append ts us, n, a.first (length us + l) (omega arith), b.first l h) (sym (append_assoc a.passed b.passed (places s e l)));
        long = rw (length-append ts us) (omega arith);
        wires = concat_append (wire_at s) a.passed b.passed ∙ rw (a.wires, b.wires) (sym (concat_append wires_of ts us));
        nodes = sum_append (node_at s) a.passed b.passed ∙ rw (a.nodes, b.nodes) (sym (sum_append nodes_of ts us));
        end = end_append at a.passed b.passed ∙ rw a.end b.end;
      }

  module _ (at : ℕ) where
    wire_there : byte s at ≡ 0 → wire_at s at ≡ be16 s (at + 1) ∷ []
    unfolding wire_at
    wire_there h = tag_wire _ _ (byte s at) h

    no_wire : (byte s at ≡ 0 → ⊥) → wire_at s at ≡ []
    unfolding wire_at
    no_wire h = tag_node _ _ (byte s at) h

    no_node : byte s at ≡ 0 → node_at s at ≡ 0
    unfolding node_at
    no_node h = tag_wire _ _ (byte s at) h

    node_there : (byte s at ≡ 0 → ⊥) → node_at s at ≡ 1
    unfolding node_at
    node_there h = tag_node _ _ (byte s at) h

    pub scanned_wire : byte s at ≡ 0 → Scanned at (at + 3) (wire (be16 s (at + 1)) ∷ [])
    unfolding wires_of nodes_of
    scanned_wire h = record {
      passed = at ∷ [];
      first = λ l i.
          let e : 1 + l ≡ suc l = omega arith in
          let f : l + 0 ≡ l = omega arith in
          rw (e, places_more s at l (omega arith), behind_wire s at h, brings_wire s at h, f, fit_room s (at + 3) l i);
      long = omega arith;
      wires = rw (wire_there h);
      nodes = rw (no_node h);
      end = behind_wire s at h;
    }

    pub scanned_node : (m : Name) (e : ℕ) (ts : List Tree) → (byte s at ≡ 0 → ⊥) → length ts ≡ children s at
        → Scanned (child_count_at s at + 1) e ts → Scanned at e (node m (trees ts) ∷ [])
    unfolding wires_of nodes_of
    scanned_node m e ts h n a =
        let la = a.long in
        let b = behind_node s at h in
        let o = behind_on s at in
        record {
          passed = at ∷ a.passed;
          first = λ l i.
              let g : 1 + l ≡ suc l = omega arith in
              let j : l + children s at ≡ length ts + l = omega arith in
              rw (g, places_more s at l (omega arith), brings_node s at h, b, j, fit_room s (child_count_at s at + 1) (length ts + l) (omega arith), a.first l i);
          long = omega arith;
          wires = rw (no_wire h, a.wires, append-nil, wires_listed ts);
          nodes = rw (node_there h, a.nodes, nodes_listed ts) (omega arith);
          end = rw b a.end;
        }

  -- ---- what the scan then tells

  module _ (at e : ℕ) (ts : List Tree) (a : Scanned at e ts) (in_file : e ≤ length s) where
    scan_is : scan s at (length ts) ≡ a.passed
    unfolding scan
    scan_is =
        let l = a.long in
        let n : length ts ≡ length ts + 0 = omega arith in
        let f : places s at (length ts + 0) ≡ a.passed ++ places s e 0 = a.first 0 (omega arith) in
        ap (places s at) (fit_room s at (length ts) (omega arith) ∙ n) ∙ f ∙ rw (places_none s e, append-nil)

    pub scanned_wires : wires_from s at (length ts) ≡ concat_map wires_of ts
    unfolding wires_from
    scanned_wires = rw scan_is a.wires

    pub scanned_nodes : nodes_from s at (length ts) ≡ sum (map nodes_of ts)
    unfolding nodes_from
    scanned_nodes = rw scan_is a.nodes

    pub scanned_end : end_from s at (length ts) ≡ e
    unfolding end_from
    scanned_end = rw (scan_is, a.end) (omega arith)
