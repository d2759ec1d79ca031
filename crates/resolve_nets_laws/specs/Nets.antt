-- Nets that are spelt one behind the other are written as the definition resolves them, net by net in file order until one refuses:
-- `nets-are`. None is said exactly where the definition refuses, by 17.
use Rattle.std.specs.Prelude.{ℕ, zero, suc, ◌+◌, ◌-◌, ◌<◌, ◌≤◌, ◌≡◌, refl, drop}
use Rattle.std.proofs.Math.Path.{sym}
use Rattle.std.proofs.Common.{ap, subst, ◌∙◌}
use mathlib.Core.List.{List, [], ◌∷◌, ◌++◌, append_assoc}
use native.Mathlib.Omega.{arith}
use Rattle.std.proofs.Math.Option.{some}
use Rattle.std.proofs.Math.ListN.{length, length-append}
use Rattle.net_file.specs.Lists.{Result, ok, refuse, concat_map}
use Rattle.net_file.specs.Values.{TreeNet}
use Rattle.net_file.specs.Read.{times, read_tree_net}
use Rattle.net_file.specs.Write.{write_tree_net}
use Rattle.net_file_laws.specs.Bytes.{Bytes, bytes_drop}
use Rattle.net_file_laws.specs.Exact.{Each, exact_times}
use Rattle.net_file_laws.specs.Trees.{TreeNetFits, exact_tree_net}
use Rattle.conversions.specs.Convert.{◌>>=◌}
use Rattle.conversions.specs.Calls.{map_nets}
use Rattle.conversions.specs.Resolve.{resolve_tree}
use Rattle.store.specs.Store.{store, store_none}
use Rattle.std.specs.Prelude.{Some, None}
use Rattle.resolve_walk.specs.Penned.{Stepped, Penned}
use Rattle.resolve_walk.specs.Walk.{on, on_step, trees}
use Rattle.resolve_net.specs.Net.{net}
use Rattle.resolve_nets.specs.Nets.{nets}
use Rattle.resolve_walk_laws.specs.Places.{most, on_most, on_none, on_fits, on_on, store_append, store_length}
use Rattle.spelt_trees.specs.Spelt.{Spelt, spelt_next}
use Rattle.wire_tables_laws.specs.Table.{Empty}
use Rattle.resolve_net_laws.specs.Lies.{upto}
use Rattle.resolve_net_laws.specs.Only.{trees_keep}
use Rattle.resolve_net_laws.proofs.Touched.{net_frees}
use Rattle.resolve_net_laws.specs.Net.{end, NetIs, NetOut}
use Rattle.resolve_net_laws.specs.Spelt.{spelt_net, net_end_lem}
use Rattle.resolve_net_laws.proofs.Spelt.{net_is}

-- the bytes of these nets stand from `to` on where there is room, and the file is gone on from e
pub record Nets (ws out : List ℕ) (e to : ℕ) (ys : List TreeNet) (x : Penned Stepped) : Type 0 where
  pub is : x.is ≡ Some (record { from = e; to = on to (length (concat_map write_tree_net ys)) })
  pub long : length x.ws ≡ length ws
  pub stored : to + length (concat_map write_tree_net ys) ≤ length out → length out ≤ most → x.out ≡ store to (concat_map write_tree_net ys) out

abbrev pub NetsOut : List ℕ → List ℕ → ℕ → ℕ → Result (List TreeNet) → Penned Stepped → Type 0
NetsOut ws out e to (refuse r) x = x.is ≡ None
NetsOut ws out e to (ok ys) x = Nets ws out e to ys x

-- one net
pub record One (ws out : List ℕ) (e to : ℕ) (y : TreeNet) (x : Penned Stepped) : Type 0 where
  pub is : x.is ≡ Some (record { from = e; to = on to (length (write_tree_net y)) })
  pub long : length x.ws ≡ length ws
  pub stored : to + length (write_tree_net y) ≤ length out → length out ≤ most → x.out ≡ store to (write_tree_net y) out

abbrev OneOut : List ℕ → List ℕ → ℕ → ℕ → Result TreeNet → Penned Stepped → Type 0
OneOut ws out e to (refuse r) x = x.is ≡ None
OneOut ws out e to (ok y) x = One ws out e to y x

nets_then : (ws out : List ℕ) (d e to : ℕ) (y : TreeNet) (ys : List TreeNet) (x z : Penned Stepped) → to ≤ most → One ws out d to y x
    → Nets x.ws x.out e (on to (length (write_tree_net y))) ys z → Nets ws out e to (y ∷ ys) z
nets_then ws out d e to y ys x z low a b =
    let xs = write_tree_net y in
    let zs = concat_map write_tree_net ys in
    let l = length-append xs zs in
    record {
      is = b.is ∙ ap (λ j. Some (record { from = e; to = j })) (on_on to low (length xs) (length zs) ∙ ap (on to) (sym l));
      long = b.long ∙ a.long;
      stored = λ room small.
          let i : to + (length xs + length zs) ≤ length out = omega arith in
          let ea : x.out ≡ store to xs out = a.stored (omega arith) small in
          let la : length x.out ≡ length out = rw ea (store_length out to xs (omega arith)) in
          let p : on to (length xs) ≡ to + length xs = on_fits to low (length xs) (length out) (omega arith) small in
          let eb : z.out ≡ store (on to (length xs)) zs x.out = b.stored (omega arith) (omega arith) in
          eb ∙ rw (p, ea) (store_append out to xs zs i);
    }

module _ (s : List ℕ) (ws out : List ℕ) (at to k : ℕ) where
  first_deep : (net s ws out at to).is ≡ None → (trees (net s) (suc k) ws out at to).is ≡ None
  unfolding trees on_step
  first_deep e = rw e

  first_on : (e p : ℕ) → (net s ws out at to).is ≡ Some (record { from = e; to = p }) → trees (net s) (suc k) ws out at to ≡ trees (net s) k (net s ws out at to).ws (net s ws out at to).out e p
  unfolding trees on_step
  first_on e p h = rw h

nets_end : (s ws out : List ℕ) (at to : ℕ) → trees (net s) 0 ws out at to ≡ record { is = Some (record { from = at; to = to }); ws = ws; out = out }
unfolding trees
nets_end s ws out at to = refl

module _ (s : List ℕ) (paths names : ℕ) (hp : paths ≤ 65536) (hn : names ≤ 65536) (small : length s ≤ 4294967299) (bytes : Bytes s) where
  one_net : (m : TreeNet) → TreeNetFits paths names m → (at : ℕ) (r : List ℕ) → Spelt s at (write_tree_net m) r → (ws : List ℕ) → 262144 ≤ length ws → Empty ws → (out : List ℕ) (to : ℕ) → to ≤ most
      → OneOut ws out (at + length (write_tree_net m)) to (resolve_tree m) (net s ws out at to)
  one_net m f at r h ws room empty out to low =
      go (resolve_tree m) (net_is s paths names hp hn m f at r h small ws room bytes empty out to low)
    where
      go : (o : Result TreeNet) → NetOut s m at (at + length (upto m)) (spelt_net s paths names hp hn m f at r h) small ws room bytes empty out to low o (net s ws out at to)
          → OneOut ws out (at + length (write_tree_net m)) to o (net s ws out at to)
      go (refuse n) g = g
      go (ok y) g = record {
        is = g.is ∙ ap (λ e. Some (record { from = e; to = on to (length (write_tree_net y)) })) (net_end_lem s paths names hp hn m f at r h small ws room bytes empty);
        long = g.long;
        stored = g.stored;
      }

  abbrev Resolves : List TreeNet → Type 0
  Resolves ms = (at : ℕ) (r : List ℕ) → Each (TreeNetFits paths names) ms → Spelt s at (concat_map write_tree_net ms) r → (ws : List ℕ) → 262144 ≤ length ws → Empty ws → (out : List ℕ) (to : ℕ) → to ≤ most
      → NetsOut ws out (at + length (concat_map write_tree_net ms)) to (map_nets resolve_tree ms) (trees (net s) (length ms) ws out at to)

  rest_out : (ws out : List ℕ) (d e to : ℕ) (y : TreeNet) (x z : Penned Stepped) → to ≤ most → One ws out d to y x → (o : Result (List TreeNet))
      → NetsOut x.ws x.out e (on to (length (write_tree_net y))) o z → NetsOut ws out e to (o >>= λ ys. ok (y ∷ ys)) z
  rest_out ws out d e to y x z low a (refuse n) g = g
  rest_out ws out d e to y x z low a (ok ys) g = nets_then ws out d e to y ys x z low a g

  first_out : (ms : List TreeNet) → Resolves ms → (ws out : List ℕ) (at d to : ℕ) (r : List ℕ) → Each (TreeNetFits paths names) ms → Spelt s d (concat_map write_tree_net ms) r → 262144 ≤ length ws → Empty ws → to ≤ most
      → (o : Result TreeNet) → OneOut ws out d to o (net s ws out at to)
      → NetsOut ws out (d + length (concat_map write_tree_net ms)) to (o >>= λ y. map_nets resolve_tree ms >>= λ ys. ok (y ∷ ys)) (trees (net s) (suc (length ms)) ws out at to)
  first_out ms ih ws out at d to r f h room empty low (refuse n) g = first_deep s ws out at to (length ms) g
  first_out ms ih ws out at d to r f h room empty low (ok y) g =
      let x = net s ws out at to in
      let p = on to (length (write_tree_net y)) in
      let lg = g.long in
      rw (first_on s ws out at to (length ms) d p g.is)
      (rest_out ws out d (d + length (concat_map write_tree_net ms)) to y x (trees (net s) (length ms) x.ws x.out d p) low g (map_nets resolve_tree ms)
      (ih d r f h x.ws (omega arith) (net_frees s bytes at ws out to empty) x.out p (on_most to low (length (write_tree_net y)))))

  nets_resolve : (ms : List TreeNet) → Resolves ms
  unfolding map_nets
  nets_resolve [] at r f h ws room empty out to low =
      let i : at ≡ at + 0 = omega arith in
      rw (nets_end s ws out at to) (record { is = λ j. Some (record { from = i j; to = sym (on_none to low) j }); long = refl; stored = λ fits low'. store_none to out })
  nets_resolve (m ∷ ms) at r f h ws room empty out to low =
      let x = write_tree_net m in
      let y = concat_map write_tree_net ms in
      let g : Spelt s at x (y ++ r) = record { inside = h.inside; bytes = h.bytes ∙ append_assoc x y r } in
      let e : at + length x + length y ≡ at + length (x ++ y) = omega (arith, length-append x y) in
      rw (← e) (first_out ms (nets_resolve ms) ws out at (at + length x) to r f.1 (spelt_next s at x y r g) room empty low (resolve_tree m) (one_net m f.0 at (y ++ r) g ws room empty out to low))

  pub nets_are : (ms : List TreeNet) (at : ℕ) (r : List ℕ) → Each (TreeNetFits paths names) ms → Spelt s at (concat_map write_tree_net ms) r → (ws : List ℕ) → 262144 ≤ length ws → Empty ws
      → (out : List ℕ) (to : ℕ) → to ≤ most → NetsOut ws out (at + length (concat_map write_tree_net ms)) to (map_nets resolve_tree ms) (nets s (length ms) ws out at to)
  unfolding nets
  nets_are ms at r f h ws room empty out to low = nets_resolve ms at r f h ws room empty out to low

  -- nothing is left in the tables
  pub nets_free : (k : ℕ) (ws out : List ℕ) (at to : ℕ) → Empty ws → Empty (nets s k ws out at to).ws
  unfolding nets
  nets_free k ws out at to e = trees_keep Empty (net s) (λ ws out at to e. net_frees s bytes at ws out to e) k ws out at to e

  -- the same of nets that are read from a place on
  pub nets_read : (k : ℕ) (ms : List TreeNet) (at : ℕ) (r : List ℕ) → at ≤ length s → times k (read_tree_net paths names) (drop at s) ≡ some (ms, r) → (ws : List ℕ) → 262144 ≤ length ws → Empty ws
      → (out : List ℕ) (to : ℕ) → to ≤ most → NetsOut ws out (at + length (concat_map write_tree_net ms)) to (map_nets resolve_tree ms) (nets s k ws out at to)
  nets_read k ms at r i h ws room empty out to low =
      let w = (exact_times (exact_tree_net paths names hp hn) k).writes (drop at s) (bytes_drop at s bytes) ms r h in
      rw (← w.0.0) (nets_are ms at r w.0.1 (record { inside = i; bytes = w.1 }) ws room empty out to low)
