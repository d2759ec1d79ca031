-- A tree net that lies at a place of a file is written as the definition resolves it: `net-resolves`. None is said exactly where the
use Rattle.std.specs.Prelude.{ℕ, zero, suc, ◌+◌, ◌-◌, ◌<◌, ◌≤◌, ◌≡◌, refl, Bool, true, ltb}
use Rattle.std.proofs.Math.Path.{sym, ap}
use Rattle.std.proofs.Common.{subst, ◌∙◌}
use Rattle.std.proofs.Math.Bool.{false}
use Rattle.std.proofs.Math.Option.{Option, none, some}
use mathlib.Core.List.{List, [], ◌∷◌, ◌++◌}
use native.Mathlib.Omega.{arith}
use Rattle.std.proofs.Math.Decide.{ℕ_discrete}
use Rattle.std.proofs.Math.ListN.{length}
use Rattle.std.proofs.Math.Dec.{eqb}
use borrow.Author.Tests.{eq-eqb, ne_eqb}
use Rattle.words.specs.Choose.{eq_yes, eq_no}
use Rattle.words.specs.Left.{Left}
use Rattle.net_file.specs.Lists.{Result, ok, refuse}
use Rattle.net_file.specs.Values.{Tree, Trees, listed, trees, TreeNet}
use Rattle.net_file.specs.Write.{write_tree_net}
use Rattle.conversions.specs.Resolve.{Hung, wire_links, pass, visit_all, visit, visits, visit_link, put, sorted, with_trees, deeper_any}
use Rattle.fields.specs.Fields.{be16}
use Rattle.ends.specs.Ends.{within}
use Rattle.store.specs.Store.{store}
use Rattle.net_file_laws.specs.Bytes.{Bytes}
use Rattle.wire_tables_laws.specs.Table.{Empty, table_empty}
use Rattle.wire_tables_laws.specs.Linked.{LinkFor}
use Rattle.resolve_pass.specs.declared.Passed.{Passed}
use Rattle.resolve_pass.specs.Pass as code
use Rattle.std.specs.Prelude.{Some, None}
use Rattle.resolve_walk.specs.Penned.{Stepped, Penned, Inked}
use Rattle.resolve_walk.specs.Walk.{on, on_step}
use Rattle.resolve_net.specs.declared.Ready.{Ready}
use Rattle.resolve_net.specs.Plain.{plain}
use Rattle.resolve_net.specs.Renamed.{renamed}
use Rattle.resolve_net.specs.Net.{onward, wires_at, pass_links, prepare, resolved, freed, net}
use Rattle.resolve_laws.specs.Walk.{walk_all, walk, cut, limited_all}
use Rattle.resolve_laws.specs.Keys.{Keys}
use Rattle.resolve_laws.specs.Kept.{IsNode, Hang, Nodes, Low, Keeps, all_keeps}
use Rattle.resolve_laws.proofs.Fuel.{walk_all_lem}
use Rattle.resolve_laws.specs.Links.{walk_links, deep_links, links_keep}
use Rattle.resolve_laws.proofs.Links.{walk_links_lem}
use Rattle.resolve_laws.specs.Resolve.{on_free, walked_by, passed, walked}
use Rattle.resolve_walk_laws.specs.Meant.{Frame, HungAt, Meant}
use Rattle.resolve_walk_laws.specs.Places.{most}
use Rattle.resolve_pass_laws.specs.Linking.{Linking, links_long, links_are}
use Rattle.resolve_pass_laws.specs.Passing.{Passing, Came, passes}
use Rattle.resolve_net_laws.specs.Copied.{Put}
use Rattle.resolve_net_laws.specs.Lies.{NetLies}
use Rattle.resolve_net_laws.specs.Ways.{plain_is}
use Rattle.resolve_net_laws.specs.Only.{Only}
use Rattle.resolve_net_laws.specs.Touched.{Mine, freed_long}
use Rattle.resolve_net_laws.proofs.Touched.{prepared_only}
use Rattle.resolve_net_laws.specs.Renamed.{Whole, RenamedIs}
use Rattle.resolve_net_laws.proofs.Renamed.{renamed_is}
use Rattle.resolve_net_laws.specs.Net.{sorted_length, n, end, done, came, long, prepare_is, NetOut, ls, h, kept_is, visited, net_more, plain_net, onward_deep, onward_on}

-- ---- both passes

module _ (s : List ℕ) (m : TreeNet) (at p : ℕ) (k : NetLies s m at p) (small : length s ≤ 4294967299) (ws : List ℕ) (room : 262144 ≤ length ws) (bytes : Bytes s) (empty : Empty ws) where
  -- the tables speak of the wires of links only
  mine : Only (Mine s bytes at) (done s m at p k small ws room bytes empty).ws
  mine = subst (λ (x : Left Ready). Only (Mine s bytes at) x.ws) (prepare_is s m at p k small ws room bytes empty) (prepared_only s bytes at ws empty)

  -- ---- the net

  module _ (out : List ℕ) (to : ℕ) (low : to ≤ most) where
    onward_out : (y : Result TreeNet) → RenamedIs s m at p k (done s m at p k small ws room bytes empty).ws out to low (ls s m at p k small ws room bytes empty out to low) (h s m at p k small ws room bytes empty out to low) (came s m at p k small ws room bytes empty).from (came s m at p k small ws room bytes empty).passing.meant bytes mine y (visited s m at p k small ws room bytes empty out to low)
        → (NetOut s m at p k small ws room bytes empty out to low) y (record { is = onward (visited s m at p k small ws room bytes empty out to low).is (end s m at p k small ws room bytes empty); ws = freed s (visited s m at p k small ws room bytes empty out to low).ws p; out = (visited s m at p k small ws room bytes empty out to low).out })
    onward_out (refuse r) g = (onward_deep s m at p k small ws room bytes empty out to low) (visited s m at p k small ws room bytes empty out to low).is g
    onward_out (ok y) g = record { is = (onward_on s m at p k small ws room bytes empty out to low) (visited s m at p k small ws room bytes empty out to low).is (on to (length (write_tree_net y))) g.is; long = freed_long s (visited s m at p k small ws room bytes empty out to low).ws p ∙ g.frame.long ∙ (long s m at p k small ws room bytes empty); stored = g.stored }

    renamed_net : ((done s m at p k small ws room bytes empty).is.left ≡ 0 → ⊥) → (NetOut s m at p k small ws room bytes empty out to low) (walked m) (net s ws out at to)
    unfolding walked walked_by limited_all
    renamed_net z =
        let c = length (h s m at p k small ws room bytes empty out to low).trees in
        let d = (came s m at p k small ws room bytes empty).passing.nodes in
        let u = visit_all (visit c) (trees m.free) (h s m at p k small ws room bytes empty out to low) in
        let ku = all_keeps c (trees m.free) (h s m at p k small ws room bytes empty out to low) in
        let v = visits (visit_link (suc c)) (ls s m at p k small ws room bytes empty out to low) u.1 in
        let kv = links_keep (suc c) (ls s m at p k small ws room bytes empty out to low) u.1 in
        let mu = ku.most in
        let mv = kv.most in
        let ea : walk_all (walk 64) (trees m.free) (h s m at p k small ws room bytes empty out to low) ≡ cut (deeper_any 64 u.0) u = walk_all_lem c 64 (trees m.free) (h s m at p k small ws room bytes empty out to low) d (omega arith) in
        let eb : walk_links 64 (ls s m at p k small ws room bytes empty out to low) u.1 ≡ cut (deep_links 64 v.0) v = walk_links_lem (suc c) 64 (ls s m at p k small ws room bytes empty out to low) u.1 (ku.nodes IsNode d) (omega arith) in
        let l = (came s m at p k small ws room bytes empty).passing.left in
        let f = (came s m at p k small ws room bytes empty).passing.few_both in
        let q = (kept_is s m at p k small ws room bytes empty out to low) in
        let g = renamed_is s m at p k (done s m at p k small ws room bytes empty).ws out to low (ls s m at p k small ws room bytes empty out to low) (h s m at p k small ws room bytes empty out to low) (came s m at p k small ws room bytes empty).from (came s m at p k small ws room bytes empty).passing.meant bytes mine (deeper_any 64 u.0) (deep_links 64 v.0) u v ea eb
        (kv.keys (ku.keys (came s m at p k small ws room bytes empty).passing.keys)) (kv.low (n s m at p k small ws room bytes empty) (ku.low (n s m at p k small ws room bytes empty) (came s m at p k small ws room bytes empty).passing.low)) (omega (arith, sorted_length v.1.trees)) in
        let t : eqb c 0 ≡ false = ne_eqb c 0 (λ y. z (l ∙ y)) in
        rw ((net_more s m at p k small ws room bytes empty out to low) z, t, ea) (onward_out (on_free m (ls s m at p k small ws room bytes empty out to low) (cut (deeper_any 64 u.0) u)) g)

    pub net_resolves : (NetOut s m at p k small ws room bytes empty out to low) (walked m) (net s ws out at to)
    net_resolves = elim (ℕ_discrete (done s m at p k small ws room bytes empty).is.left 0) [ yes z ↦ (plain_net s m at p k small ws room bytes empty out to low) z | no z ↦ renamed_net z ]
