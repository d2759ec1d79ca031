-- A net renamed: its free trees visited, then its links; None exactly where a tree is too deep. `renamed-is`.
use Rattle.std.specs.Prelude.{ℕ, zero, suc, ◌+◌, ◌-◌, ◌<◌, ◌≤◌, ◌≡◌, refl, Bool, List, [], ◌∷◌, ◌++◌, length}
use Rattle.std.proofs.Common.{sym, subst, ◌∙◌, append_assoc}
use Rattle.std.proofs.Math.Path.{ap}
use Rattle.std.proofs.Math.Bool.{true, false}
use Rattle.std.proofs.Math.Option.{Option, none, some}
use native.Mathlib.Omega.{arith}
use Rattle.std.proofs.Math.ListN.{length-append}
use Rattle.net_file.specs.Lists.{Result, ok, refuse, concat_map}
use Rattle.net_file.specs.Values.{Tree, Trees, listed, trees, TreeNet}
use Rattle.net_file.specs.Write.{be, write_tree, write_trees, write_link, write_tree_net}
use Rattle.net_file_laws.specs.Trees.{listed_trees, trees_written}
use Rattle.conversions.specs.Resolve.{Hung, sorted, with_trees}
use Rattle.fields.specs.Fields.{byte}
use Rattle.ends.specs.Ends.{within}
use Rattle.store.specs.Store.{store, between}
use Rattle.std.specs.Prelude.{Some, None}
use Rattle.resolve_walk.specs.Penned.{Stepped, Penned, Inked}
use Rattle.resolve_walk.specs.Walk.{on, on_step}
use Rattle.resolve_walk.specs.Walk as code
use Rattle.resolve_net.specs.Renamed.{visit_links, end_links, renamed_links, renamed}
use Rattle.resolve_laws.specs.Walk.{walk_all, walk, cut}
use Rattle.resolve_laws.specs.Keys.{Keys}
use Rattle.resolve_laws.specs.Kept.{Low}
use Rattle.resolve_laws.specs.Links.{walk_links}
use Rattle.resolve_laws.specs.Resolve.{on_free, on_links}
use Rattle.resolve_walk_laws.specs.Meant.{Frame, frame_none, frame_then, Meant}
use Rattle.resolve_walk_laws.specs.Places.{most, on_most, on_on}
use Rattle.resolve_walk_laws.specs.Trees.{Wrote, wrote_then, Outcomes, trees_walk, tree_walks}
use Rattle.resolve_pass_laws.specs.Keeping.{KeptFrom}
use Rattle.resolve_net_laws.specs.Copied.{between_is, Put}
use Rattle.resolve_net_laws.specs.Visited.{kept_frame, LinksOut, links_visit}
use Rattle.resolve_net_laws.specs.Lies.{front, NetLies, net_bytes}
use Rattle.net_file_laws.specs.Bytes.{Bytes}
use Rattle.wire_tables.specs.Tables.{hung}
use Rattle.resolve_net_laws.specs.Only.{Only, visited_only, frees_only}
use Rattle.resolve_net_laws.specs.Touched.{Seen, Mine}
use Rattle.resolve_net_laws.proofs.Touched.{none_unseen}
use Rattle.resolve_net_laws.specs.Ways.{all_links, link_bytes, links_ended}
use Rattle.resolve_net_laws.specs.Renamed.{links_are, n, frees, renamed_as, free_end, frees_out, RenamedIs, step_deep, step_on, links_whole}

-- ---- the net

module _ (s : List ℕ) (m : TreeNet) (at p : ℕ) (k : NetLies s m at p) (ws out : List ℕ) (to : ℕ) (low : to ≤ most) (ls : List (Tree × Tree)) (h : Hung)
    (kept : KeptFrom s m.wires k.few ws 0 ls) (meant : Meant s m.wires ws h) (bytes : Bytes s) (mine : Only (Mine s bytes at) ws) where
  nothing_unseen : (q v : ℕ) → v < (n s m at p k ws out to low ls h kept meant bytes mine) → (Seen s (visit_links s (length ls) (frees s m at p k ws out to low ls h kept meant bytes mine).ws (frees s m at p k ws out to low ls h kept meant bytes mine).out 0 (on q 2)).ws p (n s m at p k ws out to low ls h kept meant bytes mine) v → ⊥) → hung (visit_links s (length ls) (frees s m at p k ws out to low ls h kept meant bytes mine).ws (frees s m at p k ws out to low ls h kept meant bytes mine).out 0 (on q 2)).ws v ≡ 0
  nothing_unseen q v lv l =
      let o = visited_only (Mine s bytes at) s (length ls) (frees s m at p k ws out to low ls h kept meant bytes mine).ws (frees s m at p k ws out to low ls h kept meant bytes mine).out 0 (on q 2) (frees_only (Mine s bytes at) s (length m.free) ws (store to (front m) out) (at + 8) (on to 8) mine) in
      none_unseen s bytes at _ (n s m at p k ws out to low ls h kept meant bytes mine) v k.few o lv (rw k.place l)

  pub renamed_is : (a b : Bool) (u : Trees × Hung) (v : List (Tree × Tree) × Hung) → walk_all (walk 64) (trees m.free) h ≡ cut a u → walk_links 64 ls u.1 ≡ cut b v
      → Keys v.1.trees → Low (n s m at p k ws out to low ls h kept meant bytes mine) v.1.trees → length ls + length (sorted v.1.trees) ≤ 65535
      → (RenamedIs s m at p k ws out to low ls h kept meant bytes mine) (on_free m ls (cut a u)) (renamed s ws out at p (n s m at p k ws out to low ls h kept meant bytes mine) (length ls) to)
  unfolding cut on_free
  renamed_is true b u v ea eb keys below fewer =
      rw (renamed_as s m at p k ws out to low ls h kept meant bytes mine) ((step_deep s m at p k ws out to low ls h kept meant bytes mine) (λ q. renamed_links s (frees s m at p k ws out to low ls h kept meant bytes mine).ws (frees s m at p k ws out to low ls h kept meant bytes mine).out p (n s m at p k ws out to low ls h kept meant bytes mine) (length ls) q) (rw ea at (frees_out s m at p k ws out to low ls h kept meant bytes mine)))
  renamed_is false b u v ea eb keys below fewer =
      let o = rw ea at (frees_out s m at p k ws out to low ls h kept meant bytes mine) in
      let w = o.0 in
      let q = on (on to 8) (length (write_trees u.0)) in
      let lq = on_most (on to 8) (on_most to low 8) (length (write_trees u.0)) in
      let x = renamed_links s (frees s m at p k ws out to low ls h kept meant bytes mine).ws (frees s m at p k ws out to low ls h kept meant bytes mine).out p (n s m at p k ws out to low ls h kept meant bytes mine) (length ls) q in
      let g = links_are s (n s m at p k ws out to low ls h kept meant bytes mine) k.few (frees s m at p k ws out to low ls h kept meant bytes mine).ws (frees s m at p k ws out to low ls h kept meant bytes mine).out q lq ls p u.1 b v (kept_frame s (n s m at p k ws out to low ls h kept meant bytes mine) k.few ws (frees s m at p k ws out to low ls h kept meant bytes mine).ws 0 ls w.frame kept) w.meant eb keys below fewer (nothing_unseen q) in
      rw ((renamed_as s m at p k ws out to low ls h kept meant bytes mine), (step_on s m at p k ws out to low ls h kept meant bytes mine) (λ j. renamed_links s (frees s m at p k ws out to low ls h kept meant bytes mine).ws (frees s m at p k ws out to low ls h kept meant bytes mine).out p (n s m at p k ws out to low ls h kept meant bytes mine) (length ls) j) (free_end s m at p k ws out to low ls h kept meant bytes mine) q w.is, eb) ((links_whole s m at p k ws out to low ls h kept meant bytes mine) u b v x o.1 w g)
