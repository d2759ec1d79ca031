-- A net renamed: its free trees visited, then its links; None exactly where a tree is too deep. `renamed-is`.
use Rattle.std.specs.Prelude.{ℕ, zero, suc, ◌+◌, ◌-◌, ◌<◌, ◌≤◌, ◌≡◌, refl, Bool, List, [], ◌∷◌, ◌++◌, length}
use Rattle.std.proofs.Common.{sym, subst, ◌∙◌, append_assoc}
use Rattle.std.proofs.Math.Path.{ap}
use Rattle.std.proofs.Math.Bool.{true, false}
use Rattle.std.proofs.Math.Option.{Option, none, some}
use native.Mathlib.Omega.{arith}
use Rattle.std.proofs.Math.ListN.{length-append}
use Rattle.net_file.specs.Lists.{Result, ok, refuse, concat_map}
use Rattle.net_file.specs.Values.{Tree, Trees, listed, trees, TreeNet}
use Rattle.net_file.specs.Write.{be, write_tree, write_trees, write_link, write_tree_net}
use Rattle.net_file_laws.specs.Trees.{listed_trees, trees_written}
use Rattle.conversions.specs.Resolve.{Hung, sorted, with_trees}
use Rattle.fields.specs.Fields.{byte}
use Rattle.ends.specs.Ends.{within}
use Rattle.store.specs.Store.{store, between}
use Rattle.std.specs.Prelude.{Some, None}
use Rattle.resolve_walk.specs.Penned.{Stepped, Penned, Inked}
use Rattle.resolve_walk.specs.Walk.{on, on_step}
use Rattle.resolve_walk.specs.Walk as code
use Rattle.resolve_net.specs.Renamed.{visit_links, end_links, renamed_links, renamed}
use Rattle.resolve_laws.specs.Walk.{walk_all, walk, cut}
use Rattle.resolve_laws.specs.Keys.{Keys}
use Rattle.resolve_laws.specs.Kept.{Low}
use Rattle.resolve_laws.specs.Links.{walk_links}
use Rattle.resolve_laws.specs.Resolve.{on_free, on_links}
use Rattle.resolve_walk_laws.specs.Meant.{Frame, frame_none, frame_then, Meant}
use Rattle.resolve_walk_laws.specs.Places.{most, on_most, on_on}
use Rattle.resolve_walk_laws.specs.Trees.{Wrote, wrote_then, Outcomes, trees_walk, tree_walks}
use Rattle.resolve_pass_laws.specs.Keeping.{KeptFrom}
use Rattle.resolve_net_laws.specs.Copied.{between_is, Put}
use Rattle.resolve_net_laws.specs.Visited.{kept_frame, LinksOut, links_visit}
use Rattle.resolve_net_laws.specs.Lies.{front, NetLies, net_bytes}
use Rattle.net_file_laws.specs.Bytes.{Bytes}
use Rattle.wire_tables.specs.Tables.{hung}
use Rattle.resolve_net_laws.specs.Only.{Only, visited_only, frees_only}
use Rattle.resolve_net_laws.specs.Touched.{Seen, Mine}
use Rattle.resolve_net_laws.specs.Ways.{all_links, link_bytes, links_ended}

-- ---- the links

module _ (s : List ℕ) (n : ℕ) (few : n ≤ 65536) (ws out : List ℕ) (to : ℕ) (low : to ≤ most) (ls : List (Tree × Tree)) (at : ℕ) where
  abbrev pub visited : Penned Stepped
  visited = visit_links s (length ls) ws out 0 (on to 2)

  pub links_deep : visited.is ≡ None → (renamed_links s ws out at n (length ls) to).is ≡ None
  unfolding renamed_links on_step
  links_deep e = rw e

  pub links_on : (p : ℕ) → visited.is ≡ Some (record { from = 0; to = p })
      → renamed_links s ws out at n (length ls) to
      ≡ record { is = Some (record { from = 0; to = (end_links s visited.ws visited.out at n (length ls) to p).is }); ws = visited.ws; out = (end_links s visited.ws visited.out at n (length ls) to p).out }
  unfolding renamed_links on_step
  links_on p e = rw e

  -- what comes of the links: None, or their bytes
  abbrev pub LinksAre : Option (List (Tree × Tree) × Hung) → Penned Stepped → Type 0
  LinksAre none x = x.is ≡ None
  LinksAre (some q) x = Wrote s n ws out 0 to (link_bytes s n few q) q.1 x

  -- on no wire that is not looked at for the links at `at` hangs a tree that is left
  abbrev pub NoneUnseen : Type 0
  NoneUnseen = (v : ℕ) → v < n → (Seen s visited.ws at n v → ⊥) → hung visited.ws v ≡ 0

  pub links_out : (b : Bool) (v : List (Tree × Tree) × Hung) → Keys v.1.trees → Low n v.1.trees → length ls + length (sorted v.1.trees) ≤ 65535 → NoneUnseen
      → LinksOut s n few ws out (on to 2) (length ls) (cut b v) visited → LinksAre (cut b v) (renamed_links s ws out at n (length ls) to)
  unfolding cut
  links_out true v keys below fewer nothing g = links_deep g
  links_out false v keys below fewer nothing g =
      let w = g.0 in
      let c = g.1 in
      let p = on (on to 2) (length (concat_map write_link v.0)) in
      let put = links_ended s n few ws out to low v visited w keys below (omega arith) at nothing in
      let e : Put out to (link_bytes s n few v) (end_links s visited.ws visited.out at n (length ls) to p) = rw c at put in
      rw (links_on p w.is) (record {
        is = ap (λ j. Some (record { from = 0; to = j })) e.is;
        meant = w.meant;
        frame = w.frame;
        stored = e.stored;
      })

  pub links_are : (h : Hung) (b : Bool) (v : List (Tree × Tree) × Hung) → KeptFrom s n few ws 0 ls → Meant s n ws h → walk_links 64 ls h ≡ cut b v → Keys v.1.trees → Low n v.1.trees
      → length ls + length (sorted v.1.trees) ≤ 65535 → NoneUnseen → LinksAre (cut b v) (renamed_links s ws out at n (length ls) to)
  links_are h b v k m e keys below fewer nothing =
      links_out b v keys below fewer nothing (rw e at (links_visit s n few ls h ws out 0 (on to 2) k m (omega arith) (on_most to low 2)))

-- ---- the net

module _ (s : List ℕ) (m : TreeNet) (at p : ℕ) (k : NetLies s m at p) (ws out : List ℕ) (to : ℕ) (low : to ≤ most) (ls : List (Tree × Tree)) (h : Hung)
    (kept : KeptFrom s m.wires k.few ws 0 ls) (meant : Meant s m.wires ws h) (bytes : Bytes s) (mine : Only (Mine s bytes at) ws) where
  abbrev pub n : ℕ
  n = m.wires

  abbrev pub frees : Penned Stepped
  frees = code.trees (code.tree s 64) (length m.free) ws (store to (front m) out) (at + 8) (on to 8)

  pub renamed_as : renamed s ws out at p n (length ls) to
      ≡ on_step frees.is (λ pen. renamed_links s frees.ws frees.out p n (length ls) pen.to) (record { is = None; ws = frees.ws; out = frees.out })
  unfolding renamed
  renamed_as =
      let e = k.eight in
      let r = k.room in
      let l = k.long in
      let g = length-append (front m) (concat_map write_tree m.free) in
      let a : within s (at + 8) ≡ at + 8 = omega arith in
      let b : between s at (at + 8) ≡ front m = rw e at (between_is s at (front m) (omega arith) k.begins) in
      rw (a, k.count, b)

  -- the net's first bytes
  abbrev pub begun : Penned Stepped
  begun = record { is = Some (record { from = at + 8; to = on to 8 }); ws = ws; out = store to (front m) out }

  pub begun_wrote : Wrote s n ws out (at + 8) to (front m) h begun
  begun_wrote = record {
    is = ap (λ j. Some (record { from = at + 8; to = on to j })) (sym k.eight);
    meant = meant;
    frame = frame_none ws;
    stored = λ room small. refl;
  }

  -- where the free trees end
  abbrev pub free_end : ℕ
  free_end = at + 8 + length (write_trees (trees m.free))

  pub frees_out : Outcomes s n ws (store to (front m) out) free_end (on to 8) (length m.free) (walk_all (walk 64) (trees m.free) h) frees
  frees_out =
      let e : length (listed (trees m.free)) ≡ length m.free = ap length (listed_trees m.free) in
      rw e at (trees_walk s n (code.tree s 64) (walk 64) (tree_walks s n k.few 64) (trees m.free) h ws (store to (front m) out) (at + 8) (on to 8) k.frees meant (on_most to low 8))

  -- None, or the bytes of the net
  pub record Whole (y : TreeNet) (x : Penned Stepped) : Type 0 where
    pub is : x.is ≡ Some (record { from = 0; to = on to (length (write_tree_net y)) })
    pub frame : Frame ws x.ws
    pub stored : to + length (write_tree_net y) ≤ length out → length out ≤ most → x.out ≡ store to (write_tree_net y) out

  abbrev pub RenamedIs : Result TreeNet → Penned Stepped → Type 0
  RenamedIs (refuse r) x = x.is ≡ None
  RenamedIs (ok y) x = Whole y x

  pub step_deep : (go : ℕ → Penned Stepped) → frees.is ≡ None → (on_step frees.is (λ pen. go pen.to) (record { is = None; ws = frees.ws; out = frees.out })).is ≡ None
  unfolding on_step
  step_deep go e = rw e

  pub step_on : (go : ℕ → Penned Stepped) (e q : ℕ) → frees.is ≡ Some (record { from = e; to = q })
      → on_step frees.is (λ pen. go pen.to) (record { is = None; ws = frees.ws; out = frees.out }) ≡ go q
  unfolding on_step
  step_on go e q h = rw h

  -- the links behind the free trees
  pub links_whole : (u : Trees × Hung) (b : Bool) (v : List (Tree × Tree) × Hung) (x : Penned Stepped) → length (listed u.0) ≡ length m.free
      → Wrote s n ws (store to (front m) out) free_end (on to 8) (write_trees u.0) u.1 frees
      → LinksAre s n k.few frees.ws frees.out (on (on to 8) (length (write_trees u.0))) (on_most (on to 8) (on_most to low 8) (length (write_trees u.0))) ls p (cut b v) x
      → RenamedIs (on_links m (listed u.0) (cut b v)) x
  unfolding cut on_links
  links_whole u true v x c w g = g
  links_whole u false v x c w g =
      let e₈ : on to 8 ≡ on to (length (front m)) = ap (on to) (sym k.eight) in
      let w₁ = wrote_then s n ws out (at + 8) free_end to (front m) (write_trees u.0) h u.1 begun frees low begun_wrote (subst (λ j. Wrote s n ws (store to (front m) out) free_end j (write_trees u.0) u.1 frees) e₈ w) in
      let l₁ = length-append (front m) (write_trees u.0) in
      let e : on (on to 8) (length (write_trees u.0)) ≡ on to (length (front m ++ write_trees u.0)) =
      rw e₈ (on_on to low (length (front m)) (length (write_trees u.0)) ∙ ap (on to) (sym l₁)) in
      let w₂ = wrote_then s n ws out free_end 0 to (front m ++ write_trees u.0) (link_bytes s n k.few v) u.1 v.1 frees x low w₁ (subst (λ j. Wrote s n frees.ws frees.out 0 j (link_bytes s n k.few v) v.1 x) e g) in
      let bytes : (front m ++ write_trees u.0) ++ link_bytes s n k.few v ≡ write_tree_net (with_trees m (listed u.0) (all_links s n k.few v)) =
      rw (trees_written u.0) (append_assoc (front m) (concat_map write_tree (listed u.0)) (link_bytes s n k.few v) ∙ net_bytes m (listed u.0) (all_links s n k.few v) c) in
      record {
        is = w₂.is ∙ ap (λ bs. Some (record { from = 0; to = on to (length bs) })) bytes;
        frame = w₂.frame;
        stored = λ room small. w₂.stored (rw bytes room) small ∙ ap (λ bs. store to bs out) bytes;
      }
