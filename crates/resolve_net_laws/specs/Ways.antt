-- A net as it stands, and a net renamed: `plain-is`, `renamed-is`.
use Rattle.std.specs.Prelude.{ℕ, zero, suc, ◌+◌, ◌-◌, ◌%◌, ◌<◌, ◌≤◌, ◌≡◌, refl, List, [], ◌∷◌, ◌++◌, map, take, drop}
use Rattle.std.proofs.Common.{sym, ◌∙◌, append_assoc, length-drop, take_at, drop_at, drop-drop, length-take-le, take-take}
use Rattle.std.proofs.Math.Path.{ap}
use Rattle.std.proofs.Math.Option.{Option, none, some}
use native.Mathlib.Omega.{arith}
use Rattle.std.proofs.Math.ListN.{length, length-append}
use Rattle.std.proofs.lemmas.List.{take-append-le}
use Rattle.net_file.specs.Lists.{concat_map}
use Rattle.net_file.specs.Values.{Tree, wire, Trees, listed, trees, TreeNet}
use Rattle.net_file.specs.Write.{be, write_tree, write_trees, write_link, write_tree_net}
use Rattle.net_file_laws.specs.Bytes.{length_be}
use Rattle.net_file_laws.specs.Trees.{listed_trees, trees_written}
use Rattle.conversions.specs.Resolve.{Hung, sorted, with_trees}
use Rattle.fields.specs.Fields.{byte}
use Rattle.ends.specs.Ends.{within}
use Rattle.put.specs.Laws.{put_in_yes}
use Rattle.store.specs.Store.{store, between}
use Rattle.std.specs.Prelude.{Some, None}
use Rattle.resolve_walk.specs.Penned.{Stepped, Penned, Inked}
use Rattle.resolve_walk.specs.Walk.{on, span, on_step}
use Rattle.resolve_walk.specs.Walk as code
use Rattle.resolve_net.specs.Plain.{copy_links, plain}
use Rattle.words.specs.Choose.{lt_split}
use Rattle.wire_tables.specs.Tables.{hung}
use Rattle.wire_blocks.specs.Laws.{wires_from, looked_less}
use Rattle.resolve_net.specs.declared.Listed.{Listed}
use Rattle.resolve_net.specs.Renamed.{visit_links, circles, marks_of, left_below, left_circles, end_links, renamed_links, renamed}
use Rattle.resolve_laws.specs.Walk.{walk_all, walk}
use Rattle.resolve_laws.specs.Keys.{Keys}
use Rattle.resolve_laws.specs.Kept.{Low}
use Rattle.resolve_laws.specs.Links.{walk_links}
use Rattle.resolve_laws.specs.Resolve.{circle}
use Rattle.resolve_laws.specs.Sorted.{ascending, sorted_is}
use Rattle.resolve_walk_laws.specs.Meant.{Frame, frame_none, frame_then, HungAt, Meant}
use Rattle.resolve_walk_laws.specs.Places.{most, on_most, on_none, on_fits, on_on, store_append, store_length}
use Rattle.resolve_walk_laws.specs.Trees.{Wrote, wrote_then, Outcomes, trees_walk, tree_walks}
use Rattle.resolve_pass_laws.specs.Keeping.{KeptFrom}
use Rattle.resolve_net_laws.specs.Copied.{Holds, between_is, Put, put_then, copies}
use Rattle.resolve_net_laws.specs.Visited.{kept_frame, LinksOut, links_visit}
use Rattle.resolve_net_laws.specs.Circles.{bytes_of, Lists, circles_list, Bare, circles_less, less_upto}
use Rattle.resolve_net_laws.specs.Touched.{Seen}
use Rattle.resolve_net_laws.specs.Lies.{front, upto, NetLies, net_bytes}

-- ---- as it stands

module _ (s : List ℕ) (m : TreeNet) (at p : ℕ) (k : NetLies s m at p) (out : List ℕ) (to : ℕ) (low : to ≤ most) where
  module _ (ws : List ℕ) (ls : List (Tree × Tree)) (kept : KeptFrom s m.wires k.few ws 0 ls) (fewer : length ls ≤ 65535) where
    abbrev first : Inked ℕ
    first = record { is = on to (length (upto m)); out = store to (upto m) out }

    abbrev second : Inked ℕ
    second = record { is = on first.is 2; out = store first.is (be 2 (length ls)) first.out }

    second_put : Put first.out first.is (be 2 (length ls)) second
    second_put = record { is = ap (on first.is) (sym (length_be 2 (length ls))); stored = λ room small. refl }

    plain_as : plain s ws out at p (length ls) to ≡ copy_links s ws (length ls) second.out 0 second.is
    unfolding plain span
    plain_as =
        let l = k.long in
        let r = k.room in
        let a : p - at ≡ length (upto m) = omega arith in
        let b : length ls % 65536 ≡ length ls = omega arith in
        let c : between s at p ≡ upto m = rw l (between_is s at (upto m) (omega arith) k.holds) in
        rw (a, b, c)

    pub plain_is : Put out to (write_tree_net (with_trees m m.free ls)) (plain s ws out at p (length ls) to)
    plain_is =
        let a = put_then out to (upto m) (be 2 (length ls)) first second low (record { is = refl; stored = λ room small. refl }) second_put in
        let b = put_then out to (upto m ++ be 2 (length ls)) (concat_map write_link ls) second (copy_links s ws (length ls) second.out 0 second.is) low a
        (copies s m.wires k.few ws ls 0 kept (omega arith) second.out second.is (on_most first.is (on_most to low (length (upto m))) 2)) in
        let e : (upto m ++ be 2 (length ls)) ++ concat_map write_link ls ≡ write_tree_net (with_trees m m.free ls) = rw (append_assoc, append_assoc) (net_bytes m m.free ls refl) in
        rw (plain_as, ← e) b

-- ---- a count that is stored after what it counts

store_front : (out : List ℕ) (to : ℕ) (xs ys : List ℕ) → to + (length xs + length ys) ≤ length out → store to xs (store (to + length xs) ys out) ≡ store to (xs ++ ys) out
store_front out to xs ys h =
    let b = to + length xs in
    let past = drop (b + length ys) out in
    let inner : store b ys out ≡ take b out ++ (ys ++ past) = put_in_yes out b ys (omega arith) ∙ append_assoc (take b out) ys past in
    let lb : length (take b out) ≡ b = length-take-le b out (omega arith) in
    let ln : length (store b ys out) ≡ length out = store_length out b ys (omega arith) in
    let outer : store to xs (store b ys out) ≡ take to (store b ys out) ++ xs ++ drop b (store b ys out) = put_in_yes (store b ys out) to xs (omega arith) in
    let f : take to (store b ys out) ≡ take to out = ap (take to) inner ∙ take-append-le to (take b out) (ys ++ past) (omega arith) ∙ take-take to b out (omega arith) in
    let g : drop b (store b ys out) ≡ ys ++ past = ap (drop b) inner ∙ drop_at (take b out) (ys ++ past) b lb in
    let l = length-append xs ys in
    let e : b + length ys ≡ to + length (xs ++ ys) = omega arith in
    let joined : take to out ++ xs ++ (ys ++ past) ≡ take to out ++ (xs ++ ys) ++ past =
    sym (append_assoc (take to out ++ xs) ys past) ∙ ap (λ zs. zs ++ past) (append_assoc (take to out) xs ys) in
    let whole : store to (xs ++ ys) out ≡ take to out ++ (xs ++ ys) ++ past = put_in_yes out to (xs ++ ys) (omega arith) ∙ ap (λ j. take to out ++ (xs ++ ys) ++ drop j out) (sym e) in
    outer ∙ rw (f, g) (joined ∙ sym whole)

-- ---- renamed

module _ (s : List ℕ) (n : ℕ) (few : n ≤ 65536) where
  -- all links: those that were kept, then the circles
  abbrev pub all_links : List (Tree × Tree) × Hung → List (Tree × Tree)
  all_links q = q.0 ++ map circle (sorted q.1.trees)

  abbrev pub link_bytes : List (Tree × Tree) × Hung → List ℕ
  link_bytes q = be 2 (length (all_links q)) ++ concat_map write_link (all_links q)

  circle_bytes : (es : List (ℕ × Tree)) → concat_map write_link (map circle es) ≡ bytes_of es
  circle_bytes [] = refl
  circle_bytes (e ∷ es) = ap (λ bs. write_link (circle e) ++ bs) (circle_bytes es)

  concat_links : (ls ks : List (Tree × Tree)) → concat_map write_link (ls ++ ks) ≡ concat_map write_link ls ++ concat_map write_link ks
  concat_links [] ks = refl
  concat_links (l ∷ ls) ks = rw (concat_links ls ks) (sym (append_assoc (write_link l) (concat_map write_link ls) (concat_map write_link ks)))

  map_length : (es : List (ℕ × Tree)) → length (map circle es) ≡ length es
  map_length [] = refl
  map_length (e ∷ es) = ap suc (map_length es)

  left_most : (ws : List ℕ) (links : ℕ) → left_below s ws links n ≤ n
  unfolding left_below
  left_most ws links =
      lt_split _ _ _ _ (λ (x : ℕ). x ≤ n) (λ h. omega arith) (λ h. lt_split _ _ _ _ (λ (x : ℕ). x ≤ n) (λ i. omega arith) (λ i. omega arith))

  -- where the links have been visited: the circles behind them, and the count before
  module _ (ws out : List ℕ) (to : ℕ) (low : to ≤ most) (q : List (Tree × Tree) × Hung) (r : Penned Stepped) (w : Wrote s n ws out 0 (on to 2) (concat_map write_link q.0) q.1 r)
      (keys : Keys q.1.trees) (below : Low n q.1.trees) (fewer : length q.0 + length (sorted q.1.trees) ≤ 65535) (links : ℕ)
      (nothing : (v : ℕ) → v < n → (Seen s r.ws links n v → ⊥) → hung r.ws v ≡ 0) where
    abbrev pub place : ℕ
    place = on (on to 2) (length (concat_map write_link q.0))

    abbrev pub ended : Inked ℕ
    ended = end_links s r.ws r.out links n (length q.0) to place

    -- nothing is left on a wire that is not looked at
    bare : (v : ℕ) → v < n → (Seen s r.ws links n v → ⊥) → Bare r.ws v
    bare v h u = let e : v % 65536 ≡ v = omega arith in rw e (nothing v h u)

    all_circles : left_circles s r.ws r.out links n place ≡ circles s r.ws (wires_from 0 n) r.out (record { count = 0; to = place })
    unfolding left_circles
    all_circles =
        let c : Listed = record { count = 0; to = place } in
        let m = left_below s r.ws links n in
        let l = left_most r.ws links in
        let e = circles_less s r.ws (less_upto s r.ws m n 0 l (λ v i j. bare v (omega arith) (λ x. let y = x.0 in absurd (omega arith)))) r.out c in
        lt_split _ _ _ _ (λ (x : Inked Listed). x ≡ circles s r.ws (wires_from 0 n) r.out c) (λ h. e)
        (λ h. circles_less s r.ws (looked_less 0 (marks_of s r.ws links) m (Bare r.ws) (λ v i z. bare v (omega arith) (λ x. x.1.0 z)) (λ v i z. bare v (omega arith) (λ x. x.1.1 z))) r.out c ∙ e)

    listed_circles : Lists r.out (record { count = 0; to = place }) (sorted q.1.trees) (circles s r.ws (wires_from 0 n) r.out (record { count = 0; to = place }))
    listed_circles =
        rw (sorted_is q.1.trees n keys below)
        (circles_list s n r.ws q.1.trees few w.meant.trees n r.out 0 (record { count = 0; to = place }) (omega arith) (on_most (on to 2) (on_most to low 2) (length (concat_map write_link q.0))) (omega arith))

    pub links_ended : Put out to (link_bytes q) ended
    unfolding end_links
    links_ended =
        let xs = concat_map write_link q.0 in
        let ys = bytes_of (sorted q.1.trees) in
        let c = listed_circles in
        let cc = c.count in
        let n₁ : length (all_links q) ≡ length q.0 + length (sorted q.1.trees) = length-append q.0 (map circle (sorted q.1.trees)) ∙ ap (λ j. length q.0 + j) (map_length (sorted q.1.trees)) in
        let t₂ = on_most to low 2 in
        let b₂ = length_be 2 (length (all_links q)) in
        let body : concat_map write_link (all_links q) ≡ xs ++ ys = concat_links q.0 (map circle (sorted q.1.trees)) ∙ ap (λ bs. xs ++ bs) (circle_bytes (sorted q.1.trees)) in
        let lb : length (link_bytes q) ≡ 2 + (length xs + length ys) = length-append (be 2 (length (all_links q))) (concat_map write_link (all_links q)) ∙ rw (b₂, body, length-append xs ys) in
        let num : (length q.0 + (circles s r.ws (wires_from 0 n) r.out (record { count = 0; to = place })).is.count) % 4294967296 % 65536 ≡ length (all_links q) = omega arith in
        record {
          is = ap (λ (x : Inked Listed). x.is.to) all_circles ∙ c.is ∙ on_on (on to 2) t₂ (length xs) (length ys) ∙ on_on to low 2 (length xs + length ys) ∙ ap (on to) (sym lb);
          stored = λ room small.
              let o₂ : on to 2 ≡ to + 2 = on_fits to low 2 (length out) (omega arith) small in
              let e₁ : r.out ≡ store (on to 2) xs out = w.stored (omega arith) small in
              let l₁ : length r.out ≡ length out = rw e₁ (store_length out (on to 2) xs (omega arith)) in
              let pl : place ≡ on to 2 + length xs = on_fits (on to 2) t₂ (length xs) (length out) (omega arith) small in
              let e₂ = c.stored (omega arith) (omega arith) in
              let e₃ : store (on to 2 + length xs) ys (store (on to 2) xs out) ≡ store (on to 2) (xs ++ ys) out = store_append out (on to 2) xs ys (omega arith) in
              let lxy = length-append xs ys in
              let at₂ : to + length (be 2 (length (all_links q))) ≡ on to 2 = omega arith in
              let e₄ : store to (be 2 (length (all_links q))) (store (on to 2) (xs ++ ys) out) ≡ store to (be 2 (length (all_links q)) ++ (xs ++ ys)) out =
              rw at₂ at (store_front out to (be 2 (length (all_links q))) (xs ++ ys) (omega arith)) in
              rw (all_circles, num, e₂, pl, e₁, e₃, e₄, body);
        }
