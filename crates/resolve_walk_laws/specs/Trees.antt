-- The walk over stored trees writes what `walk` gives of the trees that lie there, and says None where it gives nothing: `tree-walks`.
use Prim.Native.Nat.{ℕ, zero, suc, ◌+◌, ◌-◌, ◌<◌, ◌≤◌}
use Rattle.std.specs.Prelude.{◌≡◌, refl, List, [], ◌∷◌, ◌++◌, take, drop}
use Rattle.std.proofs.Math.Path.{sym, ap}
use Rattle.std.proofs.Common.{◌∙◌, append_assoc, length-append}
use Rattle.std.proofs.Math.Option.{Option, none, some}
use native.Mathlib.Omega.{arith}
use Rattle.std.proofs.Math.ListN.{length}
use Rattle.words.specs.Choose.{if_lt, lt_no, eq_yes, eq_no}
use Rattle.words.specs.Left.{Left}
use Rattle.net_file.specs.Values.{Name, Tree, wire, node, Trees, more, listed}
use Rattle.net_file.specs.Values
use Rattle.net_file.specs.Write.{be, write_name, write_tree, write_trees}
use Rattle.net_file_laws.specs.Bytes.{length_be}
use Rattle.conversions.specs.Resolve.{Hung}
use Rattle.fields.specs.Fields.{byte}
use Rattle.stored.specs.Stored.{name_end}
use Rattle.stored_tree.specs.Tree.{child_count_at, children}
use Rattle.ends.specs.Ends.{within, name_past}
use Rattle.put.specs.Written.{part}
use Rattle.store.specs.Store.{store, between, store_none}
use Rattle.resolve_walk.specs.declared.Led.{Led}
use Rattle.resolve_walk.specs.declared.Head.{Head}
use Rattle.std.specs.Prelude.{Some, None}
use Rattle.resolve_walk.specs.Penned.{Stepped, Penned, Inked}
use Rattle.resolve_walk.specs.Walk.{on, span, on_step, write_wire, write_head, resume, wired, noded}
use Rattle.resolve_walk.specs.Walk as code
use Rattle.resolve_walk.specs.Ways.{resume_own, resume_on, resume_deep}
use Rattle.resolve_laws.specs.Walk.{then, lead, at_node, walk_all, too_deep, walk, below, walk_is}
use Rattle.spelt_trees.specs.Lies.{HeadLies, Lies, LieAll}
use Rattle.spelt_trees.specs.Scanned.{wire_long, node_long}
use Rattle.resolve_walk_laws.specs.Meant.{Frame, frame_none, frame_then, HungAt, Meant}
use Rattle.resolve_walk_laws.specs.Lead.{LedTo, Behind, Leads, leads}
use Rattle.resolve_walk_laws.specs.Places.{most, on_most, on_none, on_fits, on_on, store_append, store_length}

-- a node's own bytes
abbrev pub head_of : Name → ℕ → List ℕ
head_of m k = be 1 1 ++ write_name m ++ be 1 k

pub wire_bytes : (c : ℕ) → write_tree (wire c) ≡ be 1 0 ++ be 2 c
unfolding write_tree
wire_bytes c = refl

pub node_bytes : (m : Name) (ts : Trees) → head_of m (length (listed ts)) ++ write_trees ts ≡ write_tree (node m ts)
unfolding write_tree
node_bytes m ts = rw (append_assoc, append_assoc)

module _ (s : List ℕ) (n : ℕ) where
  -- the bytes bs stand from `to` on where there is room, the file is gone on from e, and the tables mean h
  pub record Wrote (ws out : List ℕ) (e to : ℕ) (bs : List ℕ) (h : Hung) (x : Penned Stepped) : Type 0 where
    pub is : x.is ≡ Some (record { from = e; to = on to (length bs) })
    pub meant : Meant s n x.ws h
    pub frame : Frame ws x.ws
    pub stored : to + length bs ≤ length out → length out ≤ most → x.out ≡ store to bs out

  -- one part, and then another
  pub wrote_then : (ws out : List ℕ) (e f to : ℕ) (xs ys : List ℕ) (h k : Hung) (x y : Penned Stepped) → to ≤ most → Wrote ws out e to xs h x
      → Wrote x.ws x.out f (on to (length xs)) ys k y → Wrote ws out f to (xs ++ ys) k y
  wrote_then ws out e f to xs ys h k x y low a b =
      let l = length-append xs ys in
      let o : on (on to (length xs)) (length ys) ≡ on to (length (xs ++ ys)) = on_on to low (length xs) (length ys) ∙ ap (on to) (sym l) in
      record {
        is = b.is ∙ ap (λ p. Some (record { from = f; to = p })) o;
        meant = b.meant;
        frame = frame_then a.frame b.frame;
        stored = λ room small.
            let i : to + (length xs + length ys) ≤ length out = omega arith in
            let ea : x.out ≡ store to xs out = a.stored (omega arith) small in
            let la : length x.out ≡ length out = rw ea (store_length out to xs (omega arith)) in
            let p : on to (length xs) ≡ to + length xs = on_fits to low (length xs) (length out) (omega arith) small in
            let eb : y.out ≡ store (on to (length xs)) ys x.out = b.stored (omega arith) (omega arith) in
            eb ∙ rw (p, ea) (store_append out to xs ys i);
      }

  -- ---- what comes of a walk

  abbrev pub Outcome : List ℕ → List ℕ → ℕ → ℕ → Option (Tree × Hung) → Penned Stepped → Type 0
  Outcome ws out e to none x = x.is ≡ None
  Outcome ws out e to (some r) x = Wrote ws out e to (write_tree r.0) r.1 x

  abbrev pub Outcomes : List ℕ → List ℕ → ℕ → ℕ → ℕ → Option (Trees × Hung) → Penned Stepped → Type 0
  Outcomes ws out e to k none x = x.is ≡ None
  Outcomes ws out e to k (some r) x = Wrote ws out e to (write_trees r.0) r.1 x × (length (listed r.0) ≡ k)

  abbrev pub Walks : (List ℕ → List ℕ → ℕ → ℕ → Penned Stepped) → (Tree → Hung → Option (Tree × Hung)) → Type 0
  Walks one f = (t : Tree) (h : Hung) (ws out : List ℕ) (at to : ℕ) → Lies s n t at → Meant s n ws h → to ≤ most
      → Outcome ws out (at + length (write_tree t)) to (f t h) (one ws out at to)

  -- ---- trees, one after another

  module _ (one : List ℕ → List ℕ → ℕ → ℕ → Penned Stepped) (f : Tree → Hung → Option (Tree × Hung)) (law : Walks one f) where
    empty_walks : (h : Hung) (ws out : List ℕ) (at to : ℕ) → Meant s n ws h → to ≤ most → Wrote ws out (at + 0) to [] h (code.trees one 0 ws out at to)
    unfolding code.trees
    empty_walks h ws out at to m low =
        let i : at ≡ at + 0 = omega arith in
        record {
          is = λ j. Some (record { from = i j; to = sym (on_none to low) j });
          meant = m;
          frame = frame_none ws;
          stored = λ room small. store_none to out;
        }

    module _ (ws out : List ℕ) (at to k : ℕ) where
      first_deep : (one ws out at to).is ≡ None → (code.trees one (suc k) ws out at to).is ≡ None
      unfolding code.trees on_step
      first_deep e = rw e

      first_on : (e p : ℕ) → (one ws out at to).is ≡ Some (record { from = e; to = p })
          → code.trees one (suc k) ws out at to ≡ code.trees one k (one ws out at to).ws (one ws out at to).out e p
      unfolding code.trees on_step
      first_on e p h = rw h

    rest_walks : (ws out : List ℕ) (d e to k : ℕ) (r : Tree × Hung) (x y : Penned Stepped) → to ≤ most → Wrote ws out d to (write_tree r.0) r.1 x → (o : Option (Trees × Hung))
        → Outcomes x.ws x.out e (on to (length (write_tree r.0))) k o y
        → Outcomes ws out e to (suc k) (then {B = Trees × Hung} o (λ q. some (more r.0 q.0, q.1))) y
    unfolding then write_tree
    rest_walks ws out d e to k r x y low w none g = g
    rest_walks ws out d e to k r x y low w (some q) g =
        (wrote_then ws out d e to (write_tree r.0) (write_trees q.0) r.1 q.1 x y low w g.0, ap suc g.1)

    -- the law of trees that lie behind one another
    abbrev WalkAll : Trees → Type 0
    WalkAll ts = (h : Hung) (ws out : List ℕ) (at to : ℕ) → LieAll s n ts at → Meant s n ws h → to ≤ most
        → Outcomes ws out (at + length (write_trees ts)) to (length (listed ts)) (walk_all f ts h) (code.trees one (length (listed ts)) ws out at to)

    first_walks : (t : Tree) (ts : Trees) → WalkAll ts → (ws out : List ℕ) (at to : ℕ) → LieAll s n ts (at + length (write_tree t)) → to ≤ most → (o : Option (Tree × Hung))
        → Outcome ws out (at + length (write_tree t)) to o (one ws out at to)
        → Outcomes ws out (at + length (write_tree t) + length (write_trees ts)) to (suc (length (listed ts)))
        (then {B = Trees × Hung} o (λ r. then {B = Trees × Hung} (walk_all f ts r.1) (λ q. some (more r.0 q.0, q.1))))
        (code.trees one (suc (length (listed ts))) ws out at to)
    unfolding then
    first_walks t ts ih ws out at to l low none e = first_deep ws out at to (length (listed ts)) e
    first_walks t ts ih ws out at to l low (some r) w =
        let x = one ws out at to in
        let k = length (listed ts) in
        let e = at + length (write_tree t) in
        let p = on to (length (write_tree r.0)) in
        rw (first_on ws out at to k e p w.is)
        (rest_walks ws out e (e + length (write_trees ts)) to k r x (code.trees one k x.ws x.out e p) low w (walk_all f ts r.1)
        (ih r.1 x.ws x.out e p l w.meant (on_most to low (length (write_tree r.0)))))

    pub trees_walk : (ts : Trees) → WalkAll ts
    unfolding LieAll walk_all write_tree
    trees_walk Values.none h ws out at to l m low = (empty_walks h ws out at to m low, refl)
    trees_walk (more t ts) h ws out at to l m low =
        let i : at + length (write_tree t) + length (write_trees ts) ≡ at + length (write_tree t ++ write_trees ts) = rw (length-append) (omega arith) in
        rw (← i) (first_walks t ts (trees_walk ts) ws out at to l.1 low (f t h) (law t h ws out at to l.0 m low))

  -- ---- one tree

  -- a node's own bytes
  module _ (m : Name) (k p : ℕ) (g : HeadLies s n m k p) (out : List ℕ) (to : ℕ) where
    head_bytes : between s p (name_end s (p + 1) + 1) ≡ head_of m k
    unfolding between part child_count_at
    head_bytes = sym (lt_no _ _ _ _ g.room refl) ∙ g.bytes

    head_is : write_head s out p to ≡ record { is = record { from = child_count_at s p + 1; count = k; to = on to (length (head_of m k)) }; out = store to (head_of m k) out }
    unfolding write_head span child_count_at children
    head_is =
        let room = g.room in
        let end = g.end in
        let low : p + 1 ≤ name_end s (p + 1) = omega (arith, name_past s (p + 1)) in
        let a : within s (p + 1) ≡ p + 1 = omega arith in
        let b : within s (name_end s (p + 1)) ≡ name_end s (p + 1) = omega arith in
        let c : within s (name_end s (p + 1) + 1) ≡ name_end s (p + 1) + 1 = omega arith in
        let l : name_end s (p + 1) + 1 - p ≡ length (head_of m k) = omega arith in
        rw (a, b, c, l, head_bytes, g.count)

  module _ (few : n ≤ 65536) (ws out : List ℕ) (at to : ℕ) (low : to ≤ most) where
    abbrev led : Left Led
    led = code.lead s ws at

    tree_wired_lem : (d : ℕ) → led.is.node ≡ 0 → code.tree s d ws out at to ≡ wired s led out to
    unfolding code.tree
    tree_wired_lem zero z = sym (eq_yes _ _ _ _ z refl)
    tree_wired_lem (suc d) z = sym (eq_yes _ _ _ _ z refl)

    tree_deep : (led.is.node ≡ 0 → ⊥) → (code.tree s 0 ws out at to).is ≡ None
    unfolding code.tree
    tree_deep z = ap (λ (x : Penned Stepped). x.is) (sym (eq_no _ _ _ _ z refl))

    tree_noded : (d : ℕ) → (led.is.node ≡ 0 → ⊥) → code.tree s (suc d) ws out at to ≡ noded s (code.tree s d) led out to
    unfolding code.tree
    tree_noded d z = sym (eq_no _ _ _ _ z refl)

    -- a wire that was led to
    wire_walks : (e c : ℕ) (h : Hung) → led.is.wire ≡ c → within s (led.is.behind + 2) ≡ e → Meant s n led.ws h → Frame ws led.ws
        → Wrote ws out e to (write_tree (wire c)) h (wired s led out to)
    unfolding wired write_wire
    wire_walks e c h ec ee m f =
        let l = wire_long c in
        record {
          is = λ i. Some (record { from = ee i; to = on to (sym l i) });
          meant = m;
          frame = f;
          stored = λ room small.
              let b = length_be 1 0 in
              let p : on to 1 ≡ to + length (be 1 0) = on_fits to low 1 (length out) (omega arith) small ∙ ap (λ k. to + k) (sym b) in
              let j : to + (length (be 1 0) + length (be 2 c)) ≤ length out = omega (arith, length_be 2 c) in
              rw (ec, p) (store_append out to (be 1 0) (be 2 c) j ∙ ap (λ bs. store to bs out) (sym (wire_bytes c)));
        }

    -- a node that was led to, with its children
    module _ (d : ℕ) (law : Walks (code.tree s d) (walk d)) (m : Name) (ts : Trees) (h : Hung) (p e : ℕ) (word : led.is.node ≡ p + 1)
        (head : HeadLies s n m (length (listed ts)) p) (all : LieAll s n ts (child_count_at s p + 1)) (meant : Meant s n led.ws h) (frame : Frame ws led.ws)
        (back : (q : ℕ) → resume s led.is (Some (record { from = child_count_at s p + 1 + length (write_trees ts); to = q })) ≡ Some (record { from = e; to = q }))
        (stop : resume s led.is None ≡ None) where
      abbrev k : ℕ
      k = length (listed ts)

      abbrev bytes : List ℕ
      bytes = head_of m k

      -- the node's own bytes are written
      abbrev begun : Penned Stepped
      begun = record { is = Some (record { from = child_count_at s p + 1; to = on to (length bytes) }); ws = led.ws; out = store to bytes out }

      begun_wrote : Wrote ws out (child_count_at s p + 1) to bytes h begun
      begun_wrote = record { is = refl; meant = meant; frame = frame; stored = λ room small. refl }

      abbrev rest : Penned Stepped
      rest = code.trees (code.tree s d) k led.ws (store to bytes out) (child_count_at s p + 1) (on to (length bytes))

      noded_is : noded s (code.tree s d) led out to ≡ record { is = resume s led.is rest.is; ws = rest.ws; out = rest.out }
      unfolding noded
      noded_is = let i : led.is.node - 1 ≡ p = omega arith in rw (i, head_is m k p head out to)

      rest_outcome : (o : Option (Trees × Hung)) → Outcomes led.ws (store to bytes out) (child_count_at s p + 1 + length (write_trees ts)) (on to (length bytes)) k o rest
          → Outcome ws out e to (then {B = Tree × Hung} o (λ r. some (node m r.0, r.1))) (record { is = resume s led.is rest.is; ws = rest.ws; out = rest.out })
      unfolding then
      rest_outcome none g = rw g stop
      rest_outcome (some r) g =
          let w = wrote_then ws out (child_count_at s p + 1) (child_count_at s p + 1 + length (write_trees ts)) to bytes (write_trees r.0) h r.1 begun rest low begun_wrote g.0 in
          let b : bytes ++ write_trees r.0 ≡ write_tree (node m r.0) = rw (← g.1) (node_bytes m r.0) in
          rw (← b) (record {
            is = rw w.is (back (on to (length (bytes ++ write_trees r.0))));
            meant = w.meant;
            frame = w.frame;
            stored = w.stored;
          })

      node_walks : Outcome ws out e to (at_node (below (suc d)) (node m ts) h) (code.tree s (suc d) ws out at to)
      unfolding at_node below
      node_walks =
          rw (tree_noded d (λ z. absurd (omega arith)), noded_is)
          (rest_outcome (walk_all (walk d) ts h)
          (trees_walk (code.tree s d) (walk d) law ts h led.ws (store to bytes out) (child_count_at s p + 1) (on to (length bytes)) all meant (on_most to low (length bytes))))

  -- ---- all of it

  wire_room : (w at : ℕ) → Lies s n (wire w) at → at + 3 ≤ length s
  unfolding Lies
  wire_room w at k = k.room

  node_head : (m : Name) (ts : Trees) (at : ℕ) → Lies s n (node m ts) at → HeadLies s n m (length (listed ts)) at
  unfolding Lies
  node_head m ts at k = k.0

  node_all : (m : Name) (ts : Trees) (at : ℕ) → Lies s n (node m ts) at → LieAll s n ts (child_count_at s at + 1)
  unfolding Lies
  node_all m ts at k = k.1

  module _ (few : n ≤ 65536) (ws out : List ℕ) (at to : ℕ) (low : to ≤ most) where
    -- from a wire, to whatever it leads to
    module _ (w : ℕ) (lies : Lies s n (wire w) at) (u : Tree) (h : Hung) (g : Leads s n few ws (wire w) at (code.lead s ws at) (u, h)) where
      abbrev found : Led
      found = (code.lead s ws at).is

      abbrev end : ℕ
      end = at + length (write_tree (wire w))

      behind_wire : within s (found.behind + 2) ≡ end
      behind_wire = let b = g.behind in omega (arith, wire_room w at lies, wire_long w)

      led_back : (e q : ℕ) → resume s found (Some (record { from = e; to = q })) ≡ Some (record { from = end; to = q })
      led_back e q =
          let b = g.behind in
          sym (resume_on s found (Some (record { from = e; to = q })) (record { from = e; to = q }) end (λ z. absurd (omega arith)) refl (sym behind_wire))

      led_stop : resume s found None ≡ None
      led_stop = let b = g.behind in sym (resume_deep s found None (λ z. absurd (omega arith)) refl)

    wire_flat : (d w : ℕ) → Lies s n (wire w) at → (c : ℕ) (h : Hung) → Leads s n few ws (wire w) at (code.lead s ws at) (wire c, h)
        → Outcome ws out (at + length (write_tree (wire w))) to (at_node (below d) (wire c) h) (code.tree s d ws out at to)
    unfolding at_node
    wire_flat d w lies c h g =
        rw (tree_wired_lem few ws out at to low d g.to.0)
        (wire_walks few ws out at to low (at + length (write_tree (wire w))) c h g.to.1 (behind_wire w lies (wire c) h g) g.meant g.frame)

    wire_zero : (w : ℕ) → Lies s n (wire w) at → (u : Tree) (h : Hung) → Leads s n few ws (wire w) at (code.lead s ws at) (u, h)
        → Outcome ws out (at + length (write_tree (wire w))) to (at_node (below 0) u h) (code.tree s 0 ws out at to)
    unfolding at_node below too_deep then
    wire_zero w lies (wire c) h g = wire_flat 0 w lies c h g
    wire_zero w lies (node m ts) h g = let i = g.to.word in tree_deep few ws out at to low (λ z. absurd (omega arith))

    wire_suc : (d : ℕ) → Walks (code.tree s d) (walk d) → (w : ℕ) → Lies s n (wire w) at → (u : Tree) (h : Hung) → Leads s n few ws (wire w) at (code.lead s ws at) (u, h)
        → Outcome ws out (at + length (write_tree (wire w))) to (at_node (below (suc d)) u h) (code.tree s (suc d) ws out at to)
    wire_suc d law w lies (wire c) h g = wire_flat (suc d) w lies c h g
    wire_suc d law w lies (node m ts) h g =
        let p = g.to.place in
        node_walks few ws out at to low d law m ts h p (at + length (write_tree (wire w))) g.to.word (node_head m ts p g.to.lies) (node_all m ts p g.to.lies) g.meant g.frame
        (led_back w lies (node m ts) h g (child_count_at s p + 1 + length (write_trees ts))) (led_stop w lies (node m ts) h g)

    -- from a node, to itself
    module _ (m : Name) (ts : Trees) (lies : Lies s n (node m ts) at) (h : Hung) (g : Leads s n few ws (node m ts) at (code.lead s ws at) (node m ts, h)) where
      node_zero : Outcome ws out (at + length (write_tree (node m ts))) to (at_node (below 0) (node m ts) h) (code.tree s 0 ws out at to)
      unfolding at_node below too_deep then
      node_zero = let i = g.behind.1 in tree_deep few ws out at to low (λ z. absurd (omega arith))

      node_suc : (d : ℕ) → Walks (code.tree s d) (walk d)
          → Outcome ws out (at + length (write_tree (node m ts))) to (at_node (below (suc d)) (node m ts) h) (code.tree s (suc d) ws out at to)
      node_suc d law =
          let b = g.behind in
          let e : child_count_at s at + 1 + length (write_trees ts) ≡ at + length (write_tree (node m ts)) = omega (arith, (node_head m ts at lies).end, node_long m ts) in
          node_walks few ws out at to low d law m ts h at (at + length (write_tree (node m ts))) b.1 (node_head m ts at lies) (node_all m ts at lies) g.meant g.frame
          (λ q. sym (resume_own s (code.lead s ws at).is (Some (record { from = child_count_at s at + 1 + length (write_trees ts); to = q })) b.0) ∙ ap (λ f. Some (record { from = f; to = q })) e)
          (sym (resume_own s (code.lead s ws at).is None b.0))

  pub tree_walks : n ≤ 65536 → (d : ℕ) → Walks (code.tree s d) (walk d)
  unfolding lead
  tree_walks few zero (wire w) h ws out at to k m low =
      rw (walk_is 0 (wire w) h) (wire_zero few ws out at to low w k (lead (wire w) h).0 (lead (wire w) h).1 (leads s n few ws h m (wire w) at k))
  tree_walks few (suc d) (wire w) h ws out at to k m low =
      rw (walk_is (suc d) (wire w) h) (wire_suc few ws out at to low d (tree_walks few d) w k (lead (wire w) h).0 (lead (wire w) h).1 (leads s n few ws h m (wire w) at k))
  tree_walks few zero (node q ts) h ws out at to k m low =
      rw (walk_is 0 (node q ts) h) (node_zero few ws out at to low q ts k h (leads s n few ws h m (node q ts) at k))
  tree_walks few (suc d) (node q ts) h ws out at to k m low =
      rw (walk_is (suc d) (node q ts) h) (node_suc few ws out at to low q ts k h (leads s n few ws h m (node q ts) at k) d (tree_walks few d))
