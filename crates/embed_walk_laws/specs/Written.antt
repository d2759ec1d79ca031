-- What the walk over a stored tree writes, where all its wires fit and its places can be said: the bytes of its nodes in order, and of
-- trees one after another their top wires too, at the place for these: `writes`, `writes-all`.
use Prim.Native.Nat.{ℕ, zero, suc, ◌+◌, ◌*◌, ◌≤◌, min}
use Rattle.std.specs.Prelude.{◌≡◌}
use Rattle.std.proofs.Math.Path.{refl, sym, ap}
use Rattle.std.proofs.Common.{◌∙◌}
use Rattle.std.proofs.Math.Option.{Option, none, some}
use mathlib.Core.List.{List, [], ◌∷◌, ◌++◌, append_assoc}
use native.Mathlib.Omega.{arith}
use Rattle.std.proofs.Math.Decide.{ℕ_discrete}
use Rattle.std.proofs.Math.ListN.{length, length-append}
use Rattle.std.proofs.Math.Seq.{sets}
use Rattle.words.specs.Choose.{eq_yes, eq_no}
use Rattle.net_file.specs.Values.{Tree, wire, node, Trees, more, listed, trees}
use Rattle.net_file.specs.Write.{be, counted, write_name, write_node}
use Rattle.net_file.specs.Checks.{nodes_of, nodes_of_all}
use Rattle.net_file_laws.specs.Bytes.{length_be}
use Rattle.put.specs.Written.{numbers}
use Rattle.put.specs.Fields.{size_numbers}
use Rattle.fields.specs.Fields.{byte}
use Rattle.stored.specs.Stored.{table_at, table_end, name_at}
use Rattle.stored_tree.specs.Tree.{child_count_at, children, tree_end, tree_at}
use Rattle.ends.specs.Ends.{within, table_up}
use Rattle.tree_laws.specs.Places.{leaf_at, wire_at, node_at, node_end, tree_up, count_past}
use Rattle.text_writers.specs.Wrote.{far}
use Rattle.wire_links.specs.Table.{on}
use Rattle.embed.specs.declared.Growth.{Growth}
use Rattle.embed.specs.Embed.{name_size, kids, entered, head_written, topped, top_written, written_by, walked, written, written_all}
use Rattle.embed_laws.specs.Numbers.{given, after, top_of, taken, below, tops, flats, flats_all}
use Rattle.embed_walk_laws.specs.Sizes.{size_of, size_all, bytes_of, bytes_all, nodes_append, bytes_size, tops_long, kids_children, name_long, kids_long}
use Rattle.embed_walk_laws.specs.Walked.{Coded, Bounded, Grows, bounded_on, topped_grows, counter_is, principal_is, entered_at, bounded_entered, walks}
use Rattle.embed_walk_laws.specs.Sets.{sets_comm, sets_then}

module _ (s : List ℕ) where
  -- ---- trees one after another

  -- their top wires at one place, their nodes at another
  abbrev pub laid_out : Trees → ℕ → ℕ → ℕ → List ℕ → List ℕ
  laid_out ts n aux to out = sets (sets out aux (numbers (tops ts n))) to (bytes_all ts n)

  -- one more before them
  laid_next : (t : Tree) (ts : Trees) (n aux to a p top : ℕ) (out : List ℕ) → aux + 2 + 2 * length (listed ts) ≤ to → a ≡ aux + 2 → p ≡ to + size_of t → top ≡ top_of none t n
      → laid_out ts (n + nodes_of t) a p (sets (sets out to (bytes_of none t n)) aux (be 2 top)) ≡ laid_out (more t ts) n aux to out
  unfolding tops bytes_all bytes_of flats_all numbers
  laid_next t ts n aux to a p top out h ea ep et =
      let x = bytes_of none t n in
      let y = be 2 (top_of none t n) in
      let z = numbers (tops ts (n + nodes_of t)) in
      let w = bytes_all ts (n + nodes_of t) in
      let lx : length x ≡ size_of t = bytes_size none t n in
      let ly : length y ≡ 2 = length_be 2 (top_of none t n) in
      let lz : length z ≡ 2 * length (listed ts) = (size_numbers (tops ts (n + nodes_of t))).is ∙ ap (λ k. 2 * k) (tops_long ts (n + nodes_of t)) in
      let lyz = length-append y z in
      let e₁ : sets (sets (sets out to x) aux y) (aux + 2) z ≡ sets (sets out to x) aux (y ++ z) = sets_then (sets out to x) aux (aux + 2) y z (omega arith) in
      let e₂ : sets (sets out to x) aux (y ++ z) ≡ sets (sets out aux (y ++ z)) to x = sets_comm out aux to (y ++ z) x (omega arith) in
      let e₃ : sets (sets (sets out aux (y ++ z)) to x) (to + size_of t) w ≡ sets (sets out aux (y ++ z)) to (x ++ w) = sets_then (sets out aux (y ++ z)) to (to + size_of t) x w (omega arith) in
      rw (ea, ep, et, nodes_append (flats none t n) (flats_all ts (n + nodes_of t))) (ap (λ (l : List ℕ). sets l (to + size_of t) w) (e₁ ∙ e₂) ∙ e₃)

  -- what is asked of a tree before it is written: its wires fit, its place can be said
  pub record Room (up : Option ℕ) (t : Tree) (g : Growth) : Type 0 where
    pub fits : g.wires + taken up t ≤ 65536
    pub said : g.to + size_of t ≤ far

  -- and of trees, with the place of their top wires before that of their nodes
  pub record RoomAll (ts : Trees) (g : Growth) : Type 0 where
    pub fits : g.wires + nodes_of_all ts ≤ 65536
    pub said : g.to + size_all ts ≤ far
    pub apart : g.aux + 2 * length (listed ts) ≤ g.to

  room_as : {ts us : Trees} {g : Growth} → ts ≡ us → RoomAll ts g → RoomAll us g
  room_as e r = record { fits = rw (← e) r.fits; said = rw (← e) r.said; apart = rw (← e) r.apart }

  room_of : {up : Option ℕ} {t u : Tree} {g : Growth} → t ≡ u → Room up t g → Room up u g
  room_of e r = record { fits = rw (← e) r.fits; said = rw (← e) r.said }

  laid_as : (aux to : ℕ) {ts us : Trees} {n m : ℕ} {out o : List ℕ} → ts ≡ us → n ≡ m → out ≡ o → laid_out ts n aux to out ≡ laid_out us m aux to o
  laid_as aux to e f h = rw (e, f, h)

  -- a wire has no node
  wire_bytes : (up : Option ℕ) (w n to : ℕ) (out : List ℕ) → out ≡ sets out to (bytes_of up (wire w) n)
  unfolding bytes_of flats
  wire_bytes up w n to out = refl

  none_laid : (n aux to : ℕ) (out : List ℕ) → out ≡ laid_out (trees []) n aux to out
  unfolding tops bytes_all flats_all numbers
  none_laid n aux to out = refl

  module _ (d k : ℕ) (t : Tree) (e : ℕ) (g x y : Growth) (h : Grows none t e g y) (ex : x ≡ topped y g.aux) (r : RoomAll (trees (t ∷ table_at (tree_at s d) (tree_end s d) e k)) g) where
    abbrev rest : Trees
    rest = trees (table_at (tree_at s d) (tree_end s d) e k)

    room_first : Room none t g
    unfolding taken nodes_of_all size_all
    room_first = let f = r.fits in let q = r.said in record { fits = omega arith; said = omega arith }

    next_at : x.at ≡ e
    unfolding topped
    next_at = ap (λ (z : Growth). z.at) ex ∙ h.at

    next_wires : x.wires ≡ g.wires + nodes_of t
    unfolding topped taken nodes_of_all
    next_wires = let f = r.fits in let w = h.wires in ap (λ (z : Growth). z.wires) ex ∙ omega arith

    next_to : x.to ≡ g.to + size_of t
    unfolding topped size_all
    next_to = let f = r.said in let w = h.to in ap (λ (z : Growth). z.to) ex ∙ omega arith

    next_aux : x.aux ≡ g.aux + 2
    unfolding topped on
    next_aux = let f = r.said in let q = r.apart in ap (λ (z : Growth). z.aux) ex ∙ omega arith

    next_room : RoomAll (trees (table_at (tree_at s d) (tree_end s d) x.at k)) x
    unfolding nodes_of_all size_all
    next_room =
        let f = r.fits in
        let q = r.said in
        let p = r.apart in
        let w = next_wires in
        let o = next_to in
        let a = next_aux in
        rw next_at (record { fits = omega arith; said = omega arith; apart = omega arith })

    next_laid : (out v : List ℕ) → v ≡ sets out g.to (bytes_of none t g.wires)
        → laid_out (trees (table_at (tree_at s d) (tree_end s d) x.at k)) x.wires x.aux x.to (top_written v y g.aux) ≡ laid_out (trees (t ∷ table_at (tree_at s d) (tree_end s d) e k)) g.wires g.aux g.to out
    unfolding top_written
    next_laid out v ev =
        let f = room_first.fits in
        let p = r.apart in
        rw (next_at, next_wires, ev) (laid_next t rest g.wires g.aux g.to x.aux x.to y.top out (omega arith) next_aux next_to (h.top f))

  module _ (d : ℕ) (one : (g : Growth) (out : List ℕ) → Bounded g → tree_end s d g.at ≤ length s → Room none (tree_at s d g.at) g
      → written s d g 65536 out ≡ sets out g.to (bytes_of none (tree_at s d g.at) g.wires)) where
    all_write : (k : ℕ) (g : Growth) (out : List ℕ) → Bounded g → table_end (tree_end s d) g.at k ≤ length s
        → RoomAll (trees (table_at (tree_at s d) (tree_end s d) g.at k)) g
        → written_by (λ x. walked s d x 65536) (λ x. written s d x 65536) g k out
        ≡ laid_out (trees (table_at (tree_at s d) (tree_end s d) g.at k)) g.wires g.aux g.to out
    unfolding written_by table_at table_end
    all_write zero g out b i r = none_laid g.wires g.aux g.to out
    all_write (suc k) g out b i r =
        let t = tree_at s d g.at in
        let e = tree_end s d g.at in
        let u = table_up (tree_end s d) (tree_up s d) e k in
        let h = walks s d none 65536 g refl b (omega arith) in
        let y = walked s d g 65536 in
        let x = topped y g.aux in
        let v = written s d g 65536 out in
        let ev = one g out b (omega arith) (room_first d k t e g x y h refl r) in
        let at = next_at d k t e g x y h refl r in
        all_write k x (top_written v y g.aux) (bounded_on (topped_grows g.aux h)) (rw at i) (next_room d k t e g x y h refl r)
        ∙ next_laid d k t e g x y h refl r out v ev

  -- ---- a node

  -- its name, its principal wire, how many aux wires it has
  abbrev head_bytes : ℕ → ℕ → List ℕ
  head_bytes at top = write_name (name_at s (at + 1)) ++ (be 2 top ++ be 1 (children s at))

  head_long : (at top : ℕ) → length (head_bytes at top) ≡ name_size s at + 3
  head_long at top = let l = name_long s at in simp (length-append, length_be) (omega arith)

  head_laid : (g : Growth) (top : ℕ) (out : List ℕ) → g.at + 1 ≤ length s → g.to + (name_size s g.at + 3) ≤ far
      → head_written s out g top ≡ sets out g.to (head_bytes g.at top)
  unfolding head_written on
  head_laid g top out i h =
      let n = name_size s g.at in
      let x = write_name (name_at s (g.at + 1)) in
      let l : length x ≡ n = name_long s g.at in
      let m = length_be 2 top in
      let w : within s (g.at + 1) ≡ g.at + 1 = omega arith in
      let a : min far (g.to + n) ≡ g.to + length x = omega arith in
      let b : min far (g.to + (n + 2)) ≡ g.to + length x + length (be 2 top) = omega arith in
      rw (w, kids_children s g.at, a, b) (ap (λ (o : List ℕ). sets o (g.to + length x + length (be 2 top)) (be 1 (children s g.at))) (sets_then out g.to (g.to + length x) x (be 2 top) refl)
      ∙ sets_then out g.to (g.to + length x + length (be 2 top)) (x ++ be 2 top) (be 1 (children s g.at)) (let j = length-append x (be 2 top) in omega arith)
      ∙ ap (sets out g.to) (append_assoc x (be 2 top) (be 1 (children s g.at))))

  -- its head, its aux wires, and its children's nodes
  node_bytes : (up : Option ℕ) (at n : ℕ) (ts : Trees) → length (listed ts) ≡ children s at
      → (head_bytes at (given up n) ++ numbers (tops ts (after up n))) ++ bytes_all ts (after up n) ≡ bytes_of up (node (name_at s (at + 1)) ts) n
  unfolding bytes_of bytes_all flats write_node counted numbers
  node_bytes up at n ts e =
      let l : length (tops ts (after up n)) ≡ children s at = tops_long ts (after up n) ∙ e in
      rw l (simp append_assoc)

  node_laid : (up : Option ℕ) (at n aux to p : ℕ) (ts : Trees) (out : List ℕ) → length (listed ts) ≡ children s at → aux ≡ to + (name_size s at + 3) → p ≡ aux + 2 * children s at
      → laid_out ts (after up n) aux p (sets out to (head_bytes at (given up n))) ≡ sets out to (bytes_of up (node (name_at s (at + 1)) ts) n)
  node_laid up at n aux to p ts out e ea ep =
      let x = head_bytes at (given up n) in
      let y = numbers (tops ts (after up n)) in
      let z = bytes_all ts (after up n) in
      let lx : length x ≡ name_size s at + 3 = head_long at (given up n) in
      let ly : length y ≡ 2 * children s at = (size_numbers (tops ts (after up n))).is ∙ ap (λ k. 2 * k) (tops_long ts (after up n) ∙ e) in
      let lxy = length-append x y in
      ap (λ (o : List ℕ). sets o p z) (sets_then out to aux x y (omega arith)) ∙ sets_then out to p (x ++ y) z (omega arith) ∙ ap (sets out to) (node_bytes up at n ts e)

  module _ (d : ℕ) (up : Option ℕ) (k : ℕ) (g : Growth) (c : Coded up k) (b : Bounded g) where
    abbrev kids_of : Trees
    kids_of = trees (table_at (tree_at s d) (tree_end s d) (child_count_at s g.at + 1) (children s g.at))

    module _ (i : child_count_at s g.at + 1 ≤ length s) (r : Room up (node (name_at s (g.at + 1)) kids_of) g) where
      many : length (listed kids_of) ≡ children s g.at
      many = kids_long s (child_count_at s g.at + 1) (tree_at s d) (tree_end s d) (children s g.at)

      fit_after : after up g.wires + nodes_of_all kids_of ≤ 65536
      unfolding taken below nodes_of after
      fit_after = go up r.fits
        where
          go : (up : Option ℕ) → g.wires + taken up (node (name_at s (g.at + 1)) kids_of) ≤ 65536 → after up g.wires + nodes_of_all kids_of ≤ 65536
          go none h = omega arith
          go (some u) h = omega arith

      entered_wires : (entered s g k).wires ≡ after up g.wires
      unfolding entered
      entered_wires = let h = fit_after in counter_is s up k g.wires c b.wires ∙ omega arith

      entered_top : (entered s g k).top ≡ given up g.wires
      unfolding entered
      entered_top = let h = fit_after in principal_is s up k g.wires c (omega arith)

      entered_aux : (entered s g k).aux ≡ g.to + (name_size s g.at + 3)
      unfolding entered on size_of
      entered_aux = let h = r.said in let l = name_long s g.at in omega arith

      entered_to : (entered s g k).to ≡ (entered s g k).aux + 2 * children s g.at
      unfolding entered on size_of
      entered_to =
          let h = r.said in
          let l = name_long s g.at in
          let m = many in
          let j = kids_children s g.at in
          omega arith

      entered_room : RoomAll (trees (table_at (tree_at s d) (tree_end s d) (entered s g k).at (children s g.at))) (entered s g k)
      unfolding size_of
      entered_room =
          let f = fit_after in
          let h = r.said in
          let w = entered_wires in
          let a = entered_aux in
          let t = entered_to in
          let l = name_long s g.at in
          let m = many in
          let e : trees (table_at (tree_at s d) (tree_end s d) (entered s g k).at (children s g.at)) ≡ kids_of = ap (λ p. trees (table_at (tree_at s d) (tree_end s d) p (children s g.at))) (entered_at s g k i) in
          room_as (sym e) (record { fits = omega arith; said = omega arith; apart = omega arith })

      -- the node and all below it
      node_writes : table_end (tree_end s d) (child_count_at s g.at + 1) (children s g.at) ≤ length s
          → ((x : Growth) (out : List ℕ) → Bounded x → tree_end s d x.at ≤ length s → Room none (tree_at s d x.at) x
          → written s d x 65536 out ≡ sets out x.to (bytes_of none (tree_at s d x.at) x.wires))
          → (out : List ℕ)
          → written_by (λ x. walked s d x 65536) (λ x. written s d x 65536) (entered s g k) (kids s g.at) (head_written s out g (entered s g k).top)
          ≡ sets out g.to (bytes_of up (node (name_at s (g.at + 1)) kids_of) g.wires)
      unfolding size_of
      node_writes j one out =
          let o = entered s g k in
          let q : table_end (tree_end s d) o.at (children s g.at) ≤ length s = rw (entered_at s g k i) j in
          let e = all_write d one (children s g.at) o (head_written s out g o.top) (bounded_entered s d up k g o c b) q entered_room in
          let p = count_past s g.at in
          let h = r.said in
          let l = name_long s g.at in
          let f : head_written s out g o.top ≡ sets out g.to (head_bytes g.at (given up g.wires)) =
          head_laid g o.top out (omega arith) (omega arith) ∙ ap (λ t. sets out g.to (head_bytes g.at t)) entered_top in
          let t : trees (table_at (tree_at s d) (tree_end s d) o.at (children s g.at)) ≡ kids_of = ap (λ p. trees (table_at (tree_at s d) (tree_end s d) p (children s g.at))) (entered_at s g k i) in
          ap (λ n. written_by (λ x. walked s d x 65536) (λ x. written s d x 65536) o n (head_written s out g o.top)) (kids_children s g.at)
          ∙ e ∙ laid_as o.aux o.to t entered_wires f
          ∙ node_laid up g.at g.wires o.aux g.to o.to kids_of out many entered_aux entered_to

  -- ---- any tree

  pub writes : (d : ℕ) (up : Option ℕ) (k : ℕ) (g : Growth) (out : List ℕ) → Coded up k → Bounded g → tree_end s d g.at ≤ length s → Room up (tree_at s d g.at) g
      → written s d g k out ≡ sets out g.to (bytes_of up (tree_at s d g.at) g.wires)
  unfolding written
  writes zero up k g out c b i r = rw (leaf_at s g.at) (wire_bytes up _ g.wires g.to out)
  writes (suc d) up k g out c b i r = elim (ℕ_discrete (byte s g.at) 0) [
    | yes z ↦
        let e : out ≡ written s (suc d) g k out = eq_yes _ _ _ _ z refl in
        sym e ∙ rw (wire_at s g.at z (suc d)) (wire_bytes up _ g.wires g.to out)
    | no z ↦
        let j : table_end (tree_end s d) (child_count_at s g.at + 1) (children s g.at) ≤ length s = rw (node_end s g.at z d) at i in
        let u = table_up (tree_end s d) (tree_up s d) (child_count_at s g.at + 1) (children s g.at) in
        let o = entered s g k in
        let q : Room up (node (name_at s (g.at + 1)) (trees (table_at (tree_at s d) (tree_end s d) (child_count_at s g.at + 1) (children s g.at)))) g =
        room_of (node_at s g.at z d) r in
        let e : written_by (λ x. walked s d x 65536) (λ x. written s d x 65536) o (kids s g.at) (head_written s out g o.top) ≡ written s (suc d) g k out = eq_no _ _ _ _ z refl in
        sym e ∙ rw (node_at s g.at z d) (node_writes d up k g c b (omega arith) q j (λ x w. writes d none 65536 x w refl) out)
  ]

  -- k trees, one after another
  pub writes_all : (d k : ℕ) (g : Growth) (out : List ℕ) → Bounded g → table_end (tree_end s d) g.at k ≤ length s
      → RoomAll (trees (table_at (tree_at s d) (tree_end s d) g.at k)) g
      → written_all s d g k out ≡ laid_out (trees (table_at (tree_at s d) (tree_end s d) g.at k)) g.wires g.aux g.to out
  unfolding written_all
  writes_all d k g out b i r = all_write d (λ x w. writes d none 65536 x w refl) k g out b i r
