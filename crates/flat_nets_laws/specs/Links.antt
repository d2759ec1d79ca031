-- The walk over the links of a net: what it numbers, links and writes is what the definitions give for the links that stand there.
use Prim.Native.Nat.{ℕ, zero, suc, ◌+◌, ◌<◌, ◌≤◌, min}
use Rattle.std.specs.Prelude.{◌≡◌, List, [], ◌∷◌, ◌++◌, length}
use Rattle.std.proofs.Math.Path.{refl, sym, ap}
use Rattle.std.proofs.Common.{◌∙◌, length-append}
use Rattle.std.proofs.Math.Option.{none, some}
use native.Mathlib.Omega.{arith}
use Rattle.std.proofs.Math.Decide.{ℕ_discrete}
use Rattle.std.proofs.Math.Seq.{sets}
use Rattle.words.specs.Choose.{eq_yes, eq_no, eq_split, lt_split}
use Rattle.net_file.specs.Lists.{concat_map}
use Rattle.net_file.specs.Values.{Name, Tree, wire, node, Trees}
use Rattle.net_file.specs.Write.{write_node}
use Rattle.net_file.specs.Checks.{nodes_of}
use Rattle.net_file_laws.specs.Bytes.{Bytes}
use Rattle.fields.specs.Fields.{byte, be16}
use Rattle.stored.specs.Stored.{table_at, table_end}
use Rattle.stored_tree.specs.Tree.{tree_end, tree_at, link_at, link_end}
use Rattle.ends.specs.Ends.{table_up}
use Rattle.tree_laws.specs.Places.{wire_at, node_at, tree_up, link_up}
use Rattle.text_writers.specs.Wrote.{far}
use Rattle.conversions.specs.Links.{Links}
use Rattle.conversions.specs.Links
use Rattle.wire_links.specs.Table
use Rattle.wire_links_laws.specs.Means.{Means, means_linked}
use Rattle.embed.specs.declared.Growth.{Growth}
use Rattle.embed.specs.Embed.{principal, leaf, entered, closed, walked, written}
use Rattle.embed_laws.specs.Numbers.{below, taken, flats, hangs}
use Rattle.embed_laws.specs.Nets.{left_top, link_taken, links_taken, link_flats, links_flats, link_hangs, links_hangs}
use Rattle.embed_walk_laws.specs.Sizes.{size_of, bytes_of, nodes_append, bytes_size}
use Rattle.embed_walk_laws.specs.Walked.{Bounded, Grows, bounded_on, walks}
use Rattle.embed_walk_laws.specs.Written.{Room, writes}
use Rattle.embed_walk_laws.specs.Sets.{sets_then}
use Rattle.embed_nets.specs.Nets.{hung, left_walked, link_walked, link_hung, link_written, links_walked, links_hung, links_written}

-- the nodes of a link, and of links; and their bytes
unfoldable pub link_nodes : Tree × Tree → ℕ
link_nodes l = nodes_of l.0 + nodes_of l.1

unfoldable pub links_nodes : List (Tree × Tree) → ℕ
links_nodes [] = 0
links_nodes (l ∷ ls) = link_nodes l + links_nodes ls

unfoldable pub link_size : Tree × Tree → ℕ
link_size l = size_of l.0 + size_of l.1

unfoldable pub links_size : List (Tree × Tree) → ℕ
links_size [] = 0
links_size (l ∷ ls) = link_size l + links_size ls

unfoldable pub links_bytes : List (Tree × Tree) → ℕ → List ℕ
links_bytes ls n = concat_map write_node (links_flats ls n)

-- from g to r past the link l that ends at e; past the links ls
pub record LinkGrows (l : Tree × Tree) (e : ℕ) (g r : Growth) : Type 0 where
  pub at : r.at ≡ e
  pub wires : r.wires ≡ min 65537 (g.wires + link_taken l)
  pub nodes : r.nodes ≡ min 65537 (g.nodes + link_nodes l)
  pub to : r.to ≡ min far (g.to + link_size l)

pub record LinksGrow (ls : List (Tree × Tree)) (e : ℕ) (g r : Growth) : Type 0 where
  pub at : r.at ≡ e
  pub wires : r.wires ≡ min 65537 (g.wires + links_taken ls)
  pub nodes : r.nodes ≡ min 65537 (g.nodes + links_nodes ls)
  pub to : r.to ≡ min far (g.to + links_size ls)

bounded_link : {l : Tree × Tree} {e : ℕ} {g r : Growth} → LinkGrows l e g r → Bounded r
bounded_link h = let w = h.wires in let n = h.nodes in let o = h.to in record { wires = omega arith; nodes = omega arith; to = omega arith }

link_long : (l : Tree × Tree) (n : ℕ) → length (concat_map write_node (link_flats l n)) ≡ link_size l
unfolding link_flats link_size bytes_of
link_long l n =
    let a = bytes_size none l.0 n in
    let b = bytes_size (some (left_top l n)) l.1 (n + nodes_of l.0) in
    rw (nodes_append (flats none l.0 n) (flats (some (left_top l n)) l.1 (n + nodes_of l.0)), length-append) (omega arith)

pub links_size_lem : (ls : List (Tree × Tree)) (n : ℕ) → length (links_bytes ls n) ≡ links_size ls
unfolding links_bytes links_flats links_size
links_size_lem [] n = refl
links_size_lem (l ∷ ls) n =
    let a = link_long l n in
    let b = links_size_lem ls (n + link_taken l) in
    rw (nodes_append (link_flats l n) (links_flats ls (n + link_taken l)), length-append) (omega arith)

module _ (s : List ℕ) where
  hung_wire : (ws : List ℕ) (a : Growth) → byte s a.at ≡ 0 → hung s ws a ≡ Table.link ws a.top (be16 s (a.at + 1))
  unfolding hung
  hung_wire ws a z = sym (eq_yes _ _ _ _ z refl)

  hung_node : (ws : List ℕ) (a : Growth) → (byte s a.at ≡ 0 → ⊥) → hung s ws a ≡ ws
  unfolding hung
  hung_node ws a z = sym (eq_no _ _ _ _ z refl)

hangs_wire : (u : ℕ) (t : Tree) (w : ℕ) (k : Links) → t ≡ wire w → hangs (some u) t k ≡ Links.link k u w
unfolding hangs
hangs_wire u t w k e = rw e

hangs_node : (u : ℕ) (t : Tree) (m : Name) (ts : Trees) (k : Links) → t ≡ node m ts → hangs (some u) t k ≡ k
unfolding hangs
hangs_node u t m ts k e = rw e

means_as : {ws w : List ℕ} {l k : Links} → ws ≡ w → l ≡ k → Means ws l → Means w k
means_as e f m = rw (← e, ← f) m

module _ (s : List ℕ) (bytes : Bytes s) where
  pub two_low : (a : ℕ) → be16 s a < 65536
  two_low a = let x = bytes a in let y = bytes (a + 1) in omega arith

  principal_low : (n k : ℕ) → principal n k < 65536
  unfolding principal
  principal_low n k = lt_split _ _ _ _ (λ (x : ℕ). x < 65536) (λ h. omega arith) (λ h. omega arith)

  -- a top wire is below 65,536, whatever was counted
  pub top_low : (d : ℕ) (g : Growth) (k : ℕ) → (walked s d g k).top < 65536
  unfolding walked leaf closed entered
  top_low zero g k = two_low (g.at + 1)
  top_low (suc d) g k = eq_split _ _ _ _ (λ (x : Growth). x.top < 65536) (λ h. two_low (g.at + 1)) (λ h. principal_low g.wires k)

  -- the right tree's room, where the left one ended
  room_right : (v : ℕ) (a : Growth) (p : ℕ) → a.at ≡ p → a.wires + below (tree_at s 64 p) ≤ 65536 → a.to + size_of (tree_at s 64 p) ≤ far
      → Room s (some v) (tree_at s 64 a.at) a
  unfolding taken
  room_right v a p e f q = record { fits = rw e f; said = rw e q }

  two_parts : (t u : Tree) (e to n v w p m q : ℕ) (out : List ℕ) → p ≡ e → m ≡ n + nodes_of t → v ≡ w → q ≡ to + length (bytes_of none t n) → u ≡ tree_at s 64 e
      → sets (sets out to (bytes_of none t n)) q (bytes_of (some v) (tree_at s 64 p) m) ≡ sets out to (concat_map write_node (flats none t n ++ flats (some w) u (n + nodes_of t)))
  unfolding bytes_of
  two_parts t u e to n v w p m q out ep em ev eq eu =
      rw (ep, em, ev, eu, nodes_append (flats none t n) (flats (some w) (tree_at s 64 e) (n + nodes_of t)))
      (sets_then out to q (concat_map write_node (flats none t n)) (concat_map write_node (flats (some w) (tree_at s 64 e) (n + nodes_of t))) eq)

  -- ---- one link

  module _ (g : Growth) (b : Bounded g) (i : link_end s g.at ≤ length s) where
    left_inside : tree_end s 64 g.at ≤ length s
    unfolding link_end
    left_inside = let u = tree_up s 64 (tree_end s 64 g.at) in omega arith

    left_grows : Grows none (tree_at s 64 g.at) (tree_end s 64 g.at) g (left_walked s g)
    unfolding left_walked
    left_grows = walks s 64 none 65536 g refl b left_inside

    right_inside : tree_end s 64 (left_walked s g).at ≤ length s
    unfolding link_end
    right_inside = rw left_grows.at i

    left_low : (left_walked s g).top < 65536
    unfolding left_walked
    left_low = top_low 64 g 65536

    right_grows : Grows (some (left_walked s g).top) (tree_at s 64 (left_walked s g).at) (tree_end s 64 (left_walked s g).at) (left_walked s g) (link_walked s g)
    unfolding link_walked
    right_grows = walks s 64 (some (left_walked s g).top) (left_walked s g).top (left_walked s g) (refl, left_low) (bounded_on left_grows) right_inside

    pub link_walks : LinkGrows (link_at s g.at) (link_end s g.at) g (link_walked s g)
    unfolding link_at link_end link_taken link_nodes link_size taken
    link_walks =
        let h = left_grows in
        let r = right_grows in
        let a = h.at in
        let w₁ = h.wires in
        let w₂ : (link_walked s g).wires ≡ min 65537 ((left_walked s g).wires + below (tree_at s 64 (tree_end s 64 g.at))) = rw a at r.wires in
        let n₁ = h.nodes in
        let n₂ : (link_walked s g).nodes ≡ min 65537 ((left_walked s g).nodes + nodes_of (tree_at s 64 (tree_end s 64 g.at))) = rw a at r.nodes in
        let o₁ = h.to in
        let o₂ : (link_walked s g).to ≡ min far ((left_walked s g).to + size_of (tree_at s 64 (tree_end s 64 g.at))) = rw a at r.to in
        record { at = r.at ∙ ap (tree_end s 64) a; wires = omega arith; nodes = omega arith; to = omega arith }

    -- ---- where its wires fit

    module _ (f : g.wires + link_taken (link_at s g.at) ≤ 65536) where
      left_fits : g.wires + nodes_of (tree_at s 64 g.at) + below (tree_at s 64 (tree_end s 64 g.at)) ≤ 65536
      unfolding link_taken link_at
      left_fits = omega arith

      left_top_lem : (left_walked s g).top ≡ left_top (link_at s g.at) g.wires
      unfolding left_top link_at taken
      left_top_lem = let l = left_fits in left_grows.top (omega arith)

      left_wires : (left_walked s g).wires ≡ g.wires + nodes_of (tree_at s 64 g.at)
      unfolding taken
      left_wires = let l = left_fits in let w = left_grows.wires in omega arith

      -- the table means the links of the definitions, then as before
      module _ (ws : List ℕ) (k : Links) (m : Means ws k) where
        link_means : Means (link_hung s ws g) (link_hangs (link_at s g.at) g.wires k)
        unfolding link_hung link_hangs link_at
        link_means =
            let a = left_walked s g in
            let p = tree_end s 64 g.at in
            let ea = left_grows.at in
            elim (ℕ_discrete (byte s a.at) 0) [
              | yes z ↦
                  let y : byte s p ≡ 0 = rw ea at z in
                  let e : hung s ws a ≡ Table.link ws a.top (be16 s (p + 1)) = hung_wire s ws a z ∙ ap (λ q. Table.link ws a.top (be16 s (q + 1))) ea in
                  let f : hangs (some (left_top (link_at s g.at) g.wires)) (tree_at s 64 p) k ≡ Links.link k a.top (be16 s (p + 1)) =
                  hangs_wire _ (tree_at s 64 p) (be16 s (p + 1)) k (wire_at s p y 64) ∙ ap (λ u. Links.link k u (be16 s (p + 1))) (sym left_top_lem) in
                  means_as (sym e) (sym f) (means_linked ws k m a.top (be16 s (p + 1)) left_low (two_low (p + 1)))
              | no z ↦
                  let y : byte s p ≡ 0 → ⊥ = λ q. z (ap (byte s) ea ∙ q) in
                  means_as (sym (hung_node s ws a z)) (sym (hangs_node _ (tree_at s 64 p) _ _ k (node_at s p y 63))) m
            ]

      -- its nodes in order
      link_writes : (out : List ℕ) → g.to + link_size (link_at s g.at) ≤ far
          → link_written s g out ≡ sets out g.to (concat_map write_node (link_flats (link_at s g.at) g.wires))
      unfolding link_written link_flats link_at link_size taken left_top
      link_writes out q =
          let a = left_walked s g in
          let t = tree_at s 64 g.at in
          let u = tree_at s 64 (tree_end s 64 g.at) in
          let l = left_fits in
          let o = left_grows.to in
          let w = left_wires in
          let ea = left_grows.at in
          let r₁ : Room s none t g = record { fits = omega arith; said = omega arith } in
          let r₂ : Room s (some a.top) (tree_at s 64 a.at) a = room_right a.top a (tree_end s 64 g.at) ea (omega arith) (omega arith) in
          let x = bytes_of none t g.wires in
          let e₁ : written s 64 g 65536 out ≡ sets out g.to x = writes s 64 none 65536 g out refl b left_inside r₁ in
          let e₂ = writes s 64 (some a.top) a.top a (sets out g.to x) (refl, left_low) (bounded_on left_grows) right_inside r₂ in
          let lx = bytes_size none t g.wires in
          ap (written s 64 a a.top) e₁ ∙ e₂ ∙ two_parts t u (tree_end s 64 g.at) g.to g.wires a.top (left_top (link_at s g.at) g.wires) a.at a.wires a.to out ea left_wires left_top_lem (omega arith) refl

  -- ---- k links

  hangs_as : (k : ℕ) (l : Links) {p e n m : ℕ} → p ≡ e → n ≡ m → links_hangs (table_at (link_at s) (link_end s) p k) n l ≡ links_hangs (table_at (link_at s) (link_end s) e k) m l
  hangs_as k l ep en = rw (ep, en)

  links_parts : (k : ℕ) (l : Tree × Tree) (to n p e m q : ℕ) (out v : List ℕ) → p ≡ e → m ≡ n + link_taken l → q ≡ to + length (concat_map write_node (link_flats l n))
      → v ≡ sets out to (concat_map write_node (link_flats l n))
      → sets v q (links_bytes (table_at (link_at s) (link_end s) p k) m)
      ≡ sets out to (concat_map write_node (link_flats l n ++ links_flats (table_at (link_at s) (link_end s) e k) (n + link_taken l)))
  unfolding links_bytes
  links_parts k l to n p e m q out v ep em eq ev =
      rw (ep, em, ev, nodes_append (link_flats l n) (links_flats (table_at (link_at s) (link_end s) e k) (n + link_taken l)))
      (sets_then out to q (concat_map write_node (link_flats l n)) (concat_map write_node (links_flats (table_at (link_at s) (link_end s) e k) (n + link_taken l))) eq)

  links_step : (l : Tree × Tree) (e k : ℕ) (g x r : Growth) → LinkGrows l e g x → LinksGrow (table_at (link_at s) (link_end s) x.at k) (table_end (link_end s) x.at k) x r
      → LinksGrow (l ∷ table_at (link_at s) (link_end s) e k) (table_end (link_end s) e k) g r
  unfolding links_taken links_nodes links_size
  links_step l e k g x r h a =
      let w₁ = h.wires in
      let w₂ : r.wires ≡ min 65537 (x.wires + links_taken (table_at (link_at s) (link_end s) e k)) = rw h.at at a.wires in
      let n₁ = h.nodes in
      let n₂ : r.nodes ≡ min 65537 (x.nodes + links_nodes (table_at (link_at s) (link_end s) e k)) = rw h.at at a.nodes in
      let o₁ = h.to in
      let o₂ : r.to ≡ min far (x.to + links_size (table_at (link_at s) (link_end s) e k)) = rw h.at at a.to in
      record { at = a.at ∙ ap (λ p. table_end (link_end s) p k) h.at; wires = omega arith; nodes = omega arith; to = omega arith }

  first_inside : (a k : ℕ) → table_end (link_end s) (link_end s a) k ≤ length s → link_end s a ≤ length s
  first_inside a k i = let u = table_up (link_end s) (link_up s) (link_end s a) k in omega arith

  pub links_walk : (k : ℕ) (g : Growth) → Bounded g → table_end (link_end s) g.at k ≤ length s
      → LinksGrow (table_at (link_at s) (link_end s) g.at k) (table_end (link_end s) g.at k) g (links_walked s g k)
  unfolding links_walked table_at table_end links_taken links_nodes links_size
  links_walk zero g b i =
      let w = b.wires in
      let n = b.nodes in
      let o = b.to in
      record { at = refl; wires = omega arith; nodes = omega arith; to = omega arith }
  links_walk (suc k) g b i =
      let h = link_walks g b (first_inside g.at k i) in
      links_step (link_at s g.at) (link_end s g.at) k g (link_walked s g) (links_walked s (link_walked s g) k) h (links_walk k (link_walked s g) (bounded_link h) (rw h.at i))

  -- where their wires fit
  module _ (k : ℕ) (g : Growth) (b : Bounded g) (i : link_end s g.at ≤ length s) (f : g.wires + (link_taken (link_at s g.at) + links_taken (table_at (link_at s) (link_end s) (link_end s g.at) k)) ≤ 65536) where
    first_fits : g.wires + link_taken (link_at s g.at) ≤ 65536
    first_fits = omega arith

    then_wires : (link_walked s g).wires ≡ g.wires + link_taken (link_at s g.at)
    then_wires = let w = (link_walks g b i).wires in omega arith

    then_fit : (link_walked s g).wires + links_taken (table_at (link_at s) (link_end s) (link_walked s g).at k) ≤ 65536
    then_fit = let w = then_wires in rw (link_walks g b i).at (omega arith)

  pub links_mean : (k : ℕ) (g : Growth) → Bounded g → table_end (link_end s) g.at k ≤ length s → g.wires + links_taken (table_at (link_at s) (link_end s) g.at k) ≤ 65536
      → (ws : List ℕ) (l : Links) → Means ws l → Means (links_hung s ws g k) (links_hangs (table_at (link_at s) (link_end s) g.at k) g.wires l)
  unfolding links_hung table_at table_end links_taken links_hangs
  links_mean zero g b i f ws l m = m
  links_mean (suc k) g b i f ws l m =
      let j = first_inside g.at k i in
      let h = link_walks g b j in
      let x = link_walked s g in
      let e : links_hangs (table_at (link_at s) (link_end s) x.at k) x.wires (link_hangs (link_at s g.at) g.wires l)
      ≡ links_hangs (table_at (link_at s) (link_end s) (link_end s g.at) k) (g.wires + link_taken (link_at s g.at)) (link_hangs (link_at s g.at) g.wires l) =
      hangs_as k _ h.at (then_wires k g b j f) in
      means_as refl e (links_mean k x (bounded_link h) (rw h.at i) (then_fit k g b j f) (link_hung s ws g) _ (link_means g b j (first_fits k g b j f) ws l m))

  pub links_write : (k : ℕ) (g : Growth) → Bounded g → table_end (link_end s) g.at k ≤ length s → g.wires + links_taken (table_at (link_at s) (link_end s) g.at k) ≤ 65536
      → g.to + links_size (table_at (link_at s) (link_end s) g.at k) ≤ far → (out : List ℕ)
      → links_written s g k out ≡ sets out g.to (links_bytes (table_at (link_at s) (link_end s) g.at k) g.wires)
  unfolding links_written table_at table_end links_taken links_size links_bytes links_flats
  links_write zero g b i f q out = refl
  links_write (suc k) g b i f q out =
      let j = first_inside g.at k i in
      let h = link_walks g b j in
      let x = link_walked s g in
      let ls = table_at (link_at s) (link_end s) (link_end s g.at) k in
      let l = link_at s g.at in
      let o = h.to in
      let o₂ : x.to ≡ g.to + link_size l = omega arith in
      let q₂ : x.to + links_size (table_at (link_at s) (link_end s) x.at k) ≤ far = rw h.at (omega arith) in
      let y = concat_map write_node (link_flats l g.wires) in
      let e₁ = link_writes g b j (first_fits k g b j f) out (omega arith) in
      let e₂ = links_write k x (bounded_link h) (rw h.at i) (then_fit k g b j f) q₂ (link_written s g out) in
      let ly = link_long l g.wires in
      e₂ ∙ links_parts k l g.to g.wires x.at (link_end s g.at) x.wires x.to out (link_written s g out) h.at (then_wires k g b j f) (omega arith) e₁
