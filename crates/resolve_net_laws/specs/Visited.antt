-- Kept links visited: what is written is what `walkLinks` gives, and None is said where it gives nothing (`links-visit`).
use Prim.Native.Nat.{ℕ, zero, suc, ◌+◌, ◌%◌, ◌<◌, ◌≤◌}
use Rattle.std.specs.Prelude.{◌≡◌, get_or}
use Rattle.std.proofs.Math.Path.{refl, sym, ap}
use Rattle.std.proofs.Common.{◌∙◌}
use Rattle.std.proofs.Math.Option.{Option, none, some}
use mathlib.Core.List.{List, [], ◌∷◌, ◌++◌}
use native.Mathlib.Omega.{arith}
use Rattle.std.proofs.Math.ListN.{length}
use Rattle.net_file.specs.Lists.{concat_map}
use Rattle.net_file.specs.Values.{Tree}
use Rattle.net_file.specs.Write.{write_tree, write_link}
use Rattle.conversions.specs.Resolve.{Hung}
use Rattle.store.specs.Store.{store, store_none}
use Rattle.wire_tables.specs.Tables.{kept_left, kept_right}
use Rattle.resolve_pass.specs.Pass.{next}
use Rattle.std.specs.Prelude.{Some, None}
use Rattle.resolve_walk.specs.Penned.{Stepped, Penned}
use Rattle.resolve_walk.specs.Walk.{on, on_step}
use Rattle.resolve_walk.specs.Walk as code
use Rattle.resolve_net.specs.Renamed.{visit_link, visit_links}
use Rattle.resolve_laws.specs.Walk.{then, walk}
use Rattle.resolve_laws.specs.Links.{walk_link, walk_links}
use Rattle.resolve_walk_laws.specs.Meant.{Frame, frame_none, frame_then, Meant}
use Rattle.resolve_walk_laws.specs.Places.{most, on_most, on_none}
use Rattle.resolve_walk_laws.specs.Trees.{Wrote, wrote_then, Outcome, tree_walks}
use Rattle.resolve_pass_laws.specs.Keeping.{Before, KeptAt, KeptFrom, kept_before}

module _ (s : List ℕ) (n : ℕ) (few : n ≤ 65536) where
  -- kept links stay where words from 131,072 on do
  pub kept_frame : (ws vs : List ℕ) (i : ℕ) (ls : List (Tree × Tree)) → Frame ws vs → KeptFrom s n few ws i ls → KeptFrom s n few vs i ls
  kept_frame ws vs i ls f k =
      kept_before s n few ws vs i (i + length ls) ls (omega arith) (record { long = f.long; same = λ j h. f.same (131072 + j) (omega arith) }) k

  -- ---- one link

  abbrev LinkOut : List ℕ → List ℕ → ℕ → ℕ → Option ((Tree × Tree) × Hung) → Penned Stepped → Type 0
  LinkOut ws out e to none x = x.is ≡ None
  LinkOut ws out e to (some r) x = Wrote s n ws out e to (write_link r.0) r.1 x

  module _ (ws out : List ℕ) (i to : ℕ) where
    abbrev first : Penned Stepped
    first = code.tree s 64 ws out (kept_left ws i) to

    link_deep : first.is ≡ None → (visit_link s ws out i to).is ≡ None
    unfolding visit_link on_step
    link_deep e = rw e

    link_on : (e p : ℕ) → first.is ≡ Some (record { from = e; to = p }) → visit_link s ws out i to ≡ code.tree s 64 first.ws first.out (kept_right ws i) p
    unfolding visit_link on_step
    link_on e p h = rw h

    module _ (l : Tree × Tree) (h : Hung) (k : KeptAt s n few ws i l) (low : to ≤ most) where
      abbrev end : ℕ
      end = kept_right ws i + length (write_tree l.1)

      second_out : (d : ℕ) (r : Tree × Hung) (y : Penned Stepped) → Wrote s n ws out d to (write_tree r.0) r.1 first → (o : Option (Tree × Hung))
          → Outcome s n first.ws first.out end (on to (length (write_tree r.0))) o y
          → LinkOut ws out end to (then {B = (Tree × Tree) × Hung} o (λ b. some ((r.0, b.0), b.1))) y
      unfolding then write_link
      second_out d r y w none g = g
      second_out d r y w (some b) g = wrote_then s n ws out d end to (write_tree r.0) (write_tree b.0) r.1 b.1 first y low w g

      first_out : (o : Option (Tree × Hung)) → Outcome s n ws out (kept_left ws i + length (write_tree l.0)) to o first
          → LinkOut ws out end to (then {B = (Tree × Tree) × Hung} o (λ a. then {B = (Tree × Tree) × Hung} (walk 64 l.1 a.1) (λ b. some ((a.0, b.0), b.1)))) (visit_link s ws out i to)
      unfolding then
      first_out none e = link_deep e
      first_out (some r) w =
          let e = kept_left ws i + length (write_tree l.0) in
          let p = on to (length (write_tree r.0)) in
          let y = code.tree s 64 first.ws first.out (kept_right ws i) p in
          rw (link_on e p w.is)
          (second_out e r y w (walk 64 l.1 r.1)
          (tree_walks s n few 64 l.1 r.1 first.ws first.out (kept_right ws i) p k.right w.meant (on_most to low (length (write_tree r.0)))))

      link_visits : Meant s n ws h → LinkOut ws out end to (walk_link 64 l h) (visit_link s ws out i to)
      unfolding walk_link
      link_visits m = first_out (walk 64 l.0 h) (tree_walks s n few 64 l.0 h ws out (kept_left ws i) to k.left m low)

  -- ---- links

  abbrev pub LinksOut : List ℕ → List ℕ → ℕ → ℕ → Option (List (Tree × Tree) × Hung) → Penned Stepped → Type 0
  LinksOut ws out to c none x = x.is ≡ None
  LinksOut ws out to c (some r) x = Wrote s n ws out 0 to (concat_map write_link r.0) r.1 x × (length r.0 ≡ c)

  module _ (ws out : List ℕ) (i to k : ℕ) where
    links_deep : (visit_link s ws out i to).is ≡ None → (visit_links s (suc k) ws out i to).is ≡ None
    unfolding visit_links on_step
    links_deep e = rw e

    links_on : (e p : ℕ) → i < 65535 → (visit_link s ws out i to).is ≡ Some (record { from = e; to = p })
        → visit_links s (suc k) ws out i to ≡ visit_links s k (visit_link s ws out i to).ws (visit_link s ws out i to).out (suc i) p
    unfolding visit_links on_step next
    links_on e p l h = let j : (i + 1) % 4294967296 ≡ suc i = omega arith in rw (h, j)

  links_end : (ws out : List ℕ) (i to : ℕ) → visit_links s 0 ws out i to ≡ record { is = Some (record { from = 0; to = to }); ws = ws; out = out }
  unfolding visit_links
  links_end ws out i to = refl

  rest_out : (ws out : List ℕ) (d to c : ℕ) (r : (Tree × Tree) × Hung) (x y : Penned Stepped) → to ≤ most → Wrote s n ws out d to (write_link r.0) r.1 x
      → (o : Option (List (Tree × Tree) × Hung)) → LinksOut x.ws x.out (on to (length (write_link r.0))) c o y
      → LinksOut ws out to (suc c) (then {B = List (Tree × Tree) × Hung} o (λ q. some (r.0 ∷ q.0, q.1))) y
  unfolding then
  rest_out ws out d to c r x y low w none g = g
  rest_out ws out d to c r x y low w (some q) g =
      (wrote_then s n ws out d 0 to (write_link r.0) (concat_map write_link q.0) r.1 q.1 x y low w g.0, ap suc g.1)

  abbrev Visit : List (Tree × Tree) → Type 0
  Visit ls = (h : Hung) (ws out : List ℕ) (i to : ℕ) → KeptFrom s n few ws i ls → Meant s n ws h → i + length ls ≤ 65535 → to ≤ most
      → LinksOut ws out to (length ls) (walk_links 64 ls h) (visit_links s (length ls) ws out i to)

  one_out : (l : Tree × Tree) (ls : List (Tree × Tree)) → Visit ls → (ws out : List ℕ) (i to e : ℕ) → KeptFrom s n few ws (suc i) ls → i + suc (length ls) ≤ 65535 → to ≤ most
      → (o : Option ((Tree × Tree) × Hung)) → LinkOut ws out e to o (visit_link s ws out i to)
      → LinksOut ws out to (suc (length ls)) (then {B = List (Tree × Tree) × Hung} o (λ r. then {B = List (Tree × Tree) × Hung} (walk_links 64 ls r.1) (λ q. some (r.0 ∷ q.0, q.1))))
      (visit_links s (suc (length ls)) ws out i to)
  unfolding then
  one_out l ls ih ws out i to e k few' low none g = links_deep ws out i to (length ls) g
  one_out l ls ih ws out i to e k few' low (some r) w =
      let x = visit_link s ws out i to in
      let p = on to (length (write_link r.0)) in
      rw (links_on ws out i to (length ls) e p (omega arith) w.is)
      (rest_out ws out e to (length ls) r x (visit_links s (length ls) x.ws x.out (suc i) p) low w (walk_links 64 ls r.1)
      (ih r.1 x.ws x.out (suc i) p (kept_frame ws x.ws (suc i) ls w.frame k) w.meant (omega arith) (on_most to low (length (write_link r.0)))))

  pub links_visit : (ls : List (Tree × Tree)) → Visit ls
  unfolding KeptFrom walk_links
  links_visit [] h ws out i to k m l low = rw (links_end ws out i to) (
    record {
      is = λ j. Some (record { from = 0; to = sym (on_none to low) j });
      meant = m;
      frame = frame_none ws;
      stored = λ room small. store_none to out;
    },
    refl,
  )
  links_visit (p ∷ ls) h ws out i to k m l low =
      one_out p ls (links_visit ls) ws out i to (kept_right ws i + length (write_tree p.1)) k.1 l low (walk_link 64 p h) (link_visits ws out i to p h k.0 low m)
