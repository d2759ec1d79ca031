-- A tree net that fits and is spelt at a place lies there: `spelt-net`. Last: it is written as `resolveTree` of it says (`net-is`).
use Rattle.std.specs.Prelude.{ℕ, zero, suc, ◌+◌, ◌-◌, ◌<◌, ◌≤◌, ◌≡◌, refl, Bool, true, false, take, drop}
use Rattle.std.proofs.Math.Path.{sym, ap}
use Rattle.std.proofs.Common.{subst, ◌∙◌}
use mathlib.Core.List.{List, [], ◌∷◌, ◌++◌, append_assoc}
use native.Mathlib.Omega.{arith}
use Rattle.std.proofs.Math.ListN.{length, length-append}
use Rattle.std.proofs.Math.Seq.{take-append_seam}
use Rattle.net_file.specs.Lists.{bit, concat_map}
use Rattle.net_file.specs.Values.{Tree, wire, node, Trees, more, listed, trees, TreeNet}
use Rattle.net_file.specs.Values
use Rattle.net_file.specs.Write.{be, counted, write_head, write_tree, write_trees, write_link, write_tree_net}
use Rattle.net_file_laws.specs.Bytes.{Bytes, length_be}
use Rattle.wire_tables_laws.specs.Table.{Empty}
use Rattle.net_file_laws.specs.Exact.{Each, exact_number}
use Rattle.net_file_laws.specs.Trees.{listed_trees, trees_written, TreeFits, LinkFits, TreeNetFits}
use Rattle.net_file_laws.specs.Depth.{depth, deepest, InRange, InRanges, fits_depth}
use Rattle.conversions.specs.Resolve.{deeper, deeper_any, resolve_tree}
use Rattle.fields.specs.Fields.{byte, be16, be32}
use Rattle.stored.specs.Laws.{stands_1, stands_2, stands_4}
use Rattle.ends.specs.Ends.{within}
use Rattle.scan_tree.specs.Count.{links_at}
use Rattle.scan_tree_laws.specs.Scanned.{scanned_end}
use Rattle.store.specs.Store.{store}
use Rattle.resolve_net.specs.Net.{wires_at, net}
use Rattle.resolve_laws.specs.Resolve.{Shallow, Links, Frees, passed, walked}
use Rattle.resolve_laws.proofs.Resolve.{resolve_is}
use Rattle.spelt_trees.specs.Spelt.{Spelt, spelt_room, spelt_next, spelt_is}
use Rattle.spelt_trees.specs.Lies.{Lies, LieAll, spelt_lies, spelt_lie_all}
use Rattle.spelt_trees.specs.Scanned.{all_scanned}
use Rattle.resolve_walk_laws.specs.Places.{most}
use Rattle.resolve_pass_laws.specs.Room.{LinksLie}
use Rattle.resolve_net_laws.specs.Copied.{Holds}
use Rattle.resolve_pass_laws.specs.Linking.{links_long}
use Rattle.resolve_net_laws.specs.Lies.{front, upto, NetLies}
use Rattle.resolve_net_laws.specs.Net.{end, NetOut, left_nodes}

pub spelt_holds : (s : List ℕ) (at : ℕ) (bs r : List ℕ) → Spelt s at bs r → Holds s at bs
spelt_holds s at bs r h = rw h.bytes (take-append_seam bs r)

-- the same bytes, parted otherwise
pub spelt_as : (s : List ℕ) (at : ℕ) (xs r ys q : List ℕ) → Spelt s at xs r → xs ++ r ≡ ys ++ q → Spelt s at ys q
spelt_as s at xs r ys q h e = record { inside = h.inside; bytes = h.bytes ∙ e }

module _ (s : List ℕ) (paths names : ℕ) (hp : paths ≤ 65536) (hn : names ≤ 65536) (m : TreeNet) (fits : TreeNetFits paths names m) (at : ℕ) (r : List ℕ)
    (spelt : Spelt s at (write_tree_net m) r) where
  abbrev pub n : ℕ
  n = m.wires

  abbrev pub head : List ℕ
  head = write_head m.name m.included n

  abbrev pub one : List ℕ
  one = be 1 (length m.free)

  abbrev pub fs : List ℕ
  fs = concat_map write_tree m.free

  abbrev pub two : List ℕ
  two = be 2 (length m.links)

  abbrev pub lks : List ℕ
  lks = concat_map write_link m.links

  pub head_long : length head ≡ 7
  unfolding write_head
  head_long =
      let a = length-append (be 2 m.name ++ be 1 (bit m.included)) (be 4 n) in
      let b = length-append (be 2 m.name) (be 1 (bit m.included)) in
      omega (arith, length_be 2 m.name, length_be 1 (bit m.included), length_be 4 n)

  pub front_long : length (front m) ≡ 8
  front_long = omega (arith, length-append head one, head_long, length_be 1 (length m.free))

  -- the place of the link count
  abbrev pub at_links : ℕ
  at_links = at + length (upto m)

  pub upto_long : length (upto m) ≡ 8 + length fs
  upto_long = omega (arith, length-append (front m) fs, front_long)

  pub whole : write_tree_net m ++ r ≡ head ++ (one ++ (fs ++ (two ++ (lks ++ r))))
  unfolding write_tree_net counted
  whole =
      append_assoc (head ++ (one ++ fs)) (two ++ lks) r ∙ append_assoc head (one ++ fs) ((two ++ lks) ++ r)
      ∙ ap (λ zs. head ++ zs) (append_assoc one fs ((two ++ lks) ++ r) ∙ ap (λ zs. one ++ (fs ++ zs)) (append_assoc two lks r))

  pub in_head : Spelt s at head (one ++ (fs ++ (two ++ (lks ++ r))))
  in_head = spelt_as s at (write_tree_net m) r head (one ++ (fs ++ (two ++ (lks ++ r)))) spelt whole

  pub in_count : Spelt s (at + 7) one (fs ++ (two ++ (lks ++ r)))
  in_count = rw head_long at (spelt_next s at head one (fs ++ (two ++ (lks ++ r))) in_head)

  pub in_free : Spelt s (at + 8) fs (two ++ (lks ++ r))
  in_free =
      let e : at + 7 + length one ≡ at + 8 = omega (arith, length_be 1 (length m.free)) in
      rw e at (spelt_next s (at + 7) one fs (two ++ (lks ++ r)) in_count)

  pub in_two : Spelt s at_links two (lks ++ r)
  in_two =
      let e : at + 8 + length fs ≡ at_links = omega (arith, upto_long) in
      rw e at (spelt_next s (at + 8) fs two (lks ++ r) in_free)

  pub in_links : Spelt s (at_links + 2) lks r
  in_links =
      let e : at_links + length two ≡ at_links + 2 = omega (arith, length_be 2 (length m.links)) in
      rw e at (spelt_next s at_links two lks r in_two)

  pub in_upto : Spelt s at (upto m) (two ++ (lks ++ r))
  in_upto = spelt_as s at head (one ++ (fs ++ (two ++ (lks ++ r)))) (upto m) (two ++ (lks ++ r)) in_head
      (sym (append_assoc (head ++ one) fs (two ++ (lks ++ r)) ∙ append_assoc head one (fs ++ (two ++ (lks ++ r)))))

  pub in_front : Spelt s at (front m) (fs ++ (two ++ (lks ++ r)))
  in_front = spelt_as s at head (one ++ (fs ++ (two ++ (lks ++ r)))) (front m) (fs ++ (two ++ (lks ++ r))) in_head (sym (append_assoc head one (fs ++ (two ++ (lks ++ r)))))

  -- ---- the trees

  pub in_range : (ts : List Tree) → Each (TreeFits paths names n 64) ts → InRanges paths names n (trees ts)
  unfolding InRange
  in_range [] f = tt
  in_range (t ∷ ts) f = (((fits_depth paths names n 64 t).0 f.0).1, in_range ts f.1)

  pub frees_lie : LieAll s n (trees m.free) (at + 8)
  frees_lie =
      let e : fs ≡ write_trees (trees m.free) = sym (trees_written (trees m.free) ∙ ap (concat_map write_tree) (listed_trees m.free)) in
      spelt_lie_all s paths names n hp hn fits.wires (trees m.free) (at + 8) (two ++ (lks ++ r)) (in_range m.free fits.free) (rw e at in_free)

  pub links_lie : (ls : List (Tree × Tree)) (a : ℕ) → Each (LinkFits paths names n) ls → Spelt s a (concat_map write_link ls) r → LinksLie s n ls a
  unfolding LinksLie write_link
  links_lie [] a f h = tt
  links_lie (l ∷ ls) a f h =
      let x = write_tree l.0 in
      let y = write_tree l.1 in
      let z = concat_map write_link ls in
      let h₁ = spelt_as s a ((x ++ y) ++ z) r x (y ++ (z ++ r)) h (append_assoc (x ++ y) z r ∙ append_assoc x y (z ++ r)) in
      let h₂ = spelt_next s a x y (z ++ r) h₁ in
      let h₃ = spelt_next s (a + length x) y z r h₂ in (
        spelt_lies s paths names n hp hn fits.wires l.0 a (y ++ (z ++ r)) ((fits_depth paths names n 64 l.0).0 f.0.0).1 h₁,
        spelt_lies s paths names n hp hn fits.wires l.1 (a + length x) (z ++ r) ((fits_depth paths names n 64 l.1).0 f.0.1).1 h₂,
        links_lie ls (a + length x + length y) f.1 h₃,
      )

  pub links_at_lem : links_at s at ≡ at_links
  unfolding links_at
  links_at_lem =
      let few = fits.few_free in
      let c = spelt_is (exact_number 1) (stands_1 s (at + 7)) (length m.free) (fs ++ (two ++ (lks ++ r))) (omega arith) in_count in
      let e : fs ≡ write_trees (trees m.free) = sym (trees_written (trees m.free) ∙ ap (concat_map write_tree) (listed_trees m.free)) in
      let l : length (listed (trees m.free)) ≡ length m.free = ap length (listed_trees m.free) in
      let q = spelt_room s at_links two (lks ++ r) in_two in
      let le = ap length e in
      let g = scanned_end s (at + 8) (at + 8 + length (write_trees (trees m.free))) (listed (trees m.free)) (all_scanned s n (trees m.free) (at + 8) frees_lie) (omega (arith, upto_long)) in
      let b : byte s (at + 7) ≡ length (listed (trees m.free)) = sym c ∙ sym l in
      rw b (g ∙ omega (arith, upto_long))

  pub wires_are : wires_at s at ≡ n
  unfolding wires_at write_head
  wires_are =
      let hd = be 2 m.name ++ be 1 (bit m.included) in
      let rest = one ++ (fs ++ (two ++ (lks ++ r))) in
      let h₁ = spelt_as s at head rest hd (be 4 n ++ rest) in_head (append_assoc hd (be 4 n) rest) in
      let l : length hd ≡ 3 = omega (arith, length-append (be 2 m.name) (be 1 (bit m.included)), length_be 2 m.name, length_be 1 (bit m.included)) in
      let h₂ : Spelt s (at + 3) (be 4 n) rest = rw l at (spelt_next s at hd (be 4 n) rest h₁) in
      let few = fits.wires in
      let q = spelt_room s (at + 3) (be 4 n) rest h₂ in
      let i : within s (at + 3) ≡ at + 3 = omega (arith, length_be 4 n) in
      ap (be32 s) i ∙ sym (spelt_is (exact_number 4) (stands_4 s (at + 3)) n rest (omega arith) h₂)

  pub spelt_net : NetLies s m at at_links
  spelt_net =
      let few = fits.few_free in
      let many = fits.few_links in
      let q = spelt_room s (at + 7) one (fs ++ (two ++ (lks ++ r))) in_count in
      let i : within s (at + 7) ≡ at + 7 = omega (arith, length_be 1 (length m.free)) in
      record {
        wires = wires_are;
        few = fits.wires;
        count = ap (byte s) i ∙ sym (spelt_is (exact_number 1) (stands_1 s (at + 7)) (length m.free) (fs ++ (two ++ (lks ++ r))) (omega arith) in_count);
        begins = spelt_holds s at (front m) (fs ++ (two ++ (lks ++ r))) in_front;
        eight = front_long;
        frees = frees_lie;
        holds = spelt_holds s at (upto m) (two ++ (lks ++ r)) in_upto;
        place = links_at_lem;
        long = refl;
        links = sym (spelt_is (exact_number 2) (stands_2 s at_links) (length m.links) (lks ++ r) (omega arith) in_two);
        few_links = many;
        lies = links_lie m.links (at_links + 2) fits.links in_links;
        room = omega (arith, spelt_room s at_links two (lks ++ r) in_two, length_be 2 (length m.links));
      }

-- ---- a tree that fits is not too deep

mutual
  unfolding depth deeper

  not_deep : (t : Tree) (d : ℕ) → depth t ≤ d → deeper d t ≡ false
  not_deep (wire w) d l = refl
  not_deep (node m ts) zero l = absurd (omega arith)
  not_deep (node m ts) (suc d) l = none_deep ts d (omega arith)

  none_deep : (ts : Trees) (d : ℕ) → deepest ts ≤ d → deeper_any d ts ≡ false
  none_deep Values.none d l = refl
  none_deep (more t ts) d l = ap {B = Bool} (λ (b : Bool). elim b [ true ↦ true | false ↦ deeper_any d ts ]) (not_deep t d (omega arith)) ∙ none_deep ts d (omega arith)

module _ (paths names wires : ℕ) where
  pub fit_shallow : (t : Tree) → TreeFits paths names wires 64 t → Shallow t
  fit_shallow t f = not_deep t 64 ((fits_depth paths names wires 64 t).0 f).0

  pub frees_shallow : (ts : List Tree) → Each (TreeFits paths names wires 64) ts → Frees ts
  unfolding Frees
  frees_shallow [] f = tt
  frees_shallow (t ∷ ts) f = (fit_shallow t f.0, frees_shallow ts f.1)

  pub links_fit : (ls : List (Tree × Tree)) → Each (LinkFits paths names wires) ls → Links Shallow ls
  unfolding Links
  links_fit [] f = tt
  links_fit (l ∷ ls) f = (fit_shallow l.0 f.0.0, fit_shallow l.1 f.0.1, links_fit ls f.1)

-- ---- the net, as the definition resolves it

pub links_long_lem : (s : List ℕ) (n : ℕ) (few : n ≤ 65536) (ls : List (Tree × Tree)) → links_long s n few ls ≡ length (concat_map write_link ls)
unfolding write_link
links_long_lem s n few [] = refl
links_long_lem s n few (l ∷ ls) =
    let x = write_tree l.0 in
    let y = write_tree l.1 in
    omega (arith, length-append (x ++ y) (concat_map write_link ls), length-append x y, links_long_lem s n few ls)

module _ (s : List ℕ) (paths names : ℕ) (hp : paths ≤ 65536) (hn : names ≤ 65536) (m : TreeNet) (fits : TreeNetFits paths names m) (at : ℕ) (r : List ℕ)
    (spelt : Spelt s at (write_tree_net m) r) (small : length s ≤ 4294967299) (ws : List ℕ) (room : 262144 ≤ length ws) (b : Bytes s) (empty : Empty ws) where
  abbrev pub lies : NetLies s m at (at + length (upto m))
  lies = spelt_net s paths names hp hn m fits at r spelt

  -- it ends where its bytes do
  pub net_end_lem : end s m at (at + length (upto m)) lies small ws room b empty ≡ at + length (write_tree_net m)
  unfolding write_tree_net counted
  net_end_lem =
      let hd = write_head m.name m.included m.wires in
      let one = be 1 (length m.free) in
      let fs = concat_map write_tree m.free in
      let two = be 2 (length m.links) in
      let lks = concat_map write_link m.links in
      omega (
        arith,
        links_long_lem s m.wires lies.few m.links,
        length-append (hd ++ (one ++ fs)) (two ++ lks),
        length-append hd (one ++ fs),
        length-append one fs,
        length-append two lks,
        length-append (hd ++ one) fs,
        length-append hd one,
        length_be 2 (length m.links),
      )
