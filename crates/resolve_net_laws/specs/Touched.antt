-- Which wires the tables speak of while a net is resolved: those of its links, and no others. So nothing is left in them once these
-- are freed (`net-frees`), and a tree that is left hangs on one that is looked at (`none-unseen`).
use Prim.Native.Nat.{ℕ, zero, suc, ◌+◌, ◌-◌, ◌<◌, ◌≤◌}
use Rattle.std.specs.Prelude.{◌≡◌, set, replicate}
use Rattle.std.proofs.Math.Path.{refl}
use Rattle.std.proofs.Common.{◌∙◌}
use mathlib.Core.List.{List}
use native.Mathlib.Omega.{arith}
use Rattle.std.proofs.Math.Decide.{ℕ_discrete, dec_lt}
use Rattle.std.proofs.Math.ListN.{length, get_or, length-replicate}
use Rattle.words.specs.Choose.{eq_yes, eq_split, lt_split}
use Rattle.net_file_laws.specs.Bytes.{Bytes}
use Rattle.fields.specs.Fields.{byte, be16}
use Rattle.ends.specs.Ends.{within}
use Rattle.scan_tree.specs.Count.{links_at}
use Rattle.wire_tables.specs.Tables.{hung, freed}
use Rattle.wire_tables_laws.specs.Table.{length_freed, zero_there, zero_stays, Empty}
use Rattle.wire_blocks.specs.Blocks.{row_mark, block_mark, marked}
use Rattle.wire_blocks.specs.Laws.{length_marked, row_set, block_set}
use Rattle.wire_blocks.specs.Laws
use Rattle.resolve_pass.specs.Pass.{wire_at, tree_end, over, hung_tree, hung_links, mark_wire, mark_tree, marked_links, free_tree, free_links}
use Rattle.resolve_walk.specs.Penned.{Stepped, Penned}
use Rattle.resolve_net.specs.Renamed.{marks_of, left_below}
use Rattle.resolve_net.specs.Net.{pass_links, prepare, resolved, net}
use Rattle.resolve_net.specs.Net
use Rattle.resolve_net_laws.specs.Only.{Only, Covers, only_empty, links_only, passed_only, renamed_only}

-- ---- marks

-- the row and the block of w have a mark
abbrev pub Marked : List ℕ → ℕ → Type 0
Marked bs w = (row_mark 0 bs w ≡ 0 → ⊥) × (block_mark 0 bs w ≡ 0 → ⊥)

-- on wire w hangs a tree, and there is room for its marks
abbrev pub Hangs : List ℕ → List ℕ → ℕ → Type 0
Hangs ws bs w = (w < 65536) × (2112 ≤ length bs) × (hung ws w ≡ 0 → ⊥)

pub marked_stays : (bs : List ℕ) (v w : ℕ) → Marked bs w → Marked (marked 0 bs v) w
unfolding row_mark block_mark
marked_stays bs v w m = (λ z. m.0 (Laws.marks_stay 0 bs v _ z), λ z. m.1 (Laws.marks_stay 0 bs v _ z))

pub marked_there : (bs : List ℕ) (w : ℕ) → w < 65536 → 2112 ≤ length bs → Marked (marked 0 bs w) w
marked_there bs w low room =
    let a = row_set 0 bs w low room in
    let b = block_set 0 bs w low room in
    (λ z. absurd (omega arith), λ z. absurd (omega arith))

-- wire v is below the bound of the links whose count stands at a place, and marked with them
abbrev pub Seen : List ℕ → List ℕ → ℕ → ℕ → ℕ → Type 0
Seen s ws links n v = (v < left_below s ws links n) × Marked (marks_of s ws links) v

-- ---- the wires of links

module _ (s : List ℕ) where
  pub free_zero : (ws : List ℕ) (at i : ℕ) → get_or ws i 0 ≡ 0 → get_or (free_tree ws s at) i 0 ≡ 0
  unfolding free_tree freed
  free_zero ws at i z = eq_split _ _ _ _ (λ (x : List ℕ). get_or x i 0 ≡ 0) (λ e. zero_stays (set ws _ 0) i _ (zero_stays ws i _ z)) (λ e. z)

  pub frees_zero : (k : ℕ) (ws : List ℕ) (at i : ℕ) → get_or ws i 0 ≡ 0 → get_or (free_links ws s at k) i 0 ≡ 0
  unfolding free_links
  frees_zero zero ws at i z = z
  frees_zero (suc k) ws at i z = frees_zero k _ _ i (free_zero (free_tree ws s at) (tree_end s at) i (free_zero ws at i z))

  pub free_long : (ws : List ℕ) (at : ℕ) → length (free_tree ws s at) ≡ length ws
  unfolding free_tree
  free_long ws at = eq_split _ _ _ _ (λ (x : List ℕ). length x ≡ length ws) (λ e. length_freed ws _) (λ e. refl)

  pub frees_long : (k : ℕ) (ws : List ℕ) (at : ℕ) → length (free_links ws s at k) ≡ length ws
  unfolding free_links
  frees_long zero ws at = refl
  frees_long (suc k) ws at = frees_long k _ _ ∙ free_long (free_tree ws s at) (tree_end s at) ∙ free_long ws at

  pub free_there : (ws : List ℕ) (at : ℕ) → byte s at ≡ 0 → (get_or (free_tree ws s at) (wire_at s at) 0 ≡ 0) × (hung (free_tree ws s at) (wire_at s at) ≡ 0)
  unfolding free_tree freed
  free_there ws at e =
      let w = wire_at s at in
      rw (← eq_yes _ _ (freed ws w) ws e refl) (zero_stays (set ws w 0) w (65536 + w) (zero_there ws w), zero_there (set ws w 0) (65536 + w))

  pub over_up : (ws : List ℕ) (w t : ℕ) → t ≤ over ws w t
  unfolding over
  over_up ws w t = eq_split _ _ _ _ (λ (x : ℕ). t ≤ x) (λ z. omega arith) (λ n. lt_split _ _ _ _ (λ (x : ℕ). t ≤ x) (λ h. omega arith) (λ h. omega arith))

  pub over_there : (ws : List ℕ) (w t : ℕ) → (hung ws w ≡ 0 → ⊥) → w < over ws w t
  unfolding over
  over_there ws w t n = eq_split _ _ _ _ (λ (x : ℕ). w < x) (λ z. absurd (n z)) (λ m. lt_split _ _ _ _ (λ (x : ℕ). w < x) (λ h. h) (λ h. omega arith))

  pub hung_up : (ws : List ℕ) (at t : ℕ) → t ≤ hung_tree ws s at t
  unfolding hung_tree
  hung_up ws at t = eq_split _ _ _ _ (λ (x : ℕ). t ≤ x) (λ z. over_up ws _ t) (λ n. omega arith)

  pub hung_all_up : (k : ℕ) (ws : List ℕ) (at t : ℕ) → t ≤ hung_links ws s at k t
  unfolding hung_links
  hung_all_up zero ws at t = omega arith
  hung_all_up (suc k) ws at t =
      let b = tree_end s at in
      omega (arith, hung_up ws at t, hung_up ws b (hung_tree ws s at t), hung_all_up k ws (tree_end s b) (hung_tree ws s b (hung_tree ws s at t)))

  pub hung_there : (ws : List ℕ) (at t : ℕ) → byte s at ≡ 0 → (hung ws (wire_at s at) ≡ 0 → ⊥) → wire_at s at < hung_tree ws s at t
  unfolding hung_tree
  hung_there ws at t e n = eq_split _ _ _ _ (λ (x : ℕ). wire_at s at < x) (λ z. over_there ws (wire_at s at) t n) (λ d. absurd (d e))

  pub mark_stays : (ws bs : List ℕ) (at w : ℕ) → Marked bs w → Marked (mark_tree ws s at bs) w
  unfolding mark_tree mark_wire
  mark_stays ws bs at w m =
      eq_split _ _ _ _ (λ (x : List ℕ). Marked x w) (λ e. eq_split _ _ _ _ (λ (x : List ℕ). Marked x w) (λ z. m) (λ z. marked_stays bs _ w m)) (λ e. m)

  pub marks_stay : (k : ℕ) (ws bs : List ℕ) (at w : ℕ) → Marked bs w → Marked (marked_links ws s at k bs) w
  unfolding marked_links
  marks_stay zero ws bs at w m = m
  marks_stay (suc k) ws bs at w m = marks_stay k ws _ _ w (mark_stays ws (mark_tree ws s at bs) (tree_end s at) w (mark_stays ws bs at w m))

  pub mark_long : (ws bs : List ℕ) (at : ℕ) → length (mark_tree ws s at bs) ≡ length bs
  unfolding mark_tree mark_wire
  mark_long ws bs at =
      eq_split _ _ _ _ (λ (x : List ℕ). length x ≡ length bs) (λ e. eq_split _ _ _ _ (λ (x : List ℕ). length x ≡ length bs) (λ z. refl) (λ z. length_marked 0 bs _)) (λ e. refl)

  pub mark_there : (ws bs : List ℕ) (at : ℕ) → byte s at ≡ 0 → Hangs ws bs (wire_at s at) → Marked (mark_tree ws s at bs) (wire_at s at)
  unfolding mark_tree mark_wire
  mark_there ws bs at e h =
      let w = wire_at s at in
      eq_split _ _ _ _ (λ (x : List ℕ). Marked x w) (λ z. eq_split _ _ _ _ (λ (x : List ℕ). Marked x w) (λ y. absurd (h.2 y)) (λ y. marked_there bs w h.0 h.1)) (λ d. absurd (d e))

  -- w is freed with these links; where a tree hangs on it, it is below their bound, and marked with them
  pub record OfLinks (at k w : ℕ) : Type 0 where
    pub gone : (ws : List ℕ) → (get_or (free_links ws s at k) w 0 ≡ 0) × (hung (free_links ws s at k) w ≡ 0)
    pub under : (ws : List ℕ) (t : ℕ) → (hung ws w ≡ 0 → ⊥) → w < hung_links ws s at k t
    pub found : (ws bs : List ℕ) → Hangs ws bs w → Marked (marked_links ws s at k bs) w

  pub of_left : (at k : ℕ) → byte s at ≡ 0 → OfLinks at (suc k) (wire_at s at)
  unfolding free_links hung_links marked_links
  of_left at k e =
      let w = wire_at s at in
      let b = tree_end s at in
      record {
        gone = λ ws.
            let g = free_there ws at e in
            (frees_zero k _ _ w (free_zero (free_tree ws s at) b w g.0), frees_zero k _ _ (65536 + w) (free_zero (free_tree ws s at) b (65536 + w) g.1));
        under = λ ws t n. omega (arith, hung_there ws at t e n, hung_up ws b (hung_tree ws s at t), hung_all_up k ws (tree_end s b) (hung_tree ws s b (hung_tree ws s at t)));
        found = λ ws bs h. marks_stay k ws _ _ w (mark_stays ws (mark_tree ws s at bs) b w (mark_there ws bs at e h));
      }

  pub of_right : (at k : ℕ) → byte s (tree_end s at) ≡ 0 → OfLinks at (suc k) (wire_at s (tree_end s at))
  unfolding free_links hung_links marked_links
  of_right at k e =
      let b = tree_end s at in
      let w = wire_at s b in
      record {
        gone = λ ws. let g = free_there (free_tree ws s at) b e in (frees_zero k _ _ w g.0, frees_zero k _ _ (65536 + w) g.1);
        under = λ ws t n. omega (arith, hung_there ws b (hung_tree ws s at t) e n, hung_all_up k ws (tree_end s b) (hung_tree ws s b (hung_tree ws s at t)));
        found = λ ws bs h. marks_stay k ws _ _ w (mark_there ws (mark_tree ws s at bs) b e (h.0, rw (mark_long ws bs at) h.1, h.2));
      }

  pub of_later : (at k w : ℕ) → OfLinks (tree_end s (tree_end s at)) k w → OfLinks at (suc k) w
  unfolding free_links hung_links marked_links
  of_later at k w h = record {
    gone = λ ws. h.gone _;
    under = λ ws t n. h.under ws _ n;
    found = λ ws bs g. h.found ws _ (g.0, rw (mark_long ws (mark_tree ws s at bs) (tree_end s at), mark_long ws bs at) g.1, g.2);
  }

  module _ (bytes : Bytes s) where
    pub covers_more : (P Q : ℕ → Type 0) → ((w : ℕ) → P w → Q w) → (k at : ℕ) → Covers P s bytes at k → Covers Q s bytes at k
    unfolding Covers
    covers_more P Q f zero at c = tt
    covers_more P Q f (suc k) at c = (λ e. f _ (c.0 e), λ e. f _ (c.1 e), covers_more P Q f k _ c.2)

  pub links_freed : (k at : ℕ) (ws : List ℕ) → Only (OfLinks at k) ws → Empty (free_links ws s at k)
  links_freed k at ws o = record {
    room = rw (frees_long k ws at) o.room;
    zeros = λ i h. elim (dec_lt i 65536) [
      | yes l ↦ elim (ℕ_discrete (get_or ws i 0) 0) [ yes z ↦ frees_zero k ws at i z | no n ↦ ((o.links i l n).0.gone ws).0 ]
      | no l ↦
          let w = i - 65536 in
          let e : i ≡ 65536 + w = omega arith in
          rw e (elim (ℕ_discrete (hung ws w) 0) [ yes z ↦ frees_zero k ws at (65536 + w) z | no n ↦ ((o.trees w (omega arith) n).gone ws).1 ])
    ];
  }

pub freed_long : (s ws : List ℕ) (links : ℕ) → length (Net.freed s ws links) ≡ length ws
unfolding Net.freed
freed_long s ws links = frees_long s (be16 s links) ws (within s (links + 2))

-- ---- a net

module _ (s : List ℕ) (bytes : Bytes s) (at : ℕ) where
  -- the wires of its links
  abbrev pub Mine : ℕ → Type 0
  Mine w = OfLinks s (within s (links_at s at + 2)) (be16 s (links_at s at)) w

  -- a wire on which a tree hangs is looked at
  pub seen : (ws : List ℕ) (n v : ℕ) → n ≤ 65536 → Only Mine ws → v < n → (hung ws v ≡ 0 → ⊥) → Seen s ws (links_at s at) n v
  unfolding left_below marks_of
  seen ws n v few o h d =
      let m = o.trees v (omega arith) d in
      let f = m.under ws 0 d in
      let r = length-replicate {A = ℕ} 2112 0 in
      (lt_split _ _ _ _ (λ (x : ℕ). v < x) (λ i. h) (λ i. lt_split _ _ _ _ (λ (x : ℕ). v < x) (λ j. f) (λ j. h)), m.found ws (replicate 2112 0) (omega arith, omega arith, d))
