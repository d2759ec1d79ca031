-- What a function of the crate leaves on each way out, and one turn of each loop, in the words of its tests and calls.
use Rattle.std.specs.Prelude.{◌≡◌, ℕ, zero, suc, ◌+◌, ◌-◌, ◌<◌, ◌≤◌, List, length, ◌≢◌, refl}
use Rattle.std.proofs.Common.{◌∙◌, not-suc-le-zero, sub-one}
use native.Mathlib.Omega.{arith}
use Rattle.std.proofs.Math.Decide.{dec_lt}
use Rattle.words.specs.Choose.{eq_yes, eq_no, lt_yes, lt_no}
use Rattle.words.specs.Left.{Left, whole}
use Rattle.fields.specs.Fields.{byte}
use Rattle.ends.specs.Ends.{on}
use Rattle.scan_tree.specs.declared.Scan.{Scan}
use Rattle.scan_tree.specs.Scan.{fit, begin, begin_room, fit_most, step_wire}
use Rattle.scan_tree.specs.Count.{Runs, runs_begin, runs_more, runs_past, runs_end}
use Rattle.wire_tables.specs.Tables.{link, unlink, smaller, hung, hang, freed}
use Rattle.wire_blocks.specs.Blocks.{marked}
use Rattle.resolve_pass.specs.declared.Passed.{Passed}
use Rattle.resolve_pass.specs.Pass.{wire_at, tree_end, place, link_wires, wire_links, over, hung_tree, hung_links, mark_wire, mark_tree, marked_links, free_tree, free_links, next, less, add_kept, meet, pass_link, pass}

-- a wire ends three bytes on
module _ (s : List ℕ) (at x : ℕ) (h : at < length s) (ex : x ≡ byte s at) (z : x ≡ 0) where
  abbrev here : Scan
  here = record { at = at; left = 1 }

  abbrev past : Scan
  past = record { at = at + 3; left = 0 }

  none_left : past ≡ begin s (at + 3) (1 - 1)
  unfolding begin
  none_left = let m = fit_most s (at + 3) (1 - 1) in let e : 0 ≡ fit s (at + 3) (1 - 1) = omega arith in λ i. record { at = at + 3; left = e i }

  runs : Runs s at 1 past
  runs =
      runs_more s at 1 here past (runs_begin s at 1 here (begin_room s at 1 (omega arith) (omega arith))) (omega arith)
      (step_wire s at 1 x past (λ e. omega arith) h (omega arith) ex z none_left)

  pub wire_end : (e : ℕ) → e ≡ on s at 3 → e ≡ tree_end s at
  unfolding tree_end
  wire_end e i = elim (dec_lt (length s) (at + 3)) [
    | yes l ↦ let f = runs_past s at 1 past runs (omega arith) l in i ∙ omega arith
    | no l ↦ let f = runs_end s at 1 past runs (omega arith) (omega arith) in i ∙ omega arith
  ]

module _ (ws s : List ℕ) (a b x y : ℕ) (ex : x ≡ byte s a) where
  pub link_node : (x ≢ 0) → ws ≡ link_wires ws s a b
  unfolding link_wires
  link_node n = rw (← ex) (eq_no _ _ _ _ n refl)

  module _ (z : x ≡ 0) (ey : y ≡ byte s b) where
    pub link_other : (y ≢ 0) → ws ≡ link_wires ws s a b
    unfolding link_wires
    link_other n = rw (← ex, ← ey) (eq_yes _ _ _ _ z (eq_no _ _ _ _ n refl))

    pub link_both : (u v : ℕ) (w : List ℕ) → y ≡ 0 → u ≡ wire_at s a → v ≡ wire_at s b → w ≡ link ws u v → w ≡ link_wires ws s a b
    unfolding link_wires
    link_both u v w z' eu ev ew = rw (← ex, ← ey) (eq_yes _ _ _ _ z (eq_yes _ _ _ _ z' (rw (ew, eu, ev))))

pub wire_links_more : (ws w s : List ℕ) (at b e k : ℕ) (x : Left ℕ) → wire_links ws s at k ≡ x → 0 < k → b ≡ tree_end s at → w ≡ link_wires ws s at b
    → e ≡ tree_end s b → wire_links w s e (k - 1) ≡ x
unfolding wire_links
wire_links_more ws w s at b e zero x g h eb ew ee = absurd (not-suc-le-zero h)
wire_links_more ws w s at b e (suc k) x g h eb ew ee = rw (sub-one, ee, ew, eb) g

pub wire_links_done : (ws s : List ℕ) (at k : ℕ) (x : Left ℕ) → wire_links ws s at k ≡ x → k ≤ 0 → record { is = at; ws = ws } ≡ x
unfolding wire_links
wire_links_done ws s at zero x g h = g
wire_links_done ws s at (suc k) x g h = absurd (not-suc-le-zero h)

module _ (ws : List ℕ) (w t v : ℕ) (ev : v ≡ hung ws w) where
  pub over_none : v ≡ 0 → t ≡ over ws w t
  unfolding over
  over_none z = rw (← ev) (eq_yes _ _ _ _ z refl)

  pub over_below : (v ≢ 0) → w < t → t ≡ over ws w t
  unfolding over
  over_below n h = rw (← ev) (eq_no _ _ _ _ n (lt_yes _ _ _ _ h refl))

  pub over_above : (v ≢ 0) → t ≤ w → w + 1 ≡ over ws w t
  unfolding over
  over_above n h = rw (← ev) (eq_no _ _ _ _ n (lt_no _ _ _ _ h refl))

module _ (ws s : List ℕ) (at t x : ℕ) (ex : x ≡ byte s at) where
  pub hung_node : (x ≢ 0) → t ≡ hung_tree ws s at t
  unfolding hung_tree
  hung_node n = rw (← ex) (eq_no _ _ _ _ n refl)

  pub hung_wire : (w r : ℕ) → x ≡ 0 → w ≡ wire_at s at → r ≡ over ws w t → r ≡ hung_tree ws s at t
  unfolding hung_tree
  hung_wire w r z ew er = rw (← ex) (eq_yes _ _ _ _ z (rw (← ew) er))

pub hung_more : (ws s : List ℕ) (at b e k t u r x : ℕ) → hung_links ws s at k t ≡ x → 0 < k → b ≡ tree_end s at → u ≡ hung_tree ws s at t → r ≡ hung_tree ws s b u
    → e ≡ tree_end s b → hung_links ws s e (k - 1) r ≡ x
unfolding hung_links
hung_more ws s at b e zero t u r x g h eb eu er ee = absurd (not-suc-le-zero h)
hung_more ws s at b e (suc k) t u r x g h eb eu er ee = rw (sub-one, ee, er, eu, eb) g

pub hung_done : (ws s : List ℕ) (at k t x : ℕ) → hung_links ws s at k t ≡ x → k ≤ 0 → t ≡ x
unfolding hung_links
hung_done ws s at zero t x g h = g
hung_done ws s at (suc k) t x g h = absurd (not-suc-le-zero h)

module _ (ws bs : List ℕ) (w v : ℕ) (ev : v ≡ hung ws w) where
  pub mark_none : v ≡ 0 → bs ≡ mark_wire ws w bs
  unfolding mark_wire
  mark_none z = rw (← ev) (eq_yes _ _ _ _ z refl)

  pub mark_some : (cs : List ℕ) → (v ≢ 0) → cs ≡ marked 0 bs w → cs ≡ mark_wire ws w bs
  unfolding mark_wire
  mark_some cs n ec = rw (← ev) (eq_no _ _ _ _ n ec)

module _ (ws s bs : List ℕ) (at x : ℕ) (ex : x ≡ byte s at) where
  pub mark_node : (x ≢ 0) → bs ≡ mark_tree ws s at bs
  unfolding mark_tree
  mark_node n = rw (← ex) (eq_no _ _ _ _ n refl)

  pub mark_one : (w : ℕ) (cs : List ℕ) → x ≡ 0 → w ≡ wire_at s at → cs ≡ mark_wire ws w bs → cs ≡ mark_tree ws s at bs
  unfolding mark_tree
  mark_one w cs z ew ec = rw (← ex) (eq_yes _ _ _ _ z (rw (← ew) ec))

pub mark_more : (ws s bs cs ds : List ℕ) (at b e k : ℕ) (x : List ℕ) → marked_links ws s at k bs ≡ x → 0 < k → b ≡ tree_end s at → cs ≡ mark_tree ws s at bs
    → ds ≡ mark_tree ws s b cs → e ≡ tree_end s b → marked_links ws s e (k - 1) ds ≡ x
unfolding marked_links
mark_more ws s bs cs ds at b e zero x g h eb ec ed ee = absurd (not-suc-le-zero h)
mark_more ws s bs cs ds at b e (suc k) x g h eb ec ed ee = rw (sub-one, ee, ed, ec, eb) g

pub mark_done : (ws s bs : List ℕ) (at k : ℕ) (x : List ℕ) → marked_links ws s at k bs ≡ x → k ≤ 0 → bs ≡ x
unfolding marked_links
mark_done ws s bs at zero x g h = g
mark_done ws s bs at (suc k) x g h = absurd (not-suc-le-zero h)

pub free_node : (ws s : List ℕ) (at x : ℕ) → x ≡ byte s at → (x ≢ 0) → ws ≡ free_tree ws s at
unfolding free_tree
free_node ws s at x ex n = rw (← ex) (eq_no _ _ _ _ n refl)

pub free_wire : (ws s w : List ℕ) (at x u : ℕ) → x ≡ byte s at → x ≡ 0 → u ≡ wire_at s at → w ≡ freed ws u → w ≡ free_tree ws s at
unfolding free_tree
free_wire ws s w at x u ex z eu ew = rw (← ex) (eq_yes _ _ _ _ z (rw (ew, eu)))

pub free_more : (ws v w s : List ℕ) (at b e k : ℕ) (x : List ℕ) → free_links ws s at k ≡ x → 0 < k → b ≡ tree_end s at → v ≡ free_tree ws s at → w ≡ free_tree v s b
    → e ≡ tree_end s b → free_links w s e (k - 1) ≡ x
unfolding free_links
free_more ws v w s at b e zero x g h eb ev ew ee = absurd (not-suc-le-zero h)
free_more ws v w s at b e (suc k) x g h eb ev ew ee = rw (sub-one, ee, ew, ev, eb) g

pub free_done : (ws s : List ℕ) (at k : ℕ) (x : List ℕ) → free_links ws s at k ≡ x → k ≤ 0 → ws ≡ x
unfolding free_links
free_done ws s at zero x g h = g
free_done ws s at (suc k) x g h = absurd (not-suc-le-zero h)

module _ (ws v v₁ : List ℕ) (w at c u : ℕ) (p : Passed) (ec : c ≡ smaller ws w) (ev : v ≡ unlink ws w) (eu : u ≡ hung v c) (e₁ : v₁ ≡ hang v c 0) where
  pub meet_hangs : (v₂ : List ℕ) (n l : ℕ) → u ≡ 0 → n ≡ next at → v₂ ≡ hang v₁ c n → l ≡ next p.left
      → record { is = record { kept = p.kept; left = l }; ws = v₂ } ≡ meet ws w at p
  unfolding meet
  meet_hangs v₂ n l z en e₂ el = rw (← ec, ← ev, ← eu, ← e₁) (eq_yes _ _ _ _ z (rw (e₂, en, el)))

  pub meet_links : (v₂ : List ℕ) (l : ℕ) (q : Passed) → (u ≢ 0) → l ≡ less p.left
      → q ≡ (add_kept v₁ (u - 1) at (record { kept = p.kept; left = l })).is → v₂ ≡ (add_kept v₁ (u - 1) at (record { kept = p.kept; left = l })).ws
      → record { is = q; ws = v₂ } ≡ meet ws w at p
  unfolding meet
  meet_links v₂ l q n el eq e₂ =
      rw (← ec, ← ev, ← eu, ← e₁) (eq_no _ _ _ _ n (rw (← el) (whole (add_kept v₁ (u - 1) at (record { kept = p.kept; left = l })) eq e₂)))

module _ (ws s : List ℕ) (a b x y : ℕ) (p : Passed) (ex : x ≡ byte s a) (ey : y ≡ byte s b) where
  pub pass_wires : x ≡ 0 → y ≡ 0 → record { is = p; ws = ws } ≡ pass_link ws s a b p
  unfolding pass_link
  pass_wires z z' = rw (← ex, ← ey) (eq_yes _ _ _ _ z (eq_yes _ _ _ _ z' refl))

  module _ (w : List ℕ) (q : Passed) where
    pub pass_right : (u r : ℕ) → x ≡ 0 → (y ≢ 0) → u ≡ wire_at s a → r ≡ place b → q ≡ (meet ws u r p).is → w ≡ (meet ws u r p).ws
        → record { is = q; ws = w } ≡ pass_link ws s a b p
    unfolding pass_link
    pass_right u r z n eu er eq ew = rw (← ex, ← ey) (eq_yes _ _ _ _ z (eq_no _ _ _ _ n (rw (← eu, ← er) (whole (meet ws u r p) eq ew))))

    pub pass_left : (u r : ℕ) → (x ≢ 0) → y ≡ 0 → u ≡ wire_at s b → r ≡ place a → q ≡ (meet ws u r p).is → w ≡ (meet ws u r p).ws
        → record { is = q; ws = w } ≡ pass_link ws s a b p
    unfolding pass_link
    pass_left u r n z eu er eq ew = rw (← ex, ← ey) (eq_no _ _ _ _ n (eq_yes _ _ _ _ z (rw (← eu, ← er) (whole (meet ws u r p) eq ew))))

    pub pass_nodes : (i j : ℕ) → (x ≢ 0) → (y ≢ 0) → i ≡ place a → j ≡ place b → q ≡ (add_kept ws i j p).is → w ≡ (add_kept ws i j p).ws
        → record { is = q; ws = w } ≡ pass_link ws s a b p
    unfolding pass_link
    pass_nodes i j n n' ei ej eq ew = rw (← ex, ← ey) (eq_no _ _ _ _ n (eq_no _ _ _ _ n' (rw (← ei, ← ej) (whole (add_kept ws i j p) eq ew))))

pub pass_more : (ws w s : List ℕ) (at b e k : ℕ) (p q : Passed) (x : Left Passed) → pass ws s at k p ≡ x → 0 < k → b ≡ tree_end s at
    → q ≡ (pass_link ws s at b p).is → w ≡ (pass_link ws s at b p).ws → e ≡ tree_end s b → pass w s e (k - 1) q ≡ x
unfolding pass
pass_more ws w s at b e zero p q x g h eb eq ew ee = absurd (not-suc-le-zero h)
pass_more ws w s at b e (suc k) p q x g h eb eq ew ee = rw (sub-one, ee, ew, eq, eb) g

pub pass_done : (ws s : List ℕ) (at k : ℕ) (p : Passed) (x : Left Passed) → pass ws s at k p ≡ x → k ≤ 0 → record { is = p; ws = ws } ≡ x
unfolding pass
pass_done ws s at zero p x g h = g
pass_done ws s at (suc k) p x g h = absurd (not-suc-le-zero h)
