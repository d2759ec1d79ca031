-- Each way out of the loops of check 7.
use Prim.Native.Nat.{ℕ, zero, suc, ◌+◌, ◌*◌, ◌-◌, ◌<◌, ◌≤◌}
use Rattle.std.specs.Prelude.{◌≡◌, refl, Bool, true, false, ◌&&◌, get_or, eqb}
use Rattle.std.proofs.Math.Path.{sym, ap}
use Rattle.std.proofs.Common.{◌∙◌, not-suc-le-zero}
use mathlib.Core.List.{List, [], ◌∷◌, ◌++◌}
use native.Mathlib.Omega.{arith}
use Rattle.std.proofs.Math.Numerals.{sub-one}
use Rattle.std.proofs.Math.ListN.{length}
use Rattle.words.specs.Choose.{lt_yes, lt_no}
use Rattle.net_file.specs.Lists.{all}
use Rattle.list_laws.specs.Lists.{all_append}
use Rattle.fields.specs.Fields.{byte, be16}
use Rattle.stored.specs.Stored.{table_at, numbers_at, list_end, name_end, node_end, pair_at, pairs_at}
use Rattle.ends.specs.Ends.{within, on, node_is}
use Rattle.ends.specs.Runs.{run, run_none, run_all}
use Rattle.tally.specs.Tally.{tally, bump, tally_append}
use Rattle.wiring.specs.Wiring.{twice, alike, pair_run, node_wires, nodes_wires, free_wires, net_pairs, net_nodes, net_wired}

module _ (s : List ℕ) (from n : ℕ) where
  pub tally_none : (counts : List ℕ) (base : ℕ) → length s < from + 2 * n → counts ≡ tally counts base (run s from n)
  unfolding tally
  tally_none counts base h = rw (run_none s from n h)

  pub tally_start : (counts : List ℕ) (base : ℕ) → from + 2 * n ≤ length s → tally counts base (numbers_at s from n) ≡ tally counts base (run s from n)
  tally_start counts base h = rw (run_all s from n h)

pub tally_more : (s counts c : List ℕ) (base at k w : ℕ) (x : List ℕ) → tally counts base (numbers_at s at k) ≡ x → 0 < k → w ≡ be16 s at → c ≡ bump counts base w
    → tally c base (numbers_at s (at + 2) (k - 1)) ≡ x
unfolding numbers_at table_at tally
tally_more s counts c base at zero w x g h ew ec = absurd (not-suc-le-zero h)
tally_more s counts c base at (suc k) w x g h ew ec = rw (sub-one, ec, ew) g

pub tally_done : (s counts : List ℕ) (base at k : ℕ) (x : List ℕ) → tally counts base (numbers_at s at k) ≡ x → k ≤ 0 → counts ≡ x
unfolding numbers_at table_at tally
tally_done s counts base at zero x g h = g
tally_done s counts base at (suc k) x g h = absurd (not-suc-le-zero h)

-- ---- nodes

pub node_tallied : (s counts c d : List ℕ) (base e k t f : ℕ) → c ≡ tally counts base (run s e 1) → t ≡ on s e 2 → k ≡ byte s t → f ≡ on s e 3
    → d ≡ tally c base (run s f k) → d ≡ tally counts base (run s e 1 ++ run s (on s e 3) (byte s (on s e 2)))
node_tallied s counts c d base e k t f ec et ek ef ed = ed ∙ rw (ec, ef, ek, et) (tally_append counts base (run s e 1) (run s (on s e 3) (byte s (on s e 2))))

-- the principal wire and the count are there
module _ (s : List ℕ) (e w : ℕ) (l : 3 ≤ length s) (h : e ≤ length s - 3) (ew : w ≡ be16 s e) where
  there : run s e 1 ++ run s (on s e 3) (byte s (on s e 2)) ≡ w ∷ run s (e + 3) (byte s (e + 2))
  unfolding numbers_at table_at
  there =
      let a : on s e 3 ≡ e + 3 = omega arith in
      let b : on s e 2 ≡ e + 2 = omega arith in
      let r : run s e 1 ≡ be16 s e ∷ [] = run_all s e 1 (omega arith) in
      rw (r, a, b, ew)

  pub node_there : (counts c d : List ℕ) (base k : ℕ) → c ≡ bump counts base w → k ≡ byte s (e + 2) → d ≡ tally c base (run s (e + 3) k)
      → d ≡ tally counts base (run s e 1 ++ run s (on s e 3) (byte s (on s e 2)))
  unfolding tally
  node_there counts c d base k ec ek ed = rw (there, ed, ec, ek)

  module _ (counts : List ℕ) (base : ℕ) (t : Bool) (et : t ≡ twice counts base w) where
    pub there_once : t ≡ false → false ≡ all (twice counts base) (run s e 1 ++ run s (on s e 3) (byte s (on s e 2)))
    there_once n = rw there (ap (λ u. u && all (twice counts base) (run s (e + 3) (byte s (e + 2)))) (sym (sym et ∙ n)))

    pub there_twice : (k : ℕ) (r : Bool) → t ≡ true → k ≡ byte s (e + 2) → r ≡ all (twice counts base) (run s (e + 3) k)
        → r ≡ all (twice counts base) (run s e 1 ++ run s (on s e 3) (byte s (on s e 2)))
    there_twice k r y ek er = rw there (er ∙ rw ek (ap (λ u. u && all (twice counts base) (run s (e + 3) (byte s (e + 2)))) (sym (sym et ∙ y))))

pub nodes_more : (s counts c : List ℕ) (base at e a k : ℕ) (x : List ℕ) → tally counts base (nodes_wires s at k) ≡ x → 0 < k → e ≡ within s (name_end s at)
    → c ≡ tally counts base (run s e 1 ++ run s (on s e 3) (byte s (on s e 2))) → a ≡ within s (list_end s (e + 2)) → tally c base (nodes_wires s a (k - 1)) ≡ x
unfolding nodes_wires node_wires
nodes_more s counts c base at e a zero x g h ee ec ea = absurd (not-suc-le-zero h)
nodes_more s counts c base at e a (suc k) x g h ee ec ea =
    let w = run s (within s (name_end s at)) 1 ++ run s (on s (within s (name_end s at)) 3) (byte s (on s (within s (name_end s at)) 2)) in
    rw (sub-one, ec, node_is s at e a ee ea, ee) (tally_append counts base w (nodes_wires s (within s (node_end s at)) k) ∙ g)

pub nodes_done : (s counts : List ℕ) (base at k : ℕ) (x : List ℕ) → tally counts base (nodes_wires s at k) ≡ x → k ≤ 0 → counts ≡ x
unfolding nodes_wires tally
nodes_done s counts base at zero x g h = g
nodes_done s counts base at (suc k) x g h = absurd (not-suc-le-zero h)

-- ---- seen twice

module _ (s counts : List ℕ) (base from n : ℕ) where
  pub twice_none : length s < from + 2 * n → true ≡ all (twice counts base) (run s from n)
  twice_none h = rw (run_none s from n h)

  pub twice_start : from + 2 * n ≤ length s → all (twice counts base) (numbers_at s from n) ≡ all (twice counts base) (run s from n)
  twice_start h = rw (run_all s from n h)

-- whether a wire was
pub twice_is : (counts : List ℕ) (base w c : ℕ) → c ≡ get_or counts w 0 → eqb c (base + 2) ≡ twice counts base w
unfolding twice
twice_is counts base w c e = ap (λ x. eqb x (base + 2)) e

module _ (s counts : List ℕ) (base at w : ℕ) (x t : Bool) where
  pub twice_more : (k : ℕ) → all (twice counts base) (numbers_at s at k) ≡ x → 0 < k → w ≡ be16 s at → t ≡ twice counts base w → t ≡ true
      → all (twice counts base) (numbers_at s (at + 2) (k - 1)) ≡ x
  unfolding numbers_at table_at
  twice_more zero g h ew et e = absurd (not-suc-le-zero h)
  twice_more (suc k) g h ew et e = rw sub-one (ap (λ y. y && all (twice counts base) (numbers_at s (at + 2) k)) (sym (sym (rw ew at et) ∙ e)) ∙ g)

  pub twice_no : (k : ℕ) → all (twice counts base) (numbers_at s at k) ≡ x → 0 < k → w ≡ be16 s at → t ≡ twice counts base w → t ≡ false → false ≡ x
  unfolding numbers_at table_at
  twice_no zero g h ew et e = absurd (not-suc-le-zero h)
  twice_no (suc k) g h ew et e = ap (λ y. y && all (twice counts base) (numbers_at s (at + 2) k)) (sym (sym (rw ew at et) ∙ e)) ∙ g

  pub twice_done : (k : ℕ) → all (twice counts base) (numbers_at s at k) ≡ x → k ≤ 0 → true ≡ x
  unfolding numbers_at table_at
  twice_done zero g h = g
  twice_done (suc k) g h = absurd (not-suc-le-zero h)

-- ---- nodes seen twice

module _ (s counts : List ℕ) (base e : ℕ) (t : Bool) (et : t ≡ all (twice counts base) (run s e 1)) where
  apart : all (twice counts base) (run s e 1 ++ run s (on s e 3) (byte s (on s e 2))) ≡ (t && all (twice counts base) (run s (on s e 3) (byte s (on s e 2))))
  apart = rw et (all_append (twice counts base) (run s e 1) (run s (on s e 3) (byte s (on s e 2))))

  pub node_once : t ≡ false → false ≡ all (twice counts base) (run s e 1 ++ run s (on s e 3) (byte s (on s e 2)))
  node_once f = sym (apart ∙ ap (λ u. u && all (twice counts base) (run s (on s e 3) (byte s (on s e 2)))) f)

  pub node_twice : (r : Bool) (k p f : ℕ) → t ≡ true → p ≡ on s e 2 → k ≡ byte s p → f ≡ on s e 3 → r ≡ all (twice counts base) (run s f k)
      → r ≡ all (twice counts base) (run s e 1 ++ run s (on s e 3) (byte s (on s e 2)))
  node_twice r k p f y ep ek ef er = er ∙ rw (ef, ek, ep) (sym (apart ∙ ap (λ u. u && all (twice counts base) (run s (on s e 3) (byte s (on s e 2)))) y))

module _ (s counts : List ℕ) (base at e : ℕ) (x t : Bool) (ee : e ≡ within s (name_end s at))
    (et : t ≡ all (twice counts base) (run s e 1 ++ run s (on s e 3) (byte s (on s e 2)))) where
  wires_are : t ≡ all (twice counts base) (node_wires s at)
  unfolding node_wires
  wires_are = rw ee at et

  pub nodes_twice_more : (a k : ℕ) → all (twice counts base) (nodes_wires s at k) ≡ x → 0 < k → t ≡ true → a ≡ within s (list_end s (e + 2))
      → all (twice counts base) (nodes_wires s a (k - 1)) ≡ x
  unfolding nodes_wires
  nodes_twice_more a zero g h y ea = absurd (not-suc-le-zero h)
  nodes_twice_more a (suc k) g h y ea =
      rw (sub-one, node_is s at e a ee ea) (sym (all_append (twice counts base) (node_wires s at) (nodes_wires s (within s (node_end s at)) k)
      ∙ ap (λ u. u && all (twice counts base) (nodes_wires s (within s (node_end s at)) k)) (sym wires_are ∙ y)) ∙ g)

  pub nodes_twice_no : (k : ℕ) → all (twice counts base) (nodes_wires s at k) ≡ x → 0 < k → t ≡ false → false ≡ x
  unfolding nodes_wires
  nodes_twice_no zero g h y = absurd (not-suc-le-zero h)
  nodes_twice_no (suc k) g h y =
      sym (all_append (twice counts base) (node_wires s at) (nodes_wires s (within s (node_end s at)) k)
      ∙ ap (λ u. u && all (twice counts base) (nodes_wires s (within s (node_end s at)) k)) (sym wires_are ∙ y)) ∙ g

pub nodes_twice_done : (s counts : List ℕ) (base at k : ℕ) (x : Bool) → all (twice counts base) (nodes_wires s at k) ≡ x → k ≤ 0 → true ≡ x
unfolding nodes_wires
nodes_twice_done s counts base at zero x g h = g
nodes_twice_done s counts base at (suc k) x g h = absurd (not-suc-le-zero h)

-- ---- pairs seen alike

module _ (s counts : List ℕ) (from n : ℕ) where
  pub alike_none : length s < from + 4 * n → true ≡ all (alike counts) (pair_run s from n)
  unfolding pair_run
  alike_none h = ap (all (alike counts)) (lt_yes _ _ _ _ h refl)

  pub alike_start : from + 4 * n ≤ length s → all (alike counts) (pairs_at s from n) ≡ all (alike counts) (pair_run s from n)
  unfolding pair_run
  alike_start h = ap (all (alike counts)) (lt_no _ _ _ _ h refl)

module _ (s counts : List ℕ) (at u v : ℕ) (x t : Bool) where
  pub alike_more : (k : ℕ) → all (alike counts) (pairs_at s at k) ≡ x → 0 < k → u ≡ be16 s at → v ≡ be16 s (at + 2) → t ≡ alike counts (u, v) → t ≡ true
      → all (alike counts) (pairs_at s (at + 4) (k - 1)) ≡ x
  unfolding pairs_at table_at pair_at
  alike_more zero g h eu ev et e = absurd (not-suc-le-zero h)
  alike_more (suc k) g h eu ev et e = rw sub-one (ap (λ y. y && all (alike counts) (pairs_at s (at + 4) k)) (sym (sym (rw (eu, ev) at et) ∙ e)) ∙ g)

  pub alike_no : (k : ℕ) → all (alike counts) (pairs_at s at k) ≡ x → 0 < k → u ≡ be16 s at → v ≡ be16 s (at + 2) → t ≡ alike counts (u, v) → t ≡ false → false ≡ x
  unfolding pairs_at table_at pair_at
  alike_no zero g h eu ev et e = absurd (not-suc-le-zero h)
  alike_no (suc k) g h eu ev et e = ap (λ y. y && all (alike counts) (pairs_at s (at + 4) k)) (sym (sym (rw (eu, ev) at et) ∙ e)) ∙ g

pub alike_done : (s counts : List ℕ) (at k : ℕ) (x : Bool) → all (alike counts) (pairs_at s at k) ≡ x → k ≤ 0 → true ≡ x
unfolding pairs_at table_at
alike_done s counts at zero x g h = g
alike_done s counts at (suc k) x g h = absurd (not-suc-le-zero h)

pub alike_is : (counts : List ℕ) (a b x y : ℕ) → x ≡ get_or counts a 0 → y ≡ get_or counts b 0 → eqb x y ≡ alike counts (a, b)
unfolding alike
alike_is counts a b x y e f = λ i. eqb (e i) (f i)

-- ---- a net

module _ (s counts : List ℕ) (base at : ℕ) (a : Bool) (ea : a ≡ all (alike counts) (net_pairs s at)) where
  pub net_unlike : a ≡ false → false ≡ net_wired counts base s at
  unfolding net_wired
  net_unlike f = ap (λ x. x && all (twice counts base) (free_wires s at) && all (twice counts base) (net_nodes s at)) (sym (sym ea ∙ f))

  module _ (b : Bool) (y : a ≡ true) (eb : b ≡ all (twice counts base) (free_wires s at)) where
    pub net_free : b ≡ false → false ≡ net_wired counts base s at
    unfolding net_wired
    net_free f = λ i. sym (sym ea ∙ y) i && sym (sym eb ∙ f) i && all (twice counts base) (net_nodes s at)

    pub net_nodes_lem : (r : Bool) → b ≡ true → r ≡ all (twice counts base) (net_nodes s at) → r ≡ net_wired counts base s at
    unfolding net_wired
    net_nodes_lem r z er = er ∙ (λ i. sym (sym ea ∙ y) i && sym (sym eb ∙ z) i && all (twice counts base) (net_nodes s at))
