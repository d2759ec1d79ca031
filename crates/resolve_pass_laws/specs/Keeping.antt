-- Links that are kept: two places, at which their trees lie.
use Prim.Native.Nat.{ℕ, zero, suc, ◌+◌, ◌*◌, ◌<◌, ◌≤◌}
use Rattle.std.specs.Prelude.{◌≡◌, refl, get_or, set}
use Rattle.std.proofs.Common.{sym, ap, ◌∙◌}
use mathlib.Core.List.{List, [], ◌∷◌, ◌++◌}
use native.Mathlib.Omega.{arith}
use Rattle.std.proofs.Math.ListN.{length, length-set}
use Rattle.std.proofs.Math.Seq.{get_or-set_same, get_or-set_other}
use Rattle.net_file.specs.Values.{Tree}
use Rattle.conversions.specs.Resolve.{Hung}
use Rattle.wire_tables.specs.Tables.{keep, kept_left, kept_right}
use Rattle.wire_tables_laws.specs.Table.{table_keeps}
use Rattle.wire_tables_laws.specs.Linked.{LinkFor}
use Rattle.spelt_trees.specs.Lies.{Lies}
use Rattle.resolve_walk_laws.specs.Meant.{HungAt, Meant}

-- the words of links before the i-th are kept
pub record Before (i : ℕ) (ws vs : List ℕ) : Type 0 where
  pub long : length vs ≡ length ws
  pub same : (j : ℕ) → j < 2 * i → get_or vs (131072 + j) 0 ≡ get_or ws (131072 + j) 0

pub before_then : {i j : ℕ} {ws vs us : List ℕ} → i ≤ j → Before i ws vs → Before j vs us → Before i ws us
before_then l f g = record { long = g.long ∙ f.long; same = λ k h. g.same k (omega arith) ∙ f.same k h }

-- a word of the tables
pub before_set : (i : ℕ) (ws : List ℕ) (a v : ℕ) → a < 131072 → Before i ws (set ws a v)
before_set i ws a v l = record { long = length-set ws a v; same = λ j h. get_or-set_other ws a (131072 + j) v 0 (λ e. absurd (omega arith)) }

pub before_none : (i : ℕ) (ws : List ℕ) → Before i ws ws
before_none i ws = record { long = refl; same = λ j h. refl }

module _ (ws : List ℕ) (i a b : ℕ) (room : 131072 + 2 * i + 2 ≤ length ws) where
  abbrev one : List ℕ
  one = set ws (131072 + 2 * i) a

  pub keep_left : kept_left (keep ws i a b) i ≡ a
  unfolding keep
  keep_left = get_or-set_other one (131072 + 2 * i + 1) (131072 + 2 * i) b 0 (λ e. absurd (omega arith)) ∙ get_or-set_same ws (131072 + 2 * i) a 0 (omega arith)

  pub keep_right : kept_right (keep ws i a b) i ≡ b
  unfolding keep
  keep_right = get_or-set_same one (131072 + 2 * i + 1) b 0 (rw (length-set ws (131072 + 2 * i) a) (omega arith))

  pub keep_before : Before i ws (keep ws i a b)
  unfolding keep
  keep_before = record {
    long = length-set one (131072 + 2 * i + 1) b ∙ length-set ws (131072 + 2 * i) a;
    same = λ j h.
        get_or-set_other one (131072 + 2 * i + 1) (131072 + j) b 0 (λ e. absurd (omega arith))
        ∙ get_or-set_other ws (131072 + 2 * i) (131072 + j) a 0 (λ e. absurd (omega arith));
  }

module _ (s : List ℕ) (n : ℕ) (few : n ≤ 65536) where
  -- the tables are not touched
  pub keep_meant : (ws : List ℕ) (h : Hung) (i a b : ℕ) → Meant s n ws h → Meant s n (keep ws i a b) h
  unfolding keep
  keep_meant ws h i a b m = record {
    links = table_keeps (LinkFor n) 0 n (set ws (131072 + 2 * i) a) h.links
        (table_keeps (LinkFor n) 0 n ws h.links m.links (131072 + 2 * i) a (λ w l e. absurd (omega arith)))
        (131072 + 2 * i + 1) b (λ w l e. absurd (omega arith));
    trees = table_keeps (HungAt s n) 65536 n (set ws (131072 + 2 * i) a) h.trees
        (table_keeps (HungAt s n) 65536 n ws h.trees m.trees (131072 + 2 * i) a (λ w l e. absurd (omega arith)))
        (131072 + 2 * i + 1) b (λ w l e. absurd (omega arith));
  }

  -- the trees of link i lie where its words say
  pub record KeptAt (ws : List ℕ) (i : ℕ) (l : Tree × Tree) : Type 0 where
    pub left : Lies s n l.0 (kept_left ws i)
    pub right : Lies s n l.1 (kept_right ws i)

  -- links from the i-th on
  unfoldable pub KeptFrom : List ℕ → ℕ → List (Tree × Tree) → Type 0
  KeptFrom ws i [] = Unit {0}
  KeptFrom ws i (l ∷ ls) = KeptAt ws i l × KeptFrom ws (suc i) ls

  -- they stay where their words stay
  pub kept_before : (ws vs : List ℕ) (i j : ℕ) (ls : List (Tree × Tree)) → i + length ls ≤ j → Before j ws vs → KeptFrom ws i ls → KeptFrom vs i ls
  unfolding KeptFrom
  kept_before ws vs i j [] l b k = k
  kept_before ws vs i j (p ∷ ls) l b k =
      let x : kept_left vs i ≡ kept_left ws i = b.same (2 * i) (omega arith) in
      let e : 131072 + (2 * i + 1) ≡ 131072 + 2 * i + 1 = omega arith in
      let y : kept_right vs i ≡ kept_right ws i = rw e at (b.same (2 * i + 1) (omega arith)) in
      (record { left = rw x k.0.left; right = rw y k.0.right }, kept_before ws vs (suc i) j ls (omega arith) b k.1)

  -- some, then others
  pub kept_then : (ws : List ℕ) (i : ℕ) (ls ks : List (Tree × Tree)) → KeptFrom ws i ls → KeptFrom ws (i + length ls) ks → KeptFrom ws i (ls ++ ks)
  unfolding KeptFrom
  kept_then ws i [] ks k l = let e : i + 0 ≡ i = omega arith in rw e at l
  kept_then ws i (p ∷ ls) ks k l =
      let e : i + suc (length ls) ≡ suc i + length ls = omega arith in
      (k.0, kept_then ws (suc i) ls ks k.1 (rw e at l))
