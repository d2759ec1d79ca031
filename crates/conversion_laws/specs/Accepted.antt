-- A file whose nets are converted is accepted again, where each net's conversion keeps what a net is checked for. One law for all.
use Prim.Native.Nat.{ℕ, zero, suc, ◌+◌, ◌≤◌}
use Rattle.std.proofs.Common.{arith, sym, ◌∙◌}
use Rattle.std.specs.Prelude.{◌≡◌, Bool, true, false, not, ◌&&◌, length, T}
use Rattle.std.proofs.Math.Path.{refl, ap, subst}
use mathlib.Core.List.{List, [], ◌∷◌, map}
use Rattle.net_file.specs.Lists.{Result, ok, refuse, all, distinct, eqs, sum, ascend}
use Rattle.net_file.specs.Values.{FlatNet, TreeNet, File}
use Rattle.net_file.specs.Checks.{Version, flat, tree, read, write, ordered, wired, free_named, same_name}
use Rattle.net_file_laws.specs.Bytes.{Bytes}
use Rattle.net_file_laws.specs.Exact.{Each}
use Rattle.net_file_laws.specs.Body.{LimitFits, TablesFit}
use Rattle.net_file_laws.specs.RoundTrip.{FileFits, Spells}
use Rattle.list_laws.specs.Tests.{both, both_are}
use Rattle.conversions.specs.Convert.{◌>>=◌}
use Rattle.conversions.specs.Calls.{map_nets, convert}

-- a test that passes
pub passed : (t : Bool) → T t → t ≡ true
passed true h = refl
passed false h = absurd h

pub passes : (t : Bool) → t ≡ true → T t
passes t e = subst T (sym e) tt

-- ---- net by net

-- an answer that goes on
pub goes_on : {A B : Type 0} (r : Result A) (f : A → Result B) (b : B) → (r >>= f) ≡ ok b → (a : A) × ((r ≡ ok a) × (f a ≡ ok b))
goes_on (ok a) f b e = (a, (refl, e))
goes_on (refuse n) f b e = let z : ◌≡◌ {A = ℕ} 0 1 = cc in absurd (omega arith)

pub same_ok : {A : Type 0} (a b : A) → ok a ≡ ok b → a ≡ b
same_ok a b e = cc

module _ {A B : Type 0} (v : Version A) (VF : ℕ → ℕ → A → Type 0) (w : Version B) (WF : ℕ → ℕ → B → Type 0) where
  -- what a net is checked for, of a net n that has become m
  pub record Keeps (paths names : ℕ) (n : A) (m : B) : Type 0 where
    pub fits : WF paths names m
    pub nodes : w.nodes m ≤ v.nodes n
    pub name : w.name_of m ≡ v.name_of n
    pub ordered : w.pairs_ordered m ≡ true
    pub wired : w.well_wired m ≡ true

  -- of a conversion: on every net of an accepted file
  abbrev pub KeepsAll : (A → Result B) → Type 0
  KeepsAll f = (paths names : ℕ) (n : A) → VF paths names n → v.pairs_ordered n ≡ true → v.well_wired n ≡ true → v.nodes n ≤ 4096 → (m : B) → f n ≡ ok m → Keeps paths names n m

  -- the nets of a file, one by one
  record All (paths names : ℕ) (ns : List A) (ms : List B) : Type 0 where
    long : length ms ≡ length ns
    fits : Each (WF paths names) ms
    nodes : sum (map w.nodes ms) ≤ sum (map v.nodes ns)
    named : map w.name_of ms ≡ map v.name_of ns
    ordered : all w.pairs_ordered ms ≡ true
    wired : all w.well_wired ms ≡ true

  module _ (f : A → Result B) (k : KeepsAll f) where
    each_keeps : (paths names : ℕ) (ns : List A) → Each (VF paths names) ns → all v.pairs_ordered ns ≡ true → all v.well_wired ns ≡ true → sum (map v.nodes ns) ≤ 4096
        → (ms : List B) → map_nets f ns ≡ ok ms → All paths names ns ms
    unfolding map_nets
    each_keeps paths names [] h o g l ms e =
        subst (All paths names []) (same_ok [] ms e) (record { long = refl; fits = tt; nodes = omega arith; named = refl; ordered = refl; wired = refl })
    each_keeps paths names (n ∷ ns) h o g l ms e =
        let x = goes_on (f n) _ ms e in
        let y = goes_on (map_nets f ns) _ ms x.1.1 in
        let p = both (v.pairs_ordered n) (all v.pairs_ordered ns) o in
        let q = both (v.well_wired n) (all v.well_wired ns) g in
        let a = k paths names n h.0 p.0 q.0 (omega arith) x.0 x.1.0 in
        let b = each_keeps paths names ns h.1 p.1 q.1 (omega arith) y.0 y.1.0 in
        subst (All paths names (n ∷ ns)) (same_ok (x.0 ∷ y.0) ms y.1.1) (record {
          long = ap suc b.long;
          fits = (a.fits, b.fits);
          nodes = omega (arith, a.nodes, b.nodes);
          named = rw a.name (rw b.named refl);
          ordered = both_are (w.pairs_ordered x.0) (all w.pairs_ordered y.0) a.ordered b.ordered;
          wired = both_are (w.well_wired x.0) (all w.well_wired y.0) a.wired b.wired;
        })

    -- the file with its nets converted is read back from what is written of it
    pub result_accepted : (laws : (y : File B) → LimitFits y.limit → TablesFit w WF y → FileFits w WF y)
        → (back : (y : File B) → FileFits w WF y → T (ordered w y) → T (wired w y) → T (not (free_named w y)) → read w (write w y) ≡ ok y)
        → (bs : List ℕ) (x : File A) → Spells v VF bs x → (y : File B) → convert f x ≡ ok y → read w (write w y) ≡ ok y
    unfolding convert ordered wired free_named
    result_accepted laws back bs x s y e =
        let m = goes_on (map_nets f x.nets) _ y e in
        let t = s.fits.tables in
        let o = both (distinct eqs x.paths && distinct same_name x.names && ascend (map v.name_of x.nets)) (all v.pairs_ordered x.nets) (passed (ordered v x) s.ordered) in
        let a = each_keeps (length x.paths) (length x.names) x.nets t.nets o.1 (passed (wired v x) s.wired) t.few_nodes m.0 m.1.0 in
        subst (λ z. read w (write w z) ≡ ok z) (same_ok _ y m.1.1)
        (back (turned m.0) (laws (turned m.0) s.fits.limit (record {
          few_paths = t.few_paths;
          paths = t.paths;
          few_others = t.few_others;
          few_names = t.few_names;
          names = t.names;
          few_rules = t.few_rules;
          rules = t.rules;
          few_nets = omega (arith, a.long, t.few_nets);
          nets = a.fits;
          few_nodes = omega (arith, a.nodes, t.few_nodes);
        }))
        (passes _ (both_are _ (all w.pairs_ordered m.0) (subst (λ ns. (distinct eqs x.paths && distinct same_name x.names && ascend ns) ≡ true) (sym a.named) o.0) a.ordered))
        (passes (all w.well_wired m.0) a.wired)
        s.unnamed)
      where
        turned : List B → File B
        turned ns = record { limit = x.limit; paths = x.paths; names = x.names; rules = x.rules; nets = ns }
