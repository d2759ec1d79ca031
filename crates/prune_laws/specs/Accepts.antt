-- A pruned file is a file that is accepted, and what is written of it is read back as it.
use Prim.Native.Nat.{ℕ, ◌≤◌}
use Rattle.std.specs.Prelude.{◌≡◌, refl, true, false, not, ◌&&◌, List, [], ◌∷◌, map, T, eqb, ltb}
use Rattle.std.proofs.Common.{sym, ap, subst, inl, inr, length-append, lt-ltb, ltb-true}
use Rattle.std.proofs.Math.Bool.{Bool}
use native.Mathlib.Omega.{arith}
use Rattle.std.proofs.Math.ListN.{length}
use Rattle.net_file.specs.Lists.{ok, any, all, sum, ascend, concat_map, distinct, eqs}
use Rattle.net_file.specs.Values.{FlatNet, File}
use Rattle.net_file.specs.Write.{counted, write_flat_net, write_body}
use Rattle.net_file.specs.Checks.{same_name, flat, flat_wired, pairs_ordered, ordered, wired, free_named, read, write}
use Rattle.net_file_laws.specs.Bytes.{Bytes, length_be}
use Rattle.net_file_laws.specs.Exact.{Each}
use Rattle.net_file_laws.specs.Flat.{FlatNetFits}
use Rattle.net_file_laws.specs.Body.{TablesFit}
use Rattle.net_file_laws.specs.RoundTrip.{Spells}
use Rattle.net_file_laws.proofs.RoundTrip.{flat_write_read, flat_read_write}
use Rattle.list_laws.specs.Tests.{both, both_are}
use Rattle.conversions.specs.Prune.{join, reach, keep_nets, prune}
use Rattle.prune_laws.specs.Members.{tested, false_true}

-- ---- some of a list, in its order

pub data Some {A : Type 0} : List A → List A → Type 0 where
  none : Some [] []
  kept : {x : A} {xs ys : List A} → Some xs ys → Some (x ∷ xs) (x ∷ ys)
  left : {x : A} {xs ys : List A} → Some xs ys → Some xs (x ∷ ys)

module _ {A : Type 0} where
  some_each : (F : A → Type 0) (xs ys : List A) → Some xs ys → Each F ys → Each F xs
  some_each F xs ys none h = tt
  some_each F xs ys (kept {xs = us} {ys = vs} s) h = (h.0, some_each F us vs s h.1)
  some_each F xs ys (left {ys = vs} s) h = some_each F xs vs s h.1

  some_all : (p : A → Bool) (xs ys : List A) → Some xs ys → all p ys ≡ true → all p xs ≡ true
  some_all p xs ys none h = refl
  some_all p xs ys (kept {x = x} {xs = us} {ys = vs} s) h = let b = both (p x) (all p vs) h in both_are (p x) (all p us) b.0 (some_all p us vs s b.1)
  some_all p xs ys (left {x = x} {ys = vs} s) h = some_all p xs vs s (both (p x) (all p vs) h).1

  some_few : (xs ys : List A) → Some xs ys → length xs ≤ length ys
  some_few xs ys none = omega arith
  some_few xs ys (kept {xs = us} {ys = vs} s) = let r = some_few us vs s in omega arith
  some_few xs ys (left {ys = vs} s) = let r = some_few xs vs s in omega arith

  some_sum : (g : A → ℕ) (xs ys : List A) → Some xs ys → sum (map g xs) ≤ sum (map g ys)
  some_sum g xs ys none = omega arith
  some_sum g xs ys (kept {xs = us} {ys = vs} s) = let r = some_sum g us vs s in omega arith
  some_sum g xs ys (left {ys = vs} s) = let r = some_sum g xs vs s in omega arith

  some_bytes : (w : A → List ℕ) (xs ys : List A) → Some xs ys → length (concat_map w xs) ≤ length (concat_map w ys)
  some_bytes w xs ys none = omega arith
  some_bytes w xs ys (kept {x = x} {xs = us} {ys = vs} s) =
      let r = some_bytes w us vs s in
      let a = length-append (w x) (concat_map w us) in
      let b = length-append (w x) (concat_map w vs) in
      omega arith
  some_bytes w xs ys (left {x = x} {ys = vs} s) = let r = some_bytes w xs vs s in let b = length-append (w x) (concat_map w vs) in omega arith

-- ---- numbers that ascend

above : (x y : ℕ) (ys : List ℕ) → ltb x y ≡ true → all (ltb y) ys ≡ true → all (ltb x) ys ≡ true
above x y [] h k = refl
above x y (z ∷ zs) h k =
    let b = both (ltb y z) (all (ltb y) zs) k in
    let l = ltb-true x y h in
    let m = ltb-true y z b.0 in
    both_are (ltb x z) (all (ltb x) zs) (lt-ltb x z (omega arith)) (above x y zs h b.1)

-- and those after it ascend
pub ascend_rest : (x : ℕ) (xs : List ℕ) → ascend (x ∷ xs) ≡ true → ascend xs ≡ true
ascend_rest x [] h = refl
ascend_rest x (y ∷ ys) h = (both (ltb x y) (ascend (y ∷ ys)) h).1

-- the first is below all after it
pub ascend_above : (x : ℕ) (xs : List ℕ) → ascend (x ∷ xs) ≡ true → all (ltb x) xs ≡ true
ascend_above x [] h = refl
ascend_above x (y ∷ ys) h =
    let b = both (ltb x y) (ascend (y ∷ ys)) h in
    both_are (ltb x y) (all (ltb x) ys) b.0 (above x y ys b.0 (ascend_above y ys b.1))

ascend_cons : (x : ℕ) (xs : List ℕ) → all (ltb x) xs ≡ true → ascend xs ≡ true → ascend (x ∷ xs) ≡ true
ascend_cons x [] h k = refl
ascend_cons x (y ∷ ys) h k = both_are (ltb x y) (ascend (y ∷ ys)) (both (ltb x y) (all (ltb x) ys) h).0 k

module _ {A : Type 0} (g : A → ℕ) where
  some_above : (x : ℕ) (xs ys : List A) → Some xs ys → all (ltb x) (map g ys) ≡ true → all (ltb x) (map g xs) ≡ true
  some_above x xs ys none h = refl
  some_above x xs ys (kept {x = y} {xs = us} {ys = vs} s) h =
      let b = both (ltb x (g y)) (all (ltb x) (map g vs)) h in
      both_are (ltb x (g y)) (all (ltb x) (map g us)) b.0 (some_above x us vs s b.1)
  some_above x xs ys (left {x = y} {ys = vs} s) h = some_above x xs vs s (both (ltb x (g y)) (all (ltb x) (map g vs)) h).1

  some_ascend : (xs ys : List A) → Some xs ys → ascend (map g ys) ≡ true → ascend (map g xs) ≡ true
  some_ascend xs ys none h = refl
  some_ascend xs ys (kept {x = y} {xs = us} {ys = vs} s) h =
      ascend_cons (g y) (map g us) (some_above (g y) us vs s (ascend_above (g y) (map g vs) h)) (some_ascend us vs s (ascend_rest (g y) (map g vs) h))
  some_ascend xs ys (left {x = y} {ys = vs} s) h = some_ascend xs vs s (ascend_rest (g y) (map g vs) h)

-- ---- the nets that are kept are some of those of the file

pub keep_none : (seen : List ℕ) → keep_nets seen [] ≡ []
unfolding keep_nets
keep_none seen = refl

pub keep_yes : (seen : List ℕ) (n : FlatNet) (ns : List FlatNet) → any (eqb n.name) seen ≡ true → keep_nets seen (n ∷ ns) ≡ n ∷ keep_nets seen ns
unfolding keep_nets
keep_yes seen n ns h = ap (λ (t : Bool). elim t as (λ u. List FlatNet) [ true ↦ n ∷ keep_nets seen ns | false ↦ keep_nets seen ns ]) h

pub keep_not : (seen : List ℕ) (n : FlatNet) (ns : List FlatNet) → any (eqb n.name) seen ≡ false → keep_nets seen (n ∷ ns) ≡ keep_nets seen ns
unfolding keep_nets
keep_not seen n ns h = ap (λ (t : Bool). elim t as (λ u. List FlatNet) [ true ↦ n ∷ keep_nets seen ns | false ↦ keep_nets seen ns ]) h

keep_some : (seen : List ℕ) (ns : List FlatNet) → Some (keep_nets seen ns) ns
keep_some seen [] = subst (λ (l : List FlatNet). Some l []) (sym (keep_none seen)) none
keep_some seen (n ∷ ns) = elim (tested (any (eqb n.name) seen)) [
  | inl e ↦ subst (λ (l : List FlatNet). Some l (n ∷ ns)) (sym (keep_yes seen n ns e)) (kept (keep_some seen ns))
  | inr e ↦ subst (λ (l : List FlatNet). Some l (n ∷ ns)) (sym (keep_not seen n ns e)) (left (keep_some seen ns))
]

-- ---- a file with some of its nets

to_T : (t : Bool) → t ≡ true → T t
to_T true h = tt
to_T false h = false_true h

of_T : (t : Bool) → T t → t ≡ true
of_T true h = refl
of_T false h = absurd h

module _ (f : File FlatNet) (ns : List FlatNet) (s : Some ns f.nets) where
  g : File FlatNet
  g = record { limit = f.limit; paths = f.paths; names = f.names; rules = f.rules; nets = ns }

  tables : TablesFit flat FlatNetFits f → TablesFit flat FlatNetFits g
  unfolding g
  tables t = record {
    few_paths = t.few_paths;
    paths = t.paths;
    few_others = t.few_others;
    few_names = t.few_names;
    names = t.names;
    few_rules = t.few_rules;
    rules = t.rules;
    few_nets = let l = some_few ns f.nets s in let m = t.few_nets in omega arith;
    nets = some_each (FlatNetFits (length f.paths) (length f.names)) ns f.nets s t.nets;
    few_nodes = let l = some_sum (λ (n : FlatNet). length n.nodes) ns f.nets s in let m = t.few_nodes in omega arith;
  }

  shorter : length (write_body 1 write_flat_net g) ≤ length (write_body 1 write_flat_net f)
  unfolding g write_body counted
  shorter = let l = some_bytes write_flat_net ns f.nets s in simp (length-append, length_be) (omega arith)

  order : T (ordered flat f) → T (ordered flat g)
  unfolding g ordered
  order t =
      let apart = distinct eqs f.paths && distinct same_name f.names in
      let name : FlatNet → ℕ = λ n. n.name in
      let paired : FlatNet → Bool = λ n. pairs_ordered n.pairs in
      let a = both (apart && ascend (map name f.nets)) (all paired f.nets) (of_T (apart && ascend (map name f.nets) && all paired f.nets) t) in
      let b = both apart (ascend (map name f.nets)) a.0 in
      to_T (apart && ascend (map name ns) && all paired ns)
      (both_are (apart && ascend (map name ns)) (all paired ns) (both_are apart (ascend (map name ns)) b.0 (some_ascend name ns f.nets s b.1))
      (some_all paired ns f.nets s a.1))

  wire : T (wired flat f) → T (wired flat g)
  unfolding g wired
  wire t = to_T (all flat_wired ns) (some_all flat_wired ns f.nets s (of_T (all flat_wired f.nets) t))

  free : T (not (free_named flat f)) → T (not (free_named flat g))
  unfolding g free_named
  free t = t

  some_read : (bs : List ℕ) → Spells flat FlatNetFits bs f
      → read flat (write flat (record { limit = f.limit; paths = f.paths; names = f.names; rules = f.rules; nets = ns }))
      ≡ ok (record { limit = f.limit; paths = f.paths; names = f.names; rules = f.rules; nets = ns })
  unfolding g
  some_read bs p =
      flat_read_write g (record { limit = p.fits.limit; tables = tables p.fits.tables; size = let z = p.fits.size in let l = shorter in omega arith })
      (order p.ordered) (wire p.wired) (free p.unnamed)

-- a file that was read, pruned, is accepted and read back from what is written of it
pub pruned_accepted : (bs : List ℕ) → Bytes bs → (f : File FlatNet) → read flat bs ≡ ok f → (es : List ℕ) → read flat (write flat (prune f es)) ≡ ok (prune f es)
unfolding prune
pruned_accepted bs h f e [] =
    let p = flat_write_read bs h f e in
    flat_read_write f p.fits p.ordered p.wired p.unnamed
pruned_accepted bs h f e (i ∷ is) =
    let seen = reach (length f.names) f (join [] (i ∷ is)) in
    some_read f (keep_nets seen f.nets) (keep_some seen f.nets) bs (flat_write_read bs h f e)

-- without entries nothing is removed
pub nothing_removed : (f : File FlatNet) → prune f [] ≡ f
unfolding prune
nothing_removed f = refl
