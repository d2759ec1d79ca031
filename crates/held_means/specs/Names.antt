-- The table of names of a run: the included nets of an accepted file have different names, all below 1,024, so each net is found by its own.
use Prim.Native.Nat.{ℕ, zero, suc, ◌+◌, ◌<◌, ◌≤◌}
use Rattle.std.specs.Prelude.{◌≡◌, ◌⊎◌, true, false, ◌&&◌, List, [], ◌∷◌, map, length, get_or, ltb}
use Rattle.std.proofs.Math.Path.{refl, sym, ap, subst}
use Rattle.std.proofs.Common.{◌∙◌, inl, inr, arith, eqb-true, eq-eqb, ltb-true}
use Rattle.std.proofs.Math.Bool.{Bool}
use Rattle.std.proofs.lemmas.Bool.{false≢true}
use Rattle.std.proofs.Math.Option.{Option, none, some}
use Rattle.std.proofs.Math.Decide.{dec_lt}
use Rattle.std.proofs.lemmas.List.{length-map}
use Rattle.std.proofs.Math.ListN.{get_or-map}
use Rattle.std.proofs.Math.Dec.{eqb}
use Rattle.words.specs.Choose.{lt_yes}
use Rattle.list_laws.specs.Tests.{both}
use Rattle.net_file.specs.Lists.{ok, all, distinct, ascend, eqs}
use Rattle.net_file.specs.Values.{FlatNet, File}
use Rattle.net_file.specs.Checks.{flat, same_name, pairs_ordered, ordered, read}
use Rattle.net_file_laws.specs.Bytes.{Bytes}
use Rattle.net_file_laws.specs.Exact.{Each}
use Rattle.net_file_laws.specs.Flat.{FlatNetFits}
use Rattle.net_file_laws.proofs.RoundTrip.{flat_write_read}
use Rattle.layout.specs.Layout.{net_by_name}
use Rattle.definitions.specs.Lists.{keep, up_to}
use Rattle.definitions.specs.Nets.{Home}
use Rattle.definitions.specs.State.{Pools, Engine, homes, net_at}
use Rattle.definitions.specs.Load.{included}
use Rattle.definitions.specs.Visit.{get_net}
use Rattle.good_laws.specs.Turned.{named_below}
use Rattle.load_laws.specs.Finds.{find_mem, find_none}
use Rattle.load_laws.specs.Begin.{T_true}
use Rattle.reached_laws.specs.Files.{OfFile}
use Rattle.means.specs.Means.{no_net}
use Rattle.means.specs.Names.{net_word, Called}
use Rattle.image_means.specs.InUse.{from_mem}

-- numbers that ascend from b on, below 1,024
abbrev Up : ℕ → List ℕ → Type 0
Up b [] = Unit {0}
Up b (n ∷ ns) = (b ≤ n) × (n < 1024) × Up (suc n) ns

up_less : (b c : ℕ) (ns : List ℕ) → c ≤ b → Up b ns → Up c ns
up_less b c [] h u = tt
up_less b c (n ∷ ns) h u = let l = u.0 in (omega arith, u.1, u.2)

-- the names of nets
abbrev names_of : List FlatNet → List ℕ
names_of ts = map (λ (t : FlatNet). t.name) ts

up_keep : (g : FlatNet → Bool) (ts : List FlatNet) (b : ℕ) → Up b (names_of ts) → Up b (names_of (keep g ts))
up_keep g [] b u = tt
up_keep g (t ∷ ts) b u = go (g t) (up_keep g ts (suc t.name) u.2)
  where
    go : (y : Bool) → Up (suc t.name) (names_of (keep g ts)) → Up b (names_of (elim y as (λ _. List FlatNet) [ true ↦ t ∷ keep g ts | false ↦ keep g ts ]))
    go true r = (u.0, u.1, r)
    go false r = let l = u.0 in up_less (suc t.name) b (names_of (keep g ts)) (omega arith) r

module _ (paths names : ℕ) (few : names ≤ 1024) where
  up_from : (b : ℕ) (t : FlatNet) (ts : List FlatNet) → b ≤ t.name → ascend (names_of (t ∷ ts)) ≡ true → Each (FlatNetFits paths names) (t ∷ ts) → Up b (names_of (t ∷ ts))
  up_from b t [] h a f = let l = f.0.name in (h, omega arith, tt)
  up_from b t (u ∷ ts) h a f =
      let z = both (ltb t.name u.name) (ascend (names_of (u ∷ ts))) a in
      let l = ltb-true t.name u.name z.0 in
      let n = f.0.name in
      (h, omega arith, up_from (suc t.name) u ts (omega arith) z.1 f.1)

  up_all : (ts : List FlatNet) → ascend (names_of ts) ≡ true → Each (FlatNetFits paths names) ts → Up 0 (names_of ts)
  up_all [] a f = tt
  up_all (t ∷ ts) a f = up_from 0 t ts (omega arith) a f

up_at : (b : ℕ) (ns : List ℕ) → Up b ns → (j : ℕ) → j < length ns → (b ≤ get_or ns j 0) × (get_or ns j 0 < 1024)
up_at b [] u j h = absurd (omega arith)
up_at b (n ∷ ns) u zero h = (u.0, u.1)
up_at b (n ∷ ns) u (suc j) h = let r = up_at (suc n) ns u.2 j (omega arith) in let l = u.0 in let q = r.0 in (omega arith, r.1)

up_apart : (b : ℕ) (ns : List ℕ) → Up b ns → (i j : ℕ) → i < j → j < length ns → get_or ns i 0 < get_or ns j 0
up_apart b [] u i j l h = absurd (omega arith)
up_apart b (n ∷ ns) u zero zero l h = absurd (omega arith)
up_apart b (n ∷ ns) u (suc i) zero l h = absurd (omega arith)
up_apart b (n ∷ ns) u zero (suc j) l h = let r = (up_at (suc n) ns u.2 j (omega arith)).0 in omega arith
up_apart b (n ∷ ns) u (suc i) (suc j) l h = up_apart (suc n) ns u.2 i j (omega arith) (omega arith)

module _ (s : List ℕ) (is : Bytes s) (f : File FlatNet) (reads : read flat s ≡ ok f) (p : Pools) (e : Engine) (file : OfFile p f e) where
  -- the names of the run's nets
  abbrev called : List ℕ
  called = map (λ (h : Home). h.name) (homes e)

  called_up : Up 0 called
  unfolding included ordered
  called_up =
      let spells = flat_write_read s is f reads in
      let a = distinct eqs f.paths && distinct same_name f.names in
      let b = ascend (names_of f.nets) in
      let c = all (λ (n : FlatNet). pairs_ordered n.pairs) f.nets in
      let up = (both a b (both (a && b) c (T_true (a && b && c) spells.ordered)).0).1 in
      let t = spells.fits.tables in
      subst (Up 0) (sym file.names) (up_keep (λ (t : FlatNet). t.included) f.nets 0 (up_all (length f.paths) (length f.names) t.few_names f.nets up t.nets))

  many : length called ≡ length e.nets
  many = length-map (homes e) (λ (h : Home). h.name) ∙ length-map e.nets (λ n. n.home)

  called_at : (k : ℕ) → get_or called k 0 ≡ (net_at e k).home.name
  unfolding net_at
  called_at k = get_or-map (λ (h : Home). h.name) (homes e) k no_net.home ∙ ap (λ (h : Home). h.name) (get_or-map (λ n. n.home) e.nets k no_net)

  name_low : (k : ℕ) → k < length e.nets → (net_at e k).home.name < 1024
  name_low k h = subst (λ (n : ℕ). n < 1024) (called_at k) (let m = many in (up_at 0 called called_up k (omega arith)).1)

  -- no name twice
  name_once : (j k : ℕ) → j < length e.nets → k < length e.nets → (net_at e j).home.name ≡ (net_at e k).home.name → j ≡ k
  name_once j k x y q = go (dec_lt j k) (dec_lt k j)
    where
      apart : (a b : ℕ) → a < b → b < length e.nets → (net_at e a).home.name < (net_at e b).home.name
      apart a b l h = let m = many in let r = up_apart 0 called called_up a b l (omega arith) in let u = called_at a in let v = called_at b in omega arith

      go : Dec (j < k) → Dec (k < j) → j ≡ k
      go (yes l) d = absurd (let r = apart j k l y in omega arith)
      go (no n) (yes l) = absurd (let r = apart k j l x in omega arith)
      go (no n) (no m) = omega arith

  -- net k is the net of its name
  found : (k : ℕ) → k < length e.nets → get_net e (net_at e k).home.name ≡ some k
  unfolding get_net
  found k h = go (get_net e (net_at e k).home.name) refl
    where
      test : ℕ → Bool
      test j = eqb (net_at e j).home.name (net_at e k).home.name

      go : (o : Option ℕ) → get_net e (net_at e k).home.name ≡ o → o ≡ some k
      go none q = absurd (false≢true (sym (find_none test (up_to (length e.nets)) q k (from_mem (length e.nets) 0 k (omega arith) (omega arith))) ∙ eq-eqb (net_at e k).home.name (net_at e k).home.name refl))
      go (some j) q =
          let n = eqb-true (net_at e j).home.name (net_at e k).home.name (find_mem test (up_to (length e.nets)) j q).1 in
          ap {B = Option ℕ} some (name_once j k (named_below e (net_at e k).home.name j q) h n)

  module _ (ws : List ℕ) (table : Called ws e) where
    pub by_name : (k : ℕ) → k < length e.nets → net_by_name ws (net_at e k).home.name ≡ k + 1
    unfolding net_by_name
    by_name k h = sym (lt_yes (net_at e k).home.name 1024 _ _ (name_low k h) (sym (table (net_at e k).home.name (name_low k h) ∙ ap net_word (found k h))))

    -- a name has no net, or it is the name of its net
    pub each_name : (n : ℕ) → n < 1024 → (net_by_name ws n ≡ 0) ⊎ ((k : ℕ) × (k < length e.nets) × (net_by_name ws n ≡ k + 1) × ((net_at e k).home.name ≡ n))
    unfolding get_net net_by_name
    each_name n h = go (get_net e n) refl
      where
        word : (o : Option ℕ) → get_net e n ≡ o → net_by_name ws n ≡ net_word o
        word o q = sym (lt_yes n 1024 _ _ h (sym (table n h ∙ ap net_word q)))

        name_is : (k : ℕ) → get_net e n ≡ some k → (net_at e k).home.name ≡ n
        name_is k q = eqb-true (net_at e k).home.name n (find_mem (λ k. eqb (net_at e k).home.name n) (up_to (length e.nets)) k q).1

        go : (o : Option ℕ) → get_net e n ≡ o → (net_by_name ws n ≡ 0) ⊎ ((k : ℕ) × (k < length e.nets) × (net_by_name ws n ≡ k + 1) × ((net_at e k).home.name ≡ n))
        go none q = inl (word none q)
        go (some k) q = inr (k, named_below e n k q, word (some k) q, name_is k q)
