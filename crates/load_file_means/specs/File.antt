-- An accepted file: its nets stand where the load looks for them, so the load on the words is level Engine's load of what was read.
use Rattle.std.specs.Prelude.{ℕ, zero, suc, ◌+◌, ◌<◌, ◌≤◌, ◌≡◌, refl, Bool, true, false, ◌&&◌, length, ltb}
use Rattle.std.proofs.Common.{sym, ltb-true, arith}
use Rattle.std.proofs.Math.Path.{ap, subst}
use Rattle.std.proofs.Math.Logic.{inr}
use mathlib.Core.List.{List, [], ◌∷◌, map, Memᴰ}
use Rattle.fields.specs.Fields.{be16}
use Rattle.stored.specs.Stored.{table_at, table_end, flat_net_at, flat_net_end, net_count_at}
use Rattle.stored.specs.Parts.{stands_net}
use Rattle.stored.specs.Body.{nets_at, body_at, body_end}
use Rattle.ends.specs.Ends.{table_up}
use Rattle.readers.specs.declared.Part.TheVariants.{Net}
use Rattle.readers.specs.Readers.{part_end}
use Rattle.readers.specs.Places.{part_up}
use Rattle.list_laws.specs.Tests.{both}
use Rattle.load.specs.Load as Words
use Rattle.net_file.specs.Lists.{ok, all, distinct, ascend, eqs}
use Rattle.net_file.specs.Values.{Name, FlatNet, File}
use Rattle.net_file.specs.Checks.{flat, same_name, pairs_ordered, ordered, wired, read}
use Rattle.net_file_laws.specs.Bytes.{Bytes}
use Rattle.net_file_laws.specs.Exact.{Each}
use Rattle.net_file_laws.specs.Flat.{FlatNetFits}
use Rattle.net_file_laws.specs.RoundTrip.{Spells}
use Rattle.net_file_laws.proofs.RoundTrip.{flat_write_read}
use Rattle.definitions.specs.Lists.{keep}
use Rattle.definitions.specs.State.{Pools}
use Rattle.definitions.specs.Load.{free_name, included, load}
use Rattle.readers_laws.specs.Reads.{read_stands, read_inside}
use Rattle.readers_laws.specs.Flat.{flat_stands}
use Rattle.readers_laws.specs.Bounds.{read_bounds}
use Rattle.held_names.specs.Named.{Stands, Named, free_named_lem}
use Rattle.held_names.specs.Nodes.{file_size}
use Rattle.load_laws.specs.Loaded.{NetFine}
use Rattle.load_laws.specs.Begin.{T_true, net_fine}
use Rattle.load_means.specs.Start.{Fresh}
use Rattle.load_nets_means.specs.Nets.{NetsIn, NetsDone, FileIn, load_means}
use Rattle.load_file_means.specs.Stands.{net_in, marked}

-- names ascend from b on
abbrev Rises : ℕ → List FlatNet → Type 0
Rises b [] = Unit {0}
Rises b (t ∷ ts) = (b ≤ t.name) × Rises (suc t.name) ts

rises : (b : ℕ) (t : FlatNet) (ts : List FlatNet) → b ≤ t.name → ascend (map (λ (n : FlatNet). n.name) (t ∷ ts)) ≡ true → Rises b (t ∷ ts)
rises b t [] h e = (h, tt)
rises b t (u ∷ ts) h e =
    let z = both (ltb t.name u.name) (ascend (map (λ (n : FlatNet). n.name) (u ∷ ts))) e in
    let l = ltb-true t.name u.name z.0 in
    (h, rises (suc t.name) u ts (omega arith) z.1)

rises_all : (ts : List FlatNet) → ascend (map (λ (n : FlatNet). n.name) ts) ≡ true → Rises 0 ts
rises_all [] e = tt
rises_all (t ∷ ts) e = rises 0 t ts (omega arith) e

keep_most : (g : FlatNet → Bool) (ts : List FlatNet) → length (keep g ts) ≤ length ts
keep_most g [] = omega arith
keep_most g (t ∷ ts) = go (g t) (keep_most g ts)
  where
    go : (b : Bool) → length (keep g ts) ≤ length ts → length {A = FlatNet} (elim b as (λ _. List FlatNet) [ true ↦ t ∷ keep g ts | false ↦ keep g ts ]) ≤ suc (length ts)
    go true h = omega arith
    go false h = omega arith

-- the nets of a table
nets_in : (s : List ℕ) (f : File FlatNet) (N : ℕ → Name → Type 0) → ((a : ℕ) (n : Name) → Stands s f a n → N a n) → length s < 4294967300 → length f.names ≤ 1024 → (k at b : ℕ) → table_end (flat_net_end s) at k ≤ length s
    → Each (FlatNetFits (length f.paths) (length f.names)) (table_at (flat_net_at s) (flat_net_end s) at k)
    → ((t : FlatNet) → Memᴰ t (table_at (flat_net_at s) (flat_net_end s) at k) → NetFine t) → Rises b (table_at (flat_net_at s) (flat_net_end s) at k)
    → NetsIn N s at b (table_at (flat_net_at s) (flat_net_end s) at k)
unfolding table_at table_end part_end
nets_in s f N named short few zero at b h e n r = tt
nets_in s f N named short few (suc k) at b h e n r =
    let up = table_up (flat_net_end s) (part_up s Net) (flat_net_end s at) k in (
      record {
        mark = marked s at;
        inside = omega arith;
        ascends = r.0;
        most = e.0.wires;
        stands = net_in s f short N named at (omega arith) e.0 few (n (flat_net_at s at) (Memᴰ.head refl));
      },
      nets_in s f N named short few k (flat_net_end s at) (suc (flat_net_at s at).name) h e.1 (λ t m. n t (Memᴰ.tail m)) r.1,
    )

module _ (s : List ℕ) (is : Bytes s) (f : File FlatNet) (e : read flat s ≡ ok f) where
  spells : Spells flat FlatNetFits s f
  spells = flat_write_read s is f e

  table : List FlatNet
  table = table_at (flat_net_at s) (flat_net_end s) (net_count_at s + 2) (be16 s (net_count_at s))

  nets_are : f.nets ≡ table
  unfolding body_at nets_at table
  nets_are = ap (λ (x : File FlatNet). x.nets) (read_stands flat flat_net_at flat_net_end s (stands_net s) f e)

  ascends : ascend (map (λ (n : FlatNet). n.name) f.nets) ≡ true
  unfolding ordered
  ascends =
      let a = distinct eqs f.paths && distinct same_name f.names in
      let b = ascend (map (λ (n : FlatNet). n.name) f.nets) in
      let c = all (λ (n : FlatNet). pairs_ordered n.pairs) f.nets in
      (both a b (both (a && b) c (T_true (a && b && c) spells.ordered)).0).1

  ends : table_end (flat_net_end s) (net_count_at s + 2) (be16 s (net_count_at s)) ≤ length s
  unfolding body_end
  ends = read_inside flat flat_net_at flat_net_end s (stands_net s) f e

  -- the nets stand there, where a place means at least what stands there
  pub nets_stand : (N : ℕ → Name → Type 0) → ((a : ℕ) (n : Name) → Stands s f a n → N a n) → NetsIn N s (net_count_at s + 2) 0 f.nets
  unfolding table
  nets_stand N named = subst (λ (ts : List FlatNet). NetsIn N s (net_count_at s + 2) 0 ts) (sym nets_are)
      (nets_in s f N named (file_size s is f e) (read_bounds s is f e).few_names (be16 s (net_count_at s)) (net_count_at s + 2) 0 ends
      (subst (λ (ts : List FlatNet). Each (FlatNetFits (length f.paths) (length f.names)) ts) nets_are spells.fits.tables.nets)
      (λ t m. net_fine f (T_true (ordered flat f) spells.ordered) (T_true (wired flat f) spells.wired) t (subst (Memᴰ t) (sym nets_are) m))
      (subst (λ (ts : List FlatNet). Rises 0 ts) nets_are (rises_all f.nets ascends)))

  -- what the load asks is there
  pub file_in : FileIn (Named s f) s f
  unfolding included part_end
  file_in = record {
    free = free_named_lem s f;
    count = (flat_stands s f e).net_count;
    inside = let a = ends in let b = table_up (flat_net_end s) (part_up s Net) (net_count_at s + 2) (be16 s (net_count_at s)) in omega arith;
    nets = nets_stand (Named s f) (λ a n h. inr h);
    few = let a = keep_most (λ t. t.included) f.nets in let b = (read_bounds s is f e).few_nets in omega arith;
  }

  -- the load of an accepted file: the words mean what level Engine loads, or both are refused by one number
  pub load_read_means : (ws : List ℕ) (p : Pools) → Fresh ws p f.limit → NetsDone (Named s f) (free_name f.paths).path (Words.load ws s) (load p f)
  load_read_means ws p h = load_means (Named s f) s ws p f h file_in
