-- On a file that is read: from the tables that the code makes, each name leads on as level File says; and the marks are those of what
-- `reach` gives.
use Prim.Native.Nat.{ℕ, zero, suc, ◌+◌, ◌<◌, ◌≤◌}
use Rattle.std.specs.Prelude.{◌≡◌, refl, true, false, ◌&&◌, length, get_or, replicate, T, eqb}
use Rattle.std.proofs.Math.Path.{sym, ap, subst}
use Rattle.std.proofs.Common.{◌∙◌}
use Rattle.std.proofs.Math.Bool.{Bool}
use mathlib.Core.List.{List, [], ◌∷◌, ◌++◌, map}
use native.Mathlib.Omega.{arith}
use Rattle.std.proofs.lemmas.List.{length-replicate}
use Rattle.net_file.specs.Lists.{ok, any, all, ascend, distinct, eqs}
use Rattle.net_file.specs.Values.{Name, FlatNet, File}
use Rattle.net_file.specs.Checks.{same_name, pairs_ordered, flat, ordered, read}
use Rattle.net_file_laws.specs.Bytes.{Bytes}
use Rattle.net_file_laws.specs.Exact.{Each}
use Rattle.net_file_laws.specs.Flat.{FlatNetFits}
use Rattle.net_file_laws.specs.Body.{TablesFit}
use Rattle.net_file_laws.specs.RoundTrip.{Spells}
use Rattle.net_file_laws.proofs.RoundTrip.{flat_write_read}
use Rattle.list_laws.specs.Tests.{both}
use Rattle.words.specs.Choose.{eq_yes}
use Rattle.fields.specs.Fields.{be16}
use Rattle.stored.specs.Stored.{table_at, table_end, list_at, name_at, name_end, rule_end, flat_net_at, flat_net_end, name_count_at, rule_count_at, net_count_at}
use Rattle.stored.specs.Parts.{stands_net}
use Rattle.stored.specs.Body.{names_at, nets_at, body_at}
use Rattle.ends.specs.Ends.{within, on, table_up, net_up, name_past}
use Rattle.readers_laws.specs.Reads.{read_stands}
use Rattle.readers_laws.specs.Tables.{table_inside, table_next}
use Rattle.readers_laws.specs.Flat.{FlatStands, flat_stands}
use Rattle.readers.specs.declared.Part.TheVariants as part
use Rattle.readers.specs.Readers.{part_end}
use Rattle.readers.specs.Places.{part_up}
use Rattle.conversions.specs.Prune.{children_of, from_nets, next, join, reach}
use Rattle.prune_laws.specs.Members.{In}
use Rattle.prune_laws.specs.Below.{next_below}
use Rattle.name_table.specs.Table.{name_places, net_places, sorted_part, number_part, find}
use Rattle.reach_names.specs.Reach.{from_net, onward, from_entries, with_names, reached}
use Rattle.reach_laws.specs.Tables.{Found, children_at, names_get, net_is, NetAt, bare, netted, nets_get}
use Rattle.reach_laws.specs.Finds.{found_exact}
use Rattle.reach_laws.specs.Closes.{marks_exact}

passes : (t : Bool) → T t → t ≡ true
passes true h = refl
passes false h = absurd h

named_below : (paths names k : ℕ) (ns : List FlatNet) → names ≤ k → Each (FlatNetFits paths names) ns → Each (λ (n : FlatNet). n.name < k) ns
named_below paths names k [] l h = tt
named_below paths names k (n ∷ ns) l h = (let m = h.0.name in omega arith, named_below paths names k ns l h.1)

module _ (s : List ℕ) (b : Bytes s) (f : File FlatNet) (e : read flat s ≡ ok f) where
  spelled : Spells flat FlatNetFits s f
  spelled = flat_write_read s b f e

  tables : TablesFit flat FlatNetFits f
  tables = spelled.fits.tables

  stands : FlatStands s f
  stands = flat_stands s f e

  abbrev from : ℕ
  from = name_count_at s + 2

  abbrev n : ℕ
  n = be16 s (name_count_at s)

  abbrev q : ℕ
  q = net_count_at s

  abbrev k : ℕ
  k = be16 s (net_count_at s)

  abbrev clear : List ℕ
  clear = replicate 1024 0

  long : length clear ≡ 1024
  long = length-replicate {A = ℕ} 1024 0

  body_is : f ≡ body_at flat_net_at flat_net_end s
  body_is = read_stands flat flat_net_at flat_net_end s (stands_net s) f e

  names_are : f.names ≡ table_at (name_at s) (name_end s) from n
  unfolding body_at names_at
  names_are = ap (λ (y : File FlatNet). y.names) body_is

  pub nets_are : f.nets ≡ table_at (flat_net_at s) (flat_net_end s) (net_count_at s + 2) (be16 s (net_count_at s))
  unfolding body_at nets_at
  nets_are = ap (λ (y : File FlatNet). y.nets) body_is

  few : n ≤ 1024
  few = let c = stands.name_count in let l = tables.few_names in omega arith

  names_inside : table_end (name_end s) from n ≤ length s
  names_inside = subst (λ (j : ℕ). table_end (name_end s) from j ≤ length s) stands.name_count (stands.name_inside (length f.names) (omega arith))

  pub nets_inside : table_end (flat_net_end s) (net_count_at s + 2) (be16 s (net_count_at s)) ≤ length s
  nets_inside = subst (λ (j : ℕ). table_end (flat_net_end s) (q + 2) j ≤ length s) stands.net_count (stands.net_inside (length f.nets) (omega arith))

  -- ---- order of the tables

  name_up : (at : ℕ) → at ≤ name_end s at
  name_up at = let h = name_past s at in omega arith

  names_first : table_end (name_end s) from n ≤ q
  unfolding rule_count_at net_count_at part_end
  names_first = let h = table_up (rule_end s) (part_up s part.Rule) (rule_count_at s + 2) (be16 s (rule_count_at s)) in omega arith

  nets_there : q + 2 ≤ length s
  nets_there = let h = table_up (flat_net_end s) (net_up s) (q + 2) k in let l = nets_inside in omega arith

  names_there : from ≤ length s
  names_there = let h = table_up (name_end s) name_up from n in let l = names_inside in omega arith

  -- ---- what the checks say

  orders : (distinct same_name f.names ≡ true) × (ascend (map (λ (m : FlatNet). m.name) f.nets) ≡ true)
  unfolding ordered
  orders =
      let name : FlatNet → ℕ = λ m. m.name in
      let paired : FlatNet → Bool = λ m. pairs_ordered m.pairs in
      let apart = distinct eqs f.paths && distinct same_name f.names in
      let h = both (apart && ascend (map name f.nets)) (all paired f.nets) (passes (apart && ascend (map name f.nets) && all paired f.nets) spelled.ordered) in
      let i = both apart (ascend (map name f.nets)) h.0 in
      ((both (distinct eqs f.paths) (distinct same_name f.names) i.0).1, i.1)

  apart : distinct same_name (table_at (name_at s) (name_end s) from n) ≡ true
  apart = subst (λ (l : List Name). distinct same_name l ≡ true) names_are orders.0

  up : ascend (map (λ (m : FlatNet). m.name) (table_at (flat_net_at s) (flat_net_end s) (q + 2) k)) ≡ true
  up = subst (λ (l : List FlatNet). ascend (map (λ (m : FlatNet). m.name) l) ≡ true) nets_are orders.1

  named : Each (λ (m : FlatNet). m.name < 1024) (table_at (flat_net_at s) (flat_net_end s) (q + 2) k)
  named = subst (λ (l : List FlatNet). Each (λ (m : FlatNet). m.name < 1024) l) nets_are (named_below (length f.paths) (length f.names) 1024 f.nets tables.few_names tables.nets)

  -- ---- the tables that the code makes

  abbrev names : List ℕ
  names = name_places s clear from 0 n

  abbrev nets : List ℕ
  nets = net_places s clear (q + 2) k

  placed : (j : ℕ) → j < n → get_or names j 0 ≡ table_end (name_end s) from j
  placed j h = let l = long in let c = few in names_get s clear from n j h (omega arith) names_inside

  abbrev found : ℕ → ℕ
  found = find s (sorted_part s names clear clear n) (number_part s names clear clear n) n

  finds : Found found f.names s (table_end (name_end s) from n)
  unfolding sorted_part number_part
  finds = subst (λ (ms : List Name). Found found ms s (table_end (name_end s) from n)) (sym names_are)
      (found_exact s b from n few names_inside apart names placed (record { places = clear; numbers = clear }) (let l = long in let c = few in omega arith) (let l = long in let c = few in omega arith))

  none_there : (j i : ℕ) → ◌≡◌ {A = ℕ} (get_or (replicate j 0) i 0) 0
  none_there zero i = refl
  none_there (suc j) zero = refl
  none_there (suc j) (suc i) = none_there j i

  children_are : (i : ℕ) → i < n → list_at s (on s (get_or names i 0) 10) ≡ children_of f.names i
  children_are i h =
      let p = placed i h in
      let a = name_past s (table_end (name_end s) from i) in
      let c = table_next (name_end s) from i in
      let d = table_inside (name_end s) name_up from n (suc i) h in
      let l = names_inside in
      let w : on s (get_or names i 0) 10 ≡ table_end (name_end s) from i + 10 = omega arith in
      ap (list_at s) w ∙ sym (children_at s from n i h) ∙ ap (λ (ms : List Name). children_of ms i) (sym names_are)

  from_none : (a : ℕ) → a ≡ 0 → from_net found s a ≡ []
  unfolding from_net
  from_none a h = sym (eq_yes _ _ _ _ h refl)

  nets_from : (i : ℕ) → from_net found s (get_or nets i 0) ≡ from_nets f.names f.nets i
  nets_from i =
      go (get_or nets i 0) (nets_get s f.names k clear (q + 2) i long up named (omega arith) nets_inside (none_there 1024 i))
      ∙ ap (λ (ns : List FlatNet). from_nets f.names ns i) (sym nets_are)
    where
      go : (a : ℕ) → NetAt s f.names (table_at (flat_net_at s) (flat_net_end s) (q + 2) k) a (q + 2) i → from_net found s a ≡ from_nets f.names (table_at (flat_net_at s) (flat_net_end s) (q + 2) k) i
      go a (bare x y) = from_none a y ∙ sym x
      go a (netted l z y w) = net_is found f.names s (table_end (name_end s) from n) finds a (let h = names_first in omega arith) z y ∙ sym w

  onward_is : (i : ℕ) → i < n → onward found s names nets i ≡ next f i
  unfolding onward next
  onward_is i h = λ j. children_are i h j ++ nets_from i j

  -- ---- what the code marks

  reached_is : (es : List ℕ) → reached s es (replicate 1024 false) ≡ from_entries (onward found s names nets) es (replicate 1024 false)
  unfolding reached with_names
  reached_is es =
      let a = names_there in
      let c = nets_there in
      let w : within s (name_count_at s) ≡ name_count_at s = omega arith in
      let v : within s q ≡ q = omega arith in
      let w' : within s (name_count_at s + 2) ≡ from = omega arith in
      let v' : within s (q + 2) ≡ q + 2 = omega arith in
      rw (w, v, w', v')

  -- the marks are those of what `reach` gives
  pub reached_marks : (es : List ℕ) → ((i : ℕ) → In i es → i < length f.names) → (i : ℕ)
      → get_or (reached s es (replicate 1024 false)) i false ≡ any (eqb i) (reach (length f.names) f (join [] es))
  reached_marks es h i =
      let c = stands.name_count in
      ap (λ (l : List Bool). get_or l i false) (reached_is es)
      ∙ subst (λ (j : ℕ). get_or (from_entries (onward found s names nets) es (replicate 1024 false)) i false ≡ any (eqb i) (reach j f (join [] es))) (sym c)
      (marks_exact f es n few (λ x y r. let l = next_below f tables x y r in omega arith) (onward found s names nets) onward_is (λ x r. let l = h x r in omega arith) i)
