-- The whole result measured: as many nodes and bytes as level Engine's result has.
use Rattle.std.specs.Prelude.{ℕ, suc, ◌+◌, ◌-◌, ◌%◌, ◌<◌, ◌≡◌, ◌≢◌, Bool, ◌||◌, drop}
use Rattle.std.proofs.Math.Path.{refl, ap}
use Rattle.std.proofs.Common.{◌∙◌, true≢false, eq-eqb, ne_eqb}
use Rattle.std.proofs.Math.Decide.{ℕ_discrete}
use native.Mathlib.Omega.{arith}
use Rattle.std.proofs.Math.Bool.{true, false}
use Rattle.std.proofs.lemmas.Bool.{false≢true}
use Rattle.std.proofs.Math.Option.{Option}
use mathlib.Core.List.{List, [], ◌∷◌, ◌++◌, map}
use Rattle.std.proofs.Math.ListN.{length, length-append}
use Rattle.std.proofs.Math.Dec.{eqb}
use Rattle.words.specs.Choose.{pick, if_eq, eq_yes, eq_no, pick_true, pick_false}
use Rattle.layout.specs.Layout.{nets}
use Rattle.net_file.specs.Lists.{ok, any, eqs, concat_map, sum}
use Rattle.net_file.specs.Values.{Name, Rule, FlatNet, File, free_path}
use Rattle.net_file.specs.Read.{times, read_path}
use Rattle.net_file.specs.Write.{be, counted, write_path, write_name, write_rule, write_flat_net, limit_number, write_body}
use Rattle.net_file.specs.Checks.{flat, read, write}
use Rattle.net_file_laws.specs.Bytes.{Bytes, length_be}
use Rattle.net_file_laws.specs.Exact.{Exact, exact_times}
use Rattle.net_file_laws.specs.Parts.{exact_path}
use Rattle.net_file_laws.specs.Body.{TablesFit, after_version, body_written}
use Rattle.net_file_laws.specs.RoundTrip.{FileFits, Spells}
use Rattle.net_file_laws.proofs.RoundTrip.{flat_write_read}
use Rattle.fields.specs.Fields.{be16}
use Rattle.stored.specs.Stored.{name_count_at, net_count_at}
use Rattle.ends.specs.Ends.{within}
use Rattle.free_path.specs.FreePath.{free_number}
use Rattle.free_laws.specs.Paths.{free_index, number_exact}
use Rattle.definitions.specs.Lists.{keep}
use Rattle.definitions.specs.State.{Net, Pools, Engine, graph_of}
use Rattle.definitions.specs.Load.{with_free_path, included}
use Rattle.definitions.specs.Finish.{finish_net, result}
use Rattle.means.specs.Means.{Header, Means}
use Rattle.parts_placed.specs.Spans.{Spans}
use Rattle.parts_placed.specs.Tables.{paths_span, paths_count, tables_span, nets_count, nets_are, nets_fit}
use Rattle.measure.specs.Measure.{plus, slots_size, path_joins, with_path, measure}
use Rattle.measure.specs.declared.Size.{Size}
use Rattle.measure_means.specs.Sums.{total}
use Rattle.measure_means.specs.Slots.{Counts, counts_plus, node_length, net_total, Marked, slots_size_is}
use Rattle.measure_means.specs.Lengths.{Lists}
use Rattle.measure_means.specs.Nets.{Follows, all, anew, kept, counted_nodes, counted_bytes, nets_size_is, nets_bytes, nets_nodes_lem}

-- ---- the free path

-- the paths ps come out as they are, or with the free path
pub data Joins (ps : List (List ℕ)) : Bool → List (List ℕ) → Type 0 where
  stays : Joins ps false ps
  joins : Joins ps true (ps ++ free_path ∷ [])

index_most : (ps : List (List ℕ)) → any (eqs free_path) ps ≡ false → free_index ps ≡ length ps
unfolding free_index pick
index_most [] h = refl
index_most (p ∷ ps) h = go (eqs free_path p) h (index_most ps)
  where
    go : (t : Bool) → (t || any (eqs free_path) ps) ≡ false → (any (eqs free_path) ps ≡ false → free_index ps ≡ length ps) → pick t 0 (suc (free_index ps)) ≡ suc (length ps)
    go true e r = absurd (true≢false e)
    go false e r = ap suc (r e)

index_less : (ps : List (List ℕ)) → any (eqs free_path) ps ≡ true → free_index ps < length ps
unfolding free_index pick
index_less [] h = absurd (false≢true h)
index_less (p ∷ ps) h = go (eqs free_path p) h (index_less ps)
  where
    go : (t : Bool) → (t || any (eqs free_path) ps) ≡ true → (any (eqs free_path) ps ≡ true → free_index ps < length ps) → pick t 0 (suc (free_index ps)) < suc (length ps)
    go true e r = omega arith
    go false e r = let a = r e in omega arith

-- as many are included as the engine has
follows_count : (e : Engine) (k : ℕ) (ts : List FlatNet) → Follows e k ts → k + length (keep (λ (t : FlatNet). t.included) ts) ≡ length e.nets
follows_count e k [] all = omega arith
follows_count e k (t ∷ ts) (anew m h i a r) = rw m (let z = follows_count e (suc k) ts r in omega arith)
follows_count e k (t ∷ ts) (kept m h r) = rw m (follows_count e k ts r)

module _ (Named : ℕ → Name → Type 0) (ws s : List ℕ) (is : Bytes s) (f : File FlatNet) (ok_f : read flat s ≡ ok f) (e : Engine) (m : Means Named ws e) (follows : Follows e 0 f.nets) where
  number_is : free_number s 11 (be16 s 9) ≡ free_index f.paths
  number_is =
      let p = paths_span s is f ok_f in
      let fits = (flat_write_read s is f ok_f).fits.tables in
      let h = p.inside in
      let k = p.end in
      number_exact s 11 (be16 s 9) f.paths (drop (name_count_at s) s)
      (ap (times (be16 s 9) read_path) p.is ∙ (exact_times exact_path (be16 s 9)).reads f.paths (paths_count s is f ok_f, fits.paths) (drop (name_count_at s) s)) (omega arith)

  pub path_joins_is : Joins f.paths (path_joins ws s) (result f e).paths
  unfolding path_joins result included with_free_path
  path_joins_is = go (keep (λ (t : FlatNet). t.included) f.nets) (follows_count e 0 f.nets follows)
    where
      joining : (t : Bool) → any (eqs free_path) f.paths ≡ t → nets ws ≢ 0
          → Joins f.paths (if_eq (nets ws) 0 false (eqb (free_number s 11 (be16 s 9)) (be16 s 9))) (elim t as (λ _. List (List ℕ)) [ true ↦ f.paths | false ↦ f.paths ++ free_path ∷ [] ])
      joining true h n =
          let l = index_less f.paths h in
          let c = paths_count s is f ok_f in
          let z : eqb (free_number s 11 (be16 s 9)) (be16 s 9) ≡ false = rw (number_is) (ne_eqb (free_index f.paths) (be16 s 9) (omega arith)) in
          rw (← eq_no (nets ws) 0 false (eqb (free_number s 11 (be16 s 9)) (be16 s 9)) n refl, z) stays
      joining false h n =
          let l = index_most f.paths h in
          let c = paths_count s is f ok_f in
          let z : eqb (free_number s 11 (be16 s 9)) (be16 s 9) ≡ true = rw (number_is) (eq-eqb (free_index f.paths) (be16 s 9) (omega arith)) in
          rw (← eq_no (nets ws) 0 false (eqb (free_number s 11 (be16 s 9)) (be16 s 9)) n refl, z) joins

      go : (ts : List FlatNet) → 0 + length ts ≡ length e.nets
          → Joins f.paths (if_eq (nets ws) 0 false (eqb (free_number s 11 (be16 s 9)) (be16 s 9)))
          (elim ts as (λ _. List (List ℕ)) [ [] ↦ f.paths | t ∷ us ↦ elim (any (eqs free_path) f.paths) as (λ _. List (List ℕ)) [ true ↦ f.paths | false ↦ f.paths ++ free_path ∷ [] ] ])
      go [] h = let n = m.header.nets_are in rw (← eq_yes (nets ws) 0 false (eqb (free_number s 11 (be16 s 9)) (be16 s 9)) (omega arith) refl) stays
      go (t ∷ us) h = let n = m.header.nets_are in joining (any (eqs free_path) f.paths) refl (omega arith)

-- ---- the result

concat_last : (ps : List (List ℕ)) (p : List ℕ) → length (concat_map write_path (ps ++ p ∷ [])) ≡ length (concat_map write_path ps) + length (write_path p)
concat_last [] p = length-append (write_path p) [] ∙ (let z : length (write_path p) + 0 ≡ 0 + length (write_path p) = omega arith in z)
concat_last (q ∷ ps) p =
    let a = length-append (write_path q) (concat_map write_path (ps ++ p ∷ [])) in
    let b = length-append (write_path q) (concat_map write_path ps) in
    let c = concat_last ps p in
    omega arith

-- a file's bytes, by its parts
pub write_long : (r : File FlatNet) → length (write flat r)
    ≡ 11 + length (concat_map write_path r.paths) + (length (counted 2 write_name r.names) + (length (counted 2 write_rule r.rules) + (2 + length (concat_map write_flat_net r.nets))))
unfolding write after_version counted
write_long r =
    let paths = be 2 (length r.paths) ++ concat_map write_path r.paths in
    let names = counted 2 write_name r.names in
    let rules = counted 2 write_rule r.rules in
    let ns = be 2 (length r.nets) ++ concat_map write_flat_net r.nets in
    let limit = be 4 (limit_number r.limit) in
    let body : length (write_body 1 write_flat_net r) ≡ length (be 1 1 ++ (limit ++ (paths ++ (names ++ (rules ++ ns))))) = ap (λ (l : List ℕ). length l) (body_written flat r) in
    let a1 = length-append (be 4 (length (write_body 1 write_flat_net r))) (write_body 1 write_flat_net r) in
    let a2 = length-append (be 1 1) (limit ++ (paths ++ (names ++ (rules ++ ns)))) in
    let a3 = length-append limit (paths ++ (names ++ (rules ++ ns))) in
    let a4 = length-append paths (names ++ (rules ++ ns)) in
    let a5 = length-append names (rules ++ ns) in
    let a6 = length-append rules ns in
    let a7 = length-append (be 2 (length r.paths)) (concat_map write_path r.paths) in
    let a8 = length-append (be 2 (length r.nets)) (concat_map write_flat_net r.nets) in
    let b1 = length_be 4 (length (write_body 1 write_flat_net r)) in
    let b2 = length_be 1 1 in
    let b3 = length_be 4 (limit_number r.limit) in
    let b4 = length_be 2 (length r.paths) in
    let b5 = length_be 2 (length r.nets) in
    omega arith

-- the free path takes sixteen bytes
module _ (ws s : List ℕ) (size : Size) (a b : ℕ) (c : Counts size a b) where
  joined_size : (t : Bool) (ps qs : List (List ℕ)) → path_joins ws s ≡ t → Joins ps t qs
      → Counts (with_path ws s size) a (b + length (concat_map write_path qs) - length (concat_map write_path ps))
  unfolding with_path write_path counted be
  joined_size false ps qs h stays = rw (← pick_false (path_joins ws s) (plus size 0 16) size h refl)
      (record { nodes_are = c.nodes_are; bytes_are = let e = c.bytes_are in omega arith })
  joined_size true ps qs h joins =
      let p = counts_plus 0 16 c in
      let l : length (concat_map write_path (ps ++ free_path ∷ [])) ≡ length (concat_map write_path ps) + 16 = concat_last ps free_path in
      rw (← pick_true (path_joins ws s) (plus size 0 16) size h refl)
      (record { nodes_are = let i = p.nodes_are in omega arith; bytes_are = let i = p.bytes_are in omega arith })

module _ (Named : ℕ → Name → Type 0) (ws s : List ℕ) (is : Bytes s) (f : File FlatNet) (ok_f : read flat s ≡ ok f) (e : Engine) (m : Means Named ws e) (follows : Follows e 0 f.nets)
    (mark : Marked ws s e) (lists : (k : ℕ) → k < length e.nets → Lists e k) where
  pub measured_is : Counts (measure ws s) (sum (map (λ (t : FlatNet). length t.nodes) (result f e).nets)) (length (write flat (result f e)))
  unfolding measure result
  measured_is =
      let t = tables_span s is f ok_f in
      let q = net_count_at s in
      let from = net_count_at s + 2 in
      let inside = t.inside in
      let e1 : within s q ≡ q = omega arith in
      let e2 : within s (q + 2) ≡ from = omega arith in
      let slots = counts_plus 0 from (slots_size_is Named ws s e m mark) in
      let nets' = nets_size_is s is f ok_f f.nets from (plus (slots_size ws s) 0 from) _ _ (nets_fit s is f ok_f) inside (nets_are s is f ok_f) slots in
      let all = joined_size ws s _ _ _ nets' (path_joins ws s) f.paths (result f e).paths refl (path_joins_is Named ws s is f ok_f e m follows) in
      let bytes = nets_bytes e lists 0 f.nets follows in
      let nodes = nets_nodes_lem e lists 0 f.nets follows in
      let long = write_long (result f e) in
      let p = (paths_span s is f ok_f).end in
      let l1 = length-append (counted 2 write_name f.names) (counted 2 write_rule f.rules ++ be 2 (length f.nets)) in
      let l2 = length-append (counted 2 write_rule f.rules) (be 2 (length f.nets)) in
      let l3 = length_be 2 (length f.nets) in
      let end = t.end in
      rw (e1, e2, ← nets_count s is f ok_f) (record {
        nodes_are = all.nodes_are ∙ ap (λ (n : ℕ). n % 18446744073709551616)
            (let z : sum (map counted_nodes f.nets) + (0 + total (net_total e (λ _. 1)) (length e.nets)) ≡ sum (map (λ (t : FlatNet). length t.nodes) (map (finish_net e) f.nets)) = omega arith in z);
        bytes_are = all.bytes_are ∙ ap (λ (n : ℕ). n % 18446744073709551616)
            (let z : sum (map counted_bytes f.nets) + (from + total (net_total e (node_length (graph_of e))) (length e.nets)) + length (concat_map write_path (result f e).paths) - length (concat_map write_path f.paths)
            ≡ length (write flat (result f e)) = omega arith in z);
      })

  -- where 64 bits are enough, exactly so many
  pub measured_exactly : sum (map (λ (t : FlatNet). length t.nodes) (result f e).nets) < 18446744073709551616 → length (write flat (result f e)) < 18446744073709551616
      → ((measure ws s).nodes ≡ sum (map (λ (t : FlatNet). length t.nodes) (result f e).nets)) × ((measure ws s).bytes ≡ length (write flat (result f e)))
  measured_exactly few small = let c = measured_is in let a = c.nodes_are in let b = c.bytes_are in (omega arith, omega arith)
