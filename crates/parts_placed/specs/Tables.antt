-- The tables of an accepted file: paths, names, rules and nets, one after another.
use Rattle.std.specs.Prelude.{ℕ, ◌+◌, ◌≤◌, ◌≡◌, refl}
use Rattle.std.proofs.Math.Path.{sym, ap}
use Rattle.std.proofs.Common.{◌∙◌}
use mathlib.Core.List.{List, ◌++◌, append_assoc}
use native.Mathlib.Omega.{arith}
use Rattle.std.proofs.Math.ListN.{length, drop, length-append}
use Rattle.net_file.specs.Lists.{ok, concat_map}
use Rattle.net_file.specs.Values.{Name, Rule, FlatNet, File}
use Rattle.net_file.specs.Read.{Parser, read_path, read_name, read_rule}
use Rattle.net_file.specs.Write.{be, counted, write_path, write_name, write_rule, write_flat_net, limit_number, write_body}
use Rattle.net_file.specs.Checks.{flat, read, write}
use Rattle.net_file_laws.specs.Bytes.{Bytes, length_be}
use Rattle.net_file_laws.specs.Exact.{Exact, exact_below, exact_times_from, exact_many, Each, EachFrom}
use Rattle.net_file_laws.specs.Parts.{exact_path, exact_name, NameFits}
use Rattle.net_file_laws.specs.Rules.{exact_rule}
use Rattle.net_file_laws.specs.Flat.{FlatNetFits, exact_flat_net}
use Rattle.net_file_laws.specs.Body.{TablesFit, after_version, body_written}
use Rattle.net_file_laws.specs.RoundTrip.{FileFits, Spells}
use Rattle.net_file_laws.proofs.RoundTrip.{flat_write_read}
use Rattle.fields.specs.Fields.{byte, be16}
use Rattle.stored.specs.Stored.{table_at, table_end, path_at, path_end, name_at, name_end, rule_at, rule_end, flat_net_at, flat_net_end, name_count_at, rule_count_at, net_count_at}
use Rattle.stored.specs.Laws.{Stands, stands_2, stands_below, stands_many, stands_times_from, table_length}
use Rattle.stored.specs.Parts.{stands_path, stands_name, stands_rule, stands_net}
use Rattle.parts_placed.specs.Spans.{Spans, spans_front, spans_then, Found, found}

module _ (s : List ℕ) (is : Bytes s) (f : File FlatNet) (ok_f : read flat s ≡ ok f) where
  fits : TablesFit flat FlatNetFits f
  fits = (flat_write_read s is f ok_f).fits.tables

  -- all that follows the limit
  tables : List ℕ
  tables = counted 2 write_path f.paths ++ (counted 2 write_name f.names ++ (counted 2 write_rule f.rules ++ counted 2 write_flat_net f.nets))

  -- length, version and limit take nine bytes
  bytes_are : s ≡ be 4 (length (write_body 1 write_flat_net f)) ++ (be 1 1 ++ (be 4 (limit_number f.limit) ++ tables))
  unfolding write after_version tables
  bytes_are =
      sym (flat_write_read s is f ok_f).bytes ∙ ap (λ (b : List ℕ). be 4 (length (write_body 1 write_flat_net f)) ++ b) (body_written flat f)

  after_head : Spans s 0 9 (be 4 (length (write_body 1 write_flat_net f)) ++ (be 1 1 ++ be 4 (limit_number f.limit))) × (tables ≡ drop 9 s)
  after_head =
      let head = be 4 (length (write_body 1 write_flat_net f)) ++ (be 1 1 ++ be 4 (limit_number f.limit)) in
      let l : length head ≡ 9 = length-append (be 4 (length (write_body 1 write_flat_net f))) (be 1 1 ++ be 4 (limit_number f.limit))
      ∙ (let a = length_be 4 (length (write_body 1 write_flat_net f)) in let b = length_be 1 1 in let c = length_be 4 (limit_number f.limit) in
      let d = length-append (be 1 1) (be 4 (limit_number f.limit)) in omega arith) in
      let e : drop 0 s ≡ head ++ tables = bytes_are ∙ simp append_assoc in
      let z = spans_front s 0 head tables (omega arith) e in
      rw l at z

  -- the paths, up to the count of names
  path_table : Found s 9 (counted 2 write_path f.paths) (counted 2 write_name f.names ++ (counted 2 write_rule f.rules ++ counted 2 write_flat_net f.nets))
      f.paths (table_at (path_at s) (path_end s) 11 (be16 s 9)) (name_count_at s)
  unfolding name_count_at tables
  path_table =
      found s 9 f.paths _ _ _ (exact_many exact_path 2 65535 (omega arith)) (fits.few_paths, fits.paths)
      (stands_many s 2 65535 read_path (path_at s) (path_end s) 9 _ _ (stands_2 s 9) (stands_path s)) after_head.0.inside (sym after_head.1)

  names_end : length f.names ≡ be16 s (name_count_at s) → table_end (name_end s) (name_count_at s + 2) (length f.names) ≡ rule_count_at s
  unfolding rule_count_at
  names_end e = ap (table_end (name_end s) (name_count_at s + 2)) e

  -- the count of names, the names
  name_table : Spans s (name_count_at s) (rule_count_at s) (counted 2 write_name f.names) × (drop (rule_count_at s) s ≡ counted 2 write_rule f.rules ++ counted 2 write_flat_net f.nets)
  unfolding counted
  name_table =
      let m = name_count_at s in
      let n = length f.names in
      let rest = counted 2 write_rule f.rules ++ counted 2 write_flat_net f.nets in
      let few = fits.few_names in
      let few_paths = fits.few_paths in
      let one = found s m n (be16 s m) (m + 2) (concat_map write_name f.names ++ rest) (exact_below 2 1025 (omega arith)) (omega arith) (stands_below s 2 1025 m _ _ (stands_2 s m))
      path_table.spans.inside (sym path_table.rest ∙ append_assoc (be 2 n) (concat_map write_name f.names) rest) in
      let end : table_end (name_end s) (m + 2) n ≡ rule_count_at s = names_end one.value in
      let all = found s (m + 2) f.names _ _ rest (exact_times_from 1025 (λ i h. exact_name (length f.paths) i (omega arith) (omega arith)) 0 n (omega arith)) (refl, fits.names)
      (stands_times_from s (read_name (length f.paths)) (name_at s) (name_end s) (λ i. stands_name s (length f.paths) i) 0 n (m + 2)) one.spans.inside (sym one.rest) in
      (spans_then s m (m + 2) (rule_count_at s) (be 2 n) (concat_map write_name f.names) one.spans (rw end at all.spans), sym (rw end at all.rest))

  -- the count of rules, the rules
  rule_table : Found s (rule_count_at s) (counted 2 write_rule f.rules) (counted 2 write_flat_net f.nets) f.rules (table_at (rule_at s) (rule_end s) (rule_count_at s + 2) (be16 s (rule_count_at s))) (net_count_at s)
  unfolding net_count_at
  rule_table =
      let few_paths = fits.few_paths in
      let r = rule_count_at s in
      found s r f.rules _ _ _ (exact_many (exact_rule (length f.paths) (omega arith)) 2 64 (omega arith)) (fits.few_rules, fits.rules)
      (stands_many s 2 64 (read_rule (length f.paths)) (rule_at s) (rule_end s) r _ _ (stands_2 s r) (stands_rule s (length f.paths))) name_table.0.inside name_table.1

  -- the count of nets
  net_count_lem : Found s (net_count_at s) (be 2 (length f.nets)) (concat_map write_flat_net f.nets) (length f.nets) (be16 s (net_count_at s)) (net_count_at s + 2)
  unfolding counted
  net_count_lem =
      let few = fits.few_nets in
      found s (net_count_at s) (length f.nets) _ _ _ (exact_below 2 257 (omega arith)) (omega arith) (stands_below s 2 257 (net_count_at s) _ _ (stands_2 s (net_count_at s)))
      rule_table.spans.inside (sym rule_table.rest)

  -- ---- what a copy takes

  -- the paths
  pub paths_span : Spans s 11 (name_count_at s) (concat_map write_path f.paths)
  unfolding counted
  paths_span =
      let n = be 2 (length f.paths) in
      let xs = concat_map write_path f.paths in
      let p = path_table.spans in
      let one : length n ≡ 2 = length_be 2 (length f.paths) in
      let e : drop 9 s ≡ n ++ (xs ++ drop (name_count_at s) s) = p.is ∙ append_assoc n xs (drop (name_count_at s) s) in
      let z = spans_front s 9 n (xs ++ drop (name_count_at s) s) after_head.0.inside e in
      let l = length-append n xs in
      let k : 9 + length n ≡ 11 = omega arith in
      record { end = let i = p.end in omega arith; inside = p.inside; is = sym (rw k at z.1) }

  pub paths_count : length f.paths ≡ be16 s 9
  paths_count = ap (λ (l : List (List ℕ)). length l) path_table.value ∙ table_length s (path_at s) (path_end s) 11 (be16 s 9)

  pub paths_are : f.paths ≡ table_at (path_at s) (path_end s) 11 (be16 s 9)
  paths_are = path_table.value

  -- names and rules with their counts, and the count of nets
  pub tables_span : Spans s (name_count_at s) (net_count_at s + 2) (counted 2 write_name f.names ++ (counted 2 write_rule f.rules ++ be 2 (length f.nets)))
  tables_span =
      spans_then s (name_count_at s) (rule_count_at s) (net_count_at s + 2) _ _ name_table.0
      (spans_then s (rule_count_at s) (net_count_at s) (net_count_at s + 2) _ _ rule_table.spans net_count_lem.spans)

  pub nets_count : length f.nets ≡ be16 s (net_count_at s)
  nets_count = net_count_lem.value

  -- the nets, to the last byte
  pub nets_are : drop (net_count_at s + 2) s ≡ concat_map write_flat_net f.nets
  nets_are = sym net_count_lem.rest

  pub nets_fit : Each (FlatNetFits (length f.paths) (length f.names)) f.nets
  nets_fit = fits.nets

  -- one net, where others follow
  pub net_found : (a : ℕ) (t : FlatNet) (r : List ℕ) → FlatNetFits (length f.paths) (length f.names) t → a ≤ length s → drop a s ≡ write_flat_net t ++ r
      → Found s a (write_flat_net t) r t (flat_net_at s a) (flat_net_end s a)
  net_found a t r h i d =
      let few_paths = fits.few_paths in
      let few_names = fits.few_names in
      found s a t _ _ r (exact_flat_net (length f.paths) (length f.names) (omega arith) (omega arith)) h (stands_net s (length f.paths) (length f.names) a) i d
