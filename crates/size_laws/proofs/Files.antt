-- How long a file can be: whatever fits is shorter than the length field can say, so the length needs no condition of its own.
use Rattle.std.specs.Prelude.{ℕ, zero, suc, ◌+◌, ◌*◌, ◌^◌, ◌≤◌, ◌<◌, ◌≡◌, refl, List, [], ◌∷◌, ◌++◌, map}
use Rattle.std.proofs.Common.{arith, mul-suc}
use Rattle.std.proofs.Math.ListN.{length, length-append}
use Rattle.net_file.specs.Lists.{concat_map, sum}
use Rattle.net_file.specs.Values.{Name, Rule, FlatNet, File}
use Rattle.net_file.specs.Checks.{Version, flat}
use Rattle.net_file.specs.Write.{be, counted, write_path, write_name, write_rule, write_flat_net, write_body, limit_number}
use Rattle.net_file_laws.specs.Exact.{Each, EachFrom}
use Rattle.net_file_laws.specs.Parts.{PathFits, NameFits}
use Rattle.net_file_laws.specs.Rules.{RuleFits}
use Rattle.net_file_laws.specs.Flat.{FlatNetFits}
use Rattle.net_file_laws.specs.Body.{LimitFits, TablesFit}
use Rattle.net_file_laws.specs.RoundTrip.{FileFits}
use Rattle.size_laws.specs.Parts.{be_length, both_size, three_size, number_size, counted_size, path_size, name_size, rule_size}
use Rattle.size_laws.proofs.Parts.{flat_net_size}

-- the table of names: each has children below its own number
names_size : (paths i : ℕ) (ms : List Name) → EachFrom (NameFits paths) i ms → length (concat_map write_name ms) ≤ 27 * length ms
names_size paths i [] h = omega arith
names_size paths i (m ∷ ms) h =
    omega (arith, length-append (write_name m) (concat_map write_name ms), name_size paths i m h.0, names_size paths (suc i) ms h.1, mul-suc 27 (length ms))

module _ {Net : Type 0} (v : Version Net) (NetFits : ℕ → ℕ → Net → Type 0) (f : File Net) (t : TablesFit v NetFits f) where
  tables_size : length (be 1 v.version ++ be 4 (limit_number f.limit) ++ counted 2 write_path f.paths ++ counted 2 write_name f.names ++ counted 2 write_rule f.rules) ≤ 4385610
  unfolding counted
  tables_size =
      let a = be 1 v.version in
      let b = be 4 (limit_number f.limit) in
      let c = counted 2 write_path f.paths in
      let d = counted 2 write_name f.names in
      let e = counted 2 write_rule f.rules in
      let dn : length d ≤ 27650 = omega (arith, length-append (be 2 (length f.names)) (concat_map write_name f.names), be_length 2 (length f.names), names_size (length f.paths) 0 f.names t.names, t.few_names) in
      both_size (a ++ b ++ c ++ d) e 4287432 98178
      (both_size (a ++ b ++ c) d 4259782 27650
      (three_size a b c 1 4 4259777 (number_size 1 v.version) (number_size 4 (limit_number f.limit))
      (counted_size write_path PathFits 65 path_size 2 65535 f.paths t.few_paths t.paths))
      dn)
      (counted_size write_rule (RuleFits (length f.paths)) 1534 (rule_size (length f.paths)) 2 64 f.rules t.few_rules t.rules)

  -- nets of so many bytes together
  pub body_size : (k : ℕ) → length (counted 2 v.write_net f.nets) ≤ k → length (write_body v.version v.write_net f) ≤ 4385610 + k
  unfolding write_body
  body_size k h =
      both_size (be 1 v.version ++ be 4 (limit_number f.limit) ++ counted 2 write_path f.paths ++ counted 2 write_name f.names ++ counted 2 write_rule f.rules)
      (counted 2 v.write_net f.nets) 4385610 k tables_size h

-- a flat file has less than 135 million bytes
pub flat_fits : (f : File FlatNet) → LimitFits f.limit → TablesFit flat FlatNetFits f → FileFits flat FlatNetFits f
flat_fits f l t = record { limit = l; tables = t; size = omega (arith, body_size flat FlatNetFits f t 130032642 nets) }
  where
    nets : length (counted 2 write_flat_net f.nets) ≤ 130032642
    nets = counted_size write_flat_net (FlatNetFits (length f.paths) (length f.names)) 507940 (flat_net_size (length f.paths) (length f.names)) 2 256 f.nets t.few_nets t.nets
