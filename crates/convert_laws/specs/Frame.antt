-- The bytes of a result: its length, its version, limit, tables and rules as they stand in the file, the count of its nets, its nets.
-- Document 01: "Rules, marks and tables stay". For either version on both sides.
use Rattle.std.specs.Prelude.{ℕ, ◌+◌, ◌≡◌, refl, List, [], ◌∷◌, ◌++◌, map, length}
use Rattle.std.proofs.Math.Path.{sym, ap}
use Rattle.std.proofs.Common.{◌∙◌, append_assoc}
use Rattle.net_file.specs.Lists.{Result, ok, refuse}
use Rattle.net_file.specs.Values.{File}
use Rattle.net_file.specs.Write.{be, counted, write_path, write_name, write_rule, limit_number, write_body}
use Rattle.net_file.specs.Checks.{Version, read, write}
use Rattle.net_file_laws.specs.Bytes.{Bytes}
use Rattle.conversions.specs.Convert.{◌>>=◌}
use Rattle.conversions.specs.Calls.{map_nets, convert}
use Rattle.stored.specs.Laws.{Stands}
use Rattle.stored.specs.Body.{nets_at, body_at}
use Rattle.readers_laws.specs.Reads.{read_stands}
use Rattle.convert_laws.specs.Tables.{tables_at, write_tables, tables_stand}

-- a file with other nets; limit, tables and rules stay
unfoldable pub with_nets : {A B : Type 0} → File A → List B → File B
with_nets x ns = record { limit = x.limit; paths = x.paths; names = x.names; rules = x.rules; nets = ns }

-- what a result is before its nets' count, after its length: its version, and what stands in the file
unfoldable pub after_length : List ℕ → ℕ → List ℕ
after_length s version = be 1 version ++ tables_at s

-- a whole result, of the nets' bytes with their count
unfoldable pub framed : List ℕ → ℕ → List ℕ → List ℕ
framed s version nets = be 4 (length (after_length s version ++ nets)) ++ (after_length s version ++ nets)

-- ---- the nets of a conversion

module _ {A B : Type 0} (f : A → Result B) (x : File A) where
  pub convert_done : (ns : List B) → map_nets f x.nets ≡ ok ns → convert f x ≡ ok (with_nets x ns)
  unfolding convert with_nets
  convert_done ns e = rw e

  pub convert_stops : (r : ℕ) → map_nets f x.nets ≡ refuse r → convert f x ≡ refuse r
  unfolding convert
  convert_stops r e = rw e

-- a conversion that never refuses
pub map_nets_lem : {A B : Type 0} (g : A → B) (ns : List A) → map_nets (λ n. ok (g n)) ns ≡ ok (map g ns)
unfolding map_nets
map_nets_lem g [] = refl
map_nets_lem g (n ∷ ns) = rw (map_nets_lem g ns)

-- ---- the bytes

body_tables : {A B : Type 0} (w : Version B) (x : File A) (ns : List B)
    → write_body w.version w.write_net (with_nets x ns) ≡ be 1 w.version ++ (write_tables x ++ counted 2 w.write_net ns)
unfolding write_body write_tables with_nets
body_tables w x ns = simp append_assoc

module _ {A : Type 0} (v : Version A) (net_at : List ℕ → ℕ → A) (net_end : List ℕ → ℕ → ℕ) (s : List ℕ)
    (h : (paths names at : ℕ) → Stands s (v.read_net paths names) at (net_at s at) (net_end s at)) (bytes : Bytes s) (x : File A) (e : read v s ≡ ok x) where
  -- the nets of the file are those that stand in it
  pub nets_stand : x.nets ≡ nets_at net_at net_end s
  unfolding body_at
  nets_stand = ap (λ (y : File A). y.nets) (read_stands v net_at net_end s h x e)

  -- what is written of the file with other nets
  pub frame_written : {B : Type 0} (w : Version B) (ns : List B) → write w (with_nets x ns) ≡ framed s w.version (counted 2 w.write_net ns)
  unfolding write framed after_length
  frame_written w ns =
      let t = tables_stand v net_at net_end s h bytes x e in
      let b = body_tables w x ns ∙ ap (λ t. be 1 w.version ++ (t ++ counted 2 w.write_net ns)) t ∙ sym (append_assoc (be 1 w.version) (tables_at s) (counted 2 w.write_net ns)) in
      ap (λ b. be 4 (length b) ++ b) b
