-- The whole body of a file, where it stands: what `read_body` reads from place 5 on is `body_at`.
use Rattle.std.specs.Prelude.{ℕ, zero, suc, ◌+◌, ◌≤◌, ◌≡◌, refl, Bool, true, false, List, [], length, drop, eqb}
use Rattle.std.proofs.Common.{sym, ap, ◌∙◌, arith}
use Rattle.std.proofs.Math.Option.{Option, none, some}
use Rattle.net_file.specs.Values.{Name, Rule, File}
use Rattle.net_file.specs.Read.{Parser, ◌>>=◌, such, number, below, many, times_from, read_path, read_name, read_rule, limit_of, paths_fit, nodes_fit, read_body}
use Rattle.fields.specs.Fields.{be16, be32}
use Rattle.stored.specs.Stored.{table_at, table_end, path_at, path_end, name_at, name_end, rule_at, rule_end, name_count_at, rule_count_at, net_count_at}
use Rattle.stored.specs.Laws.{Stands, stands_bind, stands_such, stands_as, stands_2, stands_4, stands_times_from, stands_below, stands_many, table_length}
use Rattle.stored.specs.Parts.{stands_path, stands_name, stands_rule}

-- ---- what stands in a file over nets that stand as netAt and netEnd say

module _ (s : List ℕ) where
  unfoldable pub paths_at : List (List ℕ)
  paths_at = table_at (path_at s) (path_end s) 11 (be16 s 9)

  unfoldable pub names_at : List Name
  names_at = let m = name_count_at s in table_at (name_at s) (name_end s) (m + 2) (be16 s m)

  unfoldable pub rules_at : List Rule
  rules_at = let r = rule_count_at s in table_at (rule_at s) (rule_end s) (r + 2) (be16 s r)

module _ {Net : Type 0} (net_at : List ℕ → ℕ → Net) (net_end : List ℕ → ℕ → ℕ) (s : List ℕ) where
  unfoldable pub nets_at : List Net
  nets_at = let q = net_count_at s in table_at (net_at s) (net_end s) (q + 2) (be16 s q)

  unfoldable pub body_end : ℕ
  body_end = let q = net_count_at s in table_end (net_end s) (q + 2) (be16 s q)

  unfoldable pub body_at : File Net
  body_at = record { limit = limit_of (be32 s 5); paths = paths_at s; names = names_at s; rules = rules_at s; nets = nets_at }

-- ---- and it is what was read

-- nothing may be left over
stands_end : {A : Type 0} {s : List ℕ} {v : A} {at : ℕ} → Stands s (λ bs. such (eqb (length bs) 0) v bs) at v at
stands_end {A} {s} {v} {at} = record { by = λ x r i g. go (eqb (length (drop at s)) 0) x r i g }
  where
    go : (t : Bool) (x : A) (r : List ℕ) → at ≤ length s → such t v (drop at s) ≡ some (x, r) → (x ≡ v) × (r ≡ drop at s) × (at ≤ at) × (at ≤ length s)
    go t x r i g = (stands_such {s = s} t {a = v} {at = at}).by x r i g

pub paths_counted : (s : List ℕ) → length (paths_at s) ≡ be16 s 9
unfolding paths_at
paths_counted s = table_length s (path_at s) (path_end s) 11 (be16 s 9)

pub names_counted : (s : List ℕ) → length (names_at s) ≡ be16 s (name_count_at s)
unfolding names_at
names_counted s = table_length s (name_at s) (name_end s) (name_count_at s + 2) (be16 s (name_count_at s))

module _ {Net : Type 0} (read_net : ℕ → ℕ → Parser Net) (nodes : Net → ℕ) (net_at : List ℕ → ℕ → Net) (net_end : List ℕ → ℕ → ℕ) (s : List ℕ)
    (h : (paths names at : ℕ) → Stands s (read_net paths names) at (net_at s at) (net_end s at)) where
  pub stands_body : Stands s (read_body read_net nodes) 5 (body_at net_at net_end s) (body_end net_at net_end s)
  unfolding read_body body_at body_end paths_at names_at rules_at nets_at name_count_at rule_count_at net_count_at
  stands_body =
      stands_bind _ (stands_4 s 5)
      (stands_bind _ (stands_many s 2 65535 read_path (path_at s) (path_end s) 9 _ _ (stands_2 s 9) (stands_path s))
      (stands_bind _ (stands_such (paths_fit (paths_at s)))
      (stands_bind _ (stands_below s 2 1025 _ _ _ (stands_2 s _))
      (stands_bind _ (stands_times_from s (read_name _) (name_at s) (name_end s) (λ i. stands_name s _ i) 0 _ _)
      (stands_bind _ (stands_many s 2 64 (read_rule _) (rule_at s) (rule_end s) _ _ _ (stands_2 s _) (stands_rule s _))
      (stands_bind _ (stands_many s 2 256 (read_net _ _) (net_at s) (net_end s) _ _ _ (stands_2 s _) (h _ _))
      (stands_bind _ (stands_such (nodes_fit nodes (nets_at net_at net_end s)))
      stands_end)))))))
