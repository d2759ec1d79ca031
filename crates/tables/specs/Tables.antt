-- The tables before the nets, and each way out of the walks over them.
use Rattle.std.specs.Prelude.{ℕ, ◌+◌, ◌-◌, ◌<◌, ◌≤◌, ◌≡◌, List, length, drop, Option, Some, None}
use Rattle.std.proofs.Math.Path.{sym, ap}
use Rattle.std.proofs.Common.{◌∙◌, arith, le-leb}
use Rattle.std.proofs.Math.Bool.{not}
use Rattle.std.proofs.lemmas.Bool.{lt-leb}
use Rattle.net_file.specs.Lists.{count, eqs}
use Rattle.net_file.specs.Values.{Name, free_path}
use Rattle.net_file.specs.Read.{Parser, ◌>>=◌, such, below, times, times_from, many, read_path, read_name, paths_fit}
use Rattle.fields.specs.Fields.{be16}
use Rattle.stored.specs.Stored.{table_at, path_at, path_end, name_count_at}
use Rattle.stored.specs.Laws.{Stands, stands_bind, stands_such, in_2, below_in, below_high, stands_2, stands_many, stands_times}
use Rattle.stored.specs.Parts.{stands_path}
use Rattle.stored.specs.Body.{paths_at}
use Rattle.walk.specs.After.{after, after_bind, after_stop, after_unfit, after_fit, after_check_bad, went}
use Rattle.walk.specs.Room.{needs_first, needs_below, after_short}
use Rattle.walk.specs.Walk.{many_2_short, many_2_high, many_2_on}
use Rattle.free_path.specs.FreePath.{others}
use Rattle.free_laws.specs.Paths.{others_exact}

-- the path table, of which at most 255 differ from the free path
unfoldable pub read_path_table : Parser (List (List ℕ))
read_path_table = many 2 65535 read_path >>= λ ps. such (paths_fit ps) ps

unfoldable pub read_name_table : ℕ → Parser (List Name)
read_name_table np = below 2 1025 >>= λ n. times_from (read_name np) 0 n

-- ---- the name table

module _ (s : List ℕ) (at np : ℕ) where
  pub names_short : length s < at + 2 → None ≡ after at (read_name_table np) s
  unfolding read_name_table
  names_short h = after_short s at (needs_first (λ n. times_from (read_name np) 0 n) (needs_below 2 1025)) h

  pub names_high : (k : ℕ) → 2 ≤ length s → at ≤ length s - 2 → k ≡ be16 s at → 1024 < k → None ≡ after at (read_name_table np) s
  unfolding read_name_table
  names_high k i h e l = after_stop (below 2 1025) (λ n. times_from (read_name np) 0 n) s at (omega arith) (below_high 2 1025 (drop at s) _ _ (in_2 s at (omega arith)) (omega arith))

  pub names_on : (k : ℕ) (w : Option ℕ) → 2 ≤ length s → at ≤ length s - 2 → k ≡ be16 s at → k ≤ 1024 → w ≡ after (at + 2) (times_from (read_name np) 0 k) s
      → w ≡ after at (read_name_table np) s
  unfolding read_name_table
  names_on k w i h e l ew =
      ew ∙ ap (λ n. after (at + 2) (times_from (read_name np) 0 n) s) e
      ∙ sym (after_bind (below 2 1025) (λ n. times_from (read_name np) 0 n) s at (be16 s at) (at + 2) (omega arith)
      (below_in 2 1025 (drop at s) _ _ (in_2 s at (omega arith)) (omega arith)) (omega arith))

-- ---- the path table

module _ (s : List ℕ) where
  -- the paths, where they stand
  stands_paths : Stands s (many 2 65535 read_path) 9 (paths_at s) (name_count_at s)
  unfolding paths_at name_count_at
  stands_paths = stands_many s 2 65535 read_path (path_at s) (path_end s) 9 _ _ (stands_2 s 9) (stands_path s)

  pub stands_path_table : Stands s read_path_table 9 (paths_at s) (name_count_at s)
  unfolding read_path_table
  stands_path_table = stands_bind _ stands_paths (stands_such (paths_fit (paths_at s)))

  pub path_table_short : length s < 11 → None ≡ after 9 read_path_table s
  unfolding read_path_table
  path_table_short h = after_check_bad (many 2 65535 read_path) paths_fit s 9 (many_2_short s read_path 9 65535 h)

  module _ (k : ℕ) (w : Option ℕ) (h : 11 ≤ length s) (e : k ≡ be16 s 9) (l : k < 65536) (ew : w ≡ after 11 (times k read_path) s) where
    counted : w ≡ after 9 (many 2 65535 read_path) s
    counted = many_2_on s read_path 9 65535 k w (omega arith) (omega arith) e (omega arith) ew

    pub path_table_bad : w ≡ None → None ≡ after 9 read_path_table s
    unfolding read_path_table
    path_table_bad b = after_check_bad (many 2 65535 read_path) paths_fit s 9 (sym b ∙ counted)

    module _ (m c : ℕ) (wa : w ≡ Some m) (ec : c ≡ others s 11 k) where
      -- the others are counted among what was read
      exactly : c ≡ count (λ p. not (eqs free_path p)) (paths_at s)
      unfolding paths_at
      exactly =
          let y = went w m (stands_times s read_path (path_at s) (path_end s) (stands_path s) k 11) ew wa in
          ec ∙ others_exact s 11 k _ _ y.read h ∙ ap (λ n. count (λ p. not (eqs free_path p)) (table_at (path_at s) (path_end s) 11 n)) e

      pub path_table_many : 255 < c → None ≡ after 9 read_path_table s
      unfolding read_path_table paths_fit
      path_table_many o = after_unfit (many 2 65535 read_path) paths_fit s 9 stands_paths w counted (lt-leb _ _ (rw exactly at o))

      pub path_table_on : c ≤ 255 → Some m ≡ after 9 read_path_table s
      unfolding read_path_table paths_fit
      path_table_on o = sym wa ∙ after_fit (many 2 65535 read_path) paths_fit s 9 stands_paths w counted (le-leb _ _ (rw exactly at o))

-- every way out, for the checks of the walks
pub ruleset ways = (names_short, names_high, names_on, path_table_short, path_table_bad, many_2_short, many_2_high, many_2_on)
