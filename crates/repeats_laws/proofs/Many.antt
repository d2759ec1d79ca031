-- A file has at most 255 paths besides the free one, so of more than 256 two are the same. So `differ` is right on every table
use Rattle.std.specs.Prelude.{ℕ, ◌≤◌, ◌≡◌, refl, true, List, length, drop}
use Rattle.std.proofs.Common.{sym, ap, ◌∙◌, arith}
use Rattle.std.proofs.Math.Option.{some}
use Rattle.std.proofs.Math.Decide.{dec_lt}
use Rattle.words.specs.Choose.{lt_yes}
use Rattle.net_file.specs.Lists.{distinct, eqs}
use Rattle.net_file.specs.Read.{times, read_path, paths_fit}
use Rattle.stored.specs.Stored.{path_at, path_end}
use Rattle.stored.specs.Laws.{stands_times, table_length}
use Rattle.stored.specs.Parts.{stands_path}
use Rattle.repeats.specs.declared.Item.TheVariants.{Path}
use Rattle.repeats.specs.Repeats.{differ}
use Rattle.repeats_laws.proofs.Paths.{paths_differ}
use Rattle.repeats_laws.specs.Many.{many_same}

-- of any number of paths
pub paths_differ_fit : (s : List ℕ) (at n : ℕ) (ps : List (List ℕ)) (r : List ℕ) → times n read_path (drop at s) ≡ some (ps, r)
    → at ≤ length s → paths_fit ps ≡ true → differ s at n Path ≡ distinct eqs ps
unfolding differ
paths_differ_fit s at n ps r e i h = elim (dec_lt 1024 n) [
  | yes l ↦
      let y = (stands_times s read_path (path_at s) (path_end s) (stands_path s) n at).by ps r i e in
      let z : length ps ≡ n = ap length y.0 ∙ table_length s (path_at s) (path_end s) at n in
      sym (lt_yes _ _ _ _ l refl) ∙ sym (many_same ps h (omega arith))
  | no l ↦ paths_differ s at n ps r e i (omega arith)
]
