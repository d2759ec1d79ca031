-- A table of paths that was read: `differ` tells whether the paths are pairwise different.
use Prim.Native.Nat.{ℕ, ◌+◌, ◌≤◌}
use Rattle.std.specs.Prelude.{◌≡◌, List, drop}
use Rattle.std.proofs.Math.Path.{sym, ap}
use Rattle.std.proofs.Common.{◌∙◌}
use Rattle.std.proofs.Math.Option.{some}
use Rattle.std.proofs.Math.ListN.{length}
use Rattle.net_file.specs.Lists.{distinct, eqs}
use Rattle.list_laws.specs.Tests.{same_test}
use Rattle.list_laws.specs.Lists.{eqs_true, eqs_eq}
use Rattle.net_file.specs.Read.{times, read_path}
use Rattle.fields.specs.Fields.{byte}
use Rattle.stored.specs.Stored.{bytes_at, path_at, path_end}
use Rattle.stored.specs.Laws.{stands_times}
use Rattle.stored.specs.Parts.{stands_path}
use Rattle.repeats.specs.declared.Item.TheVariants.{Path}
use Rattle.repeats.specs.Repeats.{differ}
use Rattle.repeats_laws.specs.Runs.{more, length_bytes, bytes_alike, alike_bytes}
use Rattle.repeats_laws.specs.Items.{item_at, item_end, items, item_same, item_alike}
use Rattle.repeats_laws.proofs.Exact.{differ_exact}
use Rattle.repeats_laws.specs.Paths.{distinct_table, alike_rest, path_end_lem, path_size}

module _ (s : List ℕ) where
  path_same : (a b : ℕ) → eqs (item_at s Path a) (item_at s Path b) ≡ eqs (path_at s a) (path_at s b)
  unfolding path_at
  path_same a b = same_test _ _
      (λ e.
      let h = alike_rest (rw (path_size s) at (item_alike s Path a b (eqs_true _ _ e))) in
      eqs_eq _ _ (bytes_alike s h.1 ∙ ap (bytes_at s (b + 1)) h.0))
      (λ e.
      let p = eqs_true _ _ e in
      let z : byte s a ≡ byte s b = sym (length_bytes s _ (a + 1)) ∙ ap length p ∙ length_bytes s _ (b + 1) in
      let h = alike_bytes s (byte s a) (a + 1) (b + 1) (p ∙ ap (bytes_at s (b + 1)) (sym z)) in
      eqs_eq _ _ (item_same s Path a b (rw (path_size s) (more z h))))

  pub paths_differ : (at n : ℕ) (ps : List (List ℕ)) (r : List ℕ) → times n read_path (drop at s) ≡ some (ps, r) → at ≤ length s → n ≤ 1024
      → differ s at n Path ≡ distinct eqs ps
  unfolding items
  paths_differ at n ps r e i h =
      let y = (stands_times s read_path (path_at s) (path_end s) (stands_path s) n at).by ps r i e in
      let f : path_end s ≡ item_end s Path = λ j a. (path_end_lem s) a j in
      differ_exact s at n Path h (rw (← f) y.3)
      ∙ distinct_table eqs eqs (item_at s Path) (path_at s) (item_end s Path) path_same n at
      ∙ rw (y.0, f)
