-- A file has at most 255 paths besides the free one, so of more than 256 two are the same. So `differ` is right on every table
-- of paths that passes check 5, also on those that it does not look through.
use Rattle.std.specs.Prelude.{ℕ, ◌<◌, ◌≤◌, ◌≡◌, refl, Bool, true, false, not, List, length}
use Rattle.std.proofs.Common.{arith, leb-true}
use Rattle.net_file.specs.Lists.{count, distinct, eqs}
use Rattle.net_file.specs.Values.{free_path}
use Rattle.net_file.specs.Read.{paths_fit}
use Rattle.list_laws.specs.Lists.{count_once, count_both, eqs_true}

few : (ps : List (List ℕ)) → paths_fit ps ≡ true → distinct eqs ps ≡ true → length ps ≤ 256
unfolding paths_fit
few ps h e =
    let f = leb-true (count (λ p. not (eqs free_path p)) ps) 255 h in
    omega (arith, count_once eqs eqs_true free_path ps e, count_both (eqs free_path) ps)

pub many_same : (ps : List (List ℕ)) → paths_fit ps ≡ true → 256 < length ps → distinct eqs ps ≡ false
many_same ps h l = go (distinct eqs ps) refl
  where
    go : (t : Bool) → distinct eqs ps ≡ t → distinct eqs ps ≡ false
    go true e = absurd (omega (arith, few ps h e))
    go false e = e
