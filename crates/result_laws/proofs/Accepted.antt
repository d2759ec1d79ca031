-- What is promised of a result: of every accepted file, and every engine that its load and slices reach, what the finish delivers is
use Rattle.std.specs.Prelude.{ℕ, refl, ◌⊎◌, Bool, true, false, ◌&&◌, length}
use Rattle.std.proofs.Common.{arith, sym, ap, ◌∙◌, subst, inl, inr}
use Rattle.std.proofs.Math.Path.{◌≡◌}
use Rattle.std.proofs.Math.Option.{Option, none, some}
use mathlib.Core.List.{List, map, Memᴰ}
use Rattle.net_file.specs.Lists.{Result, ok, refuse, need}
use Rattle.net_file.specs.Values.{FlatNet, File}
use Rattle.net_file.specs.Read.{nodes_fit}
use Rattle.net_file.specs.Checks.{flat, read, write}
use Rattle.net_file_laws.specs.Bytes.{Bytes}
use Rattle.definitions.specs.Lists.{◌>>=◌}
use Rattle.definitions.specs.State.{Pools, Engine}
use Rattle.definitions.specs.Load.{load}
use Rattle.definitions.specs.Run.{run_slice}
use Rattle.definitions.specs.Finish.{finish_net, result}
use Rattle.definitions.specs.Calls.{Held, Workspace, unchanged, zeros, Outcome, pools_fit, same_pools, resume, deliver, finish, optimized, optimize, accept}
use Rattle.fuel_laws.specs.Reached.{Reached, loads}
use Rattle.reached_laws.specs.Accepted.{slice_reached}
use Rattle.reached_laws.specs.Image.{Image, reached_image, LeftBy, Run, left_run}
use Rattle.result_laws.specs.Nets.{Finishes}
use Rattle.result_laws.specs.Result
use Rattle.result_laws.specs.Accepted.{finish_read, resumed}

-- `finish-read`, on whatever begin and slices leave
pub left_read : {p : Pools} {h : Held} → LeftBy p h → (w : Workspace) → w.held ≡ some h → (room : ℕ) (out : List ℕ) → (finish w p room).0 ≡ ok out → read flat out ≡ ok (result h.file h.engine)
unfolding finish
left_read {p} {h} l w s room out q = go (resumed w p h s (resume w p) refl)
  where
    r : Run p h
    r = left_run l

    go : (resume w p ≡ ok h) ⊎ ((n : ℕ) × (resume w p ≡ refuse n)) → read flat out ≡ ok (result h.file h.engine)
    go (inl x) = finish_read r.bytes r.are h.file r.read p r.fits r.reached w room out x q
    go (inr x) = absurd (never (resume w p) x.1 q)
      where
        never : (o : Result Held) → o ≡ refuse x.0
            → (elim o as (λ _. Outcome (List ℕ)) [
              | refuse n ↦ (refuse n, unchanged)
              | ok g ↦ elim (deliver room (result g.file g.engine)) as (λ _. Outcome (List ℕ)) [ refuse n ↦ (refuse n, unchanged) | ok y ↦ (ok y, zeros (length (write flat g.file))) ]
            ]).0 ≡ ok out → ⊥
        never (refuse n) a b = let z : ◌≡◌ {A = ℕ} 0 1 = cc in omega arith
        never (ok g) a b = let z : ◌≡◌ {A = ℕ} 0 1 = cc in omega arith
