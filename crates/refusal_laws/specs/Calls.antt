-- Level Engine's calls refuse by numbers that are refusals' own, where reading does and the fuel lasts.
use Rattle.std.specs.Prelude.{ℕ, ◌≡◌, refl, ◌≢◌, Bool, true, false, ◌&&◌, List, length, leb}
use Rattle.std.proofs.Math.Option.{Option, none, some}
use Rattle.net_file.specs.Lists.{Result, ok, refuse, need}
use Rattle.net_file.specs.Values.{FlatNet, File}
use Rattle.net_file.specs.Read.{limit_of, nodes_fit}
use Rattle.net_file.specs.Checks.{flat, limit_fits, read, write}
use Rattle.refusals.specs.Told.{Numbered}
use Rattle.definitions.specs.Lists.{◌>>=◌}
use Rattle.definitions.specs.State.{Pools, Engine}
use Rattle.definitions.specs.Load.{load}
use Rattle.definitions.specs.Run.{run, fuel, run_slice}
use Rattle.definitions.specs.Finish.{result}
use Rattle.definitions.specs.Calls.{Held, pools_fit, unchanged, zeros, image, Outcome, Workspace, same_pools, accept, resume, deliver, begin, slice, finish, optimized, optimize}
use Rattle.refusal_laws.specs.Numbered.{needed, then, load_numbered, run_slice_numbered}

module _ (w : Workspace) (p : Pools) where
  accept_numbered : (bs : List ℕ) → Numbered (read flat bs) → Numbered (accept w p bs)
  unfolding accept
  accept_numbered bs h = needed (pools_fit p && w.fits p (length bs)) 1 (read flat bs) refl h

  held_numbered : (o : Option Held) → Numbered (elim o as (λ _. Result Held) [
    | none ↦ refuse 16
    | some h ↦ need (same_pools p h.engine.pools && w.fits p (length (write flat h.file))) 16 (ok h)
  ])
  held_numbered none = refl
  held_numbered (some h) = needed (same_pools p h.engine.pools && w.fits p (length (write flat h.file))) 16 (ok h) refl tt

  resume_numbered : Numbered (resume w p)
  unfolding resume
  resume_numbered =
      needed (pools_fit p && w.fits p 0) 1 (elim w.held as (λ _. Result Held) [
        | none ↦ refuse 16
        | some h ↦ need (same_pools p h.engine.pools && w.fits p (length (write flat h.file))) 16 (ok h)
      ]) refl (held_numbered w.held)

  deliver_numbered : (room : ℕ) (f : File FlatNet) → Numbered (deliver room f)
  unfolding deliver
  deliver_numbered room f = needed (nodes_fit flat.nodes f.nets && leb (length (write flat f)) room) 15 (ok (write flat f)) refl tt

  pub begin_numbered : (bs : List ℕ) → Numbered (read flat bs) → Numbered (begin w p bs).0
  unfolding begin
  begin_numbered bs h = go (accept w p bs) (accept_numbered bs h)
    where
      loaded : (f : File FlatNet) (r : Result Engine) → Numbered r → Numbered (elim r as (λ _. Outcome (Unit {0})) [
        | refuse r ↦ (refuse r, zeros (length bs))
        | ok e ↦ (ok tt, image (record { file = f; engine = e }))
      ]).0
      loaded f (refuse n) k = k
      loaded f (ok e) k = tt

      go : (r : Result (File FlatNet)) → Numbered r → Numbered (elim r as (λ _. Outcome (Unit {0})) [
        | refuse r ↦ (refuse r, unchanged)
        | ok f ↦ elim (load p f) as (λ _. Outcome (Unit {0})) [
          | refuse r ↦ (refuse r, zeros (length bs))
          | ok e ↦ (ok tt, image (record { file = f; engine = e }))
        ]
      ]).0
      go (refuse n) k = k
      go (ok f) k = loaded f (load p f) (load_numbered p f)

  pub slice_numbered : (n : ℕ) → ((h : Held) → resume w p ≡ ok h → run fuel (limit_of n) h.engine ≢ refuse 0) → Numbered (slice w p n).0
  unfolding slice
  slice_numbered n lasts = go (resume w p) refl resume_numbered
    where
      ran : (h : Held) (r : Result (Engine × ℕ)) → Numbered r → Numbered (elim r as (λ _. Outcome ℕ) [
        | refuse r ↦ (refuse r, zeros (length (write flat h.file)))
        | ok r ↦ (ok r.1, image (record { file = h.file; engine = r.0 }))
      ]).0
      ran h (refuse m) k = k
      ran h (ok x) k = tt

      fits : (h : Held) (t : Bool) → resume w p ≡ ok h → Numbered (elim (need t 4 (ok h)) as (λ _. Outcome ℕ) [
        | refuse r ↦ (refuse r, unchanged)
        | ok h ↦ elim (run_slice (limit_of n) h.engine) as (λ _. Outcome ℕ) [
          | refuse r ↦ (refuse r, zeros (length (write flat h.file)))
          | ok r ↦ (ok r.1, image (record { file = h.file; engine = r.0 }))
        ]
      ]).0
      fits h true e = ran h (run_slice (limit_of n) h.engine) (run_slice_numbered (limit_of n) h.engine (lasts h e))
      fits h false e = refl

      go : (r : Result Held) → resume w p ≡ r → Numbered r → Numbered (elim (r >>= λ h. need (limit_fits n) 4 (ok h)) as (λ _. Outcome ℕ) [
        | refuse r ↦ (refuse r, unchanged)
        | ok h ↦ elim (run_slice (limit_of n) h.engine) as (λ _. Outcome ℕ) [
          | refuse r ↦ (refuse r, zeros (length (write flat h.file)))
          | ok r ↦ (ok r.1, image (record { file = h.file; engine = r.0 }))
        ]
      ]).0
      go (refuse m) e k = k
      go (ok h) e k = fits h (limit_fits n) e

  pub finish_numbered : (room : ℕ) → Numbered (finish w p room).0
  unfolding finish
  finish_numbered room = go (resume w p) resume_numbered
    where
      given : (h : Held) (r : Result (List ℕ)) → Numbered r → Numbered (elim r as (λ _. Outcome (List ℕ)) [
        | refuse r ↦ (refuse r, unchanged)
        | ok bs ↦ (ok bs, zeros (length (write flat h.file)))
      ]).0
      given h (refuse m) k = k
      given h (ok bs) k = tt

      go : (r : Result Held) → Numbered r → Numbered (elim r as (λ _. Outcome (List ℕ)) [
        | refuse r ↦ (refuse r, unchanged)
        | ok h ↦ elim (deliver room (result h.file h.engine)) as (λ _. Outcome (List ℕ)) [
          | refuse r ↦ (refuse r, unchanged)
          | ok bs ↦ (ok bs, zeros (length (write flat h.file)))
        ]
      ]).0
      go (refuse m) k = k
      go (ok h) k = given h (deliver room (result h.file h.engine)) (deliver_numbered room (result h.file h.engine))

  pub optimize_numbered : (room : ℕ) (bs : List ℕ) → Numbered (read flat bs)
      → ((f : File FlatNet) (e : Engine) → accept w p bs ≡ ok f → load p f ≡ ok e → run fuel none e ≢ refuse 0) → Numbered (optimize w p room bs).0
  unfolding optimize optimized
  optimize_numbered room bs h lasts = go (accept w p bs) refl (accept_numbered bs h)
    where
      run_on : (f : File FlatNet) (r : Result Engine) → load p f ≡ r → accept w p bs ≡ ok f → Numbered r
          → Numbered ((r >>= λ e. run_slice none e >>= λ x. ok (result f x.0)) >>= deliver room)
      run_on f (refuse n) l e k = k
      run_on f (ok d) l e k =
          then (run_slice none d >>= λ x. ok (result f x.0)) (deliver room)
          (then (run_slice none d) (λ x. ok (result f x.0)) (run_slice_numbered none d (lasts f d e l)) (λ x. tt)) (λ g. deliver_numbered room g)

      go : (r : Result (File FlatNet)) → accept w p bs ≡ r → Numbered r → Numbered (elim r as (λ _. Outcome (List ℕ)) [
        | refuse r ↦ (refuse r, unchanged)
        | ok f ↦ ((load p f >>= λ e. run_slice none e >>= λ x. ok (result f x.0)) >>= deliver room, zeros (length bs))
      ]).0
      go (refuse n) e k = k
      go (ok f) e k = run_on f (load p f) refl e (load_numbered p f)
