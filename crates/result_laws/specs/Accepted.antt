-- What is promised of a result: of every accepted file, and every engine that its load and slices reach, what the finish delivers is
-- accepted and read back, and its nets are the engine's nets.
use Rattle.std.specs.Prelude.{ℕ, refl, ◌⊎◌, Bool, true, false, ◌&&◌, length}
use Rattle.std.proofs.Common.{arith, sym, ap, ◌∙◌, subst, inl, inr}
use Rattle.std.proofs.Math.Path.{◌≡◌}
use Rattle.std.proofs.Math.Option.{Option, none, some}
use mathlib.Core.List.{List, map, Memᴰ}
use Rattle.net_file.specs.Lists.{Result, ok, refuse, need}
use Rattle.net_file.specs.Values.{FlatNet, File}
use Rattle.net_file.specs.Read.{nodes_fit}
use Rattle.net_file.specs.Checks.{flat, read, write}
use Rattle.net_file_laws.specs.Bytes.{Bytes}
use Rattle.definitions.specs.Lists.{◌>>=◌}
use Rattle.definitions.specs.State.{Pools, Engine}
use Rattle.definitions.specs.Load.{load}
use Rattle.definitions.specs.Run.{run_slice}
use Rattle.definitions.specs.Finish.{finish_net, result}
use Rattle.definitions.specs.Calls.{Held, Workspace, unchanged, zeros, Outcome, pools_fit, same_pools, resume, deliver, finish, optimized, optimize, accept}
use Rattle.fuel_laws.specs.Reached.{Reached, loads}
use Rattle.reached_laws.specs.Accepted.{slice_reached}
use Rattle.reached_laws.specs.Image.{Image, reached_image, LeftBy, Run, left_run}
use Rattle.result_laws.specs.Nets.{Finishes}
use Rattle.result_laws.specs.Result

-- the value of an answer, or d
answer_of : {A : Type 0} → A → Result A → A
answer_of d (ok a) = a
answer_of d (refuse r) = d

ok_is : {A : Type 0} {a b : A} → ok a ≡ ok b → a ≡ b
unfolding answer_of
ok_is {a = a} e = ap (answer_of a) e

module _ (bs : List ℕ) (bytes : Bytes bs) (f : File FlatNet) (accepted : read flat bs ≡ ok f) (p : Pools) (fits : pools_fit p ≡ true) {e : Engine} (r : Reached p f e) where
  image : Image p f e
  image = reached_image bs bytes f accepted p fits r

  -- `result-read`: where the result has at most 4,096 nodes, and so is not refused by 15, its bytes are accepted and read back
  pub result_read : nodes_fit flat.nodes (result f e).nets ≡ true → read flat (write flat (result f e)) ≡ ok (result f e)
  result_read few = Result.result_read bs bytes f accepted p fits e image few

  -- `result-nets`: its nets are those of the file, each as the finish makes it
  pub result_nets : ((result f e).nets ≡ map (finish_net e) f.nets) × ((t : FlatNet) → Memᴰ t f.nets → Finishes e t (finish_net e t))
  result_nets = Result.result_nets bs bytes f accepted p fits e image

  -- the finish's call: what it answers is accepted, and is the result
  pub finish_read : (w : Workspace) (room : ℕ) (out : List ℕ) → resume w p ≡ ok (record { file = f; engine = e }) → (finish w p room).0 ≡ ok out → read flat out ≡ ok (result f e)
  unfolding finish
  finish_read w room out h q = go (resume w p) h q
    where
      delivered : (d : Result (List ℕ)) → deliver room (result f e) ≡ d
          → (elim d as (λ _. Outcome (List ℕ)) [ refuse n ↦ (refuse n, unchanged) | ok l ↦ (ok l, zeros (length (write flat f))) ]).0 ≡ ok out → read flat out ≡ ok (result f e)
      delivered (ok l) x y = Result.delivered_read bs bytes f accepted p fits e image room out (x ∙ y)
      delivered (refuse n) x y = let z : ◌≡◌ {A = ℕ} 0 1 = cc in absurd (omega arith)

      go : (o : Result Held) → o ≡ ok (record { file = f; engine = e })
          → (elim o as (λ _. Outcome (List ℕ)) [
            | refuse n ↦ (refuse n, unchanged)
            | ok g ↦ elim (deliver room (result g.file g.engine)) as (λ _. Outcome (List ℕ)) [ refuse n ↦ (refuse n, unchanged) | ok l ↦ (ok l, zeros (length (write flat g.file))) ]
          ]).0 ≡ ok out
          → read flat out ≡ ok (result f e)
      go (refuse n) s t = let z : ◌≡◌ {A = ℕ} 0 1 = cc in absurd (omega arith)
      go (ok g) s t = delivered (deliver room (result f e)) refl
          (subst (λ (k : Held). (elim (deliver room (result k.file k.engine)) as (λ _. Outcome (List ℕ)) [ refuse n ↦ (refuse n, unchanged) | ok l ↦ (ok l, zeros (length (write flat k.file))) ]).0 ≡ ok out) (ok_is s) t)

-- a workspace that holds a run resumes it, or refuses
pub resumed : (w : Workspace) (p : Pools) (h : Held) → w.held ≡ some h → (r : Result Held) → resume w p ≡ r → (r ≡ ok h) ⊎ ((n : ℕ) × (r ≡ refuse n))
unfolding resume
resumed w p h s r e = subst (λ (x : Result Held). (x ≡ ok h) ⊎ ((n : ℕ) × (x ≡ refuse n))) e
    (subst (λ (o : Option Held). Resumes (need (pools_fit p && w.fits p 0) 1 (elim o as (λ _. Result Held) [
      | none ↦ refuse 16
      | some x ↦ need (same_pools p x.engine.pools && w.fits p (length (write flat x.file))) 16 (ok x)
    ]))) (sym s) (go (pools_fit p && w.fits p 0) (same_pools p h.engine.pools && w.fits p (length (write flat h.file)))))
  where
    Resumes : Result Held → Type 0
    Resumes x = (x ≡ ok h) ⊎ ((n : ℕ) × (x ≡ refuse n))

    go : (a b : Bool) → Resumes (need a 1 (need b 16 (ok h)))
    go true true = inl refl
    go true false = inr (16, refl)
    go false b = inr (1, refl)

-- the one-call form: what it answers is accepted, and is the result of an engine that the file's run reaches
pub optimize_read : (w : Workspace) (p : Pools) (room : ℕ) (bs out : List ℕ) → Bytes bs → (optimize w p room bs).0 ≡ ok out
    → (f : File FlatNet) × (e : Engine) × (read flat bs ≡ ok f) × Reached p f e × (read flat out ≡ ok (result f e))
unfolding optimize accept optimized
optimize_read w p room bs out bytes h = go (pools_fit p) refl (w.fits p (length bs)) (read flat bs) refl h
  where
    ran : (f : File FlatNet) → read flat bs ≡ ok f → pools_fit p ≡ true → (e : Engine) → load p f ≡ ok e → (q : Result (Engine × ℕ)) → run_slice none e ≡ q
        → (◌>>=◌ {B = File FlatNet} q (λ r. ok (result f r.0)) >>= deliver room) ≡ ok out
        → (f : File FlatNet) × (e : Engine) × (read flat bs ≡ ok f) × Reached p f e × (read flat out ≡ ok (result f e))
    ran f a fit e l (refuse n) s k = let z : ◌≡◌ {A = ℕ} 0 1 = cc in absurd (omega arith)
    ran f a fit e l (ok x) s k =
        let r = slice_reached p f none x.0 x.1 (loads l) s in
        (f, x.0, a, r, Result.delivered_read bs bytes f a p fit x.0 (reached_image bs bytes f a p fit r) room out k)

    loaded : (f : File FlatNet) → read flat bs ≡ ok f → pools_fit p ≡ true → (q : Result Engine) → load p f ≡ q
        → (◌>>=◌ {B = File FlatNet} q (λ e. run_slice none e >>= λ r. ok (result f r.0)) >>= deliver room) ≡ ok out
        → (f : File FlatNet) × (e : Engine) × (read flat bs ≡ ok f) × Reached p f e × (read flat out ≡ ok (result f e))
    loaded f a fit (refuse n) s k = let z : ◌≡◌ {A = ℕ} 0 1 = cc in absurd (omega arith)
    loaded f a fit (ok e) s k = ran f a fit e s (run_slice none e) refl k

    go : (s : Bool) → pools_fit p ≡ s → (t : Bool) (q : Result (File FlatNet)) → read flat bs ≡ q
        → (elim (need (s && t) 1 q) as (λ _. Outcome (List ℕ)) [ refuse n ↦ (refuse n, unchanged) | ok f ↦ (optimized p f >>= deliver room, zeros (length bs)) ]).0 ≡ ok out
        → (f : File FlatNet) × (e : Engine) × (read flat bs ≡ ok f) × Reached p f e × (read flat out ≡ ok (result f e))
    go false a t q b k = let z : ◌≡◌ {A = ℕ} 0 1 = cc in absurd (omega arith)
    go true a false q b k = let z : ◌≡◌ {A = ℕ} 0 1 = cc in absurd (omega arith)
    go true a true (refuse n) b k = let z : ◌≡◌ {A = ℕ} 0 1 = cc in absurd (omega arith)
    go true a true (ok f) b k = loaded f b a (load p f) refl k
