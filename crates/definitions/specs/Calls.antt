-- Level Engine, 7: the calls. Each answers or refuses, by 1 to 16 in their order, and leaves one of three things in its workspace.
-- How long a workspace must be, and which words of it are an image of which run, docs/IMAGE.md says; here both are given.
use Rattle.std.specs.Prelude.{ℕ, Bool, ◌&&◌, List, ◌++◌, length, drop, eqb, leb}
use Rattle.std.proofs.Math.Option.{Option, none, some}
use Rattle.net_file.specs.Lists.{Result, ok, refuse, need}
use Rattle.net_file.specs.Values.{FlatNet, File}
use Rattle.net_file.specs.Read.{limit_of, nodes_fit}
use Rattle.net_file.specs.Checks.{flat, limit_fits, read, write}
use Rattle.definitions.specs.Lists.{◌>>=◌}
use Rattle.definitions.specs.State.{Pools, Engine}
use Rattle.definitions.specs.Load.{load}
use Rattle.definitions.specs.Run.{run_slice}
use Rattle.definitions.specs.Finish.{result}

-- a run: its file and its engine
pub record Held : Type 0 where
  pub file : File FlatNet
  pub engine : Engine

-- a lent workspace: whether it has the length documented for these pools and a file of so many bytes; the run that it is a
-- resumable image of, none where it is no image
pub record Workspace : Type 0 where
  pub fits : Pools → ℕ → Bool
  pub held : Option Held

-- what a call leaves: every byte as it was; zeros up to the length documented for a file of so many bytes; an image of a run.
-- What is past the documented length stays
pub data Left : Type 0 where
  unchanged : Left
  zeros : ℕ → Left
  image : Held → Left

-- a call's answer, and what it leaves
abbrev pub Outcome : Type 0 → Type 0
Outcome A = Result A × Left

-- "N nodes 1 to 4,096; E node-list entries 1 to 16,384; W waits 0 to 4,096"
unfoldable pub pools_fit : Pools → Bool
pools_fit p = leb 1 p.nodes && leb p.nodes 4096 && leb 1 p.entries && leb p.entries 16384 && leb p.waits 4096

-- all three alike
unfoldable pub same_pools : Pools → Pools → Bool
same_pools p q = eqb p.nodes q.nodes && eqb p.entries q.entries && eqb p.waits q.waits

-- 1, then 2 to 8
unfoldable pub accept : Workspace → Pools → List ℕ → Result (File FlatNet)
accept w p bs = need (pools_fit p && w.fits p (length bs)) 1 (read flat bs)

-- 1, measured as for no file, then 16: no image, "pools that differ, or a file that does not fit"
unfoldable pub resume : Workspace → Pools → Result Held
resume w p = need (pools_fit p && w.fits p 0) 1 (elim w.held [
  | none ↦ refuse 16
  | some h ↦ need (same_pools p h.engine.pools && w.fits p (length (write flat h.file))) 16 (ok h)
])

-- 15: "output shorter than the result, or over 4,096 nodes in it"
unfoldable pub deliver : ℕ → File FlatNet → Result (List ℕ)
deliver room f = need (nodes_fit flat.nodes f.nets && leb (length (write flat f)) room) 15 (ok (write flat f))

-- a begin that succeeds leaves an image; 9 and 10 leave zeros
unfoldable pub begin : Workspace → Pools → List ℕ → Outcome (Unit {0})
begin w p bs = elim (accept w p bs) [
  | refuse r ↦ (refuse r, unchanged)
  | ok f ↦ elim (load p f) [
    | refuse r ↦ (refuse r, zeros (length bs))
    | ok e ↦ (ok tt, image (record { file = f; engine = e }))
  ]
]

-- a slice of n answers the number deducted; 9 to 14 leave zeros
unfoldable pub slice : Workspace → Pools → ℕ → Outcome ℕ
slice w p n = elim (resume w p >>= λ h. need (limit_fits n) 4 (ok h)) [
  | refuse r ↦ (refuse r, unchanged)
  | ok h ↦ elim (run_slice (limit_of n) h.engine) [
    | refuse r ↦ (refuse r, zeros (length (write flat h.file)))
    | ok r ↦ (ok r.1, image (record { file = h.file; engine = r.0 }))
  ]
]

-- a finish answers the bytes of the result; its 15 leaves the run as it is
unfoldable pub finish : Workspace → Pools → ℕ → Outcome (List ℕ)
finish w p room = elim (resume w p) [
  | refuse r ↦ (refuse r, unchanged)
  | ok h ↦ elim (deliver room (result h.file h.engine)) [
    | refuse r ↦ (refuse r, unchanged)
    | ok bs ↦ (ok bs, zeros (length (write flat h.file)))
  ]
]

-- one slice of none, to the end
unfoldable pub optimized : Pools → File FlatNet → Result (File FlatNet)
optimized p f = load p f >>= λ e. run_slice none e >>= λ r. ok (result f r.0)

-- "The one-call form is begin, one slice of none, finish": zeros from 9 on, whatever comes
unfoldable pub optimize : Workspace → Pools → ℕ → List ℕ → Outcome (List ℕ)
optimize w p room bs = elim (accept w p bs) [
  | refuse r ↦ (refuse r, unchanged)
  | ok f ↦ (optimized p f >>= deliver room, zeros (length bs))
]

-- the lent output after finish or optimize: "A refusal .. writes no output; a result leaves the output bytes past its end unchanged"
unfoldable pub written : Result (List ℕ) → List ℕ → List ℕ
written (refuse r) out = out
written (ok bs) out = bs ++ drop (length bs) out

-- the workspace that the next call finds; zeros are no image
unfoldable pub after : Workspace → Left → Workspace
after w unchanged = w
after w (zeros n) = record { fits = w.fits; held = none }
after w (image h) = record { fits = w.fits; held = some h }
