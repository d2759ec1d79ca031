-- What a run is at rest. Document 01, of the resumable image: "an accepted file, links that agree at both ends within one net, free
-- nodes' ports 0 and 1 wired, no wait on a net at 0, every vacant slot once in the free chain, list lengths, stale counts (under half a
-- nonzero capacity) and pending counts that agree with what is stored, a dirty capacity within 4N + 4".
use Rattle.std.specs.Prelude.{ℕ, ◌+◌, ◌≡◌, refl, Bool, true, false, ◌&&◌, List, map, length}
use Rattle.std.proofs.Common.{ap, subst, arith}
use Rattle.std.proofs.Math.Option.{Option, none, some}
use Rattle.net_file.specs.Lists.{Result, ok, refuse, need}
use Rattle.net_file.specs.Values.{FlatNet, File}
use Rattle.net_file.specs.Read.{limit_of}
use Rattle.net_file.specs.Checks.{flat, limit_fits, read, write}
use Rattle.net_file_laws.specs.Bytes.{Bytes}
use Rattle.definitions.specs.Lists.{◌>>=◌, nth}
use Rattle.definitions.specs.Nets.{Home, arity}
use Rattle.definitions.specs.State.{Pools, Engine, graph_of, homes, net_at}
use Rattle.definitions.specs.Load.{with_free_path, included, load}
use Rattle.definitions.specs.Run.{run_slice}
use Rattle.definitions.specs.Calls.{Held, Workspace, Left, unchanged, zeros, image, Outcome, pools_fit, same_pools, accept, resume, begin, slice}
use Rattle.graph_laws.specs.Rest.{Rest}
use Rattle.graph_laws.specs.Nodes.{AllNodes}
use Rattle.load_laws.specs.Begin.{Writable}
use Rattle.good_laws.specs.Good.{Good, rest}
use Rattle.good_laws.specs.Idle.{Idle}
use Rattle.fuel_laws.specs.Reached.{Reached, loads}
use Rattle.reached_laws.specs.Files.{OfFile, reached_file}
use Rattle.waiter_laws.specs.Waiters.{Waited}
use Rattle.reached_laws.specs.Entries.{reached_entries}
use Rattle.reached_laws.specs.Accepted
use Rattle.reached_laws.specs.Accepted.{free_number}

-- at rest: all of it
pub record Image (p : Pools) (f : File FlatNet) (e : Engine) : Type 0 where
  pub file : OfFile p f e
  pub ports : map (λ (h : Home). arity (graph_of e) h.free) (homes e) ≡ map (λ (t : FlatNet). 2 + length t.free) (included f)
  pub nodes : AllNodes (Writable (length (with_free_path f.paths)) (length f.names)) (graph_of e)
  pub wired : Rest (free_number f) (homes e) (graph_of e)
  pub firsts : (k : ℕ) (h : Home) → nth (homes e) k ≡ some h → nth (net_at e k).list.items 0 ≡ some h.free
  pub waits : Waited p.nodes (length (included f)) e
  pub books : Good rest e
  pub idle : Idle e

-- every engine that an accepted file and slices reach
pub reached_image : (bs : List ℕ) → Bytes bs → (f : File FlatNet) → read flat bs ≡ ok f → (p : Pools) → pools_fit p ≡ true → {e : Engine} → Reached p f e → Image p f e
reached_image bs b f a p fit {e} r = record {
  file = reached_file p f r;
  ports = Accepted.free_kept bs b f a p fit r;
  nodes = Accepted.reached_nodes bs b f a p fit r;
  wired = Accepted.reached_rest bs b f a p fit r;
  firsts = entries.0;
  waits = entries.1;
  books = Accepted.reached_good bs b f a p fit r;
  idle = Accepted.reached_idle bs b f a p fit r;
}
  where
    entries : ((k : ℕ) (h : Home) → nth (homes e) k ≡ some h → nth (net_at e k).list.items 0 ≡ some h.free) × Waited p.nodes (length (included f)) e
    entries = reached_entries p fit f (free_number f) (Accepted.begins bs b f a p fit) r

-- ---- begin and slices

-- the runs that begin, and slice calls after it, leave in a workspace
pub data LeftBy (p : Pools) : Held → Type 0 where
  begun : (w : Workspace) (bs : List ℕ) (h : Held) → Bytes bs → (begin w p bs).1 ≡ image h → LeftBy p h
  sliced : (w : Workspace) (n : ℕ) (g h : Held) → LeftBy p g → w.held ≡ some g → (slice w p n).1 ≡ image h → LeftBy p h

-- what such a run comes from: pools in range, the bytes of an accepted file
pub record Run (p : Pools) (h : Held) : Type 0 where
  pub bytes : List ℕ
  pub are : Bytes bytes
  pub read : read flat bytes ≡ ok h.file
  pub fits : pools_fit p ≡ true
  pub reached : Reached p h.file h.engine

-- the run that a call leaves
left_image : (g h : Held) → ◌≡◌ {A = Left} (image g) (image h) → g ≡ h
left_image g h e = ap (λ (l : Left). elim l as (λ _. Held) [ unchanged ↦ g | zeros n ↦ g | image x ↦ x ]) e

begin_run : (w : Workspace) (p : Pools) (bs : List ℕ) (h : Held) → Bytes bs → (begin w p bs).1 ≡ image h → Run p h
unfolding begin accept
begin_run w p bs h b e = go (pools_fit p) refl (w.fits p (length bs)) (read flat bs) refl e
  where
    loaded : (f : File FlatNet) → read flat bs ≡ ok f → pools_fit p ≡ true → (r : Result Engine) → load p f ≡ r
        → (elim r as (λ _. Outcome (Unit {0})) [ refuse n ↦ (refuse n, zeros (length bs)) | ok d ↦ (ok tt, image (record { file = f; engine = d })) ]).1 ≡ image h → Run p h
    loaded f a fit (refuse n) q k = let z : ◌≡◌ {A = ℕ} 0 1 = cc in absurd (omega arith)
    loaded f a fit (ok d) q k = subst (Run p) (left_image (record { file = f; engine = d }) h k) (record { bytes = bs; are = b; read = a; fits = fit; reached = loads q })

    go : (s : Bool) → pools_fit p ≡ s → (t : Bool) (r : Result (File FlatNet)) → read flat bs ≡ r
        → (elim (need (s && t) 1 r) as (λ _. Outcome (Unit {0})) [
          | refuse n ↦ (refuse n, unchanged)
          | ok f ↦ elim (load p f) as (λ _. Outcome (Unit {0})) [ refuse n ↦ (refuse n, zeros (length bs)) | ok d ↦ (ok tt, image (record { file = f; engine = d })) ]
        ]).1 ≡ image h → Run p h
    go true q true (ok f) a k = loaded f a q (load p f) refl k
    go true q true (refuse n) a k = let z : ◌≡◌ {A = ℕ} 0 1 = cc in absurd (omega arith)
    go true q false r a k = let z : ◌≡◌ {A = ℕ} 0 1 = cc in absurd (omega arith)
    go false q t r a k = let z : ◌≡◌ {A = ℕ} 0 1 = cc in absurd (omega arith)

slice_run : (w : Workspace) (p : Pools) (n : ℕ) (g h : Held) → Run p g → w.held ≡ some g → (slice w p n).1 ≡ image h → Run p h
unfolding slice resume
slice_run w p n g h r s e =
    go (pools_fit p && w.fits p 0) (same_pools p g.engine.pools && w.fits p (length (write flat g.file))) (limit_fits n)
    (subst (λ (o : Option Held). (elim (◌>>=◌ {A = Held} {B = Held} (need (pools_fit p && w.fits p 0) 1 (elim o as (λ _. Result Held) [
      | none ↦ refuse 16
      | some x ↦ need (same_pools p x.engine.pools && w.fits p (length (write flat x.file))) 16 (ok x)
    ])) (λ x. need (limit_fits n) 4 (ok x))) as (λ _. Outcome ℕ) [ refuse q ↦ (refuse q, unchanged) | ok x ↦ after x ]).1 ≡ image h) s e)
  where
    after : Held → Outcome ℕ
    after x = elim (run_slice (limit_of n) x.engine) as (λ _. Outcome ℕ) [ refuse q ↦ (refuse q, zeros (length (write flat x.file))) | ok y ↦ (ok y.1, image (record { file = x.file; engine = y.0 })) ]

    ran : (q : Result (Engine × ℕ)) → run_slice (limit_of n) g.engine ≡ q
        → (elim q as (λ _. Outcome ℕ) [ refuse k ↦ (refuse k, zeros (length (write flat g.file))) | ok y ↦ (ok y.1, image (record { file = g.file; engine = y.0 })) ]).1 ≡ image h → Run p h
    ran (refuse k) x y = let z : ◌≡◌ {A = ℕ} 0 1 = cc in absurd (omega arith)
    ran (ok v) x y = subst (Run p) (left_image (record { file = g.file; engine = v.0 }) h y) (record {
      bytes = r.bytes;
      are = r.are;
      read = r.read;
      fits = r.fits;
      reached = Accepted.slice_reached p g.file (limit_of n) v.0 v.1 r.reached x;
    })

    go : (a b c : Bool) → (elim (◌>>=◌ {A = Held} {B = Held} (need a 1 (need b 16 (ok g))) (λ x. need c 4 (ok x))) as (λ _. Outcome ℕ) [ refuse q ↦ (refuse q, unchanged) | ok x ↦ after x ]).1 ≡ image h → Run p h
    go true true true k = ran (run_slice (limit_of n) g.engine) refl k
    go true true false k = let z : ◌≡◌ {A = ℕ} 0 1 = cc in absurd (omega arith)
    go true false c k = let z : ◌≡◌ {A = ℕ} 0 1 = cc in absurd (omega arith)
    go false b c k = let z : ◌≡◌ {A = ℕ} 0 1 = cc in absurd (omega arith)

pub left_run : {p : Pools} {h : Held} → LeftBy p h → Run p h
left_run {p} (begun w bs h b e) = begin_run w p bs h b e
left_run {p} (sliced w n g h l s e) = slice_run w p n g h (left_run l) s e

-- `reached-is-image`: all that begin and slices leave is an image
pub reached_is_image : {p : Pools} {h : Held} → LeftBy p h → Image p h.file h.engine
reached_is_image {p} {h} l = let r = left_run l in reached_image r.bytes r.are h.file r.read p r.fits r.reached
