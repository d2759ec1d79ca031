-- `reached-is-image`, on the words: where words mean an engine that is reached, and the bytes hold its file, `resumable` answers yes.
-- So no call after begin or a slice is refused by 16.
use Rattle.std.specs.Prelude.{is_ok, ℕ, ◌<◌, ◌≤◌, ◌≡◌, refl, Bool, true, take}
use Rattle.std.proofs.Common.{sym, ◌∙◌, subst}
use Rattle.std.proofs.Math.Path.{ap}
use Rattle.std.proofs.Math.Option.{Option, some}
use mathlib.Core.List.{List, map}
use native.Mathlib.Omega.{arith}
use Rattle.std.proofs.Math.ListN.{length, length-take}
use Rattle.std.proofs.lemmas.List.{length-map}
use Rattle.net_file.specs.Lists.{Result, ok}
use Rattle.net_file.specs.Values.{FlatNet, File}
use Rattle.net_file.specs.Checks.{flat, read, write}
use Rattle.net_file_laws.specs.Bytes.{Bytes}
use Rattle.net_file_laws.proofs.RoundTrip.{flat_write_read}
use Rattle.net_check.specs.Verdict.{verdict}
use Rattle.layout.specs.Layout.{file_length}
use Rattle.definitions.specs.Lists.{nth}
use Rattle.definitions.specs.Nets.{Home}
use Rattle.definitions.specs.State.{Net, Pools, Engine, homes, net_at}
use Rattle.definitions.specs.Load.{included}
use Rattle.definitions.specs.Calls.{Held, pools_fit}
use Rattle.waiter_laws.specs.Waiters.{Waited}
use Rattle.fuel_laws.specs.Reached.{Reached}
use Rattle.reached_laws.specs.Wires.{home_at}
use Rattle.reached_laws.specs.Image.{Image, LeftBy, left_run, reached_image}
use Rattle.means.specs.Means.{Means}
use Rattle.held_names.specs.Named.{Named}
use Rattle.image.specs.Image.{file_holds, books_hold, words_hold, held, resumable}
use Rattle.image_means.specs.Yes.{given_yes, most_yes}
use Rattle.image_means.specs.Tidy.{Tidy}
use Rattle.image_means.specs.Head.{header_passes, steps_pass}
use Rattle.image_nets_means.specs.Nets.{nets_pass}
use Rattle.image_slots_means.specs.Slots.{slots_pass}
use Rattle.image_dirty_means.specs.Dirty.{dirty_passes}
use Rattle.image_waits_means.specs.Waits.{waits_pass}
use Rattle.image_lists_means.proofs.Pools.{pools_pass}

-- a file that is read is accepted
file_passes : (s : List ℕ) (f : File FlatNet) → read flat s ≡ ok f → file_holds s ≡ true
unfolding file_holds verdict
file_passes s f e = ap (λ (r : Result (File FlatNet)). is_ok (verdict r)) e

module _ (s : List ℕ) (f : File FlatNet) (reads : read flat s ≡ ok f) (p : Pools) (ws : List ℕ) (e : Engine) (m : Means (Named s f) ws e)
    (tidy : Tidy s ws e) (image : Image p f e) where
  -- a wait names a slot and a net
  waits_of : Waited e.pools.nodes (length e.nets) e
  waits_of k w i =
      let a = image.waits k w i in
      let b : length e.nets ≡ length (included f)
      = sym (length-map (homes e) (λ (h : Home). h.name) ∙ length-map e.nets (λ (n : Net). n.home))
      ∙ ap (λ (l : List ℕ). length l) image.file.names ∙ length-map (included f) (λ (t : FlatNet). t.name) in
      (subst (λ (q : Pools). w.node < q.nodes) (sym image.file.pools) a.0, subst (λ (j : ℕ). w.net < j) (sym b) a.1)

  -- a list's first entry is the free node
  firsts : (k : ℕ) → k < length e.nets → nth (net_at e k).list.items 0 ≡ some (net_at e k).home.free
  firsts k h = image.firsts k (net_at e k).home (home_at e k h)

  words_pass : words_hold ws s ≡ true
  unfolding words_hold books_hold
  words_pass =
      given_yes _ _ (steps_pass (Named s f) s ws e m f reads p image.file image.books)
      (given_yes _ _ (nets_pass (Named s f) s f reads ws e m tidy p image)
      (given_yes _ _ (slots_pass s f reads ws e m tidy p image)
      (given_yes _ _ (pools_pass (Named s f) ws e m image.books firsts)
      (given_yes _ _ (dirty_passes (Named s f) ws e m (λ _. 0) image.books) (waits_pass (Named s f) ws e m image.books waits_of image.idle)))))

  image_resumable : (bytes : List ℕ) → take (length s) bytes ≡ s → resumable e.pools.nodes e.pools.entries e.pools.waits ws bytes ≡ true
  unfolding resumable held
  image_resumable bytes h =
      let l : length s ≤ length bytes = let a : length (take (length s) bytes) ≡ length s = ap (λ (l : List ℕ). length l) h in let b = length-take (length s) bytes in omega arith in
      given_yes _ _ (header_passes (Named s f) s ws e m tidy)
      (rw (tidy.file, h) (most_yes (length s) (length bytes) _ l (given_yes _ _ (file_passes s f reads) words_pass)))

-- `reached-is-image`
pub reached_resumable : (s : List ℕ) → Bytes s → (f : File FlatNet) → read flat s ≡ ok f → (p : Pools) → pools_fit p ≡ true → {e : Engine} → Reached p f e
    → (ws bytes : List ℕ) → Means (Named s f) ws e → Tidy s ws e → take (length s) bytes ≡ s → resumable p.nodes p.entries p.waits ws bytes ≡ true
reached_resumable s b f reads p fit {e} r ws bytes m tidy h =
    let image = reached_image s b f reads p fit r in
    subst (λ (q : Pools). resumable q.nodes q.entries q.waits ws bytes ≡ true) image.file.pools (image_resumable s f reads p ws e m tidy image bytes h)

-- what calls leave: the words of a run that begin, and slice calls after it, left in a workspace, with its file in the bytes
pub left_resumable : {p : Pools} {h : Held} → LeftBy p h → (ws bytes : List ℕ) → Means (Named (write flat h.file) h.file) ws h.engine → Tidy (write flat h.file) ws h.engine
    → take (length (write flat h.file)) bytes ≡ write flat h.file → resumable p.nodes p.entries p.waits ws bytes ≡ true
left_resumable {p} {h} l ws bytes m tidy b =
    let r = left_run l in
    let s : write flat h.file ≡ r.bytes = (flat_write_read r.bytes r.are h.file r.read).bytes in
    reached_resumable (write flat h.file) (subst Bytes (sym s) r.are) h.file (ap (read flat) s ∙ r.read) p r.fits r.reached ws bytes m tidy b
