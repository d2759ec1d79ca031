-- What holds all through a run, with the mark and the file's length in the words, makes them tidy: so `resumable` answers yes.
use Rattle.std.specs.Prelude.{ℕ, ◌<◌, ◌≡◌, true, List, length, get_or, take}
use Rattle.std.proofs.Common.{sym, ap, ◌∙◌, subst}
use Rattle.std.proofs.Math.Option.{some, some-injective}
use Rattle.net_file.specs.Lists.{ok}
use Rattle.net_file.specs.Values.{FlatNet, File}
use Rattle.net_file.specs.Checks.{flat, read}
use Rattle.net_file_laws.specs.Bytes.{Bytes}
use Rattle.layout.specs.Layout.{file_length, node_word}
use Rattle.definitions.specs.Lists.{nth}
use Rattle.definitions.specs.Nets.{Home, holds}
use Rattle.definitions.specs.State.{Pools, Engine, graph_of, homes, net_at}
use Rattle.definitions.specs.Calls.{pools_fit}
use Rattle.join_laws.specs.Ports.{Frame}
use Rattle.graph_laws.specs.Rest.{holds_filled}
use Rattle.good_laws.specs.Good.{rest}
use Rattle.fuel_laws.specs.Reached.{Reached}
use Rattle.reached_laws.specs.Wires.{home_at}
use Rattle.reached_laws.specs.Image.{Image, reached_image}
use Rattle.held_names.specs.Named.{Named}
use Rattle.acts_means.specs.Holds.{Holds}
use Rattle.image.specs.Image.{resumable}
use Rattle.image_means.specs.InUse.{held, frame_net}
use Rattle.image_means.specs.Tidy.{Tidy}
use Rattle.resumable_means.specs.Resumable.{reached_resumable}
use Rattle.held_means.specs.Names.{by_name, each_name}

module _ (s : List ℕ) (is : Bytes s) (f : File FlatNet) (reads : read flat s ≡ ok f) (p : Pools) (fit : pools_fit p ≡ true) (e : Engine) (r : Reached p f e)
    (ws : List ℕ) (h : Holds s f rest ws e) where
  image : Image p f e
  image = reached_image s is f reads p fit r

  free_at : (k : ℕ) → k < length e.nets → node_word ws (net_at e k).home.free 1 ≡ 0
  free_at k l =
      let a = home_at e k l in
      h.places.1 k (net_at e k).home a (holds_filled (graph_of e) k (net_at e k).home.free (image.wired.free k (net_at e k).home a).held)

  -- a node of net k whose name has the place 0 is some net's free node, so k's
  free_only : (k n : ℕ) → holds (graph_of e) k n ≡ true → node_word ws n 1 ≡ 0 → (net_at e k).home.free ≡ n
  free_only k n y z =
      let o = h.places.0 n (image.wired.ported n (holds_filled (graph_of e) k n y)) z in
      let a = held (graph_of e) k n y in
      let b = held (graph_of e) o.0 n (subst (λ (i : ℕ). holds (graph_of e) o.0 i ≡ true) o.3 (image.wired.free o.0 o.1 o.2).held) in
      let same : k ≡ o.0 = sym a.net ∙ ap (λ (x : Frame). x.net) (some-injective a.node b.node (sym a.is ∙ b.is)) ∙ b.net in
      let low : k < length e.nets = subst (λ (i : ℕ). i < length e.nets) a.net (frame_net (Named s f) ws e h.means rest image.books n a.node a.is) in
      let home : (net_at e k).home ≡ o.1 = some-injective (net_at e k).home o.1 (sym (home_at e k low) ∙ ap (nth (homes e)) same ∙ o.2) in
      ap (λ (x : Home). x.free) home ∙ o.3

  pub holds_tidy : get_or ws 0 0 ≡ 1 → file_length ws ≡ length s → Tidy s ws e
  holds_tidy one long = record {
    mark = one;
    file = long;
    none_dead = h.none_dead;
    by_name = by_name s is f reads p e image.file ws h.called;
    names = each_name s is f reads p e image.file ws h.called;
    free_at = free_at;
    free_only = free_only;
  }

-- the words of a run, with its file in the bytes
pub held_resumable : (s : List ℕ) → Bytes s → (f : File FlatNet) → read flat s ≡ ok f → (p : Pools) → pools_fit p ≡ true → {e : Engine} → Reached p f e
    → (ws bytes : List ℕ) → Holds s f rest ws e → get_or ws 0 0 ≡ 1 → file_length ws ≡ length s → take (length s) bytes ≡ s
    → resumable p.nodes p.entries p.waits ws bytes ≡ true
held_resumable s is f reads p fit {e} r ws bytes h one long t =
    reached_resumable s is f reads p fit r ws bytes h.means (holds_tidy s is f reads p fit e r ws h one long) t
