-- What the laws of the result ask of an engine that was reached, and what is left to ask of the words: where the names of its nodes stand.
use Rattle.std.specs.Prelude.{ℕ, zero, suc, ◌+◌, ◌≤◌, ◌<◌, ◌≢◌, Bool, true, length, get_or}
use Rattle.std.proofs.Math.Path.{◌≡◌, refl, subst}
use Rattle.std.proofs.Common.{sym, ap, ◌∙◌, arith, eqb-true}
use Rattle.std.proofs.Math.Decide.{ℕ_discrete}
use Rattle.std.proofs.lemmas.Bool.{false≢true}
use Rattle.std.proofs.Math.Option.{Option, none, some}
use mathlib.Core.List.{List, Memᴰ}
use Rattle.layout.specs.Layout.{node_word}
use Rattle.net_file.specs.Values.{Name, FlatNet, File}
use Rattle.net_file.specs.Write.{write_name}
use Rattle.net_file_laws.specs.Bytes.{Bytes}
use Rattle.stored.specs.Stored.{name_at, name_end}
use Rattle.definitions.specs.Lists.{from}
use Rattle.definitions.specs.Nets.{Node, Graph, holds, name_of}
use Rattle.definitions.specs.State.{Ids, Net, Pools, Engine, graph_of, net_at}
use Rattle.join_laws.specs.Ports.{Frame, frame_of, frame}
use Rattle.graph_laws.specs.Rest.{Rest, holds_filled}
use Rattle.dirty_laws.specs.Tally.{tally_same}
use Rattle.dirty_laws.specs.Listed.{Listed}
use Rattle.good_laws.specs.Owners.{owner, owners, is_of, owner_at, holds_owner}
use Rattle.good_laws.specs.Good.{Slotted, Good, live_in}
use Rattle.reached_laws.specs.Wires.{home_at}
use Rattle.reached_laws.specs.Accepted.{free_number}
use Rattle.reached_laws.specs.Image.{Image}
use Rattle.means.specs.Means.{Vacant, Means}
use Rattle.parts_placed.specs.Names.{name_copied, name_children}
use Rattle.measure_means.specs.Slots.{Marked}
use Rattle.measure_means.specs.Lengths.{Lists}
use Rattle.result_means.specs.Net.{Writable}

-- a free node has the place 0; every other node a place of the file where its name stands
pub record Places (ws s : List ℕ) (e : Engine) : Type 0 where
  pub free : (k n : ℕ) → holds (graph_of e) k n ≡ true → n ≡ (net_at e k).home.free → node_word ws n 1 ≡ 0
  pub placed : (k n : ℕ) → holds (graph_of e) k n ≡ true → n ≢ (net_at e k).home.free → node_word ws n 1 ≢ 0
  pub inside : (k n : ℕ) → holds (graph_of e) k n ≡ true → n ≢ (net_at e k).home.free → name_end s (node_word ws n 1) ≤ length s
  pub name : (k n : ℕ) → holds (graph_of e) k n ≡ true → n ≢ (net_at e k).home.free → name_of (graph_of e) n ≡ name_at s (node_word ws n 1)

from_mem : (k i n : ℕ) → i ≤ n → n < i + k → Memᴰ n (from i k)
from_mem zero i n l u = absurd (omega arith)
from_mem (suc k) i n l u = elim (ℕ_discrete n i) [ yes e ↦ mathlib.Core.List.Memᴰ.head e | no e ↦ mathlib.Core.List.Memᴰ.tail (from_mem k (suc i) n (omega arith) (omega arith)) ]

module _ (p : Pools) (f : File FlatNet) (e : Engine) (image : Image p f e) where
  pub image_lists : (k : ℕ) → k < length e.nets → Lists e k
  image_lists k h =
      let b = image.books.lists k h in
      record {
        low = b.slots;
        there = λ n i. b.there n (sym (holds_owner (graph_of e) k n) ∙ i);
        ported = λ n i. image.wired.ported n (holds_filled (graph_of e) k n i);
      }

  -- a node's net is one of the nets
  image_net : (k n : ℕ) → holds (graph_of e) k n ≡ true → k < length e.nets
  image_net k n h = go (get_or (owners (graph_of e)) n none) refl (sym (holds_owner (graph_of e) k n) ∙ h)
    where
      go : (o : Option ℕ) → get_or (owners (graph_of e)) n none ≡ o → is_of k o ≡ true → k < length e.nets
      go none i x = absurd (false≢true x)
      go (some j) i x = image.books.slotted.owned n k (i ∙ ap {B = Option ℕ} some (eqb-true j k x))

  -- a slot never taken is vacant
  image_vacant : (Named : ℕ → Name → Type 0) (ws : List ℕ) → Means Named ws e → (n : ℕ) → get_or ws 9 0 ≤ n → n < e.pools.nodes → frame (graph_of e) n ≡ none
  unfolding frame
  image_vacant Named ws m n l u =
      let v = m.vacant in
      let all = v.all in
      let there : Memᴰ n e.slots.chain = subst (Memᴰ n) (sym v.is) (mathlib.Core.List.Memᴰ.append_right v.freed (from_mem v.never (get_or ws 9 0) n l (omega arith))) in
      go (get_or (graph_of e) n none) (sym (owner_at (graph_of e) n) ∙ (image.books.slotted.vacant n there).1)
    where
      go : (o : Option Node) → owner o ≡ none → frame_of o ≡ none
      go none i = refl
      go (some x) i = let z : ◌≡◌ {A = ℕ} 0 1 = cc in absurd (omega arith)

  module _ (ws s : List ℕ) (is : Bytes s) (places : Places ws s e) where
    pub image_writable : (k : ℕ) → k < length e.nets → Writable ws s e (free_number f) k
    image_writable k h =
        let b = image.books.lists k h in
        let same = tally_same (holds (graph_of e) k) (live_in (owners (graph_of e)) k) e.pools.nodes (λ n i. holds_owner (graph_of e) k n) in
        record {
          home = image.wired.free k (net_at e k).home (home_at e k h);
          spelt = λ n i d. name_copied s is (node_word ws n 1) (places.inside k n i d) ∙ ap write_name (sym (places.name k n i d));
          lists = image_lists k h;
          books = let c = b.counted in omega arith;
        }

    pub image_marked : (Named : ℕ → Name → Type 0) → Means Named ws e → Marked ws s e
    image_marked Named m = record {
      net = image_net;
      free = places.free;
      other = λ k n i d. (places.placed k n i d, name_children s is (node_word ws n 1) ∙ ap (λ (x : Name). length x.children) (sym (places.name k n i d)));
      vacant = image_vacant Named ws m;
    }
