-- The clone map: word 5 of a slot holds the number of the copy that a graft makes of its node. No part of `Means` reads it.
use Rattle.std.specs.Prelude.{ℕ, ◌<◌, ◌≡◌, List, get_or}
use Rattle.std.proofs.Common.{arith}
use Rattle.layout.specs.Layout.{node_word}
use Rattle.net_file.specs.Values.{Name}
use Rattle.definitions.specs.State.{Engine}
use Rattle.means.specs.Means.{Means}
use Rattle.means.specs.Frame.{SlotWords, Rest, header_keep, nodes_keep, marks_keep, vacant_keep, dirty_keep, used_keep, nets_keep, lists_keep, awaits_keep}

-- where it stands, of N slots
abbrev pub CloneWords : ℕ → ℕ → Type 0
CloneWords N i = SlotWords N 5 1 i

-- all other words
abbrev pub OutClones : ℕ → ℕ → Type 0
OutClones N i = CloneWords N i → ⊥

-- the first k of the nodes have copies, by these numbers
abbrev pub Clones : List ℕ → (ℕ → ℕ) → List ℕ → ℕ → Type 0
Clones ws fresh ids k = (i : ℕ) → i < k → node_word ws (get_or ids i 0) 5 ≡ fresh i

-- a write there changes no part of the engine
pub means_clones : (Named : ℕ → Name → Type 0) (ws w : List ℕ) (e : Engine) → Means Named ws e → Rest (OutClones e.pools.nodes) ws w → Means Named w e
means_clones Named ws w e m r = record {
  header = header_keep ws w r.long (λ i p. r.same i (omega arith)) m.header;
  used = used_keep Named ws w e m (λ i p. r.same i (omega arith)) (λ i p. r.same i (omega arith));
  nodes = nodes_keep ws w (λ i p. r.same i (omega arith)) m.nodes;
  marks = marks_keep ws w (λ i p. r.same i (omega arith)) m.marks;
  vacant = vacant_keep ws w m.header.few_nodes (λ i p. r.same i (omega arith)) (λ i p. r.same i (omega arith)) m.vacant;
  dirty = dirty_keep ws w (λ i p. r.same i (omega arith)) (λ i p. r.same i (omega arith)) m.dirty;
  nets = nets_keep Named ws w e m (λ k h i p. let b = m.header.few_nets in r.same i (omega arith));
  lists = lists_keep Named ws w e m (λ i p. r.same i (omega arith)) (λ i p. r.same i (omega arith)) (λ i p. r.same i (omega arith));
  waits_are = awaits_keep Named ws w e m (λ i p. r.same i (omega arith)) (λ i p. r.same i (omega arith)) (λ i p. r.same i (omega arith));
}
