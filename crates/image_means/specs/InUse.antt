-- A slot that holds a node is in use, and its words are the node's.
use Rattle.std.specs.Prelude.{ℕ, zero, suc, ◌+◌, ◌<◌, ◌≤◌, ◌≡◌, refl, Bool, true, false, length, get_or, eqb}
use Rattle.std.proofs.Common.{sym, ap, ◌∙◌, subst, arith, eqb-true}
use Rattle.std.proofs.lemmas.Bool.{false≢true}
use Rattle.std.proofs.Math.Option.{Option, none, some}
use mathlib.Core.List.{List, [], ◌∷◌, ◌++◌, Memᴰ}
use Rattle.std.proofs.Math.Decide.{dec_lt, ℕ_discrete}
use Rattle.net_file.specs.Values.{Name}
use Rattle.definitions.specs.Lists.{from}
use Rattle.definitions.specs.Nets.{Node, Graph, holds}
use Rattle.definitions.specs.State.{Engine, graph_of}
use Rattle.join_laws.specs.Ports.{Frame, frame_of, frame, in_net, holds_frame}
use Rattle.good_laws.specs.Owners.{owner, owners, owner_at}
use Rattle.good_laws.specs.Good.{Good}
use Rattle.means.specs.Means.{SlotIs, Means}

pub from_mem : (n k i : ℕ) → k ≤ i → i < k + n → Memᴰ i (from k n)
from_mem zero k i l h = absurd (omega arith)
from_mem (suc n) k i l h = elim (ℕ_discrete i k) [ yes e ↦ mathlib.Core.List.Memᴰ.head e | no d ↦ mathlib.Core.List.Memᴰ.tail (from_mem n (suc k) i (omega arith) (omega arith)) ]

-- a node's owner is its net
pub owner_frame : (g : Graph) (n : ℕ) (x : Frame) → frame g n ≡ some x → get_or (owners g) n none ≡ some x.net
unfolding frame
owner_frame g n x e = owner_at g n ∙ go (get_or g n none) e
  where
    go : (o : Option Node) → frame_of o ≡ some x → owner o ≡ some x.net
    go none e = absurd (let z : ◌≡◌ {A = ℕ} 0 1 = cc in omega arith)
    go (some y) e = cc

pub owner_none : (g : Graph) (n : ℕ) → frame g n ≡ none → get_or (owners g) n none ≡ none
unfolding frame
owner_none g n e = owner_at g n ∙ go (get_or g n none) e
  where
    go : (o : Option Node) → frame_of o ≡ none → owner o ≡ none
    go none e = refl
    go (some y) e = absurd (let z : ◌≡◌ {A = ℕ} 0 1 = cc in omega arith)

-- the frame of a node that net k holds
pub record Held (g : Graph) (k n : ℕ) : Type 0 where
  pub node : Frame
  pub is : frame g n ≡ some node
  pub net : node.net ≡ k

pub held : (g : Graph) (k n : ℕ) → holds g k n ≡ true → Held g k n
held g k n h = go (frame g n) refl (sym (holds_frame g n k) ∙ h)
  where
    go : (o : Option Frame) → frame g n ≡ o → in_net k o ≡ true → Held g k n
    go none e i = absurd (false≢true i)
    go (some x) e i = record { node = x; is = e; net = eqb-true x.net k i }

module _ (Named : ℕ → Name → Type 0) (ws : List ℕ) (e : Engine) (m : Means Named ws e) where
  -- a node's slot is one of the pool's
  pub frame_inside : (n : ℕ) (x : Frame) → frame (graph_of e) n ≡ some x → n < e.pools.nodes
  frame_inside n x h = elim (dec_lt n e.pools.nodes) [ yes l ↦ l | no l ↦ absurd (let o = m.nodes.inside n (omega arith) in let z : ◌≡◌ {A = ℕ} 0 1 = cc in omega arith) ]

  -- its words
  pub frame_words : (n : ℕ) (x : Frame) → frame (graph_of e) n ≡ some x → SlotIs Named ws n (some x)
  frame_words n x h = subst (SlotIs Named ws n) h (m.nodes.slot n (frame_inside n x h))

  module _ (r : ℕ → ℕ) (g : Good r e) where
    -- it is in use, and its net is one of the run
    pub frame_used : (n : ℕ) (x : Frame) → frame (graph_of e) n ≡ some x → n < get_or ws 9 0
    frame_used n x h = elim (dec_lt n (get_or ws 9 0)) [ yes l ↦ l | no l ↦ absurd (clash (omega arith)) ]
      where
        clash : get_or ws 9 0 ≤ n → ⊥
        clash l =
            let i = frame_inside n x h in
            let a = m.vacant.all in
            let c : Memᴰ n e.slots.chain = subst (Memᴰ n) (sym m.vacant.is) (mathlib.Core.List.Memᴰ.append_right m.vacant.freed (from_mem m.vacant.never (get_or ws 9 0) n l (omega arith))) in
            let o = (g.slotted.vacant n c).1 in
            let p = owner_frame (graph_of e) n x h in
            let z : ◌≡◌ {A = ℕ} 0 1 = cc in omega arith

    pub frame_net : (n : ℕ) (x : Frame) → frame (graph_of e) n ≡ some x → x.net < length e.nets
    frame_net n x h = g.slotted.owned n x.net (owner_frame (graph_of e) n x h)
