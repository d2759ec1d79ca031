-- The dead list: words 32 on hold the nodes that are to go when the edit is finished, word 17 says how many. No part of `Means` reads these words.
use Prim.Native.Nat.{ℕ, ◌+◌, ◌<◌, ◌≤◌}
use Rattle.std.specs.Prelude.{◌≡◌, length, get_or}
use Rattle.std.proofs.Common.{◌∙◌, sym, get_or-set_other, arith}
use mathlib.Core.List.{List, [], ◌∷◌, ◌++◌}
use Rattle.std.proofs.Math.ListN.{set, length-set, length-append, get_or-append}
use Rattle.std.proofs.Math.Seq.{get_or-set_same, get_or-append_seam}
use Rattle.std.proofs.Math.Decide.{ℕ_discrete}
use Rattle.layout.specs.Layout.{next, dead}
use Rattle.graph.specs.Graph.{remove_node}
use Rattle.net_file.specs.Values.{Name}
use Rattle.definitions.specs.State.{Engine}
use Rattle.means.specs.Means.{Means}
use Rattle.means.specs.Frame.{HeadWords, Keep, Rest, rest_set, rest_trans, header_keep, nodes_keep, marks_keep, vacant_keep, dirty_keep, used_keep, nets_keep, lists_keep, awaits_keep}

-- where it stands
abbrev pub DeadWords : ℕ → Type 0
DeadWords i = HeadWords 17 47 i

-- all other words
abbrev pub OutDead : ℕ → Type 0
OutDead i = DeadWords i → ⊥

-- the nodes l are to go, in this order
pub record Dead (ws : List ℕ) (l : List ℕ) : Type 0 where
  pub count : dead ws ≡ length l
  pub few : length l ≤ 32
  pub item : (i : ℕ) → i < length l → get_or ws (32 + i) 0 ≡ get_or l i 0

pub dead_keep : {ws w l : List ℕ} → Keep DeadWords ws w → Dead ws l → Dead w l
dead_keep f d = record {
  count = f 17 (omega arith) ∙ d.count;
  few = d.few;
  item = λ i h. let z = d.few in f (32 + i) (omega arith) ∙ d.item i h;
}

-- none is to go
pub dead_none : {ws : List ℕ} → dead ws ≡ 0 → Dead ws []
dead_none e = record { count = e; few = omega arith; item = λ i h. absurd (omega arith) }

-- a write there changes no part of the engine
pub means_dead : (Named : ℕ → Name → Type 0) (ws w : List ℕ) (e : Engine) → Means Named ws e → Rest OutDead ws w → Means Named w e
means_dead Named ws w e m r = record {
  header = header_keep ws w r.long (λ i p. r.same i (omega arith)) m.header;
  used = used_keep Named ws w e m (λ i p. r.same i (omega arith)) (λ i p. r.same i (omega arith));
  nodes = nodes_keep ws w (λ i p. r.same i (omega arith)) m.nodes;
  marks = marks_keep ws w (λ i p. r.same i (omega arith)) m.marks;
  vacant = vacant_keep ws w m.header.few_nodes (λ i p. r.same i (omega arith)) (λ i p. r.same i (omega arith)) m.vacant;
  dirty = dirty_keep ws w (λ i p. r.same i (omega arith)) (λ i p. r.same i (omega arith)) m.dirty;
  nets = nets_keep Named ws w e m (λ k h i p. r.same i (omega arith));
  lists = lists_keep Named ws w e m (λ i p. r.same i (omega arith)) (λ i p. r.same i (omega arith)) (λ i p. r.same i (omega arith));
  waits_are = awaits_keep Named ws w e m (λ i p. r.same i (omega arith)) (λ i p. r.same i (omega arith)) (λ i p. r.same i (omega arith));
}

module _ (ws l : List ℕ) (n : ℕ) (d : Dead ws l) (room : length l < 32) where
  -- one more node is to go; the engine is as it was
  pub remove_node_means : (Named : ℕ → Name → Type 0) (e : Engine) → Means Named ws e → Means Named (remove_node ws n) e
  unfolding remove_node
  remove_node_means Named e m =
      let c = d.count in
      let w = set ws (32 + dead ws) n in
      means_dead Named ws (set w 17 (next (dead ws))) e m
      (rest_trans (rest_set OutDead ws (32 + dead ws) n (λ i o x. o (omega arith))) (rest_set OutDead w 17 (next (dead ws)) (λ i o x. o (omega arith))))

  pub remove_node_dead : 64 ≤ length ws → Dead (remove_node ws n) (l ++ n ∷ [])
  unfolding remove_node
  remove_node_dead long = record {
    count = get_or-set_same w 17 (next (dead ws)) 0 (let s = length-set ws (32 + dead ws) n in omega arith) ∙ (let c = d.count in let s = length-append l (n ∷ []) in omega arith);
    few = let s = length-append l (n ∷ []) in omega arith;
    item = λ i h. go i (let s = length-append l (n ∷ []) in omega arith) (ℕ_discrete i (length l));
  }
    where
      w : List ℕ
      w = set ws (32 + dead ws) n

      go : (i : ℕ) → i < length l + 1 → Dec (i ≡ length l) → get_or (set (set ws (32 + dead ws) n) 17 (next (dead ws))) (32 + i) 0 ≡ get_or (l ++ n ∷ []) i 0
      go i h (yes e) =
          let c = d.count in
          let same : 32 + i ≡ 32 + dead ws = omega arith in
          get_or-set_other w 17 (32 + i) (next (dead ws)) 0 (omega arith) ∙ rw (same, e, get_or-append_seam l n [] 0) (get_or-set_same ws (32 + dead ws) n 0 (omega arith))
      go i h (no e) =
          let c = d.count in
          get_or-set_other w 17 (32 + i) (next (dead ws)) 0 (omega arith) ∙ get_or-set_other ws (32 + dead ws) (32 + i) n 0 (omega arith) ∙ d.item i (omega arith)
          ∙ sym (get_or-append l (n ∷ []) 0 i (omega arith))
