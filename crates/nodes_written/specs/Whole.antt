-- A net whose nodes are still to be written: what the words say of it, after other nets were written.
use Rattle.std.specs.Prelude.{ℕ, ◌+◌, ◌*◌, ◌<◌, ◌≤◌, ◌≡◌, refl, ◌≢◌, ◌⊎◌, Bool, true, false, List, [], length, get_or}
use Rattle.std.proofs.Common.{sym, ap, ◌∙◌, inl, inr, true≢false, arith, eqb-true, eq-eqb}
use Rattle.std.proofs.lemmas.Bool.{false≢true, eqb-false}
use Rattle.std.proofs.Math.Option.{Option, none, some}
use Rattle.std.proofs.Math.Decide.{dec_lt, ℕ_discrete}
use Rattle.layout.specs.Layout.{node_at, node_word}
use Rattle.net_file.specs.Values.{Name}
use Rattle.definitions.specs.Lists.{or_else, is_some}
use Rattle.definitions.specs.Nets.{Port, Graph, port, at, filled, holds, name_of, arity, follow}
use Rattle.definitions.specs.State.{Net, Engine, graph_of, net_at}
use Rattle.join_laws.specs.Ports.{Frame, no_frame, in_net, frame, arity_frame, net_frame, filled_frame, holds_frame, Real, across_real}
use Rattle.script_laws.specs.Tidy.{WellWired, real_filled}
use Rattle.rule_laws.specs.Places.{Ported, follow_across, across_follow, follow_real}
use Rattle.graph_laws.specs.Rest.{FreeNode, holds_filled}
use Rattle.means.specs.Means.{number, Header, SlotIs, Nodes, NetIs, Means}
use Rattle.means.specs.Frame.{Rest, rest_trans}
use Rattle.wires_means.specs.Wires.{Region, Numbered}
use Rattle.nodes_written.specs.Nodes.{Spelt}
use Rattle.nodes_written.specs.Entries.{OutRegion, Says, Sheet}

-- ---- nodes of a net

-- a node of net k
abbrev pub Of : Engine → ℕ → ℕ → Type 0
Of e k n = holds (graph_of e) k n ≡ true

-- a slot that holds none
abbrev pub NotOf : Engine → ℕ → ℕ → Type 0
NotOf e k n = (n < e.pools.nodes) × (holds (graph_of e) k n ≡ false)

of_net : (g : Graph) (k n : ℕ) → holds g k n ≡ true → (at g n).net ≡ k
of_net g k n h = net_frame g n ∙ go (frame g n) (sym (holds_frame g n k) ∙ h)
  where
    go : (o : Option Frame) → in_net k o ≡ true → (or_else o no_frame).net ≡ k
    go none e = absurd (false≢true e)
    go (some f) e = eqb-true f.net k e

net_of : (g : Graph) (k n : ℕ) → filled g n ≡ true → (at g n).net ≡ k → holds g k n ≡ true
net_of g k n f h = holds_frame g n k ∙ go (frame g n) (sym (filled_frame g n) ∙ f) (sym (net_frame g n) ∙ h)
  where
    go : (o : Option Frame) → is_some o ≡ true → (or_else o no_frame).net ≡ k → in_net k o ≡ true
    go none e i = absurd (false≢true e)
    go (some f) e i = eq-eqb f.net k i

-- a slot that holds a node of net k, and one that holds none
pub apart_of : (g : Graph) (k n m : ℕ) → holds g k n ≡ true → holds g k m ≡ false → n ≢ m
apart_of g k n m a b e = true≢false (sym a ∙ ap (holds g k) e ∙ b)

module _ (Named : ℕ → Name → Type 0) (ws : List ℕ) (e : Engine) (m : Means Named ws e) where
  -- a node's slot is one of the slots
  pub of_inside : (k n : ℕ) → Of e k n → n < e.pools.nodes
  of_inside k n h = go (dec_lt n e.pools.nodes)
    where
      go : Dec (n < e.pools.nodes) → n < e.pools.nodes
      go (yes i) = i
      go (no i) = absurd (false≢true (sym (holds_frame (graph_of e) n k ∙ ap (in_net k) (m.nodes.inside n (omega arith))) ∙ h))

  pub region : (k : ℕ) → WellWired (graph_of e) → Region (graph_of e) e.pools.nodes (Of e k)
  region k w = record {
    wired = w;
    closed = λ p h real. net_of (graph_of e) k (follow (graph_of e) p).node (real_filled (graph_of e) (follow (graph_of e) p) (follow_real (graph_of e) w p real))
        (sym (w.wired.within p (follow (graph_of e) p) (follow_across (graph_of e) w p real)) ∙ of_net (graph_of e) k p.node h);
    few = m.nodes.few;
    inside = of_inside k;
    small = m.header.few_nodes;
  }

  -- a node's words
  slot_of : (k n : ℕ) → Of e k n → (node_word ws n 0 ≡ k + 1) × (node_word ws n 3 ≡ arity (graph_of e) n)
  slot_of k n h = go (frame (graph_of e) n) refl (m.nodes.slot n (of_inside k n h))
    where
      go : (o : Option Frame) → frame (graph_of e) n ≡ o → SlotIs Named ws n o → (node_word ws n 0 ≡ k + 1) × (node_word ws n 3 ≡ arity (graph_of e) n)
      go none i s = absurd (false≢true (sym (holds_frame (graph_of e) n k ∙ ap (in_net k) i) ∙ h))
      go (some f) i s =
          let j : f.net ≡ k = eqb-true f.net k (sym (holds_frame (graph_of e) n k ∙ ap (in_net k) i) ∙ h) in
          (s.0 ∙ ap (λ (q : ℕ). q + 1) j, s.2 ∙ sym (arity_frame (graph_of e) n ∙ ap (λ (o : Option Frame). (or_else o no_frame).size) i))

  -- a slot of none of them says another net, or none
  not_of : (k n : ℕ) → NotOf e k n → node_word ws n 0 ≢ k + 1
  not_of k n h = go (frame (graph_of e) n) refl (m.nodes.slot n h.0)
    where
      go : (o : Option Frame) → frame (graph_of e) n ≡ o → SlotIs Named ws n o → node_word ws n 0 ≢ k + 1
      go none i s z = omega arith
      go (some f) i s z = let j = s.0 in eqb-false f.net k (sym (holds_frame (graph_of e) n k ∙ ap (in_net k) i) ∙ h.1) (omega arith)

  -- the words w, where nodes of other nets may be written
  pub record Whole (k : ℕ) (w : List ℕ) : Type 0 where
    pub rest : Rest (OutRegion (NotOf e k)) ws w
    pub others : (n : ℕ) → NotOf e k n → node_word w n 0 ≢ k + 1

  -- before anything is written
  pub whole_first : (k : ℕ) → Whole k ws
  whole_first k = record { rest = record { long = refl; same = λ i o. refl }; others = not_of k }

  -- after nodes of net j were written
  pub whole_next : (k j : ℕ) (w y : List ℕ) → k ≢ j → Whole k w → Rest (OutRegion (Of e j)) w y
      → ((n : ℕ) → n < e.pools.nodes → (node_word y n 0 ≡ node_word w n 0) ⊎ (node_word y n 0 ≡ 0)) → Whole k y
  whole_next k j w y d b r z = record {
    rest = rest_trans b.rest (record { long = r.long; same = λ i o. r.same i (λ n h. o n (of_inside j n h, other n h)) });
    others = λ n h. go n h (z n h.0);
  }
    where
      other : (n : ℕ) → Of e j n → holds (graph_of e) k n ≡ false
      other n h = never (holds (graph_of e) k n) refl
        where
          never : (t : Bool) → holds (graph_of e) k n ≡ t → t ≡ false
          never true i = absurd (d (sym (of_net (graph_of e) k n i) ∙ of_net (graph_of e) j n h))
          never false i = refl

      go : (n : ℕ) → NotOf e k n → (node_word y n 0 ≡ node_word w n 0) ⊎ (node_word y n 0 ≡ 0) → node_word y n 0 ≢ k + 1
      go n h (inl i) q = b.others n h (sym i ∙ q)
      go n h (inr i) q = omega arith

  module _ (k : ℕ) (w : List ℕ) (b : Whole k w) where
    -- net k's own words, and those of no node, are as they were
    pub whole_word : (n f : ℕ) → Of e k n → f < 32 → get_or w (node_at n f) 0 ≡ get_or ws (node_at n f) 0
    whole_word n f h i = b.rest.same (node_at n f) (λ q o. let z = apart_of (graph_of e) k n q h o.1 in (omega arith, λ j l. omega arith))

    pub whole_low : (i : ℕ) → i < 5184 → get_or w i 0 ≡ get_or ws i 0
    whole_low i h = b.rest.same i (λ q o. (omega arith, λ j l. omega arith))

    pub whole_high : (i : ℕ) → 5184 + 32 * e.pools.nodes ≤ i → get_or w i 0 ≡ get_or ws i 0
    whole_high i h = b.rest.same i (λ q o. let z = o.0 in (omega arith, λ j l. omega arith))

    pub whole_numbered : Numbered (graph_of e) (Of e k) [] w
    whole_numbered p h real =
        let low = m.nodes.few p.node in
        let i : 5184 + number p ≡ node_at p.node (8 + p.index) = omega arith in
        let same : get_or w (5184 + number p) 0 ≡ get_or ws (5184 + number p) 0 = rw i (whole_word p.node (8 + p.index) h (omega arith)) in
        same ∙ m.nodes.port p real

    pub whole_says : (n : ℕ) → n < e.pools.nodes → Says (holds (graph_of e) k n) (k + 1) (node_word w n 0)
    whole_says n i = go (holds (graph_of e) k n) refl
      where
        go : (t : Bool) → holds (graph_of e) k n ≡ t → Says t (k + 1) (node_word w n 0)
        go true h = whole_word n 0 h (omega arith) ∙ (slot_of k n h).0
        go false h = b.others n (i, h)

    pub whole_sheet : (path : ℕ) (file : List ℕ) → k < length e.nets → WellWired (graph_of e) → Ported (graph_of e) → FreeNode path (graph_of e) k (net_at e k).home
        → ((n : ℕ) → Of e k n → n ≢ (net_at e k).home.free → Spelt file (node_word ws n 1) (name_of (graph_of e) n))
        → Sheet (graph_of e) (Of e k) file w (k + 1) (net_at e k).home.free
    unfolding net_at
    whole_sheet path file h well ported home spelt =
        let free = (net_at e k).home.free in
        let few = m.header.few_nets in
        record {
          free_is = whole_low _ (omega arith) ∙ (m.nets k h).free;
          size = λ n i. whole_word n 3 i (omega arith) ∙ (slot_of k n i).1;
          spelt = λ n i d. rw (whole_word n 1 i (omega arith)) (spelt n i d);
          ported = λ n i. ported n (holds_filled (graph_of e) k n i);
          two = let z = across_real (graph_of e) (port free 1) (port free 0) (well.wired.back (port free 0) (port free 1) home.wired) in z;
          own = across_follow (graph_of e) well (port free 0) (port free 1) home.wired;
          net = omega arith;
          few = omega arith;
        }
