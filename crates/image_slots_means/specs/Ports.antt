-- The ports of a node of a run pass: across from each is another port of the net, and across from that is the first.
use Rattle.std.specs.Prelude.{ℕ, ◌+◌, ◌*◌, ◌-◌, ◌/◌, ◌%◌, ◌<◌, ◌≤◌, ◌≡◌, ◌≢◌, Bool, true, false, List, length, get_or, eqb, ltb}
use Rattle.std.proofs.Math.Path.{refl, ap}
use Rattle.std.proofs.Common.{sym, ◌∙◌, subst, lt-ltb}
use Rattle.std.proofs.lemmas.Bool.{false≢true}
use Rattle.std.proofs.Math.Option.{Option, none, some}
use native.Mathlib.Omega.{arith}
use Rattle.net_file.specs.Values.{Name}
use Rattle.definitions.specs.Lists.{or_else, is_some}
use Rattle.definitions.specs.Nets.{Port, Graph, port, at, arity, across, follow}
use Rattle.definitions.specs.State.{Engine, graph_of}
use Rattle.layout.specs.Layout
use Rattle.layout.specs.Layout.{node_word, principal, node_of}
use Rattle.join_laws.specs.Ports.{Frame, no_frame, frame, arity_frame, net_frame, across_real, same_port_lem, Real}
use Rattle.script_laws.specs.Tidy.{WellWired}
use Rattle.good_laws.specs.Good.{Good}
use Rattle.means.specs.Means.{number, Means}
use Rattle.means.specs.Frame.{real_inside}
use Rattle.image_slots.specs.Slots.{has_port, is_port, port_holds, ports_hold}
use Rattle.image_means.specs.Yes.{same_yes, other_yes, below_yes, most_yes, each_yes}
use Rattle.image_means.specs.InUse.{frame_words, frame_used}

-- a port that exists is a node's
pub record RealAt (g : Graph) (p : Port) : Type 0 where
  pub node : Frame
  pub is : frame g p.node ≡ some node
  pub net : (at g p.node).net ≡ node.net
  pub low : p.index < node.size

pub real_at : (g : Graph) (p : Port) → Real g p → RealAt g p
real_at g p r = go (frame g p.node) refl (subst (λ (k : ℕ). p.index < k) (arity_frame g p.node) r) (net_frame g p.node)
  where
    go : (o : Option Frame) → frame g p.node ≡ o → p.index < (or_else (frame g p.node) no_frame).size → (at g p.node).net ≡ (or_else (frame g p.node) no_frame).net → RealAt g p
    go none e l n = absurd (let z : (or_else (frame g p.node) no_frame).size ≡ 0 = ap (λ (o : Option Frame). (or_else o no_frame).size) e in omega arith)
    go (some x) e l n = record {
      node = x;
      is = e;
      net = n ∙ ap (λ (o : Option Frame). (or_else o no_frame).net) e;
      low = subst (λ (k : ℕ). p.index < k) (ap (λ (o : Option Frame). (or_else o no_frame).size) e) l;
    }

-- the port across, where there is one
pub record Across (g : Graph) (p : Port) : Type 0 where
  pub other : Port
  pub is : across g p ≡ some other
  pub follows : follow g p ≡ other

pub full_across : (g : Graph) → WellWired g → (p : Port) → Real g p → Across g p
unfolding follow
full_across g w p r = go (across g p) refl (w.full p r)
  where
    go : (o : Option Port) → across g p ≡ o → is_some (across g p) ≡ true → Across g p
    go none e t = absurd (false≢true (ap is_some (sym e) ∙ t))
    go (some q) e t = record { other = q; is = e; follows = ap (λ (o : Option Port). or_else o p) e }

pub follow_some : (g : Graph) (p q : Port) → across g p ≡ some q → follow g p ≡ q
unfolding follow
follow_some g p q e = ap (λ (o : Option Port). or_else o p) e

module _ (Named : ℕ → Name → Type 0) (ws : List ℕ) (e : Engine) (m : Means Named ws e) (r : ℕ → ℕ) (good : Good r e) (well : WellWired (graph_of e)) where
  is_port_passes : (q : Port) → Real (graph_of e) q → (t : ℕ) → (at (graph_of e) q.node).net + 1 ≡ t → is_port ws t (number q) ≡ true
  unfolding is_port has_port
  is_port_passes q real t et =
      let x = real_at (graph_of e) q real in
      let i = real_inside m.nodes q real in
      let i₀ = i.0 in
      let i₁ = i.1 in
      let low = x.low in
      let n : node_of (number q) ≡ q.node = omega arith in
      let c : number q % 32 ≡ 8 + q.index = omega arith in
      let w = frame_words Named ws e m q.node x.node x.is in
      let w₂ = w.2 in
      rw (n, c) (below_yes _ _ _ (frame_used Named ws e m r good q.node x.node x.is)
      (same_yes _ _ _ (w.0 ∙ ap (λ j. j + 1) (sym x.net) ∙ et) (most_yes _ _ _ (omega arith) (lt-ltb (8 + q.index - 8) (node_word ws q.node 3) (omega arith)))))

  port_passes : (p : Port) → Real (graph_of e) p → (t : ℕ) → (at (graph_of e) p.node).net + 1 ≡ t → port_holds ws t (number p) ≡ true
  unfolding port_holds
  port_passes p real t et =
      let c = full_across (graph_of e) well p real in
      let q = c.other in
      let back = well.wired.back p q c.is in
      let realq = across_real (graph_of e) q p back in
      let a : Layout.across ws (number p) ≡ number q = m.nodes.port p real ∙ ap (λ (x : Port). number x) c.follows in
      let b : Layout.across ws (number q) ≡ number p = m.nodes.port q realq ∙ ap (λ (x : Port). number x) (follow_some (graph_of e) q p back) in
      let i = (real_inside m.nodes p real).1 in
      let j = (real_inside m.nodes q realq).1 in
      let d : number q ≢ number p = λ s. well.wired.apart p (c.is ∙ ap {B = Option Port} some (same_port_lem q p (omega arith) (omega arith))) in
      rw (a, b) (other_yes (number q) (number p) _ d (same_yes (number p) (number p) _ refl
      (is_port_passes q realq t (ap (λ k. k + 1) (sym (well.wired.within p q c.is)) ∙ et))))

  -- `ports-hold` answers yes
  pub ports_pass : (n k t : ℕ) → k ≤ arity (graph_of e) n → (at (graph_of e) n).net + 1 ≡ t → n < 4096 → ports_hold ws t (principal n) k ≡ true
  unfolding ports_hold
  ports_pass n k t h et l =
      let few = m.nodes.few n in
      let z : principal n ≡ 32 * n + 8 = omega arith in
      rw z (each_yes (port_holds ws t) (32 * n + 8) k (omega arith) (λ j a b.
      let x : j ≡ 32 * n + (8 + (j - (32 * n + 8))) = omega arith in
      rw x (port_passes (port n (j - (32 * n + 8))) (omega arith) t et)))
