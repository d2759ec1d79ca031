-- What trying a rule comes to on the words is what level Engine's script says: it passes, it is refused, or its edits are made and its dead
-- nodes are listed. Their removal is no part of this.
use Rattle.std.specs.Prelude.{ℕ, ◌+◌, ◌<◌, ◌≤◌, ◌≡◌, refl, true, List, [], ◌∷◌, ◌++◌, length, ltb}
use Rattle.std.proofs.Common.{sym, ap, ◌∙◌, eq-eqb, ne_eqb, lt-ltb, le-ltb, arith}
use Rattle.std.proofs.lemmas.Bool.{false≢true}
use Rattle.std.proofs.Math.Option.{Option, none, some}
use Rattle.std.proofs.Math.Decide.{dec_lt, ℕ_discrete}
use Rattle.words.specs.Choose.{pick, pick_true, pick_false}
use Rattle.words.specs.Left.{Left}
use Rattle.layout.specs.Layout.{steps, dead, node_word}
use Rattle.graph.specs.Graph.{remove_node}
use Rattle.tried.specs.declared.Tried.{Tried}
use Rattle.tried.specs.declared.Tried.TheVariants.{Passed, Acted, Refused}
use Rattle.tried.specs.Tries as Words
use Rattle.tried.specs.Tries.{spent}
use Rattle.net_file.specs.Lists.{Result, ok, refuse, need}
use Rattle.net_file.specs.Values.{Name, max_steps}
use Rattle.definitions.specs.Lists.{or_else, is_some, each}
use Rattle.definitions.specs.Nets.{Graph, at, filled, name_of, arity}
use Rattle.definitions.specs.Scripts.{Script}
use Rattle.definitions.specs.State.{Engine, graph_of}
use Rattle.definitions.specs.Books.{edit}
use Rattle.good_laws.specs.Good.{Good}
use Rattle.join_laws.specs.Ports.{Frame, no_frame, frame, arity_frame, name_frame, net_frame, filled_frame}
use Rattle.script_laws.specs.Tidy.{WellWired}
use Rattle.means.specs.Means.{SlotIs, Means}
use Rattle.script_means.specs.Dead.{Dead, dead_none, remove_node_means, remove_node_dead}
use Rattle.script_means.specs.Stage.{Stage}

-- a rule's edits came to this on the words, and to that on level Engine; the nodes l are to go
abbrev pub Came : (ℕ → Name → Type 0) → List ℕ → Left Tried → Result Engine → Type 0
Came Named l t (ok e) = (t.is ≡ Acted) × Means Named t.ws e × Dead t.ws l
Came Named l t (refuse r) = t.is ≡ Refused r

-- a rule was tried on words that mean e: no script, no change
abbrev pub Tries : (ℕ → Name → Type 0) → List ℕ → Engine → Left Tried → Option Script → Type 0
Tries Named ws e t none = t ≡ record { is = Passed; ws = ws }
Tries Named ws e t (some s) = Came Named s.dead t (need (ltb e.steps max_steps) 14 (each edit s.edits e))

-- between edits: the words mean the engine, its books are good, its nets well wired, and no node is to go
pub record Between (Named : ℕ → Name → Type 0) (x : ℕ → ℕ) (ws : List ℕ) (e : Engine) : Type 0 where
  pub means : Means Named ws e
  pub good : Good x e
  pub wired : WellWired (graph_of e)
  pub none_dead : dead ws ≡ 0

-- ---- what is read of a node

module _ (Named : ℕ → Name → Type 0) (ws : List ℕ) (e : Engine) (m : Means Named ws e) (n : ℕ) (h : filled (graph_of e) n ≡ true) where
  slot_below : n < e.pools.nodes
  slot_below = go (dec_lt n e.pools.nodes)
    where
      go : Dec (n < e.pools.nodes) → n < e.pools.nodes
      go (yes i) = i
      go (no i) = absurd (false≢true (sym (ap is_some (m.nodes.inside n (omega arith))) ∙ sym (filled_frame (graph_of e) n) ∙ h))

  pub slot_low : n < 4096
  slot_low = let a = slot_below in let b = m.header.few_nodes in omega arith

  slot_is : (node_word ws n 0 ≡ (at (graph_of e) n).net + 1) × Named (node_word ws n 1) (name_of (graph_of e) n) × (node_word ws n 3 ≡ arity (graph_of e) n)
  slot_is = rw (net_frame (graph_of e) n, name_frame (graph_of e) n, arity_frame (graph_of e) n)
      (go (frame (graph_of e) n) (sym (filled_frame (graph_of e) n) ∙ h) (m.nodes.slot n slot_below))
    where
      go : (o : Option Frame) → is_some o ≡ true → SlotIs Named ws n o
          → (node_word ws n 0 ≡ (or_else o no_frame).net + 1) × Named (node_word ws n 1) (or_else o no_frame).name × (node_word ws n 3 ≡ (or_else o no_frame).size)
      go none t s = absurd (false≢true t)
      go (some f) t s = s

  -- its net and one more, its name, its number of ports
  pub net_read : node_word ws n 0 ≡ (at (graph_of e) n).net + 1
  net_read = slot_is.0

  pub name_read : Named (Words.name ws n) (name_of (graph_of e) n)
  name_read = slot_is.1

  pub arity_read : Words.arity ws n ≡ arity (graph_of e) n
  arity_read = slot_is.2

-- ---- the count of steps

-- 14 at the same moment
pub unless_spent : (Named : ℕ → Name → Type 0) (ws : List ℕ) (e : Engine) → Means Named ws e → e.steps ≤ max_steps → (l : List ℕ) (t : Left Tried) (r : Result Engine)
    → Came Named l t r → Came Named l (pick (spent ws) (record { is = Refused 14; ws = ws }) t) (need (ltb e.steps max_steps) 14 r)
unfolding spent
unless_spent Named ws e m most l t r c = go (ℕ_discrete e.steps max_steps)
  where
    is : steps ws ≡ e.steps
    is = m.header.steps_are

    all : Left Tried
    all = record { is = Refused 14; ws = ws }

    go : Dec (e.steps ≡ max_steps) → Came Named l (pick (spent ws) all t) (need (ltb e.steps max_steps) 14 r)
    go (yes h) = rw (← pick_true (spent ws) all t (eq-eqb (steps ws) 16777216 (is ∙ h)) refl, le-ltb e.steps max_steps (omega arith)) refl
    go (no h) = rw (← pick_false (spent ws) all t (ne_eqb (steps ws) 16777216 (λ z. h (sym is ∙ z))) refl, lt-ltb e.steps max_steps (omega arith)) c

-- ---- the first stage

module _ (Named : ℕ → Name → Type 0) (x : ℕ → ℕ) (ws : List ℕ) (e : Engine) (b : Between Named x ws e) where
  pub stage_begin : Stage Named x (length e.nets) e.slots.chain [] 0 (graph_of e) ws e
  stage_begin = record {
    means = b.means;
    edited = record { good = b.good; nets = refl; left = refl; nodes = refl };
    wired = b.wired.wired;
    dead = dead_none b.none_dead;
  }

-- one more node is to go
pub stage_remove : (Named : ℕ → Name → Type 0) (x : ℕ → ℕ) (M : ℕ) (chain l : List ℕ) (k : ℕ) (g : Graph) (ws : List ℕ) (e : Engine) (n : ℕ)
    → Stage Named x M chain l k g ws e → length l < 32 → Stage Named x M chain (l ++ n ∷ []) k g (remove_node ws n) e
stage_remove Named x M chain l k g ws e n s room = record {
  means = remove_node_means ws l n s.dead room Named e s.means;
  edited = s.edited;
  wired = s.wired;
  dead = remove_node_dead ws l n s.dead room (let h = s.means.header.long in omega arith);
}
