-- A visit in which no rule acts leaves the dirty list and the nodes as they were, keeps the books, and draws no more.
use Rattle.std.specs.Prelude.{ℕ, ◌+◌, ◌≤◌, ◌<◌, ◌≡◌, ◌≢◌, Bool, ltb}
use Rattle.std.proofs.Math.Path.{refl, ap, subst}
use Rattle.std.proofs.Common.{sym, ◌∙◌}
use native.Mathlib.Omega.{arith}
use Rattle.std.proofs.Math.Bool.{true, false}
use Rattle.std.proofs.Math.Option.{Option, none, some}
use mathlib.Core.List.{List, [], ◌∷◌, Memᴰ}
use Rattle.std.proofs.Math.ListN.{length}
use Rattle.std.proofs.Math.Dec.{eqb}
use Rattle.std.proofs.lemmas.Bool.{eqb-false}
use Rattle.net_file.specs.Lists.{Result, ok, refuse, need, bit}
use Rattle.net_file.specs.Values.{Rule, graft, annihilate, erase, commute, eta, max_steps}
use Rattle.definitions.specs.Lists.{◌>>=◌, each}
use Rattle.definitions.specs.Nets.{Graph, at, name_of}
use Rattle.definitions.specs.Scripts.{Script}
use Rattle.definitions.specs.Rules.{eta_script, graft_script, graft_fits, reaches, interact}
use Rattle.definitions.specs.State.{Engine, graph_of, homes, with_nets, with_steps, net_at, over_net, more, waits}
use Rattle.definitions.specs.Books.{tighten_net, fresh, edit, finish_edit}
use Rattle.definitions.specs.Visit.{Visited, acted, passed, less_one, Try, interaction, rewrite, act, act_if, await_net, graft_net, get_net, graft_named, graft_child, try_graft, tries, try_rewrite, attempt, attempts, visit}
use Rattle.dirty_laws.specs.Tests.{eqb_self}
use Rattle.engine_laws.specs.Frame.{either, Body, body, still_graph}
use Rattle.good_laws.specs.Good.{Good, bump, rest}
use Rattle.good_laws.specs.Idle.{Idle}
use Rattle.good_laws.specs.Scripts.{Visits, await_good}
use Rattle.good_laws.specs.Turned.{named_below}
use Rattle.good_laws.specs.Sound.{visiting, OnNode, tries_node}
use Rattle.fuel_laws.specs.Weights.{drawing, target, child_in, named_in_lem}
use Rattle.fuel_laws.specs.Waited.{waited_drawing, waited}

-- the nets that nodes name
abbrev pub targets : Engine → ℕ → Option ℕ
targets e = target (graph_of e) (homes e)

-- from e₀, in the visit of node n, no rule acted so far
pub record Pass (n : ℕ) (e₀ e : Engine) : Type 0 where
  pub good : Good (visiting e₀ n) e
  pub same : body e ≡ body e₀
  pub list : e.dirty ≡ e₀.dirty
  pub idle : Idle e
  pub less : drawing (targets e₀) e₀.pools.nodes e ≤ drawing (targets e₀) e₀.pools.nodes e₀

abbrev pub Passes : ℕ → Engine → Result Visited → Type 0
Passes n e₀ r = Visits (λ _. Unit {0}) (Pass n e₀) r

-- a rule that acts does not pass
act_acts : (Q : Engine → Type 0) (s : Script) (e : Engine) → Visits (λ _. Unit {0}) Q (act s e)
unfolding act
act_acts Q s e = go (ltb e.steps max_steps) (each edit s.edits e)
  where
    go : (t : Bool) (r : Result Engine) → Visits (λ _. Unit {0}) Q (need t 14 (r >>= λ e'. ok (acted (with_steps (less_one e'.limit) (e'.steps + 1) (finish_edit s.dead e')))))
    go true (ok e') = tt
    go true (refuse r) = tt
    go false r = tt

module _ (n : ℕ) (e₀ : Engine) where
  act_if_passes : (o : Option Script) (e : Engine) → Pass n e₀ e → Passes n e₀ (act_if o e)
  unfolding act_if
  act_if_passes none e p = p
  act_if_passes (some s) e p = act_acts (Pass n e₀) s e

  graft_passes : (m : ℕ) (e : Engine) → Passes n e₀ (graft_net m n e)
  unfolding graft_net
  graft_passes m e =
      let e₁ = tighten_net m e in
      let free = (net_at e₁ m).home.free in
      let s = graft_script (fresh e₁) (graph_of e₁) (net_at e₁ m).list.items free n in
      go (act s e₁) (act_acts (λ _. ⊥) s e₁) (graft_fits (graph_of e₁) free n)
    where
      go : (r : Result Visited) → Visits (λ _. Unit {0}) (λ _. ⊥) r → (t : Bool) → Passes n e₀ (r >>= λ v. need t 13 (ok v))
      go (ok (acted e')) h true = tt
      go (ok (acted e')) h false = tt
      go (ok (passed e')) h t = absurd h
      go (refuse r) h t = tt

  -- what node n names
  names : (e : Engine) → Pass n e₀ e → (c m : ℕ) (cs : List ℕ) → (name_of (graph_of e) n).children ≡ c ∷ cs → get_net e c ≡ some m → targets e₀ n ≡ some m
  names e p c m cs q w =
      ap (λ (b : Body). target b.1 b.0.2 n) (sym p.same) ∙ ap (child_in (homes e)) q ∙ sym (named_in_lem e c) ∙ w

  await_passes : (m : ℕ) (e : Engine) → Pass n e₀ e → (net_at e m).pending ≢ 0 → m < length e.nets → targets e₀ n ≡ some m → Passes n e₀ (await_net m n e)
  unfolding await_net more over_net with_nets
  await_passes m e p busy l w =
      let q : (at (graph_of e) n).net ≡ (at (graph_of e₀) n).net = ap (λ (g : Graph). (at g n).net) (still_graph p.same) in
      let g : Good (bump (at (graph_of e) n).net rest) e = subst (λ (j : ℕ). Good (bump j rest) e) (sym q) p.good in
      let above : (at (graph_of e) n).net < length e.nets → (net_at e (at (graph_of e) n).net).pending ≢ 0 =
      λ h z. let r = g.pending (at (graph_of e) n).net h in let o : bit (eqb (at (graph_of e) n).net (at (graph_of e) n).net) ≡ 1 = ap bit (eqb_self (at (graph_of e) n).net) in omega arith in
      let d = waited_drawing (targets e₀) e₀.pools.nodes m n e above l w in
      go (ltb (waits e) e.pools.waits) q d (await_good rest m n e (λ _. ⊥) g p.idle busy l)
    where
      after : Engine
      after = more (at (graph_of e) n).net (waited (targets e₀) e₀.pools.nodes m n e)

      go : (t : Bool) → (at (graph_of e) n).net ≡ (at (graph_of e₀) n).net → drawing (targets e₀) e₀.pools.nodes after ≤ drawing (targets e₀) e₀.pools.nodes e
          → Visits (λ _. ⊥) (λ e'. Good (bump (at (graph_of e) n).net rest) e' × (body e' ≡ body e) × Idle e') (need t 11 (ok (passed after)))
          → Passes n e₀ (need t 11 (ok (passed after)))
      go true q d h =
          let u = p.less in
          record { good = subst (λ (j : ℕ). Good (bump j rest) after) q h.0; same = h.1 ∙ p.same; list = p.list; idle = h.2; less = omega arith }
      go false q d h = tt

  named_passes : (c : ℕ) (cs : List ℕ) (e : Engine) → Pass n e₀ e → (name_of (graph_of e) n).children ≡ c ∷ cs
      → (o : Option ℕ) → get_net e c ≡ o → Passes n e₀ (graft_named o n e)
  unfolding graft_named
  named_passes c cs e p q none w = p
  named_passes c cs e p q (some m) w = go (eqb (net_at e m).pending 0) refl
    where
      go : (t : Bool) → eqb (net_at e m).pending 0 ≡ t → Passes n e₀ (elim t as (λ _. Result Visited) [ true ↦ graft_net m n e | false ↦ await_net m n e ])
      go true z = graft_passes m e
      go false z = await_passes m e p (eqb-false (net_at e m).pending 0 z) (named_below e c m w) (names e p c m cs q w)

  child_passes : (cs : List ℕ) (e : Engine) → Pass n e₀ e → (name_of (graph_of e) n).children ≡ cs → Passes n e₀ (graft_child cs n e)
  unfolding graft_child
  child_passes [] e p q = tt
  child_passes (c ∷ cs) e p q = named_passes c cs e p q (get_net e c) refl

  rewrite_passes : (r : Rule) (e : Engine) → Pass n e₀ e → Passes n e₀ (try_rewrite r n e)
  unfolding try_rewrite try_graft
  rewrite_passes (graft p' lazy) e p =
      either (Passes n e₀) (reaches (graph_of e) lazy n) (graft_child (name_of (graph_of e) n).children n e) (ok (passed e))
      (child_passes (name_of (graph_of e) n).children e p refl) p
  rewrite_passes (annihilate ps) e p = p
  rewrite_passes (erase es ns) e p = p
  rewrite_passes (commute xs ys) e p = p
  rewrite_passes (eta cs vs ns) e p = act_if_passes (eta_script (fresh e) (graph_of e) vs ns n) e p

  attempt_passes : (t : Try) (e : Engine) → Pass n e₀ e → OnNode n t → Passes n e₀ (attempt t e)
  unfolding attempt
  attempt_passes (interaction r a b) e p o = act_if_passes (interact r (fresh e) (graph_of e) a b) e p
  attempt_passes (rewrite r i) e p o = subst (λ (j : ℕ). Passes n e₀ (try_rewrite r j e)) (sym o) (rewrite_passes r e p)

  attempts_pass : (ts : List Try) → ((t : Try) → Memᴰ t ts → OnNode n t) → (e : Engine) → Pass n e₀ e → Passes n e₀ (attempts ts e)
  unfolding attempts
  attempts_pass [] h e p = p
  attempts_pass (t ∷ ts) h e p =
      go (attempt t e) (attempt_passes t e p (h t (Memᴰ.head refl))) (λ e' p'. attempts_pass ts (λ u m. h u (Memᴰ.tail m)) e' p')
    where
      go : (r : Result Visited) → Passes n e₀ r → ((e' : Engine) → Pass n e₀ e' → Passes n e₀ (attempts ts e'))
          → Passes n e₀ (r >>= λ v. elim v as (λ _. Result Visited) [ acted e' ↦ ok (acted e') | passed e' ↦ attempts ts e' ])
      go (ok (acted e')) p' f = tt
      go (ok (passed e')) p' f = f e' p'
      go (refuse r) p' f = tt

pub visit_passes : (n : ℕ) (e : Engine) → Good (visiting e n) e → Idle e → Passes n e (visit n e)
unfolding visit
visit_passes n e g i =
    attempts_pass n e (tries e.rules (graph_of e) n) (tries_node e.rules (graph_of e) n) e
    (record { good = g; same = refl; list = refl; idle = i; less = omega arith })
