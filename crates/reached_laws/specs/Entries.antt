-- First entries and waits: on every engine reached each net's list begins with its free node, and every wait names a slot and a net.
use Prim.Native.Nat.{ℕ, ◌+◌, ◌-◌, ◌<◌}
use Rattle.std.specs.Prelude.{◌≡◌, Bool, length, get_or, eqb, ltb}
use Rattle.std.proofs.Math.Path.{refl, ap, subst}
use Rattle.std.proofs.Common.{sym, ◌∙◌, arith}
use Rattle.std.proofs.Math.Bool.{true, false}
use Rattle.std.proofs.Math.Option.{Option, none, some}
use mathlib.Core.List.Memᴰ
use mathlib.Core.List.{List, [], ◌∷◌, ◌++◌, Memᴰ}
use Rattle.std.proofs.lemmas.List.{length-map}
use Rattle.net_file.specs.Lists.{Result, ok, refuse, need}
use Rattle.net_file.specs.Values.{Rule, graft, annihilate, erase, commute, eta, FlatNet, File, max_steps}
use Rattle.definitions.specs.Lists.{◌>>=◌, nth, foldl, each}
use Rattle.definitions.specs.Nets.{Home, at, name_of}
use Rattle.definitions.specs.Scripts.{Script}
use Rattle.definitions.specs.Rules.{eta_script, graft_script, graft_fits, reaches, interact}
use Rattle.definitions.specs.State.{Net, Pools, Engine, graph_of, homes, with_slots, with_mark, with_dirty, with_steps, with_stale, with_awaiting, net_at, over_net, more, fewer, waits}
use Rattle.definitions.specs.Books.{is_dirty, tighten_net, fresh, edit, remove_node, finish_edit}
use Rattle.definitions.specs.Load.{included}
use Rattle.definitions.specs.Visit.{Visited, acted, passed, Try, interaction, rewrite, less_one, act, act_if, await_net, graft_net, get_net, graft_named, graft_child, try_graft, tries, try_rewrite, attempt, attempts, visit}
use Rattle.definitions.specs.Run.{leave, turn, with_items}
use Rattle.definitions.specs.Calls.{pools_fit}
use Rattle.step_laws.specs.Core.{Core, core_of, core_over_net, core_more, core_fewer, core_finish_edit_net}
use Rattle.step_laws.specs.Edits.{list_at_lem, core_tighten_net}
use Rattle.step_laws.specs.Acting.{After}
use Rattle.step_laws.specs.First.{Firsts, HeldAll, tight_first, act_first}
use Rattle.load_laws.specs.Begin.{load_first}
use Rattle.good_laws.specs.Owners.{owners, net_of}
use Rattle.good_laws.specs.Good.{Good, rest}
use Rattle.good_laws.specs.Marks.{below_slots}
use Rattle.good_laws.specs.Edits.{Answers}
use Rattle.good_laws.specs.Answers.{awaits, fewer_awaits}
use Rattle.good_laws.specs.Loaded.{edits_awaits, load_idle}
use Rattle.good_laws.specs.Settled.{tighten_awaits, remove_awaits}
use Rattle.good_laws.specs.Sound.{OnNode, tries_node}
use Rattle.good_laws.specs.Turn.{is_some_lem}
use Rattle.waiter_laws.specs.Waiters.{Waited, waited_same, await_waited, finish_waited}
use Rattle.fuel_laws.specs.Reached.{Reached, loads, turns, leaves}
use Rattle.reached_laws.specs.Runs
use Rattle.reached_laws.specs.Runs.{Begins}
use Rattle.reached_laws.specs.Files.{reached_file}

-- where a rule acted, and where none did
after_both : (P R Q : Engine → Type 0) (r : Result Visited) → After P Q r → After R Q r → After (λ e. P e × R e) Q r
after_both P R Q (ok (acted e)) x y = (x, y)
after_both P R Q (ok (passed e)) x y = x
after_both P R Q (refuse r) x y = tt

removes_awaits : (ns : List ℕ) (e : Engine) → awaits (foldl remove_node e ns) ≡ awaits e
removes_awaits [] e = refl
removes_awaits (n ∷ ns) e = removes_awaits ns (remove_node e n) ∙ remove_awaits e n

module _ (N M : ℕ) where
  -- ---- an act

  act_waited : (s : Script) (e : Engine) (Q : Engine → Type 0) → Waited N M e → After (Waited N M) Q (act s e)
  unfolding act finish_edit with_steps net_at
  act_waited s e Q h = go (ltb e.steps max_steps) (each edit s.edits e) (edits_awaits s.edits e)
    where
      go : (b : Bool) (r : Result Engine) → Answers (λ e'. awaits e' ≡ awaits e) r → After (Waited N M) Q (need b 14 (r >>= λ e'. ok (acted (with_steps (less_one e'.limit) (e'.steps + 1) (finish_edit s.dead e')))))
      go false r x = tt
      go true (refuse r) x = tt
      go true (ok e') x = waited_same N M e (finish_edit s.dead e') (removes_awaits s.dead e' ∙ x) h

  -- what a rule that acted leaves, where the free nodes are there
  abbrev Done : Engine → Type 0
  Done e = (HeldAll (core_of e) → Firsts (core_of e)) × Waited N M e

  module _ (n : ℕ) (low : n < N) where
    abbrev Begun : Core → Type 0
    Begun c = Firsts c × HeldAll c × ((at c.graph n).net < M)

    -- what a visit of n starts from, and a rule that did not act leaves
    abbrev Stays : Engine → Type 0
    Stays e = Begun (core_of e) × Waited N M e

    act_kept : (s : Script) (e : Engine) (Q : Engine → Type 0) → Firsts (core_of e) → Waited N M e → After Done Q (act s e)
    act_kept s e Q f h = after_both (λ e'. HeldAll (core_of e') → Firsts (core_of e')) (Waited N M) Q (act s e) (act_first s e f Q) (act_waited s e Q h)

    act_if_lem : (o : Option Script) (e : Engine) → Stays e → After Done Stays (act_if o e)
    unfolding act_if
    act_if_lem none e x = x
    act_if_lem (some s) e x = act_kept s e Stays x.0.0 x.1

    awaits_net : (m : ℕ) (e : Engine) → Stays e → After Done Stays (await_net m n e)
    unfolding await_net core_of with_awaiting
    awaits_net m e x = go (ltb (waits e) e.pools.waits)
      where
        k : ℕ
        k = (at (graph_of e) n).net

        wait : Net → Net
        wait t = with_awaiting (t.awaiting ++ record { node = n; net = k } ∷ []) t

        e₁ : Engine
        e₁ = over_net wait m e

        core : core_of (more k e₁) ≡ core_of e
        core = core_more k e₁ ∙ core_over_net wait (λ t. (refl, refl)) m e

        go : (t : Bool) → After Done Stays (need t 11 (ok (passed (more k e₁))))
        go true = (subst Begun (sym core) x.0, await_waited N M m n k e low x.0.2 x.1)
        go false = tt

    graft_net_lem : (m : ℕ) (e : Engine) → Stays e → After Done Stays (graft_net m n e)
    unfolding graft_net
    graft_net_lem m e x =
        let e₁ = tighten_net m e in
        let free = (net_at e₁ m).home.free in
        let s = graft_script (fresh e₁) (graph_of e₁) (net_at e₁ m).list.items free n in
        go (act s e₁) (act_kept s e₁ Stays (subst Firsts (sym (core_tighten_net m e)) (tight_first m (core_of e) x.0.0 x.0.1)) (waited_same N M e e₁ (tighten_awaits m e) x.1)) (graft_fits (graph_of e₁) free n)
      where
        go : (r : Result Visited) → After Done Stays r → (t : Bool) → After Done Stays (r >>= λ v. need t 13 (ok v))
        go (ok (acted e')) y true = y
        go (ok (passed e')) y true = y
        go (ok v) y false = tt
        go (refuse r) y t = tt

    graft_named_lem : (o : Option ℕ) (e : Engine) → Stays e → After Done Stays (graft_named o n e)
    unfolding graft_named
    graft_named_lem none e x = x
    graft_named_lem (some m) e x = go (eqb (net_at e m).pending 0)
      where
        go : (t : Bool) → After Done Stays (elim t as (λ _. Result Visited) [ true ↦ graft_net m n e | false ↦ await_net m n e ])
        go true = graft_net_lem m e x
        go false = awaits_net m e x

    graft_child_lem : (cs : List ℕ) (e : Engine) → Stays e → After Done Stays (graft_child cs n e)
    unfolding graft_child
    graft_child_lem [] e x = tt
    graft_child_lem (c ∷ cs) e x = graft_named_lem (get_net e c) e x

    rewrites_kept : (r : Rule) (e : Engine) → Stays e → After Done Stays (try_rewrite r n e)
    unfolding try_rewrite try_graft
    rewrites_kept (graft p lazy) e x = go (reaches (graph_of e) lazy n)
      where
        go : (t : Bool) → After Done Stays (elim t as (λ _. Result Visited) [ true ↦ graft_child (name_of (graph_of e) n).children n e | false ↦ ok (passed e) ])
        go true = graft_child_lem (name_of (graph_of e) n).children e x
        go false = x
    rewrites_kept (annihilate ps) e x = x
    rewrites_kept (erase es ns) e x = x
    rewrites_kept (commute xs ys) e x = x
    rewrites_kept (eta cs vs ns) e x = act_if_lem (eta_script (fresh e) (graph_of e) vs ns n) e x

    -- ---- a visit

    attempt_kept : (t : Try) → OnNode n t → (e : Engine) → Stays e → After Done Stays (attempt t e)
    unfolding attempt
    attempt_kept (interaction r a b) o e x = act_if_lem (interact r (fresh e) (graph_of e) a b) e x
    attempt_kept (rewrite r m) o e x = subst (λ (j : ℕ). After Done Stays (try_rewrite r j e)) (sym o) (rewrites_kept r e x)

    attempts_kept : (ts : List Try) → ((t : Try) → Memᴰ t ts → OnNode n t) → (e : Engine) → Stays e → After Done Stays (attempts ts e)
    unfolding attempts
    attempts_kept [] o e x = x
    attempts_kept (t ∷ ts) o e x = go (attempt t e) (attempt_kept t (o t (Memᴰ.head refl)) e x) (λ e'. attempts_kept ts (λ u m. o u (Memᴰ.tail m)) e')
      where
        go : (r : Result Visited) → After Done Stays r → ((e' : Engine) → Stays e' → After Done Stays (attempts ts e'))
            → After Done Stays (r >>= λ v. elim v as (λ _. Result Visited) [ acted e' ↦ ok (acted e') | passed e' ↦ attempts ts e' ])
        go (ok (acted e')) y k = y
        go (ok (passed e')) y k = k e' y
        go (refuse r) y k = tt

    -- the visit ends
    abbrev Left : Engine → Type 0
    Left e = Firsts (core_of e) × Waited N M e

    leave_kept : (k : ℕ) (r : Result Visited) → After Done Stays r → After Done Left (r >>= λ v. ok (leave k v))
    unfolding leave
    leave_kept k (ok (acted e)) x =
        (subst (λ (c : Core). HeldAll c → Firsts c) (sym (core_finish_edit_net k (fewer k e) ∙ core_fewer k e)) x.0, finish_waited N M k (fewer k e) (waited_same N M e (fewer k e) (fewer_awaits k e) x.1))
    leave_kept k (ok (passed e)) x =
        (subst Firsts (sym (core_finish_edit_net k (fewer k e) ∙ core_fewer k e)) x.0.0, finish_waited N M k (fewer k e) (waited_same N M e (fewer k e) (fewer_awaits k e) x.1))
    leave_kept k (refuse r) x = tt

    visit_kept : (e : Engine) → Stays e → After Done Stays (visit n e)
    unfolding visit
    visit_kept e x = attempts_kept (tries e.rules (graph_of e) n) (tries_node e.rules (graph_of e) n) e x

  -- a turn: n is a slot of a net, if it is dirty
  turn_kept : (n : ℕ) (e : Engine) → Firsts (core_of e) → HeldAll (core_of e) → Waited N M e → (is_dirty e n ≡ true → (n < N) × ((at (core_of e).graph n).net < M))
      → After Done (λ e'. Firsts (core_of e') × Waited N M e') (turn n e)
  unfolding turn with_mark with_slots with_dirty net_at core_of
  turn_kept n e f held h d = go (is_dirty e n) refl
    where
      go : (t : Bool) → is_dirty e n ≡ t → After Done (λ e'. Firsts (core_of e') × Waited N M e')
          (elim t as (λ _. Result Visited) [ true ↦ visit n (with_mark n false e) >>= λ v. ok (leave (at (graph_of e) n).net v) | false ↦ ok (passed (with_dirty (with_stale (e.dirty.stale - 1) e.dirty) e)) ])
      go true q = let l = d q in leave_kept n l.0 (at (graph_of e) n).net (visit n (with_mark n false e)) (visit_kept n l.0 (with_mark n false e) ((f, held, l.1), h))
      go false q = (f, h)

-- ---- on every engine reached

module _ (p : Pools) (fits : pools_fit p ≡ true) (f : File FlatNet) (path : ℕ) (begins : Begins p f path) where
  -- as many nets as the file includes
  reached_nets : {e : Engine} → Reached p f e → length e.nets ≡ length (included f)
  reached_nets {e} r =
      sym (length-map e.nets (λ (t : Net). t.home)) ∙ sym (length-map (homes e) (λ (h : Home). h.name)) ∙ ap length (reached_file p f r).names ∙ length-map (included f) (λ (t : FlatNet). t.name)

  -- a dirty slot is one of N, and its net one of the file's
  dirty_named : {e : Engine} → Reached p f e → (n : ℕ) → is_dirty e n ≡ true → (n < p.nodes) × ((at (graph_of e) n).net < length (included f))
  unfolding is_dirty
  dirty_named {e} r n d = go (is_some_lem (get_or (owners (graph_of e)) n none) (g.slotted.marked n d))
    where
      g : Good rest e
      g = Runs.reached_good p fits f path begins r

      go : (k : ℕ) × (get_or (owners (graph_of e)) n none ≡ some k) → (n < p.nodes) × ((at (graph_of e) n).net < length (included f))
      go (k, o) = (
        subst (λ (q : Pools). n < q.nodes) (reached_file p f r).pools (below_slots g.slotted n k o),
        (let a = net_of (graph_of e) n k o in let b = g.slotted.owned n k o in let c = reached_nets r in omega arith),
      )

  held_all : {e : Engine} → Reached p f e → HeldAll (core_of e)
  unfolding core_of
  held_all r k h q = ((Runs.reached_rest p fits f path begins r).free k h q).held

  kept : {e : Engine} → Reached p f e → Firsts (core_of e) × Waited p.nodes (length (included f)) e
  unfolding core_of with_items with_dirty is_dirty net_at
  kept (loads {e = e} q) = (load_first p f e q, λ k w m. absurd (Memᴰ.not-nil (subst (Memᴰ w) (load_idle p f e q k) m)))
  kept (turns {e = e} n q v r h t) =
      let x = kept r in
      go v (held_all (turns n q v r h t))
      (subst (After (Done p.nodes (length (included f))) (λ e'. Firsts (core_of e') × Waited p.nodes (length (included f)) e')) t
      (turn_kept p.nodes (length (included f)) q.1 (with_items q.0 e) x.0 (held_all r) x.1 (dirty_named r q.1)))
    where
      go : (u : Visited) → HeldAll (core_of (leaves u)) → After (Done p.nodes (length (included f))) (λ e'. Firsts (core_of e') × Waited p.nodes (length (included f)) e') (ok u)
          → Firsts (core_of (leaves u)) × Waited p.nodes (length (included f)) (leaves u)
      go (acted e') held y = (y.0 held, y.1)
      go (passed e') held y = y

  -- the first entry of each net's list is its free node; every wait names a slot and a net
  pub reached_entries : {e : Engine} → Reached p f e
      → ((k : ℕ) (h : Home) → nth (homes e) k ≡ some h → nth (net_at e k).list.items 0 ≡ some h.free) × Waited p.nodes (length (included f)) e
  unfolding core_of
  reached_entries {e} r = let x = kept r in (λ k h q. ap (λ (l : List ℕ). nth l 0) (sym (list_at_lem e k)) ∙ x.0 k h q, x.1)
