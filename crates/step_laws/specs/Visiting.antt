-- A visit is a step of a registered rule, or leaves nodes, free ports and wires as they were.
use Rattle.std.specs.Prelude.{◌≡◌, ◌≢◌, ◌⊎◌, Bool, not, ◌||◌, length, get_or, set, ltb}
use Rattle.std.proofs.Math.Path.{refl, ap, subst}
use Rattle.std.proofs.Common.{sym, ◌∙◌, inl, inr, arith, true≢false, length-set, get_or-set_other, eqb-true}
use Prim.Native.Nat.{ℕ, zero, suc, ◌+◌, ◌-◌, ◌<◌, ◌≤◌}
use Rattle.std.proofs.Math.Decide.{ℕ_discrete, dec_lt}
use Rattle.std.proofs.Math.Bool.{true, false}
use Rattle.std.proofs.Math.Option.{Option, none, some, some-injective}
use mathlib.Core.List.Memᴰ
use mathlib.Core.List.{List, [], ◌∷◌, ◌++◌, map, Memᴰ}
use Rattle.std.proofs.lemmas.List.{length-map}
use Rattle.std.proofs.Math.ListN.{get_or-map}
use Rattle.std.proofs.Math.Seq.{map-set_same, get_or-set_same, set_out}
use Rattle.std.proofs.Math.Dec.{eqb}
use Rattle.net_file.specs.Lists.{Result, ok, refuse, need}
use Rattle.net_file.specs.Values.{Rule, graft, annihilate, erase, commute, eta}
use Rattle.definitions.specs.Lists.{◌>>=◌, find, nth, firsts, keep, up_to, from}
use Rattle.definitions.specs.Nets.{Port, Graph, Home, port, at, filled, holds, name_of, arity, across}
use Rattle.definitions.specs.Scripts.{Script}
use Rattle.definitions.specs.Rules.{eta_script, graft_script, graft_fits, reaches, interact}
use Rattle.definitions.specs.Step.{pairs, rewrites, NodesOf, Acts, interacts, reduces, grafts}
use Rattle.definitions.specs.State.{Net, Wait, Engine, graph_of, new_net, with_nets, with_list, with_pending, with_awaiting, net_at, over_net, more, waits}
use Rattle.definitions.specs.Books.{fresh, tight, tighten_net}
use Rattle.definitions.specs.Visit.{Visited, acted, passed, act, act_if, await_net, graft_net, get_net, graft_named, graft_child, try_graft, Try, interaction, rewrite, tries, try_rewrite, attempt, attempts, visit}
use Rattle.graph_laws.specs.Rest.{Rest}
use Rattle.rule_laws.specs.Rows.{find_row}
use Rattle.step_laws.specs.Core.{Core, core_of, home_of, list_of, pick, core_more, core_over_net}
use Rattle.step_laws.specs.Track.{list_at, Tracked, tight_in, tracked_tight}
use Rattle.step_laws.specs.Edits.{list_at_lem, core_tighten_net}
use Rattle.step_laws.specs.Acting.{After}
use Rattle.step_laws.specs.Numbers.{tight_nodes}
use Rattle.step_laws.specs.Ready.{Ready, OneStep, after_more, act_step}
use Rattle.step_laws.specs.Tries.{Valid, All, nil, cons, tries_valid}

-- ---- pending numbers of the other nets

-- net k has something pending
abbrev pub Held : ℕ → Engine → Type 0
Held k e = 1 ≤ (net_at e k).pending

abbrev pending_of : Net → ℕ
pending_of n = n.pending

pending_at : (e : Engine) (k : ℕ) → (net_at e k).pending ≡ get_or (map pending_of e.nets) k 0
unfolding net_at
pending_at e k = sym (get_or-map pending_of e.nets k (new_net (record { name = 0; free = 0 })))

-- a change that keeps the pending number of net j keeps all
pub pending_over_net : (f : Net → Net) → ((n : Net) → (f n).pending ≡ n.pending) → (j k : ℕ) (e : Engine) → (net_at (over_net f j e) k).pending ≡ (net_at e k).pending
unfolding over_net with_nets net_at
pending_over_net f h j k e =
    pending_at (over_net f j e) k
    ∙ ap (λ (l : List ℕ). get_or l k 0) (map-set_same pending_of e.nets j (f (net_at e j)) (new_net (record { name = 0; free = 0 })) (h (net_at e j)))
    ∙ sym (pending_at e k)

pub pending_more : (j k : ℕ) (e : Engine) → (net_at e k).pending ≤ (net_at (more j e) k).pending
unfolding more over_net with_nets net_at with_pending
pending_more j k e = go (ℕ_discrete k j) (dec_lt k (length e.nets))
  where
    d : Net
    d = new_net (record { name = 0; free = 0 })

    y : Net
    y = with_pending ((get_or e.nets j d).pending + 1) (get_or e.nets j d)

    go : Dec (k ≡ j) → Dec (k < length e.nets) → (get_or e.nets k d).pending ≤ (get_or (set e.nets j y) k d).pending
    go (no s) l = rw (get_or-set_other e.nets j k y d s) (omega arith)
    go (yes s) (yes l) =
        subst (λ (i : ℕ). (get_or e.nets k d).pending ≤ (get_or (set e.nets i y) k d).pending) s
        (rw (get_or-set_same e.nets k y d l) (subst (λ (i : ℕ). (get_or e.nets k d).pending ≤ (get_or e.nets i d).pending + 1) s (omega arith)))
    go (yes s) (no l) = rw (set_out e.nets j y (subst (λ (i : ℕ). length e.nets ≤ i) s (omega arith))) (omega arith)

pub awaiting_kept : (ws : List Wait) (t : Net) → (home_of (with_awaiting ws t) ≡ home_of t) × (list_of (with_awaiting ws t) ≡ list_of t) × ((with_awaiting ws t).pending ≡ t.pending)
unfolding with_awaiting
awaiting_kept ws t = (refl, refl, refl)

-- ---- nets by number

nth_home : (ns : List Net) (m : ℕ) (d : Net) → m < length ns → nth (map home_of ns) m ≡ some (get_or ns m d).home
nth_home [] m d l = absurd (omega arith)
nth_home (x ∷ ns) zero d l = refl
nth_home (x ∷ ns) (suc m) d l = nth_home ns m d (omega arith)

-- the net of a name: its number is in range, and its home has the name
get_net_lem : (e : Engine) (c m : ℕ) → get_net e c ≡ some m → (m < length e.nets) × ((net_at e m).home.name ≡ c)
unfolding get_net
get_net_lem e c m h =
    let y = find_row (λ k. k) (λ k. eqb (net_at e k).home.name c) (length e.nets) 0 m (ap (find (λ k. eqb (net_at e k).home.name c)) (ids (length e.nets) 0) ∙ h) in
    ((let z = y.2 in let q = y.3 in omega arith), eqb-true (net_at e m).home.name c y.4)
  where
    ids : (n k : ℕ) → map (λ i. i) (from k n) ≡ from k n
    ids zero k = refl
    ids (suc n) k = ap (λ (l : List ℕ). k ∷ l) (ids n (suc k))

-- a tightened net
module _ (e : Engine) (m : ℕ) (in_range : m < length e.nets) where
  tight_net : net_at (tighten_net m e) m ≡ with_list (tight (holds (graph_of e) m) (net_at e m).list) (net_at e m)
  unfolding tighten_net over_net with_nets net_at
  tight_net = get_or-set_same e.nets m (with_list (tight (holds (graph_of e) m) (net_at e m).list) (net_at e m)) (new_net (record { name = 0; free = 0 })) in_range

  tight_home : (net_at (tighten_net m e) m).home ≡ (net_at e m).home
  unfolding with_list
  tight_home = ap (λ (t : Net). t.home) tight_net

  tight_items : (net_at (tighten_net m e) m).list.items ≡ firsts eqb [] (keep (holds (graph_of e) m) (list_at (core_of e) m))
  unfolding with_list tight
  tight_items = ap (λ (t : Net). t.list.items) tight_net ∙ ap (λ (l : List ℕ). firsts eqb [] (keep (holds (graph_of e) m) l)) (sym (list_at_lem e m))

  tight_graph : graph_of (tighten_net m e) ≡ graph_of e
  unfolding tighten_net over_net with_nets
  tight_graph = refl

-- ---- one rule on its nodes

module _ (path n : ℕ) where
  -- what a visit of n leaves, as against e
  abbrev pub Leaves : Engine → Result Visited → Type 0
  Leaves e r = After (λ e'. OneStep path (core_of e) (core_of e')) (λ e'. (core_of e' ≡ core_of e) × Held (at (graph_of e) n).net e') r

  module _ (e : Engine) (ready : Ready path (core_of e)) (held : Held (at (graph_of e) n).net e) where
    stay : Leaves e (ok (passed e))
    stay = (refl, held)

    act_if_leaves : (o : Option Script) → ((s : Script) → o ≡ some s → Acts (core_of e).rules (core_of e).homes (core_of e).graph (fresh e) none s) → Leaves e (act_if o e)
    unfolding act_if
    act_if_leaves none h = stay
    act_if_leaves (some s) h = act_step path e ready none s (h s refl) (λ e'. (core_of e' ≡ core_of e) × Held (at (graph_of e) n).net e')

    await_leaves : (m : ℕ) → Leaves e (await_net m n e)
    unfolding await_net
    await_leaves m = go (ltb (waits e) e.pools.waits)
      where
        k : ℕ
        k = (at (graph_of e) n).net

        f : Net → Net
        f t = with_awaiting (t.awaiting ++ record { node = n; net = k } ∷ []) t

        kept : (t : Net) → (home_of (f t) ≡ home_of t) × (list_of (f t) ≡ list_of t) × ((f t).pending ≡ t.pending)
        kept t = awaiting_kept (t.awaiting ++ record { node = n; net = k } ∷ []) t

        go : (b : Bool) → Leaves e (need b 11 (ok (passed (more k (over_net f m e)))))
        go true = (
          core_more k (over_net f m e) ∙ core_over_net f (λ t. ((kept t).0, (kept t).1)) m e,
          (let x = pending_more k k (over_net f m e) in let y = pending_over_net f (λ t. (kept t).2) m k e in omega arith),
        )
        go false = tt

    -- a graft of net m, whose pending number is 0
    module _ (p : ℕ) (lazy : Bool) (x : Memᴰ (graft p lazy) (core_of e).rules) (named : (name_of (graph_of e) n).path ≡ p) (reach : reaches (graph_of e) lazy n ≡ true)
        (c : ℕ) (cs : List ℕ) (children : (name_of (graph_of e) n).children ≡ c ∷ cs) (m : ℕ) (got : get_net e c ≡ some m) (idle : (net_at e m).pending ≡ 0) where
      abbrev pub e₁ : Engine
      e₁ = tighten_net m e

      core₁ : core_of e₁ ≡ tight_in m (core_of e)
      core₁ = core_tighten_net m e

      ready₁ : Ready path (core_of e₁)
      ready₁ = subst (Ready path) (sym core₁) (record { unnamed = ready.unnamed; rest = ready.rest; tracked = tracked_tight (core_of e) m ready.tracked })

      pub other : ¬ (m ≡ (at (graph_of e) n).net)
      other s = let z : (net_at e (at (graph_of e) n).net).pending ≡ 0 = subst (λ (k : ℕ). (net_at e k).pending ≡ 0) s idle in omega arith

      in_range : m < length e.nets
      in_range = (get_net_lem e c m got).0

      abbrev pub free : ℕ
      free = (net_at e₁ m).home.free

      pub nodes : NodesOf (graph_of e) m (net_at e₁ m).list.items
      unfolding core_of
      nodes = subst (NodesOf (graph_of e) m) (sym (tight_items e m in_range)) (tight_nodes (core_of e) ready.tracked m)

      pub homes₁ : nth (core_of e).homes m ≡ some (net_at e₁ m).home
      unfolding core_of net_at
      homes₁ = nth_home e.nets m (new_net (record { name = 0; free = 0 })) in_range ∙ ap {B = Option Home} some (sym (tight_home e m in_range))

      pub graft_acts : graft_fits (graph_of e₁) free n ≡ true
          → Acts (core_of e₁).rules (core_of e₁).homes (core_of e₁).graph (fresh e₁) (some m) (graft_script (fresh e₁) (graph_of e₁) (net_at e₁ m).list.items free n)
      unfolding core_of tighten_net over_net with_nets
      graft_acts fits =
          grafts lazy n c m cs (net_at e₁ m).list.items (net_at e₁ m).home (Memᴰ.cast (λ i. graft (named i) lazy) x) reach children
          (ap (λ (q : Core). nth q.homes m) core₁ ∙ homes₁) (ap (λ (h : Home). h.name) (tight_home e m in_range) ∙ (get_net_lem e c m got).1) other nodes fits

      from_tight : (e' : Engine) → OneStep path (core_of e₁) (core_of e') → OneStep path (core_of e) (core_of e')
      from_tight e' o =
          let q = subst (λ (k : Core). OneStep path k (core_of e')) core₁ o in
          record { step = q.step; ready = q.ready; homes = q.homes; rules = q.rules; steps = q.steps; limit = q.limit }

      graft_leaves : Leaves e (graft_net m n e)
      unfolding graft_net
      graft_leaves = go (graft_fits (graph_of e₁) free n) refl
        where
          bad : (r : Result Visited) → Leaves e (r >>= λ v. refuse 13)
          bad (ok v) = tt
          bad (refuse r) = tt

          good : (r : Result Visited) → After (λ e'. OneStep path (core_of e₁) (core_of e')) (λ e'. (core_of e' ≡ core_of e) × Held (at (graph_of e) n).net e') r → Leaves e (r >>= λ v. ok v)
          good (ok (acted e')) y = from_tight e' y
          good (ok (passed e')) y = y
          good (refuse r) y = tt

          go : (b : Bool) → graft_fits (graph_of e₁) (net_at e₁ m).home.free n ≡ b
              → Leaves e (act (graft_script (fresh e₁) (graph_of e₁) (net_at e₁ m).list.items (net_at e₁ m).home.free n) e₁ >>= λ v. need b 13 (ok v))
          go false f = bad (act (graft_script (fresh e₁) (graph_of e₁) (net_at e₁ m).list.items (net_at e₁ m).home.free n) e₁)
          go true f =
              good (act (graft_script (fresh e₁) (graph_of e₁) (net_at e₁ m).list.items (net_at e₁ m).home.free n) e₁)
              (act_step path e₁ ready₁ (some m) (graft_script (fresh e₁) (graph_of e₁) (net_at e₁ m).list.items (net_at e₁ m).home.free n) (graft_acts f)
              (λ e'. (core_of e' ≡ core_of e) × Held (at (graph_of e) n).net e'))

    -- a graft rule tried on n
    try_graft_leaves : (p : ℕ) (lazy : Bool) → Memᴰ (graft p lazy) (core_of e).rules → (name_of (graph_of e) n).path ≡ p → Leaves e (try_graft lazy n e)
    unfolding try_graft graft_child graft_named
    try_graft_leaves p lazy x named = go (reaches (graph_of e) lazy n) refl
      where
        on_net : (c : ℕ) (cs : List ℕ) (m : ℕ) → reaches (graph_of e) lazy n ≡ true → (name_of (graph_of e) n).children ≡ c ∷ cs → get_net e c ≡ some m → (b : Bool) → eqb (net_at e m).pending 0 ≡ b
            → Leaves e (elim b as (λ _. Result Visited) [ true ↦ graft_net m n e | false ↦ await_net m n e ])
        on_net c cs m reach children got true idle = graft_leaves p lazy x named reach c cs children m got (eqb-true (net_at e m).pending 0 idle)
        on_net c cs m reach children got false idle = await_leaves m

        on_named : (c : ℕ) (cs : List ℕ) → reaches (graph_of e) lazy n ≡ true → (name_of (graph_of e) n).children ≡ c ∷ cs → (o : Option ℕ) → get_net e c ≡ o → Leaves e (graft_named o n e)
        on_named c cs reach children none got = named_none
          where
            named_none : Leaves e (graft_named none n e)
            named_none = stay
        on_named c cs reach children (some m) got = on_net c cs m reach children got (eqb (net_at e m).pending 0) refl

        on_child : (l : List ℕ) → reaches (graph_of e) lazy n ≡ true → (name_of (graph_of e) n).children ≡ l → Leaves e (graft_child l n e)
        on_child [] reach children = tt
        on_child (c ∷ cs) reach children = on_named c cs reach children (get_net e c) refl

        go : (b : Bool) → reaches (graph_of e) lazy n ≡ b → Leaves e (elim b as (λ _. Result Visited) [ true ↦ graft_child (name_of (graph_of e) n).children n e | false ↦ ok (passed e) ])
        go true reach = on_child (name_of (graph_of e) n).children reach refl
        go false reach = stay

    -- a rewrite tried on n
    rewrite_leaves : (r : Rule) → filled (graph_of e) n ≡ true → Memᴰ r (core_of e).rules → Memᴰ (name_of (graph_of e) n).path (rewrites r) → Leaves e (try_rewrite r n e)
    unfolding try_rewrite rewrites core_of
    rewrite_leaves (graft p lazy) f x y = try_graft_leaves p lazy x (Memᴰ.eq_of_singleton y)
    rewrite_leaves (annihilate ps) f x y = stay
    rewrite_leaves (erase es ns) f x y = stay
    rewrite_leaves (commute xs ys) f x y = stay
    rewrite_leaves (eta cs vs ns) f x y = act_if_leaves (eta_script (fresh e) (graph_of e) vs ns n) (λ s h. reduces cs vs ns n s x f y h)

    pub attempt_leaves : (t : Try) → filled (graph_of e) n ≡ true → Valid (core_of e).rules (graph_of e) n t → Leaves e (attempt t e)
    unfolding attempt core_of
    attempt_leaves (interaction r a b) f v = act_if_leaves (interact r (fresh e) (graph_of e) a b) (λ s h. interacts r a b s v.0 v.1 v.2 h)
    attempt_leaves (rewrite r a) f v =
        subst (λ (k : ℕ). Leaves e (try_rewrite r k e)) (sym v.2) (rewrite_leaves r f v.0 (subst (λ (k : ℕ). Memᴰ (name_of (graph_of e) k).path (rewrites r)) v.2 v.1))
