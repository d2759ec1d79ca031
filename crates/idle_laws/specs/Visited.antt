-- A visit of a node keeps the invariant, but for that node until all is tried.
use Rattle.std.specs.Prelude.{ℕ, ◌<◌, ◌≤◌, ◌≡◌, ◌≢◌, ◌⊎◌, Bool, get_or, ltb}
use Rattle.std.proofs.Math.Path.{refl, sym, subst}
use Rattle.std.proofs.Common.{ap, ◌∙◌, inl, inr, arith, true≢false, eqb-true}
use Rattle.std.proofs.Math.Decide.{ℕ_discrete}
use Rattle.std.proofs.Math.Bool.{true, false}
use Rattle.std.proofs.Math.Option.{Option, none, some, some-injective}
use mathlib.Core.List.Memᴰ
use mathlib.Core.List.{List, [], ◌∷◌, ◌++◌, Memᴰ}
use Rattle.std.proofs.Math.ListN.{length}
use Rattle.std.proofs.Math.Dec.{eqb}
use Rattle.std.proofs.lemmas.Bool.{eqb-false}
use Rattle.net_file.specs.Lists.{Result, ok, refuse, need, bit}
use Rattle.net_file.specs.Values.{Rule, graft, annihilate, erase, commute, eta}
use Rattle.definitions.specs.Lists.{◌>>=◌}
use Rattle.definitions.specs.Nets.{Graph, at, filled, holds, name_of}
use Rattle.definitions.specs.Scripts.{Script}
use Rattle.definitions.specs.Rules.{eta_script, graft_script, graft_fits, reaches, interact}
use Rattle.definitions.specs.Step.{Fresh, NodesOf, rewrites}
use Rattle.definitions.specs.State.{Net, Wait, Engine, graph_of, homes, with_awaiting, net_at, over_net, more, waits}
use Rattle.definitions.specs.Books.{is_dirty, tighten_net, fresh}
use Rattle.definitions.specs.Visit.{Visited, acted, passed, Try, interaction, rewrite, act, act_if, await_net, graft_net, get_net, graft_named, graft_child, try_graft, tries, try_rewrite, attempt, attempts, visit}
use Rattle.dirty_laws.specs.Tests.{eqb_self}
use Rattle.engine_laws.specs.Frame.{Body, body, still_graph, tighten_net_still}
use Rattle.rule_laws.specs.Ids.{at_mem}
use Rattle.rule_laws.specs.Order.{Ordered, interact_ordered, eta_ordered}
use Rattle.graph_laws.specs.Dead.{interact_dead}
use Rattle.graph_laws.specs.Rest.{holds_filled}
use Rattle.step_laws.specs.Core.{core_of}
use Rattle.step_laws.specs.Ready.{Ready}
use Rattle.step_laws.specs.Numbers.{tracked_fresh}
use Rattle.step_laws.specs.Visiting
use Rattle.step_laws.specs.Tries.{Valid, tries_valid}
use Rattle.good_laws.specs.Owners.{owners, net_of}
use Rattle.good_laws.specs.Nets.{over_same, over_other, part_at}
use Rattle.good_laws.specs.Good.{Good, bump, rest}
use Rattle.good_laws.specs.Answers.{more_awaits}
use Rattle.good_laws.specs.Removed.{tighten_good}
use Rattle.good_laws.specs.Idle.{Idle, rises_idle, tighten_rises}
use Rattle.good_laws.specs.Scripts.{Visits, await_good}
use Rattle.good_laws.specs.Sound.{Of, Fits, Tried, OnNode, tries_node, visiting, of_same}
use Rattle.good_laws.specs.Turned.{named_below}
use Rattle.reached_laws.specs.Tracks.{good_tracked, owned_by}
use Rattle.reached_laws.specs.Wires.{Wires, wires_sound}
use Rattle.idle_laws.specs.Able.{able_eta, interact_able}
use Rattle.idle_laws.specs.Placed.{wait_of, named, waits_on, Placed, placed_more}
use Rattle.idle_laws.specs.Acted.{Nobody, Born, act_placed, plain_okay, origin, origin_new}
use Rattle.idle_laws.specs.Grafted.{quiet_clean, quiet_waits, graft_okay}
use Rattle.idle_laws.specs.Out.{OutOn, Out, out_more, out_placed}
use Rattle.idle_laws.specs.Tried.{get_named, eta_dies, await_is, await_dirty, tight_dirty, holds_net, graft_dies, all_at}

-- waits come
abbrev Grows : Engine → Engine → Type 0
Grows e e' = (m : ℕ) (v : Wait) → Memᴰ v (waits_on e m) → Memᴰ v (waits_on e' m)

module _ (path n : ℕ) (e₂ : Engine) (there : filled (graph_of e₂) n ≡ true) where
  -- in the middle of the visit
  record Going (e : Engine) : Type 0 where
    good : Good (visiting e n) e
    still : body e ≡ body e₂
    idle : Idle e
    wires : Of (Wires path) e
    placed : Placed (λ x. x ≡ n) e

  -- after a try
  abbrev Goes : Engine → Try → Result Visited → Type 0
  Goes e t r = Visits (Placed Nobody) (λ e'. Going e' × Out e' t × Grows e e') r

  module _ (e : Engine) (go : Going e) where
    abbrev g : Graph
    g = graph_of e

    abbrev k : ℕ
    k = (at (graph_of e) n).net

    filled_n : filled g n ≡ true
    filled_n = ap (λ (h : Graph). filled h n) (still_graph go.still) ∙ there

    owner : get_or (owners g) n none ≡ some k
    owner = let o = owned_by g n filled_n in o.1 ∙ ap {B = Option ℕ} some (sym (net_of g n o.0 o.1))

    one : 1 ≤ visiting e n k
    one = let q : bit (eqb k k) ≡ 1 = ap bit (eqb_self k) in omega arith

    fr : Fresh g (fresh e)
    fr = tracked_fresh e (good_tracked (visiting e n) e go.good)

    same : Grows e e
    same m v i = i

    stays : (t : Try) → Out e t → Goes e t (ok (passed e))
    stays t o = (go, o, same)

    -- a script without copies
    plain : (t : Try) (s : Script) (into : ℕ) → Fits (Wires path) e k s → Ordered ⊥ (fresh e) into 0 s.edits → Memᴰ n s.dead → Goes e t (act s e)
    plain t s into f o d =
        act_placed e fr [] n path (visiting e n) k go.good go.wires one s f (plain_okay e fr n into 0 s.edits o) d (λ y b. absurd (let l = b.1 in omega arith)) go.placed (λ e'. Going e' × Out e' t × Grows e e')

    script_goes : (t : Try) (o : Option Script) → (o ≡ none → Out e t) → ((s : Script) → o ≡ some s → Goes e t (act s e)) → Goes e t (act_if o e)
    unfolding act_if
    script_goes t none a b = stays t (a refl)
    script_goes t (some s) a b = b s refl

    pair_goes : (r : Rule) (a b : ℕ) → OnNode n (interaction r a b) → Tried (Wires path) e k (interaction r a b) → Goes e (interaction r a b) (attempt (interaction r a b) e)
    unfolding attempt
    pair_goes r a b i h =
        script_goes (interaction r a b) (interact r (fresh e) g a b) (λ q f s u. interact_able r f (fresh e) g g a b a b s refl refl refl refl u q)
        (λ s q. plain (interaction r a b) s (at g a).net (h s q) (interact_ordered ⊥ (fresh e) g r a b s q) (subst (Memᴰ n) (sym (interact_dead r (fresh e) g a b s q)) (of_two i)))
      where
        of_two : (a ≡ n) ⊎ (b ≡ n) → Memᴰ n (a ∷ b ∷ [])
        of_two (inl q) = Memᴰ.head (sym q)
        of_two (inr q) = Memᴰ.tail (Memᴰ.head (sym q))

    eta_goes : (cs vs ns : List ℕ) → Tried (Wires path) e k (rewrite (eta cs vs ns) n) → Goes e (rewrite (eta cs vs ns) n) (act_if (eta_script (fresh e) g vs ns n) e)
    eta_goes cs vs ns h =
        script_goes (rewrite (eta cs vs ns) n) (eta_script (fresh e) g vs ns n) (λ q o x. able_eta (fresh e) g n vs ns o x q)
        (λ s q. plain (rewrite (eta cs vs ns) n) s (at g n).net (h s q) (eta_ordered ⊥ (fresh e) g vs ns n s q) (eta_dies (fresh e) g vs ns n s q))

    -- ---- grafts

    -- the node waits
    await_goes : (p : ℕ) (lazy : Bool) (c m : ℕ) (cs : List ℕ) → (name_of g n).children ≡ c ∷ cs → get_net e c ≡ some m → (net_at e m).pending ≢ 0 → Goes e (rewrite (graft p lazy) n) (await_net m n e)
    unfolding await_net
    await_goes p lazy c m cs ch got above = by (ltb (waits e) e.pools.waits) (await_good rest m n e (λ _. ⊥) go.good go.idle above low)
      where
        low : m < length e.nets
        low = named_below e c m got

        f : Net → Net
        f t = with_awaiting (t.awaiting ++ record { node = n; net = k } ∷ []) t

        e' : Engine
        e' = more k (over_net f m e)

        kept : (j : ℕ) → waits_on e' j ≡ waits_on (over_net f m e) j
        kept j = part_at (λ t. t.awaiting) (over_net f m e) e' (more_awaits k (over_net f m e)) j

        here : waits_on e' m ≡ waits_on e m ++ wait_of g n ∷ []
        here = kept m ∙ ap (λ (t : Net). t.awaiting) (over_same f m e low) ∙ awaited (net_at e m)
          where
            awaited : (t : Net) → (f t).awaiting ≡ t.awaiting ++ record { node = n; net = k } ∷ []
            awaited t = await_is (t.awaiting ++ record { node = n; net = k } ∷ []) t

        grows : Grows e e'
        grows j v i = on (ℕ_discrete j m)
          where
            on : Dec (j ≡ m) → Memᴰ v (waits_on e' j)
            on (yes q) = subst (λ (u : ℕ). Memᴰ v (waits_on e' u)) (sym q) (subst (Memᴰ v) (sym here) (Memᴰ.append_left (wait_of g n ∷ []) (subst (λ (u : ℕ). Memᴰ v (waits_on e u)) q i)))
            on (no d) = subst (Memᴰ v) (sym (kept j ∙ ap (λ (t : Net). t.awaiting) (over_other f m e j d))) i

        out : OutOn g (homes e) (waits_on e') (rewrite (graft p lazy) n)
        out c' m' cs' r ch' q =
            let u : c' ≡ c = first (sym ch' ∙ ch) in
            let v : m ≡ m' = some-injective m m' (sym got ∙ get_named e c ∙ ap (named (homes e)) (sym u) ∙ q) in
            subst (λ (j : ℕ). Memᴰ (wait_of g n) (waits_on e' j)) v (subst (Memᴰ (wait_of g n)) (sym here) (Memᴰ.append_right (waits_on e m) (Memᴰ.head refl)))
          where
            first : c' ∷ cs' ≡ c ∷ cs → c' ≡ c
            first s = cc

        by : (t : Bool) → Visits (λ _. ⊥) (λ d. Good (bump k rest) d × (body d ≡ body e) × Idle d) (need t 11 (ok (passed e'))) → Goes e (rewrite (graft p lazy) n) (need t 11 (ok (passed e')))
        by true d = (
          record {
            good = subst (λ (h : Graph). Good (bump (at h n).net rest) e') (sym (still_graph d.1)) d.0;
            still = d.1 ∙ go.still;
            idle = d.2;
            wires = of_same (Wires path) e e' d.1 go.wires;
            placed = placed_more (λ x. x ≡ n) e e' d.1 (λ x c. sym (marks_same x) ∙ c) (λ a j _ _ i. grows j (wait_of g a) i) go.placed;
          },
          subst (λ (z : Body). OutOn z.1 z.0.2 (waits_on e') (rewrite (graft p lazy) n)) (sym d.1) out,
          grows,
        )
          where
            marks_same : (x : ℕ) → is_dirty e' x ≡ is_dirty e x
            marks_same x = await_dirty f k m e x
        by false d = tt

    ready : Ready path (core_of e)
    unfolding core_of
    ready = record { unnamed = go.wires.1; rest = go.wires.0; tracked = good_tracked (visiting e n) e go.good }

    held : 1 ≤ (net_at e k).pending
    held = let p = go.good.pending k (go.good.slotted.owned n k owner) in let o = one in omega arith

    -- a net at 0 is grafted
    module _ (p : ℕ) (lazy : Bool) (rule : Memᴰ (graft p lazy) e.rules) (own : (name_of g n).path ≡ p) (reach : reaches g lazy n ≡ true)
        (c m : ℕ) (cs : List ℕ) (ch : (name_of g n).children ≡ c ∷ cs) (got : get_net e c ≡ some m) (zero' : (net_at e m).pending ≡ 0) (h : Tried (Wires path) e k (rewrite (graft p lazy) n)) where
      abbrev e₁ : Engine
      e₁ = tighten_net m e

      abbrev ids : List ℕ
      ids = (net_at e₁ m).list.items

      low : m < length e.nets
      low = named_below e c m got

      still₁ : body e₁ ≡ body e
      still₁ = tighten_net_still m e

      waits₁ : (j : ℕ) → waits_on e₁ j ≡ waits_on e j
      waits₁ j = part_at (λ t. t.awaiting) e e₁ (tighten_rises m e).same j

      tight_going : Going e₁
      tight_going = record {
        good = subst (λ (q : Graph). Good (bump (at q n).net rest) e₁) (sym (still_graph still₁)) (tighten_good (visiting e n) m e go.good low);
        still = still₁ ∙ go.still;
        idle = rises_idle e e₁ (tighten_rises m e) go.idle;
        wires = of_same (Wires path) e e₁ still₁ go.wires;
        placed = placed_more (λ x. x ≡ n) e e₁ still₁ (λ x d. sym (tight_dirty m e x) ∙ d) (λ a j _ _ i. subst (Memᴰ (wait_of g a)) (sym (waits₁ j)) i) go.placed;
      }

      nodes : NodesOf g m ids
      unfolding core_of
      nodes = Visiting.nodes path n e ready held p lazy rule own reach c cs ch m got zero'

      other : ¬ (m ≡ k)
      unfolding core_of
      other = Visiting.other path n e ready held p lazy rule own reach c cs ch m got zero'

      -- its nodes are clean, and none is n
      clean : (x : ℕ) → holds (graph_of e₁) m x ≡ true → (is_dirty e₁ x ≡ false) × (x ≢ n)
      clean x t =
          let t' : holds g m x ≡ true = ap (λ (q : Graph). holds q m x) (sym (still_graph still₁)) ∙ t in
          let q = holds_net g m x t' in
          (tight_dirty m e x ∙ quiet_clean e (visiting e n) go.good m low zero' x (holds_filled g m x t') q, λ u. other (sym q ∙ ap (λ (j : ℕ). (at g j).net) u))

      fr₁ : Fresh (graph_of e₁) (fresh e₁)
      fr₁ = tracked_fresh e₁ (good_tracked (visiting e n) e₁ (tighten_good (visiting e n) m e go.good low))

      nodes₁ : NodesOf (graph_of e₁) m ids
      nodes₁ = subst (λ (q : Graph). NodesOf q m ids) (sym (still_graph still₁)) nodes

      quiet : (y : ℕ) → Born e₁ fr₁ ids y → (j : ℕ) → ¬ Memᴰ (wait_of (graph_of e₁) (origin e₁ fr₁ ids y)) (waits_on e₁ j)
      quiet y b j i =
          let x = get_or ids b.0 0 in
          let q : origin e₁ fr₁ ids y ≡ x = ap (origin e₁ fr₁ ids) b.2 ∙ origin_new e₁ fr₁ ids b.0 b.1 in
          let w : (at (graph_of e₁) (origin e₁ fr₁ ids y)).net ≡ m = ap (λ (z : ℕ). (at (graph_of e₁) z).net) q ∙ ap (λ (h : Graph). (at h x).net) (still_graph still₁) ∙ holds_net g m x (nodes.sound x (at_mem ids b.0 b.1)) in
          quiet_waits e (visiting e n) go.good m low zero' (wait_of (graph_of e₁) (origin e₁ fr₁ ids y)) w j (subst (Memᴰ (wait_of (graph_of e₁) (origin e₁ fr₁ ids y))) (waits₁ j) i)

      graft_goes : Goes e (rewrite (graft p lazy) n) (graft_net m n e)
      unfolding graft_net
      graft_goes = by (graft_fits (graph_of e₁) (net_at e₁ m).home.free n) refl (act script e₁) (λ f. acts (h c m cs reach ch got zero' f))
        where
          script : Script
          script = graft_script (fresh e₁) (graph_of e₁) ids (net_at e₁ m).home.free n

          acts : Fits (Wires path) e₁ k (graft_script (fresh e₁) (graph_of e₁) ids (net_at e₁ m).home.free n) → Goes e (rewrite (graft p lazy) n) (act (graft_script (fresh e₁) (graph_of e₁) ids (net_at e₁ m).home.free n) e₁)
          acts f =
              act_placed e₁ fr₁ ids n path (visiting e n) k (tighten_good (visiting e n) m e go.good low) tight_going.wires one
              (graft_script (fresh e₁) (graph_of e₁) ids (net_at e₁ m).home.free n) f (graft_okay e₁ fr₁ tight_going.wires.0.well m ids nodes₁ n clean (net_at e₁ m).home.free)
              (graft_dies (fresh e₁) (graph_of e₁) ids (net_at e₁ m).home.free n) quiet tight_going.placed (λ e'. Going e' × Out e' (rewrite (graft p lazy) n) × Grows e e')

          by : (t : Bool) → graft_fits (graph_of e₁) (net_at e₁ m).home.free n ≡ t → (r : Result Visited) → (graft_fits (graph_of e₁) (net_at e₁ m).home.free n ≡ true → Goes e (rewrite (graft p lazy) n) r)
              → Goes e (rewrite (graft p lazy) n) (r >>= λ v. need t 13 (ok v))
          by true q (ok v) f = f q
          by true q (refuse r) f = tt
          by false q (ok v) f = tt
          by false q (refuse r) f = tt

    -- a graft rule
    try_graft_lem : (p : ℕ) (lazy : Bool) → Memᴰ (graft p lazy) e.rules → (name_of g n).path ≡ p → Tried (Wires path) e k (rewrite (graft p lazy) n) → Goes e (rewrite (graft p lazy) n) (try_graft lazy n e)
    unfolding try_graft graft_child graft_named
    try_graft_lem p lazy rule own h = by (reaches g lazy n) refl
      where
        on_net : (c m : ℕ) (cs : List ℕ) → reaches g lazy n ≡ true → (name_of g n).children ≡ c ∷ cs → get_net e c ≡ some m → (t : Bool) → eqb (net_at e m).pending 0 ≡ t
            → Goes e (rewrite (graft p lazy) n) (elim t as (λ _. Result Visited) [ true ↦ graft_net m n e | false ↦ await_net m n e ])
        on_net c m cs reach ch got true z = graft_goes p lazy rule own reach c m cs ch got (eqb-true (net_at e m).pending 0 z) h
        on_net c m cs reach ch got false z = await_goes p lazy c m cs ch got (eqb-false (net_at e m).pending 0 z)

        on_named : (c : ℕ) (cs : List ℕ) → reaches g lazy n ≡ true → (name_of g n).children ≡ c ∷ cs → (o : Option ℕ) → get_net e c ≡ o → Goes e (rewrite (graft p lazy) n) (graft_named o n e)
        on_named c cs reach ch none got = stays (rewrite (graft p lazy) n) (λ c' m' cs' r ch' q.
            let u : c' ≡ c = first c' cs' (sym ch' ∙ ch) in
            absurd (let z : ◌≡◌ {A = Option ℕ} none (some m') = sym got ∙ get_named e c ∙ ap (named (homes e)) (sym u) ∙ q in let y : ◌≡◌ {A = ℕ} 0 1 = cc in omega arith))
          where
            first : (c' : ℕ) (cs' : List ℕ) → c' ∷ cs' ≡ c ∷ cs → c' ≡ c
            first c' cs' s = cc
        on_named c cs reach ch (some m) got = on_net c m cs reach ch got (eqb (net_at e m).pending 0) refl

        on_child : (l : List ℕ) → reaches g lazy n ≡ true → (name_of g n).children ≡ l → Goes e (rewrite (graft p lazy) n) (graft_child l n e)
        on_child [] reach ch = tt
        on_child (c ∷ cs) reach ch = on_named c cs reach ch (get_net e c) refl

        by : (t : Bool) → reaches g lazy n ≡ t → Goes e (rewrite (graft p lazy) n) (elim t as (λ _. Result Visited) [ true ↦ graft_child (name_of g n).children n e | false ↦ ok (passed e) ])
        by true r = on_child (name_of g n).children r refl
        by false r = stays (rewrite (graft p lazy) n) (λ c' m' cs' r' ch' q. absurd (true≢false (sym r' ∙ r)))

    attempt_goes : (t : Try) → Memᴰ t (tries e.rules g n) → Goes e t (attempt t e)
    unfolding attempt try_rewrite rewrites
    attempt_goes t i = by t (tries_node e.rules g n t i) (wires_sound path e n k go.good go.wires owner t i)
        (all_at (Valid e.rules g n) (tries e.rules g n) t (tries_valid e.rules g go.wires.0.well n (go.wires.0.ported n filled_n)) i)
      where
        on : (r : Rule) → Memᴰ r e.rules → Memᴰ (name_of g n).path (rewrites r) → Tried (Wires path) e k (rewrite r n) → Goes e (rewrite r n) (try_rewrite r n e)
        on (graft p lazy) i j h = try_graft_lem p lazy i (Memᴰ.eq_of_singleton j) h
        on (annihilate ps) i j h = stays (rewrite (annihilate ps) n) tt
        on (erase es ns) i j h = stays (rewrite (erase es ns) n) tt
        on (commute xs ys) i j h = stays (rewrite (commute xs ys) n) tt
        on (eta cs vs ns) i j h = eta_goes cs vs ns h

        by : (t : Try) → OnNode n t → Tried (Wires path) e k t → Valid e.rules g n t → Goes e t (attempt t e)
        by (interaction r a b) o h v = pair_goes r a b o h
        by (rewrite r a) o h v =
            subst (λ (j : ℕ). Goes e (rewrite r j) (try_rewrite r j e)) (sym o) (on r v.0 (subst (λ (j : ℕ). Memᴰ (name_of g j).path (rewrites r)) o v.1) (subst (λ (j : ℕ). Tried (Wires path) e k (rewrite r j)) o h))

  -- all that is tried
  abbrev TriedAll : List Try → Engine → Engine → Type 0
  TriedAll ts e e' = Going e' × ((t : Try) → Memᴰ t ts → Out e' t) × Grows e e'

  attempts_go : (ts : List Try) → ((t : Try) → Memᴰ t ts → Memᴰ t (tries e₂.rules (graph_of e₂) n)) → (e : Engine) → Going e → Visits (Placed Nobody) (TriedAll ts e) (attempts ts e)
  unfolding attempts
  attempts_go [] i e go = (go, (λ t m. absurd (Memᴰ.not-nil m)), λ m v j. j)
  attempts_go (t ∷ ts) i e go =
      by (attempt t e) (attempt_goes e go t (subst (λ (z : Body). Memᴰ t (tries z.0.1 z.1 n)) (sym go.still) (i t (Memᴰ.head refl))))
      (λ e' go'. attempts_go ts (λ u m. i u (Memᴰ.tail m)) e' go')
    where
      then : (e' : Engine) → Going e' → Out e' t → Grows e e' → (r : Result Visited) → Visits (Placed Nobody) (TriedAll ts e') r → Visits (Placed Nobody) (TriedAll (t ∷ ts) e) r
      then e' go' o w (ok (acted e'')) h = h
      then e' go' o w (ok (passed e'')) h = (h.0, outs, λ m v j. h.2 m v (w m v j))
        where
          outs : (u : Try) → Memᴰ u (t ∷ ts) → Out e'' u
          outs u m = on (Memᴰ.cases_cons m)
            where
              on : (u ≡ t) ⊎ Memᴰ u ts → Out e'' u
              on (inl q) = subst (Out e'') (sym q) (out_more e' e'' (h.0.still ∙ sym go'.still) h.2 t o)
              on (inr j) = h.1 u j
      then e' go' o w (refuse c) h = tt

      by : (r : Result Visited) → Goes e t r → ((e' : Engine) → Going e' → Visits (Placed Nobody) (TriedAll ts e') (attempts ts e'))
          → Visits (Placed Nobody) (TriedAll (t ∷ ts) e) (r >>= λ v. elim v as (λ _. Result Visited) [ acted e' ↦ ok (acted e') | passed e' ↦ attempts ts e' ])
      by (ok (acted e')) h f = h
      by (ok (passed e')) h f = then e' h.0 h.1 h.2 (attempts ts e') (f e' h.0)
      by (refuse c) h f = tt

  -- the visit
  pub visit_placed : Good (visiting e₂ n) e₂ → Idle e₂ → Of (Wires path) e₂ → Placed (λ x. x ≡ n) e₂ → Visits (Placed Nobody) (Placed Nobody) (visit n e₂)
  unfolding visit
  visit_placed g i w p =
      by (attempts (tries e₂.rules (graph_of e₂) n) e₂) (attempts_go (tries e₂.rules (graph_of e₂) n) (λ t m. m) e₂ (record { good = g; still = refl; idle = i; wires = w; placed = p }))
    where
      by : (r : Result Visited) → Visits (Placed Nobody) (TriedAll (tries e₂.rules (graph_of e₂) n) e₂) r → Visits (Placed Nobody) (Placed Nobody) r
      by (ok (acted e')) h = h
      by (ok (passed e')) h =
          out_placed n e' h.0.wires.0.well (λ t m. h.1 t (subst (λ (z : Body). Memᴰ t (tries z.0.1 z.1 n)) h.0.still m)) h.0.placed
      by (refuse c) h = tt
