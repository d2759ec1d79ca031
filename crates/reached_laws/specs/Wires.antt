-- Well wired nets with their free nodes, and rules that do not name the free path, are a sound condition: every script that a rule
-- finds is orderly, and keeps it.
use Rattle.std.specs.Prelude.{ℕ, zero, suc, ◌<◌, ◌≡◌, ◌≢◌, ◌⊎◌, Bool, false, get_or}
use Rattle.std.proofs.Math.Path.{refl, ap, subst}
use Rattle.std.proofs.Common.{sym, ◌∙◌, inl, inr, arith, true≢false}
use Rattle.std.proofs.Math.Bool.{true}
use Rattle.std.proofs.Math.Option.{Option, none, some, some-injective}
use mathlib.Core.List.{List, [], ◌∷◌, map, Memᴰ}
use Rattle.std.proofs.Math.ListN.{length, length-map, get_or-map}
use Rattle.std.proofs.Math.Dec.{eqb}
use borrow.Author.Tests.{eqb-true}
use Rattle.net_file.specs.Lists.{bit}
use Rattle.net_file.specs.Values.{graft, annihilate, erase, commute, eta}
use Rattle.definitions.specs.Lists.{nth, place, find, up_to, firsts, keep, is_some}
use Rattle.definitions.specs.Nets.{Graph, Home, port, at, filled, holds, name_of}
use Rattle.definitions.specs.Scripts.{Script, apply_script}
use Rattle.definitions.specs.Rules.{graft_script, reaches}
use Rattle.definitions.specs.Step.{rewrites, Fresh, NodesOf, Acts, interacts, reduces, grafts}
use Rattle.definitions.specs.State.{Net, Engine, graph_of, homes, new_net, with_list, net_at, over_net}
use Rattle.definitions.specs.Books.{tight, tighten_net, fresh}
use Rattle.definitions.specs.Visit.{Try, interaction, rewrite, tries, get_net}
use Rattle.dirty_laws.specs.Tests.{eqb_self}
use Rattle.engine_laws.specs.Frame.{Body, body, tighten_net_still, still_graph, still_frame, homes_kept}
use Rattle.rule_laws.specs.Places.{one_of_two}
use Rattle.rule_laws.specs.Order.{InOrder, interact_order, eta_order, graft_order}
use Rattle.graph_laws.specs.Dead.{interact_dead}
use Rattle.graph_laws.specs.Rest.{Rest, Unnamed, acts_clean}
use Rattle.graph_laws.proofs.Rest.{step_wired}
use Rattle.step_laws.specs.Core.{core_of, list_of}
use Rattle.step_laws.specs.Track.{list_at}
use Rattle.step_laws.specs.Numbers.{tracked_fresh, tight_nodes}
use Rattle.step_laws.specs.Tries.{Valid, All, cons, tries_valid}
use Rattle.good_laws.specs.Owners.{owners, net_of}
use Rattle.good_laws.specs.Nets.{over_same, part_at}
use Rattle.good_laws.specs.Good.{Good}
use Rattle.good_laws.specs.Removed.{tighten_good}
use Rattle.good_laws.specs.Turned.{named_below}
use Rattle.good_laws.specs.Sound.{Condition, Of, Fits, Tried, Sound, OnNode, tries_node, visiting, of_same}
use Rattle.reached_laws.specs.Tracks.{filled_owner, good_tracked, orderly}
use Rattle.reached_laws.specs.Nets.{after_edits, eta_nets}

-- every net is well wired and has its free node; no rewrite names the path of free nodes
abbrev pub Wires : ℕ → Condition
Wires path g hs rs = Rest path hs g × Unnamed path rs

-- ---- nets by name and number

pub find_true : (f : ℕ → Bool) (ks : List ℕ) (m : ℕ) → find f ks ≡ some m → f m ≡ true
find_true f [] m h = absurd (let z : ◌≡◌ {A = ℕ} 0 1 = cc in omega arith)
find_true f (k ∷ ks) m h = go (f k) refl h (λ t. find_true f ks m t)
  where
    go : (t : Bool) → f k ≡ t → elim t as (λ _. Option ℕ) [ true ↦ some k | false ↦ find f ks ] ≡ some m → (find f ks ≡ some m → f m ≡ true) → f m ≡ true
    go true q r s = ap f (sym (some-injective k m r)) ∙ q
    go false q r s = s r

pub nth_at : {A : Type 0} (xs : List A) (k : ℕ) (d : A) → k < length xs → nth xs k ≡ some (get_or xs k d)
nth_at [] k d l = absurd (omega arith)
nth_at (x ∷ xs) zero d l = refl
nth_at (x ∷ xs) (suc k) d l = nth_at xs k d (omega arith)

pub home_at : (e : Engine) (m : ℕ) → m < length e.nets → nth (homes e) m ≡ some (net_at e m).home
unfolding net_at
home_at e m l =
    let ln = length-map e.nets (λ (t : Net). t.home) in
    nth_at (homes e) m (record { name = 0; free = 0 }) (omega arith) ∙ ap {B = Option Home} some (get_or-map (λ (t : Net). t.home) e.nets m (new_net (record { name = 0; free = 0 })))

module _ (path : ℕ) where
  -- a rule's script fits: its new nodes are in order in net k, and its dead nodes are of net k
  acts_fit : (x : ℕ → ℕ) (e : Engine) → Good x e → Of (Wires path) e → (m : Option ℕ) (s : Script) → Acts e.rules (homes e) (graph_of e) (fresh e) m s
      → (k n : ℕ) → filled (graph_of e) n ≡ true → (at (graph_of e) n).net ≡ k → InOrder (fresh e) k 0 s.edits
      → ((d : ℕ) → Memᴰ d s.dead → filled (graph_of e) d ≡ true → (at (graph_of e) d).net ≡ k) → Fits (Wires path) e k s
  unfolding core_of
  acts_fit x e g p m s a k n there own order nets =
      let t = good_tracked x e g in
      let f : Fresh (graph_of e) (fresh e) = tracked_fresh e t in
      let clean = acts_clean e.rules (homes e) path p.1 (graph_of e) p.0 (fresh e) f m s a in
      let ln = length-map e.nets list_of in
      let l = t.in_range n there in (
        orderly e k s (omega arith) order clean.once (λ d i. after_edits (fresh e) k s.edits (graph_of e) order d (clean.there d i) (nets d i)),
        (step_wired e.rules (homes e) path p.1 (graph_of e) (apply_script (graph_of e) s) p.0 (record { fresh = fresh e; is_fresh = f; copied = m; script = s; acts = a; done = refl }), p.1),
      )

  all_at : {A : Type 0} (Q : A → Type 0) (xs : List A) (a : A) → All Q xs → Memᴰ a xs → Q a
  all_at Q [] a h m = absurd (mathlib.Core.List.Memᴰ.not-nil m)
  all_at Q (x ∷ xs) a (cons q h) m = go (mathlib.Core.List.Memᴰ.cases_cons m) (λ k. all_at Q xs a h k)
    where
      go : (a ≡ x) ⊎ Memᴰ a xs → (Memᴰ a xs → Q a) → Q a
      go (inl s) r = subst Q (sym s) q
      go (inr k) r = r k

  -- ---- grafts

  listed_at : (e : Engine) (m : ℕ) → get_or (map list_of e.nets) m [] ≡ (net_at e m).list.items
  unfolding net_at
  listed_at e m = get_or-map list_of e.nets m (new_net (record { name = 0; free = 0 }))

  -- the list that is copied holds the nodes of net m
  tightened_nodes : (x : ℕ → ℕ) (m : ℕ) (e : Engine) → Good x e → m < length e.nets → NodesOf (graph_of (tighten_net m e)) m (net_at (tighten_net m e) m).list.items
  unfolding tighten_net with_list tight core_of
  tightened_nodes x m e g l =
      let f : Net → Net = λ t. with_list (tight (holds (graph_of e) m) t.list) t in
      let q : (net_at (over_net f m e) m).list.items ≡ firsts eqb [] (keep (holds (graph_of e) m) (net_at e m).list.items) = ap (λ (t : Net). t.list.items) (over_same f m e l) in
      let r : list_at (core_of e) m ≡ (net_at e m).list.items = listed_at e m in
      subst (λ (h : Graph). NodesOf h m (net_at (over_net f m e) m).list.items) (sym (still_graph (tighten_net_still m e)))
      (subst (NodesOf (graph_of e) m) (sym q)
      (subst (λ (ns : List ℕ). NodesOf (graph_of e) m (firsts eqb [] (keep (holds (graph_of e) m) ns))) r (tight_nodes (core_of e) (good_tracked x e g) m)))

  module _ (e : Engine) (n k : ℕ) (g : Good (visiting e n) e) (p : Of (Wires path) e) (o : get_or (owners (graph_of e)) n none ≡ some k) where
    graft_tried : (q : ℕ) (lazy : Bool) → Memᴰ (graft q lazy) e.rules → Memᴰ (name_of (graph_of e) n).path (rewrites (graft q lazy)) → Tried (Wires path) e k (rewrite (graft q lazy) n)
    unfolding rewrites get_net graft_script
    graft_tried q lazy r w c m cs reach named found zero' fits =
        let e₁ = tighten_net m e in
        let l = named_below e c m found in
        let g₁ = tighten_good (visiting e n) m e g l in
        let b = tighten_net_still m e in
        let p₁ = of_same (Wires path) e e₁ b p in
        let own : (name_of (graph_of e) n).path ≡ q = mathlib.Core.List.Memᴰ.eq_of_singleton w in
        let r' : Memᴰ (graft (name_of (graph_of e) n).path lazy) e.rules = subst (λ (j : ℕ). Memᴰ (graft j lazy) e.rules) (sym own) r in
        let h : (net_at e₁ m).home ≡ (net_at e m).home = homes_same m in
        let l₁ : m < length e₁.nets = subst (λ (i : ℕ). m < i) (sym (nets_same m)) l in
        acts_fit (visiting e n) e₁ g₁ p₁ (some m) (graft_script (fresh e₁) (graph_of e₁) (net_at e₁ m).list.items (net_at e₁ m).home.free n)
        (grafts lazy n c m cs (net_at e₁ m).list.items (net_at e₁ m).home
        (subst (λ (z : Body). Memᴰ (graft (name_of z.1 n).path lazy) z.0.1) (sym b) r')
        (subst (λ (z : Body). reaches z.1 lazy n ≡ true) (sym b) reach)
        (subst (λ (z : Body). (name_of z.1 n).children ≡ c ∷ cs) (sym b) named)
        (home_at e₁ m l₁)
        (ap (λ (x : Home). x.name) h ∙ eqb-true (net_at e m).home.name c (find_true (λ j. eqb (net_at e j).home.name c) (up_to (length e.nets)) m found))
        (λ s. apart m l zero' (s ∙ ap (λ (z : Body). (at z.1 n).net) b))
        (tightened_nodes (visiting e n) m e g l)
        fits)
        k n (subst (λ (z : Body). filled z.1 n ≡ true) (sym b) there) (ap (λ (z : Body). (at z.1 n).net) b ∙ own_net)
        (subst (λ (j : ℕ). InOrder (fresh e₁) j 0 (graft_script (fresh e₁) (graph_of e₁) (net_at e₁ m).list.items (net_at e₁ m).home.free n).edits)
        (ap (λ (z : Body). (at z.1 n).net) b ∙ own_net) (graft_order (fresh e₁) (graph_of e₁) (net_at e₁ m).list.items (net_at e₁ m).home.free n))
        (λ d i f. dead_net m e₁ b (tracked_fresh e₁ (good_tracked (visiting e n) e₁ g₁)) d (place (eqb (net_at e₁ m).home.free) (net_at e₁ m).list.items) (one_of_two i) f)
      where
        there : filled (graph_of e) n ≡ true
        there = filled_owner (graph_of e) n ∙ ap is_some o

        own_net : (at (graph_of e) n).net ≡ k
        own_net = net_of (graph_of e) n k o

        -- the copied free node is new
        dead_net : (m : ℕ) (e₁ : Engine) → body e₁ ≡ body e → Fresh (graph_of e₁) (fresh e₁) → (d j : ℕ) → (d ≡ fresh e₁ j) ⊎ (d ≡ n) → filled (graph_of e₁) d ≡ true → (at (graph_of e₁) d).net ≡ k
        dead_net m e₁ b f d j (inl q) h = absurd (true≢false (sym h ∙ ap (filled (graph_of e₁)) q ∙ f.vacant j))
        dead_net m e₁ b f d j (inr q) h = ap (λ (i : ℕ). (at (graph_of e₁) i).net) q ∙ ap (λ (z : Body). (at z.1 n).net) b ∙ own_net

        homes_same : (m : ℕ) → (net_at (tighten_net m e) m).home ≡ (net_at e m).home
        homes_same m = part_at (λ t. t.home) e (tighten_net m e) (homes_kept (still_frame (tighten_net_still m e))) m

        nets_same : (m : ℕ) → length (tighten_net m e).nets ≡ length e.nets
        nets_same m =
            sym (length-map (tighten_net m e).nets (λ (t : Net). t.home)) ∙ ap length (homes_kept (still_frame (tighten_net_still m e))) ∙ length-map e.nets (λ (t : Net). t.home)

        -- the visited node's net is above 0
        apart : (m : ℕ) → m < length e.nets → (net_at e m).pending ≡ 0 → m ≢ (at (graph_of e) n).net
        apart m l z s =
            let q = g.pending m l in
            let u : bit (eqb (at (graph_of e) n).net m) ≡ 1 = ap (λ (j : ℕ). bit (eqb (at (graph_of e) n).net j)) s ∙ ap bit (eqb_self (at (graph_of e) n).net) in
            omega arith

    -- every rule that is tried
    valid_tried : (t : Try) → OnNode n t → Valid e.rules (graph_of e) n t → Tried (Wires path) e k t
    unfolding rewrites
    valid_tried (interaction r a b) i v = λ s q. acts_fit (visiting e n) e g p none s (interacts r a b s v.0 v.1 v.2 q)
        k n there own_net (subst (λ (j : ℕ). InOrder (fresh e) j 0 s.edits) (net_a i) (interact_order (fresh e) (graph_of e) r a b s q))
        (λ d m f. two d (one_of_two (subst (Memᴰ d) (interact_dead r (fresh e) (graph_of e) a b s q) m)))
      where
        there : filled (graph_of e) n ≡ true
        there = filled_owner (graph_of e) n ∙ ap is_some o

        own_net : (at (graph_of e) n).net ≡ k
        own_net = net_of (graph_of e) n k o

        alike : (at (graph_of e) a).net ≡ (at (graph_of e) b).net
        alike = p.0.well.wired.within (port a 0) (port b 0) v.2

        net_a : (a ≡ n) ⊎ (b ≡ n) → (at (graph_of e) a).net ≡ k
        net_a (inl q) = ap (λ (j : ℕ). (at (graph_of e) j).net) q ∙ own_net
        net_a (inr q) = alike ∙ ap (λ (j : ℕ). (at (graph_of e) j).net) q ∙ own_net

        two : (d : ℕ) → (d ≡ a) ⊎ (d ≡ b) → (at (graph_of e) d).net ≡ k
        two d (inl q) = ap (λ (j : ℕ). (at (graph_of e) j).net) q ∙ net_a i
        two d (inr q) = ap (λ (j : ℕ). (at (graph_of e) j).net) q ∙ sym alike ∙ net_a i
    valid_tried (rewrite (graft q lazy) a) i v =
        subst (λ (j : ℕ). Tried (Wires path) e k (rewrite (graft q lazy) j)) (sym v.2) (graft_tried q lazy v.0 (subst (λ (j : ℕ). Memᴰ (name_of (graph_of e) j).path (rewrites (graft q lazy))) v.2 v.1))
    valid_tried (rewrite (annihilate ps) a) i v = tt
    valid_tried (rewrite (erase es ns) a) i v = tt
    valid_tried (rewrite (commute xs ys) a) i v = tt
    valid_tried (rewrite (eta cs vs ns) a) i v =
        λ s q.
        let own : (at (graph_of e) a).net ≡ k = ap (λ (j : ℕ). (at (graph_of e) j).net) v.2 ∙ net_of (graph_of e) n k o in
        let there : filled (graph_of e) a ≡ true = ap (filled (graph_of e)) v.2 ∙ filled_owner (graph_of e) n ∙ ap is_some o in
        acts_fit (visiting e n) e g p none s (reduces cs vs ns a s v.0 there v.1 q)
        k a there own (subst (λ (j : ℕ). InOrder (fresh e) j 0 s.edits) own (eta_order (fresh e) (graph_of e) vs ns a s q))
        (λ d m f. eta_nets (graph_of e) p.0.well.wired (fresh e) a vs ns s q d m ∙ own)

  -- so it is a sound condition
  pub wires_sound : Sound (Wires path)
  wires_sound e n k g p o t m =
      valid_tried e n k g p o t (tries_node e.rules (graph_of e) n t m)
      (all_at (Valid e.rules (graph_of e) n) (tries e.rules (graph_of e) n) t
      (tries_valid e.rules (graph_of e) p.0.well n (p.0.ported n (filled_owner (graph_of e) n ∙ ap is_some o))) m)
