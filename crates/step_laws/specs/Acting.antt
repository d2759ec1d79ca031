-- A script acts in the engine as it does on the graph, and keeps track of the nodes: its new nodes take the numbers of the chain in
-- order, its dead nodes are different.
use Rattle.std.specs.Prelude.{◌≡◌, ◌≢◌, ◌⊎◌, ℕ, zero, suc, ◌+◌, ◌<◌, ◌≤◌, Bool, true, false, not, ◌&&◌, length, get_or, set, drop, eqb, ltb}
use Rattle.std.proofs.Math.Path.{refl}
use Rattle.std.proofs.Common.{sym, ap, ◌∙◌, subst, inl, inr, arith, true≢false, length-set, drop-drop}
use Rattle.std.proofs.Math.Decide.{ℕ_discrete}
use Rattle.std.proofs.Math.Option.{Option, none, some}
use mathlib.Core.List.Memᴰ
use mathlib.Core.List.{List, [], ◌∷◌, ◌++◌, map, Memᴰ}
use Rattle.list_laws.specs.Tests.{both}
use Rattle.net_file.specs.Lists.{Result, ok, refuse, need, any, distinct, count, bit}
use Rattle.net_file.specs.Values.{max_steps}
use Rattle.definitions.specs.Lists.{◌>>=◌, is_some, foldl, each, firsts, keep}
use Rattle.definitions.specs.Nets.{Port, Node, Graph, Home, at, filled, holds}
use Rattle.definitions.specs.Scripts.{Edit, Insert, Copy, Join, Cut, Script, fill, cut, join, vacate, apply, apply_script}
use Rattle.definitions.specs.State.{Engine, graph_of, with_steps}
use Rattle.definitions.specs.Books.{fresh, edit, remove_node, finish_edit}
use Rattle.definitions.specs.Visit.{Visited, acted, passed, less_one, act}
use Rattle.join_laws.specs.Ports.{frame, filled_same}
use Rattle.join_laws.specs.Link.{frame_cut}
use Rattle.join_laws.proofs.Join.{frame_join}
use Rattle.script_laws.specs.Slots.{frame_vacate_other}
use Rattle.rule_laws.specs.Ids.{distinct_head}
use Rattle.rule_laws.specs.Order.{InOrder}
use Rattle.step_laws.specs.Core.{Core, core_of}
use Rattle.step_laws.specs.Track.{list_at, Tracked, regraph, placed_in, vacated_in, tight_in, length_cut, length_join, tracked_frames, tracked_placed, tracked_vacated, tracked_tight}
use Rattle.step_laws.specs.Edits.{Then, core_edit, Room, Needs, edit_core, remove_core}

-- the dead nodes are there after the edits, and different
pub record Orderly (N : ℕ → ℕ) (into : ℕ) (g : Graph) (s : Script) : Type 0 where
  pub in_order : InOrder N into 0 s.edits
  pub dead_once : distinct eqb s.dead ≡ true
  pub dead_there : (n : ℕ) → Memᴰ n s.dead → filled (foldl apply g s.edits) n ≡ true

-- rules, pools, homes and the count of steps and the limit are as they were
pub record Same (c d : Core) : Type 0 where
  pub homes : d.homes ≡ c.homes
  pub lists : length d.lists ≡ length c.lists
  pub rules : d.rules ≡ c.rules
  pub pools : d.pools ≡ c.pools
  pub steps : d.steps ≡ c.steps
  pub limit : d.limit ≡ c.limit

pub same_refl : (c : Core) → Same c c
same_refl c = record { homes = refl; lists = refl; rules = refl; pools = refl; steps = refl; limit = refl }

pub same_then : (a b c : Core) → Same a b → Same b c → Same a c
same_then a b c x y = record { homes = y.homes ∙ x.homes; lists = y.lists ∙ x.lists; rules = y.rules ∙ x.rules; pools = y.pools ∙ x.pools; steps = y.steps ∙ x.steps; limit = y.limit ∙ x.limit }

-- ---- while a slot is vacant, the chain has a first

count_full : (g : Graph) → ((n : ℕ) → n < length g → filled g n ≡ true) → count is_some g ≡ length g
unfolding filled
count_full [] h = refl
count_full (y ∷ g) h = ap (λ (t : Bool). bit t + count is_some g) (h 0 (omega arith)) ∙ (let z = count_full g (λ n l. h (suc n) (omega arith)) in omega arith)

pub chain_first : (c : Core) → Tracked c → Room c → (n : ℕ) × (ns : List ℕ) × (c.chain ≡ n ∷ ns)
chain_first c t r = go c.chain refl
  where
    go : (l : List ℕ) → c.chain ≡ l → (n : ℕ) × (ns : List ℕ) × (c.chain ≡ n ∷ ns)
    go (n ∷ ns) e = (n, ns, e)
    go [] e = let z = count_full c.graph there in let y = t.size in absurd (omega arith)
      where
        there : (n : ℕ) → n < length c.graph → filled c.graph n ≡ true
        there n l = via (filled c.graph n) refl
          where
            via : (b : Bool) → filled c.graph n ≡ b → filled c.graph n ≡ true
            via true x = x
            via false x = absurd (Memᴰ.not-nil (subst (Memᴰ n) e (t.every n l x)))

drop_first : (l : List ℕ) (k d m : ℕ) (ms : List ℕ) → drop k l ≡ m ∷ ms → get_or l k d ≡ m
drop_first [] zero d m ms e = let z : ◌≡◌ {A = ℕ} 0 1 = cc in absurd (omega arith)
drop_first [] (suc k) d m ms e = let z : ◌≡◌ {A = ℕ} 0 1 = cc in absurd (omega arith)
drop_first (x ∷ l) zero d m ms e = cc
drop_first (x ∷ l) (suc k) d m ms e = drop_first l k d m ms e

drop_next : (l : List ℕ) (k : ℕ) → drop 1 (drop k l) ≡ drop (suc k) l
drop_next l k = drop-drop 1 k l ∙ ap (λ (n : ℕ). drop n l) (let z : k + 1 ≡ suc k = omega arith in z)

-- ---- edits

-- what edits leave: the graph that they make, tracked
pub record Made (c : Core) (ds : List Edit) (d : Core) : Type 0 where
  pub tracked : Tracked d
  pub graph : d.graph ≡ foldl apply c.graph ds
  pub same : Same c d

module _ (chain₀ : List ℕ) (past : ℕ → ℕ) (into : ℕ) where
  -- the k-th number of the chain
  abbrev N : ℕ → ℕ
  N k = get_or chain₀ k (past k)

  -- the core after an edit: tracked, and what the chain has left
  record Stepped (d : Edit) (k : ℕ) (c : Core) : Type 0 where
    tracked : Tracked (core_edit d c)
    chain : (core_edit d c).chain ≡ drop k chain₀
    graph : (core_edit d c).graph ≡ apply c.graph d
    same : Same c (core_edit d c)

  module _ (k : ℕ) (c : Core) (t : Tracked c) (at_k : c.chain ≡ drop k chain₀) where
    placed_made : (n : ℕ) (x : Node) → n ≡ N k → x.net < length c.lists → Room c
        → Tracked (placed_in n x c) × ((placed_in n x c).chain ≡ drop (suc k) chain₀) × Same c (placed_in n x c)
    placed_made n x e l r =
        let f = chain_first c t r in
        let m : n ≡ f.0 = e ∙ drop_first chain₀ k (past k) f.0 f.1 (sym at_k ∙ f.2) in (
          tracked_placed c n f.1 x (f.2 ∙ ap (λ (j : ℕ). j ∷ f.1) (sym m)) l t,
          ap (drop 1) at_k ∙ drop_next chain₀ k,
          record { homes = refl; lists = length-set c.lists x.net (list_at c x.net ++ n ∷ []); rules = refl; pools = refl; steps = refl; limit = refl },
        )

    inserted : (n : ℕ) (x : Node) → n ≡ N k → x.net < length c.lists → Room c → Stepped (Insert n x) (suc k) c
    unfolding apply
    inserted n x e l r = let p = placed_made n x e l r in record { tracked = p.0; chain = p.1; graph = refl; same = p.2 }

    copied : (n : ℕ) (x : Node) → n ≡ N k → x.net < length c.lists → Room c → Stepped (Copy n x) (suc k) c
    unfolding apply
    copied n x e l r = let p = placed_made n x e l r in record { tracked = p.0; chain = p.1; graph = refl; same = p.2 }

    joined : (a b : Port) → Stepped (Join a b) k c
    unfolding apply
    joined a b = record {
      tracked = tracked_frames c (join c.graph a b) (length_join c.graph a b) (frame_join c.graph a b) t;
      chain = at_k;
      graph = refl;
      same = record { homes = refl; lists = refl; rules = refl; pools = refl; steps = refl; limit = refl };
    }

    cut_off : (a b : Port) → Stepped (Cut a b) k c
    unfolding apply
    cut_off a b = record {
      tracked = tracked_frames c (cut c.graph a b) (length_cut c.graph a b) (frame_cut c.graph a b) t;
      chain = at_k;
      graph = refl;
      same = record { homes = refl; lists = refl; rules = refl; pools = refl; steps = refl; limit = refl };
    }

  -- one edit, and the rest
  one_more : (d : Edit) (ds : List Edit) (k : ℕ) (e : Engine) → into < length (core_of e).lists → (Needs d (core_of e) → Stepped d k (core_of e))
      → ((e' : Engine) → Tracked (core_of e') → (core_of e').chain ≡ drop k chain₀ → into < length (core_of e').lists → Then (λ e''. Made (core_of e') ds (core_of e'')) (each edit ds e'))
      → Then (λ e''. Made (core_of e) (d ∷ ds) (core_of e'')) (each edit (d ∷ ds) e)
  one_more d ds k e l step rest = go (edit d e) (edit_core d e)
    where
      go : (r : Result Engine) → Then (λ e'. (core_of e' ≡ core_edit d (core_of e)) × Needs d (core_of e)) r → Then (λ e''. Made (core_of e) (d ∷ ds) (core_of e'')) (r >>= λ e'. each edit ds e')
      go (refuse r) y = tt
      go (ok e') y =
          via (each edit ds e') (rest e' (subst Tracked (sym y.0) p.tracked) (ap (λ (q : Core). q.chain) y.0 ∙ p.chain)
          (subst (λ (q : Core). into < length q.lists) (sym y.0) (rw p.same.lists l)))
        where
          p : Stepped d k (core_of e)
          p = step y.1

          via : (r : Result Engine) → Then (λ e''. Made (core_of e') ds (core_of e'')) r → Then (λ e''. Made (core_of e) (d ∷ ds) (core_of e'')) r
          via (refuse r) m = tt
          via (ok e'') m = record {
            tracked = m.tracked;
            graph = m.graph ∙ ap (λ (h : Graph). foldl apply h ds) (ap (λ (q : Core). q.graph) y.0 ∙ p.graph);
            same = same_then (core_of e) (core_of e') (core_of e'') (subst (Same (core_of e)) (sym y.0) p.same) m.same;
          }

  pub edits_made : (ds : List Edit) (k : ℕ) (e : Engine) → Tracked (core_of e) → (core_of e).chain ≡ drop k chain₀ → into < length (core_of e).lists → InOrder N into k ds
      → Then (λ e'. Made (core_of e) ds (core_of e')) (each edit ds e)
  edits_made [] k e t at_k l o = record { tracked = t; graph = refl; same = same_refl (core_of e) }
  edits_made (Insert n x ∷ ds) k e t at_k l o =
      one_more (Insert n x) ds (suc k) e l (inserted k (core_of e) t at_k n x o.0 (rw o.1 l)) (λ e' t' c' l'. edits_made ds (suc k) e' t' c' l' o.2)
  edits_made (Copy n x ∷ ds) k e t at_k l o =
      one_more (Copy n x) ds (suc k) e l (copied k (core_of e) t at_k n x o.0 (rw o.1 l)) (λ e' t' c' l'. edits_made ds (suc k) e' t' c' l' o.2)
  edits_made (Join a b ∷ ds) k e t at_k l o = one_more (Join a b) ds k e l (λ _. joined k (core_of e) t at_k a b) (λ e' t' c' l'. edits_made ds k e' t' c' l' o)
  edits_made (Cut a b ∷ ds) k e t at_k l o = one_more (Cut a b) ds k e l (λ _. cut_off k (core_of e) t at_k a b) (λ e' t' c' l'. edits_made ds k e' t' c' l' o)

-- ---- removals

record Removed (c : Core) (ns : List ℕ) (d : Core) : Type 0 where
  tracked : Tracked d
  graph : d.graph ≡ foldl vacate c.graph ns
  same : Same c d

removes_made : (ns : List ℕ) (e : Engine) → Tracked (core_of e) → distinct eqb ns ≡ true → ((n : ℕ) → Memᴰ n ns → filled (core_of e).graph n ≡ true)
    → Removed (core_of e) ns (core_of (foldl remove_node e ns))
removes_made [] e t d h = record { tracked = t; graph = refl; same = same_refl (core_of e) }
removes_made (n ∷ ns) e t d h =
    let r = removes_made ns e' one.0 (both (not (any (eqb n) ns)) (distinct eqb ns) d).1 there in
    record {
      tracked = r.tracked;
      graph = r.graph ∙ ap (λ (g : Graph). foldl vacate g ns) one.1;
      same = same_then (core_of e) (core_of e') (core_of (foldl remove_node e (n ∷ ns))) one.2 r.same;
    }
  where
    e' : Engine
    e' = remove_node e n

    k : ℕ
    k = (at (graph_of e) n).net

    v : Tracked (vacated_in n (core_of e))
    v = tracked_vacated (core_of e) n (h n (Memᴰ.head refl)) t

    one : Tracked (core_of e') × ((core_of e').graph ≡ vacate (core_of e).graph n) × Same (core_of e) (core_of e')
    one = go (remove_core e n)
      where
        go : (core_of (remove_node e n) ≡ vacated_in n (core_of e)) ⊎ (core_of (remove_node e n) ≡ tight_in (at (graph_of e) n).net (vacated_in n (core_of e)))
            → Tracked (core_of (remove_node e n)) × ((core_of (remove_node e n)).graph ≡ vacate (core_of e).graph n) × Same (core_of e) (core_of (remove_node e n))
        go (inl y) = (
          subst Tracked (sym y) v,
          ap (λ (q : Core). q.graph) y,
          subst (Same (core_of e)) (sym y) (record { homes = refl; lists = refl; rules = refl; pools = refl; steps = refl; limit = refl }),
        )
        go (inr y) = (
          subst Tracked (sym y) (tracked_tight (vacated_in n (core_of e)) (at (graph_of e) n).net v),
          ap (λ (q : Core). q.graph) y,
          subst (Same (core_of e)) (sym y) (record {
            homes = refl;
            lists = length-set (core_of e).lists (at (graph_of e) n).net (firsts eqb [] (keep (holds (vacate (core_of e).graph n) (at (graph_of e) n).net) (list_at (core_of e) (at (graph_of e) n).net)));
            rules = refl;
            pools = refl;
            steps = refl;
            limit = refl;
          }),
        )

    there : (m : ℕ) → Memᴰ m ns → filled (core_of e').graph m ≡ true
    there m l =
        let ne : m ≢ n = λ s. distinct_head n ns d (subst (λ (j : ℕ). Memᴰ j ns) s l) in
        ap (λ (g : Graph). filled g m) one.1 ∙ filled_same (core_of e).graph (vacate (core_of e).graph n) m (frame_vacate_other (core_of e).graph n m ne)
        ∙ h m (Memᴰ.tail l)

-- ---- a script

-- what a visit leaves: P where a rule acted, Q where none did
abbrev pub After : (Engine → Type 0) → (Engine → Type 0) → Result Visited → Type 0
After P Q (ok (acted e)) = P e
After P Q (ok (passed e)) = Q e
After P Q (refuse r) = Unit {0}

-- one step by the script s
pub record Acted (c : Core) (s : Script) (d : Core) : Type 0 where
  pub tracked : Tracked d
  pub graph : d.graph ≡ apply_script c.graph s
  pub homes : d.homes ≡ c.homes
  pub rules : d.rules ≡ c.rules
  pub steps : d.steps ≡ c.steps + 1
  pub limit : d.limit ≡ less_one c.limit

pub act_made : (s : Script) (e : Engine) (into : ℕ) → Tracked (core_of e) → into < length (core_of e).lists → Orderly (fresh e) into (graph_of e) s → (Q : Engine → Type 0)
    → After (λ e'. Acted (core_of e) s (core_of e')) Q (act s e)
unfolding act fresh core_of apply_script finish_edit with_steps
act_made s e into t l o Q =
    go (ltb e.steps max_steps) (each edit s.edits e)
    (edits_made e.slots.chain (λ k. length (graph_of e) + k) into s.edits 0 e t refl l o.in_order)
  where
    go : (b : Bool) (r : Result Engine) → Then (λ e'. Made (core_of e) s.edits (core_of e')) r
        → After (λ e'. Acted (core_of e) s (core_of e')) Q
        (need b 14 (r >>= λ e'. ok (acted (with_steps (less_one e'.limit) (e'.steps + 1) (finish_edit s.dead e')))))
    go false r m = tt
    go true (refuse r) m = tt
    go true (ok e') m =
        let r = removes_made s.dead e' m.tracked o.dead_once (λ n d. ap (λ (g : Graph). filled g n) m.graph ∙ o.dead_there n d) in
        record {
          tracked = record {
            size = r.tracked.size;
            vacant = r.tracked.vacant;
            every = r.tracked.every;
            once = r.tracked.once;
            in_range = r.tracked.in_range;
            listed = r.tracked.listed;
          };
          graph = r.graph ∙ ap (λ (g : Graph). foldl vacate g s.dead) m.graph;
          homes = r.same.homes ∙ m.same.homes;
          rules = r.same.rules ∙ m.same.rules;
          steps = ap (λ (n : ℕ). n + 1) m.same.steps;
          limit = ap less_one m.same.limit;
        }
