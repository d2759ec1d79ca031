-- Edits and removals of the engine are Graph's, and keep track of the nodes.
use Rattle.std.specs.Prelude.{◌≡◌, ◌≢◌, ◌⊎◌, ℕ, zero, suc, ◌+◌, ◌<◌, ◌≤◌, Bool, true, false, not, ◌&&◌, length, get_or, set, drop, eqb, ltb}
use Rattle.std.proofs.Math.Path.{refl, ap}
use Rattle.std.proofs.Common.{sym, ◌∙◌, subst, inl, inr, arith, true≢false, drop-drop, ltb-true}
use Rattle.std.proofs.Math.Option.{Option, none, some}
use mathlib.Core.List.{List, [], ◌∷◌, ◌++◌, map, Memᴰ}
use Rattle.std.proofs.lemmas.List.{length-map}
use Rattle.std.proofs.Math.ListN.{get_or-map}
use Rattle.std.proofs.Math.Seq.{map-set_same}
use Rattle.list_laws.specs.Tests.{both}
use Rattle.net_file.specs.Lists.{Result, ok, refuse, need, any, distinct, count, bit}
use Rattle.definitions.specs.Lists.{◌>>=◌, is_some, foldl, each, firsts, keep}
use Rattle.definitions.specs.Nets.{Port, Node, Graph, Home, at, filled, holds}
use Rattle.definitions.specs.Scripts.{Edit, Insert, Copy, Join, Cut, Script, fill, cut, join, ends, vacate, apply, apply_script}
use Rattle.definitions.specs.State.{Ids, Net, Engine, graph_of, with_slots, with_dirty, with_nets, with_graph, with_stale, with_list, new_net, net_at, over_net, more, fewer, entries}
use Rattle.definitions.specs.Books.{is_dirty, loose, push, tight, tighten_net, push_dirty, fresh, placed, add_node, mark_ends, link, edit, vacated, went_dirty, remove_node, finish_edit}
use Rattle.join_laws.specs.Ports.{frame, filled_same}
use Rattle.join_laws.specs.Link.{frame_cut}
use Rattle.join_laws.proofs.Join.{frame_join}
use Rattle.script_laws.specs.Slots.{frame_vacate_other}
use Rattle.step_laws.specs.Core.{Core, core_of, list_of, home_of, pick, core_over_net, core_more, core_dirty, core_push_dirty, core_mark_ends, core_went_dirty}
use Rattle.step_laws.specs.Track.{list_at, Tracked, regraph, placed_in, vacated_in, tight_in, length_cut, length_join, tracked_frames, tracked_placed, tracked_vacated, tracked_tight}

-- ---- the core after each

map_set : {A B : Type 0} (f : A → B) (l : List A) (i : ℕ) (y : A) → map f (set l i y) ≡ set (map f l) i (f y)
map_set f [] i y = refl
map_set f (x ∷ l) zero y = refl
map_set f (x ∷ l) (suc i) y = ap (λ r. f x ∷ r) (map_set f l i y)

-- the node list of net k
pub list_at_lem : (e : Engine) (k : ℕ) → list_at (core_of e) k ≡ list_of (net_at e k)
unfolding core_of net_at
list_at_lem e k = get_or-map list_of e.nets k (new_net (record { name = 0; free = 0 }))

module _ (e : Engine) (k : ℕ) (f : Ids → Ids) where
  -- another node list for net k
  lists_set : map list_of (set e.nets k (with_list (f (net_at e k).list) (net_at e k))) ≡ set (map list_of e.nets) k (f (net_at e k).list).items
  unfolding with_list
  lists_set = map_set list_of e.nets k (with_list (f (net_at e k).list) (net_at e k))

  homes_set : map home_of (set e.nets k (with_list (f (net_at e k).list) (net_at e k))) ≡ map home_of e.nets
  unfolding with_list net_at
  homes_set = map-set_same home_of e.nets k (with_list (f (net_at e k).list) (net_at e k)) (new_net (record { name = 0; free = 0 })) refl

  core_list : (items : List ℕ) → (f (net_at e k).list).items ≡ items
      → core_of (over_net (λ t. with_list (f t.list) t) k e) ≡ record {
        graph = (core_of e).graph;
        chain = (core_of e).chain;
        homes = (core_of e).homes;
        lists = set (core_of e).lists k items;
        rules = (core_of e).rules;
        pools = (core_of e).pools;
        steps = (core_of e).steps;
        limit = (core_of e).limit;
      }
  unfolding core_of over_net with_nets
  core_list items h = λ i. record {
    graph = graph_of e;
    chain = e.slots.chain;
    homes = homes_set i;
    lists = (lists_set ∙ ap (set (map list_of e.nets) k) h) i;
    rules = e.rules;
    pools = e.pools;
    steps = e.steps;
    limit = e.limit;
  }

core_placed : (mark : Bool) (n : ℕ) (x : Node) (e : Engine) → core_of (placed mark n x e) ≡ placed_in n x (core_of e)
unfolding placed push with_slots net_at core_of
core_placed mark n x e = core_list e₁ x.net (push n) (list_at (core_of e) x.net ++ n ∷ []) items ∙ rest
  where
    e₁ : Engine
    e₁ = with_slots (record { graph = fill (graph_of e) n x; marks = set e.slots.marks n mark; chain = drop 1 e.slots.chain }) e

    items : (push n (net_at e₁ x.net).list).items ≡ list_at (core_of e) x.net ++ n ∷ []
    items = ap (λ (l : List ℕ). l ++ n ∷ []) (sym (list_at_lem e x.net))

    rest : ◌≡◌ {A = Core} (record {
      graph = (core_of e₁).graph;
      chain = (core_of e₁).chain;
      homes = (core_of e₁).homes;
      lists = set (core_of e₁).lists x.net (list_at (core_of e) x.net ++ n ∷ []);
      rules = (core_of e₁).rules;
      pools = (core_of e₁).pools;
      steps = (core_of e₁).steps;
      limit = (core_of e₁).limit;
    }) (placed_in n x (core_of e))
    rest = refl

core_vacated : (k n : ℕ) (e : Engine) → core_of (vacated k n e) ≡ vacated_in n (core_of e)
unfolding vacated with_slots with_stale core_of with_list
core_vacated k n e = core_over_net (λ t. with_list (with_stale (t.list.stale + 1) t.list) t) (λ t. (same_home t, same_list t)) k e₁
  where
    e₁ : Engine
    e₁ = with_slots (record { graph = vacate (graph_of e) n; marks = set e.slots.marks n false; chain = n ∷ e.slots.chain }) e

    same_home : (t : Net) → home_of (with_list (with_stale (t.list.stale + 1) t.list) t) ≡ home_of t
    same_home t = refl

    same_list : (t : Net) → list_of (with_list (with_stale (t.list.stale + 1) t.list) t) ≡ list_of t
    same_list t = refl

pub core_tighten_net : (k : ℕ) (e : Engine) → core_of (tighten_net k e) ≡ tight_in k (core_of e)
unfolding tighten_net tight core_of
core_tighten_net k e =
    core_list e k (tight (holds (graph_of e) k)) (firsts eqb [] (keep (holds (graph_of e) k) (list_at (core_of e) k)))
    (ap (λ (l : List ℕ). firsts eqb [] (keep (holds (graph_of e) k) l)) (sym (list_at_lem e k))) ∙ rest
  where
    rest : ◌≡◌ {A = Core} (record {
      graph = (core_of e).graph;
      chain = (core_of e).chain;
      homes = (core_of e).homes;
      lists = set (core_of e).lists k (firsts eqb [] (keep (holds (graph_of e) k) (list_at (core_of e) k)));
      rules = (core_of e).rules;
      pools = (core_of e).pools;
      steps = (core_of e).steps;
      limit = (core_of e).limit;
    }) (tight_in k (core_of e))
    rest = refl

core_graph : (g : Graph) (e : Engine) → core_of (with_graph g e) ≡ regraph g (core_of e)
unfolding with_graph with_slots core_of
core_graph g e = refl

-- ---- answers

-- P of the engine, where there is one
abbrev pub Then : (Engine → Type 0) → Result Engine → Type 0
Then P (ok e) = P e
Then P (refuse r) = Unit {0}

-- the core after an edit
abbrev pub core_edit : Edit → Core → Core
core_edit (Insert n x) c = placed_in n x c
core_edit (Copy n x) c = placed_in n x c
core_edit (Join a b) c = regraph (join c.graph a b) c
core_edit (Cut a b) c = regraph (cut c.graph a b) c

-- fewer than N slots hold nodes
abbrev pub Room : Core → Type 0
Room c = count is_some c.graph < c.pools.nodes

-- what an edit needs
abbrev pub Needs : Edit → Core → Type 0
Needs (Insert n x) c = Room c
Needs (Copy n x) c = Room c
Needs (Join a b) c = Unit {0}
Needs (Cut a b) c = Unit {0}

add_core : (mark : Bool) (n : ℕ) (x : Node) (e : Engine) → Then (λ e'. (core_of e' ≡ placed_in n x (core_of e)) × Room (core_of e)) (add_node mark n x e)
unfolding add_node core_of
add_core mark n x e = go (ltb (count is_some (graph_of e)) e.pools.nodes) (ltb (entries e) e.pools.entries) refl
  where
    go : (s t : Bool) → ltb (count is_some (graph_of e)) e.pools.nodes ≡ s
        → Then (λ e'. (core_of e' ≡ placed_in n x (core_of e)) × Room (core_of e)) (need s 9 (need t 10 (ok (placed mark n x e))))
    go true true h = (core_placed mark n x e, ltb-true (count is_some (graph_of e)) e.pools.nodes h)
    go true false h = tt
    go false t h = tt

pub edit_core : (d : Edit) (e : Engine) → Then (λ e'. (core_of e' ≡ core_edit d (core_of e)) × Needs d (core_of e)) (edit d e)
unfolding edit link core_of
edit_core (Insert n x) e = go (add_node true n x e) (add_core true n x e)
  where
    go : (r : Result Engine) → Then (λ e'. (core_of e' ≡ placed_in n x (core_of e)) × Room (core_of e)) r
        → Then (λ e'. (core_of e' ≡ placed_in n x (core_of e)) × Room (core_of e)) (r >>= λ e'. ok (more x.net (push_dirty n e')))
    go (ok e') y = (core_more x.net (push_dirty n e') ∙ core_push_dirty n e' ∙ y.0, y.1)
    go (refuse r) y = tt
edit_core (Copy n x) e = add_core false n x e
edit_core (Join a b) e = (core_mark_ends (ends (graph_of e) a b) (with_graph (join (graph_of e) a b) e) ∙ core_graph (join (graph_of e) a b) e ∙ same, tt)
  where
    same : regraph (join (graph_of e) a b) (core_of e) ≡ regraph (join (core_of e).graph a b) (core_of e)
    same = refl
edit_core (Cut a b) e = (core_graph (cut (graph_of e) a b) e ∙ same, tt)
  where
    same : regraph (cut (graph_of e) a b) (core_of e) ≡ regraph (cut (core_of e).graph a b) (core_of e)
    same = refl

-- a removal, with or without a tightening
pub remove_core : (e : Engine) (n : ℕ) → (core_of (remove_node e n) ≡ vacated_in n (core_of e)) ⊎ (core_of (remove_node e n) ≡ tight_in (at (graph_of e) n).net (vacated_in n (core_of e)))
unfolding remove_node
remove_core e n = go (loose (net_at e₁ k).list)
  where
    k : ℕ
    k = (at (graph_of e) n).net

    e₁ : Engine
    e₁ = elim (is_dirty e n) as (λ _. Engine) [ true ↦ went_dirty k (vacated k n e) | false ↦ vacated k n e ]

    same : core_of e₁ ≡ vacated_in n (core_of e)
    same = pick (λ (t : Engine). core_of t ≡ vacated_in n (core_of e)) (is_dirty e n) (went_dirty k (vacated k n e)) (vacated k n e)
        (core_went_dirty k (vacated k n e) ∙ core_vacated k n e) (core_vacated k n e)

    go : (t : Bool) → (core_of (elim t as (λ _. Engine) [ true ↦ tighten_net k e₁ | false ↦ e₁ ]) ≡ vacated_in n (core_of e))
        ⊎ (core_of (elim t as (λ _. Engine) [ true ↦ tighten_net k e₁ | false ↦ e₁ ]) ≡ tight_in k (vacated_in n (core_of e)))
    go true = inr (core_tighten_net k e₁ ∙ ap (tight_in k) same)
    go false = inl same
