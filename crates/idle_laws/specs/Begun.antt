-- The load leaves every node dirty: "All start dirty".
use Rattle.std.specs.Prelude.{ℕ, zero, suc, ◌+◌, ◌<◌, ◌≡◌, refl, Bool, true, false, List, [], ◌∷◌, ◌++◌, length, get_or, set, replicate, eqb, ltb}
use Rattle.std.proofs.Common.{sym, ap, ◌∙◌, subst, arith, true≢false, length-set, get_or-set_same, get_or-set_other}
use Rattle.std.proofs.Math.Decide.{ℕ_discrete}
use Rattle.std.proofs.Math.Option.{Option, none, some}
use Rattle.net_file.specs.Lists.{Result, ok, refuse, need, count}
use Rattle.net_file.specs.Values.{Name, FlatNode, FlatNet, File}
use Rattle.definitions.specs.Lists.{◌>>=◌, is_some, each, find}
use Rattle.definitions.specs.Nets.{Port, Node, Graph, port, filled}
use Rattle.definitions.specs.Scripts.{Edit, Insert, Copy, Join, Cut, ends, join, cut, fill}
use Rattle.definitions.specs.State.{Pools, Net, Engine, graph_of, with_slots, with_dirty, with_nets, with_graph, new_net, over_net, more, entries}
use Rattle.definitions.specs.Books.{is_dirty, fresh, push_dirty, mark_dirty, placed, add_node, mark_ends, link, edit}
use Rattle.definitions.specs.Load.{End, ends_at, join_met, load_nodes, load_net, add_flat_net, empty, included, free_name, load}
use Rattle.engine_laws.specs.Frame.{still_graph, mark_still}
use Rattle.join_laws.specs.Ports.{frame, filled_same, across_real}
use Rattle.join_laws.specs.Link.{frame_cut}
use Rattle.join_laws.proofs.Join.{frame_join}
use Rattle.script_laws.specs.Slots.{frame_fill_other}
use Rattle.script_laws.specs.Tidy.{real_filled}
use Rattle.graph_laws.specs.Rest.{named_filled}
use Rattle.good_laws.specs.Good.{rest}
use Rattle.good_laws.specs.Edits.{Answers}
use Rattle.good_laws.specs.Loaded.{load_good, ok_injective}
use Rattle.idle_laws.specs.Mirror.{mark_clean, mark_length, good_sized}
use Rattle.idle_laws.specs.Placed.{Placed}
use Rattle.idle_laws.specs.Acted.{Nobody}

-- every node whose slot has a mark is dirty
abbrev Dirty : Engine → Type 0
Dirty e = (x : ℕ) → filled (graph_of e) x ≡ true → x < length e.slots.marks → is_dirty e x ≡ true

mark_dirty_lem : (m : ℕ) (e : Engine) → Dirty e → Dirty (mark_dirty m e)
mark_dirty_lem m e d x f l = go (is_dirty (mark_dirty m e) x) refl
  where
    go : (t : Bool) → is_dirty (mark_dirty m e) x ≡ t → is_dirty (mark_dirty m e) x ≡ true
    go true q = q
    go false q =
        let f' = ap (λ (h : Graph). filled h x) (sym (still_graph (mark_still m e))) ∙ f in
        let l' = subst (λ (i : ℕ). x < i) (mark_length m e) l in
        absurd (true≢false (sym (d x f' l') ∙ (mark_clean m e x q).0))

ends_dirty : (o : Option (Port × Port)) (e : Engine) → Dirty e → Dirty (mark_ends o e)
unfolding mark_ends
ends_dirty none e d = d
ends_dirty (some p) e d = mark_dirty_lem p.1.node (mark_dirty p.0.node e) (mark_dirty_lem p.0.node e d)

-- no copies
abbrev Plain : List Edit → Type 0
Plain [] = Unit {0}
Plain (Insert m y ∷ ds) = Plain ds
Plain (Copy m y ∷ ds) = ⊥
Plain (Join a b ∷ ds) = Plain ds
Plain (Cut a b ∷ ds) = Plain ds

insert_dirty : (m : ℕ) (y : Node) (e : Engine) → Dirty e → Answers Dirty (edit (Insert m y) e)
unfolding edit add_node placed is_dirty more over_net with_nets push_dirty with_slots with_dirty
insert_dirty m y e d = go (ltb (count is_some (graph_of e)) e.pools.nodes) (ltb (entries e) e.pools.entries)
  where
    on : (x : ℕ) → filled (fill (graph_of e) m y) x ≡ true → x < length (set e.slots.marks m true) → Dec (x ≡ m) → get_or (set e.slots.marks m true) x false ≡ true
    on x f l (yes q) =
        let z = length-set e.slots.marks m true in
        ap (λ (j : ℕ). get_or (set e.slots.marks m true) j false) q ∙ get_or-set_same e.slots.marks m true false (omega arith)
    on x f l (no q) =
        let z = length-set e.slots.marks m true in
        get_or-set_other e.slots.marks m x true false q ∙ d x (sym (filled_same (graph_of e) (fill (graph_of e) m y) x (frame_fill_other (graph_of e) m x y q)) ∙ f) (omega arith)

    go : (s t : Bool) → Answers Dirty (need s 9 (need t 10 (ok (placed true m y e))) >>= λ e'. ok (more y.net (push_dirty m e')))
    go true true = λ x f l. on x f l (ℕ_discrete x m)
    go true false = tt
    go false t = tt

wired_dirty : (h : Graph) (e : Engine) → ((x : ℕ) → frame h x ≡ frame (graph_of e) x) → Dirty e → Dirty (with_graph h e)
unfolding with_graph with_slots is_dirty
wired_dirty h e q d x f l = d x (sym (filled_same (graph_of e) h x (q x)) ∙ f) l

edits_dirty : (ds : List Edit) → Plain ds → (e : Engine) → Dirty e → Answers Dirty (each edit ds e)
unfolding edit link
edits_dirty [] p e d = d
edits_dirty (Insert m y ∷ ds) p e d = go (edit (Insert m y) e) (insert_dirty m y e d) (λ e' d'. edits_dirty ds p e' d')
  where
    go : (r : Result Engine) → Answers Dirty r → ((e' : Engine) → Dirty e' → Answers Dirty (each edit ds e')) → Answers Dirty (r >>= λ e'. each edit ds e')
    go (ok e') d' f = f e' d'
    go (refuse c) d' f = tt
edits_dirty (Copy m y ∷ ds) p e d = absurd p
edits_dirty (Join a b ∷ ds) p e d =
    edits_dirty ds p (link a b e) (ends_dirty (ends (graph_of e) a b) (with_graph (join (graph_of e) a b) e) (wired_dirty (join (graph_of e) a b) e (λ x. frame_join (graph_of e) a b x) d))
edits_dirty (Cut a b ∷ ds) p e d = edits_dirty ds p (with_graph (cut (graph_of e) a b) e) (wired_dirty (cut (graph_of e) a b) e (λ x. frame_cut (graph_of e) a b x) d)

-- ---- the load makes no copies

joins_plain : (met xs : List End) (ds : List Edit) → Plain ds → Plain (join_met met xs ++ ds)
unfolding join_met
joins_plain met [] ds p = p
joins_plain met (x ∷ xs) ds p = go (find (λ y. eqb x.0 y.0) met) (joins_plain (x ∷ met) xs ds p)
  where
    go : (o : Option End) → Plain (join_met (x ∷ met) xs ++ ds) → Plain ((elim o as (λ _. List Edit) [ none ↦ join_met (x ∷ met) xs | some y ↦ Join x.1 y.1 ∷ join_met (x ∷ met) xs ]) ++ ds)
    go none r = r
    go (some y) r = r

nodes_plain : (N : ℕ → ℕ) (t : FlatNet) (k : ℕ) (met : List End) (j : ℕ) (xs : List FlatNode) → Plain (load_nodes N t k met j xs)
unfolding load_nodes
nodes_plain N t k met j [] = tt
nodes_plain N t k met j (x ∷ xs) =
    let ends' = ends_at t (N j) 0 (x.pri ∷ x.aux) in
    joins_plain met ends' (load_nodes N t k (ends' ++ met) (1 + j) xs) (nodes_plain N t k (ends' ++ met) (1 + j) xs)

net_plain : (N : ℕ → ℕ) (free : Name) (k : ℕ) (t : FlatNet) → Plain (load_net N free k t)
unfolding load_net
net_plain N free k t =
    let ends' = ends_at t (N 0) 2 t.free in
    joins_plain [] ends' (load_nodes N t k ends' 1 t.nodes) (nodes_plain N t k ends' 1 t.nodes)

-- ---- net by net

nets_dirty : (ts : List Net) (e : Engine) → Dirty e → Dirty (with_nets ts e)
unfolding with_nets is_dirty
nets_dirty ts e d = d

net_dirty : (free : Name) (t : FlatNet) (e : Engine) → Dirty e → Answers Dirty (add_flat_net free t e)
unfolding add_flat_net
net_dirty free t e d = edits_dirty (load_net (fresh e) free (length e.nets) t) (net_plain (fresh e) free (length e.nets) t) (with_nets (e.nets ++ new_net (record { name = t.name; free = fresh e 0 }) ∷ []) e) (wider e d)
  where
    wider : (e : Engine) → Dirty e → Dirty (with_nets (e.nets ++ new_net (record { name = t.name; free = fresh e 0 }) ∷ []) e)
    wider e d = nets_dirty (e.nets ++ new_net (record { name = t.name; free = fresh e 0 }) ∷ []) e d

nets_dirtied : (free : Name) (ts : List FlatNet) (e : Engine) → Dirty e → Answers Dirty (each (add_flat_net free) ts e)
nets_dirtied free [] e d = d
nets_dirtied free (t ∷ ts) e d = go (add_flat_net free t e) (net_dirty free t e d) (λ e' d'. nets_dirtied free ts e' d')
  where
    go : (r : Result Engine) → Answers Dirty r → ((e' : Engine) → Dirty e' → Answers Dirty (each (add_flat_net free) ts e')) → Answers Dirty (r >>= λ e'. each (add_flat_net free) ts e')
    go (ok e') d' f = f e' d'
    go (refuse c) d' f = tt

no_nodes : (n x : ℕ) → filled (replicate n none) x ≡ false
unfolding filled
no_nodes zero x = refl
no_nodes (suc n) zero = refl
no_nodes (suc n) (suc x) = no_nodes n x

empty_dirty : (p : Pools) (f : File FlatNet) → Dirty (empty p f)
unfolding empty
empty_dirty p f x t l = absurd (true≢false (sym t ∙ no_nodes p.nodes x))

-- every run begins with dirty nodes
pub load_placed : (p : Pools) (f : File FlatNet) (e : Engine) → load p f ≡ ok e → Placed Nobody e
unfolding load
load_placed p f e q = record {
  meet = λ r a b n s i j x u c d. true≢false (sym (dirty a (real_filled (graph_of e) (port a 0) (across_real (graph_of e) (port a 0) (port b 0) x))) ∙ c);
  reduce = λ cs vs ns a o i t j x c d u. true≢false (sym (dirty a t) ∙ c);
  wait = λ lazy a c m cs i r ch u t d. absurd (true≢false (sym (dirty a (named_filled (graph_of e) a c cs ch)) ∙ t));
}
  where
    go : (r : Result Engine) → Answers Dirty r → r ≡ ok e → Dirty e
    go (ok e') d s = subst Dirty (ok_injective s) d
    go (refuse r) d s = absurd (let z : ◌≡◌ {A = ℕ} 0 1 = cc in omega arith)

    dirty : (x : ℕ) → filled (graph_of e) x ≡ true → is_dirty e x ≡ true
    dirty x t = go (load p f) (nets_dirtied (free_name f.paths) (included f) (empty p f) (empty_dirty p f)) q x t (good_sized rest e (load_good p f e q).0 x t)
