-- `load` leaves good books, or is refused.
use Prim.Native.Nat.{ℕ, zero, suc, ◌+◌, ◌<◌}
use Rattle.std.specs.Prelude.{◌≡◌, Bool, true, false, length, get_or, set, drop, ltb}
use Rattle.std.proofs.Math.Path.{refl}
use Rattle.std.proofs.Common.{sym, ap, ◌∙◌, subst}
use native.Mathlib.Omega.{arith}
use Rattle.std.proofs.Math.Option.{Option, none, some}
use mathlib.Core.List.{List, [], ◌∷◌, ◌++◌, map}
use Rattle.std.proofs.Math.Dec.{eqb}
use Rattle.net_file.specs.Lists.{Result, ok, refuse, need, count, sum}
use Rattle.net_file.specs.Values.{Name, FlatNode, FlatNet, File}
use Rattle.definitions.specs.Lists.{◌>>=◌, is_some, each, find, foldl}
use Rattle.definitions.specs.Nets.{Port, Node, Home}
use Rattle.definitions.specs.Scripts.{Edit, Insert, Copy, Join, Cut, apply, ends, join, fill}
use Rattle.definitions.specs.Rules.{new}
use Rattle.definitions.specs.State.{Pools, Net, Wait, Engine, graph_of, with_slots, with_dirty, with_nets, with_graph, with_list, net_at, new_net, more, waits, entries}
use Rattle.definitions.specs.Books.{push, fresh, push_dirty, placed, add_node, mark_dirty, mark_ends, link, edit}
use Rattle.definitions.specs.Load.{End, ends_at, join_met, load_nodes, load_net, add_flat_net, empty, included, free_name, load}
use Rattle.good_laws.specs.Nets.{over_part}
use Rattle.good_laws.specs.Good.{Good, rest}
use Rattle.good_laws.specs.Answers.{awaits, more_awaits, mark_awaits, awaits_waits}
use Rattle.good_laws.specs.Edits.{Numbered, Edited, Answers, made, edits_good}
use Rattle.good_laws.specs.Idle.{Idle}
use Rattle.good_laws.specs.Load.{empty_good, sum_snoc, wider, wider_length, wider_good}

-- ---- edits leave the waits alone

pub placed_awaits : (b : Bool) (n : ℕ) (y : Node) (e : Engine) → awaits (placed b n y e) ≡ awaits e
unfolding placed with_slots with_list
placed_awaits b n y e =
    over_part (λ t. t.awaiting) (λ t. with_list (push n t.list) t) y.net
    (with_slots (record { graph = fill (graph_of e) n y; marks = set e.slots.marks n b; chain = drop 1 e.slots.chain }) e) (λ t. refl)

ends_awaits : (o : Option (Port × Port)) (e : Engine) → awaits (mark_ends o e) ≡ awaits e
unfolding mark_ends
ends_awaits none e = refl
ends_awaits (some p) e = mark_awaits p.1.node (mark_dirty p.0.node e) ∙ mark_awaits p.0.node e

add_awaits : (b : Bool) (n : ℕ) (y : Node) (e : Engine) → Answers (λ e'. awaits e' ≡ awaits e) (add_node b n y e)
unfolding add_node
add_awaits b n y e = go (ltb (count is_some (graph_of e)) e.pools.nodes) (ltb (entries e) e.pools.entries)
  where
    go : (s t : Bool) → Answers (λ e'. awaits e' ≡ awaits e) (need s 9 (need t 10 (ok (placed b n y e))))
    go true true = placed_awaits b n y e
    go true false = tt
    go false t = tt

edit_awaits : (d : Edit) (e : Engine) → Answers (λ e'. awaits e' ≡ awaits e) (edit d e)
unfolding edit link with_graph with_slots push_dirty with_dirty
edit_awaits (Insert n y) e = go (add_node true n y e) (add_awaits true n y e)
  where
    go : (r : Result Engine) → Answers (λ e'. awaits e' ≡ awaits e) r → Answers (λ e'. awaits e' ≡ awaits e) (r >>= λ e'. ok (more y.net (push_dirty n e')))
    go (ok e') h = more_awaits y.net (push_dirty n e') ∙ h
    go (refuse r) h = tt
edit_awaits (Copy n y) e = add_awaits false n y e
edit_awaits (Join a b) e = ends_awaits (ends (graph_of e) a b) (with_graph (join (graph_of e) a b) e)
edit_awaits (Cut a b) e = refl

pub edits_awaits : (ds : List Edit) (e : Engine) → Answers (λ e'. awaits e' ≡ awaits e) (each edit ds e)
edits_awaits [] e = refl
edits_awaits (d ∷ ds) e = go (edit d e) (edit_awaits d e) (λ e'. edits_awaits ds e')
  where
    go : (r : Result Engine) → Answers (λ e'. awaits e' ≡ awaits e) r → ((e' : Engine) → Answers (λ e₂. awaits e₂ ≡ awaits e') (each edit ds e'))
        → Answers (λ e'. awaits e' ≡ awaits e) (r >>= λ e'. each edit ds e')
    go (ok e') h f = then (each edit ds e') (f e')
      where
        then : (r : Result Engine) → Answers (λ e₂. awaits e₂ ≡ awaits e') r → Answers (λ e₂. awaits e₂ ≡ awaits e) r
        then (ok e₂) k = k ∙ h
        then (refuse r) k = tt
    go (refuse r) h f = tt

-- ---- the load's new nodes are numbered in order

module _ (M : ℕ) (fresh' : ℕ → ℕ) where
  joins_numbered : (k : ℕ) (met xs : List End) (ds : List Edit) → Numbered M fresh' k ds → Numbered M fresh' k (join_met met xs ++ ds)
  unfolding join_met
  joins_numbered k met [] ds h = h
  joins_numbered k met (x ∷ xs) ds h = go (find (λ y. eqb x.0 y.0) met) (joins_numbered k (x ∷ met) xs ds h)
    where
      go : (o : Option End) → Numbered M fresh' k (join_met (x ∷ met) xs ++ ds)
          → Numbered M fresh' k ((elim o as (λ _. List Edit) [ none ↦ join_met (x ∷ met) xs | some y ↦ Join x.1 y.1 ∷ join_met (x ∷ met) xs ]) ++ ds)
      go none r = r
      go (some y) r = r

  nodes_numbered : (t : FlatNet) (k : ℕ) → k < M → (met : List End) (j : ℕ) (xs : List FlatNode) → Numbered M fresh' j (load_nodes fresh' t k met j xs)
  unfolding load_nodes new
  nodes_numbered t k l met j [] = tt
  nodes_numbered t k l met j (x ∷ xs) =
      let ends' = ends_at t (fresh' j) 0 (x.pri ∷ x.aux) in
      let q : 1 + j ≡ suc j = omega arith in (
        refl,
        l,
        joins_numbered (suc j) met ends' (load_nodes fresh' t k (ends' ++ met) (1 + j) xs)
            (subst (λ (i : ℕ). Numbered M fresh' i (load_nodes fresh' t k (ends' ++ met) (1 + j) xs)) q (nodes_numbered t k l (ends' ++ met) (1 + j) xs)),
      )

  net_numbered : (free : Name) (k : ℕ) → k < M → (t : FlatNet) → Numbered M fresh' 0 (load_net fresh' free k t)
  unfolding load_net new
  net_numbered free k l t =
      let ends' = ends_at t (fresh' 0) 2 t.free in
      (refl, l, joins_numbered 1 [] ends' (load_nodes fresh' t k ends' 1 t.nodes) (nodes_numbered t k l ends' 1 t.nodes))

-- ---- net by net

-- good books, and no wait yet
abbrev Loaded : Engine → Type 0
Loaded e = Good rest e × (waits e ≡ 0)

wider_waits : (e : Engine) (h : Home) → waits (wider e h) ≡ waits e
unfolding waits with_nets
wider_waits e h = let q = sum_snoc (λ t. length t.awaiting) e.nets (new_net h) in omega arith

net_loaded : (free : Name) (t : FlatNet) (e : Engine) → Loaded e → Answers Loaded (add_flat_net free t e)
unfolding add_flat_net fresh with_nets
net_loaded free t e h =
    let hm : Home = record { name = t.name; free = fresh e 0 } in
    let e₁ = wider e hm in
    let ds = load_net (fresh e) free (length e.nets) t in
    let m = wider_length e hm in
    go hm (each edit ds e₁)
    (edits_good rest (length e₁.nets) e.slots.chain (λ i. length (graph_of e) + i) ds 0 (graph_of e) e₁ (start hm (wider_good e hm h.0 h.1))
    (net_numbered (length e₁.nets) (fresh e) free (length e.nets) (omega arith) t))
    (edits_awaits ds e₁)
  where
    start : (hm : Home) → Good rest (wider e hm) → Edited rest (length (wider e hm).nets) e.slots.chain 0 (graph_of e) (wider e hm)
    start hm g = record { good = g; nets = refl; left = refl; nodes = refl }

    go : (hm : Home) (r : Result Engine)
        → Answers (λ e'. Edited rest (length (wider e hm).nets) e.slots.chain (0 + made (load_net (fresh e) free (length e.nets) t)) (foldl apply (graph_of e) (load_net (fresh e) free (length e.nets) t)) e') r
        → Answers (λ e'. awaits e' ≡ awaits (wider e hm)) r → Answers Loaded r
    go hm (ok e') d w = (d.good, awaits_waits (wider e hm) e' w ∙ wider_waits e hm ∙ h.1)
    go hm (refuse r) d w = tt

nets_loaded : (free : Name) (ts : List FlatNet) (e : Engine) → Loaded e → Answers Loaded (each (add_flat_net free) ts e)
nets_loaded free [] e h = h
nets_loaded free (t ∷ ts) e h = go (add_flat_net free t e) (net_loaded free t e h) (λ e' h'. nets_loaded free ts e' h')
  where
    go : (r : Result Engine) → Answers Loaded r → ((e' : Engine) → Loaded e' → Answers Loaded (each (add_flat_net free) ts e')) → Answers Loaded (r >>= λ e'. each (add_flat_net free) ts e')
    go (ok e') k f = f e' k
    go (refuse r) k f = tt

empty_waits : (p : Pools) (f : File FlatNet) → waits (empty p f) ≡ 0
unfolding empty waits
empty_waits p f = refl

pub ok_injective : {a b : Engine} → ◌≡◌ {A = Result Engine} (ok a) (ok b) → a ≡ b
ok_injective q = cc

-- where no node waits none waits on a net at 0
none_waits : (ts : List Net) → sum (map (λ t. length t.awaiting) ts) ≡ 0 → (k : ℕ) → (get_or ts k (new_net (record { name = 0; free = 0 }))).awaiting ≡ []
none_waits [] q k = refl
none_waits (t ∷ ts) q zero = go t.awaiting (omega arith)
  where
    go : (ws : List Wait) → length ws ≡ 0 → ws ≡ []
    go [] r = refl
    go (w ∷ ws) r = absurd (omega arith)
none_waits (t ∷ ts) q (suc k) = none_waits ts (omega arith) k

loaded_idle : (e : Engine) → waits e ≡ 0 → Idle e
unfolding waits net_at
loaded_idle e q k l z = none_waits e.nets q k

-- no node waits after the load
pub load_idle : (p : Pools) (f : File FlatNet) (e : Engine) → load p f ≡ ok e → (k : ℕ) → (net_at e k).awaiting ≡ []
unfolding load waits net_at
load_idle p f e q k = go (load p f) (nets_loaded (free_name f.paths) (included f) (empty p f) (empty_good p f, empty_waits p f)) q
  where
    go : (r : Result Engine) → Answers Loaded r → r ≡ ok e → (get_or e.nets k (new_net (record { name = 0; free = 0 }))).awaiting ≡ []
    go (ok e') h s = none_waits e.nets (ap waits (sym (ok_injective s)) ∙ h.1) k
    go (refuse r) h s = absurd (let z : ◌≡◌ {A = ℕ} 0 1 = cc in omega arith)

-- every run begins with good books
pub load_good : (p : Pools) (f : File FlatNet) (e : Engine) → load p f ≡ ok e → Good rest e × Idle e
unfolding load
load_good p f e q = go (load p f) (nets_loaded (free_name f.paths) (included f) (empty p f) (empty_good p f, empty_waits p f)) q
  where
    go : (r : Result Engine) → Answers Loaded r → r ≡ ok e → Good rest e × Idle e
    go (ok e') h s = subst (λ (d : Engine). Good rest d × Idle d) (ok_injective s) (h.0, loaded_idle e' h.1)
    go (refuse r) h s = absurd (let z : ◌≡◌ {A = ℕ} 0 1 = cc in omega arith)
