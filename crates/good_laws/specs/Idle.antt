-- "no wait on a net at 0". Marks, edits and waits bring no net to 0; a dead node's net is the visited node's, which counts until the
-- visit ends; and a net that comes to 0 then answers its waits.
use Rattle.std.specs.Prelude.{ℕ, ◌+◌, ◌<◌, ◌≡◌, refl, Bool, true, false, List, [], ◌∷◌, length, get_or, ltb}
use Rattle.std.proofs.Common.{sym, ◌∙◌, subst, arith}
use Rattle.std.proofs.Math.Option.{Option, none, some}
use Rattle.net_file.specs.Lists.{Result, ok, refuse, need, count}
use Rattle.definitions.specs.Lists.{◌>>=◌, is_some, each}
use Rattle.definitions.specs.Nets.{Port, Node, holds}
use Rattle.definitions.specs.Scripts.{Edit, Insert, Copy, Join, Cut, ends, join}
use Rattle.definitions.specs.State.{Net, Engine, graph_of, with_slots, with_dirty, with_mark, with_nets, with_graph, with_list, with_pending, net_at, over_net, more, entries}
use Rattle.definitions.specs.Books.{push, tight, is_dirty, tighten_net, push_dirty, mark_dirty, placed, add_node, mark_ends, link, edit}
use Rattle.good_laws.specs.Nets.{over_length, over_part, part_at, pending_more}
use Rattle.good_laws.specs.Answers.{awaits, more_awaits}
use Rattle.good_laws.specs.Edits.{Answers}

abbrev pub Idle : Engine → Type 0
Idle e = (k : ℕ) → k < length e.nets → (net_at e k).pending ≡ 0 → (net_at e k).awaiting ≡ []

-- as many nets, the same waits on each, and a net at 0 was at 0
pub record Rises (e e' : Engine) : Type 0 where
  pub nets : length e'.nets ≡ length e.nets
  pub same : awaits e' ≡ awaits e
  pub was : (k : ℕ) → k < length e.nets → (net_at e' k).pending ≡ 0 → (net_at e k).pending ≡ 0

pub rises_idle : (e e' : Engine) → Rises e e' → Idle e → Idle e'
rises_idle e e' r h k l z =
    let l' : k < length e.nets = subst (λ (c : ℕ). k < c) r.nets l in
    part_at (λ t. t.awaiting) e e' r.same k ∙ h k l' (r.was k l' z)

pub rises_then : (a b c : Engine) → Rises a b → Rises b c → Rises a c
rises_then a b c r s = record {
  nets = s.nets ∙ r.nets;
  same = s.same ∙ r.same;
  was = λ k l z. r.was k l (s.was k (subst (λ (m : ℕ). k < m) (sym r.nets) l) z);
}

-- a change of one net that keeps its waits and its pending number
over_rises : (f : Net → Net) (k : ℕ) (e : Engine) → ((t : Net) → (f t).awaiting ≡ t.awaiting) → ((t : Net) → (f t).pending ≡ t.pending) → Rises e (over_net f k e)
over_rises f k e a p = record {
  nets = over_length f k e;
  same = over_part (λ t. t.awaiting) f k e a;
  was = λ j l z. sym (part_at (λ t. t.pending) e (over_net f k e) (over_part (λ t. t.pending) f k e p) j) ∙ z;
}

more_rises : (k : ℕ) (e : Engine) → Rises e (more k e)
unfolding more
more_rises k e = record {
  nets = over_length (λ n. with_pending (n.pending + 1) n) k e;
  same = more_awaits k e;
  was = λ j l z. let p = pending_more k e j l in omega arith;
}

pub mark_rises : (n : ℕ) (e : Engine) → Rises e (mark_dirty n e)
unfolding mark_dirty push_dirty with_mark with_slots with_dirty net_at
mark_rises n e = go (get_or (graph_of e) n none) (is_dirty e n)
  where
    same : Rises e e
    same = record { nets = refl; same = refl; was = λ k l z. z }

    go : (o : Option Node) (t : Bool) → Rises e (elim o as (λ _. Engine) [
      | none ↦ e
      | some x ↦ elim t as (λ _. Engine) [ true ↦ e | false ↦ more x.net (push_dirty n (with_mark n true e)) ]
    ])
    go none t = same
    go (some x) true = same
    go (some x) false =
        let r = more_rises x.net (push_dirty n (with_mark n true e)) in
        record { nets = r.nets; same = r.same; was = r.was }

pub tighten_rises : (k : ℕ) (e : Engine) → Rises e (tighten_net k e)
unfolding tighten_net with_list
tighten_rises k e = over_rises (λ t. with_list (tight (holds (graph_of e) k) t.list) t) k e (λ t. refl) (λ t. refl)

-- ---- edits

placed_rises : (b : Bool) (n : ℕ) (y : Node) (e : Engine) → Rises e (placed b n y e)
unfolding placed over_net with_nets with_slots with_list net_at
placed_rises b n y e =
    let r = over_rises (λ t. with_list (push n t.list) t) y.net e (λ t. refl) (λ t. refl) in
    record { nets = r.nets; same = r.same; was = r.was }

add_rises : (b : Bool) (n : ℕ) (y : Node) (e : Engine) → Answers (Rises e) (add_node b n y e)
unfolding add_node
add_rises b n y e = go (ltb (count is_some (graph_of e)) e.pools.nodes) (ltb (entries e) e.pools.entries)
  where
    go : (s t : Bool) → Answers (Rises e) (need s 9 (need t 10 (ok (placed b n y e))))
    go true true = placed_rises b n y e
    go true false = tt
    go false t = tt

ends_rises : (o : Option (Port × Port)) (e : Engine) → Rises e (mark_ends o e)
unfolding mark_ends
ends_rises none e = record { nets = refl; same = refl; was = λ k l z. z }
ends_rises (some p) e =
    rises_then e (mark_dirty p.0.node e) (mark_dirty p.1.node (mark_dirty p.0.node e)) (mark_rises p.0.node e) (mark_rises p.1.node (mark_dirty p.0.node e))

edit_rises : (d : Edit) (e : Engine) → Answers (Rises e) (edit d e)
unfolding edit link with_graph with_slots push_dirty with_dirty net_at
edit_rises (Insert n y) e = go (add_node true n y e) (add_rises true n y e)
  where
    pushed : (e' : Engine) → Rises e e' → Rises e (push_dirty n e')
    pushed e' r = record { nets = r.nets; same = r.same; was = r.was }

    go : (r : Result Engine) → Answers (Rises e) r → Answers (Rises e) (r >>= λ e'. ok (more y.net (push_dirty n e')))
    go (ok e') h = rises_then e (push_dirty n e') (more y.net (push_dirty n e')) (pushed e' h) (more_rises y.net (push_dirty n e'))
    go (refuse r) h = tt
edit_rises (Copy n y) e = add_rises false n y e
edit_rises (Join a b) e =
    let r = ends_rises (ends (graph_of e) a b) (with_graph (join (graph_of e) a b) e) in
    record { nets = r.nets; same = r.same; was = r.was }
edit_rises (Cut a b) e = record { nets = refl; same = refl; was = λ k l z. z }

pub edits_rise : (ds : List Edit) (e : Engine) → Answers (Rises e) (each edit ds e)
edits_rise [] e = record { nets = refl; same = refl; was = λ k l z. z }
edits_rise (d ∷ ds) e = go (edit d e) (edit_rises d e) (λ e'. edits_rise ds e')
  where
    go : (r : Result Engine) → Answers (Rises e) r → ((e' : Engine) → Answers (Rises e') (each edit ds e')) → Answers (Rises e) (r >>= λ e'. each edit ds e')
    go (ok e') h f = then (each edit ds e') (f e')
      where
        then : (r : Result Engine) → Answers (Rises e') r → Answers (Rises e) r
        then (ok e₂) k = rises_then e e' e₂ h k
        then (refuse r) k = tt
    go (refuse r) h f = tt
