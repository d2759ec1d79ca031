-- Level Engine refuses a load and a run by numbers that are refusals' own: so a refusal that has a name tells its number.
-- A run that is out of fuel answers 0, which is no refusal's; `fuel` lasts for every slice (`reached_lasts`).
use Rattle.std.specs.Prelude.{ℕ, zero, suc, ◌+◌, ◌-◌, ◌≡◌, refl, ◌≢◌, Bool, true, false, List, [], ◌∷◌, ◌++◌, length, ltb, eqb}
use Rattle.std.proofs.Math.Option.{Option, none, some}
use Rattle.net_file.specs.Lists.{Result, ok, refuse, need, count}
use Rattle.net_file.specs.Values.{FlatNet, File, Rule, graft, annihilate, erase, commute, eta, max_steps}
use Rattle.refusals.specs.Numbers.{number, by}
use Rattle.refusals.specs.Told.{Numbered}
use Rattle.definitions.specs.Lists.{◌>>=◌, is_some, each}
use Rattle.definitions.specs.Nets.{Node, at, name_of}
use Rattle.definitions.specs.Scripts.{Edit, Insert, Copy, Join, Cut, Script}
use Rattle.definitions.specs.Rules.{eta_script, graft_script, graft_fits, reaches, interact}
use Rattle.definitions.specs.State.{Pools, Engine, entries, graph_of, net_at, over_net, more, new_net, waits, with_awaiting, with_dirty, with_mark, with_nets, with_stale, with_steps}
use Rattle.definitions.specs.Books.{is_dirty, tighten_net, fresh, placed, push_dirty, add_node, edit, finish_edit}
use Rattle.definitions.specs.Load.{load_net, add_flat_net, empty, included, free_name, load}
use Rattle.definitions.specs.Visit.{Visited, acted, passed, less_one, act, act_if, await_net, graft_net, get_net, graft_named, graft_child, try_graft, Try, interaction, rewrite, try_rewrite, attempt, attempts, tries, visit}
use Rattle.definitions.specs.Run.{leave, turn, with_items, next, run, fuel, run_slice}

pub needed : {A : Type 0} (t : Bool) (n : ℕ) (x : Result A) → number (by n) ≡ n → Numbered x → Numbered (need t n x)
needed true n x e h = h
needed false n x e h = e

pub then : {A B : Type 0} (r : Result A) (f : A → Result B) → Numbered r → ((a : A) → Numbered (f a)) → Numbered (r >>= f)
then (ok a) f h g = g a
then (refuse n) f h g = h

pub each_numbered : {A B : Type 0} (f : A → B → Result B) (xs : List A) (b : B) → ((x : A) (c : B) → Numbered (f x c)) → Numbered (each f xs b)
each_numbered f [] b h = tt
each_numbered f (x ∷ xs) b h = then (f x b) (λ c. each f xs c) (h x b) (λ c. each_numbered f xs c h)

-- ---- edits and the load: 9 and 10

pub add_numbered : (m : Bool) (n : ℕ) (x : Node) (e : Engine) → Numbered (add_node m n x e)
unfolding add_node
add_numbered m n x e =
    let room = ltb (entries e) e.pools.entries in
    let done : Result Engine = ok (placed m n x e) in
    needed (ltb (count is_some (graph_of e)) e.pools.nodes) 9 (need room 10 done) refl (needed room 10 done refl tt)

pub edit_numbered : (d : Edit) (e : Engine) → Numbered (edit d e)
unfolding edit
edit_numbered (Insert n x) e = then (add_node true n x e) (λ e'. ok (more x.net (push_dirty n e'))) (add_numbered true n x e) (λ c. tt)
edit_numbered (Copy n x) e = add_numbered false n x e
edit_numbered (Join a b) e = tt
edit_numbered (Cut a b) e = tt

pub edits_numbered : (ds : List Edit) (e : Engine) → Numbered (each edit ds e)
edits_numbered ds e = each_numbered edit ds e edit_numbered

pub load_numbered : (p : Pools) (f : File FlatNet) → Numbered (load p f)
unfolding load add_flat_net
load_numbered p f =
    each_numbered (add_flat_net (free_name f.paths)) (included f) (empty p f)
    (λ t e. edits_numbered (load_net (fresh e) (free_name f.paths) (length e.nets) t) (with_nets (e.nets ++ new_net (record { name = t.name; free = fresh e 0 }) ∷ []) e))

-- ---- a visit: 9 to 14

act_numbered : (s : Script) (e : Engine) → Numbered (act s e)
unfolding act
act_numbered s e =
    let end : Engine → Result Visited = λ e'. ok (acted (with_steps (less_one e'.limit) (e'.steps + 1) (finish_edit s.dead e'))) in
    needed (ltb e.steps max_steps) 14 (each edit s.edits e >>= end) refl (then (each edit s.edits e) end (edits_numbered s.edits e) (λ c. tt))

act_if_numbered : (o : Option Script) (e : Engine) → Numbered (act_if o e)
unfolding act_if
act_if_numbered none e = tt
act_if_numbered (some s) e = act_numbered s e

await_numbered : (m n : ℕ) (e : Engine) → Numbered (await_net m n e)
unfolding await_net
await_numbered m n e =
    let k = (at (graph_of e) n).net in
    needed (ltb (waits e) e.pools.waits) 11
    (ok (passed (more k (over_net (λ t. with_awaiting (t.awaiting ++ record { node = n; net = k } ∷ []) t) m e)))) refl tt

net_numbered : (m n : ℕ) (e : Engine) → Numbered (graft_net m n e)
unfolding graft_net
net_numbered m n e =
    let e₁ = tighten_net m e in
    let free = (net_at e₁ m).home.free in
    let s = graft_script (fresh e₁) (graph_of e₁) (net_at e₁ m).list.items free n in
    then (act s e₁) (λ v. need (graft_fits (graph_of e₁) free n) 13 (ok v)) (act_numbered s e₁) (λ v. needed (graft_fits (graph_of e₁) free n) 13 (ok v) refl tt)

named_numbered : (o : Option ℕ) (n : ℕ) (e : Engine) → Numbered (graft_named o n e)
unfolding graft_named
named_numbered none n e = tt
named_numbered (some m) n e = go (eqb (net_at e m).pending 0)
  where
    go : (t : Bool) → Numbered (elim t as (λ _. Result Visited) [ true ↦ graft_net m n e | false ↦ await_net m n e ])
    go true = net_numbered m n e
    go false = await_numbered m n e

child_numbered : (cs : List ℕ) (n : ℕ) (e : Engine) → Numbered (graft_child cs n e)
unfolding graft_child
child_numbered [] n e = refl
child_numbered (c ∷ cs) n e = named_numbered (get_net e c) n e

graft_numbered : (lazy : Bool) (n : ℕ) (e : Engine) → Numbered (try_graft lazy n e)
unfolding try_graft
graft_numbered lazy n e = go (reaches (graph_of e) lazy n)
  where
    go : (t : Bool) → Numbered (elim t as (λ _. Result Visited) [ true ↦ graft_child (name_of (graph_of e) n).children n e | false ↦ ok (passed e) ])
    go true = child_numbered (name_of (graph_of e) n).children n e
    go false = tt

rewrite_numbered : (r : Rule) (n : ℕ) (e : Engine) → Numbered (try_rewrite r n e)
unfolding try_rewrite
rewrite_numbered (graft p lazy) n e = graft_numbered lazy n e
rewrite_numbered (annihilate ps) n e = tt
rewrite_numbered (erase es ns) n e = tt
rewrite_numbered (commute xs ys) n e = tt
rewrite_numbered (eta cs vs ns) n e = act_if_numbered (eta_script (fresh e) (graph_of e) vs ns n) e

attempt_numbered : (t : Try) (e : Engine) → Numbered (attempt t e)
unfolding attempt
attempt_numbered (interaction r a b) e = act_if_numbered (interact r (fresh e) (graph_of e) a b) e
attempt_numbered (rewrite r n) e = rewrite_numbered r n e

-- what comes after one that was tried
abbrev others : (Engine → Result Visited) → Visited → Result Visited
others f v = elim v as (λ _. Result Visited) [ acted e ↦ ok (acted e) | passed e ↦ f e ]

others_numbered : (f : Engine → Result Visited) → ((e : Engine) → Numbered (f e)) → (v : Visited) → Numbered (others f v)
others_numbered f h (acted e) = tt
others_numbered f h (passed e) = h e

attempts_numbered : (ts : List Try) (e : Engine) → Numbered (attempts ts e)
unfolding attempts
attempts_numbered [] e = tt
attempts_numbered (t ∷ ts) e =
    then (attempt t e) (others (λ e'. attempts ts e')) (attempt_numbered t e) (others_numbered (λ e'. attempts ts e') (λ e'. attempts_numbered ts e'))

visit_numbered : (n : ℕ) (e : Engine) → Numbered (visit n e)
unfolding visit
visit_numbered n e = attempts_numbered (tries e.rules (graph_of e) n) e

turn_numbered : (n : ℕ) (e : Engine) → Numbered (turn n e)
unfolding turn
turn_numbered n e = go (is_dirty e n)
  where
    go : (t : Bool) → Numbered (elim t as (λ _. Result Visited) [
      | true ↦ visit n (with_mark n false e) >>= λ v. ok (leave (at (graph_of e) n).net v)
      | false ↦ ok (passed (with_dirty (with_stale (e.dirty.stale - 1) e.dirty) e))
    ])
    go true = then (visit n (with_mark n false e)) (λ v. ok (leave (at (graph_of e) n).net v)) (visit_numbered n (with_mark n false e)) (λ v. tt)
    go false = tt

-- ---- a run whose fuel lasts

-- that a run with so much fuel, which lasts, is so
abbrev Runs : ℕ → Type 0
Runs f = (n : Option ℕ) (e : Engine) → run f n e ≢ refuse 0 → Numbered (run f n e)

module _ (f : ℕ) (ih : Runs f) (n : Option ℕ) where
  abbrev on : Visited → Result Engine
  on v = elim v as (λ _. Result Engine) [ acted e' ↦ run f (less_one n) e' | passed e' ↦ run f n e' ]

  visited : (v : Visited) → on v ≢ refuse 0 → Numbered (on v)
  visited (acted e) k = ih (less_one n) e k
  visited (passed e) k = ih n e k

  turned : (r : Result Visited) → Numbered r → (r >>= on) ≢ refuse 0 → Numbered (r >>= on)
  turned (refuse r) t k = t
  turned (ok v) t k = visited v k

  taken : (e : Engine) (o : Option (List ℕ × ℕ))
      → elim o as (λ _. Result Engine) [ none ↦ ok e | some p ↦ turn p.1 (with_items p.0 e) >>= on ] ≢ refuse 0
      → Numbered (elim o as (λ _. Result Engine) [ none ↦ ok e | some p ↦ turn p.1 (with_items p.0 e) >>= on ])
  taken e none k = tt
  taken e (some p) k = turned (turn p.1 (with_items p.0 e)) (turn_numbered p.1 (with_items p.0 e)) k

run_numbered : (f : ℕ) → Runs f
unfolding run
run_numbered zero n e h = absurd (h refl)
run_numbered (suc f) n e h = taken f (run_numbered f) n e (next n e) h

pub run_slice_numbered : (n : Option ℕ) (e : Engine) → run fuel n e ≢ refuse 0 → Numbered (run_slice n e)
unfolding run_slice
run_slice_numbered n e h = then (run fuel n e) (λ e'. ok (e', e'.steps - e.steps)) (run_numbered fuel n e h) (λ c. tt)
