-- Level Engine, 4: a visit of one node: which rules are tried, in which order, and what the first that acts does.
use Rattle.std.specs.Prelude.{ℕ, ◌+◌, ◌-◌, Bool, true, false, ◌&&◌, List, [], ◌∷◌, ◌++◌, map, length, eqb, ltb}
use Rattle.std.proofs.Math.Option.{Option, none, some}
use Rattle.net_file.specs.Lists.{Result, ok, refuse, need, concat_map}
use Rattle.net_file.specs.Values.{Rule, graft, annihilate, erase, commute, eta, max_steps}
use Rattle.definitions.specs.Lists.{◌>>=◌, keep, find, each, up_to}
use Rattle.definitions.specs.Nets.{Port, Graph, port, is_principal, at, name_of, follow}
use Rattle.definitions.specs.Scripts.{Script}
use Rattle.definitions.specs.Rules.{eta_script, graft_script, graft_fits, reaches, interact}
use Rattle.definitions.specs.Step.{pairs, rewrites}
use Rattle.definitions.specs.State.{Engine, graph_of, with_steps, with_awaiting, net_at, over_net, more, waits}
use Rattle.definitions.specs.Books.{tighten_net, fresh, edit, finish_edit}

-- whether a rule acted
pub data Visited : Type 0 where
  acted : Engine → Visited
  passed : Engine → Visited

-- a none stays none
unfoldable pub less_one : Option ℕ → Option ℕ
less_one none = none
less_one (some n) = some (n - 1)

-- "One that acts costs one step"; 14 "comes before a slot is taken"
unfoldable pub act : Script → Engine → Result Visited
act s e = need (ltb e.steps max_steps) 14
    (each edit s.edits e >>= λ e'. ok (acted (with_steps (less_one e'.limit) (e'.steps + 1) (finish_edit s.dead e'))))

-- none where the rule does not act
unfoldable pub act_if : Option Script → Engine → Result Visited
act_if none e = ok (passed e)
act_if (some s) e = act s e

-- ---- graft

-- node n waits on net m: 11 while all waits together are W
unfoldable pub await_net : ℕ → ℕ → Engine → Result Visited
await_net m n e =
    let k = (at (graph_of e) n).net in
    need (ltb (waits e) e.pools.waits) 11
    (ok (passed (more k (over_net (λ t. with_awaiting (t.awaiting ++ record { node = n; net = k } ∷ []) t) m e))))

-- the named net's list is tightened "always, before it copies in list order"; 13 after the copies are made
unfoldable pub graft_net : ℕ → ℕ → Engine → Result Visited
graft_net m n e =
    let e₁ = tighten_net m e in
    let free = (net_at e₁ m).home.free in
    act (graft_script (fresh e₁) (graph_of e₁) (net_at e₁ m).list.items free n) e₁ >>= λ v.
    need (graft_fits (graph_of e₁) free n) 13 (ok v)

-- the included net of this name
unfoldable pub get_net : Engine → ℕ → Option ℕ
get_net e name = find (λ k. eqb (net_at e k).home.name name) (up_to (length e.nets))

-- a net is grafted when its pending is 0; a name of no included net is passed over
unfoldable pub graft_named : Option ℕ → ℕ → Engine → Result Visited
graft_named none n e = ok (passed e)
graft_named (some m) n e = elim (eqb (net_at e m).pending 0) [ true ↦ graft_net m n e | false ↦ await_net m n e ]

-- 12 where there is no first child
unfoldable pub graft_child : List ℕ → ℕ → Engine → Result Visited
graft_child [] n e = refuse 12
graft_child (c ∷ cs) n e = graft_named (get_net e c) n e

-- a graft that does not reach passes
unfoldable pub try_graft : Bool → ℕ → Engine → Result Visited
try_graft lazy n e = elim (reaches (graph_of e) lazy n) [
  | true ↦ graft_child (name_of (graph_of e) n).children n e
  | false ↦ ok (passed e)
]

-- ---- the rules in order

-- a rule with the nodes that it is tried on
pub data Try : Type 0 where
  interaction : Rule → ℕ → ℕ → Try
  rewrite : Rule → ℕ → Try

-- "both orders registered, the second flipped, once where the paths are equal"
unfoldable pub try_pair : Graph → ℕ → ℕ → Rule → ℕ × ℕ → List Try
try_pair g n m r p =
    let x = (name_of g n).path in
    let y = (name_of g m).path in
    elim (eqb p.0 x && eqb p.1 y) [
      | true ↦ interaction r n m ∷ []
      | false ↦ elim (eqb p.1 x && eqb p.0 y) [ true ↦ interaction r m n ∷ [] | false ↦ [] ]
    ]

-- if the principal port of n meets that of m
unfoldable pub interactions : List Rule → Graph → ℕ → Port → List Try
interactions rs g n q = elim (is_principal q) [
  | true ↦ concat_map (λ r. concat_map (try_pair g n q.node r) (pairs r)) rs
  | false ↦ []
]

-- "interaction rules for that pair of paths are tried in order of registration .. then rewrites of the node's path"
unfoldable pub tries : List Rule → Graph → ℕ → List Try
tries rs g n =
    interactions rs g n (follow g (port n 0))
    ++ concat_map (λ r. map (λ p. rewrite r n) (keep (eqb (name_of g n).path) (rewrites r))) rs

-- graft and eta are the rewrites
unfoldable pub try_rewrite : Rule → ℕ → Engine → Result Visited
try_rewrite (graft p lazy) n e = try_graft lazy n e
try_rewrite (annihilate ps) n e = ok (passed e)
try_rewrite (erase es ns) n e = ok (passed e)
try_rewrite (commute xs ys) n e = ok (passed e)
try_rewrite (eta cs vs ns) n e = act_if (eta_script (fresh e) (graph_of e) vs ns n) e

-- one rule on its nodes
unfoldable pub attempt : Try → Engine → Result Visited
attempt (interaction r a b) e = act_if (interact r (fresh e) (graph_of e) a b) e
attempt (rewrite r n) e = try_rewrite r n e

-- the first that acts ends the visit; one that passes may leave a wait
unfoldable pub attempts : List Try → Engine → Result Visited
attempts [] e = ok (passed e)
attempts (t ∷ ts) e = attempt t e >>= λ v. elim v as (λ _. Result Visited) [ acted e' ↦ ok (acted e') | passed e' ↦ attempts ts e' ]

-- the rules for node n, in order
unfoldable pub visit : ℕ → Engine → Result Visited
visit n e = attempts (tries e.rules (graph_of e) n) e
