-- A visit of one node on the words: engine.rs, `visit`. Level Words.
-- Document 01: "interaction rules for that pair of paths are tried in order of registration (both orders registered, the second
-- flipped, once where the paths are equal), then rewrites of the node's path".
use Rattle.std.specs.Prelude.{ℕ, zero, suc, ◌+◌, ◌/◌, ◌%◌, Bool, true, false, List, eqb}
use Rattle.words.specs.Choose.{pick, if_eq}
use Rattle.words.specs.Left.{Left}
use Rattle.fields.specs.Fields.{byte}
use Rattle.layout.specs.Layout.{next, across, principal, node_of, is_principal_words}
use Rattle.node_names.specs.Names.{path}
use Rattle.rule_sets.specs.Sets.{set_of, rule_at_words}
use Rattle.tried.specs.Tries.{name, on_tried}
use Rattle.tried.specs.declared.Tried.{Tried}
use Rattle.tried.specs.declared.Tried.TheVariants.{Passed, Acted, Refused}
use Rattle.interactions.specs.Interactions.{interact}
use Rattle.interactions.specs.declared.Visited.{Visited}
use Rattle.eta.specs.Eta.{eta_reduce}
use Rattle.graft.specs.Graft.{graft}

-- ---- rewrites

-- rewrite r: graft or eta, by the tag
unfoldable pub rewrite : List ℕ → List ℕ → List ℕ → ℕ → Visited → Left Tried
rewrite ws file sets r v =
    let at = rule_at_words sets r in
    if_eq (byte file at) 1 (graft ws file (eqb (byte file (at + 3)) 1) v.net.0 v.node.0) (eta_reduce ws file sets r v.net.0 v.node.0)

-- ---- the rules in order

-- rule r: an interaction where principal ports meet, else a rewrite
unfoldable pub attempt : List ℕ → List ℕ → List ℕ → ℕ → Visited → Left Tried
attempt ws file sets r v = pick v.meets (interact ws file sets r v) (rewrite ws file sets r v)

-- rule r, if the lowest bit of a set says so
unfoldable pub tried_if : List ℕ → List ℕ → List ℕ → ℕ → ℕ → Visited → Left Tried
tried_if ws file sets rules r v = if_eq (rules % 2) 1 (attempt ws file sets r v) (record { is = Passed; ws = ws })

-- the rules of a set from rule r on, at most k, until one acts
unfoldable pub tries : List ℕ → List ℕ → List ℕ → Visited → ℕ → ℕ → ℕ → Left Tried
tries ws file sets v rules r zero = record { is = Passed; ws = ws }
tries ws file sets v rules r (suc k) =
    let a = tried_if ws file sets rules r v in
    let rest = tries a.ws file sets v (rules / 2) (next r) k in
    if_eq rules 0 (record { is = Passed; ws = ws })
    (on_tried a.is rest (record { is = Acted; ws = a.ws }) (λ n. record { is = Refused n; ws = a.ws }))

-- node n, of path p, as a rewrite sees it
abbrev pub alone : ℕ → ℕ → ℕ → Visited
alone t n p = record { net = record { 0 = t }; node = record { 0 = n }; path = p; meets = false; other = record { 0 = n }; facing = p }

-- node n, of path p, that meets node m, of path q
abbrev pub meeting : ℕ → ℕ → ℕ → ℕ → ℕ → Visited
meeting t n p m q = record { net = record { 0 = t }; node = record { 0 = n }; path = p; meets = true; other = record { 0 = m }; facing = q }

-- the rewrites of node n's path p
unfoldable pub rewrites : List ℕ → List ℕ → List ℕ → ℕ → ℕ → ℕ → Left Tried
rewrites ws file sets t n p = tries ws file sets (alone t n p) (set_of sets p 3) 0 64

-- node n, of path p, meets node m: the interactions, then the rewrites
unfoldable pub visit_pair : List ℕ → List ℕ → List ℕ → ℕ → ℕ → ℕ → ℕ → Left Tried
visit_pair ws file sets t n m p =
    let a = tries ws file sets (meeting t n p m (path file (name ws m))) (set_of sets p 2) 0 64 in
    on_tried a.is (rewrites a.ws file sets t n p) (record { is = Acted; ws = a.ws }) (λ r. record { is = Refused r; ws = a.ws })

-- the rules for node n, in order; none names a free node, whose name has the place 0
unfoldable pub visit : List ℕ → List ℕ → List ℕ → ℕ → ℕ → Left Tried
visit ws file sets t n =
    let a = name ws n in
    let q = across ws (principal n) in
    if_eq a 0 (record { is = Passed; ws = ws })
    (pick (is_principal_words q) (visit_pair ws file sets t n (node_of q) (path file a)) (rewrites ws file sets t n (path file a)))
