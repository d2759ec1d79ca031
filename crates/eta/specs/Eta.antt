-- The rule eta on the words: common.rs, `eta_reduce`. Its form on values stands in crate eta_values; here is that on two combinators of
-- one name whose auxiliary ports meet each other or nils of one name, and which of the two a node is tried for. Level Words.
use Rattle.std.specs.Prelude.{ℕ, zero, suc, Bool, true, false, List}
use Rattle.words.specs.Choose.{pick, if_eq}
use Rattle.words.specs.Left.{Left}
use Rattle.layout.specs.Layout.{next, less, across, principal, is_principal_words}
use Rattle.graph.specs.Graph.{link, remove_wire, remove_node}
use Rattle.node_names.specs.Names.{same_name_words}
use Rattle.rule_sets.specs.Sets.{nil}
use Rattle.tried.specs.Tries.{spent, arity, name}
use Rattle.tried.specs.declared.Tried.{Tried}
use Rattle.tried.specs.declared.Tried.TheVariants.{Passed, Acted, Refused}
use Rattle.eta_values.specs.Values.{aux, meets, is_value, drop_value, eta_values_words}

-- ---- combinators

-- ports p and q meet nils of one name
unfoldable pub nils : List ℕ → List ℕ → List ℕ → ℕ → ℕ → ℕ → Bool
nils ws file sets r p q =
    let a = name ws (meets ws p) in
    if_eq (arity ws (meets ws p)) 1 (pick (is_value ws file (meets ws q) a) (nil file sets r a) false) false

-- they meet each other, or nils of one name
unfoldable pub straight : List ℕ → List ℕ → List ℕ → ℕ → ℕ → ℕ → Bool
straight ws file sets r p q = if_eq (across ws p) q true (nils ws file sets r p q)

-- each of k ports from p on, with that from q on
unfoldable pub all_straight : List ℕ → List ℕ → List ℕ → ℕ → ℕ → ℕ → ℕ → Bool
all_straight ws file sets r p q zero = true
all_straight ws file sets r p q (suc k) =
    let rest = all_straight ws file sets r (next p) (next q) k in
    pick (straight ws file sets r p q) rest false

-- the wire between p and q is cut, or the nils that they meet go
unfoldable pub drop_straight : List ℕ → ℕ → ℕ → List ℕ
drop_straight ws p q = if_eq (across ws p) q (remove_wire ws p q) (drop_value (drop_value ws p) q)

-- each of k ports from p on, with that from q on
unfoldable pub drop_all_straight : List ℕ → ℕ → ℕ → ℕ → List ℕ
drop_all_straight ws p q zero = ws
drop_all_straight ws p q (suc k) = drop_all_straight (drop_straight ws p q) (next p) (next q) k

-- nodes a and b are to go, what their principal ports meet is joined
unfoldable pub join_around : List ℕ → ℕ → ℕ → List ℕ
join_around ws a b = link (remove_node (remove_node ws a) b) (principal a) (principal b)

-- a wire in place of nodes a and b and of what is between them; 14 first
unfoldable pub act_combinators : List ℕ → ℕ → ℕ → ℕ → Left Tried
act_combinators ws a b k =
    pick (spent ws) (record { is = Refused 14; ws = ws }) (record { is = Acted; ws = drop_all_straight (join_around ws a b) (aux a) (aux b) k })

-- names and numbers of ports are the same
unfoldable pub alike : List ℕ → List ℕ → ℕ → ℕ → Bool
alike ws file a b = if_eq (arity ws a) (arity ws b) (same_name_words file (name ws a) (name ws b)) false

-- nodes a and b with k auxiliary ports
unfoldable pub eta_combinators : List ℕ → List ℕ → List ℕ → ℕ → ℕ → ℕ → ℕ → Left Tried
eta_combinators ws file sets r a b k =
    let passed : Left Tried = record { is = Passed; ws = ws } in
    pick (alike ws file a b) (pick (all_straight ws file sets r (aux a) (aux b) k) (act_combinators ws a b k) passed) passed

-- ---- the rule

-- the first of k ports from p on that does not meet a principal port; 0, which is no port, where all do
unfoldable pub odd_port : List ℕ → ℕ → ℕ → ℕ
odd_port ws p zero = 0
odd_port ws p (suc k) =
    let r = odd_port ws (next p) k in
    pick (is_principal_words (across ws p)) r p

-- rule r at node n of net t: values where all auxiliary ports meet principal ports, else n with the node that the first other port meets
unfoldable pub eta_reduce : List ℕ → List ℕ → List ℕ → ℕ → ℕ → ℕ → Left Tried
eta_reduce ws file sets r t n =
    let k = less (arity ws n) in
    let q = odd_port ws (aux n) k in
    if_eq k 0 (record { is = Passed; ws = ws }) (if_eq q 0 (eta_values_words ws file sets r t n k) (eta_combinators ws file sets r n (meets ws q) k))
