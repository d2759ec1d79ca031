-- The rule eta on the words, on values: common.rs, `eta_reduce`. Where every auxiliary port of a node meets a value of one name, one
-- such value comes in place of all. "Eta compares whole names." Level Words.
use Rattle.std.specs.Prelude.{ℕ, zero, suc, Bool, true, false, List}
use Rattle.words.specs.Choose.{pick, if_eq}
use Rattle.words.specs.Left.{Left}
use Rattle.layout.specs.Layout.{next, across, principal, node_of}
use Rattle.graph.specs.Graph.{link, remove_wire, remove_node}
use Rattle.edits.specs.Edits.{on_placed, insert_node}
use Rattle.node_names.specs.Names.{same_name_words}
use Rattle.rule_sets.specs.Sets.{value}
use Rattle.tried.specs.Tries.{spent, arity, name}
use Rattle.tried.specs.declared.Tried.{Tried}
use Rattle.tried.specs.declared.Tried.TheVariants.{Passed, Acted, Refused}

-- the first auxiliary port of node n
unfoldable pub aux : ℕ → ℕ
aux n = next (principal n)

-- the node that port p meets
unfoldable pub meets : List ℕ → ℕ → ℕ
meets ws p = node_of (across ws p)

-- node n has one port and this name
unfoldable pub is_value : List ℕ → List ℕ → ℕ → ℕ → Bool
is_value ws file n a = if_eq (arity ws n) 1 (same_name_words file (name ws n) a) false

-- all k ports from p on meet values of this name
unfoldable pub all_values : List ℕ → List ℕ → ℕ → ℕ → ℕ → Bool
all_values ws file p zero a = true
all_values ws file p (suc k) a =
    let r = all_values ws file (next p) k a in
    pick (is_value ws file (meets ws p) a) r false

-- what port p meets is to go, its wire is cut
unfoldable pub drop_value : List ℕ → ℕ → List ℕ
drop_value ws p =
    let m = meets ws p in
    remove_wire (remove_node ws m) p (principal m)

-- the same for k ports from p on
unfoldable pub drop_values : List ℕ → ℕ → ℕ → List ℕ
drop_values ws p zero = ws
drop_values ws p (suc k) = drop_values (drop_value ws p) (next p) k

-- node n and the k values that it meets are to go
unfoldable pub remove_values : List ℕ → ℕ → ℕ → List ℕ
remove_values ws n k = drop_values (remove_node ws n) (aux n) k

-- a value of this name in net t, linked with node n's principal port
unfoldable pub put_value : List ℕ → ℕ → ℕ → ℕ → Left Tried
put_value ws t n a =
    let p = insert_node ws t a 1 in
    on_placed p.is (λ m. record { is = Acted; ws = link p.ws (principal n) (principal m) }) (λ r. record { is = Refused r; ws = p.ws })

-- one value in place of node n and its k; 14 "comes before a slot is taken"
unfoldable pub act_values : List ℕ → ℕ → ℕ → ℕ → ℕ → Left Tried
act_values ws t n k a = pick (spent ws) (record { is = Refused 14; ws = ws }) (put_value (remove_values ws n k) t n a)

-- the name is that at the first auxiliary port, a value's or a nil's; the same at all k
unfoldable pub eta_values_words : List ℕ → List ℕ → List ℕ → ℕ → ℕ → ℕ → ℕ → Left Tried
eta_values_words ws file sets r t n k =
    let a = name ws (meets ws (aux n)) in
    let passed : Left Tried = record { is = Passed; ws = ws } in
    pick (value file sets r a) (pick (all_values ws file (aux n) k a) (act_values ws t n k a) passed) passed
