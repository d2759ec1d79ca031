-- The paths of a rule, as the sets collect them: crates/rule_sets says which set is which.
use Rattle.std.specs.Prelude.{ℕ, zero, suc, List, [], ◌++◌}
use Rattle.net_file.specs.Values.{Rule, graft, annihilate, erase, commute, eta}
use Rattle.definitions.specs.Step.{rewrites}

-- the first list of an interaction
unfoldable pub first_paths : Rule → List ℕ
first_paths (graft p lazy) = []
first_paths (annihilate ps) = ps
first_paths (erase es ns) = es
first_paths (commute xs ys) = xs
first_paths (eta cs vs ns) = []

-- and the second
unfoldable pub second_paths : Rule → List ℕ
second_paths (graft p lazy) = []
second_paths (annihilate ps) = ps
second_paths (erase es ns) = ns
second_paths (commute xs ys) = ys
second_paths (eta cs vs ns) = []

-- the nils of an eta
unfoldable pub nil_paths : Rule → List ℕ
nil_paths (graft p lazy) = []
nil_paths (annihilate ps) = []
nil_paths (erase es ns) = []
nil_paths (commute xs ys) = []
nil_paths (eta cs vs ns) = ns

-- its values and nils
unfoldable pub value_paths : Rule → List ℕ
value_paths (graft p lazy) = []
value_paths (annihilate ps) = []
value_paths (erase es ns) = []
value_paths (commute xs ys) = []
value_paths (eta cs vs ns) = vs ++ ns

-- the paths under which set k has a rule
unfoldable pub collected : ℕ → Rule → List ℕ
collected zero r = first_paths r
collected (suc zero) r = second_paths r
collected (suc (suc zero)) r = first_paths r ++ second_paths r
collected (suc (suc (suc zero))) r = rewrites r
collected (suc (suc (suc (suc zero)))) r = value_paths r
collected (suc (suc (suc (suc (suc zero))))) r = nil_paths r
collected (suc (suc (suc (suc (suc (suc k)))))) r = []
