-- The conversions and pruning as calls on bytes, with their refusals: 1 where the scratch that is lent for the tables by wire is
-- shorter than documented, 2 to 8 of the file, then 17 and 18 as met, then 15; and what they leave in that scratch. Pruning needs none.
use Rattle.std.specs.Prelude.{ℕ, Bool, true, false, List, [], ◌∷◌, length, leb, ltb}
use Rattle.net_file.specs.Lists.{Result, ok, refuse, need, all}
use Rattle.net_file.specs.Values.{FlatNet, TreeNet, File}
use Rattle.net_file.specs.Checks.{Version, flat, tree, read, write}
use Rattle.definitions.specs.Calls.{Left, unchanged, zeros, Outcome}
use Rattle.conversions.specs.Convert.{◌>>=◌, to_tree, to_flat, resolve_flat}
use Rattle.conversions.specs.Resolve.{resolve_tree}
use Rattle.conversions.specs.Prune.{prune}

-- net by net in file order, until one refuses
unfoldable pub map_nets : {A B : Type 0} → (A → Result B) → List A → Result (List B)
map_nets f [] = ok []
map_nets f (n ∷ ns) = f n >>= λ m. map_nets f ns >>= λ ms. ok (m ∷ ms)

-- a file with its nets converted; limit, tables and rules stay
unfoldable pub convert : {A B : Type 0} → (A → Result B) → File A → Result (File B)
convert f x = map_nets f x.nets >>= λ ns. ok (record { limit = x.limit; paths = x.paths; names = x.names; rules = x.rules; nets = ns })

-- 15: the output is shorter than the result
unfoldable pub fitted : ℕ → List ℕ → Result (List ℕ)
fitted room bs = need (leb (length bs) room) 15 (ok bs)

-- a file of one version taken to bytes of another, for an output of so many bytes
unfoldable pub converted : {A B : Type 0} → Version A → Version B → (A → Result B) → ℕ → List ℕ → Result (List ℕ)
converted v w f room bs = read v bs >>= λ x. convert f x >>= λ y. fitted room (write w y)

unfoldable pub flat_from_tree : ℕ → List ℕ → Result (List ℕ)
flat_from_tree = converted tree flat to_flat

unfoldable pub tree_from_flat : ℕ → List ℕ → Result (List ℕ)
tree_from_flat = converted flat tree (λ n. ok (to_tree n))

unfoldable pub flat_resolved : ℕ → List ℕ → Result (List ℕ)
flat_resolved = converted flat flat (λ n. ok (resolve_flat n))

unfoldable pub tree_resolved : ℕ → List ℕ → Result (List ℕ)
tree_resolved = converted tree tree resolve_tree

-- an entry not below the name count gives 5, after 8 and before 15
unfoldable pub pruned : List ℕ → ℕ → List ℕ → Result (List ℕ)
pruned entries room bs = read flat bs >>= λ x. need (all (λ i. ltb i (length x.names)) entries) 5 (fitted room (write flat (prune x entries)))

-- ---- with the scratch that they are lent: whether it is long enough is given

-- unchanged after 1 to 8; from then on zeros up to its documented length, whatever the answer
unfoldable pub scratched : {A B : Type 0} → Bool → Version A → Version B → (A → Result B) → ℕ → List ℕ → Outcome (List ℕ)
scratched long v w f room bs = elim (need long 1 (read v bs)) [
  | refuse r ↦ (refuse r, unchanged)
  | ok x ↦ (convert f x >>= λ y. fitted room (write w y), zeros (length bs))
]

unfoldable pub to_flat_call : Bool → ℕ → List ℕ → Outcome (List ℕ)
to_flat_call long = scratched long tree flat to_flat

unfoldable pub to_tree_call : Bool → ℕ → List ℕ → Outcome (List ℕ)
to_tree_call long = scratched long flat tree (λ n. ok (to_tree n))

unfoldable pub resolve_flat_call : Bool → ℕ → List ℕ → Outcome (List ℕ)
resolve_flat_call long = scratched long flat flat (λ n. ok (resolve_flat n))

unfoldable pub resolve_tree_call : Bool → ℕ → List ℕ → Outcome (List ℕ)
resolve_tree_call long = scratched long tree tree resolve_tree

unfoldable pub prune_call : List ℕ → ℕ → List ℕ → Outcome (List ℕ)
prune_call entries room bs = (pruned entries room bs, unchanged)
