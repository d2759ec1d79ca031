-- Level Graph, 2: a rule is a script of edits. Document 01: "Linking takes the port now across from an argument whose slot is
-- filled. Two ports already wired together vanish as a circle."
use Rattle.std.specs.Prelude.{ℕ, zero, suc, true, false, List, [], ◌∷◌, get_or, set}
use Rattle.std.proofs.Math.Option.{Option, none, some}
use Rattle.definitions.specs.Lists.{foldl}
use Rattle.definitions.specs.Nets.{Port, Node, Graph, same_port, follow}

-- p has q across from it, or is a hole
unfoldable pub wire : Graph → Port → Option Port → Graph
wire g p q = elim (get_or g p.node none) [
  | none ↦ g
  | some n ↦ set g p.node (some (record { net = n.net; name = n.name; ports = set n.ports p.index q }))
]

-- both become holes (`remove_wire`)
unfoldable pub cut : Graph → Port → Port → Graph
cut g a b = wire (wire g a none) b none

-- the two ports that a link wires; none where its arguments are wired together
unfoldable pub ends : Graph → Port → Port → Option (Port × Port)
ends g a b = elim (same_port (follow g a) b) [ true ↦ none | false ↦ some (follow g a, follow g b) ]

-- `link`. The source looks across from b after it emptied a: no other port, as no rule links a port with itself
unfoldable pub join : Graph → Port → Port → Graph
join g a b = elim (ends g a b) [
  | none ↦ cut g a b
  | some p ↦ wire (wire (cut g a b) p.0 (some p.1)) p.1 (some p.0)
]

-- node x gets the number n
unfoldable pub fill : Graph → ℕ → Node → Graph
fill [] zero x = some x ∷ []
fill [] (suc n) x = none ∷ fill [] n x
fill (y ∷ g) zero x = some x ∷ g
fill (y ∷ g) (suc n) x = y ∷ fill g n x

-- no node has the number n any more
unfoldable pub vacate : Graph → ℕ → Graph
vacate g n = set g n none

-- a copy is a new node too; a graft makes it, and it starts clean
pub data Edit : Type 0 where
  Insert : ℕ → Node → Edit
  Copy : ℕ → Node → Edit
  Join : Port → Port → Edit
  Cut : Port → Port → Edit

-- one edit
unfoldable pub apply : Graph → Edit → Graph
apply g (Insert n x) = fill g n x
apply g (Copy n x) = fill g n x
apply g (Join a b) = join g a b
apply g (Cut a b) = cut g a b

-- what a rule does: edits in order; then the dead nodes go, in order
pub record Script : Type 0 where
  pub edits : List Edit
  pub dead : List ℕ

-- the whole script
unfoldable pub apply_script : Graph → Script → Graph
apply_script g s = foldl vacate (foldl apply g s.edits) s.dead
