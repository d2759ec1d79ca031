-- The rule erase on the words: common.rs, `erase`. Level Words.
use Rattle.std.specs.Prelude.{ℕ, zero, suc, List}
use Rattle.words.specs.Choose.{pick, if_eq}
use Rattle.words.specs.Left.{Left}
use Rattle.layout.specs.Layout.{next, less, principal}
use Rattle.graph.specs.Graph.{link, remove_node, remove_wire}
use Rattle.edits.specs.Edits.{on_placed, insert_node}
use Rattle.tried.specs.Tries.{spent, arity, name}
use Rattle.tried.specs.declared.Tried.{Tried}
use Rattle.tried.specs.declared.Tried.TheVariants.{Passed, Acted, Refused}

-- for each of k ports from p on an eraser of its own: a node of one port, with the eraser's name
unfoldable pub erase_ports : List ℕ → ℕ → ℕ → ℕ → ℕ → Left Tried
erase_ports ws t name p zero = record { is = Acted; ws = ws }
erase_ports ws t name p (suc k) =
    let e = insert_node ws t name 1 in
    on_placed e.is (λ n. erase_ports (link e.ws p (principal n)) t name (next p) k) (λ r. record { is = Refused r; ws = e.ws })

-- both nodes are to go, the wire between their principal ports is cut
unfoldable pub part : List ℕ → ℕ → ℕ → List ℕ
part ws a b = remove_wire (remove_node (remove_node ws a) b) (principal a) (principal b)

-- the pair goes, and for each aux port of the node an eraser comes
unfoldable pub act : List ℕ → ℕ → ℕ → ℕ → Left Tried
act ws t eraser node = erase_ports (part ws eraser node) t (name ws eraser) (next (principal node)) (less (arity ws node))

-- an eraser has no aux ports; "14 comes before a slot is taken"
unfoldable pub erase : List ℕ → ℕ → ℕ → ℕ → Left Tried
erase ws t eraser node =
    if_eq (arity ws eraser) 1 (pick (spent ws) (record { is = Refused 14; ws = ws }) (act ws t eraser node)) (record { is = Passed; ws = ws })
