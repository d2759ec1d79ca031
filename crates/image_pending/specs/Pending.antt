-- The pending numbers of an image, and its free waits. docs/IMAGE.md, "Waits" and "Pending numbers", lists the same conditions.
-- Level Words. Marks: of wait c at c. A tally has a word for each net.
use Rattle.std.specs.Prelude.{ℕ, zero, suc, Bool, false, List, get_or, set, replicate, eqb}
use Rattle.words.specs.Choose.{if_eq, pick}
use Rattle.words.specs.Left.{Left}
use Rattle.layout.specs.Layout.{next, nets, net_word_words, node_word, wait_word}
use Rattle.marks.specs.Tests.{each}
use Rattle.marks.specs.Marks.{met}
use Rattle.marks.specs.Walks.{says, each_with}
use Rattle.image_chains.specs.Chains.{pool_holds}
use Rattle.image_chains.specs.declared.Pool.TheVariants.{Waits}
use Rattle.image_waits.specs.Waits.{net_holds}

-- one more for net t
unfoldable pub count : List ℕ → ℕ → List ℕ
count tally t = set tally t (next (get_or tally t 0))

-- a dirty node counts for its net
unfoldable pub count_node : List ℕ → List ℕ → ℕ → List ℕ
count_node ws tally n = if_eq (node_word ws n 2) 1 (count tally (node_word ws n 0)) tally

-- k slots from slot n on
unfoldable pub count_nodes : List ℕ → List ℕ → ℕ → ℕ → List ℕ
count_nodes ws tally n zero = tally
count_nodes ws tally n (suc k) = count_nodes ws (count_node ws tally n) (next n) k

-- a wait that was met counts for the net of its node
unfoldable pub count_wait : List ℕ → List ℕ → List ℕ → ℕ → List ℕ
count_wait ws marks tally c = pick (met marks c) (count tally (wait_word ws c 1)) tally

-- k waits from wait c on
unfoldable pub count_waits : List ℕ → List ℕ → List ℕ → ℕ → ℕ → List ℕ
count_waits ws marks tally c zero = tally
count_waits ws marks tally c (suc k) = count_waits ws marks (count_wait ws marks tally c) (next c) k

-- net t has as many pending as were counted
unfoldable pub count_holds : List ℕ → List ℕ → ℕ → Bool
count_holds ws tally t = eqb (net_word_words ws t 7) (get_or tally t 0)

-- so have all k nets
unfoldable pub counts_hold : List ℕ → List ℕ → ℕ → Bool
counts_hold ws tally k = each (count_holds ws tally) 1 k

-- dirty nodes and waits counted: "A net's pending number is its dirty nodes, its unanswered waits"
unfoldable pub counted : List ℕ → List ℕ → List ℕ → List ℕ
counted ws marks tally = count_waits ws marks (count_nodes ws tally 0 (get_or ws 9 0)) 1 (get_or ws 13 0)

-- the pending numbers agree with them
unfoldable pub pending_from : List ℕ → List ℕ → List ℕ → Left Bool
pending_from ws marks tally = says (counts_hold ws (counted ws marks tally) (nets ws)) (counted ws marks tally)

-- with nothing counted at first
unfoldable pub pending_holds : List ℕ → List ℕ → Bool
pending_holds ws marks = (pending_from ws marks (replicate 257 0)).is

-- pending numbers, then the free waits, where the waits on nets left these marks
unfoldable pub rest_holds : List ℕ → List ℕ → Left Bool
rest_holds ws marks = pick (pending_holds ws marks) (pool_holds Waits ws marks) (says false marks)

-- the waits on nets, and the rest
unfoldable pub all_hold : List ℕ → List ℕ → Left Bool
all_hold ws marks =
    let r = each_with (net_holds ws) marks 1 (nets ws) in
    pick r.is (rest_holds ws r.ws) (says false r.ws)

-- with no mark at first
unfoldable pub waits_hold : List ℕ → Bool
waits_hold ws = (all_hold ws (replicate 4097 0)).is
