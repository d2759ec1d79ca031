-- The waits of an image. docs/IMAGE.md, "Waits", lists the same conditions. Level Words. Marks: of wait c at c.
use Rattle.std.specs.Prelude.{ℕ, zero, suc, Bool, false, List, get_or, eqb, ltb}
use Rattle.words.specs.Choose.{pick}
use Rattle.words.specs.Left.{Left}
use Rattle.layout.specs.Layout.{node_pool, nets, net_word_words, wait_word}
use Rattle.marks.specs.Tests.{same, other, most, given}
use Rattle.marks.specs.Marks.{mark}
use Rattle.marks.specs.Walks.{says}
use Rattle.image_chains.specs.Chains.{is_new}
use Rattle.image_chains.specs.declared.Pool.TheVariants.{Waits}

-- wait c is that of a slot, and of a net
unfoldable pub wait_holds : List ℕ → ℕ → Bool
wait_holds ws c =
    let t = wait_word ws c 1 in
    other t 0 (most t (nets ws) (ltb (wait_word ws c 0) (node_pool ws)))

-- wait c is in use, has not been met, and is in order
unfoldable pub is_wait : List ℕ → List ℕ → ℕ → Bool
is_wait ws marks c = given (is_new Waits ws marks c) (wait_holds ws c)

-- a walk that has come to wait c, past `last`, is at the end of net t's: c is 0, and `last` its last wait, 0 where it has none
unfoldable pub end_holds : List ℕ → ℕ → ℕ → ℕ → Bool
end_holds ws t c last = same c 0 (eqb last (net_word_words ws t 9))

-- the waits on net t from c on, at most k; the walk ends at the first number that is no wait
unfoldable pub waits_from : List ℕ → List ℕ → ℕ → ℕ → ℕ → ℕ → Left Bool
waits_from ws marks t c last zero = says (end_holds ws t c last) marks
waits_from ws marks t c last (suc k) =
    pick (is_wait ws marks c) (waits_from ws (mark marks c) t (wait_word ws c 2) c k) (says (end_holds ws t c last) marks)

-- net t is at 0 though it has waits on it
unfoldable pub idle : List ℕ → ℕ → Bool
idle ws t = same (net_word_words ws t 7) 0 (ltb 0 (net_word_words ws t 8))

-- "no wait on a net at 0", and the waits on net t are in order
unfoldable pub net_holds : List ℕ → List ℕ → ℕ → Left Bool
net_holds ws marks t = pick (idle ws t) (says false marks) (waits_from ws marks t (net_word_words ws t 8) 0 (get_or ws 13 0))
