-- Waits on the words: engine.rs, `await_net`, `finish_edit_net`. Level Words.
use Rattle.std.specs.Prelude.{ℕ, zero, suc, List, get_or}
use Rattle.words.specs.Choose.{if_eq}
use Rattle.words.specs.Left.{Left}
use Rattle.layout.specs.Layout.{net_word_words, set_net_word, node_word, wait_word, set_wait_word}
use Rattle.graph.specs.Graph.{mark_dirty_words, more, fewer}
use Rattle.pools.specs.Pools.{take_wait, give_wait}
use Rattle.waits.specs.declared.Awaited.{Awaited}
use Rattle.waits.specs.declared.Awaited.TheVariants.{Ready, Waiting, Full}

-- wait c is the last of net m's
unfoldable pub append_wait : List ℕ → ℕ → ℕ → List ℕ
append_wait ws m c =
    let p = net_word_words ws m 9 in
    let w = set_wait_word ws c 2 0 in
    if_eq p 0 (set_net_word (set_net_word w m 8 c) m 9 c) (set_net_word (set_wait_word w p 2 c) m 9 c)

-- wait c on net m is node n's: its net has one more pending
unfoldable pub waiting : List ℕ → ℕ → ℕ → ℕ → List ℕ
waiting ws m n c =
    let t = node_word ws n 0 in
    more (append_wait (set_wait_word (set_wait_word ws c 0 n) c 1 t) m c) t

-- node n waits on net m, unless that is at 0; full "while all waits together are W"
unfoldable pub await_net_words : List ℕ → ℕ → ℕ → Left Awaited
await_net_words ws m n =
    let s = take_wait ws in
    if_eq (net_word_words ws m 7) 0 (record { is = Ready; ws = ws })
    (if_eq s.is 0 (record { is = Full; ws = s.ws }) (record { is = Waiting; ws = waiting s.ws m n s.is }))

-- net t's waits, taken from it, in front of the rest: the first of all
unfoldable pub take_waits : List ℕ → ℕ → ℕ → Left ℕ
take_waits ws t rest =
    let first = net_word_words ws t 8 in
    if_eq first 0 (record { is = rest; ws = ws })
    (record { is = first; ws = set_net_word (set_net_word (set_wait_word ws (net_word_words ws t 9) 2 rest) t 8 0) t 9 0 })

-- "its node, if that slot still holds a node of that net, becomes dirty"
unfoldable pub wake : List ℕ → ℕ → ℕ → List ℕ
wake ws n t = if_eq (node_word ws n 0) t (mark_dirty_words ws n) ws

-- where net t is at 0 its own waits come before the rest: "a net thereby at 0 answers its own before the next"
unfoldable pub next_wait : List ℕ → ℕ → ℕ → Left ℕ
next_wait ws t rest = if_eq (net_word_words ws t 7) 0 (take_waits ws t rest) (record { is = rest; ws = ws })

-- node n of net t waits no more
unfoldable pub settle : List ℕ → ℕ → ℕ → ℕ → Left ℕ
settle ws n t rest = next_wait (fewer (wake ws n t) t) t rest

-- wait c is answered; the wait to answer next
unfoldable pub answer : List ℕ → ℕ → Left ℕ
answer ws c = settle (give_wait ws c) (wait_word ws c 0) (wait_word ws c 1) (wait_word ws c 2)

-- wait c and those after it, "oldest first", at most k
unfoldable pub answer_all : List ℕ → ℕ → ℕ → List ℕ
answer_all ws c zero = ws
answer_all ws c (suc k) =
    let a = answer ws c in
    let rest = answer_all a.ws a.is k in
    if_eq c 0 ws rest

-- where net t is at 0 its waits are answered
unfoldable pub finish_edit_net_words : List ℕ → ℕ → List ℕ
finish_edit_net_words ws t =
    let a = take_waits ws t 0 in
    if_eq (net_word_words ws t 7) 0 (answer_all a.ws a.is (get_or a.ws 13 0)) ws
