-- The nets of an image. docs/IMAGE.md, "Nets", lists the same conditions. Level Words.
use Rattle.std.specs.Prelude.{ℕ, zero, suc, ◌+◌, Bool, true, false, Option, Some, None, List, get_or, eqb}
use Rattle.words.specs.Choose.{if_eq, pick}
use Rattle.fields.specs.Fields.{byte, be16}
use Rattle.stored.specs.Stored.{flat_net_end, net_count_at}
use Rattle.ends.specs.Ends.{within, on}
use Rattle.layout.specs.Layout.{next, nets, net_by_name, net_word_words, node_word, across, principal}
use Rattle.marks.specs.Tests.{same, below, most, given, each}

-- "free nodes' ports 0 and 1 wired"
unfoldable pub closed : List ℕ → ℕ → Bool
closed ws n = eqb (across ws (principal n)) (next (principal n))

-- node n is a node of net t, has no name, and so many ports
unfoldable pub is_free : List ℕ → ℕ → ℕ → ℕ → Bool
is_free ws t n arity = same (node_word ws n 0) t (same (node_word ws n 1) 0 (eqb (node_word ws n 3) arity))

-- net t's free node: a slot in use that holds it
unfoldable pub free_holds : List ℕ → ℕ → ℕ → Bool
free_holds ws t arity =
    let n = net_word_words ws t 1 in
    below n (get_or ws 9 0) (given (is_free ws t n arity) (closed ws n))

-- net t has this name, and the name this net
unfoldable pub called : List ℕ → ℕ → ℕ → Bool
called ws t name = same (net_word_words ws t 0) name (eqb (net_by_name ws name) t)

-- net t is the net at a place of the file: its name, and "2 more ports than its free ports"
unfoldable pub net_holds : List ℕ → List ℕ → ℕ → ℕ → Bool
net_holds ws file t at = given (called ws t (be16 file at)) (free_holds ws t (2 + byte file (at + 7)))

-- a net's number: nets count from 1
unfoldable pub numbered : ℕ → Option ℕ
numbered t = if_eq t 0 None (Some t)

-- the number after net t, where the net at a place is included and is net t; t, where it is not included; none, where all is not well
unfoldable pub after_net : List ℕ → List ℕ → ℕ → ℕ → Option ℕ
after_net ws file t at = if_eq (byte file (at + 2)) 1 (pick (net_holds ws file t at) (numbered (next t)) None) (numbered t)

-- there is a number, and the rest
abbrev pub known : Option ℕ → (ℕ → Bool) → Bool
known None rest = false
known (Some u) rest = rest u

-- there are t - 1 nets
unfoldable pub counted : List ℕ → ℕ → Bool
counted ws t = eqb t (next (nets ws))

-- of the file's k nets from a place on, the included ones are net t and those after it, and there are no others
unfoldable pub included_hold : List ℕ → List ℕ → ℕ → ℕ → ℕ → Bool
included_hold ws file at t zero = counted ws t
included_hold ws file at t (suc k) = known (after_net ws file t at) (λ u. included_hold ws file (within file (flat_net_end file at)) u k)

-- a name has no net, or a net of this name
unfoldable pub name_holds : List ℕ → ℕ → Bool
name_holds ws name =
    let t = net_by_name ws name in
    if_eq t 0 true (most t (nets ws) (eqb (net_word_words ws t 0) name))

-- all 1,024 names
unfoldable pub names_hold : List ℕ → Bool
names_hold ws = each (name_holds ws) 0 1024

-- the nets are the file's included nets, in its order
unfoldable pub nets_hold : List ℕ → List ℕ → Bool
nets_hold ws file =
    let at = within file (net_count_at file) in
    given (included_hold ws file (on file at 2) 1 (be16 file at)) (names_hold ws)
