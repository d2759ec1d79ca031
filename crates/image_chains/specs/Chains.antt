-- The pools of an image: each place in use is in some list, or once in the chain of the free ones. docs/IMAGE.md, "Node lists", "Slots"
-- and "Waits", lists the same conditions. Level Words. Marks: of slot c - 1 at 16,384 + c, of entry c and of wait c at c.
use Rattle.std.specs.Prelude.{ℕ, ◌+◌, Bool, true, List, get_or, eqb}
use Rattle.words.specs.Left.{Left}
use Rattle.layout.specs.Layout.{less, node_word, entry_word, wait_word}
use Rattle.marks.specs.Tests.{other, most, given}
use Rattle.marks.specs.Marks.{clear, mark, all_met}
use Rattle.marks.specs.Walks.{says, chain}
use Rattle.image_chains.specs.declared.Pool.{Pool}
use Rattle.image_chains.specs.declared.Pool.TheVariants.{Slots, Entries, Waits}

-- how many places were ever used
unfoldable pub used : Pool → List ℕ → ℕ
used Slots ws = get_or ws 9 0
used Entries ws = get_or ws 11 0
used Waits ws = get_or ws 13 0

-- the first of the free ones, 0 where there is none
unfoldable pub first_free : Pool → List ℕ → ℕ
first_free Slots ws = get_or ws 8 0
first_free Entries ws = get_or ws 10 0
first_free Waits ws = get_or ws 12 0

-- the place after place c in the chain
unfoldable pub after : Pool → List ℕ → ℕ → ℕ
after Slots ws c = node_word ws (less c) 4
after Entries ws c = entry_word ws c 1
after Waits ws c = wait_word ws c 2

-- where the mark of place c is
unfoldable pub spot : Pool → ℕ → ℕ
spot Slots c = 16384 + c
spot Entries c = c
spot Waits c = c

-- the mark of the first place
unfoldable pub low : Pool → ℕ
low Slots = 16385
low Entries = 1
low Waits = 1

-- place c is in use and has not been met
unfoldable pub is_new : Pool → List ℕ → List ℕ → ℕ → Bool
is_new p ws marks c = other c 0 (most c (used p ws) (clear marks (spot p c)))

-- a slot holds no node
unfoldable pub vacant : Pool → List ℕ → ℕ → Bool
vacant Slots ws c = eqb (node_word ws (less c) 0) 0
vacant Entries ws c = true
vacant Waits ws c = true

-- place c may be the next of the chain
unfoldable pub is_free : Pool → List ℕ → List ℕ → ℕ → Bool
is_free p ws marks c = given (is_new p ws marks c) (vacant p ws c)

-- place c is met
abbrev pub see : Pool → List ℕ → ℕ → List ℕ
see p marks c = mark marks (spot p c)

-- the free places from c on, at most k
abbrev pub free_hold : Pool → List ℕ → List ℕ → ℕ → ℕ → Left Bool
free_hold p ws marks c k = chain (is_free p ws) (see p) (after p ws) marks c k

-- "every vacant slot once in the free chain", and so each entry and wait: every place in use is in a list, which left its mark, or free
unfoldable pub pool_holds : Pool → List ℕ → List ℕ → Left Bool
pool_holds p ws marks =
    let r = free_hold p ws marks (first_free p ws) (used p ws) in
    says (given r.is (all_met r.ws (low p) (used p ws))) r.ws
