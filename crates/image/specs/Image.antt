-- The resumable image, on the lent words and bytes. docs/IMAGE.md lists its conditions in plain words. Level Words.
use Rattle.std.specs.Prelude.{ℕ, Bool, List, length, take, is_ok}
use Rattle.net_file.specs.Checks.{flat, read}
use Rattle.net_check.specs.Verdict.{verdict}
use Rattle.layout.specs.Layout.{file_length}
use Rattle.marks.specs.Tests.{most, given}
use Rattle.image_head.specs.Head.{header_holds, steps_hold}
use Rattle.image_nets.specs.Nets.{nets_hold}
use Rattle.image_slots.specs.Slots.{slots_hold}
use Rattle.image_pools.specs.Pools.{pools_hold}
use Rattle.image_dirty.specs.Dirty.{dirty_holds}
use Rattle.image_pending.specs.Pending.{waits_hold}

-- "an accepted file"
unfoldable pub file_holds : List ℕ → Bool
file_holds file = is_ok (verdict (read flat file))

-- slots, lists, the dirty list, the waits
unfoldable pub books_hold : List ℕ → List ℕ → Bool
books_hold ws file = given (slots_hold ws file) (given (pools_hold ws) (given (dirty_holds ws) (waits_hold ws)))

-- the words, for a file that is accepted
unfoldable pub words_hold : List ℕ → List ℕ → Bool
words_hold ws file = given (steps_hold ws file) (given (nets_hold ws file) (books_hold ws file))

-- the words and this file are a run
unfoldable pub held : List ℕ → List ℕ → Bool
held ws file = given (file_holds file) (words_hold ws file)

-- "pools that differ, or a file that does not fit, give 16"
unfoldable pub resumable : ℕ → ℕ → ℕ → List ℕ → List ℕ → Bool
resumable nodes entries waits ws bytes =
    given (header_holds ws nodes entries waits) (most (file_length ws) (length bytes) (held ws (take (file_length ws) bytes)))
