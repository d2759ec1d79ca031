-- The head of a file in the list of replay_files. Assumes nothing.
use Rattle.std.specs.Prelude.{ℕ, ◌+◌, ◌*◌, List, get_or}

-- the length of the file: four bytes in big-endian, after the call and the expected answer
abbrev pub file_length : List ℕ → ℕ
file_length head = get_or head 2 0 * 16777216 + get_or head 3 0 * 65536 + get_or head 4 0 * 256 + get_or head 5 0
