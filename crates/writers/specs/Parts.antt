-- What the writers' contracts are stated by, beyond net_file: a name from its fields.
use Rattle.std.specs.Prelude.{ℕ, List}
use Rattle.net_file.specs.Values.{Name}

abbrev pub name : ℕ → ℕ → List ℕ → Name
name path payload children = record { path = path; payload = payload; children = children }
