-- What is written is read back, and what is read is what was written: document 01, "The net file", both versions.
use Prim.Native.Nat.{ℕ, ◌+◌, ◌^◌, ◌<◌, ◌≤◌}
use Rattle.std.proofs.Common.{arith, ◌∙◌, length-append, length-drop, drop-drop}
use Rattle.std.specs.Prelude.{◌≡◌, ◌↔◌, not, length, drop, T}
use Rattle.std.proofs.Math.Path.{refl, sym, ap}
use mathlib.Core.List.{List, [], ◌++◌}
use Rattle.std.proofs.Math.Seq.{drop_at}
use Rattle.net_file.specs.Lists.{ok}
use Rattle.net_file.specs.Values.{File, FlatNet, TreeNet}
use Rattle.net_file.specs.Read.{read_body}
use Rattle.net_file.specs.Write.{be, limit_number, write_body}
use Rattle.net_file.specs.Checks.{Version, flat, tree, field, ordered, wired, free_named, checked, read, write}
use Rattle.net_file_laws.specs.Bytes.{Bytes, bytes_drop, length_be}
use Rattle.net_file_laws.specs.Flat.{FlatNetFits, exact_flat_net}
use Rattle.net_file_laws.specs.Trees.{TreeNetFits, exact_tree_net}
use Rattle.net_file_laws.specs.Body.{LimitFits, LimitWritten, limit_written, TablesFit, NetLaw, after_version, body_written, whole_body}
use Rattle.net_file_laws.specs.Header.{field_written, field_read, limit_passes, limit_passed, Headed, Accepted, checked_passes, read_passes, read_passed}
use Rattle.net_file_laws.specs.RoundTrip.{FileFits, Spells, read_write, write_read}

-- ---- flat

pub flat_law : NetLaw flat FlatNetFits
flat_law = record { small = omega arith; exact = exact_flat_net }

pub flat_read_write : (f : File FlatNet) → FileFits flat FlatNetFits f → T (ordered flat f) → T (wired flat f) → T (not (free_named flat f))
    → read flat (write flat f) ≡ ok f
flat_read_write = read_write flat FlatNetFits flat_law

pub flat_write_read : (bs : List ℕ) → Bytes bs → (f : File FlatNet) → read flat bs ≡ ok f → Spells flat FlatNetFits bs f
flat_write_read = write_read flat FlatNetFits flat_law

-- ---- tree

pub tree_law : NetLaw tree TreeNetFits
tree_law = record { small = omega arith; exact = exact_tree_net }

pub tree_read_write : (f : File TreeNet) → FileFits tree TreeNetFits f → T (ordered tree f) → T (wired tree f) → T (not (free_named tree f))
    → read tree (write tree f) ≡ ok f
tree_read_write = read_write tree TreeNetFits tree_law

pub tree_write_read : (bs : List ℕ) → Bytes bs → (f : File TreeNet) → read tree bs ≡ ok f → Spells tree TreeNetFits bs f
tree_write_read = write_read tree TreeNetFits tree_law
