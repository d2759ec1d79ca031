-- An accepted file's length is a word: the header's word 4, which begin writes, is the length.
use Rattle.std.specs.Prelude.{ℕ, ◌+◌, ◌%◌, ◌<◌, ◌≤◌, ◌≡◌, List, ◌++◌, length}
use Rattle.std.proofs.Common.{sym, ap, ◌∙◌, arith, length-append}
use Rattle.net_file.specs.Lists.{ok}
use Rattle.net_file.specs.Values.{FlatNet, File}
use Rattle.net_file.specs.Write.{be, counted, write_flat_net, write_body}
use Rattle.net_file.specs.Checks.{flat, read, write}
use Rattle.net_file_laws.specs.Bytes.{Bytes}
use Rattle.net_file_laws.specs.Flat.{FlatNetFits}
use Rattle.net_file_laws.proofs.RoundTrip.{flat_write_read}
use Rattle.size_laws.specs.Parts.{be_length, counted_size}
use Rattle.size_laws.proofs.Parts.{flat_net_size}
use Rattle.size_laws.proofs.Files.{body_size}

-- less than 135 million bytes
pub file_short : (s : List ℕ) → Bytes s → (f : File FlatNet) → read flat s ≡ ok f → length s < 135000000
unfolding write
file_short s is f e =
    let w = flat_write_read s is f e in
    let t = w.fits.tables in
    let b = write_body flat.version flat.write_net f in
    let nets = counted_size write_flat_net (FlatNetFits (length f.paths) (length f.names)) 507940 (flat_net_size (length f.paths) (length f.names)) 2 256 f.nets t.few_nets t.nets in
    let l : length s ≡ 4 + length b = ap (λ (x : List ℕ). length x) (sym w.bytes) ∙ length-append (be 4 (length b)) b ∙ ap (λ n. n + length b) (be_length 4 (length b)) in
    omega (arith, body_size flat FlatNetFits f t 130032642 nets)

pub length_word : (s : List ℕ) → Bytes s → (f : File FlatNet) → read flat s ≡ ok f → length s % 4294967296 ≡ length s
length_word s is f e = omega (arith, file_short s is f e)
