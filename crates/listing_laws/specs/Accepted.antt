-- Of an accepted file, what `listing` writes is the text of what was read: document 01's, by the definitions of program netlist.
use Rattle.std.specs.Prelude.{Option, ℕ, ◌≡◌, List}
use Rattle.std.proofs.Common.{sym, ap, ◌∙◌}
use Rattle.net_file.specs.Lists.{ok}
use Rattle.net_file.specs.Values.{FlatNet, File}
use Rattle.net_file.specs.Checks.{flat, read}
use Rattle.definitions.specs.Listing.{listing, printed}
use Rattle.stored.specs.Stored.{flat_net_at, flat_net_end}
use Rattle.stored.specs.Parts.{stands_net}
use Rattle.stored.specs.Body.{body_at}
use Rattle.put.specs.Written.{Written}
use Rattle.readers_laws.specs.Reads.{read_stands}

module _ (s : List ℕ) (f : File FlatNet) (e : read flat s ≡ ok f) where
  pub listing_read : listing (body_at flat_net_at flat_net_end s) ≡ listing f
  listing_read = ap listing (sym (read_stands flat flat_net_at flat_net_end s (stands_net s) f e))

  -- what the function's contract says, for a file that is read
  pub listing_accepted : (out w : List ℕ) (r : Option ℕ) → Written (listing (body_at flat_net_at flat_net_end s)) 0 out w r → Written (printed (read flat s)) 0 out w r
  unfolding printed
  listing_accepted out w r p = rw (e, ← listing_read) p
