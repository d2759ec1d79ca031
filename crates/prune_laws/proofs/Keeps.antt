-- Pruning keeps exactly what is reached: of a file that is read, a net stays exactly where its name is reached from the entries.
use Rattle.std.specs.Prelude.{ℕ, ◌<◌, ◌≡◌, ◌↔◌, List, [], ◌∷◌, length, eqb}
use Rattle.std.proofs.Common.{sym, subst, inl, inr}
use Rattle.net_file.specs.Lists.{ok, any}
use Rattle.net_file.specs.Values.{FlatNet, File}
use Rattle.net_file.specs.Checks.{flat, read}
use Rattle.net_file_laws.specs.Bytes.{Bytes}
use Rattle.net_file_laws.proofs.RoundTrip.{flat_write_read}
use Rattle.conversions.specs.Prune.{Reached, join, reach, keep_nets, prune}
use Rattle.prune_laws.specs.Members.{In, tested}
use Rattle.prune_laws.proofs.Exact.{reach_exact}
use Rattle.prune_laws.specs.Below.{next_below}
use Rattle.prune_laws.specs.Accepts.{keep_none, keep_yes, keep_not}
use Rattle.prune_laws.specs.Keeps.{Of, kept_of, of_kept}

-- sound and complete
pub keeps_reached : (bs : List ℕ) → Bytes bs → (f : File FlatNet) → read flat bs ≡ ok f → (i : ℕ) (is : List ℕ) → ((j : ℕ) → In j (i ∷ is) → j < length f.names)
    → (n : FlatNet) → Of n (prune f (i ∷ is)).nets ↔ (Of n f.nets × Reached f (i ∷ is) n.name)
unfolding prune
keeps_reached bs h f e i is b n =
    let seen = reach (length f.names) f (join [] (i ∷ is)) in
    let r = reach_exact f (length f.names) (next_below f (flat_write_read bs h f e).fits.tables) (i ∷ is) b n.name in
    (λ o. let k = kept_of seen n f.nets o in (k.0, r.0 k.1), λ k. of_kept seen n f.nets k.0 (r.1 k.1))
