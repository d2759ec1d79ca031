-- Pruning keeps exactly what is reached: of a file that is read, a net stays exactly where its name is reached from the entries.
use Rattle.std.specs.Prelude.{ℕ, ◌<◌, ◌≡◌, ◌↔◌, List, [], ◌∷◌, length, eqb}
use Rattle.std.proofs.Common.{sym, subst, inl, inr}
use Rattle.net_file.specs.Lists.{ok, any}
use Rattle.net_file.specs.Values.{FlatNet, File}
use Rattle.net_file.specs.Checks.{flat, read}
use Rattle.net_file_laws.specs.Bytes.{Bytes}
use Rattle.net_file_laws.proofs.RoundTrip.{flat_write_read}
use Rattle.conversions.specs.Prune.{Reached, join, reach, keep_nets, prune}
use Rattle.prune_laws.specs.Members.{In, tested}
use Rattle.prune_laws.specs.Below.{next_below}
use Rattle.prune_laws.specs.Accepts.{keep_none, keep_yes, keep_not}

-- a net of a list
pub data Of (n : FlatNet) : List FlatNet → Type 0 where
  first : {ns : List FlatNet} → Of n (n ∷ ns)
  later : {m : FlatNet} {ns : List FlatNet} → Of n ns → Of n (m ∷ ns)

pub none_of : (n : FlatNet) {X : Type 0} → Of n [] → X
none_of n = elim [ ]

pub first_of_lem : (seen : List ℕ) (n m : FlatNet) (ns ks : List FlatNet) → In m.name seen → Of n (m ∷ ks) → (Of n ks → Of n ns × In n.name seen) → Of n (m ∷ ns) × In n.name seen
first_of_lem seen n m ns ks e first k = (first, e)
first_of_lem seen n m ns ks e (later q) k = let r = k q in (later r.0, r.1)

-- those that stay are nets of the list whose names were seen
pub kept_of : (seen : List ℕ) (n : FlatNet) (ns : List FlatNet) → Of n (keep_nets seen ns) → Of n ns × In n.name seen
kept_of seen n [] o = none_of n (subst (Of n) (keep_none seen) o)
kept_of seen n (m ∷ ns) o = elim (tested (any (eqb m.name) seen)) [
  | inl e ↦ first_of_lem seen n m ns (keep_nets seen ns) e (subst (Of n) (keep_yes seen m ns e) o) (kept_of seen n ns)
  | inr e ↦ let r = kept_of seen n ns (subst (Of n) (keep_not seen m ns e) o) in (later r.0, r.1)
]

pub of_kept : (seen : List ℕ) (n : FlatNet) (ns : List FlatNet) → Of n ns → In n.name seen → Of n (keep_nets seen ns)
of_kept seen n (m ∷ ns) first h = subst (Of n) (sym (keep_yes seen n ns h)) first
of_kept seen n (m ∷ ns) (later o) h = elim (tested (any (eqb m.name) seen)) [
  | inl e ↦ subst (Of n) (sym (keep_yes seen m ns e)) (later (of_kept seen n ns o h))
  | inr e ↦ subst (Of n) (sym (keep_not seen m ns e)) (of_kept seen n ns o h)
]
of_kept seen n [] x'' h = elim x'' [ ]
