-- What is printed of the optimiser's answer.
use Rattle.std.specs.Prelude.{Option, ℕ, ◌≤◌, ◌≡◌, List, length, take}
use Rattle.std.proofs.Common.{take_all}
use Rattle.net_file.specs.Lists.{refuse}
use Rattle.definitions.specs.Listing.{listing, printed}
use Rattle.stored.specs.Stored.{flat_net_at, flat_net_end}
use Rattle.stored.specs.Body.{body_at}
use Rattle.put.specs.Written.{Written}
use Rattle.lent.specs.declared.Answer.{Answer}
use Rattle.lent.specs.declared.Answer.TheVariants.{Done, Refused}

-- the text of what stands in the result's first n bytes
unfoldable pub listed : List ℕ → ℕ → List ℕ
listed result n = listing (body_at flat_net_at flat_net_end (take n result))

-- on refusal only the number
unfoldable pub said : Answer → List ℕ → List ℕ
said (Done n) result = listed result n
said (Refused r) result = printed (refuse r)

-- all of the result
pub listed_all : (result text w : List ℕ) (n : ℕ) (r : Option ℕ) → length result ≤ n → Written (listing (body_at flat_net_at flat_net_end result)) 0 text w r
    → Written (listed result n) 0 text w r
unfolding listed
listed_all result text w n r h t = rw (take_all n result h) t

module _ (a : Answer) (result text w : List ℕ) (n : ℕ) (r : Option ℕ) where
  pub said_done : a ≡ Done n → Written (listed result n) 0 text w r → Written (said a result) 0 text w r
  unfolding said
  said_done e t = rw e t

  pub said_refused : a ≡ Refused n → Written (printed (refuse n)) 0 text w r → Written (said a result) 0 text w r
  unfolding said
  said_refused e t = rw e t
