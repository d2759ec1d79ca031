-- What holds of each element of a list.
use Rattle.std.specs.Prelude.{List, [], ◌∷◌, ◌++◌}
use Rattle.net_file_laws.specs.Exact.{Each}

pub each_append : {A : Type 0} (F : A → Type 0) (xs ys : List A) → Each F xs → Each F ys → Each F (xs ++ ys)
each_append F [] ys h g = g
each_append F (x ∷ xs) ys h g = (h.0, each_append F xs ys h.1 g)

-- and so whatever follows from it
pub each_more : {A : Type 0} (F G : A → Type 0) → ((x : A) → F x → G x) → (xs : List A) → Each F xs → Each G xs
each_more F G k [] h = tt
each_more F G k (x ∷ xs) h = (k x h.0, each_more F G k xs h.1)
