-- The places of names and nets by name number, and the sorted names, as the code makes them. What they mean is in `reach_laws`.
use Rattle.std.specs.Prelude.{ℕ, zero, suc, ◌+◌, List, get_or, set}
use Rattle.words.specs.Choose.{pick}
use Rattle.fields.specs.Fields.{be16}
use Rattle.stored.specs.Stored.{name_end, flat_net_end}
use Rattle.ends.specs.Ends.{within}
use Rattle.repeats.specs.declared.Item.TheVariants.{Name}
use Rattle.repeats.specs.Repeats.{size_of, search, known, insert}

-- names sorted by their bytes: the places, and the numbers beside them
pub record Sorted : Type 0 where
  pub places : List ℕ
  pub numbers : List ℕ

module _ (s : List ℕ) where
  -- the places of k names from `at` on, the first of them by the number i
  unfoldable pub name_places : List ℕ → ℕ → ℕ → ℕ → List ℕ
  name_places l at i zero = l
  name_places l at i (suc k) = name_places (set l i at) (within s (name_end s at)) (i + 1) k

  -- the places of k nets from `at` on, each by the number of its name
  unfoldable pub net_places : List ℕ → ℕ → ℕ → List ℕ
  net_places l at zero = l
  net_places l at (suc k) = net_places (set l (be16 s at) at) (within s (flat_net_end s at)) k

  -- k names more, the first of them by the number m
  unfoldable pub sort_from : List ℕ → Sorted → ℕ → ℕ → Sorted
  sort_from names t m zero = t
  sort_from names t m (suc k) =
      let at = get_or names m 0 in
      let p = search s t.places m at (size_of s Name at) in
      sort_from names (record { places = insert t.places m p at; numbers = insert t.numbers m p m }) (m + 1) k

  unfoldable pub sorted_part : List ℕ → List ℕ → List ℕ → ℕ → List ℕ
  sorted_part names l ns n = (sort_from names (record { places = l; numbers = ns }) 0 n).places

  unfoldable pub number_part : List ℕ → List ℕ → List ℕ → ℕ → List ℕ
  number_part names l ns n = (sort_from names (record { places = l; numbers = ns }) 0 n).numbers

  -- the number of the name at `at`, of m names sorted; 1,024 where it is none of them
  unfoldable pub find : List ℕ → List ℕ → ℕ → ℕ → ℕ
  find l ns m at =
      let z = size_of s Name at in
      let p = search s l m at z in
      pick (known s l m p at z) (get_or ns p 0) 1024
