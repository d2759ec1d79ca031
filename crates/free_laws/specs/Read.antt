-- What the reader of a rule makes sure of: its tag is 1 to 5, and every path that it names is below the number of paths.
use Prim.Native.Nat.{ℕ, zero, suc, ◌<◌}
use Rattle.std.specs.Prelude.{◌≡◌, refl, Bool, true, false, List, [], ◌∷◌, ◌++◌, ltb}
use Rattle.std.proofs.Common.{ap, ◌∙◌, arith, lt-ltb}
use Rattle.std.proofs.Math.Option.{some}
use Rattle.net_file.specs.Lists.{all}
use Rattle.net_file.specs.Values.{Rule}
use Rattle.list_laws.specs.Tests.{both_are}
use Rattle.list_laws.specs.Lists.{all_append}
use Rattle.net_file.specs.Checks.{rule_paths}
use Rattle.net_file.specs.Read.{below, times_from, times, many, read_bit, read_list, read_tagged}
use Rattle.stored.specs.Laws.{some_value, bound}
use Rattle.stored.specs.Pass.{under}

module _ (np : ℕ) where
  abbrev pub Small : List ℕ → Type 0
  Small l = all (λ p. ltb p np) l ≡ true

  below_small : (k : ℕ) (bs : List ℕ) (x : ℕ) (r : List ℕ) → below k np bs ≡ some (x, r) → ltb x np ≡ true
  below_small k bs x r e = lt-ltb x np (under k np x bs r e)

  numbers_small : (n i : ℕ) (bs l r : List ℕ) → times_from (λ j. below 2 np) i n bs ≡ some (l, r) → Small l
  unfolding times_from
  numbers_small zero i bs l r e = rw (← (some_value e).0)
  numbers_small (suc n) i bs l r e =
      let w = bound (below 2 np) _ bs l r e in
      let v = bound (times_from (λ j. below 2 np) (suc i) n) _ w.rest l r w.next in
      rw (← (some_value v.next).0, below_small 2 bs w.value w.rest w.first) (numbers_small n (suc i) w.rest v.value v.rest v.first)

  list_small : (bs l r : List ℕ) → read_list np bs ≡ some (l, r) → Small l
  unfolding read_list many times
  list_small bs l r e =
      let w = bound (below 1 256) (λ n. times_from (λ j. below 2 np) 0 n) bs l r e in
      numbers_small w.value 0 w.rest l r w.next

  -- one list, and another after it
  lists_small : (l bs m r : List ℕ) → Small l → read_list np bs ≡ some (m, r) → Small (l ++ m)
  lists_small l bs m r h e = all_append (λ p. ltb p np) l m ∙ both_are _ _ h (list_small bs m r e)

-- the tag of a rule that was read, and the paths that it names
pub record Ruled (np tag : ℕ) (rule : Rule) : Type 0 where
  pub least : 0 < tag
  pub most : tag < 6
  pub small : Small np (rule_paths rule)

pub tagged : (np tag : ℕ) (bs : List ℕ) (rule : Rule) (r : List ℕ) → read_tagged np tag bs ≡ some (rule, r) → Ruled np tag rule
unfolding read_tagged rule_paths
tagged np zero bs rule r e = let z : ◌≡◌ {A = ℕ} 0 1 = cc in absurd (omega arith)
tagged np (suc zero) bs rule r e =
    let w = bound (below 2 np) _ bs rule r e in
    let v = bound read_bit _ w.rest rule r w.next in
    rw (← (some_value v.next).0) (record { least = omega arith; most = omega arith; small = rw (below_small np 2 bs w.value w.rest w.first) })
tagged np (suc (suc zero)) bs rule r e =
    let w = bound (read_list np) _ bs rule r e in
    rw (← (some_value w.next).0) (record { least = omega arith; most = omega arith; small = list_small np bs w.value w.rest w.first })
tagged np (suc (suc (suc zero))) bs rule r e =
    let w = bound (read_list np) _ bs rule r e in
    let v = bound (read_list np) _ w.rest rule r w.next in
    let h = list_small np bs w.value w.rest w.first in
    rw (← (some_value v.next).0) (record { least = omega arith; most = omega arith; small = lists_small np w.value w.rest v.value v.rest h v.first })
tagged np (suc (suc (suc (suc zero)))) bs rule r e =
    let w = bound (read_list np) _ bs rule r e in
    let v = bound (read_list np) _ w.rest rule r w.next in
    let h = list_small np bs w.value w.rest w.first in
    rw (← (some_value v.next).0) (record { least = omega arith; most = omega arith; small = lists_small np w.value w.rest v.value v.rest h v.first })
tagged np (suc (suc (suc (suc (suc zero))))) bs rule r e =
    let w = bound (read_list np) _ bs rule r e in
    let v = bound (read_list np) _ w.rest rule r w.next in
    let u = bound (read_list np) _ v.rest rule r v.next in
    let h = lists_small np w.value w.rest v.value v.rest (list_small np bs w.value w.rest w.first) v.first in
    rw (← (some_value u.next).0) (record { least = omega arith; most = omega arith; small = lists_small np (w.value ++ v.value) v.rest u.value u.rest h u.first })
tagged np (suc (suc (suc (suc (suc (suc n)))))) bs rule r e = let z : ◌≡◌ {A = ℕ} 0 1 = cc in absurd (omega arith)
