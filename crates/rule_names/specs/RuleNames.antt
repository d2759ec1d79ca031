-- Whether a rule names the path of number x, by offsets. What it means on a file that is read is in `free_laws`.
use Rattle.std.specs.Prelude.{ℕ, zero, suc, Bool, false, ◌||◌, List, eqb}
use Rattle.words.specs.Choose.{if_eq, if_lt}
use Rattle.net_file.specs.Lists.{any}
use Rattle.fields.specs.Fields.{byte}
use Rattle.stored.specs.Stored.{list_end}
use Rattle.ends.specs.Ends.{within, on}
use Rattle.ends.specs.Runs.{run}

-- how many lists follow a rule's tag: 1 for tag 2, 2 for tags 3 and 4, 3 for tag 5
unfoldable pub lists_of : ℕ → ℕ
lists_of tag = if_lt tag 2 0 (if_eq tag 2 1 (if_lt tag 5 2 (if_eq tag 5 3 0)))

module _ (s : List ℕ) where
  unfoldable pub list_has : ℕ → ℕ → Bool
  list_has at x = any (eqb x) (run s (on s at 1) (byte s at))

  -- n lists, one after another, and the place after them
  unfoldable pub lists_have : ℕ → ℕ → ℕ → Bool
  lists_have at zero x = false
  lists_have at (suc n) x = list_has at x || lists_have (within s (list_end s at)) n x

  unfoldable pub lists_after : ℕ → ℕ → ℕ
  lists_after at zero = at
  lists_after at (suc n) = lists_after (within s (list_end s at)) n

  -- what follows a rule's tag: a graft's path and its bit, or lists
  unfoldable pub tagged_names : ℕ → ℕ → ℕ → Bool
  tagged_names tag at x = if_eq tag 1 (any (eqb x) (run s at 1)) (lists_have at (lists_of tag) x)

  unfoldable pub tagged_after : ℕ → ℕ → ℕ
  tagged_after tag at = if_eq tag 1 (on s at 3) (lists_after at (lists_of tag))

  unfoldable pub rule_names : ℕ → ℕ → Bool
  rule_names at x = tagged_names (byte s at) (on s at 1) x

  unfoldable pub rule_after : ℕ → ℕ
  rule_after at = tagged_after (byte s at) (on s at 1)

  -- one of n rules names x
  unfoldable pub rules_name : ℕ → ℕ → ℕ → Bool
  rules_name at zero x = false
  rules_name at (suc n) x = rule_names at x || rules_name (rule_after at) n x
