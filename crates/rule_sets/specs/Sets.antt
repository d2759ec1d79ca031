-- The rules by path, as words of 64 bits: set k of path p stands at 8 p + k, the place of rule r at 2,048 + r.
-- The sets of a path: 0 the rules that name it in their first list (annihilate, erasers, a), 1 in their second (annihilate, nodes, b),
-- 2 in either, 3 as what they rewrite (graft, combinators), 4 as a value or a nil, 5 as a nil.
use Rattle.std.specs.Prelude.{ℕ, zero, suc, ◌+◌, ◌*◌, ◌/◌, ◌%◌, ◌^◌, Bool, false, List, [], ◌∷◌, ◌==◌, slice_index, slice_set}
use Rattle.net_file.specs.Values.{Rule, graft, annihilate, erase, commute, eta}
use Rattle.words.specs.Choose.{pick, if_lt}
use Rattle.fields.specs.Fields.{byte, be16}
use Rattle.stored.specs.Stored.{list_at, list_end, rule_of, rule_end, rule_count_at}
use Rattle.ends.specs.Ends.{within}
use Rattle.node_names.specs.Names.{path}

-- set k of a path
abbrev pub set_of : List ℕ → ℕ → ℕ → ℕ
set_of sets p k = slice_index sets (8 * p + k)

-- rule r is in a set: its bit is 1
unfoldable pub has : ℕ → ℕ → Bool
has rules r = if_lt r 64 (rules / 2 ^ r % 2 == 1) false

-- the place of rule r in the file
abbrev pub rule_at_words : List ℕ → ℕ → ℕ
rule_at_words sets r = slice_index sets (2048 + r)

-- the bit of rule r
unfoldable pub bit_of : ℕ → ℕ
bit_of r = 2 ^ r % 2 ^ 64

-- rule r, whose bit is b, in set k of a path
unfoldable pub add : List ℕ → ℕ → ℕ → ℕ → ℕ → List ℕ
add sets p k r b = pick (has (set_of sets p k) r) sets (slice_set sets (8 * p + k) ((set_of sets p k + b) % 2 ^ 64))

-- the same for each path of a list
unfoldable pub add_list : List ℕ → ℕ → ℕ → ℕ → List ℕ → List ℕ
add_list sets k r b [] = sets
add_list sets k r b (p ∷ ps) = add_list (add sets p k r b) k r b ps

-- in set k, and in set 2
unfoldable pub add_interaction : List ℕ → ℕ → ℕ → ℕ → List ℕ → List ℕ
add_interaction sets k r b ps = add_list (add_list sets k r b ps) 2 r b ps

-- the two lists of an interaction
unfoldable pub add_pair : List ℕ → ℕ → ℕ → List ℕ → List ℕ → List ℕ
add_pair sets r b ps qs = add_interaction (add_interaction sets 0 r b ps) 1 r b qs

-- combinators, values and nils
unfoldable pub add_eta : List ℕ → ℕ → ℕ → List ℕ → List ℕ → List ℕ → List ℕ
add_eta sets r b cs vs ns = add_list (add_list (add_list (add_list sets 3 r b cs) 4 r b vs) 4 r b ns) 5 r b ns

-- rule r in all sets in which it belongs
unfoldable pub add_rule : List ℕ → ℕ → ℕ → Rule → List ℕ
add_rule sets r b (graft p lazy) = add sets p 3 r b
add_rule sets r b (annihilate ps) = add_pair sets r b ps ps
add_rule sets r b (erase ps qs) = add_pair sets r b ps qs
add_rule sets r b (commute ps qs) = add_pair sets r b ps qs
add_rule sets r b (eta cs vs ns) = add_eta sets r b cs vs ns

module _ (s : List ℕ) where
  -- the rule of a tag, from what stands after it; 0, a tag that no accepted file has, is taken for eta
  unfoldable pub tagged : ℕ → ℕ → Rule
  tagged zero at = eta (list_at s at) (list_at s (list_end s at)) (list_at s (list_end s (list_end s at)))
  tagged (suc n) at = rule_of s (suc n) at

  -- the rule at a place: `ruleAt` wherever the tag is not 0 (`rule-here-is`)
  unfoldable pub rule_here : ℕ → Rule
  rule_here at = tagged (byte s at) (at + 1)

  -- n rules from a place on, of which the first is rule r
  unfoldable pub add_rules : ℕ → ℕ → ℕ → List ℕ → List ℕ
  add_rules at r zero sets = sets
  add_rules at r (suc n) sets = add_rules (within s (rule_end s at)) (r + 1) n (add_rule (slice_set sets (2048 + r) at) r (bit_of r) (rule_here at))

  -- the rules of a file. Of an accepted file, made from 2,112 words 0: `has (set-of sets p k) r` exactly if rule r names path p so,
  -- for each k from 0 to 5 as above, and `ruleAt s (rule-at sets r)` is rule r
  unfoldable pub rule_sets : List ℕ → List ℕ
  rule_sets sets = add_rules (within s (rule_count_at s + 2)) 0 (be16 s (rule_count_at s)) sets

-- rule r names the path of this name as a value or a nil
unfoldable pub value : List ℕ → List ℕ → ℕ → ℕ → Bool
value s sets r name = has (set_of sets (path s name) 4) r

-- rule r names the path of this name as a nil
unfoldable pub nil : List ℕ → List ℕ → ℕ → ℕ → Bool
nil s sets r name = has (set_of sets (path s name) 5) r
