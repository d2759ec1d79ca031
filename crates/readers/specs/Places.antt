-- Where a place past the end is taken for the end, nothing that stands there changes, and no table ends elsewhere.
use Prim.Native.Nat.{ℕ, zero, suc, ◌+◌, ◌-◌, ◌<◌, ◌≤◌}
use Rattle.std.specs.Prelude.{◌≡◌, List, length}
use Rattle.std.proofs.Math.Path.{refl}
use Rattle.std.proofs.Common.{sym, ap, ◌∙◌, sub-one, not-suc-le-zero}
use native.Mathlib.Omega.{arith}
use Rattle.std.proofs.Math.Decide.{dec_lt}
use Rattle.fields.specs.Fields.{byte, be16, be32, be64, byte_past, be16_past, be32_past, be64_past}
use Rattle.stored.specs.Stored.{table_end, list_end, path_end, name_end, rule_of_end, rule_end, node_end, node_count_at, flat_net_end, name_count_at, rule_count_at, net_count_at}
use Rattle.ends.specs.Ends.{within, on, list_up, path_up, name_past, node_up, net_up, table_up}
use Rattle.readers.specs.declared.Part.{Part}
use Rattle.readers.specs.declared.Part.TheVariants.{Path, Name, Rule, Net, Node, PathList}
use Rattle.readers.specs.Readers.{part_end}

-- ---- numbers at a place that may be past the end

-- what is 0 past the end is the same there and at the end
clamped : (f : ℕ → ℕ) (s : List ℕ) → ((x : ℕ) → length s ≤ x → f x ≡ 0) → (x k : ℕ) → f (within s x + k) ≡ f (x + k)
clamped f s past x k = elim (dec_lt (length s) x) [
  | yes l ↦ past (within s x + k) (omega arith) ∙ sym (past (x + k) (omega arith))
  | no l ↦ let e : within s x ≡ x = omega arith in rw e
]

clamped_at : (f : ℕ → ℕ) (s : List ℕ) → ((x : ℕ) → length s ≤ x → f x ≡ 0) → (x a r : ℕ) → a ≡ within s x → r ≡ f a → r ≡ f x
clamped_at f s past x a r e h = elim (dec_lt (length s) x) [
  | yes l ↦ h ∙ past a (omega arith) ∙ sym (past x (omega arith))
  | no l ↦ let d : a ≡ x = omega arith in h ∙ ap f d
]

module _ (s : List ℕ) (x a : ℕ) where
  -- k bytes on
  pub byte_after : (k r : ℕ) → a ≡ within s x → r ≡ byte s (a + k) → r ≡ byte s (x + k)
  byte_after k r e h = h ∙ rw e (clamped (byte s) s (byte_past s) x k)

  pub be16_after : (k r : ℕ) → a ≡ within s x → r ≡ be16 s (a + k) → r ≡ be16 s (x + k)
  be16_after k r e h = h ∙ rw e (clamped (be16 s) s (be16_past s) x k)

  pub byte_clamped : (r : ℕ) → a ≡ within s x → r ≡ byte s a → r ≡ byte s x
  byte_clamped r = clamped_at (byte s) s (byte_past s) x a r

  pub be16_clamped : (r : ℕ) → a ≡ within s x → r ≡ be16 s a → r ≡ be16 s x
  be16_clamped r = clamped_at (be16 s) s (be16_past s) x a r

  pub be32_clamped : (r : ℕ) → a ≡ within s x → r ≡ be32 s a → r ≡ be32 s x
  be32_clamped r = clamped_at (be32 s) s (be32_past s) x a r

  pub be64_clamped : (r : ℕ) → a ≡ within s x → r ≡ be64 s a → r ≡ be64 s x
  be64_clamped r = clamped_at (be64 s) s (be64_past s) x a r

-- ---- each part ends no earlier than it begins

module _ (s : List ℕ) where
  name_up : (at : ℕ) → at ≤ name_end s at
  name_up at = omega (arith, name_past s at)

  rule_of_up : (tag at : ℕ) → at ≤ rule_of_end s tag at
  unfolding rule_of_end
  rule_of_up zero at = omega arith
  rule_of_up (suc zero) at = omega arith
  rule_of_up (suc (suc zero)) at = list_up s at
  rule_of_up (suc (suc (suc zero))) at = omega (arith, list_up s at, list_up s (list_end s at))
  rule_of_up (suc (suc (suc (suc zero)))) at = omega (arith, list_up s at, list_up s (list_end s at))
  rule_of_up (suc (suc (suc (suc (suc n))))) at = omega (arith, list_up s at, list_up s (list_end s at), list_up s (list_end s (list_end s at)))

  rule_up : (at : ℕ) → at ≤ rule_end s at
  unfolding rule_end
  rule_up at = omega (arith, rule_of_up (byte s at) (at + 1))

  pub part_up : (p : Part) (at : ℕ) → at ≤ part_end s p at
  unfolding part_end
  part_up Path = path_up s
  part_up Name = name_up
  part_up Rule = rule_up
  part_up Net = net_up s
  part_up Node = node_up s
  part_up PathList = list_up s

-- ---- tables

-- from past the end, as from the end, all is past the end
pub end_within : (end : ℕ → ℕ) → ((at : ℕ) → at ≤ end at) → (s : List ℕ) (x : ℕ) → within s (end (within s x)) ≡ within s (end x)
end_within end up s x = elim (dec_lt (length s) x) [
  | yes l ↦ let k : within s x ≡ length s = omega arith in rw k (omega (arith, up (length s), up x))
  | no l ↦ let k : within s x ≡ x = omega arith in rw k
]

table_within : (s : List ℕ) (p : Part) (x n : ℕ) → within s (table_end (part_end s p) (within s x) n) ≡ within s (table_end (part_end s p) x n)
table_within s p x n = end_within (λ at. table_end (part_end s p) at n) (λ at. table_up (part_end s p) (part_up s p) at n) s x

-- one turn of the loop, and its end
pub table_more : (s : List ℕ) (p : Part) (at a k x : ℕ) → within s (table_end (part_end s p) at k) ≡ x → 0 < k → a ≡ within s (part_end s p at)
    → within s (table_end (part_end s p) a (k - 1)) ≡ x
unfolding table_end
table_more s p at a zero x g h e = absurd (not-suc-le-zero h)
table_more s p at a (suc k) x g h e = rw (sub-one, e) (table_within s p (part_end s p at) k ∙ g)

pub table_done : (s : List ℕ) (p : Part) (at k x r : ℕ) → within s (table_end (part_end s p) at k) ≡ x → k ≤ 0 → r ≡ on s at 0 → r ≡ x
unfolding table_end
table_done s p at zero x r g h e = omega arith
table_done s p at (suc k) x r g h e = absurd (not-suc-le-zero h)

pub counted_is : (s : List ℕ) (p : Part) (at f n r : ℕ) → f ≡ on s at 2 → r ≡ within s (table_end (part_end s p) f n)
    → r ≡ within s (table_end (part_end s p) (at + 2) n)
counted_is s p at f n r e h = h ∙ rw e (table_within s p (at + 2) n)

-- ---- a rule's end, by its tag

module _ (s : List ℕ) where
  two_lists : (tag at : ℕ) → (tag ≡ 0 → ⊥) → (tag ≡ 1 → ⊥) → (tag ≡ 2 → ⊥) → tag < 5 → rule_of_end s tag at ≡ list_end s (list_end s at)
  unfolding rule_of_end
  two_lists zero at a b c l = absurd (a refl)
  two_lists (suc zero) at a b c l = absurd (b refl)
  two_lists (suc (suc zero)) at a b c l = absurd (c refl)
  two_lists (suc (suc (suc zero))) at a b c l = refl
  two_lists (suc (suc (suc (suc zero)))) at a b c l = refl
  two_lists (suc (suc (suc (suc (suc n))))) at a b c l = absurd (omega arith)

  three_lists : (tag at : ℕ) → 5 ≤ tag → rule_of_end s tag at ≡ list_end s (list_end s (list_end s at))
  unfolding rule_of_end
  three_lists zero at l = absurd (omega arith)
  three_lists (suc zero) at l = absurd (omega arith)
  three_lists (suc (suc zero)) at l = absurd (omega arith)
  three_lists (suc (suc (suc zero))) at l = absurd (omega arith)
  three_lists (suc (suc (suc (suc zero)))) at l = absurd (omega arith)
  three_lists (suc (suc (suc (suc (suc n))))) at l = refl

  -- the end of a list whose own place was taken for the end
  list_on : (x a r : ℕ) → a ≡ within s x → r ≡ within s (list_end s a) → r ≡ within s (list_end s x)
  list_on x a r e h = h ∙ rw e (end_within (list_end s) (list_up s) s x)

module _ (s : List ℕ) (at tag : ℕ) (t : tag ≡ byte s at) where
  pub rule_none : (r : ℕ) → tag ≡ 0 → r ≡ on s at 1 → r ≡ within s (rule_end s at)
  unfolding rule_end rule_of_end
  rule_none r z h = rw (← t, z) h

  pub rule_graft : (r : ℕ) → tag ≡ 1 → r ≡ on s at 4 → r ≡ within s (rule_end s at)
  unfolding rule_end rule_of_end
  rule_graft r z h = rw (← t, z) (omega arith)

  module _ (f a : ℕ) (ef : f ≡ on s at 1) (ea : a ≡ within s (list_end s f)) where
    pub rule_one : tag ≡ 2 → a ≡ within s (rule_end s at)
    unfolding rule_end rule_of_end
    rule_one z = rw (← t, z) (list_on s (at + 1) f a ef ea)

    module _ (b : ℕ) (eb : b ≡ within s (list_end s a)) where
      second : b ≡ within s (list_end s (list_end s (at + 1)))
      second = list_on s (list_end s (at + 1)) a b (list_on s (at + 1) f a ef ea) eb

      pub rule_two : (tag ≡ 0 → ⊥) → (tag ≡ 1 → ⊥) → (tag ≡ 2 → ⊥) → tag < 5 → b ≡ within s (rule_end s at)
      unfolding rule_end
      rule_two x y z l = rw (← t, two_lists s tag (at + 1) x y z l) second

      pub rule_three : (r : ℕ) → 5 ≤ tag → r ≡ within s (list_end s b) → r ≡ within s (rule_end s at)
      unfolding rule_end
      rule_three r l h = rw (← t, three_lists s tag (at + 1) l) (list_on s (list_end s (list_end s (at + 1))) b r second h)

-- ---- a part's end, by its kind

module _ (s : List ℕ) (p : Part) (at r : ℕ) where
  pub path_is : p ≡ Path → r ≡ within s (path_end s at) → r ≡ within s (part_end s p at)
  unfolding part_end
  path_is e h = rw e h

  pub name_is : p ≡ Name → r ≡ within s (name_end s at) → r ≡ within s (part_end s p at)
  unfolding part_end
  name_is e h = rw e h

  pub rule_is : p ≡ Rule → r ≡ within s (rule_end s at) → r ≡ within s (part_end s p at)
  unfolding part_end
  rule_is e h = rw e h

  pub net_is : p ≡ Net → r ≡ within s (flat_net_end s at) → r ≡ within s (part_end s p at)
  unfolding part_end
  net_is e h = rw e h

  pub node_is : p ≡ Node → r ≡ within s (node_end s at) → r ≡ within s (part_end s p at)
  unfolding part_end
  node_is e h = rw e h

  pub list_is : p ≡ PathList → r ≡ within s (list_end s at) → r ≡ within s (part_end s p at)
  unfolding part_end
  list_is e h = rw e h

-- ---- the counts and the places, by what their tables hold

counted_on : (s : List ℕ) (p : Part) (x m n r : ℕ) → m ≡ within s x → r ≡ within s (table_end (part_end s p) (m + 2) n)
    → r ≡ within s (table_end (part_end s p) (x + 2) n)
counted_on s p x m n r e h =
    let d : within s (m + 2) ≡ within s (x + 2) = omega arith in
    h ∙ sym (table_within s p (m + 2) n) ∙ rw d (table_within s p (x + 2) n)

module _ (s : List ℕ) (r : ℕ) where
  pub path_table : (k : ℕ) → r ≡ within s (table_end (part_end s Path) 11 k) → r ≡ within s (table_end (path_end s) 11 k)
  unfolding part_end
  path_table k h = h

  pub name_table : (m k : ℕ) → m ≡ within s (name_count_at s) → r ≡ within s (table_end (part_end s Name) (m + 2) k)
      → r ≡ within s (table_end (name_end s) (name_count_at s + 2) k)
  unfolding part_end
  name_table m k e h = counted_on s Name (name_count_at s) m k r e h

  pub rule_table : (m k : ℕ) → m ≡ within s (rule_count_at s) → r ≡ within s (table_end (part_end s Rule) (m + 2) k)
      → r ≡ within s (table_end (rule_end s) (rule_count_at s + 2) k)
  unfolding part_end
  rule_table m k e h = counted_on s Rule (rule_count_at s) m k r e h

  pub net_table : (m k : ℕ) → m ≡ within s (net_count_at s) → r ≡ within s (table_end (part_end s Net) (m + 2) k)
      → r ≡ within s (table_end (flat_net_end s) (net_count_at s + 2) k)
  unfolding part_end
  net_table m k e h = counted_on s Net (net_count_at s) m k r e h

  pub list_table : (at f k : ℕ) → f ≡ on s at 1 → r ≡ within s (table_end (part_end s PathList) f k) → r ≡ within s (table_end (list_end s) (at + 1) k)
  unfolding part_end
  list_table at f k e h = h ∙ rw e (table_within s PathList (at + 1) k)

  pub node_table : (at m k : ℕ) → m ≡ within s (node_count_at s at) → r ≡ within s (table_end (part_end s Node) (m + 2) k)
      → r ≡ within s (table_end (node_end s) (node_count_at s at + 2) k)
  unfolding part_end
  node_table at m k e h = counted_on s Node (node_count_at s at) m k r e h

  -- where the names' count stands, after the paths; and so on
  pub names_after : (n : ℕ) → n ≡ be16 s 9 → r ≡ within s (table_end (part_end s Path) 11 n) → r ≡ within s (name_count_at s)
  unfolding name_count_at
  names_after n e h = path_table (be16 s 9) (rw e at h)

  pub rules_after : (m n : ℕ) → m ≡ within s (name_count_at s) → n ≡ be16 s m → r ≡ within s (table_end (part_end s Name) (m + 2) n) → r ≡ within s (rule_count_at s)
  unfolding rule_count_at
  rules_after m n e i h = name_table m _ e (rw (be16_clamped s (name_count_at s) m n e i) at h)

  pub nets_after : (m n : ℕ) → m ≡ within s (rule_count_at s) → n ≡ be16 s m → r ≡ within s (table_end (part_end s Rule) (m + 2) n) → r ≡ within s (net_count_at s)
  unfolding net_count_at
  nets_after m n e i h = rule_table m _ e (rw (be16_clamped s (rule_count_at s) m n e i) at h)
