-- Each way out of the walks over rules.
use Prim.Native.Nat.{ℕ, zero, suc, ◌+◌, ◌-◌, ◌<◌, ◌≤◌}
use Rattle.std.specs.Prelude.{◌≡◌, List, length, drop, eqb, Option, Some, None}
use Rattle.std.proofs.Math.Path.{refl, sym}
use Rattle.std.proofs.Common.{ap, ◌∙◌, arith}
use Rattle.std.proofs.Math.Option.{none, some}
use Rattle.net_file.specs.Values.{Rule, graft, annihilate, erase, commute, eta}
use Rattle.net_file.specs.Read.{Parser, then, ◌>>=◌, give, number, below, times, many, read_bit, read_list, read_tagged, read_rule}
use Rattle.net_file.specs.Read
use Rattle.fields.specs.Fields.{byte, be16}
use Rattle.stored.specs.Laws.{byte_in, stands_below, stands_2}
use Rattle.stored.specs.Parts.{stands_list, stands_rule}
use Rattle.walk.specs.After.{after, after_past, after_none, after_some, after_bind, after_stop, after_same}
use Rattle.walk.specs.Room.{needs_next, needs_first, needs_below, needs_byte, after_short}
use Rattle.walk.specs.Loops.{times_turn, times_bad, times_done, times_1, times_2, times_3}
use Rattle.walk.specs.Walk.{below_2, below_2_high, bit_in, bit_high}

-- ---- the loops: what stands at a place is known

pub lists_more : (s : List ℕ) (paths at at' n i : ℕ) (r x : Option ℕ) → after at (times (n - i) (read_list paths)) s ≡ x → i < n → r ≡ after at (many 1 255 (below 2 paths)) s → r ≡ Some at'
    → after at' (times (n - (i + 1)) (read_list paths)) s ≡ x
unfolding read_list
lists_more s paths at at' n i r x g h er ea = times_turn (many 1 255 (below 2 paths)) s at at' n i _ _ r x (stands_list s paths at) g h er ea

pub lists_bad : (s : List ℕ) (paths at k : ℕ) (r x : Option ℕ) → after at (times k (read_list paths)) s ≡ x → 0 < k → r ≡ after at (many 1 255 (below 2 paths)) s → r ≡ None → None ≡ x
unfolding read_list
lists_bad s paths at k r x g h er eb = times_bad (many 1 255 (below 2 paths)) s at k r x g h er eb

pub rules_more : (s : List ℕ) (paths at at' n i : ℕ) (r x : Option ℕ) → after at (times (n - i) (read_rule paths)) s ≡ x → i < n → r ≡ after at (read_rule paths) s → r ≡ Some at'
    → after at' (times (n - (i + 1)) (read_rule paths)) s ≡ x
rules_more s paths at at' n i r x g h er ea = times_turn (read_rule paths) s at at' n i _ _ r x (stands_rule s paths at) g h er ea

-- ---- a graft

module _ (s : List ℕ) (at paths : ℕ) where
  -- a graft's mark after its path
  abbrev mark : ℕ → Parser Rule
  mark p = read_bit >>= λ l. give (graft p l)

  pub graft_short : length s < at + 3 → None ≡ after at (read_tagged paths 1) s
  unfolding read_tagged read_bit
  graft_short h = after_short s at (needs_next 2 mark (λ a. stands_below s 2 paths a _ _ (stands_2 s a)) (λ p. needs_first _ (needs_first _ (needs_below 1 2)))) h

  pub graft_path : (p : ℕ) → 3 ≤ length s → at ≤ length s - 3 → p ≡ be16 s at → paths ≤ p → None ≡ after at (read_tagged paths 1) s
  unfolding read_tagged
  graft_path p i h e l = after_stop (below 2 paths) mark s at (omega arith) (below_2_high s paths at (omega arith) (omega arith))

  -- past the path
  on_mark : 3 ≤ length s → at ≤ length s - 3 → be16 s at < paths → after at (read_tagged paths 1) s ≡ after (at + 2) (mark (be16 s at)) s
  unfolding read_tagged
  on_mark i h l = after_bind (below 2 paths) mark s at (be16 s at) (at + 2) (omega arith) (below_2 s paths at (omega arith) l) (omega arith)

  pub graft_mark : (p z : ℕ) → 3 ≤ length s → at ≤ length s - 3 → p ≡ be16 s at → p < paths → z ≡ byte s (at + 2) → 1 < z → None ≡ after at (read_tagged paths 1) s
  graft_mark p z i h e l ez lz =
      after_stop read_bit (λ b. give (graft (be16 s at) b)) s (at + 2) (omega arith) (bit_high s (at + 2) (omega arith) (omega arith)) ∙ sym (on_mark i h (omega arith))

  pub graft_done : (p z : ℕ) → 3 ≤ length s → at ≤ length s - 3 → p ≡ be16 s at → p < paths → z ≡ byte s (at + 2) → z ≤ 1 → Some (at + 3) ≡ after at (read_tagged paths 1) s
  graft_done p z i h e l ez lz =
      let f : at + 2 + 1 ≡ at + 3 = omega arith in
      let b : read_bit (drop (at + 2) s) ≡ some (eqb (byte s (at + 2)) 1, drop (at + 3) s) = rw f at (bit_in s (at + 2) (omega arith) (omega arith)) in
      after_some (mark (be16 s at)) s (at + 2) (graft (be16 s at) (eqb (byte s (at + 2)) 1)) (at + 3) (omega arith)
      (ap (λ o. then o (λ l. give (graft (be16 s at) l))) b) (omega arith)
      ∙ sym (on_mark i h (omega arith))

-- ---- a rule by its tag

module _ (s : List ℕ) (at paths tag : ℕ) (w : Option ℕ) (h : at < length s) (e : tag ≡ byte s at) where
  -- the walk after the tag
  pub tagged : w ≡ after (at + 1) (read_tagged paths tag) s → w ≡ after at (read_rule paths) s
  unfolding read_rule
  tagged ew =
      rw e at ew ∙ sym (after_bind Read.byte (read_tagged paths) s at (byte s at) (at + 1) (omega arith) (byte_in s at h) (omega arith))

  pub tagged_1 : tag ≡ 1 → w ≡ after (at + 1) (read_tagged paths 1) s → w ≡ after at (read_rule paths) s
  tagged_1 t ew = tagged (rw t ew)

  pub tagged_2 : tag ≡ 2 → w ≡ after (at + 1) (times 1 (read_list paths)) s → w ≡ after at (read_rule paths) s
  unfolding read_tagged
  tagged_2 t ew = tagged (rw t (ew ∙ sym (after_same s _ _ (at + 1) (times_1 (read_list paths) s annihilate))))

  pub tagged_3 : tag ≡ 3 → w ≡ after (at + 1) (times 2 (read_list paths)) s → w ≡ after at (read_rule paths) s
  unfolding read_tagged
  tagged_3 t ew = tagged (rw t (ew ∙ sym (after_same s _ _ (at + 1) (times_2 (read_list paths) s erase))))

  pub tagged_4 : tag ≡ 4 → w ≡ after (at + 1) (times 2 (read_list paths)) s → w ≡ after at (read_rule paths) s
  unfolding read_tagged
  tagged_4 t ew = tagged (rw t (ew ∙ sym (after_same s _ _ (at + 1) (times_2 (read_list paths) s commute))))

  pub tagged_5 : tag ≡ 5 → w ≡ after (at + 1) (times 3 (read_list paths)) s → w ≡ after at (read_rule paths) s
  unfolding read_tagged
  tagged_5 t ew = tagged (rw t (ew ∙ sym (after_same s _ _ (at + 1) (times_3 (read_list paths) s eta))))

module _ (s : List ℕ) (at paths : ℕ) where
  pub rule_none : length s ≤ at → None ≡ after at (read_rule paths) s
  unfolding read_rule
  rule_none h = after_short s at (needs_first (read_tagged paths) needs_byte) (omega arith)

  pub tag_none : (tag : ℕ) → at < length s → tag ≡ byte s at → tag ≡ 0 → None ≡ after at (read_rule paths) s
  unfolding read_tagged
  tag_none tag h e t = tagged s at paths tag None h e (rw t (after_none (read_tagged paths 0) s (at + 1) (omega arith) refl))

  no_tag : (tag : ℕ) → 6 ≤ tag → (bs : List ℕ) → read_tagged paths tag bs ≡ none
  unfolding read_tagged
  no_tag zero l bs = absurd (omega arith)
  no_tag (suc zero) l bs = absurd (omega arith)
  no_tag (suc (suc zero)) l bs = absurd (omega arith)
  no_tag (suc (suc (suc zero))) l bs = absurd (omega arith)
  no_tag (suc (suc (suc (suc zero)))) l bs = absurd (omega arith)
  no_tag (suc (suc (suc (suc (suc zero))))) l bs = absurd (omega arith)
  no_tag (suc (suc (suc (suc (suc (suc n)))))) l bs = refl

  pub tag_past : (tag : ℕ) → at < length s → tag ≡ byte s at → 6 ≤ tag → None ≡ after at (read_rule paths) s
  tag_past tag h e l = tagged s at paths tag None h e (after_none (read_tagged paths tag) s (at + 1) (omega arith) (no_tag tag l (drop (at + 1) s)))

-- every way out, for the checks of the walks
pub ruleset ways = (lists_bad, graft_short, graft_path, graft_mark, graft_done, rule_none, tagged_1, tagged_2, tagged_3, tagged_4, tagged_5, tag_none, tag_past, after_past, times_bad, times_done)
