-- A place, or the end where the place is past it; and that each part ends after it begins.
use Rattle.std.specs.Prelude.{ℕ, zero, suc, ◌+◌, ◌*◌, ◌-◌, ◌<◌, ◌≤◌, min, ◌≡◌, refl, List, length}
use Rattle.std.proofs.Common.{sym, ◌∙◌, sub-one, not-suc-le-zero}
use native.Mathlib.Omega.{arith}
use Rattle.std.proofs.Math.Decide.{dec_lt}
use Rattle.words.specs.Choose.{if_lt, lt_yes}
use Rattle.fields.specs.Fields.{be16}
use Rattle.stored.specs.Stored.{table_end, list_end, path_end, name_end, node_end, pair_count_at, node_count_at, flat_net_end}

abbrev pub within : List ℕ → ℕ → ℕ
within s x = min (length s) x

-- k bytes on
abbrev pub on : List ℕ → ℕ → ℕ → ℕ
on s at k = within s (at + k)

-- ---- each part ends after it begins

module _ (s : List ℕ) where
  pub list_past : (at : ℕ) → at < list_end s at
  unfolding list_end
  list_past at = omega arith

  pub list_up : (at : ℕ) → at ≤ list_end s at
  list_up at = omega (arith, list_past at)

  pub path_up : (at : ℕ) → at ≤ path_end s at
  unfolding path_end
  path_up at = omega arith

  pub name_past : (at : ℕ) → at + 10 < name_end s at
  unfolding name_end
  name_past at = list_past (at + 10)

  pub node_past : (at : ℕ) → name_end s at + 2 < node_end s at
  unfolding node_end
  node_past at = list_past (name_end s at + 2)

  pub node_up : (at : ℕ) → at ≤ node_end s at
  node_up at = omega (arith, name_past at, node_past at)

-- a table ends no earlier than it begins
pub table_up : (end : ℕ → ℕ) → ((at : ℕ) → at ≤ end at) → (at n : ℕ) → at ≤ table_end end at n
unfolding table_end
table_up end h at zero = omega arith
table_up end h at (suc n) = omega (arith, h at, table_up end h (end at) n)

module _ (s : List ℕ) (at : ℕ) where
  pub free_past : at + 7 < pair_count_at s at
  unfolding pair_count_at
  free_past = list_past s (at + 7)

  pub pairs_past : pair_count_at s at + 2 ≤ node_count_at s at
  unfolding node_count_at
  pairs_past = omega arith

  pub nodes_past : node_count_at s at + 2 ≤ flat_net_end s at
  unfolding flat_net_end
  nodes_past = table_up (node_end s) (node_up s) (node_count_at s at + 2) (be16 s (node_count_at s at))

  pub net_up : at ≤ flat_net_end s at
  net_up = omega (arith, free_past, pairs_past, nodes_past)

-- ---- where a part begins past the end, or at it, the answer is the end

module _ (s : List ℕ) (at : ℕ) where
  pub name_small : length s ≤ 10 → length s ≡ within s (name_end s at)
  name_small h = omega (arith, name_past s at)

  pub name_none : 10 < length s → length s - 10 ≤ at → length s ≡ within s (name_end s at)
  name_none i h = omega (arith, name_past s at)

  pub name_is : (r : ℕ) → r ≡ within s (list_end s (at + 10)) → r ≡ within s (name_end s at)
  unfolding name_end
  name_is r h = h

  -- a node ends where the wires do that stand after its name
  pub node_is : (e r : ℕ) → e ≡ within s (name_end s at) → r ≡ within s (list_end s (e + 2)) → r ≡ within s (node_end s at)
  unfolding node_end
  node_is e r h g = elim (dec_lt e (length s)) [
    | yes l ↦ let k : e ≡ name_end s at = omega arith in rw k at g
    | no l ↦ omega (arith, list_past s (e + 2), list_past s (name_end s at + 2))
  ]

module _ (s : List ℕ) (e : ℕ) where
  pub wires_small : length s ≤ 2 → length s ≡ within s (list_end s (e + 2))
  wires_small l = omega (arith, list_past s (e + 2))

  pub wires_none : 2 < length s → length s - 2 ≤ e → length s ≡ within s (list_end s (e + 2))
  wires_none i l = omega (arith, list_past s (e + 2))

-- ---- a table of nodes

table_within : (s : List ℕ) (at n : ℕ) → within s (table_end (node_end s) (within s at) n) ≡ within s (table_end (node_end s) at n)
table_within s at n = elim (dec_lt (length s) at) [
  | yes l ↦
      let k : within s at ≡ length s = omega arith in
      rw k (omega (arith, table_up (node_end s) (node_up s) (length s) n, table_up (node_end s) (node_up s) at n))
  | no l ↦ let k : within s at ≡ at = omega arith in rw k
]

pub nodes_more : (s : List ℕ) (at a k x : ℕ) → within s (table_end (node_end s) at k) ≡ x → 0 < k → a ≡ within s (node_end s at)
    → within s (table_end (node_end s) a (k - 1)) ≡ x
unfolding table_end
nodes_more s at a zero x g h e = absurd (not-suc-le-zero h)
nodes_more s at a (suc k) x g h e = rw (sub-one, e) (table_within s (node_end s at) k ∙ g)

nodes_done : (s : List ℕ) (at k x : ℕ) → within s (table_end (node_end s) at k) ≡ x → k ≤ 0 → within s at ≡ x
unfolding table_end
nodes_done s at zero x g h = g
nodes_done s at (suc k) x g h = absurd (not-suc-le-zero h)

pub nodes_in : (s : List ℕ) (at k x : ℕ) → within s (table_end (node_end s) at k) ≡ x → k ≤ 0 → at ≤ length s → at ≡ x
nodes_in s at k x g h l = omega (arith, nodes_done s at k x g h)

pub nodes_out : (s : List ℕ) (at k x : ℕ) → within s (table_end (node_end s) at k) ≡ x → k ≤ 0 → length s < at → length s ≡ x
nodes_out s at k x g h l = omega (arith, nodes_done s at k x g h)

-- ---- a net's counts

module _ (s : List ℕ) (at : ℕ) where
  pub pairs_small : length s ≤ 7 → length s ≡ within s (pair_count_at s at)
  unfolding pair_count_at
  pairs_small h = omega (arith, list_past s (at + 7))

  pub pairs_none : 7 < length s → length s - 7 ≤ at → length s ≡ within s (pair_count_at s at)
  unfolding pair_count_at
  pairs_none i h = omega (arith, list_past s (at + 7))

  pub pairs_is : (r : ℕ) → r ≡ within s (list_end s (at + 7)) → r ≡ within s (pair_count_at s at)
  unfolding pair_count_at
  pairs_is r h = h

  module _ (p : ℕ) (h : p ≡ within s (pair_count_at s at)) where
    pub count_none : length s - p < 2 → length s ≡ within s (node_count_at s at)
    unfolding node_count_at
    count_none l = omega arith

    module _ (k : ℕ) (e : k ≡ be16 s p) (l : 2 ≤ length s - p) where
      same_place : node_count_at s at ≡ p + 2 + 4 * k
      unfolding node_count_at
      same_place = let d : p ≡ pair_count_at s at = omega arith in rw (← d) (omega arith)

      pub count_out : length s - p - 2 < 4 * k → length s ≡ within s (node_count_at s at)
      count_out o = omega (arith, same_place)

      pub count_in : 4 * k ≤ length s - p - 2 → p + 2 + 4 * k ≡ within s (node_count_at s at)
      count_in o = omega (arith, same_place)

  module _ (q : ℕ) (h : q ≡ within s (node_count_at s at)) where
    pub net_none : length s - q < 2 → length s ≡ within s (flat_net_end s at)
    unfolding flat_net_end
    net_none l = omega (arith, table_up (node_end s) (node_up s) (node_count_at s at + 2) (be16 s (node_count_at s at)))

    pub net_is : (r k : ℕ) → 2 ≤ length s - q → k ≡ be16 s q → r ≡ within s (table_end (node_end s) (q + 2) k) → r ≡ within s (flat_net_end s at)
    unfolding flat_net_end
    net_is r k l e g = let d : q ≡ node_count_at s at = omega arith in rw (e, d) at g

-- ---- nets one after another

-- the place after a flat net where another follows: of those that are left, the last one's end is nobody's beginning
unfoldable pub next_net : List ℕ → ℕ → ℕ → ℕ
next_net s at left = if_lt 1 left (within s (flat_net_end s at)) at

pub next_is : (s : List ℕ) (at a k : ℕ) → a ≡ next_net s at (suc (suc k)) → a ≡ within s (flat_net_end s at)
unfolding next_net
next_is s at a k e = e ∙ sym (lt_yes 1 (suc (suc k)) _ _ (omega arith) refl)
