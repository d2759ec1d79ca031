-- `embed` of the definitions without its state: which wire is a tree's top, how many wires it takes, which nodes it gives, in which order.
-- Document 01 and net.rs: a node takes its number before its children, left to right, and stands before them.
use Rattle.std.specs.Prelude.{ℕ, suc, ◌+◌, ◌≤◌, ◌<◌, ◌≡◌, refl, Bool, true, false, List, [], ◌∷◌, ◌++◌, ltb}
use Rattle.std.proofs.Common.{sym, ap, append_assoc, append-nil, arith, lt-ltb, le-ltb}
use Rattle.std.proofs.Math.Option.{Option, none, some}
use Rattle.std.proofs.Math.Decide.{dec_lt}
use Rattle.net_file.specs.Lists.{ok, refuse}
use Rattle.net_file.specs.Values.{FlatNode, Tree, wire, node, Trees, more}
use Rattle.net_file.specs.Values
use Rattle.net_file.specs.Checks.{nodes_of, nodes_of_all}
use Rattle.conversions.specs.Links.{Links, link}
use Rattle.conversions.specs.Convert.{Made, fresh, up_or, hang, embed, embed_all}

-- a node's principal wire, given or new, where the counter is n; and the counter after it
unfoldable pub given : Option ℕ → ℕ → ℕ
given none n = n
given (some u) n = u

unfoldable pub after : Option ℕ → ℕ → ℕ
after none n = suc n
after (some u) n = n

-- the top wire of a tree
unfoldable pub top_of : Option ℕ → Tree → ℕ → ℕ
top_of up (wire w) n = w
top_of up (node m ts) n = given up n

-- the nodes below its own
unfoldable pub below : Tree → ℕ
below (wire w) = 0
below (node m ts) = nodes_of_all ts

-- how many wires it takes: one for each node, but for one that hangs on a wire
unfoldable pub taken : Option ℕ → Tree → ℕ
taken none t = nodes_of t
taken (some u) t = below t

-- the top wires of trees, one after another
unfoldable pub tops : Trees → ℕ → List ℕ
tops Values.none n = []
tops (more t ts) n = top_of none t n ∷ tops ts (n + nodes_of t)

-- the nodes of a tree, and of trees
unfoldable mutual
  pub flats : Option ℕ → Tree → ℕ → List FlatNode
  flats up (wire w) n = []
  flats up (node m ts) n = record { name = m; pri = given up n; aux = tops ts (after up n) } ∷ flats_all ts (after up n)

  pub flats_all : Trees → ℕ → List FlatNode
  flats_all Values.none n = []
  flats_all (more t ts) n = flats none t n ++ flats_all ts (n + nodes_of t)

-- the links after a tree: a wire that hangs on another is linked with it
unfoldable pub hangs : Option ℕ → Tree → Links → Links
hangs none t l = l
hangs (some u) (wire w) l = link l u w
hangs (some u) (node m ts) l = l

-- the state after a tree, and after trees
abbrev pub grown : Option ℕ → Tree → Made → Made
grown up t s = record { wires = s.wires + taken up t; links = hangs up t s.links; nodes = s.nodes ++ flats up t s.wires }

abbrev pub grown_all : Trees → Made → Made
grown_all ts s = record { wires = s.wires + nodes_of_all ts; links = s.links; nodes = s.nodes ++ flats_all ts s.wires }

-- nothing more
same_wires : (n : ℕ) → n ≡ n + 0
same_wires n = omega arith

-- ---- a node's wire

by_room : (s : Made) {t : Bool} → ltb s.wires 65536 ≡ t
    → fresh s ≡ elim t [ true ↦ ok (s.wires, record { wires = suc s.wires; links = s.links; nodes = s.nodes }) | false ↦ refuse 18 ]
unfolding fresh
by_room s e = ap (λ (t : Bool). elim t [ true ↦ ok (s.wires, record { wires = suc s.wires; links = s.links; nodes = s.nodes }) | false ↦ refuse 18 ]) e

up_fits : (up : Option ℕ) (s : Made) → after up s.wires ≤ 65536
    → up_or up s ≡ ok (given up s.wires, record { wires = after up s.wires; links = s.links; nodes = s.nodes })
unfolding up_or given after
up_fits none s h = by_room s (lt-ltb s.wires 65536 (omega arith))
up_fits (some u) s h = refl

up_over : (s : Made) → 65536 ≤ s.wires → up_or none s ≡ refuse 18
unfolding up_or
up_over s h = by_room s (le-ltb s.wires 65536 h)

-- ---- a tree that fits

mutual
  unfolding embed embed_all hang hangs taken below top_of tops flats flats_all nodes_of nodes_of_all given after

  pub embed_fits : (t : Tree) (up : Option ℕ) (s : Made) → s.wires + taken up t ≤ 65536 → embed t up s ≡ ok (top_of up t s.wires, grown up t s)
  embed_fits (wire w) none s h = λ i. ok (w, record { wires = same_wires s.wires i; links = s.links; nodes = sym (append-nil s.nodes) i })
  embed_fits (wire w) (some u) s h = λ i. ok (w, record { wires = same_wires s.wires i; links = link s.links u w; nodes = sym (append-nil s.nodes) i })
  embed_fits (node m ts) none s h =
      let e : suc s.wires + nodes_of_all ts ≡ s.wires + suc (nodes_of_all ts) = omega arith in
      rw (up_fits none s (omega arith), embed_all_fits ts (record { wires = suc s.wires; links = s.links; nodes = [] }) (omega arith), e)
  embed_fits (node m ts) (some u) s h = rw (up_fits (some u) s (omega arith), embed_all_fits ts (record { wires = s.wires; links = s.links; nodes = [] }) h)

  pub embed_all_fits : (ts : Trees) (s : Made) → s.wires + nodes_of_all ts ≤ 65536 → embed_all ts s ≡ ok (tops ts s.wires, grown_all ts s)
  embed_all_fits Values.none s h = λ i. ok ([], record { wires = same_wires s.wires i; links = s.links; nodes = sym (append-nil s.nodes) i })
  embed_all_fits (more t ts) s h =
      let e : s.wires + nodes_of t + nodes_of_all ts ≡ s.wires + (nodes_of t + nodes_of_all ts) = omega arith in
      rw (embed_fits t none s (omega arith), embed_all_fits ts (record { wires = s.wires + nodes_of t; links = s.links; nodes = s.nodes ++ flats none t s.wires }) (omega arith), e, append_assoc)

-- ---- a tree that needs wire 65,536

mutual
  unfolding embed embed_all hangs taken below nodes_of nodes_of_all given after

  pub embed_over : (t : Tree) (up : Option ℕ) (s : Made) → s.wires ≤ 65536 → 65536 < s.wires + taken up t → embed t up s ≡ refuse 18
  embed_over (wire w) none s l h = absurd (omega arith)
  embed_over (wire w) (some u) s l h = absurd (omega arith)
  embed_over (node m ts) none s l h = elim (dec_lt s.wires 65536) [
    | yes k ↦ rw (up_fits none s (omega arith), embed_all_over ts (record { wires = suc s.wires; links = s.links; nodes = [] }) (omega arith) (omega arith))
    | no k ↦ rw (up_over s (omega arith))
  ]
  embed_over (node m ts) (some u) s l h = rw (up_fits (some u) s (omega arith), embed_all_over ts (record { wires = s.wires; links = s.links; nodes = [] }) l h)

  pub embed_all_over : (ts : Trees) (s : Made) → s.wires ≤ 65536 → 65536 < s.wires + nodes_of_all ts → embed_all ts s ≡ refuse 18
  embed_all_over Values.none s l h = absurd (omega arith)
  embed_all_over (more t ts) s l h = elim (dec_lt 65536 (s.wires + nodes_of t)) [
    | yes k ↦ rw (embed_over t none s l k)
    | no k ↦ rw (embed_fits t none s (omega arith), embed_all_over ts (record { wires = s.wires + nodes_of t; links = s.links; nodes = s.nodes ++ flats none t s.wires }) (omega arith) (omega arith))
  ]
