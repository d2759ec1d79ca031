-- The rule commute on the words: common.rs, `commute`. Level Words.
-- Document 01: "Commute joins its copies crosswise, a grid of at most 15 by 15 wires".
use Rattle.std.specs.Prelude.{ℕ, zero, suc, ◌+◌, List, [], ◌∷◌, get_or, set, replicate}
use Rattle.words.specs.Choose.{pick, if_lt}
use Rattle.words.specs.Left.{Left}
use Rattle.layout.specs.Layout.{next, less, principal}
use Rattle.graph.specs.Graph.{link}
use Rattle.edits.specs.Edits.{on_placed, insert_node}
use Rattle.tried.specs.Tries.{spent, arity, name}
use Rattle.tried.specs.declared.Tried.{Tried}
use Rattle.tried.specs.declared.Tried.TheVariants.{Acted, Refused}
use Rattle.erase.specs.Erase.{part}
use Rattle.commute.specs.declared.Side.{Side}

-- k ports from p on
unfoldable pub ports : ℕ → ℕ → List ℕ
ports p zero = []
ports p (suc k) = p ∷ ports (next p) k

-- a row of the grid: the fifteen places for aux ports from p on
unfoldable pub row : ℕ → List ℕ
row p = ports p 15

-- the grid before there is a copy
unfoldable pub blank : List (List ℕ)
blank = replicate 15 (replicate 15 0)

-- the port in row i and column j
abbrev pub cell : List (List ℕ) → ℕ → ℕ → ℕ
cell grid i j = get_or (get_or grid i []) j 0

-- k aux ports of a copy of a, from p on, against the rows from i on in column j
unfoldable pub link_column : List ℕ → List (List ℕ) → ℕ → ℕ → ℕ → ℕ → List ℕ
link_column ws grid p j i zero = ws
link_column ws grid p j i (suc k) = link_column (link ws p (cell grid i j)) grid (next p) j (i + 1) k

-- for each of k aux ports of b, from p and column j on, a copy of a, its aux ports against that column
unfoldable pub copy_across : List ℕ → Side → List (List ℕ) → ℕ → ℕ → ℕ → Left Tried
copy_across ws a grid p j zero = record { is = Acted; ws = ws }
copy_across ws a grid p j (suc k) =
    let e = insert_node ws a.net.0 a.name (next a.count) in
    on_placed e.is
    (λ n. copy_across (link_column (link e.ws p (principal n)) grid (next (principal n)) j 0 a.count) a grid (next p) (j + 1) k)
    (λ r. record { is = Refused r; ws = e.ws })

-- for each of k aux ports of a, from p and row i on, a copy of b, its aux ports that row; then the copies of a
unfoldable pub copy_both : List ℕ → Side → Side → List (List ℕ) → ℕ → ℕ → ℕ → Left Tried
copy_both ws a b grid p i zero = copy_across ws a grid b.aux.0 0 b.count
copy_both ws a b grid p i (suc k) =
    let e = insert_node ws b.net.0 b.name (next b.count) in
    on_placed e.is
    (λ n. copy_both (link e.ws p (principal n)) a b (set grid i (row (next (principal n)))) (next p) (i + 1) k)
    (λ r. record { is = Refused r; ws = e.ws })

-- the number of a node's aux ports, at most fifteen
unfoldable pub aux_count : List ℕ → ℕ → ℕ
aux_count ws n =
    let k = less (arity ws n) in
    if_lt 15 k 15 k

-- what is copied of a node: its net, its name, and where its aux ports stand
unfoldable pub side_of : List ℕ → ℕ → ℕ → Side
side_of ws t n = record { net = record { 0 = t }; name = name ws n; aux = record { 0 = next (principal n) }; count = aux_count ws n }

-- the pair goes, and their copies are joined crosswise; "14 comes before a slot is taken"
unfoldable pub commute : List ℕ → ℕ → ℕ → ℕ → Left Tried
commute ws t a b =
    let x = side_of ws t a in
    pick (spent ws) (record { is = Refused 14; ws = ws }) (copy_both (part ws a b) x (side_of ws t b) blank x.aux.0 0 x.count)
