-- How a net file is read. Document 01, "The net file", and refusal 5: a field out of range, bytes run out.
-- A parser answers what it read and the bytes left, or none where the file is refused.
use Rattle.std.specs.Prelude.{ℕ, zero, suc, ◌+◌, ◌*◌, Bool, true, false, not, ◌&&◌, List, [], ◌∷◌, map, length, eqb, leb, ltb}
use Rattle.std.proofs.Math.Option.{Option, none, some}
use Rattle.net_file.specs.Lists.{count, eqs, sum}
use Rattle.net_file.specs.Values.{Name, Rule, graft, annihilate, erase, commute, eta, FlatNode, FlatNet, Tree, wire, node, trees, TreeNet, File, free_path, no_limit}

abbrev pub Parser : Type 0 → Type 0
Parser A = List ℕ → Option (A × List ℕ)

abbrev pub then : {A B : Type 0} → Option (A × List ℕ) → (A → Parser B) → Option (B × List ℕ)
then none f = none
then (some r) f = f r.0 r.1

-- one part, and what follows it
infixl 10 ◌>>=◌
abbrev pub ◌>>=◌ : {A B : Type 0} → Parser A → (A → Parser B) → Parser B
◌>>=◌ p f = λ bs. then (p bs) f

abbrev pub give : {A : Type 0} → A → Parser A
give a bs = some (a, bs)

-- a, if the field that it came from is in range
abbrev pub such : {A : Type 0} → Bool → A → Parser A
such true a bs = some (a, bs)
such false a bs = none

unfoldable pub byte : Parser ℕ
byte [] = none
byte (b ∷ bs) = some (b, bs)

-- k bytes, big-endian, after those that made n
unfoldable pub number_from : ℕ → ℕ → Parser ℕ
number_from zero n = give n
number_from (suc k) n = byte >>= λ b. number_from k (n * 256 + b)

unfoldable pub number : ℕ → Parser ℕ
number k = number_from k 0

-- k bytes, a number below n
unfoldable pub below : ℕ → ℕ → Parser ℕ
below k n = number k >>= λ x. such (ltb x n) x

-- n elements, of which each may depend on its place, from place i on
unfoldable pub times_from : {A : Type 0} → (ℕ → Parser A) → ℕ → ℕ → Parser (List A)
times_from p i zero = give []
times_from p i (suc n) = p i >>= λ x. times_from p (suc i) n >>= λ xs. give (x ∷ xs)

unfoldable pub times : {A : Type 0} → ℕ → Parser A → Parser (List A)
times n p = times_from (λ i. p) 0 n

-- a count of k bytes, at most m, then as many
unfoldable pub many : {A : Type 0} → ℕ → ℕ → Parser A → Parser (List A)
many k m p = below k (suc m) >>= λ n. times n p

-- 33 to 126
unfoldable pub read_char : Parser ℕ
read_char = byte >>= λ b. such (leb 33 b && leb b 126) b

unfoldable pub read_path : Parser (List ℕ)
read_path = many 1 64 read_char >>= λ p. such (leb 1 (length p)) p

-- a name over so many paths, with children below c
unfoldable pub read_name : ℕ → ℕ → Parser Name
read_name paths c =
    below 2 paths >>= λ p. number 8 >>= λ y. many 1 8 (below 2 c) >>= λ cs.
    give (record { path = p; payload = y; children = cs })

unfoldable pub read_bit : Parser Bool
read_bit = below 1 2 >>= λ b. give (eqb b 1)

unfoldable pub read_list : ℕ → Parser (List ℕ)
read_list paths = many 1 255 (below 2 paths)

-- a rule after its tag, 1 to 5
unfoldable pub read_tagged : ℕ → ℕ → Parser Rule
read_tagged paths zero = λ bs. none
read_tagged paths (suc zero) = below 2 paths >>= λ p. read_bit >>= λ l. give (graft p l)
read_tagged paths (suc (suc zero)) = read_list paths >>= λ ps. give (annihilate ps)
read_tagged paths (suc (suc (suc zero))) = read_list paths >>= λ es. read_list paths >>= λ ns. give (erase es ns)
read_tagged paths (suc (suc (suc (suc zero)))) = read_list paths >>= λ xs. read_list paths >>= λ ys. give (commute xs ys)
read_tagged paths (suc (suc (suc (suc (suc zero))))) =
    read_list paths >>= λ cs. read_list paths >>= λ vs. read_list paths >>= λ ns. give (eta cs vs ns)
read_tagged paths (suc (suc (suc (suc (suc (suc n)))))) = λ bs. none

unfoldable pub read_rule : ℕ → Parser Rule
read_rule paths = byte >>= λ tag. read_tagged paths tag

unfoldable pub read_node : ℕ → ℕ → ℕ → Parser FlatNode
read_node paths names wires =
    read_name paths names >>= λ m. below 2 wires >>= λ p. many 1 15 (below 2 wires) >>= λ ws.
    give (record { name = m; pri = p; aux = ws })

unfoldable pub read_pair : ℕ → Parser (ℕ × ℕ)
read_pair wires = below 2 wires >>= λ a. below 2 wires >>= λ b. give (a, b)

-- wire counter at most 65,536, every wire below it
unfoldable pub read_flat_net : ℕ → ℕ → Parser FlatNet
read_flat_net paths names =
    below 2 names >>= λ m. read_bit >>= λ i. below 4 65537 >>= λ ws.
    many 1 14 (below 2 ws) >>= λ fs. many 2 65535 (read_pair ws) >>= λ ps. many 2 4096 (read_node paths names ws) >>= λ ns.
    give (record { name = m; included = i; wires = ws; free = fs; pairs = ps; nodes = ns })

unfoldable pub read_wire : ℕ → Parser Tree
read_wire wires = below 2 wires >>= λ w. give (wire w)

-- one reader for the tag 0, and one for 1
unfoldable pub by_tag : {A : Type 0} → ℕ → Parser A → Parser A → Parser A
by_tag zero p q = p
by_tag (suc n) p q = q

-- a tree of at most depth d: a wire is 0 deep, a node one more than its deepest child, 1 if childless
unfoldable pub read_tree : ℕ → ℕ → ℕ → ℕ → Parser Tree
read_tree paths names wires zero = below 1 1 >>= λ tag. read_wire wires
read_tree paths names wires (suc d) = below 1 2 >>= λ tag. by_tag tag (read_wire wires)
    (read_name paths names >>= λ m. many 1 15 (read_tree paths names wires d) >>= λ ts. give (node m (trees ts)))

unfoldable pub read_link : ℕ → ℕ → ℕ → Parser (Tree × Tree)
read_link paths names wires = read_tree paths names wires 64 >>= λ a. read_tree paths names wires 64 >>= λ b. give (a, b)

unfoldable pub read_tree_net : ℕ → ℕ → Parser TreeNet
read_tree_net paths names =
    below 2 names >>= λ m. read_bit >>= λ i. below 4 65537 >>= λ ws.
    many 1 14 (read_tree paths names ws 64) >>= λ fs. many 2 65535 (read_link paths names ws) >>= λ ls.
    give (record { name = m; included = i; wires = ws; free = fs; links = ls })

-- 4,294,967,295 is none
unfoldable pub limit_of : ℕ → Option ℕ
limit_of n = elim (eqb n no_limit) [ true ↦ none | false ↦ some n ]

-- at most 255 paths besides the free one: those that differ from it are counted
unfoldable pub paths_fit : List (List ℕ) → Bool
paths_fit ps = leb (count (λ p. not (eqs free_path p)) ps) 255

-- at most 4,096 nodes a file
unfoldable pub nodes_fit : {Net : Type 0} → (Net → ℕ) → List Net → Bool
nodes_fit nodes ns = leb (sum (map nodes ns)) 4096

-- all that follows the version, to the last byte
unfoldable pub read_body : {Net : Type 0} → (ℕ → ℕ → Parser Net) → (Net → ℕ) → Parser (File Net)
read_body read_net nodes =
    number 4 >>= λ l. many 2 65535 read_path >>= λ ps. such (paths_fit ps) ps >>= λ ps.
    below 2 1025 >>= λ n. times_from (read_name (length ps)) 0 n >>= λ ms. many 2 64 (read_rule (length ps)) >>= λ rs.
    many 2 256 (read_net (length ps) (length ms)) >>= λ ns. such (nodes_fit nodes ns) ns >>= λ ns. λ bs.
    such (eqb (length bs) 0) (record { limit = limit_of l; paths = ps; names = ms; rules = rs; nets = ns }) bs
