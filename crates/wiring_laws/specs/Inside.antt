-- Every wire of a net that is read is below the net's counter, and that is at most 65,536.
use Prim.Native.Nat.{ℕ, zero, suc, ◌<◌, ◌≤◌}
use Rattle.std.specs.Prelude.{◌≡◌}
use Rattle.std.proofs.Math.Option.{some}
use mathlib.Core.List.{List, [], ◌∷◌, ◌++◌}
use Rattle.std.proofs.Common.{arith}
use Rattle.net_file.specs.Lists.{concat_map}
use Rattle.net_file.specs.Values.{FlatNet}
use Rattle.net_file.specs.Read.{Parser, ◌>>=◌, give, below, times_from, times, many, read_bit, read_name, read_node, read_pair, read_flat_net}
use Rattle.net_file.specs.Checks.{pair_wires}
use Rattle.stored.specs.Laws.{some_value, bound}
use Rattle.stored.specs.Pass.{under}
use Rattle.tally.specs.Tally.{Inside, inside_append}

-- ---- lists

-- a fact of each element
abbrev pub Each : {A : Type 0} → (A → Type 0) → List A → Type 0
Each P [] = Unit {0}
Each P (x ∷ xs) = P x × Each P xs

inside_each : (n : ℕ) (ws : List ℕ) → Each (λ w. w < n) ws → Inside n ws
inside_each n [] h = tt
inside_each n (w ∷ ws) h = (h.0, inside_each n ws h.1)

inside_concat : {A : Type 0} (n : ℕ) (f : A → List ℕ) (xs : List A) → Each (λ x. Inside n (f x)) xs → Inside n (concat_map f xs)
inside_concat n f [] h = tt
inside_concat n f (x ∷ xs) h = inside_append n (f x) (concat_map f xs) h.0 (inside_concat n f xs h.1)

-- ---- readers

-- whatever p reads is so
abbrev Reads : {A : Type 0} → Parser A → (A → Type 0) → Type 0
Reads {A} p P = (bs : List ℕ) (x : A) (r : List ℕ) → p bs ≡ some (x, r) → P x

give_reads : {A : Type 0} (P : A → Type 0) (a : A) → P a → Reads (give a) P
give_reads P a h bs x r e = rw (some_value e).0 at h

below_reads : (k n : ℕ) → Reads (below k n) (λ w. w < n)
below_reads k n bs x r e = under k n x bs r e

-- the second part, where the first is so
bind_reads : {A B : Type 0} (p : Parser A) (f : A → Parser B) (P : A → Type 0) (Q : B → Type 0) → Reads p P → ((a : A) → P a → Reads (f a) Q) → Reads (p >>= f) Q
bind_reads p f P Q h g bs x r e = let b = bound p f bs x r e in g b.value (h bs b.value b.rest b.first) b.rest x r b.next

any_reads : {A : Type 0} (p : Parser A) → Reads p (λ x. Unit {0})
any_reads p bs x r e = tt

module _ {A : Type 0} (p : Parser A) (P : A → Type 0) (h : Reads p P) where
  times_reads : (n i : ℕ) → Reads (times_from (λ j. p) i n) (Each P)
  unfolding times_from
  times_reads zero i = give_reads (Each P) [] tt
  times_reads (suc n) i =
      bind_reads p _ P (Each P) h (λ x k.
      bind_reads (times_from (λ j. p) (suc i) n) _ (Each P) (Each P) (times_reads n (suc i)) (λ xs l.
      give_reads (Each P) (x ∷ xs) (k, l)))

  many_reads : (k m : ℕ) → Reads (many k m p) (Each P)
  unfolding many times
  many_reads k m = bind_reads (below k (suc m)) _ (λ n. Unit {0}) (Each P) (any_reads (below k (suc m))) (λ n u. times_reads n 0)

-- ---- a net

module _ (b : ℕ) where
  pair_reads : Reads (read_pair b) (λ p. Inside b (p.0 ∷ p.1 ∷ []))
  unfolding read_pair
  pair_reads =
      bind_reads (below 2 b) _ (λ w. w < b) _ (below_reads 2 b) (λ x h.
      bind_reads (below 2 b) _ (λ w. w < b) _ (below_reads 2 b) (λ y k.
      give_reads _ (x, y) (h, (k, tt))))

  node_reads : (paths names : ℕ) → Reads (read_node paths names b) (λ m. Inside b (m.pri ∷ m.aux))
  unfolding read_node
  node_reads paths names =
      bind_reads (read_name paths names) _ (λ x. Unit {0}) _ (any_reads (read_name paths names)) (λ m u.
      bind_reads (below 2 b) _ (λ w. w < b) _ (below_reads 2 b) (λ p h.
      bind_reads (many 1 15 (below 2 b)) _ (Each (λ w. w < b)) _ (many_reads (below 2 b) (λ w. w < b) (below_reads 2 b) 1 15) (λ ws k.
      give_reads _ (record { name = m; pri = p; aux = ws }) (h, inside_each b ws k))))

-- the wires of a net, place by place, and its counter
pub record Wires (x : FlatNet) : Type 0 where
  pub frees : Inside x.wires x.free
  pub paired : Inside x.wires (pair_wires x.pairs)
  pub noded : Inside x.wires (concat_map (λ m. m.pri ∷ m.aux) x.nodes)
  pub counter : x.wires ≤ 65536

pub net_reads : (paths names : ℕ) → Reads (read_flat_net paths names) Wires
unfolding read_flat_net pair_wires
net_reads paths names =
    bind_reads (below 2 names) _ (λ x. Unit {0}) _ (any_reads (below 2 names)) (λ m u.
    bind_reads read_bit _ (λ x. Unit {0}) _ (any_reads read_bit) (λ i u.
    bind_reads (below 4 65537) _ (λ b. b < 65537) _ (below_reads 4 65537) (λ b l.
    bind_reads (many 1 14 (below 2 b)) _ (Each (λ w. w < b)) _ (many_reads (below 2 b) (λ w. w < b) (below_reads 2 b) 1 14) (λ fs f.
    bind_reads (many 2 65535 (read_pair b)) _ (Each (λ p. Inside b (p.0 ∷ p.1 ∷ []))) _ (many_reads (read_pair b) _ (pair_reads b) 2 65535) (λ ps g.
    bind_reads (many 2 4096 (read_node paths names b)) _ (Each (λ y. Inside b (y.pri ∷ y.aux))) _ (many_reads (read_node paths names b) _ (node_reads b paths names) 2 4096) (λ ns h.
    give_reads Wires (record { name = m; included = i; wires = b; free = fs; pairs = ps; nodes = ns }) (record {
      frees = inside_each b fs f;
      paired = inside_concat b (λ x'. x'.0 ∷ x'.1 ∷ []) ps g;
      noded = inside_concat b (λ x'. x'.pri ∷ x'.aux) ns h;
      counter = omega arith;
    })))))))
