-- The wires of a flat net of an accepted file are below 65,536, and its pairs in order.
use Rattle.std.specs.Prelude.{ℕ, ◌≤◌, ◌<◌, ◌&&◌, ◌≡◌, refl, List, [], ◌∷◌, ◌++◌, map, T}
use Rattle.std.proofs.Common.{ap, arith}
use Rattle.net_file.specs.Lists.{all, distinct, eqs, ascend, concat_map}
use Rattle.net_file.specs.Values.{FlatNode, FlatNet, File}
use Rattle.net_file.specs.Checks.{flat, same_name, ordered, pairs_ordered}
use Rattle.net_file_laws.specs.Exact.{Each}
use Rattle.net_file_laws.specs.Parts.{each_of}
use Rattle.net_file_laws.specs.Flat.{FlatNetFits}
use Rattle.net_file_laws.specs.RoundTrip.{Spells}
use Rattle.wire_marks.specs.Canonical.{Ordered, ordered_pairs}

-- its pairs are in order, its wires below 65,536
pub record Low (n : FlatNet) : Type 0 where
  pub pairs : Ordered n.pairs
  pub free : Each (λ w. w < 65536) n.free
  pub nodes : Each (λ (m : FlatNode). (m.pri < 65536) × Each (λ w. w < 65536) m.aux) n.nodes

-- what fits under a number fits under a greater
each_as : {A : Type 0} {F G : A → Type 0} → ((a : A) → F a → G a) → (l : List A) → Each F l → Each G l
each_as h [] e = tt
each_as h (x ∷ l) e = (h x e.0, each_as h l e.1)

low : (paths names : ℕ) (n : FlatNet) → FlatNetFits paths names n → T (pairs_ordered n.pairs) → Low n
low paths names n f o =
    let l = f.wires in
    record {
      pairs = ordered_pairs n.pairs o (each_as (λ p h. omega (arith, h.1)) n.pairs f.pairs);
      free = each_as (λ w h. omega arith) n.free f.free;
      nodes = each_as (λ m h. (omega (arith, h.pri), each_as (λ w k. omega arith) m.aux h.aux)) n.nodes f.nodes;
    }

lows : (paths names : ℕ) (ns : List FlatNet) → Each (FlatNetFits paths names) ns → T (all (λ n. pairs_ordered n.pairs) ns) → Each Low ns
lows paths names [] f o = tt
lows paths names (n ∷ ns) f o = let x = each_of (pairs_ordered n.pairs) _ o in (low paths names n f.0 x.0, lows paths names ns f.1 x.1)

-- of a file that is read
pub file_low : (s : List ℕ) (x : File FlatNet) → Spells flat FlatNetFits s x → Each Low x.nets
unfolding ordered
file_low s x p =
    let o = (each_of (distinct eqs x.paths && distinct same_name x.names && ascend (map (λ (n : FlatNet). n.name) x.nets)) _ p.ordered).1 in
    lows _ _ x.nets p.fits.tables.nets o

-- two ways to name wires that agree below 65,536
pub map_same : (c d : ℕ → ℕ) (e : (w : ℕ) → w < 65536 → c w ≡ d w) {B : Type 0} (f : ℕ → B) (l : List ℕ) → Each (λ w. w < 65536) l → map (λ w. f (c w)) l ≡ map (λ w. f (d w)) l
map_same c d e f [] h = refl
map_same c d e f (w ∷ l) h = λ i. f (e w h.0 i) ∷ map_same c d e f l h.1 i

-- what is written of each after it was changed
pub concat_map_lem : {A B : Type 0} (f : B → List ℕ) (g : A → B) (l : List A) → concat_map (λ x. f (g x)) l ≡ concat_map f (map g l)
concat_map_lem f g [] = refl
concat_map_lem f g (x ∷ l) = ap (λ t. f (g x) ++ t) (concat_map_lem f g l)
