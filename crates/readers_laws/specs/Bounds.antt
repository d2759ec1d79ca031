-- What a flat file that is read keeps to, by index: the counts that code makes room for, and that every number names something that is there.
-- Document 01, refusal 5; `net_file_laws` has the same of whole lists.
use Rattle.std.specs.Prelude.{ℕ, zero, suc, ◌+◌, ◌<◌, ◌≤◌, ◌≡◌, Bool, true, false, ◌&&◌, List, [], ◌∷◌, map, length, get_or, T}
use Rattle.std.proofs.Common.{arith}
use Rattle.net_file.specs.Lists.{ok, all, distinct, eqs, sum, ascend}
use Rattle.net_file.specs.Values.{Name, Rule, FlatNode, FlatNet, File, free_path}
use Rattle.net_file.specs.Checks.{same_name, pairs_ordered, flat, ordered, read}
use Rattle.net_file_laws.specs.Bytes.{Bytes}
use Rattle.net_file_laws.specs.Exact.{Each, EachFrom}
use Rattle.net_file_laws.specs.Parts.{PathFits, NameFits}
use Rattle.net_file_laws.specs.Rules.{ListFits, RuleFits}
use Rattle.net_file_laws.specs.Flat.{PairFits, NodeFits, FlatNetFits}
use Rattle.net_file_laws.specs.Body.{LimitFits, TablesFit}
use Rattle.net_file_laws.specs.RoundTrip.{Spells}
use Rattle.net_file_laws.proofs.RoundTrip.{flat_write_read}
use Rattle.readers_laws.specs.Few.{one_more}

-- ---- of each, the k-th

pub each_get : {A : Type 0} (F : A → Type 0) (xs : List A) (k : ℕ) (d : A) → Each F xs → k < length xs → F (get_or xs k d)
each_get F [] k d h l = absurd (omega arith)
each_get F (x ∷ xs) zero d h l = h.0
each_get F (x ∷ xs) (suc k) d h l = each_get F xs k d h.1 (omega arith)

pub each_from_get : {A : Type 0} (F : ℕ → A → Type 0) (i : ℕ) (xs : List A) (k : ℕ) (d : A) → EachFrom F i xs → k < length xs → F (i + k) (get_or xs k d)
each_from_get F i [] k d h l = absurd (omega arith)
each_from_get F i (x ∷ xs) zero d h l = let e : i + 0 ≡ i = omega arith in rw e h.0
each_from_get F i (x ∷ xs) (suc k) d h l = let e : i + suc k ≡ suc i + k = omega arith in rw e (each_from_get F (suc i) xs k d h.1 (omega arith))

-- ---- the file

pub record FlatBounds (f : File FlatNet) : Type 0 where
  pub limit : LimitFits f.limit
  pub few_paths : length f.paths ≤ 256
  pub few_names : length f.names ≤ 1024
  pub few_rules : length f.rules ≤ 64
  pub few_nets : length f.nets ≤ 256
  pub few_nodes : sum (map (λ (n : FlatNet). length n.nodes) f.nets) ≤ 4096
  pub path : (k : ℕ) (d : List ℕ) → k < length f.paths → PathFits (get_or f.paths k d)
  -- a child is lower than its owner
  pub name : (k : ℕ) (d : Name) → k < length f.names → NameFits (length f.paths) k (get_or f.names k d)
  pub rule : (k : ℕ) (d : Rule) → k < length f.rules → RuleFits (length f.paths) (get_or f.rules k d)
  pub net : (k : ℕ) (d : FlatNet) → k < length f.nets → FlatNetFits (length f.paths) (length f.names) (get_or f.nets k d)

first_of_lem : (a b c d : Bool) → T (a && b && c && d) → T a
first_of_lem true b c d t = tt
first_of_lem false b c d t = t

paths_distinct : (f : File FlatNet) → T (ordered flat f) → T (distinct eqs f.paths)
unfolding ordered
paths_distinct f t =
    first_of_lem (distinct eqs f.paths) (distinct same_name f.names) (ascend (map (λ (n : FlatNet). n.name) f.nets))
    (all (λ (n : FlatNet). pairs_ordered n.pairs) f.nets) t

module _ (s : List ℕ) (b : Bytes s) (f : File FlatNet) (e : read flat s ≡ ok f) where
  spelled : Spells flat FlatNetFits s f
  spelled = flat_write_read s b f e

  fits : TablesFit flat FlatNetFits f
  fits = spelled.fits.tables

  pub read_bounds : FlatBounds f
  read_bounds = record {
    limit = spelled.fits.limit;
    few_paths = one_more free_path 255 f.paths (paths_distinct f spelled.ordered) fits.few_others;
    few_names = fits.few_names;
    few_rules = fits.few_rules;
    few_nets = fits.few_nets;
    few_nodes = fits.few_nodes;
    path = λ k d l. each_get PathFits f.paths k d fits.paths l;
    name = λ k d l. let e : 0 + k ≡ k = omega arith in rw e at (each_from_get (NameFits (length f.paths)) 0 f.names k d fits.names l);
    rule = λ k d l. each_get (RuleFits (length f.paths)) f.rules k d fits.rules l;
    net = λ k d l. each_get (FlatNetFits (length f.paths) (length f.names)) f.nets k d fits.nets l;
  }

-- ---- what fits has parts that fit, by index

pub child_below : (paths c : ℕ) (m : Name) → NameFits paths c m → (j d : ℕ) → j < length m.children → get_or m.children j d < c
child_below paths c m h j d l = each_get (λ i. i < c) m.children j d h.children l

pub listed_below : (paths : ℕ) (ps : List ℕ) → ListFits paths ps → (j d : ℕ) → j < length ps → get_or ps j d < paths
listed_below paths ps h j d l = each_get (λ p. p < paths) ps j d h.inside l

module _ (paths names : ℕ) (n : FlatNet) (h : FlatNetFits paths names n) where
  pub free_below : (j d : ℕ) → j < length n.free → get_or n.free j d < n.wires
  free_below j d l = each_get (λ w. w < n.wires) n.free j d h.free l

  pub pair_below : (j : ℕ) (d : ℕ × ℕ) → j < length n.pairs → PairFits n.wires (get_or n.pairs j d)
  pair_below j d l = each_get (PairFits n.wires) n.pairs j d h.pairs l

  pub node_fits : (k : ℕ) (d : FlatNode) → k < length n.nodes → NodeFits paths names n.wires (get_or n.nodes k d)
  node_fits k d l = each_get (NodeFits paths names n.wires) n.nodes k d h.nodes l

pub aux_below : (paths names wires : ℕ) (n : FlatNode) → NodeFits paths names wires n → (j d : ℕ) → j < length n.aux → get_or n.aux j d < wires
aux_below paths names wires n h j d l = each_get (λ w. w < wires) n.aux j d h.aux l
