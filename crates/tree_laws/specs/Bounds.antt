-- What a tree file that is read keeps to: the counts that code makes room for, and that its trees fit. Document 01, refusal 5.
use Rattle.std.specs.Prelude.{ℕ, ◌≤◌, ◌<◌, ◌≡◌, Bool, true, false, ◌&&◌, List, map, length, get_or, T}
use Rattle.net_file.specs.Lists.{ok, all, distinct, eqs, sum, ascend}
use Rattle.net_file.specs.Values.{TreeNet, File, free_path}
use Rattle.net_file.specs.Checks.{same_name, nodes_of, trees_of, tree, ordered, read}
use Rattle.net_file_laws.specs.Bytes.{Bytes}
use Rattle.net_file_laws.specs.Trees.{TreeNetFits}
use Rattle.net_file_laws.specs.Body.{LimitFits, TablesFit}
use Rattle.net_file_laws.specs.RoundTrip.{Spells}
use Rattle.net_file_laws.proofs.RoundTrip.{tree_write_read}
use Rattle.readers_laws.specs.Few.{one_more}
use Rattle.readers_laws.specs.Bounds.{each_get}

pub record TreeBounds (f : File TreeNet) : Type 0 where
  pub limit : LimitFits f.limit
  pub few_paths : length f.paths ≤ 256
  pub few_names : length f.names ≤ 1024
  pub few_rules : length f.rules ≤ 64
  pub few_nets : length f.nets ≤ 256
  pub few_nodes : sum (map (λ (n : TreeNet). sum (map nodes_of (trees_of n))) f.nets) ≤ 4096
  pub net : (k : ℕ) (d : TreeNet) → k < length f.nets → TreeNetFits (length f.paths) (length f.names) (get_or f.nets k d)

first_of_lem : (a b c d : Bool) → T (a && b && c && d) → T a
first_of_lem true b c d t = tt
first_of_lem false b c d t = t

paths_distinct : (f : File TreeNet) → T (ordered tree f) → T (distinct eqs f.paths)
unfolding ordered
paths_distinct f t =
    first_of_lem (distinct eqs f.paths) (distinct same_name f.names) (ascend (map (λ (n : TreeNet). n.name) f.nets))
    (all (λ (n : TreeNet). true) f.nets) t

module _ (s : List ℕ) (b : Bytes s) (f : File TreeNet) (e : read tree s ≡ ok f) where
  spelled : Spells tree TreeNetFits s f
  spelled = tree_write_read s b f e

  fits : TablesFit tree TreeNetFits f
  fits = spelled.fits.tables

  pub tree_bounds : TreeBounds f
  tree_bounds = record {
    limit = spelled.fits.limit;
    few_paths = one_more free_path 255 f.paths (paths_distinct f spelled.ordered) fits.few_others;
    few_names = fits.few_names;
    few_rules = fits.few_rules;
    few_nets = fits.few_nets;
    few_nodes = fits.few_nodes;
    net = λ k d l. each_get (TreeNetFits (length f.paths) (length f.names)) f.nets k d fits.nets l;
  }
