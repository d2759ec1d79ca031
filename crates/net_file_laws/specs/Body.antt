-- All that follows the version: what of a file fits and is therefore read back, over either kind of net.
-- Document 01, "The net file": limit, paths, names, rules, nets, and nothing left over.
use Rattle.std.specs.Prelude.{ℕ, ◌^◌, ◌<◌, ◌≤◌, ◌≡◌, refl, Bool, true, false, not, eqb}
use Rattle.std.proofs.Common.{arith, ◌∙◌, eqb-true}
use Rattle.std.proofs.Math.Path.{sym, ap}
use Rattle.std.proofs.Math.Option.{Option, none, some}
use mathlib.Core.List.{List, [], ◌++◌, map, append_assoc, append-nil}
use Rattle.std.proofs.Math.ListN.{length}
use Rattle.std.proofs.Math.Dec.{leb→le, le→leb}
use Rattle.net_file.specs.Lists.{count, eqs, sum, concat_map}
use Rattle.net_file.specs.Values.{File, free_path, max_steps, no_limit}
use Rattle.net_file.specs.Read.{times_from, read_name, limit_of, paths_fit, nodes_fit, read_body}
use Rattle.net_file.specs.Write.{be, counted, write_path, write_name, write_rule, limit_number, write_body}
use Rattle.net_file.specs.Checks.{Version}
use Rattle.net_file_laws.specs.Exact.{Exact, Whole, whole_as, whole_step, whole_end, exact_such, exact_number, exact_below, Each, EachFrom, exact_times_from, exact_many}
use Rattle.net_file_laws.specs.Parts.{PathFits, exact_path, NameFits, exact_name}
use Rattle.net_file_laws.specs.Rules.{RuleFits, exact_rule}

-- ---- the limit

abbrev pub LimitFits : Option ℕ → Type 0
LimitFits none = Unit {0}
LimitFits (some n) = n ≤ max_steps

pub number_of_limit : (n : ℕ) → limit_number (limit_of n) ≡ n
unfolding limit_number limit_of
number_of_limit n = go (eqb n no_limit) refl
  where
    go : (t : Bool) → eqb n no_limit ≡ t → limit_number (elim t as (λ u. Option ℕ) [ true ↦ none | false ↦ some n ]) ≡ n
    go true e = sym (eqb-true n no_limit e)
    go false e = refl

pub limit_of_number : (l : Option ℕ) → LimitFits l → limit_of (limit_number l) ≡ l
unfolding limit_number limit_of
limit_of_number none h = refl
limit_of_number (some n) h = go (eqb n no_limit) refl
  where
    go : (t : Bool) → eqb n no_limit ≡ t → elim t as (λ u. Option ℕ) [ true ↦ none | false ↦ some n ] ≡ some n
    go true e = absurd (omega (arith, eqb-true n no_limit e))
    go false e = refl

-- a limit that a number of four bytes says
pub record LimitWritten (l : Option ℕ) : Type 0 where
  pub small : limit_number l < 256 ^ 4
  pub same : limit_of (limit_number l) ≡ l

pub limit_written : (l : Option ℕ) → LimitFits l → LimitWritten l
unfolding limit_number
limit_written none h = record { small = omega arith; same = limit_of_number none h }
limit_written (some n) h = record { small = omega arith; same = limit_of_number (some n) h }

-- ---- the tables

-- in the table a child is lower than its owner: the first name has no child, the next has the first alone, and so on
exact_names : (paths n : ℕ) → paths ≤ 65536 → n < 1025
    → Exact (times_from (read_name paths) 0 n) (concat_map write_name) (λ ms. (length ms ≡ n) × EachFrom (NameFits paths) 0 ms)
exact_names paths n hp l = exact_times_from 1025 (λ i h. exact_name paths i hp (omega arith)) 0 n (omega arith)

-- a file with another limit
limited : {Net : Type 0} → File Net → Option ℕ → File Net
limited f l = record { limit = l; paths = f.paths; names = f.names; rules = f.rules; nets = f.nets }

module _ {Net : Type 0} (v : Version Net) where
  unfoldable pub after_version : File Net → List ℕ
  after_version f =
      be 4 (limit_number f.limit) ++ (counted 2 write_path f.paths ++ (counted 2 write_name f.names ++ (counted 2 write_rule f.rules ++ counted 2 v.write_net f.nets)))

  pub body_written : (f : File Net) → write_body v.version v.write_net f ≡ be 1 v.version ++ after_version f
  unfolding write_body after_version
  body_written f = simp append_assoc

-- what the two versions differ in, as far as bytes go: over so many paths and names, the nets that fit and no others are read back
pub record NetLaw {Net : Type 0} (v : Version Net) (NetFits : ℕ → ℕ → Net → Type 0) : Type 0 where
  pub small : v.version < 256
  pub exact : (paths names : ℕ) → paths ≤ 65536 → names ≤ 65536 → Exact (v.read_net paths names) v.write_net (NetFits paths names)

module _ {Net : Type 0} (v : Version Net) (NetFits : ℕ → ℕ → Net → Type 0) where
  -- what refusal 5 leaves, but for the limit
  pub record TablesFit (f : File Net) : Type 0 where
    pub few_paths : length f.paths ≤ 65535
    pub paths : Each PathFits f.paths
    -- besides the free path
    pub few_others : count (λ p. not (eqs free_path p)) f.paths ≤ 255
    pub few_names : length f.names ≤ 1024
    -- a child is lower than its owner
    pub names : EachFrom (NameFits (length f.paths)) 0 f.names
    pub few_rules : length f.rules ≤ 64
    pub rules : Each (RuleFits (length f.paths)) f.rules
    pub few_nets : length f.nets ≤ 256
    pub nets : Each (NetFits (length f.paths) (length f.names)) f.nets
    pub few_nodes : sum (map v.nodes f.nets) ≤ 4096

  module _ (law : NetLaw v NetFits) where
    -- all that follows the version, to the last byte
    pub whole_body : Whole (read_body v.read_net v.nodes) (after_version v) (λ f. LimitWritten f.limit × TablesFit f)
    unfolding read_body after_version paths_fit nodes_fit counted limited
    whole_body =
        whole_as (λ f h. simp (append_assoc, append-nil))
        (λ f h. let t = h.1 in (
          h.0.small,
          (
            (t.few_paths, t.paths),
            (
              (refl, le→leb _ 255 t.few_others),
              (
                omega (arith, t.few_names),
                (
                  (refl, t.names),
                  (
                    (t.few_rules, t.rules),
                    ((t.few_nets, t.nets), ((refl, le→leb _ 4096 t.few_nodes), ap (limited f) (sym h.0.same))),
                  ),
                ),
              ),
            ),
          ),
        ))
        (λ f g. let n : length f.names ≤ 1024 = omega (arith, g.1.1.1.0) in (
          record { small = g.0; same = sym (ap (λ (k : File Net). k.limit) g.1.1.1.1.1.1.1.1) },
          record {
            few_paths = g.1.0.0;
            paths = g.1.0.1;
            few_others = leb→le _ 255 g.1.1.0.1;
            few_names = n;
            names = g.1.1.1.1.0.1;
            few_rules = g.1.1.1.1.1.0.0;
            rules = g.1.1.1.1.1.0.1;
            few_nets = g.1.1.1.1.1.1.0.0;
            nets = g.1.1.1.1.1.1.0.1;
            few_nodes = leb→le _ 4096 g.1.1.1.1.1.1.1.0.1;
          },
        ))
        (whole_step (exact_number 4) (λ (f : File Net). limit_number f.limit)
        (λ l h. whole_step (exact_many exact_path 2 65535 (omega arith)) (λ (f : File Net). f.paths)
        (λ ps hps. whole_step (exact_such (paths_fit ps) ps) (λ (f : File Net). f.paths)
        (λ qs hqs. let hp : length qs ≤ 65536 = omega (arith, hps.0, ap length hqs.0) in
        whole_step (exact_below 2 1025 (omega arith)) (λ (f : File Net). length f.names)
        (λ n hn. whole_step (exact_names (length qs) n hp hn) (λ (f : File Net). f.names)
        (λ ms hms. whole_step (exact_many (exact_rule (length qs) hp) 2 64 (omega arith)) (λ (f : File Net). f.rules)
        (λ rs h. whole_step (exact_many (law.exact (length qs) (length ms) hp (omega (arith, hms.0))) 2 256 (omega arith)) (λ (f : File Net). f.nets)
        (λ ns h. whole_step (exact_such (nodes_fit v.nodes ns) ns) (λ (f : File Net). f.nets)
        (λ ks h. whole_end (record { limit = limit_of l; paths = qs; names = ms; rules = rs; nets = ks }))
        (λ ks h f g. ap (λ (k : File Net). k.nets) g))
        (λ ns h f g. g.0.0))
        (λ rs h f g. ap (λ (k : File Net). k.rules) g.1.1))
        (λ ms h f g. ap (λ (k : File Net). k.names) g.1.1.1))
        (λ n h f g. g.0.0))
        (λ qs h f g. ap (λ (k : File Net). k.paths) g.1.1.1.1.1))
        (λ ps h f g. g.0.0))
        (λ l h f g. ap (λ (k : File Net). limit_number k.limit) g.1.1.1.1.1.1.1 ∙ number_of_limit l))
