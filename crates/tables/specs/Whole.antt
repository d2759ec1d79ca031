-- The tables as one part of a file, and the body as the tables and then the nets.
use Rattle.std.specs.Prelude.{ℕ, ◌≡◌, refl, List, length, eqb}
use Rattle.std.proofs.Common.{◌∙◌}
use Rattle.std.proofs.Math.Path.{fun_ext}
use Rattle.std.proofs.Math.Option.{Option, none, some}
use Rattle.net_file.specs.Values.{Name, Rule, File}
use Rattle.net_file.specs.Read.{Parser, then, ◌>>=◌, give, such, number, below, many, times_from, read_path, read_name, read_rule, limit_of, paths_fit, nodes_fit, read_body}
use Rattle.fields.specs.Fields.{be32}
use Rattle.stored.specs.Stored.{name_at, name_end, rule_at, rule_end, name_count_at, rule_count_at, net_count_at}
use Rattle.stored.specs.Laws.{Stands, stands_bind, stands_give, stands_2, stands_4, stands_times_from, stands_below, stands_many}
use Rattle.stored.specs.Parts.{stands_name, stands_rule}
use Rattle.stored.specs.Body.{paths_at, names_at, rules_at}
use Rattle.tables.specs.Tables.{read_path_table, read_name_table, stands_path_table}

-- what both versions have before their nets
pub record Parsed : Type 0 where
  pub limit : ℕ
  pub paths : List (List ℕ)
  pub names : List Name
  pub rules : List Rule

unfoldable pub read_tables : Parser Parsed
read_tables =
    number 4 >>= λ l. read_path_table >>= λ ps. read_name_table (length ps) >>= λ ms. many 2 64 (read_rule (length ps)) >>= λ rs.
    give (record { limit = l; paths = ps; names = ms; rules = rs })

-- and what comes after
abbrev pub read_nets : {Net : Type 0} → (ℕ → ℕ → Parser Net) → (Net → ℕ) → Parsed → Parser (File Net)
read_nets read_net nodes t =
    many 2 256 (read_net (length t.paths) (length t.names)) >>= λ ns. such (nodes_fit nodes ns) ns >>= λ ns. λ bs.
    such (eqb (length bs) 0) (record { limit = limit_of t.limit; paths = t.paths; names = t.names; rules = t.rules; nets = ns }) bs

-- ---- parts may be grouped either way

assoc : {A B C : Type 0} (p : Parser A) (f : A → Parser B) (g : B → Parser C) → ((p >>= f) >>= g) ≡ (p >>= λ a. f a >>= g)
assoc {A} p f g = fun_ext (λ bs. go (p bs))
  where
    go : (o : Option (A × List ℕ)) → then (then o f) g ≡ then o (λ a. f a >>= g)
    go none = refl
    go (some q) = refl

under : {A B : Type 0} (p : Parser A) {f g : A → Parser B} → ((a : A) → f a ≡ g a) → (p >>= f) ≡ (p >>= g)
under p h = λ i. p >>= λ a. h a i

pub body_parts : {Net : Type 0} (read_net : ℕ → ℕ → Parser Net) (nodes : Net → ℕ) → (read_tables >>= read_nets read_net nodes) ≡ read_body read_net nodes
unfolding read_tables read_path_table read_name_table read_body
body_parts read_net nodes =
    assoc (number 4) _ _ ∙ under (number 4) (λ l.
    assoc (many 2 65535 read_path >>= λ ps. such (paths_fit ps) ps) _ _
    ∙ assoc (many 2 65535 read_path) _ _ ∙ under (many 2 65535 read_path) (λ ps. under (such (paths_fit ps) ps) (λ qs.
    assoc (below 2 1025 >>= λ n. times_from (read_name (length qs)) 0 n) _ _
    ∙ assoc (below 2 1025) _ _ ∙ under (below 2 1025) (λ n. under (times_from (read_name (length qs)) 0 n) (λ ms.
    assoc (many 2 64 (read_rule (length qs))) _ _)))))

-- ---- the tables where they stand

module _ (s : List ℕ) where
  pub stands_names : Stands s (read_name_table (length (paths_at s))) (name_count_at s) (names_at s) (rule_count_at s)
  unfolding read_name_table names_at rule_count_at
  stands_names =
      stands_bind _ (stands_below s 2 1025 _ _ _ (stands_2 s (name_count_at s)))
      (stands_times_from s (read_name (length (paths_at s))) (name_at s) (name_end s) (λ i. stands_name s (length (paths_at s)) i) 0 _ _)

  pub stands_rules : Stands s (many 2 64 (read_rule (length (paths_at s)))) (rule_count_at s) (rules_at s) (net_count_at s)
  unfolding rules_at net_count_at
  stands_rules = stands_many s 2 64 (read_rule (length (paths_at s))) (rule_at s) (rule_end s) _ _ _ (stands_2 s _) (stands_rule s (length (paths_at s)))

  abbrev pub parsed_at : Parsed
  parsed_at = record { limit = be32 s 5; paths = paths_at s; names = names_at s; rules = rules_at s }

  pub stands_tables : Stands s read_tables 5 parsed_at (net_count_at s)
  unfolding read_tables
  stands_tables = stands_bind _ (stands_4 s 5) (stands_bind _ (stands_path_table s) (stands_bind _ stands_names (stands_bind _ stands_rules stands_give)))
