-- Each way out of the walk over the tables.
use Rattle.std.specs.Prelude.{ℕ, ◌≡◌, List, length, Option, Some, None}
use Rattle.std.proofs.Math.Path.{sym, ap}
use Rattle.std.proofs.Common.{◌∙◌, arith}
use Rattle.std.proofs.Math.Decide.{dec_lt}
use Rattle.net_file.specs.Values.{Name}
use Rattle.net_file.specs.Read.{Parser, ◌>>=◌, give, number, many, read_rule}
use Rattle.fields.specs.Fields.{be16, be32}
use Rattle.stored.specs.Stored.{name_count_at, rule_count_at}
use Rattle.stored.specs.Laws.{in_4}
use Rattle.stored.specs.Body.{paths_at, names_at, paths_counted}
use Rattle.walk.specs.After.{after, after_past, after_bind, after_go, after_bad, after_map, went}
use Rattle.walk.specs.Room.{needs_number, needs_first, after_short}
use Rattle.tables.specs.Tables.{read_path_table, read_name_table, stands_path_table}
use Rattle.tables.specs.Whole.{Parsed, read_tables, stands_names}

-- the places of the name count and of the net count
unfoldable pub tables_at : List ℕ → Option ℕ → Option (ℕ × ℕ)
tables_at s (Some q) = Some (name_count_at s, q)
tables_at s None = None

module _ (s : List ℕ) where
  -- what follows the limit, the paths, the names
  abbrev after_limit : ℕ → Parser Parsed
  after_limit l =
      read_path_table >>= λ ps. read_name_table (length ps) >>= λ ms. many 2 64 (read_rule (length ps)) >>= λ rs.
      give (record { limit = l; paths = ps; names = ms; rules = rs })

  abbrev after_paths : ℕ → List (List ℕ) → Parser Parsed
  after_paths l ps =
      read_name_table (length ps) >>= λ ms. many 2 64 (read_rule (length ps)) >>= λ rs. give (record { limit = l; paths = ps; names = ms; rules = rs })

  abbrev after_names : ℕ → List (List ℕ) → List Name → Parser Parsed
  after_names l ps ms = many 2 64 (read_rule (length ps)) >>= λ rs. give (record { limit = l; paths = ps; names = ms; rules = rs })

  past_limit : after 5 read_tables s ≡ after 9 (after_limit (be32 s 5)) s
  unfolding read_tables
  past_limit = elim (dec_lt (length s) 9) [
    | yes l ↦ sym (after_short s 5 (needs_first after_limit (needs_number 4)) l) ∙ after_past (after_limit (be32 s 5)) s 9 l
    | no l ↦ after_bind (number 4) after_limit s 5 (be32 s 5) 9 (omega arith) (in_4 s 5 (omega arith)) (omega arith)
  ]

  module _ (p : Option ℕ) (ep : p ≡ after 9 read_path_table s) where
    pub tables_paths : p ≡ None → None ≡ tables_at s (after 5 read_tables s)
    unfolding tables_at
    tables_paths b = ap (tables_at s) (after_bad read_path_table (after_paths (be32 s 5)) s 9 p ep b ∙ sym past_limit)

    module _ (m np : ℕ) (pa : p ≡ Some m) (enp : np ≡ be16 s 9) (n : Option ℕ) (en : n ≡ after m (read_name_table np) s) where
      past_paths : after 5 read_tables s ≡ after m (after_paths (be32 s 5) (paths_at s)) s
      past_paths = past_limit ∙ after_go read_path_table (after_paths (be32 s 5)) s 9 (paths_at s) (name_count_at s) m p (stands_path_table s) ep pa

      names_counted : n ≡ after m (read_name_table (length (paths_at s))) s
      names_counted = en ∙ ap (λ k. after m (read_name_table k) s) (enp ∙ sym (paths_counted s))

      at_names : m ≡ name_count_at s
      at_names = let y = went p m (stands_path_table s) ep pa in y.is

      pub tables_names : n ≡ None → None ≡ tables_at s (after 5 read_tables s)
      unfolding tables_at
      tables_names b =
          ap (tables_at s) (after_bad (read_name_table (length (paths_at s))) (after_names (be32 s 5) (paths_at s)) s m n names_counted b ∙ sym past_paths)

      module _ (r : ℕ) (na : n ≡ Some r) (t : Option ℕ) (et : t ≡ after r (many 2 64 (read_rule np)) s) where
        past_names : after 5 read_tables s ≡ after r (after_names (be32 s 5) (paths_at s) (names_at s)) s
        past_names =
            past_paths ∙ after_go (read_name_table (length (paths_at s))) (after_names (be32 s 5) (paths_at s)) s m (names_at s) (rule_count_at s) r n
            (rw (← at_names) at (stands_names s)) names_counted na

        whole : after 5 read_tables s ≡ t
        whole =
            past_names ∙ after_map (many 2 64 (read_rule (length (paths_at s)))) _ s r
            ∙ sym (et ∙ ap (λ k. after r (many 2 64 (read_rule k)) s) (enp ∙ sym (paths_counted s)))

        pub tables_rules : t ≡ None → None ≡ tables_at s (after 5 read_tables s)
        unfolding tables_at
        tables_rules b = ap (tables_at s) (sym (whole ∙ b))

        pub tables_all : (q : ℕ) → t ≡ Some q → Some (m, q) ≡ tables_at s (after 5 read_tables s)
        unfolding tables_at
        tables_all q b = ap (λ x. Some (x, q)) at_names ∙ ap (tables_at s) (sym (whole ∙ b))

-- the ways out with a table missing, for the check of the walk
pub ruleset ways = (tables_paths, tables_names)
