-- The body is the tables and then the nets: how the walk over it comes out. For either version.
use Rattle.std.specs.Prelude.{ℕ, ◌≡◌, Bool, List, length, eqb, Option, Some, None}
use Rattle.std.proofs.Math.Path.{refl}
use Rattle.std.proofs.Common.{sym, ap, ◌∙◌}
use Rattle.std.proofs.Math.Bool.{true, false}
use Rattle.std.proofs.lemmas.Option.{none-some, some_pair_parts}
use Rattle.net_file.specs.Values.{File}
use Rattle.net_file.specs.Read.{Parser, ◌>>=◌, such, many, nodes_fit, read_body}
use Rattle.fields.specs.Fields.{be16}
use Rattle.stored.specs.Stored.{name_count_at, net_count_at}
use Rattle.stored.specs.Body.{paths_at, names_at, paths_counted, names_counted}
use Rattle.walk.specs.After.{place, after, after_go, after_bad, Same, same_bind, after_same}
use Rattle.tables.specs.Steps.{tables_at}
use Rattle.tables.specs.Whole.{Parsed, read_tables, read_nets, body_parts, stands_tables, parsed_at}
use Rattle.body.specs.Nets.{ended, nets_part}

-- ---- what the walk over the tables says

tables_bad : (s : List ℕ) (w : Option ℕ) → None ≡ tables_at s w → w ≡ None
unfolding tables_at
tables_bad s (Some q) e = absurd (none-some (name_count_at s, q) e)
tables_bad s None e = refl

tables_at_lem : (s : List ℕ) (w : Option ℕ) (m q : ℕ) → Some (m, q) ≡ tables_at s w → (m ≡ name_count_at s) × (w ≡ Some q)
unfolding tables_at
tables_at_lem s (Some p) m q e = let h = some_pair_parts m (name_count_at s) q p e in (h.0, ap Some (sym h.1))
tables_at_lem s None m q e = absurd (none-some (m, q) (sym e))

module _ {Net : Type 0} (read_net : ℕ → ℕ → Parser Net) (nodes : Net → ℕ) (s : List ℕ) where
  parts : after 5 (read_body read_net nodes) s ≡ after 5 (read_tables >>= read_nets read_net nodes) s
  parts = ap (λ (p : Parser (File Net)). after 5 p s) (sym (body_parts read_net nodes))

  pub body_bad : (t : Option (ℕ × ℕ)) → t ≡ tables_at s (after 5 read_tables s) → t ≡ None → None ≡ after 5 (read_body read_net nodes) s
  body_bad t et b = after_bad read_tables (read_nets read_net nodes) s 5 None (sym (tables_bad s _ (sym b ∙ et))) refl ∙ sym parts

  -- whatever is ended, it is ended at the same place
  ended_same : {A B : Type 0} (a : A) (b : B) → Same s (ended a) (ended b)
  unfolding place
  ended_same a b bs = go (eqb (length bs) 0)
    where
      go : (t : Bool) → place s (such t a bs) ≡ place s (such t b bs)
      go true = refl
      go false = refl

  nets_same : (a : Parsed) → Same s (read_nets read_net nodes a) (nets_part (read_net (length a.paths) (length a.names)) nodes)
  unfolding nets_part
  nets_same a = same_bind s (many 2 256 (read_net (length a.paths) (length a.names))) _ _ (λ ns. same_bind s (such (nodes_fit nodes ns) ns) _ _ (λ ms. ended_same _ ms))

  pub body_on : (t : Option (ℕ × ℕ)) (m q np nm : ℕ) (w : Option ℕ) → t ≡ tables_at s (after 5 read_tables s) → t ≡ Some (m, q) → np ≡ be16 s 9 → nm ≡ be16 s m
      → w ≡ after q (nets_part (read_net np nm) nodes) s → w ≡ after 5 (read_body read_net nodes) s
  body_on t m q np nm w et ea enp enm ew =
      let y = tables_at_lem s _ m q (sym ea ∙ et) in
      let p : np ≡ length (paths_at s) = enp ∙ sym (paths_counted s) in
      let n : nm ≡ length (names_at s) = enm ∙ ap (be16 s) y.0 ∙ sym (names_counted s) in
      ew ∙ (λ i. after q (nets_part (read_net (p i) (n i)) nodes) s) ∙ sym (after_same s _ _ q (nets_same (parsed_at s)))
      ∙ sym (parts ∙ after_go read_tables (read_nets read_net nodes) s 5 (parsed_at s) (net_count_at s) q (Some q) (stands_tables s) (sym y.1) refl)

-- every way out, for the check of the walk
pub ruleset ways = (body_bad, body_on)
