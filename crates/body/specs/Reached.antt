-- A body that is read was read part by part: what the checks 6 to 8 start from. For either version.
use Rattle.std.specs.Prelude.{ℕ, suc, ◌+◌, ◌≤◌, ◌≡◌, refl, Bool, true, false, List, drop}
use Rattle.std.proofs.Common.{sym, ◌∙◌, arith}
use Rattle.std.proofs.Math.Path.{ap, subst, subst₂}
use Rattle.std.proofs.Math.Option.{some}
use Rattle.std.proofs.Math.ListN.{length}
use Rattle.net_file.specs.Values.{File}
use Rattle.net_file.specs.Read.{Parser, such, many, times, times_from, read_path, read_name, read_rule, paths_fit, read_body}
use Rattle.fields.specs.Fields.{be16}
use Rattle.stored.specs.Stored.{path_at, path_end, name_at, name_end, rule_at, rule_end, name_count_at, rule_count_at, net_count_at}
use Rattle.stored.specs.Laws.{Stands, stands_2, stands_4, stands_such, stands_times_from, stands_below, stands_many}
use Rattle.stored.specs.Parts.{stands_path, stands_name, stands_rule}
use Rattle.stored.specs.Pass.{pass, under}
use Rattle.stored.specs.Body.{paths_at, names_at, rules_at, nets_at, paths_counted, names_counted}

-- a table: its count is read, and its elements after it
pub record Table {A : Type 0} (s : List ℕ) (p : ℕ → Parser (List A)) (at : ℕ) (v : List A) (most : ℕ) : Type 0 where
  pub few : be16 s at ≤ most
  pub inside : at + 2 ≤ length s
  pub rest : List ℕ
  pub read : p (be16 s at) (drop (at + 2) s) ≡ some (v, rest)

module _ {Net : Type 0} (read_net : ℕ → ℕ → Parser Net) (net_at : List ℕ → ℕ → Net) (net_end : List ℕ → ℕ → ℕ) (s : List ℕ) where
  pub record Reached : Type 0 where
    pub paths : Table s (λ n. times n read_path) 9 (paths_at s) 65535
    pub fit : paths_fit (paths_at s) ≡ true
    pub names : Table s (times_from (read_name (be16 s 9)) 0) (name_count_at s) (names_at s) 1024
    pub rules : Table s (λ n. times n (read_rule (be16 s 9))) (rule_count_at s) (rules_at s) 64
    pub nets : Table s (λ n. times n (read_net (be16 s 9) (be16 s (name_count_at s)))) (net_count_at s) (nets_at net_at net_end s) 256

  -- what a count and then as many say
  counted : {A : Type 0} (p : Parser A) (one : ℕ → A) (end : ℕ → ℕ) (at m : ℕ) (xs : List A) (r : List ℕ) → ((a : ℕ) → Stands s p a (one a) (end a)) → at ≤ length s
      → many 2 m p (drop at s) ≡ some (xs, r) → Table s (λ n. times n p) at xs m
  unfolding many
  counted p one end at m xs r h i g =
      let y = pass (λ n. times n p) xs r (stands_below s 2 (suc m) at _ _ (stands_2 s at)) i g in
      let u = under 2 (suc m) (be16 s at) (drop at s) _ y.first in
      record { few = omega arith; inside = y.inside; rest = r; read = y.next }

  -- a test that was passed
  passed : {A : Type 0} (t : Bool) (a : A) (bs : List ℕ) (x : A) (r : List ℕ) → such t a bs ≡ some (x, r) → t ≡ true
  passed true a bs x r g = refl
  passed false a bs x r g = let z : ◌≡◌ {A = ℕ} 0 1 = cc in absurd (omega arith)

  module _ (nodes : Net → ℕ) (h : (paths names at : ℕ) → Stands s (read_net paths names) at (net_at s at) (net_end s at)) where
    pub reached : (f : File Net) (r : List ℕ) → 5 ≤ length s → read_body read_net nodes (drop 5 s) ≡ some (f, r) → Reached
    unfolding read_body paths_at names_at rules_at nets_at name_count_at rule_count_at net_count_at
    reached f r i g =
        let a = pass _ f r (stands_4 s 5) i g in
        let b = pass _ f r (stands_many s 2 65535 read_path (path_at s) (path_end s) 9 _ _ (stands_2 s 9) (stands_path s)) a.inside a.next in
        let c = pass _ f r (stands_such (paths_fit (paths_at s))) b.inside b.next in
        let d = pass _ f r (stands_below s 2 1025 _ _ _ (stands_2 s _)) c.inside c.next in
        let e = pass _ f r (stands_times_from s (read_name _) (name_at s) (name_end s) (λ j. stands_name s _ j) 0 _ _) d.inside d.next in
        let k = pass _ f r (stands_many s 2 64 (read_rule _) (rule_at s) (rule_end s) _ _ _ (stands_2 s _) (stands_rule s _)) e.inside e.next in
        let m = pass _ f r (stands_many s 2 256 (read_net _ _) (net_at s) (net_end s) _ _ _ (stands_2 s _) (h _ _)) k.inside k.next in
        let u = under 2 1025 (be16 s (name_count_at s)) (drop (name_count_at s) s) _ d.first in
        let np : length (paths_at s) ≡ be16 s 9 = paths_counted s in
        let nm : length (names_at s) ≡ be16 s (name_count_at s) = names_counted s in
        record {
          paths = counted read_path (path_at s) (path_end s) 9 65535 _ _ (stands_path s) a.inside b.first;
          fit = passed (paths_fit (paths_at s)) _ _ _ _ c.first;
          names = record { few = omega arith; inside = d.inside; rest = _; read = ap (λ n. times_from (read_name n) 0 (be16 s (name_count_at s)) (drop (name_count_at s + 2) s)) (sym np) ∙ e.first };
          rules = subst (λ n. Table s (λ j. times j (read_rule n)) (rule_count_at s) (rules_at s) 64) np
              (counted (read_rule (length (paths_at s))) (rule_at s) (rule_end s) _ 64 _ _ (stands_rule s _) e.inside k.first);
          nets = subst₂ (λ n j. Table s (λ i. times i (read_net n j)) (net_count_at s) (nets_at net_at net_end s) 256) np nm
              (counted (read_net (length (paths_at s)) (length (names_at s))) (net_at s) (net_end s) _ 256 _ _ (h _ _) k.inside m.first);
        }
