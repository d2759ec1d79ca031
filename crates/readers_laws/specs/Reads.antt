-- A file that is read is what stands in its bytes; and the parser of each rule has read at the rule's place.
use Prim.Native.Nat.{ℕ, zero, suc, ◌+◌, ◌<◌, ◌≤◌}
use Rattle.std.proofs.Math.Path.{◌≡◌}
use Rattle.std.proofs.Math.Option.{some}
use Rattle.std.specs.Prelude.{List, length, drop}
use native.Mathlib.Omega.{arith}
use Rattle.net_file.specs.Lists.{ok}
use Rattle.net_file.specs.Values.{File}
use Rattle.net_file.specs.Read.{Parser, ◌>>=◌, times_from, times, many, read_path, read_name, read_tagged, read_rule, paths_fit, read_body}
use Rattle.net_file.specs.Checks.{Version, read}
use Rattle.net_file_laws.specs.Header.{Accepted, read_passed}
use Rattle.fields.specs.Fields.{byte, be16}
use Rattle.stored.specs.Stored.{table_end, path_at, path_end, name_at, name_end, rule_at, rule_end, name_count_at, rule_count_at}
use Rattle.stored.specs.Laws.{Stands, bound, stands_byte, stands_2, stands_4, stands_such, stands_below, stands_many, stands_times_from}
use Rattle.stored.specs.Pass.{pass}
use Rattle.stored.specs.Parts.{stands_path, stands_name, stands_rule}
use Rattle.stored.specs.Body.{paths_at, body_at, body_end, stands_body}

-- ---- p reads something at a place

pub record Runs {A : Type 0} (s : List ℕ) (p : Parser A) (at : ℕ) : Type 0 where
  pub value : A
  pub rest : List ℕ
  pub inside : at ≤ length s
  pub reads : p (drop at s) ≡ some (value, rest)

module _ {s : List ℕ} where
  runs_first : {A B : Type 0} {p : Parser A} (f : A → Parser B) {at : ℕ} → Runs s (p >>= f) at → Runs s p at
  runs_first {p = p} f {at = at} r =
      let w = bound p f (drop at s) r.value r.rest r.reads in
      record { value = w.value; rest = w.rest; inside = r.inside; reads = w.first }

  runs_next : {A B : Type 0} {p : Parser A} (f : A → Parser B) {at : ℕ} {a : A} {m : ℕ} → Stands s p at a m → Runs s (p >>= f) at → Runs s (f a) m
  runs_next f h r =
      let w = pass f r.value r.rest h r.inside r.reads in
      record { value = r.value; rest = r.rest; inside = w.inside; reads = w.next }

  -- each of a table
  runs_each : {A : Type 0} (p : ℕ → Parser A) (one : ℕ → A) (end : ℕ → ℕ) → ((i at : ℕ) → Stands s (p i) at (one at) (end at))
      → (i n at : ℕ) → Runs s (times_from p i n) at → (k : ℕ) → k < n → Runs s (p (i + k)) (table_end end at k)
  unfolding times_from table_end
  runs_each p one end h i zero at r k l = absurd (omega arith)
  runs_each p one end h i (suc n) at r zero l = let e : i + 0 ≡ i = omega arith in rw e (runs_first _ r)
  runs_each p one end h i (suc n) at r (suc k) l =
      let e : i + suc k ≡ suc i + k = omega arith in
      rw e (runs_each p one end h (suc i) n (end at) (runs_first _ (runs_next _ (h i at) r)) k (omega arith))

  -- a rule that is read has one of the five tags
  tag_read : (paths tag at : ℕ) → Runs s (read_tagged paths tag) at → (1 ≤ tag) × (tag ≤ 5)
  unfolding read_tagged
  tag_read paths zero at r = let g = r.reads in let z : ◌≡◌ {A = ℕ} 0 1 = cc in absurd (omega arith)
  tag_read paths (suc zero) at r = (omega arith, omega arith)
  tag_read paths (suc (suc zero)) at r = (omega arith, omega arith)
  tag_read paths (suc (suc (suc zero))) at r = (omega arith, omega arith)
  tag_read paths (suc (suc (suc (suc zero)))) at r = (omega arith, omega arith)
  tag_read paths (suc (suc (suc (suc (suc zero))))) at r = (omega arith, omega arith)
  tag_read paths (suc (suc (suc (suc (suc (suc n)))))) at r = let g = r.reads in let z : ◌≡◌ {A = ℕ} 0 1 = cc in absurd (omega arith)

  rule_read : (paths at : ℕ) → Runs s (read_rule paths) at → (1 ≤ byte s at) × (byte s at ≤ 5)
  unfolding read_rule
  rule_read paths at r = tag_read paths (byte s at) (at + 1) (runs_next _ (stands_byte s at) r)

-- ---- the whole file

module _ {Net : Type 0} (v : Version Net) (net_at : List ℕ → ℕ → Net) (net_end : List ℕ → ℕ → ℕ) (s : List ℕ)
    (h : (paths names at : ℕ) → Stands s (v.read_net paths names) at (net_at s at) (net_end s at)) (f : File Net) (e : read v s ≡ ok f) where
  accepted : Accepted v (read_body v.read_net v.nodes (drop 5 s)) f
  accepted = (read_passed v s f e).1

  runs_body : Runs s (read_body v.read_net v.nodes) 5
  runs_body = record { value = f; rest = accepted.rest; inside = (read_passed v s f e).0.long; reads = accepted.answer }

  stood : (f ≡ body_at net_at net_end s) × (accepted.rest ≡ drop (body_end net_at net_end s) s) × (5 ≤ body_end net_at net_end s) × (body_end net_at net_end s ≤ length s)
  stood = (stands_body v.read_net v.nodes net_at net_end s h).by f accepted.rest runs_body.inside accepted.answer

  -- what was read is what stands there
  pub read_stands : f ≡ body_at net_at net_end s
  read_stands = stood.0

  -- and ends in the file
  pub read_inside : body_end net_at net_end s ≤ length s
  read_inside = stood.3

  runs_rules : Runs s (many 2 64 (read_rule (length (paths_at s)))) (rule_count_at s)
  unfolding read_body paths_at name_count_at rule_count_at
  runs_rules =
      runs_first _
      (runs_next _ (stands_times_from s (read_name _) (name_at s) (name_end s) (λ i. stands_name s _ i) 0 _ _)
      (runs_next _ (stands_below s 2 1025 _ _ _ (stands_2 s _))
      (runs_next _ (stands_such (paths_fit (paths_at s)))
      (runs_next _ (stands_many s 2 65535 read_path (path_at s) (path_end s) 9 _ _ (stands_2 s 9) (stands_path s))
      (runs_next _ (stands_4 s 5) runs_body)))))

  runs_rule : (k : ℕ) → k < be16 s (rule_count_at s) → Runs s (read_rule (length (paths_at s))) (table_end (rule_end s) (rule_count_at s + 2) k)
  unfolding many times
  runs_rule k l =
      runs_each (λ i. read_rule (length (paths_at s))) (rule_at s) (rule_end s) (λ i. stands_rule s _) 0 (be16 s (rule_count_at s)) (rule_count_at s + 2)
      (runs_next _ (stands_below s 2 65 _ _ _ (stands_2 s (rule_count_at s))) runs_rules) k l

  pub read_tags : (k : ℕ) → k < be16 s (rule_count_at s)
      → (1 ≤ byte s (table_end (rule_end s) (rule_count_at s + 2) k)) × (byte s (table_end (rule_end s) (rule_count_at s + 2) k) ≤ 5)
  read_tags k l = rule_read (length (paths_at s)) _ (runs_rule k l)
