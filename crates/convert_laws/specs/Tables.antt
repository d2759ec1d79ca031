-- Limit, paths, names and rules of a file that is read, as they stand in its bytes: from the limit up to the nets' count nothing
-- else stands there. For either version.
use Rattle.std.specs.Prelude.{ℕ, suc, ◌+◌, ◌-◌, ◌^◌, ◌<◌, ◌≤◌, ◌≡◌, refl, Bool, List, [], ◌∷◌, ◌++◌, get_or, take}
use Rattle.std.proofs.Common.{sym, ◌∙◌, append_assoc, arith, length-append, length-drop, take_at}
use Rattle.std.proofs.Math.Path.{ap}
use Rattle.std.proofs.Math.Option.{some}
use Rattle.std.proofs.Math.ListN.{length, drop}
use Rattle.net_file.specs.Lists.{Result, ok, concat_map}
use Rattle.net_file.specs.Values.{File}
use Rattle.net_file.specs.Read.{Parser, number, below, many, times, times_from, read_path, read_name, read_rule, limit_of, paths_fit, read_body}
use Rattle.net_file.specs.Write.{be, counted, write_path, write_name, write_rule, limit_number}
use Rattle.net_file.specs.Checks.{Version, read}
use Rattle.net_file_laws.specs.Bytes.{Bytes, bytes_drop}
use Rattle.net_file_laws.specs.Exact.{Exact, exact_number, exact_below, exact_many, exact_times_from}
use Rattle.net_file_laws.specs.Parts.{exact_path, exact_name}
use Rattle.net_file_laws.specs.Rules.{exact_rule}
use Rattle.net_file_laws.specs.Body.{number_of_limit}
use Rattle.net_file_laws.specs.Header.{Accepted, read_passed}
use Rattle.fields.specs.Fields.{be16, be32}
use Rattle.stored.specs.Stored.{path_at, path_end, name_at, name_end, rule_at, rule_end, name_count_at, rule_count_at, net_count_at}
use Rattle.stored.specs.Laws.{Stands, stands_2, stands_4, stands_such, stands_below, stands_many, stands_times_from}
use Rattle.stored.specs.Parts.{stands_path, stands_name, stands_rule}
use Rattle.stored.specs.Pass.{Passed, pass, under}
use Rattle.stored.specs.Body.{paths_at, names_at, rules_at, nets_at, body_at, paths_counted, names_counted}
use Rattle.readers_laws.specs.Reads.{read_stands}
use Rattle.put.specs.Written.{part}

-- from the limit up to the nets' count, as they stand
unfoldable pub tables_at : List ℕ → List ℕ
tables_at s = part s 5 (net_count_at s - 5)

-- limit, paths, names, rules, as they are written
unfoldable pub write_tables : {Net : Type 0} → File Net → List ℕ
write_tables x = be 4 (limit_number x.limit) ++ (counted 2 write_path x.paths ++ (counted 2 write_name x.names ++ counted 2 write_rule x.rules))

-- what was passed is what is written of it
spelt : {A B : Type 0} {s : List ℕ} {p : Parser A} {f : A → Parser B} {at : ℕ} {v : A} {m : ℕ} {x : B} {r : List ℕ} {w : A → List ℕ} {F : A → Type 0}
    → Bytes s → Exact p w F → Passed s p f at v m x r → drop at s ≡ w v ++ drop m s
spelt {s = s} {at = at} {v = v} {m = m} h e g = (e.writes (drop at s) (bytes_drop at s h) v (drop m s) g.first).1

-- a list that begins with another
begins : (s w : List ℕ) (from to : ℕ) → from ≤ to → to ≤ length s → drop from s ≡ w ++ drop to s → w ≡ part s from (to - from)
unfolding part
begins s w from to h l e =
    let a = length-drop from s in
    let b = length-drop to s in
    let c : length (drop from s) ≡ length w + length (drop to s) = ap length e ∙ length-append w (drop to s) in
    let d : length w ≡ to - from = omega arith in
    sym (ap (take (to - from)) e ∙ take_at w (drop to s) (to - from) d)

-- five parts in a row
joined : (a b c d k l₅ : List ℕ) {l₀ l₁ l₂ l₃ l₄ : List ℕ} → l₀ ≡ a ++ l₁ → l₁ ≡ b ++ l₂ → l₂ ≡ c ++ l₃ → l₃ ≡ d ++ l₄ → l₄ ≡ k ++ l₅
    → l₀ ≡ (a ++ (b ++ ((c ++ d) ++ k))) ++ l₅
joined a b c d k l₅ e₀ e₁ e₂ e₃ e₄ = rw (e₀, e₁, e₂, e₃, e₄) (simp append_assoc)

module _ {Net : Type 0} (v : Version Net) (net_at : List ℕ → ℕ → Net) (net_end : List ℕ → ℕ → ℕ) (s : List ℕ)
    (h : (paths names at : ℕ) → Stands s (v.read_net paths names) at (net_at s at) (net_end s at)) (bytes : Bytes s) (x : File Net) (e : read v s ≡ ok x) where
  -- each part where the last one ended
  record Parted : Type 0 where
    limit : drop 5 s ≡ be 4 (be32 s 5) ++ drop 9 s
    paths : drop 9 s ≡ counted 2 write_path (paths_at s) ++ drop (name_count_at s) s
    name_count : drop (name_count_at s) s ≡ be 2 (be16 s (name_count_at s)) ++ drop (name_count_at s + 2) s
    names : drop (name_count_at s + 2) s ≡ concat_map write_name (names_at s) ++ drop (rule_count_at s) s
    rules : drop (rule_count_at s) s ≡ counted 2 write_rule (rules_at s) ++ drop (net_count_at s) s
    later : 5 ≤ net_count_at s
    inside : net_count_at s + 2 ≤ length s

  parted : Parted
  unfolding read_body paths_at names_at rules_at nets_at name_count_at rule_count_at net_count_at many
  parted =
      let head = read_passed v s x e in
      let r = head.1.rest in
      let a = pass _ x r (stands_4 s 5) head.0.long head.1.answer in
      let b = pass _ x r (stands_many s 2 65535 read_path (path_at s) (path_end s) 9 _ _ (stands_2 s 9) (stands_path s)) a.inside a.next in
      let c = pass _ x r (stands_such (paths_fit (paths_at s))) b.inside b.next in
      let d = pass _ x r (stands_below s 2 1025 _ _ _ (stands_2 s _)) c.inside c.next in
      let n = pass _ x r (stands_times_from s (read_name _) (name_at s) (name_end s) (λ j. stands_name s _ j) 0 _ _) d.inside d.next in
      let k = pass _ x r (stands_many s 2 64 (read_rule _) (rule_at s) (rule_end s) _ _ _ (stands_2 s _) (stands_rule s _)) n.inside n.next in
      let m = pass _ x r (stands_many s 2 256 (v.read_net _ _) (net_at s) (net_end s) _ _ _ (stands_2 s _) (h _ _)) k.inside k.next in
      let q = pass (λ j. times j (v.read_net (length (paths_at s)) (length (names_at s)))) _ _ (stands_below s 2 257 _ _ _ (stands_2 s (net_count_at s))) k.inside m.first in
      let few = under 2 1025 (be16 s (name_count_at s)) (drop (name_count_at s) s) _ d.first in
      let hp : length (paths_at s) ≤ 65536 = omega (arith, ((exact_many exact_path 2 65535 (omega arith)).writes (drop 9 s) (bytes_drop 9 s bytes) (paths_at s) _ b.first).0.0) in
      record {
        limit = spelt bytes (exact_number 4) a;
        paths = spelt bytes (exact_many exact_path 2 65535 (omega arith)) b;
        name_count = spelt bytes (exact_below 2 1025 (omega arith)) d;
        names = spelt bytes (exact_times_from 1025 (λ i l. exact_name (length (paths_at s)) i hp (omega arith)) 0 (be16 s (name_count_at s)) (omega arith)) n;
        rules = spelt bytes (exact_many (exact_rule (length (paths_at s)) hp) 2 64 (omega arith)) k;
        later = omega (arith, a.later, b.later, c.later, d.later, n.later, k.later);
        inside = q.inside;
      }

  -- the nets' count stands behind the limit, inside the file
  pub count_later : 5 ≤ net_count_at s
  count_later = parted.later

  pub count_inside : net_count_at s + 2 ≤ length s
  count_inside = parted.inside

  -- what is written of the tables stands before the nets' count
  pub tables_stand : write_tables x ≡ tables_at s
  unfolding write_tables tables_at counted body_at
  tables_stand =
      let p = parted in
      let c : be 2 (length (names_at s)) ≡ be 2 (be16 s (name_count_at s)) = ap (be 2) (names_counted s) in
      let w = be 4 (be32 s 5) ++ (counted 2 write_path (paths_at s) ++ (counted 2 write_name (names_at s) ++ counted 2 write_rule (rules_at s))) in
      let g : drop 5 s ≡ w ++ drop (net_count_at s) s =
      joined (be 4 (be32 s 5)) (counted 2 write_path (paths_at s)) (be 2 (length (names_at s))) (concat_map write_name (names_at s)) (counted 2 write_rule (rules_at s)) (drop (net_count_at s) s)
      p.limit p.paths (p.name_count ∙ ap (λ t. t ++ drop (name_count_at s + 2) s) (sym c)) p.names p.rules in
      rw (read_stands v net_at net_end s h x e, number_of_limit) (begins s w 5 (net_count_at s) p.later (omega (arith, p.inside)) g)
