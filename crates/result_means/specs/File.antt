-- The whole result written: the bytes are `write` of level Engine's result, and no byte past them is written.
use Prim.Native.Nat.{ℕ, ◌+◌, ◌-◌, ◌/◌, ◌%◌, ◌≤◌, ◌<◌}
use Rattle.std.specs.Prelude.{◌≡◌, refl, Bool, true, false}
use Rattle.std.proofs.Common.{sym, ◌∙◌, subst}
use Rattle.std.proofs.Math.Path.{ap}
use native.Mathlib.Omega.{arith}
use Rattle.std.proofs.Math.Option.{Option, none, some}
use mathlib.Core.List.{List, [], ◌∷◌, ◌++◌, map, append_assoc}
use Rattle.std.proofs.Math.ListN.{length, length-append, length-map}
use Rattle.words.specs.Choose.{pick_true, pick_false}
use Rattle.layout.specs.Layout
use Rattle.layout.specs.Layout.{net_by_name}
use Rattle.net_file.specs.Lists.{ok, concat_map}
use Rattle.net_file.specs.Values.{Name, Rule, FlatNet, File, free_path}
use Rattle.net_file.specs.Write.{be, counted, write_path, write_name, write_rule, write_flat_net, limit_number, write_body}
use Rattle.net_file.specs.Checks.{flat, read}
use Rattle.net_file.specs.Checks
use Rattle.net_file_laws.specs.Bytes.{Bytes, length_be}
use Rattle.net_file_laws.specs.Body.{after_version, body_written}
use Rattle.fields.specs.Fields.{be16}
use Rattle.stored.specs.Stored.{name_count_at, net_count_at}
use Rattle.ends.specs.Ends.{within}
use Rattle.store.specs.Store.{store, between}
use Rattle.definitions.specs.State.{Net, Engine, graph_of}
use Rattle.definitions.specs.Visit.{get_net}
use Rattle.definitions.specs.Finish.{finish_net, result}
use Rattle.script_laws.specs.Tidy.{WellWired}
use Rattle.rule_laws.specs.Places.{Ported}
use Rattle.means.specs.Means.{limit_word, Header, Means}
use Rattle.write_nodes.specs.Wrote.{Wrote}
use Rattle.write_nodes.specs.Nodes.{on}
use Rattle.measure.specs.Measure.{path_joins}
use Rattle.finish.specs.Finish.{write_head, write_path_words, write_rest, write}
use Rattle.parts_placed.specs.Spans.{Spans, spans_between}
use Rattle.parts_placed.specs.Tables.{paths_span, paths_count, tables_span, nets_count, nets_are, nets_fit}
use Rattle.measure_means.specs.Nets.{Follows}
use Rattle.measure_means.specs.Measured.{Joins, stays, joins, path_joins_is}
use Rattle.wires_means.specs.Rows.{be_two}
use Rattle.wires_means.specs.Stores.{length_store, store_then, store_apart}
use Rattle.nodes_written.specs.Whole.{whole_first}
use Rattle.result_means.specs.Net.{Writable}
use Rattle.means.specs.Names.{net_word}
use Rattle.result_means.specs.Nets.{Done, Due, write_nets_is}

-- ---- the head

-- four bytes hold what of a number four bytes can
be_four : (n : ℕ) → be 4 (n % 4294967296) ≡ be 4 n
unfolding be
be_four n =
    let a : n % 4294967296 / 16777216 % 256 ≡ n / 16777216 % 256 = omega arith in
    let b : n % 4294967296 / 65536 % 256 ≡ n / 65536 % 256 = omega arith in
    let c : n % 4294967296 / 256 % 256 ≡ n / 256 % 256 = omega arith in
    let d : n % 4294967296 / 1 % 256 ≡ n / 1 % 256 = omega arith in
    λ i. a i ∷ b i ∷ c i ∷ d i ∷ []

-- length, version, limit and count stored over the paths
head_layers : (out z v l c p : List ℕ) → length z ≡ 4 → length v ≡ 1 → length l ≡ 4 → length c ≡ 2 → 11 + length p ≤ length out
    → store 9 c (store 5 l (store 4 v (store 0 z (store 11 p out)))) ≡ store 0 (z ++ (v ++ (l ++ (c ++ p)))) out
head_layers out z v l c p ez ev el ec room =
    let o1 = store 0 z out in
    let l1 = length_store out 0 z (omega arith) in
    let o2 = store 4 v o1 in
    let l2 = length_store o1 4 v (omega arith) in
    let o3 = store 5 l o2 in
    let l3 = length_store o2 5 l (omega arith) in
    let s1 : store 0 z (store 11 p out) ≡ store 11 p o1 = store_apart out 11 0 p z (omega arith) (omega arith) in
    let s2 : store 4 v (store 11 p o1) ≡ store 11 p o2 = store_apart o1 11 4 p v (omega arith) (omega arith) in
    let s3 : store 5 l (store 11 p o2) ≡ store 11 p o3 = store_apart o2 11 5 p l (omega arith) (omega arith) in
    let s4 : store 9 c (store 11 p o3) ≡ store 11 p (store 9 c o3) = store_apart o3 11 9 p c (omega arith) (omega arith) in
    let a1 = length-append c p in
    let a2 = length-append l (c ++ p) in
    let a3 = length-append v (l ++ (c ++ p)) in
    let t1 : store 11 p (store 9 c o3) ≡ store 9 (c ++ p) o3 = (let k : 11 ≡ 9 + length c = omega arith in rw k (store_then o3 9 c p (omega arith))) in
    let t2 : store 9 (c ++ p) o3 ≡ store 5 (l ++ (c ++ p)) o2 = (let k : 9 ≡ 5 + length l = omega arith in rw k (store_then o2 5 l (c ++ p) (omega arith))) in
    let t3 : store 5 (l ++ (c ++ p)) o2 ≡ store 4 (v ++ (l ++ (c ++ p))) o1 = (let k : 5 ≡ 4 + length v = omega arith in rw k (store_then o1 4 v (l ++ (c ++ p)) (omega arith))) in
    let t4 : store 4 (v ++ (l ++ (c ++ p))) o1 ≡ store 0 (z ++ (v ++ (l ++ (c ++ p)))) out = (let k : 4 ≡ 0 + length z = omega arith in rw k (store_then out 0 z (v ++ (l ++ (c ++ p))) (omega arith))) in
    ap (λ (o : List ℕ). store 9 c (store 5 l (store 4 v o))) s1 ∙ ap (λ (o : List ℕ). store 9 c (store 5 l o)) s2 ∙ ap (store 9 c) s3 ∙ s4 ∙ t1 ∙ t2 ∙ t3 ∙ t4

limit_number_lem : (l : Option ℕ) → limit_word l ≡ limit_number l
unfolding limit_number
limit_number_lem none = refl
limit_number_lem (some n) = refl

-- nine parts, as they are written and as they are stored
regroup : (a b c d q n r k x : List ℕ) → a ++ (b ++ (c ++ ((d ++ q) ++ (n ++ (r ++ (k ++ x)))))) ≡ (a ++ (b ++ (c ++ (d ++ q)))) ++ ((n ++ (r ++ k)) ++ x)
regroup a b c d q n r k x = simp append_assoc

-- the free path at the end of a table
path_last : (ps : List (List ℕ)) → concat_map write_path (ps ++ free_path ∷ []) ≡ concat_map write_path ps ++ (15 ∷ free_path)
unfolding write_path counted be
path_last [] = refl
path_last (p ∷ ps) = ap (λ (l : List ℕ). write_path p ++ l) (path_last ps) ∙ sym (append_assoc (write_path p) (concat_map write_path ps) (15 ∷ free_path))

module _ (Named : ℕ → Name → Type 0) (ws : List ℕ) (e : Engine) (m : Means Named ws e) (well : WellWired (graph_of e)) (ported : Ported (graph_of e)) (path : ℕ)
    (s : List ℕ) (is : Bytes s) (f : File FlatNet) (ok_f : read flat s ≡ ok f) (can : (k : ℕ) → k < length e.nets → Writable ws s e path k)
    (named : (c : ℕ) → net_by_name ws c ≡ net_word (get_net e c)) (follows : Follows e 0 f.nets) where
  -- names and rules with their counts, and the count of nets
  tables : List ℕ
  tables = counted 2 write_name f.names ++ (counted 2 write_rule f.rules ++ be 2 (length f.nets))

  -- the nets
  nets : List ℕ
  nets = concat_map write_flat_net (map (finish_net e) f.nets)

  -- the first bytes, up to the first path
  head : ℕ → List (List ℕ) → List ℕ → List ℕ
  head len qs ps = be 4 (len - 4) ++ (be 1 1 ++ (be 4 (limit_number e.limit) ++ (be 2 (length qs) ++ ps)))

  rest_is : (out o xs : List ℕ) (at : ℕ) → at ≡ length xs → o ≡ store 0 xs out → length xs + (length tables + length nets) ≤ length out → length out < 18446744073709551616
      → Done (xs ++ (tables ++ nets)) out 0 (write_rest ws s o (name_count_at s) at)
  unfolding write_rest on tables nets
  rest_is out o xs at ea eo room size =
      let t = tables_span s is f ok_f in
      let q = net_count_at s in
      let names = name_count_at s in
      let inside = t.inside in
      let e1 : within s q ≡ q = omega arith in
      let e2 : within s (q + 2) ≡ q + 2 = omega arith in
      let long : q + 2 - names ≡ length tables = let i = t.end in omega arith in
      let place : (at + length tables) % 18446744073709551616 ≡ at + length tables = omega arith in
      let l0 : length o ≡ length out = rw eo (length_store out 0 xs (omega arith)) in
      let l1 = length_store o at tables (omega arith) in
      let due : Due Named ws e m well ported path s is f ok_f can named 0 ws = record { low = λ i h. refl; whole = λ j a b. whole_first Named ws e m j } in
      let n = write_nets_is Named ws e m well ported path s is f ok_f can named f.nets 0 ws (store at tables o) (q + 2) (at + length tables) follows (nets_fit s is f ok_f) inside (nets_are s is f ok_f) due
      (omega arith) (omega arith) in
      let a1 = length-append xs (tables ++ nets) in
      let a2 = length-append tables nets in
      let start : at ≡ 0 + length xs = omega arith in
      rw (e1, e2, spans_between s names (q + 2) tables t, long, place, ← nets_count s is f ok_f) (record {
        is = n.is ∙ (let z : at + length tables + length nets ≡ 0 + length (xs ++ (tables ++ nets)) = omega arith in z);
        out_is = n.out_is ∙ (let y : store (at + length tables) nets (store at tables o) ≡ store at (tables ++ nets) o = store_then o at tables nets (omega arith) in y)
            ∙ rw (start, eo) (store_then out 0 xs (tables ++ nets) (omega arith));
      })

  head_is : (out : List ℕ) (len joined : ℕ) (qs : List (List ℕ)) → be16 s 9 + joined ≡ length qs → name_count_at s ≤ length out
      → write_head ws s (store 11 (between s 11 (name_count_at s)) out) len joined ≡ store 0 (head len qs (concat_map write_path f.paths)) out
  unfolding write_head head
  head_is out len joined qs count room =
      let p = paths_span s is f ok_f in
      let ps = concat_map write_path f.paths in
      let end = p.end in
      let limit : Layout.limit ws ≡ limit_number e.limit = m.header.limit_is ∙ limit_number_lem e.limit in
      rw (spans_between s 11 (name_count_at s) ps p, be_four (len - 4), count, be_two (length qs), limit)
      (head_layers out (be 4 (len - 4)) (be 1 1) (be 4 (limit_number e.limit)) (be 2 (length qs)) ps (length_be 4 (len - 4)) (length_be 1 1) (length_be 4 (limit_number e.limit))
      (length_be 2 (length qs)) (omega arith))

  -- the result's bytes: the head and the paths, the tables, the nets
  bytes_are : (len : ℕ) → len ≡ length (Checks.write flat (result f e)) → Checks.write flat (result f e) ≡ head len (result f e).paths (concat_map write_path (result f e).paths) ++ (tables ++ nets)
  unfolding Checks.write after_version counted head tables nets result
  bytes_are len el =
      let r = result f e in
      let b = write_body 1 write_flat_net r in
      let a = length-append (be 4 (length b)) b in
      let four = length_be 4 (length b) in
      let size : length b ≡ len - 4 = omega arith in
      let many : length (map (finish_net e) f.nets) ≡ length f.nets = length-map f.nets (finish_net e) in
      ap (λ (c : List ℕ). be 4 (length b) ++ c) (body_written flat r)
      ∙ rw (size, many) (regroup (be 4 (len - 4)) (be 1 1) (be 4 (limit_number e.limit)) (be 2 (length r.paths)) (concat_map write_path r.paths) (counted 2 write_name f.names) (counted 2 write_rule f.rules)
      (be 2 (length f.nets)) (concat_map write_flat_net (map (finish_net e) f.nets)))

  head_long : (len : ℕ) (qs : List (List ℕ)) (ps : List ℕ) → length (head len qs ps) ≡ 11 + length ps
  unfolding head
  head_long len qs ps =
      let l = be 4 (limit_number e.limit) in
      let c = be 2 (length qs) in
      let a1 = length-append (be 4 (len - 4)) (be 1 1 ++ (l ++ (c ++ ps))) in
      let a2 = length-append (be 1 1) (l ++ (c ++ ps)) in
      let a3 = length-append l (c ++ ps) in
      let a4 = length-append c ps in
      let b1 = length_be 4 (len - 4) in
      let b2 = length_be 1 1 in
      let b3 = length_be 4 (limit_number e.limit) in
      let b4 = length_be 2 (length qs) in
      omega arith

  head_more : (len : ℕ) (qs : List (List ℕ)) (ps more : List ℕ) → head len qs ps ++ more ≡ head len qs (ps ++ more)
  unfolding head
  head_more len qs ps more = simp append_assoc

  module _ (out : List ℕ) (len : ℕ) (exact : len ≡ length (Checks.write flat (result f e))) (room : len ≤ length out) (size : length out < 18446744073709551616) where
    -- the paths stay
    written_stays : path_joins ws s ≡ false → f.paths ≡ (result f e).paths → Done (Checks.write flat (result f e)) out 0 (write ws s out len)
    unfolding write
    written_stays j same =
        let p = paths_span s is f ok_f in
        let inside = p.inside in
        let end = p.end in
        let ps = concat_map write_path f.paths in
        let xs = head len f.paths ps in
        let all : Checks.write flat (result f e) ≡ xs ++ (tables ++ nets) = bytes_are len exact ∙ ap (λ (qs : List (List ℕ)). head len qs (concat_map write_path qs) ++ (tables ++ nets)) (sym same) in
        let a = ap (λ (l : List ℕ). length l) all in
        let a1 = length-append xs (tables ++ nets) in
        let a2 = length-append tables nets in
        let h = head_long len f.paths ps in
        let c = paths_count s is f ok_f in
        let e1 : within s (name_count_at s) ≡ name_count_at s = omega arith in
        let o = write_head ws s (store 11 (between s 11 (name_count_at s)) out) len 0 in
        let eo : o ≡ store 0 xs out = head_is out len 0 f.paths (omega arith) (omega arith) in
        let r = rest_is out o xs (name_count_at s) (omega arith) eo (omega arith) size in
        rw (e1, all) (subst (Done (xs ++ (tables ++ nets)) out 0) (pick_false (path_joins ws s) _ (write_rest ws s o (name_count_at s) (name_count_at s)) j refl) r)

    -- the free path joins
    written_joins : path_joins ws s ≡ true → f.paths ++ free_path ∷ [] ≡ (result f e).paths → Done (Checks.write flat (result f e)) out 0 (write ws s out len)
    unfolding write write_path_words on
    written_joins j same =
        let p = paths_span s is f ok_f in
        let inside = p.inside in
        let end = p.end in
        let ps = concat_map write_path f.paths in
        let qs = f.paths ++ free_path ∷ [] in
        let w : List ℕ = 15 ∷ free_path in
        let xs = head len qs ps in
        let all : Checks.write flat (result f e) ≡ (xs ++ w) ++ (tables ++ nets)
        = bytes_are len exact ∙ ap (λ (q : List (List ℕ)). head len q (concat_map write_path q) ++ (tables ++ nets)) (sym same)
        ∙ ap (λ (q : List ℕ). head len qs q ++ (tables ++ nets)) (path_last f.paths) ∙ ap (λ (q : List ℕ). q ++ (tables ++ nets)) (sym (head_more len qs ps w)) in
        let a = ap (λ (l : List ℕ). length l) all in
        let a0 = length-append xs w in
        let a1 = length-append (xs ++ w) (tables ++ nets) in
        let a2 = length-append tables nets in
        let h = head_long len qs ps in
        let c = paths_count s is f ok_f in
        let d = length-append f.paths (free_path ∷ []) in
        let e1 : within s (name_count_at s) ≡ name_count_at s = omega arith in
        let e2 : (name_count_at s + 16) % 18446744073709551616 ≡ name_count_at s + 16 = omega arith in
        let o = write_head ws s (store 11 (between s 11 (name_count_at s)) out) len 1 in
        let eo : o ≡ store 0 xs out = head_is out len 1 qs (omega arith) (omega arith) in
        let start : name_count_at s ≡ 0 + length xs = omega arith in
        let eo2 : store (name_count_at s) w o ≡ store 0 (xs ++ w) out = rw (eo, start) (store_then out 0 xs w (omega arith)) in
        let r = rest_is out (store (name_count_at s) w o) (xs ++ w) (name_count_at s + 16) (omega arith) eo2 (omega arith) size in
        rw (e1, e2, all) (subst (Done ((xs ++ w) ++ (tables ++ nets)) out 0) (pick_true (path_joins ws s) (write_rest ws s (store (name_count_at s) w o) (name_count_at s) (name_count_at s + 16)) _ j refl) r)

    pub write_is : Done (Checks.write flat (result f e)) out 0 (write ws s out len)
    write_is = go (path_joins ws s) (result f e).paths refl refl (path_joins_is Named ws s is f ok_f e m follows)
      where
        go : (t : Bool) (qs : List (List ℕ)) → path_joins ws s ≡ t → qs ≡ (result f e).paths → Joins f.paths t qs → Done (Checks.write flat (result f e)) out 0 (write ws s out len)
        go false qs j q stays = written_stays j q
        go true qs j q joins = written_joins j q
