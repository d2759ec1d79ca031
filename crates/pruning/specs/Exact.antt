-- On a file that is read, what the code gives is what `pruned` says.
use Prim.Native.Nat.{ℕ, zero, suc, ◌+◌, ◌-◌, ◌<◌, ◌≤◌}
use Rattle.std.specs.Prelude.{Ok, Err, ◌≡◌, Bool, get_or, take, drop, replicate, eqb}
use Rattle.std.proofs.Math.Path.{refl, sym, ap}
use Rattle.std.proofs.Common.{◌∙◌, length-append, length-drop, take_at, ltb-true}
use Rattle.std.proofs.Math.Bool.{true, false}
use Rattle.std.proofs.Math.Option.{some}
use Rattle.std.proofs.Math.Logic.{inl, inr}
use mathlib.Core.List.{List, [], ◌∷◌, ◌++◌}
use native.Mathlib.Omega.{arith}
use Rattle.std.proofs.Math.ListN.{length}
use Rattle.std.proofs.Math.Dec.{ltb}
use Rattle.net_file.specs.Lists.{ok, refuse, need, bit, any, all, concat_map}
use Rattle.net_file.specs.Values.{FlatNet, File}
use Rattle.net_file.specs.Read.{times, times_from, many, read_path, read_name, read_rule, read_flat_net, paths_fit, read_body}
use Rattle.net_file.specs.Write.{be, counted, write_flat_net}
use Rattle.net_file.specs.Checks.{flat, read, write}
use Rattle.net_file_laws.specs.Bytes.{Bytes, bytes_drop}
use Rattle.net_file_laws.specs.Exact.{exact_many}
use Rattle.net_file_laws.specs.Parts.{exact_path}
use Rattle.net_file_laws.specs.Flat.{exact_flat_net}
use Rattle.net_file_laws.specs.Header.{read_passed}
use Rattle.net_file_laws.proofs.RoundTrip.{flat_write_read}
use Rattle.list_laws.specs.Tests.{both}
use Rattle.definitions.specs.Calls.{written}
use Rattle.conversions.specs.Calls.{fitted, pruned}
use Rattle.conversions.specs.Prune.{join, reach, keep_nets, prune}
use Rattle.words.specs.Choose.{pick, eq_yes, eq_no, pick_true, pick_false}
use Rattle.fields.specs.Fields.{be16}
use Rattle.stored.specs.Stored.{table_at, table_end, path_at, path_end, name_at, name_end, rule_at, rule_end, flat_net_at, flat_net_end, name_count_at, rule_count_at, net_count_at}
use Rattle.stored.specs.Laws.{bound, stands_2, stands_4, stands_such, stands_below, stands_many, stands_times_from}
use Rattle.stored.specs.Parts.{stands_path, stands_name, stands_rule, stands_net}
use Rattle.stored.specs.Pass.{pass, under}
use Rattle.stored.specs.Body.{paths_at, names_at, rules_at, nets_at, names_counted}
use Rattle.ends.specs.Ends.{within, table_up, net_up}
use Rattle.readers_laws.specs.Flat.{flat_stands}
use Rattle.put.specs.Written.{part}
use Rattle.prune_laws.specs.Members.{In, tested, false_true, in_cases}
use Rattle.prune_laws.specs.Accepts.{keep_none, keep_yes, keep_not}
use Rattle.reach_names.specs.Reach.{reached}
use Rattle.reach_laws.specs.Onward.{nets_are, nets_inside, reached_marks}
use Rattle.convert_laws.specs.Frame.{with_nets, framed, frame_written}
use Rattle.convert_frame.specs.Head.{head_bytes, head_length, head_framed}
use Rattle.convert_frame.specs.Called.{Converted, answered}
use Rattle.refusals.specs.declared.Refusal.{Refusal}
use Rattle.refusals.specs.Numbers.{number}
use Rattle.refusals.specs.Told.{told}
use Rattle.net_check.specs.Verdict.{Checked, verdict, read_numbered, was_read, was_refused}
use Rattle.pruning.specs.Kept.{entries_below, kept_count, kept_net, kept_bytes, result_of, kept_file, accepted}

-- ---- the bytes of a net

-- a list that begins with another
begins : (s w : List ℕ) (at to : ℕ) → at ≤ to → to ≤ length s → drop at s ≡ w ++ drop to s → part s at (to - at) ≡ w
unfolding part
begins s w at to h l e =
    let a = length-drop at s in
    let b = length-drop to s in
    let c : length (drop at s) ≡ length w + length (drop to s) = ap length e ∙ length-append w (drop to s) in
    let d : length w ≡ to - at = omega arith in
    ap (take (to - at)) e ∙ take_at w (drop to s) (to - at) d

module _ (s : List ℕ) (bytes : Bytes s) (paths names : ℕ) (hp : paths ≤ 65536) (hn : names ≤ 65536) (marks : List Bool) (seen : List ℕ)
    (same : (i : ℕ) → get_or marks i false ≡ any (eqb i) seen) where
  net_name : (at : ℕ) → (flat_net_at s at).name ≡ be16 s at
  unfolding flat_net_at
  net_name at = refl

  test : (at : ℕ) (t : Bool) → any (eqb (flat_net_at s at).name) seen ≡ t → get_or marks (be16 s at) false ≡ t
  test at t e = same (be16 s at) ∙ ap (λ i. any (eqb i) seen) (sym (net_name at)) ∙ e

  -- what is kept of a table of nets that was read
  kept_spelt : (j i at : ℕ) (xs : List FlatNet) (r : List ℕ) → at ≤ length s → times_from (λ m. read_flat_net paths names) i j (drop at s) ≡ some (xs, r)
      → kept_bytes s marks at j ≡ concat_map write_flat_net (keep_nets seen (table_at (flat_net_at s) (flat_net_end s) at j))
  unfolding times_from kept_bytes table_at kept_net
  kept_spelt zero i at xs r h e = ap (concat_map write_flat_net) (sym (keep_none seen))
  kept_spelt (suc j) i at xs r h e =
      let p = pass _ xs r (stands_net s paths names at) h e in
      let c = bound (times_from (λ m. read_flat_net paths names) (suc i) j) _ (drop (flat_net_end s at) s) xs r p.next in
      let l = p.inside in
      let w : within s (flat_net_end s at) ≡ flat_net_end s at = omega arith in
      let n = flat_net_at s at in
      let rest = table_at (flat_net_at s) (flat_net_end s) (flat_net_end s at) j in
      let again = kept_spelt j (suc i) (flat_net_end s at) c.value c.rest l c.first in
      let split = ((exact_flat_net paths names hp hn).writes (drop at s) (bytes_drop at s bytes) n (drop (flat_net_end s at) s) p.first).1 in
      let spelt : part s at (flat_net_end s at - at) ≡ write_flat_net n = begins s (write_flat_net n) at (flat_net_end s at) p.later l split in
      ap (λ y. pick (get_or marks (be16 s at) false) (part s at (y - at)) [] ++ kept_bytes s marks y j) w
      ∙ elim (tested (any (eqb n.name) seen)) [
        | inl t ↦
            (λ k. sym (pick_true (get_or marks (be16 s at) false) (part s at (flat_net_end s at - at)) [] (test at true t) refl) k ++ kept_bytes s marks (flat_net_end s at) j)
            ∙ (λ k. spelt k ++ again k) ∙ ap (concat_map write_flat_net) (sym (keep_yes seen n rest t))
        | inr t ↦
            (λ k. sym (pick_false (get_or marks (be16 s at) false) (part s at (flat_net_end s at - at)) [] (test at false t) refl) k ++ kept_bytes s marks (flat_net_end s at) j)
            ∙ again ∙ ap (concat_map write_flat_net) (sym (keep_not seen n rest t))
      ]

  kept_counted : (j at : ℕ) → table_end (flat_net_end s) at j ≤ length s → kept_count s marks at j ≡ length (keep_nets seen (table_at (flat_net_at s) (flat_net_end s) at j))
  unfolding kept_count table_at table_end
  kept_counted zero at h = ap length (sym (keep_none seen))
  kept_counted (suc j) at h =
      let u = table_up (flat_net_end s) (net_up s) (flat_net_end s at) j in
      let w : within s (flat_net_end s at) ≡ flat_net_end s at = omega arith in
      let n = flat_net_at s at in
      let rest = table_at (flat_net_at s) (flat_net_end s) (flat_net_end s at) j in
      let again = kept_counted j (flat_net_end s at) h in
      ap (λ y. bit (get_or marks (be16 s at) false) + kept_count s marks y j) w
      ∙ elim (tested (any (eqb n.name) seen)) [
        | inl t ↦ let x : bit (get_or marks (be16 s at) false) ≡ 1 = ap bit (test at true t) in let y = ap length (keep_yes seen n rest t) in omega arith
        | inr t ↦ let x : bit (get_or marks (be16 s at) false) ≡ 0 = ap bit (test at false t) in let y = ap length (keep_not seen n rest t) in omega arith
      ]

-- ---- a file that is read

module _ (s : List ℕ) (bytes : Bytes s) (f : File FlatNet) (e : read flat s ≡ ok f) where
  -- its nets, where they were read
  record Nets : Type 0 where
    value : List FlatNet
    rest : List ℕ
    inside : net_count_at s + 2 ≤ length s
    few_paths : length (paths_at s) ≤ 65536
    few_names : length (names_at s) ≤ 65536
    reads : times_from (λ m. read_flat_net (length (paths_at s)) (length (names_at s))) 0 (be16 s (net_count_at s)) (drop (net_count_at s + 2) s) ≡ some (value, rest)

  nets : Nets
  unfolding read_body paths_at names_at rules_at nets_at name_count_at rule_count_at net_count_at many times
  nets =
      let head = read_passed flat s f e in
      let r = head.1.rest in
      let a = pass _ f r (stands_4 s 5) head.0.long head.1.answer in
      let b = pass _ f r (stands_many s 2 65535 read_path (path_at s) (path_end s) 9 _ _ (stands_2 s 9) (stands_path s)) a.inside a.next in
      let c = pass _ f r (stands_such (paths_fit (paths_at s))) b.inside b.next in
      let d = pass _ f r (stands_below s 2 1025 _ _ _ (stands_2 s _)) c.inside c.next in
      let n = pass _ f r (stands_times_from s (read_name _) (name_at s) (name_end s) (λ j. stands_name s _ j) 0 _ _) d.inside d.next in
      let k = pass _ f r (stands_many s 2 64 (read_rule _) (rule_at s) (rule_end s) _ _ _ (stands_2 s _) (stands_rule s _)) n.inside n.next in
      let m = pass _ f r (stands_many s 2 256 (read_flat_net _ _) (flat_net_at s) (flat_net_end s) _ _ _ (stands_2 s _) (stands_net s _ _)) k.inside k.next in
      let q = pass (λ j. times j (read_flat_net (length (paths_at s)) (length (names_at s)))) _ _ (stands_below s 2 257 _ _ _ (stands_2 s (net_count_at s))) k.inside m.first in
      let few = under 2 1025 (be16 s (name_count_at s)) (drop (name_count_at s) s) _ d.first in
      let c = names_counted s in
      record {
        value = _;
        rest = _;
        inside = q.inside;
        few_paths = omega (arith, ((exact_many exact_path 2 65535 (omega arith)).writes (drop 9 s) (bytes_drop 9 s bytes) (paths_at s) _ b.first).0.0);
        few_names = omega arith;
        reads = q.next;
      }

  module _ (marks : List Bool) (seen : List ℕ) (same : (i : ℕ) → get_or marks i false ≡ any (eqb i) seen) where
    abbrev kept : List FlatNet
    kept = keep_nets seen f.nets

    count_is : kept_count s marks (net_count_at s + 2) (be16 s (net_count_at s)) ≡ length kept
    count_is =
        kept_counted s bytes (length (paths_at s)) (length (names_at s)) nets.few_paths nets.few_names marks seen same (be16 s (net_count_at s)) (net_count_at s + 2) (nets_inside s bytes f e)
        ∙ ap (λ ns. length (keep_nets seen ns)) (sym (nets_are s bytes f e))

    bytes_are : kept_bytes s marks (net_count_at s + 2) (be16 s (net_count_at s)) ≡ concat_map write_flat_net kept
    bytes_are =
        kept_spelt s bytes (length (paths_at s)) (length (names_at s)) nets.few_paths nets.few_names marks seen same (be16 s (net_count_at s)) 0 (net_count_at s + 2) nets.value nets.rest
        nets.inside nets.reads
        ∙ ap (λ ns. concat_map write_flat_net (keep_nets seen ns)) (sym (nets_are s bytes f e))

    of_is : (l : ℕ) → result_of s marks l ≡ head_bytes s (net_count_at s) 1 (length kept) l ++ concat_map write_flat_net kept
    unfolding result_of
    of_is l =
        let i = nets.inside in
        let w : within s (net_count_at s) ≡ net_count_at s = omega arith in
        let v : within s (net_count_at s + 2) ≡ net_count_at s + 2 = omega arith in
        rw (w, v) (λ k. head_bytes s (net_count_at s) 1 (count_is k) l ++ bytes_are k)

    -- the result is what is written of the file with the nets that are kept
    result_is : kept_file s marks ≡ write flat (with_nets f kept)
    unfolding kept_file counted
    result_is =
        let bs = concat_map write_flat_net kept in
        let l : length (result_of s marks 0) ≡ length (framed s 1 (be 2 (length kept) ++ bs)) = ap length (of_is 0) ∙ head_length s 1 (length kept) bs 0 in
        of_is (length (result_of s marks 0)) ∙ head_framed s 1 (length kept) bs (length (result_of s marks 0)) l
        ∙ sym (frame_written flat flat_net_at flat_net_end s (stands_net s) bytes f e flat kept)

  -- ---- the whole call

  all_in : (n j : ℕ) (es : List ℕ) → all (λ i. ltb i n) es ≡ true → In j es → j < n
  all_in n j [] h k = false_true k
  all_in n j (x ∷ xs) h k =
      let c = both (ltb x n) (all (λ i. ltb i n) xs) h in
      elim (in_cases j x xs k) [ inl q ↦ let l = ltb-true x n c.0 in omega arith | inr q ↦ all_in n j xs c.1 q ]

  named : length f.names ≡ be16 s (name_count_at s)
  named = (flat_stands s f e).name_count

  pruned_read : (es : List ℕ) (room : ℕ) → pruned es room s ≡ need (all (λ i. ltb i (length f.names)) es) 5 (fitted room (write flat (prune f es)))
  unfolding pruned
  pruned_read es room = rw e

  below_is : (es : List ℕ) (t : Bool) → all (λ i. ltb i (length f.names)) es ≡ t → entries_below es (be16 s (name_count_at s)) ≡ t
  unfolding entries_below
  below_is es t h = ap (λ n. all (λ i. ltb i n) es) (sym named) ∙ h

  written_is : (es : List ℕ) (room : ℕ) → all (λ i. ltb i (length f.names)) es ≡ true → fitted room (write flat (prune f es)) ≡ accepted s es room
  unfolding accepted prune with_nets
  written_is [] room h = ap (fitted room) (flat_write_read s bytes f e).bytes ∙ pick_true _ _ _ (below_is [] true h) (eq_yes _ _ _ _ refl refl)
  written_is (i ∷ is) room h =
      let seen = reach (length f.names) f (join [] (i ∷ is)) in
      let r = result_is (reached s (i ∷ is) (replicate 1024 false)) seen (reached_marks s bytes f e (i ∷ is) (λ j k. all_in (length f.names) j (i ∷ is) h k)) in
      ap (fitted room) (sym r) ∙ pick_true _ _ _ (below_is (i ∷ is) true h) (eq_no _ _ _ _ (omega arith) refl)

  pub pruned_is : (es : List ℕ) (room : ℕ) → pruned es room s ≡ accepted s es room
  unfolding accepted
  pruned_is es room = elim (tested (all (λ i. ltb i (length f.names)) es)) [
    | inl h ↦ pruned_read es room ∙ ap (λ t. need t 5 (fitted room (write flat (prune f es)))) h ∙ written_is es room h
    | inr h ↦ pruned_read es room ∙ ap (λ t. need t 5 (fitted room (write flat (prune f es)))) h ∙ pick_false _ _ _ (below_is es false h) refl
  ]

-- ---- each way out of the call

module _ (s es out : List ℕ) (room : ℕ) (c : Checked) (ec : c ≡ verdict (read flat s)) where
  said : c ≡ Ok tt → Bytes s → pruned es room s ≡ accepted s es room
  said h b = let x = was_read (read flat s) (sym h ∙ ec) in pruned_is s b x.0 x.1 es room

  pub prune_is : (a : Converted) → c ≡ Ok tt → Bytes s → told a ≡ answered (accepted s es room) → told a ≡ answered (pruned es room s)
  prune_is a h b e = e ∙ ap answered (sym (said h b))

  pub prune_left : (w : List ℕ) → c ≡ Ok tt → Bytes s → w ≡ written (accepted s es room) out → w ≡ written (pruned es room s) out
  prune_left w h b e = e ∙ ap (λ o. written o out) (sym (said h b))

  refused : (r : Refusal) → c ≡ Err r → pruned es room s ≡ refuse (number r)
  unfolding pruned
  refused r h = let x = was_refused (read flat s) r (read_numbered flat s) (sym h ∙ ec) in rw x

  pub prune_refused_is : (r : Refusal) → c ≡ Err r → told (Err r) ≡ answered (pruned es room s)
  unfolding answered
  prune_refused_is r h = ap answered (sym (refused r h))

  pub prune_refused_left : (r : Refusal) → c ≡ Err r → out ≡ written (pruned es room s) out
  unfolding written
  prune_refused_left r h = ap (λ o. written o out) (sym (refused r h))
