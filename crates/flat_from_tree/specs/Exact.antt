-- What the call answers and leaves is what the definitions say: on an accepted file 18 where a net needs wire 65,536, else 15 or
-- `write` of the file with each net made flat.
use Rattle.std.specs.Prelude.{Ok, Err, ℕ, suc, ◌+◌, ◌-◌, ◌<◌, ◌≤◌, min, ◌≡◌, List, [], ◌∷◌, ◌++◌, map, get_or}
use Rattle.std.proofs.Math.Path.{refl, sym, ap}
use Rattle.std.proofs.Common.{◌∙◌, subst}
use native.Mathlib.Omega.{arith}
use Rattle.std.proofs.Math.Decide.{dec_lt}
use Rattle.std.proofs.Math.ListN.{length, length-append, length-map}
use Rattle.std.proofs.lemmas.List.Edits.{sets}
use Rattle.std.proofs.Math.Seq.{length-sets}
use Rattle.net_file.specs.Lists.{Result, ok, refuse, concat_map, sum}
use Rattle.net_file.specs.Values.{FlatNet, TreeNet, File}
use Rattle.net_file.specs.Write.{be, counted, write_flat_net}
use Rattle.net_file.specs.Checks.{flat, tree, nodes_of, trees_of, read, write}
use Rattle.net_file_laws.specs.Bytes.{Bytes, length_be}
use Rattle.net_file_laws.specs.Exact.{Each}
use Rattle.net_file_laws.specs.Trees.{TreeNetFits}
use Rattle.net_file_laws.proofs.RoundTrip.{tree_write_read}
use Rattle.conversions.specs.Convert.{◌>>=◌, to_flat}
use Rattle.conversions.specs.Calls.{map_nets, convert, fitted, to_flat_call}
use Rattle.fields.specs.Fields.{be16}
use Rattle.stored.specs.Stored.{table_at, table_end, net_count_at}
use Rattle.stored.specs.Laws.{table_length}
use Rattle.stored.specs.Body.{nets_at, body_end}
use Rattle.stored_tree.specs.Tree.{tree_net_at, tree_net_end}
use Rattle.stored_tree.specs.Parts.{stands_tree_net}
use Rattle.readers_laws.specs.Reads.{read_inside}
use Rattle.put.specs.Fields.{size_part}
use Rattle.clear.specs.Zeroed.{zeroed}
use Rattle.text_writers.specs.Wrote.{far, Wrote}
use Rattle.refusals.specs.declared.Refusal.{Refusal}
use Rattle.refusals.specs.declared.Refusal.TheVariants.{TooLittleLent, TooManyWires}
use Rattle.net_check.specs.Verdict.{Checked, verdict, was_read}
use Rattle.convert_laws.specs.Tables.{count_later, count_inside}
use Rattle.convert_laws.specs.Frame.{with_nets, framed, convert_done, convert_stops, nets_stand, frame_written}
use Rattle.convert_frame.specs.Called.{Converted}
use Rattle.convert_frame.specs.Head.{head_bytes, head_length, head_framed}
use Rattle.convert_frame.specs.Called.{scratch_words, long, Called, Given, called_short, called_unread, called_read, given_full, given_written, given_refused}
use Rattle.embed_laws.specs.Nets.{flat_of}
use Rattle.embed_walk_laws.specs.Sets.{sets_then}
use Rattle.flat_nets.specs.declared.Total.{Total}
use Rattle.flat_nets.specs.declared.Spot.{Spot}
use Rattle.flat_nets.specs.Flat.{summed_all, nets_out}
use Rattle.flat_nets_laws.specs.Clean.{Clean, clean_zeroed}
use Rattle.flat_nets_laws.specs.Nets.{most, Counted, Fits, most_fits, flat_bytes, nets_written, nets_fit, nets_over, all_wires, nodes_sum}
use Rattle.flat_nets_laws.proofs.Nets.{all_to, all_passed, all_out}
use Rattle.flat_nets_laws.specs.Kept.{zeroed_within, sums_kept, nets_kept}
use Rattle.flat_from_tree.specs.Words.{place, first, count, total, total_left, whole_out, whole_left, flat_answer, flat_left, flat_out, answer_over, left_over, out_over, answer_full, left_full, out_full, answer_done, left_done, out_done}

-- ---- the nets of an accepted file

counted_all : (paths names : ℕ) (ns : List TreeNet) → Each (TreeNetFits paths names) ns → sum (map (λ (n : TreeNet). sum (map nodes_of (trees_of n))) ns) ≤ 65536 → Each Counted ns
counted_all paths names [] f h = tt
counted_all paths names (n ∷ ns) f h =
    let c = nodes_sum n in
    ((f.0.wires, omega arith), counted_all paths names ns f.1 (omega arith))

-- nothing can be stored where there is no room
nothing_stored : (i : ℕ) (bs : List ℕ) → [] ≡ sets [] i bs
nothing_stored i [] = refl
nothing_stored i (b ∷ bs) = nothing_stored (suc i) bs

given_as : {ws out : List ℕ} {a a' : Result (List ℕ)} {r r' : Converted} {w w' o o' : List ℕ} → a ≡ a' → r ≡ r' → w ≡ w' → o ≡ o' → Given a ws out r w o → Given a' ws out r' w' o'
given_as ea er ew eo g = rw (← ea, ← er, ← ew, ← eo) g

module _ (s ws : List ℕ) (b : Bytes s) (short : length s ≤ far) (l : scratch_words ≤ length ws) (x : File TreeNet) (e : read tree s ≡ ok x) where
  nets : List TreeNet
  nets = table_at (tree_net_at s) (tree_net_end s) (net_count_at s + 2) (be16 s (net_count_at s))

  nets_are : x.nets ≡ nets
  unfolding nets nets_at
  nets_are = nets_stand tree tree_net_at tree_net_end s (stands_tree_net s) b x e

  inside : table_end (tree_net_end s) (net_count_at s + 2) (be16 s (net_count_at s)) ≤ length s
  unfolding body_end
  inside = read_inside tree tree_net_at tree_net_end s (stands_tree_net s) x e

  counted_nets : Each Counted nets
  counted_nets =
      let f = (tree_write_read s b x e).fits.tables in
      let h = f.few_nodes in
      subst (Each Counted) nets_are (counted_all _ _ x.nets f.nets (omega arith))

  place_is : place s ≡ net_count_at s
  unfolding place
  place_is = let i = count_inside tree tree_net_at tree_net_end s (stands_tree_net s) b x e in omega arith

  first_is : first s ≡ net_count_at s + 2
  unfolding first
  first_is = let i = count_inside tree tree_net_at tree_net_end s (stands_tree_net s) b x e in rw place_is (omega arith)

  count_is : count s ≡ be16 s (net_count_at s)
  unfolding count
  count_is = rw place_is

  -- ---- measured

  abbrev begun : List ℕ
  begun = zeroed 67649 ws

  begun_clean : Clean begun
  begun_clean = clean_zeroed ws (omega arith)

  total_is : total s ws ≡ summed_all s begun (record { at = net_count_at s + 2; wires = 0; to = net_count_at s + 2 }) (be16 s (net_count_at s))
  unfolding total
  total_is = rw (first_is, count_is)

  total_wires : (total s ws).wires ≡ most nets 0
  unfolding nets
  total_wires = ap (λ (t : Total). t.wires) total_is ∙ all_wires s b (be16 s (net_count_at s)) begun (record { at = net_count_at s + 2; wires = 0; to = net_count_at s + 2 }) inside counted_nets

  fit_all : (total s ws).wires ≤ 65536 → Each Fits nets
  fit_all h = (most_fits nets 0 (rw (← total_wires) h)).1

  -- the whole result
  result : List ℕ
  result = framed s 1 (be 2 (be16 s (net_count_at s)) ++ flat_bytes nets)

  head_long : (n : ℕ) → length (head_bytes s (net_count_at s) 1 (be16 s (net_count_at s)) n) ≡ net_count_at s + 2
  unfolding head_bytes
  head_long n =
      let i = count_inside tree tree_net_at tree_net_end s (stands_tree_net s) b x e in
      let j = count_later tree tree_net_at tree_net_end s (stands_tree_net s) b x e in
      let z = (size_part s 5 (net_count_at s - 5) (omega arith)).is in
      simp (length-append, length_be) (omega arith)

  result_long : length result ≡ net_count_at s + 2 + length (flat_bytes nets)
  unfolding result
  result_long =
      let h = head_long 0 in
      let a = length-append (head_bytes s (net_count_at s) 1 (be16 s (net_count_at s)) 0) (flat_bytes nets) in
      sym (head_length s 1 (be16 s (net_count_at s)) (flat_bytes nets) 0) ∙ omega arith

  total_to : (total s ws).wires ≤ 65536 → (total s ws).to ≡ min far (length result)
  unfolding nets
  total_to h =
      let i = count_inside tree tree_net_at tree_net_end s (stands_tree_net s) b x e in
      ap (λ (t : Total). t.to) total_is
      ∙ all_to s b (be16 s (net_count_at s)) begun begun_clean (record { at = net_count_at s + 2; wires = 0; to = net_count_at s + 2 }) (omega arith) inside counted_nets (fit_all h)
      ∙ ap (min far) (sym result_long)

  written_is : write flat (with_nets x (map flat_of x.nets)) ≡ result
  unfolding counted result nets
  written_is =
      let ns = table_at (tree_net_at s) (tree_net_end s) (net_count_at s + 2) (be16 s (net_count_at s)) in
      let n : length (map flat_of ns) ≡ be16 s (net_count_at s) = length-map ns flat_of ∙ table_length s (tree_net_at s) (tree_net_end s) (net_count_at s + 2) (be16 s (net_count_at s)) in
      frame_written tree tree_net_at tree_net_end s (stands_tree_net s) b x e flat (map flat_of x.nets)
      ∙ ap (λ ms. framed s 1 (be 2 (length (map flat_of ms)) ++ concat_map write_flat_net (map flat_of ms))) nets_are
      ∙ (λ i. framed s 1 (be 2 (n i) ++ nets_written ns i))

  -- what the definitions say
  abbrev said : ℕ → Result (List ℕ)
  said room = convert to_flat x >>= λ y. fitted room (write flat y)

  said_over : (room : ℕ) → 65536 < (total s ws).wires → said room ≡ refuse 18
  said_over room h =
      let k : 65536 < most nets 0 = rw (← total_wires) h in
      ap (λ (r : Result (File FlatNet)). r >>= λ y. fitted room (write flat y))
      (convert_stops to_flat x 18 (ap (map_nets to_flat) nets_are ∙ nets_over nets 0 counted_nets (omega arith) k))

  said_fits : (room : ℕ) → (total s ws).wires ≤ 65536 → said room ≡ fitted room result
  said_fits room h =
      ap (λ (r : Result (File FlatNet)). r >>= λ y. fitted room (write flat y))
      (convert_done to_flat x (map flat_of x.nets) (ap (map_nets to_flat) nets_are ∙ nets_fit nets (fit_all h) ∙ ap (λ ms. ok (map flat_of ms)) (sym nets_are)))
      ∙ ap (fitted room) written_is

  -- ---- what is left in the words, and in the output

  left_kept : zeroed scratch_words (total_left s ws) ≡ zeroed scratch_words ws
  unfolding total_left
  left_kept = sums_kept scratch_words (omega arith) s b (count s) begun (record { at = first s; wires = 0; to = first s }) ∙ zeroed_within 67649 scratch_words ws (omega arith)

  whole_kept : zeroed scratch_words (whole_left s (total_left s ws)) ≡ zeroed scratch_words ws
  unfolding whole_left
  whole_kept = nets_kept scratch_words (omega arith) s b (count s) (total_left s ws) (record { at = first s; to = first s }) ∙ left_kept

  left_clean : Clean (total_left s ws)
  unfolding total_left
  left_clean = all_passed s b (count s) begun begun_clean (record { at = first s; wires = 0; to = first s })

  whole_laid : (n : ℕ) (out : List ℕ) → (total s ws).wires ≤ 65536 → n ≡ length result → n ≤ length out → length out ≤ far → whole_out s (total_left s ws) n out ≡ sets out 0 result
  unfolding whole_out nets result
  whole_laid n out h en k o =
      let head = head_bytes s (net_count_at s) 1 (be16 s (net_count_at s)) n in
      let r = result_long in
      let lh = head_long n in
      let p : Spot = record { at = net_count_at s + 2; to = net_count_at s + 2 } in
      (λ i. nets_out s (total_left s ws) (record { at = first_is i; to = first_is i }) (count_is i) (sets out 0 (head_bytes s (place_is i) 1 (count_is i) n)))
      ∙ all_out s b (be16 s (net_count_at s)) (total_left s ws) left_clean p inside counted_nets (fit_all h) (sets out 0 head) (rw length-sets o) (omega arith)
      ∙ sets_then out 0 (net_count_at s + 2) head (flat_bytes nets) (omega arith)
      ∙ ap (sets out 0) (head_framed s 1 (be16 s (net_count_at s)) (flat_bytes nets) n en)

  -- ---- 18, 15 or the result

  module _ (out : List ℕ) (roomy : length out < far) where
    given_over : 65536 < (total s ws).wires → Given (said (length out)) ws out (flat_answer s ws (length out)) (flat_left s ws (length out)) (flat_out s ws out)
    given_over h =
        let w = total_left s ws in
        given_as (sym (said_over (length out) h)) (answer_over s ws w out (total s ws) (length out) refl refl h)
        (left_over s ws w out (total s ws) (length out) refl refl (zeroed scratch_words w) h refl) (out_over s ws w out (total s ws) (length out) refl refl h)
        (given_refused TooManyWires ws (zeroed scratch_words w) out left_kept)

    module _ (h : (total s ws).wires ≤ 65536) where
      length_told : Wrote result 0 [] [] (total s ws).to
      length_told = record { is = total_to h ∙ omega arith; out = nothing_stored 0 result; fits = omega arith }

      given_15 : length out < (total s ws).to → Given (said (length out)) ws out (flat_answer s ws (length out)) (flat_left s ws (length out)) (flat_out s ws out)
      given_15 k =
          let w = total_left s ws in
          given_as (sym (said_fits (length out) h)) (answer_full s ws w out (total s ws) (length out) refl refl h k)
          (left_full s ws w out (total s ws) (length out) refl refl (zeroed scratch_words w) h k refl) (out_full s ws w out (total s ws) (length out) refl refl h k)
          (given_full result result [] [] ws out (total s ws).to length_told refl (zeroed scratch_words w) k left_kept)

      given_done : (total s ws).to ≤ length out → Given (said (length out)) ws out (flat_answer s ws (length out)) (flat_left s ws (length out)) (flat_out s ws out)
      given_done k =
          let w = total_left s ws in
          let t = total_to h in
          let n : (total s ws).to ≡ length result = omega arith in
          let o = whole_out s w (total s ws).to out in
          let wrote : Wrote result 0 out o (min far (0 + length result)) = record { is = refl; out = whole_laid (total s ws).to out h n k (omega arith); fits = omega arith } in
          given_as (sym (said_fits (length out) h)) (answer_done s ws w out (total s ws) (length out) refl refl h k)
          (left_done s ws w out (total s ws) (length out) refl refl (whole_left s w) (zeroed scratch_words (whole_left s w)) h k refl refl) (out_done s ws w out (total s ws) (length out) refl refl o h k refl)
          (given_written result result [] [] ws out (total s ws).to length_told refl (zeroed scratch_words (whole_left s w)) o (min far (0 + length result)) k roomy whole_kept wrote)

    pub given_flat : Given (said (length out)) ws out (flat_answer s ws (length out)) (flat_left s ws (length out)) (flat_out s ws out)
    given_flat = elim (dec_lt 65536 (total s ws).wires) [
      | yes h ↦ given_over h
      | no h ↦ elim (dec_lt (length out) (total s ws).to) [ yes k ↦ given_15 (omega arith) k | no k ↦ given_done (omega arith) (omega arith) ]
    ]

-- ---- the ways out of the call

-- two answers that are the same have the same value
same_file : {x y : File TreeNet} → ◌≡◌ {A = Result (File TreeNet)} (ok x) (ok y) → x ≡ y
same_file {x} {y} e = ap (λ o. value o) e
  where
    value : Result (File TreeNet) → File TreeNet
    value (ok z) = z
    value (refuse n) = x

module _ (s ws out : List ℕ) where
  pub call_short : length ws < scratch_words → Called (to_flat_call (long ws) (length out) s) ws out (Err TooLittleLent) ws out
  unfolding to_flat_call
  call_short h = called_short tree flat to_flat s ws out h

  pub call_unread : (c : Checked) (r : Refusal) → scratch_words ≤ length ws → c ≡ verdict (read tree s) → c ≡ Err r
      → Called (to_flat_call (long ws) (length out) s) ws out (Err r) ws out
  unfolding to_flat_call
  call_unread c r h ec er = called_unread tree flat to_flat s ws out c r h ec er

  pub call_read : (b : (i : ℕ) → get_or s i 0 < 256) → length s ≤ far → length out < far → (c : Checked) (r : Converted) (ws' out' : List ℕ) → scratch_words ≤ length ws → c ≡ verdict (read tree s) → c ≡ Ok tt
      → r ≡ flat_answer s ws (length out) → ws' ≡ flat_left s ws (length out) → out' ≡ flat_out s ws out
      → Called (to_flat_call (long ws) (length out) s) ws out r ws' out'
  unfolding to_flat_call
  call_read b short roomy c r ws' out' h ec ea er ew eo =
      let y = was_read (read tree s) (sym ea ∙ ec) in
      called_read tree flat to_flat s ws out c (said s ws b short h y.0 y.1 (length out)) r ws' out' h ec ea
      (λ x e. ap (λ (z : File TreeNet). convert to_flat z >>= λ f. fitted (length out) (write flat f)) (same_file (sym e ∙ y.1)))
      (given_as refl (sym er) (sym ew) (sym eo) (given_flat s ws b short h y.0 y.1 out roomy))
