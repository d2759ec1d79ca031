-- What the call answers and leaves is what the definitions say: on an accepted file 17 where a net would be deeper than 64, else 15
-- or `write` of the file with the links of each net resolved.
use Rattle.std.specs.Prelude.{Ok, Err, ℕ, suc, ◌+◌, ◌-◌, ◌<◌, ◌≤◌, min, ◌≡◌, Bool, true, false, List, [], ◌∷◌, ◌++◌, get_or, drop}
use Rattle.std.proofs.Math.Path.{refl, sym, ap}
use Rattle.std.proofs.Common.{◌∙◌, append-nil, drop_at}
use native.Mathlib.Omega.{arith}
use Rattle.std.proofs.Math.Decide.{dec_lt}
use Rattle.std.proofs.Math.ListN.{length, take, length-append}
use Rattle.std.proofs.lemmas.List.Edits.{sets, sets-eq}
use Rattle.std.proofs.Math.Seq.{length-sets, length-take-le}
use Rattle.net_file.specs.Lists.{Result, ok, refuse, concat_map, all}
use Rattle.net_file.specs.Values.{TreeNet, File}
use Rattle.net_file.specs.Write.{be, counted, write_tree_net, write_body}
use Rattle.net_file.specs.Checks.{tree, trees_of, read, write}
use Rattle.net_file_laws.specs.Bytes.{Bytes, length_be}
use Rattle.net_file_laws.specs.Trees.{TreeNetFits}
use Rattle.net_file_laws.specs.RoundTrip.{Spells}
use Rattle.net_file_laws.proofs.RoundTrip.{tree_write_read}
use Rattle.conversions.specs.Convert.{◌>>=◌}
use Rattle.conversions.specs.Resolve.{resolve_all, deeper, resolve_tree}
use Rattle.conversions.specs.Calls.{map_nets, convert, fitted, resolve_tree_call}
use Rattle.words.specs.Choose.{lt_yes, lt_no}
use Rattle.fields.specs.Fields.{be16}
use Rattle.stored.specs.Stored.{net_count_at}
use Rattle.stored.specs.Laws.{table_length}
use Rattle.stored.specs.Body.{nets_at}
use Rattle.stored_tree.specs.Tree.{tree_net_at, tree_net_end}
use Rattle.stored_tree.specs.Parts.{stands_tree_net}
use Rattle.put.specs.Fields.{size_part}
use Rattle.put.specs.Laws.{put_in_yes}
use Rattle.clear.specs.Zeroed.{zeroed}
use Rattle.text_writers.specs.Wrote.{far, Wrote, sets_append}
use Rattle.refusals.specs.declared.Refusal.{Refusal}
use Rattle.refusals.specs.declared.Refusal.TheVariants.{TooLittleLent, TooDeep}
use Rattle.net_check.specs.Verdict.{Checked, verdict, was_read}
use Rattle.convert_laws.specs.Tables.{count_later, count_inside}
use Rattle.convert_laws.specs.Frame.{with_nets, framed, convert_done, convert_stops, nets_stand, frame_written}
use Rattle.convert_frame.specs.Called.{Converted}
use Rattle.convert_frame.specs.Head.{head_bytes, head_length, head_framed}
use Rattle.convert_frame.specs.Called.{scratch_words, long, Called, Given, called_short, called_unread, called_read, given_full, given_written, given_refused}
use Rattle.tree_laws.specs.Bounds.{tree_bounds}
use Rattle.store.specs.Store.{store}
use Rattle.resolve_walk.specs.Walk.{on}
use Rattle.std.specs.Prelude.{None}
use Rattle.spelt_trees.specs.Spelt.{Spelt}
use Rattle.resolve_nets.specs.Nets.{nets}
use Rattle.low_wires.specs.Zeros.{zeroed_length, zeroed_get}
use Rattle.wire_tables_laws.specs.Table.{Empty}
use Rattle.resolve_nets_laws.specs.Nets.{Nets, NetsOut, nets_are, nets_free}
use Rattle.resolve_tree.specs.Words.{place, first, count, whole, delivered, resolved, deliver_full, deliver_done, resolved_deep, resolved_at}

-- ---- the only number is 17, and as many nets come out as go in

abbrev By17 : Result TreeNet → Type 0
By17 (ok y) = Unit {0}
By17 (refuse r) = r ≡ 17

abbrev Right : ℕ → Result (List TreeNet) → Type 0
Right k (ok ys) = length ys ≡ k
Right k (refuse r) = r ≡ 17

judged : (t : Bool) (y : TreeNet) → By17 (elim t [ true ↦ ok y | false ↦ refuse 17 ])
judged true y = tt
judged false y = refl

by_17 : (m : TreeNet) → By17 (resolve_tree m)
unfolding resolve_tree
by_17 m = judged (all (λ t. elim (deeper 64 t) [ true ↦ false | false ↦ true ]) (trees_of (resolve_all m))) (resolve_all m)

right_rest : (y : TreeNet) (k : ℕ) (o : Result (List TreeNet)) → Right k o → Right (suc k) (o >>= λ ys. ok (y ∷ ys))
right_rest y k (ok ys) h = ap suc h
right_rest y k (refuse r) h = h

right_first : (k : ℕ) (t : Result TreeNet) (o : Result (List TreeNet)) → By17 t → Right k o → Right (suc k) (t >>= λ y. o >>= λ ys. ok (y ∷ ys))
right_first k (ok y) o h g = right_rest y k o g
right_first k (refuse r) o h g = h

right : (ms : List TreeNet) → Right (length ms) (map_nets resolve_tree ms)
unfolding map_nets
right [] = refl
right (m ∷ ms) = right_first (length ms) (resolve_tree m) (map_nets resolve_tree ms) (by_17 m) (right ms)

-- ---- places and bytes

on_min : (to k : ℕ) → to ≤ far → on to k ≡ min far (to + k)
unfolding on
on_min to k low = elim (dec_lt (far - to) k) [
  | yes h ↦ sym (lt_yes (far - to) k far (to + k) h (omega arith))
  | no h ↦ sym (lt_no (far - to) k far (to + k) (omega arith) (omega arith))
]

store_sets : (out : List ℕ) (at : ℕ) (bs : List ℕ) → at + length bs ≤ length out → store at bs out ≡ sets out at bs
store_sets out at bs h = put_in_yes out at bs h ∙ sym (sets-eq bs out at h)

-- nothing can be stored where there is no room
nothing_stored : (i : ℕ) (bs : List ℕ) → [] ≡ sets [] i bs
nothing_stored i [] = refl
nothing_stored i (b ∷ bs) = nothing_stored (suc i) bs

given_as : {ws out : List ℕ} {a a' : Result (List ℕ)} {r r' : Converted} {w w' o o' : List ℕ} → a ≡ a' → r ≡ r' → w ≡ w' → o ≡ o' → Given a ws out r w o → Given a' ws out r' w' o'
given_as ea er ew eo g = rw (← ea, ← er, ← ew, ← eo) g

-- ---- an accepted file

module _ (s : List ℕ) (b : Bytes s) (x : File TreeNet) (e : read tree s ≡ ok x) where
  -- how many nets, and their bytes
  abbrev n₀ : ℕ
  n₀ = length x.nets

  abbrev q : ℕ
  q = net_count_at s

  spells : Spells tree TreeNetFits s x
  spells = tree_write_read s b x e

  later : 5 ≤ q
  later = count_later tree tree_net_at tree_net_end s (stands_tree_net s) b x e

  within_file : q + 2 ≤ length s
  within_file = count_inside tree tree_net_at tree_net_end s (stands_tree_net s) b x e

  counted_nets : be16 s q ≡ n₀
  unfolding nets_at
  counted_nets =
      sym (ap length (nets_stand tree tree_net_at tree_net_end s (stands_tree_net s) b x e) ∙ table_length s (tree_net_at s) (tree_net_end s) (q + 2) (be16 s q))

  small : length s ≤ 4294967299
  unfolding write
  small =
      let f = spells.fits.size in
      let body = write_body 65 write_tree_net x in
      let l : length s ≡ 4 + length body = sym (ap length spells.bytes) ∙ simp (length-append, length_be) in
      omega arith

  head_long : (k n : ℕ) → length (head_bytes s q 65 k n) ≡ q + 2
  unfolding head_bytes
  head_long k n =
      let i = within_file in
      let j = later in
      let z = (size_part s 5 (q - 5) (omega arith)).is in
      simp (length-append, length_be) (omega arith)

  itself : s ≡ framed s 65 (be 2 n₀ ++ concat_map write_tree_net x.nets)
  unfolding with_nets counted
  itself = sym spells.bytes ∙ frame_written tree tree_net_at tree_net_end s (stands_tree_net s) b x e tree x.nets

  nets_spelt : Spelt s (q + 2) (concat_map write_tree_net x.nets) []
  nets_spelt =
      let cm = concat_map write_tree_net x.nets in
      let h = head_bytes s q 65 n₀ (length s) in
      let d : s ≡ h ++ cm = itself ∙ sym (head_framed s 65 n₀ cm (length s) (ap length itself)) in
      record { inside = within_file; bytes = ap (drop (q + 2)) d ∙ drop_at h cm (q + 2) (head_long n₀ (length s)) ∙ sym (append-nil cm) }

  place_is : place s ≡ q
  unfolding place
  place_is = let i = within_file in omega arith

  first_is : first s ≡ q + 2
  unfolding first
  first_is = let i = within_file in rw place_is (omega arith)

  count_is : count s ≡ n₀
  unfolding count
  count_is = rw place_is counted_nets

  -- what a result of length n begins with, in the output
  abbrev begun : List ℕ → ℕ → List ℕ
  begun out n = sets out 0 (head_bytes s q 65 n₀ n)

  whole_at : (ws out : List ℕ) (n : ℕ) → whole s ws out n ≡ nets s n₀ ws (begun out n) (q + 2) (q + 2)
  unfolding whole
  whole_at ws out n = λ i. nets s (count_is i) ws (sets out 0 (head_bytes s (place_is i) 65 (count_is i) n)) (first_is i) (first_is i)

  -- the place behind the nets of the file
  abbrev behind : ℕ
  behind = q + 2 + length (concat_map write_tree_net x.nets)

  whole_nets : (ws out : List ℕ) (n : ℕ) → scratch_words ≤ length ws → Empty ws → NetsOut ws (begun out n) behind (q + 2) (map_nets resolve_tree x.nets) (whole s ws out n)
  whole_nets ws out n room empty =
      let t = tree_bounds s b x e in
      let p = t.few_paths in
      let m = t.few_names in
      let i = within_file in
      let j = small in
      rw (whole_at ws out n)
      (nets_are s (length x.paths) (length x.names) (omega arith) (omega arith) small b x.nets (q + 2) [] spells.fits.tables.nets nets_spelt ws room empty (begun out n) (q + 2) (omega arith))

  -- nothing is left in the tables
  whole_free : (ws out : List ℕ) (n : ℕ) → Empty ws → Empty (whole s ws out n).ws
  whole_free ws out n empty =
      let t = tree_bounds s b x e in
      let p = t.few_paths in
      let m = t.few_names in
      rw (whole_at ws out n) (nets_free s (length x.paths) (length x.names) (omega arith) (omega arith) small b n₀ ws (begun out n) (q + 2) (q + 2) empty)

  -- what the definitions say
  abbrev said : ℕ → Result (List ℕ)
  said room = convert resolve_tree x >>= λ y. fitted room (write tree y)

  module _ (w : List ℕ) (room : scratch_words ≤ length w) (out : List ℕ) (roomy : length out < far) (ws ws' : List ℕ) (z : ws' ≡ zeroed scratch_words ws) where
    -- the words without what stood in the tables
    abbrev w₀ : List ℕ
    w₀ = zeroed 131072 w

    room₀ : scratch_words ≤ length w₀
    room₀ = rw (zeroed_length 131072 w) room

    empty₀ : Empty w₀
    empty₀ = let r = room₀ in record { room = omega arith; zeros = zeroed_get 131072 w }

    abbrev Done : Type 0
    Done = Given (said (length out)) ws out (resolved s w out).is ws' (resolved s w out).out

    given_17 : map_nets resolve_tree x.nets ≡ refuse 17 → (whole s w₀ (0 ∷ []) 0).is ≡ None → Done
    given_17 em h =
        let r = resolved_deep s w w₀ out (whole s w₀ (0 ∷ []) 0).ws (whole s w₀ (0 ∷ []) 0).is refl refl refl h in
        let a = ap (λ (r : Result (File TreeNet)). r >>= λ y. fitted (length out) (write tree y)) (convert_stops resolve_tree x 17 em) in
        given_as (sym a) (ap (λ t. t.is) r) refl (ap (λ t. t.out) r) (given_refused TooDeep ws ws' out z)

    module _ (ys : List TreeNet) (em : map_nets resolve_tree x.nets ≡ ok ys) (many : length ys ≡ n₀) where
      -- the whole result
      result : List ℕ
      result = framed s 65 (be 2 n₀ ++ concat_map write_tree_net ys)

      result_long : length result ≡ q + 2 + length (concat_map write_tree_net ys)
      unfolding result
      result_long =
          let h = head_long n₀ 0 in
          let a = length-append (head_bytes s q 65 n₀ 0) (concat_map write_tree_net ys) in
          sym (head_length s 65 n₀ (concat_map write_tree_net ys) 0) ∙ omega arith

      said_is : said (length out) ≡ fitted (length out) result
      unfolding result counted
      said_is =
          ap (λ (r : Result (File TreeNet)). r >>= λ y. fitted (length out) (write tree y)) (convert_done resolve_tree x ys em)
          ∙ ap (fitted (length out)) (frame_written tree tree_net_at tree_net_end s (stands_tree_net s) b x e tree ys ∙ ap (λ k. framed s 65 (be 2 k ++ concat_map write_tree_net ys)) many)

      -- the place behind the result
      abbrev to : ℕ
      to = on (q + 2) (length (concat_map write_tree_net ys))

      to_is : to ≡ min far (length result)
      to_is = let i = within_file in let j = small in on_min (q + 2) (length (concat_map write_tree_net ys)) (omega arith) ∙ ap (min far) (sym result_long)

      told : Wrote result 0 [] [] to
      told = record { is = to_is ∙ omega arith; out = nothing_stored 0 result; fits = omega arith }

      framed_is : to ≡ length result → head_bytes s q 65 n₀ to ++ concat_map write_tree_net ys ≡ result
      unfolding result
      framed_is n = head_framed s 65 n₀ (concat_map write_tree_net ys) to n

      module _ (g : Nets w₀ (begun (0 ∷ []) 0) behind (q + 2) ys (whole s w₀ (0 ∷ []) 0)) where
        abbrev w₁ : List ℕ
        w₁ = (whole s w₀ (0 ∷ []) 0).ws

        delivers : delivered s w₁ out to ≡ resolved s w out
        delivers = resolved_at s w w₀ out w₁ (whole s w₀ (0 ∷ []) 0).is refl refl refl (record { from = behind; to = to }) _ _ _ g.is refl refl refl

        given_15 : length out < to → Done
        given_15 k =
            let r = deliver_full s w₁ out to k ∙ delivers in
            given_as (sym said_is) (ap (λ t. t.is) r) refl (ap (λ t. t.out) r) (given_full result result [] [] ws out to told refl ws' k z)

        given_done : to ≤ length out → Nets w₁ (begun out to) behind (q + 2) ys (whole s w₁ out to) → Done
        given_done k f =
            let t = to_is in
            let n : to ≡ length result = omega arith in
            let l = result_long in
            let lb : length (begun out to) ≡ length out = length-sets out 0 (head_bytes s q 65 n₀ to) in
            let lh = head_long n₀ to in
            let lz : q + 2 ≡ 0 + length (head_bytes s q 65 n₀ to) = omega arith in
            let cm = concat_map write_tree_net ys in
            let o = (whole s w₁ out to).out in
            let c : o ≡ sets out 0 result =
            f.stored (omega arith) (omega arith) ∙ store_sets (begun out to) (q + 2) cm (omega arith)
            ∙ ap (λ p. sets (begun out to) p cm) lz ∙ sym (sets_append out 0 (head_bytes s q 65 n₀ to) cm) ∙ ap (sets out 0) (framed_is n) in
            let r = deliver_done s w₁ out (whole s w₁ out to).ws o to k refl refl ∙ delivers in
            let wrote : Wrote result 0 out o (min far (0 + length result)) = record { is = refl; out = c; fits = omega arith } in
            given_as (sym said_is) (ap (λ t. t.is) r) refl (ap (λ t. t.out) r) (given_written result result [] [] ws out to told refl ws' o (min far (0 + length result)) k roomy z wrote)

        given_ok : ((v : List ℕ) → scratch_words ≤ length v → Empty v → Nets v (begun out to) behind (q + 2) ys (whole s v out to)) → Done
        given_ok f =
            let l = g.long in
            let r = room₀ in
            elim (dec_lt (length out) to) [ yes k ↦ given_15 k | no k ↦ given_done (omega arith) (f w₁ (omega arith) (whole_free w₀ (0 ∷ []) 0 empty₀)) ]

    given_by : (o : Result (List TreeNet)) → map_nets resolve_tree x.nets ≡ o → Right n₀ o
        → ((v ds : List ℕ) (n : ℕ) → scratch_words ≤ length v → Empty v → NetsOut v (begun ds n) behind (q + 2) o (whole s v ds n)) → Done
    given_by (refuse r) em h f = given_17 (em ∙ ap refuse h) (f w₀ (0 ∷ []) 0 room₀ empty₀)
    given_by (ok ys) em h f = given_ok ys em h (f w₀ (0 ∷ []) 0 room₀ empty₀) (λ v l d. f v out (to ys em h) l d)

    pub given_resolved : Done
    given_resolved = given_by (map_nets resolve_tree x.nets) refl (right x.nets) whole_nets

-- ---- the ways out of the call

-- two answers that are the same have the same value
same_file : {x y : File TreeNet} → ◌≡◌ {A = Result (File TreeNet)} (ok x) (ok y) → x ≡ y
same_file {x} {y} e = ap (λ o. value o) e
  where
    value : Result (File TreeNet) → File TreeNet
    value (ok z) = z
    value (refuse n) = x

module _ (s ws out : List ℕ) where
  pub call_short : length ws < scratch_words → Called (resolve_tree_call (long ws) (length out) s) ws out (Err TooLittleLent) ws out
  unfolding resolve_tree_call
  call_short h = called_short tree tree resolve_tree s ws out h

  pub call_unread : (c : Checked) (r : Refusal) → scratch_words ≤ length ws → c ≡ verdict (read tree s) → c ≡ Err r
      → Called (resolve_tree_call (long ws) (length out) s) ws out (Err r) ws out
  unfolding resolve_tree_call
  call_unread c r h ec er = called_unread tree tree resolve_tree s ws out c r h ec er

  pub call_read : (b : (i : ℕ) → get_or s i 0 < 256) → length out < far → (c : Checked) (r : Converted) (ws' out' : List ℕ) → scratch_words ≤ length ws → c ≡ verdict (read tree s) → c ≡ Ok tt
      → r ≡ (resolved s (take scratch_words ws) out).is → ws' ≡ zeroed scratch_words ws → out' ≡ (resolved s (take scratch_words ws) out).out
      → Called (resolve_tree_call (long ws) (length out) s) ws out r ws' out'
  unfolding resolve_tree_call
  call_read b roomy c r ws' out' h ec ea er ew eo =
      let y = was_read (read tree s) (sym ea ∙ ec) in
      let w = take scratch_words ws in
      let l : length w ≡ scratch_words = length-take-le scratch_words ws h in
      called_read tree tree resolve_tree s ws out c (said s b y.0 y.1 (length out)) r ws' out' h ec ea
      (λ x e. ap (λ (z : File TreeNet). convert resolve_tree z >>= λ f. fitted (length out) (write tree f)) (same_file (sym e ∙ y.1)))
      (given_as refl (sym er) refl (sym eo) (given_resolved s b y.0 y.1 w (omega arith) out roomy ws ws' ew))
