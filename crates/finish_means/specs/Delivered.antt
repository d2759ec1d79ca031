-- `result` on the words is `deliver` of level Engine's result: the same bytes, or 15, for every engine that an accepted file and slices reach.
use Rattle.std.specs.Prelude.{ℕ, zero, suc, ◌+◌, ◌*◌, ◌%◌, ◌≤◌, ◌<◌, ◌≡◌, Bool, cond, ◌&&◌, List, [], ◌∷◌, ◌++◌, map, drop, eqb, T}
use Rattle.std.proofs.Math.Path.{refl, ap}
use Rattle.std.proofs.Common.{sym, ◌∙◌}
use native.Mathlib.Omega.{arith}
use Rattle.std.proofs.Math.Bool.{true, false}
use Rattle.std.proofs.Math.Option.{Option}
use Rattle.std.proofs.Math.ListN.{length, length-append}
use Rattle.std.proofs.Math.Dec.{leb}
use borrow.Author.Tests.{leb-true, le-leb}
use Rattle.words.specs.Choose.{pick_true, pick_false}
use Rattle.layout.specs.Layout.{net_by_name}
use Rattle.list_laws.specs.Tests.{both}
use Rattle.net_file.specs.Lists.{Result, ok, refuse, need, distinct, eqs, ascend, sum, all as all_of}
use Rattle.net_file.specs.Values.{Name, FlatNode, FlatNet, File}
use Rattle.net_file.specs.Read.{nodes_fit}
use Rattle.net_file.specs.Write.{be, write_flat_net, write_body}
use Rattle.net_file.specs.Checks.{flat, same_name, pairs_ordered, ordered, read}
use Rattle.net_file.specs.Checks
use Rattle.net_file_laws.specs.Bytes.{Bytes, length_be}
use Rattle.net_file_laws.specs.Flat.{FlatNetFits}
use Rattle.net_file_laws.specs.Body.{TablesFit}
use Rattle.net_file_laws.specs.RoundTrip.{FileFits, Spells}
use Rattle.net_file_laws.proofs.RoundTrip.{flat_write_read}
use Rattle.size_laws.specs.Parts.{counted_size}
use Rattle.size_laws.proofs.Parts.{flat_net_size}
use Rattle.size_laws.proofs.Files.{body_size}
use Rattle.put.specs.Laws.{put_in_yes}
use Rattle.store.specs.Store.{store}
use Rattle.definitions.specs.Nets.{holds}
use Rattle.definitions.specs.State.{Net, Pools, Engine, graph_of, net_at}
use Rattle.definitions.specs.Visit.{get_net}
use Rattle.definitions.specs.Finish
use Rattle.definitions.specs.Calls.{pools_fit, deliver, written}
use Rattle.graph_laws.specs.Rest.{Rest}
use Rattle.reached_laws.specs.Accepted.{free_number}
use Rattle.reached_laws.specs.Image.{Image}
use Rattle.result_laws.specs.Result.{result_fits}
use Rattle.means.specs.Means.{Header, Means}
use Rattle.write_nodes.specs.Wrote.{Wrote}
use Rattle.measure.specs.Measure.{measure}
use Rattle.measure.specs.declared.Size.{Size}
use Rattle.finish.specs.Finish.{write}
use Rattle.lent.specs.declared.Answer.{Answer}
use Rattle.lent.specs.declared.Answer.TheVariants.{Done, Refused}
use Rattle.finishing.specs.Finishing.{fits, run_result}
use Rattle.measure_means.specs.Sums.{total}
use Rattle.measure_means.specs.Slots.{Counts, net_total, net_weight}
use Rattle.measure_means.specs.Nets.{Follows, counted_nodes, nets_nodes_lem}
use Rattle.measure_means.specs.Measured.{measured_is, measured_exactly}
use Rattle.means.specs.Names.{net_word}
use Rattle.result_means.specs.File.{write_is}
use Rattle.result_held.specs.Follow.{image_follows}
use Rattle.result_held.specs.Held.{Places, image_lists, image_writable, image_marked}

-- what a call delivers: the bytes of the result and what was past them, or nothing
abbrev pub Delivers : List ℕ → List ℕ → Wrote Answer → Result (List ℕ) → Type 0
Delivers ws out x (ok bs) = (x.is ≡ Done (length bs)) × (x.out ≡ written (ok bs) out)
Delivers ws out x (refuse r) = (x.is ≡ Refused r) × (x.out ≡ written (refuse r) out) × (x.ws ≡ ws)

-- ---- few nodes

total_most : (f : ℕ → ℕ) (c N : ℕ) → c ≤ 4096 → ((n : ℕ) → f n ≤ c) → total f N ≤ 4096 * N
total_most f c zero b h = omega arith
total_most f c (suc N) b h = let a = h N in let i = total_most f c N b h in omega arith

total_ones : (f : ℕ → ℕ) (N : ℕ) → ((n : ℕ) → f n ≤ 1) → total f N ≤ N
total_ones f zero h = omega arith
total_ones f (suc N) h = let a = h N in let i = total_ones f N h in omega arith

net_few : (e : Engine) (k : ℕ) → net_total e (λ _. 1) k ≤ e.pools.nodes
net_few e k = total_ones (net_weight e (λ _. 1) k) e.pools.nodes (λ n. go (holds (graph_of e) k n) (eqb n (net_at e k).home.free))
  where
    go : (s t : Bool) → cond s (cond t 0 1) 0 ≤ 1
    go true true = omega arith
    go true false = omega arith
    go false t = omega arith

counted_few : (ts : List FlatNet) → sum (map counted_nodes ts) ≤ sum (map (λ (t : FlatNet). length t.nodes) ts)
counted_few [] = omega arith
counted_few (t ∷ ts) = let a = counted_few ts in let b = go t.included (length t.nodes) in omega arith
  where
    go : (s : Bool) (n : ℕ) → cond s 0 n ≤ n
    go true n = omega arith
    go false n = omega arith

-- the bytes, and what was past them
store_first : (bs out : List ℕ) → length bs ≤ length out → store 0 bs out ≡ bs ++ drop (length bs) out
store_first bs out h = let z : 0 + length bs ≡ length bs = omega arith in put_in_yes out 0 bs (omega arith) ∙ rw z

truth : (t : Bool) → T t → t ≡ true
truth true h = refl
truth false h = absurd h

module _ (Named : ℕ → Name → Type 0) (ws : List ℕ) (e : Engine) (m : Means Named ws e) (s : List ℕ) (is : Bytes s) (f : File FlatNet) (ok_f : read flat s ≡ ok f)
    (p : Pools) (fit : pools_fit p ≡ true) (image : Image p f e) (places : Places ws s e) (named : (c : ℕ) → net_by_name ws c ≡ net_word (get_net e c)) where
  ascends : ascend (map (λ (t : FlatNet). t.name) f.nets) ≡ true
  unfolding ordered
  ascends =
      let tables = distinct eqs f.paths && distinct same_name f.names in
      let names = ascend (map (λ (t : FlatNet). t.name) f.nets) in
      (both tables names (both (tables && names) (all_of (λ (t : FlatNet). pairs_ordered t.pairs) f.nets) (truth (ordered flat f) (flat_write_read s is f ok_f).ordered)).0).1

  follows : Follows e 0 f.nets
  follows = image_follows p f e image ascends

  -- far fewer nodes than 64 bits can count
  nodes_few : sum (map (λ (t : FlatNet). length t.nodes) (Finish.result f e).nets) < 18446744073709551616
  unfolding Finish.result
  nodes_few =
      let a = nets_nodes_lem e (image_lists p f e image) 0 f.nets follows in
      let b = counted_few f.nets in
      let c = (flat_write_read s is f ok_f).fits.tables.few_nodes in
      let n = m.header.few_nodes in
      let k = m.header.few_nets in
      let d = total_most (net_total e (λ _. 1)) 4096 (length e.nets) (omega arith) (λ j. let q = net_few e j in omega arith) in
      omega arith

  -- and, with at most 4,096 nodes, fewer bytes than a word can count
  bytes_few : nodes_fit flat.nodes (Finish.result f e).nets ≡ true → length (Checks.write flat (Finish.result f e)) < 4294967296
  unfolding Checks.write
  bytes_few few =
      let r = Finish.result f e in
      let t = (result_fits s is f ok_f p fit e image few).tables in
      let b = write_body 1 write_flat_net r in
      let nets = counted_size write_flat_net (FlatNetFits (length r.paths) (length r.names)) 507940 (flat_net_size (length r.paths) (length r.names)) 2 256 r.nets t.few_nets t.nets in
      let a = body_size flat FlatNetFits r t 130032642 nets in
      let c = length-append (be 4 (length b)) b in
      let d = length_be 4 (length b) in
      omega arith

  module _ (out : List ℕ) (size : length out < 18446744073709551616) where
    -- the test before anything is written
    fits_is : (t : Bool) → nodes_fit flat.nodes (Finish.result f e).nets ≡ t → fits (measure ws s) (length out) ≡ (t && leb (length (Checks.write flat (Finish.result f e))) (length out))
    unfolding fits nodes_fit
    fits_is true h =
        let x = measured_exactly Named ws s is f ok_f e m follows (image_marked p f e image ws s is places Named m) (image_lists p f e image) nodes_few (let q = bytes_few h in omega arith) in
        rw (x.0, x.1) (sym (pick_true _ _ _ h refl))
    fits_is false h =
        let c = (measured_is Named ws s is f ok_f e m follows (image_marked p f e image ws s is places Named m) (image_lists p f e image)).nodes_are in
        let few = nodes_few in
        let n : (measure ws s).nodes ≡ sum (map (λ (t : FlatNet). length t.nodes) (Finish.result f e).nets) = omega arith in
        rw n (sym (pick_false _ _ _ h refl))

    refuses : fits (measure ws s) (length out) ≡ false → Delivers ws out (run_result ws s out) (refuse 15)
    unfolding run_result written
    refuses h =
        let r : record { is = Refused 15; ws = ws; out = out } ≡ run_result ws s out = pick_false _ _ _ h refl in
        (ap (λ (x : Wrote Answer). x.is) (sym r), ap (λ (x : Wrote Answer). x.out) (sym r), ap (λ (x : Wrote Answer). x.ws) (sym r))

    delivers : nodes_fit flat.nodes (Finish.result f e).nets ≡ true → length (Checks.write flat (Finish.result f e)) ≤ length out
        → Delivers ws out (run_result ws s out) (ok (Checks.write flat (Finish.result f e)))
    unfolding run_result written
    delivers h room =
        let bs = Checks.write flat (Finish.result f e) in
        let small = bytes_few h in
        let len = (measure ws s).bytes in
        let x : len ≡ length bs
        = (measured_exactly Named ws s is f ok_f e m follows (image_marked p f e image ws s is places Named m) (image_lists p f e image) nodes_few (omega arith)).1 in
        let w = write ws s out len in
        let yes : fits (measure ws s) (length out) ≡ true = fits_is true h ∙ le-leb (length bs) (length out) room in
        let r : record { is = Done (len % 4294967296); ws = w.ws; out = w.out } ≡ run_result ws s out = pick_true _ _ _ yes refl in
        let d = write_is Named ws e m image.wired.well image.wired.ported (free_number f) s is f ok_f (image_writable p f e image ws s is places) named follows out len x (omega arith) size in
        let count : len % 4294967296 ≡ length bs = omega arith in
        (ap (λ (x : Wrote Answer). x.is) (sym r) ∙ ap Done count, ap (λ (x : Wrote Answer). x.out) (sym r) ∙ d.out_is ∙ store_first bs out room)

    pub delivered_is : Delivers ws out (run_result ws s out) (deliver (length out) (Finish.result f e))
    unfolding deliver
    delivered_is = go (nodes_fit flat.nodes (Finish.result f e).nets) (leb (length (Checks.write flat (Finish.result f e))) (length out)) refl refl
      where
        go : (t u : Bool) → nodes_fit flat.nodes (Finish.result f e).nets ≡ t → leb (length (Checks.write flat (Finish.result f e))) (length out) ≡ u
            → Delivers ws out (run_result ws s out) (need (t && u) 15 (ok (Checks.write flat (Finish.result f e))))
        go true true h i = delivers h (leb-true (length (Checks.write flat (Finish.result f e))) (length out) i)
        go true false h i = refuses (fits_is true h ∙ i)
        go false u h i = refuses (fits_is false h)
