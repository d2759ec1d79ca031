-- `read-write` for the result: of an accepted file, and every engine that is an image of its run, the finish's file fits, is ordered,
-- well wired and names no free path in a rule. So its bytes are accepted, and read back as that file.
use Rattle.std.specs.Prelude.{ℕ, ◌≤◌, ◌<◌, Bool, not, ◌&&◌, T, leb}
use Rattle.std.proofs.Common.{arith, sym, ◌∙◌, subst, true≢false}
use Rattle.std.proofs.Math.Path.{◌≡◌, refl, ap}
use Rattle.std.proofs.Math.Bool.{true, false}
use Rattle.std.proofs.Math.Option.{Option, none, some}
use mathlib.Core.List.{List, [], ◌∷◌, map, Memᴰ}
use Rattle.std.proofs.Math.ListN.{length, length-map}
use borrow.Author.Tests.{leb-true}
use Rattle.list_laws.specs.Tests.{both, both_are}
use Rattle.net_file.specs.Lists.{Result, ok, refuse, need, all, any, distinct, ascend, eqs, sum}
use Rattle.net_file.specs.Values.{FlatNet, File}
use Rattle.net_file.specs.Read.{nodes_fit}
use Rattle.net_file.specs.Checks.{flat, same_name, pair_wires, pairs_ordered, flat_wired, names_free, ordered, wired, free_named, read, write}
use Rattle.net_file_laws.specs.Bytes.{Bytes}
use Rattle.net_file_laws.specs.Rules.{RuleFits}
use Rattle.net_file_laws.specs.Flat.{FlatNetFits}
use Rattle.net_file_laws.specs.Body.{LimitFits, TablesFit}
use Rattle.net_file_laws.specs.RoundTrip.{FileFits, Spells}
use Rattle.net_file_laws.proofs.RoundTrip.{flat_read_write, flat_write_read}
use Rattle.definitions.specs.Lists.{nth}
use Rattle.definitions.specs.Nets.{arity}
use Rattle.definitions.specs.State.{Pools, Engine, graph_of, net_at}
use Rattle.definitions.specs.Load.{with_free_path, included}
use Rattle.definitions.specs.Visit.{get_net}
use Rattle.definitions.specs.Finish.{live_nodes, flat_net, finish_net, result}
use Rattle.definitions.specs.Calls.{pools_fit, deliver}
use Rattle.graph_laws.specs.Rest.{FreeNode, holds_filled}
use Rattle.graph_laws.specs.Nodes.{AllNodes}
use Rattle.load_laws.specs.Finds.{all_mem}
use Rattle.load_laws.specs.Begin.{Writable, each_mem, T_true, not_false}
use Rattle.finish_laws.proofs.Twice.{drawn_wired}
use Rattle.finish_laws.specs.Fits.{each_map, drawn_fits}
use Rattle.reached_laws.specs.Accepted.{free_number}
use Rattle.reached_laws.specs.Wires.{home_at}
use Rattle.reached_laws.specs.Files.{LimitLeft}
use Rattle.reached_laws.specs.Image.{Image}
use Rattle.size_laws.specs.Each.{each_more}
use Rattle.size_laws.proofs.Files.{flat_fits}
use Rattle.result_laws.specs.Tables.{result_table, result_joined, table_longer, table_paths, table_others, table_few, table_differ, table_unnamed, names_wider, rule_wider, net_wider}
use Rattle.result_laws.specs.Nets.{Finishes, found, live_nodes_lem, live_few, net_drawn, net_finishes, net_ports}

-- ---- tests

T_of : (t : Bool) → t ≡ true → T t
T_of true e = tt
T_of false e = absurd (true≢false (sym e))

T_not : (t : Bool) → t ≡ false → T (not t)
T_not true e = absurd (true≢false e)
T_not false e = tt

-- ---- lists

all_map : {A B : Type 0} (f : B → Bool) (h : A → B) (xs : List A) → ((x : A) → Memᴰ x xs → f (h x) ≡ true) → all f (map h xs) ≡ true
all_map f h [] e = refl
all_map f h (x ∷ xs) e = both_are (f (h x)) (all f (map h xs)) (e x (Memᴰ.head refl)) (all_map f h xs (λ y m. e y (Memᴰ.tail m)))

limit_left : (o : Option ℕ) (taken : ℕ) (l : Option ℕ) → LimitFits o → LimitLeft o taken l → LimitFits l
limit_left none taken l h e = subst LimitFits (sym e) tt
limit_left (some n) taken l h e = subst LimitFits (sym e.1) (let z = e.2 in omega arith)

module _ (bs : List ℕ) (bytes : Bytes bs) (f : File FlatNet) (accepted : read flat bs ≡ ok f) (p : Pools) (fits : pools_fit p ≡ true) (e : Engine) (image : Image p f e) where
  -- the file fits and passes the checks
  spells : Spells flat FlatNetFits bs f
  spells = flat_write_read bs bytes f accepted

  record Checked : Type 0 where
    paths : distinct eqs f.paths ≡ true
    names : distinct same_name f.names ≡ true
    ascends : ascend (map (λ (t : FlatNet). t.name) f.nets) ≡ true
    pairs : all (λ (t : FlatNet). pairs_ordered t.pairs) f.nets ≡ true
    wired : all flat_wired f.nets ≡ true
    unnamed : any (names_free f.paths) f.rules ≡ false

  checked : Checked
  unfolding ordered wired free_named
  checked =
      let a = both (distinct eqs f.paths && distinct same_name f.names && ascend (map (λ (t : FlatNet). t.name) f.nets)) (all (λ (t : FlatNet). pairs_ordered t.pairs) f.nets) (T_true (ordered flat f) spells.ordered) in
      let b = both (distinct eqs f.paths && distinct same_name f.names) (ascend (map (λ (t : FlatNet). t.name) f.nets)) a.0 in
      let c = both (distinct eqs f.paths) (distinct same_name f.names) b.0 in
      record { paths = c.0; names = c.1; ascends = b.1; pairs = a.1; wired = T_true (wired flat f) spells.wired; unnamed = not_false (free_named flat f) spells.unnamed }

  more : ℕ
  more = length (result f e).paths

  longer : length f.paths ≤ more
  unfolding more
  longer = table_longer f.paths (result f e).paths (result_table f e)

  -- ---- one net

  -- what the checks ask of a net
  record NetPasses (t : FlatNet) : Type 0 where
    fitting : FlatNetFits more (length f.names) t
    ordered : pairs_ordered t.pairs ≡ true
    wired : flat_wired t ≡ true

  module _ (t : FlatNet) (m : Memᴰ t f.nets) where
    net_fits : FlatNetFits (length f.paths) (length f.names) t
    net_fits = each_mem (FlatNetFits (length f.paths) (length f.names)) f.nets t spells.fits.tables.nets m

    passes : NetPasses t
    passes = record {
      fitting = net_wider (length f.paths) more longer (length f.names) t net_fits;
      ordered = all_mem (λ (u : FlatNet). pairs_ordered u.pairs) f.nets t checked.pairs m;
      wired = all_mem flat_wired f.nets t checked.wired m;
    }

    drawn : (k : ℕ) → get_net e t.name ≡ some k → NetPasses (flat_net e k t)
    unfolding flat_net pairs_ordered pair_wires more
    drawn k h = record {
      fitting = drawn_fits (free_number f) k (graph_of e) (net_at e k).home node (live_nodes e k) (live_nodes_lem p f e image k) (flat_net e k t) (net_drawn p f e image k t) few (live_few p f e image fits k x.0)
          (length (result f e).paths) (length f.names) (length t.free) writable (net_ports p f e image k t x.0 x.2) net_fits.few_free net_fits.name;
      ordered = refl;
      wired = drawn_wired (free_number f) k (graph_of e) image.wired.well (net_at e k).home node (live_nodes e k) (live_nodes_lem p f e image k) (flat_net e k t) (net_drawn p f e image k t);
    }
      where
        x : (k < length e.nets) × ((net_at e k).home.name ≡ t.name) × (nth (included f) k ≡ some t)
        x = found p f checked.ascends e image.file t m k h

        node : FreeNode (free_number f) (graph_of e) k (net_at e k).home
        node = image.wired.free k (net_at e k).home (home_at e k x.0)

        few : (n : ℕ) → Memᴰ n (live_nodes e k) → arity (graph_of e) n ≤ 16
        few n l = (image.nodes n (holds_filled (graph_of e) k n ((live_nodes_lem p f e image k).sound n l))).1

        -- a net is included, so the free path is in the table
        writable : AllNodes (Writable (length (result f e).paths) (length f.names)) (graph_of e)
        writable = subst (λ (n : ℕ). AllNodes (Writable n (length f.names)) (graph_of e)) (sym (go (included f) refl x.2)) image.nodes
          where
            go : (ts : List FlatNet) → included f ≡ ts → nth ts k ≡ some t → length (result f e).paths ≡ length (with_free_path f.paths)
            go [] q r = let z : ◌≡◌ {A = ℕ} 0 1 = cc in absurd (omega arith)
            go (u ∷ us) q r = ap length (result_joined f e u us q)

    net_passes : NetPasses (finish_net e t)
    unfolding finish_net
    net_passes = go (get_net e t.name) refl
      where
        go : (o : Option ℕ) → get_net e t.name ≡ o → NetPasses (elim o as (λ _. FlatNet) [ none ↦ t | some k ↦ flat_net e k t ])
        go none h = passes
        go (some k) h = drawn k h

    net_named : (finish_net e t).name ≡ t.name
    net_named = (net_finishes p f e image checked.ascends t m).name

  -- ---- the file

  names_same : (ts : List FlatNet) → ((t : FlatNet) → Memᴰ t ts → Memᴰ t f.nets) → map (λ (t : FlatNet). t.name) (map (finish_net e) ts) ≡ map (λ (t : FlatNet). t.name) ts
  names_same [] i = refl
  names_same (t ∷ ts) i = λ j. net_named t (i t (Memᴰ.head refl)) j ∷ names_same ts (λ u m. i u (Memᴰ.tail m)) j

  pub result_ordered : T (ordered flat (result f e))
  unfolding ordered result
  result_ordered = T_of (ordered flat (result f e))
      (both_are (distinct eqs (result f e).paths && distinct same_name f.names && ascend (map (λ (t : FlatNet). t.name) (map (finish_net e) f.nets))) (all (λ (t : FlatNet). pairs_ordered t.pairs) (map (finish_net e) f.nets))
      (both_are (distinct eqs (result f e).paths && distinct same_name f.names) (ascend (map (λ (t : FlatNet). t.name) (map (finish_net e) f.nets)))
      (both_are (distinct eqs (result f e).paths) (distinct same_name f.names) (table_differ f.paths (result f e).paths (result_table f e) checked.paths) checked.names)
      (ap ascend (names_same f.nets (λ t m. m)) ∙ checked.ascends))
      (all_map (λ (t : FlatNet). pairs_ordered t.pairs) (finish_net e) f.nets (λ t m. (net_passes t m).ordered)))

  pub result_wired : T (wired flat (result f e))
  unfolding wired result
  result_wired = T_of (wired flat (result f e)) (all_map flat_wired (finish_net e) f.nets (λ t m. (net_passes t m).wired))

  pub result_unnamed : T (not (free_named flat (result f e)))
  unfolding free_named result
  result_unnamed = T_not (free_named flat (result f e)) (table_unnamed f.paths (result f e).paths (result_table f e) f.rules spells.fits.tables.rules checked.unnamed)

  module _ (few : nodes_fit flat.nodes (result f e).nets ≡ true) where
    result_tables : TablesFit flat FlatNetFits (result f e)
    unfolding result nodes_fit more
    result_tables =
        let t = spells.fits.tables in
        let q = result_table f e in
        record {
          few_paths = table_few f.paths (result f e).paths q t.few_paths t.few_others;
          paths = table_paths f.paths (result f e).paths q t.paths;
          few_others = (let a = table_others f.paths (result f e).paths q in let b = t.few_others in omega arith);
          few_names = t.few_names;
          names = names_wider (length f.paths) more longer f.names 0 t.names;
          few_rules = t.few_rules;
          rules = each_more (RuleFits (length f.paths)) (RuleFits more) (rule_wider (length f.paths) more longer) f.rules t.rules;
          few_nets = (let a = length-map f.nets (finish_net e) in let b = t.few_nets in omega arith);
          nets = each_map (FlatNetFits more (length f.names)) (finish_net e) f.nets (λ u m. (net_passes u m).fitting);
          few_nodes = leb-true (sum (map flat.nodes (map (finish_net e) f.nets))) 4096 few;
        }

    pub result_fits : FileFits flat FlatNetFits (result f e)
    unfolding result
    result_fits = flat_fits (result f e) (limit_left f.limit e.steps e.limit spells.fits.limit image.file.limit) result_tables

    -- `read-write` for the result, where it has at most 4,096 nodes (15)
    pub result_read : read flat (write flat (result f e)) ≡ ok (result f e)
    result_read = flat_read_write (result f e) result_fits result_ordered result_wired result_unnamed

  -- what is delivered is accepted, and read back
  pub delivered_read : (room : ℕ) (out : List ℕ) → deliver room (result f e) ≡ ok out → read flat out ≡ ok (result f e)
  unfolding deliver
  delivered_read room out h = go (nodes_fit flat.nodes (result f e).nets) refl (leb (length (write flat (result f e))) room) h
    where
      go : (s : Bool) → nodes_fit flat.nodes (result f e).nets ≡ s → (t : Bool) → need (s && t) 15 (ok (write flat (result f e))) ≡ ok out → read flat out ≡ ok (result f e)
      go true q true r = ap (read flat) (sym (ok_is r)) ∙ result_read q
        where
          ok_is : ◌≡◌ {A = Result (List ℕ)} (ok (write flat (result f e))) (ok out) → write flat (result f e) ≡ out
          ok_is s = ap (λ (x : Result (List ℕ)). elim x as (λ _. List ℕ) [ ok l ↦ l | refuse n ↦ [] ]) s
      go true q false r = let z : ◌≡◌ {A = ℕ} 0 1 = cc in absurd (omega arith)
      go false q t r = let z : ◌≡◌ {A = ℕ} 0 1 = cc in absurd (omega arith)

  -- `finishes`: its nets are the engine's
  pub result_nets : ((result f e).nets ≡ map (finish_net e) f.nets) × ((t : FlatNet) → Memᴰ t f.nets → Finishes e t (finish_net e t))
  unfolding result
  result_nets = (refl, net_finishes p f e image checked.ascends)
