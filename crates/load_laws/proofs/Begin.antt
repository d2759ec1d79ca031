-- The load of an accepted file leaves every included net well wired with its free node, and no rule names a free node's path.
use Rattle.std.specs.Prelude.{◌≡◌, ◌≢◌, ◌⊎◌, Bool, true, not, ◌&&◌, ◌||◌, replicate, T}
use Rattle.std.proofs.Math.Path.{refl, ap, subst}
use Rattle.std.proofs.Common.{sym, ◌∙◌, inl, inr, arith, true≢false, length-append}
use Prim.Native.Nat.{ℕ, zero, suc, ◌+◌, ◌<◌, ◌≤◌}
use Rattle.std.proofs.Math.Bool.{false}
use Rattle.std.proofs.Math.Option.{Option, none, some}
use mathlib.Core.List.{List, [], ◌∷◌, ◌++◌, map, append-nil, append_assoc, Memᴰ}
use Rattle.std.proofs.Math.ListN.{length, get_or}
use Rattle.std.proofs.lemmas.List.{length-replicate}
use Rattle.std.proofs.Math.Dec.{eqb}
use Rattle.list_laws.specs.Tests.{both}
use Rattle.list_laws.specs.Lists.{any_append}
use Rattle.net_file.specs.Lists.{Result, ok, refuse, all, any, distinct, ascend, eqs}
use Rattle.net_file.specs.Values.{Name, FlatNode, FlatNet, File, Rule, graft, annihilate, erase, commute, eta, free_path}
use Rattle.net_file.specs.Checks.{flat, same_name, pairs_ordered, flat_wired, rule_paths, names_free, free_named, ordered, wired, read}
use Rattle.net_file_laws.specs.Bytes.{Bytes}
use Rattle.net_file_laws.specs.Exact.{Each}
use Rattle.net_file_laws.specs.Parts.{NameFits}
use Rattle.net_file_laws.specs.Rules.{RuleFits}
use Rattle.net_file_laws.specs.Flat.{NodeFits, FlatNetFits}
use Rattle.net_file_laws.specs.RoundTrip.{Spells}
use Rattle.net_file_laws.proofs.RoundTrip.{flat_write_read}
use Rattle.definitions.specs.Lists.{◌>>=◌, is_some, or_else, keep, find, place, each, nth, from}
use Rattle.definitions.specs.Nets.{Port, Node, Graph, Home, nowhere, at, filled, holds, arity, across}
use Rattle.definitions.specs.Scripts.{Edit, Join}
use Rattle.definitions.specs.Rules.{new}
use Rattle.definitions.specs.Step.{rewrites}
use Rattle.definitions.specs.State.{Pools, Engine}
use Rattle.definitions.specs.Load.{with_free_path, free_name, End, ends_at, join_met, load_nodes, load_net, add_flat_net, empty, included, load}
use Rattle.join_laws.specs.Ports.{arity_same}
use Rattle.rule_laws.specs.Ids.{distinct_row}
use Rattle.rule_laws.specs.Rows.{mem_row, row_mem}
use Rattle.graph_laws.specs.Rest.{Rest, Unnamed, holds_filled}
use Rattle.graph_laws.specs.Nodes.{AllNodes, Brings, edits_nodes, brings_append}
use Rattle.step_laws.specs.Core.{Core, core_of}
use Rattle.step_laws.specs.Edits.{Then}
use Rattle.step_laws.specs.Ready.{Ready}
use Rattle.step_laws.specs.First.{Firsts}
use Rattle.load_laws.specs.Finds.{all_mem}
use Rattle.load_laws.specs.Ends.{ends_length}
use Rattle.load_laws.specs.Loaded.{Loaded, NetFine, Added, map_snoc, net_first}
use Rattle.load_laws.proofs.Loaded.{net_loaded}
use Rattle.load_laws.specs.Begin.{Writable, Begun, NetGood, net_begun, keep_in, each_mem, unnamed, T_true, not_false, names_none, net_good, empty_begun, spells}

module _ (path : ℕ) (Q : Name → ℕ → Type 0) (rules : List Rule) (name : Name) (named : name.path ≡ path) where
  nets_begun : (ts us : List FlatNet) (e : Engine) → ((t : FlatNet) → Memᴰ t ts → NetGood Q name t) → Begun path Q rules us (core_of e)
      → Then (λ e'. Begun path Q rules (us ++ ts) (core_of e')) (each (add_flat_net name) ts e)
  nets_begun [] us e h b = subst (λ (vs : List FlatNet). Begun path Q rules vs (core_of e)) (sym (append-nil us)) b
  nets_begun (t ∷ ts) us e h b =
      go (add_flat_net name t e) (net_loaded path name named t e (h t (mathlib.Core.List.Memᴰ.head refl)).fine b.loaded) (λ e'. nets_begun ts (us ++ t ∷ []) e' (λ u m. h u (mathlib.Core.List.Memᴰ.tail m)))
    where
      go : (r : Result Engine) → Then (λ e'. Loaded path (core_of e') × Added name t (core_of e) (core_of e')) r
          → ((e' : Engine) → Begun path Q rules (us ++ t ∷ []) (core_of e') → Then (λ e''. Begun path Q rules ((us ++ t ∷ []) ++ ts) (core_of e'')) (each (add_flat_net name) ts e'))
          → Then (λ e''. Begun path Q rules (us ++ t ∷ ts) (core_of e'')) (r >>= λ e'. each (add_flat_net name) ts e')
      go (refuse r) x k = tt
      go (ok e') x k =
          subst (λ (vs : List FlatNet). Then (λ e''. Begun path Q rules vs (core_of e'')) (each (add_flat_net name) ts e')) (append_assoc us (t ∷ []) ts)
          (k e' ((net_begun path Q rules name named) us t (core_of e) (core_of e') (h t (mathlib.Core.List.Memᴰ.head refl)) b x.0 x.1))

module _ (bs : List ℕ) (b : Bytes bs) (f : File FlatNet) (h : read flat bs ≡ ok f) (p : Pools) (e : Engine) (q : load p f ≡ ok e) where
  -- what the load of an accepted file leaves: each net has as many free ports as the file gives it free wires, each node can be written
  pub load_begun : Begun (free_name f.paths).path (Writable (length (with_free_path f.paths)) (length f.names)) f.rules (included f) (core_of e)
  unfolding load included
  load_begun = go (load p f) (nets_begun path Q f.rules (free_name f.paths) refl (included f) [] (empty p f) good (empty_begun path Q p f)) q
    where
      path : ℕ
      path = (free_name f.paths).path

      Q : Name → ℕ → Type 0
      Q = Writable (length (with_free_path f.paths)) (length f.names)

      good : (t : FlatNet) → Memᴰ t (keep (λ t. t.included) f.nets) → NetGood Q (free_name f.paths) t
      good t m =
          let i = keep_in (λ t. t.included) f.nets t m in
          net_good f (T_true (ordered flat f) (spells bs b f h p e q).ordered) (T_true (wired flat f) (spells bs b f h p e q).wired) t i (each_mem (FlatNetFits (length f.paths) (length f.names)) f.nets t (spells bs b f h p e q).fits.tables.nets i)

      go : (r : Result Engine) → Then (λ e'. Begun path Q f.rules (included f) (core_of e')) r → r ≡ ok e → Begun path Q f.rules (included f) (core_of e)
      go (refuse r) x y = let z : ◌≡◌ {A = ℕ} 0 1 = cc in absurd (omega arith)
      go (ok e') x y = subst (λ (d : Engine). Begun path Q f.rules (included f) (core_of d)) (ap (λ (r : Result Engine). elim r as (λ _. Engine) [ ok d ↦ d | refuse n ↦ e' ]) y) x

  -- `wired` at the start: it is ready
  pub load_ready : Ready (free_name f.paths).path (core_of e)
  load_ready = record {
    unnamed = subst (Unnamed (free_name f.paths).path) (sym load_begun.rules) (unnamed f.paths f.rules (spells bs b f h p e q).fits.tables.rules (names_none f (not_false (free_named flat f) (spells bs b f h p e q).unnamed)));
    rest = load_begun.loaded.rest;
    tracked = load_begun.loaded.tracked;
  }
