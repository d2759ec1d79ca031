-- The nets of the result written, in the file's order: an included one anew, another as it stands.
use Rattle.std.specs.Prelude.{ℕ, suc, ◌+◌, ◌-◌, ◌%◌, ◌≤◌, ◌<◌, ◌≡◌, List, [], ◌∷◌, ◌++◌, map, get_or, drop}
use Rattle.std.proofs.Math.Path.{refl, sym, ap}
use Rattle.std.proofs.Common.{◌∙◌, length-append}
use native.Mathlib.Omega.{arith}
use Rattle.std.proofs.Math.Decide.{dec_lt}
use Rattle.std.proofs.Math.Option.{Option, none, some}
use Rattle.std.proofs.Math.ListN.{length}
use Rattle.words.specs.Choose.{lt_yes, lt_no, eq_yes, eq_no}
use Rattle.layout.specs.Layout.{net_by_name}
use Rattle.net_file.specs.Lists.{ok, concat_map}
use Rattle.net_file.specs.Values.{Name, FlatNode, FlatNet, File}
use Rattle.net_file.specs.Write.{write_flat_net}
use Rattle.net_file.specs.Checks.{flat, read}
use Rattle.net_file_laws.specs.Bytes.{Bytes}
use Rattle.net_file_laws.specs.Exact.{Each}
use Rattle.net_file_laws.specs.Flat.{FlatNetFits}
use Rattle.fields.specs.Fields.{be16}
use Rattle.stored.specs.Stored.{flat_net_at, flat_net_end}
use Rattle.ends.specs.Ends.{within}
use Rattle.store.specs.Store.{store, between, store_none}
use Rattle.definitions.specs.Lists.{from}
use Rattle.definitions.specs.Nets.{Graph, arity}
use Rattle.definitions.specs.State.{Net, Engine, graph_of, net_at}
use Rattle.definitions.specs.Visit.{get_net}
use Rattle.definitions.specs.Finish.{flat_net, finish_net}
use Rattle.script_laws.specs.Tidy.{WellWired}
use Rattle.rule_laws.specs.Places.{Ported}
use Rattle.means.specs.Means.{Header, Means}
use Rattle.means.specs.Frame.{Rest}
use Rattle.write_nodes.specs.Wrote.{Wrote}
use Rattle.write_nodes.specs.Nodes.{on}
use Rattle.finish.specs.Finish.{write_included, write_net, write_nets}
use Rattle.parts_placed.specs.Spans.{Spans, spans_between, Found}
use Rattle.parts_placed.specs.Tables.{net_found}
use Rattle.measure_means.specs.Lengths.{free_wires_lem}
use Rattle.measure_means.specs.Nets.{Follows, anew, kept, finish_anew, finish_kept}
use Rattle.wires_means.specs.Stores.{length_store, store_then}
use Rattle.nodes_written.specs.Entries.{OutRegion}
use Rattle.nodes_written.specs.Whole.{Of, Whole, whole_next}
use Rattle.means.specs.Names.{net_word}
use Rattle.result_means.specs.Net.{Writable, NetDone, write_included_is}

-- bytes are written at a place, and the next place is after them
pub record Done (bytes out : List ℕ) (at : ℕ) (x : Wrote ℕ) : Type 0 where
  pub is : x.is ≡ at + length bytes
  pub out_is : x.out ≡ store at bytes out

module _ (Named : ℕ → Name → Type 0) (ws : List ℕ) (e : Engine) (m : Means Named ws e) (well : WellWired (graph_of e)) (ported : Ported (graph_of e)) (path : ℕ)
    (s : List ℕ) (is : Bytes s) (f : File FlatNet) (ok_f : read flat s ≡ ok f) (can : (k : ℕ) → k < length e.nets → Writable ws s e path k)
    (named : (c : ℕ) → net_by_name ws c ≡ net_word (get_net e c)) where
  -- the nets from k on are still to be written
  pub record Due (k : ℕ) (w : List ℕ) : Type 0 where
    pub low : (i : ℕ) → i < 5184 → get_or w i 0 ≡ get_or ws i 0
    pub whole : (j : ℕ) → k ≤ j → j < length e.nets → Whole Named ws e m j w

  -- after one
  due_next : (k : ℕ) (w : List ℕ) (t : FlatNet) (out : List ℕ) (at : ℕ) (x : Wrote ℕ) → Due k w → NetDone e k t w out at x → Due (suc k) x.ws
  due_next k w t out at x d n = record {
    low = λ i h. n.rest.same i (λ q o. (omega arith, λ j l. omega arith)) ∙ d.low i h;
    whole = λ j a b. whole_next Named ws e m j k w x.ws (omega arith) (d.whole j (omega arith) b) n.rest n.net;
  }

  -- which net has a name
  name_kept : (w : List ℕ) → ((i : ℕ) → i < 5184 → get_or w i 0 ≡ get_or ws i 0) → (c : ℕ) → net_by_name w c ≡ net_by_name ws c
  unfolding net_by_name
  name_kept w low c = elim (dec_lt c 1024) [
    | yes h ↦ sym (lt_yes c 1024 (get_or w (64 + c) 0) 0 h refl) ∙ low (64 + c) (omega arith) ∙ lt_yes c 1024 (get_or ws (64 + c) 0) 0 h refl
    | no h ↦ sym (lt_no c 1024 (get_or w (64 + c) 0) 0 (omega arith) refl) ∙ lt_no c 1024 (get_or ws (64 + c) 0) 0 (omega arith) refl
  ]

  stored_name : (a : ℕ) → (flat_net_at s a).name ≡ be16 s a
  unfolding flat_net_at
  stored_name a = refl

  -- the net of a stored name
  found_net : (w : List ℕ) (k a : ℕ) (t : FlatNet) → Due k w → t ≡ flat_net_at s a → net_by_name w (be16 s a) ≡ net_word (get_net e t.name)
  found_net w k a t d v =
      name_kept w d.low (be16 s a) ∙ named (be16 s a) ∙ ap (λ (c : ℕ). net_word (get_net e c)) (sym (stored_name a) ∙ ap (λ (u : FlatNet). u.name) (sym v))

  -- an included net
  net_anew : (k : ℕ) (t : FlatNet) (w out : List ℕ) (a at : ℕ) (r : List ℕ) → Due k w → get_net e t.name ≡ some k → k < length e.nets
      → arity (graph_of e) (net_at e k).home.free ≡ 2 + length t.free → a ≤ length s → drop a s ≡ write_flat_net t ++ r → t ≡ flat_net_at s a
      → at + length (write_flat_net (flat_net e k t)) ≤ length out → length out < 18446744073709551616 → NetDone e k t w out at (write_net w s out a (flat_net_end s a) at)
  unfolding write_net
  net_anew k t w out a at r d n h ports_are here stands value room size =
      let found : net_by_name w (be16 s a) ≡ k + 1 = found_net w k a t d value ∙ ap net_word n in
      rw (found, ← eq_no (k + 1) 0 (record { is = on at (flat_net_end s a - a); ws = w; out = store at (between s a (flat_net_end s a)) out }) (write_included w s out (k + 1) a at) (omega arith) refl)
      (write_included_is Named ws e m well ported path k h s (can k h) w (d.whole k (omega arith) h) t out a at r here stands value (free_wires_lem e k t ports_are) room size)

  -- another
  net_kept : (k : ℕ) (t : FlatNet) (w out : List ℕ) (a at : ℕ) → Due k w → get_net e t.name ≡ none → t ≡ flat_net_at s a → Spans s a (flat_net_end s a) (write_flat_net t)
      → at + length (write_flat_net t) ≤ length out → length out < 18446744073709551616
      → write_net w s out a (flat_net_end s a) at ≡ record { is = at + length (write_flat_net t); ws = w; out = store at (write_flat_net t) out }
  unfolding write_net on
  net_kept k t w out a at d n value p room size =
      let found : net_by_name w (be16 s a) ≡ 0 = found_net w k a t d value ∙ ap net_word n in
      let long : flat_net_end s a - a ≡ length (write_flat_net t) = let i = p.end in omega arith in
      let place : (at + length (write_flat_net t)) % 18446744073709551616 ≡ at + length (write_flat_net t) = omega arith in
      sym (eq_yes (net_by_name w (be16 s a)) 0 _ _ found refl) ∙ rw (spans_between s a (flat_net_end s a) (write_flat_net t) p, long, place)

  -- the first, then the others
  nets_cons : (w out : List ℕ) (a k at : ℕ) → flat_net_end s a ≤ length s
      → write_nets w s out a (suc k) at
      ≡ write_nets (write_net w s out a (flat_net_end s a) at).ws s (write_net w s out a (flat_net_end s a) at).out (flat_net_end s a) k (write_net w s out a (flat_net_end s a) at).is
  unfolding write_nets
  nets_cons w out a k at h = let end : within s (flat_net_end s a) ≡ flat_net_end s a = omega arith in rw end

  nets_none : (w out : List ℕ) (a at : ℕ) → write_nets w s out a 0 at ≡ record { is = at; ws = w; out = out }
  unfolding write_nets
  nets_none w out a at = refl

  pub write_nets_is : (ts : List FlatNet) (k : ℕ) (w out : List ℕ) (a at : ℕ) → Follows e k ts → Each (FlatNetFits (length f.paths) (length f.names)) ts → a ≤ length s
      → drop a s ≡ concat_map write_flat_net ts → Due k w → at + length (concat_map write_flat_net (map (finish_net e) ts)) ≤ length out → length out < 18446744073709551616
      → Done (concat_map write_flat_net (map (finish_net e) ts)) out at (write_nets w s out a (length ts) at)
  write_nets_is [] k w out a at r fit here stands d room size = rw (nets_none w out a at) (record { is = omega arith; out_is = store_none at out })
  write_nets_is (t ∷ ts) k w out a at (anew inc n h ports_are r) fit here stands d room size =
      let x = net_found s is f ok_f a t (concat_map write_flat_net ts) fit.0 here stands in
      let u = write_flat_net (finish_net e t) in
      let more = concat_map write_flat_net (map (finish_net e) ts) in
      let l = length-append u more in
      let same : u ≡ write_flat_net (flat_net e k t) = ap write_flat_net (finish_anew e t k n) in
      let room' : at + length u ≤ length out = omega arith in
      let y = net_anew k t w out a at (concat_map write_flat_net ts) d n h ports_are here stands x.value (rw same at room') size in
      let z = write_net w s out a (flat_net_end s a) at in
      let oi : z.out ≡ store at u out = y.out_is ∙ ap (λ (b : List ℕ). store at b out) (sym same) in
      let ii : z.is ≡ at + length u = y.is ∙ ap (λ (b : List ℕ). at + length b) (sym same) in
      let long : length z.out ≡ length out = rw oi (length_store out at u room') in
      let rest = write_nets_is ts (suc k) z.ws z.out (flat_net_end s a) z.is r fit.1 x.spans.inside (sym x.rest) (due_next k w t out at z d y) (omega arith) (omega arith) in
      rw (nets_cons w out a (length ts) at x.spans.inside) (record {
        is = rest.is ∙ (let q : z.is + length more ≡ at + length (u ++ more) = omega arith in q);
        out_is = rest.out_is ∙ rw (ii, oi) (store_then out at u more (omega arith));
      })
  write_nets_is (t ∷ ts) k w out a at (kept inc n r) fit here stands d room size =
      let x = net_found s is f ok_f a t (concat_map write_flat_net ts) fit.0 here stands in
      let u = write_flat_net (finish_net e t) in
      let more = concat_map write_flat_net (map (finish_net e) ts) in
      let l = length-append u more in
      let same : u ≡ write_flat_net t = ap write_flat_net (finish_kept e t n) in
      let room' : at + length u ≤ length out = omega arith in
      let y = net_kept k t w out a at d n x.value x.spans (rw same at room') size in
      let o = store at u out in
      let long : length o ≡ length out = length_store out at u room' in
      let rest = write_nets_is ts k w o (flat_net_end s a) (at + length u) r fit.1 x.spans.inside (sym x.rest) d (omega arith) (omega arith) in
      rw (nets_cons w out a (length ts) at x.spans.inside, y, ← same) (record {
        is = rest.is ∙ (let q : at + length u + length more ≡ at + length (u ++ more) = omega arith in q);
        out_is = rest.out_is ∙ store_then out at u more (omega arith);
      })
