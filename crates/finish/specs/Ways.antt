-- What a function of the crate leaves on each way out, and one turn of the loop, in the words of its tests and calls.
use Rattle.std.specs.Prelude.{◌≡◌, ℕ, zero, suc, ◌+◌, ◌-◌, ◌<◌, ◌≤◌, Bool, true, false, List, ◌∷◌, ◌≢◌}
use Rattle.std.proofs.Common.{not-suc-le-zero, sub-one}
use Rattle.words.specs.Choose.{pick, if_lt, eq_yes, eq_no, pick_true, pick_false}
use Rattle.net_file.specs.Values.{free_path}
use Rattle.net_file.specs.Write.{be}
use Rattle.fields.specs.Fields.{be16}
use Rattle.stored.specs.Stored.{flat_net_end, name_count_at, net_count_at}
use Rattle.put.specs.Written.{part}
use Rattle.ends.specs.Ends.{within, next_net, next_is}
use Rattle.store.specs.Store.{store, between}
use Rattle.layout.specs.Layout.{net_by_name}
use Rattle.measure.specs.Measure.{path_joins}
use Rattle.write_nodes.specs.Wrote.{Wrote, whole}
use Rattle.write_nodes.specs.Nodes.{on, write_list}
use Rattle.write_nodes.specs.declared.Pen.{Pen}
use Rattle.finish.specs.Finish.{live_nodes_words, write_net_head, write_included, write_net, write_nets, write_head, write_path_words, write_rest, write}

module _ (ws file out : List ℕ) (t from at : ℕ) where
  pub included_written : (w o1 o2 o : List ℕ) (k first free counter : ℕ) (pen : Pen) → k ≡ live_nodes_words ws t → first ≡ (write_net_head file out from at k).is
      → o1 ≡ (write_net_head file out from at k).out → free ≡ on at 8
      → pen ≡ (write_list ws file o1 (record { net = record { 0 = t }; free = free }) (record { at = first; wire = 0 })).is
      → w ≡ (write_list ws file o1 (record { net = record { 0 = t }; free = free }) (record { at = first; wire = 0 })).ws
      → o2 ≡ (write_list ws file o1 (record { net = record { 0 = t }; free = free }) (record { at = first; wire = 0 })).out
      → counter ≡ on at 3 → o ≡ store counter (be 4 pen.wire) o2 → record { is = pen.at; ws = w; out = o } ≡ write_included ws file out t from at
  unfolding write_included
  included_written w o1 o2 o k first free counter pen ek ef e1 er ep ew e2 ec eo = rw (eo, ec, ep, ew, e2, er, ef, e1, ek)

pub net_kept : (ws file out o : List ℕ) (from end at name t d r : ℕ) → name ≡ be16 file from → t ≡ net_by_name ws name → t ≡ 0
    → end ≡ within file (flat_net_end file from) → o ≡ store at (between file from end) out → d ≡ end - from → r ≡ on at d
    → record { is = r; ws = ws; out = o } ≡ write_net ws file out from (within file (flat_net_end file from)) at
unfolding write_net
net_kept ws file out o from end at name t d r en et z ee eo ed er = eq_yes _ _ _ _ (rw (← en, ← et) z) (rw (eo, er, ed, ee))

pub net_anew : (ws w file out o : List ℕ) (from end at name t r : ℕ) → name ≡ be16 file from → t ≡ net_by_name ws name → (t ≢ 0)
    → r ≡ (write_included ws file out t from at).is → w ≡ (write_included ws file out t from at).ws → o ≡ (write_included ws file out t from at).out
    → record { is = r; ws = w; out = o } ≡ write_net ws file out from end at
unfolding write_net
net_anew ws w file out o from end at name t r en et z er ew eo =
    rw (← en, ← et) (eq_no _ _ _ _ z (whole (write_included ws file out t from at) er ew eo))

pub nets_more : (ws w file out o : List ℕ) (from place k at r : ℕ) (x : Wrote ℕ) → write_nets ws file out from k at ≡ x → 0 < k
    → r ≡ (write_net ws file out from (within file (flat_net_end file from)) at).is → w ≡ (write_net ws file out from (within file (flat_net_end file from)) at).ws
    → o ≡ (write_net ws file out from (within file (flat_net_end file from)) at).out → place ≡ next_net file from k
    → write_nets w file o place (k - 1) r ≡ x
unfolding write_nets
nets_more ws w file out o from place zero at r x e h er ew eo ep = absurd (not-suc-le-zero h)
nets_more ws w file out o from place (suc zero) at r x e h er ew eo ep = rw (er, ew, eo) e
nets_more ws w file out o from place (suc (suc k)) at r x e h er ew eo ep = rw (sub-one, er, ew, eo, next_is file from place k ep) e

pub nets_done : (ws file out : List ℕ) (from k at : ℕ) (x : Wrote ℕ) → write_nets ws file out from k at ≡ x → k ≤ 0 → record { is = at; ws = ws; out = out } ≡ x
unfolding write_nets
nets_done ws file out from zero at x e h = e
nets_done ws file out from (suc k) at x e h = absurd (not-suc-le-zero h)

pub path_written : (s out o : List ℕ) (at : ℕ) → s ≡ 15 ∷ free_path → o ≡ store at (between s 0 16) out → o ≡ (write_path_words out at).out
unfolding write_path_words between if_lt pick part
path_written s out o at es eo = rw (eo, es)

pub rest_written : (ws w file out o1 o : List ℕ) (names at q from d to k r : ℕ) → q ≡ within file (net_count_at file) → from ≡ within file (q + 2)
    → d ≡ from - names → to ≡ on at d → k ≡ be16 file q → o1 ≡ store at (between file names from) out → r ≡ (write_nets ws file o1 from k to).is
    → w ≡ (write_nets ws file o1 from k to).ws → o ≡ (write_nets ws file o1 from k to).out
    → record { is = r; ws = w; out = o } ≡ write_rest ws file out names at
unfolding write_rest
rest_written ws w file out o1 o names at q from d to k r eq ef ed et ek e1 er ew eo =
    rw (← eq, ← ef, ← ed, ← et, ← ek, ← e1) (whole (write_nets ws file o1 from k to) er ew eo)

module _ (ws w file out o1 o : List ℕ) (length names r : ℕ) (b : Bool) where
  pub path_joined : (o2 o3 : List ℕ) (at : ℕ) → names ≡ within file (name_count_at file) → o1 ≡ store 11 (between file 11 names) out → b ≡ path_joins ws file
      → b ≡ true → o2 ≡ write_head ws file o1 length 1 → at ≡ (write_path_words o2 names).is → o3 ≡ (write_path_words o2 names).out
      → r ≡ (write_rest ws file o3 names at).is → w ≡ (write_rest ws file o3 names at).ws → o ≡ (write_rest ws file o3 names at).out
      → record { is = r; ws = w; out = o } ≡ write ws file out length
  unfolding write
  path_joined o2 o3 at en e1 eb h e2 ea e3 er ew eo =
      rw (← en, ← e1, ← e2, ← ea, ← e3) (pick_true _ _ _ (rw (← eb) h) (whole (write_rest ws file o3 names at) er ew eo))

  pub path_there : (o2 : List ℕ) → names ≡ within file (name_count_at file) → o1 ≡ store 11 (between file 11 names) out → b ≡ path_joins ws file
      → b ≡ false → o2 ≡ write_head ws file o1 length 0
      → r ≡ (write_rest ws file o2 names names).is → w ≡ (write_rest ws file o2 names names).ws → o ≡ (write_rest ws file o2 names names).out
      → record { is = r; ws = w; out = o } ≡ write ws file out length
  unfolding write
  path_there o2 en e1 eb h e2 er ew eo =
      rw (← en, ← e1, ← e2) (pick_false _ _ _ (rw (← eb) h) (whole (write_rest ws file o2 names names) er ew eo))
