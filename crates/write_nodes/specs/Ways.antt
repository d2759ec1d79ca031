-- What a function of the crate leaves on each way out, and one turn of each loop, in the words of its tests and calls.
use Rattle.std.specs.Prelude.{◌≡◌, ℕ, zero, suc, ◌-◌, ◌%◌, ◌<◌, ◌≤◌, Bool, true, false, eqb, List, ◌≢◌, refl}
use Rattle.std.proofs.Common.{not-suc-le-zero, sub-one}
use Rattle.words.specs.Choose.{if_eq, eq_yes, eq_no, lt_yes, lt_no, pick_true, pick_false}
use Rattle.net_file.specs.Write.{be}
use Rattle.store.specs.Store.{store}
use Rattle.layout.specs.Layout.{next, net_word_words, node_word, set_node_word, across, set_across, principal, entry_word}
use Rattle.write_nodes.specs.Wrote.{Wrote, whole}
use Rattle.write_nodes.specs.Nodes.{on, numbered, wire_number_words, after_wire, write_wire, write_wires, aux_ports, free_ports, write_free, write_ports, write_node_words, write_live, write_entry, write_entries}
use Rattle.write_nodes.specs.declared.Pen.{Pen}
use Rattle.write_nodes.specs.declared.Page.{Page}

pub wire_new : (ws w1 w2 : List ℕ) (p q v w : ℕ) → q ≡ across ws p → q < 2147483648 → v ≡ numbered w → w1 ≡ set_across ws p v → w2 ≡ set_across w1 q v
    → record { is = w; ws = w2 } ≡ wire_number_words ws p w
unfolding wire_number_words
wire_new ws w1 w2 p q v w eq h ev e1 e2 = lt_yes _ _ _ _ (rw (← eq) h) (rw (e2, e1, ev, eq))

pub wire_met : (ws : List ℕ) (p q w : ℕ) → q ≡ across ws p → 2147483648 ≤ q → record { is = q - 2147483648; ws = ws } ≡ wire_number_words ws p w
unfolding wire_number_words
wire_met ws p q w eq h = lt_no _ _ _ _ (rw (← eq) h) (rw eq)

pub wire_written : (ws w out o : List ℕ) (p n at v : ℕ) (pen : Pen) → n ≡ (wire_number_words ws p pen.wire).is → w ≡ (wire_number_words ws p pen.wire).ws
    → o ≡ store pen.at (be 2 (n % 65536)) out → at ≡ on pen.at 2 → v ≡ after_wire pen.wire n
    → record { is = record { at = at; wire = v }; ws = w; out = o } ≡ write_wire ws out p pen
unfolding write_wire
wire_written ws w out o p n at v pen en ew eo ea ev = rw (ev, ea, eo, ew, en)

pub wires_more : (ws w out o : List ℕ) (p q k : ℕ) (pen r : Pen) (x : Wrote Pen) → write_wires ws out p k pen ≡ x → 0 < k → r ≡ (write_wire ws out p pen).is
    → w ≡ (write_wire ws out p pen).ws → o ≡ (write_wire ws out p pen).out → q ≡ next p → write_wires w o q (k - 1) r ≡ x
unfolding write_wires
wires_more ws w out o p q zero pen r x e h er ew eo eq = absurd (not-suc-le-zero h)
wires_more ws w out o p q (suc k) pen r x e h er ew eo eq = rw (sub-one, er, ew, eo, eq) e

pub wires_done : (ws out : List ℕ) (p k : ℕ) (pen : Pen) (x : Wrote Pen) → write_wires ws out p k pen ≡ x → k ≤ 0 → record { is = pen; ws = ws; out = out } ≡ x
unfolding write_wires
wires_done ws out p zero pen x e h = e
wires_done ws out p (suc k) pen x e h = absurd (not-suc-le-zero h)

pub free_written : (ws w1 w out o : List ℕ) (n at p k m v q1 q2 : ℕ) (pen end : Pen) → p ≡ principal n → k ≡ free_ports ws n
    → m ≡ (wire_number_words ws p pen.wire).is → w1 ≡ (wire_number_words ws p pen.wire).ws → v ≡ after_wire pen.wire m → q1 ≡ next p → q2 ≡ next q1
    → end ≡ (write_wires w1 out q2 k (record { at = at; wire = v })).is → w ≡ (write_wires w1 out q2 k (record { at = at; wire = v })).ws
    → o ≡ (write_wires w1 out q2 k (record { at = at; wire = v })).out
    → record { is = record { at = pen.at; wire = end.wire }; ws = w; out = o } ≡ write_free ws out n at pen
unfolding write_free
free_written ws w1 w out o n at p k m v q1 q2 pen end ep ek em e1 ev eq1 eq2 ee ew eo = rw (eo, ew, ee, eq2, eq1, ev, e1, em, ek, ep)

pub ports_written : (ws w1 w out o1 o2 o : List ℕ) (n k p a q : ℕ) (pen first r : Pen) → k ≡ aux_ports ws n → p ≡ principal n → q ≡ next p
    → first ≡ (write_wire ws out p pen).is → w1 ≡ (write_wire ws out p pen).ws → o1 ≡ (write_wire ws out p pen).out
    → o2 ≡ store first.at (be 1 (k % 256)) o1 → a ≡ on first.at 1
    → r ≡ (write_wires w1 o2 q k (record { at = a; wire = first.wire })).is → w ≡ (write_wires w1 o2 q k (record { at = a; wire = first.wire })).ws
    → o ≡ (write_wires w1 o2 q k (record { at = a; wire = first.wire })).out → record { is = r; ws = w; out = o } ≡ write_ports ws out n pen
unfolding write_ports
ports_written ws w1 w out o1 o2 o n k p a q pen first r ek ep eq ef e1 eo1 eo2 ea er ew eo =
    rw (← ep, ← ek, ← ef, ← e1, ← eo1, ← eo2, ← ea, ← eq) (whole (write_wires w1 o2 q k (record { at = a; wire = first.wire })) er ew eo)

module _ (ws file out : List ℕ) (page : Page) (pen r : Pen) where
  pub live_free : (w1 w o : List ℕ) (n f : ℕ) (s : Bool) → w1 ≡ set_node_word ws n 0 0 → f ≡ net_word_words w1 page.net.0 1 → s ≡ eqb n f → s ≡ true
      → r ≡ (write_free w1 out n page.free pen).is → w ≡ (write_free w1 out n page.free pen).ws → o ≡ (write_free w1 out n page.free pen).out
      → record { is = r; ws = w; out = o } ≡ write_live ws file out page n pen
  unfolding write_live if_eq
  live_free w1 w o n f s e1 ef es z er ew eo =
      rw (← e1) (pick_true _ _ _ (rw (← ef, ← es) z) (whole (write_free w1 out n page.free pen) er ew eo))

  pub live_node : (w1 w o : List ℕ) (n f : ℕ) (s : Bool) → w1 ≡ set_node_word ws n 0 0 → f ≡ net_word_words w1 page.net.0 1 → s ≡ eqb n f → s ≡ false
      → r ≡ (write_node_words w1 file out n pen).is → w ≡ (write_node_words w1 file out n pen).ws → o ≡ (write_node_words w1 file out n pen).out
      → record { is = r; ws = w; out = o } ≡ write_live ws file out page n pen
  unfolding write_live if_eq
  live_node w1 w o n f s e1 ef es z er ew eo =
      rw (← e1) (pick_false _ _ _ (rw (← ef, ← es) z) (whole (write_node_words w1 file out n pen) er ew eo))

  pub entry_live : (w o : List ℕ) (n t : ℕ) → t ≡ node_word ws n 0 → t ≡ page.net.0 → r ≡ (write_live ws file out page n pen).is
      → w ≡ (write_live ws file out page n pen).ws → o ≡ (write_live ws file out page n pen).out
      → record { is = r; ws = w; out = o } ≡ write_entry ws file out page n pen
  unfolding write_entry
  entry_live w o n t et z er ew eo = eq_yes _ _ _ _ (rw (← et) z) (whole (write_live ws file out page n pen) er ew eo)

pub entry_stale : (ws file out : List ℕ) (page : Page) (pen : Pen) (n t : ℕ) → t ≡ node_word ws n 0 → (t ≢ page.net.0)
    → record { is = pen; ws = ws; out = out } ≡ write_entry ws file out page n pen
unfolding write_entry
entry_stale ws file out page pen n t et z = eq_no _ _ _ _ (λ e. z (rw et e)) refl

pub entries_more : (ws w file out o : List ℕ) (page : Page) (c n d k : ℕ) (pen r : Pen) (x : Wrote Pen) → write_entries ws file out page c k pen ≡ x → 0 < k
    → n ≡ entry_word ws c 0 → r ≡ (write_entry ws file out page n pen).is → w ≡ (write_entry ws file out page n pen).ws
    → o ≡ (write_entry ws file out page n pen).out → d ≡ entry_word w c 1 → write_entries w file o page d (k - 1) r ≡ x
unfolding write_entries
entries_more ws w file out o page c n d zero pen r x e h en er ew eo ed = absurd (not-suc-le-zero h)
entries_more ws w file out o page c n d (suc k) pen r x e h en er ew eo ed = rw (sub-one, ed, er, ew, eo, en) e

pub entries_done : (ws file out : List ℕ) (page : Page) (c k : ℕ) (pen : Pen) (x : Wrote Pen) → write_entries ws file out page c k pen ≡ x → k ≤ 0
    → record { is = pen; ws = ws; out = out } ≡ x
unfolding write_entries
entries_done ws file out page c zero pen x e h = e
entries_done ws file out page c (suc k) pen x e h = absurd (not-suc-le-zero h)
