-- What a function of the crate leaves on each way out, and one turn of each loop, in the words of its tests and calls.
use Rattle.std.specs.Prelude.{ℕ, zero, suc, ◌+◌, ◌-◌, ◌<◌, ◌≤◌, Bool, true, false, ◌≡◌, refl, List}
use Rattle.std.proofs.Common.{◌∙◌, not-suc-le-zero, sub-one}
use Rattle.words.specs.Choose.{eq_yes, eq_no, lt_yes, lt_no, pick_true, pick_false}
use Rattle.words.specs.Left.{Left, whole}
use Rattle.layout.specs.Layout.{next, net_by_name, set_node_word, entry_word, across, set_across, principal, is_principal_words}
use Rattle.lists.specs.Lists.{tighten_net_words}
use Rattle.waits.specs.Waits.{await_net_words}
use Rattle.waits.specs.declared.Awaited.{Awaited}
use Rattle.waits.specs.declared.Awaited.TheVariants.{Ready, Waiting, Full}
use Rattle.edits.specs.Edits.{on_placed, place_node}
use Rattle.edits.specs.declared.Placed.{Placed}
use Rattle.edits.specs.declared.Placed.TheVariants.{At}
use Rattle.edits.specs.declared.Placed.TheVariants.{Refused as Placed-as-Refused}
use Rattle.node_names.specs.Names.{child_count, first_child}
use Rattle.tried.specs.Tries.{spent, arity, name}
use Rattle.tried.specs.declared.Tried.{Tried}
use Rattle.tried.specs.declared.Tried.TheVariants.{Passed, Acted, Refused}
use Rattle.graft.specs.Graft.{copy_node, copy_entries, copied_port, wire_ports, wire_copy, wire_entries, wire_copies, copied_free, copy_nodes, give_way, join_ports, graft_net_words, on_awaited, graft_ready, graft_named_words, graft_child_words, graft}
use Rattle.kinds.specs.declared.NodeId.{NodeId}

pub copy_made : (ws w x : List ℕ) (t n a k : ℕ) (p : Placed) (m : NodeId) → a ≡ name ws n → k ≡ arity ws n → p ≡ (place_node ws t a k).is → w ≡ (place_node ws t a k).ws
    → p ≡ At m → x ≡ set_node_word w n 5 m.0 → record { is = 0; ws = x } ≡ copy_node ws t n
unfolding copy_node on_placed
copy_made ws w x t n a k p m ea ek ep ew em ex = rw (← ea, ← ek, ← ep, em, ex, ew)

pub copy_refused : (ws w : List ℕ) (t n a k r : ℕ) (p : Placed) → a ≡ name ws n → k ≡ arity ws n → p ≡ (place_node ws t a k).is → w ≡ (place_node ws t a k).ws
    → p ≡ Placed-as-Refused r → record { is = r; ws = w } ≡ copy_node ws t n
unfolding copy_node on_placed
copy_refused ws w t n a k r p ea ek ep ew er = rw (← ea, ← ek, ← ep, er, ew)

pub entries_more : (ws w : List ℕ) (t c c' n r k : ℕ) (x : Left ℕ) → copy_entries ws t c k ≡ x → 0 < k → n ≡ entry_word ws c 0 → r ≡ (copy_node ws t n).is
    → w ≡ (copy_node ws t n).ws → r ≤ 0 → c' ≡ entry_word w c 1 → copy_entries w t c' (k - 1) ≡ x
unfolding copy_entries
entries_more ws w t c c' n r zero x e h en er ew z ec = absurd (not-suc-le-zero h)
entries_more ws w t c c' n r (suc k) x e h en er ew z ec =
    rw (sub-one, ec, ew, en) (lt_no 0 (copy_node ws t (entry_word ws c 0)).is _ _ (rw (← en, ← er) z) refl ∙ e)

pub entries_refused : (ws w : List ℕ) (t c n r k : ℕ) (x : Left ℕ) → copy_entries ws t c k ≡ x → 0 < k → n ≡ entry_word ws c 0 → r ≡ (copy_node ws t n).is
    → w ≡ (copy_node ws t n).ws → 0 < r → record { is = r; ws = w } ≡ x
unfolding copy_entries
entries_refused ws w t c n r zero x e h en er ew z = absurd (not-suc-le-zero h)
entries_refused ws w t c n r (suc k) x e h en er ew z =
    whole (copy_node ws t (entry_word ws c 0)) (rw (← en) er) (rw (← en) ew) ∙ lt_yes 0 (copy_node ws t (entry_word ws c 0)).is _ _ (rw (← en, ← er) z) refl ∙ e

pub entries_done : (ws : List ℕ) (t c k : ℕ) (x : Left ℕ) → copy_entries ws t c k ≡ x → k ≤ 0 → record { is = 0; ws = ws } ≡ x
unfolding copy_entries
entries_done ws t c zero x e h = e
entries_done ws t c (suc k) x e h = absurd (not-suc-le-zero h)

pub wire_ports_more : (ws w : List ℕ) (x y x' y' q z k : ℕ) (r : List ℕ) → wire_ports ws x y k ≡ r → 0 < k → q ≡ across ws x → z ≡ copied_port ws q
    → w ≡ set_across ws y z → x' ≡ next x → y' ≡ next y → wire_ports w x' y' (k - 1) ≡ r
unfolding wire_ports
wire_ports_more ws w x y x' y' q z zero r e h eq ez ew ex ey = absurd (not-suc-le-zero h)
wire_ports_more ws w x y x' y' q z (suc k) r e h eq ez ew ex ey = rw (sub-one, ex, ey, ew, ez, eq) e

pub wire_ports_done : (ws : List ℕ) (x y k : ℕ) (r : List ℕ) → wire_ports ws x y k ≡ r → k ≤ 0 → ws ≡ r
unfolding wire_ports
wire_ports_done ws x y zero r e h = e
wire_ports_done ws x y (suc k) r e h = absurd (not-suc-le-zero h)

pub wire_entries_more : (ws w : List ℕ) (c c' n k : ℕ) (x : List ℕ) → wire_entries ws c k ≡ x → 0 < k → n ≡ entry_word ws c 0 → w ≡ wire_copy ws n
    → c' ≡ entry_word w c 1 → wire_entries w c' (k - 1) ≡ x
unfolding wire_entries
wire_entries_more ws w c c' n zero x e h en ew ec = absurd (not-suc-le-zero h)
wire_entries_more ws w c c' n (suc k) x e h en ew ec = rw (sub-one, ec, ew, en) e

pub wire_entries_done : (ws : List ℕ) (c k : ℕ) (x : List ℕ) → wire_entries ws c k ≡ x → k ≤ 0 → ws ≡ x
unfolding wire_entries
wire_entries_done ws c zero x e h = e
wire_entries_done ws c (suc k) x e h = absurd (not-suc-le-zero h)

pub ports_joined : (ws x : List ℕ) (f n k a : ℕ) → k ≡ arity ws n → a ≡ arity ws f → a ≡ k + 2 → x ≡ give_way ws f n k
    → record { is = Acted; ws = x } ≡ join_ports ws f n
unfolding join_ports
ports_joined ws x f n k a ek ea e ex = eq_yes _ _ _ _ (rw (← ea, ← ek) e) (rw (ex, ek))

pub ports_differ : (ws : List ℕ) (f n k a : ℕ) → k ≡ arity ws n → a ≡ arity ws f → (a ≡ k + 2 → ⊥) → record { is = Refused 13; ws = ws } ≡ join_ports ws f n
unfolding join_ports
ports_differ ws f n k a ek ea e = eq_no _ _ _ _ (λ h. e (rw (ea, ek) h)) refl

pub graft_refused : (ws w x : List ℕ) (m t n r : ℕ) → w ≡ tighten_net_words ws m → r ≡ (copy_nodes w m t).is → x ≡ (copy_nodes w m t).ws → 0 < r
    → record { is = Refused r; ws = x } ≡ graft_net_words ws m t n
unfolding graft_net_words
graft_refused ws w x m t n r ew er ex h = lt_yes _ _ _ _ (rw (← ew, ← er) h) (rw (← ew, ← er, ← ex))

pub graft_joined : (ws w x y z : List ℕ) (m t n r f : ℕ) (a : Tried) → w ≡ tighten_net_words ws m → r ≡ (copy_nodes w m t).is → x ≡ (copy_nodes w m t).ws → r ≤ 0
    → y ≡ wire_copies x m → f ≡ copied_free y m → a ≡ (join_ports y f n).is → z ≡ (join_ports y f n).ws → record { is = a; ws = z } ≡ graft_net_words ws m t n
unfolding graft_net_words
graft_joined ws w x y z m t n r f a ew er ex h ey ef ea ez =
    lt_no _ _ _ _ (rw (← ew, ← er) h) (rw (← ew, ← ex, ← ey, ← ef) (whole (join_ports y f n) ea ez))

pub ready_spent : (ws : List ℕ) (m t n : ℕ) (b : Bool) → b ≡ spent ws → b ≡ true → record { is = Refused 14; ws = ws } ≡ graft_ready ws m t n
unfolding graft_ready
ready_spent ws m t n b eb h = pick_true _ _ _ (rw (← eb) h) refl

pub ready_grafts : (ws x : List ℕ) (m t n : ℕ) (b : Bool) (a : Tried) → b ≡ spent ws → b ≡ false → a ≡ (graft_net_words ws m t n).is → x ≡ (graft_net_words ws m t n).ws
    → record { is = a; ws = x } ≡ graft_ready ws m t n
unfolding graft_ready
ready_grafts ws x m t n b a eb h ea ex = pick_false _ _ _ (rw (← eb) h) (whole (graft_net_words ws m t n) ea ex)

pub named_ready : (ws w x : List ℕ) (m t n : ℕ) (s : Awaited) (a : Tried) → s ≡ (await_net_words ws m n).is → w ≡ (await_net_words ws m n).ws → s ≡ Ready
    → a ≡ (graft_ready w m t n).is → x ≡ (graft_ready w m t n).ws → record { is = a; ws = x } ≡ graft_named_words ws m t n
unfolding graft_named_words on_awaited
named_ready ws w x m t n s a es ew e ea ex = rw (← es, e, ← ew) (whole (graft_ready w m t n) ea ex)

pub named_waits : (ws w : List ℕ) (m t n : ℕ) (s : Awaited) → s ≡ (await_net_words ws m n).is → w ≡ (await_net_words ws m n).ws → s ≡ Waiting
    → record { is = Passed; ws = w } ≡ graft_named_words ws m t n
unfolding graft_named_words on_awaited
named_waits ws w m t n s es ew e = rw (← es, e, ← ew)

pub named_full : (ws w : List ℕ) (m t n : ℕ) (s : Awaited) → s ≡ (await_net_words ws m n).is → w ≡ (await_net_words ws m n).ws → s ≡ Full
    → record { is = Refused 11; ws = w } ≡ graft_named_words ws m t n
unfolding graft_named_words on_awaited
named_full ws w m t n s es ew e = rw (← es, e, ← ew)

pub childless : (ws file : List ℕ) (t n a k : ℕ) → a ≡ name ws n → k ≡ child_count file a → k ≡ 0 → record { is = Refused 12; ws = ws } ≡ graft_child_words ws file t n
unfolding graft_child_words
childless ws file t n a k ea ek z = eq_yes _ _ _ _ (rw (← ea, ← ek) z) refl

pub not_included : (ws file : List ℕ) (t n a k c m : ℕ) → a ≡ name ws n → k ≡ child_count file a → (k ≡ 0 → ⊥) → c ≡ first_child file a → m ≡ net_by_name ws c
    → m ≡ 0 → record { is = Passed; ws = ws } ≡ graft_child_words ws file t n
unfolding graft_child_words
not_included ws file t n a k c m ea ek z ec em zm =
    rw (← ea, ← ek, ← ec, ← em) (eq_no _ _ _ _ z (eq_yes _ _ _ _ zm refl))

pub child_named : (ws file x : List ℕ) (t n a k c m : ℕ) (r : Tried) → a ≡ name ws n → k ≡ child_count file a → (k ≡ 0 → ⊥) → c ≡ first_child file a
    → m ≡ net_by_name ws c → (m ≡ 0 → ⊥) → r ≡ (graft_named_words ws m t n).is → x ≡ (graft_named_words ws m t n).ws → record { is = r; ws = x } ≡ graft_child_words ws file t n
unfolding graft_child_words
child_named ws file x t n a k c m r ea ek z ec em zm er ex =
    rw (← ea, ← ek, ← ec, ← em) (eq_no _ _ _ _ z (eq_no _ _ _ _ zm (whole (graft_named_words ws m t n) er ex)))

pub lazy_meets : (ws file x : List ℕ) (lazy b : Bool) (t n p q : ℕ) (r : Tried) → lazy ≡ true → p ≡ principal n → q ≡ across ws p → b ≡ is_principal_words q → b ≡ true
    → r ≡ (graft_child_words ws file t n).is → x ≡ (graft_child_words ws file t n).ws → record { is = r; ws = x } ≡ graft ws file lazy t n
unfolding graft
lazy_meets ws file x lazy b t n p q r l ep eq eb h er ex =
    pick_true _ _ _ l (pick_true _ _ _ (rw (← ep, ← eq, ← eb) h) (whole (graft_child_words ws file t n) er ex))

pub lazy_passes : (ws file : List ℕ) (lazy b : Bool) (t n p q : ℕ) → lazy ≡ true → p ≡ principal n → q ≡ across ws p → b ≡ is_principal_words q → b ≡ false
    → record { is = Passed; ws = ws } ≡ graft ws file lazy t n
unfolding graft
lazy_passes ws file lazy b t n p q l ep eq eb h = pick_true _ _ _ l (pick_false _ _ _ (rw (← ep, ← eq, ← eb) h) refl)

pub eager : (ws file x : List ℕ) (lazy : Bool) (t n : ℕ) (r : Tried) → lazy ≡ false → r ≡ (graft_child_words ws file t n).is → x ≡ (graft_child_words ws file t n).ws
    → record { is = r; ws = x } ≡ graft ws file lazy t n
unfolding graft
eager ws file x lazy t n r l er ex = pick_false _ _ _ l (whole (graft_child_words ws file t n) er ex)
