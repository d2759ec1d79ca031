-- What a function of the crate leaves on each way out, and one turn of the loop, in the words of its tests and calls.
use Prim.Native.Nat.{ℕ, zero, suc, ◌+◌, ◌-◌, ◌<◌, ◌≤◌}
use Rattle.std.specs.Prelude.{◌≡◌, List, length}
use Rattle.std.proofs.Math.Path.{refl, ap}
use Rattle.std.proofs.Common.{sym, ◌∙◌, arith, not-suc-le-zero}
use Rattle.std.proofs.Math.Numerals.{sub-one}
use Rattle.words.specs.Choose.{eq_yes, eq_no, lt_yes, lt_no}
use Rattle.words.specs.Left.{Left}
use Rattle.words.specs.Left
use Rattle.fields.specs.Fields.{byte}
use Rattle.ends.specs.Ends.{within}
use Rattle.wire_tables.specs.Tables.{unlink, smaller, hung, hang}
use Rattle.resolve_pass.specs.Pass.{wire_at}
use Rattle.resolve_walk.specs.declared.Pen.{Pen}
use Rattle.resolve_walk.specs.declared.Led.{Led}
use Rattle.resolve_walk.specs.declared.Head.{Head}
use Rattle.std.specs.Prelude.{Some, None}
use Rattle.resolve_walk.specs.Penned.{Stepped, Penned}
use Rattle.resolve_walk.specs.Walk.{on, on_step, led_wire, lead, write_wire, write_head, resume, trees, wired, noded, tree}

pub on_last : (to k room : ℕ) → room ≡ 18446744073709551615 - to → room < k → 18446744073709551615 ≡ on to k
unfolding on
on_last to k room e h = rw (← e) (lt_yes _ _ _ _ h refl)

pub on_room : (to k room : ℕ) → room ≡ 18446744073709551615 - to → k ≤ room → to + k ≡ on to k
unfolding on
on_room to k room e h = rw (← e) (lt_no _ _ _ _ h refl)

module _ (s ws : List ℕ) (at : ℕ) where
  pub lead_past : length s ≤ at → record { is = record { node = 0; wire = 0; behind = 0 }; ws = ws } ≡ lead s ws at
  unfolding lead
  lead_past h = lt_no _ _ _ _ h refl

  module _ (tag : ℕ) (h : at < length s) (et : tag ≡ byte s at) where
    pub lead_node : (tag ≡ 0 → ⊥) → record { is = record { node = at + 1; wire = 0; behind = 0 }; ws = ws } ≡ lead s ws at
    unfolding lead
    lead_node n = lt_yes _ _ _ _ h (rw (← et) (eq_no _ _ _ _ n refl))

    pub lead_wire : (w c u : ℕ) (v v₁ : List ℕ) → tag ≡ 0 → w ≡ wire_at s at → c ≡ smaller ws w → v ≡ unlink ws w → u ≡ hung v c → v₁ ≡ hang v c 0
        → record { is = record { node = u; wire = c; behind = at + 1 }; ws = v₁ } ≡ lead s ws at
    unfolding lead led_wire
    lead_wire w c u v v₁ z ew ec ev eu e₁ = lt_yes _ _ _ _ h (rw (← et) (eq_yes _ _ _ _ z (rw (e₁, eu, ev, ec, ew))))

module _ (s : List ℕ) (led : Led) where
  pub resume_own : (t : Stepped) → led.behind ≡ 0 → t ≡ resume s led t
  unfolding resume
  resume_own t z = eq_yes _ _ _ _ z refl

  pub resume_on : (t : Stepped) (pen : Pen) (b : ℕ) → (led.behind ≡ 0 → ⊥) → t ≡ Some pen → b ≡ within s (led.behind + 2)
      → Some (record { from = b; to = pen.to }) ≡ resume s led t
  unfolding resume on_step
  resume_on t pen b n e eb = eq_no _ _ _ _ n (rw (eb, e))

  pub resume_deep : (t : Stepped) → (led.behind ≡ 0 → ⊥) → t ≡ None → None ≡ resume s led t
  unfolding resume on_step
  resume_deep t n e = eq_no _ _ _ _ n (rw e)

-- ---- a tree

module _ (s ws out v : List ℕ) (at to : ℕ) (l : Led) (el : l ≡ (lead s ws at).is) (ev : v ≡ (lead s ws at).ws) where
  -- what was led to, whole
  led_is : lead s ws at ≡ record { is = l; ws = v }
  led_is = sym (Left.whole (lead s ws at) el ev)

  wire_whole : (o : List ℕ) (q : Stepped) → q ≡ (write_wire s out l to).is → o ≡ (write_wire s out l to).out
      → record { is = q; ws = v; out = o } ≡ wired s (record { is = l; ws = v }) out to
  unfolding wired
  wire_whole o q eq eo = λ i. record { is = eq i; ws = v; out = eo i }

  pub tree_wire : (d : ℕ) (o : List ℕ) (q : Stepped) → l.node ≡ 0 → q ≡ (write_wire s out l to).is → o ≡ (write_wire s out l to).out
      → record { is = q; ws = v; out = o } ≡ tree s d ws out at to
  unfolding tree
  tree_wire zero o q z eq eo = rw led_is (eq_yes _ _ _ _ z (wire_whole o q eq eo))
  tree_wire (suc d) o q z eq eo = rw led_is (eq_yes _ _ _ _ z (wire_whole o q eq eo))

  pub tree_deep : (d : ℕ) → (l.node ≡ 0 → ⊥) → d ≡ 0 → record { is = None; ws = v; out = out } ≡ tree s d ws out at to
  unfolding tree
  tree_deep zero n z = rw led_is (eq_no _ _ _ _ n refl)
  tree_deep (suc d) n z = absurd (omega arith)

  pub tree_node : (d : ℕ) (h : Head) (o₁ w o : List ℕ) (r q : Stepped) → (l.node ≡ 0 → ⊥) → (d ≡ 0 → ⊥) → h ≡ (write_head s out (l.node - 1) to).is
      → o₁ ≡ (write_head s out (l.node - 1) to).out → r ≡ (trees (tree s (d - 1)) h.count v o₁ h.from h.to).is
      → w ≡ (trees (tree s (d - 1)) h.count v o₁ h.from h.to).ws → o ≡ (trees (tree s (d - 1)) h.count v o₁ h.from h.to).out
      → q ≡ resume s l r → record { is = q; ws = w; out = o } ≡ tree s d ws out at to
  unfolding tree noded
  tree_node zero h o₁ w o r q n nd eh e₁ er ew eo eq = absurd (nd refl)
  tree_node (suc d) h o₁ w o r q n nd eh e₁ er ew eo eq =
      rw led_is (eq_no _ _ _ _ n (rw (← eh, ← e₁)
      (λ i. record {
        is = (eq ∙ ap (resume s l) (rw sub-one at er)) i;
        ws = (rw sub-one at ew) i;
        out = (rw sub-one at eo) i;
      })))

-- ---- trees, one after another

module _ (one : List ℕ → List ℕ → ℕ → ℕ → Penned Stepped) (ws w out o : List ℕ) (at to : ℕ) (t : Stepped) (et : t ≡ (one ws out at to).is)
    (ew : w ≡ (one ws out at to).ws) (eo : o ≡ (one ws out at to).out) where
  pub trees_more : (k : ℕ) (pen : Pen) (x : Penned Stepped) → trees one k ws out at to ≡ x → 0 < k → t ≡ Some pen
      → trees one (k - 1) w o pen.from pen.to ≡ x
  unfolding trees on_step
  trees_more zero pen x g h e = absurd (not-suc-le-zero h)
  trees_more (suc k) pen x g h e = rw (sub-one, ew, eo) (rw (← et, e) at g)

  pub trees_deep : (k : ℕ) (x : Penned Stepped) → trees one k ws out at to ≡ x → 0 < k → t ≡ None → record { is = None; ws = w; out = o } ≡ x
  unfolding trees on_step
  trees_deep zero x g h e = absurd (not-suc-le-zero h)
  trees_deep (suc k) x g h e = rw (ew, eo) (rw (← et, e) at g)

pub trees_done : (one : List ℕ → List ℕ → ℕ → ℕ → Penned Stepped) (ws out : List ℕ) (at to k : ℕ) (x : Penned Stepped) → trees one k ws out at to ≡ x → k ≤ 0
    → record { is = Some (record { from = at; to = to }); ws = ws; out = out } ≡ x
unfolding trees
trees_done one ws out at to zero x g h = g
trees_done one ws out at to (suc k) x g h = absurd (not-suc-le-zero h)
