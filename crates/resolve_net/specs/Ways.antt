-- What a function of the crate leaves on each way out, and one turn of each loop, in the words of its tests and calls.
use Rattle.std.specs.Prelude.{◌≡◌, ℕ, zero, suc, ◌+◌, ◌-◌, ◌*◌, ◌%◌, ◌<◌, ◌≤◌, List, replicate, ◌≢◌}
use Rattle.std.proofs.Math.Path.{refl}
use Rattle.std.proofs.Common.{ap, not-suc-le-zero, sub-one}
use native.Mathlib.Omega.{arith}
use Rattle.words.specs.Choose.{eq_yes, eq_no, lt_yes, lt_no}
use Rattle.net_file.specs.Write.{be}
use Rattle.fields.specs.Fields.{byte, be16}
use Rattle.ends.specs.Ends.{within}
use Rattle.store.specs.Store.{store, between}
use Rattle.wire_tables.specs.Tables.{hung, kept_left, kept_right}
use Rattle.wire_blocks.specs.Blocks.{stride, looked}
use Rattle.wire_blocks.specs.Ways.{looked_more, looked_done}
use Rattle.wire_blocks.specs.Laws.{wires_from}
use Rattle.resolve_pass.specs.Pass.{next, hung_links, marked_links}
use Rattle.resolve_walk.specs.declared.Pen.{Pen}
use Rattle.std.specs.Prelude.{Some, None}
use Rattle.resolve_walk.specs.Penned.{Stepped, Penned, Inked, whole}
use Rattle.resolve_walk.specs.Walk.{on, on_step, tree, trees}
use Rattle.resolve_net.specs.declared.Listed.{Listed}
use Rattle.resolve_net.specs.declared.Ready.{Ready}
use Rattle.resolve_net.specs.Plain.{copy_tree, copy_link, copy_links, plain}
use Rattle.resolve_net.specs.Renamed.{visit_link, visit_links, list_tree, circle, circles, marks_of, left_below, left_circles, end_links, renamed_links, renamed}
use Rattle.resolve_net.specs.Net.{onward, wires_at, resolved}

-- a contract's two equations from one, and one from two
pub inked : {A : Type 0} {x : Inked A} {a : A} {o : List ℕ} → record { is = a; out = o } ≡ x → (a ≡ x.is) × (o ≡ x.out)
inked e = (ap (λ t. t.is) e, ap (λ t. t.out) e)

both : {A : Type 0} (x : Inked A) {a : A} {o : List ℕ} → a ≡ x.is → o ≡ x.out → record { is = a; out = o } ≡ x
both x e f = λ i. record { is = e i; out = f i }

module _ (s ws : List ℕ) where
  pub copy_links_more : (out o : List ℕ) (i j k to p : ℕ) (x : Inked ℕ) → copy_links s ws k out i to ≡ x → 0 < k → p ≡ (copy_link s ws out i to).is
      → o ≡ (copy_link s ws out i to).out → j ≡ (i + 1) % 4294967296 → copy_links s ws (k - 1) o j p ≡ x
  unfolding copy_links next
  copy_links_more out o i j zero to p x g h ep eo ej = absurd (not-suc-le-zero h)
  copy_links_more out o i j (suc k) to p x g h ep eo ej = rw (sub-one, ep, eo, ej) g

  pub copy_links_done : (out : List ℕ) (i k to : ℕ) (x : Inked ℕ) → copy_links s ws k out i to ≡ x → k ≤ 0 → record { is = to; out = out } ≡ x
  unfolding copy_links
  copy_links_done out i zero to x g h = g
  copy_links_done out i (suc k) to x g h = absurd (not-suc-le-zero h)

  -- ---- circles

  pub circle_none : (out : List ℕ) (w v : ℕ) (c : Listed) → v ≡ hung ws w → v ≡ 0 → record { is = c; out = out } ≡ circle s ws out w c
  unfolding circle
  circle_none out w v c ev z = rw (← ev) (eq_yes _ _ _ _ z refl)

  pub circle_some : (out o₁ o₂ o : List ℕ) (w v p q t n : ℕ) (c : Listed) → v ≡ hung ws w → (v ≢ 0) → o₁ ≡ store c.to (be 1 0) out → p ≡ on c.to 1
      → o₂ ≡ store p (be 2 w) o₁ → q ≡ on c.to 3 → t ≡ (copy_tree s o₂ (v - 1) q).is → o ≡ (copy_tree s o₂ (v - 1) q).out → n ≡ (c.count + 1) % 4294967296
      → record { is = record { count = n; to = t }; out = o } ≡ circle s ws out w c
  unfolding circle list_tree next
  circle_some out o₁ o₂ o w v p q t n c ev nz e₁ ep e₂ eq et eo en = rw (← ev) (eq_no _ _ _ _ nz (rw (← e₁, ← ep, ← e₂, ← eq, ← et, ← eo, en)))

  module _ (n : ℕ) where
    pub all_begin : (out : List ℕ) (c : Listed) → circles s ws (wires_from 0 (n - 0)) out c ≡ circles s ws (wires_from 0 n) out c
    all_begin out c = let e : n - 0 ≡ n = omega arith in rw e

    pub all_more : (out o : List ℕ) (w : ℕ) (c e : Listed) (x : Inked Listed) → circles s ws (wires_from w (n - w)) out c ≡ x → w < n
        → e ≡ (circle s ws out (w % 65536) c).is → o ≡ (circle s ws out (w % 65536) c).out → circles s ws (wires_from (w + 1) (n - (w + 1))) o e ≡ x
    unfolding circles wires_from
    all_more out o w c e x g h ee eo =
        let j : n - w ≡ suc (n - (w + 1)) = omega arith in
        let k : w + 1 ≡ suc w = omega arith in
        rw (ee, eo, k) (rw (j, k) at g)

    pub all_done : (out : List ℕ) (w : ℕ) (c : Listed) (x : Inked Listed) → circles s ws (wires_from w (n - w)) out c ≡ x → n ≤ w → record { is = c; out = out } ≡ x
    unfolding circles wires_from
    all_done out w c x g h = let j : n - w ≡ 0 = omega arith in rw j at g

  module _ (bs : List ℕ) (n : ℕ) where
    pub marked_more : (out o : List ℕ) (w d : ℕ) (c e : Listed) (x : Inked Listed) → circles s ws (looked 0 bs n w) out c ≡ x → w < n
        → e ≡ (circle s ws out (w % 65536) c).is → o ≡ (circle s ws out (w % 65536) c).out → d ≡ stride 0 bs w → circles s ws (looked 0 bs n (w + d)) o e ≡ x
    unfolding circles
    marked_more out o w d c e x g h ee eo ed = rw (ee, eo) (rw (looked_more 0 bs n w d h ed) at g)

    pub marked_done : (out : List ℕ) (w : ℕ) (c : Listed) (x : Inked Listed) → circles s ws (looked 0 bs n w) out c ≡ x → n ≤ w → record { is = c; out = out } ≡ x
    unfolding circles
    marked_done out w c x g h = rw (looked_done 0 bs n w h) at g

-- ---- kept links, visited

module _ (s ws v out o₁ : List ℕ) (i a b to : ℕ) (t : Stepped) (ea : a ≡ kept_left ws i) (eb : b ≡ kept_right ws i) (et : t ≡ (tree s 64 ws out a to).is)
    (ev : v ≡ (tree s 64 ws out a to).ws) (e₁ : o₁ ≡ (tree s 64 ws out a to).out) where
  pub visit_link_on : (w o : List ℕ) (pen : Pen) (q : Stepped) → t ≡ Some pen → q ≡ (tree s 64 v o₁ b pen.to).is → w ≡ (tree s 64 v o₁ b pen.to).ws
      → o ≡ (tree s 64 v o₁ b pen.to).out → record { is = q; ws = w; out = o } ≡ visit_link s ws out i to
  unfolding visit_link on_step
  visit_link_on w o pen q h eq ew eo = rw (← ea, ← eb, ← et, ← ev, ← e₁, h) (whole (tree s 64 v o₁ b pen.to) eq ew eo)

  pub visit_link_deep : t ≡ None → record { is = None; ws = v; out = o₁ } ≡ visit_link s ws out i to
  unfolding visit_link on_step
  visit_link_deep h = rw (← ea, ← eb, ← et, ← ev, ← e₁, h) refl

module _ (s ws w out o : List ℕ) (i to k : ℕ) (t : Stepped) (x : Penned Stepped) (g : visit_links s k ws out i to ≡ x) (h : 0 < k)
    (et : t ≡ (visit_link s ws out i to).is) (ew : w ≡ (visit_link s ws out i to).ws) (eo : o ≡ (visit_link s ws out i to).out) where
  pub visit_links_more : (j : ℕ) (pen : Pen) → t ≡ Some pen → j ≡ (i + 1) % 4294967296 → visit_links s (k - 1) w o j pen.to ≡ x
  unfolding visit_links on_step next
  visit_links_more j pen e ej = go k g h
    where
      go : (n : ℕ) → visit_links s n ws out i to ≡ x → 0 < n → visit_links s (n - 1) w o j pen.to ≡ x
      go zero f l = absurd (not-suc-le-zero l)
      go (suc n) f l = rw (sub-one, ew, eo, ej) (rw (← et, e) at f)

  pub visit_links_deep : t ≡ None → record { is = None; ws = w; out = o } ≡ x
  unfolding visit_links on_step
  visit_links_deep e = go k g h
    where
      go : (n : ℕ) → visit_links s n ws out i to ≡ x → 0 < n → record { is = None; ws = w; out = o } ≡ x
      go zero f l = absurd (not-suc-le-zero l)
      go (suc n) f l = rw (ew, eo) (rw (← et, e) at f)

pub visit_links_done : (s ws out : List ℕ) (i k to : ℕ) (x : Penned Stepped) → visit_links s k ws out i to ≡ x → k ≤ 0
    → record { is = Some (record { from = 0; to = to }); ws = ws; out = out } ≡ x
unfolding visit_links
visit_links_done s ws out i zero to x g h = g
visit_links_done s ws out i (suc k) to x g h = absurd (not-suc-le-zero h)

-- ---- the links of a net, and the net

module _ (s ws : List ℕ) (links wires n : ℕ) (en : n ≡ be16 s links) where
  pub below_few : wires < 16 * n → wires ≡ left_below s ws links wires
  unfolding left_below
  below_few h = rw (← en) (lt_yes _ _ _ _ h refl)

  module _ (a t : ℕ) (ea : a ≡ within s (links + 2)) (many : 16 * n ≤ wires) (et : t ≡ hung_links ws s a n 0) where
    pub below_left : t < wires → t ≡ left_below s ws links wires
    unfolding left_below
    below_left h = rw (← ea, ← en, ← et) (lt_no _ _ _ _ many (lt_yes _ _ _ _ h refl))

    pub below_wires : wires ≤ t → wires ≡ left_below s ws links wires
    unfolding left_below
    below_wires h = rw (← ea, ← en, ← et) (lt_no _ _ _ _ many (lt_no _ _ _ _ h refl))

module _ (s ws out o : List ℕ) (links wires n m to : ℕ) (c : Listed) (en : n ≡ be16 s links) (em : m ≡ left_below s ws links wires) where
  pub left_all : m < 16 * n + 512 → c ≡ (circles s ws (wires_from 0 m) out (record { count = 0; to = to })).is
      → o ≡ (circles s ws (wires_from 0 m) out (record { count = 0; to = to })).out → record { is = c; out = o } ≡ left_circles s ws out links wires to
  unfolding left_circles
  left_all h ec eo = rw (← em, ← en) (lt_yes _ _ _ _ h (both (circles s ws (wires_from 0 m) out (record { count = 0; to = to })) ec eo))

  pub left_marked : (bs : List ℕ) (a : ℕ) → 16 * n + 512 ≤ m → a ≡ within s (links + 2) → bs ≡ marked_links ws s a n (replicate 2112 0)
      → c ≡ (circles s ws (looked 0 bs m 0) out (record { count = 0; to = to })).is → o ≡ (circles s ws (looked 0 bs m 0) out (record { count = 0; to = to })).out
      → record { is = c; out = o } ≡ left_circles s ws out links wires to
  unfolding left_circles marks_of
  left_marked bs a h ea eb ec eo = rw (← em, ← en, ← ea, ← eb) (lt_no _ _ _ _ h (both (circles s ws (looked 0 bs m 0) out (record { count = 0; to = to })) ec eo))

module _ (s ws v out o₁ : List ℕ) (links wires kept to p : ℕ) (t : Stepped) (ep : p ≡ on to 2) (et : t ≡ (visit_links s kept ws out 0 p).is)
    (ev : v ≡ (visit_links s kept ws out 0 p).ws) (e₁ : o₁ ≡ (visit_links s kept ws out 0 p).out) where
  pub links_on : (o : List ℕ) (pen : Pen) (e : ℕ) → t ≡ Some pen → e ≡ (end_links s v o₁ links wires kept to pen.to).is → o ≡ (end_links s v o₁ links wires kept to pen.to).out
      → record { is = Some (record { from = 0; to = e }); ws = v; out = o } ≡ renamed_links s ws out links wires kept to
  unfolding renamed_links on_step
  links_on o pen e h ee eo = rw (← ep, ← et, ← ev, ← e₁, h) (rw (← ee, ← eo))

  pub links_deep : t ≡ None → record { is = None; ws = v; out = o₁ } ≡ renamed_links s ws out links wires kept to
  unfolding renamed_links on_step
  links_deep h = rw (← ep, ← et, ← ev, ← e₁, h)

module _ (s ws v out o₁ o₂ : List ℕ) (at links wires kept to from f n p : ℕ) (t : Stepped) (ef : from ≡ within s (at + 8)) (ex : f ≡ within s (at + 7)) (en : n ≡ byte s f)
    (e₁ : o₁ ≡ store to (between s at from) out) (ep : p ≡ on to 8) (et : t ≡ (trees (tree s 64) n ws o₁ from p).is) (ev : v ≡ (trees (tree s 64) n ws o₁ from p).ws)
    (e₂ : o₂ ≡ (trees (tree s 64) n ws o₁ from p).out) where
  pub renamed_on : (w o : List ℕ) (pen : Pen) (q : Stepped) → t ≡ Some pen → q ≡ (renamed_links s v o₂ links wires kept pen.to).is
      → w ≡ (renamed_links s v o₂ links wires kept pen.to).ws → o ≡ (renamed_links s v o₂ links wires kept pen.to).out
      → record { is = q; ws = w; out = o } ≡ renamed s ws out at links wires kept to
  unfolding renamed on_step
  renamed_on w o pen q h eq ew eo =
      rw (← ef, ← ex, ← en, ← e₁, ← ep, ← et, ← ev, ← e₂, h) (whole (renamed_links s v o₂ links wires kept pen.to) eq ew eo)

  pub renamed_deep : t ≡ None → record { is = None; ws = v; out = o₂ } ≡ renamed s ws out at links wires kept to
  unfolding renamed on_step
  renamed_deep h = rw (← ef, ← ex, ← en, ← e₁, ← ep, ← et, ← ev, ← e₂, h)

pub onward_on : (t : Stepped) (from : ℕ) (pen : Pen) → t ≡ Some pen → Some (record { from = from; to = pen.to }) ≡ onward t from
unfolding onward on_step
onward_on t from pen e = rw e

pub onward_deep : (t : Stepped) (from : ℕ) → t ≡ None → None ≡ onward t from
unfolding onward on_step
onward_deep t from e = rw e

module _ (s ws out : List ℕ) (at to : ℕ) (r : Ready) where
  pub net_plain : (o : List ℕ) (p : ℕ) → r.left ≡ 0 → p ≡ (plain s ws out at r.links r.kept to).is → o ≡ (plain s ws out at r.links r.kept to).out
      → record { is = Some (record { from = r.end; to = p }); ws = ws; out = o } ≡ resolved s r ws out at to
  unfolding resolved
  net_plain o p z ep eo = eq_yes _ _ _ _ z (rw (ep, eo))

  pub net_renamed : (w o : List ℕ) (n : ℕ) (t q : Stepped) → (r.left ≢ 0) → n ≡ wires_at s at → t ≡ (renamed s ws out at r.links n r.kept to).is
      → w ≡ (renamed s ws out at r.links n r.kept to).ws → o ≡ (renamed s ws out at r.links n r.kept to).out → q ≡ onward t r.end
      → record { is = q; ws = w; out = o } ≡ resolved s r ws out at to
  unfolding resolved
  net_renamed w o n t q nz en et ew eo eq = eq_no _ _ _ _ nz (rw (eq, et, ew, eo, en))
