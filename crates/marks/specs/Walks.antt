-- Walks that leave marks: what is answered, and the marks then. `Left` holds both. Level Words.
use Prim.Native.Nat.{ℕ, zero, suc, ◌+◌, ◌-◌, ◌<◌, ◌≤◌}
use Rattle.std.specs.Prelude.{◌≡◌, Bool, true, false, List, eqb}
use Rattle.std.proofs.Math.Path.{refl}
use Rattle.std.proofs.Common.{arith, sym, ◌∙◌, sub-one, not-suc-le-zero}
use Rattle.words.specs.Choose.{if_eq, pick, eq_yes, eq_no, pick_true, pick_false}
use Rattle.words.specs.Left.{Left}
use Rattle.layout.specs.Layout.{next}

-- an answer, and the marks as they are
abbrev pub says : Bool → List ℕ → Left Bool
says b marks = record { is = b; ws = marks }

-- k numbers from i on pass a test that leaves marks
unfoldable pub each_with : (List ℕ → ℕ → Left Bool) → List ℕ → ℕ → ℕ → Left Bool
each_with test marks i zero = says true marks
each_with test marks i (suc k) =
    let r = test marks i in
    pick r.is (each_with test r.ws (next i) k) (says false r.ws)

-- a chain from c on that ends in 0 within k places: each place is new, and is marked
unfoldable pub chain : (List ℕ → ℕ → Bool) → (List ℕ → ℕ → List ℕ) → (ℕ → ℕ) → List ℕ → ℕ → ℕ → Left Bool
chain new see after marks c zero = says (eqb c 0) marks
chain new see after marks c (suc k) =
    let rest = chain new see after (see marks c) (after c) k in
    if_eq c 0 (says true marks) (pick (new marks c) rest (says false marks))

-- ---- one turn, and the end

module _ (test : List ℕ → ℕ → Left Bool) (marks m : List ℕ) (i : ℕ) (t : Bool) (x : Left Bool) where
  pub each_with_more : (j k : ℕ) → each_with test marks i k ≡ x → 0 < k → t ≡ (test marks i).is → m ≡ (test marks i).ws → t ≡ true → j ≡ next i
      → each_with test m j (k - 1) ≡ x
  unfolding each_with
  each_with_more j zero e h et em y ej = absurd (not-suc-le-zero h)
  each_with_more j (suc k) e h et em y ej = rw (sub-one, ej, em) (pick_true _ _ _ (sym et ∙ y) refl ∙ e)

  -- the same, where no number wraps
  pub each_with_next : (j k : ℕ) → each_with test marks i k ≡ x → 0 < k → t ≡ (test marks i).is → m ≡ (test marks i).ws → t ≡ true → j ≡ i + 1 → i + k ≤ 4294967296
      → each_with test m j (k - 1) ≡ x
  unfolding each_with
  each_with_next j zero e h et em y ej b = absurd (not-suc-le-zero h)
  each_with_next j (suc zero) e h et em y ej b = rw em (pick_true _ _ _ (sym et ∙ y) refl ∙ e)
  each_with_next j (suc (suc k)) e h et em y ej b =
      let on : j ≡ next i = omega arith in
      rw (sub-one, on, em) (pick_true _ _ _ (sym et ∙ y) refl ∙ e)

  pub each_with_no : (k : ℕ) → each_with test marks i k ≡ x → 0 < k → t ≡ (test marks i).is → m ≡ (test marks i).ws → t ≡ false → says false m ≡ x
  unfolding each_with
  each_with_no zero e h et em y = absurd (not-suc-le-zero h)
  each_with_no (suc k) e h et em y = rw em (pick_false _ _ _ (sym et ∙ y) refl ∙ e)

pub each_with_done : (test : List ℕ → ℕ → Left Bool) (marks : List ℕ) (i k : ℕ) (x : Left Bool) → each_with test marks i k ≡ x → k ≤ 0 → says true marks ≡ x
unfolding each_with
each_with_done test marks i zero x e h = e
each_with_done test marks i (suc k) x e h = absurd (not-suc-le-zero h)

module _ (new : List ℕ → ℕ → Bool) (see : List ℕ → ℕ → List ℕ) (after : ℕ → ℕ) (marks : List ℕ) (c : ℕ) (x : Left Bool) where
  pub chain_more : (m : List ℕ) (d k : ℕ) (t : Bool) → chain new see after marks c k ≡ x → 0 < k → (c ≡ 0 → ⊥) → t ≡ new marks c → t ≡ true → m ≡ see marks c → d ≡ after c
      → chain new see after m d (k - 1) ≡ x
  unfolding chain
  chain_more m d zero t e h z et y em ed = absurd (not-suc-le-zero h)
  chain_more m d (suc k) t e h z et y em ed = rw (sub-one, em, ed) (eq_no _ _ _ _ z (pick_true _ _ _ (sym et ∙ y) refl) ∙ e)

  pub chain_no : (k : ℕ) (t : Bool) → chain new see after marks c k ≡ x → 0 < k → (c ≡ 0 → ⊥) → t ≡ new marks c → t ≡ false → says false marks ≡ x
  unfolding chain
  chain_no zero t e h z et y = absurd (not-suc-le-zero h)
  chain_no (suc k) t e h z et y = eq_no _ _ _ _ z (pick_false _ _ _ (sym et ∙ y) refl) ∙ e

  pub chain_ends : (k : ℕ) → chain new see after marks c k ≡ x → 0 < k → c ≡ 0 → says true marks ≡ x
  unfolding chain
  chain_ends zero e h z = absurd (not-suc-le-zero h)
  chain_ends (suc k) e h z = eq_yes _ _ _ _ z refl ∙ e

  pub chain_done : (k : ℕ) → chain new see after marks c k ≡ x → k ≤ 0 → says (eqb c 0) marks ≡ x
  unfolding chain
  chain_done zero e h = e
  chain_done (suc k) e h = absurd (not-suc-le-zero h)
