-- No wire above the word behind the table is linked, and none in a row or a block without a mark: `link` keeps that. So pairs are looked
-- for at the others only.
use Prim.Native.Nat.{ℕ, zero, suc, ◌+◌, ◌*◌, ◌/◌, ◌<◌, ◌≤◌}
use Rattle.std.specs.Prelude.{◌≡◌, List, [], ◌∷◌, ◌++◌, length, get_or, set}
use Rattle.std.proofs.Math.Path.{refl, sym}
use Rattle.std.proofs.Common.{ap, ◌∙◌, arith, length-set, get_or-set_same, get_or-set_other}
use Rattle.std.proofs.Math.Decide.{ℕ_discrete}
use Rattle.words.specs.Choose.{eq_split, lt_split, lt_no}
use Rattle.net_file.specs.Lists.{concat_map}
use Rattle.net_file_laws.specs.Exact.{Each}
use Rattle.conversions.specs.Links.{from}
use Rattle.wire_blocks.specs.Blocks.{row_mark, block_mark, looked}
use Rattle.wire_blocks.specs.Laws.{wires_from, Less, looked_less}
use Rattle.wire_links.specs.Table.{far, raised, join, link, extent, looks_below}
use Rattle.wire_links_laws.specs.Raised.{raised_long, raised_beside, raised_up, raised_stay, raised_other, raised_row, raised_block}
use Rattle.wire_links_laws.specs.Pairs.{pair_at, pairs_in}

pub record Topped (ws : List ℕ) : Type 0 where
  pub long : 67649 ≤ length ws
  pub top : (a : ℕ) → a < 65536 → get_or ws 65536 0 ≤ a → get_or ws a 0 ≡ 0
  -- in a row and in a block without a mark no wire is linked
  pub row : (a : ℕ) → a < 65536 → row_mark 65537 ws a ≡ 0 → get_or ws a 0 ≡ 0
  pub block : (a : ℕ) → a < 65536 → block_mark 65537 ws a ≡ 0 → get_or ws a 0 ≡ 0
  -- and those above the word behind the table have none
  pub rows : (i : ℕ) → i < 64 → get_or ws 65536 0 ≤ 1024 * i → get_or ws (65537 + i) 0 ≡ 0
  pub blocks : (i : ℕ) → i < 2048 → get_or ws 65536 0 ≤ 32 * i → get_or ws (65601 + i) 0 ≡ 0

pub far_low : (ws : List ℕ) (a : ℕ) → a < 65536 → far ws a < 65536
unfolding far
far_low ws a h = eq_split _ _ _ _ (λ (x : ℕ). x < 65536) (λ e. h) (λ e. omega arith)

-- ---- a wire that is linked no more

module _ (ws : List ℕ) (a : ℕ) (h : a < 65536) (t : Topped ws) where
  -- all behind the links stays
  pub zero_behind : (i : ℕ) → 65536 ≤ i → get_or (set ws a 0) i 0 ≡ get_or ws i 0
  zero_behind i k = get_or-set_other ws a i 0 0 (λ e. absurd (omega arith))

  pub zero_word : (c : ℕ) → get_or ws c 0 ≡ 0 → get_or (set ws a 0) c 0 ≡ 0
  zero_word c z = let l = t.long in elim (ℕ_discrete c a) [
    | yes d ↦ rw d (get_or-set_same ws a 0 0 (omega arith))
    | no d ↦ get_or-set_other ws a c 0 0 d ∙ z
  ]

  pub topped_zero : Topped (set ws a 0)
  unfolding row_mark block_mark
  topped_zero =
      let e = zero_behind 65536 (omega arith) in
      record {
        long = rw (length-set ws a 0) t.long;
        top = λ c k i. zero_word c (t.top c k (omega arith));
        row = λ c k z. zero_word c (t.row c k (sym (zero_behind (65537 + c / 1024) (omega arith)) ∙ z));
        block = λ c k z. zero_word c (t.block c k (sym (zero_behind (65601 + c / 32) (omega arith)) ∙ z));
        rows = λ i k l. zero_behind (65537 + i) (omega arith) ∙ t.rows i k (omega arith);
        blocks = λ i k l. zero_behind (65601 + i) (omega arith) ∙ t.blocks i k (omega arith);
      }

-- ---- two wires that are linked with each other

module _ (ws : List ℕ) (t : Topped ws) (x y : ℕ) (hx : x < 65536) (hy : y < 65536) where
  abbrev pub u : List ℕ
  u = set ws x (y + 1)

  abbrev pub v : List ℕ
  v = set u y (x + 1)

  abbrev pub w : List ℕ
  w = raised v x

  abbrev pub z : List ℕ
  z = raised w y

  pub long_v : length v ≡ length ws
  long_v = length-set u y (x + 1) ∙ length-set ws x (y + 1)

  pub long_w : length w ≡ length ws
  long_w = raised_long v x ∙ long_v

  pub behind : (i : ℕ) → 65536 ≤ i → get_or v i 0 ≡ get_or ws i 0
  behind i h = get_or-set_other u y i (x + 1) 0 (λ e. absurd (omega arith)) ∙ get_or-set_other ws x i (y + 1) 0 (λ e. absurd (omega arith))

  -- both are below the word behind the table, which was not above what it is
  pub above : (get_or ws 65536 0 ≤ get_or z 65536 0) × (x < get_or z 65536 0) × (y < get_or z 65536 0)
  above =
      let l = t.long in
      let lv = long_v in
      let lw = long_w in
      let e = behind 65536 (omega arith) in
      let a = raised_up v x (omega arith) in
      let b = raised_up w y (omega arith) in
      let a₀ = a.0 in
      let a₁ = a.1 in
      let b₀ = b.0 in
      let b₁ = b.1 in
      (omega arith, omega arith, omega arith)

  pub beside : (c : ℕ) → c < 65536 → (c ≡ x → ⊥) → (c ≡ y → ⊥) → get_or z c 0 ≡ get_or ws c 0
  beside c k dx dy = raised_beside w y c k ∙ raised_beside v x c k ∙ get_or-set_other u y c (x + 1) 0 dy ∙ get_or-set_other ws x c (y + 1) 0 dx

  -- no mark goes
  pub stay : (i : ℕ) → 65536 < i → get_or z i 0 ≡ 0 → get_or ws i 0 ≡ 0
  stay i h e = sym (behind i (omega arith)) ∙ raised_stay v x i h (raised_stay w y i h e)

  -- marks at f c for wire c: where those of x and of y are set, no wire is linked whose mark is not
  pub under : (f : ℕ → ℕ) → ((c : ℕ) → 65536 < f c) → get_or w (f x) 0 ≡ 1 → get_or z (f y) 0 ≡ 1 → (c : ℕ) → c < 65536
      → (get_or ws (f c) 0 ≡ 0 → get_or ws c 0 ≡ 0) → get_or z (f c) 0 ≡ 0 → get_or z c 0 ≡ 0
  under f past ex ey c k old e = elim (ℕ_discrete c x) [
    | yes d ↦ let g : get_or w (f x) 0 ≡ 0 = sym (ap (λ (a : ℕ). get_or w (f a) 0) d) ∙ raised_stay w y (f c) (past c) e in absurd (omega arith)
    | no dx ↦ elim (ℕ_discrete c y) [
      | yes d ↦ let g : get_or z (f y) 0 ≡ 0 = sym (ap (λ (a : ℕ). get_or z (f a) 0) d) ∙ e in absurd (omega arith)
      | no dy ↦ beside c k dx dy ∙ old (stay (f c) (past c) e)
    ]
  ]

  -- the mark of no block or row but theirs is set
  pub others : (i : ℕ) → 65536 < i → (i ≡ 65537 + x / 1024 → ⊥) → (i ≡ 65601 + x / 32 → ⊥) → (i ≡ 65537 + y / 1024 → ⊥) → (i ≡ 65601 + y / 32 → ⊥)
      → get_or z i 0 ≡ get_or ws i 0
  others i h rx bx ry by = raised_other w y i h ry by ∙ raised_other v x i h rx bx ∙ behind i (omega arith)

  pub topped_two : Topped z
  unfolding row_mark block_mark
  topped_two =
      let l = t.long in
      let lv = long_v in
      let lw = long_w in
      let a = above in
      let a₀ = a.0 in
      let a₁ = a.1 in
      let a₂ = a.2 in
      record {
        long = rw (raised_long w y) (omega arith);
        top = λ c k i. beside c k (λ e. absurd (omega arith)) (λ e. absurd (omega arith)) ∙ t.top c k (omega arith);
        row = λ c k e. under (λ a. 65537 + a / 1024) (λ a. omega arith) (raised_row v x hx (omega arith)) (raised_row w y hy (omega arith)) c k (t.row c k) e;
        block = λ c k e. under (λ a. 65601 + a / 32) (λ a. omega arith) (raised_block v x hx (omega arith)) (raised_block w y hy (omega arith)) c k (t.block c k) e;
        rows = λ i k j.
            others (65537 + i) (omega arith) (λ e. absurd (omega arith)) (λ e. absurd (omega arith)) (λ e. absurd (omega arith)) (λ e. absurd (omega arith)) ∙ t.rows i k (omega arith);
        blocks = λ i k j.
            others (65601 + i) (omega arith) (λ e. absurd (omega arith)) (λ e. absurd (omega arith)) (λ e. absurd (omega arith)) (λ e. absurd (omega arith)) ∙ t.blocks i k (omega arith);
      }

-- ---- how far it is looked

pub extent_least : (ws : List ℕ) (n : ℕ) → extent ws n ≤ n
unfolding extent
extent_least ws n = lt_split _ _ _ _ (λ (x : ℕ). x ≤ n) (λ h. omega arith) (λ h. omega arith)

pub extent_under : (ws : List ℕ) (n a : ℕ) → a < n → extent ws n ≤ a → get_or ws 65536 0 ≤ a
unfolding extent
extent_under ws n a h l = lt_split _ _ _ _ (λ (x : ℕ). x ≤ a → get_or ws 65536 0 ≤ a) (λ i j. j) (λ i j. absurd (omega arith)) l

-- what holds of each of some wires holds of each that is looked at
pub each_less : (P : ℕ → Type 0) {Nothing : ℕ → Type 0} {l m : List ℕ} → Less Nothing l m → Each P m → Each P l
each_less P Less.none h = tt
each_less P (Less.both t) h = (h.0, each_less P t h.1)
each_less P (Less.less n t) h = each_less P t h.1

pub each_wire : (n w k : ℕ) → w + k ≤ n → Each (λ a. a < n) (wires_from w k)
unfolding wires_from
each_wire n w zero h = tt
each_wire n w (suc k) h = (omega arith, each_wire n (suc w) k (omega arith))

pub looks_low : (ws : List ℕ) (n : ℕ) → n ≤ 65536 → Each (λ a. a < 65536) (looks_below ws n)
unfolding looks_below
looks_low ws n h =
    let e = extent_least ws n in
    each_less (λ a. a < 65536) (looked_less 65537 ws (extent ws n) (λ w. Unit {0}) (λ w i z. tt) (λ w i z. tt)) (each_wire 65536 0 (extent ws n) (omega arith))

-- a wire that is passed over is linked with none
pub looks_less : (ws : List ℕ) → Topped ws → (n : ℕ) → n ≤ 65536 → Less (λ a. get_or ws a 0 ≡ 0) (looks_below ws n) (wires_from 0 (extent ws n))
unfolding looks_below
looks_less ws t n h =
    let e = extent_least ws n in
    looked_less 65537 ws (extent ws n) (λ a. get_or ws a 0 ≡ 0) (λ a i z. t.row a (omega arith) z) (λ a i z. t.block a (omega arith) z)

-- ---- the pairs that are found are all

module _ {B : Type 0} (f : ℕ → List B) where
  pub from_none : (k n : ℕ) → ((x : ℕ) → k ≤ x → x < k + n → f x ≡ []) → concat_map f (from k n) ≡ []
  unfolding from
  from_none k zero z = refl
  from_none k (suc n) z = rw (z k (omega arith) (omega arith)) (from_none (suc k) n (λ x h i. z x (omega arith) (omega arith)))

  pub from_less : (k e n : ℕ) → e ≤ n → ((x : ℕ) → k + e ≤ x → x < k + n → f x ≡ []) → concat_map f (from k e) ≡ concat_map f (from k n)
  unfolding from
  from_less k zero n h z = sym (from_none k n (λ x i j. z x (omega arith) j))
  from_less k (suc e) zero h z = absurd (omega arith)
  from_less k (suc e) (suc n) h z = rw (from_less (suc k) e n (omega arith) (λ x i j. z x (omega arith) (omega arith)))

  pub concat_less : {Nothing : ℕ → Type 0} → ((a : ℕ) → Nothing a → f a ≡ []) → {l m : List ℕ} → Less Nothing l m → concat_map f l ≡ concat_map f m
  concat_less z Less.none = refl
  concat_less z (Less.both {w} t) = ap (λ (r : List B). f w ++ r) (concat_less z t)
  concat_less z (Less.less {w} n t) = rw (z w n) (concat_less z t)

pub wires_from_lem : (w k : ℕ) → wires_from w k ≡ from w k
unfolding wires_from from
wires_from_lem w zero = refl
wires_from_lem w (suc k) = ap (λ (l : List ℕ). w ∷ l) (wires_from_lem (suc w) k)

pub no_pair : (ws : List ℕ) (a : ℕ) → get_or ws a 0 ≡ 0 → pair_at ws a ≡ []
unfolding pair_at
no_pair ws a z = sym (lt_no _ _ _ _ (omega arith) refl)

pub pairs_scanned : (ws : List ℕ) → Topped ws → (n : ℕ) → n ≤ 65536 → pairs_in ws (looks_below ws n) ≡ pairs_in ws (from 0 n)
unfolding pairs_in
pairs_scanned ws t n h =
    let e = extent ws n in
    concat_less (pair_at ws) (no_pair ws) (looks_less ws t n h) ∙ ap (concat_map (pair_at ws)) (wires_from_lem 0 e)
    ∙ from_less (pair_at ws) 0 e n (extent_least ws n) (λ x i j. no_pair ws x (t.top x (omega arith) (extent_under ws n x (omega arith) (omega arith))))
