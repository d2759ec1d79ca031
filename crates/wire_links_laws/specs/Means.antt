-- What the table of links by wire means: the links of the definitions, wire by wire. `link` on the words keeps that.
use Rattle.std.specs.Prelude.{ℕ, suc, ◌+◌, ◌-◌, ◌%◌, ◌<◌, ◌≤◌, ◌≡◌, refl, Bool, List, [], ◌∷◌, ◌++◌, length, get_or, eqb}
use Rattle.std.proofs.Math.Path.{sym, ap}
use Rattle.std.proofs.Common.{◌∙◌, get_or-set_same, get_or-set_other, eq-eqb, ne_eqb}
use Rattle.std.proofs.Math.Bool.{true, false}
use Rattle.std.proofs.Math.Option.{Option, none, some}
use native.Mathlib.Omega.{arith}
use Rattle.std.proofs.Math.Decide.{ℕ_discrete}
use Rattle.std.proofs.Math.ListN.{set, length-set}
use Rattle.words.specs.Choose.{if_eq, eq_yes, eq_no}
use Rattle.conversions.specs.Links.{Links, get, remove, insert, or_else}
use Rattle.conversions.specs.Links
use Rattle.wire_links.specs.Table.{far, raised, join}
use Rattle.wire_links.specs.Table
use Rattle.wire_links_laws.specs.Raised.{raised_long, raised_beside}

-- ---- a table from wires to wires, by what stands beside each

module _ (e : ℕ × ℕ) (es : Links) (c : ℕ) where
  get_first : e.0 ≡ c → get (e ∷ es) c ≡ some e.1
  unfolding get
  get_first h = ap (λ (t : Bool). elim t as (λ u. Option ℕ) [ true ↦ some e.1 | false ↦ get es c ]) (eq-eqb e.0 c h)

  get_later : (e.0 ≡ c → ⊥) → get (e ∷ es) c ≡ get es c
  unfolding get
  get_later h = ap (λ (t : Bool). elim t as (λ u. Option ℕ) [ true ↦ some e.1 | false ↦ get es c ]) (ne_eqb e.0 c h)

  remove_first : e.0 ≡ c → remove (e ∷ es) c ≡ remove es c
  unfolding remove
  remove_first h = ap (λ (t : Bool). elim t as (λ u. Links) [ true ↦ remove es c | false ↦ e ∷ remove es c ]) (eq-eqb e.0 c h)

  remove_later : (e.0 ≡ c → ⊥) → remove (e ∷ es) c ≡ e ∷ remove es c
  unfolding remove
  remove_later h = ap (λ (t : Bool). elim t as (λ u. Links) [ true ↦ remove es c | false ↦ e ∷ remove es c ]) (ne_eqb e.0 c h)

pub get_removed : (l : Links) (a : ℕ) → get (remove l a) a ≡ none
unfolding get remove
get_removed [] a = refl
get_removed (e ∷ es) a = elim (ℕ_discrete e.0 a) [
  | yes h ↦ rw (remove_first e es a h) (get_removed es a)
  | no h ↦ rw (remove_later e es a h, get_later e (remove es a) a h) (get_removed es a)
]

pub get_kept : (l : Links) (a c : ℕ) → (c ≡ a → ⊥) → get (remove l a) c ≡ get l c
unfolding get remove
get_kept [] a c n = refl
get_kept (e ∷ es) a c n = elim (ℕ_discrete e.0 a) [
  | yes h ↦ rw (remove_first e es a h, get_later e es c (λ z. n (sym z ∙ h))) (get_kept es a c n)
  | no h ↦ elim (ℕ_discrete e.0 c) [
    | yes g ↦ rw (remove_later e es a h, get_first e (remove es a) c g, get_first e es c g)
    | no g ↦ rw (remove_later e es a h, get_later e (remove es a) c g, get_later e es c g) (get_kept es a c n)
  ]
]

-- an entry at the end
get_last : (l : Links) (a x : ℕ) → get l a ≡ none → get (l ++ ((a, x) ∷ [])) a ≡ some x
get_last [] a x h = get_first (a, x) [] a refl
get_last (e ∷ es) a x h = elim (ℕ_discrete e.0 a) [
  | yes g ↦ let z : ◌≡◌ {A = Option ℕ} none (some e.1) = sym h ∙ get_first e es a g in let y : ◌≡◌ {A = ℕ} 0 1 = cc in absurd (omega arith)
  | no g ↦ get_later e (es ++ ((a, x) ∷ [])) a g ∙ get_last es a x (sym (get_later e es a g) ∙ h)
]

get_before : (l : Links) (a x c : ℕ) → (c ≡ a → ⊥) → get (l ++ ((a, x) ∷ [])) c ≡ get l c
get_before [] a x c n = get_later (a, x) [] c (λ z. n (sym z))
get_before (e ∷ es) a x c n = elim (ℕ_discrete e.0 c) [
  | yes g ↦ get_first e (es ++ ((a, x) ∷ [])) c g ∙ sym (get_first e es c g)
  | no g ↦ get_later e (es ++ ((a, x) ∷ [])) c g ∙ get_before es a x c n ∙ sym (get_later e es c g)
]

pub get_inserted : (l : Links) (a x : ℕ) → get (insert l a x) a ≡ some x
unfolding insert
get_inserted l a x = get_last (remove l a) a x (get_removed l a)

pub get_beside : (l : Links) (a x c : ℕ) → (c ≡ a → ⊥) → get (insert l a x) c ≡ get l c
unfolding insert
get_beside l a x c n = get_before (remove l a) a x c n ∙ get_kept l a c n

-- ---- the words

-- 0 for none, else one more
unfoldable pub code : Option ℕ → ℕ
code none = 0
code (some b) = suc b

-- the word of each wire says what it is linked with
pub record Means (ws : List ℕ) (l : Links) : Type 0 where
  pub long : 65536 ≤ length ws
  pub word : (a : ℕ) → a < 65536 → get_or ws a 0 ≡ code (get l a)
  pub low : (a : ℕ) → a < 65536 → code (get l a) ≤ 65536

module _ (ws : List ℕ) (a : ℕ) where
  far_of : (o : Option ℕ) → get_or ws a 0 ≡ code o → code o ≤ 65536 → far ws a ≡ or_else o a
  unfolding code far or_else
  far_of none e h = sym (eq_yes _ _ _ _ e refl)
  far_of (some b) e h = let m : b ≡ (suc b - 1) % 65536 = omega arith in sym (eq_no _ _ _ _ (λ z. omega arith) (rw e m))

  far_low : (o : Option ℕ) → a < 65536 → get_or ws a 0 ≡ code o → code o ≤ 65536 → or_else o a < 65536
  unfolding code or_else
  far_low none h e k = h
  far_low (some b) h e k = omega arith

module _ (ws : List ℕ) (l : Links) (m : Means ws l) (a : ℕ) (h : a < 65536) where
  pub far_means : far ws a ≡ or_else (get l a) a
  far_means = far_of ws a (get l a) (m.word a h) (m.low a h)

  pub far_below : or_else (get l a) a < 65536
  far_below = far_low ws a (get l a) h (m.word a h) (m.low a h)

  pub means_removed : Means (set ws a 0) (remove l a)
  unfolding code
  means_removed = record {
    long = rw length-set m.long;
    word = λ c k. elim (ℕ_discrete c a) [
      | yes e ↦ let i = m.long in rw (e, get_removed l a) (get_or-set_same ws a 0 0 (omega arith))
      | no e ↦ rw (get_kept l a c e) (get_or-set_other ws a c 0 0 e ∙ m.word c k)
    ];
    low = λ c k. elim (ℕ_discrete c a) [
      | yes e ↦ rw (e, get_removed l a) (omega arith)
      | no e ↦ rw (get_kept l a c e) (m.low c k)
    ];
  }

  pub means_inserted : (x : ℕ) → x < 65536 → Means (set ws a (x + 1)) (insert l a x)
  unfolding code
  means_inserted x j = record {
    long = rw length-set m.long;
    word = λ c k. elim (ℕ_discrete c a) [
      | yes e ↦ let i = m.long in rw (e, get_inserted l a x) (get_or-set_same ws a (x + 1) 0 (omega arith) ∙ omega arith)
      | no e ↦ rw (get_beside l a x c e) (get_or-set_other ws a c (x + 1) 0 e ∙ m.word c k)
    ];
    low = λ c k. elim (ℕ_discrete c a) [
      | yes e ↦ rw (e, get_inserted l a x) (omega arith)
      | no e ↦ rw (get_beside l a x c e) (m.low c k)
    ];
  }

-- the word behind the table and the marks say nothing of a wire
means_raised : (ws : List ℕ) (l : Links) → Means ws l → (x : ℕ) → Means (raised ws x) l
means_raised ws l m x = record { long = rw (raised_long ws x) m.long; word = λ a k. raised_beside ws x a k ∙ m.word a k; low = m.low }

-- ---- link

means_as : {ws w : List ℕ} {l k : Links} → ws ≡ w → l ≡ k → Means ws l → Means w k
means_as e f m = rw (← e, ← f) m

-- two wires linked with each other, unless they are one
joined : Links → ℕ → ℕ → Links
joined l x y = elim (eqb x y) as (λ u. Links) [ true ↦ l | false ↦ insert (insert l x y) y x ]

module _ (ws : List ℕ) (l : Links) (m : Means ws l) (x y : ℕ) (h : x < 65536) (k : y < 65536) where
  one_wire : x ≡ y → Means (join ws x y) (joined l x y)
  unfolding join joined
  one_wire e =
      let a : if_eq x y ws (raised (raised (set (set ws x (y + 1)) y (x + 1)) x) y) ≡ ws = sym (eq_yes _ _ _ _ e refl) in
      let b : (elim (eqb x y) as (λ u. Links) [ true ↦ l | false ↦ insert (insert l x y) y x ]) ≡ l =
      ap (λ (t : Bool). elim t as (λ u. Links) [ true ↦ l | false ↦ insert (insert l x y) y x ]) (eq-eqb x y e) in
      means_as (sym a) (sym b) m

  two_wires : (x ≡ y → ⊥) → Means (join ws x y) (joined l x y)
  unfolding join joined
  two_wires e =
      let v = set (set ws x (y + 1)) y (x + 1) in
      let a : if_eq x y ws (raised (raised v x) y) ≡ raised (raised v x) y = sym (eq_no _ _ _ _ e refl) in
      let b : (elim (eqb x y) as (λ u. Links) [ true ↦ l | false ↦ insert (insert l x y) y x ]) ≡ insert (insert l x y) y x =
      ap (λ (t : Bool). elim t as (λ u. Links) [ true ↦ l | false ↦ insert (insert l x y) y x ]) (ne_eqb x y e) in
      means_as (sym a) (sym b) (means_raised _ _ (means_raised _ _ (means_inserted (set ws x (y + 1)) (insert l x y) (means_inserted ws l m x h y k) y k x h) x) y)

  means_joined : Means (join ws x y) (joined l x y)
  means_joined = elim (ℕ_discrete x y) [ yes e ↦ one_wire e | no e ↦ two_wires e ]

module _ (ws : List ℕ) (l : Links) (m : Means ws l) (a b : ℕ) (h : a < 65536) (k : b < 65536) where
  -- `link` of the words is that of the definitions
  pub means_linked : Means (Table.link ws a b) (Links.link l a b)
  unfolding Table.link Links.link joined
  means_linked =
      let m₁ = means_removed ws l m a h in
      let m₂ = means_removed (set ws a 0) (remove l a) m₁ b k in
      rw (far_means ws l m a h, far_means (set ws a 0) (remove l a) m₁ b k)
      (means_joined (set (set ws a 0) b 0) (remove (remove l a) b) m₂ (or_else (get l a) a) (or_else (get (remove l a) b) b) (far_below ws l m a h) (far_below (set ws a 0) (remove l a) m₁ b k))
