-- On a table without marks of its stamp, the marks of a net's pairs say which wires are one wire: `canon_exact`. And what a table
-- keeps: marks of later stamps come to none, words past the wires stay.
use Rattle.std.specs.Prelude.{ℕ, suc, ◌/◌, ◌%◌, ◌<◌, ◌≤◌, min, ◌≡◌, refl, Bool, not, ◌&&◌, ◌||◌, List, [], ◌∷◌, map, length, get_or, set, T, eqb, ltb}
use Rattle.std.proofs.Common.{sym, ◌∙◌, length-set, get_or-set_same, get_or-set_other, ltb→lt, eq-eqb, ne_eqb}
use Rattle.std.proofs.Math.Path.{ap}
use Rattle.std.proofs.Math.Bool.{true, false}
use Rattle.std.proofs.Math.Option.{Option, none, some}
use native.Mathlib.Omega.{arith}
use Rattle.std.proofs.Math.Decide.{ℕ_discrete, dec_lt}
use Rattle.std.proofs.Math.Seq.{set_out}
use Rattle.std.proofs.lemmas.Bool.{eqb-false}
use Rattle.words.specs.Choose.{eq_yes, eq_no}
use Rattle.net_file.specs.Lists.{all, any, distinct, ascend}
use Rattle.net_file.specs.Checks.{pair_wires, pairs_ordered}
use Rattle.net_file_laws.specs.Exact.{Each}
use Rattle.net_file_laws.specs.Parts.{each_of}
use Rattle.conversions.specs.Links.{get, canonical, links_of}
use Rattle.wire_marks.specs.Marks.{mark, marked, canon}

-- ---- pairs in order, one by one

-- the smaller wire first, no wire in two pairs, all wires below 65,536
pub data Ordered : List (ℕ × ℕ) → Type 0 where
  no_pair : Ordered []
  a_pair : {p : ℕ × ℕ} {ps : List (ℕ × ℕ)} → p.0 < p.1 → p.1 < 65536 → any (eqb p.0) (pair_wires ps) ≡ false → any (eqb p.1) (pair_wires ps) ≡ false
      → Ordered ps → Ordered (p ∷ ps)

either : (a b : Bool) → (a || b) ≡ false → (a ≡ false) × (b ≡ false)
either true b e = let z : ◌≡◌ {A = ℕ} 0 1 = cc in absurd (omega arith)
either false b e = (refl, e)

none_of : (b : Bool) → T (not b) → b ≡ false
none_of true h = absurd h
none_of false h = refl

-- a wire that is in no pair is none of the first
absent : (w : ℕ) (p : ℕ × ℕ) (ps : List (ℕ × ℕ)) → any (eqb w) (pair_wires (p ∷ ps)) ≡ false → (w ≡ p.0 → ⊥) × (w ≡ p.1 → ⊥) × (any (eqb w) (pair_wires ps) ≡ false)
unfolding pair_wires
absent w p ps e =
    let a = either (eqb w p.0) _ e in
    let b = either (eqb w p.1) _ a.1 in
    (eqb-false w p.0 a.0, eqb-false w p.1 b.0, b.1)

-- pairs that passed check 6
ordered_by : (ps : List (ℕ × ℕ)) → T (all (λ p. ltb p.0 p.1) ps) → T (distinct eqb (pair_wires ps)) → Each (λ p. p.1 < 65536) ps → Ordered ps
unfolding pair_wires
ordered_by [] a d f = no_pair
ordered_by (p ∷ ps) a d f =
    let x = each_of (ltb p.0 p.1) _ a in
    let y = each_of (not (any (eqb p.0) (p.1 ∷ pair_wires ps))) _ d in
    let z = each_of (not (any (eqb p.1) (pair_wires ps))) _ y.1 in
    a_pair (ltb→lt p.0 p.1 x.0) f.0 (either (eqb p.0 p.1) _ (none_of _ y.0)).1 (none_of _ z.0) (ordered_by ps x.1 z.1 f.1)

pub ordered_pairs : (ps : List (ℕ × ℕ)) → T (pairs_ordered ps) → Each (λ p. p.1 < 65536) ps → Ordered ps
unfolding pairs_ordered
ordered_pairs ps h f =
    let x = each_of (all (λ p. ltb p.0 p.1) ps && ascend (map (λ p. p.0) ps)) _ h in
    ordered_by ps (each_of (all (λ p. ltb p.0 p.1) ps) _ x.0).0 x.1 f

-- ---- the table

-- other wires' words stay
pub marked_other : (stamp : ℕ) (ps : List (ℕ × ℕ)) (ws : List ℕ) (w : ℕ) → any (eqb w) (pair_wires ps) ≡ false → get_or (marked stamp ps ws) w 0 ≡ get_or ws w 0
unfolding marked
marked_other stamp [] ws w h = refl
marked_other stamp (p ∷ ps) ws w h =
    let a = absent w p ps h in
    marked_other stamp ps (set ws p.1 (mark stamp p.0)) w a.2 ∙ get_or-set_other ws p.1 w (mark stamp p.0) 0 a.1

pub length_marked : (stamp : ℕ) (ps : List (ℕ × ℕ)) (ws : List ℕ) → length (marked stamp ps ws) ≡ length ws
unfolding marked
length_marked stamp [] ws = refl
length_marked stamp (p ∷ ps) ws = length_marked stamp ps (set ws p.1 (mark stamp p.0)) ∙ length-set ws p.1 (mark stamp p.0)

-- ---- which wire it is

canon_of : (ws : List ℕ) (stamp w v : ℕ) → get_or ws w 0 ≡ v → v / 65536 ≡ stamp → canon ws stamp w ≡ v % 65536
unfolding canon
canon_of ws stamp w v e h = sym (eq_yes _ _ _ _ (rw e h) (rw e))

canon_same : (ws : List ℕ) (stamp w v : ℕ) → get_or ws w 0 ≡ v → (v / 65536 ≡ stamp → ⊥) → canon ws stamp w ≡ w
unfolding canon
canon_same ws stamp w v e h = sym (eq_no _ _ _ _ (λ g. h (rw e at g)) refl)

-- what stands in a table, by its first entry
module _ (a b w : ℕ) (es : List (ℕ × ℕ)) where
  get_first : a ≡ w → get ((a, b) ∷ es) w ≡ some b
  unfolding get
  get_first e = ap (λ (t : Bool). elim t as (λ u. Option ℕ) [ true ↦ some b | false ↦ get es w ]) (eq-eqb a w e)

  get_later : (a ≡ w → ⊥) → get ((a, b) ∷ es) w ≡ get es w
  unfolding get
  get_later h = ap (λ (t : Bool). elim t as (λ u. Option ℕ) [ true ↦ some b | false ↦ get es w ]) (ne_eqb a w h)

canonical_by : (l : List (ℕ × ℕ)) (w b : ℕ) → get l w ≡ some b → canonical l w ≡ min w b
unfolding canonical
canonical_by l w b e = ap (λ (o : Option ℕ). elim o as (λ u. ℕ) [ none ↦ w | some b ↦ min w b ]) e

canonical_as : (l m : List (ℕ × ℕ)) (w : ℕ) → get l w ≡ get m w → canonical l w ≡ canonical m w
unfolding canonical
canonical_as l m w e = ap (λ (o : Option ℕ). elim o as (λ u. ℕ) [ none ↦ w | some b ↦ min w b ]) e

module _ (p : ℕ × ℕ) (ps : List (ℕ × ℕ)) where
  canonical_first : p.0 < p.1 → canonical (links_of (p ∷ ps)) p.0 ≡ p.0
  unfolding links_of
  canonical_first h = canonical_by _ p.0 p.1 (get_first p.0 p.1 p.0 _ refl) ∙ omega arith

  canonical_second : p.0 < p.1 → canonical (links_of (p ∷ ps)) p.1 ≡ p.0
  unfolding links_of
  canonical_second h =
      canonical_by _ p.1 p.0 (get_later p.0 p.1 p.1 _ (λ z. omega arith) ∙ get_first p.1 p.0 p.1 _ refl) ∙ omega arith

  canonical_other : (w : ℕ) → (w ≡ p.0 → ⊥) → (w ≡ p.1 → ⊥) → canonical (links_of (p ∷ ps)) w ≡ canonical (links_of ps) w
  unfolding links_of
  canonical_other w g h =
      canonical_as _ _ w (get_later p.0 p.1 w _ (λ z. g (sym z)) ∙ get_later p.1 p.0 w _ (λ z. h (sym z)))

canonical_none : (w : ℕ) → canonical (links_of []) w ≡ w
unfolding canonical links_of get
canonical_none w = refl

-- the word of a mark
mark_stamp : (stamp a : ℕ) → a < 65536 → mark stamp a / 65536 ≡ stamp
mark_stamp stamp a h = omega arith

mark_wire : (stamp a : ℕ) → a < 65536 → mark stamp a % 65536 ≡ a
mark_wire stamp a h = omega arith

-- the marks of pairs in order, on a table of all wires in which w has no mark of the stamp
pub canon_exact : (stamp w : ℕ) (ps : List (ℕ × ℕ)) → Ordered ps → (ws : List ℕ) → 65536 ≤ length ws → (get_or ws w 0 / 65536 ≡ stamp → ⊥)
    → canon (marked stamp ps ws) stamp w ≡ canonical (links_of ps) w
unfolding marked
canon_exact stamp w [] o ws l n = canon_same ws stamp w _ refl n ∙ sym (canonical_none w)
canon_exact stamp w (p ∷ ps) (a_pair h k g₀ g₁ o) ws l n =
    let v = mark stamp p.0 in
    let u = set ws p.1 v in
    elim (ℕ_discrete w p.1) [
      | yes e ↦
          let i : get_or (marked stamp ps u) p.1 0 ≡ v = marked_other stamp ps u p.1 g₁ ∙ get_or-set_same ws p.1 v 0 (omega arith) in
          let c : canon (marked stamp ps u) stamp p.1 ≡ p.0 =
          canon_of (marked stamp ps u) stamp p.1 v i (mark_stamp stamp p.0 (omega arith)) ∙ mark_wire stamp p.0 (omega arith) in
          rw e (c ∙ sym (canonical_second p ps h))
      | no d ↦
          let i : get_or u w 0 ≡ get_or ws w 0 = get_or-set_other ws p.1 w v 0 d in
          elim (ℕ_discrete w p.0) [
            | yes e ↦
                let j : any (eqb w) (pair_wires ps) ≡ false = rw e g₀ in
                canon_same (marked stamp ps u) stamp w _ (marked_other stamp ps u w j ∙ i) n ∙ e ∙ sym (rw e (canonical_first p ps h))
            | no c ↦
                canon_exact stamp w ps o u (rw length-set l) (λ z. n (rw i at z)) ∙ sym (canonical_other p ps w c d)
          ]
    ]

-- ---- from net to net

-- every wire's mark has a lower stamp
abbrev pub Below : ℕ → List ℕ → Type 0
Below stamp ws = (i : ℕ) → i < 65536 → get_or ws i 0 / 65536 < stamp

-- a word stored, whatever its place
pub set_cases : (P : ℕ → Type 0) (ws : List ℕ) (b v i : ℕ) → P v → P (get_or ws i 0) → P (get_or (set ws b v) i 0)
set_cases P ws b v i h g = elim (ℕ_discrete i b) [
  | yes e ↦ elim (dec_lt b (length ws)) [
    | yes l ↦ rw (e, get_or-set_same ws b v 0 l) h
    | no l ↦ rw (set_out ws b v (omega arith)) g
  ]
  | no d ↦ rw (get_or-set_other ws b i v 0 d) g
]

pub below_marked : (stamp : ℕ) (ps : List (ℕ × ℕ)) → Ordered ps → (ws : List ℕ) → Below (suc stamp) ws → Below (suc stamp) (marked stamp ps ws)
unfolding marked
below_marked stamp [] o ws h = h
below_marked stamp (p ∷ ps) (a_pair l k g₀ g₁ o) ws h =
    below_marked stamp ps o (set ws p.1 (mark stamp p.0))
    (λ i m. set_cases (λ v. v / 65536 < suc stamp) ws p.1 (mark stamp p.0) i (omega (arith, mark_stamp stamp p.0 (omega arith))) (h i m))
