-- Wires in the order in which they are met, one at a time: level Engine's list of those met, as a pass finds it.
use Rattle.std.specs.Prelude.{ℕ, suc, ◌≤◌, ◌≡◌, refl, Bool, true, false, ◌||◌, List, [], ◌∷◌, ◌++◌, map, length}
use Rattle.std.proofs.Common.{sym, ◌∙◌, arith, true≢false, append_assoc, append-nil, length-append}
use Rattle.std.proofs.Math.Path.{ap}
use Rattle.std.proofs.Math.Bool.{cond}
use Rattle.list_laws.specs.Lists.{any_append}
use Rattle.net_file.specs.Lists.{any, concat_map}
use Rattle.definitions.specs.Lists.{place, firsts}
use Rattle.definitions.specs.Nets.{Port, Graph, same_port, ports}
use Rattle.definitions.specs.Finish.{wire_at, wires_met}
use Rattle.join_laws.specs.Ports.{same_port_self}

-- it was met
abbrev pub met : List Port → Port → Bool
met d x = any (same_port x) d

-- one wire more, unless it was met
unfoldable pub meet : List Port → Port → List Port
meet d x = cond (met d x) d (d ++ x ∷ [])

-- one after the other
abbrev pub meets : List Port → List Port → List Port
meets d [] = d
meets d (x ∷ xs) = meets (meet d x) xs

module _ (d : List Port) (x : Port) where
  pub meet_old : met d x ≡ true → meet d x ≡ d
  unfolding meet
  meet_old e = ap (λ (t : Bool). cond t d (d ++ x ∷ [])) e

  pub meet_new : met d x ≡ false → meet d x ≡ d ++ x ∷ []
  unfolding meet
  meet_new e = ap (λ (t : Bool). cond t d (d ++ x ∷ [])) e

pub meets_append : (d xs ys : List Port) → meets d (xs ++ ys) ≡ meets (meets d xs) ys
meets_append d [] ys = refl
meets_append d (x ∷ xs) ys = meets_append (meet d x) xs ys

-- ---- places

-- what stands in front keeps its place
pub place_front : (x : Port) (d rest : List Port) → met d x ≡ true → place (same_port x) (d ++ rest) ≡ place (same_port x) d
place_front x [] rest e = absurd (true≢false (sym e))
place_front x (y ∷ d) rest e = go (same_port x y) e (place_front x d rest)
  where
    go : (t : Bool) → (t || met d x) ≡ true → (met d x ≡ true → place (same_port x) (d ++ rest) ≡ place (same_port x) d)
        → ◌≡◌ {A = ℕ} (elim t as (λ _. ℕ) [ true ↦ 0 | false ↦ suc (place (same_port x) (d ++ rest)) ]) (elim t as (λ _. ℕ) [ true ↦ 0 | false ↦ suc (place (same_port x) d) ])
    go true q r = refl
    go false q r = ap suc (r q)

-- a new one stands where the others end
pub place_new : (x : Port) (d : List Port) → met d x ≡ false → place (same_port x) (d ++ x ∷ []) ≡ length d
place_new x [] e = ap (λ (t : Bool). elim t as (λ _. ℕ) [ true ↦ 0 | false ↦ 1 ]) (same_port_self x)
place_new x (y ∷ d) e = go (same_port x y) e (place_new x d)
  where
    go : (t : Bool) → (t || met d x) ≡ false → (met d x ≡ false → place (same_port x) (d ++ x ∷ []) ≡ length d)
        → elim t as (λ _. ℕ) [ true ↦ 0 | false ↦ suc (place (same_port x) (d ++ x ∷ [])) ] ≡ suc (length d)
    go true q r = absurd (true≢false q)
    go false q r = ap suc (r q)

-- it is met once it was met
pub met_more : (x : Port) (d rest : List Port) → met d x ≡ true → met (d ++ rest) x ≡ true
met_more x d rest e = any_append (same_port x) d rest ∙ ap (λ (t : Bool). t || met rest x) e

pub met_self : (x : Port) (d : List Port) → met (d ++ x ∷ []) x ≡ true
met_self x d = any_append (same_port x) d (x ∷ []) ∙ ap (λ (t : Bool). met d x || (t || false)) (same_port_self x) ∙ or_true (met d x)
  where
    or_true : (t : Bool) → (t || true) ≡ true
    or_true true = refl
    or_true false = refl

-- a wire met anew was met
pub meet_met : (d : List Port) (x : Port) → met (meet d x) x ≡ true
meet_met d x = go (met d x) refl
  where
    go : (t : Bool) → met d x ≡ t → met (meet d x) x ≡ true
    go true e = rw (meet_old d x e) e
    go false e = rw (meet_new d x e) (met_self x d)

-- another one is met as before
pub met_other : (x y : Port) (d : List Port) → same_port x y ≡ false → met (d ++ y ∷ []) x ≡ met d x
met_other x y d e = any_append (same_port x) d (y ∷ []) ∙ ap (λ (t : Bool). met d x || (t || false)) e ∙ or_false (met d x)
  where
    or_false : (t : Bool) → (t || false) ≡ t
    or_false true = refl
    or_false false = refl

-- ---- the whole

-- d is what was met of `whole` so far
pub record Front (d whole : List Port) : Type 0 where
  pub rest : List Port
  pub is : meets d rest ≡ whole

pub front_back : {d whole : List Port} (xs : List Port) → Front (meets d xs) whole → Front d whole
front_back {d} xs f = record { rest = xs ++ f.rest; is = meets_append d xs f.rest ∙ f.is }

meets_place : (x : Port) (xs d : List Port) → met d x ≡ true → place (same_port x) (meets d xs) ≡ place (same_port x) d
meets_place x [] d e = refl
meets_place x (y ∷ xs) d e = go (met d y) refl (meets_place x xs)
  where
    go : (t : Bool) → met d y ≡ t → ((c : List Port) → met c x ≡ true → place (same_port x) (meets c xs) ≡ place (same_port x) c)
        → place (same_port x) (meets (meet d y) xs) ≡ place (same_port x) d
    go true q r = rw (meet_old d y q) (r d e)
    go false q r = rw (meet_new d y q) (r (d ++ y ∷ []) (met_more x d (y ∷ []) e) ∙ place_front x d (y ∷ []) e)

-- a wire that was met has its number
pub front_place : {d whole : List Port} → Front d whole → (x : Port) → met d x ≡ true → place (same_port x) whole ≡ place (same_port x) d
front_place {d} f x e = rw (← f.is) (meets_place x f.rest d e)

meets_longer : (xs d : List Port) → length d ≤ length (meets d xs)
meets_longer [] d = omega arith
meets_longer (y ∷ xs) d = go (met d y) refl (meets_longer xs)
  where
    go : (t : Bool) → met d y ≡ t → ((c : List Port) → length c ≤ length (meets c xs)) → length d ≤ length (meets (meet d y) xs)
    go true q r = rw (meet_old d y q) (r d)
    go false q r = rw (meet_new d y q) (let a = r (d ++ y ∷ []) in let b = length-append d (y ∷ []) in omega arith)

pub front_longer : {d whole : List Port} → Front d whole → length d ≤ length whole
front_longer {d} f = rw (← f.is) (meets_longer f.rest d)

-- ---- level Engine's list

meets_firsts : (xs seen d : List Port) → ((y : Port) → any (same_port y) seen ≡ met d y) → meets d xs ≡ d ++ firsts same_port seen xs
meets_firsts [] seen d alike = sym (append-nil d)
meets_firsts (x ∷ xs) seen d alike = go (any (same_port x) seen) refl (meets_firsts xs)
  where
    swap : (a b : Bool) → (a || b) ≡ (b || (a || false))
    swap true true = refl
    swap true false = refl
    swap false true = refl
    swap false false = refl

    go : (t : Bool) → any (same_port x) seen ≡ t
        → ((s c : List Port) → ((y : Port) → any (same_port y) s ≡ met c y) → meets c xs ≡ c ++ firsts same_port s xs)
        → meets (meet d x) xs ≡ d ++ elim t as (λ _. List Port) [ true ↦ firsts same_port seen xs | false ↦ x ∷ firsts same_port (x ∷ seen) xs ]
    go true q r = rw (meet_old d x (sym (alike x) ∙ q)) (r seen d alike)
    go false q r =
        rw (meet_new d x (sym (alike x) ∙ q))
        (r (x ∷ seen) (d ++ x ∷ []) (λ y. ap (λ (t : Bool). same_port y x || t) (alike y) ∙ swap (same_port y x) (met d y) ∙ sym (any_append (same_port y) d (x ∷ [])))
        ∙ append_assoc d (x ∷ []) (firsts same_port (x ∷ seen) xs))

-- the wires met at the ports of nodes, port by port
pub wires_met_lem : (g : Graph) (ids : List ℕ) → meets [] (map (wire_at g) (concat_map (ports g) ids)) ≡ wires_met g ids
unfolding wires_met
wires_met_lem g ids = meets_firsts (map (wire_at g) (concat_map (ports g) ids)) [] [] (λ y. refl)
