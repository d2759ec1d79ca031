-- What of a rule fits and is therefore read back. Document 01, "Rules": a tag, then what the rule names.
use Prim.Native.Nat.{ℕ, zero, suc, ◌<◌, ◌≤◌}
use Rattle.std.proofs.Common.{arith}
use Rattle.std.specs.Prelude.{◌≡◌, refl, Bool, false, length}
use Rattle.std.proofs.Math.Path.{ap}
use mathlib.Core.List.{List, [], ◌++◌, append_assoc, append-nil}
use Rattle.net_file.specs.Lists.{bit}
use Rattle.net_file.specs.Values.{Rule, graft, annihilate, erase, commute, eta}
use Rattle.net_file.specs.Read.{read_list, read_tagged, read_rule}
use Rattle.net_file.specs.Write.{be, write_list, write_rule}
use Rattle.net_file_laws.specs.Bytes.{never}
use Rattle.net_file_laws.specs.Exact.{Exact, exact_as, exact_step, exact_give, exact_below, Each, exact_many}
use Rattle.net_file_laws.specs.Parts.{exact_byte, exact_bit}

-- at most 255 numbers of paths
pub record ListFits (paths : ℕ) (ps : List ℕ) : Type 0 where
  pub few : length ps ≤ 255
  pub inside : Each (λ p. p < paths) ps

abbrev pub RuleFits : ℕ → Rule → Type 0
RuleFits paths (graft p lazy) = p < paths
RuleFits paths (annihilate ps) = ListFits paths ps
RuleFits paths (erase es ns) = ListFits paths es × ListFits paths ns
RuleFits paths (commute xs ys) = ListFits paths xs × ListFits paths ys
RuleFits paths (eta cs vs ns) = ListFits paths cs × ListFits paths vs × ListFits paths ns

pub exact_list : (paths : ℕ) → paths ≤ 65536 → Exact (read_list paths) write_list (ListFits paths)
unfolding read_list write_list
exact_list paths hp =
    exact_as (λ ps h. refl) (λ ps h. (h.few, h.inside)) (λ ps g. record { few = g.0; inside = g.1 })
    (exact_many (exact_below 2 paths hp) 1 255 (omega arith))

-- the parts of a rule; of a rule that lacks a part, anything
abbrev tag_of : Rule → ℕ
tag_of (graft p lazy) = 1
tag_of (annihilate ps) = 2
tag_of (erase es ns) = 3
tag_of (commute xs ys) = 4
tag_of (eta cs vs ns) = 5

abbrev path_of : Rule → ℕ
path_of (graft p lazy) = p
path_of (annihilate ps) = 0
path_of (erase es ns) = 0
path_of (commute xs ys) = 0
path_of (eta cs vs ns) = 0

abbrev lazy_of : Rule → Bool
lazy_of (graft p lazy) = lazy
lazy_of (annihilate ps) = false
lazy_of (erase es ns) = false
lazy_of (commute xs ys) = false
lazy_of (eta cs vs ns) = false

abbrev first : Rule → List ℕ
first (graft p lazy) = []
first (annihilate ps) = ps
first (erase es ns) = es
first (commute xs ys) = xs
first (eta cs vs ns) = cs

abbrev second : Rule → List ℕ
second (graft p lazy) = []
second (annihilate ps) = []
second (erase es ns) = ns
second (commute xs ys) = ys
second (eta cs vs ns) = vs

abbrev third : Rule → List ℕ
third (graft p lazy) = []
third (annihilate ps) = []
third (erase es ns) = []
third (commute xs ys) = []
third (eta cs vs ns) = ns

-- what is written after the tag t, and what fits there
abbrev after : ℕ → Rule → List ℕ
after zero r = []
after (suc zero) r = be 2 (path_of r) ++ (be 1 (bit (lazy_of r)) ++ [])
after (suc (suc zero)) r = write_list (first r) ++ []
after (suc (suc (suc zero))) r = write_list (first r) ++ (write_list (second r) ++ [])
after (suc (suc (suc (suc zero)))) r = write_list (first r) ++ (write_list (second r) ++ [])
after (suc (suc (suc (suc (suc zero))))) r = write_list (first r) ++ (write_list (second r) ++ (write_list (third r) ++ []))
after (suc (suc (suc (suc (suc (suc n)))))) r = []

module _ (paths : ℕ) where
  abbrev Tagged : ℕ → Rule → Type 0
  Tagged zero r = ⊥
  Tagged (suc zero) r = (path_of r < paths) × (Unit {0} × (r ≡ graft (path_of r) (lazy_of r)))
  Tagged (suc (suc zero)) r = ListFits paths (first r) × (r ≡ annihilate (first r))
  Tagged (suc (suc (suc zero))) r = ListFits paths (first r) × (ListFits paths (second r) × (r ≡ erase (first r) (second r)))
  Tagged (suc (suc (suc (suc zero)))) r = ListFits paths (first r) × (ListFits paths (second r) × (r ≡ commute (first r) (second r)))
  Tagged (suc (suc (suc (suc (suc zero))))) r =
      ListFits paths (first r) × (ListFits paths (second r) × (ListFits paths (third r) × (r ≡ eta (first r) (second r) (third r))))
  Tagged (suc (suc (suc (suc (suc (suc n)))))) r = ⊥

  tagged : (t : ℕ) (r : Rule) → Tagged t r → tag_of r ≡ t
  tagged zero r g = absurd g
  tagged (suc zero) r g = ap tag_of g.1.1
  tagged (suc (suc zero)) r g = ap tag_of g.1
  tagged (suc (suc (suc zero))) r g = ap tag_of g.1.1
  tagged (suc (suc (suc (suc zero)))) r g = ap tag_of g.1.1
  tagged (suc (suc (suc (suc (suc zero))))) r g = ap tag_of g.1.1.1
  tagged (suc (suc (suc (suc (suc (suc n)))))) r g = absurd g

  module _ (hp : paths ≤ 65536) where
    exact_tagged : (t : ℕ) → Exact (read_tagged paths t) (after t) (Tagged t)
    unfolding read_tagged
    exact_tagged zero = record { reads = λ r g. absurd g; writes = λ bs h r s e. never e }
    exact_tagged (suc zero) =
        exact_step (exact_below 2 paths hp) path_of
        (λ p h. exact_step exact_bit lazy_of (λ l h. exact_give (graft p l)) (λ l h r g. ap lazy_of g))
        (λ p h r g. ap path_of g.1)
    exact_tagged (suc (suc zero)) = exact_step (exact_list paths hp) first (λ ps h. exact_give (annihilate ps)) (λ ps h r g. ap first g)
    exact_tagged (suc (suc (suc zero))) =
        exact_step (exact_list paths hp) first
        (λ es h. exact_step (exact_list paths hp) second (λ ns h. exact_give (erase es ns)) (λ ns h r g. ap second g))
        (λ es h r g. ap first g.1)
    exact_tagged (suc (suc (suc (suc zero)))) =
        exact_step (exact_list paths hp) first
        (λ xs h. exact_step (exact_list paths hp) second (λ ys h. exact_give (commute xs ys)) (λ ys h r g. ap second g))
        (λ xs h r g. ap first g.1)
    exact_tagged (suc (suc (suc (suc (suc zero))))) =
        exact_step (exact_list paths hp) first
        (λ cs h. exact_step (exact_list paths hp) second
        (λ vs h. exact_step (exact_list paths hp) third (λ ns h. exact_give (eta cs vs ns)) (λ ns h r g. ap third g))
        (λ vs h r g. ap second g.1))
        (λ cs h r g. ap first g.1.1)
    exact_tagged (suc (suc (suc (suc (suc (suc n)))))) = record { reads = λ r g. absurd g; writes = λ bs h r s e. never e }

    written : (r : Rule) → write_rule r ≡ be 1 (tag_of r) ++ after (tag_of r) r
    unfolding write_rule
    written (graft p lazy) = simp (append_assoc, append-nil)
    written (annihilate ps) = simp append-nil
    written (erase es ns) = simp (append_assoc, append-nil)
    written (commute xs ys) = simp (append_assoc, append-nil)
    written (eta cs vs ns) = simp (append_assoc, append-nil)

    needs : (r : Rule) → RuleFits paths r → (tag_of r < 256) × Tagged (tag_of r) r
    needs (graft p lazy) h = (omega arith, (h, (tt, refl)))
    needs (annihilate ps) h = (omega arith, (h, refl))
    needs (erase es ns) h = (omega arith, (h.0, (h.1, refl)))
    needs (commute xs ys) h = (omega arith, (h.0, (h.1, refl)))
    needs (eta cs vs ns) h = (omega arith, (h.0, (h.1, (h.2, refl))))

    fits : (r : Rule) → (tag_of r < 256) × Tagged (tag_of r) r → RuleFits paths r
    fits (graft p lazy) g = g.1.0
    fits (annihilate ps) g = g.1.0
    fits (erase es ns) g = (g.1.0, g.1.1.0)
    fits (commute xs ys) g = (g.1.0, g.1.1.0)
    fits (eta cs vs ns) g = (g.1.0, g.1.1.0, g.1.1.1.0)

    pub exact_rule : Exact (read_rule paths) write_rule (RuleFits paths)
    unfolding read_rule
    exact_rule = exact_as (λ r h. written r) needs fits (exact_step exact_byte tag_of (λ t h. exact_tagged t) (λ t h. tagged t))
