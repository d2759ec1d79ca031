-- Bytes stored from two places on, of which the first ends before the second begins: in either order the same.
use Rattle.std.specs.Prelude.{ℕ, suc, ◌+◌, ◌<◌, ◌≤◌, ◌≡◌, refl, List, [], ◌∷◌, ◌++◌, length, set}
use Rattle.std.proofs.Common.{sym, ap, ◌∙◌, arith}
use Rattle.std.proofs.lemmas.List.Edits.{sets}
use Rattle.std.proofs.lemmas.List.{set_comm}
use Rattle.text_writers.specs.Wrote.{sets_append}

set_sets : (o : List ℕ) (b : ℕ) (y : List ℕ) (i v : ℕ) → i < b → set (sets o b y) i v ≡ sets (set o i v) b y
set_sets o b [] i v h = refl
set_sets o b (x ∷ y) i v h = set_sets (set o b x) (suc b) y i v (omega arith) ∙ ap (λ (l : List ℕ). sets l (suc b) y) (set_comm o b i x v (λ e. omega arith))

pub sets_comm : (o : List ℕ) (a b : ℕ) (x y : List ℕ) → a + length x ≤ b → sets (sets o b y) a x ≡ sets (sets o a x) b y
sets_comm o a b [] y h = refl
sets_comm o a b (v ∷ x) y h = ap (λ (l : List ℕ). sets l (suc a) x) (set_sets o b y a v (omega arith)) ∙ sets_comm (set o a v) (suc a) b x y (omega arith)

-- one part right after another, whatever the second place is called
pub sets_then : (o : List ℕ) (a b : ℕ) (x y : List ℕ) → b ≡ a + length x → sets (sets o a x) b y ≡ sets o a (x ++ y)
sets_then o a b x y e = rw e (sym (sets_append o a x y))
