-- What every rule asks of the words and of a node. Level Words.
use Rattle.std.specs.Prelude.{ℕ, Bool, List, eqb}
use Rattle.layout.specs.Layout.{steps, node_word}
use Rattle.tried.specs.declared.Tried.{Tried}
use Rattle.tried.specs.declared.Tried.TheVariants.{Passed, Acted, Refused}

-- 16,777,216 steps were taken since begin
unfoldable pub spent : List ℕ → Bool
spent ws = eqb (steps ws) 16777216

-- the number of a node's ports
abbrev pub arity : List ℕ → ℕ → ℕ
arity ws n = node_word ws n 3

-- the place of a node's name in the file; 0 for a free node
abbrev pub name : List ℕ → ℕ → ℕ
name ws n = node_word ws n 1

-- by what trying a rule answered
unfoldable pub on_tried : {A : Type 0} → Tried → A → A → (ℕ → A) → A
on_tried Passed passed acted refused = passed
on_tried Acted passed acted refused = acted
on_tried (Refused r) passed acted refused = refused r
