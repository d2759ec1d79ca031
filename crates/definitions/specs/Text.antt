-- Text as bytes: quoted words, decimal numbers, lines; and bytes quoted in hexadecimal.
use Rattle.std.specs.Prelude.{ℕ, zero, suc, ◌+◌, ◌*◌, ◌-◌, ◌/◌, ◌%◌, true, false, List, [], ◌∷◌, ◌++◌, ltb}
use Prim.Native.Char.{code}
use Prim.Native.String.{String, [] as []ˢ, ◌∷◌ as ◌∷ˢ◌}

-- a quoted text of ASCII
unfoldable pub text : String → List ℕ
text []ˢ = []
text (c ∷ˢ s) = code c ∷ text s

-- at most k digits
unfoldable pub digits : ℕ → ℕ → List ℕ
digits zero n = []
digits (suc k) n = elim (ltb n 10) [ true ↦ (48 + n) ∷ [] | false ↦ digits k (n / 10) ++ (48 + n % 10) ∷ [] ]

-- "decimal without leading zeros"; a payload has at most 20 digits
unfoldable pub decimal : ℕ → List ℕ
decimal n = digits 20 n

-- "one space parts fields, a line feed ends each line"
unfoldable pub line : List (List ℕ) → List ℕ
line [] = 10 ∷ []
line (w ∷ []) = w ++ 10 ∷ []
line (w ∷ v ∷ ws) = w ++ 32 ∷ line (v ∷ ws)

-- 0 to 9, a to f
unfoldable pub hex_digit : ℕ → ℕ
hex_digit c = elim (ltb c 58) [ true ↦ c - 48 | false ↦ c - 87 ]

-- a file as the documents quote it
unfoldable pub hex_bytes : List ℕ → List ℕ
hex_bytes [] = []
hex_bytes (a ∷ []) = []
hex_bytes (a ∷ b ∷ cs) = (16 * hex_digit a + hex_digit b) ∷ hex_bytes cs

-- of a quoted text
unfoldable pub hex : String → List ℕ
hex s = hex_bytes (text s)
