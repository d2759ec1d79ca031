-- Interactions on the words: engine.rs, `visit`, its first half. Level Words.
-- Document 01: "interaction rules for that pair of paths are tried in order of registration (both orders registered, the second
-- flipped, once where the paths are equal)".
use Rattle.std.specs.Prelude.{ℕ, ◌+◌, Bool, true, false, List, [], ◌∷◌}
use Rattle.words.specs.Choose.{pick, if_eq}
use Rattle.words.specs.Left.{Left}
use Rattle.fields.specs.Fields.{byte}
use Rattle.stored.specs.Stored.{list_at}
use Rattle.rule_sets.specs.Sets.{set_of, has, rule_at_words}
use Rattle.tried.specs.Tries.{on_tried}
use Rattle.tried.specs.declared.Tried.{Tried}
use Rattle.tried.specs.declared.Tried.TheVariants.{Passed, Acted, Refused}
use Rattle.annihilate.specs.Annihilate.{annihilate}
use Rattle.erase.specs.Erase.{erase}
use Rattle.commute.specs.Commute.{commute}
use Rattle.interactions.specs.declared.Visited.{Visited}

-- rule r is registered for the pair of paths p, q
unfoldable pub registered : List ℕ → ℕ → ℕ → ℕ → Bool
registered sets r p q = pick (has (set_of sets p 0) r) (has (set_of sets q 1) r) false

-- of p and q that which stands first in a list is p
unfoldable pub first_of_words : ℕ → ℕ → List ℕ → Bool
first_of_words p q [] = true
first_of_words p q (x ∷ xs) =
    let rest = first_of_words p q xs in
    if_eq x p true (if_eq x q false rest)

-- erase or commute, by the tag
unfoldable pub apply : List ℕ → ℕ → ℕ → ℕ → ℕ → Left Tried
apply ws tag t a b = if_eq tag 3 (erase ws t a b) (commute ws t a b)

-- as it is, then flipped
unfoldable pub apply_both : List ℕ → ℕ → ℕ → ℕ → ℕ → Left Tried
apply_both ws tag t a b =
    let x = apply ws tag t a b in
    on_tried x.is (apply x.ws tag t b a) (record { is = Acted; ws = x.ws }) (λ r. record { is = Refused r; ws = x.ws })

-- registered both ways: the path that stands first in the first list is tried first
unfoldable pub in_order : List ℕ → List ℕ → ℕ → Visited → Left Tried
in_order ws file at v =
    let tag = byte file at in
    let t = v.net.0 in
    pick (first_of_words v.path v.facing (list_at file (at + 1))) (apply_both ws tag t v.node.0 v.other.0) (apply_both ws tag t v.other.0 v.node.0)

-- registered for the paths as they are: "once where the paths are equal"
unfoldable pub straight : List ℕ → List ℕ → List ℕ → ℕ → Visited → Left Tried
straight ws file sets r v =
    let at = rule_at_words sets r in
    let one = apply ws (byte file at) v.net.0 v.node.0 v.other.0 in
    if_eq v.path v.facing one (pick (registered sets r v.facing v.path) (in_order ws file at v) one)

-- erase or commute r
unfoldable pub pair : List ℕ → List ℕ → List ℕ → ℕ → Visited → Left Tried
pair ws file sets r v =
    pick (registered sets r v.path v.facing) (straight ws file sets r v)
    (pick (registered sets r v.facing v.path) (apply ws (byte file (rule_at_words sets r)) v.net.0 v.other.0 v.node.0) (record { is = Passed; ws = ws }))

-- interaction r; annihilate is registered for equal paths only
unfoldable pub interact : List ℕ → List ℕ → List ℕ → ℕ → Visited → Left Tried
interact ws file sets r v =
    if_eq (byte file (rule_at_words sets r)) 2 (if_eq v.path v.facing (annihilate ws file v.node.0 v.other.0) (record { is = Passed; ws = ws }))
    (pair ws file sets r v)
