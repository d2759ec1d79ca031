-- A file's nets to its last byte: a count, at most 256, the nets, at most 4,096 nodes in all, nothing left over; and each way
-- out of the walk over them. For either version.
use Rattle.std.specs.Prelude.{ℕ, ◌+◌, ◌-◌, ◌<◌, ◌≤◌, min, ◌≡◌, Bool, true, false, List, map, length, drop, eqb, Option, Some, None}
use Rattle.std.proofs.Math.Path.{refl, ap}
use Rattle.std.proofs.Common.{sym, ◌∙◌, arith, length-drop, eq-eqb, ne_eqb, le-leb}
use Rattle.std.proofs.Math.Option.{some}
use Rattle.std.proofs.Math.Decide.{dec_lt}
use Rattle.std.proofs.Math.Dec.{leb}
use Rattle.std.proofs.lemmas.Bool.{lt-leb}
use Rattle.net_file.specs.Lists.{sum}
use Rattle.net_file.specs.Read.{Parser, then, ◌>>=◌, such, times, many, nodes_fit}
use Rattle.fields.specs.Fields.{be16}
use Rattle.stored.specs.Stored.{table_at, table_end}
use Rattle.stored.specs.Laws.{Stands, stands_2, stands_many, stands_times}
use Rattle.walk.specs.After.{after, after_none, after_some, after_bad, went, Went}
use Rattle.walk.specs.Walk.{many_2_short, many_2_high, many_2_on}

-- nothing may be left over
abbrev pub ended : {A : Type 0} → A → Parser A
ended a = λ bs. such (eqb (length bs) 0) a bs

unfoldable pub nets_part : {Net : Type 0} → Parser Net → (Net → ℕ) → Parser (List Net)
nets_part read_net nodes = many 2 256 read_net >>= λ ns. such (nodes_fit nodes ns) ns >>= λ ns. ended ns

-- the nets of a version: how one is read, where it stands, and how many nodes k of them have, by offsets
pub record NetsOf (Net : Type 0) : Type 0 where
  pub read_net : ℕ → ℕ → Parser Net
  pub nodes : Net → ℕ
  pub net_at : List ℕ → ℕ → Net
  pub net_end : List ℕ → ℕ → ℕ
  pub nets_nodes : List ℕ → ℕ → ℕ → ℕ
  pub stands : (s : List ℕ) (np nm at : ℕ) → Stands s (read_net np nm) at (net_at s at) (net_end s at)
  pub nets_nodes_lem : (s : List ℕ) (np nm k at : ℕ) (ns : List Net) (r : List ℕ) → at ≤ length s → times k (read_net np nm) (drop at s) ≡ some (ns, r)
      → nets_nodes s at k ≡ sum (map nodes ns)

-- a count that stops at 4,097 tells whether there are more than 4,096
capped : (n c : ℕ) → c ≡ min 4097 n → leb n 4096 ≡ leb c 4096
capped n c e = elim (dec_lt 4096 n) [
  | yes l ↦ lt-leb n 4096 l ∙ sym (lt-leb c 4096 (omega arith))
  | no l ↦ le-leb n 4096 (omega arith) ∙ sym (le-leb c 4096 (omega arith))
]

module _ {Net : Type 0} (v : NetsOf Net) (s : List ℕ) (np nm q : ℕ) where
  abbrev read_net : Parser Net
  read_net = v.read_net np nm

  -- the answer that is to be given
  abbrev answer : Option ℕ
  answer = after q (nets_part (v.read_net np nm) v.nodes) s

  -- what follows the nets
  abbrev after_nets : List Net → Parser (List Net)
  after_nets ns = such (nodes_fit v.nodes ns) ns >>= λ ms. ended ms

  pub part_short : length s < q + 2 → None ≡ answer
  unfolding nets_part
  part_short l = after_bad (many 2 256 read_net) after_nets s q None (many_2_short s read_net q 256 l) refl

  module _ (k : ℕ) (i : 2 ≤ length s) (j : q ≤ length s - 2) (e : k ≡ be16 s q) where
    pub part_high : 256 < k → None ≡ answer
    unfolding nets_part
    part_high l = after_bad (many 2 256 read_net) after_nets s q None (many_2_high s read_net q 256 k i j e l) refl

    module _ (l : k ≤ 256) (w : Option ℕ) (ew : w ≡ after (q + 2) (times k (v.read_net np nm)) s) where
      counted : w ≡ after q (many 2 256 read_net) s
      counted = many_2_on s read_net q 256 k w i j e l ew

      pub part_bad : w ≡ None → None ≡ answer
      unfolding nets_part
      part_bad b = after_bad (many 2 256 read_net) after_nets s q w counted b

      module _ (m c : ℕ) (wa : w ≡ Some m) (ec : c ≡ min 4097 (v.nets_nodes s (q + 2) k)) where
        abbrev nets : List Net
        nets = table_at (v.net_at s) (v.net_end s) (q + 2) (be16 s q)

        -- the nets are read
        gone : Went (many 2 256 read_net) s q nets m (table_end (v.net_end s) (q + 2) (be16 s q))
        gone = went w m (stands_many s 2 256 read_net (v.net_at s) (v.net_end s) q _ _ (stands_2 s q) (v.stands s np nm)) counted wa

        -- whether they have too many nodes
        fit : (t : Bool) → leb c 4096 ≡ t → nodes_fit v.nodes nets ≡ t
        unfolding nodes_fit
        fit t f =
            let y = went w m (stands_times s read_net (v.net_at s) (v.net_end s) (v.stands s np nm) k (q + 2)) ew wa in
            ap (λ n. nodes_fit v.nodes (table_at (v.net_at s) (v.net_end s) (q + 2) n)) (sym e)
            ∙ ap (λ n. leb n 4096) (sym (v.nets_nodes_lem s np nm k (q + 2) _ _ y.from y.read)) ∙ capped _ c ec ∙ f

        -- and what is then to be read
        rest : (t : Bool) → leb c 4096 ≡ t → nets_part read_net v.nodes (drop q s) ≡ (such t nets >>= λ ms. ended ms) (drop m s)
        unfolding nets_part
        rest t f = let y = gone in ap (λ o. then o after_nets) y.read ∙ (λ x. (such (fit t f x) nets >>= λ ms. ended ms) (drop (sym y.is x) s))

        pub part_many : 4096 < c → None ≡ answer
        part_many o = after_none (nets_part read_net v.nodes) s q (omega arith) (rest false (lt-leb c 4096 o))

        pub part_left : c ≤ 4096 → (m ≡ length s → ⊥) → None ≡ answer
        part_left o d =
            let y = gone in
            let n : length (drop m s) ≡ 0 → ⊥ = λ z. d (let x : length s - m ≡ 0 = rw length-drop at z in omega (arith, y.is, y.within)) in
            after_none (nets_part read_net v.nodes) s q (omega arith) (rest true (le-leb c 4096 o) ∙ ap (λ t. such t nets (drop m s)) (ne_eqb _ _ n))

        pub part_all : c ≤ 4096 → m ≡ length s → Some m ≡ answer
        part_all o d =
            let n : length (drop m s) ≡ 0 = rw length-drop (omega arith) in
            after_some (nets_part read_net v.nodes) s q nets m (omega arith) (rest true (le-leb c 4096 o) ∙ ap (λ t. such t nets (drop m s)) (eq-eqb _ _ n)) (omega arith)

-- every way out, for the check of the walk
pub ruleset ways = (part_short, part_high, part_bad, part_many, part_left, part_all)
