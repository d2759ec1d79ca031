-- The run on the words: engine.rs, `run`, in slices. Level Words.
use Rattle.std.specs.Prelude.{ℕ, zero, suc, Bool, true, List, get_or, set, replicate, eqb}
use Rattle.words.specs.Choose.{pick, if_eq, if_lt}
use Rattle.words.specs.Left.{Left}
use Rattle.layout.specs.Layout.{next, less, limit, steps, dirty_length, dirty_stale, node_word, set_node_word, dirty_at}
use Rattle.graph.specs.Graph.{fewer}
use Rattle.waits.specs.Waits.{finish_edit_net_words}
use Rattle.edits.specs.Edits.{finish_edit_words}
use Rattle.rule_sets.specs.Sets.{rule_sets}
use Rattle.tried.specs.Tries.{on_tried}
use Rattle.tried.specs.declared.Tried.{Tried}
use Rattle.tried.specs.declared.Tried.TheVariants.{Passed, Acted, Refused}
use Rattle.visit.specs.Visits.{visit}
use Rattle.run_slice.specs.declared.Ran.{Ran}
use Rattle.run_slice.specs.declared.Ran.TheVariants.{Rested}
use Rattle.run_slice.specs.declared.Ran.TheVariants.{Refused as Ran-as-Refused}
use Rattle.run_slice.specs.declared.Went.{Went}
use Rattle.run_slice.specs.declared.Went.TheVariants.{Go, Rest}
use Rattle.run_slice.specs.declared.Went.TheVariants.{Refused as Went-as-Refused}

-- the visit has ended: the node visited counts no more in its net
unfoldable pub leave : List ℕ → ℕ → List ℕ
leave ws t = finish_edit_net_words (fewer ws t) t

-- "a none staying none"
unfoldable pub deduct : List ℕ → List ℕ
deduct ws = if_eq (limit ws) 4294967295 ws (set ws 5 (less (limit ws)))

-- "One that acts costs one step", of the limit left too
unfoldable pub count_step : List ℕ → List ℕ
count_step ws = deduct (set ws 6 (next (steps ws)))

-- a dirty node n is visited
unfoldable pub live_turn : List ℕ → List ℕ → List ℕ → ℕ → Left Tried
live_turn ws file sets n =
    let t = node_word ws n 0 in
    let v = visit (set_node_word ws n 2 0) file sets t n in
    on_tried v.is (record { is = Passed; ws = leave v.ws t }) (record { is = Acted; ws = leave (finish_edit_words (count_step v.ws)) t })
    (λ r. record { is = Refused r; ws = v.ws })

-- the dirty list's last entry is node n; "a stale entry is dropped"
unfoldable pub entry_turn : List ℕ → List ℕ → List ℕ → ℕ → Left Tried
entry_turn ws file sets n = if_eq (node_word ws n 2) 1 (live_turn ws file sets n) (record { is = Passed; ws = set ws 16 (less (dirty_stale ws)) })

-- "Dirty entries are taken last first"
unfoldable pub turn : List ℕ → List ℕ → List ℕ → Left Tried
turn ws file sets =
    let k = less (dirty_length ws) in
    entry_turn (set ws 14 k) file sets (get_or ws (dirty_at k) 0)

-- by what a turn leads to: the steps taken, rest, or by what the run is refused
unfoldable pub on_went : {A : Type 0} → Went → (ℕ → A) → A → (ℕ → A) → A
on_went (Go s) go rest refused = go s
on_went Rest go rest refused = rest
on_went (Went-as-Refused r) go rest refused = refused r

-- a turn after s steps
unfoldable pub step_on : List ℕ → List ℕ → List ℕ → ℕ → Left Went
step_on ws file sets s =
    let a = turn ws file sets in
    on_tried a.is (record { is = Go s; ws = a.ws }) (record { is = Go (next s); ws = a.ws }) (λ r. record { is = Went-as-Refused r; ws = a.ws })

-- no step is left: s of `most` are taken, or the limit is spent
unfoldable pub over : List ℕ → ℕ → ℕ → Bool
over ws most s = if_lt s most (eqb (limit ws) 0) true

-- a turn, while there are steps and entries
unfoldable pub go_on : List ℕ → List ℕ → List ℕ → ℕ → ℕ → Left Went
go_on ws file sets most s =
    let rest : Left Went = record { is = Rest; ws = ws } in
    pick (over ws most s) rest (if_eq (dirty_length ws) 0 rest (step_on ws file sets s))

-- by how a run ends: the steps where it rests, or by what it is refused
unfoldable pub on_ran : {A : Type 0} → Ran → (ℕ → A) → (ℕ → A) → A
on_ran (Rested s) rested refused = rested s
on_ran (Ran-as-Refused s r) rested refused = refused r

-- turn after turn, after s steps; the answer has all steps, also where the run is refused
unfoldable pub run : List ℕ → List ℕ → List ℕ → ℕ → ℕ → ℕ → Left Ran
run ws file sets most s zero = record { is = Rested s; ws = ws }
run ws file sets most s (suc k) =
    let g = go_on ws file sets most s in
    on_went g.is (λ s'. run g.ws file sets most s' k) (record { is = Rested s; ws = g.ws }) (λ r. record { is = Ran-as-Refused s r; ws = g.ws })

-- turns enough for every run: crates/fuel_laws proves it of the engine
abbrev pub fuel : ℕ
fuel = 1099511627776

-- a slice of n "runs with the smaller of n and the limit left"
unfoldable pub slice : List ℕ → List ℕ → ℕ → Left Ran
slice ws file n = run ws file (rule_sets file (replicate 2112 0)) n 0 fuel
