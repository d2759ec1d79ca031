-- Rules tried one after the other, level Engine: an interaction or an eta that passes changes nothing, so that to try it again is for nothing.
use Rattle.std.specs.Prelude.{ℕ, ◌+◌, ◌≡◌, refl, ◌⊎◌, Bool, true, false, List, [], ◌∷◌, ◌++◌, map, ltb}
use Rattle.std.proofs.Common.{sym, ap, ◌∙◌, inl, inr}
use Rattle.std.proofs.Math.Option.{Option, none, some}
use Rattle.net_file.specs.Lists.{Result, ok, refuse, need}
use Rattle.net_file.specs.Values.{Rule, eta, max_steps}
use Rattle.definitions.specs.Lists.{◌>>=◌, each}
use Rattle.definitions.specs.Scripts.{Script}
use Rattle.definitions.specs.Rules.{eta_script, interact}
use Rattle.definitions.specs.State.{Engine, graph_of, with_steps}
use Rattle.definitions.specs.Books.{fresh, edit, finish_edit}
use Rattle.definitions.specs.Visit.{Visited, acted, passed, less_one, act, act_if, Try, interaction, rewrite, try_rewrite, attempt, attempts}

-- on with the next rule where one passed
abbrev pub go_on : Result Visited → (Engine → Result Visited) → Result Visited
go_on (refuse r) k = refuse r
go_on (ok (acted e)) k = ok (acted e)
go_on (ok (passed e)) k = k e

pub attempts_cons : (t : Try) (ts : List Try) (e : Engine) → attempts (t ∷ ts) e ≡ go_on (attempt t e) (attempts ts)
unfolding attempts
attempts_cons t ts e = go (attempt t e)
  where
    go : (v : Result Visited) → (v >>= λ w. elim w as (λ _. Result Visited) [ acted e' ↦ ok (acted e') | passed e' ↦ attempts ts e' ]) ≡ go_on v (attempts ts)
    go (refuse r) = refl
    go (ok (acted e')) = refl
    go (ok (passed e')) = refl

go_on_same : (v : Result Visited) (k l : Engine → Result Visited) → ((e : Engine) → k e ≡ l e) → go_on v k ≡ go_on v l
go_on_same (refuse r) k l h = refl
go_on_same (ok (acted e)) k l h = refl
go_on_same (ok (passed e)) k l h = h e

go_on_twice : (v : Result Visited) (k l : Engine → Result Visited) → go_on (go_on v k) l ≡ go_on v (λ e. go_on (k e) l)
go_on_twice (refuse r) k l = refl
go_on_twice (ok (acted e)) k l = refl
go_on_twice (ok (passed e)) k l = refl

pub attempts_append : (xs ys : List Try) (e : Engine) → attempts (xs ++ ys) e ≡ go_on (attempts xs e) (attempts ys)
unfolding attempts
attempts_append [] ys e = refl
attempts_append (t ∷ xs) ys e =
    attempts_cons t (xs ++ ys) e ∙ go_on_same (attempt t e) _ _ (attempts_append xs ys) ∙ sym (go_on_twice (attempt t e) (attempts xs) (attempts ys))
    ∙ ap (λ (v : Result Visited). go_on v (attempts ys)) (sym (attempts_cons t xs e))

-- one rule alone
pub attempts_one : (t : Try) (e : Engine) → attempts (t ∷ []) e ≡ attempt t e
unfolding attempts
attempts_one t e = attempts_cons t [] e ∙ go (attempt t e)
  where
    go : (v : Result Visited) → go_on v (attempts []) ≡ v
    go (refuse r) = refl
    go (ok (acted e')) = refl
    go (ok (passed e')) = refl

-- ---- a rule that passes and leaves all as it is, or ends the visit

abbrev pub Still : Try → Engine → Type 0
Still t e = attempt t e ≡ ok (passed e)

abbrev pub Ends : Try → Engine → Type 0
Ends t e = (k : Engine → Result Visited) → go_on (attempt t e) k ≡ attempt t e

abbrev pub Pure : Try → Engine → Type 0
Pure t e = Still t e ⊎ Ends t e

act_ends : (s : Script) (e : Engine) (k : Engine → Result Visited) → go_on (act s e) k ≡ act s e
unfolding act
act_ends s e k = go (ltb e.steps max_steps) (each edit s.edits e)
  where
    done : Engine → Result Visited
    done e' = ok (acted (with_steps (less_one e'.limit) (e'.steps + 1) (finish_edit s.dead e')))

    go : (t : Bool) (r : Result Engine) → go_on (need t 14 (r >>= done)) k ≡ need t 14 (r >>= done)
    go true (ok e') = refl
    go true (refuse n) = refl
    go false r = refl

act_if_pure : (o : Option Script) (e : Engine) → (act_if o e ≡ ok (passed e)) ⊎ ((k : Engine → Result Visited) → go_on (act_if o e) k ≡ act_if o e)
unfolding act_if
act_if_pure none e = inl refl
act_if_pure (some s) e = inr (act_ends s e)

pub interaction_pure : (r : Rule) (a b : ℕ) (e : Engine) → Pure (interaction r a b) e
unfolding attempt
interaction_pure r a b e = act_if_pure (interact r (fresh e) (graph_of e) a b) e

pub eta_pure : (cs vs ns : List ℕ) (n : ℕ) (e : Engine) → Pure (rewrite (eta cs vs ns) n) e
unfolding attempt try_rewrite
eta_pure cs vs ns n e = act_if_pure (eta_script (fresh e) (graph_of e) vs ns n) e

pub still_next : (t : Try) (ts : List Try) (e : Engine) → Still t e → attempts (t ∷ ts) e ≡ attempts ts e
still_next t ts e h = attempts_cons t ts e ∙ ap (λ (v : Result Visited). go_on v (attempts ts)) h

pub ends_here : (t : Try) (ts : List Try) (e : Engine) → Ends t e → attempts (t ∷ ts) e ≡ attempt t e
ends_here t ts e h = attempts_cons t ts e ∙ h (attempts ts)

-- one that is pure, some times over, is tried once
pub attempts_copies : {A : Type 0} (t : Try) (e : Engine) → Pure t e → (x : A) (xs : List A) → attempts (map (λ y. t) (x ∷ xs)) e ≡ attempts (t ∷ []) e
attempts_copies t e (inr h) x xs = ends_here t _ e h ∙ sym (ends_here t [] e h)
attempts_copies {A} t e (inl h) x xs = still_next t _ e h ∙ all xs ∙ sym (still_next t [] e h)
  where
    all : (ys : List A) → attempts (map (λ y. t) ys) e ≡ attempts [] e
    all [] = refl
    all (y ∷ ys) = still_next t (map (λ z. t) ys) e h ∙ all ys
