-- `steps-counted`: what a slice does to the nets is as many steps of registered rules as it deducts.
use Rattle.std.proofs.Math.Path.{◌≡◌, refl, ap, subst}
use Rattle.std.proofs.Common.{sym, ◌∙◌, arith, true≢false}
use Prim.Native.Nat.{ℕ, zero, suc, ◌+◌, ◌-◌, ◌<◌, ◌≤◌}
use Rattle.std.specs.Prelude.{Bool, false, ◌||◌}
use Rattle.std.proofs.Math.Bool.{true}
use Rattle.std.proofs.Math.Option.{Option, none, some}
use mathlib.Core.List.{List, [], ◌∷◌}
use Rattle.net_file.specs.Lists.{Result, ok, refuse}
use Rattle.net_file.specs.Values.{Rule}
use Rattle.definitions.specs.Lists.{◌>>=◌, unsnoc}
use Rattle.definitions.specs.Nets.{Graph, Home, at, filled, arity}
use Rattle.definitions.specs.Step.{Step}
use Rattle.definitions.specs.State.{Engine, graph_of, homes, with_dirty, with_mark, with_slots, with_stale, net_at, fewer}
use Rattle.definitions.specs.Books.{is_dirty, finish_edit_net}
use Rattle.definitions.specs.Visit.{Visited, acted, passed, less_one, Try, tries, attempt, attempts, visit}
use Rattle.definitions.specs.Run.{leave, turn, with_items, spent, next, run, run_slice, fuel}
use Rattle.step_laws.specs.Core.{Core, core_of, pick, core_mark, core_dirty, core_fewer, core_finish_edit_net}
use Rattle.step_laws.specs.Acting.{After}
use Rattle.step_laws.specs.Ready.{Ready, OneStep}
use Rattle.step_laws.specs.Tries.{Valid, All, nil, cons, tries_valid}
use Rattle.step_laws.specs.Visiting.{Held, Leaves, attempt_leaves}

-- ---- a visit

module _ (path n : ℕ) where
  -- from an engine with the same core
  leaves_from : (e e' : Engine) → core_of e' ≡ core_of e → (r : Result Visited) → Leaves path n e' r → Leaves path n e r
  unfolding core_of
  leaves_from e e' s (ok (acted e'')) x = subst (λ (c : Core). OneStep path c (core_of e'')) s x
  leaves_from e e' s (ok (passed e'')) x = (x.0 ∙ s, subst (λ (c : Core). Held (at c.graph n).net e'') s x.1)
  leaves_from e e' s (refuse r) x = tt

  attempts_leaves : (ts : List Try) (e : Engine) → Ready path (core_of e) → filled (core_of e).graph n ≡ true → Held (at (core_of e).graph n).net e
      → All (Valid (core_of e).rules (core_of e).graph n) ts → Leaves path n e (attempts ts e)
  unfolding attempts core_of
  attempts_leaves [] e r f h v = (refl, h)
  attempts_leaves (t ∷ ts) e r f h (cons x xs) = go (attempt t e) (attempt_leaves path n e r h t f x) (λ e'. attempts_leaves ts e')
    where
      go : (q : Result Visited) → Leaves path n e q
          → ((e' : Engine) → Ready path (core_of e') → filled (core_of e').graph n ≡ true → Held (at (core_of e').graph n).net e' → All (Valid (core_of e').rules (core_of e').graph n) ts → Leaves path n e' (attempts ts e'))
          → Leaves path n e (q >>= λ v. elim v as (λ _. Result Visited) [ acted e' ↦ ok (acted e') | passed e' ↦ attempts ts e' ])
      go (refuse q) y k = tt
      go (ok (acted e')) y k = y
      go (ok (passed e')) y k =
          leaves_from e e' y.0 (attempts ts e')
          (k e' (subst (Ready path) (sym y.0) r) (subst (λ (c : Core). filled c.graph n ≡ true) (sym y.0) f)
          (subst (λ (c : Core). Held (at c.graph n).net e') (sym y.0) y.1)
          (subst (λ (c : Core). All (Valid c.rules c.graph n) ts) (sym y.0) xs))

  visit_leaves : (e : Engine) → Ready path (core_of e) → filled (graph_of e) n ≡ true → Held (at (graph_of e) n).net e → Leaves path n e (visit n e)
  unfolding visit core_of
  visit_leaves e r f h = attempts_leaves (tries e.rules (graph_of e) n) e r f h (tries_valid e.rules (graph_of e) r.rest.well n (r.rest.ported n f))

-- a marked slot holds a node, and its net has something pending
abbrev pub Marked : Engine → Type 0
Marked e = (n : ℕ) → is_dirty e n ≡ true → (filled (graph_of e) n ≡ true) × Held (at (graph_of e) n).net e

-- a turn is a step, or leaves the core as it was
abbrev pub Turns : ℕ → Engine → Result Visited → Type 0
Turns path e r = After (λ e'. OneStep path (core_of e) (core_of e')) (λ e'. core_of e' ≡ core_of e) r

pub turn_steps : (path n : ℕ) (e : Engine) → Ready path (core_of e) → Marked e → Turns path e (turn n e)
unfolding turn leave with_mark with_slots net_at
turn_steps path n e r m = go (is_dirty e n) refl
  where
    e₁ : Engine
    e₁ = with_mark n false e

    k : ℕ
    k = (at (graph_of e) n).net

    left : (q : Result Visited) → Leaves path n e₁ q → Turns path e (q >>= λ v. ok (leave k v))
    left (refuse q) y = tt
    left (ok (acted e')) y =
        subst (OneStep path (core_of e)) (sym (core_finish_edit_net k (fewer k e') ∙ core_fewer k e')) (subst (λ (c : Core). OneStep path c (core_of e')) (core_mark n false e) y)
    left (ok (passed e')) y = core_finish_edit_net k (fewer k e') ∙ core_fewer k e' ∙ y.0 ∙ core_mark n false e

    visited : is_dirty e n ≡ true → Leaves path n e₁ (visit n e₁)
    visited d = let x = m n d in visit_leaves path n e₁ (subst (Ready path) (sym (core_mark n false e)) r) (marked_filled x.0) (marked_held x.1)
      where
        marked_filled : filled (graph_of e) n ≡ true → filled (graph_of e₁) n ≡ true
        marked_filled x = x

        marked_held : Held (at (graph_of e) n).net e → Held (at (graph_of e₁) n).net e₁
        marked_held x = x

    go : (t : Bool) → is_dirty e n ≡ t
        → Turns path e (elim t as (λ _. Result Visited) [ true ↦ visit n (with_mark n false e) >>= λ v. ok (leave (at (graph_of e) n).net v) | false ↦ ok (passed (with_dirty (with_stale (e.dirty.stale - 1) e.dirty) e)) ])
    go true d = left (visit n e₁) (visited d)
    go false d = core_dirty (with_stale (e.dirty.stale - 1) e.dirty) e

-- ---- a slice

-- k steps of the rules, one after the other
pub data Steps (rules : List Rule) (hs : List Home) : ℕ → Graph → Graph → Type 0 where
  done : {g : Graph} → Steps rules hs 0 g g
  after : {k : ℕ} {g h l : Graph} → Step rules hs g h → Steps rules hs k h l → Steps rules hs (suc k) g l

-- a limit with k steps deducted; a none stays none
abbrev pub less : ℕ → Option ℕ → Option ℕ
less k none = none
less k (some n) = some (n - k)

less_none : (o : Option ℕ) → o ≡ less 0 o
less_none none = refl
less_none (some n) = ap {B = Option ℕ} some (let z : n ≡ n - 0 = omega arith in z)

less_more : (k : ℕ) (o : Option ℕ) → less k (less_one o) ≡ less (suc k) o
unfolding less_one
less_more k none = refl
less_more k (some n) = ap {B = Option ℕ} some (let z : n - 1 - k ≡ n - suc k = omega arith in z)

-- d comes from c by k steps, deducted from the limit and counted
pub record Counted (path : ℕ) (c d : Core) (k : ℕ) : Type 0 where
  pub steps : Steps c.rules c.homes k c.graph d.graph
  pub count : d.steps ≡ c.steps + k
  pub limit : d.limit ≡ less k c.limit
  pub ready : Ready path d
  pub homes : d.homes ≡ c.homes
  pub rules : d.rules ≡ c.rules

pub none_counted : (path : ℕ) (c : Core) → Ready path c → Counted path c c 0
none_counted path c r = record { steps = done; count = omega arith; limit = less_none c.limit; ready = r; homes = refl; rules = refl }

pub more_counted : (path : ℕ) (c d e : Core) (k : ℕ) → OneStep path c d → Counted path d e k → Counted path c e (suc k)
more_counted path c d e k o x = record {
  steps = after o.step (subst (λ (hs : List Home). Steps c.rules hs k d.graph e.graph) o.homes (subst (λ (rs : List Rule). Steps rs d.homes k d.graph e.graph) o.rules x.steps));
  count = let y = x.count in let z = o.steps in omega arith;
  limit = x.limit ∙ ap (less k) o.limit ∙ less_more k c.limit;
  ready = x.ready;
  homes = x.homes ∙ o.homes;
  rules = x.rules ∙ o.rules;
}

pub counted_by : (e e'' : Engine) (j k : ℕ) → (core_of e'').steps ≡ (core_of e).steps + j → e''.steps - e.steps ≡ k → j ≡ k
unfolding core_of
counted_by e e'' j k u v = omega arith

-- `Books` is what the run keeps beside the nodes: it has every marked slot hold a node whose net is not at 0, and every turn keeps it
module _ (path : ℕ) (Books : Engine → Type 0) (marked : (e : Engine) → Books e → Marked e)
    (kept : (n : Option ℕ) (e : Engine) (p : List ℕ × ℕ) → Books e → next n e ≡ some p → After Books Books (turn p.1 (with_items p.0 e))) where
  pub record Ran (e e' : Engine) : Type 0 where
    pub taken : ℕ
    pub counted : Counted path (core_of e) (core_of e') taken
    pub books : Books e'

  pub core_items : (ns : List ℕ) (e : Engine) → core_of (with_items ns e) ≡ core_of e
  unfolding with_items with_dirty core_of
  core_items ns e = refl

  pub marked_items : (ns : List ℕ) (e : Engine) → Marked e → Marked (with_items ns e)
  unfolding with_items with_dirty is_dirty net_at
  marked_items ns e m = m
