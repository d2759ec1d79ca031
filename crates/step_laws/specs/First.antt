-- The first entry of a net's list is its free node: pushes go to the end, and a tightening keeps the first entry where it is live.
use Rattle.std.specs.Prelude.{◌≡◌, ◌≢◌, ◌⊎◌, ℕ, zero, suc, ◌+◌, ◌<◌, Bool, true, false, List, [], ◌∷◌, ◌++◌, length, get_or, set, eqb, ltb}
use Rattle.std.proofs.Common.{sym, ap, ◌∙◌, subst, inl, inr, arith, true≢false, get_or-set_same, get_or-set_other}
use Rattle.std.proofs.Math.Decide.{ℕ_discrete}
use Rattle.std.proofs.Math.Option.{some, some-injective}
use Rattle.net_file.specs.Lists.{Result, ok, refuse, need}
use Rattle.net_file.specs.Values.{max_steps}
use Rattle.definitions.specs.Lists.{◌>>=◌, nth, keep, firsts, foldl, each}
use Rattle.definitions.specs.Nets.{Node, Graph, Home, at, holds}
use Rattle.definitions.specs.Scripts.{Edit, Insert, Copy, Join, Cut, Script, vacate}
use Rattle.definitions.specs.State.{Engine, graph_of, with_steps}
use Rattle.definitions.specs.Books.{edit, remove_node, finish_edit}
use Rattle.definitions.specs.Visit.{less_one, acted, act}
use Rattle.join_laws.specs.Ports.{frame, in_net, holds_frame}
use Rattle.script_laws.specs.Slots.{frame_vacate_same, frame_vacate_other}
use Rattle.step_laws.specs.Core.{Core, core_of}
use Rattle.step_laws.specs.Track.{list_at, placed_in, vacated_in, tight_in}
use Rattle.step_laws.specs.Edits.{Then, core_edit, Needs, edit_core, remove_core}
use Rattle.step_laws.specs.Acting.{After}

-- the first entry of every net's list names its free node
abbrev pub Firsts : Core → Type 0
Firsts c = (k : ℕ) (h : Home) → nth c.homes k ≡ some h → nth (list_at c k) 0 ≡ some h.free

-- every net's free node is there
abbrev pub HeldAll : Core → Type 0
HeldAll c = (k : ℕ) (h : Home) → nth c.homes k ≡ some h → holds c.graph k h.free ≡ true

-- ---- lists

first_snoc : (xs : List ℕ) (n a : ℕ) → nth xs 0 ≡ some a → nth (xs ++ n ∷ []) 0 ≡ some a
first_snoc [] n a e = let z : ◌≡◌ {A = ℕ} 0 1 = cc in absurd (omega arith)
first_snoc (x ∷ xs) n a e = e

first_tight : (f : ℕ → Bool) (xs : List ℕ) (a : ℕ) → nth xs 0 ≡ some a → f a ≡ true → nth (firsts eqb [] (keep f xs)) 0 ≡ some a
first_tight f [] a e h = let z : ◌≡◌ {A = ℕ} 0 1 = cc in absurd (omega arith)
first_tight f (x ∷ xs) a e h = go (f x) (ap f (some-injective x a e) ∙ h)
  where
    go : (t : Bool) → t ≡ true → nth (firsts eqb [] (elim t as (λ _. List ℕ) [ true ↦ x ∷ keep f xs | false ↦ keep f xs ])) 0 ≡ some a
    go true q = e
    go false q = absurd (true≢false (sym q))

-- a list with a first entry is one of the lists
pub listed_below : (ls : List (List ℕ)) (k a : ℕ) → nth (get_or ls k []) 0 ≡ some a → k < length ls
listed_below [] k a e = let z : ◌≡◌ {A = ℕ} 0 1 = cc in absurd (omega arith)
listed_below (l ∷ ls) zero a e = omega arith
listed_below (l ∷ ls) (suc k) a e = let z = listed_below ls k a e in omega arith

-- another list in place of net j's
pub first_set : (ls : List (List ℕ)) (j : ℕ) (xs : List ℕ) (k a : ℕ) → nth (get_or ls k []) 0 ≡ some a → (k ≡ j → nth xs 0 ≡ some a) → nth (get_or (set ls j xs) k []) 0 ≡ some a
first_set ls j xs k a e h = go (ℕ_discrete k j)
  where
    go : Dec (k ≡ j) → nth (get_or (set ls j xs) k []) 0 ≡ some a
    go (yes s) =
        subst (λ (i : ℕ). nth (get_or (set ls i xs) k []) 0 ≡ some a) s (ap (λ (l : List ℕ). nth l 0) (get_or-set_same ls k xs [] (listed_below ls k a e)) ∙ h s)
    go (no s) = ap (λ (l : List ℕ). nth l 0) (get_or-set_other ls j k xs [] s) ∙ e

-- ---- edits

placed_first : (n : ℕ) (x : Node) (c : Core) → Firsts c → Firsts (placed_in n x c)
placed_first n x c f k h e =
    first_set c.lists x.net (list_at c x.net ++ n ∷ []) k h.free (f k h e) (λ s. first_snoc (list_at c x.net) n h.free (ap (λ (j : ℕ). nth (list_at c j) 0) (sym s) ∙ f k h e))

edited_first : (d : Edit) (c : Core) → Firsts c → Firsts (core_edit d c)
edited_first (Insert n x) c f = placed_first n x c f
edited_first (Copy n x) c f = placed_first n x c f
edited_first (Join a b) c f = f
edited_first (Cut a b) c f = f

pub edits_first : (ds : List Edit) (e : Engine) → Firsts (core_of e) → Then (λ e'. Firsts (core_of e')) (each edit ds e)
edits_first [] e f = f
edits_first (d ∷ ds) e f = go (edit d e) (edit_core d e) (λ e'. edits_first ds e')
  where
    go : (r : Result Engine) → Then (λ e'. (core_of e' ≡ core_edit d (core_of e)) × Needs d (core_of e)) r → ((e' : Engine) → Firsts (core_of e') → Then (λ e''. Firsts (core_of e'')) (each edit ds e'))
        → Then (λ e''. Firsts (core_of e'')) (r >>= λ e'. each edit ds e')
    go (ok e') x k = k e' (subst Firsts (sym x.0) (edited_first d (core_of e) f))
    go (refuse r) x k = tt

-- ---- removals and tightenings

pub tight_first : (j : ℕ) (c : Core) → Firsts c → HeldAll c → Firsts (tight_in j c)
tight_first j c f held k h e =
    first_set c.lists j (firsts eqb [] (keep (holds c.graph j) (list_at c j))) k h.free (f k h e)
    (λ s. subst (λ (i : ℕ). nth (firsts eqb [] (keep (holds c.graph i) (list_at c i))) 0 ≡ some h.free) s (first_tight (holds c.graph k) (list_at c k) h.free (f k h e) (held k h e)))

-- what is there after a removal was there
vacate_held : (g : Graph) (n k m : ℕ) → holds (vacate g n) k m ≡ true → holds g k m ≡ true
vacate_held g n k m e = go (ℕ_discrete m n)
  where
    go : Dec (m ≡ n) → holds g k m ≡ true
    go (yes s) = absurd (true≢false (sym e ∙ holds_frame (vacate g n) m k ∙ ap (λ (j : ℕ). in_net k (frame (vacate g n) j)) s ∙ ap (in_net k) (frame_vacate_same g n)))
    go (no s) = holds_frame g m k ∙ ap (in_net k) (sym (frame_vacate_other g n m s)) ∙ sym (holds_frame (vacate g n) m k) ∙ e

removes_held : (ns : List ℕ) (e : Engine) → HeldAll (core_of (foldl remove_node e ns)) → HeldAll (core_of e)
removes_held [] e held = held
removes_held (n ∷ ns) e held = go (remove_core e n) (removes_held ns (remove_node e n) held)
  where
    back : (c : Core) → HeldAll (vacated_in n c) → HeldAll c
    back c q k h s = vacate_held c.graph n k h.free (q k h s)

    go : (core_of (remove_node e n) ≡ vacated_in n (core_of e)) ⊎ (core_of (remove_node e n) ≡ tight_in (at (graph_of e) n).net (vacated_in n (core_of e))) → HeldAll (core_of (remove_node e n)) → HeldAll (core_of e)
    go (inl x) q = back (core_of e) (subst HeldAll x q)
    go (inr x) q = back (core_of e) (subst HeldAll x q)

removes_first : (ns : List ℕ) (e : Engine) → Firsts (core_of e) → HeldAll (core_of (foldl remove_node e ns)) → Firsts (core_of (foldl remove_node e ns))
removes_first [] e f held = f
removes_first (n ∷ ns) e f held = removes_first ns (remove_node e n) (go (remove_core e n) (removes_held ns (remove_node e n) held)) held
  where
    go : (core_of (remove_node e n) ≡ vacated_in n (core_of e)) ⊎ (core_of (remove_node e n) ≡ tight_in (at (graph_of e) n).net (vacated_in n (core_of e))) → HeldAll (core_of (remove_node e n)) → Firsts (core_of (remove_node e n))
    go (inl x) q = subst Firsts (sym x) f
    go (inr x) q = subst Firsts (sym x) (tight_first (at (graph_of e) n).net (vacated_in n (core_of e)) f (subst HeldAll x q))

-- ---- an act

pub act_first : (s : Script) (e : Engine) → Firsts (core_of e) → (Q : Engine → Type 0) → After (λ e'. HeldAll (core_of e') → Firsts (core_of e')) Q (act s e)
unfolding act finish_edit with_steps core_of
act_first s e f Q = go (ltb e.steps max_steps) (each edit s.edits e) (edits_first s.edits e f)
  where
    go : (b : Bool) (r : Result Engine) → Then (λ e'. Firsts (core_of e')) r
        → After (λ e'. HeldAll (core_of e') → Firsts (core_of e')) Q (need b 14 (r >>= λ e'. ok (acted (with_steps (less_one e'.limit) (e'.steps + 1) (finish_edit s.dead e')))))
    go false r x = tt
    go true (refuse r) x = tt
    go true (ok e') x = λ held. removes_first s.dead e' x held
