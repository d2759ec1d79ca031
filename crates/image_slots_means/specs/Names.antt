-- A name that stands at a place of the held file can be read there.
use Rattle.std.specs.Prelude.{ℕ, zero, suc, ◌+◌, ◌*◌, ◌<◌, ◌≤◌, ◌≡◌, refl, true, List, length, get_or, Some}
use Rattle.std.proofs.Common.{sym, ap, ◌∙◌, subst, arith, sub-one}
use Rattle.net_file.specs.Values.{Name, FlatNet, File}
use Rattle.net_file.specs.Read.{below, times, read_name}
use Rattle.net_file_laws.specs.Parts.{NameFits}
use Rattle.fields.specs.Fields.{byte, be16}
use Rattle.stored.specs.Stored.{list_end, name_end}
use Rattle.readers_laws.specs.Parts as Parts
use Rattle.readers_laws.specs.Bounds.{child_below}
use Rattle.walk.specs.After.{after}
use Rattle.walk.specs.Loops.{times_next}
use Rattle.walk.specs.Walk.{below_2, numbers_done, many_on, name_on}
use Rattle.held_names.specs.Named.{Stands}
use Rattle.image_slots.specs.Slots.{is_read, name_stands}

-- k numbers below b
numbers_pass : (s : List ℕ) (b k at : ℕ) → at + 2 * k ≤ length s → ((j : ℕ) → j < k → be16 s (at + 2 * j) < b) → Some (at + 2 * k) ≡ after at (times k (below 2 b)) s
numbers_pass s b zero at l h = let z : at + 2 * 0 ≡ at = omega arith in rw z (numbers_done s b at 0 _ refl (omega arith) (omega arith))
numbers_pass s b (suc k) at l h =
    let z : at + 2 * suc k ≡ at + 2 + 2 * k = omega arith in
    let y : at + 2 * 0 ≡ at = omega arith in
    let first : be16 s at < b = rw y at (h 0 (omega arith)) in
    rw z (numbers_pass s b k (at + 2) (omega arith) (λ j i. let x : at + 2 + 2 * j ≡ at + 2 * suc j = omega arith in rw x (h (suc j) (omega arith)))
    ∙ rw sub-one at (times_next (below 2 b) s at (at + 2) (suc k) (be16 s at) _ refl (omega arith) (omega arith) (below_2 s b at (omega arith) first) (omega arith)))

-- `name_stands` answers yes
pub name_passes : (s : List ℕ) (f : File FlatNet) (a : ℕ) (n : Name) → Stands s f a n → (paths names : ℕ) → length f.paths ≡ paths → length f.names ≡ names
    → name_stands s paths names a ≡ true
unfolding name_stands is_read name_end list_end
name_passes s f a n h paths names ep en =
    let st = Parts.name_stands s a in
    let fit : NameFits paths names n = rw (← ep, ← en) h.fits in
    let i = h.inside in
    let path : be16 s a ≡ n.path = sym st.path ∙ ap (λ (m : Name). m.path) (sym h.is) in
    let count : byte s (a + 10) ≡ length n.children = sym st.child_count ∙ ap (λ (m : Name). length m.children) (sym h.is) in
    let p = fit.path in
    let w = fit.few in
    let child : (j : ℕ) → j < byte s (a + 10) → be16 s (a + 10 + 1 + 2 * j) < names
    = λ j l.
    let c = child_below paths names n fit j 0 (omega arith) in
    let d : get_or n.children j 0 ≡ be16 s (a + (11 + 2 * j)) = ap (λ (m : Name). get_or m.children j 0) h.is ∙ st.child j 0 (omega (arith, st.child_count)) in
    let x : a + 10 + 1 + 2 * j ≡ a + (11 + 2 * j) = omega arith in
    rw x (omega arith) in
    ap is_read (sym (name_on s a paths names (be16 s a) _ (omega arith) (omega arith) refl (omega arith)
    (many_on s (below 2 names) (a + 10) 8 (byte s (a + 10)) _ (omega arith) refl (omega arith) (numbers_pass s names (byte s (a + 10)) (a + 10 + 1) (omega arith) child))))
