-- Each part's size, and that its fields, written one right after another, are what net_file writes for it. A premise is what one call or test of the code gives.
use Rattle.std.specs.Prelude.{Option, ℕ, suc, ◌+◌, ◌*◌, ◌-◌, ◌/◌, ◌%◌, ◌≤◌, ◌<◌, Bool, ◌≡◌, refl, List, [], ◌∷◌, ◌++◌, length, get_or, take, drop}
use Rattle.std.proofs.Common.{◌∙◌, arith, length-append, length-take, Fits, get_or-drop, get_or-take}
use Rattle.std.proofs.Math.Decide.{dec_lt}
use Rattle.std.proofs.Math.ListN.{get_or-eq_default}
use Rattle.std.specs.Int.{w8}
use Rattle.net_file.specs.Lists.{bit, concat_map}
use Rattle.net_file.specs.Values.{graft, annihilate, eta}
use Rattle.net_file.specs.Write.{be, counted, write_path, write_name, write_list, write_rule}
use Rattle.put.specs.Written.{Written, WrittenIf, Short, part}
use Rattle.put.specs.Laws.{Size, both, begin, then, written_if}
use Rattle.put.specs.Fields.{size_be, size_part, size_counted}
use Rattle.writers.specs.Parts.{name}

-- ---- a name

pub size_name : (path payload : ℕ) (children : List ℕ) → Size (write_name (name path payload children)) (11 + 2 * length children)
unfolding write_name
size_name path payload children =
    let s = both (both (size_be 2 path) (size_be 8 payload)) (size_counted children) in
    record { is = omega arith }

pub name_parts : (out o p w children : List ℕ) (at path payload space : ℕ) (q q' r : Option ℕ) → Short children → space ≡ length out - at
    → 11 + 2 * length children ≤ space → Written (be 2 path) at out o q → Written (be 8 payload) (at + 2) o p q'
    → WrittenIf (Short children) (counted 1 (be 2) children) (at + 10) p w r → WrittenIf (Short children) (write_name (name path payload children)) at out w r
unfolding write_name
name_parts out o p w children at path payload space q q' r short e room x y z =
    let xy = then (begin (size_be 2 path) x) (size_be 8 payload) refl (omega arith) y in
    written_if short (then xy (size_counted children) refl (omega arith) (z.yes short)).written

-- ---- rules

pub size_graft : (path : ℕ) (lazy : Bool) → Size (write_rule (graft path lazy)) 4
unfolding write_rule
size_graft path lazy = both (both (size_be 1 1) (size_be 2 path)) (size_be 1 (bit lazy))

pub graft_parts : (out o p w : List ℕ) (at path space : ℕ) (lazy : Bool) (q q' r : Option ℕ) → space ≡ length out - at → 4 ≤ space
    → Written (be 1 1) at out o q → Written (be 2 path) (at + 1) o p q' → Written (be 1 (bit lazy)) (at + 3) p w r → Written (write_rule (graft path lazy)) at out w r
unfolding write_rule
graft_parts out o p w at path space lazy q q' r e room x y z =
    let xy = then (begin (size_be 1 1) x) (size_be 2 path) refl (omega arith) y in
    (then xy (size_be 1 (bit lazy)) refl (omega arith) z).written

pub size_list : (ns : List ℕ) → Size (write_list ns) (1 + 2 * length ns)
unfolding write_list
size_list ns = size_counted ns

pub size_annihilate : (ps : List ℕ) → Size (write_rule (annihilate ps)) (2 + 2 * length ps)
unfolding write_rule
size_annihilate ps = let s = both (size_be 1 2) (size_list ps) in record { is = omega arith }

pub annihilate_parts : (out o w ps : List ℕ) (at space : ℕ) (q r : Option ℕ) → Short ps → space ≡ length out - at → 2 + 2 * length ps ≤ space
    → Written (be 1 2) at out o q → WrittenIf (Short ps) (counted 1 (be 2) ps) (at + 1) o w r → WrittenIf (Short ps) (write_rule (annihilate ps)) at out w r
unfolding write_rule write_list
annihilate_parts out o w ps at space q r short e room x y = written_if short (then (begin (size_be 1 2) x) (size_list ps) refl (omega arith) (y.yes short)).written

pub size_lists : (tag : ℕ) (xs ys : List ℕ) → Size (be 1 tag ++ write_list xs ++ write_list ys) (3 + 2 * length xs + 2 * length ys)
size_lists tag xs ys = let s = both (both (size_be 1 tag) (size_list xs)) (size_list ys) in record { is = omega arith }

pub lists_parts : (out o p w xs ys : List ℕ) (at tag space : ℕ) (q q' r : Option ℕ) → Short xs → Short ys → space ≡ length out - at
    → 2 + 2 * length xs + 1 + 2 * length ys ≤ space → Written (be 1 tag) at out o q
    → WrittenIf (Short xs) (counted 1 (be 2) xs) (at + 1) o p q' → WrittenIf (Short ys) (counted 1 (be 2) ys) (at + (2 + 2 * length xs)) p w r
    → WrittenIf (Short xs × Short ys) (be 1 tag ++ write_list xs ++ write_list ys) at out w r
unfolding write_list
lists_parts out o p w xs ys at tag space q q' r short short' e room x y z =
    let xy = then (begin (size_be 1 tag) x) (size_list xs) refl (omega arith) (y.yes short) in
    written_if (short, short') (then xy (size_list ys) (omega arith) (omega arith) (z.yes short')).written

pub size_eta : (cs vs ns : List ℕ) → Size (write_rule (eta cs vs ns)) (4 + 2 * length cs + 2 * length vs + 2 * length ns)
unfolding write_rule
size_eta cs vs ns = let s = both (size_lists 5 cs vs) (size_list ns) in record { is = omega arith }

pub eta_parts : (out o w cs vs ns : List ℕ) (at space : ℕ) (q r : Option ℕ) → Short cs → Short vs → Short ns → space ≡ length out - at
    → 3 + 2 * length cs + 2 * length vs + 1 + 2 * length ns ≤ space → WrittenIf (Short cs × Short vs) (be 1 5 ++ write_list cs ++ write_list vs) at out o q
    → WrittenIf (Short ns) (counted 1 (be 2) ns) (at + (3 + 2 * length cs + 2 * length vs)) o w r
    → WrittenIf (Short cs × Short vs × Short ns) (write_rule (eta cs vs ns)) at out w r
unfolding write_rule write_list
eta_parts out o w cs vs ns at space q r sc sv sn e room x y =
    written_if (sc, sv, sn) (then (begin (size_lists 5 cs vs) (x.yes (sc, sv))) (size_list ns) refl (omega arith) (y.yes sn)).written

-- ---- a path

-- a byte is one byte of itself
bytes_same : (bs : List ℕ) → ((i : ℕ) → get_or bs i 0 < 256) → concat_map (be 1) bs ≡ bs
unfolding be
bytes_same [] h = refl
bytes_same (b ∷ bs) h = let l = h 0 in let e : b / 1 % 256 ≡ b = omega arith in rw (e, bytes_same bs (λ i. h (suc i)))

bytes_length : (bs : List ℕ) → length (concat_map (be 1) bs) ≡ length bs
bytes_length [] = refl
bytes_length (b ∷ bs) = rw (length-append, (size_be 1 b).is, bytes_length bs) (omega arith)

past_take : (l : List ℕ) (n i : ℕ) → n ≤ i → get_or (take n l) i 0 ≡ 0
past_take l n i h = let m = length-take n l in get_or-eq_default (take n l) 0 {n = i} (omega arith)

part_bytes : (s : List ℕ) (from n : ℕ) → ((i : ℕ) → get_or s i 0 < 256) → (i : ℕ) → get_or (part s from n) i 0 < 256
unfolding part
part_bytes s from n h i = let l = h (from + i) in elim (dec_lt i n) [ yes k ↦ rw (get_or-take n (drop from s) i 0 k, get_or-drop) l | no k ↦ rw (past_take (drop from s) n i (omega arith)) (omega arith) ]

pub size_path : (s : List ℕ) (from n : ℕ) → from + n ≤ length s → Size (write_path (part s from n)) (1 + n)
unfolding write_path counted
size_path s from n h = let p = part s from n in let l = (size_part s from n h).is in both (size_be 1 (length p)) (record { is = bytes_length p ∙ l })

pub path_parts : (out o w s : List ℕ) (at from n space : ℕ) (q r : Option ℕ) → ((i : ℕ) → Fits w8 (get_or s i 0)) → from ≤ length s → n ≤ length s - from → space ≡ length out - at → 1 + n ≤ space
    → Written (be 1 n) at out o q → WrittenIf (from + n ≤ length s) (part s from n) (at + 1) o w r → WrittenIf (from + n ≤ length s) (write_path (part s from n)) at out w r
unfolding write_path counted
path_parts out o w s at from n space q r bytes h h' e room x y =
    let there : from + n ≤ length s = omega arith in
    let z = size_part s from n there in
    written_if there (rw (bytes_same (part s from n) (part_bytes s from n (λ i. (bytes i).fits)), z.is) (then (begin (size_be 1 n) x) z refl (omega arith) (y.yes there)).written)
