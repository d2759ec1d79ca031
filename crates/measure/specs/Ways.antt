-- What a function of the crate answers on each way out, and one turn of each loop, in the words of its tests and calls.
use Rattle.std.specs.Prelude.{◌≡◌, ℕ, zero, suc, ◌+◌, ◌-◌, ◌*◌, ◌%◌, ◌<◌, ◌≤◌, Bool, true, false, List, ◌==◌, ◌≢◌, refl}
use Rattle.std.proofs.Common.{◌∙◌, not-suc-le-zero, sub-one}
use Rattle.words.specs.Choose.{eq_yes, eq_no, pick_true, pick_false}
use Rattle.fields.specs.Fields.{byte, be16}
use Rattle.stored.specs.Stored.{node_count_at, flat_net_end}
use Rattle.ends.specs.Ends.{within, next_net, next_is}
use Rattle.free_path.specs.FreePath.{free_number}
use Rattle.layout.specs.Layout.{next, nets, node_word}
use Rattle.tried.specs.Tries.{arity, name}
use Rattle.measure.specs.Measure.{plus, node_size, with_slot, with_slots, with_net, nets_size, path_joins, with_path}
use Rattle.measure.specs.declared.Size.{Size}

pub slot_vacant : (ws file : List ℕ) (n t : ℕ) (size : Size) → t ≡ node_word ws n 0 → t ≡ 0 → size ≡ with_slot ws file n size
unfolding with_slot
slot_vacant ws file n t size et z = eq_yes _ _ _ _ (rw (← et) z) refl

pub slot_free : (ws file : List ℕ) (n t a : ℕ) (size : Size) → a ≡ name ws n → t ≡ node_word ws n 0 → (t ≢ 0) → a ≡ 0 → size ≡ with_slot ws file n size
unfolding with_slot
slot_free ws file n t a size ea et z za = eq_no _ _ _ _ (λ e. z (rw et e)) (eq_yes _ _ _ _ (rw (← ea) za) refl)

pub slot_counts : (ws file : List ℕ) (n t a k b : ℕ) (size r : Size) → a ≡ name ws n → t ≡ node_word ws n 0 → (t ≢ 0) → (a ≢ 0) → k ≡ arity ws n
    → b ≡ node_size file a k → r ≡ plus size 1 b → r ≡ with_slot ws file n size
unfolding with_slot
slot_counts ws file n t a k b size r ea et z za ek eb er = eq_no _ _ _ _ (λ e. z (rw et e)) (eq_no _ _ _ _ (λ e. za (rw ea e)) (rw (er, eb, ek, ea)))

pub slots_more : (ws file : List ℕ) (n m k : ℕ) (size s x : Size) → with_slots ws file n k size ≡ x → 0 < k → s ≡ with_slot ws file n size → m ≡ next n
    → with_slots ws file m (k - 1) s ≡ x
unfolding with_slots
slots_more ws file n m zero size s x e h es em = absurd (not-suc-le-zero h)
slots_more ws file n m (suc k) size s x e h es em = rw (sub-one, es, em) e

pub slots_done : (ws file : List ℕ) (n k : ℕ) (size x : Size) → with_slots ws file n k size ≡ x → k ≤ 0 → size ≡ x
unfolding with_slots
slots_done ws file n zero size x e h = e
slots_done ws file n (suc k) size x e h = absurd (not-suc-le-zero h)

pub net_included : (file : List ℕ) (at end f : ℕ) (b : Bool) (size r : Size) → b ≡ (byte file (at + 2) == 1) → b ≡ true → f ≡ byte file (at + 7)
    → r ≡ plus size 0 (12 + 2 * f) → r ≡ with_net file at end size
unfolding with_net
net_included file at end f b size r eb h ef er = pick_true _ _ _ (rw (← eb) h) (rw (er, ef))

pub net_other : (file : List ℕ) (at end k d : ℕ) (b : Bool) (size r : Size) → b ≡ (byte file (at + 2) == 1) → b ≡ false → k ≡ be16 file (node_count_at file at)
    → end ≡ within file (flat_net_end file at) → d ≡ end - at → r ≡ plus size k d → r ≡ with_net file at (within file (flat_net_end file at)) size
unfolding with_net
net_other file at end k d b size r eb h ek ee ed er = pick_false _ _ _ (rw (← eb) h) (rw (er, ed, ek, ee))

pub nets_more : (file : List ℕ) (at a k : ℕ) (size s x : Size) → nets_size file at k size ≡ x → 0 < k
    → s ≡ with_net file at (within file (flat_net_end file at)) size → a ≡ next_net file at k → nets_size file a (k - 1) s ≡ x
unfolding nets_size
nets_more file at a zero size s x e h es ea = absurd (not-suc-le-zero h)
nets_more file at a (suc zero) size s x e h es ea = es ∙ e
nets_more file at a (suc (suc k)) size s x e h es ea = rw (sub-one, es, next_is file at a k ea) e

pub nets_done : (file : List ℕ) (at k : ℕ) (size x : Size) → nets_size file at k size ≡ x → k ≤ 0 → size ≡ x
unfolding nets_size
nets_done file at zero size x e h = e
nets_done file at (suc k) size x e h = absurd (not-suc-le-zero h)

pub joins_never : (ws file : List ℕ) (t : ℕ) → t ≡ nets ws → t ≡ 0 → false ≡ path_joins ws file
unfolding path_joins
joins_never ws file t et z = eq_yes _ _ _ _ (rw (← et) z) refl

pub joins_absent : (ws file : List ℕ) (t k f : ℕ) (b : Bool) → t ≡ nets ws → (t ≢ 0) → k ≡ be16 file 9 → f ≡ free_number file 11 k → b ≡ (f == k)
    → b ≡ path_joins ws file
unfolding path_joins
joins_absent ws file t k f b et z ek ef eb = eq_no _ _ _ _ (λ e. z (rw et e)) (rw (eb, ef, ek))

pub path_more : (ws file : List ℕ) (b : Bool) (size r : Size) → b ≡ path_joins ws file → b ≡ true → r ≡ plus size 0 16 → r ≡ with_path ws file size
unfolding with_path
path_more ws file b size r eb h er = pick_true _ _ _ (rw (← eb) h) er

pub path_same : (ws file : List ℕ) (b : Bool) (size : Size) → b ≡ path_joins ws file → b ≡ false → size ≡ with_path ws file size
unfolding with_path
path_same ws file b size eb h = pick_false _ _ _ (rw (← eb) h) refl
