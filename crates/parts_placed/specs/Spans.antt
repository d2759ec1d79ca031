-- Bytes that stand from one place to another: what was read there is what is written.
use Rattle.std.specs.Prelude.{ℕ, ◌+◌, ◌-◌, ◌≤◌, ◌≡◌, refl, List, ◌++◌, length, drop}
use Rattle.std.proofs.Common.{sym, ap, ◌∙◌, append_assoc, arith, length-append, length-drop, drop-drop}
use Rattle.std.proofs.Math.Seq.{take-append_seam, drop-append_seam}
use Rattle.words.specs.Choose.{lt_no}
use Rattle.net_file.specs.Read.{Parser}
use Rattle.net_file_laws.specs.Exact.{Exact}
use Rattle.stored.specs.Laws.{Stands}
use Rattle.put.specs.Written.{part}
use Rattle.store.specs.Store.{between}

-- from place a of s to place e stand the bytes xs
pub record Spans (s : List ℕ) (a e : ℕ) (xs : List ℕ) : Type 0 where
  pub end : e ≡ a + length xs
  pub inside : e ≤ length s
  pub is : drop a s ≡ xs ++ drop e s

-- bytes with others after them
pub spans_front : (s : List ℕ) (a : ℕ) (xs r : List ℕ) → a ≤ length s → drop a s ≡ xs ++ r → Spans s a (a + length xs) xs × (r ≡ drop (a + length xs) s)
spans_front s a xs r h e =
    let l : length s - a ≡ length xs + length r = sym (length-drop a s) ∙ ap (λ (l : List ℕ). length l) e ∙ length-append xs r in
    let d : r ≡ drop (a + length xs) s = sym (drop-append_seam xs r) ∙ ap (drop (length xs)) (sym e) ∙ drop-drop (length xs) a s in
    (record { end = refl; inside = omega arith; is = e ∙ ap (λ (q : List ℕ). xs ++ q) d }, d)

-- one part right after another
pub spans_then : (s : List ℕ) (a m e : ℕ) (xs ys : List ℕ) → Spans s a m xs → Spans s m e ys → Spans s a e (xs ++ ys)
spans_then s a m e xs ys p q = record {
  end = let l = length-append xs ys in let i = p.end in let j = q.end in omega arith;
  inside = q.inside;
  is = p.is ∙ ap (λ (r : List ℕ). xs ++ r) q.is ∙ sym (append_assoc xs ys (drop e s));
}

-- they are what a copy takes
pub spans_between : (s : List ℕ) (a e : ℕ) (xs : List ℕ) → Spans s a e xs → between s a e ≡ xs
unfolding between part
spans_between s a e xs p =
    let l : e - a ≡ length xs = let i = p.end in omega arith in
    sym (lt_no (length s) e _ _ p.inside refl) ∙ rw (l, p.is) (take-append_seam xs (drop e s))

-- a value read back where it was written stands there, and ends where its bytes do
pub record Found {A : Type 0} (s : List ℕ) (a : ℕ) (xs r : List ℕ) (x v : A) (e : ℕ) : Type 0 where
  pub value : x ≡ v
  pub spans : Spans s a e xs
  pub rest : r ≡ drop e s

pub found : {A : Type 0} {p : Parser A} {w : A → List ℕ} {F : A → Type 0} (s : List ℕ) (a : ℕ) (x v : A) (e : ℕ) (r : List ℕ) → Exact p w F → F x → Stands s p a v e
    → a ≤ length s → drop a s ≡ w x ++ r → Found s a (w x) r x v e
found {A} {p} {w} s a x v e r exact fits stands h d =
    let y = stands.by x r h (ap p d ∙ exact.reads x fits r) in
    let z = spans_front s a (w x) r h d in
    let i = z.0.inside in
    let l : length s - e ≡ length s - (a + length (w x)) = sym (length-drop e s) ∙ ap (λ (q : List ℕ). length q) (sym y.1 ∙ z.1) ∙ length-drop (a + length (w x)) s in
    let j = y.3 in
    let k : e ≡ a + length (w x) = omega arith in
    record { value = y.0; spans = rw k z.0; rest = y.1 }
