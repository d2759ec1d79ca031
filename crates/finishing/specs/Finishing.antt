-- Finish on the words and bytes. Level Words. Document 01: "finishing checks 1, 16, 15".
use Rattle.std.specs.Prelude.{ℕ, ◌%◌, Bool, false, ◌≡◌, List, length, take, leb}
use Rattle.std.proofs.Common.{ap}
use Rattle.words.specs.Choose.{pick}
use Rattle.measure.specs.Measure.{measure}
use Rattle.measure.specs.declared.Size.{Size}
use Rattle.write_nodes.specs.Wrote.{Wrote}
use Rattle.finish.specs.Finish.{write}
use Rattle.image.specs.Image.{resumable}
use Rattle.lent.specs.Lent.{room, held_length, zero_words, zero_bytes}
use Rattle.lent.specs.declared.Pools.{Pools}
use Rattle.lent.specs.declared.Answer.{Answer}
use Rattle.lent.specs.declared.Answer.TheVariants.{Done, Refused}

-- a call's answer, and the words, the bytes and the output as they then are
pub record Given : Type 0 where
  pub is : Answer
  pub ws : List ℕ
  pub bs : List ℕ
  pub out : List ℕ

-- a contract's four equations from one
pub four : {x : Given} {a : Answer} {w b o : List ℕ} → record { is = a; ws = w; bs = b; out = o } ≡ x → (a ≡ x.is) × (w ≡ x.ws) × (b ≡ x.bs) × (o ≡ x.out)
four e = (ap (λ t. t.is) e, ap (λ t. t.ws) e, ap (λ t. t.bs) e, ap (λ t. t.out) e)

-- one equation from a contract's four
pub given : (x : Given) {a : Answer} {w b o : List ℕ} → a ≡ x.is → w ≡ x.ws → b ≡ x.bs → o ≡ x.out → record { is = a; ws = w; bs = b; out = o } ≡ x
given x e f g h = λ i. record { is = e i; ws = f i; bs = g i; out = h i }

-- by a call's answer
unfoldable pub on_answer : {A : Type 0} → Answer → (ℕ → A) → (ℕ → A) → A
on_answer (Done n) done refused = done n
on_answer (Refused r) done refused = refused r

-- 15: "output shorter than the result, or over 4,096 nodes in it"
unfoldable pub fits : Size → ℕ → Bool
fits size room = pick (leb size.nodes 4096) (leb size.bytes room) false

-- "a result leaves the output bytes past its end unchanged", a refusal all of them
unfoldable pub run_result : List ℕ → List ℕ → List ℕ → Wrote Answer
run_result ws file out =
    let size = measure ws file in
    let w = write ws file out size.bytes in
    pick (fits size (length out)) (record { is = Done (size.bytes % 4294967296); ws = w.ws; out = w.out })
    (record { is = Refused 15; ws = ws; out = out })

-- a result leaves zeros; "a separate finish's 15 leaves the workspace unchanged"
unfoldable pub delivered : Pools → List ℕ → List ℕ → List ℕ → Given
delivered p ws bs out =
    let k = held_length ws bs in
    let r = run_result ws (take k bs) out in
    on_answer r.is (λ n. record { is = Done n; ws = zero_words p r.ws; bs = zero_bytes k bs; out = r.out })
    (λ n. record { is = Refused n; ws = r.ws; bs = bs; out = r.out })

-- 16, then 15
unfoldable pub finish_image : Pools → List ℕ → List ℕ → List ℕ → Given
finish_image p ws bs out =
    pick (resumable p.nodes p.entries p.waits ws bs) (delivered p ws bs out) (record { is = Refused 16; ws = ws; bs = bs; out = out })

-- 1, "as for no file"
unfoldable pub finish : Pools → List ℕ → List ℕ → List ℕ → Given
finish p ws bs out = pick (room p ws) (finish_image p ws bs out) (record { is = Refused 1; ws = ws; bs = bs; out = out })
