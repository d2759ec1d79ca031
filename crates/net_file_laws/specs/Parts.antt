-- What fits and is therefore read back: paths, names, rules. Document 01, "The net file", and refusal 5.
use Rattle.std.specs.Prelude.{ℕ, zero, suc, ◌/◌, ◌%◌, ◌^◌, ◌<◌, ◌≤◌, ◌≡◌, refl, Bool, true, false, ◌&&◌, List, [], ◌∷◌, ◌++◌, length, T, eqb, leb}
use Rattle.std.proofs.Common.{arith, sym, ap, ◌∙◌, append_assoc, append-nil, leb→le, le→leb}
use Rattle.std.proofs.Math.Option.{some}
use Rattle.net_file.specs.Lists.{bit}
use Rattle.net_file.specs.Values.{Name}
use Rattle.net_file.specs.Read.{byte, read_char, read_path, read_name, read_bit}
use Rattle.net_file.specs.Write.{be, counted, write_path, write_name}
use Rattle.net_file_laws.specs.Bytes.{Bytes, same_value, same_rest, never}
use Rattle.net_file_laws.specs.Exact.{Exact, exact_as, exact_step, exact_give, exact_such, exact_number, exact_below, Each, exact_many}

-- ---- tests

pub both : (s t : Bool) → T s → T t → T (s && t)
both true t x y = y
both false t x y = x

pub each_of : (s t : Bool) → T (s && t) → T s × T t
each_of true t x = (tt, x)
each_of false t x = absurd x

-- ---- paths

pub exact_byte : Exact byte (be 1) (λ b. b < 256)
unfolding byte be
exact_byte = record { reads = λ b h r. let e : b / 1 % 256 ≡ b = omega arith in ap (λ (x : ℕ). some (x, r)) e; writes = read }
  where
    read : (bs : List ℕ) → Bytes bs → (b : ℕ) (r : List ℕ) → byte bs ≡ some (b, r) → (b < 256) × (bs ≡ be 1 b ++ r)
    read [] h b r e = never e
    read (c ∷ bs) h b r e = let l : c < 256 = h 0 in let d : b / 1 % 256 ≡ c = omega (arith, same_value e) in (omega (arith, same_value e), rw (d, same_rest e))

exact_char : Exact read_char (be 1) (λ b. (33 ≤ b) × (b ≤ 126))
unfolding read_char
exact_char =
    exact_as (λ b h. sym (append-nil (be 1 b)))
    (λ b h. (omega arith, (refl, both (leb 33 b) (leb b 126) (le→leb 33 b h.0) (le→leb b 126 h.1))))
    (λ b g. let t = each_of (leb 33 b) (leb b 126) g.1.1 in (leb→le 33 b t.0, leb→le b 126 t.1))
    (exact_step exact_byte (λ b. b) (λ b l. exact_such (leb 33 b && leb b 126) b) (λ b l c g. g.0))

-- 1 to 64 bytes, each 33 to 126
pub record PathFits (p : List ℕ) : Type 0 where
  pub some : 1 ≤ length p
  pub few : length p ≤ 64
  pub bytes : Each (λ b. (33 ≤ b) × (b ≤ 126)) p

pub exact_path : Exact read_path write_path PathFits
unfolding read_path write_path
exact_path =
    exact_as (λ p h. sym (append-nil (counted 1 (be 1) p)))
    (λ p h. ((h.few, h.bytes), (refl, le→leb 1 (length p) h.some)))
    (λ p g. record { some = leb→le 1 (length p) g.1.1; few = g.0.0; bytes = g.0.1 })
    (exact_step (exact_many exact_char 1 64 (omega arith)) (λ p. p) (λ p l. exact_such (leb 1 (length p)) p) (λ p l q g. g.0))

-- ---- names

-- over so many paths, with children below c
pub record NameFits (paths c : ℕ) (m : Name) : Type 0 where
  pub path : m.path < paths
  pub payload : m.payload < 256 ^ 8
  pub few : length m.children ≤ 8
  pub children : Each (λ i. i < c) m.children

pub exact_name : (paths c : ℕ) → paths ≤ 65536 → c ≤ 65536 → Exact (read_name paths c) write_name (NameFits paths c)
unfolding read_name write_name
exact_name paths c hp hc =
    exact_as (λ m h. simp (append_assoc, append-nil))
    (λ m h. (h.path, (h.payload, ((h.few, h.children), refl))))
    (λ m g. record { path = g.0; payload = g.1.0; few = g.1.1.0.0; children = g.1.1.0.1 })
    (exact_step (exact_below 2 paths hp) (λ (m : Name). m.path)
    (λ p h. exact_step (exact_number 8) (λ (m : Name). m.payload)
    (λ y h. exact_step (exact_many (exact_below 2 c hc) 1 8 (omega arith)) (λ (m : Name). m.children)
    (λ cs h. exact_give (record { path = p; payload = y; children = cs }))
    (λ cs h m g. ap (λ (n : Name). n.children) g))
    (λ y h m g. ap (λ (n : Name). n.payload) g.1))
    (λ p h m g. ap (λ (n : Name). n.path) g.1.1))

-- ---- flags

bit_small : (b : Bool) → bit b < 2
bit_small true = omega arith
bit_small false = omega arith

eqb_bit : (b : Bool) → eqb (bit b) 1 ≡ b
eqb_bit true = refl
eqb_bit false = refl

bit_eqb : (n : ℕ) → n < 2 → bit (eqb n 1) ≡ n
bit_eqb zero h = refl
bit_eqb (suc zero) h = refl
bit_eqb (suc (suc n)) h = absurd (omega arith)

-- 0 or 1
pub exact_bit : Exact read_bit (λ b. be 1 (bit b)) (λ b. Unit {0})
unfolding read_bit
exact_bit =
    exact_as (λ b h. sym (append-nil (be 1 (bit b)))) (λ b h. (bit_small b, sym (eqb_bit b))) (λ b g. tt)
    (exact_step (exact_below 1 2 (omega arith)) bit (λ n l. exact_give (eqb n 1)) (λ n l b g. ap bit g ∙ bit_eqb n l))
