-- Big-endian numbers at a place of a list of bytes; past the end a byte is 0.
use Rattle.std.specs.Prelude.{ℕ, ◌+◌, ◌*◌, ◌-◌, ◌<◌, ◌≤◌, ◌≡◌, List, length, get_or}
use Rattle.std.proofs.Common.{arith}
use Rattle.std.proofs.Math.ListN.{get_or-eq_default}

abbrev pub byte : List ℕ → ℕ → ℕ
byte s at = get_or s at 0

abbrev pub be16 : List ℕ → ℕ → ℕ
be16 s at = 256 * byte s at + byte s (at + 1)

abbrev pub be32 : List ℕ → ℕ → ℕ
be32 s at = 16777216 * byte s at + 65536 * byte s (at + 1) + 256 * byte s (at + 2) + byte s (at + 3)

abbrev pub be64 : List ℕ → ℕ → ℕ
be64 s at = 4294967296 * be32 s at + be32 s (at + 4)

-- past the end
pub byte_past : (s : List ℕ) (at : ℕ) → length s ≤ at → byte s at ≡ 0
byte_past s at h = get_or-eq_default s 0 h

pub be16_past : (s : List ℕ) (at : ℕ) → length s ≤ at → be16 s at ≡ 0
be16_past s at h = omega (arith, byte_past s at h, byte_past s (at + 1) (omega arith))

pub be32_past : (s : List ℕ) (at : ℕ) → length s ≤ at → be32 s at ≡ 0
be32_past s at h =
    omega (arith, byte_past s at h, byte_past s (at + 1) (omega arith), byte_past s (at + 2) (omega arith), byte_past s (at + 3) (omega arith))

pub be64_past : (s : List ℕ) (at : ℕ) → length s ≤ at → be64 s at ≡ 0
be64_past s at h = omega (arith, be32_past s at h, be32_past s (at + 4) (omega arith))

-- the slice ends within the number
pub be16_end : (s : List ℕ) (at b : ℕ) → length s - at < 2 → b ≡ byte s at → 256 * b ≡ be16 s at
be16_end s at b h e = omega (arith, byte_past s (at + 1) (omega arith))

pub be32_end : (s : List ℕ) (at x : ℕ) → length s - at < 3 → x ≡ be16 s at → 65536 * x ≡ be32 s at
be32_end s at x h e = omega (arith, byte_past s (at + 2) (omega arith), byte_past s (at + 3) (omega arith))

pub be32_halves : (s : List ℕ) (at x y : ℕ) → x ≡ be16 s at → y ≡ be16 s (at + 2) → 65536 * x + y ≡ be32 s at
be32_halves s at x y e f =
    let j : at + 2 + 1 ≡ at + 3 = omega arith in
    let g : y ≡ 256 * byte s (at + 2) + byte s (at + 3) = rw j at f in
    omega arith

pub be64_end : (s : List ℕ) (at x : ℕ) → length s - at < 5 → x ≡ be32 s at → 4294967296 * x ≡ be64 s at
be64_end s at x h e = omega (arith, be32_past s (at + 4) (omega arith))
