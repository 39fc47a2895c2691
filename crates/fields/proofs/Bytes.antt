-- The library's bytes of a number, the lowest first, are those of `Field`. In order: a number of its bytes; the bytes of a number; lists
-- of known length. Assumes nothing.
use mathlib.Core.Path.{◌≡◌, refl, ap, ◌∙◌}
use mathlib.Core.List.{List, ◌∷◌}
use Prim.Native.Nat.{ℕ, zero, suc, ◌+◌, ◌*◌, ◌^◌, ◌/◌, ◌%◌, ◌<◌}
use native.Mathlib.Nat.{zero-add, mul_comm, pow-zero, pow-suc, div-one, div-div-eq-div-mul}
use native.Mathlib.Omega.{arith}
use lib.ListN.{length, get_or}
use lib.Seq.{take_all}
use Rattle.std.specs.Int.{byte_at, byte_worth, bytes_low_first, sum_through}
use Rattle.format.specs.Field.{value_of, field, bytes}
use Rattle.fields.proofs.Laws.{field-suc, field-add}

-- ---- a number of its bytes

pub sum-field : (k : ℕ) (s : List ℕ) → k < length s → sum_through (λ i. byte_worth i (get_or s i 0)) k ≡ field (suc k) s 0
unfolding value_of
sum-field zero s h = omega (arith, field-suc 0 s 0 h)
sum-field (suc k) s h =
    let e : suc k + 1 ≡ suc (suc k) = omega arith in
    let last : field 1 s (suc k) ≡ get_or s (suc k) 0 = omega (arith, field-suc 0 s (suc k) h) in
    let all : field (suc (suc k)) s 0 ≡ field (suc k) s 0 + 256 ^ suc k * field 1 s (suc k) =
    rw (e, zero-add (suc k)) at (field-add (suc k) 1 s 0 (omega arith)) in
    let one : 256 ^ suc k * field 1 s (suc k) ≡ 256 ^ suc k * get_or s (suc k) 0 = ap (λ x. 256 ^ suc k * x) last in
    omega (arith, all, one, sum-field k s (omega arith), mul_comm (get_or s (suc k) 0) (256 ^ suc k))

-- ---- the bytes of a number

at-byte : (i n : ℕ) → byte_at i n ≡ n / 256 ^ i % 256
at-byte zero n = simp (pow-zero, div-one)
at-byte (suc i) n = refl

low-bytes : (k i n : ℕ) → bytes_low_first i k n ≡ bytes k (n / 256 ^ i)
unfolding bytes
low-bytes zero i n = refl
low-bytes (suc k) i n = rw (at-byte i n) (ap (λ l. n / 256 ^ i % 256 ∷ l) (low-bytes k (suc i) n ∙ simp (pow-suc, div-div-eq-div-mul)))

-- ---- numbers of k + 1 bytes

pub load_lem : (k : ℕ) (s : List ℕ) {r : ℕ} → length s ≡ suc k → r ≡ sum_through (λ i. byte_worth i (get_or s i 0)) k → r ≡ value_of s
load_lem k s n e = e ∙ sum-field k s (omega (arith, n)) ∙ ap value_of (take_all (suc k) s (omega (arith, n)))

pub store_lem : (k n : ℕ) {l d : List ℕ} → l ≡ bytes_low_first 0 k n → d ≡ l → d ≡ bytes k n
store_lem k n e f = f ∙ e ∙ low-bytes k 0 n ∙ simp (pow-zero, div-one)
