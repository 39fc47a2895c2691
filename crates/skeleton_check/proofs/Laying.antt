-- Digits laid from their end towards their start. Assumes nothing.
use Prim.Native.Nat.{ℕ, zero, suc, ◌+◌, ◌-◌, ◌/◌, ◌%◌, ◌≤◌, ◌<◌}
use native.Mathlib.Omega.{arith}
use mathlib.Core.Path.{◌≡◌, refl, sym, ap, ◌∙◌}
use mathlib.Core.List.{List, [], ◌∷◌}
use borrow.Author.Tests.{lt-ltb, le-ltb}
use lib.ListN.{length, set, drop, length-set}
use Rattle.format.specs.Program.{digits_onto}

drop-set : (l : List ℕ) (i v : ℕ) → i < length l → drop i (set l i v) ≡ v ∷ drop (suc i) l
drop-set [] i v h = absurd (omega arith)
drop-set (x ∷ l) zero v h = refl
drop-set (x ∷ l) (suc i) v h = drop-set l i v (omega arith)

-- a byte stored in front of those from `at` on
drop-before : (l : List ℕ) (at v : ℕ) → 0 < at → at ≤ length l → drop (at - 1) (set l (at - 1) v) ≡ v ∷ drop at l
drop-before l zero v p h = absurd (omega arith)
drop-before l (suc i) v p h = let e : suc i - 1 ≡ i = omega arith in rw e (drop-set l i v h)

-- ---- digits

-- `left` more digits of `rest` stand yet to be put in front of the bytes from `at` on
pub record Digits (line₀ : List ℕ) (end n : ℕ) (line : List ℕ) (at left rest : ℕ) : Type 0 where
  pub within : at + 5 ≡ end + left
  pub few : left ≤ 5
  pub room : (5 ≤ end) × (end ≤ length line₀)
  pub same : length line ≡ length line₀
  pub is : digits_onto 5 n (drop end line₀) ≡ digits_onto left rest (drop at line)

pub digits_none : (line : List ℕ) (end n : ℕ) → 5 ≤ end → end ≤ length line → Digits line end n line end 5 n
digits_none line end n h k = record { within = refl; few = omega arith; room = (h, k); same = refl; is = refl }

digits_last : (k n : ℕ) (s : List ℕ) → 0 < k → n < 10 → digits_onto k n s ≡ (48 + n % 10) ∷ s
unfolding digits_onto
digits_last zero n s p h = absurd (omega arith)
digits_last (suc k) n s p h = rw (lt-ltb n 10 h) (let e : n ≡ n % 10 = omega arith in ap (λ (d : ℕ). (48 + d) ∷ s) e)

digits_more : (k n : ℕ) (s : List ℕ) → 0 < k → 10 ≤ n → digits_onto k n s ≡ digits_onto (k - 1) (n / 10) ((48 + n % 10) ∷ s)
unfolding digits_onto
digits_more zero n s p h = absurd (omega arith)
digits_more (suc k) n s p h = let e : suc k - 1 ≡ k = omega arith in rw (le-ltb n 10 h, e) refl

module _ {line₀ line : List ℕ} {end n at left rest : ℕ} (d : Digits line₀ end n line at left rest) (p : 0 < left) where
  abbrev stored : List ℕ
  stored = set line (at - 1) (48 + rest % 10)

  front : drop (at - 1) stored ≡ (48 + rest % 10) ∷ drop at line
  front =
      drop-before line at (48 + rest % 10) (omega (arith, d.within, d.few, d.room.0)) (omega (
        arith,
        d.within,
        d.few,
        d.room.1,
        d.same,
      ))

  pub digits_ends : rest < 10 → drop (at - 1) stored ≡ digits_onto 5 n (drop end line₀)
  digits_ends h = front ∙ sym (d.is ∙ digits_last left rest (drop at line) p h)

  pub digits_on : 10 ≤ rest → Digits line₀ end n stored (at - 1) (left - 1) (rest / 10)
  digits_on h =
      record {
        within = omega (arith, d.within, d.few, d.room.0);
        few = omega (arith, d.few);
        room = d.room;
        same = length-set line (at - 1) (48 + rest % 10) ∙ d.same;
        is = d.is ∙ digits_more left rest (drop at line) p h ∙ ap (digits_onto (left - 1) (rest / 10)) (sym front);
      }

pub digits_all :
    {line₀ line : List ℕ} {end n at left rest : ℕ} → Digits line₀ end n line at left rest → left ≤ 0 →
    drop at line ≡ digits_onto 5 n (drop end line₀)
unfolding digits_onto
digits_all {left = zero} d h = sym d.is
digits_all {left = suc k} d h = absurd (omega arith)
