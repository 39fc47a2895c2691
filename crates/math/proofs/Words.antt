-- Laws of words and floats: a float's word is its bits, back and forth, and what the tests of `float_of` and `word_of` say.
-- `to_bits` itself writes 7FC00000 hex for `nan`, so `word_of` is `to_bits binary32` everywhere (`word-is`).
-- Assumes nothing.
use mathlib.Core.Path.{◌≡◌, refl, sym, ap, ◌∙◌, subst}
use mathlib.Core.Bool.{Bool, not}
use Prim.Native.Nat.{ℕ, ◌%◌, ◌^◌, ◌≤◌, ◌<◌}
use lib.Dec.{T, ltb, lt→ltb}
use borrow.Author.Tests.{le-ltb}
use lib.Ieee.{Float, nan, inf, fin, binary32, fits, is_nan, nan_bits, to_bits}
use lib.Ieee.Bits.{of_bits-to_bits, to_bits-lt, to_bits-of_bits, nan_bits_is, nan_bits_above}
use Rattle.math.specs.Word.{float_of, word_of}

pub word-is : (x : Float) → word_of x ≡ to_bits binary32 x
unfolding word_of to_bits
word-is nan = refl
word-is (inf s) = refl
word-is (fin s m e) = refl

-- ---- which words are a NaN's
-- one comparison of the word without its sign
pub nan_word : (w : ℕ) → nan_bits binary32 w ≡ ltb 0x7F80_0000 (w % 0x8000_0000)
nan_word w = nan_bits_above binary32 w

pub only_nan : (x : Float) → T (is_nan x) → x ≡ nan
unfolding is_nan
only_nan nan t = refl
only_nan (inf s) t = absurd t
only_nan (fin s m e) t = absurd t

pub nan_of_word : (w : ℕ) → T (nan_bits binary32 w) → float_of w ≡ nan
nan_of_word w t = only_nan (float_of w) (subst T (nan_bits_is binary32 w) t)

-- ---- back and forth
pub word_of-float_of : (w : ℕ) → w < 2 ^ 32 → T (not (nan_bits binary32 w)) → word_of (float_of w) ≡ w
word_of-float_of w h k = word-is (float_of w) ∙ to_bits-of_bits binary32 w h (rw nan_bits_is at k)

-- a NaN's word comes back as the one word that is written
pub word_of_nan_word : (w : ℕ) → T (nan_bits binary32 w) → word_of (float_of w) ≡ 0x7FC0_0000
unfolding word_of
word_of_nan_word w t = ap word_of (nan_of_word w t)

pub float_of-word_of : (x : Float) → T (fits binary32 x) → float_of (word_of x) ≡ x
float_of-word_of x h = ap float_of (word-is x) ∙ of_bits-to_bits binary32 x h

pub word_lt : (x : Float) → T (fits binary32 x) → word_of x < 2 ^ 32
word_lt x h = subst (λ (n : ℕ). n < 2 ^ 32) (sym (word-is x)) (to_bits-lt binary32 x h)

-- ---- what the code's tests say
pub above_infinity : (w : ℕ) → 0x7F80_0000 < w % 0x8000_0000 → float_of w ≡ nan
above_infinity w h = nan_of_word w (subst T (sym (nan_word w)) (lt→ltb _ _ h))

pub up_to_infinity : (w : ℕ) → w % 0x8000_0000 ≤ 0x7F80_0000 → T (not (nan_bits binary32 w))
up_to_infinity w h = subst (λ (b : Bool). T (not b)) (sym (nan_word w ∙ le-ltb _ _ h)) tt
