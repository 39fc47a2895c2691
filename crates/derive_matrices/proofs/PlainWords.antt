-- Laws of words that are no NaN's: they may be taken as they stand. Assumes nothing.
use Prim.Native.Nat.{ℕ}
use mathlib.Core.Bool.{not}
use lib.Dec.{T}
use lib.Ieee.{binary32, nan_bits}
use borrow.Author.Tests.{leb-true}
use Rattle.math.proofs.Words.{up_to_infinity}
use Rattle.derive_matrices.specs.Walking.{Plain}

pub plain_word : (w : ℕ) → Plain w → T (not (nan_bits binary32 w))
plain_word w e = up_to_infinity w (leb-true _ _ e)
