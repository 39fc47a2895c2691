-- A name that the writer lays is found where it lies: up to its zero, with its length and its bytes (docs/FORMAT.md, "Records").
-- Assumes nothing.
use mathlib.Core.Path.{◌≡◌, refl, ap, ◌∙◌}
use Prim.Native.Nat.{ℕ, ◌+◌, ◌<◌}
use native.Mathlib.Omega.{arith}
use mathlib.Core.Bool.{Bool, true, false, not, ◌&&◌}
use Rattle.std.specs.Prelude.{Option, None, Some}
use mathlib.Core.List.{[], ◌∷◌, ◌++◌}
use lib.ListN.{length, length-append}
use lib.Seq.{take_at}
use lib.Dec.{T, eqb}
use Rattle.format.specs.Result.{done}
use Rattle.format.specs.Section.{Place, window, stop_at, until_zero, name_at, name_bytes}
use Rattle.format.specs.Bone.{map_name}
use Rattle.format.specs.Layout.{Bytes, base, ended_name}
use Rattle.format.specs.Write.{no_zero}
use Rattle.format.proofs.Parts.{At, at-fits, at_drop, at_take, alone, cursor-system, part-system}

abbrev place : ℕ → ℕ → Place
place at n = record { address = at; size = n }

-- some bytes as a name at an address
abbrev pub placed : ℕ → Bytes → Place
placed at s = place at (length s)

-- a name without a zero ends at the zero behind it
until_zero_ended : (s rest : Bytes) → T (no_zero s) → until_zero ((s ++ (0 ∷ [])) ++ rest) ≡ s
unfolding until_zero no_zero
until_zero_ended [] rest h = refl
until_zero_ended (b ∷ s) rest h = go (eqb b 0) h (until_zero_ended s rest)
  where
    go :
        (x : Bool) → T (not x && no_zero s) → (T (no_zero s) → until_zero ((s ++ (0 ∷ [])) ++ rest) ≡ s) →
        stop_at x b (until_zero ((s ++ (0 ∷ [])) ++ rest)) ≡ b ∷ s
    go true k ih = absurd k
    go false k ih = ap {B = Bytes} (λ l. b ∷ l) (ih k)

module _ (sys gfx : Bytes) (small : length sys < window) where
  -- a name where it was laid: it is found with its length, and its bytes are those laid
  pub name_back :
      (off : ℕ) (s : Bytes) → T (no_zero s) → At sys off (ended_name (Some s)) →
      name_at (alone sys gfx) (base + off) ≡ done (placed (base + off) s)
  unfolding name_at ended_name
  name_back off s h a =
      let f = at-fits a in
      rw (cursor-system sys gfx off (omega (arith, length-append s (0 ∷ []))) (omega arith))
      (ap (λ l. done (place (base + off) (length l))) (ap until_zero (at_drop a) ∙ until_zero_ended s a.back h))

  bytes_back : (off : ℕ) (s : Bytes) → At sys off (s ++ (0 ∷ [])) → name_bytes (alone sys gfx) (placed (base + off) s) ≡ s
  unfolding name_bytes
  bytes_back off s a =
      let n = length-append s (0 ∷ []) in
      rw (part-system sys gfx off (length s) (omega (arith, at-fits a, n)) (omega (arith, at-fits a, n)))
      (at_take (length s) a (omega (arith, n)) ∙ take_at s (0 ∷ []) (length s) refl)

  -- with a name or without
  pub optional_back :
      (off : ℕ) (nm : Option Bytes) → At sys off (ended_name nm) →
      map_name (name_bytes (alone sys gfx)) (map_name (placed (base + off)) nm) ≡ nm
  unfolding ended_name
  optional_back off None a = refl
  optional_back off (Some s) a = ap Some (bytes_back off s a)
