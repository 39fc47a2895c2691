-- The bones of a table of 32-bit words fit their fields, and the front of a buffer of bytes holds bytes. Assumes nothing.
use Prim.Native.Nat.{ℕ, zero, suc, ◌+◌}
use native.Mathlib.Omega.{arith}
use mathlib.Core.Bool.{Bool, true, false}
use mathlib.Core.List.{List, []}
use lib.ListN.{length, take, drop}
use lib.Dec.{leb}
use lib.Seq.{get_or-drop}
use Rattle.format.specs.Field.{which_list, Each}
use Rattle.format.specs.Rows.{bone_width, bone_of, bones_of}
use Rattle.promises.specs.Meaning.{BoneFits}
use Rattle.tables.specs.Front.{front_of}
use Rattle.read_laws.specs.Bytes.{Bytes8}
use Rattle.read_laws.proofs.Growing.{take-bytes}
use Rattle.theorems.specs.Typed.{Words32}

bone-fits : (t : List ℕ) → Words32 t → BoneFits (bone_of t)
unfolding bone_of
bone-fits t h =
    record {
      rotation = (h 0, h 1, h 2, h 3);
      translation = (h 4, h 5, h 6);
      scale = (h 7, h 8, h 9);
      next_sibling = omega arith;
      parent = omega (arith, h 10);
      flags = omega arith;
      index = omega (arith, h 11);
      tag = omega arith;
      kept = (h 13, h 14, h 15, h 16);
    }

drop-words : (n : ℕ) (t : List ℕ) → Words32 t → Words32 (drop n t)
drop-words n t h i = rw (get_or-drop n t i 0) (h (n + i))

pub bones-fit : (n : ℕ) (t : List ℕ) → Words32 t → Each BoneFits (bones_of n t)
unfolding bones_of
bones-fit zero t h = tt
bones-fit (suc n) t h = (bone-fits t h, bones-fit n (drop bone_width t) (drop-words bone_width t h))

pub front_bytes : (n : ℕ) (s : List ℕ) → Bytes8 s → Bytes8 (front_of n s)
unfolding which_list
front_bytes n s h = by (leb n (length s))
  where
    by : (b : Bool) → Bytes8 (which_list b (take n s) [])
    by true = take-bytes n s h
    by false = λ i. omega arith
