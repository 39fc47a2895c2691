-- `cursors::numbers` meets its contract: where they fit, and where not. Assumes nothing.
use mathlib.Core.Path.{◌≡◌, refl, ◌∙◌}
use mathlib.Core.List.{List, ◌++◌}
use Prim.Native.Nat.{ℕ, ◌≤◌, ◌<◌}
use native.Mathlib.Omega.{arith}
use borrow.Author.Tests.{le-leb, lt-leb}
use lib.ListN.{length, drop}
use lib.Seq.{sets-eq}
use Rattle.format.specs.Field.{which_list}
use Rattle.cursors.specs.Turns.{numbers_of, told}
use Rattle.cursors.proofs.numbers.Goals as goal

none_fit : (l d : List ℕ) → length d < 15 → d ≡ told l d
unfolding told which_list
none_fit l d h = rw (lt-leb 15 (length d) h) refl

all_fit : (l d : List ℕ) → length l ≡ 15 → 15 ≤ length d → l ++ drop 15 d ≡ told l d
unfolding told which_list
all_fit l d e h = rw (le-leb 15 (length d) h, sets-eq l d 0 (omega (arith, e)), e) refl

pub returns-then-out-lt-NUMBERS-clause-slice : goal.returns-then-out-lt-NUMBERS-clause-slice
returns-then-out-lt-NUMBERS-clause-slice c = none_fit _ _ c.if-out-lt-NUMBERS.true

-- the numbers written are those of the turns
pub returns-clause-slice : goal.returns-clause-slice
unfolding numbers_of
returns-clause-slice c =
    let same = c.copy_from_slice.ensures.after ∙ rw (c.from.ensures, c.from-2.ensures, c.from-3.ensures, c.from-4.ensures, c.from-5.ensures, c.from-6.ensures, c.from-7.ensures, c.from-8.ensures, c.from-9.ensures, c.from-10.ensures, c.from-11.ensures, c.from-12.ensures, c.status.ensures) c.in_turn-t.ensures.answer in
    rw same (all_fit _ _ (rw (← c.in_turn-t.ensures.answer) refl) c.if-out-lt-NUMBERS.false)
