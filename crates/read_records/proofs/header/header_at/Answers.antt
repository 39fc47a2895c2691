-- `header::header_at` meets its contract: the header of 98 bytes that all stand. Assumes nothing.
use Prim.Native.Nat.{ℕ}
use mathlib.Core.Path.{◌≡◌, refl}
use mathlib.Core.List.{List}
use lib.ListN.{length}
use Rattle.format.specs.Result.{done}
use Rattle.format.specs.Field.{or_zero}
use Rattle.format.specs.Section.{Section, part}
use Rattle.format.specs.Records as format
use Rattle.read_records.specs.Header.{header_in}
use Rattle.read_records.proofs.header.header_at.Goals as goal

headed :
    (s : Section) (root : ℕ) (b : List ℕ) (h : format.Header) → done b ≡ part s root 98 → length b ≡ 98 → h ≡ header_in b →
    done h ≡ format.header s root
unfolding format.header header_in or_zero
headed s root b h e l i = rw (← e) (rw i (rw l refl))

pub returns : goal.returns
returns c =
    record { answer = headed _ _ _ _ c.in_ok-bytes.ensures.answer c.in_ok-bytes.ensures.size c.header_in.ensures }
