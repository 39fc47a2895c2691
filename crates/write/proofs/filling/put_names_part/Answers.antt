-- `write::filling::put_names_part` meets its contract. Assumes nothing.
use mathlib.Core.Path.{sym}
use native.Mathlib.Omega.{arith}
use Rattle.write.proofs.Runs.{part-stored, padded_by}
use Rattle.write.proofs.filling.put_names_part.Goals as goal

pub returns : goal.returns
returns c = record {
  bytes =
      padded_by c.args.d.now c.args.at _ (sym c.requires.counts) c.fill.ensures.answer
      (part-stored _ _ _ _ c.put_names.ensures.bytes c.requires.counts (omega (arith, c.requires.room)))
      c.put_zeros.ensures.bytes;
}
