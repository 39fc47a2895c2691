-- `read_bones::columns::put_kept` meets its contract. Assumes nothing.
use mathlib.Core.Path.{refl}
use Rattle.std.proofs.Common.{◌+◌, ◌*◌, arith}
use Rattle.fields.proofs.Stores.{written-over}
use Rattle.read_bones.proofs.columns.put_kept.Goals as goal

pub returns : goal.returns
returns c =
    written-over 4 c.args.bones.now (21 * c.args.row + 13) _ refl (omega arith) c.copy_from_slice.ensures.after
