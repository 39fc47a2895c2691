-- `read_lists::storing::copy_list` meets its contract: a part of the other table is stored, or 1. Assumes nothing.
use mathlib.Core.Path.{refl}
use Rattle.read_lists.proofs.Taking.{copies-done, copies-past}
use Rattle.read_lists.proofs.storing.copy_list.Goals as goal

pub returns-in_default : goal.returns-in_default
returns-in_default g c =
    record {
      list =
          copies-past g.met.K.Word.Pod.each_number c.args.own.now g.K.ListKind.ROW (rw (c.ROW.ensures, c.ROW-2.ensures) refl) c.args.other.now
          c.args.stored.first c.args.stored.count c.args.used c.copy.ensures.table c.in_default.ensures.answer;
    }

pub returns : goal.returns
returns g c =
    record {
      list =
          copies-done g.met.K.Word.Pod.each_number c.args.own.now g.K.ListKind.ROW (rw (c.ROW.ensures, c.ROW-2.ensures) refl) c.args.other.now
          c.args.stored.first c.args.stored.count c.args.used c.copy.ensures.table c.in-Ok.ensures.answer;
    }
