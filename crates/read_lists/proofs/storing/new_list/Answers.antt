-- `read_lists::storing::new_list` meets its contract: the words of the array found. Assumes nothing.
use mathlib.Core.Path.{refl, ap}
use Prim.Native.Nat.{◌*◌}
use Rattle.blocks.specs.Places.{section_of}
use Rattle.read_lists.proofs.Taking.{new-done, new_short, bytes-fit}
use Rattle.read_lists.proofs.storing.new_list.Goals as goal

pub overflow_mul-SIZE : goal.overflow_mul-SIZE
overflow_mul-SIZE g c =
    rw (c.SIZE.ensures, c.ROW.ensures) (bytes-fit g.met.K.ListKind.few_bytes g.met.K.ListKind.few_words c.ranges.n.fits)

pub returns-in_default : goal.returns-in_default
returns-in_default g c =
    record {
      list =
          new_short g.met.K.Word.Pod.each_number c.args.own.now g.K.ListKind.ROW (rw (c.ROW-2.ensures, c.ROW-3.ensures) refl)
          g.met.K.ListKind.plain_words g.K.Word.Pod.SIZE (g.K.ListKind.ROW * c.args.n) c.SIZE.ensures (ap (λ k. k * c.args.n) c.ROW.ensures)
          (section_of c.args.section) c.args.va c.in_ok-bytes.ensures.answer c.in_ok-bytes.ensures.size c.args.used c.load.ensures.table
          c.in_default.ensures.answer;
    }

pub returns : goal.returns
returns g c =
    record {
      list =
          new-done g.met.K.Word.Pod.each_number c.args.own.now g.K.ListKind.ROW (rw (c.ROW-2.ensures, c.ROW-3.ensures) refl)
          g.met.K.ListKind.plain_words g.K.Word.Pod.SIZE (g.K.ListKind.ROW * c.args.n) c.SIZE.ensures (ap (λ k. k * c.args.n) c.ROW.ensures)
          (section_of c.args.section) c.args.va c.in_ok-bytes.ensures.answer c.in_ok-bytes.ensures.size c.args.used c.load.ensures.table
          c.in-Ok.ensures.answer;
    }
